-- What the end of a block takes off is what its last instruction's branches to the next block have.
use Rattle.std.specs.Prelude.{slice_get}
use Rattle.std.proofs.Common.{length, suc, ◌≡◌, ℕ, ◌+◌, ◌-◌, List, [], ◌∷◌, ◌++◌, Option, Some, None, Bool, true, false, cond, ◌&&◌, nat_eq, refl, sym, ap, ◌∙◌, subst, arith}
use Rattle.s390x_base.specs.declared.ir.MachLabel.{MachLabel}
use Rattle.s390x_base.specs.declared.ir.ValueType.{ValueType}
use Rattle.s390x_base.specs.declared.ir.ValueType.TheVariants.{I8X8}
use Rattle.s390x_base.specs.declared.regs.Reg.{Reg}
use Rattle.s390x_inst.specs.Constructors.{load_of}
use Rattle.s390x_inst.specs.Emission.{Emission}
use Rattle.s390x_inst.specs.Frames.{epilogue}
use Rattle.s390x_inst.specs.declared.args.MemArg.{MemArg}
use Rattle.s390x_inst.specs.declared.args.MemArg.TheVariants.{OutgoingArgOffset}
use Rattle.s390x_inst.specs.declared.calls.CallInfo.{CallInfo}
use Rattle.s390x_inst.specs.declared.calls.CallRetPair.{CallRetPair}
use Rattle.s390x_inst.specs.declared.calls.RetLocation.{RetLocation}
use Rattle.s390x_inst.specs.declared.calls.RetLocation.TheVariants.{Stack}
use Rattle.s390x_inst.specs.declared.calls.TryCallInfo.{TryCallInfo}
use Rattle.s390x_inst.specs.declared.inst.Inst.{Inst}
use Rattle.s390x_inst.specs.declared.inst.Inst.TheVariants as I
use Rattle.s390x_inst.specs.declared.state.IsaFlags.{IsaFlags}
use Rattle.s390x_typed_steps.specs.Baseline.{whole_or_loaded, tree_for}
use Rattle.s390x_typed_steps.specs.Calls.{wholes, load_or, load_before, load_bodies, behind_call, result_bodies, continuation_bodies, calling, safepoint, jump_target, loses_target}
use Rattle.s390x_typed_steps.specs.Folding.{body_with_remainder, fold, folded_members, folded_before}
use Rattle.s390x_typed_steps.specs.Memory.{memory, accesses_relative}
use Rattle.s390x_typed_steps.specs.Resolved.{resolved_instruction}
use Rattle.s390x_typed_steps.specs.Sizes.{tree_size}
use Rattle.s390x_typed_steps.specs.Stack.{state_after}
use Rattle.s390x_typed_steps.specs.Tree.{StepBody, NothingLeft, BranchLeft, Tree, Whole, CallStep, TailOpening, TailJump, empty, leaf, leaves, loop_node, prepend, block_tree}
use Rattle.s390x_typed_steps.proofs.Baseline.{for_prepend}
use Rattle.s390x_typed_steps.proofs.CallRows.{call_stays as call_steps, tail_stays as tail_steps}
use Rattle.s390x_typed_steps.proofs.Trees.{joined, joined_size}
use Rattle.s390x_emit_int.specs.BlockEnds.{bytes_to, continuation_bytes, instruction_bytes, last_bytes}
use Rattle.s390x_emit_int.specs.Members.{member_of, block_members_of}

-- there is a last step
abbrev pub IsFull : Tree → Type 0
IsFull empty = ⊥
IsFull t = Unit {0}

pub folded_joined : (next : ℕ) (t u : Tree) → IsFull u → folded_members next (joined t u) ≡ joined t (folded_members next u)
folded_joined next empty u full = refl
folded_joined next (leaf b empty) empty full = absurd full
folded_joined next (leaf b empty) (leaf c rest) full = refl
folded_joined next (leaf b empty) (loop_node mask members rest) full = refl
folded_joined next (leaf b (leaf c rest)) u full = ap (leaf b) (folded_joined next (leaf c rest) u full)
folded_joined next (leaf b (loop_node mask members rest)) u full = ap (leaf b) (folded_joined next (loop_node mask members rest) u full)
folded_joined next (loop_node mask members rest) u full = ap (loop_node mask members) (folded_joined next rest u full)

-- so many bytes are taken off a tree
abbrev Takes : (next n : ℕ) → Tree → Type 0
Takes next n t = tree_size (folded_members next t) + n ≡ tree_size t

takes_joined : (next n : ℕ) (t u : Tree) → IsFull u → Takes next n u → Takes next n (joined t u)
takes_joined next n t u full h = omega (arith, ap tree_size (folded_joined next t u full), joined_size t (folded_members next u), joined_size t u, h)

-- ---- one instruction

jump_takes : (next : ℕ) (dest : MachLabel) (t : Bool) → tree_size (leaf (body_with_remainder (cond t (Some NothingLeft) None) (I.Jump dest)) empty) + cond t 6 0 ≡ tree_size (leaf (Whole (I.Jump dest)) empty)
jump_takes next dest true = refl
jump_takes next dest false = refl

choice_takes : (taken not_taken : MachLabel) (mask : ℕ) (u t : Bool) →
    tree_size (leaf (body_with_remainder (cond u (cond t (Some NothingLeft) (Some (BranchLeft mask taken.0))) (cond t (Some (BranchLeft (15 - mask) not_taken.0)) None)) (I.CondBr taken not_taken mask)) empty) + (cond t 6 0 + cond u 6 0)
    ≡ tree_size (leaf (Whole (I.CondBr taken not_taken mask)) empty)
choice_takes taken not_taken mask true true = refl
choice_takes taken not_taken mask true false = refl
choice_takes taken not_taken mask false true = refl
choice_takes taken not_taken mask false false = refl

-- steps none of which is folded
abbrev AllStay : (next : ℕ) → List StepBody → Type 0
AllStay next [] = Unit {0}
AllStay next (b ∷ bs) = (fold next b ≡ b) × AllStay next bs

stay_append : (next : ℕ) (a b : List StepBody) → AllStay next a → AllStay next b → AllStay next (a ++ b)
stay_append next [] b h k = k
stay_append next (x ∷ a) b h k = (h.0, stay_append next a b h.1 k)

leaves_stay : (next : ℕ) (bs : List StepBody) → AllStay next bs → folded_members next (leaves bs empty) ≡ leaves bs empty
leaves_stay next [] h = refl
leaves_stay next (b ∷ []) h = ap (λ c. leaf c empty) h.0
leaves_stay next (b ∷ (c ∷ bs)) h = ap (leaf b) (leaves_stay next (c ∷ bs) h.1)

load_stays : (next : ℕ) (e : Emission) (rd : Reg) (mem : MemArg) (ty : ValueType) → fold next (load_or e (load_of rd mem ty)) ≡ load_or e (load_of rd mem ty)
load_stays next e rd mem I8X8 = refl
load_stays next e rd mem ty = refl

loads_stay : (next : ℕ) (e : Emission) (ds : List CallRetPair) → AllStay next (load_bodies e ds)
loads_stay next e [] = tt
loads_stay next e (d ∷ ds) = go d.location (loads_stay next e ds)
  where
    go : (l : RetLocation) → AllStay next (load_bodies e ds) → AllStay next (load_before e d.vreg l (load_bodies e ds))
    go (Stack off ty) later = (load_stays next e d.vreg (OutgoingArgOffset off) ty, later)
    go l later = later

results_stay : (next : ℕ) (e : Emission) (info : CallInfo) → AllStay next (result_bodies e info)
results_stay next e info = go info.patchable
  where
    go : (p : Bool) → AllStay next (cond p [] (load_bodies (behind_call e info.callee_pop_size) info.defs.items))
    go true = tt
    go false = loads_stay next (behind_call e info.callee_pop_size) info.defs.items

leaves_joined : (a b : List StepBody) → leaves (a ++ b) empty ≡ joined (leaves a empty) (leaves b empty)
leaves_joined [] b = refl
leaves_joined (x ∷ a) b = ap (leaf x) (leaves_joined a b)

-- The call with its loads, and then the jump of its try. The rest of the list is that of `bodies`
call_takes : (next : ℕ) (own : List StepBody) (t : Option TryCallInfo) → AllStay next own → Takes next (continuation_bytes (Some next) t) (leaves (own ++ continuation_bodies t) empty)
call_takes next own None stay =
    let same = leaves_stay next (own ++ []) (stay_append next own [] stay tt) in
    omega (arith, ap tree_size same)
call_takes next own (Some t) stay =
    let jump = leaf (Whole (I.Jump t.continuation)) empty in
    subst (λ u. Takes next (bytes_to (Some next) t.continuation.0) u) (sym (leaves_joined own (Whole (I.Jump t.continuation) ∷ [])))
    (takes_joined next (bytes_to (Some next) t.continuation.0) (leaves own empty) jump tt (jump_takes next t.continuation (nat_eq t.continuation.0 next)))

tail_stays : (next : ℕ) (e : Emission) (own : List StepBody) (last : StepBody) → fold next last ≡ last → Takes next 0 (leaves (own ++ last ∷ []) empty)
tail_stays next e own last stays =
    subst (λ u. Takes next 0 u) (sym (leaves_joined own (last ∷ []))) (takes_joined next 0 (leaves own empty) (leaf last empty) tt (omega (arith, ap (λ b. tree_size (leaf b empty)) stays)))

-- what neither is folded nor draws from the branches' bytes stays, on each machine
whole_takes : (flags : IsaFlags) (next : ℕ) (i : Inst) → fold next (Whole i) ≡ Whole i → Takes next 0 (tree_for flags (leaf (Whole i) empty))
whole_takes flags next i stays = go (accesses_relative (memory i) && flags.no_relative_memory)
  where
    go : (t : Bool) → Takes next 0 (leaf (whole_or_loaded t i) empty)
    go false = omega (arith, ap (λ b. tree_size (leaf b empty)) stays)
    go true = omega arith

member_takes : (flags : IsaFlags) (next : ℕ) (e : Emission) (i : Inst) → Takes next (instruction_bytes (Some next) i) (tree_for flags (prepend e i empty))
member_takes flags next e (I.Loop' mask body all) = omega arith
member_takes flags next e (I.Jump dest) = jump_takes next dest (nat_eq dest.0 next)
member_takes flags next e (I.CondBr taken not_taken mask) = choice_takes taken not_taken mask (nat_eq not_taken.0 next) (nat_eq taken.0 next)
member_takes flags next e (I.Call link info) =
    subst (λ u. Takes next (continuation_bytes (Some next) info.try_call_info) u) (sym (call_steps flags e link info))
    (call_takes next (CallStep (calling e link info) ∷ result_bodies e info) info.try_call_info (refl, results_stay next e info))
member_takes flags next e (I.ReturnCall info) =
    subst (λ u. Takes next 0 u) (sym (tail_steps flags e info.callee_pop_size info.dest))
    (tail_stays next e (TailOpening info.dest e.layout.first_saved_gpr (loses_target e.layout info.callee_pop_size info.dest) ∷ wholes e (epilogue e.layout info.callee_pop_size info.dest)) (TailJump (jump_target info.dest)) refl)
member_takes flags next e i = whole_takes flags next (resolved_instruction e i) refl

-- ---- the members of a block

full_member : (flags : IsaFlags) (e : Emission) (i : Inst) (rest : Tree) → IsFull (tree_for flags (prepend e i rest))
full_member flags e (I.Loop' mask body all) rest = tt
full_member flags e (I.Call link info) rest = tt
full_member flags e (I.ReturnCall info) rest = tt
full_member flags e i rest = tt

block_takes : (flags : IsaFlags) (next : ℕ) (e : Emission) (is : List Inst) → Takes next (last_bytes (Some next) is) (block_members_of flags e is)
block_takes flags next e [] = refl
block_takes flags next e (i ∷ []) = member_takes flags next (safepoint e i) i
block_takes flags next e (i ∷ (j ∷ is)) =
    let behind = state_after e i in
    let rest = block_members_of flags behind (j ∷ is) in
    subst (λ u. Takes next (last_bytes (Some next) (j ∷ is)) u) (sym (for_prepend flags (safepoint e i) i (block_tree behind (j ∷ is))))
    (takes_joined next (last_bytes (Some next) (j ∷ is)) (member_of flags (safepoint e i) i) rest (full_member flags (safepoint behind j) j (block_tree (state_after behind j) is)) (block_takes flags next behind (j ∷ is)))

none_taken : (is : List Inst) → last_bytes None is ≡ 0
none_taken [] = refl
none_taken (i ∷ []) = go i
  where
    continuation : (t : Option TryCallInfo) → continuation_bytes None t ≡ 0
    continuation None = refl
    continuation (Some t) = refl

    go : (i : Inst) → instruction_bytes None i ≡ 0
    go (I.Call link info) = continuation info.try_call_info
    go i = refl
none_taken (i ∷ (j ∷ is)) = none_taken (j ∷ is)

-- before the next block, if there is one
pub end_takes : (flags : IsaFlags) (next : Option ℕ) (e : Emission) (is : List Inst) → tree_size (folded_before next (block_members_of flags e is)) + last_bytes next is ≡ tree_size (block_members_of flags e is)
end_takes flags None e is = omega (arith, none_taken is)
end_takes flags (Some next) e is = block_takes flags next e is

-- the last instruction of some decides
pub last_is : (next : Option ℕ) (is : List Inst) (i : Inst) → Some i ≡ slice_get is (length is - 1) → instruction_bytes next i ≡ last_bytes next is
last_is next [] i e = absurd (cc)
last_is next (j ∷ []) i e =
    let one : length (j ∷ []) - 1 ≡ 0 = omega arith in
    let own : Some i ≡ Some j = e ∙ ap (slice_get (j ∷ [])) one in
    let same : i ≡ j = cc in
    ap (instruction_bytes next) same
last_is next (j ∷ (k ∷ is)) i e =
    let behind : length (j ∷ (k ∷ is)) - 1 ≡ suc (length (k ∷ is) - 1) = omega arith in
    last_is next (k ∷ is) i (e ∙ ap (slice_get (j ∷ (k ∷ is))) behind)
