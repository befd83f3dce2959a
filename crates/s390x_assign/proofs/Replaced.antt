-- What an instruction with its registers reports: the operands before, each replaced by its register.
use Rattle.std.proofs.Common.{◌≡◌, ℕ, ◌+◌, ◌-◌, min, map, List, [], ◌∷◌, ◌++◌, drop, Option, Some, None, refl, sym, ap, ◌∙◌, arith}
use Rattle.std.specs.List.{range_with_len}
use Rattle.std.proofs.lemmas.List.{append_assoc, append-nil, drop-drop}
use Rattle.s390x_base.specs.Registers.{RealRegister}
use Rattle.s390x_base.specs.declared.regs.Reg.{Reg}
use Rattle.s390x_base.specs.declared.regs.Reg.TheVariants.{Real, Virtual}
use Rattle.s390x_base.specs.declared.regs.RegPair.{RegPair}
use Rattle.s390x_base.specs.declared.regs.WritableRegPair.{WritableRegPair}
use Rattle.s390x_base.specs.declared.sets.PRegSet.{PRegSet}
use Rattle.s390x_inst.specs.declared.args.MemArg.{MemArg}
use Rattle.s390x_inst.specs.declared.args.MemArg.TheVariants.{BXD12, BXD20, RegOffset}
use Rattle.s390x_inst.specs.declared.calls.ArgPair.{ArgPair}
use Rattle.s390x_inst.specs.declared.calls.CallArgPair.{CallArgPair}
use Rattle.s390x_inst.specs.declared.calls.CallInfo.{CallInfo}
use Rattle.s390x_inst.specs.declared.calls.CallInstDest.{CallInstDest}
use Rattle.s390x_inst.specs.declared.calls.CallInstDest.TheVariants.{Direct, Indirect}
use Rattle.s390x_inst.specs.declared.calls.CallRetPair.{CallRetPair}
use Rattle.s390x_inst.specs.declared.calls.RetLocation.{RetLocation}
use Rattle.s390x_inst.specs.declared.calls.RetLocation.TheVariants.{Reg as InReg, Stack}
use Rattle.s390x_inst.specs.declared.calls.RetPair.{RetPair}
use Rattle.s390x_inst.specs.declared.inst.Inst.{Inst, Row_of-Inst, end_of-Inst, more_of-Inst}
use Rattle.s390x_inst.specs.declared.inst.Inst.TheVariants as I
use Rattle.s390x_inst.specs.declared.vec_inst.VecInst.{VecInst}
use Rattle.s390x_inst.specs.declared.vec_inst.VecInst.TheVariants.{VecMov}
use Rattle.s390x_inst.specs.Portions.{Portion, plain, indirect_branch, jump_table, calling, tail_calling, arguments, results, opening, closing, first_portion, portions, row_portions}
use Rattle.s390x_described.specs.Instructions.{description_of, described_vector}
use Rattle.s390x_described.specs.Roles.{Role, Written, Tied, Read, WrittenPair, LowRead, ReadPair, InMemory, Described, each_role}
use Rattle.s390x_operands.specs.declared.constraint.Reported.{Reported}
use Rattle.s390x_operands.specs.declared.constraint.Reported.TheVariants.{Operand, Fixed, Clobbers}
use Rattle.s390x_operands.specs.Calls.{placed_use, placed_def, destination_requests, argument, result_in, call_result, reported_argument, reported_result, reported_clobbers}
use Rattle.s390x_operands.specs.Operands.{leaf_requests, vector_requests, requests, row_requests, operands}
use Rattle.s390x_operands.specs.Requests.{items_of, reported_use, reported_def, reported_reuse, fixed_use, fixed_def, scratch_request, memory_requests, fixed_general, range_requests}
use Rattle.s390x_operands.proofs.Reporting.{items-append}
use Rattle.s390x_assign.specs.Assignments.{operand_at, register_at, after, placed_at, after_placed, pair_at, dividend_at, memory_at, assigned_role, each_at, assigned_vector, destination_at, argument_at, result_at, call_result_at, incoming_at, outgoing_at, portion_at, assigned_portions, reported_again, replaced_operands, operand_count}

-- requests become others, whose operands are replaced by the next registers of a list; so much is left of it
record Follows (xs ys : List (Option Reported)) (s t : List Reg) : Type 0 where
  items : items_of ys ≡ replaced_operands (items_of xs) s
  left : t ≡ drop (operand_count (items_of xs)) s

count_append : (xs ys : List Reported) → operand_count (xs ++ ys) ≡ operand_count xs + operand_count ys
count_append [] ys = omega arith
count_append (Operand reg constraint kind pos ∷ xs) ys = let h : operand_count (xs ++ ys) ≡ operand_count xs + operand_count ys = count_append xs ys in omega arith
count_append (Fixed p ∷ xs) ys = count_append xs ys
count_append (Clobbers regs ∷ xs) ys = count_append xs ys

drop_more : (n : ℕ) (s : List Reg) → drop n (drop 1 s) ≡ drop (n + 1) s
drop_more n s =
    let c : 1 + n ≡ n + 1 = omega arith in
    drop-drop n 1 s ∙ ap (λ m. drop m s) c

replaced_append : (xs ys : List Reported) (s : List Reg) → replaced_operands (xs ++ ys) s ≡ replaced_operands xs s ++ replaced_operands ys (drop (operand_count xs) s)
replaced_append [] ys s = refl
replaced_append (Operand reg constraint kind pos ∷ xs) ys s =
    ap (λ zs. reported_again (operand_at reg s) constraint kind pos ∷ zs) (replaced_append xs ys (drop 1 s) ∙ ap (λ t. replaced_operands xs (drop 1 s) ++ replaced_operands ys t) (drop_more (operand_count xs) s))
replaced_append (Fixed p ∷ xs) ys s = ap (λ zs. Fixed p ∷ zs) (replaced_append xs ys s)
replaced_append (Clobbers regs ∷ xs) ys s = ap (λ zs. Clobbers regs ∷ zs) (replaced_append xs ys s)

-- requests one behind the other
both : {xs ys xs' ys' : List (Option Reported)} {s t u : List Reg} → Follows xs ys s t → Follows xs' ys' t u → Follows (xs ++ xs') (ys ++ ys') s u
both {xs = xs} {ys = ys} {xs' = xs'} {ys' = ys'} {s = s} {t = t} {u = u} p q =
    let n : operand_count (items_of (xs ++ xs')) ≡ operand_count (items_of xs) + operand_count (items_of xs') = ap operand_count (items-append xs xs') ∙ count_append (items_of xs) (items_of xs') in
    record {
      items =
          items-append ys ys'
          ∙ ap (λ zs. zs ++ items_of ys') p.items
          ∙ ap (λ zs. replaced_operands (items_of xs) s ++ zs) q.items
          ∙ ap (λ r. replaced_operands (items_of xs) s ++ replaced_operands (items_of xs') r) p.left
          ∙ sym (replaced_append (items_of xs) (items_of xs') s)
          ∙ ap (λ zs. replaced_operands zs s) (sym (items-append xs xs'));
      left =
          q.left
          ∙ ap (λ r. drop (operand_count (items_of xs')) r) p.left
          ∙ drop-drop (operand_count (items_of xs')) (operand_count (items_of xs)) s
          ∙ ap (λ m. drop m s) (sym n);
    }

next : {x y : Option Reported} {xs ys : List (Option Reported)} {s t u : List Reg} → Follows (x ∷ []) (y ∷ []) s t → Follows xs ys t u → Follows (x ∷ xs) (y ∷ ys) s u
next p q = both p q

none : (s : List Reg) → Follows [] [] s s
none s = record { items = refl; left = refl }

fixed : (p : RealRegister) (s : List Reg) → Follows (Some (Fixed p) ∷ []) (Some (Fixed p) ∷ []) s s
fixed p s = record { items = refl; left = refl }

scratch : (s : List Reg) → Follows (scratch_request ∷ []) (scratch_request ∷ []) s s
scratch s = record { items = refl; left = refl }

-- a register of its own constraint
used_one : (r : Reg) (s : List Reg) → Follows (reported_use r ∷ []) (reported_use (register_at r s) ∷ []) s (after r s)
used_one (Real p) s = record { items = refl; left = refl }
used_one (Virtual n c) s = record { items = refl; left = refl }

defined_one : (r : Reg) (s : List Reg) → Follows (reported_def r ∷ []) (reported_def (register_at r s) ∷ []) s (after r s)
defined_one (Real p) s = record { items = refl; left = refl }
defined_one (Virtual n c) s = record { items = refl; left = refl }

reused_one : (r : Reg) (s : List Reg) → Follows (reported_reuse r ∷ []) (reported_reuse (register_at r s) ∷ []) s (after r s)
reused_one (Real p) s = record { items = refl; left = refl }
reused_one (Virtual n c) s = record { items = refl; left = refl }

-- memory
with_memory : (m : MemArg) (s : List Reg) → Follows (memory_requests m) (memory_requests (memory_at m s).0) s (memory_at m s).1
with_memory (BXD12 base index disp flags) s = next (used_one base s) (next (used_one index (after base s)) (scratch (after index (after base s))))
with_memory (BXD20 base index disp flags) s = next (used_one base s) (next (used_one index (after base s)) (scratch (after index (after base s))))
with_memory (RegOffset reg off flags) s = next (used_one reg s) (scratch (after reg s))
with_memory m s = scratch s

-- pairs
pair_out : (d : WritableRegPair) (s : List Reg) → Follows (fixed_def d.hi 2 ∷ fixed_def d.lo 3 ∷ []) (fixed_def (pair_at d s).hi 2 ∷ fixed_def (pair_at d s).lo 3 ∷ []) s (drop 2 s)
pair_out d s = record { items = refl; left = refl }

pair_in : (d : RegPair) (s : List Reg) → Follows (fixed_use d.hi 2 ∷ fixed_use d.lo 3 ∷ []) (fixed_use (dividend_at d s).hi 2 ∷ fixed_use (dividend_at d s).lo 3 ∷ []) s (drop 2 s)
pair_in d s = record { items = refl; left = refl }

low_in : (r : Reg) (s : List Reg) → Follows (fixed_use r 3 ∷ []) (fixed_use (operand_at r s) 3 ∷ []) s (drop 1 s)
low_in r s = record { items = refl; left = refl }

-- ranges of registers
numbers : (ns : List ℕ) (s : List Reg) → Follows (map fixed_general ns) (map fixed_general ns) s s
numbers [] s = none s
numbers (n ∷ ns) s = next (fixed _ s) (numbers ns s)

missing : (s : List Reg) → Follows (None ∷ []) (None ∷ []) s s
missing s = record { items = refl; left = refl }

range : (a b : Reg) (s : List Reg) → Follows (range_requests a b) (range_requests a b) s s
range (Real p) (Real q) s = numbers (range_with_len p.number (min (q.number + 1) 16 - p.number)) s
range (Real p) (Virtual n c) s = missing s
range (Virtual n c) b s = missing s

-- calls, arguments and results
target : (d : CallInstDest) (s : List Reg) → Follows (destination_requests d) (destination_requests (destination_at d s).0) s (destination_at d s).1
target (Direct name) s = none s
target (Indirect reg) s = used_one reg s

use_one : (r p : Reg) (s : List Reg) → Follows (placed_use r p ∷ []) (placed_use (placed_at p r s) p ∷ []) s (after_placed p s)
use_one r (Real p) s = record { items = refl; left = refl }
use_one r (Virtual n c) s = missing s

def_one : (r p : Reg) (s : List Reg) → Follows (placed_def r p ∷ []) (placed_def (placed_at p r s) p ∷ []) s (after_placed p s)
def_one r (Real p) s = record { items = refl; left = refl }
def_one r (Virtual n c) s = missing s

result_one : (r : Reg) (l : RetLocation) (s : List Reg) → Follows (result_in r l ∷ []) (result_in (result_at r l s).0 l ∷ []) s (result_at r l s).1
result_one r (InReg p ty) s = def_one r p s
result_one r (Stack offset ty) s = record { items = refl; left = refl }

argument_one : (x : CallArgPair) (s : List Reg) → Follows (argument x ∷ []) (argument (argument_at x s).0 ∷ []) s (argument_at x s).1
argument_one x s = use_one x.vreg x.preg s

call_result_one : (x : CallRetPair) (s : List Reg) → Follows (call_result x ∷ []) (call_result (call_result_at x s).0 ∷ []) s (call_result_at x s).1
call_result_one x s = result_one x.vreg x.location s

incoming_one : (x : ArgPair) (s : List Reg) → Follows (reported_argument x ∷ []) (reported_argument (incoming_at x s).0 ∷ []) s (incoming_at x s).1
incoming_one x s = def_one x.vreg x.preg s

outgoing_one : (x : RetPair) (s : List Reg) → Follows (reported_result x ∷ []) (reported_result (outgoing_at x s).0 ∷ []) s (outgoing_at x s).1
outgoing_one x s = use_one x.vreg x.preg s

clobbers : (set : PRegSet) (link : Reg) (s : List Reg) → Follows (reported_clobbers set link ∷ []) (reported_clobbers set link ∷ []) s s
clobbers set (Real p) s = record { items = refl; left = refl }
clobbers set (Virtual n c) s = missing s

each : {T : Type 0} (g : T → Option Reported) (f : T → List Reg → T × List Reg) → ((x : T) (s : List Reg) → Follows (g x ∷ []) (g (f x s).0 ∷ []) s (f x s).1) → (xs : List T) (s : List Reg) → Follows (map g xs) (map g (each_at f xs s).0) s (each_at f xs s).1
each g f F [] s = none s
each g f F (x ∷ xs) s = next (F x s) (each g f F xs (f x s).1)

-- what a portion of an instruction reports
abbrev portion_requests : Portion → List (Option Reported)
portion_requests (plain i) = leaf_requests i
portion_requests (indirect_branch rn targets) = reported_use rn ∷ []
portion_requests (jump_table ridx default mask targets) = reported_use ridx ∷ scratch_request ∷ []
portion_requests (calling link dest uses defs terms) = destination_requests dest ++ (map argument uses ++ (map call_result defs ++ reported_clobbers terms.clobbers link ∷ []))
portion_requests (tail_calling dest uses pop) = destination_requests dest ++ map argument uses
portion_requests (arguments xs) = map reported_argument xs
portion_requests (results xs) = map reported_result xs
portion_requests (opening mask) = []
portion_requests closing = []

called : (link : Reg) (info : CallInfo) (s : List Reg) → Follows (portion_requests (first_portion (I.Call link info))) (portion_requests (portion_at (first_portion (I.Call link info)) s).0) s (portion_at (first_portion (I.Call link info)) s).1
called link info s =
    let s₁ : List Reg = (destination_at info.dest s).1 in
    let s₂ : List Reg = (each_at argument_at info.uses.items s₁).1 in
    let s₃ : List Reg = (each_at call_result_at info.defs.items s₂).1 in
    both (target info.dest s) (both (each argument argument_at argument_one info.uses.items s₁) (both (each call_result call_result_at call_result_one info.defs.items s₂) (clobbers info.clobbers link s₃)))

-- one list and another one behind it, which adds nothing where it is empty
abbrev followed_by : (xs ys : List (Option Reported)) → List (Option Reported)
followed_by xs [] = xs
followed_by xs (y ∷ ys) = xs ++ y ∷ ys

followed_append : (xs ys : List (Option Reported)) → followed_by xs ys ≡ xs ++ ys
followed_append xs [] = sym (append-nil xs)
followed_append xs (y ∷ ys) = refl

-- what registers by their roles report
abbrev role_requests : List Role → List (Option Reported)
role_requests [] = []
role_requests (Written r ∷ xs) = reported_def r ∷ role_requests xs
role_requests (Tied r ∷ xs) = reported_reuse r ∷ role_requests xs
role_requests (Read r ∷ xs) = reported_use r ∷ role_requests xs
role_requests (WrittenPair d ∷ xs) = fixed_def d.hi 2 ∷ fixed_def d.lo 3 ∷ role_requests xs
role_requests (LowRead r ∷ xs) = fixed_use r 3 ∷ role_requests xs
role_requests (ReadPair d ∷ xs) = fixed_use d.hi 2 ∷ fixed_use d.lo 3 ∷ role_requests xs
role_requests (InMemory m ∷ xs) = followed_by (memory_requests m) (role_requests xs)

-- requests that are equal to others follow as these do
as_equal : {xs ys xs' ys' : List (Option Reported)} {s t : List Reg} → xs ≡ xs' → ys ≡ ys' → Follows xs' ys' s t → Follows xs ys s t
as_equal {s = s} p q h = record {
  items = ap items_of q ∙ h.items ∙ ap (λ zs. replaced_operands (items_of zs) s) (sym p);
  left = h.left ∙ ap (λ zs. drop (operand_count (items_of zs)) s) (sym p);
}

roles_follow : (xs : List Role) (s : List Reg) → Follows (role_requests xs) (role_requests (each_role assigned_role xs s).0) s (each_role assigned_role xs s).1
roles_follow [] s = none s
roles_follow (Written r ∷ xs) s = next (defined_one r s) (roles_follow xs (after r s))
roles_follow (Tied r ∷ xs) s = next (reused_one r s) (roles_follow xs (after r s))
roles_follow (Read r ∷ xs) s = next (used_one r s) (roles_follow xs (after r s))
roles_follow (WrittenPair d ∷ xs) s = both (pair_out d s) (roles_follow xs (drop 2 s))
roles_follow (LowRead r ∷ xs) s = next (low_in r s) (roles_follow xs (drop 1 s))
roles_follow (ReadPair d ∷ xs) s = both (pair_in d s) (roles_follow xs (drop 2 s))
roles_follow (InMemory m ∷ xs) s =
    as_equal (followed_append (memory_requests m) (role_requests xs)) (followed_append (memory_requests (memory_at m s).0) (role_requests (each_role assigned_role xs (memory_at m s).1).0))
    (both (with_memory m s) (roles_follow xs (memory_at m s).1))

-- one clause stands for every vector instruction
vector_follows : (v : VecInst) (s : List Reg) → Follows (vector_requests v) (vector_requests (assigned_vector v s).0) s (assigned_vector v s).1
vector_follows (VecMov rd rn) s = roles_follow (described_vector (VecMov rd rn)).roles s
vector_follows v s = roles_follow (described_vector v).roles s

abbrev roles_of : Option (Described Inst) → List Role
roles_of None = []
roles_of (Some d) = d.roles

abbrev IsGood : Portion → Type 0
IsGood p = (s : List Reg) → Follows (portion_requests p) (portion_requests (portion_at p s).0) s (portion_at p s).1

-- the last clause is a copy for each instruction that reports its roles, or nothing
portion_follows : (i : Inst) → IsGood (first_portion i)
portion_follows (I.Loop' mask body all) s = none s
portion_follows (I.IndirectBr rn targets) s = used_one rn s
portion_follows (I.JTSequence ridx default default_cond targets) s = next (used_one ridx s) (scratch (after ridx s))
portion_follows (I.Call link info) s = called link info s
portion_follows (I.ReturnCall info) s = both (target info.dest s) (each argument argument_at argument_one info.uses.items (destination_at info.dest s).1)
portion_follows (I.LoadSymbolReloc rd symbol_reloc) s = next (defined_one rd s) (scratch (after rd s))
portion_follows (I.Args args) s = each reported_argument incoming_at incoming_one args.items s
portion_follows (I.Rets rets) s = each reported_result outgoing_at outgoing_one rets.items s
portion_follows (I.LoadMultiple64 rt rt2 mem) s = both (with_memory mem s) (range rt rt2 (memory_at mem s).1)
portion_follows (I.StoreMultiple64 rt rt2 mem) s = both (with_memory mem s) (range rt rt2 (memory_at mem s).1)
portion_follows (I.MovPReg rd rm) s = next (defined_one rd s) (fixed rm (after rd s))
portion_follows (I.Vector v) s = vector_follows v s
portion_follows i s = roles_follow (roles_of (description_of i)) s

closing_follows : IsGood closing
closing_follows s = none s

-- each of the portions is one of an instruction
abbrev AreGood : List Portion → Type 0
AreGood [] = Unit {0}
AreGood (p ∷ ps) = IsGood p × AreGood ps

good_append : (ps qs : List Portion) → AreGood ps → AreGood qs → AreGood (ps ++ qs)
good_append [] qs g h = h
good_append (p ∷ ps) qs g h = (g.0, good_append ps qs g.1 h)

mutual
  instruction_good : (i : Inst) → AreGood (portions i)
  instruction_good (I.Loop' mask body all) = (portion_follows (I.Loop' mask body all), good_append (row_portions all) (closing ∷ []) (row_good all) (closing_follows, tt))
  instruction_good i = (portion_follows i, tt)

  row_good : {m : _} (r : Row_of-Inst m) → AreGood (row_portions r)
  row_good end_of-Inst = tt
  row_good (more_of-Inst i rest) = good_append (portions i) (row_portions rest) (instruction_good i) (row_good rest)

-- what portions report
abbrev portions_requests : List Portion → List (Option Reported)
portions_requests [] = []
portions_requests (p ∷ ps) = portion_requests p ++ portions_requests ps

portions_follow : (ps : List Portion) → AreGood ps → (s : List Reg) → Follows (portions_requests ps) (portions_requests (assigned_portions ps s).0) s (assigned_portions ps s).1
portions_follow [] g s = none s
portions_follow (p ∷ ps) g s = both (g.0 s) (portions_follow ps g.1 (portion_at p s).1)

requests_append : (ps qs : List Portion) → portions_requests (ps ++ qs) ≡ portions_requests ps ++ portions_requests qs
requests_append [] qs = refl
requests_append (p ∷ ps) qs = ap (λ xs. portion_requests p ++ xs) (requests_append ps qs) ∙ sym (append_assoc (portion_requests p) (portions_requests ps) (portions_requests qs))

leaf_portion : (i : Inst) → leaf_requests i ≡ portion_requests (first_portion i)
leaf_portion (I.Loop' mask body all) = refl
leaf_portion i = refl

mutual
  portions_report : (i : Inst) → requests i ≡ portions_requests (portions i)
  portions_report (I.Loop' mask body all) = row_report all ∙ sym (requests_append (row_portions all) (closing ∷ []) ∙ append-nil (portions_requests (row_portions all)))
  portions_report i = leaf_portion i ∙ sym (append-nil (portion_requests (first_portion i)))

  row_report : {m : _} (r : Row_of-Inst m) → row_requests r ≡ portions_requests (row_portions r)
  row_report end_of-Inst = refl
  row_report (more_of-Inst i rest) = ap (λ xs. requests i ++ xs) (row_report rest) ∙ ap (λ xs. xs ++ portions_requests (row_portions rest)) (portions_report i) ∙ sym (requests_append (portions i) (row_portions rest))

-- an instruction with the portions that registers give another one reports the operands of that, replaced
pub operands_replaced : (i j : Inst) (s : List Reg) → portions j ≡ (assigned_portions (portions i) s).0 → operands j ≡ replaced_operands (operands i) s
operands_replaced i j s h =
    ap items_of (portions_report j ∙ ap portions_requests h)
    ∙ (portions_follow (portions i) (instruction_good i) s).items
    ∙ ap (λ xs. replaced_operands (items_of xs) s) (sym (portions_report i))
