-- What an assigned instruction with an operand in memory, or on a pair, may change.
use Rattle.std.proofs.Common.{◌≡◌, ℕ, zero, suc, ◌+◌, ◌-◌, ◌%◌, ◌≤◌, ◌<◌, nat_lt, nat_le, true, false, ◌&&◌, List, [], ◌∷◌, ◌++◌, Option, Some, None, sym, ap, ◌∙◌, option_map, arith}
use Rattle.std.specs.Prelude.{⊤}
use Rattle.std.proofs.lemmas.Bool.{ltb-true, leb-true}
use Rattle.s390x_base.specs.Registers.{general}
use Rattle.s390x_base.specs.Regs.{is_int, number_of}
use Rattle.s390x_base.specs.declared.regs.Reg.{Reg}
use Rattle.s390x_base.specs.declared.regs.Reg.TheVariants.{Real, Virtual}
use Rattle.s390x_base.specs.declared.regs.WritableRegPair.{WritableRegPair}
use Rattle.s390x_inst.specs.declared.args.MemArg.{MemArg}
use Rattle.s390x_inst.specs.declared.inst.Inst.{Inst}
use Rattle.s390x_operands.specs.Meets.{MeetsEach}
use Rattle.s390x_operands.specs.Requests.{items_of, memory_requests, range_requests, reported_use, reported_reuse, fixed_def}
use Rattle.s390x_operands.specs.declared.constraint.Reported.{Reported}
use Rattle.s390x_assign.specs.Assignments.{register_at, after, memory_at, pair_at}
use Rattle.s390x_rows.specs.declared.opcodes.TheConstants as opcodes
use Rattle.s390x_typed_steps.specs.General.{is_general}
use Rattle.s390x_typed_steps.specs.Memory.{MemoryInstruction, multiple}
use Rattle.s390x_typed_steps.specs.Operands.{operand_general}
use Rattle.s390x_typed_steps.specs.Operands.{resolved_operand}
use Rattle.s390x_machine.specs.Layout.{Layout}
use Rattle.s390x_machine.specs.Storage.{OperandStep, loaded_step}
use Rattle.s390x_machine.specs.StepKinds.{Unsupported, performed_by, kind_or}
use Rattle.s390x_alloc_laws.specs.Allocatable.{IsFreeRange, IsVirtual, Place, refusal}
use Rattle.s390x_alloc_laws.proofs.Given.{and_left, and_right}
use Rattle.s390x_alloc_laws.proofs.Accesses.{AreValid, IsAccess, placed_in, access_valid}
use Rattle.s390x_alloc_laws.specs.Outputs.{IsApart, outputs, generals, range_of}
use Rattle.s390x_alloc_laws.proofs.Effects.{Covers, multiple_targets, pair_targets}
use Rattle.s390x_alloc_laws.proofs.StepKinds.{WritesOnly, nothing, access_keeps}
use Rattle.s390x_alloc_laws.proofs.Shapes.{Output, general_reuse, BothKeep, InstKeeps, reused_passed, used_passed, scratch_target, memory_scratch, memory_listed, first_listed, general_target}

-- ---- operands in memory

-- what it does writes no others, where there is something
abbrev pub AllWrite : List Reg → Option OperandStep → Type 0
AllWrite changed None = ⊤
AllWrite changed (Some x) = WritesOnly changed x

pub accessed : (L : Layout) (changed : List Reg) (o : Option OperandStep) → AllWrite changed o → Covers changed scratch_target → BothKeep L changed (kind_or (performed_by L o) Unsupported) (kind_or (performed_by L (option_map loaded_step o)) Unsupported)
accessed L changed None f free = (nothing L changed, nothing L changed)
accessed L changed (Some x) f free = (access_keeps L changed x Unsupported f free (nothing L changed), access_keeps L changed (loaded_step x) Unsupported f free (nothing L changed))

-- the steps of an access keep what isn't written there and `%r1`
abbrev pub KeepsAccess : Layout → List Reg → Inst → Type 0
KeepsAccess L written j = (changed : List Reg) → Covers changed written → Covers changed scratch_target → InstKeeps L changed j

-- the output is the first request
pub load_kept : (P : Place) (L : Layout) (out : Output) (mk : Reg → MemArg → Inst) (o : Reg → MemArg → Option MemoryInstruction) → ((a : Reg) (m : MemArg) → AreValid (o a m) → out.test a ≡ true) →
    ((a : Reg) (m : MemArg) → IsAccess P (mk a m) (o a (resolved_operand P.state m))) → ((a : Reg) (m : MemArg) → KeepsAccess L (out.targets a) (placed_in P (mk a m))) → (a : Reg) (m : MemArg) (s : List Reg) → IsVirtual a → MeetsEach s (items_of (out.request a ∷ memory_requests m)) s →
    refusal P (mk (register_at a s) (memory_at m (after a s)).0) ≡ None → InstKeeps L (outputs (items_of (out.request a ∷ memory_requests m)) s) (placed_in P (mk (register_at a s) (memory_at m (after a s)).0))
load_kept P L out mk o valid is keeps a m s v meet h =
    let x : Reg = register_at a s in let y : MemArg = (memory_at m (after a s)).0 in
    let rest = out.passed a (memory_requests m) s s meet in
    let test : out.test x ≡ true = valid x (resolved_operand P.state y) (access_valid P (mk x y) (o x (resolved_operand P.state y)) (is x y) h) in
    keeps x y (outputs (items_of (out.request a ∷ memory_requests m)) s) (first_listed out a (memory_requests m) s v meet test) (λ q z. memory_listed m s (after a s) rest.1 q (rest.0 q z))

-- no output
pub store_kept : (P : Place) (L : Layout) (mk : Reg → MemArg → Inst) → ((a : Reg) (m : MemArg) → KeepsAccess L [] (placed_in P (mk a m))) → (a : Reg) (m : MemArg) (s : List Reg) → MeetsEach s (items_of (reported_use a ∷ memory_requests m)) s →
    InstKeeps L (outputs (items_of (reported_use a ∷ memory_requests m)) s) (placed_in P (mk (register_at a s) (memory_at m (after a s)).0))
store_kept P L mk keeps a m s meet =
    let rest = used_passed a (memory_requests m) s s meet in
    keeps (register_at a s) (memory_at m (after a s)).0 (outputs (items_of (reported_use a ∷ memory_requests m)) s) (λ q z. tt) (λ q z. memory_listed m s (after a s) rest.1 q (rest.0 q z))

-- an output and an input behind it
pub load_kept2 : (P : Place) (L : Layout) (out : Output) (mk : Reg → Reg → MemArg → Inst) (o : Reg → Reg → MemArg → Option MemoryInstruction) → ((a b : Reg) (m : MemArg) → AreValid (o a b m) → out.test a ≡ true) →
    ((a b : Reg) (m : MemArg) → IsAccess P (mk a b m) (o a b (resolved_operand P.state m))) → ((a b : Reg) (m : MemArg) → KeepsAccess L (out.targets a) (placed_in P (mk a b m))) → (a b : Reg) (m : MemArg) (s : List Reg) → IsVirtual a → MeetsEach s (items_of (out.request a ∷ reported_use b ∷ memory_requests m)) s →
    refusal P (mk (register_at a s) (register_at b (after a s)) (memory_at m (after b (after a s))).0) ≡ None → InstKeeps L (outputs (items_of (out.request a ∷ reported_use b ∷ memory_requests m)) s) (placed_in P (mk (register_at a s) (register_at b (after a s)) (memory_at m (after b (after a s))).0))
load_kept2 P L out mk o valid is keeps a b m s v meet h =
    let x : Reg = register_at a s in let y : Reg = register_at b (after a s) in let z : MemArg = (memory_at m (after b (after a s))).0 in
    let first = out.passed a (reported_use b ∷ memory_requests m) s s meet in
    let rest = used_passed b (memory_requests m) s (after a s) first.1 in
    let test : out.test x ≡ true = valid x y (resolved_operand P.state z) (access_valid P (mk x y z) (o x y (resolved_operand P.state z)) (is x y z) h) in
    keeps x y z (outputs (items_of (out.request a ∷ reported_use b ∷ memory_requests m)) s) (first_listed out a (reported_use b ∷ memory_requests m) s v meet test) (λ q w. memory_listed m s (after b (after a s)) rest.1 q (rest.0 q (first.0 q w)))

-- a swap
pub swap_kept : (P : Place) (L : Layout) (mk : Reg → Reg → Reg → MemArg → Inst) (o : Reg → Reg → Reg → MemArg → Option MemoryInstruction) → ((a b c : Reg) (m : MemArg) → AreValid (o a b c m) → is_general a ≡ true) → ((a b c : Reg) (m : MemArg) → IsAccess P (mk a b c m) (o a b c (resolved_operand P.state m))) →
    ((a b c : Reg) (m : MemArg) → KeepsAccess L (general_target a) (placed_in P (mk a b c m))) → (a b c : Reg) (m : MemArg) (s : List Reg) → IsVirtual a → MeetsEach s (items_of (reported_reuse a ∷ reported_use b ∷ reported_use c ∷ memory_requests m)) s →
    refusal P (mk (register_at a s) (register_at b (after a s)) (register_at c (after b (after a s))) (memory_at m (after c (after b (after a s)))).0) ≡ None →
    InstKeeps L (outputs (items_of (reported_reuse a ∷ reported_use b ∷ reported_use c ∷ memory_requests m)) s) (placed_in P (mk (register_at a s) (register_at b (after a s)) (register_at c (after b (after a s))) (memory_at m (after c (after b (after a s)))).0))
swap_kept P L mk o valid is keeps a b c m s v meet h =
    let t : List Reg = after b (after a s) in
    let x : Reg = register_at a s in let y : Reg = register_at b (after a s) in let w : Reg = register_at c t in let z : MemArg = (memory_at m (after c t)).0 in
    let first = reused_passed a (reported_use b ∷ reported_use c ∷ memory_requests m) s s meet in
    let second = used_passed b (reported_use c ∷ memory_requests m) s (after a s) first.1 in
    let rest = used_passed c (memory_requests m) s t second.1 in
    let test : is_general x ≡ true = valid x y w (resolved_operand P.state z) (access_valid P (mk x y w z) (o x y w (resolved_operand P.state z)) (is x y w z) h) in
    keeps x y w z (outputs (items_of (reported_reuse a ∷ reported_use b ∷ reported_use c ∷ memory_requests m)) s) (first_listed general_reuse a (reported_use b ∷ reported_use c ∷ memory_requests m) s v meet test)
    (λ q u. memory_listed m s (after c t) rest.1 q (rest.0 q (second.0 q (first.0 q u))))

-- ---- multiples

apart_left : (ps qs : List Reg) (q : Reg) → IsApart q (ps ++ qs) → IsApart q ps
apart_left [] qs q a = tt
apart_left (p ∷ ps) qs q a = (a.0, apart_left ps qs q a.1)

apart_right : (ps qs : List Reg) (q : Reg) → IsApart q (ps ++ qs) → IsApart q qs
apart_right [] qs q a = a
apart_right (p ∷ ps) qs q a = apart_right ps qs q a.1

range_written : (first count : ℕ) → first + count ≤ 16 → Covers (generals first count) (multiple_targets first count)
range_written first zero le q a = tt
range_written first (suc n) le q a =
    let same : (first + n) % 16 ≡ first + n = omega arith in
    let fewer : first + n ≤ 16 = omega arith in
    (λ e. a.0 (ap (λ (i : ℕ). Real (general i)) (sym same) ∙ e), range_written first n fewer q a.1)

range_fits : (first last : ℕ) → first ≤ last → last < 16 → first + (last + 1 - first) ≤ 16
range_fits first last le lt = omega arith

range_valid : (P : Place) (i : Inst) (first last : Reg) (m : MemArg) → IsAccess P i (multiple first last opcodes.LMG false m) → refusal P i ≡ None → number_of first + (number_of last + 1 - number_of first) ≤ 16
range_valid P i first last m is h =
    let valid = access_valid P i (multiple first last opcodes.LMG false m) is h in
    let range : (is_general first && is_general last && nat_le (number_of first) (number_of last)) ≡ true = and_left (is_general first && is_general last && nat_le (number_of first) (number_of last)) (operand_general m) valid in
    let ends : (is_general first && is_general last) ≡ true = and_left (is_general first && is_general last) (nat_le (number_of first) (number_of last)) range in
    range_fits (number_of first) (number_of last) (leb-true (number_of first) (number_of last) (and_right (is_general first && is_general last) (nat_le (number_of first) (number_of last)) range)) (below_sixteen last (and_right (is_general first) (is_general last) ends))
  where
    below_sixteen : (q : Reg) → is_general q ≡ true → number_of q < 16
    below_sixteen (Real p) g = ltb-true p.number 16 (and_right (is_int p.class) (nat_lt p.number 16) g)
    below_sixteen (Virtual n c) g = absurd (cc)

pub load_range_kept : (P : Place) (L : Layout) (i : Inst) (first last : Reg) (m : MemArg) (s : List Reg) → IsFreeRange first last → KeepsAccess L (multiple_targets (number_of first) (number_of last + 1 - number_of first)) (placed_in P i) →
    IsAccess P i (multiple first last opcodes.LMG false (resolved_operand P.state (memory_at m s).0)) → MeetsEach s (items_of (memory_requests m ++ range_requests first last)) s → refusal P i ≡ None →
    InstKeeps L (range_of first last ++ outputs (items_of (memory_requests m ++ range_requests first last)) s) (placed_in P i)
load_range_kept P L i (Real p) (Real q) m s free keeps is meet h =
    let own : List Reg = range_of (Real p) (Real q) in
    let rest = range_requests (Real p) (Real q) in
    keeps (own ++ outputs (items_of (memory_requests m ++ rest)) s) (λ x a. range_written p.number (q.number + 1 - p.number) (range_valid P i (Real p) (Real q) (resolved_operand P.state (memory_at m s).0) is h) x (apart_left own (outputs (items_of (memory_requests m ++ rest)) s) x a))
    (λ x a. memory_scratch m rest s s meet x (apart_right own (outputs (items_of (memory_requests m ++ rest)) s) x a))
load_range_kept P L i (Real p) (Virtual n c) m s free keeps is meet h = absurd free
load_range_kept P L i (Virtual n c) last m s free keeps is meet h = absurd free

-- ---- pairs

pair_both : (h l : Reg) (rest : List Reg) → h ≡ Real (general 2) → l ≡ Real (general 3) → Covers (h ∷ l ∷ rest) (pair_targets (number_of h))
pair_both h l rest e f q a = (λ z. a.0 (e ∙ ap (λ (r : Reg). Real (general (number_of r))) (sym e) ∙ z), (λ z. a.1.0 (f ∙ ap (λ (r : Reg). Real (general (number_of r + 1))) (sym e) ∙ z), tt))

pub pair_listed : (d : WritableRegPair) (xs : List (Option Reported)) (all s : List Reg) → MeetsEach all (items_of (fixed_def d.hi 2 ∷ fixed_def d.lo 3 ∷ xs)) s → Covers (outputs (items_of (fixed_def d.hi 2 ∷ fixed_def d.lo 3 ∷ xs)) s) (pair_targets (number_of (pair_at d s).hi))
pair_listed d xs all [] m = absurd m
pair_listed d xs all (h ∷ []) m = absurd m.1.1
pair_listed d xs all (h ∷ l ∷ s) m = pair_both h l (outputs (items_of xs) s) m.1.0 m.1.1.1.0
