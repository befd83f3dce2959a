-- What an assigned instruction may change, by the shape of its registers.
use Rattle.std.proofs.Common.{◌≡◌, ℕ, nat_lt, nat_eq, if◌then◌else◌, cond, not, Bool, true, false, ◌&&◌, List, [], ◌∷◌, ◌++◌, Option, Some, None, refl, sym, ap, ◌∙◌}
use Rattle.s390x_base.specs.Registers.{RealRegister, general, vector}
use Rattle.s390x_base.specs.Regs.{is_int, number_of}
use Rattle.s390x_base.specs.declared.error.EmitError.TheVariants.{BadOperator, BadRegister}
use Rattle.s390x_base.specs.declared.regs.Reg.{Reg}
use Rattle.s390x_base.specs.declared.regs.Reg.TheVariants.{Real, Virtual}
use Rattle.s390x_base.specs.declared.regs.RegClass.{RegClass}
use Rattle.s390x_base.specs.declared.regs.RegClass.TheVariants.{Int, Float}
use Rattle.s390x_inst.specs.declared.args.MemArg.{MemArg}
use Rattle.s390x_inst.specs.declared.args.MemArg.TheVariants.{BXD12, BXD20, RegOffset}
use Rattle.s390x_inst.specs.declared.inst.Inst.{Inst}
use Rattle.s390x_operands.specs.Meets.{MeetsEach}
use Rattle.s390x_operands.specs.Requests.{items_of, memory_requests, scratch_request, reported_use, reported_def, reported_reuse}
use Rattle.s390x_operands.specs.declared.constraint.Reported.{Reported}
use Rattle.s390x_assign.specs.Assignments.{register_at, after}
use Rattle.s390x_typed_steps.proofs.Causes.{first_right, unless_true}
use Rattle.s390x_typed_steps.specs.Causes.{facility_cause, cause_or}
use Rattle.s390x_typed_steps.specs.General.{is_general}
use Rattle.s390x_typed_steps.specs.MachineInstruction.{MachineInstruction}
use Rattle.s390x_typed_steps.specs.Operands.{is_numbered}
use Rattle.s390x_typed_steps.specs.SingleInstruction.{single_with}
use Rattle.s390x_typed_steps.specs.VectorInstruction.{is_vector}
use Rattle.s390x_operations.specs.declared.effect.Operation.{Operation}
use Rattle.s390x_machine.specs.Layout.{Layout}
use Rattle.s390x_machine.specs.Operands.{performed_where}
use Rattle.s390x_machine.specs.StepKinds.{StepKind, instruction_kind, loaded_kind}
use Rattle.s390x_alloc_laws.specs.Allocatable.{IsVirtual, Place, refusal}
use Rattle.s390x_alloc_laws.proofs.Given.{and_left, pass_alike}
use Rattle.s390x_alloc_laws.proofs.Single.{IsSingle}
use Rattle.s390x_alloc_laws.specs.Outputs.{outputs}
use Rattle.s390x_alloc_laws.proofs.Effects.{Covers, written}
use Rattle.s390x_alloc_laws.proofs.StepKinds.{KindKeeps}

-- ---- an instruction's steps, whole or with the operand's address loaded first

abbrev pub BothKeep : Layout → List Reg → (whole loaded : StepKind) → Type 0
BothKeep L changed whole loaded = KindKeeps L changed whole × KindKeeps L changed loaded

abbrev pub InstKeeps : Layout → List Reg → Inst → Type 0
InstKeeps L changed j = BothKeep L changed (instruction_kind L j) (loaded_kind L j)

-- ---- what is written is listed

abbrev pub general_target : Reg → List Reg
general_target q = Real (general (number_of q)) ∷ []

abbrev pub vector_target : Reg → List Reg
vector_target q = Real (vector (number_of q)) ∷ []

int_named : (k : RegClass) (n : ℕ) → is_int k ≡ true → ◌≡◌ {A = RealRegister} (record { class = k; number = n }) (general n)
int_named Int n h = refl
int_named Float n h = absurd (cc)

float_named : (k : RegClass) (n : ℕ) (b : Bool) → (not (is_int k) && b) ≡ true → ◌≡◌ {A = RealRegister} (record { class = k; number = n }) (vector n)
float_named Int n b h = absurd (cc)
float_named Float n b h = refl

pub general_named : (q : Reg) → is_general q ≡ true → q ≡ Real (general (number_of q))
general_named (Real p) h = ap (λ (r : RealRegister). Real r) (int_named p.class p.number (and_left (is_int p.class) (nat_lt p.number 16) h))
general_named (Virtual n c) h = absurd (cc)

pub vector_named : (q : Reg) → is_vector q ≡ true → q ≡ Real (vector (number_of q))
vector_named (Real p) h = ap (λ (r : RealRegister). Real r) (float_named p.class p.number (nat_lt p.number 32) h)
vector_named (Virtual n c) h = absurd (cc)

-- a register that passes a test is the one that is written
abbrev pub IsTarget : (Reg → Bool) → (Reg → List Reg) → Type 0
IsTarget t T = (q : Reg) → t q ≡ true → Covers (q ∷ []) (T q)

pub general_written : IsTarget is_general general_target
general_written q h x a = (λ e. a.0 (general_named q h ∙ e), tt)

pub vector_written : IsTarget is_vector vector_target
vector_written q h x a = (λ e. a.0 (vector_named q h ∙ e), tt)

pub where_written : (selected : Bool) (op : Operation) (changed : List Reg) → Covers changed (written op.effect) → Covers changed (written (performed_where selected op).effect)
where_written true op changed f = f
where_written false op changed f = λ q m. tt

pub one_written : (b : Bool) (x y : Operation) (changed : List Reg) → Covers changed (written x.effect) → Covers changed (written y.effect) → Covers changed (written (if b then x else y).effect)
one_written true x y changed f g = f
one_written false x y changed f g = g

-- ---- what is listed of a request

-- its register is listed
abbrev pub IsOutput : (Reg → Option Reported) → Type 0
IsOutput f = (r : Reg) (xs : List (Option Reported)) (all s : List Reg) → IsVirtual r → MeetsEach all (items_of (f r ∷ xs)) s → Covers (outputs (items_of (f r ∷ xs)) s) (register_at r s ∷ [])

pub defined_output : IsOutput reported_def
defined_output (Real p) xs all s v m = absurd v
defined_output (Virtual n c) xs all [] v m = absurd m
defined_output (Virtual n c) xs all (q ∷ s) v m = λ x a. (a.0, tt)

pub reused_output : IsOutput reported_reuse
reused_output (Real p) xs all s v m = absurd v
reused_output (Virtual n c) xs all [] v m = absurd m
reused_output (Virtual n c) xs all (q ∷ s) v m = λ x a. (a.0, tt)

-- what is listed behind it
abbrev pub IsPassed : (Reg → Option Reported) → Type 0
IsPassed f = (r : Reg) (xs : List (Option Reported)) (all s : List Reg) → MeetsEach all (items_of (f r ∷ xs)) s → Covers (outputs (items_of (f r ∷ xs)) s) (outputs (items_of xs) (after r s)) × MeetsEach all (items_of xs) (after r s)

fixed_passed : (b : Bool) (ps : List Reg) → Covers (cond b (Real (general 1) ∷ ps) ps) ps
fixed_passed true ps q a = a.1
fixed_passed false ps q a = a

pub used_passed : IsPassed reported_use
used_passed (Real p) xs all s m = (fixed_passed (is_numbered 1 (Real p)) (outputs (items_of xs) s), m)
used_passed (Virtual n c) xs all [] m = absurd m
used_passed (Virtual n c) xs all (q ∷ s) m = (λ x a. a, m.1.1)

pub defined_passed : IsPassed reported_def
defined_passed (Real p) xs all s m = (fixed_passed (is_numbered 1 (Real p)) (outputs (items_of xs) s), m)
defined_passed (Virtual n c) xs all [] m = absurd m
defined_passed (Virtual n c) xs all (q ∷ s) m = (λ x a. a.1, m.1.1)

pub reused_passed : IsPassed reported_reuse
reused_passed (Real p) xs all s m = (fixed_passed (is_numbered 1 (Real p)) (outputs (items_of xs) s), m)
reused_passed (Virtual n c) xs all [] m = absurd m
reused_passed (Virtual n c) xs all (q ∷ s) m = (λ x a. a.1, m.1.1)

-- an output: what is reported of it, by which it is listed and passed, and the registers that it stands for where it passes its test
pub record Output : Type 0 where
  pub request : Reg → Option Reported
  pub listed : IsOutput request
  pub passed : IsPassed request
  pub test : Reg → Bool
  pub targets : Reg → List Reg
  pub target : IsTarget test targets

abbrev pub general_def : Output
general_def = record { request = reported_def; listed = defined_output; passed = defined_passed; test = is_general; targets = general_target; target = general_written }

abbrev pub general_reuse : Output
general_reuse = record { request = reported_reuse; listed = reused_output; passed = reused_passed; test = is_general; targets = general_target; target = general_written }

abbrev pub vector_def : Output
vector_def = record { request = reported_def; listed = defined_output; passed = defined_passed; test = is_vector; targets = vector_target; target = vector_written }

abbrev pub vector_reuse : Output
vector_reuse = record { request = reported_reuse; listed = reused_output; passed = reused_passed; test = is_vector; targets = vector_target; target = vector_written }

-- `%r1` is listed where it is reported
abbrev pub scratch_target : List Reg
scratch_target = Real (general 1) ∷ []

pub scratch_listed : (xs : List (Option Reported)) (s : List Reg) → Covers (outputs (items_of (scratch_request ∷ xs)) s) scratch_target
scratch_listed xs s q a = (a.0, tt)

pub memory_scratch : (m : MemArg) (xs : List (Option Reported)) (all s : List Reg) → MeetsEach all (items_of (memory_requests m ++ xs)) s → Covers (outputs (items_of (memory_requests m ++ xs)) s) scratch_target
memory_scratch (BXD12 base index disp flags) xs all s m =
    let b = used_passed base (reported_use index ∷ scratch_request ∷ xs) all s m in
    let i = used_passed index (scratch_request ∷ xs) all (after base s) b.1 in
    λ q a. scratch_listed xs (after index (after base s)) q (i.0 q (b.0 q a))
memory_scratch (BXD20 base index disp flags) xs all s m =
    let b = used_passed base (reported_use index ∷ scratch_request ∷ xs) all s m in
    let i = used_passed index (scratch_request ∷ xs) all (after base s) b.1 in
    λ q a. scratch_listed xs (after index (after base s)) q (i.0 q (b.0 q a))
memory_scratch (RegOffset reg off flags) xs all s m =
    let b = used_passed reg (scratch_request ∷ xs) all s m in
    λ q a. scratch_listed xs (after reg s) q (b.0 q a)
memory_scratch mem xs all s m = scratch_listed xs s

pub memory_listed : (m : MemArg) (all s : List Reg) → MeetsEach all (items_of (memory_requests m)) s → Covers (outputs (items_of (memory_requests m)) s) scratch_target
memory_listed (BXD12 base index disp flags) all s m = memory_scratch (BXD12 base index disp flags) [] all s m
memory_listed (BXD20 base index disp flags) all s m = memory_scratch (BXD20 base index disp flags) [] all s m
memory_listed (RegOffset reg off flags) all s m = memory_scratch (RegOffset reg off flags) [] all s m
memory_listed mem all s m = scratch_listed [] s

-- ---- instructions that are one machine instruction

single_row_valid : (v : Bool) (row : Option MachineInstruction) → cause_or (single_with v row) (Some BadOperator) ≡ None → v ≡ true
single_row_valid v None h = absurd (cc)
single_row_valid v (Some row) h = unless_true v BadRegister h

pub single_valid : (P : Place) (j : Inst) (v : Bool) (row : Option MachineInstruction) → IsSingle P j v row → refusal P j ≡ None → v ≡ true
single_valid P j v row is h =
    single_row_valid v row (first_right (facility_cause P.flags j) (cause_or (single_with v row) (Some BadOperator)) (sym is ∙ h))

pub covers_twice : (a b c : List Reg) → Covers a b → Covers b c → Covers a c
covers_twice a b c f g q m = g q (f q m)

-- the output is the first request
pub first_listed : (out : Output) (a : Reg) (xs : List (Option Reported)) (s : List Reg) → IsVirtual a → MeetsEach s (items_of (out.request a ∷ xs)) s → out.test (register_at a s) ≡ true → Covers (outputs (items_of (out.request a ∷ xs)) s) (out.targets (register_at a s))
first_listed out a xs s v m h = covers_twice (outputs (items_of (out.request a ∷ xs)) s) (register_at a s ∷ []) (out.targets (register_at a s)) (out.listed a xs s s v m) (out.target (register_at a s) h)

-- an instruction of one, two, three or four tests, of which the first is that of the output
abbrev Kept : Layout → (Reg → List Reg) → Inst → Reg → Type 0
Kept L T j q = (changed : List Reg) → Covers changed (T q) → InstKeeps L changed j

pub kept1 : (P : Place) (L : Layout) (out : Output) (mk : Reg → Inst) (row : Reg → Option MachineInstruction) → ((a : Reg) → IsSingle P (mk a) (out.test a) (row a)) → ((a : Reg) → Kept L out.targets (mk a) a) →
    (a : Reg) (xs : List (Option Reported)) (s : List Reg) → IsVirtual a → MeetsEach s (items_of (out.request a ∷ xs)) s → refusal P (mk (register_at a s)) ≡ None → InstKeeps L (outputs (items_of (out.request a ∷ xs)) s) (mk (register_at a s))
kept1 P L out mk row is keeps a xs s v m h =
    let x : Reg = register_at a s in
    keeps x (outputs (items_of (out.request a ∷ xs)) s) (first_listed out a xs s v m (single_valid P (mk x) (out.test x) (row x) (is x) h))

pub kept2 : (P : Place) (L : Layout) (out : Output) (mk : Reg → Reg → Inst) (u : Reg → Bool) (row : Reg → Reg → Option MachineInstruction) → ((a b : Reg) → IsSingle P (mk a b) (out.test a && u b) (row a b)) →
    ((a b : Reg) → Kept L out.targets (mk a b) a) → (a b : Reg) (xs : List (Option Reported)) (s : List Reg) → IsVirtual a → MeetsEach s (items_of (out.request a ∷ xs)) s → refusal P (mk (register_at a s) (register_at b (after a s))) ≡ None → InstKeeps L (outputs (items_of (out.request a ∷ xs)) s) (mk (register_at a s) (register_at b (after a s)))
kept2 P L out mk u row is keeps a b xs s v m h =
    let x : Reg = register_at a s in let y : Reg = register_at b (after a s) in
    let valid : (out.test x && u y) ≡ true = single_valid P (mk x y) (out.test x && u y) (row x y) (is x y) h in
    keeps x y (outputs (items_of (out.request a ∷ xs)) s) (first_listed out a xs s v m (and_left (out.test x) (u y) valid))

pub kept3 : (P : Place) (L : Layout) (out : Output) (mk : Reg → Reg → Reg → Inst) (u w : Reg → Bool) (row : Reg → Reg → Reg → Option MachineInstruction) → ((a b c : Reg) → IsSingle P (mk a b c) (out.test a && u b && w c) (row a b c)) →
    ((a b c : Reg) → Kept L out.targets (mk a b c) a) → (a b c : Reg) (xs : List (Option Reported)) (s : List Reg) → IsVirtual a → MeetsEach s (items_of (out.request a ∷ xs)) s → refusal P (mk (register_at a s) (register_at b (after a s)) (register_at c (after b (after a s)))) ≡ None →
    InstKeeps L (outputs (items_of (out.request a ∷ xs)) s) (mk (register_at a s) (register_at b (after a s)) (register_at c (after b (after a s))))
kept3 P L out mk u w row is keeps a b c xs s v m h =
    let x : Reg = register_at a s in let y : Reg = register_at b (after a s) in let z : Reg = register_at c (after b (after a s)) in
    let valid : (out.test x && u y && w z) ≡ true = single_valid P (mk x y z) (out.test x && u y && w z) (row x y z) (is x y z) h in
    keeps x y z (outputs (items_of (out.request a ∷ xs)) s) (first_listed out a xs s v m (and_left (out.test x) (u y) (and_left (out.test x && u y) (w z) valid)))

pub kept4 : (P : Place) (L : Layout) (out : Output) (mk : Reg → Reg → Reg → Reg → Inst) (u w z : Reg → Bool) (row : Reg → Reg → Reg → Reg → Option MachineInstruction) →
    ((a b c d : Reg) → IsSingle P (mk a b c d) (out.test a && u b && w c && z d) (row a b c d)) → ((a b c d : Reg) → Kept L out.targets (mk a b c d) a) → (a b c d : Reg) (xs : List (Option Reported)) (s : List Reg) → IsVirtual a → MeetsEach s (items_of (out.request a ∷ xs)) s →
    refusal P (mk (register_at a s) (register_at b (after a s)) (register_at c (after b (after a s))) (register_at d (after c (after b (after a s))))) ≡ None →
    InstKeeps L (outputs (items_of (out.request a ∷ xs)) s) (mk (register_at a s) (register_at b (after a s)) (register_at c (after b (after a s))) (register_at d (after c (after b (after a s)))))
kept4 P L out mk u w z row is keeps a b c d xs s v m h =
    let p : Reg = register_at a s in let q : Reg = register_at b (after a s) in
    let r : Reg = register_at c (after b (after a s)) in let o : Reg = register_at d (after c (after b (after a s))) in
    let valid : (out.test p && u q && w r && z o) ≡ true = single_valid P (mk p q r o) (out.test p && u q && w r && z o) (row p q r o) (is p q r o) h in
    keeps p q r o (outputs (items_of (out.request a ∷ xs)) s) (first_listed out a xs s v m (and_left (out.test p) (u q) (and_left (out.test p && u q) (w r) (and_left (out.test p && u q && w r) (z o) valid))))

-- the output of an input that it has to be
pub alike_first : (t : Reg → Bool) (x y : Reg) → pass_alike t x y ≡ true → t x ≡ true
alike_first t x y h = and_left (t x) (t y) (and_left (t x && t y) (nat_eq (number_of x) (number_of y)) h)

pub kept_reuse1 : (P : Place) (L : Layout) (out : Output) (mk : Reg → Reg → Inst) (row : Reg → Reg → Option MachineInstruction) → ((d i : Reg) → IsSingle P (mk d i) (pass_alike out.test d i) (row d i)) → ((d i : Reg) → Kept L out.targets (mk d i) d) →
    (d i : Reg) (xs : List (Option Reported)) (s : List Reg) → IsVirtual d → MeetsEach s (items_of (out.request d ∷ xs)) s → refusal P (mk (register_at d s) (register_at i (after d s))) ≡ None → InstKeeps L (outputs (items_of (out.request d ∷ xs)) s) (mk (register_at d s) (register_at i (after d s)))
kept_reuse1 P L out mk row is keeps d i xs s v m h =
    let x : Reg = register_at d s in let y : Reg = register_at i (after d s) in
    keeps x y (outputs (items_of (out.request d ∷ xs)) s) (first_listed out d xs s v m (alike_first out.test x y (single_valid P (mk x y) (pass_alike out.test x y) (row x y) (is x y) h)))

-- with a test of something else beside
pub kept_reuse1_and : (P : Place) (L : Layout) (out : Output) (mk : Reg → Reg → Inst) (more : Bool) (row : Reg → Reg → Option MachineInstruction) → ((d i : Reg) → IsSingle P (mk d i) (pass_alike out.test d i && more) (row d i)) → ((d i : Reg) → Kept L out.targets (mk d i) d) →
    (d i : Reg) (xs : List (Option Reported)) (s : List Reg) → IsVirtual d → MeetsEach s (items_of (out.request d ∷ xs)) s → refusal P (mk (register_at d s) (register_at i (after d s))) ≡ None → InstKeeps L (outputs (items_of (out.request d ∷ xs)) s) (mk (register_at d s) (register_at i (after d s)))
kept_reuse1_and P L out mk more row is keeps d i xs s v m h =
    let x : Reg = register_at d s in let y : Reg = register_at i (after d s) in
    keeps x y (outputs (items_of (out.request d ∷ xs)) s) (first_listed out d xs s v m (alike_first out.test x y (and_left (pass_alike out.test x y) more (single_valid P (mk x y) (pass_alike out.test x y && more) (row x y) (is x y) h))))

pub kept_reuse2 : (P : Place) (L : Layout) (out : Output) (mk : Reg → Reg → Reg → Inst) (u : Reg → Bool) (row : Reg → Reg → Reg → Option MachineInstruction) → ((d i b : Reg) → IsSingle P (mk d i b) (pass_alike out.test d i && u b) (row d i b)) →
    ((d i b : Reg) → Kept L out.targets (mk d i b) d) → (d i b : Reg) (xs : List (Option Reported)) (s : List Reg) → IsVirtual d → MeetsEach s (items_of (out.request d ∷ xs)) s → refusal P (mk (register_at d s) (register_at i (after d s)) (register_at b (after i (after d s)))) ≡ None →
    InstKeeps L (outputs (items_of (out.request d ∷ xs)) s) (mk (register_at d s) (register_at i (after d s)) (register_at b (after i (after d s))))
kept_reuse2 P L out mk u row is keeps d i b xs s v m h =
    let x : Reg = register_at d s in let y : Reg = register_at i (after d s) in let z : Reg = register_at b (after i (after d s)) in
    let valid : (pass_alike out.test x y && u z) ≡ true = single_valid P (mk x y z) (pass_alike out.test x y && u z) (row x y z) (is x y z) h in
    keeps x y z (outputs (items_of (out.request d ∷ xs)) s) (first_listed out d xs s v m (alike_first out.test x y (and_left (pass_alike out.test x y) (u z) valid)))

pub kept_reuse3 : (P : Place) (L : Layout) (out : Output) (mk : Reg → Reg → Reg → Reg → Inst) (u w : Reg → Bool) (row : Reg → Reg → Reg → Reg → Option MachineInstruction) → ((d i b c : Reg) → IsSingle P (mk d i b c) (pass_alike out.test d i && u b && w c) (row d i b c)) →
    ((d i b c : Reg) → Kept L out.targets (mk d i b c) d) → (d i b c : Reg) (xs : List (Option Reported)) (s : List Reg) → IsVirtual d → MeetsEach s (items_of (out.request d ∷ xs)) s →
    refusal P (mk (register_at d s) (register_at i (after d s)) (register_at b (after i (after d s))) (register_at c (after b (after i (after d s))))) ≡ None →
    InstKeeps L (outputs (items_of (out.request d ∷ xs)) s) (mk (register_at d s) (register_at i (after d s)) (register_at b (after i (after d s))) (register_at c (after b (after i (after d s)))))
kept_reuse3 P L out mk u w row is keeps d i b c xs s v m h =
    let x : Reg = register_at d s in let y : Reg = register_at i (after d s) in
    let z : Reg = register_at b (after i (after d s)) in let o : Reg = register_at c (after b (after i (after d s))) in
    let valid : (pass_alike out.test x y && u z && w o) ≡ true = single_valid P (mk x y z o) (pass_alike out.test x y && u z && w o) (row x y z o) (is x y z o) h in
    keeps x y z o (outputs (items_of (out.request d ∷ xs)) s) (first_listed out d xs s v m (alike_first out.test x y (and_left (pass_alike out.test x y) (u z) (and_left (pass_alike out.test x y && u z) (w o) valid))))

-- with a test of something else beside
pub kept1_and : (P : Place) (L : Layout) (out : Output) (mk : Reg → Inst) (more : Bool) (row : Reg → Option MachineInstruction) → ((a : Reg) → IsSingle P (mk a) (out.test a && more) (row a)) → ((a : Reg) → Kept L out.targets (mk a) a) →
    (a : Reg) (xs : List (Option Reported)) (s : List Reg) → IsVirtual a → MeetsEach s (items_of (out.request a ∷ xs)) s → refusal P (mk (register_at a s)) ≡ None → InstKeeps L (outputs (items_of (out.request a ∷ xs)) s) (mk (register_at a s))
kept1_and P L out mk more row is keeps a xs s v m h =
    let x : Reg = register_at a s in
    keeps x (outputs (items_of (out.request a ∷ xs)) s) (first_listed out a xs s v m (and_left (out.test x) more (single_valid P (mk x) (out.test x && more) (row x) (is x) h)))

-- ---- what is listed behind inputs

pub behind_one : (a : Reg) (xs : List (Option Reported)) (s : List Reg) → MeetsEach s (items_of (reported_use a ∷ xs)) s → (T : List Reg) → (MeetsEach s (items_of xs) (after a s) → Covers (outputs (items_of xs) (after a s)) T) → Covers (outputs (items_of (reported_use a ∷ xs)) s) T
behind_one a xs s g T f =
    let p = used_passed a xs s s g in
    λ q z. f p.1 q (p.0 q z)

pub behind_two : (a b : Reg) (xs : List (Option Reported)) (s : List Reg) → MeetsEach s (items_of (reported_use a ∷ reported_use b ∷ xs)) s → (T : List Reg) → (MeetsEach s (items_of xs) (after b (after a s)) → Covers (outputs (items_of xs) (after b (after a s))) T) → Covers (outputs (items_of (reported_use a ∷ reported_use b ∷ xs)) s) T
behind_two a b xs s g T f =
    let p = used_passed a (reported_use b ∷ xs) s s g in
    let o = used_passed b xs s (after a s) p.1 in
    λ q z. f o.1 q (o.0 q (p.0 q z))
