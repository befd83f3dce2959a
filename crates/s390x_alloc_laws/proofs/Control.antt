-- Branches, tables, and addresses of places.
use Rattle.std.proofs.Common.{◌≡◌, ℕ, nat_eq, nat_lt, Bool, true, false, not, ◌&&◌, List, [], ◌∷◌, Option, Some}
use Rattle.std.proofs.Common.{None, refl, sym, ap, subst}
use Rattle.std.proofs.lemmas.Bool.{eqb-true, and_from}
use Rattle.s390x_base.specs.Registers.{RealRegister, general}
use Rattle.s390x_base.specs.Regs.{is_int}
use Rattle.s390x_base.specs.declared.error.EmitError.{EmitError}
use Rattle.s390x_base.specs.declared.error.EmitError.TheVariants.{BadOperator, BadRegister, ScratchConflict, UnboundLabel}
use Rattle.s390x_base.specs.declared.regs.Reg.{Reg}
use Rattle.s390x_base.specs.declared.regs.Reg.TheVariants.{Real, Virtual}
use Rattle.s390x_base.specs.declared.regs.RegClass.{RegClass}
use Rattle.s390x_base.specs.declared.regs.RegClass.TheVariants.{Int, Float}
use Rattle.s390x_inst.specs.declared.inst.Inst.{Inst}
use Rattle.s390x_operands.specs.declared.constraint.Reported.{Reported}
use Rattle.s390x_operands.specs.Requests.{items_of, scratch_request, reported_use, reported_def}
use Rattle.s390x_assign.specs.Assignments.{register_at}
use Rattle.s390x_typed_steps.proofs.Causes.{first_left, unless_true}
use Rattle.s390x_typed_steps.specs.Causes.{first_emit_cause, unless, labels_cause, target_label_cause, table_cause}
use Rattle.s390x_typed_steps.specs.General.{is_general, is_nonzero, is_scratch}
use Rattle.s390x_alloc_laws.specs.Allocatable.{IsVirtual, IsOrdinary, IsNotBlamed, Place, refusal}
use Rattle.s390x_base.specs.declared.ir.MachLabel.{MachLabel}
use Rattle.s390x_inst.specs.Portions.{Portion, plain, indirect_branch, jump_table, arguments, results, first_portion}
use Rattle.s390x_inst.specs.declared.inst.Inst.TheVariants.{Loop'}
use Rattle.s390x_alloc_laws.proofs.Given.{clear, unless_clear, first_clear, and_left, Passes, Gives, Next, used_given, defined_given}

-- ---- instructions that keep a vector, as portions

-- the cause of refusal of an instruction that is one portion
abbrev pub portion_refusal : Place → Portion → Option EmitError
portion_refusal P (plain i) = refusal P i
portion_refusal P (indirect_branch rn targets) = first_emit_cause (unless (is_general rn && is_nonzero rn) BadRegister) (labels_cause P.declared.blocks targets)
portion_refusal P (jump_table ridx other mask targets) = table_cause P.declared.blocks ridx other targets
portion_refusal P (arguments xs) = None
portion_refusal P (results xs) = None
portion_refusal P _ = Some BadOperator

pub refused_as_portion : (P : Place) (i : Inst) → refusal P i ≡ portion_refusal P (first_portion i)
refused_as_portion P (Loop' mask body all) = refl
refused_as_portion P i = refl

target_clear : (blocks : ℕ) (l : MachLabel) → IsNotBlamed (target_label_cause blocks l)
target_clear blocks l = unless_clear (nat_lt l.0 blocks) UnboundLabel ((λ h. absurd (cc)), (λ h. absurd (cc)))

labels_clear : (blocks : ℕ) (ls : List MachLabel) → IsNotBlamed (labels_cause blocks ls)
labels_clear blocks [] = clear
labels_clear blocks (l ∷ ls) = first_clear (target_label_cause blocks l) (labels_cause blocks ls) (target_clear blocks l) (labels_clear blocks ls)

-- an instruction whose registers no cause reads
pub unread : (c : Option EmitError) → c ≡ None → IsNotBlamed c
unread c h = subst (λ e. IsNotBlamed e) (sym h) clear

-- where registers are told first, and none stands in the way of them
registers_first : (v v' : Bool) (later later' : Option EmitError) → IsNotBlamed later → first_emit_cause (unless v' BadRegister) later' ≡ None → Passes v' v → IsNotBlamed (first_emit_cause (unless v BadRegister) later)
registers_first v v' later later' clears h f =
    subst (λ b. IsNotBlamed (first_emit_cause (unless b BadRegister) later)) (sym (f (unless_true v' BadRegister (first_left (unless v' BadRegister) later' h)))) clears

-- ---- an ordinary general register is neither %r0 nor %r1

other_number : (k : RegClass) (n m : ℕ) → is_int k ≡ true → (◌≡◌ {A = RealRegister} (record { class = k; number = n }) (general m) → ⊥) → nat_eq n m ≡ false
other_number Int n m i f = elim (nat_eq n m) as (λ b. ((b ≡ true) → ⊥) → b ≡ false) [ true ↦ (λ g. absurd (g refl)) | false ↦ (λ g. refl) ] (λ h. f (ap (λ (x : ℕ). general x) (eqb-true n m h)))
other_number Float n m i f = absurd (cc)

ordinary_nonzero : (q : Reg) → IsOrdinary q → is_general q ≡ true → is_nonzero q ≡ true
ordinary_nonzero (Real p) o g = ap not (other_number p.class p.number 0 (and_left (is_int p.class) (nat_lt p.number 16) g) o.1)
ordinary_nonzero (Virtual n c) o g = absurd o

ordinary_unscratched : (q : Reg) → IsOrdinary q → is_general q ≡ true → is_scratch q ≡ false
ordinary_unscratched (Real p) o g = other_number p.class p.number 1 (and_left (is_int p.class) (nat_lt p.number 16) g) o.2
ordinary_unscratched (Virtual n c) o g = absurd o

-- a virtual input is given an ordinary register
ordinary_given : (r : Reg) (xs : List (Option Reported)) (all all' s s' : List Reg) → IsVirtual r → Gives all all' s s' (items_of (reported_use r ∷ xs)) → IsOrdinary (register_at r s)
ordinary_given (Real p) xs all all' s s' v g = absurd v
ordinary_given (Virtual n c) xs all all' [] s' v g = absurd g.meet
ordinary_given (Virtual n c) xs all all' (q ∷ s) s' v g = g.spare.0

-- that is an address or an index
addresses : (q q' : Reg) → IsOrdinary q → Passes (is_general q') (is_general q) → Passes (is_general q' && is_nonzero q') (is_general q && is_nonzero q)
addresses q q' o f h =
    let g : is_general q ≡ true = f (and_left (is_general q') (is_nonzero q') h) in
    and_from (is_general q) (is_nonzero q) g (ordinary_nonzero q o g)

pub branch : (P : Place) (rn : Reg) (targets : List MachLabel) (s s' : List Reg) → IsVirtual rn → Gives s s' s s' (items_of (reported_use rn ∷ [])) → portion_refusal P (indirect_branch (register_at rn s') targets) ≡ None → IsNotBlamed (portion_refusal P (indirect_branch (register_at rn s) targets))
branch P rn targets s s' v g h =
    let n : Next rn s s' s s' [] = used_given rn [] s s' s s' g in
    let x : Reg = register_at rn s in let x' : Reg = register_at rn s' in
    registers_first (is_general x && is_nonzero x) (is_general x' && is_nonzero x') (labels_cause P.declared.blocks targets) (labels_cause P.declared.blocks targets) (labels_clear P.declared.blocks targets) h (addresses x x' (ordinary_given rn [] s s' s s' v g) n.given.passes)

-- the causes of a table behind that of its index
abbrev later_cause : ℕ → Reg → MachLabel → List MachLabel → Option EmitError
later_cause blocks q other targets = first_emit_cause (unless (not (is_scratch q)) ScratchConflict) (first_emit_cause (target_label_cause blocks other) (labels_cause blocks targets))

later_clear : (blocks : ℕ) (q : Reg) (other : MachLabel) (targets : List MachLabel) → is_scratch q ≡ false → IsNotBlamed (later_cause blocks q other targets)
later_clear blocks q other targets h =
    let rest : Option EmitError = first_emit_cause (target_label_cause blocks other) (labels_cause blocks targets) in
    subst (λ b. IsNotBlamed (first_emit_cause (unless (not b) ScratchConflict) rest)) (sym h) (first_clear (target_label_cause blocks other) (labels_cause blocks targets) (target_clear blocks other) (labels_clear blocks targets))

pub table : (P : Place) (ridx : Reg) (other : MachLabel) (mask : ℕ) (targets : List MachLabel) (s s' : List Reg) → IsVirtual ridx → Gives s s' s s' (items_of (reported_use ridx ∷ scratch_request ∷ [])) →
    portion_refusal P (jump_table (register_at ridx s') other mask targets) ≡ None → IsNotBlamed (portion_refusal P (jump_table (register_at ridx s) other mask targets))
table P ridx other mask targets s s' v g h =
    let n : Next ridx s s' s s' (items_of (scratch_request ∷ [])) = used_given ridx (scratch_request ∷ []) s s' s s' g in
    let x : Reg = register_at ridx s in let x' : Reg = register_at ridx s' in
    let blocks : ℕ = P.declared.blocks in
    let o : IsOrdinary x = ordinary_given ridx (scratch_request ∷ []) s s' s s' v g in
    let valid' : (is_general x' && is_nonzero x') ≡ true = unless_true (is_general x' && is_nonzero x') BadRegister (first_left (unless (is_general x' && is_nonzero x') BadRegister) (later_cause blocks x' other targets) h) in
    let real : is_general x ≡ true = n.given.passes (and_left (is_general x') (is_nonzero x') valid') in
    registers_first (is_general x && is_nonzero x) (is_general x' && is_nonzero x') (later_cause blocks x other targets) (later_cause blocks x' other targets) (later_clear blocks x other targets (ordinary_unscratched x o real)) h (addresses x x' o n.given.passes)

-- the cause of a register, and behind it that of a label
abbrev pub named_cause : (blocks : ℕ) → Reg → MachLabel → Option EmitError
named_cause blocks q label = first_emit_cause (unless (is_general q) BadRegister) (target_label_cause blocks label)

pub named : (blocks : ℕ) (d : Reg) (label : MachLabel) (s s' : List Reg) → Gives s s' s s' (items_of (reported_def d ∷ [])) → named_cause blocks (register_at d s') label ≡ None → IsNotBlamed (named_cause blocks (register_at d s) label)
named blocks d label s s' g h =
    let n : Next d s s' s s' [] = defined_given d [] s s' s s' g in
    registers_first (is_general (register_at d s)) (is_general (register_at d s')) (target_label_cause blocks label) (target_label_cause blocks label) (target_clear blocks label) h n.given.passes
