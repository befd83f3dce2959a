-- Instructions that are one machine instruction on general registers, by the shape of their registers.
use Rattle.std.proofs.Common.{◌≡◌, Bool, ◌&&◌, List, [], ◌∷◌, Option, Some, None, sym, subst, ◌∙◌}
use Rattle.s390x_base.specs.declared.error.EmitError.TheVariants.{BadOperator, BadRegister}
use Rattle.s390x_base.specs.declared.regs.Reg.{Reg}
use Rattle.s390x_inst.specs.declared.inst.Inst.{Inst}
use Rattle.s390x_operands.specs.declared.constraint.Reported.{Reported}
use Rattle.s390x_operands.specs.Requests.{items_of, reported_use, reported_reuse}
use Rattle.s390x_assign.specs.Assignments.{register_at, after}
use Rattle.s390x_typed_steps.proofs.Causes.{first_right, unless_true}
use Rattle.s390x_typed_steps.specs.Causes.{first_emit_cause, unless, facility_cause, cause_or}
use Rattle.s390x_typed_steps.specs.General.{is_general, reuses}
use Rattle.s390x_typed_steps.specs.MachineInstruction.{MachineInstruction}
use Rattle.s390x_typed_steps.specs.SingleInstruction.{single_with}
use Rattle.s390x_alloc_laws.specs.Allocatable.{IsVirtual, IsNotBlamed, Place, refusal}
use Rattle.s390x_alloc_laws.proofs.Given.{clear, operator_clear, first_clear, facility_clear, Passes, and_passes, Gives, Next, used_given, Reused, reused_given, IsGiven}

-- ---- instructions that are one machine instruction

single_later : (v v' : Bool) (row row' : Option MachineInstruction) → cause_or (single_with v' row') (Some BadOperator) ≡ None → Passes v' v → IsNotBlamed (cause_or (single_with v row) (Some BadOperator))
single_later v v' None row' h f = operator_clear
single_later v v' (Some r) None h f = absurd (cc)
single_later v v' (Some r) (Some r') h f = subst (λ b. IsNotBlamed (unless b BadRegister)) (sym (f (unless_true v' BadRegister h))) clear

-- it is refused by its facility first, and then by its registers, if it has a row at all
abbrev pub IsSingle : Place → Inst → Bool → Option MachineInstruction → Type 0
IsSingle P j v row = refusal P j ≡ first_emit_cause (facility_cause P.flags j) (cause_or (single_with v row) (Some BadOperator))

pub single : (P : Place) (j j' : Inst) (v v' : Bool) (row row' : Option MachineInstruction) → IsSingle P j v row → IsSingle P j' v' row' → refusal P j' ≡ None → Passes v' v → IsNotBlamed (refusal P j)
single P j j' v v' row row' is is' h f =
    let later : cause_or (single_with v' row') (Some BadOperator) ≡ None = first_right (facility_cause P.flags j') _ (sym is' ∙ h) in
    subst (λ c. IsNotBlamed c) (sym is) (first_clear (facility_cause P.flags j) (cause_or (single_with v row) (Some BadOperator)) (facility_clear P.flags j) (single_later v v' row row' later f))

-- further requests come behind it
pub general1_before : (P : Place) (f : Reg → Option Reported) → IsGiven f → (mk : Reg → Inst) (row : Reg → Option MachineInstruction) → ((a : Reg) → IsSingle P (mk a) (is_general a) (row a)) → (a : Reg) (xs : List (Option Reported)) (s s' : List Reg) → Gives s s' s s' (items_of (f a ∷ xs)) →
    refusal P (mk (register_at a s')) ≡ None → IsNotBlamed (refusal P (mk (register_at a s)))
general1_before P f F mk row is a xs s s' g h =
    let n : Next a s s' s s' (items_of xs) = F a xs s s' s s' g in
    single P (mk (register_at a s)) (mk (register_at a s')) _ _ (row (register_at a s)) (row (register_at a s')) (is (register_at a s)) (is (register_at a s')) h n.given.passes

pub general1 : (P : Place) (f : Reg → Option Reported) → IsGiven f → (mk : Reg → Inst) (row : Reg → Option MachineInstruction) → ((a : Reg) → IsSingle P (mk a) (is_general a) (row a)) → (a : Reg) (s s' : List Reg) → Gives s s' s s' (items_of (f a ∷ [])) → refusal P (mk (register_at a s')) ≡ None → IsNotBlamed (refusal P (mk (register_at a s)))
general1 P f F mk row is a s s' g h = general1_before P f F mk row is a [] s s' g h

pub general2 : (P : Place) (f : Reg → Option Reported) → IsGiven f → (mk : Reg → Reg → Inst) (row : Reg → Reg → Option MachineInstruction) → ((a b : Reg) → IsSingle P (mk a b) (is_general a && is_general b) (row a b)) → (a b : Reg) (s s' : List Reg) → Gives s s' s s' (items_of (f a ∷ reported_use b ∷ [])) →
    refusal P (mk (register_at a s') (register_at b (after a s'))) ≡ None → IsNotBlamed (refusal P (mk (register_at a s) (register_at b (after a s))))
general2 P f F mk row is a b s s' g h =
    let n : Next a s s' s s' (items_of (reported_use b ∷ [])) = F a (reported_use b ∷ []) s s' s s' g in
    let m : Next b s s' (after a s) (after a s') [] = used_given b [] s s' (after a s) (after a s') n.rest in
    let x : Reg = register_at a s in let x' : Reg = register_at a s' in
    let y : Reg = register_at b (after a s) in let y' : Reg = register_at b (after a s') in
    single P (mk x y) (mk x' y') (is_general x && is_general y) (is_general x' && is_general y') (row x y) (row x' y') (is x y) (is x' y') h (and_passes (is_general x) (is_general x') (is_general y) (is_general y') n.given.passes m.given.passes)

pub general3 : (P : Place) (f : Reg → Option Reported) → IsGiven f → (mk : Reg → Reg → Reg → Inst) (row : Reg → Reg → Reg → Option MachineInstruction) → ((a b c : Reg) → IsSingle P (mk a b c) (is_general a && is_general b && is_general c) (row a b c)) → (a b c : Reg) (s s' : List Reg) →
    Gives s s' s s' (items_of (f a ∷ reported_use b ∷ reported_use c ∷ [])) → refusal P (mk (register_at a s') (register_at b (after a s')) (register_at c (after b (after a s')))) ≡ None → IsNotBlamed (refusal P (mk (register_at a s) (register_at b (after a s)) (register_at c (after b (after a s)))))
general3 P f F mk row is a b c s s' g h =
    let n : Next a s s' s s' (items_of (reported_use b ∷ reported_use c ∷ [])) = F a (reported_use b ∷ reported_use c ∷ []) s s' s s' g in
    let m : Next b s s' (after a s) (after a s') (items_of (reported_use c ∷ [])) = used_given b (reported_use c ∷ []) s s' (after a s) (after a s') n.rest in
    let l : Next c s s' (after b (after a s)) (after b (after a s')) [] = used_given c [] s s' (after b (after a s)) (after b (after a s')) m.rest in
    let x : Reg = register_at a s in let x' : Reg = register_at a s' in
    let y : Reg = register_at b (after a s) in let y' : Reg = register_at b (after a s') in
    let z : Reg = register_at c (after b (after a s)) in let z' : Reg = register_at c (after b (after a s')) in
    single P (mk x y z) (mk x' y' z') (is_general x && is_general y && is_general z) (is_general x' && is_general y' && is_general z') (row x y z) (row x' y' z') (is x y z) (is x' y' z') h
    (and_passes (is_general x && is_general y) (is_general x' && is_general y') (is_general z) (is_general z') (and_passes (is_general x) (is_general x') (is_general y) (is_general y') n.given.passes m.given.passes) l.given.passes)

pub reuse1 : (P : Place) (mk : Reg → Reg → Inst) (row : Reg → Reg → Option MachineInstruction) → ((d i : Reg) → IsSingle P (mk d i) (reuses d i) (row d i)) → (d i : Reg) (s s' : List Reg) → IsVirtual d → IsVirtual i → Gives s s' s s' (items_of (reported_reuse d ∷ reported_use i ∷ [])) →
    refusal P (mk (register_at d s') (register_at i (after d s'))) ≡ None → IsNotBlamed (refusal P (mk (register_at d s) (register_at i (after d s))))
reuse1 P mk row is d i s s' v w g h =
    let n : Reused d i s s' [] = reused_given d i [] s s' v w g in
    let x : Reg = register_at d s in let x' : Reg = register_at d s' in
    let y : Reg = register_at i (after d s) in let y' : Reg = register_at i (after d s') in
    single P (mk x y) (mk x' y') (reuses x y) (reuses x' y') (row x y) (row x' y') (is x y) (is x' y') h n.passes

pub reuse2 : (P : Place) (mk : Reg → Reg → Reg → Inst) (row : Reg → Reg → Reg → Option MachineInstruction) → ((d i m : Reg) → IsSingle P (mk d i m) (reuses d i && is_general m) (row d i m)) → (d i m : Reg) (s s' : List Reg) → IsVirtual d → IsVirtual i →
    Gives s s' s s' (items_of (reported_reuse d ∷ reported_use i ∷ reported_use m ∷ [])) → refusal P (mk (register_at d s') (register_at i (after d s')) (register_at m (after i (after d s')))) ≡ None → IsNotBlamed (refusal P (mk (register_at d s) (register_at i (after d s)) (register_at m (after i (after d s)))))
reuse2 P mk row is d i m s s' v w g h =
    let n : Reused d i s s' (items_of (reported_use m ∷ [])) = reused_given d i (reported_use m ∷ []) s s' v w g in
    let k : Next m s s' (after i (after d s)) (after i (after d s')) [] = used_given m [] s s' (after i (after d s)) (after i (after d s')) n.rest in
    let x : Reg = register_at d s in let x' : Reg = register_at d s' in
    let y : Reg = register_at i (after d s) in let y' : Reg = register_at i (after d s') in
    let z : Reg = register_at m (after i (after d s)) in let z' : Reg = register_at m (after i (after d s')) in
    single P (mk x y z) (mk x' y' z') (reuses x y && is_general z) (reuses x' y' && is_general z') (row x y z) (row x' y' z') (is x y z) (is x' y' z') h (and_passes (reuses x y) (reuses x' y') (is_general z) (is_general z') n.passes k.given.passes)

-- with a test of something else beside
pub general1_and : (P : Place) (f : Reg → Option Reported) → IsGiven f → (mk : Reg → Inst) (more : Bool) (row : Reg → Option MachineInstruction) → ((a : Reg) → IsSingle P (mk a) (is_general a && more) (row a)) → (a : Reg) (xs : List (Option Reported)) (s s' : List Reg) →
    Gives s s' s s' (items_of (f a ∷ xs)) → refusal P (mk (register_at a s')) ≡ None → IsNotBlamed (refusal P (mk (register_at a s)))
general1_and P f F mk more row is a xs s s' g h =
    let n : Next a s s' s s' (items_of xs) = F a xs s s' s s' g in
    let x : Reg = register_at a s in let x' : Reg = register_at a s' in
    single P (mk x) (mk x') (is_general x && more) (is_general x' && more) (row x) (row x') (is x) (is x') h (and_passes (is_general x) (is_general x') more more n.given.passes (λ h. h))

pub reuse1_and : (P : Place) (mk : Reg → Reg → Inst) (more : Bool) (row : Reg → Reg → Option MachineInstruction) → ((d i : Reg) → IsSingle P (mk d i) (reuses d i && more) (row d i)) → (d i : Reg) (s s' : List Reg) → IsVirtual d → IsVirtual i → Gives s s' s s' (items_of (reported_reuse d ∷ reported_use i ∷ [])) →
    refusal P (mk (register_at d s') (register_at i (after d s'))) ≡ None → IsNotBlamed (refusal P (mk (register_at d s) (register_at i (after d s))))
reuse1_and P mk more row is d i s s' v w g h =
    let n : Reused d i s s' [] = reused_given d i [] s s' v w g in
    let x : Reg = register_at d s in let x' : Reg = register_at d s' in
    let y : Reg = register_at i (after d s) in let y' : Reg = register_at i (after d s') in
    single P (mk x y) (mk x' y') (reuses x y && more) (reuses x' y' && more) (row x y) (row x' y') (is x y) (is x' y') h (and_passes (reuses x y) (reuses x' y') more more n.passes (λ h. h))
