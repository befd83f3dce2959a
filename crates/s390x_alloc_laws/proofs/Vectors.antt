-- Vector instructions, by the shape of their registers.
use Rattle.std.proofs.Common.{◌≡◌, ℕ, inl, inr, Bool, true, false, ◌&&◌, List, [], ◌∷◌, Option, Some, None}
use Rattle.std.proofs.Common.{refl, sym, ap, subst, cond}
use Rattle.s390x_base.specs.Regs.{number_of}
use Rattle.s390x_base.specs.declared.error.EmitError.TheVariants.{BadOperator}
use Rattle.s390x_base.specs.declared.regs.Reg.{Reg}
use Rattle.s390x_inst.specs.declared.args.MemArg.{MemArg}
use Rattle.s390x_inst.specs.declared.inst.Inst.{Inst}
use Rattle.s390x_operands.specs.declared.constraint.Reported.{Reported}
use Rattle.s390x_operands.specs.Requests.{items_of, memory_requests, reported_use, reported_def, reported_reuse}
use Rattle.s390x_assign.specs.Assignments.{register_at, after, memory_at}
use Rattle.s390x_rows.specs.declared.opcodes.TheConstants as opcodes
use Rattle.s390x_typed_steps.specs.Causes.{first_emit_cause, facility_cause, cause_or}
use Rattle.s390x_typed_steps.specs.Operands.{resolved_operand, loses_base, operand_general}
use Rattle.s390x_typed_steps.specs.Memory.{MemoryInstruction, StorageForm, VrxForm, access_vector, access_elements, access_lane, is_left_lane}
use Rattle.s390x_typed_steps.specs.General.{is_general}
use Rattle.s390x_typed_steps.specs.MachineInstruction.{MachineInstruction, rr}
use Rattle.s390x_typed_steps.specs.SingleInstruction.{single_with}
use Rattle.s390x_typed_steps.specs.VectorInstruction.{is_vector, reuses_vector, element_code, is_lane}
use Rattle.s390x_alloc_laws.specs.Allocatable.{IsVirtual, MemoryMayStand, IsNotBlamed, Place, refusal}
use Rattle.s390x_inst.specs.declared.inst.Inst.TheVariants.{Vector}
use Rattle.std.specs.Prelude.{◌⊎◌}
use Rattle.s390x_inst.specs.declared.vec_inst.VecInst.TheVariants.{VecEltRev}
use Rattle.s390x_typed_steps.specs.VectorComposite.{reversing_rows, rows_cause}
use Rattle.s390x_alloc_laws.proofs.Given.{Passes, and_passes, Gives, Next, used_given, defined_given, Reused, reused_given, IsGiven, IsKept, float_kept}
use Rattle.s390x_alloc_laws.proofs.Single.{IsSingle, single}
use Rattle.s390x_alloc_laws.proofs.Accesses.{AllFollow, IsAccess, accessing, Addressed, addressed_by}

-- ---- vector instructions, whose registers are of both classes

pub mixed1 : (P : Place) (f : Reg → Option Reported) → IsGiven f → (mk : Reg → Inst) (t : Reg → Bool) → IsKept t → (row : Reg → Option MachineInstruction) → ((a : Reg) → IsSingle P (mk a) (t a) (row a)) → (a : Reg) (s s' : List Reg) → Gives s s' s s' (items_of (f a ∷ [])) → refusal P (mk (register_at a s')) ≡ None → IsNotBlamed (refusal P (mk (register_at a s)))
mixed1 P f F mk t T row is a s s' g h =
    let n : Next a s s' s s' [] = F a [] s s' s s' g in
    let x : Reg = register_at a s in let x' : Reg = register_at a s' in
    single P (mk x) (mk x') (t x) (t x') (row x) (row x') (is x) (is x') h (T a x x' n.given)

pub mixed2 : (P : Place) (f : Reg → Option Reported) → IsGiven f → (mk : Reg → Reg → Inst) (t u : Reg → Bool) → IsKept t → IsKept u → (row : Reg → Reg → Option MachineInstruction) → ((a b : Reg) → IsSingle P (mk a b) (t a && u b) (row a b)) → (a b : Reg) (s s' : List Reg) →
    Gives s s' s s' (items_of (f a ∷ reported_use b ∷ [])) → refusal P (mk (register_at a s') (register_at b (after a s'))) ≡ None → IsNotBlamed (refusal P (mk (register_at a s) (register_at b (after a s))))
mixed2 P f F mk t u T U row is a b s s' g h =
    let n : Next a s s' s s' (items_of (reported_use b ∷ [])) = F a (reported_use b ∷ []) s s' s s' g in
    let m : Next b s s' (after a s) (after a s') [] = used_given b [] s s' (after a s) (after a s') n.rest in
    let x : Reg = register_at a s in let x' : Reg = register_at a s' in
    let y : Reg = register_at b (after a s) in let y' : Reg = register_at b (after a s') in
    single P (mk x y) (mk x' y') (t x && u y) (t x' && u y') (row x y) (row x' y') (is x y) (is x' y') h (and_passes (t x) (t x') (u y) (u y') (T a x x' n.given) (U b y y' m.given))

pub mixed3 : (P : Place) (f : Reg → Option Reported) → IsGiven f → (mk : Reg → Reg → Reg → Inst) (t u v : Reg → Bool) → IsKept t → IsKept u → IsKept v → (row : Reg → Reg → Reg → Option MachineInstruction) → ((a b c : Reg) → IsSingle P (mk a b c) (t a && u b && v c) (row a b c)) →
    (a b c : Reg) (s s' : List Reg) → Gives s s' s s' (items_of (f a ∷ reported_use b ∷ reported_use c ∷ [])) → refusal P (mk (register_at a s') (register_at b (after a s')) (register_at c (after b (after a s')))) ≡ None →
    IsNotBlamed (refusal P (mk (register_at a s) (register_at b (after a s)) (register_at c (after b (after a s)))))
mixed3 P f F mk t u v T U V row is a b c s s' g h =
    let n : Next a s s' s s' (items_of (reported_use b ∷ reported_use c ∷ [])) = F a (reported_use b ∷ reported_use c ∷ []) s s' s s' g in
    let m : Next b s s' (after a s) (after a s') (items_of (reported_use c ∷ [])) = used_given b (reported_use c ∷ []) s s' (after a s) (after a s') n.rest in
    let l : Next c s s' (after b (after a s)) (after b (after a s')) [] = used_given c [] s s' (after b (after a s)) (after b (after a s')) m.rest in
    let x : Reg = register_at a s in let x' : Reg = register_at a s' in
    let y : Reg = register_at b (after a s) in let y' : Reg = register_at b (after a s') in
    let z : Reg = register_at c (after b (after a s)) in let z' : Reg = register_at c (after b (after a s')) in
    single P (mk x y z) (mk x' y' z') (t x && u y && v z) (t x' && u y' && v z') (row x y z) (row x' y' z') (is x y z) (is x' y' z') h
    (and_passes (t x && u y) (t x' && u y') (v z) (v z') (and_passes (t x) (t x') (u y) (u y') (T a x x' n.given) (U b y y' m.given)) (V c z z' l.given))

pub mixed4 : (P : Place) (f : Reg → Option Reported) → IsGiven f → (mk : Reg → Reg → Reg → Reg → Inst) (t u v w : Reg → Bool) → IsKept t → IsKept u → IsKept v → IsKept w → (row : Reg → Reg → Reg → Reg → Option MachineInstruction) → ((a b c d : Reg) →
    IsSingle P (mk a b c d) (t a && u b && v c && w d) (row a b c d)) → (a b c d : Reg) (s s' : List Reg) → Gives s s' s s' (items_of (f a ∷ reported_use b ∷ reported_use c ∷ reported_use d ∷ [])) →
    refusal P (mk (register_at a s') (register_at b (after a s')) (register_at c (after b (after a s'))) (register_at d (after c (after b (after a s'))))) ≡ None →
    IsNotBlamed (refusal P (mk (register_at a s) (register_at b (after a s)) (register_at c (after b (after a s))) (register_at d (after c (after b (after a s))))))
mixed4 P f F mk t u v w T U V W row is a b c d s s' g h =
    let n : Next a s s' s s' (items_of (reported_use b ∷ reported_use c ∷ reported_use d ∷ [])) = F a (reported_use b ∷ reported_use c ∷ reported_use d ∷ []) s s' s s' g in
    let m : Next b s s' (after a s) (after a s') (items_of (reported_use c ∷ reported_use d ∷ [])) = used_given b (reported_use c ∷ reported_use d ∷ []) s s' (after a s) (after a s') n.rest in
    let l : Next c s s' (after b (after a s)) (after b (after a s')) (items_of (reported_use d ∷ [])) = used_given c (reported_use d ∷ []) s s' (after b (after a s)) (after b (after a s')) m.rest in
    let e : List Reg = after c (after b (after a s)) in let e' : List Reg = after c (after b (after a s')) in
    let k : Next d s s' e e' [] = used_given d [] s s' e e' l.rest in
    let x : Reg = register_at a s in let x' : Reg = register_at a s' in
    let y : Reg = register_at b (after a s) in let y' : Reg = register_at b (after a s') in
    let z : Reg = register_at c (after b (after a s)) in let z' : Reg = register_at c (after b (after a s')) in
    let r : Reg = register_at d e in let r' : Reg = register_at d e' in
    single P (mk x y z r) (mk x' y' z' r') (t x && u y && v z && w r) (t x' && u y' && v z' && w r') (row x y z r) (row x' y' z' r') (is x y z r) (is x' y' z' r') h
    (and_passes (t x && u y && v z) (t x' && u y' && v z') (w r) (w r') (and_passes (t x && u y) (t x' && u y') (v z) (v z') (and_passes (t x) (t x') (u y) (u y') (T a x x' n.given) (U b y y' m.given)) (V c z z' l.given)) (W d r r' k.given))

-- a vector register that is an input too
pub reuse_vector1 : (P : Place) (mk : Reg → Reg → Inst) (row : Reg → Reg → Option MachineInstruction) → ((d i : Reg) → IsSingle P (mk d i) (reuses_vector d i) (row d i)) → (d i : Reg) (s s' : List Reg) → IsVirtual d → IsVirtual i → Gives s s' s s' (items_of (reported_reuse d ∷ reported_use i ∷ [])) →
    refusal P (mk (register_at d s') (register_at i (after d s'))) ≡ None → IsNotBlamed (refusal P (mk (register_at d s) (register_at i (after d s))))
reuse_vector1 P mk row is d i s s' v w g h =
    let n : Reused d i s s' [] = reused_given d i [] s s' v w g in
    let x : Reg = register_at d s in let x' : Reg = register_at d s' in
    let y : Reg = register_at i (after d s) in let y' : Reg = register_at i (after d s') in
    single P (mk x y) (mk x' y') (reuses_vector x y) (reuses_vector x' y') (row x y) (row x' y') (is x y) (is x' y') h n.vector

pub reuse_vector2 : (P : Place) (mk : Reg → Reg → Reg → Inst) (row : Reg → Reg → Reg → Option MachineInstruction) → ((d i m : Reg) → IsSingle P (mk d i m) (reuses_vector d i && is_vector m) (row d i m)) → (d i m : Reg) (s s' : List Reg) → IsVirtual d → IsVirtual i →
    Gives s s' s s' (items_of (reported_reuse d ∷ reported_use i ∷ reported_use m ∷ [])) → refusal P (mk (register_at d s') (register_at i (after d s')) (register_at m (after i (after d s')))) ≡ None → IsNotBlamed (refusal P (mk (register_at d s) (register_at i (after d s)) (register_at m (after i (after d s)))))
reuse_vector2 P mk row is d i m s s' v w g h =
    let n : Reused d i s s' (items_of (reported_use m ∷ [])) = reused_given d i (reported_use m ∷ []) s s' v w g in
    let k : Next m s s' (after i (after d s)) (after i (after d s')) [] = used_given m [] s s' (after i (after d s)) (after i (after d s')) n.rest in
    let x : Reg = register_at d s in let x' : Reg = register_at d s' in
    let y : Reg = register_at i (after d s) in let y' : Reg = register_at i (after d s') in
    let z : Reg = register_at m (after i (after d s)) in let z' : Reg = register_at m (after i (after d s')) in
    single P (mk x y z) (mk x' y' z') (reuses_vector x y && is_vector z) (reuses_vector x' y' && is_vector z') (row x y z) (row x' y' z') (is x y z) (is x' y' z') h (and_passes (reuses_vector x y) (reuses_vector x' y') (is_vector z) (is_vector z') n.vector k.given.vector)

-- two general registers behind it
pub reuse_vector3 : (P : Place) (mk : Reg → Reg → Reg → Reg → Inst) (row : Reg → Reg → Reg → Reg → Option MachineInstruction) → ((d i m b : Reg) → IsSingle P (mk d i m b) (reuses_vector d i && is_general m && is_general b) (row d i m b)) → (d i m b : Reg) (s s' : List Reg) → IsVirtual d → IsVirtual i →
    Gives s s' s s' (items_of (reported_reuse d ∷ reported_use i ∷ reported_use m ∷ reported_use b ∷ [])) → refusal P (mk (register_at d s') (register_at i (after d s')) (register_at m (after i (after d s'))) (register_at b (after m (after i (after d s'))))) ≡ None →
    IsNotBlamed (refusal P (mk (register_at d s) (register_at i (after d s)) (register_at m (after i (after d s))) (register_at b (after m (after i (after d s))))))
reuse_vector3 P mk row is d i m b s s' v w g h =
    let n : Reused d i s s' (items_of (reported_use m ∷ reported_use b ∷ [])) = reused_given d i (reported_use m ∷ reported_use b ∷ []) s s' v w g in
    let t : List Reg = after i (after d s) in let t' : List Reg = after i (after d s') in
    let k : Next m s s' t t' (items_of (reported_use b ∷ [])) = used_given m (reported_use b ∷ []) s s' t t' n.rest in
    let l : Next b s s' (after m t) (after m t') [] = used_given b [] s s' (after m t) (after m t') k.rest in
    let x : Reg = register_at d s in let x' : Reg = register_at d s' in
    let y : Reg = register_at i (after d s) in let y' : Reg = register_at i (after d s') in
    let z : Reg = register_at m t in let z' : Reg = register_at m t' in
    let r : Reg = register_at b (after m t) in let r' : Reg = register_at b (after m t') in
    single P (mk x y z r) (mk x' y' z' r') (reuses_vector x y && is_general z && is_general r) (reuses_vector x' y' && is_general z' && is_general r') (row x y z r) (row x' y' z' r') (is x y z r) (is x' y' z' r') h
    (and_passes (reuses_vector x y && is_general z) (reuses_vector x' y' && is_general z') (is_general r) (is_general r') (and_passes (reuses_vector x y) (reuses_vector x' y') (is_general z) (is_general z') n.vector k.given.passes) l.given.passes)

-- ---- vector instructions that are several machine instructions

-- they have the causes of their first machine instruction
pub first_row : Option (List MachineInstruction) → Option MachineInstruction
first_row None = None
first_row (Some []) = Some (rr opcodes.BCR 0 7)
first_row (Some (row ∷ rows)) = Some row

pub rows_single : (rows : Option (List MachineInstruction)) (valid : Bool) → rows_cause rows valid ≡ cause_or (single_with valid (first_row rows)) (Some BadOperator)
unfolding first_row
rows_single None valid = refl
rows_single (Some []) valid = refl
rows_single (Some (row ∷ rows)) valid = refl

pub reverse_single : (P : Place) (count : ℕ) (d n : Reg) → IsSingle P (Vector (VecEltRev count d n)) (is_vector d && is_vector n) (first_row (reversing_rows count (number_of d) (number_of n)))
reverse_single P count d n =
    ap (λ c. first_emit_cause (facility_cause P.flags (Vector (VecEltRev count d n))) c) (rows_single (reversing_rows count (number_of d) (number_of n)) (is_vector d && is_vector n))

pub reverse : (P : Place) (count : ℕ) (d n : Reg) (s s' : List Reg) → Gives s s' s s' (items_of (reported_def d ∷ reported_use n ∷ [])) → refusal P (Vector (VecEltRev count (register_at d s') (register_at n (after d s')))) ≡ None →
    IsNotBlamed (refusal P (Vector (VecEltRev count (register_at d s) (register_at n (after d s)))))
reverse P count d n s s' g h =
    mixed2 P reported_def defined_given (λ d n. Vector (VecEltRev count d n)) is_vector is_vector float_kept float_kept (λ d n. first_row (reversing_rows count (number_of d) (number_of n))) (λ d n. reverse_single P count d n) d n s s' g h

-- ---- vector registers in memory

-- an access by some row, if there is one
abbrev pub IsVectorAccess : Bool → MemArg → Option MemoryInstruction → Type 0
IsVectorAccess valid m o = (o ≡ None) ⊎ ((form : StorageForm) × (o ≡ access_vector valid form m))

pub elements_accessed : (opcode : ℕ) (r : Reg) (code : Option ℕ) (m : MemArg) → IsVectorAccess (is_vector r) m (access_elements opcode r code m)
elements_accessed opcode r None m = inl refl
elements_accessed opcode r (Some code) m = inr (VrxForm (number_of r) opcode code, refl)

pub one_accessed : (b valid : Bool) (m : MemArg) (o p : Option MemoryInstruction) → IsVectorAccess valid m o → IsVectorAccess valid m p → IsVectorAccess valid m (cond b o p)
one_accessed true valid m o p x y = x
one_accessed false valid m o p x y = y

pub lane_accessed : (valid : Bool) (opcode : ℕ → ℕ) (r : ℕ) (code : Option ℕ) (size lane : ℕ) (m : MemArg) → IsVectorAccess valid m (access_lane valid opcode r code size lane m)
lane_accessed valid opcode r None size lane m = inl refl
lane_accessed valid opcode r (Some code) size lane m = one_accessed (is_lane size lane) valid m (access_vector valid (VrxForm r (opcode code) lane) m) None (inr (VrxForm r (opcode code) lane, refl)) (inl refl)

-- the leftmost element has other rows
pub left_accessed : (left : ℕ → ℕ → StorageForm) (opcode : ℕ → ℕ) (r : Reg) (size lane : ℕ) (m : MemArg) →
    IsVectorAccess (is_vector r) m (cond (is_left_lane size lane (number_of r)) (access_vector (is_vector r) (left size (number_of r)) m) (access_lane (is_vector r) opcode (number_of r) (element_code size) size lane m))
left_accessed left opcode r size lane m =
    one_accessed (is_left_lane size lane (number_of r)) (is_vector r) m (access_vector (is_vector r) (left size (number_of r)) m) (access_lane (is_vector r) opcode (number_of r) (element_code size) size lane m) (inr (left size (number_of r), refl)) (lane_accessed (is_vector r) opcode (number_of r) (element_code size) size lane m)

vector_follows : (v v' : Bool) (m m' : MemArg) (o o' : Option MemoryInstruction) → IsVectorAccess v m o → IsVectorAccess v' m' o' → Passes v' v → Passes (operand_general m') (operand_general m) → loses_base m ≡ false → AllFollow o o'
vector_follows v v' m m' o o' (inl e) x' f p k = subst (λ z. AllFollow z o') (sym e) tt
vector_follows v v' m m' o o' (inr x) (inl e) f p k = subst (λ z. AllFollow z o') (sym x.1) (subst (λ z. AllFollow (access_vector v x.0 m) z) (sym e) tt)
vector_follows v v' m m' o o' (inr x) (inr x') f p k = subst (λ z. AllFollow z o') (sym x.1) (subst (λ z. AllFollow (access_vector v x.0 m) z) (sym x'.1) (record { valid = f; general = p; keeps_base = k; reads_none = refl }))

pub vector_access : (P : Place) (f : Reg → Option Reported) → IsGiven f → (mk : Reg → MemArg → Inst) (o : Reg → MemArg → Option MemoryInstruction) → ((a : Reg) (m : MemArg) → IsVectorAccess (is_vector a) m (o a m)) → ((a : Reg) (m : MemArg) → IsAccess P (mk a m) (o a (resolved_operand P.state m))) →
    (a : Reg) (m : MemArg) (s s' : List Reg) → MemoryMayStand m → Gives s s' s s' (items_of (f a ∷ memory_requests m)) → refusal P (mk (register_at a s') (memory_at m (after a s')).0) ≡ None → IsNotBlamed (refusal P (mk (register_at a s) (memory_at m (after a s)).0))
vector_access P f F mk o by is a m s s' may g h =
    let n : Next a s s' s s' (items_of (memory_requests m)) = F a (memory_requests m) s s' s s' g in
    let k : Addressed P.state m (after a s) (after a s') = addressed_by P.state m s s' (after a s) (after a s') may n.rest in
    let x : Reg = register_at a s in let x' : Reg = register_at a s' in
    let y : MemArg = (memory_at m (after a s)).0 in let y' : MemArg = (memory_at m (after a s')).0 in
    let z : MemArg = resolved_operand P.state y in let z' : MemArg = resolved_operand P.state y' in
    accessing P (mk x y) (mk x' y') (o x z) (o x' z') (is x y) (is x' y') h (vector_follows (is_vector x) (is_vector x') z z' (o x z) (o x' z') (by x z) (by x' z') n.given.vector k.general k.keeps)

pub reuse_vector_access : (P : Place) (mk : Reg → Reg → MemArg → Inst) (o : Reg → Reg → MemArg → Option MemoryInstruction) → ((d i : Reg) (m : MemArg) → IsVectorAccess (reuses_vector d i) m (o d i m)) → ((d i : Reg) (m : MemArg) → IsAccess P (mk d i m) (o d i (resolved_operand P.state m))) → (d i : Reg) (m : MemArg) (s s' : List Reg) →
    IsVirtual d → IsVirtual i → MemoryMayStand m → Gives s s' s s' (items_of (reported_reuse d ∷ reported_use i ∷ memory_requests m)) → refusal P (mk (register_at d s') (register_at i (after d s')) (memory_at m (after i (after d s'))).0) ≡ None →
    IsNotBlamed (refusal P (mk (register_at d s) (register_at i (after d s)) (memory_at m (after i (after d s))).0))
reuse_vector_access P mk o by is d i m s s' v w may g h =
    let n : Reused d i s s' (items_of (memory_requests m)) = reused_given d i (memory_requests m) s s' v w g in
    let k : Addressed P.state m (after i (after d s)) (after i (after d s')) = addressed_by P.state m s s' (after i (after d s)) (after i (after d s')) may n.rest in
    let x : Reg = register_at d s in let x' : Reg = register_at d s' in
    let y : Reg = register_at i (after d s) in let y' : Reg = register_at i (after d s') in
    let a : MemArg = (memory_at m (after i (after d s))).0 in let a' : MemArg = (memory_at m (after i (after d s'))).0 in
    let z : MemArg = resolved_operand P.state a in let z' : MemArg = resolved_operand P.state a' in
    accessing P (mk x y a) (mk x' y' a') (o x y z) (o x' y' z') (is x y a) (is x' y' a') h (vector_follows (reuses_vector x y) (reuses_vector x' y') z z' (o x y z) (o x' y' z') (by x y z) (by x' y' z') n.vector k.general k.keeps)
