-- Instructions with an operand in memory, by the shape of their registers.
use Rattle.std.proofs.Common.{◌≡◌, ℕ, nat_lt, nat_le, length, get_or, inl, inr, Bool, true, false, not, ◌&&◌, ◌||◌}
use Rattle.std.proofs.Common.{List, [], ◌∷◌, Option, Some, None, refl, sym, ap, subst, ◌∙◌, ◌++◌}
use Rattle.std.specs.Prelude.{⊤, option_map}
use Rattle.s390x_base.specs.declared.error.EmitError.{EmitError}
use Rattle.s390x_base.specs.declared.error.EmitError.TheVariants.{BadOperator, BadRegister, ScratchConflict, OffsetOutOfRange, UnboundLabel, BadAlignment}
use Rattle.s390x_base.specs.declared.regs.Reg.{Reg}
use Rattle.s390x_base.specs.declared.regs.Reg.TheVariants.{Real, Virtual}
use Rattle.s390x_inst.specs.Emission.{Emission}
use Rattle.s390x_inst.specs.declared.args.MemArg.{MemArg}
use Rattle.s390x_inst.specs.declared.args.MemArg.TheVariants.{BXD12, BXD20, RegOffset, Label, Constant}
use Rattle.s390x_inst.specs.declared.inst.Inst.{Inst}
use Rattle.s390x_operands.specs.declared.constraint.Reported.{Reported}
use Rattle.s390x_operands.specs.Requests.{items_of, memory_requests, scratch_request, reported_use, reported_def, reported_reuse, range_requests}
use Rattle.s390x_assign.specs.Assignments.{register_at, after, memory_at}
use Rattle.s390x_typed_steps.proofs.Causes.{first_left, first_right, unless_true}
use Rattle.s390x_typed_steps.specs.Causes.{first_emit_cause, unless, facility_cause, Declared, bound_cause, alignment_cause, boundary, late_cause, target_cause, loses_scratch, addend_fits, memory_cause, memory_cause_or, instruction_cause}
use Rattle.s390x_typed_steps.specs.Resolved.{resolved_instruction}
use Rattle.s390x_typed_steps.specs.Operands.{resolved_operand, is_numbered, is_far, is_helped, finalized_operand, has_form, loses_base, offset_fits, operand_general}
use Rattle.s390x_typed_steps.specs.Memory.{MemoryInstruction, type_of, operate, compare_and_swap, memory, with_rows, other_rows, without_relative, loaded_memory, StorageForm, multiple, holds_scratch, load_and_operate}
use Rattle.s390x_typed_steps.specs.General.{is_general, reuses}
use Rattle.s390x_alloc_laws.specs.Allocatable.{IsVirtual, MemoryMayStand, IsNotBlamed, Place, refusal, own_refusal, lacks_row, IsFreeRange}
use Rattle.std.proofs.lemmas.Bool.{lt-leb, and_right}
use Rattle.s390x_alloc_laws.proofs.Given.{clear, operator_clear, unless_clear, first_clear, facility_clear, Passes, and_passes, Gives, Next, used_given, defined_given, Reused, reused_given}
use Rattle.s390x_alloc_laws.proofs.Given.{IsGiven, virtual_addresses}

-- ---- instructions with a memory operand

-- where the one is valid, so is the other; and no helper comes in the way of that
pub record Follows (x x' : MemoryInstruction) : Type 0 where
  pub valid : Passes x'.operands_valid x.operands_valid
  pub general : Passes (operand_general x'.operand) (operand_general x.operand)
  pub keeps_base : loses_base x.operand ≡ false
  pub reads_none : x.reads_scratch ≡ false

abbrev pub AllFollow : Option MemoryInstruction → Option MemoryInstruction → Type 0
AllFollow (Some x) (Some x') = Follows x x'
AllFollow o o' = ⊤

bound_clear : (D : Declared) (m : MemArg) → IsNotBlamed (bound_cause D m)
bound_clear D (Label target) = unless_clear (nat_lt target.0 D.blocks) UnboundLabel ((λ h. absurd (cc)), (λ h. absurd (cc)))
bound_clear D (Constant c) = unless_clear (nat_lt c.0 (length D.aligns)) UnboundLabel ((λ h. absurd (cc)), (λ h. absurd (cc)))
bound_clear D m = clear

alignment_clear : (D : Declared) (boundary : ℕ) (m : MemArg) → IsNotBlamed (alignment_cause D boundary m)
alignment_clear D b (Label target) = unless_clear (nat_le b 2) BadAlignment ((λ h. absurd (cc)), (λ h. absurd (cc)))
alignment_clear D b (Constant c) = unless_clear (nat_le b (get_or D.aligns c.0 0)) BadAlignment ((λ h. absurd (cc)), (λ h. absurd (cc)))
alignment_clear D b m = clear

pub keeps_scratch : (x : MemoryInstruction) → loses_base x.operand ≡ false → x.reads_scratch ≡ false → loses_scratch x ≡ false
keeps_scratch x p q =
    let helped : Bool = is_helped (finalized_operand (type_of x.form x.accesses) x.operand).helpers in
    ap (λ b. b || (x.reads_scratch && helped)) p ∙ ap (λ b. b && helped) q

late_clear : (x : MemoryInstruction) → loses_scratch x ≡ false → IsNotBlamed (late_cause x)
late_clear x h =
    let rest : Bool = offset_fits x.operand && addend_fits x.operand in
    subst (λ b. IsNotBlamed (first_emit_cause (unless (not b) ScratchConflict) (unless rest OffsetOutOfRange))) (sym h) (unless_clear rest OffsetOutOfRange ((λ e. absurd (cc)), (λ e. absurd (cc))))

-- its registers may stand there
abbrev pub AreValid : Option MemoryInstruction → Type 0
AreValid None = ⊥
AreValid (Some x) = (x.operands_valid && operand_general x.operand) ≡ true

memory_valid : (D : Declared) (x : MemoryInstruction) → memory_cause D x ≡ None → (x.operands_valid && operand_general x.operand) ≡ true
memory_valid D x h =
    let form : Option EmitError = unless (has_form (type_of x.form x.accesses) x.operand) BadOperator in
    let registers : Option EmitError = unless (x.operands_valid && operand_general x.operand) BadRegister in
    let later : Option EmitError = first_emit_cause (late_cause x) (target_cause D x) in
    unless_true (x.operands_valid && operand_general x.operand) BadRegister (first_left registers later (first_right form (first_emit_cause registers later) h))

pub whole_valid : (D : Declared) (o : Option MemoryInstruction) → memory_cause_or D o (Some BadOperator) ≡ None → AreValid o
whole_valid D None h = absurd (cc)
whole_valid D (Some x) h = memory_valid D x h

other_valid : (D : Declared) (x : MemoryInstruction) (rows : Option StorageForm) → memory_cause_or D (option_map (with_rows x) rows) (Some BadOperator) ≡ None → (x.operands_valid && operand_general x.operand) ≡ true
other_valid D x None h = absurd (cc)
other_valid D x (Some form) h = memory_valid D (with_rows x form) h

loaded_valid : (D : Declared) (o : Option MemoryInstruction) → memory_cause_or D (without_relative o) (Some BadOperator) ≡ None → AreValid o
loaded_valid D None h = absurd (cc)
loaded_valid D (Some x) h = other_valid D x (other_rows x.form x.accesses) h

memory_clear : (D : Declared) (x x' : MemoryInstruction) → (x'.operands_valid && operand_general x'.operand) ≡ true → Follows x x' → IsNotBlamed (memory_cause D x)
memory_clear D x x' valid' f =
    let registers : Bool = x.operands_valid && operand_general x.operand in
    let later : Option EmitError = first_emit_cause (late_cause x) (target_cause D x) in
    let valid : registers ≡ true = and_passes x.operands_valid x'.operands_valid (operand_general x.operand) (operand_general x'.operand) f.valid f.general valid' in
    let end : IsNotBlamed later = first_clear (late_cause x) (target_cause D x) (late_clear x (keeps_scratch x f.keeps_base f.reads_none)) (first_clear (bound_cause D x.operand) (alignment_cause D (boundary x) x.operand) (bound_clear D x.operand) (alignment_clear D (boundary x) x.operand)) in
    first_clear (unless (has_form (type_of x.form x.accesses) x.operand) BadOperator) (first_emit_cause (unless registers BadRegister) later) (unless_clear (has_form (type_of x.form x.accesses) x.operand) BadOperator operator_clear)
    (subst (λ b. IsNotBlamed (first_emit_cause (unless b BadRegister) later)) (sym valid) end)

whole_clear : (D : Declared) (o o' : Option MemoryInstruction) → AreValid o' → AllFollow o o' → IsNotBlamed (memory_cause_or D o (Some BadOperator))
whole_clear D None o' h f = operator_clear
whole_clear D (Some x) None h f = absurd h
whole_clear D (Some x) (Some x') h f = memory_clear D x x' h f

other_clear : (D : Declared) (x x' : MemoryInstruction) (rows : Option StorageForm) → (x'.operands_valid && operand_general x'.operand) ≡ true → Follows x x' → IsNotBlamed (memory_cause_or D (option_map (with_rows x) rows) (Some BadOperator))
other_clear D x x' None h f = operator_clear
other_clear D x x' (Some form) h f = memory_clear D (with_rows x form) x' h (record { valid = f.valid; general = f.general; keeps_base = f.keeps_base; reads_none = f.reads_none })

loaded_clear : (D : Declared) (o o' : Option MemoryInstruction) → AreValid o' → AllFollow o o' → IsNotBlamed (memory_cause_or D (without_relative o) (Some BadOperator))
loaded_clear D None o' h f = operator_clear
loaded_clear D (Some x) None h f = absurd h
loaded_clear D (Some x) (Some x') h f = other_clear D x x' (other_rows x.form x.accesses) h f

-- an instruction as it stands there, and its rows with an operand in memory, whole or with the operand's address loaded first
abbrev pub placed_in : Place → Inst → Inst
placed_in P j = resolved_instruction P.state j

abbrev pub IsAccess : Place → Inst → Option MemoryInstruction → Type 0
IsAccess P j o = (memory (placed_in P j) ≡ o) × (instruction_cause P.flags P.declared P.state.nominal P.depth (placed_in P j) ≡ first_emit_cause (facility_cause P.flags (placed_in P j)) (memory_cause_or P.declared o (Some BadOperator)))

body_valid : (P : Place) (j : Inst) (o : Option MemoryInstruction) (lacks : Bool) → IsAccess P j o → own_refusal P lacks (placed_in P j) ≡ None → AreValid o
body_valid P j o false is h =
    whole_valid P.declared o (first_right (facility_cause P.flags (placed_in P j)) (memory_cause_or P.declared o (Some BadOperator)) (sym is.1 ∙ h))
body_valid P j o true is h =
    let facility : Option EmitError = facility_cause P.flags (placed_in P j) in
    let rows : Option EmitError = memory_cause_or P.declared (loaded_memory (placed_in P j)) (Some BadOperator) in
    loaded_valid P.declared o (ap (λ z. memory_cause_or P.declared (without_relative z) (Some BadOperator)) (sym is.0) ∙ first_right facility rows h)

body_clear : (P : Place) (j : Inst) (o o' : Option MemoryInstruction) (lacks : Bool) → IsAccess P j o → AreValid o' → AllFollow o o' → IsNotBlamed (own_refusal P lacks (placed_in P j))
body_clear P j o o' false is valid f =
    let facility : Option EmitError = facility_cause P.flags (placed_in P j) in
    subst (λ c. IsNotBlamed c) (sym is.1) (first_clear facility (memory_cause_or P.declared o (Some BadOperator)) (facility_clear P.flags (placed_in P j)) (whole_clear P.declared o o' valid f))
body_clear P j o o' true is valid f =
    let facility : Option EmitError = facility_cause P.flags (placed_in P j) in
    let rows : Option EmitError = memory_cause_or P.declared (loaded_memory (placed_in P j)) (Some BadOperator) in
    let clears : IsNotBlamed rows = subst (λ z. IsNotBlamed (memory_cause_or P.declared (without_relative z) (Some BadOperator))) (sym is.0) (loaded_clear P.declared o o' valid f) in
    first_clear facility rows (facility_clear P.flags (placed_in P j)) clears

pub access_valid : (P : Place) (j : Inst) (o : Option MemoryInstruction) → IsAccess P j o → refusal P j ≡ None → AreValid o
access_valid P j o is h = body_valid P j o (lacks_row P (placed_in P j)) is h

pub accessing : (P : Place) (j j' : Inst) (o o' : Option MemoryInstruction) → IsAccess P j o → IsAccess P j' o' → refusal P j' ≡ None → AllFollow o o' → IsNotBlamed (refusal P j)
accessing P j j' o o' is is' h f = body_clear P j o o' (lacks_row P (placed_in P j)) is (access_valid P j' o' is' h) f

-- what the registers of an operand have
pub record Addressed (e : Emission) (m : MemArg) (s s' : List Reg) : Type 0 where
  pub general : Passes (operand_general (resolved_operand e (memory_at m s').0)) (operand_general (resolved_operand e (memory_at m s).0))
  pub keeps : loses_base (resolved_operand e (memory_at m s).0) ≡ false

-- other requests may come behind it
addressed_before : (e : Emission) (m : MemArg) (xs : List (Option Reported)) (all all' s s' : List Reg) → MemoryMayStand m → Gives all all' s s' (items_of (memory_requests m ++ xs)) → Addressed e m s s'
addressed_before e (BXD12 base index disp flags) xs all all' s s' may g =
    let n : Next base all all' s s' (items_of (reported_use index ∷ scratch_request ∷ xs)) = used_given base (reported_use index ∷ scratch_request ∷ xs) all all' s s' g in
    let k : Next index all all' (after base s) (after base s') (items_of (scratch_request ∷ xs)) = used_given index (scratch_request ∷ xs) all all' (after base s) (after base s') n.rest in
    record { general = and_passes (is_general (register_at base s)) (is_general (register_at base s')) (is_general (register_at index (after base s))) (is_general (register_at index (after base s'))) n.given.passes k.given.passes; keeps = refl }
addressed_before e (BXD20 base index disp flags) xs all all' s s' may g =
    let n : Next base all all' s s' (items_of (reported_use index ∷ scratch_request ∷ xs)) = used_given base (reported_use index ∷ scratch_request ∷ xs) all all' s s' g in
    let k : Next index all all' (after base s) (after base s') (items_of (scratch_request ∷ xs)) = used_given index (scratch_request ∷ xs) all all' (after base s) (after base s') n.rest in
    record { general = and_passes (is_general (register_at base s)) (is_general (register_at base s')) (is_general (register_at index (after base s))) (is_general (register_at index (after base s'))) n.given.passes k.given.passes; keeps = refl }
addressed_before e (RegOffset reg off flags) xs all all' s s' may g =
    let n : Next reg all all' s s' (items_of (scratch_request ∷ xs)) = used_given reg (scratch_request ∷ xs) all all' s s' g in
    record { general = n.given.passes; keeps = ap (λ b. b && is_far off) (n.given.no_scratch may) }
addressed_before e m xs all all' s s' may g = record { general = λ h. h; keeps = refl }

pub addressed_by : (e : Emission) (m : MemArg) (all all' s s' : List Reg) → MemoryMayStand m → Gives all all' s s' (items_of (memory_requests m)) → Addressed e m s s'
addressed_by e (BXD12 base index disp flags) all all' s s' may g = addressed_before e (BXD12 base index disp flags) [] all all' s s' may g
addressed_by e (BXD20 base index disp flags) all all' s s' may g = addressed_before e (BXD20 base index disp flags) [] all all' s s' may g
addressed_by e (RegOffset reg off flags) all all' s s' may g = addressed_before e (RegOffset reg off flags) [] all all' s s' may g
addressed_by e m all all' s s' may g = record { general = λ h. h; keeps = refl }

-- how the access of a register follows from another one
abbrev IsFollowed : (Reg → MemArg → Option MemoryInstruction) → Type 0
IsFollowed o = (q q' : Reg) (m m' : MemArg) → Passes (is_general q') (is_general q) → is_numbered 1 q ≡ false → Passes (operand_general m') (operand_general m) → loses_base m ≡ false → AllFollow (o q m) (o q' m')

pub access1 : (P : Place) (f : Reg → Option Reported) → IsGiven f → (mk : Reg → MemArg → Inst) (o : Reg → MemArg → Option MemoryInstruction) → IsFollowed o → ((a : Reg) (m : MemArg) → IsAccess P (mk a m) (o a (resolved_operand P.state m))) → (a : Reg) (m : MemArg) (s s' : List Reg) → IsVirtual a →
    MemoryMayStand m → Gives s s' s s' (items_of (f a ∷ memory_requests m)) → refusal P (mk (register_at a s') (memory_at m (after a s')).0) ≡ None → IsNotBlamed (refusal P (mk (register_at a s) (memory_at m (after a s)).0))
access1 P f F mk o follow is a m s s' v may g h =
    let n : Next a s s' s s' (items_of (memory_requests m)) = F a (memory_requests m) s s' s s' g in
    let k : Addressed P.state m (after a s) (after a s') = addressed_by P.state m s s' (after a s) (after a s') may n.rest in
    let x : Reg = register_at a s in let x' : Reg = register_at a s' in
    let y : MemArg = (memory_at m (after a s)).0 in let y' : MemArg = (memory_at m (after a s')).0 in
    accessing P (mk x y) (mk x' y') (o x (resolved_operand P.state y)) (o x' (resolved_operand P.state y')) (is x y) (is x' y') h (follow x x' (resolved_operand P.state y) (resolved_operand P.state y') n.given.passes (n.given.no_scratch (virtual_addresses a v)) k.general k.keeps)

pub access0 : (P : Place) (mk : MemArg → Inst) (o : MemArg → Option MemoryInstruction) → ((m m' : MemArg) → Passes (operand_general m') (operand_general m) → loses_base m ≡ false → AllFollow (o m) (o m')) → ((m : MemArg) → IsAccess P (mk m) (o (resolved_operand P.state m))) → (m : MemArg) (s s' : List Reg) →
    MemoryMayStand m → Gives s s' s s' (items_of (memory_requests m)) → refusal P (mk (memory_at m s').0) ≡ None → IsNotBlamed (refusal P (mk (memory_at m s).0))
access0 P mk o follow is m s s' may g h =
    let k : Addressed P.state m s s' = addressed_by P.state m s s' s s' may g in
    let y : MemArg = (memory_at m s).0 in let y' : MemArg = (memory_at m s').0 in
    accessing P (mk y) (mk y') (o (resolved_operand P.state y)) (o (resolved_operand P.state y')) (is y) (is y') h (follow (resolved_operand P.state y) (resolved_operand P.state y') k.general k.keeps)

-- requests that take no register come behind the operand
pub access_before : (P : Place) (mk : MemArg → Inst) (o : MemArg → Option MemoryInstruction) → ((m m' : MemArg) → Passes (operand_general m') (operand_general m) → loses_base m ≡ false → AllFollow (o m) (o m')) → ((m : MemArg) → IsAccess P (mk m) (o (resolved_operand P.state m))) → (m : MemArg) (xs : List (Option Reported)) (s s' : List Reg) →
    MemoryMayStand m → Gives s s' s s' (items_of (memory_requests m ++ xs)) → refusal P (mk (memory_at m s').0) ≡ None → IsNotBlamed (refusal P (mk (memory_at m s).0))
access_before P mk o follow is m xs s s' may g h =
    let k : Addressed P.state m s s' = addressed_before P.state m xs s s' s s' may g in
    let y : MemArg = (memory_at m s).0 in let y' : MemArg = (memory_at m s').0 in
    accessing P (mk y) (mk y') (o (resolved_operand P.state y)) (o (resolved_operand P.state y')) (is y) (is y') h (follow (resolved_operand P.state y) (resolved_operand P.state y') k.general k.keeps)

pub range_spares : (first last : Reg) → IsFreeRange first last → holds_scratch first last ≡ false
range_spares (Real p) (Real q) (inl h) = ap (λ b. b && nat_le 1 q.number) (lt-leb p.number 1 h)
range_spares (Real p) (Real q) (inr h) = and_right (nat_le p.number 1) (nat_le 1 q.number) (lt-leb 1 q.number h)
range_spares (Real p) (Virtual n c) f = absurd f
range_spares (Virtual n c) last f = absurd f

-- the registers of a range stay
pub range_access : (P : Place) (mk : MemArg → Inst) (first last : Reg) (opcode : ℕ) (reads : Bool) → reads ≡ false → ((x : MemArg) → IsAccess P (mk x) (multiple first last opcode reads (resolved_operand P.state x))) → (m : MemArg) (s s' : List Reg) → MemoryMayStand m →
    Gives s s' s s' (items_of (memory_requests m ++ range_requests first last)) → refusal P (mk (memory_at m s').0) ≡ None → IsNotBlamed (refusal P (mk (memory_at m s).0))
range_access P mk first last opcode reads none is m s s' may g h =
    access_before P mk (multiple first last opcode reads) (λ x x' p k. record { valid = λ z. z; general = p; keeps_base = k; reads_none = none }) is m (range_requests first last) s s' may g h

operate_follows : (row : Bool) (rx rxy : Option ℕ) (d d' i i' : Reg) (m m' : MemArg) → Passes (reuses d' i') (reuses d i) → is_numbered 1 i ≡ false → Passes (operand_general m') (operand_general m) → loses_base m ≡ false → AllFollow (operate row rx rxy d i m) (operate row rx rxy d' i' m')
operate_follows true rx rxy d d' i i' m m' v n p k = record { valid = v; general = p; keeps_base = k; reads_none = n }
operate_follows false rx rxy d d' i i' m m' v n p k = tt

pub reuse_access : (P : Place) (mk : Reg → Reg → MemArg → Inst) (row : Bool) (rx rxy : Option ℕ) → ((d i : Reg) (m : MemArg) → IsAccess P (mk d i m) (operate row rx rxy d i (resolved_operand P.state m))) → (d i : Reg) (m : MemArg) (s s' : List Reg) → IsVirtual d → IsVirtual i → MemoryMayStand m →
    Gives s s' s s' (items_of (reported_reuse d ∷ reported_use i ∷ memory_requests m)) → refusal P (mk (register_at d s') (register_at i (after d s')) (memory_at m (after i (after d s'))).0) ≡ None → IsNotBlamed (refusal P (mk (register_at d s) (register_at i (after d s)) (memory_at m (after i (after d s))).0))
reuse_access P mk row rx rxy is d i m s s' v w may g h =
    let n : Reused d i s s' (items_of (memory_requests m)) = reused_given d i (memory_requests m) s s' v w g in
    let k : Addressed P.state m (after i (after d s)) (after i (after d s')) = addressed_by P.state m s s' (after i (after d s)) (after i (after d s')) may n.rest in
    let x : Reg = register_at d s in let x' : Reg = register_at d s' in
    let y : Reg = register_at i (after d s) in let y' : Reg = register_at i (after d s') in
    let z : MemArg = (memory_at m (after i (after d s))).0 in let z' : MemArg = (memory_at m (after i (after d s'))).0 in
    accessing P (mk x y z) (mk x' y' z') (operate row rx rxy x y (resolved_operand P.state z)) (operate row rx rxy x' y' (resolved_operand P.state z')) (is x y z) (is x' y' z') h (operate_follows row rx rxy x x' y y' (resolved_operand P.state z) (resolved_operand P.state z') n.passes n.no_scratch k.general k.keeps)

pub swap_access : (P : Place) (mk : Reg → Reg → Reg → MemArg → Inst) (rs : Option ℕ) (opcode : ℕ) → ((d i b : Reg) (m : MemArg) → IsAccess P (mk d i b m) (compare_and_swap rs opcode d i b (resolved_operand P.state m))) → (d i b : Reg) (m : MemArg) (s s' : List Reg) → IsVirtual d → IsVirtual i → IsVirtual b →
    MemoryMayStand m → Gives s s' s s' (items_of (reported_reuse d ∷ reported_use i ∷ reported_use b ∷ memory_requests m)) → refusal P (mk (register_at d s') (register_at i (after d s')) (register_at b (after i (after d s'))) (memory_at m (after b (after i (after d s')))).0) ≡ None →
    IsNotBlamed (refusal P (mk (register_at d s) (register_at i (after d s)) (register_at b (after i (after d s))) (memory_at m (after b (after i (after d s)))).0))
swap_access P mk rs opcode is d i b m s s' v w u may g h =
    let n : Reused d i s s' (items_of (reported_use b ∷ memory_requests m)) = reused_given d i (reported_use b ∷ memory_requests m) s s' v w g in
    let t : List Reg = after i (after d s) in let t' : List Reg = after i (after d s') in
    let l : Next b s s' t t' (items_of (memory_requests m)) = used_given b (memory_requests m) s s' t t' n.rest in
    let k : Addressed P.state m (after b t) (after b t') = addressed_by P.state m s s' (after b t) (after b t') may l.rest in
    let x : Reg = register_at d s in let x' : Reg = register_at d s' in
    let y : Reg = register_at i (after d s) in let y' : Reg = register_at i (after d s') in
    let c : Reg = register_at b t in let c' : Reg = register_at b t' in
    let z : MemArg = (memory_at m (after b t)).0 in let z' : MemArg = (memory_at m (after b t')).0 in
    accessing P (mk x y c z) (mk x' y' c' z') (compare_and_swap rs opcode x y c (resolved_operand P.state z)) (compare_and_swap rs opcode x' y' c' (resolved_operand P.state z')) (is x y c z) (is x' y' c' z') h
    (record { valid = and_passes (reuses x y) (reuses x' y') (is_general c) (is_general c') n.passes l.given.passes; general = k.general; keeps_base = k.keeps; reads_none = ap (λ e. e || is_numbered 1 c) n.no_scratch ∙ l.given.no_scratch (virtual_addresses b u) })

changes_follow : (row : Option ℕ) (d d' n n' : Reg) (m m' : MemArg) → Passes (is_general d' && is_general n') (is_general d && is_general n) → is_numbered 1 n ≡ false → Passes (operand_general m') (operand_general m) → loses_base m ≡ false → AllFollow (load_and_operate row d n m) (load_and_operate row d' n' m')
changes_follow None d d' n n' m m' v k p b = tt
changes_follow (Some opcode) d d' n n' m m' v k p b = record { valid = v; general = p; keeps_base = b; reads_none = k }

-- an operand in memory that is changed by a register, and what it was in another one
pub change_access : (P : Place) (mk : Reg → Reg → MemArg → Inst) (row : Option ℕ) → ((d n : Reg) (m : MemArg) → IsAccess P (mk d n m) (load_and_operate row d n (resolved_operand P.state m))) → (d n : Reg) (m : MemArg) (s s' : List Reg) → IsVirtual n → MemoryMayStand m →
    Gives s s' s s' (items_of (reported_def d ∷ reported_use n ∷ memory_requests m)) → refusal P (mk (register_at d s') (register_at n (after d s')) (memory_at m (after n (after d s'))).0) ≡ None → IsNotBlamed (refusal P (mk (register_at d s) (register_at n (after d s)) (memory_at m (after n (after d s))).0))
change_access P mk row is d n m s s' v may g h =
    let a : Next d s s' s s' (items_of (reported_use n ∷ memory_requests m)) = defined_given d (reported_use n ∷ memory_requests m) s s' s s' g in
    let b : Next n s s' (after d s) (after d s') (items_of (memory_requests m)) = used_given n (memory_requests m) s s' (after d s) (after d s') a.rest in
    let k : Addressed P.state m (after n (after d s)) (after n (after d s')) = addressed_by P.state m s s' (after n (after d s)) (after n (after d s')) may b.rest in
    let x : Reg = register_at d s in let x' : Reg = register_at d s' in
    let y : Reg = register_at n (after d s) in let y' : Reg = register_at n (after d s') in
    let z : MemArg = (memory_at m (after n (after d s))).0 in let z' : MemArg = (memory_at m (after n (after d s'))).0 in
    accessing P (mk x y z) (mk x' y' z') (load_and_operate row x y (resolved_operand P.state z)) (load_and_operate row x' y' (resolved_operand P.state z')) (is x y z) (is x' y' z') h
    (changes_follow row x x' y y' (resolved_operand P.state z) (resolved_operand P.state z') (and_passes (is_general x) (is_general x') (is_general y) (is_general y') a.given.passes b.given.passes) (b.given.no_scratch (virtual_addresses n v)) k.general k.keeps)
