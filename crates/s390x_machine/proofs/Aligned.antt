-- Accesses of operands relative to the instruction stand on the boundary of their bytes.
use Rattle.std.proofs.Common.{◌≡◌, ℕ, ◌%◌, ◌≤◌, inl, inr, ◌⊎◌, Option, Some, None, option_map, Bool, true, false, cond, ◌||◌, get_or, IsTrue, refl, sym, ap, ◌∙◌, subst, arith}
use Rattle.std.specs.Prelude.{nat_eq, nat_le, ◌&&◌, not}
use Rattle.std.proofs.lemmas.Bool.{eq-eqb, eqb-true, leb-true}
use Rattle.s390x_base.specs.Regs.{number_of}
use Rattle.s390x_base.specs.declared.regs.Reg.{Reg}
use Rattle.s390x_typed_steps.specs.General.{is_general}
use Rattle.s390x_base.specs.declared.error.EmitError.TheVariants.{BadAlignment}
use Rattle.s390x_buffer.specs.State.{is_alignment}
use Rattle.s390x_inst.specs.declared.args.MemArg.{MemArg}
use Rattle.s390x_inst.specs.declared.args.MemArg.TheVariants.{Label, Constant}
use Rattle.s390x_inst.specs.declared.load.LoadOp.{LoadOp}
use Rattle.s390x_inst.specs.declared.load.LoadOp.TheVariants as LoadOps
use Rattle.s390x_inst.specs.declared.store.StoreOp.{StoreOp}
use Rattle.s390x_inst.specs.declared.store.StoreOp.TheVariants as StoreOps
use Rattle.s390x_inst.proofs.Transfers.{Transfer, LoadOf, StoreOf, as_transfer, by_transfer}
use Rattle.s390x_inst.specs.declared.inst.Inst.{Inst}
use Rattle.s390x_inst.specs.declared.inst.Inst.TheVariants as I
use Rattle.s390x_inst.specs.declared.ops.CmpOp.{CmpOp}
use Rattle.s390x_inst.specs.declared.ops.CmpOp.TheVariants as C
use Rattle.s390x_typed_steps.proofs.RelativeRows.{rest_none}
use Rattle.s390x_typed_steps.specs.Causes.{bound_cause, relative_access, boundary, alignment_cause}
use Rattle.s390x_typed_steps.specs.Memory.{StorageForm, RxForm, MemoryInstruction, load_memory, load_rows, store_memory, store_rows, memory, rest_memory, type_of, other_rows, with_rows, without_relative}
use Rattle.s390x_typed_steps.specs.Operands.{is_numbered, is_relative, needs_address}
use Rattle.s390x_typed_steps.specs.Storage.{cmp_rx, cmp_rxy, cmp_ril, relative_bytes}
use Rattle.s390x_typed_steps.specs.declared.mem_inst_type.MemInstType.{MemInstType}
use Rattle.s390x_operations.specs.State.{Registers, reaches, wrapping_add64}
use Rattle.s390x_operations.specs.Access.{is_misaligned, reach_fault, fault}
use Rattle.s390x_operations.specs.Effects.{access}
use Rattle.s390x_operations.specs.declared.effect.Operation.{Operation}
use Rattle.s390x_operations.specs.declared.stop.StopKind.TheVariants.{Access, Specification}
use Rattle.s390x_machine.specs.Aligned.{IsOwn, OwnOperand, IsOnBoundary, relative_row, relative_row_of, StepAccesses, NeverMisaligned}
use Rattle.s390x_machine.specs.Computations.{comparison}
use Rattle.s390x_machine.specs.StepKinds.{performed_at, performed_by, performed_in_memory}
use Rattle.s390x_machine.specs.Layout.{Layout, declarations, constant_address}
use Rattle.s390x_machine.specs.CodeAt.{AllCodeAt, IsValidMemory, ValidMemoryOr}
use Rattle.s390x_machine.specs.Storage.{OperandStep, accesses_at, load_step, loaded_value, store_step, stored_value, operand_address, operand_step, rest_operand_step, cmp_forms, loads_at, stores_at, compares_at, aligned_effect, aligned_where}
use Rattle.s390x_machine.proofs.Relative.{first_none, unless_none, label_known, constant_known}
use Rattle.s390x_machine.proofs.Standing.{image_at}

-- ---- boundaries

-- one of the numbers of bytes that an access has
IsPower : ℕ → Type 0
IsPower n = (n ≡ 1) ⊎ ((n ≡ 2) ⊎ ((n ≡ 4) ⊎ (n ≡ 8)))

bytes_power : (two eight : Bool) → IsPower (cond two 2 (cond eight 8 4))
unfolding IsPower
bytes_power true eight = inr (inl refl)
bytes_power false true = inr (inr (inr refl))
bytes_power false false = inr (inr (inl refl))

access_power : (access : Bool) (n : ℕ) → IsPower n → IsPower (cond access n 1)
unfolding IsPower
access_power true n power = power
access_power false n power = inl refl

boundary_power : (form : StorageForm) (mi : MemInstType) (accesses : Bool) (m : MemArg) → IsPower (relative_access form mi accesses m)
unfolding IsPower
boundary_power (RxForm register short long (Some opcode)) mi accesses m = access_power (accesses && is_relative m && not (needs_address mi m)) (relative_bytes opcode) (bytes_power _ _)
boundary_power (RxForm register short long None) mi accesses m = inl refl
boundary_power form mi accesses m = inl refl

-- a multiple of a power of two is one of each smaller one
on_1 : (a b : ℕ) → IsPower b → b ≤ 1 → a % b ≡ 0
unfolding IsPower
on_1 a b (inl e) le = subst (λ n. a % n ≡ 0) (sym e) (omega arith)
on_1 a b (inr (inl e)) le = absurd (omega (arith, e, le))
on_1 a b (inr (inr (inl e))) le = absurd (omega (arith, e, le))
on_1 a b (inr (inr (inr e))) le = absurd (omega (arith, e, le))

on_2 : (a b : ℕ) → IsPower b → b ≤ 2 → a % 2 ≡ 0 → a % b ≡ 0
unfolding IsPower
on_2 a b (inl e) le h = subst (λ n. a % n ≡ 0) (sym e) (omega arith)
on_2 a b (inr (inl e)) le h = subst (λ n. a % n ≡ 0) (sym e) h
on_2 a b (inr (inr (inl e))) le h = absurd (omega (arith, e, le))
on_2 a b (inr (inr (inr e))) le h = absurd (omega (arith, e, le))

on_4 : (a b : ℕ) → IsPower b → b ≤ 4 → a % 4 ≡ 0 → a % b ≡ 0
unfolding IsPower
on_4 a b (inr (inr (inl e))) le h = subst (λ n. a % n ≡ 0) (sym e) h
on_4 a b (inl e) le h = subst (λ n. a % n ≡ 0) (sym e) (omega arith)
on_4 a b (inr (inl e)) le h = subst (λ n. a % n ≡ 0) (sym e) (omega (arith, h))
on_4 a b (inr (inr (inr e))) le h = absurd (omega (arith, e, le))

on_8 : (a b : ℕ) → IsPower b → a % 8 ≡ 0 → a % b ≡ 0
unfolding IsPower
on_8 a b (inl e) h = subst (λ n. a % n ≡ 0) (sym e) (omega arith)
on_8 a b (inr (inl e)) h = subst (λ n. a % n ≡ 0) (sym e) (omega (arith, h))
on_8 a b (inr (inr (inl e))) h = subst (λ n. a % n ≡ 0) (sym e) (omega (arith, h))
on_8 a b (inr (inr (inr e))) h = subst (λ n. a % n ≡ 0) (sym e) h

either_of : (a b : Bool) → IsTrue (a || b) → IsTrue a ⊎ IsTrue b
either_of true b h = inl refl
either_of false b h = inr h

on_alignment : (a b align : ℕ) → IsPower b → b ≤ align → IsTrue (is_alignment align) → a % align ≡ 0 → a % b ≡ 0
on_alignment a b align power le is h = sixteen (either_of (nat_eq align 1 || nat_eq align 2 || nat_eq align 4 || nat_eq align 8) (nat_eq align 16) is)
  where
    two : IsTrue (nat_eq align 1) ⊎ IsTrue (nat_eq align 2) → a % b ≡ 0
    two (inl e) = on_1 a b power (omega (arith, le, eqb-true align 1 e))
    two (inr e) = on_2 a b power (omega (arith, le, eqb-true align 2 e)) (subst (λ n. a % n ≡ 0) (eqb-true align 2 e) h)

    four : IsTrue (nat_eq align 1 || nat_eq align 2) ⊎ IsTrue (nat_eq align 4) → a % b ≡ 0
    four (inl e) = two (either_of (nat_eq align 1) (nat_eq align 2) e)
    four (inr e) = on_4 a b power (omega (arith, le, eqb-true align 4 e)) (subst (λ n. a % n ≡ 0) (eqb-true align 4 e) h)

    eight : IsTrue (nat_eq align 1 || nat_eq align 2 || nat_eq align 4) ⊎ IsTrue (nat_eq align 8) → a % b ≡ 0
    eight (inl e) = four (either_of (nat_eq align 1 || nat_eq align 2) (nat_eq align 4) e)
    eight (inr e) = on_8 a b power (subst (λ n. a % n ≡ 0) (eqb-true align 8 e) h)

    sixteen : IsTrue (nat_eq align 1 || nat_eq align 2 || nat_eq align 4 || nat_eq align 8) ⊎ IsTrue (nat_eq align 16) → a % b ≡ 0
    sixteen (inl e) = eight (either_of (nat_eq align 1 || nat_eq align 2 || nat_eq align 4) (nat_eq align 8) e)
    sixteen (inr e) = let wide : a % 16 ≡ 0 = subst (λ n. a % n ≡ 0) (eqb-true align 16 e) h in on_8 a b power (omega (arith, wide))

sum_even : (base o : ℕ) → base % 2 ≡ 0 → o % 2 ≡ 0 → wrapping_add64 base o % 2 ≡ 0
sum_even base o eb eo = omega (arith, eb, eo)

-- blocks stand at even places, constants on their boundaries
own_on_boundary : (L : Layout) → AllCodeAt L → (m : MemArg) (b : ℕ) → IsOwn m → IsPower b → bound_cause (declarations L) m ≡ None → alignment_cause (declarations L) b m ≡ None → IsOnBoundary (operand_address L m) b
own_on_boundary L all (Label target) b own power bound aligned =
    λ r. on_2 (wrapping_add64 L.image.base (L.offsets.block target.0)) b power (leb-true b 2 (unless_none (nat_le b 2) BadAlignment aligned)) (sum_even L.image.base (L.offsets.block target.0) all.even ((image_at L all).block_places target.0 (label_known L target bound)).0)
own_on_boundary L all (Constant c) b own power bound aligned =
    let stands = all.constants c.0 (constant_known L c bound) in
    let align = get_or L.offsets.environment.aligns c.0 0 in
    λ r. on_alignment (constant_address L c.0) b align power (leb-true b align (unless_none (nat_le b align) BadAlignment aligned)) stands.alignment stands.aligned
own_on_boundary L all m b own power bound aligned = absurd own

pub on_boundary : (L : Layout) → AllCodeAt L → (x : MemoryInstruction) → IsValidMemory L x → IsOwn x.operand → IsOnBoundary (operand_address L x.operand) (boundary x)
on_boundary L all x operands_valid own =
    let checked = first_none (bound_cause (declarations L) x.operand) (alignment_cause (declarations L) (boundary x) x.operand) operands_valid.target in
    own_on_boundary L all x.operand (boundary x) own (boundary_power x.form (type_of x.form x.accesses) x.accesses x.operand) checked.0 checked.1

-- ---- bytes

-- what has no other rows has none relative to the instruction
no_row : (o : Option MemoryInstruction) → without_relative o ≡ None → (opcode : ℕ) → relative_row_of o ≡ Some opcode → ⊥
no_row None none opcode e = absurd (cc)
no_row (Some x) none opcode e = go x.form x.accesses none e
  where
    go : (form : StorageForm) (accesses : Bool) → option_map (with_rows x) (other_rows form accesses) ≡ None → relative_row form accesses ≡ Some opcode → ⊥
    go (RxForm register short long (Some o)) true none e = absurd (cc)
    go (RxForm register short long None) true none e = absurd (cc)
    go (RxForm register short long relative) false none e = absurd (cc)
    go form accesses none e = absurd (cc)

-- what a row relative to the instruction accesses, where there is one: this computes for each load, also where there is none
abbrev RowAccesses : Option OperandStep → Option ℕ → Type 0
RowAccesses x None = (address : ℕ) (r : Registers) → (true ≡ true) × (true ≡ true)
RowAccesses x (Some opcode) = StepAccesses x (relative_bytes opcode)

load_accesses : (op : LoadOp) (rd : Reg) (mem : MemArg) → RowAccesses (load_step (record { op = op; rd = rd; mem = mem })) (load_rows op).ril
load_accesses LoadOps.Load64 rd mem = λ address r. (refl, refl)
load_accesses op rd mem = λ address r. (refl, refl)

store_accesses : (op : StoreOp) (rd : Reg) (mem : MemArg) → RowAccesses (store_step (record { op = op; rd = rd; mem = mem })) (store_rows op).ril
store_accesses StoreOps.Store64 rd mem = λ address r. (refl, refl)
store_accesses op rd mem = λ address r. (refl, refl)

cmp_accesses : (op : CmpOp) (n : ℕ) (mem : MemArg) → RowAccesses (accesses_at (cmp_forms op) mem (compares_at (comparison op) n)) (Some (cmp_ril op))
cmp_accesses C.CmpS32 n mem = λ address r. (refl, refl)
cmp_accesses op n mem = λ address r. (refl, refl)

-- of what is none of these, that there is no such row
transfer_bytes_or : (rest : Option MemoryInstruction) → without_relative rest ≡ None → (other : Option OperandStep) (o : Option Transfer) (opcode : ℕ) → relative_row_of (by_transfer load_memory store_memory rest o) ≡ Some opcode → StepAccesses (by_transfer load_step store_step other o) (relative_bytes opcode)
transfer_bytes_or rest none other None opcode e = absurd (no_row rest none opcode e)
transfer_bytes_or rest none other (Some (LoadOf l)) opcode e = subst (λ o. RowAccesses (load_step l) o) e (load_accesses l.op l.rd l.mem)
transfer_bytes_or rest none other (Some (StoreOf s)) opcode e = subst (λ o. RowAccesses (store_step s) o) e (store_accesses s.op s.rd s.mem)

pub bytes_accessed : (i : Inst) (opcode : ℕ) → relative_row_of (memory i) ≡ Some opcode → StepAccesses (operand_step i) (relative_bytes opcode)
bytes_accessed (I.CmpRX op rn mem) opcode e = subst (λ o. RowAccesses (operand_step (I.CmpRX op rn mem)) o) e (cmp_accesses op (number_of rn) mem)
bytes_accessed i opcode e = transfer_bytes_or (rest_memory i) (rest_none i) (rest_operand_step i) (as_transfer i) opcode e

-- ---- no stop by alignment

-- n bytes at a multiple of n
reached_at_multiple : (a n : ℕ) (has : ℕ → Bool) → a % n ≡ 0 → reach_fault (is_misaligned true a n) has a n ≡ Some Specification → ⊥
reached_at_multiple a n has h e = go (reaches has a n) (sym (ap (λ b. cond (not b) (Some Specification) (cond (reaches has a n) None (Some Access))) (eq-eqb (a % n) 0 h)) ∙ e)
  where
    go : (b : Bool) → cond b None (Some Access) ≡ Some Specification → ⊥
    go true h = absurd (cc)
    go false h = absurd (cc)

-- an operation whose aligned access has so many bytes at its address
abbrev AlignedBytes : (ℕ → Registers → Operation) → (size : ℕ) → Type 0
AlignedBytes operation size = (a : ℕ) (r : Registers) (has : ℕ → Bool) → fault (access (aligned_effect (operation a r).effect)) has ≡ reach_fault (is_misaligned true a size) has a size

-- comparisons have the form, and these bytes
cmp_relative : (op : CmpOp) → (cmp_forms op).have_pcrel ≡ true
cmp_relative C.CmpS32 = refl
cmp_relative _ = refl

cmp_bytes : (op : CmpOp) (n : ℕ) → AlignedBytes (compares_at (comparison op) n) (relative_bytes (cmp_ril op))
cmp_bytes C.CmpS32 n a r has = refl
cmp_bytes _ n a r has = refl

-- a row relative to the instruction has the form, and these bytes: this computes for each load and store, also where there is none
abbrev RowIsAligned : MemInstType → (ℕ → Registers → Operation) → Option ℕ → Type 0
RowIsAligned forms operation None = (true ≡ true) × ((a : ℕ) (r : Registers) (has : ℕ → Bool) → true ≡ true)
RowIsAligned forms operation (Some opcode) = (forms.have_pcrel ≡ true) × AlignedBytes operation (relative_bytes opcode)

load_is_aligned : (op : LoadOp) (d : ℕ) → RowIsAligned (loaded_value op).forms (loads_at (loaded_value op).size (loaded_value op).second d) (load_rows op).ril
load_is_aligned LoadOps.Load64 d = (refl, λ a r has. refl)
load_is_aligned op d = (refl, λ a r has. refl)

store_is_aligned : (op : StoreOp) (d : ℕ) → RowIsAligned (stored_value op).forms (stores_at (stored_value op).second d) (store_rows op).ril
store_is_aligned StoreOps.Store64 d = (refl, λ a r has. refl)
store_is_aligned op d = (refl, λ a r has. refl)

module _ (L : Layout) (all : AllCodeAt L) where
  -- an operand at an address, where the rows have its form
  stands_aligned : (size a : ℕ) (operation : ℕ → Registers → Operation) (have : Bool) → have ≡ true → AlignedBytes operation size → a % size ≡ 0 → (r : Registers) (has : ℕ → Bool) → fault (access (aligned_where (not (not have)) (operation a r)).effect) has ≡ Some Specification → ⊥
  stands_aligned size a operation false have bytes multiple r has e = absurd (cc)
  stands_aligned size a operation true have bytes multiple r has e = reached_at_multiple a size has multiple (sym (bytes a r has) ∙ e)

  own_never : (register : ℕ) (short long : Option ℕ) (opcode : ℕ) (m : MemArg) (fits reads : Bool) → IsValidMemory L (record { form = RxForm register short long (Some opcode); operand = m; accesses = true; operands_valid = fits; reads_scratch = reads }) → IsOwn m →
      (forms : MemInstType) (operation : ℕ → Registers → Operation) → forms.have_pcrel ≡ true → AlignedBytes operation (relative_bytes opcode) → NeverMisaligned (performed_at (record { operand = m; forms = forms; accesses = true; operation = operation }) (operand_address L m))
  own_never register short long opcode (Label target) fits reads operands_valid own forms operation have bytes =
      λ r has e. stands_aligned (relative_bytes opcode) (wrapping_add64 L.image.base (L.offsets.block target.0)) operation forms.have_pcrel have bytes (on_boundary L all (record { form = RxForm register short long (Some opcode); operand = Label target; accesses = true; operands_valid = fits; reads_scratch = reads }) operands_valid own r) r has e
  own_never register short long opcode (Constant c) fits reads operands_valid own forms operation have bytes =
      λ r has e. stands_aligned (relative_bytes opcode) (constant_address L c.0) operation forms.have_pcrel have bytes (on_boundary L all (record { form = RxForm register short long (Some opcode); operand = Constant c; accesses = true; operands_valid = fits; reads_scratch = reads }) operands_valid own r) r has e
  own_never register short long opcode m fits reads operands_valid own forms operation have bytes = absurd own

  row_never : (rd : Reg) (short long relative : Option ℕ) (reads : Bool) (mem : MemArg) (forms : MemInstType) (operation : ℕ → Registers → Operation) → RowIsAligned forms operation relative → (opcode : ℕ) → relative ≡ Some opcode →
      ValidMemoryOr L (Some (record { form = RxForm (number_of rd) short long relative; operand = mem; accesses = true; operands_valid = is_general rd; reads_scratch = reads })) ⊥ → IsOwn mem → NeverMisaligned (performed_by L (Some (record { operand = mem; forms = forms; accesses = true; operation = operation })))
  row_never rd short long None reads mem forms operation is opcode e operands_valid own = absurd (cc)
  row_never rd short long (Some o) reads mem forms operation is opcode e operands_valid own = own_never (number_of rd) short long o mem (is_general rd) reads operands_valid own forms operation is.0 is.1

  transfer_never_or : (m : Option MemoryInstruction) → without_relative m ≡ None → (other : Option OperandStep) (o : Option Transfer) (opcode : ℕ) → relative_row_of (by_transfer load_memory store_memory m o) ≡ Some opcode → ValidMemoryOr L (by_transfer load_memory store_memory m o) ⊥ → OwnOperand (by_transfer load_memory store_memory m o) → NeverMisaligned (performed_by L (by_transfer load_step store_step other o))
  transfer_never_or m none other None opcode e operands_valid own = absurd (no_row m none opcode e)
  transfer_never_or m none other (Some (LoadOf l)) opcode e operands_valid own =
      let v = loaded_value l.op in
      row_never l.rd (load_rows l.op).rx (load_rows l.op).rxy (load_rows l.op).ril false l.mem v.forms (loads_at v.size v.second (number_of l.rd)) (load_is_aligned l.op (number_of l.rd)) opcode e operands_valid own
  transfer_never_or m none other (Some (StoreOf s)) opcode e operands_valid own =
      let v = stored_value s.op in
      row_never s.rd (store_rows s.op).rx (store_rows s.op).rxy (store_rows s.op).ril (is_numbered 1 s.rd) s.mem v.forms (stores_at v.second (number_of s.rd)) (store_is_aligned s.op (number_of s.rd)) opcode e operands_valid own

  pub never_misaligned : (i : Inst) (opcode : ℕ) → relative_row_of (memory i) ≡ Some opcode → ValidMemoryOr L (memory i) ⊥ → OwnOperand (memory i) → NeverMisaligned (performed_in_memory L i)
  never_misaligned (I.CmpRX op rn mem) opcode e operands_valid own = own_never (number_of rn) (cmp_rx op) (cmp_rxy op) (cmp_ril op) mem (is_general rn) (is_numbered 1 rn) operands_valid own (cmp_forms op) (compares_at (comparison op) (number_of rn)) (cmp_relative op) (cmp_bytes op (number_of rn))
  never_misaligned i opcode e operands_valid own = transfer_never_or (rest_memory i) (rest_none i) (rest_operand_step i) (as_transfer i) opcode e operands_valid own
