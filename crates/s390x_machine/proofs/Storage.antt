-- A step with an operand in memory: its helpers, which write `%r1` alone, and then its access.
use Rattle.std.proofs.Common.{◌≡◌, ℕ, suc, ◌+◌, ◌%◌, ◌^◌, ◌<◌, ◌≤◌, List, [], ◌∷◌, ◌++◌, length, Option, Some, None, Bool, true, false, cond, refl, sym, ap, ◌∙◌, subst, arith, slice_get}
use Rattle.std.specs.Prelude.{ℤ, pos, negsuc, ◌≤ℤ◌}
use Rattle.std.proofs.lemmas.Bool.{eq-eqb}
use Rattle.std.proofs.lemmas.Option.{slice_get_within}
use Rattle.s390x_base.specs.Regs.{number_of}
use Rattle.s390x_base.specs.declared.regs.Reg.{Reg}
use Rattle.s390x_base.specs.AccessFlags.{AccessFlags}
use Rattle.s390x_base.specs.declared.trap.TrapKind.{TrapKind}
use Rattle.s390x_inst.specs.declared.args.MemArg.{MemArg}
use Rattle.s390x_inst.specs.declared.args.MemArg.TheVariants.{BXD12, BXD20}
use Rattle.s390x_format.specs.declared.kind.FormatKind.{FormatKind}
use Rattle.s390x_format.specs.declared.kind.FormatKind.TheVariants.{Rx, Rxy, Rs, Rsy, Si, Siy, Sil, Vrx}
use Rattle.s390x_format.specs.declared.row.Allowed.{Allowed}
use Rattle.s390x_format.specs.Rows.{is_allowed}
use Rattle.s390x_format.specs.Formats.{length_of}
use Rattle.s390x_format.specs.View.{fields_of, disp_of}
use Rattle.s390x_typed_steps.specs.General.{low_12, low_displacement}
use Rattle.s390x_typed_steps.specs.MachineInstruction.{MachineInstruction, rx, rxy, rs, rsy, si, siy, sil, vrx}
use Rattle.s390x_typed_steps.specs.Memory.{StorageForm, RxForm, RsForm, SiForm, SilForm, VrxForm, FloatForm, type_of}
use Rattle.s390x_typed_steps.specs.Parts.{CodePart, Row, Trapping, TrapHere, part_size, parts_size, access_parts, operand_parts, step_parts}
use Rattle.s390x_typed_steps.specs.Rows.{part_bytes}
use Rattle.s390x_typed_steps.specs.Steps.{Step}
use Rattle.s390x_typed_steps.specs.Traps.{part_traps, parts_traps, first_code}
use Rattle.s390x_operations.specs.State.{Registers, Core, set_general, wrapping_add64}
use Rattle.s390x_operations.specs.Bits.{extended_bits}
use Rattle.s390x_operations.specs.declared.effect.CodeRule.TheVariants.{Kept}
use Rattle.s390x_operations.specs.declared.effect.Operation.{Operation}
use Rattle.s390x_operations.specs.declared.operator.Operator.TheVariants.{Move}
use Rattle.s390x_operations.specs.declared.size.Size.TheVariants.{Doubleword}
use Rattle.s390x_operations.specs.declared.stop.StopKind.{StopKind}
use Rattle.s390x_operations.specs.declared.stop.StopKind.TheVariants as Stop
use Rattle.s390x_format.specs.declared.semantics.RowSemantics.{RowSemantics}
use Rattle.s390x_machine.specs.declared.action_type.Action.TheVariants.{Perform}
use Rattle.s390x_machine.specs.Computations.{Second, with_second, computes_immediate}
use Rattle.s390x_machine.specs.StepKinds.{access_code}
use Rattle.s390x_machine.specs.Layout.{Layout}
use Rattle.s390x_machine.specs.Machine.{Transition}
use Rattle.s390x_machine.specs.Semantics.{action}
use Rattle.s390x_machine.specs.Operands.{address_by_index, address_by_base}
use Rattle.s390x_machine.specs.CodeAt.{CodeAt, ImageAt, PartReaches, PartsReach}
use Rattle.s390x_machine.proofs.Addresses.{sum_more}
use Rattle.s390x_machine.proofs.Listing.{ListedRow, OpcodeRow, OpcodeRows, few_digits}
use Rattle.s390x_machine.proofs.SingleInstruction.{meant_at}
use Rattle.s390x_machine.proofs.Composites.{ChangesTo, row_then, compute_changes}
use Rattle.s390x_machine.proofs.Fetching.{StandsAt}
use Rattle.s390x_machine.proofs.Operands.{read_12, read_20, bits_12, based_indexed}
use Rattle.s390x_machine.proofs.Rows.{fits_rx, fits_rxy, fits_rs, fits_rsy, fits_si, fits_siy, fits_sil, fits_vrx}
use Rattle.s390x_machine.proofs.Simulation.{RowAt, Inside, Simulates, Coded, acts_as}
use Rattle.s390x_operations.specs.Effects.{Refines}
use Rattle.s390x_machine.proofs.Standing.{PartsStand, part_length, part_even, step_stands}
use Rattle.s390x_machine.proofs.Trapping.{code_within, within_image}

-- ---- rows with an operand in memory

-- the action of a row with a base, an index and a displacement
abbrev pub IndexedStep : (register : ℕ) → RowSemantics → (ℕ → Registers → Operation) → Type 0
IndexedStep register semantics operation = (kind : FormatKind) (opcode base index d : ℕ) (r : Registers) (p : ℕ) →
    action semantics (fields_of kind (opcode ∷ register ∷ base ∷ index ∷ 0 ∷ 0 ∷ 0 ∷ 0 ∷ 0 ∷ d ∷ [])) r p ≡ Perform (operation (address_by_index r base index (disp_of d)) r)

-- the rows of an instruction with a register, and what they do with the memory at an address
pub record IndexedForm (register : ℕ) (short long : Option ℕ) (operation : ℕ → Registers → Operation) : Type 0 where
  pub few : register < 16
  pub semantics : RowSemantics
  pub short_rows : OpcodeRows Rx 256 short semantics
  pub long_rows : OpcodeRows Rxy 65536 long semantics
  pub acts : IndexedStep register semantics operation

-- with two registers and no index
pub record BasedForm (first second : ℕ) (short long : Option ℕ) (operation : ℕ → Registers → Operation) : Type 0 where
  pub few : first < 16
  pub few_second : second < 16
  pub semantics : RowSemantics
  pub short_rows : OpcodeRows Rs 256 short semantics
  pub long_rows : OpcodeRows Rsy 65536 long semantics
  pub acts : (kind : FormatKind) (opcode base d : ℕ) (r : Registers) (p : ℕ) → action semantics (fields_of kind (opcode ∷ first ∷ second ∷ base ∷ 0 ∷ 0 ∷ 0 ∷ 0 ∷ 0 ∷ d ∷ [])) r p ≡ Perform (operation (address_by_base r base (disp_of d)) r)

-- with an immediate of 8 bits
pub record ByteForm (imm short long : ℕ) (operation : ℕ → Registers → Operation) : Type 0 where
  pub few : imm < 256
  pub semantics : RowSemantics
  pub short_row : OpcodeRow Si 256 short semantics
  pub long_row : OpcodeRow Siy 65536 long semantics
  pub acts : (kind : FormatKind) (opcode base d : ℕ) (r : Registers) (p : ℕ) → action semantics (fields_of kind (opcode ∷ base ∷ 0 ∷ 0 ∷ 0 ∷ imm ∷ 0 ∷ 0 ∷ 0 ∷ d ∷ [])) r p ≡ Perform (operation (address_by_base r base (disp_of d)) r)

-- with the bits of an immediate of 16 bits
pub record HalfwordForm (bits opcode : ℕ) (operation : ℕ → Registers → Operation) : Type 0 where
  pub few : bits < 2 ^ 16
  pub semantics : RowSemantics
  pub row : OpcodeRow Sil 65536 opcode semantics
  pub acts : (base d : ℕ) (r : Registers) (p : ℕ) → action semantics (fields_of Sil (opcode ∷ base ∷ 0 ∷ 0 ∷ 0 ∷ 0 ∷ 0 ∷ 0 ∷ bits ∷ d ∷ [])) r p ≡ Perform (operation (address_by_base r base (disp_of d)) r)

-- with a vector register and a mask; the row does the operation, or leaves less free
pub record VectorForm (register opcode mask : ℕ) (operation : ℕ → Registers → Operation) : Type 0 where
  pub few : register < 32
  pub few_mask : mask < 16
  pub semantics : RowSemantics
  pub allowed : Allowed
  pub row : ListedRow Vrx allowed 65536 opcode semantics
  pub allows : (base index d : ℕ) → is_allowed allowed (vrx opcode register base index mask d).slots ≡ true
  pub does : ℕ → Registers → Operation
  pub acts : (base index d : ℕ) (r : Registers) (p : ℕ) → action semantics (fields_of Vrx (vrx opcode register base index mask d).slots) r p ≡ Perform (does (address_by_index r base index (disp_of d)) r)
  pub refines : (a : ℕ) (r : Registers) → Refines (does a r) (operation a r)

abbrev pub FormDoes : StorageForm → (ℕ → Registers → Operation) → Type 0
FormDoes (RxForm register short long relative) operation = IndexedForm register short long operation
FormDoes (RsForm first second short long) operation = BasedForm first second short long operation
FormDoes (SiForm imm short long) operation = ByteForm imm short long operation
FormDoes (SilForm bits opcode) operation = HalfwordForm bits opcode operation
FormDoes (VrxForm register opcode mask) operation = VectorForm register opcode mask operation
FormDoes (FloatForm register short long) operation = IndexedForm register (Some short) (Some long) operation

-- ---- the parts of an access

-- the row, with the code of its faults at its first byte where they have one
abbrev pub access_of : Option TrapKind → CodePart → List CodePart
access_of None part = part ∷ []
access_of (Some code) (Row m) = Trapping m 0 code ∷ []
access_of (Some code) part = TrapHere code ∷ part ∷ []

pub access_row : (m : MachineInstruction) (code : Option TrapKind) → access_parts (Some m) code ≡ access_of code (Row m)
access_row m None = refl
access_row m (Some code) = refl

-- an operand that stands in a row as it is, and the address there
pub record Stands (L : Layout) (form : StorageForm) (operand : MemArg) (operation : ℕ → Registers → Operation) (address : Registers → ℕ) : Type 0 where
  pub part : CodePart
  pub is : (code : Option TrapKind) → operand_parts form code operand ≡ access_of code part
  pub some : 0 < part_size part
  pub untrapped : (p : ℕ) → part_traps p part ≡ []
  pub row : (offset : ℕ) → offset % 2 ≡ 0 → StandsAt L.image offset (part_bytes L.offsets offset part) → PartReaches L offset part → RowAt L (wrapping_add64 L.image.base offset) (λ r. Perform (operation (address r) r)) (part_size part)

-- an index may stand there, or there is none
abbrev pub MayIndex : StorageForm → ℕ → Type 0
MayIndex (RsForm first second short long) index = index ≡ 0
MayIndex (SiForm imm short long) index = index ≡ 0
MayIndex (SilForm bits opcode) index = index ≡ 0
MayIndex _ index = Unit {0}

-- a row that does an operation does each freer one
looser_row : (L : Layout) (p size : ℕ) (does operation : Registers → Operation) → ((r : Registers) → Refines (does r) (operation r)) → RowAt L p (λ r. Perform (does r)) size → RowAt L p (λ r. Perform (operation r)) size
looser_row L p size does operation refines row = λ s at loaded event t step. acts_as (Perform (does s.core.registers)) (operation s.core.registers) size s event t (refines s.core.registers) (row s at loaded event t step)

module _ (L : Layout) (image : ImageAt L) (operation : ℕ → Registers → Operation) where
  -- a row of a base and a displacement does it, where there is no index
  unindexed : (r : Registers) (base index n : ℕ) (z : ℤ) → disp_of n ≡ z → index ≡ 0 → Perform (operation (address_by_base r base (disp_of n)) r) ≡ Perform (operation (address_by_index r base index z) r)
  unindexed r base index n z e none = ap (λ a. Perform (operation a r)) (ap (address_by_base r base) e ∙ sym (based_indexed r base z) ∙ ap (λ i. address_by_index r base i z) (sym none))

  pub stands_12 : (form : StorageForm) → FormDoes form operation → (accesses : Bool) → (type_of form accesses).have_d12 ≡ true → (base index : Reg) (d : ℕ) (flags : AccessFlags) → number_of base < 16 → number_of index < 16 → MayIndex form (number_of index) → d ≤ 4095 → Stands L form (BXD12 base index d flags) operation (λ r. address_by_index r (number_of base) (number_of index) (pos d))
  unfolding length_of
  stands_12 (RxForm register None long relative) does accesses have base index d flags lb li may le = absurd (cc)
  stands_12 (RxForm register (Some opcode) long relative) does accesses have base index d flags lb li may le = record {
    part = Row (rx opcode register (number_of base) (number_of index) (low_12 d));
    is = λ code. access_row (rx opcode register (number_of base) (number_of index) (low_12 d)) code;
    some = omega arith;
    untrapped = λ p. refl;
    row = λ offset even st reaches. meant_at L image offset even (rx opcode register (number_of base) (number_of index) (low_12 d)) does.semantics (λ r. operation (address_by_index r (number_of base) (number_of index) (pos d)) r) does.short_rows (fits_rx opcode register (number_of base) (number_of index) (low_12 d) (few_digits does.short_rows.0) does.few lb li (bits_12 d)) refl (λ r p.
        does.acts Rx opcode (number_of base) (number_of index) (low_12 d) r p ∙ ap (λ z. Perform (operation (address_by_index r (number_of base) (number_of index) z) r)) (read_12 d le)) st;
  }
  stands_12 (RsForm first second None long) does accesses have base index d flags lb li may le = absurd (cc)
  stands_12 (RsForm first second (Some opcode) long) does accesses have base index d flags lb li may le = record {
    part = Row (rs opcode first second (number_of base) (low_12 d));
    is = λ code. access_row (rs opcode first second (number_of base) (low_12 d)) code;
    some = omega arith;
    untrapped = λ p. refl;
    row = λ offset even st reaches. meant_at L image offset even (rs opcode first second (number_of base) (low_12 d)) does.semantics (λ r. operation (address_by_index r (number_of base) (number_of index) (pos d)) r) does.short_rows (fits_rs opcode first second (number_of base) (low_12 d) (few_digits does.short_rows.0) does.few does.few_second lb (bits_12 d)) refl (λ r p.
        does.acts Rs opcode (number_of base) (low_12 d) r p ∙ unindexed r (number_of base) (number_of index) (low_12 d) (pos d) (read_12 d le) may) st;
  }
  stands_12 (SiForm imm opcode long) does accesses have base index d flags lb li may le = record {
    part = Row (si opcode (number_of base) (low_12 d) imm);
    is = λ code. access_row (si opcode (number_of base) (low_12 d) imm) code;
    some = omega arith;
    untrapped = λ p. refl;
    row = λ offset even st reaches. meant_at L image offset even (si opcode (number_of base) (low_12 d) imm) does.semantics (λ r. operation (address_by_index r (number_of base) (number_of index) (pos d)) r) does.short_row (fits_si opcode (number_of base) (low_12 d) imm (few_digits does.short_row.0) lb (bits_12 d) does.few) refl (λ r p.
        does.acts Si opcode (number_of base) (low_12 d) r p ∙ unindexed r (number_of base) (number_of index) (low_12 d) (pos d) (read_12 d le) may) st;
  }
  stands_12 (SilForm bits opcode) does accesses have base index d flags lb li may le = record {
    part = Row (sil opcode (number_of base) (low_12 d) bits);
    is = λ code. access_row (sil opcode (number_of base) (low_12 d) bits) code;
    some = omega arith;
    untrapped = λ p. refl;
    row = λ offset even st reaches. meant_at L image offset even (sil opcode (number_of base) (low_12 d) bits) does.semantics (λ r. operation (address_by_index r (number_of base) (number_of index) (pos d)) r) does.row (fits_sil opcode (number_of base) (low_12 d) bits (few_digits does.row.0) lb (bits_12 d) does.few) refl (λ r p.
        does.acts (number_of base) (low_12 d) r p ∙ unindexed r (number_of base) (number_of index) (low_12 d) (pos d) (read_12 d le) may) st;
  }
  stands_12 (VrxForm register opcode mask) does accesses have base index d flags lb li may le = record {
    part = Row (vrx opcode register (number_of base) (number_of index) mask (low_12 d));
    is = λ code. access_row (vrx opcode register (number_of base) (number_of index) mask (low_12 d)) code;
    some = omega arith;
    untrapped = λ p. refl;
    row = λ offset even st reaches.
        let x = vrx opcode register (number_of base) (number_of index) mask (low_12 d) in
        let there : Registers → ℕ = λ r. address_by_index r (number_of base) (number_of index) (pos d) in
        looser_row L (wrapping_add64 L.image.base offset) 6 (λ r. does.does (there r) r) (λ r. operation (there r) r) (λ r. does.refines (there r) r)
        (meant_at L image offset even x does.semantics (λ r. does.does (there r) r) does.row (fits_vrx opcode register (number_of base) (number_of index) mask (low_12 d) (few_digits does.row.0) does.few lb li does.few_mask (bits_12 d)) (does.allows (number_of base) (number_of index) (low_12 d)) (λ r p.
        does.acts (number_of base) (number_of index) (low_12 d) r p ∙ ap (λ z. Perform (does.does (address_by_index r (number_of base) (number_of index) z) r)) (read_12 d le)) st);
  }
  stands_12 (FloatForm register opcode long) does accesses have base index d flags lb li may le = record {
    part = Row (rx opcode register (number_of base) (number_of index) (low_12 d));
    is = λ code. access_row (rx opcode register (number_of base) (number_of index) (low_12 d)) code;
    some = omega arith;
    untrapped = λ p. refl;
    row = λ offset even st reaches. meant_at L image offset even (rx opcode register (number_of base) (number_of index) (low_12 d)) does.semantics (λ r. operation (address_by_index r (number_of base) (number_of index) (pos d)) r) does.short_rows (fits_rx opcode register (number_of base) (number_of index) (low_12 d) (few_digits does.short_rows.0) does.few lb li (bits_12 d)) refl (λ r p.
        does.acts Rx opcode (number_of base) (number_of index) (low_12 d) r p ∙ ap (λ z. Perform (operation (address_by_index r (number_of base) (number_of index) z) r)) (read_12 d le)) st;
  }

  pub stands_20 : (form : StorageForm) → FormDoes form operation → (accesses : Bool) → (type_of form accesses).have_d20 ≡ true → (base index : Reg) (z : ℤ) (flags : AccessFlags) → number_of base < 16 → number_of index < 16 → MayIndex form (number_of index) → negsuc 524287 ≤ℤ z → z ≤ℤ pos 524287 →
      low_displacement z < 2 ^ 20 → Stands L form (BXD20 base index z flags) operation (λ r. address_by_index r (number_of base) (number_of index) z)
  unfolding length_of
  stands_20 (RxForm register short None relative) does accesses have base index z flags lb li may least most lz = absurd (cc)
  stands_20 (RxForm register short (Some opcode) relative) does accesses have base index z flags lb li may least most lz = record {
    part = Row (rxy opcode register (number_of base) (number_of index) (low_displacement z));
    is = λ code. access_row (rxy opcode register (number_of base) (number_of index) (low_displacement z)) code;
    some = omega arith;
    untrapped = λ p. refl;
    row = λ offset even st reaches. meant_at L image offset even (rxy opcode register (number_of base) (number_of index) (low_displacement z)) does.semantics (λ r. operation (address_by_index r (number_of base) (number_of index) z) r) does.long_rows (fits_rxy opcode register (number_of base) (number_of index) (low_displacement z) (few_digits does.long_rows.0) does.few lb li lz) refl (λ r p.
        does.acts Rxy opcode (number_of base) (number_of index) (low_displacement z) r p ∙ ap (λ y. Perform (operation (address_by_index r (number_of base) (number_of index) y) r)) (read_20 z least most)) st;
  }
  stands_20 (RsForm first second short None) does accesses have base index z flags lb li may least most lz = absurd (cc)
  stands_20 (RsForm first second short (Some opcode)) does accesses have base index z flags lb li may least most lz = record {
    part = Row (rsy opcode first second (number_of base) (low_displacement z));
    is = λ code. access_row (rsy opcode first second (number_of base) (low_displacement z)) code;
    some = omega arith;
    untrapped = λ p. refl;
    row = λ offset even st reaches. meant_at L image offset even (rsy opcode first second (number_of base) (low_displacement z)) does.semantics (λ r. operation (address_by_index r (number_of base) (number_of index) z) r) does.long_rows (fits_rsy opcode first second (number_of base) (low_displacement z) (few_digits does.long_rows.0) does.few does.few_second lb lz) refl (λ r p.
        does.acts Rsy opcode (number_of base) (low_displacement z) r p ∙ unindexed r (number_of base) (number_of index) (low_displacement z) z (read_20 z least most) may) st;
  }
  stands_20 (SiForm imm short opcode) does accesses have base index z flags lb li may least most lz = record {
    part = Row (siy opcode (number_of base) (low_displacement z) imm);
    is = λ code. access_row (siy opcode (number_of base) (low_displacement z) imm) code;
    some = omega arith;
    untrapped = λ p. refl;
    row = λ offset even st reaches. meant_at L image offset even (siy opcode (number_of base) (low_displacement z) imm) does.semantics (λ r. operation (address_by_index r (number_of base) (number_of index) z) r) does.long_row (fits_siy opcode (number_of base) (low_displacement z) imm (few_digits does.long_row.0) lb lz does.few) refl (λ r p.
        does.acts Siy opcode (number_of base) (low_displacement z) r p ∙ unindexed r (number_of base) (number_of index) (low_displacement z) z (read_20 z least most) may) st;
  }
  stands_20 (SilForm bits opcode) does accesses have base index z flags lb li may least most lz = absurd (cc)
  stands_20 (VrxForm register opcode mask) does accesses have base index z flags lb li may least most lz = absurd (cc)
  stands_20 (FloatForm register short opcode) does accesses have base index z flags lb li may least most lz = record {
    part = Row (rxy opcode register (number_of base) (number_of index) (low_displacement z));
    is = λ code. access_row (rxy opcode register (number_of base) (number_of index) (low_displacement z)) code;
    some = omega arith;
    untrapped = λ p. refl;
    row = λ offset even st reaches. meant_at L image offset even (rxy opcode register (number_of base) (number_of index) (low_displacement z)) does.semantics (λ r. operation (address_by_index r (number_of base) (number_of index) z) r) does.long_rows (fits_rxy opcode register (number_of base) (number_of index) (low_displacement z) (few_digits does.long_rows.0) does.few lb li lz) refl (λ r p.
        does.acts Rxy opcode (number_of base) (number_of index) (low_displacement z) r p ∙ ap (λ y. Perform (operation (address_by_index r (number_of base) (number_of index) y) r)) (read_20 z least most)) st;
  }

-- ---- the bytes of a step: rows, and then an access

-- parts without traps
abbrev pub Untrapped : List CodePart → Type 0
Untrapped [] = Unit {0}
Untrapped (h ∷ hs) = ((p : ℕ) → part_traps p h ≡ []) × Untrapped hs

-- the step's last row, at an offset; the table has the code of its faults
pub record LastRow (L : Layout) (k : ℕ) (part : CodePart) (code : Option TrapKind) (o : ℕ) : Type 0 where
  pub even : o % 2 ≡ 0
  pub above : L.offsets.step k ≤ o
  pub stands : StandsAt L.image o (part_bytes L.offsets o part)
  pub reaches : PartReaches L o part
  pub next : L.offsets.step (suc k) ≡ o + part_size part
  pub with_code : Coded L (wrapping_add64 L.image.base o) (access_code code)

-- rows before it
abbrev pub RowsBefore : Layout → ℕ → List CodePart → CodePart → Option TrapKind → ℕ → Type 0
RowsBefore L k [] part code o = LastRow L k part code o
RowsBefore L k (h ∷ hs) part code o = (StandsAt L.image o (part_bytes L.offsets o h) × PartReaches L o h) × RowsBefore L k hs part code (o + part_size h)

-- a row whose faults have a code
record CodedAccess (L : Layout) (part : CodePart) (code : TrapKind) (o : ℕ) (parts : List CodePart) : Type 0 where
  stands : StandsAt L.image o (part_bytes L.offsets o part)
  reaches : PartReaches L o part
  size : parts_size parts ≡ part_size part
  first : first_code (parts_traps o parts) o ≡ Some code

trapped_here : (L : Layout) (part : CodePart) (code : TrapKind) (o : ℕ) → PartsStand L o (TrapHere code ∷ part ∷ []) → PartsReach L o (TrapHere code ∷ part ∷ []) → CodedAccess L part code o (TrapHere code ∷ part ∷ [])
trapped_here L part code o stands reaches =
    let z : o + 0 ≡ o = omega arith in
    record {
      stands = subst (λ n. StandsAt L.image n (part_bytes L.offsets n part)) z stands.1.0;
      reaches = subst (λ n. PartReaches L n part) z reaches.1.0;
      size = omega arith;
      first = ap (λ t. cond t (Some code) (first_code (part_traps (o + 0) part ++ []) o)) (eq-eqb o o refl);
    }

coded_access : (L : Layout) (part : CodePart) (code : TrapKind) (o : ℕ) → PartsStand L o (access_of (Some code) part) → PartsReach L o (access_of (Some code) part) → CodedAccess L part code o (access_of (Some code) part)
coded_access L (Row m) code o stands reaches = record { stands = stands.0; reaches = tt; size = omega arith; first = ap (λ t. cond t (Some code) None) (eq-eqb (o + 0) o (omega arith)) }
coded_access L part code o stands reaches = trapped_here L part code o stands reaches

uncoded_access : (kind : StopKind) (n : TrapKind) → access_code None kind ≡ Some n → ⊥
uncoded_access Stop.Operation n e = absurd (cc)
uncoded_access kind n e = absurd (cc)

module _ (L : Layout) (image : ImageAt L) (k : ℕ) where
  -- the code of a fault stands at the access's first byte
  access_coded : (o : ℕ) (bytes : List ℕ) → StandsAt L.image o bytes → 0 < length bytes → (x : TrapKind) → first_code L.traps o ≡ Some x → Coded L (wrapping_add64 L.image.base o) (access_code (Some x))
  access_coded o bytes s some x found = go
    where
      inside : o < length L.image.bytes
      inside = omega (arith, within_image L o bytes s, some)

      go : Coded L (wrapping_add64 L.image.base o) (access_code (Some x))
      go Stop.Access n e = code_within L image.fits o inside Stop.Access ∙ found ∙ e
      go Stop.Specification n e = code_within L image.fits o inside Stop.Specification ∙ found ∙ e
      go _ n e = absurd (cc)

  last_row : (part : CodePart) (code : Option TrapKind) (o : ℕ) → o % 2 ≡ 0 → L.offsets.step k ≤ o → 0 < part_size part → PartsStand L o (access_of code part) → PartsReach L o (access_of code part) → L.offsets.step (suc k) ≡ o + parts_size (access_of code part) →
      ((q : ℕ) → L.offsets.step k ≤ q → q < L.offsets.step (suc k) → o ≤ q → first_code L.traps q ≡ first_code (parts_traps o (access_of code part)) q) → LastRow L k part code o
  last_row part None o even above some stands reaches next traps =
      record { even = even; above = above; stands = stands.0; reaches = reaches.0; next = omega (arith, next); with_code = λ kind n e. absurd (uncoded_access kind n e) }
  last_row part (Some x) o even above some stands reaches next traps =
      let a = coded_access L part x o stands reaches in
      record {
        even = even;
        above = above;
        stands = a.stands;
        reaches = a.reaches;
        next = next ∙ ap (λ n. o + n) a.size;
        with_code = access_coded o (part_bytes L.offsets o part) a.stands (omega (arith, part_length L.offsets o part, some)) x (traps o above (omega (arith, next, a.size, some)) (omega arith) ∙ a.first);
      }

  rows_before : (hs : List CodePart) → Untrapped hs → (part : CodePart) (code : Option TrapKind) (o : ℕ) → o % 2 ≡ 0 → L.offsets.step k ≤ o → 0 < part_size part → PartsStand L o (hs ++ access_of code part) → PartsReach L o (hs ++ access_of code part) →
      L.offsets.step (suc k) ≡ o + parts_size (hs ++ access_of code part) → ((q : ℕ) → L.offsets.step k ≤ q → q < L.offsets.step (suc k) → o ≤ q → first_code L.traps q ≡ first_code (parts_traps o (hs ++ access_of code part)) q) → RowsBefore L k hs part code o
  rows_before [] none part code o even above some stands reaches next traps = last_row part code o even above some stands reaches next traps
  rows_before (h ∷ hs) none part code o even above some stands reaches next traps =
      ((stands.0, reaches.0), rows_before hs none.1 part code (o + part_size h) (omega (arith, even, part_even h)) (omega (arith, above)) some stands.1 reaches.1 (omega (arith, next)) (λ q a b c. traps q a b (omega (arith, c)) ∙ ap (λ ts. first_code (ts ++ parts_traps (o + part_size h) (hs ++ access_of code part)) q) (none.0 o)))

  pub step_rows_before : (s : Step) → slice_get L.steps k ≡ Some s → CodeAt L k s → (hs : List CodePart) → Untrapped hs → (part : CodePart) (code : Option TrapKind) → 0 < part_size part → step_parts s ≡ hs ++ access_of code part → RowsBefore L k hs part code (L.offsets.step k)
  step_rows_before s at p hs none part code some is =
      let o = L.offsets.step k in
      rows_before hs none part code o (image.step_places k (omega (arith, slice_get_within L.steps k s at))).0 (omega arith) some
      (subst (λ ps. PartsStand L o ps) is (step_stands L k s p))
      (subst (λ ps. PartsReach L o ps) is p.reached)
      (p.size ∙ ap (λ ps. o + parts_size ps) is)
      (λ q a b c. p.traps q a b ∙ ap (λ ps. first_code (parts_traps o ps) q) is)

  -- ---- helpers

  -- what a move of a value that is read like this puts into a register
  abbrev pub moved : Second → ℕ → ℕ
  moved s x = extended_bits s.sign s.width Doubleword x

  pub helper_then : (c : Core) (g : List Transition) (r : Registers) (o : ℕ) (size : ℕ) (s : Second) (bits : Registers → ℕ) → s.reversed ≡ false → Inside L k c g r (wrapping_add64 L.image.base o) → length g ≤ 2 →
      L.offsets.step k ≤ o + size → o + size < L.offsets.step (suc k) → RowAt L (wrapping_add64 L.image.base o) (λ q. Perform (computes_immediate Kept (with_second Move Doubleword s) 1 1 (bits q) q)) (size) →
      ((hs : List Transition) → length hs ≡ suc (length g) → Inside L k c hs (set_general r 1 (moved s (bits r))) (wrapping_add64 L.image.base (o + size)) → Simulates L k c hs (set_general r 1 (moved s (bits r))) (wrapping_add64 L.image.base (o + size))) → Simulates L k c g r (wrapping_add64 L.image.base o)
  helper_then c g r o size s bits plain i few above below row go =
      row_then L k c g r (wrapping_add64 L.image.base o) (λ q. Perform (computes_immediate Kept (with_second Move Doubleword s) 1 1 (bits q) q)) (size) (set_general r 1 (moved s (bits r))) i few (record { offset = o + size; above = above; below = below; is = sum_more L.image.base o (size) }) row
      (subst (λ b. ChangesTo (Perform (computes_immediate Kept (with_second Move Doubleword (record { width = s.width; sign = s.sign; reversed = b })) 1 1 (bits r) r)) (size) r (wrapping_add64 L.image.base o) (set_general r 1 (moved s (bits r)))) (sym plain) (compute_changes Move Doubleword 1 (r.general 1) (bits r) s.width s.sign false (size) (wrapping_add64 L.image.base o) r c.memory))
      (λ hs n. subst (λ q. Inside L k c hs (set_general r 1 (moved s (bits r))) q → Simulates L k c hs (set_general r 1 (moved s (bits r))) q) (sym (sum_more L.image.base o (size))) (go hs n))
