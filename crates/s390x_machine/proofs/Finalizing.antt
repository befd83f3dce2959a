-- An instruction with an operand in memory runs as its step: its operand stands in its access as it is, or helpers put an offset or an address into
-- `%r1` first.
use Rattle.std.proofs.Common.{◌⊎◌, inl, ◌≡◌, ℕ, ◌+◌, ◌^◌, ◌<◌, ◌≤◌, [], ◌∷◌, ◌++◌, Option, Some, None, Bool, true, false, cond, not, ◌&&◌, ◌||◌, ◌==◌, IsTrue, refl, sym, ap, ◌∙◌, subst, arith}
use Rattle.std.specs.Prelude.{ℤ, pos, negsuc, ◌+ℤ◌, ◌*ℤ◌, ◌≤ℤ◌, unsigned_abs}
use Rattle.std.specs.Int.{cast_signed}
use Rattle.s390x_rows.specs.declared.opcodes.TheConstants as opcodes
use mir.Syntax.{w32}
use Rattle.std.proofs.lemmas.Bool.{and_parts, eqb-true, and_right, not-false, or_parts}
use Rattle.std.proofs.lemmas.Int.{ints}
use Rattle.s390x_base.specs.Regs.{number_of}
use Rattle.s390x_base.specs.declared.regs.Reg.{Reg}
use Rattle.s390x_base.specs.AccessFlags.{AccessFlags}
use Rattle.s390x_base.specs.declared.ir.VCodeConstant.{VCodeConstant}
use Rattle.s390x_base.specs.declared.trap.TrapKind.{TrapKind}
use Rattle.s390x_inst.specs.Memory.{flags_of}
use Rattle.s390x_inst.specs.declared.args.MemArg.{MemArg}
use Rattle.s390x_inst.specs.declared.args.MemArg.TheVariants.{BXD12, BXD20, Label, Constant, Symbol, RegOffset}
use Rattle.s390x_inst.specs.declared.inst.Inst.TheVariants.{Mov64SImm32, LoadAddr}
use Rattle.s390x_typed_steps.specs.General.{is_general}
use Rattle.s390x_typed_steps.specs.Memory.{MemoryInstruction, StorageForm, RxForm, RsForm, SiForm, SilForm, VrxForm, FloatForm, type_of, address_form, fault_code}
use Rattle.s390x_typed_steps.specs.Ranges.{OperandInRange}
use Rattle.s390x_typed_steps.specs.Operands.{Finalized, offset_fits, no_register, scratch, is_numbered, fits_12, fits_20, fits_32, with_address_loaded, with_widened, with_long_displacement, finalized_operand, has_form, is_relative, loses_base, operand_general}
use Rattle.s390x_typed_steps.specs.Causes.{is_helped, bound_cause, alignment_cause, boundary}
use Rattle.s390x_typed_steps.specs.Parts.{operand_parts, finalized_parts, memory_parts, step_parts}
use Rattle.s390x_typed_steps.specs.Steps.{Step}
use Rattle.s390x_typed_steps.specs.declared.mem_inst_type.MemInstType.{MemInstType}
use Rattle.s390x_operations.specs.State.{Registers, set_general, wrapping_add64}
use Rattle.s390x_operations.specs.Effects.{Refines, stop_of_effect, MayRefuse}
use Rattle.s390x_operations.specs.declared.effect.Effect.{Effect}
use Rattle.s390x_operations.specs.declared.effect.Effect.TheVariants.{Compute}
use Rattle.s390x_operations.specs.declared.stop.StopKind.{StopKind}
use Rattle.s390x_operations.specs.declared.effect.Operation.{Operation}
use Rattle.s390x_machine.specs.StepKinds.{Performs, Unsupported, kind_or, performed_at, access_code}
use Rattle.s390x_machine.specs.Layout.{Layout, declarations, block_address, constant_address}
use Rattle.s390x_machine.specs.OneStep.{StepRuns}
use Rattle.s390x_machine.specs.Operands.{address_by_index, address_by_base, address_part}
use Rattle.s390x_machine.specs.CodeAt.{NamesConstant, PartsReach, IsValidMemory}
use Rattle.s390x_machine.specs.Storage.{operand_address, needs_scratch, loads_address, aligned_where, aligned_effect}
use Rattle.s390x_machine.specs.Typed.{kind_of_step, kind_at}
use Rattle.s390x_machine.proofs.Addresses.{sum_below}
use Rattle.s390x_machine.proofs.Operands.{short_12, short_20, short_32, displacement_bits, based_indexed, not_scratch, zero_test, low_below}
use Rattle.s390x_machine.proofs.Rows.{general_number}
use Rattle.s390x_machine.proofs.Simulation.{ValuesCoded}
use Rattle.s390x_machine.proofs.Built.{StepAt}
use Rattle.s390x_machine.proofs.Accessing.{direct, after_address, after_offset, after_both}
use Rattle.s390x_machine.proofs.Relative.{RelativeForm, RelativeDoes, Distant, first_none, label_known, constant_known, to_label, to_constant, to_symbol, named_there, distant_stands}
use Rattle.s390x_machine.proofs.Storage.{FormDoes, IndexedForm, MayIndex, Stands, stands_12, stands_20}

may_none : (form : StorageForm) → MayIndex form 0
may_none (RsForm first second short long) = refl
may_none (SiForm imm short long) = refl
may_none (SilForm bits opcode) = refl
may_none form = tt

-- where the rows have an index, or there is none
may_index : (form : StorageForm) (accesses none : Bool) (index : ℕ) → (not (type_of form accesses).have_index && not none) ≡ false → (none ≡ true → index ≡ 0) → MayIndex form index
may_index (RxForm register short long relative) accesses none index e zero = tt
may_index (RsForm first second short long) accesses true index e zero = zero refl
may_index (RsForm first second short long) accesses false index e zero = absurd (cc)
may_index (SiForm imm short long) accesses true index e zero = zero refl
may_index (SiForm imm short long) accesses false index e zero = absurd (cc)
may_index (SilForm bits opcode) accesses true index e zero = zero refl
may_index (SilForm bits opcode) accesses false index e zero = absurd (cc)
may_index (VrxForm register opcode mask) accesses none index e zero = tt
may_index (FloatForm register short long) accesses none index e zero = tt

pub and_true : (b : Bool) → (b && true) ≡ b
and_true true = refl
and_true false = refl

pub or_false : (b : Bool) → (b || false) ≡ b
or_false true = refl
or_false false = refl

-- an access after a helper doesn't read %r1
not_read : (stuck reads : Bool) → IsTrue (not (stuck || (reads && true))) → reads ≡ false
not_read true reads e = absurd (cc)
not_read false true e = absurd (cc)
not_read false false e = refl

pub not_lost : (stuck other : Bool) → IsTrue (not (stuck || other)) → stuck ≡ false
not_lost true other e = absurd (cc)
not_lost false other e = refl

-- an aligned operand brings about no other stop by its values
aligned_values : (effect : Effect) (kind : StopKind) → (stop_of_effect (aligned_effect effect) ≡ Some kind) ⊎ MayRefuse (aligned_effect effect) kind → (stop_of_effect effect ≡ Some kind) ⊎ MayRefuse effect kind
aligned_values (Compute operator size target first second) kind h = h
aligned_values effect kind h = h

aligned_coded : (aligned : Bool) (op : Operation) (code : StopKind → Option TrapKind) → ValuesCoded op code → ValuesCoded (aligned_where aligned op) code
aligned_coded false op code h = h
aligned_coded true op code h = λ kind by. h kind (aligned_values op.effect kind by)

-- the helper's rows
abbrev pub LoadsAddress : Type 0
LoadsAddress = IndexedForm 1 (Some opcodes.LA) (Some opcodes.LAY) (loads_address 1)

abbrev pub LoadsRelative : Type 0
LoadsRelative = RelativeForm 1 (Some opcodes.LARL) (loads_address 1)

-- the address that an operand with a base and an index has
abbrev there : (base index : Reg) (z : ℤ) → Registers → ℕ
there base index z = λ r. address_by_index r (number_of base) (number_of index) z

module _ {L : Layout} {k : ℕ} {s : Step} (b : StepAt L k s) (load : LoadsAddress) (larl : LoadsRelative) (form : StorageForm) (accesses : Bool) (operation : ℕ → Registers → Operation) (does : FormDoes form operation) (relative : RelativeDoes form accesses operation) (code : Option TrapKind) (never : (a : ℕ) (r : Registers) → ValuesCoded (operation a r) (access_code code)) where
  abbrev mi : MemInstType
  mi = type_of form accesses

  -- ---- the operand that stands in the access

  -- a displacement of 12 bits, in a row of 12 bits or of 20
  short_stands : (base index : Reg) (d : ℕ) (flags : AccessFlags) → (mi.have_d12 || mi.have_d20) ≡ true → number_of base < 16 → number_of index < 16 → MayIndex form (number_of index) → d ≤ 4095 → Stands L form (with_long_displacement mi (BXD12 base index d flags)) operation (there base index (pos d))
  short_stands base index d flags have lb li may le = go mi.have_d12 mi.have_d20 refl refl have
    where
      go : (short long : Bool) → mi.have_d12 ≡ short → mi.have_d20 ≡ long → (short || long) ≡ true → Stands L form (cond (not mi.have_d12 && mi.have_d20) (BXD20 base index (pos d) flags) (BXD12 base index d flags)) operation (there base index (pos d))
      go true long e f h =
          subst (λ b. Stands L form (cond (not b && mi.have_d20) (BXD20 base index (pos d) flags) (BXD12 base index d flags)) operation (there base index (pos d))) (sym e)
          (stands_12 L b.image operation form does accesses e base index d flags lb li may le)
      go false true e f h =
          subst (λ b. Stands L form (cond (not b && mi.have_d20) (BXD20 base index (pos d) flags) (BXD12 base index d flags)) operation (there base index (pos d))) (sym e)
          (subst (λ b. Stands L form (cond b (BXD20 base index (pos d) flags) (BXD12 base index d flags)) operation (there base index (pos d))) (sym f)
          (stands_20 L b.image operation form does accesses f base index (pos d) flags lb li may (omega (arith, ints)) (omega (arith, le, ints)) (displacement_bits (pos d))))
      go false false e f h = absurd (cc)

  -- the helper's operand, of 12 bits and of 20
  loads_12 : (base index : Reg) (d : ℕ) (flags : AccessFlags) → number_of base < 16 → number_of index < 16 → d ≤ 4095 → Stands L (address_form scratch) (BXD12 base index d flags) (loads_address 1) (there base index (pos d))
  loads_12 base index d flags lb li le = stands_12 L b.image (loads_address 1) (address_form scratch) load false refl base index d flags lb li tt le

  loads_20 : (base index : Reg) (z : ℤ) (flags : AccessFlags) → number_of base < 16 → number_of index < 16 → negsuc 524287 ≤ℤ z → z ≤ℤ pos 524287 → Stands L (address_form scratch) (BXD20 base index z flags) (loads_address 1) (there base index z)
  loads_20 base index z flags lb li least most = stands_20 L b.image (loads_address 1) (address_form scratch) load false refl base index z flags lb li tt least most (displacement_bits z)

  -- the operand after a helper that loads the address
  loaded_stands : (flags : AccessFlags) → (mi.have_d12 || mi.have_d20) ≡ true → Stands L form (with_long_displacement mi (BXD12 scratch no_register 0 flags)) operation (λ r. address_by_index r 1 0 (pos 0))
  loaded_stands flags have = short_stands scratch no_register 0 flags have (omega arith) (omega arith) (may_none form) (omega arith)

  -- ---- each form of an operand

  module _ (stuck reads : Bool) (ignores : reads ≡ false → (a : ℕ) (r : Registers) (v : ℕ) → Refines (operation a (set_general r 1 v)) (operation a r)) (have : (mi.have_d12 || mi.have_d20) ≡ true) where
    -- what is known of the step, by its operand with its helpers
    Ready : Bool → (Registers → ℕ) → Finalized → Type 0
    Ready needs address f =
        (kind_at L k ≡ Some (Performs needs (λ r. operation (address r) r) (access_code code))) × (step_parts s ≡ finalized_parts form code (with_widened mi f)) × IsTrue (not (stuck || (reads && is_helped f.helpers)))

    indexed_12 : (base index : Reg) (d : ℕ) (flags : AccessFlags) → IsTrue (is_general base && is_general index) → d ≤ 4095 → (t : Bool) → (not mi.have_index && not (is_numbered 0 index)) ≡ t →
        Ready t (there base index (pos d)) (cond t (record { helpers = LoadAddr scratch (BXD12 base index d flags) ∷ []; operand = BXD12 scratch no_register 0 flags }) (record { helpers = []; operand = BXD12 base index d flags })) → StepRuns L k
    unfolding Ready
    indexed_12 base index d flags general le false e ready =
        let g = and_parts (is_general base) (is_general index) general in
        let may = may_index form accesses (is_numbered 0 index) (number_of index) e (λ z. eqb-true (number_of index) 0 (sym (zero_test index g.1) ∙ z)) in
        direct b form operation code never (there base index (pos d)) (with_long_displacement mi (BXD12 base index d flags)) (short_stands base index d flags have (general_number base g.0) (general_number index g.1) may le) ready.0 ready.1
    indexed_12 base index d flags general le true e ready =
        let g = and_parts (is_general base) (is_general index) general in
        after_address b form operation code never (there base index (pos d)) (BXD12 base index d flags) (with_long_displacement mi (BXD12 scratch no_register 0 flags))
        (loads_12 base index d flags (general_number base g.0) (general_number index g.1) le) (loaded_stands flags have) (λ r. low_below (pos (address_part r (number_of base) + address_part r (number_of index)) +ℤ pos d)) (ignores (not_read stuck reads ready.2)) ready.0 ready.1

    indexed_20 : (base index : Reg) (z : ℤ) (flags : AccessFlags) → IsTrue (is_general base && is_general index) → negsuc 524287 ≤ℤ z → z ≤ℤ pos 524287 → (t : Bool) → (not mi.have_d20 || (not mi.have_index && not (is_numbered 0 index))) ≡ t →
        Ready t (there base index z) (cond t (record { helpers = LoadAddr scratch (BXD20 base index z flags) ∷ []; operand = BXD12 scratch no_register 0 flags }) (record { helpers = []; operand = BXD20 base index z flags })) → StepRuns L k
    unfolding Ready
    indexed_20 base index z flags general least most false e ready =
        let g = and_parts (is_general base) (is_general index) general in
        let parts = or_parts (not mi.have_d20) (not mi.have_index && not (is_numbered 0 index)) e in
        let may = may_index form accesses (is_numbered 0 index) (number_of index) parts.1 (λ y. eqb-true (number_of index) 0 (sym (zero_test index g.1) ∙ y)) in
        direct b form operation code never (there base index z) (BXD20 base index z flags) (stands_20 L b.image operation form does accesses (not-false mi.have_d20 parts.0) base index z flags (general_number base g.0) (general_number index g.1) may least most (displacement_bits z)) ready.0 ready.1
    indexed_20 base index z flags general least most true e ready =
        let g = and_parts (is_general base) (is_general index) general in
        after_address b form operation code never (there base index z) (BXD20 base index z flags) (with_long_displacement mi (BXD12 scratch no_register 0 flags))
        (loads_20 base index z flags (general_number base g.0) (general_number index g.1) least most) (loaded_stands flags have) (λ r. low_below (pos (address_part r (number_of base) + address_part r (number_of index)) +ℤ z)) (ignores (not_read stuck reads ready.2)) ready.0 ready.1

    -- an offset past all displacements
    far : (reg : Reg) (off : ℤ) (flags : AccessFlags) → IsTrue (is_general reg) → (number_of reg == 1) ≡ false → negsuc 2147483647 ≤ℤ off → off ≤ℤ pos 2147483647 → (t : Bool) → (not mi.have_index && true) ≡ t →
        Ready true (λ r. address_by_base r (number_of reg) off) (cond t (record { helpers = Mov64SImm32 scratch off ∷ LoadAddr scratch (BXD12 reg scratch 0 flags) ∷ []; operand = BXD12 scratch no_register 0 flags }) (record { helpers = Mov64SImm32 scratch off ∷ []; operand = BXD12 reg scratch 0 flags })) → StepRuns L k
    unfolding Ready
    far reg off flags general other least most false e ready =
        after_offset b form operation code never reg off (with_long_displacement mi (BXD12 reg scratch 0 flags)) other least most (short_stands reg scratch 0 flags have (general_number reg general) (omega arith) (may_index form accesses false 1 e (λ z. absurd (cc))) (omega arith)) (ignores (not_read stuck reads ready.2)) ready.0 ready.1
    far reg off flags general other least most true e ready =
        after_both b form operation code never reg off (BXD12 reg scratch 0 flags) (with_long_displacement mi (BXD12 scratch no_register 0 flags)) other least most (loads_12 reg scratch 0 flags (general_number reg general) (omega arith) (omega arith)) (loaded_stands flags have) (ignores (not_read stuck reads ready.2)) ready.0 ready.1

  -- an operand relative to the instruction
  distant_runs : (mem : MemArg) (address : ℕ) → Distant L mem address → (reads : Bool) → (reads ≡ false → (a : ℕ) (r : Registers) (v : ℕ) → Refines (operation a (set_general r 1 v)) (operation a r)) → (flags : AccessFlags) (t : Bool) → (t ≡ false → mi.have_pcrel ≡ true) →
      (t ≡ true → step_parts s ≡ (operand_parts (address_form scratch) None mem ++ []) ++ operand_parts form code (with_long_displacement mi (BXD12 scratch no_register 0 flags)) → address < 2 ^ 64) → (mi.have_d12 || mi.have_d20 || (true && not t)) ≡ true →
      IsTrue (not (false || (reads && is_helped (with_widened mi (cond t (record { helpers = LoadAddr scratch mem ∷ []; operand = BXD12 scratch no_register 0 flags }) (record { helpers = []; operand = mem }))).helpers))) →
      kind_at L k ≡ Some (Performs t (λ r. aligned_where (accesses && not t) (operation address r)) (access_code code)) → step_parts s ≡ finalized_parts form code (with_widened mi (cond t (record { helpers = LoadAddr scratch mem ∷ []; operand = BXD12 scratch no_register 0 flags }) (record { helpers = []; operand = mem }))) → StepRuns L k
  distant_runs mem address d reads ignores flags false pcrel small has kept is parts =
      let aligned : ℕ → Registers → Operation = λ a r. aligned_where accesses (operation a r) in
      direct b form aligned code (λ a r. aligned_coded accesses (operation a r) (access_code code) (never a r)) (λ r. address) mem (distant_stands L b.image form accesses operation relative (pcrel refl) mem address d)
      (is ∙ ap (λ b. Some (Performs false (λ r. aligned_where b (operation address r)) (access_code code))) (and_true accesses)) (parts ∙ ap (λ m. operand_parts form code m) (d.widens mi))
  distant_runs mem address d reads ignores flags true pcrel small has kept is parts =
      after_address b form operation code never (λ r. address) mem (with_long_displacement mi (BXD12 scratch no_register 0 flags))
      (distant_stands L b.image (address_form scratch) false (loads_address 1) larl refl mem address d) (loaded_stands flags (sym (or_false (mi.have_d12 || mi.have_d20)) ∙ has)) (λ r. small refl parts) (ignores (not_read false reads kept))
      (is ∙ ap (λ b. Some (Performs true (λ r. aligned_where b (operation address r)) (access_code code))) (and_right accesses false refl)) parts

  -- a constant is named by the access, or by its helper
  names_constant : (c : VCodeConstant) (flags : AccessFlags) (t : Bool) → (t ≡ false → mi.have_pcrel ≡ true) →
      NamesConstant c.0 (finalized_parts form code (with_widened mi (cond t (record { helpers = LoadAddr scratch (Constant c) ∷ []; operand = BXD12 scratch no_register 0 flags }) (record { helpers = []; operand = Constant c }))))
  names_constant c flags true pcrel = inl refl
  names_constant c flags false pcrel = named_there c form accesses code (pcrel refl)

  operand_runs : (mem : MemArg) (reads : Bool) → (reads ≡ false → (a : ℕ) (r : Registers) (v : ℕ) → Refines (operation a (set_general r 1 v)) (operation a r)) → IsTrue (has_form mi mem) → IsTrue (operand_general mem) →
      IsTrue (not (loses_base mem || (reads && is_helped (finalized_operand mi mem).helpers))) → IsTrue (offset_fits mem) → OperandInRange mem → bound_cause (declarations L) mem ≡ None →
      ((address : Registers → ℕ) → operand_address L mem ≡ Some address → kind_at L k ≡ Some (Performs (needs_scratch mi mem) (λ r. aligned_where (is_relative mem && (accesses && not (needs_scratch mi mem))) (operation (address r) r)) (access_code code))) → step_parts s ≡ finalized_parts form code (finalized_operand mi mem) → StepRuns L k
  unfolding Ready
  operand_runs (BXD12 base index d flags) reads ignores has general kept fits range bound is parts =
      let have = sym (or_false (mi.have_d12 || mi.have_d20)) ∙ has in
      let zero = zero_test index (and_parts (is_general base) (is_general index) general).1 in
      indexed_12 false reads ignores have base index d flags general range (not mi.have_index && not (is_numbered 0 index)) refl
      (is (there base index (pos d)) refl ∙ ap (λ b. Some (Performs (not mi.have_index && not b) (λ r. operation (address_by_index r (number_of base) (number_of index) (pos d)) r) (access_code code))) (sym zero), parts, kept)
  operand_runs (BXD20 base index z flags) reads ignores has general kept fits range bound is parts =
      let have = sym (or_false (mi.have_d12 || mi.have_d20)) ∙ has in
      let zero = zero_test index (and_parts (is_general base) (is_general index) general).1 in
      indexed_20 false reads ignores have base index z flags general range.0 range.1 (not mi.have_d20 || (not mi.have_index && not (is_numbered 0 index))) refl
      (is (there base index z) refl ∙ ap (λ b. Some (Performs (not mi.have_d20 || (not mi.have_index && not b)) (λ r. operation (address_by_index r (number_of base) (number_of index) z) r) (access_code code))) (sym zero), parts, kept)
  operand_runs (RegOffset reg off flags) reads ignores has general kept fits range bound is parts =
      let have = sym (or_false (mi.have_d12 || mi.have_d20)) ∙ has in
      go have (fits_12 off) refl (fits_20 off) refl (fits_32 off) refl (is (λ r. address_by_base r (number_of reg) off) refl) parts kept fits
    where
      near : Bool → Bool → Bool → Finalized
      near t12 t20 t32 =
          cond t12 (record { helpers = []; operand = BXD12 reg no_register (unsigned_abs off) flags })
          (cond t20 (record { helpers = []; operand = BXD20 reg no_register off flags })
          (cond t32 (record { helpers = Mov64SImm32 scratch off ∷ []; operand = BXD12 reg scratch 0 flags }) (record { helpers = []; operand = RegOffset reg off flags })))

      moves : (needs : Bool) (a b : Registers → ℕ) → ((r : Registers) → a r ≡ b r) → Some (Performs needs (λ r. operation (a r) r) (access_code code)) ≡ Some (Performs needs (λ r. operation (b r) r) (access_code code))
      moves needs a b e = ap (λ (x : Registers → ℕ). Some (Performs needs (λ r. operation (x r) r) (access_code code))) (λ i r. e r i)

      go : (mi.have_d12 || mi.have_d20) ≡ true → (t12 : Bool) → fits_12 off ≡ t12 → (t20 : Bool) → fits_20 off ≡ t20 → (t32 : Bool) → fits_32 off ≡ t32 →
          kind_at L k ≡ Some (Performs (not t12 && not (t20 && mi.have_d20)) (λ r. operation (address_by_base r (number_of reg) off) r) (access_code code)) →
          step_parts s ≡ finalized_parts form code (with_widened mi (with_address_loaded mi (near t12 t20 t32))) → IsTrue (not ((is_numbered 1 reg && (t32 && not t12 && not t20)) || (reads && is_helped (with_address_loaded mi (near t12 t20 t32)).helpers))) → IsTrue t32 → StepRuns L k
      go have true e12 t20 e20 t32 e32 is2 parts2 kept2 fits2 =
          let n = short_12 off e12 in
          let same : unsigned_abs off ≡ n.0 = ap unsigned_abs n.1 in
          let le : unsigned_abs off ≤ 4095 = omega (arith, same, n.2) in
          let is_pos : off ≡ pos (unsigned_abs off) = n.1 ∙ ap pos (sym same) in
          indexed_12 (is_numbered 1 reg && (t32 && false && not t20)) reads ignores have reg no_register (unsigned_abs off) flags (and_true (is_general reg) ∙ general) le (not mi.have_index && false) refl (
            is2 ∙ moves false (λ r. address_by_base r (number_of reg) off) (λ r. address_by_index r (number_of reg) 0 (pos (unsigned_abs off))) (λ r. ap (address_by_base r (number_of reg)) is_pos ∙ sym (based_indexed r (number_of reg) (pos (unsigned_abs off))))
                ∙ ap (λ b. Some (Performs b (λ r. operation (address_by_index r (number_of reg) 0 (pos (unsigned_abs off))) r) (access_code code))) (sym (and_right (not mi.have_index) false refl)),
            parts2,
            kept2,
          )
      go have false e12 true e20 t32 e32 is2 parts2 kept2 fits2 =
          let z = short_20 off e20 in
          indexed_20 (is_numbered 1 reg && (t32 && true && false)) reads ignores have reg no_register off flags (and_true (is_general reg) ∙ general) z.0 z.1 (not mi.have_d20 || (not mi.have_index && false)) refl (
            is2 ∙ moves (not mi.have_d20) (λ r. address_by_base r (number_of reg) off) (λ r. address_by_index r (number_of reg) 0 off) (λ r. sym (based_indexed r (number_of reg) off))
                ∙ ap (λ b. Some (Performs b (λ r. operation (address_by_index r (number_of reg) 0 off) r) (access_code code))) (sym (ap (λ b. not mi.have_d20 || b) (and_right (not mi.have_index) false refl) ∙ or_false (not mi.have_d20))),
            parts2,
            kept2,
          )
      go have false e12 false e20 true e32 is2 parts2 kept2 fits2 =
          let z = short_32 off e32 in
          let stuck = not_lost (is_numbered 1 reg && true) (reads && is_helped (with_address_loaded mi (near false false true)).helpers) kept2 in
          far (is_numbered 1 reg && true) reads ignores have reg off flags general (not_scratch reg general (sym (and_true (is_numbered 1 reg)) ∙ stuck)) z.0 z.1 (not mi.have_index && true) refl (is2, parts2, kept2)
      go have false e12 false e20 false e32 is2 parts2 kept2 fits2 = absurd (cc)
  operand_runs (Label target) reads ignores has general kept fits range bound is parts =
      distant_runs (Label target) (block_address L target.0) (to_label L b.image target (label_known L target bound)) reads ignores (flags_of (Label target)) (not mi.have_pcrel) (λ e. not-false mi.have_pcrel e) (λ e parts2. sum_below L.image.base (L.offsets.block target.0)) has kept (is (λ r. block_address L target.0) refl) parts
  operand_runs (Constant c) reads ignores has general kept fits range bound is parts =
      let names = subst (NamesConstant c.0) (sym parts) (names_constant c (flags_of (Constant c)) (not mi.have_pcrel) (λ e. not-false mi.have_pcrel e)) in
      distant_runs (Constant c) (constant_address L c.0) (to_constant L b.image c (b.constants c.0 (constant_known L c bound) names)) reads ignores (flags_of (Constant c)) (not mi.have_pcrel) (λ e. not-false mi.have_pcrel e) (λ e parts2. sum_below L.image.base (L.offsets.environment.constant c.0)) has kept (is (λ r. constant_address L c.0) refl) parts
  operand_runs (Symbol name offset flags) reads ignores has general kept fits range bound is parts =
      distant_runs (Symbol name offset flags) (L.offsets.environment.symbol_value name offset) (to_symbol L name offset flags) reads ignores flags (not mi.have_pcrel || (not flags.aligned && not mi.have_unaligned_pcrel)) (λ e.
      not-false mi.have_pcrel (or_parts (not mi.have_pcrel) (not flags.aligned && not mi.have_unaligned_pcrel) e).0) (λ e parts2.
      let r = subst (λ ps. PartsReach L (L.offsets.step k) ps) parts2 b.code.reached in
      let half = L.offsets.environment.symbol_distance (L.offsets.step k) name offset in
      subst (λ n. n < 2 ^ 64) r.0.1 (low_below (pos (wrapping_add64 L.image.base (L.offsets.step k)) +ℤ pos 2 *ℤ cast_signed w32 half))) has kept (is (λ r. L.offsets.environment.symbol_value name offset) refl) parts
  operand_runs mem reads ignores has general kept fits range bound is parts = absurd range

-- an instruction with an operand in memory runs as its step, where emission's rows have the forms that the step knows
pub memory_runs : {L : Layout} {k : ℕ} {s : Step} (b : StepAt L k s) (load : LoadsAddress) (larl : LoadsRelative) (x : MemoryInstruction) (forms : MemInstType) (operation : ℕ → Registers → Operation) →
    FormDoes x.form operation → RelativeDoes x.form x.accesses operation → ((a : ℕ) (r : Registers) → ValuesCoded (operation a r) (access_code (fault_code x))) → (x.reads_scratch ≡ false → (a : ℕ) (r : Registers) (v : ℕ) → Refines (operation a (set_general r 1 v)) (operation a r)) →
    forms ≡ type_of x.form x.accesses → kind_of_step L (Some s) ≡ Some (kind_or (performed_at (record { operand = x.operand; forms = forms; accesses = x.accesses; operation = operation }) (operand_address L x.operand)) Unsupported) → step_parts s ≡ memory_parts x → IsValidMemory L x → StepRuns L k
memory_runs {L = L} b load larl x forms operation does relative never ignores same formed parts operands_valid =
    operand_runs b load larl x.form x.accesses operation does relative (fault_code x) never x.operand x.reads_scratch ignores operands_valid.form
    (and_parts x.operands_valid (operand_general x.operand) operands_valid.registers).1 operands_valid.kept operands_valid.offset operands_valid.range (first_none (bound_cause (declarations L) x.operand) (alignment_cause (declarations L) (boundary x) x.operand) operands_valid.target).0 (λ address e.
    ap (kind_of_step L) b.at ∙ formed ∙ ap (λ a. Some (kind_or (performed_at (record { operand = x.operand; forms = forms; accesses = x.accesses; operation = operation }) a) Unsupported)) e
    ∙ ap (λ mi. Some (Performs (needs_scratch mi x.operand) (λ r. aligned_where (is_relative x.operand && (x.accesses && not (needs_scratch mi x.operand))) (operation (address r) r)) (access_code (fault_code x)))) same) parts
