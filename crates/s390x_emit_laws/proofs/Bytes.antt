-- A step that emission lets pass has bytes, unless it needs none.
use Rattle.std.proofs.Common.{◌≡◌, ℕ, ◌+◌, Bool, true, false, cond, List, [], ◌∷◌, ◌++◌, Option, Some, None, refl, arith}
use Rattle.std.specs.Prelude.{nat_eq}
use Rattle.std.proofs.lemmas.Bool.{and_parts}
use Rattle.s390x_base.specs.Regs.{number_of}
use Rattle.s390x_base.specs.declared.trap.TrapKind.{TrapKind}
use Rattle.s390x_inst.specs.declared.args.MemArg.{MemArg}
use Rattle.s390x_inst.specs.declared.args.MemArg.TheVariants.{BXD12, BXD20, Label, Constant, Symbol}
use Rattle.s390x_inst.specs.declared.calls.CallInstDest.TheVariants.{Direct, Indirect}
use Rattle.s390x_inst.specs.declared.inst.Inst.{Inst}
use Rattle.s390x_inst.specs.declared.inst.Inst.TheVariants as I
use Rattle.s390x_inst.specs.declared.vec_inst.VecInst.{VecInst}
use Rattle.s390x_inst.specs.declared.vec_inst.VecInst.TheVariants.{VecEltRev, VecInt128SCmpHi, VecInt128UCmpHi}
use Rattle.s390x_format.specs.Formats.{length_of}
use Rattle.s390x_format.specs.declared.kind.FormatKind.{FormatKind}
use Rattle.s390x_format.specs.declared.kind.FormatKind.TheVariants.{E, Rr, RiB, RiC, RilC, VrrA, VrrC}
use Rattle.s390x_typed_steps.specs.MachineInstruction.{MachineInstruction}
use Rattle.s390x_typed_steps.specs.Memory.{StorageForm, RxForm, RsForm, SiForm, SilForm, VrxForm, FloatForm, MemoryInstruction, memory, loaded_memory, type_of, fault_code}
use Rattle.s390x_typed_steps.specs.Operands.{finalized_operand, is_relative}
use Rattle.s390x_typed_steps.specs.Parts.{CodePart, parts_size, row_part, row_parts, access_parts, trap_here, relative_part, operand_parts, call_part, tail_part, site_parts, helpers_parts, memory_parts, memory_or, parts_or, branch_parts, step_size}
use Rattle.s390x_typed_steps.specs.SingleInstruction.{SingleInstruction, single_instruction, stop_code}
use Rattle.s390x_typed_steps.specs.StepBody.{AtCall, NothingLeft, BranchLeft}
use Rattle.s390x_typed_steps.specs.Steps.{Step, Plain, LoadedStep, Shortened, Opening, Back, Break, CallingStep, NoLoadStep, TailOpeningStep, TailJumpStep}
use Rattle.s390x_typed_steps.specs.VectorComposite.{MoveUnder, move_under, rows_under, cause_under, reversing_rows, rows_or_none, rows_cause, composite_rows, composite_cause, exchanges_doublewords, exchanges_halves}
use Rattle.s390x_machine.specs.CodeAt.{OperandsValidOr, IsValidMemory, ValidMemoryOr, IsValidBranch, IsValidInstruction, IsValidStep}
use Rattle.s390x_machine.specs.Helpers.{TakesOperand}
use Rattle.s390x_machine.specs.Layout.{Layout}
use Rattle.s390x_machine.specs.StepKinds.{Silent, step_kind}
use Rattle.s390x_machine.proofs.Built.{some_bytes}
use Rattle.s390x_machine.proofs.Helpers.{operand_taken}
use Rattle.s390x_emit_laws.specs.Built.{NeedsNoBytes}

-- ---- parts

-- parts that have no bytes
abbrev None_of : List CodePart → Type 0
None_of ps = parts_size ps ≡ 0

behind : (ps qs : List CodePart) → None_of (ps ++ qs) → None_of qs
behind [] qs e = e
behind (p ∷ ps) qs e = behind ps qs (omega (arith, e))

row_some : (kind : FormatKind) (more : ℕ) → length_of kind + more ≡ 0 → ⊥
row_some kind more e = absurd (omega (arith, e, some_bytes kind))

part_some : (m : MachineInstruction) (code : Option TrapKind) → None_of (row_part m code ∷ []) → ⊥
part_some m None e = absurd (omega (arith, e, some_bytes m.format))
part_some m (Some code) e = absurd (omega (arith, e, some_bytes m.format))

access_some : (m : MachineInstruction) (code : Option TrapKind) → None_of (access_parts (Some m) code) → ⊥
access_some m None e = absurd (omega (arith, e, some_bytes m.format))
access_some m (Some code) e = absurd (omega (arith, e, some_bytes m.format))

-- ---- accesses

-- a relative operand that the rows take has a part
relative_some : (register : ℕ) (rx_opcode rxy_opcode : Option ℕ) (opcode : ℕ) (code : Option TrapKind) (m : MemArg) → is_relative m ≡ true → None_of (operand_parts (RxForm register rx_opcode rxy_opcode (Some opcode)) code m) → ⊥
relative_some register rx_opcode rxy_opcode opcode code (Label target) is e = absurd (omega (arith, behind (trap_here code) (relative_part opcode register (Label target)) e))
relative_some register rx_opcode rxy_opcode opcode code (Constant c) is e = absurd (omega (arith, behind (trap_here code) (relative_part opcode register (Constant c)) e))
relative_some register rx_opcode rxy_opcode opcode code (Symbol name offset flags) is e = absurd (omega (arith, behind (trap_here code) (relative_part opcode register (Symbol name offset flags)) e))
relative_some register rx_opcode rxy_opcode opcode code _ is e = absurd (cc)

short_some : (form : StorageForm) (accesses : Bool) (code : Option TrapKind) (base index : _) (disp : ℕ) (flags : _) → (type_of form accesses).have_d12 ≡ true → None_of (operand_parts form code (BXD12 base index disp flags)) → ⊥
short_some (RxForm r None rxy_opcode ril_opcode) accesses code base index disp flags has e = absurd (cc)
short_some (RsForm r s None rsy_opcode) accesses code base index disp flags has e = absurd (cc)
short_some form accesses code base index disp flags has e = access_some _ code e

long_some : (form : StorageForm) (accesses : Bool) (code : Option TrapKind) (base index : _) (disp : _) (flags : _) → (type_of form accesses).have_d20 ≡ true → None_of (operand_parts form code (BXD20 base index disp flags)) → ⊥
long_some (RxForm r rx_opcode None ril_opcode) accesses code base index disp flags has e = absurd (cc)
long_some (RsForm r s rs_opcode None) accesses code base index disp flags has e = absurd (cc)
long_some (SilForm bits sil_opcode) accesses code base index disp flags has e = absurd (cc)
long_some (VrxForm r vrx_opcode mask) accesses code base index disp flags has e = absurd (cc)
long_some form accesses code base index disp flags has e = access_some _ code e

place_some : (form : StorageForm) (accesses : Bool) (code : Option TrapKind) (m : MemArg) → (type_of form accesses).have_pcrel ≡ true → is_relative m ≡ true → None_of (operand_parts form code m) → ⊥
place_some (RxForm r rx_opcode rxy_opcode (Some opcode)) accesses code m has is e = relative_some r rx_opcode rxy_opcode opcode code m is e
place_some form accesses code m has is e = absurd (cc)

operand_some : (form : StorageForm) (accesses : Bool) (code : Option TrapKind) (m : MemArg) → TakesOperand (type_of form accesses) m → None_of (operand_parts form code m) → ⊥
operand_some form accesses code (BXD12 base index disp flags) takes e = short_some form accesses code base index disp flags takes.0 e
operand_some form accesses code (BXD20 base index disp flags) takes e = long_some form accesses code base index disp flags takes.0 e
operand_some form accesses code (Label target) takes e = place_some form accesses code (Label target) takes refl e
operand_some form accesses code (Constant constant) takes e = place_some form accesses code (Constant constant) takes refl e
operand_some form accesses code (Symbol name offset flags) takes e = place_some form accesses code (Symbol name offset flags) takes.0 refl e
operand_some form accesses code _ takes e = absurd takes

memory_some : (L : Layout) (x : MemoryInstruction) → IsValidMemory L x → None_of (memory_parts x) → ⊥
memory_some L x valid e =
    let type = type_of x.form x.accesses in
    let f = finalized_operand type x.operand in
    let takes = operand_taken type x.operand valid.form (and_parts x.operands_valid _ valid.registers).1 valid.offset valid.range in
    operand_some x.form x.accesses (fault_code x) f.operand takes.0 (behind (helpers_parts f.helpers) (operand_parts x.form (fault_code x) f.operand) e)

-- an instruction that is one machine instruction or an access has bytes; another one has those of its own parts
own_parts : (L : Layout) (o : Option SingleInstruction) (code : Option TrapKind) (m : Option MemoryInstruction) (others : List CodePart) (V : Type 0) → OperandsValidOr o (ValidMemoryOr L m V) → None_of (parts_or o code (memory_or m others)) → V × None_of others
own_parts L None code None others V valid e = (valid, e)
own_parts L None code (Some x) others V valid e = absurd (memory_some L x valid e)
own_parts L (Some x) code m others V valid e = absurd (part_some x.row code e)

-- ---- vector instructions of several rows

under_some : (o : Option MoveUnder) → cause_under o ≡ None → None_of (row_parts (rows_under o)) → ⊥
under_some None valid e = absurd (cc)
under_some (Some x) valid e = row_some RiC _ e

reversal_some : (count d n : ℕ) (t : Bool) → rows_cause (reversing_rows count d n) t ≡ None → None_of (row_parts (rows_or_none (reversing_rows count d n))) → ⊥
reversal_some count d n t = by_two (nat_eq count 2)
  where
    by_sixteen : (b : Bool) (rows : _) → rows_cause (cond b (Some (exchanges_doublewords d n ∷ rows)) None) t ≡ None → None_of (row_parts (rows_or_none (cond b (Some (exchanges_doublewords d n ∷ rows)) None))) → ⊥
    by_sixteen true rows valid e = row_some VrrC _ e
    by_sixteen false rows valid e = absurd (cc)

    by_eight : (b c : Bool) (rows more : _) → rows_cause (cond b (Some (exchanges_doublewords d n ∷ rows)) (cond c (Some (exchanges_doublewords d n ∷ more)) None)) t ≡ None → None_of (row_parts (rows_or_none (cond b (Some (exchanges_doublewords d n ∷ rows)) (cond c (Some (exchanges_doublewords d n ∷ more)) None)))) → ⊥
    by_eight true c rows more valid e = row_some VrrC _ e
    by_eight false c rows more valid e = by_sixteen c more valid e

    by_four : (b : Bool) → rows_cause (cond b (Some (exchanges_doublewords d n ∷ exchanges_halves d 3 32 ∷ [])) (cond (nat_eq count 8) (Some (exchanges_doublewords d n ∷ exchanges_halves d 3 32 ∷ exchanges_halves d 2 16 ∷ [])) (cond (nat_eq count 16) (Some (exchanges_doublewords d n ∷ exchanges_halves d 3 32 ∷ exchanges_halves d 2 16 ∷ exchanges_halves d 1 8 ∷ [])) None))) t ≡ None →
        None_of (row_parts (rows_or_none (cond b (Some (exchanges_doublewords d n ∷ exchanges_halves d 3 32 ∷ [])) (cond (nat_eq count 8) (Some (exchanges_doublewords d n ∷ exchanges_halves d 3 32 ∷ exchanges_halves d 2 16 ∷ [])) (cond (nat_eq count 16) (Some (exchanges_doublewords d n ∷ exchanges_halves d 3 32 ∷ exchanges_halves d 2 16 ∷ exchanges_halves d 1 8 ∷ [])) None))))) → ⊥
    by_four true valid e = row_some VrrC _ e
    by_four false valid e = by_eight (nat_eq count 8) (nat_eq count 16) _ _ valid e

    by_two : (b : Bool) → rows_cause (cond b (Some (exchanges_doublewords d n ∷ [])) (cond (nat_eq count 4) (Some (exchanges_doublewords d n ∷ exchanges_halves d 3 32 ∷ [])) (cond (nat_eq count 8) (Some (exchanges_doublewords d n ∷ exchanges_halves d 3 32 ∷ exchanges_halves d 2 16 ∷ [])) (cond (nat_eq count 16) (Some (exchanges_doublewords d n ∷ exchanges_halves d 3 32 ∷ exchanges_halves d 2 16 ∷ exchanges_halves d 1 8 ∷ [])) None)))) t ≡ None →
        None_of (row_parts (rows_or_none (cond b (Some (exchanges_doublewords d n ∷ [])) (cond (nat_eq count 4) (Some (exchanges_doublewords d n ∷ exchanges_halves d 3 32 ∷ [])) (cond (nat_eq count 8) (Some (exchanges_doublewords d n ∷ exchanges_halves d 3 32 ∷ exchanges_halves d 2 16 ∷ [])) (cond (nat_eq count 16) (Some (exchanges_doublewords d n ∷ exchanges_halves d 3 32 ∷ exchanges_halves d 2 16 ∷ exchanges_halves d 1 8 ∷ [])) None)))))) → ⊥
    by_two true valid e = row_some VrrC _ e
    by_two false valid e = by_four (nat_eq count 4) valid e

composite_some : (v : VecInst) → composite_cause v ≡ None → None_of (row_parts (composite_rows v)) → ⊥
composite_some (VecEltRev count rd rn) valid e = reversal_some count (number_of rd) (number_of rn) _ valid e
composite_some (VecInt128SCmpHi tmp rn rm) valid e = row_some VrrA _ e
composite_some (VecInt128UCmpHi tmp rn rm) valid e = row_some VrrA _ e
composite_some v valid e = under_some (move_under v) valid e

-- ---- the others

branch_silent : (L : Layout) (i : Inst) → IsValidBranch L i → None_of (branch_parts i) → step_kind L (Plain i) ≡ Silent
branch_silent L (I.Jump dest) valid e = absurd (omega (arith, e))
branch_silent L (I.CondBr taken not_taken mask) valid e = absurd (omega (arith, e))
branch_silent L (I.IndirectBr rn targets) valid e = absurd (row_some Rr _ e)
branch_silent L (I.Ret link) valid e = absurd (row_some Rr _ e)
branch_silent L (I.JTSequence ridx other mask targets) valid e = absurd (omega (arith, e))
branch_silent L I.Nop0 valid e = refl
branch_silent L (I.Args args) valid e = refl
branch_silent L (I.Rets rets) valid e = refl
branch_silent L (I.DummyUse reg) valid e = refl
branch_silent L I.SequencePoint valid e = refl
branch_silent L (I.LabelAddress dst label) valid e = absurd (omega (arith, e))
branch_silent L (I.LoadSymbolReloc rd reloc) valid e = absurd (row_some RiB _ e)
branch_silent L (I.Trap code) valid e = absurd (row_some E _ e)
branch_silent L (I.TrapIf mask code) valid e = absurd (row_some RilC _ e)
branch_silent L I.Debugtrap valid e = absurd (row_some E _ e)
branch_silent L (I.Vector v) valid e = absurd (composite_some v valid e)
branch_silent L _ valid e = absurd valid

whole_silent : (L : Layout) (i : Inst) → IsValidInstruction L i → step_size (Plain i) ≡ 0 → step_kind L (Plain i) ≡ Silent
whole_silent L i valid e =
    let own = own_parts L (single_instruction i) (stop_code i) (memory i) (branch_parts i) (IsValidBranch L i) valid e in
    branch_silent L i own.0 own.1

calling_some : (link : _) (target : _) (ps : List CodePart) → None_of (call_part link target ∷ ps) → ⊥
calling_some link (Direct name) ps e = absurd (omega (arith, e))
calling_some link (Indirect reg) ps e = row_some Rr _ e

tail_some : (target : _) (ps : List CodePart) → None_of (tail_part target ∷ ps) → ⊥
tail_some (Direct name) ps e = absurd (omega (arith, e))
tail_some (Indirect reg) ps e = row_some Rr _ e

pub silent_without_bytes : (L : Layout) (s : Step) → IsValidStep L s → step_size s ≡ 0 → NeedsNoBytes L s
silent_without_bytes L (Plain i) valid e = whole_silent L i valid e
silent_without_bytes L (Shortened NothingLeft i) valid e = tt
silent_without_bytes L (Shortened (BranchLeft mask b) i) valid e = absurd (omega (arith, e))
silent_without_bytes L (LoadedStep i) valid e = absurd (own_parts L None None (loaded_memory i) [] ⊥ valid e).0
silent_without_bytes L Opening valid e = refl
silent_without_bytes L (Back mask target) valid e = absurd (omega (arith, e))
silent_without_bytes L (Break mask target) valid e = absurd (omega (arith, e))
silent_without_bytes L (CallingStep c) valid e = absurd (calling_some c.link c.target _ e)
silent_without_bytes L NoLoadStep valid e = absurd valid
silent_without_bytes L (TailOpeningStep target first_saved is_lost) valid e = refl
silent_without_bytes L (TailJumpStep target) valid e = absurd (tail_some target (site_parts (AtCall ∷ [])) e)
