-- The operand of each step that accesses memory is one whose address helpers keep: emission has checked it, and what a symbol's distance leads to is an
-- address.
use Rattle.std.proofs.Common.{◌≡◌, ℕ, ◌^◌, ◌<◌, [], ◌∷◌, Option, Some, None, Bool, true, false, cond, not, ◌&&◌, ◌||◌, refl, ap, ◌∙◌, subst, slice_get}
use Rattle.std.specs.Prelude.{ℤ, pos, ◌+ℤ◌, ◌*ℤ◌, is_some}
use Rattle.std.specs.Int.{cast_signed}
use mir.Syntax.{w32}
use Rattle.std.proofs.lemmas.Bool.{and_parts, or_right}
use Rattle.s390x_base.specs.declared.ir.ExternalName.{ExternalName}
use Rattle.s390x_base.specs.AccessFlags.{AccessFlags}
use Rattle.s390x_base.specs.declared.trap.TrapKind.{TrapKind}
use Rattle.s390x_inst.specs.declared.args.MemArg.{MemArg}
use Rattle.s390x_inst.specs.declared.args.MemArg.TheVariants.{BXD12, Symbol}
use Rattle.s390x_inst.specs.declared.inst.Inst.{Inst}
use Rattle.s390x_inst.specs.declared.inst.Inst.TheVariants.{LoadAddr, Vector}
use Rattle.s390x_inst.specs.declared.vec_inst.VecInst.{VecInst}
use Rattle.s390x_inst.specs.declared.vec_inst.VecInst.TheVariants as V
use Rattle.s390x_typed_steps.specs.SingleInstruction.{SingleInstruction, single_instruction, stop_code}
use Rattle.s390x_typed_steps.specs.Memory.{MemoryInstruction, StorageForm, memory, loaded_memory, type_of, fault_code}
use Rattle.s390x_typed_steps.specs.Operands.{no_register, scratch, with_widened, finalized_operand, operand_general, loses_base}
use Rattle.s390x_typed_steps.specs.Causes.{is_helped}
use Rattle.s390x_typed_steps.specs.Parts.{finalized_parts, memory_or, memory_parts, branch_parts, parts_or, step_parts}
use Rattle.s390x_typed_steps.specs.Steps.{Plain, LoadedStep}
use Rattle.s390x_machine.specs.CodeAt.{AllCodeAt, PartsReach, OperandsValidOr, ValidMemoryOr, IsValidBranch, IsValidMemory}
use Rattle.s390x_machine.specs.Helpers.{HasAddress, IsAddressable}
use Rattle.s390x_machine.specs.Layout.{Layout}
use Rattle.s390x_operations.specs.State.{wrapping_add64}
use Rattle.s390x_machine.proofs.Finalizing.{not_lost}
use Rattle.s390x_machine.proofs.Operands.{low_below}

-- the last clause of each is a copy for each other instruction
vector_is_one : (v : VecInst) → (not (is_some (memory (Vector v))) || not (is_some (single_instruction (Vector v)))) ≡ true
vector_is_one (V.VecRR op rd rn) = refl
vector_is_one v = search or_right

-- no instruction is both one machine instruction and an access of an operand
is_one : (i : Inst) → (not (is_some (memory i)) || not (is_some (single_instruction i))) ≡ true
is_one (Vector v) = vector_is_one v
is_one i = search or_right

memory_alone : (i : Inst) (x : MemoryInstruction) → memory i ≡ Some x → single_instruction i ≡ None
memory_alone i x e = go (single_instruction i) (subst (λ m. (not (is_some m) || not (is_some (single_instruction i))) ≡ true) e (is_one i))
  where
    go : (o : Option SingleInstruction) → not (is_some o) ≡ true → o ≡ None
    go None h = refl
    go (Some y) h = absurd (cc)

-- where the address of a symbol is loaded, the distance leads to an address
symbol_below : (L : Layout) (p : ℕ) (form : StorageForm) (accesses : Bool) (code : Option TrapKind) (name : ExternalName) (offset : ℤ) (flags : AccessFlags) (t : Bool) →
    let f = with_widened (type_of form accesses) (cond t (record { helpers = LoadAddr scratch (Symbol name offset flags) ∷ []; operand = BXD12 scratch no_register 0 flags }) (record { helpers = []; operand = Symbol name offset flags })) in
    is_helped f.helpers ≡ true → PartsReach L p (finalized_parts form code f) → L.offsets.environment.symbol_value name offset < 2 ^ 64
symbol_below L p form accesses code name offset flags true h r =
    subst (λ n. n < 2 ^ 64) r.0.1 (low_below (pos (wrapping_add64 L.image.base p) +ℤ pos 2 *ℤ cast_signed w32 (L.offsets.environment.symbol_distance p name offset)))
symbol_below L p form accesses code name offset flags false h r = absurd (cc)

has_address : (L : Layout) (p : ℕ) (form : StorageForm) (accesses : Bool) (code : Option TrapKind) (m : MemArg) → PartsReach L p (finalized_parts form code (finalized_operand (type_of form accesses) m)) → HasAddress L (type_of form accesses) m
has_address L p form accesses code (Symbol name offset flags) r = λ h. symbol_below L p form accesses code name offset flags _ h r
has_address L p form accesses code m r = tt

-- what emission checked of an access, and where its parts lead
of_access : (L : Layout) (p : ℕ) (x : MemoryInstruction) → IsValidMemory L x → PartsReach L p (memory_parts x) → IsAddressable L (type_of x.form x.accesses) x.operand
of_access L p x valid reached =
    record {
      general = (and_parts x.operands_valid (operand_general x.operand) valid.registers).1;
      fits = valid.offset;
      kept = not_lost (loses_base x.operand) (x.reads_scratch && is_helped (finalized_operand (type_of x.form x.accesses) x.operand).helpers) valid.kept;
      range = valid.range;
      address = has_address L p x.form x.accesses (fault_code x) x.operand reached;
    }

pub addressable : (L : Layout) → AllCodeAt L → (k : ℕ) (i : Inst) (x : MemoryInstruction) → slice_get L.steps k ≡ Some (Plain i) → memory i ≡ Some x → IsAddressable L (type_of x.form x.accesses) x.operand
addressable L all k i x at is =
    let alone = memory_alone i x is in
    let placed = all.steps k (Plain i) at in
    let valid : IsValidMemory L x = subst (λ m. ValidMemoryOr L m (IsValidBranch L i)) is (subst (λ o. OperandsValidOr o (ValidMemoryOr L (memory i) (IsValidBranch L i))) alone placed.valid) in
    let parts : step_parts (Plain i) ≡ memory_parts x = ap (λ o. parts_or o (stop_code i) (memory_or (memory i) (branch_parts i))) alone ∙ ap (λ m. memory_or m (branch_parts i)) is in
    of_access L (L.offsets.step k) x valid (subst (λ ps. PartsReach L (L.offsets.step k) ps) parts placed.reached)

-- the same of one whose address is loaded first
pub loaded_addressable : (L : Layout) → AllCodeAt L → (k : ℕ) (i : Inst) (x : MemoryInstruction) → slice_get L.steps k ≡ Some (LoadedStep i) → loaded_memory i ≡ Some x → IsAddressable L (type_of x.form x.accesses) x.operand
loaded_addressable L all k i x at is =
    let placed = all.steps k (LoadedStep i) at in
    of_access L (L.offsets.step k) x (subst (λ m. ValidMemoryOr L m ⊥) is placed.valid) (subst (λ m. PartsReach L (L.offsets.step k) (memory_or m [])) is placed.reached)
