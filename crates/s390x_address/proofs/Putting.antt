-- The parts of an instruction with a memory operand: which they are, and how many bytes they put.
use Rattle.std.proofs.Common.{◌≡◌, ℕ, ◌+◌, List, [], ◌∷◌, ◌++◌, Option, None, Some, length, Bool, true, false, cond, refl, sym, ap, ◌∙◌, subst, arith, length-append}
use Rattle.s390x_base.specs.declared.trap.TrapKind.{TrapKind}
use Rattle.s390x_buffer.specs.State.{BufferState}
use Rattle.s390x_format.specs.Formats.{length_of}
use Rattle.s390x_inst.specs.declared.args.MemArg.{MemArg}
use Rattle.s390x_inst.specs.declared.args.MemArg.TheVariants.{Label}
use Rattle.s390x_inst.specs.declared.inst.Inst.{Inst}
use Rattle.s390x_inst.specs.declared.inst.Inst.TheVariants.{Mov64SImm32, LoadAddr}
use Rattle.s390x_typed_steps.specs.MachineInstruction.{MachineInstruction, bytes_of, size_of, ril_b}
use Rattle.s390x_typed_steps.specs.Memory.{StorageForm, RxForm, MemoryInstruction, type_of, storage_row, address_form, fault_code}
use Rattle.s390x_typed_steps.specs.Operands.{finalized_operand, is_relative}
use Rattle.s390x_typed_steps.specs.Parts.{CodePart, Row, Trapping, Relative, RelativeConstant, RelativeSymbol, TrapHere, ToBlock, access_parts, trap_here, relative_part, relative_parts, operand_parts, helper_parts, helpers_parts, memory_parts, parts_size}
use Rattle.s390x_address.specs.Appended.{with_part, with_parts}
use Rattle.s390x_address.proofs.OnlyMemory.{Puts, length-bytes}

-- machine instructions, perhaps with traps or relative to themselves, and traps
unfoldable pub AllPut : List CodePart → Type 0
AllPut [] = Unit {0}
AllPut (Row m ∷ parts) = AllPut parts
AllPut (Trapping m byte code ∷ parts) = AllPut parts
AllPut (Relative opcode register (ToBlock b) ∷ parts) = AllPut parts
AllPut (RelativeConstant opcode register c ∷ parts) = AllPut parts
AllPut (RelativeSymbol opcode register name offset ∷ parts) = AllPut parts
AllPut (TrapHere code ∷ parts) = AllPut parts
AllPut (_ ∷ parts) = ⊥

put_append : (a b : List CodePart) → AllPut a → AllPut b → AllPut (a ++ b)
unfolding AllPut
put_append [] b h k = k
put_append (Row m ∷ a) b h k = put_append a b h k
put_append (Trapping m byte code ∷ a) b h k = put_append a b h k
put_append (Relative opcode register (ToBlock l) ∷ a) b h k = put_append a b h k
put_append (RelativeConstant opcode register c ∷ a) b h k = put_append a b h k
put_append (RelativeSymbol opcode register name offset ∷ a) b h k = put_append a b h k
put_append (TrapHere code ∷ a) b h k = put_append a b h k
put_append (part ∷ a) b h k = absurd h

access_put : (o : Option MachineInstruction) (code : Option TrapKind) → AllPut (access_parts o code)
unfolding AllPut
access_put None code = tt
access_put (Some m) None = tt
access_put (Some m) (Some code) = tt

trap_put : (code : Option TrapKind) → AllPut (trap_here code)
unfolding AllPut
trap_put None = tt
trap_put (Some code) = tt

row_put : (opcode register : ℕ) (m : MemArg) → AllPut (relative_part opcode register m)
unfolding AllPut
row_put opcode register (Label target) = tt
row_put opcode register m = tt

relative_put : (form : StorageForm) (code : Option TrapKind) (m : MemArg) → AllPut (relative_parts form code m)
unfolding AllPut
relative_put (RxForm register rx_opcode rxy_opcode (Some opcode)) code m = put_append (trap_here code) (relative_part opcode register m) (trap_put code) (row_put opcode register m)
relative_put form code m = tt

chosen_put : (t : Bool) (a b : List CodePart) → AllPut a → AllPut b → AllPut (cond t a b)
chosen_put true a b h k = h
chosen_put false a b h k = k

operand_put : (form : StorageForm) (code : Option TrapKind) (m : MemArg) → AllPut (operand_parts form code m)
operand_put form code m = chosen_put (is_relative m) (relative_parts form code m) (access_parts (storage_row form m) code) (relative_put form code m) (access_put (storage_row form m) code)

helper_put : (i : Inst) → AllPut (helper_parts i)
unfolding AllPut
helper_put (Mov64SImm32 rd imm) = tt
helper_put (LoadAddr rd mem) = operand_put (address_form rd) None mem
helper_put i = tt

pub helpers_put : (is : List Inst) → AllPut (helpers_parts is)
unfolding AllPut
helpers_put [] = tt
helpers_put (i ∷ is) = put_append (helper_parts i) (helpers_parts is) (helper_put i) (helpers_put is)

pub memory_put : (x : MemoryInstruction) → AllPut (memory_parts x)
memory_put x =
    let f = finalized_operand (type_of x.form x.accesses) x.operand in
    put_append (helpers_parts f.helpers) (operand_parts x.form (fault_code x) f.operand) (helpers_put f.helpers) (operand_put x.form (fault_code x) f.operand)

-- ---- how many bytes they put

bytes_more : (bs : List ℕ) (m : MachineInstruction) → length (bs ++ bytes_of m) ≡ length bs + size_of m
bytes_more bs m = length-append bs (bytes_of m) ∙ ap (λ n. length bs + n) (length-bytes m)

relative_size : (opcode register : ℕ) → size_of (ril_b opcode register 0) ≡ 6
unfolding length_of
relative_size opcode register = refl

puts_on : (s t u : BufferState) (a b : ℕ) → Puts s t a → Puts t u b → Puts s u (a + b)
puts_on s t u a b p q = record { unpoisoned = q.unpoisoned ∙ p.unpoisoned; bytes = omega (arith, p.bytes, q.bytes); declared = q.declared ∙ p.declared }

relative_more : (bs : List ℕ) (opcode register : ℕ) → length (bs ++ bytes_of (ril_b opcode register 0)) ≡ length bs + 6
relative_more bs opcode register = bytes_more bs (ril_b opcode register 0) ∙ ap (λ n. length bs + n) (relative_size opcode register)

pub parts_put : (s : BufferState) (parts : List CodePart) → AllPut parts → Puts s (with_parts s parts) (parts_size parts)
unfolding AllPut
parts_put s [] h = record { unpoisoned = refl; bytes = omega arith; declared = refl }
parts_put s (Row m ∷ parts) h = puts_on s (with_part s (Row m)) _ (size_of m) (parts_size parts) (record { unpoisoned = refl; bytes = bytes_more s.bytes m; declared = refl }) (parts_put (with_part s (Row m)) parts h)
parts_put s (Trapping m byte code ∷ parts) h = puts_on s (with_part s (Trapping m byte code)) _ (size_of m) (parts_size parts) (record { unpoisoned = refl; bytes = bytes_more s.bytes m; declared = refl }) (parts_put (with_part s (Trapping m byte code)) parts h)
parts_put s (Relative opcode register (ToBlock b) ∷ parts) h = puts_on s (with_part s (Relative opcode register (ToBlock b))) _ 6 (parts_size parts) (record { unpoisoned = refl; bytes = relative_more s.bytes opcode register; declared = refl }) (parts_put (with_part s (Relative opcode register (ToBlock b))) parts h)
parts_put s (RelativeConstant opcode register c ∷ parts) h = puts_on s (with_part s (RelativeConstant opcode register c)) _ 6 (parts_size parts) (record { unpoisoned = refl; bytes = relative_more s.bytes opcode register; declared = refl }) (parts_put (with_part s (RelativeConstant opcode register c)) parts h)
parts_put s (RelativeSymbol opcode register name offset ∷ parts) h = puts_on s (with_part s (RelativeSymbol opcode register name offset)) _ 6 (parts_size parts) (record { unpoisoned = refl; bytes = relative_more s.bytes opcode register; declared = refl }) (parts_put (with_part s (RelativeSymbol opcode register name offset)) parts h)
parts_put s (TrapHere code ∷ parts) h = puts_on s (with_part s (TrapHere code)) _ 0 (parts_size parts) (record { unpoisoned = refl; bytes = omega arith; declared = refl }) (parts_put (with_part s (TrapHere code)) parts h)
parts_put s (part ∷ parts) h = absurd h

pub helpers_puts : (s t : BufferState) (is : List Inst) → t ≡ with_parts s (helpers_parts is) → Puts s t (parts_size (helpers_parts is))
helpers_puts s t is e = subst (λ x. Puts s x (parts_size (helpers_parts is))) (sym e) (parts_put s (helpers_parts is) (helpers_put is))
