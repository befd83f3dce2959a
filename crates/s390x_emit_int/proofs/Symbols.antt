-- Emitting the load of a symbol's address.
use Rattle.std.proofs.Common.{◌≡◌, ℕ, ℤ, ◌+◌, ◌≤◌, List, [], ◌∷◌, None, true, sym, ap, ◌∙◌, arith}
use Rattle.std.specs.Int.{w64, to_be_bytes}
use Rattle.s390x_base.specs.declared.ir.ExternalName.{ExternalName}
use Rattle.s390x_base.specs.declared.ir.Reloc.TheVariants.{Abs8}
use Rattle.s390x_base.specs.declared.regs.Reg.{Reg}
use Rattle.s390x_base.specs.declared.error.EmitError.TheVariants.{BadRegister}
use Rattle.s390x_inst.specs.declared.calls.SymbolReloc.{SymbolReloc}
use Rattle.s390x_inst.specs.declared.inst.Inst.{Inst}
use Rattle.s390x_inst.specs.declared.inst.Inst.TheVariants.{LoadSymbolReloc}
use Rattle.s390x_buffer.specs.State.{BufferState, put_cause}
use Rattle.s390x_format.specs.Formats.{length_of}
use Rattle.s390x_rows.specs.declared.opcodes.TheConstants as opcodes
use Rattle.s390x_typed_steps.specs.MachineInstruction.{ri_b}
use Rattle.s390x_typed_steps.specs.Parts.{CodePart, Row, SymbolValue, parts_size}
use Rattle.s390x_typed_steps.specs.Causes.{branch_cause}
use Rattle.s390x_typed_steps.specs.General.{is_general}
use Rattle.s390x_typed_steps.proofs.Causes.{unless_true}
use Rattle.s390x_emit_int.specs.Fragments.{PutReloc, apply, apply_all}
use Rattle.s390x_emit_int.specs.Emission.{branch_size, part_fragments}
use Rattle.s390x_emit_int.specs.Room.{MembersFit}
use Rattle.s390x_emit_int.proofs.OnlyMemory.{put_none, put_parts}
use Rattle.s390x_emit_int.proofs.Tables.{parts_turns}

-- what still fits behind some parts
pub room_behind : (s t : BufferState) (parts : List CodePart) (n m : ℕ) → put_cause s n ≡ None → t ≡ apply_all s (part_fragments parts) → parts_size parts + m ≤ n → put_cause t m ≡ None
room_behind s t parts n m room e le =
    let p = put_parts s n room in
    let u = parts_turns s t parts e in
    put_none t m (u.unpoisoned ∙ p.0) (omega (arith, u.bytes, p.1, le))

pub branch_room : (s : BufferState) → put_cause s 18 ≡ None → put_cause s 4 ≡ None
branch_room s room = let p = put_parts s 18 room in put_none s 4 p.0 (omega (arith, p.1))

pub doubleword_room : (s s1 : BufferState) → put_cause s 18 ≡ None → s1 ≡ apply_all s (part_fragments (Row (ri_b opcodes.BRAS 1 6) ∷ [])) → put_cause s1 8 ≡ None
unfolding length_of
doubleword_room s s1 room e = room_behind s s1 (Row (ri_b opcodes.BRAS 1 6) ∷ []) 18 8 room e (omega arith)

pub load_room : (s s1 s2 : BufferState) (name : ExternalName) (offset : ℤ) → put_cause s 18 ≡ None → s1 ≡ apply_all s (part_fragments (Row (ri_b opcodes.BRAS 1 6) ∷ [])) → s2 ≡ apply s1 (PutReloc (to_be_bytes w64 0) 0 Abs8 name offset) → put_cause s2 6 ≡ None
unfolding length_of
load_room s s1 s2 name offset room e f =
    room_behind s s2 (Row (ri_b opcodes.BRAS 1 6) ∷ SymbolValue name offset ∷ []) 18 6 room (f ∙ ap (λ x. apply x (PutReloc (to_be_bytes w64 0) 0 Abs8 name offset)) e) (omega arith)

-- what the check let pass of the instruction
pub symbol_passed : (s : BufferState) (after depth : ℕ) (i : Inst) (rd : Reg) (reloc : SymbolReloc) → i ≡ LoadSymbolReloc rd reloc → MembersFit s after depth (branch_size i) (branch_cause s.block_count depth i) → (put_cause s 18 ≡ None) × (is_general rd ≡ true)
unfolding length_of
symbol_passed s after depth i rd reloc e p =
    let size : branch_size i ≡ 18 = ap branch_size e in
    let cause = sym (ap (branch_cause s.block_count depth) e) ∙ p.passed in
    (put_none s 18 p.unpoisoned (omega (arith, p.short, size)), unless_true (is_general rd) BadRegister cause)
