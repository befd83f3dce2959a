-- The parts of an instruction with a memory operand as fragments: what they do to a buffer.
use Rattle.std.proofs.Common.{◌≡◌, ◌+◌, List, [], ◌∷◌, ◌++◌, length, refl, ap, ap₂, ◌∙◌, arith, append-nil}
use Rattle.s390x_base.specs.declared.trap.TrapKind.{TrapKind}
use Rattle.s390x_buffer.specs.State.{BufferState}
use Rattle.s390x_typed_steps.specs.Parts.{CodePart, Row, Trapping, Relative, RelativeConstant, RelativeSymbol, TrapHere, ToBlock}
use Rattle.s390x_address.specs.Appended.{with_part, with_parts}
use Rattle.s390x_address.proofs.Putting.{AllPut}
use Rattle.s390x_emit_int.specs.Emission.{part_fragment, part_fragments}
use Rattle.s390x_emit_int.specs.Fragments.{apply, apply_all}

-- a trap alone puts no bytes
trap_applied : (s : BufferState) (code : TrapKind) → apply s (part_fragment (TrapHere code)) ≡ with_part s (TrapHere code)
trap_applied s code =
    let here : length s.bytes + 0 ≡ length s.bytes = omega arith in
    ap₂ (λ bs n. let t : BufferState = record s { bytes = bs; traps = s.traps ++ record { offset = n; code = code } ∷ [] } in t) (append-nil s.bytes) here

-- as fragments they do to a buffer what appending them does
pub parts_run : (parts : List CodePart) (s : BufferState) → AllPut parts → apply_all s (part_fragments parts) ≡ with_parts s parts
unfolding AllPut
parts_run [] s h = refl
parts_run (Row m ∷ parts) s h = parts_run parts (with_part s (Row m)) h
parts_run (Trapping m byte code ∷ parts) s h = parts_run parts (with_part s (Trapping m byte code)) h
parts_run (Relative opcode register (ToBlock b) ∷ parts) s h = parts_run parts (with_part s (Relative opcode register (ToBlock b))) h
parts_run (RelativeConstant opcode register c ∷ parts) s h = parts_run parts (with_part s (RelativeConstant opcode register c)) h
parts_run (RelativeSymbol opcode register name offset ∷ parts) s h = parts_run parts (with_part s (RelativeSymbol opcode register name offset)) h
parts_run (TrapHere code ∷ parts) s h = ap (λ t. apply_all t (part_fragments parts)) (trap_applied s code) ∙ parts_run parts (with_part s (TrapHere code)) h
parts_run (part ∷ parts) s h = absurd h
