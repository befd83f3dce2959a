use Rattle.std.proofs.Common.{[], ◌∷◌, arith}
use Rattle.s390x_base.specs.Regs.{number_of}
use Rattle.s390x_format.specs.Formats.{length_of}
use Rattle.s390x_rows.specs.declared.opcodes.TheConstants as opcodes
use Rattle.s390x_typed_steps.specs.MachineInstruction.{ri_c, vrr_a}
use Rattle.s390x_typed_steps.specs.Parts.{Row}
use Rattle.s390x_typed_steps.specs.VectorInstruction.{is_vector}
use Rattle.s390x_emit_int.proofs.Composing.{inputs_of, room_before}
use Rattle.s390x_emit_int.proofs.OnlyMemory.{only_memory_again}
use Rattle.s390x_emit_int.proofs.Symbols.{room_behind}
use Rattle.s390x_emit_int.proofs.composite.emit_comparison.Goals as goal

pub returns-in_err-compare_first-clause-only_memory : goal.returns-in_err-compare_first-clause-only_memory
returns-in_err-compare_first-clause-only_memory c = λ put valid. only_memory_again c.from_residual.result _ c.from_residual.ensures.1 (c.in_err-compare_first.ensures.only_memory (room_before c.args.sink.now 16 10 put (omega arith)) (inputs_of (is_vector c.args.tmp.now) (is_vector c.args.rn.now) (is_vector c.args.rm.now) valid))

pub returns-clause-only_memory : goal.returns-clause-only_memory
unfolding length_of
returns-clause-only_memory c = λ put valid.
    c.compare_right.ensures.only_memory (room_behind c.args.sink.now c.compare_first.new.sink (Row (vrr_a c.args.opcode (number_of c.args.rm.now) (number_of c.args.rn.now) 3) ∷ Row (ri_c opcodes.BRC 7 5) ∷ []) 16 6 put c.in_ok-compare_first.ensures.answer (omega arith)) valid
