use Rattle.std.proofs.Common.{[], ◌∷◌, arith}
use Rattle.s390x_base.specs.Regs.{number_of}
use Rattle.s390x_format.specs.Formats.{length_of}
use Rattle.s390x_typed_steps.specs.MachineInstruction.{vrr_a}
use Rattle.s390x_typed_steps.specs.Parts.{Row}
use Rattle.s390x_emit_int.proofs.Composing.{room_before}
use Rattle.s390x_emit_int.proofs.OnlyMemory.{only_memory_again}
use Rattle.s390x_emit_int.proofs.Symbols.{room_behind}
use Rattle.s390x_emit_int.proofs.composite.compare_first.Goals as goal

pub returns-in_err-compare_left-clause-only_memory : goal.returns-in_err-compare_left-clause-only_memory
returns-in_err-compare_left-clause-only_memory c = λ put valid. only_memory_again c.from_residual.result _ c.from_residual.ensures.1 (c.in_err-compare_left.ensures.only_memory (room_before c.args.sink.now 10 6 put (omega arith)) valid)

pub returns-clause-only_memory : goal.returns-clause-only_memory
unfolding length_of
returns-clause-only_memory c = λ put valid.
    c.skip_six.ensures.only_memory (room_behind c.args.sink.now c.compare_left.new.sink (Row (vrr_a c.args.opcode (number_of c.args.rn.now) (number_of c.args.rm.now) 3) ∷ []) 10 4 put c.in_ok-compare_left.ensures.answer (omega arith))
