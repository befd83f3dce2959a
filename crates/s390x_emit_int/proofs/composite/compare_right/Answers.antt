use Rattle.s390x_base.specs.Regs.{number_of}
use Rattle.s390x_format.specs.Formats.{length_of}
use Rattle.s390x_rows.specs.declared.opcodes.TheConstants as opcodes
use Rattle.s390x_typed_steps.specs.MachineInstruction.{vrr_b}
use Rattle.s390x_emit_int.proofs.composite.compare_right.Goals as goal

pub returns-clause-only_memory : goal.returns-clause-only_memory
unfolding length_of
returns-clause-only_memory c = λ put valid. c.put_found.ensures.only_memory _ (vrr_b opcodes.VCHL (number_of c.args.tmp.now) (number_of c.args.rn.now) (number_of c.args.rm.now) 3 1) c.compared_vectors-found.ensures put valid
