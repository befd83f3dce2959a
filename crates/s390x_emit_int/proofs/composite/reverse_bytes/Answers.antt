use Rattle.std.proofs.Common.{[], ◌∷◌, arith}
use Rattle.s390x_base.specs.Regs.{number_of}
use Rattle.s390x_format.specs.Formats.{length_of}
use Rattle.s390x_typed_steps.specs.Parts.{Row}
use Rattle.s390x_typed_steps.specs.VectorComposite.{exchanges_doublewords, exchanges_halves}
use Rattle.s390x_typed_steps.specs.VectorInstruction.{is_vector}
use Rattle.s390x_emit_int.proofs.Composing.{first_of, room_before}
use Rattle.s390x_emit_int.proofs.OnlyMemory.{only_memory_again}
use Rattle.s390x_emit_int.proofs.Symbols.{room_behind}
use Rattle.s390x_emit_int.proofs.composite.reverse_bytes.Goals as goal

pub returns-in_err-reverse_halfwords-clause-only_memory : goal.returns-in_err-reverse_halfwords-clause-only_memory
returns-in_err-reverse_halfwords-clause-only_memory c = λ put valid. only_memory_again c.from_residual.result _ c.from_residual.ensures.1 (c.in_err-reverse_halfwords.ensures.only_memory (room_before c.args.sink.now 24 18 put (omega arith)) valid)

pub returns-clause-only_memory : goal.returns-clause-only_memory
unfolding length_of
returns-clause-only_memory c = λ put valid.
    let d = number_of c.args.rd.now in
    c.exchange_halves.ensures.only_memory (room_behind c.args.sink.now c.reverse_halfwords.new.sink (Row (exchanges_doublewords d (number_of c.args.rn.now)) ∷ Row (exchanges_halves d 3 32) ∷ Row (exchanges_halves d 2 16) ∷ []) 24 6 put c.in_ok-reverse_halfwords.ensures.answer (omega arith)) (first_of (is_vector c.args.rd.now) (is_vector c.args.rn.now) valid)
