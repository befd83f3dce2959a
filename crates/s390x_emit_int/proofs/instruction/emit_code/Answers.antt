use Rattle.std.proofs.Common.{ap, sym, ◌∙◌, ◌-◌, [], ◌∷◌, length}
use Rattle.s390x_typed_steps.specs.MachineInstruction.{bytes_of}
use Rattle.s390x_typed_steps.specs.Parts.{row_part}
use Rattle.s390x_emit_int.specs.Fragments.{Put, PutTrapping, apply, apply_all}
use Rattle.s390x_emit_int.specs.Emission.{part_fragments}
use Rattle.s390x_emit_int.proofs.Answering.{on_ok, on_both}
use Rattle.s390x_emit_int.proofs.OnlyMemory.{only_memory_of_call}
use Rattle.s390x_emit_int.proofs.Runs.{length-bytes}
use Rattle.s390x_emit_int.proofs.instruction.emit_code.Goals as goal

pub returns-in-Some-clause-answer : goal.returns-in-Some-clause-answer
returns-in-Some-clause-answer c = λ m is.
    let s = c.args.sink.now in
    let n = c.in-Some.trap_code in
    on_ok c.put_trapping.result c.put_trapping.ensures.answer (λ e.
    e ∙ ap (λ bs. apply s (PutTrapping c.args.code.now (length bs - 1) n)) c.bytes.ensures.bytes
    ∙ ap (λ bs. apply s (PutTrapping bs (length bs - 1) n)) is
    ∙ ap (λ k. apply s (PutTrapping (bytes_of m) (k - 1) n)) (length-bytes m)
    ∙ ap (λ o. apply_all s (part_fragments (row_part m o ∷ []))) (sym c.in-Some.is))

pub returns-in-None-clause-answer : goal.returns-in-None-clause-answer
returns-in-None-clause-answer c = λ m is.
    let s = c.args.sink.now in
    on_both _ c.put_code.result c.put_code.ensures.answer (λ e.
    e.1 ∙ ap (λ bs. apply s (Put bs)) is ∙ ap (λ o. apply_all s (part_fragments (row_part m o ∷ []))) (sym c.in-None.is))

pub returns-in-Some-clause-only_memory : goal.returns-in-Some-clause-only_memory
returns-in-Some-clause-only_memory c = c.put_trapping.ensures.only_memory

pub returns-in-None-clause-only_memory : goal.returns-in-None-clause-only_memory
returns-in-None-clause-only_memory c = λ put. only_memory_of_call _ _ _ c.put_code.result c.put_code.ensures.answer put
