use Rattle.std.proofs.Common.{◌∙◌, ap, arith, length}
use Rattle.s390x_buffer.specs.State.{BufferState}
use Rattle.s390x_emit_int.proofs.OnlyMemory.{only_memory_of_call, put_none}
use Rattle.s390x_emit_int.proofs.Leaves.{length-ril_c}
use Rattle.s390x_emit_int.proofs.instruction.put_cond_jump.Goals as goal

pub add_cond_branch-requires-clause-inverted_six : goal.add_cond_branch-requires-clause-inverted_six
add_cond_branch-requires-clause-inverted_six c = length-ril_c _ _ c.in_ok-inverted.ensures.bytes_are

pub returns-clause-only_memory : goal.returns-clause-only_memory
returns-clause-only_memory c = λ p.
    let s = c.add_cond_branch.new.self in
    let used = c.in_ok-use_label_at_offset.ensures.answer.1 in
    let noted = c.in_ok-add_cond_branch.ensures.answer.1 in
    let unpoisoned = ap (λ (s : BufferState). s.is_poisoned) noted ∙ ap (λ (s : BufferState). s.is_poisoned) used ∙ p.unpoisoned in
    let same = ap (λ (s : BufferState). length s.bytes) noted ∙ ap (λ (s : BufferState). length s.bytes) used in
    let six = length-ril_c _ _ c.in_ok-code.ensures.bytes_are in
    only_memory_of_call _ _ _ c.put_code.result c.put_code.ensures.answer (put_none s _ unpoisoned (omega (arith, same, six, p.short)))
