use Rattle.std.proofs.Common.{sym, ap, ◌∙◌}
use Rattle.s390x_buffer.specs.State.{put_cause}
use Rattle.s390x_typed_steps.specs.Parts.{helpers_parts, parts_size}
use Rattle.s390x_format.specs.Formats.{length_of}
use Rattle.s390x_address.specs.Lowerings.{far_helper}
use Rattle.s390x_address.proofs.memory.put_far.Goals as goal

pub returns-in-Some-clause-only_memory : goal.returns-in-Some-clause-only_memory
unfolding length_of
returns-in-Some-clause-only_memory c = λ h. c.put_offset.ensures.only_memory (sym (ap (λ o. put_cause c.args.sink.now (parts_size (helpers_parts (far_helper o)))) c.in-Some.is) ∙ h)
