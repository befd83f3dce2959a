use Rattle.std.proofs.Common.{sym, ap}
use Rattle.s390x_typed_steps.specs.Parts.{helpers_parts, parts_size}
use Rattle.s390x_format.specs.Formats.{length_of}
use Rattle.s390x_address.specs.Lowerings.{far_helper}
use Rattle.s390x_address.proofs.memory.far_size.Goals as goal

pub returns-in-Some-clause-value : goal.returns-in-Some-clause-value
unfolding length_of
returns-in-Some-clause-value c = sym (ap (λ o. parts_size (helpers_parts (far_helper o))) c.in-Some.is)
