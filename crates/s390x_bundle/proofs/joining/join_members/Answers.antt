use Rattle.std.proofs.Common.{◌∙◌}
use Rattle.s390x_bundle.proofs.Starting.{extents_aligned}
use Rattle.s390x_bundle.proofs.joining.join_members.Goals as goal

pub starts_of-requires : goal.starts_of-requires
starts_of-requires c = extents_aligned c.args.codes.now c.deref.result.now (c.deref.ensures.value ∙ c.in-Ok.ensures) c.requires.finished
