use Rattle.std.proofs.Common.{None}
use Rattle.s390x_bundle.proofs.Standing.{starts_rise}
use Rattle.s390x_bundle.proofs.law.members_rise.Goals as goal

pub returns : goal.returns
returns c = λ xs bss are aligned. starts_rise xs bss are aligned None
