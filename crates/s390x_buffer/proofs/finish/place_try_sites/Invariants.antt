use Rattle.std.proofs.Common.{◌≡◌, take, map}
use Rattle.s390x_buffer.specs.State.{site_of}
use Rattle.s390x_buffer.specs.Finish.{bound_site, entry_of}
use Rattle.s390x_buffer.specs.Patch.{offset_of_label}
use Rattle.s390x_buffer.proofs.finish.place_try_sites.Given as goal

abbrev pub invariant-loop-s : goal.invariant-loop-s
invariant-loop-s l = map entry_of l.entries.items ≡ map (bound_site (offset_of_label l.labels)) (map site_of (take l.s-index l.sites))
