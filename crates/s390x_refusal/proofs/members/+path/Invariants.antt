use Rattle.std.proofs.Common.{◌+◌, ◌-◌, ◌*◌}
use Rattle.s390x_refusal.proofs.members.+path.Given as goal

-- a loop's members stand one deeper, and loops are nested less than nine deep
abbrev pub decreases-path_to : goal.decreases-path_to
decreases-path_to l = 2 * (9 - l.scope.depth)

abbrev pub decreases-path_among : goal.decreases-path_among
decreases-path_among l = 2 * (9 - l.scope.depth) + 1
