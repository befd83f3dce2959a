use Rattle.s390x_alloc.proofs.Locating.{map_set_dropped}
use Rattle.s390x_alloc.proofs.location_map.LocationMap.drop_set.Goals as goal

pub returns : goal.returns
returns c = λ held is. map_set_dropped c.args.self.now held is c.clear_set.new.self c.args.set c.clear_set.ensures
