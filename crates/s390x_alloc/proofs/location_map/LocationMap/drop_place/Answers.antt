use Rattle.s390x_alloc.proofs.Locating.{map_dropped}
use Rattle.s390x_alloc.proofs.location_map.LocationMap.drop_place.Goals as goal

pub returns : goal.returns
returns c = λ held is. map_dropped c.args.self.now held is c.clear.new.self c.args.place c.clear.ensures
