use Rattle.s390x_alloc.proofs.Locating.{map_moved}
use Rattle.s390x_alloc.proofs.Placing.{on_ok}
use Rattle.s390x_alloc.proofs.location_map.LocationMap.move_value.Goals as goal

pub returns : goal.returns
returns c = λ held is. on_ok c.copy.result (λ x now. map_moved c.args.self.now held is c.copy.new.self c.args.to c.args.from now) c.copy.ensures
