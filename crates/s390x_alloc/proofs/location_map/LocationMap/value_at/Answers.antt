use Rattle.std.proofs.Common.{sym, ◌∙◌}
use Rattle.s390x_alloc.proofs.Locating.{alone_at, map_unheld}
use Rattle.s390x_alloc.proofs.Placing.{on_ok}
use Rattle.s390x_alloc.proofs.location_map.LocationMap.value_at.Goals as goal

pub returns-in-Some-clause-alone : goal.returns-in-Some-clause-alone
returns-in-Some-clause-alone c = λ held is apart. alone_at c.args.self.now c.args.place.now c.in-Some.value apart (sym c.get-found.ensures ∙ c.in-Some.is)

pub returns-in-None-clause-map : goal.returns-in-None-clause-map
returns-in-None-clause-map c = λ held is apart.
    on_ok c.put_value.result (λ v after. map_unheld c.args.self.now c.put_value.new.self held c.args.place.now is (sym c.get-found.ensures ∙ c.in-None.is) after) (c.put_value.ensures.map held is)

pub returns-in-None-clause-alone : goal.returns-in-None-clause-alone
returns-in-None-clause-alone c = λ held is apart. c.put_value.ensures.alone held is
