use Rattle.std.proofs.Common.{◌≡◌, ◌+◌, List, [], ◌∷◌, ◌++◌, take, sym, ap, subst, ◌∙◌, arith}
use Rattle.std.proofs.lemmas.List.{take_all, take_more}
use Rattle.s390x_alloc.specs.Locations.{IsMapOf}
use Rattle.s390x_alloc.specs.declared.plan.EntryPair.{EntryPair}
use Rattle.s390x_alloc.proofs.location_map.LocationMap.from_pairs.Goals as goal

pub loop-pair-preserved : goal.loop-pair-preserved
loop-pair-preserved c =
    let xs = c.args.pairs.now in
    let i = c.loop-pair.pair-index in
    let x = c.pair-item.result in
    let more : take (i + 1) xs ≡ take i xs ++ x ∷ [] = take_more xs i x (omega arith) ∙ ap (λ (y : EntryPair). take i xs ++ y ∷ []) (sym c.pair-item.is) in
    record {
      map = subst (λ (l : List EntryPair). IsMapOf c.hold.new.self l) (sym more) (c.in_ok-hold.ensures.map (take i xs) c.loop-pair.invariant.map c.loop-pair.invariant.apart);
      apart = c.in_ok-hold.ensures.apart (take i xs) c.loop-pair.invariant.map c.loop-pair.invariant.apart;
    }

pub returns : goal.returns
returns c =
    let xs = c.args.pairs.now in
    subst (λ (l : List EntryPair). IsMapOf c.loop-pair.map l) (take_all c.loop-pair.pair-index xs (omega arith)) c.loop-pair.invariant.map
