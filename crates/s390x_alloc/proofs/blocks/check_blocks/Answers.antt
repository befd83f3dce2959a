use Rattle.std.proofs.Common.{◌≡◌, ◌+◌, true, List, [], ◌∷◌, ◌++◌, sym, ap, subst, ◌∙◌, arith}
use Rattle.std.specs.Prelude.{not}
use Rattle.std.specs.Result.{is_ok}
use Rattle.s390x_alloc.specs.declared.location_map.LocationMap.{LocationMap}
use Rattle.s390x_alloc.proofs.Following.{EndsAt, ends_turn, pushed}
use Rattle.s390x_alloc.proofs.blocks.check_blocks.Goals as goal

pub loop-number-preserved : goal.loop-number-preserved
loop-number-preserved c =
    let bs = c.args.blocks.now in
    let ps = c.args.plans.now in
    let k = c.loop-number.number in
    let ms = c.loop-number.ends.items in
    let m = c.in_ok-held.held in
    let ok : is_ok c.push.result ≡ true = c.is_err.ensures.negation ∙ ap not c.if-is_err.false in
    let more : c.push.new.self.items ≡ ms ++ m ∷ [] = pushed (is_ok c.push.result) c.push.new.self.items ms (ms ++ m ∷ []) c.push.ensures.items ok in
    subst (λ (l : List LocationMap). EndsAt c.args.layout.now bs ps (k + 1) l) (sym more)
    (ends_turn c.args.layout.now bs ps k ms c.loop-number.invariant c.index-blocks-number.result c.index-plans-number.result m (omega arith) c.index-blocks-number.is (omega arith) c.index-plans-number.is c.in_ok-held.ensures)
