use Rattle.std.proofs.Common.{ℕ, ◌<◌, length, get_or, below_more, subst, ◌∙◌, arith}
use Rattle.std.proofs.lemmas.List.{get_or_default}
use Rattle.s390x_machine.specs.Regions.{ContainsAll, ContainsNone}
use Rattle.s390x_machine.specs.declared.flat.Region.{Region}
use Rattle.s390x_machine.proofs.Regions.{each_held}
use Rattle.s390x_machine.proofs.flat.FlatMemory.holder_of_all.Goals as goal

pub loop-i-init : goal.loop-i-init
loop-i-init c = λ k less. absurd (omega arith)

pub returns-then-contains_all : goal.returns-then-contains_all
returns-then-contains_all c =
    let rs = c.args.self.now.regions.items in
    let lt : c.loop-i.i < length rs = omega (arith, c.len-i-end.ensures) in
    each_held rs c.args.address c.args.n c.loop-i.i lt
    (λ (z : Region). subst (λ (r : Region). ContainsAll r c.args.address c.args.n) (c.index-region.ensures ∙ get_or_default rs c.loop-i.i c.index-region.result.now z lt) (c.contains_all.ensures c.if-contains_all.true))
    c.loop-i.invariant

pub loop-i-preserved : goal.loop-i-preserved
loop-i-preserved c =
    let rs = c.args.self.now.regions.items in
    let lt : c.loop-i.i < length rs = omega (arith, c.len-i-end.ensures) in
    below_more (λ (k : ℕ). (z : Region) → ContainsNone (get_or rs k z) c.args.address c.args.n) c.loop-i.i c.loop-i.invariant
    (λ (z : Region). subst (λ (r : Region). ContainsNone r c.args.address c.args.n) (c.index-region.ensures ∙ get_or_default rs c.loop-i.i c.index-region.result.now z lt) (c.is_apart.ensures c.if-not-is_apart.false))

pub returns : goal.returns
returns c = λ j less. tt
