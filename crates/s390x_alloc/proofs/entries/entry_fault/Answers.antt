use Rattle.std.proofs.Common.{◌≡◌, ◌∙◌, sym, ap, arith, List, length}
use Rattle.s390x_alloc.specs.Entries.{first_unfounded, predecessors}
use Rattle.s390x_alloc.specs.declared.plan.EntryPair.{EntryPair}
use Rattle.s390x_alloc.proofs.Leading.{entry_found, entry_goes, list_at}
use Rattle.s390x_alloc.proofs.entries.entry_fault.Goals as goal

pub returns-in-Some : goal.returns-in-Some
returns-in-Some c = λ lists are.
    let k = c.loop-number.number in
    let before : c.deref.result.now ≡ predecessors (length c.args.blocks.now) k 0 c.args.blocks.now =
    c.deref.ensures.value ∙ list_at c.in_ok-before.before.items k c.index.result.now (omega (arith, c.in_ok-before.ensures.size)) c.index.ensures ∙ c.in_ok-before.ensures.lists k (omega arith) in
    entry_found c.args.blocks.now (length c.args.blocks.now) lists c.args.plans.now k c.index-plans-number.result c.deref.result.now _ c.in-Some.pair c.entry_fault_at.result (omega arith) c.index-plans-number.is before (sym c.in-Some.is ∙ c.first_unfounded.ensures lists are ∙ ap (λ (es : List EntryPair). first_unfounded lists c.deref.result.now k 0 es) c.deref-in-loop-number.ensures.value) c.entry_fault_at.ensures (c.loop-number.invariant lists are)

pub loop-number-preserved : goal.loop-number-preserved
loop-number-preserved c = λ lists are.
    let k = c.loop-number.number in
    let before : c.deref.result.now ≡ predecessors (length c.args.blocks.now) k 0 c.args.blocks.now =
    c.deref.ensures.value ∙ list_at c.in_ok-before.before.items k c.index.result.now (omega (arith, c.in_ok-before.ensures.size)) c.index.ensures ∙ c.in_ok-before.ensures.lists k (omega arith) in
    entry_goes c.args.blocks.now (length c.args.blocks.now) lists c.args.plans.now k c.index-plans-number.result c.deref.result.now _ (omega arith) c.index-plans-number.is before (sym c.in-None.is ∙ c.first_unfounded.ensures lists are ∙ ap (λ (es : List EntryPair). first_unfounded lists c.deref.result.now k 0 es) c.deref-in-loop-number.ensures.value) (c.loop-number.invariant lists are)
