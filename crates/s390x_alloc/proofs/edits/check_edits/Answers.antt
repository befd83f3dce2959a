use Rattle.std.proofs.Common.{◌≡◌, ℕ, ◌+◌, ◌-◌, ◌<◌, ◌≤◌, Bool, List, length, get_or, take, drop, sym, ap, subst, arith}
use Rattle.std.proofs.lemmas.List.{length-drop, take_all}
use Rattle.s390x_inst.specs.declared.inst.Inst.{Inst}
use Rattle.s390x_alloc.specs.declared.plan.Edit.{Edit}
use Rattle.s390x_alloc.specs.Blocks.{IsFault, after_edit, after_edits, steps_in}
use Rattle.s390x_alloc.specs.Locations.{LeadsTo}
use Rattle.s390x_alloc.proofs.Following.{HeldAt, held_missing, held_turn}
use Rattle.s390x_alloc.proofs.edits.check_edits.Goals as goal

pub loop-number-preserved : goal.loop-number-preserved
loop-number-preserved c =
    let es = c.args.plan.now.edits.items in
    let is = c.args.insts.now in
    let entry = c.args.plan.now.entry.items in
    let n = c.loop-number.number in
    let taken = c.loop-number.taken in
    let e = c.edit-item.result in
    let same : c.deref-edit-items.result.now ≡ es = c.deref-edit-items.ensures.value in
    let at : e ≡ get_or es n e = cc in
    let lt : n < length es = omega (arith, ap (λ (l : List Edit). length l) same) in
    let left : take (length is - taken) (drop taken is) ≡ drop taken is = take_all (length is - taken) (drop taken is) (omega (arith, length-drop taken is)) in
    let fits : steps_in e ≤ length (drop taken is) = subst (λ (l : List Inst). steps_in e ≤ length l) left c.in-Ok-check_edit.ensures.taken in
    record {
      at = subst (λ (k : ℕ). HeldAt c.args.layout.now c.block_ends-ends.result c.args.block es is (n + 1) (taken + k) entry c.check_edit.new.held) (sym c.steps_in-taken.ensures)
          (held_turn c.args.layout.now c.block_ends-ends.result c.args.block es is n taken entry c.loop-number.held c.loop-number.invariant.at c.check_edit.new.held e lt at
          (λ list held. subst (λ (l : List Inst). LeadsTo (after_edit c.args.layout.now c.block_ends-ends.result e l list) c.check_edit.new.held) left (c.in-Ok-check_edit.ensures.held list held)));
      within = omega (arith, fits, c.steps_in-taken.ensures, length-drop taken is);
    }

pub returns-then-taken-insts : goal.returns-then-taken-insts
returns-then-taken-insts c =
    let es = c.args.plan.now.edits.items in
    let is = c.args.insts.now in
    let entry = c.args.plan.now.entry.items in
    let taken = c.loop-number.taken in
    let fault = c.edit_fault-then-taken-insts.result in
    subst (λ (b : Bool). IsFault (after_edits c.args.layout.now b c.args.block 0 es is entry) fault) c.block_ends-ends.ensures
    (held_missing c.args.layout.now c.block_ends-ends.result c.args.block es is c.loop-number.number taken entry c.loop-number.held c.loop-number.invariant.at _ fault (omega arith) (omega arith) (omega (arith, length-drop taken is)) c.edit_fault-then-taken-insts.ensures)
