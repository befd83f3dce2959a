use Rattle.std.proofs.Common.{◌≡◌, ◌≢◌, ◌<◌, ℕ, suc, Bool, if◌then◌else◌, get_or, drop, drop-cons, List, length, Some, sym, ap, ◌∙◌, add-one, ne_eqb, arith}
use Rattle.std.proofs.Math.ListN.{drop_of_length-le}
use Rattle.s390x_buffer.specs.declared.entries.TrapEntry.{TrapEntry}
use Rattle.s390x_typed_steps.specs.Traps.{first_code}
use Rattle.s390x_execution.proofs.report.far_code.Goals as goal

past : (es : List TrapEntry) (offset i : ℕ) (z : TrapEntry) → i < length es → (get_or es i z).offset ≢ offset → first_code (drop i es) offset ≡ first_code (drop (suc i) es) offset
past es offset i z lt e =
    ap (λ (xs : List TrapEntry). first_code xs offset) (drop-cons es i z lt)
    ∙ ap (λ (b : Bool). if b then Some (get_or es i z).code else first_code (drop (suc i) es) offset) (ne_eqb (get_or es i z).offset offset e)

pub returns-clause-beyond : goal.returns-clause-beyond
returns-clause-beyond c = λ later far.
    sym (c.loop-entry.invariant later far) ∙ ap (λ (xs : List TrapEntry). first_code xs later) (drop_of_length-le c.args.entries.now c.loop-entry-test.false)

pub loop-entry-preserved : goal.loop-entry-preserved
loop-entry-preserved c = λ later far.
    let es = c.args.entries.now in
    let at = c.loop-entry.entry-index in
    let z = c.entry-item.result in
    rw add-one (sym (past es later at z c.loop-entry-test.true (λ e. absurd (omega (arith, far, e, c.if-entry-offset.false, ap (λ (x : TrapEntry). x.offset) c.entry-item.is)))) ∙ c.loop-entry.invariant later far)
