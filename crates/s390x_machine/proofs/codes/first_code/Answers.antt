use Rattle.std.proofs.Common.{◌≡◌, ◌≢◌, ℕ, suc, ◌<◌, ◌==◌, Bool, if◌then◌else◌, get_or, drop, drop-cons, List, length, Some, sym, ap, ◌∙◌, add-one, eq-eqb, ne_eqb}
use Rattle.std.proofs.Math.ListN.{drop_of_length-le}
use Rattle.s390x_buffer.specs.declared.entries.TrapEntry.{TrapEntry}
use Rattle.s390x_typed_steps.specs.Traps.{first_code}
use Rattle.s390x_machine.proofs.codes.first_code.Goals as goal

opened : (es : List TrapEntry) (offset i : ℕ) (z : TrapEntry) → i < length es → first_code (drop i es) offset ≡ (if (get_or es i z).offset == offset then Some (get_or es i z).code else first_code (drop (suc i) es) offset)
opened es offset i z lt = ap (λ (xs : List TrapEntry). first_code xs offset) (drop-cons es i z lt)

here : (es : List TrapEntry) (offset i : ℕ) (z : TrapEntry) → i < length es → (get_or es i z).offset ≡ offset → first_code (drop i es) offset ≡ Some (get_or es i z).code
here es offset i z lt e = opened es offset i z lt ∙ ap (λ (b : Bool). if b then Some (get_or es i z).code else first_code (drop (suc i) es) offset) (eq-eqb (get_or es i z).offset offset e)

past : (es : List TrapEntry) (offset i : ℕ) (z : TrapEntry) → i < length es → (get_or es i z).offset ≢ offset → first_code (drop i es) offset ≡ first_code (drop (suc i) es) offset
past es offset i z lt e = opened es offset i z lt ∙ ap (λ (b : Bool). if b then Some (get_or es i z).code else first_code (drop (suc i) es) offset) (ne_eqb (get_or es i z).offset offset e)

pub returns-then-entry-offset : goal.returns-then-entry-offset
returns-then-entry-offset c =
    let es = c.args.entries.now in
    let at = c.loop-entry.entry-index in
    let z = c.entry-item.result in
    let e = ap (λ (x : TrapEntry). x.offset) (sym c.entry-item.is) ∙ c.if-entry-offset.true in
    ap (λ (x : TrapEntry). Some x.code) c.entry-item.is ∙ sym (here es c.args.offset at z c.loop-entry-test.true e) ∙ c.loop-entry.invariant

pub returns : goal.returns
returns c = sym (ap (λ (xs : List TrapEntry). first_code xs c.args.offset) (drop_of_length-le c.args.entries.now c.loop-entry-test.false)) ∙ c.loop-entry.invariant

pub loop-entry-preserved : goal.loop-entry-preserved
loop-entry-preserved c =
    let es = c.args.entries.now in
    let at = c.loop-entry.entry-index in
    let z = c.entry-item.result in
    rw add-one (sym (past es c.args.offset at z c.loop-entry-test.true (λ e. c.if-entry-offset.false (ap (λ (x : TrapEntry). x.offset) c.entry-item.is ∙ e))) ∙ c.loop-entry.invariant)
