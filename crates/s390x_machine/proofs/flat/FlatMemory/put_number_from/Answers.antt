use Rattle.std.proofs.Common.{◌≡◌, ℕ, ◌-◌, ◌/◌, Bool, IsTrue, refl, sym, ap, ◌∙◌, subst, arith}
use Rattle.s390x_operations.specs.State.{bytes_to, wrapping_add64, write_get}
use Rattle.s390x_machine.specs.Regions.{byte_of, is_held}
use Rattle.s390x_machine.proofs.Numbers.{store_more, store_none}
use Rattle.s390x_machine.proofs.Reaching.{reached_at}
use Rattle.s390x_machine.proofs.Regions.{still_holds}
use Rattle.s390x_machine.proofs.flat.FlatMemory.put_number_from.Goals as goal

pub loop-i-init : goal.loop-i-init
loop-i-init c = record { same = refl; holds = c.requires.holds; left = refl }

pub put_from-requires-clause-there : goal.put_from-requires-clause-there
put_from-requires-clause-there c =
    subst (λ (held : ℕ → Bool). IsTrue (held (wrapping_add64 c.args.address (c.loop-i.i - 1)))) (sym c.loop-i.invariant.same)
    (reached_at (is_held c.args.self.now) c.args.address c.args.n (c.loop-i.i - 1) c.requires.there (omega arith))

pub put_from-requires-clause-holds : goal.put_from-requires-clause-holds
put_from-requires-clause-holds c = c.loop-i.invariant.holds (c.loop-i.i - 1) (omega arith)

pub loop-i-preserved : goal.loop-i-preserved
loop-i-preserved c =
    let i = c.loop-i.i in
    let write = write_get (bytes_to c.args.address (i - 1) (c.loop-i.rest / 256)) in
    record {
      same = c.put_from.ensures.same ∙ c.loop-i.invariant.same;
      holds = still_holds c.args.region c.loop-i.self.regions.items c.put_from.new.self.regions.items c.args.address c.args.n c.put_from.ensures.stays c.loop-i.invariant.holds;
      left = ap write c.put_from.ensures.written ∙ sym (store_more (byte_of c.loop-i.self) c.args.address i c.loop-i.rest (omega arith)) ∙ c.loop-i.invariant.left;
    }

pub returns-clause-same : goal.returns-clause-same
returns-clause-same c = c.loop-i.invariant.same

pub returns-clause-written : goal.returns-clause-written
returns-clause-written c =
    let z : 0 ≡ c.loop-i.i = omega arith in
    sym (store_none (byte_of c.loop-i.self) c.args.address c.loop-i.rest) ∙ ap (λ k. write_get (bytes_to c.args.address k c.loop-i.rest) (byte_of c.loop-i.self)) z ∙ c.loop-i.invariant.left
