use Rattle.std.proofs.Common.{ℕ, Some, sym, ap, ◌∙◌, subst}
use Rattle.s390x_operations.specs.State.{bytes_to, write_get}
use Rattle.s390x_machine.specs.Regions.{HoldsAll, byte_of}
use Rattle.s390x_machine.proofs.flat.FlatMemory.put_region_number.Goals as goal

pub put_doubleword-requires : goal.put_doubleword-requires
put_doubleword-requires c = subst (λ (n : ℕ). HoldsAll (Some c.args.i) c.args.self.now.regions.items c.args.address n) c.if-n-eq8.true c.requires.holds

pub put_quadword-requires : goal.put_quadword-requires
put_quadword-requires c = subst (λ (n : ℕ). HoldsAll (Some c.args.i) c.args.self.now.regions.items c.args.address n) c.if-n-eq16.true c.requires.holds

pub returns-then-n-eq8-clause-written : goal.returns-then-n-eq8-clause-written
returns-then-n-eq8-clause-written c = c.put_doubleword.ensures.written ∙ ap (λ (n : ℕ). write_get (bytes_to c.args.address n c.args.value) (byte_of c.args.self.now)) (sym c.if-n-eq8.true)

pub returns-then-n-eq16-clause-written : goal.returns-then-n-eq16-clause-written
returns-then-n-eq16-clause-written c = c.put_quadword.ensures.written ∙ ap (λ (n : ℕ). write_get (bytes_to c.args.address n c.args.value) (byte_of c.args.self.now)) (sym c.if-n-eq16.true)
