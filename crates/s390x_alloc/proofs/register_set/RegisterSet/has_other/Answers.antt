use Rattle.std.proofs.Common.{◌≡◌, Bool, true, false, refl, sym, subst}
use Rattle.std.specs.Prelude.{not}
use Rattle.std.proofs.lemmas.Bool.{false≢true}
use Rattle.s390x_base.specs.declared.regs.RegClass.{RegClass}
use Rattle.s390x_base.specs.declared.regs.RegClass.TheVariants.{Int, Float}
use Rattle.s390x_alloc.specs.Registers.{HasOther}
use Rattle.s390x_alloc.proofs.Placing.{member}
use Rattle.s390x_alloc.proofs.register_set.RegisterSet.has_other.Goals as goal

unlike : (b : Bool) → not b ≡ true → b ≡ true → ⊥
unlike true h e = false≢true h
unlike false h e = false≢true e

pub returns-in-Int-clause-some : goal.returns-in-Int-clause-some
returns-in-Int-clause-some c h =
    let some = member c.args.self.now.floats.keys (λ e. unlike c.is_empty.result h (c.is_empty.ensures.1 e)) in
    subst (λ (d : RegClass). HasOther d c.args.self.now) (sym c.in-Int.is) (record { number = some.0; class = Float; other = refl; has = some.1 })

pub returns-in-Float-clause-some : goal.returns-in-Float-clause-some
returns-in-Float-clause-some c h =
    let some = member c.args.self.now.integers.keys (λ e. unlike c.is_empty-in-Float.result h (c.is_empty-in-Float.ensures.1 e)) in
    subst (λ (d : RegClass). HasOther d c.args.self.now) (sym c.in-Float.is) (record { number = some.0; class = Int; other = refl; has = some.1 })
