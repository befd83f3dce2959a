-- Code that is too long at any time is refused, and code that is too long in the end with its constants.
use Rattle.std.proofs.Common.{◌≡◌, ℕ, ◌<◌, ◌≤◌, List, Bool, true, false, ◌&&◌, None, Some, nat_lt, min, refl, sym, ap, ◌∙◌, arith}
use Rattle.std.proofs.lemmas.Bool.{and_from, ltb-true, lt-ltb, and_right}
use Rattle.s390x_base.specs.declared.error.EmitError.TheVariants.{LabelOutOfRange}
use Rattle.s390x_buffer.specs.State.{Constant, limit}
use Rattle.s390x_buffer.specs.Constants.{constants_end}
use Rattle.s390x_typed_steps.specs.Causes.{unless}

not_less : (a b : ℕ) → b ≤ a → (t : Bool) → nat_lt a b ≡ t → t ≡ false
not_less a b h true e = absurd (let lt : a < b = ltb-true a b e in omega arith)
not_less a b h false e = refl

pub both_fit : (counted longest last : ℕ) (cs : List Constant) → counted < limit → min limit counted ≡ min limit longest → nat_lt (constants_end last cs) limit ≡ true → None ≡ unless (nat_lt longest limit && nat_lt (constants_end last cs) limit) LabelOutOfRange
both_fit counted longest last cs lt e ends =
    let short : longest < limit = omega (arith, lt, e) in
    sym (ap (λ t. unless t LabelOutOfRange) (and_from (nat_lt longest limit) (nat_lt (constants_end last cs) limit) (lt-ltb longest limit short) ends))

pub constants_too_long : (longest last : ℕ) (cs : List Constant) → nat_lt (constants_end last cs) limit ≡ false → Some LabelOutOfRange ≡ unless (nat_lt longest limit && nat_lt (constants_end last cs) limit) LabelOutOfRange
constants_too_long longest last cs ends =
    sym (ap (λ t. unless (nat_lt longest limit && t) LabelOutOfRange) ends ∙ ap (λ t. unless t LabelOutOfRange) (and_right (nat_lt longest limit) false refl))

pub code_too_long : (counted longest last : ℕ) (cs : List Constant) → limit ≤ counted → min limit counted ≡ min limit longest → Some LabelOutOfRange ≡ unless (nat_lt longest limit && nat_lt (constants_end last cs) limit) LabelOutOfRange
code_too_long counted longest last cs le e =
    let far : limit ≤ longest = omega (arith, le, e) in
    sym (ap (λ t. unless (t && nat_lt (constants_end last cs) limit) LabelOutOfRange) (not_less longest limit far _ refl))
