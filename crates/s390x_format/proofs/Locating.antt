-- An instruction without the place of its row.
use Rattle.std.proofs.Common.{◌≡◌, ℕ, List, Option, Some, None, sym, subst}
use Rattle.std.specs.Prelude.{IfSome}
use Rattle.s390x_format.specs.declared.decoder.Decoded.{Decoded}
use Rattle.s390x_format.specs.declared.decoder.Located.{Located}
use Rattle.s390x_format.specs.Fetch.{IsFetch, IsLocated, decoded_in}

located_fetch : (bytes : List ℕ) (x : Option Located) → IfSome x (λ l. IsLocated bytes l) → IfSome (decoded_in x) (λ d. IsFetch bytes d)
located_fetch bytes None h = tt
located_fetch bytes (Some l) h = h.fetch

pub fetched_alone : (bytes : List ℕ) (x : Option Located) (y : Option Decoded) → y ≡ decoded_in x → IfSome x (λ l. IsLocated bytes l) → IfSome y (λ d. IsFetch bytes d)
fetched_alone bytes x y e h = subst (λ (z : Option Decoded). IfSome z (λ d. IsFetch bytes d)) (sym e) (located_fetch bytes x h)
