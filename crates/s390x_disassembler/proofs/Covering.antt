-- Lines that say what stands in some code.
use Rattle.std.proofs.Common.{◌≡◌, ℕ, ◌+◌, List, [], ◌∷◌, ◌++◌, Option, Some, None, ap, sym, ◌∙◌}
use Rattle.std.proofs.lemmas.Option.{none-some}
use Rattle.std.specs.Prelude.{IfSome}
use Rattle.s390x_format.specs.declared.decoder.Decoded.{Decoded}
use Rattle.s390x_format.specs.declared.decoder.Located.{Located}
use Rattle.s390x_format.specs.Fetch.{IsFetch, IsLocated, decoded_in}
use Rattle.s390x_disassembler.specs.declared.line.Line.{Line}
use Rattle.s390x_disassembler.specs.Lines.{IsFound, IsLine, Covers}

-- where no instruction is answered, the bytes are none's
pub answered : (bytes : List ℕ) (x : Option Located) → IfSome x (λ l. IsLocated bytes l) → ((d : Decoded) → IsFetch bytes d → decoded_in x ≡ Some d) → IsFound bytes x
answered bytes (Some l) sound complete = sound
answered bytes None sound complete = λ d fetch. none-some d (complete d fetch)

-- one more line
pub one_more : (code : List ℕ) (start middle : ℕ) (ls : List Line) (l : Line) → Covers code start middle ls → l.offset ≡ middle → IsLine code l
    → Covers code start (middle + l.length) (ls ++ l ∷ [])
one_more code start middle [] l c o i = (o ∙ sym c, i, ap (λ n. n + l.length) c)
one_more code start middle (m ∷ ms) l c o i = (c.0, c.1, one_more code (start + m.length) middle ms l c.2 o i)
