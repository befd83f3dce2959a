-- Lines of data.
use Rattle.std.proofs.Common.{◌≡◌, ℕ, ◌+◌, List, [], ◌∷◌, ◌++◌, ap, sym, ◌∙◌}
use Rattle.s390x_disassembler.specs.declared.line.Line.{Line}
use Rattle.s390x_disassembler.specs.Noted.{CoversData, IsDataLine}

-- one more line
pub one_more : (code : List ℕ) (start middle : ℕ) (ls : List Line) (l : Line) → CoversData code start middle ls → l.offset ≡ middle → IsDataLine code l
    → CoversData code start (middle + l.length) (ls ++ l ∷ [])
one_more code start middle [] l c o i = (o ∙ sym c, i, ap (λ n. n + l.length) c)
one_more code start middle (m ∷ ms) l c o i = (c.0, c.1, one_more code (start + m.length) middle ms l c.2 o i)
