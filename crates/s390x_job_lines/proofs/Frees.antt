-- Texts that lack a byte, and their pieces.
use Rattle.std.proofs.Common.{◌≡◌, ℕ, false, List, [], ◌∷◌, ◌++◌, refl, sym, ap, ◌∙◌}
use Rattle.std.specs.Prelude.{◌==◌}
use Rattle.s390x_job_fields.specs.Marks.{upto, past}
use Rattle.s390x_job_lines.specs.Line.{Line, line_text, IsLine}
use Rattle.s390x_job_fields.proofs.Members.{number-self, or-false}
use Rattle.s390x_job_fields.proofs.Avoids.{Avoids}
use Rattle.s390x_job_lines.proofs.RoundTrip.{line-feed}

-- no byte of the text is c
abbrev pub Free : ℕ → List ℕ → Type 0
Free c [] = Unit {0}
Free c (x ∷ s) = ((x == c) ≡ false) × Free c s

Free-avoids : (c : ℕ) (s : List ℕ) → Avoids (c ∷ []) s → Free c s
Free-avoids c [] h = tt
Free-avoids c (x ∷ s) h = (sym (or-false (x == c)) ∙ h.0, Free-avoids c s h.1)

pub line-free : (l : Line) → IsLine l → Free 10 (line_text l)
line-free l h = Free-avoids 10 (line_text l) (line-feed l h)

pub upto-free : (c : ℕ) (w r : List ℕ) → Free c w → upto c (w ++ c ∷ r) ≡ w
upto-free c [] r h = rw (number-self c) refl
upto-free c (x ∷ w) r h = rw h.0 (ap (λ l. x ∷ l) (upto-free c w r h.1))

pub past-free : (c : ℕ) (w r : List ℕ) → Free c w → past c (w ++ c ∷ r) ≡ r
past-free c [] r h = rw (number-self c) refl
past-free c (x ∷ w) r h = rw h.0 (past-free c w r h.1)
