-- A line is read exactly.
use Rattle.std.proofs.Common.{◌≡◌, ℕ, true, false, List, sym, ap, ◌∙◌, subst}
use Rattle.std.specs.Str.{bytes_eq}
use Rattle.std.proofs.lemmas.Slice.Eq.{bytes_eq-Decides}
use Rattle.std.proofs.lemmas.Bool.{false≢true}
use Rattle.s390x_job_lines.specs.Line.{Line, line_text, IsLine, line_of}
use Rattle.s390x_job.specs.Items.{item_line}
use Rattle.s390x_job.specs.declared.item.Item.{Item}
use Rattle.s390x_job_lines.proofs.RoundTrip.{line-round_trip, read-ok}

-- what is read is a line
pub yes : (i : Item) (w : List ℕ) → item_line i ≡ line_of w → IsLine (item_line i)
yes i w e = subst IsLine (sym e) (read-ok w)

same : (i : Item) (w : List ℕ) → item_line i ≡ line_of w → (l : Line) → IsLine l → line_text l ≡ w → item_line i ≡ l
same i w e l ok h = e ∙ ap line_of (sym h) ∙ line-round_trip l ok

pub not_same : (i : Item) (w out : List ℕ) → item_line i ≡ line_of w → out ≡ line_text (item_line i) → bytes_eq out w ≡ false → (l : Line) → IsLine l → line_text l ≡ w → ⊥
not_same i w out e t f l ok h =
    let s = same i w e l ok h in
    false≢true (sym f ∙ (bytes_eq-Decides out w).1 (t ∙ ap line_text s ∙ h))
