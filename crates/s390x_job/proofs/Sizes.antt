-- How long lines and completions are.
use Rattle.std.proofs.Common.{◌≡◌, ℕ, zero, suc, ◌+◌, ◌*◌, ◌≤◌, Bool, true, false, List, [], ◌∷◌, ◌++◌, length, take, inl, inr, arith, length-append}
use Rattle.std.specs.Prelude.{◌==◌, codes, if◌then◌else◌}
use Rattle.std.specs.Str.{bytes_eq}
use Rattle.s390x_job.specs.Completions.{closing, text_of_lines, opens, pieces, pieces_from}
use Rattle.s390x_job.proofs.Whole.{either}

opens_one : (t : Bool) (w : List ℕ) (ws : List (List ℕ)) → opens ws ≤ length (text_of_lines ws) → (if t then opens ws + 1 else opens ws) ≤ length (w ++ (10 ∷ text_of_lines ws))
opens_one true w ws h = omega (arith, h, length-append w (10 ∷ text_of_lines ws))
opens_one false w ws h = omega (arith, h, length-append w (10 ∷ text_of_lines ws))

pub opens_few : (ws : List (List ℕ)) → opens ws ≤ length (text_of_lines ws)
opens_few [] = omega arith
opens_few (w ∷ ws) = opens_one (bytes_eq (take 5 w) (codes "Loop ")) w ws (opens_few ws)

pub closing_size : (n : ℕ) → length (closing n) ≡ 8 * n + 4
closing_size zero = omega (arith, length-append (codes "end") (10 ∷ []))
closing_size (suc n) = omega (arith, closing_size n, length-append (codes "endloop") (10 ∷ closing n))

pub take_shorter : (n : ℕ) (ws : List (List ℕ)) → length (text_of_lines (take n ws)) ≤ length (text_of_lines ws)
take_shorter (suc n) (w ∷ ws) = omega (arith, take_shorter n ws, length-append w (10 ∷ text_of_lines (take n ws)), length-append w (10 ∷ text_of_lines ws))
take_shorter n ws = omega arith

short_from : (acc s : List ℕ) → length (text_of_lines (pieces_from acc s)) ≤ length acc + length s
short_from acc [] = omega arith
short_from acc (x ∷ s) =
    elim (either (x == 10)) [ inl e ↦ rw e (omega (arith, short_from [] s, length-append acc (10 ∷ text_of_lines (pieces_from [] s)))) | inr e ↦ rw e (omega (arith, short_from (acc ++ x ∷ []) s, length-append acc (x ∷ []))) ]

count_from : (acc s : List ℕ) → length (pieces_from acc s) ≤ length s
count_from acc [] = omega arith
count_from acc (x ∷ s) = elim (either (x == 10)) [ inl e ↦ rw e (omega (arith, count_from [] s)) | inr e ↦ rw e (omega (arith, count_from (acc ++ x ∷ []) s)) ]

-- a text has no more lines than bytes
pub pieces_few : (s : List ℕ) → length (pieces s) ≤ length s
pieces_few s = count_from [] s

-- the lines of a text are no longer than the text
pub pieces_short : (s : List ℕ) → length (text_of_lines (pieces s)) ≤ length s
pieces_short s = omega (arith, short_from [] s)
