-- The part of a text that is a job, as it is cut off.
use Rattle.std.proofs.Common.{◌≡◌, ℕ, suc, ◌+◌, inl, inr, false, List, [], ◌∷◌, ◌++◌, drop, length, take, sym, ap, ◌∙◌, subst, arith, append_assoc, append-nil, length-append}
use Rattle.std.specs.Prelude.{codes}
use Rattle.std.specs.Str.{bytes_eq}
use Rattle.std.proofs.Math.Seq.{drop-append_seam, drop-length, take-append_seam, take-length}
use Rattle.s390x_job_fields.specs.Marks.{upto, past}
use Rattle.s390x_job_lines.proofs.Frees.{Free}
use Rattle.s390x_job.specs.Completions.{text_of_lines, pieces}
use Rattle.s390x_job.proofs.Above.{pieces_none}
use Rattle.s390x_job_bundle.specs.Cut.{HasNoEnd, IsCutAt}
use Rattle.s390x_job_bundle.proofs.Lines.{AllFree, first_line, free_append, joined_append, pieces_free, pieces_joined, pieces_whole, text_cut}

pub no_end_append : (a b : List (List ℕ)) → HasNoEnd a → HasNoEnd b → HasNoEnd (a ++ b)
no_end_append [] b h k = k
no_end_append (w ∷ a) b h k = (h.0, no_end_append a b h.1 k)

pub no_end_take : (n : ℕ) (a : List (List ℕ)) → HasNoEnd a → HasNoEnd (take n a)
no_end_take (suc n) (w ∷ a) h = (h.0, no_end_take n a h.1)
no_end_take n a h = tt

-- the lines so far, none of which is `end`, and the rest
pub record Scanned (bytes rest : List ℕ) : Type 0 where
  pub lines : List (List ℕ)
  pub free : HasNoEnd lines
  pub clean : AllFree lines
  pub text : bytes ≡ text_of_lines lines ++ rest

-- the text up to and with a first line of the rest
line_on : (bytes rest : List ℕ) (s : Scanned bytes rest) → (length (upto 10 rest) ≡ length rest → ⊥) → bytes ≡ text_of_lines (s.lines ++ upto 10 rest ∷ []) ++ past 10 rest
line_on bytes rest s n =
    s.text
    ∙ ap (λ t. text_of_lines s.lines ++ t) (text_cut rest n ∙ sym (append_assoc (upto 10 rest) (10 ∷ []) (past 10 rest)))
    ∙ sym (append_assoc (text_of_lines s.lines) (upto 10 rest ++ 10 ∷ []) (past 10 rest))
    ∙ ap (λ t. t ++ past 10 rest) (sym (joined_append s.lines (upto 10 rest ∷ [])))

first_free : (rest : List ℕ) → (length (upto 10 rest) ≡ length rest → ⊥) → Free 10 (upto 10 rest)
first_free rest n = let h : AllFree (upto 10 rest ∷ pieces (past 10 rest)) = subst AllFree (first_line rest n) (pieces_free rest) in h.0

pub scan_on : (bytes rest : List ℕ) → Scanned bytes rest → (length (upto 10 rest) ≡ length rest → ⊥) → bytes_eq (upto 10 rest) (codes "end") ≡ false → Scanned bytes (past 10 rest)
scan_on bytes rest s n e =
    record {
      lines = s.lines ++ upto 10 rest ∷ [];
      free = no_end_append s.lines (upto 10 rest ∷ []) s.free (e, tt);
      clean = free_append s.lines (upto 10 rest ∷ []) s.clean (first_free rest n, tt);
      text = line_on bytes rest s n;
    }

-- the first line of the rest is `end`
pub scan_end : (bytes rest : List ℕ) (size : ℕ) → Scanned bytes rest → (length (upto 10 rest) ≡ length rest → ⊥) → upto 10 rest ≡ codes "end" → size + length (past 10 rest) ≡ length bytes → IsCutAt bytes size
scan_end bytes rest size s n e c =
    let ws = s.lines ++ codes "end" ∷ [] in
    let behind = past 10 rest in
    let text : bytes ≡ text_of_lines ws ++ behind = line_on bytes rest s n ∙ ap (λ w. text_of_lines (s.lines ++ w ∷ []) ++ behind) e in
    let clean : AllFree ws = free_append s.lines (codes "end" ∷ []) s.clean (subst (Free 10) e (first_free rest n), tt) in
    let sized : size ≡ length (text_of_lines ws) = omega (arith, c, ap length text, length-append (text_of_lines ws) behind) in
    let part : take size bytes ≡ text_of_lines ws = ap (λ k. take k bytes) sized ∙ ap (take (length (text_of_lines ws))) text ∙ take-append_seam (text_of_lines ws) behind in
    let left : drop size bytes ≡ behind = ap (λ k. drop k bytes) sized ∙ ap (drop (length (text_of_lines ws))) text ∙ drop-append_seam (text_of_lines ws) behind in
    inl (record {
      lines = s.lines;
      free = s.free;
      pieces_are = ap pieces text ∙ pieces_joined ws behind clean ∙ append_assoc s.lines (codes "end" ∷ []) (pieces behind) ∙ ap (λ t. s.lines ++ codes "end" ∷ pieces t) (sym left);
      part_pieces = ap pieces part ∙ pieces_whole ws clean;
      part = part;
    })

-- no line of the rest ends with a line feed
pub scan_none : (bytes rest : List ℕ) → Scanned bytes rest → length (upto 10 rest) ≡ length rest → IsCutAt bytes (length bytes)
scan_none bytes rest s n =
    let all : pieces bytes ≡ s.lines = ap pieces s.text ∙ pieces_joined s.lines rest s.clean ∙ ap (λ t. s.lines ++ t) (pieces_none rest [] n) ∙ append-nil s.lines in
    inr (record { free = subst HasNoEnd (sym all) s.free; all = take-length bytes; rest = drop-length bytes })
