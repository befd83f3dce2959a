-- Where reading stops, no completion of more lines is the text of functions.
use Rattle.std.proofs.Common.{◌≡◌, ℕ, ◌+◌, ◌-◌, ◌<◌, ◌≤◌, ◌⊎◌, inl, inr, Bool, true, false, List, [], ◌∷◌, ◌++◌, drop, length, take, refl, sym, ap, ap₂, ◌∙◌, arith, append_assoc, length-append}
use Rattle.std.specs.Prelude.{nat_lt, if◌then◌else◌}
use Rattle.std.proofs.lemmas.List.{length-take-le}
use Rattle.s390x_base.specs.declared.ir.ExternalName.{ExternalName}
use Rattle.s390x_job.specs.Completions.{closes, closing, text_of_lines, opens, pieces}
use Rattle.s390x_job_bundle.specs.Completions.{IsBundleText, bundle_completion, ends, has_line, heads}
use Rattle.s390x_job_bundle.specs.Cut.{HasNoEnd, IsCutAt}
use Rattle.s390x_job_bundle.specs.Errors.{HasNoJob, IsStuckAt}
use Rattle.s390x_job_bundle.specs.Text.{AreFunctions, close_line, head_line, text_of_functions}
use Rattle.s390x_job_bundle.specs.declared.named_job.NamedJob.{NamedJob}
use Rattle.s390x_job_bundle.proofs.Begun.{Begun, cut_count, not_begun, not_begun_by}
use Rattle.s390x_job_bundle.proofs.Closers.{Closed, closers, closers_free, closers_joined, line_tail, line_tail_free, line_tail_joined}
use Rattle.s390x_job_bundle.proofs.Heads.{Left, bundle_free, bundle_joined, bundle_words, close_free, first, function_words, head_not_close, strip, words_free}
use Rattle.s390x_job_bundle.proofs.Lines.{AllFree, free_append, free_take, joined_append, pieces_free, pieces_joined, pieces_whole, same_lines, take_front}

-- these lines are those of functions
abbrev Fits : List (List ℕ) → Type 0
Fits ws = (fs : List NamedJob) × AreFunctions fs × (bundle_words fs ≡ ws)

-- the lines of a text of functions are theirs
pub text_words : (s : List ℕ) (t : IsBundleText s) → bundle_words t.0 ≡ pieces s
text_words s t = sym (pieces_whole (bundle_words t.0) (bundle_free t.0 t.1)) ∙ ap pieces (bundle_joined t.0 ∙ t.2)

-- ---- the lines that a completion adds

abbrev job_tail : Bool → ℕ → List (List ℕ)
job_tail b n = if b then closers n else []

abbrev tail_words : List (List ℕ) → List (List ℕ)
tail_words ws = job_tail (nat_lt (ends ws) (heads ws)) (opens ws - closes ws) ++ line_tail close_line (has_line close_line ws)

job_tail_joined : (b : Bool) (n : ℕ) → text_of_lines (job_tail b n) ≡ (if b then closing n else [])
job_tail_joined true n = closers_joined n
job_tail_joined false n = refl

job_tail_free : (b : Bool) (n : ℕ) → AllFree (job_tail b n)
job_tail_free true n = closers_free n
job_tail_free false n = tt

completion_words : (ws : List (List ℕ)) → bundle_completion ws ≡ text_of_lines (ws ++ tail_words ws)
completion_words ws =
    let j = job_tail (nat_lt (ends ws) (heads ws)) (opens ws - closes ws) in
    let c = line_tail close_line (has_line close_line ws) in
    sym (joined_append ws (j ++ c) ∙ ap (λ t. text_of_lines ws ++ t) (joined_append j c ∙ ap₂ (λ a b. a ++ b) (job_tail_joined (nat_lt (ends ws) (heads ws)) (opens ws - closes ws)) (line_tail_joined close_line (has_line close_line ws))))

tail_free : (ws : List (List ℕ)) → AllFree (tail_words ws)
tail_free ws =
    free_append (job_tail (nat_lt (ends ws) (heads ws)) (opens ws - closes ws)) (line_tail close_line (has_line close_line ws)) (job_tail_free (nat_lt (ends ws) (heads ws)) (opens ws - closes ws)) (line_tail_free close_line (has_line close_line ws) close_free)

-- a completed text of functions
completion_fits : (ws : List (List ℕ)) → AllFree ws → IsBundleText (bundle_completion ws) → Fits (ws ++ tail_words ws)
completion_fits ws h t =
    (t.0, t.1, same_lines (bundle_words t.0) (ws ++ tail_words ws) (bundle_free t.0 t.1) (free_append ws (tail_words ws) h (tail_free ws)) (bundle_joined t.0 ∙ t.2 ∙ completion_words ws))

tail_form : (b d : Bool) (n : ℕ) → HasNoEnd (job_tail b n ++ line_tail close_line d) ⊎ Closed (job_tail b n ++ line_tail close_line d)
tail_form true d n = inr (record { count = n; more = line_tail close_line d; is = refl })
tail_form false true n = inl tt
tail_form false false n = inl (refl, tt)

-- ---- what stands behind the functions that were read

pub record At (bytes : List ℕ) (fs : List NamedJob) (rest : List ℕ) : Type 0 where
  pub text : bytes ≡ text_of_lines (function_words fs) ++ rest
  pub are : AreFunctions fs

-- and these are the functions that a sink has taken, of which this says what it has
pub record Taking {S : Type 0} (HasTaken : S → List NamedJob → Type 0) (bytes : List ℕ) (sink : S) (rest : List ℕ) : Type 0 where
  pub functions : List NamedJob
  pub at : At bytes functions rest
  pub taken : HasTaken sink functions

pub at_pieces : (bytes : List ℕ) (fs : List NamedJob) (rest : List ℕ) → At bytes fs rest → pieces bytes ≡ function_words fs ++ pieces rest
at_pieces bytes fs rest a = ap pieces a.text ∙ pieces_joined (function_words fs) rest (words_free fs a.are)

pub at_count : (bytes : List ℕ) (fs : List NamedJob) (rest : List ℕ) → At bytes fs rest → length (pieces rest) ≤ length (pieces bytes)
at_count bytes fs rest a = omega (arith, ap length (at_pieces bytes fs rest a), length-append (function_words fs) (pieces rest))

module _ (bytes : List ℕ) (fs : List NamedJob) (rest : List ℕ) (k : ℕ) (a : At bytes fs rest) (w : List ℕ) (more : List (List ℕ)) (cut : pieces rest ≡ w ∷ more) (count : k + length (pieces rest) ≡ length (pieces bytes)) where
  whole_words : pieces bytes ≡ function_words fs ++ w ∷ more
  whole_words = at_pieces bytes fs rest a ∙ ap (λ t. function_words fs ++ t) cut

  at_k : k ≡ length (function_words fs)
  at_k = omega (arith, count, ap length cut, ap length whole_words, length-append (function_words fs) (w ∷ more))

  at_length : length (pieces bytes) ≡ k + (length more + 1)
  at_length = omega (arith, count, ap length cut)

  text_left : IsBundleText bytes → Left (w ∷ more)
  text_left t = strip fs t.0 (w ∷ more) a.are t.1 (sym whole_words ∙ sym (text_words bytes t))

  taken_left : (m n : ℕ) → m ≡ k + (n + 1) → IsBundleText (bundle_completion (take m (pieces bytes))) → Left (w ∷ (take n more ++ tail_words (take m (pieces bytes))))
  taken_left m n e t =
      let ws = take m (pieces bytes) in
      let f = completion_fits ws (free_take m (pieces bytes) (pieces_free bytes)) t in
      let g : ws ≡ function_words fs ++ w ∷ take n more = ap (take m) whole_words ∙ take_front (function_words fs) w more m n (omega (arith, e, at_k)) in
      strip fs f.0 (w ∷ (take n more ++ tail_words ws)) a.are f.1
      (sym (append_assoc (function_words fs) (w ∷ take n more) (tail_words ws)) ∙ ap (λ t. t ++ tail_words ws) (sym g) ∙ sym f.2)

  -- it is no line that may stand between jobs
  pub stuck_other : (w ≡ close_line → ⊥) → ((name : ExternalName) → name.0 < 4294967296 → head_line name ≡ w → ⊥) → IsStuckAt bytes k
  stuck_other not_close not_head =
      record {
        small = omega (arith, at_length);
        none = λ t. no_other more (text_left t);
        above = λ m h q t. no_other _ (taken_left m (m - (k + 1)) (omega (arith, h)) t);
      }
    where
      other : (ws : List (List ℕ)) (gs : List NamedJob) → AreFunctions gs → w ∷ ws ≡ bundle_words gs → ⊥
      other ws [] h e = not_close (ap first e)
      other ws (g ∷ gs) h e = not_head g.name h.0 (sym (ap first e))

      no_other : (ws : List (List ℕ)) → Left (w ∷ ws) → ⊥
      no_other ws l = other ws l.functions l.are l.is

  -- it is the last line, and something stands behind it
  pub stuck_close : (behind : List ℕ) → w ≡ close_line → rest ≡ w ++ 10 ∷ behind → more ≡ pieces behind → 0 < length behind → IsStuckAt bytes (k + 1)
  stuck_close behind e text is some =
      record {
        small = omega (arith, at_length);
        none = λ t. long t (alone more (text_left t));
        above = λ m h q t.
            let n = m - (k + 1) in
            let none = alone (take n more ++ tail_words (take m (pieces bytes))) (taken_left m n (omega (arith, h)) t) in
            omega (arith, h, q, at_length, ap length none, length-append (take n more) (tail_words (take m (pieces bytes))), length-take-le n more (omega (arith, q, at_length)));
      }
    where
      nothing : (ws : List (List ℕ)) (gs : List NamedJob) → w ∷ ws ≡ bundle_words gs → ws ≡ []
      nothing ws [] f = ap (drop 1) f
      nothing ws (g ∷ gs) f = absurd (head_not_close g.name (sym (ap first f) ∙ e))

      alone : (ws : List (List ℕ)) → Left (w ∷ ws) → ws ≡ []
      alone ws l = nothing ws l.functions l.is

      long : IsBundleText bytes → more ≡ [] → ⊥
      long t none =
          let all : text_of_functions t.0 ≡ text_of_lines (function_words fs ++ close_line ∷ []) =
          sym (bundle_joined t.0) ∙ ap text_of_lines (text_words bytes t ∙ whole_words ∙ ap₂ (λ v vs. function_words fs ++ v ∷ vs) e none) in
          let short : bytes ≡ text_of_lines (function_words fs) ++ text_of_lines (close_line ∷ []) = sym t.2 ∙ all ∙ joined_append (function_words fs) (close_line ∷ []) in
          let full : bytes ≡ text_of_lines (function_words fs) ++ (close_line ++ 10 ∷ behind) = a.text ∙ ap (λ r. text_of_lines (function_words fs) ++ r) (text ∙ ap (λ v. v ++ 10 ∷ behind) e) in
          omega (arith, some, ap length short, ap length full, length-append (text_of_lines (function_words fs)) (text_of_lines (close_line ∷ [])), length-append (text_of_lines (function_words fs)) (close_line ++ 10 ∷ behind), length-append close_line (10 ∷ behind), length-append close_line (10 ∷ []))

-- ---- where a job's text stops

behind_head : (name : ExternalName) (ws : List (List ℕ)) (gs : List NamedJob) → AreFunctions gs → head_line name ∷ ws ≡ bundle_words gs → Begun ws
behind_head name ws [] h e = absurd (head_not_close name (ap first e))
behind_head name ws (g ∷ gs) h e = record { job = g.job; is = h.1; rest = bundle_words gs; whole = ap (drop 1) e }

begun : (name : ExternalName) (ws : List (List ℕ)) → Left (head_line name ∷ ws) → Begun ws
begun name ws l = behind_head name ws l.functions l.are l.is

-- a part of a text that is no job's, where a function begins
module _ (bytes : List ℕ) (fs : List NamedJob) (rest : List ℕ) (k : ℕ) (a : At bytes fs rest) (name : ExternalName) (behind : List ℕ) (cut : pieces rest ≡ head_line name ∷ pieces behind) (count : k + length (pieces rest) ≡ length (pieces bytes)) (size : ℕ) (line : ℕ) (none : HasNoJob (take size behind) line) where
  job_left : IsBundleText bytes → Begun (pieces behind)
  job_left t = begun name (pieces behind) (text_left bytes fs rest k a (head_line name) (pieces behind) cut count t)

  job_taken : (m n : ℕ) → m ≡ k + (n + 1) → IsBundleText (bundle_completion (take m (pieces bytes))) → Begun (take n (pieces behind) ++ tail_words (take m (pieces bytes)))
  job_taken m n e t =
      begun name (take n (pieces behind) ++ tail_words (take m (pieces bytes))) (taken_left bytes fs rest k a (head_line name) (pieces behind) cut count m n e t)

  job_length : length (pieces bytes) ≡ k + (length (pieces behind) + 1)
  job_length = at_length bytes fs rest k a (head_line name) (pieces behind) cut count

  pub stuck_job : IsCutAt behind size → IsStuckAt bytes (k + line)
  stuck_job at_end =
      record {
        small = omega (arith, job_length, none.1.is, none.1.small, cut_count behind size at_end);
        none = λ t. not_begun behind size line none at_end (job_left t);
        above = λ m h q t.
            let n = m - (k + 1) in
            let ws = take m (pieces bytes) in
            not_begun_by behind size line none at_end n (tail_words ws) (omega (arith, h, none.1.is)) (omega (arith, q, job_length))
            (tail_form (nat_lt (ends ws) (heads ws)) (has_line close_line ws) (opens ws - closes ws)) (job_taken m n (omega (arith, h, none.1.is)) t);
      }
