-- Reading functions one behind the other.
use Rattle.std.proofs.Common.{◌≡◌, ℕ, ◌+◌, ◌<◌, List, [], ◌∷◌, ◌++◌, drop, length, take, sym, ap, ap₂, ◌∙◌, subst, arith, append_assoc, append-nil}
use Rattle.std.proofs.lemmas.List.{take-append-drop}
use Rattle.s390x_job.specs.Jobs.{IsJob, text_of_job}
use Rattle.s390x_job.specs.Completions.{text_of_lines, pieces}
use Rattle.s390x_job_bundle.specs.Errors.{IsStuckAt}
use Rattle.s390x_job_bundle.specs.Text.{AreFunctions, AreFunctionsOf, close_line, head_line, text_of_functions}
use Rattle.s390x_job_bundle.specs.declared.named_job.NamedJob.{NamedJob}
use Rattle.s390x_job_bundle.proofs.Heads.{bundle_joined, bundle_whole, bundle_words, function_words, functions_append, one_text, strip, words_append}
use Rattle.s390x_job_bundle.proofs.JobLines.{job_joined, words_of}
use Rattle.s390x_job_fields.specs.Marks.{past, upto}
use Rattle.s390x_job_bundle.proofs.Lines.{first_line, joined_append, text_cut}
use Rattle.s390x_job_bundle.proofs.Stopping.{At, at_pieces, text_words}
use Rattle.s390x_job.proofs.Whole.{nil}

-- one function more
pub at_more : (bytes : List ℕ) (fs gs : List NamedJob) (rest behind : List ℕ) (f : NamedJob) (size : ℕ) → At bytes fs rest → f.name.0 < 4294967296 → IsJob f.job
    → rest ≡ head_line f.name ++ 10 ∷ behind → text_of_job f.job ≡ take size behind → gs ≡ fs ++ f ∷ [] → At bytes gs (drop size behind)
at_more bytes fs gs rest behind f size a name job text part e =
    let words : text_of_lines (function_words gs) ≡ text_of_lines (function_words fs) ++ (head_line f.name ++ 10 ∷ take size behind) =
    ap (λ t. text_of_lines (function_words t)) e
    ∙ ap text_of_lines (words_append fs (f ∷ []))
    ∙ joined_append (function_words fs) (head_line f.name ∷ (words_of f.job ++ []))
    ∙ ap (λ t. text_of_lines (function_words fs) ++ (head_line f.name ++ 10 ∷ t)) (ap text_of_lines (append-nil (words_of f.job)) ∙ job_joined f.job ∙ part) in
    record {
      text = a.text
          ∙ ap (λ t. text_of_lines (function_words fs) ++ t) (text ∙ ap (λ t. head_line f.name ++ 10 ∷ t) (sym (take-append-drop size behind)) ∙ sym (append_assoc (head_line f.name) (10 ∷ take size behind) (drop size behind)))
          ∙ sym (append_assoc (text_of_lines (function_words fs)) (head_line f.name ++ 10 ∷ take size behind) (drop size behind))
          ∙ ap (λ t. t ++ drop size behind) (sym words);
      are = ap_are gs e (functions_append fs (f ∷ []) a.are (name, job, tt));
    }
  where
    ap_are : (hs : List NamedJob) → hs ≡ fs ++ f ∷ [] → AreFunctions (fs ++ f ∷ []) → AreFunctions hs
    ap_are hs e h = subst AreFunctions (sym e) h

-- the last line, with nothing behind it
pub at_close : (bytes : List ℕ) (fs : List NamedJob) (rest w behind : List ℕ) → At bytes fs rest → w ≡ close_line → rest ≡ w ++ 10 ∷ behind → length behind ≡ 0 → AreFunctionsOf bytes fs
at_close bytes fs rest w behind a e text none =
    let spelled : text_of_functions fs ≡ bytes =
    sym (bundle_joined fs)
    ∙ ap text_of_lines (bundle_whole fs)
    ∙ joined_append (function_words fs) (close_line ∷ [])
    ∙ ap₂ (λ v r. text_of_lines (function_words fs) ++ (v ++ 10 ∷ r)) (sym e) (sym (nil behind none))
    ∙ ap (λ t. text_of_lines (function_words fs) ++ t) (sym text)
    ∙ sym a.text in
    record { are = a.are; spelled = spelled; one = λ gs h s. one_text fs gs a.are h (spelled ∙ sym s) }

-- no line is left
pub stuck_end : (bytes : List ℕ) (fs : List NamedJob) (rest : List ℕ) (k : ℕ) → At bytes fs rest → pieces rest ≡ [] → k + length (pieces rest) ≡ length (pieces bytes) → IsStuckAt bytes k
stuck_end bytes fs rest k a none count =
    record {
      small = omega (arith, count);
      none = λ t.
          let l = strip fs t.0 [] a.are t.1 (ap (λ r. function_words fs ++ r) (sym none) ∙ sym (at_pieces bytes fs rest a) ∙ sym (text_words bytes t)) in
          never l.functions l.is;
      above = λ m h q t. absurd (omega (arith, h, q, count, ap length none));
    }
  where
    never : (gs : List NamedJob) → [] ≡ bundle_words gs → ⊥
    never [] e = cc
    never (g ∷ gs) e = cc

-- the first line of a rest, and what is behind it
pub cut_line : (r w behind : List ℕ) → w ≡ upto 10 r → behind ≡ past 10 r → (length w ≡ length r → ⊥) → (pieces r ≡ w ∷ pieces behind) × (r ≡ w ++ 10 ∷ behind)
cut_line r w behind e f n =
    let more : length (upto 10 r) ≡ length r → ⊥ = λ h. n (ap length e ∙ h) in
    (first_line r more ∙ ap₂ (λ v s. v ∷ pieces s) (sym e) (sym f), text_cut r more ∙ ap₂ (λ v s. v ++ 10 ∷ s) (sym e) (sym f))
