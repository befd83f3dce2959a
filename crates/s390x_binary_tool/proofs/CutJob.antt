-- The job of a text, up to and with its first line `end`.
use Rattle.std.proofs.Common.{◌≡◌, ℕ, inl, inr, List, [], ◌∷◌, ◌++◌, drop, take, sym, ap, ◌∙◌, subst, append_assoc}
use Rattle.std.specs.Prelude.{codes}
use Rattle.std.proofs.lemmas.List.{append_cancel_left, take-append-drop}
use Rattle.s390x_job.specs.Completions.{text_of_lines, pieces}
use Rattle.s390x_job.specs.Jobs.{IsJob, text_of_job}
use Rattle.s390x_job.specs.declared.job.Job.{Job}
use Rattle.s390x_job_bundle.specs.Cut.{HasNoEnd, IsCutAt}
use Rattle.s390x_job_bundle.proofs.Heads.{cut_at}
use Rattle.s390x_job_bundle.proofs.JobLines.{job_ended, job_free, job_joined, words_of}
use Rattle.s390x_job_bundle.proofs.Lines.{pieces_joined}

-- `end` isn't among lines without it
no_end_among : (a b : List (List ℕ)) → HasNoEnd (a ++ codes "end" ∷ b) → ⊥
no_end_among [] b h = let clash = h.0 in absurd cc
no_end_among (w ∷ a) b h = no_end_among a b h.1

-- what a job's text and others behind it are cut to
pub record IsCut (input job behind : List ℕ) (size : ℕ) : Type 0 where
  pub job_is : take size input ≡ job
  pub behind_is : drop size input ≡ behind

pub cut_job : (input behind : List ℕ) (size : ℕ) (j : Job) → IsCutAt input size → IsJob j → input ≡ text_of_job j ++ behind → IsCut input (text_of_job j) behind size
cut_job input behind size j (inr unended) is spelled =
    let e = job_ended j is in
    let all : pieces input ≡ e.before ++ codes "end" ∷ pieces behind = ap pieces (spelled ∙ ap (λ t. t ++ behind) (sym (job_joined j))) ∙ pieces_joined (words_of j) behind (job_free j is) ∙ ap (λ ws. ws ++ pieces behind) e.whole ∙ append_assoc e.before (codes "end" ∷ []) (pieces behind) in
    absurd (no_end_among e.before (pieces behind) (subst HasNoEnd all unended.free))
cut_job input behind size j (inl ended) is spelled =
    let e = job_ended j is in
    let all : pieces input ≡ e.before ++ codes "end" ∷ pieces behind = ap pieces (spelled ∙ ap (λ t. t ++ behind) (sym (job_joined j))) ∙ pieces_joined (words_of j) behind (job_free j is) ∙ ap (λ ws. ws ++ pieces behind) e.whole ∙ append_assoc e.before (codes "end" ∷ []) (pieces behind) in
    let same = cut_at ended.lines e.before _ _ ended.free e.free (sym ended.pieces_are ∙ all) in
    let part : take size input ≡ text_of_job j = ended.part ∙ ap (λ ws. text_of_lines (ws ++ codes "end" ∷ [])) same.0 ∙ ap text_of_lines (sym e.whole) ∙ job_joined j in
    record {
      job_is = part;
      behind_is = append_cancel_left (text_of_job j) _ _ (ap (λ t. t ++ drop size input) (sym part) ∙ take-append-drop size input ∙ spelled);
    }
