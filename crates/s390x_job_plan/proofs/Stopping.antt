-- Where reading stops, no completion of more lines is the text of a planned job.
use Rattle.std.proofs.Common.{◌≡◌, ℕ, zero, suc, ◌+◌, ◌-◌, ◌≤◌, ◌⊎◌, Bool, true, false, List, [], ◌∷◌, ◌++◌, drop, length, take, refl, sym, ap, ap₂, ◌∙◌, inl, inr, subst, arith, append_assoc, length-append}
use Rattle.std.specs.Prelude.{codes, if◌then◌else◌}
use Rattle.std.specs.Str.{bytes_eq}
use Rattle.std.proofs.lemmas.List.{append_cancel_left, take-append-drop}
use Rattle.s390x_job_fields.proofs.Avoids.{Avoids-test}
use Rattle.s390x_job.specs.Completions.{closes, closing, text_of_lines, opens, pieces}
use Rattle.s390x_job.specs.Jobs.{IsJob, text_of_job}
use Rattle.s390x_job.specs.declared.job.Job.{Job}
use Rattle.s390x_alloc.specs.declared.plan.Plan.{Plan}
use Rattle.s390x_job_bundle.specs.Cut.{HasNoEnd, IsCutAt}
use Rattle.s390x_job_bundle.specs.Errors.{HasNoJob}
use Rattle.s390x_job_bundle.specs.Completions.{has_line, line_ending}
use Rattle.s390x_job_bundle.proofs.Begun.{Begun, cut_count, not_begun, not_begun_by}
use Rattle.s390x_job_bundle.proofs.Closers.{Closed, closers, closers_free, closers_joined, line_tail, line_tail_free, line_tail_joined}
use Rattle.s390x_job_bundle.proofs.Cutting.{no_end_append}
use Rattle.s390x_job_bundle.proofs.Heads.{close_free, free_of}
use Rattle.s390x_job_bundle.proofs.JobLines.{job_free, job_joined, words_of}
use Rattle.s390x_job_bundle.proofs.Lines.{AllFree, free_append, free_take, joined_append, pieces_free, pieces_joined, pieces_whole, same_lines}
use Rattle.s390x_job_plan.specs.Completions.{IsPlannedText, plan_completion}
use Rattle.s390x_job_plan.specs.Errors.{IsPlanOutcome, IsPlanStuckAt, IsStuckAt}
use Rattle.s390x_job_plan.specs.Text.{IsPlannedOf, text_of_planned}
use Rattle.s390x_job_plan.specs.declared.find.PlanOutcome.TheVariants.{Whole}
use Rattle.s390x_job_plan.specs.declared.planned_job.PlannedJob.{PlannedJob}
use Rattle.s390x_job_plan.proofs.Parts.{Fits, behind_job, one_planned, plan_words, planned_free, planned_joined, planned_words, text_fits, text_words}

-- ---- the lines that a completion adds

abbrev job_tail : Bool → ℕ → List (List ℕ)
job_tail b n = if b then [] else closers n

abbrev last_tail : List (List ℕ) → List (List ℕ)
last_tail ws = line_tail (codes "plan") (has_line (codes "plan") ws) ++ line_tail (codes "close") (has_line (codes "close") ws)

abbrev tail_words : List (List ℕ) → List (List ℕ)
tail_words ws = job_tail (has_line (codes "end") ws) (opens ws - closes ws) ++ last_tail ws

job_tail_joined : (b : Bool) (n : ℕ) → text_of_lines (job_tail b n) ≡ (if b then [] else closing n)
job_tail_joined true n = refl
job_tail_joined false n = closers_joined n

job_tail_free : (b : Bool) (n : ℕ) → AllFree (job_tail b n)
job_tail_free true n = tt
job_tail_free false n = closers_free n

last_free : (ws : List (List ℕ)) → AllFree (last_tail ws)
last_free ws =
    free_append (line_tail (codes "plan") (has_line (codes "plan") ws)) (line_tail (codes "close") (has_line (codes "close") ws))
    (line_tail_free (codes "plan") (has_line (codes "plan") ws) (free_of (codes "plan") (Avoids-test (10 ∷ []) (codes "plan") refl))) (line_tail_free (codes "close") (has_line (codes "close") ws) close_free)

completion_words : (ws : List (List ℕ)) → plan_completion ws ≡ text_of_lines (ws ++ tail_words ws)
completion_words ws =
    let j = job_tail (has_line (codes "end") ws) (opens ws - closes ws) in
    let p = line_tail (codes "plan") (has_line (codes "plan") ws) in
    let c = line_tail (codes "close") (has_line (codes "close") ws) in
    let last : text_of_lines (p ++ c) ≡ line_ending (codes "plan") ws ++ line_ending (codes "close") ws =
    joined_append p c ∙ ap₂ (λ a b. a ++ b) (line_tail_joined (codes "plan") (has_line (codes "plan") ws)) (line_tail_joined (codes "close") (has_line (codes "close") ws)) in
    sym (joined_append ws (j ++ (p ++ c)) ∙ ap (λ t. text_of_lines ws ++ t) (joined_append j (p ++ c) ∙ ap₂ (λ a b. a ++ b) (job_tail_joined (has_line (codes "end") ws) (opens ws - closes ws)) last))

tail_free : (ws : List (List ℕ)) → AllFree (tail_words ws)
tail_free ws = free_append (job_tail (has_line (codes "end") ws) (opens ws - closes ws)) (last_tail ws) (job_tail_free (has_line (codes "end") ws) (opens ws - closes ws)) (last_free ws)

-- a completed text of a planned job
completion_fits : (ws : List (List ℕ)) → AllFree ws → IsPlannedText (plan_completion ws) → Fits (ws ++ tail_words ws)
completion_fits ws h t =
    (t.0, t.1, same_lines (planned_words t.0) (ws ++ tail_words ws) (planned_free t.0 t.1) (free_append ws (tail_words ws) h (tail_free ws)) (planned_joined t.0 ∙ t.2 ∙ completion_words ws))

taken_fits : (bytes : List ℕ) (m : ℕ) → IsPlannedText (plan_completion (take m (pieces bytes))) → Fits (take m (pieces bytes) ++ tail_words (take m (pieces bytes)))
taken_fits bytes m t = completion_fits (take m (pieces bytes)) (free_take m (pieces bytes) (pieces_free bytes)) t

-- ---- where the job's text stops

begun : (ws : List (List ℕ)) → Fits ws → Begun ws
begun ws f = record { job = f.0.job; is = f.1.0; rest = plan_words f.0; whole = sym f.2 }

last_lacks : (ws : List (List ℕ)) → HasNoEnd (last_tail ws)
last_lacks ws = no_end_append (line_tail (codes "plan") (has_line (codes "plan") ws)) (line_tail (codes "close") (has_line (codes "close") ws)) (one (codes "plan") (has_line (codes "plan") ws) refl) (one (codes "close") (has_line (codes "close") ws) refl)
  where
    one : (w : List ℕ) (b : Bool) → bytes_eq w (codes "end") ≡ false → HasNoEnd (line_tail w b)
    one w true h = tt
    one w false h = (h, tt)

tail_form : (b : Bool) (n : ℕ) (last : List (List ℕ)) → HasNoEnd last → HasNoEnd (job_tail b n ++ last) ⊎ Closed (job_tail b n ++ last)
tail_form true n last h = inl h
tail_form false n last h = inr (record { count = n; more = last; is = refl })

-- a beginning of a text that is no job's
pub stuck_job : (bytes : List ℕ) (size line : ℕ) → HasNoJob (take size bytes) line → (k : ℕ) → k + 1 ≡ line → IsCutAt bytes size → IsStuckAt bytes k
stuck_job bytes size line none k e at_end =
    record {
      small = omega (arith, e, none.1.is, none.1.small, cut_count bytes size at_end);
      none = λ t. not_begun bytes size line none at_end (begun (pieces bytes) (text_fits bytes t));
      above = λ m h q t.
          let ws = take m (pieces bytes) in
          not_begun_by bytes size line none at_end m (tail_words ws) (omega (arith, h, e)) q
          (tail_form (has_line (codes "end") ws) (opens ws - closes ws) (last_tail ws) (last_lacks ws)) (begun (ws ++ tail_words ws) (taken_fits bytes m t));
    }

-- ---- behind the job's text

take_over : (a b : List (List ℕ)) (m : ℕ) → length a ≤ m → take m (a ++ b) ≡ a ++ take (m - length a) b
take_over [] b m h = ap (λ k. take k b) (omega arith)
take_over (w ∷ a) b zero h = absurd (omega (arith, h))
take_over (w ∷ a) b (suc m) h = let n : suc m - length (w ∷ a) ≡ m - length a = omega arith in ap (λ t. w ∷ t) (take_over a b m (omega (arith, h)) ∙ ap (λ k. a ++ take k b) (sym n))

module _ (bytes : List ℕ) (size : ℕ) (job : Job) (is : IsJob job) (part : text_of_job job ≡ take size bytes) where
  rest : List ℕ
  rest = drop size bytes

  all_text : bytes ≡ text_of_lines (words_of job) ++ drop size bytes
  all_text = sym (take-append-drop size bytes) ∙ ap (λ t. t ++ drop size bytes) (sym part ∙ sym (job_joined job))

  all_pieces : pieces bytes ≡ words_of job ++ pieces (drop size bytes)
  all_pieces = ap pieces all_text ∙ pieces_joined (words_of job) (drop size bytes) (job_free job is)

  part_pieces : pieces (take size bytes) ≡ words_of job
  part_pieces = ap pieces (sym part ∙ sym (job_joined job)) ∙ pieces_whole (words_of job) (job_free job is)

  counted : length (pieces bytes) ≡ length (pieces (take size bytes)) + length (pieces (drop size bytes))
  counted = omega (arith, ap length all_pieces, ap length part_pieces, length-append (words_of job) (pieces (drop size bytes)))

  pub stuck_plan : (n : ℕ) → IsPlanStuckAt (pieces (drop size bytes)) n → IsStuckAt bytes (length (pieces (take size bytes)) + n)
  stuck_plan n s =
      record {
        small = omega (arith, s.small, counted);
        none = λ t. s.none (behind_job job (pieces (drop size bytes)) is (subst Fits all_pieces (text_fits bytes t)));
        above = λ m h q t.
            let k = m - length (words_of job) in
            let tail = tail_words (take m (pieces bytes)) in
            let e : take m (pieces bytes) ≡ words_of job ++ take k (pieces (drop size bytes)) = ap (take m) all_pieces ∙ take_over (words_of job) (pieces (drop size bytes)) m (omega (arith, h, ap length part_pieces)) in
            let f : take m (pieces bytes) ++ tail ≡ words_of job ++ (take k (pieces (drop size bytes)) ++ tail) = ap (λ x. x ++ tail) e ∙ append_assoc (words_of job) (take k (pieces (drop size bytes))) tail in
            s.above k tail (omega (arith, h, ap length part_pieces)) (omega (arith, q, counted, ap length part_pieces)) (behind_job job (take k (pieces (drop size bytes)) ++ tail) is (subst Fits f (taken_fits bytes m t)));
      }

  pub whole_plan : (plan : Plan) → IsPlanOutcome (pieces (drop size bytes)) (Whole plan) → text_of_lines (pieces (drop size bytes)) ≡ drop size bytes → IsPlannedOf bytes (record { job = job; plan = plan })
  whole_plan plan found all =
      let p : PlannedJob = record { job = job; plan = plan } in
      let spelled : text_of_planned p ≡ bytes = ap₂ (λ a b. a ++ b) part (ap text_of_lines found.1 ∙ all) ∙ take-append-drop size bytes in
      record { is = (is, found.0); spelled = spelled; one = λ q h e. one_planned p q (is, found.0) h (spelled ∙ sym e) }

  pub stuck_rest : (text_of_lines (pieces (drop size bytes)) ≡ drop size bytes → ⊥) → IsStuckAt bytes (length (pieces (take size bytes)) + length (pieces (drop size bytes)))
  stuck_rest more =
      record {
        small = omega (arith, counted);
        none = λ t.
            let whole : text_of_lines (pieces bytes) ≡ bytes = ap text_of_lines (sym (text_words bytes t)) ∙ planned_joined t.0 ∙ t.2 in
            let split : text_of_lines (words_of job) ++ text_of_lines (pieces (drop size bytes)) ≡ text_of_lines (words_of job) ++ drop size bytes =
            sym (joined_append (words_of job) (pieces (drop size bytes))) ∙ ap text_of_lines (sym all_pieces) ∙ whole ∙ all_text in
            more (append_cancel_left (text_of_lines (words_of job)) (text_of_lines (pieces (drop size bytes))) (drop size bytes) split);
        above = λ m h q t. absurd (omega (arith, h, q, counted));
      }
