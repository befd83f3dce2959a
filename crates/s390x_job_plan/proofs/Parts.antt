-- The lines of a planned job: those of the job up to its only `end`, and those of the plan.
use Rattle.std.proofs.Common.{◌≡◌, ℕ, List, [], ◌∷◌, ◌++◌, map, sym, ap, ◌∙◌, append_assoc}
use Rattle.std.specs.Prelude.{codes}
use Rattle.s390x_job.specs.Completions.{text_of_lines, pieces}
use Rattle.s390x_job.specs.Jobs.{IsJob, text_of_job}
use Rattle.s390x_job.specs.declared.job.Job.{Job}
use Rattle.s390x_job.proofs.Whole.{one_job}
use Rattle.s390x_job_bundle.proofs.Heads.{cut_at}
use Rattle.s390x_job_bundle.proofs.JobLines.{job_ended, job_free, job_joined, words_of}
use Rattle.s390x_job_bundle.proofs.Lines.{AllFree, free_append, joined_append, pieces_whole, same_lines}
use Rattle.s390x_job_plan.specs.Completions.{IsPlannedText}
use Rattle.s390x_job_plan.specs.Errors.{FitsPlan}
use Rattle.s390x_job_plan.specs.Lines.{line_of, line_text}
use Rattle.s390x_job_plan.specs.Text.{IsPlanned, SamePlanned, plan_lines, text_of_planned}
use Rattle.s390x_job_plan.specs.declared.planned_job.PlannedJob.{PlannedJob}
use Rattle.s390x_job_plan.proofs.Spelling.{lines_free, lines_round_trip}

abbrev pub plan_words : PlannedJob → List (List ℕ)
plan_words p = map line_text (plan_lines p.plan.blocks.items)

abbrev pub planned_words : PlannedJob → List (List ℕ)
planned_words p = words_of p.job ++ plan_words p

pub planned_joined : (p : PlannedJob) → text_of_lines (planned_words p) ≡ text_of_planned p
planned_joined p = joined_append (words_of p.job) (plan_words p) ∙ ap (λ t. t ++ text_of_lines (plan_words p)) (job_joined p.job)

pub planned_free : (p : PlannedJob) → IsPlanned p → AllFree (planned_words p)
planned_free p h = free_append (words_of p.job) (plan_words p) (job_free p.job h.0) (lines_free (plan_lines p.plan.blocks.items) h.1)

-- the lines are those of a planned job
abbrev pub Fits : List (List ℕ) → Type 0
Fits ws = (p : PlannedJob) × IsPlanned p × (planned_words p ≡ ws)

pub text_words : (s : List ℕ) (t : IsPlannedText s) → planned_words t.0 ≡ pieces s
text_words s t = sym (pieces_whole (planned_words t.0) (planned_free t.0 t.1)) ∙ ap pieces (planned_joined t.0 ∙ t.2)

pub text_fits : (s : List ℕ) → IsPlannedText s → Fits (pieces s)
text_fits s t = (t.0, t.1, text_words s t)

-- two jobs whose lines begin two equal lists have the same lines, and so has what is behind them
pub parts_same : (j k : Job) (x y : List (List ℕ)) → IsJob j → IsJob k → words_of j ++ x ≡ words_of k ++ y → (words_of j ≡ words_of k) × (x ≡ y)
parts_same j k x y a b e =
    let u = job_ended j a in
    let v = job_ended k b in
    let l : u.before ++ codes "end" ∷ x ≡ words_of j ++ x = sym (ap (λ t. t ++ x) u.whole ∙ append_assoc u.before (codes "end" ∷ []) x) in
    let r : words_of k ++ y ≡ v.before ++ codes "end" ∷ y = ap (λ t. t ++ y) v.whole ∙ append_assoc v.before (codes "end" ∷ []) y in
    let c = cut_at u.before v.before x y u.free v.free (l ∙ e ∙ r) in
    (u.whole ∙ ap (λ t. t ++ codes "end" ∷ []) c.0 ∙ sym v.whole, c.1)

-- behind the lines of a job stand those of a plan
pub behind_job : (j : Job) (rest : List (List ℕ)) → IsJob j → Fits (words_of j ++ rest) → FitsPlan rest
behind_job j rest a f = (f.0.plan.blocks.items, f.1.1, (parts_same f.0.job j (plan_words f.0) rest f.1.0 a f.2).1)

-- a planned job is told by its text
pub one_planned : (p q : PlannedJob) → IsPlanned p → IsPlanned q → text_of_planned p ≡ text_of_planned q → SamePlanned p q
one_planned p q a b e =
    let w = same_lines (planned_words p) (planned_words q) (planned_free p a) (planned_free q b) (planned_joined p ∙ e ∙ sym (planned_joined q)) in
    let c = parts_same p.job q.job (plan_words p) (plan_words q) a.0 b.0 w in
    let texts : text_of_job p.job ≡ text_of_job q.job = sym (job_joined p.job) ∙ ap text_of_lines c.0 ∙ job_joined q.job in
    (one_job p.job q.job a.0 b.0 texts, sym (lines_round_trip (plan_lines p.plan.blocks.items) a.1) ∙ ap (map line_of) c.1 ∙ lines_round_trip (plan_lines q.plan.blocks.items) b.1)
