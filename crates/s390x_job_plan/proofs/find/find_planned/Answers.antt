use Rattle.std.proofs.Common.{◌≡◌, ℕ, ◌+◌, ◌-◌, List, Bor, drop, length, map, take, sym, ap, ap₂, ◌∙◌, subst, arith}
use Rattle.std.proofs.lemmas.Bool.{false≢true}
use Rattle.std.proofs.lemmas.List.{length-drop, length-map}
use Rattle.std.proofs.Math.Seq.{take-length}
use Rattle.s390x_job.specs.Completions.{text_of_lines, pieces}
use Rattle.s390x_job_plan.specs.Errors.{IsPlanOutcome, IsPlanStuckAt, IsStuckAt}
use Rattle.s390x_job_plan.specs.declared.find.PlanOutcome.TheVariants.{Whole}
use Rattle.s390x_job_plan.proofs.Stopping.{stuck_job, stuck_plan, stuck_rest, whole_plan}
use Rattle.s390x_job_plan.proofs.find.find_planned.Goals as goal

abbrev texts : List (Bor (List ℕ)) → List (List ℕ)
texts s = map (λ (w : Bor (List ℕ)). w.now) s

-- a slice from a place on is what stands there
all_behind : (size : ℕ) (s : List ℕ) → take (length s - size) (drop size s) ≡ drop size s
all_behind size s = ap (λ n. take n (drop size s)) (sym (length-drop size s)) ∙ take-length (drop size s)

-- the lines of what stands there
words_behind : (s t : List (Bor (List ℕ))) (size : ℕ) (bytes : List ℕ) → s ≡ t → texts t ≡ pieces (take (length bytes - size) (drop size bytes)) → texts s ≡ pieces (drop size bytes)
words_behind s t size bytes e f = ap texts e ∙ f ∙ ap pieces (all_behind size bytes)

pub returns-in-Err : goal.returns-in-Err
returns-in-Err c =
    let none = rw c.in-Err.is at c.in_ok-job.ensures in
    stuck_job c.args.bytes.now c.job_size-size.result c.in-Err.line none (c.in-Err.line - 1) (omega (arith, none.1.is)) c.job_size-size.ensures.cut

pub returns-in-Stuck : goal.returns-in-Stuck
returns-in-Stuck c =
    let job = rw c.in-Ok.is at c.in_ok-job.ensures in
    let words = words_behind c.deref.result.now c.in_ok-lines.lines.items c.job_size-size.result c.args.bytes.now c.deref.ensures.value c.in_ok-lines.ensures in
    let found = subst (λ ws. IsPlanStuckAt ws c.in-Stuck.n) words (rw c.in-Stuck.is at c.in_ok-n.ensures) in
    subst (λ k. IsStuckAt c.args.bytes.now (k + c.in-Stuck.n)) (sym c.count_lines-before.ensures.count) (stuck_plan c.args.bytes.now c.job_size-size.result c.in-Ok.job job.0 job.1 c.in-Stuck.n found)

pub returns-then-branch : goal.returns-then-branch
returns-then-branch c =
    let job = rw c.in-Ok.is at c.in_ok-job.ensures in
    let size = c.job_size-size.result in
    let words = words_behind c.deref.result.now c.in_ok-lines.lines.items size c.args.bytes.now c.deref.ensures.value c.in_ok-lines.ensures in
    let again = words_behind c.deref-in-Whole.result.now c.in_ok-lines.lines.items size c.args.bytes.now c.deref-in-Whole.ensures.value c.in_ok-lines.ensures in
    let found = subst (λ ws. IsPlanOutcome ws (Whole c.in-Whole.plan)) words (rw c.in-Whole.is at c.in_ok-n.ensures) in
    let all = sym (ap text_of_lines again) ∙ c.in_ok-is_all-in-Whole.ensures.0 c.if-branch.true ∙ all_behind size c.args.bytes.now in
    whole_plan c.args.bytes.now size c.in-Ok.job job.0 job.1 c.in-Whole.plan found all

pub returns-else-branch : goal.returns-else-branch
returns-else-branch c =
    let job = rw c.in-Ok.is at c.in_ok-job.ensures in
    let size = c.job_size-size.result in
    let again = words_behind c.deref-in-Whole.result.now c.in_ok-lines.lines.items size c.args.bytes.now c.deref-in-Whole.ensures.value c.in_ok-lines.ensures in
    let more = λ (h : text_of_lines (pieces (drop size c.args.bytes.now)) ≡ drop size c.args.bytes.now). false≢true (sym c.if-branch.false ∙ c.in_ok-is_all-in-Whole.ensures.1 (ap text_of_lines again ∙ h ∙ sym (all_behind size c.args.bytes.now))) in
    let count : length (pieces (drop size c.args.bytes.now)) ≡ c.len.result =
    omega (arith, ap length again, length-map c.deref-in-Whole.result.now (λ (w : Bor (List ℕ)). w.now), ap length c.deref-in-Whole.ensures.value, c.len.ensures, c.in_ok-lines.lines.ok.0) in
    let before = c.count_lines-before.ensures.count in
    subst (IsStuckAt c.args.bytes.now) (ap₂ (λ a b. a + b) (sym before) count) (stuck_rest c.args.bytes.now size c.in-Ok.job job.0 job.1 more)
