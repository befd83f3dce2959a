-- Where the job ends with which lines begin: no completion of lines that don't reach that end makes them begin with another.
use Rattle.std.proofs.Common.{◌≡◌, ℕ, zero, suc, ◌+◌, ◌-◌, ◌≤◌, ◌⊎◌, inl, inr, Bool, true, false, List, [], ◌∷◌, ◌++◌, drop, length, take, refl, sym, ap, ◌∙◌, subst, arith, append_assoc, length-append}
use Rattle.std.specs.Prelude.{codes, if◌then◌else◌}
use Rattle.std.specs.Str.{bytes_eq}
use Rattle.std.proofs.lemmas.Bool.{cases_lt}
use Rattle.std.proofs.lemmas.List.{take-append-le}
use Rattle.s390x_job.specs.Completions.{IsText, closes, closing, completion, ending, ends_job, text_of_lines, opens, pieces}
use Rattle.s390x_job.specs.Jobs.{IsJob}
use Rattle.s390x_job.specs.declared.job.Job.{Job}
use Rattle.s390x_job_bundle.specs.Cut.{HasNoEnd, IsCutAt}
use Rattle.s390x_job_bundle.specs.Errors.{HasNoJob}
use Rattle.s390x_job_bundle.proofs.Closers.{Closed, closers, closers_joined, loop_ends, loop_ends_lack}
use Rattle.s390x_job_bundle.proofs.Cutting.{no_end_append, no_end_take}
use Rattle.s390x_job_bundle.proofs.Heads.{cut_at, first}
use Rattle.s390x_job_bundle.proofs.JobLines.{job_balance, job_ended, job_joined, words_of}
use Rattle.s390x_job_bundle.proofs.Lines.{joined_append, take_front}

-- the lines of a job, and others
pub record Begun (ws : List (List ℕ)) : Type 0 where
  pub job : Job
  pub is : IsJob job
  pub rest : List (List ℕ)
  pub whole : ws ≡ words_of job ++ rest

-- up to its last line
begun_split : (ws : List (List ℕ)) (b : Begun ws) → ws ≡ (job_ended b.job b.is).before ++ codes "end" ∷ b.rest
begun_split ws b =
    let u = job_ended b.job b.is in
    b.whole ∙ ap (λ x. x ++ b.rest) u.whole ∙ append_assoc u.before (codes "end" ∷ []) b.rest

-- lines up to an `end` are those of the job
ended_text : (lines more : List (List ℕ)) (part : List ℕ) → HasNoEnd lines → part ≡ text_of_lines (lines ++ codes "end" ∷ []) → Begun (lines ++ codes "end" ∷ more) → IsText part
ended_text lines more part free is b =
    let u = job_ended b.job b.is in
    let c = cut_at lines u.before more b.rest free u.free (begun_split (lines ++ codes "end" ∷ more) b) in
    (b.job, b.is, sym (job_joined b.job) ∙ ap text_of_lines (u.whole ∙ ap (λ x. x ++ codes "end" ∷ []) (sym c.0)) ∙ sym is)

-- without an `end` there is no job
lacking : (a b ws : List (List ℕ)) → HasNoEnd ws → ws ≡ a ++ codes "end" ∷ b → ⊥
lacking [] b [] h e = cc
lacking [] b (w ∷ ws) h e = let clash : false ≡ true = sym h.0 ∙ ap (λ v. bytes_eq v (codes "end")) (ap first e) in absurd cc
lacking (v ∷ a) b [] h e = cc
lacking (v ∷ a) b (w ∷ ws) h e = lacking a b ws h.1 (ap (drop 1) e)

never : (ws : List (List ℕ)) → HasNoEnd ws → Begun ws → ⊥
never ws h b = lacking (job_ended b.job b.is).before b.rest ws h (begun_split ws b)

more_if : (t : Bool) (a b n : ℕ) → n ≡ a + b → (if t then n + 1 else n) ≡ (if t then a + 1 else a) + b
more_if true a b n e = omega (arith, e)
more_if false a b n e = e

opens_append : (a b : List (List ℕ)) → opens (a ++ b) ≡ opens a + opens b
opens_append [] b = omega arith
opens_append (w ∷ a) b = more_if (bytes_eq (take 5 w) (codes "Loop ")) (opens a) (opens b) (opens (a ++ b)) (opens_append a b)

closes_append : (a b : List (List ℕ)) → closes (a ++ b) ≡ closes a + closes b
closes_append [] b = omega arith
closes_append (w ∷ a) b = more_if (bytes_eq w (codes "endloop")) (closes a) (closes b) (closes (a ++ b)) (closes_append a b)

opens_closers : (n : ℕ) → opens (closers n) ≡ 0
opens_closers zero = refl
opens_closers (suc n) = opens_closers n

closes_closers : (n : ℕ) → closes (closers n) ≡ n
closes_closers zero = refl
closes_closers (suc n) = omega (arith, closes_closers n)

unended : (b : Bool) (ws : List (List ℕ)) → b ≡ false → HasNoEnd ws → ends_job b ws ≡ false
unended b [] e h = e
unended b (w ∷ ws) e h = unended (bytes_eq w (codes "end")) ws h.0 h.1

-- with what closes it, the lines are the text of a job, and so is their completion
closed_text : (lines more : List (List ℕ)) (n : ℕ) → HasNoEnd lines → Begun (lines ++ (closers n ++ more)) → IsText (completion lines)
closed_text lines more n free b =
    let u = job_ended b.job b.is in
    let ws = lines ++ (closers n ++ more) in
    let front = lines ++ loop_ends n in
    let l : ws ≡ front ++ codes "end" ∷ more =
    ap (λ t. lines ++ t) (append_assoc (loop_ends n) (codes "end" ∷ []) more) ∙ sym (append_assoc lines (loop_ends n) (codes "end" ∷ more)) in
    let c = cut_at front u.before more b.rest (no_end_append lines (loop_ends n) free (loop_ends_lack n)) u.free (sym l ∙ begun_split ws b) in
    let words : words_of b.job ≡ lines ++ closers n = u.whole ∙ ap (λ x. x ++ codes "end" ∷ []) (sym c.0) ∙ append_assoc lines (loop_ends n) (codes "end" ∷ []) in
    let even : opens (lines ++ closers n) ≡ closes (lines ++ closers n) = ap opens (sym words) ∙ job_balance b.job b.is ∙ ap closes words in
    let lack : opens lines - closes lines ≡ n = omega (arith, even, opens_append lines (closers n), closes_append lines (closers n), opens_closers n, closes_closers n) in
    let ending_is : ending lines ≡ closing n = ap (λ t. if t then [] else closing (opens lines - closes lines)) (unended false lines refl free) ∙ ap closing lack in
    (b.job, b.is, sym (job_joined b.job) ∙ ap text_of_lines words ∙ joined_append lines (closers n) ∙ ap (λ t. text_of_lines lines ++ t) (closers_joined n ∙ sym ending_is))

-- lines without an `end` that begin with a job, with others that close it or have no `end` either, are the text of a job, completed as such
completed_text : (lines tail : List (List ℕ)) → HasNoEnd tail ⊎ Closed tail → HasNoEnd lines → Begun (lines ++ tail) → IsText (completion lines)
completed_text lines tail (inl lack) free b = absurd (never (lines ++ tail) (no_end_append lines tail free lack) b)
completed_text lines tail (inr closed) free b = closed_text lines closed.more closed.count free (subst (λ t. Begun (lines ++ t)) closed.is b)

-- a text has all lines of its part
pub cut_count : (text : List ℕ) (size : ℕ) → IsCutAt text size → length (pieces (take size text)) ≤ length (pieces text)
cut_count text size (inl c) =
    omega (arith, ap length c.part_pieces, ap length c.pieces_are, length-append c.lines (codes "end" ∷ []), length-append c.lines (codes "end" ∷ pieces (drop size text)))
cut_count text size (inr c) = omega (arith, ap (λ s. length (pieces s)) c.all)

-- a text whose part up to its first `end` is no job's
module _ (text : List ℕ) (size line : ℕ) (none : HasNoJob (take size text) line) where
  refused : (n : ℕ) → line ≤ n → n ≤ length (pieces (take size text)) → IsText (completion (take n (pieces (take size text)))) → ⊥
  refused n h q t = none.1.above n (omega (arith, h, none.1.is)) q t

  -- its lines begin with no job
  pub not_begun : IsCutAt text size → Begun (pieces text) → ⊥
  not_begun (inl c) b = none.0 (ended_text c.lines (pieces (drop size text)) (take size text) c.free c.part (subst Begun c.pieces_are b))
  not_begun (inr c) b = never (pieces text) c.free b

  -- nor do so many of them with others that close a job or have no `end`
  pub not_begun_by : IsCutAt text size → (n : ℕ) (tail : List (List ℕ)) → line ≤ n → n ≤ length (pieces text) → HasNoEnd tail ⊎ Closed tail → Begun (take n (pieces text) ++ tail) → ⊥
  not_begun_by (inl c) n tail h q form b =
      elim (cases_lt (length c.lines) n) [
        | inl l ↦
            let k = n - (length c.lines + 1) in
            let there : take n (pieces text) ≡ c.lines ++ codes "end" ∷ take k (pieces (drop size text)) =
            ap (take n) c.pieces_are ∙ take_front c.lines (codes "end") (pieces (drop size text)) n k (omega (arith, l)) in
            let all = ap (λ t. t ++ tail) there ∙ append_assoc c.lines (codes "end" ∷ take k (pieces (drop size text))) tail in
            none.0 (ended_text c.lines (take k (pieces (drop size text)) ++ tail) (take size text) c.free c.part (subst Begun all b))
        | inr l ↦
            let front : take n (pieces text) ≡ take n c.lines = ap (take n) c.pieces_are ∙ take-append-le n c.lines (codes "end" ∷ pieces (drop size text)) l in
            let same : take n (pieces (take size text)) ≡ take n c.lines = ap (take n) c.part_pieces ∙ take-append-le n c.lines (codes "end" ∷ []) l in
            let t = completed_text (take n c.lines) tail form (no_end_take n c.lines c.free) (subst (λ x. Begun (x ++ tail)) front b) in
            refused n h (omega (arith, l, ap length c.part_pieces, length-append c.lines (codes "end" ∷ []))) (subst (λ x. IsText (completion x)) (sym same) t)
      ]
  not_begun_by (inr c) n tail h q form b =
      let t = completed_text (take n (pieces text)) tail form (no_end_take n (pieces text) c.free) b in
      refused n h (omega (arith, q, ap (λ s. length (pieces s)) c.all)) (subst (λ s. IsText (completion (take n (pieces s)))) (sym c.all) t)
