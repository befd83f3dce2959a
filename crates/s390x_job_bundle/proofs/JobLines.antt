-- The lines of a job's text: its last line is its only `end`, and as many of them open loops as close them.
use Rattle.std.proofs.Common.{◌≡◌, ℕ, ◌+◌, Bool, true, false, List, [], ◌∷◌, ◌++◌, map, Option, Some, None, refl, sym, ap, ◌∙◌, inl, inr, arith}
use Rattle.std.specs.Prelude.{codes, if◌then◌else◌}
use Rattle.std.specs.Str.{bytes_eq}
use Rattle.std.proofs.lemmas.Slice.Eq.{bytes_eq-Decides}
use Rattle.s390x_job_lines.specs.Line.{Line, line_text}
use Rattle.s390x_job_lines.proofs.Frees.{line-free}
use Rattle.s390x_job.specs.Grammar.{Place, Header, AtEnd, class, next_place, run}
use Rattle.s390x_job.specs.Jobs.{AllLines, IsJob, job_lines, lines_text, text_of_job}
use Rattle.s390x_job.specs.Completions.{closes, text_of_lines, opens}
use Rattle.s390x_job.specs.declared.job.Job.{Job}
use Rattle.s390x_job.proofs.Whole.{either}
use Rattle.s390x_job_bundle.specs.Cut.{HasNoEnd}
use Rattle.s390x_job_bundle.proofs.Lines.{AllFree}
use Rattle.s390x_job_bundle.proofs.Sorts.{Sort, Opening, Closing, Ending, Plain, end_by, end_to, fall, is_closing, is_opening, level, next_level, rise, sort_of, text_closes, text_ends, text_opens}

-- the lines of a job's text
abbrev pub words_of : Job → List (List ℕ)
words_of j = map line_text (job_lines j)

lines_joined : (ls : List Line) → text_of_lines (map line_text ls) ≡ lines_text ls
lines_joined [] = refl
lines_joined (l ∷ ls) = ap (λ t. line_text l ++ (10 ∷ t)) (lines_joined ls)

pub job_joined : (j : Job) → text_of_lines (words_of j) ≡ text_of_job j
job_joined j = lines_joined (job_lines j)

lines_free : (ls : List Line) → AllLines ls → AllFree (map line_text ls)
lines_free [] h = tt
lines_free (l ∷ ls) h = (line-free l h.0, lines_free ls h.1)

pub job_free : (j : Job) → IsJob j → AllFree (words_of j)
job_free j is = lines_free (job_lines j) is.lines

-- the place behind a line, where the others lead to the end
pub going : (o : Option Place) (ls : List Line) → run o ls ≡ Some AtEnd → (q : Place) × (o ≡ Some q)
going None ls h = absurd cc
going (Some q) ls h = (q, refl)

opens_step : (s : Sort) (b : Bool) (n : ℕ) → b ≡ is_opening s → (if b then n + 1 else n) ≡ rise s + n
opens_step Opening b n e = rw e (omega arith)
opens_step s b n e = rw e (omega arith)

closes_step : (s : Sort) (b : Bool) (n : ℕ) → b ≡ is_closing s → (if b then n + 1 else n) ≡ fall s + n
closes_step Closing b n e = rw e (omega arith)
closes_step s b n e = rw e (omega arith)

balance : (p : Place) (ls : List Line) → AllLines ls → run (Some p) ls ≡ Some AtEnd → level p + opens (map line_text ls) ≡ closes (map line_text ls)
balance p [] h r =
    let e : p ≡ AtEnd = cc in
    rw e refl
balance p (l ∷ ls) h r =
    let g = going (next_place p (class l)) ls r in
    let s = sort_of (class l) in
    let n = next_level p (class l) g.0 g.1 in
    let rest = balance g.0 ls h.1 (ap (λ o. run o ls) (sym g.1) ∙ r) in
    let o : opens (map line_text (l ∷ ls)) ≡ rise s + opens (map line_text ls) = opens_step s _ (opens (map line_text ls)) (text_opens l h.0) in
    let c : closes (map line_text (l ∷ ls)) ≡ fall s + closes (map line_text ls) = closes_step s _ (closes (map line_text ls)) (text_closes l h.0) in
    omega (arith, n, rest, o, c)

-- as many lines of a job open loops as close them
pub job_balance : (j : Job) → IsJob j → opens (words_of j) ≡ closes (words_of j)
job_balance j is = omega (arith, balance (Header 0 0) (job_lines j) is.lines is.order)

-- lines of which the last is the only `end`
pub record Ended (ws : List (List ℕ)) : Type 0 where
  pub before : List (List ℕ)
  pub free : HasNoEnd before
  pub whole : ws ≡ before ++ codes "end" ∷ []

none_behind : (ls : List Line) → run (Some AtEnd) ls ≡ Some AtEnd → ls ≡ []
none_behind [] h = refl
none_behind (l ∷ ls) h = absurd cc

ended : (p : Place) (ls : List Line) → (p ≡ AtEnd → ⊥) → AllLines ls → run (Some p) ls ≡ Some AtEnd → Ended (map line_text ls)
ended p [] early h r = absurd (early cc)
ended p (l ∷ ls) early h r =
    let g = going (next_place p (class l)) ls r in
    let goes : run (Some g.0) ls ≡ Some AtEnd = ap (λ o. run o ls) (sym g.1) ∙ r in
    elim (either (bytes_eq (line_text l) (codes "end"))) [
      | inl e ↦
          let there : g.0 ≡ AtEnd = end_to p (class l) g.0 (sym (text_ends l h.0) ∙ e) g.1 in
          let none = none_behind ls (ap (λ q. run (Some q) ls) (sym there) ∙ goes) in
          record { before = []; free = tt; whole = ap (λ ks. line_text l ∷ map line_text ks) none ∙ ap (λ w. w ∷ []) ((bytes_eq-Decides (line_text l) (codes "end")).0 e) }
      | inr e ↦
          let not_there : g.0 ≡ AtEnd → ⊥ = λ there. let clash : true ≡ false = sym (end_by p (class l) (g.1 ∙ ap Some there)) ∙ sym (text_ends l h.0) ∙ e in absurd cc in
          let rest = ended g.0 ls not_there h.1 goes in
          record { before = line_text l ∷ rest.before; free = (e, rest.free); whole = ap (λ t. line_text l ∷ t) rest.whole }
    ]

pub job_ended : (j : Job) → IsJob j → Ended (words_of j)
job_ended j is = ended (Header 0 0) (job_lines j) (λ e. absurd cc) is.lines is.order
