-- A job is read exactly.
use Rattle.std.proofs.Common.{◌≡◌, ℕ, suc, ◌+◌, ◌<◌, ◌≤◌, List, [], ◌∷◌, ◌++◌, length, drop, Option, Some, None, refl, sym, ap, ◌∙◌, subst, inl, inr, arith, append_assoc, append-nil, length-append}
use Rattle.std.specs.Prelude.{◌==◌, Result, Ok, Err, IfOk}
use Rattle.std.proofs.lemmas.Bool.Decides.{nat_tests}
use Rattle.s390x_job_fields.specs.Marks.{upto, past}
use Rattle.s390x_job_lines.specs.Line.{Line, line_text, IsLine, line_of}
use Rattle.s390x_job.specs.Grammar.{Place, Header, AtEnd, class, next_place, run}
use Rattle.s390x_job.specs.Jobs.{lines_text, AllLines, job_lines, text_of_job, IsJob}
use Rattle.s390x_job.specs.declared.job.Job.{Job}
use Rattle.s390x_job.specs.Builds.{IsWhole}
use Rattle.s390x_job_lines.proofs.Frees.{upto-free, past-free, line-free}
use Rattle.s390x_job_lines.proofs.RoundTrip.{line-round_trip}
use Rattle.s390x_job.proofs.Texts.{lines_text_append}
pub use Rattle.s390x_job_fields.proofs.Members.{either}

-- two lines with one text are one
pub one_line : (k l : Line) → IsLine k → IsLine l → line_text k ≡ line_text l → k ≡ l
one_line k l a b e = sym (line-round_trip k a) ∙ ap line_of e ∙ line-round_trip l b

pub run_append : (ls : List Line) (o : Option Place) (ms : List Line) → run o (ls ++ ms) ≡ run (run o ls) ms
run_append ls None ms = refl
run_append [] (Some p) ms = refl
run_append (l ∷ ls) (Some p) ms = run_append ls (next_place p (class l)) ms

pub all_append : (a b : List Line) → AllLines a → AllLines b → AllLines (a ++ b)
all_append [] b h k = k
all_append (l ∷ a) b h k = (h.0, all_append a b h.1 k)

pub all_rest : (a b : List Line) → AllLines (a ++ b) → AllLines b
all_rest [] b h = h
all_rest (l ∷ a) b h = all_rest a b h.1

-- the lines so far, and what is left to read
pub record Inv (bytes : List ℕ) (ls : List Line) (p : Place) (rest : List ℕ) : Type 0 where
  pub text : bytes ≡ lines_text ls ++ rest
  pub oks : AllLines ls
  pub runs : run (Some (Header 0 0)) ls ≡ Some p

-- the lines of a text, after those that it begins with
record After (ks ls : List Line) (rest : List ℕ) : Type 0 where
  left : List Line
  whole : ks ≡ ls ++ left
  text : lines_text left ≡ rest

shifted : (l : Line) (ls : List Line) (r : List ℕ) → lines_text (l ∷ ls) ++ r ≡ line_text l ++ (10 ∷ (lines_text ls ++ r))
shifted l ls r = append_assoc (line_text l) (10 ∷ lines_text ls) r

not_nil : (w r : List ℕ) (x : ℕ) → [] ≡ w ++ (x ∷ r) → ⊥
not_nil [] r x h = cc
not_nil (y ∷ w) r x h = cc

split : (ls ks : List Line) (r : List ℕ) → AllLines ls → AllLines ks → lines_text ks ≡ lines_text ls ++ r → After ks ls r
split [] ks r a b h = record { left = ks; whole = refl; text = h }
split (l ∷ ls) [] r a b h = absurd (not_nil (line_text l) (lines_text ls ++ r) 10 (h ∙ shifted l ls r))
split (l ∷ ls) (k ∷ ks) r a b h =
    let e : line_text k ++ (10 ∷ lines_text ks) ≡ line_text l ++ (10 ∷ (lines_text ls ++ r)) = h ∙ shifted l ls r in
    let u : line_text k ≡ line_text l = sym (upto-free 10 (line_text k) (lines_text ks) (line-free k b.0)) ∙ ap (upto 10) e ∙ upto-free 10 (line_text l) (lines_text ls ++ r) (line-free l a.0) in
    let v : lines_text ks ≡ lines_text ls ++ r = sym (past-free 10 (line_text k) (lines_text ks) (line-free k b.0)) ∙ ap (past 10) e ∙ past-free 10 (line_text l) (lines_text ls ++ r) (line-free l a.0) in
    let t = split ls ks r a.1 b.1 v in
    record { left = t.left; whole = ap (λ x. x ∷ ks) (one_line k l b.0 a.0 u) ∙ ap (λ x. l ∷ x) t.whole; text = t.text }

-- a job with this text goes on with the rest
record Goes (j : Job) (ls : List Line) (p : Place) (rest : List ℕ) : Type 0 where
  left : List Line
  text : lines_text left ≡ rest
  oks : AllLines left
  runs : run (Some p) left ≡ Some AtEnd
  whole : job_lines j ≡ ls ++ left

goes : (bytes : List ℕ) (ls : List Line) (p : Place) (rest : List ℕ) → Inv bytes ls p rest → (j : Job) → IsJob j → text_of_job j ≡ bytes → Goes j ls p rest
goes bytes ls p rest i j ok h =
    let s = split ls (job_lines j) rest i.oks ok.lines (h ∙ i.text) in
    let r : run (run (Some (Header 0 0)) ls) s.left ≡ Some AtEnd = sym (run_append ls (Some (Header 0 0)) s.left) ∙ ap (run (Some (Header 0 0))) (sym s.whole) ∙ ok.order in
    record {
      left = s.left;
      text = s.text;
      oks = all_rest ls s.left (subst AllLines s.whole ok.lines);
      runs = ap (λ o. run o s.left) (sym i.runs) ∙ r;
      whole = s.whole;
    }

head_line : (l : Line) (ls : List Line) → IsLine l → upto 10 (lines_text (l ∷ ls)) ≡ line_text l
head_line l ls h = upto-free 10 (line_text l) (lines_text ls) (line-free l h)

-- no line feed is left
no_feed : (ls : List Line) → AllLines ls → 0 < length (lines_text ls) → length (upto 10 (lines_text ls)) ≡ length (lines_text ls) → ⊥
no_feed [] h p e = absurd (omega arith)
no_feed (l ∷ ls) h p e = omega (arith, e, ap length (head_line l ls h.0), length-append (line_text l) (10 ∷ lines_text ls))

pub refuse_feed : (bytes : List ℕ) (ls : List Line) (p : Place) (rest : List ℕ) → Inv bytes ls p rest → 0 < length rest → length (upto 10 rest) ≡ length rest → (j : Job) → IsJob j → text_of_job j ≡ bytes → ⊥
refuse_feed bytes ls p rest i n e j ok h =
    let g = goes bytes ls p rest i j ok h in
    no_feed g.left g.oks (subst (λ r. 0 < length r) (sym g.text) n) (subst (λ r. length (upto 10 r) ≡ length r) (sym g.text) e)

-- the next line is none
no_line : (ls : List Line) → AllLines ls → 0 < length (lines_text ls) → ((l : Line) → IsLine l → line_text l ≡ upto 10 (lines_text ls) → ⊥) → ⊥
no_line [] h p e = absurd (omega arith)
no_line (l ∷ ls) h p e = e l h.0 (sym (head_line l ls h.0))

pub refuse_line : (bytes : List ℕ) (ls : List Line) (p : Place) (rest : List ℕ) → Inv bytes ls p rest → 0 < length rest → ((l : Line) → IsLine l → line_text l ≡ upto 10 rest → ⊥) → (j : Job) → IsJob j → text_of_job j ≡ bytes → ⊥
refuse_line bytes ls p rest i n e j ok h =
    let g = goes bytes ls p rest i j ok h in
    no_line g.left g.oks (subst (λ r. 0 < length r) (sym g.text) n) (subst (λ r. (l : Line) → IsLine l → line_text l ≡ upto 10 r → ⊥) (sym g.text) e)

-- the next line may not stand here
no_place : (p : Place) (k : Line) → IsLine k → next_place p (class k) ≡ None → (ls : List Line) → AllLines ls → 0 < length (lines_text ls) → line_text k ≡ upto 10 (lines_text ls) → run (Some p) ls ≡ Some AtEnd → ⊥
no_place p k a n [] h q e r = absurd (omega arith)
no_place p k a n (l ∷ ls) h q e r =
    let s : k ≡ l = one_line k l a h.0 (e ∙ head_line l ls h.0) in
    let t : next_place p (class l) ≡ None = ap (λ x. next_place p (class x)) (sym s) ∙ n in
    let u : None ≡ Some AtEnd = ap (λ o. run o ls) (sym t) ∙ r in
    cc

pub refuse_place : (bytes : List ℕ) (ls : List Line) (p : Place) (rest : List ℕ) → Inv bytes ls p rest → 0 < length rest → (k : Line) → IsLine k → line_text k ≡ upto 10 rest → next_place p (class k) ≡ None → (j : Job) → IsJob j → text_of_job j ≡ bytes → ⊥
refuse_place bytes ls p rest i n k a e f j ok h =
    let g = goes bytes ls p rest i j ok h in
    no_place p k a f g.left g.oks (subst (λ r. 0 < length r) (sym g.text) n) (subst (λ r. line_text k ≡ upto 10 r) (sym g.text) e) g.runs

-- the text is at its end, and the job is not
no_end : (p : Place) (ls : List Line) → length (lines_text ls) ≡ 0 → run (Some p) ls ≡ Some AtEnd → p ≡ AtEnd
no_end p [] e r = cc
no_end p (l ∷ ls) e r = absurd (omega (arith, e, length-append (line_text l) (10 ∷ lines_text ls)))

pub refuse_end : (bytes : List ℕ) (ls : List Line) (p : Place) (rest : List ℕ) → Inv bytes ls p rest → length rest ≡ 0 → (p ≡ AtEnd → ⊥) → (j : Job) → IsJob j → text_of_job j ≡ bytes → ⊥
refuse_end bytes ls p rest i n e j ok h =
    let g = goes bytes ls p rest i j ok h in
    e (no_end p g.left (ap length g.text ∙ n) g.runs)

-- the job is there
pub nil : (s : List ℕ) → length s ≡ 0 → s ≡ []
nil [] h = refl
nil (x ∷ s) h = absurd (omega arith)

pub accept : (bytes : List ℕ) (j : Job) (rest : List ℕ) → Inv bytes (job_lines j) AtEnd rest → IsWhole j → length rest ≡ 0 → IsJob j × (text_of_job j ≡ bytes)
accept bytes j rest i w n =
    (record { lines = i.oks; order = i.runs; state = w.state; frame = w.full.frame; general_count = w.full.general_count; vector_count = w.full.vector_count }, sym (i.text ∙ ap (λ r. lines_text (job_lines j) ++ r) (nil rest n) ∙ append-nil (lines_text (job_lines j))))

-- what stands behind a line begins at its length
behind_line : (c : ℕ) (s : List ℕ) → drop (suc (length (upto c s))) s ≡ past c s
behind_line c [] = refl
behind_line c (x ∷ s) = elim (either (x == c)) [ inl e ↦ rw e refl | inr e ↦ rw e (behind_line c s) ]

pub behind : (s t w : List ℕ) → t ≡ drop (length w + 1) s → w ≡ upto 10 s → t ≡ past 10 s
behind s t w e f =
    let p : length w + 1 ≡ suc (length (upto 10 s)) = omega (arith, ap length f) in
    e ∙ ap (λ n. drop n s) p ∙ behind_line 10 s

pub cut : (c : ℕ) (s : List ℕ) → (length (upto c s) ≡ length s → ⊥) → s ≡ upto c s ++ (c ∷ past c s)
cut c [] h = absurd (h refl)
cut c (x ∷ s) h = elim (either (x == c)) [ inl e ↦ let f : x ≡ c = grind (arith, nat_tests) in rw e (ap (λ y. y ∷ s) f) | inr e ↦ let k = rw e at h in rw e (ap (λ t. x ∷ t) (cut c s (λ q. k (omega (arith, q))))) ]

pub one_more_line : (bytes : List ℕ) (ls ns : List Line) (p q : Place) (rest : List ℕ) (k : Line) → Inv bytes ls p rest → (length (upto 10 rest) ≡ length rest → ⊥) → IsLine k → line_text k ≡ upto 10 rest → ns ≡ ls ++ k ∷ [] → next_place p (class k) ≡ Some q → Inv bytes ns q (past 10 rest)
one_more_line bytes ls ns p q rest k i n a e f g =
    let c : rest ≡ line_text k ++ (10 ∷ past 10 rest) = cut 10 rest n ∙ ap (λ t. t ++ (10 ∷ past 10 rest)) (sym e) in
    record {
      text = i.text ∙ ap (λ t. lines_text ls ++ t) c ∙ sym (ap (λ t. t ++ past 10 rest) (ap lines_text f ∙ lines_text_append ls (k ∷ [])) ∙ append_assoc (lines_text ls) (lines_text (k ∷ [])) (past 10 rest) ∙ ap (λ t. lines_text ls ++ t) (append_assoc (line_text k) (10 ∷ []) (past 10 rest)));
      oks = subst AllLines (sym f) (all_append ls (k ∷ []) i.oks (a, tt));
      runs = ap (run (Some (Header 0 0))) f ∙ run_append ls (Some (Header 0 0)) (k ∷ []) ∙ ap (λ o. run o (k ∷ [])) i.runs ∙ ap (λ o. run o []) g;
    }

le_past : (c : ℕ) (s : List ℕ) → length (past c s) ≤ length s
le_past c [] = omega arith
le_past c (x ∷ s) = elim (either (x == c)) [ inl e ↦ rw e (omega arith) | inr e ↦ rw e (omega (arith, le_past c s)) ]

pub shorter : (c : ℕ) (s : List ℕ) → 0 < length s → length (past c s) < length s
shorter c [] h = absurd (omega arith)
shorter c (x ∷ s) h = elim (either (x == c)) [ inl e ↦ rw e (omega arith) | inr e ↦ rw e (omega (arith, le_past c s)) ]

-- two jobs with one text have the same lines
no_lines : (ls : List Line) → lines_text ls ≡ [] → ls ≡ []
no_lines [] h = refl
no_lines (l ∷ ls) h = absurd (not_nil (line_text l) (lines_text ls) 10 (sym h))

pub one_job : (j k : Job) → IsJob j → IsJob k → text_of_job j ≡ text_of_job k → job_lines j ≡ job_lines k
one_job j k a b e =
    let s = split (job_lines k) (job_lines j) [] b.lines a.lines (e ∙ sym (append-nil (text_of_job k))) in
    s.whole ∙ ap (λ t. job_lines k ++ t) (no_lines s.left s.text) ∙ append-nil (job_lines k)

pub same-job : {E : Type 0} (bytes : List ℕ) (r : Result Job E) → IfOk r (λ k. IsJob k × (text_of_job k ≡ bytes)) → (j : Job) → IsJob j → text_of_job j ≡ bytes → IfOk r (λ k. job_lines k ≡ job_lines j)
same-job bytes (Ok k) h j a e = one_job k j h.0 a (h.1 ∙ sym e)
same-job bytes (Err x) h j a e = tt
