-- No completion of more lines than were read is the text of a job.
use Rattle.std.proofs.Common.{◌≡◌, ℕ, suc, ◌+◌, ◌<◌, List, [], ◌∷◌, ◌++◌, length, map, take, None, refl, sym, ap, ◌∙◌, inl, inr, arith, append_assoc, append-nil, length-append}
use Rattle.std.specs.Prelude.{◌==◌, ◌-◌}
use Rattle.s390x_job_fields.specs.Marks.{upto, past}
use Rattle.s390x_job_lines.specs.Line.{Line, line_text, IsLine}
use Rattle.s390x_job.specs.Grammar.{Place, AtEnd, class, next_place}
use Rattle.s390x_job.specs.Jobs.{lines_text, AllLines, text_of_job, IsJob}
use Rattle.s390x_job.specs.Completions.{pieces_from, pieces, text_of_lines, ending, completion, IsText}
use Rattle.s390x_job.specs.declared.job.Job.{Job}
use Rattle.s390x_job_lines.proofs.Frees.{Free, upto-free, line-free}
use Rattle.s390x_job.specs.Errors.{IsStuckAt}
use Rattle.s390x_job.proofs.Whole.{Inv, either, cut, nil, refuse_line, refuse_place, refuse_feed, refuse_end}

pub pieces_line : (w : List ℕ) (acc r : List ℕ) → Free 10 w → pieces_from acc (w ++ (10 ∷ r)) ≡ (acc ++ w) ∷ pieces_from [] r
pieces_line [] acc r h = ap (λ a. a ∷ pieces_from [] r) (sym (append-nil acc))
pieces_line (x ∷ w) acc r h = rw h.0 (pieces_line w (acc ++ x ∷ []) r h.1 ∙ ap (λ a. a ∷ pieces_from [] r) (append_assoc acc (x ∷ []) w))

upto_lacks : (c : ℕ) (s : List ℕ) → Free c (upto c s)
upto_lacks c [] = tt
upto_lacks c (x ∷ s) = elim (either (x == c)) [ inl e ↦ rw e tt | inr e ↦ rw e (e, upto_lacks c s) ]

pub pieces_cut : (s : List ℕ) → (length (upto 10 s) ≡ length s → ⊥) → pieces s ≡ upto 10 s ∷ pieces (past 10 s)
pieces_cut s h = ap (pieces_from []) (cut 10 s h) ∙ pieces_line (upto 10 s) [] (past 10 s) (upto_lacks 10 s)

pub pieces_front : (ls : List Line) (r : List ℕ) → AllLines ls → pieces (lines_text ls ++ r) ≡ map line_text ls ++ pieces r
pieces_front [] r h = refl
pieces_front (l ∷ ls) r h =
    ap (pieces_from []) (append_assoc (line_text l) (10 ∷ lines_text ls) r)
    ∙ pieces_line (line_text l) [] (lines_text ls ++ r) (line-free l h.0)
    ∙ ap (λ t. line_text l ∷ t) (pieces_front ls r h.1)

joined_front : (ls : List Line) (ys : List (List ℕ)) (t : List ℕ) → text_of_lines (map line_text ls ++ ys) ++ t ≡ lines_text ls ++ (text_of_lines ys ++ t)
joined_front [] ys t = refl
joined_front (l ∷ ls) ys t =
    append_assoc (line_text l) (10 ∷ text_of_lines (map line_text ls ++ ys)) t
    ∙ ap (λ u. line_text l ++ (10 ∷ u)) (joined_front ls ys t)
    ∙ sym (append_assoc (line_text l) (10 ∷ lines_text ls) (text_of_lines ys ++ t))

record Taken (xs : List (List ℕ)) (y : List ℕ) (ys : List (List ℕ)) (m : ℕ) : Type 0 where
  zs : List (List ℕ)
  is : take m (xs ++ y ∷ ys) ≡ xs ++ y ∷ zs

take_past : (xs : List (List ℕ)) (y : List ℕ) (ys : List (List ℕ)) (m : ℕ) → length xs < m → Taken xs y ys m
take_past [] y ys (suc m) h = record { zs = take m ys; is = refl }
take_past (x ∷ xs) y ys (suc m) h =
    let t = take_past xs y ys m (omega arith) in record { zs = t.zs; is = ap (λ u. x ∷ u) t.is }
take_past xs y ys m h = absurd (omega arith)

length_texts : (ls : List Line) → length (map line_text ls) ≡ length ls
length_texts [] = refl
length_texts (l ∷ ls) = ap suc (length_texts ls)

-- what refuses a line refuses each text that goes on with it
abbrev Refused : List Line → Place → List ℕ → Type 0
Refused ls p w = (s r : List ℕ) → Inv s ls p r → 0 < length r → upto 10 r ≡ w → (j : Job) → IsJob j → text_of_job j ≡ s → ⊥

above : (bytes : List ℕ) (ls : List Line) (p : Place) (rest : List ℕ) → Inv bytes ls p rest → (length (upto 10 rest) ≡ length rest → ⊥) → Refused ls p (upto 10 rest) → (m : ℕ) → length ls < m → IsText (completion (take m (pieces bytes))) → ⊥
above bytes ls p rest i n f m h t =
    let w = upto 10 rest in
    let a : pieces bytes ≡ map line_text ls ++ (w ∷ pieces (past 10 rest)) = ap pieces i.text ∙ pieces_front ls rest i.oks ∙ ap (λ u. map line_text ls ++ u) (pieces_cut rest n) in
    let b = take_past (map line_text ls) w (pieces (past 10 rest)) m (omega (arith, h, length_texts ls)) in
    let ws = map line_text ls ++ w ∷ b.zs in
    let c : take m (pieces bytes) ≡ ws = ap (take m) a ∙ b.is in
    let x = text_of_lines b.zs ++ ending ws in
    let r = text_of_lines (w ∷ b.zs) ++ ending ws in
    let e : r ≡ w ++ (10 ∷ x) = append_assoc w (10 ∷ text_of_lines b.zs) (ending ws) in
    let u : upto 10 r ≡ w = ap (upto 10) e ∙ upto-free 10 w x (upto_lacks 10 rest) in
    let pos : 0 < length r = omega (arith, ap length e, length-append w (10 ∷ x)) in
    f (completion ws) r (record { text = joined_front ls (w ∷ b.zs) (ending ws); oks = i.oks; runs = i.runs }) pos u t.0 t.1 (t.2 ∙ ap completion c)

pub above_text : (bytes : List ℕ) (ls : List Line) (p : Place) (rest : List ℕ) → Inv bytes ls p rest → (length (upto 10 rest) ≡ length rest → ⊥) → ((l : Line) → IsLine l → line_text l ≡ upto 10 rest → next_place p (class l) ≡ None) → (m : ℕ) → length ls < m → IsText (completion (take m (pieces bytes))) → ⊥
above_text bytes ls p rest i n g =
    above bytes ls p rest i n (λ s r inv pos e j ok h. refuse_line s ls p r inv pos (λ l o q. refuse_place s ls p r inv pos l o q (g l o (q ∙ e)) j ok h) j ok h)

pub pieces_none : (s acc : List ℕ) → length (upto 10 s) ≡ length s → pieces_from acc s ≡ []
pieces_none [] acc h = refl
pieces_none (x ∷ s) acc h = elim (either (x == 10)) [ inl e ↦ let k = rw e at h in absurd (omega (arith, k)) | inr e ↦ let k = rw e at h in rw e (pieces_none s (acc ++ x ∷ []) (omega (arith, k))) ]

length_front : (bytes : List ℕ) (ls : List Line) (p : Place) (rest : List ℕ) → Inv bytes ls p rest → length (pieces bytes) ≡ length ls + length (pieces rest)
length_front bytes ls p rest i =
    ap length (ap pieces i.text ∙ pieces_front ls rest i.oks) ∙ length-append (map line_text ls) (pieces rest) ∙ ap (λ n. n + length (pieces rest)) (length_texts ls)

module _ (bytes : List ℕ) (ls : List Line) (p : Place) (rest : List ℕ) (i : Inv bytes ls p rest) where
  pub stuck_feed : 0 < length rest → length (upto 10 rest) ≡ length rest → IsStuckAt bytes (length ls)
  stuck_feed n e =
      let k = length_front bytes ls p rest i in
      let q = ap length (pieces_none rest [] e) in
      record { small = omega (arith, k); none = λ t. refuse_feed bytes ls p rest i n e t.0 t.1 t.2; above = λ m h s t. absurd (omega (arith, k, q, h, s)) }

  pub stuck_end : length rest ≡ 0 → (p ≡ AtEnd → ⊥) → IsStuckAt bytes (length ls)
  stuck_end n e =
      let k = length_front bytes ls p rest i in
      let q = ap length (pieces_none rest [] (ap (λ r. length (upto 10 r)) (nil rest n) ∙ sym n)) in
      record { small = omega (arith, k); none = λ t. refuse_end bytes ls p rest i n e t.0 t.1 t.2; above = λ m h s t. absurd (omega (arith, k, q, h, s)) }

  pub stuck_text : 0 < length rest → (length (upto 10 rest) ≡ length rest → ⊥) → ((l : Line) → IsLine l → line_text l ≡ upto 10 rest → next_place p (class l) ≡ None) → IsStuckAt bytes (length ls)
  stuck_text n f g =
      let k = length_front bytes ls p rest i in
      record {
        small = omega (arith, k);
        none = λ t. refuse_line bytes ls p rest i n (λ l o q. refuse_place bytes ls p rest i n l o q (g l o q) t.0 t.1 t.2) t.0 t.1 t.2;
        above = λ m h s t. above_text bytes ls p rest i f g m h t;
      }
