-- The lines of a plan, one behind the other.
use Rattle.std.proofs.Common.{◌≡◌, ℕ, zero, suc, ◌+◌, ◌-◌, ◌<◌, ◌≤◌, Bor, Global, Option, Some, None, Vec, List, [], ◌∷◌, ◌++◌, drop, get_or, length, map, take, refl, sym, ap, ◌∙◌, subst, arith, append_assoc, append-nil, length-append}
use Rattle.std.proofs.lemmas.List.{length-map, map-append}
use Rattle.s390x_alloc.specs.declared.plan.BlockPlan.{BlockPlan}
use Rattle.s390x_alloc.specs.declared.plan.Edit.{Edit}
use Rattle.s390x_alloc.specs.declared.plan.Edit.TheVariants.{Move, Step}
use Rattle.s390x_alloc.specs.declared.plan.EntryPair.{EntryPair}
use Rattle.s390x_job_bundle.proofs.Lines.{take_front}
use Rattle.s390x_job_plan.specs.Errors.{FitsPlan, Follows, IsPlanStuckAt, IsRead, told_lines, stage_of, line_value}
use Rattle.s390x_job_plan.specs.Lines.{Closing, Heading, IsLine, Opening, PlanLine, line_of, line_text}
use Rattle.s390x_job_plan.specs.Order.{Stage, AtStart, Ahead, InEntry, InEdits, AtEnd, next_stage, run}
use Rattle.s390x_job_plan.specs.Text.{AllLines, block_lines, blocks_lines, edit_line, pair_line, plan_lines}
use Rattle.s390x_job_plan.specs.declared.progress.Progress.{Progress}
use Rattle.s390x_job_plan.specs.declared.progress.Progress.TheVariants.{Start, Between, Entering, Editing, Done}
use Rattle.s390x_job_plan.specs.declared.line.Line.{Line}
use Rattle.s390x_job_plan.specs.declared.line.Line.TheVariants as L
use Rattle.s390x_job_plan.proofs.Spelling.{all_append, lines_round_trip}

-- ---- a plan's lines stand in their order

-- where a block may begin, and the text may end
abbrev IsOpen : Stage → Type 0
IsOpen AtStart = ⊥
IsOpen AtEnd = ⊥
IsOpen s = Unit {0}

-- within a block
abbrev IsWithin : Stage → Type 0
IsWithin InEntry = Unit {0}
IsWithin InEdits = Unit {0}
IsWithin s = ⊥

module _ (t : List PlanLine) (ends : (s : Stage) → IsOpen s → run (Some s) t ≡ Some AtEnd) where
  edits_run : (es : List Edit) (s : Stage) → IsWithin s → run (Some s) (map edit_line es ++ t) ≡ Some AtEnd
  edits_run [] InEntry h = ends InEntry tt
  edits_run [] InEdits h = ends InEdits tt
  edits_run (Move to from ∷ es) InEntry h = edits_run es InEdits tt
  edits_run (Move to from ∷ es) InEdits h = edits_run es InEdits tt
  edits_run (Step regs ∷ es) InEntry h = edits_run es InEdits tt
  edits_run (Step regs ∷ es) InEdits h = edits_run es InEdits tt
  edits_run es s h = absurd h

  pairs_run : (ps : List EntryPair) (es : List Edit) → run (Some InEntry) (map pair_line ps ++ (map edit_line es ++ t)) ≡ Some AtEnd
  pairs_run [] es = edits_run es InEntry tt
  pairs_run (p ∷ ps) es = pairs_run ps es

  block_run : (ps : List EntryPair) (es : List Edit) (s : Stage) → IsOpen s → run (Some s) (Opening ∷ (map pair_line ps ++ (map edit_line es ++ t))) ≡ Some AtEnd
  block_run ps es AtStart h = absurd h
  block_run ps es AtEnd h = absurd h
  block_run ps es s h = pairs_run ps es

closing_run : (s : Stage) → IsOpen s → run (Some s) (Closing ∷ []) ≡ Some AtEnd
closing_run AtStart h = absurd h
closing_run AtEnd h = absurd h
closing_run s h = refl

blocks_run : (bs : List BlockPlan) (s : Stage) → IsOpen s → run (Some s) (blocks_lines bs ++ Closing ∷ []) ≡ Some AtEnd
blocks_run [] s h = closing_run s h
blocks_run (b ∷ bs) s h =
    let p = map pair_line b.entry.items in
    let e = map edit_line b.edits.items in
    let r = blocks_lines bs in
    ap (λ ls. run (Some s) (Opening ∷ ls)) (append_assoc (p ++ e) r (Closing ∷ []) ∙ append_assoc p e (r ++ Closing ∷ []))
    ∙ block_run (r ++ Closing ∷ []) (blocks_run bs) b.entry.items b.edits.items s h

plan_run : (bs : List BlockPlan) → run (Some AtStart) (plan_lines bs) ≡ Some AtEnd
plan_run bs = blocks_run bs Ahead tt

run_append : (o : Option Stage) (a b : List PlanLine) → run o (a ++ b) ≡ run (run o a) b
run_append (Some s) (l ∷ a) b = run_append (next_stage s l) a b
run_append o a b = refl

-- ---- one block more

blocks_append : (bs : List BlockPlan) (b : BlockPlan) → blocks_lines (bs ++ b ∷ []) ≡ blocks_lines bs ++ block_lines b.entry.items b.edits.items
blocks_append [] b = append-nil (block_lines b.entry.items b.edits.items)
blocks_append (a ∷ bs) b =
    ap (λ t. block_lines a.entry.items a.edits.items ++ t) (blocks_append bs b) ∙ sym (append_assoc (block_lines a.entry.items a.edits.items) (blocks_lines bs) (block_lines b.entry.items b.edits.items))

pub more_blocks : (bs cs : List BlockPlan) (b : BlockPlan) (l : PlanLine) → cs ≡ bs ++ b ∷ [] → Heading ∷ (blocks_lines cs ++ l ∷ []) ≡ Heading ∷ ((blocks_lines bs ++ block_lines b.entry.items b.edits.items) ++ l ∷ [])
more_blocks bs cs b l e = ap (λ t. Heading ∷ (t ++ l ∷ [])) (ap blocks_lines e ∙ blocks_append bs b)

-- ---- a block with no edits

same_next : (l : Line) → ((p : EntryPair) → l ≡ L.Entry p → ⊥) → next_stage InEdits (line_value l) ≡ next_stage InEntry (line_value l)
same_next (L.Entry p) h = absurd (h p refl)
same_next (L.Edit (Move to from)) h = refl
same_next l h = refl

-- a line that is no pair goes on behind no edits as behind pairs
pub no_edits : (blocks : Vec BlockPlan Global) (entry : Vec EntryPair Global) (edits : Vec Edit Global) (l : Line) (o : Option Progress) → edits.items ≡ [] → ((p : EntryPair) → l ≡ L.Entry p → ⊥) → Follows (Editing blocks entry edits) l o → Follows (Entering blocks entry) l o
no_edits blocks entry edits l None e n h = sym (same_next l n) ∙ h
no_edits blocks entry edits l (Some d) e n h =
    (sym (same_next l n) ∙ h.0, subst (λ es. told_lines d ≡ (Heading ∷ (blocks_lines blocks.items ++ block_lines entry.items es)) ++ line_value l ∷ []) e h.1)

-- ---- lines that were read, those of a progress

pub record Told (front : List (List ℕ)) (d : Progress) : Type 0 where
  pub all : AllLines (told_lines d)
  pub text : map line_text (told_lines d) ≡ front
  pub stage : run (Some AtStart) (told_lines d) ≡ Some (stage_of d)

pub told_more : (front : List (List ℕ)) (d e : Progress) (w : List ℕ) (l : Line) → Told front d → IsRead w (Some l) → Follows d l (Some e) → Told (front ++ w ∷ []) e
told_more front d e w l t read f =
    let one = line_value l ∷ [] in
    record {
      all = subst AllLines (sym f.1) (all_append (told_lines d) one t.all (read.0, tt));
      text = ap (map line_text) f.1 ∙ map-append line_text (told_lines d) one ∙ ap (λ ws. ws ++ line_text (line_value l) ∷ []) t.text ∙ ap (λ v. front ++ v ∷ []) read.1;
      stage = ap (run (Some AtStart)) f.1 ∙ run_append (Some AtStart) (told_lines d) one ∙ ap (λ o. run o one) t.stage ∙ ap (λ o. run o []) f.0;
    }

-- ---- where no plan goes on

-- a line of a plan is one
some_line : (ls : List PlanLine) (front : List (List ℕ)) (w : List ℕ) (more : List (List ℕ)) → AllLines ls → map line_text ls ≡ front ++ w ∷ more → (l : PlanLine) × IsLine l × (line_text l ≡ w)
some_line [] [] w more h e = absurd cc
some_line [] (v ∷ front) w more h e = absurd cc
some_line (l ∷ ls) [] w more h e = (l, h.0, cc)
some_line (l ∷ ls) (v ∷ front) w more h e = some_line ls front w more h.1 cc

pub no_line : (front : List (List ℕ)) (w : List ℕ) → IsRead w None → (more : List (List ℕ)) → FitsPlan (front ++ w ∷ more) → ⊥
no_line front w none more f = let l = some_line (plan_lines f.0) front w more f.1 f.2 in none l.0 l.1 l.2

-- behind lines that were read, a plan's lines go on as its order allows
told_run : (front more : List (List ℕ)) (d : Progress) → Told front d → FitsPlan (front ++ more) → run (Some (stage_of d)) (map line_of more) ≡ Some AtEnd
told_run front more d t f =
    let lines : plan_lines f.0 ≡ told_lines d ++ map line_of more =
    sym (lines_round_trip (plan_lines f.0) f.1) ∙ ap (map line_of) f.2 ∙ map-append line_of front more ∙ ap (λ ls. ls ++ map line_of more) (ap (map line_of) (sym t.text) ∙ lines_round_trip (told_lines d) t.all) in
    ap (λ o. run o (map line_of more)) (sym t.stage) ∙ sym (run_append (Some AtStart) (told_lines d) (map line_of more)) ∙ ap (run (Some AtStart)) (sym lines) ∙ plan_run f.0

read_value : (w : List ℕ) (l : Line) → IsRead w (Some l) → line_of w ≡ line_value l
read_value w l h = let r = lines_round_trip (line_value l ∷ []) (h.0, tt) in ap line_of (sym h.1) ∙ first_of r
  where
    first_of : {a b : PlanLine} → a ∷ [] ≡ b ∷ [] → a ≡ b
    first_of e = cc

pub no_place : (front : List (List ℕ)) (d : Progress) (w : List ℕ) (l : Line) → Told front d → IsRead w (Some l) → Follows d l None → (more : List (List ℕ)) → FitsPlan (front ++ w ∷ more) → ⊥
no_place front d w l t read none more f =
    let e : run None (map line_of more) ≡ Some AtEnd = ap (λ o. run o (map line_of more)) (sym none) ∙ ap (λ k. run (next_stage (stage_of d) k) (map line_of more)) (sym (read_value w l read)) ∙ told_run front (w ∷ more) d t f in
    absurd cc

-- a line with which no plan goes on
pub stuck_line : (front : List (List ℕ)) (w : List ℕ) (back : List (List ℕ)) → ((more : List (List ℕ)) → FitsPlan (front ++ w ∷ more) → ⊥) → IsPlanStuckAt (front ++ w ∷ back) (length front)
stuck_line front w back never =
    record {
      small = omega (arith, length-append front (w ∷ back));
      none = never back;
      above = λ m more h q f.
          let n = m - (length front + 1) in
          let e : take m (front ++ w ∷ back) ++ more ≡ front ++ w ∷ (take n back ++ more) = ap (λ t. t ++ more) (take_front front w back m n (omega (arith, h))) ∙ append_assoc front (w ∷ take n back) more in
          never (take n back ++ more) (subst FitsPlan e f);
    }

-- no line is left, and the plan isn't whole
stuck_behind : (ws : List (List ℕ)) (d : Progress) → Told ws d → (stage_of d ≡ AtEnd → ⊥) → IsPlanStuckAt ws (length ws)
stuck_behind ws d t unfinished =
    record {
      small = omega arith;
      none = λ f. unfinished (last (stage_of d) (told_run ws [] d t (subst FitsPlan (sym (nothing ws)) f)));
      above = λ m more h q f. absurd (omega (arith, h, q));
    }
  where
    nothing : (vs : List (List ℕ)) → vs ++ [] ≡ vs
    nothing [] = refl
    nothing (v ∷ vs) = ap (λ t. v ∷ t) (nothing vs)

    last : (s : Stage) → Some s ≡ Some AtEnd → s ≡ AtEnd
    last s e = cc

-- ---- lines in a slice

abbrev texts : List (Bor (List ℕ)) → List (List ℕ)
texts s = map (λ (w : Bor (List ℕ)). w.now) s

texts_split : (s : List (Bor (List ℕ))) (n : ℕ) (d : Bor (List ℕ)) → n < length s → texts s ≡ texts (take n s) ++ (get_or s n d).now ∷ texts (drop (suc n) s)
texts_split [] n d h = absurd (omega (arith, h))
texts_split (x ∷ s) zero d h = refl
texts_split (x ∷ s) (suc n) d h = ap (λ t. x.now ∷ t) (texts_split s n d (omega (arith, h)))

texts_more : (s : List (Bor (List ℕ))) (n : ℕ) (d : Bor (List ℕ)) → n < length s → texts (take (suc n) s) ≡ texts (take n s) ++ (get_or s n d).now ∷ []
texts_more [] n d h = absurd (omega (arith, h))
texts_more (x ∷ s) zero d h = refl
texts_more (x ∷ s) (suc n) d h = ap (λ t. x.now ∷ t) (texts_more s n d (omega (arith, h)))

texts_count : (s : List (Bor (List ℕ))) (n : ℕ) → n ≤ length s → length (texts (take n s)) ≡ n
texts_count [] (suc n) h = absurd (omega (arith, h))
texts_count (x ∷ s) (suc n) h = omega (arith, texts_count s n (omega (arith, h)))
texts_count s n h = refl

texts_all : (s : List (Bor (List ℕ))) (n : ℕ) → length s ≤ n → take n s ≡ s
texts_all [] zero h = refl
texts_all [] (suc n) h = refl
texts_all (x ∷ s) zero h = absurd (omega (arith, h))
texts_all (x ∷ s) (suc n) h = ap (λ t. x ∷ t) (texts_all s n (omega (arith, h)))

stuck_at : (s : List (Bor (List ℕ))) (n : ℕ) (d : Bor (List ℕ)) → n < length s → ((more : List (List ℕ)) → FitsPlan (texts (take n s) ++ (get_or s n d).now ∷ more) → ⊥) → IsPlanStuckAt (texts s) n
stuck_at s n d h never =
    let here = stuck_line (texts (take n s)) (get_or s n d).now (texts (drop (suc n) s)) never in
    subst (λ ws. IsPlanStuckAt ws n) (sym (texts_split s n d h)) (subst (IsPlanStuckAt (texts (take n s) ++ (get_or s n d).now ∷ texts (drop (suc n) s))) (texts_count s n (omega (arith, h))) here)

pub unread_at : (s : List (Bor (List ℕ))) (n : ℕ) (w : Bor (List ℕ)) → n < length s → IsRead (get_or s n w).now None → IsPlanStuckAt (texts s) n
unread_at s n w h none = stuck_at s n w h (no_line (texts (take n s)) (get_or s n w).now none)

pub misplaced_at : (s : List (Bor (List ℕ))) (n : ℕ) (w : Bor (List ℕ)) (d : Progress) (l : Line) → n < length s → Told (texts (take n s)) d → IsRead (get_or s n w).now (Some l) → Follows d l None → IsPlanStuckAt (texts s) n
misplaced_at s n w d l h t read none = stuck_at s n w h (no_place (texts (take n s)) d (get_or s n w).now l t read none)

pub told_at : (s : List (Bor (List ℕ))) (n : ℕ) (w : Bor (List ℕ)) (d e : Progress) (l : Line) → n < length s → Told (texts (take n s)) d → IsRead (get_or s n w).now (Some l) → Follows d l (Some e) → Told (texts (take (n + 1) s)) e
told_at s n w d e l h t read follows =
    let next_is : suc n ≡ n + 1 = omega arith in
    let one : texts (take n s) ++ (get_or s n w).now ∷ [] ≡ texts (take (n + 1) s) = sym (texts_more s n w h) ∙ ap (λ k. texts (take k s)) next_is in
    subst (λ ws. Told ws e) one (told_more (texts (take n s)) d e (get_or s n w).now l t read follows)

not_end : (d : Progress) → ((blocks : Vec BlockPlan Global) → d ≡ Done blocks → ⊥) → stage_of d ≡ AtEnd → ⊥
not_end (Done blocks) h e = h blocks refl
not_end d h e = absurd cc

pub unfinished_at : (s : List (Bor (List ℕ))) (n : ℕ) (d : Progress) → length s ≤ n → Told (texts (take n s)) d → ((blocks : Vec BlockPlan Global) → d ≡ Done blocks → ⊥) → IsPlanStuckAt (texts s) (length s)
unfinished_at s n d h t open_yet =
    let told = subst (λ v. Told (texts v) d) (texts_all s n h) t in
    subst (IsPlanStuckAt (texts s)) (length-map s (λ (w : Bor (List ℕ)). w.now)) (stuck_behind (texts s) d told (not_end d open_yet))
