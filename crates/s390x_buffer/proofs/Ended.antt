-- What the end of a block leaves of the branches that were put last, behind a step's beginning.
use Rattle.std.proofs.Common.{◌≡◌, ◌≢◌, ℕ, ◌+◌, List, [], ◌∷◌, ◌++◌, length, take, Some, true, cond, ◌&&◌, nat_eq, refl, sym, ap, ap₂, ◌∙◌, arith, length-append, append_assoc, eq-eqb, ne_eqb}
use Rattle.std.proofs.lemmas.List.{take-append-le, take_all}
use Rattle.std.proofs.lemmas.Bool.{and_from}
use Rattle.s390x_base.specs.declared.ir.MachLabel.{MachLabel}
use Rattle.s390x_buffer.specs.State.{BufferState}
use Rattle.s390x_buffer.specs.BlockEnd.{is_branch_use, has_use, without_use, with_jump, with_conditional, cut, inverted_alone, both_ended, ended_by, at_block_end}
use Rattle.s390x_buffer.specs.declared.entries.LabelFixup.{LabelFixup}
use Rattle.s390x_buffer.specs.declared.entries.RecordedBranches.TheVariants.{NoBranch, LoneJump, ConditionalThenJump}
use Rattle.s390x_buffer.specs.declared.label_use.LabelUse.TheVariants.{BranchRIL}
use Rattle.s390x_buffer.proofs.Ending.{has-behind, without_behind}

-- a use of a branch
abbrev pub use_at : ℕ → MachLabel → LabelFixup
use_at n l = record { kind = BranchRIL; offset = n; label = l }

-- a branch that isn't recorded
abbrev pub put_branch : BufferState → MachLabel → List ℕ → BufferState
put_branch s l bs = record s { bytes = s.bytes ++ bs; uses = s.uses ++ use_at (length s.bytes) l ∷ [] }

-- one that is always taken, recorded
abbrev pub put_jump : BufferState → MachLabel → List ℕ → BufferState
put_jump s l bs = record s { bytes = s.bytes ++ bs; uses = s.uses ++ use_at (length s.bytes) l ∷ []; branches = with_jump s.branches (length s.bytes) l }

-- a conditional one, recorded
abbrev pub put_conditional : BufferState → MachLabel → (bs inverted : List ℕ) → BufferState
put_conditional s l bs inverted = record s { bytes = s.bytes ++ bs; uses = s.uses ++ use_at (length s.bytes) l ∷ []; branches = with_conditional s.branches (length s.bytes) l inverted }

own_use : (m n : ℕ) (l : MachLabel) → m ≡ n → is_branch_use n l.0 (use_at m l) ≡ true
own_use m n l e = and_from (nat_eq m n) (nat_eq l.0 l.0) (eq-eqb m n e) (eq-eqb l.0 l.0 refl)

-- the use of a branch that stands last
pub use_behind : (us : List LabelFixup) (n : ℕ) (l : MachLabel) → has_use n l.0 (us ++ use_at n l ∷ []) ≡ true
use_behind us n l = has-behind n l.0 us (use_at n l) (own_use n n l refl)

front : (xs ys : List ℕ) (n : ℕ) → length xs ≡ n → take n (xs ++ ys) ≡ xs
front xs ys n e = take-append-le n xs ys (omega (arith, e)) ∙ take_all n xs (omega (arith, e))

-- ---- one that is always taken

lone_end : (s : BufferState) (l : MachLabel) (bs : List ℕ) (next : ℕ) → s.branches ≡ NoBranch → length bs ≡ 6 →
    ended_by (put_jump s l bs).branches next (put_jump s l bs) ≡ cond (nat_eq l.0 next) (cut (length s.bytes) l.0 (put_jump s l bs)) (put_jump s l bs)
lone_end s l bs next none six =
    let P = put_jump s l bs in
    let n = length s.bytes in
    let long : n + 6 ≡ length (s.bytes ++ bs) = omega (arith, length-append s.bytes bs, six) in
    ap (λ b. ended_by (with_jump b n l) next P) none
    ∙ ap (λ b. cond (b && nat_eq l.0 next) (cut n l.0 P) P) (eq-eqb (n + 6) (length (s.bytes ++ bs)) long)

pub jump_cut : (s : BufferState) (l : MachLabel) (bs : List ℕ) → s.branches ≡ NoBranch → length bs ≡ 6 → at_block_end (Some l) (put_jump s l bs) ≡ s
jump_cut s l bs none six =
    let P = put_jump s l bs in
    let n = length s.bytes in
    lone_end s l bs l.0 none six
    ∙ ap (λ b. cond b (cut n l.0 P) P) (eq-eqb l.0 l.0 refl)
    ∙ ap₂ (λ xs us. record s { bytes = xs; uses = us; branches = NoBranch }) (front s.bytes bs n refl) (without_behind n l.0 s.uses (use_at n l) (own_use n n l refl))
    ∙ ap (λ b. record s { branches = b }) (sym none)

pub jump_stays : (s : BufferState) (l next : MachLabel) (bs : List ℕ) → s.branches ≡ NoBranch → length bs ≡ 6 → l.0 ≢ next.0 → at_block_end (Some next) (put_jump s l bs) ≡ put_jump s l bs
jump_stays s l next bs none six other =
    let P = put_jump s l bs in
    lone_end s l bs next.0 none six ∙ ap (λ b. cond b (cut (length s.bytes) l.0 P) P) (ne_eqb l.0 next.0 other)

-- ---- a conditional one and then one that is always taken

module _ (s : BufferState) (taken not_taken : MachLabel) (first second inverted : List ℕ) (none : s.branches ≡ NoBranch) (six : length first ≡ 6) (six_more : length second ≡ 6) where
  abbrev pub both_put : BufferState
  both_put = put_jump (put_conditional s taken first inverted) not_taken second

  both_recorded : both_put.branches ≡ ConditionalThenJump (length s.bytes) taken not_taken inverted
  both_recorded =
      let n = length s.bytes in
      let m = length (s.bytes ++ first) in
      let long : n + 6 ≡ m = omega (arith, length-append s.bytes first, six) in
      ap (λ b. with_jump (with_conditional b n taken inverted) m not_taken) none
      ∙ ap (λ b. cond b (ConditionalThenJump n taken not_taken inverted) (LoneJump m not_taken)) (eq-eqb (n + 6) m long)

  both_end : (next : MachLabel) → at_block_end (Some next) both_put ≡ both_ended next.0 (length s.bytes) taken not_taken inverted both_put
  both_end next =
      let n = length s.bytes in
      let all = length ((s.bytes ++ first) ++ second) in
      let long : n + 12 ≡ all = omega (arith, length-append s.bytes first, length-append (s.bytes ++ first) second, six, six_more) in
      ap (λ b. ended_by b next.0 both_put) both_recorded
      ∙ ap (λ b. cond b (both_ended next.0 n taken not_taken inverted both_put) both_put) (eq-eqb (n + 12) all long)

  second_bytes : take (length s.bytes + 6) ((s.bytes ++ first) ++ second) ≡ s.bytes ++ first
  second_bytes = front (s.bytes ++ first) second (length s.bytes + 6) (omega (arith, length-append s.bytes first, six))

  second_use : without_use (length s.bytes + 6) not_taken.0 ((s.uses ++ use_at (length s.bytes) taken ∷ []) ++ use_at (length (s.bytes ++ first)) not_taken ∷ []) ≡ s.uses ++ use_at (length s.bytes) taken ∷ []
  second_use =
      without_behind (length s.bytes + 6) not_taken.0 (s.uses ++ use_at (length s.bytes) taken ∷ []) (use_at (length (s.bytes ++ first)) not_taken)
      (own_use (length (s.bytes ++ first)) (length s.bytes + 6) not_taken (omega (arith, length-append s.bytes first, six)))

  first_use : without_use (length s.bytes) taken.0 (s.uses ++ use_at (length s.bytes) taken ∷ []) ≡ s.uses
  first_use = without_behind (length s.bytes) taken.0 s.uses (use_at (length s.bytes) taken) (own_use (length s.bytes) (length s.bytes) taken refl)

  -- the second one leads to the next block, and the first one doesn't
  pub second_cut : (next : MachLabel) → not_taken.0 ≡ next.0 → taken.0 ≢ next.0 → at_block_end (Some next) both_put ≡ put_branch s taken first
  second_cut next leads other =
      let n = length s.bytes in
      both_end next
      ∙ ap (λ b. cond b (cond (nat_eq taken.0 next.0) (cut n taken.0 (cut (n + 6) not_taken.0 both_put)) (cut (n + 6) not_taken.0 both_put)) (cond (nat_eq taken.0 next.0) (inverted_alone n taken.0 not_taken inverted both_put) both_put)) (eq-eqb not_taken.0 next.0 leads)
      ∙ ap (λ b. cond b (cut n taken.0 (cut (n + 6) not_taken.0 both_put)) (cut (n + 6) not_taken.0 both_put)) (ne_eqb taken.0 next.0 other)
      ∙ ap₂ (λ xs us. record s { bytes = xs; uses = us; branches = NoBranch }) second_bytes second_use
      ∙ ap (λ b. record s { bytes = s.bytes ++ first; uses = s.uses ++ use_at n taken ∷ []; branches = b }) (sym none)

  -- both do
  pub both_cut : (next : MachLabel) → not_taken.0 ≡ next.0 → taken.0 ≡ next.0 → at_block_end (Some next) both_put ≡ s
  both_cut next leads too =
      let n = length s.bytes in
      both_end next
      ∙ ap (λ b. cond b (cond (nat_eq taken.0 next.0) (cut n taken.0 (cut (n + 6) not_taken.0 both_put)) (cut (n + 6) not_taken.0 both_put)) (cond (nat_eq taken.0 next.0) (inverted_alone n taken.0 not_taken inverted both_put) both_put)) (eq-eqb not_taken.0 next.0 leads)
      ∙ ap (λ b. cond b (cut n taken.0 (cut (n + 6) not_taken.0 both_put)) (cut (n + 6) not_taken.0 both_put)) (eq-eqb taken.0 next.0 too)
      ∙ ap₂ (λ xs us. record s { bytes = take n xs; uses = without_use n taken.0 us; branches = NoBranch }) second_bytes second_use
      ∙ ap₂ (λ xs us. record s { bytes = xs; uses = us; branches = NoBranch }) (front s.bytes first n refl) first_use
      ∙ ap (λ b. record s { branches = b }) (sym none)

  -- the first one alone does
  pub first_inverted : (next : MachLabel) → not_taken.0 ≢ next.0 → taken.0 ≡ next.0 → at_block_end (Some next) both_put ≡ put_branch s not_taken inverted
  first_inverted next other leads =
      let n = length s.bytes in
      let bytes_left : take n ((s.bytes ++ first) ++ second) ≡ s.bytes = ap (λ xs. take n xs) (append_assoc s.bytes first second) ∙ front s.bytes (first ++ second) n refl in
      both_end next
      ∙ ap (λ b. cond b (cond (nat_eq taken.0 next.0) (cut n taken.0 (cut (n + 6) not_taken.0 both_put)) (cut (n + 6) not_taken.0 both_put)) (cond (nat_eq taken.0 next.0) (inverted_alone n taken.0 not_taken inverted both_put) both_put)) (ne_eqb not_taken.0 next.0 other)
      ∙ ap (λ b. cond b (inverted_alone n taken.0 not_taken inverted both_put) both_put) (eq-eqb taken.0 next.0 leads)
      ∙ ap₂ (λ xs us. record s { bytes = xs ++ inverted; uses = us ++ use_at n not_taken ∷ []; branches = NoBranch }) bytes_left (ap (λ us. without_use n taken.0 us) second_use ∙ first_use)
      ∙ ap (λ b. record s { bytes = s.bytes ++ inverted; uses = s.uses ++ use_at n not_taken ∷ []; branches = b }) (sym none)

  -- neither does
  pub both_stay : (next : MachLabel) → not_taken.0 ≢ next.0 → taken.0 ≢ next.0 → at_block_end (Some next) both_put ≡ both_put
  both_stay next other too =
      let n = length s.bytes in
      both_end next
      ∙ ap (λ b. cond b (cond (nat_eq taken.0 next.0) (cut n taken.0 (cut (n + 6) not_taken.0 both_put)) (cut (n + 6) not_taken.0 both_put)) (cond (nat_eq taken.0 next.0) (inverted_alone n taken.0 not_taken inverted both_put) both_put)) (ne_eqb not_taken.0 next.0 other)
      ∙ ap (λ b. cond b (inverted_alone n taken.0 not_taken inverted both_put) both_put) (ne_eqb taken.0 next.0 too)
