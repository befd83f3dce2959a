-- Which use is dropped, and what stays at the end of a block.
use Rattle.std.proofs.Common.{◌≡◌, ℕ, zero, suc, ◌+◌, ◌-◌, ◌<◌, ◌≤◌, List, [], ◌∷◌, ◌++◌, length, take, drop, remove, Option, Some, None, Bool, true, false, cond, ◌||◌, ◌&&◌, nat_eq, refl, sym, ap, ap₂, ◌∙◌, subst, arith, get_or, eqb-true, ne_eqb, ◌≢◌}
use Rattle.std.proofs.lemmas.List.{drop_all, drop_more}
use Rattle.std.proofs.lemmas.Bool.{or_parts, or_right, and_left, and_right}
use Rattle.s390x_base.specs.declared.ir.MachLabel.{MachLabel}
use Rattle.s390x_buffer.specs.State.{BufferState, poisoned_buffer}
use Rattle.s390x_buffer.specs.Extends.{IsPrefix}
use Rattle.s390x_buffer.specs.BlockEnd.{is_branch_use, has_use, without_use, cut, inverted_alone, both_ended, ended_by, at_block_end, KeepsTables}
use Rattle.s390x_buffer.specs.declared.entries.LabelFixup.{LabelFixup}
use Rattle.s390x_buffer.specs.declared.entries.RecordedBranches.{RecordedBranches}
use Rattle.s390x_buffer.specs.declared.entries.RecordedBranches.TheVariants.{NoBranch, LoneJump, LoneConditional, ConditionalThenJump, OtherBranches}
use Rattle.s390x_buffer.specs.declared.label_use.LabelUse.TheVariants.{BranchRIL}
use Rattle.s390x_buffer.proofs.Extending.{prefix_more}

pub has-behind : (start l : ℕ) (xs : List LabelFixup) (u : LabelFixup) → is_branch_use start l u ≡ true → has_use start l (xs ++ u ∷ []) ≡ true
has-behind start l [] u e = cc
has-behind start l (x ∷ xs) u e = ap (λ b. is_branch_use start l x || b) (has-behind start l xs u e) ∙ or_right (is_branch_use start l x) true refl

has-other : (start l : ℕ) (xs : List LabelFixup) (u : LabelFixup) → is_branch_use start l u ≡ false → has_use start l (xs ++ u ∷ []) ≡ has_use start l xs
has-other start l [] u e = ap (λ b. b || false) e
has-other start l (x ∷ xs) u e = ap (λ b. is_branch_use start l x || b) (has-other start l xs u e)

pub without_behind : (start l : ℕ) (xs : List LabelFixup) (u : LabelFixup) → is_branch_use start l u ≡ true → without_use start l (xs ++ u ∷ []) ≡ xs
without_behind start l [] u e = ap (λ b. cond b [] (u ∷ [])) e
without_behind start l (x ∷ xs) u e =
    ap (λ b. cond b (x ∷ without_use start l (xs ++ u ∷ [])) (cond (is_branch_use start l x) (xs ++ u ∷ []) (x ∷ (xs ++ u ∷ [])))) (has-behind start l xs u e)
    ∙ ap (λ l. x ∷ l) (without_behind start l xs u e)

step-other : (p q : Bool) (x : LabelFixup) (ys xs zs : List LabelFixup) → cond p (x ∷ (ys ++ zs)) (cond q (xs ++ zs) (x ∷ (xs ++ zs))) ≡ cond p (x ∷ ys) (cond q xs (x ∷ xs)) ++ zs
step-other true q x ys xs zs = refl
step-other false true x ys xs zs = refl
step-other false false x ys xs zs = refl

-- a use behind the others that is not the branch's stays
pub without_other : (start l : ℕ) (xs : List LabelFixup) (u : LabelFixup) → is_branch_use start l u ≡ false → without_use start l (xs ++ u ∷ []) ≡ without_use start l xs ++ u ∷ []
without_other start l [] u e = ap (λ b. cond b [] (u ∷ [])) e
without_other start l (x ∷ xs) u e =
    ap (λ b. cond b (x ∷ without_use start l (xs ++ u ∷ [])) (cond (is_branch_use start l x) (xs ++ u ∷ []) (x ∷ (xs ++ u ∷ [])))) (has-other start l xs u e)
    ∙ ap (λ ys. cond (has_use start l xs) (x ∷ ys) (cond (is_branch_use start l x) (xs ++ u ∷ []) (x ∷ (xs ++ u ∷ [])))) (without_other start l xs u e)
    ∙ step-other (has_use start l xs) (is_branch_use start l x) x (without_use start l xs) xs (u ∷ [])

-- one that stands among others is one of them
has_at : (start l : ℕ) (us : List LabelFixup) (i : ℕ) (z : LabelFixup) → i < length us → is_branch_use start l (get_or us i z) ≡ true → has_use start l us ≡ true
has_at start l [] i z lt e = absurd (omega (arith, lt))
has_at start l (u ∷ us) zero z lt e = ap (λ b. b || has_use start l us) e
has_at start l (u ∷ us) (suc i) z lt e = ap (λ b. is_branch_use start l u || b) (has_at start l us i z (omega (arith, lt)) e) ∙ or_right (is_branch_use start l u) true refl

-- where none stands behind it, it is the last one
pub last_found : (start l : ℕ) (us : List LabelFixup) (i : ℕ) (z : LabelFixup) → i < length us → is_branch_use start l (get_or us i z) ≡ true → has_use start l (drop (i + 1) us) ≡ false → without_use start l us ≡ remove us i
last_found start l [] i z lt e h = absurd (omega (arith, lt))
last_found start l (u ∷ us) zero z lt e h =
    ap (λ b. cond b (u ∷ without_use start l us) (cond (is_branch_use start l u) us (u ∷ us))) h
    ∙ ap (λ b. cond b us (u ∷ us)) e
last_found start l (u ∷ us) (suc i) z lt e h =
    ap (λ b. cond b (u ∷ without_use start l us) (cond (is_branch_use start l u) us (u ∷ us))) (has_at start l us i z (omega (arith, lt)) e)
    ∙ ap (λ ys. u ∷ ys) (last_found start l us i z (omega (arith, lt)) e (subst (λ n. has_use start l (drop n (u ∷ us)) ≡ false) next h))
  where
    next : suc i + 1 ≡ suc (i + 1)
    next = omega arith

-- where there is none, all stay
pub none_found : (start l : ℕ) (us : List LabelFixup) → has_use start l us ≡ false → without_use start l us ≡ us
none_found start l [] h = refl
none_found start l (u ∷ us) h =
    let p = or_parts (is_branch_use start l u) (has_use start l us) h in
    ap (λ b. cond b (u ∷ without_use start l us) (cond (is_branch_use start l u) us (u ∷ us))) p.1
    ∙ ap (λ b. cond b us (u ∷ us)) p.0

pub none_behind : (start l : ℕ) (us : List LabelFixup) (i : ℕ) → length us ≤ i → has_use start l (drop i us) ≡ false
none_behind start l us i le = ap (has_use start l) (drop_all i us le)

pub none_more : (start l : ℕ) (us : List LabelFixup) (i : ℕ) (z : LabelFixup) → i < length us → is_branch_use start l (get_or us i z) ≡ false → has_use start l (drop (i + 1) us) ≡ false → has_use start l (drop i us) ≡ false
none_more start l us i z lt e h = ap (has_use start l) (drop_more us i z lt) ∙ ap₂ (λ p q. p || q) e h

-- the new use is none of the two that are dropped
pub inverted_uses : (start taken : ℕ) (not_taken : MachLabel) (us : List LabelFixup) → taken ≢ not_taken.0 →
    without_use start taken (without_use (start + 6) not_taken.0 (us ++ record { kind = BranchRIL; offset = start; label = not_taken } ∷ [])) ≡ without_use start taken (without_use (start + 6) not_taken.0 us) ++ record { kind = BranchRIL; offset = start; label = not_taken } ∷ []
inverted_uses start taken not_taken us differ =
    let u : LabelFixup = record { kind = BranchRIL; offset = start; label = not_taken } in
    let first : is_branch_use (start + 6) not_taken.0 u ≡ false = and_left (nat_eq start (start + 6)) (nat_eq not_taken.0 not_taken.0) (ne_eqb start (start + 6) (λ e. omega (arith, e))) in
    let second : is_branch_use start taken u ≡ false = and_right (nat_eq start start) (nat_eq not_taken.0 taken) (ne_eqb not_taken.0 taken (λ e. differ (sym e))) in
    ap (without_use start taken) (without_other (start + 6) not_taken.0 us u first)
    ∙ without_other start taken (without_use (start + 6) not_taken.0 us) u second

-- what the end of a block keeps

prefix_taken : (xs : List ℕ) (k m : ℕ) → k ≤ m → IsPrefix (take k xs) (take m xs)
prefix_taken [] zero m le = refl
prefix_taken [] (suc k) m le = refl
prefix_taken (x ∷ xs) zero m le = refl
prefix_taken (x ∷ xs) (suc k) zero le = absurd (omega (arith, le))
prefix_taken (x ∷ xs) (suc k) (suc m) le = ap (λ l. x ∷ l) (prefix_taken xs k m (omega (arith, le)))

taken_twice : (xs : List ℕ) (k m : ℕ) → k ≤ m → take k (take m xs) ≡ take k xs
taken_twice xs zero m le = refl
taken_twice [] (suc k) zero le = absurd (omega (arith, le))
taken_twice [] (suc k) (suc m) le = refl
taken_twice (x ∷ xs) (suc k) zero le = absurd (omega (arith, le))
taken_twice (x ∷ xs) (suc k) (suc m) le = ap (λ l. x ∷ l) (taken_twice xs k m (omega (arith, le)))

keeps_bytes : (s : BufferState) (bs : List ℕ) (us : List LabelFixup) (r : RecordedBranches) → IsPrefix (take (length s.bytes - 12) s.bytes) bs → KeepsTables s (record s { bytes = bs; uses = us; branches = r })
keeps_bytes s bs us r h = record {
  bytes = h;
  labels = refl;
  traps = refl;
  relocs = refl;
  call_sites = refl;
  try_call_sites = refl;
  patchable_sites = refl;
  stack_maps = refl;
  starts = refl;
  block_count = refl;
  constants = refl;
}

prefix_whole : (xs : List ℕ) (k : ℕ) → IsPrefix (take k xs) xs
prefix_whole xs zero = refl
prefix_whole [] (suc k) = refl
prefix_whole (x ∷ xs) (suc k) = ap (λ l. x ∷ l) (prefix_whole xs k)

keeps_same : (s : BufferState) → KeepsTables s s
keeps_same s = keeps_bytes s s.bytes s.uses s.branches (prefix_whole s.bytes (length s.bytes - 12))

keeps_marked : (s : BufferState) → KeepsTables s (poisoned_buffer s)
keeps_marked s = record {
  bytes = prefix_whole s.bytes (length s.bytes - 12);
  labels = refl;
  traps = refl;
  relocs = refl;
  call_sites = refl;
  try_call_sites = refl;
  patchable_sites = refl;
  stack_maps = refl;
  starts = refl;
  block_count = refl;
  constants = refl;
}

pub keeps_mark : (s t : BufferState) → t ≡ poisoned_buffer s → KeepsTables s t
keeps_mark s t e = subst (KeepsTables s) (sym e) (keeps_marked s)

keeps_jump : (p q : Bool) (start l : ℕ) (s : BufferState) → (p ≡ true → start + 6 ≡ length s.bytes) → KeepsTables s (cond (p && q) (cut start l s) s)
keeps_jump true true start l s h =
    let at : start + 6 ≡ length s.bytes = h refl in
    keeps_bytes s (take start s.bytes) (without_use start l s.uses) NoBranch (prefix_taken s.bytes (length s.bytes - 12) start (omega (arith, at)))
keeps_jump true false start l s h = keeps_same s
keeps_jump false q start l s h = keeps_same s

keeps_both : (p q : Bool) (start : ℕ) (taken not_taken : MachLabel) (inverted : List ℕ) (s : BufferState) → start + 12 ≡ length s.bytes →
    KeepsTables s (cond p (cond q (cut start taken.0 (cut (start + 6) not_taken.0 s)) (cut (start + 6) not_taken.0 s)) (cond q (inverted_alone start taken.0 not_taken inverted s) s))
keeps_both true true start taken not_taken inverted s at =
    let few : length s.bytes - 12 ≤ start = omega (arith, at) in
    let once : take start (take (start + 6) s.bytes) ≡ take start s.bytes = taken_twice s.bytes start (start + 6) (omega arith) in
    keeps_bytes s (take start (take (start + 6) s.bytes)) (without_use start taken.0 (without_use (start + 6) not_taken.0 s.uses)) NoBranch
    (subst (IsPrefix (take (length s.bytes - 12) s.bytes)) (sym once) (prefix_taken s.bytes (length s.bytes - 12) start few))
keeps_both true false start taken not_taken inverted s at =
    keeps_bytes s (take (start + 6) s.bytes) (without_use (start + 6) not_taken.0 s.uses) NoBranch (prefix_taken s.bytes (length s.bytes - 12) (start + 6) (omega (arith, at)))
keeps_both false true start taken not_taken inverted s at =
    let few : length s.bytes - 12 ≡ start = omega (arith, at) in
    keeps_bytes s (take start s.bytes ++ inverted) (without_use start taken.0 (without_use (start + 6) not_taken.0 s.uses) ++ record { kind = BranchRIL; offset = start; label = not_taken } ∷ []) NoBranch
    (subst (λ n. IsPrefix (take n s.bytes) (take start s.bytes ++ inverted)) (sym few) (prefix_more (take start s.bytes) inverted))
keeps_both false false start taken not_taken inverted s at = keeps_same s

keeps_at : (b : Bool) (s t : BufferState) → (b ≡ true → KeepsTables s t) → KeepsTables s (cond b t s)
keeps_at true s t h = h refl
keeps_at false s t h = keeps_same s

keeps_by : (bs : RecordedBranches) (next : ℕ) (s : BufferState) → KeepsTables s (ended_by bs next s)
keeps_by NoBranch next s = keeps_same s
keeps_by (LoneJump start target) next s = keeps_jump (nat_eq (start + 6) (length s.bytes)) (nat_eq target.0 next) start target.0 s (λ e. eqb-true (start + 6) (length s.bytes) e)
keeps_by (LoneConditional start target inverted) next s = keeps_same s
keeps_by (ConditionalThenJump start taken not_taken inverted) next s =
    keeps_at (nat_eq (start + 12) (length s.bytes)) s (both_ended next start taken not_taken inverted s)
    (λ e. keeps_both (nat_eq not_taken.0 next) (nat_eq taken.0 next) start taken not_taken inverted s (eqb-true (start + 12) (length s.bytes) e))
keeps_by (OtherBranches stop) next s = keeps_same s

keeps_end : (next : Option MachLabel) (s : BufferState) → KeepsTables s (at_block_end next s)
keeps_end None s = keeps_same s
keeps_end (Some next) s = keeps_by s.branches next.0 s

pub keeps_ended : (next : Option MachLabel) (s t : BufferState) → t ≡ at_block_end next s → KeepsTables s t
keeps_ended next s t e = subst (KeepsTables s) (sym e) (keeps_end next s)

-- without the last one, those before it are left
last_removed : (us : List LabelFixup) (i : ℕ) → i + 1 ≡ length us → take i us ≡ remove us i
last_removed [] i e = absurd (omega (arith, e))
last_removed (u ∷ []) zero e = refl
last_removed (u ∷ (v ∷ us)) zero e = absurd (omega (arith, e))
last_removed (u ∷ us) (suc i) e = ap (λ l. u ∷ l) (last_removed us i (omega (arith, e)))

-- the last of all, where it is the branch's
pub last_dropped : (start l : ℕ) (us : List LabelFixup) (i : ℕ) (z : LabelFixup) → i + 1 ≡ length us → is_branch_use start l (get_or us i z) ≡ true → take i us ≡ without_use start l us
last_dropped start l us i z e own = last_removed us i e ∙ sym (last_found start l us i z (omega (arith, e)) own (none_behind start l us (i + 1) (omega (arith, e))))
