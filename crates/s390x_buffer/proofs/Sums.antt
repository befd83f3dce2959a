-- That patched words are sums, and that other bytes stay.
use Rattle.std.proofs.Common.{◌≡◌, ℕ, ◌+◌, ◌%◌, ◌<◌, ◌≤◌, List, [], ◌∷◌, ◌++◌, inl, inr, length, get_or, Option, None, true, All, refl, sym, ap, ◌∙◌, subst, arith}
use Rattle.std.proofs.lemmas.List.Elements.{All-tail}
use Rattle.s390x_buffer.specs.State.{BufferState}
use Rattle.s390x_buffer.specs.Patch.{set4, word_from, half_between, distance_between, patch, patch_use, patch_all, offset_of_label, can_patch, uses_cause}
use Rattle.s390x_buffer.specs.Finish.{final_labels, unpatched_bytes, finish_cause, length_cause, patch_cause, Finished}
use Rattle.s390x_buffer.specs.Branches.{field_start, field_end, IsApart}
use Rattle.s390x_buffer.specs.Sums.{IsSum, SumsStand, Leaves, OthersStand}
use Rattle.s390x_buffer.proofs.Branching.{length-patch_all, word-set4, reach_parts, patch_other, all_other, first-none, use_cause-none}
use Rattle.s390x_buffer.specs.declared.entries.LabelFixup.{LabelFixup}
use Rattle.s390x_buffer.specs.declared.entries.MachBufferFinalized.{MachBufferFinalized}
use Rattle.s390x_buffer.specs.declared.label_use.LabelUse.{LabelUse}
use Rattle.s390x_buffer.specs.declared.label_use.LabelUse.TheVariants.{BranchRI, BranchRIL, PCRel32, PCRel32Dbl}

-- two lists agree on the field of a use
abbrev SameField : LabelUse → ℕ → List ℕ → List ℕ → Type 0
SameField k o bs cs = (i : ℕ) → field_start k o ≤ i → i < field_end k o → get_or bs i 0 ≡ get_or cs i 0

pub same_word : (o : ℕ) (bs cs : List ℕ) → ((i : ℕ) → o ≤ i → i < o + 4 → get_or bs i 0 ≡ get_or cs i 0) → word_from bs o ≡ word_from cs o
same_word o bs cs same =
    let e0 = same o (omega arith) (omega arith) in
    let e1 = same (o + 1) (omega arith) (omega arith) in
    let e2 = same (o + 2) (omega arith) (omega arith) in
    let e3 = same (o + 3) (omega arith) (omega arith) in
    cc

-- a use patched alone gives the sum, and so do bytes that agree on its field
patched_is_sum : (k : LabelUse) (o target : ℕ) (bs cs : List ℕ) → can_patch k o target bs ≡ true → SameField k o cs (patch k o o target bs) → IsSum k o target bs cs
patched_is_sum BranchRI o target bs cs h same = tt
patched_is_sum BranchRIL o target bs cs h same = tt
patched_is_sum PCRel32 o target bs cs h same =
    let r = reach_parts PCRel32 o target bs h in
    let v = (word_from bs o + distance_between o target) % 4294967296 in
    let d : v % 4294967296 ≡ v = omega arith in
    same_word o cs (set4 bs o v) same ∙ word-set4 bs o v (omega (arith, r.3)) ∙ d
patched_is_sum PCRel32Dbl o target bs cs h same =
    let r = reach_parts PCRel32Dbl o target bs h in
    let v = (word_from bs o + half_between o target + 1) % 4294967296 in
    let d : v % 4294967296 ≡ v = omega arith in
    same_word o cs (set4 bs o v) same ∙ word-set4 bs o v (omega (arith, r.3)) ∙ d

-- what is added to does not matter outside the field
sum_of_same : (k : LabelUse) (o target : ℕ) (bs cs new : List ℕ) → SameField k o bs cs → IsSum k o target bs new → IsSum k o target cs new
sum_of_same BranchRI o target bs cs new same h = tt
sum_of_same BranchRIL o target bs cs new same h = tt
sum_of_same PCRel32 o target bs cs new same h = h ∙ ap (λ w. (w + distance_between o target) % 4294967296) (same_word o bs cs same)
sum_of_same PCRel32Dbl o target bs cs new same h = h ∙ ap (λ w. (w + half_between o target + 1) % 4294967296) (same_word o bs cs same)

-- a use that is apart leaves the field
apart_leaves : (u v : LabelFixup) (i : ℕ) → IsApart u v → field_start u.kind u.offset ≤ i → i < field_end u.kind u.offset → Leaves i v
apart_leaves u v i a lo hi = elim a [ inl x ↦ inl (omega arith) | inr x ↦ inr (omega arith) ]

-- a use in the middle
middle : (labels : List (Option ℕ)) (before after : List LabelFixup) (u : LabelFixup) (bs : List ℕ) → uses_cause labels (before ++ u ∷ after) bs ≡ None → All (IsApart u) before → All (IsApart u) after → IsSum u.kind u.offset (offset_of_label labels u.label.0) bs (patch_all (offset_of_label labels) (before ++ u ∷ after) bs)
middle labels [] after u bs h a b =
    let here = first-none _ _ h in
    patched_is_sum u.kind u.offset (offset_of_label labels u.label.0) bs _ (use_cause-none labels bs u here.0) (λ i lo hi. all_other (offset_of_label labels) u after (patch_use (offset_of_label labels) u bs) i b lo hi)
middle labels (v ∷ before) after u bs h a b =
    let here = first-none _ _ h in
    let target = offset_of_label labels u.label.0 in
    let first_apart : IsApart u v = a 0 v (omega arith) in
    let later = middle labels before after u (patch_use (offset_of_label labels) v bs) here.1 (All-tail (IsApart u) v before a) b in
    sum_of_same u.kind u.offset target (patch_use (offset_of_label labels) v bs) bs _ (λ i lo hi. patch_other v.kind v.offset v.offset (offset_of_label labels v.label.0) bs i (apart_leaves u v i first_apart lo hi)) later

pub sums : (s : BufferState) (f : MachBufferFinalized) → finish_cause s ≡ None → Finished s f → SumsStand s f.bytes.items
sums s f h done before after u split a b =
    let labels = final_labels s in
    let fine : uses_cause labels (before ++ u ∷ after) (unpatched_bytes s) ≡ None = ap (λ us. uses_cause labels us (unpatched_bytes s)) (sym split) ∙ (first-none (length_cause s) (patch_cause s) h).1 in
    let same : patch_all (offset_of_label labels) (before ++ u ∷ after) (unpatched_bytes s) ≡ f.bytes.items = ap (λ us. patch_all (offset_of_label labels) us (unpatched_bytes s)) (sym split) ∙ sym done.bytes in
    subst (IsSum u.kind u.offset (offset_of_label labels u.label.0) (unpatched_bytes s)) same (middle labels before after u (unpatched_bytes s) fine a b)

-- uses that all leave a byte
all_leave : (off : ℕ → ℕ) (us : List LabelFixup) (bs : List ℕ) (i : ℕ) → All (Leaves i) us → get_or (patch_all off us bs) i 0 ≡ get_or bs i 0
all_leave off [] bs i a = refl
all_leave off (u ∷ us) bs i a =
    let out : Leaves i u = a 0 u (omega arith) in
    all_leave off us (patch_use off u bs) i (All-tail (Leaves i) u us a) ∙ patch_other u.kind u.offset u.offset (off u.label.0) bs i out

pub others : (s : BufferState) (f : MachBufferFinalized) → Finished s f → OthersStand s f.bytes.items
others s f done = (
  ap (λ bs. length bs) done.bytes ∙ length-patch_all (offset_of_label (final_labels s)) s.uses (unpatched_bytes s),
  λ i a. ap (λ bs. get_or bs i 0) done.bytes ∙ all_leave (offset_of_label (final_labels s)) s.uses (unpatched_bytes s) i a,
)
