-- That branches lead to their labels.
use Rattle.std.proofs.Common.{◌≡◌, ℕ, suc, ◌+◌, ◌-◌, ◌*◌, ◌/◌, ◌%◌, ◌<◌, ◌≤◌, ◌≢◌, List, [], ◌∷◌, ◌++◌, ◌⊎◌, inl, inr, length, get_or, set, Option}
use Rattle.std.proofs.Common.{Some, None, Bool, true, false, cond, ◌&&◌, nat_eq, nat_le, All, ℤ, pos, negsuc, ◌+ℤ◌, ◌*ℤ◌, refl, sym, ap, ◌∙◌, subst, arith, length-set}
use Rattle.std.specs.Int.{cast_signed, w16, w32}
use Rattle.std.proofs.lemmas.Int.{to_z_pos, ints}
use Rattle.std.proofs.Math.Facts.{to_z-neg}
use Rattle.std.proofs.lemmas.Bool.{and_parts, cases_lt, eqb-true, leb-true}
use Rattle.std.proofs.lemmas.List.{get_or-set_same, get_or-set_other}
use Rattle.std.proofs.lemmas.List.Elements.{All-tail}
use Rattle.s390x_buffer.specs.State.{BufferState}
use Rattle.s390x_buffer.specs.Patch.{set2, set4, halfword_from, word_from, half_between, patch, patch_use, patch_all, patch_size, offset_of_label, is_bound, is_in_reach, sum_fits, can_patch, use_cause, uses_cause, first_use_cause, max_pos_range, max_neg_range}
use Rattle.s390x_buffer.specs.Finish.{final_labels, unpatched_bytes, finish_cause, length_cause, patch_cause}
use Rattle.s390x_buffer.specs.Branches.{field_start, field_end, IsApart, BranchLeadsTo, BranchesLead}
use Rattle.s390x_base.specs.declared.error.EmitError.{EmitError}
use Rattle.s390x_base.specs.declared.error.EmitError.TheVariants.{LabelOutOfRange, UnboundLabel}
use Rattle.s390x_buffer.specs.declared.entries.LabelFixup.{LabelFixup}
use Rattle.s390x_buffer.specs.declared.label_use.LabelUse.{LabelUse}
use Rattle.s390x_buffer.specs.declared.label_use.LabelUse.TheVariants.{BranchRI, BranchRIL, PCRel32, PCRel32Dbl}

pub length-set2 : (bs : List ℕ) (o v : ℕ) → length (set2 bs o v) ≡ length bs
length-set2 bs o v = simp (length-set)

pub length-set4 : (bs : List ℕ) (o v : ℕ) → length (set4 bs o v) ≡ length bs
length-set4 bs o v = simp (length-set)

pub length-patch : (k : LabelUse) (at offset target : ℕ) (bs : List ℕ) → length (patch k at offset target bs) ≡ length bs
length-patch BranchRI at offset target bs = length-set2 bs _ _
length-patch BranchRIL at offset target bs = length-set4 bs _ _
length-patch PCRel32 at offset target bs = length-set4 bs _ _
length-patch PCRel32Dbl at offset target bs = length-set4 bs _ _

pub length-patch_all : (off : ℕ → ℕ) (us : List LabelFixup) (bs : List ℕ) → length (patch_all off us bs) ≡ length bs
length-patch_all off [] bs = refl
length-patch_all off (u ∷ us) bs = length-patch_all off us (patch_use off u bs) ∙ length-patch u.kind u.offset u.offset (off u.label.0) bs

-- what is written is read back
halfword-set2 : (bs : List ℕ) (o v : ℕ) → o + 1 < length bs → halfword_from (set2 bs o v) o ≡ v % 65536
halfword-set2 bs o v h =
    let b1 = set bs o (v / 256 % 256) in
    let l1 = length-set bs o (v / 256 % 256) in
    let e1 : get_or (set2 bs o v) (o + 1) 0 ≡ v % 256 = get_or-set_same b1 (o + 1) (v % 256) 0 (omega (arith, l1)) in
    let ne : o ≢ o + 1 = λ e. omega arith in
    let e0 : get_or (set2 bs o v) o 0 ≡ v / 256 % 256 = get_or-set_other b1 (o + 1) o (v % 256) 0 ne ∙ get_or-set_same bs o (v / 256 % 256) 0 (omega arith) in
    ap (λ x. x * 256 + get_or (set2 bs o v) (o + 1) 0) e0 ∙ ap (λ y. v / 256 % 256 * 256 + y) e1 ∙ (omega arith)

pub word-set4 : (bs : List ℕ) (o v : ℕ) → o + 3 < length bs → word_from (set4 bs o v) o ≡ v % 4294967296
word-set4 bs o v h =
    let x0 = v / 16777216 % 256 in
    let x1 = v / 65536 % 256 in
    let x2 = v / 256 % 256 in
    let x3 = v % 256 in
    let b0 = set bs o x0 in
    let b1 = set b0 (o + 1) x1 in
    let b2 = set b1 (o + 2) x2 in
    let l0 : length b0 ≡ length bs = length-set bs o x0 in
    let l1 : length b1 ≡ length bs = length-set b0 (o + 1) x1 ∙ l0 in
    let l2 : length b2 ≡ length bs = length-set b1 (o + 2) x2 ∙ l1 in
    let n01 : o ≢ o + 1 = λ e. omega arith in
    let n02 : o ≢ o + 2 = λ e. omega arith in
    let n03 : o ≢ o + 3 = λ e. omega arith in
    let n12 : o + 1 ≢ o + 2 = λ e. omega arith in
    let n13 : o + 1 ≢ o + 3 = λ e. omega arith in
    let n23 : o + 2 ≢ o + 3 = λ e. omega arith in
    let e3 : get_or (set4 bs o v) (o + 3) 0 ≡ x3 = get_or-set_same b2 (o + 3) x3 0 (omega (arith, l2)) in
    let e2 : get_or (set4 bs o v) (o + 2) 0 ≡ x2 = get_or-set_other b2 (o + 3) (o + 2) x3 0 n23 ∙ get_or-set_same b1 (o + 2) x2 0 (omega (arith, l1)) in
    let e1 : get_or (set4 bs o v) (o + 1) 0 ≡ x1 = get_or-set_other b2 (o + 3) (o + 1) x3 0 n13 ∙ get_or-set_other b1 (o + 2) (o + 1) x2 0 n12 ∙ get_or-set_same b0 (o + 1) x1 0 (omega (arith, l0)) in
    let e0 : get_or (set4 bs o v) o 0 ≡ x0 = get_or-set_other b2 (o + 3) o x3 0 n03 ∙ get_or-set_other b1 (o + 2) o x2 0 n02 ∙ get_or-set_other b0 (o + 1) o x1 0 n01 ∙ get_or-set_same bs o x0 0 (omega arith) in
    let digits : x0 * 16777216 + x1 * 65536 + x2 * 256 + x3 ≡ v % 4294967296 = omega arith in
    let joined : word_from (set4 bs o v) o ≡ x0 * 16777216 + x1 * 65536 + x2 * 256 + x3 = cc in
    joined ∙ digits

set2_other : (bs : List ℕ) (o v i : ℕ) → (i < o) ⊎ (o + 2 ≤ i) → get_or (set2 bs o v) i 0 ≡ get_or bs i 0
set2_other bs o v i h =
    let n0 : i ≢ o = λ e. elim h [ inl a ↦ omega arith | inr a ↦ omega arith ] in
    let n1 : i ≢ o + 1 = λ e. elim h [ inl a ↦ omega arith | inr a ↦ omega arith ] in
    get_or-set_other _ (o + 1) i _ 0 n1 ∙ get_or-set_other bs o i _ 0 n0

set4_other : (bs : List ℕ) (o v i : ℕ) → (i < o) ⊎ (o + 4 ≤ i) → get_or (set4 bs o v) i 0 ≡ get_or bs i 0
set4_other bs o v i h =
    let n0 : i ≢ o = λ e. elim h [ inl a ↦ omega arith | inr a ↦ omega arith ] in
    let n1 : i ≢ o + 1 = λ e. elim h [ inl a ↦ omega arith | inr a ↦ omega arith ] in
    let n2 : i ≢ o + 2 = λ e. elim h [ inl a ↦ omega arith | inr a ↦ omega arith ] in
    let n3 : i ≢ o + 3 = λ e. elim h [ inl a ↦ omega arith | inr a ↦ omega arith ] in
    get_or-set_other _ (o + 3) i _ 0 n3 ∙ get_or-set_other _ (o + 2) i _ 0 n2 ∙ get_or-set_other _ (o + 1) i _ 0 n1 ∙ get_or-set_other bs o i _ 0 n0

pub patch_other : (k : LabelUse) (at offset target : ℕ) (bs : List ℕ) (i : ℕ) → (i < field_start k at) ⊎ (field_end k at ≤ i) → get_or (patch k at offset target bs) i 0 ≡ get_or bs i 0
patch_other BranchRI at offset target bs i h = set2_other bs (at + 2) _ i (elim h [ inl a ↦ inl a | inr a ↦ inr (omega arith) ])
patch_other BranchRIL at offset target bs i h = set4_other bs (at + 2) _ i (elim h [ inl a ↦ inl a | inr a ↦ inr (omega arith) ])
patch_other PCRel32 at offset target bs i h = set4_other bs at _ i h
patch_other PCRel32Dbl at offset target bs i h = set4_other bs at _ i h

head_of : (u v : LabelFixup) (us : List LabelFixup) → All (IsApart u) (v ∷ us) → IsApart u v
head_of u v us a = a 0 v (omega arith)

-- later uses that are apart from one leave its field
pub all_other : (off : ℕ → ℕ) (u : LabelFixup) (us : List LabelFixup) (bs : List ℕ) (i : ℕ) → All (IsApart u) us → field_start u.kind u.offset ≤ i → i < field_end u.kind u.offset → get_or (patch_all off us bs) i 0 ≡ get_or bs i 0
all_other off u [] bs i a lo hi = refl
all_other off u (v ∷ us) bs i a lo hi =
    let out : (i < field_start v.kind v.offset) ⊎ (field_end v.kind v.offset ≤ i) = elim (head_of u v us a) [ inl x ↦ inl (omega arith) | inr x ↦ inr (omega arith) ] in
    all_other off u us (patch_use off v bs) i (All-tail (IsApart u) v us a) lo hi ∙ patch_other v.kind v.offset v.offset (off v.label.0) bs i out

-- half the distance as a signed number
ril_above : (offset target m : ℕ) → offset + 2 * m ≡ target → m < 2147483648 → (pos offset +ℤ (pos 2 *ℤ cast_signed w32 (half_between offset target))) ≡ pos target
ril_above offset target m e h =
    let f : half_between offset target ≡ m = omega arith in
    let z : cast_signed w32 (half_between offset target) ≡ pos m = ap (cast_signed w32) f ∙ to_z_pos w32 m h in
    ap (λ x. pos offset +ℤ (pos 2 *ℤ x)) z ∙ (omega (arith, ints))

ril_below : (offset target k : ℕ) → target + 2 * (k + 1) ≡ offset → k < 2147483648 → (pos offset +ℤ (pos 2 *ℤ cast_signed w32 (half_between offset target))) ≡ pos target
ril_below offset target k e h =
    let f : half_between offset target ≡ 4294967296 - suc k = omega arith in
    let z : cast_signed w32 (half_between offset target) ≡ negsuc k = ap (cast_signed w32) f ∙ to_z-neg w32 k h in
    ap (λ x. pos offset +ℤ (pos 2 *ℤ x)) z ∙ (omega (arith, ints))

ri_above : (offset target m : ℕ) → offset + 2 * m ≡ target → m < 32768 → (pos offset +ℤ (pos 2 *ℤ cast_signed w16 (half_between offset target % 65536))) ≡ pos target
ri_above offset target m e h =
    let f : half_between offset target % 65536 ≡ m = omega arith in
    let z : cast_signed w16 (half_between offset target % 65536) ≡ pos m = ap (cast_signed w16) f ∙ to_z_pos w16 m h in
    ap (λ x. pos offset +ℤ (pos 2 *ℤ x)) z ∙ (omega (arith, ints))

ri_below : (offset target k : ℕ) → target + 2 * (k + 1) ≡ offset → k < 32768 → (pos offset +ℤ (pos 2 *ℤ cast_signed w16 (half_between offset target % 65536))) ≡ pos target
ri_below offset target k e h =
    let f : half_between offset target % 65536 ≡ 65536 - suc k = omega arith in
    let z : cast_signed w16 (half_between offset target % 65536) ≡ negsuc k = ap (cast_signed w16) f ∙ to_z-neg w16 k h in
    ap (λ x. pos offset +ℤ (pos 2 *ℤ x)) z ∙ (omega (arith, ints))

ril_back : (offset target : ℕ) → (offset + target) % 2 ≡ 0 → target ≤ offset + 4294967294 → offset ≤ target + 4294967295 → (pos offset +ℤ (pos 2 *ℤ cast_signed w32 (half_between offset target))) ≡ pos target
ril_back offset target even up down =
    elim (cases_lt target offset) [ inl lt ↦ ril_below offset target ((offset - target) / 2 - 1) (omega arith) (omega arith) | inr ge ↦ ril_above offset target ((target - offset) / 2) (omega arith) (omega arith) ]

ri_back : (offset target : ℕ) → (offset + target) % 2 ≡ 0 → target ≤ offset + 65534 → offset ≤ target + 65536 → (pos offset +ℤ (pos 2 *ℤ cast_signed w16 (half_between offset target % 65536))) ≡ pos target
ri_back offset target even up down =
    elim (cases_lt target offset) [ inl lt ↦ ri_below offset target ((offset - target) / 2 - 1) (omega arith) (omega arith) | inr ge ↦ ri_above offset target ((target - offset) / 2) (omega arith) (omega arith) ]

-- what a passed use says
pub reach_parts : (k : LabelUse) (offset target : ℕ) (bs : List ℕ) → can_patch k offset target bs ≡ true → ((offset + target) % 2 ≡ 0) × (target ≤ offset + max_pos_range k) × (offset ≤ target + max_neg_range k) × (offset + patch_size k ≤ length bs)
reach_parts k offset target bs h =
    let a = and_parts (is_in_reach k offset target) (sum_fits k (word_from bs offset) offset target && nat_le (offset + patch_size k) (length bs)) h in
    let b = and_parts (nat_eq ((offset + target) % 2) 0) (nat_le target (offset + max_pos_range k) && nat_le offset (target + max_neg_range k)) a.0 in
    let d = and_parts (nat_le target (offset + max_pos_range k)) (nat_le offset (target + max_neg_range k)) b.1 in
    let e = and_parts (sum_fits k (word_from bs offset) offset target) (nat_le (offset + patch_size k) (length bs)) a.1 in
    (eqb-true _ _ b.0, leb-true _ _ d.0, leb-true _ _ d.1, leb-true _ _ e.1)

-- a use patched alone leads to its target, and so do bytes that agree on its field
patched_leads : (k : LabelUse) (o target : ℕ) (bs cs : List ℕ) → can_patch k o target bs ≡ true → ((i : ℕ) → field_start k o ≤ i → i < field_end k o → get_or cs i 0 ≡ get_or (patch k o o target bs) i 0) → BranchLeadsTo k o target cs
patched_leads BranchRI o target bs cs h same =
    let r = reach_parts BranchRI o target bs h in
    let e0 = same (o + 2) (omega arith) (omega arith) in
    let e1 = same (o + 2 + 1) (omega arith) (omega arith) in
    let e : halfword_from cs (o + 2) ≡ halfword_from (set2 bs (o + 2) (half_between o target)) (o + 2) = cc in
    let f : halfword_from cs (o + 2) ≡ half_between o target % 65536 = e ∙ halfword-set2 bs (o + 2) (half_between o target) (omega (arith, r.3)) in
    ap (λ x. pos o +ℤ (pos 2 *ℤ cast_signed w16 x)) f ∙ ri_back o target r.0 r.1 r.2
patched_leads BranchRIL o target bs cs h same =
    let r = reach_parts BranchRIL o target bs h in
    let e0 = same (o + 2) (omega arith) (omega arith) in
    let e1 = same (o + 2 + 1) (omega arith) (omega arith) in
    let e2 = same (o + 2 + 2) (omega arith) (omega arith) in
    let e3 = same (o + 2 + 3) (omega arith) (omega arith) in
    let e : word_from cs (o + 2) ≡ word_from (set4 bs (o + 2) (half_between o target)) (o + 2) = cc in
    let f : word_from cs (o + 2) ≡ half_between o target % 4294967296 = e ∙ word-set4 bs (o + 2) (half_between o target) (omega (arith, r.3)) in
    let g : half_between o target % 4294967296 ≡ half_between o target = omega arith in
    ap (λ x. pos o +ℤ (pos 2 *ℤ cast_signed w32 x)) (f ∙ g) ∙ ril_back o target r.0 r.1 r.2
patched_leads PCRel32 o target bs cs h same = tt
patched_leads PCRel32Dbl o target bs cs h same = tt

pub first-none : (a b : Option EmitError) → first_use_cause a b ≡ None → (a ≡ None) × (b ≡ None)
first-none None b h = (refl, h)
first-none (Some e) b h = absurd (cc)

none_parts : (a b : Bool) → cond a (cond b None (Some LabelOutOfRange)) (Some UnboundLabel) ≡ None → b ≡ true
none_parts false b h = absurd (cc)
none_parts true true h = refl
none_parts true false h = absurd (cc)

pub use_cause-none : (labels : List (Option ℕ)) (bs : List ℕ) (u : LabelFixup) → use_cause labels bs u ≡ None → can_patch u.kind u.offset (offset_of_label labels u.label.0) bs ≡ true
use_cause-none labels bs u h = none_parts (is_bound labels u.label.0) (can_patch u.kind u.offset (offset_of_label labels u.label.0) bs) h

-- a use in the middle
middle : (labels : List (Option ℕ)) (before after : List LabelFixup) (u : LabelFixup) (bs : List ℕ) → uses_cause labels (before ++ u ∷ after) bs ≡ None → All (IsApart u) after → BranchLeadsTo u.kind u.offset (offset_of_label labels u.label.0) (patch_all (offset_of_label labels) (before ++ u ∷ after) bs)
middle labels [] after u bs h a =
    let here = first-none _ _ h in
    let target = offset_of_label labels u.label.0 in
    patched_leads u.kind u.offset target bs _ (use_cause-none labels bs u here.0) (λ i lo hi. all_other (offset_of_label labels) u after (patch_use (offset_of_label labels) u bs) i a lo hi)
middle labels (v ∷ before) after u bs h a =
    let here = first-none _ _ h in
    middle labels before after u (patch_use (offset_of_label labels) v bs) here.1 a

pub branches_lead : (s : BufferState) (bs : List ℕ) → finish_cause s ≡ None → bs ≡ patch_all (offset_of_label (final_labels s)) s.uses (unpatched_bytes s) → BranchesLead s bs
branches_lead s bs h e before after u split a =
    let fine : uses_cause (final_labels s) (before ++ u ∷ after) (unpatched_bytes s) ≡ None = ap (λ us. uses_cause (final_labels s) us (unpatched_bytes s)) (sym split) ∙ (first-none (length_cause s) (patch_cause s) h).1 in
    let same : patch_all (offset_of_label (final_labels s)) (before ++ u ∷ after) (unpatched_bytes s) ≡ bs = ap (λ us. patch_all (offset_of_label (final_labels s)) us (unpatched_bytes s)) (sym split) ∙ sym e in
    subst (BranchLeadsTo u.kind u.offset (offset_of_label (final_labels s) u.label.0)) same (middle (final_labels s) before after u (unpatched_bytes s) fine a)
