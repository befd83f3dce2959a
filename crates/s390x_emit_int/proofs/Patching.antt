-- Patching what was put gives each fragment at its offset.
use Rattle.std.proofs.Common.{◌≡◌, ℕ, ◌+◌, ◌-◌, ◌/◌, ◌%◌, ◌<◌, ◌≤◌, List, [], ◌∷◌, ◌++◌, length, get_or, set, refl, sym, ap, ◌∙◌, subst, arith, length-append, length-set, append_assoc, append-nil, add-zero, get_or-append-add}
use Rattle.std.proofs.lemmas.List.{set-append_left, set-append_right, get_or_append_left}
use Rattle.s390x_buffer.specs.State.{BufferState, constant_label}
use Rattle.s390x_buffer.specs.Patch.{patch, patch_size, set2, set4, word_from, half_between, distance_between, patch_use, patch_all}
use Rattle.s390x_buffer.specs.declared.entries.LabelFixup.{LabelFixup}
use Rattle.s390x_buffer.specs.declared.label_use.LabelUse.{LabelUse}
use Rattle.s390x_buffer.specs.declared.label_use.LabelUse.TheVariants.{BranchRI, BranchRIL, PCRel32Dbl, PCRel32}
use Rattle.s390x_buffer.proofs.Branching.{length-patch, length-patch_all}
use Rattle.s390x_emit_int.specs.Fragments.{Fragment, apply, apply_all, Put, PutTrapping, PutReloc, Link, LinkConstant, StartStep, Draw, Bind, AddSite, RecordBranch}
use Rattle.s390x_emit_int.specs.Resolve.{resolve, Wide, UsesWithin}

set4_left : (bs x : List ℕ) (o v : ℕ) → o + 4 ≤ length bs → set4 (bs ++ x) o v ≡ set4 bs o v ++ x
set4_left bs x o v h =
    let h0 : o < length bs = omega arith in
    let b1 = set bs o (v / 16777216 % 256) in
    let h1 : o + 1 < length b1 = omega (arith, length-set bs o (v / 16777216 % 256)) in
    let b2 = set b1 (o + 1) (v / 65536 % 256) in
    let h2 : o + 2 < length b2 = omega (arith, length-set b1 (o + 1) (v / 65536 % 256), length-set bs o (v / 16777216 % 256)) in
    let b3 = set b2 (o + 2) (v / 256 % 256) in
    let h3 : o + 3 < length b3 = omega (arith, length-set b2 (o + 2) (v / 256 % 256), length-set b1 (o + 1) (v / 65536 % 256), length-set bs o (v / 16777216 % 256)) in
    ap (λ l. set (set (set l (o + 1) (v / 65536 % 256)) (o + 2) (v / 256 % 256)) (o + 3) (v % 256)) (set-append_left bs x o _ h0)
    ∙ ap (λ l. set (set l (o + 2) (v / 256 % 256)) (o + 3) (v % 256)) (set-append_left b1 x (o + 1) _ h1)
    ∙ ap (λ l. set l (o + 3) (v % 256)) (set-append_left b2 x (o + 2) _ h2)
    ∙ set-append_left b3 x (o + 3) _ h3

set_right : (r bs : List ℕ) (i j y : ℕ) → length r + j ≡ i → set (r ++ bs) i y ≡ r ++ set bs j y
set_right r bs i j y e =
    let le : length r ≤ i = omega arith in
    let d : i - length r ≡ j = omega arith in
    set-append_right r bs (length r) i y refl le ∙ ap (λ k. r ++ set bs k y) d

set4_right : (r bs : List ℕ) (o v : ℕ) → set4 (r ++ bs) (length r + o) v ≡ r ++ set4 bs o v
set4_right r bs o v =
    ap (λ l. set (set (set l (length r + o + 1) (v / 65536 % 256)) (length r + o + 2) (v / 256 % 256)) (length r + o + 3) (v % 256)) (set_right r bs (length r + o) o _ refl)
    ∙ ap (λ l. set (set l (length r + o + 2) (v / 256 % 256)) (length r + o + 3) (v % 256)) (set_right r _ (length r + o + 1) (o + 1) _ (omega arith))
    ∙ ap (λ l. set l (length r + o + 3) (v % 256)) (set_right r _ (length r + o + 2) (o + 2) _ (omega arith))
    ∙ set_right r _ (length r + o + 3) (o + 3) _ (omega arith)

set2_left : (bs x : List ℕ) (o v : ℕ) → o + 2 ≤ length bs → set2 (bs ++ x) o v ≡ set2 bs o v ++ x
set2_left bs x o v h =
    let h0 : o < length bs = omega arith in
    let b1 = set bs o (v / 256 % 256) in
    let h1 : o + 1 < length b1 = omega (arith, length-set bs o (v / 256 % 256)) in
    ap (λ l. set l (o + 1) (v % 256)) (set-append_left bs x o _ h0) ∙ set-append_left b1 x (o + 1) _ h1

set2_right : (r bs : List ℕ) (o v : ℕ) → set2 (r ++ bs) (length r + o) v ≡ r ++ set2 bs o v
set2_right r bs o v =
    ap (λ l. set l (length r + o + 1) (v % 256)) (set_right r bs (length r + o) o _ refl) ∙ set_right r _ (length r + o + 1) (o + 1) _ (omega arith)

word_left : (bs x : List ℕ) (o : ℕ) → o + 4 ≤ length bs → word_from (bs ++ x) o ≡ word_from bs o
word_left bs x o h =
    let e0 = get_or_append_left bs x 0 o (omega arith) in
    let e1 = get_or_append_left bs x 0 (o + 1) (omega arith) in
    let e2 = get_or_append_left bs x 0 (o + 2) (omega arith) in
    let e3 = get_or_append_left bs x 0 (o + 3) (omega arith) in
    cc

pub word_right : (r bs : List ℕ) → word_from (r ++ bs) (length r) ≡ word_from bs 0
word_right r bs =
    let e0 : get_or (r ++ bs) (length r) 0 ≡ get_or bs 0 0 = ap (λ k. get_or (r ++ bs) k 0) (sym (add-zero (length r))) ∙ get_or-append-add r bs 0 0 in
    let e1 = get_or-append-add r bs 1 0 in
    let e2 = get_or-append-add r bs 2 0 in
    let e3 = get_or-append-add r bs 3 0 in
    cc

patch_left : (k : LabelUse) (at place target : ℕ) (bs x : List ℕ) → at + patch_size k ≤ length bs → patch k at place target (bs ++ x) ≡ patch k at place target bs ++ x
patch_left BranchRI at place target bs x h = set2_left bs x (at + 2) _ (omega arith)
patch_left BranchRIL at place target bs x h = set4_left bs x (at + 2) _ (omega arith)
patch_left PCRel32Dbl at place target bs x h = ap (λ w. set4 (bs ++ x) at ((w + half_between place target + 1) % 4294967296)) (word_left bs x at h) ∙ set4_left bs x at _ h
patch_left PCRel32 at place target bs x h = ap (λ w. set4 (bs ++ x) at ((w + distance_between place target) % 4294967296)) (word_left bs x at h) ∙ set4_left bs x at _ h

patch_right : (k : LabelUse) (place target : ℕ) (r bs : List ℕ) → patch k (length r) place target (r ++ bs) ≡ r ++ patch k 0 place target bs
patch_right BranchRI place target r bs = set2_right r bs 2 _
patch_right BranchRIL place target r bs = set4_right r bs 2 _
patch_right PCRel32Dbl place target r bs =
    let z : length r ≡ length r + 0 = omega arith in
    ap (λ w. set4 (r ++ bs) (length r) ((w + half_between place target + 1) % 4294967296)) (word_right r bs) ∙ ap (λ o. set4 (r ++ bs) o ((word_from bs 0 + half_between place target + 1) % 4294967296)) z ∙ set4_right r bs 0 _
patch_right PCRel32 place target r bs =
    let z : length r ≡ length r + 0 = omega arith in
    ap (λ w. set4 (r ++ bs) (length r) ((w + distance_between place target) % 4294967296)) (word_right r bs) ∙ ap (λ o. set4 (r ++ bs) o ((word_from bs 0 + distance_between place target) % 4294967296)) z ∙ set4_right r bs 0 _

pub all_left : (off : ℕ → ℕ) (us : List LabelFixup) (bs x : List ℕ) → UsesWithin (length bs) us → patch_all off us (bs ++ x) ≡ patch_all off us bs ++ x
all_left off [] bs x w = refl
all_left off (u ∷ us) bs x w =
    ap (λ l. patch_all off us l) (patch_left u.kind u.offset u.offset (off u.label.0) bs x w.0)
    ∙ all_left off us (patch_use off u bs) x (subst (λ n. UsesWithin n us) (sym (length-patch u.kind u.offset u.offset (off u.label.0) bs)) w.1)

all_more : (off : ℕ → ℕ) (us : List LabelFixup) (u : LabelFixup) (bs : List ℕ) → patch_all off (us ++ u ∷ []) bs ≡ patch_use off u (patch_all off us bs)
all_more off [] u bs = refl
all_more off (v ∷ us) u bs = all_more off us u (patch_use off v bs)

pub within_more : (n m : ℕ) (us : List LabelFixup) → n ≤ m → UsesWithin n us → UsesWithin m us
within_more n m [] h w = tt
within_more n m (u ∷ us) h w = (omega (arith, w.0), within_more n m us h w.1)

pub within_append : (n : ℕ) (us : List LabelFixup) (u : LabelFixup) → UsesWithin n us → u.offset + patch_size u.kind ≤ n → UsesWithin n (us ++ u ∷ [])
within_append n [] u w h = (h, tt)
within_append n (v ∷ us) u w h = (w.0, within_append n us u w.1 h)

-- the bytes of a state, patched
abbrev pub patched : (ℕ → ℕ) → BufferState → List ℕ
patched off s = patch_all off s.uses s.bytes

pub patched_run : (ps : List Fragment) (s : BufferState) (off : ℕ → ℕ) → UsesWithin (length s.bytes) s.uses → Wide ps → patched off (apply_all s ps) ≡ patched off s ++ resolve s.block_count off (length s.bytes) ps
patched_run [] s off w h = sym (append-nil (patched off s))
patched_run (Put bs ∷ ps) s off w h =
    let s1 = apply s (Put bs) in
    let n = length-append s.bytes bs in
    let w1 = within_more (length s.bytes) (length s1.bytes) s.uses (omega (arith, n)) w in
    patched_run ps s1 off w1 h
    ∙ ap (λ l. l ++ resolve s.block_count off (length s1.bytes) ps) (all_left off s.uses s.bytes bs w)
    ∙ append_assoc (patched off s) bs (resolve s.block_count off (length s1.bytes) ps)
    ∙ ap (λ m. patched off s ++ (bs ++ resolve s.block_count off m ps)) n
patched_run (PutReloc bs byte kind name addend ∷ ps) s off w h =
    let s1 = apply s (PutReloc bs byte kind name addend) in
    let n = length-append s.bytes bs in
    let w1 = within_more (length s.bytes) (length s1.bytes) s.uses (omega (arith, n)) w in
    patched_run ps s1 off w1 h
    ∙ ap (λ l. l ++ resolve s.block_count off (length s1.bytes) ps) (all_left off s.uses s.bytes bs w)
    ∙ append_assoc (patched off s) bs (resolve s.block_count off (length s1.bytes) ps)
    ∙ ap (λ m. patched off s ++ (bs ++ resolve s.block_count off m ps)) n
patched_run (PutTrapping bs byte code ∷ ps) s off w h =
    let s1 = apply s (PutTrapping bs byte code) in
    let n = length-append s.bytes bs in
    let w1 = within_more (length s.bytes) (length s1.bytes) s.uses (omega (arith, n)) w in
    patched_run ps s1 off w1 h
    ∙ ap (λ l. l ++ resolve s.block_count off (length s1.bytes) ps) (all_left off s.uses s.bytes bs w)
    ∙ append_assoc (patched off s) bs (resolve s.block_count off (length s1.bytes) ps)
    ∙ ap (λ m. patched off s ++ (bs ++ resolve s.block_count off m ps)) n
patched_run (Link k l bs ∷ ps) s off w h =
    let s1 = apply s (Link k l bs) in
    let n = length-append s.bytes bs in
    let p = length s.bytes in
    let u : LabelFixup = record { kind = k; offset = p; label = record { 0 = l } } in
    let w1 = within_append (length s1.bytes) s.uses u (within_more p (length s1.bytes) s.uses (omega (arith, n)) w) (omega (arith, n, h.0)) in
    let here : patched off s1 ≡ patched off s ++ patch k 0 p (off l) bs =
    all_more off s.uses u (s.bytes ++ bs)
    ∙ ap (λ x. patch_use off u x) (all_left off s.uses s.bytes bs w)
    ∙ ap (λ m. patch k m p (off l) (patched off s ++ bs)) (sym (length-patch_all off s.uses s.bytes))
    ∙ patch_right k p (off l) (patched off s) bs in
    patched_run ps s1 off w1 h.1
    ∙ ap (λ x. x ++ resolve s.block_count off (length s1.bytes) ps) here
    ∙ append_assoc (patched off s) (patch k 0 p (off l) bs) (resolve s.block_count off (length s1.bytes) ps)
    ∙ ap (λ m. patched off s ++ (patch k 0 p (off l) bs ++ resolve s.block_count off m ps)) n
patched_run (LinkConstant c bs ∷ ps) s off w h =
    let s1 = apply s (LinkConstant c bs) in
    let n = length-append s.bytes bs in
    let p = length s.bytes in
    let u : LabelFixup = record { kind = BranchRIL; offset = p; label = record { 0 = constant_label s c } } in
    let w1 = within_append (length s1.bytes) s.uses u (within_more p (length s1.bytes) s.uses (omega (arith, n)) w) (omega (arith, n, h.0)) in
    let here : patched off s1 ≡ patched off s ++ patch BranchRIL 0 p (off (constant_label s c)) bs =
    all_more off s.uses u (s.bytes ++ bs)
    ∙ ap (λ x. patch_use off u x) (all_left off s.uses s.bytes bs w)
    ∙ ap (λ m. patch BranchRIL m p (off (constant_label s c)) (patched off s ++ bs)) (sym (length-patch_all off s.uses s.bytes))
    ∙ patch_right BranchRIL p (off (constant_label s c)) (patched off s) bs in
    patched_run ps s1 off w1 h.1
    ∙ ap (λ x. x ++ resolve s.block_count off (length s1.bytes) ps) here
    ∙ append_assoc (patched off s) (patch BranchRIL 0 p (off (constant_label s c)) bs) (resolve s.block_count off (length s1.bytes) ps)
    ∙ ap (λ m. patched off s ++ (patch BranchRIL 0 p (off (constant_label s c)) bs ++ resolve s.block_count off m ps)) n
patched_run (StartStep ∷ ps) s off w h = patched_run ps (apply s StartStep) off w h
patched_run (Draw ∷ ps) s off w h = patched_run ps (apply s Draw) off w h
patched_run (Bind l ∷ ps) s off w h = patched_run ps (apply s (Bind l)) off w h
patched_run (AddSite site ∷ ps) s off w h = patched_run ps (apply s (AddSite site)) off w h
patched_run (RecordBranch noted ∷ ps) s off w h = patched_run ps (apply s (RecordBranch noted)) off w h
