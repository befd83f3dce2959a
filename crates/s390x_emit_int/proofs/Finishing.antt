-- After a check that found no cause, a buffer can be finished.
use Rattle.std.proofs.Common.{◌≡◌, ℕ, ◌+◌, ◌-◌, ◌%◌, ◌<◌, ◌≤◌, inl, inr, ◌⊎◌, List, [], ◌∷◌, length, get_or, Bool, true, cond, ◌&&◌, nat_lt, nat_le, nat_eq, Option, Result, Ok, Err, MatchResult, refl, sym, ap, ◌∙◌, subst, arith, length-append, None, Some}
use Rattle.std.specs.Prelude.{is_some}
use Rattle.std.proofs.lemmas.Bool.{cases_lt, and_from, and_parts, ltb-true, lt-ltb, le-leb, eq-eqb}
use Rattle.std.proofs.lemmas.List.{length-map, length-replicate}
use Rattle.std.proofs.lemmas.List.Elements.{All-replicate, All-get_or}
use Rattle.s390x_inst.specs.declared.state.IsaFlags.{IsaFlags}
use Rattle.s390x_base.specs.declared.error.EmitError.{EmitError}
use Rattle.s390x_base.specs.declared.error.EmitError.TheVariants.{LabelOutOfRange, UnboundLabel, Failed, NoMemory}
use Rattle.s390x_buffer.specs.State.{BufferState, Constant, fresh_buffer, limit, all_aligned, new_cause}
use Rattle.s390x_buffer.specs.Patch.{first_use_cause as first_use, bound_offset, offset_of_label, is_bound, word_from, biased_word, sum_fits, is_in_reach, can_patch, use_cause, uses_cause, patch, patch_size, patch_use}
use Rattle.s390x_buffer.specs.Branches.{field_end}
use Rattle.s390x_buffer.proofs.Branching.{patch_other, length-patch}
use Rattle.s390x_buffer.specs.Constants.{constant_starts, constant_bytes, constants_end}
use Rattle.s390x_buffer.specs.Finish.{final_labels, finished_length, starts_of_constants, unpatched_bytes, length_cause as long_cause, patch_cause, FailsWithEither, finish_cause}
use Rattle.s390x_buffer.specs.declared.entries.LabelFixup.{LabelFixup}
use Rattle.s390x_buffer.specs.declared.label_use.LabelUse.{LabelUse}
use Rattle.s390x_buffer.specs.declared.label_use.LabelUse.TheVariants.{BranchRI, BranchRIL, PCRel32, PCRel32Dbl}
use Rattle.s390x_buffer.proofs.Placing.{length-constant_bytes, length-constant_starts}
use Rattle.s390x_typed_steps.specs.Tree.{Tree}
use Rattle.s390x_typed_steps.specs.Causes.{first_emit_cause, aligns_of, declared_of, fresh_labels, blocks_cause}
use Rattle.s390x_typed_steps.specs.Folding.{folded_trees, peak}
use Rattle.s390x_typed_steps.proofs.Folding.{folded_blocks_cause, folded_length}
use Rattle.s390x_typed_steps.specs.Sizes.{blocks_size}
use Rattle.s390x_typed_steps.proofs.Causes.{first_left, first_right, unless_true}
use Rattle.s390x_emit_int.specs.Function.{checked_cause, code_length_cause}
use Rattle.s390x_emit_int.specs.Fragments.{apply_all}
use Rattle.s390x_emit_int.specs.Emission.{fragments, function_fragments}
use Rattle.s390x_emit_int.specs.Bound.{TreesName}
use Rattle.s390x_emit_int.proofs.Constants.{aligned_constants, starts_of, middle_label}
use Rattle.s390x_emit_int.proofs.Closing.{blocks_closed, drawn_closed}
use Rattle.s390x_emit_int.proofs.Functions.{block_state, bound_state, block_labels, function_put}
use Rattle.s390x_emit_int.proofs.Imaging.{bytes_run, low_label, high_label}
use Rattle.s390x_emit_int.proofs.Names.{all_names}
use Rattle.s390x_emit_int.proofs.Orderly.{AllSound, all_fresh_labels, function_sound, Stands, BearsUse, UsesStand, SameFrom, uses_still, same_append, Orderly, orderly_run}
use Rattle.s390x_emit_int.proofs.Runs.{run-append}
use Rattle.s390x_emit_int.proofs.Starts.{Same, same_run}

-- how many labels there are in the end
labels_run : (ts : List Tree) (s : BufferState) (n b : ℕ) → n ≡ length s.labels → length (apply_all s (function_fragments n b ts)).labels ≡ n + all_fresh_labels ts
labels_run [] s n b e = omega arith
labels_run (t ∷ ts) s n b e =
    let n2 = block_labels t s n b e in
    ap (λ x. length x.labels) (run-append (bound_state s b) (fragments n 0 t) (function_fragments (n + fresh_labels t) (b + 1) ts))
    ∙ labels_run ts (block_state s n b t) (n + fresh_labels t) (b + 1) n2
    ∙ (omega arith)

-- a use between even places in code below the limit
use_reaches : (kind : LabelUse) (place target : ℕ) (bs : List ℕ) → BearsUse kind place bs → place % 2 ≡ 0 → target % 2 ≡ 0 → target < limit → place + patch_size kind ≤ length bs → length bs < limit → can_patch kind place target bs ≡ true
use_reaches BranchRI place target bs bears even_place even_target near within short = absurd bears
use_reaches BranchRIL place target bs bears even_place even_target near within short =
    let even : nat_eq ((place + target) % 2) 0 ≡ true = eq-eqb ((place + target) % 2) 0 (omega arith) in
    let up : nat_le target (place + 4294967294) ≡ true = le-leb target (place + 4294967294) (omega arith) in
    let down : nat_le place (target + 4294967295) ≡ true = le-leb place (target + 4294967295) (omega arith) in
    let inside : nat_le (place + 6) (length bs) ≡ true = le-leb (place + 6) (length bs) within in
    let reach : is_in_reach BranchRIL place target ≡ true = and_from _ _ even (and_from _ _ up down) in
    and_from (is_in_reach BranchRIL place target) _ reach (and_from true _ refl inside)
use_reaches PCRel32 place target bs bears even_place even_target near within short =
    let w : ℕ = word_from bs place in
    let even : nat_eq ((place + target) % 2) 0 ≡ true = eq-eqb ((place + target) % 2) 0 (omega arith) in
    let up : nat_le target (place + 2147483647) ≡ true = le-leb target (place + 2147483647) (omega arith) in
    let down : nat_le place (target + 2147483648) ≡ true = le-leb place (target + 2147483648) (omega arith) in
    let inside : nat_le (place + 4) (length bs) ≡ true = le-leb (place + 4) (length bs) within in
    let whole : biased_word w ≡ w + 2147483648 = omega (arith, bears) in
    let low : nat_le place (biased_word w + target) ≡ true = le-leb place (biased_word w + target) (omega (arith, whole)) in
    let high : nat_lt (biased_word w + target) (place + 4294967296) ≡ true = lt-ltb (biased_word w + target) (place + 4294967296) (omega (arith, whole, bears)) in
    let reach : is_in_reach PCRel32 place target ≡ true = and_from _ _ even (and_from _ _ up down) in
    and_from (is_in_reach PCRel32 place target) _ reach (and_from (sum_fits PCRel32 w place target) _ (and_from _ _ low high) inside)
use_reaches PCRel32Dbl place target bs bears even_place even_target near within short = absurd bears

-- a label that a use may name stands at an even offset below the limit
pub record CanBeUsed (labels : List (Option ℕ)) (l : ℕ) : Type 0 where
  pub bound : is_bound labels l ≡ true
  pub even : offset_of_label labels l % 2 ≡ 0
  pub near : offset_of_label labels l < limit

none_of : (a b : Bool) → a ≡ true → b ≡ true → cond a (cond b None (Some LabelOutOfRange)) (Some UnboundLabel) ≡ None
none_of a b ha hb = ap (λ x. cond x (cond b None (Some LabelOutOfRange)) (Some UnboundLabel)) ha ∙ ap (λ x. cond x None (Some LabelOutOfRange)) hb

both_none : (a b : Option EmitError) → a ≡ None → b ≡ None → first_use a b ≡ None
both_none a b ha hb = ap (λ x. first_use x b) ha ∙ hb

-- a patched use leaves the bytes behind it
patch_leaves : (kind : LabelUse) (place target : ℕ) (bs : List ℕ) → SameFrom (place + patch_size kind) bs (patch kind place place target bs)
patch_leaves kind place target bs = (omega (arith, length-patch kind place place target bs), λ i lo hi. patch_other kind place place target bs i (inr (ends kind place i lo)))
  where
    ends : (kind : LabelUse) (place i : ℕ) → place + patch_size kind ≤ i → field_end kind place ≤ i
    ends BranchRI place i h = h
    ends BranchRIL place i h = h
    ends PCRel32 place i h = h
    ends PCRel32Dbl place i h = h

uses_fine : (May : ℕ → Type 0) (labels : List (Option ℕ)) (us : List LabelFixup) (from : ℕ) (bs : List ℕ) → ((l : ℕ) → May l → CanBeUsed labels l) → UsesStand May bs from us → length bs < limit → uses_cause labels us bs ≡ None
uses_fine May labels [] from bs passes all short = refl
uses_fine May labels (u ∷ us) from bs passes all short =
    let h = all.0 in
    let l = passes u.label.0 h.label in
    let long = length-patch u.kind u.offset u.offset (offset_of_label labels u.label.0) bs in
    let here : use_cause labels bs u ≡ None = none_of (is_bound labels u.label.0) _ l.bound (use_reaches u.kind u.offset (offset_of_label labels u.label.0) bs h.bears h.even l.even l.near h.within short) in
    let n = u.offset + patch_size u.kind in
    both_none _ _ here (uses_fine May labels us n (patch_use (offset_of_label labels) u bs) passes (uses_still May us n n bs (patch_use (offset_of_label labels) u bs) (patch_leaves u.kind u.offset (offset_of_label labels u.label.0) bs) (omega arith) all.1) (omega (arith, long)))

stands_place : (n : ℕ) (o : Option ℕ) → Stands n o → (bound_offset o % 2 ≡ 0) × (bound_offset o ≤ n)
stands_place n None h = (refl, omega arith)
stands_place n (Some p) h = h

-- a label that stands before the constants are bound, and isn't one of theirs
used_of : (labels all : List (Option ℕ)) (l n : ℕ) → get_or all l None ≡ get_or labels l None → is_bound labels l ≡ true → Stands n (get_or labels l None) → n < limit → CanBeUsed all l
used_of labels all l n e bound stands lt =
    let p = stands_place n (get_or labels l None) stands in
    let same : offset_of_label all l ≡ offset_of_label labels l = ap bound_offset e in
    record {
      bound = ap is_some e ∙ bound;
      even = ap (λ x. x % 2) same ∙ p.0;
      near = omega (arith, same, p.1);
    }

-- a constant's label is bound where it starts
constant_used : (cs : List Constant) (n c : ℕ) (labels : List (Option ℕ)) (l : ℕ) → all_aligned cs ≡ true → c < length cs → get_or labels l None ≡ Some (get_or (constant_starts n cs) c 0) → constants_end n cs < limit → CanBeUsed labels l
constant_used cs n c labels l all lt e below =
    let s = starts_of cs n c all lt in
    let same : offset_of_label labels l ≡ get_or (constant_starts n cs) c 0 = ap bound_offset e in
    record {
      bound = ap is_some e;
      even = ap (λ x. x % 2) same ∙ s.on.0;
      near = omega (arith, same, s.below, below);
    }

-- the labels that instructions name: those of blocks, those of constants, and those that were drawn
abbrev pub IsNamed : (count : ℕ) → ℕ → Type 0
IsNamed count l = l < count

pub record CanFinish (u : BufferState) : Type 0 where
  pub short : long_cause u ≡ None
  pub patched : patch_cause u ≡ None

-- what is known of the blocks that are left in the end
pub record Passes (flags : IsaFlags) (ts : List Tree) (cs : List Constant) : Type 0 where
  pub declared : new_cause (length ts) cs ≡ None
  pub blocks : blocks_cause flags (declared_of ts cs) (length ts + length cs) ts ≡ None
  pub below : constants_end (blocks_size ts) cs < limit

-- the length of blocks that have no cause: at its greatest, and in the end
lengths_below : (flags : IsaFlags) (ts : List Tree) (cs : List Constant) → checked_cause flags ts cs ≡ None → (nat_lt (peak ts) limit ≡ true) × (nat_lt (constants_end (blocks_size (folded_trees ts)) cs) limit ≡ true)
lengths_below flags ts cs passes =
    let rest = first_right (new_cause (length ts) cs) _ passes in
    let long : code_length_cause ts cs ≡ None = first_right (blocks_cause flags (declared_of ts cs) (length ts + length cs) ts) _ rest in
    let short = nat_lt (peak ts) limit in
    let ends = nat_lt (constants_end (blocks_size (folded_trees ts)) cs) limit in
    and_parts short ends (unless_true (short && ends) LabelOutOfRange long)

pub peak_below : (flags : IsaFlags) (ts : List Tree) (cs : List Constant) → checked_cause flags ts cs ≡ None → peak ts < limit
peak_below flags ts cs passes = ltb-true (peak ts) limit (lengths_below flags ts cs passes).0

-- where no cause stands against blocks as they are given, it is known of what their ends leave
pub folded_passes : (flags : IsaFlags) (ts : List Tree) (cs : List Constant) → checked_cause flags ts cs ≡ None → Passes flags (folded_trees ts) cs
folded_passes flags ts cs passes =
    let us = folded_trees ts in
    let count = folded_length 0 ts in
    let rest = first_right (new_cause (length ts) cs) _ passes in
    record {
      declared = ap (λ n. new_cause n cs) count ∙ first_left (new_cause (length ts) cs) _ passes;
      blocks = folded_blocks_cause flags (declared_of us cs) (length us + length cs) 0 ts ∙ ap (λ n. blocks_cause flags (record { blocks = n; aligns = aligns_of cs }) (n + length cs) ts) count ∙ first_left _ _ rest;
      below = ltb-true (constants_end (blocks_size us) cs) limit (lengths_below flags ts cs passes).1;
    }

pub can_finish : (flags : IsaFlags) (ts : List Tree) (cs : List Constant) (u : BufferState) → u ≡ apply_all (fresh_buffer (length ts) cs) (function_fragments (length ts + length cs) 0 ts) → Passes flags ts cs → CanFinish u
can_finish flags ts cs u0 is passes =
    let b = length ts in
    let n = b + length cs in
    let s0 = fresh_buffer b cs in
    let ps = function_fragments n 0 ts in
    let u = apply_all s0 ps in
    let aligned : all_aligned cs ≡ true = aligned_constants _ _ _ passes.declared in
    let blocks : blocks_cause flags (declared_of ts cs) n ts ≡ None = passes.blocks in
    let same : Same s0 u = same_run ps s0 in
    let drawn : length s0.labels ≡ n = length-replicate n None in
    let count : length u.labels ≡ n + all_fresh_labels ts = labels_run ts s0 n 0 (sym drawn) in
    let size : length u.bytes ≡ blocks_size ts = bytes_run ps s0 ∙ (omega (arith, function_put ts n 0)) in
    let ends : finished_length u ≡ constants_end (blocks_size ts) cs = ap (λ x. constants_end (length u.bytes) x) same.constants ∙ ap (λ m. constants_end m cs) size in
    let below : constants_end (blocks_size ts) cs < limit = passes.below in
    let May = IsNamed (n + all_fresh_labels ts) in
    let names : TreesName b (length cs) ts = subst (λ k. TreesName b k ts) (length-map cs (λ (c : Constant). c.align)) (all_names flags (declared_of ts cs) n ts blocks) in
    let sound : AllSound May b 0 ps = function_sound May ts n 0 b (length cs) names (λ l lt. omega arith) (λ c lt. omega arith) (λ l lo hi. hi) (omega arith) in
    let begins : Orderly May s0 = record { even = refl; labels = All-replicate (Stands 0) n None tt; uses = tt } in
    let orderly : Orderly May u = orderly_run May ps s0 b 0 refl (omega arith) sound begins in
    let full : length (unpatched_bytes u) ≡ finished_length u = length-append u.bytes (constant_bytes (length u.bytes) u.constants) ∙ length-constant_bytes (length u.bytes) u.constants in
    let far : length u.bytes ≤ length (unpatched_bytes u) = omega (arith, length-append u.bytes (constant_bytes (length u.bytes) u.constants)) in
    let short : length (unpatched_bytes u) < limit = omega (arith, full, ends, below) in
    let near : length u.bytes < limit = omega arith in
    let starts : length (starts_of_constants u) ≡ length cs = length-constant_starts (length u.bytes) u.constants ∙ ap length same.constants in
    let held : u.block_count ≡ b = same.block_count in
    let enough : u.block_count ≤ length u.labels = omega (arith, held, count) in
    let stands : (l : ℕ) → l < length u.labels → Stands (length u.bytes) (get_or u.labels l None) = λ l lt. All-get_or (Stands (length u.bytes)) u.labels l None lt orderly.labels in
    let block : (l : ℕ) → l < b → CanBeUsed (final_labels u) l = λ l lt.
    used_of u.labels (final_labels u) l (length u.bytes) (low_label u.block_count (starts_of_constants u) u.labels l (omega (arith, held)) enough) (blocks_closed ts s0 n 0 l (sym drawn) (omega arith) (omega arith) (omega arith)) (stands l (omega (arith, count))) near in
    let constant : (c : ℕ) → c < length cs → CanBeUsed (final_labels u) (b + c) = λ c lt.
    let bound : get_or (final_labels u) (b + c) None ≡ Some (get_or (constant_starts (blocks_size ts) cs) c 0) =
    ap (λ m. get_or (final_labels u) (m + c) None) (sym held)
    ∙ middle_label u.block_count (starts_of_constants u) u.labels c (omega (arith, starts)) enough
    ∙ ap (λ m. Some (get_or (constant_starts m u.constants) c 0)) size
    ∙ ap (λ x. Some (get_or (constant_starts (blocks_size ts) x) c 0)) same.constants in
    constant_used cs (blocks_size ts) c (final_labels u) (b + c) aligned lt bound below in
    let fresh_one : (l : ℕ) → n ≤ l → l < n + all_fresh_labels ts → CanBeUsed (final_labels u) l = λ l lo hi.
    used_of u.labels (final_labels u) l (length u.bytes) (high_label u.block_count (starts_of_constants u) u.labels l (omega (arith, held, starts, lo)) enough) (drawn_closed ts s0 n 0 l (sym drawn) (omega arith) lo (omega (arith, count, hi))) (stands l (omega (arith, count, hi))) near in
    let named : (l : ℕ) → May l → CanBeUsed (final_labels u) l = λ l may.
    elim (cases_lt l b) [
      | inl lt ↦ block l lt
      | inr ge ↦ elim (cases_lt l n) [
        | inl lt ↦ let back : b + (l - b) ≡ l = omega arith in subst (CanBeUsed (final_labels u)) back (constant (l - b) (omega arith))
        | inr ge2 ↦ fresh_one l ge2 may
      ]
    ] in
    let done : CanFinish u = record {
      short = ap (λ f. cond f (Some Failed) (cond (nat_lt (finished_length u) limit) None (Some LabelOutOfRange))) same.is_poisoned ∙ ap (λ t. cond t None (Some LabelOutOfRange)) (lt-ltb (finished_length u) limit (omega (arith, ends, below)));
      patched = uses_fine May (final_labels u) u.uses 0 (unpatched_bytes u) named (uses_still May u.uses 0 0 u.bytes (unpatched_bytes u) (same_append 0 u.bytes (constant_bytes (length u.bytes) u.constants)) (omega arith) orderly.uses) short;
    } in
    subst CanFinish (sym is) done

pub always_finishes : (flags : IsaFlags) (ts : List Tree) (cs : List Constant) → checked_cause flags ts cs ≡ None → finish_cause (apply_all (fresh_buffer (length (folded_trees ts)) cs) (function_fragments (length (folded_trees ts) + length cs) 0 (folded_trees ts))) ≡ None
always_finishes flags ts cs passes = let f = can_finish flags (folded_trees ts) cs _ refl (folded_passes flags ts cs passes) in both_none _ _ f.short f.patched

-- finishing answers the code, or want of memory
pub finished_or_lacks : {T : Type 0} (P R : T → Type 0) (a b : Option EmitError) (r : Result T EmitError) → MatchResult r P (λ e. FailsWithEither a b e) → a ≡ None → b ≡ None → ((x : T) → P x → R x) → MatchResult r R (λ e. e ≡ NoMemory)
finished_or_lacks P R a b (Ok x) m ha hb f = f x m
finished_or_lacks P R None b (Err e) m ha hb f = elim m [ inl h ↦ h | inr h ↦ absurd (let g : None ≡ Some e = sym hb ∙ h in cc) ]
finished_or_lacks P R (Some c) b (Err e) m ha hb f = absurd (cc)

-- the emitted blocks have the bytes that were counted
pub emitted_size : (ts : List Tree) (cs : List Constant) (u : BufferState) → u ≡ apply_all (fresh_buffer (length ts) cs) (function_fragments (length ts + length cs) 0 ts) → length u.bytes ≡ blocks_size ts
emitted_size ts cs u is =
    let n = length ts + length cs in
    ap (λ x. length x.bytes) is ∙ bytes_run (function_fragments n 0 ts) (fresh_buffer (length ts) cs) ∙ (omega (arith, function_put ts n 0))

-- a function is refused by the length where nothing else refuses it
pub length_last : (flags : IsaFlags) (ts : List Tree) (cs : List Constant) → new_cause (length ts) cs ≡ None → blocks_cause flags (declared_of ts cs) (length ts + length cs) ts ≡ None → checked_cause flags ts cs ≡ code_length_cause ts cs
length_last flags ts cs new blocks =
    ap (λ o. first_emit_cause o (first_emit_cause (blocks_cause flags (declared_of ts cs) (length ts + length cs) ts) (code_length_cause ts cs))) new ∙ ap (λ o. first_emit_cause o (code_length_cause ts cs)) blocks

-- want of memory may be named beside the cause
pub or_cause : {T : Type 0} (P : T → Type 0) (Q : Type 0) (c : Option EmitError) (r : Result T EmitError) → c ≡ None → MatchResult r (λ x. P x × Q) (λ e. e ≡ NoMemory) → MatchResult r (λ x. (c ≡ None) × P x × Q) (λ e. (e ≡ NoMemory) ⊎ (c ≡ Some e))
or_cause P Q c (Ok x) none h = (none, h.0, h.1)
or_cause P Q c (Err e) none h = inl h
