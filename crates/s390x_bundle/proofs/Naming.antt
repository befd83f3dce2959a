-- Sets of names.
use Rattle.std.proofs.Common.{◌≡◌, ℕ, suc, ◌+◌, ◌<◌, List, [], ◌∷◌, ◌++◌, length, get_or, take, drop, drop-cons, Bool, true, false, cond, Option, Some, None, refl, sym, ap, subst, ◌∙◌, arith}
use Rattle.std.specs.Prelude.{◌||◌, not, nat_eq}
use Rattle.std.proofs.lemmas.List.{map_more}
use Rattle.std.specs.BTreeSet.{BTreeSet, Updates, contains}
use Rattle.std.specs.Cmp.{unsigned_tied}
use Rattle.std.specs.Ordering.{nat_cmp}
use Rattle.s390x_base.specs.declared.ir.ExternalName.{ExternalName}
use Rattle.s390x_job.specs.declared.job.SymbolLine.{SymbolLine}
use Rattle.s390x_bundle.specs.declared.member.Member.{Member}
use Rattle.s390x_bundle.specs.Names.{HasNames, duplicate_in, first_duplicate, is_among, line_among, name_or, names_of}

among_more : (xs : List ExternalName) (x q : ExternalName) → is_among (xs ++ x ∷ []) q ≡ cond (nat_eq x.0 q.0) true (is_among xs q)
among_more [] x q = alone (nat_eq x.0 q.0)
  where
    alone : (b : Bool) → (b || false) ≡ cond b true false
    alone true = refl
    alone false = refl
among_more (y ∷ xs) x q = ap (λ b. nat_eq y.0 q.0 || b) (among_more xs x q) ∙ turned (nat_eq y.0 q.0) (nat_eq x.0 q.0) (is_among xs q)
  where
    turned : (a b c : Bool) → (a || cond b true c) ≡ cond b true (a || c)
    turned true true c = refl
    turned true false c = refl
    turned false b c = refl

-- a set with one name more
pub has_more : (old new : BTreeSet ℕ) (xs : List ExternalName) (x : ExternalName) → Updates nat_cmp old new x.0 true → HasNames old xs → HasNames new (xs ++ x ∷ [])
has_more old new xs x updates has q =
    updates.0 q.0
    ∙ ap (λ b. cond b true (contains nat_cmp old q.0)) (unsigned_tied x.0 q.0)
    ∙ ap (λ b. cond (nat_eq x.0 q.0) true b) (has q)
    ∙ sym (among_more xs x q)

names_more : (ms : List Member) (k : ℕ) (m : Member) → k < length ms → m ≡ get_or ms k m → names_of (take (k + 1) ms) ≡ names_of (take k ms) ++ m.name ∷ []
names_more ms k m lt at = map_more (λ (x : Member). x.name) ms k m lt ∙ ap (λ (x : Member). names_of (take k ms) ++ x.name ∷ []) (sym at)

-- a set with one member's name more
pub has_member : (old new : BTreeSet ℕ) (ms : List Member) (k : ℕ) (m : Member) → k < length ms → m ≡ get_or ms k m → Updates nat_cmp old new m.name.0 true → HasNames old (names_of (take k ms)) → HasNames new (names_of (take (k + 1) ms))
has_member old new ms k m lt at updates has = subst (HasNames new) (sym (names_more ms k m lt at)) (has_more old new (names_of (take k ms)) m.name updates has)

-- a key that was new was not there
pub was_absent : (added had : Bool) → added ≡ true → added ≡ not had → had ≡ false
was_absent added false h e = refl
was_absent true true h e = absurd cc
was_absent false true h e = absurd cc

-- a line that names none of these
pub line_turn : (set : BTreeSet ℕ) (names : List ExternalName) (lines : List SymbolLine) (k : ℕ) (d : SymbolLine) → HasNames set names → k < length lines → contains nat_cmp set (get_or lines k d).name.0 ≡ false →
    line_among names (drop (k + 1) lines) ≡ line_among names (drop k lines)
line_turn set names lines k d has lt none =
    let next : suc k ≡ k + 1 = omega arith in
    let line = get_or lines k d in
    let cons : drop k lines ≡ line ∷ drop (k + 1) lines = drop-cons lines k d lt ∙ ap (λ n. line ∷ drop n lines) next in
    let other : is_among names line.name ≡ false = sym (has line.name) ∙ none in
    sym (ap (λ l. line_among names l) cons ∙ ap (λ b. cond b (Some line.name) (line_among names (drop (k + 1) lines))) other)

-- a member that has no such name
pub duplicate_turn : (names : List ExternalName) (ms : List Member) (k : ℕ) (m : Member) (t : Option ExternalName) → k < length ms → m ≡ get_or ms k m → is_among (names_of (take k ms)) m.name ≡ false → line_among names m.symbols.items ≡ None →
    first_duplicate names (names_of (take k ms)) (drop k ms) ≡ t → first_duplicate names (names_of (take (k + 1) ms)) (drop (k + 1) ms) ≡ t
duplicate_turn names ms k m t lt at other none h =
    let next : suc k ≡ k + 1 = omega arith in
    let rest = drop (k + 1) ms in
    let cons : drop k ms ≡ m ∷ rest = drop-cons ms k m lt ∙ ap (λ (x : Member). x ∷ drop (suc k) ms) (sym at) ∙ ap (λ n. m ∷ drop n ms) next in
    let earlier = names_of (take k ms) in
    let here : duplicate_in names earlier m ≡ None = ap (λ b. cond b (Some m.name) (line_among names m.symbols.items)) other ∙ none in
    ap (λ l. first_duplicate names l rest) (names_more ms k m lt at)
    ∙ sym (ap (λ o. name_or o (first_duplicate names (earlier ++ m.name ∷ []) rest)) here)
    ∙ sym (ap (λ l. first_duplicate names earlier l) cons)
    ∙ h
