-- Where a function leaves nothing for linking, neither do its blocks as their ends leave them.
use Rattle.std.proofs.Common.{◌≡◌, ℕ, ◌+◌, List, [], ◌∷◌, ◌++◌, Option, Some, None, refl, sym, ap₂, subst}
use Rattle.s390x_buffer.specs.declared.entries.RelocEntry.{RelocEntry}
use Rattle.s390x_inst.specs.declared.inst.Inst.{Inst}
use Rattle.s390x_typed_steps.specs.Folding.{branches_of, remainder, body_with_remainder, fold, folded_members, folded_before, next_block, folded_from, folded_trees}
use Rattle.s390x_typed_steps.specs.Image.{step_offset}
use Rattle.s390x_typed_steps.specs.Parts.{CodePart, RelativeSymbol, SymbolValue, CallSymbol, part_size, step_parts}
use Rattle.s390x_typed_steps.specs.Relocs.{part_relocs, parts_relocs, step_relocs, relocs_from, function_relocs}
use Rattle.s390x_typed_steps.specs.Steps.{Step, Back, step_count, step_of, steps_of, steps_from, function_steps}
use Rattle.s390x_typed_steps.specs.Tree.{Remainder, NothingLeft, BranchLeft, StepBody, Tree, Whole, Folded, empty, leaf, loop_node}
use Rattle.s390x_typed_steps.proofs.Folding.{before_count}

nil_left : (xs ys : List RelocEntry) → xs ++ ys ≡ [] → xs ≡ []
nil_left [] ys e = refl
nil_left (x ∷ xs) ys e = absurd (cc)

nil_right : (xs ys : List RelocEntry) → xs ++ ys ≡ [] → ys ≡ []
nil_right [] ys e = e
nil_right (x ∷ xs) ys e = absurd (cc)

-- ---- nothing is left at any place

part_none : (p q : ℕ) (part : CodePart) → part_relocs p part ≡ [] → part_relocs q part ≡ []
part_none p q (RelativeSymbol opcode register name offset) e = absurd (cc)
part_none p q (SymbolValue name offset) e = absurd (cc)
part_none p q (CallSymbol link name) e = absurd (cc)
part_none p q part e = refl

parts_none : (p q : ℕ) (parts : List CodePart) → parts_relocs p parts ≡ [] → parts_relocs q parts ≡ []
parts_none p q [] e = refl
parts_none p q (part ∷ parts) e =
    ap₂ (λ xs ys. xs ++ ys) (part_none p q part (nil_left (part_relocs p part) (parts_relocs (p + part_size part) parts) e))
    (parts_none (p + part_size part) (q + part_size part) parts (nil_right (part_relocs p part) (parts_relocs (p + part_size part) parts) e))

abbrev BareStep : Step → Type 0
BareStep s = (p : ℕ) → step_relocs p s ≡ []

abbrev AllBare : List Step → Type 0
AllBare [] = Unit {0}
AllBare (s ∷ ss) = BareStep s × AllBare ss

bare_of : (at : ℕ → ℕ) (k : ℕ) (ss : List Step) → relocs_from at k ss ≡ [] → AllBare ss
bare_of at k [] e = tt
bare_of at k (s ∷ ss) e =
    let own = nil_left (step_relocs (at k) s) (relocs_from at (k + 1) ss) e in
    (λ p. parts_none (at k) p (step_parts s) own, bare_of at (k + 1) ss (nil_right (step_relocs (at k) s) (relocs_from at (k + 1) ss) e))

none_of : (at : ℕ → ℕ) (k : ℕ) (ss : List Step) → AllBare ss → relocs_from at k ss ≡ []
none_of at k [] h = refl
none_of at k (s ∷ ss) h = ap₂ (λ xs ys. xs ++ ys) (h.0 (at k)) (none_of at (k + 1) ss h.1)

bare_left : (xs ys : List Step) → AllBare (xs ++ ys) → AllBare xs
bare_left [] ys h = tt
bare_left (x ∷ xs) ys h = (h.0, bare_left xs ys h.1)

bare_right : (xs ys : List Step) → AllBare (xs ++ ys) → AllBare ys
bare_right [] ys h = h
bare_right (x ∷ xs) ys h = bare_right xs ys h.1

bare_append : (xs ys : List Step) → AllBare xs → AllBare ys → AllBare (xs ++ ys)
bare_append [] ys a b = b
bare_append (x ∷ xs) ys a b = (a.0, bare_append xs ys a.1 b)

-- ---- so in folded blocks

left_bare : (r : Remainder) (i : Inst) → BareStep (step_of 0 (Folded r i))
left_bare NothingLeft i p = refl
left_bare (BranchLeft mask b) i p = refl

shortened_bare : (o : Option Remainder) (i : Inst) → BareStep (step_of 0 (Whole i)) → BareStep (step_of 0 (body_with_remainder o i))
shortened_bare None i h = h
shortened_bare (Some r) i h = left_bare r i

fold_bare : (next : ℕ) (b : StepBody) → BareStep (step_of 0 b) → BareStep (step_of 0 (fold next b))
fold_bare next (Whole i) h = shortened_bare (remainder next (branches_of i)) i h
fold_bare next b h = h

folded_bare : (next k : ℕ) (t : Tree) → AllBare (steps_of k 0 t) → AllBare (steps_of k 0 (folded_members next t))
folded_bare next k empty h = h
folded_bare next k (leaf b empty) h = (fold_bare next b h.0, tt)
folded_bare next k (leaf b (leaf c rest)) h = (h.0, folded_bare next (k + 1) (leaf c rest) h.1)
folded_bare next k (leaf b (loop_node mask members rest)) h = (h.0, folded_bare next (k + 1) (loop_node mask members rest) h.1)
folded_bare next k (loop_node mask members rest) h =
    let end = k + 2 + step_count members in
    let inner = steps_of (k + 1) end members in
    let later = Back mask (k + 1) ∷ steps_of end 0 rest in
    let behind = bare_right inner later h.1 in
    (h.0, bare_append inner (Back mask (k + 1) ∷ steps_of end 0 (folded_members next rest)) (bare_left inner later h.1) (behind.0, folded_bare next end rest behind.1))

before_bare : (next : Option ℕ) (k : ℕ) (t : Tree) → AllBare (steps_of k 0 t) → AllBare (steps_of k 0 (folded_before next t))
before_bare None k t h = h
before_bare (Some next) k t h = folded_bare next k t h

blocks_bare : (b k : ℕ) (ts : List Tree) → AllBare (steps_from k ts) → AllBare (steps_from k (folded_from b ts))
blocks_bare b k [] h = h
blocks_bare b k (t ∷ ts) h =
    let next = next_block b ts in
    let later = blocks_bare (b + 1) (k + step_count t) ts (bare_right (steps_of k 0 t) (steps_from (k + step_count t) ts) h) in
    bare_append (steps_of k 0 (folded_before next t)) (steps_from (k + step_count (folded_before next t)) (folded_from (b + 1) ts))
    (before_bare next k t (bare_left (steps_of k 0 t) (steps_from (k + step_count t) ts) h))
    (subst (λ n. AllBare (steps_from (k + n) (folded_from (b + 1) ts))) (sym (before_count next t)) later)

pub folded_relocs : (ts : List Tree) → function_relocs ts ≡ [] → function_relocs (folded_trees ts) ≡ []
folded_relocs ts none =
    none_of (step_offset (function_steps (folded_trees ts))) 0 (function_steps (folded_trees ts)) (blocks_bare 0 0 ts (bare_of (step_offset (function_steps ts)) 0 (function_steps ts) none))
