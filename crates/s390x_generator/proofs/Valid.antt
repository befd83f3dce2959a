-- A generated function isn't refused.
use Rattle.std.proofs.Common.{◌≡◌, ℕ, zero, suc, ◌+◌, ◌*◌, ◌<◌, ◌≤◌, ◌%◌, ◌/◌, List, [], ◌∷◌, length, map, None, refl, sym, ap, ap₂, ◌∙◌, subst, arith}
use Rattle.std.proofs.lemmas.Bool.{leb-true, lt-ltb}
use Rattle.std.proofs.lemmas.Nat.{mod_below}
use Rattle.s390x_base.specs.declared.error.EmitError.TheVariants.{LabelOutOfRange}
use Rattle.s390x_inst.specs.Emission.{Emission}
use Rattle.s390x_inst.specs.declared.inst.Inst.{Inst}
use Rattle.s390x_inst.specs.declared.state.IsaFlags.{IsaFlags}
use Rattle.s390x_typed_steps.specs.Calls.{safepoint}
use Rattle.s390x_typed_steps.specs.Causes.{Declared, block_cause, blocks_cause, first_emit_cause, fresh_labels, numbers_cause, unless}
use Rattle.s390x_typed_steps.specs.Relocs.{relocs_from}
use Rattle.s390x_typed_steps.specs.Parts.{instruction_parts, parts_size}
use Rattle.s390x_typed_steps.specs.Sizes.{blocks_size, tree_size}
use Rattle.s390x_typed_steps.specs.Stack.{state_after}
use Rattle.s390x_typed_steps.specs.Steps.{steps_from}
use Rattle.s390x_typed_steps.specs.Tree.{Tree, block_tree, empty, leaf, Whole}
use Rattle.s390x_generator.specs.Generator.{ending, generated_block, generated_from, next_number, work}
use Rattle.s390x_generator.proofs.Instructions.{IsFine, ending_is_fine, work_is_fine}

-- ---- a block of two instructions

-- as a tree
abbrev pair : Inst → Inst → Tree
pair i j = leaf (Whole i) (leaf (Whole j) empty)

tree_of_two : (D : Declared) (e : Emission) (i j : Inst) → IsFine D i → IsFine D j → block_tree e (i ∷ j ∷ []) ≡ pair i j
tree_of_two D e i j a b =
    let next = state_after e i in
    a.alone (safepoint e i) (block_tree next (j ∷ [])) ∙ ap (leaf (Whole i)) (b.alone (safepoint next j) empty)

few : (c : ℕ) → c ≤ 100000 → numbers_cause c 0 ≡ None
few c h = ap (λ b. unless b LabelOutOfRange) (lt-ltb (c + 0) 4294967297 (omega (arith, h)))

pair_cause : (flags : IsaFlags) (D : Declared) (c : ℕ) (i j : Inst) → IsFine D i → IsFine D j → c ≤ 100000 → block_cause flags D c (pair i j) ≡ None
pair_cause flags D c i j a b h =
    rw a.fresh (rw a.nominal (rw (a.cause flags) (rw b.fresh (rw b.nominal (rw (b.cause flags) (rw (few c h) (rw (few (c + 0) (omega (arith, h))) refl)))))))

pair_fresh : (D : Declared) (i j : Inst) → IsFine D i → IsFine D j → fresh_labels (pair i j) ≡ 0
pair_fresh D i j a b = omega (arith, a.fresh, b.fresh)

pair_size : (D : Declared) (i j : Inst) → IsFine D i → IsFine D j → tree_size (pair i j) ≤ 24
pair_size D i j a b =
    rw a.plain (rw b.plain (omega (arith, leb-true (parts_size (instruction_parts i)) 12 a.size, leb-true (parts_size (instruction_parts j)) 12 b.size)))

pair_relocs : (D : Declared) (at : ℕ → ℕ) (k m : ℕ) (i j : Inst) (ts : List Tree) → IsFine D i → IsFine D j
    → ((k m : ℕ) → relocs_from at k (steps_from m ts) ≡ []) → relocs_from at k (steps_from m (pair i j ∷ ts)) ≡ []
pair_relocs D at k m i j ts a b rest =
    rw a.plain (rw b.plain (rw (a.relocs (at k)) (rw (b.relocs (at (k + 1))) (rest (k + 1 + 1) (m + 2)))))

-- before others
pair_first : (flags : IsaFlags) (D : Declared) (c : ℕ) (i j : Inst) (ts : List Tree) → IsFine D i → IsFine D j → c ≤ 100000
    → blocks_cause flags D c ts ≡ None → blocks_cause flags D c (pair i j ∷ ts) ≡ None
pair_first flags D c i j ts a b h rest =
    let same : c + fresh_labels (pair i j) ≡ c = omega (arith, pair_fresh D i j a b) in
    ap₂ first_emit_cause (pair_cause flags D c i j a b h) (ap (λ m. blocks_cause flags D m ts) same ∙ rest)

sum_of_sizes : (a b count : ℕ) → a ≤ 24 → b ≤ 24 * count → a + b ≤ 24 * suc count
sum_of_sizes a b count own rest = omega (arith, own, rest)

-- ---- the blocks

-- the first instruction of a block, by what was drawn for it
abbrev first_of : ℕ → Inst
first_of x = work ((x / 65536) % 4) (8 * ((x / 256) % 65536))

module _ (D : Declared) (n : ℕ) (same : n ≡ D.blocks) where
  first_is_fine : (x : ℕ) → IsFine D (first_of x)
  first_is_fine x =
      let low = mod_below (x / 256) 65536 (omega arith) in
      work_is_fine D ((x / 65536) % 4) (8 * ((x / 256) % 65536)) (omega (arith, low))

  drawn_tree : (e : Emission) (k x : ℕ) → k < n → block_tree e (generated_block n k x) ≡ pair (first_of x) (ending n k x)
  drawn_tree e k x h = tree_of_two D e (first_of x) (ending n k x) (first_is_fine x) (ending_is_fine D n k x h same)

  pub no_cause : (flags : IsaFlags) (e : Emission) (k count x c : ℕ) → k + count ≡ n → c ≤ 100000 → blocks_cause flags D c (map (block_tree e) (generated_from n k count x)) ≡ None
  no_cause flags e k zero x c h few = refl
  no_cause flags e k (suc count) x c h few =
      let y = next_number x in
      let low : k < n = omega (arith, h) in
      let ts = map (block_tree e) (generated_from n (k + 1) count y) in
      ap (λ t. blocks_cause flags D c (t ∷ ts)) (drawn_tree e k y low)
      ∙ pair_first flags D c (first_of y) (ending n k y) ts (first_is_fine y) (ending_is_fine D n k y low same) few (no_cause flags e (k + 1) count y c (omega (arith, h)) few)

  pub small : (e : Emission) (k count x : ℕ) → k + count ≡ n → blocks_size (map (block_tree e) (generated_from n k count x)) ≤ 24 * count
  small e k zero x h = omega arith
  small e k (suc count) x h =
      let y = next_number x in
      let low : k < n = omega (arith, h) in
      let ts = map (block_tree e) (generated_from n (k + 1) count y) in
      let own = pair_size D (first_of y) (ending n k y) (first_is_fine y) (ending_is_fine D n k y low same) in
      let rest = small e (k + 1) count y (omega (arith, h)) in
      subst (λ t. tree_size t + blocks_size ts ≤ 24 * suc count) (sym (drawn_tree e k y low)) (sum_of_sizes (tree_size (pair (first_of y) (ending n k y))) (blocks_size ts) count own rest)

  pub no_relocs : (e : Emission) (at : ℕ → ℕ) (k count x : ℕ) → k + count ≡ n → (l m : ℕ) → relocs_from at l (steps_from m (map (block_tree e) (generated_from n k count x))) ≡ []
  no_relocs e at k zero x h l m = refl
  no_relocs e at k (suc count) x h l m =
      let y = next_number x in
      let low : k < n = omega (arith, h) in
      let ts = map (block_tree e) (generated_from n (k + 1) count y) in
      ap (λ t. relocs_from at l (steps_from m (t ∷ ts))) (drawn_tree e k y low)
      ∙ pair_relocs D at l m (first_of y) (ending n k y) ts (first_is_fine y) (ending_is_fine D n k y low same) (no_relocs e at (k + 1) count y (omega (arith, h)))

-- so many blocks are drawn
pub count_from : (e : Emission) (n k count x : ℕ) → length (map (block_tree e) (generated_from n k count x)) ≡ count
count_from e n k zero x = refl
count_from e n k (suc count) x = omega (arith, count_from e n (k + 1) count (next_number x))
