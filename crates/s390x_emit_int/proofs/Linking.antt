-- Linked code stands as the machine layer asks: its distances lead to the symbols, and its constants stand on their boundaries.
use Rattle.std.proofs.Common.{◌≡◌, ℕ, zero, suc, ◌+◌, ◌%◌, ◌^◌, ◌<◌, ◌≤◌, List, [], ◌∷◌, ◌++◌, length, get_or, Bool, true, false, cond, max, Option, None, Some, refl, sym, ap, ◌∙◌, subst, arith, eqb-true, slice_get, length-append}
use Rattle.std.specs.Prelude.{pos, ◌+ℤ◌, ◌*ℤ◌}
use Rattle.std.specs.Int.{w32, cast_signed}
use Rattle.std.proofs.lemmas.Bool.{leb-true, and_parts}
use Rattle.std.proofs.lemmas.List.{length-map}
use Rattle.s390x_buffer.specs.State.{Constant, is_alignment, all_aligned, new_cause}
use Rattle.s390x_buffer.specs.Constants.{constant_starts, constant_bytes, constants_end, greatest_align}
use Rattle.s390x_buffer.specs.declared.entries.MachBufferFinalized.{MachBufferFinalized}
use Rattle.s390x_buffer.specs.declared.entries.RelocEntry.{RelocEntry}
use Rattle.s390x_buffer.proofs.Placing.{length-constant_bytes}
use Rattle.s390x_image.specs.Causes.{first_link_cause as first_link, base_cause, reloc_cause, relocs_cause, link_cause}
use Rattle.s390x_image.specs.Fields.{with_fields_filled}
use Rattle.s390x_image.specs.Values.{symbol_value, symbol_distance}
use Rattle.s390x_image.specs.ReadingBack.{distance_leads, call_leads}
use Rattle.s390x_image.specs.Symbols.{Symbols}
use Rattle.s390x_image.specs.declared.error.LinkError.{LinkError}
use Rattle.s390x_operations.specs.Numbers.{low}
use Rattle.s390x_operations.specs.State.{CodeImage, wrapping_add64}
use Rattle.s390x_operations.specs.declared.size.Size.TheVariants.{Doubleword}
use Rattle.s390x_machine.specs.Layout.{Layout}
use Rattle.s390x_machine.specs.CodeAt.{IsFoldedRight, IsValidStep, PartReaches, PartsReach, ConstantStands}
use Rattle.s390x_machine.specs.Functions.{function_layout, StandsAsCode}
use Rattle.s390x_typed_steps.specs.Tree.{Tree}
use Rattle.s390x_typed_steps.specs.Steps.{Step, step_count, steps_of, steps_from, function_steps}
use Rattle.s390x_typed_steps.specs.Parts.{CodePart, RelativeSymbol, part_size, parts_size, step_parts, CallSymbol}
use Rattle.s390x_typed_steps.specs.Rows.{LinkEnvironment}
use Rattle.s390x_typed_steps.specs.Image.{step_offset, offsets, unlinked_environment, function_code}
use Rattle.s390x_typed_steps.specs.Relocs.{part_relocs, parts_relocs, step_relocs, relocs_from, function_relocs}
use Rattle.s390x_typed_steps.specs.Sizes.{blocks_size}
use Rattle.s390x_typed_steps.specs.Causes.{aligns_of}
use Rattle.s390x_emit_int.specs.Bound.{StepsFollow}
use Rattle.s390x_emit_int.specs.Function.{IsFinishedCode}
use Rattle.s390x_emit_int.specs.Headline.{linked_environment}
use Rattle.s390x_emit_int.proofs.Constants.{IsAlignment, byte, halfword, word, doubleword, quadword, alignment_of, aligned_constants, starts_of, greatest_ge}
use Rattle.s390x_emit_int.proofs.Filling.{function_filled, linked_length, code_length}
use Rattle.s390x_emit_int.proofs.Functions.{place_follows, place_zero}
use Rattle.s390x_emit_int.proofs.Joining.{total, total_append, steps_total}

first_of_links : (a b : Option LinkError) → first_link a b ≡ None → a ≡ None
first_of_links None b h = refl
first_of_links (Some e) b h = h

-- two tests that passed
pub two_passed : {E : Type 0} (s t : Bool) (d e : E) → cond s (cond t None (Some d)) (Some e) ≡ None → (s ≡ true) × (t ≡ true)
two_passed true true d e h = (refl, refl)
two_passed true false d e h = absurd (cc)
two_passed false t d e h = absurd (cc)

-- an alignment that code may have
pub data IsCodeAlignment (a : ℕ) : Type 0 where
  four : a ≡ 4 → IsCodeAlignment a
  eight : a ≡ 8 → IsCodeAlignment a
  sixteen : a ≡ 16 → IsCodeAlignment a

-- it stays one, whatever a constant asks for
max_four : (x : ℕ) → is_alignment x ≡ true → IsCodeAlignment (max 4 x)
max_four x h = greater (alignment_of x h)
  where
    greater : IsAlignment x → IsCodeAlignment (max 4 x)
    greater (byte e) = four (omega arith)
    greater (halfword e) = four (omega arith)
    greater (word e) = four (omega arith)
    greater (doubleword e) = eight (omega arith)
    greater (quadword e) = sixteen (omega arith)

max_of : (a x : ℕ) → IsCodeAlignment a → IsCodeAlignment (max 4 x) → IsCodeAlignment (max a x)
max_of a x (four e) (four f) = four (omega arith)
max_of a x (four e) (eight f) = eight (omega arith)
max_of a x (four e) (sixteen f) = sixteen (omega arith)
max_of a x (eight e) (four f) = eight (omega arith)
max_of a x (eight e) (eight f) = eight (omega arith)
max_of a x (eight e) (sixteen f) = sixteen (omega arith)
max_of a x (sixteen e) (four f) = sixteen (omega arith)
max_of a x (sixteen e) (eight f) = sixteen (omega arith)
max_of a x (sixteen e) (sixteen f) = sixteen (omega arith)

greatest : (a : ℕ) (cs : List Constant) → IsCodeAlignment a → all_aligned cs ≡ true → IsCodeAlignment (greatest_align a cs)
greatest a [] h all = h
greatest a (c ∷ cs) h all =
    let p = and_parts (is_alignment c.align) (all_aligned cs) all in
    greatest (max a c.align) cs (max_of a c.align h (max_four c.align p.0)) p.1

even_base : (base a : ℕ) → IsCodeAlignment a → base % a ≡ 0 → base % 2 ≡ 0
even_base base a (four e) h = let k : base % 4 ≡ 0 = subst (λ x. base % x ≡ 0) e h in omega arith
even_base base a (eight e) h = let k : base % 8 ≡ 0 = subst (λ x. base % x ≡ 0) e h in omega arith
even_base base a (sixteen e) h = let k : base % 16 ≡ 0 = subst (λ x. base % x ≡ 0) e h in omega arith

-- ---- constants stand on their boundaries

-- the image's base is on the boundary of each constant
base_on : (base a g : ℕ) → IsAlignment a → IsCodeAlignment g → a ≤ g → base % g ≡ 0 → base % a ≡ 0
base_on base a g (byte e) of le h = subst (λ x. base % x ≡ 0) (sym e) (omega arith)
base_on base a g (halfword e) of le h = subst (λ x. base % x ≡ 0) (sym e) (even_base base g of h)
base_on base a g (word e) (four f) le h = let k : base % 4 ≡ 0 = subst (λ x. base % x ≡ 0) f h in subst (λ x. base % x ≡ 0) (sym e) k
base_on base a g (word e) (eight f) le h = let k : base % 8 ≡ 0 = subst (λ x. base % x ≡ 0) f h in let j : base % 4 ≡ 0 = omega arith in subst (λ x. base % x ≡ 0) (sym e) j
base_on base a g (word e) (sixteen f) le h = let k : base % 16 ≡ 0 = subst (λ x. base % x ≡ 0) f h in let j : base % 4 ≡ 0 = omega arith in subst (λ x. base % x ≡ 0) (sym e) j
base_on base a g (doubleword e) (four f) le h = absurd (omega arith)
base_on base a g (doubleword e) (eight f) le h = let k : base % 8 ≡ 0 = subst (λ x. base % x ≡ 0) f h in subst (λ x. base % x ≡ 0) (sym e) k
base_on base a g (doubleword e) (sixteen f) le h = let k : base % 16 ≡ 0 = subst (λ x. base % x ≡ 0) f h in let j : base % 8 ≡ 0 = omega arith in subst (λ x. base % x ≡ 0) (sym e) j
base_on base a g (quadword e) (four f) le h = absurd (omega arith)
base_on base a g (quadword e) (eight f) le h = absurd (omega arith)
base_on base a g (quadword e) (sixteen f) le h = let k : base % 16 ≡ 0 = subst (λ x. base % x ≡ 0) f h in subst (λ x. base % x ≡ 0) (sym e) k

-- and so is a sum with a place that is, modulo 2 ^ 64
sum_on : (base start a : ℕ) → IsAlignment a → base % a ≡ 0 → start % a ≡ 0 → wrapping_add64 base start % a ≡ 0
sum_on base start a (byte e) h k = subst (λ x. wrapping_add64 base start % x ≡ 0) (sym e) (omega arith)
sum_on base start a (halfword e) h k = let i : base % 2 ≡ 0 = subst (λ x. base % x ≡ 0) e h in let j : start % 2 ≡ 0 = subst (λ x. start % x ≡ 0) e k in let l : wrapping_add64 base start % 2 ≡ 0 = omega arith in subst (λ x. wrapping_add64 base start % x ≡ 0) (sym e) l
sum_on base start a (word e) h k = let i : base % 4 ≡ 0 = subst (λ x. base % x ≡ 0) e h in let j : start % 4 ≡ 0 = subst (λ x. start % x ≡ 0) e k in let l : wrapping_add64 base start % 4 ≡ 0 = omega arith in subst (λ x. wrapping_add64 base start % x ≡ 0) (sym e) l
sum_on base start a (doubleword e) h k = let i : base % 8 ≡ 0 = subst (λ x. base % x ≡ 0) e h in let j : start % 8 ≡ 0 = subst (λ x. start % x ≡ 0) e k in let l : wrapping_add64 base start % 8 ≡ 0 = omega arith in subst (λ x. wrapping_add64 base start % x ≡ 0) (sym e) l
sum_on base start a (quadword e) h k = let i : base % 16 ≡ 0 = subst (λ x. base % x ≡ 0) e h in let j : start % 16 ≡ 0 = subst (λ x. start % x ≡ 0) e k in let l : wrapping_add64 base start % 16 ≡ 0 = omega arith in subst (λ x. wrapping_add64 base start % x ≡ 0) (sym e) l

-- ---- distances lead to symbols

second_of_links : (a b : Option LinkError) → first_link a b ≡ None → b ≡ None
second_of_links None b h = h
second_of_links (Some e) b h = absurd (cc)

links_none : (a b : Option LinkError) → a ≡ None → b ≡ None → first_link a b ≡ None
links_none a b ha hb = ap (λ x. first_link x b) ha ∙ hb

low_small : (n : ℕ) → n < 2 ^ 64 → low Doubleword (pos n) ≡ n
low_small n h = omega arith

-- how many bytes the steps have
blocks_total : (ts : List Tree) (k : ℕ) → total (steps_from k ts) ≡ blocks_size ts
blocks_total [] k = refl
blocks_total (t ∷ ts) k = omega (arith, total_append (steps_of k 0 t) (steps_from (k + step_count t) ts), steps_total t k 0, blocks_total ts (k + step_count t))

module _ (symbols : Symbols) (base : ℕ) where
  first_relocs : (rs qs : List RelocEntry) → relocs_cause base symbols (rs ++ qs) ≡ None → relocs_cause base symbols rs ≡ None
  first_relocs [] qs h = refl
  first_relocs (r ∷ rs) qs h = links_none (reloc_cause base symbols r) (relocs_cause base symbols rs) (first_of_links _ _ h) (first_relocs rs qs (second_of_links (reloc_cause base symbols r) _ h))

  last_relocs : (rs qs : List RelocEntry) → relocs_cause base symbols (rs ++ qs) ≡ None → relocs_cause base symbols qs ≡ None
  last_relocs [] qs h = h
  last_relocs (r ∷ rs) qs h = last_relocs rs qs (second_of_links (reloc_cause base symbols r) _ h)

  module _ (ts : List Tree) (cs : List Constant) (bytes : List ℕ) where
    abbrev here : Layout
    here = function_layout (linked_environment symbols base ts cs) ts (record { base = base; bytes = bytes })

    part_reaches : (part : CodePart) (p : ℕ) → base + (p + part_size part) ≤ 2 ^ 64 → relocs_cause base symbols (part_relocs p part) ≡ None → PartReaches here p part
    part_reaches (RelativeSymbol opcode register name offset) p room h =
        let leads = distance_leads base symbols p name offset (first_of_links _ _ h) in
        let at : wrapping_add64 base p ≡ base + p = omega arith in (
          leads.0,
          ap (λ n. low Doubleword (pos n +ℤ pos 2 *ℤ cast_signed w32 (symbol_distance base symbols p name offset))) at ∙ ap (low Doubleword) leads.2 ∙ low_small (symbol_value symbols name offset) leads.1,
        )
    part_reaches (CallSymbol link name) p room h =
        let leads = call_leads base symbols p name (first_of_links _ _ h) in
        let at : wrapping_add64 base p ≡ base + p = omega arith in (
          leads.0,
          ap (λ n. low Doubleword (pos n +ℤ pos 2 *ℤ cast_signed w32 (symbol_distance base symbols p name (pos 0)))) at ∙ ap (low Doubleword) leads.2 ∙ low_small (symbol_value symbols name (pos 0)) leads.1,
        )
    part_reaches part p room h = tt

    parts_reach : (parts : List CodePart) (p : ℕ) → base + (p + parts_size parts) ≤ 2 ^ 64 → relocs_cause base symbols (parts_relocs p parts) ≡ None → PartsReach here p parts
    parts_reach [] p room h = tt
    parts_reach (part ∷ parts) p room h =
        let rs = part_relocs p part in
        let qs = parts_relocs (p + part_size part) parts in
        (part_reaches part p (omega arith) (first_relocs rs qs h), parts_reach parts (p + part_size part) (omega arith) (last_relocs rs qs h))

    steps_reach : (at : ℕ → ℕ) (ss : List Step) (k j : ℕ) (s : Step) → StepsFollow at k ss → base + (at k + total ss) ≤ 2 ^ 64 → relocs_cause base symbols (relocs_from at k ss) ≡ None → slice_get ss j ≡ Some s → PartsReach here (at (k + j)) (step_parts s)
    steps_reach at [] k j s follow room h e = absurd (cc)
    steps_reach at (x ∷ ss) k zero s follow room h e =
        let same : x ≡ s = cc in
        let z : k ≡ k + 0 = omega arith in
        subst (λ n. PartsReach here (at n) (step_parts s)) z
        (subst (λ y. PartsReach here (at k) (step_parts y)) same (parts_reach (step_parts x) (at k) (omega arith) (first_relocs (step_relocs (at k) x) (relocs_from at (k + 1) ss) h)))
    steps_reach at (x ∷ ss) k (suc j) s follow room h e =
        let z : k + 1 + j ≡ k + suc j = omega arith in
        subst (λ n. PartsReach here (at n) (step_parts s)) z
        (steps_reach at ss (k + 1) j s follow.1 (omega (arith, follow.0, room)) (last_relocs (step_relocs (at k) x) (relocs_from at (k + 1) ss) h) e)

    constant_stands : (c : ℕ) → c < length cs → all_aligned cs ≡ true → base % greatest_align 4 cs ≡ 0 → length bytes ≡ constants_end (blocks_size ts) cs → ConstantStands here c
    constant_stands c lt all multiple ends =
        let start = get_or (constant_starts (blocks_size ts) cs) c 0 in
        let align = get_or (aligns_of cs) c 0 in
        let s = starts_of cs (blocks_size ts) c all lt in
        let kind = alignment_of align s.alignment in
        record {
          within = omega (arith, s.below, ends);
          even = s.on.0;
          alignment = s.alignment;
          aligned = sum_on base start align kind (base_on base align (greatest_align 4 cs) kind (greatest 4 cs (four refl) all) (greatest_ge cs 4 c lt) multiple) s.on.1;
        }

-- each step is one that emission lets pass
abbrev pub AllValid : LinkEnvironment → List Tree → CodeImage → Type 0
AllValid environment ts image = (k : ℕ) (s : Step) → slice_get (function_steps ts) k ≡ Some s → IsValidStep (function_layout environment ts image) s

-- and leads on where it has lost branches
abbrev pub AllFolded : LinkEnvironment → List Tree → CodeImage → Type 0
AllFolded environment ts image = (k : ℕ) (s : Step) → slice_get (function_steps ts) k ≡ Some s → IsFoldedRight (function_layout environment ts image) k s

-- linked code stands as the machine layer asks, where each step is fine
pub stands_as_code : (ts : List Tree) (cs : List Constant) (f : MachBufferFinalized) (base : ℕ) (symbols : Symbols) → new_cause (length ts) cs ≡ None → IsFinishedCode ts cs f → link_cause f base symbols ≡ None → ((image : CodeImage) → AllValid (linked_environment symbols base ts cs) ts image) → ((image : CodeImage) → AllFolded (linked_environment symbols base ts cs) ts image) →
    StandsAsCode (linked_environment symbols base ts cs) ts (record { base = base; bytes = with_fields_filled base symbols f.relocs.items f.bytes.items })
stands_as_code ts cs f base symbols declared image links valid_steps folded_steps =
    let ss = function_steps ts in
    let constants = constant_bytes (blocks_size ts) cs in
    let environment = linked_environment symbols base ts cs in
    let before = function_code (unlinked_environment ts cs) ts in
    let code : CodeImage = record { base = base; bytes = with_fields_filled base symbols f.relocs.items f.bytes.items } in
    let is : code.bytes ≡ function_code environment ts ++ constants = ap (λ rs. with_fields_filled base symbols rs f.bytes.items) image.relocs ∙ ap (with_fields_filled base symbols (function_relocs ts)) image.bytes ∙ function_filled base symbols ts cs constants in
    let size : length code.bytes ≡ length f.bytes.items = ap length is ∙ linked_length (unlinked_environment ts cs) environment ts constants ∙ ap length (sym image.bytes) in
    let whole : length f.bytes.items ≡ total ss + length constants = ap length image.bytes ∙ length-append before constants ∙ ap (λ n. n + length constants) (code_length (offsets (unlinked_environment ts cs) ts) 0 ss) in
    let ends : length code.bytes ≡ constants_end (blocks_size ts) cs = size ∙ whole ∙ ap (λ n. n + length constants) (blocks_total ts 0) ∙ length-constant_bytes (blocks_size ts) cs in
    let aligned : all_aligned cs ≡ true = aligned_constants _ _ _ declared in
    let causes = base_cause f.alignment (length f.bytes.items) base in
    let two = two_passed _ _ _ _ (first_of_links causes (relocs_cause base symbols f.relocs.items) links) in
    let multiple : base % greatest_align 4 cs ≡ 0 = ap (λ a. base % a) (sym image.alignment) ∙ eqb-true (base % f.alignment) 0 two.0 in
    let below : base + length f.bytes.items ≤ 18446744073709551616 = leb-true (base + length f.bytes.items) 18446744073709551616 two.1 in
    let filling : relocs_cause base symbols (function_relocs ts) ≡ None = ap (relocs_cause base symbols) (sym image.relocs) ∙ second_of_links causes (relocs_cause base symbols f.relocs.items) links in
    record {
      constants = constants;
      bytes = is;
      even = even_base base (greatest_align 4 cs) (greatest 4 cs (four refl) aligned) multiple;
      fits = omega (arith, size, below);
      short = omega (arith, size, image.short);
      valid = valid_steps code;
      folded = folded_steps code;
      reached = λ k s e.
          let z : 0 + k ≡ k = omega arith in
          subst (λ j. PartsReach (function_layout environment ts code) (step_offset ss j) (step_parts s)) z (steps_reach symbols base ts cs code.bytes (step_offset ss) ss 0 k s (place_follows ss) (omega (arith, place_zero ss, whole, below)) filling e);
      stand = λ c h. constant_stands symbols base ts cs code.bytes c (omega (arith, length-map cs (λ (c : Constant). c.align), h)) aligned multiple ends;
    }
