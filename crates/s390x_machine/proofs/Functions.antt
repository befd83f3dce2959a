-- Code that stands behind some bytes of an image; and the layout of a function whose code stands at the beginning of one.
use Rattle.std.proofs.Common.{◌≡◌, ℕ, zero, suc, ◌+◌, ◌%◌, ◌^◌, ◌<◌, ◌≤◌, List, [], ◌∷◌, ◌++◌, length, Some, refl, sym, ap, ◌∙◌, arith, append_assoc, length-append, slice_get}
use Rattle.std.proofs.lemmas.Option.{slice_get_within}
use Rattle.s390x_typed_steps.specs.Tree.{Tree, empty, leaf, loop_node}
use Rattle.s390x_typed_steps.specs.Steps.{Step, Back, step_count, steps_of, steps_from, function_steps, first_step}
use Rattle.s390x_typed_steps.specs.Parts.{step_parts, step_size}
use Rattle.s390x_typed_steps.specs.Rows.{LinkEnvironment, Offsets, step_bytes}
use Rattle.s390x_typed_steps.specs.Image.{step_offset, code}
use Rattle.s390x_typed_steps.specs.Traps.{first_code, step_traps}
use Rattle.s390x_typed_steps.proofs.Traps.{step_codes, place_first}
use Rattle.s390x_operations.specs.State.{CodeImage}
use Rattle.s390x_machine.specs.CodeAt.{AllCodeAt, CodeAt, IsFoldedRight, IsPlace, IsValidStep, PartsReach}
use Rattle.s390x_machine.specs.Functions.{function_layout, StandsAsCode}
use Rattle.s390x_machine.specs.Layout.{Layout}
use Rattle.s390x_machine.proofs.Standing.{step_even, step_length}

-- a step's bytes in the code, and what stands before them and behind
record Cut (P : Offsets) (k : ℕ) (ss : List Step) (j : ℕ) (s : Step) : Type 0 where
  earlier : List ℕ
  later : List ℕ
  bytes : code P k ss ≡ earlier ++ (step_bytes P (P.step (k + j)) s ++ later)
  offset : length earlier ≡ step_offset ss j

place_next : (ss : List Step) (j : ℕ) (s : Step) → slice_get ss j ≡ Some s → step_offset ss (suc j) ≡ step_offset ss j + step_size s
place_next [] j s e = absurd (cc)
place_next (x ∷ ss) zero s e = let same : x ≡ s = cc in let sizes : step_size x ≡ step_size s = ap step_size same in omega (arith, sizes, place_first ss)
place_next (x ∷ ss) (suc j) s e = let next = place_next ss j s e in omega (arith, next)

cut : (P : Offsets) (k : ℕ) (ss : List Step) (j : ℕ) (s : Step) → slice_get ss j ≡ Some s → Cut P k ss j s
cut P k [] j s e = absurd (cc)
cut P k (x ∷ ss) zero s e =
    let same : x ≡ s = cc in
    let z : k ≡ k + 0 = omega arith in
    record { earlier = []; later = code P (k + 1) ss; bytes = ap (λ y. step_bytes P (P.step k) y ++ code P (k + 1) ss) same ∙ ap (λ n. step_bytes P (P.step n) s ++ code P (k + 1) ss) z; offset = refl }
cut P k (x ∷ ss) (suc j) s e =
    let b = step_bytes P (P.step k) x in
    let c = cut P (k + 1) ss j s e in
    let z : k + 1 + j ≡ k + suc j = omega arith in
    record {
      earlier = b ++ c.earlier;
      later = c.later;
      bytes = ap (λ l. b ++ l) (c.bytes ∙ ap (λ n. c.earlier ++ (step_bytes P (P.step n) s ++ c.later)) z) ∙ sym (append_assoc b c.earlier (step_bytes P (P.step (k + suc j)) s ++ c.later));
      offset = omega (arith, length-append b c.earlier, step_length P (P.step k) x, c.offset);
    }

-- ---- how many steps there are

pub count_of : (k after : ℕ) (t : Tree) → length (steps_of k after t) ≡ step_count t
count_of k after empty = refl
count_of k after (leaf b rest) = omega (arith, count_of (k + 1) after rest)
count_of k after (loop_node mask members rest) =
    let m = steps_of (k + 1) (k + 2 + step_count members) members in
    let r = steps_of (k + 2 + step_count members) after rest in
    omega (arith, length-append m (Back mask (k + 1) ∷ r), count_of (k + 1) (k + 2 + step_count members) members, count_of (k + 2 + step_count members) after rest)

first_within : (k : ℕ) (ts : List Tree) (b : ℕ) → first_step ts b ≤ length (steps_from k ts)
first_within k [] b = omega arith
first_within k (t ∷ ts) zero = omega arith
first_within k (t ∷ ts) (suc b) =
    omega (arith, length-append (steps_of k 0 t) (steps_from (k + step_count t) ts), count_of k 0 t, first_within (k + step_count t) ts b)

-- ---- code behind some bytes of an image

offset_within : (P : Offsets) (m : ℕ) (ss : List Step) (k : ℕ) → step_offset ss k ≤ length (code P m ss)
offset_within P m [] k = omega arith
offset_within P m (s ∷ ss) zero = omega arith
offset_within P m (s ∷ ss) (suc k) = omega (arith, length-append (step_bytes P (P.step m) s) (code P (m + 1) ss), step_length P (P.step m) s, offset_within P (m + 1) ss k)

offset_even : (ss : List Step) (k : ℕ) → step_offset ss k % 2 ≡ 0
offset_even [] k = refl
offset_even (s ∷ ss) zero = refl
offset_even (s ∷ ss) (suc k) = omega (arith, step_even s, offset_even ss k)

module _ (L : Layout) (before later : List ℕ) (bytes : L.image.bytes ≡ before ++ (code L.offsets 0 L.steps ++ later)) (offsets : (j : ℕ) → j ≤ length L.steps → L.offsets.step j ≡ length before + step_offset L.steps j) where
  pub code_behind : (k : ℕ) (s : Step) → slice_get L.steps k ≡ Some s → ((offset : ℕ) → L.offsets.step k ≤ offset → offset < L.offsets.step (suc k) → first_code L.traps offset ≡ first_code (step_traps (L.offsets.step k) s) offset) → IsValidStep L s → IsFoldedRight L k s →
      PartsReach L (L.offsets.step k) (step_parts s) → CodeAt L k s
  code_behind k s at traps valid folded reached =
      let c = cut L.offsets 0 L.steps k s at in
      let within = slice_get_within L.steps k s at in
      let here = offsets k (omega (arith, within)) in
      let next = offsets (suc k) within in
      let z : 0 + k ≡ k = omega arith in
      let own : ℕ → List ℕ = λ n. step_bytes L.offsets (L.offsets.step n) s in
      record {
        earlier = before ++ c.earlier;
        later = c.later ++ later;
        offset = omega (arith, here, length-append before c.earlier, c.offset);
        bytes = bytes ∙ ap (λ l. before ++ (l ++ later)) (c.bytes ∙ ap (λ n. c.earlier ++ (own n ++ c.later)) z) ∙ ap (λ l. before ++ l) (append_assoc c.earlier (own k ++ c.later) later ∙ ap (λ l. c.earlier ++ l) (append_assoc (own k) c.later later)) ∙ sym (append_assoc before c.earlier (own k ++ (c.later ++ later)));
        size = omega (arith, here, next, place_next L.steps k s at);
        traps = traps;
        valid = valid;
        folded = folded;
        reached = reached;
      }

  -- its steps have places
  pub places_behind : length before % 2 ≡ 0 → length L.image.bytes < 2 ^ 31 → (k : ℕ) → k ≤ length L.steps → IsPlace (L.offsets.step k)
  places_behind even short k le =
      let here = offsets k le in
      let all = ap length bytes ∙ length-append before (code L.offsets 0 L.steps ++ later) in
      let own = length-append (code L.offsets 0 L.steps) later in
      (omega (arith, here, even, offset_even L.steps k), omega (arith, here, all, own, offset_within L.offsets 0 L.steps k, short))

-- ---- a function's

none_before : (n : ℕ) → n ≡ 0 + n
none_before n = omega arith

pub function_placed : (environment : LinkEnvironment) (ts : List Tree) (image : CodeImage) → StandsAsCode environment ts image → AllCodeAt (function_layout environment ts image)
function_placed environment ts image h = record {
  even = h.even;
  fits = h.fits;
  short = h.short;
  begins = place_first (function_steps ts);
  steps = λ k s e. code_behind (function_layout environment ts image) [] h.constants h.bytes (λ j le. none_before (step_offset (function_steps ts) j)) k s e (step_codes ts k s e) (h.valid k s e) (h.folded k s e) (h.reached k s e);
  first_steps = λ b is. first_within 0 ts b;
  blocks = λ b is. refl;
  constants = h.stand;
}
