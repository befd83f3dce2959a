-- What the premises tell of a step: where its bytes and those of its rows stand, and the places of its targets.
use Rattle.std.proofs.Common.{◌≡◌, ℕ, zero, suc, ◌+◌, ◌%◌, ◌<◌, ◌≤◌, List, [], ◌∷◌, ◌++◌, length, Option, Some, None, refl, sym, ap, ◌∙◌, subst, arith, append_assoc, length-append, slice_get}
use Rattle.std.specs.Prelude.{pos}
use Rattle.s390x_format.specs.Formats.{length_of}
use Rattle.s390x_format.proofs.Encoding.{encode-length}
use Rattle.s390x_rows.specs.declared.opcodes.TheConstants as opcodes
use Rattle.s390x_typed_steps.specs.MachineInstruction.{ril_b, ril_c}
use Rattle.s390x_typed_steps.specs.Steps.{Step}
use Rattle.s390x_typed_steps.specs.Parts.{CodePart, Row, Trapping, Branch, Relative, RelativeConstant, RelativeSymbol, CallSymbol, part_size, parts_size, step_parts, step_size}
use Rattle.s390x_typed_steps.specs.Rows.{Offsets, target_offset, half_distance, part_bytes, parts_bytes, step_bytes}
use Rattle.s390x_operations.specs.State.{wrapping_add64}
use Rattle.s390x_machine.specs.Layout.{Layout, step_address, block_address, InStep}
use Rattle.s390x_machine.specs.CodeAt.{CodeAt, AllCodeAt, ImageAt, IsBlock, StepAt}
use Rattle.s390x_machine.proofs.Addresses.{sum_more}
use Rattle.s390x_machine.proofs.Fetching.{StandsAt, size_even}

-- the bytes of parts are as many as their sizes say
pub part_length : (P : Offsets) (p : ℕ) (part : CodePart) → length (part_bytes P p part) ≡ part_size part
unfolding length_of
part_length P p (Row m) = encode-length m.format m.slots
part_length P p (Trapping m byte code) = encode-length m.format m.slots
part_length P p (Branch mask target) = let m = ril_c opcodes.BRCL mask (half_distance p (target_offset P target)) in encode-length m.format m.slots
part_length P p (Relative opcode register target) = let m = ril_b opcode register (half_distance p (target_offset P target)) in encode-length m.format m.slots
part_length P p (RelativeConstant opcode register c) = let m = ril_b opcode register (half_distance p (P.environment.constant c)) in encode-length m.format m.slots
part_length P p (RelativeSymbol opcode register name offset) = let m = ril_b opcode register (P.environment.symbol_distance p name offset) in encode-length m.format m.slots
part_length P p (CallSymbol (Some link) name) = let m = ril_b opcodes.BRASL link (P.environment.symbol_distance p name (pos 0)) in encode-length m.format m.slots
part_length P p (CallSymbol None name) = let m = ril_c opcodes.BRCL 15 (P.environment.symbol_distance p name (pos 0)) in encode-length m.format m.slots
part_length P p part = refl

parts_length : (P : Offsets) (p : ℕ) (parts : List CodePart) → length (parts_bytes P p parts) ≡ parts_size parts
parts_length P p [] = refl
parts_length P p (part ∷ parts) =
    omega (arith, length-append (part_bytes P p part) (parts_bytes P (p + part_size part) parts), part_length P p part, parts_length P (p + part_size part) parts)

parts_even : (parts : List CodePart) → parts_size parts % 2 ≡ 0
parts_even [] = refl
parts_even (Row m ∷ parts) = omega (arith, size_even m.format, parts_even parts)
parts_even (Trapping m byte code ∷ parts) = omega (arith, size_even m.format, parts_even parts)
parts_even (part ∷ parts) = omega (arith, parts_even parts)

pub part_even : (part : CodePart) → part_size part % 2 ≡ 0
part_even part = omega (arith, parts_even (part ∷ []))

pub step_even : (s : Step) → step_size s % 2 ≡ 0
step_even s = parts_even (step_parts s)

pub step_length : (P : Offsets) (p : ℕ) (s : Step) → length (step_bytes P p s) ≡ step_size s
step_length P p s = parts_length P p (step_parts s)

-- a step's bytes end in the image
pub step_within : (L : Layout) (k : ℕ) (s : Step) → CodeAt L k s → L.offsets.step (suc k) ≤ length L.image.bytes
step_within L k s p =
    let n1 = ap length p.bytes in
    let n2 = length-append p.earlier (step_bytes L.offsets (L.offsets.step k) s ++ p.later) in
    let n3 = length-append (step_bytes L.offsets (L.offsets.step k) s) p.later in
    omega (arith, n1, n2, n3, p.offset, p.size, step_length L.offsets (L.offsets.step k) s)

-- the steps' offsets are even, and lie in the image or at its end
none_past : (xs : List Step) (k : ℕ) → slice_get xs k ≡ None → suc k ≤ length xs → ⊥
none_past [] k e le = absurd (omega arith)
none_past (x ∷ xs) zero e le = absurd (cc)
none_past (x ∷ xs) (suc k) e le = none_past xs k e (omega arith)

next_ok : (L : Layout) → AllCodeAt L → (k : ℕ) → suc k ≤ length L.steps → (L.offsets.step k % 2 ≡ 0) × (L.offsets.step k ≤ length L.image.bytes) → (o : Option Step) → slice_get L.steps k ≡ o → (L.offsets.step (suc k) % 2 ≡ 0) × (L.offsets.step (suc k) ≤ length L.image.bytes)
next_ok L all k le before None e = absurd (none_past L.steps k e le)
next_ok L all k le before (Some s) e = let p = all.steps k s e in (omega (arith, before.0, p.size, step_even s), step_within L k s p)

offset_ok : (L : Layout) → AllCodeAt L → (k : ℕ) → k ≤ length L.steps → (L.offsets.step k % 2 ≡ 0) × (L.offsets.step k ≤ length L.image.bytes)
offset_ok L all zero le = (omega (arith, all.begins), omega (arith, all.begins))
offset_ok L all (suc k) le = next_ok L all k le (offset_ok L all k (omega arith)) (slice_get L.steps k) refl

-- an image that has a function's code
pub image_at : (L : Layout) → AllCodeAt L → ImageAt L
image_at L all = record {
  even = all.even;
  fits = all.fits;
  short = all.short;
  step_places = λ k le. let ok = offset_ok L all k le in (ok.0, omega (arith, ok.1, all.short));
  block_places = λ b is.
      let ok = offset_ok L all (L.first_step b) (all.first_steps b is) in
      let at = all.blocks b is in
      (omega (arith, at, ok.0), omega (arith, at, ok.1, all.short));
  blocks = all.blocks;
}

-- and each of its steps there
pub step_at : (L : Layout) → AllCodeAt L → (k : ℕ) (s : Step) → slice_get L.steps k ≡ Some s → StepAt L k s
step_at L all k s at = record { image = image_at L all; at = at; code = all.steps k s at; constants = λ c lt names. all.constants c lt }

-- ---- the parts of a step

-- the parts stand in the image one after another
abbrev pub PartsStand : Layout → ℕ → List CodePart → Type 0
PartsStand L p [] = Unit {0}
PartsStand L p (part ∷ parts) = StandsAt L.image p (part_bytes L.offsets p part) × PartsStand L (p + part_size part) parts

parts_stand : (L : Layout) (earlier later : List ℕ) (parts : List CodePart) → L.image.bytes ≡ earlier ++ (parts_bytes L.offsets (length earlier) parts ++ later) → PartsStand L (length earlier) parts
parts_stand L earlier later [] e = tt
parts_stand L earlier later (part ∷ parts) e =
    let here = part_bytes L.offsets (length earlier) part in
    let n : length (earlier ++ here) ≡ length earlier + part_size part = length-append earlier here ∙ ap (λ k. length earlier + k) (part_length L.offsets (length earlier) part) in
    let behind = parts_bytes L.offsets (length earlier + part_size part) parts in
    let e1 : L.image.bytes ≡ earlier ++ (here ++ (behind ++ later)) = e ∙ ap (λ l. earlier ++ l) (append_assoc here behind later) in
    let e2 : L.image.bytes ≡ (earlier ++ here) ++ (parts_bytes L.offsets (length (earlier ++ here)) parts ++ later) = e1 ∙ sym (append_assoc earlier here (behind ++ later)) ∙ ap (λ k. (earlier ++ here) ++ (parts_bytes L.offsets k parts ++ later)) (sym n) in
    (record { earlier = earlier; later = behind ++ later; at = refl; is = e1 }, subst (λ k. PartsStand L k parts) n (parts_stand L (earlier ++ here) later parts e2))

pub step_stands : (L : Layout) (k : ℕ) (s : Step) → CodeAt L k s → PartsStand L (L.offsets.step k) (step_parts s)
step_stands L k s p =
    let e : L.image.bytes ≡ p.earlier ++ (step_bytes L.offsets (length p.earlier) s ++ p.later) = p.bytes ∙ ap (λ n. p.earlier ++ (step_bytes L.offsets n s ++ p.later)) p.offset in
    subst (λ n. PartsStand L n (step_parts s)) (sym p.offset) (parts_stand L p.earlier p.later (step_parts s) e)

-- ---- places

-- the place after some bytes of a step
pub inside_at : (L : Layout) (k n size : ℕ) → L.offsets.step (suc k) ≡ L.offsets.step k + size → n < size → InStep L k (wrapping_add64 (step_address L k) n)
inside_at L k n size e lt = record { offset = L.offsets.step k + n; above = omega arith; below = omega (arith, e); is = sum_more L.image.base (L.offsets.step k) n }

pub inside_first : (L : Layout) (k size : ℕ) → L.offsets.step (suc k) ≡ L.offsets.step k + size → 0 < size → InStep L k (step_address L k)
inside_first L k size e lt = record { offset = L.offsets.step k; above = omega arith; below = omega (arith, e); is = refl }

-- the place behind a step's bytes
pub next_place : (L : Layout) (k size : ℕ) → L.offsets.step (suc k) ≡ L.offsets.step k + size → wrapping_add64 (step_address L k) size ≡ step_address L (suc k)
next_place L k size e = sum_more L.image.base (L.offsets.step k) size ∙ ap (λ n. wrapping_add64 L.image.base n) (sym e)

-- a block begins at its first step
pub block_begins : (L : Layout) → ImageAt L → (b : ℕ) → IsBlock L b → block_address L b ≡ step_address L (L.first_step b)
block_begins L image b is = ap (λ n. wrapping_add64 L.image.base n) (image.blocks b is)

pub block_at : (L : Layout) → AllCodeAt L → (b : ℕ) → IsBlock L b → block_address L b ≡ step_address L (L.first_step b)
block_at L all b is = block_begins L (image_at L all) b is
