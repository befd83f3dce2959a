-- The rows of the code at their offsets, and what the machine does there.
use Rattle.std.proofs.Common.{◌≡◌, ℕ, ◌+◌, ◌%◌, ◌^◌, ◌<◌, ◌≤◌, [], ◌∷◌, length, refl, sym, ap, ◌∙◌, subst, arith}
use Rattle.s390x_format.specs.declared.kind.FormatKind.TheVariants.{RrfAb, Rs, Rsy}
use Rattle.s390x_format.specs.declared.decoder.Decoded.{Decoded}
use Rattle.s390x_format.specs.Layout.{number, bits, SlotsFit}
use Rattle.s390x_format.specs.Formats.{layout_of, length_of}
use Rattle.s390x_format.specs.Reading.{be_bytes}
use Rattle.s390x_format.specs.Fetch.{machine_rows}
use Rattle.s390x_format.specs.Lookup.{row_for}
use Rattle.s390x_format.specs.Encoded.{IsEncoded, decoded_of}
use Rattle.s390x_format.proofs.Encoding.{listed}
use Rattle.s390x_rows.specs.declared.opcodes.TheConstants as opcodes
use Rattle.s390x_typed_steps.specs.MachineInstruction.{MachineInstruction, bytes_of, rr, rrf_ab, ril_c, rs, rsy}
use Rattle.s390x_operations.specs.State.{Memory, State, IsLoaded, wrapping_add64}
use Rattle.s390x_machine.specs.declared.instruction_fetch.Fetched.TheVariants.{Misplaced, Missing, Unknown, Found}
use Rattle.s390x_machine.specs.Fetch.{IsFound}
use Rattle.s390x_machine.specs.Machine.{Event, FetchedStep, MachineStep}
use Rattle.s390x_machine.proofs.Fetching.{StandsAt, found_at, one_thing}
use Rattle.s390x_machine.proofs.Rows.{fits_rr, fits_rrf_ab, fits_ril_c, fits_rs, fits_rsy, bcr_listed, brcl_listed}
use Rattle.s390x_machine.proofs.Stepping.{found_alike}
use Rattle.s390x_smp.specs.Image.{code, image_at}
use Rattle.s390x_smp.specs.Stores.{IsRow}

-- ---- the rows

abbrev pub sum_row : MachineInstruction
sum_row = rrf_ab opcodes.ARK 4 2 3 0

abbrev pub swap_row : MachineInstruction
swap_row = rs opcodes.CS 2 4 5 0

-- the distance is -8
abbrev pub back_row : MachineInstruction
back_row = ril_c opcodes.BRCL 4 4294967292

abbrev pub return_row : MachineInstruction
return_row = rr opcodes.BCR 15 14

abbrev pub add_row : MachineInstruction
add_row = rsy opcodes.LAAL 4 3 5 0

abbrev pub row_found : MachineInstruction → Decoded
row_found m = decoded_of m.format m.slots

-- a row of the table that stands in the code
pub record StandsInCode (m : MachineInstruction) (o : ℕ) : Type 0 where
  pub even : o % 2 ≡ 0
  pub inside : o < 24
  pub stands : (base : ℕ) → StandsAt (image_at base) o (bytes_of m)
  pub fits : SlotsFit (layout_of m.format) m.slots
  pub is_listed : IsEncoded machine_rows m.format m.slots

sum_listed : IsEncoded machine_rows RrfAb sum_row.slots
unfolding machine_rows row_for
sum_listed = listed machine_rows RrfAb sum_row.slots (omega arith) (refl, refl, refl)

swap_listed : IsEncoded machine_rows Rs swap_row.slots
unfolding machine_rows row_for
swap_listed = listed machine_rows Rs swap_row.slots (omega arith) (refl, refl, refl)

add_listed : IsEncoded machine_rows Rsy add_row.slots
unfolding machine_rows row_for
add_listed = listed machine_rows Rsy add_row.slots (omega arith) (refl, refl, refl)

sum_stands : (base : ℕ) → StandsAt (image_at base) 0 (bytes_of sum_row)
unfolding number bits layout_of length_of be_bytes
sum_stands base = record { earlier = []; later = 0xba ∷ 0x24 ∷ 0x50 ∷ 0x00 ∷ 0xc0 ∷ 0x44 ∷ 0xff ∷ 0xff ∷ 0xff ∷ 0xfc ∷ 0x07 ∷ 0xfe ∷ 0xeb ∷ 0x43 ∷ 0x50 ∷ 0x00 ∷ 0x00 ∷ 0xfa ∷ 0x07 ∷ 0xfe ∷ []; at = refl; is = refl }

swap_stands : (base : ℕ) → StandsAt (image_at base) 4 (bytes_of swap_row)
unfolding number bits layout_of length_of be_bytes
swap_stands base = record { earlier = 0xb9 ∷ 0xf8 ∷ 0x30 ∷ 0x42 ∷ []; later = 0xc0 ∷ 0x44 ∷ 0xff ∷ 0xff ∷ 0xff ∷ 0xfc ∷ 0x07 ∷ 0xfe ∷ 0xeb ∷ 0x43 ∷ 0x50 ∷ 0x00 ∷ 0x00 ∷ 0xfa ∷ 0x07 ∷ 0xfe ∷ []; at = refl; is = refl }

back_stands : (base : ℕ) → StandsAt (image_at base) 8 (bytes_of back_row)
unfolding number bits layout_of length_of be_bytes
back_stands base = record { earlier = 0xb9 ∷ 0xf8 ∷ 0x30 ∷ 0x42 ∷ 0xba ∷ 0x24 ∷ 0x50 ∷ 0x00 ∷ []; later = 0x07 ∷ 0xfe ∷ 0xeb ∷ 0x43 ∷ 0x50 ∷ 0x00 ∷ 0x00 ∷ 0xfa ∷ 0x07 ∷ 0xfe ∷ []; at = refl; is = refl }

loop_return_stands : (base : ℕ) → StandsAt (image_at base) 14 (bytes_of return_row)
unfolding number bits layout_of length_of be_bytes
loop_return_stands base = record { earlier = 0xb9 ∷ 0xf8 ∷ 0x30 ∷ 0x42 ∷ 0xba ∷ 0x24 ∷ 0x50 ∷ 0x00 ∷ 0xc0 ∷ 0x44 ∷ 0xff ∷ 0xff ∷ 0xff ∷ 0xfc ∷ []; later = 0xeb ∷ 0x43 ∷ 0x50 ∷ 0x00 ∷ 0x00 ∷ 0xfa ∷ 0x07 ∷ 0xfe ∷ []; at = refl; is = refl }

add_stands : (base : ℕ) → StandsAt (image_at base) 16 (bytes_of add_row)
unfolding number bits layout_of length_of be_bytes
add_stands base = record { earlier = 0xb9 ∷ 0xf8 ∷ 0x30 ∷ 0x42 ∷ 0xba ∷ 0x24 ∷ 0x50 ∷ 0x00 ∷ 0xc0 ∷ 0x44 ∷ 0xff ∷ 0xff ∷ 0xff ∷ 0xfc ∷ 0x07 ∷ 0xfe ∷ []; later = 0x07 ∷ 0xfe ∷ []; at = refl; is = refl }

add_return_stands : (base : ℕ) → StandsAt (image_at base) 22 (bytes_of return_row)
unfolding number bits layout_of length_of be_bytes
add_return_stands base = record { earlier = 0xb9 ∷ 0xf8 ∷ 0x30 ∷ 0x42 ∷ 0xba ∷ 0x24 ∷ 0x50 ∷ 0x00 ∷ 0xc0 ∷ 0x44 ∷ 0xff ∷ 0xff ∷ 0xff ∷ 0xfc ∷ 0x07 ∷ 0xfe ∷ 0xeb ∷ 0x43 ∷ 0x50 ∷ 0x00 ∷ 0x00 ∷ 0xfa ∷ []; later = []; at = refl; is = refl }

pub sum_there : StandsInCode sum_row 0
sum_there = record { even = refl; inside = omega arith; stands = sum_stands; fits = fits_rrf_ab opcodes.ARK 4 2 3 (omega arith) (omega arith) (omega arith) (omega arith); is_listed = sum_listed }

pub swap_there : StandsInCode swap_row 4
swap_there = record { even = refl; inside = omega arith; stands = swap_stands; fits = fits_rs opcodes.CS 2 4 5 0 (omega arith) (omega arith) (omega arith) (omega arith) (omega arith); is_listed = swap_listed }

pub back_there : StandsInCode back_row 8
back_there = record { even = refl; inside = omega arith; stands = back_stands; fits = fits_ril_c opcodes.BRCL 4 4294967292 (omega arith) (omega arith) (omega arith); is_listed = brcl_listed 4 4294967292 }

pub loop_return_there : StandsInCode return_row 14
loop_return_there = record { even = refl; inside = omega arith; stands = loop_return_stands; fits = fits_rr opcodes.BCR 15 14 (omega arith) (omega arith) (omega arith); is_listed = bcr_listed 15 14 }

pub add_there : StandsInCode add_row 16
add_there = record { even = refl; inside = omega arith; stands = add_stands; fits = fits_rsy opcodes.LAAL 4 3 5 0 (omega arith) (omega arith) (omega arith) (omega arith) (omega arith); is_listed = add_listed }

pub add_return_there : StandsInCode return_row 22
add_return_there = record { even = refl; inside = omega arith; stands = add_return_stands; fits = fits_rr opcodes.BCR 15 14 (omega arith) (omega arith) (omega arith); is_listed = bcr_listed 15 14 }

-- ---- at a row

-- where the image lies in memory, a row is found at its address
pub found_in_code : (base o : ℕ) (m : MachineInstruction) (memory : Memory) (address : ℕ) → base % 4 ≡ 0 → base + 24 ≤ 2 ^ 64 → StandsInCode m o → IsLoaded (image_at base) memory → address ≡ base + o → IsFound memory address (row_found m)
found_in_code base o m memory address aligned fits there loaded at =
    let inside = there.inside in
    let is : wrapping_add64 base o ≡ address = omega (arith, inside, fits, at) in
    let even : base % 2 ≡ 0 = omega (arith, aligned) in
    let short : base + length code ≤ 2 ^ 64 = fits in
    subst (λ p. IsFound memory p (row_found m)) is (found_at (image_at base) memory o m.format m.slots even there.even short loaded (there.stands base) there.fits there.is_listed)

-- the machine's step there is that row's
pub acts_as : (s t : State) (event : Event) (d : Decoded) → IsFound s.core.memory s.address d → MachineStep s event t → FetchedStep (Found d) s event t
acts_as s t event d found step = subst (λ f. FetchedStep f s event t) (one_thing s.core.memory s.address step.fetched (Found d) step.fetches found) step.acts

one_row : (s : State) (d e : Decoded) → IsFound s.core.memory s.address d → IsFound s.core.memory s.address e → d ≡ e
one_row s d e f g = found_alike d e (one_thing s.core.memory s.address (Found d) (Found e) f g)

-- it has no other opcode
pub not_row : (s : State) (d : Decoded) (o p : ℕ) → IsFound s.core.memory s.address d → d.row.opcode ≡ o → (o ≡ p → ⊥) → IsRow p s → ⊥
not_row s d o p found is other row = other (sym is ∙ ap (λ (x : Decoded). x.row.opcode) (one_row s d row.0 found row.1) ∙ row.2)
