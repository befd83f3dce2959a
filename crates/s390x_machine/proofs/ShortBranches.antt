-- A short branch leads so many bytes on from its own place.
use Rattle.std.proofs.Common.{◌≡◌, ℕ, ◌%◌, ◌^◌, ◌<◌, pos, ap, ◌∙◌, subst, arith}
use Rattle.std.specs.Prelude.{◌+ℤ◌, ◌*ℤ◌}
use Rattle.std.specs.Int.{w16, cast_signed}
use Rattle.s390x_format.specs.declared.kind.FormatKind.TheVariants.{RiC}
use Rattle.s390x_format.specs.Formats.{length_of}
use Rattle.s390x_operations.specs.Numbers.{low}
use Rattle.s390x_operations.specs.State.{wrapping_add64}
use Rattle.s390x_operations.specs.declared.size.Size.TheVariants as Size
use Rattle.s390x_rows.specs.declared.opcodes.TheConstants as opcodes
use Rattle.s390x_typed_steps.specs.MachineInstruction.{bytes_of, ri_c}
use Rattle.s390x_machine.specs.declared.action_type.Action.TheVariants.{Branch}
use Rattle.s390x_machine.specs.CodeAt.{ImageAt}
use Rattle.s390x_machine.specs.Layout.{Layout}
use Rattle.s390x_machine.specs.Machine.{ActionStep}
use Rattle.s390x_machine.specs.Semantics.{semantics_in, semantics_of}
use Rattle.s390x_machine.proofs.Addresses.{moved}
use Rattle.s390x_machine.proofs.Fetching.{StandsAt, row_at}
use Rattle.s390x_machine.proofs.Rows.{brc_listed, fits_ri_c}
use Rattle.s390x_machine.proofs.Simulation.{RowAt}

pub brc_at : (L : Layout) → ImageAt L → (offset : ℕ) → offset % 2 ≡ 0 → (mask half distance : ℕ) → mask < 16 → half < 2 ^ 16 → pos 2 *ℤ cast_signed w16 (half % 2 ^ 16) ≡ pos distance → StandsAt L.image offset (bytes_of (ri_c opcodes.BRC mask half)) →
    RowAt L (wrapping_add64 L.image.base offset) (λ r. Branch mask (wrapping_add64 (wrapping_add64 L.image.base offset) distance)) (length_of RiC)
unfolding semantics_in semantics_of
brc_at L image offset even mask half distance lm lh e s =
    let here = wrapping_add64 L.image.base offset in
    row_at L offset (ri_c opcodes.BRC mask half) (λ r. Branch mask (wrapping_add64 here distance)) image.even even image.fits s (fits_ri_c opcodes.BRC mask half (omega arith) lm lh) (brc_listed mask half) (λ state event t at h.
    subst (λ a. ActionStep (Branch mask a) (length_of RiC) state event t) (ap (λ p. low Size.Doubleword (pos p +ℤ pos 2 *ℤ cast_signed w16 (half % 2 ^ 16))) at ∙ ap (λ z. low Size.Doubleword (pos here +ℤ z)) e ∙ moved here distance) h)
