-- What the machine does at each built row.
use Rattle.std.proofs.Common.{◌≡◌, ◌≢◌, ℕ, ◌+◌, ◌%◌, ◌^◌, ◌<◌, Bool, true, false, cond, ◌==◌, IsTrue, refl, sym, ap, ◌∙◌, subst, arith, ltb-true, true≢false}
use Rattle.std.specs.Prelude.{pos, ◌+ℤ◌, ◌*ℤ◌, nat_eq, nat_lt, not}
use Rattle.std.specs.Int.{cast_signed}
use Rattle.s390x_rows.specs.declared.opcodes.TheConstants as opcodes
use mir.Syntax.{w32}
use Rattle.std.proofs.lemmas.Bool.{and_parts}
use Rattle.s390x_base.specs.Regs.{number_of, is_int}
use Rattle.s390x_base.specs.declared.regs.Reg.{Reg}
use Rattle.s390x_base.specs.declared.regs.Reg.TheVariants.{Real, Virtual}
use Rattle.s390x_format.specs.declared.kind.FormatKind.TheVariants.{Rr, Rre, RrfAb, RrfCde, RiA, RiB, RiC, RieA, RieD, RieF, RieG, RilA, RilC, Rs, Rsy, RilB, Rx, Rxy, Si, Siy, Sil, Vrx}
use Rattle.s390x_format.specs.Layout.{SlotsFit}
use Rattle.s390x_format.specs.Formats.{layout_of, length_of}
use Rattle.s390x_format.specs.Fits.{fields_from}
use Rattle.s390x_format.specs.Lookup.{row_for}
use Rattle.s390x_format.proofs.Encoding.{listed}
use Rattle.s390x_format.specs.Fetch.{machine_rows}
use Rattle.s390x_format.specs.Encoded.{IsEncoded}
use Rattle.s390x_typed_steps.specs.General.{is_general, is_nonzero, is_scratch}
use Rattle.s390x_typed_steps.specs.MachineInstruction.{bytes_of, rr, rre, rrf_ab, rrf_cde, ri_a, ri_b, ri_c, rie_a, rie_d, rie_f, rie_g, ril_a, ril_c, rs, rsy, ril_b, rx, rxy, si, siy, sil, vrx}
use Rattle.s390x_typed_steps.specs.Rows.{half_distance}
use Rattle.s390x_operations.specs.State.{State, wrapping_add64}
use Rattle.s390x_operations.specs.Numbers.{low}
use Rattle.s390x_operations.specs.declared.size.Size.TheVariants.{Doubleword}
use Rattle.s390x_machine.specs.declared.action_type.Action.TheVariants.{Perform, Branch}
use Rattle.s390x_operations.specs.declared.effect.CodeRule.TheVariants.{Kept}
use Rattle.s390x_operations.specs.declared.operator.Operator.TheVariants.{Move}
use Rattle.s390x_machine.specs.Computations.{on_doublewords, computes_immediate}
use Rattle.s390x_machine.specs.Machine.{Event, ActionStep}
use Rattle.s390x_machine.specs.Semantics.{performs, semantics_in, semantics_of}
use Rattle.s390x_machine.specs.Layout.{Layout}
use Rattle.s390x_machine.specs.CodeAt.{ImageAt}
use Rattle.s390x_machine.proofs.Addresses.{lands}
use Rattle.s390x_machine.proofs.Fetching.{StandsAt, row_at}
use Rattle.s390x_machine.proofs.Simulation.{RowAt}

-- ---- registers

pub general_number : (r : Reg) → IsTrue (is_general r) → number_of r < 16
general_number (Real r) h = ltb-true r.number 16 (and_parts (is_int r.class) (nat_lt r.number 16) h).1
general_number (Virtual n c) h = absurd (cc)

pub nonzero_number : (r : Reg) → IsTrue (is_general r) → IsTrue (is_nonzero r) → number_of r ≢ 0
nonzero_number (Real r) g h = λ e. true≢false (sym h ∙ ap (λ n. not (nat_eq n 0)) e)
nonzero_number (Virtual n c) g h = absurd (cc)

pub unscratched_number : (r : Reg) → IsTrue (is_general r) → IsTrue (not (is_scratch r)) → number_of r ≢ 1
unscratched_number (Real r) g h = λ e. true≢false (sym h ∙ ap (λ n. not (nat_eq n 1)) e)
unscratched_number (Virtual n c) g h = absurd (cc)

-- ---- formats

pub fits_rr : (opcode a b : ℕ) → opcode < 256 → a < 16 → b < 16 → SlotsFit (layout_of Rr) (rr opcode a b).slots
fits_rr opcode a b o la lb = fields_from Rr (rr opcode a b).slots refl (omega arith, (omega arith, (omega arith, (omega arith, (omega arith, (omega arith, (omega arith, (omega arith, (omega arith, (omega arith, tt))))))))))

pub fits_rre : (opcode a b : ℕ) → opcode < 65536 → a < 16 → b < 16 → SlotsFit (layout_of Rre) (rre opcode a b).slots
fits_rre opcode a b o la lb = fields_from Rre (rre opcode a b).slots refl (omega arith, (omega arith, (omega arith, (omega arith, (omega arith, (omega arith, (omega arith, (omega arith, (omega arith, (omega arith, tt))))))))))

pub fits_rrf_ab : (opcode a b c : ℕ) → opcode < 65536 → a < 16 → b < 16 → c < 16 → SlotsFit (layout_of RrfAb) (rrf_ab opcode a b c 0).slots
fits_rrf_ab opcode a b c o la lb lc = fields_from RrfAb (rrf_ab opcode a b c 0).slots refl (omega arith, (omega arith, (omega arith, (omega arith, (omega arith, (omega arith, (omega arith, (omega arith, (omega arith, (omega arith, tt))))))))))

pub fits_ril_c : (opcode mask half : ℕ) → opcode < 4096 → mask < 16 → half < 2 ^ 32 → SlotsFit (layout_of RilC) (ril_c opcode mask half).slots
fits_ril_c opcode mask half o lm lh = fields_from RilC (ril_c opcode mask half).slots refl (omega arith, (omega arith, (omega arith, (omega arith, (omega arith, (omega arith, (omega arith, (omega arith, (omega arith, (omega arith, tt))))))))))

pub fits_ri_c : (opcode mask half : ℕ) → opcode < 4096 → mask < 16 → half < 2 ^ 16 → SlotsFit (layout_of RiC) (ri_c opcode mask half).slots
fits_ri_c opcode mask half o lm lh = fields_from RiC (ri_c opcode mask half).slots refl (omega arith, (omega arith, (omega arith, (omega arith, (omega arith, (omega arith, (omega arith, (omega arith, (omega arith, (omega arith, tt))))))))))

pub fits_ril_b : (opcode a half : ℕ) → opcode < 4096 → a < 16 → half < 2 ^ 32 → SlotsFit (layout_of RilB) (ril_b opcode a half).slots
fits_ril_b opcode a half o la lh = fields_from RilB (ril_b opcode a half).slots refl (omega arith, (omega arith, (omega arith, (omega arith, (omega arith, (omega arith, (omega arith, (omega arith, (omega arith, (omega arith, tt))))))))))

pub fits_ri_a : (opcode a bits : ℕ) → opcode < 4096 → a < 16 → bits < 2 ^ 16 → SlotsFit (layout_of RiA) (ri_a opcode a bits).slots
fits_ri_a opcode a bits o la lb = fields_from RiA (ri_a opcode a bits).slots refl (omega arith, (omega arith, (omega arith, (omega arith, (omega arith, (omega arith, (omega arith, (omega arith, (omega arith, (omega arith, tt))))))))))

pub fits_ri_b : (opcode a half : ℕ) → opcode < 4096 → a < 16 → half < 2 ^ 16 → SlotsFit (layout_of RiB) (ri_b opcode a half).slots
fits_ri_b opcode a half o la lh = fields_from RiB (ri_b opcode a half).slots refl (omega arith, (omega arith, (omega arith, (omega arith, (omega arith, (omega arith, (omega arith, (omega arith, (omega arith, (omega arith, tt))))))))))

pub fits_ril_a : (opcode a bits : ℕ) → opcode < 4096 → a < 16 → bits < 2 ^ 32 → SlotsFit (layout_of RilA) (ril_a opcode a bits).slots
fits_ril_a opcode a bits o la lb = fields_from RilA (ril_a opcode a bits).slots refl (omega arith, (omega arith, (omega arith, (omega arith, (omega arith, (omega arith, (omega arith, (omega arith, (omega arith, (omega arith, tt))))))))))

pub fits_rie_d : (opcode a b bits : ℕ) → opcode < 65536 → a < 16 → b < 16 → bits < 2 ^ 16 → SlotsFit (layout_of RieD) (rie_d opcode a b bits).slots
fits_rie_d opcode a b bits o la lb lc = fields_from RieD (rie_d opcode a b bits).slots refl (omega arith, (omega arith, (omega arith, (omega arith, (omega arith, (omega arith, (omega arith, (omega arith, (omega arith, (omega arith, tt))))))))))

pub fits_rrf_cde : (opcode a b mask : ℕ) → opcode < 65536 → a < 16 → b < 16 → mask < 16 → SlotsFit (layout_of RrfCde) (rrf_cde opcode a b mask 0).slots
fits_rrf_cde opcode a b mask o la lb lm = fields_from RrfCde (rrf_cde opcode a b mask 0).slots refl (omega arith, (omega arith, (omega arith, (omega arith, (omega arith, (omega arith, (omega arith, (omega arith, (omega arith, (omega arith, tt))))))))))

pub fits_rie_f : (opcode a b first last amount : ℕ) → opcode < 65536 → a < 16 → b < 16 → first < 256 → last < 256 → amount < 256 → SlotsFit (layout_of RieF) (rie_f opcode a b first last amount).slots
fits_rie_f opcode a b first last amount o la lb lf ll lm = fields_from RieF (rie_f opcode a b first last amount).slots refl (omega arith, (omega arith, (omega arith, (omega arith, (omega arith, (omega arith, (omega arith, (omega arith, (omega arith, (omega arith, tt))))))))))

pub fits_rie_a : (opcode a bits mask : ℕ) → opcode < 65536 → a < 16 → bits < 2 ^ 16 → mask < 16 → SlotsFit (layout_of RieA) (rie_a opcode a bits mask).slots
fits_rie_a opcode a bits mask o la lb lm = fields_from RieA (rie_a opcode a bits mask).slots refl (omega arith, (omega arith, (omega arith, (omega arith, (omega arith, (omega arith, (omega arith, (omega arith, (omega arith, (omega arith, tt))))))))))

pub fits_rie_g : (opcode a bits mask : ℕ) → opcode < 65536 → a < 16 → bits < 2 ^ 16 → mask < 16 → SlotsFit (layout_of RieG) (rie_g opcode a bits mask).slots
fits_rie_g opcode a bits mask o la lb lm = fields_from RieG (rie_g opcode a bits mask).slots refl (omega arith, (omega arith, (omega arith, (omega arith, (omega arith, (omega arith, (omega arith, (omega arith, (omega arith, (omega arith, tt))))))))))

pub fits_rsy : (opcode a b base displacement : ℕ) → opcode < 65536 → a < 16 → b < 16 → base < 16 → displacement < 2 ^ 20 → SlotsFit (layout_of Rsy) (rsy opcode a b base displacement).slots
fits_rsy opcode a b base displacement o la lb lc ld = fields_from Rsy (rsy opcode a b base displacement).slots refl (omega arith, (omega arith, (omega arith, (omega arith, (omega arith, (omega arith, (omega arith, (omega arith, (omega arith, (omega arith, tt))))))))))

pub fits_rxy : (opcode a base index displacement : ℕ) → opcode < 65536 → a < 16 → base < 16 → index < 16 → displacement < 2 ^ 20 → SlotsFit (layout_of Rxy) (rxy opcode a base index displacement).slots
fits_rxy opcode a base index displacement o la lb lc ld = fields_from Rxy (rxy opcode a base index displacement).slots refl (omega arith, (omega arith, (omega arith, (omega arith, (omega arith, (omega arith, (omega arith, (omega arith, (omega arith, (omega arith, tt))))))))))

pub fits_vrx : (opcode a base index mask displacement : ℕ) → opcode < 65536 → a < 32 → base < 16 → index < 16 → mask < 16 → displacement < 2 ^ 12 → SlotsFit (layout_of Vrx) (vrx opcode a base index mask displacement).slots
fits_vrx opcode a base index mask displacement o la lb lc lm ld = fields_from Vrx (vrx opcode a base index mask displacement).slots refl (omega arith, (omega arith, (omega arith, (omega arith, (omega arith, (omega arith, (omega arith, (omega arith, (omega arith, (omega arith, tt))))))))))

pub fits_rx : (opcode a base index displacement : ℕ) → opcode < 256 → a < 16 → base < 16 → index < 16 → displacement < 2 ^ 12 → SlotsFit (layout_of Rx) (rx opcode a base index displacement).slots
fits_rx opcode a base index displacement o la lb lc ld = fields_from Rx (rx opcode a base index displacement).slots refl (omega arith, (omega arith, (omega arith, (omega arith, (omega arith, (omega arith, (omega arith, (omega arith, (omega arith, (omega arith, tt))))))))))

pub fits_rs : (opcode a b base displacement : ℕ) → opcode < 256 → a < 16 → b < 16 → base < 16 → displacement < 2 ^ 12 → SlotsFit (layout_of Rs) (rs opcode a b base displacement).slots
fits_rs opcode a b base displacement o la lb lc ld = fields_from Rs (rs opcode a b base displacement).slots refl (omega arith, (omega arith, (omega arith, (omega arith, (omega arith, (omega arith, (omega arith, (omega arith, (omega arith, (omega arith, tt))))))))))

pub fits_si : (opcode base displacement imm : ℕ) → opcode < 256 → base < 16 → displacement < 2 ^ 12 → imm < 256 → SlotsFit (layout_of Si) (si opcode base displacement imm).slots
fits_si opcode base displacement imm o lb ld li = fields_from Si (si opcode base displacement imm).slots refl (omega arith, (omega arith, (omega arith, (omega arith, (omega arith, (omega arith, (omega arith, (omega arith, (omega arith, (omega arith, tt))))))))))

pub fits_siy : (opcode base displacement imm : ℕ) → opcode < 65536 → base < 16 → displacement < 2 ^ 20 → imm < 256 → SlotsFit (layout_of Siy) (siy opcode base displacement imm).slots
fits_siy opcode base displacement imm o lb ld li = fields_from Siy (siy opcode base displacement imm).slots refl (omega arith, (omega arith, (omega arith, (omega arith, (omega arith, (omega arith, (omega arith, (omega arith, (omega arith, (omega arith, tt))))))))))

pub fits_sil : (opcode base displacement bits : ℕ) → opcode < 65536 → base < 16 → displacement < 2 ^ 12 → bits < 2 ^ 16 → SlotsFit (layout_of Sil) (sil opcode base displacement bits).slots
fits_sil opcode base displacement bits o lb ld li = fields_from Sil (sil opcode base displacement bits).slots refl (omega arith, (omega arith, (omega arith, (omega arith, (omega arith, (omega arith, (omega arith, (omega arith, (omega arith, (omega arith, tt))))))))))

-- ---- the table lists them

pub agr_listed : (a b : ℕ) → IsEncoded machine_rows Rre (rre opcodes.AGR a b).slots
unfolding machine_rows row_for
agr_listed a b = listed machine_rows Rre (rre opcodes.AGR a b).slots (omega arith) (refl, refl, refl)

pub bcr_listed : (a b : ℕ) → IsEncoded machine_rows Rr (rr opcodes.BCR a b).slots
unfolding machine_rows row_for
bcr_listed a b = listed machine_rows Rr (rr opcodes.BCR a b).slots (omega arith) (refl, refl, refl)

pub brcl_listed : (mask half : ℕ) → IsEncoded machine_rows RilC (ril_c opcodes.BRCL mask half).slots
unfolding machine_rows row_for
brcl_listed mask half = listed machine_rows RilC (ril_c opcodes.BRCL mask half).slots (omega arith) (refl, refl, refl)

pub brc_listed : (mask half : ℕ) → IsEncoded machine_rows RiC (ri_c opcodes.BRC mask half).slots
unfolding machine_rows row_for
brc_listed mask half = listed machine_rows RiC (ri_c opcodes.BRC mask half).slots (omega arith) (refl, refl, refl)

pub larl_listed : (a half : ℕ) → IsEncoded machine_rows RilB (ril_b opcodes.LARL a half).slots
unfolding machine_rows row_for
larl_listed a half = listed machine_rows RilB (ril_b opcodes.LARL a half).slots (omega arith) (refl, refl, refl)

pub agf_listed : (index : ℕ) → IsEncoded machine_rows Rxy (rxy opcodes.AGF 1 1 index 0).slots
unfolding machine_rows row_for
agf_listed index = listed machine_rows Rxy (rxy opcodes.AGF 1 1 index 0).slots (omega arith) (refl, refl, refl)

pub bras_listed : IsEncoded machine_rows RiB (ri_b opcodes.BRAS 1 6).slots
unfolding machine_rows row_for
bras_listed = listed machine_rows RiB (ri_b opcodes.BRAS 1 6).slots (omega arith) (refl, refl, refl)

pub lg_listed : (a : ℕ) → IsEncoded machine_rows Rxy (rxy opcodes.LG a 1 0 0).slots
unfolding machine_rows row_for
lg_listed a = listed machine_rows Rxy (rxy opcodes.LG a 1 0 0).slots (omega arith) (refl, refl, refl)

-- ---- what the machine does there

module _ (L : Layout) (image : ImageAt L) (offset : ℕ) (even : offset % 2 ≡ 0) where
  pub bcr_at : (mask b : ℕ) → mask < 16 → b < 16 → b ≢ 0 → StandsAt L.image offset (bytes_of (rr opcodes.BCR mask b)) → RowAt L (wrapping_add64 L.image.base offset) (λ r. Branch mask (r.general b)) (length_of Rr)
  unfolding semantics_in semantics_of
  bcr_at mask b lm lb some s = row_at L offset (rr opcodes.BCR mask b) (λ r. Branch mask (r.general b)) image.even even image.fits s (fits_rr opcodes.BCR mask b (omega arith) lm lb) (bcr_listed mask b) (λ state event t at h. taken (b == 0) refl state event t h)
    where
      taken : (n : Bool) → (b == 0) ≡ n → (state : State) (event : Event) (t : State) →
          ActionStep (cond n (performs Rattle.s390x_operations.specs.declared.effect.CodeRule.TheVariants.Kept Rattle.s390x_operations.specs.declared.effect.Effect.TheVariants.Nothing) (Branch mask (state.core.registers.general b))) (length_of Rr) state event t → ActionStep (Branch mask (state.core.registers.general b)) (length_of Rr) state event t
      taken true e state event t h = absurd (some (Rattle.std.proofs.Common.eqb-true b 0 e))
      taken false e state event t h = h

  pub brcl_at : (mask target : ℕ) → mask < 16 → offset < 2 ^ 31 → target % 2 ≡ 0 → target < 2 ^ 31 → StandsAt L.image offset (bytes_of (ril_c opcodes.BRCL mask (half_distance offset target))) → RowAt L (wrapping_add64 L.image.base offset) (λ r. Branch mask (wrapping_add64 L.image.base target)) (length_of RilC)
  unfolding semantics_in semantics_of
  brcl_at mask target lm small even_target small_target s =
      row_at L offset (ril_c opcodes.BRCL mask (half_distance offset target)) (λ r. Branch mask (wrapping_add64 L.image.base target)) image.even even image.fits s (fits_ril_c opcodes.BRCL mask (half_distance offset target) (omega arith) lm (omega arith)) (brcl_listed mask (half_distance offset target)) (λ state event t at h.
      subst (λ a. ActionStep (Branch mask a) (length_of RilC) state event t) (ap (λ p. low Doubleword (pos p +ℤ pos 2 *ℤ cast_signed w32 (half_distance offset target))) at ∙ lands L.image.base offset target even even_target small small_target) h)

  -- the register gets the target's address
  pub larl_at : (a target : ℕ) → a < 16 → offset < 2 ^ 31 → target % 2 ≡ 0 → target < 2 ^ 31 → StandsAt L.image offset (bytes_of (ril_b opcodes.LARL a (half_distance offset target))) → RowAt L (wrapping_add64 L.image.base offset) (λ r. Perform (computes_immediate Kept (on_doublewords Move) a a (wrapping_add64 L.image.base target) r)) (length_of RilB)
  unfolding semantics_in semantics_of
  larl_at a target la small even_target small_target s =
      row_at L offset (ril_b opcodes.LARL a (half_distance offset target)) (λ r. Perform (computes_immediate Kept (on_doublewords Move) a a (wrapping_add64 L.image.base target) r)) image.even even image.fits s (fits_ril_b opcodes.LARL a (half_distance offset target) (omega arith) la (omega arith)) (larl_listed a (half_distance offset target)) (λ state event t at h.
      subst (λ x. ActionStep (Perform (computes_immediate Kept (on_doublewords Move) a a x state.core.registers)) (length_of RilB) state event t) (ap (λ p. low Doubleword (pos p +ℤ pos 2 *ℤ cast_signed w32 (half_distance offset target))) at ∙ lands L.image.base offset target even even_target small small_target) h)
