-- The codes that the table of traps has for stops, and places where the machine stops because there is no instruction.
use Rattle.std.proofs.Common.{◌≡◌, ℕ, ◌+◌, ◌-◌, ◌%◌, ◌^◌, ◌<◌, ◌≤◌, List, [], ◌∷◌, ◌++◌, length, get_or, Option, Some, cond, slice_index, IsTrue, refl, sym, ap, ◌∙◌, subst, arith, length-append, append_assoc}
use Rattle.std.proofs.lemmas.Bool.{eq-eqb}
use Rattle.s390x_base.specs.declared.trap.TrapKind.{TrapKind}
use Rattle.s390x_base.specs.declared.trap.TrapKind.TheVariants.{IntegerDivisionByZero}
use Rattle.s390x_format.specs.Formats.{layout_of, length_of}
use Rattle.s390x_format.specs.Layout.{number, bits}
use Rattle.s390x_format.specs.Reading.{be_bytes}
use Rattle.s390x_format.specs.Rows.{fetch_length_of}
use Rattle.s390x_rows.specs.declared.opcodes.TheConstants as opcodes
use Rattle.s390x_typed_steps.specs.MachineInstruction.{bytes_of, format_e, ril_c}
use Rattle.s390x_typed_steps.specs.Traps.{first_code}
use Rattle.s390x_operations.specs.State.{wrapping_add64, is_within}
use Rattle.s390x_operations.specs.declared.stop.StopKind.{StopKind}
use Rattle.s390x_operations.specs.declared.stop.StopKind.TheVariants.{Operation as OperationStop, Divide, CompareTrap}
use Rattle.s390x_machine.specs.Fetch.{Unknown, Fetches}
use Rattle.s390x_machine.specs.Machine.{InterruptsAs, FetchedStep}
use Rattle.s390x_machine.specs.Codes.{code_offset, trap_code_at}
use Rattle.s390x_machine.specs.Layout.{Layout}
use Rattle.s390x_machine.specs.StepKinds.{division_code, comparison_code}
use Rattle.s390x_machine.specs.CodeAt.{ImageAt}
use Rattle.s390x_machine.proofs.TrapCodes.{code_inside}
use Rattle.s390x_machine.proofs.Fetching.{StandsAt, image_byte, is_within_at, nothing_at}
use Rattle.s390x_machine.proofs.Composites.{StopsAt}

-- an entry is found at its offset
pub entry_found : (o : ℕ) (n : TrapKind) → first_code (record { offset = o; code = n } ∷ []) o ≡ Some n
entry_found o n = ap (λ t. cond t (Some n) (first_code [] o)) (eq-eqb o o refl)

-- the stop's code stands at the last byte of the instruction
abbrev pub IsLate : Layout → StopKind → Type 0
IsLate L kind = (o : ℕ) → code_offset L.image.bytes o kind ≡ o + (fetch_length_of (slice_index L.image.bytes o) - 1)

-- that of a division, and that of a comparison
pub division_late : (L : Layout) (kind : StopKind) (n : TrapKind) → division_code kind ≡ Some n → IsLate L kind × (n ≡ IntegerDivisionByZero)
division_late L Divide n e = (λ o. refl, cc)
division_late L kind n e = absurd (cc)

pub comparison_late : (L : Layout) (code : TrapKind) (kind : StopKind) (n : TrapKind) → comparison_code code kind ≡ Some n → IsLate L kind × (n ≡ code)
comparison_late L code CompareTrap n e = (λ o. refl, cc)
comparison_late L code kind n e = absurd (cc)

pub within_image : (L : Layout) (offset : ℕ) (bytes : List ℕ) → StandsAt L.image offset bytes → offset + length bytes ≤ length L.image.bytes
within_image L offset bytes s =
    let n1 = ap length s.is in
    let n2 = length-append s.earlier (bytes ++ s.later) in
    let n3 = length-append bytes s.later in
    omega (arith, n1, n2, n3, s.at)

-- an offset of a byte of the image is that of a place in it
pub place_within : (L : Layout) → L.image.base + length L.image.bytes ≤ 2 ^ 64 → (o : ℕ) → o < length L.image.bytes → IsTrue (is_within L.image (wrapping_add64 L.image.base o))
place_within L fits o lt =
    let same : L.image.base + o ≡ wrapping_add64 L.image.base o = omega (arith, fits, lt) in
    subst (λ p. IsTrue (is_within L.image p)) same (is_within_at L.image o lt)

-- the code there is that of the offset
pub code_within : (L : Layout) → L.image.base + length L.image.bytes ≤ 2 ^ 64 → (o : ℕ) → o < length L.image.bytes → (kind : StopKind) → trap_code_at L.image L.traps (wrapping_add64 L.image.base o) kind ≡ first_code L.traps (code_offset L.image.bytes o kind)
code_within L fits o lt kind =
    let back : wrapping_add64 L.image.base o - L.image.base ≡ o = omega (arith, fits, lt) in
    code_inside L.image L.traps (wrapping_add64 L.image.base o) kind (omega (arith, fits, lt)) (omega (arith, fits, lt)) ∙ ap (λ x. first_code L.traps (code_offset L.image.bytes x kind)) back

-- the code that the table has for a stop of the instruction whose bytes stand at an offset
pub late_code : (L : Layout) → L.image.base + length L.image.bytes ≤ 2 ^ 64 → (offset : ℕ) (bytes : List ℕ) → StandsAt L.image offset bytes → 0 < length bytes → (kind : StopKind) → IsLate L kind → trap_code_at L.image L.traps (wrapping_add64 L.image.base offset) kind ≡ first_code L.traps (offset + (fetch_length_of (get_or bytes 0 0) - 1))
late_code L fits offset bytes s some kind late =
    let inside = within_image L offset bytes s in
    let z : offset ≡ offset + 0 = omega arith in
    let first : slice_index L.image.bytes offset ≡ get_or bytes 0 0 = ap (λ k. slice_index L.image.bytes k) z ∙ image_byte L.image offset 0 bytes s some in
    code_within L fits offset (omega (arith, inside, some)) kind ∙ ap (first_code L.traps) (late offset) ∙ ap (λ b. first_code L.traps (offset + (fetch_length_of b - 1))) first

-- the machine stops where a byte of zeros stands at an even place
pub stops_at : (L : Layout) → ImageAt L → (offset second : ℕ) (code : Option TrapKind) → offset % 2 ≡ 0 → StandsAt L.image offset (0 ∷ second ∷ []) → first_code L.traps (offset + 1) ≡ code → StopsAt L (wrapping_add64 L.image.base offset) code
stops_at L image offset second code even stands is = record {
  stops = λ s at is_loaded event t step.
      let none : step.fetched ≡ Unknown = nothing_at L.image s.core.memory offset second image.even even image.fits is_loaded stands step.fetched (subst (λ p. Fetches s.core.memory p step.fetched) at step.fetches) in
      let acts : InterruptsAs OperationStop s event t = subst (λ f. FetchedStep f s event t) none step.acts in
      acts.0;
  within = place_within L image.fits offset (omega (arith, within_image L offset (0 ∷ second ∷ []) stands));
  with_code = late_code L image.fits offset (0 ∷ second ∷ []) stands (omega arith) OperationStop (λ o. refl) ∙ is;
}

-- ---- bytes

pub zeros : bytes_of (format_e 0) ≡ 0 ∷ 0 ∷ []
unfolding length_of layout_of number bits be_bytes
zeros = refl

pub zero_and_one : bytes_of (format_e 1) ≡ 0 ∷ 1 ∷ []
unfolding length_of layout_of number bits be_bytes
zero_and_one = refl

six : (a b c d e f c' d' e' f' : ℕ) → c ≡ c' → d ≡ d' → e ≡ e' → f ≡ f' → a ∷ b ∷ c ∷ d ∷ e ∷ f ∷ [] ≡ a ∷ b ∷ c' ∷ d' ∷ e' ∷ f' ∷ []
six a b c d e f c' d' e' f' h3 h4 h5 h6 = cc

-- the first bytes of a branch whose distance is two, and the zeros behind them
pub record IntoItself (mask : ℕ) : Type 0 where
  pub first : ℕ
  pub second : ℕ
  pub is : bytes_of (ril_c opcodes.BRCL mask 1) ≡ first ∷ second ∷ 0 ∷ 0 ∷ 0 ∷ 1 ∷ []

pub into_itself : (mask : ℕ) → IntoItself mask
unfolding length_of layout_of number bits be_bytes
into_itself mask = record { first = _; second = _; is = six _ _ _ _ _ _ _ _ _ _ (omega arith) (omega arith) (omega arith) (omega arith) }

-- the zeros stand two bytes behind the branch's place
pub zeros_behind : (L : Layout) (offset mask : ℕ) → StandsAt L.image offset (bytes_of (ril_c opcodes.BRCL mask 1)) → StandsAt L.image (offset + 2) (0 ∷ 0 ∷ [])
zeros_behind L offset mask s =
    let i = into_itself mask in
    record {
      earlier = s.earlier ++ i.first ∷ i.second ∷ [];
      later = 0 ∷ 1 ∷ s.later;
      at = omega (arith, s.at, length-append s.earlier (i.first ∷ i.second ∷ []));
      is = s.is ∙ ap (λ bs. s.earlier ++ (bs ++ s.later)) i.is ∙ sym (append_assoc s.earlier (i.first ∷ i.second ∷ []) (0 ∷ 0 ∷ 0 ∷ 1 ∷ s.later));
    }
