-- The steps of rows on one element of a vector register: an immediate, or an element between a general register and a vector one.
use Rattle.std.proofs.Common.{◌≡◌, ℕ, ◌+◌, ◌*◌, ◌/◌, ◌%◌, ◌^◌, ◌<◌, ◌==◌, ℤ, inl, inr, [], Option, Some, None, Bool, true, false, cond, if◌then◌else◌, ◌&&◌, IsTrue, refl, sym, ap, ◌∙◌, subst, arith, nat_lt, nat_eq, bit_and, ltb-true, eqb-true}
use Rattle.std.proofs.lemmas.Bool.{and_parts}
use Rattle.std.proofs.lemmas.Nat.{and_assoc, and_mask, mod_below}
use Rattle.std.proofs.lemmas.Nat.Bits.{and_high_mask}
use Rattle.std.proofs.Math.Nat.{mod-eq_of_lt}
use Rattle.std.proofs.Math.Pow.{pow_pos}
use Rattle.s390x_format.specs.declared.kind.FormatKind.TheVariants.{VrsB, VrsC}
use Rattle.s390x_format.specs.declared.row.Allowed.TheVariants.{FirstMask}
use Rattle.s390x_format.specs.Rows.{is_allowed}
use Rattle.s390x_format.specs.View.{fields_of, disp_of}
use Rattle.s390x_lanes.proofs.Building.{build_lt, lane_lt, whole}
use Rattle.s390x_lanes.specs.Lanes.{lane, from_lanes}
use Rattle.s390x_lanes.specs.Size.{element_bits, lane_count, size_of_code}
use Rattle.s390x_lanes.specs.declared.size.ElementSize.{ElementSize}
use Rattle.s390x_lanes.specs.declared.size.ElementSize.TheVariants.{Byte, Doubleword, Quadword}
use Rattle.s390x_operations.specs.Effects.{Refines}
use Rattle.s390x_operations.specs.State.{Registers}
use Rattle.s390x_operations.specs.Vectors.{register_after_load}
use Rattle.s390x_operations.specs.declared.effect.CodeRule.TheVariants.{Kept}
use Rattle.s390x_operations.specs.declared.effect.Effect.{Effect}
use Rattle.s390x_operations.specs.declared.effect.Operation.{Operation}
use Rattle.s390x_operations.specs.declared.effect.VectorLayout.{VectorLayout}
use Rattle.s390x_operations.specs.declared.operator.Operator.TheVariants.{Move}
use Rattle.s390x_rows.specs.declared.opcodes.TheConstants as opcodes
use Rattle.s390x_typed_steps.specs.MachineInstruction.{MachineInstruction, rre, vrs_b, vrs_c}
use Rattle.s390x_typed_steps.specs.Parts.{step_parts, parts_or}
use Rattle.s390x_typed_steps.specs.SingleInstruction.{single_with}
use Rattle.s390x_typed_steps.specs.Steps.{Step}
use Rattle.s390x_typed_steps.specs.VectorInstruction.{element_code, extract_lane_row, extract_row, insert_alone_row, insert_lane_row, is_float_doubleword, is_lane, lane_row}
use Rattle.s390x_format.specs.declared.semantics.RowSemantics.TheVariants.{RegisterToLeft, LeftToRegister, InsertElement, ExtractElement}
use Rattle.s390x_machine.specs.declared.action_type.Action.TheVariants.{Perform}
use Rattle.s390x_machine.specs.CodeAt.{OperandsValidOr}
use Rattle.s390x_machine.specs.Computations.{with_rule, on_doublewords, havocs}
use Rattle.s390x_machine.specs.Layout.{Layout}
use Rattle.s390x_machine.specs.OneStep.{StepRuns}
use Rattle.s390x_machine.specs.Operands.{address_by_base}
use Rattle.s390x_machine.specs.Semantics.{all_bits, left_bits, inserts_element, extracts_element}
use Rattle.s390x_machine.specs.StepKinds.{Performs, no_code}
use Rattle.s390x_machine.specs.Typed.{kind_of_step}
use Rattle.s390x_machine.specs.VectorSteps.{elements_of, element_index, extracts_lane, inserts_lane, inserts_lane_alone, lane_bits, puts_element}
use Rattle.s390x_machine.proofs.Built.{StepAt, IsRow, NeverStops, exactly, meant_runs, looser_runs, step_even, computes_immediate_always}
use Rattle.s390x_machine.proofs.Listing.{few_digits}
use Rattle.s390x_machine.proofs.Rows.{fits_rre}
use Rattle.s390x_machine.proofs.Simulation.{ValuesCoded}
use Rattle.s390x_machine.proofs.SingleInstruction.{Doing, meant_at}
use Rattle.s390x_machine.proofs.Stops.{never_by_values}
use Rattle.s390x_machine.proofs.VectorRows.{HasSize, IsNarrow, Sized, code_of_size, fits_vrs_b, fits_vrs_c, insert_listed, extract_listed, ldgr_row, lgdr_row, lane_within, size_of_elements, small_displacement}

-- ---- choices between operations

chosen : (t : Bool) (a b : Operation) → (if t then Perform a else Perform b) ≡ Perform (if t then a else b)
chosen true a b = refl
chosen false a b = refl

either_never : (t : Bool) (a b : Operation) → ValuesCoded a no_code → ValuesCoded b no_code → ValuesCoded (if t then a else b) no_code
either_never true a b x y = x
either_never false a b x y = y

either_refines : (t : Bool) (a b c d : Operation) → Refines a c → Refines b d → Refines (if t then a else b) (if t then c else d)
either_refines true a b c d x y = x
either_refines false a b c d x y = y

-- ---- what is told of a register

abbrev puts : (d known x : ℕ) → Operation
puts d known x = with_rule Kept (Effect.PutVector d known x)

puts_never : (d known x : ℕ) → ValuesCoded (puts d known x) no_code
puts_never d known x = never_by_values (puts d known x) no_code refl (λ kind h. h)

-- of a whole register all is told
same_bits : (y v : ℕ) → y < 2 ^ 128 → v < 2 ^ 128 → bit_and y all_bits ≡ bit_and v all_bits → y ≡ v
same_bits y v ly lv e = sym (mod-eq_of_lt ly) ∙ sym (and_mask y 128) ∙ e ∙ and_mask v 128 ∙ mod-eq_of_lt lv

-- some bits of what is told as a whole
part_known : (d known v : ℕ) → v < 2 ^ 128 → Refines (puts d all_bits v) (puts d known v)
part_known d known v small = record {
  access = refl;
  refused = refl;
  may_refuse = λ kind h. h;
  results = λ core r h. (h.0, h.1, ap (λ y. bit_and y known) (same_bits h.0 v h.1 small h.2), h.3);
  code = λ core x h. h;
}

-- a register with a number at one element is one of 128 bits
one_element : (w old x k : ℕ) (t : Bool) → (if t then x % 2 ^ w else lane w old k) < 2 ^ w
one_element w old x k true = mod_below x (2 ^ w) (pow_pos w)
one_element w old x k false = lane_lt w old k

element_fits : (e : ElementSize) (index old x : ℕ) → register_after_load (VectorLayout.Element e index false) old (x % 2 ^ element_bits e) < 2 ^ 128
element_fits e index old x =
    let w = element_bits e in
    let f : ℕ → ℕ = λ i. if i == index then x % 2 ^ w else lane w old i in
    subst (λ m. from_lanes w (lane_count e) f < 2 ^ m) (whole e) (build_lt w (lane_count e) f (λ k lt. one_element w old x k (k == index)))

-- the bits of the left doubleword
abbrev high_half : ℕ
high_half = left_bits Doubleword

high_half_of : (n : ℕ) → n < 2 ^ 128 → bit_and n high_half ≡ n / 2 ^ 64 * 2 ^ 64
high_half_of n lt = and_high_mask 128 64 (omega arith) n lt

-- those of a longer number are among its low 128
low_128 : (a : ℕ) → bit_and a high_half ≡ bit_and (a % 2 ^ 128) high_half
low_128 a =
    let within : bit_and all_bits high_half ≡ high_half = refl in
    ap (bit_and a) (sym within) ∙ sym (and_assoc high_half a all_bits) ∙ ap (λ y. bit_and y high_half) (and_mask a 128)

joined_doubleword : (x old : ℕ) → register_after_load (VectorLayout.Element Doubleword 0 false) old (x % 2 ^ 64) ≡ x % 2 ^ 64 * 2 ^ 64 + lane 64 old 1
unfolding from_lanes
joined_doubleword x old = omega arith

same_left : (x old : ℕ) → bit_and (x * 2 ^ 64) high_half ≡ bit_and (register_after_load (VectorLayout.Element Doubleword 0 false) old (x % 2 ^ 64)) high_half
same_left x old =
    let right : lane 64 old 1 < 2 ^ 64 = lane_lt 64 old 1 in
    let v = x % 2 ^ 64 * 2 ^ 64 + lane 64 old 1 in
    let small : v < 2 ^ 128 = omega (arith, right) in
    let same : x * 2 ^ 64 % 2 ^ 128 / 2 ^ 64 * 2 ^ 64 ≡ v / 2 ^ 64 * 2 ^ 64 = omega (arith, right) in
    low_128 (x * 2 ^ 64) ∙ high_half_of (x * 2 ^ 64 % 2 ^ 128) (omega arith) ∙ same ∙ sym (high_half_of v small) ∙ ap (λ y. bit_and y high_half) (sym (joined_doubleword x old))

left_known : (d x old : ℕ) → Refines (puts d high_half (x * 2 ^ 64)) (puts d high_half (register_after_load (VectorLayout.Element Doubleword 0 false) old (x % 2 ^ 64)))
left_known d x old = record {
  access = refl;
  refused = refl;
  may_refuse = λ kind h. h;
  results = λ core r h. (h.0, h.1, h.2 ∙ same_left x old, h.3);
  code = λ core x h. h;
}

-- ---- an element's row

pub size_again : (e : ElementSize) → size_of_code (code_of_size e) ≡ e
size_again Byte = refl
size_again e = refl

pub code_few : (e : ElementSize) → code_of_size e < 16
code_few Byte = omega arith
code_few e = omega arith

lane_low : (e : ElementSize) (lane : ℕ) → lane < lane_count e → lane < 4096
lane_low Byte lane lt = omega (arith, lt)
lane_low e lane lt = omega (arith, lt)

insert_allowed : (e : ElementSize) → IsNarrow e → (d n base lane : ℕ) → is_allowed (FirstMask 0 3) (vrs_b opcodes.VLVG d base n (code_of_size e) lane).slots ≡ true
insert_allowed Quadword narrow d n base lane = absurd narrow
insert_allowed e narrow d n base lane = refl

extract_allowed : (e : ElementSize) → IsNarrow e → (d n base lane : ℕ) → is_allowed (FirstMask 0 3) (vrs_c opcodes.VLGV d base n (code_of_size e) lane).slots ≡ true
extract_allowed Quadword narrow d n base lane = absurd narrow
extract_allowed e narrow d n base lane = refl

inserts_there : (e : ElementSize) (d n base displacement : ℕ) → displacement < 4096 → Doing (fields_of VrsB (vrs_b opcodes.VLVG d base n (code_of_size e) displacement).slots) InsertElement (inserts_lane e d n base displacement)
inserts_there e d n base displacement low r p =
    ap (λ (q : ElementSize). inserts_element q d (r.vector d) (address_by_base r base (disp_of displacement)) (r.general n)) (size_again e)
    ∙ ap (λ (z : ℤ). inserts_element e d (r.vector d) (address_by_base r base z) (r.general n)) (small_displacement displacement low)
    ∙ chosen (nat_lt (element_index r base displacement) (lane_count e)) _ _

extracts_there : (e : ElementSize) (d n base displacement : ℕ) → displacement < 4096 → Doing (fields_of VrsC (vrs_c opcodes.VLGV d base n (code_of_size e) displacement).slots) ExtractElement (extracts_lane e d n base displacement)
extracts_there e d n base displacement low r p =
    let f = fields_of VrsC (vrs_c opcodes.VLGV d base n (code_of_size e) displacement).slots in
    ap (λ (q : ElementSize). extracts_element f r q (address_by_base r base (disp_of displacement))) (size_again e)
    ∙ ap (λ (z : ℤ). extracts_element f r e (address_by_base r base z)) (small_displacement displacement low)
    ∙ chosen (nat_lt (element_index r base displacement) (lane_count e)) _ _

-- ---- steps that are one

puts_element_never : (e : ElementSize) (known d index x : ℕ) → NeverStops (puts_element e known d index x)
puts_element_never e known d index x r =
    either_never (nat_lt index (lane_count e)) _ _ (puts_never d known (register_after_load (VectorLayout.Element e index false) (r.vector d) (x % 2 ^ element_bits e))) (puts_never d 0 0)

pub inserts_never : (e : ElementSize) (d n base displacement : ℕ) → NeverStops (inserts_lane e d n base displacement)
inserts_never e d n base displacement r = puts_element_never e all_bits d (element_index r base displacement) (r.general n) r

alone_never : (e : ElementSize) (d n base displacement : ℕ) → NeverStops (inserts_lane_alone e d n base displacement)
alone_never e d n base displacement r =
    let index = element_index r base displacement in puts_element_never e (lane_bits e index) d index (r.general n) r

extracts_never : (e : ElementSize) (d n base displacement : ℕ) → NeverStops (extracts_lane e d n base displacement)
extracts_never e d n base displacement r =
    let index = element_index r base displacement in
    either_never (nat_lt index (lane_count e)) _ _ (computes_immediate_always Kept (on_doublewords Move) d d (lane (element_bits e) (r.vector n) index) r) (never_by_values (havocs d r) no_code refl (λ kind h. h))

-- of one element alone
alone_refines : (e : ElementSize) (d n base displacement : ℕ) (r : Registers) → Refines (inserts_lane e d n base displacement r) (inserts_lane_alone e d n base displacement r)
alone_refines e d n base displacement r =
    let index = element_index r base displacement in
    let v = register_after_load (VectorLayout.Element e index false) (r.vector d) (r.general n % 2 ^ element_bits e) in
    either_refines (nat_lt index (lane_count e)) _ _ _ _ (part_known d (lane_bits e index) v (element_fits e index (r.vector d) (r.general n))) (exactly (puts d 0 0))

-- the tests of a leftmost doubleword
float_doubleword : (size v base displacement : ℕ) → is_float_doubleword size v base displacement ≡ true → (size ≡ 64) × (displacement ≡ 0) × (base ≡ 0) × (v < 16)
float_doubleword size v base displacement h =
    let a = and_parts (nat_eq size 64 && nat_eq displacement 0 && nat_eq base 0) (nat_lt v 16) h in
    let c = and_parts (nat_eq size 64 && nat_eq displacement 0) (nat_eq base 0) a.0 in
    let t = and_parts (nat_eq size 64) (nat_eq displacement 0) c.0 in
    (eqb-true size 64 t.0, eqb-true displacement 0 t.1, eqb-true base 0 c.1, ltb-true v 16 a.1)

-- an operation on the first element of a size of 64 bits
first_doubleword : {size base displacement : ℕ} (does : ElementSize → (base displacement : ℕ) → Registers → Operation) → size ≡ 64 → displacement ≡ 0 → base ≡ 0 → Some (Performs false (does (elements_of size) base displacement) no_code) ≡ Some (Performs false (does Doubleword 0 0) no_code)
first_doubleword {base = base} {displacement = displacement} does s d b =
    ap (λ z. Some (Performs false (does (elements_of z) base displacement) no_code)) s ∙ ap (λ z. Some (Performs false (does Doubleword z displacement) no_code)) b ∙ ap (λ z. Some (Performs false (does Doubleword 0 z) no_code)) d

module _ {L : Layout} {k : ℕ} {s : Step} (b : StepAt L k s) where
  -- a step that is one operation and one row, if there is one where its registers may stand
  abbrev pub IsOptionalRow : (valid : Bool) → Option MachineInstruction → (Registers → Operation) → Type 0
  IsOptionalRow valid row operation =
      (kind_of_step L (Some s) ≡ Some (Performs false operation no_code)) × (step_parts s ≡ parts_or (single_with valid row) None []) × OperandsValidOr (single_with valid row) ⊥

  -- a row on one element, whatever its size
  pub lane_runs : (valid : Bool) (size index : ℕ) (row : ℕ → MachineInstruction) (does : ElementSize → Registers → Operation) →
      ((e : ElementSize) → IsNarrow e → index < lane_count e → IsTrue valid → IsRow L s (row (code_of_size e)) (does e) → StepRuns L k) → IsOptionalRow valid (lane_row row (element_code size) size index) (does (elements_of size)) → StepRuns L k
  lane_runs valid size index row does run is = go (size_of_elements size)
    where
      sized : (e : ElementSize) → Sized size e → (t : Bool) → is_lane size index ≡ t → step_parts s ≡ parts_or (single_with valid (cond t (Some (row (code_of_size e))) None)) None [] → OperandsValidOr (single_with valid (cond t (Some (row (code_of_size e))) None)) ⊥ → StepRuns L k
      sized e z false test parts able = absurd able
      sized e z true test parts able = run e z.narrow (lane_within z index test) able (is.0 ∙ ap (λ q. Some (Performs false (does q) no_code)) z.elements, parts)

      go : HasSize size → StepRuns L k
      go (inl none) = absurd (subst (λ o. OperandsValidOr (single_with valid (lane_row row o size index)) ⊥) none is.2)
      go (inr (e, z)) =
          sized e z (is_lane size index) refl (is.1 ∙ ap (λ c. parts_or (single_with valid (lane_row row c size index)) None []) z.code) (subst (λ c. OperandsValidOr (single_with valid (lane_row row c size index)) ⊥) z.code is.2)

  -- a general register in one element, whatever is told of the others
  pub lane_inserted_runs : (valid : Bool) (size d n base displacement : ℕ) (does : ElementSize → Registers → Operation) → ((e : ElementSize) (r : Registers) → Refines (inserts_lane e d n base displacement r) (does e r)) → ((e : ElementSize) → NeverStops (does e)) →
      (IsTrue valid → (d < 32) × (n < 16) × (base < 16)) → IsOptionalRow valid (insert_lane_row (element_code size) size d n base displacement) (does (elements_of size)) → StepRuns L k
  lane_inserted_runs valid size d n base displacement does refines never small is =
      lane_runs valid size displacement (λ c. vrs_b opcodes.VLVG d base n c displacement) does (λ e narrow within able row.
      let few = small able in
      let low = lane_low e displacement within in
      let x = vrs_b opcodes.VLVG d base n (code_of_size e) displacement in
      let fit = fits_vrs_b opcodes.VLVG d base n (code_of_size e) displacement (few_digits insert_listed.0) few.0 few.2 few.1 (code_few e) low in
      looser_runs b x (inserts_lane e d n base displacement) (does e) (refines e) (never e) row (λ st.
      meant_at L b.image (L.offsets.step k) (step_even b) x InsertElement (inserts_lane e d n base displacement) insert_listed fit (insert_allowed e narrow d n base displacement) (inserts_there e d n base displacement low) st)) is

  -- the same, where the other elements may become any: at the left of a float register it has a row of its own
  pub alone_inserted_runs : (valid : Bool) (size d n base displacement : ℕ) → (IsTrue valid → (d < 32) × (n < 16) × (base < 16)) → IsOptionalRow valid (insert_alone_row size d n base displacement) (inserts_lane_alone (elements_of size) d n base displacement) → StepRuns L k
  alone_inserted_runs valid size d n base displacement small is = go (is_float_doubleword size d base displacement) refl is.1 is.2
    where
      go : (t : Bool) → is_float_doubleword size d base displacement ≡ t → step_parts s ≡ parts_or (single_with valid (cond t (Some (rre opcodes.LDGR d n)) (insert_lane_row (element_code size) size d n base displacement))) None [] →
          OperandsValidOr (single_with valid (cond t (Some (rre opcodes.LDGR d n)) (insert_lane_row (element_code size) size d n base displacement))) ⊥ → StepRuns L k
      go false test parts able =
          lane_inserted_runs valid size d n base displacement (λ e. inserts_lane_alone e d n base displacement) (λ e r. alone_refines e d n base displacement r) (λ e. alone_never e d n base displacement) small (is.0, parts, able)
      go true test parts able =
          let at = float_doubleword size d base displacement test in
          let few = small able in
          let kind = is.0 ∙ first_doubleword (λ e z y. inserts_lane_alone e d n z y) at.0 at.1 at.2 in
          let does : Registers → Operation = λ r. puts d high_half (r.general n * 2 ^ 64) in
          looser_runs b (rre opcodes.LDGR d n) does (inserts_lane_alone Doubleword d n 0 0) (λ r. left_known d (r.general n) (r.vector d)) (alone_never Doubleword d n 0 0) (kind, parts) (λ st.
          meant_at L b.image (L.offsets.step k) (step_even b) (rre opcodes.LDGR d n) RegisterToLeft does ldgr_row (fits_rre opcodes.LDGR d n (few_digits ldgr_row.0) at.3 few.1) refl (λ r p. refl) st)

  -- one element, as a general register
  pub lane_extracted_runs : (valid : Bool) (size d n base displacement : ℕ) → (IsTrue valid → (d < 16) × (n < 32) × (base < 16)) → IsOptionalRow valid (extract_row size d n base displacement) (extracts_lane (elements_of size) d n base displacement) → StepRuns L k
  lane_extracted_runs valid size d n base displacement small is = go (is_float_doubleword size n base displacement) refl is.1 is.2
    where
      by_lane : IsOptionalRow valid (extract_lane_row (element_code size) size d n base displacement) (extracts_lane (elements_of size) d n base displacement) → StepRuns L k
      by_lane is =
          lane_runs valid size displacement (λ c. vrs_c opcodes.VLGV d base n c displacement) (λ e. extracts_lane e d n base displacement) (λ e narrow within able row.
          let few = small able in
          let low = lane_low e displacement within in
          let fit = fits_vrs_c opcodes.VLGV d base n (code_of_size e) displacement (few_digits extract_listed.0) few.0 few.2 few.1 (code_few e) low in
          meant_runs b (vrs_c opcodes.VLGV d base n (code_of_size e) displacement) ExtractElement (extracts_lane e d n base displacement) (extracts_never e d n base displacement) row extract_listed fit (extract_allowed e narrow d n base displacement) (extracts_there e d n base displacement low)) is

      go : (t : Bool) → is_float_doubleword size n base displacement ≡ t → step_parts s ≡ parts_or (single_with valid (cond t (Some (rre opcodes.LGDR d n)) (extract_lane_row (element_code size) size d n base displacement))) None [] →
          OperandsValidOr (single_with valid (cond t (Some (rre opcodes.LGDR d n)) (extract_lane_row (element_code size) size d n base displacement))) ⊥ → StepRuns L k
      go false test parts able = by_lane (is.0, parts, able)
      go true test parts able =
          let at = float_doubleword size n base displacement test in
          let few = small able in
          let kind = is.0 ∙ first_doubleword (λ e z y. extracts_lane e d n z y) at.0 at.1 at.2 in
          meant_runs b (rre opcodes.LGDR d n) LeftToRegister (extracts_lane Doubleword d n 0 0) (extracts_never Doubleword d n 0 0) (kind, parts) lgdr_row (fits_rre opcodes.LGDR d n (few_digits lgdr_row.0) few.0 at.3) refl (λ r p. refl)
