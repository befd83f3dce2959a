-- A step that puts a vector register's elements in reverse order: its doublewords change places, and then the halves of each element, down to the elements.
use Rattle.std.proofs.Common.{◌≡◌, ℕ, suc, ◌+◌, ◌-◌, ◌*◌, ◌/◌, ◌%◌, ◌^◌, ◌<◌, ◌≤◌, ◌==◌, ℤ, pos, inl, inr, List, [], ◌∷◌, length, Option, Some, None, Bool, true, false, cond, refl, sym, ap, ◌∙◌, subst, arith, nat_eq, true≢false}
use Rattle.std.proofs.lemmas.Bool.{eq-eqb, eqb-true}
use Rattle.s390x_inst.specs.declared.vec_ops.VecShiftOp.{VecShiftOp}
use Rattle.s390x_inst.specs.declared.vec_ops.VecShiftOp.TheVariants.{RotL16x8, RotL32x4, RotL64x2}
use Rattle.s390x_format.specs.Formats.{length_of}
use Rattle.s390x_lanes.specs.Lanes.{lane}
use Rattle.s390x_lanes.specs.Relation.{code_of, divides_by_zero, division_overflows, is_determined}
use Rattle.s390x_lanes.specs.Results.{vector_result}
use Rattle.s390x_lanes.specs.Rows.{operation_of}
use Rattle.s390x_lanes.specs.Size.{element_bits, lane_count}
use Rattle.s390x_lanes.specs.declared.operators.ShiftOperator.{ShiftOperator}
use Rattle.s390x_lanes.specs.declared.operators.ShiftOperator.TheVariants.{RotateLeft}
use Rattle.s390x_lanes.specs.declared.operators.VectorOperation.{VectorOperation}
use Rattle.s390x_lanes.specs.declared.operators.VectorOperation.TheVariants.{PermuteDoublewords, ShiftElements}
use Rattle.s390x_lanes.specs.declared.size.ElementSize.{ElementSize}
use Rattle.s390x_lanes.specs.declared.size.ElementSize.TheVariants.{Byte, Halfword, Word, Doubleword}
use Rattle.s390x_lanes.proofs.Building.{build_lt, lane_lt, whole}
use Rattle.s390x_lanes.proofs.Reversing.{in_reverse, reversed_doublewords, reversed_halves}
use Rattle.s390x_operations.specs.Effects.{vector_code}
use Rattle.s390x_operations.specs.State.{Registers, Core, set_vector, with_code, core_after_writes, wrapping_add64}
use Rattle.s390x_operations.specs.Vectors.{with_reversed_elements}
use Rattle.s390x_operations.specs.declared.effect.Operation.{Operation}
use Rattle.s390x_operations.specs.declared.stop.StopKind.TheVariants.{Divide}
use Rattle.s390x_rows.specs.declared.opcodes.TheConstants as opcodes
use Rattle.s390x_typed_steps.specs.MachineInstruction.{MachineInstruction, bytes_of, vrs_a}
use Rattle.s390x_typed_steps.specs.Parts.{row_parts, step_parts}
use Rattle.s390x_typed_steps.specs.Steps.{Step}
use Rattle.s390x_typed_steps.specs.VectorComposite.{exchanges_doublewords, exchanges_halves, reversing_rows, rows_cause, rows_or_none}
use Rattle.s390x_typed_steps.specs.VectorOpcodes.{shift_row}
use Rattle.s390x_machine.specs.declared.action_type.Action.{Action}
use Rattle.s390x_machine.specs.declared.action_type.Action.TheVariants.{Perform}
use Rattle.s390x_format.specs.declared.semantics.RowSemantics.TheVariants as Row
use Rattle.s390x_machine.specs.CodeAt.{ImageAt}
use Rattle.s390x_machine.specs.Layout.{Layout, InStep, step_address}
use Rattle.s390x_machine.specs.Machine.{Executed, Interrupted, Transition, all_writes}
use Rattle.s390x_machine.specs.Operands.{address_by_base}
use Rattle.s390x_machine.specs.OneStep.{StepRuns}
use Rattle.s390x_machine.specs.Semantics.{on_elements}
use Rattle.s390x_machine.specs.StepKinds.{Performs, no_code}
use Rattle.s390x_machine.specs.Typed.{At, goes_on, KindStep, TypedStep, kind_at, kind_of_step, typed_store_event}
use Rattle.s390x_machine.specs.VectorOperations.{shift_operator, shifted_elements}
use Rattle.s390x_machine.specs.VectorSteps.{elements_of, reverses_elements}
use Rattle.s390x_machine.proofs.Addresses.{moved, sum_more}
use Rattle.s390x_machine.proofs.Branches.{stores_none}
use Rattle.s390x_machine.proofs.Built.{StepAt, size_as, stand_as, step_even, step_form}
use Rattle.s390x_machine.proofs.Composites.{ChangesTo, row_over_last, row_then}
use Rattle.s390x_machine.proofs.Fetching.{StandsAt}
use Rattle.s390x_machine.proofs.Listing.{few_digits}
use Rattle.s390x_machine.proofs.Simulation.{Inside, RowAt, Simulates, at_start, mid}
use Rattle.s390x_machine.proofs.SingleInstruction.{DoesThere, meant_at}
use Rattle.s390x_machine.proofs.Standing.{inside_at, inside_first, next_place}
use Rattle.s390x_machine.proofs.VectorRows.{doublewords_rows, elements_few, elements_listed, fits_vrr_c, fits_vrs_a, shift_allowed, shift_code, shift_operation, shift_rows, small_displacement, vector_row_of}
use Rattle.s390x_machine.proofs.VectorSteps.{computed_vector, elements_computed, vector_there}
use Rattle.s390x_machine.proofs.Operands.{twice}

-- ---- a vector register that gets one value after another

pub put_again : (r : Registers) (d x y : ℕ) → set_vector (set_vector r d x) d y ≡ set_vector r d y
put_again r d x y = λ i. record r { vector = λ k. twice (k == d) x y (r.vector k) i }

pub put_held : (r : Registers) (d x : ℕ) → (set_vector r d x).vector d ≡ x
put_held r d x = ap (λ t. cond t x (r.vector d)) (eq-eqb d d refl)

-- the value that it has
pub put_same : (r : Registers) (d x : ℕ) → x ≡ r.vector d → set_vector r d x ≡ r
put_same r d x e = λ i. record r { vector = λ k. own k (k == d) refl i }
  where
    own : (k : ℕ) (t : Bool) → (k == d) ≡ t → cond t x (r.vector k) ≡ r.vector k
    own k true same = e ∙ ap r.vector (sym (eqb-true k d same))
    own k false same = refl

-- ---- a row whose operands determine its result

pub determined_changes : (o : VectorOperation) (t a b c d size p : ℕ) (r : Registers) → is_determined o b c ≡ true → divides_by_zero o c ≡ false → division_overflows o b c ≡ false →
    ChangesTo (Perform (computed_vector o t a b c d)) size r p (with_code (vector_code r.code (code_of o a b c)) (set_vector r t (vector_result o a b c d)))
determined_changes o t a b c d size p r known zero over m (Executed e) after h =
    let g = h.0.results in
    let registers = g.2 ∙ ap (λ x. with_code x (set_vector r t g.0)) h.0.code ∙ ap (λ y. with_code (vector_code r.code (code_of o a b c)) (set_vector r t y)) (g.1.result known) in
    (ap Executed h.2, λ i. record { core = record { registers = registers i; memory = h.0.memory i }; address = h.1 i })
determined_changes o t a b c d size p r known zero over m (Interrupted kind) after (inl e, same) = absurd (cc)
determined_changes o t a b c d size p r known zero over m (Interrupted kind) after (inr (e, inl f), same) = let none : cond (divides_by_zero o c) (Some Divide) None ≡ None = ap (λ z. cond z (Some Divide) None) zero in absurd (cc)
determined_changes o t a b c d size p r known zero over m (Interrupted kind) after (inr (e, inr f), same) = absurd (true≢false (sym f.1 ∙ over))

-- ---- the rows

exchange_changes : (d n p : ℕ) (r : Registers) → ChangesTo (Perform (elements_computed (exchanges_doublewords d n) (PermuteDoublewords 1 0) r)) 6 r p (set_vector r d (in_reverse 64 2 (r.vector n)))
exchange_changes d n p r =
    subst (λ y. ChangesTo (Perform (elements_computed (exchanges_doublewords d n) (PermuteDoublewords 1 0) r)) 6 r p (set_vector r d y)) (reversed_doublewords (r.vector n))
    (determined_changes (PermuteDoublewords 1 0) d (r.vector d) (r.vector n) (r.vector n) (r.vector 0) 6 p r refl refl refl)

-- a rotation of each element by half of it
abbrev turned : ElementSize → (half d : ℕ) → Registers → Operation
turned e half d r = computed_vector (ShiftElements RotateLeft e half) d (r.vector d) (r.vector d) 0 0

turn_changes : (e : ElementSize) (half d p y z : ℕ) (r : Registers) → vector_result (ShiftElements RotateLeft e half) y y 0 0 ≡ z → ChangesTo (Perform (turned e half d (set_vector r d y))) 6 (set_vector r d y) p (set_vector r d z)
turn_changes e half d p y z r is =
    let r1 = set_vector r d y in
    let o = ShiftElements RotateLeft e half in
    let end : set_vector r1 d (vector_result o (r1.vector d) (r1.vector d) 0 0) ≡ set_vector r d z = ap (λ v. set_vector r1 d (vector_result o v v 0 0)) (put_held r d y) ∙ put_again r d y (vector_result o y y 0 0) ∙ ap (λ v. set_vector r d v) is in
    subst (λ q. ChangesTo (Perform (turned e half d r1)) 6 r1 p q) end (determined_changes o d (r1.vector d) (r1.vector d) 0 0 6 p r1 refl refl refl)

exchange_there : (L : Layout) (image : ImageAt L) (offset : ℕ) (even : offset % 2 ≡ 0) (d n : ℕ) → d < 32 → n < 32 → DoesThere L image offset even (exchanges_doublewords d n) (elements_computed (exchanges_doublewords d n) (PermuteDoublewords 1 0))
exchange_there L image offset even d n ld ln =
    let row = doublewords_rows d n n 1 0 (omega arith) (omega arith) in
    vector_there L image offset even (exchanges_doublewords d n) (PermuteDoublewords 1 0) row (fits_vrr_c opcodes.VPDI d n n 4 (few_digits (elements_listed row)) ld ln ln (elements_few row))

-- such an amount, as the machine computes it
amount_is : (r : Registers) (half : ℕ) → half < 64 → address_by_base r 0 (pos half) % 64 ≡ half
amount_is r half lt = ap (λ t. t % 64) (moved 0 half) ∙ omega (arith, lt)

turn_there : (L : Layout) (image : ImageAt L) (offset : ℕ) (even : offset % 2 ≡ 0) (op : VecShiftOp) (d half : ℕ) → d < 32 → half < 64 → shift_operator op ≡ RotateLeft → DoesThere L image offset even (vrs_a (shift_row op).opcode d 0 d (shift_row op).code half) (turned (shifted_elements op) half d)
turn_there L image offset even op d half ld small is =
    let x = vrs_a (shift_row op).opcode d 0 d (shift_row op).code half in
    let short : half < 4096 = omega (arith, small) in
    let fit = fits_vrs_a (shift_row op).opcode d 0 d (shift_row op).code half (few_digits (shift_rows op).0) ld (omega arith) ld (shift_code op) short in
    let operation = shift_operation op half small ∙ ap (λ (o : ShiftOperator). Some (ShiftElements o (shifted_elements op) half)) is in
    meant_at L image offset even x (Row.ShiftElements (vector_row_of (shift_row op).opcode)) (turned (shifted_elements op) half d) (shift_rows op) fit (shift_allowed op d 0 d half) (λ r p.
    ap (λ (z : ℤ). on_elements (operation_of (vector_row_of (shift_row op).opcode) ((shift_row op).code ∷ 0 ∷ 0 ∷ []) (pos (address_by_base r 0 z % 64))) d (r.vector d) (r.vector d) 0 0) (small_displacement half short)
    ∙ ap (λ k. on_elements (operation_of (vector_row_of (shift_row op).opcode) ((shift_row op).code ∷ 0 ∷ 0 ∷ []) (pos k)) d (r.vector d) (r.vector d) 0 0) (amount_is r half small)
    ∙ ap (λ q. on_elements q d (r.vector d) (r.vector d) 0 0) operation)

-- what the two do
abbrev exchanging : (d n : ℕ) → Registers → Action
exchanging d n r = Perform (elements_computed (exchanges_doublewords d n) (PermuteDoublewords 1 0) r)

abbrev turning : ElementSize → (half d : ℕ) → Registers → Action
turning e half d r = Perform (turned e half d r)

-- ---- a step of rows of six bytes

-- so many bytes behind its first one
abbrev pub place : Layout → ℕ → ℕ → ℕ
place L k a = wrapping_add64 (step_address L k) a

module _ {L : Layout} {k : ℕ} {s : Step} (b : StepAt L k s) (total : ℕ) (size : L.offsets.step (suc k) ≡ L.offsets.step k + total) where
  pub placed : (offset a : ℕ) (act : Registers → Action) (n : ℕ) → L.offsets.step k + a ≡ offset → RowAt L (wrapping_add64 L.image.base offset) act n → RowAt L (place L k a) act n
  placed offset a act n e row = subst (λ q. RowAt L q act n) (ap (λ x. wrapping_add64 L.image.base x) (sym e) ∙ sym (sum_more L.image.base (L.offsets.step k) a)) row

  pub first_place : step_address L k ≡ place L k 0
  first_place = let e : L.offsets.step k + 0 ≡ L.offsets.step k = omega arith in sym (sum_more L.image.base (L.offsets.step k) 0 ∙ ap (λ n. wrapping_add64 L.image.base n) e)

  -- such a row, and what follows it
  pub row_on : (c : Core) (g : List Transition) (r r' : Registers) (a : ℕ) (act : Registers → Action) → length g ≤ 2 → a + 6 < total → RowAt L (place L k a) act 6 → ChangesTo (act r) 6 r (place L k a) r' →
      ((h : List Transition) → length h ≡ suc (length g) → Inside L k c h r' (place L k (a + 6)) → Simulates L k c h r' (place L k (a + 6))) → Inside L k c g r (place L k a) → Simulates L k c g r (place L k a)
  row_on c g r r' a act few lt row changes go i =
      let on = sum_more (step_address L k) a 6 in
      row_then L k c g r (place L k a) act 6 r' i few (subst (λ q. InStep L k q) (sym on) (inside_at L k (a + 6) total size lt)) row changes
      (subst (λ q. (h : List Transition) → length h ≡ suc (length g) → Inside L k c h r' q → Simulates L k c h r' q) (sym on) go)

  -- the last one
  pub row_ends : (c : Core) (g : List Transition) (r r' : Registers) (a : ℕ) (act : Registers → Action) → a + 6 ≡ total → RowAt L (place L k a) act 6 → ChangesTo (act r) 6 r (place L k a) r' → ((y : Core) → typed_store_event L k y ≡ None) →
      ((h : List Transition) → TypedStep L k (core_after_writes (all_writes h) c) (At (suc k)) (mid c r' (all_writes h) 0).core) → Inside L k c g r (place L k a) → Simulates L k c g r (place L k a)
  row_ends c g r r' a act e row changes none step i =
      row_over_last L k c g r (place L k a) act 6 r' (suc k) i row (λ m event t l. changes m event t) (sum_more (step_address L k) a 6 ∙ ap (λ n. wrapping_add64 (step_address L k) n) e ∙ next_place L k total size) none step

  -- a step whose rows run from its first byte
  pub from_start : 0 < total → ((c : Core) → Inside L k c [] c.registers (place L k 0) → Simulates L k c [] c.registers (place L k 0)) → StepRuns L k
  from_start some go c is_loaded =
      subst (λ q. Inside L k c [] c.registers q → Simulates L k c [] c.registers q) (sym first_place) (go c) (at_start L k c (inside_first L k total size some) is_loaded)

-- ---- the step

in_order_lt : (w n x : ℕ) → w * n ≡ 128 → in_reverse w n x < 2 ^ 128
in_order_lt w n x e = subst (λ (k : ℕ). in_reverse w n x < 2 ^ k) e (build_lt w n (λ i. lane w x (n - 1 - i)) (λ j q. lane_lt w x (n - 1 - j)))

reverse_step : (L : Layout) (k : ℕ) (e : ElementSize) (d n : ℕ) → kind_at L k ≡ Some (Performs false (reverses_elements e d n) no_code) → (c : Core) (h : List Transition) → TypedStep L k (core_after_writes (all_writes h) c) (At (suc k)) (mid c (set_vector c.registers d (with_reversed_elements e (c.registers.vector n))) (all_writes h) 0).core
reverse_step L k e d n is c h =
    let y = core_after_writes (all_writes h) c in
    let v = with_reversed_elements e (c.registers.vector n) in
    let x = (mid c (set_vector c.registers d v) (all_writes h) 0).core in
    let small = in_order_lt (element_bits e) (lane_count e) (c.registers.vector n) (whole e) in
    subst (λ f. KindStep L f k y (At (suc k)) x) (sym is) (goes_on 0 (record { reached = refl; allowed = refl; results = (v, small, refl, refl); code = refl; memory = refl }) refl)

module _ {L : Layout} {k : ℕ} {s : Step} (b : StepAt L k s) (d n : ℕ) (ld : d < 32) (ln : n < 32) where
  -- the first row, and one behind it
  first_row : (total : ℕ) → (size : L.offsets.step (suc k) ≡ L.offsets.step k + total) → StandsAt L.image (L.offsets.step k) (bytes_of (exchanges_doublewords d n)) → RowAt L (place L k 0) (exchanging d n) 6
  unfolding length_of
  first_row total size stands = placed b total size (L.offsets.step k) 0 (exchanging d n) 6 (omega arith) (exchange_there L b.image (L.offsets.step k) (step_even b) d n ld ln stands)

  turn_row : (total : ℕ) → (size : L.offsets.step (suc k) ≡ L.offsets.step k + total) → (op : VecShiftOp) (half offset a : ℕ) → L.offsets.step k + a ≡ offset → a % 2 ≡ 0 → half < 64 → shift_operator op ≡ RotateLeft → StandsAt L.image offset (bytes_of (vrs_a (shift_row op).opcode d 0 d (shift_row op).code half)) → RowAt L (place L k a) (turning (shifted_elements op) half d) 6
  unfolding length_of
  turn_row total size op half offset a e even small rotates stands =
      let first = step_even b in
      placed b total size offset a (turning (shifted_elements op) half d) 6 e (turn_there L b.image offset (omega (arith, first, even, e)) op d half ld small rotates stands)

  -- the registers behind the rows that reverse elements of a size
  abbrev reversed_in : ElementSize → Registers → Registers
  reversed_in e r = set_vector r d (with_reversed_elements e (r.vector n))

  abbrev IsReversal : ElementSize → List MachineInstruction → Type 0
  IsReversal e rows = (kind_of_step L (Some s) ≡ Some (Performs false (reverses_elements e d n) no_code)) × (step_parts s ≡ row_parts rows)

  stores_nothing : (e : ElementSize) → kind_of_step L (Some s) ≡ Some (Performs false (reverses_elements e d n) no_code) → (y : Core) → typed_store_event L k y ≡ None
  stores_nothing e is = stores_none L k (Performs false (reverses_elements e d n) no_code) (λ y. refl) (step_form b _ is)

  pub doublewords_reverse : IsReversal Doubleword (exchanges_doublewords d n ∷ []) → StepRuns L k
  unfolding length_of
  doublewords_reverse is =
      let size : L.offsets.step (suc k) ≡ L.offsets.step k + 6 = size_as b _ is.1 in
      let stands = stand_as b _ is.1 in
      from_start b 6 size (omega arith) (λ c i.
      row_ends b 6 size c [] c.registers (reversed_in Doubleword c.registers) 0 (exchanging d n) refl (first_row 6 size stands.0) (exchange_changes d n (place L k 0) c.registers) (stores_nothing Doubleword is.0) (reverse_step L k Doubleword d n (step_form b _ is.0) c) i)

  pub words_reverse : IsReversal Word (exchanges_doublewords d n ∷ exchanges_halves d 3 32 ∷ []) → StepRuns L k
  unfolding length_of
  words_reverse is =
      let o = L.offsets.step k in
      let size : L.offsets.step (suc k) ≡ o + 12 = size_as b _ is.1 in
      let stands = stand_as b _ is.1 in
      from_start b 12 size (omega arith) (λ c i.
      let x = c.registers.vector n in
      row_on b 12 size c [] c.registers (reversed_in Doubleword c.registers) 0 (exchanging d n) (omega arith) (omega arith) (first_row 12 size stands.0) (exchange_changes d n (place L k 0) c.registers) (λ g few1 i1.
      row_ends b 12 size c g (reversed_in Doubleword c.registers) (reversed_in Word c.registers) 6 (turning Doubleword 32 d) refl (turn_row 12 size RotL64x2 32 (o + 6) 6 refl refl (omega arith) refl stands.1.0) (turn_changes Doubleword 32 d (place L k 6) _ _ c.registers (reversed_halves 32 2 x refl)) (stores_nothing Word is.0) (reverse_step L k Word d n (step_form b _ is.0) c) i1) i)

  pub halfwords_reverse : IsReversal Halfword (exchanges_doublewords d n ∷ exchanges_halves d 3 32 ∷ exchanges_halves d 2 16 ∷ []) → StepRuns L k
  unfolding length_of
  halfwords_reverse is =
      let o = L.offsets.step k in
      let size : L.offsets.step (suc k) ≡ o + 18 = size_as b _ is.1 in
      let stands = stand_as b _ is.1 in
      from_start b 18 size (omega arith) (λ c i.
      let x = c.registers.vector n in
      row_on b 18 size c [] c.registers (reversed_in Doubleword c.registers) 0 (exchanging d n) (omega arith) (omega arith) (first_row 18 size stands.0) (exchange_changes d n (place L k 0) c.registers) (λ g few1 i1.
      row_on b 18 size c g (reversed_in Doubleword c.registers) (reversed_in Word c.registers) 6 (turning Doubleword 32 d) (omega (arith, few1)) (omega arith) (turn_row 18 size RotL64x2 32 (o + 6) 6 refl refl (omega arith) refl stands.1.0) (turn_changes Doubleword 32 d (place L k 6) _ _ c.registers (reversed_halves 32 2 x refl)) (λ h few2 i2.
      row_ends b 18 size c h (reversed_in Word c.registers) (reversed_in Halfword c.registers) 12 (turning Word 16 d) refl (turn_row 18 size RotL32x4 16 (o + 6 + 6) 12 (omega arith) refl (omega arith) refl stands.1.1.0) (turn_changes Word 16 d (place L k 12) _ _ c.registers (reversed_halves 16 4 x refl)) (stores_nothing Halfword is.0) (reverse_step L k Halfword d n (step_form b _ is.0) c) i2) i1) i)

  pub bytes_reverse : IsReversal Byte (exchanges_doublewords d n ∷ exchanges_halves d 3 32 ∷ exchanges_halves d 2 16 ∷ exchanges_halves d 1 8 ∷ []) → StepRuns L k
  unfolding length_of
  bytes_reverse is =
      let o = L.offsets.step k in
      let size : L.offsets.step (suc k) ≡ o + 24 = size_as b _ is.1 in
      let stands = stand_as b _ is.1 in
      from_start b 24 size (omega arith) (λ c i.
      let x = c.registers.vector n in
      row_on b 24 size c [] c.registers (reversed_in Doubleword c.registers) 0 (exchanging d n) (omega arith) (omega arith) (first_row 24 size stands.0) (exchange_changes d n (place L k 0) c.registers) (λ g few1 i1.
      row_on b 24 size c g (reversed_in Doubleword c.registers) (reversed_in Word c.registers) 6 (turning Doubleword 32 d) (omega (arith, few1)) (omega arith) (turn_row 24 size RotL64x2 32 (o + 6) 6 refl refl (omega arith) refl stands.1.0) (turn_changes Doubleword 32 d (place L k 6) _ _ c.registers (reversed_halves 32 2 x refl)) (λ h few2 i2.
      row_on b 24 size c h (reversed_in Word c.registers) (reversed_in Halfword c.registers) 12 (turning Word 16 d) (omega (arith, few1, few2)) (omega arith) (turn_row 24 size RotL32x4 16 (o + 6 + 6) 12 (omega arith) refl (omega arith) refl stands.1.1.0) (turn_changes Word 16 d (place L k 12) _ _ c.registers (reversed_halves 16 4 x refl)) (λ w few3 i3.
      row_ends b 24 size c w (reversed_in Halfword c.registers) (reversed_in Byte c.registers) 18 (turning Halfword 8 d) refl (turn_row 24 size RotL16x8 8 (o + 6 + 6 + 6) 18 (omega arith) refl (omega arith) refl stands.1.1.1.0) (turn_changes Halfword 8 d (place L k 18) _ _ c.registers (reversed_halves 8 8 x refl)) (stores_nothing Byte is.0) (reverse_step L k Byte d n (step_form b _ is.0) c) i3) i2) i1) i)

-- ---- by the count of elements

-- the registers, where nothing refuses such a step
valid_rows : (o : Option (List MachineInstruction)) (valid : Bool) → rows_cause o valid ≡ None → valid ≡ true
valid_rows None valid h = absurd (cc)
valid_rows (Some rows) true h = refl
valid_rows (Some rows) false h = absurd (cc)

-- there are none for another count
no_rows : (a b c d : Bool) (w x y z : List MachineInstruction) (valid : Bool) → a ≡ false → b ≡ false → c ≡ false → d ≡ false → rows_cause (cond a (Some w) (cond b (Some x) (cond c (Some y) (cond d (Some z) None)))) valid ≡ None → ⊥
no_rows false false false false w x y z valid ea eb ec ed h = absurd (cc)
no_rows true b c d w x y z valid ea eb ec ed h = absurd (cc)
no_rows false true c d w x y z valid ea eb ec ed h = absurd (cc)
no_rows false false true d w x y z valid ea eb ec ed h = absurd (cc)
no_rows false false false true w x y z valid ea eb ec ed h = absurd (cc)

-- a step of elements in reverse order: its operation, its rows, and no cause
abbrev pub IsReversalStep : Layout → Step → (count d n : ℕ) → Bool → Type 0
IsReversalStep L s count d n valid =
    (kind_of_step L (Some s) ≡ Some (Performs false (reverses_elements (elements_of (128 / count)) d n) no_code)) × (step_parts s ≡ row_parts (rows_or_none (reversing_rows count d n))) × (rows_cause (reversing_rows count d n) valid ≡ None)

pub reversal_runs : {L : Layout} {k : ℕ} {s : Step} (b : StepAt L k s) (count d n : ℕ) (valid : Bool) → (valid ≡ true → (d < 32) × (n < 32)) → IsReversalStep L s count d n valid → StepRuns L k
reversal_runs {L = L} {k = k} {s = s} b count d n valid small is = two (nat_eq count 2) refl
  where
    few : (d < 32) × (n < 32)
    few = small (valid_rows (reversing_rows count d n) valid is.2)

    at : (q : ℕ) → count ≡ q → IsReversalStep L s q d n valid
    at q e = subst (λ z. IsReversalStep L s z d n valid) e is

    sixteen : (t : Bool) → nat_eq count 16 ≡ t → nat_eq count 2 ≡ false → nat_eq count 4 ≡ false → nat_eq count 8 ≡ false → StepRuns L k
    sixteen true e n2 n4 n8 = let i = at 16 (eqb-true count 16 e) in bytes_reverse b d n few.0 few.1 (i.0, i.1)
    sixteen false e n2 n4 n8 = absurd (no_rows (nat_eq count 2) (nat_eq count 4) (nat_eq count 8) (nat_eq count 16) _ _ _ _ valid n2 n4 n8 e is.2)

    eight : (t : Bool) → nat_eq count 8 ≡ t → nat_eq count 2 ≡ false → nat_eq count 4 ≡ false → StepRuns L k
    eight true e n2 n4 = let i = at 8 (eqb-true count 8 e) in halfwords_reverse b d n few.0 few.1 (i.0, i.1)
    eight false e n2 n4 = sixteen (nat_eq count 16) refl n2 n4 e

    four : (t : Bool) → nat_eq count 4 ≡ t → nat_eq count 2 ≡ false → StepRuns L k
    four true e n2 = let i = at 4 (eqb-true count 4 e) in words_reverse b d n few.0 few.1 (i.0, i.1)
    four false e n2 = eight (nat_eq count 8) refl n2 e

    two : (t : Bool) → nat_eq count 2 ≡ t → StepRuns L k
    two true e = let i = at 2 (eqb-true count 2 e) in doublewords_reverse b d n few.0 few.1 (i.0, i.1)
    two false e = four (nat_eq count 4) refl e
