-- A step that compares two vector registers as numbers of 128 bits: their left doublewords, and where these are equal the right ones.
use Rattle.std.proofs.Common.{◌≡◌, ℕ, suc, ◌+◌, ◌-◌, ◌%◌, ◌^◌, ◌<◌, ◌==◌, ℤ, ◌⊎◌, inl, inr, List, [], ◌∷◌, ◌++◌, length, Some, None, Bool, true, false, cond, ◌&&◌, refl, sym, ap, ◌∙◌, subst, arith, nat_lt}
use Rattle.std.proofs.lemmas.Bool.{eqb-true, eqb-false, ltb-true, ltb-false, lt-ltb}
use Rattle.std.specs.Prelude.{int_lt, pos, negsuc, ◌||◌}
use Rattle.s390x_format.specs.Formats.{length_of}
use Rattle.s390x_inst.specs.declared.vec_ops.VecIntCmpOp.TheVariants.{UCmpHi64x2}
use Rattle.s390x_lanes.specs.Elements.{is_lower}
use Rattle.s390x_lanes.specs.Lanes.{every_lane, from_lanes, lane, some_lane}
use Rattle.s390x_lanes.specs.Relation.{lanes_code, order_code}
use Rattle.s390x_lanes.specs.Results.{vector_result}
use Rattle.s390x_lanes.specs.declared.operators.Comparison.TheVariants.{High}
use Rattle.s390x_lanes.specs.declared.operators.Signedness.{Signedness}
use Rattle.s390x_lanes.specs.declared.operators.Signedness.TheVariants.{Signed, Unsigned}
use Rattle.s390x_lanes.specs.declared.operators.VectorOperation.TheVariants.{Compare, CompareElement}
use Rattle.s390x_lanes.specs.declared.size.ElementSize.TheVariants.{Doubleword}
use Rattle.s390x_lanes.proofs.Building.{lane_lt}
use Rattle.s390x_operations.specs.Effects.{code_numbered, is_selected}
use Rattle.s390x_operations.specs.State.{Registers, Core, set_vector, with_code, core_after_writes, wrapping_add64}
use Rattle.s390x_operations.specs.declared.stop.ConditionCode.{ConditionCode}
use Rattle.s390x_operations.specs.declared.stop.ConditionCode.TheVariants.{Code1, Code2, Code3}
use Rattle.s390x_rows.specs.declared.opcodes.TheConstants as opcodes
use Rattle.s390x_typed_steps.specs.MachineInstruction.{vrr_a, vrr_b}
use Rattle.s390x_typed_steps.specs.Parts.{row_parts, step_parts}
use Rattle.s390x_typed_steps.specs.Steps.{Step}
use Rattle.s390x_typed_steps.specs.VectorComposite.{comparing_rows}
use Rattle.s390x_machine.specs.declared.action_type.Action.{Action}
use Rattle.s390x_machine.specs.declared.action_type.Action.TheVariants.{Branch, Perform}
use Rattle.s390x_machine.specs.Layout.{Layout, step_address}
use Rattle.s390x_machine.specs.Machine.{Executed, Transition, all_writes}
use Rattle.s390x_machine.specs.OneStep.{StepRuns}
use Rattle.s390x_machine.specs.StepKinds.{ComparesWide}
use Rattle.s390x_machine.specs.Typed.{At, KindStep, TypedStep, kind_at, kind_of_step, typed_store_event, wide_order}
use Rattle.s390x_machine.proofs.Addresses.{sum_more}
use Rattle.s390x_machine.proofs.Branches.{stores_none}
use Rattle.s390x_machine.proofs.Built.{StepAt, size_as, stand_as, step_even, step_form}
use Rattle.s390x_machine.proofs.Composites.{ChangesTo}
use Rattle.s390x_machine.proofs.Listing.{few_digits}
use Rattle.s390x_machine.proofs.Reversing.{determined_changes, from_start, place, placed, put_same, row_ends, row_on}
use Rattle.s390x_machine.proofs.ShortBranches.{brc_at}
use Rattle.s390x_machine.proofs.Simulation.{Inside, RowAt, Simulates, branch, done, further, mid, resume}
use Rattle.s390x_machine.proofs.Standing.{inside_at}
use Rattle.s390x_machine.proofs.VectorRows.{ElementsRow, asking_rows, elements_listed, fits_vrr_a, fits_vrr_b}
use Rattle.s390x_machine.proofs.VectorSteps.{elements_computed, vector_there}

-- ---- the order of two doublewords

-- one of two different numbers is the lower
unsigned_order : (x y : ℕ) → (x == y) ≡ false → nat_lt x y ≡ false → nat_lt y x ≡ true
unsigned_order x y differ low = lt-ltb y x (omega (arith, eqb-false x y differ, ltb-false x y low))

complement_order : (x y : ℕ) → x < 2 ^ 64 → y < 2 ^ 64 → (x == y) ≡ false → nat_lt (2 ^ 64 - 1 - y) (2 ^ 64 - 1 - x) ≡ false → nat_lt (2 ^ 64 - 1 - x) (2 ^ 64 - 1 - y) ≡ true
complement_order x y lx ly differ low = lt-ltb (2 ^ 64 - 1 - x) (2 ^ 64 - 1 - y) (omega (arith, eqb-false x y differ, ltb-false (2 ^ 64 - 1 - y) (2 ^ 64 - 1 - x) low, lx, ly))

-- the number of a doubleword with a sign
abbrev number : (negative : Bool) → ℕ → ℤ
number negative x = cond negative (pos x) (negsuc (2 ^ 64 - 1 - x))

signed_order : (s t : Bool) (x y : ℕ) → x < 2 ^ 64 → y < 2 ^ 64 → (x == y) ≡ false → int_lt (number s x) (number t y) ≡ false → int_lt (number t y) (number s x) ≡ true
signed_order true true x y lx ly differ low = unsigned_order x y differ low
signed_order true false x y lx ly differ low = refl
signed_order false true x y lx ly differ low = absurd (cc)
signed_order false false x y lx ly differ low = complement_order x y lx ly differ low

one_is_lower : (sign : Signedness) (x y : ℕ) → x < 2 ^ 64 → y < 2 ^ 64 → (x == y) ≡ false → is_lower sign 64 x y ≡ false → is_lower sign 64 y x ≡ true
one_is_lower Unsigned x y lx ly differ low = unsigned_order x y differ low
one_is_lower Signed x y lx ly differ low = signed_order (nat_lt x (2 ^ 63)) (nat_lt y (2 ^ 63)) x y lx ly differ low

none_below : (x : ℕ) → nat_lt x x ≡ false
none_below x = ltb-false-of x (nat_lt x x) refl
  where
    ltb-false-of : (x : ℕ) (t : Bool) → nat_lt x x ≡ t → t ≡ false
    ltb-false-of x true e = absurd (let lt = ltb-true x x e in omega (arith, lt))
    ltb-false-of x false e = refl

signed_none : (s : Bool) (x : ℕ) → int_lt (number s x) (number s x) ≡ false
signed_none true x = none_below x
signed_none false x = none_below (2 ^ 64 - 1 - x)

not_below_itself : (sign : Signedness) (x : ℕ) → is_lower sign 64 x x ≡ false
not_below_itself Unsigned x = none_below x
not_below_itself Signed x = signed_none (nat_lt x (2 ^ 63)) x

-- ---- the two condition codes

-- where the left doublewords differ, the first comparison tells the order, and its code is selected by the branch's mask
pub record Told (sign : Signedness) (x y : ℕ) : Type 0 where
  pub order : code_numbered (order_code sign 64 (lane 64 y 0) (lane 64 x 0)) ≡ wide_order sign x y
  pub taken : is_selected 7 (code_numbered (order_code sign 64 (lane 64 y 0) (lane 64 x 0))) ≡ true

-- where they are equal its code isn't, and the second comparison tells the order
pub record Left (sign : Signedness) (x y : ℕ) : Type 0 where
  pub order : code_numbered (lanes_code (High Unsigned) 64 2 x y) ≡ wide_order sign x y
  pub skipped : is_selected 7 (code_numbered (order_code sign 64 (lane 64 y 0) (lane 64 x 0))) ≡ false

-- a code by what is lower
abbrev by_tests : (greater lower right : Bool) → ConditionCode
by_tests greater lower right = cond greater Code1 (cond lower Code2 (cond right Code1 Code3))

differing : (sign : Signedness) (x y : ℕ) → (lane 64 y 0 == lane 64 x 0) ≡ false → (t : Bool) → is_lower sign 64 (lane 64 y 0) (lane 64 x 0) ≡ t → Told sign x y
differing sign x y differ true e =
    let code : code_numbered (order_code sign 64 (lane 64 y 0) (lane 64 x 0)) ≡ Code1 = ap (λ t. code_numbered (cond t 0 (cond (is_lower sign 64 (lane 64 y 0) (lane 64 x 0)) 1 2))) differ ∙ ap (λ t. code_numbered (cond t 1 2)) e in
    record { order = code ∙ sym (ap (λ t. by_tests t (is_lower sign 64 (lane 64 x 0) (lane 64 y 0)) (nat_lt (lane 64 y 1) (lane 64 x 1))) e); taken = ap (is_selected 7) code }
differing sign x y differ false e =
    let code : code_numbered (order_code sign 64 (lane 64 y 0) (lane 64 x 0)) ≡ Code2 = ap (λ t. code_numbered (cond t 0 (cond (is_lower sign 64 (lane 64 y 0) (lane 64 x 0)) 1 2))) differ ∙ ap (λ t. code_numbered (cond t 1 2)) e in
    let lower = one_is_lower sign (lane 64 y 0) (lane 64 x 0) (lane_lt 64 y 0) (lane_lt 64 x 0) differ e in
    record {
      order = code ∙ sym (ap (λ t. by_tests t (is_lower sign 64 (lane 64 x 0) (lane 64 y 0)) (nat_lt (lane 64 y 1) (lane 64 x 1))) e ∙ ap (λ t. by_tests false t (nat_lt (lane 64 y 1) (lane 64 x 1))) lower);
      taken = ap (is_selected 7) code;
    }

by_right : (left right : Bool) → left ≡ false → code_numbered (cond ((true && left) && right) 0 (cond ((false || left) || right) 1 3)) ≡ by_tests false false right
by_right false true e = refl
by_right false false e = refl
by_right true right e = absurd (cc)

equal : (sign : Signedness) (x y : ℕ) → (lane 64 y 0 == lane 64 x 0) ≡ true → Left sign x y
unfolding every_lane some_lane
equal sign x y same =
    let e = eqb-true (lane 64 y 0) (lane 64 x 0) same in
    let greater : is_lower sign 64 (lane 64 y 0) (lane 64 x 0) ≡ false = ap (λ n. is_lower sign 64 n (lane 64 x 0)) e ∙ not_below_itself sign (lane 64 x 0) in
    let lower : is_lower sign 64 (lane 64 x 0) (lane 64 y 0) ≡ false = ap (λ n. is_lower sign 64 (lane 64 x 0) n) e ∙ not_below_itself sign (lane 64 x 0) in
    let left : nat_lt (lane 64 y 0) (lane 64 x 0) ≡ false = ap (λ n. nat_lt n (lane 64 x 0)) e ∙ none_below (lane 64 x 0) in
    let right = nat_lt (lane 64 y 1) (lane 64 x 1) in
    record {
      order = by_right (nat_lt (lane 64 y 0) (lane 64 x 0)) right left ∙ sym (ap (λ t. by_tests t (is_lower sign 64 (lane 64 x 0) (lane 64 y 0)) right) greater ∙ ap (λ t. by_tests false t right) lower);
      skipped = ap (λ t. is_selected 7 (code_numbered (cond t 0 (cond (is_lower sign 64 (lane 64 y 0) (lane 64 x 0)) 1 2)))) same;
    }

told_or_left : (sign : Signedness) (x y : ℕ) → Told sign x y ⊎ Left sign x y
told_or_left sign x y = go (lane 64 y 0 == lane 64 x 0) refl
  where
    go : (t : Bool) → (lane 64 y 0 == lane 64 x 0) ≡ t → Told sign x y ⊎ Left sign x y
    go true e = inr (equal sign x y e)
    go false e = inl (differing sign x y e (is_lower sign 64 (lane 64 y 0) (lane 64 x 0)) refl)

-- ---- the rows

abbrev comparing : (opcode : ℕ) → Signedness → (n m : ℕ) → Registers → Action
comparing opcode sign n m r = Perform (elements_computed (vrr_a opcode m n 3) (CompareElement sign Doubleword) r)

abbrev comparing_right : (tmp n m : ℕ) → Registers → Action
comparing_right tmp n m r = Perform (elements_computed (vrr_b opcodes.VCHL tmp n m 3 1) (Compare (High Unsigned) Doubleword true) r)

-- the registers behind the first comparison, and behind the second one
abbrev told_in : Signedness → (n m : ℕ) → Registers → Registers
told_in sign n m r = with_code (code_numbered (order_code sign 64 (lane 64 (r.vector m) 0) (lane 64 (r.vector n) 0))) r

abbrev right_result : (tmp n m : ℕ) → Registers → ℕ
right_result tmp n m r = vector_result (Compare (High Unsigned) Doubleword true) (r.vector tmp) (r.vector n) (r.vector m) (r.vector 0)

abbrev right_in : (tmp n m : ℕ) → Registers → Registers
right_in tmp n m r = with_code (code_numbered (lanes_code (High Unsigned) 64 2 (r.vector n) (r.vector m))) (set_vector r tmp (right_result tmp n m r))

first_same : (sign : Signedness) (a b c d : ℕ) → vector_result (CompareElement sign Doubleword) a b c d ≡ a
unfolding from_lanes
first_same sign a b c d = omega arith

compare_changes : (opcode : ℕ) (sign : Signedness) (n m p : ℕ) (r : Registers) → ChangesTo (comparing opcode sign n m r) 6 r p (told_in sign n m r)
compare_changes opcode sign n m p r =
    let o = CompareElement sign Doubleword in
    let code = code_numbered (order_code sign 64 (lane 64 (r.vector m) 0) (lane 64 (r.vector n) 0)) in
    subst (λ q. ChangesTo (comparing opcode sign n m r) 6 r p (with_code code q)) (put_same r m (vector_result o (r.vector m) (r.vector n) (r.vector 0) (r.vector 0)) (first_same sign (r.vector m) (r.vector n) (r.vector 0) (r.vector 0)))
    (determined_changes o m (r.vector m) (r.vector n) (r.vector 0) (r.vector 0) 6 p r refl refl refl)

right_changes : (sign : Signedness) (tmp n m p : ℕ) (r : Registers) → ChangesTo (comparing_right tmp n m (told_in sign n m r)) 6 (told_in sign n m r) p (right_in tmp n m r)
right_changes sign tmp n m p r =
    determined_changes (Compare (High Unsigned) Doubleword true) tmp (r.vector tmp) (r.vector n) (r.vector m) (r.vector 0) 6 p (told_in sign n m r) refl refl refl

-- ---- the step

wide_step : (L : Layout) (k : ℕ) (sign : Signedness) (tmp n m v : ℕ) → kind_at L k ≡ Some (ComparesWide sign tmp n m) → (c : Core) (r : Registers) → r ≡ with_code (wide_order sign (c.registers.vector n) (c.registers.vector m)) (set_vector c.registers tmp v) → (h : List Transition) →
    TypedStep L k (core_after_writes (all_writes h) c) (At (suc k)) (mid c r (all_writes h) 0).core
wide_step L k sign tmp n m v is c r e h =
    let y = core_after_writes (all_writes h) c in
    let x = (mid c r (all_writes h) 0).core in
    subst (λ f. KindStep L f k y (At (suc k)) x) (sym is) (v, refl, λ i. record { registers = e i; memory = y.memory })

module _ {L : Layout} {k : ℕ} {s : Step} (b : StepAt L k s) (opcode : ℕ) (sign : Signedness) (tmp n m : ℕ) (is : kind_of_step L (Some s) ≡ Some (ComparesWide sign tmp n m)) (size : L.offsets.step (suc k) ≡ L.offsets.step k + 16) where
  none : (y : Core) → typed_store_event L k y ≡ None
  none = stores_none L k (ComparesWide sign tmp n m) (λ y. refl) (step_form b _ is)

  -- behind the first comparison: the branch, and what it skips
  branched : (c : Core) (g : List Transition) → length g ≡ 1 → RowAt L (place L k 6) (λ r. Branch 7 (step_address L (suc k))) 4 → RowAt L (place L k 10) (comparing_right tmp n m) 6 → Inside L k c g (told_in sign n m c.registers) (place L k 6) →
      Told sign (c.registers.vector n) (c.registers.vector m) ⊎ Left sign (c.registers.vector n) (c.registers.vector m) → Simulates L k c g (told_in sign n m c.registers) (place L k 6)
  branched c g one skip row i (inl told) =
      let r = told_in sign n m c.registers in
      branch L k c g r (place L k 6) (λ r. Branch 7 (step_address L (suc k))) 4 7 (step_address L (suc k)) i skip refl (λ t rest u e at run.
      let h = g ++ t ∷ [] in
      let there = at ∙ ap (λ q. mid c r (all_writes h) (cond q (step_address L (suc k)) (wrapping_add64 (place L k 6) 4))) told.taken in
      let same : r ≡ with_code (wide_order sign (c.registers.vector n) (c.registers.vector m)) (set_vector c.registers tmp (c.registers.vector tmp)) = ap (λ x. with_code x c.registers) told.order ∙ ap (λ x. with_code (wide_order sign (c.registers.vector n) (c.registers.vector m)) x) (sym (put_same c.registers tmp (c.registers.vector tmp) refl)) in
      done L k c g r (place L k 6) _ 4 t rest (suc k) (mid c r (all_writes h) 0).core i u (e ∙ ap Executed (sym (none (core_after_writes (all_writes h) c)))) there (λ out. u.is_loaded) (wide_step L k sign tmp n m (c.registers.vector tmp) (step_form b _ is) c r same h))
  branched c g one skip row i (inr left) =
      let r = told_in sign n m c.registers in
      branch L k c g r (place L k 6) (λ r. Branch 7 (step_address L (suc k))) 4 7 (step_address L (suc k)) i skip refl (λ t rest u e at run.
      let h = g ++ t ∷ [] in
      let there = at ∙ ap (λ q. mid c r (all_writes h) (cond q (step_address L (suc k)) (wrapping_add64 (place L k 6) 4))) left.skipped ∙ ap (λ q. mid c r (all_writes h) q) (sum_more (step_address L k) 6 4) in
      let more = further L k c g r (place L k 6) _ 4 t r (place L k 10) i u (omega (arith, one)) (inside_at L k 10 16 size (omega arith)) e there in
      let same : right_in tmp n m c.registers ≡ with_code (wide_order sign (c.registers.vector n) (c.registers.vector m)) (set_vector c.registers tmp (right_result tmp n m c.registers)) = ap (λ x. with_code x (set_vector c.registers tmp (right_result tmp n m c.registers))) left.order in
      resume L k c g t r (place L k 10) rest there run (row_ends b 16 size c h r (right_in tmp n m c.registers) 10 (comparing_right tmp n m) refl row (right_changes sign tmp n m (place L k 10) c.registers) none (wide_step L k sign tmp n m (right_result tmp n m c.registers) (step_form b _ is) c (right_in tmp n m c.registers) same) more))

-- a step that is such a comparison, and its rows
pub wide_runs : {L : Layout} {k : ℕ} {s : Step} (b : StepAt L k s) (opcode : ℕ) (sign : Signedness) (tmp n m : ℕ) → ElementsRow 3 (vrr_a opcode m n 3) (CompareElement sign Doubleword) → (tmp < 32) × (n < 32) × (m < 32) →
    kind_of_step L (Some s) ≡ Some (ComparesWide sign tmp n m) → step_parts s ≡ row_parts (comparing_rows opcode tmp n m) → StepRuns L k
unfolding length_of
wide_runs {L = L} {k = k} b opcode sign tmp n m row few is parts =
    let o = L.offsets.step k in
    let size : L.offsets.step (suc k) ≡ o + 16 = size_as b _ parts in
    let stands = stand_as b _ parts in
    let even = step_even b in
    let even6 : (o + 6) % 2 ≡ 0 = omega (arith, even) in
    let even10 : (o + 6 + 4) % 2 ≡ 0 = omega (arith, even) in
    let fit = fits_vrr_a opcode m n 3 (few_digits (elements_listed row)) few.2 few.1 (omega arith) in
    let high = placed b 16 size o 0 (comparing opcode sign n m) 6 (omega arith) (vector_there L b.image o even (vrr_a opcode m n 3) (CompareElement sign Doubleword) row fit stands.0) in
    let target : wrapping_add64 (wrapping_add64 L.image.base (o + 6)) 10 ≡ step_address L (suc k) = sum_more L.image.base (o + 6) 10 ∙ ap (λ z. wrapping_add64 L.image.base z) (omega (arith, size)) in
    let skip : RowAt L (wrapping_add64 L.image.base (o + 6)) (λ r. Branch 7 (step_address L (suc k))) 4 = subst (λ q. RowAt L (wrapping_add64 L.image.base (o + 6)) (λ r. Branch 7 q) 4) target (brc_at L b.image (o + 6) even6 7 5 10 (omega arith) (omega arith) refl stands.1.0) in
    let right = asking_rows UCmpHi64x2 tmp n m in
    let right_fit = fits_vrr_b opcodes.VCHL tmp n m 3 1 (few_digits (elements_listed right)) few.0 few.1 few.2 (omega arith) (omega arith) in
    let low = placed b 16 size (o + 6 + 4) 10 (comparing_right tmp n m) 6 (omega arith) (vector_there L b.image (o + 6 + 4) even10 (vrr_b opcodes.VCHL tmp n m 3 1) (Compare (High Unsigned) Doubleword true) right right_fit stands.1.1.0) in
    from_start b 16 size (omega arith) (λ c i.
    row_on b 16 size c [] c.registers (told_in sign n m c.registers) 0 (comparing opcode sign n m) (omega arith) (omega arith) high (compare_changes opcode sign n m (place L k 0) c.registers) (λ g one i1.
    branched b opcode sign tmp n m is size c g one (placed b 16 size (o + 6) 6 (λ r. Branch 7 (step_address L (suc k))) 4 refl skip) low i1 (told_or_left sign (c.registers.vector n) (c.registers.vector m))) i)
