-- Steps that jump by a table.
use Rattle.std.proofs.Common.{◌≡◌, ◌≢◌, ℕ, zero, suc, ◌+◌, ◌-◌, ◌*◌, ◌/◌, ◌%◌, ◌^◌, ◌<◌, ◌≤◌, inl, inr, List, [], ◌∷◌, length, Option, Some, None, Bool, true, false, cond, ◌==◌, refl, sym, ap, ◌∙◌, subst, arith, slice_get, eqb-true}
use Rattle.std.specs.Prelude.{ℤ, pos, nat_lt, ◌+ℤ◌, ◌-ℤ◌, unsigned_abs}
use Rattle.std.proofs.Math.Path.{fun_ext}
use Rattle.std.proofs.lemmas.Bool.{ltb-true, lt-ltb, le-ltb}
use Rattle.std.proofs.lemmas.Int.{ints, int_rem_euclid_is}
use Rattle.s390x_base.specs.declared.ir.MachLabel.{MachLabel}
use Rattle.s390x_lanes.specs.declared.operators.Signedness.TheVariants.{Signed, Unsigned}
use Rattle.s390x_operations.specs.State.{Registers, Memory, Core, CodeImage, set_general, with_code, core_after_writes, wrapping_add64, number_at, IsLoaded}
use Rattle.s390x_operations.specs.Access.{Reads, fault}
use Rattle.s390x_operations.specs.Numbers.{low, signed_number}
use Rattle.s390x_operations.specs.Values.{value, code_of_value}
use Rattle.s390x_operations.specs.Bits.{extended_bits}
use Rattle.s390x_operations.specs.Effects.{is_selected}
use Rattle.s390x_operations.specs.declared.size.Size.TheVariants.{Doubleword}
use Rattle.s390x_operations.specs.declared.size.Width.TheVariants.{Bits32, Bits64}
use Rattle.s390x_operations.specs.declared.operand.Source.TheVariants.{Memory as InMemory}
use Rattle.s390x_operations.specs.declared.operator.Operator.TheVariants as O
use Rattle.s390x_operations.specs.declared.operator.Operator.TheVariants.{Move}
use Rattle.s390x_operations.specs.declared.operator.SignedOperator.TheVariants.{Add}
use Rattle.s390x_operations.specs.declared.effect.Effect.TheVariants.{Compute}
use Rattle.s390x_operations.specs.declared.effect.CodeRule.TheVariants.{Kept, Set}
use Rattle.s390x_operations.specs.declared.effect.Operation.{Operation}
use Rattle.s390x_operations.specs.declared.stop.ConditionCode.{ConditionCode}
use Rattle.s390x_format.specs.declared.kind.FormatKind.TheVariants.{Rxy}
use Rattle.s390x_format.specs.Formats.{length_of}
use Rattle.s390x_rows.specs.declared.opcodes.TheConstants as opcodes
use Rattle.s390x_typed_steps.specs.MachineInstruction.{bytes_of, rxy}
use Rattle.s390x_typed_steps.specs.Parts.{table_words}
use Rattle.s390x_typed_steps.specs.Rows.{table_distance, word_bytes}
use Rattle.s390x_machine.specs.declared.action_type.Action.TheVariants.{Perform, Branch}
use Rattle.s390x_machine.specs.Operands.{address_part}
use Rattle.s390x_machine.specs.Computations.{with_rule, on_doublewords, computes_immediate}
use Rattle.s390x_machine.specs.Semantics.{semantics_in, semantics_of}
use Rattle.s390x_machine.specs.Machine.{Executed, Interrupted, Transition, Run, all_writes}
use Rattle.s390x_machine.specs.StepKinds.{GoesByTable}
use Rattle.s390x_machine.specs.Typed.{At, loosen, table_target, TableStep, TableWrong, KindStep, KindWrong, TypedStep, kind_at}
use Rattle.s390x_machine.specs.Match.{start}
use Rattle.s390x_machine.specs.OneStep.{Runs, stuck, Loses}
use Rattle.s390x_machine.specs.Layout.{Layout, step_address, block_address, InStep}
use Rattle.s390x_machine.specs.CodeAt.{ImageAt, IsBlock, AreBlocks}
use Rattle.s390x_machine.proofs.Addresses.{sum_more, unmoved}
use Rattle.s390x_machine.proofs.Branches.{stores_none, jumps}
use Rattle.s390x_machine.proofs.Composites.{ChangesOver, row_over_then, row_then, compute_changes}
use Rattle.s390x_machine.proofs.Fetching.{StandsAt, byte_at, reached_all, row_at}
use Rattle.s390x_machine.proofs.Rows.{fits_rxy, agf_listed}
use Rattle.s390x_machine.proofs.Simulation.{RowAt, mid, Simulates, at_start, further, resume, branch, done}
use Rattle.s390x_machine.proofs.Standing.{PartsStand}

-- ---- arithmetic

-- the sum of signed numbers, modulo 2 ^ 64, is that of their bits
low_sum : (z : ℤ) (n m : ℕ) → z +ℤ pos (2 * 2 ^ 64) ≡ pos m → m % 2 ^ 64 ≡ n → low Doubleword z ≡ n
low_sum z n m e f = ap unsigned_abs (int_rem_euclid_is z (pos (2 ^ 64)) (2 ^ 64) 2 m (omega arith) refl e) ∙ f

signed_pos : (x : ℕ) → x < 2 ^ 63 → signed_number Doubleword x ≡ pos x
signed_pos x lt = ap (λ b. cond b (pos x) (pos x -ℤ pos 18446744073709551616)) (lt-ltb x 9223372036854775808 lt)

signed_neg : (x : ℕ) → nat_lt x 9223372036854775808 ≡ false → signed_number Doubleword x ≡ pos x -ℤ pos 18446744073709551616
signed_neg x e = ap (λ b. cond b (pos x) (pos x -ℤ pos 18446744073709551616)) e

sum_of_signed : (x y : ℕ) → x < 2 ^ 64 → y < 2 ^ 64 → low Doubleword (signed_number Doubleword x +ℤ signed_number Doubleword y) ≡ (x + y) % 2 ^ 64
sum_of_signed x y lx ly = go (nat_lt x 9223372036854775808) refl (nat_lt y 9223372036854775808) refl
  where
    go : (a : Bool) → nat_lt x 9223372036854775808 ≡ a → (b : Bool) → nat_lt y 9223372036854775808 ≡ b → low Doubleword (signed_number Doubleword x +ℤ signed_number Doubleword y) ≡ (x + y) % 2 ^ 64
    go true ea true eb =
        let ex = signed_pos x (ltb-true x 9223372036854775808 ea) in
        let ey = signed_pos y (ltb-true y 9223372036854775808 eb) in
        ap (λ z. low Doubleword (z +ℤ signed_number Doubleword y)) ex ∙ ap (λ z. low Doubleword (pos x +ℤ z)) ey ∙ low_sum (pos x +ℤ pos y) ((x + y) % 2 ^ 64) (x + y + 2 * 2 ^ 64) (omega (arith, ints)) (omega arith)
    go true ea false eb =
        let ex = signed_pos x (ltb-true x 9223372036854775808 ea) in
        let ey = signed_neg y eb in
        ap (λ z. low Doubleword (z +ℤ signed_number Doubleword y)) ex ∙ ap (λ z. low Doubleword (pos x +ℤ z)) ey ∙ low_sum (pos x +ℤ (pos y -ℤ pos 18446744073709551616)) ((x + y) % 2 ^ 64) (x + y + 2 ^ 64) (omega (arith, ints)) (omega arith)
    go false ea true eb =
        let ex = signed_neg x ea in
        let ey = signed_pos y (ltb-true y 9223372036854775808 eb) in
        ap (λ z. low Doubleword (z +ℤ signed_number Doubleword y)) ex ∙ ap (λ z. low Doubleword (pos x -ℤ pos 18446744073709551616 +ℤ z)) ey ∙ low_sum (pos x -ℤ pos 18446744073709551616 +ℤ pos y) ((x + y) % 2 ^ 64) (x + y + 2 ^ 64) (omega (arith, ints)) (omega arith)
    go false ea false eb =
        let ex = signed_neg x ea in
        let ey = signed_neg y eb in
        ap (λ z. low Doubleword (z +ℤ signed_number Doubleword y)) ex ∙ ap (λ z. low Doubleword (pos x -ℤ pos 18446744073709551616 +ℤ z)) ey ∙ low_sum (pos x -ℤ pos 18446744073709551616 +ℤ (pos y -ℤ pos 18446744073709551616)) ((x + y) % 2 ^ 64) (x + y) (omega (arith, ints)) (omega arith)

-- a word with its sign
pub extended_low : (w : ℕ) → w < 2 ^ 31 → extended_bits Signed Bits32 Doubleword w ≡ w
extended_low w lt =
    let e : w % 4294967296 ≡ w = omega arith in
    ap (λ b. cond b (w % 4294967296) (w % 4294967296 + 18446744069414584320)) (lt-ltb (w % 4294967296) 2147483648 (omega arith)) ∙ e

pub extended_high : (w : ℕ) → 2 ^ 31 ≤ w → w < 2 ^ 32 → extended_bits Signed Bits32 Doubleword w ≡ w + 18446744069414584320
extended_high w ge lt =
    let e : w % 4294967296 ≡ w = omega arith in
    ap (λ b. cond b (w % 4294967296) (w % 4294967296 + 18446744069414584320)) (le-ltb (w % 4294967296) 2147483648 (omega arith)) ∙ ap (λ n. n + 18446744069414584320) e

-- the address of a table plus a word of it is the target's
reaches_target : (base table j target : ℕ) → table + j < 2 ^ 31 → target < 2 ^ 31 →
    value (O.Signed Add) Doubleword (wrapping_add64 base table) (extended_bits Signed Bits32 Doubleword (table_distance (table + j) j target)) ≡ wrapping_add64 base target
reaches_target base table j target lt small =
    elim (Rattle.std.proofs.lemmas.Bool.cases_lt target table) [
      | inl less ↦
          let d : ℕ = table - target in
          let w : table_distance (table + j) j target ≡ 2 ^ 32 - d = omega arith in
          let y : extended_bits Signed Bits32 Doubleword (table_distance (table + j) j target) ≡ 2 ^ 64 - d = extended_high (table_distance (table + j) j target) (omega (arith, w)) (omega (arith, w)) ∙ omega (arith, w) in
          ap (value (O.Signed Add) Doubleword (wrapping_add64 base table)) y ∙ sum_of_signed (wrapping_add64 base table) (2 ^ 64 - d) (omega arith) (omega arith) ∙ omega arith
      | inr more ↦
          let d : ℕ = target - table in
          let w : table_distance (table + j) j target ≡ d = omega arith in
          let y : extended_bits Signed Bits32 Doubleword (table_distance (table + j) j target) ≡ d = extended_low (table_distance (table + j) j target) (omega (arith, w)) ∙ w in
          ap (value (O.Signed Add) Doubleword (wrapping_add64 base table)) y ∙ sum_of_signed (wrapping_add64 base table) d (omega arith) (omega arith) ∙ omega arith
    ]

-- ---- the word in memory

-- ADD (64 from 32 bits) of the word at %r1 plus an index to %r1
abbrev pub adds_word : (index : ℕ) → Registers → Operation
adds_word index r =
    with_rule Set (Compute (O.Signed Add) Doubleword 1 (r.general 1) (record { source = InMemory (low Doubleword (pos (address_part r 1 + address_part r index) +ℤ pos 0)); width = Bits32; sign = Signed; reversed = false }))

-- what it is, where the image lies in memory
pub word_at : (image : CodeImage) (m : Memory) (offset w : ℕ) → w < 2 ^ 32 → image.base + length image.bytes ≤ 2 ^ 64 → IsLoaded image m → StandsAt image offset (word_bytes w) → number_at m.get (wrapping_add64 image.base offset) 4 ≡ w
word_at image m offset w lt fits is_loaded s =
    let a = wrapping_add64 image.base offset in
    let b0 = (byte_at image m offset 0 (word_bytes w) fits is_loaded s (omega arith)).1 in
    let b1 = (byte_at image m offset 1 (word_bytes w) fits is_loaded s (omega arith)).1 in
    let b2 = (byte_at image m offset 2 (word_bytes w) fits is_loaded s (omega arith)).1 in
    let b3 = (byte_at image m offset 3 (word_bytes w) fits is_loaded s (omega arith)).1 in
    omega (arith, b0, b1, b2, b3)

word_reached : (image : CodeImage) (m : Memory) (offset w : ℕ) → image.base + length image.bytes ≤ 2 ^ 64 → IsLoaded image m → StandsAt image offset (word_bytes w) → fault (Reads false (wrapping_add64 image.base offset) 4) m.has ≡ None
word_reached image m offset w fits is_loaded s =
    let a = wrapping_add64 image.base offset in
    let all = reached_all m.has a 4 (λ i lt. (byte_at image m offset i (word_bytes w) fits is_loaded s lt).0) in
    ap (λ b. cond b None (Some Rattle.s390x_operations.specs.declared.stop.StopKind.TheVariants.Access)) all

-- ---- a row that adds the word

-- where the row finds its word
abbrev word_place : (index : ℕ) → Registers → ℕ
word_place index r = low Doubleword (pos (address_part r 1 + address_part r index) +ℤ pos 0)

index_part : (r : Registers) (index j : ℕ) → index ≢ 0 → r.general index ≡ j → address_part r index ≡ j
index_part r index j some at = go (index == 0) refl
  where
    go : (t : Bool) → (index == 0) ≡ t → cond t 0 (r.general index) ≡ j
    go true e = absurd (some (eqb-true index 0 e))
    go false e = at

word_found : (base : ℕ) (r : Registers) (index table j : ℕ) → r.general 1 ≡ wrapping_add64 base table → r.general index ≡ j → index ≢ 0 → word_place index r ≡ wrapping_add64 base (table + j)
word_found base r index table j at_table at_index some =
    unmoved (r.general 1 + address_part r index)
    ∙ ap (λ n. (n + address_part r index) % 2 ^ 64) at_table
    ∙ ap (λ n. (wrapping_add64 base table + n) % 2 ^ 64) (index_part r index j some at_index)
    ∙ sum_more base table j

word_read : (image : CodeImage) (m : Memory) (r : Registers) (index table j w : ℕ) → w < 2 ^ 32 → image.base + length image.bytes ≤ 2 ^ 64 → IsLoaded image m → StandsAt image (table + j) (word_bytes w) → r.general 1 ≡ wrapping_add64 image.base table → r.general index ≡ j → index ≢ 0 →
    extended_bits Signed Bits32 Doubleword (number_at m.get (word_place index r) 4) ≡ extended_bits Signed Bits32 Doubleword w
word_read image m r index table j w lt fits is_loaded s at_table at_index some =
    ap (λ a. extended_bits Signed Bits32 Doubleword (number_at m.get a 4)) (word_found image.base r index table j at_table at_index some) ∙ ap (extended_bits Signed Bits32 Doubleword) (word_at image m (table + j) w lt fits is_loaded s)

word_changes : (image : CodeImage) (r : Registers) (index table j w size p : ℕ) → w < 2 ^ 32 → image.base + length image.bytes ≤ 2 ^ 64 → StandsAt image (table + j) (word_bytes w) → r.general 1 ≡ wrapping_add64 image.base table → r.general index ≡ j → index ≢ 0 →
    ChangesOver image (Perform (adds_word index r)) size r p (with_code (code_of_value (O.Signed Add) Doubleword (r.general 1) (extended_bits Signed Bits32 Doubleword w)) (set_general r 1 (value (O.Signed Add) Doubleword (r.general 1) (extended_bits Signed Bits32 Doubleword w))))
word_changes image r index table j w size p lt fits s at_table at_index some m (Executed e) t is_loaded h =
    let x = r.general 1 in
    let y = extended_bits Signed Bits32 Doubleword (number_at m.get (word_place index r) 4) in
    let registers : t.core.registers ≡ with_code (code_of_value (O.Signed Add) Doubleword x (extended_bits Signed Bits32 Doubleword w)) (set_general r 1 (value (O.Signed Add) Doubleword x (extended_bits Signed Bits32 Doubleword w))) =
    h.0.results ∙ ap (λ code. with_code code (set_general r 1 (value (O.Signed Add) Doubleword x y))) h.0.code ∙ ap (λ z. with_code (code_of_value (O.Signed Add) Doubleword x z) (set_general r 1 (value (O.Signed Add) Doubleword x z))) (word_read image m r index table j w lt fits is_loaded s at_table at_index some) in
    (ap Executed h.2, λ i. record { core = record { registers = registers i; memory = h.0.memory i }; address = h.1 i })
word_changes image r index table j w size p lt fits s at_table at_index some m (Interrupted kind) t is_loaded (inl e, same) =
    let none : fault (Reads false (word_place index r) 4) m.has ≡ None = ap (λ a. fault (Reads false a 4) m.has) (word_found image.base r index table j at_table at_index some) ∙ word_reached image m (table + j) w fits is_loaded s in
    absurd (cc)
word_changes image r index table j w size p lt fits s at_table at_index some m (Interrupted kind) t is_loaded (inr (e, inl f), same) = absurd (cc)
word_changes image r index table j w size p lt fits s at_table at_index some m (Interrupted kind) t is_loaded (inr (e, inr f), same) = absurd f

-- that row at its place
pub agf_at : (L : Layout) → ImageAt L → (offset : ℕ) → offset % 2 ≡ 0 → (index : ℕ) → index < 16 → StandsAt L.image offset (bytes_of (rxy opcodes.AGF 1 1 index 0)) → RowAt L (wrapping_add64 L.image.base offset) (λ r. Perform (adds_word index r)) (length_of Rxy)
unfolding semantics_in semantics_of
agf_at L image offset even index li s =
    row_at L offset (rxy opcodes.AGF 1 1 index 0) (λ r. Perform (adds_word index r)) image.even even image.fits s (fits_rxy opcodes.AGF 1 1 index 0 (omega arith) (omega arith) (omega arith) li (omega arith)) (agf_listed index) (λ state event t at h. h)

-- ---- registers

put_same : (r : Registers) (i : ℕ) → set_general r i (r.general i) ≡ r
put_same r i = ap (λ (g : ℕ → ℕ). record { general = g; vector = r.vector; access = r.access; code = r.code }) (fun_ext (λ k. go k (k == i) refl))
  where
    go : (k : ℕ) (t : Bool) → (k == i) ≡ t → cond t (r.general i) (r.general k) ≡ r.general k
    go k true e = ap r.general (sym (eqb-true k i e))
    go k false e = refl

put_twice : (r : Registers) (i v w : ℕ) → set_general (set_general r i v) i w ≡ set_general r i w
put_twice r i v w = ap (λ (g : ℕ → ℕ). record { general = g; vector = r.vector; access = r.access; code = r.code }) (fun_ext (λ k. go k (k == i)))
  where
    go : (k : ℕ) (t : Bool) → cond t w (cond t v (r.general k)) ≡ cond t w (r.general k)
    go k true = refl
    go k false = refl

other_register : (r : Registers) (i n v : ℕ) → n ≢ i → (set_general r i v).general n ≡ r.general n
other_register r i n v ne = go (n == i) refl
  where
    go : (t : Bool) → (n == i) ≡ t → cond t v (r.general n) ≡ r.general n
    go true e = absurd (ne (eqb-true n i e))
    go false e = refl

-- ---- the step

-- a word of the table, and its target
pub record Leads (L : Layout) (table j : ℕ) (l : MachLabel) : Type 0 where
  pub stands : StandsAt L.image (table + 4 * j) (word_bytes (table_distance (table + 4 * j) (4 * j) (L.offsets.block l.0)))
  pub near : table + 4 * j < 2 ^ 31
  pub small : L.offsets.block l.0 < 2 ^ 31
  pub known : block_address L l.0 ≡ step_address L (L.first_step l.0)

-- the rows of such a step, one behind another, and its words
pub record TableRows (L : Layout) (k index mask other table : ℕ) (targets : List MachLabel) : Type 0 where
  pub first : RowAt L (step_address L k) (λ r. Branch mask (block_address L other)) 6
  pub second : RowAt L (wrapping_add64 (step_address L k) 6) (λ r. Perform (computes_immediate Kept (on_doublewords Move) 1 1 (wrapping_add64 L.image.base table) r)) 6
  pub third : RowAt L (wrapping_add64 (wrapping_add64 (step_address L k) 6) 6) (λ r. Perform (adds_word index r)) 6
  pub fourth : RowAt L (wrapping_add64 (wrapping_add64 (wrapping_add64 (step_address L k) 6) 6) 6) (λ r. Branch 15 (r.general 1)) 2
  pub here : InStep L k (step_address L k)
  pub here_second : InStep L k (wrapping_add64 (step_address L k) 6)
  pub here_third : InStep L k (wrapping_add64 (wrapping_add64 (step_address L k) 6) 6)
  pub here_fourth : InStep L k (wrapping_add64 (wrapping_add64 (wrapping_add64 (step_address L k) 6) 6) 6)
  pub known : block_address L other ≡ step_address L (L.first_step other)
  pub words : (j : ℕ) (l : MachLabel) → slice_get targets j ≡ Some l → Leads L table j l
  pub nonzero : index ≢ 0
  pub not_scratch : index ≢ 1

target_found : (n : ℕ) (targets : List MachLabel) (l : MachLabel) → table_target n targets ≡ Some l → (n ≡ 4 * (n / 4)) × (slice_get targets (n / 4) ≡ Some l)
target_found n targets l h = go (n % 4 == 0) refl h
  where
    go : (t : Bool) → (n % 4 == 0) ≡ t → cond t (slice_get targets (n / 4)) None ≡ Some l → (n ≡ 4 * (n / 4)) × (slice_get targets (n / 4) ≡ Some l)
    go true e f = (omega (arith, eqb-true (n % 4) 0 e), f)
    go false e f = absurd (cc)

module _ (L : Layout) (image : ImageAt L) (k index mask other table : ℕ) (targets : List MachLabel) (is : kind_at L k ≡ Some (GoesByTable index mask other targets)) (rows : TableRows L k index mask other table targets) (c : Core) (is_loaded : IsLoaded L.image c.memory) where
  other_step : is_selected mask c.registers.code ≡ true → (h : List Transition) → TypedStep L k (core_after_writes (all_writes h) c) (At (L.first_step other)) (core_after_writes (all_writes h) c)
  other_step sel h =
      let y = core_after_writes (all_writes h) c in
      let same : y ≡ loosen true (c.registers.general 1) y = ap (λ (r : Registers). record { registers = r; memory = y.memory }) (sym (put_same c.registers 1)) in
      subst (λ f. KindStep L f k y (At (L.first_step other)) y) (sym is) (subst (λ b. TableStep L b (table_target (c.registers.general index) targets) other y (At (L.first_step other)) y) (sym sel) (c.registers.general 1, refl, same))

  goes_other : is_selected mask c.registers.code ≡ true → Simulates L k c [] c.registers (step_address L k)
  goes_other sel =
      branch L k c [] c.registers (step_address L k) (λ r. Branch mask (block_address L other)) 6 mask (block_address L other) (at_start L k c rows.here is_loaded) rows.first refl (λ t rest u e lands run.
      let y = core_after_writes (all_writes (t ∷ [])) c in
      let at : t.after ≡ start L (L.first_step other) y = lands ∙ ap (λ b. mid c c.registers (all_writes (t ∷ [])) (cond b (block_address L other) (wrapping_add64 (step_address L k) 6))) sel ∙ ap (λ q. mid c c.registers (all_writes (t ∷ [])) q) rows.known in
      done L k c [] c.registers (step_address L k) _ 6 t rest (L.first_step other) y (at_start L k c rows.here is_loaded) u (e ∙ ap Executed (sym (stores_none L k (GoesByTable index mask other targets) (λ z. refl) is y))) at (λ out. u.is_loaded) (other_step sel (t ∷ [])))

  module _ (l : MachLabel) (sel : is_selected mask c.registers.code ≡ false) (found : table_target (c.registers.general index) targets ≡ Some l) where
    abbrev j : ℕ
    j = c.registers.general index / 4

    abbrev word : ℕ
    word = table_distance (table + 4 * j) (4 * j) (L.offsets.block l.0)

    leads : Leads L table j l
    leads = rows.words j l (target_found (c.registers.general index) targets l found).1

    -- the registers with the table's address, and then with the target's
    abbrev loaded : Registers
    loaded = set_general c.registers 1 (extended_bits Unsigned Bits64 Doubleword (wrapping_add64 L.image.base table))

    abbrev code : ConditionCode
    code = code_of_value (O.Signed Add) Doubleword (loaded.general 1) (extended_bits Signed Bits32 Doubleword word)

    abbrev target : ℕ
    target = value (O.Signed Add) Doubleword (loaded.general 1) (extended_bits Signed Bits32 Doubleword word)

    abbrev added : Registers
    added = with_code code (set_general loaded 1 target)

    at_table : loaded.general 1 ≡ wrapping_add64 L.image.base table
    at_table = omega arith

    at_index : loaded.general index ≡ 4 * j
    at_index = other_register c.registers 1 index _ rows.not_scratch ∙ (target_found (c.registers.general index) targets l found).0

    at_target : target ≡ step_address L (L.first_step l.0)
    at_target = ap (λ x. value (O.Signed Add) Doubleword x (extended_bits Signed Bits32 Doubleword word)) at_table ∙ reaches_target L.image.base table (4 * j) (L.offsets.block l.0) leads.near leads.small ∙ leads.known

    table_step : (h : List Transition) → TypedStep L k (core_after_writes (all_writes h) c) (At (L.first_step l.0)) (mid c added (all_writes h) 0).core
    table_step h =
        let y = core_after_writes (all_writes h) c in
        let x = (mid c added (all_writes h) 0).core in
        let same : x ≡ record { registers = with_code code (set_general c.registers 1 target); memory = y.memory } = ap (λ (r : Registers). record { registers = with_code code r; memory = y.memory }) (put_twice c.registers 1 _ target) in
        subst (λ f. KindStep L f k y (At (L.first_step l.0)) x) (sym is)
        (subst (λ b. TableStep L b (table_target (c.registers.general index) targets) other y (At (L.first_step l.0)) x) (sym sel)
        (subst (λ o. TableStep L false o other y (At (L.first_step l.0)) x) (sym found) (target, code, refl, same)))

    goes_by_word : Simulates L k c [] c.registers (step_address L k)
    goes_by_word =
        let p2 = wrapping_add64 (step_address L k) 6 in
        let p3 = wrapping_add64 p2 6 in
        let p4 = wrapping_add64 p3 6 in
        let i = at_start L k c rows.here is_loaded in
        branch L k c [] c.registers (step_address L k) (λ r. Branch mask (block_address L other)) 6 mask (block_address L other) i rows.first refl (λ t rest u e lands run.
        let at : t.after ≡ mid c c.registers (all_writes (t ∷ [])) p2 = lands ∙ ap (λ b. mid c c.registers (all_writes (t ∷ [])) (cond b (block_address L other) p2)) sel in
        resume L k c [] t c.registers p2 rest at run
        (row_then L k c (t ∷ []) c.registers p2 (λ r. Perform (computes_immediate Kept (on_doublewords Move) 1 1 (wrapping_add64 L.image.base table) r)) 6 loaded (further L k c [] c.registers (step_address L k) _ 6 t c.registers p2 i u (omega arith) rows.here_second e at) (omega arith) rows.here_third rows.second
        (compute_changes Move Doubleword 1 (c.registers.general 1) (wrapping_add64 L.image.base table) Bits64 Unsigned false 6 p2 c.registers c.memory) (λ g long i3.
        row_over_then L k c g loaded p3 (λ r. Perform (adds_word index r)) 6 added i3 (omega (arith, long)) rows.here_fourth rows.third
        (word_changes L.image loaded index table (4 * j) word 6 p3 (omega arith) image.fits leads.stands at_table at_index rows.nonzero) (λ h longer i4.
        jumps L k c h added p4 (L.first_step l.0) (λ r. Branch 15 (r.general 1)) 2 target i4 rows.fourth refl at_target (stores_none L k (GoesByTable index mask other targets) (λ y. refl) is) table_step))))

  pub table_runs : (trace : List Transition) → Run L.image (start L k c) trace → Runs L k c trace
  table_runs = go (is_selected mask c.registers.code) refl (table_target (c.registers.general index) targets) refl
    where
      go : (b : Bool) → is_selected mask c.registers.code ≡ b → (o : Option MachLabel) → table_target (c.registers.general index) targets ≡ o → (trace : List Transition) → Run L.image (start L k c) trace → Runs L k c trace
      go true sel o e = goes_other sel
      go false sel (Some l) e = goes_by_word l sel e
      go false sel None e = λ trace run. stuck (subst (λ f. KindWrong L f c) (sym is) (subst (λ b. TableWrong b (table_target (c.registers.general index) targets)) (sym sel) (subst (TableWrong false) (sym e) tt))) (subst Loses (sym is) tt)

-- ---- the words of a table

-- a listed label is a block
pub listed_block : (L : Layout) (ls : List MachLabel) → AreBlocks L ls → (j : ℕ) (l : MachLabel) → slice_get ls j ≡ Some l → IsBlock L l.0
listed_block L [] are j l e = absurd (cc)
listed_block L (x ∷ ls) are zero l e = let same : x ≡ l = cc in subst (λ (y : MachLabel). IsBlock L y.0) same are.0
listed_block L (x ∷ ls) are (suc j) l e = listed_block L ls are.1 j l e

-- they stand one behind another

pub words_stand : (L : Layout) (p before : ℕ) (ls : List MachLabel) → PartsStand L p (table_words before ls) → (j : ℕ) (l : MachLabel) → slice_get ls j ≡ Some l → StandsAt L.image (p + 4 * j) (word_bytes (table_distance (p + 4 * j) (before + 4 * j) (L.offsets.block l.0)))
words_stand L p before [] h j l e = absurd (cc)
words_stand L p before (x ∷ ls) h zero l e =
    let same : x ≡ l = cc in
    let z : p ≡ p + 4 * 0 = omega arith in
    let b : before ≡ before + 4 * 0 = omega arith in
    subst (λ y. StandsAt L.image (p + 4 * 0) (word_bytes (table_distance (p + 4 * 0) (before + 4 * 0) (L.offsets.block y.0)))) same
    (subst (λ n. StandsAt L.image (p + 4 * 0) (word_bytes (table_distance (p + 4 * 0) n (L.offsets.block x.0)))) b
    (subst (λ n. StandsAt L.image n (word_bytes (table_distance n before (L.offsets.block x.0)))) z h.0))
words_stand L p before (x ∷ ls) h (suc j) l e =
    let z : p + 4 + 4 * j ≡ p + 4 * suc j = omega arith in
    let b : before + 4 + 4 * j ≡ before + 4 * suc j = omega arith in
    subst (λ n. StandsAt L.image (p + 4 * suc j) (word_bytes (table_distance (p + 4 * suc j) n (L.offsets.block l.0)))) b
    (subst (λ n. StandsAt L.image n (word_bytes (table_distance n (before + 4 + 4 * j) (L.offsets.block l.0)))) z (words_stand L (p + 4) (before + 4) ls h.1 j l e))
