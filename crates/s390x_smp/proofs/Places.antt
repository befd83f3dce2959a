-- A step of a processor at each of its places: it goes, and what it does to the word and to what is counted.
use Rattle.std.proofs.Common.{◌≡◌, ℕ, ◌+◌, ◌*◌, ◌/◌, ◌%◌, ◌^◌, ◌<◌, ◌≤◌, Bool, true, false, cond, ◌==◌, not, ◌&&◌, ◌||◌, IsTrue, nat_lt, Option, Some, None, ◌⊎◌, inl, inr, refl, sym, ap, ap₂, ◌∙◌, subst, arith, eqb-true, eq-eqb}
use Rattle.std.specs.Prelude.{pos, ◌+ℤ◌, ◌-ℤ◌, ◌*ℤ◌, unsigned_abs}
use Rattle.std.specs.Int.{cast_signed}
use Rattle.std.proofs.lemmas.Bool.{and_from, and_parts, or_from, or_left, or_right}
use Rattle.std.proofs.lemmas.Int.{ints, int_rem_euclid_is}
use Rattle.s390x_rows.specs.declared.opcodes.TheConstants as opcodes
use mir.Syntax.{w32}
use Rattle.s390x_format.specs.Formats.{length_of}
use Rattle.s390x_operations.specs.Access.{Reads, fault, store_event_at}
use Rattle.s390x_operations.specs.Effects.{MayInterrupt, MayRefuse, access, is_selected, stop_of_effect}
use Rattle.s390x_operations.specs.Numbers.{low, signed_number}
use Rattle.s390x_operations.specs.State.{Core, Memory, Registers, State, StoreEvent, after_store, number_at, wrapping_add64}
use Rattle.s390x_operations.specs.declared.effect.CodeRule.TheVariants.{Set}
use Rattle.s390x_operations.specs.declared.effect.Effect.TheVariants.{Compute, CompareAndSwap, LoadAndOperate}
use Rattle.s390x_operations.specs.declared.operand.Source.TheVariants.{Value}
use Rattle.s390x_lanes.specs.declared.operators.Signedness.TheVariants.{Unsigned}
use Rattle.s390x_operations.specs.declared.size.Width.TheVariants.{Bits32}
use Rattle.s390x_operations.specs.declared.effect.Operation.{Operation}
use Rattle.s390x_operations.specs.declared.operator.Operator.TheVariants.{Signed as SignedOperation, Logical as LogicalOperation}
use Rattle.s390x_operations.specs.declared.operator.SignedOperator.TheVariants.{Add as SignedAdd}
use Rattle.s390x_operations.specs.declared.operator.LogicalOperator.TheVariants.{Add as LogicalAdd}
use Rattle.s390x_operations.specs.declared.size.Size.TheVariants.{Word, Doubleword}
use Rattle.s390x_operations.specs.declared.stop.ConditionCode.{ConditionCode}
use Rattle.s390x_operations.specs.declared.stop.ConditionCode.TheVariants.{Code0, Code1, Code2, Code3}
use Rattle.s390x_operations.specs.declared.stop.StopKind.{StopKind}
use Rattle.s390x_operations.specs.declared.stop.StopKind.TheVariants.{Access as AccessStop, Specification}
use Rattle.s390x_typed_steps.specs.MachineInstruction.{MachineInstruction}
use Rattle.s390x_machine.specs.Fetch.{IsFound}
use Rattle.s390x_format.specs.declared.decoder.Decoded.{Decoded}
use Rattle.s390x_machine.specs.Machine.{ActionStep, Event, Executed, Interrupted, MachineStep}
use Rattle.s390x_machine.specs.Semantics.{semantics_in, semantics_of}
use Rattle.s390x_machine.specs.Step.{IsOpen}
use Rattle.s390x_machine.specs.declared.action_type.Action.TheVariants.{Perform, Branch}
use Rattle.s390x_format.specs.declared.semantics.RowSemantics.TheVariants as Row
use Rattle.s390x_format.specs.declared.semantics.TheConstants.{THREE_WORD_REGISTERS}
use Rattle.s390x_machine.proofs.Addresses.{lands, unmoved}
use Rattle.s390x_machine.proofs.Stepping.{not_open}
use Rattle.s390x_machine.proofs.Branches.{selected_always}
use Rattle.s390x_schedule.specs.Schedule.{Processor}
use Rattle.s390x_smp.specs.Image.{HasImage, is_in_word}
use Rattle.s390x_smp.specs.Simulation.{IsAdding, is_placed, start_offset}
use Rattle.s390x_smp.specs.Stores.{CompletesStore, has_stored}
use Rattle.s390x_smp.proofs.Memories.{Usable, loaded, word_reached}
use Rattle.s390x_smp.proofs.Rows.{StandsInCode, acts_as, add_return_there, add_row, add_there, back_row, back_there, found_in_code, loop_return_there, not_row, return_row, row_found, sum_row, sum_there, swap_row, swap_there}
use Rattle.s390x_smp.proofs.Words.{number_stored, others_stored}

-- ---- places

-- the cases of `is_placed`
abbrev pub IsPlaced : Bool → (base addend : ℕ) → Processor → Type 0
IsPlaced true base addend x =
    (x.address ≡ base)
    ⊎ ((x.address ≡ base + 4) × (x.registers.general 4 % 2 ^ 32 ≡ (x.registers.general 2 + addend) % 2 ^ 32))
    ⊎ (x.address ≡ base + 8)
    ⊎ (x.address ≡ base + 14)
IsPlaced false base addend x = (x.address ≡ base + 16) ⊎ (x.address ≡ base + 22)

pub placed_to : (b : Bool) (base addend : ℕ) (x : Processor) → IsTrue (is_placed b base addend x) → IsPlaced b base addend x
placed_to true base addend x h = go (x.address == base) ((x.address == base + 4) && (x.registers.general 4 % 2 ^ 32 == (x.registers.general 2 + addend) % 2 ^ 32)) (x.address == base + 8) refl refl refl h
  where
    go : (c d e : Bool) → (x.address == base) ≡ c → ((x.address == base + 4) && (x.registers.general 4 % 2 ^ 32 == (x.registers.general 2 + addend) % 2 ^ 32)) ≡ d → (x.address == base + 8) ≡ e
        → IsTrue (c || (d || (e || (x.address == base + 14)))) → IsPlaced true base addend x
    go true d e f g i h = inl (eqb-true x.address base f)
    go false true e f g i h =
        let p = and_parts (x.address == base + 4) (x.registers.general 4 % 2 ^ 32 == (x.registers.general 2 + addend) % 2 ^ 32) g in
        inr (inl (eqb-true x.address (base + 4) p.0, eqb-true (x.registers.general 4 % 2 ^ 32) ((x.registers.general 2 + addend) % 2 ^ 32) p.1))
    go false false true f g i h = inr (inr (inl (eqb-true x.address (base + 8) i)))
    go false false false f g i h = inr (inr (inr (eqb-true x.address (base + 14) h)))
placed_to false base addend x h = go (x.address == base + 16) refl h
  where
    go : (c : Bool) → (x.address == base + 16) ≡ c → IsTrue (c || (x.address == base + 22)) → IsPlaced false base addend x
    go true f h = inl (eqb-true x.address (base + 16) f)
    go false f h = inr (eqb-true x.address (base + 22) h)

pub placed_from : (b : Bool) (base addend : ℕ) (x : Processor) → IsPlaced b base addend x → IsTrue (is_placed b base addend x)
placed_from true base addend x (inl h) = or_left _ _ (eq-eqb x.address base h)
placed_from true base addend x (inr (inl h)) =
    or_right (x.address == base) _ (or_left _ _ (and_from _ _ (eq-eqb x.address (base + 4) h.0) (eq-eqb (x.registers.general 4 % 2 ^ 32) ((x.registers.general 2 + addend) % 2 ^ 32) h.1)))
placed_from true base addend x (inr (inr (inl h))) =
    or_right (x.address == base) _ (or_right ((x.address == base + 4) && (x.registers.general 4 % 2 ^ 32 == (x.registers.general 2 + addend) % 2 ^ 32)) _ (or_left _ _ (eq-eqb x.address (base + 8) h)))
placed_from true base addend x (inr (inr (inr h))) =
    or_right (x.address == base) _ (or_right ((x.address == base + 4) && (x.registers.general 4 % 2 ^ 32 == (x.registers.general 2 + addend) % 2 ^ 32)) _ (or_right (x.address == base + 8) _ (eq-eqb x.address (base + 14) h)))
placed_from false base addend x (inl h) = or_left _ _ (eq-eqb x.address (base + 16) h)
placed_from false base addend x (inr h) = or_right (x.address == base + 16) _ (eq-eqb x.address (base + 22) h)

-- a place isn't below the base
pub placed_above : (b : Bool) (base addend : ℕ) (x : Processor) → IsPlaced b base addend x → base ≤ x.address
placed_above true base addend x (inl h) = omega (arith, h)
placed_above true base addend x (inr (inl h)) = let e = h.0 in omega (arith, e)
placed_above true base addend x (inr (inr (inl h))) = omega (arith, h)
placed_above true base addend x (inr (inr (inr h))) = omega (arith, h)
placed_above false base addend x (inl h) = omega (arith, h)
placed_above false base addend x (inr h) = omega (arith, h)

-- ---- what is shown

abbrev pub own : State → Processor
own s = record { registers = s.core.registers; address = s.address }

-- a step that completes a store adds to the word; another one leaves it
abbrev pub Tells : (word addend : ℕ) → Bool → (s t : State) → Type 0
Tells word addend true s t = CompletesStore s t × (number_at t.core.memory.get word 4 ≡ (number_at s.core.memory.get word 4 + addend) % 2 ^ 32)
Tells word addend false s t = (CompletesStore s t → ⊥) × (number_at t.core.memory.get word 4 ≡ number_at s.core.memory.get word 4)

pub record Progress (base word addend : ℕ) (even : Bool) (s t : State) : Type 0 where
  pub offset : ℕ
  pub at : s.address ≡ base + offset
  pub adding : IsAdding base word addend even (own t)
  pub has : t.core.memory.has ≡ s.core.memory.has
  pub others : (a : ℕ) → is_in_word word a ≡ false → t.core.memory.get a ≡ s.core.memory.get a
  pub tells : Tells word addend (has_stored offset t.core.registers.code) s t

-- the processor goes
pub record GoesOn (base word addend : ℕ) (even : Bool) (s : State) : Type 0 where
  pub progress : (x : Option StoreEvent) (t : State) → MachineStep s (Executed x) t → Progress base word addend even s t
  pub never_stops : (kind : StopKind) (t : State) → MachineStep s (Interrupted kind) t → ⊥
  pub never_open : IsOpen s → ⊥

-- ---- arithmetic

low_word : (n k m : ℕ) → n + k * 4294967296 ≡ m → m % 2 ^ 32 ≡ n % 2 ^ 32
low_word n k m e = omega (arith, e)

-- a signed sum keeps the low bits of the sum
sum_low : (x y : ℕ) → x < 2 ^ 32 → y < 2 ^ 32 → low Word (signed_number Word x +ℤ signed_number Word y) ≡ (x + y) % 2 ^ 32
sum_low x y lx ly = go (nat_lt x 2147483648) (nat_lt y 2147483648)
  where
    go : (a b : Bool) → low Word (cond a (pos x) (pos x -ℤ pos 4294967296) +ℤ cond b (pos y) (pos y -ℤ pos 4294967296)) ≡ (x + y) % 2 ^ 32
    go true true = ap unsigned_abs (int_rem_euclid_is (pos x +ℤ pos y) (pos 4294967296) 4294967296 2 (x + y + 8589934592) (omega arith) refl (omega (arith, ints))) ∙ low_word (x + y) 2 (x + y + 8589934592) (omega arith)
    go true false = ap unsigned_abs (int_rem_euclid_is (pos x +ℤ (pos y -ℤ pos 4294967296)) (pos 4294967296) 4294967296 2 (x + y + 4294967296) (omega arith) refl (omega (arith, ints))) ∙ low_word (x + y) 1 (x + y + 4294967296) (omega arith)
    go false true = ap unsigned_abs (int_rem_euclid_is ((pos x -ℤ pos 4294967296) +ℤ pos y) (pos 4294967296) 4294967296 2 (x + y + 4294967296) (omega arith) refl (omega (arith, ints))) ∙ low_word (x + y) 1 (x + y + 4294967296) (omega arith)
    go false false = ap unsigned_abs (int_rem_euclid_is ((pos x -ℤ pos 4294967296) +ℤ (pos y -ℤ pos 4294967296)) (pos 4294967296) 4294967296 2 (x + y) (omega arith) refl (omega (arith, ints))) ∙ low_word (x + y) 0 (x + y) (omega arith)

-- ---- codes

add_stores : (c : ConditionCode) → has_stored 16 c ≡ true
add_stores Code0 = refl
add_stores c = refl

-- elsewhere nothing is stored
none_stored : (o : ℕ) → (o == 4) ≡ false → (o == 16) ≡ false → (c : ConditionCode) → has_stored o c ≡ false
none_stored o four sixteen Code0 = or_from (o == 4) (o == 16) four sixteen
none_stored o four sixteen c = sixteen

-- ---- stops

never : (kind : StopKind) → None ≡ Some kind → ⊥
never kind e = absurd (cc)

no_interrupt : (op : Operation) (has : ℕ → Bool) (kind : StopKind) → fault (access op.effect) has ≡ None → stop_of_effect op.effect ≡ None → (MayRefuse op.effect kind → ⊥) → MayInterrupt op has kind → ⊥
no_interrupt op has kind none allowed may (inl h) = never kind (sym none ∙ h)
no_interrupt op has kind none allowed may (inr (_, inl h)) = never kind (sym allowed ∙ h)
no_interrupt op has kind none allowed may (inr (_, inr h)) = may h

abbrev sums : (first second : ℕ) → Operation
sums first second = record { effect = Compute (SignedOperation SignedAdd) Word 4 first (record { source = Value second; width = Bits32; sign = Unsigned; reversed = false }); rule = Set }

abbrev swaps : (expected replacement address : ℕ) → Operation
swaps expected replacement address = record { effect = CompareAndSwap Word 2 expected replacement address; rule = Set }

abbrev adds : (second address : ℕ) → Operation
adds second address = record { effect = LoadAndOperate (LogicalOperation LogicalAdd) Word 4 second address; rule = Set }

-- ---- the places

module _ (base word addend : ℕ) (even : Bool) (u : Usable base word) (below : word < 2 ^ 64) (s : State) (image : HasImage base word s.core.memory) (adding : IsAdding base word addend even (own s)) where
  -- a row that stands at the processor's place is found there
  here : (m : MachineInstruction) (o : ℕ) → StandsInCode m o → s.address ≡ base + o → IsFound s.core.memory s.address (row_found m)
  here m o there at = found_in_code base o m s.core.memory s.address u.aligned u.fits there (loaded base word u below s.core.memory image) at

  -- the operand is the word
  operand : low Doubleword (pos (s.core.registers.general 5) +ℤ pos 0) ≡ word
  operand = let w = adding.word_is in unmoved (s.core.registers.general 5) ∙ (let e : s.core.registers.general 5 % 2 ^ 64 ≡ word = omega (arith, w, below) in e)

  reached : fault (Reads true word 4) s.core.memory.has ≡ None
  reached =
      ap₂ (λ (a b : Bool). cond (true && not a) (Some Specification) (cond b None (Some AccessStop)))
      (eq-eqb (word % 4) 0 u.word_aligned) (word_reached base word u below s.core.memory image)

  -- the registers that a step leaves
  adds_on : (t : State) → t.core.registers.general 3 ≡ s.core.registers.general 3 → t.core.registers.general 5 ≡ s.core.registers.general 5 → t.core.registers.general 14 ≡ s.core.registers.general 14 → IsPlaced even base addend (own t) → IsAdding base word addend even (own t)
  adds_on t three five fourteen placed = record { addend_is = three ∙ adding.addend_is; word_is = five ∙ adding.word_is; link_is = fourteen ∙ adding.link_is; at = placed_from even base addend (own t) placed }

  -- an instruction that is neither of the two that store
  plain : (d : Decoded) (o : ℕ) → IsFound s.core.memory s.address d → d.row.opcode ≡ o → (o ≡ opcodes.CS → ⊥) → (o ≡ opcodes.LAAL → ⊥) → (t : State) → CompletesStore s t → ⊥
  plain d o found is swap add t (inl h) = not_row s d o opcodes.CS found is swap h.0
  plain d o found is swap add t (inr h) = not_row s d o opcodes.LAAL found is add h

  -- the address behind an instruction of the code
  next : (o n : ℕ) → s.address ≡ base + o → o + n < 24 → wrapping_add64 s.address n ≡ base + (o + n)
  next o n at lt = let fits = u.fits in omega (arith, at, lt, fits)

  -- ---- the sum

  sum_acts : (event : Event) (t : State) → s.address ≡ base + 0 → MachineStep s event t → ActionStep (Perform (sums (s.core.registers.general 2 % 2 ^ 32) (s.core.registers.general 3))) 4 s event t
  unfolding semantics_in semantics_of length_of
  sum_acts event t at step = acts_as s t event (row_found sum_row) (here sum_row 0 sum_there at) step

  sum_closed : s.address ≡ base + 0 → IsOpen s → ⊥
  unfolding semantics_in semantics_of
  sum_closed at = not_open s (row_found sum_row) (Row.Compute (SignedOperation SignedAdd) Word THREE_WORD_REGISTERS Set) (here sum_row 0 sum_there at) refl refl

  in_register : (new old v second addend' r3 : ℕ) → new ≡ old / 4294967296 * 4294967296 + v → v ≡ (second % 2 ^ 32 + r3 % 2 ^ 32) % 2 ^ 32 → r3 ≡ addend' → new % 2 ^ 32 ≡ (second + addend') % 2 ^ 32
  in_register new old v second addend' r3 e f g = omega (arith, e, f, g)

  sum_progress : even ≡ true → s.address ≡ base + 0 → (x : Option StoreEvent) (t : State) → ActionStep (Perform (sums (s.core.registers.general 2 % 2 ^ 32) (s.core.registers.general 3))) 4 s (Executed x) t → Progress base word addend even s t
  sum_progress is at x t h =
      let r2 = s.core.registers.general 2 in
      let r3 = s.core.registers.general 3 in
      let register = λ (k : ℕ). ap (λ (r : Registers). r.general k) h.0.results in
      let sum = in_register (t.core.registers.general 4) (s.core.registers.general 4) (low Word (signed_number Word (r2 % 2 ^ 32) +ℤ signed_number Word (r3 % 2 ^ 32))) r2 addend r3 (register 4) (sum_low (r2 % 2 ^ 32) (r3 % 2 ^ 32) (omega arith) (omega arith)) adding.addend_is in
      let two : t.core.registers.general 2 ≡ r2 = register 2 in
      record {
        offset = 0;
        at = at;
        adding = adds_on t (register 3) (register 5) (register 14) (subst (λ b. IsPlaced b base addend (own t)) (sym is) (inr (inl (h.1 ∙ next 0 4 at (omega arith), sum ∙ ap (λ n. (n + addend) % 2 ^ 32) (sym two)))));
        has = ap (λ (m : Memory). m.has) h.0.memory;
        others = λ a out. ap (λ (m : Memory). m.get a) h.0.memory;
        tells = subst (λ b. Tells word addend b s t) (sym (none_stored 0 refl refl t.core.registers.code)) (plain (row_found sum_row) opcodes.ARK (here sum_row 0 sum_there at) refl (λ e. omega (arith, e)) (λ e. omega (arith, e)) t, ap (λ (m : Memory). number_at m.get word 4) h.0.memory);
      }

  sum_goes : even ≡ true → s.address ≡ base + 0 → GoesOn base word addend even s
  sum_goes is at = record {
    progress = λ x t step. sum_progress is at x t (sum_acts (Executed x) t at step);
    never_stops = λ kind t step. no_interrupt (sums (s.core.registers.general 2 % 2 ^ 32) (s.core.registers.general 3)) s.core.memory.has kind refl refl (λ h. h) (sum_acts (Interrupted kind) t at step).0;
    never_open = sum_closed at;
  }

  -- ---- the swap

  swap_acts : (event : Event) (t : State) → s.address ≡ base + 4 → MachineStep s event t → ActionStep (Perform (swaps (s.core.registers.general 2 % 2 ^ 32) (s.core.registers.general 4 % 2 ^ 32) word)) 4 s event t
  unfolding semantics_in semantics_of length_of
  swap_acts event t at step =
      subst (λ a. ActionStep (Perform (swaps (s.core.registers.general 2 % 2 ^ 32) (s.core.registers.general 4 % 2 ^ 32) a)) 4 s event t) operand
      (acts_as s t event (row_found swap_row) (here swap_row 4 swap_there at) step)

  swap_closed : s.address ≡ base + 4 → IsOpen s → ⊥
  unfolding semantics_in semantics_of
  swap_closed at = not_open s (row_found swap_row) (Row.CompareAndSwap Word) (here swap_row 4 swap_there at) refl refl

  -- the word is the expected one, and gets the sum
  swapped : (n r2 r4 : ℕ) → (n == r2 % 2 ^ 32) ≡ true → r4 % 2 ^ 32 ≡ (r2 + addend) % 2 ^ 32 → (r4 % 2 ^ 32) % 2 ^ 32 ≡ (n + addend) % 2 ^ 32
  swapped n r2 r4 same sum = let e = eqb-true n (r2 % 2 ^ 32) same in omega (arith, e, sum)

  swap_tells : (t : State) → s.address ≡ base + 4 → s.core.registers.general 4 % 2 ^ 32 ≡ (s.core.registers.general 2 + addend) % 2 ^ 32 → (b : Bool) → (number_at s.core.memory.get word 4 == s.core.registers.general 2 % 2 ^ 32) ≡ b
      → t.core.registers.code ≡ cond b Code0 Code1 → t.core.memory ≡ after_store (store_event_at word 4 (cond b (Some (s.core.registers.general 4 % 2 ^ 32)) None)) s.core.memory → Tells word addend (has_stored 4 t.core.registers.code) s t
  swap_tells t at sum true same code memory =
      subst (λ c. Tells word addend (has_stored 4 c) s t) (sym code) (
        inl ((row_found swap_row, here swap_row 4 swap_there at, refl), code),
        ap (λ (m : Memory). number_at m.get word 4) memory ∙ number_stored s.core.memory.get word (s.core.registers.general 4 % 2 ^ 32) u.word_aligned below ∙ swapped (number_at s.core.memory.get word 4) (s.core.registers.general 2) (s.core.registers.general 4) same sum,
      )
  swap_tells t at sum false same code memory =
      subst (λ c. Tells word addend (has_stored 4 c) s t) (sym code) (unswapped t at code, ap (λ (m : Memory). number_at m.get word 4) memory)
    where
      unswapped : (t : State) → s.address ≡ base + 4 → t.core.registers.code ≡ Code1 → CompletesStore s t → ⊥
      unswapped t at code (inl h) = let e : Code1 ≡ Code0 = sym code ∙ h.1 in absurd (cc)
      unswapped t at code (inr h) = not_row s (row_found swap_row) opcodes.CS opcodes.LAAL (here swap_row 4 swap_there at) refl (λ e. omega (arith, e)) h

  swap_others : (t : State) (b : Bool) (v a : ℕ) → t.core.memory ≡ after_store (store_event_at word 4 (cond b (Some v) None)) s.core.memory → is_in_word word a ≡ false → t.core.memory.get a ≡ s.core.memory.get a
  swap_others t true v a memory out = ap (λ (m : Memory). m.get a) memory ∙ others_stored s.core.memory.get word v u.word_aligned below a out
  swap_others t false v a memory out = ap (λ (m : Memory). m.get a) memory

  swap_has : (t : State) (b : Bool) (v : ℕ) → t.core.memory ≡ after_store (store_event_at word 4 (cond b (Some v) None)) s.core.memory → t.core.memory.has ≡ s.core.memory.has
  swap_has t true v memory = ap (λ (m : Memory). m.has) memory
  swap_has t false v memory = ap (λ (m : Memory). m.has) memory

  swap_progress : even ≡ true → s.address ≡ base + 4 → s.core.registers.general 4 % 2 ^ 32 ≡ (s.core.registers.general 2 + addend) % 2 ^ 32 → (x : Option StoreEvent) (t : State) → ActionStep (Perform (swaps (s.core.registers.general 2 % 2 ^ 32) (s.core.registers.general 4 % 2 ^ 32) word)) 4 s (Executed x) t → Progress base word addend even s t
  swap_progress is at sum x t h =
      let register = λ (k : ℕ). ap (λ (r : Registers). r.general k) h.0.results in
      let same : Bool = number_at s.core.memory.get word 4 == s.core.registers.general 2 % 2 ^ 32 in
      record {
        offset = 4;
        at = at;
        adding = adds_on t (register 3) (register 5) (register 14) (subst (λ b. IsPlaced b base addend (own t)) (sym is) (inr (inr (inl (h.1 ∙ next 4 4 at (omega arith))))));
        has = swap_has t same (s.core.registers.general 4 % 2 ^ 32) h.0.memory;
        others = λ a out. swap_others t same (s.core.registers.general 4 % 2 ^ 32) a h.0.memory out;
        tells = swap_tells t at sum same refl h.0.code h.0.memory;
      }

  swap_goes : even ≡ true → s.address ≡ base + 4 → s.core.registers.general 4 % 2 ^ 32 ≡ (s.core.registers.general 2 + addend) % 2 ^ 32 → GoesOn base word addend even s
  swap_goes is at sum = record {
    progress = λ x t step. swap_progress is at sum x t (swap_acts (Executed x) t at step);
    never_stops = λ kind t step. no_interrupt (swaps (s.core.registers.general 2 % 2 ^ 32) (s.core.registers.general 4 % 2 ^ 32) word) s.core.memory.has kind reached refl (λ h. h) (swap_acts (Interrupted kind) t at step).0;
    never_open = swap_closed at;
  }

  -- ---- the branch back

  back_acts : (event : Event) (t : State) → s.address ≡ base + 8 → MachineStep s event t → ActionStep (Branch 4 (low Doubleword (pos s.address +ℤ pos 2 *ℤ cast_signed w32 4294967292))) 6 s event t
  unfolding semantics_in semantics_of length_of
  back_acts event t at step = acts_as s t event (row_found back_row) (here back_row 8 back_there at) step

  back_closed : s.address ≡ base + 8 → IsOpen s → ⊥
  unfolding semantics_in semantics_of
  back_closed at = not_open s (row_found back_row) Row.BranchRelative (here back_row 8 back_there at) refl refl

  target : s.address ≡ base + 8 → low Doubleword (pos s.address +ℤ pos 2 *ℤ cast_signed w32 4294967292) ≡ base
  target at =
      let fits = u.fits in
      let from : s.address ≡ wrapping_add64 base 8 = omega (arith, at, fits) in
      let to : wrapping_add64 base 0 ≡ base = omega (arith, fits) in
      ap (λ p. low Doubleword (pos p +ℤ pos 2 *ℤ cast_signed w32 4294967292)) from ∙ lands base 8 0 refl refl (omega arith) (omega arith) ∙ to

  back_placed : (t : State) → s.address ≡ base + 8 → (b : Bool) → t.address ≡ cond b (low Doubleword (pos s.address +ℤ pos 2 *ℤ cast_signed w32 4294967292)) (wrapping_add64 s.address 6) → IsPlaced true base addend (own t)
  back_placed t at true h = inl (h ∙ target at)
  back_placed t at false h = inr (inr (inr (h ∙ next 8 6 at (omega arith))))

  back_progress : even ≡ true → s.address ≡ base + 8 → (x : Option StoreEvent) (t : State) → ActionStep (Branch 4 (low Doubleword (pos s.address +ℤ pos 2 *ℤ cast_signed w32 4294967292))) 6 s (Executed x) t → Progress base word addend even s t
  back_progress is at x t h =
      let register = λ (k : ℕ). ap (λ (c : Core). c.registers.general k) h.0 in
      record {
        offset = 8;
        at = at;
        adding = adds_on t (register 3) (register 5) (register 14) (subst (λ b. IsPlaced b base addend (own t)) (sym is) (back_placed t at (is_selected 4 s.core.registers.code) h.1));
        has = ap (λ (c : Core). c.memory.has) h.0;
        others = λ a out. ap (λ (c : Core). c.memory.get a) h.0;
        tells = subst (λ b. Tells word addend b s t) (sym (none_stored 8 refl refl t.core.registers.code)) (plain (row_found back_row) opcodes.BRCL (here back_row 8 back_there at) refl (λ e. omega (arith, e)) (λ e. omega (arith, e)) t, ap (λ (c : Core). number_at c.memory.get word 4) h.0);
      }

  back_goes : even ≡ true → s.address ≡ base + 8 → GoesOn base word addend even s
  back_goes is at = record {
    progress = λ x t step. back_progress is at x t (back_acts (Executed x) t at step);
    never_stops = λ kind t step. back_acts (Interrupted kind) t at step;
    never_open = back_closed at;
  }

  -- ---- the return

  return_acts : (event : Event) (t : State) (o : ℕ) → StandsInCode return_row o → s.address ≡ base + o → MachineStep s event t → ActionStep (Branch 15 (s.core.registers.general 14)) 2 s event t
  unfolding semantics_in semantics_of length_of
  return_acts event t o there at step = acts_as s t event (row_found return_row) (here return_row o there at) step

  return_closed : (o : ℕ) → StandsInCode return_row o → s.address ≡ base + o → IsOpen s → ⊥
  unfolding semantics_in semantics_of
  return_closed o there at = not_open s (row_found return_row) Row.BranchToRegister (here return_row o there at) refl refl

  begins : (b : Bool) (x : Processor) → x.address ≡ base + start_offset b → IsPlaced b base addend x
  begins true x h = inl (let e : x.address ≡ base = omega (arith, h) in e)
  begins false x h = inl h

  return_progress : (o : ℕ) → StandsInCode return_row o → (o == 4) ≡ false → (o == 16) ≡ false → s.address ≡ base + o → (x : Option StoreEvent) (t : State) → ActionStep (Branch 15 (s.core.registers.general 14)) 2 s (Executed x) t → Progress base word addend even s t
  return_progress o there four sixteen at x t h =
      let register = λ (k : ℕ). ap (λ (c : Core). c.registers.general k) h.0 in
      let to : t.address ≡ s.core.registers.general 14 = h.1 ∙ ap (λ b. cond b (s.core.registers.general 14) (wrapping_add64 s.address 2)) (selected_always s.core.registers.code) in
      record {
        offset = o;
        at = at;
        adding = adds_on t (register 3) (register 5) (register 14) (begins even (own t) (to ∙ adding.link_is));
        has = ap (λ (c : Core). c.memory.has) h.0;
        others = λ a out. ap (λ (c : Core). c.memory.get a) h.0;
        tells = subst (λ b. Tells word addend b s t) (sym (none_stored o four sixteen t.core.registers.code)) (plain (row_found return_row) opcodes.BCR (here return_row o there at) refl (λ e. omega (arith, e)) (λ e. omega (arith, e)) t, ap (λ (c : Core). number_at c.memory.get word 4) h.0);
      }

  return_goes : (o : ℕ) → StandsInCode return_row o → (o == 4) ≡ false → (o == 16) ≡ false → s.address ≡ base + o → GoesOn base word addend even s
  return_goes o there four sixteen at = record {
    progress = λ x t step. return_progress o there four sixteen at x t (return_acts (Executed x) t o there at step);
    never_stops = λ kind t step. return_acts (Interrupted kind) t o there at step;
    never_open = return_closed o there at;
  }

  -- ---- the locked add

  add_acts : (event : Event) (t : State) → s.address ≡ base + 16 → MachineStep s event t → ActionStep (Perform (adds (s.core.registers.general 3 % 2 ^ 32) word)) 6 s event t
  unfolding semantics_in semantics_of length_of
  add_acts event t at step =
      subst (λ a. ActionStep (Perform (adds (s.core.registers.general 3 % 2 ^ 32) a)) 6 s event t) operand
      (acts_as s t event (row_found add_row) (here add_row 16 add_there at) step)

  add_closed : s.address ≡ base + 16 → IsOpen s → ⊥
  unfolding semantics_in semantics_of
  add_closed at = not_open s (row_found add_row) (Row.LoadAndOperate (LogicalOperation LogicalAdd) Word) (here add_row 16 add_there at) refl refl

  summed : (n r3 : ℕ) → r3 ≡ addend → ((n + r3 % 2 ^ 32) % 4294967296) % 2 ^ 32 ≡ (n + addend) % 2 ^ 32
  summed n r3 e = omega (arith, e)

  add_progress : even ≡ false → s.address ≡ base + 16 → (x : Option StoreEvent) (t : State) → ActionStep (Perform (adds (s.core.registers.general 3 % 2 ^ 32) word)) 6 s (Executed x) t → Progress base word addend even s t
  add_progress is at x t h =
      let register = λ (k : ℕ). ap (λ (r : Registers). r.general k) h.0.results in
      let n = number_at s.core.memory.get word 4 in
      let v = (n + s.core.registers.general 3 % 2 ^ 32) % 4294967296 in
      record {
        offset = 16;
        at = at;
        adding = adds_on t (register 3) (register 5) (register 14) (subst (λ b. IsPlaced b base addend (own t)) (sym is) (inr (h.1 ∙ next 16 6 at (omega arith))));
        has = ap (λ (m : Memory). m.has) h.0.memory;
        others = λ a out. ap (λ (m : Memory). m.get a) h.0.memory ∙ others_stored s.core.memory.get word v u.word_aligned below a out;
        tells = subst (λ b. Tells word addend b s t) (sym (add_stores t.core.registers.code)) (
          inr (row_found add_row, here add_row 16 add_there at, refl),
          ap (λ (m : Memory). number_at m.get word 4) h.0.memory ∙ number_stored s.core.memory.get word v u.word_aligned below ∙ summed n (s.core.registers.general 3) adding.addend_is,
        );
      }

  add_goes : even ≡ false → s.address ≡ base + 16 → GoesOn base word addend even s
  add_goes is at = record {
    progress = λ x t step. add_progress is at x t (add_acts (Executed x) t at step);
    never_stops = λ kind t step. no_interrupt (adds (s.core.registers.general 3 % 2 ^ 32) word) s.core.memory.has kind reached refl (λ h. h) (add_acts (Interrupted kind) t at step).0;
    never_open = add_closed at;
  }

  -- ---- at any place

  goes_at : (b : Bool) → even ≡ b → IsPlaced b base addend (own s) → GoesOn base word addend even s
  goes_at true is (inl h) = sum_goes is (let e : s.address ≡ base + 0 = omega (arith, h) in e)
  goes_at true is (inr (inl h)) = swap_goes is h.0 h.1
  goes_at true is (inr (inr (inl h))) = back_goes is h
  goes_at true is (inr (inr (inr h))) = return_goes 14 loop_return_there refl refl h
  goes_at false is (inl h) = add_goes is h
  goes_at false is (inr h) = return_goes 22 add_return_there refl refl h

  pub goes_on : GoesOn base word addend even s
  goes_on = goes_at even refl (placed_to even base addend (own s) adding.at)
