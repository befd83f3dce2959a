-- The step that loads a doubleword of the image, which linking fills.
use Rattle.std.proofs.Common.{◌≡◌, ℕ, suc, ◌+◌, ◌*◌, ◌/◌, ◌%◌, ◌^◌, ◌<◌, ◌≤◌, inl, inr, List, [], ◌∷◌, length, Some, None, true, false, cond, refl, sym, ap, ◌∙◌, subst, arith}
use Rattle.std.specs.Prelude.{pos, ◌+ℤ◌}
use Rattle.std.specs.Int.{w64, to_be_bytes}
use Rattle.s390x_lanes.specs.declared.operators.Signedness.TheVariants.{Unsigned}
use Rattle.s390x_operations.specs.State.{Registers, Memory, Core, CodeImage, set_general, with_code, core_after_writes, wrapping_add64, number_at, IsLoaded}
use Rattle.s390x_operations.specs.Access.{Reads, fault}
use Rattle.s390x_operations.specs.Numbers.{low}
use Rattle.s390x_operations.specs.Bits.{extended_bits}
use Rattle.s390x_operations.specs.declared.size.Size.TheVariants.{Doubleword}
use Rattle.s390x_operations.specs.declared.size.Width.TheVariants.{Bits64}
use Rattle.s390x_operations.specs.declared.operand.Source.TheVariants.{Memory as InMemory}
use Rattle.s390x_operations.specs.declared.operator.Operator.TheVariants.{Move}
use Rattle.s390x_operations.specs.declared.effect.Effect.TheVariants.{Compute}
use Rattle.s390x_operations.specs.declared.effect.CodeRule.TheVariants.{Kept}
use Rattle.s390x_operations.specs.declared.effect.Operation.{Operation}
use Rattle.s390x_format.specs.declared.kind.FormatKind.TheVariants.{RiB, Rxy}
use Rattle.s390x_format.specs.Formats.{length_of}
use Rattle.s390x_rows.specs.declared.opcodes.TheConstants as opcodes
use Rattle.s390x_typed_steps.specs.MachineInstruction.{bytes_of, ri_b, rxy}
use Rattle.s390x_machine.specs.declared.action_type.Action.TheVariants.{Perform, BranchAndSave}
use Rattle.s390x_machine.specs.Operands.{address_part}
use Rattle.s390x_machine.specs.Computations.{with_rule, on_doublewords, computes_immediate}
use Rattle.s390x_machine.specs.Semantics.{semantics_in, semantics_of}
use Rattle.s390x_machine.specs.Machine.{Executed, Interrupted, Transition, ActionStep, all_writes}
use Rattle.s390x_machine.specs.StepKinds.{Performs, no_code}
use Rattle.s390x_machine.specs.Typed.{At, goes_on, KindStep, TypedStep, kind_at}
use Rattle.s390x_machine.specs.OneStep.{StepRuns}
use Rattle.s390x_machine.specs.Layout.{Layout, step_address, InStep}
use Rattle.s390x_machine.specs.CodeAt.{ImageAt}
use Rattle.s390x_machine.proofs.Addresses.{sum_more, moved, unmoved}
use Rattle.s390x_machine.proofs.Branches.{stores_none}
use Rattle.s390x_machine.proofs.Composites.{ChangesOver, row_over_last, saves}
use Rattle.s390x_machine.proofs.Fetching.{StandsAt, byte_at, reached_all, row_at}
use Rattle.s390x_machine.proofs.Rows.{fits_ri_b, fits_rxy, bras_listed, lg_listed}
use Rattle.s390x_machine.proofs.Simulation.{RowAt, mid, at_start, turned, peel, further, resume}

-- ---- the doubleword in memory

-- a number by its bytes, the least significant first
joined : (f : ℕ → ℕ) (a n q1 q2 q3 q4 q5 q6 q7 q8 : ℕ) → n ≡ 256 * q1 + f (wrapping_add64 a 7) → q1 ≡ 256 * q2 + f (wrapping_add64 a 6) → q2 ≡ 256 * q3 + f (wrapping_add64 a 5) → q3 ≡ 256 * q4 + f (wrapping_add64 a 4) →
    q4 ≡ 256 * q5 + f (wrapping_add64 a 3) → q5 ≡ 256 * q6 + f (wrapping_add64 a 2) → q6 ≡ 256 * q7 + f (wrapping_add64 a 1) → q7 ≡ 256 * q8 + f (wrapping_add64 a 0) → number_at f a 8 + 2 ^ 64 * q8 ≡ n
joined f a n q1 q2 q3 q4 q5 q6 q7 q8 e0 e1 e2 e3 e4 e5 e6 e7 = omega arith

-- a number with one byte more
one_byte : (n q x y : ℕ) → n ≡ 256 * q + x → y ≡ x → n ≡ 256 * q + y
one_byte n q x y e same = e ∙ ap (λ z. 256 * q + z) (sym same)

rest_below : (n m : ℕ) → m + 2 ^ 64 * (n / 2 ^ 64) ≡ n → m ≡ n % 2 ^ 64
rest_below n m e = omega arith

-- what it is, where the image lies in memory
doubleword_at : (image : CodeImage) (m : Memory) (offset n : ℕ) → image.base + length image.bytes ≤ 2 ^ 64 → IsLoaded image m → StandsAt image offset (to_be_bytes w64 n) → number_at m.get (wrapping_add64 image.base offset) 8 ≡ n % 2 ^ 64
doubleword_at image m offset n fits is_loaded s =
    let a = wrapping_add64 image.base offset in
    let b0 = (byte_at image m offset 0 (to_be_bytes w64 n) fits is_loaded s (omega arith)).1 in
    let b1 = (byte_at image m offset 1 (to_be_bytes w64 n) fits is_loaded s (omega arith)).1 in
    let b2 = (byte_at image m offset 2 (to_be_bytes w64 n) fits is_loaded s (omega arith)).1 in
    let b3 = (byte_at image m offset 3 (to_be_bytes w64 n) fits is_loaded s (omega arith)).1 in
    let b4 = (byte_at image m offset 4 (to_be_bytes w64 n) fits is_loaded s (omega arith)).1 in
    let b5 = (byte_at image m offset 5 (to_be_bytes w64 n) fits is_loaded s (omega arith)).1 in
    let b6 = (byte_at image m offset 6 (to_be_bytes w64 n) fits is_loaded s (omega arith)).1 in
    let b7 = (byte_at image m offset 7 (to_be_bytes w64 n) fits is_loaded s (omega arith)).1 in
    rest_below n (number_at m.get a 8)
    (joined m.get a n (n / 2 ^ 8) (n / 2 ^ 16) (n / 2 ^ 24) (n / 2 ^ 32) (n / 2 ^ 40) (n / 2 ^ 48) (n / 2 ^ 56) (n / 2 ^ 64)
    (one_byte n (n / 2 ^ 8) (n % 256) (m.get (wrapping_add64 a 7)) (omega arith) b7)
    (one_byte (n / 2 ^ 8) (n / 2 ^ 16) (n / 2 ^ 8 % 256) (m.get (wrapping_add64 a 6)) (omega arith) b6)
    (one_byte (n / 2 ^ 16) (n / 2 ^ 24) (n / 2 ^ 16 % 256) (m.get (wrapping_add64 a 5)) (omega arith) b5)
    (one_byte (n / 2 ^ 24) (n / 2 ^ 32) (n / 2 ^ 24 % 256) (m.get (wrapping_add64 a 4)) (omega arith) b4)
    (one_byte (n / 2 ^ 32) (n / 2 ^ 40) (n / 2 ^ 32 % 256) (m.get (wrapping_add64 a 3)) (omega arith) b3)
    (one_byte (n / 2 ^ 40) (n / 2 ^ 48) (n / 2 ^ 40 % 256) (m.get (wrapping_add64 a 2)) (omega arith) b2)
    (one_byte (n / 2 ^ 48) (n / 2 ^ 56) (n / 2 ^ 48 % 256) (m.get (wrapping_add64 a 1)) (omega arith) b1)
    (one_byte (n / 2 ^ 56) (n / 2 ^ 64) (n / 2 ^ 56 % 256) (m.get (wrapping_add64 a 0)) (omega arith) b0))

doubleword_reached : (image : CodeImage) (m : Memory) (offset n : ℕ) → image.base + length image.bytes ≤ 2 ^ 64 → IsLoaded image m → StandsAt image offset (to_be_bytes w64 n) → fault (Reads false (wrapping_add64 image.base offset) 8) m.has ≡ None
doubleword_reached image m offset n fits is_loaded s =
    let a = wrapping_add64 image.base offset in
    let all = reached_all m.has a 8 (λ i lt. (byte_at image m offset i (to_be_bytes w64 n) fits is_loaded s lt).0) in
    ap (λ b. cond b None (Some Rattle.s390x_operations.specs.declared.stop.StopKind.TheVariants.Access)) all

-- ---- a row that loads it

-- LOAD (64) of the doubleword at %r1
abbrev pub loads_doubleword : (register : ℕ) → Registers → Operation
loads_doubleword d r =
    with_rule Kept (Compute Move Doubleword d (r.general d) (record { source = InMemory (low Doubleword (pos (address_part r 1 + address_part r 0) +ℤ pos 0)); width = Bits64; sign = Unsigned; reversed = false }))

-- where the row finds it
abbrev doubleword_place : Registers → ℕ
doubleword_place r = low Doubleword (pos (address_part r 1 + address_part r 0) +ℤ pos 0)

doubleword_found : (r : Registers) (base offset : ℕ) → r.general 1 ≡ wrapping_add64 base offset → doubleword_place r ≡ wrapping_add64 base offset
doubleword_found r base offset at = unmoved (r.general 1 + 0) ∙ ap (λ n. (n + 0) % 2 ^ 64) at ∙ omega arith

doubleword_read : (image : CodeImage) (m : Memory) (r : Registers) (offset n : ℕ) → image.base + length image.bytes ≤ 2 ^ 64 → IsLoaded image m → StandsAt image offset (to_be_bytes w64 n) → r.general 1 ≡ wrapping_add64 image.base offset → extended_bits Unsigned Bits64 Doubleword (number_at m.get (doubleword_place r) 8) ≡ extended_bits Unsigned Bits64 Doubleword n
doubleword_read image m r offset n fits is_loaded s at =
    ap (λ a. extended_bits Unsigned Bits64 Doubleword (number_at m.get a 8)) (doubleword_found r image.base offset at)
    ∙ ap (λ x. extended_bits Unsigned Bits64 Doubleword x) (doubleword_at image m offset n fits is_loaded s)
    ∙ omega arith

doubleword_changes : (image : CodeImage) (r : Registers) (d offset n size p : ℕ) → image.base + length image.bytes ≤ 2 ^ 64 → StandsAt image offset (to_be_bytes w64 n) → r.general 1 ≡ wrapping_add64 image.base offset → ChangesOver image (Perform (loads_doubleword d r)) size r p (set_general r d (extended_bits Unsigned Bits64 Doubleword n))
doubleword_changes image r d offset n size p fits s at m (Executed e) t is_loaded h =
    let y = extended_bits Unsigned Bits64 Doubleword (number_at m.get (doubleword_place r) 8) in
    let registers : t.core.registers ≡ set_general r d (extended_bits Unsigned Bits64 Doubleword n) = h.0.results ∙ ap (λ code. with_code code (set_general r d y)) h.0.code ∙ ap (λ z. set_general r d z) (doubleword_read image m r offset n fits is_loaded s at) in
    (ap Executed h.2, λ i. record { core = record { registers = registers i; memory = h.0.memory i }; address = h.1 i })
doubleword_changes image r d offset n size p fits s at m (Interrupted kind) t is_loaded (inl e, same) =
    let none : fault (Reads false (doubleword_place r) 8) m.has ≡ None = ap (λ a. fault (Reads false a 8) m.has) (doubleword_found r image.base offset at) ∙ doubleword_reached image m offset n fits is_loaded s in
    absurd (cc)
doubleword_changes image r d offset n size p fits s at m (Interrupted kind) t is_loaded (inr (e, inl f), same) = absurd (cc)
doubleword_changes image r d offset n size p fits s at m (Interrupted kind) t is_loaded (inr (e, inr f), same) = absurd f

-- ---- the rows at their places

-- a branch over the doubleword behind it, whose address goes into %r1
pub bras_at : (L : Layout) → ImageAt L → (offset : ℕ) → offset % 2 ≡ 0 → StandsAt L.image offset (bytes_of (ri_b opcodes.BRAS 1 6)) → RowAt L (wrapping_add64 L.image.base offset) (λ r. BranchAndSave 1 (wrapping_add64 (wrapping_add64 L.image.base offset) 12)) (length_of RiB)
unfolding semantics_in semantics_of
bras_at L image offset even s =
    row_at L offset (ri_b opcodes.BRAS 1 6) (λ r. BranchAndSave 1 (wrapping_add64 (wrapping_add64 L.image.base offset) 12)) image.even even image.fits s (fits_ri_b opcodes.BRAS 1 6 (omega arith) (omega arith) (omega arith)) bras_listed (λ state event t at h.
    subst (λ a. ActionStep (BranchAndSave 1 a) (length_of RiB) state event t) (ap (λ p. low Doubleword (pos p +ℤ pos 12)) at ∙ moved (wrapping_add64 L.image.base offset) 12) h)

pub lg_at : (L : Layout) → ImageAt L → (offset : ℕ) → offset % 2 ≡ 0 → (d : ℕ) → d < 16 → StandsAt L.image offset (bytes_of (rxy opcodes.LG d 1 0 0)) → RowAt L (wrapping_add64 L.image.base offset) (λ r. Perform (loads_doubleword d r)) (length_of Rxy)
unfolding semantics_in semantics_of
lg_at L image offset even d ld s =
    row_at L offset (rxy opcodes.LG d 1 0 0) (λ r. Perform (loads_doubleword d r)) image.even even image.fits s (fits_rxy opcodes.LG d 1 0 0 (omega arith) ld (omega arith) (omega arith) (omega arith)) (lg_listed d) (λ state event t at h. h)

-- ---- the step

-- the rows of such a step, and its doubleword
pub record SymbolRows (L : Layout) (k d n : ℕ) : Type 0 where
  pub first : RowAt L (step_address L k) (λ r. BranchAndSave 1 (wrapping_add64 (step_address L k) 12)) 4
  pub second : RowAt L (wrapping_add64 (step_address L k) 12) (λ r. Perform (loads_doubleword d r)) 6
  pub here : InStep L k (step_address L k)
  pub here_second : InStep L k (wrapping_add64 (step_address L k) 12)
  pub next : wrapping_add64 (wrapping_add64 (step_address L k) 12) 6 ≡ step_address L (suc k)
  pub holds : StandsAt L.image (L.offsets.step k + 4) (to_be_bytes w64 n)

symbol_step : (L : Layout) (k d n v : ℕ) → kind_at L k ≡ Some (Performs true (computes_immediate Kept (on_doublewords Move) d d n) no_code) → (c : Core) (h : List Transition) → TypedStep L k (core_after_writes (all_writes h) c) (At (suc k)) (mid c (set_general (set_general c.registers 1 v) d (extended_bits Unsigned Bits64 Doubleword n)) (all_writes h) 0).core
symbol_step L k d n v is c h =
    let y = core_after_writes (all_writes h) c in
    let x = (mid c (set_general (set_general c.registers 1 v) d (extended_bits Unsigned Bits64 Doubleword n)) (all_writes h) 0).core in
    subst (λ f. KindStep L f k y (At (suc k)) x) (sym is) (goes_on v (record { reached = refl; allowed = refl; results = refl; code = refl; memory = refl }) refl)

pub symbol_runs : (L : Layout) → ImageAt L → (k d n : ℕ) → kind_at L k ≡ Some (Performs true (computes_immediate Kept (on_doublewords Move) d d n) no_code) → SymbolRows L k d n → StepRuns L k
symbol_runs L image k d n is rows c is_loaded =
    let p2 = wrapping_add64 (step_address L k) 12 in
    let saved : Registers = set_general c.registers 1 (wrapping_add64 (step_address L k) 4) in
    let i = at_start L k c rows.here is_loaded in
    peel L k c [] c.registers (step_address L k) i (λ t s rest run.
    let u = turned L k c [] c.registers (step_address L k) (λ r. BranchAndSave 1 p2) 4 t i rows.first s in
    let went = saves c c.registers (all_writes (t ∷ [])) (step_address L k) 1 p2 4 t.event t.after u.acts in
    let i2 = further L k c [] c.registers (step_address L k) (λ r. BranchAndSave 1 p2) 4 t saved p2 i u (omega arith) rows.here_second went.0 went.1 in
    resume L k c [] t saved p2 rest went.1 run
    (row_over_last L k c (t ∷ []) saved p2 (λ r. Perform (loads_doubleword d r)) 6 (set_general saved d (extended_bits Unsigned Bits64 Doubleword n)) (suc k) i2 rows.second
    (doubleword_changes L.image saved d (L.offsets.step k + 4) n 6 p2 image.fits rows.holds (sum_more L.image.base (L.offsets.step k) 4))
    rows.next (stores_none L k (Performs true (computes_immediate Kept (on_doublewords Move) d d n) no_code) (λ z. refl) is) (symbol_step L k d n (wrapping_add64 (step_address L k) 4) is c)))
