-- The memory in which an execution starts, region by region.
use Rattle.std.proofs.Common.{◌≡◌, ℕ, zero, ◌+◌, ◌-◌, ◌<◌, ◌≤◌, ◌^◌, true, false, ◌||◌, ◌&&◌, if◌then◌else◌, List, [], ◌∷◌, length, get_or, drop, slice_index, refl, sym, ap, ap₂, ◌∙◌, subst, arith, true≢false, Option, Some, None, IsTrue, le-leb, lt-ltb}
use Rattle.std.specs.BTreeMap.{get}
use Rattle.std.specs.Option.{is_some, unwrap_or}
use Rattle.std.specs.Ordering.{nat_cmp}
use Rattle.std.proofs.lemmas.List.{drop_more}
use Rattle.std.proofs.lemmas.Bool.{or_parts, or_right}
use Rattle.s390x_operations.specs.State.{Memory, wrapping_add64}
use Rattle.s390x_operations.specs.declared.stop.ConditionCode.{ConditionCode}
use Rattle.s390x_machine.specs.Regions.{covers, held_in, byte_in, is_held, byte_of}
use Rattle.s390x_machine.specs.State.{memory_of, fresh_registers}
use Rattle.s390x_machine.specs.declared.flat.FlatMemory.{FlatMemory}
use Rattle.s390x_job.specs.declared.job.MemLine.{MemLine}
use Rattle.s390x_job.specs.declared.job.StartRegs.{StartRegs}
use Rattle.s390x_execution.specs.Start.{with_bytes, with_regions, no_memory, start_memory, start_registers, AllRegionsFit}
use Rattle.s390x_execution.specs.Text.{AllHeld}

-- what isn't there is 0
nothing : (x : Option ℕ) → is_some x ≡ false → unwrap_or x 0 ≡ 0
nothing None h = refl
nothing (Some n) h = absurd (true≢false h)

-- a byte that isn't accessible is 0
byte_nowhere : (m : FlatMemory) (a : ℕ) → is_held m a ≡ false → byte_of m a ≡ 0
byte_nowhere m a h =
    let older = get nat_cmp m.older a in
    let parts = or_parts (held_in m.regions.items a) (is_some older) h in
    ap (λ b. if b then byte_in m.regions.items a else unwrap_or older 0) parts.0 ∙ nothing older parts.1

-- a memory without an accessible address is all zero
pub empty_memory : (m : FlatMemory) → ((a : ℕ) → is_held m a ≡ false) → memory_of (is_held m) (byte_of m) ≡ no_memory
empty_memory m none = ap₂ memory_of (λ j a. none a j) (λ j a. byte_nowhere m a (none a) j)

-- one more region
pub added_memory : (m n : FlatMemory) (start : ℕ) (bytes : List ℕ) → ((a : ℕ) → is_held n a ≡ (covers start bytes a || is_held m a))
    → ((a : ℕ) → byte_of n a ≡ (if covers start bytes a then slice_index bytes (a - start) else byte_of m a))
    → memory_of (is_held n) (byte_of n) ≡ with_bytes start bytes (memory_of (is_held m) (byte_of m))
added_memory m n start bytes held filled = ap₂ memory_of (λ j a. held a j) (λ j a. filled a j)

-- the regions that are left make the memory whole
pub regions_more : (rs : List MemLine) (i : ℕ) (d : MemLine) (old new whole : Memory) → i < length rs → d ≡ get_or rs i d → new ≡ with_bytes d.address d.bytes.items old
    → with_regions (drop i rs) old ≡ whole → with_regions (drop (i + 1) rs) new ≡ whole
regions_more rs i d old new whole lt at one h =
    ap (λ (m : Memory). with_regions (drop (i + 1) rs) m) one
    ∙ ap (λ (r : MemLine). with_regions (drop (i + 1) rs) (with_bytes r.address r.bytes.items old)) at
    ∙ sym (ap (λ (xs : List MemLine). with_regions xs old) (drop_more rs i d lt))
    ∙ h

pub regions_fit : (rs : List MemLine) (i : ℕ) (d : MemLine) → i < length rs → d ≡ get_or rs i d → AllRegionsFit (drop i rs) → (d.address + length d.bytes.items ≤ 2 ^ 64) × AllRegionsFit (drop (i + 1) rs)
regions_fit rs i d lt at fit =
    let both = subst AllRegionsFit (drop_more rs i d lt) fit in
    (subst (λ (r : MemLine). r.address + length r.bytes.items ≤ 2 ^ 64) (sym at) both.0, both.1)

-- the registers of a fresh machine with other general and vector ones
pub registers_started : (general vector access : List ℕ) (code : ConditionCode) (r : StartRegs) → (λ i. slice_index access i) ≡ fresh_registers.access → code ≡ fresh_registers.code → general ≡ r.general → vector ≡ r.vector
    → (record { general = λ i. slice_index general i; vector = λ i. slice_index vector i; access = λ i. slice_index access i; code = code }) ≡ start_registers r
registers_started general vector access code r zeros zero_code g v =
    ap₂ (λ (a : ℕ → ℕ) (c : ConditionCode). record { general = λ i. slice_index general i; vector = λ i. slice_index vector i; access = a; code = c }) zeros zero_code
    ∙ ap₂ (λ (x y : List ℕ). start_registers (record { general = x; vector = y })) g v

-- ---- the regions are accessible

covers_own : (start : ℕ) (bytes : List ℕ) (i : ℕ) → i < length bytes → covers start bytes (start + i) ≡ true
covers_own start bytes i lt =
    ap₂ (λ x y. x && y) (le-leb start (start + i) (omega arith)) (lt-ltb (start + i - start) (length bytes) (omega arith))

-- what is accessible stays so under more regions
still_held : (rs : List MemLine) (m : Memory) (a : ℕ) → IsTrue (m.has a) → IsTrue ((with_regions rs m).has a)
still_held [] m a h = h
still_held (r ∷ rs) m a h = still_held rs (with_bytes r.address r.bytes.items m) a (ap (λ b. covers r.address r.bytes.items a || b) h ∙ or_right (covers r.address r.bytes.items a) true refl)

region_held : (r : MemLine) (m : Memory) (i : ℕ) → r.address + length r.bytes.items ≤ 2 ^ 64 → i < length r.bytes.items → IsTrue ((with_bytes r.address r.bytes.items m).has (wrapping_add64 r.address i))
region_held r m i fits lt =
    let same : wrapping_add64 r.address i ≡ r.address + i = omega arith in
    ap (λ a. covers r.address r.bytes.items a || m.has a) same ∙ ap (λ b. b || m.has (r.address + i)) (covers_own r.address r.bytes.items i lt)

regions_held : (rs : List MemLine) (m : Memory) → AllRegionsFit rs → AllHeld (with_regions rs m).has rs
regions_held [] m fit = tt
regions_held (r ∷ rs) m fit =
    (λ i lt. still_held rs (with_bytes r.address r.bytes.items m) (wrapping_add64 r.address i) (region_held r m i fit.0 lt), regions_held rs (with_bytes r.address r.bytes.items m) fit.1)

under_image : (rs : List MemLine) (base : ℕ) (image : List ℕ) (m : Memory) → AllHeld m.has rs → AllHeld (with_bytes base image m).has rs
under_image [] base image m h = tt
under_image (r ∷ rs) base image m h =
    (λ i lt. ap (λ b. covers base image (wrapping_add64 r.address i) || b) (h.0 i lt) ∙ or_right (covers base image (wrapping_add64 r.address i)) true refl, under_image rs base image m h.1)

-- each region of a job is accessible when its image starts
pub start_held : (rs : List MemLine) (base : ℕ) (image : List ℕ) → AllRegionsFit rs → AllHeld (start_memory rs base image).has rs
start_held rs base image fit = under_image rs base image (with_regions rs no_memory) (regions_held rs no_memory fit)
