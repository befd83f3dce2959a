-- Helpers stand where a step needs `%r1`, and keep the operand's address.
use Rattle.std.proofs.Common.{◌⊎◌, inl, inr, ◌≤◌, arith, ◌≡◌, ℕ, ◌+◌, ◌%◌, ◌^◌, ◌<◌, List, [], ◌∷◌, Option, Some, None, Bool, true, false, cond, not, ◌&&◌, ◌||◌, ◌==◌, IsTrue, refl, sym, ap, ◌∙◌, subst}
use Rattle.std.specs.Prelude.{ℤ, pos, negsuc, ◌+ℤ◌, ◌≤ℤ◌, unsigned_abs}
use Rattle.std.proofs.lemmas.Bool.{and_parts, eqb-true, and_right, not-false, or_parts}
use Rattle.std.proofs.lemmas.Int.{ints}
use Rattle.s390x_typed_steps.specs.Operands.{has_form}
use Rattle.s390x_typed_steps.specs.Ranges.{OperandInRange}
use Rattle.s390x_inst.specs.Memory.{trusted}
use Rattle.s390x_base.specs.Regs.{number_of}
use Rattle.s390x_base.specs.declared.regs.Reg.{Reg}
use Rattle.s390x_base.specs.AccessFlags.{AccessFlags}
use Rattle.s390x_inst.specs.Memory.{flags_of}
use Rattle.s390x_inst.specs.declared.args.MemArg.{MemArg}
use Rattle.s390x_inst.specs.declared.args.MemArg.TheVariants.{BXD12, BXD20, Label, Constant, Symbol, RegOffset, InitialSPOffset}
use Rattle.s390x_inst.specs.declared.inst.Inst.{Inst}
use Rattle.s390x_inst.specs.declared.inst.Inst.TheVariants.{Mov64SImm32, LoadAddr}
use Rattle.s390x_typed_steps.specs.General.{is_general}
use Rattle.s390x_typed_steps.specs.Operands.{Finalized, no_register, scratch, is_numbered, fits_12, fits_20, fits_32, with_address_loaded, with_widened, finalized_operand, operand_general, offset_fits}
use Rattle.s390x_typed_steps.specs.Causes.{is_helped}
use Rattle.s390x_typed_steps.specs.declared.mem_inst_type.MemInstType.{MemInstType}
use Rattle.s390x_typed_steps.specs.General.{low_word}
use Rattle.s390x_typed_steps.specs.Operands.{with_long_displacement}
use Rattle.s390x_lanes.specs.declared.operators.Signedness.TheVariants.{Signed, Unsigned}
use Rattle.s390x_operations.specs.State.{Registers, Core, State, set_general, wrapping_add64}
use Rattle.s390x_operations.specs.Bits.{extended_bits}
use Rattle.s390x_operations.specs.Effects.{MayExecute}
use Rattle.s390x_operations.specs.declared.effect.CodeRule.TheVariants.{Kept}
use Rattle.s390x_operations.specs.declared.operator.Operator.TheVariants.{Move}
use Rattle.s390x_operations.specs.declared.size.Size.TheVariants.{Doubleword}
use Rattle.s390x_operations.specs.declared.size.Width.TheVariants.{Bits32, Bits64}
use Rattle.s390x_machine.specs.Computations.{signed_word, on_doublewords, on_immediate, computes_immediate}
use Rattle.s390x_machine.specs.Helpers.{KindMayExecute, HelpersMayExecute, IsSameAddress, IsAddressable, HelpersKeep, TakesOperand, TakesIndex}
use Rattle.s390x_machine.specs.StepKinds.{instruction_kind}
use Rattle.s390x_machine.specs.Layout.{Layout, block_address, constant_address}
use Rattle.s390x_machine.specs.Machine.{Executed}
use Rattle.s390x_machine.specs.Operands.{address_part, address_by_index, address_by_base}
use Rattle.s390x_machine.specs.Storage.{operand_address, needs_scratch, loads_address}
use Rattle.s390x_machine.specs.Typed.{loosen}
use Rattle.s390x_machine.proofs.Addresses.{sum_below}
use Rattle.s390x_machine.proofs.Composites.{compute_changes}
use Rattle.s390x_machine.proofs.Finalizing.{and_true, or_false}
use Rattle.s390x_machine.proofs.Operands.{zero_test, short_12, short_20, short_32, based_indexed, put_twice, not_scratch, low_below, loaded_address, far_offset}

-- ---- where they stand

-- an address is loaded where the test says so
loaded_where : (mi : MemInstType) (i : Inst) (is : List Inst) (a b : MemArg) (t : Bool) → is_helped (with_widened mi (cond t (record { helpers = i ∷ is; operand = a }) (record { helpers = []; operand = b }))).helpers ≡ t
loaded_where mi i is a b true = refl
loaded_where mi i is a b false = refl

-- after another helper there is one anyway
loaded_anyway : (mi : MemInstType) (i : Inst) (is js : List Inst) (a b : MemArg) (t : Bool) → is_helped (with_widened mi (cond t (record { helpers = i ∷ is; operand = a }) (record { helpers = i ∷ js; operand = b }))).helpers ≡ true
loaded_anyway mi i is js a b true = refl
loaded_anyway mi i is js a b false = refl

pub helped_where_needed : (mi : MemInstType) (m : MemArg) → IsTrue (operand_general m) → IsTrue (offset_fits m) → is_helped (finalized_operand mi m).helpers ≡ needs_scratch mi m
helped_where_needed mi (BXD12 base index d flags) general fits =
    loaded_where mi (LoadAddr scratch (BXD12 base index d flags)) [] (BXD12 scratch no_register 0 flags) (BXD12 base index d flags) (not mi.have_index && not (is_numbered 0 index))
    ∙ ap (λ b. not mi.have_index && not b) (zero_test index (and_parts (is_general base) (is_general index) general).1)
helped_where_needed mi (BXD20 base index z flags) general fits =
    loaded_where mi (LoadAddr scratch (BXD20 base index z flags)) [] (BXD12 scratch no_register 0 flags) (BXD20 base index z flags) (not mi.have_d20 || (not mi.have_index && not (is_numbered 0 index)))
    ∙ ap (λ b. not mi.have_d20 || (not mi.have_index && not b)) (zero_test index (and_parts (is_general base) (is_general index) general).1)
helped_where_needed mi (Label target) general fits = loaded_where mi (LoadAddr scratch (Label target)) [] (BXD12 scratch no_register 0 (flags_of (Label target))) (Label target) (needs_scratch mi (Label target))
helped_where_needed mi (Constant constant) general fits = loaded_where mi (LoadAddr scratch (Constant constant)) [] (BXD12 scratch no_register 0 (flags_of (Constant constant))) (Constant constant) (needs_scratch mi (Constant constant))
helped_where_needed mi (Symbol name offset flags) general fits = loaded_where mi (LoadAddr scratch (Symbol name offset flags)) [] (BXD12 scratch no_register 0 flags) (Symbol name offset flags) (needs_scratch mi (Symbol name offset flags))
helped_where_needed mi (RegOffset reg off flags) general fits = go (fits_12 off) (fits_20 off) (fits_32 off) fits
  where
    near : Bool → Bool → Bool → Finalized
    near t12 t20 t32 =
        cond t12 (record { helpers = []; operand = BXD12 reg no_register (unsigned_abs off) flags })
        (cond t20 (record { helpers = []; operand = BXD20 reg no_register off flags })
        (cond t32 (record { helpers = Mov64SImm32 scratch off ∷ []; operand = BXD12 reg scratch 0 flags }) (record { helpers = []; operand = RegOffset reg off flags })))

    go : (t12 t20 t32 : Bool) → IsTrue t32 → is_helped (with_widened mi (with_address_loaded mi (near t12 t20 t32))).helpers ≡ (not t12 && not (t20 && mi.have_d20))
    go true t20 t32 h =
        loaded_where mi (LoadAddr scratch (BXD12 reg no_register (unsigned_abs off) flags)) [] (BXD12 scratch no_register 0 flags) (BXD12 reg no_register (unsigned_abs off) flags) (not mi.have_index && false)
        ∙ and_right (not mi.have_index) false refl
    go false true t32 h =
        loaded_where mi (LoadAddr scratch (BXD20 reg no_register off flags)) [] (BXD12 scratch no_register 0 flags) (BXD20 reg no_register off flags) (not mi.have_d20 || (not mi.have_index && false))
        ∙ ap (λ b. not mi.have_d20 || b) (and_right (not mi.have_index) false refl) ∙ or_false (not mi.have_d20)
    go false false true h =
        loaded_anyway mi (Mov64SImm32 scratch off) (LoadAddr scratch (BXD12 reg scratch 0 flags) ∷ []) [] (BXD12 scratch no_register 0 flags) (BXD12 reg scratch 0 flags) (not mi.have_index && true)
    go false false false h = absurd (cc)
helped_where_needed mi (InitialSPOffset off) general fits = refl
helped_where_needed mi m general fits = refl

-- ---- what they keep

-- a helper's step
address_executes : (a : ℕ) (c t : Core) → MayExecute (loads_address 1 a c.registers) c t → t ≡ record { registers = set_general c.registers 1 (a % 2 ^ 64); memory = c.memory }
address_executes a c t h =
    ap (λ (x : State). x.core) (compute_changes Move Doubleword 1 (c.registers.general 1) a Bits64 Unsigned false 0 0 c.registers c.memory c.memory (Executed None) (record { core = t; address = wrapping_add64 0 0 }) (h, refl, refl)).1

offset_executes : (bits : ℕ) (c t : Core) → MayExecute (computes_immediate Kept (on_immediate (on_doublewords Move) signed_word) 1 1 bits c.registers) c t → t ≡ record { registers = set_general c.registers 1 (extended_bits Signed Bits32 Doubleword bits); memory = c.memory }
offset_executes bits c t h =
    ap (λ (x : State). x.core) (compute_changes Move Doubleword 1 (c.registers.general 1) bits Bits32 Signed false 0 0 c.registers c.memory c.memory (Executed None) (record { core = t; address = wrapping_add64 0 0 }) (h, refl, refl)).1

-- an operand with its helpers keeps an address
abbrev Keeps : Layout → Bool → (Registers → ℕ) → Finalized → Type 0
Keeps L needs address f = (c t : Core) → HelpersMayExecute L f.helpers c t → IsSameAddress (operand_address L f.operand) t.registers (Some address) c.registers × (v : ℕ) × (t ≡ loosen needs v c)

-- an address that is another one
same_other : (o : Option (Registers → ℕ)) (r q : Registers) (a b : Registers → ℕ) → a q ≡ b q → IsSameAddress o r (Some a) q → IsSameAddress o r (Some b) q
same_other None r q a b e h = absurd h
same_other (Some x) r q a b e h = h ∙ e

-- a displacement of 12 bits, also as one of 20
same_short : (L : Layout) (mi : MemInstType) (base index : Reg) (d : ℕ) (flags : AccessFlags) (address : Registers → ℕ) (r q : Registers) → address_by_index r (number_of base) (number_of index) (pos d) ≡ address q → IsSameAddress (operand_address L (with_long_displacement mi (BXD12 base index d flags))) r (Some address) q
same_short L mi base index d flags address r q e = go (not mi.have_d12 && mi.have_d20)
  where
    go : (t : Bool) → IsSameAddress (operand_address L (cond t (BXD20 base index (pos d) flags) (BXD12 base index d flags))) r (Some address) q
    go true = e
    go false = e

-- an address in %r1
same_loaded : (L : Layout) (mi : MemInstType) (flags : AccessFlags) (address : Registers → ℕ) (c t : Core) → address c.registers < 2 ^ 64 → t ≡ record { registers = set_general c.registers 1 (address c.registers % 2 ^ 64); memory = c.memory } → IsSameAddress (operand_address L (with_long_displacement mi (BXD12 scratch no_register 0 flags))) t.registers (Some address) c.registers
same_loaded L mi flags address c t small e =
    same_short L mi scratch no_register 0 flags address t.registers c.registers (ap (λ (x : Core). address_by_index x.registers 1 0 (pos 0)) e ∙ loaded_address c.registers (address c.registers) small)

module _ (L : Layout) (mi : MemInstType) where
  keeps_12 : (base index : Reg) (d : ℕ) (flags : AccessFlags) (t : Bool) → Keeps L t (λ r. address_by_index r (number_of base) (number_of index) (pos d)) (with_widened mi (cond t (record { helpers = LoadAddr scratch (BXD12 base index d flags) ∷ []; operand = BXD12 scratch no_register 0 flags }) (record { helpers = []; operand = BXD12 base index d flags })))
  keeps_12 base index d flags false c t e = (same_short L mi base index d flags (λ r. address_by_index r (number_of base) (number_of index) (pos d)) t.registers c.registers (ap (λ (x : Core). address_by_index x.registers (number_of base) (number_of index) (pos d)) e), 0, e)
  keeps_12 base index d flags true c t h =
      let a = address_by_index c.registers (number_of base) (number_of index) (pos d) in
      let e = h.2 ∙ address_executes a c h.0 h.1 in
      (same_loaded L mi flags (λ r. address_by_index r (number_of base) (number_of index) (pos d)) c t (low_below (pos (address_part c.registers (number_of base) + address_part c.registers (number_of index)) +ℤ pos d)) e, a % 2 ^ 64, e)

  keeps_20 : (base index : Reg) (z : ℤ) (flags : AccessFlags) (t : Bool) → Keeps L t (λ r. address_by_index r (number_of base) (number_of index) z) (with_widened mi (cond t (record { helpers = LoadAddr scratch (BXD20 base index z flags) ∷ []; operand = BXD12 scratch no_register 0 flags }) (record { helpers = []; operand = BXD20 base index z flags })))
  keeps_20 base index z flags false c t e = (ap (λ (x : Core). address_by_index x.registers (number_of base) (number_of index) z) e, 0, e)
  keeps_20 base index z flags true c t h =
      let a = address_by_index c.registers (number_of base) (number_of index) z in
      let e = h.2 ∙ address_executes a c h.0 h.1 in
      (same_loaded L mi flags (λ r. address_by_index r (number_of base) (number_of index) z) c t (low_below (pos (address_part c.registers (number_of base) + address_part c.registers (number_of index)) +ℤ z)) e, a % 2 ^ 64, e)

  keeps_far : (reg : Reg) (off : ℤ) (flags : AccessFlags) → (number_of reg == 1) ≡ false → negsuc 2147483647 ≤ℤ off → off ≤ℤ pos 2147483647 → (t : Bool) →
      Keeps L true (λ r. address_by_base r (number_of reg) off) (with_widened mi (cond t (record { helpers = Mov64SImm32 scratch off ∷ LoadAddr scratch (BXD12 reg scratch 0 flags) ∷ []; operand = BXD12 scratch no_register 0 flags }) (record { helpers = Mov64SImm32 scratch off ∷ []; operand = BXD12 reg scratch 0 flags })))
  keeps_far reg off flags other least most false c t h =
      let v = extended_bits Signed Bits32 Doubleword (low_word off) in
      let e = h.2 ∙ offset_executes (low_word off) c h.0 h.1 in
      (same_short L mi reg scratch 0 flags (λ r. address_by_base r (number_of reg) off) t.registers c.registers (ap (λ (x : Core). address_by_index x.registers (number_of reg) 1 (pos 0)) e ∙ far_offset c.registers (number_of reg) off other least most), v, e)
  keeps_far reg off flags other least most true c t h =
      let v = extended_bits Signed Bits32 Doubleword (low_word off) in
      let first = offset_executes (low_word off) c h.0 h.1 in
      let x = h.2 in
      let a = address_by_index h.0.registers (number_of reg) 1 (pos 0) in
      let same : a ≡ address_by_base c.registers (number_of reg) off = ap (λ (y : Core). address_by_index y.registers (number_of reg) 1 (pos 0)) first ∙ far_offset c.registers (number_of reg) off other least most in
      let second = x.2 ∙ address_executes a h.0 x.0 x.1 in
      let w = address_by_base c.registers (number_of reg) off % 2 ^ 64 in
      let e : t ≡ record { registers = set_general c.registers 1 w; memory = c.memory } =
      second ∙ ap (λ (y : Core). record { registers = set_general y.registers 1 (a % 2 ^ 64); memory = y.memory }) first ∙ ap (λ n. record { registers = set_general (set_general c.registers 1 v) 1 (n % 2 ^ 64); memory = c.memory }) same
      ∙ ap (λ (y : Registers). record { registers = y; memory = c.memory }) (put_twice c.registers v w) in
      (same_loaded L mi flags (λ r. address_by_base r (number_of reg) off) c t (low_below (pos (address_part c.registers (number_of reg)) +ℤ off)) e, w, e)

  -- a place, whose address is loaded where the rows have no form for it
  keeps_place : (m : MemArg) (flags : AccessFlags) (a : ℕ) → operand_address L m ≡ Some (λ r. a) → with_long_displacement mi m ≡ m → ((x y : Core) → KindMayExecute (instruction_kind L (LoadAddr scratch m)) x y → MayExecute (loads_address 1 a x.registers) x y) → (t : Bool) → (t ≡ true → a < 2 ^ 64) →
      Keeps L t (λ r. a) (with_widened mi (cond t (record { helpers = LoadAddr scratch m ∷ []; operand = BXD12 scratch no_register 0 flags }) (record { helpers = []; operand = m })))
  keeps_place m flags a here same loads false small c t e = (subst (λ o. IsSameAddress o t.registers (Some (λ r. a)) c.registers) (sym (ap (operand_address L) same ∙ here)) refl, 0, e)
  keeps_place m flags a here same loads true small c t h =
      let e = h.2 ∙ address_executes a c h.0 (loads c h.0 h.1) in
      (same_loaded L mi flags (λ r. a) c t (small refl) e, a % 2 ^ 64, e)

  -- a helper stands there
  loaded_here : (flags : AccessFlags) (m : MemArg) (t : Bool) → t ≡ true →
      is_helped (with_widened mi (cond t (record { helpers = LoadAddr scratch m ∷ []; operand = BXD12 scratch no_register 0 flags }) (record { helpers = []; operand = m }))).helpers ≡ true
  loaded_here flags m true e = refl
  loaded_here flags m false e = absurd (cc)

  pub helpers_keep : (m : MemArg) → IsAddressable L mi m → HelpersKeep L mi m
  helpers_keep (BXD12 base index d flags) b c t h =
      let zero = zero_test index (and_parts (is_general base) (is_general index) b.general).1 in
      subst (λ n. IsSameAddress (operand_address L (finalized_operand mi (BXD12 base index d flags)).operand) t.registers (operand_address L (BXD12 base index d flags)) c.registers × (v : ℕ) × (t ≡ loosen (not mi.have_index && not n) v c)) zero
      (keeps_12 base index d flags (not mi.have_index && not (is_numbered 0 index)) c t h)
  helpers_keep (BXD20 base index z flags) b c t h =
      let zero = zero_test index (and_parts (is_general base) (is_general index) b.general).1 in
      subst (λ n. IsSameAddress (operand_address L (finalized_operand mi (BXD20 base index z flags)).operand) t.registers (operand_address L (BXD20 base index z flags)) c.registers × (v : ℕ) × (t ≡ loosen (not mi.have_d20 || (not mi.have_index && not n)) v c)) zero
      (keeps_20 base index z flags (not mi.have_d20 || (not mi.have_index && not (is_numbered 0 index))) c t h)
  helpers_keep (RegOffset reg off flags) b c t h = go (fits_12 off) refl (fits_20 off) refl (fits_32 off) refl b.fits b.kept h
    where
      near : Bool → Bool → Bool → Finalized
      near t12 t20 t32 =
          cond t12 (record { helpers = []; operand = BXD12 reg no_register (unsigned_abs off) flags })
          (cond t20 (record { helpers = []; operand = BXD20 reg no_register off flags })
          (cond t32 (record { helpers = Mov64SImm32 scratch off ∷ []; operand = BXD12 reg scratch 0 flags }) (record { helpers = []; operand = RegOffset reg off flags })))

      Result : Bool → (Registers → ℕ) → Finalized → Type 0
      Result needs address f = IsSameAddress (operand_address L f.operand) t.registers (Some address) c.registers × (v : ℕ) × (t ≡ loosen needs v c)

      go : (t12 : Bool) → fits_12 off ≡ t12 → (t20 : Bool) → fits_20 off ≡ t20 → (t32 : Bool) → fits_32 off ≡ t32 → IsTrue t32 → (is_numbered 1 reg && (t32 && not t12 && not t20)) ≡ false →
          HelpersMayExecute L (with_widened mi (with_address_loaded mi (near t12 t20 t32))).helpers c t → Result (not t12 && not (t20 && mi.have_d20)) (λ r. address_by_base r (number_of reg) off) (with_widened mi (with_address_loaded mi (near t12 t20 t32)))
      go true e12 t20 e20 t32 e32 fits kept g =
          let n = short_12 off e12 in
          let is_pos : off ≡ pos (unsigned_abs off) = n.1 ∙ ap pos (sym (ap unsigned_abs n.1)) in
          let same : address_by_base c.registers (number_of reg) off ≡ address_by_index c.registers (number_of reg) 0 (pos (unsigned_abs off)) = ap (address_by_base c.registers (number_of reg)) is_pos ∙ sym (based_indexed c.registers (number_of reg) (pos (unsigned_abs off))) in
          let x = keeps_12 reg no_register (unsigned_abs off) flags (not mi.have_index && false) c t g in
          (same_other (operand_address L (with_widened mi (with_address_loaded mi (near true t20 t32))).operand) t.registers c.registers (λ r. address_by_index r (number_of reg) 0 (pos (unsigned_abs off))) (λ r. address_by_base r (number_of reg) off) (sym same) x.0, x.1, subst (λ n. t ≡ loosen n x.1 c) (and_right (not mi.have_index) false refl) x.2)
      go false e12 true e20 t32 e32 fits kept g =
          let x = keeps_20 reg no_register off flags (not mi.have_d20 || (not mi.have_index && false)) c t g in
          let needs : (not mi.have_d20 || (not mi.have_index && false)) ≡ not mi.have_d20 = ap (λ n. not mi.have_d20 || n) (and_right (not mi.have_index) false refl) ∙ or_false (not mi.have_d20) in
          (same_other (operand_address L (with_widened mi (with_address_loaded mi (near false true t32))).operand) t.registers c.registers (λ r. address_by_index r (number_of reg) 0 off) (λ r. address_by_base r (number_of reg) off) (based_indexed c.registers (number_of reg) off) x.0, x.1, subst (λ n. t ≡ loosen n x.1 c) needs x.2)
      go false e12 false e20 true e32 fits kept g =
          let z = short_32 off e32 in
          keeps_far reg off flags (not_scratch reg b.general (sym (and_true (is_numbered 1 reg)) ∙ kept)) z.0 z.1 (not mi.have_index && true) c t g
      go false e12 false e20 false e32 fits kept g = absurd (cc)
  helpers_keep (Label target) b c t h =
      keeps_place (Label target) (flags_of (Label target)) (block_address L target.0) refl refl (λ x y g. g) (not mi.have_pcrel) (λ e. sum_below L.image.base (L.offsets.block target.0)) c t h
  helpers_keep (Constant constant) b c t h =
      keeps_place (Constant constant) (flags_of (Constant constant)) (constant_address L constant.0) refl refl (λ x y g. g) (not mi.have_pcrel) (λ e. sum_below L.image.base (L.offsets.environment.constant constant.0)) c t h
  helpers_keep (Symbol name offset flags) b c t h =
      keeps_place (Symbol name offset flags) flags (L.offsets.environment.symbol_value name offset) refl refl (λ x y g. g) (not mi.have_pcrel || (not flags.aligned && not mi.have_unaligned_pcrel)) (λ e. b.address (loaded_here flags (Symbol name offset flags) _ e)) c t h
  helpers_keep m b c t h = absurd b.range

-- ---- what stands in the access

-- the rows take it, and its displacement lies in its range
Stands : MemInstType → MemArg → Type 0
Stands mi m = TakesOperand mi m × OperandInRange m

takes_index : (has none : Bool) (index : ℕ) → (not has && not none) ≡ false → (none ≡ true → index ≡ 0) → (has ≡ true) ⊎ (index ≡ 0)
takes_index true none index e zero = inl refl
takes_index false true index e zero = inr (zero refl)
takes_index false false index e zero = absurd (cc)

module _ (mi : MemInstType) where
  short_taken : (base index : Reg) (d : ℕ) (flags : AccessFlags) → (mi.have_d12 || mi.have_d20) ≡ true → TakesIndex mi index → d ≤ 4095 → Stands mi (with_long_displacement mi (BXD12 base index d flags))
  unfolding Stands
  short_taken base index d flags have may le = go mi.have_d12 mi.have_d20 refl refl have
    where
      go : (short long : Bool) → mi.have_d12 ≡ short → mi.have_d20 ≡ long → (short || long) ≡ true → Stands mi (cond (not mi.have_d12 && mi.have_d20) (BXD20 base index (pos d) flags) (BXD12 base index d flags))
      go true long e f h = subst (λ b. Stands mi (cond (not b && mi.have_d20) (BXD20 base index (pos d) flags) (BXD12 base index d flags))) (sym e) ((e, may), le)
      go false true e f h =
          subst (λ b. Stands mi (cond (not b && mi.have_d20) (BXD20 base index (pos d) flags) (BXD12 base index d flags))) (sym e)
          (subst (λ b. Stands mi (cond b (BXD20 base index (pos d) flags) (BXD12 base index d flags))) (sym f) ((f, may), (omega (arith, ints), omega (arith, le, ints))))
      go false false e f h = absurd (cc)

  loaded_taken : (flags : AccessFlags) → (mi.have_d12 || mi.have_d20) ≡ true → Stands mi (with_long_displacement mi (BXD12 scratch no_register 0 flags))
  loaded_taken flags have = short_taken scratch no_register 0 flags have (inr refl) (omega arith)

  taken_12 : (base index : Reg) (d : ℕ) (flags : AccessFlags) (helpers : List Inst) → (mi.have_d12 || mi.have_d20) ≡ true → IsTrue (is_general index) → d ≤ 4095 → (t : Bool) → (not mi.have_index && not (is_numbered 0 index)) ≡ t →
      Stands mi (with_widened mi (cond t (record { helpers = helpers; operand = BXD12 scratch no_register 0 flags }) (record { helpers = []; operand = BXD12 base index d flags }))).operand
  taken_12 base index d flags helpers have general le true e = loaded_taken flags have
  taken_12 base index d flags helpers have general le false e =
      short_taken base index d flags have (takes_index mi.have_index (is_numbered 0 index) (number_of index) e (λ z. eqb-true (number_of index) 0 (sym (zero_test index general) ∙ z))) le

  taken_20 : (base index : Reg) (z : ℤ) (flags : AccessFlags) (helpers : List Inst) → (mi.have_d12 || mi.have_d20) ≡ true → IsTrue (is_general index) → negsuc 524287 ≤ℤ z → z ≤ℤ pos 524287 → (t : Bool) → (not mi.have_d20 || (not mi.have_index && not (is_numbered 0 index))) ≡ t →
      Stands mi (with_widened mi (cond t (record { helpers = helpers; operand = BXD12 scratch no_register 0 flags }) (record { helpers = []; operand = BXD20 base index z flags }))).operand
  unfolding Stands
  taken_20 base index z flags helpers have general least most true e = loaded_taken flags have
  taken_20 base index z flags helpers have general least most false e =
      let p = or_parts (not mi.have_d20) (not mi.have_index && not (is_numbered 0 index)) e in
      ((not-false mi.have_d20 p.0, takes_index mi.have_index (is_numbered 0 index) (number_of index) p.1 (λ y. eqb-true (number_of index) 0 (sym (zero_test index general) ∙ y))), (least, most))

  -- a relative operand stands where the rows have that form
  taken_relative : (m : MemArg) (helpers : List Inst) (flags : AccessFlags) → with_long_displacement mi m ≡ m → (t : Bool) → (t ≡ false → Stands mi m) → (mi.have_d12 || mi.have_d20 || (true && not t)) ≡ true → Stands mi (with_widened mi (cond t (record { helpers = helpers; operand = BXD12 scratch no_register 0 flags }) (record { helpers = []; operand = m }))).operand
  taken_relative m helpers flags same true stands has = loaded_taken flags (sym (or_false (mi.have_d12 || mi.have_d20)) ∙ has)
  taken_relative m helpers flags same false stands has = subst (λ x. Stands mi x) (sym same) (stands refl)

  pub operand_taken : (m : MemArg) → IsTrue (has_form mi m) → IsTrue (operand_general m) → IsTrue (offset_fits m) → OperandInRange m → TakesOperand mi (finalized_operand mi m).operand × OperandInRange (finalized_operand mi m).operand
  unfolding Stands
  operand_taken (BXD12 base index d flags) has general fits range =
      taken_12 base index d flags (LoadAddr scratch (BXD12 base index d flags) ∷ []) (sym (or_false (mi.have_d12 || mi.have_d20)) ∙ has) (and_parts (is_general base) (is_general index) general).1 range (not mi.have_index && not (is_numbered 0 index)) refl
  operand_taken (BXD20 base index z flags) has general fits range =
      taken_20 base index z flags (LoadAddr scratch (BXD20 base index z flags) ∷ []) (sym (or_false (mi.have_d12 || mi.have_d20)) ∙ has) (and_parts (is_general base) (is_general index) general).1 range.0 range.1 (not mi.have_d20 || (not mi.have_index && not (is_numbered 0 index))) refl
  operand_taken (Label target) has general fits range = taken_relative (Label target) (LoadAddr scratch (Label target) ∷ []) trusted refl (not mi.have_pcrel) (λ e. (not-false mi.have_pcrel e, tt)) has
  operand_taken (Constant constant) has general fits range = taken_relative (Constant constant) (LoadAddr scratch (Constant constant) ∷ []) trusted refl (not mi.have_pcrel) (λ e. (not-false mi.have_pcrel e, tt)) has
  operand_taken (Symbol name offset flags) has general fits range =
      taken_relative (Symbol name offset flags) (LoadAddr scratch (Symbol name offset flags) ∷ []) flags refl (not mi.have_pcrel || (not flags.aligned && not mi.have_unaligned_pcrel)) (λ e.
      let p = or_parts (not mi.have_pcrel) (not flags.aligned && not mi.have_unaligned_pcrel) e in
      ((not-false mi.have_pcrel p.0, one_of flags.aligned mi.have_unaligned_pcrel p.1), tt)) has
    where
      one_of : (a b : Bool) → (not a && not b) ≡ false → (a ≡ true) ⊎ (b ≡ true)
      one_of true b e = inl refl
      one_of false true e = inr refl
      one_of false false e = absurd (cc)
  operand_taken (RegOffset reg off flags) has general fits range = go (fits_12 off) refl (fits_20 off) refl (fits_32 off) fits
    where
      have : (mi.have_d12 || mi.have_d20) ≡ true
      have = sym (or_false (mi.have_d12 || mi.have_d20)) ∙ has

      near : Bool → Bool → Bool → Finalized
      near t12 t20 t32 =
          cond t12 (record { helpers = []; operand = BXD12 reg no_register (unsigned_abs off) flags })
          (cond t20 (record { helpers = []; operand = BXD20 reg no_register off flags })
          (cond t32 (record { helpers = Mov64SImm32 scratch off ∷ []; operand = BXD12 reg scratch 0 flags }) (record { helpers = []; operand = RegOffset reg off flags })))

      far : (t : Bool) → (not mi.have_index && true) ≡ t → Stands mi (with_widened mi (cond t (record { helpers = Mov64SImm32 scratch off ∷ LoadAddr scratch (BXD12 reg scratch 0 flags) ∷ []; operand = BXD12 scratch no_register 0 flags }) (record { helpers = Mov64SImm32 scratch off ∷ []; operand = BXD12 reg scratch 0 flags }))).operand
      far true e = loaded_taken flags have
      far false e = short_taken reg scratch 0 flags have (takes_index mi.have_index false 1 e (λ z. absurd (cc))) (omega arith)

      go : (t12 : Bool) → fits_12 off ≡ t12 → (t20 : Bool) → fits_20 off ≡ t20 → (t32 : Bool) → IsTrue t32 → Stands mi (with_widened mi (with_address_loaded mi (near t12 t20 t32))).operand
      go true e12 t20 e20 t32 h =
          let n = short_12 off e12 in
          let le : unsigned_abs off ≤ 4095 = omega (arith, ap unsigned_abs n.1, n.2) in
          taken_12 reg no_register (unsigned_abs off) flags (LoadAddr scratch (BXD12 reg no_register (unsigned_abs off) flags) ∷ []) have refl le (not mi.have_index && false) refl
      go false e12 true e20 t32 h =
          let z = short_20 off e20 in
          taken_20 reg no_register off flags (LoadAddr scratch (BXD20 reg no_register off flags) ∷ []) have refl z.0 z.1 (not mi.have_d20 || (not mi.have_index && false)) refl
      go false e12 false e20 true h = far (not mi.have_index && true) refl
      go false e12 false e20 false h = absurd (cc)
  operand_taken (InitialSPOffset off) has general fits range = absurd range
  operand_taken m has general fits range = absurd range
