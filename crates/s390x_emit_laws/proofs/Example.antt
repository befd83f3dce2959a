-- The jump stands where its layout says, and each instruction where `emit` appends it.
use Rattle.std.proofs.Common.{◌≡◌, ℕ, zero, suc, ◌<◌, ◌≤◌, ◌^◌, List, [], ◌∷◌, length, Some, Vec, Global, refl, subst, arith, slice_get}
use Rattle.s390x_base.specs.declared.ir.MachLabel.{MachLabel}
use Rattle.s390x_format.specs.Formats.{layout_of, length_of}
use Rattle.s390x_format.specs.Layout.{bits, number}
use Rattle.s390x_format.specs.Reading.{be_bytes}
use Rattle.s390x_typed_steps.specs.Steps.{Step, Plain, function_steps}
use Rattle.s390x_machine.specs.CodeAt.{CodeAt, ImageAt, IsPlace, PartsReach}
use Rattle.s390x_inst.specs.Emission.{Emission}
use Rattle.s390x_inst.specs.declared.inst.Inst.TheVariants.{Jump}
use Rattle.s390x_typed_steps.specs.Image.{step_offset}
use Rattle.s390x_typed_steps.specs.Parts.{step_parts}
use Rattle.s390x_emit_laws.specs.Alone.{IsAppended, StandAsBound, StandsAlone, alone, emitted_buffer, layout_alone}
use Rattle.s390x_emit_laws.specs.Behind.{StandsBehind, layout_behind, places}
use Rattle.s390x_emit_laws.specs.Example.{AdditionStands, JumpIsAppended, LoadIsAppended, TableIsAppended, load, load_image, buffer_with_block, table_image, table_jump, table_labels, addition, addition_image, base_machine, used_buffer, JumpStands, jump, layout}

code_there : CodeAt layout 0 jump
unfolding number bits layout_of length_of be_bytes
code_there = record {
  earlier = 0x00 ∷ 0x01 ∷ 0x02 ∷ 0x03 ∷ [];
  later = [];
  offset = refl;
  bytes = refl;
  size = refl;
  traps = λ offset above below. refl;
  valid = omega arith;
  folded = tt;
  reached = (tt, tt);
}

steps_there : (j : ℕ) → j ≤ 1 → IsPlace (layout.offsets.step j)
steps_there zero le = (refl, omega arith)
steps_there (suc zero) le = (refl, omega arith)
steps_there (suc (suc j)) le = absurd (omega (arith, le))

image_there : ImageAt layout
image_there = record {
  even = refl;
  fits = omega arith;
  short = omega arith;
  step_places = steps_there;
  block_places = λ b lt. (refl, omega arith);
  blocks = λ b lt. refl;
}

pub jump_stands : JumpStands
jump_stands = record { image = image_there; at = refl; code = code_there; constants = λ c lt names. absurd names }

-- ---- the addition

module _ (off : ℕ → ℕ) (e : Emission) where
  addition_appended : IsAppended off base_machine e used_buffer addition
  unfolding length_of
  addition_appended = record {
    valid = refl;
    labels = λ l above below. absurd (omega (arith, below));
    within = tt;
  }

  reaches_none : (k : ℕ) (x : Step) → slice_get (function_steps (alone base_machine e addition)) k ≡ Some x → PartsReach (layout_alone off base_machine e used_buffer addition addition_image) (step_offset (function_steps (alone base_machine e addition)) k) (step_parts x)
  reaches_none zero x at = let same : Plain addition ≡ x = cc in subst (λ y. PartsReach (layout_alone off base_machine e used_buffer addition addition_image) (step_offset (function_steps (alone base_machine e addition)) zero) (step_parts y)) same (tt, tt)
  reaches_none (suc k) x at = absurd (cc)

  addition_alone : StandsAlone off base_machine e used_buffer addition addition_image
  unfolding number bits layout_of length_of be_bytes
  addition_alone = record {
    no_block = ((tt, tt), tt);
    constants = λ c lt. absurd (omega (arith, lt));
    later = [];
    bytes = refl;
    even = refl;
    fits = omega arith;
    short = omega arith;
    labels_in_use = 0;
    checked = refl;
    ranges = (((tt, tt), tt), tt);
    reached = reaches_none;
    stand = λ c lt. absurd (omega (arith, lt));
  }

pub addition_stands : AdditionStands
addition_stands off e = (addition_appended off e, addition_alone off e)

-- ---- the jump, as it is appended

module _ (e : Emission) where
  jump_appended : IsAppended (λ l. 0) base_machine e buffer_with_block (Jump (record { 0 = 0 }))
  unfolding length_of
  jump_appended = record {
    valid = refl;
    labels = λ l above below. absurd (omega (arith, above, below));
    within = tt;
  }

  jump_behind : StandsBehind (λ l. 0) base_machine e buffer_with_block (Jump (record { 0 = 0 })) layout.image
  unfolding number bits layout_of length_of be_bytes
  jump_behind = record {
    ranges = (((tt, tt), tt), tt);
    later = [];
    bytes = refl;
    even = refl;
    fits = omega arith;
    short = omega arith;
    place = refl;
    blocks = λ b lt. (refl, omega arith);
    constants = λ k x at c lt names. absurd (omega (arith, lt));
    reached = jump_reaches;
  }
    where
      jump_reaches : (k : ℕ) (x : Step) → slice_get (jump ∷ []) k ≡ Some x → PartsReach (layout_behind (λ l. 0) base_machine e buffer_with_block (Jump (record { 0 = 0 })) layout.image) (places (λ l. 0) 4 (jump ∷ []) k) (step_parts x)
      jump_reaches zero x at = let same : jump ≡ x = cc in subst (λ y. PartsReach (layout_behind (λ l. 0) base_machine e buffer_with_block (Jump (record { 0 = 0 })) layout.image) 4 (step_parts y)) same (tt, tt)
      jump_reaches (suc k) x at = absurd (cc)

pub jump_is_appended : JumpIsAppended
jump_is_appended e = (jump_appended e, jump_behind e)

-- ---- the load, as it is appended

module _ (e : Emission) where
  load_appended : IsAppended (λ l. 0) base_machine e buffer_with_block load
  unfolding length_of
  load_appended = record {
    valid = refl;
    labels = λ l above below. absurd (omega (arith, above, below));
    within = tt;
  }

  load_behind : StandsBehind (λ l. 0) base_machine e buffer_with_block load load_image
  unfolding number bits layout_of length_of be_bytes
  load_behind = record {
    ranges = (((tt, tt), tt), tt);
    later = [];
    bytes = refl;
    even = refl;
    fits = omega arith;
    short = omega arith;
    place = refl;
    blocks = λ b lt. (refl, omega arith);
    constants = λ k x at c lt names. absurd (omega (arith, lt));
    reached = load_reaches;
  }
    where
      load_reaches : (k : ℕ) (x : Step) → slice_get (Plain load ∷ []) k ≡ Some x → PartsReach (layout_behind (λ l. 0) base_machine e buffer_with_block load load_image) (places (λ l. 0) 4 (Plain load ∷ []) k) (step_parts x)
      load_reaches zero x at = let same : Plain load ≡ x = cc in subst (λ y. PartsReach (layout_behind (λ l. 0) base_machine e buffer_with_block load load_image) 4 (step_parts y)) same (tt, tt)
      load_reaches (suc k) x at = absurd (cc)

pub load_is_appended : LoadIsAppended
load_is_appended e = (load_appended e, load_behind e)

-- ---- the jump by a table

-- a vector of these
vec : {X : Type 0} (items : List X) → length items < 2 ^ 63 → Vec X Global
vec items small = record { ptr = denote.RawPtr.null_ptr; len = length items; cap = length items; alloc = record { memory = record { seal = tt } }; items = items; ok = (refl, omega arith); small = small }

one_target : Vec MachLabel Global
one_target = vec (record { 0 = 0 } ∷ []) (omega arith)

module _ (e : Emission) where
  table_labels_bound : StandAsBound table_labels 1 (emitted_buffer base_machine e buffer_with_block (table_jump one_target))
  unfolding number bits layout_of length_of be_bytes vec one_target
  table_labels_bound zero above below = absurd (omega (arith, above))
  table_labels_bound (suc zero) above below = refl
  table_labels_bound (suc (suc l)) above below = absurd (omega (arith, below))

  table_appended : IsAppended table_labels base_machine e buffer_with_block (table_jump one_target)
  unfolding length_of vec one_target
  table_appended = record {
    valid = refl;
    labels = table_labels_bound;
    within = tt;
  }

  table_behind : StandsBehind table_labels base_machine e buffer_with_block (table_jump one_target) table_image
  unfolding number bits layout_of length_of be_bytes vec one_target
  table_behind = record {
    ranges = ((((omega arith, omega arith), tt), tt), tt);
    later = [];
    bytes = refl;
    even = refl;
    fits = omega arith;
    short = omega arith;
    place = refl;
    blocks = block_place;
    constants = λ k x at c lt names. absurd (omega (arith, lt));
    reached = table_reaches;
  }
    where
      table_reaches : (k : ℕ) (x : Step) → slice_get (Plain (table_jump one_target) ∷ []) k ≡ Some x → PartsReach (layout_behind table_labels base_machine e buffer_with_block (table_jump one_target) table_image) (places table_labels 4 (Plain (table_jump one_target) ∷ []) k) (step_parts x)
      table_reaches zero x at =
          let same : Plain (table_jump one_target) ≡ x = cc in
          subst (λ y. PartsReach (layout_behind table_labels base_machine e buffer_with_block (table_jump one_target) table_image) 4 (step_parts y)) same (tt, (tt, (tt, (tt, (tt, tt)))))
      table_reaches (suc k) x at = absurd (cc)

      block_place : (b : ℕ) → b < 1 → IsPlace (table_labels b)
      block_place zero lt = (refl, omega arith)
      block_place (suc b) lt = absurd (omega (arith, lt))

pub table_is_appended : TableIsAppended
unfolding vec one_target
table_is_appended = record { targets = one_target; block = refl; appended = table_appended; stands = table_behind }
