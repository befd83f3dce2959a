-- The opcode of a row on one element in memory.
use Rattle.std.specs.Prelude.{ℕ}
use Rattle.s390x_typed_steps.specs.Memory.{load_lane_opcode, load_reversed_opcode, store_lane_opcode, store_reversed_opcode}
use Rattle.s390x_emit_vec.specs.declared.memory.LaneAccess.{LaneAccess}
use Rattle.s390x_emit_vec.specs.declared.memory.LaneAccess.TheVariants.{Load, LoadReversed, Store, StoreReversed}

-- by the code of the element's size
abbrev pub lane_opcode : LaneAccess → ℕ → ℕ
lane_opcode Load = load_lane_opcode
lane_opcode LoadReversed = load_reversed_opcode
lane_opcode Store = store_lane_opcode
lane_opcode StoreReversed = store_reversed_opcode
