-- The first cause by which emission refuses a function, and where it stands.
use Rattle.std.specs.Prelude.{◌≡◌, ℕ, ◌+◌, ◌<◌, List, [], ◌∷◌, take, map, length, get_or, nat_eq, Option, Some, None}
use Rattle.s390x_base.specs.declared.error.EmitError.{EmitError}
use Rattle.s390x_base.specs.declared.error.EmitError.TheVariants.{BadStackState}
use Rattle.s390x_buffer.specs.State.{new_cause}
use Rattle.s390x_inst.specs.Emission.{Emission}
use Rattle.s390x_inst.specs.declared.function.AllocatedFunction.{AllocatedFunction}
use Rattle.s390x_inst.specs.declared.function.Block.{Block}
use Rattle.s390x_inst.specs.declared.inst.Inst.{Inst}
use Rattle.s390x_inst.specs.declared.state.IsaFlags.{IsaFlags}
use Rattle.s390x_typed_steps.specs.Causes.{Declared, blocks_cause, declared_of, first_emit_cause, fresh_labels, nominal_behind, unless}
use Rattle.s390x_typed_steps.specs.Tree.{Tree}
use Rattle.s390x_emit_int.specs.Function.{code_length_cause, constants_of, function_cause, start_cause, trees_of}
use Rattle.s390x_emit_int.specs.Members.{block_members_of}
use Rattle.s390x_refusal.specs.Members.{IsRefusedAmong, Point, members_cause}
use Rattle.s390x_refusal.specs.declared.position.Position.{Position}
use Rattle.s390x_refusal.specs.declared.position.Position.TheVariants.{Start, Instruction, BlockEnd, Length}
use Rattle.s390x_refusal.specs.declared.position.Refusal.{Refusal}

-- the first cause by which emission refuses a function
abbrev pub emission_cause : IsaFlags → Emission → AllocatedFunction → Option EmitError
emission_cause flags e f = function_cause flags (trees_of flags e f) (constants_of f) e

-- the first cause before the blocks
abbrev pub opening_cause : Emission → AllocatedFunction → Option EmitError
opening_cause e f = first_emit_cause (start_cause e) (new_cause (length f.blocks.items) (constants_of f))

-- what its instructions may name
abbrev pub declared_by : IsaFlags → Emission → AllocatedFunction → Declared
declared_by flags e f = declared_of (trees_of flags e f) (constants_of f)

-- how many labels are in use before the blocks
abbrev pub first_labels : AllocatedFunction → ℕ
first_labels f = length f.blocks.items + length (constants_of f)

-- and behind some of them
abbrev pub labels_behind : (n : ℕ) → List Tree → ℕ
labels_behind n [] = n
labels_behind n (t ∷ ts) = labels_behind (n + fresh_labels t) ts

-- the instructions of block number b
abbrev pub block_insts : AllocatedFunction → (b : ℕ) → List Inst
block_insts f b = get_or (map (λ (v : Block). v.insts.items) f.blocks.items) b []

-- where block number b begins
abbrev pub block_point : IsaFlags → Emission → AllocatedFunction → (b : ℕ) → Point
block_point flags e f b = record { state = e; labels = labels_behind (first_labels f) (take b (trees_of flags e f)); depth = 0 }

-- the function isn't refused before its blocks, there is a block number b, and none before it has a cause
pub record IsBlockReached (flags : IsaFlags) (e : Emission) (f : AllocatedFunction) (b : ℕ) : Type 0 where
  pub opening : opening_cause e f ≡ None
  pub there : b < length f.blocks.items
  pub before : blocks_cause flags (declared_by flags e f) (first_labels f) (take b (trees_of flags e f)) ≡ None

-- a cause at the end of members: their arguments are still allocated
abbrev pub ending_cause : IsaFlags → Point → List Inst → Option EmitError
ending_cause flags p is = unless (nat_eq (nominal_behind p.state.nominal (block_members_of flags p.state is)) 0) BadStackState

-- this error's cause stands at this place, and nothing before it has one
abbrev pub IsRefusedBy : IsaFlags → Emission → AllocatedFunction → EmitError → Position → Type 0
IsRefusedBy flags e f error Start = opening_cause e f ≡ Some error
IsRefusedBy flags e f error (Instruction b path) =
    IsBlockReached flags e f b × IsRefusedAmong flags (declared_by flags e f) (block_point flags e f b) (block_insts f b) error path.items
IsRefusedBy flags e f error (BlockEnd b) =
    IsBlockReached flags e f b
    × (members_cause flags (declared_by flags e f) (block_point flags e f b) (block_insts f b) ≡ None)
    × (ending_cause flags (block_point flags e f b) (block_insts f b) ≡ Some error)
IsRefusedBy flags e f error Length =
    (opening_cause e f ≡ None)
    × (blocks_cause flags (declared_by flags e f) (first_labels f) (trees_of flags e f) ≡ None)
    × (code_length_cause (trees_of flags e f) (constants_of f) ≡ Some error)

-- emission refuses nothing; or it refuses the function by this error, whose cause stands at this place, and nothing before it has one
abbrev pub IsFirstRefusal : IsaFlags → Emission → AllocatedFunction → Option Refusal → Type 0
IsFirstRefusal flags e f None = emission_cause flags e f ≡ None
IsFirstRefusal flags e f (Some r) = (emission_cause flags e f ≡ Some r.error) × IsRefusedBy flags e f r.error r.position
