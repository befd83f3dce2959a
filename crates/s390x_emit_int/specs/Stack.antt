-- The stack sizes along a list of instructions.
use Rattle.std.specs.Prelude.{ℕ, List, [], ◌∷◌}
use Rattle.s390x_inst.specs.declared.inst.Inst.{Inst}
use Rattle.s390x_typed_steps.specs.Stack.{outgoing_after}

-- the outgoing size behind instructions
abbrev pub outgoing_behind_all : (outgoing : ℕ) → List Inst → ℕ
outgoing_behind_all outgoing [] = outgoing
outgoing_behind_all outgoing (i ∷ is) = outgoing_behind_all (outgoing_after outgoing i) is
