-- How many steps an instruction is, of those of a finished code.
use Rattle.std.specs.Prelude.{ℕ, ◌+◌, cond, is_some, List, [], ◌∷◌}
use Rattle.s390x_inst.specs.Emission.{Emission}
use Rattle.s390x_inst.specs.declared.calls.CallInfo.{CallInfo}
use Rattle.s390x_inst.specs.declared.calls.CallRetPair.{CallRetPair}
use Rattle.s390x_inst.specs.declared.calls.RetLocation.{RetLocation}
use Rattle.s390x_inst.specs.declared.calls.RetLocation.TheVariants.{Stack}
use Rattle.s390x_inst.specs.declared.inst.Inst.{Inst}
use Rattle.s390x_typed_steps.specs.Steps.{step_count}
use Rattle.s390x_typed_steps.specs.Tree.{empty, prepend}

-- the steps of an instruction in a state of emission, those of a loop's members too
abbrev pub steps_of : Emission → Inst → ℕ
steps_of e i = step_count (prepend e i empty)

-- those of several in one state, which counts no other way in the states behind them
abbrev pub steps_of_all : Emission → List Inst → ℕ
steps_of_all e [] = 0
steps_of_all e (i ∷ is) = steps_of e i + steps_of_all e is

-- a result that comes back on the stack is a load
abbrev pub load_count : RetLocation → ℕ
load_count (Stack off ty) = 1
load_count _ = 0

abbrev pub loads_count : List CallRetPair → ℕ
loads_count [] = 0
loads_count (d ∷ ds) = load_count d.location + loads_count ds

-- a call, the loads of its results unless it may be patched, and the jump of its try
abbrev pub call_count : CallInfo → ℕ
call_count info = 1 + (cond info.patchable 0 (loads_count info.defs.items) + cond (is_some info.try_call_info) 1 0)
