-- How many bytes the end of a block takes off its last instruction.
use Rattle.std.specs.Prelude.{ℕ, ◌+◌, List, [], ◌∷◌, Option, Some, None, cond, nat_eq}
use Rattle.s390x_inst.specs.declared.calls.TryCallInfo.{TryCallInfo}
use Rattle.s390x_inst.specs.declared.inst.Inst.{Inst}
use Rattle.s390x_inst.specs.declared.inst.Inst.TheVariants.{Jump, CondBr, Call}

-- a branch to the next block, where there is one, has six
abbrev pub bytes_to : (next : Option ℕ) → (block : ℕ) → ℕ
bytes_to None b = 0
bytes_to (Some next) b = cond (nat_eq b next) 6 0

-- so has the jump of a call with a try
abbrev pub continuation_bytes : Option ℕ → Option TryCallInfo → ℕ
continuation_bytes next None = 0
continuation_bytes next (Some t) = bytes_to next t.continuation.0

abbrev pub instruction_bytes : Option ℕ → Inst → ℕ
instruction_bytes next (Jump dest) = bytes_to next dest.0
instruction_bytes next (CondBr taken not_taken mask) = bytes_to next taken.0 + bytes_to next not_taken.0
instruction_bytes next (Call link info) = continuation_bytes next info.try_call_info
instruction_bytes next _ = 0

-- those of the last one
abbrev pub last_bytes : Option ℕ → List Inst → ℕ
last_bytes next [] = 0
last_bytes next (i ∷ []) = instruction_bytes next i
last_bytes next (i ∷ (j ∷ is)) = last_bytes next (j ∷ is)
