-- What the look-up of an instruction that is one machine instruction answers: its code, or that its operands may not stand there.
use Rattle.std.specs.Prelude.{ℕ, Bool, cond, List, Option, Some, None, Result, Ok, Err}
use Rattle.s390x_base.specs.declared.error.EmitError.{EmitError}
use Rattle.s390x_base.specs.declared.error.EmitError.TheVariants.{BadRegister}
use Rattle.s390x_typed_steps.specs.MachineInstruction.{MachineInstruction, bytes_of}
use Rattle.s390x_typed_steps.specs.SingleInstruction.{SingleInstruction}

-- the bytes of a machine instruction where its operands may stand there, else the refusal
unfoldable pub code_where : (operands_valid : Bool) → MachineInstruction → Result (List ℕ) EmitError
code_where operands_valid row = cond operands_valid (Ok (bytes_of row)) (Err BadRegister)

-- the bytes of an instruction that is one machine instruction, or its refusal; none where it isn't one
abbrev pub single_code : Option SingleInstruction → Option (Result (List ℕ) EmitError)
single_code None = None
single_code (Some x) = Some (code_where x.operands_valid x.row)
