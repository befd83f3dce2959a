-- What emission knows of an instruction by its variant, and by the operator of an `AluRRR`.
use Rattle.std.specs.Prelude.{◌≡◌, ℕ, None}
use Rattle.s390x_inst.specs.Facilities.{facility_of}
use Rattle.s390x_inst.specs.declared.facility.InstructionSet.TheVariants.{Base}
use Rattle.s390x_inst.specs.declared.inst.Inst.{Inst}
use Rattle.s390x_typed_steps.specs.Causes.{instruction_fresh_labels, stack_cause}
use Rattle.s390x_typed_steps.specs.Memory.{memory}
use Rattle.s390x_typed_steps.specs.SingleInstruction.{single_instruction, stop_code}

-- it needs no facility, draws no label, and isn't one machine instruction
abbrev pub IsPlain : Inst → Type 0
IsPlain i = (facility_of i ≡ Base) × (instruction_fresh_labels i ≡ 0) × (None ≡ single_instruction i)

-- it needs no facility, draws no label, leaves the stack sizes alone, has no memory operand, and its stop has no code
abbrev pub IsRegister : Inst → Type 0
IsRegister i = (facility_of i ≡ Base) × (instruction_fresh_labels i ≡ 0) × ((nominal depth : ℕ) → stack_cause nominal depth i ≡ None) × (None ≡ memory i) × (None ≡ stop_code i)
