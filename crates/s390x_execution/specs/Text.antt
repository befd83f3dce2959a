-- The text of an execution: how many steps went, how it ended, and the state then.
use Rattle.std.specs.Prelude.{◌≡◌, ℕ, zero, suc, List, [], ◌∷◌, ◌++◌, map, length, codes, Option, Some, None, ◌<◌, Bool, IsTrue}
use Rattle.std.specs.Fmt.{decimal}
use Rattle.s390x_base.specs.declared.trap.TrapKind.{TrapKind}
use Rattle.s390x_buffer.specs.declared.entries.MachBufferFinalized.{MachBufferFinalized}
use Rattle.s390x_operations.specs.State.{Registers, Memory, State, bytes_at, wrapping_add64}
use Rattle.s390x_operations.specs.Effects.{number_of_code}
use Rattle.s390x_operations.specs.declared.stop.StopKind.{StopKind}
use Rattle.s390x_operations.specs.declared.stop.StopKind.TheVariants as stop
use Rattle.s390x_machine.specs.Codes.{trap_code_at}
use Rattle.s390x_job_fields.specs.Atoms.{trap_text}
use Rattle.s390x_job_fields.specs.Numbers.{W64}
use Rattle.s390x_job_fields.specs.Fields.{FNatural, FBytes}
use Rattle.s390x_job_lines.specs.Line.{Line}
use Rattle.s390x_job_lines.specs.declared.name.LineName.TheVariants as N
use Rattle.s390x_job.specs.Jobs.{lines_text, registers_lines}
use Rattle.s390x_job.specs.declared.job.Job.{Job}
use Rattle.s390x_job.specs.declared.job.MemLine.{MemLine}
use Rattle.s390x_job.specs.declared.job.StartRegs.{StartRegs}
use Rattle.s390x_execution.specs.Execution.{IsExecution}
use Rattle.s390x_execution.specs.Start.{start_state}
use Rattle.s390x_execution.specs.declared.execution.End.{End}
use Rattle.s390x_execution.specs.declared.execution.End.TheVariants.{Limit, Stopped, NoRow}
use Rattle.s390x_execution.specs.declared.execution.Execution.{Execution}

-- `went W`
abbrev pub went_line : ℕ → List ℕ
went_line went = codes "went " ++ (decimal went ++ 10 ∷ [])

-- the name of a kind of stop
abbrev pub stop_kind_text : StopKind → List ℕ
stop_kind_text stop.Operation = codes "Operation"
stop_kind_text stop.Access = codes "Access"
stop_kind_text stop.Specification = codes "Specification"
stop_kind_text stop.Divide = codes "Divide"
stop_kind_text stop.CompareTrap = codes "CompareTrap"

-- a trap code by its name, `-` for none
abbrev pub code_text : Option TrapKind → List ℕ
code_text None = codes "-"
code_text (Some code) = trap_text code

-- `limit`, `stop KIND PLACE CODE` or `norow PLACE`
abbrev pub execution_end_line : ℕ → MachBufferFinalized → End → List ℕ
execution_end_line base code Limit = codes "limit" ++ 10 ∷ []
execution_end_line base code (Stopped kind address) = codes "stop " ++ (stop_kind_text kind ++ (32 ∷ (decimal address ++ (32 ∷ (code_text (trap_code_at (record { base = base; bytes = code.bytes.items }) code.traps.items address kind) ++ 10 ∷ [])))))
execution_end_line base code (NoRow address) = codes "norow " ++ (decimal address ++ 10 ∷ [])

-- `place P`
abbrev pub address_line : ℕ → List ℕ
address_line address = codes "place " ++ (decimal address ++ 10 ∷ [])

-- `cc C`
abbrev pub condition_line : Registers → List ℕ
condition_line r = codes "cc " ++ (decimal (number_of_code r.code) ++ 10 ∷ [])

-- the values of n registers from number i on
abbrev pub values_between : (ℕ → ℕ) → ℕ → ℕ → List ℕ
values_between value i zero = []
values_between value i (suc n) = value i ∷ values_between value (suc i) n

-- what the 16 general and the 32 vector registers hold
abbrev pub registers_held : Registers → StartRegs
registers_held r = record { general = values_between r.general 0 16; vector = values_between r.vector 0 32 }

-- `mem ADDRESS HEX`, the bytes of a region as a memory holds them
abbrev pub region_line : Memory → MemLine → Line
region_line m r = record { name = N.MemoryLine; fields = FNatural W64 r.address ∷ FBytes (bytes_at m.get r.address (length r.bytes.items)) ∷ [] }

-- each byte of the regions is accessible
abbrev pub AllHeld : (ℕ → Bool) → List MemLine → Type 0
AllHeld has [] = Unit {0}
AllHeld has (r ∷ rs) = ((i : ℕ) → i < length r.bytes.items → IsTrue (has (wrapping_add64 r.address i))) × AllHeld has rs

-- the place and the condition code
abbrev pub status_lines : State → List ℕ
status_lines t = address_line t.address ++ condition_line t.core.registers

-- the lines of the registers that aren't zero, and of regions, as in the text of a job
abbrev pub content_lines : List MemLine → State → List Line
content_lines regions t = registers_lines (registers_held t.core.registers) ++ map (region_line t.core.memory) regions

-- the text of an execution of code at a base that ended in a state
abbrev pub execution_text : ℕ → MachBufferFinalized → List MemLine → Execution → State → List ℕ
execution_text base code regions e t =
    went_line e.went ++ (execution_end_line base code e.end ++ (status_lines t ++ lines_text (content_lines regions t)))

-- the text of an execution of a job's image at a base, by at most so many steps
pub record IsRunText (base steps : ℕ) (j : Job) (code : MachBufferFinalized) (image text : List ℕ) : Type 0 where
  pub execution : Execution
  pub last : State
  pub is : IsExecution steps (start_state j.registers j.memory.items base image) last execution
  pub spelled : text ≡ execution_text base code j.memory.items execution last
