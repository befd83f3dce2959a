-- An access whose row the machine lacks.
use Rattle.std.specs.Prelude.{cond, ◌&&◌, Option, None}
use Rattle.s390x_inst.specs.declared.inst.Inst.{Inst}
use Rattle.s390x_inst.specs.declared.state.IsaFlags.{IsaFlags}
use Rattle.s390x_typed_steps.specs.Memory.{MemoryInstruction, memory, loaded_memory, accesses_relative}

-- the access by its other rows, where the machine lacks the one that is relative to the instruction
abbrev pub loaded_for : IsaFlags → Inst → Option MemoryInstruction
loaded_for flags i = cond (accesses_relative (memory i) && flags.no_relative_memory) (loaded_memory i) None
