-- A simulator as contracts see it.
use Rattle.s390x_machine.specs.Regions.{is_held, byte_of}
use Rattle.s390x_machine.specs.State.{memory_of}
use Rattle.s390x_smp.specs.declared.smp.Smp.{Smp}
use Rattle.s390x_smp.specs.Simulation.{Simulation}

-- the machines over one memory, what each adds, and the counts
abbrev pub simulation : Smp → Simulation
simulation s = record {
  base = s.base;
  word = s.word;
  addends = s.addends.items;
  machines = s.machines.items;
  memory = memory_of (is_held s.memory) (byte_of s.memory);
  stores = s.stores.items;
}
