use Rattle.s390x_machine.specs.State.{memory_of}
use Rattle.s390x_schedule.proofs.Worlds.{stepped, stepped_world}
use Rattle.s390x_schedule.proofs.schedule.step_one.Goals as goal

pub returns-clause-steps : goal.returns-clause-steps
returns-clause-steps g c =
    stepped c.args.machines.now (memory_of (g.M.Memory.held c.args.memory.now) (g.M.Memory.byte c.args.memory.now)) (memory_of (g.M.Memory.held c.step.new.memory) (g.M.Memory.byte c.step.new.memory)) c.args.number c.index-machines-number.result c.step.new.self c.step.result c.requires c.step.ensures

pub returns-clause-world : goal.returns-clause-world
returns-clause-world g c = stepped_world c.args.machines.now (memory_of (g.M.Memory.held c.args.memory.now) (g.M.Memory.byte c.args.memory.now)) (memory_of (g.M.Memory.held c.step.new.memory) (g.M.Memory.byte c.step.new.memory)) c.args.number c.step.new.self c.requires
