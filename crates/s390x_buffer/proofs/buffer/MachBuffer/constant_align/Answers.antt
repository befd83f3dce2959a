use Rattle.std.proofs.Common.{ap}
use Rattle.s390x_buffer.specs.State.{BufferState}
use Rattle.s390x_buffer.proofs.Declared.{align-some, align-none}
use Rattle.s390x_buffer.proofs.buffer.MachBuffer.constant_align.Goals as goal

pub returns-in-Some : goal.returns-in-Some
returns-in-Some c =
    let h = c.in-Some.ensures.lookup in
    align-some c.args.self.now c.self.inside.constants.items c.deref.result.now c.args.constant.0 c.in-Some.c.now (ap (λ (s : BufferState). s.constants) c.self.view_is) c.deref.ensures.value h.3.0 h.1

pub returns-in-None : goal.returns-in-None
returns-in-None c =
    let h = c.in-None.ensures.lookup in
    align-none c.args.self.now c.self.inside.constants.items c.deref.result.now c.args.constant.0 (ap (λ (s : BufferState). s.constants) c.self.view_is) c.deref.ensures.value h.3
