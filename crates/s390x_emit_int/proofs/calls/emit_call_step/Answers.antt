use Rattle.s390x_emit_int.proofs.CallSites.{call_passed}
use Rattle.s390x_emit_int.proofs.calls.emit_call_step.Goals as goal

pub returns-in-None-clause-only_memory : goal.returns-in-None-clause-only_memory
returns-in-None-clause-only_memory c = λ after p.
    let q = call_passed c.args.sink.now after c.args.depth c.args.state.now c.args.link.now c.args.info.now p in
    c.put_call_step.ensures.only_memory c.args.sink.now.block_count q.put q.blocks q.links q.target q.labels
