use Rattle.std.proofs.Common.{◌∙◌, ap, drop, length, sym}
use Rattle.s390x_inst.specs.declared.inst.Inst.{Inst}
use Rattle.s390x_typed_steps.specs.Calls.{bodies}
use Rattle.s390x_binary_tool.proofs.Counting.{call_length}
use Rattle.s390x_binary_tool.proofs.inst_steps.behind_leaf.Goals as goal

pub returns-in-Call : goal.returns-in-Call
returns-in-Call c =
    c.behind_call.ensures ∙ ap (λ n. drop n c.args.starts.now) (sym (ap (λ (i : Inst). length (bodies c.args.state.now i)) c.in-Call.is ∙ call_length c.args.state.now c.in-Call.link c.in-Call.info))
