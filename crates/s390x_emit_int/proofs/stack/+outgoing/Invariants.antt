use Rattle.std.proofs.Common.{◌≡◌, drop}
use Rattle.s390x_emit_int.specs.Stack.{outgoing_behind_all}
use Rattle.s390x_emit_int.proofs.stack.+outgoing.Given as goal

abbrev pub invariant-outgoing_behind-loop-inst : goal.invariant-outgoing_behind-loop-inst
invariant-outgoing_behind-loop-inst l = outgoing_behind_all l.behind (drop l.inst-index l.insts) ≡ outgoing_behind_all l.fn.outgoing l.fn.insts
