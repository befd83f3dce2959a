use Rattle.std.proofs.Common.{◌≡◌, drop}
use Rattle.s390x_typed_steps.specs.Calls.{any_helped}
use Rattle.s390x_emit_int.proofs.calls.any_helped.Given as goal

abbrev pub invariant-loop-inst : goal.invariant-loop-inst
invariant-loop-inst l = any_helped (drop l.inst-index l.insts) ≡ any_helped l.insts
