use Rattle.std.proofs.Common.{ap, sym, ◌∙◌, is_some}
use Rattle.s390x_emit_int.proofs.Plain.{load_is_plain}
use Rattle.s390x_emit_int.proofs.fast_path.is_load.Goals as goal

pub returns : goal.returns
returns c = λ e. load_is_plain c.args.inst.now (ap is_some (sym c.as_load.ensures) ∙ sym c.is_some.ensures ∙ e)
