use Rattle.std.proofs.Common.{ap, sym, ◌∙◌, is_some}
use Rattle.s390x_emit_int.proofs.Plain.{store_is_plain}
use Rattle.s390x_emit_int.proofs.fast_path.is_store.Goals as goal

pub returns : goal.returns
returns c = λ e. store_is_plain c.args.inst.now (ap is_some (sym c.as_store.ensures) ∙ sym c.is_some.ensures ∙ e)
