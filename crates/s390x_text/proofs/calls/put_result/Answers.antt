use Rattle.std.proofs.Common.{◌∙◌, ap, sym, subst, string_bytes}
use Rattle.s390x_inst.specs.Frames.{load_from}
use Rattle.s390x_text_rows.specs.Texts.{Prints}
use Rattle.s390x_text.specs.Calls.{loaded_text, result_at}
use Rattle.s390x_text.proofs.calls.put_result.Goals as goal

pub returns-in-Stack : goal.returns-in-Stack
returns-in-Stack c =
    subst (λ t. Prints c.put_loaded.result (string_bytes c.args.out.now) (string_bytes c.put_loaded.new.out) t)
    (ap (loaded_text c.args.state.now) (c.result_load-load.ensures ∙ ap (load_from c.args.def.now.vreg) c.in-Stack.is) ∙ sym (ap (result_at c.args.state.now c.args.def.now.vreg) c.in-Stack.is))
    c.put_loaded.ensures
