use Rattle.std.proofs.Common.{◌++◌, ◌∙◌, ap, string_bytes}
use Rattle.std.proofs.lemmas.Result.{on_ok_weaker}
use Rattle.std.specs.Prelude.{codes}
use Rattle.std.specs.Fmt.{decimal}
use Rattle.s390x_text_rows.proofs.Joined.{joined_one}
use Rattle.s390x_text.proofs.calls.put_pop_size.Goals as goal

pub returns : goal.returns
returns c =
    on_ok_weaker c.put_natural.result
    (λ e. joined_one (codes " ; callee_pop_size ") (decimal c.args.size) (string_bytes c.args.out.now) (string_bytes c.put.new.out) (string_bytes c.put_natural.new.out) c.in_ok-put.ensures (e ∙ ap (λ n. string_bytes c.put.new.out ++ decimal n) c.from.ensures))
    c.put_natural.ensures
