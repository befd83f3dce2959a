use Rattle.std.proofs.Common.{◌++◌, string_bytes}
use Rattle.std.specs.Prelude.{codes}
use Rattle.s390x_typed_steps.specs.Operands.{no_register, scratch}
use Rattle.s390x_text_rows.specs.Storage.{zero_text}
use Rattle.s390x_text_rows.proofs.Named.{addressed, reworded}
use Rattle.s390x_text_rows.proofs.register_access.put_loaded_place.Goals as goal

pub returns : goal.returns
returns c =
    reworded c.put.result (string_bytes c.args.out.now) (string_bytes c.put.new.out) (codes ", 0(%r1)") (codes ", " ++ zero_text scratch no_register) addressed c.put.ensures
