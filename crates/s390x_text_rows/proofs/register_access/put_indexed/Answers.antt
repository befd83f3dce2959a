use Rattle.std.proofs.Common.{◌++◌, ◌∙◌, sym, append_assoc, string_bytes}
use Rattle.std.specs.Prelude.{codes}
use Rattle.s390x_job_fields.specs.Atoms.{reg_text}
use Rattle.s390x_typed_steps.specs.Operands.{scratch}
use Rattle.s390x_text_rows.specs.Storage.{zero_text}
use Rattle.s390x_text_rows.proofs.Named.{behind, indexed_alone, indexed_base, reworded}
use Rattle.s390x_text_rows.proofs.register_access.put_indexed.Goals as goal

pub returns-then-is_zero : goal.returns-then-is_zero
returns-then-is_zero c =
    reworded c.put.result (string_bytes c.args.out.now) (string_bytes c.put.new.out) (codes ", 0(%r1,)") (codes ", " ++ zero_text c.args.base.now scratch) (indexed_alone c.args.base.now (sym c.is_zero.ensures ∙ c.if-is_zero.true)) c.put.ensures

pub returns : goal.returns
returns c =
    behind c.put-2.result (string_bytes c.args.out.now) (string_bytes c.put_reg_behind.new.out) (string_bytes c.put-2.new.out) (codes ", 0(%r1," ++ reg_text c.args.base.now) (codes ")") (codes ", " ++ zero_text c.args.base.now scratch) c.in_ok-put_reg_behind.ensures
    (append_assoc (codes ", 0(%r1,") (reg_text c.args.base.now) (codes ")") ∙ indexed_base c.args.base.now (sym c.is_zero.ensures ∙ c.if-is_zero.false)) c.put-2.ensures
