use Rattle.std.proofs.Common.{sym, subst, ◌≡◌, ◌++◌, ◌∷◌, [], OnOk, string_bytes}
use Rattle.s390x_inst.specs.declared.whole.WholeLayout.TheVariants.{Straight}
use Rattle.s390x_job_fields.specs.Atoms.{reg_text}
use Rattle.s390x_text_rows.specs.Texts.{instruction_text}
use Rattle.s390x_text_rows.specs.VectorMnemonics.{whole_name}
use Rattle.s390x_text_rows.proofs.Named.{named_load, named_store}
use Rattle.s390x_text_rows.proofs.vector_memory.put_straight_name.Goals as goal

pub returns-in-Load : goal.returns-in-Load
returns-in-Load c =
    subst (λ d. OnOk c.put_vector_behind.result (string_bytes c.put_vector_behind.new.out ≡ string_bytes c.args.out.now ++ instruction_text (whole_name d Straight) (reg_text c.args.r.now ∷ []))) (sym c.in-Load.is)
    (named_load c.put_vector_behind.result (string_bytes c.args.out.now) (string_bytes c.put_vector_behind.new.out) (reg_text c.args.r.now) c.put_vector_behind.ensures)

pub returns-in-Store : goal.returns-in-Store
returns-in-Store c =
    subst (λ d. OnOk c.put_vector_behind-in-Store.result (string_bytes c.put_vector_behind-in-Store.new.out ≡ string_bytes c.args.out.now ++ instruction_text (whole_name d Straight) (reg_text c.args.r.now ∷ []))) (sym c.in-Store.is)
    (named_store c.put_vector_behind-in-Store.result (string_bytes c.args.out.now) (string_bytes c.put_vector_behind-in-Store.new.out) (reg_text c.args.r.now) c.put_vector_behind-in-Store.ensures)
