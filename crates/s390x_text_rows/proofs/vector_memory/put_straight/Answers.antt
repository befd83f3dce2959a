use Rattle.std.proofs.Common.{◌∷◌, [], Some, None, true, refl, string_bytes}
use Rattle.s390x_inst.specs.declared.whole.WholeLayout.TheVariants.{Straight}
use Rattle.s390x_job_fields.specs.Atoms.{reg_text}
use Rattle.s390x_text_rows.specs.Storage.{rx}
use Rattle.s390x_text_rows.specs.VectorMnemonics.{whole_name}
use Rattle.s390x_text_rows.proofs.Near.{near_prints}
use Rattle.s390x_text_rows.proofs.vector_memory.put_straight.Goals as goal

pub returns-in-Some : goal.returns-in-Some
returns-in-Some c =
    near_prints c.put_near_straight.result (string_bytes c.args.out.now) (string_bytes c.put_near_straight.new.out) true (rx (Some (whole_name c.args.direction Straight)) None None) c.args.state.now c.args.mem.now c.in-Some.near (Some c.whole_name-name.result.opcode) None (λ o. whole_name c.args.direction Straight) (whole_name c.args.direction Straight) (reg_text c.args.rd ∷ []) [] refl refl c.in-Some.ensures refl c.put_near_straight.ensures
