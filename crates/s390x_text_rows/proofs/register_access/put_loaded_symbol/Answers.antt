use Rattle.std.proofs.Common.{◌≡◌, ◌++◌, ◌∷◌, [], OnOk, subst, string_bytes}
use Rattle.std.proofs.lemmas.Int.{to_z-of_z}
use Rattle.std.specs.Fmt.{decimal, signed_decimal}
use Rattle.std.specs.Int.{w32}
use Rattle.std.specs.Prelude.{codes}
use Rattle.s390x_format.specs.Stems.{stem_of}
use Rattle.s390x_job_fields.specs.Atoms.{reg_text}
use Rattle.s390x_rows.specs.declared.opcodes.TheConstants as opcodes
use Rattle.s390x_typed_steps.specs.Operands.{scratch}
use Rattle.s390x_text_rows.specs.Operands.{name_text}
use Rattle.s390x_text_rows.specs.Texts.{instruction_text}
use Rattle.s390x_text_rows.proofs.Named.{loaded_symbol, reworded}
use Rattle.s390x_text_rows.proofs.register_access.put_loaded_symbol.Goals as goal

pub returns : goal.returns
returns c =
    let symbol = decimal c.args.name.0 ++ (codes " + " ++ signed_decimal c.args.offset) in
    let appended =
    subst (λ z. OnOk c.put_symbol.result (string_bytes c.put_symbol.new.out ≡ string_bytes c.args.out.now ++ (codes "larl %r1, u" ++ (decimal c.args.name.0 ++ (codes " + " ++ signed_decimal z))))) (to_z-of_z w32 c.args.offset c.ranges.offset) c.put_symbol.ensures in
    reworded c.put_symbol.result (string_bytes c.args.out.now) (string_bytes c.put_symbol.new.out) (codes "larl %r1, u" ++ symbol)
    (instruction_text (stem_of opcodes.LARL) (reg_text scratch ∷ (name_text c.args.name.0 ++ (codes " + " ++ signed_decimal c.args.offset)) ∷ [])) (loaded_symbol symbol) appended
