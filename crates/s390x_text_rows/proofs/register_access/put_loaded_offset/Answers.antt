use Rattle.std.proofs.Common.{◌≡◌, ◌++◌, OnOk, subst, string_bytes}
use Rattle.std.proofs.lemmas.Int.{to_z-of_z}
use Rattle.std.specs.Fmt.{signed_decimal}
use Rattle.std.specs.Int.{w64}
use Rattle.std.specs.Prelude.{codes}
use Rattle.s390x_inst.specs.declared.inst.Inst.TheVariants.{Mov64SImm32}
use Rattle.s390x_typed_steps.specs.Operands.{scratch}
use Rattle.s390x_text_rows.specs.Storage.{helper_text}
use Rattle.s390x_text_rows.proofs.Named.{behind, loaded_offset}
use Rattle.s390x_text_rows.proofs.register_access.put_loaded_offset.Goals as goal

pub returns : goal.returns
returns c =
    behind c.put_integer.result (string_bytes c.args.out.now) (string_bytes c.put.new.out) (string_bytes c.put_integer.new.out) (codes "lgfi %r1, ") (signed_decimal c.args.off) (helper_text (Mov64SImm32 scratch c.args.off)) c.in_ok-put.ensures (loaded_offset c.args.off)
    (subst (λ z. OnOk c.put_integer.result (string_bytes c.put_integer.new.out ≡ string_bytes c.put.new.out ++ signed_decimal z)) (to_z-of_z w64 c.args.off c.ranges.off) c.put_integer.ensures)
