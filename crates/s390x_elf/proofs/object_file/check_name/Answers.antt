use Rattle.std.proofs.Common.{ℕ, nat_eq, sym, ap, ◌∙◌}
use Rattle.std.specs.List.{list_any}
use Rattle.s390x_elf.proofs.Finished.{name_is_fine}
use Rattle.s390x_elf.proofs.object_file.check_name.Goals as goal

pub returns : goal.returns
returns c =
    name_is_fine c.args.name.now (sym c.is_empty.ensures ∙ c.if-is_empty.false)
    (ap (list_any (λ (b : ℕ). nat_eq b 0)) (sym c.as_bytes.ensures.value) ∙ sym c.has_zero.ensures ∙ c.if-has_zero.false)
