use Rattle.std.proofs.Common.{◌∷◌, [], ◌++◌, false, append_assoc, sym, ap, ◌∙◌}
use Rattle.std.specs.Fmt.{digits}
use Rattle.s390x_disassembler.proofs.first_line.first_line.Goals as goal

pub with_columns-requires : goal.with_columns-requires
with_columns-requires c =
    c.in-Some.ensures ∙ ap (λ t. t ++ c.in-Some.rest.now) (c.as_bytes.ensures.value ∙ c.in_ok-head.ensures) ∙ append_assoc (digits 16 false c.args.address) (58 ∷ (32 ∷ [])) c.in-Some.rest.now

pub without_columns-requires : goal.without_columns-requires
without_columns-requires c =
    λ rest e. c.in-None.ensures rest (e ∙ sym (append_assoc (digits 16 false c.args.address) (58 ∷ (32 ∷ [])) rest) ∙ ap (λ t. t ++ rest) (sym (c.as_bytes.ensures.value ∙ c.in_ok-head.ensures)))
