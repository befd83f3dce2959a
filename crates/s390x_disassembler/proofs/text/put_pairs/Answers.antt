use Rattle.std.proofs.Common.{◌++◌, drop, string_bytes, append_assoc, sym, ap, ◌∙◌, arith}
use Rattle.std.proofs.lemmas.List.{take_rest}
use Rattle.s390x_disassembler.specs.Text.{pairs_text}
use Rattle.s390x_disassembler.proofs.Pieces.{one_pair}
use Rattle.s390x_disassembler.proofs.text.put_pairs.Goals as goal

pub loop-rest-preserved : goal.loop-rest-preserved
loop-rest-preserved c = record {
  written =
      ap (λ t. string_bytes c.put_number.new.out ++ pairs_text 44 t) (take_rest c.loop-rest.rest.now 2)
      ∙ ap (λ s. s ++ pairs_text 44 (drop 2 c.loop-rest.rest.now)) c.in_ok-put_number.ensures
      ∙ append_assoc (string_bytes c.loop-rest.out) _ _
      ∙ ap (λ t. string_bytes c.loop-rest.out ++ t) (sym (one_pair c.loop-rest.separator c.loop-rest.rest.now (omega (arith, c.loop-rest-test.true))))
      ∙ c.loop-rest.invariant.written;
  ascii = omega arith;
}
