use Rattle.std.proofs.Common.{ap, sym, ◌∙◌}
use Rattle.std.specs.Str.{bytes_eq}
use Rattle.s390x_disassembler.proofs.BareLine.{short_ok, byte_ok, name_ok, stored_ok}
use Rattle.s390x_disassembler.proofs.candidate.candidate.Goals as goal

pub returns-then-eq : goal.returns-then-eq
returns-then-eq c =
    short_ok c.groups.result (λ b. b.items) c.args.address c.args.text.now c.word-mnemonic.result.now c.text_behind-rest.result.now c.word-mnemonic.ensures c.text_behind-rest.ensures
    (ap (λ t. bytes_eq c.word-mnemonic.result.now t) (sym c.as_slice.ensures) ∙ sym c.eq.ensures ∙ c.if-eq.true) c.groups.ensures

pub returns-then-eq-2 : goal.returns-then-eq-2
returns-then-eq-2 c =
    byte_ok c.groups-then-eq-2.result (λ b. b.items) c.args.address c.args.text.now c.word-mnemonic.result.now c.text_behind-rest.result.now c.word-mnemonic.ensures c.text_behind-rest.ensures
    (ap (λ t. bytes_eq c.word-mnemonic.result.now t) (sym c.as_slice-else-eq.ensures) ∙ sym c.eq-else-eq.ensures ∙ c.if-eq-2.true) c.groups-then-eq-2.ensures

pub returns-else-eq-2 : goal.returns-else-eq-2
returns-else-eq-2 c =
    stored_ok c.vector_of_bytes.result (λ b. b.items) c.args.address c.args.text.now c.named_bytes-bytes.result.items c.deref.result.now c.deref.ensures.0 c.vector_of_bytes.ensures
    (name_ok c.args.address c.args.text.now c.word-mnemonic.result.now c.text_behind-rest.result.now c.named_bytes-bytes.result.items c.word-mnemonic.ensures c.text_behind-rest.ensures
    (ap (λ t. bytes_eq c.word-mnemonic.result.now t) (sym c.as_slice.ensures) ∙ sym c.eq.ensures ∙ c.if-eq.false)
    (ap (λ t. bytes_eq c.word-mnemonic.result.now t) (sym c.as_slice-else-eq.ensures) ∙ sym c.eq-else-eq.ensures ∙ c.if-eq-2.false) c.named_bytes-bytes.ensures)
