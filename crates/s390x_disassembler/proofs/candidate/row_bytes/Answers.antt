use Rattle.std.proofs.Common.{◌≡◌, ℕ, ◌%◌, ◌<◌, length, drop, ap, ◌∙◌}
use Rattle.std.specs.Prelude.{slice_index}
use Rattle.s390x_disassembler.specs.Text.{plain_row}
use Rattle.s390x_disassembler.specs.Forms.{operands_of}
use Rattle.s390x_disassembler.specs.Spelling.{letters_for}
use Rattle.s390x_disassembler.specs.Names.{place_in}
use Rattle.s390x_disassembler.specs.Start.{start_value}
use Rattle.s390x_disassembler.specs.Operands.{AreRead}
use Rattle.s390x_disassembler.proofs.Spelled.{spelled_read}
use Rattle.s390x_disassembler.proofs.candidate.row_bytes.Goals as goal

pub returns : goal.returns
returns c =
    let s = plain_row c.args.spelling in
    let letters : c.text_behind-letters.result.now ≡ drop (length s.0) c.args.mnemonic.now = c.text_behind-letters.ensures ∙ ap (λ t. drop (length t) c.args.mnemonic.now) c.as_bytes.ensures.value in
    let place : c.place.result ≡ place_in (letters_for s.1) (drop (length s.0) c.args.mnemonic.now) = c.place.ensures ∙ ap (λ t. place_in t c.text_behind-letters.result.now) c.letter_table.ensures ∙ ap (place_in (letters_for s.1)) letters in
    let starts : (k : ℕ) → k < 10 → slice_index c.start-slots.result k ≡ start_value c.args.row s.1 (place_in (letters_for s.1) (drop (length s.0) c.args.mnemonic.now) % 256) k =
    λ k lt. c.start-slots.ensures.values k lt ∙ ap (λ p. start_value c.args.row s.1 (p % 256) k) place in
    let read : AreRead c.args.row.format c.args.address (operands_of s.2) c.args.text.now c.start-slots.result c.put_operands.new.slots = rw c.operands.ensures at c.put_operands.ensures.read in
    spelled_read c.args.address c.args.row s c.args.mnemonic.now c.args.text.now c.start-slots.result c.put_operands.new.slots c.bytes_of.result.items starts read c.bytes_of.ensures
