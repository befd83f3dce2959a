use Rattle.std.proofs.Common.{◌≡◌, sym, ap, ◌∙◌, true≢false}
use Rattle.s390x_format.specs.Rows.{fetch_length_of}
use Rattle.s390x_machine.proofs.Reading.{reached_or_not}
use Rattle.s390x_machine.proofs.instruction_fetch.shorter_bytes.Goals as goal

pub returns-in-Some : goal.returns-in-Some
returns-in-Some g c =
    let held = g.M.Memory.held c.args.memory.now in
    let byte = g.M.Memory.byte c.args.memory.now in
    let count : c.fetch_length.result ≡ fetch_length_of (byte c.args.place) = c.fetch_length.ensures ∙ ap fetch_length_of c.in-Some.ensures.1 in
    reached_or_not held byte c.args.place c.fetch_length.result c.leading_bytes.result count c.leading_bytes.ensures

pub returns-in-None : goal.returns-in-None
returns-in-None g c = λ h. true≢false (sym h.0 ∙ c.in-None.ensures)
