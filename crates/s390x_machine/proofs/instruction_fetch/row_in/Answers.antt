use Rattle.std.proofs.Common.{List, ℕ, sym, subst}
use Rattle.s390x_format.specs.Fetch.{IsFetch}
use Rattle.s390x_machine.proofs.Reading.{bytes_reached, bytes_read}
use Rattle.s390x_machine.proofs.instruction_fetch.row_in.Goals as goal

pub returns-in-Some-clause-fetches : goal.returns-in-Some-clause-fetches
returns-in-Some-clause-fetches c held byte place even small read =
    let e = bytes_read held byte place c.args.bytes.now c.fetch_length-n.result small read c.fetch_length-n.ensures in
    record {
      even = even;
      reached = bytes_reached held byte place c.args.bytes.now small read;
      row = subst (λ (bs : List ℕ). IsFetch bs c.in-Some.located.decoded) e c.in-Some.ensures.sound.fetch;
    }

pub returns-in-None-clause-fetches : goal.returns-in-None-clause-fetches
returns-in-None-clause-fetches c held byte place even small read =
    let e = bytes_read held byte place c.args.bytes.now c.fetch_length-n.result small read c.fetch_length-n.ensures in (
      even,
      bytes_reached held byte place c.args.bytes.now small read,
      λ d h. let none = c.in-None.ensures.complete d (subst (λ (bs : List ℕ). IsFetch bs d) (sym e) h) in absurd (cc),
    )
