use Rattle.std.proofs.Common.{List, ℕ, sym, subst}
use Rattle.s390x_format.specs.Fetch.{IsFetch}
use Rattle.s390x_machine.specs.Fetch.{Fetches, IsFound, Unknown}
use Rattle.s390x_machine.specs.State.{memory_of, state_of}
use Rattle.s390x_machine.proofs.Reading.{bytes_reached, bytes_read}
use Rattle.s390x_machine.proofs.Stepping.{unknown_stops}
use Rattle.s390x_machine.proofs.step.bytes_step.Goals as goal

pub row_step-requires-clause-found : goal.row_step-requires-clause-found
row_step-requires-clause-found g c =
    let held = g.M.Memory.held c.args.memory.now in
    let byte = g.M.Memory.byte c.args.memory.now in
    let small = c.ranges.place.fits in
    let e = bytes_read held byte c.args.place c.args.bytes.now c.fetch_length-n.result small c.requires.there c.fetch_length-n.ensures in
    let found : IsFound (memory_of held byte) c.args.place c.in-Some.located.decoded = record {
      even = c.requires.even;
      reached = bytes_reached held byte c.args.place c.args.bytes.now small c.requires.there;
      row = subst (λ (bs : List ℕ). IsFetch bs c.in-Some.located.decoded) e c.in-Some.ensures.sound.fetch;
    } in
    subst (λ (a : ℕ). IsFound (memory_of held byte) a c.in-Some.located.decoded) (sym c.requires.at) found

pub returns-in-None : goal.returns-in-None
returns-in-None g c =
    let held = g.M.Memory.held c.args.memory.now in
    let byte = g.M.Memory.byte c.args.memory.now in
    let small = c.ranges.place.fits in
    let e = bytes_read held byte c.args.place c.args.bytes.now c.fetch_length-n.result small c.requires.there c.fetch_length-n.ensures in
    let unknown : Fetches (memory_of held byte) c.args.place Unknown = (
      c.requires.even,
      bytes_reached held byte c.args.place c.args.bytes.now small c.requires.there,
      λ d h. let none = c.in-None.ensures.complete d (subst (λ (bs : List ℕ). IsFetch bs d) (sym e) h) in absurd (cc),
    ) in
    let stops = unknown_stops (state_of c.args.machine.now held byte) (subst (λ (a : ℕ). Fetches (memory_of held byte) a Unknown) (sym c.requires.at) unknown) in
    (stops.0, stops.1, sym c.requires.at)
