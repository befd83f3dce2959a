use Rattle.std.proofs.Common.{Some, ap, ◌∙◌, sym}
use Rattle.s390x_format.specs.Fetch.{machine_rows}
use Rattle.s390x_format.specs.Reading.{no_row}
use Rattle.s390x_machine.proofs.RowSemantics.{semantics_at_place}
use Rattle.s390x_machine.proofs.step.semantics_at.Goals as goal

pub semantics_in-requires : goal.semantics_in-requires
unfolding machine_rows
semantics_in-requires c = c.requires

pub returns : goal.returns
unfolding machine_rows
returns c = semantics_at_place c.args.at c.requires ∙ ap Some (sym (c.semantics_in.ensures no_row))
