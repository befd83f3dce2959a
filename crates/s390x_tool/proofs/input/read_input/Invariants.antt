use Rattle.std.proofs.Common.{◌-◌, ◌≡◌, ◌≤◌, take, vec_len}
use Rattle.std.specs.Io.KnownBytes.{Consumes}
use Rattle.s390x_tool.specs.Ends.{too_many}
use Rattle.s390x_tool.proofs.input.read_input.Given as goal

-- the first bytes are what the source gave, and no read failed
abbrev pub invariant-loop-held : goal.invariant-loop-held
invariant-loop-held g l = record {
  within : l.held ≤ vec_len l.input;
  bound : vec_len l.input ≤ too_many;
  taken : Consumes (g.S.Source.left l.initial.source) (g.S.Source.left l.source) (take l.held l.input.items);
  faults : g.S.Source.faults l.source ≡ g.S.Source.faults l.initial.source;
}

abbrev pub decreases-loop-held : goal.decreases-loop-held
decreases-loop-held g l = too_many - l.held
