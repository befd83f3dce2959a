-- Sources and sinks in memory.
use Rattle.std.specs.Prelude.{ℕ, ◌-◌, List, length, min}

-- a source: the bytes that it has left, the numbers of the calls that fail, and its counts
pub record SourceState : Type 0 where
  pub left : List ℕ
  pub fails : List ℕ
  pub calls : ℕ
  pub faults : ℕ

-- a sink: the bytes that it was told, its room, the numbers of the calls that fail, the most bytes of one write, and its counts
pub record SinkState : Type 0 where
  pub told : List ℕ
  pub room : ℕ
  pub fails : List ℕ
  pub most : ℕ
  pub calls : ℕ
  pub faults : ℕ

-- how many bytes of a piece the sink can take
abbrev pub takes : SinkState → List ℕ → ℕ
takes s piece = min (min (length piece) s.most) (s.room - length s.told)
