-- The lines that a half-built job has had.
use Rattle.std.specs.Prelude.{◌≡◌, ℕ, ◌+◌, ◌<◌, ◌≤◌, Option, Some, None, List, [], ◌∷◌, ◌++◌, length, get_or}
use Rattle.s390x_job_lines.specs.Line.{Line, line_text, line_of, IsLine}
use Rattle.s390x_job.specs.Items.{block_line, loop_line, end_line}
use Rattle.s390x_job.specs.Jobs.{IsPlainWithoutLine, insts_lines, blocks_lines, flags_lines, frame_lines, head_lines}
use Rattle.s390x_job.specs.Grammar.{Place, Header, Within, AtEnd, next_place, class}
use Rattle.s390x_inst.specs.State.{fresh_emission}
use Rattle.s390x_inst.specs.declared.calls.CallConv.{CallConv}
use Rattle.s390x_inst.specs.declared.state.FrameLayout.{FrameLayout}
use Rattle.s390x_job.specs.declared.job.StartRegs.{StartRegs}
use Rattle.s390x_job.specs.declared.job.Job.{Job}
use Rattle.s390x_job.specs.declared.build.Beginning.{Beginning}
use Rattle.s390x_job.specs.declared.build.OpenLoop.{OpenLoop}
use Rattle.s390x_job.specs.declared.build.Body.{Body}
use Rattle.s390x_job.specs.declared.build.Stage.{Stage}
use Rattle.s390x_job.specs.declared.build.Stage.TheVariants as S
use Rattle.s390x_job.specs.declared.build.Progress.{Progress}
use Rattle.s390x_job.specs.declared.build.Progress.TheVariants.{Head, Inside, Done}

-- the lines before the blocks, as far as they are told
abbrev pub beginning_lines : Beginning → List Line
beginning_lines b =
    head_lines b.flags b.conv b.layout b.constants.items b.symbols.items b.registers b.memory.items

-- the lines of the open loops, each behind what stands before it
abbrev pub open_lines : List OpenLoop → List Line
open_lines [] = []
open_lines (l ∷ ls) = insts_lines l.before.items ++ (loop_line l.cond ∷ open_lines ls)

-- the lines so far, within a block
abbrev pub body_lines : Body → List Line
body_lines b =
    beginning_lines b.beginning ++ (blocks_lines b.blocks.items ++ (block_line ∷ (open_lines b.loops.items ++ insts_lines b.here.items)))

-- the lines of a whole job
abbrev pub done_lines : Body → List Line
done_lines b = beginning_lines b.beginning ++ (blocks_lines b.blocks.items ++ end_line ∷ [])

-- the lines that a half-built job has had
abbrev pub lines_at : Progress → Body → List Line
lines_at (Head stage bound) b = beginning_lines b.beginning
lines_at Inside b = body_lines b
lines_at Done b = done_lines b

-- the rank of each kind of line before the blocks
abbrev pub rank_of : Stage → ℕ
rank_of S.Flags = 0
rank_of S.Frame = 1
rank_of S.Constants = 2
rank_of S.Symbols = 3
rank_of S.Registers = 4
rank_of S.Memory = 5

-- where a half-built job is in the order of lines
abbrev pub place_at : Progress → Body → Place
place_at (Head stage bound) b = Header (rank_of stage) bound
place_at Inside b = Within (length b.loops.items)
place_at Done b = AtEnd

-- both files have all their registers, and a frame without a line is the plain one
pub record IsFull (conv : CallConv) (layout : FrameLayout) (r : StartRegs) : Type 0 where
  pub frame : IsPlainWithoutLine conv layout
  pub general_count : length r.general ≡ 16
  pub vector_count : length r.vector ≡ 32

-- the registers from a place on start at zero
pub record IsZeroFrom (k : ℕ) (r : StartRegs) : Type 0 where
  pub general_zero : (i : ℕ) → k ≤ i → get_or r.general i 0 ≡ 0
  pub vector_zero : (i : ℕ) → k ≤ 16 + i → get_or r.vector i 0 ≡ 0

-- what is not yet told is as it is where no line tells it
pub record IsBeginning (rank bound : ℕ) (b : Beginning) : Type 0 where
  pub full : IsFull b.conv b.layout b.registers
  pub no_flags : rank ≡ 0 → bound ≡ 0 → flags_lines b.flags ≡ []
  pub framed : rank ≡ 1 → 0 < bound
  pub no_frame : rank < 1 → frame_lines b.conv b.layout ≡ []
  pub no_constants : rank < 2 → b.constants.items ≡ []
  pub no_symbols : rank < 3 → b.symbols.items ≡ []
  pub no_registers : rank < 4 → IsZeroFrom 0 b.registers
  pub next_registers : rank ≡ 4 → IsZeroFrom bound b.registers
  pub no_memory : rank < 5 → b.memory.items ≡ []

-- a finished job has the state at the beginning of a function, and all registers
pub record IsWhole (j : Job) : Type 0 where
  pub state : j.state ≡ fresh_emission j.state.layout j.conv
  pub full : IsFull j.conv j.state.layout j.registers

-- no block has begun
pub record IsBegun (rank bound : ℕ) (b : Body) : Type 0 where
  pub beginning : IsBeginning rank bound b.beginning
  pub no_blocks : b.blocks.items ≡ []
  pub no_loops : b.loops.items ≡ []
  pub none_here : b.here.items ≡ []

-- what stands before the blocks is whole
abbrev pub IsFullBody : Body → Type 0
IsFullBody b = IsFull b.beginning.conv b.beginning.layout b.beginning.registers

-- what holds of a half-built job
abbrev pub IsAt : Progress → Body → Type 0
IsAt (Head stage bound) b = IsBegun (rank_of stage) bound b
IsAt Inside b = IsFullBody b
IsAt Done b = IsFullBody b

-- what is told after one more line, behind the lines so far
pub record IsNext (ls : List Line) (p : Place) (l : Line) (q : Progress) (b : Body) : Type 0 where
  pub state : IsAt q b
  pub lines : lines_at q b ≡ ls ++ l ∷ []
  pub place : next_place p (class l) ≡ Some (place_at q b)

-- what is told after one more line; none where the line may not stand there
abbrev pub Follows : Body → List Line → Place → Line → Option Progress → Type 0
Follows b ls p l None = next_place p (class l) ≡ None
Follows b ls p l (Some q) = IsNext ls p l q b

-- what is told after a line of this text, behind the lines so far; none where no line of this text may stand there
abbrev pub Reads : Body → List Line → Place → List ℕ → Option Progress → Type 0
Reads b ls p w None = (l : Line) → IsLine l → line_text l ≡ w → next_place p (class l) ≡ None
Reads b ls p w (Some q) = IsLine (line_of w) × (line_text (line_of w) ≡ w) × IsNext ls p (line_of w) q b
