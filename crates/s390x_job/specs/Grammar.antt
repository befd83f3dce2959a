-- The order of a job's lines.
use Rattle.std.specs.Prelude.{ℕ, zero, suc, ◌+◌, ◌^◌, Bool, Option, Some, None, List, [], ◌∷◌, codes, length, nat_lt, nat_le, ◌||◌, ◌&&◌, if◌then◌else◌, ◌==◌}
use Rattle.std.specs.Str.{bytes_eq}
use Rattle.s390x_base.specs.Registers.{RealRegister}
use Rattle.s390x_base.specs.declared.regs.RegClass.{RegClass}
use Rattle.s390x_base.specs.declared.regs.RegClass.TheVariants.{Int, Float}
use Rattle.s390x_job_fields.specs.Fields.{Field, FName, FNatural, FBytes, FStart}
use Rattle.s390x_job_lines.specs.Line.{Line, fields_text}
use Rattle.s390x_job_lines.specs.declared.name.LineName.{LineName}
use Rattle.s390x_job_lines.specs.declared.name.LineName.TheVariants as N

-- what a line is: a line before the blocks has a rank, a first number and the number past it
pub data Class : Type 0 where
  Head : ℕ → ℕ → ℕ → Class
  OpenBlock : Class
  OpenLoop : Class
  CloseLoop : Class
  CloseJob : Class
  Instruction : Class
  Never : Class

-- `flags`, where a facility is set
abbrev pub flags_class : List Field → Class
flags_class fs = if bytes_eq (fields_text fs) [] then Never else Head 0 0 1

-- `frame`, where it is not the one that is taken without it
abbrev pub frame_class : List Field → Class
frame_class fs = if bytes_eq (fields_text fs) (codes " SystemV 0 0 0 0 0 0 - 0") then Never else Head 1 0 1

-- symbols: numbers rising
abbrev pub symbol_class : List Field → Class
symbol_class (FName n ∷ fs) = Head 3 n (n + 1)
symbol_class _ = Never

-- the place of a register among all: general ones first
abbrev pub class_place : RegClass → ℕ
class_place Int = 0
class_place Float = 16

-- the place of a register among all
abbrev pub register_place : RealRegister → ℕ
register_place r = class_place r.class + r.number

-- registers that do not start at zero: numbers rising
abbrev pub register_class : List Field → Class
register_class (FStart r v ∷ fs) = if v == 0 then Never else Head 4 (register_place r) (register_place r + 1)
register_class _ = Never

-- regions: not empty, each at or after the end of the one before, ending at most at 2 ^ 64
abbrev pub region_class : ℕ → ℕ → Class
region_class address size = if (size == 0) || nat_lt (2 ^ 64) (address + size) then Never else Head 5 address (address + size)

-- the class of a line `mem`: that of its region
abbrev pub memory_class : List Field → Class
memory_class (FNatural w address ∷ FBytes bytes ∷ fs) = region_class address (length bytes)
memory_class _ = Never

-- the class of a line of this name with these fields
abbrev pub line_class : LineName → List Field → Class
line_class N.FlagsLine fs = flags_class fs
line_class N.FrameLine fs = frame_class fs
line_class N.ConstantLine fs = Head 2 0 0
line_class N.SymbolLine fs = symbol_class fs
line_class N.RegisterLine fs = register_class fs
line_class N.MemoryLine fs = memory_class fs
line_class N.BlockLine fs = OpenBlock
line_class N.Loop fs = OpenLoop
line_class N.EndLoopLine fs = CloseLoop
line_class N.EndLine fs = CloseJob
line_class n fs = Instruction

-- the class of a line
abbrev pub class : Line → Class
class l = line_class l.name l.fields

-- where a job is: before its blocks, behind a line of a rank and with a bound for the next one's first number;
-- in a block with so many open loops; or at its end
pub data Place : Type 0 where
  Header : ℕ → ℕ → Place
  Within : ℕ → Place
  AtEnd : Place

-- a line of a later rank, or one of the same rank that begins where the one before ends or later
abbrev pub may_follow : ℕ → ℕ → ℕ → ℕ → Bool
may_follow rank bound r first = nat_lt rank r || ((rank == r) && nat_le bound first)

-- the place after one more line
abbrev pub next_place : Place → Class → Option Place
next_place (Header rank bound) (Head r first past) = if may_follow rank bound r first then Some (Header r past) else None
next_place (Header rank bound) OpenBlock = Some (Within 0)
next_place (Header rank bound) CloseJob = Some AtEnd
next_place (Header rank bound) OpenLoop = None
next_place (Header rank bound) CloseLoop = None
next_place (Header rank bound) Instruction = None
next_place (Header rank bound) Never = None
next_place (Within d) (Head r first past) = None
next_place (Within d) Never = None
next_place (Within d) OpenLoop = if nat_lt d 9 then Some (Within (suc d)) else None
next_place (Within d) Instruction = Some (Within d)
next_place (Within zero) OpenBlock = Some (Within 0)
next_place (Within zero) CloseJob = Some AtEnd
next_place (Within zero) CloseLoop = None
next_place (Within (suc d)) OpenBlock = None
next_place (Within (suc d)) CloseJob = None
next_place (Within (suc d)) CloseLoop = Some (Within d)
next_place AtEnd c = None

-- the place after these lines
abbrev pub run : Option Place → List Line → Option Place
run None ls = None
run (Some p) [] = Some p
run (Some p) (l ∷ ls) = run (next_place p (class l)) ls
