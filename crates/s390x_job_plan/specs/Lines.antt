-- The lines of a plan: their text, their ranges, and how they are read.
use Rattle.std.specs.Prelude.{ℕ, ◌<◌, List, ◌∷◌, ◌++◌, codes, drop, if◌then◌else◌, ◌==◌, slice_index}
use Rattle.std.specs.Fmt.{decimal}
use Rattle.s390x_base.specs.Registers.{IsRegister}
use Rattle.s390x_base.specs.declared.regs.Reg.{Reg}
use Rattle.s390x_job_fields.specs.Atoms.{IsReg, real_register_of, real_text, reg_of, reg_text}
use Rattle.s390x_job_fields.specs.Lists.{AllItems, list_of, list_text}
use Rattle.s390x_job_fields.specs.Marks.{after_word, word}
use Rattle.s390x_job_fields.specs.Numbers.{W16, natural_of}
use Rattle.s390x_alloc.specs.declared.plan.Place.{Place}
use Rattle.s390x_alloc.specs.declared.plan.Place.TheVariants.{Reg as InReg, Slot}

-- a place: a real register, or `sN`
abbrev pub place_text : Place → List ℕ
place_text (InReg p) = real_text p
place_text (Slot n) = 115 ∷ decimal n

-- the register is one of its class, and a slot's number is below 65536
abbrev pub IsPlace : Place → Type 0
IsPlace (InReg p) = IsRegister p
IsPlace (Slot n) = n < 65536

-- the place that a word spells
abbrev pub place_of : List ℕ → Place
place_of w = if slice_index w 0 == 115 then Slot (natural_of W16 (drop 1 w)) else InReg (real_register_of w)

-- what a line of a plan says
pub data PlanLine : Type 0 where
  Heading : PlanLine
  Opening : PlanLine
  Held : Place → Reg → PlanLine
  Moving : Place → Place → PlanLine
  Stepping : List Reg → PlanLine
  Closing : PlanLine

-- `plan`, `block`, `entry PLACE=REG`, `move TO FROM`, `step [R,R]` and `close`, without a line feed
abbrev pub line_text : PlanLine → List ℕ
line_text Heading = codes "plan"
line_text Opening = codes "block"
line_text (Held place vreg) = codes "entry" ++ (32 ∷ (place_text place ++ (61 ∷ reg_text vreg)))
line_text (Moving to from) = codes "move" ++ (32 ∷ (place_text to ++ (32 ∷ place_text from)))
line_text (Stepping regs) = codes "step" ++ (32 ∷ list_text reg_text regs)
line_text Closing = codes "close"

-- its places and registers lie in their ranges
abbrev pub IsLine : PlanLine → Type 0
IsLine (Held place vreg) = IsPlace place × IsReg vreg
IsLine (Moving to from) = IsPlace to × IsPlace from
IsLine (Stepping regs) = AllItems IsReg regs
IsLine l = Unit {0}

-- the register behind one mark
abbrev pub step_register_of : List ℕ → Reg
step_register_of s = reg_of (word s)

-- what a line says, by its first letter; some line for any other text
abbrev pub line_of : List ℕ → PlanLine
line_of w =
    if slice_index w 0 == 112 then Heading
    else if slice_index w 0 == 98 then Opening
    else if slice_index w 0 == 101 then Held (place_of (word (drop 5 w))) (reg_of (word (after_word (drop 5 w))))
    else if slice_index w 0 == 109 then Moving (place_of (word (drop 4 w))) (place_of (word (after_word (drop 4 w))))
    else if slice_index w 0 == 115 then Stepping (list_of step_register_of (drop 5 w))
    else Closing
