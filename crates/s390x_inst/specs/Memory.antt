-- Memory operands.
use Rattle.std.specs.Prelude.{true, None}
use Rattle.s390x_base.specs.AccessFlags.{AccessFlags}
use Rattle.s390x_inst.specs.declared.args.MemArg.{MemArg}
use Rattle.s390x_inst.specs.declared.args.MemArg.TheVariants.{BXD12, BXD20, Label, Constant, Symbol, RegOffset, InitialSPOffset, IncomingArgOffset, OutgoingArgOffset, SlotOffset, SpillOffset}

-- an aligned access that doesn't trap
abbrev pub trusted : AccessFlags
trusted = record { aligned = true; trap = None }

-- what is known of an operand's access: its flags, or where its form has none, that it is trusted
abbrev pub flags_of : MemArg → AccessFlags
flags_of (BXD12 base index disp flags) = flags
flags_of (BXD20 base index disp flags) = flags
flags_of (Label target) = trusted
flags_of (Constant c) = trusted
flags_of (Symbol name offset flags) = flags
flags_of (RegOffset reg off flags) = flags
flags_of (InitialSPOffset off) = trusted
flags_of (IncomingArgOffset off) = trusted
flags_of (OutgoingArgOffset off) = trusted
flags_of (SlotOffset off) = trusted
flags_of (SpillOffset off) = trusted
