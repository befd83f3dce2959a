-- Memory operands: the offset of a frame operand, the operand that stands in the access, and the helpers that come before it
-- (cranelift-codegen, `mem_finalize` in `emit.rs`).
use Rattle.std.specs.Prelude.{ℕ, ◌+◌, ℤ, pos, negsuc, ◌+ℤ◌, ◌-ℤ◌, int_le, unsigned_abs, List, [], ◌∷◌, ◌++◌, Bool, true, false, cond, not, ◌&&◌, ◌||◌, nat_eq}
use Rattle.s390x_base.specs.Registers.{general}
use Rattle.s390x_base.specs.Regs.{is_int}
use Rattle.s390x_base.specs.AccessFlags.{AccessFlags}
use Rattle.s390x_base.specs.declared.regs.Reg.{Reg}
use Rattle.s390x_base.specs.declared.regs.Reg.TheVariants.{Real, Virtual}
use Rattle.s390x_inst.specs.Emission.{Emission}
use Rattle.s390x_inst.specs.Memory.{trusted, flags_of}
use Rattle.s390x_inst.specs.declared.args.MemArg.{MemArg}
use Rattle.s390x_inst.specs.declared.args.MemArg.TheVariants.{BXD12, BXD20, Label, Constant, Symbol, RegOffset, InitialSPOffset, IncomingArgOffset, OutgoingArgOffset, SlotOffset, SpillOffset}
use Rattle.s390x_inst.specs.declared.inst.Inst.{Inst}
use Rattle.s390x_inst.specs.declared.inst.Inst.TheVariants.{Mov64SImm32, LoadAddr}
use Rattle.s390x_typed_steps.specs.General.{is_general}
use Rattle.s390x_typed_steps.specs.declared.mem_inst_type.MemInstType.{MemInstType}

-- %r0, which as a base or an index means that there is none
abbrev pub no_register : Reg
no_register = Real (general 0)

-- %r1, which helpers write
abbrev pub scratch : Reg
scratch = Real (general 1)

-- %r15, the stack pointer
abbrev pub stack_pointer : Reg
stack_pointer = Real (general 15)

-- whether it is the real general register of a number
abbrev pub is_numbered : ℕ → Reg → Bool
is_numbered n (Real r) = is_int r.class && nat_eq r.number n
is_numbered n (Virtual num class) = false

-- ---- frame operands

-- how far the stack pointer lies below its place at the function's entry
abbrev pub frame_size : Emission → ℕ
frame_size e = e.layout.clobber_size + e.layout.fixed_frame_storage_size + e.layout.outgoing_args_size + e.nominal

-- an offset from the stack pointer, of any size
abbrev pub in_frame : (off added : ℤ) → MemArg
in_frame off added = RegOffset stack_pointer (off +ℤ added) trusted

-- A frame operand as its exact offset from the stack pointer; another operand stays. Incoming arguments lie above the caller's save area of 160
-- bytes, outgoing ones above that of this function.
abbrev pub resolved_operand : Emission → MemArg → MemArg
resolved_operand e (InitialSPOffset off) = in_frame off (pos (frame_size e))
resolved_operand e (IncomingArgOffset off) = in_frame off (pos (frame_size e + e.incoming + 160))
resolved_operand e (SpillOffset off) = in_frame off (pos (e.layout.stackslots_size + e.layout.outgoing_args_size + e.nominal))
resolved_operand e (SlotOffset off) = in_frame off (pos (e.layout.outgoing_args_size + e.nominal))
resolved_operand e (OutgoingArgOffset off) = in_frame off (pos 160 -ℤ pos e.outgoing)
resolved_operand e m = m

-- ---- the operand that stands in the access

-- the instructions that come before the access, in order, and its operand
pub record Finalized : Type 0 where
  pub helpers : List Inst
  pub operand : MemArg

-- an unsigned displacement of 12 bits
abbrev pub fits_12 : ℤ → Bool
fits_12 z = int_le (pos 0) z && int_le z (pos 4095)

-- a signed displacement of 20 bits
abbrev pub fits_20 : ℤ → Bool
fits_20 z = int_le (negsuc 524287) z && int_le z (pos 524287)

-- a signed immediate of 32 bits
abbrev pub fits_32 : ℤ → Bool
fits_32 z = int_le (negsuc 2147483647) z && int_le z (pos 2147483647)

-- an offset that no displacement takes and an immediate does
abbrev pub is_far : ℤ → Bool
is_far z = fits_32 z && not (fits_12 z) && not (fits_20 z)

-- a register and an offset: as a displacement, or as an index that a helper loads. An offset past 32 bits stays, and is refused
abbrev pub with_offset : Reg → ℤ → AccessFlags → Finalized
with_offset reg off flags =
    cond (fits_12 off) (record { helpers = []; operand = BXD12 reg no_register (unsigned_abs off) flags })
    (cond (fits_20 off) (record { helpers = []; operand = BXD20 reg no_register off flags })
    (cond (fits_32 off) (record { helpers = Mov64SImm32 scratch off ∷ []; operand = BXD12 reg scratch 0 flags })
    (record { helpers = []; operand = RegOffset reg off flags })))

-- an operand with its displacement
abbrev pub with_displacement : MemArg → Finalized
with_displacement (RegOffset reg off flags) = with_offset reg off flags
with_displacement m = record { helpers = []; operand = m }

-- the rows have no form for the operand, so that its address has to be loaded first
abbrev pub needs_address : MemInstType → MemArg → Bool
needs_address mi (Label target) = not mi.have_pcrel
needs_address mi (Constant c) = not mi.have_pcrel
needs_address mi (Symbol name offset flags) = not mi.have_pcrel || (not flags.aligned && not mi.have_unaligned_pcrel)
needs_address mi (BXD12 base index disp flags) = not mi.have_index && not (is_numbered 0 index)
needs_address mi (BXD20 base index disp flags) = not mi.have_d20 || (not mi.have_index && not (is_numbered 0 index))
needs_address mi m = false

-- where that is so, LOAD ADDRESS of the operand comes before the access
abbrev pub with_address_loaded : MemInstType → Finalized → Finalized
with_address_loaded mi f =
    cond (needs_address mi f.operand) (record { helpers = f.helpers ++ LoadAddr scratch f.operand ∷ []; operand = BXD12 scratch no_register 0 (flags_of f.operand) }) f

-- a displacement of 12 bits as one of 20, where the rows have that alone
abbrev pub with_long_displacement : MemInstType → MemArg → MemArg
with_long_displacement mi (BXD12 base index disp flags) = cond (not mi.have_d12 && mi.have_d20) (BXD20 base index (pos disp) flags) (BXD12 base index disp flags)
with_long_displacement mi m = m

-- an operand with its helpers, a displacement of 12 bits as one of 20 where the rows have that alone
abbrev pub with_widened : MemInstType → Finalized → Finalized
with_widened mi f = record { helpers = f.helpers; operand = with_long_displacement mi f.operand }

-- the operand that stands in the access, and the helpers before it
abbrev pub finalized_operand : MemInstType → MemArg → Finalized
finalized_operand mi m = with_widened mi (with_address_loaded mi (with_displacement m))

-- there are helpers
abbrev pub is_helped : List Inst → Bool
is_helped [] = false
is_helped (i ∷ is) = true

-- ---- what may be refused

-- an operand whose address is relative to the instruction
abbrev pub is_relative : MemArg → Bool
is_relative (Label target) = true
is_relative (Constant c) = true
is_relative (Symbol name offset flags) = true
is_relative m = false

-- the rows have a form for it, perhaps after a helper
abbrev pub has_form : MemInstType → MemArg → Bool
has_form mi m = mi.have_d12 || mi.have_d20 || (is_relative m && not (needs_address mi m))

-- the offset is loaded into the register that it is added to
abbrev pub loses_base : MemArg → Bool
loses_base (RegOffset reg off flags) = is_numbered 1 reg && is_far off
loses_base m = false

-- the offset fits a signed immediate of 32 bits
abbrev pub offset_fits : MemArg → Bool
offset_fits (RegOffset reg off flags) = fits_32 off
offset_fits m = true

-- its registers are real Int ones
abbrev pub operand_general : MemArg → Bool
operand_general (BXD12 base index disp flags) = is_general base && is_general index
operand_general (BXD20 base index disp flags) = is_general base && is_general index
operand_general (RegOffset reg off flags) = is_general reg
operand_general m = true
