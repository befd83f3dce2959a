-- The parts of a job, line by line.
use Rattle.std.specs.Prelude.{◌≡◌, ℕ, ◌<◌, [], ◌∷◌}
use Rattle.s390x_base.specs.Registers.{RealRegister, general, vector}
use Rattle.s390x_base.specs.declared.ir.ConstantData.{ConstantData}
use Rattle.s390x_inst.specs.declared.calls.CallConv.{CallConv}
use Rattle.s390x_inst.specs.declared.state.FrameLayout.{FrameLayout}
use Rattle.s390x_inst.specs.declared.state.IsaFlags.{IsaFlags}
use Rattle.s390x_job_fields.specs.Numbers.{W8, W16, W32, W64}
use Rattle.s390x_job_fields.specs.Fields.{FFlags, FConvention, FNatural, FOption, FBytes, FName, FStart, FCond}
use Rattle.s390x_job_lines.specs.Line.{Line}
use Rattle.s390x_job_lines.specs.Instructions.{inst_line}
use Rattle.s390x_job.specs.Grammar.{class, Instruction}
use Rattle.s390x_job_lines.specs.declared.name.LineName.TheVariants as N
use Rattle.s390x_job.specs.declared.job.SymbolLine.{SymbolLine}
use Rattle.s390x_job.specs.declared.job.MemLine.{MemLine}
use Rattle.s390x_job.specs.declared.item.Item.{Item}
use Rattle.s390x_job.specs.declared.item.Item.TheVariants as Is

-- `flags` and the facilities that are set
abbrev pub flags_line : IsaFlags → Line
flags_line f = record { name = N.FlagsLine; fields = FFlags f ∷ [] }

-- `frame`, the convention, the six sizes, the first saved register and the saved float registers
abbrev pub frame_line : CallConv → FrameLayout → Line
frame_line conv l = record { name = N.FrameLine; fields = FConvention conv ∷ FNatural W32 l.incoming_args_size ∷ FNatural W32 l.tail_args_size ∷ FNatural W32 l.clobber_size ∷ FNatural W32 l.fixed_frame_storage_size ∷ FNatural W32 l.stackslots_size ∷ FNatural W32 l.outgoing_args_size ∷ FOption W8 l.first_saved_gpr ∷ FNatural W16 l.saved_fprs ∷ [] }

-- `const`, the alignment and the bytes of a constant
abbrev pub constant_line : ConstantData → Line
constant_line c = record { name = N.ConstantLine; fields = FNatural W32 c.align ∷ FBytes c.bytes.items ∷ [] }

-- `symbol`, a name and its address
abbrev pub symbol_line : SymbolLine → Line
symbol_line s = record { name = N.SymbolLine; fields = FName s.name.0 ∷ FNatural W64 s.address ∷ [] }

-- `reg`, a register and the value with which it starts
abbrev pub register_line : RealRegister → ℕ → Line
register_line r v = record { name = N.RegisterLine; fields = FStart r v ∷ [] }

-- `mem`, the address of a region and its bytes
abbrev pub memory_line : MemLine → Line
memory_line m = record { name = N.MemoryLine; fields = FNatural W64 m.address ∷ FBytes m.bytes.items ∷ [] }

-- `block`, which begins a block
abbrev pub block_line : Line
block_line = record { name = N.BlockLine; fields = [] }

-- `Loop` and its mask; the lines of its members follow
abbrev pub loop_line : ℕ → Line
loop_line c = record { name = N.Loop; fields = FCond c ∷ [] }

-- `endloop`, behind the members of a loop
abbrev pub close_line : Line
close_line = record { name = N.EndLoopLine; fields = [] }

-- `end`, the last line
abbrev pub end_line : Line
end_line = record { name = N.EndLine; fields = [] }

-- the line of a part
abbrev pub item_line : Item → Line
item_line (Is.Flags f) = flags_line f
item_line (Is.Frame f) = frame_line f.conv f.layout
item_line (Is.Constant c) = constant_line c
item_line (Is.Symbol s) = symbol_line s
item_line (Is.General r) = register_line (general r.number) r.value
item_line (Is.Vector r) = register_line (vector r.number) r.value
item_line (Is.Memory m) = memory_line m
item_line Is.Block = block_line
item_line (Is.Open c) = loop_line c
item_line Is.Close = close_line
item_line Is.End = end_line
item_line (Is.One i) = inst_line i

-- a register has its number, and an instruction that is read alone is no loop
abbrev pub IsItem : Item → Type 0
IsItem (Is.General r) = r.number < 16
IsItem (Is.Vector r) = r.number < 32
IsItem (Is.One i) = class (inst_line i) ≡ Instruction
IsItem i = Unit {0}
