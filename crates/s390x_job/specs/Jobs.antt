-- The text of a job.
use Rattle.std.specs.Prelude.{◌≡◌, ℕ, suc, List, [], ◌∷◌, ◌++◌, map, length, codes, Some, None, if◌then◌else◌, ◌==◌}
use Rattle.std.specs.Str.{bytes_eq}
use Rattle.s390x_base.specs.Registers.{RealRegister, general, vector}
use Rattle.s390x_base.specs.declared.ir.ConstantData.{ConstantData}
use Rattle.s390x_inst.specs.State.{fresh_emission}
use Rattle.s390x_inst.specs.declared.calls.CallConv.{CallConv}
use Rattle.s390x_inst.specs.declared.calls.CallConv.TheVariants.{SystemV}
use Rattle.s390x_inst.specs.declared.state.FrameLayout.{FrameLayout}
use Rattle.s390x_inst.specs.declared.state.IsaFlags.{IsaFlags}
use Rattle.s390x_inst.specs.declared.function.Block.{Block}
use Rattle.s390x_inst.specs.declared.inst.Inst.{Inst, Row_of-Inst, end_of-Inst, more_of-Inst}
use Rattle.s390x_inst.specs.declared.inst.Inst.TheVariants.{Loop'}
use Rattle.s390x_job_lines.specs.Line.{Line, line_text, fields_text, IsLine}
use Rattle.s390x_job_lines.specs.Instructions.{inst_line}
use Rattle.s390x_job.specs.Items.{flags_line, frame_line, constant_line, symbol_line, register_line, memory_line, block_line, loop_line, close_line, end_line}
use Rattle.s390x_job.specs.Grammar.{run, Header, AtEnd}
use Rattle.s390x_job.specs.declared.job.Job.{Job}
use Rattle.s390x_job.specs.declared.job.StartRegs.{StartRegs}
use Rattle.s390x_job.specs.declared.job.SymbolLine.{SymbolLine}
use Rattle.s390x_job.specs.declared.job.MemLine.{MemLine}

abbrev mutual
  -- the lines of an instruction, with those of a loop's members
  pub inst_lines : Inst → List Line
  inst_lines (Loop' cond body members) = loop_line cond ∷ (row_lines members ++ close_line ∷ [])
  inst_lines i = inst_line i ∷ []

  -- the lines of a loop's members
  pub row_lines : {m : _} → Row_of-Inst m → List Line
  row_lines end_of-Inst = []
  row_lines (more_of-Inst i rest) = inst_lines i ++ row_lines rest

-- the lines of instructions, in order
abbrev pub insts_lines : List Inst → List Line
insts_lines [] = []
insts_lines (i ∷ is) = inst_lines i ++ insts_lines is

-- the lines of blocks: each has its own line, and those of its instructions follow
abbrev pub blocks_lines : List Block → List Line
blocks_lines [] = []
blocks_lines (b ∷ bs) = block_line ∷ (insts_lines b.insts.items ++ blocks_lines bs)

-- a line `flags` exactly where a facility is set
abbrev pub flags_lines : IsaFlags → List Line
flags_lines f = if bytes_eq (fields_text (flags_line f).fields) [] then [] else flags_line f ∷ []

-- a line `frame` exactly where it says something else than its absence
abbrev pub frame_lines : CallConv → FrameLayout → List Line
frame_lines conv layout =
    if bytes_eq (fields_text (frame_line conv layout).fields) (codes " SystemV 0 0 0 0 0 0 - 0") then [] else frame_line conv layout ∷ []

-- the frame of a job without a line `frame`: no sizes, and no saved registers
abbrev pub plain_layout : FrameLayout
plain_layout = record { incoming_args_size = 0; tail_args_size = 0; clobber_size = 0; fixed_frame_storage_size = 0; stackslots_size = 0; outgoing_args_size = 0; first_saved_gpr = None; saved_fprs = 0 }

-- a frame without a line is that one, under the convention `SystemV`
abbrev pub IsPlainWithoutLine : CallConv → FrameLayout → Type 0
IsPlainWithoutLine conv layout = frame_lines conv layout ≡ [] → (conv ≡ SystemV) × (layout ≡ plain_layout)

-- a line for each register that does not start at zero, the registers counted from a number on
abbrev pub start_lines : (ℕ → RealRegister) → ℕ → List ℕ → List Line
start_lines of n [] = []
start_lines of n (v ∷ vs) = if v == 0 then start_lines of (suc n) vs else register_line (of n) v ∷ start_lines of (suc n) vs

-- the lines of the registers that do not start at zero, general ones first
abbrev pub registers_lines : StartRegs → List Line
registers_lines r = start_lines general 0 r.general ++ start_lines vector 0 r.vector

-- the lines before the blocks
abbrev pub head_lines : IsaFlags → CallConv → FrameLayout → List ConstantData → List SymbolLine → StartRegs → List MemLine → List Line
head_lines flags conv layout constants symbols registers memory =
    flags_lines flags ++ (frame_lines conv layout ++ (map constant_line constants ++ (map symbol_line symbols ++ (registers_lines registers ++ map memory_line memory))))

-- all lines of a job, in order
abbrev pub job_lines : Job → List Line
job_lines j =
    head_lines j.info.isa_flags j.conv j.state.layout j.function.constants.items j.symbols.items j.registers j.memory.items ++ (blocks_lines j.function.blocks.items ++ end_line ∷ [])

-- the text of lines, each with its line feed
abbrev pub lines_text : List Line → List ℕ
lines_text [] = []
lines_text (l ∷ ls) = line_text l ++ (10 ∷ lines_text ls)

-- the text of a job
abbrev pub text_of_job : Job → List ℕ
text_of_job j = lines_text (job_lines j)

-- each line has the fields of its name, in their ranges
abbrev pub AllLines : List Line → Type 0
AllLines [] = Unit {0}
AllLines (l ∷ ls) = IsLine l × AllLines ls

-- a job that keeps the order and the limits: the numbers lie in the ranges of their fields' types, the lines
-- stand in their order, and the state is the one at the beginning of a function
pub record IsJob (j : Job) : Type 0 where
  pub lines : AllLines (job_lines j)
  pub order : run (Some (Header 0 0)) (job_lines j) ≡ Some AtEnd
  pub state : j.state ≡ fresh_emission j.state.layout j.conv
  pub frame : IsPlainWithoutLine j.conv j.state.layout
  pub general_count : length j.registers.general ≡ 16
  pub vector_count : length j.registers.vector ≡ 32
