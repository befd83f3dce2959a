-- The lines of a job, read back to what emission and linking read of it.
use Rattle.std.proofs.Common.{◌≡◌, ℕ, suc, List, [], ◌∷◌, ◌++◌, map, refl, sym, ap, ap₂, ◌∙◌, append_assoc, Bool, true, false}
use Rattle.std.specs.Prelude.{codes, ◌==◌, if◌then◌else◌}
use Rattle.std.specs.Str.{bytes_eq}
use Rattle.s390x_base.specs.Registers.{RealRegister, general, vector}
use Rattle.s390x_base.specs.declared.ir.ConstantData.{ConstantData}
use Rattle.s390x_inst.specs.declared.calls.CallConv.{CallConv}
use Rattle.s390x_inst.specs.declared.calls.CallConv.TheVariants.{SystemV}
use Rattle.s390x_inst.specs.declared.state.FrameLayout.{FrameLayout}
use Rattle.s390x_inst.specs.declared.state.IsaFlags.{IsaFlags}
use Rattle.s390x_inst.specs.declared.function.Block.{Block}
use Rattle.s390x_inst.specs.declared.inst.Inst.{Inst, Row_of-Inst, end_of-Inst, more_of-Inst}
use Rattle.s390x_inst.specs.declared.inst.Inst.TheVariants.{Loop', Vector}
use Rattle.s390x_inst.specs.declared.vec_inst.VecInst.{VecInst}
use Rattle.s390x_inst.specs.declared.vec_inst.VecInst.TheVariants.{VecRR}
use Rattle.s390x_buffer.specs.State.{Constant, constant_of}
use Rattle.s390x_typed_steps.specs.Tree.{Tree}
use Rattle.s390x_emit_int.specs.Function.{constants_of}
use Rattle.s390x_job_fields.specs.Fields.{Field, FNatural, FBytes, FName, FCond, FFlags, FConvention, FOption}
use Rattle.s390x_job_lines.specs.Line.{Line, fields_text}
use Rattle.s390x_job_lines.specs.Instructions.{inst_line, vector_line}
use Rattle.s390x_job.specs.Items.{frame_line, constant_line, symbol_line, register_line, memory_line, block_line, loop_line, close_line, end_line}
use Rattle.s390x_job.specs.Jobs.{plain_layout, IsPlainWithoutLine, inst_lines, row_lines, insts_lines, blocks_lines, flags_lines, frame_lines, start_lines, registers_lines, job_lines}
use Rattle.s390x_job_lines.specs.declared.name.LineName.{LineName}
use Rattle.s390x_job_lines.specs.declared.name.LineName.TheVariants as N
use Rattle.s390x_job.specs.declared.job.Job.{Job}
use Rattle.s390x_job.specs.declared.job.StartRegs.{StartRegs}
use Rattle.s390x_job.specs.declared.job.SymbolLine.{SymbolLine}
use Rattle.s390x_job.specs.declared.job.MemLine.{MemLine}
use Rattle.s390x_tool.proofs.SameTree.{LineTree, of_line, none, one, around, lines_tree}
use Rattle.s390x_tool.proofs.Frameless.{raw_prepend, raw_row, raw_tree, raw_block}

-- a convention and the layout of a frame
pub record Frame : Type 0 where
  pub conv : CallConv
  pub layout : FrameLayout

-- what was read from the last line on: the siblings so far, those of the loops around, the blocks, and what stands before them
pub record Found : Type 0 where
  pub siblings : LineTree
  pub outer : List LineTree
  pub blocks : List LineTree
  pub constants : List Constant
  pub symbols : List SymbolLine
  pub flags : IsaFlags
  pub frame : Frame

-- no facility
abbrev pub no_flags : IsaFlags
no_flags = record { has_mie3 = false; has_mie4 = false; has_vxrs_ext2 = false; has_vxrs_ext3 = false; no_relative_memory = false }

-- the frame of a job that tells none
abbrev pub no_frame : Frame
no_frame = record { conv = SystemV; layout = plain_layout }

abbrev pub nothing : Found
nothing = record { siblings = none; outer = []; blocks = []; constants = []; symbols = []; flags = no_flags; frame = no_frame }

abbrev pub after_loop : List LineTree → LineTree
after_loop [] = none
after_loop (t ∷ ts) = t

abbrev pub around_loop : List LineTree → List LineTree
around_loop [] = []
around_loop (t ∷ ts) = ts

abbrev pub mask_in : List Field → ℕ
mask_in (FCond mask ∷ fs) = mask
mask_in fs = 0

abbrev pub constant_in : List Field → List Constant → List Constant
constant_in (FNatural w align ∷ FBytes bytes ∷ fs) cs = record { bytes = bytes; align = align } ∷ cs
constant_in fs cs = cs

abbrev pub symbol_in : List Field → List SymbolLine → List SymbolLine
symbol_in (FName n ∷ FNatural w address ∷ fs) ss = record { name = record { 0 = n }; address = address } ∷ ss
symbol_in fs ss = ss

abbrev pub flags_in : List Field → IsaFlags → IsaFlags
flags_in (FFlags x ∷ fs) flags = x
flags_in fs flags = flags

abbrev pub frame_in : List Field → Frame → Frame
frame_in (FConvention conv ∷ FNatural w0 incoming ∷ FNatural w1 tail ∷ FNatural w2 clobber ∷ FNatural w3 fixed ∷ FNatural w4 slots ∷ FNatural w5 outgoing ∷ FOption w6 first ∷ FNatural w7 saved ∷ fs) frame =
    record { conv = conv; layout = record { incoming_args_size = incoming; tail_args_size = tail; clobber_size = clobber; fixed_frame_storage_size = fixed; stackslots_size = slots; outgoing_args_size = outgoing; first_saved_gpr = first; saved_fprs = saved } }
frame_in fs frame = frame

-- this frame, and all else as before
abbrev pub with_frame : Frame → Found → Found
with_frame frame f = record { siblings = f.siblings; outer = f.outer; blocks = f.blocks; constants = f.constants; symbols = f.symbols; flags = f.flags; frame = frame }

-- these facilities, and all else as before
abbrev pub with_flags : IsaFlags → Found → Found
with_flags flags f = record { siblings = f.siblings; outer = f.outer; blocks = f.blocks; constants = f.constants; symbols = f.symbols; flags = flags; frame = f.frame }

-- an instruction before its siblings
abbrev pub onto : Line → Found → Found
onto l f = record { siblings = one (of_line l) f.siblings; outer = f.outer; blocks = f.blocks; constants = f.constants; symbols = f.symbols; flags = f.flags; frame = f.frame }

abbrev pub feed : LineName → Line → Found → Found
feed N.FlagsLine l f = with_flags (flags_in l.fields f.flags) f
feed N.FrameLine l f = with_frame (frame_in l.fields f.frame) f
feed N.ConstantLine l f = record { siblings = f.siblings; outer = f.outer; blocks = f.blocks; constants = constant_in l.fields f.constants; symbols = f.symbols; flags = f.flags; frame = f.frame }
feed N.SymbolLine l f = record { siblings = f.siblings; outer = f.outer; blocks = f.blocks; constants = f.constants; symbols = symbol_in l.fields f.symbols; flags = f.flags; frame = f.frame }
feed N.RegisterLine l f = f
feed N.MemoryLine l f = f
feed N.BlockLine l f = record { siblings = none; outer = f.outer; blocks = f.siblings ∷ f.blocks; constants = f.constants; symbols = f.symbols; flags = f.flags; frame = f.frame }
feed N.Loop l f = record { siblings = around (mask_in l.fields) f.siblings (after_loop f.outer); outer = around_loop f.outer; blocks = f.blocks; constants = f.constants; symbols = f.symbols; flags = f.flags; frame = f.frame }
feed N.EndLoopLine l f = record { siblings = none; outer = f.siblings ∷ f.outer; blocks = f.blocks; constants = f.constants; symbols = f.symbols; flags = f.flags; frame = f.frame }
feed N.EndLine l f = f
feed name l f = onto l f

abbrev pub found : List Line → Found
found [] = nothing
found (l ∷ ls) = feed l.name l (found ls)

-- so many siblings, and all else as before
abbrev pub with_siblings : LineTree → Found → Found
with_siblings t f = record { siblings = t; outer = f.outer; blocks = f.blocks; constants = f.constants; symbols = f.symbols; flags = f.flags; frame = f.frame }

vector_onto : (v : VecInst) (f : Found) → feed (vector_line v).name (vector_line v) f ≡ onto (vector_line v) f
vector_onto (VecRR op rd rn) f = refl
vector_onto v f = refl

mutual
  -- an instruction is read back before the siblings t
  inst_found : (i : Inst) (t : Tree) (f : Found) (ls : List Line) → found ls ≡ with_siblings (lines_tree t) f → found (inst_lines i ++ ls) ≡ with_siblings (lines_tree (raw_prepend i t)) f
  inst_found (Loop' mask body all) t f ls e =
      let inner : Found = record { siblings = none; outer = lines_tree t ∷ f.outer; blocks = f.blocks; constants = f.constants; symbols = f.symbols; flags = f.flags; frame = f.frame } in
      ap (λ x. found (loop_line mask ∷ x)) (append_assoc (row_lines all) (close_line ∷ []) ls)
      ∙ ap (feed N.Loop (loop_line mask)) (row_found all inner (close_line ∷ ls) (ap (feed N.EndLoopLine close_line) e))
  inst_found (Vector v) t f ls e = vector_onto v (found ls) ∙ ap (onto (vector_line v)) e
  inst_found i t f ls e = ap (onto (inst_line i)) e

  row_found : {m : _} (r : Row_of-Inst m) (f : Found) (ls : List Line) → found ls ≡ with_siblings none f → found (row_lines r ++ ls) ≡ with_siblings (lines_tree (raw_row r)) f
  row_found end_of-Inst f ls e = e
  row_found (more_of-Inst i rest) f ls e =
      ap found (append_assoc (inst_lines i) (row_lines rest) ls) ∙ inst_found i (raw_row rest) f (row_lines rest ++ ls) (row_found rest f ls e)

insts_found : (is : List Inst) (f : Found) (ls : List Line) → found ls ≡ with_siblings none f → found (insts_lines is ++ ls) ≡ with_siblings (lines_tree (raw_tree is)) f
insts_found [] f ls e = e
insts_found (i ∷ is) f ls e =
    ap found (append_assoc (inst_lines i) (insts_lines is) ls) ∙ inst_found i (raw_tree is) f (insts_lines is ++ ls) (insts_found is f ls e)

-- blocks and nothing before them
abbrev blocks_alone : List LineTree → Found
blocks_alone ts = record { siblings = none; outer = []; blocks = ts; constants = []; symbols = []; flags = no_flags; frame = no_frame }

blocks_found : (bs : List Block) → found (blocks_lines bs ++ end_line ∷ []) ≡ blocks_alone (map lines_tree (map raw_block bs))
blocks_found [] = refl
blocks_found (b ∷ bs) =
    ap (λ x. found (block_line ∷ x)) (append_assoc (insts_lines b.insts.items) (blocks_lines bs) (end_line ∷ []))
    ∙ ap (feed N.BlockLine block_line) (insts_found b.insts.items (blocks_alone (map lines_tree (map raw_block bs))) (blocks_lines bs ++ end_line ∷ []) (blocks_found bs))

-- lines of which nothing is read
abbrev IsPassed : List Line → Type 0
IsPassed hs = (ls : List Line) → found (hs ++ ls) ≡ found ls

passed_append : (a b : List Line) → IsPassed a → IsPassed b → IsPassed (a ++ b)
passed_append a b p q ls = ap found (append_assoc a b ls) ∙ p (b ++ ls) ∙ q ls

-- the line `flags`, or its absence, tells the facilities
flags_found : (mie3 mie4 ext2 ext3 norel : Bool) (ls : List Line) → (found ls).flags ≡ no_flags → found (flags_lines (record { has_mie3 = mie3; has_mie4 = mie4; has_vxrs_ext2 = ext2; has_vxrs_ext3 = ext3; no_relative_memory = norel }) ++ ls) ≡ with_flags (record { has_mie3 = mie3; has_mie4 = mie4; has_vxrs_ext2 = ext2; has_vxrs_ext3 = ext3; no_relative_memory = norel }) (found ls)
flags_found true b c d n ls e = refl
flags_found false true c d n ls e = refl
flags_found false false true d n ls e = refl
flags_found false false false true n ls e = refl
flags_found false false false false true ls e = refl
flags_found false false false false false ls e = ap (λ x. with_flags x (found ls)) e

-- the line `frame`, or its absence, tells the frame
frame_if : (c : Bool) (conv : CallConv) (layout : FrameLayout) (ls : List Line) → ((if c then [] else frame_line conv layout ∷ []) ≡ [] → (conv ≡ SystemV) × (layout ≡ plain_layout)) → (found ls).frame ≡ no_frame → found ((if c then [] else frame_line conv layout ∷ []) ++ ls) ≡ with_frame (record { conv = conv; layout = layout }) (found ls)
frame_if true conv layout ls told e =
    let t = told refl in
    let make : CallConv → FrameLayout → Frame = λ x y. record { conv = x; layout = y } in
    ap (λ x. with_frame x (found ls)) (e ∙ sym (ap₂ make t.0 t.1))
frame_if false conv layout ls told e = refl

frame_found : (conv : CallConv) (layout : FrameLayout) (ls : List Line) → IsPlainWithoutLine conv layout → (found ls).frame ≡ no_frame → found (frame_lines conv layout ++ ls) ≡ with_frame (record { conv = conv; layout = layout }) (found ls)
frame_found conv layout ls told e = frame_if (bytes_eq (fields_text (frame_line conv layout).fields) (codes " SystemV 0 0 0 0 0 0 - 0")) conv layout ls told e

register_passed : (c : Bool) (l : Line) (rest ls : List Line) → ((f : Found) → feed l.name l f ≡ f) → found (rest ++ ls) ≡ found ls → found ((if c then rest else l ∷ rest) ++ ls) ≡ found ls
register_passed true l rest ls h e = e
register_passed false l rest ls h e = h (found (rest ++ ls)) ∙ e

start_passed : (of : ℕ → RealRegister) (n : ℕ) (vs : List ℕ) → IsPassed (start_lines of n vs)
start_passed of n [] ls = refl
start_passed of n (v ∷ vs) ls = register_passed (v == 0) (register_line (of n) v) (start_lines of (suc n) vs) ls (λ g. refl) (start_passed of (suc n) vs ls)

registers_passed : (r : StartRegs) → IsPassed (registers_lines r)
registers_passed r = passed_append (start_lines general 0 r.general) (start_lines vector 0 r.vector) (start_passed general 0 r.general) (start_passed vector 0 r.vector)

memory_passed : (ms : List MemLine) → IsPassed (map memory_line ms)
memory_passed [] ls = refl
memory_passed (m ∷ ms) ls = memory_passed ms ls

-- symbols and constants before what is found
abbrev with_symbols_before : List SymbolLine → Found → Found
with_symbols_before ss f = record { siblings = f.siblings; outer = f.outer; blocks = f.blocks; constants = f.constants; symbols = ss ++ f.symbols; flags = f.flags; frame = f.frame }

symbols_found : (ss : List SymbolLine) (ls : List Line) → found (map symbol_line ss ++ ls) ≡ with_symbols_before ss (found ls)
symbols_found [] ls = refl
symbols_found (s ∷ ss) ls = ap (feed N.SymbolLine (symbol_line s)) (symbols_found ss ls)

abbrev with_constants_before : List Constant → Found → Found
with_constants_before cs f = record { siblings = f.siblings; outer = f.outer; blocks = f.blocks; constants = cs ++ f.constants; symbols = f.symbols; flags = f.flags; frame = f.frame }

constants_found : (cs : List ConstantData) (ls : List Line) → found (map constant_line cs ++ ls) ≡ with_constants_before (map constant_of cs) (found ls)
constants_found [] ls = refl
constants_found (c ∷ cs) ls = ap (feed N.ConstantLine (constant_line c)) (constants_found cs ls)

-- what a job's lines say
abbrev pub Said : Job → Found
Said j = with_constants_before (constants_of j.function) (with_symbols_before j.symbols.items (blocks_alone (map lines_tree (map raw_block j.function.blocks.items))))

-- the frame of a job
abbrev pub frame_of : Job → Frame
frame_of j = record { conv = j.conv; layout = j.state.layout }

pub job_found : (j : Job) → IsPlainWithoutLine j.conv j.state.layout → found (job_lines j) ≡ with_flags j.info.isa_flags (with_frame (frame_of j) (Said j))
job_found j told =
    let f = j.info.isa_flags in
    let flags = flags_lines f in
    let frame = frame_lines j.conv j.state.layout in
    let constants = map constant_line j.function.constants.items in
    let symbols = map symbol_line j.symbols.items in
    let registers = registers_lines j.registers in
    let memory = map memory_line j.memory.items in
    let blocks = blocks_lines j.function.blocks.items ++ end_line ∷ [] in
    let last = registers ++ memory in
    let rest = constants ++ (symbols ++ last) in
    let before = with_constants_before (constants_of j.function) in
    let behind : found (rest ++ blocks) ≡ Said j =
    ap found (append_assoc constants (symbols ++ last) blocks) ∙ constants_found j.function.constants.items ((symbols ++ last) ++ blocks)
    ∙ ap before (ap found (append_assoc symbols last blocks) ∙ symbols_found j.symbols.items (last ++ blocks))
    ∙ ap (λ g. before (with_symbols_before j.symbols.items g))
    (passed_append registers memory (registers_passed j.registers) (memory_passed j.memory.items) blocks ∙ blocks_found j.function.blocks.items) in
    let said : found ((frame ++ rest) ++ blocks) ≡ with_frame (frame_of j) (Said j) =
    ap found (append_assoc frame rest blocks) ∙ frame_found j.conv j.state.layout (rest ++ blocks) told (ap (λ g. g.frame) behind) ∙ ap (with_frame (frame_of j)) behind in
    ap found (append_assoc flags (frame ++ rest) blocks)
    ∙ flags_found f.has_mie3 f.has_mie4 f.has_vxrs_ext2 f.has_vxrs_ext3 f.no_relative_memory ((frame ++ rest) ++ blocks) (ap (λ g. g.flags) said)
    ∙ ap (with_flags f) said
