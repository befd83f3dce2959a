-- Where no cause stands, each target is a block or a declared constant.
use Rattle.s390x_buffer.specs.declared.entries.TryHandler.{TryHandler}
use Rattle.s390x_typed_steps.specs.Calls.{is_target, site_labels}
use Rattle.s390x_base.specs.declared.regs.Reg.{Reg}
use Rattle.s390x_inst.specs.declared.calls.CallInstDest.TheVariants.{Direct, Indirect}
use Rattle.s390x_inst.specs.declared.calls.CallInstDest.{CallInstDest}
use Rattle.s390x_typed_steps.specs.StepBody.{Site, AtCall, AtTry}
use Rattle.std.proofs.Common.{◌≡◌, ℕ, ◌+◌, ◌<◌, List, [], ◌∷◌, ◌++◌, length, Bool, true, false, cond, Option, Some, None, not, ◌&&◌, nat_lt, nat_eq, ◌||◌, map, refl}
use Rattle.std.specs.Prelude.{pos}
use Rattle.std.proofs.lemmas.Bool.{ltb-true}
use Rattle.s390x_inst.specs.declared.state.IsaFlags.{IsaFlags}
use Rattle.s390x_base.specs.declared.ir.MachLabel.{MachLabel}
use Rattle.s390x_base.specs.declared.trap.TrapKind.{TrapKind}
use Rattle.s390x_base.specs.declared.error.EmitError.{EmitError}
use Rattle.s390x_base.specs.declared.error.EmitError.TheVariants.{BadOperator, BadRegister, ScratchConflict, UnboundLabel, BadStackState}
use Rattle.s390x_inst.specs.declared.inst.Inst.{Inst}
use Rattle.s390x_inst.specs.Memory.{flags_of}
use Rattle.s390x_inst.specs.declared.args.MemArg.{MemArg}
use Rattle.s390x_inst.specs.declared.args.MemArg.TheVariants.{BXD12, BXD20, RegOffset, Label, Constant, Symbol}
use Rattle.s390x_inst.specs.declared.inst.Inst.TheVariants as I
use Rattle.s390x_typed_steps.specs.Tree.{Tree, empty, leaf, loop_node, NothingLeft, BranchLeft, Whole, Loaded, Folded, StepBody, CallStep, NoLoad, TailOpening, TailJump}
use Rattle.s390x_typed_steps.specs.MachineInstruction.{MachineInstruction}
use Rattle.s390x_typed_steps.specs.Operands.{Finalized, finalized_operand, with_displacement, with_address_loaded, with_long_displacement, needs_address, scratch, no_register, is_relative, has_form, operand_general, fits_12, fits_20, fits_32}
use Rattle.s390x_typed_steps.specs.declared.mem_inst_type.MemInstType.{MemInstType}
use Rattle.s390x_typed_steps.specs.VectorComposite.{composite_rows}
use Rattle.s390x_typed_steps.specs.Parts.{CodePart, parts_or, memory_or, memory_parts, trap_here, relative_part, relative_parts, access_parts, operand_parts, helper_parts, helpers_parts, instruction_parts, table_words, row_parts, call_part, tail_part, site_parts}
use Rattle.s390x_typed_steps.specs.Memory.{StorageForm, RxForm, MemoryInstruction, memory, loaded_memory, type_of, storage_row, address_form, fault_code}
use Rattle.s390x_typed_steps.specs.SingleInstruction.{SingleInstruction, single_instruction, stop_code}
use Rattle.s390x_typed_steps.specs.General.{is_general, is_nonzero, is_scratch}
use Rattle.s390x_typed_steps.specs.Causes.{Declared, first_emit_cause, unless, target_label_cause, labels_cause, bound_cause, late_cause, memory_cause, branch_cause, memory_cause_or, cause_or, facility_cause, instruction_cause, leaf_cause, fresh_labels, nesting_cause, numbers_cause, tree_cause, blocks_cause, stack_cause, block_cause, body_cause, body_fresh_labels, body_nominal_after}
use Rattle.s390x_typed_steps.proofs.Causes.{first_left, first_right, unless_true}
use Rattle.s390x_emit_int.specs.Bound.{PartsName, TreeNames, TreesName, BodyNames, HandlersName}

label_below : (blocks : ℕ) (l : MachLabel) → target_label_cause blocks l ≡ None → l.0 < blocks
label_below blocks l h = ltb-true l.0 blocks (unless_true (nat_lt l.0 blocks) UnboundLabel h)

names_append : (blocks constants : ℕ) (a b : List CodePart) → PartsName blocks constants a → PartsName blocks constants b → PartsName blocks constants (a ++ b)
names_append blocks constants [] b h k = k
names_append blocks constants (part ∷ a) b h k = (h.0, names_append blocks constants a b h.1 k)

-- ---- an instruction with a memory operand: the operand's label is a block's, and its constant is declared

module _ (D : Declared) where
  -- so is what a helper's operand names
  abbrev HelperBound : Inst → Type 0
  HelperBound (I.LoadAddr rd mem) = bound_cause D mem ≡ None
  HelperBound _ = Unit {0}

  abbrev HelpersBound : List Inst → Type 0
  HelpersBound [] = Unit {0}
  HelpersBound (i ∷ is) = HelperBound i × HelpersBound is

  record FinalBound (f : Finalized) : Type 0 where
    helpers : HelpersBound f.helpers
    operand : bound_cause D f.operand ≡ None

  either_bound : (b : Bool) (x y : Finalized) → FinalBound x → FinalBound y → FinalBound (cond b x y)
  either_bound true x y h k = h
  either_bound false x y h k = k

  displaced_bound : (m : MemArg) → bound_cause D m ≡ None → FinalBound (with_displacement m)
  displaced_bound (RegOffset reg off flags) h =
      either_bound (fits_12 off) _ _ (record { helpers = tt; operand = refl })
      (either_bound (fits_20 off) _ _ (record { helpers = tt; operand = refl })
      (either_bound (fits_32 off) _ _ (record { helpers = (tt, tt); operand = refl }) (record { helpers = tt; operand = refl })))
  displaced_bound m h = record { helpers = tt; operand = h }

  one_more_bound : (is : List Inst) (i : Inst) → HelpersBound is → HelperBound i → HelpersBound (is ++ i ∷ [])
  one_more_bound [] i h k = (k, tt)
  one_more_bound (j ∷ is) i h k = (h.0, one_more_bound is i h.1 k)

  addressed_bound : (mi : MemInstType) (f : Finalized) → FinalBound f → FinalBound (with_address_loaded mi f)
  addressed_bound mi f h =
      either_bound (needs_address mi f.operand) (record { helpers = f.helpers ++ I.LoadAddr scratch f.operand ∷ []; operand = BXD12 scratch no_register 0 (flags_of f.operand) }) f
      (record { helpers = one_more_bound f.helpers (I.LoadAddr scratch f.operand) h.helpers h.operand; operand = refl }) h

  either_operand : (b : Bool) (x y : MemArg) → bound_cause D x ≡ None → bound_cause D y ≡ None → bound_cause D (cond b x y) ≡ None
  either_operand true x y h k = h
  either_operand false x y h k = k

  widened_operand : (mi : MemInstType) (m : MemArg) → bound_cause D m ≡ None → bound_cause D (with_long_displacement mi m) ≡ None
  widened_operand mi (BXD12 base index disp flags) h = either_operand (not mi.have_d12 && mi.have_d20) (BXD20 base index (pos disp) flags) (BXD12 base index disp flags) refl refl
  widened_operand mi m h = h

  final_bound : (mi : MemInstType) (m : MemArg) → bound_cause D m ≡ None → FinalBound (finalized_operand mi m)
  final_bound mi m h =
      let f = addressed_bound mi (with_displacement m) (displaced_bound m h) in
      record { helpers = f.helpers; operand = widened_operand mi (with_address_loaded mi (with_displacement m)).operand f.operand }

  -- the same of parts
  abbrev Named : List CodePart → Type 0
  Named parts = PartsName D.blocks (length D.aligns) parts

  access_named : (o : Option MachineInstruction) (code : Option TrapKind) → Named (access_parts o code)
  access_named None code = tt
  access_named (Some m) None = (tt, tt)
  access_named (Some m) (Some code) = (tt, tt)

  trap_named : (code : Option TrapKind) → Named (trap_here code)
  trap_named None = tt
  trap_named (Some code) = (tt, tt)

  relative_named : (opcode register : ℕ) (m : MemArg) → bound_cause D m ≡ None → Named (relative_part opcode register m)
  relative_named opcode register (Label target) h = (label_below D.blocks target h, tt)
  relative_named opcode register (Constant c) h = (ltb-true c.0 (length D.aligns) (unless_true (nat_lt c.0 (length D.aligns)) UnboundLabel h), tt)
  relative_named opcode register (Symbol name offset flags) h = (tt, tt)
  relative_named opcode register m h = tt

  form_named : (form : StorageForm) (code : Option TrapKind) (m : MemArg) → bound_cause D m ≡ None → Named (relative_parts form code m)
  form_named (RxForm register rx_opcode rxy_opcode (Some opcode)) code m h = names_append D.blocks (length D.aligns) (trap_here code) (relative_part opcode register m) (trap_named code) (relative_named opcode register m h)
  form_named form code m h = tt

  either_named : (b : Bool) (x y : List CodePart) → Named x → Named y → Named (cond b x y)
  either_named true x y h k = h
  either_named false x y h k = k

  operand_named : (form : StorageForm) (code : Option TrapKind) (m : MemArg) → bound_cause D m ≡ None → Named (operand_parts form code m)
  operand_named form code m h = either_named (is_relative m) (relative_parts form code m) (access_parts (storage_row form m) code) (form_named form code m h) (access_named (storage_row form m) code)

  helper_named : (i : Inst) → HelperBound i → Named (helper_parts i)
  helper_named (I.Mov64SImm32 rd imm) h = (tt, tt)
  helper_named (I.LoadAddr rd mem) h = operand_named (address_form rd) None mem h
  helper_named i h = tt

  helpers_named : (is : List Inst) → HelpersBound is → Named (helpers_parts is)
  helpers_named [] h = tt
  helpers_named (i ∷ is) h = names_append D.blocks (length D.aligns) (helper_parts i) (helpers_parts is) (helper_named i h.0) (helpers_named is h.1)

  memory_named : (x : MemoryInstruction) → memory_cause D x ≡ None → Named (memory_parts x)
  memory_named x h =
      let placed = first_right (late_cause x) _ (first_right (unless (x.operands_valid && operand_general x.operand) BadRegister) _ (first_right (unless (has_form (type_of x.form x.accesses) x.operand) BadOperator) _ h)) in
      let f = finalized_operand (type_of x.form x.accesses) x.operand in
      let b = final_bound (type_of x.form x.accesses) x.operand (first_left _ _ placed) in
      names_append D.blocks (length D.aligns) (helpers_parts f.helpers) (operand_parts x.form (fault_code x) f.operand) (helpers_named f.helpers b.helpers) (operand_named x.form (fault_code x) f.operand b.operand)

  memory_names : (o : Option MemoryInstruction) (last : Option EmitError) → memory_cause_or D o last ≡ None → Named (memory_or o [])
  memory_names None last h = tt
  memory_names (Some x) last h = memory_named x h

  single_names : (o : Option SingleInstruction) (code : Option TrapKind) (m : Option MemoryInstruction) (last : Option EmitError) → cause_or o (memory_cause_or D m last) ≡ None → Named (parts_or o code (memory_or m []))
  single_names None code m last h = memory_names m last h
  single_names (Some x) None m last h = (tt, tt)
  single_names (Some x) (Some code) m last h = (tt, tt)

words_name : (blocks constants before : ℕ) (ls : List MachLabel) → labels_cause blocks ls ≡ None → PartsName blocks constants (table_words before ls)
words_name blocks constants before [] h = tt
words_name blocks constants before (l ∷ ls) h = (label_below blocks l (first_left _ _ h), words_name blocks constants (before + 4) ls (first_right (target_label_cause blocks l) _ h))

rows_name : (blocks constants : ℕ) (ms : List MachineInstruction) → PartsName blocks constants (row_parts ms)
rows_name blocks constants [] = tt
rows_name blocks constants (m ∷ ms) = (tt, rows_name blocks constants ms)

-- one machine instruction, an access, or several machine instructions
vector_names : (D : Declared) (o : Option SingleInstruction) (code : Option TrapKind) (m : Option MemoryInstruction) (ms : List MachineInstruction) (last : Option EmitError) → cause_or o (memory_cause_or D m last) ≡ None → PartsName D.blocks (length D.aligns) (parts_or o code (memory_or m (row_parts ms)))
vector_names D None code None ms last h = rows_name D.blocks (length D.aligns) ms
vector_names D None code (Some x) ms last h = memory_named D x h
vector_names D (Some x) None m ms last h = (tt, tt)
vector_names D (Some x) (Some code) m ms last h = (tt, tt)

leaf_names : (flags : IsaFlags) (D : Declared) (nominal depth : ℕ) (i : Inst) → instruction_cause flags D nominal depth i ≡ None → PartsName D.blocks (length D.aligns) (instruction_parts i)
leaf_names flags D nominal depth (I.Jump dest) h = (label_below D.blocks dest h, tt)
leaf_names flags D nominal depth (I.CondBr taken not_taken mask) h = (label_below D.blocks taken (first_left _ _ h), (label_below D.blocks not_taken (first_right (target_label_cause D.blocks taken) _ h), tt))
leaf_names flags D nominal depth (I.IndirectBr rn targets) h = (tt, tt)
leaf_names flags D nominal depth (I.Ret link) h = (tt, tt)
leaf_names flags D nominal depth (I.JTSequence ridx other mask targets) h =
    let named = first_right (unless (not (is_scratch ridx)) ScratchConflict) _ (first_right (unless (is_general ridx && is_nonzero ridx) BadRegister) _ h) in
    (label_below D.blocks other (first_left _ _ named), (tt, (tt, (tt, words_name D.blocks (length D.aligns) 0 targets.items (first_right (target_label_cause D.blocks other) _ named)))))
leaf_names flags D nominal depth (I.LabelAddress dst label) h = (label_below D.blocks label (first_right (unless (is_general dst) BadRegister) _ h), tt)
leaf_names flags D nominal depth (I.LoadSymbolReloc rd reloc) h = (tt, (tt, (tt, tt)))
leaf_names flags D nominal depth (I.Trap code) h = (tt, tt)
leaf_names flags D nominal depth (I.TrapIf mask code) h = (tt, tt)
leaf_names flags D nominal depth I.Debugtrap h = (tt, tt)
leaf_names flags D nominal depth (I.Vector v) h = vector_names D (single_instruction (I.Vector v)) (stop_code (I.Vector v)) (memory (I.Vector v)) (composite_rows v) (branch_cause D.blocks depth (I.Vector v)) (first_right (facility_cause flags (I.Vector v)) _ h)
leaf_names flags D nominal depth i h = single_names D (single_instruction i) (stop_code i) (memory i) (branch_cause D.blocks depth i) (first_right (stack_cause nominal depth i) _ (first_right (facility_cause flags i) _ h))

-- ---- the steps of calls

handlers_name : (count : ℕ) (hs : List TryHandler) (ls : List MachLabel) → labels_cause count (map (λ (h : TryHandler). h.label) hs ++ ls) ≡ None → HandlersName count hs × (labels_cause count ls ≡ None)
handlers_name count [] ls h = (tt, h)
handlers_name count (x ∷ hs) ls h =
    let rest = handlers_name count hs ls (first_right (target_label_cause count x.label) _ h) in
    ((label_below count x.label (first_left _ _ h), rest.0), rest.1)

sites_name : (count constants : ℕ) (ss : List Site) → labels_cause count (site_labels ss) ≡ None → PartsName count constants (site_parts ss)
sites_name count constants [] h = tt
sites_name count constants (AtTry handlers sp_to_fp ∷ ss) h = let p = handlers_name count handlers (site_labels ss) h in (p.0, sites_name count constants ss p.1)
sites_name count constants (s ∷ ss) h = (tt, sites_name count constants ss h)

call_names : (count constants : ℕ) (link : Reg) (target : CallInstDest) (ss : List Site) → labels_cause count (site_labels ss) ≡ None → PartsName count constants (call_part link target ∷ site_parts ss)
call_names count constants link (Direct name) ss h = (tt, sites_name count constants ss h)
call_names count constants link (Indirect reg) ss h = (tt, sites_name count constants ss h)

jump_names : (count constants : ℕ) (target : CallInstDest) → PartsName count constants (tail_part target ∷ site_parts (AtCall ∷ []))
jump_names count constants (Direct name) = (tt, (tt, tt))
jump_names count constants (Indirect reg) = (tt, (tt, tt))

body_names : (flags : IsaFlags) (D : Declared) (n nominal depth : ℕ) (b : StepBody) → body_cause flags D n nominal depth b ≡ None → BodyNames D.blocks (length D.aligns) b
body_names flags D n nominal depth (Whole i) h = leaf_names flags D nominal depth i (first_left _ _ h)
body_names flags D n nominal depth (Loaded i) h = memory_names D (loaded_memory i) (Some BadOperator) (first_right (facility_cause flags i) _ (first_left _ _ h))
body_names flags D n nominal depth (Folded NothingLeft i) h = tt
body_names flags D n nominal depth (Folded (BranchLeft mask b) i) h = (ltb-true b D.blocks (unless_true (nat_lt b D.blocks) UnboundLabel (first_right (leaf_cause flags D n nominal depth i) _ h)), tt)
body_names flags D n nominal depth (CallStep c) h =
    let stack = unless (nat_eq c.popped nominal && (nat_eq c.popped 0 || nat_eq depth 0)) BadStackState in
    call_names D.blocks (length D.aligns) c.link c.target c.sites (first_right stack _ (first_right (unless (is_general c.link && is_target c.target) BadRegister) _ h))
body_names flags D n nominal depth NoLoad h = tt
body_names flags D n nominal depth (TailOpening target first_saved is_lost) h = tt
body_names flags D n nominal depth (TailJump target) h = jump_names D.blocks (length D.aligns) target

pub tree_names : (flags : IsaFlags) (D : Declared) (n nominal depth : ℕ) (t : Tree) → tree_cause flags D n nominal depth t ≡ None → TreeNames D.blocks (length D.aligns) t
tree_names flags D n nominal depth empty h = tt
tree_names flags D n nominal depth (leaf b rest) h =
    (body_names flags D n nominal depth b (first_left _ _ h), tree_names flags D (n + body_fresh_labels b) (body_nominal_after nominal b) depth rest (first_right (body_cause flags D n nominal depth b) _ h))
tree_names flags D n nominal depth (loop_node mask members rest) h =
    let inner = first_left _ _ h in (
      tree_names flags D (n + 2) nominal (depth + 1) members (first_right (first_emit_cause (nesting_cause depth) (numbers_cause n 2)) _ inner),
      tree_names flags D (n + 2 + fresh_labels members) nominal depth rest (first_right (first_emit_cause (first_emit_cause (nesting_cause depth) (numbers_cause n 2)) (tree_cause flags D (n + 2) nominal (depth + 1) members)) _ h),
    )

pub all_names : (flags : IsaFlags) (D : Declared) (n : ℕ) (ts : List Tree) → blocks_cause flags D n ts ≡ None → TreesName D.blocks (length D.aligns) ts
all_names flags D n [] h = tt
all_names flags D n (t ∷ ts) h = (tree_names flags D n 0 0 t (first_left _ _ (first_left _ _ h)), all_names flags D (n + fresh_labels t) ts (first_right (block_cause flags D n t) _ h))
