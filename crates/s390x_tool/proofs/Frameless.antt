-- Trees of instructions as they are given, and the lines of the bodies that emission makes of them.
use Rattle.std.proofs.Common.{◌≡◌, ℕ, Bool, true, false, cond, List, [], ◌∷◌, ◌++◌, map, Option, Some, None, refl, ap, ap₂, ◌∙◌}
use Rattle.std.proofs.lemmas.List.{map-append}
use Rattle.s390x_base.specs.declared.regs.Reg.{Reg}
use Rattle.s390x_inst.specs.Emission.{Emission}
use Rattle.s390x_inst.specs.Frames.{caller_at}
use Rattle.s390x_inst.specs.declared.calls.CallInfo.{CallInfo}
use Rattle.s390x_inst.specs.declared.calls.CallInstDest.{CallInstDest}
use Rattle.s390x_inst.specs.declared.calls.CallRetPair.{CallRetPair}
use Rattle.s390x_inst.specs.declared.calls.TryCallInfo.{TryCallInfo}
use Rattle.s390x_inst.specs.declared.function.Block.{Block}
use Rattle.s390x_inst.specs.declared.inst.Inst.{Inst, Row_of-Inst, end_of-Inst, more_of-Inst}
use Rattle.s390x_inst.specs.declared.inst.Inst.TheVariants.{Loop', Call, Jump, Vector}
use Rattle.s390x_inst.specs.declared.state.FrameLayout.{FrameLayout}
use Rattle.s390x_inst.specs.declared.vec_inst.VecInst.TheVariants.{VecRR}
use Rattle.s390x_typed_steps.specs.Calls.{behind_call, bodies, call_bodies, handler_of, load_bodies, map_site, patchable_site, return_site, safepoint, continuation_bodies, tail_bodies, without_map}
use Rattle.s390x_typed_steps.specs.Operands.{resolved_operand}
use Rattle.s390x_typed_steps.specs.Stack.{outgoing_after, outgoing_behind, state_after}
use Rattle.s390x_typed_steps.specs.StepBody.{Site, AtCall, AtTry, Calling}
use Rattle.s390x_typed_steps.specs.Tree.{StepBody, Tree, block_tree, empty, leaf, leaves, loop_node, prepend, row_tree, Whole, CallStep}
use Rattle.s390x_emit_int.specs.Function.{tree_of}
use Rattle.s390x_job_fields.specs.Calls.{TryPart, NoTry, Goes, try_part}
use Rattle.s390x_job_fields.specs.Fields.{Field, FReg, FTarget, FUses, FDefs, FSet, FNatural, FConvention, FTry, FBool, FOption, FMemory}
use Rattle.s390x_job_lines.specs.Line.{Line}
use Rattle.s390x_job_lines.specs.Instructions.{inst_line}
use Rattle.s390x_job_lines.specs.declared.inst_name.ControlName.TheVariants as ControlIs
use Rattle.s390x_job_lines.specs.declared.name.LineName.{LineName}
use Rattle.s390x_job_lines.specs.declared.name.LineName.TheVariants as N
use Rattle.s390x_job_lines.proofs.Contents.{read_line}
use Rattle.s390x_tool.proofs.SameInstruction.{held_after, nominal_read}
use Rattle.s390x_tool.proofs.SameTree.{BodyLine, of_line, of_step, body_line, LineTree, none, one, around, lines_tree, lines_for, tree_for_told}
use Rattle.s390x_inst.specs.declared.state.IsaFlags.{IsaFlags}

abbrev mutual
  -- an instruction as it is given, before others
  pub raw_prepend : Inst → Tree → Tree
  raw_prepend (Loop' mask body all) rest = loop_node mask (raw_row all) rest
  raw_prepend i rest = leaf (Whole i) rest

  pub raw_row : {m : _} → Row_of-Inst m → Tree
  raw_row end_of-Inst = empty
  raw_row (more_of-Inst i rest) = raw_prepend i (raw_row rest)

abbrev pub raw_tree : List Inst → Tree
raw_tree [] = empty
raw_tree (i ∷ is) = raw_prepend i (raw_tree is)

abbrev pub raw_block : Block → Tree
raw_block b = raw_tree b.insts.items

-- a field without a frame operand
abbrev pub resolved_field : Emission → Field → Field
resolved_field e (FMemory mem) = FMemory (resolved_operand e mem)
resolved_field e f = f

abbrev pub resolved_line : Emission → Line → Line
resolved_line e l = record { name = l.name; fields = map (resolved_field e) l.fields }

-- ---- the bodies that a line becomes

-- what is recorded at the return place of a call, by its try
abbrev try_site : FrameLayout → TryPart → Site
try_site layout NoTry = AtCall
try_site layout (Goes c hs) = AtTry (map handler_of hs) (caller_at layout)

-- where a call with a try goes on
abbrev jump_lines : TryPart → List BodyLine
jump_lines NoTry = []
jump_lines (Goes c hs) = of_line (inst_line (Jump (record { 0 = c }))) ∷ []

abbrev told_call : Emission → (link : Reg) → CallInstDest → (popped : ℕ) → TryPart → (patchable : Bool) → Calling
told_call e link dest popped t patchable =
    record { link = link; target = dest; popped = popped; sites = map_site e.stack_map ++ (try_site e.layout t ∷ patchable_site patchable dest) }

-- a call, the loads of its results, and its jump
abbrev call_lines : Emission → (link : Reg) → CallInstDest → List CallRetPair → (popped : ℕ) → TryPart → (patchable : Bool) → List BodyLine
call_lines e link dest defs popped t patchable =
    of_step (CallStep (told_call e link dest popped t patchable)) ∷ (cond patchable [] (map body_line (load_bodies (behind_call e popped) defs)) ++ jump_lines t)

abbrev bodies_of : Emission → LineName → List Field → Line → List BodyLine
bodies_of e (N.Control ControlIs.Call) (FReg link ∷ FTarget dest ∷ FUses uses ∷ FDefs defs ∷ FSet clobbers ∷ FNatural w popped ∷ FConvention a ∷ FConvention b ∷ FTry t ∷ FBool patchable ∷ FOption v stack_map ∷ []) l =
    call_lines e link dest defs popped t patchable
bodies_of e (N.Control ControlIs.ReturnCall) (FTarget dest ∷ FUses uses ∷ FNatural w popped ∷ []) l = map body_line (tail_bodies e popped dest)
bodies_of e name fields l = of_line (resolved_line e l) ∷ []

abbrev line_bodies : Emission → Line → List BodyLine
line_bodies e l = bodies_of e l.name l.fields l

-- the outgoing size behind a line
abbrev outgoing_of : ℕ → LineName → List Field → ℕ
outgoing_of o (N.Control ControlIs.Call) (FReg link ∷ FTarget dest ∷ FUses uses ∷ FDefs defs ∷ FSet clobbers ∷ FNatural w popped ∷ FConvention a ∷ FConvention b ∷ FTry t ∷ FBool patchable ∷ FOption v stack_map ∷ []) = cond patchable o 0
outgoing_of o name fields = o

abbrev line_outgoing : ℕ → Line → ℕ
line_outgoing o l = outgoing_of o l.name l.fields

-- the state before a line of a block
abbrev safepoint_of : Emission → LineName → List Field → Emission
safepoint_of e (N.Control ControlIs.Call) (FReg link ∷ FTarget dest ∷ FUses uses ∷ FDefs defs ∷ FSet clobbers ∷ FNatural w popped ∷ FConvention a ∷ FConvention b ∷ FTry t ∷ FBool patchable ∷ FOption v stack_map ∷ []) =
    record e { stack_map = stack_map }
safepoint_of e name fields = e

abbrev line_safepoint : Emission → Line → Emission
line_safepoint e l = safepoint_of e l.name l.fields

-- the state behind a line
abbrev line_after : Emission → Line → Emission
line_after e l = record e { nominal = held_after e.nominal (read_line l); outgoing = line_outgoing e.outgoing l; stack_map = None }

-- ---- trees of lines as they are given

abbrev given_bodies : Emission → BodyLine → List BodyLine
given_bodies e (of_line l) = line_bodies e l
given_bodies e (of_step b) = of_step b ∷ []

abbrev given_outgoing : ℕ → BodyLine → ℕ
given_outgoing o (of_line l) = line_outgoing o l
given_outgoing o (of_step b) = o

abbrev given_safepoint : Emission → BodyLine → Emission
given_safepoint e (of_line l) = line_safepoint e l
given_safepoint e (of_step b) = e

abbrev given_after : Emission → BodyLine → Emission
given_after e (of_line l) = line_after e l
given_after e (of_step b) = e

-- the outgoing size behind them
abbrev lines_outgoing : ℕ → LineTree → ℕ
lines_outgoing o none = o
lines_outgoing o (one l rest) = lines_outgoing (given_outgoing o l) rest
lines_outgoing o (around mask members rest) = lines_outgoing (lines_outgoing o members) rest

-- the state behind a loop
abbrev loop_after : Emission → LineTree → Emission
loop_after e members = record e { outgoing = lines_outgoing e.outgoing members; stack_map = None }

-- bodies before others
abbrev before : List BodyLine → LineTree → LineTree
before [] t = t
before (b ∷ bs) t = one b (before bs t)

-- the members of a loop, each in the state behind those before it
abbrev resolved_row : Emission → LineTree → LineTree
resolved_row e none = none
resolved_row e (one l rest) = before (given_bodies e l) (resolved_row (given_after e l) rest)
resolved_row e (around mask members rest) = around mask (resolved_row (without_map e) members) (resolved_row (loop_after e members) rest)

-- the members of a block, of which calls are safepoints
abbrev pub resolved_lines : Emission → LineTree → LineTree
resolved_lines e none = none
resolved_lines e (one l rest) = before (given_bodies (given_safepoint e l) l) (resolved_lines (given_after e l) rest)
resolved_lines e (around mask members rest) = around mask (resolved_row (without_map e) members) (resolved_lines (loop_after e members) rest)

-- ---- an instruction that is no loop

abbrev IsFlat : Inst → Type 0
IsFlat (Loop' mask body all) = ⊥
IsFlat i = Unit {0}

loads_told : (patchable : Bool) (loads : List StepBody) → map body_line (cond patchable [] loads) ≡ cond patchable [] (map body_line loads)
loads_told true loads = refl
loads_told false loads = refl

site_told : (layout : FrameLayout) (t : Option TryCallInfo) → return_site layout t ≡ try_site layout (try_part t)
site_told layout None = refl
site_told layout (Some t) = refl

jump_told : (t : Option TryCallInfo) → map body_line (continuation_bodies t) ≡ jump_lines (try_part t)
jump_told None = refl
jump_told (Some t) = refl

call_told : (e : Emission) (link : Reg) (info : CallInfo) → map body_line (call_bodies e link info) ≡ call_lines e link info.dest info.defs.items info.callee_pop_size (try_part info.try_call_info) info.patchable
call_told e link info =
    let loads = load_bodies (behind_call e info.callee_pop_size) info.defs.items in
    let call : Site → BodyLine = λ s. of_step (CallStep (record { link = link; target = info.dest; popped = info.callee_pop_size; sites = map_site e.stack_map ++ (s ∷ patchable_site info.patchable info.dest) })) in
    ap₂ (λ s rest. call s ∷ rest) (site_told e.layout info.try_call_info)
    (map-append body_line (cond info.patchable [] loads) (continuation_bodies info.try_call_info) ∙ ap₂ (λ a b. a ++ b) (loads_told info.patchable loads) (jump_told info.try_call_info))

-- its bodies stand in its line
bodies_told : (e : Emission) (i : Inst) → IsFlat i → map body_line (bodies e i) ≡ line_bodies e (inst_line i)
bodies_told e (Loop' mask body all) flat = absurd flat
bodies_told e (Call link info) flat = call_told e link info
bodies_told e (Vector (VecRR op rd rn)) flat = refl
bodies_told e i flat = refl

outgoing_told : (o : ℕ) (i : Inst) → IsFlat i → outgoing_after o i ≡ line_outgoing o (inst_line i)
outgoing_told o (Loop' mask body all) flat = absurd flat
outgoing_told o (Vector (VecRR op rd rn)) flat = refl
outgoing_told o i flat = refl

safepoint_told : (e : Emission) (i : Inst) → IsFlat i → safepoint e i ≡ line_safepoint e (inst_line i)
safepoint_told e (Loop' mask body all) flat = absurd flat
safepoint_told e (Vector (VecRR op rd rn)) flat = refl
safepoint_told e i flat = refl

state_told : (e : Emission) (i : Inst) → IsFlat i → state_after e i ≡ line_after e (inst_line i)
state_told e i flat = ap₂ (λ n o. record e { nominal = n; outgoing = o; stack_map = None }) (nominal_read e.nominal i) (outgoing_told e.outgoing i flat)

leaves_told : (bs : List StepBody) (rest : Tree) → lines_tree (leaves bs rest) ≡ before (map body_line bs) (lines_tree rest)
leaves_told [] rest = refl
leaves_told (b ∷ bs) rest = ap (one (body_line b)) (leaves_told bs rest)

prepend_told : (e : Emission) (i : Inst) (t : Tree) → IsFlat i → lines_tree (prepend e i t) ≡ before (line_bodies e (inst_line i)) (lines_tree t)
prepend_told e (Loop' mask body all) t flat = absurd flat
prepend_told e i t flat = leaves_told (bodies e i) t ∙ ap (λ bs. before bs (lines_tree t)) (bodies_told e i flat)

-- ---- loops and blocks

mutual
  outgoing_prepend : (o : ℕ) (i : Inst) (u : Tree) → lines_outgoing (outgoing_after o i) (lines_tree u) ≡ lines_outgoing o (lines_tree (raw_prepend i u))
  outgoing_prepend o (Loop' mask body all) u = ap (λ p. lines_outgoing p (lines_tree u)) (outgoing_row o all)
  outgoing_prepend o i u = ap (λ p. lines_outgoing p (lines_tree u)) (outgoing_told o i tt)

  outgoing_row : (o : ℕ) {m : _} (r : Row_of-Inst m) → outgoing_behind o r ≡ lines_outgoing o (lines_tree (raw_row r))
  outgoing_row o end_of-Inst = refl
  outgoing_row o (more_of-Inst i rest) = outgoing_row (outgoing_after o i) rest ∙ outgoing_prepend o i (raw_row rest)

loop_told : (e : Emission) {m : _} (r : Row_of-Inst m) → record e { outgoing = outgoing_behind e.outgoing r; stack_map = None } ≡ loop_after e (lines_tree (raw_row r))
loop_told e r = ap (λ o. record e { outgoing = o; stack_map = None }) (outgoing_row e.outgoing r)

mutual
  prepend_resolved : (e : Emission) (i : Inst) (t u : Tree) → lines_tree t ≡ resolved_row (state_after e i) (lines_tree u) → lines_tree (prepend e i t) ≡ resolved_row e (lines_tree (raw_prepend i u))
  prepend_resolved e (Loop' mask body all) t u h = ap₂ (around mask) (row_resolved (without_map e) all) (h ∙ ap (λ s. resolved_row s (lines_tree u)) (loop_told e all))
  prepend_resolved e i t u h = prepend_told e i t tt ∙ ap (before (line_bodies e (inst_line i))) (h ∙ ap (λ s. resolved_row s (lines_tree u)) (state_told e i tt))

  row_resolved : (e : Emission) {m : _} (r : Row_of-Inst m) → lines_tree (row_tree e r) ≡ resolved_row e (lines_tree (raw_row r))
  row_resolved e end_of-Inst = refl
  row_resolved e (more_of-Inst i rest) = prepend_resolved e i (row_tree (state_after e i) rest) (raw_row rest) (row_resolved (state_after e i) rest)

member_resolved : (e : Emission) (i : Inst) (t u : Tree) → lines_tree t ≡ resolved_lines (state_after e i) (lines_tree u) → lines_tree (prepend (safepoint e i) i t) ≡ resolved_lines e (lines_tree (raw_prepend i u))
member_resolved e (Loop' mask body all) t u h = ap₂ (around mask) (row_resolved (without_map e) all) (h ∙ ap (λ s. resolved_lines s (lines_tree u)) (loop_told e all))
member_resolved e i t u h =
    prepend_told (safepoint e i) i t tt
    ∙ ap₂ (λ s rest. before (line_bodies s (inst_line i)) rest) (safepoint_told e i tt) (h ∙ ap (λ s. resolved_lines s (lines_tree u)) (state_told e i tt))

tree_resolved : (e : Emission) (is : List Inst) → lines_tree (block_tree e is) ≡ resolved_lines e (lines_tree (raw_tree is))
tree_resolved e [] = refl
tree_resolved e (i ∷ is) = member_resolved e i (block_tree (state_after e i) is) (raw_tree is) (tree_resolved (state_after e i) is)

-- the lines of blocks as emission has them
pub blocks_resolved : (flags : IsaFlags) (e : Emission) (bs : List Block) → map lines_tree (map (tree_of flags e) bs) ≡ map (lines_for flags) (map (resolved_lines e) (map lines_tree (map raw_block bs)))
blocks_resolved flags e [] = refl
blocks_resolved flags e (b ∷ bs) = ap₂ (λ t ts. t ∷ ts) (tree_for_told flags (block_tree e b.insts.items) ∙ ap (lines_for flags) (tree_resolved e b.insts.items)) (blocks_resolved flags e bs)
