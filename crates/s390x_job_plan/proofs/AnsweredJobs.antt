-- The job with the function that a plan gives is a job.
use Rattle.std.proofs.Common.{◌≡◌, ℕ, zero, suc, ◌<◌, Option, Some, List, [], ◌∷◌, ◌++◌, map, refl, sym, ap, ◌∙◌, subst, arith, append_assoc}
use Rattle.s390x_base.specs.Registers.{IsRegister, RealRegister}
use Rattle.s390x_base.specs.declared.ir.ConstantData.{ConstantData}
use Rattle.s390x_base.specs.declared.regs.Reg.{Reg}
use Rattle.s390x_base.specs.declared.regs.RegClass.{RegClass}
use Rattle.s390x_base.specs.declared.regs.RegClass.TheVariants.{Int, Float}
use Rattle.s390x_inst.specs.Portions.{Portion, portions}
use Rattle.s390x_inst.specs.declared.function.AllocatedFunction.{AllocatedFunction}
use Rattle.s390x_inst.specs.declared.function.Block.{Block}
use Rattle.s390x_inst.specs.declared.inst.Inst.{Inst}
use Rattle.s390x_job_fields.specs.Atoms.{IsReg}
use Rattle.s390x_job_fields.specs.Lists.{AllItems}
use Rattle.s390x_job_fields.specs.Numbers.{W32}
use Rattle.s390x_job_fields.specs.Fields.{FBytes, FNatural}
use Rattle.s390x_job_lines.specs.Line.{Line}
use Rattle.s390x_job_lines.specs.declared.name.LineName.TheVariants as N
use Rattle.s390x_job.specs.Grammar.{AtEnd, Header, Place, Within, class, next_place, run}
use Rattle.s390x_job.specs.Items.{block_line, constant_line, end_line, memory_line, symbol_line}
use Rattle.s390x_job.specs.Jobs.{AllLines, IsJob, blocks_lines, flags_lines, frame_lines, head_lines, inst_lines, insts_lines, job_lines, registers_lines}
use Rattle.s390x_job.specs.declared.job.Job.{Job}
use Rattle.s390x_job.proofs.Whole.{run_append}
use Rattle.s390x_assign.specs.Assignments.{assigned_portions}
use Rattle.s390x_alloc.specs.Answered.{IsAnswered, constant_value}
use Rattle.s390x_alloc.specs.Answers.{blocks_answer, edits_portions}
use Rattle.s390x_alloc.specs.Moves.{copy_of, load_of, move_portions, store_of}
use Rattle.s390x_alloc.specs.declared.plan.BlockPlan.{BlockPlan}
use Rattle.s390x_alloc.specs.declared.plan.Edit.{Edit}
use Rattle.s390x_alloc.specs.declared.plan.Edit.TheVariants.{Move, Step}
use Rattle.s390x_alloc.specs.declared.plan.Place.{Place as ValuePlace}
use Rattle.s390x_alloc.specs.declared.plan.Place.TheVariants.{Reg as InReg, Slot}
use Rattle.s390x_job_plan.specs.Lines.{IsPlace}
use Rattle.s390x_job_plan.specs.Text.{AllLines as AllPlanLines, IsPlanned, edit_line, pair_line}
use Rattle.s390x_job_plan.specs.Text.{blocks_lines as plan_blocks_lines, block_lines as plan_block_lines}
use Rattle.s390x_job_plan.specs.declared.planned_job.PlannedJob.{PlannedJob}
use Rattle.s390x_job_plan.specs.Jobs.{with_function}
use Rattle.s390x_job_plan.proofs.PortionLines.{PortionLines, assigned_lines, portion_line}
use Rattle.s390x_job_plan.proofs.TreeLines.{assigned_run, from_portions, lines_append, lines_back, lines_front, stays_there, to_portions, tree_lines, tree_stays, trees_stay}
use Rattle.s390x_job_bundle.proofs.JobLines.{going}

-- ---- the edits of a plan

plan_front : (a b : List _) → AllPlanLines (a ++ b) → AllPlanLines a
plan_front [] b h = tt
plan_front (l ∷ a) b h = (h.0, plan_front a b h.1)

plan_back : (a b : List _) → AllPlanLines (a ++ b) → AllPlanLines b
plan_back [] b h = h
plan_back (l ∷ a) b h = plan_back a b h.1

-- ---- moves

copy_lines : (c : RegClass) (p q : RealRegister) → IsRegister p → IsRegister q → PortionLines (portions (copy_of c p q))
copy_lines Int p q h k = (record { kinds_fit = refl; fields_fit = (h, (k, tt)) }, tt)
copy_lines Float p q h k = (record { kinds_fit = refl; fields_fit = (h, (k, tt)) }, tt)

load_lines : (c : RegClass) (p : RealRegister) (n : ℕ) → IsRegister p → n < 65536 → PortionLines (portions (load_of c p n))
load_lines Int p n h k = (record { kinds_fit = refl; fields_fit = (h, (omega (arith, k), tt)) }, tt)
load_lines Float p n h k = (record { kinds_fit = refl; fields_fit = (h, (omega (arith, k), tt)) }, tt)

store_lines : (c : RegClass) (p : RealRegister) (n : ℕ) → IsRegister p → n < 65536 → PortionLines (portions (store_of c p n))
store_lines Int p n h k = (record { kinds_fit = refl; fields_fit = (h, (omega (arith, k), tt)) }, tt)
store_lines Float p n h k = (record { kinds_fit = refl; fields_fit = (h, (omega (arith, k), tt)) }, tt)

move_lines : (to from : ValuePlace) → IsPlace to → IsPlace from → PortionLines (move_portions to from)
move_lines (InReg p) (InReg q) h k = copy_lines p.class p q h k
move_lines (InReg p) (Slot n) h k = load_lines p.class p n h k
move_lines (Slot n) (InReg q) h k = store_lines q.class q n k h
move_lines (Slot n) (Slot m) h k = tt

copy_run : (c : RegClass) (p q : RealRegister) → run (Some (Within 0)) (map portion_line (portions (copy_of c p q))) ≡ Some (Within 0)
copy_run Int p q = refl
copy_run Float p q = refl

load_run : (c : RegClass) (p : RealRegister) (n : ℕ) → run (Some (Within 0)) (map portion_line (portions (load_of c p n))) ≡ Some (Within 0)
load_run Int p n = refl
load_run Float p n = refl

store_run : (c : RegClass) (p : RealRegister) (n : ℕ) → run (Some (Within 0)) (map portion_line (portions (store_of c p n))) ≡ Some (Within 0)
store_run Int p n = refl
store_run Float p n = refl

move_run : (to from : ValuePlace) → run (Some (Within 0)) (map portion_line (move_portions to from)) ≡ Some (Within 0)
move_run (InReg p) (InReg q) = copy_run p.class p q
move_run (InReg p) (Slot n) = load_run p.class p n
move_run (Slot n) (InReg q) = store_run q.class q n
move_run (Slot n) (Slot m) = refl

-- ---- a block's instructions, each from its edit

-- the lines of an instruction whose portions are these
given_lines : (i : Inst) (ps : List Portion) → portions i ≡ ps → inst_lines i ≡ map portion_line ps
given_lines i ps e = tree_lines i ∙ ap (map portion_line) e

step_all : (i : Inst) (regs : List Reg) → AllLines (inst_lines i) → AllItems IsReg regs → AllLines (map portion_line (assigned_portions (portions i) regs).0)
step_all i regs h k = from_portions (assigned_portions (portions i) regs).0 (assigned_lines (portions i) regs (to_portions (portions i) (subst AllLines (tree_lines i) h)) k)

step_run : (i : Inst) (regs : List Reg) (o : Option Place) → run o (map portion_line (assigned_portions (portions i) regs).0) ≡ run o (inst_lines i)
step_run i regs o = assigned_run (portions i) regs o ∙ ap (run o) (sym (tree_lines i))

head_is : {A : Type 0} {x y : A} {xs ys : List A} → x ∷ xs ≡ y ∷ ys → x ≡ y
head_is e = cc

tail_is : {A : Type 0} {x y : A} {xs ys : List A} → x ∷ xs ≡ y ∷ ys → xs ≡ ys
tail_is e = cc

edits_all : (es : List Edit) (is ys : List Inst) → map portions ys ≡ edits_portions es is → AllPlanLines (map edit_line es) → AllLines (insts_lines is) → AllLines (insts_lines ys)
edits_all [] is [] e h k = tt
edits_all (Move to from ∷ es) is (a ∷ ys) e h k =
    lines_append (inst_lines a) (insts_lines ys) (subst AllLines (sym (given_lines a (move_portions to from) (head_is e))) (from_portions (move_portions to from) (move_lines to from h.0.0 h.0.1))) (edits_all es is ys (tail_is e) h.1 k)
edits_all (Step regs ∷ es) [] (a ∷ ys) e h k =
    lines_append (inst_lines a) (insts_lines ys) (subst AllLines (sym (given_lines a [] (head_is e))) tt) (edits_all es [] ys (tail_is e) h.1 k)
edits_all (Step regs ∷ es) (i ∷ is) (a ∷ ys) e h k =
    lines_append (inst_lines a) (insts_lines ys) (subst AllLines (sym (given_lines a (assigned_portions (portions i) regs.items).0 (head_is e))) (step_all i regs.items (lines_front (inst_lines i) (insts_lines is) k) h.0))
    (edits_all es is ys (tail_is e) h.1 (lines_back (inst_lines i) (insts_lines is) k))
edits_all es is ys e h k = absurd cc

-- one instruction, and the rest
then_run : (a : Inst) (ys : List Inst) → run (Some (Within 0)) (inst_lines a) ≡ Some (Within 0) → run (Some (Within 0)) (insts_lines ys) ≡ Some (Within 0) → run (Some (Within 0)) (insts_lines (a ∷ ys)) ≡ Some (Within 0)
then_run a ys h k = run_append (inst_lines a) (Some (Within 0)) (insts_lines ys) ∙ ap (λ o. run o (insts_lines ys)) h ∙ k

first_run : (i : Inst) (is : List Inst) → run (Some (Within 0)) (insts_lines (i ∷ is)) ≡ Some (Within 0) → run (Some (Within 0)) (inst_lines i) ≡ Some (Within 0)
first_run i is h = stays_there (Within 0) (run (Some (Within 0)) (inst_lines i)) (insts_lines is) (Within 0) (tree_stays i 0) (sym (run_append (inst_lines i) (Some (Within 0)) (insts_lines is)) ∙ h)

rest_run : (i : Inst) (is : List Inst) → run (Some (Within 0)) (insts_lines (i ∷ is)) ≡ Some (Within 0) → run (Some (Within 0)) (insts_lines is) ≡ Some (Within 0)
rest_run i is h = ap (λ o. run o (insts_lines is)) (sym (first_run i is h)) ∙ sym (run_append (inst_lines i) (Some (Within 0)) (insts_lines is)) ∙ h

edits_run : (es : List Edit) (is ys : List Inst) → map portions ys ≡ edits_portions es is → run (Some (Within 0)) (insts_lines is) ≡ Some (Within 0) → run (Some (Within 0)) (insts_lines ys) ≡ Some (Within 0)
edits_run [] is [] e k = refl
edits_run (Move to from ∷ es) is (a ∷ ys) e k =
    then_run a ys (ap (run (Some (Within 0))) (given_lines a (move_portions to from) (head_is e)) ∙ move_run to from) (edits_run es is ys (tail_is e) k)
edits_run (Step regs ∷ es) [] (a ∷ ys) e k = then_run a ys (ap (run (Some (Within 0))) (given_lines a [] (head_is e))) (edits_run es [] ys (tail_is e) k)
edits_run (Step regs ∷ es) (i ∷ is) (a ∷ ys) e k =
    then_run a ys (ap (run (Some (Within 0))) (given_lines a (assigned_portions (portions i) regs.items).0 (head_is e)) ∙ step_run i regs.items (Some (Within 0)) ∙ first_run i is k) (edits_run es is ys (tail_is e) (rest_run i is k))
edits_run es is ys e k = absurd cc

-- ---- blocks

abbrev block_portions : Block → List (List Portion)
block_portions b = map portions b.insts.items

plan_all : (p : BlockPlan) (ps : List BlockPlan) → AllPlanLines (plan_blocks_lines (p ∷ ps)) → AllPlanLines (map edit_line p.edits.items) × AllPlanLines (plan_blocks_lines ps)
plan_all p ps h =
    let block = plan_block_lines p.entry.items p.edits.items in
    (plan_back (map pair_line p.entry.items) (map edit_line p.edits.items) (plan_front block (plan_blocks_lines ps) h).1, plan_back block (plan_blocks_lines ps) h)

blocks_all : (bs : List Block) (ps : List BlockPlan) (ys : List Block) → map block_portions ys ≡ blocks_answer bs ps → AllPlanLines (plan_blocks_lines ps) → AllLines (blocks_lines bs) → AllLines (blocks_lines ys)
blocks_all [] ps [] e h k = tt
blocks_all (b ∷ bs) [] [] e h k = tt
blocks_all (b ∷ bs) (p ∷ ps) (a ∷ ys) e h k =
    let plan = plan_all p ps h in
    (k.0, lines_append (insts_lines a.insts.items) (blocks_lines ys) (edits_all p.edits.items b.insts.items a.insts.items (head_is e) plan.0 (lines_front (insts_lines b.insts.items) (blocks_lines bs) k.1)) (blocks_all bs ps ys (tail_is e) plan.1 (lines_back (insts_lines b.insts.items) (blocks_lines bs) k.1)))
blocks_all bs ps ys e h k = absurd cc

-- where a block may begin, and the job may end
abbrev IsOpen : Place → Type 0
IsOpen (Within (suc d)) = ⊥
IsOpen AtEnd = ⊥
IsOpen _ = Unit {0}

ends_at : (p : Place) → IsOpen p → run (Some p) (end_line ∷ []) ≡ Some AtEnd
ends_at (Within (suc d)) h = absurd h
ends_at AtEnd h = absurd h
ends_at p h = refl

begins_at : (p : Place) → IsOpen p → next_place p (class block_line) ≡ Some (Within 0)
begins_at (Within (suc d)) h = absurd h
begins_at AtEnd h = absurd h
begins_at p h = refl

open_place : (p : Place) (bs : List Block) → run (Some p) (blocks_lines bs ++ end_line ∷ []) ≡ Some AtEnd → IsOpen p
open_place (Header rank bound) bs e = tt
open_place (Within zero) bs e = tt
open_place (Within (suc d)) [] e = absurd cc
open_place (Within (suc d)) (b ∷ bs) e = absurd cc
open_place AtEnd [] e = absurd cc
open_place AtEnd (b ∷ bs) e = absurd cc

-- a block, and the rest
block_split : (p : Place) (b : Block) (bs : List Block) → IsOpen p → run (Some p) (blocks_lines (b ∷ bs) ++ end_line ∷ []) ≡ run (run (Some (Within 0)) (insts_lines b.insts.items)) (blocks_lines bs ++ end_line ∷ [])
block_split p b bs h =
    let is = insts_lines b.insts.items in
    let rest = blocks_lines bs in
    ap (λ o. run o ((is ++ rest) ++ end_line ∷ [])) (begins_at p h) ∙ ap (run (Some (Within 0))) (append_assoc is rest (end_line ∷ [])) ∙ run_append is (Some (Within 0)) (rest ++ end_line ∷ [])

blocks_run : (bs : List Block) (ps : List BlockPlan) (ys : List Block) (p : Place) → IsOpen p → map block_portions ys ≡ blocks_answer bs ps → run (Some p) (blocks_lines bs ++ end_line ∷ []) ≡ Some AtEnd
    → run (Some p) (blocks_lines ys ++ end_line ∷ []) ≡ Some AtEnd
blocks_run [] ps [] p h e k = ends_at p h
blocks_run [] ps (a ∷ ys) p h e k = absurd cc
blocks_run (b ∷ bs) [] [] p h e k = ends_at p h
blocks_run (b ∷ bs) [] (a ∷ ys) p h e k = absurd cc
blocks_run (b ∷ bs) (q ∷ ps) [] p h e k = absurd cc
blocks_run (b ∷ bs) (q ∷ ps) (a ∷ ys) p h e k =
    let through = sym (block_split p b bs h) ∙ k in
    let here = stays_there (Within 0) (run (Some (Within 0)) (insts_lines b.insts.items)) (blocks_lines bs ++ end_line ∷ []) AtEnd (trees_stay b.insts.items 0) through in
    let rest : run (Some (Within 0)) (blocks_lines bs ++ end_line ∷ []) ≡ Some AtEnd = ap (λ o. run o (blocks_lines bs ++ end_line ∷ [])) (sym here) ∙ through in
    block_split p a ys h ∙ ap (λ o. run o (blocks_lines ys ++ end_line ∷ [])) (edits_run q.edits.items b.insts.items a.insts.items (head_is e) here) ∙ blocks_run bs ps ys (Within 0) tt (tail_is e) rest

-- ---- the job

abbrev value_line : List ℕ × ℕ → Line
value_line v = record { name = N.ConstantLine; fields = FNatural W32 v.1 ∷ FBytes v.0 ∷ [] }

constant_lines : (cs : List ConstantData) → map constant_line cs ≡ map value_line (map constant_value cs)
constant_lines [] = refl
constant_lines (c ∷ cs) = ap (λ ls. constant_line c ∷ ls) (constant_lines cs)

same_constants : (cs ds : List ConstantData) → map constant_value cs ≡ map constant_value ds → map constant_line cs ≡ map constant_line ds
same_constants cs ds e = constant_lines cs ∙ ap (map value_line) e ∙ sym (constant_lines ds)

abbrev job_head : Job → List Line
job_head j = head_lines j.info.isa_flags j.conv j.state.layout j.function.constants.items j.symbols.items j.registers j.memory.items

same_head : (j : Job) (function : AllocatedFunction) → map constant_value function.constants.items ≡ map constant_value j.function.constants.items → job_head (with_function j function) ≡ job_head j
same_head j function e =
    ap (λ cs. flags_lines j.info.isa_flags ++ (frame_lines j.conv j.state.layout ++ (cs ++ (map symbol_line j.symbols.items ++ (registers_lines j.registers ++ map memory_line j.memory.items))))) (same_constants function.constants.items j.function.constants.items e)

pub answered_job : (p : PlannedJob) (function : AllocatedFunction) → IsPlanned p → IsAnswered p.job.state.layout p.job.function p.plan function → IsJob (with_function p.job function)
answered_job p function is answer =
    let j = p.job in
    let head = job_head j in
    let bs = j.function.blocks.items in
    let ys = function.blocks.items in
    let tail = blocks_lines bs ++ end_line ∷ [] in
    let tail' = blocks_lines ys ++ end_line ∷ [] in
    let whole : job_lines (with_function j function) ≡ head ++ tail' = ap (λ ls. ls ++ tail') (same_head j function answer.constants_are) in
    let order : run (run (Some (Header 0 0)) head) tail ≡ Some AtEnd = sym (run_append head (Some (Header 0 0)) tail) ∙ is.0.order in
    let place = going (run (Some (Header 0 0)) head) tail order in
    let from : run (Some place.0) tail ≡ Some AtEnd = ap (λ o. run o tail) (sym place.1) ∙ order in
    let to : run (Some place.0) tail' ≡ Some AtEnd = blocks_run bs p.plan.blocks.items ys place.0 (open_place place.0 bs from) answer.blocks_are from in
    let plan = plan_front (plan_blocks_lines p.plan.blocks.items) _ is.1.1 in
    let lines = blocks_all bs p.plan.blocks.items ys answer.blocks_are plan (lines_front (blocks_lines bs) (end_line ∷ []) (lines_back head tail is.0.lines)) in
    let ended = lines_back (blocks_lines bs) (end_line ∷ []) (lines_back head tail is.0.lines) in
    record {
      lines = subst AllLines (sym whole) (lines_append head tail' (lines_front head tail is.0.lines) (lines_append (blocks_lines ys) (end_line ∷ []) lines ended));
      order = ap (run (Some (Header 0 0))) whole ∙ run_append head (Some (Header 0 0)) tail' ∙ ap (λ o. run o tail') place.1 ∙ to;
      state = is.0.state;
      frame = is.0.frame;
      general_count = is.0.general_count;
      vector_count = is.0.vector_count;
    }
