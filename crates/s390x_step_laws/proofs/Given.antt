-- A function's steps do what the steps of its instructions do as they are given.
use Rattle.std.proofs.Common.{◌≡◌, ℕ, zero, suc, ◌+◌, List, [], ◌∷◌, ◌++◌, map, Bool, true, false, not, ◌&&◌, Option, Some, None, option_map, refl, sym, ap, ◌∙◌, subst, true≢false}
use Rattle.std.proofs.lemmas.Bool.{and_parts}
use Rattle.s390x_base.specs.declared.ir.MachLabel.{MachLabel}
use Rattle.s390x_base.specs.declared.regs.Reg.{Reg}
use Rattle.s390x_inst.specs.Emission.{Emission}
use Rattle.s390x_inst.specs.Loads.{by_load, load_instruction}
use Rattle.s390x_inst.proofs.Loads.{each_instruction}
use Rattle.s390x_inst.specs.declared.args.MemArg.{MemArg}
use Rattle.s390x_inst.specs.declared.args.MemArg.TheVariants.{Label, Constant, Symbol}
use Rattle.s390x_inst.specs.declared.function.Block.{Block}
use Rattle.s390x_inst.specs.declared.inst.Inst.{Inst}
use Rattle.s390x_inst.specs.declared.inst.Inst.TheVariants as I
use Rattle.s390x_inst.specs.declared.load.LoadOp.{LoadOp}
use Rattle.s390x_inst.specs.declared.load.LoadOp.TheVariants as LoadOps
use Rattle.s390x_inst.specs.declared.store.Store.{Store}
use Rattle.s390x_inst.specs.declared.store.StoreOp.{StoreOp}
use Rattle.s390x_inst.specs.declared.store.StoreOp.TheVariants as StoreOps
use Rattle.s390x_inst.specs.Stores.{as_store, store_instruction, by_store}
use Rattle.s390x_inst.specs.declared.state.IsaFlags.{IsaFlags}
use Rattle.s390x_typed_steps.specs.Baseline.{whole_or_loaded, body_for, tree_for}
use Rattle.s390x_typed_steps.specs.Folding.{folded_members, fold, body_with_remainder, remainder, branches_of, folded_before, folded_from, folded_trees, next_block}
use Rattle.s390x_typed_steps.specs.Memory.{StorageForm, RxForm, MemoryInstruction, memory, load_memory, store_memory, rest_memory, other_memory, accesses_relative, has_relative_row, other_rows, with_rows, without_relative}
use Rattle.s390x_typed_steps.specs.Operands.{is_relative}
use Rattle.s390x_typed_steps.specs.Steps.{Step, Plain, LoadedStep, Opening, Back, step_of, steps_of, steps_from, step_count, first_step, function_steps}
use Rattle.s390x_typed_steps.specs.Tree.{Remainder, StepBody, Tree, Whole, empty, leaf, loop_node, prepend}
use Rattle.s390x_typed_steps.specs.declared.mem_inst_type.MemInstType.{MemInstType}
use Rattle.s390x_typed_steps.proofs.Folding.{before_count, folded_first_step}
use Rattle.s390x_typed_steps.proofs.RelativeRows.{rest_none}
use Rattle.s390x_operations.specs.State.{Registers}
use Rattle.s390x_machine.specs.Layout.{Layout}
use Rattle.s390x_machine.specs.Storage.{OperandStep, operand_address, operand_step, loaded_step, is_relative_access, needs_scratch, aligned_where}
use Rattle.s390x_machine.specs.StepKinds.{Performs, Unsupported, single_operation, performed_at, performed_by, kind_or, branch_kind, fault_codes, step_kind}
use Rattle.s390x_step_laws.specs.Given.{given_trees, given_alone, flagged_tree, emitted_trees, emitted_alone, DoesAsGiven, same, loads_address, StepByStep}

-- ---- an access of an operand that is relative to the instruction

-- it is a step with an operand in memory, and the operand is relative
record IsRelativeStep (L : Layout) (i : Inst) : Type 0 where
  pub x : OperandStep
  pub is : operand_step i ≡ Some x
  pub alone : single_operation L i ≡ None
  pub relative : is_relative x.operand ≡ true

-- what has no other rows has none relative to the instruction
none_relative : (o : Option MemoryInstruction) → without_relative o ≡ None → accesses_relative o ≡ true → ⊥
none_relative None e h = true≢false (sym h)
none_relative (Some x) e h = go x.form x.accesses e h
  where
    go : (form : StorageForm) (accesses : Bool) → option_map (with_rows x) (other_rows form accesses) ≡ None → (has_relative_row form && accesses && is_relative x.operand) ≡ true → ⊥
    go (RxForm register rx_opcode rxy_opcode (Some opcode)) true e h = absurd (cc)
    go (RxForm register rx_opcode rxy_opcode (Some opcode)) false e h = true≢false (sym h)
    go (RxForm register rx_opcode rxy_opcode None) accesses e h = true≢false (sym h)
    go form accesses e h = true≢false (sym h)

-- this is the operand of an instruction that has one
abbrev OperandIs : Option MemoryInstruction → MemArg → Type 0
OperandIs None m = Unit {0}
OperandIs (Some x) m = x.operand ≡ m

relative_here : (o : Option MemoryInstruction) (m : MemArg) → OperandIs o m → accesses_relative o ≡ true → is_relative m ≡ true
relative_here None m h e = absurd (true≢false (sym e))
relative_here (Some x) m h e = subst (λ n. is_relative n ≡ true) h ((and_parts (has_relative_row x.form && x.accesses) (is_relative x.operand) e).1)

-- the last clause is a copy for each
relative_load : (L : Layout) (op : LoadOp) (rd : Reg) (mem : MemArg) → accesses_relative (memory (load_instruction op rd mem)) ≡ true → IsRelativeStep L (load_instruction op rd mem)
relative_load L LoadOps.Load64 rd mem e = record { x = _; is = refl; alone = refl; relative = relative_here (memory (load_instruction LoadOps.Load64 rd mem)) mem refl e }
relative_load L op rd mem e = record { x = _; is = refl; alone = refl; relative = relative_here (memory (load_instruction op rd mem)) mem refl e }

-- the same of stores
relative_store : (L : Layout) (op : StoreOp) (rd : Reg) (mem : MemArg) → accesses_relative (store_memory (record { op = op; rd = rd; mem = mem })) ≡ true → IsRelativeStep L (store_instruction op rd mem)
relative_store L StoreOps.Store64 rd mem e = record { x = _; is = refl; alone = refl; relative = relative_here (memory (store_instruction StoreOps.Store64 rd mem)) mem refl e }
relative_store L op rd mem e = record { x = _; is = refl; alone = refl; relative = relative_here (memory (store_instruction op rd mem)) mem refl e }

store_or_none : (L : Layout) (i : Inst) (rest : Option MemoryInstruction) → without_relative rest ≡ None → (o : Option Store) → accesses_relative (by_store store_memory rest o) ≡ true → IsRelativeStep L (by_store (λ s. store_instruction s.op s.rd s.mem) i o)
store_or_none L i rest none None e = absurd (none_relative rest none e)
store_or_none L i rest none (Some s) e = relative_store L s.op s.rd s.mem e

-- the last clause is a copy for each store, and for each without such a row, loads among them
relative_other : (L : Layout) (i : Inst) → accesses_relative (other_memory i) ≡ true → IsRelativeStep L i
relative_other L (I.CmpRX op rn mem) e = record { x = _; is = refl; alone = refl; relative = relative_here (other_memory (I.CmpRX op rn mem)) mem refl e }
relative_other L i e = store_or_none L i (rest_memory i) (rest_none i) (as_store i) e

relative_step : (L : Layout) (i : Inst) → accesses_relative (memory i) ≡ true → IsRelativeStep L i
relative_step L =
    each_instruction (λ j. accesses_relative (memory j) ≡ true → IsRelativeStep L j) (relative_load L) (λ j none e. relative_other L j (subst (λ o. accesses_relative (by_load load_memory (other_memory j) o) ≡ true) none e))

-- such an operand has an address
address_of : (L : Layout) (m : MemArg) → is_relative m ≡ true → (address : Registers → ℕ) × (operand_address L m ≡ Some address)
address_of L (Label target) e = (_, refl)
address_of L (Constant constant) e = (_, refl)
address_of L (Symbol name offset flags) e = (_, refl)
address_of L _ e = absurd (true≢false (sym e))

-- without a row relative to the instruction it needs `%r1`
needs_loaded : (mi : MemInstType) (m : MemArg) → is_relative m ≡ true → needs_scratch (record mi { have_pcrel = false }) m ≡ true
needs_loaded mi (Label target) e = refl
needs_loaded mi (Constant constant) e = refl
needs_loaded mi (Symbol name offset flags) e = refl
needs_loaded mi _ e = absurd (true≢false (sym e))

-- and isn't accessed by one
not_relative : (r a n : Bool) → n ≡ true → (r && (a && not n)) ≡ false
not_relative true true n e = ap not e
not_relative true false n e = refl
not_relative false a n e = refl

loads_as_given : (flags : IsaFlags) (L : Layout) (i : Inst) → flags.no_relative_memory ≡ true → IsRelativeStep L i → DoesAsGiven flags L (LoadedStep i) (Plain i)
loads_as_given flags L i lacks s =
    let x = s.x in
    let y = loaded_step x in
    let at = address_of L x.operand s.relative in
    let needs : needs_scratch y.forms y.operand ≡ true = needs_loaded x.forms x.operand s.relative in
    let aligned : is_relative_access y ≡ false = not_relative (is_relative x.operand) x.accesses (needs_scratch y.forms y.operand) needs in
    let operation = λ (r : Registers). x.operation (at.0 r) r in
    loads_address (needs_scratch x.forms x.operand) (is_relative_access x) operation (fault_codes x) lacks
    (ap (λ p. kind_or p (kind_or (performed_by L (operand_step i)) (branch_kind i))) s.alone ∙ ap (λ q. kind_or (performed_by L q) (branch_kind i)) s.is ∙ ap (λ o. kind_or (performed_at x o) (branch_kind i)) at.1)
    (
    ap (λ q. kind_or (performed_by L (option_map loaded_step q)) Unsupported) s.is
    ∙ ap (λ o. kind_or (performed_at y o) Unsupported) at.1
    ∙ ap (λ n. Performs n (λ r. aligned_where (is_relative_access y) (operation r)) (fault_codes x)) needs
    ∙ ap (λ a. Performs true (λ r. aligned_where a (operation r)) (fault_codes x)) aligned
    )

-- ---- the flags of the machine

whole_as_given : (flags : IsaFlags) (L : Layout) (after : ℕ) (i : Inst) → step_of after (Whole i) ≡ Plain i → DoesAsGiven flags L (step_of after (body_for flags (Whole i))) (step_of after (Whole i))
whole_as_given flags L after i plain = go (accesses_relative (memory i)) flags.no_relative_memory refl refl
  where
    go : (a n : Bool) → accesses_relative (memory i) ≡ a → flags.no_relative_memory ≡ n → DoesAsGiven flags L (step_of after (whole_or_loaded (a && n) i)) (step_of after (Whole i))
    go true true is lacks = subst (λ s. DoesAsGiven flags L (LoadedStep i) s) (sym plain) (loads_as_given flags L i lacks (relative_step L i is))
    go true false is has = same refl
    go false n is has = same refl

-- the last clause on instructions is a copy for each
body_as_given : (flags : IsaFlags) (L : Layout) (after : ℕ) (b : StepBody) → DoesAsGiven flags L (step_of after (body_for flags b)) (step_of after b)
body_as_given flags L after (Whole (I.CondBreak mask)) = same refl
body_as_given flags L after (Whole i) = whole_as_given flags L after i refl
body_as_given flags L after b = same refl

-- ---- lists of steps

each_append : (R : Step → Step → Type 0) (xs ys zs ws : List Step) → StepByStep R xs ys → StepByStep R zs ws → StepByStep R (xs ++ zs) (ys ++ ws)
each_append R [] [] zs ws h k = k
each_append R (x ∷ xs) (y ∷ ys) zs ws h k = (h.0, each_append R xs ys zs ws h.1 k)
each_append R [] (y ∷ ys) zs ws h k = absurd h
each_append R (x ∷ xs) [] zs ws h k = absurd h

-- the same kinds, one by one
abbrev SameKinds : Layout → List Step → List Step → Type 0
SameKinds L = StepByStep (λ s t. step_kind L s ≡ step_kind L t)

alike : (L : Layout) (xs : List Step) → SameKinds L xs xs
alike L [] = tt
alike L (x ∷ xs) = (refl, alike L xs)

as_given_by_kind : (flags : IsaFlags) (L : Layout) (s t g : Step) → step_kind L s ≡ step_kind L t → DoesAsGiven flags L t g → DoesAsGiven flags L s g
as_given_by_kind flags L s t g e (same h) = same (e ∙ h)
as_given_by_kind flags L s t g e (loads_address needs aligned operation code lacks h k) = loads_address needs aligned operation code lacks h (e ∙ k)

each_by_kind : (flags : IsaFlags) (L : Layout) (xs ys zs : List Step) → SameKinds L xs ys → StepByStep (DoesAsGiven flags L) ys zs → StepByStep (DoesAsGiven flags L) xs zs
each_by_kind flags L [] [] [] h k = tt
each_by_kind flags L (x ∷ xs) (y ∷ ys) (z ∷ zs) h k = (as_given_by_kind flags L x y z h.0 k.0, each_by_kind flags L xs ys zs h.1 k.1)
each_by_kind flags L [] [] (z ∷ zs) h k = absurd k
each_by_kind flags L (x ∷ xs) (y ∷ ys) [] h k = absurd k
each_by_kind flags L [] (y ∷ ys) zs h k = absurd h
each_by_kind flags L (x ∷ xs) [] zs h k = absurd h

-- ---- trees

for_count : (flags : IsaFlags) (t : Tree) → step_count (tree_for flags t) ≡ step_count t
for_count flags empty = refl
for_count flags (leaf b rest) = ap (λ n. 1 + n) (for_count flags rest)
for_count flags (loop_node mask members rest) = ap (λ n. 2 + n + step_count (tree_for flags rest)) (for_count flags members) ∙ ap (λ n. 2 + step_count members + n) (for_count flags rest)

tree_as_given : (flags : IsaFlags) (L : Layout) (k after : ℕ) (t : Tree) → StepByStep (DoesAsGiven flags L) (steps_of k after (tree_for flags t)) (steps_of k after t)
tree_as_given flags L k after empty = tt
tree_as_given flags L k after (leaf b rest) = (body_as_given flags L after b, tree_as_given flags L (k + 1) after rest)
tree_as_given flags L k after (loop_node mask members rest) =
    subst (λ n. StepByStep (DoesAsGiven flags L) (Opening ∷ (steps_of (k + 1) (k + 2 + n) (tree_for flags members) ++ (Back mask (k + 1) ∷ steps_of (k + 2 + n) after (tree_for flags rest)))) (steps_of k after (loop_node mask members rest))) (sym (for_count flags members)) (
      same refl,
      each_append (DoesAsGiven flags L) (steps_of (k + 1) (k + 2 + step_count members) (tree_for flags members)) (steps_of (k + 1) (k + 2 + step_count members) members) (Back mask (k + 1) ∷ steps_of (k + 2 + step_count members) after (tree_for flags rest))
          (Back mask (k + 1) ∷ steps_of (k + 2 + step_count members) after rest)
          (tree_as_given flags L (k + 1) (k + 2 + step_count members) members) (same refl, tree_as_given flags L (k + 2 + step_count members) after rest),
    )

-- ---- the ends of blocks

jump_kept : (L : Layout) (after : ℕ) (o : Option Remainder) (d : MachLabel) → step_kind L (step_of after (body_with_remainder o (I.Jump d))) ≡ step_kind L (step_of after (Whole (I.Jump d)))
jump_kept L after None d = refl
jump_kept L after (Some r) d = refl

choice_kept : (L : Layout) (after : ℕ) (o : Option Remainder) (t n : MachLabel) (m : ℕ) → step_kind L (step_of after (body_with_remainder o (I.CondBr t n m))) ≡ step_kind L (step_of after (Whole (I.CondBr t n m)))
choice_kept L after None t n m = refl
choice_kept L after (Some r) t n m = refl

-- what is left of branches has the kind of the whole; the last clause is a copy for each
fold_kept : (L : Layout) (after next : ℕ) (b : StepBody) → step_kind L (step_of after (fold next b)) ≡ step_kind L (step_of after b)
fold_kept L after next (Whole (I.Jump d)) = jump_kept L after (remainder next (branches_of (I.Jump d))) d
fold_kept L after next (Whole (I.CondBr t n m)) = choice_kept L after (remainder next (branches_of (I.CondBr t n m))) t n m
fold_kept L after next b = refl

folded_kept : (L : Layout) (next k after : ℕ) (t : Tree) → SameKinds L (steps_of k after (folded_members next t)) (steps_of k after t)
folded_kept L next k after empty = tt
folded_kept L next k after (leaf b empty) = (fold_kept L after next b, tt)
folded_kept L next k after (leaf b (leaf c rest)) = (refl, folded_kept L next (k + 1) after (leaf c rest))
folded_kept L next k after (leaf b (loop_node mask members rest)) = (refl, folded_kept L next (k + 1) after (loop_node mask members rest))
folded_kept L next k after (loop_node mask members rest) =
    let inner = steps_of (k + 1) (k + 2 + step_count members) members in (
      refl,
      each_append (λ s t. step_kind L s ≡ step_kind L t) inner inner (Back mask (k + 1) ∷ steps_of (k + 2 + step_count members) after (folded_members next rest)) (Back mask (k + 1) ∷ steps_of (k + 2 + step_count members) after rest)
          (alike L inner) (refl, folded_kept L next (k + 2 + step_count members) after rest),
    )

before_kept : (L : Layout) (next : Option ℕ) (k after : ℕ) (t : Tree) → SameKinds L (steps_of k after (folded_before next t)) (steps_of k after t)
before_kept L None k after t = alike L (steps_of k after t)
before_kept L (Some next) k after t = folded_kept L next k after t

-- ---- functions

blocks_as_given : (flags : IsaFlags) (L : Layout) (b k : ℕ) (ts : List Tree) → StepByStep (DoesAsGiven flags L) (steps_from k (folded_from b (map (tree_for flags) ts))) (steps_from k ts)
blocks_as_given flags L b k [] = tt
blocks_as_given flags L b k (t ∷ ts) =
    let next = next_block b (map (tree_for flags) ts) in
    let u = folded_before next (tree_for flags t) in
    let count : step_count u ≡ step_count t = before_count next (tree_for flags t) ∙ for_count flags t in
    each_append (DoesAsGiven flags L) (steps_of k 0 u) (steps_of k 0 t) (steps_from (k + step_count u) (folded_from (b + 1) (map (tree_for flags) ts))) (steps_from (k + step_count t) ts)
    (each_by_kind flags L (steps_of k 0 u) (steps_of k 0 (tree_for flags t)) (steps_of k 0 t) (before_kept L next k 0 (tree_for flags t)) (tree_as_given flags L k 0 t))
    (subst (λ n. StepByStep (DoesAsGiven flags L) (steps_from (k + n) (folded_from (b + 1) (map (tree_for flags) ts))) (steps_from (k + step_count t) ts)) (sym count) (blocks_as_given flags L (b + 1) (k + step_count t) ts))

trees_for : (flags : IsaFlags) (e : Emission) (bs : List Block) → map (flagged_tree flags e) bs ≡ map (tree_for flags) (given_trees e bs)
trees_for flags e [] = refl
trees_for flags e (b ∷ bs) = ap (λ ts. flagged_tree flags e b ∷ ts) (trees_for flags e bs)

pub function_as_given : (flags : IsaFlags) (L : Layout) (e : Emission) (bs : List Block) → StepByStep (DoesAsGiven flags L) (function_steps (emitted_trees flags e bs)) (function_steps (given_trees e bs))
function_as_given flags L e bs =
    subst (λ ts. StepByStep (DoesAsGiven flags L) (function_steps (folded_trees ts)) (function_steps (given_trees e bs))) (sym (trees_for flags e bs)) (blocks_as_given flags L 0 0 (given_trees e bs))

pub instruction_as_given : (flags : IsaFlags) (L : Layout) (e : Emission) (i : Inst) → StepByStep (DoesAsGiven flags L) (function_steps (emitted_alone flags e i)) (function_steps (given_alone e i))
instruction_as_given flags L e i = each_append (DoesAsGiven flags L) (steps_of 0 0 (tree_for flags (prepend e i empty))) (steps_of 0 0 (prepend e i empty)) [] [] (tree_as_given flags L 0 0 (prepend e i empty)) tt

-- the numbers of the steps stay
first_for : (flags : IsaFlags) (ts : List Tree) (b : ℕ) → first_step (map (tree_for flags) ts) b ≡ first_step ts b
first_for flags [] b = refl
first_for flags (t ∷ ts) zero = refl
first_for flags (t ∷ ts) (suc b) = ap (λ n. n + first_step (map (tree_for flags) ts) b) (for_count flags t) ∙ ap (λ n. step_count t + n) (first_for flags ts b)

pub first_as_given : (flags : IsaFlags) (e : Emission) (bs : List Block) (b : ℕ) → first_step (emitted_trees flags e bs) b ≡ first_step (given_trees e bs) b
first_as_given flags e bs b = folded_first_step 0 (map (flagged_tree flags e) bs) b ∙ ap (λ ts. first_step ts b) (trees_for flags e bs) ∙ first_for flags (given_trees e bs) b
