-- Steps that emission lets pass are fine.
use Rattle.std.proofs.Common.{◌≡◌, ℕ, zero, suc, ◌+◌, ◌<◌, ◌≤◌, List, [], ◌∷◌, ◌++◌, length, Option, Some, None, option_map, ◌&&◌, ◌||◌, refl, sym, ap, ◌∙◌, subst, arith, append-nil, length-append, slice_get, ltb-true}
use Rattle.std.specs.Prelude.{nat_eq, nat_lt, not}
use Rattle.std.proofs.lemmas.Bool.{and_parts}
use Rattle.s390x_inst.specs.declared.state.IsaFlags.{IsaFlags}
use Rattle.s390x_base.specs.declared.ir.MachLabel.{MachLabel}
use Rattle.s390x_base.specs.declared.error.EmitError.{EmitError}
use Rattle.s390x_base.specs.declared.error.EmitError.TheVariants.{BadOperator, BadRegister, ScratchConflict, OffsetOutOfRange, UnboundLabel, BadStackState}
use Rattle.s390x_inst.specs.declared.inst.Inst.{Inst}
use Rattle.s390x_inst.specs.declared.inst.Inst.TheVariants as I
use Rattle.s390x_typed_steps.specs.Calls.{is_target, site_labels}
use Rattle.s390x_typed_steps.specs.Causes.{first_emit_cause, unless, facility_cause, target_label_cause, labels_cause, cause_or, loses_scratch, addend_fits, target_cause, memory_cause_or, instruction_cause, numbers_cause, leaf_cause, remainder_cause}
use Rattle.s390x_typed_steps.specs.Causes.{branch_cause, nesting_cause, fresh_labels, tree_cause, block_cause, blocks_cause, nominal_behind, instruction_fresh_labels, body_cause, body_fresh_labels, body_nominal_after}
use Rattle.s390x_typed_steps.specs.SingleInstruction.{SingleInstruction, single_instruction}
use Rattle.s390x_typed_steps.specs.General.{is_general, is_nonzero, is_scratch}
use Rattle.s390x_typed_steps.specs.Memory.{StorageForm, MemoryInstruction, memory, loaded_memory, without_relative, other_rows, with_rows, type_of}
use Rattle.s390x_typed_steps.specs.Operands.{has_form, operand_general, offset_fits}
use Rattle.s390x_typed_steps.specs.Folding.{folded_trees}
use Rattle.s390x_typed_steps.proofs.Folding.{BodyMasked, AllMasked, BlocksMasked, blocks_masked, folded_blocks_cause, folded_length, folded_blocks_masked}
use Rattle.s390x_typed_steps.specs.Ranges.{MemoryInRange, InRange, BlocksInRange}
use Rattle.s390x_typed_steps.specs.Rows.{LinkEnvironment}
use Rattle.s390x_typed_steps.specs.Tree.{StepBody, Tree, empty, leaf, loop_node, Whole, Loaded, Folded, CallStep, NoLoad, TailOpening, TailJump}
use Rattle.s390x_typed_steps.specs.Steps.{Step, Opening, Back, step_count, step_of, steps_of, steps_from, function_steps}
use Rattle.s390x_typed_steps.specs.VectorComposite.{composite_cause}
use Rattle.s390x_operations.specs.State.{CodeImage}
use Rattle.s390x_machine.specs.Functions.{function_layout}
use Rattle.s390x_machine.specs.Layout.{Layout, declarations}
use Rattle.s390x_machine.specs.CodeAt.{IsBlock, AreBlocks, IsValidBranch, OperandsValidOr, ValidMemoryOr, IsValidStep}
use Rattle.s390x_machine.proofs.Functions.{count_of}
use Rattle.s390x_machine.proofs.Relative.{first_none, unless_none}

module _ (L : Layout) where
  valid_other : (o : Option SingleInstruction) (m : Option MemoryInstruction) (others : Option EmitError) → cause_or o (memory_cause_or (declarations L) m others) ≡ None → MemoryInRange m → OperandsValidOr o (ValidMemoryOr L m (others ≡ None))
  valid_other None None others e range = e
  valid_other None (Some x) others e range =
      let form = has_form (type_of x.form x.accesses) x.operand in
      let registers = x.operands_valid && operand_general x.operand in
      let scratch = unless (not (loses_scratch x)) ScratchConflict in
      let fits = offset_fits x.operand && addend_fits x.operand in
      let offset = unless fits OffsetOutOfRange in
      let place = target_cause (declarations L) x in
      let a = first_none (unless form BadOperator) (first_emit_cause (unless registers BadRegister) (first_emit_cause (first_emit_cause scratch offset) place)) e in
      let b = first_none (unless registers BadRegister) (first_emit_cause (first_emit_cause scratch offset) place) a.1 in
      let c = first_none (first_emit_cause scratch offset) place b.1 in
      let d = first_none scratch offset c.0 in
      record {
        form = unless_none form BadOperator a.0;
        registers = unless_none registers BadRegister b.0;
        kept = unless_none (not (loses_scratch x)) ScratchConflict d.0;
        offset = (and_parts (offset_fits x.operand) (addend_fits x.operand) (unless_none fits OffsetOutOfRange d.1)).0;
        range = range;
        target = c.1;
      }
  valid_other (Some x) m others e range = unless_none x.operands_valid BadRegister e

  -- where an instruction has no causes of its own, what is asked of it besides holds
  abbrev AskedOr : Option EmitError → Type 0 → Type 0
  AskedOr None asked = asked
  AskedOr (Some c) asked = Unit {0}

  valid_asked : (o : Option SingleInstruction) (m : Option MemoryInstruction) (others : Option EmitError) (asked : Type 0) → AskedOr others asked → cause_or o (memory_cause_or (declarations L) m others) ≡ None → MemoryInRange m → OperandsValidOr o (ValidMemoryOr L m asked)
  valid_asked None None None asked own e range = own
  valid_asked None None (Some c) asked own e range = absurd (cc)
  valid_asked None (Some x) others asked own e range = valid_other None (Some x) others e range
  valid_asked (Some x) m others asked own e range = unless_none x.operands_valid BadRegister e

  block_of : (l : MachLabel) → target_label_cause L.block_count l ≡ None → IsBlock L l.0
  block_of l e = ltb-true l.0 L.block_count (unless_none (nat_lt l.0 L.block_count) UnboundLabel e)

  blocks_of : (ls : List MachLabel) → labels_cause L.block_count ls ≡ None → AreBlocks L ls
  blocks_of [] e = tt
  blocks_of (l ∷ ls) e = let parts = first_none (target_label_cause L.block_count l) (labels_cause L.block_count ls) e in (block_of l parts.0, blocks_of ls parts.1)

  -- an instruction, in so many loops, the innermost of which ends at a step
  valid_step : (flags : IsaFlags) (nominal depth after : ℕ) (i : Inst) → instruction_cause flags (declarations L) nominal depth i ≡ None → InRange i → (0 < depth → after ≤ length L.steps) → IsValidStep L (step_of after (Whole i))
  valid_step flags nominal depth after (I.Jump dest) e range le = block_of dest e
  valid_step flags nominal depth after (I.CondBr taken not_taken mask) e range le = let parts = first_none (target_label_cause L.block_count taken) (target_label_cause L.block_count not_taken) e in (block_of taken parts.0, block_of not_taken parts.1, range.0)
  valid_step flags nominal depth after (I.IndirectBr rn targets) e range le =
      let parts = first_none (unless (is_general rn && is_nonzero rn) BadRegister) (labels_cause L.block_count targets.items) e in
      let regs = and_parts (is_general rn) (is_nonzero rn) (unless_none (is_general rn && is_nonzero rn) BadRegister parts.0) in
      (regs.0, regs.1, blocks_of targets.items parts.1)
  valid_step flags nominal depth after (I.Ret link) e range le = and_parts (is_general link) (is_nonzero link) (unless_none (is_general link && is_nonzero link) BadRegister e)
  valid_step flags nominal depth after (I.JTSequence ridx other mask targets) e range le =
      let registers = first_none (unless (is_general ridx && is_nonzero ridx) BadRegister) (first_emit_cause (unless (not (is_scratch ridx)) ScratchConflict) (first_emit_cause (target_label_cause L.block_count other) (labels_cause L.block_count targets.items))) e in
      let scratch = first_none (unless (not (is_scratch ridx)) ScratchConflict) (first_emit_cause (target_label_cause L.block_count other) (labels_cause L.block_count targets.items)) registers.1 in
      let labels = first_none (target_label_cause L.block_count other) (labels_cause L.block_count targets.items) scratch.1 in
      let general = and_parts (is_general ridx) (is_nonzero ridx) (unless_none (is_general ridx && is_nonzero ridx) BadRegister registers.0) in
      (general.0, general.1, unless_none (not (is_scratch ridx)) ScratchConflict scratch.0, block_of other labels.0, blocks_of targets.items labels.1, range.0)
  valid_step flags nominal depth after (I.CondBreak mask) e range le = (range.0, le (ltb-true 0 depth (unless_none (nat_lt 0 depth) Rattle.s390x_base.specs.declared.error.EmitError.TheVariants.BreakOutsideLoop e)))
  valid_step flags nominal depth after (I.AllocateArgs size) e range le = refl
  valid_step flags nominal depth after (I.LabelAddress dst label) e range le =
      let parts = first_none (unless (is_general dst) BadRegister) (target_label_cause L.block_count label) e in
      (unless_none (is_general dst) BadRegister parts.0, block_of label parts.1)
  valid_step flags nominal depth after (I.LoadSymbolReloc rd reloc) e range le = unless_none (is_general rd) BadRegister e
  valid_step flags nominal depth after (I.TrapIf mask code) e range le = range.0
  valid_step flags nominal depth after (I.Vector v) e range le = valid_other (single_instruction (I.Vector v)) (memory (I.Vector v)) (composite_cause v) (first_none (facility_cause flags (I.Vector v)) (cause_or (single_instruction (I.Vector v)) (memory_cause_or (declarations L) (memory (I.Vector v)) (composite_cause v))) e).1 range.1
  -- a copy for each other instruction
  valid_step flags nominal depth after i e range le =
      valid_asked (single_instruction i) (memory i) (branch_cause L.block_count depth i) (IsValidBranch L i) tt
      (first_none (facility_cause flags i) (cause_or (single_instruction i) (memory_cause_or (declarations L) (memory i) (branch_cause L.block_count depth i))) e).1 range.1

  -- the operand is the same in other rows
  range_kept : (o : Option MemoryInstruction) → MemoryInRange o → MemoryInRange (without_relative o)
  range_kept None range = tt
  range_kept (Some x) range = go (other_rows x.form x.accesses)
    where
      go : (o : Option StorageForm) → MemoryInRange (option_map (with_rows x) o)
      go None = tt
      go (Some form) = range

  -- the body of a step
  valid_body : (flags : IsaFlags) (n nominal depth after : ℕ) (b : StepBody) → body_cause flags (declarations L) n nominal depth b ≡ None → BodyMasked b → (0 < depth → after ≤ length L.steps) → IsValidStep L (step_of after b)
  valid_body flags n nominal depth after (Whole i) e range le =
      valid_step flags nominal depth after i (first_none (instruction_cause flags (declarations L) nominal depth i) (numbers_cause n (instruction_fresh_labels i)) e).0 range le
  valid_body flags n nominal depth after (Folded r (I.Jump dest)) e range le =
      let i = I.Jump dest in
      let own = first_none (leaf_cause flags (declarations L) n nominal depth i) (remainder_cause L.block_count r) e in
      valid_step flags nominal depth after i (first_none (instruction_cause flags (declarations L) nominal depth i) (numbers_cause n 0) own.0).0 range.0 le
  valid_body flags n nominal depth after (Folded r (I.CondBr taken not_taken mask)) e range le =
      let i = I.CondBr taken not_taken mask in
      let own = first_none (leaf_cause flags (declarations L) n nominal depth i) (remainder_cause L.block_count r) e in
      valid_step flags nominal depth after i (first_none (instruction_cause flags (declarations L) nominal depth i) (numbers_cause n 0) own.0).0 range.0 le
  valid_body flags n nominal depth after (Folded r i) e range le = absurd range.1
  valid_body flags n nominal depth after (Loaded i) e range le =
      let parts = first_none (first_emit_cause (facility_cause flags i) (memory_cause_or (declarations L) (loaded_memory i) (Some BadOperator))) (numbers_cause n 0) e in
      valid_asked None (loaded_memory i) (Some BadOperator) ⊥ tt (first_none (facility_cause flags i) (memory_cause_or (declarations L) (loaded_memory i) (Some BadOperator)) parts.0).1 (range_kept (memory i) range.1)
  valid_body flags n nominal depth after (CallStep c) e range le =
      let later = first_emit_cause (unless (nat_eq c.popped nominal && (nat_eq c.popped 0 || nat_eq depth 0)) BadStackState) (labels_cause L.block_count (site_labels c.sites)) in
      let registers = first_none (unless (is_general c.link && is_target c.target) BadRegister) later e in
      and_parts (is_general c.link) (is_target c.target) (unless_none (is_general c.link && is_target c.target) BadRegister registers.0)
  valid_body flags n nominal depth after NoLoad e range le = absurd (cc)
  valid_body flags n nominal depth after (TailOpening target first_saved is_lost) e range le = tt
  valid_body flags n nominal depth after (TailJump target) e range le = unless_none (is_target target) BadRegister e

  -- each of some steps is fine
  AllValid : List Step → Type 0
  AllValid ss = (j : ℕ) (s : Step) → slice_get ss j ≡ Some s → IsValidStep L s

  valid_cons : (x : Step) (ss : List Step) → IsValidStep L x → AllValid ss → AllValid (x ∷ ss)
  unfolding AllValid
  valid_cons x ss h all zero s e = let same : x ≡ s = cc in subst (λ y. IsValidStep L y) same h
  valid_cons x ss h all (suc j) s e = all j s e

  valid_append : (xs ys : List Step) → AllValid xs → AllValid ys → AllValid (xs ++ ys)
  unfolding AllValid
  valid_append [] ys a b j s e = b j s e
  valid_append (x ∷ xs) ys a b zero s e = a zero s e
  valid_append (x ∷ xs) ys a b (suc j) s e = valid_append xs ys (λ i t h. a (suc i) t h) b j s e

  valid_tree : (flags : IsaFlags) (k after n nominal depth : ℕ) (t : Tree) → tree_cause flags (declarations L) n nominal depth t ≡ None → AllMasked t → (0 < depth → after ≤ length L.steps) → k + step_count t ≤ length L.steps → AllValid (steps_of k after t)
  unfolding AllValid
  valid_tree flags k after n nominal depth empty e range le within = λ j s h. absurd (cc)
  valid_tree flags k after n nominal depth (leaf b rest) e range le within =
      let parts = first_none (body_cause flags (declarations L) n nominal depth b) (tree_cause flags (declarations L) (n + body_fresh_labels b) (body_nominal_after nominal b) depth rest) e in
      valid_cons (step_of after b) (steps_of (k + 1) after rest) (valid_body flags n nominal depth after b parts.0 range.0 le) (valid_tree flags (k + 1) after (n + body_fresh_labels b) (body_nominal_after nominal b) depth rest parts.1 range.1 le (omega arith))
  valid_tree flags k after n nominal depth (loop_node mask members rest) e range le within =
      let a = first_none (first_emit_cause (first_emit_cause (nesting_cause depth) (numbers_cause n 2)) (tree_cause flags (declarations L) (n + 2) nominal (depth + 1) members)) (tree_cause flags (declarations L) (n + 2 + fresh_labels members) nominal depth rest) e in
      let b = first_none (first_emit_cause (nesting_cause depth) (numbers_cause n 2)) (tree_cause flags (declarations L) (n + 2) nominal (depth + 1) members) a.0 in
      let end = k + 2 + step_count members in
      let tail : AllValid (Back mask (k + 1) ∷ steps_of end after rest) = valid_cons (Back mask (k + 1)) (steps_of end after rest) (range.0, omega arith) (valid_tree flags end after (n + 2 + fresh_labels members) nominal depth rest a.1 range.2 le (omega arith)) in
      valid_cons Opening (steps_of (k + 1) end members ++ (Back mask (k + 1) ∷ steps_of end after rest)) tt
      (valid_append (steps_of (k + 1) end members) (Back mask (k + 1) ∷ steps_of end after rest) (valid_tree flags (k + 1) end (n + 2) nominal (depth + 1) members b.1 range.1 (λ d. omega arith) (omega arith)) tail)

  valid_blocks : (flags : IsaFlags) (k n : ℕ) (ts : List Tree) → blocks_cause flags (declarations L) n ts ≡ None → BlocksMasked ts → k + length (steps_from k ts) ≤ length L.steps → AllValid (steps_from k ts)
  unfolding AllValid
  valid_blocks flags k n [] e range within = λ j s h. absurd (cc)
  valid_blocks flags k n (t ∷ ts) e range within =
      let parts = first_none (block_cause flags (declarations L) n t) (blocks_cause flags (declarations L) (n + fresh_labels t) ts) e in
      let members = first_none (tree_cause flags (declarations L) n 0 0 t) (unless (nat_eq (nominal_behind 0 t) 0) BadStackState) parts.0 in
      let counted = count_of k 0 t in
      let joined = length-append (steps_of k 0 t) (steps_from (k + step_count t) ts) in
      valid_append (steps_of k 0 t) (steps_from (k + step_count t) ts) (valid_tree flags k 0 n 0 0 t members.0 range.0 (λ d. absurd (omega arith)) (omega (arith, counted, joined))) (valid_blocks flags (k + step_count t) (n + fresh_labels t) ts parts.1 range.1 (omega (arith, counted, joined)))

  pub valid_function : (flags : IsaFlags) (n : ℕ) (ts : List Tree) → L.steps ≡ function_steps ts → blocks_cause flags (declarations L) n ts ≡ None → BlocksMasked ts → (k : ℕ) (s : Step) → slice_get L.steps k ≡ Some s → IsValidStep L s
  unfolding AllValid
  valid_function flags n ts same e range k s h =
      let within : 0 + length (steps_from 0 ts) ≤ length L.steps = omega (arith, ap length same) in
      valid_blocks flags 0 n ts e range within k s (ap (λ ss. slice_get ss k) (sym same) ∙ h)

  -- those of one tree, whatever stack size it leaves
  pub valid_alone : (flags : IsaFlags) (n nominal : ℕ) (t : Tree) → L.steps ≡ function_steps (t ∷ []) → tree_cause flags (declarations L) n nominal 0 t ≡ None → BlocksMasked (t ∷ []) → (k : ℕ) (s : Step) → slice_get L.steps k ≡ Some s → IsValidStep L s
  unfolding AllValid
  valid_alone flags n nominal t same e range k s h =
      let own : L.steps ≡ steps_of 0 0 t = same ∙ append-nil (steps_of 0 0 t) in
      valid_tree flags 0 0 n nominal 0 t e range.0 (λ d. absurd (omega arith)) (omega (arith, count_of 0 0 t, ap length own)) k s (ap (λ ss. slice_get ss k) (sym own) ∙ h)

-- the steps of a function that has no cause of refusal
pub checked_steps : (flags : IsaFlags) (environment : LinkEnvironment) (ts : List Tree) (n : ℕ) (image : CodeImage) → blocks_cause flags (record { blocks = length ts; aligns = environment.aligns }) n ts ≡ None → BlocksInRange ts → (k : ℕ) (s : Step) → slice_get (function_steps ts) k ≡ Some s → IsValidStep (function_layout environment ts image) s
checked_steps flags environment ts n image e range = valid_function (function_layout environment ts image) flags n ts refl e (blocks_masked ts range)

-- the same of the steps that the ends of its blocks left
pub folded_steps : (flags : IsaFlags) (environment : LinkEnvironment) (ts : List Tree) (n : ℕ) (image : CodeImage) → blocks_cause flags (record { blocks = length ts; aligns = environment.aligns }) n ts ≡ None → BlocksInRange ts →
    (k : ℕ) (s : Step) → slice_get (function_steps (folded_trees ts)) k ≡ Some s → IsValidStep (function_layout environment (folded_trees ts) image) s
folded_steps flags environment ts n image e range =
    let L = function_layout environment (folded_trees ts) image in
    let same = folded_blocks_cause flags (declarations L) n 0 ts ∙ ap (λ m. blocks_cause flags (record { blocks = m; aligns = environment.aligns }) n ts) (folded_length 0 ts) in
    valid_function L flags n (folded_trees ts) refl (same ∙ e) (folded_blocks_masked 0 ts range)
