-- The steps that lead elsewhere, those of addresses, and those that do nothing.
use Rattle.std.proofs.Common.{◌≡◌, ℕ, suc, ◌+◌, ◌*◌, ◌<◌, ◌≤◌, [], ◌∷◌, List, length, Some, false, true, cond, refl, sym, ap, ◌∙◌, subst, arith}
use Rattle.s390x_base.specs.declared.ir.MachLabel.{MachLabel}
use Rattle.s390x_inst.specs.declared.calls.SymbolReloc.{SymbolReloc}
use Rattle.s390x_format.specs.declared.kind.FormatKind.TheVariants.{Rr}
use Rattle.s390x_format.specs.Formats.{length_of}
use Rattle.s390x_rows.specs.declared.opcodes.TheConstants as opcodes
use Rattle.s390x_typed_steps.specs.MachineInstruction.{bytes_of, rr, ril_b}
use Rattle.s390x_typed_steps.specs.Parts.{ToBlock, ToStep, Row, Branch, Relative, table_words, table_parts, symbol_parts, parts_size, step_parts}
use Rattle.s390x_typed_steps.specs.Rows.{half_distance, table_distance, word_bytes}
use Rattle.s390x_typed_steps.specs.Steps.{Step}
use Rattle.s390x_operations.specs.Effects.{is_selected}
use Rattle.s390x_operations.specs.State.{Registers, Core, State, with_code, wrapping_add64}
use Rattle.s390x_operations.specs.declared.effect.CodeRule.TheVariants.{Kept}
use Rattle.s390x_operations.specs.declared.operator.Operator.TheVariants.{Move}
use Rattle.s390x_operations.specs.declared.stop.ConditionCode.{ConditionCode}
use Rattle.s390x_operations.specs.declared.stop.ConditionCode.TheVariants.{Code0}
use Rattle.s390x_machine.specs.declared.action_type.Action.TheVariants.{Perform, Branch as BranchAction}
use Rattle.s390x_format.specs.declared.semantics.RowSemantics.TheVariants.{BranchToRegister}
use Rattle.s390x_machine.specs.Computations.{computes_immediate, on_doublewords, idles}
use Rattle.s390x_machine.specs.StepKinds.{Performs, GoesTo, Chooses, GoesByTable, Leads, Silent, linked_value, no_code}
use Rattle.s390x_machine.specs.Layout.{Layout, step_address, block_address, InStep}
use Rattle.s390x_machine.specs.Machine.{Event, Executed, Interrupted, ActionStep}
use Rattle.s390x_machine.specs.OneStep.{StepRuns, silent}
use Rattle.s390x_machine.specs.CodeAt.{IsBlock, AreBlocks}
use Rattle.s390x_machine.specs.Typed.{At, KindStep, kind_of_step}
use Rattle.s390x_machine.proofs.Addresses.{sum_more}
use Rattle.s390x_machine.proofs.Bits.{bcr_row}
use Rattle.s390x_machine.proofs.Branches.{jump_runs, TwoBranches, choose_runs, leads_runs}
use Rattle.s390x_machine.proofs.Built.{StepAt, IsRow, computes_immediate_always, exactly, uncoded, step_within, step_even, step_small, step_form, stand_as, size_as, one_row, row_alone, row_runs, meant_runs}
use Rattle.s390x_machine.proofs.Fetching.{StandsAt}
use Rattle.s390x_machine.proofs.Rows.{bcr_at, brcl_at, fits_rr, larl_at}
use Rattle.s390x_machine.proofs.Simulation.{RowAt}
use Rattle.s390x_machine.proofs.Standing.{step_within as bytes_within, inside_at, inside_first, next_place, block_begins}
use Rattle.s390x_machine.proofs.Stops.{never_by_values}
use Rattle.s390x_machine.proofs.Symbols.{loads_doubleword, bras_at, lg_at, SymbolRows, symbol_runs}
use Rattle.s390x_machine.proofs.Tables.{adds_word, agf_at, TableRows, table_runs, listed_block, words_stand}
use Rattle.s390x_machine.proofs.Trapping.{within_image}

-- no code is selected by a mask of zeros
none_selected : (code : ConditionCode) → is_selected 0 code ≡ false
none_selected Code0 = refl
none_selected code = refl

idle_acts : (target size : ℕ) (s : State) (event : Event) (t : State) → ActionStep (BranchAction 0 target) size s event t → ActionStep (Perform (idles s.core.registers)) size s event t
idle_acts target size s (Executed x) t h = (
  record {
    reached = refl;
    allowed = refl;
    results = ap (λ (c : Core). c.registers) h.0 ∙ ap (λ (c : Core). with_code c.registers.code s.core.registers) (sym h.0);
    code = ap (λ (c : Core). c.registers.code) h.0;
    memory = ap (λ (c : Core). c.memory) h.0;
  },
  h.1 ∙ ap (λ b. cond b target (wrapping_add64 s.address size)) (none_selected s.core.registers.code),
  h.2,
)
idle_acts target size s (Interrupted kind) t h = absurd h

idle_branch : (L : Layout) (p size : ℕ) (target : Registers → ℕ) → RowAt L p (λ r. BranchAction 0 (target r)) size → RowAt L p (λ r. Perform (idles r)) size
idle_branch L p size target row s at is_loaded event t step = idle_acts (target s.core.registers) size s event t (row s at is_loaded event t step)

module _ {L : Layout} {k : ℕ} {s : Step} (x : StepAt L k s) where
  -- the row of a branch to a register
  pub register_row : (n : ℕ) → step_parts s ≡ Row (rr opcodes.BCR 15 n) ∷ [] → n < 16 → (n ≡ 0 → ⊥) → RowAt L (step_address L k) (λ r. BranchAction 15 (r.general n)) (length_of Rr) × InStep L k (step_address L k)
  unfolding length_of
  register_row n parts ln some =
      let one = one_row x (rr opcodes.BCR 15 n) parts in
      (bcr_at L x.image (L.offsets.step k) (step_even x) 15 n (omega arith) ln some one.stands, inside_first L k 2 one.size (omega arith))

  -- a branch to no address does nothing
  pub fence_runs : IsRow L s (rr opcodes.BCR 14 0) idles → StepRuns L k
  fence_runs is = meant_runs x (rr opcodes.BCR 14 0) BranchToRegister idles (λ r. never_by_values (idles r) no_code refl (λ kind h. h)) is bcr_row (fits_rr opcodes.BCR 14 0 (omega arith) (omega arith) (omega arith)) refl (λ r p. refl)

  -- nor does one under a mask that selects nothing
  pub idle_runs : IsRow L s (rr opcodes.BCR 0 7) idles → StepRuns L k
  idle_runs is =
      row_runs x (rr opcodes.BCR 0 7) idles (λ r. never_by_values (idles r) no_code refl (λ kind h. h)) is (λ st. idle_branch L (step_address L k) (length_of Rr) (λ r. r.general 7) (bcr_at L x.image (L.offsets.step k) (step_even x) 0 7 (omega arith) (omega arith) (λ e. absurd (cc)) st))

  pub goto_runs : (b : ℕ) → kind_of_step L (Some s) ≡ Some (GoesTo b) → step_parts s ≡ Branch 15 (ToBlock b) ∷ [] → IsBlock L b → StepRuns L k
  unfolding length_of
  goto_runs b is parts known =
      let rows = stand_as x _ parts in
      let size : L.offsets.step (suc k) ≡ L.offsets.step k + 6 = size_as x _ parts in
      jump_runs L k b (λ r. BranchAction 15 (block_address L b)) 6 (block_address L b) (step_form x _ is) (brcl_at L x.image (L.offsets.step k) (step_even x) 15 (L.offsets.block b) (omega arith) (step_small x) (x.image.block_places b known).0 (x.image.block_places b known).1 rows.0) (λ r. refl) (block_begins L x.image b known) (inside_first L k 6 size (omega arith))

  pub condbr_runs : (mask a b : ℕ) → kind_of_step L (Some s) ≡ Some (Chooses mask a b) → step_parts s ≡ Branch mask (ToBlock a) ∷ Branch 15 (ToBlock b) ∷ [] → mask < 16 → IsBlock L a → IsBlock L b → StepRuns L k
  unfolding length_of
  condbr_runs mask a b is parts lm known_a known_b =
      let o = L.offsets.step k in
      let rows = stand_as x _ parts in
      let size : L.offsets.step (suc k) ≡ o + 12 = size_as x _ parts in
      let p : wrapping_add64 (step_address L k) 6 ≡ wrapping_add64 L.image.base (o + 6) = sum_more L.image.base o 6 in
      let bound = bytes_within L k s x.code in
      let two : TwoBranches L k mask a b = record {
        size = 6;
        second_size = 6;
        first = brcl_at L x.image o (step_even x) mask (L.offsets.block a) lm (step_small x) (x.image.block_places a known_a).0 (x.image.block_places a known_a).1 rows.0;
        second = subst (λ q. RowAt L q (λ r. BranchAction 15 (block_address L b)) 6) (sym p) (brcl_at L x.image (o + 6) (omega (arith, step_even x)) 15 (L.offsets.block b) (omega arith) (omega (arith, size, bound, x.image.short)) (x.image.block_places b known_b).0 (x.image.block_places b known_b).1 rows.1.0);
        here = inside_first L k 12 size (omega arith);
        here_second = inside_at L k 6 12 size (omega arith);
        first_target = block_begins L x.image a known_a;
        second_target = block_begins L x.image b known_b;
      } in
      choose_runs L k mask a b (step_form x _ is) two

  -- the address of a block
  pub label_runs : (d b : ℕ) → kind_of_step L (Some s) ≡ Some (Performs false (computes_immediate Kept (on_doublewords Move) d d (block_address L b)) no_code) → step_parts s ≡ Relative opcodes.LARL d (ToBlock b) ∷ [] → d < 16 → IsBlock L b → StepRuns L k
  unfolding length_of
  label_runs d b is parts ld known =
      let rows = stand_as x _ parts in
      let size : L.offsets.step (suc k) ≡ L.offsets.step k + 6 = size_as x _ parts in
      let operation = computes_immediate Kept (on_doublewords Move) d d (block_address L b) in
      row_alone x operation no_code (λ r. Perform (operation r)) 6 is (larl_at L x.image (L.offsets.step k) (step_even x) d (L.offsets.block b) ld (step_small x) (x.image.block_places b known).0 (x.image.block_places b known).1 rows.0) (λ r. exactly (operation r)) (uncoded L (step_address L k)) (computes_immediate_always Kept (on_doublewords Move) d d (block_address L b)) size (omega arith)

  -- a jump by a table
  pub jump_by_table_runs : (index mask other : ℕ) (targets : List MachLabel) → kind_of_step L (Some s) ≡ Some (GoesByTable index mask other targets) → step_parts s ≡ table_parts index mask other targets → index < 16 → (index ≡ 0 → ⊥) → (index ≡ 1 → ⊥) → mask < 16 → IsBlock L other → AreBlocks L targets → StepRuns L k
  unfolding length_of
  jump_by_table_runs index mask other targets is parts li nonzero not_scratch lm known are c is_loaded =
      let o = L.offsets.step k in
      let base = L.image.base in
      let stands = stand_as x _ parts in
      let size : L.offsets.step (suc k) ≡ o + (20 + parts_size (table_words 0 targets)) = size_as x _ parts ∙ omega arith in
      let e2 : wrapping_add64 base (o + 6) ≡ wrapping_add64 (step_address L k) 6 = sym (sum_more base o 6) in
      let e3 : wrapping_add64 base (o + 6 + 6) ≡ wrapping_add64 (wrapping_add64 (step_address L k) 6) 6 = sym (sum_more base (o + 6) 6) ∙ ap (λ p. wrapping_add64 p 6) e2 in
      let e4 : wrapping_add64 base (o + 6 + 6 + 6) ≡ wrapping_add64 (wrapping_add64 (wrapping_add64 (step_address L k) 6) 6) 6 = sym (sum_more base (o + 6 + 6) 6) ∙ ap (λ p. wrapping_add64 p 6) e3 in
      let inside : (n : ℕ) → n < 20 → InStep L k (wrapping_add64 base (o + n)) = λ n lt. record { offset = o + n; above = omega arith; below = omega (arith, size); is = refl } in
      let seven : 7 ≡ half_distance (o + 6) (o + 20) = omega arith in
      let bound = bytes_within L k s x.code in
      let rows : TableRows L k index mask other (o + 20) targets = record {
        first = brcl_at L x.image o (step_even x) mask (L.offsets.block other) lm (step_small x) (x.image.block_places other known).0 (x.image.block_places other known).1 stands.0;
        second = subst (λ p. RowAt L p (λ r. Perform (computes_immediate Kept (on_doublewords Move) 1 1 (wrapping_add64 base (o + 20)) r)) 6) e2
            (larl_at L x.image (o + 6) (omega (arith, step_even x)) 1 (o + 20) (omega arith) (omega (arith, size, bound, x.image.short)) (omega (arith, step_even x)) (omega (arith, size, bound, x.image.short)) (subst (λ h. StandsAt L.image (o + 6) (bytes_of (ril_b opcodes.LARL 1 h))) seven stands.1.0));
        third = subst (λ p. RowAt L p (λ r. Perform (adds_word index r)) 6) e3 (agf_at L x.image (o + 6 + 6) (omega (arith, step_even x)) index li stands.1.1.0);
        fourth = subst (λ p. RowAt L p (λ r. BranchAction 15 (r.general 1)) 2) e4 (bcr_at L x.image (o + 6 + 6 + 6) (omega (arith, step_even x)) 15 1 (omega arith) (omega arith) (λ e. absurd (omega arith)) stands.1.1.1.0);
        here = subst (InStep L k) (ap (λ n. wrapping_add64 base n) (omega arith)) (inside 0 (omega arith));
        here_second = subst (InStep L k) e2 (inside 6 (omega arith));
        here_third = subst (InStep L k) (ap (λ n. wrapping_add64 base n) (omega arith) ∙ e3) (inside 12 (omega arith));
        here_fourth = subst (InStep L k) (ap (λ n. wrapping_add64 base n) (omega arith) ∙ e4) (inside 18 (omega arith));
        known = block_begins L x.image other known;
        words = λ j l e.
            let w = words_stand L (o + 6 + 6 + 6 + 2) 0 targets stands.1.1.1.1 j l e in
            let z : o + 6 + 6 + 6 + 2 ≡ o + 20 = omega arith in
            let n : 0 + 4 * j ≡ 4 * j = omega arith in
            let w1 : StandsAt L.image (o + 20 + 4 * j) (word_bytes (table_distance (o + 20 + 4 * j) (0 + 4 * j) (L.offsets.block l.0))) = subst (λ q. StandsAt L.image (q + 4 * j) (word_bytes (table_distance (q + 4 * j) (0 + 4 * j) (L.offsets.block l.0)))) z w in
            let w2 : StandsAt L.image (o + 20 + 4 * j) (word_bytes (table_distance (o + 20 + 4 * j) (4 * j) (L.offsets.block l.0))) = subst (λ b. StandsAt L.image (o + 20 + 4 * j) (word_bytes (table_distance (o + 20 + 4 * j) b (L.offsets.block l.0)))) n w1 in
            let block : IsBlock L l.0 = listed_block L targets are j l e in
            record { stands = w2; near = omega (arith, within_image L (o + 20 + 4 * j) _ w2, x.image.short); small = (x.image.block_places l.0 block).1; known = block_begins L x.image l.0 block };
        nonzero = nonzero;
        not_scratch = not_scratch;
      } in
      table_runs L x.image k index mask other (o + 20) targets (step_form x _ is) rows c is_loaded

  -- a load of a symbol's address plus an offset
  pub load_symbol_runs : (d : ℕ) (reloc : SymbolReloc) → kind_of_step L (Some s) ≡ Some (Performs true (computes_immediate Kept (on_doublewords Move) d d (linked_value L reloc)) no_code) → step_parts s ≡ symbol_parts d reloc → d < 16 → StepRuns L k
  unfolding length_of
  load_symbol_runs d reloc is parts ld =
      let o = L.offsets.step k in
      let base = L.image.base in
      let stands = stand_as x _ parts in
      let size : L.offsets.step (suc k) ≡ o + 18 = size_as x _ parts in
      let twelve : o + 4 + 8 ≡ o + 12 = omega arith in
      let second : wrapping_add64 base (o + 4 + 8) ≡ wrapping_add64 (step_address L k) 12 = ap (λ n. wrapping_add64 base n) twelve ∙ sym (sum_more base o 12) in
      let rows : SymbolRows L k d (linked_value L reloc) = record {
        first = bras_at L x.image o (step_even x) stands.0;
        second = subst (λ p. RowAt L p (λ r. Perform (loads_doubleword d r)) 6) second (lg_at L x.image (o + 4 + 8) (omega (arith, step_even x)) d ld stands.1.1.0);
        here = inside_first L k 18 size (omega arith);
        here_second = inside_at L k 12 18 size (omega arith);
        next = sum_more (step_address L k) 12 6 ∙ next_place L k 18 size;
        holds = stands.1.0;
      } in
      symbol_runs L x.image k d (linked_value L reloc) (step_form x _ is) rows

  pub loop_runs : (mask j : ℕ) → kind_of_step L (Some s) ≡ Some (Leads mask j) → step_parts s ≡ Branch mask (ToStep j) ∷ [] → mask < 16 → j ≤ length L.steps → StepRuns L k
  unfolding length_of
  loop_runs mask j is parts lm le =
      let rows = stand_as x _ parts in
      let size : L.offsets.step (suc k) ≡ L.offsets.step k + 6 = size_as x _ parts in
      leads_runs L k mask j 6 (step_form x _ is) (brcl_at L x.image (L.offsets.step k) (step_even x) mask (L.offsets.step j) lm (step_small x) (x.image.step_places j le).0 (x.image.step_places j le).1 rows.0) (next_place L k 6 size) (inside_first L k 6 size (omega arith))

  pub opening_runs : kind_of_step L (Some s) ≡ Some Silent → step_parts s ≡ [] → StepRuns L k
  opening_runs is parts c is_loaded trace run =
      let size : L.offsets.step (suc k) ≡ L.offsets.step k = size_as x _ parts ∙ omega arith in
      silent (subst (λ f. KindStep L f k c (At (suc k)) c) (sym (step_form x Silent is)) (refl, refl)) (step_within x) size
