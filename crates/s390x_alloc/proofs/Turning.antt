-- One more item of a list, edit of a block or block of a plan is looked at.
use Rattle.std.proofs.Common.{◌≡◌, ℕ, ◌+◌, ◌<◌, ◌≤◌, Bool, List, [], ◌∷◌, ◌++◌, length, get_or, drop, length-append, append_assoc, Result, Ok, Err, inl, inr, slice_get, refl, sym, ap, ◌∙◌, arith, drop-drop}
use Rattle.std.proofs.lemmas.List.{drop_all}
use Rattle.s390x_base.specs.declared.regs.Reg.{Reg}
use Rattle.s390x_inst.specs.declared.function.Block.{Block}
use Rattle.s390x_inst.specs.declared.inst.Inst.{Inst}
use Rattle.s390x_inst.specs.declared.state.FrameLayout.{FrameLayout}
use Rattle.s390x_operands.specs.declared.constraint.Reported.{Reported}
use Rattle.s390x_operands.proofs.Looping.{cons_of}
use Rattle.s390x_alloc.specs.declared.fault.PlanFault.{PlanFault}
use Rattle.s390x_alloc.specs.declared.fault.PlanFault.TheVariants.{Order}
use Rattle.s390x_alloc.specs.declared.assigned.GivenOperand.{GivenOperand}
use Rattle.s390x_alloc.specs.declared.plan.BlockPlan.{BlockPlan}
use Rattle.s390x_alloc.specs.declared.plan.Edit.{Edit}
use Rattle.s390x_alloc.specs.declared.plan.EntryPair.{EntryPair}
use Rattle.s390x_alloc.specs.Blocks.{IsFault, after_block, after_blocks, after_edit, after_edits, left_behind, or_block_fault, or_fault, steps_in}
use Rattle.s390x_alloc.specs.Faults.{IsTold}
use Rattle.s390x_alloc.specs.Assigned.{given_behind, given_operand}

-- ---- operands

pub given_turn : (items : List Reported) (k : ℕ) (x : Reported) (regs : List Reg) (before after : List GivenOperand) (t : List GivenOperand) → k < length items → x ≡ get_or items k x →
    after ≡ before ++ given_operand x (slice_get regs (length before)) → before ++ given_behind (length before) (drop k items) regs ≡ t → after ++ given_behind (length after) (drop (k + 1) items) regs ≡ t
given_turn items k x regs before after t lt at is h =
    let here = given_operand x (slice_get regs (length before)) in
    let rest = drop (k + 1) items in
    ap (λ l. l ++ given_behind (length l) rest regs) is
    ∙ ap (λ n. (before ++ here) ++ given_behind n rest regs) (length-append before here)
    ∙ append_assoc before here (given_behind (length before + length here) rest regs)
    ∙ sym (ap (λ l. before ++ given_behind (length before) l regs) (cons_of items k x lt at))
    ∙ h

-- ---- edits

module _ (layout : FrameLayout) (ends : Bool) (block : ℕ) (es : List Edit) (is : List Inst) where
  -- behind an edit
  pub edit_turn : (k taken : ℕ) (e : Edit) (held next : List EntryPair) (t : Result (List EntryPair) PlanFault) → k < length es → e ≡ get_or es k e → after_edit layout ends e (drop taken is) held ≡ Ok next →
      after_edits layout ends block k (drop k es) (drop taken is) held ≡ t → after_edits layout ends block (k + 1) (drop (k + 1) es) (drop (taken + steps_in e) is) next ≡ t
  edit_turn k taken e held next t lt at goes h =
      let later = λ (l : List EntryPair). after_edits layout ends block (k + 1) (drop (k + 1) es) (left_behind e (drop taken is)) l in
      ap (λ l. after_edits layout ends block (k + 1) (drop (k + 1) es) l next) (sym (drop-drop (steps_in e) taken is))
      ∙ sym (ap (λ r. or_fault block k r later) goes)
      ∙ sym (ap (λ l. after_edits layout ends block k l (drop taken is) held) (cons_of es k e lt at))
      ∙ h

  missing : (k : ℕ) (left : List Inst) (held : List EntryPair) → 0 < length left → after_edits layout ends block k [] left held ≡ Err (Order block k)
  missing k [] held some = absurd (omega (arith, some))
  missing k (i ∷ left) held some = refl

  pub edits_missing : (k n taken : ℕ) (held : List EntryPair) (t : Result (List EntryPair) PlanFault) (f : PlanFault) → length es ≤ k → n ≡ k → 0 < length (drop taken is) → IsTold (Order block n) f →
      after_edits layout ends block k (drop k es) (drop taken is) held ≡ t → IsFault t f
  edits_missing k n taken held t f le same some (inl none) h = inl none
  edits_missing k n taken held t f le same some (inr told) h =
      inr (sym h ∙ ap (λ l. after_edits layout ends block k l (drop taken is) held) (drop_all k es le) ∙ missing k (drop taken is) held some ∙ ap (λ m. Err (Order block m)) (sym same) ∙ ap Err (sym told))

-- ---- blocks

module _ (layout : FrameLayout) (count : ℕ) (bs : List Block) (ps : List BlockPlan) where
  pub block_turn : (k : ℕ) (b : Block) (p : BlockPlan) (ends : List (List EntryPair)) (next : List EntryPair) (t : Result (List (List EntryPair)) PlanFault) → k < length bs → b ≡ get_or bs k b → k < length ps → p ≡ get_or ps k p →
      after_block layout count k b p ≡ Ok next → after_blocks layout count ends k (drop k bs) (drop k ps) ≡ t → after_blocks layout count (ends ++ next ∷ []) (k + 1) (drop (k + 1) bs) (drop (k + 1) ps) ≡ t
  block_turn k b p ends next t lt at lt' at' goes h =
      let later = λ (l : List EntryPair). after_blocks layout count (ends ++ l ∷ []) (k + 1) (drop (k + 1) bs) (drop (k + 1) ps) in
      sym (ap (λ r. or_block_fault r later) goes)
      ∙ sym (ap (λ l. after_blocks layout count ends k (b ∷ drop (k + 1) bs) l) (cons_of ps k p lt' at'))
      ∙ sym (ap (λ l. after_blocks layout count ends k l (drop k ps)) (cons_of bs k b lt at))
      ∙ h
