-- After emission each label of a block and each label that was drawn is bound.
use Rattle.std.proofs.Common.{◌≡◌, ℕ, ◌+◌, ◌<◌, ◌≤◌, ◌≢◌, inl, inr, List, [], ◌∷◌, ◌++◌, length, set, Option, true, sym, ap, ◌∙◌, arith, length-set, None, Some}
use Rattle.std.specs.Prelude.{is_some}
use Rattle.std.proofs.lemmas.Bool.{cases_lt, cases_eq}
use Rattle.std.proofs.lemmas.List.{get_or-set_other, get_or-set_same}
use Rattle.s390x_buffer.specs.State.{BufferState}
use Rattle.s390x_buffer.specs.Patch.{is_bound}
use Rattle.s390x_base.specs.Regs.{number_of}
use Rattle.s390x_inst.specs.declared.inst.Inst.{Inst}
use Rattle.s390x_inst.specs.declared.inst.Inst.TheVariants.{JTSequence}
use Rattle.s390x_rows.specs.declared.opcodes.TheConstants as opcodes
use Rattle.s390x_typed_steps.specs.Tree.{Tree, empty, leaf, loop_node, Whole, StepBody}
use Rattle.s390x_typed_steps.specs.Sizes.{tree_size, body_size}
use Rattle.s390x_typed_steps.specs.Causes.{instruction_fresh_labels, fresh_labels, body_fresh_labels}
use Rattle.s390x_typed_steps.specs.MachineInstruction.{ril_c, bytes_of}
use Rattle.s390x_emit_int.specs.Fragments.{apply, apply_all, StartStep}
use Rattle.s390x_emit_int.specs.Emission.{leaf_fragments, back_fragments, fragments, function_fragments, body_fragments}
use Rattle.s390x_emit_int.proofs.Runs.{Grows, grows_on, run-append, step_grows, table_label, tree_grows, opened, opened_labels, opened_grows, body_run, loop_run, end_grows, body_grows}
use Rattle.s390x_emit_int.proofs.Binding.{opened_start}
use Rattle.s390x_emit_int.proofs.Functions.{bound_state, block_state, block_grows, block_labels, later}

-- binding a label
set_bound : (labels : List (Option ℕ)) (k l p : ℕ) → l < length labels → (l ≢ k → is_bound labels l ≡ true) → is_bound (set labels k (Some p)) l ≡ true
set_bound labels k l p lt h =
    elim (cases_eq l k) [
      | inl e ↦ ap (λ j. is_bound (set labels k (Some p)) j) e ∙ ap is_some (get_or-set_same labels k (Some p) None (omega arith))
      | inr ne ↦ ap is_some (get_or-set_other labels k l (Some p) None ne) ∙ h ne
    ]

-- so is the label that an instruction draws
leaf_closed : (i : Inst) (s : BufferState) (n after l : ℕ) → n ≡ length s.labels → n ≤ l → l < n + instruction_fresh_labels i → is_bound (apply_all s (leaf_fragments n after i)).labels l ≡ true
leaf_closed (JTSequence ridx other mask targets) s n after l e lo hi =
    let same : l ≡ n = omega arith in
    let fragments = leaf_fragments n after (JTSequence ridx other mask targets) in
    ap (is_bound (apply_all s fragments).labels) same ∙ ap is_some (table_label s n (number_of ridx) mask other.0 targets.items e)
leaf_closed i s n after l e lo hi = absurd (omega arith)

body_closed : (b : StepBody) (s : BufferState) (n after l : ℕ) → n ≡ length s.labels → n ≤ l → l < n + body_fresh_labels b → is_bound (apply_all s (body_fragments n after b)).labels l ≡ true
body_closed (Whole i) s n after l e lo hi = leaf_closed i s n after l e lo hi
body_closed b s n after l e lo hi = absurd (omega arith)

-- the labels that a tree draws, from number n on, are bound behind it
pub tree_closed : (t : Tree) (s : BufferState) (n after l : ℕ) → n ≡ length s.labels → n ≤ l → l < length (apply_all s (fragments n after t)).labels → is_bound (apply_all s (fragments n after t)).labels l ≡ true
tree_closed empty s n after l e lo hi = absurd (omega arith)
tree_closed (leaf b rest) s n after l e lo hi =
    let s1 = apply s StartStep in
    let s2 = apply_all s1 (body_fragments n after b) in
    let n' = n + body_fresh_labels b in
    let g : Grows s s2 (body_fresh_labels b) (body_size b) = step_grows s s2 _ _ (body_grows b s1 n after e) in
    let n2 : n' ≡ length s2.labels = omega (arith, g.labels) in
    let whole : apply_all s (fragments n after (leaf b rest)) ≡ apply_all s2 (fragments n' after rest) = run-append s1 (body_fragments n after b) (fragments n' after rest) in
    let hi2 : l < length (apply_all s2 (fragments n' after rest)).labels = omega (arith, hi, ap (λ x. length x.labels) whole) in
    ap (λ x. is_bound x.labels l) whole ∙ elim (cases_lt l n') [
      | inl lt ↦ ap is_some ((tree_grows rest s2 n' after n2).kept l (omega (arith, n2))) ∙ body_closed b s1 n after l e lo lt
      | inr ge ↦ tree_closed rest s2 n' after l n2 ge hi2
    ]
tree_closed (loop_node mask members rest) s n after l e lo hi =
    let n0 = length s.labels in
    let s1 = apply s StartStep in
    let o = opened s1 in
    let s2 = body_run s1 members in
    let s3 = loop_run s1 mask members in
    let gb = tree_grows members o (n0 + 2) (n0 + 1) (sym (opened_labels s1)) in
    let g2 = grows_on s1 o s2 _ _ _ _ (opened_grows s1) gb in
    let g3 = end_grows s1 s2 mask (fresh_labels members) (0 + tree_size members) g2 in
    let pr = fragments (n0 + 2 + fresh_labels members) after rest in
    let n3 : n0 + 2 + fresh_labels members ≡ length s3.labels = omega (arith, g3.labels) in
    let gr = tree_grows rest s3 (n0 + 2 + fresh_labels members) after n3 in
    let u = apply_all s3 pr in
    let first : apply_all s (fragments n after (loop_node mask members rest)) ≡ apply_all s (fragments n0 after (loop_node mask members rest)) = ap (λ x. apply_all s (fragments x after (loop_node mask members rest))) e in
    let second : apply_all s (fragments n0 after (loop_node mask members rest)) ≡ u = run-append o (fragments (n0 + 2) (n0 + 1) members) (back_fragments n0 mask ++ pr) ∙ run-append s2 (back_fragments n0 mask) pr in
    let whole = first ∙ second in
    let hiu : l < length u.labels = omega (arith, hi, ap (λ x. length x.labels) whole) in
    let l2 : length s2.labels ≡ n0 + (2 + fresh_labels members) = g2.labels in
    let long = length-set s2.labels (n0 + 1) (Some (length (s2.bytes ++ bytes_of (ril_c opcodes.BRCL mask 0)))) in
    let start_in : n0 < length o.labels = omega (arith, opened_labels s1) in
    let inner : (j : ℕ) → n0 ≤ j → j < length s2.labels → j ≢ n0 + 1 → is_bound s2.labels j ≡ true = λ j low high ne.
    elim (cases_eq j n0) [
      | inl at ↦ ap (is_bound s2.labels) at ∙ ap is_some (gb.kept n0 start_in ∙ opened_start s1)
      | inr not ↦ tree_closed members o (n0 + 2) (n0 + 1) j (sym (opened_labels s1)) (omega arith) high
    ] in
    ap (λ x. is_bound x.labels l) whole ∙ elim (cases_lt l (length s3.labels)) [
      | inl lt ↦ ap is_some (gr.kept l lt) ∙ set_bound s2.labels (n0 + 1) l _ (omega (arith, long, lt)) (inner l (omega (arith, e, lo)) (omega (arith, long, lt)))
      | inr ge ↦ tree_closed rest s3 (n0 + 2 + fresh_labels members) after l n3 (omega (arith, n3)) hiu
    ]

-- the labels of blocks
pub blocks_closed : (ts : List Tree) (s : BufferState) (n b l : ℕ) → n ≡ length s.labels → b + length ts ≤ n → b ≤ l → l < b + length ts → is_bound (apply_all s (function_fragments n b ts)).labels l ≡ true
blocks_closed [] s n b l e room lo hi = absurd (omega arith)
blocks_closed (t ∷ ts) s n b l e room lo hi =
    let s2 = block_state s n b t in
    let rest = function_fragments (n + fresh_labels t) (b + 1) ts in
    let n2 = block_labels t s n b e in
    let g = block_grows t s n b e in
    let long = length-set s.labels b (Some (length s.bytes)) in
    let whole = run-append (bound_state s b) (fragments n 0 t) rest in
    let in0 : b < length s.labels = omega (arith, e) in
    let in1 : b < length (bound_state s b).labels = omega (arith, long, e) in
    let here : is_bound (apply_all s2 rest).labels b ≡ true = ap is_some (later ts s2 (n + fresh_labels t) (b + 1) b n2 (omega arith) (inl (omega arith)) ∙ g.kept b in1 ∙ get_or-set_same s.labels b (Some (length s.bytes)) None in0) in
    ap (λ x. is_bound x.labels l) whole ∙ elim (cases_eq l b) [
      | inl at ↦ ap (is_bound (apply_all s2 rest).labels) at ∙ here
      | inr not ↦ blocks_closed ts s2 (n + fresh_labels t) (b + 1) l n2 (omega arith) (omega arith) (omega arith)
    ]

-- the labels that the blocks' loops draw
pub drawn_closed : (ts : List Tree) (s : BufferState) (n b l : ℕ) → n ≡ length s.labels → b + length ts ≤ n → n ≤ l → l < length (apply_all s (function_fragments n b ts)).labels → is_bound (apply_all s (function_fragments n b ts)).labels l ≡ true
drawn_closed [] s n b l e room lo hi = absurd (omega arith)
drawn_closed (t ∷ ts) s n b l e room lo hi =
    let s1 = bound_state s b in
    let s2 = block_state s n b t in
    let rest = function_fragments (n + fresh_labels t) (b + 1) ts in
    let n2 = block_labels t s n b e in
    let long = length-set s.labels b (Some (length s.bytes)) in
    let whole = run-append s1 (fragments n 0 t) rest in
    let hiu : l < length (apply_all s2 rest).labels = omega (arith, hi, ap (λ x. length x.labels) whole) in
    ap (λ x. is_bound x.labels l) whole ∙ elim (cases_lt l (n + fresh_labels t)) [
      | inl lt ↦ ap is_some (later ts s2 (n + fresh_labels t) (b + 1) l n2 lt (inr (omega arith))) ∙ tree_closed t s1 n 0 l (e ∙ sym long) lo (omega (arith, n2))
      | inr ge ↦ drawn_closed ts s2 (n + fresh_labels t) (b + 1) l n2 (omega arith) ge hiu
    ]
