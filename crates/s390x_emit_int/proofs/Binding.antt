-- After emission each label stands at the offset that the sizes give.
use Rattle.std.proofs.Common.{◌≡◌, ℕ, ◌+◌, ◌<◌, ◌≤◌, ◌≢◌, [], ◌∷◌, ◌++◌, length, get_or, sym, ap, ◌∙◌, subst, arith, length-append, length-set, None, Some}
use Rattle.std.proofs.lemmas.List.{get_or-set_other, get_or-set_same}
use Rattle.s390x_buffer.specs.State.{BufferState}
use Rattle.s390x_buffer.specs.Extends.{Extends, ExtendsExcept}
use Rattle.s390x_buffer.proofs.Extending.{extends_on, extends_bound}
use Rattle.s390x_buffer.specs.Patch.{offset_of_label, bound_offset}
use Rattle.s390x_base.specs.Regs.{number_of}
use Rattle.s390x_inst.specs.declared.inst.Inst.{Inst}
use Rattle.s390x_inst.specs.declared.inst.Inst.TheVariants.{JTSequence}
use Rattle.s390x_rows.specs.declared.opcodes.TheConstants as opcodes
use Rattle.s390x_typed_steps.specs.Tree.{Tree, empty, leaf, loop_node, Whole, StepBody}
use Rattle.s390x_typed_steps.specs.Sizes.{tree_size, body_size}
use Rattle.s390x_typed_steps.specs.Causes.{fresh_labels, body_fresh_labels}
use Rattle.s390x_typed_steps.specs.MachineInstruction.{ril_c, bytes_of}
use Rattle.s390x_emit_int.specs.Fragments.{apply, apply_all, StartStep}
use Rattle.s390x_emit_int.specs.Emission.{leaf_fragments, back_fragments, fragments, body_fragments}
use Rattle.s390x_emit_int.specs.Bound.{LeafBound, Bound, BodyBound}
use Rattle.s390x_emit_int.proofs.Runs.{Grows, grows_on, run-append, leaf_grows, step_grows, table_label, tree_grows, opened, opened_labels, opened_grows, body_run, loop_run, end_grows, length-branch, body_grows}

-- the labels from number n on stand as this state has them
abbrev pub Tells : (ℕ → ℕ) → ℕ → BufferState → Type 0
Tells off n u = (l : ℕ) → n ≤ l → l < length u.labels → off l ≡ offset_of_label u.labels l

-- what stands later stands now
pub tells_before : (off : ℕ → ℕ) (n m : ℕ) (s u : BufferState) (k j : ℕ) → n ≤ m → Grows s u k j → Tells off n u → Tells off m s
tells_before off n m s u k j le g tells l lo hi =
    let a : n ≤ l = omega arith in
    let b : l < length u.labels = omega (arith, g.labels) in
    tells l a b ∙ ap bound_offset (g.kept l hi)

pub opened_start : (s : BufferState) → get_or (opened s).labels (length s.labels) None ≡ Some (length s.bytes)
opened_start s =
    let xs = (s.labels ++ None ∷ []) ++ None ∷ [] in
    let lt : length s.labels < length xs = omega (arith, length-append (s.labels ++ None ∷ []) (None ∷ []), length-append s.labels (None ∷ [])) in
    get_or-set_same xs (length s.labels) (Some (length s.bytes)) None lt

-- the label that an instruction draws
leaf_bound : (i : Inst) (s : BufferState) (n after : ℕ) (off : ℕ → ℕ) → n ≡ length s.labels → Tells off n (apply_all s (leaf_fragments n after i)) → LeafBound off n (length s.bytes) i
leaf_bound (JTSequence ridx other mask targets) s n after off e tells =
    let g = leaf_grows (JTSequence ridx other mask targets) s n after e in
    tells n (omega arith) (omega (arith, g.labels)) ∙ ap bound_offset (table_label s n (number_of ridx) mask other.0 targets.items e)
leaf_bound i s n after off e tells = tt

body_bound : (b : StepBody) (s : BufferState) (n after : ℕ) (off : ℕ → ℕ) → n ≡ length s.labels → Tells off n (apply_all s (body_fragments n after b)) → BodyBound off n (length s.bytes) b
body_bound (Whole i) s n after off e tells = leaf_bound i s n after off e tells
body_bound b s n after off e tells = tt

pub tree_bound : (t : Tree) (s : BufferState) (n after : ℕ) (off : ℕ → ℕ) → n ≡ length s.labels → Tells off n (apply_all s (fragments n after t)) → Bound off n (length s.bytes) t
tree_bound empty s n after off e tells = tt
tree_bound (leaf b rest) s n after off e tells =
    let s1 = apply s StartStep in
    let s2 = apply_all s1 (body_fragments n after b) in
    let n' = n + body_fresh_labels b in
    let g : Grows s s2 (body_fresh_labels b) (body_size b) = step_grows s s2 _ _ (body_grows b s1 n after e) in
    let n2 : n' ≡ length s2.labels = omega (arith, g.labels) in
    let u = apply_all s2 (fragments n' after rest) in
    let tells' : Tells off n u = subst (Tells off n) (run-append s1 (body_fragments n after b) (fragments n' after rest)) tells in
    let here = body_bound b s1 n after off e (tells_before off n n s2 u _ _ (omega arith) (tree_grows rest s2 n' after n2) tells') in
    let there = tree_bound rest s2 n' after off n2 (λ l lo hi. tells' l (omega arith) hi) in
    (here, subst (λ m. Bound off n' m rest) g.bytes there)
tree_bound (loop_node mask members rest) s n after off e tells =
    let n0 = length s.labels in
    let s1 = apply s StartStep in
    let o = opened s1 in
    let s2 = body_run s1 members in
    let s3 = loop_run s1 mask members in
    let gb = tree_grows members o (n0 + 2) (n0 + 1) (sym (opened_labels s1)) in
    let g2 = grows_on s1 o s2 _ _ _ _ (opened_grows s1) gb in
    let g3 = end_grows s1 s2 mask (fresh_labels members) (0 + tree_size members) g2 in
    let pr = fragments (n0 + 2 + fresh_labels members) after rest in
    let n3 : n0 + 2 + fresh_labels members ≡ length s3.labels = omega (arith, g3.labels) in
    let gr = tree_grows rest s3 (n0 + 2 + fresh_labels members) after n3 in
    let u = apply_all s3 pr in
    let whole : apply_all s (fragments n0 after (loop_node mask members rest)) ≡ u = run-append o (fragments (n0 + 2) (n0 + 1) members) (back_fragments n0 mask ++ pr) ∙ run-append s2 (back_fragments n0 mask) pr in
    let tells0 : Tells off n0 (apply_all s (fragments n0 after (loop_node mask members rest))) = subst (λ x. Tells off x (apply_all s (fragments x after (loop_node mask members rest)))) e tells in
    let tellsu : Tells off n0 u = subst (Tells off n0) whole tells0 in
    let tells3 : Tells off n0 s3 = tells_before off n0 n0 s3 u _ _ (omega arith) gr tellsu in
    let end = Some (length (s2.bytes ++ bytes_of (ril_c opcodes.BRCL mask 0))) in
    let lo : n0 < length o.labels = omega (arith, opened_labels s1) in
    let l2 : length s2.labels ≡ n0 + (2 + fresh_labels members) = g2.labels in
    let ne : n0 ≢ n0 + 1 = omega arith in
    let in3 : n0 < length s3.labels = omega (arith, n3) in
    let in3' : n0 + 1 < length s3.labels = omega (arith, n3) in
    let in2' : n0 + 1 < length s2.labels = omega (arith, l2) in
    let start_at : off n0 ≡ length s.bytes = tells3 n0 (omega arith) in3 ∙ ap bound_offset (get_or-set_other s2.labels (n0 + 1) n0 end None ne ∙ gb.kept n0 lo ∙ opened_start s1) in
    let b2 : length s2.bytes ≡ length s.bytes + tree_size members = omega (arith, g2.bytes) in
    let end_at : off (n0 + 1) ≡ length s.bytes + tree_size members + 6 = tells3 (n0 + 1) (omega arith) in3' ∙ ap bound_offset (get_or-set_same s2.labels (n0 + 1) end None in2') ∙ length-append s2.bytes (bytes_of (ril_c opcodes.BRCL mask 0)) ∙ omega (arith, b2, length-branch mask) in
    let set_long = length-set s2.labels (n0 + 1) end in
    let inner = tree_bound members o (n0 + 2) (n0 + 1) off (sym (opened_labels s1)) (λ l low hi. let ne' : l ≢ n0 + 1 = omega arith in let hi' : l < length s3.labels = omega (arith, set_long) in tells3 l (omega arith) hi' ∙ ap bound_offset (get_or-set_other s2.labels (n0 + 1) l end None ne')) in
    let outer = tree_bound rest s3 (n0 + 2 + fresh_labels members) after off n3 (λ l low hi. tellsu l (omega arith) hi) in
    let b3 : length s3.bytes ≡ length s.bytes + tree_size members + 6 = omega (arith, g3.bytes) in
    subst (λ x. Bound off x (length s.bytes) (loop_node mask members rest)) (sym e) (start_at, end_at, inner, subst (λ m. Bound off (n0 + 2 + fresh_labels members) m rest) b3 outer)

-- a label that is drawn first, and bound behind another one, is none of those that stood
pub bound_kept : (s first second bound : BufferState) (label : ℕ) → Extends s first → Extends first second → label ≡ length s.labels → ExtendsExcept label second bound → Extends s bound
bound_kept s first second bound label a b e k = extends_bound s second bound label (extends_on s first second a b) (omega (arith, e)) k
