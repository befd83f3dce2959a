-- Where what is held agrees with the values of registers and places, it does so behind each edit.
use Rattle.std.proofs.Common.{◌≡◌, ℕ, ◌+◌, Bool, true, false, List, [], ◌∷◌, ◌++◌, None, ◌⊎◌, inl, inr, refl, sym, ap, subst, ◌∙◌}
use Rattle.std.specs.Prelude.{◌||◌, not, filter}
use Rattle.std.proofs.lemmas.Bool.{and_parts, and_from, cases_Bool, cond-true, cond-false, false≢true, or_cases, or_from, or_left, or_parts, or_right, not-true}
use Rattle.s390x_base.specs.Registers.{RealRegister}
use Rattle.s390x_base.specs.declared.regs.Reg.{Reg}
use Rattle.s390x_base.specs.declared.regs.Reg.TheVariants.{Real, Virtual}
use Rattle.s390x_operands.specs.declared.constraint.OperandKind.{OperandKind}
use Rattle.s390x_operands.specs.declared.constraint.OperandKind.TheVariants.{Def, Use}
use Rattle.s390x_operands.specs.declared.constraint.Reported.{Reported}
use Rattle.s390x_operands.specs.declared.constraint.Reported.TheVariants.{Operand, Fixed, Clobbers}
use Rattle.s390x_alloc.specs.declared.assigned.GivenOperand.{GivenOperand}
use Rattle.s390x_alloc.specs.declared.plan.EntryPair.{EntryPair}
use Rattle.s390x_alloc.specs.declared.plan.Place.{Place}
use Rattle.s390x_alloc.specs.declared.plan.Place.TheVariants.{Reg as InReg}
use Rattle.s390x_alloc.specs.Contents.{carried_pairs, holds, is_in_set, contents_after_move, contents_after_step, with_operand, with_operands, with_output, without_item, without_items, without_place}
use Rattle.s390x_alloc.specs.Same.{same_pair, same_place, same_register}
use Rattle.s390x_alloc.specs.Steps.{first_unheld, is_held}
use Rattle.s390x_alloc.specs.Walks.{AllReadAlike, Fresh, ReadsAlike, Values, after_inst, values_after_copy, is_lost, is_lost_by, with_output_value, with_outputs, without}
use Rattle.s390x_alloc.proofs.Sameness.{pair-same, place-same, place-self, register-self, passed_first}

-- each pair that is held has the same value by its register and in its place
abbrev pub Agrees : List EntryPair → Values → Type 0
Agrees held v = (x : EntryPair) → holds held x ≡ true → v.of_register x.vreg ≡ v.of_place x.place

-- ---- what is held, pair by pair

holds_append : (xs ys : List EntryPair) (x : EntryPair) → holds (xs ++ ys) x ≡ true → (holds xs x ≡ true) ⊎ (holds ys x ≡ true)
holds_append [] ys x h = inr h
holds_append (y ∷ xs) ys x h = elim (or_cases (same_pair y x) (holds (xs ++ ys) x) h) [
  | inl e ↦ inl (or_left (same_pair y x) (holds xs x) e)
  | inr e ↦ elim (holds_append xs ys x e) [ inl k ↦ inl (or_right (same_pair y x) (holds xs x) k) | inr k ↦ inr k ]
]

holds_filter : (keep : EntryPair → Bool) (xs : List EntryPair) (x : EntryPair) → holds (filter keep xs) x ≡ true → (holds xs x ≡ true) × (keep x ≡ true)
holds_filter keep [] x h = absurd cc
holds_filter keep (y ∷ xs) x h = elim (cases_Bool (keep y)) [
  | inl e ↦
      let k : (same_pair y x || holds (filter keep xs) x) ≡ true = ap (λ l. holds l x) (sym (cond-true (keep y) (y ∷ filter keep xs) (filter keep xs) e)) ∙ h in
      elim (or_cases (same_pair y x) (holds (filter keep xs) x) k) [
        | inl s ↦ (or_left (same_pair y x) (holds xs x) s, ap keep (sym (pair-same y x s)) ∙ e)
        | inr s ↦ let r = holds_filter keep xs x s in (or_right (same_pair y x) (holds xs x) r.0, r.1)
      ]
  | inr e ↦
      let r = holds_filter keep xs x (ap (λ l. holds l x) (sym (cond-false (keep y) (y ∷ filter keep xs) (filter keep xs) e)) ∙ h) in
      (or_right (same_pair y x) (holds xs x) r.0, r.1)
]

abbrev pair_at : Place → Reg → EntryPair
pair_at p r = record { place = p; vreg = r }

holds_carried : (to from : Place) (xs : List EntryPair) (x : EntryPair) → holds (carried_pairs to from xs) x ≡ true → (to ≡ x.place) × (holds xs (pair_at from x.vreg) ≡ true)
holds_carried to from [] x h = absurd cc
holds_carried to from (y ∷ xs) x h = elim (cases_Bool (same_place y.place from)) [
  | inl e ↦
      let k : (same_pair (pair_at to y.vreg) x || holds (carried_pairs to from xs) x) ≡ true = ap (λ l. holds l x) (sym (cond-true (same_place y.place from) (pair_at to y.vreg ∷ carried_pairs to from xs) (carried_pairs to from xs) e)) ∙ h in
      elim (or_cases (same_pair (pair_at to y.vreg) x) (holds (carried_pairs to from xs) x) k) [
        | inl s ↦
            let a = and_parts (same_place to x.place) (same_register y.vreg x.vreg) s in
            (place-same to x.place a.0, or_left (same_pair y (pair_at from x.vreg)) (holds xs (pair_at from x.vreg)) (and_from _ _ e a.1))
        | inr s ↦ let r = holds_carried to from xs x s in (r.0, or_right (same_pair y (pair_at from x.vreg)) (holds xs (pair_at from x.vreg)) r.1)
      ]
  | inr e ↦
      let r = holds_carried to from xs x (ap (λ l. holds l x) (sym (cond-false (same_place y.place from) (pair_at to y.vreg ∷ carried_pairs to from xs) (carried_pairs to from xs) e)) ∙ h) in
      (r.0, or_right (same_pair y (pair_at from x.vreg)) (holds xs (pair_at from x.vreg)) r.1)
]

-- ---- a move

pub agrees_moved : (to from : Place) (held : List EntryPair) (v : Values) → Agrees held v → Agrees (contents_after_move to from held) (values_after_copy to from v)
agrees_moved to from held v a x h = elim (holds_append (without_place to held) (carried_pairs to from held) x h) [
  | inl k ↦
      let r = holds_filter (λ (y : EntryPair). not (same_place y.place to)) held x k in
      a x r.0 ∙ sym (cond-false (same_place x.place to) (v.of_place from) (v.of_place x.place) (not-true _ r.1))
  | inr k ↦
      let r = holds_carried to from held x k in
      let here : same_place x.place to ≡ true = ap (λ p. same_place p to) (sym r.0) ∙ place-self to in
      a (pair_at from x.vreg) r.1 ∙ sym (cond-true (same_place x.place to) (v.of_place from) (v.of_place x.place) here)
]

-- ---- an instruction

holds_item : (i : Reported) (held : List EntryPair) (x : EntryPair) → holds (without_item i held) x ≡ true → (holds held x ≡ true) × (is_lost_by i x.place ≡ false)
holds_item (Operand reg constraint kind pos) held x h = (h, refl)
holds_item (Fixed p) held x h = let r = holds_filter (λ (y : EntryPair). not (same_place y.place (InReg p))) held x h in (r.0, not-true _ r.1)
holds_item (Clobbers s) held x h = let r = holds_filter (λ (y : EntryPair). not (is_in_set s y.place)) held x h in (r.0, not-true _ r.1)

holds_items : (is : List Reported) (held : List EntryPair) (x : EntryPair) → holds (without_items is held) x ≡ true → (holds held x ≡ true) × (is_lost is x.place ≡ false)
holds_items [] held x h = (h, refl)
holds_items (i ∷ is) held x h =
    let r = holds_items is (without_item i held) x h in
    let s = holds_item i held x r.0 in
    (s.0, or_from (is_lost_by i x.place) (is_lost is x.place) s.1 r.1)

agrees_without : (lost : Place → ℕ) (is : List Reported) (held : List EntryPair) (v : Values) → Agrees held v → Agrees (without_items is held) (without lost is v)
agrees_without lost is held v a x h =
    let r = holds_items is held x h in
    a x r.0 ∙ sym (cond-false (is_lost is x.place) (lost x.place) (v.of_place x.place) r.1)

agrees_output : (p : RealRegister) (r : Reg) (n : ℕ) (held : List EntryPair) (v : Values) → Agrees held v → Agrees (with_output p r held) (with_output_value Def r (Real p) n v)
agrees_output p r n held v a x h = elim (holds_append (filter (λ (y : EntryPair). not (same_place y.place (InReg p) || same_register y.vreg r)) held) (pair_at (InReg p) r ∷ []) x h) [
  | inl k ↦
      let s = holds_filter (λ (y : EntryPair). not (same_place y.place (InReg p) || same_register y.vreg r)) held x k in
      let apart = or_parts (same_place x.place (InReg p)) (same_register x.vreg r) (not-true _ s.1) in
      cond-false (same_register x.vreg r) n (v.of_register x.vreg) apart.1 ∙ a x s.0 ∙ sym (cond-false (same_place x.place (InReg p)) n (v.of_place x.place) apart.0)
  | inr k ↦ elim (or_cases (same_pair (pair_at (InReg p) r) x) false k) [
    | inl s ↦
        let w = with_output_value Def r (Real p) n v in
        subst (λ (y : EntryPair). w.of_register y.vreg ≡ w.of_place y.place) (pair-same (pair_at (InReg p) r) x s)
        (cond-true (same_register r r) n (v.of_register r) (register-self r) ∙ sym (cond-true (same_place (InReg p) (InReg p)) n (v.of_place (InReg p)) (place-self (InReg p))))
    | inr s ↦ absurd (false≢true s)
  ]
]

agrees_operand : (k : OperandKind) (r q : Reg) (n : ℕ) (held : List EntryPair) (v : Values) → Agrees held v → Agrees (with_operand k r q held) (with_output_value k r q n v)
agrees_operand Def r (Real p) n held v a = agrees_output p r n held v a
agrees_operand Def r (Virtual m c) n held v a = a
agrees_operand Use r q n held v a = a

agrees_operands : (output : ℕ → ℕ) (number : ℕ) (xs : List GivenOperand) (held : List EntryPair) (v : Values) → Agrees held v → Agrees (with_operands xs held) (with_outputs output number xs v)
agrees_operands output number [] held v a = a
agrees_operands output number (x ∷ xs) held v a = agrees_operands output (number + 1) xs (with_operand x.kind x.reg x.given held) (with_output_value x.kind x.reg x.given (output number) v) (agrees_operand x.kind x.reg x.given (output number) held v a)

pub agrees_stepped : (fresh : Fresh) (is : List Reported) (xs : List GivenOperand) (held : List EntryPair) (v : Values) → Agrees held v → Agrees (contents_after_step is xs held) (after_inst fresh is xs v)
agrees_stepped fresh is xs held v a = agrees_operands fresh.output 0 xs (without_items is held) (without fresh.lost is v) (agrees_without fresh.lost is held v a)

-- ---- what is read

reads_one : (k : OperandKind) (r q : Reg) (held : List EntryPair) (v : Values) → Agrees held v → is_held k r q held ≡ true → ReadsAlike k r q v
reads_one Def r q held v a h = tt
reads_one Use (Real p) q held v a h = tt
reads_one Use (Virtual n c) (Real p) held v a h = a (pair_at (InReg p) (Virtual n c)) h
reads_one Use (Virtual n c) (Virtual m d) held v a h = absurd (false≢true h)

-- no operand reads what isn't held
pub reads_all : (number : ℕ) (xs : List GivenOperand) (held : List EntryPair) (v : Values) → Agrees held v → first_unheld held number xs ≡ None → AllReadAlike xs v
reads_all number [] held v a h = tt
reads_all number (x ∷ xs) held v a h =
    let r = passed_first (is_held x.kind x.reg x.given held) number (first_unheld held (number + 1) xs) h in
    (reads_one x.kind x.reg x.given held v a r.0, reads_all (number + 1) xs held v a r.1)
