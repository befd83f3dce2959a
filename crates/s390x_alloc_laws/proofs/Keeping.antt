-- An edit without a fault leaves in each register only values of its class.
use Rattle.std.proofs.Common.{◌≡◌, ℕ, ◌+◌, Bool, true, false, cond, List, [], ◌∷◌, ◌++◌, length, Option, Some, None, Ok, slice_get, refl, sym, ap, subst, ◌∙◌}
use Rattle.std.specs.Prelude.{nat_eq, not, ◌&&◌, ◌||◌, count_by, filter, ⊤}
use Rattle.std.proofs.lemmas.Bool.{and_parts, or_parts, not-false}
use Rattle.s390x_base.specs.Registers.{RealRegister}
use Rattle.s390x_base.specs.declared.regs.Reg.{Reg}
use Rattle.s390x_base.specs.declared.regs.Reg.TheVariants.{Real, Virtual}
use Rattle.s390x_inst.specs.declared.inst.Inst.{Inst}
use Rattle.s390x_inst.specs.declared.state.FrameLayout.{FrameLayout}
use Rattle.s390x_operands.specs.Operands.{operands, operands_cause}
use Rattle.s390x_operands.specs.declared.constraint.OperandKind.{OperandKind}
use Rattle.s390x_operands.specs.declared.constraint.OperandKind.TheVariants.{Def, Use}
use Rattle.s390x_operands.specs.declared.constraint.Reported.{Reported}
use Rattle.s390x_operands.specs.declared.constraint.Reported.TheVariants.{Operand, Fixed, Clobbers}
use Rattle.s390x_alloc.specs.declared.fault.EditCause.{EditCause}
use Rattle.s390x_alloc.specs.declared.assigned.GivenOperand.{GivenOperand}
use Rattle.s390x_alloc.specs.declared.plan.Edit.TheVariants.{Move, Step}
use Rattle.s390x_alloc.specs.declared.plan.EntryPair.{EntryPair}
use Rattle.s390x_alloc.specs.declared.plan.Place.{Place}
use Rattle.s390x_alloc.specs.declared.plan.Place.TheVariants.{Reg as InReg, Slot}
use Rattle.s390x_alloc.specs.Blocks.{after_move, after_step_of}
use Rattle.s390x_alloc.specs.Assigned.{given_operands, is_operand}
use Rattle.s390x_alloc.specs.Contents.{carried_pairs, is_in_set, contents_after_move, contents_after_step, with_operand, with_operands, without_item, without_items, without_place}
use Rattle.s390x_alloc.specs.Moves.{holds_other_class, is_no_move, is_of_other_class, is_unlike, is_unmovable}
use Rattle.s390x_alloc.specs.Same.{is_reserved, same_class, same_place, same_register}
use Rattle.s390x_alloc.specs.Shape.{is_empty}
use Rattle.s390x_alloc.specs.Steps.{cause_or, first_unheld, first_unsuited, count_cause, step_cause, suits_constraint, suits_operand, unheld, unless_cause, unreported_cause, constraint_cause}
use Rattle.s390x_alloc.proofs.Sameness.{class-same, place-same, passed_first}
use Rattle.s390x_alloc.proofs.Walking.{later_none}
use Rattle.s390x_alloc.proofs.Meeting.{none_unsuited}
use Rattle.s390x_alloc_laws.specs.Classes.{AreInTheirClass, EditsKeepClasses, IsInItsClass}

-- ---- lists

either_kept : (b : Bool) (x : EntryPair) (xs : List EntryPair) → (b ≡ true → IsInItsClass x.place x.vreg) → AreInTheirClass xs → AreInTheirClass (cond b (x ∷ xs) xs)
either_kept true x xs f a = (f refl, a)
either_kept false x xs f a = a

filter_kept : (keep : EntryPair → Bool) (xs : List EntryPair) → AreInTheirClass xs → AreInTheirClass (filter keep xs)
filter_kept keep [] a = tt
filter_kept keep (x ∷ xs) a = either_kept (keep x) x (filter keep xs) (λ e. a.0) (filter_kept keep xs a.1)

append_kept : (xs ys : List EntryPair) → AreInTheirClass xs → AreInTheirClass ys → AreInTheirClass (xs ++ ys)
append_kept [] ys a b = b
append_kept (x ∷ xs) ys a b = (a.0, append_kept xs ys a.1 b)

-- ---- moves

-- what one place holds may stand in another one
abbrev MayCarry : (to from : Place) → List EntryPair → Type 0
MayCarry to from [] = ⊤
MayCarry to from (x ∷ xs) = (same_place x.place from ≡ true → IsInItsClass to x.vreg) × MayCarry to from xs

carried_kept : (to from : Place) (xs : List EntryPair) → MayCarry to from xs → AreInTheirClass (carried_pairs to from xs)
carried_kept to from [] f = tt
carried_kept to from (x ∷ xs) f = either_kept (same_place x.place from) (record { place = to; vreg = x.vreg }) (carried_pairs to from xs) f.0 (carried_kept to from xs f.1)

same_kept : (p q : RealRegister) (r : Reg) → p.class ≡ q.class → IsInItsClass (InReg q) r → IsInItsClass (InReg p) r
same_kept p q (Real z) h i = tt
same_kept p q (Virtual n c) h i = i ∙ sym h

from_register : (p q : RealRegister) (xs : List EntryPair) → p.class ≡ q.class → AreInTheirClass xs → MayCarry (InReg p) (InReg q) xs
from_register p q [] h a = tt
from_register p q (x ∷ xs) h a = ((λ e. same_kept p q x.vreg h (subst (λ y. IsInItsClass y x.vreg) (place-same x.place (InReg q) e) a.0)), from_register p q xs h a.1)

of_class : (p : RealRegister) (r : Reg) → is_of_other_class p.class r ≡ false → IsInItsClass (InReg p) r
of_class p (Real z) h = tt
of_class p (Virtual n c) h = class-same c p.class (not-false (same_class c p.class) h)

from_slot : (p : RealRegister) (s : ℕ) (xs : List EntryPair) → holds_other_class (Slot s) p.class xs ≡ false → MayCarry (InReg p) (Slot s) xs
from_slot p s [] h = tt
from_slot p s (x ∷ xs) h =
    let apart = or_parts (same_place x.place (Slot s) && is_of_other_class p.class x.vreg) (holds_other_class (Slot s) p.class xs) h in
    ((λ e. of_class p x.vreg (ap (λ b. b && is_of_other_class p.class x.vreg) (sym e) ∙ apart.0)), from_slot p s xs apart.1)

to_slot : (s : ℕ) (from : Place) (xs : List EntryPair) → MayCarry (Slot s) from xs
to_slot s from [] = tt
to_slot s from (x ∷ xs) = ((λ e. tt), to_slot s from xs)

may_carry : (to from : Place) (held : List EntryPair) → is_unlike to from held ≡ false → AreInTheirClass held → MayCarry to from held
may_carry (InReg p) (InReg q) held h a = from_register p q held (class-same p.class q.class (not-false (same_class p.class q.class) h)) a
may_carry (InReg p) (Slot s) held h a = from_slot p s held h
may_carry (Slot s) from held h a = to_slot s from held

moved_kept : (layout : FrameLayout) (to from : Place) (held : List EntryPair) → is_no_move layout to from held ≡ false → AreInTheirClass held → AreInTheirClass (contents_after_move to from held)
moved_kept layout to from held h a =
    let apart = or_parts (is_unmovable layout to || is_unmovable layout from) (is_unlike to from held) h in
    append_kept (without_place to held) (carried_pairs to from held) (filter_kept (λ (x : EntryPair). not (same_place x.place to)) held a) (carried_kept to from held (may_carry to from held apart.1 a))

move_kept : (misplaced none : Bool) (next behind : List EntryPair) → (none ≡ false → AreInTheirClass next) → after_move misplaced none next ≡ Ok behind → AreInTheirClass behind
move_kept true none next behind f h = absurd cc
move_kept false true next behind f h = absurd cc
move_kept false false next behind f h =
    let same : next ≡ behind = cc in
    subst (λ xs. AreInTheirClass xs) same (f refl)

-- ---- steps

item_kept : (i : Reported) (held : List EntryPair) → AreInTheirClass held → AreInTheirClass (without_item i held)
item_kept (Operand reg constraint kind pos) held a = a
item_kept (Fixed p) held a = filter_kept (λ (x : EntryPair). not (same_place x.place (InReg p))) held a
item_kept (Clobbers s) held a = filter_kept (λ (x : EntryPair). not (is_in_set s x.place)) held a

items_kept : (is : List Reported) (held : List EntryPair) → AreInTheirClass held → AreInTheirClass (without_items is held)
items_kept [] held a = a
items_kept (i ∷ is) held a = items_kept is (without_item i held) (item_kept i held a)

given_kept : (p : RealRegister) (r : Reg) → suits_operand r (Real p) ≡ true → IsInItsClass (InReg p) r
given_kept p (Real z) h = tt
given_kept p (Virtual n c) h = sym (class-same p.class c (and_parts (same_class p.class c) (not (is_reserved p)) h).0)

operand_kept : (k : OperandKind) (r q : Reg) (held : List EntryPair) → suits_operand r q ≡ true → AreInTheirClass held → AreInTheirClass (with_operand k r q held)
operand_kept Def r (Real p) held h a =
    let keep = λ (x : EntryPair). not (same_place x.place (InReg p) || same_register x.vreg r) in
    append_kept (filter keep held) (record { place = InReg p; vreg = r } ∷ []) (filter_kept keep held a) (given_kept p r h, tt)
operand_kept Def r (Virtual n c) held h a = a
operand_kept Use r q held h a = a

operands_kept : (all : List Reg) (number : ℕ) (xs : List GivenOperand) (held : List EntryPair) → first_unsuited all number xs ≡ None → AreInTheirClass held → AreInTheirClass (with_operands xs held)
operands_kept all number [] held h a = a
operands_kept all number (x ∷ xs) held h a =
    let apart = passed_first (suits_operand x.reg x.given && suits_constraint x.constraint all x.given) number (first_unsuited all (number + 1) xs) h in
    let suits = (and_parts (suits_operand x.reg x.given) (suits_constraint x.constraint all x.given) apart.0).0 in
    operands_kept all (number + 1) xs (with_operand x.kind x.reg x.given held) apart.1 (operand_kept x.kind x.reg x.given held suits a)

earlier_none : (a b : Option EditCause) → cause_or a b ≡ None → a ≡ None
earlier_none None b h = refl
earlier_none (Some c) b h = absurd cc

all_suited : (i : Inst) (regs : List Reg) (held : List EntryPair) → step_cause i regs held ≡ None → first_unsuited regs 0 (given_operands (operands i) regs) ≡ None
all_suited i regs held h =
    let xs = given_operands (operands i) regs in
    let reported = later_none (unreported_cause (operands_cause false i)) _ h in
    let counted = later_none (count_cause (nat_eq (count_by is_operand (operands i)) (length regs))) _ reported in
    none_unsuited _ (earlier_none (constraint_cause (first_unsuited regs 0 xs)) (unheld (first_unheld held 0 xs)) counted)

unless_kept : (c : Option EditCause) (next behind : List EntryPair) → (c ≡ None → AreInTheirClass next) → unless_cause c next ≡ Ok behind → AreInTheirClass behind
unless_kept None next behind f h =
    let same : next ≡ behind = cc in
    subst (λ xs. AreInTheirClass xs) same (f refl)
unless_kept (Some c) next behind f h = absurd cc

step_kept : (o : Option Inst) (regs : List Reg) (held behind : List EntryPair) → after_step_of o regs held ≡ Ok behind → AreInTheirClass held → AreInTheirClass behind
step_kept None regs held behind h a = absurd cc
step_kept (Some i) regs held behind h a =
    let xs = given_operands (operands i) regs in
    unless_kept (step_cause i regs held) (contents_after_step (operands i) xs held) behind (λ none. operands_kept regs 0 xs (without_items (operands i) held) (all_suited i regs held none) (items_kept (operands i) held a)) h

pub edits_keep : EditsKeepClasses
edits_keep layout ends (Move to from) is held behind h a =
    move_kept (ends && is_empty is) (is_no_move layout to from held) (contents_after_move to from held) behind (λ none. moved_kept layout to from held none a) h
edits_keep layout ends (Step regs) is held behind h a = step_kept (slice_get is 0) regs.items held behind h a
