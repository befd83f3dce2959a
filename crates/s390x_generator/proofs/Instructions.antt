-- The instructions of a generated block: none has a cause of refusal, each has at most 12 bytes, and none leaves anything for linking.
use Rattle.std.proofs.Common.{◌≡◌, ℕ, ◌+◌, ◌<◌, ◌≤◌, ◌%◌, Bool, true, false, cond, List, [], ◌∷◌, Some, None, refl, ap, ap₂, arith, pos}
use Rattle.std.specs.Prelude.{◌&&◌, nat_eq, nat_le, unsigned_abs}
use Rattle.std.proofs.lemmas.Bool.{le-leb, lt-ltb, eqb-false}
use Rattle.std.proofs.lemmas.Nat.{mod_below}
use Rattle.s390x_base.specs.declared.error.EmitError.TheVariants.{OffsetOutOfRange, UnboundLabel}
use Rattle.s390x_format.specs.Formats.{length_of}
use Rattle.s390x_inst.specs.Emission.{Emission}
use Rattle.s390x_inst.specs.declared.inst.Inst.{Inst}
use Rattle.s390x_inst.specs.declared.inst.Inst.TheVariants as I
use Rattle.s390x_inst.specs.declared.args.MemArg.TheVariants.{RegOffset, BXD12, BXD20}
use Rattle.s390x_inst.specs.Memory.{trusted}
use Rattle.s390x_inst.specs.declared.state.IsaFlags.{IsaFlags}
use Rattle.s390x_rows.specs.declared.opcodes.TheConstants as opcodes
use Rattle.s390x_typed_steps.specs.Causes.{Declared, first_emit_cause, instruction_cause, instruction_fresh_labels, target_label_cause, unless}
use Rattle.s390x_typed_steps.specs.Memory.{StorageForm, RxForm, type_of}
use Rattle.s390x_typed_steps.specs.Operands.{Finalized, with_address_loaded, fits_12, fits_20, fits_32, no_register, scratch, with_offset, with_widened}
use Rattle.s390x_typed_steps.specs.Parts.{CodePart, finalized_parts, instruction_parts, parts_size}
use Rattle.s390x_typed_steps.specs.Relocs.{parts_relocs}
use Rattle.s390x_typed_steps.specs.Stack.{nominal_after}
use Rattle.s390x_typed_steps.specs.Steps.{Plain, step_of}
use Rattle.s390x_typed_steps.specs.Tree.{Tree, leaf, prepend, Whole}
use Rattle.s390x_generator.specs.Generator.{above_stack, added, ending, label, register, sum, work}

-- an instruction outside loops that isn't refused, leaves the stack, draws no label, and is no more than two machine instructions without relocations
pub record IsFine (D : Declared) (i : Inst) : Type 0 where
  pub alone : (e : Emission) (t : Tree) → prepend e i t ≡ leaf (Whole i) t
  pub cause : (flags : IsaFlags) → instruction_cause flags D 0 0 i ≡ None
  pub fresh : instruction_fresh_labels i ≡ 0
  pub nominal : nominal_after 0 i ≡ 0
  pub plain : step_of 0 (Whole i) ≡ Plain i
  pub size : nat_le (parts_size (instruction_parts i)) 12 ≡ true
  pub relocs : (p : ℕ) → parts_relocs p (instruction_parts i) ≡ []

-- ---- the operand

fits : (d : ℕ) → d ≤ 2147483647 → fits_32 (pos d) ≡ true
fits d h = le-leb d 2147483647 h

-- an operand above the stack pointer, in whatever form it stands
each_form : (P : Finalized → Type 0) (a b c : Bool) (w x y z : Finalized) → P w → P x → P y → P z → P (cond a w (cond b x (cond c y z)))
each_form P true b c w x y z p q r s = p
each_form P false true c w x y z p q r s = q
each_form P false false true w x y z p q r s = r
each_form P false false false w x y z p q r s = s

-- the forms in which it may stand: a short or a long displacement, an index that a helper loads, or none
abbrev short : ℕ → Finalized
short d = record { helpers = []; operand = BXD12 (register 15) no_register (unsigned_abs (pos d)) trusted }

abbrev long : ℕ → Finalized
long d = record { helpers = []; operand = BXD20 (register 15) no_register (pos d) trusted }

abbrev indexed : ℕ → Finalized
indexed d = record { helpers = I.Mov64SImm32 scratch (pos d) ∷ []; operand = BXD12 (register 15) scratch 0 trusted }

abbrev unfit : ℕ → Finalized
unfit d = record { helpers = []; operand = RegOffset (register 15) (pos d) trusted }

-- what holds of an access in each form holds of it
abbrev parts_in : StorageForm → Finalized → List CodePart
parts_in form f = finalized_parts form None (with_widened (type_of form true) (with_address_loaded (type_of form true) f))

in_each_form : (P : List CodePart → Type 0) (form : StorageForm) (d : ℕ) → P (parts_in form (short d)) → P (parts_in form (long d)) → P (parts_in form (indexed d)) → P (parts_in form (unfit d))
    → P (parts_in form (with_offset (register 15) (pos d) trusted))
in_each_form P form d p q r s = each_form (λ f. P (parts_in form f)) (fits_12 (pos d)) (fits_20 (pos d)) (fits_32 (pos d)) (short d) (long d) (indexed d) (unfit d) p q r s

-- ---- the first instruction

-- the rows of a load and of a store
abbrev load_form : StorageForm
load_form = RxForm 2 None (Some opcodes.LG) (Some opcodes.LGRL)

abbrev store_form : StorageForm
store_form = RxForm 4 None (Some opcodes.STG) (Some opcodes.STGRL)

load_is_fine : (D : Declared) (d : ℕ) → d ≤ 2147483647 → IsFine D (I.Load64 (register 2) (above_stack d))
unfolding length_of
load_is_fine D d h = record {
  alone = λ e t. refl;
  cause = λ flags. ap (λ b. first_emit_cause (unless (b && true) OffsetOutOfRange) None) (fits d h);
  fresh = refl;
  nominal = refl;
  plain = refl;
  size = in_each_form (λ parts. nat_le (parts_size parts) 12 ≡ true) load_form d refl refl refl refl;
  relocs = λ p. in_each_form (λ parts. parts_relocs p parts ≡ []) load_form d refl refl refl refl;
}

store_is_fine : (D : Declared) (d : ℕ) → d ≤ 2147483647 → IsFine D (I.Store64 (register 4) (above_stack d))
unfolding length_of
store_is_fine D d h = record {
  alone = λ e t. refl;
  cause = λ flags. ap (λ b. first_emit_cause (unless (b && true) OffsetOutOfRange) None) (fits d h);
  fresh = refl;
  nominal = refl;
  plain = refl;
  size = in_each_form (λ parts. nat_le (parts_size parts) 12 ≡ true) store_form d refl refl refl refl;
  relocs = λ p. in_each_form (λ parts. parts_relocs p parts ≡ []) store_form d refl refl refl refl;
}

sum_is_fine : (D : Declared) → IsFine D (sum (register 2) (register 3) (register 4))
unfolding length_of
sum_is_fine D = record { alone = λ e t. refl; cause = λ flags. refl; fresh = refl; nominal = refl; plain = refl; size = refl; relocs = λ p. refl }

added_is_fine : (D : Declared) → IsFine D (added (register 2) (register 2) (register 4))
unfolding length_of
added_is_fine D = record { alone = λ e t. refl; cause = λ flags. refl; fresh = refl; nominal = refl; plain = refl; size = refl; relocs = λ p. refl }

each_choice : (P : Inst → Type 0) (a b c : Bool) (w x y z : Inst) → P w → P x → P y → P z → P (cond a w (cond b x (cond c y z)))
each_choice P true b c w x y z p q r s = p
each_choice P false true c w x y z p q r s = q
each_choice P false false true w x y z p q r s = r
each_choice P false false false w x y z p q r s = s

pub work_is_fine : (D : Declared) (choice offset : ℕ) → offset ≤ 524288 → IsFine D (work choice offset)
work_is_fine D choice offset h =
    each_choice (IsFine D) (nat_eq choice 0) (nat_eq choice 1) (nat_eq choice 2) _ _ _ _
    (sum_is_fine D) (added_is_fine D) (load_is_fine D offset (omega (arith, h))) (store_is_fine D (offset + 524288) (omega (arith, h)))

-- ---- the last instruction

return_is_fine : (D : Declared) → IsFine D (I.Ret (register 14))
unfolding length_of
return_is_fine D = record { alone = λ e t. refl; cause = λ flags. refl; fresh = refl; nominal = refl; plain = refl; size = refl; relocs = λ p. refl }

bound : (D : Declared) (l : ℕ) → l < D.blocks → target_label_cause D.blocks (label l) ≡ None
bound D l h = ap (λ b. unless b UnboundLabel) (lt-ltb l D.blocks h)

branch_is_fine : (D : Declared) (taken next : ℕ) → taken < D.blocks → next < D.blocks → IsFine D (I.CondBr (label taken) (label next) 8)
branch_is_fine D taken next a b = record {
  alone = λ e t. refl;
  cause = λ flags. ap₂ first_emit_cause (bound D taken a) (bound D next b);
  fresh = refl;
  nominal = refl;
  plain = refl;
  size = refl;
  relocs = λ p. refl;
}

pub ending_is_fine : (D : Declared) (n k x : ℕ) → k < n → n ≡ D.blocks → IsFine D (ending n k x)
ending_is_fine D n k x h e = by_test (nat_eq (k + 1) n) refl
  where
    by_test : (b : Bool) → nat_eq (k + 1) n ≡ b → IsFine D (cond b (I.Ret (register 14)) (I.CondBr (label (x % n)) (label (k + 1)) 8))
    by_test true t = return_is_fine D
    by_test false t =
        let other = eqb-false (k + 1) n t in
        let low = mod_below x n (omega (arith, h)) in
        branch_is_fine D (x % n) (k + 1) (omega (arith, low, e)) (omega (arith, other, h, e))
