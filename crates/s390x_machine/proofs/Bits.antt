-- The rows of the instructions on parts of registers, of shifts, rotations, extensions and conditional moves.
use Rattle.std.proofs.Common.{◌≡◌, ℕ, ◌+◌, ◌*◌, ◌<◌, Some, None, Bool, true, false, cond, ◌&&◌, ◌||◌, refl, sym, ap, ◌∙◌, arith, nat_lt, nat_le, nat_eq, eqb-true, subst, Option}
use Rattle.std.proofs.lemmas.Bool.{le-leb, le-ltb, lt-ltb}
use Rattle.s390x_format.specs.declared.kind.FormatKind.TheVariants.{Rr, Rre, RrfAb, RrfCde, RiA, RieA, RieF, RieG, RilA, Rsy, Rxy}
use Rattle.s390x_format.specs.declared.row.Allowed.{Allowed}
use Rattle.s390x_format.specs.declared.row.Allowed.TheVariants.{Any, FirstMask, CountMode, RotateBits, RotateBitsOrTest}
use Rattle.s390x_format.specs.Lookup.{row_for}
use Rattle.s390x_format.specs.Fetch.{machine_rows}
use Rattle.s390x_format.specs.Rows.{is_allowed}
use Rattle.s390x_inst.specs.declared.ops.ALUOp.{ALUOp}
use Rattle.s390x_inst.specs.declared.ops.ALUOp.TheVariants as A
use Rattle.s390x_inst.specs.declared.ops.CmpOp.{CmpOp}
use Rattle.s390x_inst.specs.declared.ops.CmpOp.TheVariants as C
use Rattle.s390x_inst.specs.declared.ops.ShiftOp.{ShiftOp}
use Rattle.s390x_inst.specs.declared.ops.ShiftOp.TheVariants as S
use Rattle.s390x_inst.specs.declared.ops.RxSBGOp.{RxSBGOp}
use Rattle.s390x_inst.specs.declared.ops.RxSBGOp.TheVariants as R
use Rattle.s390x_lanes.specs.declared.operators.Signedness.TheVariants.{Signed, Unsigned}
use Rattle.s390x_format.specs.declared.kind.FormatKind.{FormatKind}
use Rattle.s390x_rows.specs.declared.opcodes.TheConstants as opcodes
use Rattle.s390x_typed_steps.specs.Opcodes.{cmp_trap, cmp_trap_signed, cmp_trap_unsigned, of_one, of_two, of_four, alu_part, alu_half, load_part, load_half, insert_part, extend_to_word, extend_to_doubleword, extend_two, shift_opcode, rotate_then, indexed_opcode, logical_indexed_opcode}
use Rattle.s390x_typed_steps.specs.MachineInstruction.{rrf_cde, rie_f}
use Rattle.s390x_operations.specs.declared.effect.CodeRule.{CodeRule}
use Rattle.s390x_operations.specs.declared.effect.CodeRule.TheVariants.{Kept, Set}
use Rattle.s390x_operations.specs.declared.operator.Operator.TheVariants.{Move, Shift}
use Rattle.s390x_operations.specs.declared.operator.SelectedBitsOperator.TheVariants as Select
use Rattle.s390x_operations.specs.declared.size.Size.TheVariants.{Word, Doubleword}
use Rattle.s390x_operations.specs.declared.size.Width.TheVariants.{Bits8, Bits16, Bits32, Bits64}
use Rattle.s390x_format.specs.declared.semantics.RowSemantics.{RowSemantics}
use Rattle.s390x_format.specs.declared.semantics.RowSemantics.TheVariants.{Compute, MoveWhere, CountOnes, RotateThen, MultiplySigned, MultiplyLogical, DivideSigned, DivideLogical, CompareAndTrap, CompareImmediateAndTrap, FindLeftmostOne, Havoc, BranchToRegister}
use Rattle.s390x_format.specs.declared.semantics.SecondOperand.{SecondOperand}
use Rattle.s390x_format.specs.declared.semantics.OperandSource.TheVariants.{Register, Immediate, ShiftedImmediate, Amount, AccessRegister}
use Rattle.s390x_machine.specs.Computations.{Second, Computation, comparison, unsigned_word, doubleword, signed_halfword, on_words, on_doublewords, on_selected, with_second, extended_second, extension, part_mask, half_mask, part_operator, shift_operator, shift_size, shift_rule, rotate_operator, rotate_rule}
use Rattle.s390x_machine.specs.Semantics.{semantics_in, semantics_of}
use Rattle.s390x_machine.proofs.Listing.{Agrees, PairRow, rows, none_but_zero, TwoRow, TwoRows, OpcodeRow, OpcodeRows, Meant, MeantRows}
use Rattle.s390x_machine.proofs.SingleInstruction.{second_register, computed}

-- ---- parts and halves

-- the immediate so many bits further to the left
abbrev pub at_bit : ℕ → SecondOperand
at_bit n = record { operand_source = ShiftedImmediate n; width = Bits64; sign = Unsigned; reversed = false }

-- what a row does with an immediate at a place
abbrev pub immediate_at : Computation → ℕ → CodeRule → RowSemantics
immediate_at c n rule = Compute c.operator c.size (at_bit n) rule

-- one, two or four rows by their number, each with its meaning
by_one : (kind : FormatKind) (digits a : ℕ) (semantics : ℕ → RowSemantics) → OpcodeRow kind digits a (semantics 0) → (n : ℕ) → OpcodeRows kind digits (of_one a n) (semantics n)
by_one kind digits a semantics zeroth n = go (nat_eq n 0) refl
  where
    go : (t : Bool) → nat_eq n 0 ≡ t → OpcodeRows kind digits (cond t (Some a) None) (semantics n)
    go true e = subst (λ i. OpcodeRow kind digits a (semantics i)) (sym (eqb-true n 0 e)) zeroth
    go false e = tt

by_two : (kind : FormatKind) (digits a b : ℕ) (semantics : ℕ → RowSemantics) → OpcodeRow kind digits a (semantics 0) → OpcodeRow kind digits b (semantics 1) → (n : ℕ) → OpcodeRows kind digits (of_two a b n) (semantics n)
by_two kind digits a b semantics zeroth first n = go (nat_eq n 0) refl (nat_eq n 1) refl
  where
    go : (t : Bool) → nat_eq n 0 ≡ t → (u : Bool) → nat_eq n 1 ≡ u → OpcodeRows kind digits (cond t (Some a) (cond u (Some b) None)) (semantics n)
    go true e u f = subst (λ i. OpcodeRow kind digits a (semantics i)) (sym (eqb-true n 0 e)) zeroth
    go false e true f = subst (λ i. OpcodeRow kind digits b (semantics i)) (sym (eqb-true n 1 f)) first
    go false e false f = tt

by_four : (kind : FormatKind) (digits a b c d : ℕ) (semantics : ℕ → RowSemantics) → OpcodeRow kind digits a (semantics 0) → OpcodeRow kind digits b (semantics 1) → OpcodeRow kind digits c (semantics 2) → OpcodeRow kind digits d (semantics 3) → (n : ℕ) → OpcodeRows kind digits (of_four a b c d n) (semantics n)
by_four kind digits a b c d semantics zeroth first second third n = go (nat_eq n 0) refl (nat_eq n 1) refl (nat_eq n 2) refl (nat_eq n 3) refl
  where
    go : (t : Bool) → nat_eq n 0 ≡ t → (u : Bool) → nat_eq n 1 ≡ u → (v : Bool) → nat_eq n 2 ≡ v → (w : Bool) → nat_eq n 3 ≡ w → OpcodeRows kind digits (cond t (Some a) (cond u (Some b) (cond v (Some c) (cond w (Some d) None)))) (semantics n)
    go true e u f v g w h = subst (λ i. OpcodeRow kind digits a (semantics i)) (sym (eqb-true n 0 e)) zeroth
    go false e true f v g w h = subst (λ i. OpcodeRow kind digits b (semantics i)) (sym (eqb-true n 1 f)) first
    go false e false f true g w h = subst (λ i. OpcodeRow kind digits c (semantics i)) (sym (eqb-true n 2 g)) second
    go false e false f false g true h = subst (λ i. OpcodeRow kind digits d (semantics i)) (sym (eqb-true n 3 h)) third
    go false e false f false g false h = tt

pub part_rows : (op : ALUOp) (shift : ℕ) → OpcodeRows RiA 4096 (alu_part op shift) (immediate_at (on_selected (part_operator op) (part_mask shift)) (16 * shift) Set)
unfolding machine_rows row_for semantics_in semantics_of
part_rows A.And32 shift = by_two RiA 4096 opcodes.NILL opcodes.NILH (λ n. immediate_at (on_selected Select.And (part_mask n)) (16 * n) Set) (record { is = refl }, refl) (record { is = refl }, refl) shift
part_rows A.And64 shift = by_four RiA 4096 opcodes.NILL opcodes.NILH opcodes.NIHL opcodes.NIHH (λ n. immediate_at (on_selected Select.And (part_mask n)) (16 * n) Set) (record { is = refl }, refl) (record { is = refl }, refl) (record { is = refl }, refl) (record { is = refl }, refl) shift
part_rows A.Orr32 shift = by_two RiA 4096 opcodes.OILL opcodes.OILH (λ n. immediate_at (on_selected Select.Or (part_mask n)) (16 * n) Set) (record { is = refl }, refl) (record { is = refl }, refl) shift
part_rows A.Orr64 shift = by_four RiA 4096 opcodes.OILL opcodes.OILH opcodes.OIHL opcodes.OIHH (λ n. immediate_at (on_selected Select.Or (part_mask n)) (16 * n) Set) (record { is = refl }, refl) (record { is = refl }, refl) (record { is = refl }, refl) (record { is = refl }, refl) shift
part_rows _ shift = tt

pub half_rows : (op : ALUOp) (shift : ℕ) → OpcodeRows RilA 4096 (alu_half op shift) (immediate_at (on_selected (part_operator op) (half_mask shift)) (32 * shift) Set)
unfolding machine_rows row_for semantics_in semantics_of
half_rows A.And32 shift = by_one RilA 4096 opcodes.NILF (λ n. immediate_at (on_selected Select.And (half_mask n)) (32 * n) Set) (record { is = refl }, refl) shift
half_rows A.And64 shift = by_two RilA 4096 opcodes.NILF opcodes.NIHF (λ n. immediate_at (on_selected Select.And (half_mask n)) (32 * n) Set) (record { is = refl }, refl) (record { is = refl }, refl) shift
half_rows A.Orr32 shift = by_one RilA 4096 opcodes.OILF (λ n. immediate_at (on_selected Select.Or (half_mask n)) (32 * n) Set) (record { is = refl }, refl) shift
half_rows A.Orr64 shift = by_two RilA 4096 opcodes.OILF opcodes.OIHF (λ n. immediate_at (on_selected Select.Or (half_mask n)) (32 * n) Set) (record { is = refl }, refl) (record { is = refl }, refl) shift
half_rows A.Xor32 shift = by_one RilA 4096 opcodes.XILF (λ n. immediate_at (on_selected Select.Xor (half_mask n)) (32 * n) Set) (record { is = refl }, refl) shift
half_rows A.Xor64 shift = by_two RilA 4096 opcodes.XILF opcodes.XIHF (λ n. immediate_at (on_selected Select.Xor (half_mask n)) (32 * n) Set) (record { is = refl }, refl) (record { is = refl }, refl) shift
half_rows _ shift = tt

pub load_part_rows : (shift : ℕ) → OpcodeRows RiA 4096 (load_part shift) (immediate_at (on_doublewords Move) (16 * shift) Kept)
unfolding machine_rows row_for semantics_in semantics_of
load_part_rows shift = by_four RiA 4096 opcodes.LLILL opcodes.LLILH opcodes.LLIHL opcodes.LLIHH (λ n. immediate_at (on_doublewords Move) (16 * n) Kept) (record { is = refl }, refl) (record { is = refl }, refl) (record { is = refl }, refl) (record { is = refl }, refl) shift

pub load_half_rows : (shift : ℕ) → OpcodeRows RilA 4096 (load_half shift) (immediate_at (on_doublewords Move) (32 * shift) Kept)
unfolding machine_rows row_for semantics_in semantics_of
load_half_rows shift = by_two RilA 4096 opcodes.LLILF opcodes.LLIHF (λ n. immediate_at (on_doublewords Move) (32 * n) Kept) (record { is = refl }, refl) (record { is = refl }, refl) shift

pub insert_part_rows : (shift : ℕ) → OpcodeRows RiA 4096 (insert_part shift) (immediate_at (on_selected Select.Insert (part_mask shift)) (16 * shift) Kept)
unfolding machine_rows row_for semantics_in semantics_of
insert_part_rows shift = by_four RiA 4096 opcodes.IILL opcodes.IILH opcodes.IIHL opcodes.IIHH (λ n. immediate_at (on_selected Select.Insert (part_mask n)) (16 * n) Kept) (record { is = refl }, refl) (record { is = refl }, refl) (record { is = refl }, refl) (record { is = refl }, refl) shift

pub iihf_row : OpcodeRow RilA 4096 opcodes.IIHF (immediate_at (on_selected Select.Insert (half_mask 1)) 32 Kept)
unfolding machine_rows row_for semantics_in semantics_of
iihf_row = (record { is = refl }, refl)

-- ---- extensions

-- the semantics of an extension
abbrev pub extends : (signed : Bool) → (from to : ℕ) → RowSemantics
extends signed from to = computed (extension signed from to) Register Kept

-- how a narrower number is read
abbrev narrower : (signed one eight sixteen : Bool) → Second
narrower signed one eight sixteen = record {
  width = cond one Bits8 (cond eight Bits8 (cond sixteen Bits16 Bits32));
  sign = cond one Signed (cond signed Signed Unsigned);
  reversed = false;
}

abbrev word_opcode : (signed one eight sixteen : Bool) → Option ℕ
word_opcode signed one eight sixteen = cond one (Some opcodes.LBR) (cond eight (Some (cond signed opcodes.LBR opcodes.LLCR)) (cond sixteen (Some (cond signed opcodes.LHR opcodes.LLHR)) None))

abbrev doubleword_opcode : (signed one eight sixteen thirty_two : Bool) → Option ℕ
doubleword_opcode signed one eight sixteen thirty_two =
    cond one (Some opcodes.LGBR) (cond eight (Some (cond signed opcodes.LGBR opcodes.LLGCR)) (cond sixteen (Some (cond signed opcodes.LGHR opcodes.LLGHR)) (cond thirty_two (Some (cond signed opcodes.LGFR opcodes.LLGFR)) None)))

word_rows : (signed one eight sixteen : Bool) → TwoRows (word_opcode signed one eight sixteen) (computed (with_second Move Word (narrower signed one eight sixteen)) Register Kept)
unfolding machine_rows row_for semantics_in semantics_of
word_rows true false false true = (record { is = refl }, refl)
word_rows signed false false false = tt
word_rows signed one eight sixteen = (record { is = refl }, refl)

doubleword_rows : (signed one eight sixteen thirty_two : Bool) → TwoRows (doubleword_opcode signed one eight sixteen thirty_two) (computed (with_second Move Doubleword (narrower signed one eight sixteen)) Register Kept)
unfolding machine_rows row_for semantics_in semantics_of
doubleword_rows true false false false true = (record { is = refl }, refl)
doubleword_rows signed false false false false = tt
doubleword_rows signed one eight sixteen thirty_two = (record { is = refl }, refl)

sized_rows : (signed : Bool) (from : ℕ) (to_word to_doubleword : Bool) → TwoRows (cond to_word (extend_to_word signed from) (cond to_doubleword (extend_to_doubleword signed from) None)) (computed (with_second Move (cond to_word Word Doubleword) (extended_second signed from)) Register Kept)
sized_rows signed from true more = word_rows signed (nat_eq from 1) (nat_eq from 8) (nat_eq from 16)
sized_rows signed from false true = doubleword_rows signed (nat_eq from 1) (nat_eq from 8) (nat_eq from 16) (nat_eq from 32)
sized_rows signed from false false = tt

pub extend_rows : (signed : Bool) (from to : ℕ) → TwoRows (extend_two signed from to) (extends signed from to)
extend_rows signed from to = sized_rows signed from (nat_eq to 32) (nat_eq to 64)

pub ear_row : TwoRow opcodes.EAR (computed (on_words Move) AccessRegister Kept)
unfolding machine_rows row_for semantics_in semantics_of
ear_row = (record { is = refl }, refl)

-- ---- shifts

abbrev pub shift_semantics : ShiftOp → RowSemantics
shift_semantics op = Compute (Shift (shift_operator op)) (shift_size op) (record { operand_source = Amount; width = Bits8; sign = Unsigned; reversed = false }) (shift_rule op)

pub shift_rows : (op : ShiftOp) → Meant Rsy Any (shift_opcode op) (shift_semantics op)
unfolding machine_rows row_for semantics_in semantics_of
shift_rows op = rows (λ n. Rsy) Any 65536 (Some (shift_opcode op)) (shift_semantics op) refl (agrees op)
  where
    agrees : (op : ShiftOp) → Agrees (λ n. Rsy) Any 65536 (Some (shift_opcode op)) (shift_semantics op)
    agrees S.RotL32 = refl
    agrees _ = refl

-- ---- rotations

-- which bit numbers a rotation's row allows: an insertion's first one can't ask for a test
abbrev pub rotate_allows : RxSBGOp → Allowed
rotate_allows R.Insert = RotateBits
rotate_allows _ = RotateBitsOrTest

pub rotate_rows : (op : RxSBGOp) → Meant RieF (rotate_allows op) (rotate_then op) (RotateThen (rotate_operator op) (rotate_rule op))
unfolding machine_rows row_for semantics_in semantics_of
rotate_rows op = rows (λ n. RieF) (rotate_allows op) 65536 (Some (rotate_then op)) (RotateThen (rotate_operator op) (rotate_rule op)) refl (agrees op)
  where
    agrees : (op : RxSBGOp) → Agrees (λ n. RieF) (rotate_allows op) 65536 (Some (rotate_then op)) (RotateThen (rotate_operator op) (rotate_rule op))
    agrees R.Insert = refl
    agrees _ = refl

-- ---- pairs

pub mgrk_row : PairRow RrfAb none_but_zero opcodes.MGRK MultiplySigned
unfolding machine_rows row_for semantics_in semantics_of
mgrk_row = record { is = refl }

pub mlgr_row : PairRow Rre Any opcodes.MLGR MultiplyLogical
unfolding machine_rows row_for semantics_in semantics_of
mlgr_row = record { is = refl }

pub flogr_row : PairRow Rre Any opcodes.FLOGR FindLeftmostOne
unfolding machine_rows row_for semantics_in semantics_of
flogr_row = record { is = refl }

-- ---- divisions, and comparisons that trap

pub dsgfr_row : PairRow Rre Any opcodes.DSGFR (DivideSigned Bits32)
unfolding machine_rows row_for semantics_in semantics_of
dsgfr_row = record { is = refl }

pub dsgr_row : PairRow Rre Any opcodes.DSGR (DivideSigned Bits64)
unfolding machine_rows row_for semantics_in semantics_of
dsgr_row = record { is = refl }

pub dlr_row : PairRow Rre Any opcodes.DLR (DivideLogical Word)
unfolding machine_rows row_for semantics_in semantics_of
dlr_row = record { is = refl }

pub dlgr_row : PairRow Rre Any opcodes.DLGR (DivideLogical Doubleword)
unfolding machine_rows row_for semantics_in semantics_of
dlgr_row = record { is = refl }

-- what a comparison that traps does, of registers and of an immediate
abbrev pub trapped : CmpOp → RowSemantics
trapped op = CompareAndTrap (comparison op).sign (comparison op).size

abbrev pub immediate_trapped : CmpOp → RowSemantics
immediate_trapped op = CompareImmediateAndTrap (comparison op).sign (comparison op).size

pub trap_rows : (op : CmpOp) → MeantRows RrfCde (FirstMask 0 15) (cmp_trap op) (trapped op)
unfolding machine_rows row_for semantics_in semantics_of
trap_rows op = rows (λ n. RrfCde) (FirstMask 0 15) 65536 (cmp_trap op) (trapped op) refl (agrees op)
  where
    agrees : (op : CmpOp) → Agrees (λ n. RrfCde) (FirstMask 0 15) 65536 (cmp_trap op) (trapped op)
    agrees C.CmpS32 = refl
    agrees _ = refl

pub trap_signed_rows : (op : CmpOp) → MeantRows RieA Any (cmp_trap_signed op) (immediate_trapped op)
unfolding machine_rows row_for semantics_in semantics_of
trap_signed_rows op = rows (λ n. RieA) Any 65536 (cmp_trap_signed op) (immediate_trapped op) refl (agrees op)
  where
    agrees : (op : CmpOp) → Agrees (λ n. RieA) Any 65536 (cmp_trap_signed op) (immediate_trapped op)
    agrees C.CmpS32 = refl
    agrees _ = refl

pub trap_unsigned_rows : (op : CmpOp) → MeantRows RieA Any (cmp_trap_unsigned op) (immediate_trapped op)
unfolding machine_rows row_for semantics_in semantics_of
trap_unsigned_rows op = rows (λ n. RieA) Any 65536 (cmp_trap_unsigned op) (immediate_trapped op) refl (agrees op)
  where
    agrees : (op : CmpOp) → Agrees (λ n. RieA) Any 65536 (cmp_trap_unsigned op) (immediate_trapped op)
    agrees C.CmpL32 = refl
    agrees _ = refl

-- ---- conditional moves, and counts of ones

abbrev pub any_mask : Allowed
any_mask = FirstMask 0 15

pub locr_row : Meant RrfCde any_mask opcodes.LOCR (MoveWhere Word (second_register Register unsigned_word))
unfolding machine_rows row_for semantics_in semantics_of
locr_row = (record { is = refl }, refl)

pub locgr_row : Meant RrfCde any_mask opcodes.LOCGR (MoveWhere Doubleword (second_register Register doubleword))
unfolding machine_rows row_for semantics_in semantics_of
locgr_row = (record { is = refl }, refl)

pub lochi_row : Meant RieG Any opcodes.LOCHI (MoveWhere Word (second_register Immediate signed_halfword))
unfolding machine_rows row_for semantics_in semantics_of
lochi_row = (record { is = refl }, refl)

pub locghi_row : Meant RieG Any opcodes.LOCGHI (MoveWhere Doubleword (second_register Immediate signed_halfword))
unfolding machine_rows row_for semantics_in semantics_of
locghi_row = (record { is = refl }, refl)

pub popcnt_row : Meant RrfCde CountMode opcodes.POPCNT CountOnes
unfolding machine_rows row_for semantics_in semantics_of
popcnt_row = (record { is = refl }, refl)

pub bcr_row : Meant Rr Any opcodes.BCR BranchToRegister
unfolding machine_rows row_for semantics_in semantics_of
bcr_row = (record { is = refl }, refl)

-- ---- indexed addresses

-- a row that puts any value, where there is one
abbrev pub AnyRows : Option ℕ → Type 0
AnyRows o = MeantRows Rxy Any o Havoc

any_rows : (one two three four : Bool) → AnyRows (cond one (Some opcodes.LXAH) (cond two (Some opcodes.LXAF) (cond three (Some opcodes.LXAG) (cond four (Some opcodes.LXAQ) None))))
unfolding machine_rows row_for semantics_in semantics_of
any_rows false false false false = tt
any_rows one two three four = (record { is = refl }, refl)

logical_any_rows : (one two three four : Bool) → AnyRows (cond one (Some opcodes.LLXAH) (cond two (Some opcodes.LLXAF) (cond three (Some opcodes.LLXAG) (cond four (Some opcodes.LLXAQ) None))))
unfolding machine_rows row_for semantics_in semantics_of
logical_any_rows false false false false = tt
logical_any_rows one two three four = (record { is = refl }, refl)

pub indexed_rows : (size : ℕ) → AnyRows (indexed_opcode size)
indexed_rows size = any_rows (nat_eq size 1) (nat_eq size 2) (nat_eq size 3) (nat_eq size 4)

pub logical_indexed_rows : (size : ℕ) → AnyRows (logical_indexed_opcode size)
logical_indexed_rows size = logical_any_rows (nat_eq size 1) (nat_eq size 2) (nat_eq size 3) (nat_eq size 4)

-- ---- tests

-- a mask of 4 bits is allowed
pub mask_allowed : (opcode a b mask : ℕ) → mask < 16 → is_allowed any_mask (rrf_cde opcode a b mask 0).slots ≡ true
mask_allowed opcode a b mask lt = ap (λ t. t && nat_le mask 15 && true && true) (le-leb 0 mask (omega arith)) ∙ ap (λ t. t && true && true) (le-leb mask 15 (omega (arith, lt)))

-- bit numbers below 64 are allowed, and the first one with 128 added where the row can test
bits_allowed : (op : RxSBGOp) (a b c : Bool) → a ≡ true → b ≡ true → c ≡ true → (a && b && c) ≡ true
bits_allowed op a b c e f g = ap (λ x. x && b && c) e ∙ ap (λ x. x && c) f ∙ g

pub rotation_allowed : (op : RxSBGOp) (a b first last amount : ℕ) → first < 64 → last < 64 → amount < 64 → is_allowed (rotate_allows op) (rie_f (rotate_then op) a b first last amount).slots ≡ true
rotation_allowed R.Insert a b first last amount lf ll la = bits_allowed R.Insert (nat_lt first 64) (nat_lt last 64) (nat_lt amount 64) (lt-ltb first 64 lf) (lt-ltb last 64 ll) (lt-ltb amount 64 la)
rotation_allowed R.And a b first last amount lf ll la = bits_allowed R.And _ (nat_lt last 64) (nat_lt amount 64) (ap (λ t. t || (nat_le 128 first && nat_lt first 192)) (lt-ltb first 64 lf)) (lt-ltb last 64 ll) (lt-ltb amount 64 la)
rotation_allowed R.Or a b first last amount lf ll la = bits_allowed R.Or _ (nat_lt last 64) (nat_lt amount 64) (ap (λ t. t || (nat_le 128 first && nat_lt first 192)) (lt-ltb first 64 lf)) (lt-ltb last 64 ll) (lt-ltb amount 64 la)
rotation_allowed R.Xor a b first last amount lf ll la = bits_allowed R.Xor _ (nat_lt last 64) (nat_lt amount 64) (ap (λ t. t || (nat_le 128 first && nat_lt first 192)) (lt-ltb first 64 lf)) (lt-ltb last 64 ll) (lt-ltb amount 64 la)

-- 128 added to the first bit number is allowed where the row can test
first_tested : (first : ℕ) → first < 64 → (nat_lt (first + 128) 64 || (nat_le 128 (first + 128) && nat_lt (first + 128) 192)) ≡ true
first_tested first lt =
    ap (λ t. t || (nat_le 128 (first + 128) && nat_lt (first + 128) 192)) (le-ltb (first + 128) 64 (omega arith))
    ∙ ap (λ t. t && nat_lt (first + 128) 192) (le-leb 128 (first + 128) (omega arith))
    ∙ lt-ltb (first + 128) 192 (omega (arith, lt))

pub test_allowed : (opcode a b first last amount : ℕ) → first < 64 → last < 64 → amount < 64 → is_allowed RotateBitsOrTest (rie_f opcode a b (first + 128) last amount).slots ≡ true
test_allowed opcode a b first last amount lf ll la = bits_allowed R.And _ (nat_lt last 64) (nat_lt amount 64) (first_tested first lf) (lt-ltb last 64 ll) (lt-ltb amount 64 la)
