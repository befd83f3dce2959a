-- A vector instruction has a row for its text exactly where it has some for its bytes.
use Rattle.std.proofs.Common.{◌≡◌, inl, inr, ℕ, ◌*◌, ◌<◌, Bool, true, false, ◌&&◌, ◌||◌, Option, Some, None, List, [], refl, sym, ap, subst, ◌∙◌, is_some, arith, true≢false}
use Rattle.std.proofs.lemmas.Bool.{and_parts, eqb-true, lt-ltb, ltb-true}
use Rattle.std.specs.Prelude.{cond, nat_eq, nat_lt, codes}
use Rattle.s390x_base.specs.Regs.{number_of}
use Rattle.s390x_base.specs.declared.error.EmitError.{EmitError}
use Rattle.s390x_base.specs.declared.error.EmitError.TheVariants.{BadRegister}
use Rattle.s390x_base.specs.declared.regs.Reg.{Reg}
use Rattle.s390x_inst.specs.Emission.{Emission}
use Rattle.s390x_inst.specs.declared.args.MemArg.{MemArg}
use Rattle.s390x_inst.specs.declared.inst.Inst.TheVariants.{Vector}
use Rattle.s390x_inst.specs.declared.whole.WholeAccess.{WholeAccess}
use Rattle.s390x_inst.specs.declared.whole.Direction.{Direction}
use Rattle.s390x_inst.specs.declared.whole.Direction.TheVariants.{Load, Store}
use Rattle.s390x_inst.specs.declared.whole.WholeLayout.{WholeLayout}
use Rattle.s390x_inst.specs.declared.whole.WholeLayout.TheVariants.{Straight}
use Rattle.s390x_inst.specs.Wholes.{as_whole, by_whole, whole_instruction}
use Rattle.s390x_inst.specs.declared.vec_inst.VecInst.{VecInst}
use Rattle.s390x_inst.specs.declared.vec_inst.VecInst.TheVariants as V
use Rattle.s390x_rows.specs.declared.opcodes.TheConstants as opcodes
use Rattle.s390x_typed_steps.specs.MachineInstruction.{MachineInstruction}
use Rattle.s390x_typed_steps.specs.Memory.{MemoryInstruction, StorageForm, VrxForm, access_elements, access_lane, access_vector, is_left_lane, load_left, store_left, load_lane_opcode, load_reversed_opcode, store_lane_opcode, store_reversed_opcode, reversed_code}
use Rattle.s390x_typed_steps.specs.Operands.{resolved_operand}
use Rattle.s390x_typed_steps.specs.Resolved.{resolved_vector}
use Rattle.s390x_typed_steps.specs.SingleInstruction.{single_with}
use Rattle.s390x_typed_steps.specs.VectorComposite.{rows_cause}
use Rattle.s390x_typed_steps.specs.VectorInstruction.{bit_mask_row, element_code, is_float_doubleword, is_lane, is_vector, lane_row, replicate_row, reuses_vector}
use Rattle.s390x_text_rows.specs.Operands.{is_float, is_zero}
use Rattle.s390x_text_rows.specs.Storage.{address_cause}
use Rattle.s390x_text_rows.specs.Texts.{Text, fixed_text, row}
use Rattle.s390x_text_rows.specs.Vector.{is_float_lane, lane_name, mask_name, reversed_name, vector_text}
use Rattle.s390x_text_rows.specs.declared.error.TextError.TheVariants.{NoRow}
use Rattle.s390x_text.specs.Agreement.{has_row_text}
use Rattle.s390x_text.specs.Rows.{has_rows, names_row}
use Rattle.s390x_text.proofs.Elements.{IsSize}
use Rattle.s390x_text.proofs.Agreement.{address_row}
use Rattle.s390x_job_fields.proofs.Members.{or-false}

-- ---- truth values

test_some : {X : Type 0} (t : Bool) (x : X) → is_some (cond t (Some x) None) ≡ t
test_some true x = refl
test_some false x = refl

same_test : (a b c d : ℕ) → (a < b → c < d) → (c < d → a < b) → nat_lt a b ≡ nat_lt c d
same_test a b c d there back = go (nat_lt a b) (nat_lt c d) refl refl
  where
    go : (s t : Bool) → nat_lt a b ≡ s → nat_lt c d ≡ t → s ≡ t
    go true true p q = refl
    go false false p q = refl
    go true false p q = absurd (true≢false (sym (lt-ltb c d (there (ltb-true a b p))) ∙ q))
    go false true p q = absurd (true≢false (sym (lt-ltb a b (back (ltb-true c d q))) ∙ p))

-- ---- elements

-- there are elements of this size, and so many of them
abbrev has_lane : (size lane : ℕ) → Bool
has_lane size lane = is_some (element_code size) && is_lane size lane

data SizeCase (size : ℕ) : Type 0 where
  one_of : IsSize size → SizeCase size
  none_of : nat_eq size 8 ≡ false → nat_eq size 16 ≡ false → nat_eq size 32 ≡ false → nat_eq size 64 ≡ false → SizeCase size

size_case : (size : ℕ) → SizeCase size
size_case size = go (nat_eq size 8) (nat_eq size 16) (nat_eq size 32) (nat_eq size 64) refl refl refl refl
  where
    go : (a b c d : Bool) → nat_eq size 8 ≡ a → nat_eq size 16 ≡ b → nat_eq size 32 ≡ c → nat_eq size 64 ≡ d → SizeCase size
    go true b c d p q r s = one_of (inl (eqb-true size 8 p))
    go false true c d p q r s = one_of (inr (inl (eqb-true size 16 q)))
    go false false true d p q r s = one_of (inr (inr (inl (eqb-true size 32 r))))
    go false false false true p q r s = one_of (inr (inr (inr (eqb-true size 64 s))))
    go false false false false p q r s = none_of p q r s

no_name : {X : Type 0} (w x y z : X) (a b c d l m n o t : Bool) → a ≡ false → b ≡ false → c ≡ false → d ≡ false →
    is_some (cond (a && l) (Some w) (cond (b && m) (Some x) (cond (c && n) (Some y) (cond (d && o) (Some z) None)))) ≡ (is_some {T = ℕ} (cond a (Some 0) (cond b (Some 1) (cond c (Some 2) (cond d (Some 3) None)))) && t)
no_name w x y z false false false false l m n o t p q r s = refl
no_name w x y z true b c d l m n o t p q r s = absurd (true≢false p)
no_name w x y z false true c d l m n o t p q r s = absurd (true≢false q)
no_name w x y z false false true d l m n o t p q r s = absurd (true≢false r)
no_name w x y z false false false true l m n o t p q r s = absurd (true≢false s)

-- an element has a mnemonic by its size exactly where it lies in a vector
name_agrees : (b h f g : List ℕ) (size lane : ℕ) → is_some (lane_name b h f g size lane) ≡ has_lane size lane
name_agrees b h f g size lane = go (size_case size)
  where
    go : SizeCase size → is_some (lane_name b h f g size lane) ≡ has_lane size lane
    go (one_of (inl e)) = subst (λ s. is_some (lane_name b h f g s lane) ≡ has_lane s lane) (sym e) (test_some (nat_lt lane 16) b ∙ same_test lane 16 (lane * 8) 128 (λ l. omega (arith, l)) (λ l. omega (arith, l)))
    go (one_of (inr (inl e))) = subst (λ s. is_some (lane_name b h f g s lane) ≡ has_lane s lane) (sym e) (test_some (nat_lt lane 8) h ∙ same_test lane 8 (lane * 16) 128 (λ l. omega (arith, l)) (λ l. omega (arith, l)))
    go (one_of (inr (inr (inl e)))) = subst (λ s. is_some (lane_name b h f g s lane) ≡ has_lane s lane) (sym e) (test_some (nat_lt lane 4) f ∙ same_test lane 4 (lane * 32) 128 (λ l. omega (arith, l)) (λ l. omega (arith, l)))
    go (one_of (inr (inr (inr e)))) = subst (λ s. is_some (lane_name b h f g s lane) ≡ has_lane s lane) (sym e) (test_some (nat_lt lane 2) g ∙ same_test lane 2 (lane * 64) 128 (λ l. omega (arith, l)) (λ l. omega (arith, l)))
    go (none_of p q r s) = no_name b h f g (nat_eq size 8) (nat_eq size 16) (nat_eq size 32) (nat_eq size 64) (nat_lt lane 16) (nat_lt lane 8) (nat_lt lane 4) (nat_lt lane 2) (is_lane size lane) p q r s

no_reversed_name : {X : Type 0} (x y z : X) (a b c d m n o t : Bool) → a ≡ false → b ≡ false → c ≡ false → d ≡ false →
    is_some (cond (b && m) (Some x) (cond (c && n) (Some y) (cond (d && o) (Some z) None))) ≡ (is_some {T = ℕ} (cond a None (cond a (Some 0) (cond b (Some 1) (cond c (Some 2) (cond d (Some 3) None))))) && t)
no_reversed_name x y z false false false false m n o t p q r s = refl
no_reversed_name x y z true b c d m n o t p q r s = absurd (true≢false p)
no_reversed_name x y z false true c d m n o t p q r s = absurd (true≢false q)
no_reversed_name x y z false false true d m n o t p q r s = absurd (true≢false r)
no_reversed_name x y z false false false true m n o t p q r s = absurd (true≢false s)

-- the same of one of several bytes
abbrev has_long_lane : (size lane : ℕ) → Bool
has_long_lane size lane = is_some (reversed_code size) && is_lane size lane

reversed_agrees : (h f g : List ℕ) (size lane : ℕ) → is_some (reversed_name h f g size lane) ≡ has_long_lane size lane
reversed_agrees h f g size lane = go (size_case size)
  where
    go : SizeCase size → is_some (reversed_name h f g size lane) ≡ has_long_lane size lane
    go (one_of (inl e)) = subst (λ s. is_some (reversed_name h f g s lane) ≡ has_long_lane s lane) (sym e) refl
    go (one_of (inr (inl e))) = subst (λ s. is_some (reversed_name h f g s lane) ≡ has_long_lane s lane) (sym e) (test_some (nat_lt lane 8) h ∙ same_test lane 8 (lane * 16) 128 (λ l. omega (arith, l)) (λ l. omega (arith, l)))
    go (one_of (inr (inr (inl e)))) = subst (λ s. is_some (reversed_name h f g s lane) ≡ has_long_lane s lane) (sym e) (test_some (nat_lt lane 4) f ∙ same_test lane 4 (lane * 32) 128 (λ l. omega (arith, l)) (λ l. omega (arith, l)))
    go (one_of (inr (inr (inr e)))) = subst (λ s. is_some (reversed_name h f g s lane) ≡ has_long_lane s lane) (sym e) (test_some (nat_lt lane 2) g ∙ same_test lane 2 (lane * 64) 128 (λ l. omega (arith, l)) (λ l. omega (arith, l)))
    go (none_of p q r s) = no_reversed_name h f g (nat_eq size 8) (nat_eq size 16) (nat_eq size 32) (nat_eq size 64) (nat_lt lane 8) (nat_lt lane 4) (nat_lt lane 2) (is_lane size lane) p q r s

-- the first element lies there
first_lane : (size : ℕ) → is_lane size 0 ≡ true
first_lane size = lt-ltb (0 * size) 128 (omega arith)

and_true : (a b : Bool) → b ≡ true → (a && b) ≡ a
and_true true b e = e
and_true false b e = refl

first_agrees : (b h f g : List ℕ) (size : ℕ) → is_some (lane_name b h f g size 0) ≡ is_some (element_code size)
first_agrees b h f g size = name_agrees b h f g size 0 ∙ and_true (is_some (element_code size)) (is_lane size 0) (first_lane size)

first_reversed_agrees : (h f g : List ℕ) (size : ℕ) → is_some (reversed_name h f g size 0) ≡ is_some (reversed_code size)
first_reversed_agrees h f g size = reversed_agrees h f g size 0 ∙ and_true (is_some (reversed_code size)) (is_lane size 0) (first_lane size)

-- ---- rows on registers and immediates

row_agrees : (name : Option (List ℕ)) (o : Option MachineInstruction) (xs : List (List ℕ)) (valid : Bool) → is_some name ≡ is_some o → has_row_text (row name xs).cause ≡ (is_some (single_with valid o) || false || false)
row_agrees None (Some m) xs valid h = h
row_agrees (Some name) None xs valid h = h
row_agrees name o xs valid h = refl

tested_same : {X Y : Type 0} (t : Bool) (x : X) (y : Y) → is_some (cond t (Some x) None) ≡ is_some (cond t (Some y) None)
tested_same true x y = refl
tested_same false x y = refl

lane_row_some : (make : ℕ → MachineInstruction) (code : Option ℕ) (size lane : ℕ) → is_some (lane_row make code size lane) ≡ (is_some code && is_lane size lane)
lane_row_some make None size lane = refl
lane_row_some make (Some code) size lane = test_some (is_lane size lane) (make code)

replicate_some : (code : Option ℕ) (d bits : ℕ) → is_some (replicate_row code d bits) ≡ is_some code
replicate_some None d bits = refl
replicate_some (Some code) d bits = refl

tested_name : (t : Bool) (name : Option (List ℕ)) → is_some (cond t name None) ≡ (t && is_some name)
tested_name true name = refl
tested_name false name = refl

nothing_behind : (t : Bool) → false ≡ (t && false)
nothing_behind true = refl
nothing_behind false = refl

all_behind : (t : Bool) → t ≡ (t && true)
all_behind true = refl
all_behind false = refl

mask_some : (code : Option ℕ) (size d start end : ℕ) → is_some (bit_mask_row code size d start end) ≡ ((nat_lt start size && nat_lt end size) && is_some code)
mask_some None size d start end = nothing_behind (nat_lt start size && nat_lt end size)
mask_some (Some code) size d start end = test_some (nat_lt start size && nat_lt end size) _ ∙ all_behind (nat_lt start size && nat_lt end size)

mask_agrees : (b h f g : List ℕ) (size d start end : ℕ) → is_some (cond (nat_lt start size && nat_lt end size) (lane_name b h f g size 0) None) ≡ is_some (bit_mask_row (element_code size) size d start end)
mask_agrees b h f g size d start end =
    let t = nat_lt start size && nat_lt end size in
    tested_name t (lane_name b h f g size 0) ∙ ap (λ n. t && n) (first_agrees b h f g size) ∙ sym (mask_some (element_code size) size d start end)

-- a doubleword that goes alone is an element too
either_text : (t : Bool) (s : List ℕ) (name : Option (List ℕ)) (xs : List (List ℕ)) → (t ≡ true → is_some name ≡ true) → has_row_text (cond t (fixed_text s) (row name xs)).cause ≡ has_row_text (row name xs).cause
either_text true s None xs h = absurd (true≢false (sym (h refl)))
either_text t s name xs h = refl

either_row : {X : Type 0} (t : Bool) (m : X) (o : Option X) → (t ≡ true → is_some o ≡ true) → is_some (cond t (Some m) o) ≡ is_some o
either_row true m o h = sym (h refl)
either_row false m o h = refl

left_doubleword : (size lane : ℕ) → size ≡ 64 → lane ≡ 0 → has_lane size lane ≡ true
left_doubleword size lane p q = subst (λ s. has_lane s lane ≡ true) (sym p) (subst (λ l. has_lane 64 l ≡ true) (sym q) refl)

left_word : (size lane : ℕ) → size ≡ 32 → lane ≡ 0 → has_lane size lane ≡ true
left_word size lane p q = subst (λ s. has_lane s lane ≡ true) (sym p) (subst (λ l. has_lane 32 l ≡ true) (sym q) refl)

-- what a float register's lane is, and what a doubleword's is, lies at the left
float_lane_left : (size lane : ℕ) (r q : Reg) → is_float_lane size r lane q ≡ true → has_lane size lane ≡ true
float_lane_left size lane r q e =
    let two = and_parts (nat_eq size 64) (nat_eq lane 0) (and_parts (nat_eq size 64 && nat_eq lane 0) (is_zero q) (and_parts (nat_eq size 64 && nat_eq lane 0 && is_zero q) (is_float r) e).0).0 in
    left_doubleword size lane (eqb-true size 64 two.0) (eqb-true lane 0 two.1)

float_doubleword_left : (size v base lane : ℕ) → is_float_doubleword size v base lane ≡ true → has_lane size lane ≡ true
float_doubleword_left size v base lane e =
    let two = and_parts (nat_eq size 64) (nat_eq lane 0) (and_parts (nat_eq size 64 && nat_eq lane 0) (nat_eq base 0) (and_parts (nat_eq size 64 && nat_eq lane 0 && nat_eq base 0) (nat_lt v 16) e).0).0 in
    left_doubleword size lane (eqb-true size 64 two.0) (eqb-true lane 0 two.1)

alone_agrees : (b h f g : List ℕ) (make : ℕ → MachineInstruction) (single : MachineInstruction) (size v base lane : ℕ) → is_some (lane_name b h f g size lane) ≡ is_some (cond (is_float_doubleword size v base lane) (Some single) (lane_row make (element_code size) size lane))
alone_agrees b h f g make single size v base lane =
    let some = lane_row_some make (element_code size) size lane in
    name_agrees b h f g size lane ∙ sym some ∙ sym (either_row (is_float_doubleword size v base lane) single (lane_row make (element_code size) size lane) (λ e. some ∙ float_doubleword_left size v base lane e))

-- ---- several rows

valid_row : (valid : Bool) → names_row (cond valid None (Some BadRegister)) ≡ true
valid_row true = refl
valid_row false = refl

reversal_agrees : (a b c d valid : Bool) (p q r s : List ℕ) (w x y z : List MachineInstruction) →
    has_row_text (cond a (fixed_text p) (cond b (fixed_text q) (cond c (fixed_text r) (cond d (fixed_text s) (row None []))))).cause ≡ names_row (rows_cause (cond a (Some w) (cond b (Some x) (cond c (Some y) (cond d (Some z) None)))) valid)
reversal_agrees false false false false valid p q r s w x y z = refl
reversal_agrees a b c d valid p q r s w x y z = sym (valid_row valid)

-- ---- operands in memory

access_agrees : {X : Type 0} (name : Option X) (o : Option MemoryInstruction) (c : Option EmitError) → is_some name ≡ is_some o → has_row_text (cond (is_some name || false || false) (address_cause c) (Some NoRow)) ≡ (is_some o || false)
access_agrees None None c h = refl
access_agrees (Some name) (Some x) c h = address_row c
access_agrees None (Some x) c h = h
access_agrees (Some name) None c h = absurd (true≢false h)

elements_some : (opcode : ℕ) (rd : Reg) (code : Option ℕ) (m : MemArg) → is_some (access_elements opcode rd code m) ≡ is_some code
elements_some opcode rd None m = refl
elements_some opcode rd (Some code) m = refl

lane_some : (valid : Bool) (opcode : ℕ → ℕ) (register : ℕ) (code : Option ℕ) (size lane : ℕ) (m : MemArg) → is_some (access_lane valid opcode register code size lane m) ≡ (is_some code && is_lane size lane)
lane_some valid opcode register None size lane m = refl
lane_some valid opcode register (Some code) size lane m = go (is_lane size lane)
  where
    go : (t : Bool) → is_some (cond t (access_vector valid (VrxForm register (opcode code) lane) m) None) ≡ t
    go true = refl
    go false = refl

-- the leftmost word or doubleword
left_lane_left : (size lane register : ℕ) → is_left_lane size lane register ≡ true → has_lane size lane ≡ true
left_lane_left size lane register e =
    let parts = and_parts (nat_eq size 32 || nat_eq size 64) (nat_eq lane 0) (and_parts ((nat_eq size 32 || nat_eq size 64) && nat_eq lane 0) (nat_lt register 16) e).0 in
    go (nat_eq size 32) (nat_eq size 64) refl refl parts.0
  where
    go : (s t : Bool) → nat_eq size 32 ≡ s → nat_eq size 64 ≡ t → (s || t) ≡ true → has_lane size lane ≡ true
    go true t p q h = left_word size lane (eqb-true size 32 p) (eqb-true lane 0 (and_parts (nat_eq size 32 || nat_eq size 64) (nat_eq lane 0) (and_parts ((nat_eq size 32 || nat_eq size 64) && nat_eq lane 0) (nat_lt register 16) e).0).1)
    go false true p q h = left_doubleword size lane (eqb-true size 64 q) (eqb-true lane 0 (and_parts (nat_eq size 32 || nat_eq size 64) (nat_eq lane 0) (and_parts ((nat_eq size 32 || nat_eq size 64) && nat_eq lane 0) (nat_lt register 16) e).0).1)
    go false false p q h = absurd (true≢false (sym h))

left_lane_some : (valid other : Bool) (form : StorageForm) (opcode : ℕ → ℕ) (register size lane : ℕ) (m : MemArg) → is_some (cond (is_left_lane size lane register) (access_vector valid form m) (access_lane other opcode register (element_code size) size lane m)) ≡ has_lane size lane
left_lane_some valid other form opcode register size lane m =
    let some = lane_some other opcode register (element_code size) size lane m in
    either_row (is_left_lane size lane register) _ (access_lane other opcode register (element_code size) size lane m) (λ e. some ∙ left_lane_left size lane register e) ∙ some

one_of_texts : (a b n : Bool) (x y z : Text) → (a ≡ true → n ≡ true) → (b ≡ true → n ≡ true) → has_row_text x.cause ≡ true → has_row_text y.cause ≡ true → has_row_text z.cause ≡ n → has_row_text (cond a x (cond b y z)).cause ≡ n
one_of_texts true b n x y z p q s t u = s ∙ sym (p refl)
one_of_texts false true n x y z p q s t u = t ∙ sym (q refl)
one_of_texts false false n x y z p q s t u = u

-- a float register's leftmost element, by its size
float_word : (rd : Reg) (size lane : ℕ) → (is_float rd && nat_eq lane 0 && nat_eq size 32) ≡ true → has_lane size lane ≡ true
float_word rd size lane e =
    let parts = and_parts (is_float rd && nat_eq lane 0) (nat_eq size 32) e in
    left_word size lane (eqb-true size 32 parts.1) (eqb-true lane 0 (and_parts (is_float rd) (nat_eq lane 0) parts.0).1)

float_doubleword : (rd : Reg) (size lane : ℕ) → (is_float rd && nat_eq lane 0 && nat_eq size 64) ≡ true → has_lane size lane ≡ true
float_doubleword rd size lane e =
    let parts = and_parts (is_float rd && nat_eq lane 0) (nat_eq size 64) e in
    left_doubleword size lane (eqb-true size 64 parts.1) (eqb-true lane 0 (and_parts (is_float rd) (nat_eq lane 0) parts.0).1)

named_access : {X : Type 0} (name : Option X) (c : Option EmitError) → has_row_text (cond (is_some name || false || false) (address_cause c) (Some NoRow)) ≡ is_some name
named_access None c = refl
named_access (Some name) c = address_row c

-- a load or a store of the leftmost element
left_agrees : (b h f g : List ℕ) (rd : Reg) (form : StorageForm) (opcode : ℕ → ℕ) (size lane : ℕ) (m : MemArg) (x y z : Text) → has_row_text x.cause ≡ true → has_row_text y.cause ≡ true → has_row_text z.cause ≡ is_some (lane_name b h f g size lane) →
    has_row_text (cond (is_float rd && nat_eq lane 0 && nat_eq size 32) x (cond (is_float rd && nat_eq lane 0 && nat_eq size 64) y z)).cause
    ≡ (is_some (cond (is_left_lane size lane (number_of rd)) (access_vector (is_vector rd) form m) (access_lane (is_vector rd) opcode (number_of rd) (element_code size) size lane m)) || false)
left_agrees b h f g rd form opcode size lane m x y z p q r =
    one_of_texts (is_float rd && nat_eq lane 0 && nat_eq size 32) (is_float rd && nat_eq lane 0 && nat_eq size 64) (has_lane size lane) x y z (float_word rd size lane) (float_doubleword rd size lane) p q (r ∙ name_agrees b h f g size lane)
    ∙ sym (left_lane_some (is_vector rd) (is_vector rd) form opcode (number_of rd) size lane m) ∙ sym (or-false _)

-- ---- instructions

-- a load or a store of a whole register: the clauses without `Straight` are a copy for each other layout
whole_row : (e : Emission) (blocks depth : ℕ) (direction : Direction) (layout : WholeLayout) (rd : Reg) (mem : MemArg) → has_row_text (vector_text e (whole_instruction direction layout rd mem)).cause ≡ has_rows blocks depth (Vector (whole_instruction direction layout rd mem))
whole_row e bs k Load Straight rd mem = address_row _
whole_row e bs k Load layout rd mem = address_row _
whole_row e bs k Store Straight rd mem = address_row _
whole_row e bs k Store layout rd mem = address_row _

whole_or_row : (e : Emission) (blocks depth : ℕ) (v : VecInst) (o : Option WholeAccess) → by_whole (λ w. true ≡ true) (has_row_text (vector_text e v).cause ≡ has_rows blocks depth (Vector v)) o →
    has_row_text (vector_text e (by_whole (λ w. whole_instruction w.direction w.layout w.rd w.mem) v o)).cause ≡ has_rows blocks depth (Vector (by_whole (λ w. whole_instruction w.direction w.layout w.rd w.mem) v o))
whole_or_row e bs k v None plain = plain
whole_or_row e bs k v (Some w) plain = whole_row e bs k w.direction w.layout w.rd w.mem

pub vector_rows : (e : Emission) (blocks depth : ℕ) (v : VecInst) → has_row_text (vector_text e v).cause ≡ has_rows blocks depth (Vector v)
vector_rows e bs k (V.VecPermuteDWImm rd rn rm first second) = row_agrees (cond (nat_lt first 2 && nat_lt second 2) (Some (codes "vpdi")) None) _ _ _ (tested_same (nat_lt first 2 && nat_lt second 2) _ _)
vector_rows e bs k (V.VecImmReplicate size rd imm) = row_agrees _ _ _ _ (first_agrees _ _ _ _ size ∙ sym (replicate_some (element_code size) _ _))
vector_rows e bs k (V.VecImmBitMask size rd start end) = row_agrees (mask_name size start end) _ _ _ (mask_agrees _ _ _ _ size (number_of rd) start end)
vector_rows e bs k (V.VecReplicateLane size rd rn lane) = row_agrees _ _ _ _ (name_agrees _ _ _ _ size lane ∙ sym (lane_row_some _ (element_code size) size lane))
vector_rows e bs k (V.VecInsertLaneImm size rd ri imm lane) = row_agrees _ _ _ _ (name_agrees _ _ _ _ size lane ∙ sym (lane_row_some _ (element_code size) size lane))
vector_rows e bs k (V.VecInsertLaneImmUndef size rd imm lane) = row_agrees _ _ _ _ (name_agrees _ _ _ _ size lane ∙ sym (lane_row_some _ (element_code size) size lane))
vector_rows e bs k (V.VecInsertLane size rd ri rn lane base) = row_agrees _ _ _ _ (name_agrees _ _ _ _ size lane ∙ sym (lane_row_some _ (element_code size) size lane))
vector_rows e bs k (V.VecInsertLaneUndef size rd rn lane base) =
    either_text (is_float_lane size rd lane base) _ _ _ (λ t. name_agrees _ _ _ _ size lane ∙ float_lane_left size lane rd base t) ∙ row_agrees _ _ _ _ (alone_agrees _ _ _ _ _ _ size (number_of rd) (number_of base) lane)
vector_rows e bs k (V.VecExtractLane size rd rn lane base) =
    either_text (is_float_lane size rn lane base) _ _ _ (λ t. name_agrees _ _ _ _ size lane ∙ float_lane_left size lane rn base t) ∙ row_agrees _ _ _ _ (alone_agrees _ _ _ _ _ _ size (number_of rn) (number_of base) lane)
vector_rows e bs k (V.FpuCMov32 rd mask ri rm) = sym (valid_row (reuses_vector rd ri && is_vector rm))
vector_rows e bs k (V.FpuCMov64 rd mask ri rm) = sym (valid_row (reuses_vector rd ri && is_vector rm))
vector_rows e bs k (V.VecCMov rd mask ri rm) = sym (valid_row (reuses_vector rd ri && is_vector rm))
vector_rows e bs k (V.VecInt128SCmpHi tmp rn rm) = sym (valid_row (is_vector tmp && is_vector rn && is_vector rm))
vector_rows e bs k (V.VecInt128UCmpHi tmp rn rm) = sym (valid_row (is_vector tmp && is_vector rn && is_vector rm))
vector_rows e bs k (V.VecEltRev count rd rn) = reversal_agrees (nat_eq count 2) (nat_eq count 4) (nat_eq count 8) (nat_eq count 16) (is_vector rd && is_vector rn) _ _ _ _ _ _ _ _
vector_rows e bs k (V.VecLoadReplicate size rd mem) = access_agrees _ _ _ (first_agrees _ _ _ _ size ∙ sym (elements_some opcodes.VLREP rd (element_code size) mem))
vector_rows e bs k (V.VecLoadReplicateRev size rd mem) = access_agrees _ _ _ (first_reversed_agrees _ _ _ size ∙ sym (elements_some opcodes.VLBRREP rd (reversed_code size) mem))
vector_rows e bs k (V.VecLoadLane size rd ri mem lane) = access_agrees _ _ _ (name_agrees _ _ _ _ size lane ∙ sym (lane_some (reuses_vector rd ri) load_lane_opcode (number_of rd) (element_code size) size lane mem))
vector_rows e bs k (V.VecLoadLaneRev size rd ri mem lane) = access_agrees _ _ _ (reversed_agrees _ _ _ size lane ∙ sym (lane_some (reuses_vector rd ri) load_reversed_opcode (number_of rd) (reversed_code size) size lane mem))
vector_rows e bs k (V.VecLoadLaneRevUndef size rd mem lane) = access_agrees _ _ _ (reversed_agrees _ _ _ size lane ∙ sym (lane_some (is_vector rd) load_reversed_opcode (number_of rd) (reversed_code size) size lane mem))
vector_rows e bs k (V.VecStoreLaneRev size rd mem lane) = access_agrees _ _ _ (reversed_agrees _ _ _ size lane ∙ sym (lane_some (is_vector rd) store_reversed_opcode (number_of rd) (reversed_code size) size lane mem))
vector_rows e bs k (V.VecLoadLaneUndef size rd mem lane) = left_agrees _ _ _ _ rd (load_left size (number_of rd)) load_lane_opcode size lane mem _ _ _ (address_row _) (address_row _) (named_access _ _)
vector_rows e bs k (V.VecStoreLane size rd mem lane) = left_agrees _ _ _ _ rd (store_left size (number_of rd)) store_lane_opcode size lane mem _ _ _ (address_row _) (address_row _) (named_access _ _)
-- the others are loads and stores of a whole register, and one machine instruction at any values; the clause is a copy for each
vector_rows e bs k v = whole_or_row e bs k v (as_whole v) refl

-- ---- operands of the frame

-- the leftmost element's rows are there at any operand
left_stays : (rd : Reg) (form : StorageForm) (opcode : ℕ → ℕ) (size lane : ℕ) (m n : MemArg) →
    (is_some (cond (is_left_lane size lane (number_of rd)) (access_vector (is_vector rd) form m) (access_lane (is_vector rd) opcode (number_of rd) (element_code size) size lane m)) || false)
    ≡ (is_some (cond (is_left_lane size lane (number_of rd)) (access_vector (is_vector rd) form n) (access_lane (is_vector rd) opcode (number_of rd) (element_code size) size lane n)) || false)
left_stays rd form opcode size lane m n =
    ap (λ s. s || false) (left_lane_some (is_vector rd) (is_vector rd) form opcode (number_of rd) size lane m ∙ sym (left_lane_some (is_vector rd) (is_vector rd) form opcode (number_of rd) size lane n))

pub operands_stay : (e : Emission) (blocks depth : ℕ) (v : VecInst) → has_rows blocks depth (Vector (resolved_vector e v)) ≡ has_rows blocks depth (Vector v)
operands_stay e bs k (V.VecLoadReplicate size rd mem) = ap (λ s. s || false) (elements_some opcodes.VLREP rd (element_code size) (resolved_operand e mem) ∙ sym (elements_some opcodes.VLREP rd (element_code size) mem))
operands_stay e bs k (V.VecLoadReplicateRev size rd mem) = ap (λ s. s || false) (elements_some opcodes.VLBRREP rd (reversed_code size) (resolved_operand e mem) ∙ sym (elements_some opcodes.VLBRREP rd (reversed_code size) mem))
operands_stay e bs k (V.VecLoadLane size rd ri mem lane) = ap (λ s. s || false) (lane_some (reuses_vector rd ri) load_lane_opcode (number_of rd) (element_code size) size lane (resolved_operand e mem) ∙ sym (lane_some (reuses_vector rd ri) load_lane_opcode (number_of rd) (element_code size) size lane mem))
operands_stay e bs k (V.VecLoadLaneRev size rd ri mem lane) = ap (λ s. s || false) (lane_some (reuses_vector rd ri) load_reversed_opcode (number_of rd) (reversed_code size) size lane (resolved_operand e mem) ∙ sym (lane_some (reuses_vector rd ri) load_reversed_opcode (number_of rd) (reversed_code size) size lane mem))
operands_stay e bs k (V.VecLoadLaneRevUndef size rd mem lane) = ap (λ s. s || false) (lane_some (is_vector rd) load_reversed_opcode (number_of rd) (reversed_code size) size lane (resolved_operand e mem) ∙ sym (lane_some (is_vector rd) load_reversed_opcode (number_of rd) (reversed_code size) size lane mem))
operands_stay e bs k (V.VecStoreLaneRev size rd mem lane) = ap (λ s. s || false) (lane_some (is_vector rd) store_reversed_opcode (number_of rd) (reversed_code size) size lane (resolved_operand e mem) ∙ sym (lane_some (is_vector rd) store_reversed_opcode (number_of rd) (reversed_code size) size lane mem))
operands_stay e bs k (V.VecLoadLaneUndef size rd mem lane) = left_stays rd (load_left size (number_of rd)) load_lane_opcode size lane (resolved_operand e mem) mem
operands_stay e bs k (V.VecStoreLane size rd mem lane) = left_stays rd (store_left size (number_of rd)) store_lane_opcode size lane (resolved_operand e mem) mem
operands_stay e bs k v = refl
