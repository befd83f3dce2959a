-- A vector instruction with an operand in memory that emission lets pass has a text.
use Rattle.std.proofs.Common.{◌≡◌, ◌⊎◌, inl, inr, ℕ, ◌*◌, ◌<◌, Bool, true, false, Option, Some, None, List, refl, sym, ap, subst, ◌∙◌, is_some, ◌&&◌, ◌||◌, arith}
use Rattle.std.proofs.lemmas.Bool.{and_parts, lt-ltb, ltb-true, and_right}
use Rattle.std.specs.Prelude.{cond, nat_eq, nat_lt}
use Rattle.s390x_base.specs.Regs.{number_of}
use Rattle.s390x_base.specs.declared.error.EmitError.{EmitError}
use Rattle.s390x_base.specs.declared.error.EmitError.TheVariants.{BadRegister}
use Rattle.s390x_base.specs.declared.regs.Reg.{Reg}
use Rattle.s390x_base.specs.declared.regs.Reg.TheVariants.{Real, Virtual}
use Rattle.s390x_inst.specs.declared.args.MemArg.{MemArg}
use Rattle.s390x_typed_steps.proofs.Causes.{first_left, first_right, unless_true}
use Rattle.s390x_typed_steps.specs.Causes.{Declared, memory_cause_or, operand_cause}
use Rattle.s390x_typed_steps.specs.Memory.{MemoryInstruction, StorageForm, VrxForm, FloatForm, access_elements, access_lane, access_vector, is_left_lane, reversed_code, type_of}
use Rattle.s390x_typed_steps.specs.Operands.{operand_general}
use Rattle.s390x_typed_steps.specs.VectorInstruction.{element_code, is_lane, is_vector}
use Rattle.s390x_typed_steps.specs.declared.mem_inst_type.MemInstType.{MemInstType}
use Rattle.s390x_text_rows.specs.Operands.{is_float}
use Rattle.s390x_text_rows.specs.Storage.{access_cause, rx}
use Rattle.s390x_text_rows.specs.Texts.{Text}
use Rattle.s390x_text_rows.specs.Vector.{lane_name, reversed_name}
use Rattle.s390x_text.proofs.Elements.{IsSize, named_at, one_size}
use Rattle.s390x_text.proofs.Rows.{access_refusal, address_fine}

-- the forms of an operand of format VRX, and those of a float register's rows
abbrev vector_type : MemInstType
vector_type = type_of (VrxForm 0 0 0) true

abbrev float_type : MemInstType
float_type = type_of (FloatForm 0 0 0) true

-- a row of format VRX that has a mnemonic
named_access : (name : Option (List ℕ)) (m : MemArg) → is_some name ≡ true → operand_cause vector_type m ≡ None → access_cause true (rx name None None) m ≡ None
named_access None m named fine = absurd (cc)
named_access (Some name) m named fine = address_fine _ fine

-- ---- all elements

elements_have_code : (D : Declared) (opcode : ℕ) (rd : Reg) (code : Option ℕ) (m : MemArg) (c : EmitError) → memory_cause_or D (access_elements opcode rd code m) (Some c) ≡ None
    → access_refusal (access_elements opcode rd code m) ≡ None → (is_some code ≡ true) × (operand_cause vector_type m ≡ None)
elements_have_code D opcode rd None m c h fine = absurd (cc)
elements_have_code D opcode rd (Some code) m c h fine = (refl, fine)

-- the size of an element of several bytes
abbrev IsLong : ℕ → Type 0
IsLong size = (size ≡ 16) ⊎ ((size ≡ 32) ⊎ (size ≡ 64))

not_byte : (size : ℕ) → nat_eq size 8 ≡ false → IsSize size → IsLong size
not_byte size e (inl p) = let clash : false ≡ true = sym e ∙ ap (λ s. nat_eq s 8) p in absurd (cc)
not_byte size e (inr q) = q

long_size : (size : ℕ) (t : Bool) → nat_eq size 8 ≡ t → is_some (cond t None (element_code size)) ≡ true → IsLong size
long_size size true e h = absurd (cc)
long_size size false e h = not_byte size e (one_size size h)

-- an element of several bytes that lies in a vector has a mnemonic by its size
reversed_at : (h f g : List ℕ) (size lane : ℕ) → IsLong size → lane * size < 128 → is_some (reversed_name h f g size lane) ≡ true
reversed_at h f g size lane (inl e) lt =
    let below : lane * 16 < 128 = subst (λ s. lane * s < 128) e lt in
    subst (λ s. is_some (reversed_name h f g s lane) ≡ true) (sym e) (ap (λ t. is_some (cond t (Some h) None)) (lt-ltb lane 8 (omega (arith, below))))
reversed_at h f g size lane (inr (inl e)) lt =
    let below : lane * 32 < 128 = subst (λ s. lane * s < 128) e lt in
    subst (λ s. is_some (reversed_name h f g s lane) ≡ true) (sym e) (ap (λ t. is_some (cond t (Some f) None)) (lt-ltb lane 4 (omega (arith, below))))
reversed_at h f g size lane (inr (inr e)) lt =
    let below : lane * 64 < 128 = subst (λ s. lane * s < 128) e lt in
    subst (λ s. is_some (reversed_name h f g s lane) ≡ true) (sym e) (ap (λ t. is_some (cond t (Some g) None)) (lt-ltb lane 2 (omega (arith, below))))

pub replicated_fine : (D : Declared) (b h f g : List ℕ) (opcode : ℕ) (rd : Reg) (size : ℕ) (m : MemArg) (c : EmitError) → memory_cause_or D (access_elements opcode rd (element_code size) m) (Some c) ≡ None
    → access_refusal (access_elements opcode rd (element_code size) m) ≡ None → access_cause true (rx (lane_name b h f g size 0) None None) m ≡ None
replicated_fine D b h f g opcode rd size m c none fine =
    let parts = elements_have_code D opcode rd (element_code size) m c none fine in
    named_access _ m (named_at b h f g size 0 (one_size size parts.0) (omega arith)) parts.1

pub reversed_replicated_fine : (D : Declared) (h f g : List ℕ) (opcode : ℕ) (rd : Reg) (size : ℕ) (m : MemArg) (c : EmitError) → memory_cause_or D (access_elements opcode rd (reversed_code size) m) (Some c) ≡ None
    → access_refusal (access_elements opcode rd (reversed_code size) m) ≡ None → access_cause true (rx (reversed_name h f g size 0) None None) m ≡ None
reversed_replicated_fine D h f g opcode rd size m c none fine =
    let parts = elements_have_code D opcode rd (reversed_code size) m c none fine in
    named_access _ m (reversed_at h f g size 0 (long_size size (nat_eq size 8) refl parts.0) (omega arith)) parts.1

-- ---- one element

-- what emission asks of an access to one element
record HasLane (valid : Bool) (code : Option ℕ) (size lane : ℕ) (m : MemArg) : Type 0 where
  coded : is_some code ≡ true
  lies : is_lane size lane ≡ true
  operand : operand_cause vector_type m ≡ None
  registers : valid ≡ true

-- its registers may stand there
registers_valid : (D : Declared) (valid : Bool) (form : StorageForm) (m : MemArg) (c : EmitError) → memory_cause_or D (access_vector valid form m) (Some c) ≡ None → valid ≡ true
registers_valid D valid form m c h = (and_parts valid (operand_general m) (unless_true _ BadRegister (first_left _ _ (first_right _ _ h)))).0

lane_tested : (D : Declared) (t valid : Bool) (form : StorageForm) (m : MemArg) (c : EmitError) → memory_cause_or D (cond t (access_vector valid form m) None) (Some c) ≡ None → (t ≡ true) × (valid ≡ true)
lane_tested D true valid form m c h = (refl, registers_valid D valid form m c h)
lane_tested D false valid form m c h = absurd (cc)

lane_operand : (t valid : Bool) (register opcode lane : ℕ) (m : MemArg) → t ≡ true → access_refusal (cond t (access_vector valid (VrxForm register opcode lane) m) None) ≡ None → operand_cause vector_type m ≡ None
lane_operand true valid register opcode lane m e h = h
lane_operand false valid register opcode lane m e h = absurd (cc)

has_lane : (D : Declared) (valid : Bool) (opcode : ℕ → ℕ) (register : ℕ) (code : Option ℕ) (size lane : ℕ) (m : MemArg) (c : EmitError) → memory_cause_or D (access_lane valid opcode register code size lane m) (Some c) ≡ None
    → access_refusal (access_lane valid opcode register code size lane m) ≡ None → HasLane valid code size lane m
has_lane D valid opcode register None size lane m c h fine = absurd (cc)
has_lane D valid opcode register (Some code) size lane m c h fine =
    let tested = lane_tested D (is_lane size lane) valid (VrxForm register (opcode code) lane) m c h in
    record { coded = refl; lies = tested.0; operand = lane_operand (is_lane size lane) valid register (opcode code) lane m tested.0 fine; registers = tested.1 }

-- such an access has a text
lane_text_fine : (b h f g : List ℕ) (valid : Bool) (size lane : ℕ) (m : MemArg) → HasLane valid (element_code size) size lane m → access_cause true (rx (lane_name b h f g size lane) None None) m ≡ None
lane_text_fine b h f g valid size lane m l = named_access _ m (named_at b h f g size lane (one_size size l.coded) (ltb-true (lane * size) 128 l.lies)) l.operand

pub lane_fine : (D : Declared) (b h f g : List ℕ) (valid : Bool) (opcode : ℕ → ℕ) (register size lane : ℕ) (m : MemArg) (c : EmitError)
    → memory_cause_or D (access_lane valid opcode register (element_code size) size lane m) (Some c) ≡ None
    → access_refusal (access_lane valid opcode register (element_code size) size lane m) ≡ None → access_cause true (rx (lane_name b h f g size lane) None None) m ≡ None
lane_fine D b h f g valid opcode register size lane m c none fine = lane_text_fine b h f g valid size lane m (has_lane D valid opcode register (element_code size) size lane m c none fine)

pub reversed_lane_fine : (D : Declared) (h f g : List ℕ) (valid : Bool) (opcode : ℕ → ℕ) (register size lane : ℕ) (m : MemArg) (c : EmitError)
    → memory_cause_or D (access_lane valid opcode register (reversed_code size) size lane m) (Some c) ≡ None
    → access_refusal (access_lane valid opcode register (reversed_code size) size lane m) ≡ None → access_cause true (rx (reversed_name h f g size lane) None None) m ≡ None
reversed_lane_fine D h f g valid opcode register size lane m c none fine =
    let l = has_lane D valid opcode register (reversed_code size) size lane m c none fine in
    named_access _ m (reversed_at h f g size lane (long_size size (nat_eq size 8) refl l.coded) (ltb-true (lane * size) 128 l.lies)) l.operand

-- ---- the leftmost element, which a float register holds too

float_numbered : (r : Reg) → is_vector r ≡ true → is_float r ≡ nat_lt (number_of r) 16
float_numbered (Real r) h = refl
float_numbered (Virtual n c) h = absurd (cc)

float_forms : (t : Bool) (r a b c d : ℕ) → type_of (cond t (FloatForm r a b) (FloatForm r c d)) true ≡ float_type
float_forms true r a b c d = refl
float_forms false r a b c d = refl

-- one of three texts, by whether it is a float register's
one_of_three : (b l s t : Bool) (x y z : Text) → (((s || t) && l && b) ≡ true → (x.cause ≡ None) × (y.cause ≡ None)) → (((s || t) && l && b) ≡ false → z.cause ≡ None) → (cond (b && l && s) x (cond (b && l && t) y z)).cause ≡ None
one_of_three true true true t x y z p q = (p refl).0
one_of_three true true false true x y z p q = (p refl).1
one_of_three true true false false x y z p q = q refl
one_of_three true false true t x y z p q = q refl
one_of_three true false false true x y z p q = q refl
one_of_three true false false false x y z p q = q refl
one_of_three false l s t x y z p q = q (and_right ((s || t) && l) false refl)

-- what is known of two accesses, by which of them it is
left_known : (D : Declared) (t : Bool) (x y : Option MemoryInstruction) (c : EmitError) → memory_cause_or D (cond t x y) (Some c) ≡ None → access_refusal (cond t x y) ≡ None → t ≡ true
    → (memory_cause_or D x (Some c) ≡ None) × (access_refusal x ≡ None)
left_known D true x y c h fine e = (h, fine)
left_known D false x y c h fine e = absurd (cc)

right_known : (D : Declared) (t : Bool) (x y : Option MemoryInstruction) (c : EmitError) → memory_cause_or D (cond t x y) (Some c) ≡ None → access_refusal (cond t x y) ≡ None → t ≡ false
    → (memory_cause_or D y (Some c) ≡ None) × (access_refusal y ≡ None)
right_known D true x y c h fine e = absurd (cc)
right_known D false x y c h fine e = (h, fine)

either_valid : (D : Declared) (t : Bool) (x y : Option MemoryInstruction) (c : EmitError) (valid : Bool) → (memory_cause_or D x (Some c) ≡ None → valid ≡ true) → (access_refusal y ≡ None → memory_cause_or D y (Some c) ≡ None → valid ≡ true)
    → memory_cause_or D (cond t x y) (Some c) ≡ None → access_refusal (cond t x y) ≡ None → valid ≡ true
either_valid D true x y c valid p q h fine = p h
either_valid D false x y c valid p q h fine = q fine h

-- rows of a float register where they are chosen, and of one element else, each with its text
pub left_lane_fine : (D : Declared) (b h f g : List ℕ) (rd : Reg) (first first_long second second_long : ℕ) (opcode : ℕ → ℕ) (size lane : ℕ) (m : MemArg) (c : EmitError) (x y z : Text)
    → memory_cause_or D (cond (is_left_lane size lane (number_of rd)) (access_vector (is_vector rd) (cond (nat_eq size 32) (FloatForm (number_of rd) first first_long) (FloatForm (number_of rd) second second_long)) m)
    (access_lane (is_vector rd) opcode (number_of rd) (element_code size) size lane m)) (Some c) ≡ None
    → access_refusal (cond (is_left_lane size lane (number_of rd)) (access_vector (is_vector rd) (cond (nat_eq size 32) (FloatForm (number_of rd) first first_long) (FloatForm (number_of rd) second second_long)) m)
    (access_lane (is_vector rd) opcode (number_of rd) (element_code size) size lane m)) ≡ None
    → (operand_cause float_type m ≡ None → (x.cause ≡ None) × (y.cause ≡ None)) → z.cause ≡ access_cause true (rx (lane_name b h f g size lane) None None) m
    → (cond (is_float rd && nat_eq lane 0 && nat_eq size 32) x (cond (is_float rd && nat_eq lane 0 && nat_eq size 64) y z)).cause ≡ None
left_lane_fine D b h f g rd first first_long second second_long opcode size lane m c x y z none fine floats last =
    let valid = is_vector rd in
    let left = access_vector valid (cond (nat_eq size 32) (FloatForm (number_of rd) first first_long) (FloatForm (number_of rd) second second_long)) m in
    let right = access_lane valid opcode (number_of rd) (element_code size) size lane m in
    let t = is_left_lane size lane (number_of rd) in
    let lane_known = has_lane D valid opcode (number_of rd) (element_code size) size lane m c in
    let registers = either_valid D t left right c valid (registers_valid D valid _ m c) (λ s r. (lane_known r s).registers) none fine in
    let same = ap (λ b. (nat_eq size 32 || nat_eq size 64) && nat_eq lane 0 && b) (float_numbered rd registers) in
    one_of_three (is_float rd) (nat_eq lane 0) (nat_eq size 32) (nat_eq size 64) x y z
    (λ e. floats (ap (λ k. operand_cause k m) (sym (float_forms (nat_eq size 32) (number_of rd) first first_long second second_long)) ∙ (left_known D t left right c none fine (sym same ∙ e)).1))
    (λ e. let k = right_known D t left right c none fine (sym same ∙ e) in last ∙ lane_text_fine b h f g valid size lane m (lane_known k.0 k.1))
