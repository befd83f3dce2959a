-- A vector instruction that emission lets pass has a text.
use Rattle.std.proofs.Common.{◌≡◌, inr, ℕ, ◌*◌, Bool, true, false, Option, Some, None, List, [], refl, ap, ◌∙◌, is_some, ◌&&◌, ◌||◌, arith}
use Rattle.std.proofs.lemmas.Bool.{and_parts, eqb-true, ltb-true}
use Rattle.std.specs.Prelude.{cond, nat_eq, nat_lt, codes}
use Rattle.s390x_base.specs.Regs.{number_of}
use Rattle.s390x_base.specs.declared.error.EmitError.{EmitError}
use Rattle.s390x_base.specs.declared.error.EmitError.TheVariants.{BadOperator}
use Rattle.s390x_base.specs.declared.regs.Reg.{Reg}
use Rattle.s390x_inst.specs.Emission.{Emission}
use Rattle.s390x_inst.specs.declared.args.MemArg.{MemArg}
use Rattle.s390x_inst.specs.declared.whole.WholeAccess.{WholeAccess}
use Rattle.s390x_inst.specs.declared.whole.Direction.{Direction}
use Rattle.s390x_inst.specs.declared.whole.Direction.TheVariants.{Load, Store}
use Rattle.s390x_inst.specs.declared.whole.WholeLayout.{WholeLayout}
use Rattle.s390x_inst.specs.declared.whole.WholeLayout.TheVariants.{Straight}
use Rattle.s390x_inst.specs.Wholes.{as_whole, by_whole, whole_instruction}
use Rattle.s390x_inst.specs.declared.vec_inst.VecInst.{VecInst}
use Rattle.s390x_inst.specs.declared.vec_inst.VecInst.TheVariants as V
use Rattle.s390x_rows.specs.declared.opcodes.TheConstants as opcodes
use Rattle.s390x_typed_steps.specs.Causes.{Declared, cause_or, memory_cause_or}
use Rattle.s390x_typed_steps.specs.MachineInstruction.{MachineInstruction}
use Rattle.s390x_typed_steps.specs.Memory.{MemoryInstruction, load_lane_opcode, load_reversed_opcode, store_lane_opcode, store_reversed_opcode, vector_memory}
use Rattle.s390x_typed_steps.specs.Operands.{resolved_operand}
use Rattle.s390x_typed_steps.specs.Resolved.{resolved_vector}
use Rattle.s390x_typed_steps.specs.SingleInstruction.{single_with}
use Rattle.s390x_typed_steps.specs.VectorComposite.{composite_cause, rows_cause}
use Rattle.s390x_typed_steps.specs.VectorInstruction.{bit_mask_row, element_code, is_float_doubleword, is_lane, is_vector, lane_row, replicate_row, reuses_vector, vector_operands_valid, vector_row}
use Rattle.s390x_text_rows.specs.Texts.{fixed_text, row}
use Rattle.s390x_text_rows.specs.Vector.{is_float_lane, lane_name, mask_name, vector_text}
use Rattle.s390x_text.proofs.Elements.{named_at, one_size}
use Rattle.s390x_text.proofs.Rows.{access_refusal, address_fine}
use Rattle.s390x_text.proofs.VectorMemory.{lane_fine, left_lane_fine, replicated_fine, reversed_lane_fine, reversed_replicated_fine}

-- ---- elements

-- the first element has one for each size
first_named : (b h f g : List ℕ) (size : ℕ) → is_some (element_code size) ≡ true → is_some (lane_name b h f g size 0) ≡ true
first_named b h f g size code = named_at b h f g size 0 (one_size size code) (omega arith)

lane_test : (b : Bool) (m : MachineInstruction) → is_some (cond b (Some m) None) ≡ true → b ≡ true
lane_test true m h = refl
lane_test false m h = h

-- a row on an element has a code for its size, and the element lies in the vector
lane_parts : (make : ℕ → MachineInstruction) (code : Option ℕ) (size lane : ℕ) → is_some (lane_row make code size lane) ≡ true → (is_some code ≡ true) × (is_lane size lane ≡ true)
lane_parts make None size lane h = absurd (cc)
lane_parts make (Some code) size lane h = (refl, lane_test (is_lane size lane) (make code) h)

lane_named : (b h f g : List ℕ) (make : ℕ → MachineInstruction) (size lane : ℕ) → is_some (lane_row make (element_code size) size lane) ≡ true → is_some (lane_name b h f g size lane) ≡ true
lane_named b h f g make size lane has =
    let parts = lane_parts make (element_code size) size lane has in
    named_at b h f g size lane (one_size size parts.0) (ltb-true (lane * size) 128 parts.1)

-- the same of a doubleword that goes alone
alone_named : (b h f g : List ℕ) (make : ℕ → MachineInstruction) (alone : MachineInstruction) (size v base lane : ℕ) (t : Bool) → is_float_doubleword size v base lane ≡ t
    → is_some (cond t (Some alone) (lane_row make (element_code size) size lane)) ≡ true → is_some (lane_name b h f g size lane) ≡ true
alone_named b h f g make alone size v base lane false is has = lane_named b h f g make size lane has
alone_named b h f g make alone size v base lane true is has =
    let left = and_parts (nat_eq size 64 && nat_eq lane 0) (nat_eq base 0) (and_parts (nat_eq size 64 && nat_eq lane 0 && nat_eq base 0) (nat_lt v 16) is).0 in
    let parts = and_parts (nat_eq size 64) (nat_eq lane 0) left.0 in
    let long = eqb-true size 64 parts.0 in
    let first = eqb-true lane 0 parts.1 in
    named_at b h f g size lane (inr (inr (inr long))) (rw first (omega arith))

-- ---- rows

row_named : (name : Option (List ℕ)) (xs : List (List ℕ)) → is_some name ≡ true → (row name xs).cause ≡ None
row_named None xs h = absurd (cc)
row_named (Some name) xs h = refl

-- one that a test allows
allowed : (b : Bool) (name : Option (List ℕ)) (m : MachineInstruction) (xs : List (List ℕ)) → is_some name ≡ true → is_some (cond b (Some m) None) ≡ true → (row (cond b name None) xs).cause ≡ None
allowed true name m xs named h = row_named name xs named
allowed false name m xs named h = absurd (cc)

-- one of two, where neither is refused
either : (b : Bool) (s : List ℕ) (name : Option (List ℕ)) (xs : List (List ℕ)) → is_some name ≡ true → (cond b (fixed_text s) (row name xs)).cause ≡ None
either true s name xs h = refl
either false s name xs h = row_named name xs h

replicate_code : (code : Option ℕ) (d bits : ℕ) → is_some (replicate_row code d bits) ≡ true → is_some code ≡ true
replicate_code None d bits h = h
replicate_code (Some code) d bits h = refl

mask_code : (code : Option ℕ) (size d start end : ℕ) → is_some (bit_mask_row code size d start end) ≡ true → is_some code ≡ true
mask_code None size d start end h = h
mask_code (Some code) size d start end h = refl

mask_test : (code : Option ℕ) (size d start end : ℕ) → is_some (bit_mask_row code size d start end) ≡ true → (nat_lt start size && nat_lt end size) ≡ true
mask_test None size d start end h = absurd (cc)
mask_test (Some code) size d start end h = lane_test (nat_lt start size && nat_lt end size) _ h

mask_named : (size d start end : ℕ) → is_some (bit_mask_row (element_code size) size d start end) ≡ true → is_some (mask_name size start end) ≡ true
mask_named size d start end h =
    ap (λ t. is_some (cond t (lane_name (codes "vgmb") (codes "vgmh") (codes "vgmf") (codes "vgmg") size 0) None)) (mask_test (element_code size) size d start end h)
    ∙ first_named (codes "vgmb") (codes "vgmh") (codes "vgmf") (codes "vgmg") size (mask_code (element_code size) size d start end h)

-- ---- instructions

has_text : (e : Emission) (v : VecInst) → is_some (vector_row v) ≡ true → (vector_text e v).cause ≡ None
has_text e (V.VecPermuteDWImm rd rn rm first second) h = allowed (nat_lt first 2 && nat_lt second 2) (Some (codes "vpdi")) _ _ refl h
has_text e (V.VecImmReplicate size rd imm) h = row_named _ _ (first_named _ _ _ _ size (replicate_code (element_code size) _ _ h))
has_text e (V.VecImmBitMask size rd start end) h = row_named _ _ (mask_named size _ start end h)
has_text e (V.VecReplicateLane size rd rn lane) h = row_named _ _ (lane_named _ _ _ _ _ size lane h)
has_text e (V.VecInsertLaneImm size rd ri imm lane) h = row_named _ _ (lane_named _ _ _ _ _ size lane h)
has_text e (V.VecInsertLaneImmUndef size rd imm lane) h = row_named _ _ (lane_named _ _ _ _ _ size lane h)
has_text e (V.VecInsertLane size rd ri rn lane base) h = row_named _ _ (lane_named _ _ _ _ _ size lane h)
has_text e (V.VecInsertLaneUndef size rd rn lane base) h =
    either (is_float_lane size rd lane base) _ _ _ (alone_named _ _ _ _ _ _ size (number_of rd) (number_of base) lane _ refl h)
has_text e (V.VecExtractLane size rd rn lane base) h =
    either (is_float_lane size rn lane base) _ _ _ (alone_named _ _ _ _ _ _ size (number_of rn) (number_of base) lane _ refl h)
has_text e v h = cc

-- elements in reverse order, by tests of their count
reversal_fine : (a b c d valid : Bool) (p q r s : List ℕ) (w x y z : List MachineInstruction) → rows_cause (cond a (Some w) (cond b (Some x) (cond c (Some y) (cond d (Some z) None)))) valid ≡ None → (cond a (fixed_text p) (cond b (fixed_text q) (cond c (fixed_text r) (cond d (fixed_text s) (row None []))))).cause ≡ None
reversal_fine false false false false valid p q r s w x y z h = absurd (cc)
reversal_fine a b c d valid p q r s w x y z h = refl

-- an access or one machine instruction
found : (D : Declared) (valid : Bool) (o : Option MachineInstruction) (x : Option MemoryInstruction) (c : EmitError) → cause_or (single_with valid o) (memory_cause_or D x (Some c)) ≡ None → (is_some x || is_some o) ≡ true
found D valid o (Some x) c h = refl
found D valid (Some m) None c h = refl
found D valid None None c h = absurd (cc)

-- a load or a store of a whole register: the clauses without `Straight` are a copy for each other layout
whole_fine : (e : Emission) (direction : Direction) (layout : WholeLayout) (rd : Reg) (mem : MemArg) → access_refusal (vector_memory (resolved_vector e (whole_instruction direction layout rd mem))) ≡ None → (vector_text e (whole_instruction direction layout rd mem)).cause ≡ None
whole_fine e Load Straight rd mem m = address_fine _ m
whole_fine e Load layout rd mem m = address_fine _ m
whole_fine e Store Straight rd mem m = address_fine _ m
whole_fine e Store layout rd mem m = address_fine _ m

whole_or_row : (e : Emission) (v : VecInst) (o : Option WholeAccess) → by_whole (λ w. true ≡ true) (is_some (vector_row v) ≡ true) o → access_refusal (vector_memory (resolved_vector e (by_whole (λ w. whole_instruction w.direction w.layout w.rd w.mem) v o))) ≡ None →
    (vector_text e (by_whole (λ w. whole_instruction w.direction w.layout w.rd w.mem) v o)).cause ≡ None
whole_or_row e v None some m = has_text e v some
whole_or_row e v (Some w) some m = whole_fine e w.direction w.layout w.rd w.mem m

-- one without a cause of refusal
pub vector_fine : (e : Emission) (D : Declared) (v : VecInst)
    → cause_or (single_with (vector_operands_valid (resolved_vector e v)) (vector_row (resolved_vector e v))) (memory_cause_or D (vector_memory (resolved_vector e v)) (composite_cause (resolved_vector e v))) ≡ None
    → access_refusal (vector_memory (resolved_vector e v)) ≡ None → (vector_text e v).cause ≡ None
vector_fine e D (V.VecLoadReplicate size rd mem) h m = replicated_fine D _ _ _ _ opcodes.VLREP rd size (resolved_operand e mem) BadOperator h m
vector_fine e D (V.VecLoadReplicateRev size rd mem) h m = reversed_replicated_fine D _ _ _ opcodes.VLBRREP rd size (resolved_operand e mem) BadOperator h m
vector_fine e D (V.VecLoadLane size rd ri mem lane) h m = lane_fine D _ _ _ _ (reuses_vector rd ri) load_lane_opcode (number_of rd) size lane (resolved_operand e mem) BadOperator h m
vector_fine e D (V.VecLoadLaneRev size rd ri mem lane) h m = reversed_lane_fine D _ _ _ (reuses_vector rd ri) load_reversed_opcode (number_of rd) size lane (resolved_operand e mem) BadOperator h m
vector_fine e D (V.VecLoadLaneRevUndef size rd mem lane) h m = reversed_lane_fine D _ _ _ (is_vector rd) load_reversed_opcode (number_of rd) size lane (resolved_operand e mem) BadOperator h m
vector_fine e D (V.VecStoreLaneRev size rd mem lane) h m = reversed_lane_fine D _ _ _ (is_vector rd) store_reversed_opcode (number_of rd) size lane (resolved_operand e mem) BadOperator h m
vector_fine e D (V.VecLoadLaneUndef size rd mem lane) h m =
    left_lane_fine D _ _ _ _ rd opcodes.LE opcodes.LEY opcodes.LD opcodes.LDY load_lane_opcode size lane (resolved_operand e mem) BadOperator _ _ _ h m (λ fine. (address_fine _ fine, address_fine _ fine)) refl
vector_fine e D (V.VecStoreLane size rd mem lane) h m =
    left_lane_fine D _ _ _ _ rd opcodes.STE opcodes.STEY opcodes.STD opcodes.STDY store_lane_opcode size lane (resolved_operand e mem) BadOperator _ _ _ h m (λ fine. (address_fine _ fine, address_fine _ fine)) refl
-- moves under a condition and comparisons have a text at any values, elements in reverse order at the counts that have machine instructions
vector_fine e D (V.FpuCMov32 rd mask ri rm) h m = refl
vector_fine e D (V.FpuCMov64 rd mask ri rm) h m = refl
vector_fine e D (V.VecCMov rd mask ri rm) h m = refl
vector_fine e D (V.VecInt128SCmpHi tmp rn rm) h m = refl
vector_fine e D (V.VecInt128UCmpHi tmp rn rm) h m = refl
vector_fine e D (V.VecEltRev count rd rn) h m = reversal_fine (nat_eq count 2) (nat_eq count 4) (nat_eq count 8) (nat_eq count 16) (is_vector rd && is_vector rn) _ _ _ _ _ _ _ _ h
vector_fine e D v h m = whole_or_row e v (as_whole v) (found D (vector_operands_valid v) (vector_row v) (vector_memory (resolved_vector e v)) BadOperator h) m
