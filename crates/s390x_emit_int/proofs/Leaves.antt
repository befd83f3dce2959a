-- What the check let pass of one instruction that is no loop.
use Rattle.std.proofs.Common.{◌≡◌, ℕ, ◌+◌, ◌-◌, ◌<◌, ◌&&◌, List, length, None, Some, true, refl, sym, ap, ◌∙◌, arith, length-append, nat_lt, ltb-true, Vec, Global}
use Rattle.s390x_inst.specs.Emission.{Emission}
use Rattle.s390x_inst.specs.declared.state.IsaFlags.{IsaFlags}
use Rattle.s390x_typed_steps.specs.Memory.{MemoryInstruction, memory}
use Rattle.s390x_typed_steps.specs.Parts.{memory_parts, parts_size, row_parts}
use Rattle.s390x_typed_steps.specs.Resolved.{resolved_instruction}
use Rattle.s390x_base.specs.declared.error.EmitError.TheVariants.{BadRegister, UnboundLabel}
use Rattle.s390x_base.specs.declared.ir.MachLabel.{MachLabel}
use Rattle.s390x_base.specs.declared.regs.Reg.{Reg}
use Rattle.s390x_base.specs.declared.trap.TrapKind.{TrapKind}
use Rattle.s390x_buffer.specs.State.{BufferState, put_cause}
use Rattle.s390x_format.specs.declared.kind.FormatKind.TheVariants.{E, RiB, RiC, Rr, RilB, RilC}
use Rattle.s390x_format.specs.Formats.{length_of}
use Rattle.s390x_format.specs.Reading.{encode}
use Rattle.s390x_format.proofs.Encoding.{encode-length}
use Rattle.s390x_inst.specs.declared.inst.Inst.{Inst}
use Rattle.s390x_inst.specs.declared.vec_inst.VecInst.{VecInst}
use Rattle.s390x_typed_steps.specs.VectorComposite.{composite_cause, composite_rows}
use Rattle.s390x_inst.specs.declared.inst.Inst.TheVariants as I
use Rattle.s390x_typed_steps.specs.SingleInstruction.{SingleInstruction, single_instruction}
use Rattle.s390x_typed_steps.specs.General.{is_general, is_nonzero}
use Rattle.s390x_typed_steps.specs.MachineInstruction.{format_e, size_of}
use Rattle.s390x_typed_steps.specs.Sizes.{instruction_size}
use Rattle.s390x_typed_steps.specs.Causes.{unless, first_emit_cause, target_label_cause, declared_in, branch_cause, memory_cause, memory_cause_or, instruction_cause, leaf_cause, numbers_cause, instruction_fresh_labels}
use Rattle.s390x_typed_steps.proofs.Causes.{first_left, first_right, unless_true}
use Rattle.s390x_emit_int.specs.Fragments.{apply_all}
use Rattle.s390x_emit_int.specs.Emission.{where_fragments, branch_size, memory_size_or}
use Rattle.s390x_emit_int.specs.Room.{FitsWithoutCause, MembersFit}
use Rattle.s390x_emit_int.proofs.Resolving.{single_resolved, no_memory, branch_resolved, size_resolved, fresh_labels_resolved}
use Rattle.s390x_emit_int.proofs.OnlyMemory.{put_none}
use Rattle.s390x_emit_int.proofs.Runs.{length-branch}
use Rattle.s390x_emit_int.proofs.Single.{some_cause, none_cause, some_size, none_size}

-- behind a conditional branch
pub where_passed : (s s1 : BufferState) (mask first second : ℕ) → s1 ≡ apply_all s (where_fragments mask first) → FitsWithoutCause s first 12 None → second < length s.labels → FitsWithoutCause s1 second 6 None
where_passed s s1 mask first second e p lt =
    let labels : length s1.labels ≡ length s.labels = ap (λ x. length x.labels) e in
    let blocks : s1.block_count ≡ s.block_count = ap (λ x. x.block_count) e in
    let bytes : length s1.bytes ≡ length s.bytes + 6 = ap (λ x. length x.bytes) e ∙ length-append s.bytes _ ∙ ap (λ m. length s.bytes + m) (length-branch mask) in
    record {
      unpoisoned = ap (λ x. x.is_poisoned) e ∙ p.unpoisoned;
      blocks = omega (arith, p.blocks);
      label = omega arith;
      short = omega (arith, p.short);
      passed = refl;
    }

-- a branch to a block
pub block_passed : (s : BufferState) (after depth bytes : ℕ) (l : MachLabel) → MembersFit s after depth bytes (target_label_cause s.block_count l) → FitsWithoutCause s l.0 bytes None
block_passed s after depth bytes l p =
    let below : l.0 < s.block_count = ltb-true l.0 s.block_count (unless_true (nat_lt l.0 s.block_count) UnboundLabel p.passed) in
    record { unpoisoned = p.unpoisoned; blocks = p.blocks; label = omega (arith, below, p.blocks); short = p.short; passed = refl }

-- branches to two blocks
pub choice_passed : (s : BufferState) (after depth bytes : ℕ) (l m : MachLabel) → MembersFit s after depth bytes (first_emit_cause (target_label_cause s.block_count l) (target_label_cause s.block_count m)) → FitsWithoutCause s l.0 bytes None × (m.0 < length s.labels)
choice_passed s after depth bytes l m p =
    let first = first_left (target_label_cause s.block_count l) _ p.passed in
    let below : m.0 < s.block_count = ltb-true m.0 s.block_count (unless_true (nat_lt m.0 s.block_count) UnboundLabel (first_right (target_label_cause s.block_count l) _ p.passed)) in
    (block_passed s after depth bytes l (record { unpoisoned = p.unpoisoned; blocks = p.blocks; label = p.label; short = p.short; passed = first }), omega (arith, below, p.blocks))

pub length-e : (bs slots : List ℕ) → bs ≡ encode E slots → length bs ≡ 2
unfolding length_of
length-e bs slots e = ap length e ∙ encode-length E slots

pub length-rr : (bs slots : List ℕ) → bs ≡ encode Rr slots → length bs ≡ 2
unfolding length_of
length-rr bs slots e = ap length e ∙ encode-length Rr slots

pub length-ri_b : (bs slots : List ℕ) → bs ≡ encode RiB slots → length bs ≡ 4
unfolding length_of
length-ri_b bs slots e = ap length e ∙ encode-length RiB slots

pub length-ri_c : (bs slots : List ℕ) → bs ≡ encode RiC slots → length bs ≡ 4
unfolding length_of
length-ri_c bs slots e = ap length e ∙ encode-length RiC slots

pub length-ril_b : (bs slots : List ℕ) → bs ≡ encode RilB slots → length bs ≡ 6
unfolding length_of
length-ril_b bs slots e = ap length e ∙ encode-length RilB slots

pub length-ril_c : (bs slots : List ℕ) → bs ≡ encode RilC slots → length bs ≡ 6
unfolding length_of
length-ril_c bs slots e = ap length e ∙ encode-length RilC slots

-- a branch to the address in a register
pub indirect_passed : (s : BufferState) (after depth : ℕ) (i : Inst) (r : Reg) (ts : Vec MachLabel Global) → i ≡ I.IndirectBr r ts → MembersFit s after depth (branch_size i) (branch_cause s.block_count depth i) → (put_cause s 2 ≡ None) × ((is_general r && is_nonzero r) ≡ true)
unfolding length_of
indirect_passed s after depth i r ts e p =
    let size : branch_size i ≡ 2 = ap branch_size e in
    let cause = sym (ap (branch_cause s.block_count depth) e) ∙ p.passed in
    (put_none s 2 p.unpoisoned (omega (arith, p.short)), unless_true (is_general r && is_nonzero r) BadRegister (first_left _ _ cause))

pub return_passed : (s : BufferState) (after depth : ℕ) (i : Inst) (r : Reg) → i ≡ I.Ret r → MembersFit s after depth (branch_size i) (branch_cause s.block_count depth i) → (put_cause s 2 ≡ None) × ((is_general r && is_nonzero r) ≡ true)
unfolding length_of
return_passed s after depth i r e p =
    let size : branch_size i ≡ 2 = ap branch_size e in
    let cause = sym (ap (branch_cause s.block_count depth) e) ∙ p.passed in
    (put_none s 2 p.unpoisoned (omega (arith, p.short)), unless_true (is_general r && is_nonzero r) BadRegister cause)

-- an instruction that is one machine instruction
pub single_passed : (flags : IsaFlags) (s : BufferState) (after nominal depth : ℕ) (i : Inst) (x : SingleInstruction) → Some x ≡ single_instruction i → MembersFit s after depth (instruction_size i) (leaf_cause flags (declared_in s) (length s.labels) nominal depth i) → (put_cause s (size_of x.row) ≡ None) × (x.operands_valid ≡ true)
single_passed flags s after nominal depth i x e p =
    (put_none s (size_of x.row) p.unpoisoned (omega (arith, p.short, some_size i x e)), unless_true x.operands_valid BadRegister (some_cause flags (declared_in s) nominal depth i x e (first_left _ _ p.passed)))

-- the address of a block
pub address_passed : (s : BufferState) (after depth : ℕ) (i : Inst) (dst : Reg) (l : MachLabel) → i ≡ I.LabelAddress dst l → MembersFit s after depth (branch_size i) (branch_cause s.block_count depth i) → FitsWithoutCause s l.0 6 None × (is_general dst ≡ true)
unfolding length_of
address_passed s after depth i dst l e p =
    let size : branch_size i ≡ 6 = ap branch_size e in
    let cause = sym (ap (branch_cause s.block_count depth) e) ∙ p.passed in
    let below : l.0 < s.block_count = ltb-true l.0 s.block_count (unless_true (nat_lt l.0 s.block_count) UnboundLabel (first_right (unless (is_general dst) BadRegister) _ cause)) in
    (record { unpoisoned = p.unpoisoned; blocks = p.blocks; label = omega (arith, below, p.blocks); short = omega (arith, p.short, size); passed = refl }, unless_true (is_general dst) BadRegister (first_left _ _ cause))

-- the last byte of two
pub last_of_e : (opcode : ℕ) → size_of (format_e opcode) - 1 ≡ 1
unfolding length_of
last_of_e opcode = refl

-- instructions that end the run
pub trap_passed : (s : BufferState) (after depth : ℕ) (i : Inst) (code : TrapKind) → i ≡ I.Trap code → MembersFit s after depth (branch_size i) (branch_cause s.block_count depth i) → put_cause s 2 ≡ None
unfolding length_of
trap_passed s after depth i code e p = let size : branch_size i ≡ 2 = ap branch_size e in put_none s 2 p.unpoisoned (omega (arith, p.short, size))

pub trap_if_passed : (s : BufferState) (after depth : ℕ) (i : Inst) (mask : ℕ) (code : TrapKind) → i ≡ I.TrapIf mask code → MembersFit s after depth (branch_size i) (branch_cause s.block_count depth i) → put_cause s 6 ≡ None
unfolding length_of
trap_if_passed s after depth i mask code e p = let size : branch_size i ≡ 6 = ap branch_size e in put_none s 6 p.unpoisoned (omega (arith, p.short, size))

-- a vector instruction of several machine instructions
pub composite_passed : (s : BufferState) (after depth : ℕ) (i : Inst) (v : VecInst) → i ≡ I.Vector v → MembersFit s after depth (branch_size i) (branch_cause s.block_count depth i) → (put_cause s (parts_size (row_parts (composite_rows v))) ≡ None) × (composite_cause v ≡ None)
composite_passed s after depth i v e p =
    let size : branch_size i ≡ parts_size (row_parts (composite_rows v)) = ap branch_size e in
    (put_none s (parts_size (row_parts (composite_rows v))) p.unpoisoned (omega (arith, p.short, size)), sym (ap (branch_cause s.block_count depth) e) ∙ p.passed)

pub debug_passed : (s : BufferState) (after depth : ℕ) (i : Inst) → i ≡ I.Debugtrap → MembersFit s after depth (branch_size i) (branch_cause s.block_count depth i) → put_cause s 2 ≡ None
unfolding length_of
debug_passed s after depth i e p = let size : branch_size i ≡ 2 = ap branch_size e in put_none s 2 p.unpoisoned (omega (arith, p.short, size))

-- an instruction with a memory operand
pub memory_passed : (flags : IsaFlags) (s : BufferState) (after nominal depth : ℕ) (i : Inst) (x : MemoryInstruction) → None ≡ single_instruction i → memory i ≡ Some x → MembersFit s after depth (instruction_size i) (leaf_cause flags (declared_in s) (length s.labels) nominal depth i) → (put_cause s (parts_size (memory_parts x)) ≡ None) × (memory_cause (declared_in s) x ≡ None)
memory_passed flags s after nominal depth i x e m p =
    let own = first_left (instruction_cause flags (declared_in s) nominal depth i) _ p.passed in
    let size : instruction_size i ≡ parts_size (memory_parts x) = none_size i e ∙ ap (λ o. memory_size_or o (branch_size i)) m in
    (put_none s (parts_size (memory_parts x)) p.unpoisoned (omega (arith, p.short, size)), sym (ap (λ o. memory_cause_or (declared_in s) o (branch_cause s.block_count depth i)) m) ∙ none_cause flags (declared_in s) nominal depth i e own)

-- and one that has none, by itself and before its operand was resolved
pub other_passed : (flags : IsaFlags) (e : Emission) (s : BufferState) (after nominal depth : ℕ) (i : Inst) → None ≡ single_instruction i → None ≡ memory i →
    MembersFit s after depth (instruction_size (resolved_instruction e i)) (leaf_cause flags (declared_in s) (length s.labels) nominal depth (resolved_instruction e i)) → MembersFit s after depth (branch_size i) (branch_cause s.block_count depth i) × (numbers_cause (length s.labels) (instruction_fresh_labels i) ≡ None)
other_passed flags e s after nominal depth i a m p =
    let j = resolved_instruction e i in
    let own = first_left (instruction_cause flags (declared_in s) nominal depth j) _ p.passed in
    let single_none : None ≡ single_instruction j = a ∙ sym (single_resolved e i) in
    let size : instruction_size j ≡ branch_size i = none_size j single_none ∙ ap (λ o. memory_size_or o (branch_size j)) (no_memory e i m) ∙ size_resolved e i in
    let cause = sym (ap (λ o. memory_cause_or (declared_in s) o (branch_cause s.block_count depth j)) (no_memory e i m)) ∙ none_cause flags (declared_in s) nominal depth j single_none own in (
      record { unpoisoned = p.unpoisoned; blocks = p.blocks; label = p.label; short = omega (arith, p.short, size); passed = sym (branch_resolved e s.block_count depth i) ∙ cause },
      ap (numbers_cause (length s.labels)) (sym (fresh_labels_resolved e i)) ∙ first_right (instruction_cause flags (declared_in s) nominal depth j) _ p.passed,
    )
