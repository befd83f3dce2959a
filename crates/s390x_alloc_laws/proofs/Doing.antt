-- Instructions on registers, by what they do.
use Rattle.std.proofs.Common.{◌≡◌, ℕ, ◌%◌, ◌^◌, nat_lt, Bool, true, false, ◌&&◌, List, [], ◌∷◌, Option, Some, None, refl, sym, ap, subst, ◌∙◌, arith, inl, inr}
use Rattle.s390x_base.specs.Regs.{number_of}
use Rattle.s390x_base.specs.declared.error.EmitError.TheVariants.{BadRegister}
use Rattle.s390x_base.specs.declared.ir.MachLabel.{MachLabel}
use Rattle.s390x_base.specs.declared.regs.Reg.{Reg}
use Rattle.s390x_base.specs.declared.regs.Reg.TheVariants.{Real}
use Rattle.s390x_base.specs.Registers.{general, vector}
use Rattle.s390x_base.specs.declared.trap.TrapKind.{TrapKind}
use Rattle.s390x_inst.specs.declared.args.MemArg.{MemArg}
use Rattle.s390x_inst.specs.declared.calls.SymbolReloc.{SymbolReloc}
use Rattle.s390x_inst.specs.declared.inst.Inst.{Inst}
use Rattle.s390x_inst.specs.declared.inst.Inst.TheVariants.{LoadSymbolReloc}
use Rattle.s390x_inst.specs.declared.vec_ops.VecIntEltCmpOp.{VecIntEltCmpOp}
use Rattle.s390x_inst.specs.declared.vec_ops.VecIntEltCmpOp.TheVariants.{SCmp128, UCmp128}
use Rattle.s390x_lanes.specs.Lanes.{from_lanes, lane}
use Rattle.s390x_lanes.specs.Size.{element_bits, lane_count}
use Rattle.s390x_lanes.specs.Results.{vector_result}
use Rattle.s390x_lanes.specs.declared.size.ElementSize.{ElementSize}
use Rattle.s390x_operands.specs.Meets.{MeetsEach}
use Rattle.s390x_operands.specs.Requests.{items_of, scratch_request, reported_def}
use Rattle.s390x_assign.specs.Assignments.{register_at, after}
use Rattle.s390x_rows.specs.declared.opcodes.TheConstants as opcodes
use Rattle.s390x_typed_steps.proofs.Causes.{first_left, unless_true}
use Rattle.s390x_typed_steps.specs.Causes.{first_emit_cause, unless, target_label_cause}
use Rattle.s390x_typed_steps.specs.General.{is_general, reuses}
use Rattle.s390x_typed_steps.specs.Memory.{MemoryInstruction, operate, load_and_operate}
use Rattle.s390x_typed_steps.specs.Operands.{operand_general}
use Rattle.s390x_typed_steps.specs.SingleInstruction.{two_row}
use Rattle.s390x_operations.specs.State.{Registers, Core, set_vector, with_code}
use Rattle.s390x_operations.specs.Effects.{is_selected}
use Rattle.s390x_operations.specs.Vectors.{register_after_load}
use Rattle.s390x_operations.specs.declared.effect.VectorLayout.{VectorLayout}
use Rattle.s390x_operations.specs.declared.effect.CodeRule.TheVariants.{Kept}
use Rattle.s390x_operations.specs.declared.effect.Effect.TheVariants.{Compute, PutVector}
use Rattle.s390x_operations.specs.declared.effect.Operation.{Operation}
use Rattle.s390x_operations.specs.declared.operator.Operator.TheVariants.{Move}
use Rattle.s390x_operations.specs.declared.size.Size.{Size}
use Rattle.s390x_operations.specs.declared.stop.StopKind.{StopKind}
use Rattle.s390x_machine.proofs.Reversing.{put_same}
use Rattle.s390x_machine.specs.Layout.{Layout}
use Rattle.s390x_machine.specs.Operands.{value_in}
use Rattle.s390x_machine.specs.Computations.{Second, with_rule, operand_of, on_doublewords, computes_immediate, havocs, moves_where, moves_immediate_where, signed_halfword}
use Rattle.s390x_machine.specs.Semantics.{all_bits}
use Rattle.s390x_machine.specs.StepKinds.{Performs, Unsupported, no_code, linked_value}
use Rattle.s390x_machine.specs.Typed.{Position, OperationStep, goes_on, traps}
use Rattle.s390x_machine.specs.VectorOperations.{element_comparison}
use Rattle.s390x_machine.specs.VectorSteps.{compares_vectors, puts_element, inserts_lane, inserts_lane_alone, extracts_lane, element_index, lane_bits}
use Rattle.s390x_alloc_laws.specs.Allocatable.{IsVirtual, Place, refusal}
use Rattle.s390x_alloc_laws.proofs.Given.{and_left}
use Rattle.s390x_alloc_laws.proofs.Accesses.{AreValid}
use Rattle.s390x_alloc_laws.proofs.Vectors.{IsVectorAccess}
use Rattle.s390x_alloc_laws.specs.Outputs.{KeepsOthers, outputs}
use Rattle.s390x_alloc_laws.proofs.Effects.{Covers, kept_all, kept_by, coded, written}
use Rattle.s390x_alloc_laws.proofs.StepKinds.{KindKeeps, performs_keeps, nothing}
use Rattle.s390x_alloc_laws.proofs.Shapes.{general_def, BothKeep, InstKeeps, where_written, one_written, defined_passed, scratch_listed, single_valid, first_listed}

-- one operation, which needs no `%r1`
pub does : (L : Layout) (changed : List Reg) (operation : Registers → Operation) (code : StopKind → Option TrapKind) → ((r : Registers) → Covers changed (written (operation r).effect)) → BothKeep L changed (Performs false operation code) Unsupported
does L changed operation code f = (performs_keeps L changed false operation code f tt, nothing L changed)

-- ---- operations under a condition

pub moves_written : (size : Size) (second : Second) (mask d m : ℕ) (r : Registers) (changed : List Reg) → Covers changed (Real (general d) ∷ []) → Covers changed (written (moves_where size second mask d m r).effect)
moves_written size second mask d m r changed f = where_written (is_selected mask r.code) (with_rule Kept (Compute Move size d (value_in size r d) (operand_of second (r.general m)))) changed f

pub moves_immediate_written : (size : Size) (mask d bits : ℕ) (r : Registers) (changed : List Reg) → Covers changed (Real (general d) ∷ []) → Covers changed (written (moves_immediate_where size mask d bits r).effect)
moves_immediate_written size mask d bits r changed f = where_written (is_selected mask r.code) (with_rule Kept (Compute Move size d (value_in size r d) (operand_of signed_halfword bits))) changed f

pub extracts_written : (size : ElementSize) (d n base displacement : ℕ) (r : Registers) (changed : List Reg) → Covers changed (Real (general d) ∷ []) → Covers changed (written (extracts_lane size d n base displacement r).effect)
extracts_written size d n base displacement r changed f =
    let index : ℕ = element_index r base displacement in
    one_written (nat_lt index (lane_count size)) (computes_immediate Kept (on_doublewords Move) d d (lane (element_bits size) (r.vector n) index) r) (havocs d r) changed f f

puts_written : (size : ElementSize) (known d index x : ℕ) (r : Registers) (changed : List Reg) → Covers changed (Real (vector d) ∷ []) → Covers changed (written (puts_element size known d index x r).effect)
puts_written size known d index x r changed f =
    let held : ℕ = register_after_load (VectorLayout.Element size index false) (r.vector d) (x % 2 ^ element_bits size) in
    one_written (nat_lt index (lane_count size)) (with_rule Kept (PutVector d known held)) (with_rule Kept (PutVector d 0 0)) changed f f

pub inserts_written : (size : ElementSize) (d n base displacement : ℕ) (r : Registers) (changed : List Reg) → Covers changed (Real (vector d) ∷ []) → Covers changed (written (inserts_lane size d n base displacement r).effect)
inserts_written size d n base displacement r changed f = puts_written size all_bits d (element_index r base displacement) (r.general n) r changed f

pub inserts_alone_written : (size : ElementSize) (d n base displacement : ℕ) (r : Registers) (changed : List Reg) → Covers changed (Real (vector d) ∷ []) → Covers changed (written (inserts_lane_alone size d n base displacement r).effect)
inserts_alone_written size d n base displacement r changed f = puts_written size (lane_bits size (element_index r base displacement)) d (element_index r base displacement) (r.general n) r changed f

-- ---- a comparison of two vectors, which stay

first_stays : (op : VecIntEltCmpOp) (a b : ℕ) → vector_result (element_comparison op) a b 0 0 ≡ a
unfolding from_lanes
first_stays SCmp128 a b = omega arith
first_stays UCmp128 a b = omega arith

compared_keeps : (changed : List Reg) (op : VecIntEltCmpOp) (n m : ℕ) (code : StopKind → Option TrapKind) (k : ℕ) (c : Core) (position : Position) (t : Core) → OperationStep false (compares_vectors (element_comparison op) n m c.registers) code k c position t → KeepsOthers changed c.registers t.registers
compared_keeps changed SCmp128 n m code k c position t (goes_on v may e) =
    let x : ℕ = may.results.0 in
    let same : set_vector c.registers n x ≡ c.registers = put_same c.registers n x (may.results.1.result refl ∙ first_stays SCmp128 (c.registers.vector n) (c.registers.vector m)) in
    kept_by changed c.registers (with_code t.registers.code c.registers) t.registers (may.results.2 ∙ ap (with_code t.registers.code) same) (coded changed t.registers.code c.registers c.registers (kept_all changed c.registers))
compared_keeps changed UCmp128 n m code k c position t (goes_on v may e) =
    let x : ℕ = may.results.0 in
    let same : set_vector c.registers n x ≡ c.registers = put_same c.registers n x (may.results.1.result refl ∙ first_stays UCmp128 (c.registers.vector n) (c.registers.vector m)) in
    kept_by changed c.registers (with_code t.registers.code c.registers) t.registers (may.results.2 ∙ ap (with_code t.registers.code) same) (coded changed t.registers.code c.registers c.registers (kept_all changed c.registers))
compared_keeps changed op n m code k c position t (traps v kind number may is same p) = kept_by changed c.registers c.registers t.registers (ap (λ (x : Core). x.registers) same) (kept_all changed c.registers)

pub comparing_keeps : (L : Layout) (changed : List Reg) (op : VecIntEltCmpOp) (n m : ℕ) → KindKeeps L changed (Performs false (compares_vectors (element_comparison op) n m) no_code)
comparing_keeps L changed op n m k c position t step = compared_keeps changed op n m no_code k c position t step

-- ---- registers that may stand there

pub operate_valid : (row : Bool) (rx rxy : Option ℕ) (d i : Reg) (m : MemArg) → AreValid (operate row rx rxy d i m) → reuses d i ≡ true
operate_valid false rx rxy d i m v = absurd v
operate_valid true rx rxy d i m v = and_left (reuses d i) (operand_general m) v

pub change_valid : (row : Option ℕ) (d n : Reg) (m : MemArg) → AreValid (load_and_operate row d n m) → is_general d ≡ true
change_valid None d n m v = absurd v
change_valid (Some opcode) d n m v = and_left (is_general d) (is_general n) (and_left (is_general d && is_general n) (operand_general m) v)

pub vector_valid : (valid : Bool) (m : MemArg) (o : Option MemoryInstruction) → IsVectorAccess valid m o → AreValid o → valid ≡ true
vector_valid valid m None x v = absurd v
vector_valid valid m (Some x) (inl e) v = absurd (cc)
vector_valid valid m (Some x) (inr y) v = and_left valid (operand_general m) (subst (λ o. AreValid o) y.1 v)

-- ---- places

pub relocation_kept : (P : Place) (L : Layout) (rd : Reg) (reloc : SymbolReloc) (s : List Reg) → IsVirtual rd → MeetsEach s (items_of (reported_def rd ∷ scratch_request ∷ [])) s → refusal P (LoadSymbolReloc (register_at rd s) reloc) ≡ None → InstKeeps L (outputs (items_of (reported_def rd ∷ scratch_request ∷ [])) s) (LoadSymbolReloc (register_at rd s) reloc)
relocation_kept P L rd reloc s m g h =
    let x : Reg = register_at rd s in
    let changed : List Reg = outputs (items_of (reported_def rd ∷ scratch_request ∷ [])) s in
    let valid : is_general x ≡ true = single_valid P (LoadSymbolReloc x reloc) (is_general x) (two_row (Some opcodes.LGR) (number_of x) 0) refl h in
    let rest = defined_passed rd (scratch_request ∷ []) s s g in
    (performs_keeps L changed true (computes_immediate Kept (on_doublewords Move) (number_of x) (number_of x) (linked_value L reloc)) no_code (λ r. first_listed general_def rd (scratch_request ∷ []) s m g valid) (λ q a. scratch_listed [] (after rd s) q (rest.0 q a)), nothing L changed)

-- an output alone, behind whose cause stands that of a label
pub named_kept : (P : Place) (L : Layout) (mk : Reg → Inst) (label : MachLabel) → ((x : Reg) → (refusal P (mk x) ≡ first_emit_cause (unless (is_general x) BadRegister) (target_label_cause P.declared.blocks label)) × ((changed : List Reg) → Covers changed (Real (general (number_of x)) ∷ []) → InstKeeps L changed (mk x))) →
    (dst : Reg) (s : List Reg) → IsVirtual dst → MeetsEach s (items_of (reported_def dst ∷ [])) s → refusal P (mk (register_at dst s)) ≡ None → InstKeeps L (outputs (items_of (reported_def dst ∷ [])) s) (mk (register_at dst s))
named_kept P L mk label keeps dst s m g h =
    let x : Reg = register_at dst s in
    let real = unless (is_general x) BadRegister in
    let valid : is_general x ≡ true = unless_true (is_general x) BadRegister (first_left real (target_label_cause P.declared.blocks label) (sym (keeps x).0 ∙ h)) in
    (keeps x).1 (outputs (items_of (reported_def dst ∷ [])) s) (first_listed general_def dst [] s m g valid)
