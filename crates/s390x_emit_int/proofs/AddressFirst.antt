-- An access whose row the machine lacks: it is emitted, checked and refused by its other rows.
use Rattle.std.proofs.Common.{◌≡◌, ℕ, Bool, true, false, cond, ◌&&◌, [], length, Option, Some, None, Result, Ok, Err, OnOk, MatchResult, is_some, inr, refl, sym, ap, ◌∙◌, subst, arith}
use Rattle.std.specs.Option.{option_map}
use Rattle.s390x_address.specs.Rows.{in_state}
use Rattle.s390x_base.specs.declared.error.EmitError.{EmitError}
use Rattle.s390x_base.specs.declared.error.EmitError.TheVariants.{BadOperator}
use Rattle.s390x_buffer.proofs.Extending.{extends_same}
use Rattle.s390x_buffer.specs.Extends.{Extends}
use Rattle.s390x_buffer.specs.State.{BufferState, put_cause}
use Rattle.s390x_inst.specs.Emission.{Emission}
use Rattle.s390x_inst.specs.declared.inst.Inst.{Inst}
use Rattle.s390x_inst.specs.declared.inst.Inst.TheVariants as I
use Rattle.s390x_inst.specs.declared.state.IsaFlags.{IsaFlags}
use Rattle.s390x_typed_steps.proofs.Causes.{first_left, first_right}
use Rattle.s390x_typed_steps.specs.Baseline.{whole_or_loaded, body_for}
use Rattle.s390x_typed_steps.specs.Causes.{Declared, first_emit_cause, declared_in, facility_cause, stack_cause, numbers_cause, memory_cause, memory_cause_or, loaded_cause, instruction_fresh_labels, body_cause, body_fresh_labels, body_nominal_after}
use Rattle.s390x_typed_steps.specs.Memory.{StorageForm, RxForm, RsForm, SiForm, SilForm, VrxForm, FloatForm, MemoryInstruction, memory, loaded_memory, without_relative, other_rows, with_rows, has_relative_row, accesses_relative}
use Rattle.s390x_typed_steps.specs.Operands.{resolved_operand, is_relative}
use Rattle.s390x_typed_steps.specs.Parts.{memory_or, memory_parts, parts_size}
use Rattle.s390x_typed_steps.specs.Ranges.{MaskInRange, OperandInRange, MemoryInRange, InRange, BodyInRange}
use Rattle.s390x_typed_steps.specs.Resolved.{resolved_instruction}
use Rattle.s390x_typed_steps.specs.Sizes.{body_size}
use Rattle.s390x_typed_steps.specs.Tree.{StepBody, Whole, Loaded, leaf, empty}
use Rattle.s390x_emit_int.specs.Emission.{body_fragments, part_fragments}
use Rattle.s390x_emit_int.specs.Fragments.{apply_all}
use Rattle.s390x_emit_int.specs.Loaded.{loaded_for}
use Rattle.s390x_emit_int.specs.Room.{MembersFit, OnlyOutOfMemory}
use Rattle.s390x_emit_int.specs.Sequence.{EmitsOwn, ChecksTree}
use Rattle.s390x_emit_int.specs.CodeSize.{Adds}
use Rattle.s390x_emit_int.specs.declared.check.CodeSize.{CodeSize}
use Rattle.s390x_emit_int.proofs.Bodies.{body_passed}
use Rattle.s390x_emit_int.proofs.Emitting.{both_none}
use Rattle.s390x_emit_int.proofs.OnlyMemory.{put_none}
use Rattle.s390x_emit_int.proofs.Resolving.{memory_resolved, relative_in_state, lacks_resolved, mask_resolved}
use Rattle.s390x_emit_int.proofs.Sequence.{reaches_same, own_done, own_failed, counts_step, counts_done, step_stops}

-- ---- the rows in a state of emission

rows_in_state : (e : Emission) (x : MemoryInstruction) (o : Option StorageForm) → option_map (with_rows (in_state e x)) o ≡ option_map (in_state e) (option_map (with_rows x) o)
rows_in_state e x None = refl
rows_in_state e x (Some form) = refl

loaded_in_state : (e : Emission) (o : Option MemoryInstruction) → without_relative (option_map (in_state e) o) ≡ option_map (in_state e) (without_relative o)
loaded_in_state e None = refl
loaded_in_state e (Some x) = rows_in_state e x (other_rows x.form x.accesses)

loaded_resolved : (e : Emission) (i : Inst) → loaded_memory (resolved_instruction e i) ≡ option_map (in_state e) (loaded_memory i)
loaded_resolved e i = ap without_relative (memory_resolved e i) ∙ loaded_in_state e (memory i)

-- the other rows that were found
other_found : (e : Emission) (i : Inst) (x : MemoryInstruction) → Some x ≡ loaded_memory i → loaded_memory (resolved_instruction e i) ≡ Some (in_state e x)
other_found e i x is = loaded_resolved e i ∙ ap (option_map (in_state e)) (sym is)

-- ---- where the machine lacks the row

rows_there : (form : StorageForm) (accesses t : Bool) → (has_relative_row form && accesses && t) ≡ true → is_some (other_rows form accesses) ≡ true
rows_there (RxForm register short long (Some opcode)) true t h = refl
rows_there (RxForm register short long (Some opcode)) false t h = absurd (cc)
rows_there (RxForm register short long None) accesses t h = absurd (cc)
rows_there (RsForm first second short long) accesses t h = absurd (cc)
rows_there (SiForm imm short long) accesses t h = absurd (cc)
rows_there (SilForm bits opcode) accesses t h = absurd (cc)
rows_there (VrxForm register opcode mask) accesses t h = absurd (cc)
rows_there (FloatForm register short long) accesses t h = absurd (cc)

-- an access that is relative to the instruction has other rows
loaded_there : (o : Option MemoryInstruction) → accesses_relative o ≡ true → is_some (without_relative o) ≡ true
loaded_there None h = absurd (cc)
loaded_there (Some x) h = go (other_rows x.form x.accesses) (rows_there x.form x.accesses (is_relative x.operand) h)
  where
    go : (o : Option StorageForm) → is_some o ≡ true → is_some (option_map (with_rows x) o) ≡ true
    go None e = absurd (cc)
    go (Some form) e = refl

pub found_loaded : (flags : IsaFlags) (i : Inst) (x : MemoryInstruction) → Some x ≡ loaded_for flags i → ((accesses_relative (memory i) && flags.no_relative_memory) ≡ true) × (Some x ≡ loaded_memory i)
found_loaded flags i x h = go (accesses_relative (memory i) && flags.no_relative_memory) h
  where
    go : (t : Bool) → Some x ≡ cond t (loaded_memory i) None → (t ≡ true) × (Some x ≡ loaded_memory i)
    go true h = (refl, h)
    go false h = absurd (cc)

pub none_loaded : (flags : IsaFlags) (i : Inst) → None ≡ loaded_for flags i → (accesses_relative (memory i) && flags.no_relative_memory) ≡ false
none_loaded flags i h = go (accesses_relative (memory i)) flags.no_relative_memory (loaded_there (memory i)) h
  where
    go : (a f : Bool) → (a ≡ true → is_some (loaded_memory i) ≡ true) → None ≡ cond (a && f) (loaded_memory i) None → (a && f) ≡ false
    go true true there h =
        let some = there refl in
        let none : is_some (loaded_memory i) ≡ false = ap is_some (sym h) in
        absurd (cc)
    go true false there h = refl
    go false f there h = refl

-- which body the instruction then is
pub body_is : (flags : IsaFlags) (e : Emission) (i : Inst) (t : Bool) → (accesses_relative (memory i) && flags.no_relative_memory) ≡ t → body_for flags (Whole (resolved_instruction e i)) ≡ whole_or_loaded t (resolved_instruction e i)
body_is flags e i t h =
    let j = resolved_instruction e i in
    ap (λ a. whole_or_loaded (a && flags.no_relative_memory) j) (ap accesses_relative (memory_resolved e i) ∙ relative_in_state e (memory i)) ∙ ap (λ b. whole_or_loaded b j) h

-- ---- what is found by the flag

pub with_flag : (a f : Bool) (o : Option MemoryInstruction) → f ≡ true → cond a o None ≡ cond (a && f) o None
with_flag true f o e = ap (λ t. cond t o None) (sym e)
with_flag false f o e = refl

pub without_flag : (a f : Bool) (o : Option MemoryInstruction) → f ≡ false → None ≡ cond (a && f) o None
without_flag true f o e = ap (λ t. cond t o None) (sym e)
without_flag false f o e = refl

-- ---- its causes

-- it changes no stack size, draws no label and has no mask
loaded_stack : (nominal depth : ℕ) (i : Inst) (x : MemoryInstruction) → Some x ≡ loaded_memory i → stack_cause nominal depth i ≡ None
loaded_stack nominal depth (I.AllocateArgs size) x h = absurd (cc)
loaded_stack nominal depth i x h = refl

loaded_labels : (i : Inst) (x : MemoryInstruction) → Some x ≡ loaded_memory i → instruction_fresh_labels i ≡ 0
loaded_labels (I.JTSequence ridx other mask targets) x h = absurd (cc)
loaded_labels i x h = refl

loaded_mask : (i : Inst) (x : MemoryInstruction) → Some x ≡ loaded_memory i → MaskInRange i
loaded_mask (I.CondBr taken not_taken mask) x h = absurd (cc)
loaded_mask (I.JTSequence ridx other mask targets) x h = absurd (cc)
loaded_mask (I.CondBreak mask) x h = absurd (cc)
loaded_mask (I.TrapIf mask code) x h = absurd (cc)
loaded_mask i x h = tt

pub own_of : (e : Emission) (D : Declared) (i : Inst) (x : MemoryInstruction) → Some x ≡ loaded_memory i → memory_cause_or D (loaded_memory (resolved_instruction e i)) (Some BadOperator) ≡ memory_cause D (in_state e x)
own_of e D i x is = ap (λ o. memory_cause_or D o (Some BadOperator)) (other_found e i x is)

pub loaded_none : (flags : IsaFlags) (e : Emission) (D : Declared) (n nominal depth : ℕ) (i : Inst) (x : MemoryInstruction) → Some x ≡ loaded_memory i → first_emit_cause (facility_cause flags i) (first_emit_cause (stack_cause nominal depth i) (numbers_cause n (instruction_fresh_labels i))) ≡ None → memory_cause D (in_state e x) ≡ None →
    loaded_cause flags D n (resolved_instruction e i) ≡ None
loaded_none flags e D n nominal depth i x is outer own =
    let facility = first_left (facility_cause flags i) _ outer in
    let numbers = first_right (stack_cause nominal depth i) _ (first_right (facility_cause flags i) _ outer) in
    both_none _ _ (both_none _ _ (lacks_resolved flags e i ∙ facility) (own_of e D i x is ∙ own)) (ap (numbers_cause n) (sym (loaded_labels i x is)) ∙ numbers)

-- what passed has no cause outside
pub loaded_outer : (flags : IsaFlags) (e : Emission) (D : Declared) (n nominal depth : ℕ) (i : Inst) (x : MemoryInstruction) → Some x ≡ loaded_memory i → loaded_cause flags D n (resolved_instruction e i) ≡ None → first_emit_cause (facility_cause flags i) (first_emit_cause (stack_cause nominal depth i) (numbers_cause n (instruction_fresh_labels i))) ≡ None
loaded_outer flags e D n nominal depth i x is h =
    let j = resolved_instruction e i in
    let own = first_left (first_emit_cause (facility_cause flags j) (memory_cause_or D (loaded_memory j) (Some BadOperator))) _ h in
    let numbers = first_right (first_emit_cause (facility_cause flags j) (memory_cause_or D (loaded_memory j) (Some BadOperator))) _ h in
    both_none _ _ (sym (lacks_resolved flags e i) ∙ first_left (facility_cause flags j) _ own) (both_none _ _ (loaded_stack nominal depth i x is) (ap (numbers_cause n) (loaded_labels i x is) ∙ numbers))

-- ---- its bytes

pub loaded_fragments : (e : Emission) (n after : ℕ) (i : Inst) (x : MemoryInstruction) → Some x ≡ loaded_memory i → body_fragments n after (Loaded (resolved_instruction e i)) ≡ part_fragments (memory_parts (in_state e x))
loaded_fragments e n after i x is = ap (λ o. part_fragments (memory_or o [])) (other_found e i x is)

pub loaded_size : (e : Emission) (i : Inst) (x : MemoryInstruction) → Some x ≡ loaded_memory i → body_size (Loaded (resolved_instruction e i)) ≡ parts_size (memory_parts (in_state e x))
loaded_size e i x is = ap (λ o. parts_size (memory_or o [])) (other_found e i x is)

pub loaded_passed : (flags : IsaFlags) (e : Emission) (s : BufferState) (after depth : ℕ) (i : Inst) (x : MemoryInstruction) → Some x ≡ loaded_memory i →
    MembersFit s after depth (body_size (Loaded (resolved_instruction e i))) (loaded_cause flags (declared_in s) (length s.labels) (resolved_instruction e i)) → (put_cause s (parts_size (memory_parts (in_state e x))) ≡ None) × (memory_cause (declared_in s) (in_state e x) ≡ None)
loaded_passed flags e s after depth i x is p =
    let j = resolved_instruction e i in
    let size = loaded_size e i x is in
    let own = first_left (first_emit_cause (facility_cause flags j) (memory_cause_or (declared_in s) (loaded_memory j) (Some BadOperator))) _ p.passed in
    (put_none s (parts_size (memory_parts (in_state e x))) p.unpoisoned (omega (arith, p.short, size)), sym (own_of e (declared_in s) i x is) ∙ first_right (facility_cause flags j) _ own)

-- ---- the check of it

abbrev outer_and_own : IsaFlags → Declared → Inst → Option EmitError
outer_and_own flags D j = first_emit_cause (facility_cause flags j) (memory_cause_or D (loaded_memory j) (Some BadOperator))

pub loaded_stops : (flags : IsaFlags) (D : Declared) (n : ℕ) (e : Emission) (i : Inst) (y : EmitError) → outer_and_own flags D (resolved_instruction e i) ≡ Some y → loaded_cause flags D n (resolved_instruction e i) ≡ Some y
loaded_stops flags D n e i y some = ap (λ o. first_emit_cause o (numbers_cause n 0)) some

pub access_size : (flags : IsaFlags) (D : Declared) (e : Emission) (i : Inst) (x : MemoryInstruction) (size : ℕ) → Some x ≡ loaded_memory i → outer_and_own flags D (resolved_instruction e i) ≡ None → (memory_cause D (in_state e x) ≡ None → size ≡ parts_size (memory_parts (in_state e x))) → size ≡ body_size (Loaded (resolved_instruction e i))
access_size flags D e i x size is none found =
    found (sym (own_of e D i x is) ∙ first_right (facility_cause flags (resolved_instruction e i)) _ none) ∙ sym (loaded_size e i x is)

pub loaded_adds : (flags : IsaFlags) (D : Declared) (t : CodeSize) (e : Emission) (i : Inst) (size : ℕ) (result : Result CodeSize EmitError) → outer_and_own flags D (resolved_instruction e i) ≡ None → size ≡ body_size (Loaded (resolved_instruction e i)) →
    MatchResult result (λ r. (numbers_cause t.labels 0 ≡ None) × Adds t r 0 size) (λ y. numbers_cause t.labels 0 ≡ Some y) →
    MatchResult result (λ r. (loaded_cause flags D t.labels (resolved_instruction e i) ≡ None) × Adds t r 0 (body_size (Loaded (resolved_instruction e i)))) (λ y. loaded_cause flags D t.labels (resolved_instruction e i) ≡ Some y)
loaded_adds flags D t e i size (Ok r) none same h = (ap (λ o. first_emit_cause o (numbers_cause t.labels 0)) none ∙ h.0, subst (λ m. Adds t r 0 m) same h.1)
loaded_adds flags D t e i size (Err y) none same h = ap (λ o. first_emit_cause o (numbers_cause t.labels 0)) none ∙ h

-- ---- its ranges

kept_range : (e : Emission) (o : Option MemoryInstruction) (x : MemoryInstruction) → Some x ≡ without_relative o → OperandInRange (resolved_operand e x.operand) → MemoryInRange (option_map (in_state e) o)
kept_range e None x h r = tt
kept_range e (Some y) x h r = go (other_rows y.form y.accesses) h
  where
    go : (o : Option StorageForm) → Some x ≡ option_map (with_rows y) o → OperandInRange (resolved_operand e y.operand)
    go None h = absurd (cc)
    go (Some form) h = let same : x ≡ with_rows y form = cc in subst (λ m. OperandInRange (resolved_operand e m)) (ap (λ z. z.operand) same) r

pub loaded_range : (e : Emission) (i : Inst) (x : MemoryInstruction) → Some x ≡ loaded_memory i → OperandInRange (resolved_operand e x.operand) → InRange (resolved_instruction e i)
loaded_range e i x is r = (mask_resolved e i (loaded_mask i x is), subst MemoryInRange (sym (memory_resolved e i)) (kept_range e (memory i) x is r))

-- ---- one body as a tree

pub body_emits : {T : Type 0} (flags : IsaFlags) (s t : BufferState) (after depth nominal : ℕ) (b : StepBody) (r : Result T EmitError) → OnOk r ((body_cause flags (declared_in s) (length s.labels) nominal depth b ≡ None) × (t ≡ apply_all s (body_fragments (length s.labels) after b))) →
    (MembersFit s after depth (body_size b) (body_cause flags (declared_in s) (length s.labels) nominal depth b) → OnlyOutOfMemory r) → OnOk r (BodyInRange b) → Extends s t → EmitsOwn flags s t after depth nominal (leaf b empty) r
body_emits flags s t after depth nominal b (Ok x) own only_memory range kept =
    let m = body_nominal_after nominal b in
    own_done flags s t t after depth nominal m b empty x own.1 own.0 range kept (reaches_same flags t after depth m empty) (extends_same t)
body_emits flags s t after depth nominal b (Err y) own only_memory range kept = own_failed flags s t after depth nominal (leaf b empty) y (λ p. only_memory (body_passed flags s after nominal depth b empty p)) kept

pub body_checks : (flags : IsaFlags) (D : Declared) (t : CodeSize) (depth nominal : ℕ) (b : StepBody) (result : Result CodeSize EmitError) → MatchResult result (λ r. (body_cause flags D t.labels nominal depth b ≡ None) × Adds t r (body_fresh_labels b) (body_size b)) (λ e. body_cause flags D t.labels nominal depth b ≡ Some e) →
    ChecksTree flags D t depth nominal (leaf b empty) result
body_checks flags D t depth nominal b (Ok r) h = counts_done flags D t r depth nominal (body_nominal_after nominal b) (leaf b empty) h.1.counted (counts_step flags D t r depth nominal b empty h.0 h.1)
body_checks flags D t depth nominal b (Err e) h = inr (step_stops flags D t.labels depth nominal b empty e h)
