-- What emission reads of an instruction stands in what the instruction holds, and so in its line.
use Rattle.std.proofs.Common.{◌≡◌, ℕ, ◌-◌, List, [], ◌∷◌, Option, Some, None, cond, ◌&&◌, refl, sym, ap, ◌∙◌, subst}
use Rattle.s390x_inst.specs.declared.state.IsaFlags.{IsaFlags}
use Rattle.s390x_base.specs.Regs.{number_of}
use Rattle.s390x_base.specs.declared.error.EmitError.{EmitError}
use Rattle.s390x_base.specs.declared.error.EmitError.TheVariants.{BadOperator, BadRegister}
use Rattle.s390x_inst.specs.declared.inst.Inst.{Inst}
use Rattle.s390x_inst.specs.declared.inst.Inst.TheVariants as I
use Rattle.s390x_rows.specs.declared.opcodes.TheConstants as opcodes
use Rattle.s390x_typed_steps.specs.MachineInstruction.{rr}
use Rattle.s390x_typed_steps.specs.Causes.{Declared, first_emit_cause, unless, labels_cause, table_cause, instruction_cause, instruction_fresh_labels}
use Rattle.s390x_typed_steps.specs.General.{is_general, is_nonzero}
use Rattle.s390x_typed_steps.specs.Memory.{memory, accesses_relative}
use Rattle.s390x_typed_steps.specs.Parts.{CodePart, Row, table_parts, step_parts}
use Rattle.s390x_typed_steps.specs.Ranges.{IsConditionMask, InRange}
use Rattle.s390x_typed_steps.specs.Stack.{nominal_after}
use Rattle.s390x_typed_steps.specs.Steps.{step_of}
use Rattle.s390x_typed_steps.specs.Tree as Body
use Rattle.s390x_job_lines.specs.Contents.{Contents, Whole, Branches, Table, Calls, Arguments, Results, contents}
use Rattle.s390x_job_lines.specs.Instructions.{inst_line}
use Rattle.s390x_job_lines.proofs.Contents.{read_line, contents_read}

-- ---- by what an instruction holds that is a step by itself; a call isn't one: as one it would take its arguments and be refused

-- its cause
abbrev pub held_cause : IsaFlags → Declared → (nominal depth : ℕ) → Contents → Option EmitError
held_cause flags D m depth (Whole i) = instruction_cause flags D m depth i
held_cause flags D m depth (Branches rn targets) = first_emit_cause (unless (is_general rn && is_nonzero rn) BadRegister) (labels_cause D.blocks targets)
held_cause flags D m depth (Table index other mask targets) = table_cause D.blocks index other targets
held_cause flags D m depth (Arguments args) = None
held_cause flags D m depth (Results rets) = None
held_cause flags D m depth c = Some BadOperator

-- the nominal size behind it
abbrev pub held_after : ℕ → Contents → ℕ
held_after m (Whole i) = nominal_after m i
held_after m (Calls c) = m - c.callee_pop_size
held_after m c = m

-- how many labels it draws
abbrev pub held_fresh_labels : Contents → ℕ
held_fresh_labels (Whole i) = instruction_fresh_labels i
held_fresh_labels (Table index other mask targets) = 1
held_fresh_labels c = 0

-- the parts of the step in a loop that ends at the step `after`
abbrev pub held_parts : ℕ → Contents → List CodePart
held_parts after (Whole i) = step_parts (step_of after (Body.Whole i))
held_parts after (Branches rn targets) = Row (rr opcodes.BCR 15 (number_of rn)) ∷ []
held_parts after (Table index other mask targets) = table_parts (number_of index) mask other.0 targets
held_parts after c = []

abbrev pub held_range : Contents → Type 0
held_range (Whole i) = InRange i
held_range (Table index other mask targets) = IsConditionMask mask × Unit {0}
held_range c = Unit {0} × Unit {0}

-- of a machine by its flags: the instruction of which it lacks a row
abbrev pub lacking : IsaFlags → Contents → Option Inst
lacking flags (Whole i) = cond (accesses_relative (memory i) && flags.no_relative_memory) (Some i) None
lacking flags c = None

-- ---- emission reads it; the last clause is a copy for each other instruction

cause_held : (flags : IsaFlags) (D : Declared) (m depth : ℕ) (i : Inst) → instruction_cause flags D m depth i ≡ held_cause flags D m depth (contents i)
cause_held flags D m depth (I.Call link info) = refl
cause_held flags D m depth i = refl

nominal_held : (m : ℕ) (i : Inst) → nominal_after m i ≡ held_after m (contents i)
nominal_held m (I.Call link info) = refl
nominal_held m i = refl

fresh_labels_held : (i : Inst) → instruction_fresh_labels i ≡ held_fresh_labels (contents i)
fresh_labels_held (I.Call link info) = refl
fresh_labels_held i = refl

parts_held : (after : ℕ) (i : Inst) → step_parts (step_of after (Body.Whole i)) ≡ held_parts after (contents i)
parts_held after (I.Call link info) = refl
parts_held after i = refl

range_held : (i : Inst) → InRange i → held_range (contents i)
range_held (I.Call link info) h = h
range_held i h = h

range_of_held : (i : Inst) → held_range (contents i) → InRange i
range_of_held (I.Call link info) h = h
range_of_held i h = h

lacking_held : (flags : IsaFlags) (i : Inst) → cond (accesses_relative (memory i) && flags.no_relative_memory) (Some i) None ≡ lacking flags (contents i)
lacking_held flags (I.Call link info) = refl
lacking_held flags i = refl

-- ---- and so by its line

pub cause_read : (flags : IsaFlags) (D : Declared) (m depth : ℕ) (i : Inst) → instruction_cause flags D m depth i ≡ held_cause flags D m depth (read_line (inst_line i))
cause_read flags D m depth i = cause_held flags D m depth i ∙ ap (held_cause flags D m depth) (contents_read i)

pub nominal_read : (m : ℕ) (i : Inst) → nominal_after m i ≡ held_after m (read_line (inst_line i))
nominal_read m i = nominal_held m i ∙ ap (held_after m) (contents_read i)

pub fresh_labels_read : (i : Inst) → instruction_fresh_labels i ≡ held_fresh_labels (read_line (inst_line i))
fresh_labels_read i = fresh_labels_held i ∙ ap held_fresh_labels (contents_read i)

pub parts_read : (after : ℕ) (i : Inst) → step_parts (step_of after (Body.Whole i)) ≡ held_parts after (read_line (inst_line i))
parts_read after i = parts_held after i ∙ ap (held_parts after) (contents_read i)

pub range_read : (i : Inst) → InRange i → held_range (read_line (inst_line i))
range_read i h = subst held_range (contents_read i) (range_held i h)

pub range_round_trip : (i : Inst) → held_range (read_line (inst_line i)) → InRange i
range_round_trip i h = range_of_held i (subst held_range (sym (contents_read i)) h)

pub lacking_read : (flags : IsaFlags) (i : Inst) → cond (accesses_relative (memory i) && flags.no_relative_memory) (Some i) None ≡ lacking flags (read_line (inst_line i))
lacking_read flags i = lacking_held flags i ∙ ap (lacking flags) (contents_read i)
