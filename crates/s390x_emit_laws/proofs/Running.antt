-- An instruction by itself runs as its typed steps, wherever its bytes stand.
use Rattle.std.proofs.Common.{◌≡◌, ℕ, [], ◌∷◌, ◌++◌, Option, Some, None, Bool, true, false, cond, sym, ap, ◌∙◌, append_assoc, slice_get, length}
use Rattle.std.proofs.lemmas.List.{append_cancel_left}
use Rattle.s390x_base.specs.declared.error.EmitError.{EmitError}
use Rattle.s390x_base.specs.declared.error.EmitError.TheVariants.{Failed}
use Rattle.s390x_buffer.specs.Constants.{constant_bytes}
use Rattle.s390x_buffer.specs.Finish.{unpatched_bytes}
use Rattle.s390x_buffer.specs.Patch.{patch_all}
use Rattle.s390x_buffer.specs.State.{BufferState}
use Rattle.s390x_inst.specs.Emission.{Emission}
use Rattle.s390x_inst.specs.declared.inst.Inst.{Inst}
use Rattle.s390x_inst.specs.declared.state.IsaFlags.{IsaFlags}
use Rattle.s390x_typed_steps.specs.Causes.{declared_in, tree_cause}
use Rattle.s390x_typed_steps.specs.Image.{code, function_code}
use Rattle.s390x_typed_steps.specs.Rows.{LinkEnvironment}
use Rattle.s390x_typed_steps.specs.Steps.{Step, function_steps}
use Rattle.s390x_typed_steps.specs.Tree.{Tree}
use Rattle.s390x_typed_steps.proofs.Causes.{first_left}
use Rattle.s390x_operations.specs.State.{CodeImage}
use Rattle.s390x_machine.specs.Functions.{function_layout, StandsAsCode}
use Rattle.s390x_machine.specs.OneStep.{StepHolds}
use Rattle.s390x_machine.proofs.Checked.{checked_steps}
use Rattle.s390x_machine.proofs.FoldedSteps.{whole_right}
use Rattle.s390x_machine.proofs.Functions.{function_placed}
use Rattle.s390x_machine.proofs.Instructions.{step_holds}
use Rattle.s390x_emit_int.specs.Members.{member_of}
use Rattle.s390x_emit_int.specs.Resolve.{UsesWithin}
use Rattle.s390x_emit_int.proofs.Patching.{all_left}
use Rattle.s390x_emit_int.proofs.Trees.{member_begins}
use Rattle.s390x_emit_laws.specs.Alone.{IsAppended, StandsAlone, alone, emitted_buffer, layout_alone, outside, patched_bytes, placed_offsets, surroundings}
use Rattle.s390x_emit_laws.specs.Behind.{places}
use Rattle.s390x_emit_laws.proofs.Alone.{appended, appended_behind, own_code}

-- a buffer that isn't poisoned
unmarked : (failed : Bool) (o : Option EmitError) → cond failed (Some Failed) o ≡ None → o ≡ None
unmarked false o h = h
unmarked true o h = absurd (cc)

module _ (off : ℕ → ℕ) (flags : IsaFlags) (e : Emission) (s : BufferState) (i : Inst) (is : IsAppended off flags e s i) where
  pub own_valid : tree_cause flags (declared_in s) (length s.labels) e.nominal 0 (member_of flags e i) ≡ None
  own_valid = first_left (tree_cause flags (declared_in s) (length s.labels) e.nominal 0 (member_of flags e i)) _ (unmarked s.is_poisoned _ is.valid)

  pub placed_bytes : patched_bytes off (emitted_buffer flags e s i) ≡ patched_bytes off s ++ code (placed_offsets off s (alone flags e i)) 0 (function_steps (alone flags e i))
  placed_bytes = appended flags e.nominal (member_of flags e i) s off (member_begins flags e i) own_valid is.within is.labels

  -- the same with the offsets of what stands behind
  pub bytes_behind : patched_bytes off (emitted_buffer flags e s i) ≡ patched_bytes off s ++ code (record { step = places off (length s.bytes) (function_steps (alone flags e i)); block = off; environment = outside off s }) 0 (function_steps (alone flags e i))
  bytes_behind = appended_behind flags e.nominal (member_of flags e i) s off (member_begins flags e i) own_valid is.within is.labels

  module _ (image : CodeImage) (there : StandsAlone off flags e s i image) where
    image_bytes : image.bytes ≡ function_code (surroundings off s) (alone flags e i) ++ there.later
    image_bytes =
        let before = patched_bytes off s in
        let own = function_code (surroundings off s) (alone flags e i) in
        let is_own : patched_bytes off (emitted_buffer flags e s i) ≡ before ++ own =
        placed_bytes ∙ ap (λ l. before ++ l) (own_code flags e.nominal (member_of flags e i) s off (member_begins flags e i) own_valid is.within is.labels there.no_block there.constants) in
        append_cancel_left before image.bytes (own ++ there.later) (sym there.bytes ∙ ap (λ l. l ++ there.later) is_own ∙ append_assoc before own there.later)

    stands : StandsAsCode (surroundings off s) (alone flags e i) image
    stands = record {
      constants = there.later;
      bytes = image_bytes;
      even = there.even;
      fits = there.fits;
      short = there.short;
      valid = checked_steps flags (surroundings off s) (alone flags e i) there.labels_in_use image there.checked there.ranges;
      folded = whole_right (layout_alone off flags e s i image) (alone flags e i) there.ranges;
      reached = there.reached;
      stand = there.stand;
    }

    pub runs_alone : (k : ℕ) (x : Step) → slice_get (function_steps (alone flags e i)) k ≡ Some x → StepHolds (layout_alone off flags e s i image) k
    runs_alone k x at = step_holds (layout_alone off flags e s i image) (function_placed (surroundings off s) (alone flags e i) image stands) k x at

-- the same of a tree whose bytes stand in an image, whatever its steps refer to
pub one_runs : (environment : LinkEnvironment) (t : Tree) (image : CodeImage) → StandsAsCode environment (t ∷ []) image → (k : ℕ) (x : Step) → slice_get (function_steps (t ∷ [])) k ≡ Some x → StepHolds (function_layout environment (t ∷ []) image) k
one_runs environment t image stands k x at = step_holds (function_layout environment (t ∷ []) image) (function_placed environment (t ∷ []) image stands) k x at

-- the constants stand behind the patched bytes
pub finished_bytes : (off : ℕ → ℕ) (s : BufferState) → UsesWithin (length s.bytes) s.uses → patch_all off s.uses (unpatched_bytes s) ≡ patched_bytes off s ++ constant_bytes (length s.bytes) s.constants
finished_bytes off s within = all_left off s.uses s.bytes (constant_bytes (length s.bytes) s.constants) within
