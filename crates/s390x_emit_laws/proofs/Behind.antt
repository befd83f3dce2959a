-- The steps of an instruction that `emit` appends run as typed in the image of the whole buffer.
use Rattle.std.proofs.Common.{◌≡◌, ℕ, ◌+◌, ◌≤◌, ◌%◌, [], ◌∷◌, ◌++◌, length, Some, refl, sym, ap, ◌∙◌, arith, append-nil, append_assoc, slice_get}
use Rattle.std.proofs.lemmas.Option.{slice_get_within}
use Rattle.s390x_buffer.specs.State.{BufferState}
use Rattle.s390x_buffer.proofs.Branching.{length-patch_all}
use Rattle.s390x_inst.specs.Emission.{Emission}
use Rattle.s390x_inst.specs.declared.inst.Inst.{Inst}
use Rattle.s390x_inst.specs.declared.state.IsaFlags.{IsaFlags}
use Rattle.s390x_typed_steps.specs.Image.{code, step_offset}
use Rattle.s390x_typed_steps.specs.Steps.{Step, function_steps}
use Rattle.s390x_typed_steps.specs.Traps.{traps_from}
use Rattle.s390x_typed_steps.proofs.Folding.{blocks_masked}
use Rattle.s390x_operations.specs.State.{CodeImage}
use Rattle.s390x_machine.specs.CodeAt.{ImageAt, StepAt}
use Rattle.s390x_machine.specs.Layout.{Layout}
use Rattle.s390x_machine.specs.OneStep.{StepHolds}
use Rattle.s390x_machine.proofs.Checked.{valid_alone}
use Rattle.s390x_machine.proofs.FoldedSteps.{whole_right}
use Rattle.s390x_machine.proofs.Functions.{code_behind, places_behind}
use Rattle.s390x_machine.proofs.Instructions.{step_holds_there}
use Rattle.s390x_emit_int.specs.Bound.{StepsFollow}
use Rattle.s390x_emit_int.specs.Emission.{fragments, own_fragments}
use Rattle.s390x_emit_int.specs.Members.{member_of}
use Rattle.s390x_emit_int.proofs.Functions.{place_follows, place_zero}
use Rattle.s390x_emit_int.proofs.Recording.{function_recorded, recorded, traps_run}
use Rattle.s390x_emit_int.proofs.Trees.{member_begins}
use Rattle.s390x_emit_laws.specs.Alone.{IsAppended, alone, emitted_buffer, patched_bytes}
use Rattle.s390x_emit_laws.specs.Behind.{StandsBehind, layout_behind, places}
use Rattle.s390x_emit_laws.proofs.Alone.{follows_moved, place_of_block, place_within}
use Rattle.s390x_emit_laws.proofs.Running.{bytes_behind, own_valid}
use Rattle.s390x_emit_laws.proofs.Traps.{codes_moved}

module _ (off : ℕ → ℕ) (flags : IsaFlags) (e : Emission) (s : BufferState) (i : Inst) (image : CodeImage) (is : IsAppended off flags e s i) (there : StandsBehind off flags e s i image) where
  abbrev L : Layout
  L = layout_behind off flags e s i image

  before : length (patched_bytes off s) ≡ length s.bytes
  before = length-patch_all off s.uses s.bytes

  stand : image.bytes ≡ patched_bytes off s ++ (code L.offsets 0 L.steps ++ there.later)
  stand = there.bytes ∙ ap (λ l. l ++ there.later) (bytes_behind off flags e s i is) ∙ append_assoc (patched_bytes off s) (code L.offsets 0 L.steps) there.later

  own : (j : ℕ) → j ≤ length L.steps → L.offsets.step j ≡ length s.bytes + step_offset L.steps j
  own j le = place_within off (length s.bytes) L.steps j le

  offset : (j : ℕ) → j ≤ length L.steps → L.offsets.step j ≡ length (patched_bytes off s) + step_offset L.steps j
  offset j le = own j le ∙ ap (λ n. n + step_offset L.steps j) (sym before)

  image_there : ImageAt L
  image_there = record {
    even = there.even;
    fits = there.fits;
    short = there.short;
    step_places = places_behind L (patched_bytes off s) there.later stand offset (ap (λ n. n % 2) before ∙ there.place) there.short;
    block_places = there.blocks;
    blocks = λ b known. sym (place_of_block off (length s.bytes) L.steps b);
  }

  step_there : (k : ℕ) (x : Step) → slice_get L.steps k ≡ Some x → StepAt L k x
  step_there k x at =
      let traps = codes_moved (length s.bytes) (alone flags e i) L.offsets.step own k x at (slice_get_within L.steps k x at) in
      let valid = valid_alone L flags (length s.labels) e.nominal (member_of flags e i) refl (own_valid off flags e s i is) (blocks_masked (alone flags e i) there.ranges) k x at in
      record {
        image = image_there;
        at = at;
        code = code_behind L (patched_bytes off s) there.later stand offset k x at traps valid (whole_right L (alone flags e i) there.ranges k x at) (there.reached k x at);
        constants = there.constants k x at;
      }

  pub runs_behind : (k : ℕ) (x : Step) → slice_get L.steps k ≡ Some x → StepHolds L k
  runs_behind k x at = step_holds_there L k x (step_there k x at)

-- the buffer's table of traps has those of the layout behind its own
pub traps_behind : (off : ℕ → ℕ) (flags : IsaFlags) (e : Emission) (s : BufferState) (i : Inst) (image : CodeImage) → (emitted_buffer flags e s i).traps ≡ s.traps ++ (layout_behind off flags e s i image).traps
traps_behind off flags e s i image =
    let t = member_of flags e i in
    let n = length s.labels in
    let p = length s.bytes in
    let ss = function_steps (t ∷ []) in
    let to = places off p ss in
    let follow : StepsFollow to 0 ss = follows_moved (step_offset ss) to ss 0 p (λ j le. place_within off p ss j (omega (arith, le))) (place_follows ss) in
    let begin : to 0 ≡ p = place_within off p ss 0 (omega arith) ∙ omega (arith, place_zero ss) in
    let own : recorded p (own_fragments n 0 t) ≡ traps_from to 0 ss =
    ap (recorded p) (sym (member_begins flags e i n 0) ∙ sym (append-nil (fragments n 0 t))) ∙ ap (λ q. recorded q (fragments n 0 t ++ [])) (sym begin) ∙ function_recorded (t ∷ []) to n 0 0 follow in
    traps_run (own_fragments n 0 t) s ∙ ap (λ l. s.traps ++ l) own
