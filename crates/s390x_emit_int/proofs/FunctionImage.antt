-- The finished code of a function, linked, is the function's image.
use Rattle.std.proofs.Common.{◌≡◌, ◌⊎◌, inl, inr, ℕ, List, Some, None, sym, subst}
use Rattle.s390x_inst.specs.Emission.{Emission}
use Rattle.s390x_inst.specs.declared.function.AllocatedFunction.{AllocatedFunction}
use Rattle.s390x_inst.specs.declared.state.IsaFlags.{IsaFlags}
use Rattle.s390x_buffer.specs.declared.entries.MachBufferFinalized.{MachBufferFinalized}
use Rattle.s390x_image.specs.Causes.{link_cause}
use Rattle.s390x_image.specs.Fields.{with_fields_filled}
use Rattle.s390x_image.specs.Symbols.{Symbols}
use Rattle.s390x_image.specs.declared.error.LinkError.{LinkError}
use Rattle.s390x_image.specs.declared.error.LinkError.TheVariants.{NoMemory}
use Rattle.s390x_typed_steps.specs.Ranges.{BlocksInRange}
use Rattle.s390x_typed_steps.proofs.Causes.{first_right}
use Rattle.s390x_emit_int.specs.Function.{IsFinishedCode, checked_cause, constants_of, folded_trees_of, function_cause, start_cause, trees_of}
use Rattle.s390x_emit_int.specs.FunctionImage.{IsImageOf, IsLinkRefused}
use Rattle.s390x_emit_int.specs.Headline.{RunsAsTyped}
use Rattle.s390x_emit_int.proofs.Linked.{runs_as_typed}

module _ (flags : IsaFlags) (state : Emission) (f : AllocatedFunction) (base : ℕ) (symbols : Symbols) (code : MachBufferFinalized) where
  pub image_of : (bytes : List ℕ) → function_cause flags (trees_of flags state f) (constants_of f) state ≡ None → IsFinishedCode (folded_trees_of flags state f) (constants_of f) code → BlocksInRange (trees_of flags state f) → link_cause code base symbols ≡ None → bytes ≡ with_fields_filled base symbols code.relocs.items code.bytes.items → IsImageOf flags state f base symbols bytes
  image_of bytes valid finished ranges linked is = record {
    code = code;
    valid = valid;
    finished = finished;
    linked = linked;
    is = is;
    runs = subst (λ bs. RunsAsTyped symbols (folded_trees_of flags state f) (constants_of f) (record { base = base; bytes = bs })) (sym is) (runs_as_typed flags (trees_of flags state f) (constants_of f) code base symbols (first_right (start_cause state) (checked_cause flags (trees_of flags state f) (constants_of f)) valid) ranges finished linked);
  }

  pub link_refused : (error : LinkError) → function_cause flags (trees_of flags state f) (constants_of f) state ≡ None → IsFinishedCode (folded_trees_of flags state f) (constants_of f) code → (error ≡ NoMemory) ⊎ (link_cause code base symbols ≡ Some error) → (error ≡ NoMemory) ⊎ IsLinkRefused flags state f base symbols error
  link_refused error valid finished (inl short) = inl short
  link_refused error valid finished (inr cause) = inr (record { code = code; valid = valid; finished = finished; cause = cause })
