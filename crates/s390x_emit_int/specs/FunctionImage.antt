-- The image of a function at a base, and why it has none.
use Rattle.std.specs.Prelude.{◌≡◌, ℕ, ◌⊎◌, List, Some, None}
use Rattle.s390x_base.specs.declared.error.EmitError.TheVariants.{NoMemory}
use Rattle.s390x_inst.specs.Emission.{Emission}
use Rattle.s390x_inst.specs.declared.function.AllocatedFunction.{AllocatedFunction}
use Rattle.s390x_inst.specs.declared.state.IsaFlags.{IsaFlags}
use Rattle.s390x_buffer.specs.declared.entries.MachBufferFinalized.{MachBufferFinalized}
use Rattle.s390x_image.specs.Causes.{link_cause}
use Rattle.s390x_image.specs.Symbols.{Symbols}
use Rattle.s390x_image.specs.declared.error.LinkError.{LinkError}
use Rattle.s390x_image.specs.declared.error.LinkError.TheVariants as link
use Rattle.s390x_emit_int.specs.Function.{IsFinishedCode, constants_of, folded_trees_of, function_cause, trees_of}
use Rattle.s390x_emit_int.specs.Headline.{RunsAsTyped, linked_image}
use Rattle.s390x_emit_int.specs.declared.image.ImageError.{ImageError}
use Rattle.s390x_emit_int.specs.declared.image.ImageError.TheVariants.{Refused, Link}

-- Neither emission nor linking has a cause to refuse the function, and these are the bytes of its code, linked at the base with these symbols. A machine
-- that fetches them there does only what the function's instructions allow
pub record IsImageOf (flags : IsaFlags) (state : Emission) (f : AllocatedFunction) (base : ℕ) (symbols : Symbols) (bytes : List ℕ) : Type 0 where
  pub code : MachBufferFinalized
  pub valid : function_cause flags (trees_of flags state f) (constants_of f) state ≡ None
  pub finished : IsFinishedCode (folded_trees_of flags state f) (constants_of f) code
  pub linked : link_cause code base symbols ≡ None
  pub is : bytes ≡ (linked_image code base symbols).bytes
  pub runs : RunsAsTyped symbols (folded_trees_of flags state f) (constants_of f) (record { base = base; bytes = bytes })

-- emission has no cause to refuse the function, and linking refuses its code by this cause
pub record IsLinkRefused (flags : IsaFlags) (state : Emission) (f : AllocatedFunction) (base : ℕ) (symbols : Symbols) (error : LinkError) : Type 0 where
  pub code : MachBufferFinalized
  pub valid : function_cause flags (trees_of flags state f) (constants_of f) state ≡ None
  pub finished : IsFinishedCode (folded_trees_of flags state f) (constants_of f) code
  pub cause : link_cause code base symbols ≡ Some error

-- the first cause by which the function has no image, or want of memory
abbrev pub HasNoImage : IsaFlags → Emission → AllocatedFunction → (base : ℕ) → Symbols → ImageError → Type 0
HasNoImage flags state f base symbols (Refused error) = (error ≡ NoMemory) ⊎ (function_cause flags (trees_of flags state f) (constants_of f) state ≡ Some error)
HasNoImage flags state f base symbols (Link error) = (error ≡ link.NoMemory) ⊎ IsLinkRefused flags state f base symbols error
