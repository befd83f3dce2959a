-- The finished code of members: each one's function, emitted.
use Rattle.std.specs.Prelude.{◌≡◌, List, [], ◌∷◌, Option, Some, None}
use Rattle.s390x_base.specs.declared.error.EmitError.{EmitError}
use Rattle.s390x_base.specs.declared.ir.ExternalName.{ExternalName}
use Rattle.s390x_buffer.specs.State.{Constant}
use Rattle.s390x_buffer.specs.declared.entries.MachBufferFinalized.{MachBufferFinalized}
use Rattle.s390x_typed_steps.specs.Ranges.{BlocksInRange}
use Rattle.s390x_typed_steps.specs.Tree.{Tree}
use Rattle.s390x_emit_int.specs.Function.{IsFinishedCode, constants_of, folded_trees_of, function_cause, trees_of}
use Rattle.s390x_bundle.specs.declared.error.BundleError.{BundleError}
use Rattle.s390x_bundle.specs.declared.error.BundleError.TheVariants.{Emit as EmitRefused, NoMemory}
use Rattle.s390x_bundle.specs.declared.member.Member.{Member}

-- the blocks of a member's function as trees, and its constants
abbrev pub trees_of_member : Member → List Tree
trees_of_member m = trees_of m.info.isa_flags m.state m.function

-- the blocks as their ends leave them
abbrev pub folded_trees_of_member : Member → List Tree
folded_trees_of_member m = folded_trees_of m.info.isa_flags m.state m.function

abbrev pub constants_of_member : Member → List Constant
constants_of_member m = constants_of m.function

-- the first cause by which emission refuses a member's function
abbrev pub emit_cause : Member → Option EmitError
emit_cause m = function_cause m.info.isa_flags (trees_of_member m) (constants_of_member m) m.state

-- emission has no cause to refuse the member's function, whose numbers lie in their ranges, and this is its finished code with its tables
pub record IsEmitted (m : Member) (f : MachBufferFinalized) : Type 0 where
  pub valid : emit_cause m ≡ None
  pub finished : IsFinishedCode (folded_trees_of_member m) (constants_of_member m) f
  pub ranges : BlocksInRange (trees_of_member m)

-- each member has its finished code, in order
abbrev pub AreEmitted : List Member → List MachBufferFinalized → Type 0
AreEmitted [] [] = Unit {0}
AreEmitted (m ∷ ms) (f ∷ fs) = IsEmitted m f × AreEmitted ms fs
AreEmitted _ _ = ⊥

-- a member whose function emission refuses, by its name, and why
pub record Refused : Type 0 where
  pub name : ExternalName
  pub error : EmitError

-- this member, where it has a cause, or else a later one
abbrev pub refused_or : ExternalName → Option EmitError → Option Refused → Option Refused
refused_or name None later = later
refused_or name (Some error) later = Some (record { name = name; error = error })

-- the first one of these members whose function emission refuses
abbrev pub first_refused : List Member → Option Refused
first_refused [] = None
first_refused (m ∷ ms) = refused_or m.name (emit_cause m) (first_refused ms)

-- the error tells this cause, or want of memory
abbrev pub HasNoCode : Option Refused → BundleError → Type 0
HasNoCode o (EmitRefused name error) = o ≡ Some (record { name = name; error = error })
HasNoCode o NoMemory = Unit {0}
HasNoCode o _ = ⊥
