-- What is told as the object of several functions.
use Rattle.std.specs.Prelude.{◌≡◌, ◌≢◌, ℕ, List, [], ◌∷◌, codes, map, Some, None, string_bytes}
use Rattle.s390x_bundle.specs.Bundled.{duplicate_of}
use Rattle.s390x_bundle.specs.Emitted.{IsEmitted, first_refused}
use Rattle.s390x_bundle.specs.declared.error.BundleError.{BundleError}
use Rattle.s390x_bundle.specs.declared.error.BundleError.TheVariants as cause
use Rattle.s390x_bundle.specs.declared.member.Member.{Member}
use Rattle.s390x_job_bundle.specs.Text.{AreFunctionsOf}
use Rattle.s390x_job_bundle.specs.declared.named_job.NamedJob.{NamedJob}
use Rattle.s390x_elf.specs.Members.{IsLinkedAsMembers, IsObjectOfMembers, members_cause}
use Rattle.s390x_elf.specs.Names.{symbol_name}
use Rattle.s390x_elf.specs.declared.error.ObjectError.{ObjectError}
use Rattle.s390x_elf.specs.declared.members.ObjectMember.{ObjectMember}
use Rattle.s390x_bundle.specs.Members.{member_of}
use Rattle.s390x_tool.specs.Bundled.{IsBundleSyntax, refusal_of_bundle}
use Rattle.s390x_tool.specs.Lines.{line}
use Rattle.s390x_tool.specs.declared.status.Status.TheVariants as status
use Rattle.s390x_binary_tool.specs.Object.{object_line}
use Rattle.s390x_binary_tool.specs.declared.status.BinaryStatus.{BinaryStatus}
use Rattle.s390x_binary_tool.specs.declared.status.BinaryStatus.TheVariants.{Shared, ObjectRefused}

-- a member is called in the object as the others call it, `u7`, and has its finished code there, which emission has no cause to refuse
pub record IsObjectMember (m : Member) (o : ObjectMember) : Type 0 where
  pub named : string_bytes o.name ≡ symbol_name m.name
  pub emitted : IsEmitted m o.code

-- each member is so, in order
abbrev pub AreObjectMembers : List Member → List ObjectMember → Type 0
AreObjectMembers [] [] = Unit {0}
AreObjectMembers [] (o ∷ os) = ⊥
AreObjectMembers (m ∷ ms) [] = ⊥
AreObjectMembers (m ∷ ms) (o ∷ os) = IsObjectMember m o × AreObjectMembers ms os

-- No name comes twice, and a reader of ELF finds in the file the object of the members' finished codes, one behind the other as in a bundle; at every base where linking
-- has no cause to refuse a member at its start, each relocation's value fits its field, and the ABI's formulas give each member's image there
pub record IsObjectsFile (members : List Member) (file : List ℕ) : Type 0 where
  pub objects : List ObjectMember
  pub names : duplicate_of members ≡ None
  pub are : AreObjectMembers members objects
  pub accepted : members_cause [] objects ≡ None
  pub object : IsObjectOfMembers [] objects file
  pub linked : IsLinkedAsMembers [] objects file

-- the first cause by which the members have no finished codes: of the names, of the emission of each
abbrev pub HasNoCodes : List Member → BundleError → Type 0
HasNoCodes members (cause.DuplicateName name) = duplicate_of members ≡ Some name
HasNoCodes members (cause.Emit name error) = (duplicate_of members ≡ None) × (first_refused members ≡ Some (record { name = name; error = error }))
HasNoCodes members cause.NoMemory = Unit {0}
HasNoCodes members e = ⊥

-- the members have no finished codes, by the first cause, which is told as `bundle` tells it
pub record IsUncoded (members : List Member) (text : List ℕ) : Type 0 where
  pub error : BundleError
  pub named : error ≢ cause.NoMemory
  pub cause : HasNoCodes members error
  pub spelled : text ≡ line (refusal_of_bundle error)

-- no name comes twice, emission has no cause to refuse a member, and their codes are not made an object, by the first cause
pub record AreNoObject (members : List Member) (text : List ℕ) : Type 0 where
  pub objects : List ObjectMember
  pub names : duplicate_of members ≡ None
  pub are : AreObjectMembers members objects
  pub error : ObjectError
  pub cause : members_cause [] objects ≡ Some error
  pub spelled : text ≡ object_line error

-- the reply to members
abbrev pub IsObjectsReply : List Member → BinaryStatus → List ℕ → Type 0
IsObjectsReply members (Shared status.Ok) text = IsObjectsFile members text
IsObjectsReply members (Shared status.BundleRefused) text = IsUncoded members text
IsObjectsReply members ObjectRefused text = AreNoObject members text
IsObjectsReply members (Shared status.NoMemory) text = text ≡ line (codes "no memory")
IsObjectsReply members s text = ⊥

-- the input is the text of functions, the only ones, and this is the reply to them
pub record IsOfFunctions (Reply : List Member → Type 0) (input : List ℕ) : Type 0 where
  pub functions : List NamedJob
  pub are : AreFunctionsOf input functions
  pub reply : Reply (map member_of functions)

-- the answer to `objects` and its whole input
abbrev pub IsObjectsAnswer : List ℕ → BinaryStatus → List ℕ → Type 0
IsObjectsAnswer input (Shared status.Syntax) text = IsBundleSyntax input text
IsObjectsAnswer input (Shared status.NoMemory) text = text ≡ line (codes "no memory")
IsObjectsAnswer input s text = IsOfFunctions (λ members. IsObjectsReply members s text) input
