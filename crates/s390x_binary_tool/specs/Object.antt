-- What is told as the object of a job.
use Rattle.std.specs.Prelude.{◌≡◌, ◌≢◌, ◌⊎◌, ℕ, List, [], ◌++◌, codes, Some, None, true}
use Rattle.std.specs.List.{All}
use Rattle.s390x_buffer.specs.declared.entries.MachBufferFinalized.{MachBufferFinalized}
use Rattle.s390x_image.specs.Causes.{link_cause}
use Rattle.s390x_image.specs.Symbols.{Symbols}
use Rattle.s390x_elf.specs.Causes.{object_cause}
use Rattle.s390x_elf.specs.File.{sections}
use Rattle.s390x_elf.specs.Linking.{fits_at, linked_text}
use Rattle.s390x_elf.specs.Names.{name_in}
use Rattle.s390x_elf.specs.Object.{Agrees, IsObject, name_address, whole_function}
use Rattle.s390x_elf.specs.Symbols.{Relocation, relocations_for}
use Rattle.s390x_elf.specs.declared.error.ObjectError.{ObjectError}
use Rattle.s390x_elf.specs.declared.error.ObjectError.TheVariants as kind
use Rattle.s390x_emit_int.specs.FunctionImage.{IsImageOf}
use Rattle.s390x_job.specs.declared.job.Job.{Job}
use Rattle.s390x_tool.specs.Answers.{IsCodeOfJob, IsRefused, IsSyntax}
use Rattle.s390x_tool.specs.Lines.{line}
use Rattle.s390x_tool.specs.declared.status.Status.TheVariants as status
use Rattle.s390x_binary_tool.specs.OneJob.{IsOneJob}
use Rattle.s390x_binary_tool.specs.declared.status.BinaryStatus.{BinaryStatus}
use Rattle.s390x_binary_tool.specs.declared.status.BinaryStatus.TheVariants.{Shared, ObjectRefused}

-- Linked at any address, it runs as typed: at every base and with every assignment of addresses to the names that the object doesn't define, where linking has no
-- cause to refuse the code, each relocation's value fits its field, and the text with the relocations applied by the ABI's formulas is the function's image there, so
-- that a machine which fetches it does only what the typed instructions allow
abbrev pub RunsWhereLinked : (name : List ℕ) → Job → MachBufferFinalized → (file : List ℕ) → Type 0
RunsWhereLinked name j code file =
    (base : ℕ) (others : List ℕ → ℕ) (table : Symbols) → Agrees (name_in []) (name_address base others (whole_function name code)) table code.relocs.items → link_cause code base table ≡ None →
    All (λ (r : Relocation). fits_at base others r ≡ true) (relocations_for (sections file) (codes ".text")) × IsImageOf j.info.isa_flags j.state j.function base table (linked_text file base others)

-- a reader of ELF finds in the file the object of the job's finished code with its function by this name, and linked at any address it runs as typed
pub record IsObjectFile (name : List ℕ) (j : Job) (file : List ℕ) : Type 0 where
  pub code : MachBufferFinalized
  pub is : IsCodeOfJob j code
  pub named : object_cause name code ≡ None
  pub object : IsObject name code file
  pub runs : RunsWhereLinked name j code file

-- the name of a cause
abbrev pub object_error_name : ObjectError → List ℕ
object_error_name kind.EmptyName = codes "EmptyName"
object_error_name kind.ZeroByte = codes "ZeroByte"
object_error_name kind.DuplicateName = codes "DuplicateName"
object_error_name kind.EmptyMember = codes "EmptyMember"
object_error_name kind.TooLong = codes "TooLong"
object_error_name kind.NoMemory = codes "NoMemory"

-- the line of a cause
abbrev pub object_line : ObjectError → List ℕ
object_line error = line (codes "object " ++ object_error_name error)

-- the reply to a cause, which want of memory is too
abbrev pub IsObjectRefusal : ObjectError → BinaryStatus → List ℕ → Type 0
IsObjectRefusal e s text =
    ((e ≢ kind.NoMemory) × (s ≡ ObjectRefused) × (text ≡ object_line e))
    ⊎ ((e ≡ kind.NoMemory) × (s ≡ Shared status.NoMemory) × (text ≡ line (codes "no memory")))

-- emission has no cause to refuse the job, and its code is not made an object, by the first cause
pub record IsNoObject (name : List ℕ) (j : Job) (text : List ℕ) : Type 0 where
  pub code : MachBufferFinalized
  pub is : IsCodeOfJob j code
  pub error : ObjectError
  pub cause : object_cause name code ≡ Some error
  pub spelled : text ≡ object_line error

-- the reply to a job
abbrev pub IsObjectReply : (name : List ℕ) → Job → BinaryStatus → List ℕ → Type 0
IsObjectReply name j (Shared status.Ok) text = IsObjectFile name j text
IsObjectReply name j (Shared status.Refused) text = IsRefused j text
IsObjectReply name j ObjectRefused text = IsNoObject name j text
IsObjectReply name j (Shared status.NoMemory) text = text ≡ line (codes "no memory")
IsObjectReply name j s text = ⊥

-- the answer to `object` with this name, and its whole input
abbrev pub IsObjectAnswer : (name : List ℕ) → List ℕ → BinaryStatus → List ℕ → Type 0
IsObjectAnswer name input (Shared status.Syntax) text = IsSyntax input text
IsObjectAnswer name input (Shared status.NoMemory) text = text ≡ line (codes "no memory")
IsObjectAnswer name input s text = IsOneJob (λ j. IsObjectReply name j s text) input
