-- From the object of a job's code to the answer to `object`.
use Rattle.std.proofs.Common.{◌≡◌, ◌⊎◌, inl, inr, ℕ, List, Some, None, sym, subst}
use Rattle.std.specs.Prelude.{codes}
use Rattle.s390x_buffer.specs.declared.entries.MachBufferFinalized.{MachBufferFinalized}
use Rattle.s390x_elf.specs.Causes.{object_cause}
use Rattle.s390x_elf.specs.Object.{IsLinkedAsImage, IsObject}
use Rattle.s390x_elf.specs.declared.error.ObjectError.{ObjectError}
use Rattle.s390x_elf.specs.declared.error.ObjectError.TheVariants as kind
use Rattle.s390x_emit_int.proofs.FunctionImage.{image_of}
use Rattle.s390x_job.specs.Jobs.{IsJob, text_of_job}
use Rattle.s390x_job.specs.Same.{SameJob}
use Rattle.s390x_job.specs.declared.job.Job.{Job}
use Rattle.s390x_tool.specs.Answers.{IsCodeOfJob}
use Rattle.s390x_tool.specs.Lines.{line}
use Rattle.s390x_tool.specs.declared.status.Status.TheVariants as status
use Rattle.s390x_binary_tool.specs.Object.{IsObjectAnswer, IsObjectRefusal, IsObjectReply, RunsWhereLinked}
use Rattle.s390x_binary_tool.specs.declared.status.BinaryStatus.{BinaryStatus}
use Rattle.s390x_binary_tool.specs.declared.status.BinaryStatus.TheVariants.{Shared, ObjectRefused}

-- linked at any address, the object runs as typed
runs_where_linked : (name : List ℕ) (j : Job) (code : MachBufferFinalized) (file : List ℕ) → IsCodeOfJob j code → IsLinkedAsImage name code file → RunsWhereLinked name j code file
runs_where_linked name j code file is linked = λ base others table agrees none.
    let at = linked base others table agrees none in
    (at.0, image_of j.info.isa_flags j.state j.function base table code _ is.valid is.emitted is.ranges none at.1)

pub object_memory : (name : List ℕ) (j : Job) (s : BinaryStatus) (text : List ℕ) → s ≡ Shared status.NoMemory → text ≡ line (codes "no memory") → IsObjectReply name j s text
object_memory name j s text is spelled = subst (λ t. IsObjectReply name j t text) (sym is) spelled

pub object_file : (name : List ℕ) (j : Job) (code : MachBufferFinalized) (file : List ℕ) (s : BinaryStatus) (text : List ℕ) → IsCodeOfJob j code → object_cause name code ≡ None → IsObject name code file → IsLinkedAsImage name code file
    → s ≡ Shared status.Ok → text ≡ file → IsObjectReply name j s text
object_file name j code file s text is named object linked ok spelled =
    subst (λ t. IsObjectReply name j t text) (sym ok)
    (subst (λ t. IsObjectReply name j (Shared status.Ok) t) (sym spelled)
    (record { code = code; is = is; named = named; object = object; runs = runs_where_linked name j code file is linked }))

pub object_none : (name : List ℕ) (j : Job) (code : MachBufferFinalized) (e : ObjectError) (s : BinaryStatus) (text : List ℕ) → IsCodeOfJob j code → (e ≡ kind.NoMemory) ⊎ (object_cause name code ≡ Some e) → IsObjectRefusal e s text → IsObjectReply name j s text
object_none name j code e s text is (inl memory) (inl named) = absurd (named.0 memory)
object_none name j code e s text is (inr cause) (inl named) =
    subst (λ t. IsObjectReply name j t text) (sym named.1) (record { code = code; is = is; error = e; cause = cause; spelled = named.2 })
object_none name j code e s text is why (inr memory) = object_memory name j s text memory.1 memory.2

-- the reply to the only job whose text the input is
pub object_answer : (name input : List ℕ) (j : Job) (s : BinaryStatus) (text : List ℕ) → IsJob j → text_of_job j ≡ input → ((k : Job) → IsJob k → text_of_job k ≡ input → SameJob j k) → IsObjectReply name j s text → IsObjectAnswer name input s text
object_answer name input j ObjectRefused text is spelled one reply = record { job = j; is = is; spelled = spelled; one = one; reply = reply }
object_answer name input j (Shared status.Ok) text is spelled one reply = record { job = j; is = is; spelled = spelled; one = one; reply = reply }
object_answer name input j (Shared status.Refused) text is spelled one reply = record { job = j; is = is; spelled = spelled; one = one; reply = reply }
object_answer name input j (Shared status.NoMemory) text is spelled one reply = reply
object_answer name input j s text is spelled one reply = absurd reply
