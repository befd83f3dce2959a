-- From the replies of the parts to the answers.
use Rattle.std.proofs.Common.{◌≡◌, ℕ, ◌+◌, inl, inr, List, ◌++◌, Some, length, take, drop, sym, ap, ◌∙◌, subst}
use Rattle.std.specs.Prelude.{codes, ◌⊎◌}
use Rattle.std.specs.Fmt.{decimal}
use Rattle.s390x_buffer.specs.declared.entries.MachBufferFinalized.{MachBufferFinalized}
use Rattle.s390x_binary_tool.specs.CodeListing.{IsCodeListing}
use Rattle.s390x_image.specs.Causes.{link_cause}
use Rattle.s390x_image.specs.declared.error.LinkError.{LinkError}
use Rattle.s390x_image.specs.declared.error.LinkError.TheVariants as linking
use Rattle.s390x_disassembler.specs.Assembly.{IsNoSource, IsWrongSource}
use Rattle.s390x_disassembler.specs.Disassembly.{IsDisassembly, IsOnlyCode}
use Rattle.s390x_emit_int.specs.declared.image.ImageError.TheVariants.{Refused}
use Rattle.s390x_job_bundle.specs.Cut.{IsCutAt}
use Rattle.s390x_job.specs.Completions.{pieces}
use Rattle.s390x_job.specs.Errors.{IsError}
use Rattle.s390x_job.specs.Jobs.{IsJob, text_of_job}
use Rattle.s390x_job.specs.Same.{SameJob}
use Rattle.s390x_job.specs.declared.job.Job.{Job}
use Rattle.s390x_job.specs.declared.job.LineError.TheVariants.{Syntax}
use Rattle.s390x_refusal.specs.Refusal.{IsFirstRefusal}
use Rattle.s390x_refusal.specs.declared.position.Refusal.{Refusal}
use Rattle.s390x_tool.specs.Answers.{IsCodeOfJob, IsLinked, symbols_of}
use Rattle.s390x_tool.specs.Lines.{IsLinkRefusal, IsMade, line}
use Rattle.s390x_tool.specs.declared.status.Status.{Status}
use Rattle.s390x_tool.specs.declared.status.Status.TheVariants as status
use Rattle.s390x_binary_tool.specs.Assemble.{IsAssembleAnswer}
use Rattle.s390x_binary_tool.specs.Disassemble.{IsDisassembleAnswer, IsDisassembleReply, IsDisassemblyOf}
use Rattle.s390x_binary_tool.specs.ImageText.{IsImageText, IsWrongLine}
use Rattle.s390x_binary_tool.specs.Listing.{IsListAnswer, IsListReply}
use Rattle.s390x_binary_tool.specs.Made.{IsMadeReply}
use Rattle.s390x_binary_tool.specs.Refusal.{IsRefusalAnswer, IsRefusalReply, refusal_line}
use Rattle.s390x_binary_tool.specs.Verify.{IsCutJob, IsVerified, IsVerifyAnswer, IsVerifyReply}
use Rattle.s390x_binary_tool.specs.declared.status.BinaryStatus.{BinaryStatus}
use Rattle.s390x_binary_tool.specs.declared.status.BinaryStatus.TheVariants.{Shared, Differs, ObjectRefused}
use Rattle.s390x_binary_tool.proofs.Verifying.{verified, wrong_behind, wrong_job}

-- ---- `refusal`

pub refusal_memory : (j : Job) (s : BinaryStatus) (text : List ℕ) → s ≡ Shared status.NoMemory → text ≡ line (codes "no memory") → IsRefusalReply j s text
refusal_memory j s text is spelled = subst (λ t. IsRefusalReply j t text) (sym is) spelled

pub refusal_placed : (j : Job) (r : Refusal) (s : BinaryStatus) (text : List ℕ) → IsFirstRefusal j.info.isa_flags j.state j.function (Some r) → IsMadeReply (Shared status.Refused) (refusal_line r.error r.position) s text → IsRefusalReply j s text
refusal_placed j r s text h (inl made) =
    subst (λ t. IsRefusalReply j t text) (sym made.0) (record { error = r.error; position = r.position; cause = h.0; place = h.1; spelled = made.1 })
refusal_placed j r s text h (inr memory) = refusal_memory j s text memory.0 memory.1

-- the reply to the only job whose text the input is
pub refusal_answer : (input : List ℕ) (j : Job) (s : BinaryStatus) (text : List ℕ) → IsJob j → text_of_job j ≡ input → ((k : Job) → IsJob k → text_of_job k ≡ input → SameJob j k) → IsRefusalReply j s text → IsRefusalAnswer input s text
refusal_answer input j (Shared status.Ok) text is spelled one reply = record { job = j; is = is; spelled = spelled; one = one; reply = reply }
refusal_answer input j (Shared status.Refused) text is spelled one reply = record { job = j; is = is; spelled = spelled; one = one; reply = reply }
refusal_answer input j (Shared status.NoMemory) text is spelled one reply = reply
refusal_answer input j s text is spelled one reply = absurd reply

-- ---- `verify`

-- the reply to the only job and bytes that the input tells
pub verify_answer : (base : ℕ) (input : List ℕ) (s : BinaryStatus) (text : List ℕ) (v : IsVerified base input s text) → IsVerifyAnswer base input s text
verify_answer base input Differs text v = v
verify_answer base input ObjectRefused text v = v
verify_answer base input (Shared status.Syntax) text v = absurd v.reply
verify_answer base input (Shared status.NoMemory) text v = v.reply
verify_answer base input (Shared s) text v = v

-- ---- texts that are none

pub verify_no_memory : (base : ℕ) (input : List ℕ) (s : BinaryStatus) (text : List ℕ) → s ≡ Shared status.NoMemory → text ≡ line (codes "no memory") → IsVerifyAnswer base input s text
verify_no_memory base input s text is spelled = subst (λ t. IsVerifyAnswer base input t text) (sym is) spelled

-- the job's part is no job's text
pub verify_job_syntax : (base : ℕ) (input : List ℕ) (size n : ℕ) (first : Status) (s : BinaryStatus) (text : List ℕ) → IsCutAt input size → IsError (take size input) (Syntax n) → IsMade status.Syntax (line (codes "syntax " ++ decimal n)) first text → s ≡ Shared first → IsVerifyAnswer base input s text
verify_job_syntax base input size n first s text cut e (inl made) is =
    subst (λ t. IsVerifyAnswer base input t text) (sym (is ∙ ap Shared made.0)) (wrong_job input text size n cut e.0 e.1 made.1)
verify_job_syntax base input size n first s text cut e (inr memory) is = verify_no_memory base input s text (is ∙ ap Shared memory.0) memory.1

-- what stands behind it writes no bytes
pub verify_image_syntax : (base : ℕ) (input : List ℕ) (size lines number n : ℕ) (j : Job) (first : Status) (s : BinaryStatus) (text : List ℕ) → IsCutJob input size j → IsWrongLine (drop size input) number → lines ≡ length (pieces (take size input)) → n ≡ lines + number → IsMade status.Syntax (line (codes "syntax " ++ decimal n)) first text → s ≡ Shared first → IsVerifyAnswer base input s text
verify_image_syntax base input size lines number n j first s text c wrong count sum (inl made) is =
    subst (λ t. IsVerifyAnswer base input t text) (sym (is ∙ ap Shared made.0))
    (wrong_behind input text size number j c wrong (made.1 ∙ ap (λ k. line (codes "syntax " ++ decimal k)) (sum ∙ ap (λ k. k + number) count)))
verify_image_syntax base input size lines number n j first s text c wrong count sum (inr memory) is = verify_no_memory base input s text (is ∙ ap Shared memory.0) memory.1

-- the reply to a job and the bytes behind it
pub verify_reply_answer : (base : ℕ) (input : List ℕ) (size : ℕ) (j : Job) (given : List ℕ) (s : BinaryStatus) (text : List ℕ) → IsCutJob input size j → IsImageText (drop size input) given → IsVerifyReply base j given s text → IsVerifyAnswer base input s text
verify_reply_answer base input size j given s text c hex reply = verify_answer base input s text (verified base input size j given s text c hex reply)

-- ---- `disassemble`

pub disassemble_text : (base : ℕ) (code : List ℕ) (told : List ℕ) (s : BinaryStatus) (text : List ℕ) → IsDisassembly base code told → IsOnlyCode base code told → s ≡ Shared status.Ok → text ≡ told → IsDisassembleReply base code s text
disassemble_text base code told s text is only ok spelled =
    subst (λ t. IsDisassembleReply base code t text) (sym ok) (subst (IsDisassemblyOf base code) (sym spelled) (is, only))

-- the reply to the code that the input writes
pub disassemble_answer : (base : ℕ) (input code : List ℕ) (s : BinaryStatus) (text : List ℕ) → IsImageText input code → IsDisassembleReply base code s text → IsDisassembleAnswer base input s text
disassemble_answer base input code (Shared status.Ok) text hex reply = record { code = code; hex = hex; is = reply }
disassemble_answer base input code (Shared status.NoMemory) text hex reply = reply
disassemble_answer base input code s text hex reply = absurd reply

-- ---- `list`

pub list_memory : (base : ℕ) (j : Job) (s : BinaryStatus) (text : List ℕ) → s ≡ Shared status.NoMemory → text ≡ line (codes "no memory") → IsListReply base j s text
list_memory base j s text is spelled = subst (λ t. IsListReply base j t text) (sym is) spelled

pub list_text : (base : ℕ) (j : Job) (code : MachBufferFinalized) (bytes made : List ℕ) (s : BinaryStatus) (text : List ℕ)
    → IsCodeOfJob j code → IsLinked base j code bytes → IsCodeListing j.info.isa_flags j.state j.function.blocks.items code base bytes made
    → s ≡ Shared status.Ok → text ≡ made → IsListReply base j s text
list_text base j code bytes made s text is image listing ok spelled =
    subst (λ t. IsListReply base j t text) (sym ok)
    (record { code = code; is = is; bytes = bytes; image = image; listing = subst (IsCodeListing j.info.isa_flags j.state j.function.blocks.items code base bytes) (sym spelled) listing })

pub list_unlinked : (base : ℕ) (j : Job) (code : MachBufferFinalized) (e : LinkError) (first : Status) (s : BinaryStatus) (text : List ℕ)
    → IsCodeOfJob j code → (e ≡ linking.NoMemory) ⊎ (link_cause code base (symbols_of j) ≡ Some e) → IsLinkRefusal e first text → s ≡ Shared first → IsListReply base j s text
list_unlinked base j code e first s text of (inl memory) (inl named) is = absurd (named.0 memory)
list_unlinked base j code e first s text of (inr cause) (inl named) is =
    subst (λ t. IsListReply base j t text) (sym (is ∙ ap Shared named.1)) (record { code = code; is = of; error = e; cause = cause; spelled = named.2 })
list_unlinked base j code e first s text of why (inr memory) is = list_memory base j s text (is ∙ ap Shared memory.1) memory.2

-- the reply to the only job whose text the input is
pub list_answer : (base : ℕ) (input : List ℕ) (j : Job) (s : BinaryStatus) (text : List ℕ) → IsJob j → text_of_job j ≡ input → ((k : Job) → IsJob k → text_of_job k ≡ input → SameJob j k) → IsListReply base j s text → IsListAnswer base input s text
list_answer base input j (Shared status.Ok) text is spelled one reply = record { job = j; is = is; spelled = spelled; one = one; reply = reply }
list_answer base input j (Shared status.Refused) text is spelled one reply = record { job = j; is = is; spelled = spelled; one = one; reply = reply }
list_answer base input j (Shared status.LinkRefused) text is spelled one reply = record { job = j; is = is; spelled = spelled; one = one; reply = reply }
list_answer base input j (Shared status.NoMemory) text is spelled one reply = reply
list_answer base input j s text is spelled one reply = absurd reply

-- ---- `assemble`

pub assemble_no_memory : (base : ℕ) (input : List ℕ) (s : BinaryStatus) (text : List ℕ) → s ≡ Shared status.NoMemory → text ≡ line (codes "no memory") → IsAssembleAnswer base input s text
assemble_no_memory base input s text is spelled = subst (λ t. IsAssembleAnswer base input t text) (sym is) spelled

pub assemble_syntax : (base : ℕ) (input : List ℕ) (n : ℕ) (s : BinaryStatus) (text : List ℕ) → IsNoSource base input → IsWrongSource base input n → IsMadeReply (Shared status.Syntax) (line (codes "syntax " ++ decimal n)) s text → IsAssembleAnswer base input s text
assemble_syntax base input n s text none wrong (inl made) =
    subst (λ t. IsAssembleAnswer base input t text) (sym made.0) (record { number = n; none = none; wrong = wrong; spelled = made.1 })
assemble_syntax base input n s text none wrong (inr memory) = assemble_no_memory base input s text memory.0 memory.1
