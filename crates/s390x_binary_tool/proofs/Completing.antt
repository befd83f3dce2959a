-- What nothing refuses is done, unless memory doesn't suffice.
use Rattle.std.proofs.Common.{◌≡◌, ℕ, ◌⊎◌, inl, inr, List, length, map, refl, sym, ap, ◌∙◌, arith, subst, Some, None}
use Rattle.std.specs.Prelude.{Option}
use Rattle.s390x_buffer.specs.declared.entries.MachBufferFinalized.{MachBufferFinalized}
use Rattle.s390x_buffer.specs.declared.entries.RelocEntry.{RelocEntry}
use Rattle.s390x_emit_int.specs.Function.{IsFinishedCode, constants_of, folded_trees_of}
use Rattle.s390x_image.specs.Causes.{base_cause, first_link_cause, link_cause, relocs_cause}
use Rattle.s390x_image.specs.Fields.{with_fields_filled}
use Rattle.s390x_image.specs.Symbols.{Symbols, no_symbols}
use Rattle.s390x_image.specs.declared.error.LinkError.{LinkError}
use Rattle.s390x_job.specs.Jobs.{IsJob}
use Rattle.s390x_job.specs.Same.{SameJob}
use Rattle.s390x_job.specs.declared.job.Job.{Job}
use Rattle.s390x_binary_tool.specs.Words.{IsForm}
use Rattle.s390x_binary_tool.specs.declared.words.Command.{Command}
use Rattle.s390x_binary_tool.specs.declared.words.Command.TheVariants.{Refusal, Verify, Disassemble, Assemble, Listing, Object, Objects}
use Rattle.s390x_binary_tool.proofs.Told.{same_command}
use Rattle.s390x_bundle.specs.Table.{with_lines}
use Rattle.s390x_tool.specs.Answers.{IsCodeOfJob, IsImageAt, symbols_of}
use Rattle.s390x_bundle.specs.Members.{member_of}
use Rattle.s390x_tool.specs.Causes.{FaultCountRose}
use Rattle.s390x_tool.specs.Replies.{CallContext}
use Rattle.s390x_tool.specs.declared.status.Status.TheVariants as status
use Rattle.s390x_tool.proofs.Completing.{read_less, read_whole}
use Rattle.s390x_tool.proofs.SameJob.{same_cause, same_code, same_symbols}
use Rattle.s390x_tool.proofs.SameMembers.{same_duplicate, same_refused}
use Rattle.s390x_binary_tool.proofs.Joining.{coded, same_objects}
use Rattle.s390x_binary_tool.specs.Accepted.{AreObjectFunctions, IsAccepted, IsHexCode, IsJobWithImage, IsLinkableJob, IsObjectJob, IsSomeSource, IsUnrefused, IsValidJob}
use Rattle.s390x_binary_tool.specs.Assemble.{IsAssembleAnswer}
use Rattle.s390x_binary_tool.specs.Disassemble.{IsDisassembleAnswer}
use Rattle.s390x_binary_tool.specs.Listing.{IsListAnswer}
use Rattle.s390x_binary_tool.specs.Object.{IsObjectAnswer}
use Rattle.s390x_binary_tool.specs.Objects.{IsObjectsAnswer}
use Rattle.s390x_binary_tool.specs.Refusal.{IsRefusalAnswer}
use Rattle.s390x_binary_tool.specs.Replies.{IsAnswered, IsDelivered, IsInputAnswer, IsReply}
use Rattle.s390x_binary_tool.specs.Verify.{IsJobImage, IsVerifyAnswer}
use Rattle.s390x_binary_tool.specs.declared.status.BinaryStatus.{BinaryStatus}
use Rattle.s390x_binary_tool.specs.declared.status.BinaryStatus.TheVariants.{Shared, Differs, ObjectRefused}

-- done, or out of memory
abbrev pub IsDoneStatus : BinaryStatus → Type 0
IsDoneStatus s = (s ≡ Shared status.Ok) ⊎ (s ≡ Shared status.NoMemory)

no_cause : {E : Type 0} (o : Option E) (e : E) → o ≡ None → o ≡ Some e → ⊥
no_cause o e none some = let clash = sym none ∙ some in absurd cc

-- ---- jobs with the same lines

same_table : (j k : Job) → IsJob j → IsJob k → SameJob j k → symbols_of j ≡ symbols_of k
same_table j k a b e = ap (with_lines no_symbols) (same_symbols j k a b e)

-- a code of one is a finished code of the other
moved : (j k : Job) (code : MachBufferFinalized) → IsJob j → IsJob k → SameJob j k → IsCodeOfJob k code → IsFinishedCode (folded_trees_of j.info.isa_flags j.state j.function) (constants_of j.function) code
moved j k code a b e h = (same_code k j code b a (sym e) h).emitted

-- two finished codes of one function are linked to the same bytes
same_bytes : (j : Job) (base : ℕ) (table : Symbols) (f g : MachBufferFinalized)
    → IsFinishedCode (folded_trees_of j.info.isa_flags j.state j.function) (constants_of j.function) f → IsFinishedCode (folded_trees_of j.info.isa_flags j.state j.function) (constants_of j.function) g
    → with_fields_filled base table f.relocs.items f.bytes.items ≡ with_fields_filled base table g.relocs.items g.bytes.items
same_bytes j base table f g x y =
    ap (λ rs. with_fields_filled base table rs f.bytes.items) (x.relocs ∙ sym y.relocs) ∙ ap (with_fields_filled base table g.relocs.items) (x.bytes ∙ sym y.bytes)

-- and linking has the same cause to refuse them
abbrev cause_by : (base : ℕ) (table : Symbols) (alignment : ℕ) (bytes : List ℕ) (rs : List RelocEntry) → Option LinkError
cause_by base table alignment bytes rs = first_link_cause (base_cause alignment (length bytes) base) (relocs_cause base table rs)

same_link_cause : (j : Job) (base : ℕ) (table : Symbols) (f g : MachBufferFinalized)
    → IsFinishedCode (folded_trees_of j.info.isa_flags j.state j.function) (constants_of j.function) f → IsFinishedCode (folded_trees_of j.info.isa_flags j.state j.function) (constants_of j.function) g
    → link_cause f base table ≡ link_cause g base table
same_link_cause j base table f g x y =
    ap (λ n. cause_by base table n f.bytes.items f.relocs.items) (x.alignment ∙ sym y.alignment)
    ∙ ap (λ bs. cause_by base table g.alignment bs f.relocs.items) (x.bytes ∙ sym y.bytes)
    ∙ ap (cause_by base table g.alignment g.bytes.items) (x.relocs ∙ sym y.relocs)

-- their images are the same
one_image : (base : ℕ) (j k : Job) (bytes given : List ℕ) → IsJob j → IsJob k → SameJob j k → IsJobImage base j bytes → IsImageAt base k given → bytes ≡ given
one_image base j k bytes given a b e x y =
    x.is
    ∙ same_bytes j base (symbols_of j) x.code y.code x.finished (moved j k y.code a b e y.is)
    ∙ ap (λ table. with_fields_filled base table y.code.relocs.items y.code.bytes.items) (same_table j k a b e)
    ∙ sym y.filled

-- where one has an image, linking has no cause to refuse a code of the other
linked_too : (base : ℕ) (j k : Job) (bytes : List ℕ) (code : MachBufferFinalized) → IsJob j → IsJob k → SameJob j k → IsImageAt base k bytes
    → IsFinishedCode (folded_trees_of j.info.isa_flags j.state j.function) (constants_of j.function) code → link_cause code base (symbols_of j) ≡ None
linked_too base j k bytes code a b e y finished =
    same_link_cause j base (symbols_of j) code y.code finished (moved j k y.code a b e y.is)
    ∙ ap (link_cause y.code base) (same_table j k a b e)
    ∙ y.linked

-- ---- each command

refusal_done : (input : List ℕ) (s : BinaryStatus) (text : List ℕ) → IsValidJob input → IsRefusalAnswer input s text → IsDoneStatus s
refusal_done input (Shared status.Ok) text v a = inl refl
refusal_done input (Shared status.NoMemory) text v a = inr refl
refusal_done input (Shared status.Syntax) text v a = absurd (a.no_job v.job v.is v.spelled)
refusal_done input (Shared status.Refused) text v a =
    let same = a.one v.job v.is v.spelled in
    absurd (no_cause _ a.reply.error (same_cause a.job v.job a.is v.is same ∙ v.valid) a.reply.cause)
refusal_done input s text v a = absurd a.reply

verify_done : (base : ℕ) (input : List ℕ) (s : BinaryStatus) (text : List ℕ) → IsJobWithImage base input → IsVerifyAnswer base input s text → IsDoneStatus s
verify_done base input Differs text v a =
    let one = a.one v.job v.given v.are in
    let same = one_image base a.job v.job a.reply.bytes v.given a.are.is v.are.is one.0 a.reply.image v.image in
    absurd (a.reply.other (subst (IsJobImage base a.job) (same ∙ one.1) a.reply.image))
verify_done base input (Shared status.Ok) text v a = inl refl
verify_done base input (Shared status.NoMemory) text v a = inr refl
verify_done base input (Shared status.Syntax) text v a = absurd (a.none v.job v.given v.are)
verify_done base input (Shared status.Refused) text v a =
    let one = a.one v.job v.given v.are in
    absurd (no_cause _ a.reply.error (same_cause a.job v.job a.are.is v.are.is one.0 ∙ v.image.is.valid) a.reply.cause)
verify_done base input (Shared status.LinkRefused) text v a =
    let one = a.one v.job v.given v.are in
    let why = a.reply.cause in
    absurd (no_cause _ a.reply.error (linked_too base a.job v.job v.given why.code a.are.is v.are.is one.0 v.image why.finished) why.cause)
verify_done base input s text v a = absurd a.reply

disassemble_done : (base : ℕ) (input : List ℕ) (s : BinaryStatus) (text : List ℕ) → IsHexCode input → IsDisassembleAnswer base input s text → IsDoneStatus s
disassemble_done base input (Shared status.Ok) text v a = inl refl
disassemble_done base input (Shared status.NoMemory) text v a = inr refl
disassemble_done base input (Shared status.Syntax) text v a = absurd (a.wrong.none v.code v.hex)
disassemble_done base input s text v a = absurd a

assemble_done : (base : ℕ) (input : List ℕ) (s : BinaryStatus) (text : List ℕ) → IsSomeSource base input → IsAssembleAnswer base input s text → IsDoneStatus s
assemble_done base input (Shared status.Ok) text v a = inl refl
assemble_done base input (Shared status.NoMemory) text v a = inr refl
assemble_done base input (Shared status.Syntax) text v a = absurd (a.none v.code v.bytes v.is)
assemble_done base input s text v a = absurd a

list_done : (base : ℕ) (input : List ℕ) (s : BinaryStatus) (text : List ℕ) → IsLinkableJob base input → IsListAnswer base input s text → IsDoneStatus s
list_done base input (Shared status.Ok) text v a = inl refl
list_done base input (Shared status.NoMemory) text v a = inr refl
list_done base input (Shared status.Syntax) text v a = absurd (a.no_job v.valid.job v.valid.is v.valid.spelled)
list_done base input (Shared status.Refused) text v a =
    let same = a.one v.valid.job v.valid.is v.valid.spelled in
    absurd (no_cause _ a.reply.error (same_cause a.job v.valid.job a.is v.valid.is same ∙ v.valid.valid) a.reply.cause)
list_done base input (Shared status.LinkRefused) text v a =
    let same = a.one v.valid.job v.valid.is v.valid.spelled in
    let none = ap (link_cause a.reply.code base) (same_table a.job v.valid.job a.is v.valid.is same) ∙ v.links a.reply.code (same_code a.job v.valid.job a.reply.code a.is v.valid.is same a.reply.is) in
    absurd (no_cause _ a.reply.error none a.reply.cause)
list_done base input s text v a = absurd a.reply

object_done : (name input : List ℕ) (s : BinaryStatus) (text : List ℕ) → IsObjectJob name input → IsObjectAnswer name input s text → IsDoneStatus s
object_done name input ObjectRefused text v a =
    let same = a.one v.valid.job v.valid.is v.valid.spelled in
    absurd (no_cause _ a.reply.error (v.named a.reply.code (same_code a.job v.valid.job a.reply.code a.is v.valid.is same a.reply.is)) a.reply.cause)
object_done name input (Shared status.Ok) text v a = inl refl
object_done name input (Shared status.NoMemory) text v a = inr refl
object_done name input (Shared status.Syntax) text v a = absurd (a.no_job v.valid.job v.valid.is v.valid.spelled)
object_done name input (Shared status.Refused) text v a =
    let same = a.one v.valid.job v.valid.is v.valid.spelled in
    absurd (no_cause _ a.reply.error (same_cause a.job v.valid.job a.is v.valid.is same ∙ v.valid.valid) a.reply.cause)
object_done name input s text v a = absurd a.reply

objects_done : (input : List ℕ) (s : BinaryStatus) (text : List ℕ) → AreObjectFunctions input → IsObjectsAnswer input s text → IsDoneStatus s
objects_done input ObjectRefused text v a =
    let same = a.are.one v.functions v.are v.spelled in
    let moved = same_objects a.functions v.functions a.reply.objects a.are.are v.are same a.reply.are in
    absurd (no_cause _ a.reply.error (v.accepted a.reply.objects moved) a.reply.cause)
objects_done input (Shared status.Ok) text v a = inl refl
objects_done input (Shared status.NoMemory) text v a = inr refl
objects_done input (Shared status.Syntax) text v a = absurd (a.none (v.functions, v.are, v.spelled))
objects_done input (Shared status.BundleRefused) text v a =
    let same = a.are.one v.functions v.are v.spelled in
    absurd (coded (map member_of a.functions) a.reply.error (same_duplicate a.functions v.functions a.are.are v.are same ∙ v.names) (same_refused a.functions v.functions a.are.are v.are same ∙ v.valid) a.reply.named a.reply.cause)
objects_done input s text v a = absurd a.reply

command_done : (c : Command) (words : List (List ℕ)) (input : List ℕ) (s : BinaryStatus) (text : List ℕ) → IsUnrefused c words input → IsInputAnswer c words input s text → IsDoneStatus s
command_done Refusal words input s text v a = refusal_done input s text v a
command_done (Verify base) words input s text v a = verify_done base input s text v a
command_done (Disassemble base) words input s text v a = disassemble_done base input s text v a
command_done (Assemble base) words input s text v a = assemble_done base input s text v a
command_done (Listing base) words input s text v a = list_done base input s text v a
command_done Object words input s text v a = object_done _ input s text v a
command_done Objects words input s text v a = objects_done input s text v a

-- the answer to what the source held
answered_done : (f : CallContext) (s : BinaryStatus) (text : List ℕ) (c : Command) (input : List ℕ) → IsAnswered f s text → IsForm f.words c → f.left ≡ Some input → IsUnrefused c f.words input → IsDoneStatus s
answered_done f s text c input a form left unrefused =
    let whole = read_whole f.left f.left' input a.input left a.read.taken a.read.end in
    let same = same_command f.words a.command c a.form form in
    command_done c f.words input s text unrefused
    (subst (λ given. IsInputAnswer c f.words given s text) (sym whole) (subst (λ d. IsInputAnswer d f.words a.input s text) same a.answer))

completed_reply : (f : CallContext) (s : BinaryStatus) (text : List ℕ) (c : Command) (input : List ℕ)
    → IsReply f s text → IsForm f.words c → f.left ≡ Some input → IsAccepted c f.words input → (FaultCountRose f.faults f.faults' → ⊥) → IsDoneStatus s
completed_reply f (Shared status.Ok) text c input reply form left accepted quiet = inl refl
completed_reply f (Shared status.NoMemory) text c input reply form left accepted quiet = inr refl
completed_reply f (Shared status.Usage) text c input reply form left accepted quiet = absurd (reply.0.none c form)
completed_reply f (Shared status.ReadFault) text c input reply form left accepted quiet = absurd (quiet reply.0.rose)
completed_reply f (Shared status.InputTooLong) text c input reply form left accepted quiet =
    let less = read_less f.left f.left' input reply.0.long.taken left reply.0.long.consumed in
    absurd (omega (arith, reply.0.long.long, accepted.short, less))
completed_reply f (Shared status.WriteFault) text c input reply form left accepted quiet = absurd reply
completed_reply f s text c input reply form left accepted quiet = answered_done f s text c input reply form left accepted.unrefused

-- how a call on an accepted input ends, where nothing failed
pub completed : (f : CallContext) (told told' : Option (List ℕ)) (faults faults' : ℕ) (s : BinaryStatus) (text : List ℕ) (result : BinaryStatus)
    → IsReply f s text → IsDelivered told told' faults faults' s text result
    → (c : Command) (input : List ℕ) → IsForm f.words c → f.left ≡ Some input → IsAccepted c f.words input
    → (FaultCountRose f.faults f.faults' → ⊥) → (FaultCountRose faults faults' → ⊥) → (result ≡ Shared status.Ok) ⊎ (result ≡ Shared status.NoMemory)
completed f told told' faults faults' s text result reply (inl whole) c input form left accepted quiet silent =
    subst IsDoneStatus (sym whole.0) (completed_reply f s text c input reply form left accepted quiet)
completed f told told' faults faults' s text result reply (inr part) c input form left accepted quiet silent = absurd (silent part.2)
