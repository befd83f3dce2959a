-- From the replies of the parts to the answer.
use Rattle.std.proofs.Common.{◌≡◌, ℕ, ◌⊎◌, inl, inr, List, Some, None, sym, ◌∙◌, refl, subst, ap, ap₂, arith, Bool, true, false, cond, ◌+◌, ◌≤◌, ◌%◌, ◌^◌, length, string_bytes, Result, Ok, Err}
use Rattle.std.specs.Prelude.{codes, Option, IfOk, MatchResult, nat_eq, nat_le}
use Rattle.std.proofs.lemmas.Bool.{leb-true}
use Rattle.hex.specs.Hex.{encode_lower}
use Rattle.s390x_inst.specs.declared.state.IsaFlags.{IsaFlags}
use Rattle.s390x_base.specs.declared.error.EmitError.{EmitError}
use Rattle.s390x_buffer.specs.declared.entries.MachBufferFinalized.{MachBufferFinalized}
use Rattle.s390x_buffer.specs.State.{Constant}
use Rattle.s390x_typed_steps.specs.Causes.{first_emit_cause}
use Rattle.s390x_typed_steps.specs.Folding.{folded_trees}
use Rattle.s390x_typed_steps.specs.Ranges.{BlocksInRange}
use Rattle.s390x_typed_steps.specs.Tree.{Tree}
use Rattle.s390x_emit_int.specs.Function.{IsFinishedCode, checked_cause, start_cause, folded_trees_of, trees_of, constants_of}
use Rattle.s390x_emit_int.specs.Headline.{RunsAsTyped}
use Rattle.s390x_image.specs.Causes.{link_cause, base_cause, relocs_cause, first_link_cause as first_cause}
use Rattle.s390x_image.specs.Fields.{with_fields_filled}
use Rattle.s390x_image.specs.Symbols.{Symbols}
use Rattle.s390x_image.specs.declared.image.Image.{Image as LinkedImage}
use Rattle.s390x_image.specs.declared.error.LinkError.{LinkError}
use Rattle.s390x_image.specs.declared.error.LinkError.TheVariants as link
use Rattle.s390x_image.specs.declared.error.LinkError.TheVariants.{ImageTooHigh, MisalignedBase}
use Rattle.s390x_base.specs.declared.error.NoMemory.{NoMemory}
use Rattle.std.specs.declared.string.String.{String}
use Rattle.s390x_execution.specs.Text.{IsRunText}
use Rattle.s390x_job.specs.Jobs.{text_of_job, IsJob}
use Rattle.s390x_job.specs.Same.{SameJob}
use Rattle.s390x_job.specs.declared.job.Job.{Job}
use Rattle.s390x_operands.specs.declared.constraint.OperandError.{OperandError}
use Rattle.s390x_operands.specs.declared.constraint.OperandError.TheVariants as operand
use Rattle.s390x_tool.specs.Lines.{line, IsMade, IsLinkRefusal, IsOperandRefusal}
use Rattle.s390x_tool.specs.Emitted.{emit_text}
use Rattle.s390x_tool.specs.Answers.{IsAnswer, IsCodeOfJob, IsEmitReply, IsImageAt, IsImageReply, IsJobReply, IsLinked, IsOperandsReply, IsRunReply, link_cause_of, operands_cause_of, symbols_of}
use Rattle.s390x_tool.proofs.Replying.{of_job}
use Rattle.s390x_tool.specs.declared.words.JobCommand.{JobCommand}
use Rattle.s390x_tool.specs.declared.words.JobCommand.TheVariants.{Image}
use Rattle.s390x_tool.specs.declared.status.Status.{Status}
use Rattle.s390x_tool.specs.declared.status.Status.TheVariants as status

-- a command's reply to the job of the input is the answer
pub answer_of_job : (command : JobCommand) (input : List ℕ) (s : Status) (text : List ℕ) (j : Job)
    → IsJob j → text_of_job j ≡ input → ((k : Job) → IsJob k → text_of_job k ≡ input → SameJob j k) → IsJobReply command j s text → IsAnswer command input s text
answer_of_job (Image base) input status.NoMemory text j is spelled only reply = reply
answer_of_job command input status.NoMemory text j is spelled only reply = reply
answer_of_job command input status.Syntax text j is spelled only reply = absurd (of_job command j status.Syntax text reply)
answer_of_job command input s text j is spelled only reply = record { job = j; is = is; spelled = spelled; one = only; reply = reply }

-- a refusal of operands is the reply to `operands`
pub operands_reply_of_cause : (j : Job) (e : OperandError) (s : Status) (text : List ℕ)
    → (e ≡ operand.NoMemory) ⊎ (operands_cause_of j ≡ Some e) → IsOperandRefusal e s text → IsOperandsReply j s text
operands_reply_of_cause j e s text (inl short) (inl refusal) = absurd (refusal.0 short)
operands_reply_of_cause j e s text (inr cause) (inl refusal) = rw refusal.1 (record { error = e; cause = cause; spelled = refusal.2 })
operands_reply_of_cause j e s text cause (inr short) = rw short.1 short.2

-- the code with its tables is the reply to `emit`
pub reply_of_code : (j : Job) (code : MachBufferFinalized) (s : Status) (text : List ℕ)
    → IsCodeOfJob j code → IsMade status.Ok (emit_text code) s text → IsEmitReply j s text
reply_of_code j code s text is (inl made) = rw made.0 (record { code = code; is = is; spelled = made.1 })
reply_of_code j code s text is (inr short) = rw short.0 short.1

-- a refusal of linking is the reply
pub reply_of_link_cause : (base : ℕ) (j : Job) (code : MachBufferFinalized) (e : LinkError) (s : Status) (text : List ℕ)
    → IsCodeOfJob j code → (e ≡ link.NoMemory) ⊎ (link_cause_of base j code ≡ Some e) → IsLinkRefusal e s text → IsImageReply base j s text
reply_of_link_cause base j code e s text is (inl short) (inl refusal) = absurd (refusal.0 short)
reply_of_link_cause base j code e s text is (inr cause) (inl refusal) =
    rw refusal.1 (record { code = code; is = is; error = e; cause = cause; spelled = refusal.2 })
reply_of_link_cause base j code e s text is cause (inr short) = rw short.1 short.2

-- to `run` too
pub run_reply_of_link_cause : (base steps : ℕ) (j : Job) (code : MachBufferFinalized) (e : LinkError) (s : Status) (text : List ℕ)
    → IsCodeOfJob j code → (e ≡ link.NoMemory) ⊎ (link_cause_of base j code ≡ Some e) → IsLinkRefusal e s text → IsRunReply base steps j s text
run_reply_of_link_cause base steps j code e s text is (inl short) (inl refusal) = absurd (refusal.0 short)
run_reply_of_link_cause base steps j code e s text is (inr cause) (inl refusal) =
    rw refusal.1 (record { code = code; is = is; error = e; cause = cause; spelled = refusal.2 })
run_reply_of_link_cause base steps j code e s text is cause (inr short) = rw short.1 short.2

-- the text of the execution is the reply, where there is memory for it
pub run_reply_of_text : {Z : Type 0} (base steps : ℕ) (j : Job) (code : MachBufferFinalized) (bytes : List ℕ) (r : Result (String Z) NoMemory) (s : Status) (text : List ℕ)
    → IsCodeOfJob j code → IsLinked base j code bytes → IfOk r (λ t. IsRunText base steps j code bytes (string_bytes t))
    → MatchResult r (λ t. (s ≡ status.Ok) × (text ≡ string_bytes t)) (λ e. (s ≡ status.NoMemory) × (text ≡ line (codes "no memory"))) → IsRunReply base steps j s text
run_reply_of_text base steps j code bytes (Ok t) s text is linked told made =
    rw made.0 (record { code = code; is = is; bytes = bytes; image = linked; spelled = subst (λ l. IsRunText base steps j code bytes l) (sym made.1) told })
run_reply_of_text base steps j code bytes (Err e) s text is linked told made = rw made.0 made.1

-- what linking answers, where it doesn't refuse
pub linked_by : (base : ℕ) (j : Job) (code : MachBufferFinalized) (r : Result LinkedImage LinkError) (E : LinkError → Type 0)
    → MatchResult r (λ image. (link_cause_of base j code ≡ None) × (image.base ≡ base) × (image.bytes.items ≡ with_fields_filled base (symbols_of j) code.relocs.items code.bytes.items)) E
    → IfOk r (λ image. IsLinked base j code image.bytes.items)
linked_by base j code (Ok image) E h = record { linked = h.0; filled = h.2 }
linked_by base j code (Err e) E h = tt

-- an image ends at 2 ^ 64 or before, where linking has no cause
pub linked_fits : (base : ℕ) (j : Job) (code : MachBufferFinalized) (bytes : List ℕ) → IsLinked base j code bytes → length bytes ≡ length code.bytes.items → base + length bytes ≤ 2 ^ 64
linked_fits base j code bytes linked same =
    let none = first_none (base_cause code.alignment (length code.bytes.items) base) (relocs_cause base (symbols_of j) code.relocs.items) linked.linked in
    let low = base_fits code.alignment (length code.bytes.items) base (nat_eq (base % code.alignment) 0) (nat_le (base + length code.bytes.items) 18446744073709551616) refl refl none in
    omega (arith, low, same)
  where
    first_none : (a b : Option LinkError) → first_cause a b ≡ None → a ≡ None
    first_none None b e = refl
    first_none (Some x) b e = absurd cc

    base_fits : (alignment size base : ℕ) (even within : Bool) → nat_eq (base % alignment) 0 ≡ even → nat_le (base + size) 18446744073709551616 ≡ within → base_cause alignment size base ≡ None → base + size ≤ 18446744073709551616
    base_fits alignment size base false within a b e = let no = sym (ap (λ x. cond x (cond (nat_le (base + size) 18446744073709551616) None (Some ImageTooHigh)) (Some MisalignedBase)) a) ∙ e in absurd cc
    base_fits alignment size base true false a b e = let no = sym (ap₂ (λ x y. cond x (cond y None (Some ImageTooHigh)) (Some MisalignedBase)) a b) ∙ e in absurd cc
    base_fits alignment size base true true a b e = leb-true (base + size) 18446744073709551616 b

-- that the second of two causes isn't there either
second_none : (a b : Option EmitError) → first_emit_cause a b ≡ None → b ≡ None
second_none None b none = none
second_none (Some e) b none = absurd cc

-- the theorem about emitted and linked code
abbrev pub RunsWhereLinked : Type 0
RunsWhereLinked =
    (flags : IsaFlags) (ts : List Tree) (cs : List Constant) (f : MachBufferFinalized) (base : ℕ) (symbols : Symbols)
    → checked_cause flags ts cs ≡ None → BlocksInRange ts → IsFinishedCode (folded_trees ts) cs f → link_cause f base symbols ≡ None
    → RunsAsTyped symbols (folded_trees ts) cs (record { base = base; bytes = with_fields_filled base symbols f.relocs.items f.bytes.items })

-- it holds of a job's image
pub image_runs : RunsWhereLinked → (base : ℕ) (j : Job) (bytes : List ℕ) → IsImageAt base j bytes
    → RunsAsTyped (symbols_of j) (folded_trees_of j.info.isa_flags j.state j.function) (constants_of j.function) (record { base = base; bytes = bytes })
image_runs law base j bytes image =
    let runs = law j.info.isa_flags (trees_of j.info.isa_flags j.state j.function) (constants_of j.function) image.code base (symbols_of j)
    (second_none (start_cause j.state) _ image.is.valid) image.is.ranges image.is.emitted image.linked in
    let P : List ℕ → Type 0 = λ bs. RunsAsTyped (symbols_of j) (folded_trees_of j.info.isa_flags j.state j.function) (constants_of j.function) (record { base = base; bytes = bs }) in
    subst P (sym image.filled) runs

-- the image in hex is the reply
pub reply_of_image : (base : ℕ) (j : Job) (bytes : List ℕ) (s : Status) (text : List ℕ)
    → RunsWhereLinked → IsImageAt base j bytes → IsMade status.Ok (line (encode_lower bytes)) s text → IsImageReply base j s text
reply_of_image base j bytes s text law image (inl made) =
    rw made.0 (record { bytes = bytes; image = image; runs = image_runs law base j bytes image; spelled = made.1 })
reply_of_image base j bytes s text law image (inr short) = rw short.0 short.1
