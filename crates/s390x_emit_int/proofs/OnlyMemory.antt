-- Where no cause stands, a call of the buffer is refused for want of memory alone.
use Rattle.std.proofs.Common.{◌≡◌, ℕ, ◌<◌, false, nat_lt, Option, None, Some, length, Result, Ok, Err, MatchResult, IsErrAnd, ◌∙◌}
use Rattle.std.proofs.lemmas.Bool.{lt-ltb}
use Rattle.s390x_base.specs.declared.error.EmitError.{EmitError}
use Rattle.s390x_base.specs.declared.error.EmitError.TheVariants.{NoMemory, LabelOutOfRange, UnboundLabel}
use Rattle.s390x_buffer.specs.State.{BufferState, FailsWith, mark_cause, draw_cause, label_cause, label_limit}
use Rattle.s390x_emit_int.specs.Room.{OnlyOutOfMemory}
use Rattle.s390x_address.proofs.OnlyMemory.{mark_of, test_of}
pub use Rattle.s390x_address.proofs.OnlyMemory.{put_none, put_parts}

pub fails_with_none : (c : Option EmitError) (e : EmitError) → c ≡ None → FailsWith c e → e ≡ NoMemory
fails_with_none None e h b = b
fails_with_none (Some x) e h b = absurd (cc)

-- a call's answer, where its cause doesn't stand
pub only_memory_of_call : {T : Type 0} (P : T → Type 0) (Q : EmitError → Type 0) (c : Option EmitError) (r : Result T EmitError) → MatchResult r P (λ e. FailsWith c e × Q e) → c ≡ None → OnlyOutOfMemory r
only_memory_of_call P Q c (Ok x) m h = tt
only_memory_of_call P Q c (Err e) m h = fails_with_none c e h m.0

-- an error that is handed on
pub only_memory_again : {T : Type 0} (r : Result T EmitError) (e : EmitError) → IsErrAnd r (λ y. y ≡ e) → e ≡ NoMemory → OnlyOutOfMemory r
only_memory_again (Ok x) e a h = tt
only_memory_again (Err y) e a h = a ∙ h

pub mark_none : (s : BufferState) → s.is_poisoned ≡ false → mark_cause s ≡ None
mark_none s h = mark_of s.is_poisoned None h

pub draw_none : (s : BufferState) → s.is_poisoned ≡ false → length s.labels < label_limit → draw_cause s ≡ None
draw_none s h lt = mark_of s.is_poisoned _ h ∙ test_of (nat_lt (length s.labels) label_limit) LabelOutOfRange (lt-ltb (length s.labels) label_limit lt)

pub label_none : (s : BufferState) (l : ℕ) → s.is_poisoned ≡ false → l < length s.labels → label_cause s l ≡ None
label_none s l h lt = mark_of s.is_poisoned _ h ∙ test_of (nat_lt l (length s.labels)) UnboundLabel (lt-ltb l (length s.labels) lt)
