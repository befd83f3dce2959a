-- Where no cause stands, a call of the buffer is refused for want of memory alone; what the parts of an instruction do to a buffer.
use Rattle.std.proofs.Common.{◌≡◌, ℕ, ◌+◌, ◌<◌, List, [], ◌∷◌, ◌++◌, Bool, true, false, cond, nat_lt, Option, None, Some, length, Result, Ok, Err, IfErr, IsErrAnd, refl, sym, ap, ◌∙◌, arith, append_assoc}
use Rattle.std.proofs.lemmas.Bool.{ltb-true, lt-ltb}
use Rattle.s390x_base.specs.declared.error.EmitError.{EmitError}
use Rattle.s390x_base.specs.declared.error.EmitError.TheVariants.{NoMemory, LabelOutOfRange, Failed}
use Rattle.s390x_buffer.specs.State.{BufferState, put_cause, limit}
use Rattle.s390x_format.proofs.Encoding.{encode-length}
use Rattle.s390x_inst.specs.declared.inst.Inst.{Inst}
use Rattle.s390x_typed_steps.specs.Causes.{declared_in}
use Rattle.s390x_typed_steps.specs.MachineInstruction.{MachineInstruction, bytes_of, size_of}
use Rattle.s390x_typed_steps.specs.Parts.{CodePart, helper_parts, helpers_parts, parts_size}

-- an error that is handed on
pub only_memory_again : {T : Type 0} (r : Result T EmitError) (e : EmitError) → IsErrAnd r (λ y. y ≡ e) → e ≡ NoMemory → IfErr r (λ y. y ≡ NoMemory)
only_memory_again (Ok x) e a h = tt
only_memory_again (Err y) e a h = a ∙ h

two_tests : (f t : Bool) (d e : EmitError) → cond f (Some d) (cond t None (Some e)) ≡ None → (f ≡ false) × (t ≡ true)
two_tests true t d e h = absurd (cc)
two_tests false true d e h = (refl, refl)
two_tests false false d e h = absurd (cc)

-- what a buffer is in which so many bytes can be put
pub put_parts : (s : BufferState) (n : ℕ) → put_cause s n ≡ None → (s.is_poisoned ≡ false) × (length s.bytes + n < limit)
put_parts s n h = let t = two_tests s.is_poisoned (nat_lt (length s.bytes + n) limit) Failed LabelOutOfRange h in (t.0, ltb-true (length s.bytes + n) limit t.1)

pub mark_of : (f : Bool) (o : Option EmitError) → f ≡ false → cond f (Some Failed) o ≡ o
mark_of f o h = ap (λ b. cond b (Some Failed) o) h

pub test_of : (t : Bool) (e : EmitError) → t ≡ true → cond t None (Some e) ≡ None
test_of t e h = ap (λ b. cond b None (Some e)) h

pub put_none : (s : BufferState) (n : ℕ) → s.is_poisoned ≡ false → length s.bytes + n < limit → put_cause s n ≡ None
put_none s n h lt = mark_of s.is_poisoned _ h ∙ test_of (nat_lt (length s.bytes + n) limit) LabelOutOfRange (lt-ltb (length s.bytes + n) limit lt)

-- fewer bytes can be put too
pub put_first : (s : BufferState) (a b : ℕ) → put_cause s (a + b) ≡ None → put_cause s a ≡ None
put_first s a b h = let p = put_parts s (a + b) h in put_none s a p.0 (omega (arith, p.1))

-- from s to t so many bytes were put, and no mark was set; what is declared stays
pub record Puts (s t : BufferState) (n : ℕ) : Type 0 where
  pub unpoisoned : t.is_poisoned ≡ s.is_poisoned
  pub bytes : length t.bytes ≡ length s.bytes + n
  pub declared : declared_in t ≡ declared_in s

-- and then the others
pub put_others : (s t : BufferState) (a b : ℕ) → Puts s t a → put_cause s (a + b) ≡ None → put_cause t b ≡ None
put_others s t a b q h = let p = put_parts s (a + b) h in put_none t b (q.unpoisoned ∙ p.0) (omega (arith, p.1, q.bytes))

pub length-bytes : (m : MachineInstruction) → length (bytes_of m) ≡ size_of m
length-bytes m = encode-length m.format m.slots

pub size_append : (a b : List CodePart) → parts_size (a ++ b) ≡ parts_size a + parts_size b
size_append [] b = omega arith
size_append (p ∷ a) b = omega (arith, size_append a b)

pub helpers_append : (a b : List Inst) → helpers_parts (a ++ b) ≡ helpers_parts a ++ helpers_parts b
helpers_append [] b = refl
helpers_append (i ∷ a) b = ap (λ l. helper_parts i ++ l) (helpers_append a b) ∙ sym (append_assoc (helper_parts i) (helpers_parts a) (helpers_parts b))
