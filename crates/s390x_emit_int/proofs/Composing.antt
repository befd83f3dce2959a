-- Vector instructions of several machine instructions: the room for each, and the registers that may stand there.
use Rattle.std.proofs.Common.{◌≡◌, ℕ, ◌≤◌, Bool, true, false, cond, ◌&&◌, None, Some, refl, subst, arith}
use Rattle.s390x_base.specs.declared.error.EmitError.TheVariants.{BadRegister}
use Rattle.s390x_buffer.specs.State.{BufferState, put_cause}
use Rattle.s390x_typed_steps.specs.Parts.{row_parts, parts_size}
use Rattle.s390x_typed_steps.specs.VectorComposite.{reversing_rows, rows_cause, rows_or_none}
use Rattle.s390x_emit_int.proofs.OnlyMemory.{put_none, put_parts}

-- where so many bytes can be put, fewer can
pub room_before : (s : BufferState) (n m : ℕ) → put_cause s n ≡ None → m ≤ n → put_cause s m ≡ None
room_before s n m room le = let p = put_parts s n room in put_none s m p.0 (omega (arith, p.1, le))

pub valid_of : (t : Bool) → cond t None (Some BadRegister) ≡ None → t ≡ true
valid_of true h = refl
valid_of false h = absurd (cc)

pub second_again : (a b : Bool) → (a && b) ≡ true → (a && b && b) ≡ true
second_again true true h = refl
second_again true false h = absurd (cc)
second_again false b h = absurd (cc)

pub first_again : (a : Bool) → a ≡ true → (a && a && true) ≡ true
first_again true h = refl
first_again false h = absurd (cc)

pub first_of : (a b : Bool) → (a && b) ≡ true → a ≡ true
first_of true b h = refl
first_of false b h = absurd (cc)

-- the inputs of a comparison, in the order of its first row
pub inputs_of : (t a b : Bool) → (t && a && b) ≡ true → (b && a) ≡ true
inputs_of true true true h = refl
inputs_of true true false h = absurd (cc)
inputs_of true false b h = absurd (cc)
inputs_of false a b h = absurd (cc)

-- what is known of a count of elements is known of that number
pub passed_at : (s : BufferState) (count q d n : ℕ) (valid : Bool) → count ≡ q → put_cause s (parts_size (row_parts (rows_or_none (reversing_rows count d n)))) ≡ None → rows_cause (reversing_rows count d n) valid ≡ None →
    (put_cause s (parts_size (row_parts (rows_or_none (reversing_rows q d n)))) ≡ None) × (rows_cause (reversing_rows q d n) valid ≡ None)
passed_at s count q d n valid e put none = (subst (λ z. put_cause s (parts_size (row_parts (rows_or_none (reversing_rows z d n)))) ≡ None) e put, subst (λ z. rows_cause (reversing_rows z d n) valid ≡ None) e none)
