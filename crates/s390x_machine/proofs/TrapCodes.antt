-- The code of a stop inside an image, and outside it.
use Rattle.std.proofs.Common.{◌≡◌, ℕ, ◌+◌, ◌-◌, ◌<◌, ◌≤◌, false, ◌&&◌, cond, List, length, None, refl, ap, ap₂, ◌∙◌, arith, le-leb, lt-ltb, le-ltb}
use Rattle.std.specs.Prelude.{nat_le}
use Rattle.std.proofs.lemmas.Bool.{and_right}
use Rattle.s390x_buffer.specs.declared.entries.TrapEntry.{TrapEntry}
use Rattle.s390x_typed_steps.specs.Traps.{first_code}
use Rattle.s390x_operations.specs.State.{CodeImage}
use Rattle.s390x_operations.specs.declared.stop.StopKind.{StopKind}
use Rattle.s390x_machine.specs.Codes.{code_offset, trap_code_at}

pub code_inside : (image : CodeImage) (traps : List TrapEntry) (place : ℕ) (kind : StopKind) → image.base ≤ place → place < image.base + length image.bytes → trap_code_at image traps place kind ≡ first_code traps (code_offset image.bytes (place - image.base) kind)
code_inside image traps place kind above below =
    ap (λ b. cond b (first_code traps (code_offset image.bytes (place - image.base) kind)) None) (ap₂ (λ x y. x && y) (le-leb image.base place above) (lt-ltb place (image.base + length image.bytes) below))

code_behind : (image : CodeImage) (traps : List TrapEntry) (place : ℕ) (kind : StopKind) → image.base + length image.bytes ≤ place → trap_code_at image traps place kind ≡ None
code_behind image traps place kind past =
    ap (λ b. cond b (first_code traps (code_offset image.bytes (place - image.base) kind)) None) (ap (λ b. nat_le image.base place && b) (le-ltb place (image.base + length image.bytes) past) ∙ and_right (nat_le image.base place) false refl)

-- the same of code whose places are offsets
pub code_here : (bytes : List ℕ) (traps : List TrapEntry) (place : ℕ) (kind : StopKind) → place < length bytes → trap_code_at (record { base = 0; bytes = bytes }) traps place kind ≡ first_code traps (code_offset bytes place kind)
code_here bytes traps place kind below =
    let z : place - 0 ≡ place = omega arith in
    code_inside (record { base = 0; bytes = bytes }) traps place kind (omega arith) (omega (arith, below)) ∙ ap (λ o. first_code traps (code_offset bytes o kind)) z

pub code_past : (bytes : List ℕ) (traps : List TrapEntry) (place : ℕ) (kind : StopKind) → length bytes ≤ place → trap_code_at (record { base = 0; bytes = bytes }) traps place kind ≡ None
code_past bytes traps place kind past = code_behind (record { base = 0; bytes = bytes }) traps place kind (omega (arith, past))
