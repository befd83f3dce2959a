-- The code of a stop in code that stands at a base, by the offset from there.
use Rattle.std.proofs.Common.{◌≡◌, ℕ, ◌+◌, ◌-◌, ◌<◌, ◌≤◌, Bool, true, false, ◌&&◌, cond, List, length, Option, None, refl, sym, ap, ap₂, ◌∙◌, arith, le-leb, lt-ltb, le-ltb, ltb-true, ltb-false}
use Rattle.std.specs.Prelude.{nat_le, nat_lt}
use Rattle.std.proofs.lemmas.Bool.{lt-leb}
use Rattle.s390x_base.specs.declared.trap.TrapKind.{TrapKind}
use Rattle.s390x_buffer.specs.declared.entries.TrapEntry.{TrapEntry}
use Rattle.s390x_typed_steps.specs.Traps.{first_code}
use Rattle.s390x_operations.specs.State.{is_within}
use Rattle.s390x_operations.specs.declared.stop.StopKind.{StopKind}
use Rattle.s390x_operations.specs.declared.stop.StopKind.TheVariants.{Access}
use Rattle.s390x_machine.specs.Codes.{code_offset, trap_code_at}

same_test : (a b c d : ℕ) → (a < b → c < d) → (b ≤ a → d ≤ c) → nat_lt a b ≡ nat_lt c d
same_test a b c d below past = go (nat_lt a b) refl
  where
    go : (t : Bool) → nat_lt a b ≡ t → nat_lt a b ≡ nat_lt c d
    go true e = e ∙ sym (lt-ltb c d (below (ltb-true a b e)))
    go false e = e ∙ sym (le-ltb c d (past (ltb-false a b e)))

pub code_below : (base : ℕ) (bytes : List ℕ) (traps : List TrapEntry) (place : ℕ) (kind : StopKind) → place < base → trap_code_at (record { base = base; bytes = bytes }) traps place kind ≡ None
code_below base bytes traps place kind below =
    ap (λ b. cond (b && nat_lt place (base + length bytes)) (first_code traps (code_offset bytes (place - base) kind)) None) (lt-leb base place below)

-- the offset at which the table has a code is not before the place
at_least : (bytes : List ℕ) (offset : ℕ) (kind : StopKind) → offset ≤ code_offset bytes offset kind
at_least bytes offset Access = omega arith
at_least bytes offset kind = omega arith

both_none : (b : Bool) (c : Option TrapKind) → c ≡ None → cond b c None ≡ None
both_none true c h = h
both_none false c h = refl

pub code_far : (base : ℕ) (bytes : List ℕ) (traps : List TrapEntry) (place : ℕ) (kind : StopKind) → ((later : ℕ) → place - base ≤ later → first_code traps later ≡ None) → trap_code_at (record { base = base; bytes = bytes }) traps place kind ≡ None
code_far base bytes traps place kind none =
    both_none (is_within (record { base = base; bytes = bytes }) place) (first_code traps (code_offset bytes (place - base) kind)) (none (code_offset bytes (place - base) kind) (at_least bytes (place - base) kind))

pub code_moved : (base : ℕ) (bytes : List ℕ) (traps : List TrapEntry) (place : ℕ) (kind : StopKind) → base ≤ place → trap_code_at (record { base = base; bytes = bytes }) traps place kind ≡ trap_code_at (record { base = 0; bytes = bytes }) traps (place - base) kind
code_moved base bytes traps place kind above =
    let above' : nat_le base place ≡ nat_le 0 (place - base) = le-leb base place above ∙ sym (le-leb 0 (place - base) (omega arith)) in
    let below : nat_lt place (base + length bytes) ≡ nat_lt (place - base) (0 + length bytes) = same_test place (base + length bytes) (place - base) (0 + length bytes) (λ h. omega (arith, h, above)) (λ h. omega (arith, h, above)) in
    let z : place - base ≡ place - base - 0 = omega arith in
    ap (λ b. cond b (first_code traps (code_offset bytes (place - base) kind)) None) (ap₂ (λ x y. x && y) above' below)
    ∙ ap (λ o. cond (is_within (record { base = 0; bytes = bytes }) (place - base)) (first_code traps (code_offset bytes o kind)) None) z
