-- The numbers of the state in which the example's run begins lie in their ranges.
use Rattle.std.proofs.Common.{◌≡◌, ℕ, zero, suc, ◌-◌, ◌^◌, ◌<◌, true, ◌&&◌, ◌==◌, nat_lt, nat_le, Bool, if◌then◌else◌, List, [], ◌∷◌, get_or, IsTrue, refl, arith, leb-true}
use Rattle.std.proofs.lemmas.Bool.{and_parts}
use Rattle.s390x_operations.specs.State.{IsState, is_within}
use Rattle.s390x_machine.specs.Example.{image, core}
use Rattle.s390x_machine.proofs.Lanes.{choice_lt}

unfoldable are_bytes : List ℕ → Bool
are_bytes [] = true
are_bytes (b ∷ bs) = nat_lt b 256 && are_bytes bs

byte_lt : (bs : List ℕ) (k : ℕ) → are_bytes bs ≡ true → get_or bs k 0 < 256
unfolding are_bytes
byte_lt [] zero h = omega arith
byte_lt [] (suc k) h = omega arith
byte_lt (b ∷ bs) zero h = leb-true (suc b) 256 (and_parts (nat_lt b 256) (are_bytes bs) h).0
byte_lt (b ∷ bs) (suc k) h = byte_lt bs k (and_parts (nat_lt b 256) (are_bytes bs) h).1

image_bytes : are_bytes image.bytes ≡ true
unfolding are_bytes
image_bytes = refl

inside : (a : ℕ) → IsTrue (is_within image a) → a < 2 ^ 64
inside a h =
    let lt : a < 4108 = leb-true (suc a) 4108 (and_parts (nat_le 4096 a) (nat_lt a 4108) h).1 in
    omega arith

pub in_range : IsState (record { core = core; address = image.base })
in_range = record {
  general = λ i lt. choice_lt (i == 2) 18446744073709551614 (if i == 4 then 1 else (if i == 14 then 8192 else 0)) (2 ^ 64) (omega arith) (choice_lt (i == 4) 1 (if i == 14 then 8192 else 0) (2 ^ 64) (omega arith) (choice_lt (i == 14) 8192 0 (2 ^ 64) (omega arith) (omega arith)));
  vector = λ i lt. omega arith;
  access = λ i lt. omega arith;
  bytes = λ a. byte_lt image.bytes (a - 4096) image_bytes;
  addresses = inside;
  address = omega arith;
}
