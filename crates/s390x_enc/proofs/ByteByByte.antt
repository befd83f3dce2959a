-- A number of a few bytes, byte by byte.
use Rattle.std.proofs.Common.{◌≡◌, ℕ, ◌+◌, ◌*◌, ◌/◌, ◌%◌, ◌^◌, ◌<◌, Bool, true, ◌&&◌, [], ◌∷◌, refl, arith}
use Rattle.s390x_format.specs.Reading.{be_bytes}

pub two_bytes : (n a b : ℕ) → a < 256 → b < 256 → n ≡ a * 256 + b → be_bytes 2 n ≡ a ∷ b ∷ []
unfolding be_bytes
two_bytes n a b ha hb e =
    let p : n / 256 % 256 ≡ a = omega arith in
    let q : n / 1 % 256 ≡ b = omega arith in
    rw (p, q) (λ i. a ∷ b ∷ [])

pub four_bytes : (n a b c d : ℕ) → a < 256 → b < 256 → c < 256 → d < 256 → n ≡ a * 2 ^ 24 + b * 2 ^ 16 + c * 256 + d → be_bytes 4 n ≡ a ∷ b ∷ c ∷ d ∷ []
unfolding be_bytes
four_bytes n a b c d ha hb hc hd e =
    let p : n / 2 ^ 24 % 256 ≡ a = omega arith in
    let q : n / 2 ^ 16 % 256 ≡ b = omega arith in
    let r : n / 2 ^ 8 % 256 ≡ c = omega arith in
    let s : n / 1 % 256 ≡ d = omega arith in
    rw (p, q, r, s) (λ i. a ∷ b ∷ c ∷ d ∷ [])

pub six_bytes : (n a b c d e f : ℕ) → a < 256 → b < 256 → c < 256 → d < 256 → e < 256 → f < 256 →
    n ≡ a * 2 ^ 40 + b * 2 ^ 32 + c * 2 ^ 24 + d * 2 ^ 16 + e * 256 + f → be_bytes 6 n ≡ a ∷ b ∷ c ∷ d ∷ e ∷ f ∷ []
unfolding be_bytes
six_bytes n a b c d e f ha hb hc hd he hf s =
    let p0 : n / 2 ^ 40 % 256 ≡ a = omega arith in
    let p1 : n / 2 ^ 32 % 256 ≡ b = omega arith in
    let p2 : n / 2 ^ 24 % 256 ≡ c = omega arith in
    let p3 : n / 2 ^ 16 % 256 ≡ d = omega arith in
    let p4 : n / 2 ^ 8 % 256 ≡ e = omega arith in
    let p5 : n / 1 % 256 ≡ f = omega arith in
    rw (p0, p1, p2, p3, p4, p5) (λ i. a ∷ b ∷ c ∷ d ∷ e ∷ f ∷ [])

pub both : {a b : Bool} → a ≡ true → b ≡ true → (a && b) ≡ true
both p q = rw (p, q) refl

pub moved : {n m b : ℕ} → n ≡ m → n < b → m < b
moved e h = omega arith
