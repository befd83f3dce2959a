-- The least shift of an immediate.
use Rattle.std.proofs.Common.{◌≡◌, ◌≢◌, ℕ, zero, suc, ◌+◌, ◌*◌, ◌/◌, ◌%◌, ◌^◌, ◌<◌, ◌≤◌, arith}

pub third_part : (v b s : ℕ) → v % 65536 ≢ v → v / 65536 % 65536 * 65536 ≢ v → v / 4294967296 % 65536 * 4294967296 ≢ v → b < 65536 → s < 4 → b * 2 ^ (16 * s) ≡ v → 3 ≤ s
third_part v b zero h0 h1 h2 hb hs e = absurd (omega arith)
third_part v b (suc zero) h0 h1 h2 hb hs e = absurd (omega arith)
third_part v b (suc (suc zero)) h0 h1 h2 hb hs e = absurd (omega arith)
third_part v b (suc (suc (suc s))) h0 h1 h2 hb hs e = omega arith

pub no_part : (v b s : ℕ) → v % 65536 ≢ v → v / 65536 % 65536 * 65536 ≢ v → v / 4294967296 % 65536 * 4294967296 ≢ v → v / 281474976710656 * 281474976710656 ≢ v → b < 65536 → s < 4 → b * 2 ^ (16 * s) ≡ v → ⊥
no_part v b zero h0 h1 h2 h3 hb hs e = omega arith
no_part v b (suc zero) h0 h1 h2 h3 hb hs e = omega arith
no_part v b (suc (suc zero)) h0 h1 h2 h3 hb hs e = omega arith
no_part v b (suc (suc (suc zero))) h0 h1 h2 h3 hb hs e = omega arith
no_part v b (suc (suc (suc (suc s)))) h0 h1 h2 h3 hb hs e = omega arith

pub no_half : (v b s : ℕ) → v % 4294967296 ≢ v → v / 4294967296 * 4294967296 ≢ v → b < 4294967296 → s < 2 → b * 2 ^ (32 * s) ≡ v → ⊥
no_half v b zero h0 h1 hb hs e = omega arith
no_half v b (suc zero) h0 h1 hb hs e = omega arith
no_half v b (suc (suc s)) h0 h1 hb hs e = omega arith
