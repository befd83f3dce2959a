-- Reads and writes behind others that failed.
use Rattle.std.proofs.Common.{ℕ, List, None, Some, Result, Ok, Err, sym, ◌∙◌, take, ap}
use Rattle.std.specs.Prelude.{Option, ◌++◌}
use Rattle.std.specs.Io.KnownBytes.{Appends, Consumes, Keeps, ReadConsumes, WriteAppends}
use Rattle.std.proofs.KnownBytes.{Keeps-refl, Keeps-trans}

-- before any call
pub kept_so_far : (a : Option (List ℕ)) → Keeps a a
kept_so_far a = Keeps-refl a

-- behind one more that failed
pub kept_again : (a b c : Option (List ℕ)) → Keeps a b → Keeps b c → Keeps a c
kept_again a b c first second = Keeps-trans a b c first second

consumes_after : (a b c : Option (List ℕ)) (bs : List ℕ) → Keeps a b → Consumes b c bs → Consumes a c bs
consumes_after None b c bs kept consumed = tt
consumes_after (Some x) None c bs kept consumed = absurd kept
consumes_after (Some x) (Some y) None bs kept consumed = absurd consumed
consumes_after (Some x) (Some y) (Some z) bs kept consumed = sym kept ∙ consumed

appends_after : (a b c : Option (List ℕ)) (bs : List ℕ) → Keeps a b → Appends b c bs → Appends a c bs
appends_after None b c bs kept appended = tt
appends_after (Some x) None c bs kept appended = absurd kept
appends_after (Some x) (Some y) None bs kept appended = absurd appended
appends_after (Some x) (Some y) (Some z) bs kept appended = appended ∙ ap (λ l. l ++ bs) kept

-- a read behind some that failed
pub read_after : {E : Type 0} → (a b c : Option (List ℕ)) (r : Result ℕ E) (buf : List ℕ) → Keeps a b → ReadConsumes b c r buf → ReadConsumes a c r buf
read_after a b c (Ok n) buf kept read = (consumes_after a b c (take n buf) kept read.0, read.1)
read_after a b c (Err e) buf kept read = Keeps-trans a b c kept read

-- a write behind some that failed
pub write_after : {E : Type 0} → (a b c : Option (List ℕ)) (r : Result ℕ E) (piece : List ℕ) → Keeps a b → WriteAppends b c r piece → WriteAppends a c r piece
write_after a b c (Ok n) piece kept written = appends_after a b c (take n piece) kept written
write_after a b c (Err e) piece kept written = Keeps-trans a b c kept written
