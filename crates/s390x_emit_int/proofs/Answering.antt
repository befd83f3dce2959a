-- What an answer says where it is Ok.
use Rattle.std.proofs.Common.{Result, Ok, Err, OnOk, MatchResult}
pub use Rattle.s390x_address.proofs.Planning.{on_ok}

pub on_both : {T E P Q : Type 0} (R : E → Type 0) (r : Result T E) → MatchResult r (λ _. P) R → (P → Q) → OnOk r Q
on_both R (Ok x) h f = f h
on_both R (Err e) h f = tt
