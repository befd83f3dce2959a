use Rattle.std.proofs.Common.{◌≡◌, ℕ, zero, suc, List, [], ◌∷◌, slice_index, refl}
use Rattle.s390x_operations.specs.declared.stop.ConditionCode.TheVariants.{Code0}
use Rattle.s390x_machine.proofs.machine.Machine.new.Goals as goal

zeros : ℕ → List ℕ
zeros zero = []
zeros (suc n) = 0 ∷ zeros n

zero_at : (n k : ℕ) → slice_index (zeros n) k ≡ 0
unfolding zeros
zero_at zero k = refl
zero_at (suc n) zero = refl
zero_at (suc n) (suc k) = zero_at n k

pub returns-clause-registers : goal.returns-clause-registers
unfolding zeros
returns-clause-registers c = λ i. record { general = λ k. zero_at 16 k i; vector = λ k. zero_at 32 k i; access = λ k. zero_at 16 k i; code = Code0 }
