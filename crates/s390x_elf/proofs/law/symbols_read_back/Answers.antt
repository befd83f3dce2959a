use Rattle.std.proofs.Common.{ℕ, List, [], ◌∷◌, refl, sym, ap, append-nil}
use Rattle.s390x_elf.specs.Object.{string_table}
use Rattle.s390x_elf.proofs.Tables.{symbols_read}
use Rattle.s390x_elf.proofs.law.symbols_read_back.Goals as goal

pub returns : goal.returns
returns c = λ ss small fit. symbols_read (0 ∷ string_table ss) small ss 1 (0 ∷ []) [] fit (sym (ap (λ (bytes : List ℕ). 0 ∷ bytes) (append-nil (string_table ss)))) refl
