use Rattle.std.proofs.Common.{◌≡◌, ◌++◌, drop, string_bytes}
use Rattle.s390x_text_rows.specs.Storage.{helpers_text}
use Rattle.s390x_text_rows.proofs.storage.put_helpers.Given as goal

abbrev pub invariant-loop-helper : goal.invariant-loop-helper
invariant-loop-helper l = string_bytes l.out ++ helpers_text (drop l.helper-index l.helpers) ≡ string_bytes l.initial.out ++ helpers_text l.helpers
