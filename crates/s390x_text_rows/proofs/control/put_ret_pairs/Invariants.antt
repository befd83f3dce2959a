use Rattle.std.proofs.Common.{◌≡◌, ◌++◌, drop, string_bytes}
use Rattle.s390x_text_rows.specs.Control.{rets_text}
use Rattle.s390x_text_rows.proofs.control.put_ret_pairs.Given as goal

abbrev pub invariant-loop-ret : goal.invariant-loop-ret
invariant-loop-ret l = string_bytes l.out ++ rets_text (drop l.ret-index l.rets) ≡ string_bytes l.initial.out ++ rets_text l.rets
