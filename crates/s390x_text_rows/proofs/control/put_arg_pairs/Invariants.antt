use Rattle.std.proofs.Common.{◌≡◌, ◌++◌, drop, string_bytes}
use Rattle.s390x_text_rows.specs.Control.{args_text}
use Rattle.s390x_text_rows.proofs.control.put_arg_pairs.Given as goal

abbrev pub invariant-loop-arg : goal.invariant-loop-arg
invariant-loop-arg l = string_bytes l.out ++ args_text (drop l.arg-index l.args) ≡ string_bytes l.initial.out ++ args_text l.args
