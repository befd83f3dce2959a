use Rattle.std.proofs.Common.{◌≡◌, ◌++◌, drop, string_bytes}
use Rattle.s390x_text.specs.Calls.{results_text}
use Rattle.s390x_text.proofs.calls.put_results.Given as goal

abbrev pub invariant-loop-def : goal.invariant-loop-def
invariant-loop-def l = record {
  bytes : string_bytes l.out ++ (results_text l.state (drop l.def-index l.defs)).bytes ≡ string_bytes l.initial.out ++ (results_text l.state l.defs).bytes;
  cause : (results_text l.state (drop l.def-index l.defs)).cause ≡ (results_text l.state l.defs).cause;
}
