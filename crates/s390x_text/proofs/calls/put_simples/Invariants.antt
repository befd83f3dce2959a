use Rattle.std.proofs.Common.{◌≡◌, ◌++◌, drop, string_bytes}
use Rattle.s390x_text.specs.Calls.{simple_texts}
use Rattle.s390x_text.proofs.calls.put_simples.Given as goal

abbrev pub invariant-loop-inst : goal.invariant-loop-inst
invariant-loop-inst l = record {
  bytes : string_bytes l.out ++ (simple_texts l.state (drop l.inst-index l.insts)).bytes ≡ string_bytes l.initial.out ++ (simple_texts l.state l.insts).bytes;
  cause : (simple_texts l.state (drop l.inst-index l.insts)).cause ≡ (simple_texts l.state l.insts).cause;
}
