use Rattle.std.proofs.Common.{◌≡◌, ◌++◌, drop, string_bytes}
use Rattle.s390x_listing.specs.Texts.{inst_texts}
use Rattle.s390x_listing.proofs.texts.put_insts.Given as goal

abbrev pub invariant-loop-inst : goal.invariant-loop-inst
invariant-loop-inst l = record {
  bytes : string_bytes l.out ++ (inst_texts l.fn.info.isa_flags l.state (drop l.inst-index l.insts)).bytes ≡ string_bytes l.initial.out ++ (inst_texts l.fn.info.isa_flags l.initial.state l.insts).bytes;
  cause : (inst_texts l.fn.info.isa_flags l.state (drop l.inst-index l.insts)).cause ≡ (inst_texts l.fn.info.isa_flags l.initial.state l.insts).cause;
}
