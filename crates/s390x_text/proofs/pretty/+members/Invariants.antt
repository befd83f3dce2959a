use Rattle.std.proofs.Common.{◌≡◌, ◌++◌, drop, string_bytes}
use Rattle.s390x_text.specs.Instructions.{insts_after, insts_text}
use Rattle.s390x_text.proofs.pretty.+members.Given as goal

abbrev pub invariant-put_members-loop-inst : goal.invariant-put_members-loop-inst
invariant-put_members-loop-inst l = record {
  bytes : string_bytes l.out ++ (insts_text l.context.flags l.context.depth l.state (drop l.inst-index l.insts)).bytes ≡ string_bytes l.initial.out ++ (insts_text l.context.flags l.context.depth l.initial.state l.insts).bytes;
  cause : (insts_text l.context.flags l.context.depth l.state (drop l.inst-index l.insts)).cause ≡ (insts_text l.context.flags l.context.depth l.initial.state l.insts).cause;
  behind : insts_after l.state (drop l.inst-index l.insts) ≡ insts_after l.initial.state l.insts;
}
