use Rattle.std.proofs.Common.{ap, ℕ, ◌%◌, ◌^◌, ◌<◌, ◌∙◌, rules}
use Rattle.s390x_lanes.proofs.Powers.{masked}
use Rattle.s390x_lanes.proofs.Signed.{immediate_is}
use Rattle.s390x_lanes.proofs.unary.immediate.Goals as goal

pub returns-clause-value : goal.returns-clause-value
returns-clause-value c =
    let h : c.args.value < 2 ^ 16 = search rules in
    masked c.args.w c.sign_extend.result c.ones.result c.ones.ensures ∙ ap (λ (n : ℕ). n % 2 ^ c.args.w) c.sign_extend.ensures.value ∙ immediate_is c.args.w c.args.value c.requires.high h
