use Rattle.std.proofs.Common.{◌≡◌, ◌∙◌, arith, take}
use Rattle.s390x_format.specs.Reading.{be_bytes}
use Rattle.s390x_format.proofs.Codes.{code_is, code_length}
use Rattle.s390x_format.proofs.format.code_of.Goals as goal

pub returns : goal.returns
returns c =
    let e : take c.args.length c.loop-i.bytes ≡ be_bytes c.args.length c.args.n =
    code_is c.loop-i.bytes c.args.length c.args.n c.loop-i.invariant.six (code_length c.args.length c.requires) (λ k lt. c.loop-i.invariant.done k (omega arith)) in
    c.in-Some.ensures.bytes ∙ e
