use Rattle.std.proofs.Common.{◌≤◌, length, sym, subst}
use Rattle.std.proofs.lemmas.Option.{none-some, same_Some}
use Rattle.s390x_format.specs.Formats.{layout_of}
use Rattle.s390x_format.specs.declared.decoder.Decoded.{Decoded}
use Rattle.s390x_page.proofs.parts.s390x_page_part.Goals as goal

-- the instruction is the only one, so its format is
pub returns-in-Some-clause-none : goal.returns-in-Some-clause-none
returns-in-Some-clause-none c = λ no d f.
    let same = same_Some d c.in-Some.decoded (sym (c.in-Some.ensures.complete d f)) in
    subst (λ (x : Decoded). length (layout_of x.row.format) ≤ c.args.k) (sym same) (subst (λ parts. length parts ≤ c.args.k) c.layout.ensures (c.put_part.ensures.none no))

pub returns-in-None-clause-none : goal.returns-in-None-clause-none
returns-in-None-clause-none c = λ no d f. absurd (none-some d (c.in-None.ensures.complete d f))
