use Rattle.std.proofs.Common.{subst, sym}
use Rattle.std.specs.Prelude.{IfNone}
use Rattle.s390x_tool.specs.Words.{IsNoForm}
use Rattle.s390x_tool.proofs.Told.{six_words}
use Rattle.s390x_tool.proofs.words.read_words.Goals as goal

pub returns-in-len6-clause-none : goal.returns-in-len6-clause-none
returns-in-len6-clause-none c =
    let all = six_words c.args.words.now _ _ _ _ _ _ c.in-len6.len_at_least c.in-len6.len_below c.name-item-then-words-lt7.is c.first-item-then-words-lt7.is c.second-item-then-words-lt7.is c.third-item.is c.fourth-item.is c.fifth-item.is in
    let one = rw c.as_str-in-len6.ensures.value at c.read_with_five.ensures.none in
    let two = rw c.as_str-in-len6-2.ensures.value at one in
    let three = rw c.as_str-in-len6-3.ensures.value at two in
    let four = rw c.as_str-in-len6-4.ensures.value at three in
    let five = rw c.as_str-in-len6-5.ensures.value at four in
    let six = rw c.as_str-in-len6-6.ensures.value at five in
    subst (λ ws. IfNone c.read_with_five.result (IsNoForm ws)) (sym all) six
