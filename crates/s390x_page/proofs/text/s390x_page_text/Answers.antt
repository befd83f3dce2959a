use Rattle.std.proofs.Common.{subst}
use Rattle.std.proofs.lemmas.Option.{none-some}
use Rattle.s390x_page.specs.Texts.{Holds}
use Rattle.s390x_page.proofs.text.s390x_page_text.Goals as goal

pub returns-in-Some-clause-found : goal.returns-in-Some-clause-found
returns-in-Some-clause-found c = λ _. record {
  located = c.in-Some.located;
  is = c.in-Some.ensures.sound;
  text = subst (λ t. Holds c.copy_of_text.result t) (c.located_text-text.ensures.whole c.args.bytes.now c.in-Some.ensures.sound) c.copy_of_text.ensures;
}

pub returns-in-None-clause-none : goal.returns-in-None-clause-none
returns-in-None-clause-none c = λ _ d f. none-some d (c.in-None.ensures.complete d f)
