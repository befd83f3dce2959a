use Rattle.std.proofs.Common.{sym}
use Rattle.std.proofs.lemmas.Option.{none-some, same_Some}
use Rattle.s390x_decode_c.proofs.s390x_decode.Goals as goal

-- the decoder's answer is the only instruction
pub returns-in-Some-clause-found : goal.returns-in-Some-clause-found
returns-in-Some-clause-found c = λ _. record {
  decoded = c.in-Some.decoded;
  fetch = c.in-Some.ensures.sound;
  one = λ d f. same_Some d c.in-Some.decoded (sym (c.in-Some.ensures.complete d f));
  describes = c.instruction_of.ensures;
}

pub returns-in-None-clause-none : goal.returns-in-None-clause-none
returns-in-None-clause-none c = λ _ d f. none-some d (c.in-None.ensures.complete d f)
