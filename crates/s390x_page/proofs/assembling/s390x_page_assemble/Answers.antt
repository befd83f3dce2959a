use Rattle.s390x_page.proofs.assembling.s390x_page_assemble.Goals as goal

pub returns-in-Some-clause-found : goal.returns-in-Some-clause-found
returns-in-Some-clause-found c = λ _. record {
  code = c.in-Some.bytes.items;
  is = c.in-Some.ensures.code;
  one = c.in-Some.ensures.one;
  bytes = rw c.deref.ensures.0 at c.copied_bytes.ensures;
}

pub returns-in-None-clause-none : goal.returns-in-None-clause-none
returns-in-None-clause-none c = λ _. c.in-None.ensures.none
