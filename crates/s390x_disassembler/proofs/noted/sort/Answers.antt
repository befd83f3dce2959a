use Rattle.std.proofs.Common.{rules}
use Rattle.std.proofs.lemmas.List.Sorted.{answers_always}
use Rattle.s390x_disassembler.proofs.noted.sort.Goals as goal

pub returns : goal.returns
returns c =
    record {
      permutation = c.sort_by_key.ensures.permutation;
      sorted = c.in_ok-sort_by_key.ensures.sorted (λ n. n.offset) (answers_always _ _ _ (λ f a r g h. search rules));
      stable = c.sort_by_key.ensures.stable (λ n. n.offset) (answers_always _ _ _ (λ f a r g h. search rules));
    }
