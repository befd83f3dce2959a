use Rattle.std.proofs.Common.{ap, codes}
use Rattle.s390x_tool.specs.Emitted.{numbered_lines}
use Rattle.s390x_tool.proofs.Emitting.{on_ok, two_texts}
use Rattle.s390x_tool.proofs.emitted.put_starts.Goals as goal

pub returns : goal.returns
returns c =
    on_ok c.put_numbered-2.result
    (λ e. two_texts _ _ _ _ _ _ _ (ap (numbered_lines (codes "block") 0) c.deref.ensures.value) (ap (numbered_lines (codes "const") 0) c.deref-2.ensures.value) c.in_ok-put_numbered.ensures e)
    c.put_numbered-2.ensures
