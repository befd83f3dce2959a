use Rattle.std.proofs.Common.{ap, map}
use Rattle.s390x_tool.specs.Emitted.{call_line, reloc_line, trap_line}
use Rattle.s390x_tool.proofs.Emitting.{on_ok, three_texts}
use Rattle.s390x_tool.proofs.emitted.put_code_entries.Goals as goal

pub returns : goal.returns
returns c =
    on_ok c.put_calls.result
    (λ e. three_texts _ _ _ _ _ _ _ _ _ _ (ap (map reloc_line) c.deref.ensures.value) (ap (map trap_line) c.deref-2.ensures.value) (ap (map call_line) c.deref-3.ensures.value) c.in_ok-put_entries.ensures c.in_ok-put_entries-2.ensures e)
    c.put_calls.ensures
