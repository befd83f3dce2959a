use Rattle.std.proofs.Common.{ap, map}
use Rattle.s390x_tool.specs.Emitted.{map_line, patch_line, try_line}
use Rattle.s390x_tool.proofs.Emitting.{on_ok, three_texts}
use Rattle.s390x_tool.proofs.emitted.put_site_entries.Goals as goal

pub returns : goal.returns
returns c =
    on_ok c.put_entries-3.result
    (λ e. three_texts _ _ _ _ _ _ _ _ _ _ (ap (map try_line) c.deref.ensures.value) (ap (map patch_line) c.deref-2.ensures.value) (ap (map map_line) c.deref-3.ensures.value) c.in_ok-put_entries.ensures c.in_ok-put_entries-2.ensures e)
    c.put_entries-3.ensures
