use Rattle.std.proofs.Common.{ap, sym, ◌∙◌}
use Rattle.s390x_tool.proofs.Pieces.{read_front, take_rest}
use Rattle.s390x_tool.proofs.in_memory.BytesSourceSource.read.Goals as goal

pub returns-clause-bytes : goal.returns-clause-bytes
returns-clause-bytes c =
    let count = rw (c.deref-2.ensures.value, take_rest c.self.inside.at c.self.inside.bytes.items) at c.min-count.ensures in
    let copied = rw (c.deref-2.ensures.value, take_rest c.self.inside.at c.self.inside.bytes.items) at c.copy_from_slice.ensures.after in
    let read = read_front c.self.inside.at c.min-count.result c.self.inside.bytes.items c.args.buf.now c.copy_from_slice.new.self count copied in
    (ap (λ s. s.left) (sym c.self.view_is) ∙ read.0, read.1)
