use Rattle.std.proofs.Common.{◌≡◌, length, ◌∙◌}
use Rattle.s390x_elf.proofs.file.put_header.Goals as goal

pub returns : goal.returns
returns c =
    let size : c.len.result ≡ length c.args.section.now.content.items = c.len.ensures ∙ c.args.section.now.content.ok.0 in
    rw size at c.put_fields.ensures
