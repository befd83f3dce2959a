use Rattle.s390x_tool.specs.Emitted.{code_lines, code_head_lines, site_lines, start_offset_lines}
use Rattle.s390x_tool.proofs.Emitting.{four_texts}
use Rattle.s390x_tool.proofs.emitted.emitted_text.Goals as goal

pub returns : goal.returns
returns c =
    let f = c.args.code.now in
    four_texts (code_head_lines f) (start_offset_lines f) (code_lines f) (site_lines f) _ _ _ _ _ c.new-out.ensures.bytes
    c.in_ok-put_head.ensures c.in_ok-put_starts.ensures c.in_ok-put_code_entries.ensures c.in_ok-put_site_entries.ensures
