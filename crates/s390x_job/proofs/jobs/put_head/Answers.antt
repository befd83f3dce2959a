use Rattle.std.proofs.Common.{◌++◌, map, ap, ◌∙◌, string_bytes}
use Rattle.s390x_job.specs.Items.{constant_line, symbol_line, memory_line}
use Rattle.s390x_job.specs.Jobs.{lines_text, flags_lines, frame_lines, registers_lines}
use Rattle.s390x_job.proofs.Texts.{on_ok, two_texts}
use Rattle.s390x_job.proofs.jobs.put_head.Goals as goal

pub returns : goal.returns
returns c =
    let j = c.args.job.now in
    let fs = flags_lines j.info.isa_flags in
    let gs = frame_lines j.conv j.state.layout in
    let cs = map constant_line j.function.constants.items in
    let ss = map symbol_line j.symbols.items in
    let rs = registers_lines j.registers in
    let ms = map memory_line j.memory.items in
    let g = c.in_ok-put_frames.ensures ∙ ap (λ l. string_bytes c.put_flags.new.out ++ lines_text (frame_lines j.conv l)) c.frame_layout.ensures in
    let k = c.in_ok-put_constants.ensures ∙ ap (λ xs. string_bytes c.put_frames.new.out ++ lines_text (map constant_line xs)) c.deref.ensures.value in
    let s = c.in_ok-put_symbols.ensures ∙ ap (λ xs. string_bytes c.put_constants.new.out ++ lines_text (map symbol_line xs)) c.deref-2.ensures.value in
    on_ok c.put_regions.result (λ e. two_texts fs (gs ++ (cs ++ (ss ++ (rs ++ ms)))) _ _ _ c.in_ok-put_flags.ensures
    (two_texts gs (cs ++ (ss ++ (rs ++ ms))) _ _ _ g (two_texts cs (ss ++ (rs ++ ms)) _ _ _ k
    (two_texts ss (rs ++ ms) _ _ _ s (two_texts rs ms _ _ _ c.in_ok-put_registers.ensures (e ∙ ap (λ xs. string_bytes c.put_registers.new.out ++ lines_text (map memory_line xs)) c.deref-3.ensures.value)))))) c.put_regions.ensures
