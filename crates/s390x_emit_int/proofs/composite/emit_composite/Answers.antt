use Rattle.std.proofs.Common.{◌&&◌, ap, sym, ◌∙◌}
use Rattle.s390x_base.specs.declared.regs.Reg.{Reg}
use Rattle.s390x_buffer.specs.State.{put_cause}
use Rattle.s390x_format.specs.Formats.{length_of}
use Rattle.s390x_inst.specs.declared.vec_inst.VecInst.{VecInst}
use Rattle.s390x_typed_steps.specs.Parts.{row_parts, parts_size}
use Rattle.s390x_typed_steps.specs.VectorComposite.{composite_cause, composite_rows}
use Rattle.s390x_typed_steps.specs.VectorInstruction.{is_vector}
use Rattle.s390x_emit_int.proofs.Composing.{valid_of}
use Rattle.s390x_emit_int.proofs.composite.emit_composite.Goals as goal

pub returns-in-VecInt128SCmpHi-clause-only_memory : goal.returns-in-VecInt128SCmpHi-clause-only_memory
unfolding length_of
returns-in-VecInt128SCmpHi-clause-only_memory c = λ put none.
    let i = c.in-VecInt128SCmpHi in
    let valid = valid_of (is_vector i.tmp && is_vector i.rn && is_vector i.rm) (sym (ap composite_cause i.is) ∙ none) in
    let room = sym (ap (λ (v : VecInst). put_cause c.args.sink.now (parts_size (row_parts (composite_rows v)))) i.is) ∙ put in
    c.emit_comparison.ensures.only_memory room (ap (λ (t : Reg). is_vector t && is_vector i.rn && is_vector i.rm) c.to_reg-in-VecInt128SCmpHi.ensures ∙ valid)

pub returns-in-VecInt128UCmpHi-clause-only_memory : goal.returns-in-VecInt128UCmpHi-clause-only_memory
unfolding length_of
returns-in-VecInt128UCmpHi-clause-only_memory c = λ put none.
    let i = c.in-VecInt128UCmpHi in
    let valid = valid_of (is_vector i.tmp && is_vector i.rn && is_vector i.rm) (sym (ap composite_cause i.is) ∙ none) in
    let room = sym (ap (λ (v : VecInst). put_cause c.args.sink.now (parts_size (row_parts (composite_rows v)))) i.is) ∙ put in
    c.emit_comparison-in-VecInt128UCmpHi.ensures.only_memory room (ap (λ (t : Reg). is_vector t && is_vector i.rn && is_vector i.rm) c.to_reg-in-VecInt128UCmpHi.ensures ∙ valid)
