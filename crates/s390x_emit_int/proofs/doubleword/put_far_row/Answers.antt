use Rattle.std.proofs.Common.{◌≡◌, rules, Some, ap, subst, ◌∙◌, length, to_z, of_z}
use Rattle.std.specs.Int.{w32}
use Rattle.s390x_typed_steps.specs.Parts.{access_parts, helpers_parts}
use Rattle.s390x_format.specs.Formats.{length_of}
use Rattle.s390x_address.specs.Appended.{with_parts}
use Rattle.s390x_address.specs.Lowerings.{far_helper}
use Rattle.s390x_address.proofs.OnlyMemory.{only_memory_again, put_first, put_others}
use Rattle.s390x_address.proofs.Putting.{helpers_puts}
use Rattle.s390x_address.proofs.Planning.{on_ok}
use Rattle.s390x_emit_int.proofs.doubleword.put_far_row.Goals as goal

pub returns-clause-answer : goal.returns-clause-answer
returns-clause-answer c = λ m same.
    let s = c.args.sink.now in
    let off = c.args.far.now.off in
    let whole : to_z w32 (of_z w32 off) ≡ off = search rules in
    let helped = subst (λ z. c.put_offset.new.sink ≡ with_parts s (helpers_parts (far_helper (Some z)))) whole c.in_ok-put_offset.ensures.answer in
    on_ok c.put_row.result (c.put_row.ensures.answer m same) (λ h. h ∙ ap (λ t. with_parts t (access_parts (Some m) c.args.trap_code)) helped)

pub returns-clause-only_memory : goal.returns-clause-only_memory
unfolding length_of
returns-clause-only_memory c = λ put.
    let s = c.args.sink.now in
    let off = c.args.far.now.off in
    let whole : to_z w32 (of_z w32 off) ≡ off = search rules in
    let helped = subst (λ z. c.put_offset.new.sink ≡ with_parts s (helpers_parts (far_helper (Some z)))) whole c.in_ok-put_offset.ensures.answer in
    c.put_row.ensures.only_memory (put_others s c.put_offset.new.sink 6 (length c.args.far.now.code) (helpers_puts s c.put_offset.new.sink (far_helper (Some off)) helped) put)

pub returns-in_err-put_offset-clause-only_memory : goal.returns-in_err-put_offset-clause-only_memory
returns-in_err-put_offset-clause-only_memory c = λ put. only_memory_again c.from_residual.result _ c.from_residual.ensures.1 (c.in_err-put_offset.ensures.only_memory (put_first c.args.sink.now 6 (length c.args.far.now.code) put))
