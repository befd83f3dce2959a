use Rattle.std.proofs.Common.{◌≡◌, ◌∙◌, ◌&&◌, sym, ap, inr, length, map, nat_lt, None, false}
use Rattle.std.proofs.lemmas.Bool.{and_from, lt-ltb}
use Rattle.std.proofs.lemmas.List.{length-map}
use Rattle.s390x_base.specs.declared.error.EmitError.TheVariants.{LabelOutOfRange}
use Rattle.s390x_buffer.specs.Constants.{constants_end}
use Rattle.s390x_buffer.specs.State.{constant_of, new_cause, limit}
use Rattle.s390x_typed_steps.specs.Causes.{unless}
use Rattle.s390x_typed_steps.specs.Folding.{folded_trees, peak}
use Rattle.s390x_typed_steps.specs.Ranges.{BlocksInRange}
use Rattle.s390x_typed_steps.specs.Sizes.{blocks_size}
use Rattle.s390x_emit_int.specs.Function.{tree_of, trees_of, constants_of, checked_cause, code_length_cause, IsFinishedCode}
use Rattle.s390x_emit_int.proofs.Finishing.{can_finish, finished_or_lacks, emitted_size, folded_passes, length_last, or_cause}
use Rattle.s390x_emit_int.proofs.Imaging.{image_of, Emitted}
use Rattle.s390x_emit_int.proofs.function.finish.Goals as goal

-- the code was never too long, so that its end alone decides
pub returns-then-constants_fit : goal.returns-then-constants_fit
returns-then-constants_fit c =
    let f = c.args.function.now in
    let ts = trees_of c.args.flags c.args.state.now f in
    let us = folded_trees ts in
    let cs = constants_of f in
    let flags = c.args.flags in
    let new : new_cause (length ts) cs ≡ None = ap (λ n. new_cause n cs) (length-map f.blocks.items (tree_of c.args.flags c.args.state.now)) ∙ c.requires.new in
    let size = c.cur_offset.ensures.value ∙ emitted_size us cs c.args.sink c.requires.emitted in
    let ends = sym (c.constants_fit.ensures ∙ ap (λ l. nat_lt (constants_end c.cur_offset.result (map constant_of l)) limit) c.deref.ensures.value ∙ ap (λ n. nat_lt (constants_end n cs) limit) size) ∙ c.if-constants_fit.true in
    let short = lt-ltb (peak ts) limit c.requires.longest in
    let long : code_length_cause ts cs ≡ None = ap (λ t. unless t LabelOutOfRange) (and_from (nat_lt (peak ts) limit) (nat_lt (constants_end (blocks_size us) cs) limit) short ends) in
    let checked : checked_cause flags ts cs ≡ None = length_last flags ts cs new c.requires.cause ∙ long in
    let passes = folded_passes flags ts cs checked in
    let emitted : Emitted flags us cs c.args.sink = record { is = c.requires.emitted; checked = passes.blocks } in
    let can = can_finish flags us cs c.args.sink c.requires.emitted passes in
    or_cause (IsFinishedCode us cs) (BlocksInRange ts) (checked_cause flags ts cs) c.finish.result checked (finished_or_lacks _ _ _ _ c.finish.result c.finish.ensures.answer can.short can.patched (λ code p. (image_of flags us cs c.args.sink code emitted p.1, c.requires.ranges)))

pub returns-else-constants_fit : goal.returns-else-constants_fit
returns-else-constants_fit c =
    let f = c.args.function.now in
    let ts = trees_of c.args.flags c.args.state.now f in
    let us = folded_trees ts in
    let cs = constants_of f in
    let flags = c.args.flags in
    let new : new_cause (length ts) cs ≡ None = ap (λ n. new_cause n cs) (length-map f.blocks.items (tree_of c.args.flags c.args.state.now)) ∙ c.requires.new in
    let size = c.cur_offset.ensures.value ∙ emitted_size us cs c.args.sink c.requires.emitted in
    let ends = sym (c.constants_fit.ensures ∙ ap (λ l. nat_lt (constants_end c.cur_offset.result (map constant_of l)) limit) c.deref.ensures.value ∙ ap (λ n. nat_lt (constants_end n cs) limit) size) ∙ c.if-constants_fit.false in
    inr (length_last flags ts cs new c.requires.cause ∙ ap (λ t. unless (nat_lt (peak ts) limit && t) LabelOutOfRange) ends ∙ ap (λ t. unless (t && false) LabelOutOfRange) (lt-ltb (peak ts) limit c.requires.longest))
