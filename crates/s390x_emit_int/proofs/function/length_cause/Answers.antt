use Rattle.std.proofs.Common.{◌∙◌, sym, ap, map, nat_lt}
use Rattle.s390x_buffer.specs.Constants.{constants_end}
use Rattle.s390x_buffer.specs.State.{constant_of, limit}
use Rattle.s390x_typed_steps.specs.Folding.{folded_trees, peak}
use Rattle.s390x_typed_steps.specs.Sizes.{blocks_size}
use Rattle.s390x_emit_int.proofs.Lengths.{both_fit, constants_too_long, code_too_long}
use Rattle.s390x_emit_int.proofs.function.length_cause.Goals as goal
use Rattle.s390x_emit_int.proofs.function.length_cause.Goals.{else-lengths-lt2147483648-via-then-lengths-lt2147483648+else-constants_fit, else-lengths-lt2147483648-via-else-lengths-lt2147483648}

pub returns-then-constants_fit : goal.returns-then-constants_fit
returns-then-constants_fit c = λ ts counted.
    let cs = map constant_of c.args.constants.now in
    let below = c.if-lengths-lt2147483648.true in
    both_fit c.args.lengths.longest (peak ts) (blocks_size (folded_trees ts)) cs below counted.longest
    (ap (λ n. nat_lt (constants_end n cs) limit) (sym (counted.last below)) ∙ sym c.constants_fit.ensures ∙ c.if-constants_fit.true)

pub returns-else-lengths-lt2147483648 : goal.returns-else-lengths-lt2147483648
returns-else-lengths-lt2147483648 c =
    elim c.else-lengths-lt2147483648.branch [
      | else-lengths-lt2147483648-via-then-lengths-lt2147483648+else-constants_fit w ↦ (λ ts counted.
          let cs = map constant_of c.args.constants.now in
          constants_too_long (peak ts) (blocks_size (folded_trees ts)) cs (ap (λ n. nat_lt (constants_end n cs) limit) (sym (counted.last w.if-lengths-lt2147483648.true)) ∙ sym w.constants_fit.ensures ∙ w.if-constants_fit.false))
      | else-lengths-lt2147483648-via-else-lengths-lt2147483648 w ↦ (λ ts counted. code_too_long c.args.lengths.longest (peak ts) (blocks_size (folded_trees ts)) (map constant_of c.args.constants.now) w.if-lengths-lt2147483648.false counted.longest)
    ]
