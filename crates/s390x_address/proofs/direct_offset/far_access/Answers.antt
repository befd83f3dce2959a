use Rattle.std.proofs.Common.{◌≡◌, rules, [], ◌∷◌, false, None, Some, cond, sym, ◌∙◌, subst, to_z, of_z}
use Rattle.std.specs.Int.{w32, w128}
use Rattle.std.proofs.lemmas.Int.{to_z-of_z}
use Rattle.s390x_inst.specs.declared.args.MemArg.TheVariants.{RegOffset}
use Rattle.s390x_inst.specs.declared.inst.Inst.TheVariants.{Mov64SImm32}
use Rattle.s390x_typed_steps.specs.Operands.{is_far, scratch}
use Rattle.s390x_address.specs.Lowerings.{IsBehind}
use Rattle.s390x_address.specs.Rows.{storage_form_of}
use Rattle.s390x_address.proofs.Displacing.{far_found}
use Rattle.s390x_address.proofs.direct_offset.far_access.Goals as goal

pub returns : goal.returns
returns c = λ accesses operands_valid flags.
    let d = c.in_ok-imm in
    let form = storage_form_of c.args.rows.now in
    let whole : to_z w32 (of_z w32 d.imm) ≡ d.imm = search rules in
    let found = far_found form c.args.base d.imm c.args.off flags accesses operands_valid c.in_ok-code.code (subst (λ z. Some d.imm ≡ cond (is_far z) (Some z) None) (to_z-of_z w128 c.args.off c.ranges.off) d.ensures) (sym c.is_numbered.ensures ∙ c.if-is_numbered.false) (c.in_ok-code.ensures accesses flags) in
    subst (λ z. IsBehind (record { form = form; operand = RegOffset c.args.base c.args.off flags; accesses = accesses; operands_valid = operands_valid; reads_scratch = false }) (Mov64SImm32 scratch z ∷ []) c.in_ok-code.code) (sym whole) found
