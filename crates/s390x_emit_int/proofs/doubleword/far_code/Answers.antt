use Rattle.std.proofs.Common.{◌≡◌, rules, [], ◌∷◌, Some, None, cond, pos, sym, ap, subst, ◌∙◌, to_z, of_z}
use Rattle.std.specs.Int.{w32, w64}
use Rattle.s390x_base.specs.Regs.{number_of}
use Rattle.s390x_inst.specs.declared.inst.Inst.TheVariants.{Mov64SImm32}
use Rattle.s390x_typed_steps.specs.General.{low_displacement}
use Rattle.s390x_typed_steps.specs.MachineInstruction.{bytes_of, rxy}
use Rattle.s390x_typed_steps.specs.Operands.{scratch, is_far}
use Rattle.s390x_emit_int.specs.Doubleword.{opcode_of, instruction_of, IsPassed}
use Rattle.s390x_emit_int.proofs.Doublewords.{far_passed}
use Rattle.s390x_emit_int.proofs.doubleword.far_code.Goals as goal

pub returns : goal.returns
returns c =
    let a = c.args.access.now in
    let off = c.in_ok-off.off in
    let code = c.in_ok-code.code in
    let whole : to_z w32 (of_z w32 off) ≡ off = search rules in
    let disp = c.from_uimm12-disp.ensures ∙ ap pos c.zero.ensures in
    let same = c.in_ok-code.ensures
    ∙ ap (λ r. bytes_of (rxy (opcode_of a) (number_of a.register) (number_of a.base) (number_of r) (low_displacement c.from_uimm12-disp.result))) c.spilltmp_reg.ensures
    ∙ ap (λ z. bytes_of (rxy (opcode_of a) (number_of a.register) (number_of a.base) (number_of scratch) (low_displacement z))) disp in
    let given : to_z w64 (of_z w64 a.off) ≡ a.off = search rules in
    let far = subst (λ z. Some off ≡ cond (is_far z) (Some z) None) given c.in_ok-off.ensures in
    let found = far_passed a off code (sym c.if-not-has_valid_registers.ensures) (sym c.if-reads_scratch.ensures) far same in
    subst (λ z. IsPassed (instruction_of a) (Mov64SImm32 scratch z ∷ []) code) (sym whole) found
