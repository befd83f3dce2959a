use Rattle.std.proofs.Common.{◌≡◌, rules, [], ◌∷◌, false, IfSome, sym, subst, to_z, of_z}
use Rattle.std.specs.Int.{w128}
use Rattle.s390x_inst.specs.Memory.{flags_of}
use Rattle.s390x_inst.specs.declared.args.MemArg.TheVariants.{RegOffset}
use Rattle.s390x_inst.specs.declared.inst.Inst.TheVariants.{Mov64SImm32}
use Rattle.s390x_typed_steps.specs.Operands.{scratch}
use Rattle.s390x_address.specs.Lowerings.{IsBehind}
use Rattle.s390x_address.specs.Rows.{storage_form_of}
use Rattle.s390x_address.proofs.memory.MemoryInst.far_access.Goals as goal

pub returns-in-Some : goal.returns-in-Some
returns-in-Some c =
    let x = c.args.self.now in
    let i = c.in-Some in
    let flags = flags_of x.operand in
    let whole : to_z w128 (of_z w128 i.off) ≡ i.off = search rules in
    let held : IfSome c.far_access.result (λ far. IsBehind (record { form = storage_form_of x.rows; operand = RegOffset i.base (to_z w128 (of_z w128 i.off)) flags; accesses = x.accesses; operands_valid = x.operands_valid; reads_scratch = false }) (Mov64SImm32 scratch far.off ∷ []) far.code) = c.far_access.ensures x.accesses x.operands_valid flags in
    let off = subst (λ z. IfSome c.far_access.result (λ far. IsBehind (record { form = storage_form_of x.rows; operand = RegOffset i.base z flags; accesses = x.accesses; operands_valid = x.operands_valid; reads_scratch = false }) (Mov64SImm32 scratch far.off ∷ []) far.code)) whole held in
    let unread = subst (λ b. IfSome c.far_access.result (λ far. IsBehind (record { form = storage_form_of x.rows; operand = RegOffset i.base i.off flags; accesses = x.accesses; operands_valid = x.operands_valid; reads_scratch = b }) (Mov64SImm32 scratch far.off ∷ []) far.code)) (sym c.if-self.false) off in
    subst (λ m. IfSome c.far_access.result (λ far. IsBehind (record { form = storage_form_of x.rows; operand = m; accesses = x.accesses; operands_valid = x.operands_valid; reads_scratch = x.reads_scratch }) (Mov64SImm32 scratch far.off ∷ []) far.code)) (sym i.ensures) unread
