use Rattle.std.proofs.Common.{◌≡◌, ◌∙◌, Some, sym, ap, true}
use Rattle.s390x_base.specs.Regs.{number_of}
use Rattle.s390x_rows.specs.declared.opcodes.TheConstants as opcodes
use Rattle.s390x_typed_steps.specs.MachineInstruction.{vrs_b}
use Rattle.s390x_typed_steps.specs.VectorInstruction.{element_code, is_lane}
use Rattle.s390x_emit_vec.proofs.Encoding.{lane_coded}
use Rattle.s390x_emit_vec.proofs.lanes.lane_inserted_where.Goals as goal

pub returns-then-is_lane : goal.returns-then-is_lane
returns-then-is_lane c =
    let code = c.element_code.ensures.code in
    let some = c.in-Some.is in
    let e : element_code c.args.size ≡ Some c.in-Some.code = cc in
    ap Some c.inserted_element.ensures ∙ lane_coded c.args.valid (λ n. vrs_b opcodes.VLVG (number_of c.args.v1) (number_of c.args.base) (number_of c.args.r3) n c.args.lane) (element_code c.args.size) c.in-Some.code c.args.size c.args.lane e (sym c.is_lane.ensures ∙ c.if-is_lane.true)
