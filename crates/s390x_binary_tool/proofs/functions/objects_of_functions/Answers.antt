use Rattle.std.proofs.Common.{◌∙◌}
use Rattle.s390x_binary_tool.proofs.Joining.{objects_answer}
use Rattle.s390x_binary_tool.proofs.functions.objects_of_functions.Goals as goal

pub returns-in-Ok : goal.returns-in-Ok
returns-in-Ok c = objects_answer c.args.input.now c.args.functions.items c.deref.result.now _ _ c.requires (c.deref.ensures.value ∙ c.in-Ok.ensures) c.objects_of_members.ensures
