use Rattle.std.proofs.Common.{◌≡◌, Some, ap, sym, ◌∙◌}
use Rattle.s390x_machine.specs.Semantics.{semantics_of}
use Rattle.s390x_format.specs.declared.semantics.RowSemantics.TheVariants.{LoadVector, StoreVector}
use Rattle.s390x_machine.proofs.Performing.{can_perform}
use Rattle.s390x_machine.proofs.step.row_step.Goals as goal

pub operator_step-requires-clause-is : goal.operator_step-requires-clause-is
operator_step-requires-clause-is g c = ap semantics_of (sym c.requires.row.same) ∙ c.semantics_at-semantics.ensures

pub comparison_step-requires-clause-is : goal.comparison_step-requires-clause-is
comparison_step-requires-clause-is g c = ap semantics_of (sym c.requires.row.same) ∙ c.semantics_at-semantics.ensures

pub storing_step-requires-clause-is : goal.storing_step-requires-clause-is
storing_step-requires-clause-is g c = ap semantics_of (sym c.requires.row.same) ∙ c.semantics_at-semantics.ensures

pub vector_load_step-requires-clause-is : goal.vector_load_step-requires-clause-is
vector_load_step-requires-clause-is g c = ap semantics_of (sym c.requires.row.same) ∙ c.semantics_at-semantics.ensures ∙ ap Some c.in-LoadVector.is

pub vector_load_step-requires-clause-fit : goal.vector_load_step-requires-clause-fit
vector_load_step-requires-clause-fit g c =
    let d = c.args.located.now.decoded in
    let is : semantics_of d.row.opcode ≡ Some (LoadVector c.in-LoadVector.storage) = ap semantics_of (sym c.requires.row.same) ∙ c.semantics_at-semantics.ensures ∙ ap Some c.in-LoadVector.is in
    can_perform _ d (LoadVector c.in-LoadVector.storage) c.requires.found.row is

pub vector_store_step-requires-clause-is : goal.vector_store_step-requires-clause-is
vector_store_step-requires-clause-is g c = ap semantics_of (sym c.requires.row.same) ∙ c.semantics_at-semantics.ensures ∙ ap Some c.in-StoreVector.is

pub vector_store_step-requires-clause-fit : goal.vector_store_step-requires-clause-fit
vector_store_step-requires-clause-fit g c =
    let d = c.args.located.now.decoded in
    let is : semantics_of d.row.opcode ≡ Some (StoreVector c.in-StoreVector.storage) = ap semantics_of (sym c.requires.row.same) ∙ c.semantics_at-semantics.ensures ∙ ap Some c.in-StoreVector.is in
    can_perform _ d (StoreVector c.in-StoreVector.storage) c.requires.found.row is

pub semantics_step-requires-clause-is : goal.semantics_step-requires-clause-is
semantics_step-requires-clause-is g c = ap semantics_of (sym c.requires.row.same) ∙ c.semantics_at-semantics.ensures

pub vectors_step-requires-clause-is : goal.vectors_step-requires-clause-is
vectors_step-requires-clause-is g c = ap semantics_of (sym c.requires.row.same) ∙ c.semantics_at-semantics.ensures
