use Rattle.s390x_alloc_laws.proofs.Witness.{far_load_allocatable, division_allocatable, selection_allocatable}
use Rattle.s390x_alloc_laws.proofs.assign.some_are_allocatable.Goals as goal

pub returns-clause-load : goal.returns-clause-load
returns-clause-load c = far_load_allocatable

pub returns-clause-division : goal.returns-clause-division
returns-clause-division c = division_allocatable

pub returns-clause-vector : goal.returns-clause-vector
returns-clause-vector c = selection_allocatable
