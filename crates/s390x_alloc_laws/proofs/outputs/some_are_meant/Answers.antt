use Rattle.s390x_alloc_laws.proofs.OutputWitness.{load_meant, division_meant, selection_meant}
use Rattle.s390x_alloc_laws.proofs.outputs.some_are_meant.Goals as goal

pub returns-clause-load : goal.returns-clause-load
returns-clause-load c = load_meant

pub returns-clause-division : goal.returns-clause-division
returns-clause-division c = division_meant

pub returns-clause-vector : goal.returns-clause-vector
returns-clause-vector c = selection_meant
