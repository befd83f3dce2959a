use Rattle.s390x_machine.proofs.Addressable.{addressable, loaded_addressable}
use Rattle.s390x_machine.proofs.law.operands_are_addressable.Goals as goal

pub returns-clause-whole : goal.returns-clause-whole
returns-clause-whole c = addressable

pub returns-clause-loaded : goal.returns-clause-loaded
returns-clause-loaded c = loaded_addressable
