use Rattle.s390x_page.proofs.SmallStorage.{byte_changed}
use Rattle.s390x_page.proofs.storage.StorageMemory.set.Goals as goal

pub returns-clause-written : goal.returns-clause-written
returns-clause-written c = λ j b. byte_changed c.args.self.now c.args.address c.args.value b (search) c.requires j
