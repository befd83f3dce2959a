use Rattle.s390x_text.proofs.Blocks.{all_have_texts, all_in_order}
use Rattle.s390x_text.proofs.row_laws.valid_blocks_have_texts.Goals as goal

pub returns-clause-texts : goal.returns-clause-texts
returns-clause-texts c = all_have_texts

pub returns-clause-in_order : goal.returns-clause-in_order
returns-clause-in_order c = all_in_order
