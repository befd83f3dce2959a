use Rattle.s390x_emit_laws.proofs.Example.{addition_stands, jump_is_appended, load_is_appended, table_is_appended}
use Rattle.s390x_emit_laws.proofs.law.instructions_stand_behind_others.Goals as goal

pub returns-clause-addition : goal.returns-clause-addition
returns-clause-addition c = addition_stands

pub returns-clause-jump : goal.returns-clause-jump
returns-clause-jump c = jump_is_appended

pub returns-clause-table : goal.returns-clause-table
returns-clause-table c = table_is_appended

pub returns-clause-load : goal.returns-clause-load
returns-clause-load c = load_is_appended
