use Rattle.std.proofs.Common.{sym, subst}
use Rattle.s390x_operands.specs.declared.constraint.Reported.{Reported}
use Rattle.s390x_alloc.specs.Contents.{without_item}
use Rattle.s390x_alloc.specs.Locations.{IsMapOf}
use Rattle.s390x_alloc.proofs.contents.drop_item.Goals as goal

pub returns-in-Fixed : goal.returns-in-Fixed
returns-in-Fixed c = λ list is. subst (λ (x : Reported). IsMapOf c.drop_place.new.self (without_item x list)) (sym c.in-Fixed.is) (c.drop_place.ensures list is)

pub returns-in-Clobbers : goal.returns-in-Clobbers
returns-in-Clobbers c = λ list is. subst (λ (x : Reported). IsMapOf c.drop_set.new.self (without_item x list)) (sym c.in-Clobbers.is) (c.drop_set.ensures list is)

pub returns-in-Operand : goal.returns-in-Operand
returns-in-Operand c = λ list is. subst (λ (x : Reported). IsMapOf c.args.held.now (without_item x list)) (sym c.in-Operand.is) is
