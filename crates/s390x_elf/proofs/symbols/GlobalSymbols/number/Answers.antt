use Rattle.std.proofs.Common.{◌≡◌, suc, ◌≤◌, Some, length, map, sym, ap, ◌∙◌, arith}
use Rattle.std.proofs.lemmas.List.{length-map}
use Rattle.s390x_elf.specs.Object.{place as place_of}
use Rattle.s390x_elf.specs.Tables.{symbol_of, number_behind}
use Rattle.s390x_elf.proofs.Places.{number_within}
use Rattle.s390x_elf.proofs.symbols.GlobalSymbols.number.Goals as goal
use Rattle.s390x_elf.proofs.symbols.GlobalSymbols.number.Goals.{In-Some}

within : (c : In-Some) → suc c.in-Some.place.now ≤ length c.args.self.now.symbols.items
within c =
    let found : place_of (map symbol_of c.args.self.now.symbols.items) c.args.name.now ≡ Some c.in-Some.place.now =
    sym (c.requires c.args.name.now) ∙ sym c.in-Some.ensures.value in
    let number = ap number_behind found in
    omega (arith, number, number_within (map symbol_of c.args.self.now.symbols.items) c.args.name.now, length-map c.args.self.now.symbols.items symbol_of)

pub overflow_add-result : goal.overflow_add-result
overflow_add-result c = omega (arith, within (goal.at.overflow_add-result c).In-Some)

pub returns-in-Some-clause-within : goal.returns-in-Some-clause-within
returns-in-Some-clause-within c = omega (arith, within (goal.at.returns-in-Some-clause-within c).In-Some)
