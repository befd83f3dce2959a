use Rattle.std.proofs.Common.{◌≡◌, string_bytes, sym, subst}
use Rattle.std.specs.Prelude.{IfOk, Result, Ok, Err}
use Rattle.s390x_inst.specs.Emission.{Emission}
use Rattle.s390x_text_rows.specs.Texts.{Prints}
use Rattle.s390x_text.specs.Instructions.{leaf_after}
use Rattle.s390x_text.proofs.Loops.{one_row}
use Rattle.s390x_text.proofs.pretty.put_one.Goals as goal

-- a state that stays is the one behind the instruction
kept : {T E : Type 0} (r : Result T E) (e f : Emission) → f ≡ e → IfOk r (λ _. e ≡ f)
kept (Ok x) e f same = sym same
kept (Err x) e f same = tt

pub returns-in_default-clause-answer : goal.returns-in_default-clause-answer
returns-in_default-clause-answer c =
    let g = one_row c.args.flags c.args.state.now c.args.inst.now c.in_default.not-Call c.in_default.not-ReturnCall c.in_default.not-AllocateArgs in
    subst (λ x. Prints c.put_simple.result (string_bytes c.args.out.now) (string_bytes c.put_simple.new.out) x) (sym g.0) c.put_simple.ensures

pub returns-in_default-clause-after : goal.returns-in_default-clause-after
returns-in_default-clause-after c =
    let g = one_row c.args.flags c.args.state.now c.args.inst.now c.in_default.not-Call c.in_default.not-ReturnCall c.in_default.not-AllocateArgs in
    kept c.put_simple.result c.args.state.now (leaf_after c.args.state.now c.args.inst.now) g.1
