use Rattle.std.proofs.Common.{◌≡◌, ◌+◌, [], ◌∷◌, ◌++◌, take, ◌∙◌, sym, subst, arith}
use Rattle.std.proofs.lemmas.Grind.{common_steps}
use Rattle.s390x_bundle.specs.Emitted.{AreEmitted, HasNoCode, first_refused}
use Rattle.s390x_bundle.proofs.Emitting.{again, emitted_more, refused_behind, refused_now}
use Rattle.s390x_bundle.proofs.bundling.emit_members.Goals as goal

pub returns-in_err-code : goal.returns-in_err-code
returns-in_err-code c =
    let i = c.loop-member.member-index in
    let m = c.member-item.result in
    again _ (HasNoCode (first_refused c.args.members.now)) c.from_residual.result _ c.from_residual.ensures.1
    (refused_now c.args.members.now i m _ c.loop-member-test.true c.member-item.is c.loop-member.invariant.first c.in_err-code.ensures)

pub loop-member-preserved : goal.loop-member-preserved
loop-member-preserved c =
    let i = c.loop-member.member-index in
    let m = c.member-item.result in
    let pushed : c.push.new.self.items ≡ c.loop-member.codes.items ++ c.in_ok-code.code ∷ [] = grind (arith, common_steps) in
    record {
      first = refused_behind c.args.members.now i m c.loop-member-test.true c.member-item.is c.in_ok-code.ensures.valid ∙ c.loop-member.invariant.first;
      emitted = subst (λ l. AreEmitted (take (i + 1) c.args.members.now) l) (sym pushed) (emitted_more c.args.members.now i m c.loop-member.codes.items c.in_ok-code.code c.loop-member-test.true c.member-item.is c.loop-member.invariant.emitted c.in_ok-code.ensures);
    }
