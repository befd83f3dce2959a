use Rattle.std.proofs.Common.{◌≡◌, ◌+◌, [], ◌∷◌, ◌++◌, take, ◌∙◌, sym, subst, arith}
use Rattle.std.proofs.lemmas.Grind.{common_steps}
use Rattle.s390x_bundle.specs.Emitted.{HasNoCode, first_refused}
use Rattle.s390x_bundle.proofs.Emitting.{again, refused_behind, refused_now}
use Rattle.s390x_binary_tool.specs.Objects.{AreObjectMembers}
use Rattle.s390x_binary_tool.proofs.Joining.{members_more}
use Rattle.s390x_binary_tool.proofs.functions.emit_members.Goals as goal

pub returns-in_err-object : goal.returns-in_err-object
returns-in_err-object c =
    let i = c.loop-member.member-index in
    let m = c.member-item.result in
    again _ (HasNoCode (first_refused c.args.members.now)) c.from_residual.result _ c.from_residual.ensures.1
    (refused_now c.args.members.now i m _ c.loop-member-test.true c.member-item.is c.loop-member.invariant.first c.in_err-object.ensures)

pub loop-member-preserved : goal.loop-member-preserved
loop-member-preserved c =
    let i = c.loop-member.member-index in
    let m = c.member-item.result in
    let pushed : c.push.new.self.items ≡ c.loop-member.objects.items ++ c.in_ok-object.object ∷ [] = grind (arith, common_steps) in
    record {
      first = refused_behind c.args.members.now i m c.loop-member-test.true c.member-item.is c.in_ok-object.ensures.emitted.valid ∙ c.loop-member.invariant.first;
      are = subst (λ l. AreObjectMembers (take (i + 1) c.args.members.now) l) (sym pushed) (members_more c.args.members.now i m c.loop-member.objects.items c.in_ok-object.object c.loop-member-test.true c.member-item.is c.loop-member.invariant.are c.in_ok-object.ensures);
    }
