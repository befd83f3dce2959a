use Rattle.std.proofs.Common.{◌≡◌, ◌+◌, sym, ap, ◌∙◌, subst}
use Rattle.s390x_inst.specs.Emission.{Emission}
use Rattle.s390x_typed_steps.specs.Causes.{declared_in}
use Rattle.s390x_refusal.specs.Members.{IsRefusedAmong, point_inside}
use Rattle.s390x_refusal.specs.Search.{point_of}
use Rattle.s390x_refusal.proofs.Nesting.{path_of_member, path_of_none, path_through}
use Rattle.s390x_refusal.proofs.Stepping.{same_member}
use Rattle.s390x_refusal.proofs.Walking.{of_first}
use Rattle.s390x_refusal.proofs.members.+path.Goals as goal

pub path_among-returns-in-Ok : goal.path_among-returns-in-Ok
path_among-returns-in-Ok t c =
    let flags = c.args.flags in
    let D = declared_in c.args.sink.now in
    let p = point_of c.args.scope c.args.state.now in
    let is = c.args.insts.now in
    let first = c.in-Some.first in
    let found = rw c.in-Some.is at c.in_ok-first.ensures in
    let q = point_of (record { labels = first.labels; depth = c.args.scope.depth }) c.first_member.new.state in
    let same = same_member is first.index c.index-insts-first.result found.0.there c.index-insts-first.is in (
      first.error,
      of_first flags D p is first.index first.error found.0.there found.0.before found.3,
      subst (λ ns. IsRefusedAmong flags D p is first.error ns) (sym c.in-Ok.ensures.items)
          (path_of_member flags D p q is first.index c.index-insts-first.result first.error c.in_ok-path.path.items found.0 found.1 same found.3 c.in_ok-path.ensures),
    )

pub path_to-returns-in-Some : goal.path_to-returns-in-Some
path_to-returns-in-Some t c =
    let flags = c.args.flags in
    let D = declared_in c.args.sink.now in
    let d = c.args.scope.depth in
    let n = c.args.scope.labels in
    let p = point_of c.args.scope c.args.state.now in
    let inside = c.clear_post_insn.new.self in
    let q = point_of (record { labels = c.in-Ok.opened.labels; depth = d + 1 }) inside in
    let at : q ≡ point_inside p = ap (λ m. point_of (record { labels = m; depth = d + 1 }) inside) c.in-Ok.ensures.1.labels ∙ ap (λ (e : Emission). point_of (record { labels = n + 2; depth = d + 1 }) e) c.clear_post_insn.ensures in
    path_through flags D p q c.args.inst.now c.in-Loop.cond c.in-Loop.body c.deref.result.now c.in-Some.path c.in-Loop.is c.in-Ok.ensures.0 at c.deref.ensures.value (rw c.in-Some.is at c.in_ok-path.ensures)

pub path_to-returns-in-None : goal.path_to-returns-in-None
path_to-returns-in-None t c =
    let flags = c.args.flags in
    let D = declared_in c.args.sink.now in
    let d = c.args.scope.depth in
    let n = c.args.scope.labels in
    let p = point_of c.args.scope c.args.state.now in
    let inside = c.clear_post_insn.new.self in
    let q = point_of (record { labels = c.in-Ok.opened.labels; depth = d + 1 }) inside in
    let at : q ≡ point_inside p = ap (λ m. point_of (record { labels = m; depth = d + 1 }) inside) c.in-Ok.ensures.1.labels ∙ ap (λ (e : Emission). point_of (record { labels = n + 2; depth = d + 1 }) e) c.clear_post_insn.ensures in
    path_of_none flags D p q c.args.inst.now c.in-Loop.cond c.in-Loop.body c.new-in-None.result.items c.deref.result.now c.in-Loop.is c.in-Ok.ensures.0 at c.deref.ensures.value (rw c.in-None.is at c.in_ok-path.ensures)
