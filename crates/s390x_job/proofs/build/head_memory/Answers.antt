use Rattle.std.proofs.Common.{◌≡◌, ◌+◌, ◌≤◌, ◌^◌, length, sym, ap, ◌∙◌, arith}
use Rattle.s390x_job.specs.Grammar.{may_follow}
use Rattle.s390x_job.specs.Builds.{rank_of}
use Rattle.s390x_job.proofs.Beginnings.{begun, memory_next, region}
use Rattle.s390x_job.proofs.build.head_memory.Goals as goal

pub returns : goal.returns
returns c =
    let r = c.args.region in
    let l : length c.deref-bytes.result.now ≡ length r.bytes.items = ap length c.deref-bytes.ensures.value in
    let f = ap (may_follow (rank_of c.args.stage) c.args.bound 5) (sym c.from-address.ensures) ∙ sym c.may_stand.ensures ∙ c.if-not-may_stand.false in
    let b : r.address + length r.bytes.items ≤ 2 ^ 64 = omega (arith, l, c.from-address.ensures) in
    let k = region r.address (length r.bytes.items) (λ e. c.if-size-eq0.false (l ∙ e)) b in
    rw (c.from-address.ensures, l) (begun (rank_of c.args.stage) c.args.bound c.args.b.now c.requires (memory_next (rank_of c.args.stage) c.args.bound c.args.b.now.beginning c.requires.beginning r c.push.new.self f k c.in_ok-push.ensures.items))
