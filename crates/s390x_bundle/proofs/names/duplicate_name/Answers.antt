use Rattle.std.proofs.Common.{◌≡◌, ◌∙◌, sym, ap, arith, List, None}
use Rattle.s390x_job.specs.declared.job.SymbolLine.{SymbolLine}
use Rattle.s390x_bundle.specs.Names.{line_among, names_of}
use Rattle.s390x_bundle.proofs.Naming.{duplicate_turn, has_member, was_absent}
use Rattle.s390x_bundle.proofs.names.duplicate_name.Goals as goal

pub loop-member-preserved : goal.loop-member-preserved
loop-member-preserved c =
    let members = c.args.members.now in
    let names = names_of members in
    let member = c.member-item.result in
    let other = sym (c.loop-member.invariant.seen member.name) ∙ was_absent c.in_ok-insert.field-0 _ c.if-not-branch.false c.in_ok-insert.ensures.added in
    let none : line_among names member.symbols.items ≡ None =
    sym (ap (λ (l : List SymbolLine). line_among names l) c.deref.ensures.value) ∙ sym (c.named_line.ensures names c.in_ok-names.ensures) ∙ c.in-None.is in
    record {
      seen = has_member c.loop-member.earlier c.insert.new.self members c.loop-member.member-index member (omega arith) c.member-item.is c.in_ok-insert.ensures.updates c.loop-member.invariant.seen;
      rest = duplicate_turn names members c.loop-member.member-index member _ (omega arith) c.member-item.is other none c.loop-member.invariant.rest;
    }
