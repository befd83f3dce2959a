use Rattle.std.proofs.Common.{◌≡◌, ◌*◌, ◌++◌, arith, sym, ap, subst, ◌∙◌, take, drop}
use Rattle.hex.specs.Hex.{decode_of}
use Rattle.s390x_disassembler.proofs.Groups.{AreLeft, group_read, groups_done}
use Rattle.s390x_disassembler.proofs.candidate.groups.Goals as goal

pub loop-rest-preserved : goal.loop-rest-preserved
loop-rest-preserved c =
    let size = c.args.size in
    let rest = c.loop-rest.rest.now in
    let items : c.extend_from_slice.new.self.items ≡ c.loop-rest.bytes.items ++ c.in_ok-group.group.items = rw c.deref.ensures.value at c.in_ok-extend_from_slice.ensures.items in
    let behind : c.text_behind-rest.result.now ≡ drop (2 * size) (drop 3 rest) = c.text_behind-rest.ensures ∙ ap (drop (2 * size)) c.text_behind-digits.ensures in
    let digits : c.head.result.now ≡ take (2 * size) (drop 3 rest) = c.head.ensures ∙ ap (take (2 * size)) c.text_behind-digits.ensures in
    record {
      separator = λ e. omega (arith, e);
      left = λ write u more g hu whole is.
          subst (λ t. AreLeft size write 44 u t c.text_behind-rest.result.now more) (sym items) (subst (λ t. AreLeft size write 44 u (c.loop-rest.bytes.items ++ c.in_ok-group.group.items) t more) (sym behind)
          (group_read size c.loop-rest.separator write u c.loop-rest.bytes.items rest more c.in_ok-group.group.items c.requires.some c.requires.few c.loop-rest.invariant.separator g (sym c.begins.ensures ∙ c.loop-rest-test.true)
          (λ v e. c.in_ok-group.ensures v (ap decode_of digits ∙ e)) (c.loop-rest.invariant.left write u more g hu whole is)));
    }

pub returns : goal.returns
returns c = λ write u more g hu whole is.
    groups_done c.args.size c.loop-rest.separator write u c.loop-rest.bytes.items c.loop-rest.rest.now more c.requires.some c.requires.few g (sym c.begins.ensures ∙ c.loop-rest-test.false) (c.loop-rest.invariant.left write u more g hu whole is)
