use Rattle.std.proofs.Common.{◌≡◌, ◌+◌, ◌-◌, ◌*◌, ◌/◌, ◌%◌, ◌^◌, [], ◌∷◌, ◌++◌, length, append_assoc, length-append, sym, ap, ◌∙◌, arith}
use Rattle.s390x_format.specs.Reading.{be_bytes}
use Rattle.s390x_disassembler.proofs.Tables.{be_step, be_done}
use Rattle.s390x_disassembler.proofs.candidate.number_bytes.Goals as goal

pub loop-i-preserved : goal.loop-i-preserved
loop-i-preserved c =
    let so : c.loop-i.bytes.items ++ be_bytes (c.args.count - c.loop-i.i) c.args.number ≡ be_bytes c.args.count c.args.number = c.loop-i.invariant.so in
    let items : c.push.new.self.items ≡ c.loop-i.bytes.items ++ ((c.args.number / 2 ^ (8 * (c.args.count - 1 - c.loop-i.i)) % 256) ∷ []) = c.push.ensures.items in
    record {
      many = omega (arith, ap length items, length-append c.loop-i.bytes.items ((c.args.number / 2 ^ (8 * (c.args.count - 1 - c.loop-i.i)) % 256) ∷ []), c.loop-i.invariant.many);
      so =
          ap (λ t. t ++ be_bytes (c.args.count - (c.loop-i.i + 1)) c.args.number) items
          ∙ append_assoc c.loop-i.bytes.items ((c.args.number / 2 ^ (8 * (c.args.count - 1 - c.loop-i.i)) % 256) ∷ []) (be_bytes (c.args.count - (c.loop-i.i + 1)) c.args.number)
          ∙ ap (λ t. c.loop-i.bytes.items ++ t) (sym (be_step c.args.count c.loop-i.i c.args.number c.loop-i-test.true)) ∙ so;
    }

pub returns : goal.returns
returns c = be_done c.args.count c.loop-i.i c.args.number c.loop-i.bytes.items (be_bytes c.args.count c.args.number) c.loop-i-test.false c.loop-i.invariant.so
