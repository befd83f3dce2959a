use Rattle.std.proofs.Common.{◌+◌, ◌-◌, slice_index, sym, ap, subst, ◌∙◌}
use Rattle.s390x_machine.specs.Regions.{ContainsAll}
use Rattle.s390x_machine.specs.declared.flat.Region.{Region}
use Rattle.s390x_machine.proofs.Regions.{first_bytes}
use Rattle.s390x_machine.proofs.flat.FlatMemoryMemory.leading_bytes.Goals as goal

pub bytes_from-requires : goal.bytes_from-requires
bytes_from-requires c =
    let h = c.is_in_first.ensures c.if-not-is_in_first.false in
    subst (λ (r : Region). ContainsAll r c.args.address 6) (sym c.index-region.ensures) (h.1 c.index-region.result.now)

pub returns : goal.returns
returns c =
    let h = c.is_in_first.ensures c.if-not-is_in_first.false in
    first_bytes c.args.self.now c.args.address c.args.n c.index-region.result.now c.bytes_from.result c.requires h c.bytes_from.ensures.six
    (λ i lt. c.bytes_from.ensures.bytes i lt ∙ ap (λ (r : Region). slice_index r.bytes.items (c.args.address + i - r.start)) c.index-region.ensures)
