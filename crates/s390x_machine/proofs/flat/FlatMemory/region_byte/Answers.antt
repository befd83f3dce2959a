use Rattle.std.proofs.Common.{◌-◌, ◌||◌, ◌∙◌, Bool, if◌then◌else◌, sym, ap, slice_index}
use Rattle.std.specs.BTreeMap.{get}
use Rattle.std.specs.Option.{is_some, unwrap_or}
use Rattle.std.specs.Ordering.{nat_cmp}
use Rattle.std.proofs.lemmas.Grind.{get_or_default_zero}
use Rattle.s390x_machine.specs.Regions.{contains, byte_in}
use Rattle.s390x_machine.specs.declared.flat.Region.{Region}
use Rattle.s390x_machine.proofs.Regions.{inside, held_here, byte_here}
use Rattle.s390x_machine.proofs.flat.FlatMemory.region_byte.Goals as goal

pub returns-clause-held : goal.returns-clause-held
returns-clause-held c =
    let h = c.requires in
    let z = c.index-region.result.now in
    ap (λ (b : Bool). b || is_some (get nat_cmp c.args.self.now.older c.args.address)) (held_here c.args.self.now.regions.items c.args.address c.args.i z h.0 h.2 (h.1 z))

pub returns-clause-value : goal.returns-clause-value
returns-clause-value c =
    let rs = c.args.self.now.regions.items in
    let a = c.args.address in
    let h = c.requires in
    let z = c.index-region.result.now in
    let here = ap (λ (r : Region). contains r a) c.index-region.ensures ∙ h.1 z in
    c.index.ensures
    ∙ get_or_default_zero z.bytes.items (a - z.start) c.index.result.now (inside z a here)
    ∙ ap (λ (r : Region). slice_index r.bytes.items (a - r.start)) c.index-region.ensures
    ∙ sym (byte_here rs a c.args.i z h.0 h.2 (h.1 z))
    ∙ sym (ap (λ (b : Bool). if b then byte_in rs a else unwrap_or (get nat_cmp c.args.self.now.older a) 0) (held_here rs a c.args.i z h.0 h.2 (h.1 z)))
