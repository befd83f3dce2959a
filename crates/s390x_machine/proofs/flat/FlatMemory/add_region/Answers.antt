use Rattle.std.proofs.Common.{ℕ, List, Bool, ◌||◌, ◌-◌, if◌then◌else◌, slice_index, refl, ap, ◌∙◌}
use Rattle.s390x_machine.specs.Regions.{covers, has_address, held_by, byte_by}
use Rattle.s390x_machine.specs.declared.flat.Region.{Region}
use Rattle.s390x_machine.proofs.Folding.{has_below, held_first, byte_first}
use Rattle.s390x_machine.proofs.flat.FlatMemory.add_region.Goals as goal

pub returns-clause-added : goal.returns-clause-added
returns-clause-added c =
    let rs = c.fold_last.new.regions.items in
    let r : Region = record { start = c.args.start; bytes = c.in_ok-bytes.bytes } in
    λ a. ap (λ (xs : List Region). held_by xs c.fold_last.new.older a) c.in_ok-put_first.ensures
    ∙ held_first r rs c.fold_last.new.older a
    ∙ ap (λ (b : Bool). has_address c.args.start r.bytes.items a || b) (c.in_ok-fold_last.ensures a).held
    ∙ ap (λ (bs : List ℕ). has_address c.args.start bs a || held_by c.args.self.now.regions.items c.args.self.now.older a) c.in_ok-bytes.ensures
    ∙ ap (λ (b : Bool). b || held_by c.args.self.now.regions.items c.args.self.now.older a) (has_below c.args.start c.args.bytes.now a (covers c.args.start c.args.bytes.now a) refl c.requires)

pub returns-clause-filled : goal.returns-clause-filled
returns-clause-filled c =
    let rs = c.fold_last.new.regions.items in
    let r : Region = record { start = c.args.start; bytes = c.in_ok-bytes.bytes } in
    let old = λ (a : ℕ). byte_by c.args.self.now.regions.items c.args.self.now.older a in
    λ a. ap (λ (xs : List Region). byte_by xs c.fold_last.new.older a) c.in_ok-put_first.ensures
    ∙ byte_first r rs c.fold_last.new.older a
    ∙ ap (λ (n : ℕ). if has_address c.args.start r.bytes.items a then slice_index r.bytes.items (a - c.args.start) else n) (c.in_ok-fold_last.ensures a).byte
    ∙ ap (λ (bs : List ℕ). if has_address c.args.start bs a then slice_index bs (a - c.args.start) else old a) c.in_ok-bytes.ensures
    ∙ ap (λ (b : Bool). if b then slice_index c.args.bytes.now (a - c.args.start) else old a) (has_below c.args.start c.args.bytes.now a (covers c.args.start c.args.bytes.now a) refl c.requires)
