use Rattle.std.proofs.Common.{◌≡◌, ℕ, ◌-◌, ◌∷◌, ◌++◌, List, [], Some, take, slice_index, sym, ap, ◌∙◌, subst, arith}
use Rattle.s390x_machine.specs.Regions.{has_address, IsFolded}
use Rattle.s390x_machine.specs.declared.flat.Region.{Region}
use Rattle.s390x_machine.proofs.Folding.{last_of, folded_last, folded_partly}
use Rattle.s390x_machine.proofs.flat.fold_last.Goals as goal

pub returns-in_err-put_bytes : goal.returns-in_err-put_bytes
returns-in_err-put_bytes c =
    let rs = c.args.regions.now.items in
    let n = c.len-count.result - 1 in
    let r = c.index-last.result.now in
    let older = c.args.older.now in
    let newer = c.put_bytes.new.older in
    let split : rs ≡ take n rs ++ (r ∷ []) = last_of rs n r (omega (arith, c.len-count.ensures)) ∙ ap (λ (z : Region). take n rs ++ (z ∷ [])) (sym c.index-last.ensures) in
    λ a. subst (λ (xs : List Region). IsFolded xs older xs newer a) (sym split)
    (folded_partly (take n rs) r older newer a (λ out. c.put_bytes.ensures.outside a (ap (λ (bs : List ℕ). has_address r.start bs a) c.deref.ensures.value ∙ out)))

pub returns : goal.returns
returns c =
    let rs = c.args.regions.now.items in
    let n = c.len-count.result - 1 in
    let r = c.index-last.result.now in
    let older = c.args.older.now in
    let newer = c.put_bytes.new.older in
    let split : rs ≡ take n rs ++ (r ∷ []) = last_of rs n r (omega (arith, c.len-count.ensures)) ∙ ap (λ (z : Region). take n rs ++ (z ∷ [])) (sym c.index-last.ensures) in
    λ a. subst (λ (xs : List Region). IsFolded rs older xs newer a) (sym c.truncate.ensures.items)
    (subst (λ (xs : List Region). IsFolded xs older (take n rs) newer a) (sym split)
    (folded_last (take n rs) r older newer a
    (λ out. c.put_bytes.ensures.outside a (ap (λ (bs : List ℕ). has_address r.start bs a) c.deref.ensures.value ∙ out))
    (λ here. c.in_ok-put_bytes.ensures.inside a (ap (λ (bs : List ℕ). has_address r.start bs a) c.deref.ensures.value ∙ here) ∙ ap (λ (bs : List ℕ). Some (slice_index bs (a - r.start))) c.deref.ensures.value)))
