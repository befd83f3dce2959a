-- Declared constants.
use Rattle.std.proofs.Common.{◌≡◌, ℕ, zero, suc, ◌<◌, ◌≤◌, List, [], ◌∷◌, map, length, get_or, Some, None, sym, ap, ◌∙◌, arith}
use Rattle.std.specs.List.{slice_get}
use Rattle.std.proofs.lemmas.Option.{slice_get_past}
use Rattle.std.proofs.lemmas.List.{length-map}
use Rattle.s390x_base.specs.declared.ir.ConstantData.{ConstantData}
use Rattle.s390x_buffer.specs.State.{BufferState, Constant, constant_of, align_of}

abbrev aligns : List ConstantData → List ℕ
aligns cs = map (λ (d : Constant). d.align) (map constant_of cs)

aligns-at : (cs : List ConstantData) (k : ℕ) (c : ConstantData) → k < length cs → c ≡ get_or cs k c → slice_get (aligns cs) k ≡ Some c.align
aligns-at [] k c h e = absurd (omega arith)
aligns-at (d ∷ cs) zero c h e = ap (λ (x : ConstantData). Some x.align) (sym e)
aligns-at (d ∷ cs) (suc k) c h e = aligns-at cs k c (omega arith) e

pub align-some : (s : BufferState) (xs cs : List ConstantData) (k : ℕ) (c : ConstantData) → map constant_of xs ≡ s.constants → cs ≡ xs → k < length cs → c ≡ get_or cs k c → Some c.align ≡ align_of s k
align-some s xs cs k c v e h g = sym (ap (λ l. slice_get (map (λ (d : Constant). d.align) l) k) (sym v ∙ ap (map constant_of) (sym e)) ∙ aligns-at cs k c h g)

pub align-none : (s : BufferState) (xs cs : List ConstantData) (k : ℕ) → map constant_of xs ≡ s.constants → cs ≡ xs → length cs ≤ k → None ≡ align_of s k
align-none s xs cs k v e h =
    let l : length (aligns cs) ≤ k = omega (arith, length-map cs constant_of, length-map (map constant_of cs) (λ (d : Constant). d.align)) in
    sym (ap (λ l. slice_get (map (λ (d : Constant). d.align) l) k) (sym v ∙ ap (map constant_of) (sym e)) ∙ slice_get_past (aligns cs) k l)
