-- The blocks so far, and those behind them.
use Rattle.std.proofs.Common.{◌≡◌, ℕ, suc, ◌+◌, ◌-◌, ◌<◌, List, [], ◌∷◌, ◌++◌, map, sym, ap, ◌∙◌, arith, append_assoc}
use Rattle.std.proofs.lemmas.List.{map-append}
use Rattle.s390x_inst.specs.declared.function.Block.{Block}
use Rattle.s390x_generator.specs.Generator.{generated_block, generated_from, insts_of, next_number}

-- a block more
pub block_more : (n k x y : ℕ) (bs pushed : List Block) (b : Block) → k < n → y ≡ next_number x → insts_of b ≡ generated_block n k y → pushed ≡ bs ++ b ∷ []
    → map insts_of pushed ++ generated_from n (k + 1) (n - (k + 1)) y ≡ map insts_of bs ++ generated_from n k (n - k) x
block_more n k x y bs pushed b h drawn is push =
    let rest = generated_from n (k + 1) (n - (k + 1)) y in
    let left : n - k ≡ suc (n - (k + 1)) = omega (arith, h) in
    ap (λ l. map insts_of l ++ rest) push
    ∙ ap (λ l. l ++ rest) (map-append insts_of bs (b ∷ []))
    ∙ append_assoc (map insts_of bs) (insts_of b ∷ []) rest
    ∙ ap (λ i. map insts_of bs ++ (i ∷ rest)) is
    ∙ ap (λ z. map insts_of bs ++ (generated_block n k z ∷ generated_from n (k + 1) (n - (k + 1)) z)) drawn
    ∙ ap (λ m. map insts_of bs ++ generated_from n k m x) (sym left)
