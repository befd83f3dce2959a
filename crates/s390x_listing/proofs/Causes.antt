-- Where each instruction of a function has a text, their listing has no cause to be refused.
use Rattle.std.proofs.Common.{◌≡◌, ℕ, ◌+◌, List, [], ◌∷◌, None, refl, ap, ◌∙◌}
use Rattle.std.proofs.lemmas.List.Elements.{All-head, All-tail}
use Rattle.std.specs.Prelude.{All}
use Rattle.s390x_inst.specs.Emission.{Emission}
use Rattle.s390x_inst.specs.declared.function.Block.{Block}
use Rattle.s390x_inst.specs.declared.inst.Inst.{Inst}
use Rattle.s390x_inst.specs.declared.state.IsaFlags.{IsaFlags}
use Rattle.s390x_text_rows.specs.Texts.{first_cause}
use Rattle.s390x_text.specs.Instructions.{after, inst_text, insts_text}
use Rattle.s390x_text.specs.Laws.{HasTextsInOrder}
use Rattle.s390x_text.proofs.CallTexts.{first_fine}
use Rattle.s390x_listing.specs.Texts.{blocks_texts, inst_texts}

-- the lines of instructions are refused as their texts are
lines_cause : (flags : IsaFlags) (e : Emission) (is : List Inst) → (inst_texts flags e is).cause ≡ (insts_text flags 0 e is).cause
lines_cause flags e [] = refl
lines_cause flags e (i ∷ is) = ap (first_cause (inst_text flags 0 e i).cause) (lines_cause flags (after e i) is)

pub blocks_told : (flags : IsaFlags) (e : Emission) (k : ℕ) (blocks : List Block) → All (HasTextsInOrder flags e) blocks → (blocks_texts flags e k blocks).cause ≡ None
blocks_told flags e k [] told = refl
blocks_told flags e k (b ∷ bs) told =
    first_fine _ _ (lines_cause flags e b.insts.items ∙ All-head (HasTextsInOrder flags e) b bs told) (blocks_told flags e (k + 1) bs (All-tail (HasTextsInOrder flags e) b bs told))
