-- The texts of a function's instructions.
use Rattle.std.specs.Prelude.{ℕ, ◌+◌, List, [], ◌∷◌, ◌++◌}
use Rattle.s390x_inst.specs.Emission.{Emission}
use Rattle.s390x_inst.specs.declared.inst.Inst.{Inst}
use Rattle.s390x_inst.specs.declared.state.IsaFlags.{IsaFlags}
use Rattle.s390x_inst.specs.declared.function.Block.{Block}
use Rattle.s390x_text_rows.specs.Texts.{Text, fixed_text, both}
use Rattle.s390x_text.specs.Instructions.{after, inst_text}
use Rattle.s390x_listing.specs.Listings.{block_head}

-- the line of an instruction: its text
abbrev pub text_line : IsaFlags → Emission → Inst → Text
text_line flags e i = record { cause = (inst_text flags 0 e i).cause; bytes = (inst_text flags 0 e i).bytes ++ 10 ∷ [] }

-- the lines of instructions, each in the state behind those before it
abbrev pub inst_texts : IsaFlags → Emission → List Inst → Text
inst_texts flags e [] = fixed_text []
inst_texts flags e (i ∷ is) = both (text_line flags e i) (inst_texts flags (after e i) is)

-- a block: its line, and those of its instructions
abbrev pub block_texts : IsaFlags → Emission → ℕ → Block → Text
block_texts flags e k b = both (fixed_text (block_head k)) (inst_texts flags e b.insts.items)

-- blocks, counted from a number on; each begins in the same state, as it does for emission
abbrev pub blocks_texts : IsaFlags → Emission → ℕ → List Block → Text
blocks_texts flags e k [] = fixed_text []
blocks_texts flags e k (b ∷ bs) = both (block_texts flags e k b) (blocks_texts flags e (k + 1) bs)

-- the blocks of a function
abbrev pub texts_listing : IsaFlags → Emission → List Block → Text
texts_listing flags e blocks = blocks_texts flags e 0 blocks
