-- Blocks and instructions that have texts.
use Rattle.std.proofs.Common.{◌≡◌, ℕ, ◌+◌, ◌<◌, List, [], ◌∷◌, ◌++◌, length, get_or, drop, sym, ap, ◌∙◌, refl}
use Rattle.std.specs.Prelude.{Option, Some, None, codes}
use Rattle.s390x_inst.specs.Emission.{Emission}
use Rattle.s390x_inst.specs.declared.inst.Inst.{Inst}
use Rattle.s390x_inst.specs.declared.state.IsaFlags.{IsaFlags}
use Rattle.s390x_inst.specs.declared.function.Block.{Block}
use Rattle.s390x_text_rows.specs.Texts.{first_cause}
use Rattle.s390x_text_rows.specs.declared.error.TextError.{TextError}
use Rattle.s390x_text.specs.Instructions.{after, inst_text}
use Rattle.s390x_listing.specs.Texts.{blocks_texts, inst_texts}
use Rattle.s390x_binary_tool.specs.InstSteps.{steps_of}
use Rattle.s390x_binary_tool.specs.Notes.{block_notes, inst_line, inst_notes, placed_note, starts_behind}
use Rattle.s390x_binary_tool.proofs.Pushing.{item, went}

-- two causes, of which the first is none
pub first_left : (a b : Option TextError) → first_cause a b ≡ None → a ≡ None
first_left None b e = refl
first_left (Some x) b e = e

pub first_right : (a b : Option TextError) → first_cause a b ≡ None → b ≡ None
first_right None b e = e
first_right (Some x) b e = absurd cc

-- ---- instructions

insts_at : (flags : IsaFlags) (e : Emission) (is : List Inst) (i : ℕ) (z d : Inst) → i < length is → d ≡ get_or is i z → (inst_texts flags e (drop i is)).cause ≡ first_cause (inst_text flags 0 e d).cause (inst_texts flags (after e d) (drop (i + 1) is)).cause
insts_at flags e is i z d h q = ap (λ js. (inst_texts flags e js).cause) (item is i z d h q)

pub inst_told : (flags : IsaFlags) (e : Emission) (is : List Inst) (i : ℕ) (z d : Inst) → i < length is → d ≡ get_or is i z → (inst_texts flags e (drop i is)).cause ≡ None → (inst_text flags 0 e d).cause ≡ None
inst_told flags e is i z d h q n = first_left _ _ (sym (insts_at flags e is i z d h q) ∙ n)

pub insts_told : (flags : IsaFlags) (e f : Emission) (is : List Inst) (i : ℕ) (z d : Inst) → i < length is → d ≡ get_or is i z → f ≡ after e d → (inst_texts flags e (drop i is)).cause ≡ None → (inst_texts flags f (drop (i + 1) is)).cause ≡ None
insts_told flags e f is i z d h q a n = ap (λ s. (inst_texts flags s (drop (i + 1) is)).cause) a ∙ first_right _ _ (sym (insts_at flags e is i z d h q) ∙ n)

pub insts_went : (flags : IsaFlags) (e f : Emission) (left behind : List ℕ) (is : List Inst) (i : ℕ) (z d : Inst) (o : ℕ) (old out new : List (ℕ × List ℕ)) → i < length is → d ≡ get_or is i z
    → o ≡ get_or left 0 0 → behind ≡ drop (steps_of e d) left → f ≡ after e d → new ≡ out ++ (o, inst_line flags e d) ∷ []
    → out ++ inst_notes flags e left (drop i is) ≡ old → new ++ inst_notes flags f behind (drop (i + 1) is) ≡ old
insts_went flags e f left behind is i z d o old out new h q at b a n inv =
    let rest = drop (i + 1) is in
    ap (λ s. new ++ inst_notes flags s behind rest) a
    ∙ ap (λ l. new ++ inst_notes flags (after e d) l rest) b
    ∙ went old out new ((o, inst_line flags e d) ∷ []) (inst_notes flags e left (drop i is)) (inst_notes flags (after e d) (drop (steps_of e d) left) rest) n
    (ap (inst_notes flags e left) (item is i z d h q) ∙ ap (λ x. (x, inst_line flags e d) ∷ inst_notes flags (after e d) (drop (steps_of e d) left) rest) (sym at))
    inv

pub starts_went : (e f : Emission) (left behind all : List ℕ) (is : List Inst) (i : ℕ) (z d : Inst) → i < length is → d ≡ get_or is i z
    → behind ≡ drop (steps_of e d) left → f ≡ after e d → starts_behind e left (drop i is) ≡ all → starts_behind f behind (drop (i + 1) is) ≡ all
starts_went e f left behind all is i z d h q b a inv =
    ap (λ s. starts_behind s behind (drop (i + 1) is)) a
    ∙ ap (λ l. starts_behind (after e d) l (drop (i + 1) is)) b
    ∙ ap (starts_behind e left) (sym (item is i z d h q))
    ∙ inv

-- ---- blocks

blocks_at : (flags : IsaFlags) (e : Emission) (bs : List Block) (i : ℕ) (z d : Block) → i < length bs → d ≡ get_or bs i z → (blocks_texts flags e i (drop i bs)).cause ≡ first_cause (inst_texts flags e d.insts.items).cause (blocks_texts flags e (i + 1) (drop (i + 1) bs)).cause
blocks_at flags e bs i z d h q = ap (λ cs. (blocks_texts flags e i cs).cause) (item bs i z d h q)

pub block_told : (flags : IsaFlags) (e : Emission) (bs : List Block) (i : ℕ) (z d : Block) → i < length bs → d ≡ get_or bs i z → (blocks_texts flags e i (drop i bs)).cause ≡ None → (inst_texts flags e d.insts.items).cause ≡ None
block_told flags e bs i z d h q n = first_left _ _ (sym (blocks_at flags e bs i z d h q) ∙ n)

pub blocks_told : (flags : IsaFlags) (e : Emission) (bs : List Block) (i : ℕ) (z d : Block) → i < length bs → d ≡ get_or bs i z → (blocks_texts flags e i (drop i bs)).cause ≡ None → (blocks_texts flags e (i + 1) (drop (i + 1) bs)).cause ≡ None
blocks_told flags e bs i z d h q n = first_right (inst_texts flags e d.insts.items).cause _ (sym (blocks_at flags e bs i z d h q) ∙ n)

pub blocks_went : (flags : IsaFlags) (e : Emission) (base : ℕ) (block_starts left behind : List ℕ) (bs : List Block) (i : ℕ) (z d : Block) (o : ℕ) (old out headed new : List (ℕ × List ℕ))
    → i < length bs → d ≡ get_or bs i z → o ≡ get_or block_starts i 0
    → headed ≡ out ++ placed_note (codes "block") base i o ∷ [] → new ≡ headed ++ inst_notes flags e left d.insts.items → behind ≡ starts_behind e left d.insts.items
    → out ++ block_notes flags e base block_starts left i (drop i bs) ≡ old → new ++ block_notes flags e base block_starts behind (i + 1) (drop (i + 1) bs) ≡ old
blocks_went flags e base block_starts left behind bs i z d o old out headed new h q at t n b inv =
    let rest = drop (i + 1) bs in
    let later = block_notes flags e base block_starts (starts_behind e left d.insts.items) (i + 1) rest in
    let insts = inst_notes flags e left d.insts.items in
    ap (λ l. new ++ block_notes flags e base block_starts l (i + 1) rest) b
    ∙ went old headed new insts (insts ++ later) later n refl
    (went old out headed (placed_note (codes "block") base i o ∷ []) (block_notes flags e base block_starts left i (drop i bs)) (insts ++ later) t
    (ap (block_notes flags e base block_starts left i) (item bs i z d h q) ∙ ap (λ x. placed_note (codes "block") base i x ∷ (insts ++ later)) (sym at))
    inv)
