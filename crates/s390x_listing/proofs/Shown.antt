-- Loops over the blocks and the instructions of a listing of texts.
use Rattle.std.proofs.Common.{◌≡◌, ℕ, ◌+◌, ◌<◌, List, ◌∷◌, ◌++◌, length, get_or, drop, sym, ap, ◌∙◌, subst, append_assoc}
use Rattle.std.proofs.lemmas.List.{drop_more}
use Rattle.std.specs.Prelude.{Option, None, Result, Ok, Err}
use Rattle.s390x_inst.specs.Emission.{Emission}
use Rattle.s390x_inst.specs.declared.inst.Inst.{Inst}
use Rattle.s390x_inst.specs.declared.state.IsaFlags.{IsaFlags}
use Rattle.s390x_inst.specs.declared.function.Block.{Block}
use Rattle.s390x_text_rows.specs.Texts.{Text, RefusedBy, Prints, both, first_cause, fixed_text}
use Rattle.s390x_text.specs.Instructions.{after}
use Rattle.s390x_text_rows.specs.declared.error.TextError.{TextError}
use Rattle.s390x_text.proofs.Loops.{refused_first}
use Rattle.s390x_listing.specs.Texts.{block_texts, blocks_texts, inst_texts, text_line}

-- the element at an index, and those behind it
item : {A : Type 0} (xs : List A) (i : ℕ) (z d : A) → i < length xs → d ≡ get_or xs i z → drop i xs ≡ d ∷ drop (i + 1) xs
item xs i z d h e = drop_more xs i z h ∙ ap (λ y. y ∷ drop (i + 1) xs) (sym e)

-- what is left is a text t and the rest; t was written
went : (left t rest : Text) (old out new : List ℕ) → left ≡ both t rest → new ≡ out ++ t.bytes → out ++ left.bytes ≡ old → new ++ rest.bytes ≡ old
went left t rest old out new s n inv =
    ap (λ x. x ++ rest.bytes) n ∙ append_assoc out t.bytes rest.bytes ∙ ap (λ x. out ++ x.bytes) (sym s) ∙ inv

clear : (left t rest : Text) (c : Option TextError) → left ≡ both t rest → t.cause ≡ None → left.cause ≡ c → rest.cause ≡ c
clear left t rest c s n inv = sym (ap (λ p. first_cause p rest.cause) n) ∙ ap (λ x. x.cause) (sym s) ∙ inv

blamed : (left t rest : Text) (c : Option TextError) (error : TextError) → left ≡ both t rest → RefusedBy t.cause error → left.cause ≡ c → RefusedBy c error
blamed left t rest c error s b inv =
    subst (λ r. RefusedBy r error) (ap (λ x. x.cause) (sym s) ∙ inv) (refused_first t.cause rest.cause error b)

-- ---- blocks

blocks_at : (flags : IsaFlags) (e : Emission) (bs : List Block) (i : ℕ) (z d : Block) → i < length bs → d ≡ get_or bs i z → blocks_texts flags e i (drop i bs) ≡ both (block_texts flags e i d) (blocks_texts flags e (i + 1) (drop (i + 1) bs))
blocks_at flags e bs i z d h q = ap (blocks_texts flags e i) (item bs i z d h q)

pub blocks_went : (flags : IsaFlags) (e : Emission) (bs : List Block) (i : ℕ) (z d : Block) (old out new : List ℕ) → i < length bs → d ≡ get_or bs i z
    → new ≡ out ++ (block_texts flags e i d).bytes → out ++ (blocks_texts flags e i (drop i bs)).bytes ≡ old → new ++ (blocks_texts flags e (i + 1) (drop (i + 1) bs)).bytes ≡ old
blocks_went flags e bs i z d old out new h q n inv = went _ (block_texts flags e i d) (blocks_texts flags e (i + 1) (drop (i + 1) bs)) old out new (blocks_at flags e bs i z d h q) n inv

pub blocks_clear : (flags : IsaFlags) (e : Emission) (bs : List Block) (i : ℕ) (z d : Block) (c : Option TextError) → i < length bs → d ≡ get_or bs i z
    → (block_texts flags e i d).cause ≡ None → (blocks_texts flags e i (drop i bs)).cause ≡ c → (blocks_texts flags e (i + 1) (drop (i + 1) bs)).cause ≡ c
blocks_clear flags e bs i z d c h q n inv = clear _ (block_texts flags e i d) (blocks_texts flags e (i + 1) (drop (i + 1) bs)) c (blocks_at flags e bs i z d h q) n inv

pub blocks_blamed : (flags : IsaFlags) (e : Emission) (bs : List Block) (i : ℕ) (z d : Block) (c : Option TextError) (error : TextError) → i < length bs → d ≡ get_or bs i z
    → RefusedBy (block_texts flags e i d).cause error → (blocks_texts flags e i (drop i bs)).cause ≡ c → RefusedBy c error
blocks_blamed flags e bs i z d c error h q b inv = blamed _ (block_texts flags e i d) (blocks_texts flags e (i + 1) (drop (i + 1) bs)) c error (blocks_at flags e bs i z d h q) b inv

-- ---- instructions

insts_at : (flags : IsaFlags) (e : Emission) (is : List Inst) (i : ℕ) (z d : Inst) → i < length is → d ≡ get_or is i z → inst_texts flags e (drop i is) ≡ both (text_line flags e d) (inst_texts flags (after e d) (drop (i + 1) is))
insts_at flags e is i z d h q = ap (inst_texts flags e) (item is i z d h q)

pub insts_went : (flags : IsaFlags) (e f : Emission) (is : List Inst) (i : ℕ) (z d : Inst) (old out new : List ℕ) → i < length is → d ≡ get_or is i z → f ≡ after e d
    → new ≡ out ++ (text_line flags e d).bytes → out ++ (inst_texts flags e (drop i is)).bytes ≡ old → new ++ (inst_texts flags f (drop (i + 1) is)).bytes ≡ old
insts_went flags e f is i z d old out new h q a n inv =
    ap (λ s. new ++ (inst_texts flags s (drop (i + 1) is)).bytes) a
    ∙ went _ (text_line flags e d) (inst_texts flags (after e d) (drop (i + 1) is)) old out new (insts_at flags e is i z d h q) n inv

pub insts_clear : (flags : IsaFlags) (e f : Emission) (is : List Inst) (i : ℕ) (z d : Inst) (c : Option TextError) → i < length is → d ≡ get_or is i z → f ≡ after e d
    → (text_line flags e d).cause ≡ None → (inst_texts flags e (drop i is)).cause ≡ c → (inst_texts flags f (drop (i + 1) is)).cause ≡ c
insts_clear flags e f is i z d c h q a n inv =
    ap (λ s. (inst_texts flags s (drop (i + 1) is)).cause) a ∙ clear _ (text_line flags e d) (inst_texts flags (after e d) (drop (i + 1) is)) c (insts_at flags e is i z d h q) n inv

pub insts_blamed : (flags : IsaFlags) (e : Emission) (is : List Inst) (i : ℕ) (z d : Inst) (c : Option TextError) (error : TextError) → i < length is → d ≡ get_or is i z
    → RefusedBy (text_line flags e d).cause error → (inst_texts flags e (drop i is)).cause ≡ c → RefusedBy c error
insts_blamed flags e is i z d c error h q b inv = blamed _ (text_line flags e d) (inst_texts flags (after e d) (drop (i + 1) is)) c error (insts_at flags e is i z d h q) b inv

-- ---- heads

-- a text behind a head that is never refused
pub behind_head : {T : Type 0} (r : Result T TextError) (old head mid new : List ℕ) (t : Text) → mid ≡ old ++ head → Prints r mid new t → Prints r old new (both (fixed_text head) t)
behind_head (Ok x) old head mid new t h a = (a.0, a.1 ∙ ap (λ m. m ++ t.bytes) h ∙ append_assoc old head t.bytes)
behind_head (Err e) old head mid new t h a = a
