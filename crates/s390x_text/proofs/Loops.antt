-- Texts of lists, and of loops by their members.
use Rattle.std.proofs.Common.{◌≡◌, ℕ, ◌+◌, ◌<◌, List, ◌∷◌, ◌++◌, length, get_or, drop, refl, sym, ap, ◌∙◌, subst, append_assoc}
use Rattle.std.proofs.Common.{Vec, Global}
use Rattle.std.proofs.Math.Dec.{eqb-suc-zero}
use Rattle.std.proofs.lemmas.List.{drop_more}
use Rattle.std.specs.Prelude.{◌==◌, Option, None, not, codes, Result, Ok, Err, MatchResult, IsErrAnd}
use Rattle.s390x_inst.specs.Emission.{Emission}
use Rattle.s390x_inst.specs.declared.state.IsaFlags.{IsaFlags}
use Rattle.s390x_inst.specs.declared.inst.Inst.{Inst, Row_of-Inst, end_of-Inst, more_of-Inst, items-the_row-Inst, items_hidden-the_row-Inst-0, out-Inst, roll-Inst, roll-out-Inst}
use Rattle.s390x_inst.specs.declared.inst.Inst.TheBlock.{hidden-the_row-Inst-0}
use Rattle.s390x_inst.specs.declared.inst.Inst.TheOpen as O
use Rattle.s390x_inst.specs.declared.inst.Inst.TheVariants as I
use Rattle.s390x_inst.specs.declared.inst.Inst.TheViews as V
use denote.Hole.Carrier
use Rattle.s390x_text_rows.proofs.Joined.{more_texts}
use Rattle.s390x_text_rows.specs.Simple.{simple_text}
use Rattle.s390x_text_rows.specs.Texts.{Text, first_cause, both, RefusedBy}
use Rattle.s390x_text_rows.specs.declared.error.TextError.{TextError}
use Rattle.s390x_text_rows.specs.declared.error.TextError.TheVariants.{NoMemory}
use Rattle.s390x_text.specs.Instructions.{leaf_text, leaf_after, after, row_after, insts_after, with_semicolon_between, has_none, inst_text, row_text, insts_text, text_of_loop}

-- what is blamed on a text is blamed on it and what follows
pub refused_first : (a b : Option TextError) (e : TextError) → RefusedBy a e → RefusedBy (first_cause a b) e
refused_first a b NoMemory h = tt
refused_first a b e h = ap (λ q. first_cause q b) h

-- a loop that prints the text of each element of a list
pub more_bytes : {X : Type 0} (F : List X → Text) (g : X → Text) → ((x : X) (xs : List X) → F (x ∷ xs) ≡ both (g x) (F xs)) → (xs : List X) (i : ℕ) (z d : X) (old out new : List ℕ) → i < length xs → d ≡ get_or xs i z → new ≡ out ++ (g d).bytes → out ++ (F (drop i xs)).bytes ≡ old → new ++ (F (drop (i + 1) xs)).bytes ≡ old
more_bytes F g law = more_texts (λ l. (F l).bytes) (λ x. (g x).bytes) (λ x xs. ap (λ t. t.bytes) (law x xs))

more_item : {X : Type 0} (F : List X → Text) (g : X → Text) → ((x : X) (xs : List X) → F (x ∷ xs) ≡ both (g x) (F xs)) → (xs : List X) (i : ℕ) (z d : X) → i < length xs → d ≡ get_or xs i z → F (drop i xs) ≡ both (g d) (F (drop (i + 1) xs))
more_item F g law xs i z d h e =
    ap F (drop_more xs i z h) ∙ law (get_or xs i z) (drop (i + 1) xs) ∙ ap (λ y. both (g y) (F (drop (i + 1) xs))) (sym e)

pub more_causes : {X : Type 0} (F : List X → Text) (g : X → Text) → ((x : X) (xs : List X) → F (x ∷ xs) ≡ both (g x) (F xs)) → (xs : List X) (i : ℕ) (z d : X) (c : Option TextError) → i < length xs → d ≡ get_or xs i z → (g d).cause ≡ None → (F (drop i xs)).cause ≡ c → (F (drop (i + 1) xs)).cause ≡ c
more_causes F g law xs i z d c h e n inv =
    sym (ap (λ p. first_cause p (F (drop (i + 1) xs)).cause) n) ∙ ap (λ t. t.cause) (sym (more_item F g law xs i z d h e)) ∙ inv

pub more_stops : {X : Type 0} (F : List X → Text) (g : X → Text) → ((x : X) (xs : List X) → F (x ∷ xs) ≡ both (g x) (F xs)) → (xs : List X) (i : ℕ) (z d : X) (c : Option TextError) (error : TextError) → i < length xs → d ≡ get_or xs i z → RefusedBy (g d).cause error → (F (drop i xs)).cause ≡ c → RefusedBy c error
more_stops F g law xs i z d c error h e b inv =
    subst (λ r. RefusedBy r error) (ap (λ t. t.cause) (sym (more_item F g law xs i z d h e)) ∙ inv) (refused_first (g d).cause (F (drop (i + 1) xs)).cause error b)

-- the instruction at an index, and those behind it
item : (d : Inst) (is : List Inst) (k : ℕ) → k < length is → d ≡ get_or is k d → drop k is ≡ d ∷ drop (k + 1) is
item d is k h e = drop_more is k d h ∙ ap (λ y. y ∷ drop (k + 1) is) (sym e)

pub bytes_go_on : (flags : IsaFlags) (depth : ℕ) (e f : Emission) (d : Inst) (is : List Inst) (k : ℕ) (old out new : List ℕ) → k < length is → d ≡ get_or is k d → new ≡ out ++ ((inst_text flags depth e d).bytes ++ codes " ; ") → f ≡ after e d → out ++ (insts_text flags depth e (drop k is)).bytes ≡ old → new ++ (insts_text flags depth f (drop (k + 1) is)).bytes ≡ old
bytes_go_on flags depth e f d is k old out new h q n a inv =
    let rest = drop (k + 1) is in
    let m = (inst_text flags depth e d).bytes ++ codes " ; " in
    let x = item d is k h q in
    ap (λ s. new ++ (insts_text flags depth s rest).bytes) a
    ∙ ap (λ t. t ++ (insts_text flags depth (after e d) rest).bytes) n
    ∙ append_assoc out m (insts_text flags depth (after e d) rest).bytes
    ∙ ap (λ l. out ++ (insts_text flags depth e l).bytes) (sym x)
    ∙ inv

pub cause_goes_on : (flags : IsaFlags) (depth : ℕ) (e f : Emission) (d : Inst) (is : List Inst) (k : ℕ) (c : Option TextError) → k < length is → d ≡ get_or is k d → (inst_text flags depth e d).cause ≡ None → f ≡ after e d → (insts_text flags depth e (drop k is)).cause ≡ c → (insts_text flags depth f (drop (k + 1) is)).cause ≡ c
cause_goes_on flags depth e f d is k c h q n a inv =
    let rest = drop (k + 1) is in
    let x = item d is k h q in
    ap (λ s. (insts_text flags depth s rest).cause) a
    ∙ sym (ap (λ p. first_cause p (insts_text flags depth (after e d) rest).cause) n)
    ∙ ap (λ l. (insts_text flags depth e l).cause) (sym x)
    ∙ inv

pub state_goes_on : (e f g : Emission) (d : Inst) (is : List Inst) (k : ℕ) → k < length is → d ≡ get_or is k d → f ≡ after e d → insts_after e (drop k is) ≡ g → insts_after f (drop (k + 1) is) ≡ g
state_goes_on e f g d is k h q a inv =
    ap (λ s. insts_after s (drop (k + 1) is)) a ∙ ap (insts_after e) (sym (item d is k h q)) ∙ inv

-- an instruction is refused, and so are those from it on
pub stops : (flags : IsaFlags) (depth : ℕ) (e : Emission) (d : Inst) (is : List Inst) (k : ℕ) (c : Option TextError) (error : TextError) → k < length is → d ≡ get_or is k d → RefusedBy (inst_text flags depth e d).cause error → (insts_text flags depth e (drop k is)).cause ≡ c → RefusedBy c error
stops flags depth e d is k c error h q b inv =
    let x = item d is k h q in
    let p = refused_first (inst_text flags depth e d).cause (insts_text flags depth (after e d) (drop (k + 1) is)).cause error b in
    subst (λ r. RefusedBy r error) (ap (λ l. (insts_text flags depth e l).cause) (sym x) ∙ inv) p

-- ---- loops

row_texts : (flags : IsaFlags) {n : _} (k : Row_of-Inst n) (depth : ℕ) (e : Emission) → row_text flags depth e k ≡ insts_text flags depth e (items-the_row-Inst n k)
row_texts flags end_of-Inst depth e = refl
row_texts flags (more_of-Inst i rest) depth e = ap (λ t. with_semicolon_between (inst_text flags depth e i) t) (row_texts flags rest depth (after e i))

has_none_items : {n : _} (k : Row_of-Inst n) → has_none k ≡ (length (items-the_row-Inst n k) == 0)
has_none_items end_of-Inst = refl
has_none_items (more_of-Inst i rest) = sym (eqb-suc-zero _)

row_afters : {n : _} (k : Row_of-Inst n) (e : Emission) → row_after e k ≡ insts_after e (items-the_row-Inst n k)
row_afters end_of-Inst e = refl
row_afters (more_of-Inst i rest) e = row_afters rest (after e i)

-- the text of a loop by the list of its members
abbrev list_loop : IsaFlags → (depth : ℕ) → Emission → ℕ → List Inst → Text
list_loop flags depth e c is = text_of_loop depth c (length is == 0) (insts_text flags (depth + 1) e is)

loop_text : (flags : IsaFlags) (depth : ℕ) (e : Emission) (c : ℕ) (v : Vec Inst Global) → inst_text flags depth e (V.Loop c v) ≡ list_loop flags depth e c v.items
loop_text flags depth e c v =
    ap (λ b. text_of_loop depth c b (row_text flags (depth + 1) e (hidden-the_row-Inst-0 v))) (has_none_items (hidden-the_row-Inst-0 v))
    ∙ ap (text_of_loop depth c (length (items-the_row-Inst _ (hidden-the_row-Inst-0 v)) == 0)) (row_texts flags (hidden-the_row-Inst-0 v) (depth + 1) e)
    ∙ ap (list_loop flags depth e c) (items_hidden-the_row-Inst-0 v)

loop_after : (e : Emission) (c : ℕ) (v : Vec Inst Global) → after e (V.Loop c v) ≡ insts_after e v.items
loop_after e c v = row_afters (hidden-the_row-Inst-0 v) e ∙ ap (insts_after e) (items_hidden-the_row-Inst-0 v)

pub whole_loop : (flags : IsaFlags) (depth : ℕ) (e : Emission) (i : Inst) (c : ℕ) (v : Vec Inst Global) (s : List Inst) → i ≡ V.Loop c v → s ≡ v.items → inst_text flags depth e i ≡ text_of_loop depth c (length s == 0) (insts_text flags (depth + 1) e s)
whole_loop flags depth e i c v s p q = ap (inst_text flags depth e) p ∙ loop_text flags depth e c v ∙ ap (list_loop flags depth e c) (sym q)

pub after_loop : (e : Emission) (i : Inst) (c : ℕ) (v : Vec Inst Global) (s : List Inst) → i ≡ V.Loop c v → s ≡ v.items → after e i ≡ insts_after e s
after_loop e i c v s p q = ap (after e) p ∙ loop_after e c v ∙ ap (insts_after e) (sym q)

plain_out : (flags : IsaFlags) (depth : ℕ) (e : Emission) (x : O.Inst-F Inst) → ((c : ℕ) (v : Vec Inst Global) → x ≡ O.Loop c v → ⊥) → (inst_text flags depth e (roll-Inst x) ≡ leaf_text flags e (roll-Inst x)) × (after e (roll-Inst x) ≡ leaf_after e (roll-Inst x))
unfolding roll-Inst Carrier.roll
plain_out flags depth e (O.Loop c v) h = absurd (h c v refl)
plain_out flags depth e x h = (refl, refl)

-- another instruction has its own text
pub plain : (flags : IsaFlags) (depth : ℕ) (e : Emission) (i : Inst) → ((c : ℕ) (v : Vec Inst Global) → i ≡ V.Loop c v → ⊥) → (inst_text flags depth e i ≡ leaf_text flags e i) × (after e i ≡ leaf_after e i)
plain flags depth e i h =
    subst (λ j. (inst_text flags depth e j ≡ leaf_text flags e j) × (after e j ≡ leaf_after e j)) (roll-out-Inst i)
    (plain_out flags depth e (out-Inst i) (λ c v p. h c v (sym (roll-out-Inst i) ∙ ap roll-Inst p ∙ V.rolls-Loop c v)))

-- one that is no call and allocates no arguments has the text of a row, and leaves the state
pub one_row : (flags : IsaFlags) (e : Emission) (i : Inst) → ((link info : _) → i ≡ I.Call link info → ⊥) → ((info : _) → i ≡ I.ReturnCall info → ⊥) → ((size : _) → i ≡ I.AllocateArgs size → ⊥) → (leaf_text flags e i ≡ simple_text (not flags.no_relative_memory) e i) × (leaf_after e i ≡ e)
one_row flags e (I.Call link info) call tail allocation = absurd (call link info refl)
one_row flags e (I.ReturnCall info) call tail allocation = absurd (tail info refl)
one_row flags e (I.AllocateArgs size) call tail allocation = absurd (allocation size refl)
one_row flags e i call tail allocation = (refl, refl)

-- ---- answers

-- an error that is handed on
pub again : {T : Type 0} (P : T → Type 0) (Q : TextError → Type 0) (r : Result T TextError) (e : TextError) → IsErrAnd r (λ y. y ≡ e) → Q e → MatchResult r P Q
again P Q (Ok x) e a q = absurd a
again P Q (Err y) e a q = subst Q (sym a) q
