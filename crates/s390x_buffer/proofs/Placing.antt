-- Constants behind the code, and their labels.
use Rattle.std.proofs.Common.{◌≡◌, ℕ, suc, ◌+◌, ◌-◌, ◌<◌, ◌≤◌, List, [], ◌∷◌, ◌++◌, length, map, replicate, max, take, drop, get_or, set, Option, Some, None, refl, sym, ap, ◌∙◌, arith, append_assoc, length-append, length-take}
use Rattle.std.proofs.lemmas.List.{drop_more, map_more, set_at, length-take-le, length-map, length-replicate}
use Rattle.s390x_base.specs.declared.ir.ConstantData.{ConstantData}
use Rattle.s390x_buffer.specs.State.{Constant, constant_of}
use Rattle.s390x_buffer.specs.Constants.{round_up, constant_start, constant_starts, constants_end, padded_constant, constant_bytes}
use Rattle.s390x_buffer.specs.Finish.{bind_constants}

pub round_up-ge : (n a : ℕ) → 1 ≤ a → n ≤ round_up n a
round_up-ge n a h = grind arith

pub start-ge : (n : ℕ) (c : Constant) → n ≤ constant_start n c
start-ge n c = round_up-ge n (max 2 c.align) (omega arith)

pub end-ge : (n : ℕ) (cs : List Constant) → n ≤ constants_end n cs
end-ge n [] = omega arith
end-ge n (c ∷ cs) =
    let a = start-ge n c in
    let b = end-ge (constant_start n c + length c.bytes) cs in
    omega (arith, a, b)

pub length-padded : (n : ℕ) (c : Constant) → n + length (padded_constant n c) ≡ constant_start n c + length c.bytes
length-padded n c =
    let a = start-ge n c in
    let b = length-append (replicate (constant_start n c - n) 0) c.bytes in
    let d = length-replicate {A = ℕ} (constant_start n c - n) 0 in
    omega (arith, a, b, d)

pub length-constant_bytes : (n : ℕ) (cs : List Constant) → n + length (constant_bytes n cs) ≡ constants_end n cs
length-constant_bytes n [] = omega arith
length-constant_bytes n (c ∷ cs) =
    let m = constant_start n c + length c.bytes in
    let a = length-append (padded_constant n c) (constant_bytes m cs) in
    let b = length-padded n c in
    let d = length-constant_bytes m cs in
    omega (arith, a, b, d)

pub length-constant_starts : (n : ℕ) (cs : List Constant) → length (constant_starts n cs) ≡ length cs
length-constant_starts n [] = refl
length-constant_starts n (c ∷ cs) = ap suc (length-constant_starts (constant_start n c + length c.bytes) cs)

-- as many starts as constants of the program
pub length-starts_of : (n : ℕ) (cs : List ConstantData) → length (constant_starts n (map constant_of cs)) ≡ length cs
length-starts_of n cs = length-constant_starts n (map constant_of cs) ∙ length-map cs constant_of

-- one constant more
unrolled : (cs : List ConstantData) (i : ℕ) (x : ConstantData) → i < length cs → x ≡ get_or cs i x → map constant_of (drop i cs) ≡ constant_of x ∷ map constant_of (drop (i + 1) cs)
unrolled cs i x h e =
    ap (map constant_of) (drop_more cs i x h) ∙ ap (λ (y : ConstantData). constant_of y ∷ map constant_of (drop (i + 1) cs)) (sym e)

-- behind the next constant
grown : (bs : List ℕ) (c : Constant) → length (bs ++ padded_constant (length bs) c) ≡ constant_start (length bs) c + length c.bytes
grown bs c = length-append bs (padded_constant (length bs) c) ∙ length-padded (length bs) c

pub step-bytes : (bs bs' : List ℕ) (cs : List ConstantData) (i : ℕ) (x : ConstantData) → i < length cs → x ≡ get_or cs i x → bs' ≡ bs ++ padded_constant (length bs) (constant_of x) → bs' ++ constant_bytes (length bs') (map constant_of (drop (i + 1) cs)) ≡ bs ++ constant_bytes (length bs) (map constant_of (drop i cs))
step-bytes bs bs' cs i x h e b =
    let c = constant_of x in
    let rest = map constant_of (drop (i + 1) cs) in
    let m = constant_start (length bs) c + length c.bytes in
    let long : length bs' ≡ m = ap length b ∙ grown bs c in
    ap (λ n. bs' ++ constant_bytes n rest) long
    ∙ ap (λ l. l ++ constant_bytes m rest) b
    ∙ append_assoc bs (padded_constant (length bs) c) (constant_bytes m rest)
    ∙ ap (λ l. bs ++ constant_bytes (length bs) l) (sym (unrolled cs i x h e))

pub step-starts : (bs bs' starts : List ℕ) (cs : List ConstantData) (i : ℕ) (x : ConstantData) → i < length cs → x ≡ get_or cs i x → bs' ≡ bs ++ padded_constant (length bs) (constant_of x) → (starts ++ constant_start (length bs) (constant_of x) ∷ []) ++ constant_starts (length bs') (map constant_of (drop (i + 1) cs)) ≡ starts ++ constant_starts (length bs) (map constant_of (drop i cs))
step-starts bs bs' starts cs i x h e b =
    let c = constant_of x in
    let rest = map constant_of (drop (i + 1) cs) in
    let m = constant_start (length bs) c + length c.bytes in
    let long : length bs' ≡ m = ap length b ∙ grown bs c in
    ap (λ n. (starts ++ constant_start (length bs) c ∷ []) ++ constant_starts n rest) long
    ∙ append_assoc starts (constant_start (length bs) c ∷ []) (constant_starts m rest)
    ∙ ap (λ l. starts ++ constant_starts (length bs) l) (sym (unrolled cs i x h e))

pub step-end : (bs bs' : List ℕ) (cs : List ConstantData) (i : ℕ) (x : ConstantData) → i < length cs → x ≡ get_or cs i x → bs' ≡ bs ++ padded_constant (length bs) (constant_of x) → constants_end (length bs') (map constant_of (drop (i + 1) cs)) ≡ constants_end (length bs) (map constant_of (drop i cs))
step-end bs bs' cs i x h e b =
    let c = constant_of x in
    let rest = map constant_of (drop (i + 1) cs) in
    let long : length bs' ≡ constant_start (length bs) c + length c.bytes = ap length b ∙ grown bs c in
    ap (λ n. constants_end n rest) long ∙ ap (constants_end (length bs)) (sym (unrolled cs i x h e))

-- the next constant alone ends no later than all
pub end-next : (n : ℕ) (cs : List ConstantData) (i : ℕ) (x : ConstantData) → i < length cs → x ≡ get_or cs i x → constant_start n (constant_of x) + length x.bytes.items ≤ constants_end n (map constant_of (drop i cs))
end-next n cs i x h e =
    let c = constant_of x in
    let a = end-ge (constant_start n c + length c.bytes) (map constant_of (drop (i + 1) cs)) in
    let b : constants_end n (map constant_of (drop i cs)) ≡ constants_end (constant_start n c + length c.bytes) (map constant_of (drop (i + 1) cs)) = ap (constants_end n) (unrolled cs i x h e) in
    omega (arith, a, b)

-- one label more
pub bind_step : (n i : ℕ) (st : List ℕ) (ls : List (Option ℕ)) (s : ℕ) → i < length st → s ≡ get_or st i 0 → n + i < length ls → set (bind_constants n (take i st) ls) (n + i) (Some s) ≡ bind_constants n (take (i + 1) st) ls
bind_step n i st ls s h e k =
    let p = take n ls in
    let q = map Some (take i st) in
    let y = get_or ls (n + i) None in
    let ys = drop (n + i + 1) ls in
    let li : length (take i st) ≡ i = length-take-le i st (omega arith) in
    let li' : length (take (i + 1) st) ≡ i + 1 = length-take-le (i + 1) st (omega arith) in
    let lp : length p ≡ n = length-take-le n ls (omega arith) in
    let lq : length q ≡ i = length-map (take i st) Some ∙ li in
    let lpq : length (p ++ q) ≡ n + i = omega (arith, length-append p q, lp, lq) in
    let open_ : bind_constants n (take i st) ls ≡ (p ++ q) ++ y ∷ ys =
    ap (λ j. p ++ (q ++ drop (n + j) ls)) li
    ∙ ap (λ l. p ++ (q ++ l)) (drop_more ls (n + i) None k)
    ∙ sym (append_assoc p q (y ∷ ys)) in
    let more : map Some (take (i + 1) st) ≡ q ++ Some s ∷ [] = map_more Some st i 0 h ∙ ap (λ z. q ++ Some z ∷ []) (sym e) in
    let shut : bind_constants n (take (i + 1) st) ls ≡ p ++ ((q ++ Some s ∷ []) ++ ys) =
    ap (λ l. p ++ (l ++ drop (n + length (take (i + 1) st)) ls)) more
    ∙ ap (λ j. p ++ ((q ++ Some s ∷ []) ++ drop j ls)) (let z : n + length (take (i + 1) st) ≡ n + i + 1 = omega (arith, li') in z) in
    ap (λ l. set l (n + i) (Some s)) open_
    ∙ set_at (p ++ q) y ys (Some s) (n + i) lpq
    ∙ append_assoc p q (Some s ∷ ys)
    ∙ ap (λ l. p ++ l) (sym (append_assoc q (Some s ∷ []) ys))
    ∙ sym shut
