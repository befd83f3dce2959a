-- Writing to the beginning of a buffer, entry by entry.
use Rattle.std.proofs.Common.{◌≡◌, ℕ, suc, ◌+◌, ◌-◌, ◌<◌, ◌≤◌, List, [], ◌∷◌, ◌++◌, length, drop, take, map, get_or, set, refl, sym, ◌∙◌, ap, arith, add-one, drop-cons, append_assoc}
use Rattle.std.proofs.lemmas.List.{set_at, take_at, drop_at, drop_all, drop-drop, append-nil, length_push, length-append, length-map, length-take-le, take_more, map-append, take_all, length-drop, flat_map_more}
use Rattle.std.proofs.lemmas.List.Sums.{sum_by-cons, sum_by_more}
use borrow.Rule.Slice.PartMut.{put_mid}
use Rattle.s390x_buffer.specs.declared.entries.TryEntry.{TryEntry}
use Rattle.s390x_buffer.specs.declared.entries.HandlerEntry.{HandlerEntry}
use Rattle.s390x_tables.specs.Tables.{overwritten, handler_count, handler_of, handlers_of, tries_from, try_of}
use Rattle.s390x_tables.specs.declared.entries.Try.{Try}
use Rattle.s390x_tables.specs.declared.entries.Handler.{Handler}

-- one entry more, behind those that were written
pub one_more : {A : Type 0} (buffer written : List A) (n : ℕ) (v : A) → length written ≡ n → n < length buffer
    → set (overwritten buffer written) n v ≡ overwritten buffer (written ++ v ∷ [])
one_more {A} buffer written n v at room =
    let behind : drop n buffer ≡ get_or buffer n v ∷ drop (suc n) buffer = drop-cons buffer n v room in
    let stored : set (written ++ drop (length written) buffer) n v ≡ written ++ (v ∷ drop (suc n) buffer) =
    ap (λ (k : ℕ). set (written ++ drop k buffer) n v) at
    ∙ (ap (λ (r : List A). set (written ++ r) n v) behind
    ∙ set_at written (get_or buffer n v) (drop (suc n) buffer) v n at) in
    let more : suc n ≡ length (written ++ v ∷ []) = sym (length_push written v ∙ (ap (λ (k : ℕ). k + 1) at ∙ add-one n)) in
    stored
    ∙ (ap (λ (k : ℕ). written ++ (v ∷ drop k buffer)) more
    ∙ sym (append_assoc written (v ∷ []) (drop (length (written ++ v ∷ [])) buffer)))

-- the flat form of one entry more
pub map_more : {A B : Type 0} (f : A → B) (buffer out : List B) (xs : List A) (i : ℕ) (x : A) (v : B)
    → out ≡ overwritten buffer (map f (take i xs)) → i < length xs → length xs ≤ length buffer → x ≡ get_or xs i x → v ≡ f x
    → set out i v ≡ overwritten buffer (map f (take (i + 1) xs))
map_more {A} {B} f buffer out xs i x v before below room is flat =
    let at : length (map f (take i xs)) ≡ i = length-map (take i xs) f ∙ length-take-le i xs (omega arith) in
    let more : map f (take i xs) ++ v ∷ [] ≡ map f (take (i + 1) xs) =
    sym (ap (map f) (take_more xs i x below)
    ∙ (map-append f (take i xs) (get_or xs i x ∷ [])
    ∙ ap (λ (y : B). map f (take i xs) ++ y ∷ []) (ap f (sym is) ∙ sym flat))) in
    ap (λ (o : List B). set o i v) before
    ∙ (one_more buffer (map f (take i xs)) i v at (omega arith)
    ∙ ap (overwritten buffer) more)

-- one call more in the table
tries_from-push : (before : ℕ) (es : List TryEntry) (e : TryEntry) → tries_from before (es ++ e ∷ []) ≡ tries_from before es ++ try_of (before + handler_count es) e ∷ []
tries_from-push before [] e = ap (λ (n : ℕ). try_of n e ∷ []) (omega arith)
tries_from-push before (d ∷ es) e =
    let here : before + length d.handlers.items + handler_count es ≡ before + handler_count (d ∷ es) =
    omega (arith, sum_by-cons (λ (x : TryEntry). length x.handlers.items) d es) in
    ap (λ (ts : List Try). try_of before d ∷ ts)
    (tries_from-push (before + length d.handlers.items) es e
    ∙ ap (λ (n : ℕ). tries_from (before + length d.handlers.items) es ++ try_of n e ∷ []) here)

length-tries_from : (before : ℕ) (es : List TryEntry) → length (tries_from before es) ≡ length es
length-tries_from before [] = refl
length-tries_from before (e ∷ es) = ap suc (length-tries_from (before + length e.handlers.items) es)

-- a call with a try more, before whose handlers the table has those of the calls before it
pub tries_more : (buffer out : List Try) (es : List TryEntry) (i : ℕ) (e : TryEntry) (v : Try)
    → out ≡ overwritten buffer (tries_from 0 (take i es)) → i < length es → length es ≤ length buffer → e ≡ get_or es i e
    → v ≡ try_of (handler_count (take i es)) e
    → set out i v ≡ overwritten buffer (tries_from 0 (take (i + 1) es))
tries_more buffer out es i e v before below room is flat =
    let at : length (tries_from 0 (take i es)) ≡ i = length-tries_from 0 (take i es) ∙ length-take-le i es (omega arith) in
    let more : tries_from 0 (take i es) ++ v ∷ [] ≡ tries_from 0 (take (i + 1) es) =
    sym (ap (tries_from 0) (take_more es i e below ∙ ap (λ (x : TryEntry). take i es ++ x ∷ []) (sym is))
    ∙ (tries_from-push 0 (take i es) e
    ∙ ap (λ (y : Try). tries_from 0 (take i es) ++ y ∷ []) (ap (λ (n : ℕ). try_of n e) (omega arith) ∙ sym flat))) in
    ap (λ (o : List Try). set o i v) before
    ∙ (one_more buffer (tries_from 0 (take i es)) i v at (omega arith)
    ∙ ap (overwritten buffer) more)

-- as many handlers as the calls have
length-handlers_of : (es : List TryEntry) → length (handlers_of es) ≡ handler_count es
length-handlers_of [] = refl
length-handlers_of (e ∷ es) =
    length-append (map handler_of e.handlers.items) (handlers_of es)
    ∙ (ap (λ (m : ℕ). m + length (handlers_of es)) (length-map e.handlers.items handler_of)
    ∙ (ap (λ (m : ℕ). length e.handlers.items + m) (length-handlers_of es)
    ∙ sym (sum_by-cons (λ (x : TryEntry). length x.handlers.items) e es)))

-- several entries more, behind those that were written: k is the length of the buffer's rest
pub several_more : {A : Type 0} (buffer out behind written more : List A) (n k : ℕ)
    → out ≡ overwritten buffer written → length written ≡ n → k ≡ length out - n
    → behind ≡ overwritten (take k (drop n out)) more
    → put_mid n k out behind ≡ overwritten buffer (written ++ more)
several_more {A} buffer out behind written more n k before at all put =
    let front : take n out ≡ written = ap (take n) before ∙ take_at written (drop (length written) buffer) n at in
    let rest : drop n out ≡ drop n buffer =
    ap (drop n) before ∙ (drop_at written (drop (length written) buffer) n at ∙ ap (λ (m : ℕ). drop m buffer) at) in
    let count : length (drop n out) ≡ k = length-drop n out ∙ sym all in
    let whole : take k (drop n out) ≡ drop n out = take_all k (drop n out) (omega arith) in
    let none : drop k (drop n out) ≡ [] = drop_all k (drop n out) (omega arith) in
    let put_is : behind ≡ more ++ drop (n + length more) buffer =
    put ∙ ap (λ (r : List A). more ++ r) (ap (drop (length more)) (whole ∙ rest) ∙ drop-drop (length more) n buffer) in
    let ends : n + length more ≡ length (written ++ more) = sym (length-append written more ∙ ap (λ (m : ℕ). m + length more) at) in
    ap (λ (r : List A). r ++ (behind ++ drop k (drop n out))) front
    ∙ (ap (λ (r : List A). written ++ (behind ++ r)) none
    ∙ (ap (λ (r : List A). written ++ r) (append-nil behind ∙ put_is)
    ∙ (ap (λ (m : ℕ). written ++ (more ++ drop m buffer)) ends
    ∙ sym (append_assoc written more (drop (length (written ++ more)) buffer)))))

-- the handlers of one call more
pub handlers_more : (buffer out behind : List Handler) (es : List TryEntry) (i : ℕ) (e : TryEntry) (hs : List HandlerEntry) (n k : ℕ)
    → out ≡ overwritten buffer (handlers_of (take i es)) → n ≡ handler_count (take i es) → i < length es → e ≡ get_or es i e
    → hs ≡ e.handlers.items → k ≡ length out - n → behind ≡ overwritten (take k (drop n out)) (map handler_of hs)
    → put_mid n k out behind ≡ overwritten buffer (handlers_of (take (i + 1) es))
handlers_more buffer out behind es i e hs n k before at below is own all put =
    let f : TryEntry → List Handler = λ (x : TryEntry). map handler_of x.handlers.items in
    let more : handlers_of (take i es) ++ map handler_of hs ≡ handlers_of (take (i + 1) es) =
    ap (λ (r : List Handler). handlers_of (take i es) ++ r) (ap (map handler_of) own ∙ ap f is)
    ∙ (flat_map_more f [] (take i es) (get_or es i e) ∙ ap handlers_of (sym (take_more es i e below))) in
    several_more buffer out behind (handlers_of (take i es)) (map handler_of hs) n k before (length-handlers_of (take i es) ∙ sym at) all put
    ∙ ap (overwritten buffer) more

-- the count of one call more
pub count_more : (es : List TryEntry) (i : ℕ) (e : TryEntry) (n count : ℕ)
    → n ≡ handler_count (take i es) → i < length es → e ≡ get_or es i e → count ≡ length e.handlers.items
    → n + count ≡ handler_count (take (i + 1) es)
count_more es i e n count at below is own =
    let f : TryEntry → ℕ = λ (x : TryEntry). length x.handlers.items in
    ap (λ (m : ℕ). m + count) at
    ∙ (ap (λ (m : ℕ). handler_count (take i es) + m) (own ∙ ap f is) ∙ sym (sum_by_more f es i e below))
