-- Texts as lists of lines.
use Rattle.std.proofs.Common.{◌≡◌, ℕ, suc, ◌+◌, false, List, [], ◌∷◌, ◌++◌, length, take, refl, sym, ap, ◌∙◌, inl, inr, arith, append_assoc, append-nil}
use Rattle.std.specs.Prelude.{◌==◌}
use Rattle.s390x_job_fields.specs.Marks.{upto, past}
use Rattle.s390x_job.specs.Completions.{pieces_from, pieces, text_of_lines}
use Rattle.s390x_job_lines.proofs.Frees.{Free}
use Rattle.s390x_job.proofs.Above.{pieces_line}
pub use Rattle.s390x_job.proofs.Above.{pieces_cut as first_line}
use Rattle.s390x_job.proofs.Whole.{either, cut}

-- no line feed stands in these lines
abbrev pub AllFree : List (List ℕ) → Type 0
AllFree [] = Unit {0}
AllFree (w ∷ ws) = Free 10 w × AllFree ws

pub free_append : (a b : List (List ℕ)) → AllFree a → AllFree b → AllFree (a ++ b)
free_append [] b h k = k
free_append (w ∷ a) b h k = (h.0, free_append a b h.1 k)

pub free_take : (n : ℕ) (a : List (List ℕ)) → AllFree a → AllFree (take n a)
free_take (suc n) (w ∷ a) h = (h.0, free_take n a h.1)
free_take n a h = tt

pub joined_append : (a b : List (List ℕ)) → text_of_lines (a ++ b) ≡ text_of_lines a ++ text_of_lines b
joined_append [] b = refl
joined_append (w ∷ a) b = ap (λ t. w ++ (10 ∷ t)) (joined_append a b) ∙ sym (append_assoc w (10 ∷ text_of_lines a) (text_of_lines b))

-- the lines of lines, and of what follows them
pub pieces_joined : (ws : List (List ℕ)) (r : List ℕ) → AllFree ws → pieces (text_of_lines ws ++ r) ≡ ws ++ pieces r
pieces_joined [] r h = refl
pieces_joined (w ∷ ws) r h =
    ap (pieces_from []) (append_assoc w (10 ∷ text_of_lines ws) r) ∙ pieces_line w [] (text_of_lines ws ++ r) h.0 ∙ ap (λ t. w ∷ t) (pieces_joined ws r h.1)

pub pieces_whole : (ws : List (List ℕ)) → AllFree ws → pieces (text_of_lines ws) ≡ ws
pieces_whole ws h = ap pieces (sym (append-nil (text_of_lines ws))) ∙ pieces_joined ws [] h ∙ append-nil ws

free_snoc : (acc : List ℕ) (x : ℕ) → Free 10 acc → (x == 10) ≡ false → Free 10 (acc ++ x ∷ [])
free_snoc [] x h e = (e, tt)
free_snoc (y ∷ acc) x h e = (h.0, free_snoc acc x h.1 e)

free_from : (acc s : List ℕ) → Free 10 acc → AllFree (pieces_from acc s)
free_from acc [] h = tt
free_from acc (x ∷ s) h = elim (either (x == 10)) [ inl e ↦ rw e (h, free_from [] s tt) | inr e ↦ rw e (free_from (acc ++ x ∷ []) s (free_snoc acc x h e)) ]

pub pieces_free : (s : List ℕ) → AllFree (pieces s)
pieces_free s = free_from [] s tt

-- two texts of lines that are one have the same lines
pub same_lines : (a b : List (List ℕ)) → AllFree a → AllFree b → text_of_lines a ≡ text_of_lines b → a ≡ b
same_lines a b h k e = sym (pieces_whole a h) ∙ ap pieces e ∙ pieces_whole b k

-- a rest whose first line ends with a line feed
pub text_cut : (s : List ℕ) → (length (upto 10 s) ≡ length s → ⊥) → s ≡ upto 10 s ++ (10 ∷ past 10 s)
text_cut s h = cut 10 s h

-- the first m lines, where one more than those in front is among them
pub take_front : (front : List (List ℕ)) (w : List ℕ) (back : List (List ℕ)) (m n : ℕ) → m ≡ length front + (n + 1) → take m (front ++ w ∷ back) ≡ front ++ w ∷ take n back
take_front [] w back (suc m) n e = let f : m ≡ n = omega (arith, e) in ap (λ k. w ∷ take k back) f
take_front (v ∷ front) w back (suc m) n e = ap (λ t. v ∷ t) (take_front front w back m n (omega (arith, e)))
take_front front w back m n e = absurd (omega (arith, e))
