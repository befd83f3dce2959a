-- What fragments record, each by itself: that of a function's fragments is that of its typed steps. One induction serves every table.
use Rattle.std.proofs.Common.{◌≡◌, ℕ, ◌+◌, List, [], ◌∷◌, ◌++◌, length, refl, sym, ap, ◌∙◌, arith, length-append, append_assoc, append-nil, add-zero, add_assoc}
use Rattle.s390x_buffer.specs.State.{BufferState}
use Rattle.s390x_typed_steps.specs.Tree.{Tree, empty, leaf, loop_node, StepBody}
use Rattle.s390x_typed_steps.specs.Steps.{Step as TypedStep, Opening, Back, step_count, step_of, steps_of, steps_from}
use Rattle.s390x_typed_steps.specs.Parts.{CodePart, Row, Trapping, Branch, Relative, RelativeConstant, RelativeSymbol, SymbolValue, TrapHere, TableWord, ToBlock, ToStep, CallSymbol, SiteHere, part_size}
use Rattle.s390x_typed_steps.specs.Causes.{fresh_labels, body_fresh_labels}
use Rattle.s390x_emit_int.specs.Fragments.{Fragment, Put, PutTrapping, PutReloc, Link, LinkConstant, StartStep, Draw, Bind, apply, apply_all}
use Rattle.s390x_emit_int.specs.Emission.{part_fragment, part_fragments, back_fragments, fragments, function_fragments, body_fragments}
use Rattle.s390x_emit_int.specs.Resolve.{put_length}
use Rattle.s390x_emit_int.specs.Bound.{StepsFollow}
use Rattle.s390x_emit_int.proofs.Runs.{length-bytes, length-branch, length-relative, length-call}
use Rattle.s390x_emit_int.proofs.Joining.{tree_put, steps_length, LoopPlaces, loop_places, follows_left, body_put, size_of_body}
use Rattle.s390x_emit_int.proofs.Functions.{next_block}

-- where a fragment ends that begins at an offset
abbrev pub end_of : ℕ → Fragment → ℕ
end_of p (Put bs) = p + length bs
end_of p (PutTrapping bs byte code) = p + length bs
end_of p (PutReloc bs byte kind name addend) = p + length bs
end_of p (Link kind l bs) = p + length bs
end_of p (LinkConstant c bs) = p + length bs
end_of p x = p

-- what fragments record that begin at an offset
abbrev pub collected : {E : Type 0} → (ℕ → Fragment → List E) → ℕ → List Fragment → List E
collected f p [] = []
collected f p (x ∷ xs) = f p x ++ collected f (end_of p x) xs

end_before : (x : Fragment) (xs : List Fragment) (p : ℕ) → end_of p x + put_length xs ≡ p + put_length (x ∷ xs)
end_before (Put bs) xs p = add_assoc p (length bs) (put_length xs)
end_before (PutTrapping bs byte code) xs p = add_assoc p (length bs) (put_length xs)
end_before (PutReloc bs byte kind name addend) xs p = add_assoc p (length bs) (put_length xs)
end_before (Link kind l bs) xs p = add_assoc p (length bs) (put_length xs)
end_before (LinkConstant c bs) xs p = add_assoc p (length bs) (put_length xs)
end_before x xs p = refl

collected_append : {E : Type 0} (f : ℕ → Fragment → List E) (a b : List Fragment) (p : ℕ) → collected f p (a ++ b) ≡ collected f p a ++ collected f (p + put_length a) b
collected_append f [] b p = ap (λ m. collected f m b) (sym (add-zero p))
collected_append f (x ∷ a) b p =
    ap (λ l. f p x ++ l) (collected_append f a b (end_of p x) ∙ ap (λ m. collected f (end_of p x) a ++ collected f m b) (end_before x a p))
    ∙ sym (append_assoc (f p x) (collected f (end_of p x) a) (collected f (p + put_length (x ∷ a)) b))

-- ---- in a buffer

pub end_applied : (x : Fragment) (s : BufferState) → length (apply s x).bytes ≡ end_of (length s.bytes) x
end_applied (Put bs) s = length-append s.bytes bs
end_applied (PutTrapping bs byte code) s = length-append s.bytes bs
end_applied (PutReloc bs byte kind name addend) s = length-append s.bytes bs
end_applied (Link kind l bs) s = length-append s.bytes bs
end_applied (LinkConstant c bs) s = length-append s.bytes bs
end_applied x s = refl

pub collected_run : {E : Type 0} (table : BufferState → List E) (f : ℕ → Fragment → List E) → ((x : Fragment) (s : BufferState) → table (apply s x) ≡ table s ++ f (length s.bytes) x) → (xs : List Fragment) (s : BufferState) → table (apply_all s xs) ≡ table s ++ collected f (length s.bytes) xs
collected_run table f one [] s = sym (append-nil (table s))
collected_run table f one (x ∷ xs) s =
    collected_run table f one xs (apply s x)
    ∙ ap (λ l. l ++ collected f (length (apply s x).bytes) xs) (one x s)
    ∙ append_assoc (table s) (f (length s.bytes) x) (collected f (length (apply s x).bytes) xs)
    ∙ ap (λ m. table s ++ (f (length s.bytes) x ++ collected f m xs)) (end_applied x s)

-- ---- of parts

part_end : (x : CodePart) (p : ℕ) → end_of p (part_fragment x) ≡ p + part_size x
part_end (Row m) p = ap (λ n. p + n) (length-bytes m)
part_end (Trapping m byte code) p = ap (λ n. p + n) (length-bytes m)
part_end (Branch mask (ToBlock b)) p = ap (λ n. p + n) (length-branch mask)
part_end (Branch mask (ToStep k)) p = ap (λ n. p + n) (length-branch mask)
part_end (Relative opcode register (ToBlock b)) p = ap (λ n. p + n) (length-relative opcode register)
part_end (Relative opcode register (ToStep k)) p = ap (λ n. p + n) (length-relative opcode register)
part_end (RelativeConstant opcode register c) p = ap (λ n. p + n) (length-relative opcode register)
part_end (RelativeSymbol opcode register name offset) p = ap (λ n. p + n) (length-relative opcode register)
part_end (SymbolValue name offset) p = refl
part_end (TrapHere code) p = refl
part_end (TableWord before (ToBlock b)) p = refl
part_end (TableWord before (ToStep k)) p = refl
part_end (CallSymbol link name) p = ap (λ n. p + n) (length-call link)
part_end (SiteHere site) p = sym (add-zero p)

-- parts of which each tells what its fragment records
pub record CollectsParts {E : Type 0} (f : ℕ → Fragment → List E) (one : ℕ → CodePart → List E) (all : ℕ → List CodePart → List E) : Type 0 where
  pub none : (p : ℕ) → all p [] ≡ []
  pub first : (x : CodePart) (xs : List CodePart) (p : ℕ) → all p (x ∷ xs) ≡ one p x ++ all (p + part_size x) xs
  pub each : (x : CodePart) (p : ℕ) → f p (part_fragment x) ≡ one p x

pub parts_collected : {E : Type 0} (f : ℕ → Fragment → List E) (one : ℕ → CodePart → List E) (all : ℕ → List CodePart → List E) → CollectsParts f one all → (xs : List CodePart) (p : ℕ) → collected f p (part_fragments xs) ≡ all p xs
parts_collected f one all c [] p = sym (c.none p)
parts_collected f one all c (x ∷ xs) p =
    ap (λ l. l ++ collected f (end_of p (part_fragment x)) (part_fragments xs)) (c.each x p)
    ∙ ap (λ m. one p x ++ collected f m (part_fragments xs)) (part_end x p)
    ∙ ap (λ l. one p x ++ l) (parts_collected f one all c xs (p + part_size x))
    ∙ sym (c.first x xs p)

-- ---- of trees and blocks

-- what steps tell, one after another, is what their fragments record
pub record Collects {E : Type 0} (f : ℕ → Fragment → List E) (told : ℕ → TypedStep → List E) (told_from : (ℕ → ℕ) → ℕ → List TypedStep → List E) : Type 0 where
  pub none : (at : ℕ → ℕ) (k : ℕ) → told_from at k [] ≡ []
  pub first : (at : ℕ → ℕ) (k : ℕ) (s : TypedStep) (ss : List TypedStep) → told_from at k (s ∷ ss) ≡ told (at k) s ++ told_from at (k + 1) ss
  pub body : (n after end : ℕ) (b : StepBody) (p : ℕ) → f p StartStep ++ collected f p (body_fragments n after b) ≡ told p (step_of end b)
  pub opening : (n p : ℕ) → collected f p (StartStep ∷ Draw ∷ Draw ∷ Bind n ∷ []) ≡ told p Opening
  pub back : (n mask k p : ℕ) → collected f p (back_fragments n mask) ≡ told p (Back mask k)
  pub bound : (b p : ℕ) → f p (Bind b) ≡ []

module _ {E : Type 0} (f : ℕ → Fragment → List E) (told : ℕ → TypedStep → List E) (told_from : (ℕ → ℕ) → ℕ → List TypedStep → List E) (c : Collects f told told_from) where
  told_append : (at : ℕ → ℕ) (a b : List TypedStep) (k m : ℕ) → k + length a ≡ m → told_from at k (a ++ b) ≡ told_from at k a ++ told_from at m b
  told_append at [] b k m e = ap (λ n. told_from at n b) (sym (add-zero k) ∙ e) ∙ ap (λ l. l ++ told_from at m b) (sym (c.none at k))
  told_append at (s ∷ a) b k m e =
      c.first at k s (a ++ b)
      ∙ ap (λ l. told (at k) s ++ l) (told_append at a b (k + 1) m (omega arith))
      ∙ sym (append_assoc (told (at k) s) (told_from at (k + 1) a) (told_from at m b))
      ∙ ap (λ l. l ++ told_from at m b) (sym (c.first at k s a))

  tree_collected : (t : Tree) (at : ℕ → ℕ) (n after k e : ℕ) → StepsFollow at k (steps_of k e t) → collected f (at k) (fragments n after t) ≡ told_from at k (steps_of k e t)
  tree_collected empty at n after k e follow = sym (c.none at k)
  tree_collected (leaf b rest) at n after k e follow =
      let p = at k in
      let next : at (k + 1) ≡ p + put_length (body_fragments n after b) = follow.0 ∙ ap (λ m. p + m) (size_of_body e b) ∙ ap (λ m. p + m) (sym (body_put n after b)) in
      let bs = body_fragments n after b in
      let ps = fragments (n + body_fresh_labels b) after rest in
      ap (λ l. f p StartStep ++ l) (collected_append f bs ps p)
      ∙ sym (append_assoc (f p StartStep) (collected f p bs) (collected f (p + put_length bs) ps))
      ∙ ap (λ l. l ++ collected f (p + put_length bs) ps) (c.body n after e b p)
      ∙ ap (λ m. told p (step_of e b) ++ collected f m ps) (sym next)
      ∙ ap (λ l. told p (step_of e b) ++ l) (tree_collected rest at (n + body_fresh_labels b) after (k + 1) e follow.1)
      ∙ sym (c.first at k (step_of e b) (steps_of (k + 1) e rest))
  tree_collected (loop_node mask members rest) at n after k e follow =
      let p = at k in
      let k1 = k + 1 + step_count members in
      let k2 = k + 2 + step_count members in
      let fb = steps_of (k + 1) k2 members in
      let fr = steps_of k2 e rest in
      let turning : TypedStep = Back mask (k + 1) in
      let pb = fragments (n + 2) (n + 1) members in
      let back = back_fragments n mask in
      let pr = fragments (n + 2 + fresh_labels members) after rest in
      let w : LoopPlaces at k e members rest = loop_places at k e mask members rest follow in
      let lb : k + 1 + length fb ≡ k1 = ap (λ m. k + 1 + m) (steps_length members (k + 1) k2) in
      let k12 : k2 ≡ k1 + 1 = omega arith in
      let behind : at k1 + put_length back ≡ at k2 = omega (arith, length-branch mask, w.turn, w.next) in
      let tail : collected f (at k1) (back ++ pr) ≡ told_from at k1 (turning ∷ fr) =
      collected_append f back pr (at k1)
      ∙ ap (λ l. l ++ collected f (at k1 + put_length back) pr) (c.back n mask (k + 1) (at k1))
      ∙ ap (λ m. told (at k1) turning ++ collected f m pr) behind
      ∙ ap (λ l. told (at k1) turning ++ l) (tree_collected rest at (n + 2 + fresh_labels members) after k2 e w.outer)
      ∙ ap (λ m. told (at k1) turning ++ told_from at m fr) k12
      ∙ sym (c.first at k1 turning fr) in
      let inner : collected f p (pb ++ (back ++ pr)) ≡ told_from at (k + 1) (fb ++ turning ∷ fr) =
      collected_append f pb (back ++ pr) p
      ∙ ap (λ m. collected f p pb ++ collected f (p + m) (back ++ pr)) (tree_put (n + 2) (n + 1) members)
      ∙ ap (λ m. collected f p pb ++ collected f m (back ++ pr)) (sym w.turn)
      ∙ ap (λ m. collected f m pb ++ collected f (at k1) (back ++ pr)) (sym w.start)
      ∙ ap (λ l. l ++ collected f (at k1) (back ++ pr)) (tree_collected members at (n + 2) (n + 1) (k + 1) k2 w.inner)
      ∙ ap (λ l. told_from at (k + 1) fb ++ l) tail
      ∙ sym (told_append at fb (turning ∷ fr) (k + 1) k1 lb) in
      collected_append f (StartStep ∷ Draw ∷ Draw ∷ Bind n ∷ []) (pb ++ (back ++ pr)) p
      ∙ ap (λ l. l ++ collected f (p + 0) (pb ++ (back ++ pr))) (c.opening n p)
      ∙ ap (λ m. told p Opening ++ collected f m (pb ++ (back ++ pr))) (add-zero p)
      ∙ ap (λ l. told p Opening ++ l) inner
      ∙ sym (c.first at k Opening (fb ++ turning ∷ fr))

  pub function_collected : (ts : List Tree) (at : ℕ → ℕ) (n b k : ℕ) → StepsFollow at k (steps_from k ts) → collected f (at k) (function_fragments n b ts) ≡ told_from at k (steps_from k ts)
  function_collected [] at n b k follow = sym (c.none at k)
  function_collected (t ∷ ts) at n b k follow =
      let v = next_block t ts at k follow in
      let rest = function_fragments (n + fresh_labels t) (b + 1) ts in
      let k2 = k + step_count t in
      ap (λ l. l ++ collected f (at k) (fragments n 0 t ++ rest)) (c.bound b (at k))
      ∙ collected_append f (fragments n 0 t) rest (at k)
      ∙ ap (λ m. collected f (at k) (fragments n 0 t) ++ collected f (at k + m) rest) (tree_put n 0 t)
      ∙ ap (λ m. collected f (at k) (fragments n 0 t) ++ collected f m rest) (sym v.0)
      ∙ ap (λ l. l ++ collected f (at k2) rest) (tree_collected t at n 0 k 0 (follows_left at (steps_of k 0 t) (steps_from k2 ts) k follow))
      ∙ ap (λ l. told_from at k (steps_of k 0 t) ++ l) (function_collected ts at (n + fresh_labels t) (b + 1) k2 v.1)
      ∙ sym (told_append at (steps_of k 0 t) (steps_from k2 ts) k k2 (ap (λ m. k + m) (steps_length t k 0)))
