-- What a buffer keeps, and that keeping goes on.
use Rattle.std.proofs.Common.{◌≡◌, ℕ, ◌+◌, ◌<◌, ◌≤◌, ◌≢◌, List, [], ◌∷◌, ◌++◌, length, refl, sym, ap, ◌∙◌, subst, arith}
use Rattle.s390x_buffer.specs.State.{BufferState, TryCallSite, poisoned_buffer}
use Rattle.s390x_buffer.specs.Extends.{Extends, ExtendsEntries, ExtendsExcept, IsPrefix}

prefix_refl : {A : Type 0} (xs : List A) → IsPrefix xs xs
prefix_refl [] = refl
prefix_refl (x ∷ xs) = ap (λ l. x ∷ l) (prefix_refl xs)

pub prefix_more : {A : Type 0} (xs ys : List A) → IsPrefix xs (xs ++ ys)
prefix_more [] ys = refl
prefix_more (x ∷ xs) ys = ap (λ l. x ∷ l) (prefix_more xs ys)

prefix_on : {A : Type 0} (xs ys zs : List A) → IsPrefix xs ys → IsPrefix ys zs → IsPrefix xs zs
prefix_on [] ys zs p q = refl
prefix_on (x ∷ xs) [] zs p q = absurd (cc)
prefix_on (x ∷ xs) (y ∷ ys) [] p q = absurd (cc)
prefix_on (x ∷ xs) (y ∷ ys) (z ∷ zs) p q =
    let r : IsPrefix xs zs = prefix_on xs ys zs (cc) (cc) in
    cc

same_count : (n : ℕ) → n ≤ n
same_count n = omega arith

-- what stood in each list of a buffer whose other lists are as they were, or longer
ruleset kept_entries = (prefix_refl, prefix_more, same_count)

pub extends_same : (s : BufferState) → Extends s s
extends_same s = record { entries = search kept_entries; labels = λ l lt. refl }

pub extends_mark : (s t : BufferState) → t ≡ poisoned_buffer s → Extends s t
extends_mark s t e = subst (Extends s) (sym e) (record { entries = search kept_entries; labels = λ l lt. refl })

entries_on : (s t u : BufferState) → ExtendsEntries s t → ExtendsEntries t u → ExtendsEntries s u
entries_on s t u a b = record {
  bytes = prefix_on _ t.bytes _ a.bytes b.bytes;
  uses = prefix_on _ t.uses _ a.uses b.uses;
  traps = prefix_on _ t.traps _ a.traps b.traps;
  relocs = prefix_on _ t.relocs _ a.relocs b.relocs;
  call_sites = prefix_on _ t.call_sites _ a.call_sites b.call_sites;
  try_call_sites = prefix_on _ t.try_call_sites _ a.try_call_sites b.try_call_sites;
  patchable_sites = prefix_on _ t.patchable_sites _ a.patchable_sites b.patchable_sites;
  stack_maps = prefix_on _ t.stack_maps _ a.stack_maps b.stack_maps;
  starts = prefix_on _ t.starts _ a.starts b.starts;
  label_count = omega (arith, a.label_count, b.label_count);
  block_count = b.block_count ∙ a.block_count;
  constants = b.constants ∙ a.constants;
}

pub extends_on : (s t u : BufferState) → Extends s t → Extends t u → Extends s u
extends_on s t u a b = record {
  entries = entries_on s t u a.entries b.entries;
  labels = λ l lt. b.labels l (omega (arith, lt, a.entries.label_count)) ∙ a.labels l lt;
}

other_label : (n label l : ℕ) → n ≤ label → l < n → l ≢ label
other_label n label l le lt e = omega (arith, le, lt, e)

-- where a label is bound that the first buffer didn't have
pub extends_bound : (s t u : BufferState) (label : ℕ) → Extends s t → length s.labels ≤ label → ExtendsExcept label t u → Extends s u
extends_bound s t u label a new b = record {
  entries = entries_on s t u a.entries b.entries;
  labels = λ l lt. b.labels l (omega (arith, lt, a.entries.label_count)) (other_label (length s.labels) label l new lt) ∙ a.labels l lt;
}

pub extends_try_call_sites : (s : BufferState) (xs : List TryCallSite) → Extends s (record s { try_call_sites = s.try_call_sites ++ xs })
extends_try_call_sites s xs = record { entries = search kept_entries; labels = λ l lt. refl }
