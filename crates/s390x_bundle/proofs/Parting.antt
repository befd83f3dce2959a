-- One more member is linked and put behind those before it, or is refused.
use Rattle.std.proofs.Common.{◌≡◌, ℕ, suc, ◌+◌, ◌-◌, ◌<◌, ◌≤◌, List, ◌∷◌, ◌++◌, length, get_or, drop, drop-cons, false, Option, inl, inr, Result, Ok, Err, sym, ap, subst, ◌∙◌, arith, append_assoc, length-append}
use Rattle.std.specs.Prelude.{IfOk, is_err}
use Rattle.s390x_buffer.specs.declared.entries.MachBufferFinalized.{MachBufferFinalized}
use Rattle.s390x_image.specs.Causes.{link_cause}
use Rattle.s390x_image.specs.Fields.{with_fields_filled}
use Rattle.s390x_image.specs.declared.error.LinkError.{LinkError}
use Rattle.s390x_bundle.specs.declared.member.Member.{Member}
use Rattle.s390x_bundle.specs.Bytes.{Part, Rise, end_of, part_behind, parts_behind, zeros}
use Rattle.s390x_bundle.specs.Linking.{IsLinkCause, IsLinked, IsUnlinked, Unlinked, first_unlinked, linked_parts, unlinked_or}
use Rattle.s390x_bundle.specs.Table.{symbols_of}
use Rattle.s390x_bundle.proofs.Standing.{zeros_long}

-- what is answered where there was memory
pub ok_of : {A E : Type 0} (r : Result A E) (Q : Type 0) → IfOk r (λ _. Q) → is_err r ≡ false → Q
ok_of (Ok x) Q h e = h
ok_of (Err x) Q h e = absurd cc

cons_of : {T : Type 0} (xs : List T) (k : ℕ) (x : T) → k < length xs → x ≡ get_or xs k x → drop k xs ≡ x ∷ drop (k + 1) xs
cons_of xs k x lt at =
    let next : suc k ≡ k + 1 = omega arith in
    drop-cons xs k x lt ∙ ap (λ y. y ∷ drop (suc k) xs) (sym at) ∙ ap (λ n. x ∷ drop n xs) next

start_of : (ss : List ℕ) (k : ℕ) → k < length ss → drop k ss ≡ get_or ss k 0 ∷ drop (k + 1) ss
start_of ss k lt = let next : suc k ≡ k + 1 = omega arith in drop-cons ss k 0 lt ∙ ap (λ n. get_or ss k 0 ∷ drop n ss) next

module _ (base : ℕ) (ms : List Member) (ss : List ℕ) (fs : List MachBufferFinalized) (k : ℕ) (m : Member) (f : MachBufferFinalized)
    (lt : k < length ms) (at : m ≡ get_or ms k m) (lt' : k < length ss) (lt'' : k < length fs) (at' : f ≡ get_or fs k f) where
  abbrev unlinked_from : ℕ → Option Unlinked
  unlinked_from n = first_unlinked base ms ss n (drop n ms) (drop n ss) (drop n fs)

  abbrev parts_from : ℕ → List Part
  parts_from n = linked_parts base ms ss (drop n ms) (drop n ss) (drop n fs)

  unlinked_here : unlinked_from k ≡ unlinked_or k (link_cause f (base + get_or ss k 0) (symbols_of base ms ss m.symbols.items)) (unlinked_from (k + 1))
  unlinked_here =
      ap (λ l. first_unlinked base ms ss k l (drop k ss) (drop k fs)) (cons_of ms k m lt at)
      ∙ ap (λ l. first_unlinked base ms ss k (m ∷ drop (k + 1) ms) l (drop k fs)) (start_of ss k lt')
      ∙ ap (λ l. first_unlinked base ms ss k (m ∷ drop (k + 1) ms) (get_or ss k 0 ∷ drop (k + 1) ss) l) (cons_of fs k f lt'' at')

  abbrev part : Part
  part = record { start = get_or ss k 0; bytes = with_fields_filled (base + get_or ss k 0) (symbols_of base ms ss m.symbols.items) f.relocs.items f.bytes.items }

  parts_here : parts_from k ≡ part ∷ parts_from (k + 1)
  parts_here =
      ap (λ l. linked_parts base ms ss l (drop k ss) (drop k fs)) (cons_of ms k m lt at)
      ∙ ap (λ l. linked_parts base ms ss (m ∷ drop (k + 1) ms) l (drop k fs)) (start_of ss k lt')
      ∙ ap (λ l. linked_parts base ms ss (m ∷ drop (k + 1) ms) (get_or ss k 0 ∷ drop (k + 1) ss) l) (cons_of fs k f lt'' at')

  -- it is refused
  pub unlinked_now : (e : LinkError) (t : Option Unlinked) → IsLinkCause f (base + get_or ss k 0) (symbols_of base ms ss m.symbols.items) e → unlinked_from k ≡ t → IsUnlinked t (record { member = k; error = e })
  unlinked_now e t (inl none) h = inl none
  unlinked_now e t (inr is) h = inr (sym h ∙ unlinked_here ∙ ap (λ o. unlinked_or k o (unlinked_from (k + 1))) is)

  -- it is linked
  module _ (old new bytes : List ℕ) (linked : IsLinked f (base + get_or ss k 0) (symbols_of base ms ss m.symbols.items) bytes) (put : new ≡ old ++ part_behind (length old) (record { start = get_or ss k 0; bytes = bytes })) where
    pub none_now : (t : Option Unlinked) → unlinked_from k ≡ t → unlinked_from (k + 1) ≡ t
    none_now t h = sym (unlinked_here ∙ ap (λ o. unlinked_or k o (unlinked_from (k + 1))) linked.0) ∙ h

    put_whole : new ≡ old ++ part_behind (length old) part
    put_whole = put ∙ ap (λ bs. old ++ part_behind (length old) (record { start = get_or ss k 0; bytes = bs })) linked.1

    risen : Rise (length old) (parts_from k) → (length old ≤ get_or ss k 0) × Rise (end_of part) (parts_from (k + 1))
    risen rise = subst (λ ps. Rise (length old) ps) parts_here rise

    long : length old ≤ get_or ss k 0 → length new ≡ end_of part
    long above =
        ap length put_whole
        ∙ omega (arith, above, length-append old (part_behind (length old) part), length-append (zeros (get_or ss k 0 - length old)) part.bytes, zeros_long (get_or ss k 0 - length old))

    pub rise_now : Rise (length old) (parts_from k) → Rise (length new) (parts_from (k + 1))
    rise_now rise = let r = risen rise in subst (λ n. Rise n (parts_from (k + 1))) (sym (long r.0)) r.1

    pub bytes_now : (t : List ℕ) → Rise (length old) (parts_from k) → old ++ parts_behind (length old) (parts_from k) ≡ t → new ++ parts_behind (length new) (parts_from (k + 1)) ≡ t
    bytes_now t rise h =
        ap (λ n. new ++ parts_behind n (parts_from (k + 1))) (long (risen rise).0)
        ∙ ap (λ l. l ++ parts_behind (end_of part) (parts_from (k + 1))) put_whole
        ∙ append_assoc old (part_behind (length old) part) (parts_behind (end_of part) (parts_from (k + 1)))
        ∙ sym (ap (λ ps. old ++ parts_behind (length old) ps) parts_here)
        ∙ h
