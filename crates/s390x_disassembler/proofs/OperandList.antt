-- Operands are read one behind the other.
use Rattle.std.proofs.Common.{◌≡◌, ℕ, suc, ◌+◌, ◌<◌, Bool, true, false, ◌&&◌, eqb-true, eq-eqb, List, [], ◌∷◌, ◌++◌, length, drop, get_or, slice_index_or, drop-cons, append_assoc, refl, sym, ap, subst, ◌∙◌, arith, inl, inr}
use Rattle.std.specs.Prelude.{slice_index, ◌⊎◌}
use Rattle.std.proofs.lemmas.Bool.{and_parts, or_cases}
use Rattle.s390x_format.specs.declared.kind.FormatKind.{FormatKind}
use Rattle.s390x_format.specs.declared.fields.Fields.{Fields}
use Rattle.s390x_format.specs.View.{fields_of}
use Rattle.s390x_format.proofs.OneReading.{same_list}
use Rattle.s390x_disassembler.specs.declared.forms.Operand.{Operand}
use Rattle.s390x_disassembler.specs.declared.forms.Operand.TheVariants.{General, Float, Vector, Access, Mask, NonzeroMask, UnnamedMask, Unsigned, Signed16, Signed32, Target, Storage, Indexed}
use Rattle.s390x_disassembler.specs.Text.{operand_text, is_written, operands_text}
use Rattle.s390x_disassembler.specs.Numbers.{begins_with}
use Rattle.s390x_disassembler.specs.Operands.{reads, suits, IsUpdated, IsEnd, IsRead, is_in_order, all_suit, tells, AreKnown, AreWritten}
use Rattle.s390x_disassembler.proofs.Numbers.{if_yes, if_no}

-- how the rest of the operands is read
abbrev pub IsSeparator : ℕ → Type 0
IsSeparator s = (s ≡ 32) ⊎ (s ≡ 44)

separator_low : (s : ℕ) → IsSeparator s → s < 45
separator_low s (inl e) = omega (arith, e)
separator_low s (inr e) = omega (arith, e)

separator_not_end : (s : ℕ) → IsSeparator s → s ≡ 10 → ⊥
separator_not_end s (inl e) h = omega (arith, e, h)
separator_not_end s (inr e) h = omega (arith, e, h)

-- the operands behind one that is read end it
rest_ends : (a : ℕ) (letters : List ℕ) (f : Fields) (os : List Operand) (more : List ℕ) → IsEnd (operands_text 44 a letters f os ++ (10 ∷ more))
rest_ends a letters f [] more = inr refl
rest_ends a letters f (o ∷ os) more = chosen (is_written letters f o) refl (rest_ends a letters f os more)
  where
    chosen : (b : Bool) → is_written letters f o ≡ b → IsEnd (operands_text 44 a letters f os ++ (10 ∷ more)) → IsEnd (operands_text 44 a letters f (o ∷ os) ++ (10 ∷ more))
    chosen true e h = subst (λ (t : List ℕ). IsEnd (t ++ (10 ∷ more))) (sym (if_yes (is_written letters f o) (44 ∷ (operand_text a f o ++ operands_text 44 a letters f os)) (operands_text 44 a letters f os) e)) (inl refl)
    chosen false e h = subst (λ (t : List ℕ). IsEnd (t ++ (10 ∷ more))) (sym (if_no (is_written letters f o) (44 ∷ (operand_text a f o ++ operands_text 44 a letters f os)) (operands_text 44 a letters f os) e)) h

-- one that isn't written is the last
last_one : (letters : List ℕ) (f : Fields) (o : Operand) (os : List Operand) → is_in_order (o ∷ os) ≡ true → is_written letters f o ≡ false → os ≡ []
last_one letters f NonzeroMask [] h e = refl
last_one letters f NonzeroMask (p ∷ os) h e = absurd (omega (arith, eqb-true (length (p ∷ os)) 0 h))
last_one letters f UnnamedMask [] h e = refl
last_one letters f UnnamedMask (p ∷ os) h e = absurd (omega (arith, eqb-true (length (p ∷ os)) 0 h))
last_one letters f o os h e = cc

order_rest : (o : Operand) (os : List Operand) → is_in_order (o ∷ os) ≡ true → is_in_order os ≡ true
order_rest NonzeroMask [] h = refl
order_rest NonzeroMask (p ∷ os) h = absurd (omega (arith, eqb-true (length (p ∷ os)) 0 h))
order_rest UnnamedMask [] h = refl
order_rest UnnamedMask (p ∷ os) h = absurd (omega (arith, eqb-true (length (p ∷ os)) 0 h))
order_rest o os h = h

-- what is left of the operands, and what of the values is known
pub record IsLeft (kind : FormatKind) (a separator : ℕ) (letters : List ℕ) (os : List Operand) (values slots text more : List ℕ) : Type 0 where
  pub written : AreWritten kind a separator letters os values text more
  pub known : AreKnown kind letters os values slots

known_after : (kind : FormatKind) (letters : List ℕ) (o : Operand) (os : List Operand) (values before after : List ℕ) → AreKnown kind letters (o ∷ os) values before → IsUpdated o values before after → AreKnown kind letters os values after
known_after kind letters o os values before after known up k lt = told (reads o k) refl
  where
    later : (r : Bool) → reads o k ≡ r → r ≡ false → (slice_index before k ≡ slice_index values k) ⊎ (tells letters (fields_of kind values) (o ∷ os) k ≡ true) → (slice_index after k ≡ slice_index values k) ⊎ (tells letters (fields_of kind values) os k ≡ true)
    later r e nay (inl h) = inl (up k lt ∙ if_no (reads o k) _ _ (e ∙ nay) ∙ h)
    later r e nay (inr h) = elim (or_cases (is_written letters (fields_of kind values) o && reads o k) (tells letters (fields_of kind values) os k) h) [
      | inl x ↦ let y = (and_parts (is_written letters (fields_of kind values) o) (reads o k) x).1 in cc
      | inr x ↦ inr x
    ]

    told : (r : Bool) → reads o k ≡ r → (slice_index after k ≡ slice_index values k) ⊎ (tells letters (fields_of kind values) os k ≡ true)
    told true e = inl (up k lt ∙ if_yes (reads o k) _ _ e)
    told false e = later false e refl (known k lt)

known_skipped : (kind : FormatKind) (letters : List ℕ) (o : Operand) (os : List Operand) (values slots : List ℕ) → is_written letters (fields_of kind values) o ≡ false → AreKnown kind letters (o ∷ os) values slots → AreKnown kind letters os values slots
known_skipped kind letters o os values slots nay known k lt = elim (known k lt) [
  | inl h ↦ inl h
  | inr h ↦ elim (or_cases (is_written letters (fields_of kind values) o && reads o k) (tells letters (fields_of kind values) os k) h) [
    | inl x ↦ let y = (and_parts (is_written letters (fields_of kind values) o) (reads o k) x).0 in cc
    | inr x ↦ inr x
  ]
]

-- an operand is read where its separator stands
pub read_one : (kind : FormatKind) (a separator : ℕ) (letters : List ℕ) (o : Operand) (os : List Operand) (values before after text rest more : List ℕ) → IsSeparator separator → begins_with separator text ≡ true
    → IsRead kind a o text before after rest → IsLeft kind a separator letters (o ∷ os) values before text more → IsLeft kind a 44 letters os values after rest more
read_one kind a separator letters o os values before after text rest more sep begins read left = chosen (is_written letters (fields_of kind values) o) refl
  where
    parts : (suits kind o ≡ true) × (all_suit kind os ≡ true)
    parts = and_parts (suits kind o) (all_suit kind os) left.written.suit

    chosen : (b : Bool) → is_written letters (fields_of kind values) o ≡ b → IsLeft kind a 44 letters os values after rest more
    chosen true e =
        let t : text ≡ separator ∷ (operand_text a (fields_of kind values) o ++ (operands_text 44 a letters (fields_of kind values) os ++ (10 ∷ more))) =
        left.written.text_is ∙ ap (λ (u : List ℕ). u ++ (10 ∷ more)) (if_yes (is_written letters (fields_of kind values) o) _ _ e)
        ∙ ap (λ (u : List ℕ). separator ∷ u) (append_assoc (operand_text a (fields_of kind values) o) (operands_text 44 a letters (fields_of kind values) os) (10 ∷ more)) in
        let r = read values (operands_text 44 a letters (fields_of kind values) os ++ (10 ∷ more)) separator left.written.fit parts.0 (separator_low separator sep) (rest_ends a letters (fields_of kind values) os more) t in
        record {
          written = record { fit = left.written.fit; suit = parts.1; order = order_rest o os left.written.order; text_is = r.0 };
          known = known_after kind letters o os values before after left.known r.1;
        }
    chosen false e =
        let none : os ≡ [] = last_one letters (fields_of kind values) o os left.written.order e in
        let t : text ≡ 10 ∷ more = left.written.text_is ∙ ap (λ (u : List ℕ). u ++ (10 ∷ more)) (if_no (is_written letters (fields_of kind values) o) _ _ e ∙ ap (λ (ps : List Operand). operands_text separator a letters (fields_of kind values) ps) none) in
        absurd (separator_not_end separator sep (sym (eqb-true 10 separator (ap (begins_with separator) (sym t) ∙ begins))))

-- and left out where it doesn't
pub skip_one : (kind : FormatKind) (a separator : ℕ) (letters : List ℕ) (o : Operand) (os : List Operand) (values slots text more : List ℕ) → begins_with separator text ≡ false
    → IsLeft kind a separator letters (o ∷ os) values slots text more → IsLeft kind a separator letters os values slots text more
skip_one kind a separator letters o os values slots text more nay left = chosen (is_written letters (fields_of kind values) o) refl
  where
    true_not_false : (b : Bool) → b ≡ true → b ≡ false → ⊥
    true_not_false b e h = cc

    chosen : (b : Bool) → is_written letters (fields_of kind values) o ≡ b → IsLeft kind a separator letters os values slots text more
    chosen true e =
        let t : text ≡ separator ∷ ((operand_text a (fields_of kind values) o ++ operands_text 44 a letters (fields_of kind values) os) ++ (10 ∷ more)) =
        left.written.text_is ∙ ap (λ (u : List ℕ). u ++ (10 ∷ more)) (if_yes (is_written letters (fields_of kind values) o) _ _ e) in
        absurd (true_not_false (begins_with separator text) (ap (begins_with separator) t ∙ eq-eqb separator separator refl) nay)
    chosen false e = record {
      written = record {
        fit = left.written.fit;
        suit = (and_parts (suits kind o) (all_suit kind os) left.written.suit).1;
        order = order_rest o os left.written.order;
        text_is = left.written.text_is ∙ ap (λ (u : List ℕ). u ++ (10 ∷ more)) (if_no (is_written letters (fields_of kind values) o) _ _ e);
      };
      known = known_skipped kind letters o os values slots e left.known;
    }

-- in the end the values are known
pub all_known : (kind : FormatKind) (a separator : ℕ) (letters values slots text more : List ℕ) → length slots ≡ 10 → IsLeft kind a separator letters [] values slots text more → slots ≡ values
all_known kind a separator letters values slots text more ten left = same_list slots values (ten ∙ sym left.written.fit.0) (λ k lt. known k (omega (arith, lt, ten)))
  where
    known : (k : ℕ) → k < 10 → get_or slots k 0 ≡ get_or values k 0
    known k lt = elim (left.known k lt) [
      | inl h ↦ h
      | inr h ↦ cc
    ]

-- ---- a turn of the loop
pub left_then : (kind : FormatKind) (a separator i : ℕ) (os : List Operand) (d : Operand) (before after text rest : List ℕ) → IsSeparator separator → begins_with separator text ≡ true → i < length os → IsRead kind a (slice_index_or os i d) text before after rest
    → (letters values more : List ℕ) → IsLeft kind a separator letters (drop i os) values before text more → IsLeft kind a 44 letters (drop (i + 1) os) values after rest more
left_then kind a separator i os d before after text rest sep begins lt read letters values more left =
    let e : i + 1 ≡ suc i = omega arith in
    subst (λ (n : ℕ). IsLeft kind a 44 letters (drop n os) values after rest more) (sym e)
    (read_one kind a separator letters (slice_index_or os i d) (drop (suc i) os) values before after text rest more sep begins read (subst (λ (ps : List Operand). IsLeft kind a separator letters ps values before text more) (drop-cons os i d lt) left))

pub left_else : (kind : FormatKind) (a separator i : ℕ) (os : List Operand) (d : Operand) (slots text : List ℕ) → begins_with separator text ≡ false → i < length os
    → (letters values more : List ℕ) → IsLeft kind a separator letters (drop i os) values slots text more → IsLeft kind a separator letters (drop (i + 1) os) values slots text more
left_else kind a separator i os d slots text nay lt letters values more left =
    let e : i + 1 ≡ suc i = omega arith in
    subst (λ (n : ℕ). IsLeft kind a separator letters (drop n os) values slots text more) (sym e)
    (skip_one kind a separator letters (slice_index_or os i d) (drop (suc i) os) values slots text more nay (subst (λ (ps : List Operand). IsLeft kind a separator letters ps values slots text more) (drop-cons os i d lt) left))
