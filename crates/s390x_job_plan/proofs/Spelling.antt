-- The lines of a plan: reading gives back what was printed, and what is read lies in its ranges.
use Rattle.std.proofs.Common.{◌≡◌, ℕ, false, List, [], ◌∷◌, ◌++◌, drop, length, map, refl, sym, ap, ap₂, ◌∙◌, inl, inr, arith, append-nil}
use Rattle.std.specs.Prelude.{◌==◌, codes, slice_index}
use Rattle.std.specs.Str.{bytes_eq}
use Rattle.std.proofs.lemmas.Bool.{false≢true}
use Rattle.std.proofs.lemmas.Slice.Eq.{bytes_eq-Decides}
use Rattle.s390x_base.specs.declared.regs.Reg.{Reg}
use Rattle.s390x_job_fields.specs.Atoms.{IsReg, reg_of, reg_text}
use Rattle.s390x_job_fields.specs.Lists.{AllItems, begins_element, elements, list_of, list_text}
use Rattle.s390x_job_fields.specs.Marks.{after_word, upto, word}
use Rattle.s390x_job_fields.specs.Numbers.{W16}
use Rattle.s390x_job_fields.proofs.AtomsRoundTrip.{real-one_word, real-round_trip, reg-one_word, reg-round_trip}
use Rattle.s390x_job_fields.proofs.Avoids.{Avoids, Avoids-append, Avoids-fewer, Avoids-test, IsOneWord, after-is, marks, word-is}
use Rattle.s390x_job_fields.proofs.Digits.{decimal-one_word, natural-round_trip}
use Rattle.s390x_job_fields.proofs.Lists.{Inner-one_word, IsElement, list-feed, list-round_trip}
use Rattle.s390x_job_fields.proofs.Members.{either}
use Rattle.s390x_job_fields.specs.Fields.{KReal, KReg}
use Rattle.s390x_job_fields.proofs.Ranges.{value-ok}
use Rattle.s390x_job_lines.proofs.Frees.{Free}
use Rattle.s390x_alloc.specs.declared.plan.Place.{Place}
use Rattle.s390x_alloc.specs.declared.plan.Place.TheVariants.{Reg as InReg, Slot}
use Rattle.s390x_job_bundle.proofs.Heads.{free_of}
use Rattle.s390x_job_bundle.proofs.Lines.{AllFree}
use Rattle.s390x_job_plan.specs.Lines.{Closing, Heading, Held, IsLine, IsPlace, Moving, Opening, PlanLine, Stepping, line_of, line_text, place_of, place_text, step_register_of}
use Rattle.s390x_job_plan.specs.Text.{AllLines}
use Rattle.s390x_job_fields.proofs.CallsRoundTrip.{reg_some}

-- ---- places

place_round_trip : (p : Place) → IsPlace p → place_of (place_text p) ≡ p
place_round_trip (InReg p) h = ap InReg (real-round_trip p h)
place_round_trip (Slot n) h = ap Slot (natural-round_trip W16 n (omega (arith, h)))

place_one_word : (p : Place) → IsPlace p → IsOneWord (place_text p)
place_one_word (InReg p) h = real-one_word p h
place_one_word (Slot n) h = (refl, decimal-one_word n (omega (arith, h)))

place_ok : (s : List ℕ) → IsPlace (place_of (word s))
place_ok s = elim (either (slice_index (word s) 0 == 115)) [ inl e ↦ rw e (omega arith) | inr e ↦ rw e (value-ok KReal s) ]

-- ---- two words, and lists of registers

-- the second word of two, where nothing stands behind it
last_word : (x : ℕ) (w : List ℕ) → IsOneWord w → word (x ∷ w) ≡ w
last_word x w h = ap (λ t. word (x ∷ t)) (sym (append-nil w)) ∙ word-is x w [] h tt

step_element : IsElement reg_text step_register_of IsReg
step_element =
    record {
      reads = λ r h c s e. ap reg_of (word-is c (reg_text r) s (reg-one_word r h) e) ∙ reg-round_trip r h;
      inner = λ r h. Inner-one_word (reg_text r) (reg-one_word r h);
      some = λ r h. reg_some r;
    }

step_round_trip : (regs : List Reg) → AllItems IsReg regs → list_of step_register_of (list_text reg_text regs) ≡ regs
step_round_trip regs h = ap (list_of step_register_of) (sym (append-nil (list_text reg_text regs))) ∙ list-round_trip reg_text step_register_of IsReg step_element regs h []

elements_ok : (s : List ℕ) → AllItems IsReg (elements step_register_of s)
elements_ok [] = tt
elements_ok (x ∷ s) = elim (either (begins_element x)) [ inl e ↦ rw e (value-ok KReg (x ∷ s), elements_ok s) | inr e ↦ rw e (elements_ok s) ]

step_ok : (s : List ℕ) → AllItems IsReg (list_of step_register_of s)
step_ok s = elim (either (length (upto 93 s) == 1)) [ inl e ↦ rw e tt | inr e ↦ rw e (elements_ok (upto 93 s)) ]

-- ---- lines

pub line_round_trip : (l : PlanLine) → IsLine l → line_of (line_text l) ≡ l
line_round_trip (Held place vreg) h =
    let w = place_one_word place h.0 in
    let first = word-is 32 (place_text place) (61 ∷ reg_text vreg) w refl in
    let second = after-is 32 (place_text place) (61 ∷ reg_text vreg) w refl in
    ap₂ Held (ap place_of first ∙ place_round_trip place h.0) (ap (λ s. reg_of (word s)) second ∙ ap reg_of (last_word 61 (reg_text vreg) (reg-one_word vreg h.1)) ∙ reg-round_trip vreg h.1)
line_round_trip (Moving to from) h =
    let w = place_one_word to h.0 in
    let first = word-is 32 (place_text to) (32 ∷ place_text from) w refl in
    let second = after-is 32 (place_text to) (32 ∷ place_text from) w refl in
    ap₂ Moving (ap place_of first ∙ place_round_trip to h.0) (ap (λ s. place_of (word s)) second ∙ ap place_of (last_word 32 (place_text from) (place_one_word from h.1)) ∙ place_round_trip from h.1)
line_round_trip (Stepping regs) h = ap Stepping (step_round_trip regs h)
line_round_trip l h = refl

avoids_feed : (w : List ℕ) → IsOneWord w → Avoids (10 ∷ []) w
avoids_feed w h = Avoids-fewer marks (10 ∷ []) refl w h

two_words : (name a b : List ℕ) (x : ℕ) → Avoids (10 ∷ []) name → IsOneWord a → IsOneWord b → (x == 10) ≡ false → Free 10 (name ++ (32 ∷ (a ++ (x ∷ b))))
two_words name a b x n h k e =
    free_of (name ++ (32 ∷ (a ++ (x ∷ b)))) (Avoids-append (10 ∷ []) name (32 ∷ (a ++ (x ∷ b))) n (refl, Avoids-append (10 ∷ []) a (x ∷ b) (avoids_feed a h) (rw e refl, avoids_feed b k)))

-- no line feed stands in a line
pub line_free : (l : PlanLine) → IsLine l → Free 10 (line_text l)
line_free Heading h = free_of (codes "plan") (Avoids-test (10 ∷ []) (codes "plan") refl)
line_free Opening h = free_of (codes "block") (Avoids-test (10 ∷ []) (codes "block") refl)
line_free (Held place vreg) h = two_words (codes "entry") (place_text place) (reg_text vreg) 61 (Avoids-test (10 ∷ []) (codes "entry") refl) (place_one_word place h.0) (reg-one_word vreg h.1) refl
line_free (Moving to from) h = two_words (codes "move") (place_text to) (place_text from) 32 (Avoids-test (10 ∷ []) (codes "move") refl) (place_one_word to h.0) (place_one_word from h.1) refl
line_free (Stepping regs) h =
    free_of (line_text (Stepping regs)) (Avoids-append (10 ∷ []) (codes "step") (32 ∷ list_text reg_text regs) (Avoids-test (10 ∷ []) (codes "step") refl) (refl, list-feed reg_text step_register_of IsReg step_element regs h))
line_free Closing h = free_of (codes "close") (Avoids-test (10 ∷ []) (codes "close") refl)

-- whatever is read is in its ranges
pub read_ok : (w : List ℕ) → IsLine (line_of w)
read_ok w =
    elim (either (slice_index w 0 == 112)) [
      | inl a ↦ rw a tt
      | inr a ↦
          elim (either (slice_index w 0 == 98)) [
            | inl b ↦ rw (a, b) tt
            | inr b ↦
                elim (either (slice_index w 0 == 101)) [
                  | inl c ↦ rw (a, b, c) (place_ok (drop 5 w), value-ok KReg (after_word (drop 5 w)))
                  | inr c ↦
                      elim (either (slice_index w 0 == 109)) [
                        | inl d ↦ rw (a, b, c, d) (place_ok (drop 4 w), place_ok (after_word (drop 4 w)))
                        | inr d ↦ elim (either (slice_index w 0 == 115)) [ inl e ↦ rw (a, b, c, d, e) (step_ok (drop 5 w)) | inr e ↦ rw (a, b, c, d, e) tt ]
                      ]
                ]
          ]
    ]

-- a line that doesn't say what is read from it is none
pub not_line : (l : PlanLine) (w out : List ℕ) → l ≡ line_of w → out ≡ line_text l → bytes_eq out w ≡ false → (k : PlanLine) → IsLine k → line_text k ≡ w → ⊥
not_line l w out e t f k ok h =
    let s : l ≡ k = e ∙ ap line_of (sym h) ∙ line_round_trip k ok in
    false≢true (sym f ∙ (bytes_eq-Decides out w).1 (t ∙ ap line_text s ∙ h))

-- ---- lists of lines

pub lines_round_trip : (ls : List PlanLine) → AllLines ls → map line_of (map line_text ls) ≡ ls
lines_round_trip [] h = refl
lines_round_trip (l ∷ ls) h = ap₂ (λ k ks. k ∷ ks) (line_round_trip l h.0) (lines_round_trip ls h.1)

pub lines_free : (ls : List PlanLine) → AllLines ls → AllFree (map line_text ls)
lines_free [] h = tt
lines_free (l ∷ ls) h = (line_free l h.0, lines_free ls h.1)

pub all_append : (ls ks : List PlanLine) → AllLines ls → AllLines ks → AllLines (ls ++ ks)
all_append [] ks h k = k
all_append (l ∷ ls) ks h k = (h.0, all_append ls ks h.1 k)
