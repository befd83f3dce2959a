-- Memory operands: reading gives back what was printed.
use Rattle.std.proofs.Common.{◌≡◌, ℕ, ◌<◌, List, [], ◌∷◌, ◌++◌, refl, sym, ap, ◌∙◌, arith, append_assoc, ℤ}
use Rattle.std.specs.Fmt.{decimal, signed_decimal}
use Rattle.s390x_base.specs.AccessFlags.{AccessFlags}
use Rattle.s390x_base.specs.declared.regs.Reg.{Reg}
use Rattle.s390x_inst.specs.declared.args.MemArg.{MemArg}
use Rattle.s390x_inst.specs.declared.args.MemArg.TheVariants as M
use Rattle.s390x_job_fields.specs.Marks.{word, after_word, past}
use Rattle.s390x_job_fields.specs.Numbers.{natural_of, integer_of, IsBelow, signed_limit, W12, W32, S20, S32, S64}
use Rattle.s390x_job_fields.specs.Atoms.{reg_text, reg_of, IsReg, access_text, access_of, IsSuffix, name_of}
use Rattle.s390x_job_fields.specs.Memory.{form_text, form_of, memory_form_of, indexed_text, offset_text, inside_text, memory_text, IsMemory, memory_with, memory_operand_of}
use Rattle.s390x_job_fields.specs.declared.memory.MemoryForm.{MemoryForm}
use Rattle.s390x_job_fields.specs.declared.memory.MemoryForm.TheVariants as F
use Rattle.s390x_job_fields.proofs.Avoids.{Avoids, Avoids-test, Avoids-append, Avoids-fewer, marks, IsOneWord, word-is, after-is, past-is}
use Rattle.s390x_job_fields.proofs.Digits.{decimal-one_word, signed-one_word, natural-round_trip, integer-round_trip, signed_wide}
use Rattle.s390x_job_fields.proofs.AtomsRoundTrip.{reg-round_trip, reg-one_word, name-round_trip, name-one_word, access-round_trip, access-avoids}

pub ap2 : {A B C : Type 0} (f : A → B → C) {a a' : A} {b b' : B} → a ≡ a' → b ≡ b' → f a b ≡ f a' b'
ap2 f {a = a} {a' = a'} {b = b} {b' = b'} p q = ap (λ x. f x b) p ∙ ap (f a') q

pub ap3 : {A B C D : Type 0} (f : A → B → C → D) {a a' : A} {b b' : B} {c c' : C} → a ≡ a' → b ≡ b' → c ≡ c' → f a b c ≡ f a' b' c'
ap3 f {a = a} {a' = a'} {b = b} {b' = b'} {c = c} {c' = c'} p q r = ap (λ x. f x b c) p ∙ ap2 (f a') q r

pub ap4 : {A B C D E : Type 0} (f : A → B → C → D → E) {a a' : A} {b b' : B} {c c' : C} {d d' : D} → a ≡ a' → b ≡ b' → c ≡ c' → d ≡ d' → f a b c d ≡ f a' b' c' d'
ap4 f {a = a} {a' = a'} {b = b} {b' = b'} {c = c} {c' = c'} {d = d} {d' = d'} p q r s = ap (λ x. f x b c d) p ∙ ap3 (f a') q r s

form-name : (f : MemoryForm) → IsOneWord (form_text f) × (form_of (form_text f) ≡ f)
unfolding form_of
form-name F.BXD12 = (Avoids-test marks (form_text F.BXD12) refl, refl)
form-name f = (Avoids-test marks (form_text f) refl, refl)

-- the inside is followed by a parenthesis
indexed_tail : (b x : Reg) (d : List ℕ) (f : AccessFlags) (r : List ℕ) → indexed_text b x d f ++ (41 ∷ r) ≡ reg_text b ++ (44 ∷ (reg_text x ++ (44 ∷ (d ++ (44 ∷ (access_text f ++ (41 ∷ r)))))))
indexed_tail b x d f r = simp append_assoc

offset_tail : (n o : List ℕ) (f : AccessFlags) (r : List ℕ) → offset_text n o f ++ (41 ∷ r) ≡ n ++ (44 ∷ (o ++ (44 ∷ (access_text f ++ (41 ∷ r)))))
offset_tail n o f r = simp append_assoc

module _ {C : Type 0} (make : Reg → Reg → C → AccessFlags → MemArg) (read : List ℕ → C) where
  indexed_round_trip : (b x : Reg) (d : List ℕ) (v : C) (f : AccessFlags) (r : List ℕ) → IsReg b → IsReg x → IsOneWord d → read d ≡ v → IsSuffix f.trap → let s = 40 ∷ (indexed_text b x d f ++ (41 ∷ r)) in make (reg_of (word s)) (reg_of (word (after_word s))) (read (word (after_word (after_word s)))) (access_of (after_word (after_word (after_word s)))) ≡ make b x v f
  indexed_round_trip b x d v f r hb hx hd e hf =
      let r3 = access_text f ++ (41 ∷ r) in
      let r2 = d ++ (44 ∷ r3) in
      let r1 = reg_text x ++ (44 ∷ r2) in
      let w0 = word-is 40 (reg_text b) (44 ∷ r1) (reg-one_word b hb) refl in
      let a0 = after-is 40 (reg_text b) (44 ∷ r1) (reg-one_word b hb) refl in
      let w1 = word-is 44 (reg_text x) (44 ∷ r2) (reg-one_word x hx) refl in
      let a1 = after-is 44 (reg_text x) (44 ∷ r2) (reg-one_word x hx) refl in
      let w2 = word-is 44 d (44 ∷ r3) hd refl in
      let a2 = after-is 44 d (44 ∷ r3) hd refl in
      ap (λ t. let s = 40 ∷ t in make (reg_of (word s)) (reg_of (word (after_word s))) (read (word (after_word (after_word s)))) (access_of (after_word (after_word (after_word s))))) (indexed_tail b x d f r)
      ∙ ap4 make (ap reg_of w0 ∙ reg-round_trip b hb) (ap reg_of (ap word a0 ∙ w1) ∙ reg-round_trip x hx) (ap read (ap (λ s. word (after_word s)) a0 ∙ ap word a1 ∙ w2) ∙ e) (ap access_of (ap (λ s. after_word (after_word s)) a0 ∙ ap after_word a1 ∙ a2) ∙ access-round_trip 44 f r hf)

module _ {B C : Type 0} (make : B → C → AccessFlags → MemArg) (first : List ℕ → B) (read : List ℕ → C) where
  offset_round_trip : (n o : List ℕ) (b : B) (v : C) (f : AccessFlags) (r : List ℕ) → IsOneWord n → first n ≡ b → IsOneWord o → read o ≡ v → IsSuffix f.trap → let s = 40 ∷ (offset_text n o f ++ (41 ∷ r)) in make (first (word s)) (read (word (after_word s))) (access_of (after_word (after_word s))) ≡ make b v f
  offset_round_trip n o b v f r hn en ho eo hf =
      let r2 = access_text f ++ (41 ∷ r) in
      let r1 = o ++ (44 ∷ r2) in
      let w0 = word-is 40 n (44 ∷ r1) hn refl in
      let a0 = after-is 40 n (44 ∷ r1) hn refl in
      let w1 = word-is 44 o (44 ∷ r2) ho refl in
      let a1 = after-is 44 o (44 ∷ r2) ho refl in
      ap (λ t. let s = 40 ∷ t in make (first (word s)) (read (word (after_word s))) (access_of (after_word (after_word s)))) (offset_tail n o f r)
      ∙ ap3 make (ap first w0 ∙ en) (ap read (ap word a0 ∙ w1) ∙ eo) (ap access_of (ap after_word a0 ∙ a1) ∙ access-round_trip 44 f r hf)

label_round_trip : (n : ℕ) (r : List ℕ) → n < 4294967296 → natural_of W32 (word (40 ∷ (decimal n ++ (41 ∷ r)))) ≡ n
label_round_trip n r h =
    ap (natural_of W32) (word-is 40 (decimal n) (41 ∷ r) (decimal-one_word n (omega arith)) refl) ∙ natural-round_trip W32 n h

frame_round_trip : (z : ℤ) (r : List ℕ) → IsBelow (signed_limit S64) z → integer_of S64 (word (40 ∷ (signed_decimal z ++ (41 ∷ r)))) ≡ z
frame_round_trip z r h =
    ap (integer_of S64) (word-is 40 (signed_decimal z) (41 ∷ r) (signed-one_word z h) refl) ∙ integer-round_trip S64 z h

shape : (m : MemArg) → IsMemory m → (r : List ℕ) → memory_with (memory_form_of m) (40 ∷ (inside_text m ++ (41 ∷ r))) ≡ m
shape (M.BXD12 b x d f) h r =
    indexed_round_trip M.BXD12 (natural_of W12) b x (decimal d) d f r h.0 h.1 (decimal-one_word d (omega (arith, h.2))) (natural-round_trip W12 d h.2) h.3
shape (M.BXD20 b x d f) h r =
    indexed_round_trip M.BXD20 (integer_of S20) b x (signed_decimal d) d f r h.0 h.1 (signed-one_word d (signed_wide S20 d h.2)) (integer-round_trip S20 d h.2) h.3
shape (M.Label t) h r = ap (λ n. M.Label (record { 0 = n })) (label_round_trip t.0 r h)
shape (M.Constant c) h r = ap (λ n. M.Constant (record { 0 = n })) (label_round_trip c.0 r h)
shape (M.Symbol n o f) h r =
    offset_round_trip (λ m. M.Symbol (record { 0 = m })) name_of (integer_of S32) (117 ∷ decimal n.0) (signed_decimal o) n.0 o f r (name-one_word n.0 h.0) (name-round_trip n.0 h.0) (signed-one_word o (signed_wide S32 o h.1)) (integer-round_trip S32 o h.1) h.2
shape (M.RegOffset b o f) h r =
    offset_round_trip M.RegOffset reg_of (integer_of S64) (reg_text b) (signed_decimal o) b o f r (reg-one_word b h.0) (reg-round_trip b h.0) (signed-one_word o h.1) (integer-round_trip S64 o h.1) h.2
shape (M.InitialSPOffset o) h r = ap M.InitialSPOffset (frame_round_trip o r h)
shape (M.IncomingArgOffset o) h r = ap M.IncomingArgOffset (frame_round_trip o r h)
shape (M.OutgoingArgOffset o) h r = ap M.OutgoingArgOffset (frame_round_trip o r h)
shape (M.SlotOffset o) h r = ap M.SlotOffset (frame_round_trip o r h)
shape (M.SpillOffset o) h r = ap M.SpillOffset (frame_round_trip o r h)

-- the form, then the inside
split : (m : MemArg) (r : List ℕ) → memory_text m ++ r ≡ form_text (memory_form_of m) ++ (40 ∷ (inside_text m ++ (41 ∷ r)))
split m r =
    append_assoc (form_text (memory_form_of m)) (40 ∷ (inside_text m ++ (41 ∷ []))) r ∙ ap (λ t. form_text (memory_form_of m) ++ (40 ∷ t)) (append_assoc (inside_text m) (41 ∷ []) r)

pub memory-round_trip : (m : MemArg) → IsMemory m → (r : List ℕ) → memory_operand_of (32 ∷ (memory_text m ++ r)) ≡ m
memory-round_trip m h r =
    let f = memory_form_of m in
    let s = 40 ∷ (inside_text m ++ (41 ∷ r)) in
    let w = word-is 32 (form_text f) s (form-name f).0 refl in
    let a = after-is 32 (form_text f) s (form-name f).0 refl in
    ap (λ t. memory_operand_of (32 ∷ t)) (split m r)
    ∙ ap2 memory_with (ap form_of w ∙ (form-name f).1) a
    ∙ shape m h r

-- no closing parenthesis stands inside
abbrev Open : List ℕ → Type 0
Open w = Avoids (41 ∷ 10 ∷ []) w

open_one_word : (w : List ℕ) → IsOneWord w → Open w
open_one_word w h = Avoids-fewer marks (41 ∷ 10 ∷ []) refl w h

open_more : (a b : List ℕ) → IsOneWord a → Open b → Open (a ++ (44 ∷ b))
open_more a b h k = Avoids-append (41 ∷ 10 ∷ []) a (44 ∷ b) (open_one_word a h) (refl, k)

open_access : (f : AccessFlags) → IsSuffix f.trap → Open (access_text f)
open_access f h = access-avoids (41 ∷ 10 ∷ []) f h refl refl

inside_open : (m : MemArg) → IsMemory m → Open (inside_text m)
inside_open (M.BXD12 b x d f) h =
    open_more (reg_text b) _ (reg-one_word b h.0) (open_more (reg_text x) _ (reg-one_word x h.1) (open_more (decimal d) _ (decimal-one_word d (omega (arith, h.2))) (open_access f h.3)))
inside_open (M.BXD20 b x d f) h =
    open_more (reg_text b) _ (reg-one_word b h.0) (open_more (reg_text x) _ (reg-one_word x h.1) (open_more (signed_decimal d) _ (signed-one_word d (signed_wide S20 d h.2)) (open_access f h.3)))
inside_open (M.Label t) h = open_one_word (decimal t.0) (decimal-one_word t.0 (omega arith))
inside_open (M.Constant c) h = open_one_word (decimal c.0) (decimal-one_word c.0 (omega arith))
inside_open (M.Symbol n o f) h =
    open_more (117 ∷ decimal n.0) _ (name-one_word n.0 h.0) (open_more (signed_decimal o) _ (signed-one_word o (signed_wide S32 o h.1)) (open_access f h.2))
inside_open (M.RegOffset b o f) h =
    open_more (reg_text b) _ (reg-one_word b h.0) (open_more (signed_decimal o) _ (signed-one_word o h.1) (open_access f h.2))
inside_open (M.InitialSPOffset o) h = open_one_word (signed_decimal o) (signed-one_word o h)
inside_open (M.IncomingArgOffset o) h = open_one_word (signed_decimal o) (signed-one_word o h)
inside_open (M.OutgoingArgOffset o) h = open_one_word (signed_decimal o) (signed-one_word o h)
inside_open (M.SlotOffset o) h = open_one_word (signed_decimal o) (signed-one_word o h)
inside_open (M.SpillOffset o) h = open_one_word (signed_decimal o) (signed-one_word o h)

front_open : (m : MemArg) → IsMemory m → Open (form_text (memory_form_of m) ++ (40 ∷ inside_text m))
front_open m h =
    Avoids-append (41 ∷ 10 ∷ []) (form_text (memory_form_of m)) (40 ∷ inside_text m) (open_one_word (form_text (memory_form_of m)) (form-name (memory_form_of m)).0) (refl, inside_open m h)

whole : (m : MemArg) (r : List ℕ) → memory_text m ++ r ≡ (form_text (memory_form_of m) ++ (40 ∷ inside_text m)) ++ (41 ∷ r)
whole m r = split m r ∙ sym (append_assoc (form_text (memory_form_of m)) (40 ∷ inside_text m) (41 ∷ r))

pub memory-past : (m : MemArg) → IsMemory m → (r : List ℕ) → past 41 (32 ∷ (memory_text m ++ r)) ≡ r
memory-past m h r =
    let w = form_text (memory_form_of m) ++ (40 ∷ inside_text m) in
    ap (λ t. past 41 (32 ∷ t)) (whole m r) ∙ past-is 41 (32 ∷ w) r (refl, Avoids-fewer (41 ∷ 10 ∷ []) (41 ∷ []) refl w (front_open m h))

pub memory-feed : (m : MemArg) → IsMemory m → Avoids (10 ∷ []) (memory_text m)
memory-feed m h =
    let f = form_text (memory_form_of m) in
    Avoids-append (10 ∷ []) f (40 ∷ (inside_text m ++ (41 ∷ []))) (Avoids-fewer marks (10 ∷ []) refl f (form-name (memory_form_of m)).0) (refl, Avoids-append (10 ∷ []) (inside_text m) (41 ∷ []) (Avoids-fewer (41 ∷ 10 ∷ []) (10 ∷ []) refl (inside_text m) (inside_open m h)) (refl, tt))
