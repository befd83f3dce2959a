-- The parts of calls: reading gives back what was printed.
use Rattle.std.proofs.Common.{◌≡◌, ℕ, ◌<◌, ◌^◌, true, false, List, [], ◌∷◌, ◌++◌, length, refl, sym, ap, ◌∙◌, subst, arith, append_assoc, length-append}
use Rattle.std.specs.Prelude.{◌==◌, codes, slice_index}
use Rattle.std.specs.Str.{bytes_eq}
use Rattle.std.specs.Fmt.{decimal, signed_decimal}
use Rattle.std.proofs.lemmas.Fmt.{decimal_nonempty}
use Rattle.s390x_base.specs.Registers.{IsRegister}
use Rattle.s390x_base.specs.declared.ir.MachLabel.{MachLabel}
use Rattle.s390x_base.specs.declared.ir.ValueType.{ValueType}
use Rattle.s390x_base.specs.declared.ir.ValueType.TheVariants as T
use Rattle.s390x_base.specs.declared.regs.Reg.{Reg}
use Rattle.s390x_base.specs.declared.regs.Reg.TheVariants.{Real, Virtual}
use Rattle.s390x_inst.specs.declared.calls.ArgPair.{ArgPair}
use Rattle.s390x_inst.specs.declared.calls.RetPair.{RetPair}
use Rattle.s390x_inst.specs.declared.calls.CallArgPair.{CallArgPair}
use Rattle.s390x_inst.specs.declared.calls.CallRetPair.{CallRetPair}
use Rattle.s390x_inst.specs.declared.calls.CallInstDest.{CallInstDest}
use Rattle.s390x_inst.specs.declared.calls.CallInstDest.TheVariants.{Direct, Indirect}
use Rattle.s390x_inst.specs.declared.calls.RetLocation.{RetLocation}
use Rattle.s390x_inst.specs.declared.calls.RetLocation.TheVariants as L
use Rattle.s390x_inst.specs.declared.calls.TryCallHandler.{TryCallHandler}
use Rattle.s390x_inst.specs.declared.calls.TryCallHandler.TheVariants.{Tag, Default}
use Rattle.s390x_inst.specs.declared.calls.SymbolReloc.{SymbolReloc}
use Rattle.s390x_inst.specs.declared.calls.SymbolReloc.TheVariants.{Absolute}
use Rattle.s390x_job_fields.specs.Marks.{word, after_word, past}
use Rattle.s390x_job_fields.specs.Numbers.{natural_of, integer_of, W32, S64}
use Rattle.s390x_job_fields.specs.Operators.{type_text, value_type_of}
use Rattle.s390x_job_fields.specs.Atoms.{real_text, real_register_of, reg_text, reg_of, IsReg, name_of}
use Rattle.s390x_job_fields.specs.Lists.{list_text}
use Rattle.s390x_job_fields.specs.Calls.{
  target_text,
  IsCallTarget,
  call_target_of,
  reloc_text,
  IsReloc,
  reloc_of,
  pair_text,
  location_text,
  result_text,
  IsLocation,
  IsResult,
  location_of,
  call_result_of,
  handler_text,
  IsHandler,
  handler_of,
  TryPart,
  NoTry,
  Goes,
  try_text,
  IsTry,
  try_of,
  after_try,
  arg_text,
  IsArg,
  arg_of,
  ret_text,
  IsRet,
  ret_of,
  use_text,
  IsUse,
  use_of,
  label_text,
  IsLabel,
  label_of,
}
use Rattle.s390x_job_fields.proofs.Avoids.{Avoids, Avoids-test, Avoids-append, Avoids-fewer, marks, IsOneWord, Ends, word-is, after-is, past-is}
use Rattle.s390x_job_fields.proofs.Digits.{decimal-one_word, decimal-digits, signed-one_word, natural-round_trip, integer-round_trip, no_digits}
use Rattle.s390x_job_fields.proofs.AtomsRoundTrip.{real-round_trip, real-one_word, reg-round_trip, reg-one_word, name-round_trip, name-one_word}
use Rattle.s390x_job_fields.proofs.Lists.{Inner, Inner-one_word, Inner-append, IsElement, list-round_trip, list-past, list-feed}
use Rattle.s390x_job_fields.proofs.MemoryRoundTrip.{ap2}
use Rattle.s390x_job_fields.proofs.Members.{or-false}

-- targets
target_direct : (c : Reg) → IsReg c → (slice_index (reg_text c) 0 == 37) ≡ true
target_direct (Real r) h = refl
target_direct (Virtual n c) h = refl

pub target-round_trip : (d : CallInstDest) → IsCallTarget d → call_target_of (target_text d) ≡ d
target-round_trip (Direct name) h = ap (λ n. Direct (record { 0 = n })) (name-round_trip name.0 h)
target-round_trip (Indirect reg) h = rw (target_direct reg h) (ap Indirect (reg-round_trip reg h))

pub target-one_word : (d : CallInstDest) → IsCallTarget d → IsOneWord (target_text d)
target-one_word (Direct name) h = name-one_word name.0 h
target-one_word (Indirect reg) h = reg-one_word reg h

-- relocations
reloc_shape : (n : ℕ) (o r : List ℕ) → (codes "Absolute" ++ (40 ∷ ((117 ∷ decimal n) ++ (44 ∷ (o ++ (41 ∷ [])))))) ++ r ≡ codes "Absolute" ++ (40 ∷ ((117 ∷ decimal n) ++ (44 ∷ (o ++ (41 ∷ r)))))
reloc_shape n o r = simp append_assoc

absolute_one_word : IsOneWord (codes "Absolute")
absolute_one_word = Avoids-test marks (codes "Absolute") refl

pub reloc-round_trip : (x : SymbolReloc) → IsReloc x → (r : List ℕ) → reloc_of (32 ∷ (reloc_text x ++ r)) ≡ x
reloc-round_trip (Absolute name offset) h r =
    let o = signed_decimal offset in
    let n = 117 ∷ decimal name.0 in
    let s1 = 44 ∷ (o ++ (41 ∷ r)) in
    let s0 = 40 ∷ (n ++ s1) in
    let a = after-is 32 (codes "Absolute") s0 absolute_one_word refl in
    let w1 = word-is 40 n s1 (name-one_word name.0 h.0) refl in
    let a1 = after-is 40 n s1 (name-one_word name.0 h.0) refl in
    let w2 = word-is 44 o (41 ∷ r) (signed-one_word offset h.1) refl in
    ap (λ t. reloc_of (32 ∷ t)) (reloc_shape name.0 o r)
    ∙ ap2 (λ m z. Absolute (record { 0 = m }) z) (ap name_of (ap word a ∙ w1) ∙ name-round_trip name.0 h.0) (ap (integer_of S64) (ap (λ t. word (after_word t)) a ∙ ap word a1 ∙ w2) ∙ integer-round_trip S64 offset h.1)

reloc_open : (name : ℕ) (o : List ℕ) → name < 4294967296 → IsOneWord o → Avoids (41 ∷ 10 ∷ []) (codes "Absolute" ++ (40 ∷ ((117 ∷ decimal name) ++ (44 ∷ o))))
reloc_open name o h k =
    let bad = 41 ∷ 10 ∷ [] in
    Avoids-append bad (codes "Absolute") (40 ∷ ((117 ∷ decimal name) ++ (44 ∷ o))) (Avoids-fewer marks bad refl (codes "Absolute") absolute_one_word) (refl, Avoids-append bad (117 ∷ decimal name) (44 ∷ o) (Avoids-fewer marks bad refl (117 ∷ decimal name) (name-one_word name h)) (refl, Avoids-fewer marks bad refl o k))

reloc_split : (n : ℕ) (o r : List ℕ) → (codes "Absolute" ++ (40 ∷ ((117 ∷ decimal n) ++ (44 ∷ (o ++ (41 ∷ [])))))) ++ r ≡ (codes "Absolute" ++ (40 ∷ ((117 ∷ decimal n) ++ (44 ∷ o)))) ++ (41 ∷ r)
reloc_split n o r = simp append_assoc

pub reloc-past : (x : SymbolReloc) → IsReloc x → (r : List ℕ) → past 41 (32 ∷ (reloc_text x ++ r)) ≡ r
reloc-past (Absolute name offset) h r =
    let o = signed_decimal offset in
    let w = codes "Absolute" ++ (40 ∷ ((117 ∷ decimal name.0) ++ (44 ∷ o))) in
    ap (λ t. past 41 (32 ∷ t)) (reloc_split name.0 o r) ∙ past-is 41 (32 ∷ w) r (refl, Avoids-fewer (41 ∷ 10 ∷ []) (41 ∷ []) refl w (reloc_open name.0 o h.0 (signed-one_word offset h.1)))

append_nil : (n : ℕ) (o : List ℕ) → codes "Absolute" ++ (40 ∷ ((117 ∷ decimal n) ++ (44 ∷ (o ++ (41 ∷ []))))) ≡ (codes "Absolute" ++ (40 ∷ ((117 ∷ decimal n) ++ (44 ∷ o)))) ++ (41 ∷ [])
append_nil n o = simp append_assoc

pub reloc-feed : (x : SymbolReloc) → IsReloc x → Avoids (10 ∷ []) (reloc_text x)
reloc-feed (Absolute name offset) h =
    let o = signed_decimal offset in
    let w = codes "Absolute" ++ (40 ∷ ((117 ∷ decimal name.0) ++ (44 ∷ o))) in
    subst (Avoids (10 ∷ [])) (sym (append_nil name.0 o)) (Avoids-append (10 ∷ []) w (41 ∷ []) (Avoids-fewer (41 ∷ 10 ∷ []) (10 ∷ []) refl w (reloc_open name.0 o h.0 (signed-one_word offset h.1))) (refl, tt))

-- pairs in lists
pub reg_some : (r : Reg) → 0 < length (reg_text r)
reg_some (Real r) = omega arith
reg_some (Virtual n c) = omega arith

pair_first : (v p : Reg) (c : ℕ) (s : List ℕ) → IsReg v → reg_of (word (c ∷ (pair_text v p ++ s))) ≡ v
pair_first v p c s h =
    ap (λ t. reg_of (word (c ∷ t))) (append_assoc (reg_text v) (61 ∷ reg_text p) s)
    ∙ ap reg_of (word-is c (reg_text v) (61 ∷ (reg_text p ++ s)) (reg-one_word v h) refl)
    ∙ reg-round_trip v h

pair_second : (v p : Reg) (c : ℕ) (s : List ℕ) → IsReg v → IsReg p → Ends s → reg_of (word (after_word (c ∷ (pair_text v p ++ s)))) ≡ p
pair_second v p c s h k e =
    ap (λ t. reg_of (word (after_word (c ∷ t)))) (append_assoc (reg_text v) (61 ∷ reg_text p) s)
    ∙ ap (λ t. reg_of (word t)) (after-is c (reg_text v) (61 ∷ (reg_text p ++ s)) (reg-one_word v h) refl)
    ∙ ap reg_of (word-is 61 (reg_text p) s (reg-one_word p k) e)
    ∙ reg-round_trip p k

pair_inner : (v p : Reg) → IsReg v → IsReg p → Inner (pair_text v p)
pair_inner v p h k =
    Inner-append (reg_text v) (61 ∷ reg_text p) (Inner-one_word (reg_text v) (reg-one_word v h)) (refl, Inner-one_word (reg_text p) (reg-one_word p k))

longer : (a b : List ℕ) → 0 < length a → 0 < length (a ++ b)
longer a b h = omega (arith, h, length-append a b)

arg : Reg → Reg → ArgPair
arg v p = record { vreg = v; preg = p }

ret : Reg → Reg → RetPair
ret v p = record { vreg = v; preg = p }

taken : Reg → Reg → CallArgPair
taken v p = record { vreg = v; preg = p }

label : ℕ → MachLabel
label n = record { 0 = n }

pub arg-element : IsElement arg_text arg_of IsArg
unfolding arg
arg-element = record {
  reads = λ x h c s e. ap2 (λ v p. arg v p) (pair_first x.vreg x.preg c s h.0) (pair_second x.vreg x.preg c s h.0 h.1 e);
  inner = λ x h. pair_inner x.vreg x.preg h.0 h.1;
  some = λ x h. longer (reg_text x.vreg) (61 ∷ reg_text x.preg) (reg_some x.vreg);
}

pub ret-element : IsElement ret_text ret_of IsRet
unfolding ret
ret-element = record {
  reads = λ x h c s e. ap2 (λ v p. ret v p) (pair_first x.vreg x.preg c s h.0) (pair_second x.vreg x.preg c s h.0 h.1 e);
  inner = λ x h. pair_inner x.vreg x.preg h.0 h.1;
  some = λ x h. longer (reg_text x.vreg) (61 ∷ reg_text x.preg) (reg_some x.vreg);
}

pub use-element : IsElement use_text use_of IsUse
unfolding taken
use-element = record {
  reads = λ x h c s e. ap2 (λ v p. taken v p) (pair_first x.vreg x.preg c s h.0) (pair_second x.vreg x.preg c s h.0 h.1 e);
  inner = λ x h. pair_inner x.vreg x.preg h.0 h.1;
  some = λ x h. longer (reg_text x.vreg) (61 ∷ reg_text x.preg) (reg_some x.vreg);
}

pub label-element : IsElement label_text label_of IsLabel
unfolding label
label-element = record {
  reads = λ x h c s e. ap (λ n. label n) (ap (natural_of W32) (word-is c (decimal x.0) s (decimal-one_word x.0 (omega (arith, h))) e) ∙ natural-round_trip W32 x.0 h);
  inner = λ x h. Inner-one_word (decimal x.0) (decimal-one_word x.0 (omega (arith, h)));
  some = λ x h. decimal_nonempty x.0 (omega (arith, h));
}

pub real-element : IsElement real_text (λ s. real_register_of (word s)) IsRegister
real-element = record {
  reads = λ x h c s e. ap real_register_of (word-is c (real_text x) s (real-one_word x h) e) ∙ real-round_trip x h;
  inner = λ x h. Inner-one_word (real_text x) (real-one_word x h);
  some = λ x h. omega arith;
}

-- results
type-name : (t : ValueType) → IsOneWord (type_text t) × (value_type_of (type_text t) ≡ t)
unfolding value_type_of type_text
type-name T.I8 = (Avoids-test marks (type_text T.I8) refl, refl)
type-name t = (Avoids-test marks (type_text t) refl, refl)

not_at : (r : Reg) (s : List ℕ) → (slice_index (61 ∷ (reg_text r ++ s)) 1 == 64) ≡ false
not_at (Real r) s = refl
not_at (Virtual n c) s = refl

location_round_trip : (l : RetLocation) → IsLocation l → (s : List ℕ) → Ends s → location_of (location_text l ++ s) ≡ l
location_round_trip (L.Reg r ty) h s e =
    let t = 58 ∷ (type_text ty ++ s) in
    let a = append_assoc (reg_text r) (58 ∷ type_text ty) s in
    let w = word-is 61 (reg_text r) t (reg-one_word r h) refl in
    let b = after-is 61 (reg_text r) t (reg-one_word r h) refl in
    ap (λ u. location_of (61 ∷ u)) a
    ∙ rw (not_at r t) (ap2 L.Reg (ap reg_of w ∙ reg-round_trip r h) (ap (λ u. value_type_of (word u)) b ∙ ap value_type_of (word-is 58 (type_text ty) s (type-name ty).0 e) ∙ (type-name ty).1))
location_round_trip (L.Stack off ty) h s e =
    let t = 58 ∷ (type_text ty ++ s) in
    let o = signed_decimal off in
    let a = append_assoc o (58 ∷ type_text ty) s in
    let w = word-is 64 o t (signed-one_word off h) refl in
    let b = after-is 64 o t (signed-one_word off h) refl in
    ap (λ u. location_of (61 ∷ 64 ∷ u)) a
    ∙ ap2 L.Stack (ap (integer_of S64) w ∙ integer-round_trip S64 off h) (ap (λ u. value_type_of (word u)) b ∙ ap value_type_of (word-is 58 (type_text ty) s (type-name ty).0 e) ∙ (type-name ty).1)

location_inner : (l : RetLocation) → IsLocation l → Inner (location_text l)
location_inner (L.Reg r ty) h =
    (refl, Inner-append (reg_text r) (58 ∷ type_text ty) (Inner-one_word (reg_text r) (reg-one_word r h)) (refl, Inner-one_word (type_text ty) (type-name ty).0))
location_inner (L.Stack off ty) h =
    (refl, (refl, Inner-append (signed_decimal off) (58 ∷ type_text ty) (Inner-one_word (signed_decimal off) (signed-one_word off h)) (refl, Inner-one_word (type_text ty) (type-name ty).0)))

location_ends : (l : RetLocation) (s : List ℕ) → Ends (location_text l ++ s)
location_ends (L.Reg r ty) s = refl
location_ends (L.Stack off ty) s = refl

result : Reg → RetLocation → CallRetPair
result v l = record { vreg = v; location = l }

result_round_trip : (x : CallRetPair) → IsResult x → (c : ℕ) (s : List ℕ) → Ends s → call_result_of (c ∷ (result_text x ++ s)) ≡ x
unfolding result
result_round_trip x h c s e =
    let t = location_text x.location ++ s in
    let w = word-is c (reg_text x.vreg) t (reg-one_word x.vreg h.0) (location_ends x.location s) in
    let b = after-is c (reg_text x.vreg) t (reg-one_word x.vreg h.0) (location_ends x.location s) in
    ap (λ u. call_result_of (c ∷ u)) (append_assoc (reg_text x.vreg) (location_text x.location) s)
    ∙ ap2 result (ap reg_of w ∙ reg-round_trip x.vreg h.0) (ap location_of b ∙ location_round_trip x.location h.1 s e)

pub result-element : IsElement result_text call_result_of IsResult
result-element = record {
  reads = λ x h c s e. result_round_trip x h c s e;
  inner = λ x h. Inner-append (reg_text x.vreg) (location_text x.location) (Inner-one_word (reg_text x.vreg) (reg-one_word x.vreg h.0)) (location_inner x.location h.1);
  some = λ x h. longer (reg_text x.vreg) (location_text x.location) (reg_some x.vreg);
}

-- handlers
star_one_word : IsOneWord (42 ∷ [])
star_one_word = (refl, tt)

not_star : (s : List ℕ) → Avoids (42 ∷ []) s → 0 < length s → bytes_eq s (codes "*") ≡ false
not_star [] h p = absurd (omega arith)
not_star (x ∷ s) h p = rw (sym (or-false (x == 42)) ∙ h.0) refl

not_dash : (s : List ℕ) → Avoids (45 ∷ []) s → 0 < length s → bytes_eq s (codes "-") ≡ false
not_dash [] h p = absurd (omega arith)
not_dash (x ∷ s) h p = rw (sym (or-false (x == 45)) ∙ h.0) refl

pub dash : (n : ℕ) → n < 2 ^ 64 → bytes_eq (decimal n) (codes "-") ≡ false
dash n h = not_dash (decimal n) (Avoids-fewer no_digits (45 ∷ []) refl (decimal n) (decimal-digits n h)) (decimal_nonempty n h)

tag_not_star : (n : ℕ) → n < 4294967296 → bytes_eq (decimal n) (codes "*") ≡ false
tag_not_star n h = not_star (decimal n) (Avoids-fewer no_digits (42 ∷ []) refl (decimal n) (decimal-digits n (omega arith))) (decimal_nonempty n (omega arith))

handler_round_trip : (x : TryCallHandler) → IsHandler x → (c : ℕ) (s : List ℕ) → Ends s → handler_of (c ∷ (handler_text x ++ s)) ≡ x
handler_round_trip (Tag tag l) h c s e =
    let t = 58 ∷ (decimal l.0 ++ s) in
    let w = word-is c (decimal tag) t (decimal-one_word tag (omega (arith, h.0))) refl in
    let b = after-is c (decimal tag) t (decimal-one_word tag (omega (arith, h.0))) refl in
    let w2 = word-is 58 (decimal l.0) s (decimal-one_word l.0 (omega (arith, h.1))) e in
    ap (λ u. handler_of (c ∷ u)) (append_assoc (decimal tag) (58 ∷ decimal l.0) s)
    ∙ rw (w, tag_not_star tag h.0, b, w2) (ap2 (λ n m. Tag n (record { 0 = m })) (natural-round_trip W32 tag h.0) (natural-round_trip W32 l.0 h.1))
handler_round_trip (Default l) h c s e =
    let t = 58 ∷ (decimal l.0 ++ s) in
    let w = word-is c (42 ∷ []) t star_one_word refl in
    let b = after-is c (42 ∷ []) t star_one_word refl in
    let w2 = word-is 58 (decimal l.0) s (decimal-one_word l.0 (omega (arith, h))) e in
    rw (w, b, w2) (ap (λ m. Default (record { 0 = m })) (natural-round_trip W32 l.0 h))

handler_inner : (x : TryCallHandler) → IsHandler x → Inner (handler_text x)
handler_inner (Tag tag l) h =
    Inner-append (decimal tag) (58 ∷ decimal l.0) (Inner-one_word (decimal tag) (decimal-one_word tag (omega (arith, h.0)))) (refl, Inner-one_word (decimal l.0) (decimal-one_word l.0 (omega (arith, h.1))))
handler_inner (Default l) h = (refl, (refl, Inner-one_word (decimal l.0) (decimal-one_word l.0 (omega (arith, h)))))

handler_some : (x : TryCallHandler) → IsHandler x → 0 < length (handler_text x)
handler_some (Tag tag l) h = longer (decimal tag) (58 ∷ decimal l.0) (decimal_nonempty tag (omega (arith, h.0)))
handler_some (Default l) h = omega arith

pub handler-element : IsElement handler_text handler_of IsHandler
handler-element = record { reads = handler_round_trip; inner = handler_inner; some = handler_some }

-- where a call goes on
list_ends : (hs : List TryCallHandler) (r : List ℕ) → Ends (list_text handler_text hs ++ r)
list_ends [] r = refl
list_ends (h ∷ hs) r = refl

pub past_front : (w l r : List ℕ) → Avoids (93 ∷ []) w → past 93 (w ++ (l ++ r)) ≡ past 93 (l ++ r)
past_front [] l r h = refl
past_front (x ∷ w) l r h = rw (sym (or-false (x == 93)) ∙ h.0) (past_front w l r h.1)

pub try-round_trip : (t : TryPart) → IsTry t → (r : List ℕ) → Ends r → try_of (32 ∷ (try_text t ++ r)) ≡ t
try-round_trip NoTry h r e =
    let w = word-is 32 (codes "-") r (refl, tt) e in
    rw w refl
try-round_trip (Goes c hs) h r e =
    let l = list_text handler_text hs in
    let w = word-is 32 (decimal c) (l ++ r) (decimal-one_word c (omega (arith, h.0))) (list_ends hs r) in
    let b = after-is 32 (decimal c) (l ++ r) (decimal-one_word c (omega (arith, h.0))) (list_ends hs r) in
    ap (λ u. try_of (32 ∷ u)) (append_assoc (decimal c) l r)
    ∙ rw (w, dash c (omega (arith, h.0)), b) (ap2 Goes (natural-round_trip W32 c h.0) (list-round_trip handler_text handler_of IsHandler handler-element hs h.1 r))

pub try-after : (t : TryPart) → IsTry t → (r : List ℕ) → Ends r → after_try (32 ∷ (try_text t ++ r)) ≡ r
try-after NoTry h r e =
    let w = word-is 32 (codes "-") r (refl, tt) e in
    rw w (after-is 32 (codes "-") r (refl, tt) e)
try-after (Goes c hs) h r e =
    let l = list_text handler_text hs in
    let w = word-is 32 (decimal c) (l ++ r) (decimal-one_word c (omega (arith, h.0))) (list_ends hs r) in
    ap (λ u. after_try (32 ∷ u)) (append_assoc (decimal c) l r)
    ∙ rw (w, dash c (omega (arith, h.0))) (past_front (32 ∷ decimal c) l r (refl, Avoids-fewer marks (93 ∷ []) refl (decimal c) (decimal-one_word c (omega (arith, h.0)))) ∙ list-past handler_text handler_of IsHandler handler-element hs h.1 r)

pub try-feed : (t : TryPart) → IsTry t → Avoids (10 ∷ []) (try_text t)
try-feed NoTry h = (refl, tt)
try-feed (Goes c hs) h =
    Avoids-append (10 ∷ []) (decimal c) (list_text handler_text hs) (Avoids-fewer marks (10 ∷ []) refl (decimal c) (decimal-one_word c (omega (arith, h.0)))) (list-feed handler_text handler_of IsHandler handler-element hs h.1)
