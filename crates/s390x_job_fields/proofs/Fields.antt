-- Each field: reading gives back what was printed, and what follows it; no line feed stands in it.
use Rattle.std.proofs.Common.{◌≡◌, ℕ, Option, Some, None, List, [], ◌∷◌, ◌++◌, refl, sym, ap, ◌∙◌, subst, arith, append_assoc, append-nil}
use Rattle.std.specs.Fmt.{decimal, signed_decimal}
use Rattle.s390x_base.specs.Registers.{RealRegister, IsRegister}
use Rattle.s390x_job_fields.specs.Marks.{word, after_word, past}
use Rattle.s390x_job_fields.specs.Numbers.{Width, natural_of, integer_of, W8}
use Rattle.s390x_job_fields.specs.Atoms.{real_text, real_register_of, reg_text, reg_of, mask_of, trap_text, trap_of, bool_text, bool_of, name_of}
use Rattle.s390x_job_fields.specs.Lists.{list_text, AllItems}
use Rattle.s390x_job_fields.specs.Sets.{members_of, is_in}
use Rattle.s390x_job_fields.specs.Calls.{target_text, call_target_of, result_text, call_result_of, IsResult, arg_text, arg_of, IsArg, ret_text, ret_of, IsRet, use_text, use_of, IsUse, label_text, label_of, IsLabel}
use Rattle.s390x_job_fields.specs.Bytes.{bytes_text, bytes_of_text, value_text, value_of, facilities_text, facilities_of}
use Rattle.s390x_job_fields.specs.Operators.{alu_text, alu_of, cmp_text, cmp_of, shift_text, shift_of, rxsbg_text, rxsbg_of, unary_text, unary_of, vec_binary_text, vec_binary_of, vec_unary_text, vec_unary_of, vec_shift_text, vec_shift_of, vec_compare_text, vec_compare_of, vec_element_compare_text, vec_element_compare_of, convention_text, convention_of}
use Rattle.s390x_job_fields.specs.Fields.{option_text, IsOption, option_of, Field, KStart, FReg, FReal, FPair, FBool, FNatural, FInteger, FShifted, FMemory, FCond, FTrap, FLabels, FArgs, FRets, FUses, FDefs, FSet, FTarget, FTry, FOption, FReloc, FName, FBytes, FStart, FFlags, FAlu, FCmp, FShift, FRxsbg}
use Rattle.s390x_job_fields.specs.Fields.{FUnary, FVecBinary, FVecUnary, FVecShift, FVecCompare, FVecElementCompare, FConvention, kind_of, spell, IsField, value_as, after_as}
use Rattle.s390x_job_fields.proofs.Avoids.{Avoids, Avoids-append, Avoids-fewer, marks, IsOneWord, Ends, word-is, after-is}
use Rattle.s390x_job_fields.proofs.Digits.{decimal-one_word, signed-one_word, natural-round_trip, integer-round_trip, wide, signed_wide}
use Rattle.s390x_job_fields.proofs.AtomsRoundTrip.{real-round_trip, real-one_word, reg-round_trip, reg-one_word, mask-round_trip, trap-round_trip, trap-one_word, bool-round_trip, bool-one_word, name-round_trip, name-one_word}
use Rattle.s390x_job_fields.proofs.Lists.{IsElement, list-round_trip, list-past, list-feed}
use Rattle.s390x_job_fields.proofs.MemoryRoundTrip.{ap2, memory-round_trip, memory-past, memory-feed}
use Rattle.s390x_job_fields.proofs.CallsRoundTrip.{target-round_trip, target-one_word, reloc-round_trip, reloc-past, reloc-feed, arg-element, ret-element, use-element, label-element, real-element, result-element, dash, try-round_trip, try-after, try-feed}
use Rattle.s390x_job_fields.proofs.BytesRoundTrip.{bytes-round_trip, bytes-one_word, value-round_trip, value-one_word, facilities-round_trip, facilities-feed}
use Rattle.s390x_job_fields.proofs.OperatorsRoundTrip.{
  alu-name,
  cmp-name,
  shift-name,
  rxsbg-name,
  unary-name,
  vec_binary-name,
  vec_unary-name,
  vec_shift-name,
  vec_compare-name,
  vec_element_compare-name,
  convention-name,
}
use Rattle.s390x_job_fields.proofs.Registers.{all_registers}

-- facilities take all that is left of a line
abbrev pub Rest : Field → List ℕ → Type 0
Rest (FFlags f) r = r ≡ []
Rest f r = Ends r

-- one word
module _ {A : Type 0} (make : A → Field) (read : List ℕ → A) where
  one : (w : List ℕ) (x : A) (r : List ℕ) → IsOneWord w → Ends r → read w ≡ x → make (read (word (32 ∷ (w ++ r)))) ≡ make x
  one w x r h e b = ap make (ap read (word-is 32 w r h e) ∙ b)

one_after : (w r : List ℕ) → IsOneWord w → Ends r → after_word (32 ∷ (w ++ r)) ≡ r
one_after w r h e = after-is 32 w r h e

-- two words with a mark between them
two_first : (m : ℕ) (v w r : List ℕ) → IsOneWord v → Ends (m ∷ w) → word (32 ∷ ((v ++ (m ∷ w)) ++ r)) ≡ v
two_first m v w r h e = ap (λ t. word (32 ∷ t)) (append_assoc v (m ∷ w) r) ∙ word-is 32 v (m ∷ (w ++ r)) h e

two_rest : (m : ℕ) (v w r : List ℕ) → IsOneWord v → Ends (m ∷ w) → after_word (32 ∷ ((v ++ (m ∷ w)) ++ r)) ≡ m ∷ (w ++ r)
two_rest m v w r h e = ap (λ t. after_word (32 ∷ t)) (append_assoc v (m ∷ w) r) ∙ after-is 32 v (m ∷ (w ++ r)) h e

two_second : (m : ℕ) (v w r : List ℕ) → IsOneWord v → Ends (m ∷ w) → IsOneWord w → Ends r → word (after_word (32 ∷ ((v ++ (m ∷ w)) ++ r))) ≡ w
two_second m v w r h e k f = ap word (two_rest m v w r h e) ∙ word-is m w r k f

two_after : (m : ℕ) (v w r : List ℕ) → IsOneWord v → Ends (m ∷ w) → IsOneWord w → Ends r → after_word (after_word (32 ∷ ((v ++ (m ∷ w)) ++ r))) ≡ r
two_after m v w r h e k f = ap after_word (two_rest m v w r h e) ∙ after-is m w r k f

option_one_word : (w : Width) (o : Option ℕ) → IsOption w o → IsOneWord (option_text o)
option_one_word w None h = (refl, tt)
option_one_word w (Some n) h = decimal-one_word n (wide w n h)

option_round_trip : (w : Width) (o : Option ℕ) → IsOption w o → option_of w (option_text o) ≡ o
option_round_trip w None h = refl
option_round_trip w (Some n) h = rw (dash n (wide w n h)) (ap Some (natural-round_trip w n h))

list_past : {A : Type 0} (spelling : A → List ℕ) (reading : List ℕ → A) (P : A → Type 0) → IsElement spelling reading P → (xs : List A) → AllItems P xs → (r : List ℕ) → past 93 (32 ∷ (list_text spelling xs ++ r)) ≡ r
list_past spelling reading P law xs h r = list-past spelling reading P law xs h r

set_all : (rs : List RealRegister) → rs ≡ members_of (is_in rs) → AllItems IsRegister rs
set_all rs h = subst (AllItems IsRegister) (sym h) (all_registers (is_in rs))

start_round_trip : (x : RealRegister) (y : ℕ) → IsField (FStart x y) → (r : List ℕ) → Ends r → value_as KStart (spell (FStart x y) ++ r) ≡ FStart x y
start_round_trip x y h r e =
    let a = ap real_register_of (two_first 32 (real_text x) (value_text x.class y) r (real-one_word x h.0) refl) ∙ real-round_trip x h.0 in
    let b = two_second 32 (real_text x) (value_text x.class y) r (real-one_word x h.0) refl (value-one_word x.class y h.1) e in
    ap2 (λ q w. FStart q (value_of q.class w)) a b ∙ ap (FStart x) (value-round_trip x.class y h.1)

pub field-round_trip : (f : Field) → IsField f → (r : List ℕ) → Rest f r → value_as (kind_of f) (spell f ++ r) ≡ f
field-round_trip (FReg x) h r e = one FReg reg_of (reg_text x) x r (reg-one_word x h) e (reg-round_trip x h)
field-round_trip (FReal x) h r e = one FReal real_register_of (real_text x) x r (real-one_word x h) e (real-round_trip x h)
field-round_trip (FPair x y) h r e = ap2 FPair (ap reg_of (two_first 47 (reg_text x) (reg_text y) r (reg-one_word x h.0) refl) ∙ reg-round_trip x h.0) (ap reg_of (two_second 47 (reg_text x) (reg_text y) r (reg-one_word x h.0) refl (reg-one_word y h.1) e) ∙ reg-round_trip y h.1)
field-round_trip (FAlu x) h r e = one FAlu alu_of (alu_text x) x r (alu-name x).0 e (alu-name x).1
field-round_trip (FCmp x) h r e = one FCmp cmp_of (cmp_text x) x r (cmp-name x).0 e (cmp-name x).1
field-round_trip (FShift x) h r e = one FShift shift_of (shift_text x) x r (shift-name x).0 e (shift-name x).1
field-round_trip (FRxsbg x) h r e = one FRxsbg rxsbg_of (rxsbg_text x) x r (rxsbg-name x).0 e (rxsbg-name x).1
field-round_trip (FUnary x) h r e = one FUnary unary_of (unary_text x) x r (unary-name x).0 e (unary-name x).1
field-round_trip (FVecBinary x) h r e = one FVecBinary vec_binary_of (vec_binary_text x) x r (vec_binary-name x).0 e (vec_binary-name x).1
field-round_trip (FVecUnary x) h r e = one FVecUnary vec_unary_of (vec_unary_text x) x r (vec_unary-name x).0 e (vec_unary-name x).1
field-round_trip (FVecShift x) h r e = one FVecShift vec_shift_of (vec_shift_text x) x r (vec_shift-name x).0 e (vec_shift-name x).1
field-round_trip (FVecCompare x) h r e = one FVecCompare vec_compare_of (vec_compare_text x) x r (vec_compare-name x).0 e (vec_compare-name x).1
field-round_trip (FVecElementCompare x) h r e = one FVecElementCompare vec_element_compare_of (vec_element_compare_text x) x r (vec_element_compare-name x).0 e (vec_element_compare-name x).1
field-round_trip (FConvention x) h r e = one FConvention convention_of (convention_text x) x r (convention-name x).0 e (convention-name x).1
field-round_trip (FBool x) h r e = one FBool bool_of (bool_text x) x r (bool-one_word x) e (bool-round_trip x)
field-round_trip (FNatural w x) h r e = one (FNatural w) (natural_of w) (decimal x) x r (decimal-one_word x (wide w x h)) e (natural-round_trip w x h)
field-round_trip (FInteger w x) h r e = one (FInteger w) (integer_of w) (signed_decimal x) x r (signed-one_word x (signed_wide w x h)) e (integer-round_trip w x h)
field-round_trip (FShifted w x y) h r e = ap2 (FShifted w) (ap (natural_of w) (two_first 58 (decimal x) (decimal y) r (decimal-one_word x (wide w x h.0)) refl) ∙ natural-round_trip w x h.0) (ap (natural_of W8) (two_second 58 (decimal x) (decimal y) r (decimal-one_word x (wide w x h.0)) refl (decimal-one_word y (omega (arith, h.1))) e) ∙ natural-round_trip W8 y h.1)
field-round_trip (FMemory x) h r e = ap FMemory (memory-round_trip x h r)
field-round_trip (FCond x) h r e = one FCond mask_of (decimal x) x r (decimal-one_word x (omega (arith, h.1))) e (mask-round_trip x h)
field-round_trip (FTrap x) h r e = one FTrap trap_of (trap_text x) x r (trap-one_word x h) e (trap-round_trip x h)
field-round_trip (FLabels x) h r e = ap FLabels (list-round_trip label_text label_of IsLabel label-element x h r)
field-round_trip (FArgs x) h r e = ap FArgs (list-round_trip arg_text arg_of IsArg arg-element x h r)
field-round_trip (FRets x) h r e = ap FRets (list-round_trip ret_text ret_of IsRet ret-element x h r)
field-round_trip (FUses x) h r e = ap FUses (list-round_trip use_text use_of IsUse use-element x h r)
field-round_trip (FDefs x) h r e = ap FDefs (list-round_trip result_text call_result_of IsResult result-element x h r)
field-round_trip (FSet x) h r e = ap (λ rs. FSet (members_of (is_in rs))) (list-round_trip real_text (λ s. real_register_of (word s)) IsRegister real-element x (set_all x h) r) ∙ ap FSet (sym h)
field-round_trip (FTarget x) h r e = one FTarget call_target_of (target_text x) x r (target-one_word x h) e (target-round_trip x h)
field-round_trip (FTry x) h r e = ap FTry (try-round_trip x h r e)
field-round_trip (FOption w x) h r e = one (FOption w) (option_of w) (option_text x) x r (option_one_word w x h) e (option_round_trip w x h)
field-round_trip (FReloc x) h r e = ap FReloc (reloc-round_trip x h r)
field-round_trip (FName x) h r e = one FName name_of (117 ∷ decimal x) x r (name-one_word x h) e (name-round_trip x h)
field-round_trip (FBytes x) h r e = one FBytes bytes_of_text (bytes_text x) x r (bytes-one_word x h) e (bytes-round_trip x h)
field-round_trip (FStart x y) h r e = start_round_trip x y h r e
field-round_trip (FFlags x) h r e = ap (λ t. FFlags (facilities_of (facilities_text x ++ t))) e ∙ ap (λ t. FFlags (facilities_of t)) (append-nil (facilities_text x)) ∙ ap FFlags (facilities-round_trip x)

pub field-after : (f : Field) → IsField f → (r : List ℕ) → Rest f r → after_as (kind_of f) (spell f ++ r) ≡ r
field-after (FReg x) h r e = one_after (reg_text x) r (reg-one_word x h) e
field-after (FReal x) h r e = one_after (real_text x) r (real-one_word x h) e
field-after (FPair x y) h r e = two_after 47 (reg_text x) (reg_text y) r (reg-one_word x h.0) refl (reg-one_word y h.1) e
field-after (FAlu x) h r e = one_after (alu_text x) r (alu-name x).0 e
field-after (FCmp x) h r e = one_after (cmp_text x) r (cmp-name x).0 e
field-after (FShift x) h r e = one_after (shift_text x) r (shift-name x).0 e
field-after (FRxsbg x) h r e = one_after (rxsbg_text x) r (rxsbg-name x).0 e
field-after (FUnary x) h r e = one_after (unary_text x) r (unary-name x).0 e
field-after (FVecBinary x) h r e = one_after (vec_binary_text x) r (vec_binary-name x).0 e
field-after (FVecUnary x) h r e = one_after (vec_unary_text x) r (vec_unary-name x).0 e
field-after (FVecShift x) h r e = one_after (vec_shift_text x) r (vec_shift-name x).0 e
field-after (FVecCompare x) h r e = one_after (vec_compare_text x) r (vec_compare-name x).0 e
field-after (FVecElementCompare x) h r e = one_after (vec_element_compare_text x) r (vec_element_compare-name x).0 e
field-after (FConvention x) h r e = one_after (convention_text x) r (convention-name x).0 e
field-after (FBool x) h r e = one_after (bool_text x) r (bool-one_word x) e
field-after (FNatural w x) h r e = one_after (decimal x) r (decimal-one_word x (wide w x h)) e
field-after (FInteger w x) h r e = one_after (signed_decimal x) r (signed-one_word x (signed_wide w x h)) e
field-after (FShifted w x y) h r e = two_after 58 (decimal x) (decimal y) r (decimal-one_word x (wide w x h.0)) refl (decimal-one_word y (omega (arith, h.1))) e
field-after (FMemory x) h r e = memory-past x h r
field-after (FCond x) h r e = one_after (decimal x) r (decimal-one_word x (omega (arith, h.1))) e
field-after (FTrap x) h r e = one_after (trap_text x) r (trap-one_word x h) e
field-after (FLabels x) h r e = list_past label_text label_of IsLabel label-element x h r
field-after (FArgs x) h r e = list_past arg_text arg_of IsArg arg-element x h r
field-after (FRets x) h r e = list_past ret_text ret_of IsRet ret-element x h r
field-after (FUses x) h r e = list_past use_text use_of IsUse use-element x h r
field-after (FDefs x) h r e = list_past result_text call_result_of IsResult result-element x h r
field-after (FSet x) h r e = list_past real_text (λ s. real_register_of (word s)) IsRegister real-element x (set_all x h) r
field-after (FTarget x) h r e = one_after (target_text x) r (target-one_word x h) e
field-after (FTry x) h r e = try-after x h r e
field-after (FOption w x) h r e = one_after (option_text x) r (option_one_word w x h) e
field-after (FReloc x) h r e = reloc-past x h r
field-after (FName x) h r e = one_after (117 ∷ decimal x) r (name-one_word x h) e
field-after (FBytes x) h r e = one_after (bytes_text x) r (bytes-one_word x h) e
field-after (FStart x y) h r e = two_after 32 (real_text x) (value_text x.class y) r (real-one_word x h.0) refl (value-one_word x.class y h.1) e
field-after (FFlags x) h r e = sym e

pub field-feed : (f : Field) → IsField f → Avoids (10 ∷ []) (spell f)
field-feed (FReg x) h = (refl, Avoids-fewer marks (10 ∷ []) refl (reg_text x) (reg-one_word x h))
field-feed (FReal x) h = (refl, Avoids-fewer marks (10 ∷ []) refl (real_text x) (real-one_word x h))
field-feed (FPair x y) h = (refl, Avoids-append (10 ∷ []) (reg_text x) (47 ∷ (reg_text y)) (Avoids-fewer marks (10 ∷ []) refl (reg_text x) (reg-one_word x h.0)) (refl, Avoids-fewer marks (10 ∷ []) refl (reg_text y) (reg-one_word y h.1)))
field-feed (FAlu x) h = (refl, Avoids-fewer marks (10 ∷ []) refl (alu_text x) (alu-name x).0)
field-feed (FCmp x) h = (refl, Avoids-fewer marks (10 ∷ []) refl (cmp_text x) (cmp-name x).0)
field-feed (FShift x) h = (refl, Avoids-fewer marks (10 ∷ []) refl (shift_text x) (shift-name x).0)
field-feed (FRxsbg x) h = (refl, Avoids-fewer marks (10 ∷ []) refl (rxsbg_text x) (rxsbg-name x).0)
field-feed (FUnary x) h = (refl, Avoids-fewer marks (10 ∷ []) refl (unary_text x) (unary-name x).0)
field-feed (FVecBinary x) h = (refl, Avoids-fewer marks (10 ∷ []) refl (vec_binary_text x) (vec_binary-name x).0)
field-feed (FVecUnary x) h = (refl, Avoids-fewer marks (10 ∷ []) refl (vec_unary_text x) (vec_unary-name x).0)
field-feed (FVecShift x) h = (refl, Avoids-fewer marks (10 ∷ []) refl (vec_shift_text x) (vec_shift-name x).0)
field-feed (FVecCompare x) h = (refl, Avoids-fewer marks (10 ∷ []) refl (vec_compare_text x) (vec_compare-name x).0)
field-feed (FVecElementCompare x) h = (refl, Avoids-fewer marks (10 ∷ []) refl (vec_element_compare_text x) (vec_element_compare-name x).0)
field-feed (FConvention x) h = (refl, Avoids-fewer marks (10 ∷ []) refl (convention_text x) (convention-name x).0)
field-feed (FBool x) h = (refl, Avoids-fewer marks (10 ∷ []) refl (bool_text x) (bool-one_word x))
field-feed (FNatural w x) h = (refl, Avoids-fewer marks (10 ∷ []) refl (decimal x) (decimal-one_word x (wide w x h)))
field-feed (FInteger w x) h = (refl, Avoids-fewer marks (10 ∷ []) refl (signed_decimal x) (signed-one_word x (signed_wide w x h)))
field-feed (FShifted w x y) h = (refl, Avoids-append (10 ∷ []) (decimal x) (58 ∷ (decimal y)) (Avoids-fewer marks (10 ∷ []) refl (decimal x) (decimal-one_word x (wide w x h.0))) (refl, Avoids-fewer marks (10 ∷ []) refl (decimal y) (decimal-one_word y (omega (arith, h.1)))))
field-feed (FMemory x) h = (refl, memory-feed x h)
field-feed (FCond x) h = (refl, Avoids-fewer marks (10 ∷ []) refl (decimal x) (decimal-one_word x (omega (arith, h.1))))
field-feed (FTrap x) h = (refl, Avoids-fewer marks (10 ∷ []) refl (trap_text x) (trap-one_word x h))
field-feed (FLabels x) h = (refl, list-feed label_text label_of IsLabel label-element x h)
field-feed (FArgs x) h = (refl, list-feed arg_text arg_of IsArg arg-element x h)
field-feed (FRets x) h = (refl, list-feed ret_text ret_of IsRet ret-element x h)
field-feed (FUses x) h = (refl, list-feed use_text use_of IsUse use-element x h)
field-feed (FDefs x) h = (refl, list-feed result_text call_result_of IsResult result-element x h)
field-feed (FSet x) h = (refl, list-feed real_text (λ s. real_register_of (word s)) IsRegister real-element x (set_all x h))
field-feed (FTarget x) h = (refl, Avoids-fewer marks (10 ∷ []) refl (target_text x) (target-one_word x h))
field-feed (FTry x) h = (refl, try-feed x h)
field-feed (FOption w x) h = (refl, Avoids-fewer marks (10 ∷ []) refl (option_text x) (option_one_word w x h))
field-feed (FReloc x) h = (refl, reloc-feed x h)
field-feed (FName x) h = (refl, Avoids-fewer marks (10 ∷ []) refl (117 ∷ decimal x) (name-one_word x h))
field-feed (FBytes x) h = (refl, Avoids-fewer marks (10 ∷ []) refl (bytes_text x) (bytes-one_word x h))
field-feed (FStart x y) h = (refl, Avoids-append (10 ∷ []) (real_text x) (32 ∷ value_text x.class y) (Avoids-fewer marks (10 ∷ []) refl (real_text x) (real-one_word x h.0)) (refl, Avoids-fewer marks (10 ∷ []) refl (value_text x.class y) (value-one_word x.class y h.1)))
field-feed (FFlags x) h = facilities-feed x
