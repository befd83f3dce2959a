-- The finished code of members, one after the other.
use Rattle.std.proofs.Common.{◌≡◌, ℕ, zero, suc, ◌+◌, ◌<◌, ◌≤◌, List, [], ◌∷◌, ◌++◌, length, get_or, take, drop, max, Option, Some, None, refl, sym, ap, ◌∙◌, subst, arith, drop-cons, Result, Ok, Err, MatchResult, IsErrAnd}
use Rattle.std.specs.List.{All}
use Rattle.s390x_buffer.specs.Constants.{greatest_align}
use Rattle.s390x_buffer.specs.State.{Constant}
use Rattle.s390x_base.specs.declared.error.EmitError.{EmitError}
use Rattle.s390x_base.specs.declared.ir.ExternalName.{ExternalName}
use Rattle.s390x_buffer.specs.declared.entries.MachBufferFinalized.{MachBufferFinalized}
use Rattle.s390x_emit_int.proofs.Filling.{relocs_lie}
use Rattle.s390x_bundle.specs.declared.member.Member.{Member}
use Rattle.s390x_bundle.specs.declared.error.BundleError.{BundleError}
use Rattle.s390x_bundle.specs.declared.error.BundleError.TheVariants.{DuplicateName, Emit, EmptyMember, TooLong, AddressTooHigh, Link, NoMemory}
use Rattle.s390x_bundle.specs.Emitted.{AreEmitted, HasNoCode, IsEmitted, Refused, constants_of_member, emit_cause, first_refused, refused_or, folded_trees_of_member}
use Rattle.s390x_bundle.specs.Joined.{IsFinished}

emitted_suc : (ms : List Member) (i : ℕ) (m : Member) (fs : List MachBufferFinalized) (f : MachBufferFinalized) → i < length ms → m ≡ get_or ms i m → AreEmitted (take i ms) fs → IsEmitted m f → AreEmitted (take (suc i) ms) (fs ++ f ∷ [])
emitted_suc [] i m fs f lt e are is = absurd (omega (arith, lt))
emitted_suc (x ∷ ms) zero m [] f lt e are is = (subst (λ y. IsEmitted y f) e is, tt)
emitted_suc (x ∷ ms) (suc i) m (g ∷ fs) f lt e are is = (are.0, emitted_suc ms i m fs f (omega (arith, lt)) e are.1 is)
emitted_suc ms i m fs f lt e are is = absurd are

-- one member more has its code
pub emitted_more : (ms : List Member) (i : ℕ) (m : Member) (fs : List MachBufferFinalized) (f : MachBufferFinalized) → i < length ms → m ≡ get_or ms i m → AreEmitted (take i ms) fs → IsEmitted m f → AreEmitted (take (i + 1) ms) (fs ++ f ∷ [])
emitted_more ms i m fs f lt e are is = let next : suc i ≡ i + 1 = omega arith in subst (λ n. AreEmitted (take n ms) (fs ++ f ∷ [])) next (emitted_suc ms i m fs f lt e are is)

-- of the members from here on this one is the first
refused_here : (ms : List Member) (i : ℕ) (m : Member) → i < length ms → m ≡ get_or ms i m → first_refused (drop i ms) ≡ refused_or m.name (emit_cause m) (first_refused (drop (i + 1) ms))
refused_here ms i m lt e =
    let next : suc i ≡ i + 1 = omega arith in
    ap first_refused (drop-cons ms i m lt)
    ∙ ap (λ (y : Member). refused_or y.name (emit_cause y) (first_refused (drop (suc i) ms))) (sym e)
    ∙ ap (λ n. refused_or m.name (emit_cause m) (first_refused (drop n ms))) next

-- it is not refused, so the first one is behind it
pub refused_behind : (ms : List Member) (i : ℕ) (m : Member) → i < length ms → m ≡ get_or ms i m → emit_cause m ≡ None → first_refused (drop (i + 1) ms) ≡ first_refused (drop i ms)
refused_behind ms i m lt e valid = sym (refused_here ms i m lt e ∙ ap (λ o. refused_or m.name o (first_refused (drop (i + 1) ms))) valid)

refused_first : (name : ExternalName) (o : Option EmitError) (later : Option Refused) (r : Refused) → refused_or name o None ≡ Some r → refused_or name o later ≡ Some r
refused_first name None later r h = absurd (cc)
refused_first name (Some error) later r h = h

-- it is refused, so it is the first one
pub refused_now : (ms : List Member) (i : ℕ) (m : Member) (e : BundleError) → i < length ms → m ≡ get_or ms i m → first_refused (drop i ms) ≡ first_refused ms → HasNoCode (refused_or m.name (emit_cause m) None) e → HasNoCode (first_refused ms) e
refused_now ms i m (Emit name error) lt is first h = sym first ∙ refused_here ms i m lt is ∙ refused_first m.name (emit_cause m) (first_refused (drop (i + 1) ms)) (record { name = name; error = error }) h
refused_now ms i m NoMemory lt is first h = tt
refused_now ms i m e lt is first h = absurd h

-- an error that is handed on
pub again : {T : Type 0} (P : T → Type 0) (Q : BundleError → Type 0) (r : Result T BundleError) (e : BundleError) → IsErrAnd r (λ y. y ≡ e) → Q e → MatchResult r P Q
again P Q (Ok x) e a q = absurd a
again P Q (Err y) e a q = subst Q (sym a) q

pub emitted_count : (ms : List Member) (fs : List MachBufferFinalized) → AreEmitted ms fs → length fs ≡ length ms
emitted_count [] [] are = refl
emitted_count (m ∷ ms) (f ∷ fs) are = ap suc (emitted_count ms fs are.1)
emitted_count ms fs are = absurd are

greatest_above : (a : ℕ) (cs : List Constant) → a ≤ greatest_align a cs
greatest_above a [] = omega arith
greatest_above a (c ∷ cs) = omega (arith, greatest_above (max a c.align) cs)

finished_one : (m : Member) (f : MachBufferFinalized) → IsEmitted m f → IsFinished f
finished_one m f e = record {
  fields = relocs_lie (folded_trees_of_member m) (constants_of_member m) f e.finished;
  alignment = omega (arith, e.finished.alignment, greatest_above 4 (constants_of_member m));
  short = e.finished.short;
}

-- what emission gives is finished code
pub emitted_finished : (ms : List Member) (fs : List MachBufferFinalized) → AreEmitted ms fs → All IsFinished fs
emitted_finished [] [] are k d lt = absurd (omega (arith, lt))
emitted_finished (m ∷ ms) (f ∷ fs) are zero d lt = finished_one m f are.0
emitted_finished (m ∷ ms) (f ∷ fs) are (suc k) d lt = emitted_finished ms fs are.1 k d (omega (arith, lt))
emitted_finished ms fs are k d lt = absurd are
