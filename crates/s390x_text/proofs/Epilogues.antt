-- Of a frame that saves nothing, the stack pointer alone is set before a tail call of a symbol.
use Rattle.std.proofs.Common.{◌≡◌, ℕ, List, [], ◌∷◌, ◌++◌, true, cond, is_none, nat_eq, Option, None, Some, Result, IfOk, refl, sym, ap, subst, ◌∙◌, append-nil}
use Rattle.std.proofs.lemmas.Bool.{and_parts, eqb-true}
use Rattle.s390x_base.specs.declared.regs.Reg.{Reg}
use Rattle.s390x_inst.specs.Emission.{Emission}
use Rattle.s390x_inst.specs.Frames.{caller_at, copied_target, float_loads, floats_at, general_load, saved_floats}
use Rattle.s390x_inst.specs.declared.calls.CallInstDest.{CallInstDest}
use Rattle.s390x_inst.specs.declared.calls.CallInstDest.TheVariants.{Direct, Indirect}
use Rattle.s390x_inst.specs.declared.inst.Inst.{Inst}
use Rattle.s390x_inst.specs.declared.state.FrameLayout.{FrameLayout}
use Rattle.s390x_text_rows.specs.Simple.{simple_text, unbuilt}
use Rattle.s390x_text_rows.specs.Texts.{Text, Prints, first_cause, before_semicolon}
use Rattle.s390x_text_rows.specs.declared.error.TextError.{TextError}
use Rattle.s390x_text.specs.Calls.{epilogue_text, is_first_saved, is_only_raised, simple_texts, stack_raise}

no_later : (c : Option TextError) → first_cause c None ≡ c
no_later None = refl
no_later (Some e) = refl

nothing : {A : Type 0} (x : Option A) → is_none x ≡ true → x ≡ None
nothing None h = refl
nothing (Some x) h = absurd (cc)

none_saved : saved_floats 0 ≡ []
unfolding saved_floats
none_saved = refl

abbrev text_of : Option TextError → List ℕ → Text
text_of c s = record { cause = c; bytes = s }

-- the text of a list of one
alone : (e : Emission) (i : Inst) → simple_texts e (i ∷ []) ≡ before_semicolon (simple_text true e i)
alone e i =
    let t = before_semicolon (simple_text true e i) in
    ap (λ c. text_of c (t.bytes ++ [])) (no_later t.cause) ∙ ap (λ s. text_of t.cause s) (append-nil t.bytes)

-- the float registers of a set and the general ones from the first are loaded, and the stack pointer is set
abbrev by_saved : Emission → ℕ → List ℕ → Option ℕ → Text
by_saved e popped floats first =
    cond (is_first_saved first) (simple_texts e (float_loads (floats_at e.layout) 0 floats ++ general_load (caller_at e.layout) first ++ stack_raise e.layout popped ∷ [])) unbuilt

raised : (e : Emission) (popped : ℕ) (dest : CallInstDest) → is_only_raised e.layout dest ≡ true → epilogue_text e popped dest ≡ before_semicolon (simple_text true e (stack_raise e.layout popped))
raised e popped (Direct name) h =
    let p = and_parts (nat_eq e.layout.saved_fprs 0) (is_none e.layout.first_saved_gpr) h in
    ap (λ s. by_saved e popped (saved_floats s) e.layout.first_saved_gpr) (eqb-true e.layout.saved_fprs 0 p.0)
    ∙ ap (λ fs. by_saved e popped fs e.layout.first_saved_gpr) none_saved
    ∙ ap (λ g. by_saved e popped [] g) (nothing e.layout.first_saved_gpr p.1)
    ∙ alone e (stack_raise e.layout popped)
raised e popped (Indirect reg) h = absurd (cc)

pub only_raised : {T : Type 0} (r : Result T TextError) (old new : List ℕ) (e : Emission) (popped : ℕ) (dest : CallInstDest) → is_only_raised e.layout dest ≡ true
    → Prints r old new (before_semicolon (simple_text true e (stack_raise e.layout popped))) → Prints r old new (epilogue_text e popped dest)
only_raised r old new e popped dest h p = subst (λ t. Prints r old new t) (sym (raised e popped dest h)) p

pub none_copied : {E : Type 0} (r : Result (Option Reg) E) (layout : FrameLayout) (dest : CallInstDest) → is_only_raised layout dest ≡ true → IfOk r (λ copied. copied ≡ None) → IfOk r (λ copied. copied ≡ copied_target dest)
none_copied r layout (Direct name) h p = p
none_copied r layout (Indirect reg) h p = absurd (cc)
