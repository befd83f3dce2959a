-- What lines are to a job: one opens a loop, one closes it, and one ends the job.
use Rattle.std.proofs.Common.{◌≡◌, ℕ, zero, suc, ◌+◌, Bool, true, false, List, [], ◌∷◌, ◌++◌, take, length, Some, None, refl, sym, ap, ◌∙◌, arith}
use Rattle.std.specs.Prelude.{codes, nat_lt, if◌then◌else◌, ◌==◌, ◌||◌, ◌^◌}
use Rattle.std.specs.Str.{bytes_eq}
use Rattle.s390x_job_fields.specs.Fields.{Field, FName, FNatural, FBytes, FStart, FFlags}
use Rattle.s390x_job_lines.specs.Kinds.{kinds}
use Rattle.s390x_job_lines.specs.Line.{Line, IsLine, kinds_of, line_text, fields_text}
use Rattle.s390x_job_lines.specs.Names.{control_text, integer_text, load_name_text, memory_name_text, name_text, store_name_text, vector_name_text, whole_name_text}
use Rattle.s390x_inst.specs.declared.load.LoadOp.{LoadOp}
use Rattle.s390x_inst.specs.declared.load.LoadOp.TheVariants as LoadOps
use Rattle.s390x_inst.specs.declared.store.StoreOp.{StoreOp}
use Rattle.s390x_inst.specs.declared.store.StoreOp.TheVariants as StoreOps
use Rattle.s390x_inst.specs.declared.whole.Direction.{Direction}
use Rattle.s390x_inst.specs.declared.whole.Direction.TheVariants as Directions
use Rattle.s390x_inst.specs.declared.whole.WholeLayout.{WholeLayout}
use Rattle.s390x_inst.specs.declared.whole.WholeLayout.TheVariants as Layouts
use Rattle.s390x_job_lines.specs.declared.inst_name.IntegerName.{IntegerName}
use Rattle.s390x_job_lines.specs.declared.inst_name.IntegerName.TheVariants as IntegerIs
use Rattle.s390x_job_lines.specs.declared.inst_name.MemoryName.{MemoryName}
use Rattle.s390x_job_lines.specs.declared.inst_name.MemoryName.TheVariants as MemoryIs
use Rattle.s390x_job_lines.specs.declared.inst_name.ControlName.{ControlName}
use Rattle.s390x_job_lines.specs.declared.inst_name.ControlName.TheVariants as ControlIs
use Rattle.s390x_job_lines.specs.declared.inst_name.VectorName.{VectorName}
use Rattle.s390x_job_lines.specs.declared.inst_name.VectorName.TheVariants as VectorIs
use Rattle.s390x_job_lines.specs.declared.name.LineName.{LineName}
use Rattle.s390x_job_lines.specs.declared.name.LineName.TheVariants as N
use Rattle.s390x_job.specs.Grammar.{Class, Head, OpenBlock, OpenLoop, CloseLoop, CloseJob, Instruction, Never, Place, Header, Within, AtEnd, class, line_class, may_follow, memory_class, next_place, region_class, register_class, register_place, symbol_class}

pub data Sort : Type 0 where
  Opening : Sort
  Closing : Sort
  Ending : Sort
  Plain : Sort

abbrev pub is_opening : Sort → Bool
is_opening Opening = true
is_opening s = false

abbrev pub is_closing : Sort → Bool
is_closing Closing = true
is_closing s = false

abbrev pub is_ending : Sort → Bool
is_ending Ending = true
is_ending s = false

-- by its class
abbrev pub sort_of : Class → Sort
sort_of OpenLoop = Opening
sort_of CloseLoop = Closing
sort_of CloseJob = Ending
sort_of c = Plain

-- by its name
abbrev named : LineName → Sort
named N.Loop = Opening
named N.EndLoopLine = Closing
named N.EndLine = Ending
named n = Plain

-- ---- by a name's text

no_fields : (fs : List Field) → [] ≡ kinds_of fs → fs ≡ []
no_fields [] h = refl
no_fields (f ∷ fs) h = absurd cc

loop_text : (fs : List Field) → kinds N.Loop ≡ kinds_of fs → bytes_eq (take 5 (name_text N.Loop ++ fields_text fs)) (codes "Loop ") ≡ true
loop_text [] h = absurd cc
loop_text (FFlags f ∷ fs) h = absurd cc
loop_text (f ∷ fs) h = refl

-- no line that begins with this word opens a loop, closes one or ends the job
abbrev Other : List ℕ → Type 0
Other w = (fs : List Field) →
    (bytes_eq (take 5 (w ++ fields_text fs)) (codes "Loop ") ≡ false) × (bytes_eq (w ++ fields_text fs) (codes "endloop") ≡ false) × (bytes_eq (w ++ fields_text fs) (codes "end") ≡ false)

integer_other : (n : IntegerName) → Other (integer_text n)
integer_other IntegerIs.CmpRR = λ fs. (refl, refl, refl)
integer_other n = λ fs. (refl, refl, refl)

load_other : (op : LoadOp) → Other (load_name_text op)
load_other LoadOps.Load32 = λ fs. (refl, refl, refl)
load_other op = λ fs. (refl, refl, refl)

store_other : (op : StoreOp) → Other (store_name_text op)
store_other StoreOps.Store64 = λ fs. (refl, refl, refl)
store_other op = λ fs. (refl, refl, refl)

memory_other : (n : MemoryName) → Other (memory_name_text n)
memory_other MemoryIs.LoadAddr = λ fs. (refl, refl, refl)
memory_other n = λ fs. (refl, refl, refl)

control_other : (n : ControlName) → Other (control_text n)
control_other ControlIs.Fence = λ fs. (refl, refl, refl)
control_other n = λ fs. (refl, refl, refl)

vector_other : (n : VectorName) → Other (vector_name_text n)
vector_other VectorIs.VecSelect = λ fs. (refl, refl, refl)
vector_other n = λ fs. (refl, refl, refl)

whole_other : (direction : Direction) (layout : WholeLayout) → Other (whole_name_text direction layout)
whole_other Directions.Load Layouts.Straight = λ fs. (refl, refl, refl)
whole_other Directions.Load layout = λ fs. (refl, refl, refl)
whole_other Directions.Store Layouts.Straight = λ fs. (refl, refl, refl)
whole_other Directions.Store layout = λ fs. (refl, refl, refl)

opens_named : (n : LineName) (fs : List Field) → kinds n ≡ kinds_of fs → bytes_eq (take 5 (name_text n ++ fields_text fs)) (codes "Loop ") ≡ is_opening (named n)
opens_named N.Loop fs h = loop_text fs h
opens_named (N.Integer n) fs h = (integer_other n fs).0
opens_named (N.Load op) fs h = (load_other op fs).0
opens_named (N.Store op) fs h = (store_other op fs).0
opens_named (N.Memory n) fs h = (memory_other n fs).0
opens_named (N.Control n) fs h = (control_other n fs).0
opens_named (N.Vector n) fs h = (vector_other n fs).0
opens_named (N.Whole direction layout) fs h = (whole_other direction layout fs).0
opens_named n fs h = refl

closes_named : (n : LineName) (fs : List Field) → kinds n ≡ kinds_of fs → bytes_eq (name_text n ++ fields_text fs) (codes "endloop") ≡ is_closing (named n)
closes_named N.EndLoopLine fs h = ap (λ gs. bytes_eq (name_text N.EndLoopLine ++ fields_text gs) (codes "endloop")) (no_fields fs h)
closes_named N.EndLine fs h = ap (λ gs. bytes_eq (name_text N.EndLine ++ fields_text gs) (codes "endloop")) (no_fields fs h)
closes_named (N.Integer n) fs h = (integer_other n fs).1
closes_named (N.Load op) fs h = (load_other op fs).1
closes_named (N.Store op) fs h = (store_other op fs).1
closes_named (N.Memory n) fs h = (memory_other n fs).1
closes_named (N.Control n) fs h = (control_other n fs).1
closes_named (N.Vector n) fs h = (vector_other n fs).1
closes_named (N.Whole direction layout) fs h = (whole_other direction layout fs).1
closes_named n fs h = refl

ends_named : (n : LineName) (fs : List Field) → kinds n ≡ kinds_of fs → bytes_eq (name_text n ++ fields_text fs) (codes "end") ≡ is_ending (named n)
ends_named N.EndLine fs h = ap (λ gs. bytes_eq (name_text N.EndLine ++ fields_text gs) (codes "end")) (no_fields fs h)
ends_named (N.Integer n) fs h = (integer_other n fs).2
ends_named (N.Load op) fs h = (load_other op fs).2
ends_named (N.Store op) fs h = (store_other op fs).2
ends_named (N.Memory n) fs h = (memory_other n fs).2
ends_named (N.Control n) fs h = (control_other n fs).2
ends_named (N.Vector n) fs h = (vector_other n fs).2
ends_named (N.Whole direction layout) fs h = (whole_other direction layout fs).2
ends_named n fs h = refl

-- ---- by its class

sort_if : (b : Bool) (c d : Class) → sort_of c ≡ Plain → sort_of d ≡ Plain → sort_of (if b then c else d) ≡ Plain
sort_if true c d h k = h
sort_if false c d h k = k

sort_symbol : (fs : List Field) → sort_of (symbol_class fs) ≡ Plain
sort_symbol [] = refl
sort_symbol (FName n ∷ fs) = refl
sort_symbol (f ∷ fs) = refl

sort_register : (fs : List Field) → sort_of (register_class fs) ≡ Plain
sort_register [] = refl
sort_register (FStart r v ∷ fs) = sort_if (v == 0) Never (Head 4 (register_place r) (register_place r + 1)) refl refl
sort_register (f ∷ fs) = refl

sort_region : (address size : ℕ) → sort_of (region_class address size) ≡ Plain
sort_region address size = sort_if ((size == 0) || nat_lt (2 ^ 64) (address + size)) Never (Head 5 address (address + size)) refl refl

memory_alone : (f : Field) → sort_of (memory_class (f ∷ [])) ≡ Plain
memory_alone (FNatural w a) = refl
memory_alone f = refl

sort_memory : (fs : List Field) → sort_of (memory_class fs) ≡ Plain
sort_memory [] = refl
sort_memory (f ∷ []) = memory_alone f
sort_memory (FNatural w a ∷ FBytes bs ∷ fs) = sort_region a (length bs)
sort_memory (FNatural w a ∷ f ∷ fs) = refl
sort_memory (f ∷ g ∷ fs) = refl

class_named : (n : LineName) (fs : List Field) → sort_of (line_class n fs) ≡ named n
class_named N.FlagsLine fs = sort_if (bytes_eq (fields_text fs) []) Never (Head 0 0 1) refl refl
class_named N.FrameLine fs = sort_if (bytes_eq (fields_text fs) (codes " SystemV 0 0 0 0 0 0 - 0")) Never (Head 1 0 1) refl refl
class_named N.SymbolLine fs = sort_symbol fs
class_named N.RegisterLine fs = sort_register fs
class_named N.MemoryLine fs = sort_memory fs
class_named n fs = refl

-- ---- a line's text tells its sort

pub text_opens : (l : Line) → IsLine l → bytes_eq (take 5 (line_text l)) (codes "Loop ") ≡ is_opening (sort_of (class l))
text_opens l h = opens_named l.name l.fields h.kinds_fit ∙ ap is_opening (sym (class_named l.name l.fields))

pub text_closes : (l : Line) → IsLine l → bytes_eq (line_text l) (codes "endloop") ≡ is_closing (sort_of (class l))
text_closes l h = closes_named l.name l.fields h.kinds_fit ∙ ap is_closing (sym (class_named l.name l.fields))

pub text_ends : (l : Line) → IsLine l → bytes_eq (line_text l) (codes "end") ≡ is_ending (sort_of (class l))
text_ends l h = ends_named l.name l.fields h.kinds_fit ∙ ap is_ending (sym (class_named l.name l.fields))

-- ---- and its sort what comes behind it

-- how many loops are open
abbrev pub level : Place → ℕ
level (Within d) = d
level _ = 0

abbrev pub rise : Sort → ℕ
rise Opening = 1
rise s = 0

abbrev pub fall : Sort → ℕ
fall Closing = 1
fall s = 0

chosen : (b : Bool) (p q : Place) → (if b then Some p else None) ≡ Some q → p ≡ q
chosen true p q e = cc
chosen false p q e = absurd cc

only : (p q : Place) → Some p ≡ Some q → p ≡ q
only p q e = cc

pub next_level : (p : Place) (c : Class) (q : Place) → next_place p c ≡ Some q → level p + rise (sort_of c) ≡ level q + fall (sort_of c)
next_level (Header rank bound) (Head r first past) q e = omega (arith, ap level (chosen (may_follow rank bound r first) (Header r past) q e))
next_level (Header rank bound) OpenBlock q e = omega (arith, ap level (only (Within 0) q e))
next_level (Header rank bound) CloseJob q e = omega (arith, ap level (only AtEnd q e))
next_level (Within d) OpenLoop q e = omega (arith, ap level (chosen (nat_lt d 9) (Within (suc d)) q e))
next_level (Within d) Instruction q e = omega (arith, ap level (only (Within d) q e))
next_level (Within zero) OpenBlock q e = omega (arith, ap level (only (Within 0) q e))
next_level (Within zero) CloseJob q e = omega (arith, ap level (only AtEnd q e))
next_level (Within (suc d)) CloseLoop q e = omega (arith, ap level (only (Within d) q e))
next_level p c q e = absurd cc

-- only the last line leads to the end
pub end_by : (p : Place) (c : Class) → next_place p c ≡ Some AtEnd → is_ending (sort_of c) ≡ true
end_by (Header rank bound) (Head r first past) e = let f = chosen (may_follow rank bound r first) (Header r past) AtEnd e in absurd cc
end_by (Header rank bound) CloseJob e = refl
end_by (Within d) OpenLoop e = let f = chosen (nat_lt d 9) (Within (suc d)) AtEnd e in absurd cc
end_by (Within zero) CloseJob e = refl
end_by (Within zero) OpenBlock e = absurd cc
end_by (Within zero) CloseLoop e = absurd cc
end_by p c e = absurd cc

-- and it leads nowhere else
pub end_to : (p : Place) (c : Class) (q : Place) → is_ending (sort_of c) ≡ true → next_place p c ≡ Some q → q ≡ AtEnd
end_to (Header rank bound) CloseJob q h e = cc
end_to (Within zero) CloseJob q h e = cc
end_to (Within (suc d)) CloseJob q h e = absurd cc
end_to AtEnd CloseJob q h e = absurd cc
end_to p c q h e = absurd cc
