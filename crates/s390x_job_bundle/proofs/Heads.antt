-- The lines of functions' text, function by function.
use Rattle.std.proofs.Common.{◌≡◌, ℕ, ◌<◌, Bool, true, false, List, [], ◌∷◌, ◌++◌, drop, get_or, refl, sym, ap, ap₂, ◌∙◌, arith, append_assoc}
use Rattle.std.specs.Prelude.{codes, ◌==◌}
use Rattle.std.specs.Fmt.{decimal}
use Rattle.std.specs.Str.{bytes_eq}
use Rattle.std.proofs.lemmas.Bool.{false≢true}
use Rattle.std.proofs.lemmas.Slice.Eq.{bytes_eq-Decides}
use Rattle.s390x_base.specs.declared.ir.ExternalName.{ExternalName}
use Rattle.s390x_job_fields.specs.Atoms.{name_of}
use Rattle.s390x_job_fields.proofs.Avoids.{Avoids, Avoids-append, Avoids-fewer, Avoids-test, marks}
use Rattle.s390x_job_fields.proofs.AtomsRoundTrip.{name-one_word, name-round_trip}
use Rattle.s390x_job_fields.proofs.Members.{or-false}
use Rattle.s390x_job_lines.proofs.Frees.{Free}
use Rattle.s390x_job.specs.Jobs.{text_of_job}
use Rattle.s390x_job.specs.Completions.{text_of_lines}
use Rattle.s390x_job.specs.declared.job.Job.{Job}
use Rattle.s390x_job.proofs.Whole.{one_job}
use Rattle.s390x_job_bundle.specs.Cut.{HasNoEnd}
use Rattle.s390x_job_bundle.specs.Text.{AreFunctions, SameFunctions, close_line, head_line, text_of_functions}
use Rattle.s390x_job_bundle.specs.declared.named_job.NamedJob.{NamedJob}
use Rattle.s390x_job_bundle.proofs.JobLines.{job_ended, job_free, job_joined, words_of}
use Rattle.s390x_job_bundle.proofs.Lines.{AllFree, free_append, joined_append, same_lines}

-- the lines of functions
abbrev pub function_words : List NamedJob → List (List ℕ)
function_words [] = []
function_words (f ∷ fs) = head_line f.name ∷ (words_of f.job ++ function_words fs)

-- with the last line
abbrev pub bundle_words : List NamedJob → List (List ℕ)
bundle_words [] = close_line ∷ []
bundle_words (f ∷ fs) = head_line f.name ∷ (words_of f.job ++ bundle_words fs)

pub bundle_joined : (fs : List NamedJob) → text_of_lines (bundle_words fs) ≡ text_of_functions fs
bundle_joined [] = refl
bundle_joined (f ∷ fs) =
    ap (λ t. head_line f.name ++ (10 ∷ t)) (joined_append (words_of f.job) (bundle_words fs) ∙ ap₂ (λ a b. a ++ b) (job_joined f.job) (bundle_joined fs))

-- one more function
pub words_append : (fs gs : List NamedJob) → function_words (fs ++ gs) ≡ function_words fs ++ function_words gs
words_append [] gs = refl
words_append (f ∷ fs) gs =
    ap (λ t. head_line f.name ∷ (words_of f.job ++ t)) (words_append fs gs) ∙ ap (λ t. head_line f.name ∷ t) (sym (append_assoc (words_of f.job) (function_words fs) (function_words gs)))

pub bundle_whole : (fs : List NamedJob) → bundle_words fs ≡ function_words fs ++ close_line ∷ []
bundle_whole [] = refl
bundle_whole (f ∷ fs) = ap (λ t. head_line f.name ∷ (words_of f.job ++ t)) (bundle_whole fs) ∙ ap (λ t. head_line f.name ∷ t) (sym (append_assoc (words_of f.job) (function_words fs) (close_line ∷ [])))

pub functions_append : (fs gs : List NamedJob) → AreFunctions fs → AreFunctions gs → AreFunctions (fs ++ gs)
functions_append [] gs h k = k
functions_append (f ∷ fs) gs h k = (h.0, h.1, functions_append fs gs h.2 k)

-- ---- no line feed stands in them

pub free_of : (s : List ℕ) → Avoids (10 ∷ []) s → Free 10 s
free_of [] h = tt
free_of (x ∷ s) h = (sym (or-false (x == 10)) ∙ h.0, free_of s h.1)

pub head_free : (name : ExternalName) → name.0 < 4294967296 → Free 10 (head_line name)
head_free name h =
    free_of (head_line name)
    (Avoids-append (10 ∷ []) (codes "function ") (117 ∷ decimal name.0) (Avoids-test (10 ∷ []) (codes "function ") refl) (Avoids-fewer marks (10 ∷ []) refl (117 ∷ decimal name.0) (name-one_word name.0 h)))

pub close_free : Free 10 close_line
close_free = free_of close_line (Avoids-test (10 ∷ []) close_line refl)

pub words_free : (fs : List NamedJob) → AreFunctions fs → AllFree (function_words fs)
words_free [] h = tt
words_free (f ∷ fs) h = (head_free f.name h.0, free_append (words_of f.job) (function_words fs) (job_free f.job h.1) (words_free fs h.2))

pub bundle_free : (fs : List NamedJob) → AreFunctions fs → AllFree (bundle_words fs)
bundle_free [] h = (close_free, tt)
bundle_free (f ∷ fs) h = (head_free f.name h.0, free_append (words_of f.job) (bundle_words fs) (job_free f.job h.1) (bundle_free fs h.2))

-- ---- a name is told by its line

pub name_read : (name : ExternalName) → name.0 < 4294967296 → name_of (drop 9 (head_line name)) ≡ name.0
name_read name h = name-round_trip name.0 h

abbrev numbered : ℕ → ExternalName
numbered n = record { 0 = n }

one_name : (a b : ExternalName) → a.0 ≡ b.0 → a ≡ b
one_name a b e = ap numbered e

pub same_name : (a b : ExternalName) → a.0 < 4294967296 → b.0 < 4294967296 → head_line a ≡ head_line b → a ≡ b
same_name a b h k e = one_name a b (sym (name_read a h) ∙ ap (λ w. name_of (drop 9 w)) e ∙ name_read b k)

-- a line that doesn't say the name that is read from it says none
pub not_head : (line : List ℕ) (read : ExternalName) (b : Bool) → read.0 ≡ name_of (drop 9 line) → b ≡ bytes_eq (head_line read) line → b ≡ false → (name : ExternalName) → name.0 < 4294967296 → head_line name ≡ line → ⊥
not_head line read b r e f name small is =
    let n : read.0 ≡ name.0 = r ∙ ap (λ w. name_of (drop 9 w)) (sym is) ∙ name_read name small in
    let t : head_line read ≡ line = ap (λ k. codes "function u" ++ decimal k) n ∙ is in
    false≢true (sym f ∙ e ∙ (bytes_eq-Decides (head_line read) line).1 t)

pub head_not_close : (name : ExternalName) → head_line name ≡ close_line → ⊥
head_not_close name e = let f : 102 ≡ 99 = ap (λ w. get_or w 0 0) e in absurd (omega (arith, f))

-- ---- where lists of lines agree

abbrev end_word : List ℕ
end_word = codes "end"

abbrev pub first : List (List ℕ) → List ℕ
first ws = get_or ws 0 []

not_end : (w : List ℕ) → bytes_eq w end_word ≡ false → end_word ≡ w → ⊥
not_end w h e = let clash : true ≡ false = ap (λ v. bytes_eq v end_word) e ∙ h in absurd cc

-- two lists of lines that agree have their first `end` at one place
pub cut_at : (a b x y : List (List ℕ)) → HasNoEnd a → HasNoEnd b → a ++ codes "end" ∷ x ≡ b ++ codes "end" ∷ y → (a ≡ b) × (x ≡ y)
cut_at [] [] x y h k e = (refl, ap (drop 1) e)
cut_at [] (w ∷ b) x y h k e = absurd (not_end w k.0 (ap first e))
cut_at (w ∷ a) [] x y h k e = absurd (not_end w h.0 (sym (ap first e)))
cut_at (v ∷ a) (w ∷ b) x y h k e =
    let rest = cut_at a b x y h.1 k.1 (ap (drop 1) e) in
    (ap₂ (λ u t. u ∷ t) (ap first e) rest.0, rest.1)

-- what follows functions in functions' lines
pub record Left (ws : List (List ℕ)) : Type 0 where
  pub functions : List NamedJob
  pub are : AreFunctions functions
  pub is : ws ≡ bundle_words functions

pub strip : (qs ps : List NamedJob) (ws : List (List ℕ)) → AreFunctions qs → AreFunctions ps → function_words qs ++ ws ≡ bundle_words ps → Left ws
strip [] ps ws a b e = record { functions = ps; are = b; is = e }
strip (q ∷ qs) [] ws a b e = absurd (head_not_close q.name (ap first e))
strip (q ∷ qs) (p ∷ ps) ws a b e =
    let u = job_ended q.job a.1 in
    let v = job_ended p.job b.1 in
    let t : (words_of q.job ++ function_words qs) ++ ws ≡ words_of p.job ++ bundle_words ps = ap (drop 1) e in
    let l : u.before ++ codes "end" ∷ (function_words qs ++ ws) ≡ (words_of q.job ++ function_words qs) ++ ws =
    sym (append_assoc (words_of q.job) (function_words qs) ws ∙ ap (λ x. x ++ (function_words qs ++ ws)) u.whole ∙ append_assoc u.before (codes "end" ∷ []) (function_words qs ++ ws)) in
    let r : words_of p.job ++ bundle_words ps ≡ v.before ++ codes "end" ∷ bundle_words ps = ap (λ x. x ++ bundle_words ps) v.whole ∙ append_assoc v.before (codes "end" ∷ []) (bundle_words ps) in
    strip qs ps ws a.2 b.2 (cut_at u.before v.before (function_words qs ++ ws) (bundle_words ps) u.free v.free (l ∙ t ∙ r)).1

-- ---- functions are told by their lines

texts_of_words : (j k : Job) → words_of j ≡ words_of k → text_of_job j ≡ text_of_job k
texts_of_words j k e = sym (job_joined j) ∙ ap text_of_lines e ∙ job_joined k

pub same_functions : (fs gs : List NamedJob) → AreFunctions fs → AreFunctions gs → bundle_words fs ≡ bundle_words gs → SameFunctions fs gs
same_functions [] [] a b e = tt
same_functions [] (g ∷ gs) a b e = absurd (head_not_close g.name (sym (ap first e)))
same_functions (f ∷ fs) [] a b e = absurd (head_not_close f.name (ap first e))
same_functions (f ∷ fs) (g ∷ gs) a b e =
    let u = job_ended f.job a.1 in
    let v = job_ended g.job b.1 in
    let l : u.before ++ codes "end" ∷ bundle_words fs ≡ words_of f.job ++ bundle_words fs = sym (ap (λ x. x ++ bundle_words fs) u.whole ∙ append_assoc u.before (codes "end" ∷ []) (bundle_words fs)) in
    let r : words_of g.job ++ bundle_words gs ≡ v.before ++ codes "end" ∷ bundle_words gs = ap (λ x. x ++ bundle_words gs) v.whole ∙ append_assoc v.before (codes "end" ∷ []) (bundle_words gs) in
    let c = cut_at u.before v.before (bundle_words fs) (bundle_words gs) u.free v.free (l ∙ ap (drop 1) e ∙ r) in
    let w : words_of f.job ≡ words_of g.job = u.whole ∙ ap (λ x. x ++ codes "end" ∷ []) c.0 ∙ sym v.whole in
    (same_name f.name g.name a.0 b.0 (ap first e), one_job f.job g.job a.1 b.1 (texts_of_words f.job g.job w), same_functions fs gs a.2 b.2 c.1)

pub one_text : (fs gs : List NamedJob) → AreFunctions fs → AreFunctions gs → text_of_functions fs ≡ text_of_functions gs → SameFunctions fs gs
one_text fs gs a b e = same_functions fs gs a b (same_lines (bundle_words fs) (bundle_words gs) (bundle_free fs a) (bundle_free gs b) (bundle_joined fs ∙ e ∙ sym (bundle_joined gs)))
