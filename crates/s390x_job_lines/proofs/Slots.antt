-- A name is found at its slot.
use Rattle.std.proofs.Common.{◌≡◌, ℕ, zero, suc, List, [], ◌∷◌, ◌⊎◌, inl, inr, true, false, refl, sym, ap, ◌∙◌}
use Rattle.std.specs.Prelude.{slice_index_or}
use Rattle.std.specs.Str.{bytes_eq}
use Rattle.std.proofs.lemmas.Slice.Eq.{bytes_eq-Decides}
use Rattle.std.proofs.lemmas.Bool.{false≢true}
use Rattle.s390x_job_fields.specs.Found.{found_by_name}
use Rattle.s390x_job_fields.proofs.Members.{either}
use Rattle.s390x_job_lines.specs.Names.{line_name_of, name_text, with_texts}
use Rattle.s390x_job_lines.specs.Slots.{slot_of}
use Rattle.s390x_job_lines.specs.declared.inst_name.IntegerName.TheVariants as IntegerIs
use Rattle.s390x_inst.specs.declared.load.LoadOp.TheVariants as LoadOps
use Rattle.s390x_inst.specs.declared.store.StoreOp.TheVariants as StoreOps
use Rattle.s390x_inst.specs.declared.whole.Direction.TheVariants as Directions
use Rattle.s390x_inst.specs.declared.whole.WholeLayout.TheVariants as Layouts
use Rattle.s390x_job_lines.specs.declared.inst_name.MemoryName.TheVariants as MemoryIs
use Rattle.s390x_job_lines.specs.declared.inst_name.ControlName.TheVariants as ControlIs
use Rattle.s390x_job_lines.specs.declared.inst_name.VectorName.TheVariants as VectorIs
use Rattle.s390x_job_lines.specs.declared.name.LineName.{LineName}
use Rattle.s390x_job_lines.specs.declared.name.LineName.TheVariants as N
use Rattle.s390x_job_lines.specs.declared.name_hash.TheConstants.{ALL_NAMES}

-- the name that stands at the slot of a word
abbrev pub name_at : List ℕ → LineName
name_at w = slice_index_or ALL_NAMES (slot_of w) N.EndLine

pub name-slot : (n : LineName) → name_at (name_text n) ≡ n
unfolding slot_of
name-slot (N.Integer IntegerIs.CmpRR) = refl
name-slot (N.Load LoadOps.Load32) = refl
name-slot (N.Store StoreOps.Store64) = refl
name-slot (N.Memory MemoryIs.LoadAddr) = refl
name-slot (N.Control ControlIs.Fence) = refl
name-slot (N.Vector VectorIs.VecSelect) = refl
name-slot (N.Whole Directions.Load Layouts.Straight) = refl
name-slot (N.Whole Directions.Store Layouts.Straight) = refl
name-slot n = refl

-- what is found has the spelling, or it is the other one
found_or : (xs : List LineName) (w : List ℕ) (other : LineName) → (found_by_name (with_texts xs) w other ≡ other) ⊎ (name_text (found_by_name (with_texts xs) w other) ≡ w)
found_or [] w other = inl refl
found_or (x ∷ xs) w other =
    elim (either (bytes_eq (name_text x) w)) [ inl e ↦ rw e (inr ((bytes_eq-Decides (name_text x) w).0 e)) | inr e ↦ rw e (found_or xs w other) ]

-- what stands at a place of a list is found by its text
found_at : (xs : List LineName) (k : ℕ) (w : List ℕ) → name_text (slice_index_or xs k N.EndLine) ≡ w → name_text (found_by_name (with_texts xs) w N.EndLine) ≡ w
found_at [] k w e = e
found_at (x ∷ xs) zero w e = rw ((bytes_eq-Decides (name_text x) w).1 e) e
found_at (x ∷ xs) (suc k) w e =
    elim (either (bytes_eq (name_text x) w)) [ inl t ↦ rw t ((bytes_eq-Decides (name_text x) w).0 t) | inr f ↦ rw f (found_at xs k w e) ]

-- the name that is found has the same text, and so the same slot
pub name-round_trip : (n : LineName) → line_name_of (name_text n) ≡ n
name-round_trip n =
    let same : name_text (line_name_of (name_text n)) ≡ name_text n = found_at ALL_NAMES (slot_of (name_text n)) (name_text n) (ap name_text (name-slot n)) in
    sym (name-slot (line_name_of (name_text n))) ∙ ap name_at same ∙ name-slot n

pub is_found : (n : LineName) (w : List ℕ) → bytes_eq (name_text n) w ≡ true → n ≡ line_name_of w
is_found n w e =
    sym (name-round_trip n) ∙ ap line_name_of ((bytes_eq-Decides (name_text n) w).0 e)

pub none_found : (n : LineName) (w : List ℕ) → ((m : LineName) → name_text m ≡ w → n ≡ m) → bytes_eq (name_text n) w ≡ false → N.EndLine ≡ line_name_of w
none_found n w only f =
    elim (found_or ALL_NAMES w N.EndLine) [ inl e ↦ sym e | inr e ↦ let s = ap name_text (only (line_name_of w) e) ∙ e in absurd (false≢true (sym f ∙ (bytes_eq-Decides (name_text n) w).1 s)) ]
