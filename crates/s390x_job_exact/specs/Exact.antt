-- What is taken from a text only as it is printed.
use Rattle.std.specs.Prelude.{◌≡◌, ℕ, List, [], ◌∷◌, ◌++◌}
use Rattle.s390x_job_fields.specs.Fields.{Field, spell, IsField}
use Rattle.s390x_job_fields.specs.Lists.{AllItems, list_text, open_text}
use Rattle.s390x_job_lines.specs.Line.{Line, fields_text, line_text, AllFields, IsLine}
use Rattle.s390x_job_lines.specs.declared.name.LineName.{LineName}
use Rattle.s390x_job_lines.specs.declared.name.LineName.TheVariants as N

-- s begins with this field, which lies in its range, and t follows it
pub record Takes (f : Field) (s t : List ℕ) : Type 0 where
  pub taken : s ≡ spell f ++ t
  pub in_range : IsField f

-- s begins with these fields, which lie in their ranges, and t follows them
pub record TakesAll (fs : List Field) (s t : List ℕ) : Type 0 where
  pub in_range : AllFields fs
  pub taken : s ≡ fields_text fs ++ t

-- s begins with one more element of a list, which lies in its range, and t follows it
pub record TakesElement {A : Type 0} (spelling : A → List ℕ) (IsIn : A → Type 0) (before after : List A) (s t : List ℕ) : Type 0 where
  pub element : A
  pub in_range : IsIn element
  pub added : after ≡ before ++ element ∷ []
  pub taken : s ≡ spelling element ++ t

-- a list opened with the elements before, and then s, is one with those after, and then t; these lie in their range
pub record TakesElements {A : Type 0} (spelling : A → List ℕ) (IsIn : A → Type 0) (before after : List A) (s t : List ℕ) : Type 0 where
  pub in_range : AllItems IsIn after
  pub taken : open_text spelling before ++ s ≡ open_text spelling after ++ t

-- s begins with a space and this list, whose elements lie in their range, and t follows it
pub record TakesList {A : Type 0} (spelling : A → List ℕ) (IsIn : A → Type 0) (xs : List A) (s t : List ℕ) : Type 0 where
  pub in_range : AllItems IsIn xs
  pub taken : s ≡ 32 ∷ (list_text spelling xs ++ t)

-- s is the fields of this line, which has this name
pub record AreFields (n : LineName) (l : Line) (s : List ℕ) : Type 0 where
  pub name : l.name ≡ n
  pub line : IsLine l
  pub text : s ≡ fields_text l.fields

-- the name of an instruction's line, which no other lines belong to
abbrev pub IsSingle : LineName → Type 0
IsSingle (N.Integer n) = Unit {0}
IsSingle (N.Load op) = Unit {0}
IsSingle (N.Store op) = Unit {0}
IsSingle (N.Memory n) = Unit {0}
IsSingle (N.Control n) = Unit {0}
IsSingle (N.Vector n) = Unit {0}
IsSingle (N.Whole direction layout) = Unit {0}
IsSingle n = ⊥

-- the line of this text, which is that of one instruction
pub record IsInstructionText (l : Line) (w : List ℕ) : Type 0 where
  pub line : IsLine l
  pub text : line_text l ≡ w
  pub single : IsSingle l.name
