-- A line: a name and a list of fields.
use Rattle.std.specs.Prelude.{◌≡◌, ℕ, List, [], ◌∷◌, ◌++◌}
use Rattle.s390x_job_fields.specs.Marks.{before_mark, from_mark}
use Rattle.s390x_job_lines.specs.Names.{line_name_of, name_text}
use Rattle.s390x_job_fields.specs.Fields.{Field, Kind, kind_of, spell, IsField, value_as, after_as}
use Rattle.s390x_job_lines.specs.Kinds.{kinds}
use Rattle.s390x_job_lines.specs.declared.name.LineName.{LineName}

-- a name, and the fields that follow it
pub record Line : Type 0 where
  pub name : LineName
  pub fields : List Field

-- the text of fields, one after another
abbrev pub fields_text : List Field → List ℕ
fields_text [] = []
fields_text (f ∷ fs) = spell f ++ fields_text fs

-- the text of a line, without a line feed
abbrev pub line_text : Line → List ℕ
line_text l = name_text l.name ++ fields_text l.fields

-- each field lies in its range
abbrev pub AllFields : List Field → Type 0
AllFields [] = Unit {0}
AllFields (f ∷ fs) = IsField f × AllFields fs

-- the kinds of fields, in order
abbrev pub kinds_of : List Field → List Kind
kinds_of [] = []
kinds_of (f ∷ fs) = kind_of f ∷ kinds_of fs

-- a line whose fields are those of its name, each in its range
pub record IsLine (l : Line) : Type 0 where
  pub kinds_fit : kinds l.name ≡ kinds_of l.fields
  pub fields_fit : AllFields l.fields

-- the fields of these kinds that are read from a text, one after another
abbrev pub line_fields_of : List Kind → List ℕ → List Field
line_fields_of [] s = []
line_fields_of (k ∷ ks) s = value_as k s ∷ line_fields_of ks (after_as k s)

-- the line of a name, with the fields that are read from a text
abbrev pub line_with : LineName → List ℕ → Line
line_with n s = record { name = n; fields = line_fields_of (kinds n) s }

-- the line that is read from a text: its name stands before the first mark, and a word that is no name counts as `end`
abbrev pub line_of : List ℕ → Line
line_of s = line_with (line_name_of (before_mark s)) (from_mark s)
