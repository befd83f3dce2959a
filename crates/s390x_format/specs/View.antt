-- The fields of an instruction as numbers with their signs (Principles of Operation, chapter 5, "Instruction formats").
use Rattle.std.specs.Prelude.{ℕ, ℤ, pos, ◌%◌, ◌^◌, ◌-ℤ◌, ◌*ℤ◌, List, [], ◌∷◌, slice_index, nat_lt, if◌then◌else◌}
use Rattle.std.specs.Int.{cast_signed}
use mir.Syntax.{w16, w32}
use Rattle.s390x_format.specs.declared.kind.FormatKind.{FormatKind}
use Rattle.s390x_format.specs.declared.kind.FormatKind.TheVariants.{RiB, RiC, RilB, RilC, Sil}
use Rattle.s390x_format.specs.declared.fields.Fields.{Fields}
use Rattle.s390x_format.specs.declared.fields.Imm.{Imm}
use Rattle.s390x_format.specs.declared.fields.Imm.TheVariants.{Unsigned, Signed16, Half16, Half32}

-- how a format's immediate is read
abbrev pub imm_class_of : FormatKind → Imm
imm_class_of RiB = Half16
imm_class_of RiC = Half16
imm_class_of RilB = Half32
imm_class_of RilC = Half32
imm_class_of Sil = Signed16
imm_class_of _ = Unsigned

-- the number that the bits of an immediate stand for, a distance counted in bytes
abbrev pub imm_of : Imm → ℕ → ℤ
imm_of Unsigned n = pos n
imm_of Signed16 n = cast_signed w16 (n % 2 ^ 16)
imm_of Half16 n = pos 2 *ℤ cast_signed w16 (n % 2 ^ 16)
imm_of Half32 n = pos 2 *ℤ cast_signed w32 n

-- a displacement, one of 20 bits with its sign
abbrev pub disp_of : ℕ → ℤ
disp_of n = if nat_lt n (2 ^ 19) then pos n else pos n -ℤ pos (2 ^ 20)

-- the fields of an instruction, by the values in its slots
abbrev pub fields_of : FormatKind → List ℕ → Fields
fields_of kind s = record {
  regs = slice_index s 1 ∷ slice_index s 2 ∷ slice_index s 3 ∷ slice_index s 4 ∷ [];
  masks = slice_index s 5 ∷ slice_index s 6 ∷ slice_index s 7 ∷ [];
  imm = imm_of (imm_class_of kind) (slice_index s 8);
  disp = disp_of (slice_index s 9);
}
