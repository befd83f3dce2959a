-- What the check computes of each format.
use Rattle.std.proofs.Common.{◌≡◌, ◌*◌, ◌≤◌, true, refl, lit≤}
use Rattle.s390x_base.specs.Code.{is_code_length}
use Rattle.s390x_format.specs.declared.kind.FormatKind.{FormatKind}
use Rattle.s390x_format.specs.declared.kind.FormatKind.TheVariants.{E}
use Rattle.s390x_format.specs.Layout.{bits, is_layout, is_narrow, is_whole, slots_ok, parts_of}
use Rattle.s390x_format.specs.Formats.{layout_of, length_of}

pub layout_ok : (f : FormatKind) → is_layout (layout_of f) ≡ true
unfolding bits is_narrow is_whole slots_ok parts_of layout_of
layout_ok E = refl
layout_ok _ = refl

pub layout_bits_of : (f : FormatKind) → bits (layout_of f) ≡ 8 * length_of f
unfolding bits layout_of length_of
layout_bits_of E = refl
layout_bits_of _ = refl

pub length_small : (f : FormatKind) → length_of f ≤ 6
unfolding length_of
length_small E = lit≤ tt
length_small _ = lit≤ tt

pub length_some : (f : FormatKind) → 2 ≤ length_of f
unfolding length_of
length_some E = lit≤ tt
length_some _ = lit≤ tt

pub length_is : (f : FormatKind) → is_code_length (length_of f) ≡ true
unfolding length_of
length_is E = refl
length_is _ = refl
