-- The function of the example is accepted.
use Rattle.std.proofs.Common.{◌≡◌, ℕ, ◌+◌, ◌%◌, ◌≤◌, ◌^◌, List, [], ◌∷◌, ◌++◌, length, None, refl, ap, ap₂, ◌∙◌, arith}
use Rattle.std.specs.Prelude.{codes}
use Rattle.std.proofs.lemmas.Bool.{le-leb, lt-ltb}
use Rattle.std.proofs.lemmas.Fmt.{decimal_digit}
use Rattle.s390x_format.specs.Formats.{layout_of, length_of}
use Rattle.s390x_format.specs.Layout.{bits, number}
use Rattle.s390x_format.specs.Reading.{be_bytes}
use Rattle.s390x_buffer.specs.declared.entries.MachBufferFinalized.{MachBufferFinalized}
use Rattle.s390x_image.specs.Causes.{link_cause}
use Rattle.s390x_image.specs.Symbols.{Symbols}
use Rattle.s390x_job.specs.Completions.{text_of_lines}
use Rattle.s390x_bundle.specs.Emitted.{AreEmitted, IsEmitted}
use Rattle.s390x_bundle.specs.Joined.{misplaced_member, starts_of_codes, unlinked_member}
use Rattle.s390x_bundle.specs.Linking.{unlinked_or}
use Rattle.s390x_bundle.specs.Places.{misplaced_or, place_cause}
use Rattle.s390x_bundle.specs.Table.{symbols_of}
use Rattle.s390x_bundle.specs.declared.member.Member.{Member}
use Rattle.s390x_job_bundle.specs.Text.{close_line, text_of_functions}
use Rattle.s390x_job_bundle.specs.declared.named_job.NamedJob.{NamedJob}
use Rattle.s390x_bundle.specs.Members.{member_of}
use Rattle.s390x_tool.specs.Bundled.{CanBeBundled, IsBundleAccepted}
use Rattle.s390x_tool.specs.Example.{one_function}
use Rattle.s390x_job.proofs.PlainJob.{plain_job, vec}
use Rattle.s390x_tool.proofs.ReturnJob.{is_job, job, job_text}

-- ---- a function

abbrev functions : List NamedJob
functions = record { name = record { 0 = 1 }; job = job } ∷ []

abbrev member : Member
member = member_of (record { name = record { 0 = 1 }; job = job })

function_spelled : text_of_functions functions ≡ text_of_lines one_function
function_spelled = ap₂ (λ ds t. (codes "function u" ++ ds) ++ (10 ∷ (t ++ (close_line ++ 10 ∷ [])))) (decimal_digit 1 (omega arith)) job_text

-- what its finished code is: two bytes on a boundary of 4, and nothing left for linking
pub record IsTwoBytes (f : MachBufferFinalized) : Type 0 where
  pub size : length f.bytes.items ≡ 2
  pub boundary : f.alignment ≡ 4
  pub linked : f.relocs.items ≡ []

two_bytes : (f : MachBufferFinalized) → IsEmitted member f → IsTwoBytes f
unfolding vec plain_job job number bits layout_of length_of be_bytes
two_bytes f h = record { size = ap length h.finished.bytes; boundary = h.finished.alignment; linked = h.finished.relocs }

-- it has a place and can be linked there
has_place : (base size : ℕ) → size ≡ 2 → base + 2 ≤ 18446744073709551616 → place_cause base 0 size ≡ None
has_place base size two fits = rw two (rw (lt-ltb (base + 0) 18446744073709551616 (omega (arith, fits))) refl)

pub can_link : (base : ℕ) (symbols : Symbols) (f : MachBufferFinalized) → IsTwoBytes f → base % 4 ≡ 0 → base + 2 ≤ 18446744073709551616 → link_cause f base symbols ≡ None
can_link base symbols f h even fits = rw h.linked (rw h.boundary (rw h.size (rw even (rw (le-leb (base + 2) 18446744073709551616 fits) refl))))

module _ (base : ℕ) (even : base % 4 ≡ 0) (fits : base + 2 ≤ 18446744073709551616) where
  placed : (codes : List MachBufferFinalized) → AreEmitted (member ∷ []) codes → misplaced_member base codes ≡ None
  placed [] h = absurd h
  placed (f ∷ []) h = ap (λ o. misplaced_or 0 o None) (has_place base (length f.bytes.items) (two_bytes f h.0).size fits)
  placed (f ∷ g ∷ fs) h = absurd h.1

  links : (codes : List MachBufferFinalized) → AreEmitted (member ∷ []) codes → unlinked_member base (member ∷ []) codes ≡ None
  links [] h = absurd h
  links (f ∷ []) h =
      let same : base + 0 ≡ base = omega arith in
      let symbols = symbols_of base (member ∷ []) (starts_of_codes (f ∷ [])) member.symbols.items in
      ap (λ o. unlinked_or 0 o None) (can_link (base + 0) symbols f (two_bytes f h.0) (ap (λ b. b % 4) same ∙ even) (omega (arith, fits)))
  links (f ∷ g ∷ fs) h = absurd h.1

  can_be_bundled : CanBeBundled base (member ∷ [])
  unfolding vec plain_job job length_of
  can_be_bundled = record { names = refl; valid = refl; placed = placed; linked = links }

pub function_accepted : (base : ℕ) → base % 4 ≡ 0 → base + 2 ≤ 2 ^ 64 → IsBundleAccepted base (text_of_lines one_function)
function_accepted base even fits = record {
  short = omega arith;
  functions = functions;
  are = (omega arith, is_job, tt);
  spelled = function_spelled;
  bundled = can_be_bundled base even (omega (arith, fits));
}
