-- Functions with the same lines are kept from standing in one image by the same causes.
use Rattle.std.proofs.Common.{◌≡◌, ℕ, ◌+◌, List, [], ◌∷◌, ◌++◌, map, Some, refl, ap, ap₂, ◌∙◌, cond}
use Rattle.s390x_base.specs.declared.ir.ExternalName.{ExternalName}
use Rattle.s390x_buffer.specs.declared.entries.MachBufferFinalized.{MachBufferFinalized}
use Rattle.s390x_image.specs.Causes.{link_cause}
use Rattle.s390x_image.specs.Symbols.{Symbols, no_symbols, with_address}
use Rattle.s390x_job.specs.declared.job.SymbolLine.{SymbolLine}
use Rattle.s390x_bundle.specs.Bundled.{duplicate_of}
use Rattle.s390x_bundle.specs.Emitted.{AreEmitted, IsEmitted, emit_cause, first_refused, refused_or}
use Rattle.s390x_bundle.specs.Joined.{starts_of_codes}
use Rattle.s390x_bundle.specs.Linking.{first_unlinked, unlinked_or}
use Rattle.s390x_bundle.specs.Names.{duplicate_in, first_duplicate, is_among, line_among, name_or, names_of}
use Rattle.s390x_bundle.specs.Table.{symbols_of, with_lines, with_members}
use Rattle.s390x_bundle.specs.declared.member.Member.{Member}
use Rattle.s390x_job_bundle.specs.Text.{AreFunctions, SameFunctions}
use Rattle.s390x_job_bundle.specs.declared.named_job.NamedJob.{NamedJob}
use Rattle.s390x_tool.specs.Answers.{IsCodeOfJob}
use Rattle.s390x_bundle.specs.Members.{member_of}
use Rattle.s390x_tool.specs.Bundled.{CanBeBundled}
use Rattle.s390x_tool.proofs.SameJob.{same_cause, same_code, same_symbols}

abbrev pub members : List NamedJob → List Member
members fs = map member_of fs

same_names : (fs gs : List NamedJob) → SameFunctions fs gs → names_of (members fs) ≡ names_of (members gs)
same_names [] [] same = refl
same_names (f ∷ fs) (g ∷ gs) same = ap₂ (λ x xs. x ∷ xs) same.0 (same_names fs gs same.2)
same_names fs gs same = absurd same

-- ---- names that come twice

same_duplicates : (names earlier : List ExternalName) (fs gs : List NamedJob) → AreFunctions fs → AreFunctions gs → SameFunctions fs gs → first_duplicate names earlier (members fs) ≡ first_duplicate names earlier (members gs)
same_duplicates names earlier [] [] a b same = refl
same_duplicates names earlier (f ∷ fs) (g ∷ gs) a b same =
    let s = same_symbols f.job g.job a.1 b.1 same.1 in
    ap₂ (λ n ss. name_or (cond (is_among earlier n) (Some n) (line_among names ss)) (first_duplicate names (earlier ++ n ∷ []) (members fs))) same.0 s
    ∙ ap (λ o. name_or (duplicate_in names earlier (member_of g)) o) (same_duplicates names (earlier ++ g.name ∷ []) fs gs a.2 b.2 same.2)
same_duplicates names earlier fs gs a b same = absurd same

pub same_duplicate : (fs gs : List NamedJob) → AreFunctions fs → AreFunctions gs → SameFunctions fs gs → duplicate_of (members fs) ≡ duplicate_of (members gs)
same_duplicate fs gs a b same = ap (λ ns. first_duplicate ns [] (members fs)) (same_names fs gs same) ∙ same_duplicates (names_of (members gs)) [] fs gs a b same

-- ---- emission

pub same_refused : (fs gs : List NamedJob) → AreFunctions fs → AreFunctions gs → SameFunctions fs gs → first_refused (members fs) ≡ first_refused (members gs)
same_refused [] [] a b same = refl
same_refused (f ∷ fs) (g ∷ gs) a b same =
    ap₂ (λ n o. refused_or n o (first_refused (members fs))) same.0 (same_cause f.job g.job a.1 b.1 same.1) ∙ ap (λ o. refused_or g.name (emit_cause (member_of g)) o) (same_refused fs gs a.2 b.2 same.2)
same_refused fs gs a b same = absurd same

pub code_of_job : (f : NamedJob) (code : MachBufferFinalized) → IsEmitted (member_of f) code → IsCodeOfJob f.job code
code_of_job f code h = record { valid = h.valid; ranges = h.ranges; emitted = h.finished }

pub member_emitted : (f : NamedJob) (code : MachBufferFinalized) → IsCodeOfJob f.job code → IsEmitted (member_of f) code
member_emitted f code h = record { valid = h.valid; finished = h.emitted; ranges = h.ranges }

same_emitted : (fs gs : List NamedJob) (codes : List MachBufferFinalized) → AreFunctions fs → AreFunctions gs → SameFunctions fs gs → AreEmitted (members fs) codes → AreEmitted (members gs) codes
same_emitted [] [] codes a b same h = h
same_emitted (f ∷ fs) (g ∷ gs) [] a b same h = absurd h
same_emitted (f ∷ fs) (g ∷ gs) (code ∷ codes) a b same h =
    (member_emitted g code (same_code f.job g.job code a.1 b.1 same.1 (code_of_job f code h.0)), same_emitted fs gs codes a.2 b.2 same.2 h.1)
same_emitted fs gs codes a b same h = absurd same

-- ---- linking

same_table : (base : ℕ) (table : Symbols) (fs gs : List NamedJob) (starts : List ℕ) → SameFunctions fs gs → with_members base table (members fs) starts ≡ with_members base table (members gs) starts
same_table base table [] (g ∷ gs) starts same = absurd same
same_table base table (f ∷ fs) [] starts same = absurd same
same_table base table (f ∷ fs) (g ∷ gs) (start ∷ starts) same =
    ap (λ n. with_members base (with_address table n (base + start)) (members fs) starts) same.0 ∙ same_table base (with_address table g.name (base + start)) fs gs starts same.2
same_table base table fs gs starts same = refl

-- the symbols of lines, with those of all members
all_symbols : (base : ℕ) (fs gs : List NamedJob) (starts : List ℕ) (lines : List SymbolLine) → SameFunctions fs gs → symbols_of base (members fs) starts lines ≡ symbols_of base (members gs) starts lines
all_symbols base fs gs starts lines same = same_table base (with_lines no_symbols lines) fs gs starts same

same_unlinked : (base : ℕ) (all all' : List NamedJob) (all_starts : List ℕ) (number : ℕ) (fs gs : List NamedJob) (starts : List ℕ) (codes : List MachBufferFinalized) → SameFunctions all all'
    → AreFunctions fs → AreFunctions gs → SameFunctions fs gs → first_unlinked base (members all) all_starts number (members fs) starts codes ≡ first_unlinked base (members all') all_starts number (members gs) starts codes
same_unlinked base all all' all_starts number [] (g ∷ gs) starts codes each a b same = absurd same
same_unlinked base all all' all_starts number (f ∷ fs) [] starts codes each a b same = absurd same
same_unlinked base all all' all_starts number (f ∷ fs) (g ∷ gs) (start ∷ starts) (code ∷ codes) each a b same =
    let rest = first_unlinked base (members all) all_starts (number + 1) (members fs) starts codes in
    ap (λ ss. unlinked_or number (link_cause code (base + start) (symbols_of base (members all) all_starts ss)) rest) (same_symbols f.job g.job a.1 b.1 same.1)
    ∙ ap (λ t. unlinked_or number (link_cause code (base + start) t) rest) (all_symbols base all all' all_starts g.job.symbols.items each)
    ∙ ap (λ o. unlinked_or number (link_cause code (base + start) (symbols_of base (members all') all_starts g.job.symbols.items)) o) (same_unlinked base all all' all_starts (number + 1) fs gs starts codes each a.2 b.2 same.2)
same_unlinked base all all' all_starts number fs gs starts codes each a b same = refl

-- ---- all

-- what nothing keeps from standing in one image doesn't by its lines
pub same_bundled : (base : ℕ) (fs gs : List NamedJob) → AreFunctions fs → AreFunctions gs → SameFunctions fs gs → CanBeBundled base (members gs) → CanBeBundled base (members fs)
same_bundled base fs gs a b same h =
    record {
      names = same_duplicate fs gs a b same ∙ h.names;
      valid = same_refused fs gs a b same ∙ h.valid;
      placed = λ codes is. h.placed codes (same_emitted fs gs codes a b same is);
      linked = λ codes is. same_unlinked base fs gs (starts_of_codes codes) 0 fs gs (starts_of_codes codes) codes same a b same ∙ h.linked codes (same_emitted fs gs codes a b same is);
    }
