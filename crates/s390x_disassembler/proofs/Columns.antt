-- A line that has its address and its bytes is read by them.
use Rattle.std.proofs.Common.{◌≡◌, ℕ, ◌^◌, ◌<◌, false, true, List, [], ◌∷◌, ◌++◌, drop, append_assoc, sym, ap, subst, ◌∙◌, Option, Some, None, inl, inr}
use Rattle.std.specs.Prelude.{Ok, MatchOption}
use Rattle.std.specs.Fmt.{digits}
use Rattle.std.proofs.lemmas.List.{append_cancel_left}
use Rattle.hex.specs.Hex.{encode_lower, decode_of, IsBytes}
use Rattle.hex.proofs.HexLemmas.{decode_of-encode_lower}
use Rattle.s390x_format.specs.declared.decoder.Located.{Located}
use Rattle.s390x_disassembler.specs.Words.{NoBlank}
use Rattle.s390x_disassembler.specs.Text.{found_text}
use Rattle.s390x_disassembler.specs.Lines.{IsFound}
use Rattle.s390x_disassembler.specs.Disassembly.{full_line}
use Rattle.s390x_disassembler.specs.Bare.{is_unit, IsBareRead}
use Rattle.s390x_disassembler.specs.Assembly.{bare_line, IsFirstLine}
use Rattle.s390x_disassembler.proofs.BareLine.{no_address}
use Rattle.s390x_disassembler.proofs.OneInstruction.{one_text}
use Rattle.s390x_disassembler.proofs.Distinct.{line_and_rest, NoBlank-hex}

same_full : (a : ℕ) (u v : List ℕ) (x y : Option Located) → v ≡ u → IsFound u x → IsFound v y → full_line a v y ≡ full_line a u x
same_full a u v x y e fx fy =
    let f : IsFound v x = subst (λ (w : List ℕ). IsFound w x) (sym e) fx in
    ap (λ (t : List ℕ). digits 16 false a ++ (58 ∷ (32 ∷ (encode_lower v ++ (32 ∷ (t ++ (10 ∷ []))))))) (one_text a v y x fy f) ∙ ap (λ (w : List ℕ). full_line a w x) e

-- the bytes of the line with which the text begins are known, and so is the line
pub record IsKnownLine (text line bytes u rest : List ℕ) : Type 0 where
  pub same : bytes ≡ u
  pub text_is : text ≡ line ++ rest

-- the word behind the address is digits, of which the bytes are read, and the line of the bytes is what stands there
pub columns_known : (a : ℕ) (text rest w bytes line : List ℕ) (y : Option Located) → a < 2 ^ 64 → text ≡ digits 16 false a ++ (58 ∷ (32 ∷ rest)) → ((xs p : List ℕ) → NoBlank xs → rest ≡ xs ++ (32 ∷ p) → w ≡ xs)
    → ((v : List ℕ) → decode_of w ≡ Ok v → bytes ≡ v) → IsFound bytes y → line ≡ full_line a bytes y → (u more : List ℕ) → IsBytes u → IsFirstLine a text u more → IsKnownLine text line bytes u more
columns_known a text rest w bytes line y small columns word hex fy is_line u more hu f = elim f.text_is [
  | inl e ↦
      let tail : rest ≡ encode_lower u ++ (32 ∷ (found_text a u f.found ++ (10 ∷ more))) = ap (drop 2) (append_cancel_left (digits 16 false a) _ _ (sym columns ∙ e ∙ line_and_rest a u f.found more)) in
      let same : bytes ≡ u = hex u (ap decode_of (word (encode_lower u) _ (NoBlank-hex u) tail) ∙ decode_of-encode_lower u hu) in
      record { same = same; text_is = e ∙ ap (λ (t : List ℕ). t ++ more) (sym (is_line ∙ same_full a u bytes f.found y same f.is_found fy)) }
  | inr e ↦ absurd (no_address a a u f.found text rest more small f.unit f.is_found (e ∙ append_assoc (found_text a u f.found) (10 ∷ []) more) columns)
]

same_bare : (a : ℕ) (u v : List ℕ) (x y : Option Located) → v ≡ u → IsFound u x → IsFound v y → bare_line a v y ≡ bare_line a u x
same_bare a u v x y e fx fy =
    let f : IsFound v x = subst (λ (w : List ℕ). IsFound w x) (sym e) fx in
    ap (λ (t : List ℕ). t ++ (10 ∷ [])) (one_text a v y x fy f) ∙ ap (λ (w : List ℕ). bare_line a w x) e

pub bare_known : (a : ℕ) (text bytes line : List ℕ) (y : Option Located) → ((rest : List ℕ) → text ≡ digits 16 false a ++ (58 ∷ (32 ∷ rest)) → ⊥) → IsBareRead a text bytes → IsFound bytes y → line ≡ bare_line a bytes y
    → (u more : List ℕ) → IsBytes u → IsFirstLine a text u more → IsKnownLine text line bytes u more
bare_known a text bytes line y bare reads fy is_line u more hu f = elim f.text_is [
  | inl e ↦ absurd (bare _ (e ∙ line_and_rest a u f.found more))
  | inr e ↦
      let same : bytes ≡ u = reads u f.found more hu f.unit f.is_found (e ∙ append_assoc (found_text a u f.found) (10 ∷ []) more) in
      record { same = same; text_is = e ∙ ap (λ (t : List ℕ). t ++ more) (sym (is_line ∙ same_bare a u bytes f.found y same f.is_found fy)) }
]

-- what is kept of a line that is known
pub kept_known : {T : Type 0} (r : Option T) (items after : T → List ℕ) (text line bytes more u rest : List ℕ) → MatchOption r (is_unit bytes ≡ false) (λ p. (is_unit bytes ≡ true) × (items p ≡ bytes) × (after p ≡ more))
    → text ≡ line ++ more → is_unit u ≡ true → IsKnownLine text line bytes u rest → MatchOption r ⊥ (λ p. (items p ≡ u) × (after p ≡ rest))
kept_known None items after text line bytes more u rest kept is unit k = let e : is_unit bytes ≡ true = ap is_unit k.same ∙ unit in cc
kept_known (Some p) items after text line bytes more u rest kept is unit k = (kept.1 ∙ k.same, kept.2 ∙ append_cancel_left line more rest (sym is ∙ k.text_is))
