-- Lines of hex digits, read one after another.
use Rattle.std.proofs.Common.{◌≡◌, ℕ, true, false, suc, ◌+◌, ◌-◌, ◌<◌, inr, List, [], ◌∷◌, ◌++◌, Option, Some, None, Result, Ok, Err, length, take, refl, sym, ap, ◌∙◌, subst, arith, append_assoc, append-nil, length-append}
use Rattle.std.specs.Prelude.{IsSome, is_some}
use Rattle.std.proofs.Math.Seq.{take-append-add, take-append_seam}
use Rattle.hex.specs.Hex.{decode_of}
use Rattle.hex.specs.declared.error.FromHexError.{FromHexError}
use Rattle.s390x_job_fields.specs.Marks.{upto, past}
use Rattle.s390x_job.specs.Completions.{text_of_lines, pieces}
use Rattle.s390x_job.proofs.Above.{pieces_none}
use Rattle.s390x_job_bundle.proofs.Lines.{AllFree, first_line, free_append, joined_append, pieces_free, pieces_joined, text_cut}
use Rattle.s390x_binary_tool.specs.ImageText.{IsImageText, IsWrongLine, bytes_before, bytes_of_lines}
use Rattle.s390x_job.proofs.Whole.{nil}

-- bytes of lines and of those behind them, where both are there
abbrev both : Option (List ℕ) → Option (List ℕ) → Option (List ℕ)
both (Some a) (Some b) = Some (a ++ b)
both _ _ = None

both_empty : (o : Option (List ℕ)) → o ≡ both (Some []) o
both_empty None = refl
both_empty (Some b) = refl

both_none : (o : Option (List ℕ)) → both o None ≡ None
both_none None = refl
both_none (Some a) = refl

before_both : (d : Result (List ℕ) FromHexError) (x y : Option (List ℕ)) → bytes_before d (both x y) ≡ both (bytes_before d x) y
before_both (Ok f) (Some a) (Some b) = ap Some (sym (append_assoc f a b))
before_both d x y = refl

lines_append : (ws vs : List (List ℕ)) → bytes_of_lines (ws ++ vs) ≡ both (bytes_of_lines ws) (bytes_of_lines vs)
lines_append [] vs = both_empty (bytes_of_lines vs)
lines_append (w ∷ ws) vs = ap (bytes_before (decode_of w)) (lines_append ws vs) ∙ before_both (decode_of w) (bytes_of_lines ws) (bytes_of_lines vs)

-- one more line
line_more : (ws : List (List ℕ)) (w image bytes : List ℕ) → bytes_of_lines ws ≡ Some image → decode_of w ≡ Ok bytes → bytes_of_lines (ws ++ w ∷ []) ≡ Some (image ++ bytes)
line_more ws w image bytes is decoded =
    lines_append ws (w ∷ [])
    ∙ ap (λ o. both o (bytes_of_lines (w ∷ []))) is
    ∙ ap (λ d. both (Some image) (bytes_before d (Some []))) decoded
    ∙ ap (λ b. Some (image ++ b)) (append-nil bytes)

-- behind a line that isn't hex nothing is read
line_wrong : (ws vs : List (List ℕ)) (w : List ℕ) (e : FromHexError) → decode_of w ≡ Err e → bytes_of_lines (ws ++ w ∷ vs) ≡ None
line_wrong ws vs w e wrong =
    lines_append ws (w ∷ vs)
    ∙ ap (λ d. both (bytes_of_lines ws) (bytes_before d (bytes_of_lines vs))) wrong
    ∙ both_none (bytes_of_lines ws)

-- the lines so far, what they write, and the rest
pub record Read (text rest image : List ℕ) (number : ℕ) : Type 0 where
  pub lines : List (List ℕ)
  pub free : AllFree lines
  pub whole : text ≡ text_of_lines lines ++ rest
  pub bytes : bytes_of_lines lines ≡ Some image
  pub count : number ≡ length lines + 1

first_free : (rest : List ℕ) → (length (upto 10 rest) ≡ length rest → ⊥) → AllFree (upto 10 rest ∷ [])
first_free rest n = let h : AllFree (upto 10 rest ∷ pieces (past 10 rest)) = subst AllFree (first_line rest n) (pieces_free rest) in (h.0, tt)

pub read_more : (text rest image bytes : List ℕ) (number : ℕ) → Read text rest image number → (length (upto 10 rest) ≡ length rest → ⊥) → decode_of (upto 10 rest) ≡ Ok bytes → Read text (past 10 rest) (image ++ bytes) (number + 1)
read_more text rest image bytes number r n decoded =
    record {
      lines = r.lines ++ upto 10 rest ∷ [];
      free = free_append r.lines (upto 10 rest ∷ []) r.free (first_free rest n);
      whole =
          r.whole
          ∙ ap (λ t. text_of_lines r.lines ++ t) (text_cut rest n ∙ sym (append_assoc (upto 10 rest) (10 ∷ []) (past 10 rest)))
          ∙ sym (append_assoc (text_of_lines r.lines) (upto 10 rest ++ 10 ∷ []) (past 10 rest))
          ∙ ap (λ t. t ++ past 10 rest) (sym (joined_append r.lines (upto 10 rest ∷ [])));
      bytes = line_more r.lines (upto 10 rest) image bytes r.bytes decoded;
      count = omega (arith, r.count, length-append r.lines (upto 10 rest ∷ []));
    }

-- the text's lines are those so far and those of the rest
all_lines : (text rest image : List ℕ) (number : ℕ) (r : Read text rest image number) → pieces text ≡ r.lines ++ pieces rest
all_lines text rest image number r = ap pieces r.whole ∙ pieces_joined r.lines rest r.free

pub read_end : (text rest image : List ℕ) (number : ℕ) → Read text rest image number → length rest ≡ 0 → IsImageText text image
read_end text rest image number r empty =
    let none = nil rest empty in
    let all : pieces text ≡ r.lines = all_lines text rest image number r ∙ ap (λ t. r.lines ++ pieces t) none ∙ append-nil r.lines in
    record {
      lines = r.whole ∙ ap (λ t. text_of_lines r.lines ++ t) none ∙ append-nil (text_of_lines r.lines) ∙ ap text_of_lines (sym all);
      bytes = ap bytes_of_lines all ∙ r.bytes;
    }

some_of : (o : Option (List ℕ)) (image : List ℕ) → o ≡ Some image → IsSome o
some_of o image is = subst IsSome (sym is) refl

-- the rest has no line feed
pub read_unended : (text rest image : List ℕ) (number : ℕ) → Read text rest image number → length (upto 10 rest) ≡ length rest → 0 < length rest → IsWrongLine text number
read_unended text rest image number r last some =
    let all : pieces text ≡ r.lines = all_lines text rest image number r ∙ ap (λ t. r.lines ++ t) (pieces_none rest [] last) ∙ append-nil r.lines in
    let size : length text ≡ length (text_of_lines r.lines) + length rest = ap length r.whole ∙ length-append (text_of_lines r.lines) rest in
    record {
      none = λ other is. absurd (omega (arith, size, some, ap length (is.lines ∙ ap text_of_lines all)));
      first = record {
        k = length r.lines;
        is = r.count;
        small = omega (arith, ap length all);
        here = inr (some_of _ image (ap (λ ws. bytes_of_lines (take (length r.lines) ws)) (all ∙ sym (append-nil r.lines)) ∙ ap bytes_of_lines (take-append_seam r.lines []) ∙ r.bytes));
        above = λ m more few h. absurd (omega (arith, more, few, ap length all));
      };
    }

none_is : (o : Option (List ℕ)) → o ≡ None → IsSome o → ⊥
none_is o none some = let h : false ≡ true = sym (ap is_some none) ∙ some in absurd cc

-- a line of the rest that isn't hex
pub read_bad : (text rest image : List ℕ) (number : ℕ) (e : FromHexError) → Read text rest image number → (length (upto 10 rest) ≡ length rest → ⊥) → decode_of (upto 10 rest) ≡ Err e → IsWrongLine text number
read_bad text rest image number e r n wrong =
    let w = upto 10 rest in
    let later = pieces (past 10 rest) in
    let all : pieces text ≡ r.lines ++ w ∷ later = all_lines text rest image number r ∙ ap (λ t. r.lines ++ t) (first_line rest n) in
    let size : length (pieces text) ≡ length r.lines + length (w ∷ later) = ap length all ∙ length-append r.lines (w ∷ later) in
    record {
      none = λ other is. let clash = sym is.bytes ∙ ap bytes_of_lines all ∙ line_wrong r.lines later w e wrong in absurd cc;
      first = record {
        k = length r.lines;
        is = r.count;
        small = omega (arith, size);
        here = inr (some_of _ image (ap (λ ws. bytes_of_lines (take (length r.lines) ws)) all ∙ ap bytes_of_lines (take-append_seam r.lines (w ∷ later)) ∙ r.bytes));
        above = λ m more few h.
            let k = m - length r.lines - 1 in
            let at : m ≡ length r.lines + suc k = omega (arith, more) in
            none_is _ (ap (λ ws. bytes_of_lines (take m ws)) all ∙ ap (λ j. bytes_of_lines (take j (r.lines ++ w ∷ later))) at ∙ ap bytes_of_lines (take-append-add r.lines (w ∷ later) (suc k)) ∙ line_wrong r.lines (take k later) w e wrong) h;
      };
    }
