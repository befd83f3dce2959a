-- From the parts of the input to the answer to `verify`.
use Rattle.std.proofs.Common.{◌≡◌, ℕ, ◌+◌, ◌-◌, inl, inr, List, ◌++◌, drop, length, take, refl, sym, ap, ◌∙◌, subst}
use Rattle.std.specs.Prelude.{codes}
use Rattle.std.specs.Fmt.{decimal}
use Rattle.std.proofs.Math.Seq.{take-length}
use Rattle.std.proofs.lemmas.List.{length-drop, take-append-drop}
use Rattle.s390x_job.specs.Completions.{IsFirstWrong, pieces}
use Rattle.s390x_job.specs.Jobs.{IsJob, text_of_job}
use Rattle.s390x_job.specs.Same.{SameJob}
use Rattle.s390x_job.specs.declared.job.Job.{Job}
use Rattle.s390x_job_bundle.specs.Cut.{IsCutAt}
use Rattle.s390x_tool.specs.Lines.{line}
use Rattle.s390x_binary_tool.specs.ImageText.{IsImageText, IsWrongLine}
use Rattle.s390x_binary_tool.specs.Verify.{IsCutJob, IsVerified, IsVerifyReply, IsVerifySyntax, IsVerifyText}
use Rattle.s390x_binary_tool.specs.declared.status.BinaryStatus.{BinaryStatus}
use Rattle.s390x_binary_tool.proofs.CutJob.{cut_job}

-- a text writes one list of bytes
one_image : (text a b : List ℕ) → IsImageText text a → IsImageText text b → a ≡ b
one_image text a b x y = let same = sym x.bytes ∙ y.bytes in cc

-- the part is a job's text, and what stands behind it writes bytes
pub read_both : (input : List ℕ) (size : ℕ) (j : Job) (given : List ℕ) → IsCutJob input size j → IsImageText (drop size input) given → IsVerifyText input j given
read_both input size j given c hex =
    record { is = c.is; behind = drop size input; spelled = sym (take-append-drop size input) ∙ ap (λ t. t ++ drop size input) (sym c.spelled); hex = hex }

pub only_one : (input : List ℕ) (size : ℕ) (j : Job) (given : List ℕ) → IsCutJob input size j → IsImageText (drop size input) given → (k : Job) (others : List ℕ) → IsVerifyText input k others → SameJob j k × (others ≡ given)
only_one input size j given c hex k others v =
    let cut = cut_job input v.behind size k c.cut v.is v.spelled in
    (c.one k v.is (sym cut.job_is), one_image v.behind others given v.hex (subst (λ t. IsImageText t given) cut.behind_is hex))

pub verified : (base : ℕ) (input : List ℕ) (size : ℕ) (j : Job) (given : List ℕ) (s : BinaryStatus) (text : List ℕ) → IsCutJob input size j → IsImageText (drop size input) given → IsVerifyReply base j given s text → IsVerified base input s text
verified base input size j given s text c hex reply =
    record { job = j; given = given; are = read_both input size j given c hex; one = only_one input size j given c hex; reply = reply }

-- what stands behind the job writes no bytes
pub wrong_behind : (input text : List ℕ) (size number : ℕ) (j : Job) → IsCutJob input size j → IsWrongLine (drop size input) number → text ≡ line (codes "syntax " ++ decimal (length (pieces (take size input)) + number)) → IsVerifySyntax input text
wrong_behind input text size number j c wrong spelled =
    record {
      none = λ k given v.
          let cut = cut_job input v.behind size k c.cut v.is v.spelled in
          wrong.none given (subst (λ t. IsImageText t given) (sym cut.behind_is) v.hex);
      number = length (pieces (take size input)) + number;
      first = record { size = size; cut = c.cut; wrong = inr ((j, c.is, c.spelled), number, refl, wrong) };
      spelled = spelled;
    }

-- the part is no job's text
pub wrong_job : (input text : List ℕ) (size number : ℕ) → IsCutAt input size → ((j : Job) → IsJob j → text_of_job j ≡ take size input → ⊥) → IsFirstWrong (pieces (take size input)) number → text ≡ line (codes "syntax " ++ decimal number) → IsVerifySyntax input text
wrong_job input text size number cut no_job first spelled =
    record {
      none = λ k given v.
          let at = cut_job input v.behind size k cut v.is v.spelled in
          no_job k v.is (sym at.job_is);
      number = number;
      first = record { size = size; cut = cut; wrong = inl (λ t. no_job t.0 t.1 t.2, first) };
      spelled = spelled;
    }

-- what stands behind so many bytes
pub all_behind : (size : ℕ) (s : List ℕ) → take (length s - size) (drop size s) ≡ drop size s
all_behind size s = ap (λ n. take n (drop size s)) (sym (length-drop size s)) ∙ take-length (drop size s)
