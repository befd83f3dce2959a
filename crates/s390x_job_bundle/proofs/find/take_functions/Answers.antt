use Rattle.std.proofs.Common.{◌≡◌, ℕ, ◌-◌, ◌<◌, ◌≤◌, true, false, List, [], ◌∷◌, ◌++◌, drop, length, take, refl, sym, ap, ◌∙◌, subst, arith, length-append}
use Rattle.std.proofs.lemmas.List.{length-drop, length-take-le}
use Rattle.std.proofs.Math.Seq.{take-length}
use Rattle.s390x_job_fields.specs.Marks.{upto}
use Rattle.s390x_job.specs.Completions.{text_of_lines, pieces}
use Rattle.s390x_job.proofs.Above.{pieces_none}
use Rattle.s390x_job.proofs.Places.{none_left, some_left}
use Rattle.s390x_job.proofs.Whole.{nil}
use Rattle.s390x_job_bundle.specs.declared.named_job.NamedJob.{NamedJob}
use Rattle.s390x_job_bundle.proofs.Heads.{function_words}
use Rattle.s390x_job_bundle.proofs.Reading.{at_close, at_more, cut_line, stuck_end}
use Rattle.s390x_job_bundle.proofs.Stopping.{At, at_count, stuck_close, stuck_job, stuck_other}
use Rattle.s390x_job_bundle.proofs.find.take_functions.Goals as goal

-- a slice from a place on is what stands there
all_behind : (size : ℕ) (s : List ℕ) → take (length s - size) (drop size s) ≡ drop size s
all_behind size s = ap (λ n. take n (drop size s)) (sym (length-drop size s)) ∙ take-length (drop size s)

-- what is behind a line of a rest is shorter than the text
part_small : (bytes front rest w behind : List ℕ) (size : ℕ) → bytes ≡ front ++ rest → rest ≡ w ++ 10 ∷ behind → size ≤ length behind → length (take size behind) < length bytes
part_small bytes front rest w behind size e f h =
    omega (arith, h, ap length e, ap length f, length-append front rest, length-append w (10 ∷ behind), length-take-le size behind h)

rest_smaller : (rest w behind : List ℕ) (size : ℕ) → rest ≡ w ++ 10 ∷ behind → length (take (length behind - size) (drop size behind)) < length rest
rest_smaller rest w behind size f =
    omega (arith, ap length f, length-append w (10 ∷ behind), ap length (all_behind size behind), length-drop size behind)

pub lines_before-requires : goal.lines_before-requires
lines_before-requires g c = at_count c.args.bytes.now c.loop-alloc.invariant.functions c.loop-alloc.rest.now c.loop-alloc.invariant.at

pub returns-then-line-rest : goal.returns-then-line-rest
returns-then-line-rest g c =
    let r = c.loop-alloc.rest.now in
    let e : length (upto 10 r) ≡ length r = omega (arith, ap length c.before-line.ensures) in
    stuck_end c.args.bytes.now c.loop-alloc.invariant.functions r c.lines_before.result c.loop-alloc.invariant.at (pieces_none r [] e) c.lines_before.ensures.count

pub lines_before-requires-in-Other : goal.lines_before-requires-in-Other
lines_before-requires-in-Other g c = at_count c.args.bytes.now c.loop-alloc.invariant.functions c.loop-alloc.rest.now c.loop-alloc.invariant.at

pub returns-in-Other : goal.returns-in-Other
returns-in-Other g c =
    let r = c.loop-alloc.rest.now in
    let w = c.before-line.result.now in
    let behind = c.after-behind.result.now in
    let f = rw c.in-Other.is at c.in_ok-read_head.ensures in
    let u = cut_line r w behind c.before-line.ensures c.after-behind.ensures (λ e. absurd (omega (arith, e))) in
    stuck_other c.args.bytes.now c.loop-alloc.invariant.functions r c.lines_before-in-Other.result c.loop-alloc.invariant.at w (pieces behind) u.0 c.lines_before-in-Other.ensures.count f.0 f.1

pub returns-in-Close : goal.returns-in-Close
returns-in-Close g c =
    let r = c.loop-alloc.rest.now in
    let w = c.before-line.result.now in
    let behind = c.after-behind.result.now in
    let f = rw c.in-Close.is at c.in_ok-read_head.ensures in
    let u = cut_line r w behind c.before-line.ensures c.after-behind.ensures (λ e. absurd (omega (arith, e))) in
    record {
      functions = c.loop-alloc.invariant.functions;
      are = at_close c.args.bytes.now c.loop-alloc.invariant.functions r w behind c.loop-alloc.invariant.at f u.1 (none_left (length behind) true c.if-is_empty.ensures refl);
      taken = c.loop-alloc.invariant.taken;
    }

pub lines_before-requires-in-Close-2 : goal.lines_before-requires-in-Close-2
lines_before-requires-in-Close-2 g c = at_count c.args.bytes.now c.loop-alloc.invariant.functions c.loop-alloc.rest.now c.loop-alloc.invariant.at

pub returns-in-Close-2 : goal.returns-in-Close-2
returns-in-Close-2 g c =
    let r = c.loop-alloc.rest.now in
    let w = c.before-line.result.now in
    let behind = c.after-behind.result.now in
    let f = rw c.in-Close-2.is at c.in_ok-read_head.ensures in
    let u = cut_line r w behind c.before-line.ensures c.after-behind.ensures (λ e. absurd (omega (arith, e))) in
    let some = some_left (length behind) false c.if-is_empty.ensures refl in
    stuck_close c.args.bytes.now c.loop-alloc.invariant.functions r c.lines_before-in-Close-2.result c.loop-alloc.invariant.at w (pieces behind) u.0 c.lines_before-in-Close-2.ensures.count behind f u.1 refl some

pub read_job-requires : goal.read_job-requires
read_job-requires g c =
    let r = c.loop-alloc.rest.now in
    let w = c.before-line.result.now in
    let behind = c.after-behind.result.now in
    let u = cut_line r w behind c.before-line.ensures c.after-behind.ensures (λ e. absurd (omega (arith, e))) in
    let h = part_small c.args.bytes.now (text_of_lines (function_words c.loop-alloc.invariant.functions)) r w behind c.job_size-size.result c.loop-alloc.invariant.at.text u.1 c.job_size-size.ensures.bound in
    omega (arith, h, c.requires)

pub lines_before-requires-in-Err : goal.lines_before-requires-in-Err
lines_before-requires-in-Err g c = at_count c.args.bytes.now c.loop-alloc.invariant.functions c.loop-alloc.rest.now c.loop-alloc.invariant.at

pub returns-in-Err : goal.returns-in-Err
returns-in-Err g c =
    let r = c.loop-alloc.rest.now in
    let w = c.before-line.result.now in
    let behind = c.after-behind.result.now in
    let size = c.job_size-size.result in
    let f = rw c.in-Function.is at c.in_ok-read_head.ensures in
    let j = rw c.in-Err.is at c.in_ok-job-in-Function.ensures in
    let u = cut_line r w behind c.before-line.ensures c.after-behind.ensures (λ e. absurd (omega (arith, e))) in
    let cut = u.0 ∙ ap (λ v. v ∷ pieces behind) (sym f.1) in
    stuck_job c.args.bytes.now c.loop-alloc.invariant.functions r c.lines_before-in-Err.result c.loop-alloc.invariant.at c.in-Function.name behind cut c.lines_before-in-Err.ensures.count size c.in-Err.line j c.job_size-size.ensures.cut

pub loop-alloc-smaller : goal.loop-alloc-smaller
loop-alloc-smaller g c =
    let r = c.loop-alloc.rest.now in
    let w = c.before-line.result.now in
    let behind = c.after-behind.result.now in
    let u = cut_line r w behind c.before-line.ensures c.after-behind.ensures (λ e. absurd (omega (arith, e))) in
    rest_smaller r w behind c.job_size-size.result u.1

pub loop-alloc-preserved : goal.loop-alloc-preserved
loop-alloc-preserved g c =
    let r = c.loop-alloc.rest.now in
    let w = c.before-line.result.now in
    let behind = c.after-behind.result.now in
    let size = c.job_size-size.result in
    let f = rw c.in-Function.is at c.in_ok-read_head.ensures in
    let j = rw c.in-Ok.is at c.in_ok-job-in-Function.ensures in
    let u = cut_line r w behind c.before-line.ensures c.after-behind.ensures (λ e. absurd (omega (arith, e))) in
    let text = u.1 ∙ ap (λ v. v ++ 10 ∷ behind) (sym f.1) in
    let read : NamedJob = record { name = c.in-Function.name; job = c.in-Ok.job } in
    let fs = c.loop-alloc.invariant.functions in
    let more = at_more c.args.bytes.now fs (fs ++ read ∷ []) r behind read size c.loop-alloc.invariant.at f.0 j.0 text j.1 refl in
    record {
      functions = fs ++ read ∷ [];
      at = subst (At c.args.bytes.now (fs ++ read ∷ [])) (sym (all_behind size behind)) more;
      taken = c.in_ok-take-in-Ok.ensures fs c.loop-alloc.invariant.taken;
    }

pub returns : goal.returns
returns g c =
    let r = c.loop-alloc.rest.now in
    let z = nil r (none_left (length r) c.is_empty.result c.is_empty.ensures c.loop-alloc-test.false) in
    stuck_end c.args.bytes.now c.loop-alloc.invariant.functions r c.lines_before-2.result c.loop-alloc.invariant.at (ap pieces z) c.lines_before-2.ensures.count
