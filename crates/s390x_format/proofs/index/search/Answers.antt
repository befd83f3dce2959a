use Rattle.std.proofs.Common.{◌≡◌, ℕ, ◌+◌, ◌-◌, ◌*◌, ◌/◌, ◌^◌, ◌≤◌, get_or, sym, subst, arith, inl, inr}
use Rattle.std.proofs.lemmas.Bool.{cases_lt}
use Rattle.s390x_format.specs.declared.index.FirstByte.{FirstByte}
use Rattle.s390x_format.specs.Index.{no_first_byte}
use Rattle.s390x_format.proofs.Searching.{indexed_at, span_ends, halved, below_next, above_next}
use Rattle.s390x_format.proofs.index.search.Goals as goal

zero_gap : (n : ℕ) → n - n ≡ 0
zero_gap n = omega arith

pub loop-low-init : goal.loop-low-init
loop-low-init g c =
    let span : FirstByte = get_or c.args.firsts.now c.args.first no_first_byte in
    let t = span_ends c.args.rows.now c.args.firsts.now c.args.first c.requires.index in
    record {
      end = omega arith;
      order = t.order;
      start = omega arith;
      below = λ k a b. absurd (omega arith);
      above = λ k a b. absurd (omega arith);
      rise = omega arith;
      halves = subst (λ (k : ℕ). 2 ^ k * (span.end - span.start) ≤ span.end - span.start) (sym (zero_gap c.args.steps.now)) (omega arith);
      few = subst (λ (k : ℕ). 2 ^ k ≤ 2 * (span.end - span.start) + 1) (sym (zero_gap c.args.steps.now)) (omega arith);
    }

pub offset_bounds-rows-mid : goal.offset_bounds-rows-mid
offset_bounds-rows-mid g c = let t = span_ends c.args.rows.now c.args.firsts.now c.args.first c.requires.index in omega (arith, t.end)

pub bounds-rows-mid : goal.bounds-rows-mid
bounds-rows-mid g c = let t = span_ends c.args.rows.now c.args.firsts.now c.args.first c.requires.index in omega (arith, t.end)

pub returns-then-row-opcode-clause-row : goal.returns-then-row-opcode-clause-row
returns-then-row-opcode-clause-row g c =
    let t = span_ends c.args.rows.now c.args.firsts.now c.args.first c.requires.index in
    record { below = omega (arith, t.end); same = c.if-row-opcode.true }

pub loop-low-preserved-then-row-opcode-2 : goal.loop-low-preserved-then-row-opcode-2
loop-low-preserved-then-row-opcode-2 g c =
    let t = span_ends c.args.rows.now c.args.firsts.now c.args.first c.requires.index in
    let span : FirstByte = get_or c.args.firsts.now c.args.first no_first_byte in
    let step : c.tick.new.self - c.args.steps.now ≡ (c.loop-low.steps - c.args.steps.now) + 1 = omega (arith, c.tick.ensures, c.loop-low.invariant.rise) in
    let mid : ℕ = c.loop-low.low + (c.loop-low.high - c.loop-low.low) / 2 in
    let m = halved (c.loop-low.steps - c.args.steps.now) (c.loop-low.high - c.loop-low.low) (c.loop-low.high - (mid + 1)) _ c.loop-low.invariant.halves (omega arith) (omega arith) in
    record {
      end = omega arith;
      order = omega arith;
      start = omega arith;
      below = below_next c.args.rows.now _ mid c.args.opcode c.requires.rising (omega (arith, t.end)) c.if-row-opcode-2.true;
      above = c.loop-low.invariant.above;
      rise = omega arith;
      halves = subst (λ (k : ℕ). 2 ^ k * (c.loop-low.high - (mid + 1)) ≤ span.end - span.start) (sym step) m.0;
      few = subst (λ (k : ℕ). 2 ^ k ≤ 2 * (span.end - span.start) + 1) (sym step) m.1;
    }

pub loop-low-preserved : goal.loop-low-preserved
loop-low-preserved g c =
    let t = span_ends c.args.rows.now c.args.firsts.now c.args.first c.requires.index in
    let span : FirstByte = get_or c.args.firsts.now c.args.first no_first_byte in
    let step : c.tick.new.self - c.args.steps.now ≡ (c.loop-low.steps - c.args.steps.now) + 1 = omega (arith, c.tick.ensures, c.loop-low.invariant.rise) in
    let mid : ℕ = c.loop-low.low + (c.loop-low.high - c.loop-low.low) / 2 in
    let m = halved (c.loop-low.steps - c.args.steps.now) (c.loop-low.high - c.loop-low.low) (mid - c.loop-low.low) _ c.loop-low.invariant.halves (omega arith) (omega arith) in
    record {
      end = omega arith;
      order = omega arith;
      start = omega arith;
      below = c.loop-low.invariant.below;
      above = above_next c.args.rows.now _ mid c.args.opcode c.requires.rising t.end c.if-row-opcode-2.false c.if-row-opcode.false;
      rise = omega arith;
      halves = subst (λ (k : ℕ). 2 ^ k * (mid - c.loop-low.low) ≤ span.end - span.start) (sym step) m.0;
      few = subst (λ (k : ℕ). 2 ^ k ≤ 2 * (span.end - span.start) + 1) (sym step) m.1;
    }

pub returns-clause-row : goal.returns-clause-row
returns-clause-row g c i lt e o =
    let t = indexed_at c.args.rows.now c.args.firsts.now i c.args.first c.requires.index lt e in
    elim (cases_lt i c.loop-low.low) [
      | inl less ↦ absurd (omega (arith, c.loop-low.invariant.below i t.0 less, o))
      | inr more ↦ absurd (omega (arith, c.loop-low.invariant.above i (omega arith) t.1, o))
    ]

pub returns-then-row-opcode-clause-few_steps : goal.returns-then-row-opcode-clause-few_steps
returns-then-row-opcode-clause-few_steps g c =
    let t = span_ends c.args.rows.now c.args.firsts.now c.args.first c.requires.index in
    let span : FirstByte = get_or c.args.firsts.now c.args.first no_first_byte in
    let step : c.tick.new.self - c.args.steps.now ≡ (c.loop-low.steps - c.args.steps.now) + 1 = omega (arith, c.tick.ensures, c.loop-low.invariant.rise) in
    let m = halved (c.loop-low.steps - c.args.steps.now) (c.loop-low.high - c.loop-low.low) 0 _ c.loop-low.invariant.halves (omega arith) (omega arith) in
    rw step (omega (arith, m.1, t.few))

pub returns-clause-few_steps : goal.returns-clause-few_steps
returns-clause-few_steps g c =
    let t = span_ends c.args.rows.now c.args.firsts.now c.args.first c.requires.index in
    omega (arith, c.loop-low.invariant.few, t.few)
