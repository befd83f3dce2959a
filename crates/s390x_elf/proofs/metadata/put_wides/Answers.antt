use Rattle.std.proofs.Common.{◌≡◌, ◌+◌, ◌<◌, ◌≤◌, ℕ, List, ◌++◌, length, drop, get_or, subst, arith, All}
use Rattle.std.specs.Int.{w64, to_be_bytes}
use Rattle.std.proofs.lemmas.List.{drop_more, take_all}
use Rattle.std.proofs.lemmas.List.Elements.{All-more}
use Rattle.s390x_elf.specs.TableBytes.{IsWide, wides}
use Rattle.s390x_elf.proofs.Steps.{flat_on}
use Rattle.s390x_elf.proofs.metadata.put_wides.Goals as goal

pub loop-number-preserved : goal.loop-number-preserved
loop-number-preserved c =
    let lt : c.loop-number.number-index < length c.args.numbers.now = omega arith in
    record {
      bytes = flat_on (to_be_bytes w64) c.loop-number.bytes.items c.put_wide.new.bytes.items (get_or c.args.numbers.now c.loop-number.number-index 0)
          (drop (c.loop-number.number-index + 1) c.args.numbers.now) _
          (subst (λ (ns : List ℕ). c.loop-number.bytes.items ++ wides ns ≡ c.args.bytes.now.items ++ wides c.args.numbers.now)
          (drop_more c.args.numbers.now c.loop-number.number-index 0 lt) c.loop-number.invariant.bytes)
          c.in_ok-put_wide.ensures.bytes;
      fits = All-more IsWide c.args.numbers.now c.loop-number.number-index _ lt c.loop-number.invariant.fits c.put_wide.ensures.fits;
    }

pub returns-clause-fits : goal.returns-clause-fits
returns-clause-fits c =
    let le : length c.args.numbers.now ≤ c.loop-number.number-index = omega arith in
    subst (λ (ns : List ℕ). All IsWide ns) (take_all c.loop-number.number-index c.args.numbers.now le) c.loop-number.invariant.fits
