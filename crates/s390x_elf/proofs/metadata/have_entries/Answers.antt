use Rattle.std.proofs.Common.{◌≡◌, ◌+◌, ◌<◌, length, drop, map, sym, ap, ◌∙◌, arith}
use Rattle.std.specs.List.{list_any}
use Rattle.s390x_elf.specs.Metadata.{has_entries}
use Rattle.s390x_elf.specs.TableBytes.{code_of}
use Rattle.s390x_elf.proofs.Steps.{left_one, left_none}
use Rattle.s390x_elf.proofs.TableSteps.{any_here, any_on}
use Rattle.s390x_elf.proofs.metadata.have_entries.Goals as goal

pub loop-coded-preserved : goal.loop-coded-preserved
loop-coded-preserved c =
    let lt : c.loop-coded.coded-index < length c.args.codes.now = omega arith in
    let left = left_one code_of c.args.codes.now c.loop-coded.coded-index c.coded-item.result lt c.coded-item.is in
    any_on (has_entries (code_of c.coded-item.result)) (list_any has_entries (map code_of (drop (c.loop-coded.coded-index + 1) c.args.codes.now))) _
    (ap (list_any has_entries) (sym left) ∙ c.loop-coded.invariant) (sym c.has_entries.ensures ∙ c.if-has_entries.false)

pub returns-then-has_entries : goal.returns-then-has_entries
returns-then-has_entries c =
    let lt : c.loop-coded.coded-index < length c.args.codes.now = omega arith in
    let left = left_one code_of c.args.codes.now c.loop-coded.coded-index c.coded-item.result lt c.coded-item.is in
    sym (any_here (has_entries (code_of c.coded-item.result)) (list_any has_entries (map code_of (drop (c.loop-coded.coded-index + 1) c.args.codes.now))) _
    (ap (list_any has_entries) (sym left) ∙ c.loop-coded.invariant) (sym c.has_entries.ensures ∙ c.if-has_entries.true))

pub returns : goal.returns
returns c =
    let done : length c.args.codes.now ≡ c.loop-coded.coded-index = omega arith in
    ap (list_any has_entries) (sym (left_none code_of c.args.codes.now c.loop-coded.coded-index done)) ∙ c.loop-coded.invariant
