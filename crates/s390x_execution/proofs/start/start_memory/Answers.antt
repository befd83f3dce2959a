use Rattle.std.proofs.Common.{List, ℕ, ◌∙◌, ap, arith, sym}
use Rattle.std.proofs.Math.ListN.{drop_of_length-le}
use Rattle.s390x_operations.specs.State.{Memory}
use Rattle.s390x_machine.specs.Regions.{is_held, byte_of}
use Rattle.s390x_machine.specs.State.{memory_of}
use Rattle.s390x_job.specs.declared.job.MemLine.{MemLine}
use Rattle.s390x_execution.specs.Start.{with_bytes, with_regions}
use Rattle.s390x_execution.proofs.Starting.{added_memory, empty_memory, regions_fit, regions_more}
use Rattle.s390x_execution.proofs.start.start_memory.Goals as goal

pub loop-region-init : goal.loop-region-init
loop-region-init c = record {
  fit = c.requires.regions;
  added = ap (λ (m : Memory). with_regions c.args.regions.now m) (empty_memory c.new-memory.result c.new-memory.ensures);
}

pub loop-region-preserved : goal.loop-region-preserved
loop-region-preserved c =
    let d = c.region-item.result in
    let old = memory_of (is_held c.loop-region.memory) (byte_of c.loop-region.memory) in
    let one = added_memory c.loop-region.memory c.add_region.new.self d.address c.deref.result.now c.in_ok-add_region.ensures.added c.in_ok-add_region.ensures.filled ∙ ap (λ (bs : List ℕ). with_bytes d.address bs old) c.deref.ensures.value in
    record {
      fit = (regions_fit c.args.regions.now c.loop-region.region-index d c.loop-region-test.true c.region-item.is c.loop-region.invariant.fit).1;
      added = regions_more c.args.regions.now c.loop-region.region-index d old _ _ c.loop-region-test.true c.region-item.is one c.loop-region.invariant.added;
    }

pub returns : goal.returns
returns c =
    let old = memory_of (is_held c.loop-region.memory) (byte_of c.loop-region.memory) in
    let none = drop_of_length-le c.args.regions.now c.loop-region-test.false in
    let whole = sym (ap (λ (rs : List MemLine). with_regions rs old) none) ∙ c.loop-region.invariant.added in
    added_memory c.loop-region.memory c.add_region-2.new.self c.args.image.now.base c.deref-2.result.now c.in_ok-add_region-2.ensures.added c.in_ok-add_region-2.ensures.filled
    ∙ ap (λ (bs : List ℕ). with_bytes c.args.image.now.base bs old) c.deref-2.ensures.value
    ∙ ap (λ (m : Memory). with_bytes c.args.image.now.base c.args.image.now.bytes.items m) whole

pub add_region-requires : goal.add_region-requires
add_region-requires c =
    let d = c.region-item.result in
    omega (arith, (regions_fit c.args.regions.now c.loop-region.region-index d c.loop-region-test.true c.region-item.is c.loop-region.invariant.fit).0, c.deref.ensures.len)
