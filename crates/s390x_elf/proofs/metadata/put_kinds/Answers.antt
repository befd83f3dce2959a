use Rattle.std.proofs.Common.{◌≡◌, ◌+◌, ◌<◌, ◌≤◌, List, ◌++◌, length, drop, map, get_or, subst, arith, All}
use Rattle.std.specs.List.{flat_map}
use Rattle.std.proofs.lemmas.List.{drop_more, take_all}
use Rattle.std.proofs.lemmas.List.Elements.{All-more}
use Rattle.s390x_buffer.specs.declared.entries.MachBufferFinalized.{MachBufferFinalized}
use Rattle.s390x_elf.specs.declared.metadata.TableKind.{TableKind}
use Rattle.s390x_elf.specs.declared.metadata.TableKind.TheVariants.{Traps}
use Rattle.s390x_elf.specs.TableBytes.{TableFits, code_of, table_sections}
use Rattle.s390x_elf.specs.Writing.{section_of}
use Rattle.s390x_elf.proofs.Steps.{flat_on}
use Rattle.s390x_elf.proofs.metadata.put_kinds.Goals as goal

pub loop-kind-preserved : goal.loop-kind-preserved
loop-kind-preserved c =
    let lt : c.loop-kind.kind-index < length c.args.kinds.now = omega arith in
    let all : List MachBufferFinalized = map code_of c.args.codes.now in
    record {
      sections = flat_on (table_sections all) (map section_of c.loop-kind.sections.items) (map section_of c.put_kind.new.sections.items) (get_or c.args.kinds.now c.loop-kind.kind-index Traps)
          (drop (c.loop-kind.kind-index + 1) c.args.kinds.now) (map section_of c.args.sections.now.items ++ flat_map (table_sections all) c.args.kinds.now)
          (subst (λ (ks : List TableKind). map section_of c.loop-kind.sections.items ++ flat_map (table_sections all) ks ≡ map section_of c.args.sections.now.items ++ flat_map (table_sections all) c.args.kinds.now)
          (drop_more c.args.kinds.now c.loop-kind.kind-index Traps lt) c.loop-kind.invariant.sections)
          c.in_ok-put_kind.ensures.sections;
      fits = All-more (TableFits all) c.args.kinds.now c.loop-kind.kind-index _ lt c.loop-kind.invariant.fits c.in_ok-put_kind.ensures.fits;
    }

pub returns-clause-fits : goal.returns-clause-fits
returns-clause-fits c =
    let le : length c.args.kinds.now ≤ c.loop-kind.kind-index = omega arith in
    subst (λ (ks : List TableKind). All (TableFits (map code_of c.args.codes.now)) ks) (take_all c.loop-kind.kind-index c.args.kinds.now le) c.loop-kind.invariant.fits
