use Rattle.std.proofs.Common.{◌≡◌, ◌+◌, ◌<◌, ◌≤◌, pos, List, ◌++◌, length, drop, map, get_or, subst, arith, All}
use Rattle.std.proofs.lemmas.List.{drop_more, take_all}
use Rattle.std.proofs.lemmas.List.Elements.{All-more}
use Rattle.s390x_base.specs.declared.ir.Reloc.TheVariants.{S390xPCRel32Dbl}
use Rattle.s390x_buffer.specs.declared.entries.RelocEntry.{RelocEntry}
use Rattle.s390x_elf.specs.Names.{Naming, name_in}
use Rattle.s390x_elf.specs.Symbols.{Symbol}
use Rattle.s390x_elf.specs.Tables.{symbol_of, relocation_entry, relocation_entries, RelocFits}
use Rattle.s390x_elf.proofs.Steps.{flat_on}
use Rattle.s390x_elf.proofs.relocations.relocation_entries.Goals as goal

pub loop-reloc-preserved : goal.loop-reloc-preserved
loop-reloc-preserved c =
    let lt : c.loop-reloc.reloc-index < length c.args.relocs.now = omega arith in
    let none : RelocEntry = record { offset = 0; kind = S390xPCRel32Dbl; name = record { 0 = 0 }; addend = pos 0 } in
    let ss : List Symbol = map symbol_of c.args.symbols.now.symbols.items in
    let named : Naming = name_in c.args.names.now in
    record {
      entries = flat_on (relocation_entry named ss) c.loop-reloc.entries.items c.put_entry.new.entries.items (get_or c.args.relocs.now c.loop-reloc.reloc-index none)
          (drop (c.loop-reloc.reloc-index + 1) c.args.relocs.now) (relocation_entries named ss c.args.relocs.now)
          (subst (λ (rs : List RelocEntry). c.loop-reloc.entries.items ++ relocation_entries named ss rs ≡ relocation_entries named ss c.args.relocs.now)
          (drop_more c.args.relocs.now c.loop-reloc.reloc-index none lt) c.loop-reloc.invariant.entries)
          c.in_ok-put_entry.ensures.entries;
      fits = All-more RelocFits c.args.relocs.now c.loop-reloc.reloc-index _ lt c.loop-reloc.invariant.fits c.put_entry.ensures.fits;
    }

pub returns-clause-fits : goal.returns-clause-fits
returns-clause-fits c =
    let le : length c.args.relocs.now ≤ c.loop-reloc.reloc-index = omega arith in
    subst (λ (rs : List RelocEntry). All RelocFits rs) (take_all c.loop-reloc.reloc-index c.args.relocs.now le) c.loop-reloc.invariant.fits
