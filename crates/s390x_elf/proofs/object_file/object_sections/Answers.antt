use Rattle.std.proofs.Common.{List, ◌++◌, map, codes, ap, ◌∙◌}
use Rattle.s390x_elf.specs.declared.symbols.GlobalSymbol.{GlobalSymbol}
use Rattle.s390x_elf.specs.Symbols.{null_symbol}
use Rattle.s390x_elf.specs.Object.{text_section}
use Rattle.s390x_elf.specs.Tables.{symbol_of, symbol_entry, symbol_entries, symbol_section}
use Rattle.s390x_elf.specs.declared.file.SectionParts.{SectionParts}
use Rattle.s390x_elf.specs.Writing.{section_of, string_section}
use Rattle.s390x_elf.proofs.Steps.{five, five_sections}
use Rattle.s390x_elf.proofs.object_file.object_sections.Goals as goal

pub returns : goal.returns
returns c =
    ap (λ (xs : List SectionParts). map section_of xs)
    (five _ _ _ _ _ _ c.symbol_section.result c.relocation_section.result c.text_section.result c.name_section.result c.stack_note.result
    c.new-sections.ensures.items c.in_ok-push.ensures.items c.in_ok-push-2.ensures.items c.in_ok-push-3.ensures.items c.in_ok-push-4.ensures.items c.in_ok-push-5.ensures.items)
    ∙ five_sections _ _ _ _ _ _ _ _ _ _
    (c.symbol_section.ensures ∙ ap symbol_section c.in_ok-entries.ensures
    ∙ ap (λ (xs : List GlobalSymbol). symbol_section (symbol_entry 0 null_symbol ++ symbol_entries 1 (map symbol_of xs))) c.deref.ensures.value)
    c.relocation_section.ensures
    (c.text_section.ensures ∙ ap (text_section c.args.alignment) c.in_ok-text.ensures.items)
    (c.name_section.ensures ∙ ap (string_section (codes ".strtab")) c.requires.strings)
    c.stack_note.ensures
