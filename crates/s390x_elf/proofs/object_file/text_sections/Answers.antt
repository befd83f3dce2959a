use Rattle.std.proofs.Common.{◌≡◌, ℕ, ◌^◌, ◌<◌, None, List, [], ◌∷◌, length, map, ap, subst, ◌∙◌, arith}
use Rattle.std.proofs.lemmas.List.{length-map}
use Rattle.s390x_buffer.specs.declared.entries.RelocEntry.{RelocEntry}
use Rattle.s390x_elf.specs.declared.names.GivenName.{GivenName}
use Rattle.s390x_elf.specs.declared.symbols.GlobalSymbol.{GlobalSymbol}
use Rattle.s390x_elf.specs.Names.{name_in}
use Rattle.s390x_elf.specs.Symbols.{Symbol}
use Rattle.s390x_elf.specs.Object.{Function, function_of, with_used_names, global_symbols, string_table}
use Rattle.s390x_elf.specs.Causes.{functions_cause, given_cause, text_cause}
use Rattle.s390x_elf.specs.Tables.{AreObjectSections, symbol_of, object_sections, sections_by}
use Rattle.s390x_elf.specs.Writing.{section_of}
use Rattle.s390x_elf.proofs.ReadObject.{few_symbols}
use Rattle.s390x_elf.proofs.Finished.{globals_fit, short_enough}
use Rattle.s390x_elf.proofs.TablesRead.{functions_few, object_few}
use Rattle.s390x_elf.proofs.object_file.text_sections.Goals as goal
use Rattle.s390x_elf.proofs.object_file.text_sections.Goals.{In-Ok-object_sections}

pub relocation_entries-requires-clause-few : goal.relocation_entries-requires-clause-few
relocation_entries-requires-clause-few c =
    let names : c.in-Ok-string_table.strings.items ≡ 0 ∷ string_table (map symbol_of c.add_used_names.new.symbols.symbols.items) =
    c.in-Ok-string_table.ensures ∙ ap (λ (xs : List GlobalSymbol). 0 ∷ string_table (map symbol_of xs)) c.deref.ensures.value in
    omega (arith, few_symbols (map symbol_of c.add_used_names.new.symbols.symbols.items), ap length names, length-map c.add_used_names.new.symbols.symbols.items symbol_of, c.len.ensures, c.in-Ok-string_table.strings.ok.0, c.if-len-gt4294967295.false)

object : (c : In-Ok-object_sections) →
    (text_cause c.args.names.now (map function_of c.args.functions.now) c.args.relocs.now ≡ None) ×
    AreObjectSections (name_in c.args.names.now) (map function_of c.args.functions.now) c.args.alignment c.args.text.now c.args.relocs.now (map section_of c.in-Ok-object_sections.sections.items)
object c =
    let given : List GivenName = c.args.names.now in
    let fs : List Function = map function_of c.args.functions.now in
    let rs : List RelocEntry = c.args.relocs.now in
    let ss : List Symbol = map symbol_of c.add_used_names.new.symbols.symbols.items in
    let none : functions_cause [] fs ≡ None = c.in_ok-symbols.ensures.answer.0 in
    let fine : given_cause given ≡ None = c.in_ok-check_given.ensures in
    let same : ss ≡ global_symbols (name_in given) fs rs = c.in-Ok.ensures.symbols ∙ ap (λ (s : List Symbol). with_used_names (name_in given) s rs) c.in_ok-symbols.ensures.answer.1 in
    let names : c.in-Ok-string_table.strings.items ≡ 0 ∷ string_table ss =
    c.in-Ok-string_table.ensures ∙ ap (λ (xs : List GlobalSymbol). 0 ∷ string_table (map symbol_of xs)) c.deref.ensures.value in
    let short : length c.in-Ok-string_table.strings.items < 4294967296 = omega (arith, c.len.ensures, c.in-Ok-string_table.strings.ok.0, c.if-len-gt4294967295.false) in
    let small : length (0 ∷ string_table ss) < 2 ^ 32 = omega (arith, short, ap length names) in (
      short_enough given fs rs ss c.in-Ok-string_table.strings.items none fine same names short,
      record {
        sections = c.in-Ok-object_sections.ensures ∙ ap (λ (entries : List ℕ). sections_by ss c.args.alignment entries c.args.text.now) c.in-Ok-relocation_entries.ensures.entries
            ∙ ap (λ (symbols : List Symbol). object_sections (name_in given) symbols c.args.alignment c.args.text.now rs) same;
        symbols_fit = globals_fit given fs rs none fine c.in_ok-symbols.ensures.fits c.in-Ok-relocation_entries.ensures.fits;
        relocations_fit = c.in-Ok-relocation_entries.ensures.fits;
        names_fit = subst (λ (symbols : List Symbol). length (0 ∷ string_table symbols) < 2 ^ 32) same small;
        alignment_fits = omega (arith, c.ranges.alignment.fits);
      },
    )

pub returns-clause-answer : goal.returns-clause-answer
returns-clause-answer c = object (goal.at.returns-clause-answer c).In-Ok-object_sections

pub returns-clause-few : goal.returns-clause-few
returns-clause-few c =
    let d = (goal.at.returns-clause-few c).In-Ok-object_sections in
    object_few (name_in d.args.names.now) (map function_of d.args.functions.now) d.args.alignment d.args.text.now d.args.relocs.now _ (object d).1

pub returns-clause-count : goal.returns-clause-count
returns-clause-count c =
    let d = (goal.at.returns-clause-count c).In-Ok-object_sections in
    let mapped : length (map function_of d.args.functions.now) ≡ length d.args.functions.now = length-map d.args.functions.now function_of in
    let few : length (map function_of d.args.functions.now) < 4294967295 = functions_few (name_in d.args.names.now) (map function_of d.args.functions.now) d.args.alignment d.args.text.now d.args.relocs.now _ (object d).1 in
    omega (arith, mapped, few)
