use Rattle.std.proofs.Common.{◌≡◌, Bool, true, false, cond, [], ◌++◌, map, sym, ap, ◌∙◌, append-nil}
use Rattle.std.specs.List.{list_any}
use Rattle.s390x_elf.specs.Metadata.{has_entries}
use Rattle.s390x_elf.specs.TableBytes.{all_kinds, codes_of, kinds_sections}
use Rattle.s390x_elf.specs.Writing.{section_of}
use Rattle.s390x_elf.proofs.metadata.put_tables.Goals as goal

pub returns-then-have_entries-clause-sections : goal.returns-then-have_entries-clause-sections
returns-then-have_entries-clause-sections c =
    let have : list_any has_entries (codes_of c.args.codes.now) ≡ true = sym c.have_entries.ensures ∙ c.if-have_entries.true in
    c.in_ok-put_kinds.ensures.sections
    ∙ ap (λ (b : Bool). map section_of c.args.sections.now.items ++ cond b (kinds_sections (codes_of c.args.codes.now) all_kinds) []) (sym have)

pub returns-then-have_entries-clause-fits : goal.returns-then-have_entries-clause-fits
returns-then-have_entries-clause-fits c = λ h. c.in_ok-put_kinds.ensures.fits

pub returns-clause-sections : goal.returns-clause-sections
returns-clause-sections c =
    let none : list_any has_entries (codes_of c.args.codes.now) ≡ false = sym c.have_entries.ensures ∙ c.if-have_entries.false in
    sym (append-nil (map section_of c.args.sections.now.items))
    ∙ ap (λ (b : Bool). map section_of c.args.sections.now.items ++ cond b (kinds_sections (codes_of c.args.codes.now) all_kinds) []) (sym none)

pub returns-clause-fits : goal.returns-clause-fits
returns-clause-fits c =
    let none : list_any has_entries (codes_of c.args.codes.now) ≡ false = sym c.have_entries.ensures ∙ c.if-have_entries.false in
    λ h. cc
