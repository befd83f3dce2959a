use Rattle.std.proofs.Common.{◌≡◌, ◌<◌, ◌++◌, [], ◌∷◌, length, sym, subst, ap, arith, rules, length-append}
use Rattle.std.proofs.lemmas.List.{length-map}
use Rattle.std.proofs.lemmas.Grind.{common_steps}
use Rattle.s390x_elf.specs.declared.file.SectionParts.{SectionParts}
use Rattle.s390x_elf.specs.File.{null_section}
use Rattle.s390x_elf.specs.Writing.{section_header_bytes, section_of}
use Rattle.s390x_elf.proofs.Steps.{left_one, left_none, leads_start, leads_on, whole_file}
use Rattle.s390x_elf.proofs.file.write_file.Goals as goal

pub loop-section-init : goal.loop-section-init
loop-section-init c =
    let zeros : c.extend_from_slice.new.self.items ≡ section_header_bytes 0 0 null_section = first_of (search rules, grind (arith, common_steps)) in
    let one : c.push.new.self.items ≡ 0 ∷ [] = first_of (search rules, grind (arith, common_steps)) in
    record {
      leads = leads_start _ _ _ _ _ _ zeros one c.new.ensures.items;
      short = omega (arith, ap length one);
    }

pub loop-section-preserved : goal.loop-section-preserved
loop-section-preserved c =
    let lt : c.loop-section.section-index < length c.args.sections.now = omega arith in
    let name : length c.section-item.result.name.now < 256 =
    subst (λ (s : SectionParts). length s.name.now < 256) (sym c.section-item.is) (c.requires.names c.loop-section.section-index c.section-item.result lt) in
    record {
      leads = leads_on _ _ _ _ _ _ _ _ _ _ _ _ c.loop-section.invariant.leads
          (left_one section_of c.args.sections.now c.loop-section.section-index c.section-item.result lt c.section-item.is)
          c.in_ok-put_section.ensures.headers c.in_ok-put_section.ensures.names c.in_ok-put_section.ensures.contents;
      short = omega (arith, ap length c.in_ok-put_section.ensures.names, length-append c.loop-section.parts.names.items (c.section-item.result.name.now ++ 0 ∷ []), length-append c.section-item.result.name.now (0 ∷ []));
    }

pub returns : goal.returns
returns c =
    let done : length c.args.sections.now ≡ c.loop-section.section-index = omega arith in
    whole_file (length c.args.sections.now) _ _ _ _ _ _ _ _ (sym (length-map c.args.sections.now section_of)) c.loop-section.invariant.leads
    (left_none section_of c.args.sections.now c.loop-section.section-index done)
    c.in_ok-put_names.ensures.headers c.in_ok-put_names.ensures.contents
    (first_of (search rules, grind (arith, common_steps)))
