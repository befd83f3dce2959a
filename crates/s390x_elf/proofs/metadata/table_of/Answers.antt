use Rattle.std.proofs.Common.{◌≡◌, ◌<◌, ◌≤◌, List, [], ◌∷◌, ◌++◌, length, take, map, sym, ap, subst, ◌∙◌, arith, All}
use Rattle.std.proofs.lemmas.List.{map_more, take_all}
use Rattle.s390x_elf.specs.declared.metadata.Coded.{Coded}
use Rattle.s390x_elf.specs.Metadata.{parts}
use Rattle.s390x_elf.specs.TableBytes.{IsWide, code_of}
use Rattle.s390x_elf.proofs.Steps.{left_one, left_none}
use Rattle.s390x_elf.proofs.TableSteps.{content_on, fits_on, relocations_on, table_whole}
use Rattle.s390x_elf.proofs.metadata.table_of.Goals as goal

pub loop-coded-preserved : goal.loop-coded-preserved
loop-coded-preserved c =
    let lt : c.loop-coded.coded-index < length c.args.codes.now = omega arith in
    let left = left_one code_of c.args.codes.now c.loop-coded.coded-index c.coded-item.result lt c.coded-item.is in
    record {
      number = omega (arith, c.loop-coded.invariant.number);
      content = content_on c.args.kind _ _ (code_of c.coded-item.result) _ _ _ c.loop-coded.invariant.content left c.in_ok-add_part.ensures.content;
      relocations = relocations_on c.args.kind _ _ _ _ _ (code_of c.coded-item.result) _ _ _ c.loop-coded.invariant.relocations left c.in_ok-add_part.ensures.relocations c.in_ok-add_part.ensures.content;
      fits = fits_on c.args.kind _ (code_of c.coded-item.result) _ (map_more code_of c.args.codes.now c.loop-coded.coded-index c.coded-item.result lt
          ∙ ap (λ (y : Coded). map code_of (take c.loop-coded.coded-index c.args.codes.now) ++ code_of y ∷ []) (sym c.coded-item.is)) c.loop-coded.invariant.fits c.in_ok-add_part.ensures.fits;
    }

pub returns : goal.returns
returns c =
    let le : length c.args.codes.now ≤ c.loop-coded.coded-index = omega arith in
    let done : length c.args.codes.now ≡ c.loop-coded.coded-index = omega arith in
    table_whole c.args.kind (map code_of c.args.codes.now) _ c.loop-coded.table _ (left_none code_of c.args.codes.now c.loop-coded.coded-index done)
    c.loop-coded.invariant.content c.loop-coded.invariant.relocations
    (subst (λ (cs : List Coded). All IsWide (parts c.args.kind (map code_of cs))) (take_all c.loop-coded.coded-index c.args.codes.now le) c.loop-coded.invariant.fits)
