use Rattle.std.proofs.Common.{◌<◌, ◌≤◌, List, length, map, sym, subst, arith, All}
use Rattle.std.proofs.lemmas.List.{map_more, take_all}
use Rattle.std.proofs.lemmas.List.Elements.{All-push}
use Rattle.s390x_elf.specs.declared.symbols.TextFunction.{TextFunction}
use Rattle.s390x_elf.specs.Object.{Function, function_of}
use Rattle.s390x_elf.specs.Tables.{FunctionFits}
use Rattle.s390x_elf.proofs.Steps.{left_one}
use Rattle.s390x_elf.proofs.Finished.{functions_on, cause_on, name_is_own}
use Rattle.s390x_elf.proofs.object_file.function_symbols.Goals as goal

pub add_function-requires-clause-name : goal.add_function-requires-clause-name
add_function-requires-clause-name c = name_is_own _ (function_of c.function-item.result) c.in_ok-check_function.ensures

pub loop-function-preserved : goal.loop-function-preserved
loop-function-preserved c =
    let lt : c.loop-function.function-index < length c.args.functions.now = omega arith in
    let left = left_one function_of c.args.functions.now c.loop-function.function-index c.function-item.result lt c.function-item.is in
    record {
      places = c.in-Ok.ensures.places;
      symbols = functions_on _ _ (function_of c.function-item.result) _ _ _ c.loop-function.invariant.symbols left c.in-Ok.ensures.symbols;
      cause = cause_on _ _ (function_of c.function-item.result) _ _ _ c.loop-function.invariant.cause left c.in-Ok.ensures.symbols c.in_ok-check_function.ensures;
      fits = subst (λ (fs : List Function). All FunctionFits fs) (sym (map_more function_of c.args.functions.now c.loop-function.function-index c.function-item.result lt))
          (All-push FunctionFits _ _ c.loop-function.invariant.fits (subst (λ (f : TextFunction). FunctionFits (function_of f)) c.function-item.is c.in-Ok.ensures.fits));
    }

pub returns-clause-fits : goal.returns-clause-fits
returns-clause-fits c =
    let le : length c.args.functions.now ≤ c.loop-function.function-index = omega arith in
    subst (λ (fs : List TextFunction). All FunctionFits (map function_of fs)) (take_all c.loop-function.function-index c.args.functions.now le) c.loop-function.invariant.fits
