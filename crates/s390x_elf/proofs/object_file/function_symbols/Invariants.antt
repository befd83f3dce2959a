use Rattle.std.proofs.Common.{◌≡◌, [], ◌++◌, drop, take, map, All}
use Rattle.s390x_elf.specs.Object.{function_of, function_symbol}
use Rattle.s390x_elf.specs.Causes.{functions_cause}
use Rattle.s390x_elf.specs.Tables.{symbol_of, Indexes, FunctionFits}
use Rattle.s390x_elf.proofs.object_file.function_symbols.Given as goal

-- what is left leads to what all functions lead to
abbrev pub invariant-loop-function : goal.invariant-loop-function
invariant-loop-function l = record {
  places : Indexes l.symbols.places (map symbol_of l.symbols.symbols.items);
  symbols : map symbol_of l.symbols.symbols.items ++ map function_symbol (map function_of (drop l.function-index l.functions)) ≡ map function_symbol (map function_of l.functions);
  cause : functions_cause (map symbol_of l.symbols.symbols.items) (map function_of (drop l.function-index l.functions)) ≡ functions_cause [] (map function_of l.functions);
  fits : All FunctionFits (map function_of (take l.function-index l.functions));
}
