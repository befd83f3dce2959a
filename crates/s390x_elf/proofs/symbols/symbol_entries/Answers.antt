use Rattle.std.proofs.Common.{◌≡◌, ◌+◌, ◌<◌, length, string_bytes, arith, rules}
use Rattle.std.proofs.lemmas.Grind.{common_steps}
use Rattle.s390x_elf.specs.Tables.{symbol_of}
use Rattle.s390x_elf.proofs.Steps.{left_one, entry_on, name_on}
use Rattle.s390x_elf.proofs.symbols.symbol_entries.Goals as goal

pub loop-symbol-preserved : goal.loop-symbol-preserved
loop-symbol-preserved c =
    let lt : c.loop-symbol.symbol-index < length c.args.symbols.now = omega arith in
    let left = left_one symbol_of c.args.symbols.now c.loop-symbol.symbol-index c.symbol-item.result lt c.symbol-item.is in
    let next : c.loop-symbol.name_at + (c.len.result + 1) ≡ c.loop-symbol.name_at + (length (string_bytes c.symbol-item.result.name) + 1) = first_of (search rules, grind (arith, common_steps)) in
    record {
      entries = entry_on _ _ _ _ (symbol_of c.symbol-item.result) _ _ _ c.loop-symbol.invariant.entries left c.in_ok-put_entry.ensures next;
      name = name_on _ _ _ (symbol_of c.symbol-item.result) _ _ c.loop-symbol.invariant.name left next;
    }
