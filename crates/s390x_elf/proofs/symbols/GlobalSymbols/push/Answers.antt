use Rattle.std.proofs.Common.{◌≡◌, List, [], ◌∷◌, ◌++◌, length, map, string_bytes, sym, subst, ap, ◌∙◌}
use Rattle.std.proofs.lemmas.List.{length-map, map_push}
use Rattle.std.proofs.lemmas.Map.Text.{btree_map_updates_text}
use Rattle.s390x_elf.specs.Symbols.{Symbol}
use Rattle.s390x_elf.specs.Tables.{symbol_of, Indexes}
use Rattle.s390x_elf.proofs.Places.{places_behind}
use Rattle.s390x_elf.proofs.symbols.GlobalSymbols.push.Goals as goal

pub returns-clause-places : goal.returns-clause-places
returns-clause-places c =
    let old : List Symbol = map symbol_of c.args.self.now.symbols.items in
    let items : map symbol_of c.push.new.self.items ≡ old ++ symbol_of c.args.symbol ∷ [] = ap (map symbol_of) c.in_ok-push.ensures.items ∙ map_push symbol_of c.args.self.now.symbols.items c.args.symbol in
    let count : c.len-next.result ≡ length old = c.len-next.ensures ∙ c.args.self.now.symbols.ok.0 ∙ sym (length-map c.args.self.now.symbols.items symbol_of) in
    subst (λ (ss : List Symbol). Indexes c.insert.new.self ss) (sym items)
    (places_behind c.args.self.now.places c.insert.new.self old (symbol_of c.args.symbol) (string_bytes c.in_ok-name.name) c.len-next.result
    c.requires.places c.requires.name c.in_ok-name.ensures.cases count
    (btree_map_updates_text (string_bytes c.in_ok-name.name) c.args.self.now.places c.insert.new.self _ c.in_ok-insert.ensures.updates))
