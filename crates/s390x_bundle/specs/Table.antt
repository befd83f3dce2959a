-- The symbols of a member: those of its own lines, and all members at their addresses.
use Rattle.std.specs.Prelude.{◌≡◌, ℕ, ◌+◌, List, [], ◌∷◌, Option, Some, None}
use Rattle.std.specs.List.{All}
use Rattle.s390x_base.specs.declared.ir.ExternalName.{ExternalName}
use Rattle.s390x_buffer.specs.declared.entries.RelocEntry.{RelocEntry}
use Rattle.s390x_image.specs.Symbols.{Symbols, address_of, no_symbols, with_address}
use Rattle.s390x_job.specs.declared.job.SymbolLine.{SymbolLine}
use Rattle.s390x_bundle.specs.declared.member.Member.{Member}

-- with the symbols of these lines, each in place of an earlier one
abbrev pub with_lines : Symbols → List SymbolLine → Symbols
with_lines table [] = table
with_lines table (line ∷ lines) = with_lines (with_address table line.name line.address) lines

-- with members that have these starts in an image at a base
abbrev pub with_members : (base : ℕ) → Symbols → List Member → (starts : List ℕ) → Symbols
with_members base table [] starts = table
with_members base table (m ∷ ms) [] = table
with_members base table (m ∷ ms) (start ∷ starts) = with_members base (with_address table m.name (base + start)) ms starts

-- all of a member's
abbrev pub symbols_of : (base : ℕ) → List Member → (starts : List ℕ) → List SymbolLine → Symbols
symbols_of base members starts lines = with_members base (with_lines no_symbols lines) members starts

-- all members at their addresses alone
abbrev pub joint_symbols : (base : ℕ) → List Member → (starts : List ℕ) → Symbols
joint_symbols base members starts = with_members base no_symbols members starts

-- an address, or else another one
abbrev pub address_or : Option ℕ → Option ℕ → Option ℕ
address_or None other = other
address_or (Some address) other = Some address

-- symbols with the addresses of a joint table, and else with those of lines
abbrev pub AreJoined : (joint : Symbols) → List SymbolLine → Symbols → Type 0
AreJoined joint lines symbols = (name : ExternalName) → address_of symbols name ≡ address_or (address_of joint name) (address_of (with_lines no_symbols lines) name)

-- a table has the same addresses as another one at the names that these relocations need
abbrev pub AnswersAlike : List RelocEntry → (table symbols : Symbols) → Type 0
AnswersAlike relocs table symbols = All (λ (r : RelocEntry). address_of table r.name ≡ address_of symbols r.name) relocs
