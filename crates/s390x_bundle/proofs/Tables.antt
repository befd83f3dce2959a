-- The symbols that a member's code needs, of its own lines and of the joint table.
use Rattle.std.proofs.Common.{◌≡◌, ℕ, zero, suc, ◌+◌, ◌<◌, List, [], ◌∷◌, length, get_or, Bool, true, false, cond, Option, Some, None, ◌⊎◌, inl, inr, Result, Ok, Err, MatchResult, refl, sym, ap, ◌∙◌, arith}
use Rattle.std.specs.Prelude.{◌||◌, nat_eq}
use Rattle.std.specs.FinMap.{get}
use Rattle.std.proofs.lemmas.Bool.{eqb-true, eq-eqb, or_left, or_right}
use Rattle.s390x_base.specs.declared.ir.ExternalName.{ExternalName}
use Rattle.s390x_buffer.specs.declared.entries.MachBufferFinalized.{MachBufferFinalized}
use Rattle.s390x_buffer.specs.declared.entries.RelocEntry.{RelocEntry}
use Rattle.s390x_image.specs.Causes.{base_cause, first_link_cause, link_cause, relocs_cause, symbol_cause}
use Rattle.s390x_image.specs.Fields.{address_or_zero, fill, with_fields_filled}
use Rattle.s390x_image.specs.Symbols.{Symbols, address_of, address_of-no_symbols, address_of-with_address, no_symbols, with_address}
use Rattle.s390x_image.specs.declared.error.LinkError.{LinkError}
use Rattle.s390x_image.specs.declared.image.Image.{Image}
use Rattle.s390x_job.specs.declared.job.SymbolLine.{SymbolLine}
use Rattle.s390x_bundle.specs.declared.member.Member.{Member}
use Rattle.s390x_bundle.specs.Linking.{IsLinkCause, IsLinked}
use Rattle.s390x_bundle.specs.Table.{AnswersAlike, AreJoined, address_or, joint_symbols, symbols_of, with_lines, with_members}

-- ---- all members behind other symbols

chosen : (joint other : Option ℕ) (b : Bool) (a : ℕ) → address_or joint (cond b (Some a) other) ≡ address_or (address_or joint (cond b (Some a) None)) other
chosen (Some x) other b a = refl
chosen None other true a = refl
chosen None other false a = refl

after_members : (base : ℕ) (ms : List Member) (ss : List ℕ) (t : Symbols) (q : ExternalName) → address_of (with_members base t ms ss) q ≡ address_or (address_of (with_members base no_symbols ms ss) q) (address_of t q)
after_members base [] ss t q = sym (ap (λ o. address_or o (address_of t q)) (address_of-no_symbols q))
after_members base (m ∷ ms) [] t q = sym (ap (λ o. address_or o (address_of t q)) (address_of-no_symbols q))
after_members base (m ∷ ms) (s ∷ ss) t q =
    let joint = address_of (with_members base no_symbols ms ss) q in
    let b = nat_eq q.0 m.name.0 in
    let one : address_of (with_address no_symbols m.name (base + s)) q ≡ cond b (Some (base + s)) None =
    address_of-with_address no_symbols m.name (base + s) q ∙ ap (λ o. cond b (Some (base + s)) o) (address_of-no_symbols q) in
    after_members base ms ss (with_address t m.name (base + s)) q
    ∙ ap (λ o. address_or joint o) (address_of-with_address t m.name (base + s) q)
    ∙ chosen joint (address_of t q) b (base + s)
    ∙ sym (ap (λ o. address_or (address_or joint o) (address_of t q)) one)
    ∙ sym (ap (λ o. address_or o (address_of t q)) (after_members base ms ss (with_address no_symbols m.name (base + s)) q))

-- a member's symbols are the joint ones, and else those of its lines
pub joined : (base : ℕ) (ms : List Member) (ss : List ℕ) (lines : List SymbolLine) → AreJoined (joint_symbols base ms ss) lines (symbols_of base ms ss lines)
joined base ms ss lines q = after_members base ms ss (with_lines no_symbols lines) q

-- ---- the names that relocations need

abbrev put : Option ℕ → Symbols → ExternalName → Symbols
put None table name = table
put (Some address) table name = with_address table name address

-- a table with the joint addresses of these relocations' names
abbrev pub with_named : (joint : Symbols) → List RelocEntry → Symbols → Symbols
with_named joint [] table = table
with_named joint (r ∷ rs) table = with_named joint rs (put (address_of joint r.name) table r.name)

abbrev is_named : List RelocEntry → ExternalName → Bool
is_named [] q = false
is_named (r ∷ rs) q = nat_eq q.0 r.name.0 || is_named rs q

put_cases : (b : Bool) (a : ℕ) (o : Option ℕ) → cond b (Some a) o ≡ address_or (cond b (Some a) None) o
put_cases true a o = refl
put_cases false a o = refl

none_cases : (b : Bool) (o : Option ℕ) → o ≡ address_or (cond b None None) o
none_cases true o = refl
none_cases false o = refl

put_at : (o : Option ℕ) (t : Symbols) (n q : ExternalName) → address_of (put o t n) q ≡ address_or (cond (nat_eq q.0 n.0) o None) (address_of t q)
put_at None t n q = none_cases (nat_eq q.0 n.0) (address_of t q)
put_at (Some a) t n q = address_of-with_address t n a q ∙ put_cases (nat_eq q.0 n.0) a (address_of t q)

twice : (later : Bool) (x t : Option ℕ) → address_or (cond later x None) (address_or x t) ≡ address_or x t
twice true None t = refl
twice true (Some a) t = refl
twice false x t = refl

here_or_later : (b later : Bool) (x y t : Option ℕ) → (b ≡ true → y ≡ x) → address_or (cond later x None) (address_or (cond b y None) t) ≡ address_or (cond (b || later) x None) t
here_or_later true later x y t same = ap (λ z. address_or (cond later x None) (address_or z t)) (same refl) ∙ twice later x t
here_or_later false later x y t same = refl

named_address : (joint : Symbols) (rs : List RelocEntry) (t : Symbols) (q : ExternalName) → address_of (with_named joint rs t) q ≡ address_or (cond (is_named rs q) (address_of joint q) None) (address_of t q)
named_address joint [] t q = refl
named_address joint (r ∷ rs) t q =
    named_address joint rs (put (address_of joint r.name) t r.name) q
    ∙ ap (λ o. address_or (cond (is_named rs q) (address_of joint q) None) o) (put_at (address_of joint r.name) t r.name q)
    ∙ here_or_later (nat_eq q.0 r.name.0) (is_named rs q) (address_of joint q) (address_of joint r.name) (address_of t q) (λ e. ap (λ n. get joint n) (sym (eqb-true q.0 r.name.0 e)))

named_each : (rs : List RelocEntry) (k : ℕ) (d : RelocEntry) → k < length rs → is_named rs (get_or rs k d).name ≡ true
named_each [] k d lt = absurd (omega (arith, lt))
named_each (r ∷ rs) zero d lt = or_left (nat_eq r.name.0 r.name.0) (is_named rs r.name) (eq-eqb r.name.0 r.name.0 refl)
named_each (r ∷ rs) (suc k) d lt = or_right (nat_eq (get_or rs k d).name.0 r.name.0) (is_named rs (get_or rs k d).name) (named_each rs k d (omega (arith, lt)))

-- the table of a member's lines with the joint addresses of its relocations' names does for these relocations
pub named_alike : (joint : Symbols) (lines : List SymbolLine) (rs : List RelocEntry) (table symbols : Symbols) → table ≡ with_named joint rs (with_lines no_symbols lines) → AreJoined joint lines symbols → AnswersAlike rs table symbols
named_alike joint lines rs table symbols is join k d lt =
    let name = (get_or rs k d).name in
    ap (λ t. address_of t name) is
    ∙ named_address joint rs (with_lines no_symbols lines) name
    ∙ ap (λ b. address_or (cond b (address_of joint name) None) (address_of (with_lines no_symbols lines) name)) (named_each rs k d lt)
    ∙ sym (join name)

-- ---- linking by tables that answer alike

cause_alike : (base : ℕ) (rs : List RelocEntry) (t s : Symbols) → AnswersAlike rs t s → relocs_cause base t rs ≡ relocs_cause base s rs
cause_alike base [] t s h = refl
cause_alike base (r ∷ rs) t s h =
    ap (λ o. first_link_cause (symbol_cause base r o) (relocs_cause base t rs)) (h 0 r (omega arith))
    ∙ ap (λ c. first_link_cause (symbol_cause base r (address_of s r.name)) c) (cause_alike base rs t s (λ k d lt. h (suc k) d (omega (arith, lt))))

fill_alike : (base : ℕ) (rs : List RelocEntry) (t s : Symbols) (bytes : List ℕ) → AnswersAlike rs t s → with_fields_filled base t rs bytes ≡ with_fields_filled base s rs bytes
fill_alike base [] t s bytes h = refl
fill_alike base (r ∷ rs) t s bytes h =
    ap (λ o. with_fields_filled base t rs (fill base (address_or_zero o) r bytes)) (h 0 r (omega arith))
    ∙ fill_alike base rs t s (fill base (address_or_zero (address_of s r.name)) r bytes) (λ k d lt. h (suc k) d (omega (arith, lt)))

-- what linking answers by the one table it answers by the other
pub linked_alike : (code : MachBufferFinalized) (address : ℕ) (t s : Symbols) → AnswersAlike code.relocs.items t s → (r : Result Image LinkError) →
    MatchResult r (λ image. (link_cause code address t ≡ None) × (image.base ≡ address) × (image.bytes.items ≡ with_fields_filled address t code.relocs.items code.bytes.items)) (λ e. (e ≡ LinkError.NoMemory) ⊎ (link_cause code address t ≡ Some e)) →
    MatchResult r (λ image. IsLinked code address s image.bytes.items) (λ e. IsLinkCause code address s e)
linked_alike code address t s alike (Ok image) h =
    let same = ap (λ c. first_link_cause (base_cause code.alignment (length code.bytes.items) address) c) (cause_alike address code.relocs.items t s alike) in
    (sym same ∙ h.0, h.2 ∙ fill_alike address code.relocs.items t s code.bytes.items alike)
linked_alike code address t s alike (Err e) (inl none) = inl none
linked_alike code address t s alike (Err e) (inr is) =
    let same = ap (λ c. first_link_cause (base_cause code.alignment (length code.bytes.items) address) c) (cause_alike address code.relocs.items t s alike) in
    inr (sym same ∙ is)
