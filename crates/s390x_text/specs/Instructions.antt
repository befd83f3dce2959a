-- The text of an instruction, and the state of emission behind it (cranelift-codegen, `mod.rs`).
use Rattle.std.specs.Prelude.{ℕ, ◌+◌, Bool, true, false, List, [], ◌∷◌, ◌++◌, codes, cond, not, nat_lt, Option, Some, None}
use Rattle.s390x_inst.specs.Emission.{Emission}
use Rattle.s390x_inst.specs.declared.state.IsaFlags.{IsaFlags}
use Rattle.s390x_inst.specs.declared.inst.Inst.{Inst, Row_of-Inst, end_of-Inst, more_of-Inst}
use Rattle.s390x_inst.specs.declared.inst.Inst.TheVariants.{Loop', Call, AllocateArgs}
use Rattle.s390x_text_rows.specs.Texts.{Text, first_cause, fixed_text, both, before_semicolon, text_or}
use Rattle.s390x_text_rows.specs.Operands.{cond_text}
use Rattle.s390x_text_rows.specs.Simple.{simple_text}
use Rattle.s390x_text.specs.Calls.{call_text}
use Rattle.s390x_text_rows.specs.declared.error.TextError.{TextError}
use Rattle.s390x_text_rows.specs.declared.error.TextError.TheVariants.{NoRow}

-- the text of an instruction that is no `Loop`, on a machine by its flags. The steps of calls access nothing relative to the instruction
abbrev pub leaf_text : IsaFlags → Emission → Inst → Text
leaf_text flags e i = text_or (call_text e i) (simple_text (not flags.no_relative_memory) e i)

-- the state behind an instruction that is no `Loop`: the nominal size is that of the arguments that are taken, until a call
abbrev pub leaf_after : Emission → Inst → Emission
leaf_after e (AllocateArgs size) = record e { nominal = size }
leaf_after e (Call link info) = record e { nominal = 0; outgoing = 0 }
leaf_after e i = e

abbrev mutual
  -- the state behind an instruction
  pub after : Emission → Inst → Emission
  after e (Loop' mask body all) = row_after e all
  after e i = leaf_after e i

  -- the state behind the members of a loop
  pub row_after : Emission → {m : _} → Row_of-Inst m → Emission
  row_after e end_of-Inst = e
  row_after e (more_of-Inst i rest) = row_after (after e i) rest

-- how deep loops may be nested
abbrev pub nesting_cause : ℕ → Option TextError
nesting_cause depth = cond (nat_lt depth 8) None (Some NoRow)

-- a text, a semicolon and a text
abbrev pub with_semicolon_between : Text → Text → Text
with_semicolon_between t u = both (before_semicolon t) u

-- the end of a loop: a semicolon of its own where there are no members, its back branch, and the label behind it
abbrev pub back_text : (is_empty : Bool) → (mask : ℕ) → List ℕ
back_text is_empty mask = cond is_empty (codes " ; ") [] ++ (codes "jg" ++ (cond_text mask ++ codes " 0b ; 1:"))

-- a loop inside so many others, by the texts of its members, each before a semicolon
abbrev pub text_of_loop : (depth mask : ℕ) → (is_empty : Bool) → Text → Text
text_of_loop depth mask is_empty body = record { cause = first_cause (nesting_cause depth) body.cause; bytes = codes "0: " ++ (body.bytes ++ back_text is_empty mask) }

-- whether there are no members
abbrev pub has_none : {m : _} → Row_of-Inst m → Bool
has_none end_of-Inst = true
has_none (more_of-Inst i rest) = false

abbrev mutual
  -- the text of an instruction inside so many loops. A `Loop` has its members twice: `all` is read, and `body` is ignored
  pub inst_text : IsaFlags → (depth : ℕ) → Emission → Inst → Text
  inst_text flags depth e (Loop' mask body all) = text_of_loop depth mask (has_none all) (row_text flags (depth + 1) e all)
  inst_text flags depth e i = leaf_text flags e i

  -- the members of a loop, each before a semicolon
  pub row_text : IsaFlags → (depth : ℕ) → Emission → {m : _} → Row_of-Inst m → Text
  row_text flags depth e end_of-Inst = fixed_text []
  row_text flags depth e (more_of-Inst i rest) = with_semicolon_between (inst_text flags depth e i) (row_text flags depth (after e i) rest)

-- instructions in a list: the state behind them, and their texts, each before a semicolon
abbrev pub insts_after : Emission → List Inst → Emission
insts_after e [] = e
insts_after e (i ∷ is) = insts_after (after e i) is

abbrev pub insts_text : IsaFlags → (depth : ℕ) → Emission → List Inst → Text
insts_text flags depth e [] = fixed_text []
insts_text flags depth e (i ∷ is) = with_semicolon_between (inst_text flags depth e i) (insts_text flags depth (after e i) is)
