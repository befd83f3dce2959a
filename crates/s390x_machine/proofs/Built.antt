-- A step of a layout at its place: its parts as rows, and how one row that does its operation is the step.
pub use Rattle.s390x_machine.specs.CodeAt.{StepAt}
use Rattle.std.proofs.Common.{◌≡◌, ℕ, suc, ◌+◌, ◌-◌, ◌%◌, ◌^◌, ◌<◌, ◌≤◌, [], ◌∷◌, List, length, get_or, slice_index, Option, Some, None, Bool, true, false, refl, sym, ap, ◌∙◌, subst, arith, nat_lt, ltb-true}
use Rattle.std.proofs.lemmas.Option.{slice_get_within}
use Rattle.s390x_base.specs.declared.trap.TrapKind.{TrapKind}
use Rattle.s390x_format.specs.Formats.{length_of, layout_of}
use Rattle.s390x_format.specs.Layout.{SlotsFit}
use Rattle.s390x_format.specs.Rows.{is_allowed, fetch_length_of}
use Rattle.s390x_format.proofs.Encoding.{encode-length}
use Rattle.s390x_format.specs.View.{fields_of}
use Rattle.s390x_format.specs.declared.row.Allowed.{Allowed}
use Rattle.s390x_format.specs.declared.kind.FormatKind.{FormatKind}
use Rattle.s390x_format.specs.declared.kind.FormatKind.TheVariants.{Rr}
use Rattle.s390x_typed_steps.specs.SingleInstruction.{single_with}
use Rattle.s390x_typed_steps.specs.MachineInstruction.{MachineInstruction, bytes_of, size_of}
use Rattle.s390x_typed_steps.specs.Steps.{Step}
use Rattle.s390x_typed_steps.specs.Parts.{CodePart, Row, Trapping, parts_size, parts_or, step_parts, stopping}
use Rattle.s390x_typed_steps.specs.Traps.{parts_traps, first_code}
use Rattle.s390x_operations.specs.State.{Registers}
use Rattle.s390x_operations.specs.Effects.{Refines, stop_of_effect, MayRefuse}
use Rattle.s390x_operations.specs.declared.effect.Operation.{Operation}
use Rattle.s390x_operations.specs.declared.effect.CodeRule.{CodeRule}
use Rattle.s390x_operations.specs.declared.stop.StopKind.{StopKind}
use Rattle.s390x_format.specs.declared.semantics.RowSemantics.{RowSemantics}
use Rattle.s390x_machine.specs.declared.action_type.Action.{Action}
use Rattle.s390x_machine.specs.declared.action_type.Action.TheVariants.{Perform}
use Rattle.s390x_machine.specs.Computations.{Computation, Comparison, computes, compares, computes_immediate, compares_immediate}
use Rattle.s390x_machine.specs.StepKinds.{StepKind, Performs, no_code}
use Rattle.s390x_machine.specs.Layout.{Layout, step_address}
use Rattle.s390x_machine.specs.OneStep.{StepRuns}
use Rattle.s390x_machine.specs.Semantics.{register_field}
use Rattle.s390x_machine.specs.Operands.{performed_where}
use Rattle.s390x_machine.specs.CodeAt.{OperandsValidOr}
use Rattle.s390x_machine.specs.Typed.{kind_of_step, kind_at}
use Rattle.s390x_machine.proofs.SingleInstruction.{Doing, DoesThere, meant_at, pair_at}
use Rattle.s390x_machine.proofs.Fetching.{StandsAt}
use Rattle.s390x_machine.proofs.Listing.{ListedRow, PairRow}
use Rattle.s390x_machine.proofs.RegisterNumbers.{even_pair}
use Rattle.s390x_machine.proofs.Simulation.{RowAt, DoesAs, Coded, ValuesCoded, at_start, general_step}
use Rattle.s390x_machine.proofs.Standing.{PartsStand, step_stands, inside_first, next_place}
use Rattle.s390x_machine.proofs.Stops.{never_by_values}
use Rattle.s390x_machine.proofs.Trapping.{IsLate, entry_found, late_code}

-- each machine instruction has bytes
pub some_bytes : (kind : FormatKind) → 0 < length_of kind
unfolding length_of
some_bytes kind = ltb-true 0 (length_of kind) (some kind)
  where
    some : (kind : FormatKind) → nat_lt 0 (length_of kind) ≡ true
    some Rr = refl
    some _ = refl

-- ---- operations that stop by no values

pub exactly : (op : Operation) → Refines op op
exactly op = record { access = refl; refused = refl; may_refuse = λ kind h. h; results = λ c r h. h; code = λ c code h. h }

pub uncoded : (L : Layout) (p : ℕ) → Coded L p no_code
uncoded L p kind n e = absurd (cc)

abbrev pub NeverStops : (Registers → Operation) → Type 0
NeverStops operation = (r : Registers) → ValuesCoded (operation r) no_code

pub computes_always : (rule : CodeRule) (c : Computation) (d n m : ℕ) → NeverStops (computes rule c d n m)
computes_always rule c d n m r = never_by_values (computes rule c d n m r) no_code refl (λ kind h. h)

pub computes_immediate_always : (rule : CodeRule) (c : Computation) (d n bits : ℕ) → NeverStops (computes_immediate rule c d n bits)
computes_immediate_always rule c d n bits r = never_by_values (computes_immediate rule c d n bits r) no_code refl (λ kind h. h)

pub compares_always : (c : Comparison) (n m : ℕ) → NeverStops (compares c n m)
compares_always c n m r = never_by_values (compares c n m r) no_code refl (λ kind h. h)

pub compares_immediate_always : (c : Comparison) (n bits : ℕ) → NeverStops (compares_immediate c n bits)
compares_immediate_always c n bits r = never_by_values (compares_immediate c n bits r) no_code refl (λ kind h. h)

pub where_never : (selected : Bool) (op : Operation) (code : StopKind → Option TrapKind) → stop_of_effect op.effect ≡ None → ((kind : StopKind) → MayRefuse op.effect kind → ⊥) → ValuesCoded (performed_where selected op) code
where_never true op code none free = never_by_values op code none free
where_never false op code none free = never_by_values (performed_where false op) code refl (λ kind h. h)

-- ---- the rows of a step of one part

pub record OneRow (L : Layout) (k : ℕ) (m : MachineInstruction) : Type 0 where
  pub stands : StandsAt L.image (L.offsets.step k) (bytes_of m)
  pub size : L.offsets.step (suc k) ≡ L.offsets.step k + size_of m

-- the same of a row with a trap recorded at one of its bytes, where the table has its code
pub record Recorded (L : Layout) (k : ℕ) (m : MachineInstruction) (byte : ℕ) (code : TrapKind) : Type 0 where
  pub row : OneRow L k m
  pub found : first_code L.traps (L.offsets.step k + byte) ≡ Some code

-- a step that is this operation, and one row
abbrev pub IsRow : Layout → Step → MachineInstruction → (Registers → Operation) → Type 0
IsRow L s x operation = (kind_of_step L (Some s) ≡ Some (Performs false operation no_code)) × (step_parts s ≡ Row x ∷ [])

-- one that may have a row
abbrev pub IsSingle : Layout → Step → (operands_valid : Bool) → Option MachineInstruction → (Registers → Operation) → Type 0
IsSingle L s operands_valid o operation =
    (kind_of_step L (Some s) ≡ Some (Performs false operation no_code)) × (step_parts s ≡ parts_or (single_with operands_valid o) None []) × OperandsValidOr (single_with operands_valid o) ⊥

module _ {L : Layout} {k : ℕ} {s : Step} (b : StepAt L k s) where
  pub step_within : suc k ≤ length L.steps
  step_within = slice_get_within L.steps k s b.at

  pub step_even : L.offsets.step k % 2 ≡ 0
  step_even = (b.image.step_places k (omega (arith, step_within))).0

  pub step_small : L.offsets.step k < 2 ^ 31
  step_small = (b.image.step_places k (omega (arith, step_within))).1

  pub step_form : (f : StepKind) → kind_of_step L (Some s) ≡ Some f → kind_at L k ≡ Some f
  step_form f e = ap (kind_of_step L) b.at ∙ e

  -- its parts stand one behind another, and fill it
  pub stand_as : (parts : List CodePart) → step_parts s ≡ parts → PartsStand L (L.offsets.step k) parts
  stand_as parts is = subst (λ ps. PartsStand L (L.offsets.step k) ps) is (step_stands L k s b.code)

  pub size_as : (parts : List CodePart) → step_parts s ≡ parts → L.offsets.step (suc k) ≡ L.offsets.step k + parts_size parts
  size_as parts is = b.code.size ∙ ap (λ ps. L.offsets.step k + parts_size ps) is

  pub one_row : (m : MachineInstruction) → step_parts s ≡ Row m ∷ [] → OneRow L k m
  one_row m is =
      let size : parts_size (Row m ∷ []) ≡ size_of m = omega arith in
      record { stands = (stand_as (Row m ∷ []) is).0; size = size_as (Row m ∷ []) is ∙ ap (λ n. L.offsets.step k + n) size }

  pub one_recorded : (m : MachineInstruction) (byte : ℕ) (code : TrapKind) → step_parts s ≡ Trapping m byte code ∷ [] → byte < size_of m → Recorded L k m byte code
  one_recorded m byte code is lt =
      let o = L.offsets.step k in
      let size : parts_size (Trapping m byte code ∷ []) ≡ size_of m = omega arith in
      let next = size_as (Trapping m byte code ∷ []) is ∙ ap (λ n. o + n) size in
      record {
        row = record { stands = (stand_as (Trapping m byte code ∷ []) is).0; size = next };
        found = b.code.traps (o + byte) (omega arith) (omega (arith, next, lt)) ∙ ap (λ ps. first_code (parts_traps o ps) (o + byte)) is ∙ entry_found (o + byte) code;
      }

  -- a row by itself, which does the step's operation
  pub row_alone : (operation : Registers → Operation) (code : StopKind → Option TrapKind) (act : Registers → Action) (size : ℕ) → kind_of_step L (Some s) ≡ Some (Performs false operation code) → RowAt L (step_address L k) act size → ((r : Registers) → DoesAs (act r) (operation r)) →
      Coded L (step_address L k) code → ((r : Registers) → ValuesCoded (operation r) code) → L.offsets.step (suc k) ≡ L.offsets.step k + size → 0 < size → StepRuns L k
  row_alone operation code act size is row does at with_code e some c is_loaded =
      general_step L k c [] (step_address L k) act size false 0 operation code (step_form _ is) (at_start L k c (inside_first L k size e some) is_loaded) row (does c.registers) (next_place L k size e) at (with_code c.registers)

  -- one that is as free as the step's operation, or less
  pub looser_runs : (x : MachineInstruction) (does operation : Registers → Operation) → ((r : Registers) → Refines (does r) (operation r)) → NeverStops operation → IsRow L s x operation → DoesThere L b.image (L.offsets.step k) step_even x does → StepRuns L k
  looser_runs x does operation refines never is at_row =
      let one = one_row x is.1 in
      row_alone operation no_code (λ r. Perform (does r)) (size_of x) is.0 (at_row one.stands) refines (uncoded L (step_address L k)) never one.size (some_bytes x.format)

  pub row_runs : (x : MachineInstruction) (operation : Registers → Operation) → NeverStops operation → IsRow L s x operation → DoesThere L b.image (L.offsets.step k) step_even x operation → StepRuns L k
  row_runs x operation never is at_row = looser_runs x operation operation (λ r. exactly (operation r)) never is at_row

  -- any row whose action is the step's operation
  pub meant_runs : {allowed : Allowed} {digits : ℕ} (x : MachineInstruction) (semantics : RowSemantics) (operation : Registers → Operation) → NeverStops operation → IsRow L s x operation →
      ListedRow x.format allowed digits (slice_index x.slots 0) semantics → SlotsFit (layout_of x.format) x.slots → is_allowed allowed x.slots ≡ true → Doing (fields_of x.format x.slots) semantics operation → StepRuns L k
  meant_runs x semantics operation never is row fit allows acts = row_runs x operation never is (λ st. meant_at L b.image (L.offsets.step k) step_even x semantics operation row fit allows acts st)

  -- a row of an even pair whose action is the step's operation
  pub pair_runs : {allowed : Allowed} (x : MachineInstruction) (semantics : RowSemantics) (operation : Registers → Operation) → NeverStops operation → IsRow L s x operation → PairRow x.format allowed (slice_index x.slots 0) semantics → register_field (fields_of x.format x.slots) 0 % 2 ≡ 0 →
      SlotsFit (layout_of x.format) x.slots → is_allowed allowed x.slots ≡ true → Doing (fields_of x.format x.slots) semantics operation → StepRuns L k
  pair_runs x semantics operation never is row is_even fit allows acts =
      row_runs x operation never is (λ st. pair_at L b.image (L.offsets.step k) step_even x semantics operation row (even_pair semantics (fields_of x.format x.slots) is_even) fit allows acts st)

  -- a row by itself, whose stop has a code at its last byte
  pub coded_runs : (x : MachineInstruction) (operation : Registers → Operation) (code : StopKind → Option TrapKind) (n : TrapKind) → ((r : Registers) → ValuesCoded (operation r) code) → ((kind : StopKind) (y : TrapKind) → code kind ≡ Some y → IsLate L kind × (y ≡ n)) →
      kind_of_step L (Some s) ≡ Some (Performs false operation code) → step_parts s ≡ stopping x n ∷ [] → fetch_length_of (get_or (bytes_of x) 0 0) ≡ size_of x → DoesThere L b.image (L.offsets.step k) step_even x operation → StepRuns L k
  coded_runs x operation code n values late is parts tells at_row =
      let o = L.offsets.step k in
      let some : 0 < size_of x = some_bytes x.format in
      let one = one_recorded x (size_of x - 1) n parts (omega (arith, some)) in
      let long : 0 < length (bytes_of x) = omega (arith, encode-length x.format x.slots, some) in
      let with_code : Coded L (step_address L k) code = λ kind y e.
      let h = late kind y e in
      late_code L b.image.fits o (bytes_of x) one.row.stands long kind h.0 ∙ ap (λ n. first_code L.traps (o + (n - 1))) tells ∙ one.found ∙ ap Some (sym h.1) in
      row_alone operation code (λ r. Perform (operation r)) (size_of x) is (at_row one.row.stands) (λ r. exactly (operation r)) with_code values one.row.size some
