-- The regions of a job end at 2 ^ 64 or before, since its lines stand in their order.
use Rattle.std.proofs.Common.{◌≡◌, ℕ, ◌+◌, ◌≤◌, ◌^◌, Bool, true, false, ◌||◌, if◌then◌else◌, List, [], ◌∷◌, ◌++◌, map, length, Option, Some, None, refl, sym, ap, ◌∙◌}
use Rattle.std.specs.Prelude.{◌==◌, nat_lt}
use Rattle.std.proofs.lemmas.Bool.{ltb-false, or_parts}
use Rattle.s390x_job_lines.specs.Line.{Line}
use Rattle.s390x_job.specs.Items.{constant_line, symbol_line, memory_line, end_line}
use Rattle.s390x_job.specs.Grammar.{Place, Header, Within, AtEnd, Head, Never, class, next_place, run, region_class}
use Rattle.s390x_job.specs.Jobs.{IsJob, blocks_lines, flags_lines, frame_lines, registers_lines}
use Rattle.s390x_job.specs.declared.job.Job.{Job}
use Rattle.s390x_job.specs.declared.job.MemLine.{MemLine}
use Rattle.s390x_job.proofs.Whole.{run_append}
use Rattle.s390x_execution.specs.Start.{AllRegionsFit}

-- lines that lead somewhere began somewhere
began : (o : Option Place) (ls : List Line) (x : Place) → run o ls ≡ Some x → (q : Place) × (o ≡ Some q)
began None ls x h = absurd cc
began (Some q) ls x h = (q, refl)

-- nothing follows a line that never stands
never_next : (q : Place) → next_place q Never ≡ None
never_next (Header rank bound) = refl
never_next (Within d) = refl
never_next AtEnd = refl

-- a region that may stand fits
region_fits : (q : Place) (address size : ℕ) (beyond : Bool) → ((size == 0) || nat_lt (2 ^ 64) (address + size)) ≡ beyond → (x : Place) (ls : List Line) → run (next_place q (region_class address size)) ls ≡ Some x → address + size ≤ 2 ^ 64
region_fits q address size true e x ls h =
    let none : next_place q (region_class address size) ≡ None = ap (λ b. next_place q (if b then Never else Head 5 address (address + size))) e ∙ never_next q in
    let stuck : None ≡ Some x = sym (ap (λ (o : Option Place). run o ls) none) ∙ h in
    absurd cc
region_fits q address size false e x ls h = ltb-false (2 ^ 64) (address + size) (or_parts (size == 0) (nat_lt (2 ^ 64) (address + size)) e).1

regions_stand : (ms : List MemLine) (o : Option Place) (x : Place) → run o (map memory_line ms) ≡ Some x → AllRegionsFit ms
regions_stand [] o x h = tt
regions_stand (m ∷ ms) None x h = absurd cc
regions_stand (m ∷ ms) (Some q) x h =
    let size = length m.bytes.items in
    (region_fits q m.address size ((size == 0) || nat_lt (2 ^ 64) (m.address + size)) refl x (map memory_line ms) h, regions_stand ms (next_place q (class (memory_line m))) x h)

-- the lines behind others
behind : (a b : List Line) (o : Option Place) (x : Place) → run o (a ++ b) ≡ Some x → run (run o a) b ≡ Some x
behind a b o x h = sym (run_append a o b) ∙ h

pub job_fits : (j : Job) → IsJob j → AllRegionsFit j.memory.items
job_fits j is =
    let flags = flags_lines j.info.isa_flags in
    let frame = frame_lines j.conv j.state.layout in
    let constants = map constant_line j.function.constants.items in
    let symbols = map symbol_line j.symbols.items in
    let registers = registers_lines j.registers in
    let regions = map memory_line j.memory.items in
    let heads = flags ++ (frame ++ (constants ++ (symbols ++ (registers ++ regions)))) in
    let start : Option Place = Some (Header 0 0) in
    let whole = behind heads (blocks_lines j.function.blocks.items ++ end_line ∷ []) start AtEnd is.order in
    let there = began (run start heads) (blocks_lines j.function.blocks.items ++ end_line ∷ []) AtEnd whole in
    let a = behind flags (frame ++ (constants ++ (symbols ++ (registers ++ regions)))) start there.0 there.1 in
    let b = behind frame (constants ++ (symbols ++ (registers ++ regions))) (run start flags) there.0 a in
    let c = behind constants (symbols ++ (registers ++ regions)) (run (run start flags) frame) there.0 b in
    let d = behind symbols (registers ++ regions) (run (run (run start flags) frame) constants) there.0 c in
    let e = behind registers regions (run (run (run (run start flags) frame) constants) symbols) there.0 d in
    regions_stand j.memory.items (run (run (run (run (run start flags) frame) constants) symbols) registers) there.0 e
