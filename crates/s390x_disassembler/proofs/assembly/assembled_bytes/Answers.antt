use Rattle.std.proofs.Common.{rules, ◌≡◌, ℕ, ◌+◌, ◌^◌, ◌<◌, false, true, List, ◌++◌, length, arith, sym, subst}
use Rattle.hex.specs.Hex.{IsBytes}
use Rattle.s390x_disassembler.specs.Disassembly.{address_of}
use Rattle.s390x_disassembler.specs.Assembly.{IsFirstLine, IsWrongSource, ends_well}
use Rattle.s390x_disassembler.proofs.SoFar.{IsSoFar, nothing_read, line_read, only_read, none_read, wrong_read, none_behind, wrong_behind, none_of, some_of, sound_of, part_of, open_part}
use Rattle.s390x_disassembler.proofs.assembly.assembled_bytes.Goals as goal

pub loop-rest-init : goal.loop-rest-init
loop-rest-init c = subst (λ t. IsSoFar c.args.base c.args.text.now t c.args.text.now 0) (sym c.new-code.ensures.items) (nothing_read c.args.base c.args.text.now)

pub loop-rest-preserved : goal.loop-rest-preserved
loop-rest-preserved c =
    let some : 0 < length c.loop-rest.rest.now = search rules in
    let sound = rw c.as_slice.ensures.value at c.in_ok-bytes.ensures.sound in
    let complete = rw c.as_slice.ensures.value at c.in_ok-bytes.ensures.complete in
    let first : IsFirstLine (address_of c.args.base (length c.loop-rest.code.items)) c.loop-rest.rest.now c.in-Some.bytes.items c.in-Some.more.now = sound_of c.in_ok-bytes.field-0 _ _ c.in-Some.is sound in
    let reads : (u r : List ℕ) → IsBytes u → IsFirstLine (address_of c.args.base (length c.loop-rest.code.items)) c.loop-rest.rest.now u r → (c.in-Some.bytes.items ≡ u) × (c.in-Some.more.now ≡ r) = λ u r hu f. some_of c.in_ok-bytes.field-0 _ _ c.in-Some.is (complete u r hu f) in
    let ends : c.ends_well.result ≡ ends_well c.in-Some.bytes.items c.in-Some.more.now = rw c.deref-in-Some.ensures.value at c.ends_well.ensures.ends in
    let long : length c.args.text.now < 2 ^ 63 = search rules in
    let count : c.saturating_add-lines.result ≡ c.loop-rest.lines + 1 = omega (arith, c.saturating_add-lines.ensures, c.loop-rest.invariant.few, long) in
    let small : IsBytes c.in-Some.bytes.items = rw c.deref-in-Some.ensures.value at c.ends_well.ensures.bytes in
    let well : c.ends_well.result ≡ true = search rules in
    let items : c.extend_from_slice.new.self.items ≡ c.loop-rest.code.items ++ c.in-Some.bytes.items = rw c.deref.ensures.value at c.in_ok-extend_from_slice-in-Some.ensures.items in
    subst (λ t. IsSoFar c.args.base c.args.text.now t c.in-Some.more.now c.saturating_add-lines.result) (sym items) (subst (λ n. IsSoFar c.args.base c.args.text.now (c.loop-rest.code.items ++ c.in-Some.bytes.items) c.in-Some.more.now n) (sym count)
    (line_read c.args.base c.args.text.now c.loop-rest.code.items c.in-Some.bytes.items c.loop-rest.rest.now c.in-Some.more.now c.loop-rest.lines some c.loop-rest.invariant small (part_of c.in-Some.bytes.items c.in-Some.more.now c.ends_well.result ends well) first reads))

pub returns-then-not-ends_well-clause-error : goal.returns-then-not-ends_well-clause-error
returns-then-not-ends_well-clause-error c =
    let some : 0 < length c.loop-rest.rest.now = search rules in
    let sound = rw c.as_slice.ensures.value at c.in_ok-bytes.ensures.sound in
    let complete = rw c.as_slice.ensures.value at c.in_ok-bytes.ensures.complete in
    let first : IsFirstLine (address_of c.args.base (length c.loop-rest.code.items)) c.loop-rest.rest.now c.in-Some.bytes.items c.in-Some.more.now = sound_of c.in_ok-bytes.field-0 _ _ c.in-Some.is sound in
    let reads : (u r : List ℕ) → IsBytes u → IsFirstLine (address_of c.args.base (length c.loop-rest.code.items)) c.loop-rest.rest.now u r → (c.in-Some.bytes.items ≡ u) × (c.in-Some.more.now ≡ r) = λ u r hu f. some_of c.in_ok-bytes.field-0 _ _ c.in-Some.is (complete u r hu f) in
    let ends : c.ends_well.result ≡ ends_well c.in-Some.bytes.items c.in-Some.more.now = rw c.deref-in-Some.ensures.value at c.ends_well.ensures.ends in
    let ill : c.ends_well.result ≡ false = search rules in
    let part = open_part c.in-Some.bytes.items c.in-Some.more.now c.ends_well.result ends ill in
    none_behind c.args.base c.args.text.now c.loop-rest.code.items c.in-Some.bytes.items c.loop-rest.rest.now c.in-Some.more.now c.loop-rest.lines some part.1 c.loop-rest.invariant part.0 first reads

pub returns-then-not-ends_well-clause-line : goal.returns-then-not-ends_well-clause-line
returns-then-not-ends_well-clause-line c =
    let some : 0 < length c.loop-rest.rest.now = search rules in
    let sound = rw c.as_slice.ensures.value at c.in_ok-bytes.ensures.sound in
    let complete = rw c.as_slice.ensures.value at c.in_ok-bytes.ensures.complete in
    let first : IsFirstLine (address_of c.args.base (length c.loop-rest.code.items)) c.loop-rest.rest.now c.in-Some.bytes.items c.in-Some.more.now = sound_of c.in_ok-bytes.field-0 _ _ c.in-Some.is sound in
    let reads : (u r : List ℕ) → IsBytes u → IsFirstLine (address_of c.args.base (length c.loop-rest.code.items)) c.loop-rest.rest.now u r → (c.in-Some.bytes.items ≡ u) × (c.in-Some.more.now ≡ r) = λ u r hu f. some_of c.in_ok-bytes.field-0 _ _ c.in-Some.is (complete u r hu f) in
    let ends : c.ends_well.result ≡ ends_well c.in-Some.bytes.items c.in-Some.more.now = rw c.deref-in-Some.ensures.value at c.ends_well.ensures.ends in
    let long : length c.args.text.now < 2 ^ 63 = search rules in
    let count : c.saturating_add-lines.result ≡ c.loop-rest.lines + 1 = omega (arith, c.saturating_add-lines.ensures, c.loop-rest.invariant.few, long) in
    let small : IsBytes c.in-Some.bytes.items = rw c.deref-in-Some.ensures.value at c.ends_well.ensures.bytes in
    let ill : c.ends_well.result ≡ false = search rules in
    let part = open_part c.in-Some.bytes.items c.in-Some.more.now c.ends_well.result ends ill in
    let next : c.saturating_add.result ≡ c.loop-rest.lines + 1 + 1 = omega (arith, c.saturating_add.ensures, count, c.loop-rest.invariant.few, long) in
    subst (λ n. IsWrongSource c.args.base c.args.text.now n) (sym next)
    (wrong_behind c.args.base c.args.text.now c.loop-rest.code.items c.in-Some.bytes.items c.loop-rest.rest.now c.in-Some.more.now c.loop-rest.lines some c.loop-rest.invariant part.0 first reads small)

pub returns-in-None-clause-error : goal.returns-in-None-clause-error
returns-in-None-clause-error c =
    let some : 0 < length c.loop-rest.rest.now = search rules in
    let sound = rw c.as_slice.ensures.value at c.in_ok-bytes.ensures.sound in
    let complete = rw c.as_slice.ensures.value at c.in_ok-bytes.ensures.complete in
    none_read c.args.base c.args.text.now c.loop-rest.code.items c.loop-rest.rest.now c.loop-rest.lines some c.loop-rest.invariant (λ u r hu f. none_of c.in_ok-bytes.field-0 _ c.in-None.is (complete u r hu f))

pub returns-in-None-clause-line : goal.returns-in-None-clause-line
returns-in-None-clause-line c =
    let some : 0 < length c.loop-rest.rest.now = search rules in
    let sound = rw c.as_slice.ensures.value at c.in_ok-bytes.ensures.sound in
    let complete = rw c.as_slice.ensures.value at c.in_ok-bytes.ensures.complete in
    let long : length c.args.text.now < 2 ^ 63 = search rules in
    let count : c.saturating_add-in-None.result ≡ c.loop-rest.lines + 1 = omega (arith, c.saturating_add-in-None.ensures, c.loop-rest.invariant.few, long) in
    subst (λ n. IsWrongSource c.args.base c.args.text.now n) (sym count)
    (wrong_read c.args.base c.args.text.now c.loop-rest.code.items c.loop-rest.rest.now c.loop-rest.lines c.loop-rest.invariant (λ u r hu f. none_of c.in_ok-bytes.field-0 _ c.in-None.is (complete u r hu f)))

pub returns-clause-one : goal.returns-clause-one
returns-clause-one c =
    let none : length c.loop-rest.rest.now ≡ 0 = search rules in
    only_read c.args.base c.args.text.now c.loop-rest.code.items c.loop-rest.rest.now c.loop-rest.lines none c.loop-rest.invariant
