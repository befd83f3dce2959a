use Rattle.std.proofs.Common.{◌≡◌, ◌+◌, ◌++◌, ℕ, List, length, get_or, subst, sym, ap, ◌∙◌, arith}
use Rattle.s390x_image.specs.Symbols.{Symbols}
use Rattle.s390x_job.specs.declared.job.SymbolLine.{SymbolLine}
use Rattle.s390x_bundle.specs.Bytes.{part_behind}
use Rattle.s390x_bundle.specs.Linking.{IsLinkCause, IsLinked}
use Rattle.s390x_bundle.specs.Table.{AreJoined, symbols_of}
use Rattle.s390x_bundle.proofs.Parting.{bytes_now, none_now, ok_of, rise_now, unlinked_now}
use Rattle.s390x_bundle.proofs.Tables.{joined}
use Rattle.s390x_bundle.proofs.linking.link_members.Goals as goal

pub returns-in-Err-clause-answer : goal.returns-in-Err-clause-answer
returns-in-Err-clause-answer c =
    let members = c.args.members.now in
    let starts = c.args.starts.now in
    let lines = c.index-members-number.result.symbols.items in
    let symbols = symbols_of c.args.base members starts lines in
    let join : AreJoined c.in-Ok.joint c.deref.result.now symbols =
    subst (λ (l : List SymbolLine). AreJoined c.in-Ok.joint l symbols) (sym c.deref.ensures.value) (subst (λ (j : Symbols). AreJoined j lines symbols) (sym c.in-Ok.ensures) (joined c.args.base members starts lines)) in
    let caused : IsLinkCause c.index-codes-number.result (c.args.base + get_or starts c.loop-number.number 0) symbols c.in-Err.error =
    subst (λ (s : ℕ). IsLinkCause c.index-codes-number.result (c.args.base + s) symbols c.in-Err.error) c.from.ensures (c.in-Err.ensures symbols join) in
    unlinked_now c.args.base members starts c.args.codes.now c.loop-number.number c.index-members-number.result c.index-codes-number.result
    (omega arith) c.index-members-number.is (omega (arith, c.requires.counts)) (omega (arith, c.requires.codes)) c.index-codes-number.is c.in-Err.error _ caused c.loop-number.invariant.cause

pub loop-number-preserved : goal.loop-number-preserved
loop-number-preserved c =
    let members = c.args.members.now in
    let starts = c.args.starts.now in
    let codes = c.args.codes.now in
    let k = c.loop-number.number in
    let m = c.index-members-number.result in
    let f = c.index-codes-number.result in
    let lines = m.symbols.items in
    let symbols = symbols_of c.args.base members starts lines in
    let join : AreJoined c.in-Ok.joint c.deref.result.now symbols =
    subst (λ (l : List SymbolLine). AreJoined c.in-Ok.joint l symbols) (sym c.deref.ensures.value) (subst (λ (j : Symbols). AreJoined j lines symbols) (sym c.in-Ok.ensures) (joined c.args.base members starts lines)) in
    let bytes = c.in-Ok-linked_member.image.bytes.items in
    let linked : IsLinked f (c.args.base + get_or starts k 0) symbols bytes =
    subst (λ (s : ℕ). IsLinked f (c.args.base + s) symbols bytes) c.from.ensures (c.in-Ok-linked_member.ensures symbols join) in
    let old = c.loop-number.bytes.items in
    let new = c.put_part.new.bytes.items in
    let put : new ≡ old ++ part_behind (length old) (record { start = get_or starts k 0; bytes = bytes }) =
    ok_of c.put_part.result (new ≡ old ++ part_behind (length old) (record { start = get_or starts k 0; bytes = c.deref-in-Ok-linked_member.result.now })) c.put_part.ensures (sym c.is_err.ensures.value ∙ c.if-is_err.false)
    ∙ ap (λ (bs : List ℕ). old ++ part_behind (length old) (record { start = get_or starts k 0; bytes = bs })) c.deref-in-Ok-linked_member.ensures.value in
    record {
      cause = none_now c.args.base members starts codes k m f (omega arith) c.index-members-number.is (omega (arith, c.requires.counts)) (omega (arith, c.requires.codes)) c.index-codes-number.is old new bytes linked put _ c.loop-number.invariant.cause;
      bytes = bytes_now c.args.base members starts codes k m f (omega arith) c.index-members-number.is (omega (arith, c.requires.counts)) (omega (arith, c.requires.codes)) c.index-codes-number.is old new bytes linked put _ c.loop-number.invariant.rise c.loop-number.invariant.bytes;
      rise = rise_now c.args.base members starts codes k m f (omega arith) c.index-members-number.is (omega (arith, c.requires.counts)) (omega (arith, c.requires.codes)) c.index-codes-number.is old new bytes linked put c.loop-number.invariant.rise;
    }
