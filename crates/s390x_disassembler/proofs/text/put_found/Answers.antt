use Rattle.std.proofs.Common.{◌≡◌, ◌++◌, OnOk, string_bytes, sym, subst}
use Rattle.s390x_disassembler.specs.Text.{found_text}
use Rattle.s390x_disassembler.proofs.text.put_found.Goals as goal

pub returns-in-Some : goal.returns-in-Some
returns-in-Some c =
    subst (λ found. OnOk c.put_row.result (string_bytes c.put_row.new.out ≡ string_bytes c.args.out.now ++ found_text c.args.address c.args.bytes.now found)) (sym c.in-Some.is) c.put_row.ensures
