-- The rows that aren't relative can be encoded where all can.
use Rattle.std.proofs.Common.{◌≡◌, ℕ, Bool, true, ◌&&◌, ◌||◌, Option, None}
use Rattle.std.specs.Prelude.{not}
use Rattle.std.proofs.lemmas.Bool.{and_parts}
use Rattle.s390x_base.specs.declared.regs.Reg.{Reg}
use Rattle.s390x_address.specs.Rows.{has_12_bits, rows_encode}
use Rattle.s390x_address.specs.declared.rows.StorageRows.TheVariants.{OneRegister}

-- without a row that is relative, what is asked of the others is left
pub loaded_encodes : (register : Reg) (rx rxy ril : Option ℕ) (valid : Bool) → (has_12_bits ril && (not valid || rows_encode (OneRegister register rx rxy ril))) ≡ true → (true && (not valid || rows_encode (OneRegister register rx rxy None))) ≡ true
loaded_encodes register rx rxy ril valid h = (and_parts (has_12_bits ril) (not valid || rows_encode (OneRegister register rx rxy ril)) h).1
