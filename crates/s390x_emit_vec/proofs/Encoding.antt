-- Where the registers of an instruction are vector ones, its row can be encoded.
use Rattle.std.proofs.Common.{◌≡◌, ℕ, Option, Some, None, sym, Bool, true, false, cond, nat_lt, nat_eq, ◌&&◌, List, ap, ◌∙◌}
use Rattle.std.proofs.Common.{Result, Ok, Err, MatchResult}
use Rattle.std.proofs.lemmas.Bool.{and_parts, and_from}
use Rattle.s390x_base.specs.Regs.{number_of}
use Rattle.s390x_base.specs.declared.error.EmitError.{EmitError}
use Rattle.s390x_base.specs.declared.error.EmitError.TheVariants.{BadRegister}
use Rattle.s390x_base.specs.declared.regs.Reg.{Reg}
use Rattle.s390x_base.specs.declared.regs.Reg.TheVariants.{Real, Virtual}
use Rattle.s390x_enc.specs.Operands.{is_float, is_first_float, is_second_float, may_stand_first, may_stand_second, is_float_class, is_vector as encodes_vector, is_general_class as encodes_general}
use Rattle.s390x_format.specs.declared.kind.FormatKind.{FormatKind}
use Rattle.s390x_format.specs.Encoded.{IsCode}
use Rattle.s390x_rows.specs.declared.opcodes.TheConstants as opcodes
use Rattle.s390x_typed_steps.specs.SingleCode.{code_where, single_code}
use Rattle.s390x_typed_steps.specs.MachineInstruction.{MachineInstruction}
use Rattle.s390x_typed_steps.specs.SingleInstruction.{single_with}
use Rattle.s390x_typed_steps.specs.General.{is_general}
use Rattle.s390x_typed_steps.specs.VectorInstruction.{is_vector, is_lane, lane_row, reuses_vector}
use Rattle.s390x_address.proofs.Encoding.{class_vector, one_general}

-- the answer of an encoding call whose registers may stand there
pub encoded : (valid ok : Bool) (kind : FormatKind) (slots : List ℕ) (r : Result (List ℕ) EmitError) → MatchResult r (λ code. (ok ≡ true) × IsCode kind slots code) (λ e. (e ≡ BadRegister) × (ok ≡ false)) → valid ≡ true → ok ≡ true → r ≡ code_where valid (record { format = kind; slots = slots })
unfolding code_where
encoded valid ok kind slots (Ok code) m v h = rw v (ap Ok m.1.bytes_are)
encoded valid ok kind slots (Err e) m v h = let n = m.1 in absurd (cc)

pub vector_encodes : (r : Reg) → is_vector r ≡ true → encodes_vector r ≡ true
vector_encodes (Real r) h = class_vector r.class _ h
vector_encodes (Virtual num class) h = absurd (cc)

pub two_encode : (a b : Reg) → (is_vector a && is_vector b) ≡ true → (encodes_vector a && encodes_vector b) ≡ true
two_encode a b h = let p = and_parts (is_vector a) (is_vector b) h in and_from (encodes_vector a) (encodes_vector b) (vector_encodes a p.0) (vector_encodes b p.1)

pub three_encode : (a b c : Reg) → (is_vector a && is_vector b && is_vector c) ≡ true → (encodes_vector a && encodes_vector b && encodes_vector c) ≡ true
three_encode a b c h =
    let p = and_parts (is_vector a && is_vector b) (is_vector c) h in and_from (encodes_vector a && encodes_vector b) (encodes_vector c) (two_encode a b p.0) (vector_encodes c p.1)

pub four_encode : (a b c d : Reg) → (is_vector a && is_vector b && is_vector c && is_vector d) ≡ true → (encodes_vector a && encodes_vector b && encodes_vector c && encodes_vector d) ≡ true
four_encode a b c d h =
    let p = and_parts (is_vector a && is_vector b && is_vector c) (is_vector d) h in
    and_from (encodes_vector a && encodes_vector b && encodes_vector c) (encodes_vector d) (three_encode a b c p.0) (vector_encodes d p.1)

-- a base stands between the vector registers of a shift
pub shift_encodes : (a b register : Reg) → (is_vector a && is_vector b && is_general register) ≡ true → (encodes_vector a && encodes_general register && encodes_vector b) ≡ true
shift_encodes a b register h =
    let p = and_parts (is_vector a && is_vector b) (is_general register) h in
    let q = and_parts (is_vector a) (is_vector b) p.0 in
    and_from (encodes_vector a && encodes_general register) (encodes_vector b) (and_from (encodes_vector a) (encodes_general register) (vector_encodes a q.0) (one_general register p.1)) (vector_encodes b q.1)

pub join_encodes : (a b c : Reg) → (is_vector a && is_general b && is_general c) ≡ true → (encodes_vector a && encodes_general b && encodes_general c) ≡ true
join_encodes a b c h =
    let p = and_parts (is_vector a && is_general b) (is_general c) h in
    let q = and_parts (is_vector a) (is_general b) p.0 in
    and_from (encodes_vector a && encodes_general b) (encodes_general c) (and_from (encodes_vector a) (encodes_general b) (vector_encodes a q.0) (one_general b q.1)) (one_general c p.1)

pub float_encodes : (r : Reg) → is_vector r ≡ true → nat_lt (number_of r) 16 ≡ true → is_float r ≡ true
float_encodes (Real r) h low = and_from (is_float_class r.class) (nat_lt r.number 16) (class_vector r.class _ h) low
float_encodes (Virtual num class) h low = absurd (cc)

-- float registers, as the encoding call tests them
pub floats_encode : (opcode : ℕ) (a b : Reg) → is_first_float opcode ≡ true → is_second_float opcode ≡ true → (nat_lt (number_of a) 16 && nat_lt (number_of b) 16) ≡ true → (is_vector a && is_vector b) ≡ true → (may_stand_first opcode a && may_stand_second opcode b) ≡ true
floats_encode opcode a b first second low h =
    let p = and_parts (is_vector a) (is_vector b) h in
    let l = and_parts (nat_lt (number_of a) 16) (nat_lt (number_of b) 16) low in
    and_from (may_stand_first opcode a) (may_stand_second opcode b)
    (ap (λ t. cond t (is_float a) (encodes_general a)) first ∙ float_encodes a p.0 l.0)
    (ap (λ t. cond t (is_float b) (encodes_general b)) second ∙ float_encodes b p.1 l.1)

pub reused_real : (output input : Reg) → reuses_vector output input ≡ true → is_vector output ≡ true
reused_real output input h = (and_parts (is_vector output) (is_vector input) (and_parts (is_vector output && is_vector input) (nat_eq (number_of output) (number_of input)) h).0).0

-- an element's number stands behind the registers
pub insert_encodes : (v r base : Reg) → (is_vector v && is_general r && is_general base) ≡ true → (encodes_vector v && encodes_general base && encodes_general r) ≡ true
insert_encodes v r base h =
    let p = and_parts (is_vector v && is_general r) (is_general base) h in
    let q = and_parts (is_vector v) (is_general r) p.0 in
    and_from (encodes_vector v && encodes_general base) (encodes_general r) (and_from (encodes_vector v) (encodes_general base) (vector_encodes v q.0) (one_general base p.1)) (one_general r q.1)

pub extract_encodes : (r v base : Reg) → (is_general r && is_vector v && is_general base) ≡ true → (encodes_general r && encodes_general base && encodes_vector v) ≡ true
extract_encodes r v base h =
    let p = and_parts (is_general r && is_vector v) (is_general base) h in
    let q = and_parts (is_general r) (is_vector v) p.0 in
    and_from (encodes_general r && encodes_general base) (encodes_vector v) (and_from (encodes_general r) (encodes_general base) (one_general r q.0) (one_general base p.1)) (vector_encodes v q.1)

-- a doubleword between a float register and a general one
pub to_float_encodes : (v r : Reg) → (is_vector v && is_general r) ≡ true → nat_lt (number_of v) 16 ≡ true → (may_stand_first opcodes.LDGR v && may_stand_second opcodes.LDGR r) ≡ true
to_float_encodes v r h low =
    let p = and_parts (is_vector v) (is_general r) h in
    and_from (may_stand_first opcodes.LDGR v) (may_stand_second opcodes.LDGR r) (float_encodes v p.0 low) (one_general r p.1)

pub from_float_encodes : (r v : Reg) → (is_general r && is_vector v) ≡ true → nat_lt (number_of v) 16 ≡ true → (may_stand_first opcodes.LGDR r && may_stand_second opcodes.LGDR v) ≡ true
from_float_encodes r v h low =
    let p = and_parts (is_general r) (is_vector v) h in
    and_from (may_stand_first opcodes.LGDR r) (may_stand_second opcodes.LGDR v) (one_general r p.0) (float_encodes v p.1 low)

-- the code of a row on one element
pub lane_coded : (valid : Bool) (row : ℕ → MachineInstruction) (o : Option ℕ) (code size lane : ℕ) → o ≡ Some code → is_lane size lane ≡ true → Some (code_where valid (row code)) ≡ single_code (single_with valid (lane_row row o size lane))
lane_coded valid row o code size lane e t = sym (ap (λ q. single_code (single_with valid (lane_row row q size lane))) e ∙ ap (λ b. single_code (single_with valid (cond b (Some (row code)) None))) t)
