-- Machine instructions: a format and the values in its slots, which are the opcode, four registers, three masks, an immediate and a displacement
-- (cranelift-codegen, `emit.rs`; the formats: Principles of Operation, chapter 5, "Instruction formats").
use Rattle.std.specs.Prelude.{ℕ, List, [], ◌∷◌}
use Rattle.s390x_format.specs.declared.kind.FormatKind.{FormatKind}
use Rattle.s390x_format.specs.declared.kind.FormatKind.TheVariants.{E, Rr, Rre, RrfAb, RrfCde, RiA, RiB, RiC, RieA, RieD, RieF, RieG, RilA, RilB, RilC, Rs, Rsy, Rx, Rxy, Si, Sil, Siy}
use Rattle.s390x_format.specs.declared.kind.FormatKind.TheVariants.{VriA, VriB, VriC, VriK, VrrA, VrrB, VrrC, VrrD, VrrE, VrrF, VrsA, VrsB, VrsC, Vrx}
use Rattle.s390x_format.specs.Formats.{length_of}
use Rattle.s390x_format.specs.Reading.{encode}

-- a machine instruction; what its format lacks is 0 in its slot
pub record MachineInstruction : Type 0 where
  pub format : FormatKind
  pub slots : List ℕ

-- its bytes in memory
abbrev pub bytes_of : MachineInstruction → List ℕ
bytes_of m = encode m.format m.slots

-- how many bytes it has
abbrev pub size_of : MachineInstruction → ℕ
size_of m = length_of m.format

-- E: an opcode of four digits alone
abbrev pub format_e : (opcode : ℕ) → MachineInstruction
format_e opcode = record { format = E; slots = opcode ∷ 0 ∷ 0 ∷ 0 ∷ 0 ∷ 0 ∷ 0 ∷ 0 ∷ 0 ∷ 0 ∷ [] }

-- RR: two registers, and an opcode of two digits
abbrev pub rr : (opcode r1 r2 : ℕ) → MachineInstruction
rr opcode r1 r2 = record { format = Rr; slots = opcode ∷ r1 ∷ r2 ∷ 0 ∷ 0 ∷ 0 ∷ 0 ∷ 0 ∷ 0 ∷ 0 ∷ [] }

-- RRE: two registers, and an opcode of four digits
abbrev pub rre : (opcode r1 r2 : ℕ) → MachineInstruction
rre opcode r1 r2 = record { format = Rre; slots = opcode ∷ r1 ∷ r2 ∷ 0 ∷ 0 ∷ 0 ∷ 0 ∷ 0 ∷ 0 ∷ 0 ∷ [] }

-- RRF-AB: three registers and a mask
abbrev pub rrf_ab : (opcode r1 r2 r3 m4 : ℕ) → MachineInstruction
rrf_ab opcode r1 r2 r3 m4 = record { format = RrfAb; slots = opcode ∷ r1 ∷ r2 ∷ r3 ∷ 0 ∷ m4 ∷ 0 ∷ 0 ∷ 0 ∷ 0 ∷ [] }

-- RRF-CDE: two registers and two masks
abbrev pub rrf_cde : (opcode r1 r2 m3 m4 : ℕ) → MachineInstruction
rrf_cde opcode r1 r2 m3 m4 = record { format = RrfCde; slots = opcode ∷ r1 ∷ r2 ∷ 0 ∷ 0 ∷ m3 ∷ m4 ∷ 0 ∷ 0 ∷ 0 ∷ [] }

-- RI-A: a register and the bits of an immediate of 16 bits
abbrev pub ri_a : (opcode r1 bits : ℕ) → MachineInstruction
ri_a opcode r1 bits = record { format = RiA; slots = opcode ∷ r1 ∷ 0 ∷ 0 ∷ 0 ∷ 0 ∷ 0 ∷ 0 ∷ bits ∷ 0 ∷ [] }

-- RI-B: a register and half of a distance, modulo 2 ^ 16, in the immediate's slot
abbrev pub ri_b : (opcode r1 half : ℕ) → MachineInstruction
ri_b opcode r1 half = record { format = RiB; slots = opcode ∷ r1 ∷ 0 ∷ 0 ∷ 0 ∷ 0 ∷ 0 ∷ 0 ∷ half ∷ 0 ∷ [] }

-- RI-C: a mask and half of a distance, as in RI-B
abbrev pub ri_c : (opcode m1 half : ℕ) → MachineInstruction
ri_c opcode m1 half = record { format = RiC; slots = opcode ∷ 0 ∷ 0 ∷ 0 ∷ 0 ∷ m1 ∷ 0 ∷ 0 ∷ half ∷ 0 ∷ [] }

-- RIE-A: a register, the bits of an immediate of 16 bits, and a mask
abbrev pub rie_a : (opcode r1 bits m3 : ℕ) → MachineInstruction
rie_a opcode r1 bits m3 = record { format = RieA; slots = opcode ∷ r1 ∷ 0 ∷ 0 ∷ 0 ∷ m3 ∷ 0 ∷ 0 ∷ bits ∷ 0 ∷ [] }

-- RIE-D: two registers and the bits of an immediate of 16 bits
abbrev pub rie_d : (opcode r1 r3 bits : ℕ) → MachineInstruction
rie_d opcode r1 r3 bits = record { format = RieD; slots = opcode ∷ r1 ∷ r3 ∷ 0 ∷ 0 ∷ 0 ∷ 0 ∷ 0 ∷ bits ∷ 0 ∷ [] }

-- RIE-F: two registers and three immediates of 8 bits
abbrev pub rie_f : (opcode r1 r2 i3 i4 i5 : ℕ) → MachineInstruction
rie_f opcode r1 r2 i3 i4 i5 = record { format = RieF; slots = opcode ∷ r1 ∷ r2 ∷ 0 ∷ 0 ∷ i3 ∷ i4 ∷ i5 ∷ 0 ∷ 0 ∷ [] }

-- RIE-G: a register, the bits of an immediate of 16 bits, and a mask
abbrev pub rie_g : (opcode r1 bits m3 : ℕ) → MachineInstruction
rie_g opcode r1 bits m3 = record { format = RieG; slots = opcode ∷ r1 ∷ 0 ∷ 0 ∷ 0 ∷ m3 ∷ 0 ∷ 0 ∷ bits ∷ 0 ∷ [] }

-- RS: two registers, and a base with a displacement of 12 bits
abbrev pub rs : (opcode r1 r3 b2 displacement : ℕ) → MachineInstruction
rs opcode r1 r3 b2 displacement = record { format = Rs; slots = opcode ∷ r1 ∷ r3 ∷ b2 ∷ 0 ∷ 0 ∷ 0 ∷ 0 ∷ 0 ∷ displacement ∷ [] }

-- RSY: two registers, and a base with a displacement of 20 bits
abbrev pub rsy : (opcode r1 r3 b2 displacement : ℕ) → MachineInstruction
rsy opcode r1 r3 b2 displacement = record { format = Rsy; slots = opcode ∷ r1 ∷ r3 ∷ b2 ∷ 0 ∷ 0 ∷ 0 ∷ 0 ∷ 0 ∷ displacement ∷ [] }

-- RX: a register, and a base and an index with a displacement of 12 bits
abbrev pub rx : (opcode r1 b2 x2 displacement : ℕ) → MachineInstruction
rx opcode r1 b2 x2 displacement = record { format = Rx; slots = opcode ∷ r1 ∷ b2 ∷ x2 ∷ 0 ∷ 0 ∷ 0 ∷ 0 ∷ 0 ∷ displacement ∷ [] }

-- RXY: a register, and a base and an index with a displacement of 20 bits
abbrev pub rxy : (opcode r1 b2 x2 displacement : ℕ) → MachineInstruction
rxy opcode r1 b2 x2 displacement = record { format = Rxy; slots = opcode ∷ r1 ∷ b2 ∷ x2 ∷ 0 ∷ 0 ∷ 0 ∷ 0 ∷ 0 ∷ displacement ∷ [] }

-- SI: a base with a displacement of 12 bits, and an immediate of 8 bits
abbrev pub si : (opcode b1 displacement imm : ℕ) → MachineInstruction
si opcode b1 displacement imm = record { format = Si; slots = opcode ∷ b1 ∷ 0 ∷ 0 ∷ 0 ∷ imm ∷ 0 ∷ 0 ∷ 0 ∷ displacement ∷ [] }

-- SIY: a base with a displacement of 20 bits, and an immediate of 8 bits
abbrev pub siy : (opcode b1 displacement imm : ℕ) → MachineInstruction
siy opcode b1 displacement imm = record { format = Siy; slots = opcode ∷ b1 ∷ 0 ∷ 0 ∷ 0 ∷ imm ∷ 0 ∷ 0 ∷ 0 ∷ displacement ∷ [] }

-- SIL: a base with a displacement of 12 bits, and the bits of an immediate of 16 bits
abbrev pub sil : (opcode b1 displacement bits : ℕ) → MachineInstruction
sil opcode b1 displacement bits = record { format = Sil; slots = opcode ∷ b1 ∷ 0 ∷ 0 ∷ 0 ∷ 0 ∷ 0 ∷ 0 ∷ bits ∷ displacement ∷ [] }

-- RIL-A: a register and the bits of an immediate of 32 bits
abbrev pub ril_a : (opcode r1 bits : ℕ) → MachineInstruction
ril_a opcode r1 bits = record { format = RilA; slots = opcode ∷ r1 ∷ 0 ∷ 0 ∷ 0 ∷ 0 ∷ 0 ∷ 0 ∷ bits ∷ 0 ∷ [] }

-- RIL-B: a register and half of a distance, modulo 2 ^ 32, in the immediate's slot
abbrev pub ril_b : (opcode r1 half : ℕ) → MachineInstruction
ril_b opcode r1 half = record { format = RilB; slots = opcode ∷ r1 ∷ 0 ∷ 0 ∷ 0 ∷ 0 ∷ 0 ∷ 0 ∷ half ∷ 0 ∷ [] }

-- RIL-C: a mask and half of a distance, as in RIL-B
abbrev pub ril_c : (opcode m1 half : ℕ) → MachineInstruction
ril_c opcode m1 half = record { format = RilC; slots = opcode ∷ 0 ∷ 0 ∷ 0 ∷ 0 ∷ m1 ∷ 0 ∷ 0 ∷ half ∷ 0 ∷ [] }

-- VRI-A: a vector register, the bits of an immediate of 16 bits, and a mask
abbrev pub vri_a : (opcode v1 bits m3 : ℕ) → MachineInstruction
vri_a opcode v1 bits m3 = record { format = VriA; slots = opcode ∷ v1 ∷ 0 ∷ 0 ∷ 0 ∷ m3 ∷ 0 ∷ 0 ∷ bits ∷ 0 ∷ [] }

-- VRI-B: a vector register, two immediates of 8 bits and a mask
abbrev pub vri_b : (opcode v1 i2 i3 m4 : ℕ) → MachineInstruction
vri_b opcode v1 i2 i3 m4 = record { format = VriB; slots = opcode ∷ v1 ∷ 0 ∷ 0 ∷ 0 ∷ i2 ∷ i3 ∷ m4 ∷ 0 ∷ 0 ∷ [] }

-- VRI-C: two vector registers, the bits of an immediate of 16 bits, and a mask
abbrev pub vri_c : (opcode v1 v3 bits m4 : ℕ) → MachineInstruction
vri_c opcode v1 v3 bits m4 = record { format = VriC; slots = opcode ∷ v1 ∷ v3 ∷ 0 ∷ 0 ∷ m4 ∷ 0 ∷ 0 ∷ bits ∷ 0 ∷ [] }

-- VRI-K: four vector registers and an immediate of 8 bits
abbrev pub vri_k : (opcode i5 v1 v2 v3 v4 : ℕ) → MachineInstruction
vri_k opcode i5 v1 v2 v3 v4 = record { format = VriK; slots = opcode ∷ v1 ∷ v2 ∷ v3 ∷ v4 ∷ i5 ∷ 0 ∷ 0 ∷ 0 ∷ 0 ∷ [] }

-- VRR-A: two vector registers and a mask
abbrev pub vrr_a : (opcode v1 v2 m3 : ℕ) → MachineInstruction
vrr_a opcode v1 v2 m3 = record { format = VrrA; slots = opcode ∷ v1 ∷ v2 ∷ 0 ∷ 0 ∷ m3 ∷ 0 ∷ 0 ∷ 0 ∷ 0 ∷ [] }

-- VRR-B: three vector registers and two masks
abbrev pub vrr_b : (opcode v1 v2 v3 m4 m5 : ℕ) → MachineInstruction
vrr_b opcode v1 v2 v3 m4 m5 = record { format = VrrB; slots = opcode ∷ v1 ∷ v2 ∷ v3 ∷ 0 ∷ m4 ∷ m5 ∷ 0 ∷ 0 ∷ 0 ∷ [] }

-- VRR-C: three vector registers and a mask
abbrev pub vrr_c : (opcode v1 v2 v3 m4 : ℕ) → MachineInstruction
vrr_c opcode v1 v2 v3 m4 = record { format = VrrC; slots = opcode ∷ v1 ∷ v2 ∷ v3 ∷ 0 ∷ m4 ∷ 0 ∷ 0 ∷ 0 ∷ 0 ∷ [] }

-- VRR-D: four vector registers and a mask
abbrev pub vrr_d : (opcode v1 v2 v3 v4 m5 : ℕ) → MachineInstruction
vrr_d opcode v1 v2 v3 v4 m5 = record { format = VrrD; slots = opcode ∷ v1 ∷ v2 ∷ v3 ∷ v4 ∷ m5 ∷ 0 ∷ 0 ∷ 0 ∷ 0 ∷ [] }

-- VRR-E: four vector registers
abbrev pub vrr_e : (opcode v1 v2 v3 v4 : ℕ) → MachineInstruction
vrr_e opcode v1 v2 v3 v4 = record { format = VrrE; slots = opcode ∷ v1 ∷ v2 ∷ v3 ∷ v4 ∷ 0 ∷ 0 ∷ 0 ∷ 0 ∷ 0 ∷ [] }

-- VRR-F: a vector register and two general ones
abbrev pub vrr_f : (opcode v1 r2 r3 : ℕ) → MachineInstruction
vrr_f opcode v1 r2 r3 = record { format = VrrF; slots = opcode ∷ v1 ∷ r2 ∷ r3 ∷ 0 ∷ 0 ∷ 0 ∷ 0 ∷ 0 ∷ 0 ∷ [] }

-- VRS-A: two vector registers, a base with a displacement of 12 bits, and a mask
abbrev pub vrs_a : (opcode v1 b2 v3 m4 displacement : ℕ) → MachineInstruction
vrs_a opcode v1 b2 v3 m4 displacement = record { format = VrsA; slots = opcode ∷ v1 ∷ b2 ∷ v3 ∷ 0 ∷ m4 ∷ 0 ∷ 0 ∷ 0 ∷ displacement ∷ [] }

-- VRS-B: a vector register, a general one, a base with a displacement of 12 bits, and a mask
abbrev pub vrs_b : (opcode v1 b2 r3 m4 displacement : ℕ) → MachineInstruction
vrs_b opcode v1 b2 r3 m4 displacement = record { format = VrsB; slots = opcode ∷ v1 ∷ b2 ∷ r3 ∷ 0 ∷ m4 ∷ 0 ∷ 0 ∷ 0 ∷ displacement ∷ [] }

-- VRS-C: a general register, a vector one, a base with a displacement of 12 bits, and a mask
abbrev pub vrs_c : (opcode r1 b2 v3 m4 displacement : ℕ) → MachineInstruction
vrs_c opcode r1 b2 v3 m4 displacement = record { format = VrsC; slots = opcode ∷ r1 ∷ b2 ∷ v3 ∷ 0 ∷ m4 ∷ 0 ∷ 0 ∷ 0 ∷ displacement ∷ [] }

-- VRX: a vector register, a base and an index with a displacement of 12 bits, and a mask
abbrev pub vrx : (opcode v1 b2 x2 m3 displacement : ℕ) → MachineInstruction
vrx opcode v1 b2 x2 m3 displacement = record { format = Vrx; slots = opcode ∷ v1 ∷ b2 ∷ x2 ∷ 0 ∷ m3 ∷ 0 ∷ 0 ∷ 0 ∷ displacement ∷ [] }
