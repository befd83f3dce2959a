-- Each format's layout, its length, and where its opcode stands (Principles of Operation, chapter 5, "Instruction formats").
use Rattle.std.specs.Prelude.{ℕ, List}
use Rattle.s390x_format.specs.declared.layouts.Part.{Part}
use Rattle.s390x_format.specs.declared.kind.FormatKind.{FormatKind}
use Rattle.s390x_format.specs.declared.kind.FormatKind.TheVariants.{E, RiA, RiB, RiC, RieA, RieD, RieF, RieG, RilA, RilB, RilC, Rr, Rre, RrfAb, RrfCde, Rs, Rsy, Rx, Rxy, Si, Sil, Siy, VriA, VriB, VriC, VriK, VrrA, VrrB, VrrC, VrrD, VrrE, VrrF, VrsA, VrsB, VrsC, Vrx}
use Rattle.s390x_format.specs.declared.kind.TheConstants.{E_PARTS, RI_A_PARTS, RI_B_PARTS, RI_C_PARTS, RIE_A_PARTS, RIE_D_PARTS, RIE_F_PARTS, RIE_G_PARTS, RIL_A_PARTS, RIL_B_PARTS, RIL_C_PARTS, RR_PARTS, RRE_PARTS, RRF_AB_PARTS, RRF_CDE_PARTS, RS_PARTS, RSY_PARTS, RX_PARTS, RXY_PARTS, SI_PARTS}
use Rattle.s390x_format.specs.declared.kind.TheConstants.{SIL_PARTS, SIY_PARTS, VRI_A_PARTS, VRI_B_PARTS, VRI_C_PARTS, VRI_K_PARTS, VRR_A_PARTS, VRR_B_PARTS, VRR_C_PARTS, VRR_D_PARTS, VRR_E_PARTS, VRR_F_PARTS, VRS_A_PARTS, VRS_B_PARTS, VRS_C_PARTS, VRX_PARTS}
use Rattle.s390x_format.specs.declared.index.RestPlace.{RestPlace}
use Rattle.s390x_format.specs.declared.index.RestPlace.TheVariants.{Nowhere, LowHalf, SecondByte, LastByte}

-- the parts, most significant first
unfoldable pub layout_of : FormatKind → List Part
layout_of E = E_PARTS
layout_of RiA = RI_A_PARTS
layout_of RiB = RI_B_PARTS
layout_of RiC = RI_C_PARTS
layout_of RieA = RIE_A_PARTS
layout_of RieD = RIE_D_PARTS
layout_of RieF = RIE_F_PARTS
layout_of RieG = RIE_G_PARTS
layout_of RilA = RIL_A_PARTS
layout_of RilB = RIL_B_PARTS
layout_of RilC = RIL_C_PARTS
layout_of Rr = RR_PARTS
layout_of Rre = RRE_PARTS
layout_of RrfAb = RRF_AB_PARTS
layout_of RrfCde = RRF_CDE_PARTS
layout_of Rs = RS_PARTS
layout_of Rsy = RSY_PARTS
layout_of Rx = RX_PARTS
layout_of Rxy = RXY_PARTS
layout_of Si = SI_PARTS
layout_of Sil = SIL_PARTS
layout_of Siy = SIY_PARTS
layout_of VriA = VRI_A_PARTS
layout_of VriB = VRI_B_PARTS
layout_of VriC = VRI_C_PARTS
layout_of VriK = VRI_K_PARTS
layout_of VrrA = VRR_A_PARTS
layout_of VrrB = VRR_B_PARTS
layout_of VrrC = VRR_C_PARTS
layout_of VrrD = VRR_D_PARTS
layout_of VrrE = VRR_E_PARTS
layout_of VrrF = VRR_F_PARTS
layout_of VrsA = VRS_A_PARTS
layout_of VrsB = VRS_B_PARTS
layout_of VrsC = VRS_C_PARTS
layout_of Vrx = VRX_PARTS

-- where the opcode goes on after byte 0
unfoldable pub place_of : FormatKind → RestPlace
place_of E = SecondByte
place_of RiA = LowHalf
place_of RiB = LowHalf
place_of RiC = LowHalf
place_of RieA = LastByte
place_of RieD = LastByte
place_of RieF = LastByte
place_of RieG = LastByte
place_of RilA = LowHalf
place_of RilB = LowHalf
place_of RilC = LowHalf
place_of Rr = Nowhere
place_of Rre = SecondByte
place_of RrfAb = SecondByte
place_of RrfCde = SecondByte
place_of Rs = Nowhere
place_of Rsy = LastByte
place_of Rx = Nowhere
place_of Rxy = LastByte
place_of Si = Nowhere
place_of Sil = SecondByte
place_of Siy = LastByte
place_of VriA = LastByte
place_of VriB = LastByte
place_of VriC = LastByte
place_of VriK = LastByte
place_of VrrA = LastByte
place_of VrrB = LastByte
place_of VrrC = LastByte
place_of VrrD = LastByte
place_of VrrE = LastByte
place_of VrrF = LastByte
place_of VrsA = LastByte
place_of VrsB = LastByte
place_of VrsC = LastByte
place_of Vrx = LastByte

-- how many bytes an instruction has
unfoldable pub length_of : FormatKind → ℕ
length_of E = 2
length_of RiA = 4
length_of RiB = 4
length_of RiC = 4
length_of RieA = 6
length_of RieD = 6
length_of RieF = 6
length_of RieG = 6
length_of RilA = 6
length_of RilB = 6
length_of RilC = 6
length_of Rr = 2
length_of Rre = 4
length_of RrfAb = 4
length_of RrfCde = 4
length_of Rs = 4
length_of Rsy = 6
length_of Rx = 4
length_of Rxy = 6
length_of Si = 4
length_of Sil = 6
length_of Siy = 6
length_of VriA = 6
length_of VriB = 6
length_of VriC = 6
length_of VriK = 6
length_of VrrA = 6
length_of VrrB = 6
length_of VrrC = 6
length_of VrrD = 6
length_of VrrE = 6
length_of VrrF = 6
length_of VrsA = 6
length_of VrsB = 6
length_of VrsC = 6
length_of Vrx = 6
