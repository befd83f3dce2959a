use Rattle.std.proofs.Common.{rules, [], ◌∷◌, ◌&&◌, sym, ap, ◌∙◌}
use Rattle.s390x_base.specs.Regs.{number_of}
use Rattle.s390x_enc.specs.Operands.{is_general_class, may_stand_first}
use Rattle.s390x_format.specs.declared.kind.FormatKind.TheVariants.{Rx, Rxy, Rs, Rsy, Si, Siy, Sil}
use Rattle.s390x_format.specs.Reading.{encode}
use Rattle.s390x_format.specs.Encoded.{slots}
use Rattle.s390x_typed_steps.specs.General.{low_halfword}
use Rattle.s390x_typed_steps.specs.MachineInstruction.{bytes_of}
use Rattle.s390x_address.specs.Rows.{row_of, row_encodes}
use Rattle.s390x_address.proofs.Encoding.{matched, halfword_bits}
use Rattle.s390x_address.proofs.rows.StorageRow.code.Goals as goal

pub returns-in-Rx : goal.returns-in-Rx
returns-in-Rx c =
    let i = c.in-Rx in
    matched _ _ _ _ c.enc_rx.result c.enc_rx.ensures
    (λ code p. p.1.bytes_are
    ∙ ap (λ o. encode Rx (slots o (number_of i.r1 ∷ number_of i.b2 ∷ number_of i.x2 ∷ []) [] 0 c.low_12.result)) c.from.ensures
    ∙ ap (λ d. encode Rx (slots i.opcode (number_of i.r1 ∷ number_of i.b2 ∷ number_of i.x2 ∷ []) [] 0 d)) c.low_12.ensures.value
    ∙ ap (λ row. bytes_of (row_of row)) (sym i.is))
    (λ e p. ap row_encodes i.is ∙ ap (λ o. may_stand_first o i.r1 && is_general_class i.b2 && is_general_class i.x2) (sym c.from.ensures) ∙ p.1)

pub returns-in-Rxy : goal.returns-in-Rxy
returns-in-Rxy c =
    let i = c.in-Rxy in
    matched _ _ _ _ c.enc_rxy.result c.enc_rxy.ensures
    (λ code p. p.1.bytes_are
    ∙ ap (λ d. encode Rxy (slots i.opcode (number_of i.r1 ∷ number_of i.b2 ∷ number_of i.x2 ∷ []) [] 0 d)) c.low_displacement.ensures.value
    ∙ ap (λ row. bytes_of (row_of row)) (sym i.is))
    (λ e p. ap row_encodes i.is ∙ p.1)

pub returns-in-Rs : goal.returns-in-Rs
returns-in-Rs c =
    let i = c.in-Rs in
    matched _ _ _ _ c.enc_rs.result c.enc_rs.ensures
    (λ code p. p.1.bytes_are
    ∙ ap (λ o. encode Rs (slots o (number_of i.r1 ∷ number_of i.r3 ∷ number_of i.b2 ∷ []) [] 0 c.low_12-in-Rs.result)) c.from-in-Rs.ensures
    ∙ ap (λ d. encode Rs (slots i.opcode (number_of i.r1 ∷ number_of i.r3 ∷ number_of i.b2 ∷ []) [] 0 d)) c.low_12-in-Rs.ensures.value
    ∙ ap (λ row. bytes_of (row_of row)) (sym i.is))
    (λ e p. ap row_encodes i.is ∙ p.1)

pub returns-in-Rsy : goal.returns-in-Rsy
returns-in-Rsy c =
    let i = c.in-Rsy in
    matched _ _ _ _ c.enc_rsy.result c.enc_rsy.ensures
    (λ code p. p.1.bytes_are
    ∙ ap (λ d. encode Rsy (slots i.opcode (number_of i.r1 ∷ number_of i.r3 ∷ number_of i.b2 ∷ []) [] 0 d)) c.low_displacement-in-Rsy.ensures.value
    ∙ ap (λ row. bytes_of (row_of row)) (sym i.is))
    (λ e p. ap row_encodes i.is ∙ p.1)

pub returns-in-Si : goal.returns-in-Si
returns-in-Si c =
    let i = c.in-Si in
    matched _ _ _ _ c.enc_si.result c.enc_si.ensures
    (λ code p. p.1.bytes_are
    ∙ ap (λ o. encode Si (slots o (number_of i.b1 ∷ []) (i.imm ∷ []) 0 c.low_12-in-Si.result)) c.from-in-Si.ensures
    ∙ ap (λ d. encode Si (slots i.opcode (number_of i.b1 ∷ []) (i.imm ∷ []) 0 d)) c.low_12-in-Si.ensures.value
    ∙ ap (λ row. bytes_of (row_of row)) (sym i.is))
    (λ e p. ap row_encodes i.is ∙ p.1)

pub returns-in-Siy : goal.returns-in-Siy
returns-in-Siy c =
    let i = c.in-Siy in
    matched _ _ _ _ c.enc_siy.result c.enc_siy.ensures
    (λ code p. p.1.bytes_are
    ∙ ap (λ d. encode Siy (slots i.opcode (number_of i.b1 ∷ []) (i.imm ∷ []) 0 d)) c.low_displacement-in-Siy.ensures.value
    ∙ ap (λ row. bytes_of (row_of row)) (sym i.is))
    (λ e p. ap row_encodes i.is ∙ p.1)

pub returns-in-Sil : goal.returns-in-Sil
returns-in-Sil c =
    let i = c.in-Sil in
    matched _ _ _ _ c.enc_sil.result c.enc_sil.ensures
    (λ code p. p.1.bytes_are
    ∙ ap (λ n. encode Sil (slots i.opcode (number_of i.b1 ∷ []) [] n c.low_12-in-Sil.result)) (halfword_bits i.imm (search rules))
    ∙ ap (λ d. encode Sil (slots i.opcode (number_of i.b1 ∷ []) [] (low_halfword i.imm) d)) c.low_12-in-Sil.ensures.value
    ∙ ap (λ row. bytes_of (row_of row)) (sym i.is))
    (λ e p. ap row_encodes i.is ∙ p.1)

pub returns-in-Vrx : goal.returns-in-Vrx
returns-in-Vrx c =
    let i = c.in-Vrx in
    matched _ _ _ _ c.masked_code.result c.masked_code.ensures (λ code p. p ∙ ap (λ row. bytes_of (row_of row)) (sym i.is)) (λ e p. ap row_encodes i.is ∙ p)
