-- Instructions on a pair of registers.
use Rattle.std.proofs.Common.{◌≡◌, ℕ, true, ◌&&◌, List, [], ◌∷◌, drop, Option, Some, None, refl, sym, ap}
use Rattle.std.proofs.Common.{◌∙◌}
use Rattle.std.proofs.lemmas.Bool.{and_from}
use Rattle.s390x_base.specs.Registers.{general}
use Rattle.s390x_base.specs.Regs.{number_of}
use Rattle.s390x_base.specs.declared.regs.Reg.{Reg}
use Rattle.s390x_base.specs.declared.regs.Reg.TheVariants.{Real, Virtual}
use Rattle.s390x_base.specs.declared.regs.RegPair.{RegPair}
use Rattle.s390x_base.specs.declared.regs.WritableRegPair.{WritableRegPair}
use Rattle.s390x_inst.specs.declared.inst.Inst.{Inst}
use Rattle.s390x_operands.specs.declared.constraint.Reported.{Reported}
use Rattle.s390x_operands.specs.Requests.{items_of, reported_use, fixed_use, fixed_def}
use Rattle.s390x_assign.specs.Assignments.{operand_at, register_at, after, pair_at, dividend_at}
use Rattle.s390x_rows.specs.declared.opcodes.TheConstants as opcodes
use Rattle.s390x_typed_steps.specs.General.{is_general, is_even_pair, reuses, reuses_pair}
use Rattle.s390x_typed_steps.specs.MachineInstruction.{MachineInstruction, rrf_ab}
use Rattle.s390x_alloc_laws.specs.Allocatable.{IsNotBlamed, Place, refusal}
use Rattle.s390x_inst.specs.declared.inst.Inst.TheVariants.{SMulWide}
use Rattle.s390x_alloc_laws.proofs.Given.{and_passes, Gives, Next, used_given}
use Rattle.s390x_alloc_laws.proofs.Single.{IsSingle, single}

-- ---- pairs are fixed to %r2 and %r3

-- an operand that is fixed to a register is given it
record Placed (r : Reg) (n : ℕ) (all all' s s' : List Reg) (xs : List Reported) : Type 0 where
  placed : operand_at r s ≡ Real (general n)
  rest : Gives all all' (drop 1 s) (drop 1 s') xs

output_placed : (r : Reg) (n : ℕ) (xs : List (Option Reported)) (all all' s s' : List Reg) → Gives all all' s s' (items_of (fixed_def r n ∷ xs)) → Placed r n all all' s s' (items_of xs)
output_placed r n xs all all' [] s' g = absurd g.meet
output_placed r n xs all all' (q ∷ s) [] g = absurd g.possible
output_placed (Real p) n xs all all' (q ∷ s) (q' ∷ s') g = record { placed = g.meet.1.0; rest = record { meet = g.meet.1.1; spare = g.spare; possible = g.possible.1.1 } }
output_placed (Virtual m c) n xs all all' (q ∷ s) (q' ∷ s') g = record { placed = g.meet.1.0; rest = record { meet = g.meet.1.1; spare = g.spare.1; possible = g.possible.1.1 } }

input_placed : (r : Reg) (n : ℕ) (xs : List (Option Reported)) (all all' s s' : List Reg) → Gives all all' s s' (items_of (fixed_use r n ∷ xs)) → Placed r n all all' s s' (items_of xs)
input_placed r n xs all all' [] s' g = absurd g.meet
input_placed r n xs all all' (q ∷ s) [] g = absurd g.possible
input_placed (Real p) n xs all all' (q ∷ s) (q' ∷ s') g = record { placed = g.meet.1.0; rest = record { meet = g.meet.1.1; spare = g.spare; possible = g.possible.1.1 } }
input_placed (Virtual m c) n xs all all' (q ∷ s) (q' ∷ s') g = record { placed = g.meet.1.0; rest = record { meet = g.meet.1.1; spare = g.spare.1; possible = g.possible.1.1 } }

record PairPlaced (d : WritableRegPair) (all all' s s' : List Reg) (xs : List Reported) : Type 0 where
  even : is_even_pair (pair_at d s).hi (pair_at d s).lo ≡ true
  high : (pair_at d s).hi ≡ Real (general 2)
  low : (pair_at d s).lo ≡ Real (general 3)
  rest : Gives all all' (drop 1 (drop 1 s)) (drop 1 (drop 1 s')) xs

pair_placed : (d : WritableRegPair) (xs : List (Option Reported)) (all all' s s' : List Reg) → Gives all all' s s' (items_of (fixed_def d.hi 2 ∷ fixed_def d.lo 3 ∷ xs)) → PairPlaced d all all' s s' (items_of xs)
pair_placed d xs all all' s s' g =
    let h : Placed d.hi 2 all all' s s' (items_of (fixed_def d.lo 3 ∷ xs)) = output_placed d.hi 2 (fixed_def d.lo 3 ∷ xs) all all' s s' g in
    let l : Placed d.lo 3 all all' (drop 1 s) (drop 1 s') (items_of xs) = output_placed d.lo 3 xs all all' (drop 1 s) (drop 1 s') h.rest in
    record {
      even = ap (λ q. is_even_pair q (operand_at d.lo (drop 1 s))) h.placed ∙ ap (is_even_pair (Real (general 2))) l.placed;
      high = h.placed;
      low = l.placed;
      rest = l.rest;
    }

drop_two : (s : List Reg) → drop 1 (drop 1 s) ≡ drop 2 s
drop_two [] = refl
drop_two (q ∷ s) = refl

pub products : (P : Place) (d : WritableRegPair) (a b : Reg) (s s' : List Reg) → Gives s s' s s' (items_of (reported_use a ∷ reported_use b ∷ fixed_def d.hi 2 ∷ fixed_def d.lo 3 ∷ [])) → refusal P (SMulWide (pair_at d (after b (after a s'))) (register_at a s') (register_at b (after a s'))) ≡ None →
    IsNotBlamed (refusal P (SMulWide (pair_at d (after b (after a s))) (register_at a s) (register_at b (after a s))))
products P d a b s s' g h =
    let n : Next a s s' s s' (items_of (reported_use b ∷ fixed_def d.hi 2 ∷ fixed_def d.lo 3 ∷ [])) = used_given a (reported_use b ∷ fixed_def d.hi 2 ∷ fixed_def d.lo 3 ∷ []) s s' s s' g in
    let m : Next b s s' (after a s) (after a s') (items_of (fixed_def d.hi 2 ∷ fixed_def d.lo 3 ∷ [])) = used_given b (fixed_def d.hi 2 ∷ fixed_def d.lo 3 ∷ []) s s' (after a s) (after a s') n.rest in
    let t : List Reg = after b (after a s) in let t' : List Reg = after b (after a s') in
    let p : PairPlaced d s s' t t' [] = pair_placed d [] s s' t t' m.rest in
    let e : WritableRegPair = pair_at d t in let e' : WritableRegPair = pair_at d t' in
    let x : Reg = register_at a s in let x' : Reg = register_at a s' in
    let y : Reg = register_at b (after a s) in let y' : Reg = register_at b (after a s') in
    single P (SMulWide e x y) (SMulWide e' x' y') (is_even_pair e.hi e.lo && is_general x && is_general y) (is_even_pair e'.hi e'.lo && is_general x' && is_general y')
    (Some (rrf_ab opcodes.MGRK (number_of e.hi) (number_of x) (number_of y) 0)) (Some (rrf_ab opcodes.MGRK (number_of e'.hi) (number_of x') (number_of y') 0)) refl refl h
    (and_passes (is_even_pair e.hi e.lo && is_general x) (is_even_pair e'.hi e'.lo && is_general x') (is_general y) (is_general y') (and_passes (is_even_pair e.hi e.lo) (is_even_pair e'.hi e'.lo) (is_general x) (is_general x') (λ z. p.even) n.given.passes) m.given.passes)

-- a pair from one register
pub by_one : (P : Place) (mk : WritableRegPair → Reg → Inst) (row : WritableRegPair → Reg → Option MachineInstruction) → ((d : WritableRegPair) (a : Reg) → IsSingle P (mk d a) (is_even_pair d.hi d.lo && is_general a) (row d a)) → (d : WritableRegPair) (a : Reg) (s s' : List Reg) →
    Gives s s' s s' (items_of (reported_use a ∷ fixed_def d.hi 2 ∷ fixed_def d.lo 3 ∷ [])) → refusal P (mk (pair_at d (after a s')) (register_at a s')) ≡ None → IsNotBlamed (refusal P (mk (pair_at d (after a s)) (register_at a s)))
by_one P mk row is d a s s' g h =
    let n : Next a s s' s s' (items_of (fixed_def d.hi 2 ∷ fixed_def d.lo 3 ∷ [])) = used_given a (fixed_def d.hi 2 ∷ fixed_def d.lo 3 ∷ []) s s' s s' g in
    let p : PairPlaced d s s' (after a s) (after a s') [] = pair_placed d [] s s' (after a s) (after a s') n.rest in
    let e : WritableRegPair = pair_at d (after a s) in let e' : WritableRegPair = pair_at d (after a s') in
    let x : Reg = register_at a s in let x' : Reg = register_at a s' in
    single P (mk e x) (mk e' x') (is_even_pair e.hi e.lo && is_general x) (is_even_pair e'.hi e'.lo && is_general x') (row e x) (row e' x') (is e x) (is e' x') h
    (and_passes (is_even_pair e.hi e.lo) (is_even_pair e'.hi e'.lo) (is_general x) (is_general x') (λ z. p.even) n.given.passes)

-- from its low register and another one
pub by_low : (P : Place) (mk : WritableRegPair → Reg → Reg → Inst) (row : WritableRegPair → Reg → Reg → Option MachineInstruction) → ((d : WritableRegPair) (i a : Reg) → IsSingle P (mk d i a) (is_even_pair d.hi d.lo && reuses d.lo i && is_general a) (row d i a)) →
    (d : WritableRegPair) (i a : Reg) (s s' : List Reg) → Gives s s' s s' (items_of (reported_use a ∷ fixed_def d.hi 2 ∷ fixed_def d.lo 3 ∷ fixed_use i 3 ∷ [])) → refusal P (mk (pair_at d (after a s')) (operand_at i (drop 2 (after a s'))) (register_at a s')) ≡ None →
    IsNotBlamed (refusal P (mk (pair_at d (after a s)) (operand_at i (drop 2 (after a s))) (register_at a s)))
by_low P mk row is d i a s s' g h =
    let n : Next a s s' s s' (items_of (fixed_def d.hi 2 ∷ fixed_def d.lo 3 ∷ fixed_use i 3 ∷ [])) = used_given a (fixed_def d.hi 2 ∷ fixed_def d.lo 3 ∷ fixed_use i 3 ∷ []) s s' s s' g in
    let t : List Reg = after a s in let t' : List Reg = after a s' in
    let p : PairPlaced d s s' t t' (items_of (fixed_use i 3 ∷ [])) = pair_placed d (fixed_use i 3 ∷ []) s s' t t' n.rest in
    let l : Placed i 3 s s' (drop 1 (drop 1 t)) (drop 1 (drop 1 t')) [] = input_placed i 3 [] s s' (drop 1 (drop 1 t)) (drop 1 (drop 1 t')) p.rest in
    let e : WritableRegPair = pair_at d t in let e' : WritableRegPair = pair_at d t' in
    let x : Reg = register_at a s in let x' : Reg = register_at a s' in
    let y : Reg = operand_at i (drop 2 t) in let y' : Reg = operand_at i (drop 2 t') in
    let third : y ≡ Real (general 3) = ap (operand_at i) (sym (drop_two t)) ∙ l.placed in
    let same : reuses e.lo y ≡ true = ap (λ q. reuses q y) p.low ∙ ap (reuses (Real (general 3))) third in
    single P (mk e y x) (mk e' y' x') (is_even_pair e.hi e.lo && reuses e.lo y && is_general x) (is_even_pair e'.hi e'.lo && reuses e'.lo y' && is_general x') (row e y x) (row e' y' x') (is e y x) (is e' y' x') h
    (and_passes (is_even_pair e.hi e.lo && reuses e.lo y) (is_even_pair e'.hi e'.lo && reuses e'.lo y') (is_general x) (is_general x') (λ z. and_from (is_even_pair e.hi e.lo) (reuses e.lo y) p.even same) n.given.passes)

-- from a pair and another register
pub by_pair : (P : Place) (mk : WritableRegPair → RegPair → Reg → Inst) (row : WritableRegPair → RegPair → Reg → Option MachineInstruction) → ((d : WritableRegPair) (i : RegPair) (a : Reg) → IsSingle P (mk d i a) (is_even_pair d.hi d.lo && reuses_pair d i && is_general a) (row d i a)) →
    (d : WritableRegPair) (i : RegPair) (a : Reg) (s s' : List Reg) → Gives s s' s s' (items_of (reported_use a ∷ fixed_def d.hi 2 ∷ fixed_def d.lo 3 ∷ fixed_use i.hi 2 ∷ fixed_use i.lo 3 ∷ [])) → refusal P (mk (pair_at d (after a s')) (dividend_at i (drop 2 (after a s'))) (register_at a s')) ≡ None →
    IsNotBlamed (refusal P (mk (pair_at d (after a s)) (dividend_at i (drop 2 (after a s))) (register_at a s)))
by_pair P mk row is d i a s s' g h =
    let n : Next a s s' s s' (items_of (fixed_def d.hi 2 ∷ fixed_def d.lo 3 ∷ fixed_use i.hi 2 ∷ fixed_use i.lo 3 ∷ [])) = used_given a (fixed_def d.hi 2 ∷ fixed_def d.lo 3 ∷ fixed_use i.hi 2 ∷ fixed_use i.lo 3 ∷ []) s s' s s' g in
    let t : List Reg = after a s in let t' : List Reg = after a s' in
    let u : List Reg = drop 1 (drop 1 t) in let u' : List Reg = drop 1 (drop 1 t') in
    let p : PairPlaced d s s' t t' (items_of (fixed_use i.hi 2 ∷ fixed_use i.lo 3 ∷ [])) = pair_placed d (fixed_use i.hi 2 ∷ fixed_use i.lo 3 ∷ []) s s' t t' n.rest in
    let k : Placed i.hi 2 s s' u u' (items_of (fixed_use i.lo 3 ∷ [])) = input_placed i.hi 2 (fixed_use i.lo 3 ∷ []) s s' u u' p.rest in
    let l : Placed i.lo 3 s s' (drop 1 u) (drop 1 u') [] = input_placed i.lo 3 [] s s' (drop 1 u) (drop 1 u') k.rest in
    let e : WritableRegPair = pair_at d t in let e' : WritableRegPair = pair_at d t' in
    let x : Reg = register_at a s in let x' : Reg = register_at a s' in
    let y : RegPair = dividend_at i (drop 2 t) in let y' : RegPair = dividend_at i (drop 2 t') in
    let high : y.hi ≡ Real (general 2) = ap (operand_at i.hi) (sym (drop_two t)) ∙ k.placed in
    let low : y.lo ≡ Real (general 3) = ap (λ v. operand_at i.lo (drop 1 v)) (sym (drop_two t)) ∙ l.placed in
    let one : reuses e.hi y.hi ≡ true = ap (λ q. reuses q y.hi) p.high ∙ ap (reuses (Real (general 2))) high in
    let two : reuses e.lo y.lo ≡ true = ap (λ q. reuses q y.lo) p.low ∙ ap (reuses (Real (general 3))) low in
    single P (mk e y x) (mk e' y' x') (is_even_pair e.hi e.lo && reuses_pair e y && is_general x) (is_even_pair e'.hi e'.lo && reuses_pair e' y' && is_general x') (row e y x) (row e' y' x') (is e y x) (is e' y' x') h
    (and_passes (is_even_pair e.hi e.lo && reuses_pair e y) (is_even_pair e'.hi e'.lo && reuses_pair e' y') (is_general x) (is_general x') (λ z. and_from (is_even_pair e.hi e.lo) (reuses_pair e y) p.even (and_from (reuses e.hi y.hi) (reuses e.lo y.lo) one two)) n.given.passes)
