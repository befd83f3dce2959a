-- A loop instruction whose members are those of a retry loop is one in the function's steps.
use Rattle.std.proofs.Common.{◌≡◌, ℕ, suc, ◌+◌, ◌<◌, ◌≤◌, List, [], ◌∷◌, ◌++◌, length, Some, Bool, true, false, ◌&&◌, ◌||◌, IsFalse, inl, inr, ◌⊎◌, refl, sym, ap, ◌∙◌, subst, arith, append_assoc, append-nil, length-append, slice_get, true≢false, Option, None}
use Rattle.std.proofs.lemmas.Bool.{and_parts, cases_lt}
use Rattle.s390x_base.specs.declared.regs.Reg.{Reg}
use Rattle.s390x_inst.specs.declared.args.MemArg.{MemArg}
use Rattle.s390x_inst.specs.declared.inst.Inst.{Inst}
use Rattle.s390x_inst.specs.declared.inst.Inst.TheVariants.{AtomicCas32, AtomicCas64, CondBreak}
use Rattle.s390x_typed_steps.specs.Folding.{folded_members, folded_before, next_block, folded_from, folded_trees}
use Rattle.s390x_typed_steps.specs.Rows.{LinkEnvironment}
use Rattle.s390x_typed_steps.specs.Steps.{Step, Plain, Opening, Back, step_count, step_of, steps_of, steps_from}
use Rattle.s390x_typed_steps.specs.Tree.{Tree, empty, leaf, loop_node, Whole}
use Rattle.s390x_typed_steps.proofs.Folding.{before_count}
use Rattle.s390x_operations.specs.Effects.{is_selected}
use Rattle.s390x_operations.specs.State.{CodeImage}
use Rattle.s390x_operations.specs.declared.stop.ConditionCode.TheVariants.{Code0}
use Rattle.s390x_machine.specs.Functions.{function_layout}
use Rattle.s390x_machine.specs.Layout.{Layout}
use Rattle.s390x_machine.proofs.Functions.{count_of}
use Rattle.s390x_interference.specs.Retry.{Retry, IsMember, swap_instruction}
use Rattle.s390x_interference.specs.Loops.{is_member, is_swap, is_empty, is_retry_body, Opens, OpensInBlocks, RetryAt}
use Rattle.s390x_interference.proofs.RegisterWork.{register_work}

-- ---- where it stands

-- these steps stand in a list from number n on
record StandFrom (steps : List Step) (n : ℕ) (here : List Step) : Type 0 where
  pub earlier : List Step
  pub later : List Step
  pub at : length earlier ≡ n
  pub is : steps ≡ earlier ++ (here ++ later)

got : (xs ys : List Step) (s : Step) → slice_get (xs ++ s ∷ ys) (length xs) ≡ Some s
got [] ys s = refl
got (x ∷ xs) ys s = got xs ys s

first_of : {steps : List Step} {n : ℕ} {s : Step} {here : List Step} → StandFrom steps n (s ∷ here) → slice_get steps n ≡ Some s
first_of {steps = steps} {n = n} {s = s} {here = here} x = subst (λ l. slice_get l n ≡ Some s) (sym x.is) (subst (λ k. slice_get (x.earlier ++ s ∷ (here ++ x.later)) k ≡ Some s) x.at (got x.earlier (here ++ x.later) s))

-- behind so many of them
behind : {steps : List Step} {n : ℕ} (front rest : List Step) → StandFrom steps n (front ++ rest) → StandFrom steps (n + length front) rest
behind front rest x = record {
  earlier = x.earlier ++ front;
  later = x.later;
  at = omega (arith, length-append x.earlier front, x.at);
  is = x.is ∙ ap (λ l. x.earlier ++ l) (append_assoc front rest x.later) ∙ sym (append_assoc x.earlier front (rest ++ x.later));
}

-- the first of them
front_of : {steps : List Step} {n : ℕ} (front rest : List Step) → StandFrom steps n (front ++ rest) → StandFrom steps n front
front_of front rest x = record { earlier = x.earlier; later = rest ++ x.later; at = x.at; is = x.is ∙ ap (λ l. x.earlier ++ l) (append_assoc front rest x.later) }

at_number : {steps : List Step} {n m : ℕ} {here : List Step} → n ≡ m → StandFrom steps n here → StandFrom steps m here
at_number {steps = steps} {here = here} e x = subst (λ k. StandFrom steps k here) e x

-- the steps of a loop
abbrev loop_steps : (n mask : ℕ) → Tree → List Step
loop_steps n mask members = Opening ∷ (steps_of (n + 1) (n + 2 + step_count members) members ++ Back mask (n + 1) ∷ [])

opens_in : {steps : List Step} (n mask : ℕ) (members : Tree) (k after : ℕ) (t : Tree) → Opens n mask members k t → StandFrom steps k (steps_of k after t) → StandFrom steps n (loop_steps n mask members)
opens_in n mask members k after empty o x = absurd o
opens_in n mask members k after (leaf b rest) o x = opens_in n mask members (k + 1) after rest o (behind (step_of after b ∷ []) (steps_of (k + 1) after rest) x)
opens_in {steps = steps} n mask members k after (loop_node mask' members' rest) (inl o) x =
    let more = steps_of (k + 2 + step_count members') after rest in
    let inner = steps_of (k + 1) (k + 2 + step_count members') members' in
    let e : Opening ∷ (inner ++ (Back mask' (k + 1) ∷ more)) ≡ loop_steps k mask' members' ++ more = ap (λ l. Opening ∷ l) (sym (append_assoc inner (Back mask' (k + 1) ∷ []) more)) in
    let y : StandFrom steps k (loop_steps k mask' members') = front_of (loop_steps k mask' members') more (subst (StandFrom steps k) e x) in
    subst (λ m. StandFrom steps n (loop_steps n mask m)) o.2 (subst (λ m. StandFrom steps n (loop_steps n m members')) o.1 (subst (λ j. StandFrom steps j (loop_steps j mask' members')) (sym o.0) y))
opens_in n mask members k after (loop_node mask' members' rest) (inr (inl o)) x =
    let more = steps_of (k + 2 + step_count members') after rest in
    let inner = steps_of (k + 1) (k + 2 + step_count members') members' in
    opens_in n mask members (k + 1) (k + 2 + step_count members') members' o (front_of inner (Back mask' (k + 1) ∷ more) (behind (Opening ∷ []) (inner ++ (Back mask' (k + 1) ∷ more)) x))
opens_in n mask members k after (loop_node mask' members' rest) (inr (inr o)) x =
    let more = steps_of (k + 2 + step_count members') after rest in
    let inner = steps_of (k + 1) (k + 2 + step_count members') members' in
    let y = behind inner (Back mask' (k + 1) ∷ more) (behind (Opening ∷ []) (inner ++ (Back mask' (k + 1) ∷ more)) x) in
    let z = behind (Back mask' (k + 1) ∷ []) more y in
    let e : k + 1 + length inner + 1 ≡ k + 2 + step_count members' = omega (arith, count_of (k + 1) (k + 2 + step_count members') members') in
    opens_in n mask members (k + 2 + step_count members') after rest o (at_number e z)

opens_in_blocks : {steps : List Step} (n mask : ℕ) (members : Tree) (k : ℕ) (ts : List Tree) → OpensInBlocks n mask members k ts → StandFrom steps k (steps_from k ts) → StandFrom steps n (loop_steps n mask members)
opens_in_blocks n mask members k [] o x = absurd o
opens_in_blocks n mask members k (t ∷ ts) (inl o) x = opens_in n mask members k 0 t o (front_of (steps_of k 0 t) (steps_from (k + step_count t) ts) x)
opens_in_blocks n mask members k (t ∷ ts) (inr o) x =
    opens_in_blocks n mask members (k + step_count t) ts o (at_number (ap (λ m. k + m) (count_of k 0 t)) (behind (steps_of k 0 t) (steps_from (k + step_count t) ts) x))

-- ---- its members

member_is : (L : Layout) (end : ℕ) (i : Inst) → is_member i ≡ true → IsMember L end (step_of end (Whole i))
member_is L end (CondBreak mask) h = refl
member_is L end i h = register_work L i h

record Body (L : Layout) (k end : ℕ) : Type 0 where
  pub swap : ℕ
  pub from : k ≤ swap
  pub wide : Bool
  pub rd : Reg
  pub ri : Reg
  pub rn : Reg
  pub operand : MemArg
  pub swaps : slice_get L.steps swap ≡ Some (Plain (swap_instruction wide rd ri rn operand))
  pub members : (j : ℕ) → k ≤ j → j < swap → (s : Step) × (slice_get L.steps j ≡ Some s) × IsMember L end s

one_more : (L : Layout) (k end : ℕ) (i : Inst) (rest : Tree) → slice_get L.steps k ≡ Some (step_of end (Whole i)) → IsMember L end (step_of end (Whole i)) → (b : Body L (k + 1) end) → (x : Body L k end) × (x.swap ≡ b.swap)
one_more L k end i rest here member b = (
  record {
    swap = b.swap;
    from = omega (arith, b.from);
    wide = b.wide;
    rd = b.rd;
    ri = b.ri;
    rn = b.rn;
    operand = b.operand;
    swaps = b.swaps;
    members = λ j le lt. here_or j le lt (cases_lt k j);
  },
  refl,
)
  where
    here_or : (j : ℕ) → k ≤ j → j < b.swap → (k < j) ⊎ (j ≤ k) → (s : Step) × (slice_get L.steps j ≡ Some s) × IsMember L end s
    here_or j le lt (inl more) = b.members j (omega (arith, more)) lt
    here_or j le lt (inr less) = let same : k ≡ j = omega (arith, le, less) in (step_of end (Whole i), subst (λ n. slice_get L.steps n ≡ Some (step_of end (Whole i))) same here, member)

record SwapInst (i : Inst) : Type 0 where
  pub wide : Bool
  pub rd : Reg
  pub ri : Reg
  pub rn : Reg
  pub operand : MemArg
  pub is : i ≡ swap_instruction wide rd ri rn operand

swap_inst : (i : Inst) → is_swap i ≡ true → SwapInst i
swap_inst (AtomicCas32 rd ri rn mem) h = record { wide = false; rd = rd; ri = ri; rn = rn; operand = mem; is = refl }
swap_inst (AtomicCas64 rd ri rn mem) h = record { wide = true; rd = rd; ri = ri; rn = rn; operand = mem; is = refl }
swap_inst _ h = absurd (true≢false (sym h))

plain_swap : (end : ℕ) (wide : Bool) (rd ri rn : Reg) (mem : MemArg) → step_of end (Whole (swap_instruction wide rd ri rn mem)) ≡ Plain (swap_instruction wide rd ri rn mem)
plain_swap end true rd ri rn mem = refl
plain_swap end false rd ri rn mem = refl

no_steps : (t : Tree) → is_empty t ≡ true → step_count t ≡ 0
no_steps empty h = refl
no_steps (leaf b rest) h = absurd (true≢false (sym h))
no_steps (loop_node mask members rest) h = absurd (true≢false (sym h))

either : (a b : Bool) → (a || b) ≡ true → (a ≡ true) ⊎ (b ≡ true)
either true b h = inl refl
either false b h = inr h

last_member : (L : Layout) (k end : ℕ) (i : Inst) → slice_get L.steps k ≡ Some (step_of end (Whole i)) → SwapInst i → (x : Body L k end) × (x.swap ≡ k)
last_member L k end i here s = (
  record {
    swap = k;
    from = omega arith;
    wide = s.wide;
    rd = s.rd;
    ri = s.ri;
    rn = s.rn;
    operand = s.operand;
    swaps = here ∙ ap (λ x. Some (step_of end (Whole x))) s.is ∙ ap Some (plain_swap end s.wide s.rd s.ri s.rn s.operand);
    members = λ j le lt. absurd (omega (arith, le, lt));
  },
  refl,
)

leaf_body : (L : Layout) (k end : ℕ) (i : Inst) (rest : Tree) → slice_get L.steps k ≡ Some (step_of end (Whole i)) → (is_retry_body rest ≡ true → (b : Body L (k + 1) end) × (b.swap + 1 ≡ k + 1 + step_count rest)) →
    ((is_swap i && is_empty rest) ≡ true) ⊎ ((is_member i && is_retry_body rest) ≡ true) → (b : Body L k end) × (b.swap + 1 ≡ k + step_count (leaf (Whole i) rest))
leaf_body L k end i rest here others (inl e) =
    let p = and_parts (is_swap i) (is_empty rest) e in
    let b = last_member L k end i here (swap_inst i p.0) in
    (b.0, omega (arith, b.1, no_steps rest p.1))
leaf_body L k end i rest here others (inr e) =
    let p = and_parts (is_member i) (is_retry_body rest) e in
    let more = others p.1 in
    let b = one_more L k end i rest here (member_is L end i p.0) more.0 in
    (b.0, omega (arith, b.1, more.1))

-- the members of a retry loop, and that the swap is the last one
body_of : (L : Layout) (t : Tree) (k end : ℕ) → is_retry_body t ≡ true → StandFrom L.steps k (steps_of k end t) → (b : Body L k end) × (b.swap + 1 ≡ k + step_count t)
body_of L (leaf (Whole i) rest) k end h x =
    leaf_body L k end i rest (first_of x) (λ e. body_of L rest (k + 1) end e (behind (step_of end (Whole i) ∷ []) (steps_of (k + 1) end rest) x)) (either (is_swap i && is_empty rest) (is_member i && is_retry_body rest) h)
body_of L (leaf b rest) k end h x = absurd (true≢false (sym h))
body_of L t k end h x = absurd (true≢false (sym h))

-- a loop of them is a retry loop
retry_of : (L : Layout) (n mask : ℕ) (members : Tree) → StandFrom L.steps n (loop_steps n mask members) → is_retry_body members ≡ true → IsFalse (is_selected mask Code0) → (R : Retry L) × (R.opening ≡ n) × (R.mask ≡ mask)
retry_of L n mask members x body retries =
    let end = n + 2 + step_count members in
    let inner = steps_of (n + 1) end members in
    let y = behind (Opening ∷ []) (inner ++ Back mask (n + 1) ∷ []) x in
    let z = behind inner (Back mask (n + 1) ∷ []) y in
    let b = body_of L members (n + 1) end body (front_of inner (Back mask (n + 1) ∷ []) y) in
    let s = b.0.swap in
    let next : n + 1 + length inner ≡ suc s = omega (arith, count_of (n + 1) end members, b.1) in
    let after : end ≡ suc (suc s) = omega (arith, b.1) in
    let one : n + 1 ≡ suc n = omega arith in (
      record {
        opening = n;
        swap = s;
        wide = b.0.wide;
        rd = b.0.rd;
        ri = b.0.ri;
        rn = b.0.rn;
        operand = b.0.operand;
        mask = mask;
        opens = first_of x;
        order = omega (arith, b.0.from);
        members = λ k above below. subst (λ e. (s' : Step) × (slice_get L.steps k ≡ Some s') × IsMember L e s') after (b.0.members k (omega (arith, above)) below);
        swaps = b.0.swaps;
        back = subst (λ k. slice_get L.steps k ≡ Some (Back mask (suc n))) next (first_of z ∙ ap (λ j. Some (Back mask j)) one);
        retries = retries;
      },
      refl,
      refl,
    )

whole : (steps : List Step) → StandFrom steps 0 steps
whole steps = record { earlier = []; later = []; at = refl; is = sym (append-nil steps) }

pub retry_in : (environment : LinkEnvironment) (ts : List Tree) (image : CodeImage) (n : ℕ) (r : RetryAt ts n) → (R : Retry (function_layout environment ts image)) × (R.opening ≡ n) × (R.mask ≡ r.mask)
retry_in environment ts image n r =
    retry_of (function_layout environment ts image) n r.mask r.members (opens_in_blocks n r.mask r.members 0 ts r.opens (whole (steps_from 0 ts))) r.body r.retries

-- ---- the end of a block folds no loop, and moves none

after_last : (n mask : ℕ) (members : Tree) (k next : ℕ) (t : Tree) → Opens n mask members k t → Opens n mask members k (folded_members next t)
after_last n mask members k next empty h = h
after_last n mask members k next (leaf b empty) h = h
after_last n mask members k next (leaf b (leaf c rest)) h = after_last n mask members (k + 1) next (leaf c rest) h
after_last n mask members k next (leaf b (loop_node m inner rest)) h = after_last n mask members (k + 1) next (loop_node m inner rest) h
after_last n mask members k next (loop_node m inner rest) (inl here) = inl here
after_last n mask members k next (loop_node m inner rest) (inr (inl inside)) = inr (inl inside)
after_last n mask members k next (loop_node m inner rest) (inr (inr behind)) = inr (inr (after_last n mask members (k + 2 + step_count inner) next rest behind))

after_end : (n mask : ℕ) (members : Tree) (k : ℕ) (next : Option ℕ) (t : Tree) → Opens n mask members k t → Opens n mask members k (folded_before next t)
after_end n mask members k None t h = h
after_end n mask members k (Some next) t h = after_last n mask members k next t h

after_ends : (n mask : ℕ) (members : Tree) (k b : ℕ) (ts : List Tree) → OpensInBlocks n mask members k ts → OpensInBlocks n mask members k (folded_from b ts)
after_ends n mask members k b [] h = h
after_ends n mask members k b (t ∷ ts) (inl here) = inl (after_end n mask members k (next_block b ts) t here)
after_ends n mask members k b (t ∷ ts) (inr later) =
    inr (subst (λ m. OpensInBlocks n mask members (k + m) (folded_from (b + 1) ts)) (sym (before_count (next_block b ts) t)) (after_ends n mask members (k + step_count t) (b + 1) ts later))

pub folded_retry : (ts : List Tree) (n : ℕ) → RetryAt ts n → RetryAt (folded_trees ts) n
folded_retry ts n r = record { mask = r.mask; members = r.members; opens = after_ends n r.mask r.members 0 0 ts r.opens; body = r.body; retries = r.retries }
