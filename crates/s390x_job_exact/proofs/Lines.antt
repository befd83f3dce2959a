-- Fields that are taken one after the other, until nothing is left, make a line.
use Rattle.std.proofs.Common.{◌≡◌, ℕ, List, [], ◌∷◌, ◌++◌, sym, ap, ◌∙◌, refl, subst, append_assoc, append-nil}
use Rattle.s390x_base.specs.declared.regs.Reg.{Reg}
use Rattle.s390x_inst.specs.declared.args.MemArg.{MemArg}
use Rattle.s390x_inst.specs.declared.inst.Inst.{Inst}
use Rattle.s390x_inst.specs.declared.load.LoadOp.{LoadOp}
use Rattle.s390x_inst.specs.declared.store.StoreOp.{StoreOp}
use Rattle.s390x_inst.specs.declared.vec_inst.VecInst.{VecInst}
use Rattle.s390x_inst.specs.declared.whole.Direction.{Direction}
use Rattle.s390x_inst.specs.declared.whole.WholeLayout.{WholeLayout}
use Rattle.s390x_inst.specs.Loads.{load_instruction}
use Rattle.s390x_inst.specs.Stores.{store_instruction}
use Rattle.s390x_inst.specs.Wholes.{whole_instruction}
use Rattle.s390x_job_fields.specs.Fields.{Field, FMemory, FReg, spell}
use Rattle.s390x_job_lines.specs.Line.{fields_text, AllFields, kinds_of}
use Rattle.s390x_job_lines.specs.Kinds.{kinds}
use Rattle.s390x_job_lines.specs.Instructions.{inst_line, vector_line}
use Rattle.s390x_job_lines.specs.declared.name.LineName.{LineName}
use Rattle.s390x_job_lines.specs.declared.name.LineName.TheVariants as N
use Rattle.s390x_job_lines.proofs.AccessLines.{is_load_line, is_store_line, is_whole_line}
use Rattle.s390x_job_exact.specs.Exact.{Takes, TakesAll, AreFields}

none : (s : List ℕ) → TakesAll [] s s
none s = record { in_range = tt; taken = refl }

more : (f : Field) (fs : List Field) (s t u : List ℕ) → Takes f s t → TakesAll fs t u → TakesAll (f ∷ fs) s u
more f fs s t u h k = record {
  in_range = (h.in_range, k.in_range);
  taken = h.taken ∙ ap (λ x. spell f ++ x) k.taken ∙ sym (append_assoc (spell f) (fields_text fs) u);
}

whole : (n : LineName) (fs : List Field) (s t : List ℕ) → kinds n ≡ kinds_of fs → TakesAll fs s t → t ≡ [] → AreFields n (record { name = n; fields = fs }) s
whole n fs s t k h e = record {
  name = refl;
  line = record { kinds_fit = k; fields_fit = h.in_range };
  text = h.taken ∙ ap (λ x. fields_text fs ++ x) e ∙ append-nil (fields_text fs);
}

pub zero : (n : LineName) (s : List ℕ) → kinds n ≡ kinds_of [] → s ≡ [] → AreFields n (record { name = n; fields = [] }) s
zero n s k e = whole n [] s s k (none s) e

pub one : (n : LineName) (a : Field) (s t : List ℕ) → kinds n ≡ kinds_of (a ∷ []) → Takes a s t → t ≡ [] → AreFields n (record { name = n; fields = a ∷ [] }) s
one n a s t k h end = whole n (a ∷ []) s t k (more a [] s t t h (none t)) end

pub two : (n : LineName) (a b : Field) (s t u : List ℕ) → kinds n ≡ kinds_of (a ∷ b ∷ []) → Takes a s t → Takes b t u → u ≡ [] → AreFields n (record { name = n; fields = a ∷ b ∷ [] }) s
two n a b s t u k h i end = whole n (a ∷ b ∷ []) s u k (more a (b ∷ []) s t u h (more b [] t u u i (none u))) end

pub three : (n : LineName) (a b c : Field) (s t u v : List ℕ) → kinds n ≡ kinds_of (a ∷ b ∷ c ∷ []) → Takes a s t → Takes b t u → Takes c u v → v ≡ [] → AreFields n (record { name = n; fields = a ∷ b ∷ c ∷ [] }) s
three n a b c s t u v k h i j end =
    whole n (a ∷ b ∷ c ∷ []) s v k (more a (b ∷ c ∷ []) s t v h (more b (c ∷ []) t u v i (more c [] u v v j (none v)))) end

pub four : (n : LineName) (a b c d : Field) (s t u v w : List ℕ) → kinds n ≡ kinds_of (a ∷ b ∷ c ∷ d ∷ []) → Takes a s t → Takes b t u → Takes c u v → Takes d v w → w ≡ [] → AreFields n (record { name = n; fields = a ∷ b ∷ c ∷ d ∷ [] }) s
four n a b c d s t u v w k h i j l end =
    whole n (a ∷ b ∷ c ∷ d ∷ []) s w k (more a (b ∷ c ∷ d ∷ []) s t w h (more b (c ∷ d ∷ []) t u w i (more c (d ∷ []) u v w j (more d [] v w w l (none w))))) end

pub five : (n : LineName) (a b c d e : Field) (s t u v w x : List ℕ) → kinds n ≡ kinds_of (a ∷ b ∷ c ∷ d ∷ e ∷ []) → Takes a s t → Takes b t u → Takes c u v → Takes d v w → Takes e w x → x ≡ [] → AreFields n (record { name = n; fields = a ∷ b ∷ c ∷ d ∷ e ∷ [] }) s
five n a b c d e s t u v w x k h i j l m end =
    whole n (a ∷ b ∷ c ∷ d ∷ e ∷ []) s x k (more a (b ∷ c ∷ d ∷ e ∷ []) s t x h (more b (c ∷ d ∷ e ∷ []) t u x i (more c (d ∷ e ∷ []) u v x j (more d (e ∷ []) v w x l (more e [] w x x m (none x)))))) end

pub load : (op : LoadOp) (rd : Reg) (mem : MemArg) (i : Inst) (s t u : List ℕ) → i ≡ load_instruction op rd mem → Takes (FReg rd) s t → Takes (FMemory mem) t u → u ≡ [] → AreFields (N.Load op) (inst_line i) s
load op rd mem i s t u e h k end =
    subst (λ l. AreFields (N.Load op) l s) (sym (ap inst_line e ∙ is_load_line op rd mem)) (two (N.Load op) (FReg rd) (FMemory mem) s t u refl h k end)

pub store : (op : StoreOp) (rd : Reg) (mem : MemArg) (i : Inst) (s t u : List ℕ) → i ≡ store_instruction op rd mem → Takes (FReg rd) s t → Takes (FMemory mem) t u → u ≡ [] → AreFields (N.Store op) (inst_line i) s
store op rd mem i s t u e h k end =
    subst (λ l. AreFields (N.Store op) l s) (sym (ap inst_line e ∙ is_store_line op rd mem)) (two (N.Store op) (FReg rd) (FMemory mem) s t u refl h k end)

pub whole_access : (direction : Direction) (layout : WholeLayout) (rd : Reg) (mem : MemArg) (v : VecInst) (s t u : List ℕ) → v ≡ whole_instruction direction layout rd mem → Takes (FReg rd) s t → Takes (FMemory mem) t u → u ≡ [] → AreFields (N.Whole direction layout) (vector_line v) s
whole_access direction layout rd mem v s t u e h k end =
    subst (λ l. AreFields (N.Whole direction layout) l s) (sym (ap vector_line e ∙ is_whole_line direction layout rd mem)) (two (N.Whole direction layout) (FReg rd) (FMemory mem) s t u refl h k end)

pub five_fields : (a b c d e : Field) (s t u v w x : List ℕ) → Takes a s t → Takes b t u → Takes c u v → Takes d v w → Takes e w x → TakesAll (a ∷ b ∷ c ∷ d ∷ e ∷ []) s x
five_fields a b c d e s t u v w x h i j l m =
    more a (b ∷ c ∷ d ∷ e ∷ []) s t x h (more b (c ∷ d ∷ e ∷ []) t u x i (more c (d ∷ e ∷ []) u v x j (more d (e ∷ []) v w x l (more e [] w x x m (none x)))))

pub six_fields : (a b c d e f : Field) (s t u v w x y : List ℕ) → Takes a s t → Takes b t u → Takes c u v → Takes d v w → Takes e w x → Takes f x y → TakesAll (a ∷ b ∷ c ∷ d ∷ e ∷ f ∷ []) s y
six_fields a b c d e f s t u v w x y h i j l m o =
    more a (b ∷ c ∷ d ∷ e ∷ f ∷ []) s t y h (five_fields b c d e f t u v w x y i j l m o)

all_fields : (fs gs : List Field) → AllFields fs → AllFields gs → AllFields (fs ++ gs)
all_fields [] gs h k = k
all_fields (f ∷ fs) gs h k = (h.0, all_fields fs gs h.1 k)

all_spelled : (fs gs : List Field) → fields_text (fs ++ gs) ≡ fields_text fs ++ fields_text gs
all_spelled [] gs = refl
all_spelled (f ∷ fs) gs =
    ap (λ x. spell f ++ x) (all_spelled fs gs) ∙ sym (append_assoc (spell f) (fields_text fs) (fields_text gs))

-- fields, and then others
both : (n : LineName) (fs gs : List Field) (s t u : List ℕ) → kinds n ≡ kinds_of (fs ++ gs) → TakesAll fs s t → TakesAll gs t u → u ≡ [] → AreFields n (record { name = n; fields = fs ++ gs }) s
both n fs gs s t u k h i end = whole n (fs ++ gs) s u k (record {
  in_range = all_fields fs gs h.in_range i.in_range;
  taken = h.taken ∙ ap (λ x. fields_text fs ++ x) i.taken ∙ sym (append_assoc (fields_text fs) (fields_text gs) u) ∙ ap (λ x. x ++ u) (sym (all_spelled fs gs));
}) end

pub eleven : (n : LineName) (a b c d e f g h i j k : Field) (s t u : List ℕ) → kinds n ≡ kinds_of (a ∷ b ∷ c ∷ d ∷ e ∷ f ∷ g ∷ h ∷ i ∷ j ∷ k ∷ []) → TakesAll (a ∷ b ∷ c ∷ d ∷ e ∷ []) s t → TakesAll (f ∷ g ∷ h ∷ i ∷ j ∷ k ∷ []) t u → u ≡ [] → AreFields n (record { name = n; fields = a ∷ b ∷ c ∷ d ∷ e ∷ f ∷ g ∷ h ∷ i ∷ j ∷ k ∷ [] }) s
eleven n a b c d e f g h i j k s t u m x y end =
    both n (a ∷ b ∷ c ∷ d ∷ e ∷ []) (f ∷ g ∷ h ∷ i ∷ j ∷ k ∷ []) s t u m x y end
