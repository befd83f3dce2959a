-- A table of symbols answers as the ordered map inside it does.
use Rattle.std.proofs.Common.{◌≡◌, ℕ, Some, cond, List, [], ◌∷◌, refl, ap, sym, ◌∙◌}
use Rattle.std.specs.Ordering.{nat_cmp, is_eq}
use Rattle.std.specs.Cmp.{nat_cmp_total, eq_by_cmp_equiv}
use Rattle.std.specs.Map.{lookup}
use Rattle.std.specs.BTreeMap.{is_at}
use Rattle.s390x_base.specs.declared.ir.ExternalName.{ExternalName}
use Rattle.s390x_image.specs.Symbols.{Symbols, with_address}
use Rattle.std.specs.FinMap.{get, insert, from_entries, find, get-insert, get-from_entries, same_map, nat_cmp-IsAntisymmetric}

find_is : (q : ℕ) (es : List (ℕ × ℕ)) → find nat_cmp q es ≡ lookup (is_at (nat_cmp q)) es
find_is q [] = refl
find_is q (e ∷ es) = ap (cond (is_eq (nat_cmp q e.0)) (Some e.1)) (find_is q es)

pub found : (es : List (ℕ × ℕ)) (q : ℕ) → get (from_entries {R = nat_cmp} es) q ≡ lookup (is_at (nat_cmp q)) es
found es q = get-from_entries nat_cmp_total es q ∙ find_is q es

pub inserted : (es fs : List (ℕ × ℕ)) (k v : ℕ) →
    ((q : ℕ) → lookup (is_at (nat_cmp q)) fs ≡ cond (is_at (nat_cmp k) q) (Some v) (lookup (is_at (nat_cmp q)) es)) →
    from_entries {R = nat_cmp} fs ≡ insert (from_entries es) k v
inserted es fs k v h =
    same_map nat_cmp_total nat_cmp-IsAntisymmetric (from_entries fs) (insert (from_entries es) k v)
    (λ q. found fs q ∙ h q
    ∙ ap (λ b. cond b (Some v) (lookup (is_at (nat_cmp q)) es)) ((eq_by_cmp_equiv nat_cmp_total).symm k q)
    ∙ ap (cond (is_eq (nat_cmp q k)) (Some v)) (sym (found es q))
    ∙ sym (get-insert nat_cmp_total (from_entries es) k v q))

pub table_with : (es fs : List (ℕ × ℕ)) (table : Symbols) (name : ExternalName) (address : ℕ) → from_entries es ≡ table →
    ((q : ℕ) → lookup (is_at (nat_cmp q)) fs ≡ cond (is_at (nat_cmp name.0) q) (Some address) (lookup (is_at (nat_cmp q)) es)) →
    from_entries {R = nat_cmp} fs ≡ with_address table name address
table_with es fs table name address e h =
    inserted es fs name.0 address h ∙ ap (λ (m : Symbols). with_address m name address) e
