-- What the maps of a tree's entries have, and how an insertion changes them.
use Rattle.std.proofs.Common.{◌≡◌, ℕ, cond, List, [], ◌∷◌, Some, refl, sym, ap, ◌∙◌}
use Rattle.std.specs.declared.cmp.Ordering.{Ordering}
use Rattle.std.specs.Ordering.{nat_cmp}
use Rattle.std.specs.Cmp.{IsTotalOrder, eq_by_cmp_equiv}
use Rattle.std.specs.Cmp.Lexicographic.{slice_cmp, nat_list_cmp_total}
use Rattle.std.proofs.lemmas.Cmp.{then_total, on_total}
use Rattle.std.specs.Map.{lookup}
use Rattle.std.specs.BTreeMap.{is_at}
use Rattle.std.specs.FinMap.{IsAntisymmetric, find, get, insert, from_entries, get-from_entries, get-insert, same_map}
use Rattle.std.proofs.lemmas.Map.Lookups.{exact_bytes, exact_pairs}
use Rattle.bin_routes.specs.Table.{bin_cmp, processor_cmp}

find_is : {K X : Type 0} (R : K → K → Ordering) (es : List (K × X)) (q : K) → find R q es ≡ lookup (is_at (R q)) es
find_is R [] q = refl
find_is R (e ∷ es) q = ap (cond (is_at (R q) e.0) (Some e.1)) (find_is R es q)

-- what the map that the entries make has at a key
pub get_is : {K X : Type 0} {R : K → K → Ordering} → IsTotalOrder R → (es : List (K × X)) (q : K) → get (from_entries {R = R} es) q ≡ lookup (is_at (R q)) es
get_is {R = R} total es q = get-from_entries total es q ∙ find_is R es q

-- entries that differ at one key make maps that differ there
pub inserted : {K X : Type 0} {R : K → K → Ordering} → IsTotalOrder R → IsAntisymmetric R → (es fs : List (K × X)) (k : K) (v : X) → ((q : K) → lookup (is_at (R q)) fs ≡ cond (is_at (R k) q) (Some v) (lookup (is_at (R q)) es)) → from_entries {R = R} fs ≡ insert (from_entries es) k v
inserted {R = R} total exact es fs k v h = same_map total exact _ _ (λ q.
    get_is total fs q ∙ h q ∙ ap (λ b. cond b (Some v) (lookup (is_at (R q)) es)) ((eq_by_cmp_equiv total).symm k q)
    ∙ sym (get-insert total (from_entries es) k v q ∙ ap (cond (is_at (R q) k) (Some v)) (get_is total es q)))

pub processors_total : IsTotalOrder processor_cmp
processors_total = then_total (on_total (λ (t : List ℕ × List ℕ). t.0) nat_list_cmp_total) (on_total (λ (t : List ℕ × List ℕ). t.1) nat_list_cmp_total)

pub exact_processors : IsAntisymmetric processor_cmp
exact_processors = exact_pairs (slice_cmp nat_cmp) (slice_cmp nat_cmp) exact_bytes exact_bytes

pub bins_total : IsTotalOrder bin_cmp
bins_total = nat_list_cmp_total

pub exact_bins : IsAntisymmetric bin_cmp
exact_bins = exact_bytes
