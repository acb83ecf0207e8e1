-- The machine value of a part, what its value is where there is one, and that no thread has a key to it. Assumes nothing.
use Rattle.node_handle.proofs.Walking.{◌≡◌, List, [], ◌∷◌, ◌++◌, T, refl, sym, ◌∙◌, subst, lit<, Ura, ty_ptr, ty_struct, tcons, tnil, impl, dnil, Val, vstruct, vcons, vnil, of_list, ent, emp, Fml, Logic, sem, Ptr, RawPtr, block_ptr, null_ptr, ptr_val, shadow, makes_shadow, Struct, Good, Al, IsSome, Option, None, Some, ghosts, bare, full_share, Keyless, lone, RattleType, IsSend, part_keyless, frees}
use Rattle.std.specs.contracts.alloc.Global as heap_row
use Rattle.std.proofs.alloc.Global.TheLaws as heap_laws
use Rattle.node_handle.specs.Erased.{heap, owns}

abbrev pub part_val : Ptr → Val
part_val p = vstruct (vcons (ptr_val p) vnil)

abbrev pub part_own : Ptr → List Val → Fml
part_own p = (Struct (record { name = []; args = []; types = []; fields = RawPtr ∷ [] })).own_val (p, tt)

pub part_told : (p : Ptr) (vs : List Val) → shadow (part_own p vs) → vs ≡ part_val p ∷ []
part_told p vs s = s.1.0 ∙ (λ i. vstruct (of_list (s.1.1.0 i ++ [])) ∷ [])

pub part_made : {M : Type 1} {𝓤 : Ura M} (𝓛 : Logic 𝓤) (p : Ptr) → ent 𝓤 (emp 𝓤) (sem 𝓛 (part_own p (part_val p ∷ [])))
part_made 𝓛 p = makes_shadow 𝓛 (part_own p (part_val p ∷ [])) (λ _. (tt, (tt, tt))) ((ptr_val p ∷ [], tt), (refl, (refl, tt)))

pub part_typed : (p : Ptr) → Good (ty_struct [] (tcons ty_ptr tnil)) (part_val p)
part_typed (block_ptr b o) = (tt, (tt, tt))
part_typed null_ptr = (tt, (record { fits = lit< tt }, tt))

-- what the allocator is to the walks
abbrev pub al : Al
al = record { row = heap_row.the_row; laws = heap_laws.the_row_laws; g = ghosts; d = impl [] tnil dnil; drops = impl [] tnil dnil }

-- the value of an option that has one
pub had : {X : Type 0} (o : Option X) → IsSome o → (d : X) × (o ≡ Some d)
had None none = absurd (subst T (sym none) tt)
had (Some d) some = (d, refl)

-- what a part owns has no key where its value has none
pub keyless : (R : RattleType) → IsSend R → (p : Ptr) (held : Option R.Denot) → Keyless (owns R p held)
keyless R sends p None = tt
keyless R sends null_ptr (Some d) = (tt, frees.frees heap (bare (lone R.mir)) null_ptr)
keyless R sends (block_ptr b o) (Some d) = (part_keyless R sends full_share d b o, frees.frees heap (bare (lone R.mir)) (block_ptr b o))
