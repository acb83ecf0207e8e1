-- The box stays, its type goes. Assumes `Logic`.
use Rattle.node_handle.proofs.Walking.{◌≡◌, List, [], ◌∷◌, ◌++◌, refl, sym, subst, Fn, Val, vptr, SProp, ent, emp, id⊢, ftrue, WpFn, fact, fact_i, tables, ‵, raw, ◌⊛◌, ◌$◌, ◌∵◌, !, qed, by, move, keep, drop, use0, split, fsplit, fjoin, suffices, agg, sub, whole, stop, fld, of_opd, no_more, and_then, returns, enter, alloc_all, pass_all, free_all, look_at, get, get_in, sets, RattleType, owns, block_ptr, types_at, nothing, alive, Stays, stay_dropped, walk_of, Goes-blank, Option, Some, ghosts, proved_at, leaves, plain}
use Rattle.node_handle.proofs.LooseValues.{both, loose_good, loose_out}
use Rattle.node_handle.proofs.PartValues.{part_val, part_own, part_made, part_typed, al}
use Rattle.node_handle.specs.contracts.hosted.Hosted.{the_row as service_row}
use Rattle.node_handle.specs.contracts.part.Part.from_loose.{ended, clauses}
use Rattle.node_handle.specs.contracts.part.Part.from_loose.Key.{name as #self}
use Rattle.node_handle.proofs.part.Part.from_loose.Statement.{statement}
use Rattle.node_handle.proofs.part.Part.from_loose.Code as code
use Rattle.node_handle.specs.contracts.loose.Loose as loose

pub from_loose_spec : {M : Type 1} → statement M
from_loose_spec 𝓤 𝓛 𝓜 𝓡 wired =
    let H = 𝓛.H in let c = clauses 𝓛 𝓜.mem 𝓡.returns in let fn : Fn = code.function in let R : RattleType = service_row in let Z : RattleType = al.row in let LZ = al.laws in
    let stays : Stays ended.signature.params ended.kept = (stay_dropped (plain (λ _. loose.the_row R Z ghosts)) ended.kept.0, tt) in
    let C = (tables 𝓤 H 𝓜 𝓡 𝓡.env).C in let Λ = (tables 𝓤 H 𝓜 𝓡 𝓡.env).Λ in
    proved_at 𝓛 ended stays c 𝓜 𝓡 (Goes-blank 𝓛 0 (plain (λ _. loose.the_row R Z ghosts)) ended.kept.0 (λ κs x f. tt), tt) #self fn (code.unfolded 𝓤 H 𝓜 𝓡 wired) (λ z are.
    let Post : Val → SProp 𝓤 = (walk_of 𝓛 ended stays c).post z in let v = z.0.3.0 in let some : Option R.Denot = Some v.value in let Run : List Val → SProp 𝓤 = λ ws. WpFn 𝓤 H C Λ fn ws Post in
    qed 𝓛 ((raw (alive 𝓛 ended.signature z.0.0 z.0.1) ⊛ ‵ (owns (types_at ended.signature.params z.0.0) z.0.3 z.0.4)) ∷ ‵ ftrue ∷ []) ∵ move ! (1 ∷ []) $ drop ! $ split ! $ move ! (1 ∷ []) $ fsplit ! $
    loose_out R Z LZ ghosts ! v z.0.4.0 (λ b o h e ws fits. let w : Val = both (vptr b o) h in
    suffices ! (Run (w ∷ [])) (subst (λ (us : List Val). ent 𝓤 (Run (w ∷ [])) (Run us)) (sym (λ i. ws i ++ [])) (id⊢ 𝓤 (Run (w ∷ [])))) $
    enter ! C Λ fn (w ∷ []) Post $ alloc_all ! (λ l. pass_all ! refl (loose_good R Z LZ ghosts b o h fits, tt) $
    sets ! (of_opd ! (get_in ! (fld ! refl (stop !)) (sub ! 0 refl (whole !)))) refl (tt, tt) $ sets ! (of_opd ! (get ! refl)) refl (tt, tt) $
    sets ! (agg ! (and_then ! (get ! refl) (no_more !))) refl (part_typed (block_ptr b o)) $
    returns ! (look_at ! 0 refl) $ free_all ! refl $
    -- [the box; the allocator; nothing; the tokens]
    use0 𝓛 (‵ (part_own (block_ptr b o) (part_val (block_ptr b o) ∷ []))) (part_made 𝓛 (block_ptr b o)) $ fjoin ! $
    use0 𝓛 (raw (fact 𝓤 (some ≡ some))) (fact_i 𝓤 (some ≡ some) (emp 𝓤) refl) $ nothing ! $ nothing ! $ fjoin ! $ keep ! (5 ∷ 0 ∷ 2 ∷ 1 ∷ []) $
    by ! (leaves 𝓛 ended stays c z (part_val (block_ptr b o)) (record { at = block_ptr b o; node = some }) (tt, tt) (tt, tt)))))
