-- The box has its type again. Assumes `Logic`.
use Rattle.node_handle.proofs.Walking.{◌≡◌, List, [], ◌∷◌, ◌++◌, refl, sym, ap, ◌∙◌, subst, Fn, bare, Val, vptr, SProp, ent, emp, never, id⊢, fst∗, WpFn, fact, fact_i, tables, sem, ‵, raw, ◌⊛◌, ◌$◌, ◌∵◌, !, qed, by, move, keep, drop, use0, split, fsplit, fsplit3, fjoin, rewrite, suffices, agg, sub, whole, stop, fld, of_opd, no_more, and_then, returns, enter, alloc_all, pass_all, free_all, look_at, get, get_in, sets, lone, RattleType, owns, Ptr, block_ptr, null_ptr, in_a_block, plain, types_at, nothing, heard, alive, Stays, stay_dropped, walk_of, Goes-blank, handle_tells, IsSome, Option, Some, ghosts, proved_at, leaves, box_owns}
use Rattle.node_handle.proofs.LooseValues.{both, loose_good, loose_in}
use Rattle.node_handle.specs.Erased.{heap, owns as part_owns}
use Rattle.node_handle.proofs.PartValues.{part_val, part_told, part_typed, al, had}
use Rattle.node_handle.specs.contracts.hosted.Hosted.{the_row as service_row}
use Rattle.node_handle.specs.contracts.part.Part as part
use Rattle.node_handle.specs.contracts.part.Part.into_loose.{ended, clauses}
use Rattle.node_handle.specs.contracts.part.Part.into_loose.Key.{name as #self}
use Rattle.node_handle.proofs.part.Part.into_loose.Statement.{statement}
use Rattle.node_handle.proofs.part.Part.into_loose.Code as code

pub into_loose_spec : {M : Type 1} → statement M
into_loose_spec 𝓤 𝓛 𝓜 𝓡 wired =
    let H = 𝓛.H in let c = clauses 𝓛 𝓜.mem 𝓡.returns in let fn : Fn = code.function in let R : RattleType = service_row in let Z : RattleType = al.row in let LZ = al.laws in
    let stays : Stays ended.signature.params ended.kept = (stay_dropped (plain (λ _. part.the_row)) ended.kept.0, (stay_dropped (plain (λ _. Z)) ended.kept.1.0, tt)) in
    let C = (tables 𝓤 H 𝓜 𝓡 𝓡.env).C in let Λ = (tables 𝓤 H 𝓜 𝓡 𝓡.env).Λ in
    proved_at 𝓛 ended stays c 𝓜 𝓡 (Goes-blank 𝓛 0 (plain (λ _. part.the_row)) ended.kept.0 (λ κs x f. tt), (Goes-blank 𝓛 0 (plain (λ _. Z)) ended.kept.1.0 (λ κs x f. tt), tt)) #self fn (code.unfolded 𝓤 H 𝓜 𝓡 wired) (λ z are.
    let Post : Val → SProp 𝓤 = (walk_of 𝓛 ended stays c).post z in let x = z.0.3.0 in let a = z.0.3.1.0 in let Run : List Val → SProp 𝓤 = λ ws. WpFn 𝓤 H C Λ fn ws Post in
    let told = part_told x.at z.0.4.0 are.0.0 in
    qed 𝓛 ((raw (alive 𝓛 ended.signature z.0.0 z.0.1) ⊛ ‵ (owns (types_at ended.signature.params z.0.0) z.0.3 z.0.4)) ∷ raw (fact 𝓤 (IsSome x.node)) ∷ []) ∵ move ! (1 ∷ []) $ heard ! (IsSome x.node) (λ some.
    let d = (had x.node some).0 in let is : x.node ≡ Some d = (had x.node some).1 in
    split ! $ move ! (1 ∷ []) $ fsplit3 ! $ fsplit ! $ drop ! $ rewrite ! 0 (λ (t : Option R.Denot). ‵ (part_owns R x.at t)) is refl $
    in_a_block ! x.at (λ p. box_owns (ghosts.dealloc_token heap) R p d) (fst∗ 𝓤 (never 𝓤) (sem 𝓛 (ghosts.dealloc_token heap (bare (lone R.mir)) null_ptr))) (λ b o e.
    move ! (1 ∷ []) $ handle_tells al ! a z.0.4.1.0 (λ h eh fits. let w : Val = part_val (block_ptr b o) in
    let are_two : z.0.4.0 ++ (z.0.4.1.0 ++ []) ≡ w ∷ h ∷ [] = (λ i. told i ++ (eh i ++ [])) ∙ ap (λ (p : Ptr). part_val p ∷ h ∷ []) e in
    suffices ! (Run (w ∷ h ∷ [])) (subst (λ (us : List Val). ent 𝓤 (Run (w ∷ h ∷ [])) (Run us)) (sym are_two) (id⊢ 𝓤 (Run (w ∷ h ∷ [])))) $
    enter ! C Λ fn (w ∷ h ∷ []) Post $ alloc_all ! (λ l. pass_all ! refl (part_typed (block_ptr b o), (fits, tt)) $
    sets ! (of_opd ! (get_in ! (fld ! refl (stop !)) (sub ! 0 refl (whole !)))) refl (tt, tt) $ sets ! (of_opd ! (get ! refl)) refl (tt, tt) $
    sets ! (agg ! (and_then ! (get ! refl) (and_then ! (get ! refl) (no_more !)))) refl (loose_good R Z LZ ghosts b o h fits) $
    returns ! (look_at ! 0 refl) $ free_all ! refl $
    -- [the allocator; the box; nothing; the tokens]
    move ! (1 ∷ 0 ∷ []) $ loose_in R Z LZ ghosts ! b o h a d $
    use0 𝓛 (raw (fact 𝓤 (x.node ≡ Some d))) (fact_i 𝓤 (x.node ≡ Some d) (emp 𝓤) is) $ nothing ! $ nothing ! $ fjoin ! $ nothing ! $ fjoin ! $ keep ! (4 ∷ 0 ∷ 2 ∷ 1 ∷ []) $
    by ! (leaves 𝓛 ended stays c z (both (vptr b o) h) (record { at = block_ptr b o; alloc = a; value = d }) (tt, (tt, tt)) (tt, (tt, tt))))))))
