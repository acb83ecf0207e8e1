-- One log more.
use Rattle.std.proofs.Common.{◌≡◌, ℕ, ◌+◌, ◌<◌, List, [], ◌∷◌, ◌++◌, Some, length, get_or, take, sym, subst, Bor}
use Rattle.std.specs.Global.{Vec}
use Rattle.std.proofs.Math.Seq.{take-length}
use Rattle.std.proofs.lemmas.List.{take_more}
use Rattle.log_growth.specs.declared.growth.Grown.{Grown}
use Rattle.replaced_files.specs.declared.replacing.Fate.{Fate}
use Rattle.growing_logs.specs.Judging.{AreJudged, IsJudged, none, more}
use Rattle.growing_logs.specs.Rejecting.{AreAllRows, AreRowsFor, no_rows, more_rows}

module _ (grown : Grown) (old new : List ℕ) where
  pub judged_next : (names : List (Bor (List ℕ))) (place : ℕ) (d : Bor (List ℕ)) (name : List ℕ) (found next : List (List ℕ)) (bytes : List ℕ) (fates more_fates : List Fate) (fate : Fate) (lines after : List ℕ)
      → place < length names → name ≡ (get_or names place d).now → next ≡ bytes ∷ found → more_fates ≡ fates ++ fate ∷ [] → AreJudged grown old new (take place names) found fates lines → IsJudged grown old new name bytes fate lines after
      → AreJudged grown old new (take (place + 1) names) next more_fates after
  judged_next names place d name found next bytes fates more_fates fate lines after within is read pushed before own =
      let this : Bor (List ℕ) = get_or names place d in
      let all : AreJudged grown old new (take place names ++ this ∷ []) (bytes ∷ found) (fates ++ fate ∷ []) after =
      more this bytes fate after before (subst (λ (n : List ℕ). IsJudged grown old new n bytes fate lines after) is own) in
      subst (λ (ns : List (Bor (List ℕ))). AreJudged grown old new ns next more_fates after) (sym (take_more names place d within))
      (subst (λ (bs : List (List ℕ)). AreJudged grown old new (take place names ++ this ∷ []) bs more_fates after) (sym read)
      (subst (λ (fs : List Fate). AreJudged grown old new (take place names ++ this ∷ []) (bytes ∷ found) fs after) (sym pushed) all))

  pub judged_all : (names : List (Bor (List ℕ))) (found : List (List ℕ)) (fates : List Fate) (lines : List ℕ) → AreJudged grown old new (take (length names) names) found fates lines → AreJudged grown old new names found fates lines
  judged_all names found fates lines is = subst (λ (ns : List (Bor (List ℕ))). AreJudged grown old new ns found fates lines) (take-length names) is

  pub judged_none : (names : List (Bor (List ℕ))) (found : List (List ℕ)) (fates : List Fate) (lines : List ℕ) → found ≡ [] → fates ≡ [] → lines ≡ [] → AreJudged grown old new (take 0 names) found fates lines
  judged_none names found fates lines unread e f = rw (unread, e, f) none

module _ (grown : Grown) (text : List ℕ) where
  pub rows_none : (found : List (List ℕ)) (rows : List ℕ) → found ≡ [] → rows ≡ [] → AreAllRows grown text found rows
  rows_none found rows unread e = rw (unread, e) no_rows

  pub rows_next : (found next : List (List ℕ)) (bytes rows : List ℕ) (own : Vec ℕ) (after : List ℕ) → next ≡ bytes ∷ found → AreAllRows grown text found rows → AreRowsFor grown text bytes (Some own) → after ≡ rows ++ own.items → AreAllRows grown text next after
  rows_next found next bytes rows own after read before is added = subst (λ (bs : List (List ℕ)). AreAllRows grown text bs after) (sym read) (more_rows bytes own after before is added)
