-- Logs that are judged: what is told of each is what becomes of its file.
use Rattle.std.specs.Prelude.{◌≡◌, ℕ, Bool, List, [], ◌∷◌, ◌++◌, Result, IfOk, IfErr, IsTrue}
use Rattle.std.specs.Borrow.{Bor}
use Rattle.settings_digest.specs.Digests.{under}
use Rattle.log_growth.specs.declared.growth.Grown.{Grown}
use Rattle.log_growth.specs.declared.over.Gone.{Gone}
use Rattle.growing_logs.specs.declared.becoming.Stays.{Stays}
use Rattle.growing_logs.specs.declared.fault.GrowFault.{GrowFault}
use Rattle.growing_logs.specs.declared.fault.GrowFault.TheVariants.{OutOfMemory, Output, Unread, Busy, File, Stays as StaysAt, Unspelled, SomeStay}
use Rattle.growing_logs.specs.declared.hints.Hint.{Hint}
use Rattle.growing_logs.specs.Becoming.{GoesOverWhole, IsStaying, fate_seen}
use Rattle.growing_logs.specs.Hints.{IsHint, hint_at}
use Rattle.growing_logs.specs.Telling.{IsTold}
use Rattle.growing_logs.specs.Texts.{line_text}
use Rattle.replaced_files.specs.declared.replacing.Fate.{Fate}

-- a log of this name, under settings that the old text spells, with new settings that the new text spells: what becomes of it, or why it stays, is so; it is
-- told with a hint that is so; and the fate of its file is what is told
pub record IsJudged (grown : Grown) (old new name bytes : List ℕ) (fate : Fate) (before after : List ℕ) : Type 0 where
  pub becomes : Result Gone Stays
  pub goes : IfOk becomes (GoesOverWhole (under grown.old bytes) new bytes)
  pub stays : IfErr becomes (IsStaying (under grown.old bytes) new bytes)
  pub hint : Hint
  pub is_hint : IsHint old bytes (hint_at grown.moves becomes) hint
  pub told : List ℕ
  pub is_told : IsTold becomes hint told
  pub line : after ≡ before ++ line_text name told
  pub is_fate : fate ≡ fate_seen becomes

-- so of logs of these names, as they were found, the newest first, with the fates of their files and the lines of what is told
pub data AreJudged (grown : Grown) (old new : List ℕ) : List (Bor (List ℕ)) → List (List ℕ) → List Fate → List ℕ → Type 0 where
  none : AreJudged grown old new [] [] [] []
  more : {names : List (Bor (List ℕ))} {found : List (List ℕ)} {fates : List Fate} {lines : List ℕ} (name : Bor (List ℕ)) (bytes : List ℕ) (fate : Fate) (after : List ℕ)
      → AreJudged grown old new names found fates lines → IsJudged grown old new name.now bytes fate lines after → AreJudged grown old new (names ++ name ∷ []) (bytes ∷ found) (fates ++ fate ∷ []) after

-- logs are not judged since one of them could not be read, or for want of memory
abbrev pub IsUnread : GrowFault → (failed : Bool) → Type 0
IsUnread OutOfMemory failed = Unit {0}
IsUnread (Output error) failed = ⊥
IsUnread (Unread fault) failed = IsTrue failed
IsUnread (Busy place) failed = ⊥
IsUnread (File place error) failed = ⊥
IsUnread (StaysAt place fault) failed = ⊥
IsUnread (Unspelled place) failed = ⊥
IsUnread SomeStay failed = ⊥
