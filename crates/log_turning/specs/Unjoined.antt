-- Why logs are not joined: each cause is true, and those before it do not stand.
use Rattle.std.specs.Prelude.{◌≡◌, ◌≢◌, ⊤, ℕ, ◌+◌, List, [], ◌∷◌, ◌++◌, length, Option, Some, None, Ok, Err}
use Rattle.claim_model.specs.Node.{Node}
use Rattle.kept_logs.specs.Stamps.{Stamped}
use Rattle.kept_logs.specs.Logs.{kept_in, log_in}
use Rattle.kept_logs.specs.Rests.{calls_before}
use Rattle.settings_digest.specs.Digests.{turned_under}
use Rattle.world_settings.specs.Document.{living_in}
use Rattle.log_turning.specs.Joined.{AreParts, GoesOn, Part}
use Rattle.log_turning.specs.declared.fault.JoinFault.{JoinFault}
use Rattle.log_turning.specs.declared.fault.JoinFault.TheVariants.{OutOfMemory, Settings, Log, OtherNode, NotNext}

-- the log of the last of these parts, where there are some
abbrev pub last_log : Option (List ℕ) → List Part → Option (List ℕ)
last_log last [] = last
last_log last (p ∷ more) = last_log (Some p.log) more

-- those of the parts before this place go on one after another, and of the one there, after their calls, something is so
pub record StopsAt (text : List ℕ) (node : Node) (begins : Option (List ℕ)) (parts : List Part) (place : ℕ) (Why : ℕ → Option (List ℕ) → Part → Type 0) : Type 0 where
  pub before : List Part
  pub one : Part
  pub behind : List Part
  pub is : before ++ one ∷ behind ≡ parts
  pub count : length before ≡ place
  pub calls : List Stamped
  pub parted : AreParts text node begins (calls_before begins) None before calls
  pub why : Why (calls_before begins + length calls) (last_log None before) one

-- a part is a log of another node
pub record IsOthers (text : List ℕ) (node : Node) (p : Part) : Type 0 where
  pub own : Node
  pub other : own ≢ node
  pub calls : List Stamped
  pub whole : ℕ
  pub reads : kept_in (turned_under text p.rest p.log) p.log ≡ Ok (record { log = record { node = own; calls = calls }; whole = whole })

-- logs are not joined for this cause
abbrev pub IsUnjoined : List ℕ → Node → Option (List ℕ) → List Part → JoinFault → Type 0
IsUnjoined text node begins parts OutOfMemory = ⊤
IsUnjoined text node begins parts Settings = living_in text ≡ None
IsUnjoined text node begins parts (Log place why) =
    StopsAt text node begins parts place (λ calls last p. GoesOn node begins calls last p × (log_in (turned_under text p.rest p.log) p.log ≡ Err why))
IsUnjoined text node begins parts (OtherNode place) = StopsAt text node begins parts place (λ calls last p. GoesOn node begins calls last p × IsOthers text node p)
IsUnjoined text node begins parts (NotNext place) = StopsAt text node begins parts place (λ calls last p. GoesOn node begins calls last p → ⊥)

-- ---- on the way

-- a text spells no settings
abbrev pub SpellsNone : List ℕ → JoinFault → Type 0
SpellsNone text OutOfMemory = ⊤
SpellsNone text Settings = living_in text ≡ None
SpellsNone text (Log place why) = ⊥
SpellsNone text (OtherNode place) = ⊥
SpellsNone text (NotNext place) = ⊥

-- the part at a place is no log of the node
abbrev pub IsNoPart : List ℕ → Node → Part → ℕ → JoinFault → Type 0
IsNoPart text node p place OutOfMemory = ⊤
IsNoPart text node p place Settings = ⊥
IsNoPart text node p place (Log at why) = (at ≡ place) × (log_in (turned_under text p.rest p.log) p.log ≡ Err why)
IsNoPart text node p place (OtherNode at) = (at ≡ place) × IsOthers text node p
IsNoPart text node p place (NotNext at) = ⊥
