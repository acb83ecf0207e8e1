-- Logs that go on one after another, as one log.
use Rattle.std.specs.Prelude.{◌≡◌, ℕ, ◌+◌, ◌==◌, ◌&&◌, Bool, bytes_eq, List, [], ◌∷◌, ◌++◌, ◌-◌, length, replicate, Option, Some, None, Ok}
use Rattle.std.specs.Option.{option_copied}
use Rattle.sha2.specs.Sha256.{sha256}
use Rattle.claim_model.specs.Node.{Node}
use Rattle.claim_model.specs.Nodes.{same_node}
use Rattle.kept_logs.specs.Stamps.{Stamped, KeptLog}
use Rattle.kept_logs.specs.Logs.{calls_text, kept_text, kept_in}
use Rattle.kept_logs.specs.Rests.{Rest, calls_before, rest_in}
use Rattle.settings_digest.specs.Digests.{turned_in, turned_under}
use Rattle.log_turning.specs.declared.joining.Part as value

-- a log, and the rest that it begins with
pub record Part : Type 0 where
  pub rest : Option (List ℕ)
  pub log : List ℕ

abbrev pub part_seen : value.Part → Part
part_seen p = record { rest = option_copied p.rest; log = p.log.now }

-- what a log begins with is of these calls of the node, of which the last stand in these bytes
abbrev pub are_these : Node → ℕ → List ℕ → Rest → Bool
are_these node calls closed r = same_node r.node node && ((r.calls == calls) && bytes_eq r.closed (sha256 closed))

-- a rest names these calls of the node, of which the last stand in these bytes
pub record Names (node : Node) (calls : ℕ) (closed rest : List ℕ) : Type 0 where
  pub names : Rest
  pub reads : rest_in rest ≡ Some names
  pub own : names.node ≡ node
  pub count : names.calls ≡ calls
  pub digest : names.closed ≡ sha256 closed

-- a log goes on after this many calls, of which the last stand in these bytes; the first log begins as all of them do
abbrev pub Follows : Node → Option (List ℕ) → ℕ → Option (List ℕ) → Option (List ℕ) → Type 0
Follows node begins calls None rest = rest ≡ begins
Follows node begins calls (Some closed) None = ⊥
Follows node begins calls (Some closed) (Some rest) = Names node calls closed rest

abbrev pub GoesOn : Node → Option (List ℕ) → ℕ → Option (List ℕ) → Part → Type 0
GoesOn node begins calls last p = Follows node begins calls last p.rest

-- a part is read as a log of this node with these records
pub record IsPart (text : List ℕ) (node : Node) (p : Part) (calls : List Stamped) : Type 0 where
  pub whole : ℕ
  pub reads : kept_in (turned_under text p.rest p.log) p.log ≡ Ok (record { log = record { node = node; calls = calls }; whole = whole })

-- the records of a part stand after a text, numbered after this many, and are this many in all then
pub record IsPartBehind (text : List ℕ) (node : Node) (p : Part) (before : ℕ) (old new : List ℕ) (all : ℕ) : Type 0 where
  pub calls : List Stamped
  pub part : IsPart text node p calls
  pub counted : all ≡ before + length calls
  pub is : new ≡ old ++ calls_text 2 (before + 1) calls

-- parts go on one after another, after this many calls, and have these records
abbrev pub AreParts : List ℕ → Node → Option (List ℕ) → ℕ → Option (List ℕ) → List Part → List Stamped → Type 0
AreParts text node begins before last [] calls = calls ≡ []
AreParts text node begins before last (p ∷ more) calls =
    GoesOn node begins before last p × ((own : List Stamped) × (behind : List Stamped) × (IsPart text node p own × (AreParts text node begins (before + length own) (Some p.log) more behind × (calls ≡ own ++ behind))))

-- this many bytes stand after the whole records of a part: of one that was cut off, or zeros
pub record IsEndOf (text : List ℕ) (p : Part) (left : ℕ) : Type 0 where
  pub log : KeptLog
  pub whole : ℕ
  pub reads : kept_in (turned_under text p.rest p.log) p.log ≡ Ok (record { log = log; whole = whole })
  pub is : left ≡ length p.log - whole

abbrev pub IsEnd : List ℕ → Option Part → ℕ → Type 0
IsEnd text None left = left ≡ 0
IsEnd text (Some p) left = IsEndOf text p left

-- the last of some parts, where there are some
abbrev pub last_part : Option Part → List Part → Option Part
last_part last [] = last
last_part last (p ∷ more) = last_part (Some p) more

-- bytes are the text of one log that begins so, with all records of the parts, and what was noted in them; and after it as many zeros as bytes stand
-- after the whole records of the last part, which are read as the end of a log that was cut off
pub record IsJoined (text : List ℕ) (node : Node) (begins : Option (List ℕ)) (parts : List Part) (joined : List ℕ) : Type 0 where
  pub calls : List Stamped
  pub parted : AreParts text node begins (calls_before begins) None parts calls
  pub left : ℕ
  pub ends : IsEnd text (last_part None parts) left
  pub is : joined ≡ kept_text (turned_in text begins) (record { node = node; calls = calls }) ++ replicate left 0
