-- All logs of a node, from what their files have.
use Rattle.std.specs.Prelude.{◌≡◌, ◌≢◌, ⊤, ℕ, nat_lt, cond, List, [], ◌∷◌, ◌++◌, length, map, Option, Some, None, MatchOption}
use Rattle.std.specs.Option.{option_map}
use Rattle.std.specs.Global.{Vec}
use Rattle.claim_model.specs.Node.{Node}
use Rattle.kept_logs.specs.Rests.{Rest, rest_in}
use Rattle.codec.specs.Options.{◌>>=◌}
use Rattle.log_turning.specs.Files.{part_in}
use Rattle.log_turning.specs.Joined.{IsJoined, Part}
use Rattle.log_turning.specs.Left.{AreLeft, IsUnleft}
use Rattle.log_turning.specs.Unjoined.{IsUnjoined}
use Rattle.log_turning.specs.declared.fault.JoinFault.TheVariants as join_fault
use Rattle.log_turning.specs.declared.fault.RestFault.TheVariants as rest_fault
use Rattle.log_turning.specs.declared.whole.LogFile.{LogFile}
use Rattle.log_turning.specs.declared.whole.OneLog.{OneLog}
use Rattle.log_turning.specs.declared.whole.Reach.{Reach}
use Rattle.log_turning.specs.declared.whole.Reach.TheVariants.{All, There}
use Rattle.log_turning.specs.declared.whole.WholeFault.{WholeFault}
use Rattle.log_turning.specs.declared.whole.WholeFault.TheVariants.{OutOfMemory, File, Logs, Rest as OtherRest}

-- what files have
abbrev pub bytes_in : List LogFile → List (List ℕ)
bytes_in files = map (λ (file : LogFile). file.bytes.items) files

-- the logs in files, of which the newest stands first, in the order in which they were made
abbrev pub parts_in : List (List ℕ) → List Part
parts_in [] = []
parts_in (newest ∷ older) = parts_in older ++ part_in newest ∷ []

-- the first log of all, in the last of the files
abbrev pub first_in : List (List ℕ) → List ℕ
first_in [] = []
first_in (file ∷ []) = file
first_in (file ∷ next ∷ older) = first_in (next ∷ older)

-- whose rest it is
abbrev pub owner_of : Option (List ℕ) → Option Node
owner_of None = None
owner_of (Some rest) = option_map (λ (r : Rest). r.node) (rest_in rest)

-- the node that the newest log names, where it goes on after closed ones
abbrev pub owner_in : List (List ℕ) → Option Node
owner_in [] = None
owner_in (newest ∷ older) = owner_of (part_in newest).rest

-- one log has all records of some that go on one after another, each from what the one before it left
pub record IsWhole (text : List ℕ) (node : Node) (begins : Option (List ℕ)) (parts : List Part) (joined : List ℕ) : Type 0 where
  pub as_one : IsJoined text node begins parts joined
  pub left : AreLeft text node None parts

-- there is none, for this cause
abbrev pub IsUnwhole : List ℕ → Node → Option (List ℕ) → List Part → WholeFault → Type 0
IsUnwhole text node begins parts OutOfMemory = ⊤
IsUnwhole text node begins parts (File name error) = ⊥
IsUnwhole text node begins parts (Logs name fault) = (fault ≢ join_fault.OutOfMemory) × IsUnjoined text node begins parts fault
IsUnwhole text node begins parts (OtherRest name fault) = (fault ≢ rest_fault.OutOfMemory) × IsUnleft text node parts fault

-- a log in a file, which is the first of those that are read: where that is the first of all, it begins with the opening of its node
abbrev pub part_for : Reach → List ℕ → Part
part_for All file = record { rest = None; log = file }
part_for There file = part_in file

abbrev pub first_part : Reach → List (List ℕ) → Part
first_part reach files = part_for reach (first_in files)

-- the node of several logs
abbrev pub owner_for : Reach → List (List ℕ) → Option Node
owner_for All files = owner_in files
owner_for There files = cond (nat_lt 1 (length files)) (owner_in files) None

-- as far back as they are read: what the first log begins with, and the logs as one, which is the only one, or all that go on one after another
pub record IsOne (text : List ℕ) (reach : Reach) (files : List (List ℕ)) (one : OneLog) : Type 0 where
  pub rest : option_map (λ (v : Vec ℕ). v.items) one.rest ≡ (first_part reach files).rest
  pub log : MatchOption (owner_for reach files) (one.log.items ≡ (first_part reach files).log) (λ node. IsWhole text node (first_part reach files).rest (parts_in files) one.log.items)

abbrev pub IsNotOne : List ℕ → Reach → List (List ℕ) → WholeFault → Type 0
IsNotOne text reach files why = MatchOption (owner_for reach files) (why ≡ OutOfMemory) (λ node. IsUnwhole text node (first_part reach files).rest (parts_in files) why)
