-- Which digest a log has of its settings: that of the version which stands in it.
use Rattle.std.specs.Prelude.{◌≡◌, ℕ, cond, List, [], Option, Some, None}
use Rattle.world_settings.specs.Document.{Document, living_in}
use Rattle.kept_logs.specs.Digests.{of_file, of_said, is_first}
use Rattle.kept_logs.specs.Rests.{behind}
use Rattle.settings_digest.specs.Said.{said}
use Rattle.settings_digest.specs.declared.digests.Digests.{Digests}

-- what the settings say that a file spells; nothing where it spells none
abbrev pub said_by : Option Document → List ℕ
said_by (Some d) = said d
said_by None = []

-- the digest of what a file says, which a log has that begins
unfoldable pub digest_in : List ℕ → List ℕ
digest_in file = of_said (said_by (living_in file))

-- under which digest of the settings of a file bytes are a log: in version 1 that of the file's bytes, else that of what it says
unfoldable pub digest_under : List ℕ → List ℕ → List ℕ
digest_under file bytes = cond (is_first bytes) (of_file file) (digest_in file)

-- the digest of a log that begins: as the settings open its node, or with a rest, after closed ones
abbrev pub turned_in : List ℕ → Option (List ℕ) → List ℕ
turned_in file None = digest_in file
turned_in file (Some rest) = behind (digest_in file) rest

-- under which digest bytes are a log that begins so
abbrev pub turned_under : List ℕ → Option (List ℕ) → List ℕ → List ℕ
turned_under file None bytes = digest_under file bytes
turned_under file (Some rest) bytes = behind (digest_in file) rest

-- the one of two digests under which bytes are a log
abbrev pub under : Digests → List ℕ → List ℕ
under digests bytes = cond (is_first bytes) digests.file digests.said

-- digests are those of the settings that a file spells
pub record AreOf (text : List ℕ) (digests : Digests) : Type 0 where
  pub first : digests.file ≡ of_file text
  pub second : digests.said ≡ digest_in text

-- the one under which bytes are a log that begins so
abbrev pub turned : Digests → Option (List ℕ) → List ℕ → List ℕ
turned digests None bytes = under digests bytes
turned digests (Some rest) bytes = behind digests.said rest
