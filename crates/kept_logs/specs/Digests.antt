-- What the head of a log has of its settings: the version of the log, and a digest after it; 33 bytes.
use Rattle.std.specs.Prelude.{◌≡◌, ℕ, Bool, ◌==◌, cond, List, ◌∷◌, slice_index, refl}
use Rattle.sha2.specs.Sha256.{sha256}
use Rattle.kept_logs.specs.declared.version.LogVersion.{LogVersion}
use Rattle.kept_logs.specs.declared.version.LogVersion.TheVariants as version

-- in version 1 the digest is that of the bytes of the settings' file
abbrev pub of_file : List ℕ → List ℕ
of_file file = 1 ∷ sha256 file

-- in version 2 it is that of a text of what the settings say
abbrev pub of_said : List ℕ → List ℕ
of_said said = 2 ∷ sha256 said

-- whether bytes have the version 1, if they are a log
abbrev pub is_first : List ℕ → Bool
is_first bytes = slice_index bytes 2 == 1

-- the version of bytes, if they are a log of one that there is
abbrev pub version_in : List ℕ → ℕ
version_in bytes = cond (is_first bytes) 1 2

-- the version of the log of which this is said of its settings
abbrev pub version_of : List ℕ → ℕ
version_of digest = slice_index digest 0

-- a version in the code
abbrev pub version_seen : LogVersion → ℕ
version_seen version.First = 1
version_seen version.Second = 2

abbrev pub version_named : ℕ → LogVersion
version_named number = cond (number == 1) version.First version.Second

pub named_back : (v : LogVersion) → version_named (version_seen v) ≡ v
named_back version.First = refl
named_back version.Second = refl
