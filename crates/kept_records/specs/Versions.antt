-- What the versions of records differ in.
use Rattle.std.specs.Prelude.{ℕ, ⊤, Bool, true, false, ◌||◌, ◌==◌, List, [], ◌∷◌, Option, Some, None, if◌then◌else◌}
use Rattle.d0_header.specs.Request.{Request}
use Rattle.claim_profile.specs.Readable.{readable_header}
use Rattle.codec.specs.Fields.{u8_at}
use Rattle.codec.specs.Codecs.{Codec}

-- a version, as its byte; nothing is said of what it is
abbrev pub version_codec : Codec ℕ
version_codec = record { text = λ version. version ∷ []; at = u8_at; Fits = λ version. ⊤ }

-- the versions of a book that are read
abbrev pub is_version : ℕ → Bool
is_version version = (version == 1) || (version == 2)

-- those of a journal: the third has the rule of retries
abbrev pub is_journal_version : ℕ → Bool
is_journal_version version = (version == 1) || ((version == 2) || (version == 3))

-- a readable request of one transaction
abbrev pub has_one : Option Request → Bool
has_one None = false
has_one (Some header) = header.count == 1

-- version 1 has one transaction a request, the others as many as can be read
abbrev pub fits_version : ℕ → List ℕ → Bool
fits_version version request = if version == 1 then has_one (readable_header request) else true
