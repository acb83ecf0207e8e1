-- The file of a log: the log alone, or after what it begins with.
use Rattle.std.specs.Prelude.{ℕ, cond, bytes_eq, List, [], ◌∷◌, ◌++◌, length, codes, Option, Some, None}
use Rattle.std.specs.Int.{w64, to_be_bytes}
use Rattle.codec.specs.Fields.{bytes_at, u64_at}
use Rattle.codec.specs.Options.{◌>>=◌}
use Rattle.kept_logs.specs.Fields.{text_at}
use Rattle.log_turning.specs.Joined.{Part}

-- the name and the version of the file of a log that goes on after closed ones
abbrev pub file_name : List ℕ
file_name = codes "PT" ++ (1 ∷ [])

-- such a file: its name, how many bytes the rest has, the rest, and the log
unfoldable pub file_text : List ℕ → List ℕ → List ℕ
file_text rest log = file_name ++ (to_be_bytes w64 (length rest) ++ (rest ++ log))

-- what follows the name
unfoldable pub named_in : List ℕ → Option (List ℕ)
named_in bytes = do
  front ← bytes_at 3 bytes
  cond (bytes_eq front.0 file_name) (Some front.1) None

-- how many bytes the rest has
unfoldable pub size_in : List ℕ → Option ℕ
size_in bytes = do
  behind ← named_in bytes
  size ← u64_at behind
  Some size.0

-- the rest, and the log after it
unfoldable pub split_in : List ℕ → Option (List ℕ × List ℕ)
split_in bytes = do
  behind ← named_in bytes
  text_at behind

abbrev pub part_by : List ℕ → Option (List ℕ × List ℕ) → Part
part_by bytes (Some parts) = record { rest = Some parts.0; log = parts.1 }
part_by bytes None = record { rest = None; log = bytes }

-- what the file of a log has
unfoldable pub part_in : List ℕ → Part
part_in bytes = part_by bytes (split_in bytes)
