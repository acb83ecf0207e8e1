-- A file that is not opened or written.
use Rattle.std.specs.Prelude.{◌≡◌, ⊤, ℕ, List, string_bytes}
use Rattle.std.specs.declared.io.Error.{Error}
use Rattle.claimnode.specs.declared.finding.Finding.{Finding}
use Rattle.claimnode.specs.declared.finding.Finding.TheVariants.{OutOfMemory, Io, File, Settings, Service, SyncFailed, Untaken, Unserved, Untold, Unrepaired, Unclosed, Unjoined}

-- it is told of the file of this name that it failed so, where there is memory for the name
abbrev pub IsOfFile : List ℕ → Error → Finding → Type 0
IsOfFile name error (OutOfMemory refused) = ⊤
IsOfFile name error (Io other) = ⊥
IsOfFile name error (File named why) = (string_bytes named ≡ name) × (why ≡ error)
IsOfFile name error (Settings why) = ⊥
IsOfFile name error (Service why) = ⊥
IsOfFile name error (SyncFailed mark) = ⊥
IsOfFile name error (Untaken why) = ⊥
IsOfFile name error (Unserved why) = ⊥
IsOfFile name error (Untold why) = ⊥
IsOfFile name error (Unrepaired why) = ⊥
IsOfFile name error (Unclosed why) = ⊥
IsOfFile name error (Unjoined why) = ⊥
