use Rattle.std.proofs.Common.{◌≡◌, ◌+◌, ◌++◌, drop, map}
use Rattle.claimdump.specs.Files.{file_seen, journal_files}
use Rattle.claimdump.proofs.putting.put_journals.Given as goal

-- the files so far, and then those of the nodes that are left
abbrev pub invariant-loop-place : goal.invariant-loop-place
invariant-loop-place l = map file_seen l.files.items ++ journal_files (l.place + 1) (drop l.place l.nodes) ≡ map file_seen l.initial.files.items ++ journal_files 1 l.nodes
