use Rattle.std.proofs.Common.{◌≡◌, ◌+◌, ◌++◌, drop, map}
use Rattle.claimdump.specs.Files.{file_seen, book_files}
use Rattle.claimdump.proofs.putting.put_books.Given as goal

-- the files so far, and then those of the nodes that are left
abbrev pub invariant-loop-place : goal.invariant-loop-place
invariant-loop-place l = map file_seen l.files.items ++ book_files (l.place + 1) (drop l.place l.nodes) ≡ map file_seen l.initial.files.items ++ book_files 1 l.nodes
