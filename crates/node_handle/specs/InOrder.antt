-- Words and records of a node, in the order of its calls.
use Rattle.std.specs.Prelude.{◌≡◌, ℕ, ◌≤◌, ◌==◌, Bool, List, [], ◌∷◌, length, filter}
use Rattle.std.specs.List.{flat_map}
use Rattle.node_handle.specs.Waiting.{Waiting}
use Rattle.node_handle.specs.Hosting.{Hosting}

-- marks rise from one to another
abbrev pub Rise : ℕ → List Waiting → ℕ → Type 0
Rise low [] high = low ≤ high
Rise low (w ∷ more) high = (low ≤ w.mark) × Rise w.mark more high

-- no call waits for more bytes than a later one, nor for more than there are
abbrev pub AreInOrder : Hosting → Type 0
AreInOrder h = Rise 0 h.words (length h.serving.records)

abbrev pub text_of : Waiting → List ℕ
text_of w = w.text

-- the records of a call, and those before it, are on disk
abbrev pub is_on_disk : Waiting → Bool
is_on_disk w = w.mark == 0

-- the words of the calls of which that is so
abbrev pub on_disk : List Waiting → List ℕ
on_disk words = flat_map text_of (filter is_on_disk words)

abbrev pub all_of : List Waiting → List ℕ
all_of words = flat_map text_of words
