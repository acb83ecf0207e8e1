-- Bytes and the text that spells them, in buffers of a caller.
use Rattle.std.specs.Prelude.{◌≡◌, ◌⊎◌, ℕ, List, Ok, Err}
use Rattle.input_text.specs.Printing.{printed, unprinted}
use Rattle.node_handle.specs.declared.refusal.Refusal.TheVariants.{OutOfMemory, ShortBuffer, BadText}
use Rattle.node_handle.specs.Saying.{Said}
use Rattle.node_handle.specs.Calls.{Stands, Lacks}

-- the text of bytes is copied into a buffer
abbrev pub Prints : List ℕ → Said → List ℕ → List ℕ → ℕ → ℕ → Type 0
Prints bytes (Ok made) buffer after before size = Stands (printed bytes) buffer after size
Prints bytes (Err why) buffer after before size = ((why ≡ OutOfMemory) × ((after ≡ buffer) × (size ≡ before))) ⊎ ((why ≡ ShortBuffer) × Lacks (printed bytes) buffer after size)

-- the bytes of a text are copied into a buffer. Where it spells none, the place of the first byte that spells nothing is told
abbrev pub Unprints : List ℕ → Said → List ℕ → List ℕ → ℕ → ℕ → Type 0
Unprints text (Ok made) buffer after before size = (bytes : List ℕ) × ((unprinted text ≡ Ok bytes) × Stands bytes buffer after size)
Unprints text (Err why) buffer after before size =
    ((why ≡ OutOfMemory) × ((after ≡ buffer) × (size ≡ before))) ⊎ (((why ≡ BadText) × ((after ≡ buffer) × (unprinted text ≡ Err size)))
    ⊎ ((why ≡ ShortBuffer) × ((bytes : List ℕ) × ((unprinted text ≡ Ok bytes) × Lacks bytes buffer after size))))
