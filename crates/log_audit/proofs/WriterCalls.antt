-- A call of a writer that took no bytes.
use Rattle.std.proofs.Common.{◌≡◌, ℕ, List, [], take, Option, Some, None, refl, sym, ◌∙◌, append-nil}
use Rattle.std.specs.Prelude.{Result, Ok, Err, IfOk, OnErr}
use Rattle.std.specs.Io.KnownBytes.{Appends, Keeps, WriteAppends}
use Rattle.log_audit.specs.Outgoing.{TookSome}

keeps_none : (old new : Option (List ℕ)) → Appends old new [] → Keeps old new
keeps_none None new p = tt
keeps_none (Some a) None p = absurd p
keeps_none (Some a) (Some b) p = p ∙ append-nil a

-- a call that took no bytes of some is one that failed
pub fails_with_none : {E : Type 0} (old new : Option (List ℕ)) (count : ℕ) (r : Result ℕ E) (bytes : List ℕ) → IfOk r (λ n. n ≡ count) → OnErr r (count ≡ 0) → Appends old new (take count bytes) → WriteAppends old new r bytes
fails_with_none old new count (Ok n) bytes some none p = rw some p
fails_with_none old new count (Err e) bytes some none p = keeps_none old new (rw none at p)

adds_none : (known : Option (List ℕ)) → Appends known known []
adds_none None = tt
adds_none (Some a) = sym (append-nil a)

-- a writer that is not called takes nothing
pub takes_none : (known : Option (List ℕ)) (noted piece : List ℕ) → TookSome known known noted noted piece
takes_none known noted piece = (piece, record { bytes = []; noted_are = sym (append-nil noted); taken = adds_none known; whole = refl })
