use Rattle.std.proofs.Common.{◌≡◌, ℕ, List, Some, subst}
use Rattle.claim_model.specs.Words.{TxnId}
use Rattle.claim_model.specs.Bytes.{bytes_with}
use Rattle.claim_model.specs.Journal.{JournalAtRest}
use Rattle.claim_model.specs.Held.{journal_at}
use Rattle.claim_recovery.specs.Recovered.{IsOpen, Answerable, RecoveredAlone}
use Rattle.world_core.specs.Parts.{WorldParts, context_of}
use Rattle.world_core.proofs.world.World.open_entries_recover.Goals as goal

pub returns : goal.returns
returns c =
    subst (λ (p : WorldParts). (id : TxnId) (request : List ℕ) (journal : JournalAtRest) → journal_at p.world id.pharmacy ≡ Some journal → IsOpen p.world id request → Answerable (context_of p) p.world id request → RecoveredAlone (context_of p) p.world journal id request) c.self.view_is
    (λ id request journal there waits answerable. c.nobody_else_is_touched.ensures (bytes_with c.self.inside.routes) c.self.invariant.settings c.self.inside.parts id request journal c.self.invariant.reached c.self.invariant.timely there waits answerable)
