-- A log that opens its node, in the words of the clauses.
use Rattle.std.proofs.Common.{◌≡◌, ℕ, List, subst}
use Rattle.claim_model.specs.Node.{Node}
use Rattle.node_service.specs.Opened.{IsOpened}
use Rattle.node_service.specs.Serving.{Serving}
use Rattle.log_turning.specs.Files.{part_in}
use Rattle.log_turning.specs.Joined.{Part}
use Rattle.log_folder.specs.Mending.{IsSound}

pub sound : (text : List ℕ) (node : Node) (bytes : List ℕ) (part : Part) (calls whole : ℕ) (s : Serving) → part ≡ part_in bytes → IsOpened text node part.rest part.log whole s → calls ≡ s.calls → IsSound text node bytes calls whole
sound text node bytes part calls whole s e opened counted = record { served = s; opened = subst (λ (p : Part). IsOpened text node p.rest p.log whole s) e opened; counted = counted }
