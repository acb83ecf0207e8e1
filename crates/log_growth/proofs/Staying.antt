-- A log that is one of the new settings already, and one whose file is refused under them.
use Rattle.std.proofs.Common.{◌≡◌, ◌⊎◌, inl, inr, List, ℕ, None, Ok, refl, sym, ap, ◌∙◌, subst}
use Rattle.settings_digest.specs.Digests.{digest_in, digest_under}
use Rattle.claim_model.specs.Node.{Node}
use Rattle.world_setup.specs.Seen.{node_seen}
use Rattle.world_setup.specs.declared.node.Node.{Node as Named}
use Rattle.kept_logs.specs.Logs.{Reading, log_in}
use Rattle.node_service.specs.Refused.{IsRefused}
use Rattle.log_growth.specs.Over.{Becomes, IsLogUnder, IsMoved, IsOpen, IsShutFor, Opens, StaysFor}
use Rattle.log_growth.specs.declared.over.Gone.{Gone}
use Rattle.log_growth.specs.declared.over.Gone.TheVariants.{Already, Over}
use Rattle.log_growth.specs.declared.over.OverFault.{OverFault}
use Rattle.log_growth.specs.declared.over.OverFault.TheVariants.{OutOfMemory, Log, Refused}

-- a log that is one of the new settings opens
pub there : (old text bytes : List ℕ) (read : Reading) (node : Named) (gone : Gone) → log_in (digest_under text bytes) bytes ≡ Ok read → read.log.node ≡ node_seen node → IsOpen text node bytes gone → Becomes old text bytes gone
there old text bytes read node (Already other) reads own found =
    record { read = read; reads = reads; own = own ∙ ap node_seen (sym found.0); opens = subst (λ (n : Named). Opens text (node_seen n) bytes) (sym found.0) found.1 }
there old text bytes read node (Over other written) reads own found = absurd found

shut : (old text bytes : List ℕ) (node : Node) (file : List ℕ) (why : OverFault) → (IsLogUnder (digest_under text bytes) bytes node × (file ≡ bytes)) ⊎ IsMoved old (digest_in text) bytes node file
    → IsShutFor text node file why → StaysFor old text bytes why
shut old text bytes node file OutOfMemory under is = tt
shut old text bytes node file (Log fault) under is = absurd is
shut old text bytes node file (Refused who why) under is =
    record {
      file = file;
      under = subst (λ (n : Node). (IsLogUnder (digest_under text bytes) bytes n × (file ≡ bytes)) ⊎ IsMoved old (digest_in text) bytes n file) (sym is.0) under;
      refused = subst (λ (n : Node). IsRefused text n None file why) (sym is.0) is.1;
    }

-- or is refused
pub shut_there : (old text bytes : List ℕ) (read : Reading) (why : OverFault) → log_in (digest_under text bytes) bytes ≡ Ok read → IsShutFor text read.log.node bytes why → StaysFor old text bytes why
shut_there old text bytes read why reads is = shut old text bytes read.log.node bytes why (inl (record { read = read; reads = reads; own = refl }, refl)) is

-- a log of the old settings, under the new head
pub shut_moved : (old text bytes : List ℕ) (node : Node) (file : List ℕ) (why : OverFault) → IsMoved old (digest_in text) bytes node file → IsShutFor text node file why → StaysFor old text bytes why
shut_moved old text bytes node file why moved is = shut old text bytes node file why (inr moved) is
