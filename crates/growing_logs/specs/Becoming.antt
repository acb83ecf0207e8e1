-- What becomes of a log whose settings have grown, with a look at the rejections that its pharmacy has of switches.
use Rattle.std.specs.Prelude.{◌≡◌, ⊤, ℕ, List, [], ◌∷◌, Result, Ok, Err}
use Rattle.bin_routes.specs.Key.{RouteKey}
use Rattle.world_setup.specs.Seen.{node_seen}
use Rattle.world_setup.specs.declared.node.Node.{Node as Named}
use Rattle.log_growth.specs.Over.{Becomes, StaysFor}
use Rattle.log_growth.specs.Rejected.{AreReroutedIn}
use Rattle.log_growth.specs.declared.over.Gone.{Gone}
use Rattle.log_growth.specs.declared.over.Gone.TheVariants.{Already, Over}
use Rattle.log_growth.specs.declared.over.OverFault.TheVariants.{OutOfMemory}
use Rattle.growing_logs.specs.declared.becoming.Stays.{Stays}
use Rattle.growing_logs.specs.declared.becoming.Stays.TheVariants.{Fault, Rerouted}
use Rattle.replaced_files.specs.declared.replacing.Fate.{Fate}
use Rattle.replaced_files.specs.declared.replacing.Fate.TheVariants as fate

-- no entry of a node that goes over has a rejection for want of a route which its request has now
abbrev pub IsWhole : List ℕ → Gone → Type 0
IsWhole text (Already node) = ⊤
IsWhole text (Over node written) = AreReroutedIn text (node_seen node) written.items []

-- a log goes over, or is there, and its node has no such entry
abbrev pub GoesOverWhole : List ℕ → List ℕ → List ℕ → Gone → Type 0
GoesOverWhole old text bytes gone = Becomes old text bytes gone × IsWhole text gone

-- the first of these entries is told
abbrev pub IsFirst : Named → List (ℕ × RouteKey) → Stays → Type 0
IsFirst node entries (Fault why) = ⊥
IsFirst node entries (Rerouted other entry) = (other ≡ node) × ((key : RouteKey) × ((more : List (ℕ × RouteKey)) × (entries ≡ (entry, key) ∷ more)))

-- a node that goes over has such entries, and the first is told
abbrev pub HasRerouted : List ℕ → Gone → Named → ℕ → Type 0
HasRerouted text (Already node) other entry = ⊥
HasRerouted text (Over node written) other entry =
    (other ≡ node) × ((key : RouteKey) × ((more : List (ℕ × RouteKey)) × AreReroutedIn text (node_seen node) written.items ((entry, key) ∷ more)))

abbrev pub IsUnlessRerouted : List ℕ → Gone → Stays → Type 0
IsUnlessRerouted text gone (Fault why) = why ≡ OutOfMemory
IsUnlessRerouted text gone (Rerouted node entry) = HasRerouted text gone node entry

-- why a log stays is so: it does not go over for this cause; or it would, and this is its node's first entry with such a rejection
abbrev pub IsStaying : List ℕ → List ℕ → List ℕ → Stays → Type 0
IsStaying old text bytes (Fault why) = StaysFor old text bytes why
IsStaying old text bytes (Rerouted node entry) = (gone : Gone) × (Becomes old text bytes gone × HasRerouted text gone node entry)

-- what is to become of the file of a log
abbrev pub fate_of_gone : Gone → Fate
fate_of_gone (Already node) = fate.Stands
fate_of_gone (Over node written) = fate.Becomes written

abbrev pub fate_seen : Result Gone Stays → Fate
fate_seen (Ok gone) = fate_of_gone gone
fate_seen (Err why) = fate.Stays
