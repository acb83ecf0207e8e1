-- The ledgers of all pharmacies, after the calls of their logs.
use Rattle.std.specs.Prelude.{◌≡◌, ℕ, ◌+◌, List, [], ◌∷◌, Option, option_map}
use Rattle.claim_model.specs.Context.{Context}
use Rattle.claim_model.specs.Held.{journal_in, journal_at}
use Rattle.claim_model.specs.Journal.{Journal, JournalAtRest, Kept}
use Rattle.claim_model.specs.Node.{Power, Pharmacy}
use Rattle.claim_model.specs.Numbered.{numbered}
use Rattle.claim_model.specs.World.{World}
use Rattle.claim_model.specs.Settings.{opening}
use Rattle.claim_model.specs.Nodes.{AnyNode, OfPharmacy, OfSwitch, OfPayer}
use Rattle.claim_model.specs.Logs.{NodeLog, replay}
use Rattle.world_setup.specs.Seen.{settings_seen}
use Rattle.world_setup.specs.declared.settings.WorldSettings.{WorldSettings}
use Rattle.run_merge.specs.Naming.{calls_of}
use Rattle.node_logged.specs.Setting.{context_of}
use Rattle.node_logged.specs.Ledgers.{Ledger}

-- the entries of a pharmacy's journal; another node has none
abbrev pub entries_in : AnyNode → List Kept
entries_in (OfPharmacy node) = (journal_in node).entries
entries_in (OfSwitch node) = []
entries_in (OfPayer node) = []

-- the ledger of a pharmacy that was this one before the calls of its log
abbrev pub ledger_after : Context → List NodeLog → ℕ → Power Journal JournalAtRest → Ledger
ledger_after ctx logs number pharmacy = record { pharmacy = number; entries = entries_in (replay ctx (OfPharmacy pharmacy) (calls_of logs (Pharmacy number))) }

-- the ledger of the pharmacy of a number, after the calls of its log, where it is there
abbrev pub ledger_at : WorldSettings → List NodeLog → ℕ → Option Ledger
ledger_at s logs number = option_map (ledger_after (context_of s) logs number) (numbered (opening (settings_seen s)).pharmacies number)

-- the ledgers of pharmacies that are numbered from this number on
abbrev pub ledgers_from : Context → List NodeLog → ℕ → List (Power Journal JournalAtRest) → List Ledger
ledgers_from ctx logs number [] = []
ledgers_from ctx logs number (pharmacy ∷ more) = ledger_after ctx logs number pharmacy ∷ ledgers_from ctx logs (number + 1) more

-- the ledger of a pharmacy in a world: its number, and the entries of its journal, where the pharmacy is there
abbrev pub ledger_in : World → ℕ → Option Ledger
ledger_in w number = option_map (λ j. record { pharmacy = number; entries = j.entries }) (journal_at w number)

-- the ledgers are those of the pharmacies of a world, each at its number
abbrev pub AreOfWorld : List Ledger → World → Type 0
AreOfWorld ledgers w = (number : ℕ) → numbered ledgers number ≡ ledger_in w number

-- the ledgers of all pharmacies of the settings, each after the calls of its log
abbrev pub ledgers_of : WorldSettings → List NodeLog → List Ledger
ledgers_of s logs = ledgers_from (context_of s) logs 1 (opening (settings_seen s)).pharmacies
