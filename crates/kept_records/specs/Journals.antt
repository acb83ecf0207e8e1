-- A journal at rest: its text, and what bytes are as a journal, or the first fault that stands.
use Rattle.std.specs.Prelude.{◌≡◌, ◌⊎◌, IsTrue, ℕ, ◌+◌, Bool, ◌&&◌, ◌==◌, List, ◌++◌, length, Result, Ok, if◌then◌else◌}
use Rattle.std.specs.List.{list_all}
use Rattle.claim_profile.specs.Readable.{readable_header}
use Rattle.claim_model.specs.Journal.{PharmacySettings, opening_rule, JournalAtRest, Kept, with_rule}
pub use Rattle.pharmacy_journal.specs.Resting.{empty_journal}
use Rattle.pharmacy_journal.specs.Resting.{added, IsMadeByAdding}
use Rattle.kept_records.specs.declared.journal_parts.JournalHead.{JournalHead}
use Rattle.kept_records.specs.declared.fault.RecordFault.{RecordFault}
use Rattle.kept_records.specs.declared.fault.RecordFault.TheVariants.{Short, Version, BadRecord, NumberOrder, NotABook}
use Rattle.kept_records.specs.Heads.{journal_name, journal_head_codec}
use Rattle.kept_records.specs.Entries.{entries_text, entry_codec}
use Rattle.kept_records.specs.Rules.{IsKeptRule, version_by, rule_text, rule_at}
use Rattle.kept_records.specs.Versions.{is_journal_version, has_one, fits_version}
use Rattle.kept_records.specs.Faults.{◌>>=◌, some_or, when_or, each_in, ended}

-- the head of a journal with this many entries
abbrev pub head_of : ℕ → ℕ → ℕ → JournalHead
head_of version number count = record { mark = journal_name; version = version; number = number; count = count }

-- the text of a journal: the head; in version 3 the rule of retries; and the entries
unfoldable pub journal_text : ℕ → JournalAtRest → List ℕ
journal_text version j = journal_head_codec.text (head_of version j.number (length j.entries)) ++ (rule_text version j.rule ++ entries_text 1 j.entries)

-- the version in which a journal is written: 2 where its rule is that of its settings, 3 where it is another
abbrev pub version_of : JournalAtRest → ℕ
version_of j = version_by j.settings j.rule

-- the text as which a journal is written
abbrev pub kept_text : JournalAtRest → List ℕ
kept_text j = journal_text (version_of j) j

-- a journal that can be made: of its entries, added one by one
abbrev pub IsMade : JournalAtRest → Type 0
IsMade j = IsMadeByAdding j

-- its rule is that of its settings, or one that a text may have
abbrev pub HasKeptRule : JournalAtRest → Type 0
HasKeptRule j = (j.rule ≡ opening_rule j.settings) ⊎ IsKeptRule j.rule

-- in version 3, a text may have its rule
abbrev pub HasRuleOf : ℕ → JournalAtRest → Type 0
HasRuleOf version j = version ≡ 3 → IsKeptRule j.rule

-- a readable request of exactly one transaction
abbrev pub is_single : List ℕ → Bool
is_single request = has_one (readable_header request)

-- each request of a journal has exactly one transaction
abbrev pub all_single : List Kept → Bool
all_single entries = list_all (λ kept. is_single kept.request) entries

-- bytes are the text of this journal: the one that is written, or of version 1 where its rule is that of its settings and each request has exactly one
-- transaction
abbrev pub IsTextOf : List ℕ → JournalAtRest → Type 0
IsTextOf bytes j = (bytes ≡ kept_text j) ⊎ ((bytes ≡ journal_text 1 j) × (j.rule ≡ opening_rule j.settings) × IsTrue (all_single j.entries))

-- bytes are the text of this journal, which has this number and these settings and can be made, and whose rule a text may have
pub record IsKept (number : ℕ) (settings : PharmacySettings) (bytes : List ℕ) (j : JournalAtRest) : Type 0 where
  pub own_number : j.number ≡ number
  pub own_settings : j.settings ≡ settings
  pub made : IsMade j
  pub rule : HasKeptRule j
  pub text : IsTextOf bytes j

-- the head at the front and what follows it, or what is wrong with it
unfoldable pub head_in : ℕ → List ℕ → Result (JournalHead × List ℕ) RecordFault
head_in number bytes = do
  head ← some_or Short (journal_head_codec.at bytes)
  own ← when_or NotABook (head.0.mark == journal_name && head.0.number == number) head
  when_or Version (is_journal_version head.0.version) own

-- in version 3, the journal with the rule at the front, and what follows it, or what is wrong with it
unfoldable pub ruled_in : ℕ → JournalAtRest → List ℕ → Result (JournalAtRest × List ℕ) RecordFault
ruled_in version j bytes = if version == 3 then (rule_at j.settings bytes >>= λ rule. Ok (with_rule rule.0 j, rule.1)) else Ok (j, bytes)

-- the journal with the entry at the front and what follows it, or what is wrong with it
unfoldable pub entry_in : ℕ → ℕ → JournalAtRest → List ℕ → Result (JournalAtRest × List ℕ) RecordFault
entry_in version place j bytes = do
  entry ← some_or (BadRecord place) (entry_codec.at bytes)
  longer ← some_or (BadRecord place) (added j entry.0.1.request entry.0.1.answer)
  fitting ← when_or (BadRecord place) (fits_version version entry.0.1.request) longer
  when_or (NumberOrder place) (entry.0.0 == length j.entries + 1) (fitting, entry.1)

-- the journal with this many entries more, which are all of these bytes, the last of this many; or the first fault
unfoldable pub entries_in : ℕ → ℕ → ℕ → JournalAtRest → List ℕ → Result JournalAtRest RecordFault
entries_in version total left j bytes = each_in (entry_in version) total left j bytes >>= ended total

-- the journal of this number that bytes are, or the first fault
unfoldable pub journal_in : ℕ → PharmacySettings → List ℕ → Result JournalAtRest RecordFault
journal_in number settings bytes = do
  head ← head_in number bytes
  ruled ← ruled_in head.0.version (empty_journal number settings) head.1
  entries_in head.0.version (length bytes) head.0.count ruled.0 ruled.1

-- bytes are this journal, read with its number and its settings
abbrev pub ReadsAs : List ℕ → JournalAtRest → Type 0
ReadsAs bytes j = journal_in j.number j.settings bytes ≡ Ok j
