-- The text of a journal is read as that journal.
use Rattle.std.proofs.Common.{◌≡◌, inl, inr, ℕ, ◌<◌, ◌≤◌, ◌^◌, ◌==◌, true, false, List, [], ◌∷◌, ◌++◌, length, Ok, lit<, refl, sym, ◌∙◌, ap, arith}
use Rattle.std.proofs.lemmas.Bool.{eq-eqb, false≢true}
use Rattle.std.specs.List.{list_all}
use Rattle.claim_model.specs.Journal.{JournalAtRest, RetryRule, Kept, opening_rule}
use Rattle.claim_model.specs.Limits.{most_entries}
use Rattle.pharmacy_journal.specs.Resting.{without_entries}
use Rattle.kept_records.specs.Heads.{journal_head_codec}
use Rattle.kept_records.specs.Entries.{entries_text}
use Rattle.kept_records.specs.Rules.{same_rule, IsKeptRule, rule_text}
use Rattle.kept_records.specs.Journals.{IsMade, HasKeptRule, empty_journal, head_of, journal_text, kept_text, head_in, ruled_in, entries_in, journal_in}
use Rattle.kept_records.specs.Versions.{is_journal_version, fits_version}
use Rattle.kept_records.proofs.Formats.{journal_head_is}
use Rattle.kept_records.proofs.RuleFormat.{rule_self, rule_at-put, which}
use Rattle.kept_records.proofs.Loops.{none_more}
use Rattle.kept_records.proofs.EntriesBack.{entries_in-put}

pub head_fits : (version number count : ℕ) → number < 2 ^ 16 → count < 2 ^ 32 → journal_head_codec.Fits (head_of version number count)
unfolding journal_head_codec
head_fits version number count small few = (lit< tt, (tt, (small, few)))

head_in-put : (version number count : ℕ) (rest : List ℕ) → number < 2 ^ 16 → count < 2 ^ 32 → is_journal_version version ≡ true
    → head_in number (journal_head_codec.text (head_of version number count) ++ rest) ≡ Ok (head_of version number count, rest)
unfolding head_in
head_in-put version number count rest small few known =
    rw (journal_head_is.back (head_of version number count) rest (head_fits version number count small few), eq-eqb number number refl, known) refl

-- a journal that can be made, in a version that its requests and its rule suit
journal_in-put : (version : ℕ) (j : JournalAtRest) → IsMade j → j.number < 2 ^ 16 → length j.entries < 2 ^ 32 → is_journal_version version ≡ true → list_all (λ (kept : Kept). fits_version version kept.request) j.entries ≡ true
    → ruled_in version (empty_journal j.number j.settings) (rule_text version j.rule ++ entries_text 1 j.entries) ≡ Ok (without_entries j, entries_text 1 j.entries)
    → journal_in j.number j.settings (journal_text version j) ≡ Ok j
unfolding journal_in journal_text entries_in
journal_in-put version j made small few known suited ruled =
    let after : List ℕ = rule_text version j.rule ++ entries_text 1 j.entries in
    let total : ℕ = length (journal_head_codec.text (head_of version j.number (length j.entries)) ++ after) in
    rw (head_in-put version j.number (length j.entries) after small few known, ruled)
    (none_more total _ j (entries_in-put version total (without_entries j) j j.entries (omega arith) made suited))

-- a text without a rule is read with that of the settings
plainly : (version : ℕ) (j : JournalAtRest) (rest : List ℕ) → (version == 3) ≡ false → j.rule ≡ opening_rule j.settings → ruled_in version (empty_journal j.number j.settings) (rule_text version j.rule ++ rest) ≡ Ok (without_entries j, rest)
unfolding ruled_in
plainly version j rest none is = rw none (ap (λ (r : RetryRule). Ok (record { number = j.number; settings = j.settings; rule = r; entries = [] }, rest)) (sym is))

-- and one with a rule, with that
anew : (j : JournalAtRest) (rest : List ℕ) → IsKeptRule j.rule → same_rule j.rule (opening_rule j.settings) ≡ false → ruled_in 3 (empty_journal j.number j.settings) (rule_text 3 j.rule ++ rest) ≡ Ok (without_entries j, rest)
unfolding ruled_in
anew j rest is other = rw (rule_at-put j.settings j.rule rest is other) refl

-- version 2 suits every request, and so does version 3
all_suit : (entries : List Kept) → list_all (λ (kept : Kept). fits_version 2 kept.request) entries ≡ true
all_suit [] = refl
all_suit (kept ∷ entries) = all_suit entries

all_suit_three : (entries : List Kept) → list_all (λ (kept : Kept). fits_version 3 kept.request) entries ≡ true
all_suit_three [] = refl
all_suit_three (kept ∷ entries) = all_suit_three entries

-- a rule that is another than that of the settings is one that a text may have
not_own : (j : JournalAtRest) → HasKeptRule j → same_rule j.rule (opening_rule j.settings) ≡ false → IsKeptRule j.rule
not_own j (inl own) other = absurd (false≢true (sym other ∙ ap (λ r. same_rule r (opening_rule j.settings)) own ∙ rule_self (opening_rule j.settings)))
not_own j (inr is) other = is

-- a journal that can be made, as it is written
pub written_back : (j : JournalAtRest) → IsMade j → HasKeptRule j → j.number < 2 ^ 16 → length j.entries ≤ most_entries → journal_in j.number j.settings (kept_text j) ≡ Ok j
written_back j made rule small few = elim (which j.settings j.rule) [
  | inl own ↦ ap (λ version. journal_in j.number j.settings (journal_text version j)) own.1 ∙ journal_in-put 2 j made small (omega arith) refl (all_suit j.entries) (plainly 2 j (entries_text 1 j.entries) refl own.0)
  | inr other ↦ ap (λ version. journal_in j.number j.settings (journal_text version j)) other.1 ∙ journal_in-put 3 j made small (omega arith) refl (all_suit_three j.entries) (anew j (entries_text 1 j.entries) (not_own j rule other.0) other.0)
]

-- and in version 1
pub earlier_back : (j : JournalAtRest) → IsMade j → j.rule ≡ opening_rule j.settings → j.number < 2 ^ 16 → length j.entries ≤ most_entries → list_all (λ (kept : Kept). fits_version 1 kept.request) j.entries ≡ true → journal_in j.number j.settings (journal_text 1 j) ≡ Ok j
earlier_back j made own small few single = journal_in-put 1 j made small (omega arith) refl single (plainly 1 j (entries_text 1 j.entries) refl own)
