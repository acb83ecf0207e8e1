-- What is written, part by part, is read as the journal.
use Rattle.std.proofs.Common.{◌≡◌, ℕ, ◌<◌, ◌≤◌, ◌^◌, List, [], ◌++◌, length, Ok, subst, ap, ◌∙◌, append_assoc}
use Rattle.claim_model.specs.Journal.{JournalAtRest, PharmacySettings, RetryRule}
use Rattle.claim_model.specs.Limits.{most_entries}
use Rattle.kept_records.specs.Heads.{journal_head_codec}
use Rattle.kept_records.specs.Entries.{entries_text}
use Rattle.kept_records.specs.Rules.{IsKeptRule, version_by, rule_text}
use Rattle.kept_records.specs.Journals.{IsMade, head_of, journal_text, version_of, journal_in}
use Rattle.kept_records.proofs.RuleFormat.{has_kept}
use Rattle.kept_records.proofs.JournalsBack.{written_back}

-- the parts that were put, one after the other, are the text
pub record ArePut (j : JournalAtRest) (version : ℕ) (all : List ℕ) : Type 0 where
  pub none : List ℕ
  pub head : List ℕ
  pub ruled : List ℕ
  pub empty : none ≡ []
  pub begun : head ≡ none ++ journal_head_codec.text (head_of version j.number (length j.entries))
  pub rule : ruled ≡ head ++ rule_text version j.rule
  pub entries : all ≡ ruled ++ entries_text 1 j.entries

pub are_text : (j : JournalAtRest) (version : ℕ) (all : List ℕ) → ArePut j version all → all ≡ journal_text version j
unfolding journal_text
are_text j version all put =
    let head : List ℕ = journal_head_codec.text (head_of version j.number (length j.entries)) in
    let begun : put.head ≡ head = put.begun ∙ ap (λ t. t ++ head) put.empty in
    put.entries ∙ ap (λ t. t ++ entries_text 1 j.entries) (put.rule ∙ ap (λ t. t ++ rule_text version j.rule) begun) ∙ append_assoc head (rule_text version j.rule) (entries_text 1 j.entries)

pub put_back : (j : JournalAtRest) (settings : PharmacySettings) (rule : RetryRule) (version : ℕ) (all : List ℕ) → settings ≡ j.settings → rule ≡ j.rule → version ≡ version_by settings rule → (version ≡ 3 → IsKeptRule rule)
    → IsMade j → j.number < 2 ^ 16 → length j.entries ≤ most_entries → ArePut j version all → journal_in j.number j.settings all ≡ Ok j
put_back j settings rule version all under by own kept made small few put =
    let is : version ≡ version_of j = own ∙ ap (λ s. version_by s rule) under ∙ ap (version_by j.settings) by in
    let has : version ≡ 3 → IsKeptRule j.rule = λ three. subst IsKeptRule by (kept three) in
    ap (journal_in j.number j.settings) (are_text j version all put ∙ ap (λ v. journal_text v j) is)
    ∙ written_back j made (has_kept j (λ three. has (is ∙ three))) small few
