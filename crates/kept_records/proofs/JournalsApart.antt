-- No two journals share a text.
use Rattle.std.proofs.Common.{◌≡◌, inl, inr, ℕ, suc, ◌+◌, ◌<◌, ◌≤◌, ◌^◌, ◌==◌, Bool, true, false, cond, List, [], ◌∷◌, ◌++◌, length, slice_get, Some, refl, sym, subst, ◌∙◌, ap, arith}
use Rattle.std.proofs.lemmas.Bool.{eqb-true, eq-eqb, false≢true}
use Rattle.claim_model.specs.Journal.{JournalAtRest, RetryRule, Kept, opening_rule}
use Rattle.claim_model.specs.Limits.{most_entries}
use Rattle.codec.proofs.CodecLaws.{apart}
use Rattle.kept_records.specs.declared.journal_parts.JournalHead.{JournalHead}
use Rattle.kept_records.specs.Entries.{entries_text}
use Rattle.pharmacy_journal.specs.Resting.{without_entries}
use Rattle.kept_records.specs.Rules.{rule_codec, IsKeptRule, rule_text}
use Rattle.kept_records.specs.Journals.{IsMade, HasKeptRule, HasRuleOf, head_of, journal_text, version_of, kept_text}
use Rattle.kept_records.proofs.Formats.{journal_head_is, entry_is, entry_fits}
use Rattle.kept_records.proofs.JournalsBack.{head_fits}
use Rattle.kept_records.proofs.RuleFormat.{rule_is, kept_fits, version_plain, which}
use Rattle.kept_records.proofs.AddedEntries.{IsShort, added_all_short}

-- the same bytes are the same entries
same_entries : (number : ℕ) (es fs : List Kept) → number + length es < 2 ^ 64
    → ((place : ℕ) (kept : Kept) → slice_get es place ≡ Some kept → IsShort kept) → ((place : ℕ) (kept : Kept) → slice_get fs place ≡ Some kept → IsShort kept)
    → length es ≡ length fs → entries_text number es ≡ entries_text number fs → es ≡ fs
unfolding entries_text
same_entries number [] [] small short brief count h = refl
same_entries number [] (f ∷ fs) small short brief count h = absurd (omega arith)
same_entries number (e ∷ es) [] small short brief count h = absurd (omega arith)
same_entries number (e ∷ es) (f ∷ fs) small short brief count h =
    let first = apart entry_is (number, e) (number, f) (entries_text (number + 1) es) (entries_text (number + 1) fs) (entry_fits number e (omega arith) (short 0 e refl)) (entry_fits number f (omega arith) (brief 0 f refl)) h in
    let others : es ≡ fs = same_entries (number + 1) es fs (omega arith) (λ place kept at. short (suc place) kept at) (λ place kept at. brief (suc place) kept at) (omega arith) first.1 in
    ap (λ (p : ℕ × Kept). p.1 ∷ es) first.0 ∙ ap (λ ks. f ∷ ks) others

-- the rules, and what follows them
rules_apart : (version : ℕ) (r t : RetryRule) (es fs : List ℕ) → (version ≡ 3 → IsKeptRule r) → (version ≡ 3 → IsKeptRule t) → rule_text version r ++ es ≡ rule_text version t ++ fs → (version ≡ 3 → r ≡ t) × (es ≡ fs)
rules_apart version r t es fs kept also h = by_test (version == 3) refl h
  where
    by_test : (b : Bool) → (version == 3) ≡ b → cond b (rule_codec.text r) [] ++ es ≡ cond b (rule_codec.text t) [] ++ fs → (version ≡ 3 → r ≡ t) × (es ≡ fs)
    by_test true e h =
        let three : version ≡ 3 = eqb-true version 3 e in
        let parts = apart rule_is r t es fs (kept_fits r (kept three)) (kept_fits t (also three)) h in
        (λ v. parts.0, parts.1)
    by_test false e h = (λ v. absurd (false≢true (sym e ∙ eq-eqb version 3 v)), h)

-- journals of one text
pub record AreAlike (version other : ℕ) (j k : JournalAtRest) : Type 0 where
  pub versions : version ≡ other
  pub numbers : j.number ≡ k.number
  pub entries : j.entries ≡ k.entries
  pub rules : version ≡ 3 → j.rule ≡ k.rule

alike : (version other : ℕ) (j k : JournalAtRest) → IsMade j → IsMade k → HasRuleOf version j → HasRuleOf other k → j.number < 2 ^ 16 → k.number < 2 ^ 16 → length j.entries ≤ most_entries → length k.entries ≤ most_entries → journal_text version j ≡ journal_text other k
    → AreAlike version other j k
unfolding journal_text
alike version other j k made also rule ruled small little few less h =
    let one : JournalHead = head_of version j.number (length j.entries) in
    let two : JournalHead = head_of other k.number (length k.entries) in
    let heads = apart journal_head_is one two (rule_text version j.rule ++ entries_text 1 j.entries) (rule_text other k.rule ++ entries_text 1 k.entries) (head_fits version j.number (length j.entries) small (omega arith)) (head_fits other k.number (length k.entries) little (omega arith)) h in
    let versions : version ≡ other = ap (λ (p : JournalHead). p.version) heads.0 in
    let rules = rules_apart version j.rule k.rule (entries_text 1 j.entries) (entries_text 1 k.entries) rule (subst (λ v. HasRuleOf v k) (sym versions) ruled) (heads.1 ∙ ap (λ v. rule_text v k.rule ++ entries_text 1 k.entries) (sym versions)) in
    record {
      versions = versions;
      numbers = ap (λ (p : JournalHead). p.number) heads.0;
      entries = same_entries 1 j.entries k.entries (omega arith) (added_all_short (without_entries j) j j.entries made) (added_all_short (without_entries k) k k.entries also) (ap (λ (p : JournalHead). p.count) heads.0) rules.1;
      rules = rules.0;
    }

pub same_text : (version other : ℕ) (j k : JournalAtRest) → IsMade j → IsMade k → HasRuleOf version j → HasRuleOf other k → j.number < 2 ^ 16 → k.number < 2 ^ 16 → length j.entries ≤ most_entries → length k.entries ≤ most_entries → journal_text version j ≡ journal_text other k
    → (version ≡ other) × (j.number ≡ k.number) × (j.entries ≡ k.entries) × (version ≡ 3 → j.rule ≡ k.rule)
same_text version other j k made also rule ruled small little few less h =
    let a = alike version other j k made also rule ruled small little few less h in
    (a.versions, a.numbers, a.entries, a.rules)

-- the rule that the text has is kept
has_rule_of : (j : JournalAtRest) → HasKeptRule j → HasRuleOf (version_of j) j
has_rule_of j (inl own) three = absurd (omega (arith, three, version_plain j.settings j.rule own))
has_rule_of j (inr is) three = is

-- journals under the same settings, as they are written
pub same_written : (j k : JournalAtRest) → IsMade j → IsMade k → HasKeptRule j → HasKeptRule k → j.number < 2 ^ 16 → k.number < 2 ^ 16 → length j.entries ≤ most_entries → length k.entries ≤ most_entries → j.settings ≡ k.settings → kept_text j ≡ kept_text k → j ≡ k
same_written j k made also rule ruled small little few less under h =
    let a = alike (version_of j) (version_of k) j k made also (has_rule_of j rule) (has_rule_of k ruled) small little few less h in
    let rules : j.rule ≡ k.rule = elim (which j.settings j.rule) [
      | inl own ↦ elim (which k.settings k.rule) [
        | inl owned ↦ own.0 ∙ ap opening_rule under ∙ sym owned.0
        | inr other ↦ absurd (omega (arith, a.versions, own.1, other.1))
      ]
      | inr other ↦ a.rules other.1
    ] in
    λ i. record { number = a.numbers i; settings = under i; rule = rules i; entries = a.entries i }
