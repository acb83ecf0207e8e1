-- What is read as a journal is its text.
use Rattle.std.proofs.Common.{◌≡◌, ◌⊎◌, inl, inr, ℕ, ◌==◌, ◌&&◌, Bool, true, false, cond, List, [], ◌++◌, length, Some, Ok, refl, subst, sym, ◌∙◌, ap, append-nil}
use Rattle.std.specs.List.{list_all}
use Rattle.std.proofs.lemmas.Bool.{and_parts, eqb-true, eq-eqb, false≢true}
use Rattle.claim_model.specs.Journal.{PharmacySettings, JournalAtRest, RetryRule, Kept, opening_rule, with_rule}
use Rattle.codec.specs.Laws.{AreBytes, IsTaken}
use Rattle.kept_records.specs.declared.fault.RecordFault.TheVariants.{Short, Version, NotABook}
use Rattle.kept_records.specs.declared.journal_parts.JournalHead.{JournalHead}
use Rattle.kept_records.specs.Heads.{journal_name, journal_head_codec}
use Rattle.kept_records.specs.Entries.{entries_text}
use Rattle.kept_records.specs.Faults.{◌>>=◌, when_or, each_in}
use Rattle.kept_records.specs.Journals.{IsTextOf, IsKept, HasKeptRule, empty_journal, head_of, journal_text, head_in, ruled_in, entry_in, entries_in, journal_in}
use Rattle.kept_records.specs.Rules.{same_rule, IsKeptRule, rule_codec, rule_text, rule_at}
use Rattle.kept_records.specs.Versions.{is_journal_version, fits_version}
use Rattle.kept_records.proofs.Chains.{some_or_then, when_or_then, when_or_ok, result_then, ok_same, of_journal_version}
use Rattle.kept_records.proofs.Formats.{journal_head_is}
use Rattle.kept_records.proofs.RuleFormat.{version_plain, version_other, rule_at_taken}
use Rattle.kept_records.proofs.Loops.{all_read}
use Rattle.kept_records.proofs.AddedEntries.{added_all_is}
use Rattle.kept_records.proofs.EntriesOnly.{AreEntries, entries_are}

-- ---- the head

-- a head that is asked for
record IsHead (number : ℕ) (bytes : List ℕ) (h : JournalHead) (rest : List ℕ) : Type 0 where
  taken : IsTaken bytes (journal_head_codec.text (head_of h.version number h.count)) rest
  known : is_journal_version h.version ≡ true

head_in_taken : (number : ℕ) (bytes : List ℕ) (h : JournalHead) (rest : List ℕ) → AreBytes bytes → head_in number bytes ≡ Ok (h, rest) → IsHead number bytes h rest
unfolding head_in
head_in_taken number bytes h rest are e =
    let a = some_or_then Short (journal_head_codec.at bytes) (λ head. when_or NotABook (head.0.mark == journal_name && head.0.number == number) head >>= λ own. when_or Version (is_journal_version head.0.version) own) (h, rest) e in
    let p : JournalHead × List ℕ = a.0 in
    let b = when_or_then NotABook (p.0.mark == journal_name && p.0.number == number) p (λ own. when_or Version (is_journal_version p.0.version) own) (h, rest) a.2 in
    let c = when_or_ok Version (is_journal_version p.0.version) p (h, rest) b.1 in
    made p.0 p.1 a.1 (and_parts (p.0.mark == journal_name) (p.0.number == number) b.0) c.0 c.1
  where
    made : (found : JournalHead) (tail : List ℕ) → journal_head_codec.at bytes ≡ Some (found, tail) → ((found.mark == journal_name) ≡ true) × ((found.number == number) ≡ true) → is_journal_version found.version ≡ true
        → ◌≡◌ {A = JournalHead × List ℕ} (found, tail) (h, rest) → IsHead number bytes h rest
    made found tail at own known same =
        let is : found ≡ head_of found.version number found.count = λ i. record { mark = eqb-true found.mark journal_name own.0 i; version = found.version; number = eqb-true found.number number own.1 i; count = found.count } in
        subst (λ (x : JournalHead × List ℕ). IsHead number bytes x.0 x.1) same (record { taken = subst (λ (x : JournalHead). IsTaken bytes (journal_head_codec.text x) tail) is (journal_head_is.only bytes found tail are at).0; known = known })

-- ---- the rule

-- a journal without entries, with the rule that stands there or else that of its settings
record IsRuled (version number : ℕ) (settings : PharmacySettings) (bytes : List ℕ) (j : JournalAtRest) (rest : List ℕ) : Type 0 where
  rule : RetryRule
  is : j ≡ with_rule rule (empty_journal number settings)
  taken : IsTaken bytes (rule_text version rule) rest
  which : ((version ≡ 3) × IsKeptRule rule × (same_rule rule (opening_rule settings) ≡ false)) ⊎ (((version == 3) ≡ false) × (rule ≡ opening_rule settings))

ruled_in_taken : (version number : ℕ) (settings : PharmacySettings) (bytes : List ℕ) (j : JournalAtRest) (rest : List ℕ) → AreBytes bytes → ruled_in version (empty_journal number settings) bytes ≡ Ok (j, rest) → IsRuled version number settings bytes j rest
unfolding ruled_in
ruled_in_taken version number settings bytes j rest are h = by_test (version == 3) refl h
  where
    by_test : (b : Bool) → (version == 3) ≡ b → cond b (◌>>=◌ {B = JournalAtRest × List ℕ} (rule_at settings bytes) (λ (rule : RetryRule × List ℕ). Ok (with_rule rule.0 (empty_journal number settings), rule.1))) (Ok (empty_journal number settings, bytes)) ≡ Ok (j, rest) → IsRuled version number settings bytes j rest
    by_test true e h =
        let o = result_then (rule_at settings bytes) (λ (rule : RetryRule × List ℕ). Ok (with_rule rule.0 (empty_journal number settings), rule.1)) (j, rest) h in
        let there = rule_at_taken settings bytes o.0.0 o.0.1 are o.1 in
        let text : rule_codec.text o.0.0 ≡ rule_text version o.0.0 = ap (λ (t : Bool). cond t (rule_codec.text o.0.0) []) (sym e) in
        subst (λ (x : JournalAtRest × List ℕ). IsRuled version number settings bytes x.0 x.1) (ok_same (with_rule o.0.0 (empty_journal number settings), o.0.1) (j, rest) o.2)
        (record { rule = o.0.0; is = refl; taken = subst (λ (t : List ℕ). IsTaken bytes t o.0.1) text there.taken; which = inl (eqb-true version 3 e, there.kept, there.other) })
    by_test false e h =
        let text : [] ≡ rule_text version (opening_rule settings) = ap (λ (t : Bool). cond t (rule_codec.text (opening_rule settings)) []) (sym e) in
        subst (λ (x : JournalAtRest × List ℕ). IsRuled version number settings bytes x.0 x.1) (ok_same (empty_journal number settings, bytes) (j, rest) h)
        (record { rule = opening_rule settings; is = refl; taken = subst (λ (t : List ℕ). IsTaken bytes t bytes) text (record { all = refl; rest_bytes = are }); which = inr (e, refl) })

-- ---- the journal

-- the text of a version that is known, with a rule that may stand there
in_version : (version : ℕ) (bytes : List ℕ) (j : JournalAtRest) → is_journal_version version ≡ true → bytes ≡ journal_text version j → list_all (λ (kept : Kept). fits_version version kept.request) j.entries ≡ true
    → ((version ≡ 3) × IsKeptRule j.rule × (same_rule j.rule (opening_rule j.settings) ≡ false)) ⊎ (((version == 3) ≡ false) × (j.rule ≡ opening_rule j.settings)) → HasKeptRule j × IsTextOf bytes j
in_version version bytes j known text suited (inl (three, kept, other)) =
    (inr kept, inl (text ∙ ap (λ v. journal_text v j) (three ∙ sym (version_other j.settings j.rule other))))
in_version version bytes j known text suited (inr (not_three, own)) = (
  inl own,
  elim (of_journal_version version known) [
    | inl three ↦ absurd (false≢true (sym not_three ∙ eq-eqb version 3 three))
    | inr (inl two) ↦ inl (text ∙ ap (λ v. journal_text v j) (two ∙ sym (version_plain j.settings j.rule own)))
    | inr (inr one) ↦ inr (text ∙ ap (λ v. journal_text v j) one, own, subst (λ (v : ℕ). list_all (λ (kept : Kept). fits_version v kept.request) j.entries ≡ true) one suited)
  ],
)

-- a head, a rule and entries that are a journal's text
read_as : (version number count : ℕ) (settings : PharmacySettings) (bytes mid rest : List ℕ) (empty j : JournalAtRest) → is_journal_version version ≡ true → bytes ≡ journal_head_codec.text (head_of version number count) ++ mid
    → IsRuled version number settings mid empty rest → AreEntries version count empty j rest [] → IsKept number settings bytes j
unfolding journal_text
read_as version number count settings bytes mid rest empty j known text ruled found =
    let begun : JournalAtRest = with_rule ruled.rule (empty_journal number settings) in
    let entries : AreEntries version count begun j rest [] = subst (λ (b : JournalAtRest). AreEntries version count b j rest []) ruled.is found in
    let whole : JournalAtRest = record { number = number; settings = settings; rule = ruled.rule; entries = entries.entries } in
    let is : whole ≡ j = sym (added_all_is begun j entries.entries entries.made) in
    let after : mid ≡ rule_text version ruled.rule ++ entries_text 1 entries.entries = ruled.taken.all ∙ ap (λ r. rule_text version ruled.rule ++ r) (entries.taken.all ∙ append-nil (entries_text 1 entries.entries)) in
    let spelled : bytes ≡ journal_text version whole =
    text ∙ ap (λ r. journal_head_codec.text (head_of version number count) ++ r) after
    ∙ ap (λ n. journal_head_codec.text (head_of version number n) ++ (rule_text version ruled.rule ++ entries_text 1 entries.entries)) (sym entries.count) in
    let spells = in_version version bytes whole known spelled entries.suited ruled.which in
    let kept : IsKept number settings bytes whole = record { own_number = refl; own_settings = refl; made = entries.made ∙ ap Some (sym is); rule = spells.0; text = spells.1 } in
    subst (λ (j : JournalAtRest). IsKept number settings bytes j) is kept

pub journal_in_taken : (number : ℕ) (settings : PharmacySettings) (bytes : List ℕ) (j : JournalAtRest) → AreBytes bytes → journal_in number settings bytes ≡ Ok j → IsKept number settings bytes j
unfolding journal_in entries_in
journal_in_taken number settings bytes j are h =
    let o = result_then (head_in number bytes) (λ head. ruled_in head.0.version (empty_journal number settings) head.1 >>= λ ruled. entries_in head.0.version (length bytes) head.0.count ruled.0 ruled.1) j h in
    let head : JournalHead = o.0.0 in
    let front : IsHead number bytes head o.0.1 = head_in_taken number bytes head o.0.1 are o.1 in
    let p = result_then (ruled_in head.version (empty_journal number settings) o.0.1) (λ ruled. entries_in head.version (length bytes) head.count ruled.0 ruled.1) j o.2 in
    let ruled = ruled_in_taken head.version number settings o.0.1 p.0.0 p.0.1 front.taken.rest_bytes p.1 in
    let found = entries_are head.version (length bytes) head.count p.0.0 j p.0.1 [] ruled.taken.rest_bytes (all_read (length bytes) (each_in (entry_in head.version) (length bytes) head.count p.0.0 p.0.1) j p.2) in
    read_as head.version number head.count settings bytes o.0.1 p.0.1 p.0.0 j front.known front.taken.all ruled found
