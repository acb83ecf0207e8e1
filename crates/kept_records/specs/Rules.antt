-- The rule of retries that a journal's text has, where it is another than that of its settings.
use Rattle.std.specs.Prelude.{ℕ, ◌<◌, ◌≤◌, ◌^◌, Bool, not, ◌&&◌, ◌==◌, nat_le, bytes_eq, List, [], length, Result, if◌then◌else◌}
use Rattle.std.specs.List.{AllByRecursion}
use Rattle.claim_model.specs.Journal.{RetryRule, PharmacySettings, opening_rule, is_rounds, most_nodes}
use Rattle.pharmacy_journal.specs.Settings.{rule_made, AreRounds}
use Rattle.codec.specs.Codecs.{Codec, u16, u32, both, of_parts, counted}
use Rattle.kept_records.specs.declared.fault.RecordFault.{RecordFault}
use Rattle.kept_records.specs.declared.fault.RecordFault.TheVariants.{BadRecord}
use Rattle.kept_records.specs.declared.rules.RuleText.{RuleText}
use Rattle.kept_records.specs.Faults.{◌>>=◌, some_or, when_or}

-- after how many ticks it sends again, how often to one switch, and the switches after how many they are
unfoldable pub rule_codec : Codec RetryRule
rule_codec = of_parts (both u32 (both u32 (counted u16 u16))) (λ p. rule_made p.1.1 p.0 p.1.0) (λ r. (r.again, (r.tries, r.nodes)))

-- a rule that was taken
abbrev pub rule_taken : RuleText → RetryRule
rule_taken said = rule_made said.nodes.items said.again said.tries

-- two rules are the same
abbrev pub same_rule : RetryRule → RetryRule → Bool
same_rule r s = (r.again == s.again) && ((r.tries == s.tries) && bytes_eq r.nodes s.nodes)

-- 1 to 1,000 ticks, as many tries, and 1 to 4,096 switches
abbrev pub can_stand : RetryRule → Bool
can_stand r = is_rounds r.again && (is_rounds r.tries && (not (length r.nodes == 0) && nat_le (length r.nodes) most_nodes))

-- the same, and the number of each switch has two bytes
pub record IsKeptRule (r : RetryRule) : Type 0 where
  pub rounds : AreRounds r.again r.tries
  pub some_node : 0 < length r.nodes
  pub few : length r.nodes ≤ most_nodes
  pub fits : AllByRecursion (λ node. node < 2 ^ 16) r.nodes

-- the version in which the journal of a pharmacy with these settings that goes by this rule is written
abbrev pub version_by : PharmacySettings → RetryRule → ℕ
version_by settings r = if same_rule r (opening_rule settings) then 2 else 3

-- what the text of this version has of the rule
abbrev pub rule_text : ℕ → RetryRule → List ℕ
rule_text version r = if version == 3 then rule_codec.text r else []

-- the rule that stands after the head, another than that of these settings, and what follows it, or what is wrong with it
unfoldable pub rule_at : PharmacySettings → List ℕ → Result (RetryRule × List ℕ) RecordFault
rule_at settings bytes = do
  rule ← some_or (BadRecord 9) (rule_codec.at bytes)
  standing ← when_or (BadRecord 9) (can_stand rule.0) rule
  when_or (BadRecord 9) (not (same_rule standing.0 (opening_rule settings))) standing
