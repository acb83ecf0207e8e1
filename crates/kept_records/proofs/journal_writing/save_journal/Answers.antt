use Rattle.std.proofs.Common.{◌≡◌, ◌≤◌, ◌++◌, length, ap, sym, ◌∙◌, arith}
use Rattle.claim_model.specs.Journal.{Journal, stopped}
use Rattle.claim_model.specs.Limits.{most_entries}
use Rattle.kept_records.specs.Heads.{journal_head_codec}
use Rattle.kept_records.specs.Rules.{rule_text}
use Rattle.kept_records.specs.Journals.{head_of}
use Rattle.kept_records.proofs.AddedEntries.{entries_stopped}
use Rattle.kept_records.proofs.JournalsWritten.{put_back}
use Rattle.kept_records.proofs.journal_writing.save_journal.Goals as goal

pub returns-clause-read : goal.returns-clause-read
unfolding stopped
returns-clause-read c =
    let p : Journal = c.args.pharmacy.now in
    let count : c.entries.result ≡ length (stopped p).entries = c.entries.ensures.value ∙ sym (entries_stopped p) in
    let few : length (stopped p).entries ≤ most_entries = omega (arith, count, c.entries.ensures.small) in
    put_back (stopped p) c.settings.result.now c.rule-rule.result.now c.version_by-version.result c.put_running.new.text.items c.settings.ensures.value c.rule-rule.ensures.value c.version_by-version.ensures c.in_ok-put_rule_of.ensures.kept c.entries.ensures.made (omega (arith, c.number.ensures.value)) few
    (record {
      none = c.new-text.result.items;
      head = c.put_head.new.text.items;
      ruled = c.put_rule_of.new.text.items;
      empty = c.new-text.ensures.items;
      begun = c.in_ok-put_head.ensures ∙ ap (λ n. c.new-text.result.items ++ journal_head_codec.text (head_of c.version_by-version.result n c.entries.result)) c.number.ensures.value ∙ ap (λ n. c.new-text.result.items ++ journal_head_codec.text (head_of c.version_by-version.result p.number n)) count;
      rule = c.in_ok-put_rule_of.ensures.text ∙ ap (λ r. c.put_head.new.text.items ++ rule_text c.version_by-version.result r) c.rule-rule.ensures.value;
      entries = c.in_ok-put_running.ensures;
    })
