use Rattle.kept_records.proofs.JournalsOnly.{journal_in_taken}
use Rattle.kept_records.proofs.journal_laws.journal_is_its_text.Goals as goal

pub returns : goal.returns
returns c = λ number settings bytes j are h. journal_in_taken number settings bytes j (record { below = are }) h
