-- A log that is written under another head, with all that was noted of its calls.
use Rattle.std.proofs.Common.{◌≡◌, ℕ, List, [], ◌++◌, Ok, refl, sym, ap, ◌∙◌, subst, append-nil}
use Rattle.claim_model.specs.Node.{Node}
use Rattle.world_setup.specs.Seen.{node_seen}
use Rattle.kept_logs.specs.declared.appending.Appended.{Appended}
use Rattle.kept_logs.specs.Stamps.{KeptLog}
use Rattle.kept_logs.specs.Digests.{version_of}
use Rattle.kept_logs.specs.Logs.{KeptReading, head_text, calls_text, kept_text, kept_in, KeptAs}
use Rattle.kept_logs.specs.Fits.{FitsKept}
use Rattle.kept_logs.specs.Cuts.{IsLogOf}
use Rattle.kept_logs.specs.Appending.{IsAppended}
use Rattle.settings_digest.specs.Digests.{digest_in}
use Rattle.log_growth.specs.Over.{IsMoved}

-- a log that is begun is of version 2
pub second : (text : List ℕ) → version_of (digest_in text) ≡ 2
unfolding digest_in
second text = refl

-- a head, and the records after it
under_head : (new : List ℕ) (log : KeptLog) (node : Node) (head records : List ℕ) → version_of new ≡ 2 → log.node ≡ node → head ≡ kept_text new (record { node = node; calls = [] }) → records ≡ calls_text 2 1 log.calls
    → head ++ records ≡ kept_text new log
unfolding kept_text calls_text
under_head new log node head records version own begins are =
    let front : List ℕ = head_text new node in
    ap (λ (t : List ℕ). t ++ records) (begins ∙ append-nil front)
    ∙ (ap (λ (t : List ℕ). front ++ t) (are ∙ ap (λ (v : ℕ). calls_text v 1 log.calls) (sym version))
    ∙ ap (λ (n : Node). head_text new n ++ calls_text (version_of new) 1 log.calls) (sym own))

-- what was appended, after a head, is the log that was read
pub is_moved : (old new bytes : List ℕ) (a : Appended) (head records written : List ℕ) → version_of new ≡ 2 → IsAppended old bytes 0 [] records a
    → ((read : KeptReading) → kept_in old bytes ≡ Ok read → IsLogOf old bytes read) → ((log : KeptLog) → FitsKept log → KeptAs new (kept_text new log) log)
    → head ≡ kept_text new (record { node = node_seen a.node; calls = [] }) → written ≡ head ++ records → IsMoved old new bytes (node_seen a.node) written
is_moved old new bytes a head records written version appended its_text reads_back begins all =
    let read : KeptReading = record { log = appended.log; whole = a.whole } in
    let fits : FitsKept appended.log = (its_text read appended.read).fits in
    let text : written ≡ kept_text new appended.log = all ∙ under_head new appended.log (node_seen a.node) head records version appended.own begins appended.text in
    record {
      read = read;
      reads = appended.read;
      own = appended.own;
      is = text;
      back = subst (λ (t : List ℕ). KeptAs new t appended.log) (sym text) (reads_back appended.log fits);
    }
