-- Calls that are read out of records, while what was noted of them is passed over.
use Rattle.std.proofs.Common.{◌≡◌, ℕ, ◌+◌, ◌-◌, ◌<◌, ◌≤◌, List, [], ◌∷◌, ◌++◌, length, Some, None, Ok, Err, refl, sym, ap, ◌∙◌}
use Rattle.std.proofs.lemmas.List.{map-append}
use Rattle.claim_model.specs.Node.{Node}
use Rattle.claim_model.specs.Logs.{Logged, NodeLog}
use Rattle.kept_logs.specs.Stamps.{Stamped, bare_calls}
use Rattle.kept_logs.specs.declared.fault.LogFault.{LogFault}
use Rattle.kept_logs.specs.Logs.{behind, calls_in, record_in, records_in}
use Rattle.kept_logs.specs.LogSeen.{CallsAre}
use Rattle.kept_logs.proofs.Loops.{calls_begin, calls_taken, calls_cut, calls_stop, calls_all}

-- what was read and then what is left is all
pub record ReadSoFar (version total : ℕ) (bytes : List ℕ) (own : Node) (log : NodeLog) (place : ℕ) (rest : List ℕ) : Type 0 where
  pub calls : List Stamped
  pub same : calls_in version total 1 (length bytes) bytes ≡ behind calls (calls_in version total (place + 1) (length bytes - place) rest)
  pub are : bare_calls calls ≡ log.calls
  pub node : log.node ≡ own

pub nothing_read : (version total : ℕ) (bytes : List ℕ) (own : Node) (log : NodeLog) → log ≡ record { node = own; calls = [] } → ReadSoFar version total bytes own log 0 bytes
nothing_read version total bytes own log new = record {
  calls = [];
  same = calls_begin version total bytes [] refl;
  are = ap (λ (l : NodeLog). l.calls) (sym new);
  node = ap (λ (l : NodeLog). l.node) new;
}

-- one call more was read, and stands after the others
pub one_more_read : (version total : ℕ) (bytes : List ℕ) (own : Node) (log kept next : NodeLog) (place : ℕ) (rest after : List ℕ) (entry : Stamped)
    → ReadSoFar version total bytes own log place rest → place < length bytes → record_in version (place + 1) (total - length rest) rest ≡ Ok (Some (entry, after))
    → kept ≡ log → next ≡ record { node = kept.node; calls = kept.calls ++ entry.logged ∷ [] } → ReadSoFar version total bytes own next (place + 1) after
one_more_read version total bytes own log kept next place rest after entry so_far within read same longer = record {
  calls = so_far.calls ++ entry ∷ [];
  same = so_far.same ∙ calls_taken version total (length bytes) place so_far.calls rest entry after within read;
  are = map-append (λ (r : Stamped). r.logged) so_far.calls (entry ∷ []) ∙ ap (λ (cs : List Logged). cs ++ entry.logged ∷ []) (so_far.are ∙ sym (ap (λ (l : NodeLog). l.calls) same)) ∙ sym (ap (λ (l : NodeLog). l.calls) longer);
  node = ap (λ (l : NodeLog). l.node) longer ∙ ap (λ (l : NodeLog). l.node) same ∙ so_far.node;
}

-- the record that stands here is cut off, so all were read
pub read_to_here : (version total : ℕ) (bytes : List ℕ) (own : Node) (log : NodeLog) (place : ℕ) (rest : List ℕ)
    → ReadSoFar version total bytes own log place rest → place < length bytes → record_in version (place + 1) (total - length rest) rest ≡ Ok None → CallsAre (records_in version total bytes) log own (length rest)
read_to_here version total bytes own log place rest so_far within read = record {
  calls = so_far.calls;
  rest = rest;
  read = so_far.same ∙ calls_cut version total (length bytes) place so_far.calls rest within read;
  are = so_far.are;
  same = so_far.node;
  count = refl;
}

-- as many records were read as there can be
pub all_read : (version total : ℕ) (bytes : List ℕ) (own : Node) (log : NodeLog) (place : ℕ) (rest : List ℕ)
    → ReadSoFar version total bytes own log place rest → length bytes ≤ place → CallsAre (records_in version total bytes) log own (length rest)
all_read version total bytes own log place rest so_far over = record {
  calls = so_far.calls;
  rest = rest;
  read = so_far.same ∙ calls_all version total (length bytes) place so_far.calls rest over;
  are = so_far.are;
  same = so_far.node;
  count = refl;
}

-- what stands here is no record
pub no_record_read : (version total : ℕ) (bytes : List ℕ) (own : Node) (log : NodeLog) (place : ℕ) (rest : List ℕ) (why : LogFault)
    → ReadSoFar version total bytes own log place rest → place < length bytes → record_in version (place + 1) (total - length rest) rest ≡ Err why → records_in version total bytes ≡ Err why
no_record_read version total bytes own log place rest why so_far within read = so_far.same ∙ calls_stop version total (length bytes) place so_far.calls rest why within read
