-- Records that are appended as they are read.
use Rattle.std.proofs.Common.{◌≡◌, ℕ, ◌+◌, ◌-◌, ◌<◌, List, [], ◌∷◌, ◌++◌, length, Some, None, Ok, Err, refl, sym, ap, subst, ◌∙◌, arith, append_assoc, append-nil, length-append}
use Rattle.world_setup.specs.Seen.{node_seen}
use Rattle.world_setup.specs.declared.node.Node.{Node}
use Rattle.kept_logs.specs.declared.fault.LogFault.{LogFault}
use Rattle.kept_logs.specs.Stamps.{Stamped, stamped_text}
use Rattle.kept_logs.specs.Digests.{version_of}
use Rattle.kept_logs.specs.Frames.{frame_text}
use Rattle.kept_logs.specs.Logs.{behind, calls_in, calls_text, head_in, kept_in, record_in, records_in}
use Rattle.kept_logs.specs.Appending.{AreAppended, IsAppended}
use Rattle.kept_logs.proofs.CallsBack.{calls_text-more}
use Rattle.kept_logs.proofs.Loops.{calls_begin, calls_taken, calls_cut, calls_stop, calls_all}

-- the records that were read were appended, and with those that are left they are all
pub record AppendedSoFar (version before total : ℕ) (bytes old now : List ℕ) (place : ℕ) (rest : List ℕ) : Type 0 where
  pub calls : List Stamped
  pub same : calls_in version total 1 (length bytes) bytes ≡ behind calls (calls_in version total (place + 1) (length bytes - place) rest)
  pub number : length calls ≡ place
  pub text : now ≡ old ++ calls_text 2 (before + 1) calls

pub nothing_appended : (version before total : ℕ) (bytes old : List ℕ) → AppendedSoFar version before total bytes old old 0 bytes
unfolding calls_text
nothing_appended version before total bytes old = record {
  calls = [];
  same = calls_begin version total bytes [] refl;
  number = refl;
  text = sym (append-nil old);
}

-- one record more was read, and appended
pub one_more_appended : (version before total : ℕ) (bytes old now longer : List ℕ) (place : ℕ) (rest after : List ℕ) (entry : Stamped) → AppendedSoFar version before total bytes old now place rest → place < length bytes
    → record_in version (place + 1) (total - length rest) rest ≡ Ok (Some (entry, after)) → longer ≡ now ++ frame_text 2 (before + 1 + place) (stamped_text entry) → AppendedSoFar version before total bytes old longer (place + 1) after
one_more_appended version before total bytes old now longer place rest after entry so_far within read put = record {
  calls = so_far.calls ++ entry ∷ [];
  same = so_far.same ∙ calls_taken version total (length bytes) place so_far.calls rest entry after within read;
  number = length-append so_far.calls (entry ∷ []) ∙ ap (λ n. n + 1) so_far.number;
  text =
      put
      ∙ (ap (λ (t : List ℕ). t ++ frame_text 2 (before + 1 + place) (stamped_text entry)) so_far.text
      ∙ (append_assoc old (calls_text 2 (before + 1) so_far.calls) (frame_text 2 (before + 1 + place) (stamped_text entry))
      ∙ ap (λ (t : List ℕ). old ++ t) (ap (λ n. calls_text 2 (before + 1) so_far.calls ++ frame_text 2 (before + 1 + n) (stamped_text entry)) (sym so_far.number) ∙ sym (calls_text-more 2 (before + 1) so_far.calls entry))));
}

-- the record that stands here is cut off, so all were read
pub appended_to_here : (version before total : ℕ) (bytes old now : List ℕ) (place : ℕ) (rest : List ℕ) → AppendedSoFar version before total bytes old now place rest → place < length bytes
    → record_in version (place + 1) (total - length rest) rest ≡ Ok None → AreAppended version before total bytes old now place (length rest)
appended_to_here version before total bytes old now place rest so_far within read = record {
  calls = so_far.calls;
  rest = rest;
  read = so_far.same ∙ calls_cut version total (length bytes) place so_far.calls rest within read;
  left_behind = refl;
  number = so_far.number;
  text = so_far.text;
}

-- as many records were read as there can be
pub all_appended : (version before total : ℕ) (bytes old now : List ℕ) (place : ℕ) (rest : List ℕ) → AppendedSoFar version before total bytes old now place rest → place ≡ length bytes → AreAppended version before total bytes old now (length bytes) (length rest)
all_appended version before total bytes old now place rest so_far over = record {
  calls = so_far.calls;
  rest = rest;
  read = so_far.same ∙ calls_all version total (length bytes) place so_far.calls rest (omega (arith, over));
  left_behind = refl;
  number = so_far.number ∙ over;
  text = so_far.text;
}

-- what stands here is no record
pub no_record_appended : (version before total : ℕ) (bytes old now : List ℕ) (place : ℕ) (rest : List ℕ) (why : LogFault) → AppendedSoFar version before total bytes old now place rest → place < length bytes
    → record_in version (place + 1) (total - length rest) rest ≡ Err why → records_in version total bytes ≡ Err why
no_record_appended version before total bytes old now place rest why so_far within read = so_far.same ∙ calls_stop version total (length bytes) place so_far.calls rest why within read

-- after a head, bytes whose records were appended are the log of that node
pub appended_as_read : (version : ℕ) (digest bytes records : List ℕ) (before : ℕ) (old now : List ℕ) (own : Node) (calls torn whole : ℕ) → version ≡ version_of digest → head_in digest bytes ≡ Ok (node_seen own, records)
    → AreAppended version before (length bytes) records old now calls torn → whole ≡ length bytes - torn → IsAppended digest bytes before old now (record { node = own; calls = calls; whole = whole })
unfolding kept_in
appended_as_read version digest bytes records before old now own calls torn whole known head are_so left =
    let are : AreAppended (version_of digest) before (length bytes) records old now calls torn = subst (λ v. AreAppended v before (length bytes) records old now calls torn) known are_so in
    record {
      log = record { node = node_seen own; calls = are.calls };
      own = refl;
      read = rw (head, are.read) (ap (λ n. Ok (record { log = record { node = node_seen own; calls = are.calls }; whole = n })) (ap (λ n. length bytes - n) are.left_behind ∙ sym left));
      count = are.number;
      text = are.text;
    }
