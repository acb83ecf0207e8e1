use Rattle.std.proofs.Common.{◌≡◌, ◌+◌, ◌≤◌, ◌++◌, length, drop}
use Rattle.d0_segments.specs.Texts.{fields_text}
use Rattle.d0_segments.specs.Pieces.{shared_of}
use Rattle.d0_segments.specs.Inside.{fields_left}
use Rattle.carried_fields.specs.Occurrences.{behind_codes_in, beside}
use Rattle.carried_fields.proofs.occurrences.put_own_fields.Given as goal

-- what is written, and then what is left, is all; the codes so far are fewer than the bytes so far
abbrev pub invariant-loop-field : goal.invariant-loop-field
invariant-loop-field l = record {
  written : l.text.items ++ fields_text (beside (drop l.codes (behind_codes_in l.id (shared_of l.said.bytes.now))) (fields_left l.rest.bytes.now))
      ≡ l.fn.text.items ++ fields_text (beside (behind_codes_in l.id (shared_of l.said.bytes.now)) (fields_left l.fn.from.bytes.now));
  short : l.codes + length l.rest.bytes.now ≤ length l.fn.from.bytes.now;
}

abbrev pub decreases-loop-field : goal.decreases-loop-field
decreases-loop-field l = length l.rest.bytes.now
