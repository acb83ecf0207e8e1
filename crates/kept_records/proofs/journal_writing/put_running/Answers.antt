use Rattle.std.proofs.Common.{◌++◌, arith}
use Rattle.claim_model.specs.Journal.{stopped}
use Rattle.kept_records.specs.Entries.{entries_text}
use Rattle.kept_records.proofs.EntriesWritten.{some_at_place, short_at_place, put_one, put_all}
use Rattle.kept_records.proofs.AddedEntries.{entries_stopped}
use Rattle.kept_records.proofs.journal_writing.put_running.Goals as goal

pub unreachable-requires : goal.unreachable-requires
unreachable-requires c = some_at_place (stopped c.args.pharmacy.now).entries c.loop-place.place (omega (arith, entries_stopped c.args.pharmacy.now, c.entries-place-end.ensures.value)) c.in_default.ensures

pub put_entry-requires-clause-request : goal.put_entry-requires-clause-request
unfolding stopped
put_entry-requires-clause-request c = (short_at_place (stopped c.args.pharmacy.now) c.entries-place-end.ensures.made c.loop-place.place _ c.in-Some.ensures).request

pub put_entry-requires-clause-answer : goal.put_entry-requires-clause-answer
unfolding stopped
put_entry-requires-clause-answer c = (short_at_place (stopped c.args.pharmacy.now) c.entries-place-end.ensures.made c.loop-place.place _ c.in-Some.ensures).answer

pub loop-place-preserved : goal.loop-place-preserved
loop-place-preserved c =
    put_one c.loop-place.text.items c.put_entry.new.text.items (c.args.text.now.items ++ entries_text 1 (stopped c.args.pharmacy.now).entries) c.loop-place.place (stopped c.args.pharmacy.now).entries _ c.in-Some.ensures c.loop-place.invariant c.in_ok-put_entry.ensures

pub returns : goal.returns
returns c =
    put_all c.loop-place.text.items (c.args.text.now.items ++ entries_text 1 (stopped c.args.pharmacy.now).entries) c.loop-place.place (stopped c.args.pharmacy.now).entries (omega (arith, entries_stopped c.args.pharmacy.now, c.entries-place-end.ensures.value)) c.loop-place.invariant
