use Rattle.std.proofs.Common.{◌∙◌, ◌∷◌, [], inl, inr, map, refl, sym}
use Rattle.std.proofs.lemmas.List.{map-append}
use Rattle.csv.specs.Reading.{Reached, default_config, strip_bom}
use Rattle.csv.specs.Records.{fields_of}
use Rattle.csv.specs.declared.parser.State.TheVariants as state
use Rattle.csv.proofs.ReadFacts.{rows-end, rows-more}
use Rattle.claim_reports.proofs.Continuing.{all_read, even_read, known, refused}
use Rattle.claim_reports.proofs.Readings.{Expects, expects_more}
use Rattle.claim_reports.proofs.table.records_of.Goals as goal

pub loop-record-init : goal.loop-record-init
unfolding Reached Expects
loop-record-init c =
    let made = c.from_reader-reader.ensures in
    let plain = c.has_headers.ensures in
    rw (c.into_iter-record-iterator.ensures.into_iter_gives ∙ refl, c.into_byte_records-record-items.ensures.rdr, c.new-records.ensures.items) (record {
      plain = rw plain at made.trim ∙ c.new.ensures.trim;
      ready = inr (inr (rw plain at made.has_headers, made.headers));
      goes_on = c.into_byte_records-record-items.ensures.left;
      config = rw plain at made.config ∙ c.new.ensures.config;
      unread = strip_bom c.args.text.now;
      source = made.source;
      reached = (sym made.state, refl);
      flexible = rw plain at made.flexible ∙ c.new.ensures.flexible;
      lengths = made.expected;
    })

pub loop-record-preserved : goal.loop-record-preserved
loop-record-preserved c =
    let so_far = c.loop-record.invariant in
    let step = rw (c.in-Some.is, c.in-Ok.is) at ((c.next.ensures.steps so_far.goes_on so_far.plain).0 so_far.ready) in
    let kept = rw (c.in-Some.is, c.in-Ok.is) at ((c.next.ensures.steps so_far.goes_on so_far.plain).3) in
    let more = rows-more known c.loop-record.record-iterator.rdr c.next.new.self.rdr (fields_of c.in-Ok.record) default_config state.StartRecord (strip_bom c.args.text.now)
    so_far.unread (map fields_of c.loop-record.records.items) so_far.config so_far.source so_far.reached step.0 in
    record {
      plain = step.0.3 ∙ so_far.plain;
      ready = inl step.1;
      goes_on = step.2;
      config = step.0.2 ∙ so_far.config;
      unread = more.0;
      source = more.1;
      reached = rw (c.in_ok-push-in-Ok.ensures.items, map-append fields_of c.loop-record.records.items (c.in-Ok.record ∷ [])) more.2;
      flexible = kept ∙ so_far.flexible;
      lengths =
          let length = step.0.5 refl so_far.flexible in
          rw (c.in_ok-push-in-Ok.ensures.items, map-append fields_of c.loop-record.records.items (c.in-Ok.record ∷ []))
          (expects_more c.loop-record.record-iterator.rdr.expected c.next.new.self.rdr.expected (map fields_of c.loop-record.records.items) (fields_of c.in-Ok.record) so_far.lengths length.0 length.1);
    }

pub returns-clause-all : goal.returns-clause-all
returns-clause-all c =
    let so_far = c.loop-record.invariant in
    let step = rw c.in-None.is at ((c.next.ensures.steps so_far.goes_on so_far.plain).0 so_far.ready) in
    all_read c.args.text.now _ c.loop-record.record-iterator so_far
    (rows-end known c.loop-record.record-iterator.rdr c.next.new.self.rdr [] default_config so_far.unread so_far.config so_far.source step)

pub returns-clause-refuses : goal.returns-clause-refuses
returns-clause-refuses c =
    let so_far = c.loop-record.invariant in
    let step = rw c.in-None.is at ((c.next.ensures.steps so_far.goes_on so_far.plain).0 so_far.ready) in
    even_read c.args.number c.args.text.now _ c.loop-record.record-iterator so_far
    (all_read c.args.text.now _ c.loop-record.record-iterator so_far
    (rows-end known c.loop-record.record-iterator.rdr c.next.new.self.rdr [] default_config so_far.unread so_far.config so_far.source step))

pub returns-in-Err-clause-refuses : goal.returns-in-Err-clause-refuses
returns-in-Err-clause-refuses c =
    let so_far = c.loop-record.invariant in
    let step = rw (c.in-Some.is, c.in-Err.is) at ((c.next.ensures.steps so_far.goes_on so_far.plain).0 so_far.ready) in
    refused c.args.number c.args.text.now _ c.loop-record.record-iterator c.next.new.self.rdr c.fault_of.result _ so_far step c.fault_of.ensures
