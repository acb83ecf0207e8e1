-- The node that is served at the end.
use Rattle.std.proofs.Common.{◌∙◌}
use Rattle.log_turning.specs.Unturned.{IsUnended}
use Rattle.log_turning.proofs.Unturned.{passed, unstarted_unended}
use Rattle.log_turning.proofs.turning.end_log.Goals as goal

pub returns-clause-closed : goal.returns-clause-closed
returns-clause-closed c = λ text node rest bytes serves. record {
  last = c.start.new.service;
  serves = c.in_ok-record.ensures.on text node rest bytes c.args.kept (c.in_ok-was_up.ensures.on text node rest bytes c.args.kept serves);
  started = c.in_ok-record.ensures.started;
  closing = c.in_ok-closing.ensures.items ∙ c.records.ensures;
  calls = c.calls.ensures;
  referred = c.into_references.ensures;
}

pub returns-in_err-record-clause-refused : goal.returns-in_err-record-clause-refused
returns-in_err-record-clause-refused c = λ text node rest bytes serves.
    passed c.from_residual-in_err-record.result _ (IsUnended text node rest bytes) c.from_residual-in_err-record.ensures.1
    (unstarted_unended text node rest bytes c.args.kept c.stop.new.service _ (c.in_ok-was_up.ensures.on text node rest bytes c.args.kept serves) c.in_ok-was_up.ensures.down c.in_err-record.ensures.refused)
