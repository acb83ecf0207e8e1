-- Each is as the settings open it, or was read from a record.
use Rattle.days_audit.proofs.BegunStates.{begun_kept}
use Rattle.days_audit.proofs.laws.begun_parties_are_kept.Goals as goal

pub returns : goal.returns
returns c = λ routes s rests logs p accepts begin one. begun_kept s rests logs p begin one c.kept_rows_follow_rules.ensures.only routes (c.bytes_keep_laws.ensures routes) accepts
