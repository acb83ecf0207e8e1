-- Both are taken.
use Rattle.std.proofs.Common.{sym, ◌∙◌}
use Rattle.log_growth.proofs.growth.grows.Goals as goal

pub returns-in-Some-clause-refused : goal.returns-in-Some-clause-refused
returns-in-Some-clause-refused c = record {
  before = c.in-Ok.settings;
  after = c.in-Ok-read_checked_settings.settings;
  first = c.in-Ok.ensures.spelled;
  second = c.in-Ok-read_checked_settings.ensures.spelled;
  is = sym c.first_ungrown.ensures.first ∙ c.in-Some.is;
}

pub returns-clause-grown : goal.returns-clause-grown
returns-clause-grown c = record {
  before = c.in-Ok.settings;
  after = c.in-Ok-read_checked_settings.settings;
  first = c.in-Ok.ensures.spelled;
  second = c.in-Ok-read_checked_settings.ensures.spelled;
  grows = c.first_ungrown.ensures.grows c.in-None.is;
}
