-- The rows that are for an old pharmacy are the old ones.
use Rattle.std.proofs.Common.{◌++◌, refl, sym, ◌∙◌}
use Rattle.bin_routes.specs.Table.{routes_of}
use Rattle.settings_growth.proofs.newcomers.rows_for_newcomers_may_be_added.Goals as goal

pub returns : goal.returns
returns c = λ s rows more old new for_new le.
    record {
      reading = refl;
      switches = le;
      routes = λ number key payer own e.
          c.number_laws.ensures.among (routes_of (rows ++ more)) new number key
          ∙ (c.range_laws.ensures.added rows more number key (for_new key.qualifier key.provider own) ∙ (sym (c.number_laws.ensures.among (routes_of rows) old number key) ∙ e));
    }
