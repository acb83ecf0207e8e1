-- The story, computed.
use Rattle.std.proofs.Common.{[], ◌∷◌, Some, refl}
use Rattle.claim_profile.specs.Transaction.{transaction_code}
use Rattle.claim_model.specs.Words.{Plan}
use Rattle.claim_model.specs.Node.{Switch, Submit, Take}
use Rattle.claim_model.specs.Readable.{readable}
use Rattle.claim_model.specs.Judgement.{judged, ruling}
use Rattle.claim_model.specs.Book.{answered}
use Rattle.claim_model.specs.Journal.{submitted, heard, stopped}
use Rattle.claim_model.specs.Table.{requested, responded}
use Rattle.claim_model.specs.World.{step}
use Rattle.claim_model.specs.Held.{held}
use Rattle.claim_model.specs.Node.{Up}
use Rattle.claim_model.specs.Journal.{Has}
use Rattle.crash_safety.specs.Diskless.{moved_light}
use Rattle.crash_safety.specs.Story.{TwoAnswers, ToldAfterTwo}

pub two_answers : (plan : Plan) → TwoAnswers plan
unfolding transaction_code step submitted heard stopped requested responded answered readable judged ruling held
two_answers plan = record {
  told = refl;
  other = refl;
  kept = record { call = Submit []; sent = record { to = Switch 1; bytes = 0 ∷ 1 ∷ 1 ∷ [] } ∷ [] };
  lost = record { call = Take (Switch 1) (1 ∷ 1 ∷ 1 ∷ 82 ∷ []); sent = [] };
  heard = record { call = Take (Switch 1) (1 ∷ 1 ∷ 1 ∷ 65 ∷ []); sent = [] };
  first_log = refl;
  other_log = refl;
}

pub told_after_two : (plan : Plan) → ToldAfterTwo plan
unfolding transaction_code submitted heard stopped requested responded answered readable judged ruling moved_light
told_after_two plan = record {
  told = record {
    journal = Up (record { number = 1; settings = record { qualifier = []; provider = []; nodes = 1 ∷ []; again = 1; tries = 1; cap = 2 }; rule = record { nodes = 1 ∷ []; again = 1; tries = 1 }; entries = record { request = []; state = Has (65 ∷ []) } ∷ [] });
    lives = refl;
    entry = record { request = []; answer = Some (65 ∷ []) };
    stands = refl;
    answer = refl;
  };
  syncs = refl;
}
