-- A table with the times of its rows.
use Rattle.std.proofs.Common.{◌≡◌, ℕ, List, map, Option, None, Result, Ok, Err, IfOk, subst}
use Rattle.std.specs.Prelude.{codes}
use Rattle.claim_reports.specs.declared.ruled.Request.{Request}
use Rattle.claim_reports.specs.declared.ruled.Taken.{Taken}
use Rattle.claim_reports.specs.Ruled.{ruled_at}
use Rattle.claim_reports.specs.Tables.{AreRecordsOf, column_of}
use Rattle.claim_reports.specs.WhenRuled.{AreRequests, AreTaken, IsRuledTable, IsTimed}

pub ruled_is : {A E : Type 0} (items : A → List ℕ) (r : Result A E) (table calls : List ℕ) (records : List (List (List ℕ))) (requests : List Request) (taken : List Taken) (times : List (Option ℕ))
    → AreRecordsOf table records → column_of records (codes "ruled_at") ≡ None → column_of records (codes "ruled_on") ≡ None → AreRequests records requests → AreTaken calls taken
    → times ≡ map (ruled_at taken) requests → IfOk r (λ text. IsTimed records times (items text)) → IfOk r (λ text. IsRuledTable table calls (items text))
ruled_is items (Ok text) table calls records requests taken times are no_time no_day asked took at told = record {
  records = records;
  are = are;
  no_time = no_time;
  no_day = no_day;
  requests = requests;
  asked = asked;
  taken = taken;
  took = took;
  told = subst (λ (ts : List (Option ℕ)). IsTimed records ts (items text)) at told;
}
ruled_is items (Err why) table calls records requests taken times are no_time no_day asked took at told = tt
