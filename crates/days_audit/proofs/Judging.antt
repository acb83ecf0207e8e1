-- What a search for an order says of days.
use Rattle.std.proofs.Common.{◌≡◌, ℕ, ◌≤◌, true, false, List, length, Option, None, inl, inr, sym, subst}
use Rattle.std.specs.Global.{Vec}
use Rattle.std.specs.List.{list_all}
use Rattle.std.proofs.lemmas.Bool.{both_ways}
use Rattle.claim_model.specs.Bytes.{bytes_with}
use Rattle.claim_model.specs.Context.{Context}
use Rattle.claim_model.specs.Limits.{most_pharmacies}
use Rattle.claim_model.specs.Logs.{NodeLog}
use Rattle.claim_model.specs.Settings.{settings_fault}
use Rattle.claim_model.proofs.Given.{passed}
use Rattle.world_setup.specs.Seen.{settings_seen}
use Rattle.world_setup.specs.declared.settings.WorldSettings.{WorldSettings}
use Rattle.run_merge.specs.Naming.{all_distinct}
use Rattle.vouched_runs.specs.Parties.{Parties}
use Rattle.vouched_runs.specs.Agreeing.{Agree}
use Rattle.days_audit.specs.Agreeing.{IsAgreed}
use Rattle.days_audit.specs.Begun.{BeginWith, NoDays, IsJudged, begins_at}
use Rattle.days_audit.specs.Lines.{BegunLive, SomeNotBegun, is_party}
use Rattle.days_audit.specs.Orders.{IsOrdered}
use Rattle.days_audit.specs.declared.days.Days.{Days}
use Rattle.days_audit.specs.declared.days.Days.TheVariants.{Legal, Not}
use Rattle.days_audit.proofs.Beginning.{EachBegun, live_each, live_days, same_parties, days_turns, days_distinct, days_parties, days_begin}
use Rattle.world_setup.specs.Taken.{routes_in}

abbrev under : WorldSettings → Context
under s = bytes_with (routes_in s)

module _ (s : WorldSettings) (rests : List (Option (Vec ℕ))) (logs : List NodeLog) where
  each_of : (p : Parties) → BeginWith s rests logs p → EachBegun (begins_at s rests) logs (length s.pharmacies.items) (length s.payers.items) p
  each_of p b = record { pharmacies_are = b.pharmacies; payers_are = b.payers; each = b.each }

  pub not_distinct : (all_distinct logs ≡ true → ⊥) → NoDays s rests logs
  not_distinct n calls h = n (days_distinct (begins_at s rests) logs (length s.pharmacies.items) (length s.payers.items) (under s) h.parties h.turns h.are)

  pub not_parties : list_all (λ (log : NodeLog). is_party (length s.pharmacies.items) (length s.payers.items) log.node) logs ≡ false → NoDays s rests logs
  not_parties n calls h =
      both_ways (list_all (λ (log : NodeLog). is_party (length s.pharmacies.items) (length s.payers.items) log.node) logs) n
      (days_parties (begins_at s rests) logs (length s.pharmacies.items) (length s.payers.items) (under s) h.parties h.turns (each_of h.parties h.begin) h.are)

  pub not_begun : SomeNotBegun (begins_at s rests) logs (length s.pharmacies.items) (length s.payers.items) → NoDays s rests logs
  not_begun n calls h = days_begin (begins_at s rests) logs (length s.pharmacies.items) (length s.payers.items) (under s) h.parties h.turns (each_of h.parties h.begin) h.are n

  pub ordered_days : (live : Parties) → all_distinct logs ≡ true → list_all (λ (log : NodeLog). is_party (length s.pharmacies.items) (length s.payers.items) log.node) logs ≡ true
      → BegunLive (begins_at s rests) logs (length s.pharmacies.items) (length s.payers.items) live → (days : Days) → IsAgreed (under s) live logs days → IsJudged s rests logs days
  ordered_days live d all l (Legal calls) h =
      let e = live_each (begins_at s rests) logs (length s.pharmacies.items) (length s.payers.items) live d all l in
      record {
        parties = live;
        begin = record { pharmacies = e.pharmacies_are; payers = e.payers_are; each = e.each };
        agree = h.0;
        turns = h.1.turns;
        are = live_days (begins_at s rests) logs (length s.pharmacies.items) (length s.payers.items) (under s) live calls d all l h.1;
        count = h.1.count;
      }
  ordered_days live d all l (Not lines) (inl apart) = λ calls h.
      apart (subst (Agree (under s)) (sym (same_parties (begins_at s rests) logs (length s.pharmacies.items) (length s.payers.items) h.parties live (each_of h.parties h.begin) l)) h.agree)
  ordered_days live d all l (Not lines) (inr n) = λ calls h.
      n calls (days_turns (begins_at s rests) logs (length s.pharmacies.items) (length s.payers.items) (under s) h.parties live h.turns calls (each_of h.parties h.begin) l h.are h.count)

  -- so many pharmacies as settings may have
  pub few_live : settings_fault (settings_seen s) ≡ None → (live : Parties) → BegunLive (begins_at s rests) logs (length s.pharmacies.items) (length s.payers.items) live → length live.pharmacies ≤ most_pharmacies
  few_live no_fault live l =
      let most : length s.pharmacies.items ≤ most_pharmacies = (passed (settings_seen s) no_fault).pharmacies in
      subst (λ (n : ℕ). n ≤ most_pharmacies) (sym l.of_pharmacies.count_is) most

-- an order from parties that agree
pub agreed_order : (ctx : Context) (p : Parties) (logs : List NodeLog) → Agree ctx p → (days : Days) → IsOrdered ctx p logs days → IsAgreed ctx p logs days
agreed_order ctx p logs a (Legal calls) h = (a, h)
agreed_order ctx p logs a (Not lines) n = inr n
