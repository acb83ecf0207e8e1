-- The last stage of a recovery: the answer reaches its pharmacy, and settles the entry.
use Rattle.std.proofs.Common.{◌≡◌, ℕ, ◌<◌, true, List, [], Option, Some, refl, sym, ap, ◌∙◌}
use Rattle.std.specs.Prelude.{option_map, option_and_then}
use Rattle.claim_model.specs.Words.{TxnId}
use Rattle.claim_model.specs.Context.{Context}
use Rattle.claim_model.specs.Readable.{settles, answer_envelope}
use Rattle.claim_model.specs.Numbered.{numbered}
use Rattle.claim_model.specs.Journal.{RetryRule, Journal, JournalAtRest, Waits, Has, kept_entry, stopped}
use Rattle.claim_model.specs.Node.{Node, Pharmacy, Power, Up}
use Rattle.claim_model.specs.World.{World, Event, Delivery}
use Rattle.claim_model.specs.Settings.{WorldSettings}
use Rattle.claim_model.specs.Held.{journal_in, book_at, entry_of, decided}
use Rattle.claim_model.specs.Promises.{Reached}
use Rattle.claim_model.proofs.Lists.{numbered_put, numbered_put_other, numbered_map}
use Rattle.claim_model.proofs.Options.{same_some}
use Rattle.claim_model.proofs.Tests.{readable_parts}
use Rattle.claim_model.proofs.Sound.{with_pharmacy}
use Rattle.claim_model.proofs.Decided.{origin}
use Rattle.claim_model.proofs.Runs.{reached_sound}
use Rattle.claim_recovery.specs.Recovered.{rule_at}
use Rattle.claim_recovery.proofs.Paths.{Path, path_delivery}
use Rattle.claim_recovery.proofs.Forward.{settled_at, hears, settles_it, answer_at_pharmacy}
use Rattle.claim_recovery.proofs.Waits.{IsWaiting}
use Rattle.claim_recovery.proofs.AtSwitch.{IsKnown, reply_fits}

-- a packet with what was decided was sent to the pharmacy, after the first `old` ones
pub record IsAnswered (ctx : Context) (w : World) (old : ℕ) (id : TxnId) (answer : List ℕ) : Type 0 where
  pub decided_is : decided ctx w id ≡ Some answer
  pub from : Node
  pub packet : ℕ
  pub fresh : old < packet
  pub stands : numbered w.packets packet ≡ Some (record { from = from; to = Pharmacy id.pharmacy; bytes = ctx.envelope (answer_envelope id answer) })

-- only this entry has changed, and it has the answer
pub record Closed (w v : World) (id : TxnId) (request answer : List ℕ) : Type 0 where
  pub pharmacies : (n : ℕ) → (n ≡ id.pharmacy → ⊥) → numbered v.pharmacies n ≡ numbered w.pharmacies n
  pub entries : (number : ℕ) → (number ≡ id.number → ⊥) → entry_of v (record { pharmacy = id.pharmacy; number = number }) ≡ entry_of w (record { pharmacy = id.pharmacy; number = number })
  pub rule : rule_at v id.pharmacy ≡ rule_at w id.pharmacy
  pub books : (n : ℕ) → book_at v n ≡ book_at w n
  pub settled : entry_of v id ≡ Some (record { request = request; answer = Some answer })

stopped_at : (j : Journal) (number : ℕ) → numbered (stopped j).entries number ≡ option_map kept_entry (numbered j.entries number)
unfolding stopped
stopped_at j number = numbered_map kept_entry j.entries number

entry_there : (w : World) (n : ℕ) (j : Journal) (number : ℕ) → numbered w.pharmacies n ≡ Some (Up j) → entry_of w (record { pharmacy = n; number = number }) ≡ option_map kept_entry (numbered j.entries number)
entry_there w n j number is = ap (λ (o : Option (Power Journal JournalAtRest)). option_and_then (λ (q : JournalAtRest). numbered q.entries number) (option_map journal_in o)) is ∙ stopped_at j number

stopped_rule : (j : Journal) → (stopped j).rule ≡ j.rule
unfolding stopped
stopped_rule j = refl

rule_there : (w : World) (n : ℕ) (j : Journal) → numbered w.pharmacies n ≡ Some (Up j) → rule_at w n ≡ Some j.rule
rule_there w n j is = ap (λ (o : Option (Power Journal JournalAtRest)). option_map (λ (q : JournalAtRest). q.rule) (option_map journal_in o)) is ∙ ap (λ (r : RetryRule). Some r) (stopped_rule j)

closed_by : (w : World) (id : TxnId) (j : Journal) (request answer : List ℕ) (phase : ℕ) → numbered w.pharmacies id.pharmacy ≡ Some (Up j) → numbered j.entries id.number ≡ Some (record { request = request; state = Waits phase })
    → Closed w (with_pharmacy w id.pharmacy (Up (settled_at j id.number request answer)) []) id request answer
closed_by w id j request answer phase is stands =
    let n : ℕ = id.pharmacy in
    let k : ℕ = id.number in
    let after : Journal = settled_at j k request answer in
    let v : World = with_pharmacy w n (Up after) [] in
    let up : numbered v.pharmacies n ≡ Some (Up after) = numbered_put w.pharmacies n (Up j) (Up after) is in
    record {
      pharmacies = λ m d. numbered_put_other w.pharmacies n m (Up after) (λ e. d (sym e));
      entries = λ m d.
          entry_there v n after m up
          ∙ (ap (option_map kept_entry) (numbered_put_other j.entries k m (record { request = request; state = Has answer }) (λ e. d (sym e)))
          ∙ sym (entry_there w n j m is));
      rule = rule_there v n after up ∙ sym (rule_there w n j is);
      books = λ m. refl;
      settled = entry_there v n after k up ∙ ap (option_map kept_entry) (numbered_put j.entries k (record { request = request; state = Waits phase }) (record { request = request; state = Has answer }) stands);
    }

pub record Heard (ctx : Context) (may : Event → Type 0) (w : World) (id : TxnId) (request answer : List ℕ) : Type 0 where
  pub world : World
  pub path : Path ctx may w world 0 1 0
  pub closed : Closed w world id request answer

stopped_number : (j : Journal) → j.number ≡ (stopped j).number
unfolding stopped
stopped_number j = refl

-- what was decided is heard at the pharmacy
pub home : (ctx : Context) (given : WorldSettings) (may : Event → Type 0) (w : World) (old : ℕ) (id : TxnId) (request answer : List ℕ) → Reached ctx given w → ((k : ℕ) → old < k → may (Delivery k)) → IsKnown ctx w id request
    → IsWaiting w id request → IsAnswered ctx w old id answer → Heard ctx may w id request answer
home ctx given may w old id request answer r ok known x a =
    let sound = reached_sound ctx given w r in
    let o = origin ctx given w id answer r.laws sound a.decided_is in
    let same : o.0.request ≡ request = same_some _ _ (sym o.0.asks ∙ known.asks) in
    let header : ctx.header request ≡ Some o.0.header = ap ctx.header (sym same) ∙ (readable_parts ctx o.0.request o.0.header o.0.reads).1 in
    let fits_it : settles ctx request answer ≡ true = settles_it ctx o.0.header request answer o.0.spells.answer header o.0.spells.reads o.0.spells.code o.0.spells.count in
    let j : Journal = x.journal in
    let mine : j.number ≡ id.pharmacy = stopped_number j ∙ (sound.pharmacies id.pharmacy (Up j) x.up).number in
    let after : Journal = settled_at j id.number request answer in
    let v : World = with_pharmacy w id.pharmacy (Up after) [] in
    record {
      world = v;
      path =
          path_delivery ctx may w v a.packet [] (ok a.packet a.fresh)
          (answer_at_pharmacy ctx w id.pharmacy a.packet a.from (ctx.envelope (answer_envelope id answer)) (answer_envelope id answer) j after x.up a.stands
          (r.laws.envelopes (answer_envelope id answer) (reply_fits id request answer known.fits o.0.spells.short)) (hears ctx j id request answer x.phase mine x.stands fits_it));
      closed = closed_by w id j request answer x.phase x.up x.stands;
    }
