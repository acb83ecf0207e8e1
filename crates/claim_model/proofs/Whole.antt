-- What a node holds for an id answers each transaction of its request.
use Rattle.std.proofs.Common.{◌≡◌, ℕ, ◌<◌, ◌≤◌, List, length, Option, Some, sym, ap, ◌∙◌, subst}
use Rattle.std.specs.Prelude.{option_map, option_and_then}
use Rattle.claim_model.specs.Words.{TxnId, ResponseHeader, Ruling, Answer}
use Rattle.claim_model.specs.Context.{Context}
use Rattle.claim_model.specs.Laws.{Laws}
use Rattle.claim_model.specs.Numbered.{numbered}
use Rattle.claim_model.specs.Node.{Node}
use Rattle.claim_model.specs.World.{World}
use Rattle.claim_model.specs.Settings.{WorldSettings}
use Rattle.claim_model.specs.Held.{held, held_place}
use Rattle.claim_model.specs.Promises.{Reached, HeldWhole, AnswersAreWhole}
use Rattle.claim_model.proofs.Lists.{numbered_exists}
use Rattle.claim_model.proofs.Sound.{Sound}
use Rattle.claim_model.proofs.Decided.{Origin, origin}
use Rattle.claim_model.proofs.Held.{held_decided}
use Rattle.claim_model.proofs.Runs.{reached_sound}

place_there : (ctx : Context) (w : World) (node : Node) (id : TxnId) (a : List ℕ) (answer : Answer) (place : ℕ) → held ctx w node id ≡ Some a → ctx.read_answer a ≡ Some answer → 0 < place → place ≤ length answer.rulings
    → (x : ResponseHeader × Ruling) × (held_place ctx w node id place ≡ Some x)
place_there ctx w node id a answer place here reads from to =
    let r = numbered_exists answer.rulings place from to in
    let read : Answer → Option (ResponseHeader × Ruling) = λ (m : Answer). option_map (λ (r : Ruling). (m.header, r)) (numbered m.rulings place) in
    ((answer.header, r.0), ap (option_and_then read) (ap (option_and_then ctx.read_answer) here ∙ reads) ∙ ap (option_map (λ (g : Ruling). (answer.header, g))) r.1)

held_whole : (ctx : Context) (given : WorldSettings) (w : World) (node : Node) (id : TxnId) (a : List ℕ) → Laws ctx → Sound ctx given w → held ctx w node id ≡ Some a → HeldWhole ctx w node id
held_whole ctx given w node id a laws x here =
    let o : Origin ctx w id a = (origin ctx given w id a laws x (held_decided ctx given w node id a x here)).0 in
    let count : length o.spells.answer.rulings ≡ o.header.count = ap length o.spells.rulings_are ∙ o.count in
    record {
      request = o.request;
      submitted = o.asks;
      header = o.header;
      reads = o.reads;
      places = λ place from to. place_there ctx w node id a o.spells.answer place here o.spells.reads from (subst (λ (n : ℕ). place ≤ n) (sym count) to);
    }

pub sound_whole : (ctx : Context) (given : WorldSettings) (w : World) → Laws ctx → Sound ctx given w → AnswersAreWhole ctx w
sound_whole ctx given w laws x = record { whole = λ node id a here. held_whole ctx given w node id a laws x here }

pub answers_whole : (ctx : Context) (given : WorldSettings) (w : World) → Reached ctx given w → AnswersAreWhole ctx w
answers_whole ctx given w r = sound_whole ctx given w r.laws (reached_sound ctx given w r)
