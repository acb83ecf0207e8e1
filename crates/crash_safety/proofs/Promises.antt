-- The promises of the model, which look at nodes and not at packets, and so hold of every world of the same nodes.
use Rattle.std.proofs.Common.{◌≡◌, ℕ, List, ◌++◌, Some, sym, subst, []}
use Rattle.claim_model.specs.Context.{Context}
use Rattle.claim_model.specs.Numbered.{numbered}
use Rattle.claim_model.specs.World.{World, Packet, Event, run}
use Rattle.claim_model.specs.Settings.{WorldSettings, opening}
use Rattle.claim_model.specs.Held.{decided, held}
use Rattle.claim_model.specs.Promises.{Always, Reached, AsksAsSubmitted, AnswersAsDecided, OneAnswer, OneStandingPayment, ReversedByOwner, CountedPaymentsStand, StandingAreCounted, StaysDecided}
use Rattle.claim_model.proofs.GoingOn.{run_append}
use Rattle.claim_model.proofs.Runs.{reached_sound}
use Rattle.claim_model.proofs.Held.{requests_submitted, answers_decided, one_answer}
use Rattle.claim_model.proofs.Owners.{one_standing, reversed_by_owner}
use Rattle.claim_model.proofs.Counting.{counted_stand}
use Rattle.claim_model.proofs.CountedInFull.{standing_counted}
use Rattle.claim_model.proofs.Stays.{stays_decided}
use Rattle.crash_safety.specs.Network.{Move, network}
use Rattle.crash_safety.specs.Runs.{on_disks}
use Rattle.crash_safety.specs.Kept.{WhateverIsKilled, AtAnyLaterMoment, OnceSaid}
use Rattle.crash_safety.proofs.Courses.{stays_said}
use Rattle.crash_safety.proofs.Worlds.{with_packets, is_of_run, reached, standing_at}

-- with other packets each promise says the same

pub one_standing_with : (ctx : Context) (r : World) (packets : List Packet) → OneStandingPayment ctx r → OneStandingPayment ctx (with_packets r packets)
one_standing_with ctx r packets o = record { one = o.one }

pub reversed_with : (ctx : Context) (r : World) (packets : List Packet) → ReversedByOwner ctx r → ReversedByOwner ctx (with_packets r packets)
reversed_with ctx r packets o = record {
  reversed = λ n b k q auth prescription book stands ruling.
      let x = o.reversed n b k q auth prescription book stands ruling in
      record { payment = x.payment; found = x.found; journal = x.journal; there = x.there; qualifier = x.qualifier; provider = x.provider };
}

pub counted_with : (ctx : Context) (r : World) (packets : List Packet) → CountedPaymentsStand ctx r → CountedPaymentsStand ctx (with_packets r packets)
counted_with ctx r packets o = record {
  counts = λ n j k c journal stands.
      let x = o.counts n j k c journal stands in
      record { book = x.book; there = x.there; payment = x.payment; found = x.found; fill = x.fill; amounts = x.amounts; reversed = x.reversed; reversals = x.reversals };
}

pub in_full_with : (ctx : Context) (r : World) (packets : List Packet) → StandingAreCounted ctx r → StandingAreCounted ctx (with_packets r packets)
in_full_with ctx r packets o = record { counted = o.counted }

pub one_answer_with : (ctx : Context) (r q : World) (ps qs : List Packet) → OneAnswer ctx r q → OneAnswer ctx (with_packets r ps) (with_packets q qs)
unfolding held
one_answer_with ctx r q ps qs o = record { bytes = o.bytes; places = o.places }

stays_with : (r q : World) (ps qs : List Packet) → StaysDecided r q → StaysDecided (with_packets r ps) (with_packets q qs)
stays_with r q ps qs o = record {
  journals = λ n j e. let x = o.journals n j e in record { journal = x.journal; there = x.there; number = x.number; settings = x.settings; entries = x.entries };
  books = λ n b e. let x = o.books n b e in record { book = x.book; there = x.there; payer = x.payer; settings = x.settings; more = x.more; rows = x.rows };
}

asks_with : (ctx : Context) (r : World) (packets : List Packet) (p : Packet) → AsksAsSubmitted ctx r p → AsksAsSubmitted ctx (with_packets r packets) p
asks_with ctx r packets p o = record { envelope = o.envelope; reads = o.reads; asks = o.asks }

answers_with : (ctx : Context) (r : World) (packets : List Packet) (p : Packet) → AnswersAsDecided ctx r p → AnswersAsDecided ctx (with_packets r packets) p
unfolding decided
answers_with ctx r packets p o = record { envelope = o.envelope; reads = o.reads; answers = o.answers }

-- a promise of every world that events lead to is one of every network

whatever : (P : Context → World → Type 0) → ((ctx : Context) (r : World) (packets : List Packet) → P ctx r → P ctx (with_packets r packets)) → Always P → WhateverIsKilled P
whatever P carry always = λ ctx s moves w laws accepts holds.
    let x = standing_at ctx s [] moves w holds in
    let r = run ctx (opening s) (x.before ++ x.further) in
    subst (P ctx) (sym x.is) (carry ctx r w.packets (always ctx s r (reached ctx s (x.before ++ x.further) laws accepts)))

at_later : (P : Context → World → World → Type 0) → ((ctx : Context) (r q : World) (ps qs : List Packet) → P ctx r q → P ctx (with_packets r ps) (with_packets q qs))
    → ((ctx : Context) (s : WorldSettings) (r : World) (events : List Event) → Reached ctx s r → P ctx r (run ctx r events)) → AtAnyLaterMoment P
at_later P carry always = λ ctx s moves more w v laws accepts disks holds.
    let x = standing_at ctx s moves more v holds in
    let r = run ctx (opening s) x.before in
    let n = network ctx s moves in
    let q = run ctx (opening s) (x.before ++ x.further) in
    let goes = subst (P ctx r) (sym (run_append ctx (opening s) x.before x.further)) (always ctx s r x.further (reached ctx s x.before laws accepts)) in
    subst (λ (u : World). P ctx u v) (sym (is_of_run ctx s (on_disks n) n.wire x.before w x.first disks))
    (subst (P ctx (with_packets r w.packets)) (sym x.is) (carry ctx r q w.packets v.packets goes))

once_said : (P : Context → World → Packet → Type 0) → ((ctx : Context) (r : World) (packets : List Packet) (p : Packet) → P ctx r p → P ctx (with_packets r packets) p)
    → ((ctx : Context) (s : WorldSettings) (r : World) (k : ℕ) (p : Packet) → Reached ctx s r → numbered r.packets k ≡ Some p → P ctx r p)
    → ((ctx : Context) (s : WorldSettings) (moves more : List Move) (k : ℕ) (p : Packet) → numbered (network ctx s moves).wire k ≡ Some p → (j : ℕ) × (numbered (network ctx s (moves ++ more)).wire j ≡ Some p)) → OnceSaid P
once_said P carry always stays = λ ctx s moves more w k p laws accepts said holds.
    let x = standing_at ctx s moves more w holds in
    let r = run ctx (opening s) (x.before ++ x.further) in
    let on_wire = stays ctx s moves more k p said in
    let sent = x.last.all on_wire.0 p on_wire.1 in
    subst (λ (u : World). P ctx u p) (sym x.is) (carry ctx r w.packets p (always ctx s r sent.number p (reached ctx s (x.before ++ x.further) laws accepts) sent.is))

-- each of them

pub one_standing_kept : WhateverIsKilled OneStandingPayment
one_standing_kept = whatever OneStandingPayment one_standing_with one_standing

pub reversed_kept : WhateverIsKilled ReversedByOwner
reversed_kept = whatever ReversedByOwner reversed_with reversed_by_owner

pub counted_kept : WhateverIsKilled CountedPaymentsStand
counted_kept = whatever CountedPaymentsStand counted_with counted_stand

pub in_full_kept : WhateverIsKilled StandingAreCounted
in_full_kept = whatever StandingAreCounted in_full_with standing_counted

pub one_answer_at_once : WhateverIsKilled (λ (ctx : Context) (w : World). OneAnswer ctx w w)
one_answer_at_once = whatever (λ (ctx : Context) (w : World). OneAnswer ctx w w) (λ ctx r packets o. one_answer_with ctx r r packets packets o) (λ ctx s w r. one_answer ctx s w [] r)

pub one_answer_later : AtAnyLaterMoment OneAnswer
one_answer_later = at_later OneAnswer one_answer_with one_answer

pub decisions_kept : AtAnyLaterMoment (λ (ctx : Context) (w v : World). StaysDecided w v)
decisions_kept = at_later (λ (ctx : Context) (w v : World). StaysDecided w v) (λ ctx r q ps qs o. stays_with r q ps qs o) (λ ctx s w events r. stays_decided ctx w events)

pub requests_kept : OnceSaid AsksAsSubmitted
requests_kept = once_said AsksAsSubmitted asks_with (λ ctx s r k p reached said. (requests_submitted ctx s r reached.laws (reached_sound ctx s r reached)).packets k p said) stays_said

pub answers_kept : OnceSaid AnswersAsDecided
answers_kept = once_said AnswersAsDecided answers_with (λ ctx s r k p reached said. (answers_decided ctx s r reached.laws (reached_sound ctx s r reached)).packets k p said) stays_said
