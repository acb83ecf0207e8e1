-- A pharmacy with a larger cap, among more switches, makes each call that it made, and knows no routes.
use Rattle.std.proofs.Common.{◌≡◌, ℕ, ◌+◌, ◌≤◌, Bool, true, false, cond, not, List, [], ◌∷◌, ◌++◌, map, length, nat_lt, Option, Some, None, Result, Ok, Err, refl, sym, ap, ◌∙◌, arith}
use Rattle.std.specs.List.{list_all}
use Rattle.std.specs.Prelude.{zero, suc, ◌==◌, ◌&&◌, nat_le}
use Rattle.std.proofs.lemmas.Bool.Decides.{nat_tests}
use Rattle.claim_model.specs.Words.{RequestHeader, Envelope, EnvelopeFault, RouteKey}
use Rattle.claim_model.specs.Context.{Context}
use Rattle.claim_model.specs.Readable.{has_version, has_code, longest, settles, is_request}
use Rattle.claim_model.specs.declared.refusal.Refusal.{Refusal}
use Rattle.claim_model.specs.Numbered.{numbered}
use Rattle.claim_model.specs.Journal.{RetryRule, Entry, Journal, JournalAtRest, State, Sending, first_fault, is_own, submit_fault, submitted_unless, submitted, ticked, due_by, due_from, due, settle_by, settle_with, heard_at, heard, stopped, started, is_empty, is_switch, have_switches, most_nodes, is_rounds, is_rule, ruled_anew}
use Rattle.claim_model.specs.Node.{Power, Up, AtRest, Sent, Call, Submit, Tick, Take, Stop, Start, Revise, OfPlan, OfRule, OfCap, Adjudicate, Outcome, Done, Refused, to_switch, after_submit, after_hearing, pharmacy_takes, pharmacy_up, pharmacy_at_rest, pharmacy_step}
use Rattle.settings_growth.specs.Growth.{journal_with_cap}
use Rattle.settings_growth.proofs.Rerouted.{rerouted, leading}

abbrev capped : ℕ → Journal → Journal
capped cap j = record j { settings = record j.settings { cap = cap } }

-- a submission that is taken is taken still

still_room : (entries cap more : ℕ) → cap ≤ more → nat_lt entries cap ≡ true → nat_lt entries more ≡ true
still_room entries cap more le e = grind (arith, nat_tests)

no_fault : (a b c d e f : Bool) (v w x y z : Refusal) → (e ≡ true → f ≡ true)
    → first_fault ((not a, v) ∷ (not b, w) ∷ (not c, x) ∷ (not d, y) ∷ (not e, z) ∷ []) ≡ None → first_fault ((not a, v) ∷ (not b, w) ∷ (not c, x) ∷ (not d, y) ∷ (not f, z) ∷ []) ≡ None
no_fault false b c d e f v w x y z imp none = absurd cc
no_fault true false c d e f v w x y z imp none = absurd cc
no_fault true true false d e f v w x y z imp none = absurd cc
no_fault true true true false e f v w x y z imp none = absurd cc
no_fault true true true true false f v w x y z imp none = absurd cc
no_fault true true true true true f v w x y z imp none = ap (λ (t : Bool). first_fault ((not t, z) ∷ [])) (imp refl)

no_submit_fault : (j : Journal) (cap : ℕ) (text : List ℕ) (o : Option RequestHeader) → j.settings.cap ≤ cap → submit_fault j text o ≡ None → submit_fault (capped cap j) text o ≡ None
no_submit_fault j cap text None le e = absurd cc
no_submit_fault j cap text (Some h) le e =
    no_fault (has_version h) (has_code h) (is_own j.settings h) (nat_le (length text) longest) (nat_lt (length j.entries) j.settings.cap) (nat_lt (length j.entries) cap)
    Refusal.Version Refusal.CodeNotCarried Refusal.NotOwnProvider Refusal.TooLong Refusal.JournalFull (still_room (length j.entries) j.settings.cap cap le) e

submits : (ctx : Context) (j : Journal) (cap : ℕ) (text : List ℕ) (o p : Option Refusal) (next : Power Journal JournalAtRest) (sent : List Sent) → (o ≡ None → p ≡ None)
    → after_submit (submitted_unless ctx j text o) ≡ Done next sent → after_submit (submitted_unless ctx (capped cap j) text p) ≡ Done (journal_with_cap cap next) sent
submits ctx j cap text (Some why) p next sent none e = absurd cc
submits ctx j cap text None p next sent none e = ap (λ (q : Option Refusal). after_submit (submitted_unless ctx (capped cap j) text q)) (none refl) ∙ ap (leading (journal_with_cap cap)) e

-- what is due hangs on no cap

due_with : (ctx : Context) (route : ℕ → RouteKey → Option ℕ) (count : ℕ) (j : Journal) (cap number : ℕ) (entries : List Entry) → due_from (rerouted ctx route count) (capped cap j) number entries ≡ due_from ctx j number entries
due_with ctx route count j cap number [] = refl
due_with ctx route count j cap number (e ∷ more) = ap (λ (xs : List Sending). due_by ctx j number e.request e.state ++ xs) (due_with ctx route count j cap (number + 1) more)

-- nor does what is heard

hears : (j : Journal) (cap n : ℕ) (e : Entry) (r : Result State Refusal) (next : Power Journal JournalAtRest) (sent : List Sent)
    → after_hearing (settle_with j n e r) ≡ Done next sent → after_hearing (settle_with (capped cap j) n e r) ≡ Done (journal_with_cap cap next) sent
hears j cap n e (Err why) next sent is = absurd cc
hears j cap n e (Ok state) next sent is = ap (leading (journal_with_cap cap)) is

hears_fitting : (j : Journal) (cap n : ℕ) (e : Entry) (r : Result State Refusal) (fits : Bool) (next : Power Journal JournalAtRest) (sent : List Sent)
    → after_hearing (cond fits (settle_with j n e r) (Err Refusal.Unreadable)) ≡ Done next sent → after_hearing (cond fits (settle_with (capped cap j) n e r) (Err Refusal.Unreadable)) ≡ Done (journal_with_cap cap next) sent
hears_fitting j cap n e r true next sent is = hears j cap n e r next sent is
hears_fitting j cap n e r false next sent is = absurd cc

hears_at : (ctx : Context) (j : Journal) (cap : ℕ) (e : Envelope) (o : Option Entry) (next : Power Journal JournalAtRest) (sent : List Sent)
    → after_hearing (heard_at ctx j e o) ≡ Done next sent → after_hearing (heard_at ctx (capped cap j) e o) ≡ Done (journal_with_cap cap next) sent
hears_at ctx j cap e None next sent is = absurd cc
hears_at ctx j cap e (Some entry) next sent is =
    hears_fitting j cap e.id.number entry (settle_by e.payload entry.state) (not (is_request e) && settles ctx entry.request e.payload) next sent is

hears_own : (ctx : Context) (j : Journal) (cap : ℕ) (e : Envelope) (own : Bool) (next : Power Journal JournalAtRest) (sent : List Sent)
    → after_hearing (cond own (heard_at ctx j e (numbered j.entries e.id.number)) (Err Refusal.NotMine)) ≡ Done next sent
    → after_hearing (cond own (heard_at ctx (capped cap j) e (numbered j.entries e.id.number)) (Err Refusal.NotMine)) ≡ Done (journal_with_cap cap next) sent
hears_own ctx j cap e true next sent is = hears_at ctx j cap e (numbered j.entries e.id.number) next sent is
hears_own ctx j cap e false next sent is = absurd cc

takes : (ctx : Context) (j : Journal) (cap : ℕ) (o : Result Envelope EnvelopeFault) (next : Power Journal JournalAtRest) (sent : List Sent)
    → pharmacy_takes ctx j o ≡ Done next sent → pharmacy_takes ctx (capped cap j) o ≡ Done (journal_with_cap cap next) sent
unfolding heard
takes ctx j cap (Err why) next sent is = absurd cc
takes ctx j cap (Ok e) next sent is = hears_own ctx j cap e (e.id.pharmacy == j.number) next sent is

-- a rule that was taken is taken among more switches

both_still : (a b c d : Bool) → (a ≡ true → c ≡ true) → (b ≡ true → d ≡ true) → (a && b) ≡ true → (c && d) ≡ true
both_still true true c d f g e = ap (λ (t : Bool). t && d) (f refl) ∙ g refl
both_still true false c d f g e = absurd cc
both_still false b c d f g e = absurd cc

still_switch : (some count n : ℕ) → some ≤ count → is_switch some n ≡ true → is_switch count n ≡ true
still_switch some count zero le e = absurd cc
still_switch some count (suc k) le e = still_room k some count le e

still_switches : (some count : ℕ) (nodes : List ℕ) → some ≤ count → list_all (is_switch some) nodes ≡ true → list_all (is_switch count) nodes ≡ true
still_switches some count [] le e = refl
still_switches some count (n ∷ nodes) le e =
    both_still (is_switch some n) (list_all (is_switch some) nodes) (is_switch count n) (list_all (is_switch count) nodes) (still_switch some count n le) (still_switches some count nodes le) e

still_rule : (some count : ℕ) (r : RetryRule) → some ≤ count → is_rule some r ≡ true → is_rule count r ≡ true
still_rule some count r le =
    let nodes : have_switches some r.nodes ≡ true → have_switches count r.nodes ≡ true =
    both_still (not (is_empty r.nodes)) (list_all (is_switch some) r.nodes) (not (is_empty r.nodes)) (list_all (is_switch count) r.nodes) (λ t. t) (still_switches some count r.nodes le) in
    both_still (is_rounds r.again) _ (is_rounds r.again) _ (λ t. t)
    (both_still (is_rounds r.tries) _ (is_rounds r.tries) _ (λ t. t)
    (both_still (have_switches some r.nodes) (nat_le (length r.nodes) most_nodes) (have_switches count r.nodes) (nat_le (length r.nodes) most_nodes) nodes (λ t. t)))

rules : (j : Journal) (cap : ℕ) (r : RetryRule) (b c : Bool) (next : Power Journal JournalAtRest) (sent : List Sent) → (b ≡ true → c ≡ true)
    → cond b (Done (Up (ruled_anew r j)) []) (Refused Refusal.BadRule) ≡ Done next sent → cond c (Done (Up (ruled_anew r (capped cap j))) []) (Refused Refusal.BadRule) ≡ Done (journal_with_cap cap next) sent
unfolding ruled_anew started stopped
rules j cap r false c next sent still e = absurd cc
rules j cap r true c next sent still e =
    ap (λ (t : Bool). cond t (Done (Up (ruled_anew r (capped cap j))) []) (Refused Refusal.BadRule)) (still refl) ∙ ap (leading (journal_with_cap cap)) e

-- every call

step_up : (ctx : Context) (route : ℕ → RouteKey → Option ℕ) (count : ℕ) (j : Journal) (cap : ℕ) (call : Call) (next : Power Journal JournalAtRest) (sent : List Sent) → ctx.switches ≤ count → j.settings.cap ≤ cap
    → pharmacy_up ctx j call ≡ Done next sent → pharmacy_up (rerouted ctx route count) (capped cap j) call ≡ Done (journal_with_cap cap next) sent
unfolding submitted ticked due heard stopped
step_up ctx route count j cap (Submit text) next sent more le e =
    submits ctx j cap text (submit_fault j text (ctx.header text)) (submit_fault (capped cap j) text (ctx.header text)) next sent (no_submit_fault j cap text (ctx.header text) le) e
step_up ctx route count j cap Tick next sent more le e =
    ap (λ (xs : List Sending). Done (journal_with_cap cap (Up (ticked j))) (map to_switch xs)) (due_with ctx route count (ticked j) cap 1 (ticked j).entries) ∙ ap (leading (journal_with_cap cap)) e
step_up ctx route count j cap (Take from bytes) next sent more le e = takes ctx j cap (ctx.read_envelope bytes) next sent e
step_up ctx route count j cap Stop next sent more le e = ap (leading (journal_with_cap cap)) e
step_up ctx route count j cap Start next sent more le e = absurd cc
step_up ctx route count j cap (Revise (OfPlan change)) next sent more le e = absurd cc
step_up ctx route count j cap (Revise (OfRule rule)) next sent more le e = rules j cap rule (is_rule ctx.switches rule) (is_rule count rule) next sent (still_rule ctx.switches count rule more) e
step_up ctx route count j cap (Revise (OfCap most)) next sent more le e = absurd cc
step_up ctx route count j cap (Adjudicate from bytes advice) next sent more le e = absurd cc

step_at_rest : (j : JournalAtRest) (cap : ℕ) (call : Call) (next : Power Journal JournalAtRest) (sent : List Sent)
    → pharmacy_at_rest j call ≡ Done next sent → pharmacy_at_rest (record j { settings = record j.settings { cap = cap } }) call ≡ Done (journal_with_cap cap next) sent
unfolding started
step_at_rest j cap (Submit text) next sent e = absurd cc
step_at_rest j cap Tick next sent e = absurd cc
step_at_rest j cap (Take from bytes) next sent e = absurd cc
step_at_rest j cap Stop next sent e = absurd cc
step_at_rest j cap Start next sent e = ap (leading (journal_with_cap cap)) e
step_at_rest j cap (Revise (OfPlan change)) next sent e = absurd cc
step_at_rest j cap (Revise (OfRule rule)) next sent e = absurd cc
step_at_rest j cap (Revise (OfCap most)) next sent e = absurd cc
step_at_rest j cap (Adjudicate from bytes advice) next sent e = absurd cc

abbrev pub journal_cap : Power Journal JournalAtRest → ℕ
journal_cap (Up j) = j.settings.cap
journal_cap (AtRest j) = j.settings.cap

pub pharmacy_over : (ctx : Context) (route : ℕ → RouteKey → Option ℕ) (count : ℕ) (node : Power Journal JournalAtRest) (cap : ℕ) (call : Call) (next : Power Journal JournalAtRest) (sent : List Sent) → ctx.switches ≤ count → journal_cap node ≤ cap
    → pharmacy_step ctx node call ≡ Done next sent → pharmacy_step (rerouted ctx route count) (journal_with_cap cap node) call ≡ Done (journal_with_cap cap next) sent
pharmacy_over ctx route count (Up j) cap call next sent more le e = step_up ctx route count j cap call next sent more le e
pharmacy_over ctx route count (AtRest j) cap call next sent more le e = step_at_rest j cap call next sent e

-- ---- a cap stays

capped_by : (f : Power Journal JournalAtRest) (next : Power Journal JournalAtRest) (out sent : List Sent) → ◌≡◌ {A = Outcome (Power Journal JournalAtRest)} (Done f out) (Done next sent) → journal_cap next ≡ journal_cap f
capped_by f next out sent e = let n : f ≡ next = cc in sym (ap journal_cap n)

submits_capped : (ctx : Context) (j : Journal) (text : List ℕ) (o : Option Refusal) (next : Power Journal JournalAtRest) (sent : List Sent) → after_submit (submitted_unless ctx j text o) ≡ Done next sent → journal_cap next ≡ j.settings.cap
submits_capped ctx j text (Some why) next sent e = absurd cc
submits_capped ctx j text None next sent e = capped_by _ next _ sent e

hears_capped : (j : Journal) (n : ℕ) (e : Entry) (r : Result State Refusal) (next : Power Journal JournalAtRest) (sent : List Sent) → after_hearing (settle_with j n e r) ≡ Done next sent → journal_cap next ≡ j.settings.cap
hears_capped j n e (Err why) next sent is = absurd cc
hears_capped j n e (Ok state) next sent is = capped_by _ next _ sent is

fitting_capped : (j : Journal) (n : ℕ) (e : Entry) (r : Result State Refusal) (fits : Bool) (next : Power Journal JournalAtRest) (sent : List Sent) → after_hearing (cond fits (settle_with j n e r) (Err Refusal.Unreadable)) ≡ Done next sent → journal_cap next ≡ j.settings.cap
fitting_capped j n e r true next sent is = hears_capped j n e r next sent is
fitting_capped j n e r false next sent is = absurd cc

hears_at_capped : (ctx : Context) (j : Journal) (e : Envelope) (o : Option Entry) (own : Bool) (next : Power Journal JournalAtRest) (sent : List Sent) → after_hearing (cond own (heard_at ctx j e o) (Err Refusal.NotMine)) ≡ Done next sent → journal_cap next ≡ j.settings.cap
hears_at_capped ctx j e o false next sent is = absurd cc
hears_at_capped ctx j e None true next sent is = absurd cc
hears_at_capped ctx j e (Some entry) true next sent is = fitting_capped j e.id.number entry (settle_by e.payload entry.state) (not (is_request e) && settles ctx entry.request e.payload) next sent is

takes_capped : (ctx : Context) (j : Journal) (o : Result Envelope EnvelopeFault) (next : Power Journal JournalAtRest) (sent : List Sent) → pharmacy_takes ctx j o ≡ Done next sent → journal_cap next ≡ j.settings.cap
unfolding heard
takes_capped ctx j (Err why) next sent is = absurd cc
takes_capped ctx j (Ok e) next sent is = hears_at_capped ctx j e (numbered j.entries e.id.number) (e.id.pharmacy == j.number) next sent is

rules_capped : (j : Journal) (r : RetryRule) (taken : Bool) (next : Power Journal JournalAtRest) (sent : List Sent) → cond taken (Done (Up (ruled_anew r j)) []) (Refused Refusal.BadRule) ≡ Done next sent → journal_cap next ≡ j.settings.cap
unfolding ruled_anew started stopped
rules_capped j r false next sent e = absurd cc
rules_capped j r true next sent e = capped_by _ next _ sent e

pub journal_cap_stays : (ctx : Context) (node : Power Journal JournalAtRest) (call : Call) (next : Power Journal JournalAtRest) (sent : List Sent) → pharmacy_step ctx node call ≡ Done next sent → journal_cap next ≡ journal_cap node
unfolding submitted ticked stopped started
journal_cap_stays ctx (Up j) (Submit text) next sent e = submits_capped ctx j text (submit_fault j text (ctx.header text)) next sent e
journal_cap_stays ctx (Up j) Tick next sent e = capped_by _ next _ sent e
journal_cap_stays ctx (Up j) (Take from bytes) next sent e = takes_capped ctx j (ctx.read_envelope bytes) next sent e
journal_cap_stays ctx (Up j) Stop next sent e = capped_by _ next _ sent e
journal_cap_stays ctx (Up j) Start next sent e = absurd cc
journal_cap_stays ctx (Up j) (Revise (OfPlan change)) next sent e = absurd cc
journal_cap_stays ctx (Up j) (Revise (OfRule rule)) next sent e = rules_capped j rule (is_rule ctx.switches rule) next sent e
journal_cap_stays ctx (Up j) (Revise (OfCap most)) next sent e = absurd cc
journal_cap_stays ctx (Up j) (Adjudicate from bytes advice) next sent e = absurd cc
journal_cap_stays ctx (AtRest j) (Submit text) next sent e = absurd cc
journal_cap_stays ctx (AtRest j) Tick next sent e = absurd cc
journal_cap_stays ctx (AtRest j) (Take from bytes) next sent e = absurd cc
journal_cap_stays ctx (AtRest j) Stop next sent e = absurd cc
journal_cap_stays ctx (AtRest j) Start next sent e = capped_by _ next _ sent e
journal_cap_stays ctx (AtRest j) (Revise (OfPlan change)) next sent e = absurd cc
journal_cap_stays ctx (AtRest j) (Revise (OfRule rule)) next sent e = absurd cc
journal_cap_stays ctx (AtRest j) (Revise (OfCap most)) next sent e = absurd cc
journal_cap_stays ctx (AtRest j) (Adjudicate from bytes advice) next sent e = absurd cc
