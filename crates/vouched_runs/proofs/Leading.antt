-- Vouched calls keep what the promises hang on, and days of them compose.
use Rattle.std.proofs.Common.{List, [], ◌∷◌, ◌++◌, sym, subst}
use Rattle.claim_model.specs.Context.{Context}
use Rattle.claim_model.specs.World.{World}
use Rattle.claim_model.specs.Settings.{WorldSettings, opening}
use Rattle.claim_model.specs.Promises.{AnswersAreDecided, AnswersAreWhole, CountedPaymentsStand, OneAnswer, OneStandingPayment, RequestsAreSubmitted, ReversedByOwner, StandingAreCounted}
use Rattle.claim_model.proofs.Sound.{later_self, later_trans}
use Rattle.claim_model.proofs.Firm.{Firm, Kept_firm, opening_firm, call_firm}
use Rattle.claim_model.proofs.Held.{requests_submitted, answers_decided, later_answers}
use Rattle.claim_model.proofs.Whole.{sound_whole}
use Rattle.claim_model.proofs.Owners.{firm_one_standing, firm_reversed_by_owner}
use Rattle.claim_model.proofs.Counting.{firm_counted_stand}
use Rattle.claim_model.proofs.CountedInFull.{firm_standing_counted}
use Rattle.crash_safety.specs.Explained.{Turn}
use Rattle.vouched_runs.specs.Parties.{Parties, world_of, parties_in}
use Rattle.vouched_runs.specs.Vouched.{Leads, Vouched, AlwaysVouched, VouchedLater}
use Rattle.vouched_runs.proofs.Apart.{apart_later, firm_apart}

-- ---- one call after another

pub leads_firm : (ctx : Context) (given : WorldSettings) (p q : Parties) (turns : List Turn) → Firm ctx given (world_of p) → Leads ctx p turns q → Kept_firm ctx given (world_of p) (world_of q)
leads_firm ctx given p q [] f l = subst (λ (r : Parties). Kept_firm ctx given (world_of p) (world_of r)) l (record { firm = f; later = later_self ctx (world_of p) })
leads_firm ctx given p q (t ∷ turns) f l =
    let w : World = world_of p in
    let v : World = l.1.0 in
    let a : World = world_of (parties_in v) in
    let k = call_firm ctx given w v t.node t.logged.call t.logged.sent f l.0 l.1.1 in
    let rest = leads_firm ctx given (parties_in v) q turns (firm_apart ctx given v k.firm) l.1.2 in
    record { firm = rest.firm; later = later_trans ctx w a (world_of q) (later_trans ctx w v a k.later (apart_later ctx v)) rest.later }

pub vouched_firm : (ctx : Context) (settings : WorldSettings) (p : Parties) → Vouched ctx settings p → Firm ctx settings (world_of p)
vouched_firm ctx settings p v =
    let o : World = opening settings in
    (leads_firm ctx settings (parties_in o) p v.turns (firm_apart ctx settings o (opening_firm ctx settings v.laws v.accepts)) v.leads).firm

-- ---- promises

pub vouched_standing : AlwaysVouched OneStandingPayment
vouched_standing = λ ctx settings p v. firm_one_standing ctx settings (world_of p) (vouched_firm ctx settings p v)

pub vouched_counted : AlwaysVouched CountedPaymentsStand
vouched_counted = λ ctx settings p v. firm_counted_stand ctx settings (world_of p) (vouched_firm ctx settings p v)

pub vouched_in_full : AlwaysVouched StandingAreCounted
vouched_in_full = λ ctx settings p v. firm_standing_counted ctx settings (world_of p) (vouched_firm ctx settings p v)

pub vouched_reversed : AlwaysVouched ReversedByOwner
vouched_reversed = λ ctx settings p v. firm_reversed_by_owner ctx settings (world_of p) (vouched_firm ctx settings p v)

pub vouched_requests : AlwaysVouched RequestsAreSubmitted
vouched_requests = λ ctx settings p v. requests_submitted ctx settings (world_of p) v.laws (vouched_firm ctx settings p v).sound

pub vouched_answers : AlwaysVouched AnswersAreDecided
vouched_answers = λ ctx settings p v. answers_decided ctx settings (world_of p) v.laws (vouched_firm ctx settings p v).sound

pub vouched_whole : AlwaysVouched AnswersAreWhole
vouched_whole = λ ctx settings p v. sound_whole ctx settings (world_of p) v.laws (vouched_firm ctx settings p v).sound

pub vouched_agree : VouchedLater OneAnswer
vouched_agree = λ ctx settings p q turns v l.
    let f : Firm ctx settings (world_of p) = vouched_firm ctx settings p v in
    let k = leads_firm ctx settings p q turns f l in
    later_answers ctx settings (world_of p) (world_of q) f.sound k.firm.sound k.later

-- ---- days

pub leads_joined : (ctx : Context) (p q r : Parties) (turns more : List Turn) → Leads ctx p turns q → Leads ctx q more r → Leads ctx p (turns ++ more) r
leads_joined ctx p q r [] more a b = subst (λ (s : Parties). Leads ctx s more r) (sym a) b
leads_joined ctx p q r (t ∷ turns) more a b = (a.0, (a.1.0, a.1.1, leads_joined ctx (parties_in a.1.0) q r turns more a.1.2 b))

pub vouched_on : (ctx : Context) (settings : WorldSettings) (p q : Parties) (turns : List Turn) → Vouched ctx settings p → Leads ctx p turns q → Vouched ctx settings q
vouched_on ctx settings p q turns v l =
    record { laws = v.laws; accepts = v.accepts; turns = v.turns ++ turns; leads = leads_joined ctx (parties_in (opening settings)) p q v.turns turns v.leads l }
