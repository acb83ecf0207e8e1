-- What a payer took when it answers, where each of its answers comes from, and which kind of node makes which call.
use Rattle.std.proofs.Common.{◌≡◌, ℕ, zero, suc, ◌≤◌, Bool, true, false, cond, List, [], ◌∷◌, ◌++◌, map, length, Some, Result, Ok, Err, refl, sym, ap, ◌∙◌, subst, ◌⊎◌, inl, inr}
use Rattle.std.specs.Prelude.{⊤}
use Rattle.std.specs.List.{AllByRecursion}
use Rattle.claim_model.specs.Words.{Advice, TxnId, RequestHeader, Envelope, Plan, PlanFault, Change}
use Rattle.claim_model.specs.declared.refusal.Refusal.{Refusal}
use Rattle.claim_model.specs.Context.{Context}
use Rattle.claim_model.specs.Laws.{Laws}
use Rattle.claim_model.specs.Readable.{readable, payer_for, longest, is_request, answer_text, answer_envelope}
use Rattle.claim_model.specs.Numbered.{numbered}
use Rattle.claim_model.specs.Rows.{Book}
use Rattle.claim_model.specs.Book.{Answered, new_row, unadvised, answered}
use Rattle.claim_model.specs.Journal.{RetryRule, Journal, JournalAtRest}
use Rattle.claim_model.specs.Node.{Node, Pharmacy, Switch, Payer, Power, Up, AtRest, Sent, Call, Submit, Tick, Take, Stop, Start, Revise, OfPlan, OfRule, OfCap, Adjudicate, Outcome, Done, Refused, after_answer, payer_takes, advice_in, after_reprice, payer_step}
use Rattle.claim_model.specs.World.{World, Packet, packet_from}
use Rattle.claim_model.specs.Settings.{WorldSettings}
use Rattle.claim_model.specs.Held.{book_in}
use Rattle.claim_model.specs.Carried.{Carries}
use Rattle.claim_model.specs.Nodes.{AnyNode, OfPharmacy, OfPayer, as_node, node_step, node_at}
use Rattle.claim_model.specs.Promises.{Reached}
use Rattle.claim_model.proofs.Lists.{all_at, all_map, find_all}
use Rattle.claim_model.proofs.Options.{map_some, same_some, same_ok}
use Rattle.claim_model.proofs.Walking.{all_right}
use Rattle.claim_model.proofs.Sound.{SoundRow, SoundBook, SoundPacket}
use Rattle.claim_model.proofs.Decided.{row_spells}
use Rattle.claim_model.proofs.PharmacyStep.{carries_reads, done_same}
use Rattle.claim_model.proofs.PayerStep.{Rows, Known, New, Ruled_on, answered_ruled, after_answer_done, takes_parts}
use Rattle.claim_model.proofs.Runs.{reached_sound}
use Rattle.crash_safety.specs.Runs.{IsAmong}
use Rattle.crash_safety.specs.Explained.{packet, IsExplained}
use Rattle.crash_safety.proofs.Sound.{nothing_numbered}
use Rattle.crash_safety.proofs.Courses.{one_further}
use Rattle.crash_safety.proofs.Lighter.{among_left}

pub among_split : (xs ys : List Packet) (p : Packet) → IsAmong (xs ++ ys) p → IsAmong xs p ⊎ IsAmong ys p
among_split xs ys p a = split xs a.number a.is
  where
    split : (xs : List Packet) (n : ℕ) → numbered (xs ++ ys) n ≡ Some p → IsAmong xs p ⊎ IsAmong ys p
    split [] n e = inr (record { number = n; is = e })
    split (x ∷ xs) zero e = absurd cc
    split (x ∷ xs) (suc zero) e = inl (record { number = suc zero; is = e })
    split (x ∷ xs) (suc (suc k)) e = elim (split xs (suc k) e) [ inl old ↦ inl (one_further xs p x old) | inr new ↦ inr new ]

pub among_one : (x p : Packet) → IsAmong (x ∷ []) p → x ≡ p
among_one x p a = one a.number a.is
  where
    one : (n : ℕ) → numbered (x ∷ []) n ≡ Some p → x ≡ p
    one zero e = absurd cc
    one (suc zero) e = cc
    one (suc (suc k)) e = absurd (nothing_numbered (suc k) p e)

-- what a node sends is from it
pub from_it : (node : Node) (sent : List Sent) (p : Packet) → IsAmong (map (packet_from node) sent) p → p.from ≡ node
from_it node sent p a =
    all_at (λ (q : Packet). q.from ≡ node) (map (packet_from node) sent) a.number p
    (all_map (λ (x : Sent). ⊤) (λ (q : Packet). q.from ≡ node) (packet_from node) (λ x t. refl) sent (all_true sent)) a.is
  where
    all_true : (xs : List Sent) → AllByRecursion (λ (x : Sent). ⊤) xs
    all_true [] = tt
    all_true (x ∷ xs) = (tt, all_true xs)

pub carries_at : (ctx : Context) (s : WorldSettings) (w : World) (p : Packet) → Reached ctx s w → IsAmong w.packets p → Carries ctx w p.bytes
carries_at ctx s w p r a = all_at (SoundPacket ctx w) w.packets a.number p (reached_sound ctx s w r).packets a.is

-- where an answer of a payer comes from: a request that a pharmacy had sent to the same switch
pub record Source (ctx : Context) (packets : List Packet) (m : ℕ) (bytes : List ℕ) : Type 0 where
  pub pharmacy : ℕ
  pub request : List ℕ
  pub envelope : Envelope
  pub header : RequestHeader
  pub payer : ℕ
  pub among : IsAmong packets (packet (Pharmacy pharmacy) (Switch m) request)
  pub reads : ctx.read_envelope request ≡ Ok envelope
  pub asks : is_request envelope ≡ true
  pub readable_is : readable ctx envelope.payload ≡ Some header
  pub routed : payer_for ctx envelope.id header ≡ Some payer
  pub same : (r : Envelope) → ctx.read_envelope bytes ≡ Ok r → r.id ≡ envelope.id

pub source_later : (ctx : Context) (packets more : List Packet) (m : ℕ) (bytes : List ℕ) → Source ctx packets m bytes → Source ctx (packets ++ more) m bytes
source_later ctx packets more m bytes x = record {
  pharmacy = x.pharmacy;
  request = x.request;
  envelope = x.envelope;
  header = x.header;
  payer = x.payer;
  among = among_left packets more (packet (Pharmacy x.pharmacy) (Switch m) x.request) x.among;
  reads = x.reads;
  asks = x.asks;
  readable_is = x.readable_is;
  routed = x.routed;
  same = x.same;
}

abbrev pub NoSwitch : Node → Type 0
NoSwitch node = (m : ℕ) → node ≡ Switch m → ⊥

-- ---- calls of payers

pub as_node_done : {A : Type 0} (kind : A → AnyNode) (o : Outcome A) (next : AnyNode) (sent : List Sent) → as_node kind o ≡ Done next sent → (x : A) × (o ≡ Done x sent) × (kind x ≡ next)
as_node_done kind (Done x out) next sent e = let d = done_same (kind x) next out sent e in (x, ap (λ (y : List Sent). Done x y) d.1, d.0)
as_node_done kind (Refused why) next sent e = absurd cc

pub record PayerTook (ctx : Context) (w : World) (n : ℕ) (from : Node) (bytes : List ℕ) (next : AnyNode) (sent : List Sent) : Type 0 where
  pub carries : Carries ctx w bytes
  pub asks : is_request carries.envelope ≡ true
  pub book : Book
  pub advice : Advice
  pub answered_is : Answered
  pub ruled : Ruled_on ctx book advice carries.envelope.id carries.envelope.payload answered_is
  pub payer : book.payer ≡ n
  pub next_is : next ≡ OfPayer (Up answered_is.book)
  pub sent_is : sent ≡ record { to = from; bytes = ctx.envelope (answer_envelope carries.envelope.id answered_is.bytes) } ∷ []

took_so : (ctx : Context) (s : WorldSettings) (w : World) (n : ℕ) (from : Node) (bytes : List ℕ) (b : Book) (advice : Advice) (next : AnyNode) (sent : List Sent) → Laws ctx → Carries ctx w bytes → SoundBook ctx s w n b
    → as_node OfPayer (payer_takes ctx b advice from (ctx.read_envelope bytes)) ≡ Done next sent → PayerTook ctx w n from bytes next sent
took_so ctx s w n from bytes b advice next sent laws c sb e =
    let d = as_node_done OfPayer (payer_takes ctx b advice from (ctx.read_envelope bytes)) next sent e in
    let t = takes_parts (is_request c.envelope) (after_answer ctx from c.envelope.id (answered ctx b advice c.envelope.id c.envelope.payload)) d.0 sent (ap (payer_takes ctx b advice from) (sym (carries_reads ctx w bytes laws c)) ∙ d.1) in
    let a = after_answer_done ctx from c.envelope.id (answered ctx b advice c.envelope.id c.envelope.payload) d.0 sent t.1 in
    record {
      carries = c;
      asks = t.0;
      book = b;
      advice = advice;
      answered_is = a.0;
      ruled = answered_ruled ctx b advice c.envelope.id c.envelope.payload a.0 a.1;
      payer = sb.payer;
      next_is = sym d.2 ∙ ap OfPayer (sym a.2);
      sent_is = sym a.3;
    }

payer_took_by : (ctx : Context) (s : WorldSettings) (w : World) (n : ℕ) (from : Node) (bytes : List ℕ) (b : Power Book Book) (next : AnyNode) (sent : List Sent) → Laws ctx → Carries ctx w bytes → SoundBook ctx s w n (book_in b)
    → as_node OfPayer (payer_step ctx b (Take from bytes)) ≡ Done next sent → PayerTook ctx w n from bytes next sent
payer_took_by ctx s w n from bytes (AtRest b) next sent laws c sb e = absurd cc
payer_took_by ctx s w n from bytes (Up b) next sent laws c sb e = took_so ctx s w n from bytes b unadvised next sent laws c sb e

-- with an advice
advised_by : (ctx : Context) (s : WorldSettings) (w : World) (n : ℕ) (from : Node) (bytes advice : List ℕ) (b : Power Book Book) (next : AnyNode) (sent : List Sent) → Laws ctx → Carries ctx w bytes → SoundBook ctx s w n (book_in b)
    → as_node OfPayer (payer_step ctx b (Adjudicate from bytes advice)) ≡ Done next sent → PayerTook ctx w n from bytes next sent
advised_by ctx s w n from bytes advice (AtRest b) next sent laws c sb e = absurd cc
advised_by ctx s w n from bytes advice (Up b) next sent laws c sb e = by_asks b.settings.asks e
  where
    by_asks : (t : Bool) → as_node OfPayer (cond t (payer_takes ctx b (advice_in ctx advice) from (ctx.read_envelope bytes)) (Refused Refusal.NotAsked)) ≡ Done next sent → PayerTook ctx w n from bytes next sent
    by_asks true f = took_so ctx s w n from bytes b (advice_in ctx advice) next sent laws c sb f
    by_asks false f = absurd cc

pub payer_took : (ctx : Context) (s : WorldSettings) (w : World) (n : ℕ) (from : Node) (bytes : List ℕ) (now next : AnyNode) (sent : List Sent) → Reached ctx s w → Carries ctx w bytes → node_at w (Payer n) ≡ Some now
    → node_step ctx now (Take from bytes) ≡ Done next sent → PayerTook ctx w n from bytes next sent
payer_took ctx s w n from bytes now next sent r c is e =
    let b = map_some OfPayer (numbered w.payers n) now is in
    payer_took_by ctx s w n from bytes b.0 next sent r.laws c ((reached_sound ctx s w r).payers n b.0 b.1) (ap (λ (x : AnyNode). node_step ctx x (Take from bytes)) b.2 ∙ e)

pub payer_advised : (ctx : Context) (s : WorldSettings) (w : World) (n : ℕ) (from : Node) (bytes advice : List ℕ) (now next : AnyNode) (sent : List Sent) → Reached ctx s w → Carries ctx w bytes → node_at w (Payer n) ≡ Some now
    → node_step ctx now (Adjudicate from bytes advice) ≡ Done next sent → PayerTook ctx w n from bytes next sent
payer_advised ctx s w n from bytes advice now next sent r c is e =
    let b = map_some OfPayer (numbered w.payers n) now is in
    advised_by ctx s w n from bytes advice b.0 next sent r.laws c ((reached_sound ctx s w r).payers n b.0 b.1) (ap (λ (x : AnyNode). node_step ctx x (Adjudicate from bytes advice)) b.2 ∙ e)

-- ---- who takes an advice, another plan, another rule of retries, and another cap

-- a call with an advice or with a change of a plan is a payer's, one with a rule of retries a pharmacy's, and one with a cap a switch's
pub record OfItsKind (node : Node) (call : Call) : Type 0 where
  pub advice : (from : Node) (bytes advice : List ℕ) → call ≡ Adjudicate from bytes advice → (n : ℕ) × (node ≡ Payer n)
  pub plan : (change : Change) → call ≡ Revise (OfPlan change) → (n : ℕ) × (node ≡ Payer n)
  pub rule : (rule : RetryRule) → call ≡ Revise (OfRule rule) → (n : ℕ) × (node ≡ Pharmacy n)
  pub cap : (most : ℕ) → call ≡ Revise (OfCap most) → (n : ℕ) × (node ≡ Switch n)

-- what explains that a payer takes a packet explains that it takes it with an advice
pub with_advice : (ctx : Context) (packets : List Packet) (node from : Node) (bytes advice : List ℕ) → (n : ℕ) × (node ≡ Payer n) → IsExplained ctx packets node (Take from bytes) → IsExplained ctx packets node (Adjudicate from bytes advice)
with_advice ctx packets node from bytes advice y x =
    subst (λ (q : Node). IsExplained ctx packets q (Adjudicate from bytes advice)) (sym y.1) (subst (λ (q : Node). IsExplained ctx packets q (Take from bytes)) y.1 x)

-- a pharmacy takes no advice, no change of a plan, and no cap
pub pharmacy_made : (ctx : Context) (n : ℕ) (x : Power Journal JournalAtRest) (call : Call) (next : AnyNode) (sent : List Sent) → node_step ctx (OfPharmacy x) call ≡ Done next sent → OfItsKind (Pharmacy n) call
pharmacy_made ctx n x call next sent steps =
    record {
      advice = λ from bytes advice e. absurd (takes_none from bytes advice x (ap (node_step ctx (OfPharmacy x)) (sym e) ∙ steps));
      plan = λ change e. absurd (has_none change x (ap (node_step ctx (OfPharmacy x)) (sym e) ∙ steps));
      rule = λ rule e. (n, refl);
      cap = λ most e. absurd (no_switch most x (ap (node_step ctx (OfPharmacy x)) (sym e) ∙ steps));
    }
  where
    no_switch : (most : ℕ) (y : Power Journal JournalAtRest) → node_step ctx (OfPharmacy y) (Revise (OfCap most)) ≡ Done next sent → ⊥
    no_switch most (Up j) f = cc
    no_switch most (AtRest j) f = cc

    has_none : (change : Change) (y : Power Journal JournalAtRest) → node_step ctx (OfPharmacy y) (Revise (OfPlan change)) ≡ Done next sent → ⊥
    has_none change (Up j) f = cc
    has_none change (AtRest j) f = cc

    takes_none : (from : Node) (bytes advice : List ℕ) (y : Power Journal JournalAtRest) → node_step ctx (OfPharmacy y) (Adjudicate from bytes advice) ≡ Done next sent → ⊥
    takes_none from bytes advice (Up j) f = cc
    takes_none from bytes advice (AtRest j) f = cc

-- a payer takes no rule of retries, and no cap
pub payer_made : (ctx : Context) (n : ℕ) (x : Power Book Book) (call : Call) (next : AnyNode) (sent : List Sent) → node_step ctx (OfPayer x) call ≡ Done next sent → OfItsKind (Payer n) call
payer_made ctx n x call next sent steps =
    record {
      advice = λ from bytes advice e. (n, refl);
      plan = λ change e. (n, refl);
      rule = λ rule e. absurd (takes_none rule x (ap (node_step ctx (OfPayer x)) (sym e) ∙ steps));
      cap = λ most e. absurd (no_switch most x (ap (node_step ctx (OfPayer x)) (sym e) ∙ steps));
    }
  where
    no_switch : (most : ℕ) (y : Power Book Book) → node_step ctx (OfPayer y) (Revise (OfCap most)) ≡ Done next sent → ⊥
    no_switch most (Up b) f = cc
    no_switch most (AtRest b) f = cc

    takes_none : (rule : RetryRule) (y : Power Book Book) → node_step ctx (OfPayer y) (Revise (OfRule rule)) ≡ Done next sent → ⊥
    takes_none rule (Up b) f = cc
    takes_none rule (AtRest b) f = cc

-- ---- sources of the answers that a call sends

abbrev NewSources : Context → List Packet → List Packet → Type 0
NewSources ctx packets new = (k m : ℕ) (bytes : List ℕ) → IsAmong new (packet (Payer k) (Switch m) bytes) → Source ctx (packets ++ new) m bytes

none_sent : (ctx : Context) (packets : List Packet) (node : Node) (sent : List Sent) → sent ≡ [] → NewSources ctx packets (map (packet_from node) sent)
none_sent ctx packets node sent e k m bytes a =
    absurd (nothing_numbered a.number (packet (Payer k) (Switch m) bytes) (ap (λ (xs : List Sent). numbered (map (packet_from node) xs) a.number) (sym e) ∙ a.is))

no_payer : (n k : ℕ) → Payer k ≡ Pharmacy n → ⊥
no_payer n k e = cc

of_pharmacy : (ctx : Context) (packets : List Packet) (n : ℕ) (sent : List Sent) → NewSources ctx packets (map (packet_from (Pharmacy n)) sent)
of_pharmacy ctx packets n sent k m bytes a = absurd (no_payer n k (from_it (Pharmacy n) sent (packet (Payer k) (Switch m) bytes) a))

-- an answer of a payer is short
answer_short : (ctx : Context) (s : WorldSettings) (w : World) (n : ℕ) (b : Book) (advice : Advice) (id : TxnId) (request : List ℕ) (h : RequestHeader) (a : Answered) → Laws ctx → SoundBook ctx s w n a.book → readable ctx request ≡ Some h
    → Rows ctx b advice id request h a → length a.bytes ≤ longest
answer_short ctx s w n b advice id request h a laws sb reads (Known row found same book text) =
    let y : SoundRow ctx w n a.book.rows row = find_all (SoundRow ctx w n a.book.rows) _ a.book.rows row sb.rows (ap (λ (q : Book). Rattle.claim_model.specs.Book.row_of id q.rows) book ∙ found) in
    let same_header : y.header ≡ h = same_some y.header h (sym y.reads ∙ (ap (readable ctx) same ∙ reads)) in
    subst (λ (t : List ℕ). length t ≤ longest) (ap (λ (g : RequestHeader). answer_text ctx g row) same_header ∙ sym text)
    (row_spells ctx row.request y.header row laws y.reads y.count y.written).short
answer_short ctx s w n b advice id request h a laws sb reads (New fresh fits_all advised book text) =
    let row = new_row ctx b advice id request in
    let all : AllByRecursion (SoundRow ctx w n a.book.rows) (b.rows ++ row ∷ []) = subst (λ (q : Book). AllByRecursion (SoundRow ctx w n a.book.rows) q.rows) book sb.rows in
    let y : SoundRow ctx w n a.book.rows row = (all_right (SoundRow ctx w n a.book.rows) b.rows (row ∷ []) all).0 in
    let same_header : y.header ≡ h = same_some y.header h (sym y.reads ∙ reads) in
    subst (λ (t : List ℕ). length t ≤ longest) (ap (λ (g : RequestHeader). answer_text ctx g row) same_header ∙ sym text)
    (row_spells ctx row.request y.header row laws y.reads y.count y.written).short

same_to : (n k m : ℕ) (from : Node) (out bytes : List ℕ) → packet (Payer n) from out ≡ packet (Payer k) (Switch m) bytes → (from ≡ Switch m) × (out ≡ bytes)
same_to n k m from out bytes e = (ap (λ (p : Packet). p.to) e, ap (λ (p : Packet). p.bytes) e)

same_switch : (a b : ℕ) → Switch a ≡ Switch b → a ≡ b
same_switch a b e = cc

-- what a payer answers reads back
pub reply_reads : (ctx : Context) (s : WorldSettings) (w u : World) (n : ℕ) (from : Node) (bytes : List ℕ) (next : AnyNode) (sent : List Sent) → Laws ctx → Reached ctx s u → (t : PayerTook ctx w n from bytes next sent) → node_at u (Payer n) ≡ Some next
    → ctx.read_envelope (ctx.envelope (answer_envelope t.carries.envelope.id t.answered_is.bytes)) ≡ Ok (answer_envelope t.carries.envelope.id t.answered_is.bytes)
reply_reads ctx s w u n from bytes next sent laws r t at =
    let c = t.carries in
    let b = map_some OfPayer (numbered u.payers n) next at in
    let book : b.0 ≡ Up t.answered_is.book = let f : OfPayer b.0 ≡ OfPayer (Up t.answered_is.book) = b.2 ∙ t.next_is in cc in
    let sb : SoundBook ctx s u n t.answered_is.book = subst (λ (x : Power Book Book). SoundBook ctx s u n (book_in x)) book ((reached_sound ctx s u r).payers n b.0 b.1) in
    let short = answer_short ctx s u n t.book t.advice c.envelope.id c.envelope.payload t.ruled.header t.answered_is laws sb t.ruled.reads t.ruled.rows in
    laws.envelopes (answer_envelope c.envelope.id t.answered_is.bytes)
    (record { pharmacy = c.fits.pharmacy; pharmacy_fits = c.fits.pharmacy_fits; number = c.fits.number; number_fits = c.fits.number_fits; payload = short })

of_payer : (ctx : Context) (s : WorldSettings) (w u : World) (packets : List Packet) (n : ℕ) (from : Node) (bytes : List ℕ) (next : AnyNode) (sent : List Sent) (m k : ℕ) → Laws ctx → Reached ctx s u → PayerTook ctx w n from bytes next sent
    → node_at u (Payer n) ≡ Some next → from ≡ Switch m → IsAmong packets (packet (Pharmacy k) (Switch m) bytes) → NewSources ctx packets (map (packet_from (Payer n)) sent)
of_payer ctx s w u packets n from bytes next sent m k laws r t at same a j l out new =
    let c = t.carries in
    let reply = ctx.envelope (answer_envelope c.envelope.id t.answered_is.bytes) in
    let one : IsAmong (packet (Payer n) from reply ∷ []) (packet (Payer j) (Switch l) out) =
    subst (λ (xs : List Sent). IsAmong (map (packet_from (Payer n)) xs) (packet (Payer j) (Switch l) out)) t.sent_is new in
    let is = same_to n j l from reply out (among_one (packet (Payer n) from reply) (packet (Payer j) (Switch l) out) one) in
    let number : m ≡ l = same_switch m l (sym same ∙ is.0) in
    let back = reply_reads ctx s w u n from bytes next sent laws r t at in
    record {
      pharmacy = k;
      request = bytes;
      envelope = c.envelope;
      header = t.ruled.header;
      payer = t.book.payer;
      among = among_left packets (map (packet_from (Payer n)) sent) (packet (Pharmacy k) (Switch l) bytes) (subst (λ (x : ℕ). IsAmong packets (packet (Pharmacy k) (Switch x) bytes)) number a);
      reads = carries_reads ctx w bytes laws c;
      asks = t.asks;
      readable_is = t.ruled.reads;
      routed = t.ruled.routed;
      same = λ q reads. ap (λ (y : Envelope). y.id) (sym (same_ok (answer_envelope c.envelope.id t.answered_is.bytes) q (sym back ∙ (ap ctx.read_envelope is.1 ∙ reads))));
    }

-- other calls of a payer send nothing
repriced_silent : (b : Book) (o : Result Plan PlanFault) (next : Power Book Book) (sent : List Sent) → after_reprice b o ≡ Done next sent → sent ≡ []
repriced_silent b (Ok plan) next sent e = cc
repriced_silent b (Err f) next sent e = absurd cc

payer_silent_by : (ctx : Context) (b : Power Book Book) (call : Call) (next : Power Book Book) (sent : List Sent) → ((from : Node) (bytes : List ℕ) → call ≡ Take from bytes → ⊥) → ((from : Node) (bytes advice : List ℕ) → call ≡ Adjudicate from bytes advice → ⊥) → payer_step ctx b call ≡ Done next sent → sent ≡ []
payer_silent_by ctx (Up b) (Take from bytes) next sent d f e = absurd (d from bytes refl)
payer_silent_by ctx (Up b) Stop next sent d f e = cc
payer_silent_by ctx (Up b) (Revise (OfPlan change)) next sent d f e = repriced_silent b (ctx.reprice b.plan change) next sent e
payer_silent_by ctx (Up b) (Revise (OfRule rule)) next sent d f e = absurd cc
payer_silent_by ctx (Up b) (Revise (OfCap most)) next sent d f e = absurd cc
payer_silent_by ctx (AtRest b) Start next sent d f e = cc
payer_silent_by ctx (Up b) (Submit text) next sent d f e = absurd cc
payer_silent_by ctx (Up b) Tick next sent d f e = absurd cc
payer_silent_by ctx (Up b) Start next sent d f e = absurd cc
payer_silent_by ctx (AtRest b) (Submit text) next sent d f e = absurd cc
payer_silent_by ctx (AtRest b) Tick next sent d f e = absurd cc
payer_silent_by ctx (AtRest b) (Take from bytes) next sent d f e = absurd cc
payer_silent_by ctx (AtRest b) Stop next sent d f e = absurd cc
payer_silent_by ctx (AtRest b) (Revise (OfPlan change)) next sent d f e = absurd cc
payer_silent_by ctx (AtRest b) (Revise (OfRule rule)) next sent d f e = absurd cc
payer_silent_by ctx (AtRest b) (Revise (OfCap most)) next sent d f e = absurd cc
payer_silent_by ctx (Up b) (Adjudicate from bytes advice) next sent d f e = absurd (f from bytes advice refl)
payer_silent_by ctx (AtRest b) (Adjudicate from bytes advice) next sent d f e = absurd cc

pub payer_silent : (ctx : Context) (w : World) (n : ℕ) (call : Call) (now next : AnyNode) (sent : List Sent) → ((from : Node) (bytes : List ℕ) → call ≡ Take from bytes → ⊥) → ((from : Node) (bytes advice : List ℕ) → call ≡ Adjudicate from bytes advice → ⊥) → node_at w (Payer n) ≡ Some now → node_step ctx now call ≡ Done next sent → sent ≡ []
payer_silent ctx w n call now next sent d f is e =
    let b = map_some OfPayer (numbered w.payers n) now is in
    let o = as_node_done OfPayer (payer_step ctx b.0 call) next sent (ap (λ (x : AnyNode). node_step ctx x call) b.2 ∙ e) in
    payer_silent_by ctx b.0 call o.0 sent d f o.1

pub new_sources : (ctx : Context) (s : WorldSettings) (w u : World) (packets : List Packet) (node : Node) (call : Call) (now next : AnyNode) (sent : List Sent) → Reached ctx s w → Reached ctx s u
    → ((p : Packet) → IsAmong packets p → IsAmong w.packets p) → node_at w node ≡ Some now → node_at u node ≡ Some next
    → node_step ctx now call ≡ Done next sent → IsExplained ctx packets node call → NewSources ctx packets (map (packet_from node) sent)
new_sources ctx s w u packets (Pharmacy n) call now next sent r r' among is at steps x = of_pharmacy ctx packets n sent
new_sources ctx s w u packets (Switch m) call now next sent r r' among is at steps x = absurd x
new_sources ctx s w u packets (Payer n) (Take from bytes) now next sent r r' among is at steps x =
    let q = packet (Pharmacy x.2.0) (Switch x.0) bytes in
    let t = payer_took ctx s w n from bytes now next sent r (carries_at ctx s w q r (among q x.2.1)) is steps in
    of_payer ctx s w u packets n from bytes next sent x.0 x.2.0 r.laws r' t at x.1 x.2.1
new_sources ctx s w u packets (Payer n) (Adjudicate from bytes advice) now next sent r r' among is at steps x =
    let q = packet (Pharmacy x.2.0) (Switch x.0) bytes in
    let t = payer_advised ctx s w n from bytes advice now next sent r (carries_at ctx s w q r (among q x.2.1)) is steps in
    of_payer ctx s w u packets n from bytes next sent x.0 x.2.0 r.laws r' t at x.1 x.2.1
new_sources ctx s w u packets (Payer n) (Submit text) now next sent r r' among is at steps x = absurd x
new_sources ctx s w u packets (Payer n) Tick now next sent r r' among is at steps x = absurd x
new_sources ctx s w u packets (Payer n) Stop now next sent r r' among is at steps x = none_sent ctx packets (Payer n) sent (payer_silent ctx w n Stop now next sent (λ from bytes e. cc) (λ from bytes advice e. cc) is steps)
new_sources ctx s w u packets (Payer n) Start now next sent r r' among is at steps x = none_sent ctx packets (Payer n) sent (payer_silent ctx w n Start now next sent (λ from bytes e. cc) (λ from bytes advice e. cc) is steps)
new_sources ctx s w u packets (Payer n) (Revise (OfPlan change)) now next sent r r' among is at steps x =
    none_sent ctx packets (Payer n) sent (payer_silent ctx w n (Revise (OfPlan change)) now next sent (λ from bytes e. cc) (λ from bytes advice e. cc) is steps)
new_sources ctx s w u packets (Payer n) (Revise (OfRule rule)) now next sent r r' among is at steps x = absurd x
new_sources ctx s w u packets (Payer n) (Revise (OfCap most)) now next sent r r' among is at steps x = absurd x
