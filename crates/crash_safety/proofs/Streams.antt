-- A stream takes an entry, a word is told, and so any deeds: all candidates together are one process.
use Rattle.std.proofs.Common.{◌≡◌, ℕ, ◌+◌, Bool, true, false, cond, List, [], ◌∷◌, ◌++◌, take, drop, length, Option, Some, None, refl, sym, ap, ◌∙◌, subst, inl, inr, append_assoc, arith}
use Rattle.std.specs.Prelude.{nat_eq}
use Rattle.std.specs.List.{AllByRecursion}
use Rattle.std.proofs.lemmas.List.{take-append-drop, take-append-le, map-append, length-append}
use Rattle.claim_model.specs.Context.{Context}
use Rattle.claim_model.specs.Numbered.{numbered}
use Rattle.claim_model.specs.Node.{Node}
use Rattle.claim_model.specs.World.{Packet}
use Rattle.claim_model.specs.Settings.{WorldSettings}
use Rattle.claim_model.specs.Nodes.{Asked, asked}
use Rattle.claim_model.specs.Logs.{Logged, Makes, posted_by}
use Rattle.claim_model.proofs.Lists.{numbered_append, all_append}
use Rattle.claim_model.proofs.Names.{told_apart}
use Rattle.claim_model.proofs.Serving.{asks_still}
use Rattle.crash_safety.specs.Network.{Process, Network, Move, Saying, replayed, saying, beginning, moved, after, network}
use Rattle.crash_safety.specs.Fenced.{Request, Entry, Candidate, Fenced, Deed, Joining, Asking, Requesting, Taking, Learning, Telling, Ending, log_of, with_entry, taking, telling, known_log, done, at_first, all_done, fenced, AreDisks, Fences, IsReplayOfKnown}
use Rattle.crash_safety.proofs.Sound.{comes_still, nothing_numbered}
use Rattle.crash_safety.proofs.Moving.{none_some}
use Rattle.crash_safety.proofs.Courses.{after_append}
use Rattle.crash_safety.proofs.Appending.{Appended, appends_by, append_one}
use Rattle.crash_safety.proofs.Lighter.{posted_append}
use Rattle.crash_safety.proofs.Candidates.{IsFit, IsFair, HasRequest, IsFenced, Leads, still, number_is, each_stream, take_whole, length_log, joining_on, ending_on, asking_on, requesting_on, learning_on}

-- the stream takes an entry

fit_longer : (ctx : Context) (s : WorldSettings) (wire : List Packet) (requests : List Request) (log more : List Logged) (node : Node) (c : Candidate) → IsFit ctx s wire requests log node c → IsFit ctx s wire requests (log ++ more) node c
fit_longer ctx s wire requests log more node c w =
    let same : take c.known log ++ c.pending ≡ take c.known (log ++ more) ++ c.pending = ap (λ (x : List Logged). x ++ c.pending) (sym (take-append-le c.known log more w.within)) in
    record {
      within = let l = length-append log more in let b = w.within in omega (arith, l, b);
      memory = λ m e. ap (λ (x : List Logged). replayed ctx s node x) (sym same) ∙ w.memory m e;
      makes = λ before opens. subst (Makes ctx before) same (w.makes before opens);
      nobody = w.nobody;
      comes = w.comes;
      waits = w.waits;
    }

fair_longer : (ctx : Context) (s : WorldSettings) (wire : List Packet) (log more : List Logged) (r : Request) → IsFair ctx s wire log r → IsFair ctx s wire (log ++ more) r
fair_longer ctx s wire log more r w =
    record {
      within = let l = length-append log more in let b = w.within in omega (arith, l, b);
      before = w.before;
      opens = w.opens;
      makes = subst (Makes ctx w.before) (ap (λ (x : List Logged). x ++ r.logged ∷ []) (sym (take-append-le r.expected log more w.within))) w.makes;
      comes = w.comes;
    }

-- the log of a stream with one more entry
log_more : (entries : List Entry) (e : Entry) → log_of (entries ++ e ∷ []) ≡ log_of entries ++ e.logged ∷ []
log_more entries e = map-append (λ (x : Entry). x.logged) entries (e ∷ [])

entered : (ctx : Context) (s : WorldSettings) (f : Fenced) (moves more : List Move) (k : ℕ) (r : Request) → IsFenced ctx s f moves → numbered f.requests k ≡ Some r → Appended (network ctx s moves) (network ctx s (moves ++ more)) r.node r.logged
    → IsFenced ctx s (with_entry f r.node (record { request = k; logged = r.logged })) (moves ++ more)
entered ctx s f moves more k r i is a =
    let e : Entry = record { request = k; logged = r.logged } in
    let n = network ctx s moves in
    let m = network ctx s (moves ++ more) in
    let grown = log_more (f.streams r.node) e in
    record {
      are = record {
        disks = each_stream (λ (x : Node) (entries : List Entry). (m.at x).synced ≡ log_of entries) f r.node e
            (a.own ∙ (ap (λ (log : List Logged). log ++ r.logged ∷ []) (i.are.disks r.node) ∙ sym grown))
            (λ x d. ap (λ (p : Process). p.synced) (a.others x d) ∙ i.are.disks x);
        wire = a.wire ∙ i.are.wire;
      };
      idle = λ x. elim (told_apart r.node x) [
        | inl t ↦ subst (λ (y : Node). (m.at y).unsynced ≡ []) t.1 a.idle
        | inr t ↦ ap (λ (p : Process). p.unsynced) (a.others x t.1) ∙ i.idle x
      ];
      fit = each_stream (λ (x : Node) (entries : List Entry). (number : ℕ) → IsFit ctx s f.wire f.requests (log_of entries) x (f.candidates x number)) f r.node e
          (λ number. subst (λ (log : List Logged). IsFit ctx s f.wire f.requests log r.node (f.candidates r.node number)) (sym grown)
          (fit_longer ctx s f.wire f.requests (log_of (f.streams r.node)) (r.logged ∷ []) r.node (f.candidates r.node number) (i.fit r.node number)))
          (λ x d number. i.fit x number);
      fair = λ j q there. each_stream (λ (x : Node) (entries : List Entry). q.node ≡ x → IsFair ctx s f.wire (log_of entries) q) f r.node e
          (λ same. subst (λ (log : List Logged). IsFair ctx s f.wire log q) (sym grown)
          (fair_longer ctx s f.wire (log_of (f.streams r.node)) (r.logged ∷ []) q (subst (λ (y : Node). IsFair ctx s f.wire (log_of (f.streams y)) q) same (i.fair j q there))))
          (λ x d same. subst (λ (y : Node). IsFair ctx s f.wire (log_of (f.streams y)) q) same (i.fair j q there))
          q.node refl;
      each = each_stream (λ (x : Node) (entries : List Entry). AllByRecursion (HasRequest f.requests) entries) f r.node e
          (all_append (HasRequest f.requests) (f.streams r.node) (e ∷ []) (i.each r.node) (record { request = r; is = is; same = refl }, tt))
          (λ x d. i.each x);
    }

taking_one : (ctx : Context) (s : WorldSettings) (f : Fenced) (moves : List Move) (k : ℕ) (r : Request) → IsFenced ctx s f moves → numbered f.requests k ≡ Some r → r.expected ≡ length (f.streams r.node)
    → Leads ctx s (with_entry f r.node (record { request = k; logged = r.logged })) moves
taking_one ctx s f moves k r i is ends =
    let n = network ctx s moves in
    let log = log_of (f.streams r.node) in
    let w = i.fair k r is in
    let event = w.comes.event in
    let all : take r.expected log ≡ log = ap (λ (x : ℕ). take x log) (ends ∙ sym (length_log (f.streams r.node))) ∙ take_whole log in
    let makes : Makes ctx w.before ((n.at r.node).synced ++ r.logged ∷ []) =
    subst (λ (x : List Logged). Makes ctx w.before (x ++ r.logged ∷ [])) (all ∙ sym (i.are.disks r.node)) w.makes in
    let a = append_one ctx s n r.node w.before r.logged event (i.idle r.node) w.opens makes (ap (λ (wire : List Packet). asked wire event) i.are.wire ∙ w.comes.asks) in
    let more = appends_by r.node event in
    record { more = more; is = entered ctx s f moves more k r i is (subst (λ (m : Network). Appended n m r.node r.logged) (sym (after_append ctx s beginning moves more)) a) }

taking_by : (ctx : Context) (s : WorldSettings) (f : Fenced) (moves : List Move) (k : ℕ) (r : Request) (t : Bool) → IsFenced ctx s f moves → numbered f.requests k ≡ Some r → nat_eq r.expected (length (f.streams r.node)) ≡ t
    → Leads ctx s (cond t (with_entry f r.node (record { request = k; logged = r.logged })) f) moves
taking_by ctx s f moves k r false i is test = still ctx s f moves i
taking_by ctx s f moves k r true i is test = taking_one ctx s f moves k r i is (number_is r.expected (length (f.streams r.node)) test)

taking_on : (ctx : Context) (s : WorldSettings) (f : Fenced) (moves : List Move) (k : ℕ) (o : Option Request) → IsFenced ctx s f moves → numbered f.requests k ≡ o → Leads ctx s (taking f k o) moves
taking_on ctx s f moves k None i is = still ctx s f moves i
taking_on ctx s f moves k (Some r) i is = taking_by ctx s f moves k r (nat_eq r.expected (length (f.streams r.node))) i is refl

-- a word

fit_heard : (ctx : Context) (s : WorldSettings) (wire more : List Packet) (requests : List Request) (log : List Logged) (node : Node) (c : Candidate) → IsFit ctx s wire requests log node c → IsFit ctx s (wire ++ more) requests log node c
fit_heard ctx s wire more requests log node c w =
    record { within = w.within; memory = w.memory; makes = w.makes; nobody = w.nobody; comes = comes_still wire more node c.pending w.comes; waits = w.waits }

fair_heard : (ctx : Context) (s : WorldSettings) (wire more : List Packet) (log : List Logged) (r : Request) → IsFair ctx s wire log r → IsFair ctx s (wire ++ more) log r
fair_heard ctx s wire more log r w =
    let a : Asked = record { node = r.node; call = r.logged.call } in
    record { within = w.within; before = w.before; opens = w.opens; makes = w.makes; comes = record { event = w.comes.event; asks = asks_still wire more w.comes.event a w.comes.asks } }

said_more : (ctx : Context) (s : WorldSettings) (n : Network) (node : Node) (k : ℕ) (p : Packet) → numbered (posted_by node (n.at node).synced) k ≡ Some p → after ctx s n (Saying node k ∷ []) ≡ record { at = n.at; wire = n.wire ++ p ∷ [] }
unfolding moved
said_more ctx s n node k p e = ap (saying n) e

telling_on : (ctx : Context) (s : WorldSettings) (f : Fenced) (moves : List Move) (node : Node) (number k : ℕ) (o : Option Packet) → IsFenced ctx s f moves → numbered (posted_by node (known_log f node number)) k ≡ o → Leads ctx s (telling f o) moves
telling_on ctx s f moves node number k None i is = still ctx s f moves i
telling_on ctx s f moves node number k (Some p) i is =
    let n = network ctx s moves in
    let log = log_of (f.streams node) in
    let known = (f.candidates node number).known in
    let parts : posted_by node (take known log) ++ posted_by node (drop known log) ≡ posted_by node (n.at node).synced =
    sym (posted_append node (take known log) (drop known log)) ∙ ap (posted_by node) (take-append-drop known log ∙ sym (i.are.disks node)) in
    let there : numbered (posted_by node (n.at node).synced) k ≡ Some p =
    ap (λ (ps : List Packet). numbered ps k) (sym parts) ∙ numbered_append (posted_by node (take known log)) (posted_by node (drop known log)) k p is in
    let ends : network ctx s (moves ++ Saying node k ∷ []) ≡ record { at = n.at; wire = n.wire ++ p ∷ [] } = after_append ctx s beginning moves (Saying node k ∷ []) ∙ said_more ctx s n node k p there in
    record {
      more = Saying node k ∷ [];
      is = record {
        are = record {
          disks = λ x. ap (λ (m : Network). (m.at x).synced) ends ∙ i.are.disks x;
          wire = ap (λ (m : Network). m.wire) ends ∙ ap (λ (wire : List Packet). wire ++ p ∷ []) i.are.wire;
        };
        idle = λ x. ap (λ (m : Network). (m.at x).unsynced) ends ∙ i.idle x;
        fit = λ x j. fit_heard ctx s f.wire (p ∷ []) f.requests (log_of (f.streams x)) x (f.candidates x j) (i.fit x j);
        fair = λ j r e. fair_heard ctx s f.wire (p ∷ []) (log_of (f.streams r.node)) r (i.fair j r e);
        each = i.each;
      };
    }

-- any deed, and all

deed_on : (ctx : Context) (s : WorldSettings) (f : Fenced) (moves : List Move) (deed : Deed) → IsFenced ctx s f moves → Leads ctx s (done ctx s f deed) moves
unfolding done
deed_on ctx s f moves (Joining node number) i = still ctx s _ moves (joining_on ctx s f moves node number i)
deed_on ctx s f moves (Asking number event) i = still ctx s _ moves (asking_on ctx s f moves number event (asked f.wire event) i refl)
deed_on ctx s f moves (Requesting node number) i = still ctx s _ moves (requesting_on ctx s f moves node number (f.candidates node number).pending i refl)
deed_on ctx s f moves (Taking k) i = taking_on ctx s f moves k (numbered f.requests k) i refl
deed_on ctx s f moves (Learning node number) i = still ctx s _ moves (learning_on ctx s f moves node number (numbered (f.streams node) ((f.candidates node number).known + 1)) i refl)
deed_on ctx s f moves (Telling node number k) i = telling_on ctx s f moves node number k (numbered (posted_by node (known_log f node number)) k) i refl
deed_on ctx s f moves (Ending node number) i = still ctx s _ moves (ending_on ctx s f moves node number i)

deeds_on : (ctx : Context) (s : WorldSettings) (f : Fenced) (moves : List Move) (deeds : List Deed) → IsFenced ctx s f moves → Leads ctx s (all_done ctx s f deeds) moves
deeds_on ctx s f moves [] i = still ctx s f moves i
deeds_on ctx s f moves (deed ∷ deeds) i =
    let one = deed_on ctx s f moves deed i in
    let rest = deeds_on ctx s (done ctx s f deed) (moves ++ one.more) deeds one.is in
    record { more = one.more ++ rest.more; is = subst (IsFenced ctx s (all_done ctx s (done ctx s f deed) deeds)) (append_assoc moves one.more rest.more) rest.is }

begins_fenced : (ctx : Context) (s : WorldSettings) → IsFenced ctx s at_first []
begins_fenced ctx s =
    record {
      are = record { disks = λ x. refl; wire = refl };
      idle = λ x. refl;
      fit = λ x k. record { within = omega arith; memory = λ m e. absurd (none_some m e); makes = λ before opens. tt; nobody = λ e. refl; comes = tt; waits = λ j e. absurd (none_some j e) };
      fair = λ k r e. absurd (nothing_numbered k r e);
      each = λ x. tt;
    }

all_done_append : (ctx : Context) (s : WorldSettings) (f : Fenced) (deeds more : List Deed) → all_done ctx s f (deeds ++ more) ≡ all_done ctx s (all_done ctx s f deeds) more
all_done_append ctx s f [] more = refl
all_done_append ctx s f (deed ∷ deeds) more = all_done_append ctx s (done ctx s f deed) deeds more

pub fences : (ctx : Context) (s : WorldSettings) (deeds more : List Deed) → Fences ctx s (fenced ctx s deeds) (fenced ctx s (deeds ++ more))
fences ctx s deeds more =
    let first = deeds_on ctx s at_first [] deeds (begins_fenced ctx s) in
    let second = deeds_on ctx s (fenced ctx s deeds) first.more more first.is in
    record {
      moves = first.more;
      more = second.more;
      first = first.is.are;
      last = subst (λ (f : Fenced). AreDisks ctx s f (first.more ++ second.more)) (sym (all_done_append ctx s at_first deeds more)) second.is.are;
    }

pub candidate_replays : (ctx : Context) (s : WorldSettings) (deeds : List Deed) (node : Node) (number : ℕ) → IsReplayOfKnown ctx s (fenced ctx s deeds) node number
candidate_replays ctx s deeds node number = ((deeds_on ctx s at_first [] deeds (begins_fenced ctx s)).is.fit node number).memory
