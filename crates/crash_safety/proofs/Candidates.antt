-- Candidates over streams: what one of them does by itself keeps them fenced.
use Rattle.std.proofs.Common.{◌≡◌, ℕ, zero, suc, ◌+◌, ◌≤◌, Bool, true, false, cond, List, [], ◌∷◌, ◌++◌, take, length, Option, Some, None, refl, sym, ap, ◌∙◌, subst, ◌⊎◌, inl, inr, append_assoc, arith}
use Rattle.std.specs.Prelude.{nat_eq, option_map}
use Rattle.std.specs.List.{AllByRecursion}
use Rattle.std.proofs.lemmas.List.{append-nil}
use Rattle.claim_model.specs.Context.{Context}
use Rattle.claim_model.specs.Numbered.{numbered}
use Rattle.claim_model.specs.Node.{Node, Call, Outcome, Done, Refused}
use Rattle.claim_model.specs.World.{Packet, Event}
use Rattle.claim_model.specs.Settings.{WorldSettings, opening}
use Rattle.claim_model.specs.Nodes.{AnyNode, node_step, node_at, Asked, asked}
use Rattle.claim_model.specs.Logs.{Logged, node_after, replay, Makes}
use Rattle.claim_model.proofs.Lists.{numbered_append, numbered_last, numbered_more, numbered_map, numbered_within, all_at, all_append, all_weaker}
use Rattle.claim_model.proofs.Options.{same_some}
use Rattle.claim_model.proofs.Names.{told_apart}
use Rattle.crash_safety.specs.Network.{Move, file, replayed, beginning, network}
use Rattle.crash_safety.specs.Fenced.{Request, Entry, Candidate, Fenced, log_of, put_candidate, joined, pending_after, makes_call, asking, with_request, requesting, with_entry, waits_for_it, knows_one_more, learning, ended, AreDisks}
use Rattle.crash_safety.proofs.Replaying.{replay_more, makes_more, makes_left}
use Rattle.crash_safety.proofs.Sound.{Comes, CanCome, begins_soundly}
use Rattle.crash_safety.proofs.Moving.{goes_on, some_is, none_some}

-- what a candidate waits for is a request for the first of its pending calls
pub record Waits (requests : List Request) (node : Node) (c : Candidate) (k : ℕ) : Type 0 where
  pub first : Logged
  pub more : List Logged
  pub is : c.pending ≡ first ∷ more
  pub request : numbered requests k ≡ Some (record { node = node; expected = c.known; logged = first })

pub record IsFit (ctx : Context) (s : WorldSettings) (wire : List Packet) (requests : List Request) (log : List Logged) (node : Node) (c : Candidate) : Type 0 where
  pub within : c.known ≤ length log
  pub memory : (m : AnyNode) → c.memory ≡ Some m → replayed ctx s node (take c.known log ++ c.pending) ≡ Some m
  pub makes : (before : AnyNode) → node_at (opening s) node ≡ Some before → Makes ctx before (take c.known log ++ c.pending)
  pub nobody : node_at (opening s) node ≡ None → c.pending ≡ []
  pub comes : CanCome wire node c.pending
  pub waits : (k : ℕ) → c.waits_for ≡ Some k → Waits requests node c k

-- what a request asks for fits after the entries that it expects
pub record IsFair (ctx : Context) (s : WorldSettings) (wire : List Packet) (log : List Logged) (r : Request) : Type 0 where
  pub within : r.expected ≤ length log
  pub before : AnyNode
  pub opens : node_at (opening s) r.node ≡ Some before
  pub makes : Makes ctx before (take r.expected log ++ r.logged ∷ [])
  pub comes : Comes wire r.node r.logged.call

-- an entry has the call of its request
pub record HasRequest (requests : List Request) (e : Entry) : Type 0 where
  pub request : Request
  pub is : numbered requests e.request ≡ Some request
  pub same : request.logged ≡ e.logged

pub record IsFenced (ctx : Context) (s : WorldSettings) (f : Fenced) (moves : List Move) : Type 0 where
  pub are : AreDisks ctx s f moves
  pub idle : (node : Node) → ((network ctx s moves).at node).unsynced ≡ []
  pub fit : (node : Node) (number : ℕ) → IsFit ctx s f.wire f.requests (log_of (f.streams node)) node (f.candidates node number)
  pub fair : (k : ℕ) (r : Request) → numbered f.requests k ≡ Some r → IsFair ctx s f.wire (log_of (f.streams r.node)) r
  pub each : (node : Node) → AllByRecursion (HasRequest f.requests) (f.streams node)

-- the moves by which the network goes on
pub record Leads (ctx : Context) (s : WorldSettings) (f : Fenced) (moves : List Move) : Type 0 where
  pub more : List Move
  pub is : IsFenced ctx s f (moves ++ more)

pub still : (ctx : Context) (s : WorldSettings) (f : Fenced) (moves : List Move) → IsFenced ctx s f moves → Leads ctx s f moves
still ctx s f moves i = record { more = []; is = subst (IsFenced ctx s f) (sym (append-nil moves)) i }

-- tests of numbers
pub number_is : (a b : ℕ) → nat_eq a b ≡ true → a ≡ b
number_is a b e = grind (arith, e)

by_test : (t : Bool) → (t ≡ true) ⊎ (t ≡ false)
by_test true = inl refl
by_test false = inr refl

-- the candidate that was put, and the others
each_candidate : (Q : Node → ℕ → Candidate → Type 0) (f : Fenced) (node : Node) (number : ℕ) (c : Candidate) → Q node number c → ((x : Node) (k : ℕ) → Q x k (f.candidates x k)) → (x : Node) (k : ℕ) → Q x k ((put_candidate f node number c).candidates x k)
each_candidate Q f node number c own others x k =
    elim (told_apart node x) [
      | inl t ↦
          subst (λ b. Q x k (cond b (cond (nat_eq number k) c (f.candidates x k)) (f.candidates x k))) (sym t.0)
          (elim (by_test (nat_eq number k)) [
            | inl same ↦ subst (λ b. Q x k (cond b c (f.candidates x k))) (sym same) (subst (λ (m : ℕ). Q x m c) (number_is number k same) (subst (λ (y : Node). Q y number c) t.1 own))
            | inr other ↦ subst (λ b. Q x k (cond b c (f.candidates x k))) (sym other) (others x k)
          ])
      | inr t ↦ subst (λ b. Q x k (cond b (cond (nat_eq number k) c (f.candidates x k)) (f.candidates x k))) (sym t.0) (others x k)
    ]

-- the stream that got an entry, and the others
pub each_stream : (Q : Node → List Entry → Type 0) (f : Fenced) (node : Node) (e : Entry) → Q node (f.streams node ++ e ∷ []) → ((x : Node) → (node ≡ x → ⊥) → Q x (f.streams x)) → (x : Node) → Q x ((with_entry f node e).streams x)
each_stream Q f node e own others x =
    elim (told_apart node x) [
      | inl t ↦ subst (λ b. Q x (cond b (f.streams node ++ e ∷ []) (f.streams x))) (sym t.0) (subst (λ (y : Node). Q y (f.streams node ++ e ∷ [])) t.1 own)
      | inr t ↦ subst (λ b. Q x (cond b (f.streams node ++ e ∷ []) (f.streams x))) (sym t.0) (others x t.1)
    ]

-- another candidate
with_candidate : (ctx : Context) (s : WorldSettings) (f : Fenced) (moves : List Move) (node : Node) (number : ℕ) (c : Candidate) → IsFenced ctx s f moves → IsFit ctx s f.wire f.requests (log_of (f.streams node)) node c → IsFenced ctx s (put_candidate f node number c) moves
with_candidate ctx s f moves node number c i fit =
    record {
      are = record { disks = i.are.disks; wire = i.are.wire };
      idle = i.idle;
      fit = each_candidate (λ (x : Node) (k : ℕ) (d : Candidate). IsFit ctx s f.wire f.requests (log_of (f.streams x)) x d) f node number c fit i.fit;
      fair = i.fair;
      each = i.each;
    }

-- the log of a stream is made

pub take_whole : {A : Type 0} (xs : List A) → take (length xs) xs ≡ xs
take_whole [] = refl
take_whole {A = A} (x ∷ xs) = ap (λ (ys : List A). x ∷ ys) (take_whole xs)

pub length_log : (entries : List Entry) → length (log_of entries) ≡ length entries
length_log [] = refl
length_log (e ∷ entries) = ap suc (length_log entries)

makes_stream : (ctx : Context) (s : WorldSettings) (f : Fenced) (moves : List Move) (node : Node) (before : AnyNode) → IsFenced ctx s f moves → node_at (opening s) node ≡ Some before → Makes ctx before (log_of (f.streams node))
makes_stream ctx s f moves node before i opens =
    let n = network ctx s moves in
    let sound = (goes_on ctx s beginning [] moves (begins_soundly ctx s)).sound in
    let lies : file (n.at node) ≡ log_of (f.streams node) = ap (λ (log : List Logged). (n.at node).synced ++ log) (i.idle node) ∙ (append-nil (n.at node).synced ∙ i.are.disks node) in
    subst (Makes ctx before) lies ((sound.each node).makes before opens)

pub joining_on : (ctx : Context) (s : WorldSettings) (f : Fenced) (moves : List Move) (node : Node) (number : ℕ) → IsFenced ctx s f moves → IsFenced ctx s (put_candidate f node number (joined ctx s node (f.streams node))) moves
joining_on ctx s f moves node number i =
    let log = log_of (f.streams node) in
    let all : take (length (f.streams node)) log ++ [] ≡ log = append-nil (take (length (f.streams node)) log) ∙ (ap (λ (k : ℕ). take k log) (sym (length_log (f.streams node))) ∙ take_whole log) in
    with_candidate ctx s f moves node number (joined ctx s node (f.streams node)) i
    (record {
      within = omega (arith, length_log (f.streams node));
      memory = λ m e. ap (λ (x : List Logged). replayed ctx s node x) all ∙ e;
      makes = λ before opens. subst (Makes ctx before) (sym all) (makes_stream ctx s f moves node before i opens);
      nobody = λ e. refl;
      comes = tt;
      waits = λ k e. absurd (none_some k e);
    })

pub ending_on : (ctx : Context) (s : WorldSettings) (f : Fenced) (moves : List Move) (node : Node) (number : ℕ) → IsFenced ctx s f moves → IsFenced ctx s (put_candidate f node number ended) moves
ending_on ctx s f moves node number i =
    with_candidate ctx s f moves node number ended i
    (record {
      within = omega arith;
      memory = λ m e. absurd (none_some m e);
      makes = λ before opens. tt;
      nobody = λ e. refl;
      comes = tt;
      waits = λ k e. absurd (none_some k e);
    })

-- a call in memory

still_waits : (requests : List Request) (node : Node) (c : Candidate) (k : ℕ) (next : AnyNode) (l : Logged) → Waits requests node c k → Waits requests node (record { memory = Some next; known = c.known; pending = c.pending ++ l ∷ []; waits_for = c.waits_for }) k
still_waits requests node c k next l w =
    record { first = w.first; more = w.more ++ l ∷ []; is = ap (λ (log : List Logged). log ++ l ∷ []) w.is; request = w.request }

made_fit : (ctx : Context) (s : WorldSettings) (wire : List Packet) (requests : List Request) (log : List Logged) (node : Node) (c : Candidate) (m next : AnyNode) (l : Logged) → IsFit ctx s wire requests log node c → Comes wire node l.call → c.memory ≡ Some m
    → node_step ctx m l.call ≡ Done next l.sent → IsFit ctx s wire requests log node (record { memory = Some next; known = c.known; pending = c.pending ++ l ∷ []; waits_for = c.waits_for })
made_fit ctx s wire requests log node c m next l w comes is steps =
    let base = take c.known log in
    let was = some_is ctx s node (base ++ c.pending) m (w.memory m is) in
    let longer : (base ++ c.pending) ++ l ∷ [] ≡ base ++ (c.pending ++ l ∷ []) = append_assoc base c.pending (l ∷ []) in
    let now : node_step ctx (replay ctx was.0 (base ++ c.pending)) l.call ≡ Done next l.sent = ap (λ (x : AnyNode). node_step ctx x l.call) was.2 ∙ steps in
    let leads : replay ctx was.0 ((base ++ c.pending) ++ l ∷ []) ≡ next =
    replay_more ctx was.0 (base ++ c.pending) l ∙ ap (node_after (replay ctx was.0 (base ++ c.pending))) now in
    record {
      within = w.within;
      memory = λ x e.
          ap (λ (y : List Logged). replayed ctx s node y) (sym longer)
          ∙ (ap (option_map (λ (b : AnyNode). replay ctx b ((base ++ c.pending) ++ l ∷ []))) was.1 ∙ ap (λ (y : AnyNode). Some y) (leads ∙ same_some next x e));
      makes = λ before opens.
          subst (Makes ctx before) longer
          (makes_more ctx before next (base ++ c.pending) l (w.makes before opens)
          (subst (λ (b : AnyNode). node_step ctx (replay ctx b (base ++ c.pending)) l.call ≡ Done next l.sent) (same_some was.0 before (sym was.1 ∙ opens)) now));
      nobody = λ e. absurd (none_some was.0 (sym e ∙ was.1));
      comes = all_append (λ (x : Logged). Comes wire node x.call) c.pending (l ∷ []) w.comes (comes, tt);
      waits = λ k e. still_waits requests node c k next l (w.waits k e);
    }

after_call_fit : (ctx : Context) (s : WorldSettings) (wire : List Packet) (requests : List Request) (log : List Logged) (node : Node) (c : Candidate) (m : AnyNode) (call : Call) (o : Outcome AnyNode) → IsFit ctx s wire requests log node c → Comes wire node call
    → c.memory ≡ Some m → node_step ctx m call ≡ o → IsFit ctx s wire requests log node (pending_after c call o)
after_call_fit ctx s wire requests log node c m call (Refused why) w comes is e = w
after_call_fit ctx s wire requests log node c m call (Done next sent) w comes is e = made_fit ctx s wire requests log node c m next (record { call = call; sent = sent }) w comes is e

call_fit : (ctx : Context) (s : WorldSettings) (wire : List Packet) (requests : List Request) (log : List Logged) (node : Node) (c : Candidate) (call : Call) (o : Option AnyNode) → IsFit ctx s wire requests log node c → Comes wire node call → c.memory ≡ o
    → IsFit ctx s wire requests log node (makes_call ctx c call o)
call_fit ctx s wire requests log node c call None w comes is = w
call_fit ctx s wire requests log node c call (Some m) w comes is = after_call_fit ctx s wire requests log node c m call (node_step ctx m call) w comes is refl

pub asking_on : (ctx : Context) (s : WorldSettings) (f : Fenced) (moves : List Move) (number : ℕ) (event : Event) (o : Option Asked) → IsFenced ctx s f moves → asked f.wire event ≡ o → IsFenced ctx s (asking ctx f number o) moves
asking_on ctx s f moves number event None i e = i
asking_on ctx s f moves number event (Some a) i e =
    let c = f.candidates a.node number in
    with_candidate ctx s f moves a.node number (makes_call ctx c a.call c.memory) i
    (call_fit ctx s f.wire f.requests (log_of (f.streams a.node)) a.node c a.call c.memory (i.fit a.node number) (record { event = event; asks = e }) refl)

-- a request

waits_with : (requests more : List Request) (node : Node) (c : Candidate) (k : ℕ) → Waits requests node c k → Waits (requests ++ more) node c k
waits_with requests more node c k w = record { first = w.first; more = w.more; is = w.is; request = numbered_append requests more k _ w.request }

fit_with : (ctx : Context) (s : WorldSettings) (wire : List Packet) (requests more : List Request) (log : List Logged) (node : Node) (c : Candidate) → IsFit ctx s wire requests log node c → IsFit ctx s wire (requests ++ more) log node c
fit_with ctx s wire requests more log node c w =
    record { within = w.within; memory = w.memory; makes = w.makes; nobody = w.nobody; comes = w.comes; waits = λ k e. waits_with requests more node c k (w.waits k e) }

has_with : (requests more : List Request) (e : Entry) → HasRequest requests e → HasRequest (requests ++ more) e
has_with requests more e h = record { request = h.request; is = numbered_append requests more e.request h.request h.is; same = h.same }

fair_one : (ctx : Context) (s : WorldSettings) (wire : List Packet) (requests : List Request) (log : List Logged) (node : Node) (c : Candidate) (l : Logged) (more : List Logged) (o : Option AnyNode) → IsFit ctx s wire requests log node c → c.pending ≡ l ∷ more
    → node_at (opening s) node ≡ o → IsFair ctx s wire log (record { node = node; expected = c.known; logged = l })
fair_one ctx s wire requests log node c l more None w is e = let wrong : l ∷ more ≡ [] = sym is ∙ w.nobody e in absurd cc
fair_one ctx s wire requests log node c l more (Some before) w is e =
    let parts : (take c.known log ++ l ∷ []) ++ more ≡ take c.known log ++ c.pending = append_assoc (take c.known log) (l ∷ []) more ∙ ap (λ (x : List Logged). take c.known log ++ x) (sym is) in
    record {
      within = w.within;
      before = before;
      opens = e;
      makes = makes_left ctx before (take c.known log ++ l ∷ []) more (subst (Makes ctx before) (sym parts) (w.makes before e));
      comes = (subst (CanCome wire node) is w.comes).0;
    }

pub requesting_on : (ctx : Context) (s : WorldSettings) (f : Fenced) (moves : List Move) (node : Node) (number : ℕ) (pending : List Logged) → IsFenced ctx s f moves → (f.candidates node number).pending ≡ pending
    → IsFenced ctx s (requesting f node number (f.candidates node number) pending) moves
requesting_on ctx s f moves node number [] i is = i
requesting_on ctx s f moves node number (l ∷ more) i is =
    let c = f.candidates node number in
    let w = i.fit node number in
    let r : Request = record { node = node; expected = c.known; logged = l } in
    let fair = fair_one ctx s f.wire f.requests (log_of (f.streams node)) node c l more (node_at (opening s) node) w is refl in
    let g = with_request f r in
    let j : IsFenced ctx s g moves = record {
      are = record { disks = i.are.disks; wire = i.are.wire };
      idle = i.idle;
      fit = λ x k. fit_with ctx s f.wire f.requests (r ∷ []) (log_of (f.streams x)) x (f.candidates x k) (i.fit x k);
      fair = λ k q e. elim (numbered_more f.requests r k q e) [
        | inl old ↦ i.fair k q old
        | inr last ↦ subst (λ (x : Request). IsFair ctx s f.wire (log_of (f.streams x.node)) x) (sym last.1) fair
      ];
      each = λ x. all_weaker (HasRequest f.requests) (HasRequest (f.requests ++ r ∷ [])) (has_with f.requests (r ∷ [])) (f.streams x) (i.each x);
    } in
    let v = j.fit node number in
    with_candidate ctx s g moves node number (record { memory = c.memory; known = c.known; pending = c.pending; waits_for = Some (length f.requests + 1) }) j
    (record {
      within = v.within;
      memory = v.memory;
      makes = v.makes;
      nobody = v.nobody;
      comes = v.comes;
      waits = λ k e. record { first = l; more = more; is = is; request = subst (λ (x : ℕ). numbered (f.requests ++ r ∷ []) x ≡ Some r) (same_some (length f.requests + 1) k e) (numbered_last f.requests r) };
    })

-- an entry is learned of

next_taken : {A : Type 0} (xs : List A) (k : ℕ) (x : A) → numbered xs (suc k) ≡ Some x → take (suc k) xs ≡ take k xs ++ x ∷ []
next_taken [] k x e = absurd cc
next_taken {A = A} (y ∷ xs) zero x e = let same : y ≡ x = cc in ap (λ (z : A). z ∷ []) same
next_taken {A = A} (y ∷ xs) (suc k) x e = ap (λ (zs : List A). y ∷ zs) (next_taken xs k x e)

number_within : {A : Type 0} (xs : List A) (k : ℕ) (x : A) → numbered xs (suc k) ≡ Some x → suc k ≤ length xs
number_within xs k x e = (numbered_within xs (suc k) x e).1

knows_fit : (ctx : Context) (s : WorldSettings) (wire : List Packet) (requests : List Request) (log : List Logged) (node : Node) (c : Candidate) (l : Logged) (more pending : List Logged) → IsFit ctx s wire requests log node c → c.pending ≡ l ∷ more → pending ≡ l ∷ more
    → numbered log (suc c.known) ≡ Some l → IsFit ctx s wire requests log node (knows_one_more c pending)
knows_fit ctx s wire requests log node c l more [] w is same at = absurd (let wrong : [] ≡ l ∷ more = same in cc)
knows_fit ctx s wire requests log node c l more (k ∷ rest) w is same at =
    let tail : rest ≡ more = cc in
    let further : c.known + 1 ≡ suc c.known = omega arith in
    let parts : take (c.known + 1) log ++ rest ≡ take c.known log ++ c.pending =
    ap (λ (x : ℕ). take x log ++ rest) further
    ∙ (ap (λ (x : List Logged). x ++ rest) (next_taken log c.known l at)
    ∙ (append_assoc (take c.known log) (l ∷ []) rest
    ∙ (ap (λ (x : List Logged). take c.known log ++ l ∷ x) tail ∙ ap (λ (x : List Logged). take c.known log ++ x) (sym is)))) in
    record {
      within = let b = number_within log c.known l at in omega (arith, b);
      memory = λ m e. ap (λ (x : List Logged). replayed ctx s node x) parts ∙ w.memory m e;
      makes = λ before opens. subst (Makes ctx before) (sym parts) (w.makes before opens);
      nobody = λ e. let wrong : l ∷ more ≡ [] = sym is ∙ w.nobody e in absurd cc;
      comes = subst (CanCome wire node) (sym tail) (subst (CanCome wire node) is w.comes).1;
      waits = λ k e. absurd (none_some k e);
    }

learned : (ctx : Context) (s : WorldSettings) (f : Fenced) (moves : List Move) (node : Node) (number : ℕ) (e : Entry) (o : Option ℕ) → IsFenced ctx s f moves → numbered (f.streams node) ((f.candidates node number).known + 1) ≡ Some e
    → (f.candidates node number).waits_for ≡ o → waits_for_it (f.candidates node number) e o ≡ true → IsFit ctx s f.wire f.requests (log_of (f.streams node)) node (knows_one_more (f.candidates node number) (f.candidates node number).pending)
learned ctx s f moves node number e None i at is waits = absurd cc
learned ctx s f moves node number e (Some k) i at is waits =
    let c = f.candidates node number in
    let w = (i.fit node number).waits k is in
    let same : k ≡ e.request = number_is k e.request waits in
    let has = all_at (HasRequest f.requests) (f.streams node) (c.known + 1) e (i.each node) at in
    let r : Request = record { node = node; expected = c.known; logged = w.first } in
    let one : has.request ≡ r = same_some has.request r (sym has.is ∙ (ap (numbered f.requests) (sym same) ∙ w.request)) in
    let first : e.logged ≡ w.first = sym has.same ∙ ap (λ (x : Request). x.logged) one in
    let further : suc c.known ≡ c.known + 1 = omega arith in
    let there : numbered (log_of (f.streams node)) (suc c.known) ≡ Some w.first =
    ap (numbered (log_of (f.streams node))) further ∙ (numbered_map (λ (x : Entry). x.logged) (f.streams node) (c.known + 1) ∙ (ap (option_map (λ (x : Entry). x.logged)) at ∙ ap (λ (x : Logged). Some x) first)) in
    knows_fit ctx s f.wire f.requests (log_of (f.streams node)) node c w.first w.more c.pending (i.fit node number) w.is w.is there

learning_by : (ctx : Context) (s : WorldSettings) (f : Fenced) (moves : List Move) (node : Node) (number : ℕ) (e : Entry) (t : Bool) → IsFenced ctx s f moves → numbered (f.streams node) ((f.candidates node number).known + 1) ≡ Some e
    → waits_for_it (f.candidates node number) e (f.candidates node number).waits_for ≡ t
    → IsFenced ctx s (cond t (put_candidate f node number (knows_one_more (f.candidates node number) (f.candidates node number).pending)) f) moves
learning_by ctx s f moves node number e false i at waits = i
learning_by ctx s f moves node number e true i at waits =
    let c = f.candidates node number in
    with_candidate ctx s f moves node number (knows_one_more c c.pending) i (learned ctx s f moves node number e c.waits_for i at refl waits)

pub learning_on : (ctx : Context) (s : WorldSettings) (f : Fenced) (moves : List Move) (node : Node) (number : ℕ) (o : Option Entry) → IsFenced ctx s f moves → numbered (f.streams node) ((f.candidates node number).known + 1) ≡ o
    → IsFenced ctx s (learning f node number (f.candidates node number) o) moves
learning_on ctx s f moves node number None i at = i
learning_on ctx s f moves node number (Some e) i at = learning_by ctx s f moves node number e (waits_for_it (f.candidates node number) e (f.candidates node number).waits_for) i at refl
