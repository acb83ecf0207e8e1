-- Nodes that stand by their logs are those of the world that the logs' interleavings lead to.
use Rattle.std.proofs.Common.{◌≡◌, ℕ, zero, suc, ◌+◌, ◌<◌, ◌≤◌, Bool, true, false, List, [], ◌∷◌, ◌++◌, length, get_or, Option, Some, None, refl, sym, ap, ◌∙◌, subst, inl, inr, ◌⊎◌, arith}
use Rattle.std.specs.Prelude.{map, option_map, Result, Ok, Err, IfOk, IfSome, IsTrue}
use Rattle.std.specs.Global.{Vec}
use Rattle.std.specs.BTreeMap.{is_at}
use Rattle.std.specs.Ordering.{is_eq, nat_cmp}
use Rattle.std.proofs.lemmas.Bool.Decides.{nat_tests}
use Rattle.std.proofs.lemmas.List.{length_push}
use Rattle.claim_model.specs.Bytes.{bytes_with}
use Rattle.claim_model.specs.Context.{Context}
use Rattle.claim_model.specs.Journal.{Journal, JournalAtRest}
use Rattle.claim_model.specs.Logs.{Logged, NodeLog, Makes, log_in, node_after, replay}
use Rattle.claim_model.specs.Node.{Node, Outcome, Pharmacy, Switch, Payer, Power}
use Rattle.claim_model.specs.Nodes.{AnyNode, OfPharmacy, OfSwitch, OfPayer, node_at, node_step}
use Rattle.claim_model.specs.Numbered.{numbered}
use Rattle.claim_model.specs.Rows.{Book}
use Rattle.claim_model.specs.Settings.{opening}
use Rattle.claim_model.specs.Table.{Table}
use Rattle.claim_model.specs.World.{World, Packet, Event, run}
use Rattle.claim_model.proofs.Lists.{all_at}
use Rattle.claim_model.proofs.Replaying.{replays, absent_stays}
use Rattle.world_setup.specs.Seen.{event_seen, settings_seen}
use Rattle.world_setup.specs.declared.event.Event.{Event as Made}
use Rattle.world_setup.specs.declared.settings.WorldSettings.{WorldSettings}
use Rattle.world_core.specs.NodeLists.{NodeLists, world_of}
use Rattle.world_core.specs.declared.leading.KnownParts.{KnownParts}
use Rattle.node_log.specs.LogSeen.{log_seen, logs_seen}
use Rattle.run_merge.specs.Merged.{IsMerged, FitsThere, AllFit, packets_after}
use Rattle.node_log.specs.Fits.{Fits, FitsBy}
use Rattle.node_log.specs.Misfits.{IsMade}
use Rattle.node_log.specs.ExistingNodes.{is_there}
use Rattle.node_log.specs.declared.log.NodeLog.{NodeLog as Kept}
use Rattle.node_log.proofs.Opens.{pharmacies_length, switches_length, payers_length}
use Rattle.run_merge.proofs.Places.{found_at}
use Rattle.log_audit.specs.Judged.{left_by, IsLegal}
use Rattle.log_audit.specs.declared.judging.LegalRun.{LegalRun}
use Rattle.log_audit.specs.Standing.{IsLeftBy, StandsBy, EachStands, AreByNumber, Enters, AreNumbered, IsInOrder, AreStanding}
use Rattle.log_audit.specs.StandingSeen.{nodes_seen}
use Rattle.log_audit.specs.declared.judging.standing.ByNumber.{ByNumber}
use Rattle.world_setup.specs.Taken.{routes_in}

-- one log

makes_fits : (ctx : Context) (s : AnyNode) (calls : List Logged) → Makes ctx s calls → Fits ctx s calls
makes_fits ctx s [] m = tt
makes_fits ctx s (r ∷ more) m =
    subst (λ (o : Outcome AnyNode). FitsBy (λ x. Fits ctx x more) r.sent o) (sym m.0) (refl, makes_fits ctx (node_after s (node_step ctx s r.call)) more m.1)

-- a node that makes its log is what the log leaves
pub left_whole : (s : WorldSettings) (log : NodeLog) (after : AnyNode) → is_there (settings_seen s) log.node ≡ true → IsMade s log.node log.calls (Ok after) → IsLeftBy s log after
left_whole s log after there m =
    let ctx = bytes_with (routes_in s) in
    record {
      fits = record { there = there; fits = subst (λ (o : Option AnyNode). FitsThere ctx o log.calls) (sym m.opens) (makes_fits ctx m.before log.calls m.made.0) };
      left = ap (λ (o : Option AnyNode). option_map (λ n. replay ctx n log.calls) o) m.opens ∙ ap (λ (n : AnyNode). Some n) (sym m.made.1);
    }

-- nodes by their numbers

pub kind_enters : {A : Type 0} (s : WorldSettings) (logs : List NodeLog) (name : ℕ → Node) (kind : A → AnyNode) (found after : ℕ → Option A) (number : ℕ) (node : A) → Enters found number node after
    → StandsBy s logs (name number) (kind node) → EachStands s logs name kind found → EachStands s logs name kind after
kind_enters {A} s logs name kind found after number node enters stands each n a is = elim (enters n a is) [
  | inl was ↦ each n a was
  | inr new ↦ subst (λ (m : ℕ). StandsBy s logs (name m) (kind a)) new.0 (subst (λ (x : A). StandsBy s logs (name number) (kind x)) new.1 stands)
]

-- a number and one above it
other_number : (a b : ℕ) → a < b → is_eq (nat_cmp a b) ≡ false
other_number a b lt = grind (arith, nat_tests, lt)

pub stands_as : (s : WorldSettings) (logs : List NodeLog) (name other : Node) (node same : AnyNode) → name ≡ other → node ≡ same → StandsBy s logs name node → StandsBy s logs other same
stands_as s logs name other node same named is stands = subst (λ (n : Node). StandsBy s logs n same) named (subst (λ (x : AnyNode). StandsBy s logs name x) is stands)

-- what a test tells, and what follows from that
pub when_true : {E : Type 0} (P Q : Type 0) (r : Result Bool E) → (P → Q) → IfOk r (λ yes. IsTrue yes → P) → IfOk r (λ yes. IsTrue yes → Q)
when_true P Q (Ok b) follows told = λ is. follows (told is)
when_true P Q (Err fault) follows told = tt

-- nodes in order

numbered_pushed : {A : Type 0} (xs : List A) (y : A) (n : ℕ) (x : A) → numbered (xs ++ y ∷ []) n ≡ Some x → (numbered xs n ≡ Some x) ⊎ ((suc (length xs) ≡ n) × (y ≡ x))
numbered_pushed xs y zero x e = absurd cc
numbered_pushed [] y (suc zero) x e = inr (refl, cc)
numbered_pushed [] y (suc (suc k)) x e = absurd cc
numbered_pushed (z ∷ xs) y (suc zero) x e = inl e
numbered_pushed (z ∷ xs) y (suc (suc k)) x e = elim (numbered_pushed xs y (suc k) x e) [ inl f ↦ inl f | inr f ↦ inr (ap suc f.0, f.1) ]

-- this many are taken out under their numbers, and the others are still there
pub record IsTaken {A : Type 0} (found left : ℕ → Option A) (count : ℕ) (list : List A) : Type 0 where
  pub taken : AreNumbered found count list
  pub others : (q : ℕ) → count < q → left q ≡ found q

pub none_taken : {A : Type 0} (found : ℕ → Option A) (list : List A) → list ≡ [] → IsTaken found found 0 list
none_taken {A} found list none = record {
  taken = subst (λ (xs : List A). AreNumbered found 0 xs) (sym none) (record { count_is = refl; each = λ n a is. absurd (no_number n a is) });
  others = λ q lt. refl;
}
  where
    no_number : (n : ℕ) (a : A) → numbered {A = A} [] n ≡ Some a → ⊥
    no_number zero a is = cc
    no_number (suc n) a is = cc

pub one_taken : {A : Type 0} (found left after : ℕ → Option A) (count : ℕ) (list new : List A) (node : A) → IsTaken found left count list → Some node ≡ left (count + 1)
    → ((q : ℕ) → is_at (nat_cmp (count + 1)) q ≡ false → after q ≡ left q) → new ≡ list ++ node ∷ [] → IsTaken found after (count + 1) new
one_taken {A} found left after count list new node t is keeps pushed = record {
  taken = record {
    count_is = ap (λ (xs : List A). length xs) pushed ∙ (length_push list node ∙ ap (λ (k : ℕ). k + 1) t.taken.count_is);
    each = λ n a e. elim (numbered_pushed list node n a (subst (λ (xs : List A). numbered xs n ≡ Some a) pushed e)) [
      | inl was ↦ t.taken.each n a was
      | inr new ↦
          let here : count + 1 ≡ n = omega (arith, new.0, t.taken.count_is) in
          subst (λ (k : ℕ). found k ≡ Some a) here (sym (is ∙ t.others (count + 1) (omega arith)) ∙ ap (λ (x : A). Some x) new.1)
    ];
  };
  others = λ q lt. keeps q (other_number (count + 1) q lt) ∙ t.others q (omega (arith, lt));
}

pub taken_all : {A : Type 0} (found left : ℕ → Option A) (place count : ℕ) (list : List A) → place ≤ count → count ≤ place → IsTaken found left place list → AreNumbered found count list
taken_all {A} found left place count list le ge t =
    let same : place ≡ count = omega (arith, le, ge) in
    subst (λ (k : ℕ). AreNumbered found k list) same t.taken

-- all nodes

pub standing_by : {E : Type 0} (s : WorldSettings) (logs : List NodeLog) (found : ByNumber) (r : Result (Option KnownParts) E) → AllFit (bytes_with (routes_in s)) (settings_seen s) logs → AreByNumber s logs found
    → IfOk r (λ o. IfSome o (λ nodes. IsInOrder s found (nodes_seen nodes))) → IfOk r (λ o. IfSome o (λ nodes. AreStanding s logs (nodes_seen nodes)))
standing_by s logs found (Err fault) fit by order = tt
standing_by s logs found (Ok None) fit by order = tt
standing_by s logs found (Ok (Some nodes)) fit by order = record {
  fit = fit;
  pharmacies = λ n a is. by.pharmacies n a (order.pharmacies.each n a is);
  switches = λ n a is. by.switches n a (order.switches.each n a is);
  payers = λ n a is. by.payers n a (order.payers.each n a is);
  all_pharmacies = order.pharmacies.count_is;
  all_switches = order.switches.count_is;
  all_payers = order.payers.count_is;
}

pub stands_at : (s : WorldSettings) (logs : List Kept) (place : ℕ) (log : Kept) (node : AnyNode) → place < length logs → log ≡ get_or logs place log → IsLeftBy s (log_seen log) node → StandsBy s (logs_seen logs) (log_seen log).node node
stands_at s logs place log node lt is left = record { place = place; log = log_seen log; at = found_at log_seen logs place log lt is; names = refl; left = left.left }

-- the world of the run

-- a node that stands by its log is the world's
leads : (s : WorldSettings) (logs : List NodeLog) (es : List Event) (name : Node) (node : AnyNode) → IsMerged s logs es → StandsBy s logs name node → node_at (run (bytes_with (routes_in s)) (opening (settings_seen s)) es) name ≡ Some node
leads s logs es name node m h = subst (λ (x : Node). node_at (run ctx first es) x ≡ Some node) h.names (by (node_at first h.log.node) refl)
  where
    ctx : Context
    ctx = bytes_with (routes_in s)

    first : World
    first = opening (settings_seen s)

    same : log_in ctx first es h.log.node ≡ h.log.calls
    same = all_at (λ x. log_in ctx first es x.node ≡ x.calls) logs (suc h.place) h.log m.legal.same h.at

    by : (o : Option AnyNode) → node_at first h.log.node ≡ o → node_at (run ctx first es) h.log.node ≡ Some node
    by None e = let wrong : None ≡ Some node = subst (λ (o : Option AnyNode). option_map (λ n. replay ctx n h.log.calls) o ≡ Some node) e h.left in absurd cc
    by (Some before) e =
        let is : Some (replay ctx before h.log.calls) ≡ Some node = subst (λ (o : Option AnyNode). option_map (λ n. replay ctx n h.log.calls) o ≡ Some node) e h.left in
        (replays ctx first es h.log.node before e).leads ∙ (ap (λ (calls : List Logged). Some (replay ctx before calls)) same ∙ is)

each_place : {A : Type 0} (xs ys : List A) → ((n : ℕ) → numbered xs (suc n) ≡ numbered ys (suc n)) → xs ≡ ys
each_place [] [] h = refl
each_place [] (y ∷ ys) h = let e : None ≡ Some y = h 0 in absurd cc
each_place (x ∷ xs) [] h = let e : Some x ≡ None = h 0 in absurd cc
each_place (x ∷ xs) (y ∷ ys) h =
    let e : Some x ≡ Some y = h 0 in
    let f : x ≡ y = cc in
    let g = each_place xs ys (λ n. h (suc n)) in
    λ i. f i ∷ g i

none_alike : {A B : Type 0} (xs : List A) (ys : List B) (n : ℕ) → length xs ≡ length ys → numbered xs n ≡ None → numbered ys n ≡ None
none_alike xs ys zero size none = refl
none_alike xs [] (suc n) size none = refl
none_alike [] (y ∷ ys) (suc n) size none = absurd (omega (arith, size))
none_alike (x ∷ xs) (y ∷ ys) (suc zero) size none = absurd cc
none_alike (x ∷ xs) (y ∷ ys) (suc (suc n)) size none = none_alike xs ys (suc n) (omega (arith, size)) none

none_mapped : {A B : Type 0} (f : A → B) (o : Option A) → option_map f o ≡ None → o ≡ None
none_mapped f None e = refl
none_mapped f (Some a) e = absurd cc

-- the nodes of a kind in the world are those that stand
kind_is : {A : Type 0} (kind : A → AnyNode) (first last xs : List A) → ((o : Option A) (a : A) → option_map kind o ≡ Some (kind a) → o ≡ Some a) → length xs ≡ length first
    → ((n : ℕ) (a : A) → numbered xs n ≡ Some a → option_map kind (numbered last n) ≡ Some (kind a)) → ((n : ℕ) → option_map kind (numbered first n) ≡ None → option_map kind (numbered last n) ≡ None) → xs ≡ last
kind_is {A} kind first last xs one size there absent = each_place xs last (λ n. by n (numbered xs (suc n)) refl)
  where
    by : (n : ℕ) (o : Option A) → numbered xs (suc n) ≡ o → numbered xs (suc n) ≡ numbered last (suc n)
    by n None e = e ∙ sym (none_mapped kind (numbered last (suc n)) (absent (suc n) (ap (option_map kind) (none_alike xs first (suc n) size e))))
    by n (Some a) e = e ∙ sym (one (numbered last (suc n)) a (there (suc n) a e))

one_pharmacy : (o : Option (Power Journal JournalAtRest)) (q : Power Journal JournalAtRest) → option_map OfPharmacy o ≡ Some (OfPharmacy q) → o ≡ Some q
one_pharmacy None q e = absurd cc
one_pharmacy (Some p) q e = let same : OfPharmacy p ≡ OfPharmacy q = cc in let is : p ≡ q = cc in ap (λ (r : Power Journal JournalAtRest). Some r) is

one_switch : (o : Option (Power Table ℕ)) (q : Power Table ℕ) → option_map OfSwitch o ≡ Some (OfSwitch q) → o ≡ Some q
one_switch None q e = absurd cc
one_switch (Some p) q e = let same : OfSwitch p ≡ OfSwitch q = cc in let is : p ≡ q = cc in ap (λ (r : Power Table ℕ). Some r) is

one_payer : (o : Option (Power Book Book)) (q : Power Book Book) → option_map OfPayer o ≡ Some (OfPayer q) → o ≡ Some q
one_payer None q e = absurd cc
one_payer (Some p) q e = let same : OfPayer p ≡ OfPayer q = cc in let is : p ≡ q = cc in ap (λ (r : Power Book Book). Some r) is

-- nodes that stand by their logs, and the packets of the run, are the world after the run
pub standing_world : (s : WorldSettings) (logs : List NodeLog) (es : List Event) (nodes : NodeLists) (packets : List Packet) → IsMerged s logs es → AreStanding s logs nodes → packets ≡ packets_after s es
    → world_of nodes packets ≡ run (bytes_with (routes_in s)) (opening (settings_seen s)) es
standing_world s logs es nodes packets m st posts = λ i. record { pharmacies = pharmacies i; switches = switches i; payers = payers i; packets = posts i }
  where
    ctx : Context
    ctx = bytes_with (routes_in s)

    first : World
    first = opening (settings_seen s)

    last : World
    last = run ctx first es

    pharmacies : nodes.pharmacies ≡ last.pharmacies
    pharmacies =
        kind_is OfPharmacy first.pharmacies last.pharmacies nodes.pharmacies one_pharmacy (st.all_pharmacies ∙ pharmacies_length 1 s.pharmacies.items)
        (λ n a is. leads s logs es (Pharmacy n) (OfPharmacy a) m (st.pharmacies n a is)) (λ n none. (absent_stays ctx first es (Pharmacy n) none).1)

    switches : nodes.switches ≡ last.switches
    switches =
        kind_is OfSwitch first.switches last.switches nodes.switches one_switch (st.all_switches ∙ switches_length s.switches.items)
        (λ n a is. leads s logs es (Switch n) (OfSwitch a) m (st.switches n a is)) (λ n none. (absent_stays ctx first es (Switch n) none).1)

    payers : nodes.payers ≡ last.payers
    payers =
        kind_is OfPayer first.payers last.payers nodes.payers one_payer (st.all_payers ∙ payers_length 1 s.payers.items)
        (λ n a is. leads s logs es (Payer n) (OfPayer a) m (st.payers n a is)) (λ n none. (absent_stays ctx first es (Payer n) none).1)

pub legal_is : (s : WorldSettings) (logs : List NodeLog) (r : LegalRun) (events : Vec Made) → IsMerged s logs (map event_seen events.items) → r ≡ record { events = events; world = Some (left_by s (map event_seen events.items)) }
    → IsLegal s logs r
legal_is s logs r events merged is = subst (λ (x : LegalRun). IsLegal s logs x) (sym is) (record { merged = merged; left = refl })
