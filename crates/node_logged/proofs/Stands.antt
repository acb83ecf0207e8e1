-- Nodes that stand by their logs are those of the world that the logs' interleavings lead to.
use Rattle.std.proofs.Common.{◌≡◌, ℕ, zero, suc, true, List, [], ◌∷◌, ◌++◌, length, Option, Some, None, slice_get, refl, sym, ap, ◌∙◌, subst, inl, inr, ◌⊎◌, arith}
use Rattle.std.specs.Prelude.{option_map, is_some}
use Rattle.bin_routes.specs.Row.{Row}
use Rattle.claim_model.specs.Bytes.{bytes_with}
use Rattle.claim_model.specs.Journal.{Journal, JournalAtRest}
use Rattle.claim_model.specs.Table.{Table}
use Rattle.claim_model.specs.Rows.{Book}
use Rattle.claim_model.specs.Node.{Node, Pharmacy, Switch, Payer, Power}
use Rattle.claim_model.specs.Settings.{opening}
use Rattle.claim_model.specs.Settings as model
use Rattle.claim_model.specs.World.{World, Packet, Event, run}
use Rattle.claim_model.specs.Nodes.{AnyNode, OfPharmacy, OfSwitch, OfPayer, node_at}
use Rattle.claim_model.specs.Logs.{Logged, NodeLog, log_in, replay}
use Rattle.claim_model.proofs.Lists.{all_at}
use Rattle.claim_model.proofs.Replaying.{replays, absent_stays}
use Rattle.world_setup.specs.Seen.{settings_seen}
use Rattle.world_setup.specs.declared.settings.WorldSettings.{WorldSettings}
use Rattle.world_core.specs.NodeLists.{NodeLists, world_of}
use Rattle.run_merge.specs.Merged.{IsMerged, FitsThere, FitsAlone, AllFit, packets_after}
use Rattle.node_log.specs.LogSeen.{log_seen, logs_seen}
use Rattle.node_log.specs.declared.log.NodeLog as declared
use Rattle.node_log.proofs.Opens.{pharmacies_length, switches_length, payers_length}
use Rattle.node_logged.specs.Setting.{context_of, opened}
use Rattle.node_logged.specs.Holding.{IsKept}
use Rattle.node_logged.specs.SameSettings.{AreAlike}
use Rattle.node_logged.specs.Standing.{HasLogOf, AreStanding, AreAll, next_name, with_node}
use Rattle.world_setup.specs.Taken.{routes_with}

-- under the same settings

pub kept_alike : (a b : WorldSettings) (state : AnyNode) (log : NodeLog) → AreAlike a b → IsKept a state log → IsKept b state log
kept_alike a b state log e k = record {
  replay = subst (λ (r : List Row). option_map (λ n. replay (bytes_with (routes_with (settings_seen b) r)) n log.calls) (node_at (opening (settings_seen b)) log.node) ≡ Some state) e.routes
      (subst (λ (m : model.WorldSettings). option_map (λ n. replay (bytes_with (routes_with m a.routes.items)) n log.calls) (node_at (opening m) log.node) ≡ Some state) e.nodes k.replay);
  fits = subst (λ (r : List Row). FitsThere (bytes_with (routes_with (settings_seen b) r)) (node_at (opening (settings_seen b)) log.node) log.calls) e.routes
      (subst (λ (m : model.WorldSettings). FitsThere (bytes_with (routes_with m a.routes.items)) (node_at (opening m) log.node) log.calls) e.nodes k.fits);
}

some_mapped : {A B : Type 0} (f : A → B) (o : Option A) (b : B) → option_map f o ≡ Some b → is_some o ≡ true
some_mapped f None b e = absurd cc
some_mapped f (Some a) b e = refl

fits_alone : (s : WorldSettings) (state : AnyNode) (log : NodeLog) → IsKept s state log → FitsAlone (context_of s) (settings_seen s) log
fits_alone s state log k = record { there = some_mapped (λ n. replay (context_of s) n log.calls) (opened s log.node) state k.replay; fits = k.fits }

-- one node and its log more

get_before : {A : Type 0} (xs : List A) (y : A) (k : ℕ) (x : A) → slice_get xs k ≡ Some x → slice_get (xs ++ y ∷ []) k ≡ Some x
get_before [] y k x e = absurd cc
get_before (z ∷ xs) y zero x e = e
get_before (z ∷ xs) y (suc k) x e = get_before xs y k x e

get_last : {A : Type 0} (xs : List A) (y : A) → slice_get (xs ++ y ∷ []) (length xs) ≡ Some y
get_last [] y = refl
get_last (z ∷ xs) y = get_last xs y

get_pushed : {A : Type 0} (xs : List A) (y : A) (k : ℕ) (x : A) → slice_get (xs ++ y ∷ []) k ≡ Some x → (slice_get xs k ≡ Some x) ⊎ ((length xs ≡ k) × (y ≡ x))
get_pushed [] y zero x e = inr (refl, cc)
get_pushed [] y (suc k) x e = absurd cc
get_pushed (z ∷ xs) y zero x e = inl e
get_pushed (z ∷ xs) y (suc k) x e = elim (get_pushed xs y k x e) [ inl f ↦ inl f | inr f ↦ inr (ap suc f.0, f.1) ]

has_more : (s : WorldSettings) (logs : List NodeLog) (log : NodeLog) (name : Node) (node : AnyNode) → HasLogOf s logs name node → HasLogOf s (logs ++ log ∷ []) name node
has_more s logs log name node h = record { place = h.place; log = h.log; at = get_before logs log h.place h.log h.at; names = h.names; kept = h.kept }

has_last : (s : WorldSettings) (logs : List NodeLog) (log : NodeLog) (name : Node) (node : AnyNode) → log.node ≡ name → IsKept s node log → HasLogOf s (logs ++ log ∷ []) name node
has_last s logs log name node names kept = record { place = length logs; log = log; at = get_last logs log; names = names; kept = kept }

fit_more : (s : WorldSettings) (logs : List NodeLog) (log : NodeLog) → AllFit (context_of s) (settings_seen s) logs → FitsAlone (context_of s) (settings_seen s) log → AllFit (context_of s) (settings_seen s) (logs ++ log ∷ [])
fit_more s logs log all one k x e = elim (get_pushed logs log k x e) [
  | inl f ↦ all k x f
  | inr f ↦ subst (λ (l : NodeLog). FitsAlone (context_of s) (settings_seen s) l) f.1 one
]

-- the nodes of a kind, each with its log, and one more
kind_more : {A : Type 0} (s : WorldSettings) (logs : List NodeLog) (log : NodeLog) (name : ℕ → Node) (kind : A → AnyNode) (xs : List A) (y : A)
    → ((k : ℕ) (x : A) → slice_get xs k ≡ Some x → HasLogOf s logs (name (suc k)) (kind x)) → log.node ≡ name (suc (length xs)) → IsKept s (kind y) log
    → (k : ℕ) (x : A) → slice_get (xs ++ y ∷ []) k ≡ Some x → HasLogOf s (logs ++ log ∷ []) (name (suc k)) (kind x)
kind_more s logs log name kind xs y all names kept k x e = elim (get_pushed xs y k x e) [
  | inl f ↦ has_more s logs log (name (suc k)) (kind x) (all k x f)
  | inr f ↦
      has_last s logs log (name (suc k)) (kind x) (names ∙ ap (λ (n : ℕ). name (suc n)) f.0) (subst (λ z. IsKept s (kind z) log) f.1 kept)
]

pub stands_first : (s : WorldSettings) → AreStanding s (record { pharmacies = []; switches = []; payers = [] }) []
stands_first s = record {
  pharmacies = λ k node e. absurd cc;
  switches = λ k node e. absurd cc;
  payers = λ k node e. absurd cc;
  fit = λ k log e. absurd cc;
}

pub stands_more : (s : WorldSettings) (nodes : NodeLists) (logs : List NodeLog) (state : AnyNode) (log : NodeLog) → AreStanding s nodes logs → IsKept s state log → log.node ≡ next_name nodes state → AreStanding s (with_node nodes state) (logs ++ log ∷ [])
stands_more s nodes logs (OfPharmacy p) log st kept names = record {
  pharmacies = kind_more s logs log Pharmacy OfPharmacy nodes.pharmacies p st.pharmacies names kept;
  switches = λ k x e. has_more s logs log (Switch (suc k)) (OfSwitch x) (st.switches k x e);
  payers = λ k x e. has_more s logs log (Payer (suc k)) (OfPayer x) (st.payers k x e);
  fit = fit_more s logs log st.fit (fits_alone s (OfPharmacy p) log kept);
}
stands_more s nodes logs (OfSwitch p) log st kept names = record {
  pharmacies = λ k x e. has_more s logs log (Pharmacy (suc k)) (OfPharmacy x) (st.pharmacies k x e);
  switches = kind_more s logs log Switch OfSwitch nodes.switches p st.switches names kept;
  payers = λ k x e. has_more s logs log (Payer (suc k)) (OfPayer x) (st.payers k x e);
  fit = fit_more s logs log st.fit (fits_alone s (OfSwitch p) log kept);
}
stands_more s nodes logs (OfPayer p) log st kept names = record {
  pharmacies = λ k x e. has_more s logs log (Pharmacy (suc k)) (OfPharmacy x) (st.pharmacies k x e);
  switches = λ k x e. has_more s logs log (Switch (suc k)) (OfSwitch x) (st.switches k x e);
  payers = kind_more s logs log Payer OfPayer nodes.payers p st.payers names kept;
  fit = fit_more s logs log st.fit (fits_alone s (OfPayer p) log kept);
}

-- a node that is the next of its kind, under settings that are the same
pub stands_next : (s own : WorldSettings) (old new : NodeLists) (logs all : List NodeLog) (name : Node) (state : AnyNode) (log : NodeLog) → AreAlike own s → IsKept own state log → name ≡ log.node → name ≡ next_name old state
    → new ≡ with_node old state → all ≡ logs ++ log ∷ [] → AreStanding s old logs → AreStanding s new all
stands_next s own old new logs all name state log alike kept is next nodes_are logs_are st =
    subst (λ (ns : NodeLists). AreStanding s ns all) (sym nodes_are)
    (subst (λ (ls : List NodeLog). AreStanding s (with_node old state) ls) (sym logs_are) (stands_more s old logs state log st (kept_alike own s state log alike kept) (sym is ∙ next)))

seen_more : (xs : List declared.NodeLog) (y : declared.NodeLog) → logs_seen (xs ++ y ∷ []) ≡ logs_seen xs ++ log_seen y ∷ []
seen_more [] y = refl
seen_more (x ∷ xs) y = ap (λ ls. log_seen x ∷ ls) (seen_more xs y)

pub logs_more : (xs new : List declared.NodeLog) (y : declared.NodeLog) → new ≡ xs ++ y ∷ [] → logs_seen new ≡ logs_seen xs ++ log_seen y ∷ []
logs_more xs new y is = ap (λ (ls : List declared.NodeLog). logs_seen ls) is ∙ seen_more xs y

-- the world of the run

-- a node that is kept by its log is the world's
leads : (s : WorldSettings) (logs : List NodeLog) (es : List Event) (name : Node) (node : AnyNode) → IsMerged s logs es → HasLogOf s logs name node → node_at (run (context_of s) (opening (settings_seen s)) es) name ≡ Some node
leads s logs es name node m h = subst (λ (x : Node). node_at (run (context_of s) (opening (settings_seen s)) es) x ≡ Some node) h.names (by (opened s h.log.node) refl)
  where
    same : log_in (context_of s) (opening (settings_seen s)) es h.log.node ≡ h.log.calls
    same = all_at (λ x. log_in (context_of s) (opening (settings_seen s)) es x.node ≡ x.calls) logs (suc h.place) h.log m.legal.same h.at

    by : (o : Option AnyNode) → opened s h.log.node ≡ o → node_at (run (context_of s) (opening (settings_seen s)) es) h.log.node ≡ Some node
    by None e = let f : None ≡ Some node = subst (λ (o : Option AnyNode). option_map (λ n. replay (context_of s) n h.log.calls) o ≡ Some node) e h.kept.replay in absurd cc
    by (Some before) e =
        let f : Some (replay (context_of s) before h.log.calls) ≡ Some node = subst (λ (o : Option AnyNode). option_map (λ n. replay (context_of s) n h.log.calls) o ≡ Some node) e h.kept.replay in
        (replays (context_of s) (opening (settings_seen s)) es h.log.node before e).leads ∙ (ap (λ (calls : List Logged). Some (replay (context_of s) before calls)) same ∙ f)

each_place : {A : Type 0} (xs ys : List A) → ((k : ℕ) → slice_get xs k ≡ slice_get ys k) → xs ≡ ys
each_place [] [] h = refl
each_place [] (y ∷ ys) h = let e : None ≡ Some y = h 0 in absurd cc
each_place (x ∷ xs) [] h = let e : Some x ≡ None = h 0 in absurd cc
each_place (x ∷ xs) (y ∷ ys) h =
    let e : Some x ≡ Some y = h 0 in
    let f : x ≡ y = cc in
    let g = each_place xs ys (λ k. h (suc k)) in
    λ i. f i ∷ g i

none_alike : {A B : Type 0} (xs : List A) (ys : List B) (k : ℕ) → length xs ≡ length ys → slice_get xs k ≡ None → slice_get ys k ≡ None
none_alike xs [] k e h = refl
none_alike [] (y ∷ ys) k e h = absurd (omega (arith, e))
none_alike (x ∷ xs) (y ∷ ys) zero e h = absurd cc
none_alike (x ∷ xs) (y ∷ ys) (suc k) e h = none_alike xs ys k (omega (arith, e)) h

none_mapped : {A B : Type 0} (f : A → B) (o : Option A) → option_map f o ≡ None → o ≡ None
none_mapped f None e = refl
none_mapped f (Some a) e = absurd cc

-- the nodes of a kind in the world are those that stand
kind_is : {A : Type 0} (kind : A → AnyNode) (first last xs : List A) → ((o : Option A) (a : A) → option_map kind o ≡ Some (kind a) → o ≡ Some a) → length xs ≡ length first
    → ((k : ℕ) (x : A) → slice_get xs k ≡ Some x → option_map kind (slice_get last k) ≡ Some (kind x)) → ((k : ℕ) → option_map kind (slice_get first k) ≡ None → option_map kind (slice_get last k) ≡ None) → xs ≡ last
kind_is kind first last xs one size there absent = each_place xs last (λ k. by k (slice_get xs k) refl)
  where
    by : (k : ℕ) (o : Option _) → slice_get xs k ≡ o → slice_get xs k ≡ slice_get last k
    by k None e = e ∙ sym (none_mapped kind (slice_get last k) (absent k (ap (option_map kind) (none_alike xs first k size e))))
    by k (Some x) e = e ∙ sym (one (slice_get last k) x (there k x e))

one_pharmacy : (o : Option (Power Journal JournalAtRest)) (q : Power Journal JournalAtRest) → option_map OfPharmacy o ≡ Some (OfPharmacy q) → o ≡ Some q
one_pharmacy None q e = absurd cc
one_pharmacy (Some p) q e = let same : OfPharmacy p ≡ OfPharmacy q = cc in let is : p ≡ q = cc in ap (λ (r : Power Journal JournalAtRest). Some r) is

one_switch : (o : Option (Power Table ℕ)) (q : Power Table ℕ) → option_map OfSwitch o ≡ Some (OfSwitch q) → o ≡ Some q
one_switch None q e = absurd cc
one_switch (Some p) q e = let same : OfSwitch p ≡ OfSwitch q = cc in let is : p ≡ q = cc in ap (λ (r : Power Table ℕ). Some r) is

one_payer : (o : Option (Power Book Book)) (q : Power Book Book) → option_map OfPayer o ≡ Some (OfPayer q) → o ≡ Some q
one_payer None q e = absurd cc
one_payer (Some p) q e = let same : OfPayer p ≡ OfPayer q = cc in let is : p ≡ q = cc in ap (λ (r : Power Book Book). Some r) is

-- nodes that stand by their logs, and the packets of the run, are the world after the run
pub stands_world : (s : WorldSettings) (logs : List NodeLog) (es : List Event) (nodes : NodeLists) (packets : List Packet) → IsMerged s logs es → AreStanding s nodes logs → AreAll s nodes → packets ≡ packets_after s es
    → world_of nodes packets ≡ run (context_of s) (opening (settings_seen s)) es
stands_world s logs es nodes packets m st all posts = λ i. record { pharmacies = pharmacies i; switches = switches i; payers = payers i; packets = posts i }
  where
    first : World
    first = opening (settings_seen s)

    last : World
    last = run (context_of s) (opening (settings_seen s)) es

    pharmacies : nodes.pharmacies ≡ last.pharmacies
    pharmacies =
        kind_is OfPharmacy first.pharmacies last.pharmacies nodes.pharmacies one_pharmacy (all.pharmacies ∙ pharmacies_length 1 s.pharmacies.items)
        (λ k x e. leads s logs es (Pharmacy (suc k)) (OfPharmacy x) m (st.pharmacies k x e)) (λ k none. (absent_stays (context_of s) first es (Pharmacy (suc k)) none).1)

    switches : nodes.switches ≡ last.switches
    switches =
        kind_is OfSwitch first.switches last.switches nodes.switches one_switch (all.switches ∙ switches_length s.switches.items)
        (λ k x e. leads s logs es (Switch (suc k)) (OfSwitch x) m (st.switches k x e)) (λ k none. (absent_stays (context_of s) first es (Switch (suc k)) none).1)

    payers : nodes.payers ≡ last.payers
    payers =
        kind_is OfPayer first.payers last.payers nodes.payers one_payer (all.payers ∙ payers_length 1 s.payers.items)
        (λ k x e. leads s logs es (Payer (suc k)) (OfPayer x) m (st.payers k x e)) (λ k none. (absent_stays (context_of s) first es (Payer (suc k)) none).1)
