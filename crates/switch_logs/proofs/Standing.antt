-- Nodes that stand for names under settings.
use Rattle.std.proofs.Common.{◌≡◌, ℕ, zero, suc, ◌+◌, ◌<◌, List, [], ◌∷◌, ◌++◌, length, map, slice_set, slice_index_or, refl, sym, ap, subst, ◌∙◌, arith}
use Rattle.std.specs.Prelude.{IsSome}
use Rattle.std.specs.List.{AllByRecursion}
use Rattle.std.proofs.lemmas.Bool.{lt-ltb}
use Rattle.claim_model.specs.Node.{Node, Switch}
use Rattle.claim_model.specs.Logs.{NodeLog}
use Rattle.world_setup.specs.Seen.{settings_seen}
use Rattle.world_setup.specs.declared.settings.WorldSettings.{WorldSettings}
use Rattle.node_log.proofs.Opens.{switch_there}
use Rattle.run_merge.specs.Merged.{FitsAlone}
use Rattle.node_logged.specs.Setting.{context_of, opened}
use Rattle.node_logged.specs.Holding.{Holding}
use Rattle.bin_routes.specs.Row.{Row}
use Rattle.claim_model.specs.Bytes.{bytes_with}
use Rattle.claim_model.specs.Settings as opened
use Rattle.switch_logs.specs.MadeLogs.{AreMade, AreMadeUnder, FitsUnder, Stand, all_under, if_none, log_of, nodes_of, unlogged, who}
use Rattle.world_setup.specs.Taken.{routes_with}

-- one of them goes on, and is who it was
pub same_who : (xs : List Holding) (k : ℕ) (y d : Holding) → who y ≡ who (slice_index_or xs k d) → map who (slice_set xs k y) ≡ map who xs
same_who [] k y d h = refl
same_who (x ∷ xs) zero y d h = ap (λ w. w ∷ map who xs) h
same_who (x ∷ xs) (suc k) y d h = ap (λ ws. who x ∷ ws) (same_who xs k y d h)

-- a switch of the settings is there
pub switch_opens : (s : WorldSettings) (k : ℕ) → k < length s.switches.items → IsSome (opened s (Switch (k + 1)))
switch_opens s k there =
    let next : suc k ≡ k + 1 = omega arith in
    subst (λ (n : ℕ). IsSome (opened s (Switch n))) next
    (sym (switch_there s.switches.items (length s.switches.items) (suc k) refl) ∙ lt-ltb k (length s.switches.items) there)

-- the switches up to the next one that have no log
pub one_more : (logs : List NodeLog) (n : ℕ) → unlogged logs (n + 1) ≡ unlogged logs n ++ if_none logs (Switch (n + 1))
one_more logs n =
    let next : suc n ≡ n + 1 = omega arith in
    ap (unlogged logs) (sym next)

under_both : (s : WorldSettings) (xs ys : List Node) → all_under s (xs ++ ys) ≡ all_under s xs ++ all_under s ys
under_both s [] ys = refl
under_both s (x ∷ xs) ys = ap (λ more. (s, x) ∷ more) (under_both s xs ys)

-- with that one after the others, where it has none
pub next_stands : (s : WorldSettings) (logs : List NodeLog) (n : ℕ) (held more : List Holding) → Stand s (unlogged logs n) held
    → map who more ≡ map who held ++ all_under s (if_none logs (Switch (n + 1))) → Stand s (unlogged logs (n + 1)) more
next_stands s logs n held more stands is =
    is ∙ (ap (λ ws. ws ++ all_under s (if_none logs (Switch (n + 1)))) stands
    ∙ (sym (under_both s (unlogged logs n) (if_none logs (Switch (n + 1)))) ∙ ap (all_under s) (sym (one_more logs n))))

nodes_in : (held : List Holding) → nodes_of (map log_of held) ≡ map (λ (w : WorldSettings × Node). w.1) (map who held)
nodes_in [] = refl
nodes_in (h ∷ more) = ap (λ nodes. h.log.node ∷ nodes) (nodes_in more)

nodes_under : (s : WorldSettings) (nodes : List Node) → map (λ (w : WorldSettings × Node). w.1) (all_under s nodes) ≡ nodes
nodes_under s [] = refl
nodes_under s (node ∷ more) = ap (λ nodes. node ∷ nodes) (nodes_under s more)

all_are_under : (s : WorldSettings) (nodes : List Node) → AllByRecursion (λ (w : WorldSettings × Node). w.0 ≡ s) (all_under s nodes)
all_are_under s [] = tt
all_are_under s (node ∷ more) = (refl, all_are_under s more)

all_fit : (s : WorldSettings) (held : List Holding) → AllByRecursion (λ (w : WorldSettings × Node). w.0 ≡ s) (map who held) → AllByRecursion FitsUnder held
    → AllByRecursion (FitsAlone (context_of s) (settings_seen s)) (map log_of held)
all_fit s [] under fit = tt
all_fit s (h ∷ more) under fit =
    (subst (λ (t : WorldSettings). FitsAlone (context_of t) (settings_seen t) h.log) under.0 fit.0, all_fit s more under.1 fit.1)

-- whatever they have done, their logs are those that were to be made
pub are_made : (s : WorldSettings) (logs : List NodeLog) (held : List Holding) → Stand s (unlogged logs (length s.switches.items)) held → AllByRecursion FitsUnder held
    → AreMadeUnder s logs (map log_of held)
are_made s logs held stands fit =
    let nodes = unlogged logs (length s.switches.items) in
    record {
      named = nodes_in held ∙ (ap (map (λ (w : WorldSettings × Node). w.1)) stands ∙ nodes_under s nodes);
      fit = all_fit s held (subst (λ (ws : List (WorldSettings × Node)). AllByRecursion (λ (w : WorldSettings × Node). w.0 ≡ s) ws) (sym stands) (all_are_under s nodes)) fit;
    }

-- and so under settings that say the same
pub made_alike : (s t : WorldSettings) (logs made : List NodeLog) → settings_seen t ≡ settings_seen s → t.routes.items ≡ s.routes.items → AreMadeUnder t logs made
    → AreMadeUnder s logs made
made_alike s t logs made nodes routes are =
    subst (λ (o : opened.WorldSettings). AreMade (bytes_with (routes_with o s.routes.items)) o logs made) nodes
    (subst (λ (rows : List Row). AreMade (bytes_with (routes_with (settings_seen t) rows)) (settings_seen t) logs made) routes are)

-- what was made of nodes that went on, and are who they were
pub made_of : (s : WorldSettings) (logs made : List NodeLog) (before held : List Holding) → Stand s (unlogged logs (length s.switches.items)) before
    → map who held ≡ map who before → (made ≡ map log_of held) × AllByRecursion FitsUnder held → AreMadeUnder s logs made
made_of s logs made before held stands same is =
    subst (λ (seen : List NodeLog). AreMadeUnder s logs seen) (sym is.0) (are_made s logs held (same ∙ stands) is.1)
