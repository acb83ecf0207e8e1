-- Worlds of the same nodes are the same but for their packets.
use Rattle.std.proofs.Common.{◌≡◌, ℕ, zero, suc, List, [], ◌∷◌, ◌++◌, Option, Some, None, refl, sym, ap, ◌∙◌, subst, inl, inr, append_assoc}
use Rattle.std.specs.Prelude.{option_map}
use Rattle.claim_model.specs.Context.{Context}
use Rattle.claim_model.specs.Laws.{Laws}
use Rattle.claim_model.specs.Numbered.{numbered}
use Rattle.claim_model.specs.Journal.{Journal, JournalAtRest}
use Rattle.claim_model.specs.Table.{Table}
use Rattle.claim_model.specs.Rows.{Book}
use Rattle.claim_model.specs.Node.{Node, Pharmacy, Switch, Payer, Power}
use Rattle.claim_model.specs.World.{World, Packet, Event, run}
use Rattle.claim_model.specs.Settings.{WorldSettings, Accepts, opening}
use Rattle.claim_model.specs.Nodes.{OfPharmacy, OfSwitch, OfPayer, node_at}
use Rattle.claim_model.specs.Logs.{Logged}
use Rattle.claim_model.specs.Promises.{Reached}
use Rattle.claim_model.proofs.Walking.{leads_from}
use Rattle.crash_safety.specs.Network.{Move, replayed, network}
use Rattle.crash_safety.specs.Runs.{HasRun, on_disks, in_files}
use Rattle.crash_safety.specs.Kept.{AreNodes, Holds}
use Rattle.crash_safety.proofs.Courses.{course}

-- a world with other packets
abbrev pub with_packets : World → List Packet → World
with_packets w packets = record { pharmacies = w.pharmacies; switches = w.switches; payers = w.payers; packets = packets }

-- lists with the same element at each number are the same

first_is : {A : Type 0} (x y : A) (xs ys : List A) → ((n : ℕ) → numbered (x ∷ xs) n ≡ numbered (y ∷ ys) n) → x ≡ y
first_is x y xs ys e = let f : ◌≡◌ {A = Option _} (Some x) (Some y) = e (suc zero) in cc

pub same_list : {A : Type 0} (xs ys : List A) → ((n : ℕ) → numbered xs n ≡ numbered ys n) → xs ≡ ys
same_list [] [] e = refl
same_list {A = A} [] (y ∷ ys) e = let f : ◌≡◌ {A = Option A} None (Some y) = e (suc zero) in absurd cc
same_list {A = A} (x ∷ xs) [] e = let f : ◌≡◌ {A = Option A} (Some x) None = e (suc zero) in absurd cc
same_list {A = A} (x ∷ xs) (y ∷ ys) e =
    let head : x ≡ y = first_is x y xs ys e in
    let tail : xs ≡ ys = same_list xs ys (behind xs ys e) in
    ap (λ (z : A). z ∷ xs) head ∙ ap (λ (zs : List A). y ∷ zs) tail
  where
    behind : (xs ys : List A) → ((n : ℕ) → numbered (x ∷ xs) n ≡ numbered (y ∷ ys) n) → (n : ℕ) → numbered xs n ≡ numbered ys n
    behind xs ys e zero = refl
    behind xs ys e (suc k) = e (suc (suc k))

-- a kind of node is told by its constructor

same_pharmacy : (a b : Option (Power Journal JournalAtRest)) → option_map OfPharmacy a ≡ option_map OfPharmacy b → a ≡ b
same_pharmacy None None e = refl
same_pharmacy None (Some y) e = absurd cc
same_pharmacy (Some x) None e = absurd cc
same_pharmacy (Some x) (Some y) e = let f : x ≡ y = cc in ap (λ (z : Power Journal JournalAtRest). Some z) f

same_switch : (a b : Option (Power Table ℕ)) → option_map OfSwitch a ≡ option_map OfSwitch b → a ≡ b
same_switch None None e = refl
same_switch None (Some y) e = absurd cc
same_switch (Some x) None e = absurd cc
same_switch (Some x) (Some y) e = let f : x ≡ y = cc in ap (λ (z : Power Table ℕ). Some z) f

same_payer : (a b : Option (Power Book Book)) → option_map OfPayer a ≡ option_map OfPayer b → a ≡ b
same_payer None None e = refl
same_payer None (Some y) e = absurd cc
same_payer (Some x) None e = absurd cc
same_payer (Some x) (Some y) e = let f : x ≡ y = cc in ap (λ (z : Power Book Book). Some z) f

abbrev world_of : List (Power Journal JournalAtRest) → List (Power Table ℕ) → List (Power Book Book) → List Packet → World
world_of pharmacies switches payers packets = record { pharmacies = pharmacies; switches = switches; payers = payers; packets = packets }

pub same_world : (w r : World) → ((node : Node) → node_at w node ≡ node_at r node) → w ≡ with_packets r w.packets
same_world w r e =
    let a : w.pharmacies ≡ r.pharmacies = same_list w.pharmacies r.pharmacies (λ n. same_pharmacy (numbered w.pharmacies n) (numbered r.pharmacies n) (e (Pharmacy n))) in
    let b : w.switches ≡ r.switches = same_list w.switches r.switches (λ n. same_switch (numbered w.switches n) (numbered r.switches n) (e (Switch n))) in
    let c : w.payers ≡ r.payers = same_list w.payers r.payers (λ n. same_payer (numbered w.payers n) (numbered r.payers n) (e (Payer n))) in
    ap (λ (xs : List (Power Journal JournalAtRest)). world_of xs w.switches w.payers w.packets) a
    ∙ (ap (λ (xs : List (Power Table ℕ)). world_of r.pharmacies xs w.payers w.packets) b
    ∙ ap (λ (xs : List (Power Book Book)). world_of r.pharmacies r.switches xs w.packets) c)

-- the nodes of a run are what its logs make

pub nodes_of_run : (ctx : Context) (s : WorldSettings) (logs : Node → List Logged) (said : List Packet) (events : List Event) → HasRun ctx s logs said events → AreNodes ctx s logs (run ctx (opening s) events)
nodes_of_run ctx s logs said events h node =
    leads_from ctx (opening s) events node (node_at (opening s) node) refl ∙ ap (λ (log : List Logged). replayed ctx s node log) (h.each node)

pub is_of_run : (ctx : Context) (s : WorldSettings) (logs : Node → List Logged) (said : List Packet) (events : List Event) (w : World) → HasRun ctx s logs said events → AreNodes ctx s logs w
    → w ≡ with_packets (run ctx (opening s) events) w.packets
is_of_run ctx s logs said events w h nodes = same_world w (run ctx (opening s) events) (λ node. nodes node ∙ sym (nodes_of_run ctx s logs said events h node))

pub reached : (ctx : Context) (s : WorldSettings) (events : List Event) → Laws ctx → Accepts ctx s → Reached ctx s (run ctx (opening s) events)
reached ctx s events laws accepts = record { laws = laws; accepts = accepts; events = events; leads = refl }

-- a world of a network, beside the run that leads there
pub record Standing (ctx : Context) (s : WorldSettings) (moves more : List Move) (w : World) : Type 0 where
  pub before : List Event
  pub further : List Event
  pub logs : Node → List Logged
  pub first : HasRun ctx s (on_disks (network ctx s moves)) (network ctx s moves).wire before
  pub last : HasRun ctx s logs (network ctx s (moves ++ more)).wire (before ++ further)
  pub is : w ≡ with_packets (run ctx (opening s) (before ++ further)) w.packets

pub standing_at : (ctx : Context) (s : WorldSettings) (moves more : List Move) (w : World) → Holds ctx s (network ctx s (moves ++ more)) w → Standing ctx s moves more w
standing_at ctx s moves more w (inl disks) =
    let c = course ctx s moves more in
    let n = network ctx s (moves ++ more) in
    record { before = c.before; further = c.between; logs = on_disks n; first = c.first; last = c.disks; is = is_of_run ctx s (on_disks n) n.wire (c.before ++ c.between) w c.disks disks }
standing_at ctx s moves more w (inr files) =
    let c = course ctx s moves more in
    let n = network ctx s (moves ++ more) in
    let joined : (c.before ++ c.between) ++ c.beyond ≡ c.before ++ (c.between ++ c.beyond) = append_assoc c.before c.between c.beyond in
    let last = subst (HasRun ctx s (in_files n) n.wire) joined c.files in
    record { before = c.before; further = c.between ++ c.beyond; logs = in_files n; first = c.first; last = last; is = is_of_run ctx s (in_files n) n.wire (c.before ++ (c.between ++ c.beyond)) w last files }

-- there are such worlds

pub world_on_disks : (ctx : Context) (s : WorldSettings) (moves : List Move) → (w : World) × AreNodes ctx s (on_disks (network ctx s moves)) w
world_on_disks ctx s moves =
    let c = course ctx s [] moves in
    (run ctx (opening s) (c.before ++ c.between), nodes_of_run ctx s (on_disks (network ctx s moves)) (network ctx s moves).wire (c.before ++ c.between) c.disks)

pub world_in_files : (ctx : Context) (s : WorldSettings) (moves : List Move) → (w : World) × AreNodes ctx s (in_files (network ctx s moves)) w
world_in_files ctx s moves =
    let c = course ctx s [] moves in
    (run ctx (opening s) ((c.before ++ c.between) ++ c.beyond), nodes_of_run ctx s (in_files (network ctx s moves)) (network ctx s moves).wire ((c.before ++ c.between) ++ c.beyond) c.files)
