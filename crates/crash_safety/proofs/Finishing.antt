-- All that lies in the files is synced: a run of which they are the logs.
use Rattle.std.proofs.Common.{◌≡◌, ℕ, zero, suc, ◌≤◌, List, [], ◌∷◌, ◌++◌, length, Option, Some, None, refl, sym, ap, ◌∙◌, subst, ◌⊎◌, inl, inr, append_assoc, arith}
use Rattle.std.specs.Prelude.{option_map}
use Rattle.std.proofs.lemmas.List.{append-nil}
use Rattle.std.proofs.lemmas.Bool.{cases_eq}
use Rattle.claim_model.specs.Context.{Context}
use Rattle.claim_model.specs.Numbered.{numbered}
use Rattle.claim_model.specs.Journal.{Journal, JournalAtRest}
use Rattle.claim_model.specs.Table.{Table}
use Rattle.claim_model.specs.Rows.{Book}
use Rattle.claim_model.specs.Node.{Node, Pharmacy, Switch, Payer, Power}
use Rattle.claim_model.specs.World.{Packet, Event}
use Rattle.claim_model.specs.Settings.{WorldSettings, opening}
use Rattle.claim_model.specs.Nodes.{OfPharmacy, OfSwitch, OfPayer, node_at}
use Rattle.claim_model.specs.Logs.{Logged}
use Rattle.claim_model.proofs.Lists.{numbered_within}
use Rattle.crash_safety.specs.Network.{Process, Network, file, put}
use Rattle.crash_safety.specs.Runs.{HasRun, in_files}
use Rattle.crash_safety.proofs.Sound.{IsSound, at_each}
use Rattle.crash_safety.proofs.Moving.{syncing_on}

-- a later network with the same words and the same files, in which these nodes have nothing that is not synced
pub record Finished (ctx : Context) (s : WorldSettings) (n : Network) (events : List Event) (P : Node → Type 0) : Type 0 where
  pub last : Network
  pub more : List Event
  pub sound : IsSound ctx s last (events ++ more)
  pub wire : last.wire ≡ n.wire
  pub files : (node : Node) → file (last.at node) ≡ file (n.at node)
  pub stays : (node : Node) → (n.at node).unsynced ≡ [] → (last.at node).unsynced ≡ []
  pub all : (node : Node) → P node → (last.at node).unsynced ≡ []

-- one after the other
finished_then : (ctx : Context) (s : WorldSettings) (n : Network) (events : List Event) (P Q : Node → Type 0) (f : Finished ctx s n events P) → Finished ctx s f.last (events ++ f.more) Q → Finished ctx s n events (λ (x : Node). P x ⊎ Q x)
finished_then ctx s n events P Q f g =
    record {
      last = g.last;
      more = f.more ++ g.more;
      sound = subst (IsSound ctx s g.last) (append_assoc events f.more g.more) g.sound;
      wire = g.wire ∙ f.wire;
      files = λ node. g.files node ∙ f.files node;
      stays = λ node e. g.stays node (f.stays node e);
      all = λ node e. elim e [ inl p ↦ g.stays node (f.all node p) | inr q ↦ g.all node q ];
    }

-- one node

pub same_file : (p : Process) (l : Logged) (more : List Logged) → p.unsynced ≡ l ∷ more → (p.synced ++ l ∷ []) ++ more ≡ file p
same_file p l more e = append_assoc p.synced (l ∷ []) more ∙ ap (λ (log : List Logged). p.synced ++ log) (sym e)

pub nothing_left : (p : Process) (l : Logged) (more : List Logged) (A : Type 0) → p.unsynced ≡ l ∷ more → p.unsynced ≡ [] → A
nothing_left p l more A e f = let wrong : l ∷ more ≡ [] = sym e ∙ f in absurd cc

pub finish_node : (ctx : Context) (s : WorldSettings) (n : Network) (events : List Event) (node : Node) (left : List Logged) → IsSound ctx s n events → (n.at node).unsynced ≡ left → Finished ctx s n events (λ (x : Node). node ≡ x)
finish_node ctx s n events node [] i e =
    record {
      last = n;
      more = [];
      sound = subst (IsSound ctx s n) (sym (append-nil events)) i;
      wire = refl;
      files = λ x. refl;
      stays = λ x f. f;
      all = λ x same. subst (λ (y : Node). (n.at y).unsynced ≡ []) same e;
    }
finish_node ctx s n events node (l ∷ more) i e =
    let p = n.at node in
    let next : Process = record { memory = p.memory; synced = p.synced ++ l ∷ []; unsynced = more } in
    let m = put n node next in
    let one = syncing_on ctx s n events node (l ∷ more) i e in
    let own : (m.at node).unsynced ≡ more = at_each (λ (x : Node) (q : Process). node ≡ x → q.unsynced ≡ more) n node next (λ same. refl) (λ other d same. absurd (d same)) node refl in
    let rest = finish_node ctx s m (events ++ one.more) node more one.sound own in
    record {
      last = rest.last;
      more = one.more ++ rest.more;
      sound = subst (IsSound ctx s rest.last) (append_assoc events one.more rest.more) rest.sound;
      wire = rest.wire;
      files = λ x. rest.files x ∙ at_each (λ (y : Node) (q : Process). file q ≡ file (n.at y)) n node next (same_file p l more e) (λ other d. refl) x;
      stays = λ x f. rest.stays x (at_each (λ (y : Node) (q : Process). (n.at y).unsynced ≡ [] → q.unsynced ≡ []) n node next (nothing_left p l more (more ≡ []) e) (λ other d g. g) x f);
      all = rest.all;
    }

-- all nodes of a kind

abbrev pub UpTo : (ℕ → Node) → ℕ → Node → Type 0
UpTo kind most node = (k : ℕ) × (k ≤ most) × (kind k ≡ node)

pub below : (k most : ℕ) → k ≤ suc most → (k ≡ suc most → ⊥) → k ≤ most
below k most h d = grind (arith, h, d)

finish_kind : (ctx : Context) (s : WorldSettings) (n : Network) (events : List Event) (kind : ℕ → Node) (most : ℕ) → IsSound ctx s n events → Finished ctx s n events (UpTo kind most)
finish_kind ctx s n events kind zero i =
    let f = finish_node ctx s n events (kind zero) (n.at (kind zero)).unsynced i refl in
    record {
      last = f.last;
      more = f.more;
      sound = f.sound;
      wire = f.wire;
      files = f.files;
      stays = f.stays;
      all = λ node e. let none : e.0 ≡ zero = omega (arith, e.1) in f.all node (ap kind (sym none) ∙ e.2);
    }
finish_kind ctx s n events kind (suc most) i =
    let f = finish_kind ctx s n events kind most i in
    let g = finish_node ctx s f.last (events ++ f.more) (kind (suc most)) (f.last.at (kind (suc most))).unsynced f.sound refl in
    let both = finished_then ctx s n events (UpTo kind most) (λ (x : Node). kind (suc most) ≡ x) f g in
    record {
      last = both.last;
      more = both.more;
      sound = both.sound;
      wire = both.wire;
      files = both.files;
      stays = both.stays;
      all = λ node e. elim (cases_eq e.0 (suc most)) [
        | inl same ↦ both.all node (inr (ap kind (sym same) ∙ e.2))
        | inr other ↦ both.all node (inl (e.0, below e.0 most e.1 other, e.2))
      ];
    }

-- all nodes

abbrev IsNamed : WorldSettings → Node → Type 0
IsNamed s node = (UpTo Pharmacy (length (opening s).pharmacies) node ⊎ UpTo Switch (length (opening s).switches) node) ⊎ UpTo Payer (length (opening s).payers) node

pub named_pharmacy : (xs : List (Power Journal JournalAtRest)) (k : ℕ) (o : Option (Power Journal JournalAtRest)) → numbered xs k ≡ o
    → (option_map OfPharmacy o ≡ None) ⊎ UpTo Pharmacy (length xs) (Pharmacy k)
named_pharmacy xs k None e = inl refl
named_pharmacy xs k (Some x) e = inr (k, (numbered_within xs k x e).1, refl)

named_switch : (xs : List (Power Table ℕ)) (k : ℕ) (o : Option (Power Table ℕ)) → numbered xs k ≡ o → (option_map OfSwitch o ≡ None) ⊎ UpTo Switch (length xs) (Switch k)
named_switch xs k None e = inl refl
named_switch xs k (Some x) e = inr (k, (numbered_within xs k x e).1, refl)

pub named_payer : (xs : List (Power Book Book)) (k : ℕ) (o : Option (Power Book Book)) → numbered xs k ≡ o → (option_map OfPayer o ≡ None) ⊎ UpTo Payer (length xs) (Payer k)
named_payer xs k None e = inl refl
named_payer xs k (Some x) e = inr (k, (numbered_within xs k x e).1, refl)

named_by : (s : WorldSettings) (node : Node) → (node_at (opening s) node ≡ None) ⊎ IsNamed s node
named_by s (Pharmacy k) =
    elim (named_pharmacy (opening s).pharmacies k (numbered (opening s).pharmacies k) refl) [ inl none ↦ inl none | inr it ↦ inr (inl (inl it)) ]
named_by s (Switch k) = elim (named_switch (opening s).switches k (numbered (opening s).switches k) refl) [ inl none ↦ inl none | inr it ↦ inr (inl (inr it)) ]
named_by s (Payer k) = elim (named_payer (opening s).payers k (numbered (opening s).payers k) refl) [ inl none ↦ inl none | inr it ↦ inr (inr it) ]

finish_named : (ctx : Context) (s : WorldSettings) (n : Network) (events : List Event) → IsSound ctx s n events → Finished ctx s n events (IsNamed s)
finish_named ctx s n events i =
    let f = finish_kind ctx s n events Pharmacy (length (opening s).pharmacies) i in
    let g = finish_kind ctx s f.last (events ++ f.more) Switch (length (opening s).switches) f.sound in
    let fg = finished_then ctx s n events (UpTo Pharmacy (length (opening s).pharmacies)) (UpTo Switch (length (opening s).switches)) f g in
    let h = finish_kind ctx s fg.last (events ++ fg.more) Payer (length (opening s).payers) fg.sound in
    finished_then ctx s n events (λ (x : Node). UpTo Pharmacy (length (opening s).pharmacies) x ⊎ UpTo Switch (length (opening s).switches) x) (UpTo Payer (length (opening s).payers)) fg h

-- the run of the files goes on from that of the disks
pub record FilesRun (ctx : Context) (s : WorldSettings) (n : Network) (events : List Event) : Type 0 where
  pub beyond : List Event
  pub has : HasRun ctx s (in_files n) n.wire (events ++ beyond)

pub all_synced : (p : Process) → p.unsynced ≡ [] → p.synced ≡ file p
all_synced p e = sym (ap (λ (log : List Logged). p.synced ++ log) e ∙ append-nil p.synced)

pub files_run : (ctx : Context) (s : WorldSettings) (n : Network) (events : List Event) → IsSound ctx s n events → FilesRun ctx s n events
files_run ctx s n events i =
    let f = finish_named ctx s n events i in
    let none : (node : Node) → (f.last.at node).unsynced ≡ [] = λ node. elim (named_by s node) [ inl nobody ↦ (f.sound.each node).nobody nobody | inr named ↦ f.all node named ] in
    record {
      beyond = f.more;
      has = record {
        accepted = f.sound.has.accepted;
        each = λ node. f.sound.has.each node ∙ (all_synced (f.last.at node) (none node) ∙ f.files node);
        all = λ k p e. f.sound.has.all k p (ap (λ (wire : List Packet). numbered wire k) f.wire ∙ e);
      };
    }
