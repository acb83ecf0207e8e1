-- All that lies in the files of pharmacies and payers is synced, whatever switches are.
use Rattle.std.proofs.Common.{◌≡◌, ℕ, zero, suc, List, [], ◌∷◌, ◌++◌, length, refl, sym, ap, ◌∙◌, subst, ◌⊎◌, inl, inr, append_assoc, arith}
use Rattle.std.proofs.lemmas.List.{append-nil}
use Rattle.std.proofs.lemmas.Bool.{cases_eq}
use Rattle.claim_model.specs.Context.{Context}
use Rattle.claim_model.specs.Laws.{Laws}
use Rattle.claim_model.specs.Numbered.{numbered}
use Rattle.claim_model.specs.Node.{Node, Pharmacy, Payer}
use Rattle.claim_model.specs.Settings.{WorldSettings, Accepts, opening}
use Rattle.claim_model.specs.Logs.{Logged}
use Rattle.crash_safety.specs.Network.{Process, Network, file, put, beginning}
use Rattle.crash_safety.specs.Explained.{Turn}
use Rattle.crash_safety.specs.Handing.{Happening, handing, OrdersFiles}
use Rattle.crash_safety.proofs.Sound.{at_each}
use Rattle.crash_safety.proofs.Finishing.{same_file, nothing_left, UpTo, below, named_pharmacy, named_payer, all_synced}
use Rattle.crash_safety.proofs.Sources.{NoSwitch}
use Rattle.crash_safety.proofs.Handed.{IsOrdered}
use Rattle.crash_safety.proofs.Happening.{sync_one, happens_all, begins_ordered, orders}

-- a later network with the same files, in which these nodes have nothing that is not synced
record Finished (ctx : Context) (s : WorldSettings) (n : Network) (turns : List Turn) (P : Node → Type 0) : Type 0 where
  last : Network
  more : List Turn
  ordered : IsOrdered ctx s last (turns ++ more)
  files : (node : Node) → file (last.at node) ≡ file (n.at node)
  stays : (node : Node) → (n.at node).unsynced ≡ [] → (last.at node).unsynced ≡ []
  all : (node : Node) → P node → (last.at node).unsynced ≡ []

then : (ctx : Context) (s : WorldSettings) (n : Network) (turns : List Turn) (P Q : Node → Type 0) (f : Finished ctx s n turns P) → Finished ctx s f.last (turns ++ f.more) Q → Finished ctx s n turns (λ (x : Node). P x ⊎ Q x)
then ctx s n turns P Q f g = record {
  last = g.last;
  more = f.more ++ g.more;
  ordered = subst (IsOrdered ctx s g.last) (append_assoc turns f.more g.more) g.ordered;
  files = λ node. g.files node ∙ f.files node;
  stays = λ node e. g.stays node (f.stays node e);
  all = λ node e. elim e [ inl p ↦ g.stays node (f.all node p) | inr q ↦ g.all node q ];
}

finish_node : (ctx : Context) (s : WorldSettings) (n : Network) (turns : List Turn) (node : Node) (left : List Logged) → IsOrdered ctx s n turns → NoSwitch node → (n.at node).unsynced ≡ left → Finished ctx s n turns (λ (x : Node). node ≡ x)
finish_node ctx s n turns node [] i d e = record {
  last = n;
  more = [];
  ordered = subst (IsOrdered ctx s n) (sym (append-nil turns)) i;
  files = λ x. refl;
  stays = λ x f. f;
  all = λ x same. subst (λ (y : Node). (n.at y).unsynced ≡ []) same e;
}
finish_node ctx s n turns node (l ∷ more) i d e =
    let p = n.at node in
    let next : Process = record { memory = p.memory; synced = p.synced ++ l ∷ []; unsynced = more } in
    let m = put n node next in
    let one = sync_one ctx s n turns node l more i d e in
    let own : (m.at node).unsynced ≡ more = at_each (λ (x : Node) (q : Process). node ≡ x → q.unsynced ≡ more) n node next (λ same. refl) (λ other f same. absurd (f same)) node refl in
    let rest = finish_node ctx s m (turns ++ one.more) node more one.ordered d own in
    record {
      last = rest.last;
      more = one.more ++ rest.more;
      ordered = subst (IsOrdered ctx s rest.last) (append_assoc turns one.more rest.more) rest.ordered;
      files = λ x. rest.files x ∙ at_each (λ (y : Node) (q : Process). file q ≡ file (n.at y)) n node next (same_file p l more e) (λ other f. refl) x;
      stays = λ x f. rest.stays x (at_each (λ (y : Node) (q : Process). (n.at y).unsynced ≡ [] → q.unsynced ≡ []) n node next (nothing_left p l more (more ≡ []) e) (λ other g h. h) x f);
      all = rest.all;
    }

finish_kind : (ctx : Context) (s : WorldSettings) (n : Network) (turns : List Turn) (kind : ℕ → Node) (most : ℕ) → IsOrdered ctx s n turns → ((k : ℕ) → NoSwitch (kind k)) → Finished ctx s n turns (UpTo kind most)
finish_kind ctx s n turns kind zero i d =
    let f = finish_node ctx s n turns (kind zero) (n.at (kind zero)).unsynced i (d zero) refl in
    record {
      last = f.last;
      more = f.more;
      ordered = f.ordered;
      files = f.files;
      stays = f.stays;
      all = λ node e. let none : e.0 ≡ zero = omega (arith, e.1) in f.all node (ap kind (sym none) ∙ e.2);
    }
finish_kind ctx s n turns kind (suc most) i d =
    let f = finish_kind ctx s n turns kind most i d in
    let g = finish_node ctx s f.last (turns ++ f.more) (kind (suc most)) (f.last.at (kind (suc most))).unsynced f.ordered (d (suc most)) refl in
    let both = then ctx s n turns (UpTo kind most) (λ (x : Node). kind (suc most) ≡ x) f g in
    record {
      last = both.last;
      more = both.more;
      ordered = both.ordered;
      files = both.files;
      stays = both.stays;
      all = λ node e. elim (cases_eq e.0 (suc most)) [
        | inl same ↦ both.all node (inr (ap kind (sym same) ∙ e.2))
        | inr other ↦ both.all node (inl (e.0, below e.0 most e.1 other, e.2))
      ];
    }

-- pharmacies and payers

abbrev IsNamed : WorldSettings → Node → Type 0
IsNamed s node = UpTo Pharmacy (length (opening s).pharmacies) node ⊎ UpTo Payer (length (opening s).payers) node

pharmacy_done : (ctx : Context) (s : WorldSettings) (n : Network) (turns : List Turn) (f : Finished ctx s n turns (IsNamed s)) (k : ℕ) → (f.last.at (Pharmacy k)).unsynced ≡ []
pharmacy_done ctx s n turns f k = elim (named_pharmacy (opening s).pharmacies k (numbered (opening s).pharmacies k) refl) [
  | inl none ↦ (f.ordered.each (Pharmacy k) (λ m e. cc)).nobody none
  | inr named ↦ f.all (Pharmacy k) (inl named)
]

payer_done : (ctx : Context) (s : WorldSettings) (n : Network) (turns : List Turn) (f : Finished ctx s n turns (IsNamed s)) (k : ℕ) → (f.last.at (Payer k)).unsynced ≡ []
payer_done ctx s n turns f k = elim (named_payer (opening s).payers k (numbered (opening s).payers k) refl) [
  | inl none ↦ (f.ordered.each (Payer k) (λ m e. cc)).nobody none
  | inr named ↦ f.all (Payer k) (inr named)
]

filed : (ctx : Context) (s : WorldSettings) (n : Network) (turns : List Turn) → IsOrdered ctx s n turns → Finished ctx s n turns (IsNamed s) → OrdersFiles ctx s n
filed ctx s n turns i f = record {
  turns = turns;
  more = f.more;
  disks = orders ctx s n turns i;
  order = f.ordered.order;
  pharmacies = λ k. f.ordered.logs (Pharmacy k) (λ m e. cc) ∙ (all_synced (f.last.at (Pharmacy k)) (pharmacy_done ctx s n turns f k) ∙ f.files (Pharmacy k));
  payers = λ k. f.ordered.logs (Payer k) (λ m e. cc) ∙ (all_synced (f.last.at (Payer k)) (payer_done ctx s n turns f k) ∙ f.files (Payer k));
}

finish_all : (ctx : Context) (s : WorldSettings) (n : Network) (turns : List Turn) → IsOrdered ctx s n turns → Finished ctx s n turns (IsNamed s)
finish_all ctx s n turns i =
    let f = finish_kind ctx s n turns Pharmacy (length (opening s).pharmacies) i (λ k m e. cc) in
    let g = finish_kind ctx s f.last (turns ++ f.more) Payer (length (opening s).payers) f.ordered (λ k m e. cc) in
    then ctx s n turns (UpTo Pharmacy (length (opening s).pharmacies)) (UpTo Payer (length (opening s).payers)) f g

pub files_orders : (ctx : Context) (s : WorldSettings) (all : List Happening) → Laws ctx → Accepts ctx s → OrdersFiles ctx s (handing ctx s all)
files_orders ctx s all laws accepts =
    let x = happens_all ctx s beginning [] all laws accepts (begins_ordered ctx s) in
    filed ctx s (handing ctx s all) x.more x.ordered (finish_all ctx s (handing ctx s all) x.more x.ordered)
