-- Parties with which logs begin say by themselves what nodes keep: each is as the settings open it, or was read from a record.
use Rattle.std.proofs.Common.{◌≡◌, ℕ, zero, suc, ◌+◌, ◌≤◌, Bool, true, false, cond, List, [], Option, Some, None, Result, Ok, Err, refl, sym, ap, ◌∙◌, subst, arith}
use Rattle.std.specs.Prelude.{option_map, IsSome}
use Rattle.std.specs.Result.{result_ok}
use Rattle.std.specs.Global.{Vec}
use Rattle.bin_routes.specs.Table.{RouteMaps}
use Rattle.claim_model.specs.Laws.{Laws}
use Rattle.claim_model.specs.Bytes.{bytes_with}
use Rattle.claim_model.specs.Numbered.{numbered}
use Rattle.claim_model.specs.Rows.{BookSettings, Book}
use Rattle.claim_model.specs.Journal.{PharmacySettings, Journal, JournalAtRest, started}
use Rattle.claim_model.specs.Node.{Node, Pharmacy, Payer, Power, Up}
use Rattle.claim_model.specs.Nodes.{AnyNode, OfPharmacy, OfPayer, node_at, same_node}
use Rattle.claim_model.specs.Logs.{NodeLog}
use Rattle.claim_model.specs.Interleavings.{HasLog}
use Rattle.claim_model.specs.Settings.{PayerSettings, Accepts, payers_from, opening}
use Rattle.claim_model.specs.Settings as model
use Rattle.claim_model.specs.Held as held
use Rattle.claim_model.proofs.Lists.{all_from}
use Rattle.claim_model.proofs.Options.{map_some}
use Rattle.claim_model.proofs.Given.{payer_given}
use Rattle.claim_model.proofs.Journals.{started_same}
use Rattle.claim_model.proofs.Sound.{SoundJournal}
use Rattle.claim_model.proofs.Runs.{payer_opens, opening_sound}
use Rattle.kept_records.specs.Journals.{journal_in}
use Rattle.kept_records.specs.Books.{book_in}
use Rattle.world_setup.specs.Seen.{settings_seen}
use Rattle.world_setup.specs.declared.settings.WorldSettings.{WorldSettings}
use Rattle.node_state.specs.Resting.{resumed, resumed_pharmacy, resumed_payer}
use Rattle.kept_logs.specs.Rests.{Rest, rest_in, begun_from, begins}
use Rattle.vouched_runs.specs.Parties.{Parties, world_of}
use Rattle.vouched_runs.specs.Days.{OneForEach}
use Rattle.vouched_runs.specs.Agreeing.{IsOwnEntry, IsKeptJournal, IsKeptBook, AreKept}
use Rattle.days_audit.specs.Begun.{rest_at, BeginWith}
use Rattle.days_audit.proofs.ReadStates.{OnlyStanding, IsReadJournal, is_read_journal, IsReadBook, is_read_book}

was_ok : {A E : Type 0} (r : Result A E) (x : A) → result_ok r ≡ Some x → r ≡ Ok x
was_ok (Ok y) x h = cc
was_ok (Err e) x h = absurd cc

same_pharmacy : (s t : Power Journal JournalAtRest) → OfPharmacy s ≡ OfPharmacy t → s ≡ t
same_pharmacy s t e = cc

same_payer : (s t : Power Book Book) → OfPayer s ≡ OfPayer t → s ≡ t
same_payer s t e = cc

module _ (routes : RouteMaps) (settings : model.WorldSettings) where
  -- ---- a pharmacy

  opened_journal : (n : ℕ) (s : Power Journal JournalAtRest) → node_at (opening settings) (Pharmacy n) ≡ Some (OfPharmacy s) → IsKeptJournal (bytes_with routes) settings n (held.journal_in s)
  opened_journal n s e =
      let t = map_some OfPharmacy (numbered (opening settings).pharmacies n) (OfPharmacy s) e in
      let x : SoundJournal (bytes_with routes) settings (opening settings) n (held.journal_in s) =
      subst (λ (y : Power Journal JournalAtRest). SoundJournal (bytes_with routes) settings (opening settings) n (held.journal_in y)) (same_pharmacy t.0 s t.2) ((opening_sound (bytes_with routes) settings).pharmacies n t.0 t.1) in
      let j : JournalAtRest = held.journal_in s in
      record {
        number = x.number;
        as_given = x.settings;
        room = x.room;
        entries = all_from (IsOwnEntry (bytes_with routes) j.settings) j.entries (λ k f at. let y = x.entries k f at in record { header = y.header; reads = y.reads; own = y.own });
      }

  resumed_journal : (n : ℕ) (bytes : List ℕ) (s : Power Journal JournalAtRest) (o : Option PharmacySettings) → numbered settings.pharmacies n ≡ o → resumed_pharmacy n bytes o ≡ Some (OfPharmacy s)
      → IsKeptJournal (bytes_with routes) settings n (held.journal_in s)
  resumed_journal n bytes s None is e = absurd cc
  resumed_journal n bytes s (Some given) is e =
      let t = map_some (λ (j : JournalAtRest). OfPharmacy (Up (started j))) (result_ok (journal_in n given bytes)) (OfPharmacy s) e in
      let j : JournalAtRest = t.0 in
      let x : IsReadJournal routes n given j = is_read_journal routes n given bytes j (was_ok (journal_in n given bytes) j t.1) in
      let up : Up (started j) ≡ s = same_pharmacy (Up (started j)) s t.2 in
      let same : j ≡ held.journal_in s = sym (started_same j) ∙ ap held.journal_in up in
      let found : IsKeptJournal (bytes_with routes) settings n j = record { number = x.of_number; as_given = is ∙ ap (λ (y : PharmacySettings). Some y) (sym x.of_settings); room = x.room; entries = x.entries } in
      subst (IsKeptJournal (bytes_with routes) settings n) same found

  -- ---- a payer

  opened_payer : (n : ℕ) (s : Power Book Book) → numbered (payers_from 1 settings.payers) n ≡ Some s → IsKeptBook (bytes_with routes) settings n (held.book_in s)
  opened_payer zero s e = absurd cc
  opened_payer (suc k) s e =
      let r = payer_opens 1 settings.payers k s e in
      let n : 1 + k ≡ suc k = omega arith in
      let t : s ≡ Up (record { payer = suc k; settings = r.0.book; plan = r.0.plan; rows = [] }) = r.2 ∙ ap (λ (x : ℕ). Up (record { payer = x; settings = r.0.book; plan = r.0.plan; rows = [] })) n in
      let given : option_map (λ (p : PayerSettings). p.book) (numbered settings.payers (suc k)) ≡ Some r.0.book = ap (option_map (λ (p : PayerSettings). p.book)) r.1 in
      subst (λ (y : Power Book Book). IsKeptBook (bytes_with routes) settings (suc k) (held.book_in y)) (sym t) (record { payer = refl; as_given = given; rows = tt })

  opened_book : (n : ℕ) (s : Power Book Book) → node_at (opening settings) (Payer n) ≡ Some (OfPayer s) → IsKeptBook (bytes_with routes) settings n (held.book_in s)
  opened_book n s e =
      let t = map_some OfPayer (numbered (opening settings).payers n) (OfPayer s) e in
      subst (λ (y : Power Book Book). IsKeptBook (bytes_with routes) settings n (held.book_in y)) (same_payer t.0 s t.2) (opened_payer n t.0 t.1)

  resumed_book : OnlyStanding → Laws (bytes_with routes) → Accepts (bytes_with routes) settings → (n : ℕ) (bytes : List ℕ) (s : Power Book Book) (o : Option PayerSettings) → numbered settings.payers n ≡ o → resumed_payer n bytes o ≡ Some (OfPayer s)
      → IsKeptBook (bytes_with routes) settings n (held.book_in s)
  resumed_book only laws accepts n bytes s None is e = absurd cc
  resumed_book only laws accepts n bytes s (Some given) is e =
      let t = map_some (λ (b : Book). OfPayer (Up b)) (result_ok (book_in n given.book bytes)) (OfPayer s) e in
      let b : Book = t.0 in
      let g = payer_given (bytes_with routes) settings n given accepts is in
      let few : n ≤ 4096 = g.1 in
      let x : IsReadBook routes n given.book b = is_read_book only routes laws n given.book bytes b g.0 (omega (arith, few)) g.2.serial (was_ok (book_in n given.book bytes) b t.1) in
      let same : b ≡ held.book_in s = ap held.book_in (same_payer (Up b) s t.2) in
      let as_given : option_map (λ (p : PayerSettings). p.book) (numbered settings.payers n) ≡ Some b.settings = ap (option_map (λ (p : PayerSettings). p.book)) is ∙ ap (λ (y : BookSettings). Some y) (sym x.of_settings) in
      let found : IsKeptBook (bytes_with routes) settings n b = record { payer = x.of_payer; as_given = as_given; rows = x.rows } in
      subst (IsKeptBook (bytes_with routes) settings n) same found

-- ---- with what a log begins

by_name : (t : Bool) (o : Option AnyNode) (x : AnyNode) → cond t o None ≡ Some x → o ≡ Some x
by_name true o x e = e
by_name false o x e = absurd cc

record FromRecord (s : model.WorldSettings) (node : Node) (x : AnyNode) : Type 0 where
  bytes : List ℕ
  is : resumed s node bytes ≡ Some x

from_record : (s : model.WorldSettings) (node : Node) (x : AnyNode) (o : Option Rest) → begun_from s node o ≡ Some x → FromRecord s node x
from_record s node x None e = absurd cc
from_record s node x (Some r) e = record { bytes = r.kept; is = by_name (same_node r.node node) (resumed s node r.kept) x e }

module _ (routes : RouteMaps) (s : WorldSettings) where
  journal_begun : (n : ℕ) (x : Power Journal JournalAtRest) (rest : Option (List ℕ)) → begins s (Pharmacy n) rest ≡ Some (OfPharmacy x) → IsKeptJournal (bytes_with routes) (settings_seen s) n (held.journal_in x)
  journal_begun n x None e = opened_journal routes (settings_seen s) n x e
  journal_begun n x (Some rest) e =
      let r = from_record (settings_seen s) (Pharmacy n) (OfPharmacy x) (rest_in rest) e in
      resumed_journal routes (settings_seen s) n r.bytes x (numbered (settings_seen s).pharmacies n) refl r.is

  book_begun : OnlyStanding → Laws (bytes_with routes) → Accepts (bytes_with routes) (settings_seen s) → (n : ℕ) (x : Power Book Book) (rest : Option (List ℕ)) → begins s (Payer n) rest ≡ Some (OfPayer x)
      → IsKeptBook (bytes_with routes) (settings_seen s) n (held.book_in x)
  book_begun only laws accepts n x None e = opened_book routes (settings_seen s) n x e
  book_begun only laws accepts n x (Some rest) e =
      let r = from_record (settings_seen s) (Payer n) (OfPayer x) (rest_in rest) e in
      resumed_book routes (settings_seen s) only laws accepts n r.bytes x (numbered (settings_seen s).payers n) refl r.is

-- ---- all parties

record NodeBegins (s : WorldSettings) (node : Node) (x : AnyNode) : Type 0 where
  rest : Option (List ℕ)
  is : begins s node rest ≡ Some x

module _ (s : WorldSettings) (rests : List (Option (Vec ℕ))) (logs : List NodeLog) (p : Parties) (begin : BeginWith s rests logs p) (one : OneForEach p logs) where
  log_begins : (node : Node) (x : AnyNode) → node_at (world_of p) node ≡ Some x → (number : ℕ) (log : NodeLog) → numbered logs number ≡ Some log → log.node ≡ node → NodeBegins s node x
  log_begins node x there zero log at names = absurd cc
  log_begins node x there (suc place) log at names =
      let each : node_at (world_of p) node ≡ begins s node (rest_at rests place) = subst (λ (n : Node). node_at (world_of p) n ≡ begins s n (rest_at rests place)) names (begin.each place log at) in
      record { rest = rest_at rests place; is = sym each ∙ there }

  node_begins : (node : Node) (x : AnyNode) → node_at (world_of p) node ≡ Some x → NodeBegins s node x
  node_begins node x there =
      let has : HasLog logs node = one.each node (subst IsSome (sym there) refl) in
      log_begins node x there has.number has.log has.at has.names

  pub begun_kept : OnlyStanding → (routes : RouteMaps) → Laws (bytes_with routes) → Accepts (bytes_with routes) (settings_seen s) → AreKept (bytes_with routes) (settings_seen s) p
  begun_kept only routes laws accepts =
      record {
        journals = λ n j there.
            let t = map_some held.journal_in (numbered p.pharmacies n) j there in
            let b = node_begins (Pharmacy n) (OfPharmacy t.0) (ap (option_map OfPharmacy) t.1) in
            subst (IsKeptJournal (bytes_with routes) (settings_seen s) n) t.2 (journal_begun routes s n t.0 b.rest b.is);
        books = λ n c there.
            let t = map_some held.book_in (numbered p.payers n) c there in
            let b = node_begins (Payer n) (OfPayer t.0) (ap (option_map OfPayer) t.1) in
            subst (IsKeptBook (bytes_with routes) (settings_seen s) n) t.2 (book_begun routes s only laws accepts n t.0 b.rest b.is);
      }
