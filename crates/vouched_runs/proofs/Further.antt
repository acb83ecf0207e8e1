-- What nodes have after further calls: every entry and row that they had, and so all that they vouched for.
use Rattle.std.proofs.Common.{◌≡◌, ℕ, List, [], ◌∷◌, Option, Some, refl, ap, ◌∙◌, subst}
use Rattle.std.specs.Prelude.{option_map, option_and_then}
use Rattle.claim_model.specs.Context.{Context}
use Rattle.claim_model.specs.Readable.{same_id}
use Rattle.claim_model.specs.Numbered.{numbered}
use Rattle.claim_model.specs.Rows.{Row, Book}
use Rattle.claim_model.specs.Book.{row_of}
use Rattle.claim_model.specs.Journal.{Journal, JournalAtRest, Kept}
use Rattle.claim_model.specs.Node.{Node, Pharmacy, Payer, Power, Outcome, Done, Refused, pharmacy_step, payer_step}
use Rattle.claim_model.specs.World.{World}
use Rattle.claim_model.specs.Nodes.{AnyNode, OfPharmacy, OfPayer, as_node, node_at}
use Rattle.claim_model.specs.Logs.{Logged, node_after, replay}
use Rattle.claim_model.specs.Held.{journal_in, book_in, journal_at, book_at, entry_of}
use Rattle.claim_model.proofs.Lists.{find_append}
use Rattle.claim_model.proofs.Options.{map_some, then_some}
use Rattle.claim_model.proofs.Sound.{Later, later_from}
use Rattle.claim_model.proofs.Books.{payer_moves}
use Rattle.claim_model.proofs.Stays.{Goes_on, on_same, on_trans, pharmacy_on, Rows_on, rows_same, rows_trans, moves_on, Stays}
use Rattle.vouched_runs.specs.Parties.{Parties, world_of}

-- ---- a pharmacy after the calls of a log

record PharmacyOn (ctx : Context) (s : Power Journal JournalAtRest) (log : List Logged) : Type 0 where
  end : Power Journal JournalAtRest
  is : replay ctx (OfPharmacy s) log ≡ OfPharmacy end
  on : Goes_on (journal_in s) (journal_in end)

pharmacy_called : (ctx : Context) (s : Power Journal JournalAtRest) (l : Logged) (log : List Logged) (o : Outcome (Power Journal JournalAtRest)) → pharmacy_step ctx s l.call ≡ o
    → ((t : Power Journal JournalAtRest) → PharmacyOn ctx t log) → PharmacyOn ctx s (l ∷ log)
pharmacy_called ctx s l log (Refused why) e go =
    let g = go s in
    record { end = g.end; is = ap (λ (o : Outcome (Power Journal JournalAtRest)). replay ctx (node_after (OfPharmacy s) (as_node OfPharmacy o)) log) e ∙ g.is; on = g.on }
pharmacy_called ctx s l log (Done next sent) e go =
    let g = go next in
    record {
      end = g.end;
      is = ap (λ (o : Outcome (Power Journal JournalAtRest)). replay ctx (node_after (OfPharmacy s) (as_node OfPharmacy o)) log) e ∙ g.is;
      on = on_trans (journal_in s) (journal_in next) (journal_in g.end) (pharmacy_on ctx s next l.call sent e) g.on;
    }

pharmacy_replayed : (ctx : Context) (log : List Logged) (s : Power Journal JournalAtRest) → PharmacyOn ctx s log
pharmacy_replayed ctx [] s = record { end = s; is = refl; on = on_same (journal_in s) }
pharmacy_replayed ctx (l ∷ log) s = pharmacy_called ctx s l log (pharmacy_step ctx s l.call) refl (pharmacy_replayed ctx log)

-- ---- and a payer

record PayerOn (ctx : Context) (s : Power Book Book) (log : List Logged) : Type 0 where
  end : Power Book Book
  is : replay ctx (OfPayer s) log ≡ OfPayer end
  on : Rows_on (book_in s) (book_in end)

payer_called : (ctx : Context) (s : Power Book Book) (l : Logged) (log : List Logged) (o : Outcome (Power Book Book)) → payer_step ctx s l.call ≡ o → ((t : Power Book Book) → PayerOn ctx t log) → PayerOn ctx s (l ∷ log)
payer_called ctx s l log (Refused why) e go =
    let g = go s in
    record { end = g.end; is = ap (λ (o : Outcome (Power Book Book)). replay ctx (node_after (OfPayer s) (as_node OfPayer o)) log) e ∙ g.is; on = g.on }
payer_called ctx s l log (Done next sent) e go =
    let g = go next in
    record {
      end = g.end;
      is = ap (λ (o : Outcome (Power Book Book)). replay ctx (node_after (OfPayer s) (as_node OfPayer o)) log) e ∙ g.is;
      on = rows_trans (book_in s) (book_in next) (book_in g.end) (moves_on ctx (book_in s) (book_in next) (payer_moves ctx s next l.call sent e)) g.on;
    }

payer_replayed : (ctx : Context) (log : List Logged) (s : Power Book Book) → PayerOn ctx s log
payer_replayed ctx [] s = record { end = s; is = refl; on = rows_same (book_in s) }
payer_replayed ctx (l ∷ log) s = payer_called ctx s l log (payer_step ctx s l.call) refl (payer_replayed ctx log)

-- ---- parties

-- each node of the later parties is the replay of some calls over what it was
abbrev pub IsFurther : Context → Parties → Parties → Type 0
IsFurther ctx v r = (node : Node) → (log : List Logged) × (node_at (world_of r) node ≡ option_map (λ (s : AnyNode). replay ctx s log) (node_at (world_of v) node))

same_pharmacies : (s t : Power Journal JournalAtRest) → OfPharmacy s ≡ OfPharmacy t → s ≡ t
same_pharmacies s t e = cc

same_payers : (s t : Power Book Book) → OfPayer s ≡ OfPayer t → s ≡ t
same_payers s t e = cc

journal_stays : (ctx : Context) (v r : Parties) → IsFurther ctx v r → (n : ℕ) (j : JournalAtRest) → journal_at (world_of v) n ≡ Some j → (k : JournalAtRest) × (journal_at (world_of r) n ≡ Some k) × Goes_on j k
journal_stays ctx v r further n j h =
    let s = map_some journal_in (numbered v.pharmacies n) j h in
    let f = further (Pharmacy n) in
    let g = pharmacy_replayed ctx f.0 s.0 in
    let was : option_map OfPharmacy (numbered v.pharmacies n) ≡ Some (OfPharmacy s.0) = ap (option_map OfPharmacy) s.1 in
    let there : option_map OfPharmacy (numbered r.pharmacies n) ≡ Some (OfPharmacy g.end) =
    f.1 ∙ (ap (option_map (λ (x : AnyNode). replay ctx x f.0)) was ∙ ap (λ (x : AnyNode). Some x) g.is) in
    let t = map_some OfPharmacy (numbered r.pharmacies n) (OfPharmacy g.end) there in
    let same : t.0 ≡ g.end = same_pharmacies t.0 g.end t.2 in
    (journal_in g.end, ap (option_map journal_in) t.1 ∙ ap (λ (x : Power Journal JournalAtRest). Some (journal_in x)) same, subst (λ (y : JournalAtRest). Goes_on y (journal_in g.end)) s.2 g.on)

book_stays : (ctx : Context) (v r : Parties) → IsFurther ctx v r → (n : ℕ) (b : Book) → book_at (world_of v) n ≡ Some b → (c : Book) × (book_at (world_of r) n ≡ Some c) × Rows_on b c
book_stays ctx v r further n b h =
    let s = map_some book_in (numbered v.payers n) b h in
    let f = further (Payer n) in
    let g = payer_replayed ctx f.0 s.0 in
    let was : option_map OfPayer (numbered v.payers n) ≡ Some (OfPayer s.0) = ap (option_map OfPayer) s.1 in
    let there : option_map OfPayer (numbered r.payers n) ≡ Some (OfPayer g.end) =
    f.1 ∙ (ap (option_map (λ (x : AnyNode). replay ctx x f.0)) was ∙ ap (λ (x : AnyNode). Some x) g.is) in
    let t = map_some OfPayer (numbered r.payers n) (OfPayer g.end) there in
    let same : t.0 ≡ g.end = same_payers t.0 g.end t.2 in
    (book_in g.end, ap (option_map book_in) t.1 ∙ ap (λ (x : Power Book Book). Some (book_in x)) same, subst (λ (y : Book). Rows_on y (book_in g.end)) s.2 g.on)

stays_later : (ctx : Context) (w v : World) → Stays w v → Later ctx w v
stays_later ctx w v s =
    later_from ctx w v
    (λ id text h.
    let e = map_some (λ (k : Kept). k.request) (entry_of w id) text h in
    let j = then_some (λ (q : JournalAtRest). numbered q.entries id.number) (journal_at w id.pharmacy) e.0 e.1 in
    let k = s.journals id.pharmacy j.0 j.1 in
    let f = k.2.entries id.number e.0 j.2 in
    ap (λ (o : Option JournalAtRest). option_map (λ (q : Kept). q.request) (option_and_then (λ (q : JournalAtRest). numbered q.entries id.number) o)) k.1
    ∙ (ap (option_map (λ (q : Kept). q.request)) f.stands ∙ ap (λ (x : List ℕ). Some x) (f.request ∙ e.2)))
    (λ id n row h.
    let b = then_some (λ (q : Book). row_of id q.rows) (book_at w n) row h in
    let c = s.books n b.0 b.1 in
    ap (option_and_then (λ (q : Book). row_of id q.rows)) c.1
    ∙ (ap (row_of id) c.2.rows ∙ find_append (λ (x : Row). same_id x.id id) b.0.rows c.2.more row b.2))

pub further_later : (ctx : Context) (v r : Parties) → IsFurther ctx v r → Later ctx (world_of v) (world_of r)
further_later ctx v r further = stays_later ctx (world_of v) (world_of r) (record { journals = journal_stays ctx v r further; books = book_stays ctx v r further })
