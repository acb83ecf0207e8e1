-- What journals and books had decided stays decided, whatever events come.
use Rattle.std.proofs.Common.{◌≡◌, ℕ, List, [], ◌∷◌, ◌++◌, map, Option, Some, None, Result, Ok, Err, refl, sym, ap, ◌∙◌, subst, inl, inr, append_assoc}
use Rattle.std.specs.Prelude.{option_map}
use Rattle.std.proofs.lemmas.List.{append-nil}
use Rattle.std.proofs.lemmas.Bool.{cases_eq}
use Rattle.claim_model.specs.Words.{Envelope, EnvelopeFault}
use Rattle.claim_model.specs.Context.{Context}
use Rattle.claim_model.specs.Numbered.{numbered, renumbered}
use Rattle.claim_model.specs.Rows.{Row, Book}
use Rattle.claim_model.specs.Book.{new_row}
use Rattle.claim_model.specs.Journal.{RetryRule, Journal, JournalAtRest, Kept, submitted, ticked, due, heard, stopped, started, is_rule, with_rule, ruled_anew}
use Rattle.claim_model.specs.Node.{Power, Up, AtRest, Sent, Call, Submit, Tick, Take, Stop, Start, Revise, OfPlan, OfRule, OfCap, Adjudicate, Outcome, Done, Refused, to_switch, pharmacy_takes, pharmacy_step}
use Rattle.claim_model.specs.World.{World, Event, step, world_after, run}
use Rattle.claim_model.specs.Held.{journal_in, book_in, journal_at, book_at}
use Rattle.claim_model.specs.Promises.{EntryStays, StaysDecided}
use Rattle.claim_model.proofs.Lists.{numbered_put, numbered_put_other, numbered_append}
use Rattle.claim_model.proofs.Options.{same_some}
use Rattle.claim_model.proofs.Journals.{entry_added, entry_settled, Settles, submitted_enters, ticked_same, started_same, ruled_same, heard_settles}
use Rattle.claim_model.proofs.PharmacyStep.{done_same, rule_taken, after_submit_done, after_hearing_done}
use Rattle.claim_model.proofs.Runs.{Step, At_pharmacy, At_switch, At_payer, event_made}
use Rattle.claim_model.proofs.Books.{BookMoves, Same, Adds, payer_moves}

-- journals

-- a journal after a call has every entry that it had
pub record Goes_on (j after : JournalAtRest) : Type 0 where
  pub number : after.number ≡ j.number
  pub settings : after.settings ≡ j.settings
  pub entries : (k : ℕ) (e : Kept) → numbered j.entries k ≡ Some e → EntryStays after k e

pub on_same : (j : JournalAtRest) → Goes_on j j
on_same j = record { number = refl; settings = refl; entries = λ k e h. record { entry = e; stands = h; request = refl; answer = λ a f. f } }

on_equal : (j after : JournalAtRest) → after ≡ j → Goes_on j after
on_equal j after e = subst (Goes_on j) (sym e) (on_same j)

pub on_trans : (i j k : JournalAtRest) → Goes_on i j → Goes_on j k → Goes_on i k
on_trans i j k f g =
    record {
      number = g.number ∙ f.number;
      settings = g.settings ∙ f.settings;
      entries = λ n e h.
          let a = f.entries n e h in
          let b = g.entries n a.entry a.stands in
          record { entry = b.entry; stands = b.stands; request = b.request ∙ a.request; answer = λ x y. b.answer x (a.answer x y) };
    }

on_added : (j : JournalAtRest) (text : List ℕ) → Goes_on j (entry_added j text)
on_added j text = record { number = refl; settings = refl; entries = λ k e h. record { entry = e; stands = numbered_append j.entries _ k e h; request = refl; answer = λ a f. f } }

on_ruled : (j : JournalAtRest) (rule : RetryRule) → Goes_on j (with_rule rule j)
on_ruled j rule = record { number = refl; settings = refl; entries = λ k e h. record { entry = e; stands = h; request = refl; answer = λ a f. f } }

on_settled : (j : JournalAtRest) (number : ℕ) (e : Kept) (answer : List ℕ) → numbered j.entries number ≡ Some e → e.answer ≡ None → Goes_on j (entry_settled j number e answer)
on_settled j number e answer stands is_open =
    record {
      number = refl;
      settings = refl;
      entries = λ k f h. elim (cases_eq number k) [
        | inl same ↦
            let there : numbered (renumbered j.entries number (record { request = e.request; answer = Some answer })) k ≡ Some (record { request = e.request; answer = Some answer }) =
            subst (λ (m : ℕ). numbered (renumbered j.entries number (record { request = e.request; answer = Some answer })) m ≡ Some (record { request = e.request; answer = Some answer })) same (numbered_put j.entries number e _ stands) in
            let old : e ≡ f = same_some e f (sym stands ∙ (ap (numbered j.entries) same ∙ h)) in
            record {
              entry = record { request = e.request; answer = Some answer };
              stands = there;
              request = ap (λ (q : Kept). q.request) old;
              answer = λ a g. absurd (none_some (sym is_open ∙ (ap (λ (q : Kept). q.answer) old ∙ g)));
            }
        | inr other ↦ record { entry = f; stands = numbered_put_other j.entries number k _ other ∙ h; request = refl; answer = λ a g. g }
      ];
    }
  where
    none_some : {a : List ℕ} → ◌≡◌ {A = Option (List ℕ)} None (Some a) → ⊥
    none_some h = cc

takes_on : (ctx : Context) (j : Journal) (r : Result Envelope EnvelopeFault) (next : Power Journal JournalAtRest) (sent : List Sent) → pharmacy_takes ctx j r ≡ Done next sent → Goes_on (stopped j) (journal_in next)
takes_on ctx j (Err f) next sent e = absurd cc
takes_on ctx j (Ok env) next sent e =
    let d = after_hearing_done (heard ctx j env) next sent e in
    let h = heard_settles ctx j env d.0 d.1 in
    let s : Settles ctx (stopped j) env.id.number env.payload (stopped d.0) = h.0 in
    let on : Goes_on (stopped j) (stopped d.0) = subst (Goes_on (stopped j)) (sym s.is) (on_settled (stopped j) env.id.number s.entry env.payload s.stands s.is_open) in
    subst (λ y. Goes_on (stopped j) (journal_in y)) (sym d.2) on

pub pharmacy_on : (ctx : Context) (s next : Power Journal JournalAtRest) (call : Call) (sent : List Sent) → pharmacy_step ctx s call ≡ Done next sent → Goes_on (journal_in s) (journal_in next)
pharmacy_on ctx (Up j) next (Submit text) sent e =
    let d = after_submit_done (submitted ctx j text) next sent e in
    let f = submitted_enters ctx j text d.0 d.1 in
    subst (λ y. Goes_on (stopped j) (journal_in y)) (sym d.2) (subst (Goes_on (stopped j)) (sym f.1) (on_added (stopped j) text))
pharmacy_on ctx (Up j) next Tick sent e =
    let d = done_same (Up (ticked j)) next (map to_switch (due ctx (ticked j))) sent e in
    subst (λ y. Goes_on (stopped j) (journal_in y)) d.0 (on_equal (stopped j) (stopped (ticked j)) (ticked_same j))
pharmacy_on ctx (Up j) next (Take from bytes) sent e = takes_on ctx j (ctx.read_envelope bytes) next sent e
pharmacy_on ctx (Up j) next Stop sent e = subst (λ y. Goes_on (stopped j) (journal_in y)) (done_same (AtRest (stopped j)) next [] sent e).0 (on_same (stopped j))
pharmacy_on ctx (AtRest j) next Start sent e = subst (λ y. Goes_on j (journal_in y)) (done_same (Up (started j)) next [] sent e).0 (on_equal j (stopped (started j)) (started_same j))
pharmacy_on ctx (Up j) next Start sent e = absurd cc
pharmacy_on ctx (Up j) next (Revise (OfPlan change)) sent e = absurd cc
pharmacy_on ctx (Up j) next (Revise (OfRule rule)) sent e =
    let d = rule_taken (is_rule ctx.switches rule) (Up (ruled_anew rule j)) next [] sent e in
    subst (λ y. Goes_on (stopped j) (journal_in y)) d.1 (subst (Goes_on (stopped j)) (sym (ruled_same rule j)) (on_ruled (stopped j) rule))
pharmacy_on ctx (Up j) next (Revise (OfCap most)) sent e = absurd cc
pharmacy_on ctx (Up j) next (Adjudicate from bytes advice) sent e = absurd cc
pharmacy_on ctx (AtRest j) next (Submit text) sent e = absurd cc
pharmacy_on ctx (AtRest j) next Tick sent e = absurd cc
pharmacy_on ctx (AtRest j) next (Take from bytes) sent e = absurd cc
pharmacy_on ctx (AtRest j) next Stop sent e = absurd cc
pharmacy_on ctx (AtRest j) next (Revise (OfPlan change)) sent e = absurd cc
pharmacy_on ctx (AtRest j) next (Revise (OfRule rule)) sent e = absurd cc
pharmacy_on ctx (AtRest j) next (Revise (OfCap most)) sent e = absurd cc
pharmacy_on ctx (AtRest j) next (Adjudicate from bytes advice) sent e = absurd cc

-- books

pub record Rows_on (b after : Book) : Type 0 where
  pub payer : after.payer ≡ b.payer
  pub settings : after.settings ≡ b.settings
  pub more : List Row
  pub rows : after.rows ≡ b.rows ++ more

pub rows_same : (b : Book) → Rows_on b b
rows_same b = record { payer = refl; settings = refl; more = []; rows = sym (append-nil b.rows) }

pub rows_trans : (a b c : Book) → Rows_on a b → Rows_on b c → Rows_on a c
rows_trans a b c f g =
    record {
      payer = g.payer ∙ f.payer;
      settings = g.settings ∙ f.settings;
      more = f.more ++ g.more;
      rows = g.rows ∙ (ap (λ (rs : List Row). rs ++ g.more) f.rows ∙ append_assoc a.rows f.more g.more);
    }

pub moves_on : (ctx : Context) (b after : Book) → BookMoves ctx b after → Rows_on b after
moves_on ctx b after (Same rows payer settings) = record { payer = payer; settings = settings; more = []; rows = rows ∙ sym (append-nil b.rows) }
moves_on ctx b after (Adds advice id request is) =
    record { payer = ap (λ (q : Book). q.payer) is; settings = ap (λ (q : Book). q.settings) is; more = new_row ctx b advice id request ∷ []; rows = ap (λ (q : Book). q.rows) is }

-- a node in a list after one of them was changed
changed : {A B : Type 0} (view : A → B) (R : B → B → Type 0) → ((b : B) → R b b) → (xs : List A) (n : ℕ) (s next : A) → numbered xs n ≡ Some s → R (view s) (view next)
    → (m : ℕ) (b : B) → option_map view (numbered xs m) ≡ Some b → (c : B) × (option_map view (numbered (renumbered xs n next) m) ≡ Some c) × R b c
changed view R self xs n s next is r m b h =
    elim (cases_eq n m) [
      | inl same ↦
          let there : numbered (renumbered xs n next) m ≡ Some next = subst (λ (k : ℕ). numbered (renumbered xs n next) k ≡ Some next) same (numbered_put xs n s next is) in
          let old : view s ≡ b = same_some (view s) b (ap (option_map view) (sym (subst (λ (k : ℕ). numbered xs k ≡ Some s) same is)) ∙ h) in
          (view next, ap (option_map view) there, subst (λ y. R y (view next)) old r)
      | inr other ↦ (b, ap (option_map view) (numbered_put_other xs n m next other) ∙ h, self b)
    ]

-- worlds

pub record Stays (w v : World) : Type 0 where
  pub journals : (n : ℕ) (j : JournalAtRest) → journal_at w n ≡ Some j → (k : JournalAtRest) × (journal_at v n ≡ Some k) × Goes_on j k
  pub books : (n : ℕ) (b : Book) → book_at w n ≡ Some b → (c : Book) × (book_at v n ≡ Some c) × Rows_on b c

stays_same : (w : World) → Stays w w
stays_same w = record { journals = λ n j h. (j, h, on_same j); books = λ n b h. (b, h, rows_same b) }

stays_trans : (u v w : World) → Stays u v → Stays v w → Stays u w
stays_trans u v w f g =
    record {
      journals = λ n j h. let a = f.journals n j h in let b = g.journals n a.0 a.1 in (b.0, b.1, on_trans j a.0 b.0 a.2 b.2);
      books = λ n b h. let a = f.books n b h in let c = g.books n a.0 a.1 in (c.0, c.1, rows_trans b a.0 c.0 a.2 c.2);
    }

step_stays : (ctx : Context) (w v : World) (call : Call) → Step ctx w v call → Stays w v
step_stays ctx w v call (At_pharmacy n s next sent is e f) =
    subst (Stays w) (sym f)
    (record { journals = changed journal_in Goes_on on_same w.pharmacies n s next is (pharmacy_on ctx s next call sent e); books = λ m b h. (b, h, rows_same b) })
step_stays ctx w v call (At_switch n s next sent is e f) = subst (Stays w) (sym f) (record { journals = λ m j h. (j, h, on_same j); books = λ m b h. (b, h, rows_same b) })
step_stays ctx w v call (At_payer n s next sent is e f) =
    subst (Stays w) (sym f)
    (record { journals = λ m j h. (j, h, on_same j); books = changed book_in Rows_on rows_same w.payers n s next is (moves_on ctx (book_in s) (book_in next) (payer_moves ctx s next call sent e)) })

outcome_stays : (ctx : Context) (w : World) (event : Event) (o : Outcome World) → step ctx w event ≡ o → Stays w (world_after w o)
outcome_stays ctx w event (Refused f) e = stays_same w
outcome_stays ctx w event (Done v sent) e = let m = event_made ctx w v event sent e in step_stays ctx w v m.call m.step_is

run_stays : (ctx : Context) (w : World) (events : List Event) → Stays w (run ctx w events)
run_stays ctx w [] = stays_same w
run_stays ctx w (event ∷ events) =
    stays_trans w (world_after w (step ctx w event)) (run ctx (world_after w (step ctx w event)) events) (outcome_stays ctx w event (step ctx w event) refl) (run_stays ctx (world_after w (step ctx w event)) events)

pub stays_decided : (ctx : Context) (w : World) (events : List Event) → StaysDecided w (run ctx w events)
stays_decided ctx w events =
    let s = run_stays ctx w events in
    record {
      journals = λ n j h. let a = s.journals n j h in record { journal = a.0; there = a.1; number = a.2.number; settings = a.2.settings; entries = a.2.entries };
      books = λ n b h. let a = s.books n b h in record { book = a.0; there = a.1; payer = a.2.payer; settings = a.2.settings; more = a.2.more; rows = a.2.rows };
    }
