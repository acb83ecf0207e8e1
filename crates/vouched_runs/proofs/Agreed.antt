-- States that agree are all that the promises hang on.
use Rattle.std.proofs.Common.{◌≡◌, ℕ, List, [], ◌∷◌, ◌++◌, length, Some, None, sym, ap, ◌∙◌, subst, append_assoc}
use Rattle.std.specs.Prelude.{option_and_then, option_map}
use Rattle.std.specs.List.{AllByRecursion}
use Rattle.std.proofs.lemmas.Bool.{cond-true}
use Rattle.claim_model.specs.Words.{RequestHeader}
use Rattle.claim_model.specs.Context.{Context}
use Rattle.claim_model.specs.Laws.{IsRuling}
use Rattle.claim_model.specs.Readable.{readable, payer_for, same_id}
use Rattle.claim_model.specs.Numbered.{numbered}
use Rattle.claim_model.specs.Rows.{Row, Book, ruled_rows}
use Rattle.claim_model.specs.Book.{row_of}
use Rattle.claim_model.specs.Journal.{JournalAtRest}
use Rattle.claim_model.specs.Settings.{PayerSettings, WorldSettings}
use Rattle.claim_model.specs.Held.{journal_in, book_in, journal_at, book_at}
use Rattle.claim_model.specs.Promises.{AnswersAreDecided, AnswersAreWhole, CountedPaymentsStand, OneAnswer, OneStandingPayment, RequestsAreSubmitted, ReversedByOwner, StandingAreCounted}
use Rattle.claim_model.proofs.Lists.{all_at, all_from, find_beyond}
use Rattle.claim_model.proofs.Options.{map_some}
use Rattle.claim_model.proofs.Tests.{id_self}
use Rattle.claim_model.proofs.Sound.{SoundJournal, SoundRow, SoundBook}
use Rattle.claim_model.proofs.Runs.{no_entries}
use Rattle.claim_model.proofs.Firm.{Firm}
use Rattle.claim_model.proofs.Held.{requests_submitted, answers_decided, later_answers}
use Rattle.claim_model.proofs.Whole.{sound_whole}
use Rattle.claim_model.proofs.Owners.{firm_one_standing, firm_reversed_by_owner}
use Rattle.claim_model.proofs.Counting.{firm_counted_stand}
use Rattle.claim_model.proofs.CountedInFull.{firm_standing_counted}
use Rattle.crash_safety.specs.Explained.{Turn}
use Rattle.vouched_runs.specs.Parties.{Parties, world_of}
use Rattle.vouched_runs.specs.Vouched.{Leads}
use Rattle.vouched_runs.specs.Agreeing.{IsOwnEntry, AreNextRows, Agreeing, AlwaysFromAgreeing, LaterFromAgreeing}
use Rattle.vouched_runs.proofs.Leading.{leads_firm}
use Rattle.vouched_runs.proofs.Rules.{next_rows_ledger, given_length}

-- ---- a row that was made after others stands among all

record StandsIn (ctx : Context) (all : List Row) (row : Row) : Type 0 where
  header : RequestHeader
  reads : readable ctx row.request ≡ Some header
  found : row_of row.id all ≡ Some row
  count : length row.rulings ≡ length (ctx.orders row.request)
  written : AllByRecursion IsRuling row.rulings

row_found : (before rows : List Row) (row : Row) → row_of row.id before ≡ None → row_of row.id (before ++ row ∷ rows) ≡ Some row
row_found before rows row fresh = find_beyond _ before (row ∷ rows) fresh ∙ cond-true (same_id row.id row.id) (Some row) (row_of row.id rows) (id_self row.id)

rows_stand : (ctx : Context) (b : Book) (before rows : List Row) → AreNextRows ctx b before rows → AllByRecursion (StandsIn ctx (before ++ rows)) rows
rows_stand ctx b before [] o = tt
rows_stand ctx b before (row ∷ rows) o = (
  record {
    header = o.0.header;
    reads = o.0.reads;
    found = row_found before rows row o.0.fresh;
    count = given_length b (ruled_rows ctx before) row.id 1 (ctx.orders row.request) row.rulings o.0.given;
    written = o.0.written;
  },
  subst (λ (all : List Row). AllByRecursion (StandsIn ctx all) rows) (append_assoc before (row ∷ []) rows) (rows_stand ctx b (before ++ row ∷ []) rows o.1),
)

-- ---- such states are sound

journal_agrees : (ctx : Context) (settings : WorldSettings) (p : Parties) → Agreeing ctx settings p → (n : ℕ) (j : JournalAtRest) → journal_at (world_of p) n ≡ Some j → SoundJournal ctx settings (world_of p) n j
journal_agrees ctx settings p a n j there =
    let k = a.kept.journals n j there in
    record {
      number = k.number;
      settings = k.as_given;
      room = k.room;
      entries = λ i e at.
          let x = all_at (IsOwnEntry ctx j.settings) j.entries i e k.entries at in
          record { header = x.header; reads = x.reads; own = x.own; answer = λ answer is. a.agree.answers n j i e answer there at is };
    }

row_agrees : (ctx : Context) (settings : WorldSettings) (p : Parties) → Agreeing ctx settings p → (n : ℕ) (b : Book) → book_at (world_of p) n ≡ Some b → (k : ℕ) (row : Row) → numbered b.rows k ≡ Some row → StandsIn ctx b.rows row
    → SoundRow ctx (world_of p) n b.rows row
row_agrees ctx settings p a n b there k row at x =
    record {
      asks = a.agree.asks n b k row there at;
      header = x.header;
      reads = x.reads;
      routed = ap (option_and_then (payer_for ctx row.id)) (sym x.reads) ∙ a.agree.routes n b k row there at;
      found = x.found;
      count = x.count ∙ a.laws.groups row.request x.header x.reads;
      written = x.written;
    }

book_agrees : (ctx : Context) (settings : WorldSettings) (p : Parties) → Agreeing ctx settings p → (n : ℕ) (b : Book) → book_at (world_of p) n ≡ Some b → SoundBook ctx settings (world_of p) n b
book_agrees ctx settings p a n b there =
    let k = a.kept.books n b there in
    let g = map_some (λ (s : PayerSettings). s.book) (numbered settings.payers n) b.settings k.as_given in
    record {
      payer = k.payer;
      given_as = g.0;
      stands = g.1;
      settings = g.2;
      rows = all_from (SoundRow ctx (world_of p) n b.rows) b.rows (λ i row at. row_agrees ctx settings p a n b there i row at (all_at (StandsIn ctx b.rows) b.rows i row (rows_stand ctx b [] b.rows k.rows) at));
    }

pub agreeing_firm : (ctx : Context) (settings : WorldSettings) (p : Parties) → Agreeing ctx settings p → Firm ctx settings (world_of p)
agreeing_firm ctx settings p a =
    record {
      laws = a.laws;
      accepts = a.accepts;
      sound = record {
        pharmacies = λ n s h. journal_agrees ctx settings p a n (journal_in s) (ap (option_map journal_in) h);
        switches = λ n s h. absurd (no_entries n s h);
        payers = λ n s h. book_agrees ctx settings p a n (book_in s) (ap (option_map book_in) h);
        packets = tt;
      };
      ledgers = λ n s h. next_rows_ledger ctx (book_in s) (a.kept.books n (book_in s) (ap (option_map book_in) h)).rows;
    }

-- ---- promises

after_firm : (ctx : Context) (settings : WorldSettings) (p q : Parties) (turns : List Turn) → Agreeing ctx settings p → Leads ctx p turns q → Firm ctx settings (world_of q)
after_firm ctx settings p q turns a l = (leads_firm ctx settings p q turns (agreeing_firm ctx settings p a) l).firm

pub agreeing_standing : AlwaysFromAgreeing OneStandingPayment
agreeing_standing = λ ctx settings p q turns a l. firm_one_standing ctx settings (world_of q) (after_firm ctx settings p q turns a l)

pub agreeing_counted : AlwaysFromAgreeing CountedPaymentsStand
agreeing_counted = λ ctx settings p q turns a l. firm_counted_stand ctx settings (world_of q) (after_firm ctx settings p q turns a l)

pub agreeing_in_full : AlwaysFromAgreeing StandingAreCounted
agreeing_in_full = λ ctx settings p q turns a l. firm_standing_counted ctx settings (world_of q) (after_firm ctx settings p q turns a l)

pub agreeing_reversed : AlwaysFromAgreeing ReversedByOwner
agreeing_reversed = λ ctx settings p q turns a l. firm_reversed_by_owner ctx settings (world_of q) (after_firm ctx settings p q turns a l)

pub agreeing_requests : AlwaysFromAgreeing RequestsAreSubmitted
agreeing_requests = λ ctx settings p q turns a l. requests_submitted ctx settings (world_of q) a.laws (after_firm ctx settings p q turns a l).sound

pub agreeing_answers : AlwaysFromAgreeing AnswersAreDecided
agreeing_answers = λ ctx settings p q turns a l. answers_decided ctx settings (world_of q) a.laws (after_firm ctx settings p q turns a l).sound

pub agreeing_whole : AlwaysFromAgreeing AnswersAreWhole
agreeing_whole = λ ctx settings p q turns a l. sound_whole ctx settings (world_of q) a.laws (after_firm ctx settings p q turns a l).sound

pub agreeing_one_answer : LaterFromAgreeing OneAnswer
agreeing_one_answer = λ ctx settings p q turns a l.
    let f : Firm ctx settings (world_of p) = agreeing_firm ctx settings p a in
    let k = leads_firm ctx settings p q turns f l in
    later_answers ctx settings (world_of p) (world_of q) f.sound k.firm.sound k.later
