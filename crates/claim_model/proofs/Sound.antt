-- What holds of every world that events reach: each request is the one that its pharmacy submitted, each answer the one that was decided.
use Rattle.std.proofs.Common.{◌≡◌, ℕ, ◌≤◌, true, List, length, Option, Some, None, refl, sym, ap, ◌∙◌, subst, inl, inr}
use Rattle.std.specs.Prelude.{option_map, option_and_then, ⊤}
use Rattle.std.specs.List.{AllByRecursion}
use Rattle.std.proofs.lemmas.Bool.{cases_eq}
use Rattle.claim_model.specs.Words.{TxnId, RequestHeader, Kind, Request, Response}
use Rattle.claim_model.specs.Context.{Context}
use Rattle.claim_model.specs.Laws.{IsRuling}
use Rattle.claim_model.specs.Readable.{readable, payer_for}
use Rattle.claim_model.specs.Rows.{Row, Book}
use Rattle.claim_model.specs.Book.{row_of}
use Rattle.claim_model.specs.Numbered.{numbered, renumbered}
use Rattle.claim_model.specs.Journal.{PharmacySettings, Journal, JournalAtRest, Kept, is_own}
use Rattle.claim_model.specs.Table.{Slot, Table}
use Rattle.claim_model.specs.Node.{Node, Power, Up, AtRest, Sent}
use Rattle.claim_model.specs.World.{World, Packet, packet_from, posted}
use Rattle.claim_model.specs.Settings.{WorldSettings, PayerSettings}
use Rattle.claim_model.specs.Held.{journal_in, book_in, asked, row_at, row_answer, decided_by, decided_for, decided}
use Rattle.claim_model.specs.Carried.{Says, Carries}
use Rattle.claim_model.proofs.Lists.{numbered_put, numbered_put_other, all_weaker, all_append}
use Rattle.claim_model.proofs.Options.{map_some, then_some, same_some}

abbrev pub id_at : ℕ → ℕ → TxnId
id_at pharmacy number = record { pharmacy = pharmacy; number = number }

-- an entry of a journal: its request is readable and of this pharmacy, its answer is what was decided
pub record SoundEntry (ctx : Context) (w : World) (s : PharmacySettings) (id : TxnId) (e : Kept) : Type 0 where
  pub header : RequestHeader
  pub reads : readable ctx e.request ≡ Some header
  pub own : is_own s header ≡ true
  pub answer : (a : List ℕ) → e.answer ≡ Some a → decided ctx w id ≡ Some a

pub record SoundJournal (ctx : Context) (given : WorldSettings) (w : World) (n : ℕ) (j : JournalAtRest) : Type 0 where
  pub number : j.number ≡ n
  pub settings : numbered given.pharmacies n ≡ Some j.settings
  pub room : length j.entries ≤ j.settings.cap
  pub entries : (k : ℕ) (e : Kept) → numbered j.entries k ≡ Some e → SoundEntry ctx w j.settings (id_at n k) e

-- a slot has the request that was submitted, and no other answer than was decided
pub record SoundSlot (ctx : Context) (w : World) (e : TxnId × Slot) : Type 0 where
  pub asks : asked w e.0 ≡ Some e.1.request
  pub answer : (a : List ℕ) → e.1.answer ≡ Some a → decided ctx w e.0 ≡ Some a

abbrev pub SoundSwitch : Context → World → Power Table ℕ → Type 0
SoundSwitch ctx w (Up t) = AllByRecursion (SoundSlot ctx w) t.entries
SoundSwitch ctx w (AtRest cap) = ⊤

-- a row has the request that was submitted, which is routed to this payer, and rulings that can be written
pub record SoundRow (ctx : Context) (w : World) (n : ℕ) (rows : List Row) (row : Row) : Type 0 where
  pub asks : asked w row.id ≡ Some row.request
  pub header : RequestHeader
  pub reads : readable ctx row.request ≡ Some header
  pub routed : payer_for ctx row.id header ≡ Some n
  pub found : row_of row.id rows ≡ Some row
  pub count : length row.rulings ≡ header.count
  pub written : AllByRecursion IsRuling row.rulings

pub record SoundBook (ctx : Context) (given : WorldSettings) (w : World) (n : ℕ) (b : Book) : Type 0 where
  pub payer : b.payer ≡ n
  pub given_as : PayerSettings
  pub stands : numbered given.payers n ≡ Some given_as
  pub settings : given_as.book ≡ b.settings
  pub rows : AllByRecursion (SoundRow ctx w n b.rows) b.rows

abbrev pub SoundPacket : Context → World → Packet → Type 0
SoundPacket ctx w p = Carries ctx w p.bytes

pub record Sound (ctx : Context) (given : WorldSettings) (w : World) : Type 0 where
  pub pharmacies : (n : ℕ) (s : Power Journal JournalAtRest) → numbered w.pharmacies n ≡ Some s → SoundJournal ctx given w n (journal_in s)
  pub switches : (n : ℕ) (s : Power Table ℕ) → numbered w.switches n ≡ Some s → SoundSwitch ctx w s
  pub payers : (n : ℕ) (s : Power Book Book) → numbered w.payers n ≡ Some s → SoundBook ctx given w n (book_in s)
  pub packets : AllByRecursion (SoundPacket ctx w) w.packets

-- later worlds

-- what was submitted and what was decided stay so
pub record Later (ctx : Context) (w v : World) : Type 0 where
  pub asks : (id : TxnId) (r : List ℕ) → asked w id ≡ Some r → asked v id ≡ Some r
  pub decides : (id : TxnId) (a : List ℕ) → decided ctx w id ≡ Some a → decided ctx v id ≡ Some a

pub later_self : (ctx : Context) (w : World) → Later ctx w w
later_self ctx w = record { asks = λ id r h. h; decides = λ id a h. h }

pub later_trans : (ctx : Context) (u v w : World) → Later ctx u v → Later ctx v w → Later ctx u w
later_trans ctx u v w f g = record { asks = λ id r h. g.asks id r (f.asks id r h); decides = λ id a h. g.decides id a (f.decides id a h) }

pub entry_later : (ctx : Context) (w v : World) → Later ctx w v → (s : PharmacySettings) (id : TxnId) (e : Kept) → SoundEntry ctx w s id e → SoundEntry ctx v s id e
entry_later ctx w v l s id e x = record { header = x.header; reads = x.reads; own = x.own; answer = λ a h. l.decides id a (x.answer a h) }

pub journal_later : (ctx : Context) (given : WorldSettings) (w v : World) → Later ctx w v → (n : ℕ) (j : JournalAtRest) → SoundJournal ctx given w n j → SoundJournal ctx given v n j
journal_later ctx given w v l n j x =
    record { number = x.number; settings = x.settings; room = x.room; entries = λ k e h. entry_later ctx w v l j.settings (id_at n k) e (x.entries k e h) }

pub slot_later : (ctx : Context) (w v : World) → Later ctx w v → (e : TxnId × Slot) → SoundSlot ctx w e → SoundSlot ctx v e
slot_later ctx w v l e x = record { asks = l.asks e.0 e.1.request x.asks; answer = λ a h. l.decides e.0 a (x.answer a h) }

pub switch_later : (ctx : Context) (w v : World) → Later ctx w v → (s : Power Table ℕ) → SoundSwitch ctx w s → SoundSwitch ctx v s
switch_later ctx w v l (Up t) x = all_weaker (SoundSlot ctx w) (SoundSlot ctx v) (slot_later ctx w v l) t.entries x
switch_later ctx w v l (AtRest cap) x = tt

pub row_later : (ctx : Context) (w v : World) → Later ctx w v → (n : ℕ) (rows : List Row) (row : Row) → SoundRow ctx w n rows row → SoundRow ctx v n rows row
row_later ctx w v l n rows row x =
    record { asks = l.asks row.id row.request x.asks; header = x.header; reads = x.reads; routed = x.routed; found = x.found; count = x.count; written = x.written }

pub book_later : (ctx : Context) (given : WorldSettings) (w v : World) → Later ctx w v → (n : ℕ) (b : Book) → SoundBook ctx given w n b → SoundBook ctx given v n b
book_later ctx given w v l n b x =
    record {
      payer = x.payer;
      given_as = x.given_as;
      stands = x.stands;
      settings = x.settings;
      rows = all_weaker (SoundRow ctx w n b.rows) (SoundRow ctx v n b.rows) (row_later ctx w v l n b.rows) b.rows x.rows;
    }

says_later : (ctx : Context) (w v : World) → Later ctx w v → (id : TxnId) (payload : List ℕ) (k : Kind) → Says ctx w id payload k → Says ctx v id payload k
says_later ctx w v l id payload Request h = l.asks id payload h
says_later ctx w v l id payload Response h = l.decides id payload h

pub carries_later : (ctx : Context) (w v : World) → Later ctx w v → (bytes : List ℕ) → Carries ctx w bytes → Carries ctx v bytes
carries_later ctx w v l bytes x =
    record { envelope = x.envelope; fits = x.fits; spells = x.spells; says = says_later ctx w v l x.envelope.id x.envelope.payload x.envelope.kind x.says }

pub packet_later : (ctx : Context) (w v : World) → Later ctx w v → (p : Packet) → SoundPacket ctx w p → SoundPacket ctx v p
packet_later ctx w v l p x = carries_later ctx w v l p.bytes x

-- what was decided stays where requests stay and rows stay

decided_by_later : (ctx : Context) (w v : World) (id : TxnId) (h : RequestHeader) → ((n : ℕ) (row : Row) → row_at w n id ≡ Some row → row_at v n id ≡ Some row)
    → (o : Option ℕ) (a : List ℕ) → decided_by ctx w id h o ≡ Some a → decided_by ctx v id h o ≡ Some a
decided_by_later ctx w v id h rows None a e = e
decided_by_later ctx w v id h rows (Some n) a e =
    let r = then_some (row_answer ctx) (row_at w n id) a e in
    ap (option_and_then (row_answer ctx)) (rows n r.0 r.1) ∙ r.2

decided_for_later : (ctx : Context) (w v : World) (id : TxnId) → ((n : ℕ) (row : Row) → row_at w n id ≡ Some row → row_at v n id ≡ Some row)
    → (o : Option RequestHeader) (a : List ℕ) → decided_for ctx w id o ≡ Some a → decided_for ctx v id o ≡ Some a
decided_for_later ctx w v id rows None a e = absurd cc
decided_for_later ctx w v id rows (Some h) a e = decided_by_later ctx w v id h rows (payer_for ctx id h) a e

decided_asked : (ctx : Context) (w v : World) (id : TxnId) → ((n : ℕ) (row : Row) → row_at w n id ≡ Some row → row_at v n id ≡ Some row)
    → (o : Option (List ℕ)) (a : List ℕ) → ((r : List ℕ) → o ≡ Some r → asked v id ≡ Some r) → decided_for ctx w id (option_and_then (readable ctx) o) ≡ Some a → decided ctx v id ≡ Some a
unfolding decided
decided_asked ctx w v id rows None a asks e = absurd cc
decided_asked ctx w v id rows (Some r) a asks e =
    ap (λ o. decided_for ctx v id (option_and_then (readable ctx) o)) (asks r refl) ∙ decided_for_later ctx w v id rows (readable ctx r) a e

pub later_from : (ctx : Context) (w v : World)
    → ((id : TxnId) (r : List ℕ) → asked w id ≡ Some r → asked v id ≡ Some r)
    → ((id : TxnId) (n : ℕ) (row : Row) → row_at w n id ≡ Some row → row_at v n id ≡ Some row)
    → Later ctx w v
unfolding decided
later_from ctx w v asks rows =
    record { asks = asks; decides = λ id a h. decided_asked ctx w v id (rows id) (asked w id) a (asks id) h }

-- a pharmacy's step

-- requests stay where they were
abbrev pub RequestsStay : JournalAtRest → JournalAtRest → Type 0
RequestsStay j after = (k : ℕ) (e : Kept) → numbered j.entries k ≡ Some e → (f : Kept) × (numbered after.entries k ≡ Some f) × (f.request ≡ e.request)

abbrev pub request_from : TxnId → Option JournalAtRest → Option (List ℕ)
request_from id o = option_map (λ (k : Kept). k.request) (option_and_then (λ (j : JournalAtRest). numbered j.entries id.number) o)

pub asked_stays : (ps : List (Power Journal JournalAtRest)) (n : ℕ) (s after : Power Journal JournalAtRest) → numbered ps n ≡ Some s → RequestsStay (journal_in s) (journal_in after)
    → (id : TxnId) (r : List ℕ) → request_from id (option_map journal_in (numbered ps id.pharmacy)) ≡ Some r → request_from id (option_map journal_in (numbered (renumbered ps n after) id.pharmacy)) ≡ Some r
asked_stays ps n s after is stay id r h =
    elim (cases_eq n id.pharmacy) [
      | inl e ↦
          let here : numbered ps id.pharmacy ≡ Some s = subst (λ m. numbered ps m ≡ Some s) e is in
          let there : numbered (renumbered ps n after) id.pharmacy ≡ Some after = subst (λ m. numbered (renumbered ps n after) m ≡ Some after) e (numbered_put ps n s after is) in
          let before : request_from id (Some (journal_in s)) ≡ Some r = ap (λ o. request_from id (option_map journal_in o)) (sym here) ∙ h in
          let k = map_some (λ (k : Kept). k.request) (numbered (journal_in s).entries id.number) r before in
          let f = stay id.number k.0 k.1 in
          ap (λ o. request_from id (option_map journal_in o)) there
          ∙ (ap (λ (o : Option Kept). option_map (λ (k : Kept). k.request) o) f.1 ∙ ap (λ (x : List ℕ). Some x) (f.2 ∙ k.2))
      | inr d ↦ ap (λ o. request_from id (option_map journal_in o)) (numbered_put_other ps n id.pharmacy after d) ∙ h
    ]

abbrev pub with_pharmacy : World → ℕ → Power Journal JournalAtRest → List Sent → World
with_pharmacy w n next sent =
    record { pharmacies = renumbered w.pharmacies n next; switches = w.switches; payers = w.payers; packets = posted w.packets (Node.Pharmacy n) sent }

pub pharmacy_later : (ctx : Context) (w : World) (n : ℕ) (s next : Power Journal JournalAtRest) (sent : List Sent) → numbered w.pharmacies n ≡ Some s → RequestsStay (journal_in s) (journal_in next)
    → Later ctx w (with_pharmacy w n next sent)
pharmacy_later ctx w n s next sent is stay =
    later_from ctx w (with_pharmacy w n next sent) (asked_stays w.pharmacies n s next is stay) (λ id m row h. h)

-- each element at its number, after one was changed
pub each_put : {A : Type 0} (P : ℕ → A → Type 0) (xs : List A) (n : ℕ) (a b : A) → numbered xs n ≡ Some a → ((m : ℕ) (x : A) → numbered xs m ≡ Some x → P m x) → P n b
    → (m : ℕ) (x : A) → numbered (renumbered xs n b) m ≡ Some x → P m x
each_put P xs n a b is each here m x h =
    elim (cases_eq n m) [
      | inl e ↦
          let there : numbered (renumbered xs n b) m ≡ Some b = subst (λ k. numbered (renumbered xs n b) k ≡ Some b) e (numbered_put xs n a b is) in
          let same : b ≡ x = same_some b x (sym there ∙ h) in
          subst (λ k. P k x) e (subst (P n) same here)
      | inr d ↦ each m x (sym (numbered_put_other xs n m b d) ∙ h)
    ]

-- a world stays sound where one pharmacy makes a sound step
pub sound_pharmacy : (ctx : Context) (given : WorldSettings) (w : World) (n : ℕ) (s next : Power Journal JournalAtRest) (sent : List Sent)
    → Sound ctx given w → numbered w.pharmacies n ≡ Some s → Later ctx w (with_pharmacy w n next sent)
    → SoundJournal ctx given (with_pharmacy w n next sent) n (journal_in next)
    → AllByRecursion (SoundPacket ctx (with_pharmacy w n next sent)) (Rattle.std.proofs.Common.map (packet_from (Node.Pharmacy n)) sent)
    → Sound ctx given (with_pharmacy w n next sent)
sound_pharmacy ctx given w n s next sent x is l journal packets =
    let v = with_pharmacy w n next sent in
    record {
      pharmacies = each_put (λ m p. SoundJournal ctx given v m (journal_in p)) w.pharmacies n s next is (λ m p h. journal_later ctx given w v l m (journal_in p) (x.pharmacies m p h)) journal;
      switches = λ m p h. switch_later ctx w v l p (x.switches m p h);
      payers = λ m p h. book_later ctx given w v l m (book_in p) (x.payers m p h);
      packets = all_append (SoundPacket ctx v) w.packets _ (all_weaker (SoundPacket ctx w) (SoundPacket ctx v) (packet_later ctx w v l) w.packets x.packets) packets;
    }

-- a switch's step

abbrev pub with_switch : World → ℕ → Power Table ℕ → List Sent → World
with_switch w n next sent =
    record { pharmacies = w.pharmacies; switches = renumbered w.switches n next; payers = w.payers; packets = posted w.packets (Node.Switch n) sent }

pub switch_step_later : (ctx : Context) (w : World) (n : ℕ) (next : Power Table ℕ) (sent : List Sent) → Later ctx w (with_switch w n next sent)
switch_step_later ctx w n next sent = later_from ctx w (with_switch w n next sent) (λ id r h. h) (λ id m row h. h)

pub sound_switch : (ctx : Context) (given : WorldSettings) (w : World) (n : ℕ) (s next : Power Table ℕ) (sent : List Sent)
    → Sound ctx given w → numbered w.switches n ≡ Some s
    → SoundSwitch ctx (with_switch w n next sent) next
    → AllByRecursion (SoundPacket ctx (with_switch w n next sent)) (Rattle.std.proofs.Common.map (packet_from (Node.Switch n)) sent)
    → Sound ctx given (with_switch w n next sent)
sound_switch ctx given w n s next sent x is table packets =
    let v = with_switch w n next sent in
    let l : Later ctx w v = switch_step_later ctx w n next sent in
    record {
      pharmacies = λ m p h. journal_later ctx given w v l m (journal_in p) (x.pharmacies m p h);
      switches = each_put (λ m p. SoundSwitch ctx v p) w.switches n s next is (λ m p h. switch_later ctx w v l p (x.switches m p h)) table;
      payers = λ m p h. book_later ctx given w v l m (book_in p) (x.payers m p h);
      packets = all_append (SoundPacket ctx v) w.packets _ (all_weaker (SoundPacket ctx w) (SoundPacket ctx v) (packet_later ctx w v l) w.packets x.packets) packets;
    }

-- a payer's step

abbrev pub with_payer : World → ℕ → Power Book Book → List Sent → World
with_payer w n next sent =
    record { pharmacies = w.pharmacies; switches = w.switches; payers = renumbered w.payers n next; packets = posted w.packets (Node.Payer n) sent }

-- rows stay
abbrev pub RowsStay : Book → Book → Type 0
RowsStay b after = (id : TxnId) (row : Row) → row_of id b.rows ≡ Some row → row_of id after.rows ≡ Some row

abbrev pub row_from : TxnId → Option (Power Book Book) → Option Row
row_from id o = option_and_then (λ (b : Book). row_of id b.rows) (option_map book_in o)

pub row_stays : (ps : List (Power Book Book)) (n : ℕ) (s after : Power Book Book) → numbered ps n ≡ Some s → RowsStay (book_in s) (book_in after)
    → (id : TxnId) (m : ℕ) (row : Row) → row_from id (numbered ps m) ≡ Some row → row_from id (numbered (renumbered ps n after) m) ≡ Some row
row_stays ps n s after is stay id m row h =
    elim (cases_eq n m) [
      | inl e ↦
          let here : numbered ps m ≡ Some s = subst (λ k. numbered ps k ≡ Some s) e is in
          let there : numbered (renumbered ps n after) m ≡ Some after = subst (λ k. numbered (renumbered ps n after) k ≡ Some after) e (numbered_put ps n s after is) in
          ap (row_from id) there ∙ stay id row (ap (row_from id) (sym here) ∙ h)
      | inr d ↦ ap (row_from id) (numbered_put_other ps n m after d) ∙ h
    ]

pub payer_later : (ctx : Context) (w : World) (n : ℕ) (s next : Power Book Book) (sent : List Sent) → numbered w.payers n ≡ Some s → RowsStay (book_in s) (book_in next)
    → Later ctx w (with_payer w n next sent)
payer_later ctx w n s next sent is stay =
    later_from ctx w (with_payer w n next sent) (λ id r h. h) (row_stays w.payers n s next is stay)

pub sound_payer : (ctx : Context) (given : WorldSettings) (w : World) (n : ℕ) (s next : Power Book Book) (sent : List Sent)
    → Sound ctx given w → numbered w.payers n ≡ Some s → Later ctx w (with_payer w n next sent)
    → SoundBook ctx given (with_payer w n next sent) n (book_in next)
    → AllByRecursion (SoundPacket ctx (with_payer w n next sent)) (Rattle.std.proofs.Common.map (packet_from (Node.Payer n)) sent)
    → Sound ctx given (with_payer w n next sent)
sound_payer ctx given w n s next sent x is l book packets =
    let v = with_payer w n next sent in
    record {
      pharmacies = λ m p h. journal_later ctx given w v l m (journal_in p) (x.pharmacies m p h);
      switches = λ m p h. switch_later ctx w v l p (x.switches m p h);
      payers = each_put (λ m p. SoundBook ctx given v m (book_in p)) w.payers n s next is (λ m p h. book_later ctx given w v l m (book_in p) (x.payers m p h)) book;
      packets = all_append (SoundPacket ctx v) w.packets _ (all_weaker (SoundPacket ctx w) (SoundPacket ctx v) (packet_later ctx w v l) w.packets x.packets) packets;
    }
