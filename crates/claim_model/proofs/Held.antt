-- What nodes hold is what was decided.
use Rattle.std.proofs.Common.{◌≡◌, ℕ, Bool, true, false, List, Option, Some, None, refl, sym, ap, ◌∙◌, subst}
use Rattle.std.specs.Prelude.{option_map, option_and_then, nat_eq}
use Rattle.claim_model.specs.Words.{TxnId, RequestHeader, ResponseHeader, Ruling, Answer}
use Rattle.claim_model.specs.Context.{Context}
use Rattle.claim_model.specs.Laws.{Laws}
use Rattle.claim_model.specs.Readable.{readable, answer_text}
use Rattle.claim_model.specs.Rows.{Row, Book}
use Rattle.claim_model.specs.Book.{row_of}
use Rattle.claim_model.specs.Numbered.{numbered}
use Rattle.claim_model.specs.Journal.{JournalAtRest, Kept}
use Rattle.claim_model.specs.Table.{Slot, Table, slot_of}
use Rattle.claim_model.specs.Node.{Node, Pharmacy, Switch, Payer, Power, Up, AtRest}
use Rattle.claim_model.specs.World.{World, Event, run}
use Rattle.claim_model.specs.Settings.{WorldSettings}
use Rattle.claim_model.specs.Held.{journal_in, book_in, journal_at, book_at, entry_of, row_at, row_answer, decided, held_in_table, held_by, held, held_place}
use Rattle.claim_model.specs.Carried.{Carries}
use Rattle.claim_model.specs.Promises.{Reached, RequestsAreSubmitted, AnswersAreDecided, OneAnswer}
use Rattle.claim_model.proofs.Lists.{all_at}
use Rattle.claim_model.proofs.Options.{map_some, then_some, same_some}
use Rattle.claim_model.proofs.Sound.{SoundJournal, SoundSlot, SoundSwitch, SoundRow, SoundBook, SoundPacket, Sound, Later}
use Rattle.claim_model.proofs.Decided.{row_there, decided_routed}
use Rattle.claim_model.proofs.PharmacyStep.{carries_reads}
use Rattle.claim_model.proofs.SwitchStep.{request_says, response_says, slot_found}
use Rattle.claim_model.proofs.Runs.{run_sound, reached_sound}

pub journal_sound : (ctx : Context) (given : WorldSettings) (w : World) (n : ℕ) (j : JournalAtRest) → Sound ctx given w → journal_at w n ≡ Some j → SoundJournal ctx given w n j
journal_sound ctx given w n j x e =
    let p = map_some journal_in (numbered w.pharmacies n) j e in subst (SoundJournal ctx given w n) p.2 (x.pharmacies n p.0 p.1)

pub book_sound : (ctx : Context) (given : WorldSettings) (w : World) (n : ℕ) (b : Book) → Sound ctx given w → book_at w n ≡ Some b → SoundBook ctx given w n b
book_sound ctx given w n b x e =
    let p = map_some book_in (numbered w.payers n) b e in subst (SoundBook ctx given w n) p.2 (x.payers n p.0 p.1)

-- requests

pub requests_submitted : (ctx : Context) (given : WorldSettings) (w : World) → Laws ctx → Sound ctx given w → RequestsAreSubmitted ctx w
requests_submitted ctx given w laws x =
    record {
      packets = λ k p e.
          let c : Carries ctx w p.bytes = all_at (SoundPacket ctx w) w.packets k p x.packets e in
          record { envelope = c.envelope; reads = carries_reads ctx w p.bytes laws c; asks = λ h. request_says ctx w p.bytes c h };
      tables = λ n t k e is at. (all_at (SoundSlot ctx w) t.entries k e (x.switches n (Up t) is) at).asks;
      books = λ n b k row is at. (all_at (SoundRow ctx w n b.rows) b.rows k row (book_sound ctx given w n b x is).rows at).asks;
    }

-- answers

row_decided : (ctx : Context) (w : World) (n : ℕ) (rows : List Row) (row : Row) (a : List ℕ) → SoundRow ctx w n rows row → row_at w n row.id ≡ Some row → row_answer ctx row ≡ Some a → decided ctx w row.id ≡ Some a
row_decided ctx w n rows row a s there e =
    let f = map_some (λ (h : RequestHeader). answer_text ctx h row) (readable ctx row.request) a e in
    let same : f.0 ≡ s.header = same_some _ _ (sym f.1 ∙ s.reads) in
    decided_routed ctx w row.id row.request s.header n row s.asks s.reads s.routed there refl
    ∙ ap (λ (x : List ℕ). Some x) (ap (λ (h : RequestHeader). answer_text ctx h row) (sym same) ∙ f.2)

book_decided : (ctx : Context) (given : WorldSettings) (w : World) (n : ℕ) (b : Book) (k : ℕ) (row : Row) (a : List ℕ) → Sound ctx given w → book_at w n ≡ Some b → numbered b.rows k ≡ Some row → row_answer ctx row ≡ Some a
    → decided ctx w row.id ≡ Some a
book_decided ctx given w n b k row a x is at e =
    let s : SoundRow ctx w n b.rows row = all_at (SoundRow ctx w n b.rows) b.rows k row (book_sound ctx given w n b x is).rows at in
    row_decided ctx w n b.rows row a s (ap (λ (o : Option Book). option_and_then (λ (q : Book). row_of row.id q.rows) o) is ∙ s.found) e

pub answers_decided : (ctx : Context) (given : WorldSettings) (w : World) → Laws ctx → Sound ctx given w → AnswersAreDecided ctx w
answers_decided ctx given w laws x =
    record {
      packets = λ k p e.
          let c : Carries ctx w p.bytes = all_at (SoundPacket ctx w) w.packets k p x.packets e in
          record { envelope = c.envelope; reads = carries_reads ctx w p.bytes laws c; answers = λ h. response_says ctx w p.bytes c h };
      tables = λ n t k e a is at h. (all_at (SoundSlot ctx w) t.entries k e (x.switches n (Up t) is) at).answer a h;
      journals = λ n j k e a is at h. ((journal_sound ctx given w n j x is).entries k e at).answer a h;
      books = λ n b k row a is at h. book_decided ctx given w n b k row a x is at h;
    }

-- held answers

held_at_pharmacy : (ctx : Context) (given : WorldSettings) (w : World) (id : TxnId) (a : List ℕ) (b : Bool) → Sound ctx given w
    → elim b [ true ↦ option_and_then (λ (k : Kept). k.answer) (entry_of w id) | false ↦ None ] ≡ Some a → decided ctx w id ≡ Some a
held_at_pharmacy ctx given w id a true x e =
    let k = then_some (λ (k : Kept). k.answer) (entry_of w id) a e in
    let j = then_some (λ (j : JournalAtRest). numbered j.entries id.number) (journal_at w id.pharmacy) k.0 k.1 in
    ((journal_sound ctx given w id.pharmacy j.0 x j.1).entries id.number k.0 j.2).answer a k.2
held_at_pharmacy ctx given w id a false x e = absurd cc

held_at_switch : (ctx : Context) (given : WorldSettings) (w : World) (id : TxnId) (a : List ℕ) (s : Power Table ℕ) → SoundSwitch ctx w s → held_in_table id s ≡ Some a → decided ctx w id ≡ Some a
held_at_switch ctx given w id a (Up t) x e =
    let s = then_some (λ (s : Slot). s.answer) (slot_of id t.entries) a e in
    (slot_found (SoundSlot ctx w) id t.entries s.0 x s.1).answer a s.2
held_at_switch ctx given w id a (AtRest cap) x e = absurd cc

held_at_payer : (ctx : Context) (given : WorldSettings) (w : World) (n : ℕ) (id : TxnId) (a : List ℕ) → Sound ctx given w → option_and_then (row_answer ctx) (row_at w n id) ≡ Some a → decided ctx w id ≡ Some a
held_at_payer ctx given w n id a x e =
    let r = then_some (row_answer ctx) (row_at w n id) a e in
    let t = row_there ctx given w n id r.0 x r.1 in
    subst (λ (i : TxnId). decided ctx w i ≡ Some a) t.same
    (row_decided ctx w n t.rows r.0 a t.sound (subst (λ (i : TxnId). row_at w n i ≡ Some r.0) (sym t.same) r.1) r.2)

held_by_decided : (ctx : Context) (given : WorldSettings) (w : World) (node : Node) (id : TxnId) (a : List ℕ) → Sound ctx given w → held_by ctx w id node ≡ Some a → decided ctx w id ≡ Some a
held_by_decided ctx given w (Pharmacy n) id a x e = held_at_pharmacy ctx given w id a (nat_eq n id.pharmacy) x e
held_by_decided ctx given w (Switch n) id a x e =
    let s = then_some (held_in_table id) (numbered w.switches n) a e in held_at_switch ctx given w id a s.0 (x.switches n s.0 s.1) s.2
held_by_decided ctx given w (Payer n) id a x e = held_at_payer ctx given w n id a x e

-- what a node holds for an id is what was decided for it
pub held_decided : (ctx : Context) (given : WorldSettings) (w : World) (node : Node) (id : TxnId) (a : List ℕ) → Sound ctx given w → held ctx w node id ≡ Some a → decided ctx w id ≡ Some a
unfolding held
held_decided ctx given w node id a x e = held_by_decided ctx given w node id a x e

-- a sound world and a later one have one answer
pub later_answers : (ctx : Context) (given : WorldSettings) (w v : World) → Sound ctx given w → Sound ctx given v → Later ctx w v → OneAnswer ctx w v
later_answers ctx given w v x y later =
    let same : (a b : Node) (id : TxnId) (p q : List ℕ) → held ctx w a id ≡ Some p → held ctx v b id ≡ Some q → p ≡ q =
    λ a b id p q e f. same_some p q (sym (later.decides id p (held_decided ctx given w a id p x e)) ∙ held_decided ctx given v b id q y f) in
    record { bytes = same; places = λ a b id place p q e f. same_places ctx w v a b id place p q (same a b id) e f }
  where
    same_places : (ctx : Context) (w v : World) (a b : Node) (id : TxnId) (place : ℕ) (p q : ResponseHeader × Ruling)
        → ((x y : List ℕ) → held ctx w a id ≡ Some x → held ctx v b id ≡ Some y → x ≡ y) → held_place ctx w a id place ≡ Some p → held_place ctx v b id place ≡ Some q → p ≡ q
    same_places ctx w v a b id place p q same e f =
        let read : Answer → Option (ResponseHeader × Ruling) = λ (m : Answer). option_map (λ (r : Ruling). (m.header, r)) (numbered m.rulings place) in
        let s = then_some read (option_and_then ctx.read_answer (held ctx w a id)) p e in
        let t = then_some read (option_and_then ctx.read_answer (held ctx v b id)) q f in
        let s' = then_some ctx.read_answer (held ctx w a id) s.0 s.1 in
        let t' = then_some ctx.read_answer (held ctx v b id) t.0 t.1 in
        let bytes : s'.0 ≡ t'.0 = same s'.0 t'.0 s'.1 t'.1 in
        let answers : s.0 ≡ t.0 = same_some _ _ (sym s'.2 ∙ (ap ctx.read_answer bytes ∙ t'.2)) in
        same_some _ _ (sym s.2 ∙ (ap read answers ∙ t.2))

pub one_answer : (ctx : Context) (given : WorldSettings) (w : World) (events : List Event) → Reached ctx given w → OneAnswer ctx w (run ctx w events)
one_answer ctx given w events r =
    let x : Sound ctx given w = reached_sound ctx given w r in
    let k = run_sound ctx given w events r.laws r.accepts x in
    later_answers ctx given w (run ctx w events) x k.sound k.later
