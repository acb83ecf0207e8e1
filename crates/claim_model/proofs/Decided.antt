-- What was decided for an id: the answer of a row, or the fixed rejection; it is short and reads back.
use Rattle.std.proofs.Common.{◌≡◌, ℕ, List, [], ◌∷◌, length, replicate, Option, Some, None, refl, sym, ap, ◌∙◌, subst, arith}
use Rattle.std.specs.Prelude.{option_map, option_and_then}
use Rattle.std.specs.List.{AllByRecursion}
use Rattle.claim_model.specs.Words.{TxnId, RequestHeader, BadBin, Ruling, Rejected, AcceptedStatus, RejectedStatus}
use Rattle.claim_model.specs.Context.{Context}
use Rattle.claim_model.specs.Laws.{Laws, IsRuling, IsRejected, Spells}
use Rattle.claim_model.specs.Readable.{readable, payer_for, rejection, answer_text}
use Rattle.claim_model.specs.Rows.{Row, Book}
use Rattle.claim_model.specs.Book.{row_of}
use Rattle.claim_model.specs.Numbered.{numbered}
use Rattle.claim_model.specs.Settings.{WorldSettings}
use Rattle.claim_model.specs.World.{World}
use Rattle.claim_model.specs.Held.{book_in, asked, row_at, row_answer, decided_by, decided_for, decided}
use Rattle.claim_model.proofs.Lists.{find_all, find_passes}
use Rattle.claim_model.proofs.Options.{map_some, then_some, same_some}
use Rattle.claim_model.proofs.Tests.{id_same}
use Rattle.claim_model.proofs.Sound.{SoundRow, SoundBook, Sound}

-- the row of an id is a sound row with this id
pub record RowThere (ctx : Context) (w : World) (n : ℕ) (id : TxnId) (row : Row) : Type 0 where
  pub rows : List Row
  pub sound : SoundRow ctx w n rows row
  pub same : row.id ≡ id

pub row_there : (ctx : Context) (given : WorldSettings) (w : World) (n : ℕ) (id : TxnId) (row : Row) → Sound ctx given w → row_at w n id ≡ Some row → RowThere ctx w n id row
row_there ctx given w n id row x e =
    let b = then_some (λ (b : Book). row_of id b.rows) (option_map book_in (numbered w.payers n)) row e in
    let p = map_some book_in (numbered w.payers n) b.0 b.1 in
    let sb : SoundBook ctx given w n b.0 = subst (SoundBook ctx given w n) p.2 (x.payers n p.0 p.1) in
    let s : SoundRow ctx w n b.0.rows row = find_all (SoundRow ctx w n b.0.rows) _ b.0.rows row sb.rows b.2 in
    record { rows = b.0.rows; sound = s; same = id_same row.id id (find_passes _ b.0.rows row b.2) }

-- where an answer comes from
pub record Origin (ctx : Context) (w : World) (id : TxnId) (answer : List ℕ) : Type 0 where
  pub request : List ℕ
  pub header : RequestHeader
  pub asks : asked w id ≡ Some request
  pub reads : readable ctx request ≡ Some header
  pub rulings : List Ruling
  pub count : length rulings ≡ header.count
  pub spells : Spells ctx header rulings answer

-- an answer is a row's in the book of the routed payer, or the fixed rejection where there is no route
pub data From (ctx : Context) (w : World) (id : TxnId) (h : RequestHeader) (rulings : List Ruling) : Type 0 where
  Row_of : (n : ℕ) → (row : Row) → payer_for ctx id h ≡ Some n → row_at w n id ≡ Some row → row.rulings ≡ rulings → From ctx w id h rulings
  Fixed : payer_for ctx id h ≡ None → rulings ≡ replicate h.count (Rejected (BadBin ∷ [])) → From ctx w id h rulings

all_replicate : {A : Type 0} (P : A → Type 0) (n : ℕ) (a : A) → P a → AllByRecursion P (replicate n a)
all_replicate P ℕ.zero a h = tt
all_replicate P (ℕ.suc n) a h = (h, all_replicate P n a h)

length_replicate : {A : Type 0} (n : ℕ) (a : A) → length (replicate n a) ≡ n
length_replicate ℕ.zero a = refl
length_replicate (ℕ.suc n) a = ap ℕ.suc (length_replicate n a)

-- the fixed rejection is short and reads back
pub rejection_spells : (ctx : Context) (text : List ℕ) (h : RequestHeader) → Laws ctx → readable ctx text ≡ Some h → Spells ctx h (replicate h.count (Rejected (BadBin ∷ []))) (rejection ctx h)
rejection_spells ctx text h laws r =
    laws.answers text h RejectedStatus (replicate h.count (Rejected (BadBin ∷ []))) [] r (length_replicate h.count _)
    (all_replicate IsRuling h.count (Rejected (BadBin ∷ [])) (record { some = omega arith; few = omega arith; each = (refl, tt) }))
    (all_replicate IsRejected h.count (Rejected (BadBin ∷ [])) tt)

pub row_spells : (ctx : Context) (text : List ℕ) (h : RequestHeader) (row : Row) → Laws ctx → readable ctx text ≡ Some h → length row.rulings ≡ h.count → AllByRecursion IsRuling row.rulings
    → Spells ctx h row.rulings (answer_text ctx h row)
row_spells ctx text h row laws r count written = laws.answers text h AcceptedStatus row.rulings row.carried r count written tt

origin_by : (ctx : Context) (given : WorldSettings) (w : World) (id : TxnId) (a : List ℕ) (request : List ℕ) (h : RequestHeader) (o : Option ℕ)
    → Laws ctx → Sound ctx given w → asked w id ≡ Some request → readable ctx request ≡ Some h → payer_for ctx id h ≡ o → decided_by ctx w id h o ≡ Some a
    → (x : Origin ctx w id a) × From ctx w id x.header x.rulings
origin_by ctx given w id a request h None laws x asks reads route e =
    let same : rejection ctx h ≡ a = same_some _ a e in (
      record { request = request; header = h; asks = asks; reads = reads; rulings = replicate h.count (Rejected (BadBin ∷ [])); count = length_replicate h.count _; spells = subst (Spells ctx h (replicate h.count (Rejected (BadBin ∷ [])))) same (rejection_spells ctx request h laws reads) },
      Fixed route refl,
    )
origin_by ctx given w id a request h (Some n) laws x asks reads route e =
    let r = then_some (row_answer ctx) (row_at w n id) a e in
    let t = row_there ctx given w n id r.0 x r.1 in
    let f = map_some (λ (g : RequestHeader). answer_text ctx g r.0) (readable ctx r.0.request) a r.2 in
    let same_request : r.0.request ≡ request = same_some _ _ (sym t.sound.asks ∙ (ap (asked w) t.same ∙ asks)) in
    let same_header : f.0 ≡ h = same_some _ _ (sym f.1 ∙ (ap (readable ctx) same_request ∙ reads)) in
    let row_header : t.sound.header ≡ h = same_some _ _ (sym t.sound.reads ∙ (ap (readable ctx) same_request ∙ reads)) in
    let count : length r.0.rulings ≡ h.count = t.sound.count ∙ ap (λ (g : RequestHeader). g.count) row_header in
    let text : answer_text ctx h r.0 ≡ a = ap (λ (g : RequestHeader). answer_text ctx g r.0) (sym same_header) ∙ f.2 in (
      record {
        request = request;
        header = h;
        asks = asks;
        reads = reads;
        rulings = r.0.rulings;
        count = count;
        spells = subst (Spells ctx h r.0.rulings) text (row_spells ctx request h r.0 laws reads count t.sound.written);
      },
      Row_of n r.0 route r.1 refl,
    )

origin_for : (ctx : Context) (given : WorldSettings) (w : World) (id : TxnId) (a request : List ℕ) (o : Option RequestHeader)
    → Laws ctx → Sound ctx given w → asked w id ≡ Some request → readable ctx request ≡ o → decided_for ctx w id o ≡ Some a
    → (x : Origin ctx w id a) × From ctx w id x.header x.rulings
origin_for ctx given w id a request None laws x asks reads e = absurd cc
origin_for ctx given w id a request (Some h) laws x asks reads e = origin_by ctx given w id a request h (payer_for ctx id h) laws x asks reads refl e

origin_asked : (ctx : Context) (given : WorldSettings) (w : World) (id : TxnId) (a : List ℕ) (o : Option (List ℕ))
    → Laws ctx → Sound ctx given w → asked w id ≡ o → decided_for ctx w id (option_and_then (readable ctx) o) ≡ Some a
    → (x : Origin ctx w id a) × From ctx w id x.header x.rulings
origin_asked ctx given w id a None laws x asks e = absurd cc
origin_asked ctx given w id a (Some request) laws x asks e = origin_for ctx given w id a request (readable ctx request) laws x asks refl e

-- what was decided has an origin
pub origin : (ctx : Context) (given : WorldSettings) (w : World) (id : TxnId) (a : List ℕ) → Laws ctx → Sound ctx given w → decided ctx w id ≡ Some a
    → (x : Origin ctx w id a) × From ctx w id x.header x.rulings
unfolding decided
origin ctx given w id a laws x e = origin_asked ctx given w id a (asked w id) laws x refl e

-- the fixed rejection is decided for a request without a route
pub decided_unrouted : (ctx : Context) (w : World) (id : TxnId) (request : List ℕ) (h : RequestHeader) → asked w id ≡ Some request → readable ctx request ≡ Some h → payer_for ctx id h ≡ None
    → decided ctx w id ≡ Some (rejection ctx h)
unfolding decided
decided_unrouted ctx w id request h asks reads route =
    ap (λ (o : Option (List ℕ)). decided_for ctx w id (option_and_then (readable ctx) o)) asks
    ∙ (ap (decided_for ctx w id) reads ∙ ap (decided_by ctx w id h) route)

-- a row's answer is decided for a request that is routed to its book
pub decided_routed : (ctx : Context) (w : World) (id : TxnId) (request : List ℕ) (h : RequestHeader) (n : ℕ) (row : Row) → asked w id ≡ Some request → readable ctx request ≡ Some h → payer_for ctx id h ≡ Some n
    → row_at w n id ≡ Some row → row.request ≡ request → decided ctx w id ≡ Some (answer_text ctx h row)
unfolding decided
decided_routed ctx w id request h n row asks reads route there same =
    ap (λ (o : Option (List ℕ)). decided_for ctx w id (option_and_then (readable ctx) o)) asks
    ∙ (ap (decided_for ctx w id) reads
    ∙ (ap (decided_by ctx w id h) route
    ∙ (ap (option_and_then (row_answer ctx)) there
    ∙ ap (λ (o : Option RequestHeader). option_map (λ (g : RequestHeader). answer_text ctx g row) o) (ap (readable ctx) same ∙ reads))))
