-- What holds of the entries of a journal that is made entry by entry.
use Rattle.std.proofs.Common.{◌≡◌, ℕ, zero, suc, ◌+◌, ◌≤◌, ◌&&◌, Bool, true, false, cond, List, [], ◌∷◌, ◌++◌, length, slice_get, nat_le, nat_lt, Option, Some, None, option_and_then, refl, subst, sym, ◌∙◌, ap, append-nil, append_assoc, length-append}
use Rattle.std.specs.Option.{ForSome}
use Rattle.std.proofs.lemmas.Bool.{and_parts, leb-true}
use Rattle.std.proofs.lemmas.Option.{same_Some}
use Rattle.d0_segments.specs.Framing.{request_kind, transmission_of}
use Rattle.claim_profile.specs.Readable.{if_carried, framed_header, readable_header}
use Rattle.claim_model.specs.Words.{RequestHeader}
use Rattle.claim_model.specs.Journal.{PharmacySettings, Journal, JournalAtRest, Kept, kept_entry, stopped}
use Rattle.std.proofs.lemmas.List.{length-map}
use Rattle.pharmacy_journal.specs.Reading.{is_own_header, is_own_request, settles_with}
use Rattle.pharmacy_journal.specs.Resting.{is_kept_answer, is_row, added, added_all}

-- an entry whose texts have at most 32,768 bytes
pub record IsShort (kept : Kept) : Type 0 where
  pub request : length kept.request ≤ 32768
  pub answer : ForSome kept.answer (λ answer. length answer ≤ 32768)

-- a readable request has at most 32,768 bytes
pub readable_short : (request : List ℕ) (header : RequestHeader) → readable_header request ≡ Some header → length request ≤ 32768
unfolding readable_header
readable_short request header h = by_test (nat_le (length request) 32768) refl h
  where
    by_test : (short : Bool) → nat_le (length request) 32768 ≡ short → cond short (option_and_then if_carried (framed_header (transmission_of request_kind request))) None ≡ Some header → length request ≤ 32768
    by_test true t h = leb-true (length request) 32768 t
    by_test false t h = cc

short_request : (s : PharmacySettings) (request : List ℕ) → is_own_request s request ≡ true → length request ≤ 32768
short_request s request h = by_header (readable_header request) refl h
  where
    by_header : (o : Option RequestHeader) → readable_header request ≡ o → is_own_header s o ≡ true → length request ≤ 32768
    by_header None e t = cc
    by_header (Some header) e t = readable_short request header e

short_answer : (request : List ℕ) (answer : Option (List ℕ)) → is_kept_answer request answer ≡ true → ForSome answer (λ answer. length answer ≤ 32768)
short_answer request None h = λ (x : List ℕ) e. cc
short_answer request (Some answer) h =
    λ (x : List ℕ) e. subst (λ (a : List ℕ). length a ≤ 32768) (same_Some answer x e) (leb-true (length answer) 32768 (and_parts (settles_with request answer) (nat_le (length answer) 32768) h).1)

-- what is added is short, and stands after the entries before it
pub record IsLonger (j longer : JournalAtRest) (kept : Kept) : Type 0 where
  pub short : IsShort kept
  pub is : longer ≡ record { number = j.number; settings = j.settings; rule = j.rule; entries = j.entries ++ kept ∷ [] }

pub added_is_longer : (j longer : JournalAtRest) (request : List ℕ) (answer : Option (List ℕ)) → added j request answer ≡ Some longer → IsLonger j longer (record { request = request; answer = answer })
unfolding added
added_is_longer j longer request answer h = by_row (is_row j request answer) refl h
  where
    by_row : (good : Bool) → is_row j request answer ≡ good → cond good (Some (record { number = j.number; settings = j.settings; rule = j.rule; entries = j.entries ++ record { request = request; answer = answer } ∷ [] })) None ≡ Some longer → IsLonger j longer (record { request = request; answer = answer })
    by_row true e h =
        let parts = and_parts (nat_lt (length j.entries) j.settings.cap) (is_own_request j.settings request && is_kept_answer request answer) e in
        let texts = and_parts (is_own_request j.settings request) (is_kept_answer request answer) parts.1 in
        record { short = record { request = short_request j.settings request texts.0; answer = short_answer request answer texts.1 }; is = cc }
    by_row false e h = cc

-- one entry more
pub entries-longer : (j longer : JournalAtRest) (kept : Kept) → IsLonger j longer kept → length longer.entries ≡ length j.entries + 1
entries-longer j longer kept h = rw h.is (length-append j.entries (kept ∷ []))

-- where all entries are added, the first is
pub first_added : (o : Option JournalAtRest) (all : JournalAtRest) (entries : List Kept) → added_all o entries ≡ Some all → (longer : JournalAtRest) × (o ≡ Some longer) × (added_all (Some longer) entries ≡ Some all)
first_added None all entries h = cc
first_added (Some longer) all entries h = (longer, refl, h)

-- each entry that is added is short
pub added_all_short : (j all : JournalAtRest) (entries : List Kept) → added_all (Some j) entries ≡ Some all → (place : ℕ) (kept : Kept) → slice_get entries place ≡ Some kept → IsShort kept
added_all_short j all [] h place kept e = cc
added_all_short j all (first ∷ entries) h zero kept e =
    let next = first_added (added j first.request first.answer) all entries h in
    let same : first ≡ kept = same_Some first kept e in
    subst (λ (k : Kept). IsShort k) same (added_is_longer j next.0 first.request first.answer next.1).short
added_all_short j all (first ∷ entries) h (suc place) kept e =
    let next = first_added (added j first.request first.answer) all entries h in
    added_all_short next.0 all entries next.2 place kept e

-- what is added all together stands after the entries before it
pub added_all_is : (j all : JournalAtRest) (entries : List Kept) → added_all (Some j) entries ≡ Some all → all ≡ record { number = j.number; settings = j.settings; rule = j.rule; entries = j.entries ++ entries }
added_all_is j all [] h = sym (same_Some j all h) ∙ ap (λ (entries : List Kept). record { number = j.number; settings = j.settings; rule = j.rule; entries = entries }) (sym (append-nil j.entries))
added_all_is j all (kept ∷ entries) h =
    let next = first_added (added j kept.request kept.answer) all entries h in
    let longer : JournalAtRest = next.0 in
    let others : all ≡ record { number = longer.number; settings = longer.settings; rule = longer.rule; entries = longer.entries ++ entries } = added_all_is longer all entries next.2 in
    let is : longer ≡ record { number = j.number; settings = j.settings; rule = j.rule; entries = j.entries ++ kept ∷ [] } = (added_is_longer j longer kept.request kept.answer next.1).is in
    others
    ∙ ap (λ (l : JournalAtRest). record { number = l.number; settings = l.settings; rule = l.rule; entries = l.entries ++ entries }) is
    ∙ ap (λ (entries : List Kept). record { number = j.number; settings = j.settings; rule = j.rule; entries = entries }) (append_assoc j.entries (kept ∷ []) entries)

-- a pharmacy that stops keeps its number, and as many entries
pub entries_stopped : (j : Journal) → length (stopped j).entries ≡ length j.entries
unfolding stopped
entries_stopped j = length-map j.entries kept_entry
