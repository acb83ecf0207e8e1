-- The text of entries, an entry at a time.
use Rattle.std.proofs.Common.{◌≡◌, ℕ, zero, suc, ◌+◌, List, [], ◌∷◌, ◌++◌, length, drop, slice_get, Some, None, ◌<◌, ◌≤◌, sym, ◌∙◌, ap, arith, append_assoc, append-nil, add-one}
use Rattle.std.proofs.lemmas.List.{at_drop_more, drop_all}
use Rattle.std.proofs.lemmas.Option.{slice_get_within, get_or_from_slice_get}
use Rattle.claim_model.specs.Numbered.{numbered}
use Rattle.claim_model.specs.Journal.{JournalAtRest, Kept}
use Rattle.kept_records.specs.Entries.{entry_codec, entries_text}
use Rattle.pharmacy_journal.specs.Resting.{without_entries}
use Rattle.kept_records.specs.Journals.{IsMade}
use Rattle.kept_records.proofs.AddedEntries.{IsShort, added_all_short}

-- the number of an entry is one more than its place
at_place : (entries : List Kept) (place : ℕ) (kept : Kept) → numbered entries (place + 1) ≡ Some kept → slice_get entries place ≡ Some kept
at_place entries place kept e = rw add-one at e

-- each place below the length has an entry
pub some_at_place : (entries : List Kept) (place : ℕ) → place < length entries → numbered entries (place + 1) ≡ None → ⊥
some_at_place entries place h e = past entries place (rw add-one at e) h
  where
    past : (entries : List Kept) (place : ℕ) → slice_get entries place ≡ None → place < length entries → ⊥
    past [] place e h = omega arith
    past (first ∷ entries) zero e h = cc
    past (first ∷ entries) (suc place) e h = past entries place e (omega arith)

-- the entries of a journal that can be made are short
pub short_at_place : (j : JournalAtRest) → IsMade j → (place : ℕ) (kept : Kept) → numbered j.entries (place + 1) ≡ Some kept → IsShort kept
short_at_place j made place kept e = added_all_short (without_entries j) j j.entries made place kept (at_place j.entries place kept e)

-- an entry is put, and those after it are left
pub put_one : (text longer all : List ℕ) (place : ℕ) (entries : List Kept) (kept : Kept) → numbered entries (place + 1) ≡ Some kept → text ++ entries_text (place + 1) (drop place entries) ≡ all → longer ≡ text ++ entry_codec.text (place + 1, kept)
    → longer ++ entries_text (place + 1 + 1) (drop (place + 1) entries) ≡ all
unfolding entries_text
put_one text longer all place entries kept e before step =
    let at = at_place entries place kept e in
    let left : drop place entries ≡ kept ∷ drop (place + 1) entries = at_drop_more (λ (es : List Kept). es) entries place kept (slice_get_within entries place kept at) ∙ ap (λ (k : Kept). k ∷ drop (place + 1) entries) (get_or_from_slice_get entries place kept kept at) in
    let others : List ℕ = entries_text (place + 1 + 1) (drop (place + 1) entries) in
    ap (λ t. t ++ others) step ∙ append_assoc text (entry_codec.text (place + 1, kept)) others ∙ ap (λ (es : List Kept). text ++ entries_text (place + 1) es) (sym left) ∙ before

-- none is left
pub put_all : (text all : List ℕ) (place : ℕ) (entries : List Kept) → length entries ≤ place → text ++ entries_text (place + 1) (drop place entries) ≡ all → text ≡ all
unfolding entries_text
put_all text all place entries h before = sym (append-nil text) ∙ ap (λ (es : List Kept). text ++ entries_text (place + 1) es) (sym (drop_all place entries h)) ∙ before
