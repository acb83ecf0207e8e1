-- The text of entries is read as these entries.
use Rattle.std.proofs.Common.{◌≡◌, ℕ, ◌+◌, ◌-◌, ◌<◌, ◌^◌, true, List, [], ◌∷◌, ◌++◌, length, Some, Ok, refl, subst, ap, arith}
use Rattle.std.proofs.lemmas.Option.{same_Some}
use Rattle.std.specs.List.{list_all}
use Rattle.std.proofs.lemmas.Bool.{and_parts, eq-eqb}
use Rattle.claim_model.specs.Journal.{JournalAtRest, Kept}
use Rattle.pharmacy_journal.specs.Resting.{added, added_all}
use Rattle.kept_records.specs.Faults.{each_in}
use Rattle.kept_records.specs.Entries.{entry_codec, entries_text}
use Rattle.kept_records.specs.Journals.{entry_in}
use Rattle.kept_records.specs.Versions.{fits_version}
use Rattle.kept_records.proofs.AddedEntries.{added_is_longer, entries-longer, first_added}
use Rattle.kept_records.proofs.Formats.{entry_is, entry_fits}

-- an entry that can be added, under the next number
pub entry_in-put : (version place : ℕ) (j longer : JournalAtRest) (kept : Kept) (rest : List ℕ) → length j.entries + 1 < 2 ^ 64 → added j kept.request kept.answer ≡ Some longer → fits_version version kept.request ≡ true
    → entry_in version place j (entry_codec.text (length j.entries + 1, kept) ++ rest) ≡ Ok (longer, rest)
unfolding entry_in
entry_in-put version place j longer kept rest small next suited =
    let short = (added_is_longer j longer kept.request kept.answer next).short in
    rw (entry_is.back (length j.entries + 1, kept) rest (entry_fits (length j.entries + 1) kept small short), next, suited, eq-eqb (length j.entries + 1) (length j.entries + 1) refl) refl

-- entries that can be added one by one, under the next numbers
pub entries_in-put : (version total : ℕ) (j all : JournalAtRest) (entries : List Kept) → length j.entries + length entries < 2 ^ 64 → added_all (Some j) entries ≡ Some all → list_all (λ (kept : Kept). fits_version version kept.request) entries ≡ true
    → each_in (entry_in version) total (length entries) j (entries_text (length j.entries + 1) entries) ≡ Ok (all, [])
unfolding each_in entries_text
entries_in-put version total j all [] small h suited = ap (λ (x : JournalAtRest). Ok (x, [])) (same_Some j all h)
entries_in-put version total j all (kept ∷ entries) small h suited =
    let next = first_added (added j kept.request kept.answer) all entries h in
    let longer : JournalAtRest = next.0 in
    let tests = and_parts (fits_version version kept.request) (list_all (λ (k : Kept). fits_version version k.request) entries) suited in
    let rest : List ℕ = entries_text (length j.entries + 1 + 1) entries in
    let count : length longer.entries ≡ length j.entries + 1 = entries-longer j longer kept (added_is_longer j longer kept.request kept.answer next.1) in
    let others = entries_in-put version total longer all entries (omega arith) next.2 tests.1 in
    rw (entry_in-put version (total - length (entry_codec.text (length j.entries + 1, kept) ++ rest)) j longer kept rest (omega arith) next.1 tests.0)
    (subst (λ n. each_in (entry_in version) total (length entries) longer (entries_text (n + 1) entries) ≡ Ok (all, [])) count others)
