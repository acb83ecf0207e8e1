-- What is read as entries is their text.
use Rattle.std.proofs.Common.{◌≡◌, ℕ, zero, suc, ◌+◌, ◌-◌, ◌==◌, true, List, [], ◌∷◌, length, Some, Ok, refl, subst, ◌∙◌, ap}
use Rattle.std.proofs.lemmas.Bool.{eqb-true}
use Rattle.std.specs.List.{list_all}
use Rattle.claim_model.specs.Journal.{JournalAtRest, Kept}
use Rattle.pharmacy_journal.specs.Resting.{added, added_all}
use Rattle.codec.specs.Laws.{AreBytes, IsTaken}
use Rattle.codec.proofs.CodecLaws.{both_taken}
use Rattle.kept_records.specs.declared.fault.RecordFault.TheVariants.{BadRecord, NumberOrder}
use Rattle.kept_records.specs.Entries.{entry_codec, entries_text}
use Rattle.kept_records.specs.Faults.{◌>>=◌, some_or, when_or, each_in}
use Rattle.kept_records.specs.Journals.{entry_in}
use Rattle.kept_records.specs.Versions.{fits_version}
use Rattle.kept_records.proofs.Chains.{some_or_then, when_or_then, when_or_ok, result_then, ok_same}
use Rattle.kept_records.proofs.Formats.{entry_is}
use Rattle.kept_records.proofs.AddedEntries.{added_is_longer, entries-longer}

-- the entry that stands at the front, in its place
pub record IsEntered (version : ℕ) (j longer : JournalAtRest) (bytes rest : List ℕ) : Type 0 where
  pub kept : Kept
  pub taken : IsTaken bytes (entry_codec.text (length j.entries + 1, kept)) rest
  pub next : added j kept.request kept.answer ≡ Some longer
  pub suited : fits_version version kept.request ≡ true

pub entered_taken : (version place : ℕ) (j longer : JournalAtRest) (bytes rest : List ℕ) → AreBytes bytes → entry_in version place j bytes ≡ Ok (longer, rest) → IsEntered version j longer bytes rest
unfolding entry_in
entered_taken version place j longer bytes rest are h =
    let a = some_or_then (BadRecord place) (entry_codec.at bytes) (λ e. some_or (BadRecord place) (added j e.0.1.request e.0.1.answer) >>= λ l. when_or (BadRecord place) (fits_version version e.0.1.request) l >>= λ f. when_or (NumberOrder place) (e.0.0 == length j.entries + 1) (f, e.1)) (longer, rest) h in
    let e : (ℕ × Kept) × List ℕ = a.0 in
    let b = some_or_then (BadRecord place) (added j e.0.1.request e.0.1.answer) (λ l. when_or (BadRecord place) (fits_version version e.0.1.request) l >>= λ f. when_or (NumberOrder place) (e.0.0 == length j.entries + 1) (f, e.1)) (longer, rest) a.2 in
    let c = when_or_then (BadRecord place) (fits_version version e.0.1.request) b.0 (λ f. when_or (NumberOrder place) (e.0.0 == length j.entries + 1) (f, e.1)) (longer, rest) b.2 in
    let d = when_or_ok (NumberOrder place) (e.0.0 == length j.entries + 1) (b.0, e.1) (longer, rest) c.1 in
    made e.0.0 e.0.1 e.1 b.0 a.1 b.1 c.0 (eqb-true e.0.0 (length j.entries + 1) d.0) d.1
  where
    made : (number : ℕ) (kept : Kept) (tail : List ℕ) (new : JournalAtRest) → entry_codec.at bytes ≡ Some ((number, kept), tail) → added j kept.request kept.answer ≡ Some new → fits_version version kept.request ≡ true → number ≡ length j.entries + 1
        → ◌≡◌ {A = JournalAtRest × List ℕ} (new, tail) (longer, rest) → IsEntered version j longer bytes rest
    made number kept tail new found next suited is same =
        let taken = subst (λ (n : ℕ). IsTaken bytes (entry_codec.text (n, kept)) tail) is (entry_is.only bytes (number, kept) tail are found).0 in
        subst (λ (x : JournalAtRest × List ℕ). IsEntered version j x.0 bytes x.1) same (record { kept = kept; taken = taken; next = next; suited = suited })

-- ---- all entries

-- entries that stand at the front of these bytes, and that make this journal of that one
pub record AreEntries (version left : ℕ) (j all : JournalAtRest) (bytes rest : List ℕ) : Type 0 where
  pub entries : List Kept
  pub count : length entries ≡ left
  pub taken : IsTaken bytes (entries_text (length j.entries + 1) entries) rest
  pub made : added_all (Some j) entries ≡ Some all
  pub suited : list_all (λ (kept : Kept). fits_version version kept.request) entries ≡ true

one_more : (version left : ℕ) (j longer all : JournalAtRest) (bytes mid rest : List ℕ) → IsEntered version j longer bytes mid → AreEntries version left longer all mid rest → AreEntries version (suc left) j all bytes rest
unfolding entries_text
one_more version left j longer all bytes mid rest step others =
    let count : length longer.entries ≡ length j.entries + 1 = entries-longer j longer step.kept (added_is_longer j longer step.kept.request step.kept.answer step.next) in
    record {
      entries = step.kept ∷ others.entries;
      count = ap suc others.count;
      taken = both_taken bytes (entry_codec.text (length j.entries + 1, step.kept)) mid (entries_text (length j.entries + 1 + 1) others.entries) rest step.taken (subst (λ n. IsTaken mid (entries_text (n + 1) others.entries) rest) count others.taken);
      made = ap (λ o. added_all o others.entries) step.next ∙ others.made;
      suited = rw (step.suited, others.suited) refl;
    }

pub entries_are : (version total left : ℕ) (j all : JournalAtRest) (bytes rest : List ℕ) → AreBytes bytes → each_in (entry_in version) total left j bytes ≡ Ok (all, rest) → AreEntries version left j all bytes rest
unfolding each_in entries_text
entries_are version total zero j all bytes rest are h =
    subst (λ (x : JournalAtRest × List ℕ). AreEntries version zero j x.0 bytes x.1) (ok_same (j, bytes) (all, rest) h)
    (record { entries = []; count = refl; taken = record { all = refl; rest_bytes = are }; made = refl; suited = refl })
entries_are version total (suc left) j all bytes rest are h =
    let next = result_then (entry_in version (total - length bytes) j bytes) (λ (n : JournalAtRest × List ℕ). each_in (entry_in version) total left n.0 n.1) (all, rest) h in
    let step = entered_taken version (total - length bytes) j next.0.0 bytes next.0.1 are next.1 in
    one_more version left j next.0.0 all bytes next.0.1 rest step (entries_are version total left next.0.0 all next.0.1 rest step.taken.rest_bytes next.2)
