-- Entries that are told one by one.
use Rattle.std.proofs.Common.{◌≡◌, ℕ, ◌+◌, ◌<◌, ◌≤◌, ◌||◌, List, [], ◌∷◌, ◌++◌, length, map, drop, refl, sym, ap, ◌∙◌, arith}
use Rattle.std.specs.List.{list_any, filter_map}
use Rattle.std.proofs.lemmas.List.{append-nil, drop_all, drop_more, length-map}
use Rattle.bin_routes.specs.Table.{RouteMaps}
use Rattle.claim_model.specs.Words.{Auth}
use Rattle.claim_model.specs.Bytes.{bytes_with}
use Rattle.claim_model.specs.Counted.{firsts, counted}
use Rattle.claim_model.specs.Journal.{Kept, JournalAtRest}
use Rattle.pharmacy_journal.specs.declared.counting.Told.{Told}
use Rattle.pharmacy_journal.specs.declared.slot.Slot.{Slot}
use Rattle.pharmacy_journal.specs.Entries.{kept_of}
use Rattle.pharmacy_journal.specs.Listing.{Listed, listed_as, listed_from}
use Rattle.pharmacy_journal.specs.Counting.{Outcome, outcomes, named_in, outcome_reverses, has_auth, without, counted_in}
use Rattle.pharmacy_journal.specs.Telling.{told_by, NamesMore, ReversesMore, IsTold}
use Rattle.pharmacy_journal.proofs.Payable.{listed_step, named_step, reversed_step, outcomes-at, counted_by, counted_is, or_false}

-- nothing is told yet
pub told_first : (told : Told) (all : List Outcome) → told.named.items ≡ [] → told.reversed.keys ≡ [] → IsTold told all all
told_first told all named reversed = record {
  named = ap (λ xs. xs ++ filter_map named_in all) named;
  reversed = λ a. ap (λ (keys : List Auth). has_auth keys a || list_any (outcome_reverses a) all) reversed;
}

-- one entry more is told
pub told_next : (told new : Told) (slots : List Slot) (i : ℕ) (slot : Slot) (all : List Outcome) → i < length slots → slot ≡ Rattle.std.proofs.Common.get_or slots i slot
    → NamesMore told new (told_by slot) → ReversesMore told new (told_by slot) → IsTold told (outcomes (map kept_of (drop i slots))) all → IsTold new (outcomes (map kept_of (drop (i + 1) slots))) all
told_next told new slots i slot all lt is named reversed so_far =
    let one = told_by slot in
    let before = outcomes (map kept_of (drop i slots)) in
    let after = outcomes (map kept_of (drop (i + 1) slots)) in
    let parts = outcomes-at slots i slot lt is in
    record {
      named = named_step told.named.items new.named.items one before after named parts ∙ so_far.named;
      reversed = λ a. reversed_step a (has_auth told.reversed.keys a) (has_auth new.reversed.keys a) one before after (reversed a) parts ∙ so_far.reversed a;
    }

-- all are told
pub told_all : (told : Told) (entries : List Kept) → IsTold told [] (outcomes entries) → (routes : RouteMaps) (j : JournalAtRest) → j.entries ≡ entries
    → without told.reversed.keys (firsts told.named.items) ≡ counted (bytes_with routes) j
told_all told entries told_so routes j is =
    counted_by (outcomes entries) told.named.items told.reversed.keys (sym (append-nil told.named.items) ∙ told_so.named) (λ a. sym (or_false (has_auth told.reversed.keys a)) ∙ told_so.reversed a)
    ∙ (ap (λ (ks : List Kept). counted_in (outcomes ks)) (sym is) ∙ counted_is routes j)

-- the next entry, and those after it
pub listed_next : (slots : List Slot) (i number : ℕ) (slot : Slot) (view : Listed) → i < length slots → slot ≡ Rattle.std.proofs.Common.get_or slots i slot → listed_as number (kept_of slot) ≡ view ∷ []
    → listed_from number (map kept_of (drop i slots)) ≡ view ∷ listed_from (number + 1) (map kept_of (drop (i + 1) slots))
listed_next slots i number slot view lt is one = sym (listed_step [] (view ∷ []) view slots i number slot lt is refl one)

-- how many are left
pub fewer_left : (slots : List Slot) (i : ℕ) → i < length slots → length (map kept_of (drop i slots)) ≡ length (map kept_of (drop (i + 1) slots)) + 1
fewer_left slots i lt = simp (length-map, Rattle.std.proofs.Common.length-drop) (omega arith)

pub none_left : (slots : List Slot) (i : ℕ) → length slots ≤ i → map kept_of (drop i slots) ≡ []
none_left slots i le = ap (map kept_of) (drop_all i slots le)

-- two lists that are the same from a place on
pub same_more : {A : Type 0} (xs ys : List A) (i : ℕ) (d : A) → i < length xs → i < length ys → drop i xs ≡ drop i ys
    → (Rattle.std.proofs.Common.get_or xs i d ≡ Rattle.std.proofs.Common.get_or ys i d) × (drop (i + 1) xs ≡ drop (i + 1) ys)
same_more xs ys i d lx ly e =
    let both : Rattle.std.proofs.Common.get_or xs i d ∷ drop (i + 1) xs ≡ Rattle.std.proofs.Common.get_or ys i d ∷ drop (i + 1) ys = sym (drop_more xs i d lx) ∙ e ∙ drop_more ys i d ly in
    (cc, cc)
