-- Records of nodes at rest, and what is made of them.
use Rattle.std.proofs.Common.{◌≡◌, ℕ, ◌<◌, List, length, map, true, Option, Some, None, Bool, false, Result, Ok, refl, sym, ap, ◌∙◌, arith, zero, suc, [], ◌∷◌}
use Rattle.std.specs.Prelude.{◌==◌, IfNone, option_map, not, slice_get}
use Rattle.std.specs.List.{list_all}
use Rattle.std.specs.Result.{result_ok}
use Rattle.std.proofs.lemmas.Bool.{and_parts}
use Rattle.std.proofs.lemmas.List.{append-nil}
use Rattle.claim_model.specs.Numbered.{numbered}
use Rattle.claim_model.specs.Journal.{PharmacySettings, JournalAtRest, started}
use Rattle.claim_model.specs.Rows.{Book}
use Rattle.claim_model.specs.Node.{Pharmacy, Switch, Payer, Up, AtRest}
use Rattle.claim_model.specs.Nodes.{OfPharmacy, OfSwitch, OfPayer}
use Rattle.claim_model.specs.Settings.{WorldSettings, is_empty}
use Rattle.claim_model.specs.Settings as model
use Rattle.claim_model.proofs.Options.{same_some}
use Rattle.claim_model.proofs.Tests.{nat_same}
use Rattle.claim_model.proofs.Lists.{numbered_map}
use Rattle.world_setup.specs.declared.settings.PayerSettings.{PayerSettings}
use Rattle.world_setup.specs.Seen.{payer_seen}
use Rattle.kept_records.specs.declared.fault.RecordFault.{RecordFault}
use Rattle.kept_records.specs.Journals.{journal_in}
use Rattle.kept_records.specs.Books.{book_in}
use Rattle.node_state.specs.Nodes.{has_node}
use Rattle.codec.specs.Codecs.{whole, all_of}
use Rattle.codec.specs.Fields.{u32_at}
use Rattle.switch_node.specs.Bytes.{cap_codec}
use Rattle.switch_node.proofs.CapFormat.{cap_is}
use Rattle.node_state.specs.Resting.{IsRecord, IsResting, resumed_pharmacy, switch_record, resumed_cap, resumed_switch, resumed_payer}

-- a journal that is read is started
read_as : (n : ℕ) (bytes : List ℕ) (settings : PharmacySettings) (j : JournalAtRest) → journal_in n settings bytes ≡ Ok j → resumed_pharmacy n bytes (Some settings) ≡ Some (OfPharmacy (Up (started j)))
read_as n bytes settings j reads = ap (λ (r : Result JournalAtRest RecordFault). option_map (λ (j : JournalAtRest). OfPharmacy (Up (started j))) (result_ok r)) reads

pub pharmacy_record : (s : WorldSettings) (pharmacies : List PharmacySettings) (n : ℕ) (settings : PharmacySettings) (rest : JournalAtRest) (bytes : List ℕ)
    → s.pharmacies ≡ pharmacies → numbered pharmacies n ≡ Some settings → journal_in n settings bytes ≡ Ok rest → IsRecord s (Pharmacy n) bytes (OfPharmacy (AtRest rest))
pharmacy_record s pharmacies n settings rest bytes same at reads = record {
  begins = OfPharmacy (Up (started rest));
  is = ap (λ (ps : List PharmacySettings). resumed_pharmacy n bytes (numbered ps n)) same ∙ (ap (resumed_pharmacy n bytes) at ∙ read_as n bytes settings rest reads);
  starts = λ ctx. refl;
}

-- a cap has a byte, and is read again

no_bytes : whole cap_codec [] ≡ None
unfolding cap_codec u32_at
no_bytes = refl

resumed_as : (given own : ℕ) (bytes : List ℕ) → (own == given) ≡ false → whole cap_codec bytes ≡ Some own → resumed_switch bytes (Some given) ≡ Some (OfSwitch (Up (record { cap = own; entries = [] })))
resumed_as given own [] other reads = let none = no_bytes in absurd cc
resumed_as given own (byte ∷ bytes) other reads = ap (resumed_cap given) reads ∙ rw other refl

whole_back : (own : ℕ) → cap_codec.Fits own → whole cap_codec (cap_codec.text own) ≡ Some own
whole_back own fits =
    ap (whole cap_codec) (sym (append-nil (cap_codec.text own))) ∙ ap all_of (cap_is.back own [] fits)

record_resumed : (given own : ℕ) → cap_codec.Fits own → resumed_switch (switch_record given own) (Some given) ≡ Some (OfSwitch (Up (record { cap = own; entries = [] })))
record_resumed given own fits = by_test (own == given) refl
  where
    by_test : (b : Bool) → (own == given) ≡ b → resumed_switch (switch_record given own) (Some given) ≡ Some (OfSwitch (Up (record { cap = own; entries = [] })))
    by_test true same = rw (same, nat_same own given same) refl
    by_test false other = rw other (resumed_as given own (cap_codec.text own) other (whole_back own fits))

pub switch_recorded : (s : WorldSettings) (switches : List ℕ) (n given own : ℕ) → cap_codec.Fits own → s.switches ≡ switches → numbered switches n ≡ Some given → IsRecord s (Switch n) (switch_record given own) (OfSwitch (AtRest own))
switch_recorded s switches n given own fits same at = record {
  begins = OfSwitch (Up (record { cap = own; entries = [] }));
  is = ap (λ (caps : List ℕ). resumed_switch (switch_record given own) (numbered caps n)) same ∙ (ap (resumed_switch (switch_record given own)) at ∙ record_resumed given own fits);
  starts = λ ctx. refl;
}

-- a book that is read is started

payer_of : (payers : List PayerSettings) (n : ℕ) (p : PayerSettings) → numbered payers n ≡ Some p → numbered (map payer_seen payers) n ≡ Some (payer_seen p)
payer_of payers n p at = numbered_map payer_seen payers n ∙ ap (option_map payer_seen) at

pub book_read : (payers : List PayerSettings) (n : ℕ) (p : PayerSettings) (bytes : List ℕ) (read : Result Book RecordFault) → numbered payers n ≡ Some p → book_in n p.book bytes ≡ read
    → resumed_payer n bytes (numbered (map payer_seen payers) n) ≡ option_map (λ (b : Book). OfPayer (Up b)) (result_ok read)
book_read payers n p bytes read at reads =
    ap (resumed_payer n bytes) (payer_of payers n p at) ∙ ap (λ (r : Result Book RecordFault). option_map (λ (b : Book). OfPayer (Up b)) (result_ok r)) reads

pub payer_record : (s : WorldSettings) (payers : List PayerSettings) (n : ℕ) (p : PayerSettings) (rest : Book) (bytes : List ℕ)
    → s.payers ≡ map payer_seen payers → numbered payers n ≡ Some p → book_in n p.book bytes ≡ Ok rest → IsRecord s (Payer n) bytes (OfPayer (AtRest rest))
payer_record s payers n p rest bytes same at reads = record {
  begins = OfPayer (Up rest);
  is = ap (λ ps. resumed_payer n bytes (numbered ps n)) same ∙ book_read payers n p bytes (Ok rest) at reads;
  starts = λ ctx. refl;
}

-- a node that has no record is no node of its name under its settings

pub none_then : {T : Type 0} (o : Option T) {P Q : Type 0} → IfNone o P → (P → Q) → IfNone o Q
none_then None is then = then is
none_then (Some x) is then = tt

pub pharmacy_unrecorded : (s : WorldSettings) (pharmacies : List PharmacySettings) (n : ℕ) (settings : PharmacySettings) (rest : JournalAtRest)
    → s.pharmacies ≡ pharmacies → numbered pharmacies n ≡ Some settings → (rest.number ≡ n → rest.settings ≡ settings → ⊥) → IsResting s (Pharmacy n) (OfPharmacy (AtRest rest)) → ⊥
pharmacy_unrecorded s pharmacies n settings rest same at other is =
    other is.0 (same_some rest.settings settings (sym is.1 ∙ (ap (λ (ps : List PharmacySettings). numbered ps n) same ∙ at)))

pub payer_unrecorded : (s : WorldSettings) (payers : List PayerSettings) (n : ℕ) (p : PayerSettings) (rest : Book)
    → s.payers ≡ map payer_seen payers → numbered payers n ≡ Some p → (rest.payer ≡ n → rest.settings ≡ p.book → ⊥) → IsResting s (Payer n) (OfPayer (AtRest rest)) → ⊥
payer_unrecorded s payers n p rest same at other is =
    let has = λ (ps : List model.PayerSettings). option_map (λ (p : model.PayerSettings). p.book) (numbered ps n) in
    other is.0 (same_some rest.settings p.book (sym is.1 ∙ (ap has same ∙ ap (option_map (λ (p : model.PayerSettings). p.book)) (payer_of payers n p at))))

-- the switches that a pharmacy tries

some_node : {A : Type 0} (xs : List A) → not (is_empty xs) ≡ true → 0 < length xs
some_node [] h = absurd cc
some_node (x ∷ xs) h = omega arith

at_place : (ss : List PharmacySettings) (k : ℕ) (s : PharmacySettings) → list_all has_node ss ≡ true → slice_get ss k ≡ Some s → 0 < length s.nodes
at_place [] k s all is = absurd cc
at_place (t ∷ ss) zero s all is =
    let e : t ≡ s = cc in
    rw (← e) (some_node t.nodes (and_parts (has_node t) (list_all has_node ss) all).0)
at_place (t ∷ ss) (suc k) s all is = at_place ss k s (and_parts (has_node t) (list_all has_node ss) all).1 is

pub tries_some : (ss : List PharmacySettings) (n : ℕ) (s : PharmacySettings) → list_all has_node ss ≡ true → numbered ss n ≡ Some s → 0 < length s.nodes
tries_some ss zero s all is = absurd cc
tries_some ss (suc k) s all is = at_place ss k s all is

-- the payer that is made of what is read
pub payer_read : (payers : List PayerSettings) (n payer : ℕ) (p : PayerSettings) (bytes : List ℕ) (read : Option Book) → payer ≡ n → numbered payers n ≡ Some p → read ≡ result_ok (book_in payer p.book bytes)
    → option_map (λ (b : Book). OfPayer (Up b)) read ≡ resumed_payer n bytes (numbered (map payer_seen payers) n)
payer_read payers n payer p bytes read own at is =
    let reads : read ≡ result_ok (book_in n p.book bytes) = is ∙ ap (λ (k : ℕ). result_ok (book_in k p.book bytes)) own in
    ap (option_map (λ (b : Book). OfPayer (Up b))) reads ∙ sym (book_read payers n p bytes (book_in n p.book bytes) at refl)
