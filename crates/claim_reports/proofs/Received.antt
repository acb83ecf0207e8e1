-- What is found by maps is what is found of lists.
use Rattle.std.proofs.Common.{◌≡◌, ℕ, Bool, List, [], ◌∷◌, ◌++◌, map, ◌∙◌}
use Rattle.std.specs.Prelude.{codes}
use Rattle.std.specs.Ordering.{nat_cmp}
use Rattle.std.specs.BTreeMap.{BTreeMap, IsFromIterResult, get}
use Rattle.table_text.specs.Rows.{head_text}
use Rattle.claim_reports.specs.declared.differences.Entry.{Entry}
use Rattle.claim_reports.specs.Compared.{AreEntries}
use Rattle.claim_reports.specs.Replies.{Reply}
use Rattle.claim_reports.specs.Received.{AreSent, AreReceipts, receipt_rows, is_nothing_found, IsReceived}
use Rattle.claim_reports.proofs.Comparisons.{last_is}

pub received_is : (receipts entries packets : List ℕ) (pharmacy : ℕ) (text : List ℕ) (agrees : Bool) (journal : List Entry) (sent told : List Reply) (held : BTreeMap ℕ Entry) (came : BTreeMap ℕ Reply) (start head : List ℕ) (listed tested : List Reply)
    → AreEntries pharmacy entries journal → AreSent pharmacy packets sent → AreReceipts pharmacy receipts told
    → IsFromIterResult nat_cmp (map (λ (e : Entry). (e.number, e)) journal) held → IsFromIterResult nat_cmp (map (λ (r : Reply). (r.number, r)) sent) came
    → start ≡ [] → head ≡ start ++ head_text (codes "finding" ∷ codes "number" ∷ []) → listed ≡ told → text ≡ head ++ receipt_rows (get nat_cmp held) (get nat_cmp came) listed → tested ≡ told → agrees ≡ is_nothing_found (get nat_cmp held) (get nat_cmp came) tested
    → IsReceived receipts entries packets pharmacy text agrees
received_is receipts entries packets pharmacy text agrees journal sent told held came start head listed tested enters sends tells holds comes empty heads lists rows tests agreed = record {
  journal = journal;
  enters = enters;
  sent = sent;
  sends = sends;
  told = told;
  tells = tells;
  rows =
      rows ∙ (λ i. heads i ++ receipt_rows (get nat_cmp held) (get nat_cmp came) (lists i)) ∙ (λ i. (empty i ++ head_text (codes "finding" ∷ codes "number" ∷ [])) ++ receipt_rows (get nat_cmp held) (get nat_cmp came) told)
      ∙ (λ i. head_text (codes "finding" ∷ codes "number" ∷ []) ++ receipt_rows (λ n. last_is (λ (e : Entry). e.number) journal held holds n i) (λ n. last_is (λ (r : Reply). r.number) sent came comes n i) told);
  agreed = agreed ∙ (λ i. is_nothing_found (λ n. last_is (λ (e : Entry). e.number) journal held holds n i) (λ n. last_is (λ (r : Reply). r.number) sent came comes n i) (tests i));
}
