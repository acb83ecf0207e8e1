-- Texts that are written from their end.
use Rattle.std.proofs.Common.{◌≡◌, ℕ, List, [], ◌∷◌, ◌++◌, sym, ap, ◌∙◌, append-nil}
use Rattle.std.specs.Prelude.{codes, decimal}
use Rattle.claim_model.specs.Words.{TxnId}
use Rattle.world_report.specs.Words.{line_text, behind_spaces}
use Rattle.world_report.specs.Places.{txn_name}
use Rattle.world_report.specs.Heads.{done_line}
use Rattle.world_report.proofs.JoinedWords.{line_text-cons}

-- the words after the number of an event, and the end of the line
words_behind : (packet : ℕ) → behind_spaces (codes "ok" ∷ decimal packet ∷ []) ++ codes "\n" ≡ 32 ∷ 111 ∷ 107 ∷ 32 ∷ (decimal packet ++ 10 ∷ [])
unfolding behind_spaces
words_behind packet = ap (λ (t : List ℕ). (32 ∷ 111 ∷ 107 ∷ 32 ∷ t) ++ 10 ∷ []) (append-nil (decimal packet))

-- the line of an event that sent one packet
pub done_text : (event packet : ℕ) (d0 d1 d2 d3 d4 d5 d6 d7 : List ℕ) → d0 ≡ [] → d1 ≡ 10 ∷ d0 → d2 ≡ decimal packet ++ d1 → d3 ≡ 32 ∷ d2 → d4 ≡ 107 ∷ d3 → d5 ≡ 111 ∷ d4 → d6 ≡ 32 ∷ d5
    → d7 ≡ decimal event ++ d6 → d7 ≡ line_text (done_line event (packet ∷ []))
done_text event packet d0 d1 d2 d3 d4 d5 d6 d7 none one two three four five six seven =
    let tail : d2 ≡ decimal packet ++ 10 ∷ [] = two ∙ ap (λ (t : List ℕ). decimal packet ++ t) (one ∙ ap (λ (t : List ℕ). 10 ∷ t) none) in
    let words : d6 ≡ 32 ∷ 111 ∷ 107 ∷ 32 ∷ (decimal packet ++ 10 ∷ []) =
    six ∙ ap (λ (t : List ℕ). 32 ∷ t) (five ∙ ap (λ (t : List ℕ). 111 ∷ t) (four ∙ ap (λ (t : List ℕ). 107 ∷ t) (three ∙ ap (λ (t : List ℕ). 32 ∷ t) tail))) in
    seven ∙ ap (λ (t : List ℕ). decimal event ++ t) (words ∙ sym (words_behind packet)) ∙ sym (line_text-cons (decimal event) (codes "ok" ∷ decimal packet ∷ []))

-- a transaction
pub txn_text : (id : TxnId) (pharmacy number : ℕ) (d0 d1 d2 d3 : List ℕ) → pharmacy ≡ id.pharmacy → number ≡ id.number → d0 ≡ [] → d1 ≡ decimal number ++ d0 → d2 ≡ 46 ∷ d1 → d3 ≡ decimal pharmacy ++ d2
    → d3 ≡ txn_name id
txn_text id pharmacy number d0 d1 d2 d3 p n none one two three =
    let digits : d1 ≡ decimal id.number = one ∙ ap (λ (t : List ℕ). decimal number ++ t) none ∙ append-nil (decimal number) ∙ ap decimal n in
    three ∙ ap (λ (t : List ℕ). decimal pharmacy ++ t) (two ∙ ap (λ (t : List ℕ). 46 ∷ t) digits) ∙ ap (λ (k : ℕ). decimal k ++ (46 ∷ decimal id.number)) p
