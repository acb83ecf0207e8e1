-- How the words of payments and rulings follow one another.
use Rattle.std.proofs.Common.{◌≡◌, ℕ, ◌-◌, ◌<◌, ◌≤◌, List, [], ◌∷◌, ◌++◌, length, take, drop, get_or, map, refl, sym, ap, ◌∙◌, append_assoc, append-nil, arith}
use Rattle.std.proofs.lemmas.List.{take_all}
use Rattle.std.specs.Prelude.{decimal}
use Rattle.std.specs.List.{flat_map}
use Rattle.claim_profile.specs.Authorization.{authorization_text}
use Rattle.claim_profile.specs.Reject.{code_text}
use Rattle.claim_profile.specs.declared.reject.Code.{Code}
use Rattle.claim_model.specs.Words.{Auth, Amounts}
use Rattle.world_report.specs.Words.{behind_spaces}
use Rattle.world_report.specs.Rulings.{amount_words, payment_words, codes_word}
use Rattle.world_report.proofs.JoinedWords.{join_with_byte-cons}

-- a word that is written on
pub word_goes_on : (word more : List ℕ) → behind_spaces (word ∷ []) ++ more ≡ behind_spaces ((word ++ more) ∷ [])
unfolding behind_spaces
word_goes_on word more = ap (λ (t : List ℕ). (32 ∷ t) ++ more) (append-nil word) ∙ sym (ap (λ (t : List ℕ). 32 ∷ t) (append-nil (word ++ more)))

flat_map-map : (codes : List Code) → flat_map (λ (w : List ℕ). 44 ∷ w) (map code_text codes) ≡ flat_map (λ (code : Code). 44 ∷ code_text code) codes
flat_map-map [] = refl
flat_map-map (code ∷ more) = ap (λ (t : List ℕ). (44 ∷ code_text code) ++ t) (flat_map-map more)

pub codes_word-cons : (first : Code) (more : List Code) → codes_word (first ∷ more) ≡ code_text first ++ flat_map (λ (code : Code). 44 ∷ code_text code) more
unfolding codes_word
codes_word-cons first more = join_with_byte-cons 44 (code_text first) (map code_text more) ∙ ap (λ (t : List ℕ). code_text first ++ t) (flat_map-map more)

pub codes_word-nil : codes_word [] ≡ []
unfolding codes_word
codes_word-nil = refl

-- the first code, and the others with a comma before each
pub codes_join : (a b c : List ℕ) (first : Code) (more : List Code) → b ≡ a ++ behind_spaces (code_text first ∷ []) → c ≡ b ++ flat_map (λ (code : Code). 44 ∷ code_text code) more
    → c ≡ a ++ behind_spaces (codes_word (first ∷ more) ∷ [])
codes_join a b c first more one two =
    let others = flat_map (λ (code : Code). 44 ∷ code_text code) more in
    two ∙ (ap (λ (t : List ℕ). t ++ others) one ∙ (append_assoc a (behind_spaces (code_text first ∷ [])) others
    ∙ ap (λ (t : List ℕ). a ++ t) (word_goes_on (code_text first) others ∙ ap (λ (w : List ℕ). behind_spaces (w ∷ [])) (sym (codes_word-cons first more)))))

-- the codes of a list by its first, and what its others are
pub codes_split_join : (a b c : List ℕ) (rejects : List Code) (first : Code) → first ≡ get_or rejects 0 first → 1 ≤ length rejects → b ≡ a ++ behind_spaces (code_text first ∷ [])
    → c ≡ b ++ flat_map (λ (code : Code). 44 ∷ code_text code) (take (length rejects - 1) (drop 1 rejects)) → c ≡ a ++ behind_spaces (codes_word rejects ∷ [])
codes_split_join a b c [] first is some one two = absurd (omega (arith, some))
codes_split_join a b c (head ∷ more) first is some one two =
    let all : take (length (head ∷ more) - 1) more ≡ more = take_all (length (head ∷ more) - 1) more (omega arith) in
    codes_join a b c head more (one ∙ ap (λ (x : Code). a ++ behind_spaces (code_text x ∷ [])) is) (two ∙ ap (λ (cs : List Code). b ++ flat_map (λ (code : Code). 44 ∷ code_text code) cs) all)

-- no codes
pub no_codes_join : (a b : List ℕ) (rejects : List Code) → length rejects < 1 → b ≡ a ++ behind_spaces ([] ∷ []) → b ≡ a ++ behind_spaces (codes_word rejects ∷ [])
no_codes_join a b [] none one = one ∙ ap (λ (w : List ℕ). a ++ behind_spaces (w ∷ [])) (sym codes_word-nil)
no_codes_join a b (first ∷ more) none one = absurd (omega (arith, none))

-- amounts that were written from the last to the first
pub amounts_text : (t0 t1 t2 t3 t4 : List ℕ) (r1 r2 r3 r4 : ℕ) (m : Amounts) (cost fee copay total : ℕ) → cost ≡ m.cost → fee ≡ m.fee → copay ≡ m.copay → total ≡ m.total → drop 61 t0 ≡ [] →
    drop r1 t1 ≡ 32 ∷ (decimal total ++ drop 61 t0) → drop r2 t2 ≡ 32 ∷ (decimal copay ++ drop r1 t1) → drop r3 t3 ≡ 32 ∷ (decimal fee ++ drop r2 t2) → drop r4 t4 ≡ 32 ∷ (decimal cost ++ drop r3 t3) → drop r4 t4 ≡ behind_spaces (amount_words m)
unfolding behind_spaces
amounts_text t0 t1 t2 t3 t4 r1 r2 r3 r4 m cost fee copay total w x y z none one two three four =
    four
    ∙ ap (λ (t : List ℕ). 32 ∷ (decimal cost ++ t)) (three ∙ ap (λ (t : List ℕ). 32 ∷ (decimal fee ++ t)) (two ∙ ap (λ (t : List ℕ). 32 ∷ (decimal copay ++ t)) (one ∙ ap (λ (t : List ℕ). 32 ∷ (decimal total ++ t)) none)))
    ∙ ap (λ (n : ℕ). flat_map (λ (word : List ℕ). 32 ∷ word) (decimal n ∷ decimal fee ∷ decimal copay ∷ decimal total ∷ [])) w
    ∙ ap (λ (n : ℕ). flat_map (λ (word : List ℕ). 32 ∷ word) (decimal m.cost ∷ decimal n ∷ decimal copay ∷ decimal total ∷ [])) x
    ∙ ap (λ (n : ℕ). flat_map (λ (word : List ℕ). 32 ∷ word) (decimal m.cost ∷ decimal m.fee ∷ decimal n ∷ decimal total ∷ [])) y
    ∙ ap (λ (n : ℕ). flat_map (λ (word : List ℕ). 32 ∷ word) (decimal m.cost ∷ decimal m.fee ∷ decimal m.copay ∷ decimal n ∷ [])) z

-- an authorization that was written before amounts
pub payment_text : (d1 d2 : List ℕ) (auth : Auth) (m : Amounts) → d1 ≡ behind_spaces (amount_words m) → d2 ≡ 32 ∷ (authorization_text auth ++ d1) → d2 ≡ behind_spaces (payment_words auth m)
unfolding behind_spaces
payment_text d1 d2 auth m one two = two ∙ ap (λ (t : List ℕ). 32 ∷ (authorization_text auth ++ t)) one
