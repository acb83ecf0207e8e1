-- The ruling of what is counted is the ruling that the lists of all values say.
use Rattle.std.proofs.Common.{◌≡◌, ℕ, ◌<◌, ◌≤◌, Bool, true, false, cond, eqb, ltb, leb, List, [], ◌∷◌, ◌++◌, length, Option, Some, None, Result, Ok, Err, option_map, option_and_then, nat_le, ◌&&◌, if◌then◌else◌, codes, refl, ap, sym, ◌∙◌, append_assoc, arith, length-append, ◌⊎◌, inl, inr}
use Rattle.std.proofs.lemmas.Bool.{cases_lt, lt-ltb, le-ltb, le-leb, lt-leb}
use Rattle.std.proofs.lemmas.List.{append-nil}
use Rattle.d0_header.specs.Response.{Response}
use Rattle.d0_segments.specs.Parts.{SegmentParts}
use Rattle.claim_profile.specs.declared.reject.Code.{Code}
use Rattle.claim_profile.specs.declared.ruling.Ruling.{Ruling}
use Rattle.claim_profile.specs.declared.ruling.Ruling.TheVariants as ruling
use Rattle.claim_profile.specs.declared.answer_status.Status.{Status}
use Rattle.claim_profile.specs.declared.answer_status.Status.TheVariants as status
use Rattle.claim_profile.specs.declared.answer_reading.Speaker.{Speaker}
use Rattle.claim_profile.specs.declared.answer_reading.Speaker.TheVariants as speaker
use Rattle.claim_profile.specs.declared.answer_reading.AnswerFault.{AnswerFault}
use Rattle.claim_profile.specs.declared.answer_reading.AnswerFault.TheVariants.{NoStatus, BadAmount, BadAuthorization, BadRejects, BadClaim}
use Rattle.claim_profile.specs.Authorization.{Authorization, authorization_of}
use Rattle.claim_profile.specs.Money.{Money}
use Rattle.claim_profile.specs.Fields.{values_in, texts_in, required}
use Rattle.claim_profile.specs.Tally.{Absent, tallied, the_one}
use Rattle.claim_profile.specs.Order.{number_up_to, amount_in_cents}
use Rattle.claim_profile.specs.OrderSeen.{required_seen}
use Rattle.claim_profile.specs.AnswerTally.{AnswerTally, no_answer_seen, answer_counted}
use Rattle.claim_profile.specs.Ruling.{◌>>=◌, or_fault, status_by, checked_status, status_in, authorization_in, claim_in, money_of, fee_in, money_in, code_of, codes_of, counted_codes, rejection_in, ruling_under, ruling_in}
use Rattle.claim_profile.specs.RulingSeen.{status_seen, authorization_seen, claim_number_seen, fee_said, money_seen, payment_seen, code_more, codes_counted, some_codes, ruled_under, ruled_seen, rejection_with, or_rejection}
use Rattle.claim_profile.proofs.OrderLemmas.{required_counted, optional_counted, qualified_counted, tallied-many}
use Rattle.claim_profile.proofs.AnswerCounting.{all_answer_counted, is_all_answer_counted}

the_one_counted : (vs : List (List ℕ)) → the_one (tallied Absent vs) ≡ required (λ value. Some value) vs
unfolding tallied
the_one_counted [] = refl
the_one_counted (v ∷ []) = refl
the_one_counted (v ∷ w ∷ vs) = ap the_one (tallied-many vs)

-- ---- the parts

status_is : (by : Speaker) (h : Response) (group : List SegmentParts) → status_seen by h (all_answer_counted group).status ≡ status_in by h group
status_is by h group = ap (λ o. or_fault NoStatus o >>= λ text. checked_status h (status_by by text)) (the_one_counted (values_in (codes "21") (codes "AN") group))

authorization_is : (by : Speaker) (group : List SegmentParts) → authorization_seen by (all_answer_counted group).authorization ≡ authorization_in by group
authorization_is speaker.System group = refl
authorization_is speaker.Book group = ap (or_fault BadAuthorization) (required_counted authorization_of (values_in (codes "21") (codes "F3") group))

claim_is : (group : List SegmentParts) → claim_number_seen (all_answer_counted group) ≡ claim_in group
claim_is group = ap (or_fault BadClaim) (qualified_counted (codes "1") (texts_in (codes "22") (codes "EM") group) (number_up_to 12) (values_in (codes "22") (codes "D2") group))

fee_is : (by : Speaker) (group : List SegmentParts) → fee_said by (all_answer_counted group).fee ≡ fee_in by group
fee_is speaker.Book group = required_counted amount_in_cents (values_in (codes "23") (codes "F7") group)
fee_is speaker.System group = optional_counted 0 amount_in_cents (values_in (codes "23") (codes "F7") group)

money_is : (by : Speaker) (group : List SegmentParts) → money_seen by (all_answer_counted group) ≡ money_in by group
money_is by group = λ i. or_fault BadAmount (money_of
    (required_counted amount_in_cents (values_in (codes "23") (codes "F6") group) i)
    (fee_is by group i)
    (required_counted amount_in_cents (values_in (codes "23") (codes "F5") group) i)
    (required_counted amount_in_cents (values_in (codes "23") (codes "F9") group) i))

-- a payment, from its three parts
abbrev three : Result Authorization AnswerFault → Result ℕ AnswerFault → Result Money AnswerFault → Result (Authorization × ℕ × Money) AnswerFault
three a p m = a >>= λ auth. p >>= λ prescription. m >>= λ amounts. Ok (auth, prescription, amounts)

payment_is : (by : Speaker) (group : List SegmentParts) → payment_seen by (all_answer_counted group) ≡ three (authorization_in by group) (claim_in group) (money_in by group)
payment_is by group = λ i. three (authorization_is by group i) (claim_is group i) (money_is by group i)

-- ---- from what is known to the ruling

paid_is : (paid : Authorization → ℕ → Money → Ruling) (a : Result Authorization AnswerFault) (p : Result ℕ AnswerFault) (m : Result Money AnswerFault) (rejection : Result Ruling AnswerFault)
    → or_rejection (three a p m >>= λ x. Ok (Some (paid x.0 x.1 x.2))) rejection ≡ (a >>= λ auth. p >>= λ prescription. m >>= λ amounts. Ok (paid auth prescription amounts))
paid_is paid (Err e) p m rejection = refl
paid_is paid (Ok a) (Err e) m rejection = refl
paid_is paid (Ok a) (Ok p) (Err e) rejection = refl
paid_is paid (Ok a) (Ok p) (Ok m) rejection = refl

reversed_is : (a : Result Authorization AnswerFault) (p : Result ℕ AnswerFault) (rejection : Result Ruling AnswerFault)
    → or_rejection (a >>= λ auth. p >>= λ prescription. Ok (Some (ruling.Reversed auth prescription))) rejection ≡ (a >>= λ auth. p >>= λ prescription. Ok (ruling.Reversed auth prescription))
reversed_is (Err e) p rejection = refl
reversed_is (Ok a) (Err e) rejection = refl
reversed_is (Ok a) (Ok p) rejection = refl

-- ---- reject codes

-- at most five codes
abbrev few : Option (List Code) → Option (List Code)
few None = None
few (Some found) = if nat_le (length found) 5 then Some found else None

-- codes and one more
abbrev and_code : Option (List Code) → Option Code → Option (List Code)
and_code None code = None
and_code (Some before) None = None
and_code (Some before) (Some code) = Some (before ++ code ∷ [])

and_code-front : (c : Option Code) (o : Option (List Code)) (d : Option Code) → option_and_then (λ x. option_map (λ xs. x ∷ xs) (and_code o d)) c ≡ and_code (option_and_then (λ x. option_map (λ xs. x ∷ xs) o) c) d
and_code-front None o d = refl
and_code-front (Some c) None d = refl
and_code-front (Some c) (Some xs) None = refl
and_code-front (Some c) (Some xs) (Some d) = refl

one_code : (d : Option Code) → option_and_then (λ c. option_map (λ cs. c ∷ cs) (Some [])) d ≡ and_code (Some []) d
one_code None = refl
one_code (Some d) = refl

codes_of-push : (vs : List (List ℕ)) (v : List ℕ) → codes_of (vs ++ v ∷ []) ≡ and_code (codes_of vs) (code_of v)
codes_of-push [] v = one_code (code_of v)
codes_of-push (w ∷ vs) v = ap (λ o. option_and_then (λ c. option_map (λ cs. c ∷ cs) o) (code_of w)) (codes_of-push vs v) ∙ and_code-front (code_of w) (codes_of vs) (code_of v)

none_more : (b : Bool) (xs : List Code) → code_more (cond b (Some xs) None) None ≡ None
none_more true xs = refl
none_more false xs = refl

full_more : (b : Bool) (xs : List Code) (c : Code) → ltb (length xs) 5 ≡ false → code_more (cond b (Some xs) None) (Some c) ≡ None
full_more true xs c e = ap (λ t. cond t (Some (xs ++ c ∷ [])) None) e
full_more false xs c e = refl

some_more : (xs : List Code) (c : Code) → (length xs < 5) ⊎ (5 ≤ length xs) → code_more (few (Some xs)) (Some c) ≡ few (Some (xs ++ c ∷ []))
some_more xs c (inl lt) =
    let longer = length-append xs (c ∷ []) in
    ap (λ b. code_more (cond b (Some xs) None) (Some c)) (le-leb (length xs) 5 (omega arith))
    ∙ ap (λ b. cond b (Some (xs ++ c ∷ [])) None) (lt-ltb (length xs) 5 lt)
    ∙ ap (λ b. cond b (Some (xs ++ c ∷ [])) None) (sym (le-leb (length (xs ++ c ∷ [])) 5 (omega arith)))
some_more xs c (inr le) =
    let longer = length-append xs (c ∷ []) in
    full_more (leb (length xs) 5) xs c (le-ltb (length xs) 5 le)
    ∙ ap (λ b. cond b (Some (xs ++ c ∷ [])) None) (sym (lt-leb (length (xs ++ c ∷ [])) 5 (omega arith)))

few_more : (o : Option (List Code)) (c : Option Code) → code_more (few o) c ≡ few (and_code o c)
few_more None c = refl
few_more (Some xs) None = none_more (leb (length xs) 5) xs
few_more (Some xs) (Some c) = some_more xs c (cases_lt (length xs) 5)

counted_few : (front vs : List (List ℕ)) → codes_counted (few (codes_of front)) vs ≡ few (codes_of (front ++ vs))
unfolding codes_counted
counted_few front [] = ap (λ t. few (codes_of t)) (sym (append-nil front))
counted_few front (v ∷ vs) =
    ap (λ s. codes_counted s vs) (few_more (codes_of front) (code_of v) ∙ ap few (sym (codes_of-push front v)))
    ∙ counted_few (front ++ v ∷ []) vs ∙ ap (λ t. few (codes_of t)) (append_assoc front (v ∷ []) vs)

-- ---- a rejection

abbrev rejection_of : Option (List Code) → Result Ruling AnswerFault
rejection_of o = or_fault BadRejects o >>= λ rejects. Ok (ruling.Rejected rejects)

by_count : (rs : List Code) (e : Bool) → cond e (rejection_of (Some rs)) (Err BadRejects) ≡ rejection_of (cond e (Some rs) None)
by_count rs true = refl
by_count rs false = refl

by_least : (rs : List Code) (k : ℕ) (a : Bool) → rejection_with (cond a (Some rs) None) (Some k) ≡ rejection_of (cond (a && true && eqb k (length rs)) (Some rs) None)
by_least rs k true = by_count rs (eqb k (length rs))
by_least rs k false = refl

too_many : (rs : List Code) (a e : Bool) → rejection_of None ≡ rejection_of (cond (a && false && e) (Some rs) None)
too_many rs true e = refl
too_many rs false e = refl

by_most : (rs : List Code) (k : ℕ) (b : Bool) → rejection_with (some_codes (cond b (Some rs) None)) (Some k) ≡ rejection_of (cond (leb 1 (length rs) && b && eqb k (length rs)) (Some rs) None)
by_most rs k true = by_least rs k (leb 1 (length rs))
by_most rs k false = too_many rs (leb 1 (length rs)) (eqb k (length rs))

no_count : (o : Option (List Code)) → rejection_with o None ≡ Err BadRejects
no_count None = refl
no_count (Some rs) = refl

rejection_counted : (o : Option (List Code)) (n : Option ℕ) → rejection_with (some_codes (few o)) n ≡ rejection_of (counted_codes n o)
rejection_counted None None = refl
rejection_counted None (Some k) = refl
rejection_counted (Some rs) None = no_count (some_codes (few (Some rs)))
rejection_counted (Some rs) (Some k) = by_most rs k (leb (length rs) 5)

rejection_is : (group : List SegmentParts)
    → rejection_with (some_codes (codes_counted (Some []) (values_in (codes "21") (codes "FB") group))) (required_seen (number_up_to 2) (all_answer_counted group).reject_count) ≡ rejection_in group
rejection_is group =
    ap (λ o. rejection_with (some_codes o) (required_seen (number_up_to 2) (all_answer_counted group).reject_count)) (counted_few [] (values_in (codes "21") (codes "FB") group))
    ∙ ap (λ n. rejection_with (some_codes (few (codes_of (values_in (codes "21") (codes "FB") group)))) n) (required_counted (number_up_to 2) (values_in (codes "21") (codes "FA") group))
    ∙ rejection_counted (codes_of (values_in (codes "21") (codes "FB") group)) (required (number_up_to 2) (values_in (codes "21") (codes "FA") group))

-- ---- the whole ruling

by_status : (by : Speaker) (group : List SegmentParts) (s : Result Status AnswerFault) (rejection : Result Ruling AnswerFault) → rejection ≡ rejection_in group
    → or_rejection (s >>= ruled_under by (all_answer_counted group)) rejection ≡ (s >>= ruling_under by group)
by_status by group (Err e) rejection same = refl
by_status by group (Ok status.Paid) rejection same =
    ap (λ p. or_rejection (p >>= λ x. Ok (Some (ruling.Paid x.0 x.1 x.2))) rejection) (payment_is by group) ∙ paid_is ruling.Paid (authorization_in by group) (claim_in group) (money_in by group) rejection
by_status by group (Ok status.Duplicate) rejection same =
    ap (λ p. or_rejection (p >>= λ x. Ok (Some (ruling.Duplicate x.0 x.1 x.2))) rejection) (payment_is by group) ∙ paid_is ruling.Duplicate (authorization_in by group) (claim_in group) (money_in by group) rejection
by_status by group (Ok status.Reversed) rejection same =
    (λ i. or_rejection (authorization_is by group i >>= λ auth. claim_is group i >>= λ prescription. Ok (Some (ruling.Reversed auth prescription))) rejection) ∙ reversed_is (authorization_in by group) (claim_in group) rejection
by_status by group (Ok status.Rejected) rejection same = same

-- what is known of all values gives the ruling that they say
pub ruling_is : (by : Speaker) (h : Response) (group : List SegmentParts) (t : AnswerTally) → t ≡ answer_counted no_answer_seen group
    → or_rejection (ruled_seen by h t) (rejection_with (some_codes (codes_counted (Some []) (values_in (codes "21") (codes "FB") group))) (required_seen (number_up_to 2) t.reject_count)) ≡ ruling_in by h group
unfolding ruling_in
ruling_is by h group t e =
    ap (λ u. or_rejection (ruled_seen by h u) (rejection_with (some_codes (codes_counted (Some []) (values_in (codes "21") (codes "FB") group))) (required_seen (number_up_to 2) u.reject_count))) (e ∙ is_all_answer_counted group)
    ∙ ap (λ s. or_rejection (s >>= ruled_under by (all_answer_counted group)) (rejection_with (some_codes (codes_counted (Some []) (values_in (codes "21") (codes "FB") group))) (required_seen (number_up_to 2) (all_answer_counted group).reject_count))) (status_is by h group)
    ∙ by_status by group (status_in by h group) (rejection_with (some_codes (codes_counted (Some []) (values_in (codes "21") (codes "FB") group))) (required_seen (number_up_to 2) (all_answer_counted group).reject_count)) (rejection_is group)
