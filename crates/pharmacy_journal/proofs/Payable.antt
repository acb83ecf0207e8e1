-- Counting payments: what is kept of a list of outcomes while it is walked.
use Rattle.std.proofs.Common.{◌≡◌, ℕ, ◌+◌, ◌<◌, ◌≤◌, Bool, true, false, cond, not, ◌||◌, ◌&&◌, eqb, List, [], ◌∷◌, ◌++◌, length, map, take, drop, Option, Some, None, Result, Ok, Err, min, refl, sym, ap, ◌∙◌, arith, subst, ⊎_elim}
use Rattle.std.specs.Prelude.{filter, if◌then◌else◌}
use Rattle.std.specs.List.{list_any, filter_map}
use Rattle.std.specs.BTreeMap.{is_at}
use Rattle.std.specs.declared.cmp.Ordering.{Ordering}
use Rattle.std.proofs.lemmas.Bool.{cases_eq, cases_lt, eq-eqb, ne_eqb}
use Rattle.std.proofs.lemmas.List.Folds.{list_any-append}
use Rattle.std.proofs.lemmas.List.Elements.{filter_map-append}
use Rattle.std.proofs.lemmas.List.{append_assoc, drop_more, drop_all, length-map, get_or-map}
use Rattle.std.specs.Option.{option_to_list}
use Rattle.d0_segments.specs.declared.fault.FramingFault.{FramingFault}
use Rattle.d0_segments.specs.Framing.{request_kind, framing_fault, transmission_of}
use Rattle.bin_routes.specs.Table.{RouteMaps}
use Rattle.claim_model.specs.Words.{TxnId, Auth, Fill, Order, Bills, Reverses, Code, Ruling, Paid, Duplicate, Reversed, Rejected}
use Rattle.claim_model.specs.Bytes.{bytes_with, orders_in}
use Rattle.claim_model.specs.Ruled.{ruled_from}
use Rattle.claim_model.specs.Payments.{same_auth, reverses, auth_reversed, is_auth}
use Rattle.claim_model.specs.Counted.{Counted, firsts, named, named_by, ruled_answer, ruled_entries, told, is_reversed, counted}
use Rattle.claim_model.specs.Journal.{Kept, JournalAtRest}
use Rattle.pharmacy_journal.specs.Entries.{kept_of}
use Rattle.pharmacy_journal.specs.Reading.{header_of}
use Rattle.pharmacy_journal.specs.Listing.{Listed, listed_by, listed_from}
use Rattle.pharmacy_journal.specs.declared.slot.Slot.{Slot}
use Rattle.pharmacy_journal.specs.Counting.{Outcome, fill_billed, fills_in, rulings_told, outcomes_between, outcomes_of, outcomes, named_in, payment_of, outcome_reverses, has_auth, without, counted_in}

-- ---- lists

pub or_assoc : (a b c : Bool) → ((a || b) || c) ≡ (a || (b || c))
or_assoc true b c = refl
or_assoc false b c = refl

list_any-same : {A : Type 0} (p q : A → Bool) → ((x : A) → p x ≡ q x) → (xs : List A) → list_any p xs ≡ list_any q xs
list_any-same p q e [] = refl
list_any-same p q e (x ∷ xs) = rw (e x, list_any-same p q e xs) refl

-- ---- authorizations

eqb-comm : (a b : ℕ) → eqb a b ≡ eqb b a
eqb-comm a b = ⊎_elim (λ (e : a ≡ b). eq-eqb a b e ∙ sym (eq-eqb b a (sym e))) (λ (n : a ≡ b → ⊥). ne_eqb a b n ∙ sym (ne_eqb b a (λ e. n (sym e)))) (cases_eq a b)

pub same_auth-comm : (a b : Auth) → same_auth a b ≡ same_auth b a
same_auth-comm a b = ap (λ x. x && eqb a.serial b.serial) (eqb-comm a.payer b.payer) ∙ ap (λ x. eqb b.payer a.payer && x) (eqb-comm a.serial b.serial)

cond-or : (b x : Bool) → cond b true x ≡ (x || b)
cond-or true true = refl
cond-or true false = refl
cond-or false true = refl
cond-or false false = refl

-- a set with one authorization more
pub has_more : (cmp : Auth → Auth → Ordering) (old new : List Auth) (k a : Auth) → list_any (is_at (cmp a)) new ≡ cond (is_at (cmp k) a) true (list_any (is_at (cmp a)) old) → ((x y : Auth) → is_at (cmp x) y ≡ same_auth x y) → has_auth new a ≡ (has_auth old a || same_auth k a)
has_more cmp old new k a e same =
    let alike = list_any-same (λ x. same_auth x a) (is_at (cmp a)) (λ x. same_auth-comm x a ∙ sym (same a x)) in
    alike new ∙ e ∙ ap (λ b. cond b true (list_any (is_at (cmp a)) old)) (same k a) ∙ cond-or (same_auth k a) (list_any (is_at (cmp a)) old) ∙ ap (λ b. b || same_auth k a) (sym (alike old))

-- ---- the first of each

without_one : (b s : Bool) (d : Counted) (xs ys : List Counted) → xs ≡ ys → cond (not (b || s)) (d ∷ xs) xs ≡ cond (not s) (cond (not b) (d ∷ ys) ys) ys
without_one true true d xs ys e = e
without_one true false d xs ys e = e
without_one false true d xs ys e = e
without_one false false d xs ys e = ap (λ zs. d ∷ zs) e

filter-cond : {A : Type 0} (p : A → Bool) (b : Bool) (x : A) (xs : List A) → filter p (cond b (x ∷ xs) xs) ≡ cond b (cond (p x) (x ∷ filter p xs) (filter p xs)) (filter p xs)
filter-cond p true x xs = refl
filter-cond p false x xs = refl

without-more : (seen seen' : List Auth) (auth : Auth) → ((a : Auth) → has_auth seen' a ≡ (has_auth seen a || same_auth auth a)) → (xs : List Counted) → without seen' xs ≡ without seen (filter (λ d. not (same_auth d.auth auth)) xs)
without-more seen seen' auth h [] = refl
without-more seen seen' auth h (d ∷ xs) =
    ap (λ b. cond (not b) (d ∷ without seen' xs) (without seen' xs)) (h d.auth)
    ∙ without_one (has_auth seen d.auth) (same_auth auth d.auth) d (without seen' xs) (without seen (filter (λ d. not (same_auth d.auth auth)) xs)) (without-more seen seen' auth h xs)
    ∙ ap (λ b. cond (not b) (cond (not (has_auth seen d.auth)) (d ∷ without seen (filter (λ d. not (same_auth d.auth auth)) xs)) (without seen (filter (λ d. not (same_auth d.auth auth)) xs))) (without seen (filter (λ d. not (same_auth d.auth auth)) xs))) (same_auth-comm auth d.auth)
    ∙ sym (filter-cond (λ c. not (has_auth seen c.auth)) (not (same_auth d.auth auth)) d (filter (λ d. not (same_auth d.auth auth)) xs))

-- a payment is counted, or its authorization was seen
pub counting_step : (seen seen' : List Auth) (counted counted' : List Counted) (c : Counted) (rest : List Counted) → counted' ≡ (if has_auth seen c.auth then counted else counted ++ c ∷ []) → ((a : Auth) → has_auth seen' a ≡ (has_auth seen a || same_auth c.auth a)) →
    counted' ++ without seen' (firsts rest) ≡ counted ++ without seen (firsts (c ∷ rest))
counting_step seen seen' counted counted' c rest e h =
    ap (λ xs. xs ++ without seen' (firsts rest)) e
    ∙ ap (λ xs. (if has_auth seen c.auth then counted else counted ++ c ∷ []) ++ xs) (without-more seen seen' c.auth h (firsts rest))
    ∙ by_test (has_auth seen c.auth) (without seen (filter (λ d. not (same_auth d.auth c.auth)) (firsts rest)))
  where
    by_test : (b : Bool) (xs : List Counted) → (if b then counted else counted ++ c ∷ []) ++ xs ≡ counted ++ cond (not b) (c ∷ xs) xs
    by_test true xs = refl
    by_test false xs = append_assoc counted (c ∷ []) xs

pub counting_at : (seen seen' : List Auth) (counted counted' : List Counted) (named : List Counted) (i : ℕ) (c : Counted) → i < length named → c ≡ Rattle.std.proofs.Common.get_or named i c → counted' ≡ (if has_auth seen c.auth then counted else counted ++ c ∷ []) → ((a : Auth) → has_auth seen' a ≡ (has_auth seen a || same_auth c.auth a)) →
    counted' ++ without seen' (firsts (drop (i + 1) named)) ≡ counted ++ without seen (firsts (drop i named))
counting_at seen seen' counted counted' named i c lt is e h =
    counting_step seen seen' counted counted' c (drop (i + 1) named) e h
    ∙ ap (λ (xs : List Counted). counted ++ without seen (firsts xs)) (ap (λ (x : Counted). x ∷ drop (i + 1) named) is ∙ sym (drop_more named i c lt))

-- ---- outcomes

pub outcomes_between-at : (fills : List (Option Fill)) (rulings : List Ruling) (i : ℕ) (fill : Option Fill) (ruling : Ruling) → i < length fills → i < length rulings → fill ≡ Rattle.std.proofs.Common.get_or fills i fill → ruling ≡ Rattle.std.proofs.Common.get_or rulings i ruling →
    outcomes_between (drop i fills) (drop i rulings) ≡ record { fill = fill; ruling = ruling } ∷ outcomes_between (drop (i + 1) fills) (drop (i + 1) rulings)
outcomes_between-at fills rulings i fill ruling lf lr isf isr =
    ap (λ (xs : List (Option Fill)). outcomes_between xs (drop i rulings)) (drop_more fills i fill lf ∙ ap (λ (x : Option Fill). x ∷ drop (i + 1) fills) (sym isf))
    ∙ ap (λ (xs : List Ruling). outcomes_between (fill ∷ drop (i + 1) fills) xs) (drop_more rulings i ruling lr ∙ ap (λ (x : Ruling). x ∷ drop (i + 1) rulings) (sym isr))

-- what is named so far, and what is left
pub named_step : (named named' : List Counted) (os before after : List Outcome) → named' ≡ named ++ filter_map named_in os → before ≡ os ++ after → named' ++ filter_map named_in after ≡ named ++ filter_map named_in before
named_step named named' os before after e f =
    ap (λ xs. xs ++ filter_map named_in after) e ∙ append_assoc named (filter_map named_in os) (filter_map named_in after)
    ∙ ap (λ xs. named ++ xs) (sym (filter_map-append named_in os after) ∙ ap (filter_map named_in) (sym f))

-- what is reversed so far, and what is left
pub reversed_step : (a : Auth) (had has : Bool) (os before after : List Outcome) → has ≡ (had || list_any (outcome_reverses a) os) → before ≡ os ++ after → (has || list_any (outcome_reverses a) after) ≡ (had || list_any (outcome_reverses a) before)
reversed_step a had has os before after e f =
    ap (λ b. b || list_any (outcome_reverses a) after) e ∙ or_assoc had (list_any (outcome_reverses a) os) (list_any (outcome_reverses a) after)
    ∙ ap (λ b. had || b) (sym (list_any-append (outcome_reverses a) os after) ∙ ap (list_any (outcome_reverses a)) (sym f))

-- a text that is no request bills nothing
pub no_fills : (text : List ℕ) (fault : FramingFault) → framing_fault request_kind text ≡ Some fault → [] ≡ fills_in text
unfolding transmission_of
no_fills text fault e = rw e refl

-- past the last group or ruling nothing is left
pub outcomes_between-end : (fills : List (Option Fill)) (rulings : List Ruling) (k : ℕ) → min (length fills) (length rulings) ≤ k → outcomes_between (drop k fills) (drop k rulings) ≡ []
outcomes_between-end fills rulings k h =
    ⊎_elim
    (λ (lt : k < length fills). ap (outcomes_between (drop k fills)) (drop_all k rulings (omega (arith, h, lt))) ∙ no_rulings (drop k fills))
    (λ (ge : length fills ≤ k). ap (λ (xs : List (Option Fill)). outcomes_between xs (drop k rulings)) (drop_all k fills ge))
    (cases_lt k (length fills))
  where
    no_rulings : (fills : List (Option Fill)) → outcomes_between fills [] ≡ []
    no_rulings [] = refl
    no_rulings (x ∷ fills) = refl

-- an entry and those after it
pub outcomes-at : (slots : List Slot) (i : ℕ) (slot : Slot) → i < length slots → slot ≡ Rattle.std.proofs.Common.get_or slots i slot → outcomes (map kept_of (drop i slots)) ≡ outcomes_of (kept_of slot).request (kept_of slot).answer ++ outcomes (map kept_of (drop (i + 1) slots))
outcomes-at slots i slot lt is = ap (λ (xs : List Slot). outcomes (map kept_of xs)) (drop_more slots i slot lt ∙ ap (λ (x : Slot). x ∷ drop (i + 1) slots) (sym is))

filter-same : (p q : Counted → Bool) → ((c : Counted) → p c ≡ q c) → (xs : List Counted) → filter p xs ≡ filter q xs
filter-same p q e [] = refl
filter-same p q e (x ∷ xs) = rw (e x, filter-same p q e xs) refl

-- what the two passes give
pub counted_by : (os : List Outcome) (named : List Counted) (reversed : List Auth) → named ≡ filter_map named_in os → ((a : Auth) → has_auth reversed a ≡ list_any (outcome_reverses a) os) → without reversed (firsts named) ≡ counted_in os
unfolding counted_in
counted_by os named reversed e h =
    ap (λ (xs : List Counted). without reversed (firsts xs)) e
    ∙ filter-same (λ c. not (has_auth reversed c.auth)) (λ c. not (list_any (outcome_reverses c.auth) os)) (λ c. ap not (h c.auth)) (firsts (filter_map named_in os))

-- ---- the model's count

payment_named : (order : Result Order (List Code)) (ruling : Ruling) → named_by order ruling ≡ payment_of (fill_billed order) ruling
payment_named (Ok (Bills c)) (Paid auth prescription amounts) = refl
payment_named (Ok (Bills c)) (Duplicate auth prescription amounts) = refl
payment_named (Ok (Bills c)) (Reversed auth prescription) = refl
payment_named (Ok (Bills c)) (Rejected codes) = refl
payment_named (Ok (Reverses v)) ruling = refl
payment_named (Err codes) ruling = refl

named_groups : (id : TxnId) (place : ℕ) (orders : List (Result Order (List Code))) (rulings : List Ruling) → filter_map named (ruled_from id place orders rulings) ≡ filter_map named_in (outcomes_between (map fill_billed orders) rulings)
named_groups id place [] rulings = refl
named_groups id place (order ∷ orders) [] = refl
named_groups id place (order ∷ orders) (ruling ∷ rulings) = rw (payment_named order ruling, named_groups id (place + 1) orders rulings) refl

reversed_groups : (a : Auth) (id : TxnId) (place : ℕ) (orders : List (Result Order (List Code))) (rulings : List Ruling) → list_any (reverses a) (ruled_from id place orders rulings) ≡ list_any (outcome_reverses a) (outcomes_between (map fill_billed orders) rulings)
reversed_groups a id place [] rulings = refl
reversed_groups a id place (order ∷ orders) [] = refl
reversed_groups a id place (order ∷ orders) (ruling ∷ rulings) = ap (λ b. is_auth a (auth_reversed ruling) || b) (reversed_groups a id (place + 1) orders rulings)

named_answer : (routes : RouteMaps) (id : TxnId) (request : List ℕ) (answer : Option (List ℕ)) → filter_map named (ruled_answer (bytes_with routes) id request answer) ≡ filter_map named_in (outcomes_of request answer)
named_answer routes id request None = refl
named_answer routes id request (Some answer) = named_groups id 1 (orders_in (transmission_of request_kind request)) (rulings_told answer)

reversed_answer : (routes : RouteMaps) (a : Auth) (id : TxnId) (request : List ℕ) (answer : Option (List ℕ)) → list_any (reverses a) (ruled_answer (bytes_with routes) id request answer) ≡ list_any (outcome_reverses a) (outcomes_of request answer)
reversed_answer routes a id request None = refl
reversed_answer routes a id request (Some answer) = reversed_groups a id 1 (orders_in (transmission_of request_kind request)) (rulings_told answer)

named_entries : (routes : RouteMaps) (pharmacy n : ℕ) (entries : List Kept) → filter_map named (ruled_entries (bytes_with routes) pharmacy n entries) ≡ filter_map named_in (outcomes entries)
named_entries routes pharmacy n [] = refl
named_entries routes pharmacy n (k ∷ entries) =
    filter_map-append named (ruled_answer (bytes_with routes) (record { pharmacy = pharmacy; number = n }) k.request k.answer) (ruled_entries (bytes_with routes) pharmacy (n + 1) entries)
    ∙ ap (λ (xs : List Counted). xs ++ filter_map named (ruled_entries (bytes_with routes) pharmacy (n + 1) entries)) (named_answer routes (record { pharmacy = pharmacy; number = n }) k.request k.answer)
    ∙ ap (λ (xs : List Counted). filter_map named_in (outcomes_of k.request k.answer) ++ xs) (named_entries routes pharmacy (n + 1) entries)
    ∙ sym (filter_map-append named_in (outcomes_of k.request k.answer) (outcomes entries))

reversed_entries : (routes : RouteMaps) (a : Auth) (pharmacy n : ℕ) (entries : List Kept) → list_any (reverses a) (ruled_entries (bytes_with routes) pharmacy n entries) ≡ list_any (outcome_reverses a) (outcomes entries)
reversed_entries routes a pharmacy n [] = refl
reversed_entries routes a pharmacy n (k ∷ entries) =
    list_any-append (reverses a) (ruled_answer (bytes_with routes) (record { pharmacy = pharmacy; number = n }) k.request k.answer) (ruled_entries (bytes_with routes) pharmacy (n + 1) entries)
    ∙ ap (λ b. b || list_any (reverses a) (ruled_entries (bytes_with routes) pharmacy (n + 1) entries)) (reversed_answer routes a (record { pharmacy = pharmacy; number = n }) k.request k.answer)
    ∙ ap (λ b. list_any (outcome_reverses a) (outcomes_of k.request k.answer) || b) (reversed_entries routes a pharmacy (n + 1) entries)
    ∙ sym (list_any-append (outcome_reverses a) (outcomes_of k.request k.answer) (outcomes entries))

-- numbers and places say nothing of what is counted
pub counted_is : (routes : RouteMaps) (j : JournalAtRest) → counted_in (outcomes j.entries) ≡ counted (bytes_with routes) j
unfolding counted counted_in
counted_is routes j =
    filter-same (λ c. not (list_any (outcome_reverses c.auth) (outcomes j.entries))) (λ c. not (is_reversed (told (bytes_with routes) j) c)) (λ c. ap not (sym (reversed_entries routes c.auth j.number 1 j.entries))) (firsts (filter_map named_in (outcomes j.entries)))
    ∙ ap (λ (xs : List Counted). filter (λ c. not (is_reversed (told (bytes_with routes) j) c)) (firsts xs)) (sym (named_entries routes j.number 1 j.entries))

pub or_false : (b : Bool) → (b || false) ≡ b
or_false true = refl
or_false false = refl

-- ---- groups

-- a group with its ruling, and those after it
pub group_step : {G : Type 0} (order : G → Result Order (List Code)) (groups : List G) (none : G) (rulings : List Ruling) (i : ℕ) (fill : Option Fill) (ruling : Ruling) → i < length groups → i < length rulings → fill ≡ fill_billed (order (Rattle.std.proofs.Common.get_or groups i none)) →
    ruling ≡ Rattle.std.proofs.Common.get_or rulings i ruling →
    outcomes_between (drop i (map fill_billed (map order groups))) (drop i rulings) ≡ record { fill = fill; ruling = ruling } ∷ outcomes_between (drop (i + 1) (map fill_billed (map order groups))) (drop (i + 1) rulings)
group_step order groups none rulings i fill ruling lg lr isf isr =
    let orders = map order groups in
    let many : length orders ≡ length groups = length-map groups order in
    let as_many : length (map fill_billed orders) ≡ length groups = length-map orders fill_billed ∙ many in
    let at : Rattle.std.proofs.Common.get_or (map fill_billed orders) i fill ≡ fill_billed (order (Rattle.std.proofs.Common.get_or groups i none)) =
    get_or-map fill_billed orders i (order none) fill (omega (arith, many, lg)) ∙ ap fill_billed (get_or-map order groups i none (order none) lg) in
    outcomes_between-at (map fill_billed orders) rulings i fill ruling (omega (arith, as_many, lg)) lr (isf ∙ sym at) isr

-- the payment that one outcome names, as a list
pub one_named : (fill : Option Fill) (ruling : Ruling) → option_to_list (payment_of fill ruling) ≡ filter_map named_in (record { fill = fill; ruling = ruling } ∷ [])
one_named None ruling = refl
one_named (Some fill) (Paid auth prescription amounts) = refl
one_named (Some fill) (Duplicate auth prescription amounts) = refl
one_named (Some fill) (Reversed auth prescription) = refl
one_named (Some fill) (Rejected codes) = refl

-- past the last group or ruling nothing is left
pub groups-end : {G : Type 0} (order : G → Result Order (List Code)) (groups : List G) (rulings : List Ruling) (k : ℕ) → min (length groups) (length rulings) ≤ k → outcomes_between (drop k (map fill_billed (map order groups))) (drop k rulings) ≡ []
groups-end order groups rulings k h =
    let as_many : length groups ≡ length (map fill_billed (map order groups)) = sym (length-map (map order groups) fill_billed ∙ length-map groups order) in
    outcomes_between-end (map fill_billed (map order groups)) rulings k (subst (λ (n : ℕ). min n (length rulings) ≤ k) as_many h)

-- ---- entries

-- an entry that is listed, and those after it
pub listed_step : (views views' : List Listed) (view : Listed) (slots : List Slot) (i number : ℕ) (slot : Slot) → i < length slots → slot ≡ Rattle.std.proofs.Common.get_or slots i slot → views' ≡ views ++ view ∷ [] → listed_by number (kept_of slot).answer (header_of (kept_of slot).request) ≡ view ∷ [] →
    views' ++ listed_from (number + 1) (map kept_of (drop (i + 1) slots)) ≡ views ++ listed_from number (map kept_of (drop i slots))
listed_step views views' view slots i number slot lt is e one =
    let more = listed_from (number + 1) (map kept_of (drop (i + 1) slots)) in
    ap (λ (vs : List Listed). vs ++ more) e ∙ append_assoc views (view ∷ []) more
    ∙ ap (λ (vs : List Listed). views ++ (vs ++ more)) (sym one)
    ∙ ap (λ (xs : List Slot). views ++ listed_from number (map kept_of xs)) (sym (drop_more slots i slot lt ∙ ap (λ (x : Slot). x ∷ drop (i + 1) slots) (sym is)))
