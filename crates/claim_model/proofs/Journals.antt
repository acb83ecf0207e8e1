-- What calls make of a journal, seen without its phases: nothing, one more entry, or an answer at an open one.
use Rattle.std.proofs.Common.{◌≡◌, ℕ, zero, suc, ◌+◌, ◌%◌, ◌<◌, Bool, true, false, not, ◌&&◌, ◌==◌, cond, List, [], ◌∷◌, ◌++◌, map, length, Option, Some, None, Result, Ok, Err, slice_get, slice_set, refl, sym, ap, ◌∙◌, subst, arith, append_assoc, length-append, ltb-true}
use Rattle.std.specs.Prelude.{bytes_eq}
use Rattle.std.specs.List.{AllByRecursion}
use Rattle.std.proofs.lemmas.List.{map_push}
use mathlib.Core.Path.{ap₂}
use Rattle.std.proofs.lemmas.Bool.{not-false, not-true, and_parts}
use Rattle.claim_model.specs.Words.{RequestHeader, Envelope}
use Rattle.claim_model.specs.Context.{Context}
use Rattle.claim_model.specs.Readable.{readable, settles, request_envelope, is_request}
use Rattle.claim_model.specs.Refusal.{Refusal}
use Rattle.claim_model.specs.Numbered.{numbered, renumbered}
use Rattle.claim_model.specs.Journal.{RetryRule, State, Waits, Has, Entry, Journal, Kept, JournalAtRest, Sending, circle, sending, is_own, submit_fault, Submitted, submitted_unless, submitted, ticked_state, ticked, due_by, due_from, due, settle_by, settle_with, heard_at, heard, answer_in, kept_entry, stopped, started_state, started, with_rule, ruled_anew}
use Rattle.claim_model.proofs.Lists.{numbered_map, all_append}
use Rattle.claim_model.proofs.Tests.{readable_from, nat_same}

-- a journal with one more entry
abbrev pub entry_added : JournalAtRest → List ℕ → JournalAtRest
entry_added j text = record { number = j.number; settings = j.settings; rule = j.rule; entries = j.entries ++ record { request = text; answer = None } ∷ [] }

-- a journal with an answer at an entry
abbrev pub entry_settled : JournalAtRest → ℕ → Kept → List ℕ → JournalAtRest
entry_settled j number e answer = record { number = j.number; settings = j.settings; rule = j.rule; entries = renumbered j.entries number (record { request = e.request; answer = Some answer }) }

pub record Enters (ctx : Context) (j : JournalAtRest) (text : List ℕ) : Type 0 where
  pub header : RequestHeader
  pub reads : readable ctx text ≡ Some header
  pub own : is_own j.settings header ≡ true
  pub room : length j.entries < j.settings.cap

pub record Settles (ctx : Context) (j : JournalAtRest) (number : ℕ) (answer : List ℕ) (after : JournalAtRest) : Type 0 where
  pub entry : Kept
  pub stands : numbered j.entries number ≡ Some entry
  pub is_open : entry.answer ≡ None
  pub fits : settles ctx entry.request answer ≡ true
  pub is : after ≡ entry_settled j number entry answer

-- submissions

pub fault_none : (b : Bool) (f : Refusal) (rest : Option Refusal) → cond b (Some f) rest ≡ None → (b ≡ false) × (rest ≡ None)
fault_none true f rest e = absurd cc
fault_none false f rest e = (refl, e)

length_kept : (es : List Entry) → length (map kept_entry es) ≡ length es
length_kept [] = refl
length_kept (e ∷ es) = ap suc (length_kept es)

enters_by : (ctx : Context) (j : Journal) (text : List ℕ) (o : Option RequestHeader) → ctx.header text ≡ o → submit_fault j text o ≡ None → Enters ctx (stopped j) text
unfolding stopped
enters_by ctx j text None is e = absurd cc
enters_by ctx j text (Some h) is e =
    let a = fault_none _ _ _ e in
    let b = fault_none _ _ _ a.1 in
    let c = fault_none _ _ _ b.1 in
    let d = fault_none _ _ _ c.1 in
    let f = fault_none _ _ _ d.1 in
    record {
      header = h;
      reads = readable_from ctx text h is (not-false _ a.0) (not-false _ b.0) (not-false _ d.0);
      own = not-false _ c.0;
      room = let r : length j.entries < j.settings.cap = ltb-true _ _ (not-false _ f.0) in omega (arith, length_kept j.entries);
    }

submitted_by : (ctx : Context) (j : Journal) (text : List ℕ) (s : Submitted) (o : Option Refusal) → submit_fault j text (ctx.header text) ≡ o → submitted_unless ctx j text o ≡ Ok s
    → Enters ctx (stopped j) text × (stopped s.journal ≡ entry_added (stopped j) text) × (s.sent ≡ sending ctx j (length j.entries + 1) 0 text)
unfolding stopped
submitted_by ctx j text s (Some f) is e = absurd cc
submitted_by ctx j text s None is e =
    let same = same_ok _ s e in (
      enters_by ctx j text (ctx.header text) refl is,
      ap (λ (x : Submitted). stopped x.journal) (sym same) ∙ ap (λ es. record { number = j.number; settings = j.settings; rule = j.rule; entries = es }) (map_push kept_entry j.entries (record { request = text; state = Waits 0 })),
      ap (λ (x : Submitted). x.sent) (sym same),
    )
  where
    same_ok : (a b : Submitted) → ◌≡◌ {A = Result Submitted Refusal} (Ok a) (Ok b) → a ≡ b
    same_ok a b h = cc

-- a submission adds one entry, and sends its request
pub submitted_enters : (ctx : Context) (j : Journal) (text : List ℕ) (s : Submitted) → submitted ctx j text ≡ Ok s
    → Enters ctx (stopped j) text × (stopped s.journal ≡ entry_added (stopped j) text) × (s.sent ≡ sending ctx j (length j.entries + 1) 0 text)
unfolding submitted
submitted_enters ctx j text s e = submitted_by ctx j text s (submit_fault j text (ctx.header text)) refl e

-- a journal that is up, with one more entry
abbrev pub entered_journal : Journal → List ℕ → Journal
entered_journal j text = record { number = j.number; settings = j.settings; rule = j.rule; entries = j.entries ++ record { request = text; state = Waits 0 } ∷ [] }

submitted_is_by : (ctx : Context) (j : Journal) (text : List ℕ) (s : Submitted) (o : Option Refusal) → submitted_unless ctx j text o ≡ Ok s → s.journal ≡ entered_journal j text
submitted_is_by ctx j text s (Some f) e = absurd cc
submitted_is_by ctx j text s None e = same_ok _ s e
  where
    same_ok : (a b : Submitted) → ◌≡◌ {A = Result Submitted Refusal} (Ok a) (Ok b) → b.journal ≡ a.journal
    same_ok a b h = let same : a ≡ b = cc in ap (λ (x : Submitted). x.journal) (sym same)

pub submitted_is : (ctx : Context) (j : Journal) (text : List ℕ) (s : Submitted) → submitted ctx j text ≡ Ok s → s.journal ≡ entered_journal j text
unfolding submitted
submitted_is ctx j text s e = submitted_is_by ctx j text s (submit_fault j text (ctx.header text)) e

-- ticks, stops and starts

ticked_kept : (phases : ℕ) (es : List Entry) → map kept_entry (map (λ e. record { request = e.request; state = ticked_state phases e.state }) es) ≡ map kept_entry es
ticked_kept phases [] = refl
ticked_kept phases (e ∷ es) = ap₂ (λ k ks. record { request = e.request; answer = k } ∷ ks) (same_answer e.state) (ticked_kept phases es)
  where
    same_answer : (s : State) → answer_in (ticked_state phases s) ≡ answer_in s
    same_answer (Waits phase) = refl
    same_answer (Has answer) = refl

-- a tick changes phases alone
pub ticked_same : (j : Journal) → stopped (ticked j) ≡ stopped j
unfolding stopped ticked
ticked_same j = ap (λ es. record { number = j.number; settings = j.settings; rule = j.rule; entries = es }) (ticked_kept (circle j.rule) j.entries)

started_kept : (phase : ℕ) (ks : List Kept) → map kept_entry (map (λ k. record { request = k.request; state = started_state phase k.answer }) ks) ≡ ks
started_kept phase [] = refl
started_kept phase (k ∷ ks) = ap₂ (λ a ks. record { request = k.request; answer = a } ∷ ks) (same_answer k.answer) (started_kept phase ks)
  where
    same_answer : (o : Option (List ℕ)) → answer_in (started_state phase o) ≡ o
    same_answer None = refl
    same_answer (Some a) = refl

-- a start brings back what was at rest
pub started_same : (j : JournalAtRest) → stopped (started j) ≡ j
unfolding stopped started
started_same j = ap (λ es. record { number = j.number; settings = j.settings; rule = j.rule; entries = es }) (started_kept _ j.entries)

-- another rule

-- it changes the rule and phases alone
pub ruled_same : (r : RetryRule) (j : Journal) → stopped (ruled_anew r j) ≡ with_rule r (stopped j)
unfolding ruled_anew
ruled_same r j = started_same (with_rule r (stopped j))

-- answers

map_put : {A B : Type 0} (f : A → B) (xs : List A) (k : ℕ) (a : A) → map f (slice_set xs k a) ≡ slice_set (map f xs) k (f a)
map_put f [] k a = refl
map_put f (x ∷ xs) zero a = refl
map_put f (x ∷ xs) (suc k) a = ap (λ ys. f x ∷ ys) (map_put f xs k a)

map_renumbered : {A B : Type 0} (f : A → B) (xs : List A) (n : ℕ) (a : A) → map f (renumbered xs n a) ≡ renumbered (map f xs) n (f a)
map_renumbered f xs zero a = refl
map_renumbered f xs (suc k) a = map_put f xs k a

settle_open : (answer : List ℕ) (s t : State) → settle_by answer s ≡ Ok t → (answer_in s ≡ None) × (t ≡ Has answer)
settle_open answer (Waits phase) t e = (refl, cc)
settle_open answer (Has held) t e = go (bytes_eq held answer) e
  where
    go : (b : Bool) → cond b (Err Refusal.AlreadySettled) (Err Refusal.Differs) ≡ Ok t → (answer_in (Has held) ≡ None) × (t ≡ Has answer)
    go true h = absurd cc
    go false h = absurd cc

abbrev pub settled_journal : Journal → ℕ → Entry → State → Journal
settled_journal j number e t = record { number = j.number; settings = j.settings; rule = j.rule; entries = renumbered j.entries number (record { request = e.request; state = t }) }

settle_with_ok : (j : Journal) (number : ℕ) (e : Entry) (r : Result State Refusal) (after : Journal) → settle_with j number e r ≡ Ok after → (t : State) × (r ≡ Ok t) × (after ≡ settled_journal j number e t)
settle_with_ok j number e (Err f) after h = absurd cc
settle_with_ok j number e (Ok t) after h = (t, refl, cc)

cond_ok : {A : Type 0} (b : Bool) (r : Result A Refusal) (f : Refusal) (a : A) → cond b r (Err f) ≡ Ok a → (b ≡ true) × (r ≡ Ok a)
cond_ok true r f a h = (refl, h)
cond_ok false r f a h = absurd cc

heard_at_settles : (ctx : Context) (j : Journal) (e : Envelope) (o : Option Entry) (after : Journal) → numbered j.entries e.id.number ≡ o → heard_at ctx j e o ≡ Ok after
    → Settles ctx (stopped j) e.id.number e.payload (stopped after) × (is_request e ≡ false)
unfolding stopped
heard_at_settles ctx j e None after is h = absurd cc
heard_at_settles ctx j e (Some entry) after is h =
    let a = cond_ok (not (is_request e) && settles ctx entry.request e.payload) _ _ after h in
    let b = and_parts (not (is_request e)) (settles ctx entry.request e.payload) a.0 in
    let c = settle_with_ok j e.id.number entry (settle_by e.payload entry.state) after a.1 in
    let d = settle_open e.payload entry.state c.0 c.1 in (
      record {
        entry = kept_entry entry;
        stands = numbered_map kept_entry j.entries e.id.number ∙ ap (λ o. Rattle.std.specs.Prelude.option_map kept_entry o) is;
        is_open = d.0;
        fits = b.1;
        is =
            ap stopped c.2
            ∙ (ap (λ t. stopped (settled_journal j e.id.number entry t)) d.1
            ∙ ap (λ es. record { number = j.number; settings = j.settings; rule = j.rule; entries = es }) (map_renumbered kept_entry j.entries e.id.number (record { request = entry.request; state = Has e.payload })));
      },
      not-true _ b.0,
    )

-- an answer that is heard settles an open entry of this pharmacy
pub heard_settles : (ctx : Context) (j : Journal) (e : Envelope) (after : Journal) → heard ctx j e ≡ Ok after
    → Settles ctx (stopped j) e.id.number e.payload (stopped after) × (is_request e ≡ false) × (e.id.pharmacy ≡ j.number)
unfolding heard
heard_settles ctx j e after h =
    let a = cond_ok (e.id.pharmacy == j.number) (heard_at ctx j e (numbered j.entries e.id.number)) _ after h in
    let b = heard_at_settles ctx j e (numbered j.entries e.id.number) after refl a.1 in
    (b.0, b.1, nat_same _ _ a.0)

heard_is_at : (ctx : Context) (j : Journal) (e : Envelope) (o : Option Entry) (after : Journal) → heard_at ctx j e o ≡ Ok after → (entry : Entry) × (after ≡ settled_journal j e.id.number entry (Has e.payload))
heard_is_at ctx j e None after h = absurd cc
heard_is_at ctx j e (Some entry) after h =
    let a = cond_ok (not (is_request e) && settles ctx entry.request e.payload) _ _ after h in
    let c = settle_with_ok j e.id.number entry (settle_by e.payload entry.state) after a.1 in
    let d = settle_open e.payload entry.state c.0 c.1 in
    (entry, c.2 ∙ ap (settled_journal j e.id.number entry) d.1)

-- an answer that is heard stands at its number
pub heard_is : (ctx : Context) (j : Journal) (e : Envelope) (after : Journal) → heard ctx j e ≡ Ok after → (entry : Entry) × (after ≡ settled_journal j e.id.number entry (Has e.payload))
unfolding heard
heard_is ctx j e after h = heard_is_at ctx j e (numbered j.entries e.id.number) after (cond_ok (e.id.pharmacy == j.number) (heard_at ctx j e (numbered j.entries e.id.number)) _ after h).1

-- what is sent

-- a sending is the request of an entry
pub record Asks (ctx : Context) (j : Journal) (s : Sending) : Type 0 where
  pub number : ℕ
  pub entry : Entry
  pub stands : numbered j.entries number ≡ Some entry
  pub bytes : s.bytes ≡ ctx.envelope (request_envelope (record { pharmacy = j.number; number = number }) entry.request)

pub numbered_middle : {A : Type 0} (xs : List A) (y : A) (ys : List A) → numbered (xs ++ y ∷ ys) (length xs + 1) ≡ Some y
numbered_middle xs y ys = let e : suc (length xs) ≡ length xs + 1 = omega arith in subst (λ (n : ℕ). numbered (xs ++ y ∷ ys) n ≡ Some y) e (get_middle xs y ys)
  where
    get_middle : {A : Type 0} (xs : List A) (y : A) (ys : List A) → slice_get (xs ++ y ∷ ys) (length xs) ≡ Some y
    get_middle [] y ys = refl
    get_middle (x ∷ xs) y ys = get_middle xs y ys

due_by_asks : (ctx : Context) (j : Journal) (number : ℕ) (e : Entry) (s : State) → numbered j.entries number ≡ Some e → AllByRecursion (Asks ctx j) (due_by ctx j number e.request s)
due_by_asks ctx j number e (Has answer) h = tt
due_by_asks ctx j number e (Waits phase) h = go ((phase % j.rule.again) == 0)
  where
    go : (b : Bool) → AllByRecursion (Asks ctx j) (cond b (sending ctx j number phase e.request ∷ []) [])
    go true = (record { number = number; entry = e; stands = h; bytes = refl }, tt)
    go false = tt

due_from_asks : (ctx : Context) (j : Journal) (xs ys : List Entry) (number : ℕ) → j.entries ≡ xs ++ ys → number ≡ length xs + 1 → AllByRecursion (Asks ctx j) (due_from ctx j number ys)
due_from_asks ctx j xs [] number is at' = tt
due_from_asks ctx j xs (y ∷ ys) number is at' =
    let here : numbered j.entries number ≡ Some y = ap₂ numbered is at' ∙ numbered_middle xs y ys in
    let next : number + 1 ≡ length (xs ++ y ∷ []) + 1 = omega (arith, length-append xs (y ∷ [])) in
    all_append (Asks ctx j) _ _ (due_by_asks ctx j number y y.state here)
    (due_from_asks ctx j (xs ++ y ∷ []) ys (number + 1) (is ∙ sym (append_assoc xs (y ∷ []) ys)) next)

-- what a tick sends are requests of the journal
pub due_asks : (ctx : Context) (j : Journal) → AllByRecursion (Asks ctx j) (due ctx j)
unfolding due
due_asks ctx j = due_from_asks ctx j [] j.entries 1 refl refl
