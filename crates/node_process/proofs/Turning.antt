-- From one turn to the next.
use Rattle.std.proofs.Common.{◌≡◌, ◌≤◌, ◌<◌, ℕ, zero, suc, ◌+◌, List, [], ◌∷◌, ◌++◌, length, take, Result, Ok, Err, OnOk, IfErr, IsErr, IsErrAnd, Option, Some, None, cond, inl, inr, refl, sym, ap, ◌∙◌, subst, arith, length-append}
use Rattle.std.proofs.lemmas.List.{length-take-le}
use Rattle.node_service.specs.Serving.{Serving}
use Rattle.node_service.specs.Lines.{after_lines}
use Rattle.node_service.specs.Opened.{IsOpened}
use Rattle.node_process.specs.declared.unserved.Unserved.{Unserved}
use Rattle.node_process.specs.declared.unserved.Unserved.TheVariants.{OutOfMemory, Refused, FewCalls, LongLine, TooManyTurns, Io}
use Rattle.node_process.specs.Acts.{Act, Found, Hear, Unheard, heard}
use Rattle.node_process.specs.Ends.{most_bytes, HasFew, TellsLack, Remembers, Breaks, Stops, EndsFor, Leaves, stays, IsUnheeded}
use Rattle.node_process.specs.Heard.{whole_lines, begun_line, NoNewline}
use Rattle.node_process.specs.Safe.{Whose, closed_calls, FitsInput, IsUnopened, IsRun, IsRunDone, Serves, IsTurn}
use Rattle.node_process.proofs.Splitting.{begun_append}
use Rattle.node_process.proofs.Moments.{hear_runs, unheard_runs, hear_serves, ends_done}
use Rattle.node_process.proofs.Remembering.{unheard_breaks, end_held}

pub begins_turn : (whose : Whose) (t : List Act) (s : Serving) → Serves whose t s → heard t ≡ [] → s.records ≡ [] → s.out ≡ [] → IsTurn whose t s []
begins_turn whose t s serves deaf no_records no_words =
    record { serves = serves; begun = ap begun_line (sym deaf); none = tt; no_records = no_records; no_words = no_words }

pub turn_runs : (whose : Whose) (t : List Act) (s : Serving) (pending bytes : List ℕ) → IsTurn whose t s pending → IsRun whose (Hear bytes ∷ t)
turn_runs whose t s pending bytes turn = hear_runs whose t s bytes turn.serves

pub turn_deaf : (whose : Whose) (t : List Act) (s : Serving) (pending : List ℕ) → IsTurn whose t s pending → IsRun whose (Unheard ∷ t)
turn_deaf whose t s pending turn = unheard_runs whose t s turn.serves

pub turn_serves : (whose : Whose) (t : List Act) (s next : Serving) (pending bytes : List ℕ) → IsTurn whose t s pending → next ≡ after_lines s (whole_lines (pending ++ bytes)) → FitsInput s (pending ++ bytes)
    → Serves whose (Hear bytes ∷ t) next
turn_serves whose t s next pending bytes turn is fits =
    subst (Serves whose (Hear bytes ∷ t)) (ap (λ (x : List ℕ). after_lines s (whole_lines (x ++ bytes))) (sym turn.begun) ∙ sym is) (hear_serves whose t s bytes turn.serves (subst (λ (x : List ℕ). FitsInput s (x ++ bytes)) turn.begun fits))

pub turn_on : (whose : Whose) (t u : List Act) (s next : Serving) (pending bytes more : List ℕ) → IsTurn whose t s pending → Serves whose u next → heard u ≡ heard t ++ bytes → more ≡ begun_line (pending ++ bytes) → NoNewline more
    → next.records ≡ [] → next.out ≡ [] → IsTurn whose u next more
turn_on whose t u s next pending bytes more turn serves hears is none no_records no_words =
    record {
      serves = serves;
      begun = is ∙ (ap (λ (x : List ℕ). begun_line (x ++ bytes)) turn.begun ∙ (sym (begun_append (heard t) bytes) ∙ ap begun_line (sym hears)));
      none = none;
      no_records = no_records;
      no_words = no_words;
    }

pub turn_ends : (whose : Whose) (t : List Act) (s : Serving) (pending bytes : List ℕ) → bytes ≡ [] → IsTurn whose t s pending → IsRunDone whose (Hear bytes ∷ t)
turn_ends whose t s pending bytes none turn = subst (λ (x : List ℕ). IsRunDone whose (Hear x ∷ t)) (sym none) (ends_done whose t s turn.serves turn.no_records turn.no_words)

-- where nothing comes any more
pub turn_breaks : (whose : Whose) (t : List Act) (s : Serving) (pending : List ℕ) → IsTurn whose t s pending → Breaks whose (Unheard ∷ t) s
turn_breaks whose t s pending turn = unheard_breaks whose t s turn.serves

pub turn_held : (whose : Whose) (t : List Act) (s : Serving) (pending bytes : List ℕ) → bytes ≡ [] → IsTurn whose t s pending → Remembers whose (Hear bytes ∷ t) s
turn_held whose t s pending bytes none turn = subst (λ (x : List ℕ). Remembers whose (Hear x ∷ t) s) (sym none) (end_held whose t s turn.serves)

-- where a line is too long
pub turn_stops : (whose : Whose) (t : List Act) (s next : Serving) (pending bytes : List ℕ) (why : Unserved) → IsTurn whose t s pending → IsUnheeded (pending ++ bytes) why → Stops whose (Hear bytes ∷ t) next why
turn_stops whose t s next pending bytes OutOfMemory turn u = tt
turn_stops whose t s next pending bytes (Refused fault) turn u = u
turn_stops whose t s next pending bytes (FewCalls calls) turn u = u
turn_stops whose t s next pending bytes LongLine turn u =
    let same : begun_line (pending ++ bytes) ≡ begun_line (heard t ++ bytes) = ap (λ (x : List ℕ). begun_line (x ++ bytes)) turn.begun ∙ sym (begun_append (heard t) bytes) in
    subst (λ (x : List ℕ). most_bytes < length x) same u
turn_stops whose t s next pending bytes TooManyTurns turn u = absurd u
turn_stops whose t s next pending bytes (Io error) turn u = absurd u

-- each turn takes a byte at least
pub turn_counts : (t : List Act) (bytes buffer : List ℕ) (count counter : ℕ) (u : List Act) → counter ≤ length (heard t) → bytes ≡ take count buffer → count ≤ length buffer → (count ≡ 0 → ⊥) → heard u ≡ heard t ++ bytes → counter + 1 ≤ length (heard u)
turn_counts t bytes buffer count counter u h is bound some hears =
    let a = ap length hears ∙ length-append (heard t) bytes in
    let b = ap length is ∙ length-take-le count buffer bound in
    let c = positive count some in
    omega (arith, h, a, b, c)
  where
    positive : (n : ℕ) → (n ≡ 0 → ⊥) → 1 ≤ n
    positive zero d = absurd (d refl)
    positive (suc n) d = omega arith

-- a fault that is handed on is this one
pub stops_as : {T : Type 0} (whose : Whose) (acts : List Act) (s : Serving) (why : Unserved) (r : Result T Unserved) → IsErrAnd r (λ (w : Unserved). w ≡ why) → Stops whose acts s why → IfErr r (Stops whose acts s)
stops_as whose acts s why (Ok x) is stops = tt
stops_as whose acts s why (Err e) is stops = subst (Stops whose acts s) (sym is) stops

-- why a process ends that was opened
pub stops_ends : (whose : Whose) (acts : List Act) (s : Serving) (r : Result Unit Unserved) → IfErr r (Stops whose acts s) → IfErr r (EndsFor whose acts)
stops_ends whose acts s (Ok x) stops = tt
stops_ends whose acts s (Err OutOfMemory) stops = tt
stops_ends whose acts s (Err (Refused why)) stops = absurd stops
stops_ends whose acts s (Err (FewCalls calls)) stops = absurd stops
stops_ends whose acts s (Err LongLine) stops = stops
stops_ends whose acts s (Err TooManyTurns) stops = stops
stops_ends whose acts s (Err (Io error)) stops = stops.failed

-- and what it leaves
pub leaves : (whose : Whose) (acts : List Act) (s : Serving) (m : Option Serving) (r : Result Unit Unserved) → OnOk r (Remembers whose acts s) → IfErr r (Stops whose acts s) → m ≡ None → Leaves whose acts r (cond (stays r) (Some s) m)
leaves whose acts s m (Ok x) held stops none = held
leaves whose acts s m (Err OutOfMemory) held stops none = none
leaves whose acts s m (Err (Refused why)) held stops none = none
leaves whose acts s m (Err (FewCalls calls)) held stops none = none
leaves whose acts s m (Err LongLine) held stops none = none
leaves whose acts s m (Err TooManyTurns) held stops none = none
leaves whose acts s m (Err (Io error)) held stops none = inr stops.held

-- one that was not opened leaves nothing
pub leaves_unopened : (whose : Whose) (acts : List Act) (m : Option Serving) (r : Result Unit Unserved) → IsErr r → IsUnopened acts → m ≡ None → Leaves whose acts r m
leaves_unopened whose acts m (Ok x) err unopened none = absurd cc
leaves_unopened whose acts m (Err OutOfMemory) err unopened none = none
leaves_unopened whose acts m (Err (Refused why)) err unopened none = none
leaves_unopened whose acts m (Err (FewCalls calls)) err unopened none = none
leaves_unopened whose acts m (Err LongLine) err unopened none = none
leaves_unopened whose acts m (Err TooManyTurns) err unopened none = none
leaves_unopened whose acts m (Err (Io error)) err unopened none = inl (unopened, none)

-- a log of fewer calls than it is known to have
pub has_few : (whose : Whose) (acts : List Act) (bytes : List ℕ) (start : Serving) (whole calls : ℕ) → acts ≡ Found bytes ∷ [] → IsOpened whose.settings whose.node whose.rest bytes whole start → TellsLack (closed_calls whose) start.calls whose.least (Some calls) → HasFew whose acts calls
has_few whose acts bytes start whole calls is opened lack = record { bytes = bytes; is = is; start = start; whole = whole; opened = opened; count = lack.0; few = lack.1 }
