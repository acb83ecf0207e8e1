-- What a pharmacy makes of a text or an envelope, beside the rules of its journal. These ask no route, so it is so under all of them.
use Rattle.std.specs.Prelude.{◌≡◌, ◌≢◌, ℕ, List, [], ◌∷◌, ◌++◌, Result, Ok, Err, IfOk, IfErr, OnOk}
use Rattle.envelope.specs.Envelope.{Opened}
use Rattle.bin_routes.specs.Table.{RouteMaps}
use Rattle.claim_model.specs.Bytes.{bytes_with}
use Rattle.claim_model.specs.declared.refusal.Refusal.{Refusal}
use Rattle.claim_model.specs.declared.refusal.Fault.{Fault}
use Rattle.claim_model.specs.declared.refusal.Refusal.TheVariants.{Unreadable}
use Rattle.claim_model.specs.Refusal.{refusal_of, IsRefused}
use Rattle.claim_model.specs.Journal.{Journal, Waits, Sending, heard, submitted}
use Rattle.pharmacy_journal.specs.Hearing.{envelope_seen}

-- the journal with one more entry, which begins to wait
abbrev pub with_waiting : Journal → List ℕ → Journal
with_waiting j request = record j { entries = j.entries ++ record { request = request; state = Waits 0 } ∷ [] }

-- a text is entered under the number, and its packet sent, as the rule says
abbrev pub Submits : Journal → List ℕ → Journal → Result (ℕ × Sending) Fault → Type 0
Submits old text new result = (routes : RouteMaps) → IfOk result (λ r. submitted (bytes_with routes) old text ≡ Ok (record { journal = new; number = r.0; sent = r.1 }))

-- it is refused for the cause for which the rule refuses it; want of memory says nothing of it
abbrev pub RefusesToSubmit : {A : Type 0} → Journal → List ℕ → Result A Fault → Type 0
RefusesToSubmit journal text result = (routes : RouteMaps) → IfErr result (λ e. IsRefused (refusal_of e) (submitted (bytes_with routes) journal text))

-- an envelope is heard, and leaves the journal that the rule leaves
abbrev pub Hears : Journal → Opened → Journal → Result (Unit {0}) Fault → Type 0
Hears old envelope new result = (routes : RouteMaps) → OnOk result (heard (bytes_with routes) old (envelope_seen envelope) ≡ Ok new)

-- the rule refuses an envelope for another cause than that it is unreadable, or not at all
abbrev pub IsReadableAnswer : Journal → Opened → Type 0
IsReadableAnswer journal envelope = (routes : RouteMaps) → heard (bytes_with routes) journal (envelope_seen envelope) ≢ Err Unreadable

-- hearing is refused for the cause for which this is; want of memory says nothing of it
abbrev pub RefusesAs : {A B : Type 0} → Result A Refusal → Result B Fault → Type 0
RefusesAs outcome result = IfErr result (λ e. IsRefused (refusal_of e) outcome)

abbrev pub RefusesToHear : {A : Type 0} → Journal → Opened → Result A Fault → Type 0
RefusesToHear journal envelope result = (routes : RouteMaps) → RefusesAs (heard (bytes_with routes) journal (envelope_seen envelope)) result
