-- Packets that are vouched for: what reads as an envelope is vouched for where journals and books say it, and nothing else is.
use Rattle.std.proofs.Common.{◌≡◌, ℕ, Bool, true, false, List, Result, Ok, Err, sym, ap, ◌∙◌, subst}
use Rattle.bin_routes.specs.Table.{RouteMaps}
use Rattle.envelope.specs.Envelope.{Opened, IsTextOf}
use Rattle.claim_model.specs.Bytes.{bytes_with, envelope_in}
use Rattle.claim_model.specs.Laws.{Laws}
use Rattle.claim_model.specs.Words.{Envelope, EnvelopeFault}
use Rattle.claim_model.specs.World.{World}
use Rattle.claim_model.proofs.Options.{same_ok}
use Rattle.node_log.specs.Fits.{Tells}
use Rattle.claim_model.specs.Carried.{Carries, Says}

abbrev content_of : Opened → Envelope
content_of e = record { kind = e.kind; id = e.id; payload = e.payload }

pub carries_said : (routes : RouteMaps) (w : World) (place : ℕ × ℕ) (bytes : List ℕ) (e : Opened) → IsTextOf place bytes e → Says (bytes_with routes) w e.id e.payload e.kind → Carries (bytes_with routes) w bytes
carries_said routes w place bytes e t h =
    record {
      envelope = content_of e;
      fits = record { pharmacy = t.id.some_pharmacy; pharmacy_fits = t.id.pharmacy_fits; number = t.id.some_number; number_fits = t.id.number_fits; payload = t.short };
      spells = t.text;
      says = h;
    }

-- what carried bytes are read as
read_so : (routes : RouteMaps) (w : World) (bytes : List ℕ) → Laws (bytes_with routes) → (c : Carries (bytes_with routes) w bytes) → (bytes_with routes).read_envelope bytes ≡ Ok c.envelope
read_so routes w bytes laws c = ap (bytes_with routes).read_envelope c.spells ∙ laws.envelopes c.envelope c.fits

pub carries_not_said : (routes : RouteMaps) (w : World) (bytes : List ℕ) (e : Opened) → Laws (bytes_with routes) → (bytes_with routes).read_envelope bytes ≡ envelope_in (Ok e) → (Says (bytes_with routes) w e.id e.payload e.kind → ⊥) → Carries (bytes_with routes) w bytes → ⊥
carries_not_said routes w bytes e laws is h c =
    let same : c.envelope ≡ content_of e = same_ok c.envelope (content_of e) (sym (read_so routes w bytes laws c) ∙ is) in
    h (subst (λ (x : Envelope). Says (bytes_with routes) w x.id x.payload x.kind) same c.says)

pub carries_no_envelope : (routes : RouteMaps) (w : World) (bytes : List ℕ) (fault : EnvelopeFault) → Laws (bytes_with routes) → (bytes_with routes).read_envelope bytes ≡ envelope_in (Err fault) → Carries (bytes_with routes) w bytes → ⊥
carries_no_envelope routes w bytes fault laws is c =
    let no : ◌≡◌ {A = Result Envelope EnvelopeFault} (Ok c.envelope) (Err fault) = sym (read_so routes w bytes laws c) ∙ is in
    absurd cc

-- what tells of the envelope tells of the packet
pub carries_told : (routes : RouteMaps) (w : World) (place : ℕ × ℕ) (bytes : List ℕ) (e : Opened) → Laws (bytes_with routes) → IsTextOf place bytes e → (bytes_with routes).read_envelope bytes ≡ envelope_in (Ok e)
    → (told : Bool) → Tells told (Says (bytes_with routes) w e.id e.payload e.kind) → Tells told (Carries (bytes_with routes) w bytes)
carries_told routes w place bytes e laws t is true h = carries_said routes w place bytes e t h
carries_told routes w place bytes e laws t is false h = carries_not_said routes w bytes e laws is h
