-- The parts of a transmission of the code.
use Rattle.std.specs.Prelude.{◌≡◌, ℕ, Result, MatchResult}
use Rattle.d0_segments.specs.declared.fault.FramingFault.{FramingFault}
use Rattle.d0_segments.specs.declared.fault.FramingFault.TheVariants.{OutOfMemory}
use Rattle.d0_segments.specs.declared.transmission.Transmission.{Transmission}
use Rattle.d0_segments.specs.Parts.{TransmissionParts}
use Rattle.d0_segments.specs.Views.{segments_parts, groups_parts}
use Rattle.d0_segments.specs.Lending.{BodyLies}

-- a transmission without its places in memory
abbrev pub transmission_parts : {H : Type 0} {header : _} → Transmission H header → TransmissionParts H
transmission_parts t = record { header = t.header; shared = segments_parts t.shared.items; groups = groups_parts t.groups.items }

-- this transmission was read, unless memory ran out
abbrev pub IsReadAs : {H : Type 0} {header : _} → Result (Transmission H header) FramingFault → TransmissionParts H → Type 0
IsReadAs result t = MatchResult result (λ r. transmission_parts r ≡ t) (λ e. e ≡ OutOfMemory)

-- its fields are slices of the text whose body begins at the address, each where it stands in the text
abbrev pub LiesAt : {H : Type 0} {header : _} → ℕ × ℕ → Transmission H header → Type 0
LiesAt at t = BodyLies at t.shared.items t.groups.items
