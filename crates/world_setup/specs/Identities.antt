-- The identities of pharmacies that were seen.
use Rattle.std.specs.Prelude.{Bool, ◌&&◌, List, bytes_eq}
use Rattle.std.specs.List.{list_any}
use Rattle.claim_model.specs.Journal.{PharmacySettings}
use Rattle.world_setup.specs.declared.identity.Identity.{Identity}

-- by what a pharmacy is known
abbrev pub identity_of : PharmacySettings → Identity
identity_of s = record { qualifier = s.qualifier; provider = s.provider }

abbrev pub is_same : Identity → Identity → Bool
is_same a b = bytes_eq a.qualifier b.qualifier && bytes_eq a.provider b.provider

-- the identity of a pharmacy is one of these
abbrev pub was_seen : List Identity → PharmacySettings → Bool
was_seen seen s = list_any (is_same (identity_of s)) seen
