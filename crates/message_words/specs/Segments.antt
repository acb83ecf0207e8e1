-- What the segments of the standard are about.
use Rattle.std.specs.Prelude.{ℕ, List, codes, if◌then◌else◌}
use Rattle.std.specs.Str.{bytes_eq}

-- what a segment is about that this profile does not use
abbrev pub unused_segment : List ℕ → List ℕ
unused_segment id =
    if bytes_eq id (codes "01") then codes "patient, not used by this profile"
    else (if bytes_eq id (codes "02") then codes "pharmacy provider, not used by this profile"
    else (if bytes_eq id (codes "03") then codes "prescriber, not used by this profile"
    else (if bytes_eq id (codes "05") then codes "coordination of benefits, not used by this profile"
    else (if bytes_eq id (codes "06") then codes "workers' compensation, not used by this profile"
    else (if bytes_eq id (codes "08") then codes "drug use review, not used by this profile"
    else (if bytes_eq id (codes "09") then codes "coupon, not used by this profile"
    else (if bytes_eq id (codes "10") then codes "compound, not used by this profile"
    else (if bytes_eq id (codes "12") then codes "prior authorization, not used by this profile"
    else (if bytes_eq id (codes "13") then codes "clinical, not used by this profile"
    else (if bytes_eq id (codes "14") then codes "additional documentation, not used by this profile"
    else (if bytes_eq id (codes "15") then codes "facility, not used by this profile"
    else (if bytes_eq id (codes "16") then codes "narrative, not used by this profile"
    else (if bytes_eq id (codes "20") then codes "response message, not used by this profile"
    else (if bytes_eq id (codes "24") then codes "response drug use review, not used by this profile"
    else (if bytes_eq id (codes "25") then codes "response insurance, not used by this profile"
    else (if bytes_eq id (codes "26") then codes "response prior authorization, not used by this profile"
    else (if bytes_eq id (codes "27") then codes "response insurance information, not used by this profile"
    else (if bytes_eq id (codes "28") then codes "response other payers, not used by this profile"
    else (if bytes_eq id (codes "29") then codes "response patient, not used by this profile"
    else codes "unknown, carried unchanged")))))))))))))))))))

-- what a segment is about
abbrev pub segment_meaning : List ℕ → List ℕ
segment_meaning id =
    if bytes_eq id (codes "04") then codes "insurance"
    else (if bytes_eq id (codes "07") then codes "claim"
    else (if bytes_eq id (codes "11") then codes "pricing"
    else (if bytes_eq id (codes "21") then codes "response status"
    else (if bytes_eq id (codes "22") then codes "response claim"
    else (if bytes_eq id (codes "23") then codes "response pricing"
    else unused_segment id)))))
