-- The fields of a request header as the code holds them.
use Rattle.d0_header.specs.declared.request.RequestHeader.TheInside.{Inside}
use Rattle.d0_header.specs.Request.{Request}

-- the header of these fields
abbrev pub request_seen : Inside → Request
request_seen a = record { bin = a.bin; version = a.version; code = a.code; pcn = a.pcn; count = a.count; qualifier = a.qualifier; provider = a.provider; date = a.date; vendor = a.vendor }

-- the fields of a header
abbrev pub request_kept : Request → Inside
request_kept h = record { bin = h.bin; version = h.version; code = h.code; pcn = h.pcn; count = h.count; qualifier = h.qualifier; provider = h.provider; date = h.date; vendor = h.vendor }
