-- The fields of a response header as the code holds them.
use Rattle.d0_header.specs.declared.response.ResponseHeader.TheInside.{Inside}
use Rattle.d0_header.specs.Response.{Response}

-- the header of these fields
abbrev pub response_seen : Inside → Response
response_seen a = record { version = a.version; code = a.code; count = a.count; status = a.status; qualifier = a.qualifier; provider = a.provider; date = a.date }

-- the fields of a header
abbrev pub response_kept : Response → Inside
response_kept h = record { version = h.version; code = h.code; count = h.count; status = h.status; qualifier = h.qualifier; provider = h.provider; date = h.date }
