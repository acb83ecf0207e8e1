-- How a pharmacy reads requests and answers. No route takes part in it.
use Rattle.std.specs.Prelude.{ℕ, Bool, false, ◌&&◌, ◌==◌, bytes_eq, List, Option, Some, None}
use Rattle.d0_segments.specs.Framing.{request_kind, transmission_of}
use Rattle.claim_profile.specs.Ruling.{answer_of}
use Rattle.claim_profile.specs.Readable.{readable_header}
use Rattle.claim_model.specs.Words.{RequestHeader, ResponseHeader, Answer}
use Rattle.claim_model.specs.Readable.{fits}
use Rattle.claim_model.specs.Bytes.{header_in, answer_in}
use Rattle.claim_model.specs.Journal.{PharmacySettings, is_own}

-- the header of a text that is framed as a request
abbrev pub header_of : List ℕ → Option RequestHeader
header_of text = header_in (transmission_of request_kind text)

-- the answer that a text spells
abbrev pub reading_of : List ℕ → Option Answer
reading_of text = answer_in (answer_of text)

-- a response has a request's code and count
abbrev pub has_same_words : ResponseHeader → RequestHeader → Bool
has_same_words response request = bytes_eq response.code request.code && (response.count == request.count)

-- an answer settles a request where it reads as an answer with the request's code and count
abbrev pub settles_with : List ℕ → List ℕ → Bool
settles_with request answer = fits (header_of request) (reading_of answer)

abbrev pub is_own_header : PharmacySettings → Option RequestHeader → Bool
is_own_header s None = false
is_own_header s (Some h) = is_own s h

-- a readable request of this pharmacy
abbrev pub is_own_request : PharmacySettings → List ℕ → Bool
is_own_request s request = is_own_header s (readable_header request)
