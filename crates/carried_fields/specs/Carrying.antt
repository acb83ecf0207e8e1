-- The answer that carries what an advice says beside its rulings.
use Rattle.std.specs.Prelude.{ℕ, nat_le, Bool, ◌&&◌, ◌==◌, List, [], length, Option, Some, None, Result, Ok, Err, bytes_eq, if◌then◌else◌}
use Rattle.std.specs.List.{list_all}
use Rattle.d0_header.specs.Request.{Request}
use Rattle.d0_header.specs.Response.{Response}
use Rattle.d0_segments.specs.Parts.{SegmentParts, TransmissionParts}
use Rattle.d0_segments.specs.Framing.{response_kind, transmission_text, transmission_of}
use Rattle.claim_profile.specs.declared.ruling.Ruling.{Ruling}
use Rattle.claim_profile.specs.declared.ruling.HeaderStatus.{HeaderStatus}
use Rattle.claim_profile.specs.declared.answer_reading.AnswerFault.{AnswerFault}
use Rattle.claim_profile.specs.Answer.{answer_parts, answer_text}
use Rattle.claim_profile.specs.Readable.{longest_request}
use Rattle.claim_profile.specs.Ruling.{AnswerParts, advice_of}
use Rattle.carried_fields.specs.Agreeing.{agreed}
use Rattle.carried_fields.specs.Merging.{carried_groups}

-- the segments in front of all groups are carried where every place agrees
abbrev pub carried_shared : List Bool → List SegmentParts → List SegmentParts
carried_shared agreeing shared = if list_all (λ (b : Bool). b) agreeing then shared else []

-- a book's answer with what an advice says beside its rulings: agreeing tells of each place whether both rule the same
abbrev pub carried_parts : (agreeing : List Bool) (own said : TransmissionParts Response) → TransmissionParts Response
carried_parts agreeing own said = record {
  header = own.header;
  shared = carried_shared agreeing said.shared;
  groups = carried_groups agreeing own.groups said.groups;
}

-- whether a book's answer and an advice have a group for each ruling
abbrev pub have_groups : (rulings : List Ruling) (own said : TransmissionParts Response) → Bool
have_groups rulings own said = length own.groups == length rulings && length said.groups == length rulings

-- the text of the answer that carries, where both read and have a group for each ruling
abbrev pub carried_answer : List Ruling → (own said : Option (TransmissionParts Response)) → Result AnswerParts AnswerFault → Option (List ℕ)
carried_answer rulings None said advice = None
carried_answer rulings (Some own) None advice = None
carried_answer rulings (Some own) (Some said) (Err fault) = None
carried_answer rulings (Some own) (Some said) (Ok advice) =
    if have_groups rulings own said then Some (transmission_text response_kind (carried_parts (agreed rulings advice.rulings) own said)) else None

-- a text where there is one that an envelope takes, else the plain one
abbrev pub or_plain : (plain : List ℕ) → Option (List ℕ) → List ℕ
or_plain plain None = plain
or_plain plain (Some text) = if nat_le (length text) longest_request then text else plain

-- the answer plain, or with what these bytes of an advice say beside its rulings
abbrev pub carrying : (plain : List ℕ) → List Ruling → (said : List ℕ) → List ℕ
carrying plain rulings said = or_plain plain (carried_answer rulings (transmission_of response_kind plain) (transmission_of response_kind said) (advice_of said))

-- the answer to a request that carries these parts of an advice with these rulings, however long it is
abbrev pub carried_text : Request → HeaderStatus → List Ruling → (said : TransmissionParts Response) → (advised : List Ruling) → List ℕ
carried_text header status rulings said advised = transmission_text response_kind (carried_parts (agreed rulings advised) (answer_parts header status rulings) said)

-- the answer to a request with what an advice says beside its rulings
unfoldable pub carrying_text : Request → HeaderStatus → List Ruling → (said : List ℕ) → List ℕ
carrying_text header status rulings said = carrying (answer_text header status rulings) rulings said

-- what a book keeps of it: nothing where it is the plain answer
unfoldable pub kept_text : Request → HeaderStatus → List Ruling → (said : List ℕ) → List ℕ
kept_text header status rulings said =
    if bytes_eq (carrying_text header status rulings said) (answer_text header status rulings) then [] else carrying_text header status rulings said
