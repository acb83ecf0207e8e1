-- All that is found of a message, as it is written.
use Rattle.std.specs.Prelude.{◌≡◌, ℕ, Bool, false, List, [], ◌∷◌, ◌++◌, take, drop, map, Option, None, Some}
use Rattle.message_parts.specs.declared.dissecting.Carried.{Carried}
use Rattle.message_parts.specs.declared.dissecting.MessageKind.{MessageKind}
use Rattle.message_parts.specs.declared.dissecting.MessageKind.TheVariants as kind
use Rattle.message_words.specs.declared.finding_page.FindingPage.{FindingPage}
use Rattle.message_parts.specs.declared.layout.Form.{Form}
use Rattle.message_parts.specs.declared.layout.Form.TheVariants.{Request, Answer}
use Rattle.message_words.specs.declared.page.Style.{Style}
use Rattle.message_words.specs.AnswerWords.{answer_said}
use Rattle.message_words.specs.FaultWords.{envelope_said}
use Rattle.message_words.specs.RecordWords.{record_said}
use Rattle.message_words.specs.RequestWords.{request_said}
use Rattle.message_words.specs.Sayings.{IsTaken, Said, all_said, started_with}

-- what is said of a request or an answer of these bytes, which stands at a place of the message
abbrev pub form_said : Form → ℕ → List ℕ → List Said
form_said Request place bytes = request_said place bytes
form_said Answer place bytes = answer_said place bytes

-- what is said of one that a message carries
abbrev pub carried_said : List ℕ → Carried → List Said
carried_said bytes c = form_said c.form c.place (take c.size (drop c.place bytes))

-- findings about one transmission: where it stands in a record, and what is said of it
abbrev pub Group : Type 0
Group = Option ℕ × List Said

-- what is said of the envelope or of the record, in front of what is said of the transmissions in it
abbrev pub first_said : MessageKind → List ℕ → List Carried → List Said
first_said kind.Packet bytes carried = envelope_said bytes ∷ []
first_said kind.Record bytes carried = record_said bytes carried ∷ []
first_said _ bytes carried = []

-- in a record alone it is told where a transmission stands
abbrev pub place_told : MessageKind → ℕ → Option ℕ
place_told kind.Record place = Some place
place_told _ place = None

abbrev pub group_of : MessageKind → List ℕ → Carried → Group
group_of k bytes c = (place_told k c.place, carried_said bytes c)

-- groups, one after the other
abbrev pub groups_text : Style → (started : Bool) → List Group → List ℕ
groups_text style started [] = []
groups_text style started (g ∷ gs) = all_said style started g.0 g.1 ++ groups_text style (started_with started g.1) gs

-- whether a finding was written
abbrev pub groups_started : Bool → List Group → Bool
groups_started started [] = started
groups_started started (g ∷ gs) = groups_started (started_with started g.1) gs

-- these groups are written after what was there, unless memory was refused, now or before
pub record AreGroups (gs : List Group) (old new : FindingPage) : Type 0 where
  pub was : IsTaken old
  pub text : new.out.bytes.items ≡ old.out.bytes.items ++ groups_text old.style old.started gs
  pub started : new.started ≡ groups_started old.started gs
  pub style : new.style ≡ old.style

abbrev pub FindsGroups : List Group → (old new : FindingPage) → Type 0
FindsGroups gs old new = IsTaken new → AreGroups gs old new

-- all that is found of a message of a kind that carries these transmissions
abbrev pub found_text : Style → MessageKind → List ℕ → List Carried → List ℕ
found_text style k bytes carried =
    all_said style false None (first_said k bytes carried)
    ++ groups_text style (started_with false (first_said k bytes carried)) (map (group_of k bytes) carried)

-- all of it is written after what was there, unless memory was refused
pub record AreAllFound (k : MessageKind) (bytes : List ℕ) (carried : List Carried) (old new : FindingPage) : Type 0 where
  pub was : IsTaken old
  pub text : new.out.bytes.items ≡ old.out.bytes.items ++ found_text old.style k bytes carried

abbrev pub FindsAll : MessageKind → List ℕ → List Carried → (old new : FindingPage) → Type 0
FindsAll k bytes carried old new = IsTaken new → AreAllFound k bytes carried old new
