-- How what is found of a message is written.
use Rattle.std.specs.Prelude.{◌≡◌, ℕ, Bool, true, false, List, [], ◌∷◌, ◌++◌, codes, Option, None, Some}
use Rattle.std.specs.Fmt.{decimal}
use Rattle.message_words.specs.declared.finding_page.FindingPage.{FindingPage}
use Rattle.message_words.specs.declared.page.Style.{Style}
use Rattle.message_words.specs.declared.page.Style.TheVariants.{Lines, Json}
use Rattle.message_words.specs.Encoded.{number_member, word_member}
use Rattle.message_words.specs.Rows.{comma}

-- a finding: its name in JSON, its members there, what it says, and what stands below it in lines
pub record Said : Type 0 where
  pub name : List ℕ
  pub members : List ℕ
  pub words : List ℕ
  pub below : List ℕ

-- one that has nothing below it
abbrev pub says : (name members words : List ℕ) → Said
says name members words = record { name = name; members = members; words = words; below = [] }

-- where in a record the transmission stands that a finding is about: in front of what it says, and as a member
abbrev pub within_words : Option ℕ → List ℕ
within_words None = []
within_words (Some place) = codes "at byte " ++ decimal place ++ codes ": "

abbrev pub within_member : Option ℕ → List ℕ
within_member None = []
within_member (Some place) = number_member (codes "text_at") place

-- a finding by its name, its members, all that it says and what stands below it: as a line and what follows, and as an
-- object
abbrev pub finding_name : List ℕ → List ℕ
finding_name name = codes "{\"finding\":\"" ++ name ++ codes "\""

unfoldable pub finding_head : (started : Bool) → (name : List ℕ) → Option ℕ → List ℕ
finding_head started name within = comma Json started ++ finding_name name ++ within_member within

unfoldable pub finding_object : (started : Bool) → Option ℕ → (name members all : List ℕ) → List ℕ
finding_object started within name members all =
    finding_head started name within ++ members ++ word_member (codes "says") all ++ codes "}"

abbrev pub finding_text : Style → (started : Bool) → Option ℕ → (name members all below : List ℕ) → List ℕ
finding_text Lines started within name members all below = codes "\n  " ++ all ++ below
finding_text Json started within name members all below = finding_object started within name members all

abbrev pub said_text : Style → (started : Bool) → Option ℕ → Said → List ℕ
said_text style started within s = finding_text style started within s.name s.members (within_words within ++ s.words) s.below

-- findings, one after the other, all about one transmission or about none
abbrev pub all_said : Style → (started : Bool) → Option ℕ → List Said → List ℕ
all_said style started within [] = []
all_said style started within (s ∷ more) = said_text style started within s ++ all_said style true within more

-- whether a finding was written, where some may have been before these
abbrev pub started_with : Bool → List Said → Bool
started_with started [] = started
started_with started (s ∷ more) = true

-- ---- what is added to a page

-- no memory was refused for any of its texts
pub record IsTaken (f : FindingPage) : Type 0 where
  pub out : f.out.refused ≡ false
  pub note : f.note.refused ≡ false
  pub members : f.members.refused ≡ false
  pub around : f.around.refused ≡ false
  pub below : f.below.refused ≡ false

-- these findings are written after what was there
pub record AreSaid (found : List Said) (old new : FindingPage) : Type 0 where
  pub was : IsTaken old
  pub text : new.out.bytes.items ≡ old.out.bytes.items ++ all_said old.style old.started old.within found
  pub started : new.started ≡ started_with old.started found
  pub style : new.style ≡ old.style
  pub within : new.within ≡ old.within

-- the same, unless memory was refused, now or before
abbrev pub Finds : List Said → (old new : FindingPage) → Type 0
Finds found old new = IsTaken new → AreSaid found old new

-- a finding begins: the texts in which it is put together are as its place has them
pub record Begins (old new : FindingPage) : Type 0 where
  pub note : new.note.refused ≡ false → (old.note.refused ≡ false) × (new.note.bytes.items ≡ within_words old.within)
  pub members : new.members.bytes.items ≡ []
  pub members_refused : new.members.refused ≡ old.members.refused
  pub below : new.below.bytes.items ≡ []
  pub below_refused : new.below.refused ≡ old.below.refused
  pub same : new ≡ record old { note = new.note; members = new.members; below = new.below }
