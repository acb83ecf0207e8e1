-- What is said of logs that stand one after another.
use Rattle.std.specs.Prelude.{◌≡◌, ◌⊎◌, ℕ, nat_lt, Bool, true, false, List, [], ◌∷◌, map, length, take, drop, Ok, Err, Option, Some, None, MatchOption, if◌then◌else◌}
use Rattle.std.specs.Global.{Vec}
use Rattle.std.specs.Option.{option_map}
use Rattle.message_words.specs.declared.page.Style.{Style}
use Rattle.message_words.specs.declared.page.Style.TheVariants.{Lines, Json}
use Rattle.node_log.specs.LogSeen.{logs_seen}
use Rattle.world_settings.specs.Checked.{SpellsNone}
use Rattle.log_audit.specs.Judged.{IsTold}
use Rattle.log_audit.specs.Given.{IsRead, digest_of, opened, rests_seen}
use Rattle.log_audit.specs.Names.{misnamed_log}
use Rattle.log_audit.specs.Refused.{IsRefused}
use Rattle.log_audit.specs.Telling.{IsWritten}
use Rattle.log_audit.specs.declared.fault.AuditFault.TheVariants.{Log, Reference}
use Rattle.log_audit.specs.declared.fault.ReferenceFault.{ReferenceFault}
use Rattle.log_audit.specs.declared.reading.Audited.{Audited}
use Rattle.log_audit.specs.declared.report.Form.{Form}
use Rattle.log_audit.specs.declared.report.Form.TheVariants as form
use Rattle.kept_logs.specs.declared.fault.LogFault.{LogFault}
use Rattle.node_handle.specs.declared.refusal.Refusal.{Refusal}
use Rattle.node_handle.specs.declared.refusal.Refusal.TheVariants.{OutOfMemory, Settings, NotALog, BadRecord, NoRun, ShortBuffer}
use Rattle.node_handle.specs.Refusals.{refusal_of_log}
use Rattle.node_handle.specs.Calls.{Stands, Lacks}
use Rattle.node_handle.specs.Saying.{Said}

-- bytes cut into pieces of these sizes, where the sizes are those of all bytes
abbrev pub cut_at : List ℕ → List ℕ → Option (List (List ℕ))
cut_at [] [] = Some []
cut_at [] (byte ∷ more) = None
cut_at (size ∷ sizes) bytes = if nat_lt (length bytes) size then None else option_map (λ pieces. take size bytes ∷ pieces) (cut_at sizes (drop size bytes))

-- the bytes of each piece
abbrev pub bytes_of : List (Vec ℕ) → List (List ℕ)
bytes_of pieces = map (λ piece. piece.items) pieces

-- the pieces that were cut, or none
abbrev pub IsCutInto : List ℕ → List ℕ → Option (Vec (Vec ℕ)) → Type 0
IsCutInto sizes bytes found = MatchOption found (cut_at sizes bytes ≡ None) (λ pieces. cut_at sizes bytes ≡ Some (bytes_of pieces.items))

-- the form in which logs are told of in a style
abbrev pub form_of : Style → Form
form_of Lines = form.Lines
form_of Json = form.Json

-- pieces of bytes are logs under the settings that a text spells, of one legal run or of none; and it is told of them what claimaudit tells in this form
pub record IsReported (text : List ℕ) (pieces : List (List ℕ)) (style : Style) (told : List ℕ) (legal : Bool) : Type 0 where
  pub audited : Audited
  pub read : IsRead text (opened pieces) audited.settings (logs_seen audited.logs.items) (rests_seen audited.rests.items) audited.torn.items
  pub named : misnamed_log (digest_of text) (opened pieces) ≡ None
  pub is : IsTold audited.settings (logs_seen audited.logs.items) legal
  pub written : IsWritten audited (form_of style) legal told

-- the same of bytes with the logs of these sizes
pub record IsJudged (text bytes sizes : List ℕ) (style : Style) (told : List ℕ) (legal : Bool) : Type 0 where
  pub pieces : List (List ℕ)
  pub cut : cut_at sizes bytes ≡ Some pieces
  pub reported : IsReported text pieces style told legal

-- what is told of logs is copied into a buffer, with the verdict; without room for it nothing is said of the logs
abbrev pub Reports : List ℕ → Bool → Said → List ℕ → List ℕ → ℕ → Type 0
Reports told legal (Ok made) buffer after size = (legal ≡ true) × Stands told buffer after size
Reports told legal (Err why) buffer after size =
    ((why ≡ NoRun) × ((legal ≡ false) × Stands told buffer after size)) ⊎ ((why ≡ ShortBuffer) × Lacks told buffer after size)

-- the settings are taken, and the piece at this place is the first that is no log under them
pub record HasNoLog (text : List ℕ) (pieces : List (List ℕ)) (why : Refusal) (place : ℕ) : Type 0 where
  pub fault : LogFault
  pub is : why ≡ refusal_of_log fault
  pub first : IsRefused text (opened pieces) (Log place fault)

-- the same of the first piece with a reference that no node keeps
pub record HasBadReference (text : List ℕ) (pieces : List (List ℕ)) (why : Refusal) (place : ℕ) : Type 0 where
  pub call : ℕ
  pub fault : ReferenceFault
  pub is : why ≡ BadRecord
  pub first : IsRefused text (opened pieces) (Reference place call fault)

-- pieces of bytes are not judged: memory is refused, then the settings, then the first piece with such a reference, then the first that is no log
abbrev pub RefusesRead : List ℕ → List (List ℕ) → Refusal → ℕ → ℕ → Type 0
RefusesRead text pieces why before place =
    ((why ≡ OutOfMemory) × (place ≡ before))
    ⊎ (((why ≡ Settings) × ((place ≡ before) × SpellsNone text)) ⊎ (HasBadReference text pieces why place ⊎ HasNoLog text pieces why place))

-- the same of bytes with the logs of these sizes
pub record RefusesPieces (text bytes sizes : List ℕ) (why : Refusal) (before place : ℕ) : Type 0 where
  pub pieces : List (List ℕ)
  pub cut : cut_at sizes bytes ≡ Some pieces
  pub refused : RefusesRead text pieces why before place

-- nothing is judged: memory is refused, the sizes are not those of all bytes, or what they cut is refused
abbrev pub IsUnjudged : List ℕ → List ℕ → List ℕ → Refusal → ℕ → ℕ → Type 0
IsUnjudged text bytes sizes why before place =
    ((why ≡ OutOfMemory) × (place ≡ before))
    ⊎ (((why ≡ NotALog) × ((cut_at sizes bytes ≡ None) × (place ≡ length sizes))) ⊎ RefusesPieces text bytes sizes why before place)

-- logs are judged, and it is told what they are; or nothing is, and the buffer is as it was
abbrev pub Audits : List ℕ → List ℕ → List ℕ → Style → Said → List ℕ → List ℕ → ℕ → ℕ → Type 0
Audits text bytes sizes style said buffer after before size =
    ((told : List ℕ) × ((legal : Bool) × (IsJudged text bytes sizes style told legal × Reports told legal said buffer after size)))
    ⊎ ((after ≡ buffer) × ((why : Refusal) × ((said ≡ Err why) × IsUnjudged text bytes sizes why before size)))
