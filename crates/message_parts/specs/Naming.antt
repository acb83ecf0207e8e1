-- What a message is by its first two bytes, and how it is called.
use Rattle.std.specs.Prelude.{ℕ, List, [], ◌∷◌, Bool, true, false, ◌&&◌, ◌||◌, ◌==◌, codes, if◌then◌else◌}
use Rattle.message_parts.specs.declared.dissecting.MessageKind.{MessageKind}
use Rattle.message_parts.specs.declared.dissecting.MessageKind.TheVariants as message
use Rattle.message_parts.specs.declared.marks.Mark.{Mark}
use Rattle.message_parts.specs.declared.marks.Mark.TheVariants as mark

-- `PS` begins an envelope, `PJ` a journal, `PB` a book, `D0` an answer; what begins with other bytes is a request
abbrev pub kind_by : (first second : ℕ) → MessageKind
kind_by first second =
    if first == 80 && second == 83 then message.Packet else
    if first == 80 && (second == 74 || second == 66) then message.Record else
    if first == 68 && second == 48 then message.Answer else message.Request

abbrev pub kind_of : List ℕ → MessageKind
kind_of [] = message.Request
kind_of (first ∷ []) = message.Request
kind_of (first ∷ second ∷ rest) = kind_by first second

abbrev pub kind_name : MessageKind → List ℕ
kind_name message.Request = codes "request"
kind_name message.Answer = codes "answer"
kind_name message.Packet = codes "packet"
kind_name message.Record = codes "record"

-- every mark is a number, but for letters and a product
abbrev pub spells_number : Mark → Bool
spells_number mark.Letters = false
spells_number mark.PlanProduct = false
spells_number _ = true

-- a transmission stands after a length
abbrev pub is_length : Mark → Bool
is_length mark.Length = true
is_length _ = false

-- the names of a mark: for people, and in JSON
pub record MarkNames : Type 0 where
  pub words : List ℕ
  pub key : List ℕ

abbrev pub mark_names : Mark → MarkNames
mark_names mark.Letters = record { words = codes "letters of the format"; key = codes "letters" }
mark_names mark.FormatVersion = record { words = codes "version of the format"; key = codes "format_version" }
mark_names mark.Kind = record { words = codes "kind"; key = codes "kind" }
mark_names mark.Pharmacy = record { words = codes "pharmacy"; key = codes "pharmacy" }
mark_names mark.Number = record { words = codes "number"; key = codes "number" }
mark_names mark.Length = record { words = codes "length of the text behind it"; key = codes "length" }
mark_names mark.Count = record { words = codes "count of entries or rows"; key = codes "count" }
mark_names mark.ProductCount = record { words = codes "count of products"; key = codes "product_count" }
mark_names mark.AnswerFlag = record { words = codes "answer follows"; key = codes "answer_follows" }
mark_names mark.Payer = record { words = codes "payer"; key = codes "payer" }
mark_names mark.FirstSerial = record { words = codes "first serial"; key = codes "first_serial" }
mark_names mark.Fee = record { words = codes "fee of the plan"; key = codes "plan_fee" }
mark_names mark.Copay = record { words = codes "copay of the plan"; key = codes "plan_copay" }
mark_names mark.Price = record { words = codes "price a unit"; key = codes "price" }
mark_names mark.PlanProduct = record { words = codes "product of the plan"; key = codes "plan_product" }
mark_names mark.Again = record { words = codes "ticks before a retry"; key = codes "again" }
mark_names mark.Tries = record { words = codes "tries at one switch"; key = codes "tries" }
mark_names mark.SwitchCount = record { words = codes "count of switches"; key = codes "switch_count" }
mark_names mark.Switch = record { words = codes "switch"; key = codes "switch" }

-- the marks of records alone
abbrev pub is_of_record : Mark → Bool
is_of_record mark.Letters = false
is_of_record mark.FormatVersion = false
is_of_record mark.Kind = false
is_of_record mark.Pharmacy = false
is_of_record mark.Number = false
is_of_record mark.Length = false
is_of_record mark.Count = false
is_of_record _ = true
