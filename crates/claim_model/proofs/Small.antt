-- A small reading of bytes, in which schedules compute: a request is its code, its provider, its BIN and one number for each group.
use Rattle.std.proofs.Common.{ℕ, ◌/◌, ◌%◌, cond, ◌==◌, List, [], ◌∷◌, ◌++◌, map, length, Option, Some, None, Result, Ok, Err}
use Rattle.std.specs.Prelude.{bytes_eq, flat_map, option_map}
use Rattle.claim_profile.specs.Reject.{code_text}
use Rattle.claim_profile.specs.Ruling.{code_of}
use Rattle.envelope.specs.declared.opening.EnvelopeFault.TheVariants.{Short}
use Rattle.claim_model.specs.Words.{Amounts, Order, Bills, Reverses, Code, Ruling, Paid, Duplicate, Reversed, Rejected, RequestHeader, Status, AcceptedStatus, RejectedStatus, Answer, Kind, Request, Response, Envelope, EnvelopeFault}
use Rattle.carried_fields.specs.Repeating.{Repeated}
use Rattle.claim_model.specs.Context.{Context}
use Rattle.claim_model.specs.Readable.{version_d0, billing_code, reversal_code}

abbrev pub small_code : ℕ → List ℕ
small_code k = cond (k == 1) billing_code (cond (k == 2) reversal_code [])

abbrev pub small_header : List ℕ → Option RequestHeader
small_header (k ∷ p ∷ b ∷ groups) =
    Some (record { bin = b ∷ []; version = version_d0; code = small_code k; pcn = []; count = length groups; qualifier = []; provider = p ∷ []; date = []; vendor = [] })
small_header _ = None

-- a billing's group is ten times the cardholder plus the fill number; 99 in a reversal leaves the fill number out
abbrev pub small_order : ℕ → ℕ → ℕ → ℕ → Result Order (List Code)
small_order k p b g =
    cond (k == 1)
    (Ok (Bills (record { fill = record { bin = b ∷ []; pcn = []; qualifier = []; provider = p ∷ []; prescription = 123456; fill = g % 10 }; date = []; cardholder = (g / 10) ∷ []; product = []; quantity = 30000; cost = 6000; fee = 200 })))
    (Ok (Reverses (record { bin = b ∷ []; pcn = []; qualifier = []; provider = p ∷ []; prescription = 123456; fill = cond (g == 99) None (Some g); date = [] })))

abbrev pub small_orders : List ℕ → List (Result Order (List Code))
small_orders (k ∷ p ∷ b ∷ groups) = map (small_order k p b) groups
small_orders _ = []

-- a code is its letters, the third of which is 0 where there are two
abbrev pub three_letters : List ℕ → List ℕ
three_letters (a ∷ b ∷ []) = a ∷ b ∷ 0 ∷ []
three_letters (a ∷ b ∷ c ∷ []) = a ∷ b ∷ c ∷ []
three_letters _ = []

abbrev pub letters_code : ℕ → ℕ → ℕ → Option Code
letters_code a b c = code_of (a ∷ b ∷ cond (c == 0) [] (c ∷ []))

abbrev pub code_numbers : List Code → List ℕ
code_numbers (c ∷ []) = 4 ∷ three_letters (code_text c)
code_numbers _ = []

abbrev pub all_amounts : Amounts
all_amounts = record { cost = 5570; fee = 150; copay = 1000; total = 4720 }

-- a ruling is four numbers; four that begin with 9 are none, and are passed over
abbrev pub ruling_numbers : Ruling → List ℕ
ruling_numbers (Paid a n m) = 1 ∷ a.payer ∷ a.serial ∷ n ∷ []
ruling_numbers (Duplicate a n m) = 2 ∷ a.payer ∷ a.serial ∷ n ∷ []
ruling_numbers (Reversed a n) = 3 ∷ a.payer ∷ a.serial ∷ n ∷ []
ruling_numbers (Rejected codes) = code_numbers codes

abbrev pub numbers_ruling : ℕ → ℕ → ℕ → ℕ → Option Ruling
numbers_ruling k a b c =
    cond (k == 1) (Some (Paid (record { payer = a; serial = b }) c all_amounts))
    (cond (k == 2) (Some (Duplicate (record { payer = a; serial = b }) c all_amounts))
    (cond (k == 3) (Some (Reversed (record { payer = a; serial = b }) c))
    (cond (k == 4) (option_map (λ (it : Code). Rejected (it ∷ [])) (letters_code a b c)) None)))

abbrev pub before_all : Option Ruling → Option (List Ruling) → Option (List Ruling)
before_all (Some ruling) (Some more) = Some (ruling ∷ more)
before_all _ _ = None

abbrev pub numbers_rulings : List ℕ → Option (List Ruling)
numbers_rulings [] = Some []
numbers_rulings (k ∷ a ∷ b ∷ c ∷ more) = cond (k == 9) (numbers_rulings more) (before_all (numbers_ruling k a b c) (numbers_rulings more))
numbers_rulings _ = None

abbrev pub status_number : Status → ℕ
status_number AcceptedStatus = 65
status_number RejectedStatus = 82

abbrev pub small_answer : RequestHeader → Status → List Ruling → List ℕ
small_answer h status rulings = 7 ∷ cond (bytes_eq h.code billing_code) 1 2 ∷ status_number status ∷ flat_map ruling_numbers rulings

-- what is passed over
abbrev pub passed_over : List ℕ → List ℕ
passed_over (k ∷ a ∷ b ∷ c ∷ more) = cond (k == 9) (k ∷ a ∷ b ∷ c ∷ passed_over more) (passed_over more)
passed_over _ = []

abbrev pub small_carried : List ℕ → List ℕ
small_carried (seven ∷ k ∷ status ∷ more) = passed_over more
small_carried _ = []

-- the first answer that is repeated
abbrev pub small_repeated : List (Option Repeated) → List ℕ
small_repeated [] = []
small_repeated (None ∷ places) = small_repeated places
small_repeated (Some r ∷ places) = r.answer

abbrev pub small_read : ℕ → ℕ → ℕ → List ℕ → Option Answer
small_read seven k status more =
    cond (seven == 7)
    (option_map (λ (rulings : List Ruling). record { header = record { version = version_d0; code = small_code k; count = length rulings; status = status; qualifier = []; provider = []; date = [] }; rulings = rulings }) (numbers_rulings more))
    None

abbrev pub small_read_answer : List ℕ → Option Answer
small_read_answer (seven ∷ k ∷ status ∷ more) = small_read seven k status more
small_read_answer _ = None

abbrev pub kind_number : Kind → ℕ
kind_number Request = 1
kind_number Response = 2

abbrev pub small_envelope : Envelope → List ℕ
small_envelope e = kind_number e.kind ∷ e.id.pharmacy ∷ e.id.number ∷ e.payload

abbrev pub small_read_envelope : List ℕ → Result Envelope EnvelopeFault
small_read_envelope (k ∷ p ∷ n ∷ payload) = Ok (record { kind = cond (k == 1) Request Response; id = record { pharmacy = p; number = n }; payload = payload })
small_read_envelope _ = Err Short

-- BIN 4 leads to payer 1, whatever the number of a request
abbrev pub small : Context
small =
    record {
      header = small_header;
      orders = small_orders;
      route = λ number key. cond (bytes_eq key.bin (4 ∷ [])) (Some 1) None;
      switches = 2;
      price = λ plan claim. Some all_amounts;
      reprice = λ plan change. Ok plan;
      answer = λ header status rulings carried. small_answer header status rulings ++ carried;
      carried = λ request rulings said. small_carried said;
      repeated = λ request rulings places. small_repeated places;
      read_answer = small_read_answer;
      read_advice = small_read_answer;
      envelope = small_envelope;
      read_envelope = small_read_envelope;
    }
