-- What the lines of requests and packets ask.
use Rattle.std.proofs.Common.{◌≡◌, ℕ, ◌+◌, ◌^◌, ◌<◌, Bool, true, false, ◌&&◌, not, List, [], ◌∷◌, ◌++◌, length, take, drop, Some, None, Option, Ok, Err, IsSome, inr, codes, refl, ap, ◌∙◌, subst, arith, nat_lt, cond}
use Rattle.std.specs.Prelude.{bytes_eq, if◌then◌else◌}
use Rattle.std.specs.List.{All, list_all, position, position_or_len}
use Rattle.std.specs.Option.{option_map}
use Rattle.std.proofs.lemmas.Bool.{false≢true, lt-ltb}
use Rattle.std.proofs.lemmas.List.{length-append}
use Rattle.std.proofs.Math.Seq.{take-append_seam, drop-append-add}
use Rattle.input_text.specs.Words.{is_space, split_word}
use Rattle.input_text.specs.Printing.{printed, unprinted}
use Rattle.world_setup.specs.declared.node.Node.{Node}
use Rattle.world_setup.specs.declared.call.Call.TheVariants.{Adjudicate, Submit, Take}
use Rattle.schedule.specs.Nodes.{node_in}
use Rattle.schedule.proofs.Names.{is_inner, name_inner}
use Rattle.node_service.specs.Asking.{Call, Calls, adjudication, asked_of, call_of, call_parted, call_with, named_of, named_parted, named_submission, noted_of, noted_parted, or_question, plain_call_of, taking, timed, unnoted}
use Rattle.node_service.specs.Payments.{word_of}
use Rattle.node_service.proofs.Words.{word_back, word_inner}
use Rattle.node_handle.specs.Saying.{Said}
use Rattle.node_handle.specs.Hosting.{Hosting}
use Rattle.node_handle.specs.Calls.{Serves}
use Rattle.node_handle.specs.Typed.{Adjudicates, Takes, adjudicate_line, submit_line, take_line}

first_space : (word rest : List ℕ) → list_all is_inner word ≡ true → position_or_len is_space (word ++ 32 ∷ rest) ≡ length word
first_space [] rest inner = refl
first_space (b ∷ word) rest inner =
    by_byte (is_space b) refl (first_space word rest)
  where
    by_byte : (t : Bool) → is_space b ≡ t → (list_all is_inner word ≡ true → position_or_len is_space (word ++ 32 ∷ rest) ≡ length word) → position_or_len is_space (b ∷ (word ++ 32 ∷ rest)) ≡ length (b ∷ word)
    by_byte true e behind = absurd (false≢true (subst (λ (t : Bool). (not t && list_all is_inner word) ≡ true) e inner))
    by_byte false e behind = ap (λ (t : Bool). cond (not t) (1 + position_or_len is_space (word ++ 32 ∷ rest)) 0) e ∙ ap (λ (n : ℕ). 1 + n) (behind (subst (λ (t : Bool). (not t && list_all is_inner word) ≡ true) e inner)) ∙ omega arith

-- a word without a space is parted from what stands after one
pub parted : (word rest : List ℕ) → list_all is_inner word ≡ true → split_word (word ++ 32 ∷ rest) ≡ Some (word, rest)
parted word rest inner =
    let whole : List ℕ = word ++ 32 ∷ rest in
    let none : Option ℕ = None in
    let cut : ℕ → List ℕ × List ℕ = λ place. (take place whole, drop (place + 1) whole) in
    let found : position is_space whole ≡ Some (length word) =
    ap (λ (k : ℕ). cond (nat_lt k (length whole)) (Some k) none) (first_space word rest inner)
    ∙ ap (λ (t : Bool). cond t (Some (length word)) none) (lt-ltb (length word) (length whole) (omega (arith, length-append word (32 ∷ rest)))) in
    ap (λ (place : Option ℕ). option_map cut place) found
    ∙ ap (λ (parts : List ℕ × List ℕ). Some parts) (rw (take-append_seam word (32 ∷ rest), drop-append-add word (32 ∷ rest) 1) refl)

-- a line of a word and what stands after it asks for the call that they are
asks_call : (line word rest : List ℕ) (call : Call) → split_word line ≡ Some (word, rest) → bytes_eq word (codes "at") ≡ false → bytes_eq word (codes "submit-as") ≡ false → call_with word rest ≡ Some call
    → asked_of line ≡ Some (Calls (plain_call_of call))
unfolding asked_of noted_of named_of call_of
asks_call line word rest call parts untimed unnamed is =
    let called : call_of line ≡ Some call = ap (call_parted line) parts ∙ is in
    let named : named_of line ≡ Some (plain_call_of call) =
    ap (named_parted line) parts ∙ (ap (λ (t : Bool). if t then named_submission rest else unnoted (call_of line)) unnamed ∙ ap unnoted called) in
    let noted : noted_of line ≡ Some (plain_call_of call) =
    ap (noted_parted line) parts ∙ (ap (λ (t : Bool). if t then timed rest else named_of line) untimed ∙ named) in
    ap (or_question line) noted

pub asks_request : (request : List ℕ) → unprinted (printed request) ≡ Ok request → asked_of (submit_line request) ≡ Some (Calls (plain_call_of (Submit request)))
asks_request request back =
    asks_call (submit_line request) (codes "submit") (printed request) (Submit request) (parted (codes "submit") (printed request) refl) refl refl (rw back refl)

took : (from : List ℕ) (node : Node) (packet : List ℕ) → node_in from ≡ Some node → unprinted (printed packet) ≡ Ok packet → taking (from ++ 32 ∷ printed packet) ≡ Some (Take node packet)
unfolding taking
took from node packet named back = rw (parted from (printed packet) (name_inner from node named)) (rw (named, back) refl)

pub asks_packet : (from : List ℕ) (node : Node) (packet : List ℕ) → node_in from ≡ Some node → unprinted (printed packet) ≡ Ok packet → asked_of (take_line from packet) ≡ Some (Calls (plain_call_of (Take node packet)))
asks_packet from node packet named back =
    let rest : List ℕ = from ++ 32 ∷ printed packet in
    asks_call (take_line from packet) (codes "take") rest (Take node packet) (parted (codes "take") rest refl) refl refl (took from node packet named back)

-- what a call on a packet says, where its name is a node's
pub takes_named : (old : Option Hosting) (from packet : List ℕ) (said : Said) (new : Option Hosting) → IsSome (node_in from) → Serves old (take_line from packet) said new → Takes old from packet said new
takes_named old from packet (Ok made) new named serves = (named, serves)
takes_named old from packet (Err why) new named serves = inr serves

advised : (from : List ℕ) (node : Node) (packet advice : List ℕ) → node_in from ≡ Some node → unprinted (printed packet) ≡ Ok packet → All (λ b. b < 2 ^ 8) advice
    → adjudication (from ++ 32 ∷ (word_of advice ++ 32 ∷ printed packet)) ≡ Some (Adjudicate node packet advice)
unfolding adjudication
advised from node packet advice named back are =
    let behind : List ℕ = word_of advice ++ 32 ∷ printed packet in
    rw (parted from behind (name_inner from node named)) (rw (named, parted (word_of advice) (printed packet) (word_inner advice)) (rw (word_back advice are, back) refl))

pub asks_advised : (from : List ℕ) (node : Node) (packet advice : List ℕ) → node_in from ≡ Some node → unprinted (printed packet) ≡ Ok packet → All (λ b. b < 2 ^ 8) advice
    → asked_of (adjudicate_line from packet advice) ≡ Some (Calls (plain_call_of (Adjudicate node packet advice)))
asks_advised from node packet advice named back are =
    let rest : List ℕ = from ++ 32 ∷ (word_of advice ++ 32 ∷ printed packet) in
    asks_call (adjudicate_line from packet advice) (codes "adjudicate") rest (Adjudicate node packet advice) (parted (codes "adjudicate") rest refl) refl refl (advised from node packet advice named back are)

-- the same of a packet with an advice
pub adjudicates_named : (old : Option Hosting) (from packet advice : List ℕ) (said : Said) (new : Option Hosting) → IsSome (node_in from) → Serves old (adjudicate_line from packet advice) said new
    → Adjudicates old from packet advice said new
adjudicates_named old from packet advice (Ok made) new named serves = (named, serves)
adjudicates_named old from packet advice (Err why) new named serves = inr serves
