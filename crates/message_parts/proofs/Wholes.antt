-- The parts of a whole message.
use Rattle.std.proofs.Common.{◌≡◌, ℕ, ◌+◌, ◌-◌, List, [], ◌++◌, length, take, drop, inl, inr, Result, Ok, Err, ap, subst, sym, ◌∙◌, arith}
use Rattle.std.specs.Prelude.{OnOk}
use Rattle.std.specs.declared.alloc.AllocError.{AllocError}
use Rattle.std.proofs.lemmas.List.{append-nil, take_all, drop_all, length-drop}
use Rattle.message_parts.specs.declared.dissecting.Carried.{Carried}
use Rattle.message_parts.specs.declared.layout.Form.{Form}
use Rattle.message_parts.specs.declared.part.PartKind.TheVariants.{Stray}
use Rattle.message_parts.specs.Parts.{PartSeen, Cut}
use Rattle.message_parts.specs.Steps.{filled_part, at_first, AreBody, AreTransmission, header_rows, packet_rows, packet_form, head_parts, width_of, one_carried, some_carried, IsOne, IsPacket}
use Rattle.message_parts.specs.AtRest.{Told, told_before, stray_told, record_told}
use Rattle.message_parts.specs.Messages.{IsRecord}
use Rattle.message_parts.specs.Added.{next_bytes, stray_part, left_of, told_with, AddsTransmission, TellsAll}
use Rattle.message_parts.proofs.Bytes.{either}
use Rattle.message_parts.proofs.Heads.{head_none}
use Rattle.message_parts.proofs.Bodies.{no_body}

-- no bytes have no parts, at any place
empty : (form : Form) (place : ℕ) → AreTransmission form place [] []
empty form place = record {
  body = [];
  are = sym (append-nil (head_parts (header_rows form) place []) ∙ head_none (header_rows form) place);
  behind = drop_all (width_of (header_rows form)) [] (omega arith);
}

none_moves : (form : Form) (p q : ℕ) (bytes other : List ℕ) (parts : List PartSeen) → bytes ≡ [] → other ≡ [] → AreTransmission form p bytes parts → AreTransmission form q other parts
none_moves form p q bytes other parts e f t =
    let w : ℕ = width_of (header_rows form) in
    let behind : AreBody form at_first (p + w) [] t.body = subst (λ (bs : List ℕ). AreBody form at_first (p + w) bs t.body) (ap (drop w) e ∙ drop_all w [] (omega arith)) t.behind in
    let no_parts : parts ≡ [] =
    t.are ∙ ap (λ (bs : List ℕ). head_parts (header_rows form) p bs ++ t.body) e ∙ ap (λ (ps : List PartSeen). ps ++ t.body) (head_none (header_rows form) p) ∙ no_body form at_first (p + w) t.body behind in
    subst (λ (ps : List PartSeen). AreTransmission form q other ps) (sym no_parts) (subst (λ (bs : List ℕ). AreTransmission form q bs []) (sym f) (empty form q))

-- nothing is cut where no bytes are left
pub nothing_added : (form : Form) (c : Cut) (size : ℕ) → size ≡ 0 → AddsTransmission form c.place (next_bytes c size) c.parts c.parts
nothing_added form c size none = record {
  added = [];
  are = sym (append-nil c.parts);
  transmission = subst (λ (bs : List ℕ). AreTransmission form c.place bs []) (sym (ap (λ n. take n (drop c.place c.whole)) none)) (empty form c.place);
}

-- all bytes
whole_bytes : (c : Cut) (size : ℕ) → c.place ≡ 0 → size ≡ length c.whole → next_bytes c size ≡ c.whole
whole_bytes c size start all = ap (λ p. take size (drop p c.whole)) start ∙ take_all size c.whole (omega arith)

one_ok : (form : Form) (old new : Cut) (size : ℕ) (before after : List Carried) → old.place ≡ 0 → old.parts ≡ [] → before ≡ [] → size ≡ length old.whole
    → AddsTransmission form old.place (next_bytes old size) old.parts new.parts → after ≡ before ++ one_carried form old.place (next_bytes old size) → IsOne form old.whole new.parts after
one_ok form old new size before after start no_part none all adds carried =
    let bytes : next_bytes old size ≡ old.whole = whole_bytes old size start all in
    let are : new.parts ≡ adds.added = adds.are ∙ ap (λ (ps : List PartSeen). ps ++ adds.added) no_part in
    record {
      transmission = subst (λ (ps : List PartSeen). AreTransmission form 0 old.whole ps) (sym are)
          (subst (λ (bs : List ℕ). AreTransmission form 0 bs adds.added) bytes (subst (λ (p : ℕ). AreTransmission form p (next_bytes old size) adds.added) start adds.transmission));
      only = carried ∙ ap (λ (cs : List Carried). cs ++ one_carried form old.place (next_bytes old size)) none ∙ ap (λ p. one_carried form p (next_bytes old size)) start ∙ ap (one_carried form 0) bytes;
    }

pub one : (form : Form) (old new : Cut) (size : ℕ) (before after : List Carried) (r : Result (Unit {0}) AllocError) → old.place ≡ 0 → old.parts ≡ [] → before ≡ [] → size ≡ length old.whole
    → OnOk r (AddsTransmission form old.place (next_bytes old size) old.parts new.parts) → OnOk r (after ≡ before ++ one_carried form old.place (next_bytes old size))
    → OnOk r (IsOne form old.whole new.parts after)
one form old new size before after (Ok u) start no_part none all adds carried = one_ok form old new size before after start no_part none all adds carried
one form old new size before after (Err e) start no_part none all adds carried = tt

-- what stands after the head of an envelope
at_width : (form : Form) (old mid : Cut) (size left width : ℕ) (added : List PartSeen) → old.place ≡ 0 → size ≡ length old.whole → mid.whole ≡ old.whole → left ≡ size - width → mid.place + left ≡ old.place + size
    → AreTransmission form mid.place (next_bytes mid left) added → AreTransmission form width (drop width old.whole) added
at_width form old mid size left width added start all whole l place t = elim (either width size) [
  | inl fits ↦
      let place_is : mid.place ≡ width = omega arith in
      let bytes_are : next_bytes mid left ≡ drop width old.whole =
      ap (λ (w : List ℕ). take left (drop mid.place w)) whole ∙ ap (λ p. take left (drop p old.whole)) place_is ∙ take_all left (drop width old.whole) (omega (arith, length-drop width old.whole)) in
      subst (λ (bs : List ℕ). AreTransmission form width bs added) bytes_are (subst (λ (p : ℕ). AreTransmission form p (next_bytes mid left) added) place_is t)
  | inr short ↦
      let none : left ≡ 0 = omega arith in
      none_moves form mid.place width (next_bytes mid left) (drop width old.whole) added (ap (λ n. take n (drop mid.place mid.whole)) none) (drop_all width old.whole (omega arith)) t
]

carried_at_width : (form : Form) (old mid : Cut) (size left width : ℕ) → old.place ≡ 0 → size ≡ length old.whole → mid.whole ≡ old.whole → left ≡ size - width → mid.place + left ≡ old.place + size
    → some_carried form mid.place (next_bytes mid left) ≡ some_carried form width (drop width old.whole)
carried_at_width form old mid size left width start all whole l place = elim (either width size) [
  | inl fits ↦
      let place_is : mid.place ≡ width = omega arith in
      let bytes_are : next_bytes mid left ≡ drop width old.whole =
      ap (λ (w : List ℕ). take left (drop mid.place w)) whole ∙ ap (λ p. take left (drop p old.whole)) place_is ∙ take_all left (drop width old.whole) (omega (arith, length-drop width old.whole)) in
      ap (some_carried form mid.place) bytes_are ∙ ap (λ p. some_carried form p (drop width old.whole)) place_is
  | inr short ↦
      let none : left ≡ 0 = omega arith in
      ap (λ n. some_carried form mid.place (take n (drop mid.place mid.whole))) none ∙ sym (ap (some_carried form width) (drop_all width old.whole (omega arith)))
]

packet_ok : (form : Form) (old mid new : Cut) (size left : ℕ) (before after : List Carried) → old.place ≡ 0 → old.parts ≡ [] → before ≡ [] → size ≡ length old.whole → form ≡ packet_form old.whole
    → mid.whole ≡ old.whole → left ≡ size - width_of packet_rows → mid.place + left ≡ old.place + size → mid.parts ≡ old.parts ++ head_parts packet_rows old.place (next_bytes old size)
    → AddsTransmission form mid.place (next_bytes mid left) mid.parts new.parts → after ≡ before ++ some_carried form mid.place (next_bytes mid left) → IsPacket old.whole new.parts after
packet_ok form old mid new size left before after start no_part none all is whole l place parts adds carried =
    let width : ℕ = width_of packet_rows in
    let bytes : next_bytes old size ≡ old.whole = whole_bytes old size start all in
    let head : mid.parts ≡ head_parts packet_rows 0 old.whole =
    parts ∙ ap (λ (ps : List PartSeen). ps ++ head_parts packet_rows old.place (next_bytes old size)) no_part ∙ ap (λ p. head_parts packet_rows p (next_bytes old size)) start ∙ ap (head_parts packet_rows 0) bytes in
    record {
      behind = adds.added;
      are = adds.are ∙ ap (λ (ps : List PartSeen). ps ++ adds.added) head;
      payload = subst (λ (f : Form). AreTransmission f width (drop width old.whole) adds.added) is (at_width form old mid size left width adds.added start all whole l place adds.transmission);
      only = carried ∙ ap (λ (cs : List Carried). cs ++ some_carried form mid.place (next_bytes mid left)) none ∙ carried_at_width form old mid size left width start all whole l place ∙ ap (λ f. some_carried f width (drop width old.whole)) is;
    }

pub packet : (form : Form) (old mid new : Cut) (size left : ℕ) (before after : List Carried) (r : Result (Unit {0}) AllocError) → old.place ≡ 0 → old.parts ≡ [] → before ≡ [] → size ≡ length old.whole
    → form ≡ packet_form old.whole → mid.whole ≡ old.whole → left ≡ size - width_of packet_rows → mid.place + left ≡ old.place + size → mid.parts ≡ old.parts ++ head_parts packet_rows old.place (next_bytes old size)
    → OnOk r (AddsTransmission form mid.place (next_bytes mid left) mid.parts new.parts) → OnOk r (after ≡ before ++ some_carried form mid.place (next_bytes mid left)) → OnOk r (IsPacket old.whole new.parts after)
packet form old mid new size left before after (Ok u) start no_part none all is whole l place parts adds carried =
    packet_ok form old mid new size left before after start no_part none all is whole l place parts adds carried
packet form old mid new size left before after (Err e) start no_part none all is whole l place parts adds carried = tt

-- nothing is left of a message that is cut to its end
pub no_rest : (c : Cut) → c.place ≡ length c.whole → c.parts ++ stray_part c ≡ c.parts
no_rest c end =
    let none : drop c.place c.whole ≡ [] = drop_all c.place c.whole (omega arith) in
    ap (λ (bs : List ℕ). c.parts ++ filled_part Stray c.place bs) none ∙ append-nil c.parts

-- what holds of its parts holds of all
pub to_end : (P : List PartSeen → Type 0) (old c : Cut) (r : Result (Unit {0}) AllocError) → c.whole ≡ old.whole → OnOk r (c.place ≡ length old.whole) → OnOk r (P c.parts) → OnOk r (P (c.parts ++ stray_part c))
to_end P old c (Ok u) whole end h = subst P (sym (no_rest c (end ∙ ap (λ (w : List ℕ). length w) (sym whole)))) h
to_end P old c (Err e) whole end h = tt

-- a record is told from its first byte on
record_ok : (old c : Cut) (before after : List Carried) → old.place ≡ 0 → old.parts ≡ [] → before ≡ [] → TellsAll record_told old c before after → IsRecord old.whole (c.parts ++ stray_part c) after
record_ok old c before after start no_part none told =
    let all : told_with c after (stray_told c.place (left_of c)) ≡ record_told 0 old.whole =
    told ∙ (λ i. told_before (no_part i) (none i) (record_told (start i) (drop (start i) old.whole))) in
    record { are = ap (λ (t : Told). t.parts) all; only = sym (append-nil after) ∙ ap (λ (t : Told). t.carried) all }

pub record_is : (old c : Cut) (before after : List Carried) (r : Result (Unit {0}) AllocError) → old.place ≡ 0 → old.parts ≡ [] → before ≡ [] → OnOk r (TellsAll record_told old c before after)
    → OnOk r (IsRecord old.whole (c.parts ++ stray_part c) after)
record_is old c before after (Ok u) start no_part none told = record_ok old c before after start no_part none told
record_is old c before after (Err e) start no_part none told = tt
