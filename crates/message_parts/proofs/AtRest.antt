-- What the cuts of a record tell, one after the other.
use Rattle.std.proofs.Common.{◌≡◌, ◌≤◌, ◌<◌, ℕ, zero, suc, ◌+◌, ◌-◌, ◌==◌, Bool, true, false, List, [], ◌∷◌, ◌++◌, inl, inr, length, take, drop, min, Option, Some, None, Result, Ok, Err, refl, if◌then◌else◌, ap, subst, sym, ◌∙◌, arith}
use Rattle.std.specs.Prelude.{IfOk, OnOk}
use Rattle.std.specs.declared.alloc.AllocError.{AllocError}
use Rattle.std.proofs.lemmas.Bool.{eqb-true}
use Rattle.std.proofs.lemmas.List.{append_assoc, take_all, drop_all, drop-drop, length-take, length-drop}
use Rattle.d0_segments.specs.Separators.{plain_length}
use Rattle.kept_records.specs.Fields.{text_codec}
use Rattle.message_parts.specs.declared.dissecting.Carried.{Carried}
use Rattle.message_parts.specs.declared.layout.Form.{Form}
use Rattle.message_parts.specs.declared.layout.Form.TheVariants.{Request, Answer}
use Rattle.message_parts.specs.declared.layout.Within.{Within}
use Rattle.message_parts.specs.declared.marks.Mark.TheVariants as mark
use Rattle.message_parts.specs.declared.part.PartKind.{PartKind}
use Rattle.message_parts.specs.declared.part.PartKind.TheVariants.{Mark}
use Rattle.message_parts.specs.Parts.{PartSeen, Cut}
use Rattle.message_parts.specs.Steps.{filled_part, head_parts, header_rows, width_of, at_first, begins_segment, part_size, within_behind, AreBody, AreTransmission, one_carried}
use Rattle.message_parts.specs.AtRest.{Told, Telling, told_before, body_parts, transmission_parts, stray_told, piece_told, head_told, taken_told, text_told, each_told, journal_rows, switch_count, switch_told, rule_rows, rule_told, has_rule, ruled_told, flagged_told, flag_told, entry_told, count_at, journal_told, book_rows, short_length, product_told, row_told, book_told}
use Rattle.message_parts.specs.Added.{next_bytes, next_taken, some_part, left_of, told_with, Tells, TellsAll, AddsTransmission}
use Rattle.message_parts.proofs.Bytes.{either, front_length}

-- ---- one cut after another

pub as_whole : (f : Telling → Telling) (w v : Bool) (a b : Cut) (x y : List Carried) → w ≡ v → Tells f w a b x y → Tells f v a b x y
as_whole f w v a b x y e p = subst (λ u. Tells f u a b x y) e p

-- ---- pieces

-- a part after parts
told_more : (old parts : List PartSeen) (carried : List Carried) (t : Told) → told_before (old ++ parts) carried t ≡ told_before old carried (told_before parts [] t)
told_more old parts carried t = λ i. record { parts = append_assoc old parts t.parts i; carried = carried ++ t.carried }

-- the bytes that the end may cut off
pub take_min : (xs : List ℕ) (width count : ℕ) → count ≡ min width (length xs) → take count xs ≡ take width xs
take_min xs width count e = elim (either width (length xs)) [
  | inl h ↦ let k : count ≡ width = omega (arith, e) in ap (λ n. take n xs) k
  | inr h ↦ take_all count xs (omega (arith, e)) ∙ sym (take_all width xs (omega arith))
]

pub drop_min : (xs : List ℕ) (width count : ℕ) → count ≡ min width (length xs) → drop count xs ≡ drop width xs
drop_min xs width count e = elim (either width (length xs)) [
  | inl h ↦ let k : count ≡ width = omega (arith, e) in ap (λ n. drop n xs) k
  | inr h ↦ drop_all count xs (omega (arith, e)) ∙ sym (drop_all width xs (omega arith))
]

-- what is left after this many bytes
pub left_moves : (c d : Cut) (width count : ℕ) → count ≡ min width (length (left_of c)) → d.whole ≡ c.whole → d.place ≡ c.place + count → left_of d ≡ drop width (left_of c)
left_moves c d width count e whole place =
    ap (λ (w : List ℕ). drop d.place w) whole ∙ ap (λ p. drop p c.whole) place ∙ sym (drop-drop count c.place c.whole) ∙ drop_min (left_of c) width count e

-- a piece more: these parts of the bytes that were cut
moved : (parts : List PartSeen) (c d : Cut) (width count : ℕ) (carried : List Carried) → count ≡ min width (length (left_of c)) → d.whole ≡ c.whole → d.place ≡ c.place + count → d.parts ≡ c.parts ++ parts → (t : Telling)
    → told_with d carried (t d.place (left_of d)) ≡ told_with c carried (told_before parts [] (t (c.place + length (take width (left_of c))) (drop width (left_of c))))
moved parts c d width count carried e whole place are t =
    let here : d.place ≡ c.place + length (take width (left_of c)) = omega (arith, place, e, length-take width (left_of c)) in
    ap (λ (ps : List PartSeen). told_before ps carried (t d.place (left_of d))) are
    ∙ told_more c.parts parts carried (t d.place (left_of d))
    ∙ ap (λ p. told_with c carried (told_before parts [] (t p (left_of d)))) here
    ∙ ap (λ (bs : List ℕ). told_with c carried (told_before parts [] (t (c.place + length (take width (left_of c))) bs))) (left_moves c d width count e whole place)

pub piece : (kind : PartKind) (c d : Cut) (width count : ℕ) (carried : List Carried) → count ≡ min width (length (left_of c)) → d.whole ≡ c.whole → d.place ≡ c.place + count → d.parts ≡ c.parts ++ some_part c kind count
    → Tells (piece_told kind width) true c d carried carried
piece kind c d width count carried e whole place are = λ t.
    moved (filled_part kind c.place (take width (left_of c))) c d width count carried e whole place
    (are ∙ ap (λ (bs : List ℕ). c.parts ++ filled_part kind c.place bs) (take_min (left_of c) width count e)) t

pub head : (rows : List (PartKind × ℕ)) (c d : Cut) (size left : ℕ) (carried : List Carried) → size ≡ length (left_of c) → d.whole ≡ c.whole → left ≡ size - width_of rows → d.place + left ≡ c.place + size
    → d.parts ≡ c.parts ++ head_parts rows c.place (next_bytes c size) → Tells (head_told rows) true c d carried carried
head rows c d size left carried all whole l place are = λ t.
    let count : ℕ = min (width_of rows) (length (left_of c)) in
    let here : d.place ≡ c.place + count = omega (arith, all, l, place) in
    moved (head_parts rows c.place (left_of c)) c d (width_of rows) count carried refl whole here
    (are ∙ ap (λ (bs : List ℕ). c.parts ++ head_parts rows c.place bs) (take_all size (left_of c) (omega (arith, all)))) t

-- ---- texts

pub some_size : (bytes : List ℕ) → 1 ≤ part_size bytes
unfolding part_size
some_size bytes = elim (begins_segment bytes) as (λ b. 1 ≤ (if b then 6 else 1 + plain_length (drop 1 bytes))) [
  | true ↦ omega arith
  | false ↦ omega arith
]

-- no bytes have no parts
pub body_none : (more : ℕ) (form : Form) (within : Within) (place : ℕ) → body_parts more form within place [] ≡ []
body_none zero form within place = refl
body_none (suc more) form within place = refl

-- the parts of bytes after a header are these alone
body_is : (parts : List PartSeen) (more : ℕ) (form : Form) (within : Within) (place : ℕ) (bytes : List ℕ) → length bytes ≤ more → AreBody form within place bytes parts → parts ≡ body_parts more form within place bytes
body_is [] more form within place bytes le none = sym (ap (body_parts more form within place) none ∙ body_none more form within place)
body_is (p ∷ ps) more form within place [] le are = absurd (omega (arith, are.0))
body_is (p ∷ ps) zero form within place (b ∷ bs) le are = absurd (omega (arith, le))
body_is (p ∷ ps) (suc more) form within place (b ∷ bs) le are =
    let size : ℕ = part_size (b ∷ bs) in
    let fewer : length (drop size (b ∷ bs)) ≤ more = omega (arith, le, some_size (b ∷ bs), length-drop size (b ∷ bs)) in
    let rest : ps ≡ body_parts more form (within_behind within (b ∷ bs)) (place + size) (drop size (b ∷ bs)) =
    body_is ps more form (within_behind within (b ∷ bs)) (place + size) (drop size (b ∷ bs)) fewer are.2 in
    λ i. are.1 i ∷ rest i

pub transmission_is : (form : Form) (place : ℕ) (bytes : List ℕ) (parts : List PartSeen) → AreTransmission form place bytes parts → parts ≡ transmission_parts form place bytes
transmission_is form place bytes parts t =
    let width : ℕ = width_of (header_rows form) in
    t.are ∙ ap (λ (ps : List PartSeen). head_parts (header_rows form) place bytes ++ ps)
    (body_is t.body (length bytes) form at_first (place + width) (drop width bytes) (omega (arith, length-drop width bytes)) t.behind)

-- a transmission of this many bytes
pub sized : (form : Form) (c d : Cut) (size : ℕ) (before after : List Carried) → c.place + size ≤ length c.whole → d.whole ≡ c.whole → d.place ≡ c.place + size
    → AddsTransmission form c.place (next_bytes c size) c.parts d.parts → after ≡ before ++ one_carried form c.place (next_bytes c size)
    → Tells (taken_told form (next_taken c size)) true c d before after
sized form c d size before after fits whole place adds carried = λ t.
    let text : List ℕ = take size (left_of c) in
    let parts : List PartSeen = transmission_parts form c.place text in
    let one : List Carried = one_carried form c.place text in
    let are : d.parts ≡ c.parts ++ parts = adds.are ∙ ap (λ (ps : List PartSeen). c.parts ++ ps) (transmission_is form c.place text adds.added adds.transmission) in
    let here : d.place ≡ c.place + length text = omega (arith, place, front_length c.whole c.place size fits) in
    let left : left_of d ≡ drop size (left_of c) = ap (λ (w : List ℕ). drop d.place w) whole ∙ ap (λ p. drop p c.whole) place ∙ sym (drop-drop size c.place c.whole) in
    let told : Told = t d.place (left_of d) in
    (λ i. record { parts = (ap (λ (ps : List PartSeen). ps ++ told.parts) are ∙ append_assoc c.parts parts told.parts) i; carried = (ap (λ (cs : List Carried). cs ++ told.carried) carried ∙ append_assoc before one told.carried) i })
    ∙ ap (λ p. told_with c before (told_before parts one (t p (left_of d)))) here
    ∙ ap (λ (bs : List ℕ). told_with c before (told_before parts one (t (c.place + length text) bs))) left

-- a text after its length
pub text_there : (form : Form) (c d e : Cut) (bytes : List ℕ) (size : ℕ) (w : Bool) (before after : List Carried)
    → bytes ≡ left_of c → text_codec.at bytes ≡ Some (take size (drop 4 bytes), drop size (drop 4 bytes)) → left_of d ≡ drop 4 (left_of c)
    → Tells (piece_told (Mark mark.Length) 4) true c d before before → Tells (taken_told form (next_taken d size)) w d e before after
    → Tells (text_told form) w c e before after
text_there form c d e bytes size w before after is at left p q =
    let taken : next_taken d size ≡ text_codec.at (left_of c) =
    ap (λ (bs : List ℕ). Some (take size bs, drop size bs)) (left ∙ ap (drop 4) (sym is)) ∙ sym at ∙ ap text_codec.at is in
    λ t. (subst (λ (o : Option (List ℕ × List ℕ)). Tells (taken_told form o) w d e before after) taken q) t ∙ p (taken_told form (text_codec.at (left_of c)) t)

pub no_text : (form : Form) (c d : Cut) (bytes : List ℕ) (before : List Carried) → bytes ≡ left_of c → text_codec.at bytes ≡ None → Tells (piece_told (Mark mark.Length) 4) true c d before before
    → Tells (text_told form) false c d before before
no_text form c d bytes before is at p = λ t.
    ap (λ (o : Option (List ℕ × List ℕ)). told_with d before (taken_told form o t d.place (left_of d))) (sym at ∙ ap text_codec.at is) ∙ p (taken_told form (text_codec.at (left_of c)) t)

-- there is room for a text after its length
pub text_fits : (c d : Cut) (bytes : List ℕ) (size : ℕ) → bytes ≡ left_of c → 4 + size ≤ length bytes → c.place + length bytes ≡ length c.whole → d.whole ≡ c.whole → d.place ≡ c.place + min 4 (length (left_of c))
    → d.place + size ≤ length d.whole
text_fits c d bytes size is room within whole place =
    let long : length bytes ≡ length (left_of c) = ap (λ (bs : List ℕ). length bs) is in
    let same : length d.whole ≡ length c.whole = ap (λ (w : List ℕ). length w) whole in
    let behind : d.place ≡ c.place + 4 = omega (arith, place, long, room) in
    omega (arith, behind, same, within, room)

-- ---- where a result is given on

pub if_ok : {A : Type 0} (P Q : A → Type 0) (r : Result A AllocError) → ((x : A) → P x → Q x) → IfOk r P → IfOk r Q
if_ok P Q (Ok x) f h = f x h
if_ok P Q (Err e) f h = tt

pub on_ok : (P Q : Type 0) (r : Result (Unit {0}) AllocError) → (P → Q) → OnOk r P → OnOk r Q
on_ok P Q (Ok u) f h = f h
on_ok P Q (Err e) f h = tt

-- ---- one after the other

-- one more of those that are left
each_more : (one : Telling → Telling) (count i : ℕ) (t : Telling) (place : ℕ) (bytes : List ℕ) → i < count → each_told one (count - i) t place bytes ≡ one (each_told one (count - (i + 1)) t) place bytes
unfolding each_told
each_more one count i t place bytes lt =
    let left : count - i ≡ suc (count - (i + 1)) = omega (arith, lt) in
    ap (λ n. each_told one n t place bytes) left

pub each_next : (one : Telling → Telling) (count i : ℕ) (t : Telling) (w : Bool) (c d : Cut) (x y : List Carried) (all : Told) → i < count → w ≡ true → Tells one w c d x y
    → told_with c x (each_told one (count - i) t c.place (left_of c)) ≡ all → told_with d y (each_told one (count - (i + 1)) t d.place (left_of d)) ≡ all
each_next one count i t w c d x y all lt whole p before =
    as_whole one w true c d x y whole p (each_told one (count - (i + 1)) t)
    ∙ ap (told_with c x) (sym (each_more one count i t c.place (left_of c) lt)) ∙ before

-- not all of it was there
pub each_stops : (one : Telling → Telling) (count i : ℕ) (t : Telling) (w : Bool) (c d : Cut) (x y : List Carried) (all : Told) → i < count → w ≡ false → Tells one w c d x y
    → told_with c x (each_told one (count - i) t c.place (left_of c)) ≡ all → told_with d y (stray_told d.place (left_of d)) ≡ all
each_stops one count i t w c d x y all lt cut p before =
    as_whole one w false c d x y cut p (each_told one (count - (i + 1)) t)
    ∙ ap (told_with c x) (sym (each_more one count i t c.place (left_of c) lt)) ∙ before

-- all were there
pub each_done : (one : Telling → Telling) (count i : ℕ) (t : Telling) (c : Cut) (x : List Carried) (all : Told) → count ≤ i → told_with c x (each_told one (count - i) t c.place (left_of c)) ≡ all
    → told_with c x (t c.place (left_of c)) ≡ all
unfolding each_told
each_done one count i t c x all le before =
    let none : count - i ≡ 0 = omega (arith, le) in
    ap (λ n. told_with c x (each_told one n t c.place (left_of c))) (sym none) ∙ before

-- a piece of no bytes tells nothing
no_piece : (kind : PartKind) (width : ℕ) (t : Telling) (place : ℕ) → piece_told kind width t place [] ≡ t place []
no_piece kind width t place =
    let front : take {A = ℕ} width [] ≡ [] = take_all {A = ℕ} width [] (omega arith) in
    let here : place + length {A = ℕ} (take width []) ≡ place = omega (arith, ap (λ (bs : List ℕ). length bs) front) in
    ap (λ (bs : List ℕ). told_before (filled_part kind place bs) [] (t (place + length {A = ℕ} (take width [])) (drop width []))) front
    ∙ ap (λ p. t p (drop width [])) here ∙ ap (t place) (drop_all width [] (omega arith))

-- nothing is told of no bytes
abbrev pub IsNothing : (Telling → Telling) → Type 0
IsNothing one = (t : Telling) (place : ℕ) → one t place [] ≡ t place []

pub no_switch : IsNothing switch_told
no_switch t place = no_piece (Mark mark.Switch) 2 t place

pub no_product : IsNothing product_told
unfolding product_told
no_product t place =
    no_piece (Mark mark.Length) 1 (piece_told (Mark mark.PlanProduct) 0 (piece_told (Mark mark.Price) 4 t)) place
    ∙ no_piece (Mark mark.PlanProduct) 0 (piece_told (Mark mark.Price) 4 t) place ∙ no_piece (Mark mark.Price) 4 t place

none_more : (one : Telling → Telling) → IsNothing one → (n : ℕ) (t : Telling) (place : ℕ) → each_told one n t place [] ≡ t place []
unfolding each_told
none_more one none zero t place = refl
none_more one none (suc n) t place = none (each_told one n t) place ∙ none_more one none n t place

no_bytes : (bs : List ℕ) → (length bs == 0) ≡ true → bs ≡ []
no_bytes [] e = refl
no_bytes (b ∷ bs) e = absurd (omega (arith, eqb-true (length (b ∷ bs)) 0 e))

-- no bytes are left for more
pub each_end : (one : Telling → Telling) → IsNothing one → (n : ℕ) (t : Telling) (c : Cut) (x : List Carried) (all : Told) (left : List ℕ) → left ≡ left_of c → (length left == 0) ≡ true
    → told_with c x (each_told one n t c.place (left_of c)) ≡ all → told_with c x (t c.place (left_of c)) ≡ all
each_end one nothing n t c x all left is empty before =
    let none : left_of c ≡ [] = sym is ∙ no_bytes left empty in
    ap (λ (bs : List ℕ). told_with c x (t c.place bs)) none ∙ ap (told_with c x) (sym (none_more one nothing n t c.place))
    ∙ ap (λ (bs : List ℕ). told_with c x (each_told one n t c.place bs)) (sym none) ∙ before

-- ---- entries, products and rows

pub entry_short : (w : Bool) (a b c : Cut) (x y : List Carried) → w ≡ false → Tells (piece_told (Mark mark.Number) 8) true a b x x → Tells (text_told Request) w b c x y → Tells entry_told false a c x y
unfolding entry_told
entry_short w a b c x y cut p q = λ t. as_whole (text_told Request) w false b c x y cut q (flag_told t) ∙ p (text_told Request (flag_told t))

pub entry : (v w : Bool) (a b c d : Cut) (x y z : List Carried) → v ≡ true → Tells (piece_told (Mark mark.Number) 8) true a b x x → Tells (text_told Request) v b c x y → Tells flag_told w c d y z
    → Tells entry_told w a d x z
unfolding entry_told
entry v w a b c d x y z whole p q r = λ t. r t ∙ as_whole (text_told Request) v true b c x y whole q (flag_told t) ∙ p (text_told Request (flag_told t))

pub flag : (w : Bool) (a b c : Cut) (x y : List Carried) (front : List ℕ) → front ≡ take 1 (left_of a) → Tells (piece_told (Mark mark.AnswerFlag) 1) true a b x x → Tells (flagged_told front) w b c x y
    → Tells flag_told w a c x y
flag w a b c x y front is p q = λ t. (subst (λ (f : List ℕ). Tells (flagged_told f) w b c x y) is q) t ∙ p (flagged_told (take 1 (left_of a)) t)

pub product : (size : ℕ) (a b c d : Cut) (x : List Carried) → size ≡ short_length (left_of a) → Tells (piece_told (Mark mark.Length) 1) true a b x x → Tells (piece_told (Mark mark.PlanProduct) size) true b c x x
    → Tells (piece_told (Mark mark.Price) 4) true c d x x → Tells product_told true a d x x
unfolding product_told
product size a b c d x is p q r = λ t.
    r t ∙ (subst (λ n. Tells (piece_told (Mark mark.PlanProduct) n) true b c x x) is q) (piece_told (Mark mark.Price) 4 t)
    ∙ p (piece_told (Mark mark.PlanProduct) (short_length (left_of a)) (piece_told (Mark mark.Price) 4 t))

pub row_short : (w : Bool) (a b c d : Cut) (x y : List Carried) → w ≡ false → Tells (piece_told (Mark mark.Pharmacy) 2) true a b x x → Tells (piece_told (Mark mark.Number) 8) true b c x x → Tells (text_told Request) w c d x y
    → Tells row_told false a d x y
unfolding row_told
row_short w a b c d x y cut p q r = λ t.
    as_whole (text_told Request) w false c d x y cut r (text_told Answer t) ∙ q (text_told Request (text_told Answer t))
    ∙ p (piece_told (Mark mark.Number) 8 (text_told Request (text_told Answer t)))

pub row : (v w : Bool) (a b c d e : Cut) (x y z : List Carried) → v ≡ true → Tells (piece_told (Mark mark.Pharmacy) 2) true a b x x → Tells (piece_told (Mark mark.Number) 8) true b c x x
    → Tells (text_told Request) v c d x y → Tells (text_told Answer) w d e y z → Tells row_told w a e x z
unfolding row_told
row v w a b c d e x y z whole p q r s = λ t.
    s t ∙ as_whole (text_told Request) v true c d x y whole r (text_told Answer t) ∙ q (text_told Request (text_told Answer t))
    ∙ p (piece_told (Mark mark.Number) 8 (text_told Request (text_told Answer t)))

-- ---- journals and books

pub rule : (count : ℕ) (a b c : Cut) (x : List Carried) → count ≡ switch_count (left_of a) → Tells (head_told rule_rows) true a b x x → Tells (each_told switch_told count) true b c x x → Tells rule_told true a c x x
unfolding rule_told
rule count a b c x is p q = λ t.
    q t ∙ p (each_told switch_told count t) ∙ ap (λ n. told_with a x (head_told rule_rows (each_told switch_told n t) a.place (left_of a))) is

-- after a head
pub journal : (count : ℕ) (ruled : Bool) (a b c d : Cut) (x y : List Carried) → count ≡ count_at 5 (left_of a) → ruled ≡ has_rule (left_of a) → Tells (head_told journal_rows) true a b x x
    → Tells (ruled_told ruled) true b c x x → TellsAll (each_told entry_told count stray_told) c d x y → TellsAll journal_told a d x y
unfolding journal_told
journal count ruled a b c d x y is has p q r =
    r ∙ q (each_told entry_told count stray_told) ∙ p (ruled_told ruled (each_told entry_told count stray_told))
    ∙ ap (λ n. told_with a x (head_told journal_rows (ruled_told ruled (each_told entry_told n stray_told)) a.place (left_of a))) is
    ∙ ap (λ w. told_with a x (head_told journal_rows (ruled_told w (each_told entry_told (count_at 5 (left_of a)) stray_told)) a.place (left_of a))) has

pub book : (products rows : ℕ) (a b c d : Cut) (x y : List Carried) → products ≡ count_at 21 (left_of a) → rows ≡ count_at 25 (left_of a) → Tells (head_told book_rows) true a b x x
    → Tells (each_told product_told products) true b c x x → TellsAll (each_told row_told rows stray_told) c d x y → TellsAll book_told a d x y
unfolding book_told
book products rows a b c d x y is are p q r =
    r ∙ q (each_told row_told rows stray_told) ∙ p (each_told product_told products (each_told row_told rows stray_told))
    ∙ ap (λ n. told_with a x (head_told book_rows (each_told product_told n (each_told row_told rows stray_told)) a.place (left_of a))) is
    ∙ ap (λ n. told_with a x (head_told book_rows (each_told product_told (count_at 21 (left_of a)) (each_told row_told n stray_told)) a.place (left_of a))) are
