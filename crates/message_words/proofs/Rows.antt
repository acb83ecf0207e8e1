-- Rows of parts, and a whole description.
use Rattle.std.proofs.Common.{◌≡◌, ◌≤◌, ℕ, suc, ◌+◌, ◌-◌, ◌||◌, Bool, true, false, List, [], ◌∷◌, ◌++◌, length, take, drop, min, codes, refl, sym, ap, subst, ◌∙◌, arith}
use Rattle.std.proofs.lemmas.List.{append_assoc, append-nil, take-append-le, take_all, length-append, length-take, length-drop, length-replicate, drop-replicate, replicate-append-replicate}
use Rattle.std.proofs.lemmas.Bool.{false≢true}
use Rattle.message_parts.specs.declared.dissecting.Carried.{Carried}
use Rattle.message_parts.specs.declared.dissecting.MessageKind.{MessageKind}
use Rattle.message_parts.specs.declared.dissecting.MessageKind.TheVariants as message
use Rattle.message_words.specs.declared.finding_page.FindingPage.{FindingPage}
use Rattle.message_parts.specs.declared.layout.Form.TheVariants.{Request, Answer}
use Rattle.message_words.specs.declared.page.Page.{Page}
use Rattle.message_words.specs.declared.text.Text.{Text}
use Rattle.message_words.specs.AllFound.{FindsAll, found_text}
use Rattle.message_words.specs.Described.{between_text, description, description_of, end_text, head_text, is_refused}
use Rattle.message_words.specs.Encoded.{spaces, to_left, to_right}
use Rattle.message_parts.specs.Messages.{AreOf, message_told}
use Rattle.message_parts.specs.Parts.{PartSeen}
use Rattle.message_words.specs.Rows.{AddsRow, AddsRows, TakesRow, counted_with, meaning_behind, next_row, rows_of}
use Rattle.message_words.specs.Sayings.{IsTaken}
use Rattle.message_parts.specs.Steps.{head_parts, packet_form, packet_rows, width_of}
use Rattle.message_words.specs.Written.{Takes}
use Rattle.message_parts.proofs.AtRest.{transmission_is}

-- ---- pieces of a row

-- what a value means stands after as many letters as the value has
pub line_taken : (front value meaning : List ℕ) (a b c d : Text) (from : ℕ) → Takes front a b → from ≡ length b.bytes.items → Takes value b c
    → Takes (meaning_behind (length c.bytes.items - from) meaning) c d → Takes (front ++ value ++ meaning_behind (length value) meaning) a d
line_taken front value meaning a b c d from p is q r = λ e.
    let z = r e in
    let y = q z.0 in
    let x = p y.0 in
    let width : length c.bytes.items - from ≡ length value = omega (arith, is, ap length y.1, length-append b.bytes.items value) in
    let behind : List ℕ = meaning_behind (length value) meaning in (
      x.0,
      z.1 ∙ ap (λ n. c.bytes.items ++ meaning_behind n meaning) width ∙ ap (λ (bs : List ℕ). bs ++ behind) (y.1 ∙ ap (λ (bs : List ℕ). bs ++ value) x.1 ∙ append_assoc a.bytes.items front value)
          ∙ append_assoc a.bytes.items (front ++ value) behind,
    )

-- what a word is written of, as another says
pub both_as : (u v w : List ℕ) (a b c : Text) → w ≡ u → Takes w a b → Takes v b c → Takes (u ++ v) a c
both_as u v w a b c is p q = λ e.
    let y = q e in
    let x = p y.0 in
    (x.0, y.1 ∙ ap (λ (bs : List ℕ). bs ++ v) (x.1 ∙ ap (λ (bs : List ℕ). a.bytes.items ++ bs) is) ∙ append_assoc a.bytes.items u v)

-- ---- all parts

-- whatever adds the rows of the parts that are left adds those of all
abbrev pub AddsUpTo : (all left : List PartSeen) → (old now : Page) → Type 0
AddsUpTo all left old now = (n : Page) → TakesRow (rows_of now.style now.started now.transactions left) now n
    → TakesRow (rows_of old.style old.started old.transactions all) old n

both_rows : (u v : List ℕ) (a b c : Page) → TakesRow u a b → TakesRow v b c → TakesRow (u ++ v) a c
both_rows u v a b c p q = λ out note.
    let y = q out note in
    let x = p y.0 y.1 in
    (x.0, x.1, y.2 ∙ ap (λ (bs : List ℕ). bs ++ v) x.2 ∙ append_assoc a.out.bytes.items u v)

-- one part more
pub row_more : (all left behind : List PartSeen) (p : PartSeen) (old now new : Page) → left ≡ p ∷ behind → AddsUpTo all left old now → AddsRow p now new
    → new.style ≡ now.style → new.started ≡ true → new.transactions ≡ counted_with now.transactions p.kind → AddsUpTo all behind old new
row_more all left behind p old now new is before adds style started count = λ n rest.
    let here : TakesRow (rows_of now.style true (counted_with now.transactions p.kind) behind) new n =
    subst (λ (bs : List ℕ). TakesRow bs new n) (λ i. rows_of (style i) (started i) (count i) behind) rest in
    before n (subst (λ (ps : List PartSeen). TakesRow (rows_of now.style now.started now.transactions ps) now n) (sym is)
    (both_rows (next_row now.style now.started now.transactions p) (rows_of now.style true (counted_with now.transactions p.kind) behind) now new n adds here))

-- no part is left
pub rows_done : (all left : List PartSeen) (old now : Page) → left ≡ [] → AddsUpTo all left old now → AddsRows all old now
rows_done all left old now none before =
    before now (λ out note. (out, note, sym (append-nil now.out.bytes.items) ∙ ap (λ (ps : List PartSeen). now.out.bytes.items ++ rows_of now.style now.started now.transactions ps) (sym none)))

-- ---- a description

or_left : (a b : Bool) → (a || b) ≡ false → a ≡ false
or_left false b e = refl
or_left true b e = absurd (false≢true (sym e))

or_right : (a b : Bool) → (a || b) ≡ false → b ≡ false
or_right false b e = e
or_right true b e = absurd (false≢true (sym e))

-- where no memory was refused for a page, none was for what is written on it
pub out_taken : (page : Page) → is_refused page ≡ false → page.out.refused ≡ false
out_taken page e = or_left page.out.refused page.note.refused (or_left (page.out.refused || page.note.refused) _ e)

pub note_taken : (page : Page) → is_refused page ≡ false → page.note.refused ≡ false
note_taken page e = or_right page.out.refused page.note.refused (or_left (page.out.refused || page.note.refused) _ e)

pub findings_taken : (page : Page) → is_refused page ≡ false → IsTaken page.findings
findings_taken page e =
    let f : FindingPage = page.findings in
    let all = or_right (page.out.refused || page.note.refused) (f.out.refused || f.note.refused || f.members.refused || f.around.refused || f.below.refused) e in
    let four = or_left (f.out.refused || f.note.refused || f.members.refused || f.around.refused) f.below.refused all in
    let three = or_left (f.out.refused || f.note.refused || f.members.refused) f.around.refused four in
    let two = or_left (f.out.refused || f.note.refused) f.members.refused three in
    record {
      out = or_left f.out.refused f.note.refused two;
      note = or_right f.out.refused f.note.refused two;
      members = or_right (f.out.refused || f.note.refused) f.members.refused three;
      around = or_right (f.out.refused || f.note.refused || f.members.refused) f.around.refused four;
      below = or_right (f.out.refused || f.note.refused || f.members.refused || f.around.refused) f.below.refused all;
    }

-- the parts of a message, and what it carries, are a function of its bytes
pub told_of_message : (k : MessageKind) (bytes : List ℕ) (parts : List PartSeen) (carried : List Carried) → AreOf k bytes parts carried
    → (parts ≡ (message_told k bytes).parts) × (carried ≡ (message_told k bytes).carried)
told_of_message message.Request bytes parts carried are = (transmission_is Request 0 bytes parts are.transmission, are.only)
told_of_message message.Answer bytes parts carried are = (transmission_is Answer 0 bytes parts are.transmission, are.only)
told_of_message message.Packet bytes parts carried are = (
  are.are ∙ ap (λ (ps : List PartSeen). head_parts packet_rows 0 bytes ++ ps)
      (transmission_is (packet_form bytes) (width_of packet_rows) (drop (width_of packet_rows) bytes) are.behind are.payload),
  are.only,
)
told_of_message message.Record bytes parts carried are = (are.are, are.only)

-- the head, the rows, what is found and the end
pub described : (o b r f n : Page) (line : ℕ) (k : MessageKind) (bytes : List ℕ) (parts : List PartSeen) (carried : List Carried) (clear found : FindingPage) → AreOf k bytes parts carried
    → (b.out.refused ≡ false → (o.out.refused ≡ false) × (b.out.bytes.items ≡ head_text o.style line k (length bytes) o.dropped))
    → b ≡ record o { out = b.out; started = false; transactions = 0 } → clear.out.bytes.items ≡ [] → clear.style ≡ b.style → FindsAll k bytes carried clear found
    → AddsRows parts (record b { findings = found }) r → r.style ≡ b.style → r.findings ≡ found
    → Takes (between_text r.style ++ r.findings.out.bytes.items) r.out f.out → f ≡ record r { out = f.out } → Takes (end_text f.style) f.out n.out → n ≡ record f { out = n.out }
    → is_refused n ≡ false → n.out.bytes.items ≡ description o.style o.dropped line k bytes
unfolding description
described o b r f n line k bytes parts carried clear found are begins same empty cleared finds rows kept held puts same_too ends same_last e =
    let z = ends (out_taken n e) in
    let y = puts z.0 in
    let last_note : n.note ≡ r.note = ap (λ (p : Page). p.note) same_last ∙ ap (λ (p : Page). p.note) same_too in
    let x = rows y.0 (ap (λ (t : Text). t.refused) (sym last_note) ∙ note_taken n e) in
    let w = begins x.0 in
    let last_found : n.findings ≡ found = ap (λ (p : Page). p.findings) same_last ∙ ap (λ (p : Page). p.findings) same_too ∙ held in
    let all = finds (subst IsTaken last_found (findings_taken n e)) in
    let style : b.style ≡ o.style = ap (λ (p : Page). p.style) same in
    let later : r.style ≡ o.style = kept ∙ style in
    let last : f.style ≡ o.style = ap (λ (p : Page). p.style) same_too ∙ later in
    let started : b.started ≡ false = ap (λ (p : Page). p.started) same in
    let count : b.transactions ≡ 0 = ap (λ (p : Page). p.transactions) same in
    let told = told_of_message k bytes parts carried are in
    let text : r.findings.out.bytes.items ≡ found_text o.style k bytes carried =
    ap (λ (p : FindingPage). p.out.bytes.items) held ∙ all.text ∙ (λ i. empty i ++ found_text ((cleared ∙ style) i) k bytes carried) in
    let head : List ℕ = head_text o.style line k (length bytes) o.dropped in
    let whole : n.out.bytes.items ≡ (((head ++ rows_of o.style false 0 parts) ++ (between_text o.style ++ found_text o.style k bytes carried)) ++ end_text o.style) =
    z.1 ∙ (λ i. f.out.bytes.items ++ end_text (last i)) ∙ ap (λ (bs : List ℕ). bs ++ end_text o.style)
    (y.1 ∙ (λ i. r.out.bytes.items ++ (between_text (later i) ++ text i))
    ∙ ap (λ (bs : List ℕ). bs ++ (between_text o.style ++ found_text o.style k bytes carried)) (x.2 ∙ (λ i. w.1 i ++ rows_of (style i) (started i) (count i) parts))) in
    whole ∙ ap (λ (bs : List ℕ). bs ++ end_text o.style) (sym (append_assoc (head ++ rows_of o.style false 0 parts) (between_text o.style) (found_text o.style k bytes carried)))
    ∙ (λ i. description_of o.style o.dropped line k bytes (told.0 i) (told.1 i))

-- ---- columns

-- a text in the place of as many spaces
pub put_in : (front text : List ℕ) (count from behind : ℕ) (line : List ℕ) → line ≡ front ++ spaces count → from ≡ length front → behind ≡ from + length text → length text ≤ count
    → take from line ++ text ++ drop behind line ≡ front ++ text ++ spaces (count - length text)
put_in front text count from behind line is start end fits =
    let whole : take from line ≡ front = ap (λ (bs : List ℕ). take from bs) is ∙ take-append-le from front (spaces count) (omega (arith, start)) ∙ take_all from front (omega (arith, start)) in
    let rest : drop behind line ≡ spaces (count - length text) = ap (λ (bs : List ℕ). drop behind bs) is ∙ drop_behind front count behind (length text) (omega (arith, start, end)) fits in
    (λ i. whole i ++ text ++ rest i)
  where
    drop_behind : (front : List ℕ) (count behind size : ℕ) → behind ≡ length front + size → size ≤ count → drop behind (front ++ spaces count) ≡ spaces (count - size)
    drop_behind [] count behind size e le = let same : behind ≡ size = omega (arith, e) in ap (λ n. drop n (spaces count)) same ∙ drop-replicate size count 32
    drop_behind (b ∷ bs) count behind size e le = ap (λ n. drop n (b ∷ bs ++ spaces count)) more ∙ drop_behind bs count (length bs + size) size refl le
      where
        more : behind ≡ suc (length bs + size)
        more = omega (arith, e)

split_spaces : (a b n : ℕ) → n ≡ a + b → spaces n ≡ spaces a ++ spaces b
split_spaces a b n e = ap spaces e ∙ sym (replicate-append-replicate a b 32)

-- a text to the left, and a space after it
left_column : (front text : List ℕ) (width count from : ℕ) (line : List ℕ) → line ≡ front ++ spaces (width + (1 + count)) → from ≡ length front
    → take from line ++ take width text ++ drop (from + min (length text) width) line ≡ (front ++ to_left width text ++ codes " ") ++ spaces count
left_column front text width count from line is start =
    let size : length (take width text) ≡ min width (length text) = length-take width text in
    let t : List ℕ = take width text in
    let s : List ℕ = spaces (width - length text) in
    let rest : spaces ((width + (1 + count)) - length t) ≡ s ++ (codes " " ++ spaces count) =
    split_spaces (width - length text) (1 + count) ((width + (1 + count)) - length t) (omega (arith, size)) ∙ ap (λ (bs : List ℕ). s ++ bs) (split_spaces 1 count (1 + count) refl) in
    put_in front t (width + (1 + count)) from (from + min (length text) width) line is start (omega (arith, size)) (omega (arith, size))
    ∙ ap (λ (bs : List ℕ). (front ++ t) ++ bs) rest ∙ sym (append_assoc (front ++ t) s (codes " " ++ spaces count)) ∙ sym (append_assoc ((front ++ t) ++ s) (codes " ") (spaces count))
    ∙ ap (λ (bs : List ℕ). (bs ++ codes " ") ++ spaces count) (append_assoc front t s)

-- the columns, one after the other
pub columns_are : (digits number name l0 l1 l2 l3 : List ℕ) → l0 ≡ 10 ∷ spaces 48
    → l1 ≡ take (9 - min (length digits) 8) l0 ++ drop (length digits - 8) digits ++ drop 9 l0
    → l2 ≡ take 10 l1 ++ take 7 number ++ drop (10 + min (length number) 7) l1
    → l3 ≡ take 18 l2 ++ take 30 name ++ drop (18 + min (length name) 30) l2
    → l3 ≡ codes "\n" ++ to_right 8 digits ++ codes " " ++ to_left 7 number ++ codes " " ++ to_left 30 name ++ codes " "
columns_are digits number name l0 l1 l2 l3 e0 e1 e2 e3 =
    let s8 : List ℕ = spaces (8 - length digits) in
    let text : List ℕ = drop (length digits - 8) digits in
    let size : length text ≡ length digits - (length digits - 8) = length-drop (length digits - 8) digits in
    let wide : length s8 ≡ 8 - length digits = length-replicate {A = ℕ} (8 - length digits) 32 in
    let first : l0 ≡ (10 ∷ s8) ++ spaces (40 + min (length digits) 8) =
    e0 ∙ ap (λ (bs : List ℕ). 10 ∷ bs) (split_spaces (8 - length digits) (40 + min (length digits) 8) 48 (omega arith)) in
    let left : (40 + min (length digits) 8) - length text ≡ 40 = omega (arith, size) in
    let one : l1 ≡ ((10 ∷ s8) ++ text) ++ spaces 40 =
    e1 ∙ put_in (10 ∷ s8) text (40 + min (length digits) 8) (9 - min (length digits) 8) 9 l0 first (omega (arith, wide)) (omega (arith, size)) (omega (arith, size))
    ∙ ap (λ n. ((10 ∷ s8) ++ text) ++ spaces n) left in
    let front : List ℕ = ((10 ∷ s8) ++ text) ++ codes " " in
    let two : l1 ≡ front ++ spaces 39 =
    one ∙ ap (λ (bs : List ℕ). ((10 ∷ s8) ++ text) ++ bs) (split_spaces 1 39 40 refl) ∙ sym (append_assoc ((10 ∷ s8) ++ text) (codes " ") (spaces 39)) in
    let long : length front ≡ 10 = omega (arith, length-append ((10 ∷ s8) ++ text) (codes " "), length-append (10 ∷ s8) text, wide, size) in
    let next : List ℕ = (front ++ to_left 7 number) ++ codes " " in
    let three : l2 ≡ next ++ spaces 31 = e2 ∙ left_column front number 7 31 10 l1 two (sym long) in
    let longer : length next ≡ 18 =
    omega (
      arith,
      length-append (front ++ to_left 7 number) (codes " "),
      length-append front (to_left 7 number),
      long,
      length-append (take 7 number) (spaces (7 - length number)),
      length-take 7 number,
      length-replicate {A = ℕ} (7 - length number) 32,
    ) in
    let four : l3 ≡ ((next ++ to_left 30 name) ++ codes " ") ++ spaces 0 = e3 ∙ left_column next name 30 0 18 l2 three (sym longer) in
    four ∙ append-nil ((next ++ to_left 30 name) ++ codes " ")

-- the last digits of a number
pub place_put : (nt digits front text old new : List ℕ) (count size : ℕ) → count ≡ length nt → take count digits ≡ nt → size ≡ min count 8 → front ≡ take count digits → text ≡ drop (count - size) front
    → new ≡ take (9 - size) old ++ take size text ++ drop ((9 - size) + min (length text) size) old
    → new ≡ take (9 - min (length nt) 8) old ++ drop (length nt - 8) nt ++ drop 9 old
place_put nt digits front text old new count size long written least f t e =
    let less : count - size ≡ length nt - 8 = omega (arith, long, least) in
    let is : text ≡ drop (length nt - 8) nt = t ∙ ap (drop (count - size)) (f ∙ written) ∙ ap (λ n. drop n nt) less in
    let wide : length text ≡ size = omega (arith, ap length is, length-drop (length nt - 8) nt, long, least) in
    let whole : take size text ≡ drop (length nt - 8) nt = take_all size text (omega (arith, wide)) ∙ is in
    let start : 9 - size ≡ 9 - min (length nt) 8 = omega (arith, long, least) in
    let end : (9 - size) + min (length text) size ≡ 9 = omega (arith, wide, long, least) in
    e ∙ ap (λ n. take n old ++ take size text ++ drop ((9 - size) + min (length text) size) old) start
    ∙ ap (λ (bs : List ℕ). take (9 - min (length nt) 8) old ++ bs ++ drop ((9 - size) + min (length text) size) old) whole
    ∙ ap (λ n. take (9 - min (length nt) 8) old ++ drop (length nt - 8) nt ++ drop n old) end
