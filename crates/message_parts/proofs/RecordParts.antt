-- Pieces of records of which no part is out of place.
use Rattle.std.proofs.Common.{◌≡◌, ◌≤◌, ℕ, zero, suc, ◌+◌, ◌==◌, Bool, true, false, List, [], ◌∷◌, length, take, drop, nat_lt, Option, Some, None, refl, sym, ap, subst, ◌∙◌, arith}
use Rattle.std.specs.Prelude.{if◌then◌else◌}
use Rattle.std.specs.List.{AllByRecursion}
use Rattle.std.specs.Int.{w16, from_be_bytes}
use Rattle.std.proofs.lemmas.List.{length-drop, drop-drop}
use Rattle.d0_segments.specs.Framing.{framing_fault, request_kind, response_kind}
use Rattle.codec.specs.Options.{◌>>=◌}
use Rattle.codec.specs.Fields.{bytes_at, u8_at, u16_at, u32_at, u64_at}
use Rattle.codec.specs.Codecs.{u8, u16, u32, u64, sized, times, counted as listed, both as pair}
use Rattle.codec.proofs.CodecLaws.{both_parts, made_parts}
use Rattle.claim_model.specs.Journal.{Kept, RetryRule}
use Rattle.payer_book.specs.Added.{KeptRow}
use Rattle.kept_records.specs.Fields.{text_codec}
use Rattle.kept_records.specs.Versions.{version_codec}
use Rattle.kept_records.specs.Heads.{journal_head_codec, identity_codec, counts_codec, book_head_codec}
use Rattle.kept_records.specs.Products.{product_codec}
use Rattle.kept_records.specs.Rows.{row_codec}
use Rattle.kept_records.specs.Rules.{rule_codec}
use Rattle.kept_records.specs.Entries.{answer_of, answer_codec, kept_codec, entry_codec}
use Rattle.message_parts.specs.declared.layout.Form.{Form}
use Rattle.message_parts.specs.declared.layout.Form.TheVariants.{Request, Answer}
use Rattle.message_parts.specs.declared.layout.Within.{Within}
use Rattle.message_parts.specs.declared.marks.Mark.TheVariants as mark
use Rattle.message_parts.specs.declared.part.PartKind.{PartKind}
use Rattle.message_parts.specs.declared.part.PartKind.TheVariants as part
use Rattle.message_parts.specs.Parts.{PartSeen}
use Rattle.message_parts.specs.Steps.{AreBody, AreTransmission, at_first, filled_part, head_parts, header_rows, part_size, width_of, within_behind}
use Rattle.message_parts.specs.AtRest.{Told, Telling, body_parts, count_at, count_in, each_told, entry_told, has_rule, rule_rows, rule_told, switch_count, switch_told, flag_told, flagged_told, piece_told, product_told, row_told, taken_told, text_told, transmission_parts}
use Rattle.message_parts.specs.Standing.{Stands, stands}
use Rattle.message_parts.proofs.AtRest.{body_none, some_size}
use Rattle.message_parts.proofs.Framed.{both, filled, head_stands, request, answer}

-- no part is out of place
abbrev pub Clean : Told → Type 0
Clean t = AllByRecursion Stands t.parts

-- ---- what is there of a chain

pub record There {A B : Type 0} (o : Option A) (f : A → Option B) (x : B) : Type 0 where
  pub value : A
  pub is : o ≡ Some value
  pub goes_on : f value ≡ Some x

pub there : {A B : Type 0} (o : Option A) (f : A → Option B) (x : B) → (o >>= f) ≡ Some x → There o f x
there None f x e = absurd cc
there (Some a) f x e = record { value = a; is = refl; goes_on = e }

pub some_is : {A : Type 0} (x y : A) → Some x ≡ Some y → x ≡ y
some_is x y e = cc

-- ---- numbers

pub after_8 : (bytes : List ℕ) (taken : ℕ × List ℕ) → u64_at bytes ≡ Some taken → taken.1 ≡ drop 8 bytes
unfolding u64_at
after_8 bytes taken e = by_test (nat_lt (length bytes) 8) _ e
  where
    by_test : (short : Bool) (n : ℕ) → (if short then None else Some (n, drop 8 bytes)) ≡ Some taken → taken.1 ≡ drop 8 bytes
    by_test true n e = absurd cc
    by_test false n e = ap (λ (t : ℕ × List ℕ). t.1) (sym (some_is _ _ e))

pub after_4 : (bytes : List ℕ) (taken : ℕ × List ℕ) → u32_at bytes ≡ Some taken → taken.1 ≡ drop 4 bytes
unfolding u32_at
after_4 bytes taken e = by_test (nat_lt (length bytes) 4) _ e
  where
    by_test : (short : Bool) (n : ℕ) → (if short then None else Some (n, drop 4 bytes)) ≡ Some taken → taken.1 ≡ drop 4 bytes
    by_test true n e = absurd cc
    by_test false n e = ap (λ (t : ℕ × List ℕ). t.1) (sym (some_is _ _ e))

pub after_2 : (bytes : List ℕ) (taken : ℕ × List ℕ) → u16_at bytes ≡ Some taken → taken.1 ≡ drop 2 bytes
unfolding u16_at
after_2 bytes taken e = by_test (nat_lt (length bytes) 2) _ e
  where
    by_test : (short : Bool) (n : ℕ) → (if short then None else Some (n, drop 2 bytes)) ≡ Some taken → taken.1 ≡ drop 2 bytes
    by_test true n e = absurd cc
    by_test false n e = ap (λ (t : ℕ × List ℕ). t.1) (sym (some_is _ _ e))

-- one byte
pub one_byte : (bytes : List ℕ) (taken : ℕ × List ℕ) → u8_at bytes ≡ Some taken → bytes ≡ taken.0 ∷ taken.1
unfolding u8_at
one_byte [] taken e = absurd cc
one_byte (b ∷ bs) taken e = ap (λ (t : ℕ × List ℕ). t.0 ∷ t.1) (some_is (b, bs) taken e)

-- ---- pieces

pub piece_clean : (k : PartKind) (width : ℕ) (behind : Telling) (place : ℕ) (bytes : List ℕ) → stands k ≡ true → ((p : ℕ) → Clean (behind p (drop width bytes))) → Clean (piece_told k width behind place bytes)
piece_clean k width behind place bytes e rest =
    both (filled_part k place (take width bytes)) (behind (place + length (take width bytes)) (drop width bytes)).parts (filled k place (take width bytes) e) (rest (place + length (take width bytes)))

are_body : (more : ℕ) (form : Form) (within : Within) (place : ℕ) (bytes : List ℕ) → length bytes ≤ more → AreBody form within place bytes (body_parts more form within place bytes)
are_body more form within place [] le = subst (λ (ps : List PartSeen). AreBody form within place [] ps) (sym (body_none more form within place)) refl
are_body zero form within place (b ∷ bs) le = absurd (omega (arith, le))
are_body (suc more) form within place (b ∷ bs) le =
    let size : ℕ = part_size (b ∷ bs) in
    let fewer : length (drop size (b ∷ bs)) ≤ more = omega (arith, le, some_size (b ∷ bs), length-drop size (b ∷ bs)) in
    (omega arith, refl, are_body more form (within_behind within (b ∷ bs)) (place + size) (drop size (b ∷ bs)) fewer)

are_transmission : (form : Form) (place : ℕ) (bytes : List ℕ) → AreTransmission form place bytes (transmission_parts form place bytes)
are_transmission form place bytes =
    let width : ℕ = width_of (header_rows form) in
    record {
      body = body_parts (length bytes) form at_first (place + width) (drop width bytes);
      are = refl;
      behind = are_body (length bytes) form at_first (place + width) (drop width bytes) (omega (arith, length-drop width bytes));
    }

-- a text that is framed as the standard has it
abbrev pub IsFaultless : Form → List ℕ → Type 0
IsFaultless Request text = framing_fault request_kind text ≡ None
IsFaultless Answer text = framing_fault response_kind text ≡ None

parts_clean : (form : Form) (place : ℕ) (text : List ℕ) → IsFaultless form text → AllByRecursion Stands (transmission_parts form place text)
parts_clean Request place text e = request place text (transmission_parts Request place text) e (are_transmission Request place text)
parts_clean Answer place text e = answer place text (transmission_parts Answer place text) e (are_transmission Answer place text)

pub text_clean : (form : Form) (behind : Telling) (place : ℕ) (bytes : List ℕ) (taken : List ℕ × List ℕ) → text_codec.at bytes ≡ Some taken → IsFaultless form taken.0
    → ((p : ℕ) → Clean (behind p taken.1)) → Clean (text_told form behind place bytes)
text_clean form behind place bytes taken e framed rest =
    piece_clean (part.Mark mark.Length) 4 (taken_told form (text_codec.at bytes) behind) place bytes refl
    (λ p. subst (λ (o : Option (List ℕ × List ℕ)). Clean (taken_told form o behind p (drop 4 bytes))) (sym e)
    (both (transmission_parts form p taken.0) (behind (p + length taken.0) taken.1).parts (parts_clean form p taken.0 framed) (rest (p + length taken.0))))

-- ---- an entry of a journal

abbrev pub IsFaultlessAnswer : Option (List ℕ) → Type 0
IsFaultlessAnswer None = Unit {0}
IsFaultlessAnswer (Some text) = IsFaultless Answer text

-- the flag decides
flagged : (flag : ℕ) (rest : List ℕ) (behind : Telling) (taken : Option (List ℕ) × List ℕ) → answer_of flag rest ≡ Some taken → IsFaultlessAnswer taken.0 → ((p : ℕ) → Clean (behind p taken.1)) → (p : ℕ)
    → Clean (flagged_told (flag ∷ []) behind p rest)
flagged zero rest behind taken e framed clean p = subst (λ (t : Option (List ℕ) × List ℕ). Clean (behind p t.1)) (sym (some_is (None, rest) taken e)) (clean p)
flagged (suc zero) rest behind taken e framed clean p =
    let said = made_parts text_codec Some rest taken.0 taken.1 e in
    text_clean Answer behind p rest (said.0, taken.1) said.1 (subst IsFaultlessAnswer (sym said.2) framed) clean
flagged (suc (suc flag)) rest behind taken e framed clean p = absurd cc

answer_clean : (behind : Telling) (place : ℕ) (bytes : List ℕ) (taken : Option (List ℕ) × List ℕ) → answer_codec.at bytes ≡ Some taken → IsFaultlessAnswer taken.0
    → ((p : ℕ) → Clean (behind p taken.1)) → Clean (flag_told behind place bytes)
unfolding answer_codec
answer_clean behind place bytes taken e framed clean =
    let flag = there (u8_at bytes) (λ flag. answer_of flag.0 flag.1) taken e in
    let are : bytes ≡ flag.value.0 ∷ flag.value.1 = one_byte bytes flag.value flag.is in
    subst (λ (bs : List ℕ). Clean (flag_told behind place bs)) (sym are)
    (piece_clean (part.Mark mark.AnswerFlag) 1 (flagged_told (flag.value.0 ∷ []) behind) place (flag.value.0 ∷ flag.value.1) refl
    (λ p. flagged flag.value.0 flag.value.1 behind taken flag.goes_on framed clean p))

pub entry_clean : (behind : Telling) (place : ℕ) (bytes : List ℕ) (entry : (ℕ × Kept) × List ℕ) → entry_codec.at bytes ≡ Some entry → IsFaultless Request entry.0.1.request → IsFaultlessAnswer entry.0.1.answer
    → ((p : ℕ) → Clean (behind p entry.1)) → Clean (entry_told behind place bytes)
unfolding entry_codec entry_told
entry_clean behind place bytes entry e asks answers clean =
    let number = both_parts u64 kept_codec bytes entry.0 entry.1 e in
    let kept = made_parts (pair text_codec answer_codec) _ number.0 entry.0.1 entry.1 number.2 in
    let texts = both_parts text_codec answer_codec number.0 kept.0 entry.1 kept.1 in
    let left : number.0 ≡ drop 8 bytes = after_8 bytes (entry.0.0, number.0) number.1 in
    let asks_so : IsFaultless Request kept.0.0 = subst (λ (x : Kept). IsFaultless Request x.request) (sym kept.2) asks in
    let answers_so : IsFaultlessAnswer kept.0.1 = subst (λ (x : Kept). IsFaultlessAnswer x.answer) (sym kept.2) answers in
    piece_clean (part.Mark mark.Number) 8 (text_told Request (flag_told behind)) place bytes refl
    (λ p. subst (λ (bs : List ℕ). Clean (text_told Request (flag_told behind) p bs)) left
    (text_clean Request (flag_told behind) p number.0 (kept.0.0, texts.0) texts.1 asks_so (λ q. answer_clean behind q texts.0 (kept.0.1, entry.1) texts.2 answers_so clean)))

-- ---- a row of a book

pub row_clean : (behind : Telling) (place : ℕ) (bytes : List ℕ) (row : KeptRow × List ℕ) → row_codec.at bytes ≡ Some row → IsFaultless Request row.0.request → IsFaultless Answer row.0.answer
    → ((p : ℕ) → Clean (behind p row.1)) → Clean (row_told behind place bytes)
unfolding row_codec row_told
row_clean behind place bytes row e asks answers clean =
    let made = made_parts (pair (pair u16 u64) (pair text_codec text_codec)) _ bytes row.0 row.1 e in
    let halves = both_parts (pair u16 u64) (pair text_codec text_codec) bytes made.0 row.1 made.1 in
    let id = both_parts u16 u64 bytes made.0.0 halves.0 halves.1 in
    let texts = both_parts text_codec text_codec halves.0 made.0.1 row.1 halves.2 in
    let second : id.0 ≡ drop 2 bytes = after_2 bytes (made.0.0.0, id.0) id.1 in
    let third : halves.0 ≡ drop 8 (drop 2 bytes) = after_8 id.0 (made.0.0.1, halves.0) id.2 ∙ ap (drop 8) second in
    let asks_so : IsFaultless Request made.0.1.0 = subst (λ (x : KeptRow). IsFaultless Request x.request) (sym made.2) asks in
    let answers_so : IsFaultless Answer made.0.1.1 = subst (λ (x : KeptRow). IsFaultless Answer x.answer) (sym made.2) answers in
    piece_clean (part.Mark mark.Pharmacy) 2 (piece_told (part.Mark mark.Number) 8 (text_told Request (text_told Answer behind))) place bytes refl
    (λ p. piece_clean (part.Mark mark.Number) 8 (text_told Request (text_told Answer behind)) p (drop 2 bytes) refl
    (λ q. subst (λ (bs : List ℕ). Clean (text_told Request (text_told Answer behind) q bs)) third
    (text_clean Request (text_told Answer behind) q halves.0 (made.0.1.0, texts.0) texts.1 asks_so (λ r. text_clean Answer behind r texts.0 (made.0.1.1, row.1) texts.2 answers_so clean))))

-- ---- a product of a plan

after_size : (size : ℕ) (bytes : List ℕ) (taken : List ℕ × List ℕ) → bytes_at size bytes ≡ Some taken → taken.1 ≡ drop size bytes
unfolding bytes_at
after_size size bytes taken e = by_test _ e
  where
    by_test : (short : Bool) → (if short then None else Some (take size bytes, drop size bytes)) ≡ Some taken → taken.1 ≡ drop size bytes
    by_test true e = absurd cc
    by_test false e = ap (λ (t : List ℕ × List ℕ). t.1) (sym (some_is _ _ e))

pub product_clean : (behind : Telling) (place : ℕ) (bytes : List ℕ) (product : (List ℕ × ℕ) × List ℕ) → product_codec.at bytes ≡ Some product
    → ((p : ℕ) → Clean (behind p product.1)) → Clean (product_told behind place bytes)
unfolding product_codec product_told
product_clean behind place bytes product e clean =
    let parts = both_parts (sized u8) u32 bytes product.0 product.1 e in
    let size = there (u8_at bytes) (λ n. bytes_at n.0 n.1) (product.0.0, parts.0) parts.1 in
    let are : bytes ≡ size.value.0 ∷ size.value.1 = one_byte bytes size.value size.is in
    let second : parts.0 ≡ drop size.value.0 size.value.1 = after_size size.value.0 size.value.1 (product.0.0, parts.0) size.goes_on in
    let third : product.1 ≡ drop 4 (drop size.value.0 size.value.1) = after_4 parts.0 (product.0.1, product.1) parts.2 ∙ ap (drop 4) second in
    subst (λ (bs : List ℕ). Clean (product_told behind place bs)) (sym are)
    (piece_clean (part.Mark mark.Length) 1 (piece_told (part.Mark mark.PlanProduct) size.value.0 (piece_told (part.Mark mark.Price) 4 behind)) place (size.value.0 ∷ size.value.1) refl
    (λ p. piece_clean (part.Mark mark.PlanProduct) size.value.0 (piece_told (part.Mark mark.Price) 4 behind) p size.value.1 refl
    (λ q. piece_clean (part.Mark mark.Price) 4 behind q (drop size.value.0 size.value.1) refl
    (λ r. subst (λ (bs : List ℕ). Clean (behind r bs)) third (clean r)))))

-- ---- heads

first_2 : (bytes : List ℕ) (taken : ℕ × List ℕ) → u16_at bytes ≡ Some taken → taken.0 ≡ from_be_bytes w16 (take 2 bytes)
unfolding u16_at
first_2 bytes taken e = by_test (nat_lt (length bytes) 2) e
  where
    by_test : (short : Bool) → (if short then None else Some (from_be_bytes w16 (take 2 bytes), drop 2 bytes)) ≡ Some taken → taken.0 ≡ from_be_bytes w16 (take 2 bytes)
    by_test true e = absurd cc
    by_test false e = ap (λ (t : ℕ × List ℕ). t.0) (sym (some_is _ _ e))

long_2 : (bytes : List ℕ) (taken : ℕ × List ℕ) → u16_at bytes ≡ Some taken → 2 ≤ length bytes
unfolding u16_at
long_2 [] taken e = absurd cc
long_2 (a ∷ []) taken e = absurd cc
long_2 (a ∷ b ∷ rest) taken e = omega arith

-- after a byte
after_1 : (bytes : List ℕ) (taken : ℕ × List ℕ) → u8_at bytes ≡ Some taken → taken.1 ≡ drop 1 bytes
after_1 bytes taken e = sym (ap (drop 1) (one_byte bytes taken e))

-- a count at its place
counted : (place : ℕ) (bytes rest : List ℕ) (taken : ℕ × List ℕ) → rest ≡ drop place bytes → u32_at rest ≡ Some taken → taken.0 ≡ count_at place bytes
counted place bytes rest taken is e = sym (ap (λ (bs : List ℕ). count_in (u32_at bs)) (sym is) ∙ ap count_in e)

-- bytes after others
further : (more place far : ℕ) (bytes rest behind : List ℕ) → rest ≡ drop place bytes → behind ≡ drop more rest → far ≡ more + place → behind ≡ drop far bytes
further more place far bytes rest behind is e sum = e ∙ ap (drop more) is ∙ drop-drop more place bytes ∙ ap (λ n. drop n bytes) (omega (arith, sum))

-- the third byte says whether there is a rule
third : (bytes : List ℕ) (taken : ℕ × List ℕ) → u8_at (drop 2 bytes) ≡ Some taken → has_rule bytes ≡ (taken.0 == 3)
unfolding u8_at
third [] taken e = absurd cc
third (a ∷ []) taken e = absurd cc
third (a ∷ b ∷ []) taken e = absurd cc
third (a ∷ b ∷ version ∷ rest) taken e = ap (λ (t : ℕ × List ℕ). t.0 == 3) (some_is (version, rest) taken e)

pub record HasJournalHead (bytes : List ℕ) (mark version count : ℕ) (left : List ℕ) : Type 0 where
  pub mark_is : mark ≡ from_be_bytes w16 (take 2 bytes)
  pub version_is : has_rule bytes ≡ (version == 3)
  pub count_is : count ≡ count_at 5 bytes
  pub rest : left ≡ drop 9 bytes

pub journal_head : (bytes : List ℕ) (h : _) → journal_head_codec.at bytes ≡ Some h → HasJournalHead bytes h.0.mark h.0.version h.0.count h.1
unfolding journal_head_codec
journal_head bytes h e =
    let made = made_parts (pair u16 (pair version_codec (pair u16 u32))) _ bytes h.0 h.1 e in
    let mark = both_parts u16 (pair version_codec (pair u16 u32)) bytes made.0 h.1 made.1 in
    let version = both_parts version_codec (pair u16 u32) mark.0 made.0.1 h.1 mark.2 in
    let number = both_parts u16 u32 version.0 made.0.1.1 h.1 version.2 in
    let at_2 : mark.0 ≡ drop 2 bytes = after_2 bytes (made.0.0, mark.0) mark.1 in
    let at_3 : version.0 ≡ drop 3 bytes = further 1 2 3 bytes mark.0 version.0 at_2 (after_1 mark.0 (made.0.1.0, version.0) version.1) refl in
    let at_5 : number.0 ≡ drop 5 bytes = further 2 3 5 bytes version.0 number.0 at_3 (after_2 version.0 (made.0.1.1.0, number.0) number.1) refl in
    record {
      mark_is = sym (ap (λ x. x.mark) made.2) ∙ first_2 bytes (made.0.0, mark.0) mark.1;
      version_is = third bytes (made.0.1.0, version.0) (ap u8_at (sym at_2) ∙ version.1) ∙ ap (λ x. x.version == 3) made.2;
      count_is = sym (ap (λ x. x.count) made.2) ∙ counted 5 bytes number.0 (made.0.1.1.1, h.1) at_5 number.2;
      rest = further 4 5 9 bytes number.0 h.1 at_5 (after_4 number.0 (made.0.1.1.1, h.1) number.2) refl;
    }

pub record HasBookHead (bytes : List ℕ) (name products rows : ℕ) (left : List ℕ) : Type 0 where
  pub long : 2 ≤ length bytes
  pub name_is : name ≡ from_be_bytes w16 (take 2 bytes)
  pub products_are : products ≡ count_at 21 bytes
  pub rows_are : rows ≡ count_at 25 bytes
  pub rest : left ≡ drop 29 bytes

pub book_head : (bytes : List ℕ) (h : _) → book_head_codec.at bytes ≡ Some h → HasBookHead bytes h.0.name h.0.products h.0.rows h.1
unfolding book_head_codec
book_head bytes h e =
    let made = made_parts (pair identity_codec counts_codec) _ bytes h.0 h.1 e in
    let halves = both_parts identity_codec counts_codec bytes made.0 h.1 made.1 in
    let name = both_parts u16 (pair version_codec (pair u16 u64)) bytes made.0.0 halves.0 halves.1 in
    let version = both_parts version_codec (pair u16 u64) name.0 made.0.0.1 halves.0 name.2 in
    let payer = both_parts u16 u64 version.0 made.0.0.1.1 halves.0 version.2 in
    let fee = both_parts u32 (pair u32 (pair u32 u32)) halves.0 made.0.1 h.1 halves.2 in
    let copay = both_parts u32 (pair u32 u32) fee.0 made.0.1.1 h.1 fee.2 in
    let products = both_parts u32 u32 copay.0 made.0.1.1.1 h.1 copay.2 in
    let at_2 : name.0 ≡ drop 2 bytes = after_2 bytes (made.0.0.0, name.0) name.1 in
    let at_3 : version.0 ≡ drop 3 bytes = further 1 2 3 bytes name.0 version.0 at_2 (after_1 name.0 (made.0.0.1.0, version.0) version.1) refl in
    let at_5 : payer.0 ≡ drop 5 bytes = further 2 3 5 bytes version.0 payer.0 at_3 (after_2 version.0 (made.0.0.1.1.0, payer.0) payer.1) refl in
    let at_13 : halves.0 ≡ drop 13 bytes = further 8 5 13 bytes payer.0 halves.0 at_5 (after_8 payer.0 (made.0.0.1.1.1, halves.0) payer.2) refl in
    let at_17 : fee.0 ≡ drop 17 bytes = further 4 13 17 bytes halves.0 fee.0 at_13 (after_4 halves.0 (made.0.1.0, fee.0) fee.1) refl in
    let at_21 : copay.0 ≡ drop 21 bytes = further 4 17 21 bytes fee.0 copay.0 at_17 (after_4 fee.0 (made.0.1.1.0, copay.0) copay.1) refl in
    let at_25 : products.0 ≡ drop 25 bytes = further 4 21 25 bytes copay.0 products.0 at_21 (after_4 copay.0 (made.0.1.1.1.0, products.0) products.1) refl in
    record {
      long = long_2 bytes (made.0.0.0, name.0) name.1;
      name_is = sym (ap (λ x. x.name) made.2) ∙ first_2 bytes (made.0.0.0, name.0) name.1;
      products_are = sym (ap (λ x. x.products) made.2) ∙ counted 21 bytes copay.0 (made.0.1.1.1.0, products.0) at_21 products.1;
      rows_are = sym (ap (λ x. x.rows) made.2) ∙ counted 25 bytes products.0 (made.0.1.1.1.1, h.1) at_25 products.2;
      rest = further 4 25 29 bytes products.0 h.1 at_25 (after_4 products.0 (made.0.1.1.1.1, h.1) products.2) refl;
    }

-- ---- a rule of retries

switches_clean : (n : ℕ) (bytes : List ℕ) (taken : List ℕ × List ℕ) (behind : Telling) → times u16 n bytes ≡ Some taken → ((p : ℕ) → Clean (behind p taken.1)) → (p : ℕ) → Clean (each_told switch_told n behind p bytes)
unfolding each_told
switches_clean zero bytes taken behind e clean p = subst (λ (t : List ℕ × List ℕ). Clean (behind p t.1)) (sym (some_is ([], bytes) taken e)) (clean p)
switches_clean (suc n) bytes taken behind e clean p =
    let one = there (u16_at bytes) (λ x. times u16 n x.1 >>= λ xs. Some (x.0 ∷ xs.0, xs.1)) taken e in
    let more = there (times u16 n one.value.1) (λ xs. Some (one.value.0 ∷ xs.0, xs.1)) taken one.goes_on in
    let left : taken.1 ≡ more.value.1 = ap (λ (t : List ℕ × List ℕ). t.1) (sym (some_is _ taken more.goes_on)) in
    piece_clean (part.Mark mark.Switch) 2 (each_told switch_told n behind) p bytes refl
    (λ q. subst (λ (bs : List ℕ). Clean (each_told switch_told n behind q bs)) (after_2 bytes one.value one.is)
    (switches_clean n one.value.1 more.value behind more.is (λ r. subst (λ (bs : List ℕ). Clean (behind r bs)) left (clean r)) q))

-- how many switches there are
switches_counted : (bytes rest : List ℕ) (taken : ℕ × List ℕ) → rest ≡ drop 8 bytes → u16_at rest ≡ Some taken → taken.0 ≡ switch_count bytes
switches_counted bytes rest taken is e = sym (ap (λ (bs : List ℕ). count_in (u16_at bs)) (sym is) ∙ ap count_in e)

pub rule_clean : (behind : Telling) (place : ℕ) (bytes : List ℕ) (rule : RetryRule × List ℕ) → rule_codec.at bytes ≡ Some rule → ((p : ℕ) → Clean (behind p rule.1)) → Clean (rule_told behind place bytes)
unfolding rule_codec rule_told rule_rows
rule_clean behind place bytes rule e clean =
    let made = made_parts (pair u32 (pair u32 (listed u16 u16))) _ bytes rule.0 rule.1 e in
    let again = both_parts u32 (pair u32 (listed u16 u16)) bytes made.0 rule.1 made.1 in
    let tries = both_parts u32 (listed u16 u16) again.0 made.0.1 rule.1 again.2 in
    let count = there (u16_at tries.0) (λ k. times u16 k.0 k.1) (made.0.1.1, rule.1) tries.2 in
    let at_4 : again.0 ≡ drop 4 bytes = after_4 bytes (made.0.0, again.0) again.1 in
    let at_8 : tries.0 ≡ drop 8 bytes = further 4 4 8 bytes again.0 tries.0 at_4 (after_4 again.0 (made.0.1.0, tries.0) tries.1) refl in
    let at_10 : count.value.1 ≡ drop 10 bytes = further 2 8 10 bytes tries.0 count.value.1 at_8 (after_2 tries.0 count.value count.is) refl in
    let number : count.value.0 ≡ switch_count bytes = switches_counted bytes tries.0 count.value at_8 count.is in
    let rest : (p : ℕ) → Clean (each_told switch_told (switch_count bytes) behind p (drop 10 bytes)) =
    λ p. subst (λ n. Clean (each_told switch_told n behind p (drop 10 bytes))) number
    (subst (λ (bs : List ℕ). Clean (each_told switch_told count.value.0 behind p bs)) at_10
    (switches_clean count.value.0 count.value.1 (made.0.1.1, rule.1) behind count.goes_on clean p)) in
    both (head_parts rule_rows place bytes) _ (head_stands rule_rows place bytes (refl, (refl, (refl, tt)))) (rest (place + length (take 10 bytes)))
