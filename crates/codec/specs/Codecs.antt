-- Formats: how values of a type are spelled, and what stands at the front of bytes, said once.
use Rattle.std.specs.Prelude.{◌≡◌, ⊤, ℕ, zero, suc, ◌<◌, ◌≤◌, ◌^◌, ◌==◌, cond, nat_le, List, [], ◌∷◌, ◌++◌, length, Option, Some, None}
use Rattle.std.specs.List.{AllByRecursion, flat_map}
use Rattle.std.specs.Int.{w16, w32, w64, to_be_bytes}
use Rattle.codec.specs.Options.{◌>>=◌}
use Rattle.codec.specs.Fields.{bytes_at, u8_at, u16_at, u32_at, u64_at}

-- the bytes of a value; what stands at the front of bytes, and what follows it; and the values whose numbers fit their fields
pub record Codec (A : Type 0) : Type 1 where
  pub text : A → List ℕ
  pub at : List ℕ → Option (A × List ℕ)
  pub Fits : A → Type 0

-- ---- numbers of one, two, four and eight bytes

abbrev pub u8 : Codec ℕ
u8 = record { text = λ n. n ∷ []; at = u8_at; Fits = λ n. n < 2 ^ 8 }

abbrev pub u16 : Codec ℕ
u16 = record { text = to_be_bytes w16; at = u16_at; Fits = λ n. n < 2 ^ 16 }

abbrev pub u32 : Codec ℕ
u32 = record { text = to_be_bytes w32; at = u32_at; Fits = λ n. n < 2 ^ 32 }

abbrev pub u64 : Codec ℕ
u64 = record { text = to_be_bytes w64; at = u64_at; Fits = λ n. n < 2 ^ 64 }

-- a number of at most this
abbrev pub at_most : ℕ → Codec ℕ → Codec ℕ
at_most most c = record {
  text = c.text;
  at = λ bytes. c.at bytes >>= λ n. cond (nat_le n.0 most) (Some n) None;
  Fits = λ n. (n ≤ most) × c.Fits n;
}

-- a number of at least this
abbrev pub at_least : ℕ → Codec ℕ → Codec ℕ
at_least least c = record {
  text = c.text;
  at = λ bytes. c.at bytes >>= λ n. cond (nat_le least n.0) (Some n) None;
  Fits = λ n. (least ≤ n) × c.Fits n;
}

-- ---- bytes: this many, those after their length, and those after their length of eight bytes

abbrev pub exactly : ℕ → Codec (List ℕ)
exactly count = record { text = λ bytes. bytes; at = bytes_at count; Fits = λ bytes. length bytes ≡ count }

abbrev pub sized : Codec ℕ → Codec (List ℕ)
sized c = record {
  text = λ bytes. c.text (length bytes) ++ bytes;
  at = λ bytes. c.at bytes >>= λ n. bytes_at n.0 n.1;
  Fits = λ bytes. c.Fits (length bytes);
}

abbrev pub text : Codec (List ℕ)
text = sized u64

-- ---- one after the other; what has such parts; and the same in another form, where of a value of the first there may be none in the second

abbrev pub both : {A B : Type 0} → Codec A → Codec B → Codec (A × B)
both a b = record {
  text = λ p. a.text p.0 ++ b.text p.1;
  at = λ bytes. a.at bytes >>= λ x. b.at x.1 >>= λ y. Some ((x.0, y.0), y.1);
  Fits = λ p. a.Fits p.0 × b.Fits p.1;
}

abbrev pub of_parts : {A B : Type 0} → Codec A → (A → B) → (B → A) → Codec B
of_parts c to from = record {
  text = λ y. c.text (from y);
  at = λ bytes. c.at bytes >>= λ x. Some (to x.0, x.1);
  Fits = λ y. c.Fits (from y);
}

abbrev pub form : {A B : Type 0} → Codec A → (A → Option B) → (B → A) → Codec B
form c to from = record {
  text = λ y. c.text (from y);
  at = λ bytes. c.at bytes >>= λ x. to x.0 >>= λ y. Some (y, x.1);
  Fits = λ y. c.Fits (from y);
}

-- ---- one of several kinds, each after a byte of its own

-- the one value of a kind, spelled by nothing
abbrev pub empty : Codec Unit
empty = record { text = λ u. []; at = λ bytes. Some (tt, bytes); Fits = λ u. ⊤ }

-- how a value of some kind is spelled: its kind, and what it has after it
pub record Spelled : Type 1 where
  pub kind : ℕ
  pub text : List ℕ
  pub Fits : Type 0

-- of this kind, with these parts in this format
abbrev pub spelled : {P : Type 0} → ℕ → Codec P → P → Spelled
spelled number c parts = record { kind = number; text = c.text parts; Fits = c.Fits parts }

-- what is made of parts in this format, which stand at the front; and what follows them
abbrev pub made_at : {A P : Type 0} → Codec P → (P → A) → List ℕ → Option (A × List ℕ)
made_at c made bytes = c.at bytes >>= λ p. Some (made p.0, p.1)

-- how each value is spelled, and what stands after each kind
abbrev pub tagged : {A : Type 0} → (A → Spelled) → (ℕ → List ℕ → Option (A × List ℕ)) → Codec A
tagged of by = record {
  text = λ x. (of x).kind ∷ (of x).text;
  at = λ bytes. u8_at bytes >>= λ n. by n.0 n.1;
  Fits = λ x. (of x).Fits;
}

-- ---- this many, and a list after its length

abbrev pub times : {A : Type 0} → Codec A → ℕ → List ℕ → Option (List A × List ℕ)
times c zero bytes = Some ([], bytes)
times c (suc n) bytes = c.at bytes >>= λ x. times c n x.1 >>= λ xs. Some (x.0 ∷ xs.0, xs.1)

abbrev pub counted : {A : Type 0} → Codec ℕ → Codec A → Codec (List A)
counted n c = record {
  text = λ xs. n.text (length xs) ++ flat_map c.text xs;
  at = λ bytes. n.at bytes >>= λ k. times c k.0 k.1;
  Fits = λ xs. n.Fits (length xs) × AllByRecursion c.Fits xs;
}

-- ---- all of the bytes

abbrev pub all_of : {A : Type 0} → Option (A × List ℕ) → Option A
all_of None = None
all_of (Some (x, rest)) = cond (length rest == 0) (Some x) None

-- the value that all of these bytes are; None where they are none, or more than one
abbrev pub whole : {A : Type 0} → Codec A → List ℕ → Option A
whole c bytes = all_of (c.at bytes)
