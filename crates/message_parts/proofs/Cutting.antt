-- One part more.
use Rattle.std.proofs.Common.{◌≡◌, ◌≤◌, ℕ, ◌+◌, List, [], ◌∷◌, ◌++◌, length, take, drop, map, ap, subst, sym, ◌∙◌, arith, length-take-le}
use Rattle.std.proofs.Math.Seq.{take-add}
use Rattle.std.proofs.lemmas.List.{map-append, length-append, append-nil}
use Rattle.std.proofs.lemmas.Grind.{flat_map-append}
use Rattle.message_parts.specs.declared.part.Part.{Part}
use Rattle.message_parts.specs.declared.part.PartKind.{PartKind}
use Rattle.message_parts.specs.Parts.{PartSeen, part_seen, told_bytes, AreBehind, IsCut}

-- a part after parts that are all placed
pub behind_more : (place : ℕ) (parts : List PartSeen) (p : PartSeen) → AreBehind place parts → p.place ≡ place + length (told_bytes parts) → AreBehind place (parts ++ p ∷ [])
behind_more place [] p behind here = (omega (arith, here), tt)
behind_more place (q ∷ qs) p behind here =
    (behind.0, behind_more (place + length q.bytes) qs p behind.1 (omega (arith, here, length-append q.bytes (told_bytes qs))))

-- the bytes of one part more
pub told_more : (parts : List PartSeen) (p : PartSeen) → told_bytes (parts ++ p ∷ []) ≡ told_bytes parts ++ p.bytes
told_more parts p = flat_map-append (λ (q : PartSeen). q.bytes) parts (p ∷ []) ∙ ap (λ bs. told_bytes parts ++ bs) (append-nil p.bytes)

-- the next bytes as one part more
pub cut_more : (whole : List ℕ) (place size : ℕ) (parts : List PartSeen) (kind : PartKind)
    → IsCut (record { whole = whole; place = place; parts = parts }) → place + size ≤ length whole
    → IsCut (record { whole = whole; place = place + size; parts = parts ++ record { place = place; bytes = take size (drop place whole); kind = kind } ∷ [] })
cut_more whole place size parts kind before fits =
    let p : PartSeen = record { place = place; bytes = take size (drop place whole); kind = kind } in
    let told : length (told_bytes parts) ≡ place = ap (λ bs. length bs) before.parts.all ∙ length-take-le place whole before.within in
    record {
      within = fits;
      parts = record {
        all = told_more parts p ∙ ap (λ bs. bs ++ p.bytes) before.parts.all ∙ sym (take-add place size whole);
        places = behind_more 0 parts p before.parts.places (omega (arith, told));
      };
    }

-- the same for the parts of the code
pub pushed : (whole : List ℕ) (place size : ℕ) (old new : List Part) (p : Part) (kind : PartKind)
    → IsCut (record { whole = whole; place = place; parts = map part_seen old }) → place + size ≤ length whole → new ≡ old ++ p ∷ []
    → p.place ≡ place → p.bytes.now ≡ take size (drop place whole) → p.kind ≡ kind
    → IsCut (record { whole = whole; place = place + size; parts = map part_seen new })
pushed whole place size old new p kind before fits e here bytes is =
    let seen : part_seen p ≡ record { place = place; bytes = take size (drop place whole); kind = kind } = λ i. record { place = here i; bytes = bytes i; kind = is i } in
    let parts : map part_seen new ≡ map part_seen old ++ record { place = place; bytes = take size (drop place whole); kind = kind } ∷ [] =
    ap (map part_seen) e ∙ map-append part_seen old (p ∷ []) ∙ ap (λ (q : PartSeen). map part_seen old ++ q ∷ []) seen in
    subst (λ (ps : List PartSeen). IsCut (record { whole = whole; place = place + size; parts = ps })) (sym parts) (cut_more whole place size (map part_seen old) kind before fits)

-- and what they are then
pub pushed_parts : (place : ℕ) (old new : List Part) (p : Part) (kind : PartKind) (bytes : List ℕ) → new ≡ old ++ p ∷ [] → p.place ≡ place → p.bytes.now ≡ bytes → p.kind ≡ kind
    → map part_seen new ≡ map part_seen old ++ record { place = place; bytes = bytes; kind = kind } ∷ []
pushed_parts place old new p kind bytes e here is k =
    let seen : part_seen p ≡ record { place = place; bytes = bytes; kind = kind } = λ i. record { place = here i; bytes = is i; kind = k i } in
    ap (map part_seen) e ∙ map-append part_seen old (p ∷ []) ∙ ap (λ (q : PartSeen). map part_seen old ++ q ∷ []) seen
