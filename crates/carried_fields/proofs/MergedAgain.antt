-- A group that carries, merged into the book's own again, is that group.
use Rattle.std.proofs.Common.{◌≡◌, ℕ, Bool, true, false, cond, eqb, not, List, [], ◌∷◌, ◌++◌, map, filter, length, codes, refl, sym, ap, ◌∙◌, eq-eqb}
use Rattle.std.specs.List.{list_all, flat_map}
use Rattle.std.proofs.lemmas.List.{append-nil}
use Rattle.std.proofs.lemmas.List.Elements.{filter-append}
use Rattle.std.proofs.lemmas.Slice.Eq.{bytes_eq-Decides}
use Rattle.d0_segments.specs.Parts.{FieldParts, SegmentParts}
use Rattle.claim_profile.specs.declared.reject.Code.{Code}
use Rattle.claim_profile.specs.declared.ruling.Ruling.{Ruling}
use Rattle.claim_profile.specs.declared.ruling.Ruling.TheVariants.{Paid, Duplicate, Reversed, Rejected}
use Rattle.claim_profile.specs.Authorization.{Authorization}
use Rattle.claim_profile.specs.Money.{Money}
use Rattle.claim_profile.specs.Fields.{fields_of}
use Rattle.claim_profile.specs.Reject.{code_text}
use Rattle.claim_profile.specs.Answer.{segment, status_segment, claim_segment, pricing_segment, code_field, reject_segment, ruling_segments, ruling_groups}
use Rattle.claim_profile.specs.Unnamed.{unnamed}
use Rattle.claim_profile.proofs.Counting.{fields_of-none}
use Rattle.carried_fields.specs.Agreeing.{same_money, same_texts, agrees, agreed}
use Rattle.carried_fields.specs.Occurrences.{is_occurrence, behind_codes, behind_codes_in, beside}
use Rattle.carried_fields.specs.Merging.{further_fields, merged_segment, merged_segments, has_segment, further_segments, merged, carried_group, carried_groups}
use Rattle.carried_fields.proofs.CodeOccurrences.{beside_nothing, beside_again, beside_own, further_begin}
use Rattle.carried_fields.proofs.Further.{identified, merged_here}

-- what passed a test passes it again
filter_next : {A : Type 0} (test : A → Bool) (x : A) (xs : List A) (b : Bool) → test x ≡ b → filter test xs ≡ xs → filter test (cond b (x ∷ xs) xs) ≡ cond b (x ∷ xs) xs
filter_next test x xs true is later = ap (λ t. cond t (x ∷ filter test xs) (filter test xs)) is ∙ ap (λ ys. x ∷ ys) later
filter_next test x xs false is later = later

filter_again : {A : Type 0} (test : A → Bool) (xs : List A) → filter test (filter test xs) ≡ filter test xs
filter_again test [] = refl
filter_again test (x ∷ xs) = filter_next test x (filter test xs) (test x) refl (filter_again test xs)

-- the further fields of what carries are those of the advice
further_added : (id : List ℕ) (a fields : List FieldParts) → further_fields id a ≡ [] → further_fields id ((a ++ further_fields id fields) ++ []) ≡ further_fields id fields
further_added id a fields none =
    ap (further_fields id) (append-nil (a ++ further_fields id fields))
    ∙ filter-append (λ f. not (Rattle.carried_fields.specs.Merging.is_own id f.id)) a (further_fields id fields)
    ∙ ap (λ fs. fs ++ further_fields id (further_fields id fields)) none
    ∙ filter_again (λ (f : FieldParts). not (Rattle.carried_fields.specs.Merging.is_own id f.id)) fields

-- a segment of a book that merges what carries into itself is that which merged the advice
segment_again : (id : List ℕ) (a : List FieldParts) (own said : List SegmentParts) → has_segment own id ≡ true → identified id (merged_segments said own) ≡ merged_segment said (segment id a) ∷ []
    → beside (behind_codes (merged_segment said (segment id a)).fields) a ≡ beside (behind_codes_in id said) a → further_fields id (beside (behind_codes_in id said) a) ≡ []
    → merged_segment (merged own said) (segment id a) ≡ merged_segment said (segment id a)
unfolding fields_of
segment_again id a own said has one again none =
    let carries = merged_segment said (segment id a) in
    let here : identified id (merged own said) ≡ carries ∷ [] = merged_here id own said has ∙ one in
    let codes = ap (λ ss. beside (flat_map (λ (s : SegmentParts). behind_codes s.fields) ss) a) here ∙ ap (λ told. beside told a) (append-nil (behind_codes carries.fields)) ∙ again in
    let further = ap (λ ss. further_fields id (flat_map (λ (s : SegmentParts). s.fields) ss)) here ∙ further_added id (beside (behind_codes_in id said) a) (fields_of id said) none in
    λ i. segment id (codes i ++ further i)

-- a response status segment, in which no code says where it occurs
status_again : (a : List FieldParts) (own said : List SegmentParts) → has_segment own (codes "21") ≡ true
    → identified (codes "21") (merged_segments said own) ≡ merged_segment said (segment (codes "21") a) ∷ [] → further_fields (codes "21") a ≡ [] → filter is_occurrence a ≡ []
    → merged_segment (merged own said) (segment (codes "21") a) ≡ merged_segment said (segment (codes "21") a)
status_again a own said has one none silent =
    let told = behind_codes_in (codes "21") said in
    segment_again (codes "21") a own said has one
    (beside_again told a (further_fields (codes "21") (fields_of (codes "21") said)) silent (further_begin (fields_of (codes "21") said)))
    (beside_own told a none)

-- a segment without a code
codeless_again : (id : List ℕ) (a : List FieldParts) (own said : List SegmentParts) → has_segment own id ≡ true → identified id (merged_segments said own) ≡ merged_segment said (segment id a) ∷ []
    → further_fields id a ≡ [] → ((told : List (List FieldParts)) → beside told a ≡ a) → merged_segment (merged own said) (segment id a) ≡ merged_segment said (segment id a)
codeless_again id a own said has one none codeless =
    let told = behind_codes_in id said in
    segment_again id a own said has one
    (codeless (behind_codes (merged_segment said (segment id a)).fields) ∙ sym (codeless told))
    (ap (further_fields id) (codeless told) ∙ none)

abbrev three : (a b c : List FieldParts) → List SegmentParts
three a b c = segment (codes "21") a ∷ segment (codes "22") b ∷ segment (codes "23") c ∷ []

abbrev two : (a b : List FieldParts) → List SegmentParts
two a b = segment (codes "21") a ∷ segment (codes "22") b ∷ []

abbrev one : (a : List FieldParts) → List SegmentParts
one a = segment (codes "21") a ∷ []

-- the segments of the book alone are no further ones
three_others : (a b c : List FieldParts) (said : List SegmentParts) → further_segments (three a b c) (merged (three a b c) said) ≡ further_segments (three a b c) said
three_others a b c said = filter_again (λ (s : SegmentParts). not (has_segment (three a b c) s.id)) said

two_others : (a b : List FieldParts) (said : List SegmentParts) → further_segments (two a b) (merged (two a b) said) ≡ further_segments (two a b) said
two_others a b said = filter_again (λ (s : SegmentParts). not (has_segment (two a b) s.id)) said

one_others : (a : List FieldParts) (said : List SegmentParts) → further_segments (one a) (merged (one a) said) ≡ further_segments (one a) said
one_others a said = filter_again (λ (s : SegmentParts). not (has_segment (one a) s.id)) said

-- fields without a code, none of which is a further one
record IsCodeless (id : List ℕ) (a : List FieldParts) : Type 0 where
  pub own : further_fields id a ≡ []
  pub codeless : (told : List (List FieldParts)) → beside told a ≡ a

-- fields of a response status segment that a book wrote
record IsStatus (a : List FieldParts) : Type 0 where
  pub own : further_fields (codes "21") a ≡ []
  pub silent : filter is_occurrence a ≡ []

three_again : (a b c : List FieldParts) (said : List SegmentParts) → IsStatus a → IsCodeless (codes "22") b → IsCodeless (codes "23") c → merged (three a b c) (merged (three a b c) said) ≡ merged (three a b c) said
three_again a b c said status claim pricing =
    let own = three a b c in
    let first = status_again a own said refl refl status.own status.silent in
    let second = codeless_again (codes "22") b own said refl refl claim.own claim.codeless in
    let third = codeless_again (codes "23") c own said refl refl pricing.own pricing.codeless in
    let others = three_others a b c said in
    λ i. first i ∷ second i ∷ third i ∷ others i

two_again : (a b : List FieldParts) (said : List SegmentParts) → IsStatus a → IsCodeless (codes "22") b → merged (two a b) (merged (two a b) said) ≡ merged (two a b) said
two_again a b said status claim =
    let own = two a b in
    let first = status_again a own said refl refl status.own status.silent in
    let second = codeless_again (codes "22") b own said refl refl claim.own claim.codeless in
    let others = two_others a b said in
    λ i. first i ∷ second i ∷ others i

one_again : (a : List FieldParts) (said : List SegmentParts) → IsStatus a → merged (one a) (merged (one a) said) ≡ merged (one a) said
one_again a said status =
    let first = status_again a (one a) said refl refl status.own status.silent in
    let others = one_others a said in
    λ i. first i ∷ others i

-- ---- the groups of rulings

codes_own : (rejects : List Code) → further_fields (codes "21") (map code_field rejects) ≡ []
codes_own [] = refl
codes_own (code ∷ rejects) = codes_own rejects

codes_silent : (rejects : List Code) → filter is_occurrence (map code_field rejects) ≡ []
codes_silent [] = refl
codes_silent (code ∷ rejects) = codes_silent rejects

status_fields : (status : List ℕ) (auth : Authorization) → IsStatus (status_segment status auth).fields
unfolding status_segment
status_fields status auth = record { own = refl; silent = refl }

claim_fields : (prescription : ℕ) → IsCodeless (codes "22") (claim_segment prescription).fields
unfolding claim_segment
claim_fields prescription = record { own = refl; codeless = λ told. refl }

pricing_fields : (m : Money) → IsCodeless (codes "23") (pricing_segment m).fields
unfolding pricing_segment
pricing_fields m = record { own = refl; codeless = λ told. refl }

reject_fields : (rejects : List Code) → IsStatus (reject_segment rejects).fields
unfolding reject_segment
reject_fields rejects = record { own = codes_own rejects; silent = codes_silent rejects }

merged_again : (r : Ruling) (said : List SegmentParts) → merged (ruling_segments r) (merged (ruling_segments r) said) ≡ merged (ruling_segments r) said
unfolding status_segment claim_segment pricing_segment reject_segment
merged_again (Paid auth prescription m) said =
    three_again (status_segment (codes "P") auth).fields (claim_segment prescription).fields (pricing_segment m).fields said (status_fields (codes "P") auth) (claim_fields prescription) (pricing_fields m)
merged_again (Duplicate auth prescription m) said =
    three_again (status_segment (codes "D") auth).fields (claim_segment prescription).fields (pricing_segment m).fields said (status_fields (codes "D") auth) (claim_fields prescription) (pricing_fields m)
merged_again (Reversed auth prescription) said = two_again (status_segment (codes "A") auth).fields (claim_segment prescription).fields said (status_fields (codes "A") auth) (claim_fields prescription)
merged_again (Rejected rejects) said = one_again (reject_segment rejects).fields said (reject_fields rejects)

-- nothing is added where nothing is said
nothing_added : (s : SegmentParts) → merged_segment [] s ≡ s
nothing_added s =
    let further = ap (λ fs. s.fields ++ further_fields s.id fs) (fields_of-none s.id) ∙ append-nil s.fields in
    λ i. record { id = s.id; fields = (ap (λ fs. fs ++ further_fields s.id (fields_of s.id [])) (beside_nothing s.fields) ∙ further) i }

none_added : (own : List SegmentParts) → merged_segments [] own ≡ own
none_added [] = refl
none_added (s ∷ own) = λ i. nothing_added s i ∷ none_added own i

merged_nothing : (own : List SegmentParts) → merged own [] ≡ own
merged_nothing own = append-nil (merged_segments [] own) ∙ none_added own

group_again : (r : Ruling) (b : Bool) (said : List SegmentParts) → merged (ruling_segments r) (carried_group b (ruling_segments r) said) ≡ carried_group b (ruling_segments r) said
group_again r true said = merged_again r said
group_again r false said =
    let own = ruling_segments r in
    ap (merged own) (sym (merged_nothing own)) ∙ merged_again r [] ∙ merged_nothing own

-- ---- an answer agrees with its own rulings

same_self : (n : ℕ) → eqb n n ≡ true
same_self n = eq-eqb n n refl

money_self : (m : Money) → same_money m m ≡ true
money_self m = rw (same_self m.cost, same_self m.fee, same_self m.copay, same_self m.total) refl

texts_self : (texts : List (List ℕ)) → same_texts texts texts ≡ true
texts_self [] = refl
texts_self (text ∷ texts) = rw ((bytes_eq-Decides text text).1 refl, texts_self texts) refl

agrees_self : (r : Ruling) → agrees r (unnamed r) ≡ true
agrees_self (Paid auth prescription m) = rw (same_self prescription, money_self m) refl
agrees_self (Duplicate auth prescription m) = rw (same_self prescription, money_self m) refl
agrees_self (Reversed auth prescription) = same_self prescription
agrees_self (Rejected rejects) = texts_self (map code_text rejects)

pub all_agreed : (rs : List Ruling) → list_all (λ (b : Bool). b) (agreed rs (map unnamed rs)) ≡ true
all_agreed [] = refl
all_agreed (r ∷ rs) = rw (agrees_self r, all_agreed rs) refl

-- ---- all groups

next_again : (r : Ruling) (rs : List Ruling) (said : List SegmentParts) (later : List (List SegmentParts)) → merged (ruling_segments r) said ≡ said → carried_groups (agreed rs (map unnamed rs)) (ruling_groups rs) later ≡ later
    → carried_groups (agreed (r ∷ rs) (map unnamed (r ∷ rs))) (ruling_groups (r ∷ rs)) (said ∷ later) ≡ said ∷ later
next_again r rs said later first others =
    λ i. (ap (λ b. carried_group b (ruling_segments r) said) (agrees_self r) ∙ first) i ∷ others i

pub groups_again : (rs : List Ruling) (bs : List Bool) (said : List (List SegmentParts))
    → carried_groups (agreed rs (map unnamed rs)) (ruling_groups rs) (carried_groups bs (ruling_groups rs) said) ≡ carried_groups bs (ruling_groups rs) said
groups_again [] [] said = refl
groups_again [] (b ∷ bs) said = refl
groups_again (r ∷ rs) [] said = next_again r rs (ruling_segments r) (ruling_groups rs) (group_again r false []) (groups_again rs [] [])
groups_again (r ∷ rs) (b ∷ bs) [] = next_again r rs (ruling_segments r) (ruling_groups rs) (group_again r false []) (groups_again rs [] [])
groups_again (r ∷ rs) (b ∷ bs) (s ∷ said) =
    next_again r rs (carried_group b (ruling_segments r) s) (carried_groups bs (ruling_groups rs) said) (group_again r b s) (groups_again rs bs said)

pub length-carried : (bs : List Bool) (own said : List (List SegmentParts)) → length (carried_groups bs own said) ≡ length own
length-carried [] own said = refl
length-carried (b ∷ bs) [] said = refl
length-carried (b ∷ bs) (g ∷ own) [] = refl
length-carried (b ∷ bs) (g ∷ own) (s ∷ said) = omega (Rattle.std.proofs.Common.arith, length-carried bs own said)
