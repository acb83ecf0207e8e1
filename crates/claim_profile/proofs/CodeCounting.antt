-- Counting reject codes goes on where it stopped, and comes to what all values say.
use Rattle.std.proofs.Common.{◌≡◌, ℕ, true, false, List, [], ◌∷◌, ◌++◌, Option, codes, refl, ap, sym, ◌∙◌}
use Rattle.std.specs.Str.{bytes_eq}
use Rattle.d0_segments.specs.Parts.{FieldParts, SegmentParts}
use Rattle.claim_profile.specs.declared.reject.Code.{Code}
use Rattle.claim_profile.specs.Fields.{untrimmed, values, fields_of}
use Rattle.claim_profile.specs.Ruling.{code_of}
use Rattle.claim_profile.specs.RulingSeen.{code_more, codes_counted}
use Rattle.claim_profile.proofs.Counting.{values-none, values-append, fields_of-none, fields_of-append, fields_of-here, fields_of-elsewhere}

pub codes_counted-none : (s : Option (List Code)) → codes_counted s [] ≡ s
unfolding codes_counted
codes_counted-none s = refl

pub codes_counted-append : (s : Option (List Code)) (vs ws : List (List ℕ)) → codes_counted s (vs ++ ws) ≡ codes_counted (codes_counted s vs) ws
unfolding codes_counted
codes_counted-append s [] ws = refl
codes_counted-append s (v ∷ vs) ws = codes_counted-append (code_more s (code_of v)) vs ws

-- counting the codes of no field, and of fields after others
pub codes_nothing : (s : Option (List Code)) → codes_counted s (values untrimmed (codes "FB") []) ≡ s
codes_nothing s = ap (codes_counted s) (values-none untrimmed (codes "FB")) ∙ codes_counted-none s

pub codes_further : (s : Option (List Code)) (fs gs : List FieldParts)
    → codes_counted s (values untrimmed (codes "FB") (fs ++ gs)) ≡ codes_counted (codes_counted s (values untrimmed (codes "FB") fs)) (values untrimmed (codes "FB") gs)
codes_further s fs gs = ap (codes_counted s) (values-append untrimmed (codes "FB") fs gs) ∙ codes_counted-append s (values untrimmed (codes "FB") fs) (values untrimmed (codes "FB") gs)

-- the codes of no segment, and of segments after others
pub codes_in_none : (s : Option (List Code)) → codes_counted s (values untrimmed (codes "FB") (fields_of (codes "21") [])) ≡ s
codes_in_none s = ap (λ fs. codes_counted s (values untrimmed (codes "FB") fs)) (fields_of-none (codes "21")) ∙ codes_nothing s

pub codes_in_further : (s : Option (List Code)) (ss us : List SegmentParts)
    → codes_counted s (values untrimmed (codes "FB") (fields_of (codes "21") (ss ++ us)))
    ≡ codes_counted (codes_counted s (values untrimmed (codes "FB") (fields_of (codes "21") ss))) (values untrimmed (codes "FB") (fields_of (codes "21") us))
codes_in_further s ss us =
    ap (λ fs. codes_counted s (values untrimmed (codes "FB") fs)) (fields_of-append (codes "21") ss us) ∙ codes_further s (fields_of (codes "21") ss) (fields_of (codes "21") us)

-- the next field or segment counted, and then those after it
pub codes_next : (s u : Option (List Code)) (f : FieldParts) (fs : List FieldParts) → u ≡ codes_counted s (values untrimmed (codes "FB") (f ∷ []))
    → codes_counted u (values untrimmed (codes "FB") fs) ≡ codes_counted s (values untrimmed (codes "FB") (f ∷ fs))
codes_next s u f fs e = ap (λ v. codes_counted v (values untrimmed (codes "FB") fs)) e ∙ sym (codes_further s (f ∷ []) fs)

pub codes_in_next : (s u : Option (List Code)) (segment : SegmentParts) (ss : List SegmentParts) → u ≡ codes_counted s (values untrimmed (codes "FB") (fields_of (codes "21") (segment ∷ [])))
    → codes_counted u (values untrimmed (codes "FB") (fields_of (codes "21") ss)) ≡ codes_counted s (values untrimmed (codes "FB") (fields_of (codes "21") (segment ∷ ss)))
codes_in_next s u segment ss e = ap (λ v. codes_counted v (values untrimmed (codes "FB") (fields_of (codes "21") ss))) e ∙ sym (codes_in_further s (segment ∷ []) ss)

-- the codes of one segment
pub codes_here : (s : Option (List Code)) (segment : SegmentParts) → bytes_eq segment.id (codes "21") ≡ true
    → codes_counted s (values untrimmed (codes "FB") (fields_of (codes "21") (segment ∷ []))) ≡ codes_counted s (values untrimmed (codes "FB") segment.fields)
codes_here s segment e = ap (λ fs. codes_counted s (values untrimmed (codes "FB") fs)) (fields_of-here (codes "21") segment e)

pub codes_elsewhere : (s : Option (List Code)) (segment : SegmentParts) → bytes_eq segment.id (codes "21") ≡ false
    → codes_counted s (values untrimmed (codes "FB") (fields_of (codes "21") (segment ∷ []))) ≡ s
codes_elsewhere s segment e = ap (λ fs. codes_counted s (values untrimmed (codes "FB") fs)) (fields_of-elsewhere (codes "21") segment e) ∙ codes_nothing s
