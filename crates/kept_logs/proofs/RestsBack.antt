-- What a log begins with that goes on after closed ones, written and read again.
use Rattle.std.proofs.Common.{◌≡◌, ℕ, suc, ◌<◌, ◌^◌, ◌==◌, Bool, true, false, List, [], ◌∷◌, ◌++◌, length, Some, None, refl, ap, ◌∙◌, arith}
use Rattle.std.proofs.lemmas.Bool.Decides.{nat_tests}
use Rattle.std.specs.Prelude.{cond, bytes_eq}
use Rattle.std.specs.List.{AllByRecursion}
use Rattle.claim_model.specs.Node.{Node}
use Rattle.claim_model.specs.Nodes.{AnyNode}
use Rattle.claim_model.proofs.Names.{same_self}
use Rattle.world_setup.specs.Seen.{settings_seen}
use Rattle.world_setup.specs.declared.settings.WorldSettings.{WorldSettings}
use Rattle.node_state.specs.Resting.{resumed}
use Rattle.codec.proofs.FieldsBack.{u8_at-put}
use Rattle.kept_logs.specs.Frames.{check_of}
use Rattle.kept_logs.specs.References.{Reference}
use Rattle.kept_logs.specs.Fits.{FitsNode}
use Rattle.kept_logs.specs.Rests.{Rest, FitsReference, FitsRest, rest_version, rest_body, fields_codec, rest_head, rest_text, body_in, rest_behind, versioned, rest_in, begun_from, begins, calls_before, calls_in, references_before, references_of}
use Rattle.kept_logs.proofs.Formats.{node_fits, references_is, fields_is}
use Rattle.kept_logs.proofs.FramesBack.{check_length}
use Rattle.kept_logs.proofs.Meeting.{same_byte}

-- ---- what is vouched for

not_none : (n : ℕ) → (suc n == 0) ≡ false
not_none n = grind (arith, nat_tests)

body_back : (references : List Reference) (kept : List ℕ) → length references < 2 ^ 64 → AllByRecursion FitsReference references → body_in (rest_version references) (rest_body references kept) ≡ Some (references, kept)
unfolding rest_body
body_back [] kept few fits = refl
body_back (r ∷ more) kept few fits = rw (not_none (length more)) (references_is.back (r ∷ more) kept (few, fits))

-- both versions are read
versioned_back : (references : List Reference) (named : List ℕ) → versioned (Some (rest_version references, named)) ≡ rest_behind (rest_version references) named
versioned_back [] named = refl
versioned_back (r ∷ more) named = rw (not_none (length more)) refl

same_bytes : (xs : List ℕ) → bytes_eq xs xs ≡ true
same_bytes [] = refl
same_bytes (x ∷ xs) = rw (same_byte x) (same_bytes xs)

fields_fit : (node : Node) (calls : ℕ) (closed sum : List ℕ) → FitsNode node → calls < 2 ^ 64 → length closed ≡ 32 → length sum ≡ 8 → fields_codec.Fits (node, (calls, (closed, sum)))
unfolding fields_codec
fields_fit node calls closed sum small few size sums = (node_fits node small, (few, (size, sums)))

behind_back : (node : Node) (calls : ℕ) (closed : List ℕ) (version : ℕ) (references : List Reference) (kept body : List ℕ) → FitsNode node → calls < 2 ^ 64 → length closed ≡ 32 → body_in version body ≡ Some (references, kept)
    → rest_behind version (fields_codec.text (node, (calls, (closed, check_of 2 calls body))) ++ body) ≡ Some (record { node = node; calls = calls; closed = closed; references = references; kept = kept })
unfolding rest_behind
behind_back node calls closed version references kept body small few size inner =
    let sum : List ℕ = check_of 2 calls body in
    rw (fields_is.back (node, (calls, (closed, sum))) body (fields_fit node calls closed sum small few size (check_length 2 calls body)), same_bytes sum, inner) refl

-- ---- what a log begins with

pub rest_back : (r : Rest) → FitsRest r → rest_in (rest_text r) ≡ Some r
unfolding rest_in rest_text rest_head
rest_back r fits =
    let body : List ℕ = rest_body r.references r.kept in
    let head : List ℕ = fields_codec.text (r.node, (r.calls, (r.closed, check_of 2 r.calls body))) in
    ap versioned (u8_at-put (rest_version r.references) (head ++ body)) ∙ versioned_back r.references (head ++ body)
    ∙ behind_back r.node r.calls r.closed (rest_version r.references) r.references r.kept body fits.node fits.calls fits.closed (body_back r.references r.kept fits.count fits.references)

pub begins_back : (s : WorldSettings) (r : Rest) (state : AnyNode) → FitsRest r → resumed (settings_seen s) r.node r.kept ≡ Some state → begins s r.node (Some (rest_text r)) ≡ Some state
begins_back s r state fits is =
    ap (begun_from (settings_seen s) r.node) (rest_back r fits) ∙ (ap (λ (b : Bool). cond b (resumed (settings_seen s) r.node r.kept) None) (same_self r.node) ∙ is)

pub calls_back : (r : Rest) → FitsRest r → calls_before (Some (rest_text r)) ≡ r.calls
calls_back r fits = ap calls_in (rest_back r fits)

pub references_back : (r : Rest) → FitsRest r → references_before (Some (rest_text r)) ≡ r.references
references_back r fits = ap references_of (rest_back r fits)
