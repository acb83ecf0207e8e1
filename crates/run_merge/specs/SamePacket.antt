-- When two packets are the same: sender, addressee and every byte.
use Rattle.std.specs.Prelude.{◌≡◌, ℕ, Bool, true, ◌&&◌, List, [], ◌∷◌, nat_eq, take}
use Rattle.std.proofs.Common.{sym, ap, ◌∙◌}
use Rattle.std.proofs.lemmas.Bool.{and_parts, and_from}
use Rattle.std.specs.Cmp.{IsEquivalence, both_ways}
use Rattle.std.specs.Cmp.Lexicographic.{pointwise, bytes_decides, nat_list_eq_equiv}
use Rattle.claim_model.specs.World.{Packet}
use Rattle.claim_model.specs.Nodes.{same_node}
use Rattle.claim_model.proofs.Names.{same_self, same_is}

abbrev pub same_packet : Packet → Packet → Bool
same_packet p q = same_node p.from q.from && (same_node p.to q.to && pointwise nat_eq p.bytes q.bytes)

-- the test says what equality says
pub same_is_equal : (p q : Packet) → same_packet p q ≡ true → p ≡ q
same_is_equal p q e =
    let a = and_parts (same_node p.from q.from) (same_node p.to q.to && pointwise nat_eq p.bytes q.bytes) e in
    let b = and_parts (same_node p.to q.to) (pointwise nat_eq p.bytes q.bytes) a.1 in
    let from : p.from ≡ q.from = same_is p.from q.from a.0 in
    let to : p.to ≡ q.to = same_is p.to q.to b.0 in
    let bytes : p.bytes ≡ q.bytes = (bytes_decides p.bytes q.bytes).0 b.1 in
    λ i. record { from = from i; to = to i; bytes = bytes i }

pub same_itself : (p : Packet) → same_packet p p ≡ true
same_itself p =
    and_from (same_node p.from p.from) (same_node p.to p.to && pointwise nat_eq p.bytes p.bytes) (same_self p.from)
    (and_from (same_node p.to p.to) (pointwise nat_eq p.bytes p.bytes) (same_self p.to) (nat_list_eq_equiv.refl p.bytes))

pub equal_is_same : (p q : Packet) → p ≡ q → same_packet p q ≡ true
equal_is_same p q e = ap (same_packet p) (sym e) ∙ same_itself p

pub same_packet_equiv : IsEquivalence same_packet
same_packet_equiv = record {
  refl = same_itself;
  symm = λ p q. both_ways (same_packet p q) (same_packet q p) (λ e. equal_is_same q p (sym (same_is_equal p q e))) (λ e. equal_is_same p q (sym (same_is_equal q p e)));
  congr = λ p q r e. ap (λ (x : Packet). same_packet x r) (same_is_equal p q e);
}

-- what a hash of the head is fed
pub same_input : (p q : Packet) → same_packet p q ≡ true → ◌≡◌ {A = List (List ℕ)} (take 18 p.bytes ∷ []) (take 18 q.bytes ∷ [])
same_input p q e = ap (λ (x : Packet). take 18 x.bytes ∷ []) (same_is_equal p q e)
