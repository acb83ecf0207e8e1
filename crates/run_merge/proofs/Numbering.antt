-- The index of packets, as packets are added.
use Rattle.std.proofs.Common.{MatchOption, ◌≡◌, ℕ, ◌+◌, Bool, true, false, cond, List, [], ◌∷◌, ◌++◌, length, Option, Some, None, refl, sym, ap, ◌∙◌, subst, inl, inr}
use Rattle.std.proofs.lemmas.Bool.{both_ways}
use Rattle.claim_model.specs.Numbered.{numbered}
use Rattle.claim_model.specs.World.{Packet}
use Rattle.claim_model.proofs.Lists.{numbered_append, numbered_last, numbered_more}
use Rattle.run_merge.specs.Line.{IsAbsent}
use Rattle.run_merge.specs.LineSeen.{slip_seen}
use Rattle.run_merge.specs.SamePacket.{same_packet, same_is_equal, equal_is_same}
use Rattle.run_merge.specs.PacketNumbers.{IsNumbered}
use Rattle.run_merge.specs.declared.slip.Slip.{Slip}

-- what an index says of a packet
abbrev Says : List Packet → Packet → Option ℕ → Type 0
Says packets p o = MatchOption o (IsAbsent packets p) (λ k. numbered packets k ≡ Some p)

pub number_found : (packets : List Packet) (number_of : Slip → Option ℕ) (slip : Slip) (k : ℕ) → IsNumbered packets number_of → number_of slip ≡ Some k → numbered packets k ≡ Some (slip_seen slip)
number_found packets number_of slip k h e = subst (Says packets (slip_seen slip)) e (h.found slip)

pub number_missing : (packets : List Packet) (number_of : Slip → Option ℕ) (slip : Slip) → IsNumbered packets number_of → number_of slip ≡ None → IsAbsent packets (slip_seen slip)
number_missing packets number_of slip h e = subst (Says packets (slip_seen slip)) e (h.found slip)

-- what was said of another packet stays so, where one packet more was sent
older : (packets : List Packet) (sent p : Packet) → same_packet sent p ≡ false → (o : Option ℕ) → Says packets p o → Says (packets ++ sent ∷ []) p o
older packets sent p d None absent = λ k e. elim (numbered_more packets sent k p e) [
  | inl f ↦ absent k f
  | inr f ↦ both_ways (same_packet sent p) d (equal_is_same sent p (sym f.1))
]
older packets sent p d (Some k) at = numbered_append packets (sent ∷ []) k p at

-- the index with the number of one packet more
pub indexed_more : (packets : List Packet) (slip : Slip) (number : ℕ) (old new : Slip → Option ℕ) → IsNumbered packets old → number ≡ length packets + 1
    → ((s : Slip) → new s ≡ cond (same_packet (slip_seen slip) (slip_seen s)) (Some number) (old s)) → IsNumbered (packets ++ slip_seen slip ∷ []) new
indexed_more packets slip number old new h n more = record { found = λ s. subst (Says (packets ++ slip_seen slip ∷ []) (slip_seen s)) (sym (more s)) (by s (same_packet (slip_seen slip) (slip_seen s)) refl) }
  where
    by : (s : Slip) (t : Bool) → same_packet (slip_seen slip) (slip_seen s) ≡ t → Says (packets ++ slip_seen slip ∷ []) (slip_seen s) (cond t (Some number) (old s))
    by s true e =
        let last : numbered (packets ++ slip_seen slip ∷ []) number ≡ Some (slip_seen slip) = subst (λ (k : ℕ). numbered (packets ++ slip_seen slip ∷ []) k ≡ Some (slip_seen slip)) (sym n) (numbered_last packets (slip_seen slip)) in
        last ∙ ap (λ (p : Packet). Some p) (same_is_equal (slip_seen slip) (slip_seen s) e)
    by s false e = older packets (slip_seen slip) (slip_seen s) e (old s) (h.found s)
