-- Packets for switches, as the model's nodes send them.
use Rattle.std.proofs.Common.{◌≡◌, ℕ, List, [], ◌∷◌, ◌++◌, map, refl, sym, ap, ◌∙◌}
use Rattle.std.specs.List.{flat_map}
use Rattle.std.proofs.lemmas.List.{map-append}
use Rattle.claim_model.specs.Journal.{Journal, Sending}
use Rattle.claim_model.specs.Node.{Node, Switch, Sent, to_switch}
use Rattle.pharmacy_journal.specs.Sendings.{packet_at, sent_at}

-- place by place, or all at once
pub sent_at_places : (j : Journal) (ps : List ℕ) → flat_map (sent_at j) ps ≡ map to_switch (flat_map (packet_at j) ps)
sent_at_places j [] = refl
sent_at_places j (p ∷ ps) = ap (λ (ss : List Sent). map to_switch (packet_at j p) ++ ss) (sent_at_places j ps) ∙ sym (map-append to_switch (packet_at j p) (flat_map (packet_at j) ps))

-- no two packets are seen alike
abbrev switch_of : Node → ℕ
switch_of (Switch n) = n
switch_of (Rattle.claim_model.specs.Node.Pharmacy n) = n
switch_of (Rattle.claim_model.specs.Node.Payer n) = n

abbrev as_sending : Sent → Sending
as_sending s = record { switch = switch_of s.to; bytes = s.bytes }

back : (ss : List Sending) → map as_sending (map to_switch ss) ≡ ss
back [] = refl
back (s ∷ ss) = ap (λ (more : List Sending). s ∷ more) (back ss)

pub same_sendings : (ss ts : List Sending) → map to_switch ss ≡ map to_switch ts → ss ≡ ts
same_sendings ss ts e = sym (back ss) ∙ ap (map as_sending) e ∙ back ts
