-- How a run goes on, event by event, and ends.
use Rattle.std.proofs.Common.{◌≡◌, ℕ, suc, ◌+◌, ◌-◌, ◌<◌, ◌≤◌, List, [], ◌∷◌, ◌++◌, length, drop, get_or, map, replicate, sym, ap, ◌∙◌, append_assoc, append-nil, arith}
use Rattle.std.proofs.lemmas.List.{at_drop_more, drop_all}
use Rattle.claim_model.specs.Context.{Context}
use Rattle.claim_model.specs.World.{World, step, world_after}
use Rattle.world_setup.specs.declared.event.Event.{Event}
use Rattle.world_setup.specs.Seen.{event_seen}
use Rattle.log_audit.specs.Senders.{sent_by, senders_from}

-- the senders of an event's packets, and those of the packets after them
pub senders_go_on : (ctx : Context) (w v : World) (a b whole : List ℕ) (events : List Event) (i : ℕ) (event : Event) → i < length events → event ≡ get_or events i event
    → b ≡ a ++ sent_by (i + 1) w v → v ≡ world_after w (step ctx w (event_seen event))
    → a ++ senders_from ctx w (i + 1) (map event_seen (drop i events)) ≡ whole
    → b ++ senders_from ctx v ((i + 1) + 1) (map event_seen (drop (i + 1) events)) ≡ whole
senders_go_on ctx w v a b whole events i event lt is one made so_far =
    let all = λ (left : List Event). a ++ senders_from ctx w (i + 1) (map event_seen left) in
    let more = drop (i + 1) events in
    let others = λ (u : World). senders_from ctx u ((i + 1) + 1) (map event_seen more) in
    ap (λ (t : List ℕ). t ++ others v) one
    ∙ (append_assoc a (sent_by (i + 1) w v) (others v)
    ∙ (ap (λ (u : World). a ++ (sent_by (i + 1) w u ++ others u)) made
    ∙ (ap (λ (e : Event). all (e ∷ more)) is ∙ (sym (at_drop_more all events i event lt) ∙ so_far))))

pub senders_are_told : (ctx : Context) (w : World) (a whole : List ℕ) (events : List Event) (i : ℕ) → length events ≤ i
    → a ++ senders_from ctx w (i + 1) (map event_seen (drop i events)) ≡ whole → a ≡ whole
senders_are_told ctx w a whole events i le so_far =
    sym (append-nil a) ∙ (sym (ap (λ (left : List Event). a ++ senders_from ctx w (i + 1) (map event_seen left)) (drop_all i events le)) ∙ so_far)

-- one more, and those that are left
pub one_more : (a b whole : List ℕ) (number past at : ℕ) → at < past → b ≡ a ++ number ∷ [] → a ++ replicate (past - at) number ≡ whole → b ++ replicate (past - (at + 1)) number ≡ whole
one_more a b whole number past at lt one so_far =
    let left : past - at ≡ suc (past - (at + 1)) = omega arith in
    let others = replicate (past - (at + 1)) number in
    ap (λ (t : List ℕ). t ++ others) one ∙ (append_assoc a (number ∷ []) others ∙ (sym (ap (λ (n : ℕ). a ++ replicate n number) left) ∙ so_far))

pub none_more : (a whole : List ℕ) (number past at : ℕ) → past ≤ at → a ++ replicate (past - at) number ≡ whole → a ≡ whole
none_more a whole number past at le so_far =
    let none : past - at ≡ 0 = omega arith in
    sym (append-nil a) ∙ (sym (ap (λ (n : ℕ). a ++ replicate n number) none) ∙ so_far)
