-- How the marks of events follow one another.
use Rattle.std.proofs.Common.{◌≡◌, ℕ, ◌+◌, ◌<◌, ◌≤◌, List, [], ◌∷◌, ◌++◌, length, drop, get_or, map, Some, refl, sym, ap, ◌∙◌, append-nil}
use Rattle.std.proofs.lemmas.List.{at_drop_more, drop_all, drop-map, map-append}
use Rattle.input_text.proofs.Joining.{lists_join}
use Rattle.claim_model.specs.Context.{Context}
use Rattle.claim_model.specs.declared.refusal.Refusal.{Refusal}
use Rattle.claim_model.specs.Refusal.{refusal_name}
use Rattle.claim_model.specs.Node.{Outcome, Done, Refused}
use Rattle.claim_model.specs.World as model
use Rattle.claim_model.specs.World.{World, step, world_after}
use Rattle.world_setup.specs.declared.call.Packet.{Packet}
use Rattle.world_setup.specs.declared.event.Event.{Event}
use Rattle.world_setup.specs.Seen.{event_seen, packet_seen}
use Rattle.world_core.specs.Stepping.{next_of}
use Rattle.run_picture.specs.declared.mark.Mark as code
use Rattle.run_picture.specs.Marks.{Mark, Sent, Turned, made_mark, sent_marks, event_marks, marks_from}
use Rattle.run_picture.specs.Seen.{mark_seen}

-- a mark that is pushed
pub pushed : (old new : List code.Mark) (mark : code.Mark) (told : Mark) → new ≡ old ++ mark ∷ [] → mark_seen mark ≡ told → map mark_seen new ≡ map mark_seen old ++ told ∷ []
pushed old new mark told is seen =
    ap (map mark_seen) is ∙ (map-append mark_seen old (mark ∷ []) ∙ ap (λ (m : Mark). map mark_seen old ++ m ∷ []) seen)

-- the marks of packets, one after another
pub sent_goes_on : (a b whole : List Mark) (number i : ℕ) (packets : List Packet) (packet : Packet) → i < length packets → packet ≡ get_or packets i packet
    → b ≡ a ++ Sent number (i + 1) (packet_seen packet).from (packet_seen packet).to ∷ []
    → a ++ sent_marks number (i + 1) (map packet_seen (drop i packets)) ≡ whole
    → b ++ sent_marks number ((i + 1) + 1) (map packet_seen (drop (i + 1) packets)) ≡ whole
sent_goes_on a b whole number i packets packet lt is one so_far =
    let marks = λ (left : List Packet). a ++ sent_marks number (i + 1) (map packet_seen left) in
    let more = drop (i + 1) packets in
    let others = sent_marks number ((i + 1) + 1) (map packet_seen more) in
    lists_join a b (b ++ others) (Sent number (i + 1) (packet_seen packet).from (packet_seen packet).to ∷ []) others one refl
    ∙ (ap (λ (p : Packet). marks (p ∷ more)) is ∙ (sym (at_drop_more marks packets i packet lt) ∙ so_far))

pub sent_is_done : (a whole : List Mark) (number i : ℕ) (packets : List Packet) → length packets ≤ i → a ++ sent_marks number (i + 1) (map packet_seen (drop i packets)) ≡ whole → a ≡ whole
sent_is_done a whole number i packets le so_far =
    sym (append-nil a) ∙ (sym (ap (λ (left : List Packet). a ++ sent_marks number (i + 1) (map packet_seen left)) (drop_all i packets le)) ∙ so_far)

-- the packets after those that were sent before, by their views
pub sent_by_views : (a : List Mark) (number posted : ℕ) (packets : List Packet)
    → a ++ sent_marks number (posted + 1) (map packet_seen (drop posted packets)) ≡ a ++ sent_marks number (posted + 1) (drop posted (map packet_seen packets))
sent_by_views a number posted packets = ap (λ (ps : List model.Packet). a ++ sent_marks number (posted + 1) ps) (sym (drop-map packet_seen posted packets))

-- the marks of an event, and of the events after it
pub events_go_on : (ctx : Context) (w v : World) (a b whole : List Mark) (events : List Event) (i : ℕ) (event : Event) → i < length events → event ≡ get_or events i event
    → b ≡ a ++ event_marks (i + 1) (length w.packets) (event_seen event) (step ctx w (event_seen event)) → v ≡ world_after w (step ctx w (event_seen event))
    → a ++ marks_from ctx w (i + 1) (map event_seen (drop i events)) ≡ whole
    → b ++ marks_from ctx v ((i + 1) + 1) (map event_seen (drop (i + 1) events)) ≡ whole
events_go_on ctx w v a b whole events i event lt is one made so_far =
    let marks = λ (left : List Event). a ++ marks_from ctx w (i + 1) (map event_seen left) in
    let more = drop (i + 1) events in
    let its = event_marks (i + 1) (length w.packets) (event_seen event) (step ctx w (event_seen event)) in
    let others = marks_from ctx v ((i + 1) + 1) (map event_seen more) in
    lists_join a b (b ++ others) its others one refl
    ∙ (ap (λ (u : World). a ++ (its ++ marks_from ctx u ((i + 1) + 1) (map event_seen more))) made
    ∙ (ap (λ (e : Event). marks (e ∷ more)) is ∙ (sym (at_drop_more marks events i event lt) ∙ so_far)))

pub events_are_told : (ctx : Context) (w : World) (a whole : List Mark) (events : List Event) (i : ℕ) → length events ≤ i
    → a ++ marks_from ctx w (i + 1) (map event_seen (drop i events)) ≡ whole → a ≡ whole
events_are_told ctx w a whole events i le so_far =
    sym (append-nil a) ∙ (sym (ap (λ (left : List Event). a ++ marks_from ctx w (i + 1) (map event_seen left)) (drop_all i events le)) ∙ so_far)

-- the marks and the world of an event that was made, and of one that was refused
pub made_marks : (number posted : ℕ) (event : model.Event) (next : World) (outcome : Outcome World) → next_of outcome ≡ Some next
    → made_mark number event ∷ sent_marks number (posted + 1) (drop posted next.packets) ≡ event_marks number posted event outcome
made_marks number posted event next (Refused why) is = absurd cc
made_marks number posted event next (Done after sent) is =
    let same : next ≡ after = cc in
    ap (λ (w : World). made_mark number event ∷ sent_marks number (posted + 1) (drop posted w.packets)) same

pub made_world : (w next : World) (outcome : Outcome World) → next_of outcome ≡ Some next → next ≡ world_after w outcome
made_world w next (Refused why) is = absurd cc
made_world w next (Done after sent) is = cc

pub refused_marks : (number posted : ℕ) (event : model.Event) (why : Refusal) (outcome : Outcome World) → outcome ≡ Refused why → Turned number (refusal_name why) ∷ [] ≡ event_marks number posted event outcome
refused_marks number posted event why outcome is = sym (ap (event_marks number posted event) is)

pub refused_world : (w : World) (why : Refusal) (outcome : Outcome World) → outcome ≡ Refused why → w ≡ world_after w outcome
refused_world w why outcome is = sym (ap (world_after w) is)
