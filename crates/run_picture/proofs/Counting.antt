-- The marks of a run tell its packets, and its deliveries.
use Rattle.std.proofs.Common.{◌≡◌, ℕ, ◌+◌, List, [], ◌∷◌, ◌++◌, length, drop, map, refl, sym, ap, ◌∙◌, append_assoc, append-nil}
use Rattle.std.specs.Prelude.{filter_map}
use Rattle.std.proofs.Math.Seq.{drop-append_seam}
use Rattle.std.proofs.lemmas.List.{map-append}
use Rattle.std.proofs.lemmas.List.Elements.{filter_map-append}
use Rattle.claim_model.specs.Context.{Context}
use Rattle.claim_model.specs.Node.{Outcome, Done, Refused}
use Rattle.claim_model.specs.World.{World, Packet, Event, Submission, Ticking, Delivery, Stopping, Starting, Revising, Adjudication, packet_from, step, world_after, run}
use Rattle.claim_model.proofs.Ends.{Unchanged, One_call, ended}
use Rattle.run_picture.specs.Marks.{Mark, made_mark, sent_marks, event_marks, marks_from}
use Rattle.run_picture.specs.Counts.{Way, way, sending, arrow, delivered_by, deliveries}

-- packets that are sent

sendings : (number k : ℕ) (packets : List Packet) → filter_map sending (sent_marks number k packets) ≡ map way packets
sendings number k [] = refl
sendings number k (p ∷ more) = ap (λ (ways : List Way). way p ∷ ways) (sendings number (k + 1) more)

none_by_head : (number : ℕ) (event : Event) (more : List Mark) → filter_map sending (made_mark number event ∷ more) ≡ filter_map sending more
none_by_head number (Submission n text) more = refl
none_by_head number (Ticking n) more = refl
none_by_head number (Delivery k) more = refl
none_by_head number (Stopping node) more = refl
none_by_head number (Starting node) more = refl
none_by_head number (Revising n change) more = refl
none_by_head number (Adjudication k advice) more = refl

-- what an event sent
its_packets : (number posted : ℕ) (event : Event) (next : World) (packets : List Packet) → drop posted next.packets ≡ packets
    → filter_map sending (made_mark number event ∷ sent_marks number (posted + 1) (drop posted next.packets)) ≡ map way packets
its_packets number posted event next packets is =
    none_by_head number event (sent_marks number (posted + 1) (drop posted next.packets))
    ∙ (sendings number (posted + 1) (drop posted next.packets) ∙ ap (map way) is)

-- the world after an event that ended so, and its marks
marks_after : (ctx : Context) (w : World) (number : ℕ) (event : Event) (events : List Event) (outcome : Outcome World) → step ctx w event ≡ outcome
    → marks_from ctx w number (event ∷ events) ≡ event_marks number (length w.packets) event outcome ++ marks_from ctx (world_after w outcome) (number + 1) events
marks_after ctx w number event events outcome is =
    ap (λ (o : Outcome World). event_marks number (length w.packets) event o ++ marks_from ctx (world_after w o) (number + 1) events) is

run_after : (ctx : Context) (w : World) (event : Event) (events : List Event) (outcome : Outcome World) → step ctx w event ≡ outcome
    → run ctx w (event ∷ events) ≡ run ctx (world_after w outcome) events
run_after ctx w event events outcome is = ap (λ (o : Outcome World). run ctx (world_after w o) events) is

pub each_packet : (ctx : Context) (w : World) (number : ℕ) (events : List Event)
    → map way w.packets ++ filter_map sending (marks_from ctx w number events) ≡ map way (run ctx w events).packets
each_packet ctx w number [] = append-nil (map way w.packets)
each_packet ctx w number (event ∷ events) =
    elim (ended ctx w event) [
      | Unchanged why q ↦
          ap (λ (marks : List Mark). map way w.packets ++ filter_map sending marks) (marks_after ctx w number event events (Refused why) q)
          ∙ (each_packet ctx w (number + 1) events ∙ ap (λ (v : World). map way v.packets) (sym (run_after ctx w event events (Refused why) q)))
      | One_call a v sent p q f ↦
          let new = map (packet_from a.node) sent in
          let others = marks_from ctx v (number + 1) events in
          let its = made_mark number event ∷ sent_marks number (length w.packets + 1) (drop (length w.packets) v.packets) in
          let is : drop (length w.packets) v.packets ≡ new = ap (drop (length w.packets)) f.posts ∙ drop-append_seam w.packets new in
          ap (λ (marks : List Mark). map way w.packets ++ filter_map sending marks) (marks_after ctx w number event events (Done v sent) q)
          ∙ (ap (λ (ways : List Way). map way w.packets ++ ways) (filter_map-append sending its others)
          ∙ (ap (λ (ways : List Way). map way w.packets ++ (ways ++ filter_map sending others)) (its_packets number (length w.packets) event v new is)
          ∙ (sym (append_assoc (map way w.packets) (map way new) (filter_map sending others))
          ∙ (ap (λ (ways : List Way). ways ++ filter_map sending others) (sym (map-append way w.packets new) ∙ ap (map way) (sym f.posts))
          ∙ (each_packet ctx v (number + 1) events ∙ ap (λ (u : World). map way u.packets) (sym (run_after ctx w event events (Done v sent) q)))))))
    ]

-- deliveries

no_arrows : (number k : ℕ) (packets : List Packet) → filter_map arrow (sent_marks number k packets) ≡ []
no_arrows number k [] = refl
no_arrows number k (p ∷ more) = no_arrows number (k + 1) more

arrow_of : (number posted : ℕ) (event : Event) (outcome : Outcome World) → filter_map arrow (event_marks number posted event outcome) ≡ delivered_by event outcome
arrow_of number posted (Submission n text) (Refused why) = refl
arrow_of number posted (Ticking n) (Refused why) = refl
arrow_of number posted (Delivery k) (Refused why) = refl
arrow_of number posted (Stopping node) (Refused why) = refl
arrow_of number posted (Starting node) (Refused why) = refl
arrow_of number posted (Revising n change) (Refused why) = refl
arrow_of number posted (Adjudication k advice) (Refused why) = refl
arrow_of number posted (Submission n text) (Done next sent) = no_arrows number (posted + 1) (drop posted next.packets)
arrow_of number posted (Ticking n) (Done next sent) = no_arrows number (posted + 1) (drop posted next.packets)
arrow_of number posted (Delivery k) (Done next sent) = ap (λ (ks : List ℕ). k ∷ ks) (no_arrows number (posted + 1) (drop posted next.packets))
arrow_of number posted (Stopping node) (Done next sent) = no_arrows number (posted + 1) (drop posted next.packets)
arrow_of number posted (Starting node) (Done next sent) = no_arrows number (posted + 1) (drop posted next.packets)
arrow_of number posted (Revising n change) (Done next sent) = no_arrows number (posted + 1) (drop posted next.packets)
arrow_of number posted (Adjudication k advice) (Done next sent) = ap (λ (ks : List ℕ). k ∷ ks) (no_arrows number (posted + 1) (drop posted next.packets))

pub each_delivery : (ctx : Context) (w : World) (number : ℕ) (events : List Event) → filter_map arrow (marks_from ctx w number events) ≡ deliveries ctx w events
each_delivery ctx w number [] = refl
each_delivery ctx w number (event ∷ events) =
    let its = event_marks number (length w.packets) event (step ctx w event) in
    let after = world_after w (step ctx w event) in
    filter_map-append arrow its (marks_from ctx after (number + 1) events)
    ∙ (ap (λ (ks : List ℕ). ks ++ filter_map arrow (marks_from ctx after (number + 1) events)) (arrow_of number (length w.packets) event (step ctx w event))
    ∙ ap (λ (ks : List ℕ). delivered_by event (step ctx w event) ++ ks) (each_delivery ctx after (number + 1) events))
