-- What holds of networks whose switches have disks holds without these disks.
use Rattle.std.proofs.Common.{◌≡◌, List, [], ◌++◌, sym, ap, ◌∙◌, inl, inr}
use Rattle.std.proofs.lemmas.List.{append-nil}
use Rattle.claim_model.specs.Context.{Context}
use Rattle.claim_model.specs.Numbered.{numbered}
use Rattle.claim_model.specs.Node.{Node, Pharmacy, Switch, Payer}
use Rattle.claim_model.specs.World.{World, Packet, Event}
use Rattle.claim_model.specs.Settings.{WorldSettings}
use Rattle.claim_model.specs.Logs.{Logged}
use Rattle.claim_model.specs.Promises.{OneStandingPayment, ReversedByOwner, CountedPaymentsStand, StandingAreCounted, OneAnswer, StaysDecided, AsksAsSubmitted, AnswersAsDecided}
use Rattle.crash_safety.specs.Network.{Process, Network, Move, file, replayed, network}
use Rattle.crash_safety.specs.Runs.{HasRun, on_disks, in_files}
use Rattle.crash_safety.specs.Kept.{AreNodes, Holds, WhateverIsKilled, AtAnyLaterMoment, OnceSaid}
use Rattle.crash_safety.specs.Diskless.{light, node_here, AreNodesHere, HoldsHere, HasRunHere, CourseHere, WithNoDiskAtSwitches, AtAnyLaterMomentHere, OnceSaidHere}
use Rattle.crash_safety.proofs.Courses.{course}
use Rattle.crash_safety.proofs.Worlds.{world_on_disks, world_in_files}
use Rattle.crash_safety.proofs.Lighter.{IsBeside, beside_at}
use Rattle.crash_safety.proofs.Promises.{one_standing_kept, reversed_kept, counted_kept, in_full_kept, one_answer_at_once, one_answer_later, decisions_kept, requests_kept, answers_kept}

on_disk : (ctx : Context) (s : WorldSettings) (n m : Network) → IsBeside ctx s n m → (node : Node) → node_here ctx s (on_disks n) n node ≡ replayed ctx s node (on_disks m node)
on_disk ctx s n m i (Pharmacy k) = ap (λ (p : Process). replayed ctx s (Pharmacy k) p.synced) (sym (i.pharmacies k))
on_disk ctx s n m i (Switch k) = sym (i.switches k).stands
on_disk ctx s n m i (Payer k) = ap (λ (p : Process). replayed ctx s (Payer k) p.synced) (sym (i.payers k))

in_file : (ctx : Context) (s : WorldSettings) (n m : Network) → IsBeside ctx s n m → (node : Node) → node_here ctx s (in_files n) n node ≡ replayed ctx s node (in_files m node)
in_file ctx s n m i (Pharmacy k) = ap (λ (p : Process). replayed ctx s (Pharmacy k) (file p)) (sym (i.pharmacies k))
in_file ctx s n m i (Switch k) =
    let q = m.at (Switch k) in
    sym (ap (λ (log : List Logged). replayed ctx s (Switch k) (q.synced ++ log)) (i.switches k).idle ∙ (ap (replayed ctx s (Switch k)) (append-nil q.synced) ∙ (i.switches k).stands))
in_file ctx s n m i (Payer k) = ap (λ (p : Process). replayed ctx s (Payer k) (file p)) (sym (i.payers k))

pub disks_hold : (ctx : Context) (s : WorldSettings) (n m : Network) (w : World) → IsBeside ctx s n m → AreNodesHere ctx s (on_disks n) n w → AreNodes ctx s (on_disks m) w
disks_hold ctx s n m w i h = λ node. h node ∙ on_disk ctx s n m i node

pub holds : (ctx : Context) (s : WorldSettings) (n m : Network) (w : World) → IsBeside ctx s n m → HoldsHere ctx s n w → Holds ctx s m w
holds ctx s n m w i (inl disks) = inl (λ node. disks node ∙ on_disk ctx s n m i node)
holds ctx s n m w i (inr files) = inr (λ node. files node ∙ in_file ctx s n m i node)

-- worlds

pub world_here : (ctx : Context) (s : WorldSettings) (moves : List Move) → (w : World) × AreNodesHere ctx s (on_disks (light ctx s moves)) (light ctx s moves) w
world_here ctx s moves =
    let b = beside_at ctx s moves [] in
    let w = world_on_disks ctx s b.first in
    (w.0, λ node. w.1 node ∙ sym (on_disk ctx s (light ctx s moves) (network ctx s b.first) b.now node))

pub files_here : (ctx : Context) (s : WorldSettings) (moves : List Move) → (w : World) × AreNodesHere ctx s (in_files (light ctx s moves)) (light ctx s moves) w
files_here ctx s moves =
    let b = beside_at ctx s moves [] in
    let w = world_in_files ctx s b.first in
    (w.0, λ node. w.1 node ∙ sym (in_file ctx s (light ctx s moves) (network ctx s b.first) b.now node))

-- runs

run_here : (ctx : Context) (s : WorldSettings) (n m : Network) (events : List Event) → IsBeside ctx s n m → HasRun ctx s (on_disks m) m.wire events → HasRunHere ctx s (on_disks n) n.wire events
run_here ctx s n m events i h = record {
  accepted = h.accepted;
  pharmacies = λ k. h.each (Pharmacy k) ∙ ap (λ (p : Process). p.synced) (i.pharmacies k);
  payers = λ k. h.each (Payer k) ∙ ap (λ (p : Process). p.synced) (i.payers k);
  all = λ k p e. h.all k p (ap (λ (w : List Packet). numbered w k) i.wire ∙ e);
}

run_of_files : (ctx : Context) (s : WorldSettings) (n m : Network) (events : List Event) → IsBeside ctx s n m → HasRun ctx s (in_files m) m.wire events → HasRunHere ctx s (in_files n) n.wire events
run_of_files ctx s n m events i h = record {
  accepted = h.accepted;
  pharmacies = λ k. h.each (Pharmacy k) ∙ ap file (i.pharmacies k);
  payers = λ k. h.each (Payer k) ∙ ap file (i.payers k);
  all = λ k p e. h.all k p (ap (λ (w : List Packet). numbered w k) i.wire ∙ e);
}

pub course_here : (ctx : Context) (s : WorldSettings) (moves more : List Move) → CourseHere ctx s (light ctx s moves) (light ctx s (moves ++ more))
course_here ctx s moves more =
    let b = beside_at ctx s moves more in
    let c = course ctx s b.first b.second in
    record {
      before = c.before;
      between = c.between;
      beyond = c.beyond;
      first = run_here ctx s (light ctx s moves) (network ctx s b.first) c.before b.now c.first;
      disks = run_here ctx s (light ctx s (moves ++ more)) (network ctx s (b.first ++ b.second)) (c.before ++ c.between) b.later c.disks;
      files = run_of_files ctx s (light ctx s (moves ++ more)) (network ctx s (b.first ++ b.second)) ((c.before ++ c.between) ++ c.beyond) b.later c.files;
    }

-- promises

whatever : (P : Context → World → Type 0) → WhateverIsKilled P → WithNoDiskAtSwitches P
whatever P kept = λ ctx s moves w laws accepts h.
    let b = beside_at ctx s moves [] in
    kept ctx s b.first w laws accepts (holds ctx s (light ctx s moves) (network ctx s b.first) w b.now h)

at_later : (P : Context → World → World → Type 0) → AtAnyLaterMoment P → AtAnyLaterMomentHere P
at_later P kept = λ ctx s moves more w v laws accepts disks h.
    let b = beside_at ctx s moves more in
    kept ctx s b.first b.second w v laws accepts (disks_hold ctx s (light ctx s moves) (network ctx s b.first) w b.now disks)
    (holds ctx s (light ctx s (moves ++ more)) (network ctx s (b.first ++ b.second)) v b.later h)

once_said : (P : Context → World → Packet → Type 0) → OnceSaid P → OnceSaidHere P
once_said P kept = λ ctx s moves more w k p laws accepts said h.
    let b = beside_at ctx s moves more in
    kept ctx s b.first b.second w k p laws accepts (ap (λ (wire : List Packet). numbered wire k) b.now.wire ∙ said)
    (holds ctx s (light ctx s (moves ++ more)) (network ctx s (b.first ++ b.second)) w b.later h)

pub one_answer_here : WithNoDiskAtSwitches (λ (ctx : Context) (w : World). OneAnswer ctx w w)
one_answer_here = whatever (λ (ctx : Context) (w : World). OneAnswer ctx w w) one_answer_at_once

pub one_standing_here : WithNoDiskAtSwitches OneStandingPayment
one_standing_here = whatever OneStandingPayment one_standing_kept

pub reversed_here : WithNoDiskAtSwitches ReversedByOwner
reversed_here = whatever ReversedByOwner reversed_kept

pub counted_here : WithNoDiskAtSwitches CountedPaymentsStand
counted_here = whatever CountedPaymentsStand counted_kept

pub in_full_here : WithNoDiskAtSwitches StandingAreCounted
in_full_here = whatever StandingAreCounted in_full_kept

pub one_answer_later_here : AtAnyLaterMomentHere OneAnswer
one_answer_later_here = at_later OneAnswer one_answer_later

pub decisions_here : AtAnyLaterMomentHere (λ (ctx : Context) (w v : World). StaysDecided w v)
decisions_here = at_later (λ (ctx : Context) (w v : World). StaysDecided w v) decisions_kept

pub requests_here : OnceSaidHere AsksAsSubmitted
requests_here = once_said AsksAsSubmitted requests_kept

pub answers_here : OnceSaidHere AnswersAsDecided
answers_here = once_said AnswersAsDecided answers_kept
