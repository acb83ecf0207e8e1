-- What is true of each process and of the whole network after any moves.
use Rattle.std.proofs.Common.{◌≡◌, ℕ, cond, zero, suc, List, [], ◌∷◌, ◌++◌, Some, None, refl, sym, subst, inl, inr}
use Rattle.std.specs.List.{AllByRecursion}
use Rattle.claim_model.specs.Context.{Context}
use Rattle.claim_model.specs.Numbered.{numbered}
use Rattle.claim_model.specs.Node.{Node, Call}
use Rattle.claim_model.specs.World.{Packet, Event, run}
use Rattle.claim_model.specs.Settings.{WorldSettings, opening}
use Rattle.claim_model.specs.Nodes.{AnyNode, node_at, Asked, asked}
use Rattle.claim_model.specs.Logs.{Logged, Makes}
use Rattle.claim_model.proofs.Names.{told_apart}
use Rattle.claim_model.proofs.Serving.{asks_still}
use Rattle.crash_safety.specs.Network.{Process, Network, file, replayed, put, beginning}
use Rattle.crash_safety.specs.Runs.{HasRun, on_disks}

-- an event asks for this call where these packets were sent
pub record Comes (packets : List Packet) (node : Node) (call : Call) : Type 0 where
  pub event : Event
  pub asks : asked packets event ≡ Some (record { node = node; call = call })

-- each call of a log can come
abbrev pub CanCome : List Packet → Node → List Logged → Type 0
CanCome packets node log = AllByRecursion (λ (l : Logged). Comes packets node l.call) log

-- a process: its memory is the replay of its log, its node makes the log, and what is not synced can come
pub record IsWell (ctx : Context) (s : WorldSettings) (packets : List Packet) (node : Node) (p : Process) : Type 0 where
  pub memory : (m : AnyNode) → p.memory ≡ Some m → replayed ctx s node (file p) ≡ Some m
  pub makes : (before : AnyNode) → node_at (opening s) node ≡ Some before → Makes ctx before (file p)
  pub nobody : node_at (opening s) node ≡ None → p.unsynced ≡ []
  pub comes : CanCome packets node p.unsynced

-- a network: its disks are the logs of a run, and each process is well
pub record IsSound (ctx : Context) (s : WorldSettings) (n : Network) (events : List Event) : Type 0 where
  pub has : HasRun ctx s (on_disks n) n.wire events
  pub each : (node : Node) → IsWell ctx s (run ctx (opening s) events).packets node (n.at node)

-- what is true of the new process at its node, and was of the others, is true of all
pub at_each : (Q : Node → Process → Type 0) (n : Network) (node : Node) (p : Process) → Q node p → ((other : Node) → (node ≡ other → ⊥) → Q other (n.at other)) → (other : Node) → Q other ((put n node p).at other)
at_each Q n node p own others other =
    elim (told_apart node other) [
      | inl t ↦ subst (λ b. Q other (cond b p (n.at other))) (sym t.0) (subst (λ (x : Node). Q x p) t.1 own)
      | inr t ↦ subst (λ b. Q other (cond b p (n.at other))) (sym t.0) (others other t.1)
    ]

-- more packets

pub comes_still : (packets more : List Packet) (node : Node) (log : List Logged) → CanCome packets node log → CanCome (packets ++ more) node log
comes_still packets more node [] c = tt
comes_still packets more node (l ∷ log) c =
    let a : Asked = record { node = node; call = l.call } in
    (record { event = c.0.event; asks = asks_still packets more c.0.event a c.0.asks }, comes_still packets more node log c.1)

pub well_with_more : (ctx : Context) (s : WorldSettings) (packets more : List Packet) (node : Node) (p : Process) → IsWell ctx s packets node p → IsWell ctx s (packets ++ more) node p
well_with_more ctx s packets more node p w = record { memory = w.memory; makes = w.makes; nobody = w.nobody; comes = comes_still packets more node p.unsynced w.comes }

-- the beginning

pub nothing_numbered : {A : Type 0} (k : ℕ) (a : A) → numbered [] k ≡ Some a → ⊥
nothing_numbered zero a e = cc
nothing_numbered (suc k) a e = cc

pub begins_soundly : (ctx : Context) (s : WorldSettings) → IsSound ctx s beginning []
begins_soundly ctx s =
    record {
      has = record { accepted = tt; each = λ (node : Node). refl; all = λ k p e. absurd (nothing_numbered k p e) };
      each = λ (node : Node). record { memory = λ m e. absurd cc; makes = λ before e. tt; nobody = λ e. refl; comes = tt };
    }
