-- A process goes on with what it has in memory; and what its steps ask for was asked.
use Rattle.std.proofs.Common.{◌≡◌, ℕ, List, [], ◌∷◌, ◌++◌, Option, refl}
use Rattle.std.specs.List.{AllByRecursion}
use Rattle.claim_model.specs.Context.{Context}
use Rattle.claim_model.specs.Nodes.{AnyNode}
use Rattle.claim_model.specs.Logs.{Logged}
use Rattle.crash_safety.specs.Network.{Process}
use Rattle.crash_safety.specs.Network.{file as model_file}
use Rattle.crash_safety.specs.Steps.{Step, Makes, Syncs, Crashes, Restarts, replayed_from, steps_from}
use Rattle.kept_logs.specs.Stamps.{Stamped, bare_calls}
use Rattle.node_process.specs.Acts.{Act}
use Rattle.node_process.specs.Safe.{IsRead}
use Rattle.node_process.specs.Histories.{IsAlive, IsAskedIn, AreAskedIn}
use Rattle.node_process.proofs.Stepping.{makes_of, syncs_of}

-- it has in memory what its log makes
abbrev pub Lives : Context → Option AnyNode → Process → Type 0
Lives ctx first p = p.memory ≡ replayed_from ctx first (model_file p)

-- where it has only read its log, it wakes before the next act
abbrev pub wake : List Act → List Step
wake [] = []
wake (act ∷ []) = Restarts ∷ []
wake (act ∷ one ∷ t) = []

pub record IsAwake (ctx : Context) (first : Option AnyNode) (p q : Process) : Type 0 where
  pub lives : Lives ctx first q
  pub synced : q.synced ≡ p.synced
  pub unsynced : q.unsynced ≡ p.unsynced

pub awake : (ctx : Context) (first : Option AnyNode) (t : List Act) (p : Process) → IsRead t → IsAlive ctx first t p → IsAwake ctx first p (steps_from ctx first p (wake t))
awake ctx first [] p r a = absurd r
awake ctx first (act ∷ []) p r a = record { lives = refl; synced = refl; unsynced = refl }
awake ctx first (act ∷ one ∷ t) p r a = record { lives = a; synced = refl; unsynced = refl }

pub alive_after : (ctx : Context) (first : Option AnyNode) (act : Act) (t : List Act) (p : Process) → IsRead t → Lives ctx first p → IsAlive ctx first (act ∷ t) p
alive_after ctx first act [] p r lives = absurd r
alive_after ctx first act (one ∷ t) p r lives = lives

pub asked_awake : (t : List Act) (lines : List (List ℕ)) → AreAskedIn lines (wake t)
asked_awake [] lines = tt
asked_awake (act ∷ []) lines = tt
asked_awake (act ∷ one ∷ t) lines = tt

pub asked_append : (lines : List (List ℕ)) (steps more : List Step) → AreAskedIn lines steps → AreAskedIn lines more → AreAskedIn lines (steps ++ more)
asked_append lines [] more a b = b
asked_append lines (Makes call ∷ steps) more a b = (a.0, asked_append lines steps more a.1 b)
asked_append lines (Syncs ∷ steps) more a b = asked_append lines steps more a b
asked_append lines (Crashes left ∷ steps) more a b = asked_append lines steps more a b
asked_append lines (Restarts ∷ steps) more a b = asked_append lines steps more a b

pub syncs_asked : (lines : List (List ℕ)) (calls : List Logged) → AreAskedIn lines (syncs_of calls)
syncs_asked lines [] = tt
syncs_asked lines (l ∷ calls) = syncs_asked lines calls

pub makes_asked : (lines : List (List ℕ)) (calls : List Stamped) → AllByRecursion (λ (r : Stamped). IsAskedIn lines r.logged.call) calls → AreAskedIn lines (makes_of (bare_calls calls))
makes_asked lines [] a = tt
makes_asked lines (r ∷ calls) a = (a.0, makes_asked lines calls a.1)
