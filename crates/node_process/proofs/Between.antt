-- What holds between two happenings, and the steps of one happening more.
use Rattle.std.proofs.Common.{◌≡◌, ◌⊎◌, ℕ, true, false, List, [], ◌∷◌, ◌++◌, length, Option, Some, None, refl, sym, ap, ◌∙◌, subst}
use Rattle.claim_model.specs.Logs.{Logged}
use Rattle.crash_safety.specs.Network.{Process}
use Rattle.crash_safety.specs.Network.{file as model_file}
use Rattle.crash_safety.specs.Steps.{Step, steps_from}
use Rattle.world_setup.specs.declared.settings.WorldSettings.{WorldSettings as Settings}
use Rattle.node_logged.specs.Setting.{context_of}
use Rattle.kept_logs.specs.Stamps.{Stamped, bare_calls}
use Rattle.kept_logs.specs.Logs.{kept_text}
use Rattle.kept_logs.specs.Fits.{FitsKept}
use Rattle.kept_logs.specs.Rests.{begins}
use Rattle.settings_digest.specs.Digests.{turned_in, turned_under}
use Rattle.settings_digest.proofs.Keeping.{turned_in_length, under_length}
use Rattle.node_service.proofs.Lines.{bare_append}
use Rattle.node_process.specs.Acts.{Act, Found, Unread, Cut, Append, Sync, Say, Hear, Unheard, file, kept, said, heard}
use Rattle.node_process.specs.Heard.{whole_lines}
use Rattle.node_process.specs.Safe.{IsStartOf, GoesWell, Whose}
use Rattle.node_process.specs.Histories.{Happening, Does, acts_of, left_of, file_or, file_of, on_disk, digest_of, IsAlive, IsToldBy, AreAskedIn}
use Rattle.node_process.proofs.Bare.{HasKept, ReadsKept}
use Rattle.node_process.proofs.Left.{IsTornOf, torn_fits, torn_reads, front_fits}
use Rattle.node_process.proofs.Waking.{Lives}

-- what the process has is what stands in records; and how these stand in the file
pub record IsInner (whose : Whose) (begun : List ℕ) (h : List Happening) (p : Process) : Type 0 where
  pub synced : List Stamped
  pub unsynced : List Stamped
  pub synced_are : bare_calls synced ≡ p.synced
  pub unsynced_are : bare_calls unsynced ≡ p.unsynced
  pub disk : HasKept (digest_of whose begun) whose.node (on_disk begun h) synced
  pub under : IsStartOf (on_disk begun h) (file_of begun h)
  pub lies : IsTornOf (digest_of whose begun) whose.node (file_of begun h) (synced ++ unsynced)
  -- what was found has the first of these records
  pub first : List Stamped
  pub more : List Stamped
  pub goes : synced ++ unsynced ≡ first ++ more
  pub was : IsTornOf (digest_of whose begun) whose.node (left_of begun h) first
  pub keeps : (kept (acts_of h) ≡ []) ⊎ (kept (acts_of h) ≡ on_disk begun h)
  pub told : IsToldBy whose.node p.synced (said (acts_of h))
  -- under which digest the next process will read it
  pub second : turned_under whose.settings whose.rest (left_of begun h) ≡ digest_of whose begun
  pub stands : (digest_of whose begun ≡ turned_in whose.settings whose.rest) ⊎ (on_disk begun h ≡ kept_text (digest_of whose begun) (record { node = whose.node; calls = synced }))

-- the same of another process with the same calls
pub inner_as : (whose : Whose) (begun : List ℕ) (h : List Happening) (p q : Process) → IsInner whose begun h p → q.synced ≡ p.synced → q.unsynced ≡ p.unsynced → IsInner whose begun h q
inner_as whose begun h p q i a b =
    record {
      synced = i.synced;
      unsynced = i.unsynced;
      synced_are = i.synced_are ∙ sym a;
      unsynced_are = i.unsynced_are ∙ sym b;
      disk = i.disk;
      under = i.under;
      lies = i.lies;
      first = i.first;
      more = i.more;
      goes = i.goes;
      was = i.was;
      keeps = i.keeps;
      told = subst (λ (x : List Logged). IsToldBy whose.node x (said (acts_of h))) (sym a) i.told;
      second = i.second;
      stands = i.stands;
    }

-- the same after an act that leaves the file, the disk and what is kept as they are
pub inner_still : (whose : Whose) (begun : List ℕ) (h : List Happening) (p : Process) → IsInner whose begun h p → (act : Act) → file_of begun (Does act ∷ h) ≡ file_of begun h → on_disk begun (Does act ∷ h) ≡ on_disk begun h → kept (act ∷ acts_of h) ≡ kept (acts_of h)
    → IsToldBy whose.node p.synced (said (act ∷ acts_of h)) → IsInner whose begun (Does act ∷ h) p
inner_still whose begun h p i act has lies keeps told =
    record {
      synced = i.synced;
      unsynced = i.unsynced;
      synced_are = i.synced_are;
      unsynced_are = i.unsynced_are;
      disk = subst (λ (b : List ℕ). HasKept (digest_of whose begun) whose.node b i.synced) (sym lies) i.disk;
      under = subst (λ (b : List ℕ). IsStartOf b (file_of begun (Does act ∷ h))) (sym lies) (subst (IsStartOf (on_disk begun h)) (sym has) i.under);
      lies = subst (λ (b : List ℕ). IsTornOf (digest_of whose begun) whose.node b (i.synced ++ i.unsynced)) (sym has) i.lies;
      first = i.first;
      more = i.more;
      goes = i.goes;
      was = i.was;
      keeps = subst (λ (b : List ℕ). (kept (act ∷ acts_of h) ≡ []) ⊎ (kept (act ∷ acts_of h) ≡ b)) (sym lies) (subst (λ (b : List ℕ). (b ≡ []) ⊎ (b ≡ on_disk begun h)) (sym keeps) i.keeps);
      told = told;
      second = i.second;
      stands = subst (λ (b : List ℕ). (digest_of whose begun ≡ turned_in whose.settings whose.rest) ⊎ (b ≡ kept_text (digest_of whose begun) (record { node = whose.node; calls = i.synced }))) (sym lies) i.stands;
    }

-- each digest has 33 bytes
pub digest_length : (settings : List ℕ) (rest : Option (List ℕ)) (bytes : List ℕ) → length (turned_under settings rest bytes) ≡ 33
digest_length settings None bytes = under_length settings bytes
digest_length settings (Some rest) bytes = turned_in_length settings (Some rest)

-- the calls of all records
pub recorded : (whose : Whose) (begun : List ℕ) (h : List Happening) (p : Process) (i : IsInner whose begun h p) → bare_calls (i.synced ++ i.unsynced) ≡ model_file p
recorded whose begun h p i =
    bare_append i.synced i.unsynced ∙ (ap (λ (x : List Logged). x ++ bare_calls i.unsynced) i.synced_are ∙ ap (λ (x : List Logged). p.synced ++ x) i.unsynced_are)

-- where all went well, the file is what the acts made
read_file : (left : List ℕ) (t : List Act) → GoesWell t → file_or left t ≡ file t
read_file left [] well = absurd well.0
read_file left (Found bytes ∷ t) well = refl
read_file left (Unread ∷ t) well = absurd (let wrong : true ≡ false = well.1 in cc)
read_file left (Cut size done ∷ t) well = refl
read_file left (Append bytes done ∷ t) well = refl
read_file left (Sync done ∷ t) well = refl
read_file left (Say bytes done ∷ t) well = refl
read_file left (Hear bytes ∷ t) well = refl
read_file left (Unheard ∷ t) well = refl

pub file_there : (begun : List ℕ) (h : List Happening) → GoesWell (acts_of h) → file_of begun h ≡ file (acts_of h)
file_there begun h well = read_file (left_of begun h) (acts_of h) well

-- all records fit, and those on the disk; and the file is read as all of them
module _ (whose : Whose) (begun : List ℕ) (h : List Happening) (p : Process) (i : IsInner whose begun h p) where
  pub all_fit : FitsKept (record { node = whose.node; calls = i.synced ++ i.unsynced })
  all_fit = torn_fits (digest_of whose begun) whose.node (file_of begun h) (i.synced ++ i.unsynced) i.lies

  pub synced_fit : FitsKept (record { node = whose.node; calls = i.synced })
  synced_fit = record { node = all_fit.node; calls = front_fits i.synced i.unsynced all_fit.calls }

  all_read : ReadsKept (digest_of whose begun) whose.node (file_of begun h) (i.synced ++ i.unsynced)
  all_read = torn_reads (digest_of whose begun) whose.node (file_of begun h) (i.synced ++ i.unsynced) (digest_length whose.settings whose.rest begun) i.lies

  pub file_read : GoesWell (acts_of h) → ReadsKept (digest_of whose begun) whose.node (file (acts_of h)) (i.synced ++ i.unsynced)
  file_read well = subst (λ (b : List ℕ). ReadsKept (digest_of whose begun) whose.node b (i.synced ++ i.unsynced)) (file_there begun h well) all_read

-- ---- one happening more

-- one thing more, and the steps that it is
pub record GoesOn (whose : Whose) (begun : List ℕ) (settings : Settings) (h : List Happening) (p : Process) : Type 0 where
  pub steps : List Step
  pub inner : IsInner whose begun h (steps_from (context_of settings) (begins settings whose.node whose.rest) p steps)
  pub alive : IsAlive (context_of settings) (begins settings whose.node whose.rest) (acts_of h) (steps_from (context_of settings) (begins settings whose.node whose.rest) p steps)
  pub asked : AreAskedIn (whole_lines (heard (acts_of h))) steps

-- the same of a process that lives, and goes on living
pub record RunsOn (whose : Whose) (begun : List ℕ) (settings : Settings) (h : List Happening) (p : Process) : Type 0 where
  pub steps : List Step
  pub inner : IsInner whose begun h (steps_from (context_of settings) (begins settings whose.node whose.rest) p steps)
  pub lives : Lives (context_of settings) (begins settings whose.node whose.rest) (steps_from (context_of settings) (begins settings whose.node whose.rest) p steps)
  pub asked : AreAskedIn (whole_lines (heard (acts_of h))) steps

-- so after such an act of a process that lives, where all went well
pub still_step : (whose : Whose) (begun : List ℕ) (settings : Settings) (h : List Happening) (p : Process) → IsInner whose begun h p → Lives (context_of settings) (begins settings whose.node whose.rest) p → (act : Act) → GoesWell (acts_of h) → file_of begun (Does act ∷ h) ≡ file (acts_of h)
    → on_disk begun (Does act ∷ h) ≡ on_disk begun h → kept (act ∷ acts_of h) ≡ kept (acts_of h) → IsToldBy whose.node p.synced (said (act ∷ acts_of h)) → RunsOn whose begun settings (Does act ∷ h) p
still_step whose begun settings h p i lives act well has lies keeps told =
    record { steps = []; inner = inner_still whose begun h p i act (has ∙ sym (file_there begun h well)) lies keeps told; lives = lives; asked = tt }
