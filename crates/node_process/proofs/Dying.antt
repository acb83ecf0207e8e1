-- A process dies, and leaves bytes that the next one reads.
use Rattle.std.proofs.Common.{◌≡◌, ◌⊎◌, inl, inr, ℕ, ◌+◌, ◌-◌, Bool, true, false, cond, List, [], ◌∷◌, ◌++◌, length, take, Option, Some, None, refl, sym, ap, ◌∙◌, subst, arith, append-nil, length-append}
use Rattle.std.proofs.lemmas.List.{take_at, take-append-le}
use Rattle.std.proofs.Math.Seq.{take-append-add}
use Rattle.claim_model.specs.Node.{Node}
use Rattle.crash_safety.specs.Network.{Process}
use Rattle.crash_safety.specs.Steps.{Crashes}
use Rattle.world_setup.specs.declared.settings.WorldSettings.{WorldSettings as Settings}
use Rattle.kept_logs.specs.Digests.{of_file, is_first}
use Rattle.kept_logs.specs.Stamps.{Stamped, KeptLog}
use Rattle.kept_logs.specs.Logs.{head_text, kept_text}
use Rattle.settings_digest.specs.Digests.{digest_in, digest_under, turned_in, turned_under}
use Rattle.node_process.specs.Acts.{file}
use Rattle.node_process.specs.Safe.{IsStartOf, Whose}
use Rattle.node_process.specs.Histories.{zeros, Happening, Dies, left_of, file_of, on_disk, digest_of, IsLeft}
use Rattle.node_process.proofs.Bare.{bare_take}
use Rattle.node_process.proofs.Left.{IsTornOf, HasLeft, left_reads, torn_second}
use Rattle.node_process.proofs.Spoken.{told_nothing}
use Rattle.node_process.proofs.Fronts.{start_with}
use Rattle.node_process.proofs.Between.{IsInner, digest_length, synced_fit, GoesOn}

keeps_by : (file : List ℕ) (log : KeptLog) (more : List ℕ) (first : Bool) → digest_under file (kept_text (cond first (of_file file) (digest_in file)) log ++ more) ≡ cond first (of_file file) (digest_in file)
unfolding digest_under digest_in kept_text head_text
keeps_by file log more true = refl
keeps_by file log more false = refl

keeps_front : (file begun : List ℕ) (log : KeptLog) (more : List ℕ) → digest_under file (kept_text (digest_under file begun) log ++ more) ≡ digest_under file begun
unfolding digest_under
keeps_front file begun log more = keeps_by file log more (is_first begun)

-- the text of a log, whatever stands after it, is of the version that it began with
same_version : (settings : List ℕ) (rest : Option (List ℕ)) (begun : List ℕ) (log : KeptLog) (more : List ℕ) → turned_under settings rest (kept_text (turned_under settings rest begun) log ++ more) ≡ turned_under settings rest begun
same_version settings (Some rest) begun log more = refl
same_version settings None begun log more = keeps_front settings begun log more

module _ (whose : Whose) (begun : List ℕ) (settings : Settings) (h : List Happening) (p : Process) (i : IsInner whose begun h p) where
  abbrev digest : List ℕ
  digest = digest_of whose begun

  d : length digest ≡ 33
  d = digest_length whose.settings whose.rest begun

  abbrev node : Node
  node = whose.node

  -- all records that the file has
  abbrev all_kept : List Stamped
  all_kept = i.synced ++ i.unsynced

  -- the process dies
  crash_step : (left : List ℕ) → IsStartOf (on_disk begun h) left → HasLeft digest node left all_kept i.synced → GoesOn whose begun settings (Dies left ∷ h) p
  crash_step left under l =
      let k = l.count - length i.synced in
      let e : l.count ≡ length i.synced + k = let a = l.enough in omega (arith, a) in
      let there : List Stamped = i.synced ++ take k i.unsynced in
      let is : take l.count all_kept ≡ there = ap (λ n. take n all_kept) e ∙ take-append-add i.synced i.unsynced k in
      let lies : IsTornOf digest node left there = subst (IsTornOf digest node left) is l.torn in
      record {
        steps = Crashes k ∷ [];
        inner = record {
          synced = i.synced;
          unsynced = take k i.unsynced;
          synced_are = i.synced_are;
          unsynced_are = bare_take k i.unsynced ∙ ap (take k) i.unsynced_are;
          disk = i.disk;
          under = under;
          lies = lies;
          first = there;
          more = [];
          goes = sym (append-nil there);
          was = lies;
          keeps = inl refl;
          told = told_nothing node p.synced [] refl;
          second = still_second left there under lies i.stands;
          stands = i.stands;
        };
        alive = refl;
        asked = tt;
      }
    where
      still_second : (left : List ℕ) (there : List Stamped) → IsStartOf (on_disk begun h) left → IsTornOf digest node left there
          → (digest ≡ turned_in whose.settings whose.rest) ⊎ (on_disk begun h ≡ kept_text digest (record { node = node; calls = i.synced })) → turned_under whose.settings whose.rest left ≡ digest
      still_second left there under lies (inl new) = torn_second whose.settings whose.rest node left there (subst (λ (x : List ℕ). IsTornOf x node left there) new lies) ∙ sym new
      still_second left there under lies (inr text) =
          ap (turned_under whose.settings whose.rest) (sym under.is ∙ ap (λ (x : List ℕ). x ++ under.rest) text) ∙ same_version whose.settings whose.rest begun (record { node = node; calls = i.synced }) under.rest

  pub dies_step : (left : List ℕ) → IsLeft whose begun h left → GoesOn whose begun settings (Dies left ∷ h) p
  dies_step left leaves = by_had leaves.had
    where
      under : IsStartOf (on_disk begun h) left
      under = subst (IsStartOf (on_disk begun h)) (sym leaves.is) (start_with (on_disk begun h) leaves.front (zeros leaves.lost) leaves.kept)

      by_had : IsStartOf leaves.front (file_of begun h) ⊎ IsStartOf leaves.front (left_of begun h) → GoesOn whose begun settings (Dies left ∷ h) p
      by_had (inl start) =
          crash_step left under (left_reads digest node (on_disk begun h) leaves.front left (file_of begun h) all_kept i.synced leaves.lost d (synced_fit whose begun h p i) i.disk leaves.kept start leaves.is leaves.ends i.lies)
      by_had (inr start) =
          let l = left_reads digest node (on_disk begun h) leaves.front left (left_of begun h) i.first i.synced leaves.lost d (synced_fit whose begun h p i) i.disk leaves.kept start leaves.is leaves.ends i.was in
          let same : take l.count i.first ≡ take l.count all_kept = sym (ap (take l.count) i.goes ∙ take-append-le l.count i.first i.more l.most) in
          let long : length all_kept ≡ length i.first + length i.more = ap length i.goes ∙ length-append i.first i.more in
          crash_step left under (record {
            count = l.count;
            torn = subst (IsTornOf digest node left) same l.torn;
            enough = l.enough;
            most = let m = l.most in omega (arith, m, long);
            begins = sym (take_at i.synced i.unsynced (length i.synced) refl);
          })
