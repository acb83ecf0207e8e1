-- What a crash leaves of a file.
use Rattle.std.proofs.Common.{◌≡◌, ℕ, zero, suc, ◌+◌, ◌-◌, ◌<◌, ◌≤◌, List, [], ◌∷◌, ◌++◌, length, take, drop, Option, Some, Result, Ok, Err, refl, sym, ap, ◌∙◌, subst, inl, inr, arith, length-append}
use Rattle.std.proofs.lemmas.Bool.{cases_lt}
use Rattle.std.proofs.Math.Seq.{take-append-add}
use Rattle.std.proofs.lemmas.List.{take-append-drop}
use Rattle.settings_digest.specs.Digests.{turned_under}
use Rattle.settings_digest.proofs.Keeping.{turned_keeps_cut, turned_length}
use Rattle.claim_model.specs.Node.{Node}
use Rattle.claim_model.specs.Nodes.{AnyNode}
use Rattle.claim_model.specs.Logs.{Logged, NodeLog}
use Rattle.crash_safety.specs.Network.{Process, file, crashed}
use Rattle.world_setup.specs.declared.settings.WorldSettings.{WorldSettings}
use Rattle.kept_logs.specs.declared.fault.LogFault.{LogFault}
use Rattle.kept_logs.specs.declared.fault.LogFault.TheVariants.{Short}
use Rattle.kept_logs.specs.Stamps.{Stamped, KeptLog, bare, bare_calls, stamped_text}
use Rattle.kept_logs.specs.Digests.{version_of}
use Rattle.kept_logs.specs.Frames.{frame_text}
use Rattle.kept_logs.specs.Logs.{KeptReading, Reading, alone, calls_alone, calls_text, kept_text, kept_in, log_in}
use Rattle.kept_logs.specs.Fits.{FitsKept}
use Rattle.kept_logs.specs.Cuts.{first_calls, calls_within, log_within}
use Rattle.kept_logs.proofs.LogsBack.{log_length, reads_back}
use Rattle.node_service.specs.Opened.{IsBegun, replayed_behind}
use Rattle.node_service.specs.Lines.{IsRestart}

-- the first records of a log have no more bytes than those with more records
pub longer_text : (version number : ℕ) (calls more : List Stamped) → length (calls_text version number calls) ≤ length (calls_text version number (calls ++ more))
unfolding calls_text
longer_text version number [] more = omega arith
longer_text version number (r ∷ calls) more =
    let inner = longer_text version (number + 1) calls more in
    omega (arith, inner, length-append (frame_text version number (stamped_text r)) (calls_text version (number + 1) calls), length-append (frame_text version number (stamped_text r)) (calls_text version (number + 1) (calls ++ more)))

-- the first this many of the first this many more
take_fewer : (m k : ℕ) (calls : List Stamped) → m ≤ k → take m (take k calls) ≡ take m calls
take_fewer zero k calls h = refl
take_fewer (suc m) zero calls h = absurd (omega (arith, h))
take_fewer (suc m) (suc k) [] h = refl
take_fewer (suc m) (suc k) (r ∷ calls) h = ap (λ cs. r ∷ cs) (take_fewer m k calls (omega (arith, h)))

bare_take : (k : ℕ) (calls : List Stamped) → bare_calls (take k calls) ≡ take k (bare_calls calls)
bare_take zero calls = refl
bare_take (suc k) [] = refl
bare_take (suc k) (r ∷ calls) = ap (λ cs. r.logged ∷ cs) (bare_take k calls)

length_bare : (calls : List Stamped) → length (bare_calls calls) ≡ length calls
length_bare [] = refl
length_bare (r ∷ calls) = ap suc (length_bare calls)

-- a cut after the synced calls leaves them all
all_synced : (digest : List ℕ) (kept : KeptLog) (m n : ℕ) → length digest ≡ 33 → FitsKept kept → m ≤ length kept.calls → length (kept_text digest (first_calls m kept)) ≤ n → m ≤ calls_within digest n kept
all_synced digest kept m n d fits few long =
    let k = calls_within digest n kept in
    elim (cases_lt k m) [
      | inl less ↦
          let back = reads_back digest kept n d fits (omega (arith, log_length digest (first_calls m kept) d, long)) in
          let more = back.most (omega (arith, less, few)) in
          let first : take (suc k) kept.calls ≡ take (suc k) (take m kept.calls) = sym (take_fewer (suc k) m kept.calls (omega (arith, less))) in
          let shorter : length (calls_text (version_of digest) 1 (take (suc k) (take m kept.calls))) ≤ length (calls_text (version_of digest) 1 (take m kept.calls)) =
          subst (λ (calls : List Stamped). length (calls_text (version_of digest) 1 (take (suc k) (take m kept.calls))) ≤ length (calls_text (version_of digest) 1 calls)) (take-append-drop (suc k) (take m kept.calls)) (longer_text (version_of digest) 1 (take (suc k) (take m kept.calls)) (drop (suc k) (take m kept.calls))) in
          let all : length (kept_text digest (first_calls (suc k) kept)) ≡ 46 + length (calls_text (version_of digest) 1 (take (suc k) (take m kept.calls))) =
          log_length digest (first_calls (suc k) kept) d ∙ ap (λ (calls : List Stamped). 46 + length (calls_text (version_of digest) 1 calls)) first in
          absurd (omega (arith, more, all, shorter, log_length digest (first_calls m kept) d, long))
      | inr enough ↦ enough
    ]

same_reading : (a b : KeptReading) → ◌≡◌ {A = Result KeptReading LogFault} (Ok a) (Ok b) → a ≡ b
same_reading a b h = cc

not_short : (a : KeptReading) → ◌≡◌ {A = Result KeptReading LogFault} (Ok a) (Err Short) → ⊥
not_short a h = cc

restarted_as : (digest : List ℕ) (node : Node) (rest : Option (List ℕ)) (image : List ℕ) (found : KeptLog) (calls : List Logged) (whole stay : ℕ) (settings : WorldSettings) (state : AnyNode) (records : List ℕ) (log : KeptLog)
    → kept_in digest image ≡ Ok (record { log = found; whole = whole }) → bare_calls found.calls ≡ calls → IsBegun digest node image log stay records → replayed_behind settings node rest (bare_calls log.calls) ≡ Some state
    → replayed_behind settings node rest calls ≡ Some state
restarted_as digest node rest image found calls whole stay settings state records log reads are (inr none) is = absurd (not_short (record { log = found; whole = whole }) (sym reads ∙ none.0))
restarted_as digest node rest image found calls whole stay settings state records log reads are (inl read) is =
    let r = same_reading (record { log = log; whole = stay }) (record { log = found; whole = whole }) (sym read.0 ∙ reads) in
    ap (λ (cs : List Logged). replayed_behind settings node rest cs) (sym are ∙ ap (λ (x : KeptReading). bare_calls x.log.calls) (sym r)) ∙ is

reads_alone : (digest bytes : List ℕ) (read : KeptReading) → kept_in digest bytes ≡ Ok read → log_in digest bytes ≡ Ok (alone read)
unfolding log_in
reads_alone digest bytes read e = ap calls_alone e

pub crashed_restarts : (settings begun : List ℕ) (node : Node) (rest : Option (List ℕ)) (p : Process) (kept : KeptLog) (n : ℕ) → bare kept ≡ record { node = node; calls = file p } → FitsKept kept
    → length (kept_text (turned_under settings rest begun) (first_calls (length p.synced) kept)) ≤ n → IsRestart settings node rest p (take n (kept_text (turned_under settings rest begun) kept))
crashed_restarts settings begun node rest p kept n of fits long =
    let digest = turned_under settings rest begun in
    let d = turned_length settings rest begun in
    let calls_are : bare_calls kept.calls ≡ file p = ap (λ (x : NodeLog). x.calls) of in
    let own_node : kept.node ≡ node = ap (λ (x : NodeLog). x.node) of in
    let m = length p.synced in
    let few : m ≤ length kept.calls = omega (arith, length_bare kept.calls, ap length calls_are, length-append p.synced p.unsynced) in
    let k = calls_within digest n kept in
    let left = k - m in
    let back = reads_back digest kept n d fits (omega (arith, log_length digest (first_calls m kept) d, long)) in
    let enough = all_synced digest kept m n d fits few long in
    let count : k ≡ m + left = omega (arith, enough) in
    let calls : bare_calls (take k kept.calls) ≡ file (crashed p left) =
    bare_take k kept.calls ∙ (ap (take k) calls_are ∙ (ap (λ j. take j (file p)) count ∙ take-append-add p.synced p.unsynced left)) in
    let found : KeptReading = record { log = log_within digest n kept; whole = length (kept_text digest (log_within digest n kept)) } in
    let image = take n (kept_text digest kept) in
    let own : turned_under settings rest image ≡ digest = turned_keeps_cut settings rest begun kept n (omega (arith, log_length digest (first_calls m kept) d, long)) in
    let same : alone found ≡ record { log = record { node = node; calls = file (crashed p left) }; whole = found.whole } =
    ap (λ (cs : List Logged). let r : Reading = record { log = record { node = kept.node; calls = cs }; whole = found.whole } in r) calls ∙ ap (λ (x : Node). let r : Reading = record { log = record { node = x; calls = file (crashed p left) }; whole = found.whole } in r) own_node in
    record {
      left = left;
      whole = found.whole;
      reads = ap (λ (x : List ℕ). log_in x image) own ∙ (reads_alone digest image found back.read ∙ ap (λ (r : Reading). Ok r) same);
      restarts = λ s stay o. restarted_as digest node rest image found.log (file (crashed p left)) found.whole stay s.settings s.state s.records o.log back.read calls (subst (λ (x : List ℕ). IsBegun x node image o.log stay s.records) own o.begun) o.state;
    }
