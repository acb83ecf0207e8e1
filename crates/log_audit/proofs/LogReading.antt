-- How logs are read, one after another.
use Rattle.std.proofs.Common.{◌≡◌, ℕ, suc, ◌-◌, List, [], ◌∷◌, ◌++◌, length, map, refl, sym, ap, ◌∙◌, subst}
use Rattle.std.proofs.lemmas.List.{map-append}
use Rattle.std.specs.Prelude.{Option, Result, Ok, option_map}
use Rattle.std.specs.Global.{Vec}
use Rattle.kept_logs.specs.Logs.{Reading}
use Rattle.kept_logs.specs.LogSeen.{reading_seen}
use Rattle.kept_logs.specs.declared.fault.LogFault.{LogFault}
use Rattle.kept_logs.specs.declared.logs.ReadLog.{ReadLog}
use Rattle.claim_model.specs.Logs.{NodeLog}
use Rattle.node_log.specs.LogSeen.{log_seen, logs_seen}
use Rattle.node_log.specs.declared.log.NodeLog.{NodeLog as Kept}
use Rattle.std.proofs.Math.Path.{fun_ext}
use Rattle.settings_digest.specs.Digests.{AreOf}
use Rattle.settings_digest.specs.declared.digests.Digests.{Digests}
use Rattle.settings_digest.proofs.Keeping.{turned_at}
use Rattle.log_audit.specs.Given.{IsLog, AreLogs, Given, ReadsOne, bytes_of, digest_of, given_of, given_seen, left_behind, rests_seen, turned_given}
use Rattle.log_audit.specs.declared.reading.GivenLog as value

are_more : {A : Type 0} (read : A → Result Reading LogFault) (given : List A) (logs : List NodeLog) (one : A) (log : NodeLog) → AreLogs read given logs → IsLog (read one) log → AreLogs read (given ++ one ∷ []) (logs ++ log ∷ [])
are_more {A} read [] [] one log are reads = (reads, tt)
are_more {A} read [] (l ∷ logs) one log are reads = absurd are
are_more {A} read (g ∷ given) [] one log are reads = absurd are
are_more {A} read (g ∷ given) (l ∷ logs) one log are reads = (are.0, are_more read given logs one log are.1 reads)

-- there are as many logs as were handed in
pub as_many : {A : Type 0} (read : A → Result Reading LogFault) (given : List A) (logs : List NodeLog) → AreLogs read given logs → length given ≡ length logs
as_many {A} read [] [] are = refl
as_many {A} read [] (l ∷ logs) are = absurd are
as_many {A} read (g ∷ given) [] are = absurd are
as_many {A} read (g ∷ given) (l ∷ logs) are = ap suc (as_many read given logs are.1)

pub bytes_more : (xs : List (Vec ℕ)) (x : Vec ℕ) → bytes_of (xs ++ x ∷ []) ≡ bytes_of xs ++ x.items ∷ []
bytes_more xs x = map-append (λ (bytes : Vec ℕ). bytes.items) xs (x ∷ [])

-- one log more, of what is handed in as it is seen
pub logs_on : {V A : Type 0} (see : V → A) (read : A → Result Reading LogFault) (xs : List V) (x : V) (size : ℕ) (old : List NodeLog) (torn : List ℕ) (new : List NodeLog) (ends : List ℕ)
    → ReadsOne (read (see x)) size old torn new ends → AreLogs read (map see xs) old → AreLogs read (map see (xs ++ x ∷ [])) new
logs_on {V} {A} see read xs x size old torn new ends one so_far =
    subst (λ (gs : List A). AreLogs read gs new) (sym (map-append see xs (x ∷ [])))
    (subst (λ (ls : List NodeLog). AreLogs read (map see xs ++ see x ∷ []) ls) (sym one.logs_are) (are_more read (map see xs) old (see x) one.log so_far one.is))

-- one torn end more
pub torn_on : {V A : Type 0} (see : V → A) (end : A → ℕ) (xs : List V) (x : V) (read : Result Reading LogFault) (size : ℕ) (old : List NodeLog) (torn : List ℕ) (new : List NodeLog) (ends : List ℕ)
    → ReadsOne read size old torn new ends → left_behind size read ≡ end (see x) → torn ≡ map end (map see xs) → ends ≡ map end (map see (xs ++ x ∷ []))
torn_on {V} {A} see end xs x read size old torn new ends one is so_far =
    one.torn_are ∙ (ap (λ (n : ℕ). torn ++ n ∷ []) is ∙ (ap (λ (t : List ℕ). t ++ end (see x) ∷ []) so_far
    ∙ (sym (map-append end (map see xs) (see x ∷ [])) ∙ ap (map end) (sym (map-append see xs (x ∷ []))))))

-- a log that was read is one more
pub reads_one : (read : Result Reading LogFault) (size : ℕ) (found : ReadLog) (old new : List Kept) (torn ends : List ℕ) (t : ℕ) → read ≡ Ok (reading_seen found) → t ≡ size - found.whole
    → new ≡ old ++ found.log ∷ [] → ends ≡ torn ++ t ∷ [] → ReadsOne read size (logs_seen old) torn (logs_seen new) ends
reads_one read size found old new torn ends t reads left logs_are torn_are = record {
  log = log_seen found.log;
  is = record { whole = found.whole; reads = reads };
  logs_are = ap logs_seen logs_are ∙ map-append log_seen old (found.log ∷ []);
  torn_are = torn_are ∙ ap (λ (n : ℕ). torn ++ n ∷ []) (left ∙ sym (ap (left_behind size) reads));
}

-- by digests of settings, and by the text that spells these, a log has the same digest
pub given_is : (text : List ℕ) (digests : Digests) → AreOf text digests → turned_given digests ≡ digest_of text
given_is text digests are = fun_ext (λ (g : Given). turned_at text g.rest digests g.log are)

-- what one log more begins with
pub rests_on : (xs : List value.GivenLog) (x : value.GivenLog) (old new : List (Option (Vec ℕ))) → new ≡ old ++ x.rest ∷ [] → rests_seen old ≡ map (λ (g : Given). g.rest) (given_of xs)
    → rests_seen new ≡ map (λ (g : Given). g.rest) (given_of (xs ++ x ∷ []))
rests_on xs x old new is so_far =
    let rest = λ (g : Given). g.rest in
    ap rests_seen is ∙ (map-append (λ (r : Option (Vec ℕ)). option_map (λ (v : Vec ℕ). v.items) r) old (x.rest ∷ [])
    ∙ (ap (λ (rs : List (Option (List ℕ))). rs ++ (given_seen x).rest ∷ []) so_far
    ∙ (sym (map-append rest (given_of xs) (given_seen x ∷ [])) ∙ ap (map rest) (sym (map-append given_seen xs (x ∷ []))))))
