-- A log has the version of the digest that it was written under.
use Rattle.std.proofs.Common.{◌≡◌, ℕ, zero, suc, ◌≤◌, Bool, true, false, cond, List, Option, None, length, take, Some, refl, sym, ap, ◌∙◌, arith}
use Rattle.sha2.specs.Sha256.{sha256, digest_bytes}
use Rattle.world_settings.specs.Document.{Document, living_in}
use Rattle.kept_logs.specs.Digests.{of_file, of_said, is_first}
use Rattle.kept_logs.specs.Rests.{behind}
use Rattle.kept_logs.specs.Stamps.{KeptLog}
use Rattle.kept_logs.specs.Logs.{head_text, kept_text}
use Rattle.settings_digest.specs.Said.{said}
use Rattle.settings_digest.specs.Digests.{said_by, digest_in, digest_under, turned_in, turned_under, under, turned, AreOf}
use Rattle.settings_digest.specs.declared.digests.Digests.{Digests}

-- of either version
abbrev of_version : List ℕ → Bool → List ℕ
of_version file first = cond first (of_file file) (digest_in file)

kept : (file : List ℕ) (log : KeptLog) (first : Bool) → digest_under file (kept_text (of_version file first) log) ≡ of_version file first
unfolding digest_under digest_in kept_text head_text
kept file log true = refl
kept file log false = refl

kept_cut : (file : List ℕ) (log : KeptLog) (m : ℕ) (first : Bool) → digest_under file (take (suc (suc (suc m))) (kept_text (of_version file first) log)) ≡ of_version file first
unfolding digest_under digest_in kept_text head_text
kept_cut file log m true = refl
kept_cut file log m false = refl

pub keeps : (file bytes : List ℕ) (log : KeptLog) → digest_under file (kept_text (digest_under file bytes) log) ≡ digest_under file bytes
unfolding digest_under
keeps file bytes log = kept file log (is_first bytes)

pub keeps_cut : (file bytes : List ℕ) (log : KeptLog) (n : ℕ) → 3 ≤ n → digest_under file (take n (kept_text (digest_under file bytes) log)) ≡ digest_under file bytes
unfolding digest_under
keeps_cut file bytes log zero h = absurd (omega (arith, h))
keeps_cut file bytes log (suc zero) h = absurd (omega (arith, h))
keeps_cut file bytes log (suc (suc zero)) h = absurd (omega (arith, h))
keeps_cut file bytes log (suc (suc (suc m))) h = kept_cut file log m (is_first bytes)

-- a log that begins is of version 2
pub keeps_new : (file : List ℕ) (log : KeptLog) → digest_under file (kept_text (digest_in file) log) ≡ digest_in file
keeps_new file log = kept file log false

-- each digest has 33 bytes with its version
length_of : (file : List ℕ) (first : Bool) → length (of_version file first) ≡ 33
unfolding digest_in sha256 digest_bytes
length_of file true = refl
length_of file false = refl

pub under_length : (file bytes : List ℕ) → length (digest_under file bytes) ≡ 33
unfolding digest_under
under_length file bytes = length_of file (is_first bytes)

pub in_length : (file : List ℕ) → length (digest_in file) ≡ 33
in_length file = length_of file false

-- files that spell the same settings have the same digest
pub same_settings : (file other : List ℕ) → living_in file ≡ living_in other → digest_in file ≡ digest_in other
unfolding digest_in
same_settings file other same = ap (λ (d : Option Document). of_said (said_by d)) same

-- what is said of the settings that a file spells
pub said_is : (file text : List ℕ) (d : Document) → living_in file ≡ Some d → text ≡ said d → of_said text ≡ digest_in file
unfolding digest_in
said_is file text d spelled is = ap of_said (is ∙ ap said_by (sym spelled))

-- digests of settings are those under which bytes are read
pub under_is : (file : List ℕ) (digests : Digests) → AreOf file digests → under digests ≡ digest_under file
unfolding digest_under
under_is file digests are =
    ap (λ (first : List ℕ). λ (bytes : List ℕ). cond (is_first bytes) first digests.said) are.first
    ∙ ap (λ (second : List ℕ). λ (bytes : List ℕ). cond (is_first bytes) (of_file file) second) are.second

pub under_at : (file : List ℕ) (digests : Digests) (bytes : List ℕ) → AreOf file digests → under digests bytes ≡ digest_under file bytes
under_at file digests bytes are = ap (λ (digest : List ℕ → List ℕ). digest bytes) (under_is file digests are)

-- the same, whatever a log begins with

pub turned_keeps : (file : List ℕ) (rest : Option (List ℕ)) (bytes : List ℕ) (log : KeptLog) → turned_under file rest (kept_text (turned_under file rest bytes) log) ≡ turned_under file rest bytes
turned_keeps file None bytes log = keeps file bytes log
turned_keeps file (Some rest) bytes log = refl

pub turned_keeps_cut : (file : List ℕ) (rest : Option (List ℕ)) (bytes : List ℕ) (log : KeptLog) (n : ℕ) → 3 ≤ n → turned_under file rest (take n (kept_text (turned_under file rest bytes) log)) ≡ turned_under file rest bytes
turned_keeps_cut file None bytes log n h = keeps_cut file bytes log n h
turned_keeps_cut file (Some rest) bytes log n h = refl

pub turned_keeps_new : (file : List ℕ) (rest : Option (List ℕ)) (log : KeptLog) → turned_under file rest (kept_text (turned_in file rest) log) ≡ turned_in file rest
turned_keeps_new file None log = keeps_new file log
turned_keeps_new file (Some rest) log = refl

behind_length : (digest rest : List ℕ) → length (behind digest rest) ≡ 33
unfolding behind sha256 digest_bytes
behind_length digest rest = refl

pub turned_length : (file : List ℕ) (rest : Option (List ℕ)) (bytes : List ℕ) → length (turned_under file rest bytes) ≡ 33
turned_length file None bytes = under_length file bytes
turned_length file (Some rest) bytes = behind_length (digest_in file) rest

pub turned_in_length : (file : List ℕ) (rest : Option (List ℕ)) → length (turned_in file rest) ≡ 33
turned_in_length file None = in_length file
turned_in_length file (Some rest) = behind_length (digest_in file) rest

-- digests of settings are those under which bytes are read that begin so
pub turned_at : (file : List ℕ) (rest : Option (List ℕ)) (digests : Digests) (bytes : List ℕ) → AreOf file digests → turned digests rest bytes ≡ turned_under file rest bytes
turned_at file None digests bytes are = under_at file digests bytes are
turned_at file (Some rest) digests bytes are = ap (λ (said : List ℕ). behind said rest) are.second
