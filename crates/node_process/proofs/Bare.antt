-- Texts of records, and of their calls without what was noted of them.
use Rattle.std.proofs.Common.{◌≡◌, ◌⊎◌, inl, inr, ℕ, zero, suc, List, [], ◌∷◌, take, Result, Ok, Err, refl, ap}
use Rattle.claim_model.specs.Node.{Node}
use Rattle.claim_model.specs.Logs.{Logged}
use Rattle.kept_logs.specs.declared.fault.LogFault.{LogFault}
use Rattle.kept_logs.specs.declared.fault.LogFault.TheVariants.{Short}
use Rattle.kept_logs.specs.Stamps.{Stamped, bare_calls}
use Rattle.kept_logs.specs.Logs.{KeptReading, calls_alone, kept_text, kept_in, log_in}
use Rattle.kept_logs.specs.Fits.{FitsKept}
use Rattle.node_process.specs.Histories.{HasCalls, ReadsCalls}

-- bytes are the text of a log of these records; or there is no log yet
abbrev pub HasKept : List ℕ → Node → List ℕ → List Stamped → Type 0
HasKept digest node bytes calls = (bytes ≡ kept_text digest (record { node = node; calls = calls })) ⊎ ((bytes ≡ []) × (calls ≡ []))

-- bytes are read as a log of these records; or there is no whole head of a log yet
abbrev pub ReadsKept : List ℕ → Node → List ℕ → List Stamped → Type 0
ReadsKept digest node bytes calls =
    ((whole : ℕ) × (kept_in digest bytes ≡ Ok (record { log = record { node = node; calls = calls }; whole = whole })))
    ⊎ ((kept_in digest bytes ≡ Err Short) × (calls ≡ []))

pub bare_take : (k : ℕ) (calls : List Stamped) → bare_calls (take k calls) ≡ take k (bare_calls calls)
bare_take zero calls = refl
bare_take (suc k) [] = refl
bare_take (suc k) (r ∷ calls) = ap (λ (cs : List Logged). r.logged ∷ cs) (bare_take k calls)

pub bare_has : (digest : List ℕ) (node : Node) (bytes : List ℕ) (calls : List Stamped) → FitsKept (record { node = node; calls = calls }) → HasKept digest node bytes calls → HasCalls digest node bytes (bare_calls calls)
bare_has digest node bytes calls fits (inl text) = inl (record { kept = record { node = node; calls = calls }; of = refl; is = text; fits = fits })
bare_has digest node bytes calls fits (inr none) = inr (none.0, ap bare_calls none.1)

pub reading_alone : (digest bytes : List ℕ) (reading : Result KeptReading LogFault) → kept_in digest bytes ≡ reading → log_in digest bytes ≡ calls_alone reading
unfolding log_in
reading_alone digest bytes reading e = ap calls_alone e

pub bare_reads : (digest : List ℕ) (node : Node) (bytes : List ℕ) (calls : List Stamped) → ReadsKept digest node bytes calls → ReadsCalls digest node bytes (bare_calls calls)
bare_reads digest node bytes calls (inl read) = inl (read.0, reading_alone digest bytes (Ok (record { log = record { node = node; calls = calls }; whole = read.0 })) read.1)
bare_reads digest node bytes calls (inr none) = inr (reading_alone digest bytes (Err Short) none.0, ap bare_calls none.1)
