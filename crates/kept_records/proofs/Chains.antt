-- What holds where each step of a chain was taken.
use Rattle.std.proofs.Common.{◌≡◌, ◌⊎◌, inl, inr, ℕ, ◌==◌, ◌||◌, Bool, true, false, Option, Some, None, Result, Ok, Err, refl}
use Rattle.std.specs.Prelude.{IfOk}
use Rattle.std.proofs.lemmas.Bool.{eqb-true}
use Rattle.std.specs.Result.{result_ok}
use Rattle.kept_records.specs.declared.fault.RecordFault.{RecordFault}
use Rattle.kept_records.specs.Faults.{◌>>=◌, some_or, when_or, RefusesAs}
use Rattle.kept_records.specs.Versions.{is_version, is_journal_version}

pub result_then : {A B : Type 0} (r : Result A RecordFault) (f : A → Result B RecordFault) (y : B) → (r >>= f) ≡ Ok y → (x : A) × (r ≡ Ok x) × (f x ≡ Ok y)
result_then (Ok x) f y h = (x, refl, h)
result_then (Err fault) f y h = cc

pub some_or_then : {A B : Type 0} (fault : RecordFault) (o : Option A) (f : A → Result B RecordFault) (y : B) → (some_or fault o >>= f) ≡ Ok y → (x : A) × (o ≡ Some x) × (f x ≡ Ok y)
some_or_then fault None f y h = cc
some_or_then fault (Some x) f y h = (x, refl, h)

pub when_or_then : {A B : Type 0} (fault : RecordFault) (test : Bool) (x : A) (f : A → Result B RecordFault) (y : B) → (when_or fault test x >>= f) ≡ Ok y → (test ≡ true) × (f x ≡ Ok y)
when_or_then fault true x f y h = (refl, h)
when_or_then fault false x f y h = cc

pub when_or_ok : {A : Type 0} (fault : RecordFault) (test : Bool) (x y : A) → when_or fault test x ≡ Ok y → (test ≡ true) × (x ≡ y)
when_or_ok fault true x y h = (refl, cc)
when_or_ok fault false x y h = cc

pub ok_same : {A : Type 0} (x y : A) → ◌≡◌ {A = Result A RecordFault} (Ok x) (Ok y) → x ≡ y
ok_same x y h = cc

pub from_result_ok : {A E : Type 0} (r : Result A E) (x : A) → result_ok r ≡ Some x → r ≡ Ok x
from_result_ok (Ok y) x h = cc
from_result_ok (Err e) x h = cc

-- the versions that are read
pub of_version : (version : ℕ) → is_version version ≡ true → (version ≡ 2) ⊎ (version ≡ 1)
of_version version known = by_tests (version == 1) (version == 2) refl refl known
  where
    by_tests : (one two : Bool) → (version == 1) ≡ one → (version == 2) ≡ two → (one || two) ≡ true → (version ≡ 2) ⊎ (version ≡ 1)
    by_tests true two p q h = inr (eqb-true version 1 p)
    by_tests false true p q h = inl (eqb-true version 2 q)
    by_tests false false p q h = cc

-- those of a journal
pub of_journal_version : (version : ℕ) → is_journal_version version ≡ true → (version ≡ 3) ⊎ ((version ≡ 2) ⊎ (version ≡ 1))
of_journal_version version known = by_tests (version == 1) (version == 2) (version == 3) refl refl refl known
  where
    by_tests : (one two three : Bool) → (version == 1) ≡ one → (version == 2) ≡ two → (version == 3) ≡ three → (one || (two || three)) ≡ true → (version ≡ 3) ⊎ ((version ≡ 2) ⊎ (version ≡ 1))
    by_tests true two three p q r h = inr (inr (eqb-true version 1 p))
    by_tests false true three p q r h = inr (inl (eqb-true version 2 q))
    by_tests false false true p q r h = inl (eqb-true version 3 r)
    by_tests false false false p q r h = cc

-- what is read is what comes back
pub ok_as : {A : Type 0} (all r : Result A RecordFault) → all ≡ r → IfOk r (λ x. all ≡ Ok x)
ok_as all (Ok x) is = is
ok_as all (Err fault) is = tt

pub fault_as : {A : Type 0} (all r : Result A RecordFault) → all ≡ r → RefusesAs all r
fault_as all (Ok x) is = tt
fault_as all (Err fault) is = λ other. is
