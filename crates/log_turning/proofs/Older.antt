-- The first log of all, in the last of some files.
use Rattle.std.proofs.Common.{◌≡◌, ℕ, ◌-◌, ◌≤◌, List, [], ◌∷◌, ◌++◌, length, get_or, map, refl, ◌∙◌, sym, ap, arith}
use Rattle.log_turning.specs.Whole.{bytes_in, first_in}
use Rattle.log_turning.specs.declared.whole.LogFile.{LogFile}

pub first_is : (files : List LogFile) (d : LogFile) → 1 ≤ length files → first_in (bytes_in files) ≡ (get_or files (length files - 1) d).bytes.items
first_is [] d some = absurd (omega arith)
first_is (file ∷ []) d some = refl
first_is (file ∷ next ∷ older) d some =
    let same : (length (next ∷ older) - 1) ≡ length older = omega arith in
    let goes : (length (file ∷ next ∷ older) - 1) ≡ length (next ∷ older) = omega arith in
    first_is (next ∷ older) d (omega arith)
    ∙ (ap (λ (n : ℕ). (get_or (next ∷ older) n d).bytes.items) same ∙ ap (λ (n : ℕ). (get_or (file ∷ next ∷ older) n d).bytes.items) (sym goes))

pub last_is : (newer : List LogFile) (file : LogFile) → first_in (bytes_in (newer ++ file ∷ [])) ≡ file.bytes.items
last_is [] file = refl
last_is (one ∷ []) file = refl
last_is (one ∷ next ∷ newer) file = last_is (next ∷ newer) file
