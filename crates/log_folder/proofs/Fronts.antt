-- What stands before a log, in the words of the clauses.
use Rattle.std.proofs.Common.{◌≡◌, ℕ, ◌+◌, true, List, ◌∷◌, length, Some, None, refl, sym, ap, subst, ◌∙◌, length-append}
use Rattle.std.specs.Option.{option_map}
use Rattle.log_turning.specs.Files.{size_in}
use Rattle.log_folder.specs.declared.front.Front.{Front}
use Rattle.log_folder.specs.Front.{Reading, Read, Rewound, read_so_far, head_most, StandsBefore, IsFront}

pub no_rest : (first second third last : List Reading) (head : List ℕ) → second ≡ Rewound true ∷ first → third ≡ Read head_most head ∷ second → last ≡ Rewound true ∷ third → size_in head ≡ None → IsFront (record { rest = None; size = 0 }) last
no_rest first second third last head a b c none =
    let all : last ≡ Rewound true ∷ (Read head_most head ∷ (Rewound true ∷ first)) = c ∙ ap (λ (r : List Reading). Rewound true ∷ r) (b ∙ ap (λ (r : List Reading). Read head_most head ∷ r) a) in
    record {
      head = head;
      before = first;
      stands = subst (λ o. StandsBefore o head first (record { rest = None; size = 0 }) last) (sym none) (all, refl);
      place = ap (λ (r : List Reading). length (read_so_far r)) (sym all);
    }

pub with_rest : (front : Front) (first second third last : List Reading) (head rest : List ℕ) (size : ℕ) → second ≡ Rewound true ∷ first → third ≡ Read head_most head ∷ second → last ≡ Read size rest ∷ third → size_in head ≡ Some size
    → option_map (λ v. v.items) front.rest ≡ Some rest → front.size ≡ length head + length rest → IsFront front last
with_rest front first second third last head rest size a b c says is long =
    let all : last ≡ Read size rest ∷ (Read head_most head ∷ (Rewound true ∷ first)) = c ∙ ap (λ (r : List Reading). Read size rest ∷ r) (b ∙ ap (λ (r : List Reading). Read head_most head ∷ r) a) in
    record {
      head = head;
      before = first;
      stands = subst (λ o. StandsBefore o head first front last) (sym says) (rest, (all, is));
      place = long ∙ sym (length-append head rest) ∙ ap (λ (r : List Reading). length (read_so_far r)) (sym all);
    }
