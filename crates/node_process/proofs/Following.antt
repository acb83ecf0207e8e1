-- What one process asks of the system, among all that happens.
use Rattle.std.proofs.Common.{◌≡◌, ◌⊎◌, inl, inr, ℕ, List, [], ◌∷◌, ◌++◌, refl, sym, ap, ◌∙◌, subst}
use Rattle.node_process.specs.Acts.{Act, Found, Unread, Cut, Append, Sync, Say, Hear, Unheard, found}
use Rattle.node_process.specs.Safe.{IsRead, IsUnopened, IsRun, Whose}
use Rattle.node_process.specs.Histories.{Happening, acts_of, left_of, happenings, BeginsWith, IsHistory}

-- a run without its newest act, where it is not the only one
run_before : (whose : Whose) (act : Act) (t : List Act) → IsRead t → IsRun whose (act ∷ t) → IsRun whose t × (found (act ∷ t) ≡ found t)
run_before whose act [] read r = absurd read
run_before whose act (one ∷ t) read r = by_act act r
  where
    by_act : (act : Act) → IsRun whose (act ∷ one ∷ t) → IsRun whose (one ∷ t) × (found (act ∷ one ∷ t) ≡ found (one ∷ t))
    by_act (Found bytes) r = absurd (let only : one ∷ t ≡ [] = (r.safe [] (Found bytes ∷ one ∷ t) refl).order in cc)
    by_act Unread r = absurd (r.safe [] (Unread ∷ one ∷ t) refl).order
    by_act (Cut size done) r = (record { start = r.start; whole = r.whole; opened = r.opened; enough = r.enough; safe = λ later earlier e. r.safe (Cut size done ∷ later) earlier (ap (λ (x : List Act). Cut size done ∷ x) e) }, refl)
    by_act (Append bytes done) r = (record { start = r.start; whole = r.whole; opened = r.opened; enough = r.enough; safe = λ later earlier e. r.safe (Append bytes done ∷ later) earlier (ap (λ (x : List Act). Append bytes done ∷ x) e) }, refl)
    by_act (Sync done) r = (record { start = r.start; whole = r.whole; opened = r.opened; enough = r.enough; safe = λ later earlier e. r.safe (Sync done ∷ later) earlier (ap (λ (x : List Act). Sync done ∷ x) e) }, refl)
    by_act (Say bytes done) r = (record { start = r.start; whole = r.whole; opened = r.opened; enough = r.enough; safe = λ later earlier e. r.safe (Say bytes done ∷ later) earlier (ap (λ (x : List Act). Say bytes done ∷ x) e) }, refl)
    by_act (Hear bytes) r = (record { start = r.start; whole = r.whole; opened = r.opened; enough = r.enough; safe = λ later earlier e. r.safe (Hear bytes ∷ later) earlier (ap (λ (x : List Act). Hear bytes ∷ x) e) }, refl)
    by_act Unheard r = (record { start = r.start; whole = r.whole; opened = r.opened; enough = r.enough; safe = λ later earlier e. r.safe (Unheard ∷ later) earlier (ap (λ (x : List Act). Unheard ∷ x) e) }, refl)

acts_are : (acts : List Act) (h : List Happening) → acts_of h ≡ [] → acts_of (happenings acts ++ h) ≡ acts
acts_are [] h none = none
acts_are (act ∷ acts) h none = ap (λ (x : List Act). act ∷ x) (acts_are acts h none)

left_is : (begun : List ℕ) (acts : List Act) (h : List Happening) → left_of begun (happenings acts ++ h) ≡ left_of begun h
left_is begun [] h = refl
left_is begun (act ∷ acts) h = left_is begun acts h

-- one act more
one_more : (whose : Whose) (begun : List ℕ) (act : Act) (acts : List Act) (h : List Happening) → IsHistory whose begun (happenings acts ++ h) → acts_of h ≡ [] → BeginsWith (left_of begun h) (act ∷ acts) → IsUnopened (act ∷ acts) ⊎ IsRun whose (act ∷ acts)
    → IsHistory whose begun (happenings (act ∷ acts) ++ h)
one_more whose begun act acts h is none begins runs =
    let same = acts_are acts h none in (
      is,
      (
        subst (λ (x : List Act). BeginsWith (left_of begun (happenings acts ++ h)) (act ∷ x)) (sym same) (subst (λ (x : List ℕ). BeginsWith x (act ∷ acts)) (sym (left_is begun acts h)) begins),
        subst (λ (x : List Act). IsUnopened (act ∷ x) ⊎ IsRun whose (act ∷ x)) (sym same) runs,
      ),
    )

run_follows : (whose : Whose) (begun : List ℕ) (acts : List Act) (h : List Happening) → IsHistory whose begun h → acts_of h ≡ [] → found acts ≡ left_of begun h → IsRead acts → IsRun whose acts → IsHistory whose begun (happenings acts ++ h)
run_follows whose begun [] h is none begins read r = absurd read
run_follows whose begun (act ∷ []) h is none begins read r = one_more whose begun act [] h is none (inr (inr begins)) (inr r)
run_follows whose begun (act ∷ one ∷ t) h is none begins read r =
    let before = run_before whose act (one ∷ t) tt r in
    one_more whose begun act (one ∷ t) h (run_follows whose begun (one ∷ t) h is none (sym before.1 ∙ begins) tt before.0) none (inr (inr begins)) (inr r)

unread_run : (whose : Whose) (A : Type 0) → IsRun whose (Unread ∷ []) → A
unread_run whose A r = absurd (r.safe [] (Unread ∷ []) refl).order

any_run : (whose : Whose) (begun : List ℕ) (acts : List Act) (h : List Happening) → IsHistory whose begun h → acts_of h ≡ [] → BeginsWith (left_of begun h) acts → IsRun whose acts → IsHistory whose begun (happenings acts ++ h)
any_run whose begun [] h is none begins r = is
any_run whose begun (act ∷ t) h is none (inl empty) r = absurd (let wrong : act ∷ t ≡ [] = empty in cc)
any_run whose begun (act ∷ t) h is none (inr (inl unread)) r = unread_run whose (IsHistory whose begun (happenings (act ∷ t) ++ h)) (subst (IsRun whose) unread r)
any_run whose begun (act ∷ t) h is none (inr (inr begins)) r = run_follows whose begun (act ∷ t) h is none begins tt r

only_follows : (whose : Whose) (begun : List ℕ) (act : Act) (acts : List Act) (h : List Happening) → IsHistory whose begun h → acts_of h ≡ [] → BeginsWith (left_of begun h) acts → IsUnopened (act ∷ []) → acts ≡ act ∷ [] → IsHistory whose begun (happenings acts ++ h)
only_follows whose begun act acts h is none begins unopened only =
    subst (λ (x : List Act). IsHistory whose begun (happenings x ++ h)) (sym only) (one_more whose begun act [] h is none (subst (BeginsWith (left_of begun h)) only begins) (inl unopened))

unopened_follows : (whose : Whose) (begun : List ℕ) (acts : List Act) (h : List Happening) → IsHistory whose begun h → acts_of h ≡ [] → BeginsWith (left_of begun h) acts → IsUnopened acts → IsHistory whose begun (happenings acts ++ h)
unopened_follows whose begun acts h is none begins (inl empty) = subst (λ (x : List Act). IsHistory whose begun (happenings x ++ h)) (sym empty) is
unopened_follows whose begun acts h is none begins (inr (inl only)) = only_follows whose begun Unread acts h is none begins (inr (inl refl)) only
unopened_follows whose begun acts h is none begins (inr (inr (bytes, only))) = only_follows whose begun (Found bytes) acts h is none begins (inr (inr (bytes, refl))) only

pub follows : (whose : Whose) (begun : List ℕ) (acts : List Act) (h : List Happening) → IsHistory whose begun h → acts_of h ≡ [] → BeginsWith (left_of begun h) acts → IsUnopened acts ⊎ IsRun whose acts → IsHistory whose begun (happenings acts ++ h)
follows whose begun acts h is none begins (inl unopened) = unopened_follows whose begun acts h is none begins unopened
follows whose begun acts h is none begins (inr r) = any_run whose begun acts h is none begins r
