-- What a death leaves at each moment while a log is closed.
use Rattle.std.proofs.Common.{◌≡◌, ◌⊎◌, inl, inr, ℕ, Bool, true, false, cond, List, [], ◌∷◌, ◌++◌, take, drop, length, Some, refl, sym, ◌∙◌, subst, ◌==◌}
use Rattle.std.proofs.lemmas.List.{take-append-drop}
use Rattle.std.proofs.lemmas.Bool.{false≢true}
use Rattle.node_process.specs.Safe.{IsStartOf}
use Rattle.node_process.proofs.Fronts.{all_of, through}
use Rattle.log_turning.specs.Files.{part_in}
use Rattle.log_turning.specs.declared.turning.Turned.{Turned}
use Rattle.log_folder.specs.Deeds.{Deed, Plan, IsFollowed, Found, MadeNext, KeptEnd, Cut, Append, Sync, Linked, SyncNames, Exchanged}
use Rattle.log_folder.specs.Plans.{closing_plan, closed, cut_at, exchanged, place_in}
use Rattle.log_folder.specs.Deaths.{Left, left, MayStand, IsOneOrTheOther, new_file}
use Rattle.replaced_files.proofs.Following.{AtEachMoment, at_each_moment}

front_of : (n : ℕ) (bytes : List ℕ) → IsStartOf (take n bytes) bytes
front_of n bytes = record { rest = drop n bytes; is = take-append-drop n bytes }

same_bytes : (a b : List ℕ) → Some a ≡ Some b → a ≡ b
same_bytes a b e = cc e

module _ (bytes : List ℕ) (turned : Turned) (untorn : Bool) where
  -- the closed log, where nothing is to be cut off its file, and where something is
  abbrev pub closed_by : List ℕ
  closed_by = cond untorn bytes (take (place_in bytes turned.kept) bytes) ++ turned.closing.items

  abbrev pub OneOrTheOther : Left → Type 0
  OneOrTheOther l = (standing : List ℕ) → MayStand l standing
      → (IsStartOf standing bytes ⊎ IsStartOf standing closed_by) ⊎ ((standing ≡ new_file turned) × ((l.named ≡ Some turned.calls) × (l.kept ≡ closed_by)))

  -- the file of the log that was read has what it had, or what the closed one has, so far
  abbrev IsOwn : Left → Type 0
  IsOwn l = (l.found ≡ bytes) × (IsStartOf l.file bytes ⊎ IsStartOf l.file closed_by)

  own : (l : Left) (standing : List ℕ) → IsOwn l → IsStartOf standing l.file ⊎ IsStartOf standing l.found → IsStartOf standing bytes ⊎ IsStartOf standing closed_by
  own l standing is (inl s) = by_file is.1
    where
      by_file : IsStartOf l.file bytes ⊎ IsStartOf l.file closed_by → IsStartOf standing bytes ⊎ IsStartOf standing closed_by
      by_file (inl t) = inl (through standing l.file bytes s t)
      by_file (inr t) = inr (through standing l.file closed_by s t)
  own l standing is (inr s) = inl (subst (IsStartOf standing) is.0 s)

  open_still : (l : Left) → l.exchanged ≡ false → IsOwn l → OneOrTheOther l
  open_still l not_yet is standing (inl old) = inl (own l standing is old.1)
  open_still l not_yet is standing (inr new) = absurd (false≢true (sym not_yet ∙ new.0))

  closed_behind : (l : Left) → IsOwn l → l.next ≡ Some (new_file turned) → l.named ≡ Some turned.calls → l.kept ≡ closed_by → OneOrTheOther l
  closed_behind l is next named kept standing (inl old) = inl (own l standing is old.1)
  closed_behind l is next named kept standing (inr new) = inr (same_bytes standing (new_file turned) (sym new.1 ∙ next), (named, kept))

  abbrev pub plan_by : Plan Deed
  plan_by = MadeNext (new_file turned) ∷ (cond untorn [] (cut_at (place_in bytes turned.kept)) ++ (closed turned ++ exchanged))

  abbrev pub Fine : List Deed → Type 0
  Fine deeds = OneOrTheOther (left deeds)

  -- once the file has what is to stay, and the next one is there: the end is appended, the closed log gets its name, and the next one that of the log
  end_moments : (deeds : List Deed) → (left deeds).found ≡ bytes → IsStartOf (left deeds).file bytes → (left deeds).file ++ turned.closing.items ≡ closed_by → (left deeds).next ≡ Some (new_file turned) → (left deeds).exchanged ≡ false
      → AtEachMoment Fine (closed turned ++ exchanged) deeds
  end_moments deeds found front whole next not_yet =
      let d1 : List Deed = Append turned.closing.items true ∷ deeds in
      let d2 : List Deed = Sync true ∷ d1 in
      let d3 : List Deed = Linked turned.calls true ∷ d2 in
      let d4 : List Deed = SyncNames true ∷ d3 in
      let d5 : List Deed = Exchanged true ∷ d4 in
      let ends : IsOwn (left d1) = (found, inr (subst (λ (b : List ℕ). IsStartOf b closed_by) (sym whole) (all_of closed_by))) in (
        open_still (left deeds) not_yet (found, inl front),
        open_still (left (Append turned.closing.items false ∷ deeds)) not_yet ends,
        (
          open_still (left d1) not_yet ends,
          open_still (left (Sync false ∷ d1)) not_yet ends,
          (
            open_still (left d2) not_yet ends,
            open_still (left (Linked turned.calls false ∷ d2)) not_yet ends,
            (
              open_still (left d3) not_yet ends,
              open_still (left (SyncNames false ∷ d3)) not_yet ends,
              (
                open_still (left d4) not_yet ends,
                closed_behind (left (Exchanged false ∷ d4)) ends next refl whole,
                (
                  closed_behind (left d5) ends next refl whole,
                  closed_behind (left (SyncNames false ∷ d5)) ends next refl whole,
                  closed_behind (left (SyncNames true ∷ d5)) ends next refl whole,
                ),
              ),
            ),
          ),
        ),
      )

moments : (untorn : Bool) (bytes : List ℕ) (turned : Turned) (before : List Deed) → AtEachMoment (Fine bytes turned untorn) (plan_by bytes turned untorn) (Found bytes ∷ before)
-- no record was cut off: the file has what it had until its end is appended
moments true bytes turned before =
    let d0 : List Deed = Found bytes ∷ before in
    let d1 : List Deed = MadeNext (new_file turned) true ∷ d0 in (
      open_still bytes turned true (left d0) refl (refl, inl (all_of bytes)),
      open_still bytes turned true (left (MadeNext (new_file turned) false ∷ d0)) refl (refl, inl (all_of bytes)),
      end_moments bytes turned true d1 refl (all_of bytes) refl refl refl,
    )
-- a record was cut off
moments false bytes turned before =
    let place : ℕ = place_in bytes turned.kept in
    let d0 : List Deed = Found bytes ∷ before in
    let d1 : List Deed = MadeNext (new_file turned) true ∷ d0 in
    let d2 : List Deed = KeptEnd place true ∷ d1 in
    let d3 : List Deed = Cut place true ∷ d2 in (
      open_still bytes turned false (left d0) refl (refl, inl (all_of bytes)),
      open_still bytes turned false (left (MadeNext (new_file turned) false ∷ d0)) refl (refl, inl (all_of bytes)),
      (
        open_still bytes turned false (left d1) refl (refl, inl (all_of bytes)),
        open_still bytes turned false (left (KeptEnd place false ∷ d1)) refl (refl, inl (all_of bytes)),
        (
          open_still bytes turned false (left d2) refl (refl, inl (all_of bytes)),
          open_still bytes turned false (left (Cut place false ∷ d2)) refl (refl, inl (front_of place bytes)),
          end_moments bytes turned false d3 refl (front_of place bytes) refl refl refl,
        ),
      ),
    )

pub one_or_the_other : (bytes : List ℕ) (turned : Turned) (before now : List Deed) → IsFollowed (closing_plan bytes turned) (Found bytes ∷ before) now → IsOneOrTheOther bytes turned (left now)
one_or_the_other bytes turned before now followed =
    let untorn : Bool = turned.kept == length (part_in bytes).log in
    at_each_moment (Fine bytes turned untorn) (plan_by bytes turned untorn) (Found bytes ∷ before) now (moments untorn bytes turned before) followed
