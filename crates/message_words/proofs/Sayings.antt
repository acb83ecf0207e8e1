-- What is found of a message, one finding after the other.
use Rattle.std.proofs.Common.{◌≡◌, ℕ, Bool, true, false, List, [], ◌∷◌, ◌++◌, Option, refl, sym, ap, ◌∙◌}
use Rattle.std.proofs.lemmas.List.{append_assoc, append-nil}
use Rattle.std.proofs.lemmas.Bool.{false≢true}
use Rattle.message_words.specs.declared.finding_page.FindingPage.{FindingPage}
use Rattle.message_words.specs.declared.page.Style.{Style}
use Rattle.message_words.specs.declared.text.Text.{Text}
use Rattle.message_words.specs.Sayings.{Begins, Finds, Said, all_said, finding_text, said_text, says, started_with, within_words}
use Rattle.message_words.specs.Written.{Takes}

-- ---- one finding

-- one that was put together of its members, its words and what stands below it, where those hang on the bytes around a fault
pub one_below : (name m w d m' d' : List ℕ) (o b e : FindingPage) (ms ws rs ds : Text) → Begins o b
    → (rs.refused ≡ false → (b.around.refused ≡ false) × (m' ≡ m) × (d' ≡ d)) → Takes m' b.members ms → Takes w b.note ws → Takes d' b.below ds
    → Takes (finding_text b.style b.started b.within name ms.bytes.items ws.bytes.items ds.bytes.items) b.out e.out
    → e ≡ record b { members = ms; note = ws; around = rs; below = ds; out = e.out; started = true }
    → Finds (record { name = name; members = m; words = w; below = d } ∷ []) o e
one_below name m w d m' d' o b e ms ws rs ds begins shown tm tw td te same = λ taken.
    let x = tw (sym (ap (λ (f : FindingPage). f.note.refused) same) ∙ taken.note) in
    let y = tm (sym (ap (λ (f : FindingPage). f.members.refused) same) ∙ taken.members) in
    let v = td (sym (ap (λ (f : FindingPage). f.below.refused) same) ∙ taken.below) in
    let u = shown (sym (ap (λ (f : FindingPage). f.around.refused) same) ∙ taken.around) in
    let z = te taken.out in
    let first = begins.note x.0 in
    let all : ws.bytes.items ≡ within_words o.within ++ w = x.1 ∙ ap (λ (bs : List ℕ). bs ++ w) first.1 in
    let whole : ms.bytes.items ≡ m = y.1 ∙ ap (λ (bs : List ℕ). bs ++ m') begins.members ∙ u.1 in
    let under : ds.bytes.items ≡ d = v.1 ∙ ap (λ (bs : List ℕ). bs ++ d') begins.below ∙ u.2 in
    let style : b.style ≡ o.style = ap (λ (f : FindingPage). f.style) begins.same in
    let started : b.started ≡ o.started = ap (λ (f : FindingPage). f.started) begins.same in
    let within : b.within ≡ o.within = ap (λ (f : FindingPage). f.within) begins.same in
    let out : b.out ≡ o.out = ap (λ (f : FindingPage). f.out) begins.same in
    record {
      was = record {
        out = sym (ap (λ (t : Text). t.refused) out) ∙ z.0;
        note = first.0;
        members = sym begins.members_refused ∙ y.0;
        around = sym (ap (λ (f : FindingPage). f.around.refused) begins.same) ∙ u.0;
        below = sym begins.below_refused ∙ v.0;
      };
      text = z.1 ∙ (λ i. (out i).bytes.items ++ finding_text (style i) (started i) (within i) name (whole i) (all i) (under i))
          ∙ ap (λ (bs : List ℕ). o.out.bytes.items ++ bs) (sym (append-nil (finding_text o.style o.started o.within name m (within_words o.within ++ w) d)));
      started = ap (λ (f : FindingPage). f.started) same;
      style = ap (λ (f : FindingPage). f.style) same ∙ style;
      within = ap (λ (f : FindingPage). f.within) same ∙ within;
    }

-- one that has nothing below it
pub one_said : (name m w : List ℕ) (o b e : FindingPage) (ms ws : Text) → Begins o b → Takes m b.members ms → Takes w b.note ws
    → Takes (finding_text b.style b.started b.within name ms.bytes.items ws.bytes.items b.below.bytes.items) b.out e.out
    → e ≡ record b { members = ms; note = ws; out = e.out; started = true } → Finds (says name m w ∷ []) o e
one_said name m w o b e ms ws begins tm tw te same =
    one_below name m w [] m [] o b e ms ws b.around b.below begins (λ r. (r, refl, refl)) tm tw (λ r. (r, sym (append-nil b.below.bytes.items))) te same

-- ---- none, and several

pub none_said : (o : FindingPage) → Finds [] o o
none_said o = λ taken. record { was = taken; text = sym (append-nil o.out.bytes.items); started = refl; style = refl; within = refl }

-- where memory was refused, nothing is claimed
pub refused : (found : List Said) (o n : FindingPage) → n.note.refused ≡ true → Finds found o n
refused found o n r = λ taken. absurd (false≢true (sym taken.note ∙ r))

started_true : (ys : List Said) → started_with true ys ≡ true
started_true [] = refl
started_true (y ∷ ys) = refl

started_append : (s : Bool) (xs ys : List Said) → started_with (started_with s xs) ys ≡ started_with s (xs ++ ys)
started_append s [] ys = refl
started_append s (x ∷ xs) ys = started_true ys

said_append : (style : Style) (started : Bool) (within : Option ℕ) (xs ys : List Said)
    → all_said style started within (xs ++ ys) ≡ all_said style started within xs ++ all_said style (started_with started xs) within ys
said_append style started within [] ys = refl
said_append style started within (x ∷ xs) ys =
    let first : List ℕ = said_text style started within x in
    ap (λ (bs : List ℕ). first ++ bs) (said_append style true within xs ys)
    ∙ ap (λ s. first ++ (all_said style true within xs ++ all_said style s within ys)) (started_true xs)
    ∙ sym (append_assoc first (all_said style true within xs) (all_said style true within ys))

pub both_said : (xs ys : List Said) (a b c : FindingPage) → Finds xs a b → Finds ys b c → Finds (xs ++ ys) a c
both_said xs ys a b c p q = λ taken.
    let y = q taken in
    let x = p y.was in
    record {
      was = x.was;
      text = y.text ∙ (λ i. x.text i ++ all_said (x.style i) (x.started i) (x.within i) ys)
          ∙ append_assoc a.out.bytes.items (all_said a.style a.started a.within xs) (all_said a.style (started_with a.started xs) a.within ys)
          ∙ ap (λ (bs : List ℕ). a.out.bytes.items ++ bs) (sym (said_append a.style a.started a.within xs ys));
      started = y.started ∙ ap (λ s. started_with s ys) x.started ∙ started_append a.started xs ys;
      style = y.style ∙ x.style;
      within = y.within ∙ x.within;
    }
