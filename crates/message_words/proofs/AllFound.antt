-- All that is found of a message, group by group.
use Rattle.std.proofs.Common.{ℕ, List, [], ◌∷◌, ◌++◌, Option, refl, sym, ap, ◌∙◌}
use Rattle.std.proofs.lemmas.List.{append_assoc, append-nil}
use Rattle.message_words.specs.declared.finding_page.FindingPage.{FindingPage}
use Rattle.message_words.specs.AllFound.{FindsGroups, Group, groups_started, groups_text}
use Rattle.message_words.specs.Sayings.{Finds, Said, all_said, started_with}

-- what is found of one transmission, of which the place is noted
pub group_found : (a b : FindingPage) (within : Option ℕ) (found : List Said) → Finds found (record a { within = within }) b → FindsGroups ((within, found) ∷ []) a b
group_found a b within found finds = λ taken.
    let x = finds taken in
    record {
      was = record { out = x.was.out; note = x.was.note; members = x.was.members; around = x.was.around; below = x.was.below };
      text = x.text ∙ ap (λ (bs : List ℕ). a.out.bytes.items ++ bs) (sym (append-nil (all_said a.style a.started within found)));
      started = x.started;
      style = x.style;
    }

pub no_groups : (a : FindingPage) → FindsGroups [] a a
no_groups a = λ taken. record { was = taken; text = sym (append-nil a.out.bytes.items); started = refl; style = refl }

-- and then what is found of others
pub groups_more : (g : Group) (gs : List Group) (a b c : FindingPage) → FindsGroups (g ∷ []) a b → FindsGroups gs b c → FindsGroups (g ∷ gs) a c
groups_more g gs a b c p q = λ taken.
    let y = q taken in
    let x = p y.was in
    let first : List ℕ = all_said a.style a.started g.0 g.1 in
    record {
      was = x.was;
      text = y.text ∙ (λ i. x.text i ++ groups_text (x.style i) (x.started i) gs)
          ∙ ap (λ (bs : List ℕ). (a.out.bytes.items ++ bs) ++ groups_text a.style (started_with a.started g.1) gs) (append-nil first)
          ∙ append_assoc a.out.bytes.items first (groups_text a.style (started_with a.started g.1) gs);
      started = y.started ∙ ap (λ s. groups_started s gs) x.started;
      style = y.style ∙ x.style;
    }
