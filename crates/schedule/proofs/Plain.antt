-- Events of which none is an adjudication or a change of terms, of a rule of retries or of a cap are spelled by the same lines where nodes do not live.
use Rattle.std.proofs.Common.{◌≡◌, ℕ, Bool, true, false, cond, List, [], ◌∷◌, Option, Some, None, Result, Ok, Err, refl, sym, ap, ◌∙◌}
use Rattle.std.specs.Prelude.{bytes_eq, codes}
use Rattle.std.specs.Result.{result_ok}
use Rattle.std.proofs.lemmas.Bool.{and_parts}
use Rattle.input_text.specs.Options.{◌>>=◌}
use Rattle.input_text.specs.Words.{split_word}
use Rattle.input_text.specs.Decimals.{decimal_number}
use Rattle.input_text.specs.Printing.{unprinted}
use Rattle.world_setup.specs.declared.event.Event.{Event}
use Rattle.world_setup.specs.declared.event.Event.TheVariants.{Terms, Retry, Cap, Adjudicate}
use Rattle.schedule.specs.Nodes.{pharmacy_in, switch_in, payer_in}
use Rattle.schedule.specs.Switches.{switches_in}
use Rattle.schedule.specs.Events.{event_with, event_of, adjudication, cents_in, terms_change, rule_change, cap_in, cap_change, living_event_with, living_event_of, has_no_advice, have_no_advice}
use Rattle.schedule.specs.Reading.{NumberedLine, told_lines, spelled_in}
use Rattle.schedule.proofs.EventLists.{joined, first_taken, first_bad, no_lines}

-- what stands after `adjudicate` is no other event
advised_by : (packet : ℕ) (text : Option (List ℕ)) (e : Event) → (text >>= (λ advice. Some (Adjudicate packet advice))) ≡ Some e → has_no_advice e ≡ true → ⊥
advised_by packet None e is plain = absurd cc
advised_by packet (Some advice) e is plain =
    let same : Adjudicate packet advice ≡ e = cc in
    let wrong : false ≡ true = ap has_no_advice same ∙ plain in
    absurd cc

of_packet : (packet : Option ℕ) (text : Option (List ℕ)) (e : Event) → (packet >>= (λ number. text >>= (λ advice. Some (Adjudicate number advice)))) ≡ Some e → has_no_advice e ≡ true → ⊥
of_packet None text e is plain = absurd cc
of_packet (Some packet) text e is plain = advised_by packet text e is plain

behind_word : (parts : Option (List ℕ × List ℕ)) (e : Event) → (parts >>= (λ p. decimal_number 18 p.0 >>= (λ number. result_ok (unprinted p.1) >>= (λ advice. Some (Adjudicate number advice))))) ≡ Some e → has_no_advice e ≡ true → ⊥
behind_word None e is plain = absurd cc
behind_word (Some p) e is plain = of_packet (decimal_number 18 p.0) (result_ok (unprinted p.1)) e is plain

adjudicated : (rest : List ℕ) (e : Event) → adjudication rest ≡ Some e → has_no_advice e ≡ true → ⊥
unfolding adjudication
adjudicated rest e is plain = behind_word (split_word rest) e is plain

-- nor is what stands after `terms`
behind : {A : Type 0} (o : Option A) (f : A → Option Event) (e : Event) → (o >>= f) ≡ Some e → ((a : A) → f a ≡ Some e → ⊥) → ⊥
behind None f e is none = absurd cc
behind (Some a) f e is none = none a is

of_terms : (payer fee copay : ℕ) (e : Event) → ◌≡◌ {A = Option Event} (Some (Terms payer fee copay)) (Some e) → has_no_advice e ≡ true → ⊥
of_terms payer fee copay e is plain =
    let same : Terms payer fee copay ≡ e = cc in
    let wrong : false ≡ true = ap has_no_advice same ∙ plain in
    absurd cc

retermed : (rest : List ℕ) (e : Event) → terms_change rest ≡ Some e → has_no_advice e ≡ true → ⊥
unfolding terms_change
retermed rest e is plain =
    behind (split_word rest) _ e is (λ p named. behind (payer_in p.0) _ e named (λ payer worded. behind (split_word p.1) _ e worded
    (λ words first. behind (cents_in words.0) _ e first (λ fee second. behind (cents_in words.1) _ e second (λ copay last. of_terms payer fee copay e last plain)))))

-- nor is what stands after `retry`
of_rule : (pharmacy : ℕ) (nodes : List ℕ) (again tries : ℕ) (e : Event) → ◌≡◌ {A = Option Event} (Some (Retry pharmacy nodes again tries)) (Some e) → has_no_advice e ≡ true → ⊥
of_rule pharmacy nodes again tries e is plain =
    let same : Retry pharmacy nodes again tries ≡ e = cc in
    let wrong : false ≡ true = ap has_no_advice same ∙ plain in
    absurd cc

reruled : (rest : List ℕ) (e : Event) → rule_change rest ≡ Some e → has_no_advice e ≡ true → ⊥
unfolding rule_change
reruled rest e is plain =
    behind (split_word rest) _ e is (λ p named. behind (pharmacy_in p.0) _ e named (λ pharmacy worded. behind (split_word p.1) _ e worded
    (λ words listed. behind (switches_in words.0) _ e listed (λ nodes numbered. behind (split_word words.1) _ e numbered
    (λ numbers first. behind (cents_in numbers.0) _ e first (λ again second. behind (cents_in numbers.1) _ e second (λ tries last. of_rule pharmacy nodes again tries e last plain)))))))

-- nor is what stands after `cap`
of_cap : (switch cap : ℕ) (e : Event) → ◌≡◌ {A = Option Event} (Some (Cap switch cap)) (Some e) → has_no_advice e ≡ true → ⊥
of_cap switch cap e is plain =
    let same : Cap switch cap ≡ e = cc in
    let wrong : false ≡ true = ap has_no_advice same ∙ plain in
    absurd cc

recapped : (rest : List ℕ) (e : Event) → cap_change rest ≡ Some e → has_no_advice e ≡ true → ⊥
unfolding cap_change
recapped rest e is plain =
    behind (split_word rest) _ e is (λ p named. behind (switch_in p.0) _ e named (λ switch worded. behind (cap_in p.1) _ e worded (λ cap last. of_cap switch cap e last plain)))

by_cap : (word rest : List ℕ) (e : Event) (b : Bool) → bytes_eq word (codes "cap") ≡ b → cond (bytes_eq word (codes "cap")) (cap_change rest) (event_with word rest) ≡ Some e → has_no_advice e ≡ true → event_with word rest ≡ Some e
by_cap word rest e true same is plain = absurd (recapped rest e (sym (rw same refl) ∙ is) plain)
by_cap word rest e false same is plain = sym (rw same refl) ∙ is

by_rule : (word rest : List ℕ) (e : Event) (b : Bool) → bytes_eq word (codes "retry") ≡ b → cond (bytes_eq word (codes "retry")) (rule_change rest) (cond (bytes_eq word (codes "cap")) (cap_change rest) (event_with word rest)) ≡ Some e
    → has_no_advice e ≡ true → event_with word rest ≡ Some e
by_rule word rest e true same is plain = absurd (reruled rest e (sym (rw same refl) ∙ is) plain)
by_rule word rest e false same is plain = by_cap word rest e (bytes_eq word (codes "cap")) refl (sym (rw same refl) ∙ is) plain

by_terms : (word rest : List ℕ) (e : Event) (b : Bool) → bytes_eq word (codes "terms") ≡ b
    → cond (bytes_eq word (codes "terms")) (terms_change rest) (cond (bytes_eq word (codes "retry")) (rule_change rest) (cond (bytes_eq word (codes "cap")) (cap_change rest) (event_with word rest))) ≡ Some e → has_no_advice e ≡ true
    → event_with word rest ≡ Some e
by_terms word rest e true same is plain = absurd (retermed rest e (sym (rw same refl) ∙ is) plain)
by_terms word rest e false same is plain = by_rule word rest e (bytes_eq word (codes "retry")) refl (sym (rw same refl) ∙ is) plain

by_word : (word rest : List ℕ) (e : Event) (b : Bool) → bytes_eq word (codes "adjudicate") ≡ b → living_event_with word rest ≡ Some e → has_no_advice e ≡ true → event_with word rest ≡ Some e
by_word word rest e true same is plain = absurd (adjudicated rest e (sym (rw same refl) ∙ is) plain)
by_word word rest e false same is plain = by_terms word rest e (bytes_eq word (codes "terms")) refl (sym (rw same refl) ∙ is) plain

by_parts : (parts : Option (List ℕ × List ℕ)) (e : Event) → (parts >>= (λ p. living_event_with p.0 p.1)) ≡ Some e → has_no_advice e ≡ true → (parts >>= (λ p. event_with p.0 p.1)) ≡ Some e
by_parts None e is plain = absurd cc
by_parts (Some p) e is plain = by_word p.0 p.1 e (bytes_eq p.0 (codes "adjudicate")) refl is plain

line_alike : (line : List ℕ) (e : Event) → living_event_of line ≡ Some e → has_no_advice e ≡ true → event_of line ≡ Some e
unfolding living_event_of event_of
line_alike line e is plain = by_parts (split_word line) e is plain

joined_ok : (e : Event) (rest : Result (List Event) ℕ) (es : List Event) → joined (e ∷ []) rest ≡ Ok es → (more : List Event) × (rest ≡ Ok more) × (es ≡ e ∷ more)
joined_ok e (Ok more) es is = let same : e ∷ more ≡ es = cc in (more, refl, sym same)
joined_ok e (Err number) es is = absurd cc

abbrev Alike : List NumberedLine → List Event → Type 0
Alike lines es = spelled_in living_event_of lines ≡ Ok es → have_no_advice es ≡ true → spelled_in event_of lines ≡ Ok es

one_line : (l : NumberedLine) (lines : List NumberedLine) (es : List Event) (o : Option Event) → ((more : List Event) → Alike lines more) → living_event_of l.1 ≡ o → spelled_in living_event_of (l ∷ lines) ≡ Ok es → have_no_advice es ≡ true → spelled_in event_of (l ∷ lines) ≡ Ok es
one_line l lines es None later spells is plain =
    let wrong : ◌≡◌ {A = Result (List Event) ℕ} (Err l.0) (Ok es) = sym (first_bad living_event_of l lines spells) ∙ is in
    absurd cc
one_line l lines es (Some e) later spells is plain =
    let found = joined_ok e (spelled_in living_event_of lines) es (sym (first_taken living_event_of l lines e spells) ∙ is) in
    let tests = and_parts (has_no_advice e) (have_no_advice found.0) (sym (ap have_no_advice found.2) ∙ plain) in
    first_taken event_of l lines e (line_alike l.1 e spells tests.0)
    ∙ (ap (joined (e ∷ [])) (later found.0 found.1 tests.1) ∙ ap (λ (xs : List Event). Ok xs) (sym found.2))

lines_alike : (lines : List NumberedLine) (es : List Event) → Alike lines es
lines_alike [] es is plain = no_lines event_of ∙ (sym (no_lines living_event_of) ∙ is)
lines_alike (l ∷ lines) es is plain = one_line l lines es (living_event_of l.1) (lines_alike lines) refl is plain

pub plain_lines : (lines : List NumberedLine) (es : List Event) → spelled_in living_event_of (told_lines lines) ≡ Ok es → have_no_advice es ≡ true → spelled_in event_of (told_lines lines) ≡ Ok es
plain_lines lines es is plain = lines_alike (told_lines lines) es is plain
