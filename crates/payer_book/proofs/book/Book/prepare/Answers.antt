use Rattle.std.proofs.Common.{◌≡◌, ℕ, ◌≤◌, cond, List, [], length, Option, true, false, Bool, Some, None, inl, inr, refl, sym, ap, ◌∙◌, subst, arith}
use Rattle.std.specs.List.{list_all, AllByRecursion}
use Rattle.std.specs.Option.{option_copied}
use Rattle.std.proofs.lemmas.Result.{err_from_is_err_and}
use Rattle.bin_routes.specs.Table.{routes_of}
use Rattle.d0_header.specs.Request.{Request}
use Rattle.d0_segments.specs.FramedParts.{framed_parts}
use Rattle.claim_profile.specs.declared.ruling.HeaderStatus.TheVariants.{Accepted}
use Rattle.claim_profile.specs.Answer.{AreWritable, answer_text}
use Rattle.claim_profile.specs.Readable.{readable_header}
use Rattle.carried_fields.specs.Repeating.{repeating_text}
use Rattle.carried_fields.specs.Carrying.{carrying_text, kept_text}
use Rattle.claim_model.specs.Words.{Ruling, Plan}
use Rattle.claim_model.specs.Laws.{IsRuling}
use Rattle.claim_model.specs.Bytes.{orders_in, kept_under, repeated_under, bytes_with}
use Rattle.claim_model.specs.Rows.{Row, Book}
use Rattle.claim_model.specs.Book.{serial_fits, has_verdicts, carries_more}
use Rattle.payer_book.proofs.Entered.{has_verdicts_on}
use Rattle.claim_model.proofs.BytesLaws.{readable_alike}
use Rattle.payer_book.specs.Changes.{changes_by}
use Rattle.payer_book.specs.Drafts.{Pricing, pricing, pricing_of, Suits, rulings_on, all_advised_on}
use Rattle.payer_book.specs.Books.{reading}
use Rattle.payer_book.specs.Added.{kept_answer, kept_rulings, carried_in, row_saying, with_row, with_kept}
use Rattle.payer_book.specs.Origins.{repeated_in, given_or, text_said}
use Rattle.payer_book.specs.Entries.{with_plan, rulings_by, row_with_said, IsEntry}
use Rattle.payer_book.specs.Kept.{IsAnswered, carried_of}
use Rattle.payer_book.proofs.RulingLemmas.{rulings_writable, length_rulings}
use Rattle.payer_book.proofs.Keeping.{rulings_by_on, kept_again}
use Rattle.payer_book.proofs.Tellable.{rulings_told, prices_fit}
use Rattle.payer_book.proofs.Grown.{row_stands}
use Rattle.payer_book.proofs.Carried.{kept_where}
use Rattle.payer_book.proofs.book.Book.prepare.Goals as goal
use Rattle.payer_book.proofs.book.Book.prepare.Goals.{After-rule_all, In_ok-rule_all, After-as_slice-rulings, After-copy_of}

-- the book that was opened
abbrev opened : (c : After-rule_all) → Book
opened c = record { payer = c.self.inside.payer; settings = c.self.inside.settings; plan = c.self.inside.plan; rows = c.self.inside.rows }

same_orders : (c : After-rule_all) → orders_in (Some (framed_parts c.args.framed.now)) ≡ reading.orders c.args.request.now
same_orders c = ap orders_in (sym c.requires.parts)

-- its prices suit it
suits : (c : After-rule_all) → Suits (pricing c.args.prices) c.self.inside.settings
suits c = subst (λ (b : Book). Suits (pricing c.args.prices) b.settings) (sym c.self.view_is) c.requires.suits

ruled : (c : In_ok-rule_all) → c.rule_all.new.draft.rulings.items ≡ rulings_on c.self.inside.payments (pricing c.args.prices) [] (reading.orders c.args.request.now)
ruled c = c.in_ok-rule_all.ensures.made.ruled ∙ ap (rulings_on c.self.inside.payments (pricing c.args.prices) []) (ap orders_in (sym c.requires.parts))

pub returns-in_err-rule_all-clause-fault : goal.returns-in_err-rule_all-clause-fault
returns-in_err-rule_all-clause-fault c =
    let d = (goal.at.returns-in_err-rule_all-clause-fault c).After-rule_all in
    let p = err_from_is_err_and c.from_residual.result c.from_residual.ensures.1 in
    let same = ap (rulings_on c.self.inside.payments (pricing c.args.prices) []) (sym (same_orders d)) in
    rw (p.1, p.2)
    (elim c.in_err-rule_all.ensures.fault [
      | inl e ↦ inl e
      | inr e ↦ inr (
        e.0,
        subst (λ (b : Book). list_all serial_fits (rulings_by (pricing c.args.prices) b c.args.id c.args.request.now) ≡ false) c.self.view_is
            (ap (list_all serial_fits) (rulings_by_on (opened d) c.self.inside.payments c.self.invariant.0 c.args.id c.args.request.now (pricing c.args.prices) (suits d) ∙ same) ∙ e.1),
      )
    ])

-- the rulings that are read are those of the draft
read_rulings : (c : After-as_slice-rulings) → c.as_slice-rulings.result.now ≡ rulings_on c.self.inside.payments (pricing c.args.prices) [] (reading.orders c.args.request.now)
read_rulings c = c.as_slice-rulings.ensures.value ∙ (c.in_ok-rule_all.ensures.made.ruled ∙ ap (rulings_on c.self.inside.payments (pricing c.args.prices) []) (ap orders_in (sym c.requires.parts)))

-- there is one for each group
as_many : (c : After-as_slice-rulings) → length c.as_slice-rulings.result.now ≡ c.header-header.result.now.count
as_many c =
    ap (λ (rs : List Ruling). length rs) (read_rulings c)
    ∙ (length_rulings c.self.inside.payments (pricing c.args.prices) [] (reading.orders c.args.request.now)
    ∙ (c.orders_of_requests.ensures.groups (routes_of []) c.args.request.now c.args.framed.now.header (readable_alike (routes_of []) c.args.request.now ∙ c.requires.readable)
    ∙ ap (λ (h : Request). h.count) (sym c.header-header.ensures)))

-- and each can be written
can_write : (c : After-as_slice-rulings) → AreWritable Accepted c.as_slice-rulings.result.now
can_write c =
    subst (AreWritable Accepted) (sym (read_rulings c))
    (rulings_writable c.self.inside.payments (pricing c.args.prices) [] c.args.framed.now.header (reading.orders c.args.request.now)
    (c.orders_of_requests.ensures.orders (routes_of []) c.args.request.now c.args.framed.now.header (readable_alike (routes_of []) c.args.request.now ∙ c.requires.readable)))

pub repeating_unless-requires-clause-count : goal.repeating_unless-requires-clause-count
repeating_unless-requires-clause-count c = as_many (goal.at.repeating_unless-requires-clause-count c).After-as_slice-rulings

pub repeating_unless-requires-clause-writable : goal.repeating_unless-requires-clause-writable
repeating_unless-requires-clause-writable c = can_write (goal.at.repeating_unless-requires-clause-writable c).After-as_slice-rulings

pub write_into-requires-clause-count : goal.write_into-requires-clause-count
write_into-requires-clause-count c = as_many (goal.at.write_into-requires-clause-count c).After-as_slice-rulings

pub write_into-requires-clause-writable : goal.write_into-requires-clause-writable
write_into-requires-clause-writable c = can_write (goal.at.write_into-requires-clause-writable c).After-as_slice-rulings

ruled_new : (c : After-copy_of) → c.rule_all.new.draft.rulings.items ≡ rulings_on c.self.inside.payments (pricing c.args.prices) [] (reading.orders c.args.request.now)
ruled_new c = c.in_ok-rule_all.ensures.made.ruled ∙ ap (rulings_on c.self.inside.payments (pricing c.args.prices) []) (ap orders_in (sym c.requires.parts))

suits_new : (c : After-copy_of) → Suits (pricing c.args.prices) c.self.inside.settings
suits_new c = subst (λ (b : Book). Suits (pricing c.args.prices) b.settings) (sym c.self.view_is) c.requires.suits

-- the rulings of the new row are those of its request at these prices
by_prices : (c : After-copy_of) → c.rule_all.new.draft.rulings.items ≡ rulings_by (pricing c.args.prices) c.args.self.now c.args.id c.args.request.now
by_prices c =
    let b : Book = record { payer = c.self.inside.payer; settings = c.self.inside.settings; plan = c.self.inside.plan; rows = c.self.inside.rows } in
    subst (λ (q : Book). c.rule_all.new.draft.rulings.items ≡ rulings_by (pricing c.args.prices) q c.args.id c.args.request.now) c.self.view_is
    (ruled_new c ∙ sym (rulings_by_on b c.self.inside.payments c.self.invariant.0 c.args.id c.args.request.now (pricing c.args.prices) (suits_new c)))

-- which are those that the rules give again
made_again : (c : After-copy_of) → c.rule_all.new.draft.rulings.items ≡ kept_rulings c.args.self.now c.args.id c.args.request.now c.rule_all.new.draft.rulings.items
made_again c =
    let b : Book = record { payer = c.self.inside.payer; settings = c.self.inside.settings; plan = c.self.inside.plan; rows = c.self.inside.rows } in
    let rulings = c.rule_all.new.draft.rulings.items in
    subst (λ (q : Book). rulings ≡ kept_rulings q c.args.id c.args.request.now rulings) c.self.view_is
    (kept_again b c.self.inside.payments c.self.invariant.0 c.args.id c.args.request.now (pricing c.args.prices) rulings (suits_new c) (ruled_new c))

fits : (c : After-copy_of) → list_all serial_fits c.rule_all.new.draft.rulings.items ≡ true
fits c = c.in_ok-rule_all.ensures.made.fit

-- an answer can tell of each ruling
all_told : (c : After-copy_of) → AllByRecursion IsRuling c.rule_all.new.draft.rulings.items
all_told c =
    let l = c.self.inside.payments in
    let orders = reading.orders c.args.request.now in
    let h = c.args.framed.now.header in
    let prices = pricing c.args.prices in
    let reads = readable_alike (routes_of []) c.args.request.now ∙ c.requires.readable in
    let payer = c.self.invariant.0.of_payer in
    let serial : 1 ≤ l.first = omega (arith, c.self.invariant.0.from_serial, c.self.invariant.1.some_serial) in
    let some_payer : 1 ≤ l.payer = omega (arith, payer, c.self.invariant.1.some_payer) in
    let payer_fits : l.payer ≤ 9999 = omega (arith, payer, c.self.invariant.1.payer_fits) in
    subst (AllByRecursion IsRuling) (sym (ruled_new c))
    (rulings_told l prices h some_payer payer_fits serial (prices_fit (c.orders_of_requests.ensures.prices (routes_of [])) h prices c.requires.prices) [] orders c.self.invariant.1.told
    (c.orders_of_requests.ensures.orders (routes_of []) c.args.request.now h reads) (ap (list_all serial_fits) (sym (ruled_new c)) ∙ fits c))

-- the text of which its answer carries
abbrev said_text : (c : After-copy_of) → List ℕ
said_text c = text_said c.args.self.now c.args.request.now c.rule_all.new.draft.rulings.items (option_copied c.args.said)

-- the row of these rulings, and of what its answer carries
abbrev made_row : (c : After-copy_of) → Row
made_row c = row_saying c.args.self.now c.args.id c.args.request.now c.rule_all.new.draft.rulings.items (said_text c)

-- so the row can be added
stands_again : (c : After-copy_of) (plan : Plan) → with_kept (with_plan c.args.self.now plan) c.args.id c.args.request.now (kept_answer (made_row c)) ≡ Some (with_row (with_plan c.args.self.now plan) (made_row c))
stands_again c =
    let h = c.args.framed.now.header in
    let count : length c.rule_all.new.draft.rulings.items ≡ h.count =
    ap (λ (rs : List Ruling). length rs) (ruled_new c)
    ∙ (length_rulings c.self.inside.payments (pricing c.args.prices) [] (reading.orders c.args.request.now)
    ∙ c.orders_of_requests.ensures.groups (routes_of []) c.args.request.now h (readable_alike (routes_of []) c.args.request.now ∙ c.requires.readable)) in
    row_stands c.bytes_keep_laws.ensures c.args.self.now (made_row c) h c.requires.readable count (all_told c) (made_again c) (fits c) (said_text c) refl

-- the entry of that row
is_entry : (c : After-copy_of) → IsEntry c.args.self.now (made_row c) c.rule_all.new.draft.changes.items
is_entry c = record {
  ruled = made_again c;
  fit = fits c;
  changed = c.in_ok-rule_all.ensures.made.changed ∙ ap (λ os. changes_by os c.rule_all.new.draft.rulings.items) (ap orders_in (sym c.requires.parts));
  told = all_told c;
  carried = (said_text c, refl);
  stands = stands_again c;
}

-- what is repeated is what the model has
repeated_is : (c : After-copy_of) (b : Bool) (o : Option (List ℕ)) → carries_more c.args.self.now.settings ≡ b → option_copied c.args.said ≡ o
    → cond b (kept_under (readable_header c.args.request.now) c.rule_all.new.draft.rulings.items (given_or o c.in_ok-repeated.repeated.items)) []
    ≡ cond b (kept_under (readable_header c.args.request.now) c.rule_all.new.draft.rulings.items (text_said c.args.self.now c.args.request.now c.rule_all.new.draft.rulings.items o)) []
repeated_is c false o carries given = refl
repeated_is c true (Some text) carries given = refl
repeated_is c true None carries given =
    let h = c.args.framed.now.header in
    let rulings = c.rule_all.new.draft.rulings.items in
    let b = c.args.self.now in
    ap (λ (t : List ℕ). kept_under (readable_header c.args.request.now) rulings t)
    (c.in_ok-repeated.ensures carries given
    ∙ (ap (λ (x : Request). repeating_text (answer_text x Accepted c.as_slice-rulings.result.now) (repeated_in b c.as_slice-rulings.result.now)) c.header-header.ensures
    ∙ (ap (λ (rs : List Ruling). repeating_text (answer_text h Accepted rs) (repeated_in b rs)) c.as_slice-rulings.ensures.value
    ∙ ap (λ (x : Option Request). repeated_under x rulings (repeated_in b rulings)) (sym c.requires.readable))))

-- what the answer carries is what the row of the model has
heard_is : (c : After-copy_of) → carried_of c.in_ok-carries.carries c.write_into.new.text.items ≡ carried_in c.args.self.now c.args.request.now c.rule_all.new.draft.rulings.items (said_text c)
heard_is c =
    let h = c.args.framed.now.header in
    let rulings = c.rule_all.new.draft.rulings.items in
    c.in_ok-carries.ensures.kept
    ∙ (ap (λ (x : Request). kept_text x Accepted c.as_slice-rulings.result.now c.heard-heard.result.now) c.header-header.ensures
    ∙ (ap (λ (rs : List Ruling). kept_text h Accepted rs c.heard-heard.result.now) c.as_slice-rulings.ensures.value
    ∙ (ap (kept_text h Accepted rulings) c.heard-heard.ensures
    ∙ (ap (λ (t : List ℕ). kept_text h Accepted rulings (cond (carries_more c.args.self.now.settings) (given_or (option_copied c.args.said) t) [])) c.as_slice.ensures.value
    ∙ (kept_where c.carrying_laws.ensures.plain h Accepted rulings (given_or (option_copied c.args.said) c.in_ok-repeated.repeated.items) (carries_more c.args.self.now.settings)
    ∙ (ap (λ (o : Option Request). cond (carries_more c.args.self.now.settings) (kept_under o rulings (given_or (option_copied c.args.said) c.in_ok-repeated.repeated.items)) []) (sym c.requires.readable)
    ∙ repeated_is c (carries_more c.args.self.now.settings) (option_copied c.args.said) refl refl))))))

pub returns-clause-made : goal.returns-clause-made
returns-clause-made c =
    let d = (goal.at.returns-clause-made c).After-copy_of in
    let carried : carried_of c.in_ok-carries.carries c.as_slice-2.result.now ≡ carried_in c.args.self.now c.args.request.now c.rule_all.new.draft.rulings.items (said_text d) =
    ap (carried_of c.in_ok-carries.carries) c.as_slice-2.ensures.value ∙ heard_is d in
    let is : c.in_ok-copy_of.field-0 ≡ made_row d =
    c.in_ok-copy_of.ensures
    ∙ (ap (λ (rs : List Ruling). let r : Row = record { id = c.args.id; request = c.args.request.now; rulings = rs; carried = carried_of c.in_ok-carries.carries c.as_slice-2.result.now } in r) c.as_slice-rulings.ensures.value
    ∙ ap (λ (t : List ℕ). let r : Row = record { id = c.args.id; request = c.args.request.now; rulings = c.rule_all.new.draft.rulings.items; carried = t } in r) carried) in (
      subst (λ (r : Row). IsEntry c.args.self.now r c.rule_all.new.draft.changes.items) (sym is) (is_entry d),
      is ∙ ap (λ (rs : List Ruling). row_with_said c.args.self.now c.args.id c.args.request.now rs (option_copied c.args.said)) (by_prices d),
    )

pub returns-clause-advised : goal.returns-clause-advised
returns-clause-advised c = λ advice own.
    let b : Book = record { payer = c.self.inside.payer; settings = c.self.inside.settings; plan = c.self.inside.plan; rows = c.self.inside.rows } in
    let l = c.self.inside.payments in
    let is : pricing c.args.prices ≡ pricing_of b advice = subst (λ (q : Book). pricing c.args.prices ≡ pricing_of q advice) (sym c.self.view_is) own in
    let draft : c.rule_all.new.draft.advised ≡ all_advised_on l (pricing c.args.prices) [] (reading.orders c.args.request.now) =
    c.in_ok-rule_all.ensures.made.advised ∙ ap (all_advised_on l (pricing c.args.prices) []) (ap orders_in (sym c.requires.parts)) in
    subst (λ (q : Book). c.rule_all.new.draft.advised ≡ has_verdicts (bytes_with (routes_of [])) q advice c.args.id c.args.request.now) c.self.view_is
    (draft ∙ (ap (λ (p : Pricing). all_advised_on l p [] (reading.orders c.args.request.now)) is ∙ has_verdicts_on (routes_of []) b l c.self.invariant.0 advice c.args.id c.args.request.now))

-- an answer can tell of each ruling of the draft
draft_told : (c : In_ok-rule_all) → AllByRecursion IsRuling c.rule_all.new.draft.rulings.items
draft_told c =
    let l = c.self.inside.payments in
    let orders = reading.orders c.args.request.now in
    let h = c.args.framed.now.header in
    let prices = pricing c.args.prices in
    let reads = readable_alike (routes_of []) c.args.request.now ∙ c.requires.readable in
    let payer = c.self.invariant.0.of_payer in
    let serial : 1 ≤ l.first = omega (arith, c.self.invariant.0.from_serial, c.self.invariant.1.some_serial) in
    let some_payer : 1 ≤ l.payer = omega (arith, payer, c.self.invariant.1.some_payer) in
    let payer_fits : l.payer ≤ 9999 = omega (arith, payer, c.self.invariant.1.payer_fits) in
    subst (AllByRecursion IsRuling) (sym (ruled c))
    (rulings_told l prices h some_payer payer_fits serial (prices_fit (c.orders_of_requests.ensures.prices (routes_of [])) h prices c.requires.prices) [] orders c.self.invariant.1.told
    (c.orders_of_requests.ensures.orders (routes_of []) c.args.request.now h reads) (ap (list_all serial_fits) (sym (ruled c)) ∙ c.in_ok-rule_all.ensures.made.fit))

-- what is needed of an answer to it
draft_count : (c : In_ok-rule_all) → length c.rule_all.new.draft.rulings.items ≡ c.args.framed.now.header.count
draft_count c =
    let h = c.args.framed.now.header in
    ap (λ (rs : List Ruling). length rs) (ruled c)
    ∙ (length_rulings c.self.inside.payments (pricing c.args.prices) [] (reading.orders c.args.request.now)
    ∙ c.orders_of_requests.ensures.groups (routes_of []) c.args.request.now h (readable_alike (routes_of []) c.args.request.now ∙ c.requires.readable))

-- so its answer is short, whatever it carries
draft_short : (c : In_ok-rule_all) (carried : List ℕ) → length (carrying_text c.args.framed.now.header Accepted c.rule_all.new.draft.rulings.items carried) ≤ 32768
draft_short c carried =
    let reads = readable_alike (routes_of []) c.args.request.now ∙ c.requires.readable in
    ((c.bytes_keep_laws.ensures (routes_of [])).answers c.args.request.now c.args.framed.now.header Accepted c.rule_all.new.draft.rulings.items carried reads (draft_count c) (draft_told c) tt).short

-- and what is kept of a text is carried as that text is
draft_same : (c : In_ok-rule_all) (said : List ℕ) → let h = c.args.framed.now.header in
    carrying_text h Accepted c.rule_all.new.draft.rulings.items (kept_text h Accepted c.rule_all.new.draft.rulings.items said) ≡ carrying_text h Accepted c.rule_all.new.draft.rulings.items said
draft_same c said =
    let h = c.args.framed.now.header in
    let rulings = c.rule_all.new.draft.rulings.items in
    let reads = readable_alike (routes_of []) c.args.request.now ∙ c.requires.readable in
    subst (λ (o : Option Request). carrying_text h Accepted rulings (kept_under o rulings said) ≡ carrying_text h Accepted rulings said) c.requires.readable
    ((c.bytes_keep_laws.ensures (routes_of [])).carried_back c.args.request.now h rulings said reads (draft_count c) (draft_told c)).same

pub copy_of-requires : goal.copy_of-requires
copy_of-requires c =
    let o = (goal.at.copy_of-requires c).In_ok-rule_all in
    let h = c.args.framed.now.header in
    let rulings = c.rule_all.new.draft.rulings.items in
    let said = c.heard-heard.result.now in
    let text : c.as_slice-2.result.now ≡ carrying_text h Accepted rulings said =
    c.as_slice-2.ensures.value ∙ (c.in_ok-carries.ensures.text
    ∙ (ap (λ (x : Request). carrying_text x Accepted c.as_slice-rulings.result.now said) c.header-header.ensures ∙ ap (λ (rs : List Ruling). carrying_text h Accepted rs said) c.as_slice-rulings.ensures.value)) in
    let kept : carried_of c.in_ok-carries.carries c.as_slice-2.result.now ≡ kept_text h Accepted rulings said =
    ap (carried_of c.in_ok-carries.carries) c.as_slice-2.ensures.value ∙ (c.in_ok-carries.ensures.kept
    ∙ (ap (λ (x : Request). kept_text x Accepted c.as_slice-rulings.result.now said) c.header-header.ensures ∙ ap (λ (rs : List Ruling). kept_text h Accepted rs said) c.as_slice-rulings.ensures.value)) in
    let again : c.as_slice-2.result.now ≡ carrying_text h Accepted rulings (carried_of c.in_ok-carries.carries c.as_slice-2.result.now) =
    text ∙ (sym (draft_same o said) ∙ ap (carrying_text h Accepted rulings) (sym kept)) in
    let short : length c.as_slice-2.result.now ≤ 32768 = subst (λ (t : List ℕ). length t ≤ 32768) (sym text) (draft_short o said) in
    subst (λ (rs : List Ruling). IsAnswered c.args.request.now rs (carried_of c.in_ok-carries.carries c.as_slice-2.result.now) c.as_slice-2.result.now) (sym c.as_slice-rulings.ensures.value)
    (record { header = h; reads = c.requires.readable; text = again; short = short })
