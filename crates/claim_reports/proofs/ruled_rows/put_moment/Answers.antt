use Rattle.std.proofs.Common.{◌≡◌, ◌*◌, ◌++◌, ℕ, List, inl, pos, refl}
use Rattle.std.specs.Prelude.{Err, Ok, OnOk, Result, Some}
use Rattle.csv.specs.Records.{fields_of}
use Rattle.jiff_core.specs.DateTime.{civil_nanos}
use Rattle.jiff_core.specs.declared.civil.datetime.DateTime.{DateTime}
use Rattle.claim_reports.specs.Digits.{time_text, day_text}
use Rattle.claim_reports.specs.Wider.{wider_text}
use Rattle.claim_reports.specs.WhenRuled.{AddsRuled}
use Rattle.claim_reports.proofs.ruled_rows.put_moment.Goals as goal

adds_shown : {T E : Type 0} (r : Result T E) (old new : List ℕ) (fields : List (List ℕ)) (milliseconds : ℕ) (shown : DateTime) → civil_nanos shown ≡ pos (milliseconds * 1_000_000)
    → OnOk r (new ≡ old ++ wider_text fields (time_text shown) (day_text shown)) → OnOk r (AddsRuled old new fields (Some milliseconds))
adds_shown (Ok _) old new fields milliseconds shown is told = (time_text shown, day_text shown, inl (shown, is, refl, refl), told)
adds_shown (Err _) old new fields milliseconds shown is told = told

pub returns-in-Some-clause-adds : goal.returns-in-Some-clause-adds
returns-in-Some-clause-adds c =
    adds_shown c.put_shown.result c.args.out.now.items c.put_shown.new.out.items (fields_of c.args.row.now) c.args.milliseconds c.in-Some.shown c.in-Some.ensures.shown c.put_shown.ensures.adds
