-- What the code shows of a finding, as a row says it.
use Rattle.claim_reports.specs.declared.comparing.Apart.{Apart as ApartHeld}
use Rattle.claim_reports.specs.declared.comparing.Shown.{Shown as ShownHeld}
use Rattle.claim_reports.specs.Compared.{Apart, Shown}

abbrev pub apart_seen : ApartHeld → Apart
apart_seen a = record { name = a.name.now; counted = a.counted; paid = a.paid }

abbrev pub shown_seen : ShownHeld → Shown
shown_seen s = record { word = s.word.now; auth = s.auth; counted = s.counted; paid = s.paid; on_its_way = s.on_its_way; apart = apart_seen s.apart }
