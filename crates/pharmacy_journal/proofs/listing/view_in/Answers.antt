use Rattle.std.proofs.Common.{◌≡◌, Some, sym, ap, ◌∙◌}
use Rattle.d0_header.specs.Request.{request_of}
use Rattle.pharmacy_journal.specs.Reading.{header_of}
use Rattle.pharmacy_journal.specs.Entries.{kept_of}
use Rattle.pharmacy_journal.specs.Listing.{listed_by}
use Rattle.claim_profile.proofs.Headers.{readable_cut}
use Rattle.pharmacy_journal.proofs.ReadingLemmas.{IsReadable-from}
use Rattle.pharmacy_journal.proofs.listing.view_in.Goals as goal

pub returns-clause-seen : goal.returns-clause-seen
returns-clause-seen c =
    let text = c.request-request.result.now in
    let framed = (IsReadable-from text (request_of text) (readable_cut text c.request-request.ensures.readable).1).framed in
    let header : header_of (kept_of c.args.slot.now).request ≡ Some (request_of text) = ap header_of (sym c.request-request.ensures.value) ∙ framed in
    ap (listed_by c.args.number (kept_of c.args.slot.now).answer) header ∙ cc (c.code_of.ensures.value, c.count_of.ensures.value, c.in_ok-rulings.ensures)
