use Rattle.std.proofs.Common.{◌∙◌, sym}
use Rattle.claim_reports.specs.Shelves.{books_in}
use Rattle.claim_reports.proofs.Numbered.{part_last, part_more}
use Rattle.claim_reports.proofs.books.Books.read.Goals as goal

pub loop-place-preserved : goal.loop-place-preserved
loop-place-preserved c =
    rw (c.more_of-books.ensures, c.front_of.ensures, c.back_of-rest.ensures.back)
    (c.loop-place.invariant ∙ part_more c.loop-place.books c.loop-place.rest.now c.in-Some.place (sym c.first_of.ensures.place ∙ c.in-Some.is))

pub returns : goal.returns
unfolding books_in
returns c = c.more_of.ensures ∙ sym (c.loop-place.invariant ∙ part_last c.loop-place.books c.loop-place.rest.now (sym c.first_of.ensures.place ∙ c.in_default.is))
