use Rattle.claim_reports.proofs.comparing.compare_tables.Goals as goal

pub returns-clause-made : goal.returns-clause-made
returns-clause-made c = record {
  paid = c.in_ok-counted.counted.items;
  counts = c.in_ok-counted.ensures.read;
  journal = c.in_ok-entries.entries.items;
  enters = c.in_ok-entries.ensures.read;
  book = c.in_ok-made.made.items;
  makes = c.in_ok-made.ensures.read;
  found = c.in_ok-found.found.items;
  finds = rw (c.as_slice.ensures.value, c.as_slice-2.ensures.value, c.as_slice-3.ensures.value) at c.in_ok-found.ensures.found;
  told = rw (c.as_slice-4.ensures.value, c.in_ok-put_names.ensures, c.new-text.ensures.items) at c.in_ok-put_findings.ensures;
  agreed = rw c.as_slice-5.ensures.value at c.are_on_their_way-agrees.ensures;
}
