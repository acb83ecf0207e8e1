use Rattle.std.proofs.Common.{append_assoc}
use Rattle.envelope.specs.Envelope.{envelope_head}
use Rattle.envelope.proofs.writing.put_head.Goals as goal

pub returns : goal.returns
unfolding envelope_head
returns c =
    rw (
      c.in_ok-extend_from_slice-4.ensures.items,
      c.in_ok-extend_from_slice-3.ensures.items,
      c.in_ok-extend_from_slice-2.ensures.items,
      c.in_ok-extend_from_slice.ensures.items,
      c.to_be_bytes-3.ensures,
      c.to_be_bytes-2.ensures,
      c.to_be_bytes.ensures,
      c.number.ensures.value,
      c.pharmacy.ensures.value,
      c.kind_byte.ensures,
    )
    (simp append_assoc)
