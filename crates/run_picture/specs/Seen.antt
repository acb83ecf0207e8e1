-- A mark as the definitions have it: nodes of the model, and refusals by their names.
use Rattle.world_setup.specs.Seen.{node_seen}
use Rattle.claim_model.specs.Refusal.{refusal_of, name_by}
use Rattle.run_picture.specs.declared.mark.Mark.{Mark}
use Rattle.run_picture.specs.declared.mark.Mark.TheVariants as mark
use Rattle.run_picture.specs.Marks as told

abbrev pub mark_seen : Mark → told.Mark
mark_seen (mark.Submitted event pharmacy) = told.Submitted event pharmacy
mark_seen (mark.Ticked event pharmacy) = told.Ticked event pharmacy
mark_seen (mark.Arrived event packet) = told.Arrived event packet
mark_seen (mark.Stopped event node) = told.Stopped event (node_seen node)
mark_seen (mark.Started event node) = told.Started event (node_seen node)
mark_seen (mark.Revised event node) = told.Revised event (node_seen node)
mark_seen (mark.Sent event packet from to) = told.Sent event packet (node_seen from) (node_seen to)
mark_seen (mark.Refused event fault) = told.Turned event (name_by (refusal_of fault))
