-- What is told of bytes in the code, as the definitions see it.
use Rattle.kept_logs.specs.Frames as frame
use Rattle.kept_logs.specs.declared.expected_bytes.Met.{Met}
use Rattle.kept_logs.specs.declared.expected_bytes.Met.TheVariants as met
use Rattle.kept_logs.specs.declared.frames.Frame.{Frame}
use Rattle.kept_logs.specs.declared.frames.Frame.TheVariants as framed

abbrev pub met_seen : Met → frame.Met
met_seen (met.Whole rest) = frame.Whole rest.now
met_seen met.Torn = frame.Torn
met_seen met.Differs = frame.Differs

abbrev pub frame_seen : Frame → frame.Frame
frame_seen (framed.Whole body after) = frame.Framed body.now after.now
frame_seen framed.CutOff = frame.CutOff
frame_seen framed.Damaged = frame.Damaged
