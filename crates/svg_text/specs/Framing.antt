-- The frame of a picture, with its texts as lists of bytes.
use Rattle.svg_text.specs.declared.frame.Frame.{Frame}
use Rattle.svg_text.specs.Picture.{Framed}

abbrev pub framed : Frame → Framed
framed f = record { size = f.size; title = f.title.now; description = f.description.now }
