-- The attributes that say how lines, boxes and words look.
use Rattle.std.specs.Prelude.{ℕ, List, [], codes}
use Rattle.svg_text.specs.declared.styles.Stroke.{Stroke}
use Rattle.svg_text.specs.declared.styles.Stroke.TheVariants.{Solid, Dotted, Dashed, Arrow, Broad, Pale}
use Rattle.svg_text.specs.declared.styles.Fill.{Fill}
use Rattle.svg_text.specs.declared.styles.Fill.TheVariants.{Bordered, DashedBorder, Blank}
use Rattle.svg_text.specs.declared.styles.Face.{Face}
use Rattle.svg_text.specs.declared.styles.Face.TheVariants.{Heading, Bold, Plain, Edged}
use Rattle.svg_text.specs.declared.styles.Anchor.{Anchor}
use Rattle.svg_text.specs.declared.styles.Anchor.TheVariants.{Start, Middle, End}

unfoldable pub stroke_style : Stroke → List ℕ
stroke_style Solid = codes " stroke=\"black\" stroke-width=\"1.5\""
stroke_style Dotted = codes " stroke=\"black\" stroke-width=\"1.5\" stroke-dasharray=\"3 5\""
stroke_style Dashed = codes " stroke=\"black\" stroke-width=\"1.5\" stroke-dasharray=\"9 5\""
stroke_style Arrow = codes " stroke=\"black\" stroke-width=\"1.5\" marker-end=\"url(#head)\""
stroke_style Broad = codes " stroke=\"black\" stroke-width=\"2.5\""
stroke_style Pale = codes " stroke=\"#bbb\""

unfoldable pub fill_style : Fill → List ℕ
fill_style Bordered = codes " fill=\"white\" stroke=\"black\" stroke-width=\"1.5\""
fill_style DashedBorder = codes " fill=\"white\" stroke=\"black\" stroke-dasharray=\"9 5\""
fill_style Blank = codes " fill=\"white\""

unfoldable pub face_style : Face → List ℕ
face_style Heading = codes " font-size=\"18\" font-weight=\"bold\""
face_style Bold = codes " font-weight=\"bold\""
face_style Plain = []
face_style Edged = codes " paint-order=\"stroke\" stroke=\"white\" stroke-width=\"5\""

unfoldable pub anchor_style : Anchor → List ℕ
anchor_style Start = []
anchor_style Middle = codes " text-anchor=\"middle\""
anchor_style End = codes " text-anchor=\"end\""
