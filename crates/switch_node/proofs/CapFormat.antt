-- The format of a cap: what was put is taken, and only what stands there is taken.
use Rattle.codec.specs.Laws.{IsCodec}
use Rattle.codec.proofs.CodecLaws.{u32_is, at_most_is, at_least_is}
use Rattle.switch_node.specs.Bytes.{cap_codec}

pub cap_is : IsCodec cap_codec
unfolding cap_codec
cap_is = at_least_is 1 (at_most_is 16777216 u32_is)
