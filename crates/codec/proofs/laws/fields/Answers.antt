use Rattle.codec.proofs.CodecLaws.{u8_is, u16_is, u32_is, u64_is, text_is}
use Rattle.codec.proofs.laws.fields.Goals as goal

pub returns : goal.returns
returns c = record { u8 = u8_is; u16 = u16_is; u32 = u32_is; u64 = u64_is; text = text_is }
