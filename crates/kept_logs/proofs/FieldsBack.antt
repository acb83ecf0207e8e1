-- What was put is taken, of texts as crates above name them.
use Rattle.std.proofs.Common.{◌≡◌, ℕ, ◌<◌, ◌^◌, List, ◌++◌, length, Some}
use Rattle.codec.proofs.CodecLaws.{text_is}
use Rattle.kept_logs.specs.Fields.{text_of, text_at}

pub text_at-put : (text rest : List ℕ) → length text < 2 ^ 64 → text_at (text_of text ++ rest) ≡ Some (text, rest)
unfolding text_at text_of
text_at-put = text_is.back
