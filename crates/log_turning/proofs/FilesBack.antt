-- The file of a log that begins with a rest, read again.
use Rattle.std.proofs.Common.{◌≡◌, ℕ, ◌<◌, ◌^◌, List, ◌++◌, length, Some, refl, sym, ap, ◌∙◌, append_assoc}
use Rattle.std.specs.Int.{w64, to_be_bytes}
use Rattle.kept_logs.specs.Fields.{text_of, text_at}
use Rattle.codec.proofs.FieldsBack.{bytes_at-put}
use Rattle.kept_logs.proofs.FieldsBack.{text_at-put}
use Rattle.log_turning.specs.Files.{file_name, file_text, named_in, part_in, split_in}

text_back : (text behind : List ℕ) → length text < 2 ^ 64 → text_at (to_be_bytes w64 (length text) ++ (text ++ behind)) ≡ Some (text, behind)
unfolding text_of
text_back text behind short = ap text_at (sym (append_assoc (to_be_bytes w64 (length text)) text behind)) ∙ text_at-put text behind short

pub file_back : (rest log : List ℕ) → length rest < 2 ^ 64 → part_in (file_text rest log) ≡ record { rest = Some rest; log = log }
unfolding part_in split_in named_in file_text
file_back rest log short =
    rw (bytes_at-put 3 file_name (to_be_bytes w64 (length rest) ++ (rest ++ log)) refl, text_back rest log short) refl
