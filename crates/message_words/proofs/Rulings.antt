-- Codes in strings.
use Rattle.std.proofs.Common.{ℕ, List, ◌++◌, sym, subst}
use Rattle.std.proofs.lemmas.List.Concat.{flat_map-append}
use Rattle.message_words.specs.declared.text.Text.{Text}
use Rattle.message_words.specs.Encoded.{json_letter, json_letters}
use Rattle.message_words.specs.Written.{Takes}
use Rattle.message_words.proofs.Written.{both}

-- letters after letters
pub letters_both : (u v : List ℕ) (a b c : Text) → Takes (json_letters u) a b → Takes (json_letters v) b c → Takes (json_letters (u ++ v)) a c
letters_both u v a b c p q = subst (λ (w : List ℕ). Takes w a c) (sym (flat_map-append json_letter u v)) (both (json_letters u) (json_letters v) a b c p q)
