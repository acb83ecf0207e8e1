use Rattle.std.proofs.Common.{◌≡◌, inl, inr, List, ℕ, Some, None, refl, sym, ap, ◌∙◌}
use Rattle.std.specs.Str.{IsUtf8, is_utf8}
use Rattle.std.specs.Option.{option_map}
use Rattle.std.proofs.lemmas.Bool.{cases_Bool, false≢true}
use Rattle.std.proofs.lemmas.Str.{IsUtf8-from_is_utf8, is_utf8-from_IsUtf8}
use Rattle.toml.specs.Parse.{parse_document}
use Rattle.toml.specs.Data.{Members}
use Rattle.world_settings.specs.Document.{document_seen, living_in, living_of}
use Rattle.world_settings.proofs.settings.read_living_settings.Goals as goal

-- a text that is a table spells what the table spells
known : (text : List ℕ) (table : Members) → IsUtf8 text → parse_document text ≡ Some table → living_in text ≡ living_of table
unfolding living_in
known text table utf8 parsed = rw (is_utf8-from_IsUtf8 text utf8, parsed) refl

-- a text that is none spells nothing
unknown : (text : List ℕ) → (IsUtf8 text → parse_document text ≡ None) → living_in text ≡ None
unfolding living_in
unknown text refused =
    elim (cases_Bool (is_utf8 text)) [
      | inl utf8 ↦ rw (utf8, refused (IsUtf8-from_is_utf8 text utf8)) refl
      | inr other ↦ rw other refl
    ]

pub returns-in-Some-clause-read : goal.returns-in-Some-clause-read
returns-in-Some-clause-read c =
    known c.args.text.now _ c.in-Ok.ensures.ok.0 c.in-Ok.ensures.ok.1 ∙ (sym c.in_ok-settings-in-Ok.ensures ∙ ap (option_map document_seen) c.in-Some.is)

pub returns-clause-refused : goal.returns-clause-refused
returns-clause-refused c = unknown c.args.text.now (c.in-Err.ensures.refused (λ is. false≢true (sym c.if-is_memory.false ∙ c.is_memory.ensures.1 is)))
