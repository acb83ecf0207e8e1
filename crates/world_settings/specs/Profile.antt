-- Whether answers carry what advices say beside their rulings: the table `answers`.
use Rattle.std.specs.Prelude.{ℕ, Bool, true, false, List, [], ◌∷◌, codes, bytes_eq, Option, Some, None, if◌then◌else◌}
use Rattle.input_text.specs.Options.{◌>>=◌}
use Rattle.toml.specs.Data.{Data, Members, get_member, as_str, as_table}
use Rattle.world_settings.specs.Keys.{only_with}

-- its only key, which has to be there
abbrev pub answers_keys : List (List ℕ)
answers_keys = codes "profile" ∷ []

-- answers are narrow, with their rulings alone, or wide
abbrev pub is_wide : List ℕ → Option Bool
is_wide text = if bytes_eq text (codes "narrow") then Some false else if bytes_eq text (codes "wide") then Some true else None

abbrev pub profile_of : Option Data → Option Bool
profile_of None = None
profile_of (Some value) = as_str value >>= is_wide

abbrev pub answers_table : Members → Option Bool
answers_table table = only_with answers_keys table (profile_of (get_member (codes "profile") table))

-- without the table they are narrow
abbrev pub answers_of : Option Data → Option Bool
answers_of None = Some false
answers_of (Some value) = as_table value >>= answers_table

-- whether answers of these settings are wide
abbrev pub answers_in : Members → Option Bool
answers_in table = answers_of (get_member (codes "answers") table)
