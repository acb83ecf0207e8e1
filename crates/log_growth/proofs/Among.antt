-- The switches of settings, in the reading of bytes.
use Rattle.std.proofs.Common.{◌≡◌, ℕ, ◌≤◌, List, [], ◌∷◌, length, refl, arith}
use Rattle.bin_routes.specs.Key.{RouteKey}
use Rattle.bin_routes.specs.Table.{routes_of, payer_of, payer_under}
use Rattle.world_setup.specs.Seen.{settings_seen}
use Rattle.world_setup.specs.Taken.{routes_in, routes_with}
use Rattle.world_setup.specs.declared.settings.WorldSettings.{WorldSettings}
use Rattle.settings_growth.specs.Growth.{Extends}
use Rattle.log_growth.specs.Compared.{reading_of}

-- how many switches there are says nothing of where a request is routed
pub under_rows : (s : WorldSettings) (number : ℕ) (key : RouteKey) → payer_under (routes_in s) number key ≡ payer_under (routes_of s.routes.items) number key
unfolding routes_with payer_under payer_of
under_rows s number key = refl

longer : {A : Type 0} (G : A → A → Type 0) (xs ys : List A) → Extends G xs ys → length xs ≤ length ys
longer G [] ys e = omega arith
longer G (x ∷ xs) [] e = absurd e
longer G (x ∷ xs) (y ∷ ys) e = let l = longer G xs ys e.1 in omega (arith, l)

-- there are no fewer of them where settings grow
pub more_switches : (old new : WorldSettings) → Extends (λ (a b : ℕ). b ≡ a) (settings_seen old).switches (settings_seen new).switches → (reading_of old).switches ≤ (reading_of new).switches
unfolding routes_with
more_switches old new e = longer (λ (a b : ℕ). b ≡ a) (settings_seen old).switches (settings_seen new).switches e
