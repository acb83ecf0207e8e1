-- What a route may look at in requests: each of it once, with the last of its requests.
use Rattle.std.specs.Prelude.{ℕ, Bool, not, ◌&&◌, List, [], ◌∷◌, ◌++◌, Option, Some, None, map, filter, bytes_eq, if◌then◌else◌}
use Rattle.std.specs.List.{list_any}
use Rattle.std.specs.Option.{option_or}
use Rattle.bin_routes.specs.Key.{RouteKey}

-- a request by its number, and its key
abbrev pub Request : Type 0
Request = ℕ × RouteKey

abbrev pub same_key : RouteKey → RouteKey → Bool
same_key a b = (bytes_eq a.bin b.bin && bytes_eq a.pcn b.pcn) && (bytes_eq a.qualifier b.qualifier && bytes_eq a.provider b.provider)

-- a key is one of these
abbrev pub is_among : List RouteKey → RouteKey → Bool
is_among keys key = list_any (λ (other : RouteKey). same_key other key) keys

-- these keys, and one more where it is none of them
abbrev pub with_key : List RouteKey → RouteKey → List RouteKey
with_key keys key = if is_among keys key then keys else (keys ++ key ∷ [])

-- each key once, where it comes first
abbrev pub each_once : List RouteKey → List RouteKey
each_once [] = []
each_once (key ∷ keys) = key ∷ filter (λ other. not (same_key key other)) (each_once keys)

-- the keys of requests, each once
abbrev pub keys_in : List Request → List RouteKey
keys_in requests = each_once (map (λ (r : Request). r.1) requests)

-- the number of the last request of a key
abbrev pub last_of : RouteKey → List Request → Option ℕ
last_of key [] = None
last_of key (request ∷ later) = option_or (last_of key later) (if same_key request.1 key then Some request.0 else None)
