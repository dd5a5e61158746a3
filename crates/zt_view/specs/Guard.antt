-- Which requests are let in: those alone that are sent to the server by its own name, and from nowhere else.
use Rattle.std.specs.Prelude.{◌≡◌, ◌⊎◌, ℕ, ◌==◌, true, List, [], ◌∷◌, ◌++◌, map, All, codes, None, string_bytes}
use Rattle.std.specs.Fmt.{decimal}
use Rattle.std.specs.Char.{to_ascii_lowercase}
use Rattle.http_uri.specs.Uri.{uri_authority, uri_scheme}
use Rattle.http_uri.specs.declared.uri.Uri.{Uri as Target}
use Rattle.http_header.specs.FieldValue.{FieldValue}
use Rattle.http_header.specs.HeaderMap.{Entries, get_all}
use Rattle.zt_view.specs.declared.guard.Own.{Own}

-- the texts are equal but for the case of letters
abbrev pub IsSpelled : List ℕ → List ℕ → Type 0
IsSpelled text name = map to_ascii_lowercase text ≡ map to_ascii_lowercase name

-- the server's address or its name, each with the port, which browsers leave out where it is that of HTTP
abbrev pub IsOwnHost : Own → List ℕ → Type 0
IsOwnHost own host =
    IsSpelled host (string_bytes own.address) ⊎ IsSpelled host (string_bytes own.name)
    ⊎ ((own.is_port_left_out ≡ true) × (IsSpelled host (codes "127.0.0.1") ⊎ IsSpelled host (codes "localhost")))

-- what a server at this port is called
pub record IsOwnOf (port : ℕ) (own : Own) : Type 0 where
  pub address : string_bytes own.address ≡ codes "127.0.0.1:" ++ decimal port
  pub name : string_bytes own.name ≡ codes "localhost:" ++ decimal port
  pub left_out : own.is_port_left_out ≡ (port == 80)

-- a page of the server
abbrev pub IsOwnOrigin : Own → List ℕ → Type 0
IsOwnOrigin own origin = (host : List ℕ) × (origin ≡ codes "http://" ++ host) × IsOwnHost own host

-- there is one host, and it is this server
abbrev pub IsAskedOf : Own → List FieldValue → Type 0
IsAskedOf own hosts = (host : FieldValue) × (hosts ≡ host ∷ []) × IsOwnHost own host.bytes

-- a browser says that a page of the server asks, or a person
abbrev pub IsOwnSite : List ℕ → Type 0
IsOwnSite site = (site ≡ codes "same-origin") ⊎ (site ≡ codes "none")

-- no browser says where the request comes from, or it says once that it comes from here
abbrev pub IsAskedOnSite : List FieldValue → Type 0
IsAskedOnSite sites = (sites ≡ []) ⊎ ((site : FieldValue) × (sites ≡ site ∷ []) × IsOwnSite site.bytes)

-- The request is for this server alone: its target names none, its one host and all its origins are this server, and no browser
-- says that another site asks.
pub record IsAdmitted (own : Own) (target : Target) (headers : Entries FieldValue) : Type 0 where
  pub scheme : uri_scheme target ≡ None
  pub authority : uri_authority target ≡ None
  pub host : IsAskedOf own (get_all headers (codes "host"))
  pub origins : All (λ origin. IsOwnOrigin own origin.bytes) (get_all headers (codes "origin"))
  pub site : IsAskedOnSite (get_all headers (codes "sec-fetch-site"))
