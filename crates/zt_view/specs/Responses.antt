-- What responses tell.
use Rattle.std.specs.Prelude.{◌≡◌, ◌⊎◌, ℕ, ◌≤◌, List, [], ◌∷◌, Result, Ok, Err, codes}
use Rattle.http_server.specs.Response.{fields_of}
use Rattle.zt_rows.specs.declared.refusals.Refusal.{Refusal}
use Rattle.zt_rows.specs.declared.refusals.Refusal.TheVariants as refusal
use Rattle.zt_text.specs.Answers.{shown_refusal}
use Rattle.http_server.specs.declared.response.Response.{Response}

-- the headers that keep a browser from storing a body, from taking it for another kind, and from giving it to other sites, and a page
-- from loading what is not the server's
abbrev pub guards : List (List ℕ × List ℕ)
guards =
    (codes "cache-control", codes "no-store") ∷ (codes "content-security-policy", codes "default-src 'self'; frame-ancestors 'none'")
    ∷ (codes "x-content-type-options", codes "nosniff") ∷ (codes "cross-origin-resource-policy", codes "same-origin") ∷ []

-- the response of the server with this start has them, behind the kind of its body
abbrev pub IsGuarded : List ℕ → Response → Type 0
IsGuarded start response = (kind : List ℕ) × (fields_of response ≡ (codes "content-type", kind) ∷ (codes "zxtt-start", start) ∷ guards)

-- an allocation failed
abbrev pub IsFailure : Response → Type 0
IsFailure response = response.status ≡ 500

-- a guarded response with this status, or an allocation for it failed
abbrev pub HasStatus : List ℕ → ℕ → Response → Type 0
HasStatus start status response = ((response.status ≡ status) × IsGuarded start response) ⊎ IsFailure response

-- the request is refused, or the server has failed at it
abbrev pub IsRefusal : List ℕ → Response → Type 0
IsRefusal start response = (400 ≤ response.status) × (IsGuarded start response ⊎ IsFailure response)

-- a guarded text with this status, or an allocation for it failed
abbrev pub Tells : List ℕ → ℕ → List ℕ → Response → Type 0
Tells start status text response =
    ((response.status ≡ status) × (response.body.items ≡ text) × IsGuarded start response) ⊎ IsFailure response

-- what is found, or why nothing is: there is no such thing, or an allocation failed
abbrev pub TellsFound : List ℕ → Result (List ℕ) Refusal → Response → Type 0
TellsFound start (Ok text) response = Tells start 200 text response
TellsFound start (Err refusal.OutOfMemory) response = IsFailure response
TellsFound start (Err reason) response = Tells start 404 (shown_refusal reason) response
