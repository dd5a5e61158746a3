-- Numbers of a list, one after another.
use Rattle.std.proofs.Common.{◌≡◌, ℕ, List, [], ◌∷◌, ◌++◌, Option, Some, None, sym, subst}
use Rattle.std.proofs.lemmas.List.{append_assoc, append-nil}
use Rattle.json.specs.Token.{Token}
use Rattle.json.specs.Json.{Json, Items, no_items, item}
use Rattle.json.specs.Find.{as_array}
use Rattle.zt_logs.specs.Numbers.{IsNumber}
use Rattle.zt_logs.specs.Answered.{IsReadNumber, AreReadNumbers, AreReadHandles}
use Rattle.zt_logs.specs.LineCalls.{IsDisposition, AreDispositions, AreDispositionsIn}
use Rattle.zt_logs.specs.LoggedCalls.{AreNumbers, AreHandles}
use Rattle.zt_logs.specs.declared.dispositions.Disposition.{Disposition}
use Rattle.zt_logs.specs.ProofsOnly.ReadLines.{IsListAt}
use Rattle.zt_logs.specs.ProofsOnly.Tokens.{items_at}

-- ---- handles

-- what was taken of a list, where the rest of it is this
abbrev pub TakesNumbers : Items → Items → List ℕ → Type 0
TakesNumbers all rest taken = (more : List ℕ) → AreNumbers rest more → AreNumbers all (taken ++ more)

pub handles_next : (all rest others : Items) (taken : List ℕ) (d : Json) (n : ℕ) → TakesNumbers all rest taken → rest ≡ item d others → IsNumber d n
    → TakesNumbers all others (taken ++ n ∷ [])
handles_next all rest others taken d n so_far first is more are =
    rw (append_assoc taken (n ∷ []) more) (so_far (n ∷ more) (subst (λ js. AreNumbers js (n ∷ more)) (sym first) (is, are)))

pub handles_all : (all rest : Items) (taken : List ℕ) → TakesNumbers all rest taken → rest ≡ no_items → AreNumbers all taken
handles_all all rest taken so_far none =
    subst (λ ns. AreNumbers all ns) (append-nil taken) (so_far [] (subst (λ js. AreNumbers js []) (sym none) tt))

-- of a list that may be left out
pub handles_at : (o : Option Json) (l : Option (List Token)) (list : List Token) (taken : List ℕ) → IsListAt o l → l ≡ Some list
    → AreNumbers (items_at list) taken → AreHandles o taken
handles_at None None list taken at is are = cc is
handles_at None (Some found) list taken at is are = absurd at
handles_at (Some d) None list taken at is are = absurd at
handles_at (Some d) (Some found) list taken at is are =
    let same : found ≡ list = cc is in
    (items_at list, subst (λ ts. as_array d ≡ Some (items_at ts)) same at, are)

pub no_handles_at : (o : Option Json) (l : Option (List Token)) (taken : List ℕ) → IsListAt o l → l ≡ None → taken ≡ [] → AreHandles o taken
no_handles_at None None taken at is none = none
no_handles_at None (Some found) taken at is none = absurd at
no_handles_at (Some d) None taken at is none = absurd at
no_handles_at (Some d) (Some found) taken at is none = cc is

-- ---- handles alone or in an object

-- what was taken of a list, where the rest of it is this
abbrev pub TakesRead : Items → Items → List ℕ → Type 0
TakesRead all rest taken = (more : List ℕ) → AreReadNumbers rest more → AreReadNumbers all (taken ++ more)

pub read_next : (all rest others : Items) (taken : List ℕ) (d : Json) (n : ℕ) → TakesRead all rest taken → rest ≡ item d others → IsReadNumber d n
    → TakesRead all others (taken ++ n ∷ [])
read_next all rest others taken d n so_far first is more are =
    rw (append_assoc taken (n ∷ []) more) (so_far (n ∷ more) (subst (λ js. AreReadNumbers js (n ∷ more)) (sym first) (is, are)))

pub read_all : (all rest : Items) (taken : List ℕ) → TakesRead all rest taken → rest ≡ no_items → AreReadNumbers all taken
read_all all rest taken so_far none =
    subst (λ ns. AreReadNumbers all ns) (append-nil taken) (so_far [] (subst (λ js. AreReadNumbers js []) (sym none) tt))

-- of a list that may be left out
pub read_at : (o : Option Json) (l : Option (List Token)) (list : List Token) (taken : List ℕ) → IsListAt o l → l ≡ Some list
    → AreReadNumbers (items_at list) taken → AreReadHandles o taken
read_at None None list taken at is are = cc is
read_at None (Some found) list taken at is are = absurd at
read_at (Some d) None list taken at is are = absurd at
read_at (Some d) (Some found) list taken at is are =
    let same : found ≡ list = cc is in
    (items_at list, subst (λ ts. as_array d ≡ Some (items_at ts)) same at, are)

pub no_read_at : (o : Option Json) (l : Option (List Token)) (taken : List ℕ) → IsListAt o l → l ≡ None → taken ≡ [] → AreReadHandles o taken
no_read_at None None taken at is none = none
no_read_at None (Some found) taken at is none = absurd at
no_read_at (Some d) None taken at is none = absurd at
no_read_at (Some d) (Some found) taken at is none = cc is

-- ---- handles that are sent

-- what was taken of a list, where the rest of it is this
abbrev pub TakesSent : Items → Items → List Disposition → Type 0
TakesSent all rest taken = (more : List Disposition) → AreDispositions rest more → AreDispositions all (taken ++ more)

pub sent_next : (all rest others : Items) (taken : List Disposition) (d : Json) (n : Disposition) → TakesSent all rest taken → rest ≡ item d others → IsDisposition d n
    → TakesSent all others (taken ++ n ∷ [])
sent_next all rest others taken d n so_far first is more are =
    rw (append_assoc taken (n ∷ []) more) (so_far (n ∷ more) (subst (λ js. AreDispositions js (n ∷ more)) (sym first) (is, are)))

pub sent_all : (all rest : Items) (taken : List Disposition) → TakesSent all rest taken → rest ≡ no_items → AreDispositions all taken
sent_all all rest taken so_far none =
    subst (λ ns. AreDispositions all ns) (append-nil taken) (so_far [] (subst (λ js. AreDispositions js []) (sym none) tt))

-- of a list that may be left out
pub sent_at : (o : Option Json) (l : Option (List Token)) (list : List Token) (taken : List Disposition) → IsListAt o l → l ≡ Some list
    → AreDispositions (items_at list) taken → AreDispositionsIn o taken
sent_at None None list taken at is are = cc is
sent_at None (Some found) list taken at is are = absurd at
sent_at (Some d) None list taken at is are = absurd at
sent_at (Some d) (Some found) list taken at is are =
    let same : found ≡ list = cc is in
    (items_at list, subst (λ ts. as_array d ≡ Some (items_at ts)) same at, are)

pub no_sent_at : (o : Option Json) (l : Option (List Token)) (taken : List Disposition) → IsListAt o l → l ≡ None → taken ≡ [] → AreDispositionsIn o taken
no_sent_at None None taken at is none = none
no_sent_at None (Some found) taken at is none = absurd at
no_sent_at (Some d) None taken at is none = absurd at
no_sent_at (Some d) (Some found) taken at is none = cc is
