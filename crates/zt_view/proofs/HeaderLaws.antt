-- Lists of headers to which others are added one by one.
use Rattle.std.proofs.Common.{◌≡◌, ◌++◌, ◌∷◌, [], List, ap, ◌∙◌}
use Rattle.std.proofs.lemmas.List.{append_assoc}

-- One behind others.
one : {A : Type 0} (first known last next : List A) (x : A) → last ≡ first ++ known → next ≡ last ++ x ∷ [] → next ≡ first ++ (known ++ x ∷ [])
one first known last next x h more = more ∙ (ap (λ l. l ++ x ∷ []) h ∙ append_assoc first known (x ∷ []))

pub four : {A : Type 0} (f0 f1 f2 f3 f4 : List A) (a b c d : A) → f1 ≡ f0 ++ a ∷ [] → f2 ≡ f1 ++ b ∷ [] → f3 ≡ f2 ++ c ∷ [] → f4 ≡ f3 ++ d ∷ [] → f4 ≡ f0 ++ a ∷ b ∷ c ∷ d ∷ []
four f0 f1 f2 f3 f4 a b c d h1 h2 h3 h4 = one f0 (a ∷ b ∷ c ∷ []) f3 f4 d (one f0 (a ∷ b ∷ []) f2 f3 c (one f0 (a ∷ []) f1 f2 b h1 h2) h3) h4

-- Two behind none, and then more.
pub guarded : {A : Type 0} {f0 f1 f2 f3 more : List A} {a b : A} → f0 ≡ [] → f1 ≡ f0 ++ a ∷ [] → f2 ≡ f1 ++ b ∷ [] → f3 ≡ f2 ++ more → f3 ≡ a ∷ b ∷ more
guarded {more = more} {a = a} {b = b} h0 h1 h2 h3 = h3 ∙ ap (λ l. l ++ more) (h2 ∙ ap (λ l. l ++ b ∷ []) (h1 ∙ ap (λ l. l ++ a ∷ []) h0))
