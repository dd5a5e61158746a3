-- A line that is appended word by word, with a space between.
use Rattle.std.proofs.Common.{◌≡◌, ◌++◌, ◌∷◌, [], ℕ, List, refl, sym, ◌∙◌, ap, append_assoc}
use Rattle.std.specs.List.{join_with_byte}
use Rattle.zt_look.specs.ProofsOnly.SpacedWords.{behind_spaces}

append_nil : (l : List ℕ) → l ++ [] ≡ l
append_nil [] = refl
append_nil (x ∷ l) = ap (λ r. x ∷ r) (append_nil l)

joined : (R : List ℕ) (J : List (List ℕ)) → join_with_byte 32 (R ∷ J) ≡ R ++ behind_spaces J
joined R [] = sym (append_nil R)
joined R (x ∷ J) = ap (λ l. R ++ (32 ∷ l)) (joined x J)

spaced : (d w R B : List ℕ) → ((d ++ (32 ∷ (w ++ (32 ∷ [])))) ++ R) ++ B ≡ d ++ (32 ∷ (w ++ (32 ∷ (R ++ B))))
spaced d w R B =
    ap (λ l. l ++ B) (append_assoc d (32 ∷ (w ++ (32 ∷ []))) R ∙ ap (λ l. d ++ (32 ∷ l)) (append_assoc w (32 ∷ []) R))
    ∙ append_assoc d (32 ∷ (w ++ (32 ∷ R))) B
    ∙ ap (λ l. d ++ (32 ∷ l)) (append_assoc w (32 ∷ R) B)

behind : (t0 X R B : List ℕ) → ((t0 ++ X) ++ R) ++ B ≡ t0 ++ ((X ++ R) ++ B)
behind t0 X R B = ap (λ l. l ++ B) (append_assoc t0 X R) ∙ append_assoc t0 (X ++ R) B

pub all_words : (t0 t1 t2 t3 d word w R : List ℕ) (J : List (List ℕ)) → t1 ≡ t0 ++ (d ++ (32 ∷ (word ++ (32 ∷ [])))) → word ≡ w → t2 ≡ t1 ++ R → t3 ≡ t2 ++ behind_spaces J
    → t3 ++ (10 ∷ []) ≡ t0 ++ (join_with_byte 32 (d ∷ w ∷ R ∷ J) ++ (10 ∷ []))
all_words t0 t1 t2 t3 d word w R J first named then last =
    ap (λ l. l ++ (10 ∷ [])) (
    last
    ∙ ap (λ l. l ++ behind_spaces J) (then ∙ ap (λ l. l ++ R) (first ∙ ap (λ l. t0 ++ (d ++ (32 ∷ (l ++ (32 ∷ []))))) named))
    ∙ behind t0 (d ++ (32 ∷ (w ++ (32 ∷ [])))) R (behind_spaces J)
    ∙ ap (λ l. t0 ++ l) (spaced d w R (behind_spaces J) ∙ ap (λ l. d ++ (32 ∷ (w ++ (32 ∷ l)))) (sym (joined R J)))
    )
    ∙ append_assoc t0 (join_with_byte 32 (d ∷ w ∷ R ∷ J)) (10 ∷ [])
