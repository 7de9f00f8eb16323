-- Parts that are put behind others in turn.
use Rattle.std.proofs.Common.{◌≡◌, List, [], ◌∷◌, ◌++◌, ap, ◌∙◌, append_assoc}

pub two_put : {A : Type 0} → (old one two : List A) (x : A) (b : List A) → one ≡ old ++ x ∷ [] → two ≡ one ++ b → two ≡ old ++ (x ∷ b)
two_put old one two x b p q = q ∙ ap (λ ps. ps ++ b) p ∙ append_assoc old (x ∷ []) b

pub three_put : {A : Type 0} → (old one two three : List A) (x : A) (b c : List A) → one ≡ old ++ x ∷ [] → two ≡ one ++ b → three ≡ two ++ c → three ≡ old ++ (x ∷ (b ++ c))
three_put old one two three x b c p q r = r ∙ ap (λ ps. ps ++ c) (two_put old one two x b p q) ∙ append_assoc old (x ∷ b) c

pub both_put : {A : Type 0} → (old one two a b : List A) → one ≡ old ++ a → two ≡ one ++ b → two ≡ old ++ (a ++ b)
both_put old one two a b p q = q ∙ ap (λ ps. ps ++ b) p ∙ append_assoc old a b
