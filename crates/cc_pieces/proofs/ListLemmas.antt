-- Lists that are printed from the last element to the first: what an element more adds in front.
use Rattle.std.proofs.Common.{arith, ◌≡◌, ℕ, suc, ◌+◌, ◌<◌, List, [], ◌∷◌, map, drop, length, get_or, ap, sym, ◌∙◌}
use Rattle.std.proofs.Math.Seq.{drop-cons}
use Rattle.std.proofs.Math.ListN.{drop_of_length-le}
use Rattle.cc_lex.specs.declared.token.Mark.TheVariants as m
use Rattle.cc_pieces.specs.Declarators.{Declarator, further, parameters, type_name_of}
use Rattle.cc_pieces.specs.Pieces.{Pieces, punct, space}

-- a list from an element on
pub drop_at : {A : Type 0} (xs : List A) (i : ℕ) (x : A) → i < length xs → x ≡ get_or xs i x → drop i xs ≡ x ∷ drop (i + 1) xs
drop_at xs i x l e =
    let n : suc i ≡ i + 1 = omega arith in
    drop-cons xs i x l ∙ ap (λ y. y ∷ drop (suc i) xs) (sym e) ∙ ap (λ k. x ∷ drop k xs) n

pub drop_all : {A : Type 0} (xs : List A) → drop (length xs) xs ≡ []
drop_all xs = drop_of_length-le xs {i = length xs} (omega arith)

-- a parameter more
pub further_more : {A : Type 0} (f : A → Declarator) (xs : List A) (i k : ℕ) (x : A) (ps qs rs : Pieces) → k ≡ i + 1 → i < length xs → x ≡ get_or xs i x →
    qs ≡ further (map f (drop k xs)) ps → rs ≡ punct m.Comma ∷ space ∷ type_name_of (f x) qs → rs ≡ further (map f (drop i xs)) ps
further_more f xs i k x ps qs rs n l e h w =
    w ∙ ap (λ zs. punct m.Comma ∷ space ∷ type_name_of (f x) zs) (h ∙ ap (λ j. further (map f (drop j xs)) ps) n)
    ∙ ap (λ ys. further (map f ys) ps) (sym (drop_at xs i x l e))

pub further_none : {A : Type 0} (f : A → Declarator) (xs : List A) (ps : Pieces) → ps ≡ further (map f (drop (length xs) xs)) ps
further_none f xs ps = ap (λ ys. further (map f ys) ps) (sym (drop_all xs))

-- the first one
pub parameters_of : {A : Type 0} (f : A → Declarator) (xs : List A) (k : ℕ) (x : A) (ps qs rs : Pieces) → k ≡ 1 → 0 < length xs → x ≡ get_or xs 0 x →
    qs ≡ further (map f (drop k xs)) ps → rs ≡ type_name_of (f x) qs → rs ≡ parameters (map f xs) ps
parameters_of f xs k x ps qs rs n l e h w =
    w ∙ ap (λ zs. type_name_of (f x) zs) (h ∙ ap (λ j. further (map f (drop j xs)) ps) n) ∙ ap (λ ys. parameters (map f ys) ps) (sym (drop_at xs 0 x l e))
