-- Joins place by place are joins of tables.
use Rattle.std.proofs.Common.{◌≡◌, ℕ, ◌+◌, ◌<◌, ◌≤◌, List, [], ◌∷◌, ◌++◌, length, get_or, take, sym, ap, subst, ◌∙◌, arith}
use Rattle.std.specs.List.{AllZip}
use Rattle.std.proofs.lemmas.List.{take_all}
use Rattle.std.proofs.lemmas.List.Elements.{length_all_zip}
use Rattle.cc_lattice.specs.declared.table.Table.{Table}
use Rattle.cc_lattice.specs.Orders.{IsLeastUpperBound}
use Rattle.cc_lattice.specs.Tables.{HaveOneShape, AreJoins}
use Rattle.cc_lattice.proofs.Parts.{take_read}

joins_push : {A : Type 0} (J : A → A → A → Type 0) (xs ys js : List A) (x y j : A) → AreJoins J xs ys js → J x y j
    → AreJoins J (xs ++ x ∷ []) (ys ++ y ∷ []) (js ++ j ∷ [])
joins_push J [] [] [] x y j h k = (k, tt)
joins_push J [] [] (c ∷ js) x y j h k = absurd h
joins_push J [] (b ∷ ys) js x y j h k = absurd h
joins_push J (a ∷ xs) [] js x y j h k = absurd h
joins_push J (a ∷ xs) (b ∷ ys) [] x y j h k = absurd h
joins_push J (a ∷ xs) (b ∷ ys) (c ∷ js) x y j h k = (h.0, joins_push J xs ys js x y j h.1 k)

pub joins_more : {A : Type 0} (J : A → A → A → Type 0) (xs ys js : List A) (i : ℕ) (x y j : A) → i < length xs → i < length ys
    → x ≡ get_or xs i x → y ≡ get_or ys i y → AreJoins J (take i xs) (take i ys) js → J x y j → AreJoins J (take (i + 1) xs) (take (i + 1) ys) (js ++ j ∷ [])
joins_more J xs ys js i x y j lx ly ex ey h k =
    let tx : take (i + 1) xs ≡ take i xs ++ x ∷ [] = take_read xs i x lx ex in
    let ty : take (i + 1) ys ≡ take i ys ++ y ∷ [] = take_read ys i y ly ey in
    subst (λ ls. AreJoins J ls (take (i + 1) ys) (js ++ j ∷ [])) (sym tx)
    (subst (λ ls. AreJoins J (take i xs ++ x ∷ []) ls (js ++ j ∷ [])) (sym ty) (joins_push J (take i xs) (take i ys) js x y j h k))

-- a fact of each join, as one of the first parts and the joins, or of the second and the joins
first_zip : {A : Type 0} (J : A → A → A → Type 0) (R : A → A → Type 0) → ((x y j : A) → J x y j → R x j) → (xs ys js : List A) → AreJoins J xs ys js → AllZip R xs js
first_zip J R each [] [] [] h = tt
first_zip J R each [] [] (c ∷ js) h = absurd h
first_zip J R each [] (b ∷ ys) js h = absurd h
first_zip J R each (a ∷ xs) [] js h = absurd h
first_zip J R each (a ∷ xs) (b ∷ ys) [] h = absurd h
first_zip J R each (a ∷ xs) (b ∷ ys) (c ∷ js) h = (each a b c h.0, first_zip J R each xs ys js h.1)

second_zip : {A : Type 0} (J : A → A → A → Type 0) (R : A → A → Type 0) → ((x y j : A) → J x y j → R y j) → (xs ys js : List A) → AreJoins J xs ys js → AllZip R ys js
second_zip J R each [] [] [] h = tt
second_zip J R each [] [] (c ∷ js) h = absurd h
second_zip J R each [] (b ∷ ys) js h = absurd h
second_zip J R each (a ∷ xs) [] js h = absurd h
second_zip J R each (a ∷ xs) (b ∷ ys) [] h = absurd h
second_zip J R each (a ∷ xs) (b ∷ ys) (c ∷ js) h = (each a b c h.0, second_zip J R each xs ys js h.1)

least_zip : {A : Type 0} (alike below : A → A → Type 0) (xs ys js us : List A) → AreJoins (IsLeastUpperBound alike below) xs ys js
    → AllZip alike xs us → AllZip alike ys us → AllZip below xs us → AllZip below ys us → AllZip below js us
least_zip alike below [] [] [] [] h xa ya xb yb = tt
least_zip alike below [] [] [] (u ∷ us) h xa ya xb yb = absurd xa
least_zip alike below [] [] (c ∷ js) us h xa ya xb yb = absurd h
least_zip alike below [] (b ∷ ys) js us h xa ya xb yb = absurd h
least_zip alike below (a ∷ xs) [] js us h xa ya xb yb = absurd h
least_zip alike below (a ∷ xs) (b ∷ ys) [] us h xa ya xb yb = absurd h
least_zip alike below (a ∷ xs) (b ∷ ys) (c ∷ js) [] h xa ya xb yb = absurd xa
least_zip alike below (a ∷ xs) (b ∷ ys) (c ∷ js) (u ∷ us) h xa ya xb yb =
    (h.0.least u xa.0 ya.0 xb.0 yb.0, least_zip alike below xs ys js us h.1 xa.1 ya.1 xb.1 yb.1)

abbrev pub TableBelow : {K L : Type 0} → (L → L → Type 0) → Table K L → Table K L → Type 0
TableBelow below x y = (x.keys ≡ y.keys) × AllZip below x.parts y.parts

pub tables_join : {K L : Type 0} (alike below : L → L → Type 0) (x y j : Table K L) → HaveOneShape alike x y → x.keys ≡ j.keys
    → AreJoins (IsLeastUpperBound alike below) x.parts y.parts j.parts
    → IsLeastUpperBound (HaveOneShape alike) (TableBelow below) x y j
tables_join alike below x y j h keys parts =
    record {
      left_alike = record { keys = keys; one_each = h.one_each; parts = first_zip (IsLeastUpperBound alike below) alike (λ a b c k. k.left_alike) x.parts y.parts j.parts parts };
      right_alike = record { keys = sym h.keys ∙ keys; one_each = sym (ap length h.keys) ∙ (h.one_each ∙ length_all_zip alike x.parts y.parts h.parts); parts = second_zip (IsLeastUpperBound alike below) alike (λ a b c k. k.right_alike) x.parts y.parts j.parts parts };
      left = (keys, first_zip (IsLeastUpperBound alike below) below (λ a b c k. k.left) x.parts y.parts j.parts parts);
      right = (sym h.keys ∙ keys, second_zip (IsLeastUpperBound alike below) below (λ a b c k. k.right) x.parts y.parts j.parts parts);
      least = λ u xa ya xb yb. (sym keys ∙ xb.0, least_zip alike below x.parts y.parts j.parts u.parts parts xa.parts ya.parts xb.1 yb.1);
    }

pub joins_all : {A : Type 0} (J : A → A → A → Type 0) (xs ys js : List A) (i : ℕ) → length xs ≤ i → length xs ≡ length ys → AreJoins J (take i xs) (take i ys) js → AreJoins J xs ys js
joins_all J xs ys js i h e k =
    let tx : take i xs ≡ xs = take_all i xs h in
    let ty : take i ys ≡ ys = take_all i ys (omega arith) in
    subst (λ ls. AreJoins J ls ys js) tx (subst (λ ls. AreJoins J (take i xs) ls js) ty k)
