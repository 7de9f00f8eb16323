-- Tables are ordered, since their parts are: each law of tables from that of the parts.
use Rattle.std.specs.Prelude.{◌≡◌, List, [], ◌∷◌, length, refl}
use Rattle.std.specs.List.{AllZip}
use Rattle.std.proofs.Common.{ap, sym, ◌∙◌}
use Rattle.std.proofs.lemmas.List.Elements.{length_all_zip}
use Rattle.cc_lattice.specs.declared.table.Table.{Table}
use Rattle.cc_lattice.specs.Tables.{HaveOneShape}

-- lists of parts

zip_itself : {L : Type 0} (alike P : L → L → Type 0) → ((x y : L) → alike x y → P x x) → (xs ys : List L) → AllZip alike xs ys → AllZip P xs xs
zip_itself alike P each [] ys h = tt
zip_itself alike P each (x ∷ xs) [] h = absurd h
zip_itself alike P each (x ∷ xs) (y ∷ ys) h = (each x y h.0, zip_itself alike P each xs ys h.1)

zip_back : {L : Type 0} (alike : L → L → Type 0) → ((x y : L) → alike x y → alike y x) → (xs ys : List L) → AllZip alike xs ys → AllZip alike ys xs
zip_back alike each [] [] h = tt
zip_back alike each [] (y ∷ ys) h = absurd h
zip_back alike each (x ∷ xs) [] h = absurd h
zip_back alike each (x ∷ xs) (y ∷ ys) h = (each x y h.0, zip_back alike each xs ys h.1)

abbrev pub Transits : {L : Type 0} → (L → L → Type 0) → (L → L → Type 0) → Type 0
Transits {L} alike below = (x y z : L) → alike x y → alike y z → alike x z → below x y → below y z → below x z

zip_through : {L : Type 0} (alike below : L → L → Type 0) → Transits alike below → (xs ys zs : List L)
    → AllZip alike xs ys → AllZip alike ys zs → AllZip alike xs zs → AllZip below xs ys → AllZip below ys zs → AllZip below xs zs
zip_through alike below each [] ys [] xy yz xz a b = tt
zip_through alike below each [] ys (z ∷ zs) xy yz xz a b = absurd xz
zip_through alike below each (x ∷ xs) ys [] xy yz xz a b = absurd xz
zip_through alike below each (x ∷ xs) [] (z ∷ zs) xy yz xz a b = absurd xy
zip_through alike below each (x ∷ xs) (y ∷ ys) (z ∷ zs) xy yz xz a b =
    (each x y z xy.0 yz.0 xz.0 a.0 b.0, zip_through alike below each xs ys zs xy.1 yz.1 xz.1 a.1 b.1)

cons_same : {L : Type 0} {x y : L} {xs ys : List L} → x ≡ y → xs ≡ ys → x ∷ xs ≡ y ∷ ys
cons_same {y = y} {xs = xs} h k = ap (λ a. a ∷ xs) h ∙ ap (λ ls. y ∷ ls) k

zip_same : {L : Type 0} (alike below : L → L → Type 0) → ((x y : L) → alike x y → below x y → below y x → x ≡ y) → (xs ys : List L)
    → AllZip alike xs ys → AllZip below xs ys → AllZip below ys xs → xs ≡ ys
zip_same alike below each [] [] h a b = refl
zip_same alike below each [] (y ∷ ys) h a b = absurd h
zip_same alike below each (x ∷ xs) [] h a b = absurd h
zip_same alike below each (x ∷ xs) (y ∷ ys) h a b = cons_same (each x y h.0 a.0 b.0) (zip_same alike below each xs ys h.1 a.1 b.1)

zip_below : {L : Type 0} (alike below : L → L → Type 0) → ((x : L) → alike x x → below x x) → (xs : List L) → AllZip alike xs xs → AllZip below xs xs
zip_below alike below each [] h = tt
zip_below alike below each (x ∷ xs) h = (each x h.0, zip_below alike below each xs h.1)

-- tables

abbrev tabled : {K L : Type 0} → List K → List L → Table K L
tabled ks ls = record { keys = ks; parts = ls }

pub alike_with_itself : {K L : Type 0} {alike : L → L → Type 0} → ((x y : L) → alike x y → alike x x) → (x y : Table K L) → HaveOneShape alike x y → HaveOneShape alike x x
alike_with_itself {alike = alike} each x y h = record { keys = refl; one_each = h.one_each; parts = zip_itself alike alike each x.parts y.parts h.parts }

pub alike_both_ways : {K L : Type 0} {alike : L → L → Type 0} → ((x y : L) → alike x y → alike y x) → (x y : Table K L) → HaveOneShape alike x y → HaveOneShape alike y x
alike_both_ways {alike = alike} each x y h = record {
  keys = sym h.keys;
  one_each = sym (ap length h.keys) ∙ (h.one_each ∙ length_all_zip alike x.parts y.parts h.parts);
  parts = zip_back alike each x.parts y.parts h.parts;
}

pub below_with_itself : {K L : Type 0} (alike below : L → L → Type 0) → ((x : L) → alike x x → below x x) → (x : Table K L) → HaveOneShape alike x x
    → (x.keys ≡ x.keys) × AllZip below x.parts x.parts
below_with_itself alike below each x h = (refl, zip_below alike below each x.parts h.parts)

pub below_in_turn : {K L : Type 0} (alike below : L → L → Type 0) → Transits alike below → (x y z : Table K L)
    → HaveOneShape alike x y → HaveOneShape alike y z → HaveOneShape alike x z
    → (x.keys ≡ y.keys) × AllZip below x.parts y.parts → (y.keys ≡ z.keys) × AllZip below y.parts z.parts → (x.keys ≡ z.keys) × AllZip below x.parts z.parts
below_in_turn alike below each x y z xy yz xz a b =
    (xz.keys, zip_through alike below each x.parts y.parts z.parts xy.parts yz.parts xz.parts a.1 b.1)

pub tables_same : {K L : Type 0} (alike below : L → L → Type 0) → ((x y : L) → alike x y → below x y → below y x → x ≡ y) → (x y : Table K L)
    → HaveOneShape alike x y → (x.keys ≡ y.keys) × AllZip below x.parts y.parts → (y.keys ≡ x.keys) × AllZip below y.parts x.parts → x ≡ y
tables_same alike below each x y h a b =
    ap (λ ks. tabled ks x.parts) h.keys ∙ ap (tabled y.keys) (zip_same alike below each x.parts y.parts h.parts a.1 b.1)
