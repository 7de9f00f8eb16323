-- Lists of marks and of levels, read from their beginnings: one place more.
use Rattle.std.proofs.Common.{◌≡◌, ℕ, ◌+◌, ◌<◌, List, [], ◌∷◌, ◌++◌, length, get_or, take, arith}
use Rattle.std.specs.List.{AllZip}
use Rattle.std.proofs.lemmas.List.{get_or_default}
use Rattle.cc_lattice.specs.Tables.{AreJoins}
use Rattle.cc_lattice.proofs.Joins.{joins_more}
use Rattle.cc_lattice.proofs.Parts.{zip_more}

pub zip_next : {A : Type 0} (R : A → A → Type 0) (xs ys : List A) (i : ℕ) (d : A) → i < length xs → length xs ≡ length ys
    → AllZip R (take i xs) (take i ys) → R (get_or xs i d) (get_or ys i d) → AllZip R (take (i + 1) xs) (take (i + 1) ys)
zip_next R xs ys i d l e h k =
    let m : i < length ys = omega arith in
    zip_more R xs ys i (get_or xs i d) (get_or ys i d) l m (get_or_default xs i d (get_or xs i d) l) (get_or_default ys i d (get_or ys i d) m) h k

pub joins_next : {A : Type 0} (J : A → A → A → Type 0) (xs ys js : List A) (i : ℕ) (d j : A) → i < length xs → length xs ≡ length ys
    → AreJoins J (take i xs) (take i ys) js → J (get_or xs i d) (get_or ys i d) j → AreJoins J (take (i + 1) xs) (take (i + 1) ys) (js ++ j ∷ [])
joins_next J xs ys js i d j l e h k =
    let m : i < length ys = omega arith in
    joins_more J xs ys js i (get_or xs i d) (get_or ys i d) j l m (get_or_default xs i d (get_or xs i d) l) (get_or_default ys i d (get_or ys i d) m) h k
