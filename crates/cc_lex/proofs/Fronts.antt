-- The longest front of a text whose bytes pass a test: what the length that is computed says, and that
-- nothing else has this length.
use Rattle.std.proofs.Common.{◌≡◌, ℕ, suc, ◌+◌, Bool, true, false, cond, List, [], ◌∷◌, ◌++◌, length, take, drop, refl, ap, arith}
use Rattle.std.specs.List.{list_all, prefix_len}
use Rattle.cc_lex.specs.Bytes.{begins_with}
use Rattle.cc_lex.proofs.Booleans.{and-true}

pub take-front : (w rest : List ℕ) → take (length w) (w ++ rest) ≡ w
take-front [] rest = refl
take-front (b ∷ bs) rest = ap (λ (r : List ℕ). b ∷ r) (take-front bs rest)

pub drop-front : (w rest : List ℕ) → drop (length w) (w ++ rest) ≡ rest
drop-front [] rest = refl
drop-front (b ∷ bs) rest = drop-front bs rest

stop-len : (p : ℕ → Bool) (rest : List ℕ) → begins_with p rest ≡ false → prefix_len p rest ≡ 0
stop-len p [] h = refl
stop-len p (b ∷ bs) h = rw h refl

pub front-len : (p : ℕ → Bool) (w rest : List ℕ) → list_all p w ≡ true → begins_with p rest ≡ false → prefix_len p (w ++ rest) ≡ length w
front-len p [] rest h k = stop-len p rest k
front-len p (b ∷ bs) rest h k =
    let e = and-true (p b) (list_all p bs) h in
    let f = front-len p bs rest e.1 k in
    rw (e.0, f) (omega arith)

front-all-at : (p : ℕ → Bool) (b : ℕ) (bs : List ℕ) (t : Bool) → p b ≡ t → list_all p (take (prefix_len p bs) bs) ≡ true → list_all p (take (cond t (1 + prefix_len p bs) 0) (b ∷ bs)) ≡ true
front-all-at p b bs true h k = let e : 1 + prefix_len p bs ≡ suc (prefix_len p bs) = omega arith in rw (e, h) k
front-all-at p b bs false h k = refl

pub front-all : (p : ℕ → Bool) (text : List ℕ) → list_all p (take (prefix_len p text) text) ≡ true
front-all p [] = refl
front-all p (b ∷ bs) = front-all-at p b bs (p b) refl (front-all p bs)

front-stops-at : (p : ℕ → Bool) (b : ℕ) (bs : List ℕ) (t : Bool) → p b ≡ t → begins_with p (drop (prefix_len p bs) bs) ≡ false → begins_with p (drop (cond t (1 + prefix_len p bs) 0) (b ∷ bs)) ≡ false
front-stops-at p b bs true h k = let e : 1 + prefix_len p bs ≡ suc (prefix_len p bs) = omega arith in rw e k
front-stops-at p b bs false h k = h

pub front-stops : (p : ℕ → Bool) (text : List ℕ) → begins_with p (drop (prefix_len p text) text) ≡ false
front-stops p [] = refl
front-stops p (b ∷ bs) = front-stops-at p b bs (p b) refl (front-stops p bs)
