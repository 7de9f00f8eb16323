-- Numbers in the order of their first appearance, in lists that stand one behind another.
use Rattle.std.proofs.Common.{arith, ◌≡◌, ◌<◌, ◌+◌, ℕ, zero, suc, Bool, true, false, List, [], ◌∷◌, ◌++◌, map, take, length, get_or, append_assoc, refl, ap, sym, ◌∙◌, add-one, Option, Some, None, nat_lt, nat_eq, if◌then◌else◌}
use Rattle.std.specs.List.{flat_map}
use Rattle.std.proofs.lemmas.List.{append-nil}
use Rattle.std.specs.Prelude.{option_and_then}
use Rattle.cc_program.specs.declared.expr.Expr.{Expr}
use Rattle.cc_program.specs.declared.stmt.Case.{Case, out-Case, fold-Case, fold_out-Case}
use Rattle.cc_program.specs.declared.stmt.Stmt.{Stmt, If, Switch, fold-roll-Stmt}
use Rattle.cc_program.specs.declared.stmt.Stmt.TheVariants.{rolls-If, rolls-Switch}
use Rattle.cc_program.specs.declared.stmt.Stmt.TheOpen as is
use Rattle.cc_syntax.specs.Normal.{next_of, devices_step, devices_of, devices_in}

-- what is next behind a list
abbrev next_behind : List ℕ → ℕ → Option ℕ
next_behind ys n = next_of n ys

next_step : (n d : ℕ) (a b : Bool) (xs ys : List ℕ) → ((m : ℕ) → next_of m (xs ++ ys) ≡ option_and_then (next_behind ys) (next_of m xs)) →
    (if a then next_of n (xs ++ ys) else (if b then next_of (n + 1) (xs ++ ys) else None)) ≡ option_and_then (next_behind ys) (if a then next_of n xs else (if b then next_of (n + 1) xs else None))
next_step n d true b xs ys h = h n
next_step n d false true xs ys h = h (n + 1)
next_step n d false false xs ys h = refl

pub next-append : (n : ℕ) (xs ys : List ℕ) → next_of n (xs ++ ys) ≡ option_and_then (next_behind ys) (next_of n xs)
next-append n [] ys = refl
next-append n (d ∷ xs) ys = next_step n d (nat_lt d n) (nat_eq d n) xs ys (λ m. next-append m xs ys)

-- behind two lists
pub next_both : (n m : ℕ) (xs ys : List ℕ) (last : Option ℕ) → next_of n xs ≡ Some m → last ≡ next_of m ys → last ≡ next_of n (xs ++ ys)
next_both n m xs ys last h k = k ∙ sym (next-append n xs ys ∙ ap (option_and_then (next_behind ys)) h)

pub next_none : (n : ℕ) (xs ys : List ℕ) → next_of n xs ≡ None → None ≡ next_of n (xs ++ ys)
next_none n xs ys h = sym (next-append n xs ys ∙ ap (option_and_then (next_behind ys)) h)

module _ {A : Type 0} (f : A → List ℕ) where
  flat_more : (xs : List A) (i : ℕ) (x : A) → i < length xs → x ≡ get_or xs i x → flat_map f (take (suc i) xs) ≡ flat_map f (take i xs) ++ f x
  flat_more [] i x h e = absurd (omega (arith, h))
  flat_more (y ∷ xs) zero x h e = append-nil (f y) ∙ ap f (sym e)
  flat_more (y ∷ xs) (suc i) x h e = ap (λ l. f y ++ l) (flat_more xs i x (omega (arith, h)) e) ∙ sym (append_assoc (f y) (flat_map f (take i xs)) (f x))

  pub next_more : (n m k : ℕ) (xs : List A) (i : ℕ) (x : A) → i < length xs → x ≡ get_or xs i x → next_of n (flat_map f (take i xs)) ≡ Some m → next_of m (f x) ≡ Some k → next_of n (flat_map f (take (i + 1) xs)) ≡ Some k
  next_more n m k xs i x h e p q = rw (add-one, flat_more xs i x h e) (sym (next_both n m (flat_map f (take i xs)) (f x) (Some k) p (sym q)))

  flat_split : (xs : List A) (i : ℕ) (x : A) → i < length xs → x ≡ get_or xs i x → (rest : List ℕ) × (flat_map f xs ≡ (flat_map f (take i xs) ++ f x) ++ rest)
  flat_split [] i x h e = absurd (omega (arith, h))
  flat_split (y ∷ xs) zero x h e = (flat_map f xs, ap (λ z. f z ++ flat_map f xs) (sym e))
  flat_split (y ∷ xs) (suc i) x h e =
      let r = flat_split xs i x (omega (arith, h)) e in
      (r.0, ap (λ l. f y ++ l) r.1 ∙ sym (append_assoc (f y) (flat_map f (take i xs) ++ f x) r.0) ∙ ap (λ l. l ++ r.0) (sym (append_assoc (f y) (flat_map f (take i xs)) (f x))))

  pub next_stops : (n m : ℕ) (xs : List A) (i : ℕ) (x : A) → i < length xs → x ≡ get_or xs i x → next_of n (flat_map f (take i xs)) ≡ Some m → next_of m (f x) ≡ None → None ≡ next_of n (flat_map f xs)
  next_stops n m xs i x h e p q =
      let r = flat_split xs i x h e in
      next_none n (flat_map f (take i xs) ++ f x) r.0 (next-append n (flat_map f (take i xs)) (f x) ∙ ap (option_and_then (next_behind (f x))) p ∙ q) ∙ ap (next_of n) (sym r.1)

  mapped : (xs : List A) → flat_map (λ ds. ds) (map f xs) ≡ flat_map f xs
  mapped [] = refl
  mapped (x ∷ xs) = ap (λ l. f x ++ l) (mapped xs)

  pub mapped_more : (n m k : ℕ) (xs : List A) (i : ℕ) (x : A) → i < length xs → x ≡ get_or xs i x → next_of n (flat_map (λ ds. ds) (map f (take i xs))) ≡ Some m → next_of m (f x) ≡ Some k →
      next_of n (flat_map (λ ds. ds) (map f (take (i + 1) xs))) ≡ Some k
  mapped_more n m k xs i x h e p q = ap (next_of n) (mapped (take (i + 1) xs)) ∙ next_more n m k xs i x h e (ap (next_of n) (sym (mapped (take i xs))) ∙ p) q

  pub mapped_stops : (n m : ℕ) (xs : List A) (i : ℕ) (x : A) → i < length xs → x ≡ get_or xs i x → next_of n (flat_map (λ ds. ds) (map f (take i xs))) ≡ Some m → next_of m (f x) ≡ None →
      None ≡ next_of n (flat_map (λ ds. ds) (map f xs))
  mapped_stops n m xs i x h e p q = next_stops n m xs i x h e (ap (next_of n) (sym (mapped (take i xs))) ∙ p) q ∙ ap (next_of n) (sym (mapped xs))

-- what statements with lists in them access
abbrev in_case : is.Case-F (List ℕ) (List ℕ) → List ℕ
in_case c = flat_map (λ ds. ds) c.body

abbrev pub case_devices : Case → List ℕ
case_devices c = devices_in (out-Case c).body

abbrev accessed : Case → List ℕ
accessed c = fold-Case (List ℕ) (List ℕ) devices_step in_case c

all-cases : (cases : List Case) → flat_map (λ ds. ds) (map accessed cases) ≡ flat_map case_devices cases
all-cases [] = refl
all-cases (c ∷ cases) = ap (λ l. l ++ flat_map (λ ds. ds) (map accessed cases)) (fold_out-Case (List ℕ) (List ℕ) devices_step in_case c) ∙ ap (λ l. case_devices c ++ l) (all-cases cases)

pub if_devices : (s : Stmt) (e : Expr) (a b : List Stmt) → s ≡ If e a b → devices_of s ≡ devices_in a ++ devices_in b
if_devices s e a b h = ap devices_of h ∙ ap devices_of (sym (rolls-If e a b)) ∙ fold-roll-Stmt (List ℕ) (List ℕ) devices_step in_case (is.If e a b)

pub switch_devices : (s : Stmt) (e : Expr) (cases : List Case) → s ≡ Switch e cases → devices_of s ≡ flat_map case_devices cases
switch_devices s e cases h = ap devices_of h ∙ ap devices_of (sym (rolls-Switch e cases)) ∙ fold-roll-Stmt (List ℕ) (List ℕ) devices_step in_case (is.Switch e cases) ∙ all-cases cases

pub ruleset of_next = (next_both, next_none, next_more, next_stops, mapped_more, mapped_stops)

pub ruleset of_counts = (add-one)
