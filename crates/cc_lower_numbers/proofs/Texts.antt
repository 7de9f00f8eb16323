-- What texts have, one more list at a time.
use Rattle.std.proofs.Common.{◌≡◌, ◌∙◌, ◌+◌, ◌<◌, ◌++◌, ℕ, List, [], ◌∷◌, length, get_or, take, map, refl, ap, sym, append_assoc}
use Rattle.std.specs.Prelude.{option_to_list, slice_get}
use Rattle.std.specs.List.{flat_map}
use Rattle.std.proofs.lemmas.Grind.{flat_map-append}
use Rattle.std.proofs.lemmas.List.{append-nil, map-append, take_more, take_all}
use Rattle.cc_program.specs.declared.expr.Expr.{Expr}
use Rattle.cc_program.specs.declared.func.Func.{Func}
use Rattle.cc_program.specs.declared.stmt.Case.{Case, out-Case, fold-Case, fold_out-Case}
use Rattle.cc_program.specs.declared.stmt.Stmt.{Stmt, If, Switch, fold-roll-Stmt}
use Rattle.cc_program.specs.declared.stmt.Stmt.TheVariants.{rolls-If, rolls-Switch}
use Rattle.cc_program.specs.declared.stmt.Stmt.TheOpen as is
use Rattle.cc_syntax.specs.Normal.{devices_step, devices_of, devices_in}
use Rattle.cc_lower_numbers.specs.Order.{arranged}
use Rattle.cc_lower_numbers.specs.Temporaries.{written_step, written_by, written_in}

module _ {X : Type 0} {A : Type 0} (f : X → List A) where
  flat_more : (xs : List X) (i : ℕ) (d : X) → i < length xs → flat_map f (take (i + 1) xs) ≡ flat_map f (take i xs) ++ f (get_or xs i d)
  flat_more xs i d h = ap (flat_map f) (take_more xs i d h) ∙ flat_map-append f (take i xs) (get_or xs i d ∷ []) ∙ ap (λ l. flat_map f (take i xs) ++ l) (append-nil (f (get_or xs i d)))

module _ {X : Type 0} (f : X → List ℕ) where
  mapped : (xs : List X) → flat_map (λ ds. ds) (map f xs) ≡ flat_map f xs
  mapped [] = refl
  mapped (x ∷ xs) = ap (λ l. f x ++ l) (mapped xs)

  mapped_more : (xs : List X) (i : ℕ) (d : X) → i < length xs → flat_map (λ ds. ds) (map f (take (i + 1) xs)) ≡ flat_map (λ ds. ds) (map f (take i xs)) ++ f (get_or xs i d)
  mapped_more xs i d h = mapped (take (i + 1) xs) ∙ flat_more f xs i d h ∙ ap (λ l. l ++ f (get_or xs i d)) (sym (mapped (take i xs)))

-- ---- what is written

pub written_more : (list : List Stmt) (i : ℕ) (d : Stmt) → i < length list → written_in (take (i + 1) list) ≡ written_in (take i list) ++ written_by (get_or list i d)
written_more list i d h = mapped_more written_by list i d h

pub written_cases_more : (cases : List Case) (i : ℕ) (d : Case) → i < length cases →
    flat_map (λ c. written_in (out-Case c).body) (take (i + 1) cases) ≡ flat_map (λ c. written_in (out-Case c).body) (take i cases) ++ written_in (out-Case (get_or cases i d)).body
written_cases_more cases i d h = flat_more (λ (c : Case). written_in (out-Case c).body) cases i d h

written_case : Case → List ℕ
written_case c = fold-Case (List ℕ) (List ℕ) written_step (λ c. flat_map (λ rs. rs) c.body) c

written_cases : (cases : List Case) → flat_map (λ ds. ds) (map written_case cases) ≡ flat_map (λ c. written_in (out-Case c).body) cases
unfolding written_case
written_cases [] = refl
written_cases (c ∷ cases) =
    ap (λ l. l ++ flat_map (λ ds. ds) (map written_case cases)) (fold_out-Case (List ℕ) (List ℕ) written_step (λ c. flat_map (λ rs. rs) c.body) c) ∙ ap (λ l. written_in (out-Case c).body ++ l) (written_cases cases)

pub written-If : (e : Expr) (a b : List Stmt) → written_by (If e a b) ≡ written_in a ++ written_in b
written-If e a b = ap written_by (sym (rolls-If e a b)) ∙ fold-roll-Stmt (List ℕ) (List ℕ) written_step (λ c. flat_map (λ rs. rs) c.body) (is.If e a b)

pub written-Switch : (e : Expr) (cases : List Case) → written_by (Switch e cases) ≡ flat_map (λ c. written_in (out-Case c).body) cases
unfolding written_case
written-Switch e cases =
    ap written_by (sym (rolls-Switch e cases)) ∙ fold-roll-Stmt (List ℕ) (List ℕ) written_step (λ c. flat_map (λ rs. rs) c.body) (is.Switch e cases) ∙ written_cases cases

pub ruleset of_written = (append_assoc, append-nil, take_all, written_more, written_cases_more, written-If, written-Switch)

-- ---- devices

pub devices_more : (list : List Stmt) (i : ℕ) (d : Stmt) → i < length list → devices_in (take (i + 1) list) ≡ devices_in (take i list) ++ devices_of (get_or list i d)
devices_more list i d h = mapped_more devices_of list i d h

pub devices_cases_more : (cases : List Case) (i : ℕ) (d : Case) → i < length cases →
    flat_map (λ c. devices_in (out-Case c).body) (take (i + 1) cases) ≡ flat_map (λ c. devices_in (out-Case c).body) (take i cases) ++ devices_in (out-Case (get_or cases i d)).body
devices_cases_more cases i d h = flat_more (λ (c : Case). devices_in (out-Case c).body) cases i d h

pub devices_funcs_more : (fs : List Func) (i : ℕ) (d : Func) → i < length fs →
    flat_map (λ f. devices_in f.body) (take (i + 1) fs) ≡ flat_map (λ f. devices_in f.body) (take i fs) ++ devices_in (get_or fs i d).body
devices_funcs_more fs i d h = flat_more (λ (f : Func). devices_in f.body) fs i d h

device_case : Case → List ℕ
device_case c = fold-Case (List ℕ) (List ℕ) devices_step (λ c. flat_map (λ ds. ds) c.body) c

device_cases : (cases : List Case) → flat_map (λ ds. ds) (map device_case cases) ≡ flat_map (λ c. devices_in (out-Case c).body) cases
unfolding device_case
device_cases [] = refl
device_cases (c ∷ cases) =
    ap (λ l. l ++ flat_map (λ ds. ds) (map device_case cases)) (fold_out-Case (List ℕ) (List ℕ) devices_step (λ c. flat_map (λ ds. ds) c.body) c) ∙ ap (λ l. devices_in (out-Case c).body ++ l) (device_cases cases)

pub devices-If : (e : Expr) (a b : List Stmt) → devices_of (If e a b) ≡ devices_in a ++ devices_in b
devices-If e a b = ap devices_of (sym (rolls-If e a b)) ∙ fold-roll-Stmt (List ℕ) (List ℕ) devices_step (λ c. flat_map (λ ds. ds) c.body) (is.If e a b)

pub devices-Switch : (e : Expr) (cases : List Case) → devices_of (Switch e cases) ≡ flat_map (λ c. devices_in (out-Case c).body) cases
unfolding device_case
devices-Switch e cases =
    ap devices_of (sym (rolls-Switch e cases)) ∙ fold-roll-Stmt (List ℕ) (List ℕ) devices_step (λ c. flat_map (λ ds. ds) c.body) (is.Switch e cases) ∙ device_cases cases

pub ruleset of_devices = (append_assoc, append-nil, take_all, devices_more, devices_cases_more, devices_funcs_more, devices-If, devices-Switch)

-- ---- elements in an order

pub arranged_more : {A : Type 0} (all : List A) (order : List ℕ) (i d : ℕ) → i < length order → arranged all (take (i + 1) order) ≡ arranged all (take i order) ++ option_to_list (slice_get all (get_or order i d))
arranged_more all order i d h = flat_more (λ (k : ℕ). option_to_list (slice_get all k)) order i d h

pub ruleset of_arranged = (arranged_more, take_all)
