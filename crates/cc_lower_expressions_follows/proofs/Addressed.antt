-- Whose addresses are taken: what is made of pieces takes those that its parts take.
use Rattle.std.proofs.Common.{◌≡◌, ℕ, ◌+◌, Bool, true, false, ◌||◌, List, [], ◌∷◌, ◌++◌, map, length, Option, refl, ap, sym, ◌∙◌}
use Rattle.std.specs.List.{list_any}
use Rattle.cc_program.specs.declared.expr.Expr.{Expr, Load, Assign, roll-Expr, map-Expr, fold-roll-Expr}
use Rattle.cc_program.specs.declared.expr.Expr.TheOpen as one
use Rattle.cc_program.specs.declared.expr.Expr.TheVariants.{rolls-Load, rolls-Assign}
use Rattle.cc_program.specs.declared.expr.Place.{Place, Local, roll-Place, map-Place, fold-roll-Place}
use Rattle.cc_program.specs.declared.expr.Place.TheVariants.{rolls-Local}
use Rattle.cc_program.specs.declared.stmt.Stmt.{Stmt, Do, If, fold-roll-Stmt}
use Rattle.cc_program.specs.declared.stmt.Stmt.TheVariants.{rolls-Do, rolls-If}
use Rattle.cc_program.specs.declared.stmt.Stmt.TheOpen as is
use Rattle.cc_states.specs.CcSyntax.Registers.{PlaceUse, address_step, use_step, is_address_taken, place_use, stmt_step, is_taken_in}
use Rattle.cc_states.specs.CcSyntax.Values.{ValueType}
use Rattle.cc_lower_expressions.specs.Expressions.{Make, done, ◌>>=◌, fresh, emit, fork, into, temp, set, mapped, with_both, branch}

-- ---- truths

pub or_none : (a : Bool) → a || false ≡ a
or_none true = refl
or_none false = refl

pub or_grouped : (a b c : Bool) → (a || b) || c ≡ a || (b || c)
or_grouped true b c = refl
or_grouped false b c = refl

pub or_turned : (a b : Bool) → a || b ≡ b || a
or_turned true true = refl
or_turned true false = refl
or_turned false true = refl
or_turned false false = refl

pub or_same : (a : Bool) → a || a ≡ a
or_same true = refl
or_same false = refl

pub or_again : (a b : Bool) → (a || b) || a ≡ a || b
or_again true b = refl
or_again false b = or_none b

pub or_twice : (a b : Bool) → a || (a || b) ≡ a || b
or_twice true b = refl
or_twice false b = refl

or_pairs : (a b c d : Bool) → (a || b) || (c || d) ≡ (a || c) || (b || d)
or_pairs true b c d = refl
or_pairs false true true d = refl
or_pairs false true false d = refl
or_pairs false false c d = refl

or_front : (a b c : Bool) → a || (c || b) ≡ c || (a || b)
or_front true b true = refl
or_front true b false = refl
or_front false b c = refl

module _ (r : ℕ) where
  abbrev pub takes : Expr → Bool
  takes e = is_address_taken r e

  abbrev pub place_takes : Place → Bool
  place_takes a = (place_use r a).address_taken

  abbrev pub any : List Stmt → Bool
  any xs = list_any (λ b. b) (map (is_taken_in r) xs)

  -- ---- levels

  pub takes-rolled : (x : one.Expr-F Expr Place) → takes (roll-Expr x) ≡ address_step r (map-Expr Expr Place Bool PlaceUse (is_address_taken r) (place_use r) x)
  unfolding is_address_taken place_use
  takes-rolled x = fold-roll-Expr Bool PlaceUse (address_step r) (use_step r) x

  pub use-rolled : (x : one.Place-F Expr Place) → place_use r (roll-Place x) ≡ use_step r (map-Place Expr Place Bool PlaceUse (is_address_taken r) (place_use r) x)
  unfolding is_address_taken place_use
  use-rolled x = fold-roll-Place Bool PlaceUse (address_step r) (use_step r) x

  pub takes-Load : (a : Place) → takes (Load a) ≡ place_takes a
  takes-Load a = ap (is_address_taken r) (sym (rolls-Load a)) ∙ takes-rolled (one.Load a)

  pub takes-temp : (n : ℕ) → takes (temp n) ≡ false
  takes-temp n = takes-Load (Local n) ∙ ap (λ (a : Place). place_takes a) (sym (rolls-Local n)) ∙ ap (λ (u : PlaceUse). u.address_taken) (use-rolled (one.Local n))

  takes-Assign : (a : Place) (e : Expr) → takes (Assign a e) ≡ place_takes a || takes e
  takes-Assign a e = ap (is_address_taken r) (sym (rolls-Assign a e)) ∙ takes-rolled (one.Assign a e)

  pub taken-Do : (e : Expr) → is_taken_in r (Do e) ≡ takes e
  taken-Do e = ap (is_taken_in r) (sym (rolls-Do e)) ∙ fold-roll-Stmt Bool Bool (stmt_step r) (λ c. list_any (λ b. b) c.body) (is.Do e)

  taken-If : (e : Expr) (a b : List Stmt) → is_taken_in r (If e a b) ≡ takes e || (any a || any b)
  taken-If e a b = ap (is_taken_in r) (sym (rolls-If e a b)) ∙ fold-roll-Stmt Bool Bool (stmt_step r) (λ c. list_any (λ b. b) c.body) (is.If e a b)

  pub taken-put : (a : Place) (e : Expr) → is_taken_in r (Do (Assign a e)) ≡ place_takes a || takes e
  taken-put a e = taken-Do (Assign a e) ∙ takes-Assign a e

  pub taken-set : (n : ℕ) (e : Expr) → is_taken_in r (set n e) ≡ takes e
  taken-set n e = taken-put (Local n) e ∙ ap (λ (b : Bool). b || takes e) (ap (λ (a : Place). place_takes a) (sym (rolls-Local n)) ∙ ap (λ (u : PlaceUse). u.address_taken) (use-rolled (one.Local n)))

  pub any-append : (xs ys : List Stmt) → any (xs ++ ys) ≡ any xs || any ys
  any-append [] ys = refl
  any-append (x ∷ xs) ys = ap (λ (b : Bool). is_taken_in r x || b) (any-append xs ys) ∙ sym (or_grouped (is_taken_in r x) (any xs) (any ys))

  -- ---- pieces: what the statements take, and what stands for the value

  abbrev pub Has : {A : Type 0} → (A → Bool) → Bool → Make A → Type 0
  Has v taken m = (k : ℕ) → any (m k).stmts || v (m k).value ≡ taken

  abbrev pub no_more : {A : Type 0} → A → Bool
  no_more x = false

  pub has_as : {A : Type 0} (v : A → Bool) (t u : Bool) (m : Make A) → t ≡ u → Has v t m → Has v u m
  has_as v t u m e h k = h k ∙ e

  pub has_done : {A : Type 0} (v : A → Bool) (x : A) → Has v (v x) (done x)
  has_done v x k = refl

  pub has_emit : (s : Stmt) → Has no_more (is_taken_in r s) (emit s)
  has_emit s k = or_none (is_taken_in r s || false) ∙ or_none (is_taken_in r s)

  pub has_into : (v : Expr → Bool) → ((n : ℕ) → v (temp n) ≡ false) → (t : Option ValueType) (e : Expr) → Has v (takes e) (into t e)
  has_into v none t e k = ap (λ (b : Bool). (is_taken_in r (set k e) || false) || b) (none k) ∙ or_none (is_taken_in r (set k e) || false) ∙ or_none (is_taken_in r (set k e)) ∙ taken-set k e

  -- to what stands for it then
  pub has_into_with : (v : Expr → Bool) (c : Bool) → ((n : ℕ) → v (temp n) ≡ c) → (t : Option ValueType) (e : Expr) → Has v (takes e || c) (into t e)
  has_into_with v c is t e k = ap (λ (b : Bool). (is_taken_in r (set k e) || false) || b) (is k) ∙ ap (λ (b : Bool). b || c) (or_none (is_taken_in r (set k e)) ∙ taken-set k e)

  module _ {A B : Type 0} (v : A → Bool) (u : B → Bool) (t : Bool) (m : Make A) (f : A → Make B) where
    pub has_then : Has v t m → ((x : A) → Has u (v x) (f x)) → Has u t (m >>= f)
    has_then h n k =
        let x = m k in
        let y = f x.value (k + length x.temps) in
        ap (λ (b : Bool). b || u y.value) (any-append x.stmts y.stmts) ∙ or_grouped (any x.stmts) (any y.stmts) (u y.value) ∙ ap (λ (b : Bool). any x.stmts || b) (n x.value (k + length x.temps)) ∙ h k

  pub has_fresh : {B : Type 0} (u : B → Bool) (t : Bool) (type : Option ValueType) (f : ℕ → Make B) → ((n : ℕ) → Has u t (f n)) → Has u t (fresh type >>= f)
  has_fresh u t type f h k = h k (k + 1)

  statements_take : (t : Bool) (m : Make (Unit {0})) → Has no_more t m → (k : ℕ) → any (m k).stmts ≡ t
  statements_take t m h k = sym (or_none (any (m k).stmts)) ∙ h k

  pub has_fork : (c : Expr) (these those : Make (Unit {0})) (t u : Bool) → Has no_more t these → Has no_more u those → Has no_more (takes c || (t || u)) (fork c these those)
  has_fork c these those t u h j k =
      let x = these k in
      let y = those (k + length x.temps) in
      or_none (is_taken_in r (If c x.stmts y.stmts) || false) ∙ or_none (is_taken_in r (If c x.stmts y.stmts)) ∙ taken-If c x.stmts y.stmts ∙
      ap (λ (b : Bool). takes c || (b || any y.stmts)) (statements_take t these h k) ∙ ap (λ (b : Bool). takes c || (t || b)) (statements_take u those j (k + length x.temps))

  module _ {A B C : Type 0} (f : A → B → C) (v : A → Bool) (u : B → Bool) (w : C → Bool) (joins : (x : A) (y : B) → w (f x y) ≡ v x || u y) (s t : Bool) (a : Make A) (b : Make B) where
    pub has_both : Has v s a → Has u t b → Has w (s || t) (with_both f a b)
    has_both h j k =
        let x = a k in
        let y = b (k + length x.temps) in
        ap (λ (z : Bool). z || w (f x.value y.value)) (any-append x.stmts y.stmts) ∙ ap (λ (z : Bool). (any x.stmts || any y.stmts) || z) (joins x.value y.value) ∙
        or_pairs (any x.stmts) (any y.stmts) (v x.value) (u y.value) ∙ ap (λ (z : Bool). z || (any y.stmts || u y.value)) (h k) ∙ ap (λ (z : Bool). s || z) (j (k + length x.temps))

  pub has_mapped : {A B : Type 0} (f : A → B) (v : A → Bool) (u : B → Bool) → ((x : A) → u (f x) ≡ v x) → (t : Bool) (m : Make A) → Has v t m → Has u t (λ k. mapped f (m k))
  has_mapped f v u maps t m h k = ap (λ (b : Bool). any (m k).stmts || b) (maps (m k).value) ∙ h k

  -- with what is taken behind it, or in front
  pub has_behind : {A : Type 0} (v : A → Bool) (t c : Bool) (m : Make A) → Has v t m → Has (λ x. v x || c) (t || c) m
  has_behind v t c m h k = sym (or_grouped (any (m k).stmts) (v (m k).value) c) ∙ ap (λ (b : Bool). b || c) (h k)

  pub has_before : {A : Type 0} (v : A → Bool) (t c : Bool) (m : Make A) → Has v t m → Has (λ x. c || v x) (c || t) m
  has_before v t c m h k = or_front (any (m k).stmts) (v (m k).value) c ∙ ap (λ (b : Bool). c || b) (h k)

  -- arms that set a temporary
  pub has_branch : (v : Expr → Bool) → ((n : ℕ) → v (temp n) ≡ false) → (type : Option ValueType) (c : Make Expr) (these those : ℕ → Make (Unit {0})) (s t u : Bool) → Has takes s c →
      ((n : ℕ) → Has no_more t (these n)) → ((n : ℕ) → Has no_more u (those n)) → Has v (s || (t || u)) (branch type c these those)
  has_branch v none type c these those s t u h i j =
      has_then (λ x. takes x || (t || u)) v (s || (t || u)) c (λ x. fresh type >>= (λ n. fork x (these n) (those n) >>= (λ y. done (temp n)))) (has_behind takes s (t || u) c h)
      (λ x. has_fresh v (takes x || (t || u)) type (λ n. fork x (these n) (those n) >>= (λ y. done (temp n)))
      (λ n k. ap (λ (b : Bool). b || v (temp n)) (any-append (fork x (these n) (those n) k).stmts []) ∙ or_grouped (any (fork x (these n) (those n) k).stmts) false (v (temp n)) ∙
      ap (λ (b : Bool). any (fork x (these n) (those n) k).stmts || b) (none n) ∙ has_fork x (these n) (those n) t u (i n) (j n) k))
