-- What holds of pieces: their temporaries have types that may be declared, and where they are declared so, each statement is as it should
-- be, and so is the value.
use Rattle.std.proofs.Common.{◌≡◌, ℕ, suc, Bool, true, false, ◌+◌, List, [], ◌∷◌, ◌++◌, length, Option, Some, refl, subst, arith, if◌then◌else◌}
use Rattle.cc_program.specs.declared.expr.Expr.{Expr}
use Rattle.cc_program.specs.declared.stmt.Stmt.{Stmt, If}
use Rattle.cc_program.proofs.Each.{Each}
use Rattle.cc_eval.specs.CcSyntax.Values.{ValueType, is_scalar}
use Rattle.cc_lower_expressions.specs.Expressions.{Temps, Make, done, ◌>>=◌, fresh, emit, fork, temp, set, into, mapped, with_both}

pub each_append : {A : Type 0} (P : A → Type 0) (xs ys : List A) → Each P xs → Each P ys → Each P (xs ++ ys)
each_append P [] ys h k = k
each_append {A} P (x ∷ xs) ys h k = (h.0, each_append P xs ys h.1 k)

pub each_where : {A : Type 0} (P Q : A → Type 0) (xs : List A) → ((x : A) → P x → Q x) → Each P xs → Each Q xs
each_where P Q [] f h = tt
each_where P Q (x ∷ xs) f h = (f x h.0, each_where P Q xs f h.1)

-- a scalar type that may stand
module _ (stands : ValueType → Bool) where
  pub record IsGood (o : Option ValueType) : Type 0 where
    pub type : ValueType
    pub is : o ≡ Some type
    pub scalar : is_scalar type ≡ true
    pub standing : stands type ≡ true

abbrev pub Any : {A : Type 0} → A → Type 0
Any x = Unit {0}

module _ (stands : ValueType → Bool) where
  abbrev pub AreGood : Temps → Type 0
  AreGood ts = Each (IsGood stands) ts

module _ (Temp : ℕ → ValueType → Type 0) where
  abbrev pub TempAs : ℕ → Option ValueType → Type 0
  TempAs k o = (t : ValueType) → o ≡ Some t → Temp k t

  -- so many temporaries from a number on are declared with these types
  abbrev pub Declared : ℕ → Temps → Type 0
  Declared k [] = Unit {0}
  Declared k (o ∷ ts) = TempAs k o × Declared (k + 1) ts

  pub declared_apart : (k : ℕ) (xs ys : Temps) → Declared k (xs ++ ys) → Declared k xs × Declared (k + length xs) ys
  declared_apart k [] ys h = let e : k ≡ k + 0 = omega arith in (tt, subst (λ (n : ℕ). Declared n ys) e h)
  declared_apart k (o ∷ xs) ys h =
      let r = declared_apart (k + 1) xs ys h.1 in
      let e : (k + 1) + length xs ≡ k + suc (length xs) = omega arith in
      ((h.0, r.0), subst (λ (n : ℕ). Declared n ys) e r.1)

module _ (stands : ValueType → Bool) (Temp : ℕ → ValueType → Type 0) (Stm : Stmt → Type 0) where
  -- what is made where P holds: temporaries are good whatever holds, and where they are declared, the value has V
  pub record Gives (P : Type 0) {A : Type 0} (V : A → Type 0) (m : Make A) : Type 0 where
    pub good : (k : ℕ) → AreGood stands (m k).temps
    pub made : (k : ℕ) → P → Declared Temp k (m k).temps → Each Stm (m k).stmts × V (m k).value

module _ {stands : ValueType → Bool} {Temp : ℕ → ValueType → Type 0} {Stm : Stmt → Type 0} where
  pub gives_done : {A : Type 0} {P : Type 0} {V : A → Type 0} (x : A) → (P → V x) → Gives stands Temp Stm P V (done x)
  gives_done x h = record { good = λ k. tt; made = λ k p d. (tt, h p) }

  pub gives_bind : {A B : Type 0} {P : Type 0} {V : A → Type 0} {W : B → Type 0} (m : Make A) (f : A → Make B) → Gives stands Temp Stm P V m → ((x : A) → Gives stands Temp Stm (P × V x) W (f x)) → Gives stands Temp Stm P W (m >>= f)
  gives_bind {A} {B} {P} {V} {W} m f h g = record {
    good = λ k. each_append (IsGood stands) (m k).temps (f (m k).value (k + length (m k).temps)).temps (h.good k) ((g (m k).value).good (k + length (m k).temps));
    made = λ k p d.
        let n : ℕ = k + length (m k).temps in
        let x : A = (m k).value in
        let parts = declared_apart Temp k (m k).temps (f x n).temps d in
        let a = h.made k p parts.0 in
        let b = (g x).made n (p, a.1) parts.1 in
        (each_append Stm (m k).stmts (f x n).stmts a.0 b.0, b.1);
  }

  pub gives_known : {A B : Type 0} {P : Type 0} {W : B → Type 0} (x : A) (f : A → Make B) → Gives stands Temp Stm P W (f x) → Gives stands Temp Stm P W (done x >>= f)
  gives_known x f h = record {
    good = λ k. h.good (k + 0);
    made = λ k p d. h.made (k + 0) p (declared_apart Temp k [] (f x (k + 0)).temps d).1;
  }

  pub gives_under : {A : Type 0} {P Q : Type 0} {V : A → Type 0} {m : Make A} → (Q → P) → Gives stands Temp Stm P V m → Gives stands Temp Stm Q V m
  gives_under f h = record { good = h.good; made = λ k q d. h.made k (f q) d }

  pub gives_emit : {P : Type 0} (s : Stmt) → (P → Stm s) → Gives stands Temp Stm P Any (emit s)
  gives_emit s h = record { good = λ k. tt; made = λ k p d. ((h p, tt), tt) }

  pub gives_fresh : {P : Type 0} (o : Option ValueType) (t : ValueType) → o ≡ Some t → is_scalar t ≡ true → stands t ≡ true → Gives stands Temp Stm P (λ n. Temp n t) (fresh o)
  gives_fresh o t e s w = record { good = λ k. (record { type = t; is = e; scalar = s; standing = w }, tt); made = λ k p d. (tt, d.0 t e) }

  -- a right side goes to a temporary
  pub gives_into : {P : Type 0} {V : Expr → Type 0} (o : Option ValueType) (t : ValueType) (e : Expr) → o ≡ Some t → is_scalar t ≡ true → stands t ≡ true →
      (P → (n : ℕ) → Temp n t → Stm (set n e) × V (temp n)) → Gives stands Temp Stm P V (into o e)
  gives_into o t e is s w h = record {
    good = λ k. (record { type = t; is = is; scalar = s; standing = w }, tt);
    made = λ k p d. let r = h p k (d.0 t is) in ((r.0, tt), r.1);
  }

  pub gives_if : {A : Type 0} {P : Type 0} {V : A → Type 0} (b : Bool) (m n : Make A) → (b ≡ true → Gives stands Temp Stm P V m) → (b ≡ false → Gives stands Temp Stm P V n) → Gives stands Temp Stm P V (if b then m else n)
  gives_if true m n h k = h refl
  gives_if false m n h k = k refl

  -- an `if`, whose arms are as they should be
  pub gives_fork : {P : Type 0} (c : Expr) (these those : Make (Unit {0})) → Gives stands Temp Stm P Any these → Gives stands Temp Stm P Any those →
      (P → (xs ys : List Stmt) → Each Stm xs → Each Stm ys → Stm (If c xs ys)) → Gives stands Temp Stm P Any (fork c these those)
  gives_fork {P} c these those h g law = record {
    good = λ k. each_append (IsGood stands) (these k).temps (those (k + length (these k).temps)).temps (h.good k) (g.good (k + length (these k).temps));
    made = λ k p d.
        let n : ℕ = k + length (these k).temps in
        let parts = declared_apart Temp k (these k).temps (those n).temps d in
        ((law p (these k).stmts (those n).stmts (h.made k p parts.0).0 (g.made n p parts.1).0, tt), tt);
  }

  pub gives_mapped : {A B : Type 0} {P : Type 0} {V : A → Type 0} {W : B → Type 0} {m : Make A} (f : A → B) → ((x : A) → P → V x → W (f x)) → Gives stands Temp Stm P V m → Gives stands Temp Stm P W (λ k. mapped f (m k))
  gives_mapped {m = m} f law h = record { good = h.good; made = λ k p d. let r = h.made k p d in (r.0, law (m k).value p r.1) }

  pub gives_both : {A B C : Type 0} {P : Type 0} {V : A → Type 0} {W : B → Type 0} {U : C → Type 0} (f : A → B → C) (a : Make A) (b : Make B) →
      ((x : A) (y : B) → P → V x → W y → U (f x y)) → Gives stands Temp Stm P V a → Gives stands Temp Stm P W b → Gives stands Temp Stm P U (with_both f a b)
  gives_both {P = P} f a b law h g = record {
    good = λ k. each_append (IsGood stands) (a k).temps (b (k + length (a k).temps)).temps (h.good k) (g.good (k + length (a k).temps));
    made = λ k p d.
        let n : ℕ = k + length (a k).temps in
        let parts = declared_apart Temp k (a k).temps (b n).temps d in
        let x = h.made k p parts.0 in
        let y = g.made n p parts.1 in
        (each_append Stm (a k).stmts (b n).stmts x.0 y.0, law (a k).value (b n).value p x.1 y.1);
  }

-- with another notion of statements, which holds where the first one does
pub gives_where : {stands : ValueType → Bool} {Temp : ℕ → ValueType → Type 0} {S R : Stmt → Type 0} {A : Type 0} {P : Type 0} {V : A → Type 0} {m : Make A} →
    ((s : Stmt) → S s → R s) → Gives stands Temp S P V m → Gives stands Temp R P V m
gives_where {S = S} {R = R} {m = m} f h = record { good = h.good; made = λ k p d. let r = h.made k p d in (each_where S R (m k).stmts f r.0, r.1) }
