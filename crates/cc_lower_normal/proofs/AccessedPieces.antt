-- Pieces whose statements have a device.
use Rattle.std.proofs.Common.{◌≡◌, ◌∙◌, ◌+◌, ◌||◌, ℕ, Bool, true, false, List, [], ◌∷◌, ◌++◌, length, Option, None, ap, sym, subst, if◌then◌else◌}
use Rattle.std.specs.List.{flat_map}
use Rattle.std.proofs.lemmas.Bool.{or_left, or_right}
use Rattle.cc_accessed_operands.proofs.Accesses.{or_either, no}
use Rattle.cc_lower_expressions.specs.Expressions.{Make, done, ◌>>=◌, emit, fresh, fork, temp, set, into, with_both, branch, Lowers, from_two, PlaceLowering, read_at, value_of}
use Rattle.cc_lower_numbers.proofs.Texts.{devices-If}
use Rattle.cc_lower_numbers_sound.proofs.Orders.{has, has-append}
use Rattle.cc_program.specs.declared.expr.Expr.{Expr, Load, Assign, roll-Expr, out-roll-Expr}
use Rattle.cc_program.specs.declared.expr.Expr.TheOpen as one
use Rattle.cc_program.specs.declared.expr.Expr.TheVariants.{rolls-Load, rolls-Assign}
use Rattle.cc_program.specs.declared.expr.Place.{Place, Local, out-Place}
use Rattle.cc_program.specs.declared.stmt.Stmt.{Stmt, Do, If, fold-roll-Stmt}
use Rattle.cc_program.specs.declared.stmt.Stmt.TheOpen as is
use Rattle.cc_program.specs.declared.stmt.Stmt.TheVariants.{rolls-Do}
use Rattle.cc_states.specs.CcSyntax.Effects.{Registers, also, is_soft}
use Rattle.cc_states.specs.CcSyntax.Forms.{form_of, form_at}
use Rattle.cc_states.specs.CcSyntax.Normal.{device_in, device_read, devices_accessed, devices_step, devices_of, devices_in}
use Rattle.cc_states.specs.CcSyntax.Values.{ValueType}

do_is : (e : Expr) → devices_of (Do e) ≡ devices_accessed (form_of e)
do_is e = ap devices_of (sym (rolls-Do e)) ∙ fold-roll-Stmt (List ℕ) (List ℕ) devices_step (λ c. flat_map (λ ds. ds) c.body) (is.Do e)

form_is : (x : one.Expr-F Expr Place) (e : Expr) → roll-Expr x ≡ e → form_of e ≡ form_at x
form_is x e r = ap form_of (sym r) ∙ ap form_at (out-roll-Expr x)

assign_is : (b : Place) (e : Expr) → devices_of (Do (Assign b e)) ≡ device_in (out-Place b) ++ device_read (form_of e)
assign_is b e = do_is (Assign b e) ∙ ap devices_accessed (form_is (one.Assign b e) (Assign b e) (rolls-Assign b e))

module _ (d : ℕ) where
  pub has_front : (xs ys : List ℕ) → has d xs ≡ true → has d (xs ++ ys) ≡ true
  has_front xs ys h = has-append d xs ys ∙ or_left (has d xs) (has d ys) h

  pub has_back : (xs ys : List ℕ) → has d ys ≡ true → has d (xs ++ ys) ≡ true
  has_back xs ys h = has-append d xs ys ∙ or_right (has d xs) (has d ys) h

  pub record Has (l : List Stmt) : Type 0 where
    pub is : has d (devices_in l) ≡ true

  pub left : (xs ys : List Stmt) → Has xs → Has (xs ++ ys)
  left [] ys h = no h.is
  left (x ∷ xs) ys h =
      or_either (has d (devices_of x)) (has d (devices_in xs)) (λ k. record { is = has_front (devices_of x) (devices_in (xs ++ ys)) k })
      (λ k. record { is = has_back (devices_of x) (devices_in (xs ++ ys)) (left xs ys (record { is = k })).is }) (sym (has-append d (devices_of x) (devices_in xs)) ∙ h.is)

  pub right : (xs ys : List Stmt) → Has ys → Has (xs ++ ys)
  right [] ys h = h
  right (x ∷ xs) ys h = record { is = has_back (devices_of x) (devices_in (xs ++ ys)) (right xs ys h).is }

  pub head : (s : Stmt) (l : List Stmt) → has d (devices_of s) ≡ true → Has (s ∷ l)
  head s l h = record { is = has_front (devices_of s) (devices_in l) h }

  pub tail : (s : Stmt) (l : List Stmt) → Has l → Has (s ∷ l)
  tail s l h = record { is = has_back (devices_of s) (devices_in l) h.is }

  -- ---- statements

  abbrev pub IsAt : Place → Type 0
  IsAt b = has d (device_in (out-Place b)) ≡ true

  pub written : (b : Place) (e : Expr) → IsAt b → has d (devices_of (Do (Assign b e))) ≡ true
  written b e h = ap (has d) (assign_is b e) ∙ has_front (device_in (out-Place b)) (device_read (form_of e)) h

  pub read_there : (t : Place) (b : Place) → IsAt b → has d (devices_of (Do (Assign t (Load b)))) ≡ true
  read_there t b h =
      ap (has d) (assign_is t (Load b))
      ∙ has_back (device_in (out-Place t)) (device_read (form_of (Load b))) (ap (λ (l : List ℕ). has d l) (ap device_read (form_is (one.Load b) (Load b) (rolls-Load b))) ∙ h)

  pub first_arm : (c : Expr) (xs ys : List Stmt) → Has xs → Has (If c xs ys ∷ [])
  first_arm c xs ys h = head (If c xs ys) [] (ap (has d) (devices-If c xs ys) ∙ has_front (devices_in xs) (devices_in ys) h.is)

  pub second_arm : (c : Expr) (xs ys : List Stmt) → Has ys → Has (If c xs ys ∷ [])
  second_arm c xs ys h = head (If c xs ys) [] (ap (has d) (devices-If c xs ys) ∙ has_back (devices_in xs) (devices_in ys) h.is)

  -- ---- pieces

  pub record Gives {A : Type 0} (m : Make A) : Type 0 where
    pub at : (k : ℕ) → Has (m k).stmts

  pub first : {A B : Type 0} (m : Make A) (f : A → Make B) → Gives m → Gives (m >>= f)
  first m f h = record { at = λ k. left (m k).stmts (f (m k).value (k + length (m k).temps)).stmts (h.at k) }

  pub second : {A B : Type 0} (m : Make A) (f : A → Make B) → ((k : ℕ) → Gives (f (m k).value)) → Gives (m >>= f)
  second m f h = record { at = λ k. right (m k).stmts (f (m k).value (k + length (m k).temps)).stmts ((h k).at (k + length (m k).temps)) }

  pub both_first : {A B C : Type 0} (f : A → B → C) (a : Make A) (b : Make B) → Gives a → Gives (with_both f a b)
  both_first f a b h = record { at = λ k. left (a k).stmts (b (k + length (a k).temps)).stmts (h.at k) }

  pub both_second : {A B C : Type 0} (f : A → B → C) (a : Make A) (b : Make B) → Gives b → Gives (with_both f a b)
  both_second f a b h = record { at = λ k. right (a k).stmts (b (k + length (a k).temps)).stmts (h.at (k + length (a k).temps)) }

  pub fork_first : (c : Expr) (these those : Make (Unit {0})) → Gives these → Gives (fork c these those)
  fork_first c these those h = record { at = λ k. first_arm c (these k).stmts (those (k + length (these k).temps)).stmts (h.at k) }

  pub fork_second : (c : Expr) (these those : Make (Unit {0})) → Gives those → Gives (fork c these those)
  fork_second c these those h = record { at = λ k. second_arm c (these k).stmts (those (k + length (these k).temps)).stmts (h.at (k + length (these k).temps)) }

  pub in_both : {A : Type 0} (b : Bool) (m n : Make A) → Gives m → Gives n → Gives (if b then m else n)
  in_both true m n h k = h
  in_both false m n h k = k

  -- the read of a place that is the device
  pub into_read : (t : Option ValueType) (b : Place) → IsAt b → Gives (into t (Load b))
  into_read t b h = record { at = λ k. head (set k (Load b)) [] (read_there (Local k) b h) }

  pub device_read_at : (m : PlaceLowering) (later : Registers) (b : Place) → m.effects.register ≡ None → IsAt b → Gives (read_at m later b)
  device_read_at m later b r h = subst (λ (o : Option ℕ). Gives (if is_soft o later then done (Load b) else into (value_of m) (Load b))) (sym r) (into_read (value_of m) b h)

  -- two operands of which one gives it
  pub two_give : {A B C : Type 0} (f : A → B → C) (assigned later : Registers) (a : Lowers A) (b : Lowers B) (x y : Bool) →
      (x ≡ true → (later : Registers) → Gives (a later)) → (y ≡ true → (later : Registers) → Gives (b later)) → x || y ≡ true → Gives (from_two f assigned a b later)
  two_give f assigned later a b x y h k q = or_either x y (λ z. both_first f (a (also assigned later)) (b later) (h z (also assigned later))) (λ z. both_second f (a (also assigned later)) (b later) (k z later)) q

  -- ---- shapes

  emit_gives : (s : Stmt) → has d (devices_of s) ≡ true → Gives (emit s)
  emit_gives s h = record { at = λ k. head s [] h }

  -- a value goes to a new temporary, and from there to a place
  module _ (m : Make Place) (t : Option ValueType) (w : ℕ → Make (Unit {0})) where
    abbrev stored : Place → ℕ → Make Expr
    stored b n = emit (Do (Assign b (temp n))) >>= (λ u. done (temp n))

    abbrev worth : Place → ℕ → Make Expr
    worth b n = w n >>= (λ u. emit (Do (Assign b (temp n))) >>= (λ u. done (temp n)))

    abbrev after : Place → Make Expr
    after b = fresh t >>= (λ n. w n >>= (λ u. emit (Do (Assign b (temp n))) >>= (λ u. done (temp n))))

    pub assigned_place : Gives m → Gives (m >>= after)
    assigned_place h = first m after h

    pub assigned_whole : ((n : ℕ) → Gives (w n)) → Gives (m >>= after)
    assigned_whole h = second m after (λ k. second (fresh t) (worth (m k).value) (λ n. first (w n) (λ u. stored (m k).value n) (h n)))

    pub assigned_device : ((k : ℕ) → IsAt (m k).value) → Gives (m >>= after)
    assigned_device h =
        second m after
        (λ k. second (fresh t) (worth (m k).value) (λ n. second (w n) (λ u. stored (m k).value n)
        (λ j. first (emit (Do (Assign (m k).value (temp n)))) (λ u. done (temp n)) (emit_gives (Do (Assign (m k).value (temp n))) (written (m k).value (temp n) (h k))))))

  -- a place and an operand, of which a new value is made that goes to the place
  module _ (m : Make (Place × Expr)) (t : Option ValueType) (c : Place × Expr → Make Expr) where
    abbrev put : Place × Expr → Expr → Make Expr
    put x v = into t v >>= (λ n. emit (Do (Assign x.0 n)) >>= (λ u. done n))

    abbrev put_after : Place × Expr → Make Expr
    put_after x = c x >>= (λ v. into t v >>= (λ n. emit (Do (Assign x.0 n)) >>= (λ u. done n)))

    pub changed_first : Gives m → Gives (m >>= put_after)
    changed_first h = first m put_after h

    pub changed_device : ((k : ℕ) → IsAt (m k).value.0) → Gives (m >>= put_after)
    changed_device h =
        second m put_after
        (λ k. second (c (m k).value) (put (m k).value)
        (λ j. second (into t (c (m k).value j).value) (λ n. emit (Do (Assign (m k).value.0 n)) >>= (λ u. done n))
        (λ i. first (emit (Do (Assign (m k).value.0 (temp i)))) (λ u. done (temp i)) (emit_gives (Do (Assign (m k).value.0 (temp i))) (written (m k).value.0 (temp i) (h k))))))

    abbrev alone_after : Place × Expr → Make (Unit {0})
    alone_after x = c x >>= (λ v. emit (Do (Assign x.0 v)))

    pub alone_first : Gives m → Gives (m >>= alone_after)
    alone_first h = first m alone_after h

    pub alone_device : ((k : ℕ) → IsAt (m k).value.0) → Gives (m >>= alone_after)
    alone_device h =
        second m alone_after
        (λ k. second (c (m k).value) (λ v. emit (Do (Assign (m k).value.0 v))) (λ j. emit_gives (Do (Assign (m k).value.0 (c (m k).value j).value)) (written (m k).value.0 (c (m k).value j).value (h k))))

    abbrev at_once : Place × Expr → Make (Unit {0})
    at_once x = emit (Do (Assign x.0 x.1))

    pub once_first : Gives m → Gives (m >>= at_once)
    once_first h = first m at_once h

    pub once_device : ((k : ℕ) → IsAt (m k).value.0) → Gives (m >>= at_once)
    once_device h = second m at_once (λ k. emit_gives (Do (Assign (m k).value.0 (m k).value.1)) (written (m k).value.0 (m k).value.1 (h k)))

  -- a place is read, and a new value goes to it
  module _ (m : Make Place) (t : Option ValueType) (g : Expr → Expr) (r : Place → Make Expr) where
    abbrev step_back : Place → Expr → Make Expr
    step_back b old = emit (Do (Assign b (g old))) >>= (λ u. done old)

    abbrev step_after : Place → Make Expr
    step_after b = into t (Load b) >>= (λ old. emit (Do (Assign b (g old))) >>= (λ u. done old))

    pub stepped_first : Gives m → Gives (m >>= step_after)
    stepped_first h = first m step_after h

    pub stepped_device : ((k : ℕ) → IsAt (m k).value) → Gives (m >>= step_after)
    stepped_device h = second m step_after (λ k. first (into t (Load (m k).value)) (step_back (m k).value) (into_read t (m k).value (h k)))

    abbrev step_alone_after : Place → Make (Unit {0})
    step_alone_after b = r b >>= (λ old. emit (Do (Assign b (g old))))

    pub step_alone_first : Gives m → Gives (m >>= step_alone_after)
    step_alone_first h = first m step_alone_after h

    pub step_alone_device : ((k : ℕ) → IsAt (m k).value) → Gives (m >>= step_alone_after)
    step_alone_device h =
        second m step_alone_after
        (λ k. second (r (m k).value) (λ old. emit (Do (Assign (m k).value (g old)))) (λ j. emit_gives (Do (Assign (m k).value (g (r (m k).value j).value))) (written (m k).value (g (r (m k).value j).value) (h k))))

  -- a condition, and arms that set a temporary
  module _ (t : Option ValueType) (c : Make Expr) (these those : ℕ → Make (Unit {0})) where
    abbrev arms : Expr → Make Expr
    arms v = fresh t >>= (λ n. fork v (these n) (those n) >>= (λ u. done (temp n)))

    abbrev arms_at : Expr → ℕ → Make Expr
    arms_at v n = fork v (these n) (those n) >>= (λ u. done (temp n))

    pub branch_condition : Gives c → Gives (branch t c these those)
    branch_condition h = first c arms h

    pub branch_first : ((n : ℕ) → Gives (these n)) → Gives (branch t c these those)
    branch_first h =
        second c arms (λ k. second (fresh t) (arms_at (c k).value) (λ n. first (fork (c k).value (these n) (those n)) (λ u. done (temp n)) (fork_first (c k).value (these n) (those n) (h n))))

    pub branch_second : ((n : ℕ) → Gives (those n)) → Gives (branch t c these those)
    branch_second h =
        second c arms (λ k. second (fresh t) (arms_at (c k).value) (λ n. first (fork (c k).value (these n) (those n)) (λ u. done (temp n)) (fork_second (c k).value (these n) (those n) (h n))))
