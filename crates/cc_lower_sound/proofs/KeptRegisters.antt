-- A register of a function is one of the lowered function, and so is each temporary.
use Rattle.std.proofs.Common.{◌≡◌, ◌<◌, ◌≤◌, ℕ, zero, suc, Bool, true, false, not, ◌+◌, ◌-◌, ◌&&◌, ◌||◌, List, [], ◌∷◌, ◌++◌, length, map, Option, Some, None, is_some, slice_get, refl, ap, sym, ◌∙◌, subst, arith, length-append}
use Rattle.std.proofs.lemmas.List.{length-map}
use Rattle.std.specs.List.{list_any}
use Rattle.cc_lower_expressions.specs.Expressions.{Temps}
use Rattle.cc_lower_expressions.specs.Programs.{made_of, temporaries, lowered_body, lower_func}
use Rattle.cc_lower_expressions.specs.Temporaries.{declared_type}
use Rattle.cc_operand_types.proofs.Changes.{GoodLevel}
use Rattle.cc_program.specs.declared.expr.Expr.{Expr}
use Rattle.cc_program.specs.declared.expr.Expr.TheOpen as one
use Rattle.cc_program.specs.declared.expr.Place.{Place}
use Rattle.cc_program.specs.declared.func.Func.{Func}
use Rattle.cc_program.specs.declared.program.Program.{Program}
use Rattle.cc_program.specs.declared.stmt.Case.{Case}
use Rattle.cc_program.specs.declared.stmt.Stmt.{Stmt}
use Rattle.cc_program.specs.declared.stmt.Stmt.TheOpen as is
use Rattle.cc_program.proofs.Each.{Each, Held}
use Rattle.cc_program.proofs.ExprInduction.{Parts, PlaceParts}
use Rattle.cc_eval.specs.CcSyntax.Registers.{PlaceUse, is_address_taken, place_use, is_taken_in, is_taken_in_optional, is_addressed, may_be_register, is_register}
use Rattle.cc_eval.specs.CcSyntax.Sound.{any_names, IsFuncBy, IsTypedProgram}
use Rattle.cc_eval.specs.CcSyntax.Types.{Named}
use Rattle.cc_eval.specs.CcSyntax.Values.{ValueType, NoValue, Integer, ToObject, ToFunction, scalar_value, is_scalar}
use Rattle.cc_eval.specs.CcSyntax.Views.{of_program}
use Rattle.cc_lower_sound.specs.Statements.{are_plain, has_plain_statements}
use Rattle.cc_lower_sound.proofs.AddressReading.{first_false, second_false, Untaken, UntakenPlace, UntakenIn, UntakenCase, taken_case, taken_at, use_at, taken-roll, use-roll, stmt_at, stmt-taken-roll, case-taken-roll, none_taken, each_untaken, address_reading, address_body_reading, address_laws, address_body_laws}
use Rattle.cc_lower_sound.proofs.Bools.{two, first_true, second_true}
use Rattle.cc_lower_sound.proofs.LoweredBodies.{body_made}
use Rattle.cc_lower_sound.proofs.Pieces.{IsGood, AreGood, Declared}
use Rattle.cc_lower_sound.proofs.Standing.{declares, declared_stands}
use Rattle.cc_lower_sound.proofs.TypedAddresses.{untaken_outside, place_outside}
use Rattle.cc_lower_sound.proofs.TypedBodies.{any_each, anything as any_level}
use Rattle.cc_lower_sound.proofs.TypedPrograms.{all_at, tested_at, kept_front, behind, moved, longer, as_local, good_temps}
use Rattle.cc_lower_sound.proofs.TypedReading.{anything, anywhere, declared_value}

module _ (r : ℕ) where
  two_parts : (a b : Bool) → a || b ≡ false → (a ≡ false) × (b ≡ false)
  two_parts a b h = (first_false a b h, second_false a b h)

  each_expr : (es : List Expr) → list_any (λ b. b) (map (is_address_taken r) es) ≡ false → Each (Untaken r) es
  each_expr [] h = tt
  each_expr (e ∷ es) h = (first_false (is_address_taken r e) (list_any (λ b. b) (map (is_address_taken r) es)) h, each_expr es (second_false (is_address_taken r e) (list_any (λ b. b) (map (is_address_taken r) es)) h))

  untaken_parts : (x : one.Expr-F Expr Place) → taken_at r x ≡ false → Parts (Untaken r) (UntakenPlace r) x
  untaken_parts (one.Const n t) h = tt
  untaken_parts (one.Null t) h = tt
  untaken_parts (one.FuncAddr i) h = tt
  untaken_parts (one.Load a) h = h
  untaken_parts (one.AddrOf a) h = second_false ((place_use r a).is_local) ((place_use r a).address_taken) h
  untaken_parts (one.Un o t a) h = h
  untaken_parts (one.Bin o t a b) h = two_parts (is_address_taken r a) (is_address_taken r b) h
  untaken_parts (one.Conv t a) h = h
  untaken_parts (one.Qualify t a) h = h
  untaken_parts (one.Move a b back) h = two_parts (is_address_taken r a) (is_address_taken r b) h
  untaken_parts (one.Gap a b) h = two_parts (is_address_taken r a) (is_address_taken r b) h
  untaken_parts (one.Compare o a b) h = two_parts (is_address_taken r a) (is_address_taken r b) h
  untaken_parts (one.Both a b) h = two_parts (is_address_taken r a) (is_address_taken r b) h
  untaken_parts (one.Either a b) h = two_parts (is_address_taken r a) (is_address_taken r b) h
  untaken_parts (one.Choose c a b) h =
      let k = second_false (is_address_taken r c) (is_address_taken r a || is_address_taken r b) h in
      (first_false (is_address_taken r c) (is_address_taken r a || is_address_taken r b) h, first_false (is_address_taken r a) (is_address_taken r b) k, second_false (is_address_taken r a) (is_address_taken r b) k)
  untaken_parts (one.Assign a e) h = two_parts ((place_use r a).address_taken) (is_address_taken r e) h
  untaken_parts (one.Change a o t e) h = two_parts ((place_use r a).address_taken) (is_address_taken r e) h
  untaken_parts (one.After a down) h = h
  untaken_parts (one.Call g args) h = (first_false (is_address_taken r g) (list_any (λ b. b) (map (is_address_taken r) args)) h, each_expr args (second_false (is_address_taken r g) (list_any (λ b. b) (map (is_address_taken r) args)) h))
  untaken_parts (one.Intr i None) h = tt
  untaken_parts (one.Intr i (Some a)) h = h
  untaken_parts (one.Seq a b) h = two_parts (is_address_taken r a) (is_address_taken r b) h

  untaken_place_parts : (x : one.Place-F Expr Place) → (use_at r x).address_taken ≡ false → PlaceParts (Untaken r) (UntakenPlace r) x
  untaken_place_parts (one.Local s) h = tt
  untaken_place_parts (one.Static i) h = tt
  untaken_place_parts (one.Device i) h = tt
  untaken_place_parts (one.Element a i) h = two_parts ((place_use r a).address_taken) (is_address_taken r i) h
  untaken_place_parts (one.Member a m) h = h
  untaken_place_parts (one.Deref e) h = h

  each_case : (ks : List Case) → list_any (λ b. b) (map (taken_case r) ks) ≡ false → Each (UntakenCase r) ks
  each_case [] h = tt
  each_case (k ∷ ks) h = (first_false (taken_case r k) (list_any (λ b. b) (map (taken_case r) ks)) h, each_case ks (second_false (taken_case r k) (list_any (λ b. b) (map (taken_case r) ks)) h))

  held : (o : Option Expr) → is_taken_in_optional r o ≡ false → Held (Untaken r) o
  held None h = tt
  held (Some e) h = h

  abbrev any_in : List Stmt → Bool
  any_in xs = list_any (λ b. b) (map (is_taken_in r) xs)

  untaken_level : (x : is.Stmt-F Stmt Case) → stmt_at r x ≡ false → GoodLevel (Untaken r) (UntakenIn r) (UntakenCase r) x
  untaken_level (is.Do e) h = h
  untaken_level (is.If e a b) h =
      let k = second_false (is_address_taken r e) (any_in a || any_in b) h in
      (first_false (is_address_taken r e) (any_in a || any_in b) h, each_untaken r a (first_false (any_in a) (any_in b) k), each_untaken r b (second_false (any_in a) (any_in b) k))
  untaken_level (is.While e a) h = (first_false (is_address_taken r e) (any_in a) h, each_untaken r a (second_false (is_address_taken r e) (any_in a) h))
  untaken_level (is.DoWhile a e) h = (second_false (any_in a) (is_address_taken r e) h, each_untaken r a (first_false (any_in a) (is_address_taken r e) h))
  untaken_level (is.For first test again a) h =
      let k = second_false (is_taken_in_optional r first) (is_taken_in_optional r test || (is_taken_in_optional r again || any_in a)) h in
      let q = second_false (is_taken_in_optional r test) (is_taken_in_optional r again || any_in a) k in (
        held first (first_false (is_taken_in_optional r first) (is_taken_in_optional r test || (is_taken_in_optional r again || any_in a)) h),
        held test (first_false (is_taken_in_optional r test) (is_taken_in_optional r again || any_in a) k),
        held again (first_false (is_taken_in_optional r again) (any_in a) q),
        each_untaken r a (second_false (is_taken_in_optional r again) (any_in a) q),
      )
  untaken_level (is.Switch e cases) h = (first_false (is_address_taken r e) (list_any (λ b. b) (map (taken_case r) cases)) h, each_case cases (second_false (is_address_taken r e) (list_any (λ b. b) (map (taken_case r) cases)) h))
  untaken_level is.Break h = tt
  untaken_level is.Continue h = tt
  untaken_level (is.Return e) h = held e h
  untaken_level is.Empty h = tt
  untaken_level (is.Block a) h = each_untaken r a h

-- ---- whatever the temporaries

any_declared : (k : ℕ) (ts : Temps) → Declared (λ n t. Unit {0}) k ts
any_declared k [] = tt
any_declared k (o ∷ ts) = (λ t e. tt, any_declared (k + 1) ts)

module _ (p : Program) (h : IsTypedProgram p) (f : Func) (k : IsFuncBy p any_names f) (plain_body : are_plain f.body ≡ true) where
  abbrev pub lowered_func : Func
  lowered_func = lower_func p f

  -- a local whose address the function does not take
  addressed_kept : (r : ℕ) → is_addressed f r ≡ false → is_addressed lowered_func r ≡ false
  addressed_kept r a =
      none_taken r (lowered_body p f) ((body_made p f (address_reading p f r (Untaken r) (UntakenPlace r) (UntakenIn r) (UntakenCase r)) (address_body_reading p f r (Untaken r) (UntakenPlace r) (UntakenIn r) (UntakenCase r))
      (address_laws p f r (Untaken r) (UntakenPlace r) (UntakenIn r) (UntakenCase r) (λ x z. untaken_parts r x (sym (taken-roll r x) ∙ z)) (λ x z. untaken_place_parts r x (ap (λ (u : PlaceUse). u.address_taken) (sym (use-roll r x)) ∙ z))
      (λ x z. untaken_level r x (sym (stmt-taken-roll r x) ∙ z)) (λ x z. each_untaken r x.body (sym (case-taken-roll r x) ∙ z)) (λ e t d o. o) (λ a t d o. o))
      (address_body_laws p f r (Untaken r) (UntakenPlace r) (UntakenIn r) (UntakenCase r) (λ x z. untaken_parts r x (sym (taken-roll r x) ∙ z)) (λ x z. untaken_place_parts r x (ap (λ (u : PlaceUse). u.address_taken) (sym (use-roll r x)) ∙ z))
      (λ x z. untaken_level r x (sym (stmt-taken-roll r x) ∙ z)) (λ x z. each_untaken r x.body (sym (case-taken-roll r x) ∙ z)) (λ e t d o. o) (λ a t d o. o))
      (λ e t d. refl) (λ x t d e. refl) f.body k.body plain_body (each_untaken r f.body a)).made (length f.locals) tt (any_declared (length f.locals) (made_of p f).temps)).0

  -- a temporary
  fresh_unaddressed : (r : ℕ) → length f.locals ≤ r → is_addressed lowered_func r ≡ false
  fresh_unaddressed r b =
      none_taken r (lowered_body p f) ((body_made p f (address_reading p f r (λ e. Unit {0}) (λ a. Unit {0}) (λ s. Unit {0}) (λ c. Unit {0})) (address_body_reading p f r (λ e. Unit {0}) (λ a. Unit {0}) (λ s. Unit {0}) (λ c. Unit {0}))
      (address_laws p f r (λ e. Unit {0}) (λ a. Unit {0}) (λ s. Unit {0}) (λ c. Unit {0}) (λ x z. anything x) (λ x z. anywhere x) (λ x z. any_level x) (λ x z. any_each x.body) (λ e t d o. untaken_outside p f r b e t d) (λ a t d o. place_outside p f r b a t d))
      (address_body_laws p f r (λ e. Unit {0}) (λ a. Unit {0}) (λ s. Unit {0}) (λ c. Unit {0}) (λ x z. anything x) (λ x z. anywhere x) (λ x z. any_level x) (λ x z. any_each x.body) (λ e t d o. untaken_outside p f r b e t d) (λ a t d o. place_outside p f r b a t d))
      (λ e t d. refl) (λ x t d e. refl) f.body k.body plain_body (any_each f.body)).made (length f.locals) tt (any_declared (length f.locals) (made_of p f).temps)).0

  register_parts : (o : Option Named) (r : ℕ) → slice_get f.locals r ≡ o → may_be_register o ≡ true → not (is_addressed f r) ≡ true → may_be_register (slice_get lowered_func.locals r) && not (is_addressed lowered_func r) ≡ true
  register_parts None r e m a = absurd (cc)
  register_parts (Some l) r e m a =
      two (may_be_register (slice_get lowered_func.locals r)) (not (is_addressed lowered_func r)) (ap may_be_register (kept_front f.locals (temporaries p f) r l e) ∙ m) (ap not (addressed_kept r (not_true (is_addressed f r) a)))
    where
      not_true : (b : Bool) → not b ≡ true → b ≡ false
      not_true true z = absurd (cc)
      not_true false z = refl

  pub register_kept : (r : ℕ) → is_register f r ≡ true → is_register lowered_func r ≡ true
  unfolding is_register
  register_kept r e = register_parts (slice_get f.locals r) r refl (first_true (may_be_register (slice_get f.locals r)) (not (is_addressed f r)) e) (second_true (may_be_register (slice_get f.locals r)) (not (is_addressed f r)) e)

  -- ---- temporaries are registers

  not_volatile : (t : ValueType) → is_scalar t ≡ true → (declared_type (Some t)).volatile ≡ false
  not_volatile NoValue s = absurd (cc)
  not_volatile (Integer i) s = refl
  not_volatile (ToObject c u t) s = refl
  not_volatile (ToFunction g) s = refl

  good_register : (o : Option ValueType) → IsGood (declares (of_program p)) o → may_be_register (Some (as_local o)) ≡ true
  good_register o g =
      let d = declared_value (of_program p) g.type g.scalar (declared_stands (of_program p) g.type g.standing) in
      ap (λ (z : Option ValueType). may_be_register (Some (as_local z))) g.is
      ∙ two (is_some (scalar_value (declared_type (Some g.type)))) (not (declared_type (Some g.type)).volatile) (ap is_some d.1) (ap not (not_volatile g.type g.scalar))

  fresh_register : (r : ℕ) (o : Option ValueType) → length f.locals ≤ r → slice_get lowered_func.locals r ≡ Some (as_local o) → IsGood (declares (of_program p)) o → is_register lowered_func r ≡ true
  unfolding is_register
  fresh_register r o b e g = two (may_be_register (slice_get lowered_func.locals r)) (not (is_addressed lowered_func r)) (ap may_be_register e ∙ good_register o g) (ap not (fresh_unaddressed r b))

  registers_from : (front : List Named) (ts : Temps) → lowered_func.locals ≡ front ++ map as_local ts → length f.locals ≤ length front → AreGood (declares (of_program p)) ts → Declared (λ n t. is_register lowered_func n ≡ true) (length front) ts
  registers_from front [] e b g = tt
  registers_from front (o ∷ ts) e b g =
      let here : slice_get lowered_func.locals (length front) ≡ Some (as_local o) = ap (λ (l : List Named). slice_get l (length front)) e ∙ behind front (map as_local ts) (as_local o) in
      let more : length (front ++ as_local o ∷ []) ≡ length front + 1 = longer front (as_local o) in
      let rest = registers_from (front ++ as_local o ∷ []) ts (e ∙ moved front (map as_local ts) (as_local o)) (omega (arith, more)) g.1 in
      (λ t z. fresh_register (length front) o b here g.0, subst (λ (n : ℕ). Declared (λ n t. is_register lowered_func n ≡ true) n ts) more rest)

  pub temporaries_registers : Declared (λ n t. is_register lowered_func n ≡ true) (length f.locals) (made_of p f).temps
  temporaries_registers = registers_from f.locals (made_of p f).temps refl (omega arith) (good_temps p h f k plain_body)

-- ---- of each function of a program

pub register_law : (p : Program) → IsTypedProgram p → has_plain_statements p ≡ true → (i : ℕ) (f : Func) → slice_get p.funcs i ≡ Some f → (r : ℕ) → is_register f r ≡ true → is_register (lower_func p f) r ≡ true
register_law p h plain i f e r z = register_kept p h f (all_at (IsFuncBy p any_names) p.funcs i f h.funcs e) (tested_at (λ (f : Func). are_plain f.body) p.funcs i f plain e) r z

-- what is said of good temporaries from a number on holds of each
declared_at : (stands : ValueType → Bool) (T : ℕ → Type 0) (k : ℕ) (ts : Temps) → AreGood stands ts → Declared (λ n t. T n) k ts → (i : ℕ) → i < length ts → T (k + i)
declared_at stands T k [] g d i lt = absurd (omega arith)
declared_at stands T k (o ∷ ts) g d zero lt = let e : k ≡ k + 0 = omega arith in subst T e (d.0 g.0.type g.0.is)
declared_at stands T k (o ∷ ts) g d (suc i) lt = let e : (k + 1) + i ≡ k + suc i = omega arith in subst T e (declared_at stands T (k + 1) ts g.1 d.1 i (omega arith))

pub temporary_law : (p : Program) → IsTypedProgram p → has_plain_statements p ≡ true → (i : ℕ) (f : Func) → slice_get p.funcs i ≡ Some f →
    (r : ℕ) → length f.locals ≤ r → r < length (lower_func p f).locals → is_register (lower_func p f) r ≡ true
temporary_law p h plain i f e r b lt =
    let k = all_at (IsFuncBy p any_names) p.funcs i f h.funcs e in
    let q = tested_at (λ (f : Func). are_plain f.body) p.funcs i f plain e in
    let n : ℕ = length f.locals in
    let ts : Temps = (made_of p f).temps in
    let long : length (f.locals ++ temporaries p f) ≡ n + length ts = length-append f.locals (temporaries p f) ∙ ap (λ (m : ℕ). n + m) (length-map ts as_local) in
    let same : n + (r - n) ≡ r = omega arith in
    subst (λ (m : ℕ). is_register (lower_func p f) m ≡ true) same
    (declared_at (declares (of_program p)) (λ m. is_register (lower_func p f) m ≡ true) n ts (good_temps p h f k q) (temporaries_registers p h f k q) (r - n) (omega (arith, long)))
