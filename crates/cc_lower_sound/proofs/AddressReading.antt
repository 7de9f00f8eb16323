-- What lowering makes takes no address of a local but where its source does.
use Rattle.std.proofs.Common.{◌≡◌, ℕ, ℤ, Bool, true, false, ◌||◌, nat_eq, List, [], ◌∷◌, map, Option, Some, None, refl, ap, sym, ◌∙◌}
use Rattle.std.specs.List.{list_any}
use Rattle.cc_program.specs.CcNum.declared.int_type.IntType.{IntType}
use Rattle.cc_lower_expressions.specs.Expressions.{temp, constant_in, constant_or, binary_type}
use Rattle.cc_operands.specs.Operands.{null_of}
use Rattle.cc_operands.specs.Qualified.{type_of_value}
use Rattle.cc_operand_types.proofs.Changes.{GoodLevel}
use Rattle.cc_program.specs.declared.expr.Expr.{Expr, Const, Load, AddrOf, Un, Bin, Conv, Qualify, Move, Gap, Compare, Assign, Call, Intr, roll-Expr, map-Expr, fold-roll-Expr}
use Rattle.cc_program.specs.declared.expr.Expr.TheOpen as one
use Rattle.cc_program.specs.declared.expr.Expr.TheVariants.{rolls-Const, rolls-Null, rolls-Load, rolls-AddrOf, rolls-Un, rolls-Bin, rolls-Conv, rolls-Qualify, rolls-Move, rolls-Gap, rolls-Compare, rolls-Assign, rolls-Call, rolls-Intr}
use Rattle.cc_program.specs.declared.expr.Place.{Place, Local, Element, Member, Deref, roll-Place, out-Place, roll-out-Place, map-Place, fold-roll-Place}
use Rattle.cc_program.specs.declared.expr.Place.TheVariants.{rolls-Local, rolls-Element, rolls-Member, rolls-Deref}
use Rattle.cc_program.specs.declared.func.Func.{Func}
use Rattle.cc_program.specs.declared.program.Program.{Program}
use Rattle.cc_program.specs.declared.stmt.Case.{Case, roll-Case, fold-Case, fold-roll-Case}
use Rattle.cc_program.specs.declared.stmt.Stmt.{Stmt, Do, If, While, Switch, Break, Continue, Return, roll-Stmt, map-Stmt, fold-roll-Stmt}
use Rattle.cc_program.specs.declared.stmt.Stmt.TheVariants.{rolls-Do, rolls-If, rolls-While, rolls-Switch, rolls-Break, rolls-Continue, rolls-Return}
use Rattle.cc_program.specs.declared.stmt.Stmt.TheOpen as is
use Rattle.cc_program.specs.declared.types.CType.{CType}
use Rattle.cc_program.proofs.Each.{Each}
use Rattle.cc_program.proofs.ExprInduction.{Parts, PlaceParts}
use Rattle.cc_eval.specs.CcSyntax.Folding.{Constant, NoConstant, Value, Traps, unary_constant, binary_constant, converted_constant}
use Rattle.cc_eval.specs.CcSyntax.Forms.{form_of}
use Rattle.cc_eval.specs.CcSyntax.Operators.{unary_result}
use Rattle.cc_eval.specs.CcSyntax.Registers.{PlaceUse, address_step, use_step, is_address_taken, place_use, stmt_step, is_taken_in}
use Rattle.cc_eval.specs.CcSyntax.Statements.{is_condition}
use Rattle.cc_eval.specs.CcSyntax.Values.{ValueType, PlaceType}
use Rattle.cc_lower_sound.proofs.LoweredBodies.{BodyReading, BodyLaws, AreCases}
use Rattle.cc_lower_sound.proofs.Readings.{Reading, Laws, AllVal, NoneLeft, More, typed, placed, local_of, SameLocal}

pub neither : (a b : Bool) → a ≡ false → b ≡ false → a || b ≡ false
neither true b h k = absurd (cc)
neither false b h k = k

pub first_false : (a b : Bool) → a || b ≡ false → a ≡ false
first_false true b h = absurd (cc)
first_false false b h = refl

pub second_false : (a b : Bool) → a || b ≡ false → b ≡ false
second_false true b h = absurd (cc)
second_false false b h = h

module _ (r : ℕ) where
  abbrev pub Untaken : Expr → Type 0
  Untaken e = is_address_taken r e ≡ false

  abbrev pub UntakenPlace : Place → Type 0
  UntakenPlace a = (place_use r a).address_taken ≡ false

  abbrev pub UntakenIn : Stmt → Type 0
  UntakenIn s = is_taken_in r s ≡ false

  abbrev pub taken_case : Case → Bool
  taken_case k = fold-Case Bool Bool (stmt_step r) (λ c. list_any (λ b. b) c.body) k

  abbrev pub UntakenCase : Case → Type 0
  UntakenCase k = taken_case k ≡ false

  abbrev pub taken_at : one.Expr-F Expr Place → Bool
  taken_at x = address_step r (map-Expr Expr Place Bool PlaceUse (is_address_taken r) (place_use r) x)

  abbrev pub use_at : one.Place-F Expr Place → PlaceUse
  use_at x = use_step r (map-Place Expr Place Bool PlaceUse (is_address_taken r) (place_use r) x)

  pub taken-roll : (x : one.Expr-F Expr Place) → is_address_taken r (roll-Expr x) ≡ taken_at x
  unfolding is_address_taken place_use
  taken-roll x = fold-roll-Expr Bool PlaceUse (address_step r) (use_step r) x

  pub use-roll : (x : one.Place-F Expr Place) → place_use r (roll-Place x) ≡ use_at x
  unfolding is_address_taken place_use
  use-roll x = fold-roll-Place Bool PlaceUse (address_step r) (use_step r) x

  abbrev pub stmt_at : is.Stmt-F Stmt Case → Bool
  stmt_at x = stmt_step r (map-Stmt Stmt Case Bool Bool (is_taken_in r) taken_case x)

  pub stmt-taken-roll : (x : is.Stmt-F Stmt Case) → is_taken_in r (roll-Stmt x) ≡ stmt_at x
  stmt-taken-roll x = fold-roll-Stmt Bool Bool (stmt_step r) (λ c. list_any (λ b. b) c.body) x

  pub case-taken-roll : (x : is.Case-F Stmt Case) → taken_case (roll-Case x) ≡ list_any (λ b. b) (map (is_taken_in r) x.body)
  case-taken-roll x = fold-roll-Case Bool Bool (stmt_step r) (λ c. list_any (λ b. b) c.body) x

  untaken_as : (e : Expr) (x : one.Expr-F Expr Place) → roll-Expr x ≡ e → taken_at x ≡ false → Untaken e
  untaken_as e x q h = ap (is_address_taken r) (sym q) ∙ taken-roll x ∙ h

  place_as : (a : Place) (x : one.Place-F Expr Place) → roll-Place x ≡ a → (use_at x).address_taken ≡ false → UntakenPlace a
  place_as a x q h = ap (λ (a : Place). (place_use r a).address_taken) (sym q) ∙ ap (λ (u : PlaceUse). u.address_taken) (use-roll x) ∙ h

  stmt_as : (s : Stmt) (x : is.Stmt-F Stmt Case) → roll-Stmt x ≡ s → stmt_at x ≡ false → UntakenIn s
  stmt_as s x q h = ap (is_taken_in r) (sym q) ∙ stmt-taken-roll x ∙ h

  -- ---- whether a place is the local

  abbrev is_it : Option ℕ → Bool
  is_it None = false
  is_it (Some s) = nat_eq s r

  it-at : (x : one.Place-F Expr Place) → (use_at x).is_local ≡ is_it (local_of x)
  it-at (one.Local s) = refl
  it-at (one.Static i) = refl
  it-at (one.Device i) = refl
  it-at (one.Element a i) = refl
  it-at (one.Member a m) = refl
  it-at (one.Deref e) = refl

  it-is : (a : Place) → (place_use r a).is_local ≡ is_it (local_of (out-Place a))
  it-is a = ap (λ (a : Place). (place_use r a).is_local) (sym (roll-out-Place a)) ∙ ap (λ (u : PlaceUse). u.is_local) (use-roll (out-Place a)) ∙ it-at (out-Place a)

  same_not_it : (a b : Place) → SameLocal a b → (place_use r b).is_local ≡ false → (place_use r a).is_local ≡ false
  same_not_it a b s h = it-is a ∙ ap is_it s ∙ sym (it-is b) ∙ h

  -- ---- parts

  folded : (i : IntType) (c : Constant) (e : Expr) → Untaken e → Untaken (constant_or i c e)
  folded i NoConstant e h = h
  folded i (Value n) e h = untaken_as (Const n i) (one.Const n i) (rolls-Const n i) refl
  folded i Traps e h = h

  pub none_taken : (xs : List Stmt) → Each UntakenIn xs → list_any (λ b. b) (map (is_taken_in r) xs) ≡ false
  none_taken [] h = refl
  none_taken (s ∷ xs) h = neither (is_taken_in r s) (list_any (λ b. b) (map (is_taken_in r) xs)) h.0 (none_taken xs h.1)

  pub each_untaken : (xs : List Stmt) → list_any (λ b. b) (map (is_taken_in r) xs) ≡ false → Each UntakenIn xs
  each_untaken [] h = tt
  each_untaken (s ∷ xs) h = (first_false (is_taken_in r s) (list_any (λ b. b) (map (is_taken_in r) xs)) h, each_untaken xs (second_false (is_taken_in r s) (list_any (λ b. b) (map (is_taken_in r) xs)) h))

module _ (p : Program) (f : Func) (r : ℕ) (Old : Expr → Type 0) (OldPlace : Place → Type 0) (OldStmt : Stmt → Type 0) (OldCase : Case → Type 0) where
  abbrev pub address_reading : Reading
  address_reading = record {
    Val = λ t e. Untaken r e;
    Pla = λ t a. UntakenPlace r a;
    Right = λ t e. Untaken r e;
    Calls = λ t e. Untaken r e;
    Stm = UntakenIn r;
    Temp = λ n t. Unit {0};
    Takes = λ n t. Unit {0};
    Old = Old;
    OldPlace = OldPlace;
    stands = λ t. true;
    declares = λ t. true;
  }

  abbrev pub address_body_reading : BodyReading
  address_body_reading = record { StmAt = λ b c s. UntakenIn r s; OldStmt = OldStmt; OldCase = OldCase }

  all_untaken : (ts : List CType) (es : List Expr) → AllVal p f address_reading ts es → list_any (λ b. b) (map (is_address_taken r) es) ≡ false
  all_untaken _ _ NoneLeft = refl
  all_untaken _ _ (More t u e ts es k x rest) = neither (is_address_taken r e) (list_any (λ b. b) (map (is_address_taken r) es)) x (all_untaken ts es rest)

  call_untaken : (h : Expr) (ts : List CType) (es : List Expr) → Untaken r h → AllVal p f address_reading ts es → Untaken r (Call h es)
  call_untaken h ts es x a = untaken_as r (Call h es) (one.Call h es) (rolls-Call h es) (neither (is_address_taken r h) (list_any (λ b. b) (map (is_address_taken r) es)) x (all_untaken ts es a))

  local_untaken : (n : ℕ) → UntakenPlace r (Local n)
  local_untaken n = place_as r (Local n) (one.Local n) (rolls-Local n) refl

  load_untaken : (a : Place) → UntakenPlace r a → Untaken r (Load a)
  load_untaken a h = untaken_as r (Load a) (one.Load a) (rolls-Load a) h

  assign_untaken : (a : Place) (e : Expr) → UntakenPlace r a → Untaken r e → UntakenIn r (Do (Assign a e))
  assign_untaken a e h k =
      stmt_as r (Do (Assign a e)) (is.Do (Assign a e)) (rolls-Do (Assign a e)) (untaken_as r (Assign a e) (one.Assign a e) (rolls-Assign a e) (neither ((place_use r a).address_taken) (is_address_taken r e) h k))

  two_untaken : (x : one.Expr-F Expr Place) (e a b : Expr) → roll-Expr x ≡ e → taken_at r x ≡ (is_address_taken r a || is_address_taken r b) → Untaken r a → Untaken r b → Untaken r e
  two_untaken x e a b q z h k = untaken_as r e x q (z ∙ neither (is_address_taken r a) (is_address_taken r b) h k)

  cases_untaken : (c : Bool) (ls : List (List (Option ℤ))) (ks : List Case) → AreCases address_body_reading c ls ks → list_any (λ b. b) (map (taken_case r) ks) ≡ false
  cases_untaken c [] [] h = refl
  cases_untaken c [] (k ∷ ks) h = absurd h
  cases_untaken c (l ∷ ls) [] h = absurd h
  cases_untaken c (l ∷ ls) (k ∷ ks) h =
      neither (taken_case r k) (list_any (λ b. b) (map (taken_case r) ks))
      (ap (taken_case r) h.0.is ∙ case-taken-roll r (record { labels = l; body = h.0.body }) ∙ none_taken r h.0.body h.0.each) (cases_untaken c ls ks h.1)

  typed_there : (o : Option ValueType) → is_condition o ≡ true → (t : ValueType) × (o ≡ Some t)
  typed_there None h = absurd (cc)
  typed_there (Some t) h = (t, refl)

  abbrev any_in : List Stmt → Bool
  any_in xs = list_any (λ b. b) (map (is_taken_in r) xs)

  module _ (parts : (x : one.Expr-F Expr Place) → Old (roll-Expr x) → Parts Old OldPlace x) (place_parts : (x : one.Place-F Expr Place) → OldPlace (roll-Place x) → PlaceParts Old OldPlace x)
      (level : (x : is.Stmt-F Stmt Case) → OldStmt (roll-Stmt x) → GoodLevel Old OldStmt OldCase x) (case_level : (x : is.Case-F Stmt Case) → OldCase (roll-Case x) → Each OldStmt x.body)
      (untaken : (e : Expr) (t : ValueType) → typed p f e ≡ Some t → Old e → Untaken r e) (untaken_place : (a : Place) (t : PlaceType) → placed p f a ≡ Some t → OldPlace a → UntakenPlace r a) where
    pub address_laws : Laws p f address_reading
    address_laws = record {
      parts = parts;
      place_parts = place_parts;
      itself = λ e t later h o k. untaken e t h o;
      place_itself = λ a t later h o k. untaken_place a t h o;
      number = λ n i h. untaken_as r (Const n i) (one.Const n i) (rolls-Const n i) refl;
      null = λ t h k. untaken_as r (null_of t) (one.Null (type_of_value t)) (rolls-Null (type_of_value t)) refl;
      temporary = λ n t h s d. load_untaken (Local n) (local_untaken n);
      register = λ n a t h x k. load_untaken (Local n) x;
      address = λ a b x t h same d o k. untaken_as r (AddrOf b) (one.AddrOf b) (rolls-AddrOf b)
          (neither ((place_use r b).is_local) ((place_use r b).address_taken) (same_not_it r b x same (first_false ((place_use r x).is_local) ((place_use r x).address_taken) (sym (taken-roll r (one.AddrOf x)) ∙ untaken (roll-Expr (one.AddrOf x)) t d o))) h);
      unary = λ o i t z e x h. folded r (unary_result o i) (unary_constant p.target o i (constant_in (form_of e))) (Un o i e) (untaken_as r (Un o i e) (one.Un o i e) (rolls-Un o i e) x);
      binary = λ o i t u z e b x y h. folded r (binary_type o i) (binary_constant p.target o i (constant_in (form_of e)) (constant_in (form_of b))) (Bin o i e b) (two_untaken (one.Bin o i e b) (Bin o i e b) e b (rolls-Bin o i e b) refl x y);
      conversion = λ i t z e x h. folded r i (converted_constant p.target i (constant_in (form_of e))) (Conv i e) (untaken_as r (Conv i e) (one.Conv i e) (rolls-Conv i e) x);
      qualified = λ c t z e x h. untaken_as r (Qualify c e) (one.Qualify c e) (rolls-Qualify c e) x;
      moved = λ t u z e b back x y h. two_untaken (one.Move e b back) (Move e b back) e b (rolls-Move e b back) refl x y;
      gap = λ t u z e b x y h. two_untaken (one.Gap e b) (Gap e b) e b (rolls-Gap e b) refl x y;
      compared = λ o t u z e b x y h. two_untaken (one.Compare o e b) (Compare o e b) e b (rolls-Compare o e b) refl x y;
      element = λ a z t b e x y h. place_as r (Element b e) (one.Element b e) (rolls-Element b e) (neither ((place_use r b).address_taken) (is_address_taken r e) x y);
      member = λ a z b m x h. place_as r (Member b m) (one.Member b m) (rolls-Member b m) x;
      pointed = λ t z e x h. place_as r (Deref e) (one.Deref e) (rolls-Deref e) x;
      read = λ a t b x h. load_untaken b x;
      called = λ t e x. x;
      call = λ t z h ts es c x o a. call_untaken h ts es x a;
      call_by = λ t z n ts es h s d o a. call_untaken (temp n) ts es (load_untaken (Local n) (local_untaken n)) a;
      callee = λ t z ts o h. refl;
      intrinsic = λ i z h. untaken_as r (Intr i None) (one.Intr i None) (rolls-Intr i None) refl;
      restore = λ i t z e x h. untaken_as r (Intr i (Some e)) (one.Intr i (Some e)) (rolls-Intr i (Some e)) x;
      put = λ n t e h x. assign_untaken (Local n) e (local_untaken n) x;
      put_right = λ n t e h x. assign_untaken (Local n) e (local_untaken n) x;
      assign = λ a to t b e x h k y. assign_untaken b e x y;
      alone = λ t e x. stmt_as r (Do e) (is.Do e) (rolls-Do e) x;
      fork = λ t c xs ys s x h k. stmt_as r (If c xs ys) (is.If c xs ys) (rolls-If c xs ys) (neither (is_address_taken r c) (any_in xs || any_in ys) x (neither (any_in xs) (any_in ys) (none_taken r xs h) (none_taken r ys k)));
      takes = λ n to t h s d k. tt;
      takes_local = λ n a to t h x k q. tt;
    }

    pub address_body_laws : BodyLaws p f address_reading address_body_reading
    address_body_laws = record {
      old = level;
      old_case = case_level;
      here = λ b c s h. h;
      fork = λ b c t e xs ys s x h k. stmt_as r (If e xs ys) (is.If e xs ys) (rolls-If e xs ys) (neither (is_address_taken r e) (any_in xs || any_in ys) x (neither (any_in xs) (any_in ys) (none_taken r xs h) (none_taken r ys k)));
      loop = λ b c e xs o h z k. let t = typed_there (typed p f e) h in stmt_as r (While e xs) (is.While e xs) (rolls-While e xs) (neither (is_address_taken r e) (any_in xs) (untaken e t.0 t.1 z) (none_taken r xs k));
      switch = λ b c i e ls ks x fit apart has cs. stmt_as r (Switch e ks) (is.Switch e ks) (rolls-Switch e ks) (neither (is_address_taken r e) (list_any (λ b. b) (map (taken_case r) ks)) x (cases_untaken c ls ks cs));
      break = λ b c h. stmt_as r Break is.Break rolls-Break refl;
      continue = λ b c h. stmt_as r Continue is.Continue rolls-Continue refl;
      leave = λ b c h. stmt_as r (Return None) (is.Return None) (rolls-Return None) refl;
      give = λ b c t e h s x. stmt_as r (Return (Some e)) (is.Return (Some e)) (rolls-Return (Some e)) x;
    }
