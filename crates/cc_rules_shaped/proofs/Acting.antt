-- What gets the value of an operand of a statement, and what its type takes: a register, a place, a parameter and a result each get a value of a type
-- that may be assigned to theirs. The text takes the address of each key that such an operand takes.
use Rattle.std.proofs.Common.{◌≡◌, ℕ, zero, suc, Bool, true, false, true≢false, List, [], ◌∷◌, map, Option, Some, None, refl, ap, sym, ◌∙◌, subst, slice_get}
use Rattle.std.specs.Prelude.{is_some, if◌then◌else◌}
use Rattle.std.proofs.lemmas.Option.{same_Some, none-some}
use Rattle.cc_rules_grow.specs.CcFlowSound.Statements.{statement_at}
use Rattle.cc_program.specs.CcNum.declared.int_type.IntType.TheVariants as int
use Rattle.cc_program.specs.declared.expr.Expr.{Expr, out-Expr}
use Rattle.cc_program.specs.declared.expr.Expr.TheOpen as one
use Rattle.cc_program.specs.declared.expr.Intr.{Intr}
use Rattle.cc_program.specs.declared.expr.Intr.TheVariants as intr
use Rattle.cc_program.specs.declared.expr.Place.{Place, out-Place}
use Rattle.cc_program.specs.declared.func.Func.{Func}
use Rattle.cc_program.specs.declared.program.Program.{Program}
use Rattle.cc_program.specs.declared.stmt.Case.{Case}
use Rattle.cc_program.specs.declared.stmt.Stmt.{Stmt, out-Stmt, map-Stmt}
use Rattle.cc_program.specs.declared.stmt.Stmt.TheOpen as is
use Rattle.cc_program.specs.declared.types.CType.{CType}
use Rattle.cc_program.specs.declared.types.Sig.{Sig, out-Sig}
use Rattle.cc_program.specs.Qualifiers.{is_const}
use Rattle.cc_rules_grow.specs.CcRules.Rules.{act_at}
use Rattle.cc_rules_grow.specs.CcRulesFlows.Acts.{Act, Sets, Reads, Writes, Calls, Saves, Turns, Restores, Tests, Chooses, Returns, Passes, intrinsic, loads, gets, assigns, does, acts}
use Rattle.cc_rules_shaped.proofs.Texts.{statement_addressed, case_fold}
use Rattle.cc_rules_grow.specs.CcStateFacts.declared.facts.Key.{Key}
use Rattle.cc_rules_grow.specs.CcStateKeys.Addressed.{InExpr, all_taken, stmt_taken_step, taken_in_stmt, in_expr, in_place, taken_in}
use Rattle.cc_rules_grow.proofs.CcStatePoints.Sound.{its_sound, sound_level}
use Rattle.cc_rules_grow.proofs.CcStateValues.Parts.{place_effects_at, typed_as, place_typed_as, by_place}
use Rattle.cc_rules_grow.proofs.CcStateValues.Rules.{one_there, two_there, when_there}
use Rattle.cc_state_values_fit.proofs.Taken.{first_addressed, second_addressed, taken_as}
use Rattle.cc_state_values_fit.specs.Fit.{AreAddressed}
use Rattle.cc_rules_grow.proofs.CcStates.Options.{mapped}
use Rattle.cc_rules_grow.proofs.CcStates.SoundLemmas.{parts}
use Rattle.cc_rules_grow.proofs.CcSyntax.Prefixes.{both_true}
use Rattle.cc_rules_grow.specs.CcSyntax.Effects.{PlaceEffects, place_effects_of}
use Rattle.cc_rules_grow.specs.CcSyntax.Expressions.{of_one}
use Rattle.cc_rules_grow.specs.CcSyntax.Normal.{IsNormal}
use Rattle.cc_rules_grow.specs.CcSyntax.Operators.{assignment_type, call_type, intrinsic_type}
use Rattle.cc_rules_grow.specs.CcSyntax.Pairs.{all_pairs}
use Rattle.cc_rules_grow.specs.CcSyntax.Programs.{type_of, place_type, sound_step}
use Rattle.cc_rules_grow.specs.CcSyntax.Types.{Named}
use Rattle.cc_rules_grow.specs.CcSyntax.Values.{ValueType, NoValue, Integer, ToObject, ToFunction, PlaceType, object_place, scalar_value, result_value, read_from, written_to, is_assignable, is_assignable_some, are_assignable}

pairs_at : {A B : Type 0} (fits : A → B → Bool) (xs : List A) (ys : List B) → all_pairs fits xs ys ≡ true → (i : ℕ) (y : B) → slice_get ys i ≡ Some y → (x : A) × (slice_get xs i ≡ Some x) × (fits x y ≡ true)
pairs_at fits [] [] h i y e = absurd (none-some y e)
pairs_at fits [] (z ∷ ys) h i y e = absurd (true≢false (sym h))
pairs_at fits (x ∷ xs) [] h i y e = absurd (none-some y e)
pairs_at fits (x ∷ xs) (z ∷ ys) h zero y e = (x, refl, subst (λ w. fits x w ≡ true) (same_Some z y e) (both_true (fits x z) (all_pairs fits xs ys) h).0)
pairs_at fits (x ∷ xs) (z ∷ ys) h (suc i) y e = pairs_at fits xs ys (both_true (fits x z) (all_pairs fits xs ys) h).1 i y e

mapped_at : {A B : Type 0} (g : A → B) (xs : List A) (i : ℕ) (x : A) → slice_get xs i ≡ Some x → slice_get (map g xs) i ≡ Some (g x)
mapped_at g [] i x e = absurd (none-some x e)
mapped_at g (y ∷ xs) zero x e = ap Some (ap g (same_Some y x e))
mapped_at g (y ∷ xs) (suc i) x e = mapped_at g xs i x e

some_there : {A : Type 0} (o : Option A) → is_some o ≡ true → (x : A) × (o ≡ Some x)
some_there None h = absurd (true≢false (sym h))
some_there (Some x) h = (x, refl)

assigned_some : (to from : Option ValueType) → is_assignable_some to from ≡ true → (t : ValueType) × (u : ValueType) × (to ≡ Some t) × (from ≡ Some u) × (is_assignable t u ≡ true)
assigned_some None from h = absurd (true≢false (sym h))
assigned_some (Some to) None h = absurd (true≢false (sym h))
assigned_some (Some to) (Some u) h = (to, u, refl, refl, h)

unless_const : (b : Bool) (x : Option ValueType) (t : ValueType) → (if b then None else x) ≡ Some t → x ≡ Some t
unless_const true x t h = absurd (none-some t h)
unless_const false x t h = h

module _ (p : Program) (id : ℕ) (f : Func) where
  abbrev typed : Expr → Option ValueType
  typed e = type_of p f.locals e

  -- a register of a type
  abbrev pub IsOfType : ℕ → ValueType → Type 0
  IsOfType r t = (l : Named) × (slice_get f.locals r ≡ Some l) × (scalar_value l.1 ≡ Some t)

  -- an expression of which something of a type takes the value
  pub record IsTaken (t : ValueType) (e : Expr) : Type 0 where
    pub type : ValueType
    pub typed : type_of p f.locals e ≡ Some type
    pub fits : is_assignable t type ≡ true
    pub keys : AreAddressed p (taken_in p id f e)

  abbrev pub IsResultTaken : Option ℕ → Sig → Type 0
  IsResultTaken None sig = Unit {0}
  IsResultTaken (Some r) sig = (t : ValueType) × (u : ValueType) × IsOfType r t × (result_value (out-Sig sig).result ≡ Some u) × (is_assignable t u ≡ true)

  pub record IsCallTaken (result : Option ℕ) (g : Expr) (args : List Expr) : Type 0 where
    pub sig : Sig
    pub is_function : type_of p f.locals g ≡ Some (ToFunction sig)
    pub keys : AreAddressed p (taken_in p id f g)
    pub arguments : (i : ℕ) (e : Expr) → slice_get args i ≡ Some e → (c : CType) × (t : ValueType) × (slice_get (out-Sig sig).params i ≡ Some c) × (scalar_value c ≡ Some t) × IsTaken t e
    pub result_taken : IsResultTaken result sig

  abbrev pub IsSaveTaken : Option ℕ → Type 0
  IsSaveTaken None = Unit {0}
  IsSaveTaken (Some r) = (t : ValueType) × IsOfType r t × (is_assignable t (Integer int.UChar) ≡ true)

  abbrev pub AreTaken : Act → Type 0
  AreTaken (Sets r e) = (t : ValueType) × IsOfType r t × IsTaken t e
  AreTaken (Reads r a) = (t : ValueType) × (u : ValueType) × IsOfType r t × (of_one (place_type p f.locals a) read_from ≡ Some u) × (is_assignable t u ≡ true)
  AreTaken (Writes a e) = (place : PlaceType) × (t : ValueType) × (place_type p f.locals a ≡ Some place) × (written_to place ≡ Some t) × IsTaken t e
  AreTaken (Calls result g args) = IsCallTaken result g args
  AreTaken (Saves result) = IsSaveTaken result
  AreTaken (Turns on) = Unit {0}
  AreTaken (Restores e) = Unit {0}
  AreTaken (Tests e these those) = Unit {0}
  AreTaken (Chooses e cases) = Unit {0}
  AreTaken (Returns None) = Unit {0}
  AreTaken (Returns (Some e)) = (t : ValueType) × (scalar_value (out-Sig f.sig).result ≡ Some t) × IsTaken t e
  AreTaken Passes = Unit {0}

  -- ---- calls

  abbrev Keys : Expr → Type 0
  Keys e = AreAddressed p (taken_in p id f e)

  argument_keys : (args : List Expr) → AreAddressed p (all_taken (map (λ (a : InExpr). a.taken) (map (in_expr p id f) args))) → (i : ℕ) (e : Expr) → slice_get args i ≡ Some e → Keys e
  argument_keys [] h i e there = absurd (none-some e there)
  argument_keys (a ∷ args) h zero e there = subst Keys (same_Some a e there) (first_addressed p (taken_in p id f a) (all_taken (map (λ (a : InExpr). a.taken) (map (in_expr p id f) args))) h)
  argument_keys (a ∷ args) h (suc i) e there = argument_keys args (second_addressed p (taken_in p id f a) (all_taken (map (λ (a : InExpr). a.taken) (map (in_expr p id f) args))) h) i e there

  module _ (result : Option ℕ) (u : ValueType) (taken : (sig : Sig) → result_value (out-Sig sig).result ≡ Some u → IsResultTaken result sig) where
    call_by : (g : Expr) (args : List Expr) (sig : Sig) → Keys g → ((i : ℕ) (e : Expr) → slice_get args i ≡ Some e → Keys e) → typed g ≡ Some (ToFunction sig) → (b : Bool) → are_assignable (out-Sig sig).params (map typed args) ≡ b →
        (if b then result_value (out-Sig sig).result else None) ≡ Some u → IsCallTaken result g args
    call_by g args sig keys each e true k t = record {
      sig = sig;
      is_function = e;
      keys = keys;
      arguments = λ i x there.
          (let w = pairs_at (λ t v. is_assignable_some (scalar_value t) v) (out-Sig sig).params (map typed args) k i (typed x) (mapped_at typed args i x there) in
          let v = assigned_some (scalar_value w.0) (typed x) w.2 in
          (w.0, v.0, w.1, v.2, record { type = v.1; typed = v.3; fits = v.4; keys = each i x there }));
      result_taken = taken sig t;
    }
    call_by g args sig keys each e false k t = absurd (none-some u t)

    call_of_type : (g : Expr) (args : List Expr) → Keys g → ((i : ℕ) (e : Expr) → slice_get args i ≡ Some e → Keys e) → (o : Option ValueType) → typed g ≡ o → of_one o (λ t. call_type t (map typed args)) ≡ Some u → IsCallTaken result g args
    call_of_type g args keys each None e t = absurd (none-some u t)
    call_of_type g args keys each (Some NoValue) e t = absurd (none-some u t)
    call_of_type g args keys each (Some (Integer i)) e t = absurd (none-some u t)
    call_of_type g args keys each (Some (ToObject constant volatile to)) e t = absurd (none-some u t)
    call_of_type g args keys each (Some (ToFunction sig)) e t = call_by g args sig keys each e (are_assignable (out-Sig sig).params (map typed args)) refl t

    is_called : (e g : Expr) (args : List Expr) → out-Expr e ≡ one.Call g args → Keys e → typed e ≡ Some u → IsCallTaken result g args
    is_called e g args i keys t =
        let inner = taken_as p id f e (one.Call g args) i keys in
        let rest = all_taken (map (λ (a : InExpr). a.taken) (map (in_expr p id f) args)) in
        call_of_type g args (first_addressed p (taken_in p id f g) rest inner) (argument_keys args (second_addressed p (taken_in p id f g) rest inner)) (typed g) refl (typed_as p f e (one.Call g args) u i t)

  -- ---- what a register gets

  saved_type : (a : Option (Option ValueType)) (u : ValueType) → intrinsic_type intr.Save a ≡ Some u → Integer int.UChar ≡ u
  saved_type None u h = same_Some (Integer int.UChar) u h
  saved_type (Some a) u h = absurd (none-some u h)

  turned : (result : Option ℕ) (i : Intr) (a : Option Expr) → IsSaveTaken result → AreTaken (intrinsic result i a)
  turned result intr.Off a h = tt
  turned result intr.On a h = tt
  turned result intr.Save a h = h
  turned result intr.Restore None h = tt
  turned result intr.Restore (Some x) h = tt

  module _ (r : ℕ) (t : ValueType) (of_type : IsOfType r t) (e : Expr) (u : ValueType) (is_typed : typed e ≡ Some u) (fits : is_assignable t u ≡ true) (keys : Keys e) where
    set : AreTaken (Sets r e)
    set = (t, of_type, record { type = u; typed = is_typed; fits = fits; keys = keys })

    loaded : (a : Place) → out-Expr e ≡ one.Load a → (o : Option ℕ) → AreTaken (loads r e a o)
    loaded a i (Some own) = set
    loaded a i None = (t, u, of_type, typed_as p f e (one.Load a) u i is_typed, fits)

    saved : (i : Intr) (a : Option Expr) → out-Expr e ≡ one.Intr i a → AreTaken (intrinsic (Some r) i a)
    saved intr.Save a is = (t, of_type, subst (λ (x : ValueType). is_assignable t x ≡ true) (sym (saved_type _ u (typed_as p f e (one.Intr intr.Save a) u is is_typed))) fits)
    saved intr.Off a is = tt
    saved intr.On a is = tt
    saved intr.Restore None is = tt
    saved intr.Restore (Some x) is = tt

    given : (x : one.Expr-F Expr Place) → out-Expr e ≡ x → AreTaken (gets f r e x)
    given (one.Load a) i = loaded a i (place_effects_of f a).register
    given (one.Call g args) i = is_called (Some r) u (λ sig h. (t, u, of_type, h, fits)) e g args i keys is_typed
    given (one.Intr w a) i = saved w a i
    given (one.FuncAddr g) i = set
    given (one.Const z q) i = set
    given (one.Null q) i = set
    given (one.AddrOf a) i = set
    given (one.Un z q a) i = set
    given (one.Bin z q a b) i = set
    given (one.Conv q a) i = set
    given (one.Qualify q a) i = set
    given (one.Move a b back) i = set
    given (one.Gap a b) i = set
    given (one.Compare z a b) i = set
    given (one.Both a b) i = set
    given (one.Either a b) i = set
    given (one.Choose z a b) i = set
    given (one.Assign a x) i = set
    given (one.Change a z q x) i = set
    given (one.After a down) i = set
    given (one.Seq a b) i = set

  -- ---- assignments

  register_of : (a : Place) (r : ℕ) (place : PlaceType) (t : ValueType) → (place_effects_of f a).register ≡ Some r → place_type p f.locals a ≡ Some place → written_to place ≡ Some t → IsOfType r t
  register_of a r place t is typed_place written =
      let w = by_place p f a r (out-Place a) refl is (sym (ap (λ (z : PlaceEffects). z.register) (place_effects_at f a (out-Place a) refl)) ∙ is) in
      let same : w.local ≡ r = same_Some w.local r (sym w.known ∙ is) in
      let l = mapped (λ (n : Named). object_place n.1) (slice_get f.locals w.local) place (place_typed_as p f a (one.Local w.local) place w.is_local typed_place) in
      (l.0, subst (λ (n : ℕ). slice_get f.locals n ≡ Some l.0) same l.1, unless_const (is_const l.0.1) (scalar_value l.0.1) t (ap written_to l.2 ∙ written))

  assigning : (a : Place) (x : Expr) (place : PlaceType) (t u : ValueType) → place_type p f.locals a ≡ Some place → written_to place ≡ Some t → typed x ≡ Some u → is_assignable t u ≡ true → Keys x → (o : Option ℕ) → (place_effects_of f a).register ≡ o →
      AreTaken (assigns f o a x)
  assigning a x place t u is_place written is_typed fits keys (Some r) is = given r t (register_of a r place t is is_place written) x u is_typed fits keys (out-Expr x) refl
  assigning a x place t u is_place written is_typed fits keys None is = (place, t, is_place, written, record { type = u; typed = is_typed; fits = fits; keys = keys })

  assigned : (e x : Expr) (a : Place) (t : ValueType) → out-Expr e ≡ one.Assign a x → typed e ≡ Some t → Keys e → AreTaken (assigns f (place_effects_of f a).register a x)
  assigned e x a t i h keys =
      let w = two_there (of_one (place_type p f.locals a) written_to) (typed x) assignment_type t (typed_as p f e (one.Assign a x) t i h) in
      let v = one_there (place_type p f.locals a) written_to w.0 w.2 in
      assigning a x v.0 w.0 w.1 v.1 v.2 w.3 (when_there (is_assignable w.0 w.1) w.0 t w.4).0 (second_addressed p (in_place p id f a).taken (taken_in p id f x) (taken_as p id f e (one.Assign a x) i keys)) (place_effects_of f a).register refl

  -- ---- full expressions and statements

  doing : (e : Expr) (x : one.Expr-F Expr Place) → out-Expr e ≡ x → (t : ValueType) → typed e ≡ Some t → Keys e → AreTaken (does f x)
  doing e (one.Assign a x) i t h keys = assigned e x a t i h keys
  doing e (one.Call g args) i t h keys = is_called None t (λ sig k. tt) e g args i keys h
  doing e (one.Intr w a) i t h keys = turned None w a tt
  doing e (one.FuncAddr g) i t h keys = tt
  doing e (one.Load a) i t h keys = tt
  doing e (one.Const z u) i t h keys = tt
  doing e (one.Null u) i t h keys = tt
  doing e (one.AddrOf a) i t h keys = tt
  doing e (one.Un z u a) i t h keys = tt
  doing e (one.Bin z u a b) i t h keys = tt
  doing e (one.Conv u a) i t h keys = tt
  doing e (one.Qualify u a) i t h keys = tt
  doing e (one.Move a b back) i t h keys = tt
  doing e (one.Gap a b) i t h keys = tt
  doing e (one.Compare z a b) i t h keys = tt
  doing e (one.Both a b) i t h keys = tt
  doing e (one.Either a b) i t h keys = tt
  doing e (one.Choose z a b) i t h keys = tt
  doing e (one.Change a z u x) i t h keys = tt
  doing e (one.After a down) i t h keys = tt
  doing e (one.Seq a b) i t h keys = tt

  acting : (x : is.Stmt-F Stmt Case) → AreAddressed p (stmt_taken_step p id f (map-Stmt Stmt Case (List Key) (List Key) (taken_in_stmt p id f) (case_fold p id f) x)) → (b c : Bool) → sound_step p f (parts p f x) b c ≡ true → AreTaken (acts f x)
  acting (is.Do e) keys b c h = let t = some_there (typed e) h in doing e (out-Expr e) refl t.0 t.1 keys
  acting (is.If e these those) keys b c h = tt
  acting (is.While e body) keys b c h = tt
  acting (is.DoWhile body e) keys b c h = tt
  acting (is.For first test again body) keys b c h = tt
  acting (is.Switch e cases) keys b c h = tt
  acting is.Break keys b c h = tt
  acting is.Continue keys b c h = tt
  acting (is.Return None) keys b c h = tt
  acting (is.Return (Some e)) keys b c h = let w = assigned_some (scalar_value (out-Sig f.sig).result) (typed e) h in (w.0, w.2, record { type = w.1; typed = w.3; fits = w.4; keys = keys })
  acting is.Empty keys b c h = tt
  acting (is.Block body) keys b c h = tt

-- of what stands at a path in a function of a program in normal form
pub taken_at : (p : Program) → IsNormal p → (id : ℕ) (f : Func) → slice_get p.funcs id ≡ Some f → (path : List ℕ) (o : Option Stmt) → statement_at f.body path ≡ o → AreTaken p id f (act_at o f)
taken_at p normal id f function path None e = tt
taken_at p normal id f function path (Some s) e =
    let w = its_sound p normal id f function path s e in
    acting p id f (out-Stmt s) (statement_addressed p id f function path s e) w.0 w.1 (sound_level p normal id f function path s e)
