-- The locals of an activation that is opened: arguments of the types of parameters, and nothing written in the others.
use Rattle.std.proofs.Common.{arith, ◌≡◌, ◌<◌, ℕ, zero, suc, Bool, true, List, [], ◌∷◌, length, replicate, Option, Some, None, refl, ap, sym, ◌∙◌, subst}
use Rattle.cc_steps.specs.CcSyntax.Initial.{place_at}
use Rattle.cc_program.specs.Qualifiers.{is_const, is_volatile}
use Rattle.std.proofs.lemmas.Bool.{eqb-true}
use Rattle.std.proofs.lemmas.List.{length-replicate}
use Rattle.std.proofs.lemmas.Option.{same_Some}
use Rattle.std.specs.Prelude.{slice_get}
use Rattle.cc_program.specs.declared.func.Func.{Func}
use Rattle.cc_program.specs.declared.program.Program.{Program}
use Rattle.cc_program.specs.declared.types.CType.{CType}
use Rattle.cc_program.specs.declared.types.Shape.{out-Shape, Shape}
use Rattle.cc_program.specs.declared.types.Shape.TheOpen as shape
use Rattle.cc_program.specs.declared.types.Sig.{out-Sig, Sig}
use Rattle.cc_program.specs.declared.value.Part.{Part}
use Rattle.cc_program.specs.declared.value.Value.{Value}
use Rattle.cc_steps.specs.CcCells.Scalars.{zeros, structure_zeros, position}
use Rattle.cc_steps.specs.CcControl.Control.{close}
use Rattle.cc_steps.specs.State.{locals_with}
use Rattle.cc_steps.specs.Step.{activation, passes}
use Rattle.cc_steps.specs.CcSyntax.Expressions.{of_one}
use Rattle.cc_steps.specs.CcSyntax.Operators.{is_handler}
use Rattle.cc_steps.specs.CcSyntax.SameTypes.{same_shape}
use Rattle.cc_steps.specs.CcSyntax.Sound.{any_names, IsFuncBy, are_parameters}
use Rattle.cc_steps.specs.CcSyntax.Types.{Named, IsInOrder}
use Rattle.cc_steps.specs.CcSyntax.Values.{ValueType, scalar_shape, scalar_value, object_place, read_from}
use Rattle.cc_steps.proofs.CcSyntax.Prefixes.{both_true}
use Rattle.cc_states.specs.States.{AreScalars, AreWritten, IsActive, context_in, expression_of}
use Rattle.cc_states.specs.Typed.{HasType, MayHave, AreArguments}
use Rattle.cc_states.proofs.ActiveLemmas.{no_marks, begun_by}
use Rattle.cc_states.proofs.ControlLemmas.{body_sound}
use Rattle.cc_states.proofs.InsideLemmas.{body_inside}
use Rattle.cc_states.proofs.PathLemmas.{within, no_path}
use Rattle.cc_states.proofs.ZeroLemmas.{zeros-shape}
use Rattle.cc_steps.proofs.CcSyntax.SameLemmas.{shape_of_same}

pub get_replicate : {A : Type 0} → (x : A) (n k : ℕ) → k < n → slice_get (replicate n x) k ≡ Some x
get_replicate x zero k h = absurd (omega (arith, h))
get_replicate x (suc n) zero h = refl
get_replicate x (suc n) (suc k) h = get_replicate x n k (omega (arith, h))

module _ (p : Program) (openings : List ℕ) (order : IsInOrder p.structures) where
  abbrev pub Local : CType → List (Option Value) → Type 0
  Local t values = AreScalars p (MayHave p openings) t values

  pub given_at : (t u : CType) (r : ValueType) (v : Value) → scalar_value t ≡ scalar_value u → scalar_value t ≡ Some r → HasType p openings r v → (path : List Part) (w : ValueType) →
      of_one (place_at p.structures path (object_place u)) read_from ≡ Some w → (x : Option Value) × (slice_get (Some v ∷ []) (position p.structures path (Some (object_place u))) ≡ Some x) × MayHave p openings w x
  given_at t u r v e h k [] w i = (Some v, refl, subst (λ (y : ValueType). HasType p openings y v) (same_Some r w (sym h ∙ e ∙ i)) k)
  given_at t u r v e h k (s ∷ rest) w i =
      no_path p.structures order p openings ((x : Option Value) × (slice_get (Some v ∷ []) (position p.structures (s ∷ rest) (Some (object_place u))) ≡ Some x) × MayHave p openings w x) (is_const u) (is_volatile u) u r w s rest (sym e ∙ h) i

  -- a scalar type has one
  pub one_scalar : (u : CType) (r : ValueType) (x : shape.Shape-F Shape CType Sig) → out-Shape u.shape ≡ x → scalar_shape x ≡ Some r → 1 ≡ length (zeros p.structures u)
  one_scalar u r (shape.Int i) e h = sym (ap length (zeros-shape (structure_zeros p.structures) u (shape.Int i) e))
  one_scalar u r (shape.Pointer to) e h = sym (ap length (zeros-shape (structure_zeros p.structures) u (shape.Pointer to) e))
  one_scalar u r shape.Void e h = absurd (cc)
  one_scalar u r (shape.Array of n) e h = absurd (cc)
  one_scalar u r (shape.Struct i) e h = absurd (cc)
  one_scalar u r (shape.Func sig) e h = absurd (cc)

  pub given_local : (t u : CType) (r : ValueType) (v : Value) → scalar_value t ≡ scalar_value u → scalar_value t ≡ Some r → HasType p openings r v → Local u (Some v ∷ [])
  given_local t u r v e h k = record { count = one_scalar u r (out-Shape u.shape) refl (sym e ∙ h); typed = given_at t u r v e h k }

  pub unwritten : (t : CType) → Local t (replicate (length (zeros p.structures t)) None)
  unwritten t = record {
    count = length-replicate (length (zeros p.structures t)) None;
    typed = λ path w h. (None, get_replicate None (length (zeros p.structures t)) (position p.structures path (Some (object_place t))) (within p.structures order p openings path (is_const t) (is_volatile t) t w h), tt);
  }

  pub as_many : (args : List Value) (locals : List Named) → length (locals_with p args locals) ≡ length locals
  as_many args [] = refl
  as_many [] (l ∷ locals) = ap suc (as_many [] locals)
  as_many (v ∷ args) (l ∷ locals) = ap suc (as_many args locals)

  abbrev pub LocalAt : List Value → List Named → ℕ → Named → Type 0
  LocalAt args locals i l = (values : List (Option Value)) × (slice_get (locals_with p args locals) i ≡ Some values) × Local l.1 values

  pub none_given : (locals : List Named) (i : ℕ) (l : Named) → slice_get locals i ≡ Some l → LocalAt [] locals i l
  none_given [] i l h = absurd (cc)
  none_given (x ∷ locals) zero l h =
      (replicate (length (zeros p.structures x.1)) None, refl, subst (λ (y : Named). Local y.1 (replicate (length (zeros p.structures x.1)) None)) (same_Some x l h) (unwritten x.1))
  none_given (x ∷ locals) (suc i) l h = none_given locals i l h

  pub given : (ts : List CType) (locals : List Named) (args : List Value) → are_parameters ts locals ≡ true → AreArguments p openings ts args → (i : ℕ) (l : Named) → slice_get locals i ≡ Some l → LocalAt args locals i l
  given [] locals [] h k i l e = none_given locals i l e
  given [] locals (v ∷ args) h k i l e = absurd k
  given (t ∷ ts) [] args h k i l e = absurd (cc)
  given (t ∷ ts) (x ∷ locals) [] h k i l e = absurd k
  given (t ∷ ts) (x ∷ locals) (v ∷ args) h k zero l e =
      let both = both_true (same_shape t.shape x.1.shape) (are_parameters ts locals) h in
      let same : scalar_value t ≡ scalar_value x.1 = ap (λ s. scalar_shape (out-Shape s)) (shape_of_same t x.1 both.0) in
      (Some v ∷ [], refl, subst (λ (y : Named). Local y.1 (Some v ∷ [])) (same_Some x l e) (given_local t x.1 k.0.0 v same k.0.1 k.0.2))
  given (t ∷ ts) (x ∷ locals) (v ∷ args) h k (suc i) l e = given ts locals args (both_true (same_shape t.shape x.1.shape) (are_parameters ts locals) h).1 k.1 i l e

  -- the parameters are the arguments
  given_written : (ts : List CType) (locals : List Named) (args : List Value) → are_parameters ts locals ≡ true → AreArguments p openings ts args → AreWritten (length ts) (locals_with p args locals)
  given_written [] locals args h k i b = absurd (omega (arith, b))
  given_written (t ∷ ts) [] args h k i b = absurd (cc)
  given_written (t ∷ ts) (x ∷ locals) [] h k i b = absurd k
  given_written (t ∷ ts) (x ∷ locals) (v ∷ args) h k zero b = (v, refl)
  given_written (t ∷ ts) (x ∷ locals) (v ∷ args) h k (suc i) b = given_written ts locals args (both_true (same_shape t.shape x.1.shape) (are_parameters ts locals) h).1 k.1 i (omega (arith, b))

  -- an activation before its first step
  pub opened_active : (number id : ℕ) (handler : Bool) (args : List Value) (f : Func) → slice_get p.funcs id ≡ Some f → slice_get openings number ≡ Some id → IsFuncBy p any_names f → (handler ≡ true → is_handler f ≡ true) → AreArguments p openings (out-Sig f.sig).params args →
      IsActive p openings (activation p number id handler args f)
  opened_active number id handler args f e n sound entry h =
      let begun = begun_by p openings f (close f.body 0 []) (passes p number id [] (close f.body 0 []).0) (body_sound p f sound.body, body_inside f.body) in
      record {
        func = f;
        function = e;
        number = n;
        entry = entry;
        parameters = subst (λ (n : ℕ). AreWritten n (locals_with p args f.locals)) (sym (eqb-true f.params (length (out-Sig f.sig).params) sound.count)) (given_written (out-Sig f.sig).params f.locals args sound.first h);
        locals = (as_many args f.locals, given (out-Sig f.sig).params f.locals args sound.first h);
        control = begun.0;
        inside = begun.1;
        marks = no_marks (context_in p (activation p number id handler args f) f) openings (expression_of (activation p number id handler args f));
      }
