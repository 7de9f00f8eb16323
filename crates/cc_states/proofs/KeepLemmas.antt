-- What holds where activations of some functions were opened holds where more were opened behind them.
use Rattle.std.proofs.Common.{arith, ◌≡◌, ℕ, zero, suc, List, [], ◌∷◌, ◌++◌, length, Option, Some, None, slice_get, refl, sym, ◌∙◌, subst}
use Rattle.cc_steps.specs.CcSyntax.Types.{Named}
use Rattle.cc_program.specs.declared.object.Object.{Object}
use Rattle.std.proofs.lemmas.Option.{slice_get_within}
use Rattle.cc_program.specs.declared.expr.Expr.{Expr}
use Rattle.cc_program.specs.declared.func.Func.{Func}
use Rattle.cc_program.specs.declared.program.Program.{Program}
use Rattle.cc_program.specs.declared.types.CType.{CType}
use Rattle.cc_program.specs.declared.value.Address.{Address}
use Rattle.cc_program.specs.declared.value.Address.TheVariants as address
use Rattle.cc_program.specs.declared.value.Root.{Root}
use Rattle.cc_program.specs.declared.value.Root.TheVariants as root
use Rattle.cc_program.specs.declared.value.Value.{Value}
use Rattle.cc_program.specs.declared.value.Value.TheVariants.{Int, Place}
use Rattle.cc_steps.specs.CcEval.declared.action.Action.{Action}
use Rattle.cc_steps.specs.CcEval.declared.mark.Mark.{Mark}
use Rattle.cc_steps.specs.CcEval.declared.mark.Mark.TheVariants.{Gave, Did, Chose}
use Rattle.cc_steps.specs.CcEval.Context.{Context}
use Rattle.cc_steps.specs.CcEval.Eval.{next_of}
use Rattle.cc_steps.specs.State.{Active}
use Rattle.cc_steps.specs.CcSyntax.Values.{ValueType, NoValue, Integer, ToObject, ToFunction}
use Rattle.cc_states.proofs.ListLemmas.{get_before}
use Rattle.cc_states.specs.Answers.{IsMarkOf, AreItsMarks}
use Rattle.cc_states.specs.States.{AreStatics, AreLocals, expression_of, AreMarks, context_in, IsActive, AreActive, AreScalars}
use Rattle.cc_states.specs.Typed.{IsOpened, IsAddress, HasType, MayHave, AreArguments}

pub get_more : {A : Type 0} → (xs ys : List A) (k : ℕ) (x : A) → slice_get xs k ≡ Some x → slice_get (xs ++ ys) k ≡ Some x
get_more xs ys k x h = get_before xs ys k (slice_get_within xs k x h) ∙ h

pub get_last : {A : Type 0} → (xs : List A) (x : A) (n : ℕ) → length xs ≡ n → slice_get (xs ++ x ∷ []) n ≡ Some x
get_last [] x zero h = refl
get_last [] x (suc n) h = absurd (omega (arith, h))
get_last (y ∷ xs) x zero h = absurd (omega (arith, h))
get_last (y ∷ xs) x (suc n) h = get_last xs x n (omega (arith, h))

module _ (p : Program) (openings more : List ℕ) where
  abbrev all : List ℕ
  all = openings ++ more

  object_more : (object : Root) → IsOpened openings object → IsOpened all object
  object_more (root.Static i) h = tt
  object_more (root.Auto number func local) h = get_more openings more number func h

  address_more : (to : ValueType) (a : Address) → IsAddress p openings to a → IsAddress p all to a
  address_more to address.Null h = tt
  address_more to (address.Func f) h = h
  address_more to (address.At object path index count) h = (object_more object h.0, h.1, h.2)

  pub type_more : (t : ValueType) (v : Value) → HasType p openings t v → HasType p all t v
  type_more NoValue v h = tt
  type_more (Integer t) (Int n) h = h
  type_more (Integer t) (Place a) h = absurd h
  type_more (ToObject c v t) (Int n) h = absurd h
  type_more (ToObject c v t) (Place a) h = address_more (ToObject c v t) a h
  type_more (ToFunction sig) (Int n) h = absurd h
  type_more (ToFunction sig) (Place a) h = address_more (ToFunction sig) a h

  may_more : (t : ValueType) (v : Option Value) → MayHave p openings t v → MayHave p all t v
  may_more t None h = tt
  may_more t (Some v) h = type_more t v h

  mark_more : (action : Action) (m : Mark) → IsMarkOf p openings action m → IsMarkOf p all action m
  mark_more action (Gave None) h = h
  mark_more action (Gave (Some v)) h = (h.0, h.1, type_more h.0 v h.2)
  mark_more action Did h = h
  mark_more action (Chose b) h = h

  marks_more : (c : Context) (x : Option Expr) (ms : List Mark) → c.program ≡ p → AreMarks c openings x ms → AreMarks c all x ms
  marks_more c None ms e h = h
  marks_more c (Some x) ms e h =
      subst (λ (q : Program). AreItsMarks q all (next_of c x) ms) (sym e)
      (λ front back m split. let a = subst (λ (q : Program). AreItsMarks q openings (next_of c x) ms) e h front back m split in (a.0, a.1, mark_more a.0 m a.2))

  static_more : (statics : List (List Value)) → AreStatics p openings statics → (i : ℕ) (o : Object) → slice_get p.objects i ≡ Some o →
      (values : List Value) × (slice_get statics i ≡ Some values) × AreScalars p (HasType p all) o.ctype values
  static_more statics h i o e =
      let values = h.1 i o e in
      (values.0, values.1, record { count = values.2.count; typed = λ path w k. let v = values.2.typed path w k in (v.0, v.1, type_more w v.0 v.2) })

  pub statics_more : (statics : List (List Value)) → AreStatics p openings statics → AreStatics p all statics
  statics_more statics h = (h.0, static_more statics h)

  local_more : (f : Func) (locals : List (List (Option Value))) → AreLocals p openings f locals → (i : ℕ) (l : Named) → slice_get f.locals i ≡ Some l →
      (values : List (Option Value)) × (slice_get locals i ≡ Some values) × AreScalars p (MayHave p all) l.1 values
  local_more f locals h i l e =
      let values = h.1 i l e in
      (values.0, values.1, record { count = values.2.count; typed = λ path w k. let v = values.2.typed path w k in (v.0, v.1, may_more w v.0 v.2) })

  locals_more : (f : Func) (locals : List (List (Option Value))) → AreLocals p openings f locals → AreLocals p all f locals
  locals_more f locals h = (h.0, local_more f locals h)

  active_more : (a : Active) → IsActive p openings a → IsActive p all a
  active_more a h = record {
    func = h.func;
    function = h.function;
    number = get_more openings more a.number a.func h.number;
    entry = h.entry;
    locals = locals_more h.func a.locals h.locals;
    parameters = h.parameters;
    control = h.control;
    inside = h.inside;
    marks = marks_more (context_in p a h.func) (expression_of a) a.marks refl h.marks;
  }

  pub actives_more : (stack : List Active) → AreActive p openings stack → AreActive p all stack
  actives_more [] h = tt
  actives_more (a ∷ below) h = (active_more a h.0, actives_more below h.1)

  pub arguments_more : (params : List CType) (args : List Value) → AreArguments p openings params args → AreArguments p all params args
  arguments_more [] [] h = tt
  arguments_more [] (v ∷ vs) h = absurd h
  arguments_more (t ∷ ts) [] h = absurd h
  arguments_more (t ∷ ts) (v ∷ vs) h = ((h.0.0, h.0.1, type_more h.0.0 v h.0.2), arguments_more ts vs h.1)
