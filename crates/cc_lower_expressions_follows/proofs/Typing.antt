-- The parts of what has a type have types.
use Rattle.std.proofs.Common.{◌≡◌, Bool, true, false, ◌&&◌, List, [], ◌∷◌, map, Option, Some, None, refl, ap, sym, ◌∙◌, if◌then◌else◌}
use Rattle.cc_program.specs.declared.expr.Expr.{Expr}
use Rattle.cc_program.specs.declared.expr.Expr.TheOpen as one
use Rattle.cc_program.specs.declared.expr.Intr.TheVariants as intr
use Rattle.cc_program.specs.declared.expr.Place.{Place}
use Rattle.cc_program.specs.declared.types.CType.{CType}
use Rattle.cc_program.specs.declared.types.Sig.{out-Sig}
use Rattle.cc_program.proofs.Each.{Each}
use Rattle.cc_program.proofs.ExprInduction.{Parts, PlaceParts}
use Rattle.cc_states.specs.CcSyntax.Expressions.{of_one, of_two}
use Rattle.cc_states.specs.CcSyntax.Operators.{choice_type, call_type, intrinsic_type}
use Rattle.cc_states.specs.CcSyntax.Values.{ValueType, NoValue, Integer, ToObject, ToFunction, written_to, scalar_value, is_assignable_some, are_assignable, result_value}
use Rattle.cc_states.specs.CcEval.Context.{Context}
use Rattle.cc_states.specs.CcEval.Eval.{Meaning, meaning, designation}
use Rattle.cc_states.proofs.Options.{with_one, with_two}
use Rattle.cc_lower_expressions_follows.proofs.Opened.{at_level, at_place_level}

abbrev pub IsTyped : {A : Type 0} → Option A → Type 0
IsTyped {A} t = (x : A) × (t ≡ Some x)

both_true : (a b : Bool) → (a && b) ≡ true → (a ≡ true) × (b ≡ true)
both_true true b h = (refl, h)
both_true false b h = absurd (cc)

first : {A B : Type 0} (a : Option A) (f : A → Option B) → IsTyped (of_one a f) → IsTyped a
first {A} a f h = with_one (IsTyped a) a f h.0 h.1 (λ x e g. (x, e))

pair : {A B C : Type 0} (a : Option A) (b : Option B) (f : A → B → Option C) → IsTyped (of_two a b f) → IsTyped a × IsTyped b
pair a b f h = with_two (IsTyped a × IsTyped b) a b f h.0 h.1 (λ x y e g k. ((x, e), (y, g)))

assignable : (to : Option ValueType) (v : Option ValueType) → is_assignable_some to v ≡ true → IsTyped v
assignable None v h = absurd (cc)
assignable (Some to) None h = absurd (cc)
assignable (Some to) (Some v) h = (v, refl)

module _ (c : Context) where
  abbrev pub TypedExpr : Expr → Type 0
  TypedExpr e = IsTyped (meaning c e).ctype

  abbrev pub TypedPlace : Place → Type 0
  TypedPlace a = IsTyped (designation c a).ctype

  arguments : (params : List CType) (es : List Expr) → are_assignable params (map (λ (m : Meaning). m.ctype) (map (meaning c) es)) ≡ true → Each TypedExpr es
  arguments params [] h = tt
  arguments [] (e ∷ es) h = absurd (cc)
  arguments (t ∷ params) (e ∷ es) h =
      let p = both_true (is_assignable_some (scalar_value t) (meaning c e).ctype) (are_assignable params (map (λ (m : Meaning). m.ctype) (map (meaning c) es))) h in
      (assignable (scalar_value t) (meaning c e).ctype p.0, arguments params es p.1)

  called : (f : ValueType) (es : List Expr) → IsTyped (call_type f (map (λ (m : Meaning). m.ctype) (map (meaning c) es))) → Each TypedExpr es
  called NoValue es h = let k = h.1 in absurd (cc)
  called (Integer t) es h = let k = h.1 in absurd (cc)
  called (ToObject constant volatile t) es h = let k = h.1 in absurd (cc)
  called (ToFunction sig) es h = by_test (are_assignable (out-Sig sig).params (map (λ (m : Meaning). m.ctype) (map (meaning c) es))) refl h
    where
      by_test : (b : Bool) → are_assignable (out-Sig sig).params (map (λ (m : Meaning). m.ctype) (map (meaning c) es)) ≡ b → IsTyped (if b then result_value (out-Sig sig).result else None) → Each TypedExpr es
      by_test true e k = arguments (out-Sig sig).params es e
      by_test false e k = let j = k.1 in absurd (cc)

  pub typed_parts : (x : one.Expr-F Expr Place) → IsTyped (at_level c x).ctype → Parts TypedExpr TypedPlace x
  typed_parts (one.Const n t) h = tt
  typed_parts (one.Null t) h = tt
  typed_parts (one.FuncAddr f) h = tt
  typed_parts (one.Load a) h = first _ _ h
  typed_parts (one.AddrOf a) h = first _ _ h
  typed_parts (one.Un o t a) h = first _ _ h
  typed_parts (one.Bin o t a b) h = pair _ _ _ h
  typed_parts (one.Conv t a) h = first _ _ h
  typed_parts (one.Qualify t a) h = first _ _ h
  typed_parts (one.Move a b back) h = pair _ _ _ h
  typed_parts (one.Gap a b) h = pair _ _ _ h
  typed_parts (one.Compare o a b) h = pair _ _ _ h
  typed_parts (one.Both a b) h = pair _ _ _ h
  typed_parts (one.Either a b) h = pair _ _ _ h
  typed_parts (one.Choose d a b) h =
      with_one (TypedExpr d × TypedExpr a × TypedExpr b) (meaning c d).ctype (λ z. of_two (meaning c a).ctype (meaning c b).ctype (choice_type c.program.target z)) h.0 h.1
      (λ z e g. let p = pair (meaning c a).ctype (meaning c b).ctype (choice_type c.program.target z) (h.0, g) in ((z, e), p.0, p.1))
  typed_parts (one.Assign a e) h = let p = pair (of_one (designation c a).ctype written_to) (meaning c e).ctype _ h in (first (designation c a).ctype written_to p.0, p.1)
  typed_parts (one.Change a o t e) h = let p = pair (of_one (designation c a).ctype written_to) (meaning c e).ctype _ h in (first (designation c a).ctype written_to p.0, p.1)
  typed_parts (one.After a down) h = first (designation c a).ctype written_to (first (of_one (designation c a).ctype written_to) _ h)
  typed_parts (one.Call f args) h =
      with_one (TypedExpr f × Each TypedExpr args) (meaning c f).ctype (λ z. call_type z (map (λ (m : Meaning). m.ctype) (map (meaning c) args))) h.0 h.1 (λ z e g. ((z, e), called z args (h.0, g)))
  typed_parts (one.Intr i None) h = tt
  typed_parts (one.Intr intr.Off (Some a)) h = let k = h.1 in absurd (cc)
  typed_parts (one.Intr intr.On (Some a)) h = let k = h.1 in absurd (cc)
  typed_parts (one.Intr intr.Save (Some a)) h = let k = h.1 in absurd (cc)
  typed_parts (one.Intr intr.Restore (Some a)) h = by_type (meaning c a).ctype refl
    where
      by_type : (t : Option ValueType) → (meaning c a).ctype ≡ t → IsTyped (meaning c a).ctype
      by_type None e = let k = sym (ap (λ (z : Option ValueType). intrinsic_type intr.Restore (Some z)) e) ∙ h.1 in absurd (cc)
      by_type (Some t) e = (t, e)
  typed_parts (one.Seq a b) h = pair _ _ _ h

  pub typed_place_parts : (x : one.Place-F Expr Place) → IsTyped (at_place_level c x).ctype → PlaceParts TypedExpr TypedPlace x
  typed_place_parts (one.Local r) h = tt
  typed_place_parts (one.Static i) h = tt
  typed_place_parts (one.Device d) h = tt
  typed_place_parts (one.Element a i) h = pair _ _ _ h
  typed_place_parts (one.Member a m) h = first _ _ h
  typed_place_parts (one.Deref e) h = first _ _ h
