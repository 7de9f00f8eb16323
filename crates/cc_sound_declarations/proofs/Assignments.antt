-- The scalars of an automatic object are assigned what they are given.
use Rattle.std.proofs.Common.{◌≡◌, Bool, true, false, ◌&&◌, List, [], ◌∷◌, Option, Some, None, refl, ap}
use Rattle.std.specs.Prelude.{is_some, if◌then◌else◌}
use Rattle.std.specs.List.{list_all}
use Rattle.cc_sound_declarations.specs.Scalars.{OneScalar}
use Rattle.cc_sound_declarations.specs.Values.{IsGiven, AreGiven}
use Rattle.cc_typed_bodies.specs.CcObjects.Values.{assignments}
use Rattle.cc_operand_types.proofs.Rolls.{type-Assign}
use Rattle.cc_program.specs.declared.expr.Expr.{Expr, Assign}
use Rattle.cc_program.specs.declared.expr.Place.{Place}
use Rattle.cc_operand_types.proofs.Rules.{assignment_follows}
use Rattle.cc_operand_types.proofs.Typed.{reduced_typed}
use Rattle.cc_sound_declarations.specs.Places.{IsScalarPlace, ArePlaces}
use Rattle.cc_operand_types.specs.Reduced.{ReducedLocals}
use Rattle.cc_typed_bodies.specs.CcSyntax.Operators.{assignment_type, when}
use Rattle.cc_typed_bodies.specs.CcSyntax.Types.{Named}
use Rattle.cc_typed_bodies.specs.CcSyntax.Values.{ValueType, ObjectPlace, scalar_value}
use Rattle.cc_typed_bodies.specs.CcSyntax.Views.{View}
use Rattle.cc_typed_bodies.specs.CcSyntax.Expressions.{type_of}

module _ (v : View) (locals declared : List Named) (reduced : ReducedLocals locals declared) where
  abbrev HasType : Expr → Bool
  HasType e = is_some (type_of v locals e)

  written_if : (b : Bool) (o : Option ValueType) (r : ValueType) → b ≡ false → o ≡ Some r → (if b then None else o) ≡ Some r
  written_if false o r e h = h
  written_if true o r e h = absurd (cc)

  one_typed : (s : OneScalar) (a : Place) (e : Expr) → IsScalarPlace v locals s a → IsGiven v declared s e → HasType (Assign a e) ≡ true
  one_typed s a e p g =
      let t = reduced_typed v locals declared reduced e g.1.own g.1.typed in
      let whole : assignment_type s.1 g.1.own ≡ Some s.1 = ap (λ (b : Bool). when b s.1) g.1.assignable in
      let f = assignment_follows v.structures v.target s.1 g.1.own t.0 t.2 s.1 whole in
      ap is_some (type-Assign v locals a e (ObjectPlace s.0 p.volatile p.ctype) s.1 t.0 (Some f.0) p.place (written_if s.0 (scalar_value p.ctype) s.1 g.0 p.value) t.1 f.1)

  and_true : (a b : Bool) → a ≡ true → b ≡ true → a && b ≡ true
  and_true true b h k = k
  and_true false b h k = absurd (cc)

  pub all_typed : (ss : List OneScalar) (xs : List Place) (es : List Expr) → ArePlaces v locals ss xs → AreGiven v declared ss es → list_all (λ e. is_some (type_of v locals e)) (assignments xs es) ≡ true
  all_typed [] [] [] p g = refl
  all_typed [] (x ∷ xs) es p g = elim p [ ]
  all_typed [] [] (e ∷ es) p g = elim g [ ]
  all_typed (s ∷ ss) [] es p g = elim p [ ]
  all_typed (s ∷ ss) (x ∷ xs) [] p g = elim g [ ]
  all_typed (s ∷ ss) (x ∷ xs) (e ∷ es) p g =
      and_true (HasType (Assign x e)) (list_all (λ e. is_some (type_of v locals e)) (assignments xs es)) (one_typed s x e p.0 g.0) (all_typed ss xs es p.1 g.1)
