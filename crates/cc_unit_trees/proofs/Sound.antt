-- What soundness says of the types of objects and of a function's result, parameters and locals.
use Rattle.std.proofs.Common.{◌≡◌, ℕ, zero, suc, ◌||◌, Bool, true, false, List, [], ◌∷◌, take, drop, Option, Some, None, refl, ap, sym, ◌∙◌, subst}
use Rattle.std.specs.List.{list_all}
use Rattle.std.specs.Option.{is_some}
use Rattle.cc_lex.proofs.Booleans.{and-true}
use Rattle.cc_pieces.specs.Declarators.{declarator}
use Rattle.cc_program.specs.declared.program.Program.{Program}
use Rattle.cc_program.specs.declared.types.CType.{CType}
use Rattle.cc_program.specs.declared.types.Shape.{out-Shape}
use Rattle.cc_program.specs.declared.types.Shape.TheOpen as shape
use Rattle.cc_typed.specs.CcSyntax.Kinds.{Kind, IsVoid, qualified_kind, shape_kind, is_result, is_object_type, extent_in}
use Rattle.cc_typed.specs.CcSyntax.Programs.{kind_in}
use Rattle.cc_typed.specs.CcSyntax.Sound.{is_local}
use Rattle.cc_typed.specs.CcSyntax.Types.{Named}
use Rattle.cc_typed.proofs.CcSyntax.KindRolls.{kind-opens, parts_kind}
use Rattle.cc_expression_trees.proofs.Declarators.{type-reads}
use Rattle.cc_expression_trees.proofs.TypeNames.{there}
use Rattle.cc_expression_trees.proofs.Parameters.{Reads}
use Rattle.cc_unit_trees.proofs.FunctionDeclarations.{EachKnown}
use Rattle.cc_unit_trees.proofs.Functions.{EachParameter}

pub object-some : (k : Option Kind) → is_object_type k ≡ true → is_some k ≡ true
object-some None h = absurd (cc)
object-some (Some k) h = refl

pub result-some : (k : Option Kind) → is_result k ≡ true → is_some k ≡ true
result-some None h = absurd (cc)
result-some (Some k) h = refl

module _ (p : Program) where
  known-reads : (t : CType) → is_some (kind_in p t) ≡ true → Reads p.structures (declarator p.structures t) t
  known-reads t h = type-reads p.structures p.structures p.target (there p.structures) t h

  pub object-reads : (t : CType) → is_object_type (kind_in p t) ≡ true → Reads p.structures (declarator p.structures t) t
  object-reads t h = known-reads t (object-some (kind_in p t) h)

  pub result-reads : (t : CType) → is_result (kind_in p t) ≡ true → Reads p.structures (declarator p.structures t) t
  result-reads t h = known-reads t (result-some (kind_in p t) h)

  void-object : (q : Bool) → is_object_type (qualified_kind q (Some IsVoid)) ≡ true → ⊥
  void-object q h = cc

  object-other : (t : CType) → is_object_type (kind_in p t) ≡ true → out-Shape t.shape ≡ shape.Void → ⊥
  object-other t h k = void-object (t.constant || t.volatile)
      (subst (λ o. is_object_type o ≡ true) (kind-opens p.target (extent_in p.structures p.target) t
      ∙ ap (λ x. qualified_kind (t.constant || t.volatile) (shape_kind p.target (extent_in p.structures p.target) (parts_kind p.target (extent_in p.structures p.target) x))) k) h)

  pub parameters-known : (n : ℕ) (ls : List Named) → list_all (is_local p) ls ≡ true → EachParameter p (take n ls)
  parameters-known zero [] h = tt
  parameters-known (suc n) [] h = tt
  parameters-known zero (l ∷ ls) h = tt
  parameters-known (suc n) (l ∷ ls) h = let q = and-true (is_local p l) (list_all (is_local p) ls) h in ((object-reads l.1 q.0, object-other l.1 q.0), parameters-known n ls q.1)

  pub locals-known : (n : ℕ) (ls : List Named) → list_all (is_local p) ls ≡ true → EachKnown p.structures (drop n ls)
  locals-known zero [] h = tt
  locals-known (suc n) [] h = tt
  locals-known zero (l ∷ ls) h = let q = and-true (is_local p l) (list_all (is_local p) ls) h in (object-reads l.1 q.0, locals-known zero ls q.1)
  locals-known (suc n) (l ∷ ls) h = locals-known n ls (and-true (is_local p l) (list_all (is_local p) ls) h).1
