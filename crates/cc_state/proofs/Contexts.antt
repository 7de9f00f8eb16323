-- What is said of a context in which expressions of a point's function are worked, and of the point.
use Rattle.std.proofs.Common.{◌≡◌, ℕ, Option, ap, sym, ◌∙◌, subst, slice_get}
use Rattle.std.proofs.lemmas.Option.{same_Some}
use Rattle.cc_flow_sound.specs.CcFlow.declared.types.Point.{Point}
use Rattle.cc_state_reads.specs.CcPlaces.declared.abs.Abs.{Abs}
use Rattle.cc_program.specs.declared.expr.Expr.{Expr}
use Rattle.cc_program.specs.declared.expr.Place.{Place}
use Rattle.cc_program.specs.declared.func.Func.{Func}
use Rattle.cc_program.specs.declared.program.Program.{Program}
use Rattle.cc_state.specs.Points.{GivesScalar, IsPointOf, IsContextAt, IsPureAt, IsPurePlaceAt, IsReadPlaceAt, HaveSetsAt, HaveKinds, HaveKindsAt}
use Rattle.cc_state_reads.specs.CcStateFacts.declared.facts.Facts.{Facts}
use Rattle.cc_state_reads.specs.CcStateOperators.Domains.{Domain}
use Rattle.cc_state_reads.specs.Contexts.{HaveKind, ReadsScalar}
use Rattle.cc_state_reads.specs.Reads.{registers_at}
use Rattle.cc_state_reads.specs.CcStateValues.declared.context.Context.{Context}
use Rattle.cc_state_reads.specs.CcStateValues.Contexts.{HaveSetsIn, set_in}
use Rattle.cc_state_reads.specs.CcStateValues.Typed.{HaveSets, IsPure, IsPurePlace}
use Rattle.cc_state_reads.specs.CcSyntax.Sizes.{AreSized}

module _ {I : Type 0} (p : Program) (facts : Facts I) (n : ℕ) (f : Func) (c : Context I) (h : IsContextAt p facts n f c) where
  module _ (P : Program → ℕ → Func → (ℕ → Option (Abs I)) → Type 0) where
    pub into_context : P p h.point.func f (registers_at facts f n) → P c.program.now c.id c.func.now (set_in c)
    into_context k =
        subst (λ (z : Program). P z c.id c.func.now (set_in c)) (sym h.program)
        (subst (λ (z : ℕ). P p z c.func.now (set_in c)) (sym h.id)
        (subst (λ (z : Func). P p h.point.func z (set_in c)) (sym h.func)
        (subst (λ (z : ℕ → Option (Abs I)). P p h.point.func f z) (sym h.sets) k)))

    pub from_context : P c.program.now c.id c.func.now (set_in c) → P p h.point.func f (registers_at facts f n)
    from_context k =
        subst (λ (z : ℕ → Option (Abs I)). P p h.point.func f z) h.sets
        (subst (λ (z : Func). P p h.point.func z (set_in c)) h.func
        (subst (λ (z : ℕ). P p z c.func.now (set_in c)) h.id
        (subst (λ (z : Program). P z c.id c.func.now (set_in c)) h.program k)))

  pub context_sized : AreSized p.structures p.target → AreSized c.program.now.structures c.program.now.target
  context_sized k = subst (λ (z : Program). AreSized z.structures z.target) (sym h.program) k

  pub context_sets : (d : Domain I) → HaveSetsAt d p facts n → HaveSetsIn d c
  context_sets d k = into_context (λ p id f register. HaveSets d p id f register) (k h.point f h.there)

  pub context_kinds : (d : Domain I) (a : Place) → HaveKindsAt d p facts n a → HaveKind d c facts a
  context_kinds d a k = into_context (λ p id f register. HaveKinds d facts a p id f register) (k h.point f h.there)

  -- the function of a point is one alone
  one_function : (q : Point) (g : Func) → IsPointOf p n q g → g ≡ f
  one_function q g k =
      let same : q ≡ h.point = same_Some q h.point (sym k.numbered ∙ h.there.numbered) in
      same_Some g f (sym k.function ∙ (ap (λ (z : Point). slice_get p.funcs z.func) same ∙ h.there.function))

  pub own_pure : (e : Expr) → IsPure p f e → IsPure c.program.now c.func.now e
  own_pure e k = into_context (λ p id f register. IsPure p f e) k

  pub own_place : (a : Place) → IsPurePlace p f a → IsPurePlace c.program.now c.func.now a
  own_place a k = into_context (λ p id f register. IsPurePlace p f a) k

  pub own_scalar : (a : Place) → GivesScalar p f a → ReadsScalar c a
  own_scalar a k = into_context (λ p id f register. GivesScalar p f a) k

  pub context_pure : (e : Expr) → IsPureAt p n e → IsPure c.program.now c.func.now e
  context_pure e (q, g, k, pure) = own_pure e (subst (λ (z : Func). IsPure p z e) (one_function q g k) pure)

  pub context_place : (a : Place) → IsPurePlaceAt p n a → IsPurePlace c.program.now c.func.now a
  context_place a (q, g, k, pure) = own_place a (subst (λ (z : Func). IsPurePlace p z a) (one_function q g k) pure)

  pub read_place : (a : Place) → IsReadPlaceAt p n a → IsPurePlace c.program.now c.func.now a
  read_place a (q, g, k, pure, reads) = own_place a (subst (λ (z : Func). IsPurePlace p z a) (one_function q g k) pure)

  pub context_scalar : (a : Place) → IsReadPlaceAt p n a → ReadsScalar c a
  context_scalar a (q, g, k, pure, reads) = own_scalar a (subst (λ (z : Func). GivesScalar p z a) (one_function q g k) reads)
