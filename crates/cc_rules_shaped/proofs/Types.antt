-- A register, a tracked cell, a key and a function have one type each.
use Rattle.std.proofs.Common.{◌≡◌, ℕ, ap, sym, ◌∙◌, subst, slice_get}
use Rattle.std.proofs.lemmas.Option.{same_Some}
use Rattle.cc_program.specs.declared.func.Func.{Func}
use Rattle.cc_program.specs.declared.object.Object.{Object}
use Rattle.cc_program.specs.declared.program.Program.{Program}
use Rattle.cc_program.specs.declared.types.CType.{CType}
use Rattle.cc_program.specs.declared.types.Sig.{out-Sig}
use Rattle.cc_rules_grow.proofs.CcState.CellTypes.{one_type}
use Rattle.cc_rules_grow.specs.CcState.Shape.{IsCellType, ctype_of, IsRegisterType, IsTrackedType, IsKeyType, IsResultType}
use Rattle.cc_rules_grow.specs.CcStateOperators.Domains.{Domain}
use Rattle.cc_rules_grow.specs.CcSyntax.Types.{Named}
use Rattle.cc_rules_grow.specs.CcSyntax.Values.{ValueType, scalar_value, result_value}

module _ {I : Type 0} (d : Domain I) (p : Program) where
  pub one_key_type : (k : ℕ) (t u : ValueType) → IsKeyType d p k t → IsKeyType d p k u → t ≡ u
  one_key_type k t u (key, c, at, is, cell) (key', c', at', is', cell') =
      let same_key : key' ≡ key = same_Some key' key (sym at' ∙ at) in
      let same : c' ≡ c = same_Some c' c (sym is' ∙ (ap (ctype_of p) same_key ∙ is)) in
      one_type c t u cell (subst (λ (x : CType). IsCellType x u) same cell')

  pub one_result_type : (g : ℕ) (t u : ValueType) → IsResultType d p g t → IsResultType d p g u → t ≡ u
  one_result_type g t u (f, there, is) (f', there', is') =
      let same : f' ≡ f = same_Some f' f (sym there' ∙ there) in
      same_Some t u (sym is ∙ (ap (λ (x : Func). result_value (out-Sig x.sig).result) (sym same) ∙ is'))

  pub one_register_type : (f : Func) (n : ℕ) (t u : ValueType) → IsRegisterType d p f n t → IsRegisterType d p f n u → t ≡ u
  one_register_type f n t u (r, l, at, is, scalar) (r', l', at', is', scalar') =
      let same : r' ≡ r = same_Some r' r (sym at' ∙ at) in
      let one : l' ≡ l = same_Some l' l (sym is' ∙ (ap (slice_get f.locals) same ∙ is)) in
      same_Some t u (sym scalar ∙ (ap (λ (x : Named). scalar_value x.1) (sym one) ∙ scalar'))

  pub one_tracked_type : (n : ℕ) (t u : ValueType) → IsTrackedType d p n t → IsTrackedType d p n u → t ≡ u
  one_tracked_type n t u (i, x, at, is, scalar) (i', x', at', is', scalar') =
      let same : i' ≡ i = same_Some i' i (sym at' ∙ at) in
      let one : x' ≡ x = same_Some x' x (sym is' ∙ (ap (slice_get p.objects) same ∙ is)) in
      same_Some t u (sym scalar ∙ (ap (λ (q : Object). scalar_value q.ctype) (sym one) ∙ scalar'))
