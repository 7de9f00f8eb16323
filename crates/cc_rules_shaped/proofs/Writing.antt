-- What a write asks of the keys that its place names, and a return of the results of its function, fits.
use Rattle.std.proofs.Common.{◌≡◌, ℕ, List, [], ◌∷◌, map, Contains, inl, inr, Some, sym, subst}
use Rattle.std.specs.Prelude.{if◌then◌else◌}
use Rattle.cc_rules_grow.specs.CcFlow.declared.types.Point.{Point}
use Rattle.cc_rules_grow.specs.CcPlaces.laws.ListLaws.{cons_cases, at_head, behind_head, none_in}
use Rattle.cc_program.specs.declared.func.Func.{Func}
use Rattle.cc_program.specs.declared.program.Program.{Program}
use Rattle.cc_program.specs.declared.types.CType.{CType}
use Rattle.cc_program.specs.declared.types.Shape.{Shape, out-Shape}
use Rattle.cc_program.specs.declared.types.Shape.TheOpen as shape
use Rattle.cc_program.specs.declared.types.Sig.{Sig, out-Sig}
use Rattle.cc_rules_grow.specs.CcRules.Rules.{AreNumbers, Written, OfWrite, OfNone, Given, OfReturn, OfNoValue}
use Rattle.cc_rules_grow.specs.CcRulesFlows.Acts.{Act}
use Rattle.cc_rules_grow.specs.CcRulesFlows.Nexts.{IsPoint}
use Rattle.cc_rules_grow.proofs.Elements.{each_map}
use Rattle.cc_rules_grow.specs.CcRulesNeeds.declared.needs.Part.TheVariants.{Values}
use Rattle.cc_rules_grow.specs.CcRulesNeeds.declared.needs.Slot.TheVariants.{Whole}
use Rattle.cc_rules_grow.specs.CcRulesNeeds.Needs.{Needs}
use Rattle.cc_rules_shaped.proofs.Acting.{AreTaken}
use Rattle.cc_rules_shaped.proofs.Classes.{named_typed}
use Rattle.cc_rules_shaped.proofs.Fit.{FitsAlone, fit_each}
use Rattle.cc_rules_shaped.proofs.Here.{its_points, value_in}
use Rattle.cc_rules_shaped.specs.Shaped.{AreFit}
use Rattle.cc_rules_grow.proofs.CcState.CellTypes.{IsTyped}
use Rattle.cc_rules_grow.proofs.CcState.Numbered.{key_at}
use Rattle.cc_rules_grow.specs.CcState.Shape.{IsKeyType, HaveShape}
use Rattle.cc_rules_grow.specs.CcStateFacts.declared.facts.Facts.{Facts}
use Rattle.cc_rules_grow.specs.CcStateFacts.declared.facts.Key.{Key}
use Rattle.cc_rules_grow.specs.CcStateFacts.declared.facts.PointFact.{PointFact}
use Rattle.cc_rules_grow.specs.CcStateFacts.Facts.{fact_at}
use Rattle.cc_rules_grow.specs.CcStateKeys.Keys.{key_number}
use Rattle.cc_rules_grow.specs.CcStateOperators.Domains.{Domain}
use Rattle.cc_rules_grow.specs.CcStateReads.Reads.{registers_at}
use Rattle.cc_state_values_fit.proofs.Sets.{IsTyping}
use Rattle.cc_state_values_fit.specs.Fit.{HasWholes}
use Rattle.cc_rules_grow.proofs.CcStates.GivenLemmas.{read_as_written}
use Rattle.cc_rules_grow.specs.CcSyntax.Normal.{IsNormal}
use Rattle.cc_rules_grow.specs.CcSyntax.SameTypes.{is_void_shape}
use Rattle.cc_rules_grow.specs.CcSyntax.Values.{ValueType, NoValue, scalar_shape, scalar_value, result_value}

-- a scalar result is what a function gives
pub scalar_result : (c : CType) (t : ValueType) → scalar_value c ≡ Some t → result_value c ≡ Some t
scalar_result c t h = by (out-Shape c.shape) h
  where
    by : (x : shape.Shape-F Shape CType Sig) → scalar_shape x ≡ Some t → (if is_void_shape x then Some NoValue else scalar_shape x) ≡ Some t
    by (shape.Int i) e = e
    by (shape.Pointer to) e = e
    by shape.Void e = absurd (cc)
    by (shape.Array of k) e = absurd (cc)
    by (shape.Struct s) e = absurd (cc)
    by (shape.Func sig) e = absurd (cc)

module _ {I : Type 0} (d : Domain I) (typing : IsTyping d) (p : Program) (wholes : HasWholes d p.target) (normal : IsNormal p) (facts : Facts I) (shape : HaveShape d p facts)
    (n id : ℕ) (f : Func) (point : Point) (fact : PointFact I) (is_point : IsPoint p n id f point) (known : fact_at facts n ≡ Some fact) where
  numbered_key : (keys : List Key) (ks : List ℕ) → AreNumbers d p facts n id f point fact keys ks → (k : ℕ) → Contains ks k → (q : Key) × Contains keys q × (key_number p q ≡ Some k)
  numbered_key [] ks is k c = absurd (none_in k (subst (λ (l : List ℕ). Contains l k) is c))
  numbered_key (q ∷ keys) ks (number, rest, found, more, is) k c = elim (cons_cases number rest k (subst (λ (l : List ℕ). Contains l k) is c)) [
    | inl e ↦ (q, at_head q keys, subst (λ (m : ℕ). key_number p q ≡ Some m) e found)
    | inr r ↦ let w = numbered_key keys rest more k r in (w.0, behind_head q keys w.0 w.1, w.2)
  ]

  key_typed : (q : Key) (t : ValueType) (k : ℕ) → IsTyped p q t → key_number p q ≡ Some k → IsKeyType d p k t
  key_typed q t k (c, is, cell) number = (q, c, key_at p q k number, is, cell)

  pub written_fit : (act : Act) (ns : Needs I) → AreTaken p id f act → Written d p facts n id f point fact act ns → AreFit d p ns
  written_fit act ns taken (OfWrite a e y ks is val (keys, named, number) same) =
      let (place, t, typed, written, takes) = subst (AreTaken p id f) is taken in
      let in_type = value_in d typing p wholes normal facts shape n id f point fact is_point known t e y takes val in
      subst (AreFit d p) (sym same) (fit_each d p (λ q. Unit {0}) (map (λ k. (Whole k, Values (Some y))) ks)
      (each_map (FitsAlone d p (λ q. Unit {0})) (λ k. (Whole k, Values (Some y))) ks
      (λ k c.
      (let (q, there, numbered) = numbered_key keys ks number k c in
      let its = named_typed d p id f (registers_at facts f n) is_point.function (its_points d typing p wholes normal facts shape n id f point fact is_point known) a keys named place t typed (read_as_written place t written) q there in
      ((t, key_typed q t k its numbered, in_type), λ g i. tt)))))
  written_fit act ns taken (OfNone none is) = subst (AreFit d p) (sym is) tt

  pub given_fit : (act : Act) (ns : Needs I) → AreTaken p id f act → Given d p facts n id f point fact act ns → AreFit d p ns
  given_fit act ns taken (OfReturn e y is val same) =
      let (t, result, takes) = subst (AreTaken p id f) is taken in
      subst (AreFit d p) (sym same)
      ((t, (f, is_point.function, scalar_result (out-Sig f.sig).result t result), value_in d typing p wholes normal facts shape n id f point fact is_point known t e y takes val), λ q i. tt, tt)
  given_fit act ns taken (OfNoValue none is) = subst (AreFit d p) (sym is) tt
