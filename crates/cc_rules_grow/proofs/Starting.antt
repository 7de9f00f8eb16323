-- What keys and the entry of main are asked to have is the same for all facts.
use Rattle.std.proofs.Common.{◌≡◌, ℕ, suc, true, false, List, [], ◌∷◌, map, length, Option, Some, None, slice_get, sym, ◌∙◌, subst}
use Rattle.std.proofs.lemmas.Option.{same_Some}
use Rattle.cc_rules.specs.CcCells.Cells.{scalar_in}
use Rattle.cc_rules.specs.CcPlaces.Abstract.{IsBelowAbs}
use Rattle.cc_rules.specs.CcPlaces.declared.abs.Abs.{Abs}
use Rattle.cc_program.specs.declared.func.Func.{Func}
use Rattle.cc_program.specs.declared.program.Program.{Program}
use Rattle.cc_program.specs.declared.value.Value.{Value}
use Rattle.cc_rules.specs.Rules.{NeedsAt, IsFirstSet, AreFirstSets, IsOnly, IsStart, IsStarted, AtStart, Elsewhere}
use Rattle.cc_rules_grow.proofs.Below.{IsFlowBelow, Had, part_had, flow_had}
use Rattle.cc_rules_grow.proofs.Elements.{some_within}
use Rattle.cc_rules_grow.proofs.Kept.{IsKept, kind_through}
use Rattle.cc_rules.specs.CcRulesNeeds.Flowing.{Flowing}
use Rattle.cc_rules.specs.CcRulesNeeds.declared.needs.Part.TheVariants.{Values}
use Rattle.cc_rules.specs.CcRulesNeeds.declared.needs.Slot.TheVariants.{Whole}
use Rattle.cc_rules.specs.CcRulesNeeds.Needs.{Needs, AreValuesBelow, IsBelow}
use Rattle.cc_rules.specs.CcStateFacts.declared.facts.Facts.{Facts}
use Rattle.cc_rules.specs.CcStateFacts.declared.facts.Key.{Key}
use Rattle.cc_rules.specs.CcStateKeys.Tracked.{registers, tracked}
use Rattle.cc_rules.specs.CcStateOperators.Domains.{Domain}
use Rattle.cc_state_points.proofs.CcStateValuesGrow.Images.{kind_below}
use Rattle.cc_rules.specs.CcSteps.State.{first_values}

module _ {I : Type 0} (d : Domain I) (k : IsKept d) (p : Program) (facts others holder : Facts I) (less : IsBelow d.below facts others) where
  abbrev AreHad : Needs I → Type 0
  AreHad ns = Had d k holder ns

  first_less : (n : ℕ) (q : Key) (y z : Abs I) → IsFirstSet d p facts n q y → IsFirstSet d p others n q z → IsBelowAbs d.below y z
  first_less n q y z l m =
      let h : IsBelowAbs d.below l.set m.set = subst (λ (x : Option (Abs I)). AreValuesBelow d.below (Some l.set) x) m.there (subst (λ (x : Option (Abs I)). AreValuesBelow d.below x (slice_get others.whole n)) l.there (less (Whole n))) in
      l.least z (kind_through l.set m.set z (kind_below d.below l.set m.set h) m.alike) m.has

  pub first_sets_grow : (n : ℕ) (keys : List Key) (ns ms : Needs I) → AreFirstSets d p facts n keys ns → AreFirstSets d p others n keys ms → AreHad ms → AreHad ns
  first_sets_grow n [] ns ms is is' had = subst AreHad (sym is) tt
  first_sets_grow n (q ∷ keys) ns ms (y, rest, first, more, is) (z, rest', first', more', is') had =
      let had' = subst AreHad is' had in
      subst AreHad (sym is) (part_had d k holder (Whole n) (Values (Some y)) (Values (Some z)) (first_less n q y z first first') had'.0, first_sets_grow (suc n) keys rest rest' more more' had'.1)

  only_below : (v : Value) (x y : Option (Abs I)) → IsOnly d p facts v x → IsOnly d p others v y → AreValuesBelow d.below x y
  only_below v x y (a, is, has, least) (b, is', has', least') =
      subst (λ (z : Option (Abs I)). AreValuesBelow d.below z y) (sym is) (subst (λ (z : Option (Abs I)). AreValuesBelow d.below (Some a) z) (sym is') (least b has'))

  none_less : (x y : Option (Abs I)) → x ≡ None → AreValuesBelow d.below x y
  none_less x y e = subst (λ (z : Option (Abs I)). AreValuesBelow d.below z y) (sym e) tt

  start_less : (count : ℕ) (a b : Flowing I) → ((j i : ℕ) → slice_get (tracked p) j ≡ Some i → (v : Value) × (scalar_in (map (first_values p) p.objects) i 0 ≡ Some v)) → IsStart d p facts a → IsStart d p others b → IsFlowBelow d count (length (tracked p)) a b
  start_less count a b first l m = record {
    off = λ h. m.off;
    on = λ h. let e : false ≡ true = sym l.on ∙ h in absurd (cc);
    locals = λ r i. none_less (a.local r) (b.local r) (l.locals r);
    cells_below = λ j i. (let (object, at) = some_within (tracked p) j i in let (v, is) = first j object at in only_below v (a.cell j) (b.cell j) (l.cells j object v at is) (m.cells j object v at is));
    pairs = λ r j h. let e : false ≡ true = sym (m.pairs r j) ∙ h in absurd (cc);
  }

  pub started_grows : ((j i : ℕ) → slice_get (tracked p) j ≡ Some i → (v : Value) × (scalar_in (map (first_values p) p.objects) i 0 ≡ Some v)) → (n : ℕ) (ns ms : Needs I) → IsStarted d p facts n ns → IsStarted d p others n ms → AreHad ms → AreHad ns
  started_grows first n ns ms (Elsewhere other is) l had = subst AreHad (sym is) tt
  started_grows first n ns ms (AtStart f a there here start is) (Elsewhere other is') had = absurd (other here)
  started_grows first n ns ms (AtStart f a there here start is) (AtStart g b there' here' start' is') had =
      let had' = subst AreHad is' had in
      let same : g ≡ f = same_Some g f (sym there' ∙ there) in
      subst AreHad (sym is)
      (had'.0, (had'.1.0, flow_had d k holder n (length (registers f)) (length (tracked p)) a b (start_less (length (registers f)) a b first start start') (subst (λ (x : Func). AreHad (NeedsAt d p others n x b)) same had'.1.1)))
