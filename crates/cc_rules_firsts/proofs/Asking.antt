-- What the lists of a program and the sets of its facts give is what is asked.
use Rattle.std.proofs.Common.{◌≡◌, List, map, Some, slice_get, subst}
use Rattle.cc_rules_asked.specs.CcPlaces.declared.abs.Abs.{Abs}
use Rattle.cc_program.specs.declared.program.Program.{Program}
use Rattle.cc_program.specs.declared.value.Value.{Value}
use Rattle.cc_rules_asked.specs.CcRules.Rules.{AreFirstSets}
use Rattle.cc_rules_asked.specs.Asked.{all_needs}
use Rattle.cc_rules_firsts.proofs.Listed.{first_sets}
use Rattle.cc_rules_firsts.proofs.Typed.{fits, listed, is_first}
use Rattle.cc_rules_firsts.specs.Firsts.{MayGetAll, AreLeastOf, asked_of_sets, IsFirstIn}
use Rattle.cc_rules_grow.specs.CcState.Shape.{HaveShape}
use Rattle.cc_rules_asked.specs.CcStateFacts.declared.facts.Facts.{Facts}
use Rattle.cc_rules_asked.specs.CcStateFacts.declared.facts.Key.{Key}
use Rattle.cc_rules_asked.specs.CcStateKeys.Keys.{keys_of}
use Rattle.cc_rules_asked.specs.CcStateOperators.Domains.{Domain}
use Rattle.cc_state_scalars.specs.Listed.{AreStaticKeys}
use Rattle.cc_rules_asked.specs.CcSteps.State.{first_values}
use Rattle.cc_rules_asked.specs.CcSyntax.Sound.{IsTypedProgram}

module _ {I : Type 0} (d : Domain I) (p : Program) (typed : IsTypedProgram p) (facts : Facts I) (shape : HaveShape d p facts) (all : List Key) (kinds : List (Abs I)) (lists : List (List Key)) (values : List (List Value)) (all_is : all ≡ keys_of p) (kinds_are : kinds ≡ facts.whole) (are : AreStaticKeys p p.objects lists) (values_are : values ≡ map (first_values p) p.objects) where
  pub may_stand : MayGetAll all (IsFirstIn lists values) kinds
  may_stand m k x v at there first =
      fits p typed d facts shape m k x v (subst (λ (ks : List Key). slice_get ks m ≡ Some k) all_is at) (subst (λ (xs : List (Abs I)). slice_get xs m ≡ Some x) kinds_are there)
      (is_first p typed d facts shape lists are k v (subst (λ (vs : List (List Value)). IsFirstIn lists vs k v) values_are first))

  pub as_asked : (sets : List (Abs I)) → AreLeastOf all d.has d.below kinds (IsFirstIn lists values) sets → AreFirstSets d p facts 0 (keys_of p) (all_needs p (asked_of_sets 0 sets))
  as_asked sets least =
      first_sets d p facts lists (map (first_values p) p.objects) (listed p typed d facts shape lists are) (is_first p typed d facts shape lists are) shape.whole_count sets
      (subst (λ (vs : List (List Value)). AreLeastOf (keys_of p) d.has d.below facts.whole (IsFirstIn lists vs) sets) values_are
      (subst (λ (xs : List (Abs I)). AreLeastOf (keys_of p) d.has d.below xs (IsFirstIn lists values) sets) kinds_are
      (subst (λ (ks : List Key). AreLeastOf ks d.has d.below kinds (IsFirstIn lists values) sets) all_is least)))
