-- Lists of specifiers, as they stand in the text.
use Rattle.std.proofs.Common.{◌≡◌, ◌≤◌, true, List, [], ◌∷◌, map, Ok, refl}
use Rattle.cc_named_units.specs.Counts.{each_count, spec_count}
use Rattle.cc_named_units.specs.Names.{each_named, spec_named}
use Rattle.cc_program.specs.CcNum.declared.target.Target.{Target}
use Rattle.cc_program.specs.declared.program.Roles.{Roles}
use Rattle.cc_type.specs.CcScopes.State.{State}
use Rattle.cc_type.specs.CcSpecifiers.declared.specifier.Specified.{Specified}
use Rattle.cc_type.specs.CcSpecifiers.declared.storage.Setting.{Setting}
use Rattle.cc_type.proofs.CcSyntax.Prefixes.{both_true}
use Rattle.cc_type.specs.CcTerms.Specifiers.{specified_found}
use Rattle.cc_type.specs.CcTerms.Terms.{spec_here}
use Rattle.cc_tree.specs.declared.at.At.{At}
use Rattle.cc_tree.specs.declared.tree.Spec.{Spec}
use Rattle.cc_named_units.specs.Named.{Limits, Adds}
use Rattle.cc_named_units.proofs.Adding.{AreCounted}
use Rattle.cc_named_units.proofs.Cycle.{spec_adds, front_few, rest_few}
use Rattle.cc_named_units.proofs.Specifiers.{SpecAdds, specified_adds}

module _ (target : Target) (roles : Roles) (most : Limits) where
  specs_add : (xs : List (At Spec)) → each_named spec_named xs ≡ true → each_count spec_count xs ≤ most.few → AreCounted (SpecAdds target most) (map (spec_here target roles) xs) (each_count spec_count xs)
  specs_add [] h l = tt
  specs_add (x ∷ xs) h l =
      let c = both_true (spec_named x.node) (each_named spec_named xs) h in
      let rest = each_count spec_count xs in
      (spec_count x.node, rest, refl, spec_adds target roles most x.node c.0 (front_few (spec_count x.node) rest most.few l), specs_add xs c.1 (rest_few (spec_count x.node) rest most.few l))

  pub specifiers_add : (setting : Setting) (xs : List (At Spec)) → each_named spec_named xs ≡ true → each_count spec_count xs ≤ most.few → (s : State) (r : Specified × State) → specified_found setting (map (spec_here target roles) xs) s ≡ Ok r →
      Adds most (each_count spec_count xs) s r.1
  specifiers_add setting xs q l s r h = specified_adds target most setting (map (spec_here target roles) xs) (each_count spec_count xs) (specs_add xs q l) s r h
