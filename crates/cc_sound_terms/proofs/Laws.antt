-- Lists of specifiers, as they stand in the text.
use Rattle.std.proofs.Common.{◌≡◌, Bool, true, List, [], ◌∷◌, map, Ok}
use Rattle.cc_terms.specs.CcSyntax.Views.{View}
use Rattle.cc_program.proofs.Each.{Each}
use Rattle.cc_program.specs.declared.program.Roles.{Roles}
use Rattle.cc_terms.specs.CcScopes.State.{State}
use Rattle.cc_terms.specs.CcSpecifiers.declared.specifier.Specified.{Specified}
use Rattle.cc_terms.specs.CcSpecifiers.declared.storage.Setting.{Setting}
use Rattle.cc_terms.proofs.CcSyntax.Prefixes.{both_true}
use Rattle.cc_tree.specs.declared.at.At.{At}
use Rattle.cc_tree.specs.declared.tree.Spec.{Spec}
use Rattle.cc_terms.specs.Specifiers.{specified_found}
use Rattle.cc_terms.specs.Terms.{spec_here}
use Rattle.cc_sound_terms.specs.Knowing.{Stands}
use Rattle.cc_sound_terms.specs.Ranges.{all_fit, spec_in_range}
use Rattle.cc_sound_terms.proofs.Cycle.{spec_holds}
use Rattle.cc_sound_terms.proofs.Meant.{TypesHold, SpecHolds}
use Rattle.cc_sound_terms.proofs.Types.{specified_holds}

module _ (v : View) (roles : Roles) where
  abbrev ranged : At Spec → At Bool
  ranged x = record { at = x.at; node = spec_in_range x.node }

  each_spec : (xs : List (At Spec)) → all_fit (map ranged xs) ≡ true → Each (λ x. SpecHolds v x.node) (map (spec_here v.target roles) xs)
  each_spec [] h = tt
  each_spec (x ∷ xs) h = let c = both_true (spec_in_range x.node) (all_fit (map ranged xs)) h in (spec_holds v [] roles x.node c.0, each_spec xs c.1)

  pub specifiers_stand : (setting : Setting) (xs : List (At Spec)) → all_fit (map ranged xs) ≡ true → (s : State) (r : Specified × State) → specified_found setting (map (spec_here v.target roles) xs) s ≡ Ok r →
      TypesHold v Specified (λ x. Stands v x.ctype) s r
  specifiers_stand setting xs f s r h = specified_holds v setting (map (spec_here v.target roles) xs) (each_spec xs f) s r h
