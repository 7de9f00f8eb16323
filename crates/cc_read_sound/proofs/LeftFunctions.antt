-- Functions stay sound in the unit that is left, with their names.
use Rattle.std.proofs.Common.{◌≡◌, ℕ, Bool, true, false, List, [], ◌∷◌, map, Option, None, refl, ap, subst}
use Rattle.std.specs.Prelude.{zip}
use Rattle.std.proofs.lemmas.List.{length-map}
use Rattle.cc_standing_units.proofs.LeftViews.{left_renumbered}
use Rattle.cc_standing_units.specs.Laid.{AreLaid}
use Rattle.cc_linked_programs.proofs.Relocated.{function_relocated, test_stays}
use Rattle.cc_program.specs.CcNum.declared.target.Target.{Target}
use Rattle.cc_type.specs.CcNumbering.Names.{function_in}
use Rattle.cc_type.specs.CcNumbering.Numbers.{numbers_of}
use Rattle.cc_type.specs.CcNumbering.Structures.{all_named_in}
use Rattle.cc_type.specs.CcNumbering.Units.{ids_of, unit_left}
use Rattle.cc_standing_units.specs.Views.{view_of}
use Rattle.cc_program.proofs.Each.{Each}
use Rattle.cc_program.specs.declared.func.Entry.{Entry}
use Rattle.cc_program.specs.declared.func.Func.{Func}
use Rattle.cc_program.specs.declared.types.CType.{CType}
use Rattle.cc_program.specs.declared.types.Sig.{Sig}
use Rattle.cc_relocation.specs.Relocated.{func_with, local_with}
use Rattle.cc_type.specs.CcScopes.State.{State}
use Rattle.cc_relocated_units.specs.Units.{IsSoundFunction, unit_view}
use Rattle.cc_sound_terms.specs.Ordered.{IsOrdered}
use Rattle.cc_type.specs.CcSyntax.Kinds.{Kind}
use Rattle.cc_type.specs.CcSyntax.Names.{local_names}
use Rattle.cc_type.specs.CcSyntax.Types.{Named}
use Rattle.cc_type.specs.CcSyntax.Views.{kind_in}
use Rattle.cc_type.specs.CcUnit.Mentioned.{all_of, in_stmt}
use Rattle.cc_type.specs.CcUnit.Renumbered.{sig_renumbered, stmt_renumbered, type_renumbered}

own_names : (ns : List ℕ) (ls : List Named) → map (local_with ns) (zip (local_names ls) ls) ≡ all_named_in ns ls
own_names ns [] = refl
own_names ns (l ∷ ls) = ap (λ (r : List Named). (l.0, type_renumbered ns l.1) ∷ r) (own_names ns ls)

speaks : (xs : List ℕ) → Each (λ (i : ℕ). true ≡ true) xs
speaks [] = tt
speaks (x ∷ xs) = (refl, speaks xs)

module _ (target : Target) (s : State) (ordered : IsOrdered s) (laid : AreLaid target s) where
  pub test_left : (test : Option Kind → Bool) → test None ≡ false → (t : CType) → test (kind_in (view_of target s) t) ≡ true → test (kind_in (unit_view target (unit_left s)) (type_renumbered (numbers_of s) t)) ≡ true
  test_left test none t h = test_stays (view_of target s) (unit_view target (unit_left s)) (ids_of s) (λ (i : ℕ). true) (left_renumbered target s ordered laid) test none t h

  function_is : (f : Func) (entry : Option Entry) → func_with f.name (local_names f.locals) entry (ids_of s) f ≡ function_in (ids_of s) entry f
  function_is f entry =
      ap (λ (ls : List Named). record { name = f.name; sig = sig_renumbered (numbers_of s) f.sig; entry = entry; params = f.params; locals = ls; body = map (stmt_renumbered (ids_of s)) f.body }) (own_names (numbers_of s) f.locals)

  pub function_left : (sig : Sig) (f : Func) → IsSoundFunction (view_of target s) sig f → (entry : Option Entry) → IsSoundFunction (unit_view target (unit_left s)) (sig_renumbered (numbers_of s) sig) (function_in (ids_of s) entry f)
  function_left sig f h entry =
      subst (λ (g : Func). IsSoundFunction (unit_view target (unit_left s)) (sig_renumbered (numbers_of s) sig) g) (function_is f entry)
      (function_relocated (view_of target s) (unit_view target (unit_left s)) (ids_of s) (λ (i : ℕ). true) (left_renumbered target s ordered laid) sig f h (speaks (all_of (map in_stmt f.body))) f.name (local_names f.locals) entry
      (length-map f.locals (λ (l : Named). l.0)))
