-- What the unit that is left has of its last state: its structures stand, and what is sound over the state's own view is sound over that of the unit, by its numbers (C99 6.2.5, 6.7.8, 6.9.1).
use Rattle.std.proofs.Common.{◌≡◌, ℕ, Bool, true, false, List, Option, Some, None, slice_get, subst}
use Rattle.cc_read_sound.specs.Values.{AreInitial, HasInitial}
use Rattle.cc_read_sound.proofs.LeftFunctions.{function_left, test_left}
use Rattle.cc_read_sound.proofs.Leaves.{values_left}
use Rattle.cc_relocated_units.specs.Linked.{AreStanding}
use Rattle.cc_program.specs.CcNum.declared.target.Target.{Target}
use Rattle.cc_type.specs.CcNumbering.Names.{function_in}
use Rattle.cc_type.specs.CcNumbering.Numbers.{numbers_of}
use Rattle.cc_type.specs.CcNumbering.Units.{ids_of, unit_left}
use Rattle.cc_standing_units.specs.Views.{view_of}
use Rattle.cc_program.specs.declared.func.Entry.{Entry}
use Rattle.cc_program.specs.declared.func.Func.{Func}
use Rattle.cc_program.specs.declared.types.CType.{CType}
use Rattle.cc_program.specs.declared.types.Sig.{Sig}
use Rattle.cc_program.specs.declared.value.Leaf.{Leaf}
use Rattle.cc_type.specs.CcScopes.State.{State}
use Rattle.cc_type.specs.CcScopes.declared.unit.Declared.{Declared}
use Rattle.cc_relocated_units.specs.Units.{IsOfText, IsSoundFunction, unit_view}
use Rattle.cc_sound_terms.specs.Ordered.{IsOrdered}
use Rattle.cc_standing_units.proofs.Standing.{left_standing}
use Rattle.cc_standing_units.specs.Closed.{AreClosed}
use Rattle.cc_type.specs.CcSyntax.Initial.{IsInitial}
use Rattle.cc_type.specs.CcSyntax.Kinds.{Kind}
use Rattle.cc_type.specs.CcSyntax.Views.{kind_in}
use Rattle.cc_type.specs.CcUnit.Renumbered.{sig_renumbered, type_renumbered}
use Rattle.cc_type.specs.CcUnit.declared.unit.UnitKind.TheVariants as kind

pub record IsLeft (target : Target) (s : State) : Type 0 where
  -- a test of kinds that no missing one passes
  pub tests : (test : Option Kind → Bool) → test None ≡ false → (t : CType) → test (kind_in (view_of target s) t) ≡ true → test (kind_in (unit_view target (unit_left s)) (type_renumbered (numbers_of s) t)) ≡ true
  pub values : (t : CType) (leaves : List Leaf) → IsInitial (view_of target s) t leaves → IsInitial (unit_view target (unit_left s)) (type_renumbered (numbers_of s) t) leaves
  pub functions : (sig : Sig) (f : Func) → IsSoundFunction (view_of target s) sig f → (entry : Option Entry) → IsSoundFunction (unit_view target (unit_left s)) (sig_renumbered (numbers_of s) sig) (function_in (ids_of s) entry f)
  pub standing : AreStanding target (unit_left s)
  -- first values
  pub initial : (i : ℕ) (d : Declared) (leaves : List Leaf) → slice_get s.names i ≡ Some d → d.kind ≡ kind.Object leaves → IsInitial (view_of target s) d.ctype leaves

pub is_left : (target : Target) (s : State) → IsOrdered s → AreClosed target s → IsOfText (unit_left s) → AreInitial (view_of target s) s.names → IsLeft target s
is_left target s ordered closed text initial = record {
  tests = test_left target s ordered closed.laid;
  values = values_left target s ordered closed.laid;
  functions = function_left target s ordered closed.laid;
  standing = left_standing target s ordered closed text;
  initial = λ i d leaves e k. subst (HasInitial (view_of target s) d.ctype) k (initial i d e);
}
