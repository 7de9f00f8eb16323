-- The entry of a function that is defined: new, or of a function that was declared with this type (C99 6.2.7, 2; 6.9.1).
use Rattle.std.proofs.Common.{◌≡◌, ℕ, zero, suc, Bool, true, false, not, ◌&&◌, ◌||◌, List, [], ◌∷◌, ◌++◌, length, Option, Some, None, refl, ap, sym, ◌∙◌, subst}
use Rattle.std.specs.Prelude.{slice_get}
use Rattle.cc_type.specs.CcLinkage.Linkage.{agrees, agrees_with, declared, declared_by, is_free_for, is_visible, may_be, may_be_by, may_be_declared, new_declared, repeats}
use Rattle.cc_type.specs.CcLinkage.declared.linkage.DeclaredAs.{DeclaredAs}
use Rattle.cc_program.specs.CcNum.declared.target.Target.{Target}
use Rattle.cc_type.specs.CcOperands.Qualified.{is_function_type}
use Rattle.cc_program.specs.declared.func.Entry.{Entry}
use Rattle.cc_program.specs.declared.func.Func.{Func}
use Rattle.cc_program.specs.declared.types.CType.{CType}
use Rattle.cc_program.specs.declared.types.Shape.{Shape, out-Shape}
use Rattle.cc_program.specs.declared.types.Shape.TheOpen as shape
use Rattle.cc_program.specs.declared.types.Sig.{Sig}
use Rattle.cc_program.specs.declared.value.Leaf.{Leaf}
use Rattle.cc_type.specs.CcScopes.Definitions.{entry_added, with_entry}
use Rattle.cc_type.specs.CcScopes.Linked.{linked_name}
use Rattle.cc_type.specs.CcScopes.State.{State, Name, change_at, named_here}
use Rattle.cc_type.specs.CcScopes.declared.unit.Declared.{Declared}
use Rattle.cc_read_sound.specs.External.{AreEntries}
use Rattle.cc_read_sound.specs.Definitions.{AreApart}
use Rattle.cc_sound_declarations.specs.Entries.{IsEntryOf}
use Rattle.cc_sound_terms.proofs.Growth.{changed_there, get_last}
use Rattle.cc_sound_terms.specs.Behind.{SameKind, Objects, Devices, Functions}
use Rattle.cc_type.proofs.CcSyntax.Prefixes.{both_true}
use Rattle.cc_type.proofs.CcSyntax.SameLemmas.{compared}
use Rattle.cc_type.specs.CcSyntax.SameTypes.{is_func_shape, same_type}
use Rattle.cc_type.specs.Functions.{entered_function}
use Rattle.cc_type.specs.CcUnit.Entries.{both_entries}
use Rattle.cc_type.specs.CcUnit.declared.unit.UnitKind.{UnitKind}
use Rattle.cc_type.specs.CcUnit.declared.unit.UnitKind.TheVariants as kind

-- an entry of a function with this type
pub record IsFunctionAt (names : List Declared) (i : ℕ) (t : CType) : Type 0 where
  pub declared : Declared
  pub at : slice_get names i ≡ Some declared
  pub ctype : declared.ctype ≡ t
  pub by : Option Entry
  pub body : Option Func
  pub kind : declared.kind ≡ kind.Func by body

same_function : (t u : CType) (x : shape.Shape-F Shape CType Sig) → is_func_shape (λ sig. true) x ≡ true → may_be_by t u x ≡ true → t ≡ u
same_function t u (shape.Func s) f h = (compared t).same u h
same_function t u shape.Void f h = absurd (cc)
same_function t u (shape.Int i) f h = absurd (cc)
same_function t u (shape.Pointer to) f h = absurd (cc)
same_function t u (shape.Array of n) f h = absurd (cc)
same_function t u (shape.Struct i) f h = absurd (cc)

repeated : (asked : DeclaredAs) (visible : Bool) (t : CType) (o : Option Declared) → agrees_with asked visible t o ≡ true → (d : Declared) × (o ≡ Some d) × (may_be t d.ctype ≡ true)
repeated asked visible t None h = absurd (cc)
repeated asked visible t (Some d) h = (d, refl, (both_true (agrees asked visible d.linkage) (may_be t d.ctype) h).1)

int_no_function : (t : CType) (i : shape.Shape-F Shape CType Sig) → out-Shape t.shape ≡ i → is_func_shape (λ sig. true) i ≡ false → is_function_type t ≡ false
int_no_function t i e f = ap (is_func_shape (λ sig. true)) e ∙ f

module _ (target : Target) (defined : List Name) where
  known_kind : (x : Option Name) (t : CType) (k : UnitKind) → IsEntryOf target defined x t k → ((leaves : List Leaf) → k ≡ kind.Object leaves → is_function_type t ≡ false) → is_function_type t ≡ true → (by : Option Entry) × (body : Option Func) × (k ≡ kind.Func by body)
  known_kind x t (kind.Func by body) e a f = (by, body, refl)
  known_kind x t (kind.Object leaves) e a f = let c : true ≡ false = sym f ∙ a leaves refl in absurd (cc)
  known_kind x t (kind.Device d) e a f = let c : true ≡ false = sym f ∙ int_no_function t (shape.Int d.int) e.int refl in absurd (cc)

  known_function : (asked : DeclaredAs) (x : Name) (t : CType) (s : State) (i : ℕ) → AreEntries target defined s.names → AreApart s.names → is_function_type t ≡ true → repeats asked x t s (Some i) ≡ true → IsFunctionAt s.names i t
  known_function asked x t s i entries apart f h =
      let d = repeated asked (is_visible i x s) t (slice_get s.names i) h in
      let same : t ≡ d.0.ctype = same_function t d.0.ctype (out-Shape t.shape) f d.2 in
      let k = known_kind d.0.name d.0.ctype d.0.kind (entries i d.0 d.1) (λ leaves g. apart i d.0 leaves d.1 g) (sym (ap is_function_type same) ∙ f) in
      record { declared = d.0; at = d.1; ctype = sym same; by = k.0; body = k.1; kind = k.2 }

  -- with its attributes
  with_attributes : (names : List Declared) (i : ℕ) (t : CType) (entry : Option Entry) → IsFunctionAt names i t → IsFunctionAt (change_at i (with_entry entry) names) i t
  with_attributes names i t entry d = record {
    declared = with_entry entry d.declared;
    at = changed_there names i (with_entry entry) d.declared d.at;
    ctype = d.ctype;
    by = both_entries d.by entry;
    body = d.body;
    kind = ap (entry_added entry) d.kind;
  }

  pub entered_is : (asked : DeclaredAs) (x : Name) (t : CType) (entry : Option Entry) (s : State) → AreEntries target defined s.names → AreApart s.names → is_function_type t ≡ true → may_be_declared asked x t s ≡ true →
      IsFunctionAt (entered_function entry (declared x asked t (kind.Func None None) s)).1.names (entered_function entry (declared x asked t (kind.Func None None) s)).0 t
  entered_is asked x t entry s entries apart f h =
      by_name (linked_name x s) (both_true (is_free_for (linked_name x s) (named_here x s)) (repeats asked x t s (linked_name x s)) h).1
    where
      by_name : (o : Option ℕ) → repeats asked x t s o ≡ true → IsFunctionAt (entered_function entry (declared_by x asked t (kind.Func None None) s o)).1.names (entered_function entry (declared_by x asked t (kind.Func None None) s o)).0 t
      by_name None h =
          with_attributes (s.names ++ new_declared x asked t (kind.Func None None) ∷ []) (length s.names) t entry
          (record { declared = new_declared x asked t (kind.Func None None); at = get_last s.names (new_declared x asked t (kind.Func None None)); ctype = refl; by = None; body = None; kind = refl })
      by_name (Some i) h = with_attributes s.names i t entry (known_function asked x t s i entries apart f h)

-- ---- it stays one

pub functions_stay : (by : Option Entry) (body : Option Func) (k : UnitKind) → SameKind (kind.Func by body) k → (by' : Option Entry) × (body' : Option Func) × (k ≡ kind.Func by' body')
functions_stay by body _ (Functions _ by' _ body') = (by', body', refl)
