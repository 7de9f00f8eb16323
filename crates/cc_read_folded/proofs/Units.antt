-- The unit of a text's tree has folded expressions.
use Rattle.std.proofs.Common.{◌≡◌, ℕ, zero, suc, true, List, [], ◌∷◌, map, Option, Some, None, refl, ap, ◌∙◌, subst}
use Rattle.std.specs.Prelude.{slice_get}
use Rattle.cc_type.specs.CcLex.Tokens.{Tokens}
use Rattle.cc_type.specs.CcLex.declared.token.Token.{Token}
use Rattle.cc_lower_sound.specs.Folded.{are_folded}
use Rattle.cc_program.specs.CcNum.declared.target.Target.{Target}
use Rattle.cc_type.specs.CcNumbering.Names.{function_in, kind_in, name_in}
use Rattle.cc_type.specs.CcNumbering.Units.{ids_of, unit_left}
use Rattle.cc_program.specs.declared.func.Entry.{Entry}
use Rattle.cc_program.specs.declared.func.Func.{Func}
use Rattle.cc_program.specs.declared.program.Roles.{Roles}
use Rattle.cc_read_folded.specs.Folded.{HasFoldedBody, IsFoldedUnit}
use Rattle.cc_read_folded.proofs.Items.{unit_folds}
use Rattle.cc_read_folded.proofs.Renumbered.{bodies_same}
use Rattle.cc_read_sound.proofs.Statements.{sentence_fits}
use Rattle.cc_read_sound.proofs.Texts.{text_fits}
use Rattle.cc_read_sound.proofs.Units.{typed_is}
use Rattle.cc_read_sound.specs.Entries.{AreWell, IsWellKind}
use Rattle.cc_type.specs.CcScopes.State.{State, Name}
use Rattle.cc_type.specs.CcScopes.declared.unit.Declared.{Declared}
use Rattle.cc_tree.specs.Sentences.{IsSentence}
use Rattle.cc_tree.specs.declared.unit.Unit.{Unit as UnitTree}
use Rattle.cc_type.specs.Defined.{defined_names}
use Rattle.cc_type.specs.Typed.{IsTyped}
use Rattle.cc_type.specs.CcUnit.declared.ids.Ids.{Ids}
use Rattle.cc_type.specs.CcUnit.declared.unit.TypedUnit.{TypedUnit}
use Rattle.cc_type.specs.CcUnit.declared.unit.UnitKind.{UnitKind}
use Rattle.cc_type.specs.CcUnit.declared.unit.UnitKind.TheVariants as kind
use Rattle.cc_type.specs.CcUnit.declared.unit.UnitName.{UnitName}

record Mapped {A B : Type 0} (f : A → B) (xs : List A) (i : ℕ) (y : B) : Type 0 where
  from : A
  there : slice_get xs i ≡ Some from
  gives : f from ≡ y

one_is : {A : Type 0} (a b : A) → Some a ≡ Some b → a ≡ b
one_is a b h = cc

mapped_at : {A B : Type 0} (f : A → B) (xs : List A) (i : ℕ) (y : B) → slice_get (map f xs) i ≡ Some y → Mapped f xs i y
mapped_at f [] i y h = absurd (cc)
mapped_at f (x ∷ xs) zero y h = record { from = x; there = refl; gives = one_is (f x) y h }
mapped_at f (x ∷ xs) (suc i) y h = let m = mapped_at f xs i y h in record { from = m.from; there = m.there; gives = m.gives }

module _ (target : Target) (roles : Roles) (defined : List Name) where
  -- of an entry with a body, by the numbers of the unit
  body_of : (ids : Ids) (d : Declared) (k : UnitKind) (entry : Option Entry) (f : Func) → IsWellKind target roles defined (HasFoldedBody target) d k → kind_in ids k ≡ kind.Func entry (Some f) → are_folded target f.body ≡ true
  body_of ids d (kind.Object leaves) entry f w h = absurd (cc)
  body_of ids d (kind.Device e) entry f w h = absurd (cc)
  body_of ids d (kind.Func by None) entry f w h = absurd (cc)
  body_of ids d (kind.Func by (Some g)) entry f w h =
      let e : function_in ids by g ≡ f = cc in
      subst (λ (z : Func). are_folded target z.body ≡ true) e (bodies_same target ids g.body ∙ w.body g refl)

  left_folds : (s : State) → AreWell target roles defined (HasFoldedBody target) defined s → IsFoldedUnit target (unit_left s)
  left_folds s w i n entry f h k =
      let m = mapped_at (name_in (ids_of s)) s.names i n h in
      body_of (ids_of s) m.from m.from.kind entry f (w.well i m.from m.there).kind (ap (λ (z : UnitName). z.kind) m.gives ∙ k)

pub text_folds : (text : List ℕ) (ts : List Token) (u : UnitTree) (target : Target) (roles : Roles) (t : TypedUnit) → Tokens text ts → IsSentence ts u → IsTyped u target roles t → IsFoldedUnit target t
text_folds text ts u target roles t spelled sentence h =
    let fits = sentence_fits ts u sentence (text_fits text ts spelled) in
    let c = typed_is target roles u t h in
    subst (IsFoldedUnit target) c.2 (left_folds target roles (defined_names u) c.0.1 (unit_folds target roles u c.0 fits c.1))
