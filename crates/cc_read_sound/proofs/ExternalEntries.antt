-- Entries stay such as there may be, whatever is declared behind them.
use Rattle.std.proofs.Common.{◌≡◌, ◌⊎◌, inl, inr, ℕ, List, Some, sym, ◌∙◌, subst}
use Rattle.std.specs.Prelude.{slice_get}
use Rattle.cc_read_sound.specs.External.{AreEntries}
use Rattle.cc_type.specs.CcScopes.State.{State, Name}
use Rattle.cc_type.specs.CcScopes.declared.unit.Declared.{Declared}
use Rattle.cc_sound_declarations.proofs.Entries.{entry_stays}
use Rattle.cc_sound_declarations.specs.Declaring.{Declares, DeclaresGiven}
use Rattle.cc_sound_declarations.specs.Entries.{IsEntry}
use Rattle.cc_sound_terms.specs.Behind.{HasEntry}
use Rattle.cc_type.specs.CcSyntax.Types.{Named}
use Rattle.cc_type.specs.CcSyntax.Views.{View}

some_is : {A : Type 0} (a b : A) → Some a ≡ Some b → a ≡ b
some_is a b h = cc

module _ (v : View) (defined : List Name) where
  entry_by : (P : Type 0) (s t : State) (D E : List Named) → DeclaresGiven v defined P s D t E → AreEntries v.target defined s.names → (i : ℕ) (e : Declared) → slice_get t.names i ≡ Some e → HasEntry s.names i ⊎ IsEntry v.target defined e → IsEntry v.target defined e
  entry_by P s t D E g a i e h (inr n) = n
  entry_by P s t D E g a i e h (inl d) =
      let l = g.names i d.0 d.1 in
      subst (IsEntry v.target defined) (some_is l.0 e (sym l.1 ∙ h)) (entry_stays v.target defined d.0 l.0 l.2 (a i d.0 d.1))

  pub entries_stay : (P : Type 0) (s t : State) (D E : List Named) → DeclaresGiven v defined P s D t E → AreEntries v.target defined s.names → AreEntries v.target defined t.names
  entries_stay P s t D E g a = λ i e h. entry_by P s t D E g a i e h (g.entries i e h)

  pub entries_kept : (s t : State) (D E : List Named) → Declares v defined s D t E → AreEntries v.target defined s.names → AreEntries v.target defined t.names
  entries_kept s t D E g a = entries_stay (Unit {0}) s t D E g a
