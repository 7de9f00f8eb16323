-- The unit of a tree is left by its last state.
use Rattle.std.proofs.Common.{◌≡◌, ◌<◌, ◌^◌, ℕ, List, length, Ok, Err, refl, sym, subst}
use Rattle.std.specs.Prelude.{Result}
use Rattle.cc_type.specs.CcLex.Tokens.{Tokens}
use Rattle.cc_type.specs.CcLex.declared.token.Token.{Token}
use Rattle.cc_named_units.proofs.Texts.{members_there, of_text}
use Rattle.cc_program.specs.CcNum.declared.target.Target.{Target}
use Rattle.cc_type.specs.CcNumbering.Units.{unit_left}
use Rattle.cc_program.specs.declared.program.Roles.{Roles}
use Rattle.cc_read_sound.proofs.Statements.{sentence_fits}
use Rattle.cc_read_sound.proofs.Texts.{text_fits}
use Rattle.cc_type.specs.CcScopes.State.{State, at_first}
use Rattle.cc_type.specs.CcScopes.Verdicts.{Checked, Found}
use Rattle.cc_type.specs.CcScopes.declared.verdict.Fault.{Fault}
use Rattle.cc_read_sound.proofs.Items.{closings_of_units, unit_sound}
use Rattle.cc_read_sound.specs.Items.{IsSoundState}
use Rattle.cc_relocated_units.specs.Units.{IsOfText, IsSoundUnit}
use Rattle.cc_read_sound.proofs.InitialItems.{unit_initial}
use Rattle.cc_read_sound.proofs.Left.{IsLeft, is_left}
use Rattle.cc_read_sound.proofs.Names.{names_named, names_sound}
use Rattle.cc_standing_units.proofs.Closed.{are_closed}
use Rattle.cc_standing_units.specs.Closed.{AreClosed}
use Rattle.cc_tree.specs.Sentences.{IsSentence}
use Rattle.cc_tree.specs.declared.unit.Unit.{Unit as UnitTree}
use Rattle.cc_type.specs.Defined.{defined_names}
use Rattle.cc_type.specs.Typed.{IsTyped}
use Rattle.cc_type.specs.Units.{items_found, unit_found, unit_of}
use Rattle.cc_type.specs.CcUnit.declared.unit.TypedUnit.{TypedUnit}

unit_is : (found : Found Checked) (t : TypedUnit) → unit_found found ≡ Ok t → (r : Checked × State) × (found ≡ Ok r) × (unit_left r.1 ≡ t)
unit_is (Ok r) t h = (r, refl, (let e : unit_left r.1 ≡ t = cc in e))
unit_is (Err fault) t h = absurd (cc)

-- items that were found leave it
pub typed_is : (target : Target) (roles : Roles) (u : UnitTree) (t : TypedUnit) → IsTyped u target roles t → (r : Checked × State) × (items_found target roles (defined_names u) u.items at_first ≡ Ok r) × (unit_left r.1 ≡ t)
unfolding unit_of
typed_is target roles u t h = unit_is (items_found target roles (defined_names u) u.items at_first) t h

pub state_sound : (target : Target) (roles : Roles) (u : UnitTree) (s : State) → IsSoundState target roles (defined_names u) s → IsLeft target s → IsSoundUnit target (unit_left s)
state_sound target roles u s sound left = record {
  structures = left.standing;
  names = names_sound target roles (defined_names u) s sound left;
  named = names_named target roles (defined_names u) s sound left;
}

-- behind the last item of a text structures are as their closing braces left them
text_closed : (text : List ℕ) (ts : List Token) (u : UnitTree) (target : Target) (roles : Roles) → Tokens text ts → IsSentence ts u → (r : Checked × State) → items_found target roles (defined_names u) u.items at_first ≡ Ok r → AreClosed target r.1
text_closed text ts u target roles spelled sentence r f =
    let fits = sentence_fits ts u sentence (text_fits text ts spelled) in
    let s = unit_sound target roles u r fits f in
    are_closed target r.1 s.ordered (λ i ms m. (members_there text ts u target roles spelled sentence r f i ms m).0) (λ i ms m. (members_there text ts u target roles spelled sentence r f i ms m).1)
    (closings_of_units target roles u r fits f)

-- the unit of a text's tree is sound
pub text_sound : (text : List ℕ) (ts : List Token) (u : UnitTree) (target : Target) (roles : Roles) (t : TypedUnit) → length text < 2 ^ 32 → Tokens text ts → IsSentence ts u → IsTyped u target roles t → IsSoundUnit target t
text_sound text ts u target roles t small spelled sentence h =
    let fits = sentence_fits ts u sentence (text_fits text ts spelled) in
    let c = typed_is target roles u t h in
    let s = unit_sound target roles u c.0 fits c.1 in
    let of = subst IsOfText (sym c.2) (of_text text ts u target roles t small spelled sentence h) in
    let left = is_left target c.0.1 s.ordered (text_closed text ts u target roles spelled sentence c.0 c.1) of (unit_initial target roles u c.0 fits c.1) in
    subst (IsSoundUnit target) c.2 (state_sound target roles u c.0.1 s left)
