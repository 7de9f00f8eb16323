-- A text whose tree is typed to the unit that a program is reads as the program.
use Rattle.std.proofs.Common.{◌≡◌, ◌<◌, ◌≤◌, ℕ, List, [], ◌∷◌, length, None, Ok, refl, ap, ◌∙◌, subst, sym}
use Rattle.std.proofs.lemmas.List.{length-map}
use Rattle.cc_type.specs.CcLex.declared.token.Token.{Token}
use Rattle.cc_type.specs.CcLex.Tokens.{Tokens}
use Rattle.cc_link.specs.Linked.{Links}
use Rattle.cc_type.specs.CcNumbering.Units.{unit_left}
use Rattle.cc_print.specs.Printed.{text}
use Rattle.cc_program.specs.declared.program.Program.{Program}
use Rattle.cc_read.specs.Texts.{Reads, identifiers_of}
use Rattle.cc_type.specs.CcScopes.State.{State, at_first}
use Rattle.cc_type.specs.CcScopes.Verdicts.{checked}
use Rattle.cc_shown_names.specs.Parts.{HasParts}
use Rattle.cc_shown_names.specs.States.{last_state, place_at, place_in, places}
use Rattle.cc_printed_programs.specs.Ascending.{Ascend}
use Rattle.cc_printed_programs.specs.Units.{unit_shown}
use Rattle.cc_things.specs.declared.text.Text.{Text}
use Rattle.cc_tree.specs.declared.at.At.{At}
use Rattle.cc_tree.specs.declared.unit.Item.{Item}
use Rattle.cc_tree.specs.declared.unit.Unit.{Unit as UnitTree}
use Rattle.cc_tree.specs.Outside.{first_outside}
use Rattle.cc_tree.specs.Sentences.{IsSentence}
use Rattle.cc_type.specs.Defined.{defined_names}
use Rattle.cc_type.specs.Typed.{IsTyped}
use Rattle.cc_type.specs.Units.{items_found, unit_found, unit_of}
use Rattle.cc_type.specs.CcUnit.declared.unit.TypedUnit.{TypedUnit}
use Rattle.cc_unit_trees.specs.Programs.{ShowsProgram}

-- what the items leave is the unit
left-typed : (p : Program) (u : UnitTree) (s : State) (t : TypedUnit) → items_found p.target p.roles (defined_names u) u.items at_first ≡ Ok (checked, s) → unit_left s ≡ t → IsTyped u p.target p.roles t
unfolding unit_of
left-typed p u s t found left = ap unit_found found ∙ ap Ok left

places-as-many : (xs : List (At Item)) (n : ℕ) → length xs ≡ n → length (places xs) ≡ n
places-as-many xs n e = length-map xs (λ (x : At Item). place_in x.node) ∙ e

-- offsets that never fall, of so many
pub ascend-by : (xs : List (At Item)) (n : ℕ) → length xs ≡ n → ((i j : ℕ) → i ≤ j → j < length xs → place_at (places xs) i ≤ place_at (places xs) j) → Ascend n (place_at (places xs))
ascend-by xs n e h i j l k = h i j l (subst (λ m. j < m) (sym e) k)

module _ (p : Program) where
  abbrev text_of : List ℕ → List ℕ → List (List ℕ) → Text
  text_of objects functions identifiers = record { unit = unit_shown p (place_at functions) (place_at objects); identifiers = identifiers }

  abbrev pub LeavesUnit : Type 0
  LeavesUnit = (objects functions : List ℕ) → length objects ≡ length p.objects → length functions ≡ length p.funcs → unit_left (last_state p objects functions) ≡ unit_shown p (place_at functions) (place_at objects)

  abbrev pub LinksShown : Type 0
  LinksShown = (function_at object_at : ℕ → ℕ) → Ascend (length p.funcs) function_at → Ascend (length p.objects) object_at → (identifiers : List (List ℕ)) →
      let t : Text = record { unit = unit_shown p function_at object_at; identifiers = identifiers } in Links (t ∷ []) p.target p.roles p

  pub tree-reads : (ts : List Token) (u : UnitTree) → Tokens (text p) ts → IsSentence ts u → (parts : HasParts p u.items) →
      items_found p.target p.roles (defined_names u) u.items at_first ≡ Ok (checked, last_state p (places parts.objects) (places parts.functions)) →
      ((i j : ℕ) → i ≤ j → j < length parts.objects → place_at (places parts.objects) i ≤ place_at (places parts.objects) j) →
      ((i j : ℕ) → i ≤ j → j < length parts.functions → place_at (places parts.functions) i ≤ place_at (places parts.functions) j) →
      LeavesUnit → LinksShown → Reads (text p ∷ []) p.target p.roles p
  tree-reads ts u tokens sentence parts found objects_ascend functions_ascend left links =
      let objects = places parts.objects in
      let functions = places parts.functions in
      let shown = left objects functions (places-as-many parts.objects (length p.objects) parts.many_objects) (places-as-many parts.functions (length p.funcs) parts.many_functions) in
      record {
        units = text_of objects functions (identifiers_of ts) ∷ [];
        typed = (record { tokens = ts; tokens_of = tokens; tree = u; sentence = sentence; typed = left-typed p u (last_state p objects functions) (unit_shown p (place_at functions) (place_at objects)) found shown; identifiers = refl }, tt);
        linked = links (place_at functions) (place_at objects) (ascend-by parts.functions (length p.funcs) parts.many_functions functions_ascend)
            (ascend-by parts.objects (length p.objects) parts.many_objects objects_ascend) (identifiers_of ts);
      }

  abbrev pub HasSentence : Type 0
  HasSentence = (ts : List Token) × Tokens (text p) ts × (first_outside ts ≡ None) × ((u : UnitTree) × IsSentence ts u × ShowsProgram p u)

  abbrev pub TypesUnits : Type 0
  TypesUnits = (u : UnitTree) → ShowsProgram p u → (parts : HasParts p u.items) × (items_found p.target p.roles (defined_names u) u.items at_first ≡ Ok (checked, last_state p (places parts.objects) (places parts.functions)))

  abbrev pub PlacesAscend : Type 0
  PlacesAscend = (text : List ℕ) (ts : List Token) (u : UnitTree) → Tokens text ts → IsSentence ts u → (parts : HasParts p u.items) →
      ((i j : ℕ) → i ≤ j → j < length parts.objects → place_at (places parts.objects) i ≤ place_at (places parts.objects) j)
      × ((i j : ℕ) → i ≤ j → j < length parts.functions → place_at (places parts.functions) i ≤ place_at (places parts.functions) j)

  pub text-reads : HasSentence → TypesUnits → PlacesAscend → LeavesUnit → LinksShown → Reads (text p ∷ []) p.target p.roles p
  text-reads s units offsets left links =
      let u = s.3.0 in
      let q = units u s.3.2 in
      let o = offsets (text p) s.0 u s.1 s.3.1 q.0 in
      tree-reads s.0 u s.1 s.3.1 q.0 q.1 o.0 o.1 left links
