-- The keys of the scalars of the locals of a function.
use Rattle.std.proofs.Common.{arith, ◌≡◌, ◌<◌, ◌^◌, ◌+◌, ℕ, true, List, [], ◌∷◌, ◌++◌, length, take, take_all, get_or, Option, Some, slice_get, refl, ap, sym, ◌∙◌}
use Rattle.std.specs.Prelude.{option_map}
use Rattle.std.specs.List.{list_all}
use Rattle.std.proofs.lemmas.Option.{slice_get_within, get_or_from_slice_get}
use Rattle.cc_state_keys.specs.CcCells.Scalars.{position}
use Rattle.cc_state_keys.specs.CcEval.Context.{object_type, local_type}
use Rattle.cc_program.specs.Qualifiers.{is_const, is_volatile}
use Rattle.cc_program.specs.declared.func.Func.{Func}
use Rattle.cc_program.specs.declared.program.Program.{Program}
use Rattle.cc_program.specs.declared.types.Structure.{Structure}
use Rattle.cc_program.specs.declared.value.Root.TheVariants as root
use Rattle.cc_state_keys.specs.CcStateFacts.declared.facts.Key.{Key}
use Rattle.cc_state_keys.specs.CcStateFacts.declared.facts.Key.TheVariants as key
use Rattle.cc_state_keys.proofs.Typed.{sized}
use Rattle.cc_state_keys.specs.Keys.{key_along}
use Rattle.cc_state_scalars.proofs.Over.{AreMade, made_none, made_more, there_is, each_passes}
use Rattle.cc_state_scalars.specs.Listed.{IsTableOf, AreKeysOver, AreKeysIn, AreLocalKeysOver, AreLocalKeys}
use Rattle.cc_states.proofs.TurnLemmas.{order_of}
use Rattle.cc_state_keys.proofs.CcSyntax.StructureLemmas.{object_complete}
use Rattle.cc_state_keys.specs.CcSyntax.Expressions.{of_one}
use Rattle.cc_state_keys.specs.CcSyntax.Initial.{place_at}
use Rattle.cc_state_keys.specs.CcSyntax.Sound.{IsTypedProgram, is_local, have_ids}
use Rattle.cc_state_keys.specs.CcSyntax.Types.{Named, is_complete}
use Rattle.cc_state_keys.specs.CcSyntax.Values.{PlaceType, object_place, read_from}

abbrev pub IsLocalList : List (List Key) → ℕ → ℕ → Named → List Key → Type 0
IsLocalList table id r local l = AreKeysOver table local.1 (key.Local id r) l

pub locals_none : (table : List (List Key)) (id : ℕ) (locals : List Named) → AreMade (IsLocalList table id) locals 0 []
locals_none table id locals = made_none (IsLocalList table id) locals

pub locals_more : (table : List (List Key)) (id : ℕ) (locals : List Named) (m : ℕ) (lists : List (List Key)) (local : Named) (l : List Key) → AreMade (IsLocalList table id) locals m lists → slice_get locals m ≡ Some local → AreKeysOver table local.1 (key.Local id m) l →
    AreMade (IsLocalList table id) locals (m + 1) (lists ++ l ∷ [])
locals_more table id locals m lists local l h at is = made_more (IsLocalList table id) locals m lists local l h at is

pub locals_made : (table : List (List Key)) (id : ℕ) (locals : List Named) (m : ℕ) (lists : List (List Key)) → m ≡ length locals → AreMade (IsLocalList table id) locals m lists → AreLocalKeysOver table id locals lists
locals_made table id locals m lists e h = record { count = h.count ∙ e; there = h.there }

few : (n : ℕ) → have_ids n ≡ true → n < 2 ^ 32
few n h = grind arith

module _ (p : Program) (typed : IsTypedProgram p) (id : ℕ) (f : Func) (function : slice_get p.funcs id ≡ Some f) where
  same : get_or p.funcs id f ≡ f
  same = get_or_from_slice_get p.funcs id f f function

  pub few_locals_of : length f.locals < 2 ^ 32
  few_locals_of = few (length f.locals) (ap (λ (g : Func). have_ids (length g.locals)) (sym same) ∙ (typed.funcs id f (slice_get_within p.funcs id f function)).few)

  are_locals : list_all (is_local p) f.locals ≡ true
  are_locals = ap (λ (g : Func). list_all (is_local p) g.locals) (sym same) ∙ (typed.funcs id f (slice_get_within p.funcs id f function)).locals

  pub locals_all : (table : List (List Key)) → IsTableOf p.structures table → (lists : List (List Key)) → AreLocalKeysOver table id f.locals lists → AreLocalKeys p id f.locals lists
  locals_all table tab lists made = record { count = made.count; there = keys_in }
    where
      all_first : take (length table) p.structures ≡ p.structures
      all_first = (let c = tab.count in take_all (length table) p.structures (omega (arith, c)))

      complete : (r : ℕ) (l : Named) → slice_get f.locals r ≡ Some l → is_complete (take (length table) p.structures) l.1 ≡ true
      complete r l at =
          ap (λ (xs : List Structure). is_complete xs l.1) all_first
          ∙ object_complete (length p.structures) p.target p.structures l.1 (sized p typed) (each_passes (is_local p) f.locals are_locals r l at)

      keys_in : (number r : ℕ) (list : List Key) → slice_get lists r ≡ Some list → AreKeysIn p (root.Auto number id r) list
      keys_in number r list there =
          let l = there_is lists f.locals made.count r list there in
          let keys = made.there r l.0 list l.1 there p (order_of p typed) (tab.is_table p refl (order_of p typed)) (complete r l.0 l.1) in
          let c = is_const l.0.1 in
          let v = is_volatile l.0.1 in
          let place : object_type p (root.Auto number id r) ≡ Some (object_place l.0.1) = ap (local_type r) function ∙ ap (option_map (λ (x : Named). object_place x.1)) l.1 in
          record {
            each = λ path n leads.
                ap (slice_get list) (sym leads.2 ∙ ap (λ (x : Option PlaceType). position p.structures path x) place)
                ∙ keys.each c v path leads.0 (ap (λ (x : Option PlaceType). of_one (of_one x (place_at p.structures path)) read_from) (sym place) ∙ leads.1)
                ∙ ap Some (ap (λ (x : Option PlaceType). key_along p.structures path x (key.Local id r)) (sym place));
            all = λ n x at.
                let w = keys.all c v n x at in
                let leads = w.1 in (
                  w.0,
                  (leads.type, ap (λ (y : Option PlaceType). of_one (of_one y (place_at p.structures w.0)) read_from) place ∙ leads.scalar, ap (λ (y : Option PlaceType). position p.structures w.0 y) place ∙ leads.stands),
                  ap (λ (y : Option PlaceType). key_along p.structures w.0 y (key.Local id r)) place ∙ leads.is_key,
                );
          }
