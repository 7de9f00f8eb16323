-- Places that ask for nothing: static objects, and members of structures in them.
use Rattle.std.proofs.Common.{◌≡◌, ℕ, Bool, false, List, [], ◌∷◌, ◌++◌, Option, Some, None, slice_get, refl, ap, sym, ◌∙◌}
use Rattle.cc_program.specs.declared.expr.Expr.{Expr, Load, Assign}
use Rattle.cc_program.specs.declared.expr.Place.{Place, Static, Member}
use Rattle.cc_program.specs.declared.expr.Expr.TheOpen as one
use Rattle.cc_program.specs.declared.expr.Place.TheVariants.{rolls-Member}
use Rattle.cc_program.specs.declared.object.Object.{Object}
use Rattle.cc_program.specs.declared.value.Part.{Part}
use Rattle.cc_program.specs.declared.value.Part.TheVariants as part
use Rattle.cc_program.specs.declared.value.Root.TheVariants as root
use Rattle.cc_program.specs.declared.value.Value.{Value}
use Rattle.cc_rewrite_accesses_follows.specs.Asked.{unseen, static_cell}
use Rattle.cc_rewrite_accesses_follows.specs.Evaluates.{written_to, IsCell, LeadsTo}
use Rattle.cc_rewrite_residues.proofs.Evaluates.{then_bind, at-Load, at-Assign, at-Static}
use Rattle.cc_steps.proofs.CcEval.Links.{place_level}
use Rattle.cc_steps.specs.CcEval.Context.{Context, is_seen, member}
use Rattle.cc_steps.specs.CcEval.Eval.{Meaning, Designation, meaning, designation, place_meaning, fetched, stored}
use Rattle.cc_steps.specs.CcEval.Progress.{Progress, Known, Get, ask, bind, and_then, known, given}
use Rattle.cc_steps.specs.CcEval.declared.action.Action.TheVariants.{Read}
use Rattle.cc_steps.specs.CcEval.declared.mark.Mark.{Mark}
use Rattle.cc_steps.specs.CcEval.declared.spots.Spot.{Spot}
use Rattle.cc_steps.specs.CcEval.declared.spots.Spot.TheVariants as spot
use Rattle.cc_steps.specs.CcSyntax.Effects.{Registers, also}
use Rattle.cc_steps.specs.CcSyntax.Expressions.{of_two}
use Rattle.cc_steps.specs.CcSyntax.Values.{PlaceType, object_place}

module _ (c : Context) where
  at-Member : (a : Place) (m : ℕ) → designation c (Member a m) ≡ place_meaning c (one.Member (designation c a) m)
  at-Member a m = ap (designation c) (sym (rolls-Member a m)) ∙ place_level c (one.Member a m)

  pub leads-static : (i : ℕ) (o : Object) → slice_get c.program.objects i ≡ Some o → LeadsTo c (Static i) i [] (object_place o.ctype)
  leads-static i o there = record { leads = λ later ms. rw (at-Static c i) refl; ctype = rw (at-Static c i, there) refl; register = rw (at-Static c i) refl }

  pub leads-member : (a : Place) (object : ℕ) (path : List Part) (t u : PlaceType) (m : ℕ) → LeadsTo c a object path t → (designation c (Member a m)).ctype ≡ Some u → LeadsTo c (Member a m) object (path ++ part.Member m ∷ []) u
  leads-member a object path t u m h e = record {
    leads = λ later ms.
        ap (λ (d : Designation). d.leads later ms) (at-Member a m)
        ∙ ap (λ (q : Progress (Option Spot)). and_then q (λ s. known (of_two (designation c a).ctype s (member c.program m)))) (h.leads later ms)
        ∙ ap (λ (x : Option PlaceType). Known (of_two x (Some (spot.Object (root.Static object) path)) (member c.program m)) ms) h.ctype;
    ctype = e;
    register = ap (λ (d : Designation). d.effects.register) (at-Member a m);
  }

  module _ (a : Place) (object : ℕ) (path : List Part) (t : PlaceType) (h : LeadsTo c a object path t) (plain : is_seen (Some t) ≡ false) where
    abbrev there : Option Spot
    there = Some (spot.Object (root.Static object) path)

    fetches : (later : Registers) (ms : List Mark) → fetched c (designation c a) later there ms ≡ ask (Read (static_cell object path) (unseen false)) given ms
    fetches later ms = rw (h.ctype, plain, h.register) refl

    cell-loads : (later : Registers) (ms : List Mark) → (meaning c (Load a)).next later ms ≡ ask (Read (static_cell object path) (unseen false)) given ms
    cell-loads later ms =
        ap (λ (m : Meaning). m.next later ms) (at-Load c a) ∙ ap (λ (q : Progress (Option Spot)). and_then q (fetched c (designation c a) later)) (h.leads later ms) ∙ fetches later ms

    module _ (e : Expr) (later : Registers) (ms : List Mark) where
      abbrev value : Progress (Option Value)
      value = (meaning c e).next later ms

      abbrev with_value : Option Spot → Get (Option Spot × Option Value)
      with_value s = bind ((meaning c e).next later) (λ v. known (s, v))

      abbrev stores_it : Option Spot × Option Value → Get (Option Value)
      stores_it p = stored c (designation c a) p.0 p.1 p.1

      stored-there : and_then value (λ v. stored c (designation c a) there v v) ≡ and_then value (written_to (static_cell object path))
      stored-there = rw (h.ctype, plain) refl

      cell-stores : (meaning c (Assign a e)).next later ms ≡ and_then value (written_to (static_cell object path))
      cell-stores =
          ap (λ (m : Meaning). m.next later ms) (at-Assign c a e)
          ∙ ap (λ (q : Progress (Option Spot)). and_then (and_then q with_value) stores_it) (h.leads (also (meaning c e).effects.assigned later) ms)
          ∙ then_bind value (λ v. (there, v)) stores_it
          ∙ stored-there

    pub cell-of : IsCell c a (static_cell object path)
    cell-of = record { loads = cell-loads; stores = cell-stores }
