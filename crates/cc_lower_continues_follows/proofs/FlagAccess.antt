-- What the reads and writes of a flag ask for.
use Rattle.std.proofs.Common.{◌≡◌, ℕ, Bool, false, List, [], Option, Some, option_map, slice_get, ap, ◌∙◌}
use Rattle.std.specs.Prelude.{pos}
use Rattle.cc_program.specs.CcNum.declared.int_type.IntType.TheVariants as int
use Rattle.cc_program.specs.declared.expr.Expr.{Expr, roll-Expr, fold-roll-Expr}
use Rattle.cc_program.specs.declared.expr.Expr.TheOpen as one
use Rattle.cc_program.specs.declared.expr.Place.{Place as PlaceOf, roll-Place, fold-roll-Place}
use Rattle.cc_program.specs.declared.value.Cell.{Cell}
use Rattle.cc_program.specs.declared.value.Cell.TheVariants as cell
use Rattle.cc_program.specs.declared.value.Root.TheVariants as root
use Rattle.cc_program.specs.declared.value.Value.TheVariants.{Int}
use Rattle.cc_states.specs.CcEval.declared.action.Action.TheVariants.{Read, Write}
use Rattle.cc_states.specs.CcEval.declared.action.Manner.{Manner}
use Rattle.cc_states.specs.CcEval.declared.mark.Mark.{Mark}
use Rattle.cc_states.specs.CcEval.declared.spots.Spot.TheVariants as spot
use Rattle.cc_states.specs.CcEval.Context.{Context, cell_at, is_seen}
use Rattle.cc_states.specs.CcEval.Eval.{Meaning, Designation, manner, expr_meaning, place_meaning, meaning, designation, next_of}
use Rattle.cc_states.specs.CcEval.Progress.{ask, needs, given}
use Rattle.cc_states.specs.CcSyntax.Effects.{no_one}
use Rattle.cc_states.specs.CcSyntax.Expressions.{of_two}
use Rattle.cc_states.specs.CcSyntax.Values.{PlaceType, object_place}

module _ (c : Context) (k : ℕ) (t : PlaceType) (typed : option_map (λ l. object_place l.1) (slice_get c.func.locals k) ≡ Some t) (plain : is_seen (Some t) ≡ false) where
  abbrev here : Cell
  here = cell.At (root.Auto c.number c.id k) []

  abbrev place : PlaceOf
  place = roll-Place (one.Local k)

  abbrev number : ℕ → Expr
  number v = roll-Expr (one.Const (pos v) int.UChar)

  place-opened : designation c place ≡ place_meaning c (one.Local k)
  unfolding designation
  place-opened = fold-roll-Place Meaning Designation (expr_meaning c) (place_meaning c) (one.Local k)

  number-opened : (v : ℕ) → meaning c (number v) ≡ expr_meaning c (one.Const (pos v) int.UChar)
  unfolding meaning
  number-opened v = fold-roll-Expr Meaning Designation (expr_meaning c) (place_meaning c) (one.Const (pos v) int.UChar)

  assign-opened : (v : ℕ) → meaning c (roll-Expr (one.Assign place (number v))) ≡ expr_meaning c (one.Assign (place_meaning c (one.Local k)) (expr_meaning c (one.Const (pos v) int.UChar)))
  unfolding meaning designation
  assign-opened v =
      fold-roll-Expr Meaning Designation (expr_meaning c) (place_meaning c) (one.Assign place (number v))
      ∙ ap (λ (d : Designation). expr_meaning c (one.Assign d (meaning c (number v)))) place-opened ∙ ap (λ (m : Meaning). expr_meaning c (one.Assign (place_meaning c (one.Local k)) m)) (number-opened v)

  load-opened : meaning c (roll-Expr (one.Load place)) ≡ expr_meaning c (one.Load (place_meaning c (one.Local k)))
  unfolding meaning designation
  load-opened = fold-roll-Expr Meaning Designation (expr_meaning c) (place_meaning c) (one.Load place) ∙ ap (λ (d : Designation). expr_meaning c (one.Load d)) place-opened

  pub next-assign : (v : ℕ) (ms : List Mark) → next_of c (roll-Expr (one.Assign place (number v))) ms ≡ ask (Write here false (Int (pos v))) (λ m. Some (Int (pos v))) ms
  next-assign v ms =
      ap (λ (m : Meaning). m.next no_one ms) (assign-opened v)
      ∙ ap (λ (o : Option PlaceType). needs (of_two o (Some (spot.Object (root.Auto c.number c.id k) [])) (cell_at c.program)) (λ cell. ask (Write cell (is_seen o) (Int (pos v))) (λ m. Some (Int (pos v)))) ms) typed
      ∙ ap (λ (b : Bool). ask (Write here b (Int (pos v))) (λ m. Some (Int (pos v))) ms) plain

  abbrev pub reading : Manner
  reading = record { is_event = false; may_be_bad = (manner (place_meaning c (one.Local k)) no_one).may_be_bad }

  pub next-load : (ms : List Mark) → next_of c (roll-Expr (one.Load place)) ms ≡ ask (Read here reading) given ms
  next-load ms =
      ap (λ (m : Meaning). m.next no_one ms) load-opened
      ∙ ap (λ (o : Option PlaceType). needs (of_two o (Some (spot.Object (root.Auto c.number c.id k) [])) (cell_at c.program))
      (λ cell. ask (Read cell (record { is_event = is_seen o; may_be_bad = (manner (place_meaning c (one.Local k)) no_one).may_be_bad })) given) ms) typed
      ∙ ap (λ (b : Bool). ask (Read here (record { is_event = b; may_be_bad = (manner (place_meaning c (one.Local k)) no_one).may_be_bad })) given ms) plain
