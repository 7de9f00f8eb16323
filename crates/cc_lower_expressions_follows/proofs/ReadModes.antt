-- A read as the whole right side of an assignment, and one whose value nobody uses.
use Rattle.std.proofs.Common.{◌≡◌, ◌≤◌, ℕ, Bool, [], ◌∷◌, ◌++◌, Option, Some, None, refl, sym, subst, if◌then◌else◌}
use Rattle.std.specs.Prelude.{is_some, option_and_then}
use Rattle.cc_program.specs.declared.program.Program.{Program}
use Rattle.cc_program.specs.declared.func.Func.{Func}
use Rattle.cc_program.specs.declared.types.CType.{CType}
use Rattle.cc_program.specs.declared.expr.Expr.{Load}
use Rattle.cc_states.specs.CcSyntax.Effects.{Registers}
use Rattle.cc_states.specs.CcSyntax.Values.{ValueType, read_from}
use Rattle.cc_states.specs.CcEval.Eval.{Meaning, Designation, fetched}
use Rattle.cc_states.specs.CcEval.Progress.{bind}
use Rattle.cc_lower_expressions.specs.Expressions.{Piece, PlaceLowering, from_one, mapped, read, value_of, set, whole_by, whole_right, whole_read, read_unused, right_value}
use Rattle.cc_lower_expressions_follows.specs.Trees.{Setting, context_p, Sim}
use Rattle.cc_lower_expressions_follows.specs.Relation.{code_tree, Alike, Declared}
use Rattle.cc_lower_expressions_follows.specs.Claims.{Written, good, Operands, Wholes, Effects, IsRightPlace}
use Rattle.cc_lower_expressions_follows.proofs.Defaults.{whole_works}
use Rattle.cc_lower_expressions_follows.proofs.Loads.{operand_read, read_in_place, register_is, place_whole}
use Rattle.cc_lower_expressions_follows.proofs.RightSides.{IsRightSide, whole_right_works, unused_works}

module _ (w : Setting) (alike : Alike w) (d : Designation) (l : PlaceLowering) (right : IsRightPlace w d l) (m : Meaning) (same : m.effects.assigned ≡ d.effects.assigned) (typed : m.ctype ≡ option_and_then read_from d.ctype)
    (next : (later : Registers) → m.next later ≡ bind (d.leads later) (fetched (context_p w) d later)) (p : Program) (f : Func) (declares : Option ValueType → CType) (is_same : Option ValueType → Option ValueType → Bool) where
  side : d.effects.register ≡ None → (later : Registers) (k : ℕ) → w.base ≤ k → Declared w k (l.operands later k).temps → IsRightSide w alike m later k (mapped Load (l.operands later k))
  side none later k above declared n in_n r s y =
      let x = l.operands later k in
      subst (λ (q : Registers). Sim w (Written w q k n s) (good (m.next later)) r (code_tree w (x.stmts ++ set n (Load x.value) ∷ [])) s) (sym same)
      (subst (λ g. Sim w (Written w d.effects.assigned k n s) (good g) r (code_tree w (x.stmts ++ set n (Load x.value) ∷ [])) s) (sym (next later))
      (place_whole w alike d later x k above (right.operands later k above declared) none (right.shared none later) n in_n r s y))

  in_place : d.effects.register ≡ None → Operands w m (right_value (value_of l) (from_one Load l.operands))
  in_place none later k above declared = read_in_place w alike d l right m same typed next later k above none declared

  abbrev whole_as : Option ℕ → Option ValueType → ℕ → Registers → ℕ → Piece (Unit {0})
  whole_as o t n later = if is_some o then whole_by (read l) t n later else whole_right p f declares is_same (value_of l) (from_one Load l.operands) t n later

  by_register : (o : Option ℕ) → d.effects.register ≡ o → Wholes w m (whole_as o)
  by_register None e = whole_right_works w alike m (value_of l) (from_one Load l.operands) (side e) (in_place e) is_same
  by_register (Some i) e = whole_works w alike m (read l) (operand_read w alike d l right m same typed next)

  pub load_whole : Wholes w m (whole_read p f declares is_same l)
  load_whole = subst (λ (o : Option ℕ). Wholes w m (whole_as o)) (sym (register_is w alike d l right m same typed next)) (by_register d.effects.register refl)

  pub load_unused : Effects w m (read_unused p f declares is_same l)
  load_unused = unused_works w alike m (value_of l) (whole_read p f declares is_same l) load_whole
