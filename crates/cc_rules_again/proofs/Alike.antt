-- Facts that are the same in each thing that a constraint reads are the same for it.
use Rattle.std.proofs.Common.{ℕ, List, [], ◌∷◌, refl, sym, ap, ◌∙◌}
use Rattle.std.specs.List.{AllZip, Contains}
use Rattle.cc_rules_grow.specs.CcFlow.declared.types.Point.{Point}
use Rattle.cc_rules_grow.specs.CcPlaces.Abstract.{AreOfOneKind}
use Rattle.cc_rules_grow.specs.CcPlaces.laws.ListLaws.{at_head, behind_head}
use Rattle.cc_program.specs.declared.func.Func.{Func}
use Rattle.cc_program.specs.declared.program.Program.{Program}
use Rattle.cc_rules_grow.specs.CcRules.Constraints.{Rule, Initial, Start, Flow, Write, Touch, Call, Back, Return, Handler, Stability, Constraint, at_point}
use Rattle.cc_rules_grow.specs.CcRules.Rules.{act_at}
use Rattle.cc_rules_again.specs.Things.{Thing, OfPoint, OfWhole, OfResult, OfReach, OfTouch, ReadsHere, OfRead, OfReached, OfGiven, OfExit, OfWriters, OfUnstable, ReadsThing, ItsPoint, Beside, IsSame, AreSameTouches}
use Rattle.cc_rules_grow.specs.CcRulesFlows.Acts.{Act}
use Rattle.cc_rules_grow.specs.CcRulesFlows.Nexts.{IsPoint, statement_of, exit_of}
use Rattle.cc_rules_reads.specs.Reads.{AreSameMarks, AreSameHere, AreSameIn, AreSameFor}
use Rattle.cc_rules_grow.specs.CcStateFacts.declared.facts.Facts.{Facts}
use Rattle.cc_rules_grow.specs.CcStateFacts.Facts.{levels_of}
use Rattle.cc_rules_grow.specs.CcStateFacts.Levels.{one_may_enter}

-- the rules that read what is known at their point
abbrev pub later : List Rule
later = Flow ∷ Write ∷ Touch ∷ Call ∷ Back ∷ Return ∷ Handler ∷ Stability ∷ []

module _ {A : Type 0} (a b c d : A) (xs : List A) where
  pub first_in : Contains (a ∷ xs) a
  first_in = at_head a xs

  pub second_in : Contains (a ∷ b ∷ xs) b
  second_in = behind_head a (b ∷ xs) b (at_head b xs)

  pub third_in : Contains (a ∷ b ∷ c ∷ xs) c
  third_in = behind_head a (b ∷ c ∷ xs) c (behind_head b (c ∷ xs) c (at_head c xs))

  pub fourth_in : Contains (a ∷ b ∷ c ∷ d ∷ xs) d
  fourth_in = behind_head a (b ∷ c ∷ d ∷ xs) d (behind_head b (c ∷ d ∷ xs) d (behind_head c (d ∷ xs) d (at_head d xs)))

  behind_four : (x : A) → Contains xs x → Contains (a ∷ b ∷ c ∷ d ∷ xs) x
  behind_four x l = behind_head a (b ∷ c ∷ d ∷ xs) x (behind_head b (c ∷ d ∷ xs) x (behind_head c (d ∷ xs) x (behind_head d xs x l)))

abbrev last : List Rule
last = Back ∷ Return ∷ Handler ∷ Stability ∷ []

behind_calls : (rule : Rule) → Contains last rule → Contains later rule
behind_calls rule c = behind_four Flow Write Touch Call last rule c

module _ {I : Type 0} (p : Program) (facts others : Facts I) (n : ℕ) where
  abbrev Same : Rule → Type 0
  Same rule = (t : Thing) → ReadsThing p others (at_point n rule) t → IsSame p facts others t

  module _ (id : ℕ) (f : Func) (point : Point) (is_point : IsPoint p n id f point) where
    abbrev act : Act
    act = act_at (statement_of f point) f

    beside : (rule : Rule) → Same rule → (t : Thing) → ReadsHere p n id f point act others rule t → IsSame p facts others t
    beside rule same t h = same t (Beside id f point is_point h)

    reach_same : (rule : Rule) → Contains (Touch ∷ Call ∷ Handler ∷ Stability ∷ []) rule → Same rule → AreSameMarks p facts others id
    reach_same rule c same = beside rule same (OfReach id) (OfReached c refl)

    here_same : (rule : Rule) → Same rule → AreSameHere p facts others rule id f act
    here_same Initial same = tt
    here_same Start same = tt
    here_same Flow same = λ r a k number is untracked may at. beside Flow same (OfWhole number) (OfRead r number a k refl is untracked may at refl)
    here_same Write same = tt
    here_same Touch same = let marks = reach_same Touch (first_in Touch Call Handler Stability (Call ∷ Handler ∷ Stability ∷ [])) same in (marks.by_handler, marks.from)
    here_same Call same = reach_same Call (second_in Touch Call Handler Stability (Handler ∷ Stability ∷ [])) same
    here_same Back same = λ result e args g callee is may there. (
      beside Back same (OfResult g) (OfGiven g callee refl (result, e, args, is, may, there) refl),
      beside Back same (OfPoint (exit_of p g callee)) (OfExit g callee refl (result, e, args, is, may, there) refl),
    )
    here_same Return same = tt
    here_same Handler same = (reach_same Handler (third_in Touch Call Handler Stability (Stability ∷ [])) same).levels
    here_same Stability same =
        let levels = (reach_same Stability (fourth_in Touch Call Handler Stability []) same).levels in (
          levels,
          λ j i number there at.
              (let touches : AreSameTouches p facts others number = beside Stability same (OfTouch number) (OfWriters number refl (j, i, there, at) refl) in (
                touches.write_levels,
                λ enters. beside Stability same (OfWhole number)
                    (OfUnstable number refl (j, i, there, at) (sym (ap (λ x. one_may_enter x (levels_of facts.write_levels number)) levels ∙ ap (λ x. one_may_enter (levels_of others.levels id) x) touches.write_levels) ∙ enters) refl),
              )),
        )

  in_rule : (rule : Rule) → Contains later rule → Same rule → AreSameIn p facts others rule n
  in_rule rule c same = (same (OfPoint n) (ItsPoint c refl), λ id f point is_point. here_same id f point is_point rule same)

pub same_for : {I : Type 0} (p : Program) (facts others : Facts I) (c : Constraint) → AllZip AreOfOneKind facts.whole others.whole → ((t : Thing) → ReadsThing p others c t → IsSame p facts others t) → AreSameFor p facts others c
same_for {I} p facts others c kinds same = by c.rule same
  where
    by : (rule : Rule) → ((t : Thing) → ReadsThing p others (at_point c.point rule) t → IsSame p facts others t) → AreSameFor p facts others (at_point c.point rule)
    by Initial same = kinds
    by Start same = tt
    by Flow same = in_rule p facts others c.point Flow (first_in Flow Write Touch Call (Write ∷ Touch ∷ Call ∷ last)) same
    by Write same = in_rule p facts others c.point Write (second_in Flow Write Touch Call (Touch ∷ Call ∷ last)) same
    by Touch same = in_rule p facts others c.point Touch (third_in Flow Write Touch Call (Call ∷ last)) same
    by Call same = in_rule p facts others c.point Call (fourth_in Flow Write Touch Call last) same
    by Back same = in_rule p facts others c.point Back (behind_calls Back (first_in Back Return Handler Stability (Return ∷ Handler ∷ Stability ∷ []))) same
    by Return same = in_rule p facts others c.point Return (behind_calls Return (second_in Back Return Handler Stability (Handler ∷ Stability ∷ []))) same
    by Handler same = in_rule p facts others c.point Handler (behind_calls Handler (third_in Back Return Handler Stability (Stability ∷ []))) same
    by Stability same = in_rule p facts others c.point Stability (behind_calls Stability (fourth_in Back Return Handler Stability [])) same
