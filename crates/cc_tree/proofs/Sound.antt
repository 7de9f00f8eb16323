-- Soundness of the parser's machine: each turn keeps an unfinished sentence, and so what the machine ends with
-- is a sentence, whose height is told.
use Rattle.std.proofs.Common.{◌≡◌, ◌≤◌, ℕ, Bool, true, false, List, [], ◌∷◌, Result, Ok, Err, IfOk, refl, subst}
use Rattle.cc_tree.specs.declared.at.At.{At}
use Rattle.cc_tree.specs.declared.state.Control.{Control}
use Rattle.cc_tree.specs.declared.state.Control.TheVariants as control
use Rattle.cc_tree.specs.declared.state.DeclrFrame.{DeclrFrame}
use Rattle.cc_tree.specs.declared.state.DeclrFrame.TheVariants as for_declr
use Rattle.cc_tree.specs.declared.state.Frame.{Frame}
use Rattle.cc_tree.specs.declared.state.Frame.TheVariants as frame
use Rattle.cc_tree.specs.declared.state.LineFrame.{LineFrame}
use Rattle.cc_tree.specs.declared.state.LineFrame.TheVariants as for_line
use Rattle.cc_tree.specs.declared.state.PartFrame.{PartFrame}
use Rattle.cc_tree.specs.declared.state.PartFrame.TheVariants as for_part
use Rattle.cc_tree.specs.declared.state.SpecsFrame.{SpecsFrame}
use Rattle.cc_tree.specs.declared.state.SpecsFrame.TheVariants as for_specs
use Rattle.cc_tree.specs.declared.state.Tall.{Tall}
use Rattle.cc_tree.specs.declared.state.ValueFrame.{ValueFrame}
use Rattle.cc_tree.specs.declared.state.ValueFrame.TheVariants as for_value
use Rattle.cc_tree.specs.declared.stop.Stop.{Stop}
use Rattle.cc_tree.specs.declared.tree.Declr.{Declr}
use Rattle.cc_tree.specs.declared.tree.Spec.{Spec}
use Rattle.cc_tree.specs.declared.tree.Tree.{Tree}
use Rattle.cc_tree.specs.declared.unit.Decl.{Decl}
use Rattle.cc_tree.specs.declared.unit.Given.{Given}
use Rattle.cc_tree.specs.declared.unit.Item.{Item}
use Rattle.cc_tree.specs.declared.unit.Line.{Line}
use Rattle.cc_tree.specs.declared.unit.Unit.{Unit as UnitTree}
use Rattle.cc_tree.specs.Height.{heights, line_height, item_height, unit_height}
use Rattle.cc_tree.specs.Machine.{State, hands, stays, turned, state_after, turn, start, Leads, Here, There}
use Rattle.cc_tree.specs.Reading.{◌>>=◌}
use Rattle.cc_tree.specs.Scopes.{Scope}
use Rattle.cc_tree.specs.Sentences.{IsItem, IsItems, NoItem}
use Rattle.cc_tree.specs.Statements.{IsLines}
use Rattle.cc_tree.specs.Tokens.{Tokens, Span, mark, offset}
use Rattle.cc_lex.specs.declared.token.Mark.TheVariants as m
use Rattle.cc_tree.specs.TurnLines.{give_part, give_specs, give_declr, give_value, give_line, to_tree, to_specs, to_declr, to_value, to_decl, to_line, to_body, to_item}
use Rattle.cc_tree.specs.Turns.{Turn}
use Rattle.cc_tree.proofs.Inside.{ATree, TheSpecs, ADeclr, AGiven, ADecl, ALine, NeedTree, NeedSpecs, NeedDeclr, NeedValue, NeedDecl, NeedLine, NeedBody, Inside, Good, GoodExpr, GoodOperand, GoodPostfix, GoodOperators, GoodTree, GoodSpecs, GoodHaveSpecs, GoodStructure, GoodEnumr, GoodEnumeration, GoodDeclr, GoodSuffix, GoodHaveDeclr, GoodValue, GoodHaveValue, GoodDecl, GoodInits, GoodHaveDecl, GoodStatement, GoodBlock, GoodHaveLine, GoodTest, GoodStep, GoodHaveBody, GoodItems, GoodHaveItem, GoodDone, GoodTurn}
use Rattle.cc_tree.proofs.SoundDecls.{value_good, many_value, declaration_good, decl_specs_good, inits_good, init_declr, init_given, line_in_block, decl_in_block, decl_in_for, decl_in_items, item_in_items, body_in_head, items_good}
use Rattle.cc_tree.proofs.SoundPartFrames.{value_part, if_part, while_part, switch_part, do_part, first_part, test_part, step_part, case_part, return_part, expr_part}
use Rattle.cc_tree.proofs.SoundStatements.{statement_good, block_good, for_test_good, for_step_good, then_line, else_line, while_line, switch_line, do_line, loop_line, case_line, default_line}
use Rattle.cc_tree.proofs.SoundTrees.{expr-good, operators-good, operand-good, postfix-good, give_tree-good}
use Rattle.cc_tree.proofs.SoundTypes.{specifiers-good, structure-good, enumr-good, enumeration-good, declarator-good, suffix-good, give_type_specs-good, give_param_specs-good, give_member_specs-good, give_paren_declr-good, give_pointer_declr-good, give_type_declr-good, give_member_declr-good, give_param_declr-good, give_bound-good, give_enumr-good}

abbrev pub IsGood : Tokens → State → Type 0
IsGood all s = Good all s.scope s.frames s.control s.rest

-- a turn's state
kept : (all : Tokens) (scope : Scope) (fs : List Frame) (r : Turn) → GoodTurn all scope fs r → IfOk (stays fs r >>= λ x. Ok (state_after scope x)) (IsGood all)
kept all scope fs (Err e) h = tt
kept all scope fs (Ok t) h = h

module _ {all : Tokens} where
  -- the frame that waits gets what it waits for

  part_given : {scope : Scope} {fs : List Frame} {l k : ℕ} {e : Tall (At Tree)} {ts us : Tokens} (f : PartFrame) → Inside all scope (frame.Part f ∷ fs) (NeedTree l) ts → ATree scope k e ts us → l ≤ k →
      GoodTurn all scope fs (give_part e us f)
  part_given {k = k} {e = e} {us = us} (for_part.Bound d) i a le = give_bound-good k e us i a le
  part_given {k = k} {e = e} {us = us} (for_part.Enumr en n x) i a le = give_enumr-good k e us i a le
  part_given for_part.Value i a le = value_part i a le
  part_given (for_part.If n) i a le = if_part i a le
  part_given (for_part.While n) i a le = while_part i a le
  part_given (for_part.Switch n) i a le = switch_part i a le
  part_given (for_part.Do n b) i a le = do_part i a le
  part_given (for_part.First n count) i a le = first_part i a le
  part_given (for_part.Test f) i a le = test_part i a le
  part_given (for_part.Step f) i a le = step_part i a le
  part_given (for_part.Case n) i a le = case_part i a le
  part_given (for_part.Return n) i a le = return_part i a le
  part_given (for_part.Expr n) i a le = expr_part i a le

  specs_given : {scope : Scope} {fs : List Frame} {s : Tall (List (At Spec))} {ts us : Tokens} (f : SpecsFrame) → Inside all scope (frame.Specs f ∷ fs) NeedSpecs ts → TheSpecs scope s ts us → GoodTurn all scope fs (give_specs s us f)
  specs_given {s = s} {us = us} (for_specs.TypeName u n) i a = give_type_specs-good s us i a
  specs_given {s = s} {us = us} (for_specs.Param f n) i a = give_param_specs-good s us i a
  specs_given {s = s} {us = us} (for_specs.Member st n) i a = give_member_specs-good s us i a
  specs_given (for_specs.Decl outside n) i a = decl_specs_good i a

  declr_given : {scope : Scope} {fs : List Frame} {d : Tall (At Declr)} {ts us : Tokens} (f : DeclrFrame) → Inside all scope (frame.Declr f ∷ fs) NeedDeclr ts → ADeclr scope false d ts us → GoodTurn all scope fs (give_declr scope d us f)
  declr_given {d = d} {us = us} (for_declr.Paren n) i a = give_paren_declr-good d us i a
  declr_given {d = d} {us = us} (for_declr.Pointer n qs) i a = give_pointer_declr-good d us i a
  declr_given {d = d} {us = us} (for_declr.TypeName u n s) i a = give_type_declr-good d us i a
  declr_given {d = d} {us = us} (for_declr.Param f n s) i a = give_param_declr-good d us i a
  declr_given {d = d} {us = us} (for_declr.Member ms) i a = give_member_declr-good d us i a
  declr_given (for_declr.Init d) i a = init_declr i a

  value_given : {scope : Scope} {fs : List Frame} {g : Tall (At Given)} {ts us : Tokens} (f : ValueFrame) → Inside all scope (frame.Value f ∷ fs) NeedValue ts → AGiven scope g ts us → GoodTurn all scope fs (give_value g us f)
  value_given (for_value.Init d e a) i g = init_given i g
  value_given (for_value.Many n gs) i g = many_value i g

  line_given : {scope : Scope} {fs : List Frame} {a : Tall (At Line)} {ts us : Tokens} (f : LineFrame) → Inside all scope (frame.Line f ∷ fs) NeedLine ts → ALine scope a ts us → GoodTurn all scope fs (give_line a us f)
  line_given (for_line.Then n c) i a = then_line i a
  line_given (for_line.Else n c b) i a = else_line i a
  line_given (for_line.While n c) i a = while_line i a
  line_given (for_line.Switch n c) i a = switch_line i a
  line_given (for_line.Do n) i a = do_line i a
  line_given (for_line.For f) i a = loop_line i a
  line_given (for_line.Case n c) i a = case_line i a
  line_given (for_line.Default n) i a = default_line i a

  tree_handed : {scope : Scope} {l k : ℕ} {e : Tall (At Tree)} {ts us : Tokens} (fs : List Frame) → Inside all scope fs (NeedTree l) ts → ATree scope k e ts us → l ≤ k →
      IfOk (hands (to_tree k e us) fs us >>= λ x. Ok (state_after scope x)) (IsGood all)
  tree_handed [] i a le = tt
  tree_handed {k = k} {e = e} {us = us} (frame.Tree f ∷ fs) i a le = kept all _ _ _ (give_tree-good k e us i a le)
  tree_handed (frame.Part f ∷ fs) i a le = kept all _ _ _ (part_given f i a le)
  tree_handed (f ∷ fs) i a le = tt

  specs_handed : {scope : Scope} {s : Tall (List (At Spec))} {ts us : Tokens} (fs : List Frame) → Inside all scope fs NeedSpecs ts → TheSpecs scope s ts us → IfOk (hands (to_specs s us) fs us >>= λ x. Ok (state_after scope x)) (IsGood all)
  specs_handed [] i a = tt
  specs_handed (frame.Specs f ∷ fs) i a = kept all _ _ _ (specs_given f i a)
  specs_handed (f ∷ fs) i a = tt

  declr_handed : {scope : Scope} {d : Tall (At Declr)} {ts us : Tokens} (fs : List Frame) → Inside all scope fs NeedDeclr ts → ADeclr scope false d ts us →
      IfOk (hands (to_declr scope d us) fs us >>= λ x. Ok (state_after scope x)) (IsGood all)
  declr_handed [] i a = tt
  declr_handed (frame.Declr f ∷ fs) i a = kept all _ _ _ (declr_given f i a)
  declr_handed (f ∷ fs) i a = tt

  value_handed : {scope : Scope} {g : Tall (At Given)} {ts us : Tokens} (fs : List Frame) → Inside all scope fs NeedValue ts → AGiven scope g ts us → IfOk (hands (to_value g us) fs us >>= λ x. Ok (state_after scope x)) (IsGood all)
  value_handed [] i a = tt
  value_handed (frame.Value f ∷ fs) i a = kept all _ _ _ (value_given f i a)
  value_handed (f ∷ fs) i a = tt

  decl_handed : {before scope : Scope} {outside : Bool} {n : ℕ} {d : Tall Decl} {ts us : Tokens} (fs : List Frame) → Inside all before fs (NeedDecl outside) ts → n ≡ offset ts → ADecl before scope d ts us →
      IfOk (hands (to_decl n d us) fs us >>= λ x. Ok (state_after scope x)) (IsGood all)
  decl_handed [] i e a = tt
  decl_handed (frame.Block b ∷ fs) i e a = decl_in_block i e a
  decl_handed {n = n} (frame.First k count ∷ fs) i e a = decl_in_for n i a
  decl_handed (frame.Items is ∷ fs) i e a = decl_in_items i e a
  decl_handed (f ∷ fs) i e a = tt

  line_handed : {scope : Scope} {a : Tall (At Line)} {ts us : Tokens} (fs : List Frame) → Inside all scope fs NeedLine ts → ALine scope a ts us → IfOk (hands (to_line a us) fs us >>= λ x. Ok (state_after scope x)) (IsGood all)
  line_handed [] i a = tt
  line_handed (frame.Line f ∷ fs) i a = kept all _ _ _ (line_given f i a)
  line_handed (frame.Block b ∷ fs) i a = line_in_block i a
  line_handed (f ∷ fs) i a = tt

  body_handed : {scope inner : Scope} {b : Tall (List (At Line))} {q : Span} {ts us : Tokens} (fs : List Frame) → Inside all scope fs NeedBody ts → IsLines scope inner b.node ts (mark m.RBrace q ∷ us) →
      b.height ≡ heights line_height b.node → IfOk (hands (to_body b us) fs us >>= λ x. Ok (state_after scope x)) (IsGood all)
  body_handed [] i a e = tt
  body_handed (frame.Body h ∷ fs) i a e = body_in_head i a e
  body_handed (f ∷ fs) i a e = tt

  item_handed : {scope : Scope} {i : Tall (At Item)} {ts us : Tokens} (fs : List Frame) → Inside all scope fs (NeedDecl true) ts → IsItem scope scope i.node.node ts us → i.node.at ≡ offset ts → i.height ≡ item_height i.node.node →
      IfOk (hands (to_item i us) fs us >>= λ x. Ok (state_after scope x)) (IsGood all)
  item_handed [] i a n e = tt
  item_handed (frame.Items is ∷ fs) i a n e = item_in_items i a n e
  item_handed (f ∷ fs) i a n e = tt

  turned_good : {scope : Scope} {fs : List Frame} {c : Control} {ts : Tokens} → Good all scope fs c ts → IfOk (turned scope fs ts c >>= λ x. Ok (state_after scope x)) (IsGood all)
  turned_good (GoodExpr scope fs l ts i le) = expr-good all scope fs l ts i le
  turned_good (GoodOperand scope fs l ts i le) = kept all scope fs _ (operand-good all scope fs l le ts i)
  turned_good (GoodPostfix scope fs l e ts us i le a) = kept all scope fs _ (postfix-good all scope fs l e ts i le us a)
  turned_good (GoodOperators scope fs least level e ts us i a le) = kept all scope fs _ (operators-good all scope fs least level e ts us i a le)
  turned_good (GoodTree scope fs l level e ts us i a le) = tree_handed fs i a le
  turned_good (GoodSpecs scope fs s ts us i a) = kept all scope fs _ (specifiers-good all scope fs ts i s us a)
  turned_good (GoodHaveSpecs scope fs s ts us i a) = specs_handed fs i a
  turned_good (GoodStructure scope fs s ts i) = kept all scope fs _ (structure-good all scope fs s ts i)
  turned_good (GoodEnumr scope fs e ts i) = kept all scope fs _ (enumr-good all scope fs e ts i)
  turned_good (GoodEnumeration scope fs e p q ts us vs ws i specs tag n are high) = kept all scope fs _ (enumeration-good all scope fs e p q ts us vs ws i specs tag n are high)
  turned_good (GoodDeclr scope fs ts i) = kept all scope fs _ (declarator-good all scope fs ts i)
  turned_good (GoodSuffix scope fs d ts us i a) = kept all scope fs _ (suffix-good all scope fs d ts i us a)
  turned_good (GoodHaveDeclr scope fs d ts us i a) = declr_handed fs i a
  turned_good (GoodValue scope fs ts i) = kept all scope fs _ (value_good ts i)
  turned_good (GoodHaveValue scope fs g ts us i a) = value_handed fs i a
  turned_good (GoodDecl scope fs outside ts i) = declaration_good outside ts i
  turned_good (GoodInits before scope fs d ts us vs i specs n are high) = kept all scope fs _ (inits_good d ts us vs i specs n are high)
  turned_good (GoodHaveDecl before scope fs outside n d ts us i e a) = decl_handed fs i e a
  turned_good (GoodStatement scope fs ts i) = kept all scope fs _ (statement_good ts i)
  turned_good (GoodBlock scope fs b ts i) = kept all scope fs _ (block_good ts i)
  turned_good (GoodHaveLine scope fs l ts us i a) = line_handed fs i a
  turned_good (GoodTest scope fs f ts i) = kept all scope fs _ (for_test_good ts i)
  turned_good (GoodStep scope fs f ts i) = kept all scope fs _ (for_step_good ts i)
  turned_good (GoodHaveBody scope inner fs b q ts us i are high) = body_handed fs i are high
  turned_good (GoodItems scope is ts are high) = kept all scope [] _ (items_good is ts are high)
  turned_good (GoodHaveItem scope fs item ts us i one n high) = item_handed fs i one n high
  turned_good (GoodDone scope fs u us are high) = tt

-- each turn keeps an unfinished sentence
pub turn_good : (all : Tokens) (s : State) → IsGood all s → IfOk (turn s) (IsGood all)
unfolding turn
turn_good all s h = turned_good h

pub start_good : (all : Tokens) → IsGood all (start all)
start_good all = GoodItems [] _ all (NoItem [] all) refl

after_turn : {all : Tokens} {t : State} (r : Result State Stop) → r ≡ Ok t → IfOk r (IsGood all) → IsGood all t
after_turn {all} r e h = subst (λ (x : Result State Stop). IfOk x (IsGood all)) e h

pub leads_good : {limit : ℕ} {s t : State} (all : Tokens) → Leads limit s t → IsGood all s → IsGood all t
leads_good all (Here s) h = h
leads_good all (There s t u e le l) h = leads_good all l (after_turn (turn s) e (turn_good all s h))

done_good : {all : Tokens} {scope : Scope} {fs : List Frame} {c : Control} {ts : Tokens} (u : Tall UnitTree) → c ≡ control.Done u → Good all scope fs c ts → IsItems [] scope u.node.items all [] × (u.height ≡ unit_height u.node)
done_good {all} u e (GoodDone scope fs v us are high) =
    let same : v ≡ u = cc in subst (λ (x : Tall UnitTree). IsItems [] scope x.node.items all [] × (x.height ≡ unit_height x.node)) same (are, high)
done_good u e _ = cc

-- what the machine ends with is a sentence, and its height is told
pub sound : {limit : ℕ} {s : State} (ts : Tokens) (u : Tall UnitTree) → Leads limit (start ts) s → s.control ≡ control.Done u → IsItems [] s.scope u.node.items ts [] × (u.height ≡ unit_height u.node)
sound ts u l e = done_good u e (leads_good ts l (start_good ts))
