-- Tests and jumps: an activation goes to a next point, where facts say what its registers and the memory are.
use Rattle.std.proofs.Common.{arith, ◌≡◌, ◌⊎◌, inl, inr, ◌+◌, ℕ, zero, suc, ℤ, pos, Bool, true, false, List, ◌∷◌, length, Option, Some, None, refl, ap, sym, ◌∙◌, subst}
use Rattle.std.specs.Prelude.{◌==◌, negsuc}
use Rattle.std.specs.List.{Contains, list_any}
use Rattle.std.specs.Option.{option_or}
use Rattle.std.specs.Ordering.{int_eq}
use Rattle.std.proofs.lemmas.Bool.{eqb-true}
use Rattle.std.proofs.lemmas.Option.{same_Some}
use Rattle.cc_flow_sound.specs.CcCells.Cells.{scalar_in}
use Rattle.cc_flow_sound.specs.CcControl.Control.{Level, around_list, bodies, counted, from_label, is_label, is_default}
use Rattle.cc_flow_sound.proofs.CcEval.Opened.{meaning_at}
use Rattle.cc_flow_sound.specs.CcEval.declared.mark.Mark.{Mark}
use Rattle.cc_flow_sound.specs.CcEval.Eval.{Meaning}
use Rattle.cc_flow_sound.specs.CcEval.Progress.{Progress, Known}
use Rattle.cc_flow_sound.specs.CcFlow.declared.next.Site.{Site}
use Rattle.cc_flow_sound.specs.CcFlow.Next.{reached}
use Rattle.cc_flow_sound.specs.CcFlow.Points.{total_of}
use Rattle.cc_flow_sound.proofs.Goes.{arm_at, goes_at, next_at}
use Rattle.cc_flow_sound.proofs.Opened.{all_normal, NormalAt, normal_lists, normal_parts, total-append}
use Rattle.cc_flow_sound.proofs.Places.{behind_at, close_at, part_placed}
use Rattle.cc_flow_sound.proofs.Starts.{labelled, IsLabelled}
use Rattle.cc_flow_sound.specs.Sites.{switch_site, moved_to, arm_point, nexts, number_at, base_of, IsSiteIn, IsPoint, IsPlaced}
use Rattle.cc_program.specs.CcNum.declared.int_type.IntType.TheVariants as int
use Rattle.cc_program.specs.CcNum.declared.int_type.IntType.{IntType}
use Rattle.cc_program.specs.declared.expr.Expr.TheOpen as one
use Rattle.cc_program.specs.declared.expr.Expr.{Expr, out-Expr}
use Rattle.cc_program.specs.declared.expr.Place.{Place}
use Rattle.cc_program.specs.declared.func.Func.{Func}
use Rattle.cc_program.specs.declared.program.Program.{Program}
use Rattle.cc_program.specs.declared.stmt.Case.{Case}
use Rattle.cc_program.specs.declared.stmt.Stmt.TheOpen as is
use Rattle.cc_program.specs.declared.stmt.Stmt.{Stmt, out-Stmt}
use Rattle.cc_program.specs.declared.value.Value.TheVariants.{Int}
use Rattle.cc_program.specs.declared.value.Value.{Value}
use Rattle.cc_proof_covers.proofs.Statements.{AtStatement, own, is_normal, works_on, progress_is}
use Rattle.cc_proof_covers.specs.Invariant.{IsAtPoint}
use Rattle.cc_proof_covers.specs.Rules.{Flows, KeepsFlag, Goes, IsHere}
use Rattle.cc_proof_covers.specs.Views.{View}
use Rattle.cc_proof_forms.specs.Branches.{case_point, switch_point}
use Rattle.cc_proof_forms.specs.Refined.{AtMember, MayLead, Refines}
use Rattle.cc_flow_sound.proofs.CcStates.ControlLemmas.{may_break_there, may_continue_there}
use Rattle.cc_flow_sound.proofs.CcStates.ListLemmas.{not_equal}
use Rattle.cc_flow_sound.specs.CcStates.States.{expression_of, context_in}
use Rattle.cc_flow_sound.specs.CcSteps.State.{Active, Memory}
use Rattle.cc_flow_sound.specs.CcSteps.Step.{progress_of, next_place, is_return, goes_to, number_in, in_case, switched}
use Rattle.cc_flow_sound.proofs.CcSyntax.Prefixes.{both_true}
use Rattle.cc_flow_sound.specs.CcSyntax.Forms.{form_of, form_at}
use Rattle.cc_flow_sound.specs.CcSyntax.Normal.{is_one}
use Rattle.cc_flow_sound.specs.CcSyntax.Registers.{is_register}
use Rattle.cc_flow_sound.specs.CcSyntax.SameTypes.{same_int}
use Rattle.cc_flow_sound.specs.CcValues.Values.{is_true}

-- ---- the test of `while (1)`

abbrev IsOne : one.Expr-F Expr Place → Type 0
IsOne x = (n : ℤ) × (t : IntType) × (x ≡ one.Const n t) × (int_eq n (pos 1) ≡ true)

one_form : (x : one.Expr-F Expr Place) → is_one (form_at x) ≡ true → IsOne x
one_form (one.Const n t) h = (n, t, refl, (both_true (int_eq n (pos 1)) (same_int t int.Int) h).0)
one_form _ h = absurd (cc)

one_is_true : (n : ℤ) → int_eq n (pos 1) ≡ true → is_true (Int n) ≡ true
one_is_true (pos zero) h = absurd (cc)
one_is_true (pos (suc n)) h = refl
one_is_true (negsuc n) h = refl

known_same : (q : Progress (Option Value)) (w u : Value) (ms ns : List Mark) → q ≡ Known (Some w) ms → q ≡ Known (Some u) ns → w ≡ u
known_same q w u ms ns h k = cc

module _ (p : Program) (v : View) (m : Memory) (a : Active) (f : Func) (n : ℕ) (here : IsHere p v m a f n) (at : AtStatement p a f) (w : Value) (ms : List Mark) (known : progress_of p a (expression_of a) ≡ Known (Some w) ms) where
  abbrev base : Site
  base = base_of p a.func f

  abbrev s : Stmt
  s = at.statement

  abbrev its_own : Site
  its_own = own p a f at

  -- ---- what is not refined stays

  pub flows_on : (k : ℕ) → IsAtPoint p f (goes_to p a (next_place (out-Stmt s) a w)) k → Flows p v n k None None → KeepsFlag p v n k → Goes p v m a f n (out-Stmt s) w
  flows_on k there flows keeps = record {
    next = k;
    there = there;
    reached = flows.reached;
    registers = λ r x register h. flows.locals r x (λ q. none_some r q) (here.registers r x register h);
    keeps = keeps;
    cells = λ i x t h. flows.cells i x (λ q. none_some i q) (here.memory.cells i x t h);
    sames = λ r i h. (flows.sames r i (λ q. none_some r q) h).0;
  }
    where
      none_some : (q : ℕ) → None ≡ Some q → ⊥
      none_some q h = cc

  -- to each next point of a statement that is no return
  module _ (no_return : is_return (out-Stmt s) ≡ false) where
    taken : (e : Expr) (list : List Stmt) → out-Stmt s ≡ is.While e list → is_true w ≡ true
    taken e list i =
        let t : NormalAt p.target f (is.While e list) = subst (NormalAt p.target f) i (is_normal p a f at) in
        let o = one_form (out-Expr e) (both_true (is_one (form_of e)) (all_normal p.target f list) t).0 in
        let works : expression_of a ≡ Some e = works_on p a f at (is.While e list) i in
        let is : progress_of p a (expression_of a) ≡ Known (Some (Int o.0)) a.marks =
        progress_is p a f at e works a.marks ∙ ap (λ (z : Meaning). z.next (λ r. false) a.marks) (meaning_at (context_in p a f) e (one.Const o.0 o.1) o.2) in
        ap is_true (known_same (progress_of p a (expression_of a)) w (Int o.0) ms a.marks known is) ∙ one_is_true o.0 o.3

    returns : (e : Option Expr) → out-Stmt s ≡ is.Return e → ⊥
    returns e i = let t : true ≡ false = ap is_return (sym i) ∙ no_return in cc

    pub jump_goes : ((k : ℕ) → Contains (nexts (out-Stmt s) its_own) k → Flows p v n k None None × KeepsFlag p v n k) → Goes p v m a f n (out-Stmt s) w
    jump_goes rule =
        let control = here.active.control in
        let func = here.active.func in
        let there = next_at p.target f base f.body a s at.rest at.site at.here at.stands at.levels w (may_break_there p func a s at.rest at.here control) (may_continue_there p func a s at.rest at.here control) taken returns in
        let r = rule there.0 there.2 in
        flows_on there.0 (goes_at p.target f base f.body p a (next_place (out-Stmt s) a w) there.0 there.1) r.0 r.1

  -- ---- a test of this outcome refines registers and what they are the same as, where it leads

  module _ (Passes : ℤ → Type 0) (With : ℕ → Value → ℤ → Type 0) (z : ℤ) (k : ℕ) (there : IsAtPoint p f (goes_to p a (next_place (out-Stmt s) a w)) k) (passes : Passes z)
      (with : (r : ℕ) (x : Value) → ((q : ℕ) (u : Value) → is_register f q ≡ true → scalar_in a.locals q 0 ≡ Some (Some u) → AtMember v n r x q u) → With r x z) where
    abbrev Left : ℕ → Value → Type 0
    Left r x = With r x z

    -- what a register holds is left
    left : (r : ℕ) (x : Value) → ((u : Value) → scalar_in a.locals r 0 ≡ Some (Some u) → u ≡ x) → Left r x
    left r x only = with r x (λ q u register g. member_by q u register g (q == r) refl)
      where
        member_by : (q : ℕ) (u : Value) → is_register f q ≡ true → scalar_in a.locals q 0 ≡ Some (Some u) → (c : Bool) → q == r ≡ c → ((q ≡ r) × (u ≡ x)) ⊎ ((q ≡ r → ⊥) × v.local n q u)
        member_by q u register g true c = let is : q ≡ r = eqb-true q r c in inl (is, only u (subst (λ (z : ℕ). scalar_in a.locals z 0 ≡ Some (Some u)) is g))
        member_by q u register g false c = inr ((λ same. not_equal q r same c), here.registers q u register g)

    own_left : (r : ℕ) (x : Value) → scalar_in a.locals r 0 ≡ Some (Some x) → Left r x
    own_left r x g = left r x (λ u h. same_Some u x (same_Some (Some u) (Some x) (sym h ∙ g)))

    -- no register is without a member left: what it holds is one, and where it was not written each is
    some_left : (r : ℕ) (x : Value) → is_register f r ≡ true → v.local n r x → (o : Option (Option Value)) → scalar_in a.locals r 0 ≡ o → (u : Value) × v.local n r u × Left r u
    some_left r x register h None g = (x, h, left r x (λ u k. absurd (let z : None ≡ Some (Some u) = sym g ∙ k in cc)))
    some_left r x register h (Some None) g = (x, h, left r x (λ u k. absurd (let z : Some None ≡ Some (Some u) = sym g ∙ k in cc)))
    some_left r x register h (Some (Some u)) g = (u, here.registers r u register g, own_left r u g)

    -- the value of an object that a register is the same as is left with it
    same_left : (r i : ℕ) (x : Value) → v.same n r i → scalar_in m.statics i 0 ≡ Some x → Left r x
    same_left r i x h g = left r x (λ u k. same_Some u x (sym (here.memory.sames r i u h k) ∙ g))

    may_lead : MayLead v f n Passes With z
    may_lead = record { all = passes; some = λ r x register h. some_left r x register h (scalar_in a.locals r 0) refl }

    pub tested_goes : (MayLead v f n Passes With z → Refines v f n Passes With z k) → Goes p v m a f n (out-Stmt s) w
    tested_goes rule =
        let r = rule may_lead in
        record {
          next = k;
          there = there;
          reached = r.reached;
          registers = λ q x register g. r.locals q x register (here.registers q x register g) (own_left q x g);
          keeps = r.flags;
          cells = λ i x t g. r.cells i x t (here.memory.cells i x t g) (λ q h register. same_left q i x h g);
          sames = r.sames;
        }

  -- ---- where `if` and `switch` lead

  pub if_there : (e : Expr) (these those : List Stmt) → out-Stmt s ≡ is.If e these those → IsAtPoint p f (goes_to p a (next_place (out-Stmt s) a w)) (arm_point (is_true w) these those its_own)
  if_there e these those i =
      let k = arm_point (is_true w) these those its_own in
      subst (λ y. IsAtPoint p f (goes_to p a (next_place y a w)) k) (sym i)
      (goes_at p.target f base f.body p a (next_place (is.If e these those) a w) k (arm_at p.target f base f.body a s at.rest at.site at.here at.stands at.levels (is_true w) e these those i))

  module _ (e : Expr) (cases : List Case) (i : out-Stmt s ≡ is.Switch e cases) where
    abbrev within : List Level
    within = around_list a.here ∷ a.around

    found_there : (found : ℕ × List Stmt) → IsLabelled (its_own.number + 1) its_own.behind 0 cases found → IsPoint base f.body (in_case a (Some found)) (case_point cases its_own (Some found))
    found_there found h =
        let inner = switch_site its_own in
        let there = moved_to (inner.number + total_of h.front) inner in
        let all = ap total_of h.whole ∙ total-append h.front found.1 in
        let same : number_at found.1 there ≡ case_point cases its_own (Some found) = ap (λ (z : ℕ). reached (total_of found.1) z its_own.behind) (let t = all in omega (arith, t)) in
        let normal : NormalAt p.target f (is.Switch e cases) = subst (NormalAt p.target f) i (is_normal p a f at) in
        subst (IsPoint base f.body (in_case a (Some found))) same
        (close_at p.target f base f.body found.1 (counted found.0) within there
        (record {
          statement = s;
          after = at.rest;
          outer = at.site;
          list = bodies cases;
          first = 0;
          inner = inner;
          here = at.here;
          around = at.stands;
          inside = subst (λ y. IsSiteIn y its_own (bodies cases) 0 inner) (sym i) (refl, refl, refl);
          left = subst (λ (z : ℕ). IsPlaced (bodies cases) 0 inner found.1 (counted z) there) (sym (h.counts ∙ none_before (length h.front))) (part_placed (bodies cases) h.front found.1 inner h.whole);
        })
        (normal_parts p.target f h.front found.1 (ap (all_normal p.target f) (sym h.whole) ∙ normal_lists p.target f (is.Switch e cases) (bodies cases) 0 normal (refl, refl))).1 (at.levels.0, at.levels.1))
      where
        none_before : (z : ℕ) → 0 + z ≡ z
        none_before z = omega arith

    case_there : (z : ℤ) (x y : Option (ℕ × List Stmt)) → from_label (list_any (is_label z)) 0 cases ≡ x → from_label (list_any is_default) 0 cases ≡ y → IsPoint base f.body (in_case a (option_or x y)) (case_point cases its_own (option_or x y))
    case_there z (Some found) y l d = found_there found (labelled (list_any (is_label z)) (its_own.number + 1) its_own.behind 0 cases found l)
    case_there z None (Some found) l d = found_there found (labelled (list_any is_default) (its_own.number + 1) its_own.behind 0 cases found d)
    case_there z None None l d = behind_at p.target f base f.body a.here a.around s at.rest at.site at.here at.stands at.levels

    pub switch_there : IsAtPoint p f (goes_to p a (next_place (out-Stmt s) a w)) (switch_point (number_in w) cases its_own)
    switch_there =
        let z = number_in w in
        subst (λ y. IsAtPoint p f (goes_to p a (next_place y a w)) (switch_point z cases its_own)) (sym i)
        (goes_at p.target f base f.body p a (switched a z cases) (switch_point z cases its_own) (case_there z (from_label (list_any (is_label z)) 0 cases) (from_label (list_any is_default) 0 cases) refl refl))
