-- Each turn of the machine reaches as high as before, or one higher for a token. So a run that ends with a sentence was
-- never higher than that, and where it is high, it has taken as many tokens.
use Rattle.std.proofs.Common.{◌≡◌, ◌≤◌, ◌<◌, ◌+◌, ℕ, suc, List, [], ◌∷◌, Option, Some, None, Result, Ok, Err, IfOk, refl, sym, subst, length, arith}
use Rattle.cc_tree.specs.declared.state.Control.{Control}
use Rattle.cc_tree.specs.declared.state.Control.TheVariants as control
use Rattle.cc_tree.specs.declared.state.Frame.{Frame}
use Rattle.cc_tree.specs.declared.stop.Stop.{Stop}
use Rattle.cc_tree.specs.declared.unit.Unit.{Unit as UnitTree}
use Rattle.cc_tree.specs.Depth.{depth}
use Rattle.cc_tree.specs.Height.{unit_height}
use Rattle.cc_tree.specs.Machine.{State, Leads, Here, There, Exceeds, start, turn, turned, hands, stays, with_frame, state_after, height_of}
use Rattle.cc_tree.specs.Reading.{◌>>=◌}
use Rattle.cc_tree.specs.Scopes.{Scope}
use Rattle.cc_tree.specs.Sentences.{IsItems}
use Rattle.cc_tree.specs.Tokens.{Tokens}
use Rattle.cc_tree.specs.Turns.{Turn, Went, tall}
use Rattle.cc_tree.specs.TurnTrees as trees
use Rattle.cc_tree.specs.TurnTypes as types
use Rattle.cc_tree.specs.TurnLines as lines
use Rattle.cc_tree.proofs.CompleteUnits.{complete}
use Rattle.cc_tree.proofs.Ends.{through}
use Rattle.cc_tree.proofs.Leading.{state}
use Rattle.cc_tree.proofs.Outcomes.{parts, done-ends}
use Rattle.cc_tree.proofs.Stops.{leads-within}
use Rattle.cc_tree.proofs.ReachSteps.{over, whole, so_far, above, reached, Climbs, height-so_far, whole-more, whole-one_more, whole-by, depth-whole}
use Rattle.cc_tree.proofs.ReachTrees.{expr-climbs, operand-climbs, postfix-climbs, operators-climbs}
use Rattle.cc_tree.proofs.ReachTypes.{specifiers-climbs, structure-climbs, enumr-climbs, enumeration-climbs, declarator-climbs, suffix-climbs}
use Rattle.cc_tree.proofs.ReachLines.{value-climbs, declaration-climbs, inits-climbs, statement-climbs, block-climbs, for_test-climbs, for_step-climbs, items-climbs, to_tree-climbs, to_specs-climbs, to_declr-climbs, to_value-climbs, to_decl-climbs, to_line-climbs, to_body-climbs, to_item-climbs}

-- how high the whole becomes at least
abbrev pub reach : State → ℕ
reach s = whole s.frames (so_far s.control)

-- the same of what waits and of what a turn left
abbrev high : List Frame × Went → ℕ
high r = whole (with_frame r.1.frame r.0) (so_far r.1.control)

abbrev Rise : ℕ → ℕ → ℕ → ℕ → Type 0
Rise a n b k = (a ≤ b) × (b ≤ suc a) × (b + k ≤ a + n)

abbrev Rises : ℕ → ℕ → Result (List Frame × Went) Stop → Type 0
Rises a n r = IfOk r (λ p. Rise a n (high p) (length p.1.rest))

high-left : (f : Option Frame) (fs : List Frame) (h : ℕ) → whole (with_frame f fs) h ≡ whole fs (above f h)
high-left None fs h = refl
high-left (Some f) fs h = refl

stays-rises : (fs : List Frame) (a n : ℕ) (r : Turn) → Climbs a n r → Rises (whole fs a) n (stays fs r)
stays-rises fs a n (Err e) h = tt
stays-rises fs a n (Ok t) h = subst (λ (x : ℕ). Rise (whole fs a) n x (length t.rest)) (sym (high-left t.frame fs (so_far t.control)))
    (whole-more fs a (reached t) h.0, whole-one_more fs a (reached t) h.1, whole-by fs a (reached t) n (length t.rest) h.0 h.1 h.2)

hands-rises : (give : Frame → Turn) (fs : List Frame) (ts : Tokens) (a : ℕ) → ((f : Frame) → Climbs (over f a) (length ts) (give f)) → Rises (whole fs a) (length ts) (hands give fs ts)
hands-rises give [] ts a h = tt
hands-rises give (f ∷ fs) ts a h = stays-rises fs (over f a) (length ts) (give f) (h f)

turned-rises : (scope : Scope) (fs : List Frame) (ts : Tokens) (c : Control) → Rises (whole fs (so_far c)) (length ts) (turned scope fs ts c)
turned-rises scope fs ts (control.Expr l) = stays-rises fs 0 (length ts) (trees.expr l ts) (expr-climbs l ts)
turned-rises scope fs ts (control.Operand l) = stays-rises fs 0 (length ts) (trees.operand scope l ts) (operand-climbs scope l ts)
turned-rises scope fs ts (control.Postfix e) = stays-rises fs e.height (length ts) (trees.postfix e ts) (postfix-climbs e ts)
turned-rises scope fs ts (control.Operators least level e) = stays-rises fs e.height (length ts) (trees.operators least level e ts) (operators-climbs least level e ts)
turned-rises scope fs ts (control.Tree level e) = hands-rises (lines.to_tree level e ts) fs ts e.height (to_tree-climbs level e ts)
turned-rises scope fs ts (control.Specs s) = stays-rises fs s.height (length ts) (types.specifiers scope s ts) (specifiers-climbs s scope ts)
turned-rises scope fs ts (control.HaveSpecs s) = hands-rises (lines.to_specs s ts) fs ts s.height (to_specs-climbs s ts)
turned-rises scope fs ts (control.Structure s) = stays-rises fs s.height (length ts) (types.structure s ts) (structure-climbs s ts)
turned-rises scope fs ts (control.Enumr e) = stays-rises fs e.height (length ts) (types.enumr scope e ts) (enumr-climbs scope e ts)
turned-rises scope fs ts (control.Enumeration e) = stays-rises fs e.height (length ts) (types.enumeration e ts) (enumeration-climbs e ts)
turned-rises scope fs ts control.Declr = stays-rises fs 0 (length ts) (types.declarator scope ts) (declarator-climbs scope ts)
turned-rises scope fs ts (control.Suffix d) = stays-rises fs d.height (length ts) (types.suffix d ts) (suffix-climbs d ts)
turned-rises scope fs ts (control.HaveDeclr d) = hands-rises (lines.to_declr scope d ts) fs ts d.height (to_declr-climbs scope d ts)
turned-rises scope fs ts control.Value = stays-rises fs 0 (length ts) (lines.value ts) (value-climbs ts)
turned-rises scope fs ts (control.HaveValue g) = hands-rises (lines.to_value g ts) fs ts g.height (to_value-climbs g ts)
turned-rises scope fs ts (control.Decl outside) = stays-rises fs 0 (length ts) (lines.declaration outside ts) (declaration-climbs outside ts)
turned-rises scope fs ts (control.Inits d) = stays-rises fs d.height (length ts) (lines.inits d ts) (inits-climbs d ts)
turned-rises scope fs ts (control.HaveDecl n d) = hands-rises (lines.to_decl n d ts) fs ts d.height (to_decl-climbs n d ts)
turned-rises scope fs ts control.Statement = stays-rises fs 0 (length ts) (lines.statement scope ts) (statement-climbs scope ts)
turned-rises scope fs ts (control.Block b) = stays-rises fs (so_far (control.Block b)) (length ts) (lines.block scope b ts) (block-climbs scope b ts)
turned-rises scope fs ts (control.HaveLine a) = hands-rises (lines.to_line a ts) fs ts a.height (to_line-climbs a ts)
turned-rises scope fs ts (control.Test f) = stays-rises fs (suc f.height) (length ts) (lines.for_test f ts) (for_test-climbs f ts)
turned-rises scope fs ts (control.Step f) = stays-rises fs (suc f.height) (length ts) (lines.for_step f ts) (for_step-climbs f ts)
turned-rises scope fs ts (control.HaveBody b) = hands-rises (lines.to_body b ts) fs ts b.height (to_body-climbs b ts)
turned-rises scope fs ts (control.Items is) = stays-rises fs is.height (length ts) (lines.items is ts) (items-climbs is ts)
turned-rises scope fs ts (control.HaveItem i) = hands-rises (lines.to_item i ts) fs ts i.height (to_item-climbs i ts)
turned-rises scope fs ts (control.Done u) = tt

after-rises : (s : State) (r : Result (List Frame × Went) Stop) → Rises (reach s) (length s.rest) r → IfOk (r >>= λ p. Ok (state_after s.scope p)) (λ t. Rise (reach s) (length s.rest) (reach t) (length t.rest))
after-rises s (Err e) h = tt
after-rises s (Ok p) h = h

turn-rises : (s : State) → IfOk (turn s) (λ t. Rise (reach s) (length s.rest) (reach t) (length t.rest))
unfolding turn
turn-rises s = after-rises s (turned s.scope s.frames s.rest s.control) (turned-rises s.scope s.frames s.rest s.control)

rises : (s t : State) → turn s ≡ Ok t → Rise (reach s) (length s.rest) (reach t) (length t.rest)
rises s t e = subst (λ r. IfOk r (λ u. Rise (reach s) (length s.rest) (reach u) (length u.rest))) e (turn-rises s)

-- runs

run-rises : (limit : ℕ) (s t : State) → Leads limit s t → reach s ≤ reach t
run-rises limit s t (Here _) = omega arith
run-rises limit s t (There _ u _ h l r) = omega (arith, (rises s u h).0, run-rises limit u t r)

run-takes : (limit : ℕ) (s t : State) → Leads limit s t → reach t + length t.rest ≤ reach s + length s.rest
run-takes limit s t (Here _) = omega arith
run-takes limit s t (There _ u _ h l r) = omega (arith, (rises s u h).2, run-takes limit u t r)

-- what waits, and what has just been read, is no higher than the whole
pub depth-reach : (s : State) → depth s.frames + height_of s.control ≤ reach s
depth-reach s = omega (arith, depth-whole s.frames (so_far s.control), height-so_far s.control)

-- So tokens that lead to more are no sentence of the limit's height at most,
pub not_deeper : (limit : ℕ) (s t : State) (u : UnitTree) (a : Scope) (ts : Tokens) → Leads limit (start ts) s → turn s ≡ Ok t → limit < depth t.frames + height_of t.control → IsItems [] a u.items ts [] → unit_height u ≤ limit → ⊥
not_deeper limit s t u a ts r h l d k =
    let all : Leads limit (start ts) (state a [] (control.Done (tall u (unit_height u))) []) = complete limit (parts limit) u a ts d k in
    let rest : Leads limit t (state a [] (control.Done (tall u (unit_height u))) []) = through limit limit (start ts) s t (state a [] (control.Done (tall u (unit_height u))) []) _ r h all (done-ends _ _ refl) in
    let low : reach t ≤ unit_height u = run-rises limit t (state a [] (control.Done (tall u (unit_height u))) []) rest in
    omega (arith, depth-reach t)

-- and the turn that leads there stands behind as many tokens as the limit.
pub far : (limit : ℕ) (ts : Tokens) (s t : State) → Leads limit (start ts) s → turn s ≡ Ok t → limit < depth t.frames + height_of t.control → limit + length s.rest ≤ length ts
far limit ts s t r h l =
    let taken : reach s + length s.rest ≤ 0 + length ts = run-takes limit (start ts) s r in
    omega (arith, depth-reach t, (rises s t h).1)

-- Where turns exceed the limit, the tokens are no sentence of its height at most,
pub exceeds-unread : (limit n : ℕ) (u : UnitTree) (a : Scope) (ts : Tokens) → Exceeds limit ts n → IsItems [] a u.items ts [] → unit_height u ≤ limit → ⊥
exceeds-unread limit n u a ts h d k = not_deeper limit h.last h.next u a ts (leads-within limit (start ts) h.last h.led) h.turned h.high d k

-- and at least as many tokens stand before.
pub exceeds-far : (limit n : ℕ) (ts : Tokens) → Exceeds limit ts n → limit + n ≤ length ts
exceeds-far limit n ts h = subst (λ (x : ℕ). limit + x ≤ length ts) (sym h.ahead) (far limit ts h.last h.next (leads-within limit (start ts) h.last h.led) h.turned h.high)
