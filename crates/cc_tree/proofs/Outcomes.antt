-- What a run of the machine that ends says of the sentences that the tokens are: a sentence is read, with its own
-- tree, which is unique, and is not refused.
use Rattle.std.proofs.Common.{◌≡◌, ◌≤◌, ◌<◌, ℕ, [], Ok, Err, refl, ap, length, arith}
use Rattle.cc_tree.specs.declared.state.Control.{Control}
use Rattle.cc_tree.specs.declared.state.Control.TheVariants as control
use Rattle.cc_tree.specs.declared.state.Tall.{Tall}
use Rattle.cc_tree.specs.declared.stop.Stop.{Stop}
use Rattle.cc_tree.specs.declared.stop.Stop.TheVariants as stop
use Rattle.cc_tree.specs.declared.unit.Unit.{Unit as UnitTree}
use Rattle.cc_tree.specs.Height.{unit_height}
use Rattle.cc_tree.specs.Machine.{State, turn, start, height_of, Leads}
use Rattle.cc_tree.specs.Scopes.{Scope}
use Rattle.cc_tree.specs.Sentences.{IsItems}
use Rattle.cc_tree.specs.Tokens.{Tokens}
use Rattle.cc_tree.specs.Turns.{tall}
use Rattle.cc_tree.proofs.Begins.{tree-begins, specs-begin}
use Rattle.cc_tree.proofs.Complete as terms
use Rattle.cc_tree.proofs.CompleteUnits.{complete}
use Rattle.cc_tree.proofs.Ends.{meet}
use Rattle.cc_tree.proofs.Leading.{state}
use Rattle.cc_tree.proofs.Wanted.{Parts}

-- where the machine is done, it has no turn
pub done-ends : (s : State) (v : Tall UnitTree) → s.control ≡ control.Done v → turn s ≡ Err (stop.Wrong (length s.rest))
unfolding turn
done-ends s v e = ap (λ (c : Control). turn (state s.scope s.frames c s.rest)) e

same_tree : (c : Control) (v w : Tall UnitTree) → c ≡ control.Done v → c ≡ control.Done w → v ≡ w
same_tree c v w h k = cc

same_done : (a b : Scope) (u v : UnitTree) (h k : ℕ) → state a [] (control.Done (tall u h)) [] ≡ state b [] (control.Done (tall v k)) [] → u ≡ v
same_done a b u v h k e = ap (λ (t : Tall UnitTree). t.node) (same_tree (control.Done (tall u h)) (tall u h) (tall v k) refl (ap (λ (s : State). s.control) e))

-- expressions, specifiers and declarators lead the machine to where they are read
pub parts : (limit : ℕ) → Parts limit
parts limit = record {
  tree = λ scope l e ts us d i h g. terms.tree d i h g;
  specs = λ scope ss ts us d h g. terms.specs d h g;
  declr = λ scope d ts us x h g. terms.declr x h g;
  tree-begins = λ scope l e ts us d. tree-begins d;
  specs-begin = λ scope ss ts us d. specs-begin d;
}

-- the tree of a sentence is unique
pub unique : (u v : UnitTree) (a b : Scope) (ts : Tokens) → IsItems [] a u.items ts [] → IsItems [] b v.items ts [] → u ≡ v
unique u v a b ts d e = same_done a b u v (unit_height u) (unit_height v)
    (meet (unit_height u) (unit_height v) (start ts) (state a [] (control.Done (tall u (unit_height u))) []) (state b [] (control.Done (tall v (unit_height v))) []) _ _
    (complete (unit_height u) (parts (unit_height u)) u a ts d (omega arith)) (done-ends _ _ refl)
    (complete (unit_height v) (parts (unit_height v)) v b ts e (omega arith)) (done-ends _ _ refl))

-- a run that ends, from the tokens of a sentence, ends where the machine is done with its tree
pub ends : (limit : ℕ) (s : State) (e : Stop) (u : UnitTree) (a : Scope) (ts : Tokens) → Leads limit (start ts) s → turn s ≡ Err e → IsItems [] a u.items ts [] → s.control ≡ control.Done (tall u (unit_height u))
ends limit s e u a ts r h d = ap (λ (t : State). t.control)
    (meet limit (unit_height u) (start ts) s (state a [] (control.Done (tall u (unit_height u))) []) e _ r h (complete (unit_height u) (parts (unit_height u)) u a ts d (omega arith)) (done-ends _ _ refl))

-- so the tree that was read is that of the sentence
pub found : (limit : ℕ) (s : State) (v : Tall UnitTree) (u : UnitTree) (a : Scope) (ts : Tokens) → Leads limit (start ts) s → s.control ≡ control.Done v → IsItems [] a u.items ts [] → v ≡ tall u (unit_height u)
found limit s v u a ts r e d = same_tree s.control v (tall u (unit_height u)) e (ends limit s (stop.Wrong (length s.rest)) u a ts r (done-ends s v e) d)

-- a sentence is not refused
pub not_wrong : (limit : ℕ) (s : State) (e : Stop) (u : UnitTree) (a : Scope) (ts : Tokens) → Leads limit (start ts) s → turn s ≡ Err e → ((v : Tall UnitTree) → s.control ≡ control.Done v → ⊥) → IsItems [] a u.items ts [] → ⊥
not_wrong limit s e u a ts r h not_done d = not_done (tall u (unit_height u)) (ends limit s e u a ts r h d)
