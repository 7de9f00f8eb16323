-- What it means that a construct leads the machine from where it is wanted to where it is read.
use Rattle.std.proofs.Common.{◌≡◌, ◌≤◌, ℕ, suc, Bool, true, false, List, [], ◌∷◌, ◌++◌, Option, Ok, sym, subst, max, arith}
use Rattle.cc_tree.specs.declared.at.At.{At}
use Rattle.cc_tree.specs.declared.state.Block.{Block}
use Rattle.cc_tree.specs.declared.state.Control.TheVariants as control
use Rattle.cc_tree.specs.declared.state.Declaration.{Declaration}
use Rattle.cc_tree.specs.declared.state.DeclrFrame.TheVariants as for_declr
use Rattle.cc_tree.specs.declared.state.For.{For}
use Rattle.cc_tree.specs.declared.state.Frame.{Frame}
use Rattle.cc_tree.specs.declared.state.Frame.TheVariants as frame
use Rattle.cc_tree.specs.declared.state.PartFrame.{PartFrame}
use Rattle.cc_tree.specs.declared.tree.Declr.{Declr}
use Rattle.cc_tree.specs.declared.tree.Spec.{Spec}
use Rattle.cc_tree.specs.declared.tree.Tree.{Tree}
use Rattle.cc_tree.specs.declared.unit.Decl.{Decl}
use Rattle.cc_tree.specs.declared.unit.First.{First}
use Rattle.cc_tree.specs.declared.unit.Given.{Given}
use Rattle.cc_tree.specs.declared.unit.Init.{Init}
use Rattle.cc_tree.specs.declared.unit.Line.{Line}
use Rattle.cc_tree.specs.Height.{height, height_of_declr, specs_height}
use Rattle.cc_tree.specs.Machine.{State, turn, height_of, Leads, There}
use Rattle.cc_tree.specs.Operators.{unary_level}
use Rattle.cc_tree.specs.ReadTypes.{begins_specs}
use Rattle.cc_tree.specs.Scopes.{Scope}
use Rattle.cc_tree.specs.Terms.{IsTree, IsSpecs, IsDeclr}
use Rattle.cc_tree.specs.Tokens.{Tokens, offset}
use Rattle.cc_tree.specs.Turns.{tall}
use Rattle.cc_tree.proofs.GoesOn.{goes_on, goes_on_declr, goes_on_specs}
use Rattle.cc_tree.proofs.Leading.{state, then}

-- declarations, blocks and `for`s whose parts are being read
abbrev pub decls : Bool → ℕ → List (At Spec) → List (At Init) → ℕ → Declaration
decls outside n ss is height = record { outside = outside; at = n; specs = ss; inits = is; height = height }

abbrev pub blocks : Bool → ℕ → ℕ → List (At Line) → ℕ → Block
blocks body count n ls height = record { body = body; scope = count; at = n; lines = ls; height = height }

abbrev pub fors : ℕ → ℕ → First → Option (At Tree) → Option (At Tree) → ℕ → For
fors n count f t e height = record { at = n; scope = count; first = f; test = t; step = e; height = height }

-- bounds on heights

pub lower : {a b n : ℕ} → a ≡ b → a ≤ n → b ≤ n
lower {n = n} e h = subst (λ (x : ℕ). x ≤ n) e h

pub under : {a n : ℕ} → suc a ≤ n → a ≤ n
under h = omega arith

pub left : (a b : ℕ) {n : ℕ} → max a b ≤ n → a ≤ n
left a b h = omega arith

pub right : (a b : ℕ) {n : ℕ} → max a b ≤ n → b ≤ n
right a b h = omega arith

pub max_zero : (a : ℕ) → max 0 a ≡ max a 0
max_zero a = omega arith

-- Each is a statement for any frames that wait: the construct is wanted in front of the first tokens, and is
-- read, at this height, in front of the second.
module _ (limit : ℕ) where
  abbrev pub TreeLeads : Scope → ℕ → At Tree → ℕ → Tokens → Tokens → Type 0
  TreeLeads scope l e h ts us = (fs : List Frame) → (level : ℕ) × Leads limit (state scope fs (control.Expr l) ts) (state scope fs (control.Tree level (tall e h)) us)

  abbrev pub SpecsLead : Scope → List (At Spec) → ℕ → Tokens → Tokens → Type 0
  SpecsLead scope ss h ts us = (fs : List Frame) → Leads limit (state scope fs (control.Specs (tall [] 0)) ts) (state scope fs (control.HaveSpecs (tall ss h)) us)

  abbrev pub DeclrLeads : Scope → At Declr → ℕ → Tokens → Tokens → Type 0
  DeclrLeads scope d h ts us = (fs : List Frame) → Leads limit (state scope fs control.Declr ts) (state scope fs (control.HaveDeclr (tall d h)) us)

  abbrev pub ValueLeads : Scope → At Given → ℕ → Tokens → Tokens → Type 0
  ValueLeads scope g h ts us = (fs : List Frame) → Leads limit (state scope fs control.Value ts) (state scope fs (control.HaveValue (tall g h)) us)

  -- one declarator with its value, behind those so far
  abbrev pub InitLeads : List (At Spec) → Scope → Scope → At Init → ℕ → Tokens → Tokens → Type 0
  InitLeads ss scope after i h ts us = (outside : Bool) (n k : ℕ) (is : List (At Init)) (fs : List Frame) →
      Leads limit (state scope (frame.Declr (for_declr.Init (decls outside n ss is k)) ∷ fs) control.Declr ts)
      (state after fs (control.Inits (decls outside n ss (is ++ i ∷ []) (max k h))) us)

  -- the declarators of a declaration
  abbrev pub InitsLead : List (At Spec) → Scope → Scope → List (At Init) → ℕ → Tokens → Tokens → Type 0
  InitsLead ss scope after is h ts us = (outside : Bool) (n k : ℕ) (fs : List Frame) →
      Leads limit (state scope (frame.Declr (for_declr.Init (decls outside n ss [] k)) ∷ fs) control.Declr ts)
      (state after fs (control.Inits (decls outside n ss is (max k h))) us)

  abbrev pub DeclLeads : Scope → Scope → Decl → ℕ → Tokens → Tokens → Type 0
  DeclLeads scope after d h ts us = (outside : Bool) (fs : List Frame) →
      Leads limit (state scope fs (control.Decl outside) ts) (state after fs (control.HaveDecl (offset ts) (tall d h)) us)

  abbrev pub LineLeads : Scope → At Line → ℕ → Tokens → Tokens → Type 0
  LineLeads scope a h ts us = (fs : List Frame) → Leads limit (state scope fs control.Statement ts) (state scope fs (control.HaveLine (tall a h)) us)

  -- the lines of a block
  abbrev pub LinesLead : Scope → Scope → List (At Line) → ℕ → Tokens → Tokens → Type 0
  LinesLead scope after ls h ts us = (body : Bool) (count n : ℕ) (fs : List Frame) →
      Leads limit (state scope fs (control.Block (blocks body count n [] 0)) ts) (state after fs (control.Block (blocks body count n ls h)) us)

  -- what expressions, specifiers and declarators lead to
  pub record Parts : Type 0 where
    pub tree : (scope : Scope) (l : ℕ) (e : At Tree) (ts us : Tokens) → IsTree scope l e ts us → l ≤ unary_level → height e.node ≤ limit → goes_on l us ≡ false →
        TreeLeads scope l e (height e.node) ts us
    pub specs : (scope : Scope) (ss : List (At Spec)) (ts us : Tokens) → IsSpecs scope ss ts us → specs_height ss ≤ limit → goes_on_specs scope us ≡ false → SpecsLead scope ss (specs_height ss) ts us
    pub declr : (scope : Scope) (d : At Declr) (ts us : Tokens) → IsDeclr scope false d ts us → height_of_declr d.node ≤ limit → goes_on_declr scope us ≡ false →
        DeclrLeads scope d (height_of_declr d.node) ts us
    pub tree-begins : (scope : Scope) (l : ℕ) (e : At Tree) (ts us : Tokens) → IsTree scope l e ts us → begins_specs scope ts ≡ false
    pub specs-begin : (scope : Scope) (ss : List (At Spec)) (ts us : Tokens) → IsSpecs scope ss ts us → begins_specs scope ts ≡ true

  pub low : 0 ≤ limit
  low = omega arith

  -- a turn that reads nothing of a height, in front of more
  pub turns : (s t u : State) → turn s ≡ Ok t → height_of t.control ≡ 0 → Leads limit t u → Leads limit s u
  turns s t u e h r = There s t u e (subst (λ (n : ℕ). n ≤ limit) (sym h) low) r

  -- an expression, what its frame does with it, and more
  pub part : (scope : Scope) (l : ℕ) (e : At Tree) (h : ℕ) (ts us : Tokens) → TreeLeads scope l e h ts us → (f : PartFrame) (fs : List Frame) (t u : State) →
      ((level : ℕ) → turn (state scope (frame.Part f ∷ fs) (control.Tree level (tall e h)) us) ≡ Ok t) → height_of t.control ≤ limit → Leads limit t u →
      Leads limit (state scope (frame.Part f ∷ fs) (control.Expr l) ts) u
  part scope l e h ts us r f fs t u g k more = behind (r (frame.Part f ∷ fs))
    where
      behind : (level : ℕ) × Leads limit (state scope (frame.Part f ∷ fs) (control.Expr l) ts) (state scope (frame.Part f ∷ fs) (control.Tree level (tall e h)) us) →
          Leads limit (state scope (frame.Part f ∷ fs) (control.Expr l) ts) u
      behind (level, way) = then limit way (There _ t u (g level) k more)
