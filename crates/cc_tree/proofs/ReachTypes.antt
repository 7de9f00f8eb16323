-- Turns on specifiers, members, enumerations and declarators: what they leave reaches as high as what they were given,
-- or one higher for a token.
use Rattle.std.proofs.Common.{◌≤◌, ◌<◌, ◌+◌, ℕ, suc, Bool, true, false, ◌&&◌, ◌||◌, List, [], ◌∷◌, Option, Some, None, IfSome, length, max, arith}
use Rattle.cc_lex.specs.declared.token.Kind.{Kind}
use Rattle.cc_lex.specs.declared.token.Kind.TheVariants as kind
use Rattle.cc_lex.specs.declared.token.Mark.{Mark}
use Rattle.cc_lex.specs.declared.token.Mark.TheVariants as m
use Rattle.cc_words.specs.declared.word.Word.{Word}
use Rattle.cc_words.specs.declared.word.Word.TheVariants as w
use Rattle.cc_tree.specs.declared.at.At.{At}
use Rattle.cc_tree.specs.declared.state.Control.TheVariants as control
use Rattle.cc_tree.specs.declared.state.Enumeration.{Enumeration}
use Rattle.cc_tree.specs.declared.state.Function.{Function}
use Rattle.cc_tree.specs.declared.state.Members.{Members}
use Rattle.cc_tree.specs.declared.state.Structure.{Structure}
use Rattle.cc_tree.specs.declared.state.Tall.{Tall}
use Rattle.cc_tree.specs.declared.state.Use.{Use}
use Rattle.cc_tree.specs.declared.state.Use.TheVariants as used
use Rattle.cc_tree.specs.declared.tree.Attr.{Attr}
use Rattle.cc_tree.specs.declared.tree.Declr as declr
use Rattle.cc_tree.specs.declared.tree.Declr.{Declr}
use Rattle.cc_tree.specs.declared.tree.Spec as spec
use Rattle.cc_tree.specs.declared.tree.TypeName.{TypeName}
use Rattle.cc_tree.specs.Reading.{after, first_mark, begins_with}
use Rattle.cc_tree.specs.ReadTypes.{begins_spec, attr, attrs, tag}
use Rattle.cc_tree.specs.Scopes.{Scope, is_typedef}
use Rattle.cc_tree.specs.Terms.{is_spec_word, have_word}
use Rattle.cc_tree.specs.Tokens.{Tokens, Name, offset}
use Rattle.cc_tree.specs.Turns.{on, made, tall}
use Rattle.cc_tree.specs.TurnTypes.{attrs_apart, Specs, behind_spec, named_structure, structure_at, structure_spec, named_enumeration, enumeration_at, enumeration_spec, attr_spec, end_specs, specs_done, specs_plain, specs_word, specs_name, specs_at, specifiers, no_member, close_structure, structure_by, structure, with_declr, with_members, members_at, member_declr, enumr_at, enumr_name, enumr, close_enumeration, behind_comma, enumeration_by, enumeration, declr_name, declr_paren, declr_mark, declr_at, declarator, array, function, suffix_by, suffix_at, suffix, params_of, with_param, param_at, param, paren_declr, use_type, close_type}
use Rattle.cc_tree.proofs.MeasureTokens.{after-fewer, eat-fewer, name-fewer, first_mark-fewer, qualifiers-fewer, tag-fewer, attr-fewer, attrs-fewer}
use Rattle.cc_tree.proofs.ReachSteps.{over, Climb, Climbs, same}
use Rattle.cc_tree.proofs.ReadingBasics.{ok_bind}

-- specifiers

module _ (specs : Specs) (n : ℕ) where
  named_structure-climbs : (at : ℕ) (x : Option Name) (a : List (At Attr)) (ts : Tokens) → length ts < n → Climbs specs.height n (named_structure specs at x a ts)
  named_structure-climbs at (Some x) [] ts h = (omega arith, omega arith, omega arith)
  named_structure-climbs at (Some x) (b ∷ a) ts h = tt
  named_structure-climbs at None a ts h = tt

  structure_at-climbs : (at : ℕ) (x : Option Name) (a : List (At Attr)) (ts : Tokens) (r : Option Tokens) → length ts < n → IfSome r (λ us. length us < n) → Climbs specs.height n (structure_at specs at x a ts r)
  structure_at-climbs at x a ts (Some us) h k = (omega arith, omega arith, omega arith)
  structure_at-climbs at x a ts None h k = named_structure-climbs at x a ts h

  tagged-climbs : (at : ℕ) (a : List (At Attr)) (us : Tokens) (t : Option Name × Tokens) → length us < n → length t.1 ≤ length us → Climbs specs.height n (structure_at specs at t.0 a t.1 (after m.LBrace t.1))
  tagged-climbs at a us t h k = structure_at-climbs at t.0 a t.1 (after m.LBrace t.1) (omega arith) (after-fewer m.LBrace t.1 n (omega arith))

  structure_spec-climbs : (at : ℕ) (ts : Tokens) → length ts < n → Climbs specs.height n (structure_spec specs at ts)
  structure_spec-climbs at ts h = ok_bind (attrs ts) (λ a. structure_at specs at (tag a.1).0 a.0 (tag a.1).1 (after m.LBrace (tag a.1).1)) (λ a. length a.1 ≤ length ts) (Climb specs.height n) (attrs-fewer ts)
      (λ a k. tagged-climbs at a.0 a.1 (tag a.1) (omega arith) (tag-fewer a.1))

  named_enumeration-climbs : (at : ℕ) (x : Option Name) (ts : Tokens) → length ts < n → Climbs specs.height n (named_enumeration specs at x ts)
  named_enumeration-climbs at (Some x) ts h = (omega arith, omega arith, omega arith)
  named_enumeration-climbs at None ts h = tt

  enumeration_at-climbs : (at : ℕ) (x : Option Name) (ts : Tokens) (r : Option Tokens) → length ts < n → IfSome r (λ us. length us < n) → Climbs specs.height n (enumeration_at specs at x ts r)
  enumeration_at-climbs at x ts (Some us) h k = (omega arith, omega arith, omega arith)
  enumeration_at-climbs at x ts None h k = named_enumeration-climbs at x ts h

  enumeration_spec-climbs : (at : ℕ) (ts : Tokens) → length ts < n → Climbs specs.height n (enumeration_spec specs at ts)
  enumeration_spec-climbs at ts h = enumeration_at-climbs at (tag ts).0 (tag ts).1 (after m.LBrace (tag ts).1) (omega (arith, tag-fewer ts)) (after-fewer m.LBrace (tag ts).1 n (omega (arith, tag-fewer ts)))

module _ (specs : Specs) where
  end_specs-climbs : (ts : Tokens) (b : Bool) → Climbs specs.height (length ts) (end_specs specs ts b)
  end_specs-climbs ts true = (omega arith, omega arith, omega arith)
  end_specs-climbs ts false = tt

  specs_done-climbs : (ts : Tokens) → Climbs specs.height (length ts) (specs_done specs ts)
  specs_done-climbs ts = end_specs-climbs ts (have_word specs.node && attrs_apart false specs.node)

  attr_spec-climbs : (all : Tokens) → Climbs specs.height (length all) (attr_spec specs all)
  attr_spec-climbs all = ok_bind (attr all) (λ a. behind_spec specs.node a.0.at (spec.Attr a.0.node) specs.height a.1) (λ a. length a.1 < length all) (Climb specs.height (length all)) (attr-fewer all) (λ a h. (omega arith, omega arith, omega arith))

  module _ (all ts : Tokens) (at : ℕ) (h : length ts < length all) where
    specs_plain-climbs : (x : Word) (b : Bool) → Climbs specs.height (length all) (specs_plain specs all ts at x b)
    specs_plain-climbs x true = (omega arith, omega arith, omega arith)
    specs_plain-climbs x false = specs_done-climbs all

    specs_word-climbs : (x : Word) → Climbs specs.height (length all) (specs_word specs all ts at x)
    specs_word-climbs w.Struct = structure_spec-climbs specs (length all) at ts h
    specs_word-climbs w.Enum = enumeration_spec-climbs specs (length all) at ts h
    specs_word-climbs w.Attribute = attr_spec-climbs all
    specs_word-climbs x = specs_plain-climbs x (is_spec_word x)

    specs_name-climbs : (x : Name) (b : Bool) → Climbs specs.height (length all) (specs_name specs all ts at x b)
    specs_name-climbs x true = (omega arith, omega arith, omega arith)
    specs_name-climbs x false = specs_done-climbs all

    specs_at-climbs : (scope : Scope) (k : Kind) → Climbs specs.height (length all) (specs_at scope specs all ts at k)
    specs_at-climbs scope (kind.Keyword x) = specs_word-climbs x
    specs_at-climbs scope (kind.Ident x) = specs_name-climbs x (is_typedef scope x)
    specs_at-climbs scope k = specs_done-climbs all

  pub specifiers-climbs : (scope : Scope) (ts : Tokens) → Climbs specs.height (length ts) (specifiers scope specs ts)
  unfolding specifiers
  specifiers-climbs scope [] = specs_done-climbs []
  specifiers-climbs scope (t ∷ ts) = specs_at-climbs (t ∷ ts) ts t.at (omega arith) scope t.kind

-- members

close_structure-climbs : (s : Structure) (all ts : Tokens) (b : Bool) → length ts < length all → Climbs s.height (length all) (close_structure s all ts b)
close_structure-climbs s all ts true h = tt
close_structure-climbs s all ts false h = ok_bind (attrs ts) (λ a. behind_spec s.outer s.at (spec.Struct s.tag (Some s.members) s.attrs a.0) s.height a.1) (λ a. length a.1 ≤ length ts) (Climb s.height (length all))
    (attrs-fewer ts) (λ a k. (omega arith, omega arith, omega arith))

structure_by-climbs : (s : Structure) (all : Tokens) (r : Option Tokens) → IfSome r (λ us. length us < length all) → Climbs s.height (length all) (structure_by s all r)
structure_by-climbs s all None h = (omega arith, omega arith, omega arith)
structure_by-climbs s all (Some us) h = close_structure-climbs s all us (no_member s.members) h

pub structure-climbs : (s : Structure) (ts : Tokens) → Climbs s.height (length ts) (structure s ts)
unfolding structure
structure-climbs s ts = structure_by-climbs s ts (after m.RBrace ts) (after-fewer m.RBrace ts (length ts) (omega arith))

members_at-climbs : (d : Members) (ts : Tokens) (r : Option Tokens) → IfSome r (λ us. length us < length ts) → Climbs d.height (length ts) (members_at d ts r)
members_at-climbs d ts (Some us) h = (omega arith, omega arith, omega arith)
members_at-climbs d ts None h = eat-fewer m.Semi ts (λ us. on (control.Structure (with_members d)) us) (length ts) (Climb d.height (length ts)) (omega arith) (λ us g. (omega arith, omega arith, omega arith))

pub member_declr-climbs : (d : Members) (e : Tall (At Declr)) (ts : Tokens) (b : Bool) → Climbs (max d.height e.height) (length ts) (member_declr d e ts b)
member_declr-climbs d e ts true = members_at-climbs (with_declr d e) ts (after m.Comma ts) (after-fewer m.Comma ts (length ts) (omega arith))
member_declr-climbs d e ts false = tt

-- enumeration constants

enumr_at-climbs : (e : Enumeration) (at n : ℕ) (x : Name) (ts : Tokens) (r : Option Tokens) → length ts < n → IfSome r (λ us. length us < n) → Climbs e.height n (enumr_at e at x ts r)
enumr_at-climbs e at n x ts (Some us) h k = (omega arith, omega arith, omega arith)
enumr_at-climbs e at n x ts None h k = (omega arith, omega arith, omega arith)

enumr_name-climbs : (e : Enumeration) (all ts : Tokens) (x : Name) (b : Bool) → length ts < length all → Climbs e.height (length all) (enumr_name e all ts x b)
enumr_name-climbs e all ts x true h = tt
enumr_name-climbs e all ts x false h = enumr_at-climbs e (offset all) (length all) x ts (after m.Assign ts) h (after-fewer m.Assign ts (length all) (omega arith))

pub enumr-climbs : (scope : Scope) (e : Enumeration) (ts : Tokens) → Climbs e.height (length ts) (enumr scope e ts)
unfolding enumr
enumr-climbs scope e ts = name-fewer ts (λ x. enumr_name e ts x.1 x.0 (is_typedef scope x.0)) (length ts) (Climb e.height (length ts)) (omega arith) (λ x us h. enumr_name-climbs e ts us x (is_typedef scope x) h)

close_enumeration-climbs : (e : Enumeration) (ts : Tokens) (n : ℕ) → length ts ≤ n → Climbs e.height n (close_enumeration e ts)
close_enumeration-climbs e ts n h = eat-fewer m.RBrace ts (λ us. behind_spec e.outer e.at (spec.Enum e.tag (Some e.enumrs)) e.height us) n (Climb e.height n) h (λ us g. (omega arith, omega arith, omega arith))

behind_comma-climbs : (e : Enumeration) (ts : Tokens) (n : ℕ) (b : Bool) → length ts < n → Climbs e.height n (behind_comma e ts b)
behind_comma-climbs e ts n true h = close_enumeration-climbs e ts n (omega arith)
behind_comma-climbs e ts n false h = (omega arith, omega arith, omega arith)

enumeration_by-climbs : (e : Enumeration) (ts : Tokens) (r : Option Tokens) → IfSome r (λ us. length us < length ts) → Climbs e.height (length ts) (enumeration_by e ts r)
enumeration_by-climbs e ts None h = close_enumeration-climbs e ts (length ts) (omega arith)
enumeration_by-climbs e ts (Some us) h = behind_comma-climbs e us (length ts) (begins_with m.RBrace us) h

pub enumeration-climbs : (e : Enumeration) (ts : Tokens) → Climbs e.height (length ts) (enumeration e ts)
unfolding enumeration
enumeration-climbs e ts = enumeration_by-climbs e ts (after m.Comma ts) (after-fewer m.Comma ts (length ts) (omega arith))

-- declarators

module _ (all ts : Tokens) (at : ℕ) (h : length ts < length all) where
  declr_name-climbs : (x : Name) (b : Bool) → Climbs 0 (length all) (declr_name all ts at x b)
  declr_name-climbs x true = (omega arith, omega arith, omega arith)
  declr_name-climbs x false = (omega arith, omega arith, omega arith)

  declr_paren-climbs : (b : Bool) → Climbs 0 (length all) (declr_paren all ts at b)
  declr_paren-climbs true = (omega arith, omega arith, omega arith)
  declr_paren-climbs false = (omega arith, omega arith, omega arith)

  declr_mark-climbs : (scope : Scope) (o : Mark) → Climbs 0 (length all) (declr_mark scope all ts at o)
  declr_mark-climbs scope m.Star = (omega arith, omega arith, omega (arith, qualifiers-fewer ts))
  declr_mark-climbs scope m.LParen = declr_paren-climbs (begins_with m.RParen ts || begins_spec scope ts)
  declr_mark-climbs scope o = (omega arith, omega arith, omega arith)

  declr_at-climbs : (scope : Scope) (k : Kind) → Climbs 0 (length all) (declr_at scope all ts at k)
  declr_at-climbs scope (kind.Ident x) = declr_name-climbs x (is_typedef scope x)
  declr_at-climbs scope (kind.Punct o) = declr_mark-climbs scope o
  declr_at-climbs scope k = (omega arith, omega arith, omega arith)

pub declarator-climbs : (scope : Scope) (ts : Tokens) → Climbs 0 (length ts) (declarator scope ts)
unfolding declarator
declarator-climbs scope [] = (omega arith, omega arith, omega arith)
declarator-climbs scope (t ∷ ts) = declr_at-climbs (t ∷ ts) ts t.at (omega arith) scope t.kind

module _ (d : Tall (At Declr)) where
  array-climbs : (ts : Tokens) (r : Option Tokens) (n : ℕ) → length ts < n → IfSome r (λ us. length us < n) → Climbs d.height n (array d ts r)
  array-climbs ts (Some us) n h k = (omega arith, omega arith, omega arith)
  array-climbs ts None n h k = (omega arith, omega arith, omega arith)

  function-climbs : (ts : Tokens) (r : Option Tokens) (n : ℕ) → length ts < n → IfSome r (λ us. length us < n) → Climbs d.height n (function d ts r)
  function-climbs ts (Some us) n h k = (omega arith, omega arith, omega arith)
  function-climbs ts None n h k = (omega arith, omega arith, omega arith)

  suffix_by-climbs : (all ts : Tokens) (o : Mark) → length ts < length all → Climbs d.height (length all) (suffix_by d all ts o)
  suffix_by-climbs all ts m.LBracket h = array-climbs ts (after m.RBracket ts) (length all) h (after-fewer m.RBracket ts (length all) (omega arith))
  suffix_by-climbs all ts m.LParen h = function-climbs ts (after m.RParen ts) (length all) h (after-fewer m.RParen ts (length all) (omega arith))
  suffix_by-climbs all ts o h = (omega arith, omega arith, omega arith)

  suffix_at-climbs : (all : Tokens) (r : Option (Mark × Tokens)) → IfSome r (λ o. length o.1 < length all) → Climbs d.height (length all) (suffix_at d all r)
  suffix_at-climbs all None h = (omega arith, omega arith, omega arith)
  suffix_at-climbs all (Some o) h = suffix_by-climbs all o.1 o.0 h

  pub suffix-climbs : (ts : Tokens) → Climbs d.height (length ts) (suffix d ts)
  unfolding suffix
  suffix-climbs ts = suffix_at-climbs ts (first_mark ts) (first_mark-fewer ts)

-- what waits for a declarator gets it

param_at-climbs : (f : Function) (ts : Tokens) (r : Option Tokens) → IfSome r (λ us. length us < length ts) → Climbs (suc f.height) (length ts) (param_at f ts r)
param_at-climbs f ts (Some us) h = (omega arith, omega arith, omega arith)
param_at-climbs f ts None h = eat-fewer m.RParen ts (λ us. on (control.Suffix (made f.declr.at (declr.Func f.declr (params_of f.params)) (suc f.height))) us) (length ts) (Climb (suc f.height) (length ts)) (omega arith) (λ us g. (omega arith, omega arith, omega arith))

pub param-climbs : (f : Function) (n : ℕ) (specs : Specs) (d : Tall (At Declr)) (ts : Tokens) → Climbs (suc (max f.height (max specs.height d.height))) (length ts) (param f n specs d ts)
param-climbs f n specs d ts = param_at-climbs (with_param f n specs d) ts (after m.Comma ts) (after-fewer m.Comma ts (length ts) (omega arith))

pub paren_declr-climbs : (n : ℕ) (d : Tall (At Declr)) (ts : Tokens) (b : Bool) → Climbs (suc d.height) (length ts) (paren_declr n d ts b)
paren_declr-climbs n d ts true = tt
paren_declr-climbs n d ts false = eat-fewer m.RParen ts (λ us. on (control.Suffix (made n (declr.Paren d.node) (suc d.height))) us) (length ts) (Climb (suc d.height) (length ts)) (omega arith) (λ us g. (omega arith, omega arith, omega arith))

use_type-climbs : (u : Use) (at n : ℕ) (t : Tall TypeName) (ts : Tokens) → length ts < n → Climbs (suc t.height) n (use_type u at t ts)
use_type-climbs used.Cast at n t ts h = (omega arith, omega arith, omega arith)
use_type-climbs used.SizeOf at n t ts h = (omega arith, omega arith, omega arith)

pub close_type-climbs : (u : Use) (n : ℕ) (specs : Specs) (d : Tall (At Declr)) (ts : Tokens) (b : Bool) → Climbs (suc (max specs.height d.height)) (length ts) (close_type u n specs d ts b)
close_type-climbs u n specs d ts true = tt
close_type-climbs u n specs d ts false = eat-fewer m.RParen ts (λ us. use_type u n (tall (record { specs = specs.node; declr = d.node }) (max specs.height d.height)) us) (length ts) (Climb (suc (max specs.height d.height)) (length ts)) (omega arith)
    (λ us g. use_type-climbs u n (length ts) (tall (record { specs = specs.node; declr = d.node }) (max specs.height d.height)) us g)
