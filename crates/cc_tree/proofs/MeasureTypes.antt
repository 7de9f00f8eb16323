-- Turns on specifiers, members, enumerations and declarators: what they leave weighs less than what they were given.
use Rattle.std.proofs.Common.{◌≤◌, ◌<◌, ◌+◌, ◌*◌, ℕ, suc, Bool, true, false, ◌&&◌, ◌||◌, List, [], ◌∷◌, Option, Some, None, IfSome, length, max, arith}
use Rattle.cc_lex.specs.declared.token.Kind.{Kind}
use Rattle.cc_lex.specs.declared.token.Kind.TheVariants as kind
use Rattle.cc_lex.specs.declared.token.Mark.{Mark}
use Rattle.cc_lex.specs.declared.token.Mark.TheVariants as m
use Rattle.cc_words.specs.declared.word.Word.{Word}
use Rattle.cc_words.specs.declared.word.Word.TheVariants as w
use Rattle.cc_tree.specs.declared.at.At.{At}
use Rattle.cc_tree.specs.declared.state.Control.TheVariants as control
use Rattle.cc_tree.specs.declared.state.Enumeration.{Enumeration}
use Rattle.cc_tree.specs.declared.state.Function.{Function}
use Rattle.cc_tree.specs.declared.state.Members.{Members}
use Rattle.cc_tree.specs.declared.state.Structure.{Structure}
use Rattle.cc_tree.specs.declared.state.Tall.{Tall}
use Rattle.cc_tree.specs.declared.state.Use.{Use}
use Rattle.cc_tree.specs.declared.state.Use.TheVariants as used
use Rattle.cc_tree.specs.declared.tree.Attr.{Attr}
use Rattle.cc_tree.specs.declared.tree.Declr as declr
use Rattle.cc_tree.specs.declared.tree.Declr.{Declr}
use Rattle.cc_tree.specs.declared.tree.Spec as spec
use Rattle.cc_tree.specs.declared.tree.TypeName.{TypeName}
use Rattle.cc_tree.specs.Reading.{after, first_mark, begins_with}
use Rattle.cc_tree.specs.ReadTypes.{begins_spec, attr, attrs, tag}
use Rattle.cc_tree.specs.Scopes.{Scope, is_typedef}
use Rattle.cc_tree.specs.Terms.{is_spec_word, have_word}
use Rattle.cc_tree.specs.Tokens.{Tokens, Name, offset}
use Rattle.cc_tree.specs.Turns.{on, made, tall}
use Rattle.cc_tree.specs.TurnTypes.{attrs_apart, Specs, behind_spec, named_structure, structure_at, structure_spec, named_enumeration, enumeration_at, enumeration_spec, attr_spec, end_specs, specs_done, specs_plain, specs_word, specs_name, specs_at, specifiers, no_member, close_structure, structure_by, structure, with_declr, with_members, members_at, member_declr, enumr_at, enumr_name, enumr, close_enumeration, behind_comma, enumeration_by, enumeration, declr_name, declr_paren, declr_mark, declr_at, declarator, array, function, suffix_by, suffix_at, suffix, params_of, with_param, param_at, param, paren_declr, use_type, close_type}
use Rattle.cc_tree.proofs.MeasureTokens.{weight, Falls, heavier, after-fewer, eat-fewer, name-fewer, first_mark-fewer, qualifiers-fewer, tag-fewer, attr-fewer, attrs-fewer}
use Rattle.cc_tree.proofs.ReadingBasics.{ok_bind}

-- specifiers

module _ (specs : Specs) (n : ℕ) where
  named_structure-falls : (at : ℕ) (x : Option Name) (a : List (At Attr)) (ts : Tokens) → length ts < n → Falls (16 * n) (named_structure specs at x a ts)
  named_structure-falls at (Some x) [] ts h = omega arith
  named_structure-falls at (Some x) (b ∷ a) ts h = tt
  named_structure-falls at None a ts h = tt

  structure_at-falls : (at : ℕ) (x : Option Name) (a : List (At Attr)) (ts : Tokens) (r : Option Tokens) → length ts < n → IfSome r (λ us. length us < n) → Falls (16 * n) (structure_at specs at x a ts r)
  structure_at-falls at x a ts (Some us) h k = omega arith
  structure_at-falls at x a ts None h k = named_structure-falls at x a ts h

  tagged-falls : (at : ℕ) (a : List (At Attr)) (us : Tokens) (t : Option Name × Tokens) → length us < n → length t.1 ≤ length us → Falls (16 * n) (structure_at specs at t.0 a t.1 (after m.LBrace t.1))
  tagged-falls at a us t h k = structure_at-falls at t.0 a t.1 (after m.LBrace t.1) (omega arith) (after-fewer m.LBrace t.1 n (omega arith))

  structure_spec-falls : (at : ℕ) (ts : Tokens) → length ts < n → Falls (16 * n) (structure_spec specs at ts)
  structure_spec-falls at ts h = ok_bind (attrs ts) (λ a. structure_at specs at (tag a.1).0 a.0 (tag a.1).1 (after m.LBrace (tag a.1).1)) (λ a. length a.1 ≤ length ts) (λ t. weight t < 16 * n) (attrs-fewer ts)
      (λ a k. tagged-falls at a.0 a.1 (tag a.1) (omega arith) (tag-fewer a.1))

  named_enumeration-falls : (at : ℕ) (x : Option Name) (ts : Tokens) → length ts < n → Falls (16 * n) (named_enumeration specs at x ts)
  named_enumeration-falls at (Some x) ts h = omega arith
  named_enumeration-falls at None ts h = tt

  enumeration_at-falls : (at : ℕ) (x : Option Name) (ts : Tokens) (r : Option Tokens) → length ts < n → IfSome r (λ us. length us < n) → Falls (16 * n) (enumeration_at specs at x ts r)
  enumeration_at-falls at x ts (Some us) h k = omega arith
  enumeration_at-falls at x ts None h k = named_enumeration-falls at x ts h

  enumeration_spec-falls : (at : ℕ) (ts : Tokens) → length ts < n → Falls (16 * n) (enumeration_spec specs at ts)
  enumeration_spec-falls at ts h = enumeration_at-falls at (tag ts).0 (tag ts).1 (after m.LBrace (tag ts).1) (omega (arith, tag-fewer ts)) (after-fewer m.LBrace (tag ts).1 n (omega (arith, tag-fewer ts)))

module _ (specs : Specs) where
  end_specs-falls : (ts : Tokens) (b : Bool) → Falls (16 * length ts + 4) (end_specs specs ts b)
  end_specs-falls ts true = omega arith
  end_specs-falls ts false = tt

  specs_done-falls : (ts : Tokens) → Falls (16 * length ts + 4) (specs_done specs ts)
  specs_done-falls ts = end_specs-falls ts (have_word specs.node && attrs_apart false specs.node)

  attr_spec-falls : (all : Tokens) → Falls (16 * length all + 4) (attr_spec specs all)
  attr_spec-falls all = ok_bind (attr all) (λ a. behind_spec specs.node a.0.at (spec.Attr a.0.node) specs.height a.1) (λ a. length a.1 < length all) (λ t. weight t < 16 * length all + 4) (attr-fewer all) (λ a h. omega arith)

  module _ (all ts : Tokens) (at : ℕ) (h : length ts < length all) where
    specs_plain-falls : (x : Word) (b : Bool) → Falls (16 * length all + 4) (specs_plain specs all ts at x b)
    specs_plain-falls x true = omega arith
    specs_plain-falls x false = specs_done-falls all

    specs_word-falls : (x : Word) → Falls (16 * length all + 4) (specs_word specs all ts at x)
    specs_word-falls w.Struct = heavier (16 * length all) (16 * length all + 4) (structure_spec specs at ts) (structure_spec-falls specs (length all) at ts h) (omega arith)
    specs_word-falls w.Enum = heavier (16 * length all) (16 * length all + 4) (enumeration_spec specs at ts) (enumeration_spec-falls specs (length all) at ts h) (omega arith)
    specs_word-falls w.Attribute = attr_spec-falls all
    specs_word-falls x = specs_plain-falls x (is_spec_word x)

    specs_name-falls : (x : Name) (b : Bool) → Falls (16 * length all + 4) (specs_name specs all ts at x b)
    specs_name-falls x true = omega arith
    specs_name-falls x false = specs_done-falls all

    specs_at-falls : (scope : Scope) (k : Kind) → Falls (16 * length all + 4) (specs_at scope specs all ts at k)
    specs_at-falls scope (kind.Keyword x) = specs_word-falls x
    specs_at-falls scope (kind.Ident x) = specs_name-falls x (is_typedef scope x)
    specs_at-falls scope k = specs_done-falls all

  pub specifiers-falls : (scope : Scope) (ts : Tokens) → Falls (16 * length ts + 4) (specifiers scope specs ts)
  unfolding specifiers
  specifiers-falls scope [] = specs_done-falls []
  specifiers-falls scope (t ∷ ts) = specs_at-falls (t ∷ ts) ts t.at (omega arith) scope t.kind

-- members

close_structure-falls : (s : Structure) (all ts : Tokens) (b : Bool) → length ts < length all → Falls (16 * length all + 7) (close_structure s all ts b)
close_structure-falls s all ts true h = tt
close_structure-falls s all ts false h = ok_bind (attrs ts) (λ a. behind_spec s.outer s.at (spec.Struct s.tag (Some s.members) s.attrs a.0) s.height a.1) (λ a. length a.1 ≤ length ts) (λ t. weight t < 16 * length all + 7)
    (attrs-fewer ts) (λ a k. omega arith)

structure_by-falls : (s : Structure) (all : Tokens) (r : Option Tokens) → IfSome r (λ us. length us < length all) → Falls (16 * length all + 7) (structure_by s all r)
structure_by-falls s all None h = omega arith
structure_by-falls s all (Some us) h = close_structure-falls s all us (no_member s.members) h

pub structure-falls : (s : Structure) (ts : Tokens) → Falls (16 * length ts + 7) (structure s ts)
unfolding structure
structure-falls s ts = structure_by-falls s ts (after m.RBrace ts) (after-fewer m.RBrace ts (length ts) (omega arith))

members_at-falls : (d : Members) (ts : Tokens) (r : Option Tokens) → IfSome r (λ us. length us < length ts) → Falls (16 * length ts + 2) (members_at d ts r)
members_at-falls d ts (Some us) h = omega arith
members_at-falls d ts None h = eat-fewer m.Semi ts (λ us. on (control.Structure (with_members d)) us) (length ts) (λ t. weight t < 16 * length ts + 2) (omega arith) (λ us g. omega arith)

pub member_declr-falls : (d : Members) (e : Tall (At Declr)) (ts : Tokens) (b : Bool) → Falls (16 * length ts + 2) (member_declr d e ts b)
member_declr-falls d e ts true = members_at-falls (with_declr d e) ts (after m.Comma ts) (after-fewer m.Comma ts (length ts) (omega arith))
member_declr-falls d e ts false = tt

-- enumeration constants

enumr_at-falls : (e : Enumeration) (at n : ℕ) (x : Name) (ts : Tokens) (r : Option Tokens) → length ts < n → IfSome r (λ us. length us < n) → Falls (16 * n) (enumr_at e at x ts r)
enumr_at-falls e at n x ts (Some us) h k = omega arith
enumr_at-falls e at n x ts None h k = omega arith

enumr_name-falls : (e : Enumeration) (all ts : Tokens) (x : Name) (b : Bool) → length ts < length all → Falls (16 * length all) (enumr_name e all ts x b)
enumr_name-falls e all ts x true h = tt
enumr_name-falls e all ts x false h = enumr_at-falls e (offset all) (length all) x ts (after m.Assign ts) h (after-fewer m.Assign ts (length all) (omega arith))

pub enumr-falls : (scope : Scope) (e : Enumeration) (ts : Tokens) → Falls (16 * length ts) (enumr scope e ts)
unfolding enumr
enumr-falls scope e ts = name-fewer ts (λ x. enumr_name e ts x.1 x.0 (is_typedef scope x.0)) (length ts) (λ t. weight t < 16 * length ts) (omega arith) (λ x us h. enumr_name-falls e ts us x (is_typedef scope x) h)

close_enumeration-falls : (e : Enumeration) (ts : Tokens) (n : ℕ) → length ts ≤ n → Falls (16 * n) (close_enumeration e ts)
close_enumeration-falls e ts n h = eat-fewer m.RBrace ts (λ us. behind_spec e.outer e.at (spec.Enum e.tag (Some e.enumrs)) e.height us) n (λ t. weight t < 16 * n) h (λ us g. omega arith)

behind_comma-falls : (e : Enumeration) (ts : Tokens) (n : ℕ) (b : Bool) → length ts < n → Falls (16 * n) (behind_comma e ts b)
behind_comma-falls e ts n true h = close_enumeration-falls e ts n (omega arith)
behind_comma-falls e ts n false h = omega arith

enumeration_by-falls : (e : Enumeration) (ts : Tokens) (r : Option Tokens) → IfSome r (λ us. length us < length ts) → Falls (16 * length ts) (enumeration_by e ts r)
enumeration_by-falls e ts None h = close_enumeration-falls e ts (length ts) (omega arith)
enumeration_by-falls e ts (Some us) h = behind_comma-falls e us (length ts) (begins_with m.RBrace us) h

pub enumeration-falls : (e : Enumeration) (ts : Tokens) → Falls (16 * length ts) (enumeration e ts)
unfolding enumeration
enumeration-falls e ts = enumeration_by-falls e ts (after m.Comma ts) (after-fewer m.Comma ts (length ts) (omega arith))

-- declarators

module _ (all ts : Tokens) (at : ℕ) (h : length ts < length all) where
  declr_name-falls : (x : Name) (b : Bool) → Falls (16 * length all + 2) (declr_name all ts at x b)
  declr_name-falls x true = omega arith
  declr_name-falls x false = omega arith

  declr_paren-falls : (b : Bool) → Falls (16 * length all + 2) (declr_paren all ts at b)
  declr_paren-falls true = omega arith
  declr_paren-falls false = omega arith

  declr_mark-falls : (scope : Scope) (o : Mark) → Falls (16 * length all + 2) (declr_mark scope all ts at o)
  declr_mark-falls scope m.Star = omega (arith, qualifiers-fewer ts)
  declr_mark-falls scope m.LParen = declr_paren-falls (begins_with m.RParen ts || begins_spec scope ts)
  declr_mark-falls scope o = omega arith

  declr_at-falls : (scope : Scope) (k : Kind) → Falls (16 * length all + 2) (declr_at scope all ts at k)
  declr_at-falls scope (kind.Ident x) = declr_name-falls x (is_typedef scope x)
  declr_at-falls scope (kind.Punct o) = declr_mark-falls scope o
  declr_at-falls scope k = omega arith

pub declarator-falls : (scope : Scope) (ts : Tokens) → Falls (16 * length ts + 2) (declarator scope ts)
unfolding declarator
declarator-falls scope [] = omega arith
declarator-falls scope (t ∷ ts) = declr_at-falls (t ∷ ts) ts t.at (omega arith) scope t.kind

module _ (d : Tall (At Declr)) where
  array-falls : (ts : Tokens) (r : Option Tokens) (n : ℕ) → length ts < n → IfSome r (λ us. length us < n) → Falls (16 * n + 1) (array d ts r)
  array-falls ts (Some us) n h k = omega arith
  array-falls ts None n h k = omega arith

  function-falls : (ts : Tokens) (r : Option Tokens) (n : ℕ) → length ts < n → IfSome r (λ us. length us < n) → Falls (16 * n + 1) (function d ts r)
  function-falls ts (Some us) n h k = omega arith
  function-falls ts None n h k = omega arith

  suffix_by-falls : (all ts : Tokens) (o : Mark) → length ts < length all → Falls (16 * length all + 1) (suffix_by d all ts o)
  suffix_by-falls all ts m.LBracket h = array-falls ts (after m.RBracket ts) (length all) h (after-fewer m.RBracket ts (length all) (omega arith))
  suffix_by-falls all ts m.LParen h = function-falls ts (after m.RParen ts) (length all) h (after-fewer m.RParen ts (length all) (omega arith))
  suffix_by-falls all ts o h = omega arith

  suffix_at-falls : (all : Tokens) (r : Option (Mark × Tokens)) → IfSome r (λ o. length o.1 < length all) → Falls (16 * length all + 1) (suffix_at d all r)
  suffix_at-falls all None h = omega arith
  suffix_at-falls all (Some o) h = suffix_by-falls all o.1 o.0 h

  pub suffix-falls : (ts : Tokens) → Falls (16 * length ts + 1) (suffix d ts)
  unfolding suffix
  suffix-falls ts = suffix_at-falls ts (first_mark ts) (first_mark-fewer ts)

-- what waits for a declarator gets it

param_at-falls : (f : Function) (ts : Tokens) (r : Option Tokens) → IfSome r (λ us. length us < length ts) → Falls (16 * length ts + 2) (param_at f ts r)
param_at-falls f ts (Some us) h = omega arith
param_at-falls f ts None h = eat-fewer m.RParen ts (λ us. on (control.Suffix (made f.declr.at (declr.Func f.declr (params_of f.params)) (suc f.height))) us) (length ts) (λ t. weight t < 16 * length ts + 2) (omega arith) (λ us g. omega arith)

pub param-falls : (f : Function) (n : ℕ) (specs : Specs) (d : Tall (At Declr)) (ts : Tokens) → Falls (16 * length ts + 2) (param f n specs d ts)
param-falls f n specs d ts = param_at-falls (with_param f n specs d) ts (after m.Comma ts) (after-fewer m.Comma ts (length ts) (omega arith))

pub paren_declr-falls : (n : ℕ) (d : Tall (At Declr)) (ts : Tokens) (b : Bool) → Falls (16 * length ts + 2) (paren_declr n d ts b)
paren_declr-falls n d ts true = tt
paren_declr-falls n d ts false = eat-fewer m.RParen ts (λ us. on (control.Suffix (made n (declr.Paren d.node) (suc d.height))) us) (length ts) (λ t. weight t < 16 * length ts + 2) (omega arith) (λ us g. omega arith)

use_type-falls : (u : Use) (at n : ℕ) (t : Tall TypeName) (ts : Tokens) → length ts < n → Falls (16 * n + 2) (use_type u at t ts)
use_type-falls used.Cast at n t ts h = omega arith
use_type-falls used.SizeOf at n t ts h = omega arith

pub close_type-falls : (u : Use) (n : ℕ) (specs : Specs) (d : Tall (At Declr)) (ts : Tokens) (b : Bool) → Falls (16 * length ts + 2) (close_type u n specs d ts b)
close_type-falls u n specs d ts true = tt
close_type-falls u n specs d ts false = eat-fewer m.RParen ts (λ us. use_type u n (tall (record { specs = specs.node; declr = d.node }) (max specs.height d.height)) us) (length ts) (λ t. weight t < 16 * length ts + 2) (omega arith)
    (λ us g. use_type-falls u n (length ts) (tall (record { specs = specs.node; declr = d.node }) (max specs.height d.height)) us g)
