-- The turns on specifiers, declarators and type names keep the parser's state one of an unfinished sentence.
use Rattle.std.proofs.Common.{◌≡◌, ◌≤◌, ℕ, suc, Bool, true, false, ◌&&◌, ◌||◌, is_some, List, [], ◌∷◌, ◌++◌, Option, Some, None, IfSome, refl, ap, sym, ◌∙◌, subst, max, arith}
use Rattle.std.proofs.lemmas.Bool.{and_parts}
use Rattle.cc_lex.specs.declared.token.Kind.{Kind}
use Rattle.cc_lex.specs.declared.token.Kind.TheVariants as kind
use Rattle.cc_lex.specs.declared.token.Mark.{Mark}
use Rattle.cc_lex.specs.declared.token.Mark.TheVariants as m
use Rattle.cc_words.specs.declared.word.Word.{Word}
use Rattle.cc_words.specs.declared.word.Word.TheVariants as w
use Rattle.cc_tree.specs.declared.at.At.{At}
use Rattle.cc_tree.specs.declared.state.Control.TheVariants as control
use Rattle.cc_tree.specs.declared.state.DeclrFrame.TheVariants as for_declr
use Rattle.cc_tree.specs.declared.state.Enumeration.{Enumeration}
use Rattle.cc_tree.specs.declared.state.Frame.{Frame}
use Rattle.cc_tree.specs.declared.state.Frame.TheVariants as frame
use Rattle.cc_tree.specs.declared.state.Function.{Function}
use Rattle.cc_tree.specs.declared.state.Members.{Members}
use Rattle.cc_tree.specs.declared.state.PartFrame.TheVariants as for_part
use Rattle.cc_tree.specs.declared.state.SpecsFrame.TheVariants as for_specs
use Rattle.cc_tree.specs.declared.state.Structure.{Structure}
use Rattle.cc_tree.specs.declared.state.Tall.{Tall}
use Rattle.cc_tree.specs.declared.state.TreeFrame.TheVariants as for_tree
use Rattle.cc_tree.specs.declared.state.Use.{Use}
use Rattle.cc_tree.specs.declared.tree.Attr.{Attr}
use Rattle.cc_tree.specs.declared.tree.Declr as declr
use Rattle.cc_tree.specs.declared.tree.Declr.{Declr}
use Rattle.cc_tree.specs.declared.tree.MemberDecl.{MemberDecl}
use Rattle.cc_tree.specs.declared.tree.Param.{Param}
use Rattle.cc_tree.specs.declared.tree.Params as params
use Rattle.cc_tree.specs.declared.tree.Params.{Params}
use Rattle.cc_tree.specs.declared.tree.Spec as spec
use Rattle.cc_tree.specs.declared.tree.Spec.{Spec}
use Rattle.cc_tree.specs.declared.tree.Tree as tree
use Rattle.cc_tree.specs.declared.tree.Tree.{Tree}
use Rattle.cc_tree.specs.declared.tree.TypeName.{TypeName}
use Rattle.cc_tree.specs.Height.{heights, height_of_declr, height_of_spec, height_of_params, height_of_param, height_of_member, height_of_enumr, specs_height, maybe_height}
use Rattle.cc_tree.specs.Operators.{cast_level, unary_level, conditional_level}
use Rattle.cc_tree.specs.Reading.{after, first_mark, name, begins_with}
use Rattle.cc_tree.specs.ReadTypes.{begins_spec, attr, attrs, qualifiers, tag}
use Rattle.cc_tree.specs.Scopes.{Scope, is_typedef, name_of}
use Rattle.cc_tree.specs.Terms.{is_spec_word, have_word, is_nothing, is_only_void, IsAttrs, NoAttr, MoreAttrs, IsTag, NoTag, ATag, IsAttr, IsLastComma, NoComma, AComma, ATypeName, ASizeOfType, IsSpecs, Specs, IsSpecList, NoSpec, MoreSpecs, IsSpec, AWord, ATypedefName, AnAttr, AStructure, ANamedStructure, AnEnumeration, ANamedEnumeration, IsMembers, FirstMember, MoreMembers, IsMember, AMemberDecl, IsDeclrs, FirstDeclr, MoreDeclrs, IsEnumrs, FirstEnumr, MoreEnumrs, IsEnumr, AnEnumr, AValuedEnumr, IsDeclr, NoName, DeclaredName, DeclrInParens, APointer, AnArray, AnOpenArray, AFunction, IsParams, NoParams, ManyParams, IsParamList, FirstParam, MoreParams, AParam}
use Rattle.cc_tree.specs.Tokens.{Tokens, Name, Span, mark, word, ident, at, offset}
use Rattle.cc_tree.specs.Turns.{on, made, tall}
use Rattle.cc_tree.specs.TurnLines.{give_specs, give_declr, give_part}
use Rattle.cc_tree.specs.TurnTypes.{attrs_apart, Specs as SpecsRead, behind_spec, named_structure, structure_at, structure_spec, named_enumeration, enumeration_at, attr_spec, end_specs, specs_done, specs_plain, specs_word, specs_name, specs_at, specifiers, no_member, close_structure, structure_by, structure, open_members, with_declr, with_members, members_at, member_declr, with_enumr, enumr_at, enumr_name, enumr, close_enumeration, behind_comma, enumeration_by, enumeration, no_name, declr_name, declr_paren, declr_mark, declr_at, declarator, around, array, function, suffix_by, suffix_at, suffix, params_by, params_of, with_param, param_at, param, paren_declr, use_type, close_type}
use Rattle.cc_tree.proofs.Apart.{tested-apart}
use Rattle.cc_tree.proofs.HeightSteps.{heights-behind, height-SizeOfType, height_of_declr-Nothing, height_of_declr-Named, height_of_declr-Paren, height_of_declr-Pointer, height_of_declr-Func, height_of_declr-Array, height_of_declr-OpenArray, height_of_params-Empty, height_of_params-Void, height_of_params-Many, height_of_spec-Word, height_of_spec-Named, height_of_spec-Attr, height_of_spec-Struct, height_of_spec-NamedStruct, height_of_spec-Enum, height_of_spec-NamedEnum, height_of_type-TypeName, height_of_param-Param, height_of_member-MemberDecl, height_of_enumr-Enumr}
use Rattle.cc_tree.proofs.Inside.{ATree, SomeSpecs, TheSpecs, ADeclr, AType, NeedTree, NeedSpecs, NeedDeclr, Inside, InCast, InTypeSpecs, InTypeDeclr, InDeclrParen, InPointer, InBound, InParamSpecs, InParamDeclr, InMemberSpecs, InMemberDeclr, InEnumr, InUse, ForCast, ForSizeOf, InFunction, FirstOne, OneMore, InStructure, NoneYet, SomeMembers, InMembers, FirstName, NextName, InEnumeration, FirstConstant, NextConstant, Good, GoodExpr, GoodTree, GoodSpecs, GoodHaveSpecs, GoodStructure, GoodEnumr, GoodEnumeration, GoodDeclr, GoodSuffix, GoodHaveDeclr, GoodTurn}
use Rattle.cc_tree.proofs.ReadingBasics.{ok_bind}
use Rattle.cc_tree.proofs.SoundParts.{looser, declr_from, indirect_declr}
use Rattle.cc_tree.proofs.SoundVoid.{only_void-sound}
use Rattle.cc_tree.proofs.SoundTokens.{after_from, eat_from, name_from, FirstMark, first_mark_from, qualifiers-sound, attr-sound, attr_word_first, attrs-sound, tag-sound}

-- specifiers

pub no_specs : (scope : Scope) (ts : Tokens) → SomeSpecs scope (tall [] 0) ts ts
no_specs scope ts = record { spelled = NoSpec scope ts; high = refl }

module _ (all : Tokens) (scope : Scope) (fs : List Frame) (ts : Tokens) (i : Inside all scope fs NeedSpecs ts) where
  behind_spec-good : (specs : List (At Spec)) (n h : ℕ) (x : Spec) (us vs : Tokens) → IsSpecList scope specs ts us → IsSpec scope (record { at = n; node = x }) us vs →
      h ≡ max (specs_height specs) (height_of_spec x) → GoodTurn all scope fs (behind_spec specs n x h vs)
  behind_spec-good specs n h x us vs s t k = GoodSpecs scope fs (tall (specs ++ record { at = n; node = x } ∷ []) h) ts vs i
      (record { spelled = MoreSpecs scope specs (record { at = n; node = x }) ts us vs s t; high = omega (arith, heights-behind height_of_spec specs (record { at = n; node = x })) })

  module _ (specs : SpecsRead) where
    -- a specifier that is no higher than 0
    flat_spec-good : (n : ℕ) (x : Spec) (us vs : Tokens) → SomeSpecs scope specs ts us → IsSpec scope (record { at = n; node = x }) us vs → height_of_spec x ≡ 0 → GoodTurn all scope fs (behind_spec specs.node n x specs.height vs)
    flat_spec-good n x us vs s t k = behind_spec-good specs.node n specs.height x us vs s.spelled t (omega (arith, s.high))

    named_structure-good : (s : Span) (x : Option Name) (a : List (At Attr)) (us vs ws : Tokens) → SomeSpecs scope specs ts (word w.Struct s ∷ us) → IsAttrs a us vs → IsTag x vs ws →
        GoodTurn all scope fs (named_structure specs s.0 x a ws)
    named_structure-good s x a us vs ws t (NoAttr zs) (ATag y p xs) = flat_spec-good s.0 (spec.Struct (Some y) None [] []) (word w.Struct s ∷ ident y p ∷ xs) xs t (ANamedStructure scope y s p xs) (height_of_spec-NamedStruct (Some y) [] [])
    named_structure-good s x a us vs ws t (NoAttr zs) (NoTag xs) = tt
    named_structure-good s x a us vs ws t (MoreAttrs b more bs cs ds g h) (ATag y p xs) = tt
    named_structure-good s x a us vs ws t (MoreAttrs b more bs cs ds g h) (NoTag xs) = tt

    structure_at-good : (s : Span) (x : Option Name) (a : List (At Attr)) (us vs ws : Tokens) → SomeSpecs scope specs ts (word w.Struct s ∷ us) → IsAttrs a us vs → IsTag x vs ws → (r : Option Tokens) →
        IfSome r (λ xs. (q : Span) × IsTag x vs (mark m.LBrace q ∷ xs)) → GoodTurn all scope fs (structure_at specs s.0 x a ws r)
    structure_at-good s x a us vs ws t g h (Some xs) l = let st : Structure = record { outer = specs.node; at = s.0; tag = x; attrs = a; members = []; height = specs.height } in
        GoodStructure scope fs st xs (NoneYet scope fs st s l.0 ts us vs xs i t.spelled g l.1 refl refl t.high)
    structure_at-good s x a us vs ws t g h None l = named_structure-good s x a us vs ws t g h

    structure_spec-good : (s : Span) (us : Tokens) → SomeSpecs scope specs ts (word w.Struct s ∷ us) → GoodTurn all scope fs (structure_spec specs s.0 us)
    structure_spec-good s us t = ok_bind (attrs us) (λ a. structure_at specs s.0 (tag a.1).0 a.0 (tag a.1).1 (after m.LBrace (tag a.1).1)) (λ a. IsAttrs a.0 us a.1) _ (attrs-sound us)
        (λ a h. structure_at-good s (tag a.1).0 a.0 us a.1 (tag a.1).1 t h (tag-sound a.1) (after m.LBrace (tag a.1).1) (after_from m.LBrace (tag a.1).1 (IsTag (tag a.1).0 a.1) (tag-sound a.1)))

    named_enumeration-good : (s : Span) (x : Option Name) (us vs : Tokens) → SomeSpecs scope specs ts (word w.Enum s ∷ us) → IsTag x us vs → GoodTurn all scope fs (named_enumeration specs s.0 x vs)
    named_enumeration-good s x us vs t (ATag y p xs) = flat_spec-good s.0 (spec.Enum (Some y) None) (word w.Enum s ∷ ident y p ∷ xs) xs t (ANamedEnumeration scope y s p xs) (height_of_spec-NamedEnum (Some y))
    named_enumeration-good s x us vs t (NoTag xs) = tt

    enumeration_at-good : (s : Span) (x : Option Name) (us vs : Tokens) → SomeSpecs scope specs ts (word w.Enum s ∷ us) → IsTag x us vs → (r : Option Tokens) →
        IfSome r (λ xs. (q : Span) × IsTag x us (mark m.LBrace q ∷ xs)) → GoodTurn all scope fs (enumeration_at specs s.0 x vs r)
    enumeration_at-good s x us vs t h (Some xs) l = let e : Enumeration = record { outer = specs.node; at = s.0; tag = x; enumrs = []; height = specs.height } in
        GoodEnumr scope fs e xs (FirstConstant scope fs e s l.0 ts us xs i t.spelled l.1 refl refl t.high)
    enumeration_at-good s x us vs t h None l = named_enumeration-good s x us vs t h

    attr_spec-good : (s : Span) (us : Tokens) → SomeSpecs scope specs ts (word w.Attribute s ∷ us) → GoodTurn all scope fs (attr_spec specs (word w.Attribute s ∷ us))
    attr_spec-good s us t = ok_bind (attr (word w.Attribute s ∷ us)) (λ a. behind_spec specs.node a.0.at (spec.Attr a.0.node) specs.height a.1) (λ a. IsAttr a.0 (word w.Attribute s ∷ us) a.1) _
        (attr-sound (word w.Attribute s ∷ us) (attr_word_first s us))
        (λ a h. flat_spec-good a.0.at (spec.Attr a.0.node) (word w.Attribute s ∷ us) a.1 t (AnAttr scope a.0 (word w.Attribute s ∷ us) a.1 h) (height_of_spec-Attr a.0.node))

    specs_done-good : (us : Tokens) → SomeSpecs scope specs ts us → GoodTurn all scope fs (specs_done specs us)
    specs_done-good us t = ended (have_word specs.node && attrs_apart false specs.node) refl
      where
        ended : (b : Bool) → have_word specs.node && attrs_apart false specs.node ≡ b → GoodTurn all scope fs (end_specs specs us b)
        ended true e = let a = and_parts (have_word specs.node) (attrs_apart false specs.node) e in
            GoodHaveSpecs scope fs specs ts us i (record { spelled = Specs scope specs.node ts us t.spelled a.0 (tested-apart specs.node a.1); high = t.high })
        ended false e = tt

    specs_plain-good : (x : Word) (s : Span) (us : Tokens) → SomeSpecs scope specs ts (word x s ∷ us) → (b : Bool) → is_spec_word x ≡ b → GoodTurn all scope fs (specs_plain specs (word x s ∷ us) us s.0 x b)
    specs_plain-good x s us t true e = flat_spec-good s.0 (spec.Word x) (word x s ∷ us) us t (AWord scope x s us e) (height_of_spec-Word x)
    specs_plain-good x s us t false e = specs_done-good (word x s ∷ us) t

    specs_word-good : (x : Word) (s : Span) (us : Tokens) → SomeSpecs scope specs ts (word x s ∷ us) → GoodTurn all scope fs (specs_word specs (word x s ∷ us) us s.0 x)
    specs_word-good w.Struct s us t = structure_spec-good s us t
    specs_word-good w.Enum s us t = enumeration_at-good s (tag us).0 us (tag us).1 t (tag-sound us) (after m.LBrace (tag us).1) (after_from m.LBrace (tag us).1 (IsTag (tag us).0 us) (tag-sound us))
    specs_word-good w.Attribute s us t = attr_spec-good s us t
    specs_word-good x s us t = specs_plain-good x s us t (is_spec_word x) refl

    specs_name-good : (x : Name) (s : Span) (us : Tokens) → SomeSpecs scope specs ts (ident x s ∷ us) → (b : Bool) → is_typedef scope x ≡ b → GoodTurn all scope fs (specs_name specs (ident x s ∷ us) us s.0 x b)
    specs_name-good x s us t true e = flat_spec-good s.0 (spec.Named x) (ident x s ∷ us) us t (ATypedefName scope x s us e) (height_of_spec-Named x)
    specs_name-good x s us t false e = specs_done-good (ident x s ∷ us) t

    specs_at-good : (n len : ℕ) (k : Kind) (us : Tokens) → SomeSpecs scope specs ts (record { at = n; len = len; kind = k } ∷ us) →
        GoodTurn all scope fs (specs_at scope specs (record { at = n; len = len; kind = k } ∷ us) us n k)
    specs_at-good n len (kind.Keyword x) us t = specs_word-good x (n, len) us t
    specs_at-good n len (kind.Ident x) us t = specs_name-good x (n, len) us t (is_typedef scope x) refl
    specs_at-good n len k us t = specs_done-good (record { at = n; len = len; kind = k } ∷ us) t

    pub specifiers-good : (us : Tokens) → SomeSpecs scope specs ts us → GoodTurn all scope fs (specifiers scope specs us)
    unfolding specifiers
    specifiers-good [] t = specs_done-good [] t
    specifiers-good (u ∷ us) t = specs_at-good u.at u.len u.kind us t

-- members of a structure

module _ (all : Tokens) (scope : Scope) (fs : List Frame) where
  -- the brace that closes a structure with members
  close_structure-good : (s : Structure) (q : Span) (us vs : Tokens) → no_member s.members ≡ false → InStructure all scope fs s (mark m.RBrace q ∷ vs) → GoodTurn all scope fs (close_structure s us vs false)
  close_structure-good s q us vs n (NoneYet sc gs st p o ts t1 t2 t3 i l a x e none h) = let c : true ≡ false = sym (ap no_member none) ∙ n in cc
  close_structure-good s q us vs n (SomeMembers sc gs st p o ts t1 t2 t3 t4 i l a x e ms h) = ok_bind (attrs vs) (λ b. behind_spec s.outer s.at (spec.Struct s.tag (Some s.members) s.attrs b.0) s.height b.1) (λ b. IsAttrs b.0 vs b.1) _ (attrs-sound vs)
      (λ b k. behind_spec-good all scope fs ts i s.outer s.at s.height (spec.Struct s.tag (Some s.members) s.attrs b.0) (word w.Struct p ∷ t1) b.1 l
      (subst (λ n. IsSpec scope (record { at = n; node = spec.Struct s.tag (Some s.members) s.attrs b.0 }) (word w.Struct p ∷ t1) b.1) (sym e)
      (AStructure scope s.tag s.members s.attrs b.0 p o q t1 t2 t3 vs b.1 a x ms k))
      (omega (arith, height_of_spec-Struct s.tag s.members s.attrs b.0)))

  pub structure-good : (s : Structure) (us : Tokens) → InStructure all scope fs s us → GoodTurn all scope fs (structure s us)
  unfolding structure
  structure-good s us i = by (after m.RBrace us) (after_from m.RBrace us (InStructure all scope fs s) i)
    where
      by : (r : Option Tokens) → IfSome r (λ vs. (q : Span) × InStructure all scope fs s (mark m.RBrace q ∷ vs)) → GoodTurn all scope fs (structure_by s us r)
      by None h = GoodSpecs scope (frame.Specs (for_specs.Member s (offset us)) ∷ fs) (tall [] 0) us us (InMemberSpecs scope fs s us i) (no_specs scope us)
      by (Some vs) h = closed (no_member s.members) refl
        where
          closed : (b : Bool) → no_member s.members ≡ b → GoodTurn all scope fs (close_structure s us vs b)
          closed true n = tt
          closed false n = close_structure-good s h.0 us vs n h.1

  -- a structure with a member more
  one_member_more : {st : Structure} {ts : Tokens} (d : At MemberDecl) (h : ℕ) (us : Tokens) → InStructure all scope fs st ts → IsMember scope d ts us → h ≡ max st.height (height_of_member d.node) →
      InStructure all scope fs (record { outer = st.outer; at = st.at; tag = st.tag; attrs = st.attrs; members = st.members ++ d ∷ []; height = h }) us
  one_member_more d h us (NoneYet sc gs st p q t0 t1 t2 t3 i l a x e none k) t k2 =
      let z : heights height_of_member st.members ≡ 0 = ap (heights height_of_member) none in
      SomeMembers scope fs (record { outer = st.outer; at = st.at; tag = st.tag; attrs = st.attrs; members = st.members ++ d ∷ []; height = h }) p q t0 t1 t2 t3 us i l a x e
      (subst (λ ms. IsMembers scope (ms ++ d ∷ []) t3 us) (sym none) (FirstMember scope d t3 us t)) (omega (arith, heights-behind height_of_member st.members d))
  one_member_more d h us (SomeMembers sc gs st p q t0 t1 t2 t3 t4 i l a x e ms k) t k2 =
      SomeMembers scope fs (record { outer = st.outer; at = st.at; tag = st.tag; attrs = st.attrs; members = st.members ++ d ∷ []; height = h }) p q t0 t1 t2 t3 us i l a x e
      (MoreMembers scope st.members d t3 t4 us ms t) (omega (arith, heights-behind height_of_member st.members d))

  -- the declarators of members
  members_at-good : (d : Members) (us : Tokens) (t0 t1 : Tokens) → InStructure all scope fs d.structure t0 → IsSpecs scope d.specs t0 t1 → d.at ≡ offset t0 → IsDeclrs scope d.declrs t1 us →
      d.height ≡ max (max d.structure.height (specs_height d.specs)) (heights height_of_declr d.declrs) → (r : Option Tokens) → IfSome r (λ vs. (c : Span) × IsDeclrs scope d.declrs t1 (mark m.Comma c ∷ vs)) →
      GoodTurn all scope fs (members_at d us r)
  members_at-good d us t0 t1 i s n ds h (Some vs) g = GoodDeclr scope (frame.Declr (for_declr.Member d) ∷ fs) vs (InMemberDeclr scope fs d vs (NextName scope fs d g.0 t0 t1 vs i s n g.1 h))
  members_at-good d us t0 t1 i s n ds h None g = eat_from m.Semi us (λ us. on (control.Structure (with_members d)) us) (IsDeclrs scope d.declrs t1) _ ds
      (λ q vs ds. GoodStructure scope fs (with_members d) vs (one_member_more (record { at = d.at; node = record { specs = d.specs; declrs = d.declrs } }) d.height vs i
      (subst (λ k. IsMember scope (record { at = k; node = record { specs = d.specs; declrs = d.declrs } }) t0 vs) (sym n) (AMemberDecl scope d.specs d.declrs q t0 t1 vs s ds))
      (omega (arith, height_of_member-MemberDecl d.specs d.declrs))))

  one_declr_more : (d : Members) (e : Tall (At Declr)) (us t0 t1 : Tokens) → InStructure all scope fs d.structure t0 → IsSpecs scope d.specs t0 t1 → d.at ≡ offset t0 → IsDeclrs scope (d.declrs ++ e.node ∷ []) t1 us →
      d.height ≡ max (max d.structure.height (specs_height d.specs)) (heights height_of_declr d.declrs) → e.height ≡ height_of_declr e.node.node → GoodTurn all scope fs (members_at (with_declr d e) us (after m.Comma us))
  one_declr_more d e us t0 t1 i s n ds h k = members_at-good (with_declr d e) us t0 t1 i s n ds (omega (arith, heights-behind height_of_declr d.declrs e.node)) (after m.Comma us)
      (after_from m.Comma us (IsDeclrs scope (d.declrs ++ e.node ∷ []) t1) ds)

  with_name-good : {d : Members} {ts : Tokens} (e : Tall (At Declr)) (us : Tokens) (x : Name) → InMembers all scope fs d ts → ADeclr scope false e ts us → name_of e.node.node ≡ Some x →
      GoodTurn all scope fs (members_at (with_declr d e) us (after m.Comma us))
  with_name-good e us x (FirstName sc gs d t0 t1 i s n none h) t name = let z : heights height_of_declr d.declrs ≡ 0 = ap (heights height_of_declr) none in
      one_declr_more d e us t0 t1 i s n (subst (λ ds. IsDeclrs scope (ds ++ e.node ∷ []) t1 us) (sym none) (FirstDeclr scope e.node x t1 us t.spelled name)) (omega arith) t.high
  with_name-good e us x (NextName sc gs d c t0 t1 t2 i s n ds h) t name = one_declr_more d e us t0 t1 i s n (MoreDeclrs scope d.declrs e.node x c t1 t2 us ds t.spelled name) h t.high

  member_declr-good : (d : Members) (e : Tall (At Declr)) (ts us : Tokens) → InMembers all scope fs d ts → ADeclr scope false e ts us → GoodTurn all scope fs (member_declr d e us (is_some (name_of e.node.node)))
  member_declr-good d e ts us i t = by (name_of e.node.node) refl
    where
      by : (x : Option Name) → name_of e.node.node ≡ x → GoodTurn all scope fs (member_declr d e us (is_some x))
      by None h = tt
      by (Some x) h = with_name-good e us x i t h

-- enumerations

module _ (all : Tokens) (scope : Scope) (fs : List Frame) where
  -- the brace that closes an enumeration
  close_enumeration-good : (e : Enumeration) (p q : Span) (ts us vs ws xs : Tokens) → Inside all scope fs NeedSpecs ts → IsSpecList scope e.outer ts (word w.Enum p ∷ us) → IsTag e.tag us (mark m.LBrace q ∷ vs) →
      e.at ≡ p.0 → IsEnumrs scope e.enumrs vs ws → e.height ≡ max (specs_height e.outer) (heights height_of_enumr e.enumrs) → IsLastComma ws xs → GoodTurn all scope fs (close_enumeration e xs)
  close_enumeration-good e p q ts us vs ws xs i l x n es h c = eat_from m.RBrace xs (λ us. behind_spec e.outer e.at (spec.Enum e.tag (Some e.enumrs)) e.height us) (IsLastComma ws) _ c
      (λ r ys c. behind_spec-good all scope fs ts i e.outer e.at e.height (spec.Enum e.tag (Some e.enumrs)) (word w.Enum p ∷ us) ys l
      (subst (λ k. IsSpec scope (record { at = k; node = spec.Enum e.tag (Some e.enumrs) }) (word w.Enum p ∷ us) ys) (sym n) (AnEnumeration scope e.tag e.enumrs p q r us vs ws ys x es c))
      (omega (arith, height_of_spec-Enum e.tag e.enumrs)))

  pub enumeration-good : (e : Enumeration) (p q : Span) (ts us vs ws : Tokens) → Inside all scope fs NeedSpecs ts → IsSpecList scope e.outer ts (word w.Enum p ∷ us) → IsTag e.tag us (mark m.LBrace q ∷ vs) →
      e.at ≡ p.0 → IsEnumrs scope e.enumrs vs ws → e.height ≡ max (specs_height e.outer) (heights height_of_enumr e.enumrs) → GoodTurn all scope fs (enumeration e ws)
  unfolding enumeration
  enumeration-good e p q ts us vs ws i l x n es h = by (after m.Comma ws) (after_from m.Comma ws (IsEnumrs scope e.enumrs vs) es)
    where
      by : (r : Option Tokens) → IfSome r (λ xs. (c : Span) × IsEnumrs scope e.enumrs vs (mark m.Comma c ∷ xs)) → GoodTurn all scope fs (enumeration_by e ws r)
      by None g = close_enumeration-good e p q ts us vs ws ws i l x n es h (NoComma ws)
      by (Some xs) g = behind (begins_with m.RBrace xs)
        where
          behind : (b : Bool) → GoodTurn all scope fs (behind_comma e xs b)
          behind true = close_enumeration-good e p q ts us vs (mark m.Comma g.0 ∷ xs) xs i l x n g.1 h (AComma g.0 xs)
          behind false = GoodEnumr scope fs e xs (NextConstant scope fs e p q g.0 ts us vs xs i l x n g.1 h)

  -- an enumeration with a constant more
  one_constant_more : {e : Enumeration} {ts : Tokens} (n h : ℕ) (x : Name) (v : Option (At Tree)) (us : Tokens) → InEnumeration all scope fs e ts →
      IsEnumr scope (record { at = n; node = record { name = x; value = v } }) ts us → h ≡ maybe_height v → Good all scope fs (control.Enumeration (with_enumr e n x v h)) us
  one_constant_more n h x v us (FirstConstant sc gs e p q t0 t1 t2 i l y k none g) t j = let z : heights height_of_enumr e.enumrs ≡ 0 = ap (heights height_of_enumr) none in
      GoodEnumeration scope fs (with_enumr e n x v h) p q t0 t1 t2 us i l y k
      (subst (λ es. IsEnumrs scope (es ++ record { at = n; node = record { name = x; value = v } } ∷ []) t2 us) (sym none) (FirstEnumr scope (record { at = n; node = record { name = x; value = v } }) t2 us t))
      (omega (arith, heights-behind height_of_enumr e.enumrs (record { at = n; node = record { name = x; value = v } }), height_of_enumr-Enumr x v))
  one_constant_more n h x v us (NextConstant sc gs e p q c t0 t1 t2 t3 i l y k es g) t j = GoodEnumeration scope fs (with_enumr e n x v h) p q t0 t1 t2 us i l y k
      (MoreEnumrs scope e.enumrs (record { at = n; node = record { name = x; value = v } }) c t2 t3 us es t)
      (omega (arith, heights-behind height_of_enumr e.enumrs (record { at = n; node = record { name = x; value = v } }), height_of_enumr-Enumr x v))

  enumr_name-good : (e : Enumeration) (x : Name) (s : Span) (us : Tokens) → InEnumeration all scope fs e (ident x s ∷ us) → (b : Bool) → is_typedef scope x ≡ b → GoodTurn all scope fs (enumr_name e (ident x s ∷ us) us x b)
  enumr_name-good e x s us i true n = tt
  enumr_name-good e x s us i false n = by (after m.Assign us) (after_from m.Assign us (λ z. InEnumeration all scope fs e (ident x s ∷ z)) i)
    where
      by : (r : Option Tokens) → IfSome r (λ vs. (p : Span) × InEnumeration all scope fs e (ident x s ∷ mark m.Assign p ∷ vs)) → GoodTurn all scope fs (enumr_at e s.0 x us r)
      by None g = one_constant_more s.0 0 x None us i (AnEnumr scope x s us n) refl
      by (Some vs) g = GoodExpr scope (frame.Part (for_part.Enumr e s.0 x) ∷ fs) conditional_level vs (InEnumr scope fs e x s g.0 vs g.1 n) (omega arith)

  pub enumr-good : (e : Enumeration) (ts : Tokens) → InEnumeration all scope fs e ts → GoodTurn all scope fs (enumr scope e ts)
  unfolding enumr
  enumr-good e ts i = name_from ts (λ x. enumr_name e ts x.1 x.0 (is_typedef scope x.0)) (λ z. ts ≡ z) _ refl
      (λ x s us h. rw h (enumr_name-good e x s us (subst (InEnumeration all scope fs e) h i) (is_typedef scope x) refl))

-- declarators

module _ (all : Tokens) (scope : Scope) (fs : List Frame) where
  module _ (ts : Tokens) (i : Inside all scope fs NeedDeclr ts) where
    no_name-good : GoodTurn all scope fs (no_name ts)
    no_name-good = GoodSuffix scope fs (made (offset ts) declr.Nothing 0) ts ts i (record { spelled = NoName scope true ts; high = sym height_of_declr-Nothing })

  declr_name-good : (x : Name) (s : Span) (ts : Tokens) → Inside all scope fs NeedDeclr (ident x s ∷ ts) → (b : Bool) → is_typedef scope x ≡ b → GoodTurn all scope fs (declr_name (ident x s ∷ ts) ts s.0 x b)
  declr_name-good x s ts i true e = no_name-good (ident x s ∷ ts) i
  declr_name-good x s ts i false e = GoodSuffix scope fs (made s.0 (declr.Named x) 0) (ident x s ∷ ts) ts i (record { spelled = DeclaredName scope true x s ts e; high = sym (height_of_declr-Named x) })

  declr_paren-good : (p : Span) (ts : Tokens) → Inside all scope fs NeedDeclr (mark m.LParen p ∷ ts) → (b : Bool) → GoodTurn all scope fs (declr_paren (mark m.LParen p ∷ ts) ts p.0 b)
  declr_paren-good p ts i true = no_name-good (mark m.LParen p ∷ ts) i
  declr_paren-good p ts i false = GoodDeclr scope (frame.Declr (for_declr.Paren p.0) ∷ fs) ts (InDeclrParen scope fs p ts i)

  declr_mark-good : (o : Mark) (p : Span) (ts : Tokens) → Inside all scope fs NeedDeclr (mark o p ∷ ts) → GoodTurn all scope fs (declr_mark scope (mark o p ∷ ts) ts p.0 o)
  declr_mark-good m.Star p ts i = GoodDeclr scope (frame.Declr (for_declr.Pointer p.0 (qualifiers ts).0) ∷ fs) (qualifiers ts).1 (InPointer scope fs (qualifiers ts).0 p ts (qualifiers ts).1 i (qualifiers-sound ts))
  declr_mark-good m.LParen p ts i = declr_paren-good p ts i (begins_with m.RParen ts || begins_spec scope ts)
  declr_mark-good o p ts i = no_name-good (mark o p ∷ ts) i

  declr_at-good : (n len : ℕ) (k : Kind) (ts : Tokens) → Inside all scope fs NeedDeclr (record { at = n; len = len; kind = k } ∷ ts) → GoodTurn all scope fs (declr_at scope (record { at = n; len = len; kind = k } ∷ ts) ts n k)
  declr_at-good n len (kind.Ident x) ts i = declr_name-good x (n, len) ts i (is_typedef scope x) refl
  declr_at-good n len (kind.Punct o) ts i = declr_mark-good o (n, len) ts i
  declr_at-good n len k ts i = no_name-good (record { at = n; len = len; kind = k } ∷ ts) i

  pub declarator-good : (ts : Tokens) → Inside all scope fs NeedDeclr ts → GoodTurn all scope fs (declarator scope ts)
  unfolding declarator
  declarator-good [] i = no_name-good [] i
  declarator-good (t ∷ ts) i = declr_at-good t.at t.len t.kind ts i

  -- what stands behind a direct declarator
  module _ (d : Tall (At Declr)) (ts : Tokens) (i : Inside all scope fs NeedDeclr ts) where
    around-good : (node : Declr) (us vs : Tokens) → IsDeclr scope true d.node ts us → IsDeclr scope true (at ts node) ts vs → (n : ℕ) → suc n ≡ height_of_declr node → GoodTurn all scope fs (on (control.Suffix (around d node n)) vs)
    around-good node us vs s t n h = GoodSuffix scope fs (around d node n) ts vs i (record { spelled = declr_from node s t; high = h })

    array-good : (p : Span) (us : Tokens) → ADeclr scope true d ts (mark m.LBracket p ∷ us) → (r : Option Tokens) → IfSome r (λ vs. (q : Span) × ADeclr scope true d ts (mark m.LBracket p ∷ mark m.RBracket q ∷ vs)) →
        GoodTurn all scope fs (array d us r)
    array-good p us t None g = GoodExpr scope (frame.Part (for_part.Bound d) ∷ fs) conditional_level us (InBound scope fs d p ts us i t) (omega arith)
    array-good p us t (Some vs) g = around-good (declr.Array d.node None) (mark m.LBracket p ∷ us) vs t.spelled (AnOpenArray scope true d.node p g.0 ts vs g.1.spelled) d.height (omega (arith, height_of_declr-OpenArray d.node))

    function-good : (p : Span) (us : Tokens) → ADeclr scope true d ts (mark m.LParen p ∷ us) → (r : Option Tokens) → IfSome r (λ vs. (q : Span) × ADeclr scope true d ts (mark m.LParen p ∷ mark m.RParen q ∷ vs)) →
        GoodTurn all scope fs (function d us r)
    function-good p us t None g = let f : Function = record { declr = d.node; params = []; height = d.height } in
        GoodSpecs scope (frame.Specs (for_specs.Param f (offset us)) ∷ fs) (tall [] 0) us us (InParamSpecs scope fs f ts us (FirstOne scope fs f p ts us i t.spelled refl t.high)) (no_specs scope us)
    function-good p us t (Some vs) g = around-good (declr.Func d.node params.Empty) (mark m.LParen p ∷ us) vs t.spelled
        (AFunction scope true d.node params.Empty p g.0 ts (mark m.RParen g.0 ∷ vs) vs g.1.spelled (NoParams scope (mark m.RParen g.0 ∷ vs))) d.height
        (omega (arith, height_of_declr-Func d.node params.Empty, height_of_params-Empty))

    have_declr : (us : Tokens) → ADeclr scope true d ts us → GoodTurn all scope fs (on (control.HaveDeclr d) us)
    have_declr us t = GoodHaveDeclr scope fs d ts us i (indirect_declr t)

    suffix_by-good : (o : Mark) (p : Span) (us vs : Tokens) → ADeclr scope true d ts us → ADeclr scope true d ts (mark o p ∷ vs) → GoodTurn all scope fs (suffix_by d us vs o)
    suffix_by-good m.LBracket p us vs t g = array-good p vs g (after m.RBracket vs) (after_from m.RBracket vs (λ z. ADeclr scope true d ts (mark m.LBracket p ∷ z)) g)
    suffix_by-good m.LParen p us vs t g = function-good p vs g (after m.RParen vs) (after_from m.RParen vs (λ z. ADeclr scope true d ts (mark m.LParen p ∷ z)) g)
    suffix_by-good o p us vs t g = have_declr us t

    suffix_at-good : (us : Tokens) → ADeclr scope true d ts us → (r : Option (Mark × Tokens)) → IfSome r (FirstMark (ADeclr scope true d ts)) → GoodTurn all scope fs (suffix_at d us r)
    suffix_at-good us t None g = have_declr us t
    suffix_at-good us t (Some o) g = suffix_by-good o.0 g.0 us o.1 t g.1

    pub suffix-good : (us : Tokens) → ADeclr scope true d ts us → GoodTurn all scope fs (suffix d us)
    unfolding suffix
    suffix-good us t = suffix_at-good us t (first_mark us) (first_mark_from us (ADeclr scope true d ts) t)

-- what waits for specifiers gets them

pub give_type_specs-good : {all : Tokens} {scope : Scope} {fs : List Frame} {u : Use} {n : ℕ} {ts : Tokens} (s : SpecsRead) (us : Tokens) → Inside all scope (frame.Specs (for_specs.TypeName u n) ∷ fs) NeedSpecs ts →
    TheSpecs scope s ts us → GoodTurn all scope fs (give_specs s us (for_specs.TypeName u n))
give_type_specs-good s us (InTypeSpecs scope fs u n ts i) t = GoodDeclr scope (frame.Declr (for_declr.TypeName u n s) ∷ fs) us (InTypeDeclr scope fs u n s ts us i t)

pub give_param_specs-good : {all : Tokens} {scope : Scope} {fs : List Frame} {f : Function} {n : ℕ} {ts : Tokens} (s : SpecsRead) (us : Tokens) → Inside all scope (frame.Specs (for_specs.Param f n) ∷ fs) NeedSpecs ts →
    TheSpecs scope s ts us → GoodTurn all scope fs (give_specs s us (for_specs.Param f n))
give_param_specs-good s us (InParamSpecs scope fs f ts vs i) t = GoodDeclr scope (frame.Declr (for_declr.Param f (offset vs) s) ∷ fs) us (InParamDeclr scope fs f s ts vs us i t)

pub give_member_specs-good : {all : Tokens} {scope : Scope} {fs : List Frame} {st : Structure} {n : ℕ} {ts : Tokens} (s : SpecsRead) (us : Tokens) → Inside all scope (frame.Specs (for_specs.Member st n) ∷ fs) NeedSpecs ts →
    TheSpecs scope s ts us → GoodTurn all scope fs (give_specs s us (for_specs.Member st n))
give_member_specs-good s us (InMemberSpecs scope fs st ts i) t = let d = open_members st (offset ts) s in
    GoodDeclr scope (frame.Declr (for_declr.Member d) ∷ fs) us (InMemberDeclr scope fs d us (FirstName scope fs d ts us i t.spelled refl refl (ap (max st.height) t.high)))

-- what waits for a declarator gets it

pub give_paren_declr-good : {all : Tokens} {scope : Scope} {fs : List Frame} {n : ℕ} {ts : Tokens} (d : Tall (At Declr)) (us : Tokens) → Inside all scope (frame.Declr (for_declr.Paren n) ∷ fs) NeedDeclr ts →
    ADeclr scope false d ts us → GoodTurn all scope fs (give_declr scope d us (for_declr.Paren n))
give_paren_declr-good {all = all} d us (InDeclrParen scope fs p ts i) t = by (is_nothing d.node.node) refl
  where
    by : (b : Bool) → is_nothing d.node.node ≡ b → GoodTurn all scope fs (paren_declr p.0 d us b)
    by true e = tt
    by false e = eat_from m.RParen us (λ us. on (control.Suffix (made p.0 (declr.Paren d.node) (suc d.height))) us) (ADeclr scope false d ts) _ t
        (λ q vs g. GoodSuffix scope fs (made p.0 (declr.Paren d.node) (suc d.height)) (mark m.LParen p ∷ ts) vs i
        (record { spelled = DeclrInParens scope true d.node p q ts vs e g.spelled; high = omega (arith, height_of_declr-Paren d.node, g.high) }))

pub give_pointer_declr-good : {all : Tokens} {scope : Scope} {fs : List Frame} {n : ℕ} {qs : List Word} {ts : Tokens} (d : Tall (At Declr)) (us : Tokens) →
    Inside all scope (frame.Declr (for_declr.Pointer n qs) ∷ fs) NeedDeclr ts → ADeclr scope false d ts us → GoodTurn all scope fs (give_declr scope d us (for_declr.Pointer n qs))
give_pointer_declr-good d us (InPointer scope fs qs p ts vs i q) t = GoodHaveDeclr scope fs (made p.0 (declr.Pointer qs d.node) (suc d.height)) (mark m.Star p ∷ ts) us i
    (record { spelled = APointer scope qs d.node p ts vs us q t.spelled; high = omega (arith, height_of_declr-Pointer qs d.node) })

-- behind the parenthesis that closes a type name
use_type-good : {all : Tokens} {scope : Scope} {fs : List Frame} {u : Use} {n : ℕ} {ts : Tokens} (t : Tall TypeName) (q : Span) (us : Tokens) → InUse all scope fs u n ts → AType scope t ts (mark m.RParen q ∷ us) →
    GoodTurn all scope fs (use_type u n t us)
use_type-good t q us (ForCast scope fs l p ts i h) g = GoodExpr scope (frame.Tree (for_tree.Cast p.0 t) ∷ fs) cast_level us (InCast scope fs l t p q ts us i h g) (omega arith)
use_type-good t q us (ForSizeOf scope fs l s p ts i h) g = GoodTree scope fs l unary_level (made s.0 (tree.SizeOfType t.node) (suc t.height)) (word w.Sizeof s ∷ mark m.LParen p ∷ ts) us i
    (record { spelled = ASizeOfType scope unary_level t.node s p q ts us (omega arith) g.spelled; high = omega (arith, height-SizeOfType t.node) }) h

pub give_type_declr-good : {all : Tokens} {scope : Scope} {fs : List Frame} {u : Use} {n : ℕ} {s : SpecsRead} {ts : Tokens} (d : Tall (At Declr)) (us : Tokens) →
    Inside all scope (frame.Declr (for_declr.TypeName u n s) ∷ fs) NeedDeclr ts → ADeclr scope false d ts us → GoodTurn all scope fs (give_declr scope d us (for_declr.TypeName u n s))
give_type_declr-good {all = all} d us (InTypeDeclr scope fs u n s ts vs i r) t = by (name_of d.node.node) refl
  where
    by : (x : Option Name) → name_of d.node.node ≡ x → GoodTurn all scope fs (close_type u n s d us (is_some x))
    by (Some x) e = tt
    by None e = eat_from m.RParen us (λ us. use_type u n (tall (record { specs = s.node; declr = d.node }) (max s.height d.height)) us) (ADeclr scope false d vs) _ t
        (λ q ws g. use_type-good (tall (record { specs = s.node; declr = d.node }) (max s.height d.height)) q ws i
        (record { spelled = ATypeName scope s.node d.node ts vs (mark m.RParen q ∷ ws) r.spelled g.spelled e; high = omega (arith, height_of_type-TypeName s.node d.node, r.high, g.high) }))

pub give_member_declr-good : {all : Tokens} {scope : Scope} {fs : List Frame} {ds : Members} {ts : Tokens} (d : Tall (At Declr)) (us : Tokens) → Inside all scope (frame.Declr (for_declr.Member ds) ∷ fs) NeedDeclr ts →
    ADeclr scope false d ts us → GoodTurn all scope fs (give_declr scope d us (for_declr.Member ds))
give_member_declr-good {all = all} d us (InMemberDeclr scope fs ds ts i) t = member_declr-good all scope fs ds d ts us i t

-- behind a list of parameters

params_of-good : (scope : Scope) (ps : List (At Param)) (ts us : Tokens) → IsParamList scope ps ts us → IsParams scope (params_of ps) ts us × (height_of_params (params_of ps) ≡ heights height_of_param ps)
params_of-good scope ps ts us l = by (is_only_void ps) refl
  where
    by : (b : Bool) → is_only_void ps ≡ b → IsParams scope (params_by ps b) ts us × (height_of_params (params_by ps b) ≡ heights height_of_param ps)
    by true e = let o = only_void-sound l e in (o.spelled, height_of_params-Void ∙ sym o.flat)
    by false e = (ManyParams scope ps ts us e l, height_of_params-Many ps)

module _ (all : Tokens) (scope : Scope) (fs : List Frame) where
  param_at-good : (f : Function) (p : Span) (ts us vs : Tokens) → Inside all scope fs NeedDeclr ts → IsDeclr scope true f.declr ts (mark m.LParen p ∷ us) → IsParamList scope f.params us vs →
      f.height ≡ max (height_of_declr f.declr.node) (heights height_of_param f.params) → (r : Option Tokens) → IfSome r (λ ws. (c : Span) × IsParamList scope f.params us (mark m.Comma c ∷ ws)) →
      GoodTurn all scope fs (param_at f vs r)
  param_at-good f p ts us vs i t l h (Some ws) g = GoodSpecs scope (frame.Specs (for_specs.Param f (offset ws)) ∷ fs) (tall [] 0) ws ws
      (InParamSpecs scope fs f ts ws (OneMore scope fs f p g.0 ts us ws i t g.1 h)) (no_specs scope ws)
  param_at-good f p ts us vs i t l h None g = eat_from m.RParen vs (λ us. on (control.Suffix (made f.declr.at (declr.Func f.declr (params_of f.params)) (suc f.height))) us) (IsParamList scope f.params us) _ l
      (λ q ws l. closed q ws (params_of-good scope f.params us (mark m.RParen q ∷ ws) l))
    where
      closed : (q : Span) (ws : Tokens) → IsParams scope (params_of f.params) us (mark m.RParen q ∷ ws) × (height_of_params (params_of f.params) ≡ heights height_of_param f.params) →
          Good all scope fs (control.Suffix (made f.declr.at (declr.Func f.declr (params_of f.params)) (suc f.height))) ws
      closed q ws a = GoodSuffix scope fs (made f.declr.at (declr.Func f.declr (params_of f.params)) (suc f.height)) ts ws i
          (record {
            spelled = declr_from (declr.Func f.declr (params_of f.params)) t (AFunction scope true f.declr (params_of f.params) p q ts us ws t a.0);
            high = omega (arith, height_of_declr-Func f.declr (params_of f.params), a.1);
          })

  one_param_more : (f : Function) (s : SpecsRead) (d : Tall (At Declr)) (n : ℕ) (p : Span) (ts us vs : Tokens) → Inside all scope fs NeedDeclr ts → IsDeclr scope true f.declr ts (mark m.LParen p ∷ us) →
      IsParamList scope (f.params ++ record { at = n; node = record { specs = s.node; declr = d.node } } ∷ []) us vs → f.height ≡ max (height_of_declr f.declr.node) (heights height_of_param f.params) →
      s.height ≡ specs_height s.node → d.height ≡ height_of_declr d.node.node → GoodTurn all scope fs (param f n s d vs)
  one_param_more f s d n p ts us vs i t l h j k = param_at-good (with_param f n s d) p ts us vs i t l
      (omega (arith, heights-behind height_of_param f.params (record { at = n; node = record { specs = s.node; declr = d.node } }), height_of_param-Param s.node d.node)) (after m.Comma vs)
      (after_from m.Comma vs (IsParamList scope (f.params ++ record { at = n; node = record { specs = s.node; declr = d.node } } ∷ []) us) l)

  param-good : {f : Function} {ts us : Tokens} (s : SpecsRead) (d : Tall (At Declr)) (vs ws : Tokens) → InFunction all scope fs f ts us → TheSpecs scope s us vs → ADeclr scope false d vs ws →
      GoodTurn all scope fs (param f (offset us) s d ws)
  param-good s d vs ws (FirstOne sc gs f p ts us i t none h) r g = let z : heights height_of_param f.params ≡ 0 = ap (heights height_of_param) none in
      one_param_more f s d (offset us) p ts us ws i t
      (subst (λ ps. IsParamList scope (ps ++ record { at = offset us; node = record { specs = s.node; declr = d.node } } ∷ []) us ws) (sym none)
      (FirstParam scope (record { at = offset us; node = record { specs = s.node; declr = d.node } }) us ws (AParam scope s.node d.node us vs ws r.spelled g.spelled)))
      (omega arith) r.high g.high
  param-good s d vs ws (OneMore sc gs f p c ts us xs i t l h) r g = one_param_more f s d (offset xs) p ts us ws i t
      (MoreParams scope f.params (record { at = offset xs; node = record { specs = s.node; declr = d.node } }) c us xs ws l (AParam scope s.node d.node xs vs ws r.spelled g.spelled)) h r.high g.high

pub give_param_declr-good : {all : Tokens} {scope : Scope} {fs : List Frame} {f : Function} {n : ℕ} {s : SpecsRead} {ts : Tokens} (d : Tall (At Declr)) (us : Tokens) →
    Inside all scope (frame.Declr (for_declr.Param f n s) ∷ fs) NeedDeclr ts → ADeclr scope false d ts us → GoodTurn all scope fs (give_declr scope d us (for_declr.Param f n s))
give_param_declr-good {all = all} d us (InParamDeclr scope fs f s ts vs ws i r) t = param-good all scope fs s d ws us i r t

-- what waits for an expression in a declarator or an enumeration gets it

pub give_bound-good : {all : Tokens} {scope : Scope} {fs : List Frame} {d : Tall (At Declr)} {l : ℕ} {ts : Tokens} (level : ℕ) (e : Tall (At Tree)) (us : Tokens) →
    Inside all scope (frame.Part (for_part.Bound d) ∷ fs) (NeedTree l) ts → ATree scope level e ts us → l ≤ level → GoodTurn all scope fs (give_part e us (for_part.Bound d))
give_bound-good {all = all} level e us (InBound scope fs d p ts vs i s) t h = eat_from m.RBracket us (λ us. on (control.Suffix (around d (declr.Array d.node (Some e.node)) (max d.height e.height))) us) (ATree scope level e vs) _ t
    (λ q ws g. around-good all scope fs d ts i (declr.Array d.node (Some e.node)) (mark m.LBracket p ∷ vs) ws s.spelled
    (AnArray scope true d.node e.node p q ts vs ws s.spelled (looser conditional_level h g.spelled)) (max d.height e.height) (omega (arith, height_of_declr-Array d.node e.node, g.high)))

pub give_enumr-good : {all : Tokens} {scope : Scope} {fs : List Frame} {en : Enumeration} {n : ℕ} {x : Name} {l : ℕ} {ts : Tokens} (level : ℕ) (e : Tall (At Tree)) (us : Tokens) →
    Inside all scope (frame.Part (for_part.Enumr en n x) ∷ fs) (NeedTree l) ts → ATree scope level e ts us → l ≤ level → GoodTurn all scope fs (give_part e us (for_part.Enumr en n x))
give_enumr-good {all = all} level e us (InEnumr scope fs en x s p ts i n) t h = one_constant_more all scope fs s.0 e.height x (Some e.node) us i
    (AValuedEnumr scope x e.node s p ts us n (looser conditional_level h t.spelled)) t.high
