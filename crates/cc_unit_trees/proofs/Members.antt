-- Structures are read: their tags alone, and with their members.
use Rattle.std.proofs.Common.{arith, ◌≡◌, ◌+◌, ◌||◌, ℕ, suc, true, ltb, List, [], ◌∷◌, ◌++◌, take, length, length-append, Option, Some, None, slice_get, refl, ap, sym, subst, append_assoc, append-nil, true≢false}
use Rattle.std.specs.List.{list_all}
use Rattle.std.specs.Option.{is_some}
use Rattle.cc_program.specs.CcWords.Names.{is_name}
use Rattle.cc_program.specs.CcWords.declared.word.Word.TheVariants as w
use Rattle.cc_lex.specs.declared.token.Kind.TheVariants as kind
use Rattle.cc_lex.specs.declared.token.Mark.TheVariants as m
use Rattle.cc_lex.proofs.Booleans.{and-true}
use Rattle.cc_bodies.specs.Stmts.{ended, opened}
use Rattle.cc_unit_trees.specs.ReadFunctions.{ReadsItem}
use Rattle.cc_pieces.specs.Declarators.{declarator}
use Rattle.cc_pieces.specs.declared.types.Inside.TheVariants.{Name as Inner_name}
use Rattle.cc_pieces.specs.Pieces.{Pieces, punct, keyword, ident, space, indentation, flat}
use Rattle.cc_expression_trees.specs.Laid.{laid}
use Rattle.cc_expression_trees.specs.Parts.{Fits, is_apart}
use Rattle.cc_print.specs.Units.{each, tag_line, member_line, structure_of, structure}
use Rattle.cc_program.specs.declared.program.Program.{Program}
use Rattle.cc_program.specs.declared.types.CType.{CType}
use Rattle.cc_program.specs.declared.types.Structure.{Structure}
use Rattle.cc_typed.specs.CcSyntax.Kinds.{kind_of, extent_with}
use Rattle.cc_typed.specs.CcSyntax.Sound.{is_member, IsSound}
use Rattle.cc_typed.specs.CcSyntax.Types.{Named, has_members}
use Rattle.cc_typed.proofs.CcSyntax.Prefixes.{get_taken}
use Rattle.cc_tree.specs.declared.at.At.{At}
use Rattle.cc_tree.specs.declared.tree.MemberDecl.{MemberDecl}
use Rattle.cc_tree.specs.declared.tree.Spec as spec
use Rattle.cc_tree.specs.declared.tree.Spec.{Spec}
use Rattle.cc_tree.specs.declared.unit.Item.TheVariants as item
use Rattle.cc_tree.specs.Sentences.{ADeclItem}
use Rattle.cc_tree.specs.Statements.{DeclaresNothing}
use Rattle.cc_tree.specs.Terms.{IsSpec, IsSpecs, Specs, NoSpec, MoreSpecs, AStructure, ANamedStructure, NoAttr, ATag as TagThere, AttrsApart, IsMembers, FirstMember, MoreMembers as MemberBehind, IsMember, AMemberDecl, FirstDeclr, have_word}
use Rattle.cc_tree.specs.Tokens.{Tokens, Name, at as at_of}
use Rattle.cc_expression_trees.specs.Types.{Plain}
use Rattle.cc_expression_trees.specs.Soft.{IsSoft}
use Rattle.cc_expression_trees.proofs.Declarators.{type-reads, type-fits, name-fits}
use Rattle.cc_expression_trees.proofs.TypeFitting.{name-apart}
use Rattle.cc_expression_trees.proofs.Insides.{core-named}
use Rattle.cc_expression_trees.proofs.TypeNames.{there-by}
use Rattle.cc_expression_trees.proofs.Parameters.{around, Reads, name-reads, specs-of}
use Rattle.cc_unit_trees.specs.Items.{ShowsTag, ATag, ShowsMembers, NoMember, MoreMembers, ShowsStructure, OnlyNamed, WithMembers}
use Rattle.cc_unit_trees.specs.ValueNames.{HasUnitNames}
use Rattle.cc_unit_trees.proofs.Known.{some-kind, members-of}

-- ---- one specifier is no neighbour of another

alone : (s : At Spec) → AttrsApart (s ∷ [])
alone s before behind t u e ends =
    let n : 1 ≡ length (before ++ t ∷ u ∷ behind) = ap length e in
    let k = length-append before (t ∷ u ∷ behind) in
    absurd (omega (arith, n, k))

only-spec : (s : At Spec) (ts us : Tokens) → have_word (s ∷ []) ≡ true → IsSpec [] s ts us → IsSpecs [] (s ∷ []) ts us
only-spec s ts us h i = Specs [] (s ∷ []) ts us (MoreSpecs [] [] s ts ts us (NoSpec [] ts) i) h (alone s)

-- ---- `struct TAG;`

pub tag-reads : (s : Structure) (at : ℕ) (ps : Pieces) → ReadsItem (ShowsTag s) at (tag_line s ps) ps
tag-reads s at ps =
    let x = s.tag in
    let specs = record { at = at; node = spec.Struct (Some x) None [] [] } ∷ [] in
    let behind = at + 6 + 1 + length x in
    record {
      item = item.Decl (record { specs = specs; inits = [] });
      shows = ATag at;
      next = behind + 1 + 1;
      is = ADeclItem [] [] _ _ _ (DeclaresNothing [] specs (behind, 1) _ _ (only-spec _ _ _ refl (ANamedStructure [] x (at, 6) (at + 6 + 1, length x) _)));
    }

tag-pieces : (x : Name) (ps : Pieces) → is_name x ≡ true → IsSoft (flat ps) → Fits ps → Fits (keyword w.Struct ∷ space ∷ ident x ∷ ps)
tag-pieces x ps n s f = (tt, refl, (refl, (n, name-apart x (flat ps) s, f)))

pub tag-fits : (s : Structure) → is_name s.tag ≡ true → (ps : Pieces) → Fits ps → Fits (tag_line s ps)
tag-fits s n ps f = tag-pieces s.tag (ended ps) n refl (refl, refl, (refl, f))

-- ---- members

module _ (p : Program) where
  abbrev pub KnownMember : Named → Type 0
  KnownMember l = Reads p.structures (declarator p.structures l.1) l.1

  abbrev pub EachMember : List Named → Type 0
  EachMember [] = Unit {0}
  EachMember (l ∷ ls) = KnownMember l × EachMember ls

  record ReadsMember (l : Named) (at : ℕ) (ps : Pieces) : Type 0 where
    member : At MemberDecl
    shows : (ls : List Named) (ms : List (At MemberDecl)) → ShowsMembers p.structures ls ms → ShowsMembers p.structures (l ∷ ls) (member ∷ ms)
    next : ℕ
    is : IsMember [] member (laid at (member_line p.structures l ps)) (laid next ps)

  member-read : (l : Named) → KnownMember l → (at : ℕ) (ps : Pieces) → ReadsMember l at ps
  member-read l k at ps =
      let here = at + length (indentation 1) in
      let text = around (declarator p.structures l.1) Inner_name (λ qs. ident l.0 ∷ qs) (ended ps) in
      let r = k (Plain (Some l.0)) l.1 Inner_name (λ qs. ident l.0 ∷ qs) (name-reads p.structures l.0 l.1) [] (laid here text) here (ended ps) (NoSpec [] _) in
      let d = at_of (laid here text) (record { specs = r.specs; declrs = r.declr ∷ [] }) in
      record {
        member = d;
        shows = λ ls ms h. MoreMembers l ls r.base r.specs r.declr d.at ms r.shows_base r.shows h;
        next = r.next + 1 + 1;
        is = AMemberDecl [] r.specs (r.declr ∷ []) (r.next, 1) _ r.rest _ (specs-of p.structures r) (FirstDeclr [] r.declr l.0 r.rest _ r.is (core-named p.structures r.shows));
      }

  record ReadsMembers (ls : List Named) (done : List (At MemberDecl)) (all : Tokens) (ps : Pieces) : Type 0 where
    members : List (At MemberDecl)
    shows : ShowsMembers p.structures ls members
    next : ℕ
    is : IsMembers [] (done ++ members) all (laid next ps)

  members-read : (ls : List Named) → EachMember ls → (done : List (At MemberDecl)) (all : Tokens) (at : ℕ) (ps : Pieces) → IsMembers [] done all (laid at (each (member_line p.structures) ls ps)) → ReadsMembers ls done all ps
  members-read [] h done all at ps k = record { members = []; shows = NoMember; next = at; is = subst (λ ms. IsMembers [] ms all (laid at ps)) (sym (append-nil done)) k }
  members-read (l ∷ ls) h done all at ps k =
      let r = member-read l h.0 at (each (member_line p.structures) ls ps) in
      let b = members-read ls h.1 (done ++ r.member ∷ []) all r.next ps (MemberBehind [] done r.member all _ _ k r.is) in
      record {
        members = r.member ∷ b.members;
        shows = r.shows ls b.members b.shows;
        next = b.next;
        is = subst (λ ms. IsMembers [] ms all (laid b.next ps)) (append_assoc done (r.member ∷ []) b.members) b.is;
      }

  -- ---- structures

  with-members-read : (s : Structure) (l : Named) (ls : List Named) → s.members ≡ l ∷ ls → EachMember (l ∷ ls) → (at : ℕ) (ps : Pieces) → ReadsItem (ShowsStructure p s) at (structure_of p.structures (l ∷ ls) s ps) ps
  with-members-read s l ls e h at ps =
      let x = s.tag in
      let brace = at + 6 + 1 + length x + 1 in
      let inner = brace + 1 + 1 in
      let behind = punct m.RBrace ∷ ended ps in
      let r = member-read l h.0 inner (each (member_line p.structures) ls behind) in
      let b = members-read ls h.1 (r.member ∷ []) (laid inner (each (member_line p.structures) (l ∷ ls) behind)) r.next behind (FirstMember [] r.member _ _ r.is) in
      let ms = r.member ∷ b.members in
      let specs = record { at = at; node = spec.Struct (Some x) (Some ms) [] [] } ∷ [] in
      record {
        item = item.Decl (record { specs = specs; inits = [] });
        shows = WithMembers l ls at ms e (r.shows ls b.members b.shows);
        next = b.next + 1 + 1 + 1;
        is = ADeclItem [] [] _ _ _ (DeclaresNothing [] specs (b.next + 1, 1) _ _ (only-spec _ _ _ refl (AStructure [] (Some x) ms [] [] (at, 6) (brace, 1) (b.next, 1) _ _ _ _ _ (NoAttr _) (TagThere x (at + 6 + 1, length x) _) b.is (NoAttr _))));
      }

  lined-read : (s : Structure) (ls : List Named) → s.members ≡ ls → EachMember ls → (at : ℕ) (ps : Pieces) → ReadsItem (ShowsStructure p s) at (structure_of p.structures ls s ps) ps
  lined-read s [] e h at ps = let r = tag-reads s at ps in record { item = r.item; shows = OnlyNamed r.item e r.shows; next = r.next; is = r.is }
  lined-read s (l ∷ ls) e h at ps = with-members-read s l ls e h at ps

  -- ---- the types of members stand over the structures in front

  module _ (sound : IsSound p) (i : ℕ) where
    abbrev before : List Structure
    before = take i p.structures

    abbrev Known : CType → Type 0
    Known t = is_some (kind_of p.target (extent_with before (length p.structures) p.target) t) ≡ true

    among : (j : ℕ) (o : Option Structure) → slice_get before j ≡ o → has_members o ≡ true → (s : Structure) × (slice_get p.structures j ≡ Some s)
    among j None e h = absurd (true≢false (sym h))
    among j (Some s) e h = (s, (get_taken p.structures i j s e).1)

    there-before : (j : ℕ) → (has_members (slice_get before j) || ltb j (length p.structures)) ≡ true → (s : Structure) × (slice_get p.structures j ≡ Some s)
    there-before j h = there-by p.structures j (slice_get before j) (among j (slice_get before j) refl) h

    abbrev AreMembers : List Named → Type 0
    AreMembers ls = list_all (is_member before (length p.structures) p.target) ls ≡ true

    first-known : (l : Named) (ls : List Named) → AreMembers (l ∷ ls) → Known l.1
    first-known l ls h = some-kind (kind_of p.target (extent_with before (length p.structures) p.target) l.1) (and-true (is_member before (length p.structures) p.target l) (list_all (is_member before (length p.structures) p.target) ls) h).0

    rest-known : (l : Named) (ls : List Named) → AreMembers (l ∷ ls) → AreMembers ls
    rest-known l ls h = (and-true (is_member before (length p.structures) p.target l) (list_all (is_member before (length p.structures) p.target) ls) h).1

    each-member : (ls : List Named) → AreMembers ls → EachMember ls
    each-member [] h = tt
    each-member (l ∷ ls) h = (type-reads p.structures before p.target there-before l.1 (first-known l ls h), each-member ls (rest-known l ls h))

    pub structure-reads : (s : Structure) → slice_get p.structures i ≡ Some s → (at : ℕ) (ps : Pieces) → ReadsItem (ShowsStructure p s) at (structure p.structures s ps) ps
    structure-reads s e at ps = lined-read s s.members refl (each-member s.members (members-of (length p.structures) p.target p.structures sound.structures i s e)) at ps

    -- ---- they part

    module _ (names : HasUnitNames p) (s : Structure) (here : slice_get p.structures i ≡ Some s) where
      brace-apart : (text : List ℕ) → is_apart (kind.Punct m.RBrace) text ≡ true
      brace-apart [] = refl
      brace-apart (b ∷ text) = refl

      abbrev EachNamed : List Named → Type 0
      EachNamed ls = (k : ℕ) (l : Named) → slice_get ls k ≡ Some l → is_name l.0 ≡ true

      members-fit : (ls : List Named) → AreMembers ls → EachNamed ls → (ps : Pieces) → Fits ps → Fits (each (member_line p.structures) ls ps)
      members-fit [] h n ps f = f
      members-fit (l ∷ ls) h n ps f =
          let rest = each (member_line p.structures) ls ps in
          let g = members-fit ls (rest-known l ls h) (λ k x e. n (suc k) x e) ps f in
          (refl, type-fits p.structures before p.target there-before names.tags l.1 (first-known l ls h) Inner_name (λ qs. ident l.0 ∷ qs) (name-fits l.0 (n 0 l refl)) (ended rest) (refl, refl, (refl, g)) refl)

      lined-fits : (ls : List Named) → AreMembers ls → EachNamed ls → (ps : Pieces) → Fits ps → Fits (structure_of p.structures ls s ps)
      lined-fits [] h n ps f = tag-fits s (names.tags i s here) ps f
      lined-fits (l ∷ ls) h n ps f =
          tag-pieces s.tag (opened (each (member_line p.structures) (l ∷ ls) (punct m.RBrace ∷ ended ps))) (names.tags i s here) refl
          (refl, (refl, refl, (refl, members-fit (l ∷ ls) h n (punct m.RBrace ∷ ended ps) (refl, brace-apart (flat (ended ps)), (refl, refl, (refl, f))))))

      pub structure-fits : (ps : Pieces) → Fits ps → Fits (structure p.structures s ps)
      structure-fits ps f = lined-fits s.members (members-of (length p.structures) p.target p.structures sound.structures i s here) (λ k l e. names.members i k s l here e) ps f
