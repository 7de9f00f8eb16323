-- Each item's text is read as an item that shows it.
use Rattle.std.proofs.Common.{◌≡◌, ℕ, true, false, List, [], ◌∷◌, ◌++◌, Option, Some, None, slice_get, codes, refl, sym, subst}
use Rattle.std.specs.List.{list_all}
use Rattle.cc_program.specs.CcNum.declared.int_type.IntType.TheVariants as int
use Rattle.cc_program.specs.CcWords.Names.{is_name}
use Rattle.cc_program.specs.CcWords.declared.word.Word.TheVariants as w
use Rattle.cc_lex.specs.declared.token.Mark.TheVariants as m
use Rattle.cc_bodies.specs.Stmts.{ended, intrinsic_name}
use Rattle.cc_expression_trees.specs.Constants.{plain, qualified}
use Rattle.cc_unit_trees.specs.ReadFunctions.{ReadsDecl, ReadsItem}
use Rattle.cc_unit_trees.specs.Units.{ShowsDecl}
use Rattle.cc_unit_trees.proofs.FunctionDeclarations.{decl-read, name-decl-read, function-reads}
use Rattle.cc_unit_trees.proofs.Sound.{object-reads as object-type, result-reads as result-type}
use Rattle.cc_pieces.specs.Declarators.{declarator, signature, words, int_name}
use Rattle.cc_pieces.specs.declared.types.Inside.TheVariants.{Name as Inner_name}
use Rattle.cc_pieces.specs.Pieces.{Pieces, punct, keyword, ident, space}
use Rattle.cc_expression_trees.specs.Laid.{laid}
use Rattle.cc_expression_trees.specs.Parts.{Fits}
use Rattle.cc_print.specs.Units.{intrinsic_line, tag_line, structure, device_named, attribute, entry_attribute, function_head, prototype, object_line}
use Rattle.cc_print.specs.Values.{value, definition_line}
use Rattle.cc_program.specs.declared.expr.Intr.{Intr}
use Rattle.cc_program.specs.declared.expr.Intr.TheVariants as intr
use Rattle.cc_program.specs.declared.func.Entry.{Entry}
use Rattle.cc_program.specs.declared.func.Entry.TheVariants as entry
use Rattle.cc_program.specs.declared.func.Func.{Func}
use Rattle.cc_program.specs.declared.object.Device.{Device}
use Rattle.cc_program.specs.declared.object.Object.{Object}
use Rattle.cc_program.specs.declared.program.Program.{Program}
use Rattle.cc_program.specs.declared.types.CType.{CType}
use Rattle.cc_program.specs.declared.types.Shape.TheOpen as shape
use Rattle.cc_program.specs.declared.types.Sig.{out-Sig}
use Rattle.cc_program.specs.declared.types.Structure.{Structure}
use Rattle.cc_typed.specs.CcSyntax.Sound.{is_object, IsFunc, IsSound}
use Rattle.cc_tree.specs.declared.at.At.{At}
use Rattle.cc_tree.specs.declared.tree.Declr.{Declr}
use Rattle.cc_tree.specs.declared.tree.Spec.{Spec}
use Rattle.cc_tree.specs.declared.unit.Given.{Given}
use Rattle.cc_tree.specs.declared.unit.Item.TheVariants as item
use Rattle.cc_tree.specs.Sentences.{ADeclItem}
use Rattle.cc_tree.specs.Terms.{IsSpecList, NoSpec}
use Rattle.cc_tree.specs.Tokens.{Name}
use Rattle.cc_expression_trees.specs.Types.{ShowsWords, ShowsBase, Plain, Function, unnamed, Declares}
use Rattle.cc_expression_trees.proofs.Declarators.{sig-reads}
use Rattle.cc_expression_trees.proofs.Insides.{Inner}
use Rattle.cc_expression_trees.proofs.TypeNames.{there}
use Rattle.cc_expression_trees.proofs.Parameters.{around, name-reads}
use Rattle.cc_expression_trees.proofs.Words.{is_closed, words-closed, leading-read}
use Rattle.cc_unit_trees.specs.Items.{ShowsIntrinsic, AnIntrinsic, ShowsTag, ShowsStructure, ShowsDevice, ADevice, ShowsEntry, NoEntry, Listed, Signal, Interrupt, ShowsPrototype, APrototype, ShowsObject, AnObject, ShowsDefinition, ADefinition}
use Rattle.cc_unit_trees.proofs.Declarations.{item-of, NoGiven, Absent, IsGivenBy, GivenBy, no-value, value-of, one-read, void-reads, int-reads, none-reads, int-parameter-reads, an_attribute, attribute-closed, attribute-read}
use Rattle.cc_unit_trees.proofs.ItemFitting as fitting
use Rattle.cc_unit_trees.proofs.ItemFitting.{function-sig}
use Rattle.cc_unit_trees.proofs.Members as members
use Rattle.cc_unit_trees.specs.ValueNames.{HasUnitNames}
use Rattle.cc_unit_trees.specs.Values.{ShowsInitial}
use Rattle.cc_unit_trees.proofs.Known.{all-at}
use Rattle.cc_unit_trees.proofs.Starts.{object-values}

-- ---- intrinsics

module _ (p : Program) where
  abbrev head : Name → Inner → Inner
  head x parameters qs = ident x ∷ punct m.LParen ∷ parameters (punct m.RParen ∷ qs)

  -- one that gives nothing and takes nothing
  void-read : (x : Name) (at : ℕ) (ps : Pieces) → ReadsDecl (ShowsDecl p.structures [] (Function x []) (plain shape.Void)) at (keyword w.Void ∷ space ∷ head x (λ qs. keyword w.Void ∷ qs) (ended ps)) ps
  void-read x at ps = decl-read p.structures [] refl (words (λ qs. keyword w.Void ∷ qs) false false) (plain shape.Void) (void-reads p.structures false false) (Function x []) (head x (λ qs. keyword w.Void ∷ qs))
      (function-reads p.structures x [] (λ qs. keyword w.Void ∷ qs) (plain shape.Void) (none-reads p.structures)) x refl at ps

  save-read : (x : Name) (at : ℕ) (ps : Pieces) → ReadsDecl (ShowsDecl p.structures [] (Function x []) (plain (shape.Int int.UChar))) at (int_name int.UChar (space ∷ head x (λ qs. keyword w.Void ∷ qs) (ended ps))) ps
  save-read x at ps = decl-read p.structures [] refl (words (int_name int.UChar) false false) (plain (shape.Int int.UChar)) (int-reads p.structures false false int.UChar) (Function x []) (head x (λ qs. keyword w.Void ∷ qs))
      (function-reads p.structures x [] (λ qs. keyword w.Void ∷ qs) (plain (shape.Int int.UChar)) (none-reads p.structures)) x refl at ps

  restore-read : (x : Name) (at : ℕ) (ps : Pieces) → ReadsDecl (ShowsDecl p.structures [] (Function x ((None, plain (shape.Int int.UChar)) ∷ [])) (plain shape.Void)) at (keyword w.Void ∷ space ∷ head x (int_name int.UChar) (ended ps)) ps
  restore-read x at ps = decl-read p.structures [] refl (words (λ qs. keyword w.Void ∷ qs) false false) (plain shape.Void) (void-reads p.structures false false) (Function x ((None, plain (shape.Int int.UChar)) ∷ [])) (head x (int_name int.UChar))
      (function-reads p.structures x ((None, plain (shape.Int int.UChar)) ∷ []) (int_name int.UChar) (plain shape.Void) (int-parameter-reads p.structures int.UChar)) x refl at ps

  pub intrinsic-reads : (i : Intr) (at : ℕ) (ps : Pieces) → ReadsItem (ShowsIntrinsic p i) at (intrinsic_line p i ps) ps
  intrinsic-reads intr.Off at ps = item-of (AnIntrinsic) (void-read (intrinsic_name p.roles intr.Off) at ps)
  intrinsic-reads intr.On at ps = item-of (AnIntrinsic) (void-read (intrinsic_name p.roles intr.On) at ps)
  intrinsic-reads intr.Save at ps = item-of (AnIntrinsic) (save-read (intrinsic_name p.roles intr.Save) at ps)
  intrinsic-reads intr.Restore at ps = item-of (AnIntrinsic) (restore-read (intrinsic_name p.roles intr.Restore) at ps)

  -- ---- devices

  pub device-reads : (d : Device) (x : Name) → d.name ≡ Some x → (at : ℕ) (ps : Pieces) → ReadsItem (ShowsDevice p d) at (device_named d (Some x) ps) ps
  device-reads d x e at ps = item-of (λ c s. ADevice x c e s) (decl-read p.structures (w.Extern ∷ []) refl (words (int_name d.int) d.constant true) (qualified d.constant true (shape.Int d.int)) (int-reads p.structures d.constant true d.int)
      (Plain (Some x)) (λ qs. ident x ∷ qs) (name-reads p.structures x (qualified d.constant true (shape.Int d.int))) x refl at ps)

  -- ---- prototypes

  record ReadsEntry (e : Option Entry) (at : ℕ) (ps : Pieces) : Type 0 where
    specs : List (At Spec)
    shows : ShowsEntry e specs
    closed : list_all is_closed specs ≡ true
    next : ℕ
    is : IsSpecList [] specs (laid at (entry_attribute e ps)) (laid next ps)

  attributed : (e : Entry) (x : Name) (at : ℕ) (ps : Pieces) → ((at : ℕ) → ShowsEntry (Some e) (an_attribute at x ∷ [])) → entry_attribute (Some e) ps ≡ attribute x ps → ReadsEntry (Some e) at ps
  attributed e x at ps shows same =
      let r = attribute-read x at ps in
      record {
        specs = an_attribute at x ∷ [];
        shows = shows at;
        closed = rw (attribute-closed at x) refl;
        next = r.0;
        is = subst (λ qs. IsSpecList [] (an_attribute at x ∷ []) (laid at qs) (laid r.0 ps)) (sym same) r.1;
      }

  entry-read : (e : Option Entry) (at : ℕ) (ps : Pieces) → ReadsEntry e at ps
  entry-read None at ps = record { specs = []; shows = NoEntry; closed = refl; next = at; is = NoSpec [] _ }
  entry-read (Some entry.Listed) at ps = record { specs = []; shows = Listed; closed = refl; next = at; is = NoSpec [] _ }
  entry-read (Some entry.Signal) at ps = attributed entry.Signal (codes "signal") at ps (λ at. Signal at) refl
  entry-read (Some entry.Interrupt) at ps = attributed entry.Interrupt (codes "interrupt") at ps (λ at. Interrupt at) refl

  shown-prototype : (f : Func) (b : CType) (qs ss : List (At Spec)) (d : At Declr) (at : ℕ) → ShowsEntry f.entry qs → ShowsBase p.structures b ss → Declares p.structures b d.node (Function f.name (unnamed (out-Sig f.sig).params)) (out-Sig f.sig).result → (v : Option (At Given)) → NoGiven v →
      ShowsPrototype p f (item.Decl (record { specs = qs ++ ss; inits = record { at = at; node = record { declr = d; attrs = []; value = v } } ∷ [] }))
  shown-prototype f b qs ss d at e h k _ Absent = APrototype b qs ss d at e h k

  pub prototype-reads : (f : Func) → IsFunc p f → (at : ℕ) (ps : Pieces) → ReadsItem (ShowsPrototype p f) at (prototype p.structures f ps) ps
  prototype-reads f h at ps =
      let t = (out-Sig f.sig).result in
      let entries = unnamed (out-Sig f.sig).params in
      let parameters = (signature p.structures f.sig).parameters in
      let q = entry-read f.entry at (function_head p.structures f parameters (ended ps)) in
      let s = sig-reads p.structures p.structures p.target (there p.structures) f.sig (function-sig p f h) in
      let r = one-read p.structures q.specs q.closed (declarator p.structures t) t (result-type p t h.result) (Function f.name entries) (head f.name parameters) (function-reads p.structures f.name entries parameters t s.parameters) f.name refl
      NoGiven (ended ps) ps (λ at. no-value at (ended ps)) (laid at (prototype p.structures f ps)) q.next q.is in
      record {
        item = item.Decl (record { specs = q.specs ++ r.specs; inits = record { at = r.at; node = record { declr = r.declr; attrs = []; value = r.value } } ∷ [] });
        shows = shown-prototype f r.base q.specs r.specs r.declr r.at q.shows r.shows_base r.shows r.value r.shows_value;
        next = r.next;
        is = ADeclItem [] [] _ _ _ r.is;
      }

  -- ---- static objects

  pub object-reads : (o : Object) → is_object p o ≡ true → (at : ℕ) (ps : Pieces) → ReadsItem (ShowsObject p o) at (object_line p.structures o ps) ps
  object-reads o h at ps = item-of AnObject (name-decl-read p.structures (w.Static ∷ []) refl o.ctype (object-type p o.ctype h) o.name at ps)

  shown-definition : (o : Object) (b : CType) (qs ss : List (At Spec)) (d : At Declr) (at : ℕ) → ShowsWords (w.Static ∷ []) qs → ShowsBase p.structures b ss → Declares p.structures b d.node (Plain (Some o.name)) o.ctype → (v : Option (At Given)) → IsGivenBy (ShowsInitial p o) v →
      ShowsDefinition p o (item.Decl (record { specs = qs ++ ss; inits = record { at = at; node = record { declr = d; attrs = []; value = v } } ∷ [] }))
  shown-definition o b qs ss d at e h k _ (GivenBy g s) = ADefinition b qs ss d g at e h k s

  pub definition-reads : IsSound p → (i : ℕ) (o : Object) → slice_get p.objects i ≡ Some o → (at : ℕ) (ps : Pieces) → ReadsItem (ShowsDefinition p o) at (definition_line p o ps) ps
  definition-reads sound i o e at ps =
      let h = all-at (is_object p) p.objects i o sound.objects e in
      let v = object-values p sound i o e (ended ps) in
      let rest = space ∷ punct m.Assign ∷ space ∷ value p o (ended ps) in
      let text = around (declarator p.structures o.ctype) Inner_name (λ qs. ident o.name ∷ qs) rest in
      let q = leading-read (w.Static ∷ []) [] (laid at (definition_line p o ps)) at text refl (NoSpec [] _) in
      let r = one-read p.structures q.specs (words-closed q.shows refl) (declarator p.structures o.ctype) o.ctype (object-type p o.ctype h) (Plain (Some o.name)) (λ qs. ident o.name ∷ qs) (name-reads p.structures o.name o.ctype) o.name refl
      (IsGivenBy (ShowsInitial p o)) rest ps (λ at. value-of (ShowsInitial p o) (value p o (ended ps)) (ended ps) v.reads at) (laid at (definition_line p o ps)) q.next q.is in
      record {
        item = item.Decl (record { specs = q.specs ++ r.specs; inits = record { at = r.at; node = record { declr = r.declr; attrs = []; value = r.value } } ∷ [] });
        shows = shown-definition o r.base q.specs r.specs r.declr r.at q.shows r.shows_base r.shows r.value r.shows_value;
        next = r.next;
        is = ADeclItem [] [] _ _ _ r.is;
      }

-- ---- structures

pub tag-reads : (s : Structure) (at : ℕ) (ps : Pieces) → ReadsItem (ShowsTag s) at (tag_line s ps) ps
tag-reads s at ps = members.tag-reads s at ps

pub structure-reads : (p : Program) → IsSound p → (i : ℕ) (s : Structure) → slice_get p.structures i ≡ Some s → (at : ℕ) (ps : Pieces) → ReadsItem (ShowsStructure p s) at (structure p.structures s ps) ps
structure-reads p sound i s e at ps = members.structure-reads p sound i s e at ps

-- ---- they part

pub intrinsic-fits : (p : Program) (i : Intr) → is_name (intrinsic_name p.roles i) ≡ true → (ps : Pieces) → Fits ps → Fits (intrinsic_line p i ps)
intrinsic-fits p i n ps f = fitting.intrinsic-fits p i n ps f

pub tag-fits : (s : Structure) → is_name s.tag ≡ true → (ps : Pieces) → Fits ps → Fits (tag_line s ps)
tag-fits s n ps f = members.tag-fits s n ps f

pub structure-fits : (p : Program) → IsSound p → HasUnitNames p → (i : ℕ) (s : Structure) → slice_get p.structures i ≡ Some s → (ps : Pieces) → Fits ps → Fits (structure p.structures s ps)
structure-fits p sound names i s e ps f = members.structure-fits p sound i names s e ps f

pub device-fits : (d : Device) (x : Name) → is_name x ≡ true → (ps : Pieces) → Fits ps → Fits (device_named d (Some x) ps)
device-fits d x n ps f = fitting.device-fits d x n ps f

pub prototype-fits : (p : Program) → HasUnitNames p → (f : Func) → is_name f.name ≡ true → IsFunc p f → (ps : Pieces) → Fits ps → Fits (prototype p.structures f ps)
prototype-fits p names f n h ps g = fitting.prototype-fits p names f n h ps g

pub object-fits : (p : Program) → HasUnitNames p → (i : ℕ) (o : Object) → slice_get p.objects i ≡ Some o → is_object p o ≡ true → (ps : Pieces) → Fits ps → Fits (object_line p.structures o ps)
object-fits p names i o e h ps f = fitting.object-fits p names i o e h ps f

pub definition-fits : (p : Program) → IsSound p → HasUnitNames p → (i : ℕ) (o : Object) → slice_get p.objects i ≡ Some o → (ps : Pieces) → Fits ps → Fits (definition_line p o ps)
definition-fits p sound names i o e ps f = fitting.definition-fits p names sound i o e ps f
