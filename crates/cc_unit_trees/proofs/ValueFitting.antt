-- The pieces of an address part from one another.
use Rattle.std.proofs.Common.{arith, ◌≡◌, ◌≤◌, ◌-◌, ◌^◌, ℕ, Bool, true, false, List, [], ◌∷◌, ◌++◌, length, Some, slice_get, nat_eq, refl, sym, subst, lit≤, true≢false}
use Rattle.std.proofs.lemmas.Bool.Decides.{nat_tests}
use Rattle.std.specs.List.{list_all}
use Rattle.cc_program.specs.CcWords.Names.{is_identifier, is_letter, is_letter_or_digit}
use Rattle.cc_lex.specs.Bytes.{begins_with}
use Rattle.cc_lex.specs.declared.token.Kind.TheVariants as kind
use Rattle.cc_lex.specs.declared.token.Mark.{Mark}
use Rattle.cc_lex.specs.declared.token.Mark.TheVariants as m
use Rattle.cc_lex.proofs.Booleans.{and-true, or-false}
use Rattle.cc_bodies.specs.Names.{named, func_name}
use Rattle.cc_pieces.specs.Pieces.{Pieces, punct, plain_number, flat}
use Rattle.cc_expression_trees.specs.Parts.{Fits, is_apart}
use Rattle.cc_expression_trees.proofs.Spelling.{name-parts}
use Rattle.cc_print.specs.Values.{has_elements, last_index, one_past, step_text, path_text, object_path, root_path, address_text}
use Rattle.cc_program.specs.declared.program.Program.{Program}
use Rattle.cc_program.specs.declared.types.CType.{CType}
use Rattle.cc_program.specs.declared.value.Address.{Address}
use Rattle.cc_program.specs.declared.value.Address.TheVariants as address
use Rattle.cc_program.specs.declared.value.Part.{Part}
use Rattle.cc_program.specs.declared.value.Part.TheVariants as part
use Rattle.cc_program.specs.declared.value.Root.{Root}
use Rattle.cc_program.specs.declared.value.Root.TheVariants as root
use Rattle.cc_typed.specs.CcSyntax.Initial.{step_into, place_at}
use Rattle.cc_typed.specs.CcSyntax.Programs.{is_address}
use Rattle.cc_typed.specs.CcSyntax.Sound.{are_structures, is_object}
use Rattle.cc_typed.specs.CcSyntax.Values.{PlaceType, object_place, pointer_to}
use Rattle.cc_expression_trees.specs.Soft.{IsSoft}
use Rattle.cc_expression_trees.proofs.TypeFitting.{name-apart, bracket-apart, unbracket-apart, number-fits}
use Rattle.cc_unit_trees.specs.ValueNames.{HasUnitNames}
use Rattle.cc_unit_trees.proofs.Addresses.{IsNamed, NamesElement, NamesWhole, Names, names-of, function-there, first-step}
use Rattle.cc_unit_trees.proofs.Known.{all-at, some-kind, member-step, index-step, IsKnown, index-known, member-known, bound-few, below-few}

-- ---- bytes

-- no name goes on there
abbrev NoWord : List ℕ → Type 0
NoWord text = begins_with is_letter_or_digit text ≡ false

soft-no-word : (text : List ℕ) → IsSoft text → NoWord text
soft-no-word [] h = refl
soft-no-word (b ∷ text) h = (or-false (is_letter_or_digit b) _ h).0

word-free : (x text : List ℕ) → NoWord text → is_apart (kind.Ident x) text ≡ true
word-free x [] h = refl
word-free x (b ∷ text) h = rw h refl

-- a mark in front of a name
letter-first : (o : Mark) → ((b : ℕ) (text : List ℕ) → is_letter b ≡ true → is_apart (kind.Punct o) (b ∷ text) ≡ true) → (x text : List ℕ) → is_identifier x ≡ true → is_apart (kind.Punct o) (x ++ text) ≡ true
letter-first o k [] text h = absurd (cc)
letter-first o k (b ∷ bs) text h = k b (bs ++ text) (and-true (is_letter b) (list_all is_letter_or_digit bs) h).0

dot-letter : (b : ℕ) (text : List ℕ) → is_letter b ≡ true → is_apart (kind.Punct m.Dot) (b ∷ text) ≡ true
dot-letter b text h = grind (arith, nat_tests)

amp-letter : (b : ℕ) (text : List ℕ) → is_letter b ≡ true → is_apart (kind.Punct m.Amp) (b ∷ text) ≡ true
amp-letter b text h = grind (arith, nat_tests)

-- ---- paths

few-index : (n k : ℕ) → n ≤ k → k ≤ 65535 → n ≤ 2 ^ 63 - 1
few-index n k h l = omega (arith, h, l)

index-fits : (n : ℕ) (ps : Pieces) → n ≤ 2 ^ 63 - 1 → Fits ps → Fits (punct m.LBracket ∷ plain_number n ∷ punct m.RBracket ∷ ps)
index-fits n ps h f = (refl, bracket-apart _, number-fits n (punct m.RBracket ∷ ps) h refl (refl, unbracket-apart (flat ps), f))

past-fits : (t : Bool) (ps : Pieces) → Fits ps → IsSoft (flat ps) → Fits (one_past t ps) × NoWord (flat (one_past t ps))
past-fits true ps f s = ((refl, (refl, refl, (refl, number-fits 1 ps (lit≤ tt) s f))), refl)
past-fits false ps f s = (f, soft-no-word (flat ps) s)

module _ (p : Program) (good : are_structures [] (length p.structures) p.target p.structures ≡ true) (names : HasUnitNames p) where
  end-fits : (to : CType) (path : List Part) (index count : ℕ) (b : PlaceType) → IsKnown p good b → IsNamed to path index count b → (ps : Pieces) → Fits ps → IsSoft (flat ps) →
      Fits (last_index (has_elements to (Some b)) index count ps) × NoWord (flat (last_index (has_elements to (Some b)) index count ps))
  end-fits to path index count b k (NamesElement e g h u) ps f s =
      subst (λ t. Fits (last_index t index count ps) × NoWord (flat (last_index t index count ps))) (sym e) (index-fits index ps (few-index index count h (bound-few p good b count k g)) f, refl)
  end-fits to path index count b k (NamesWhole e g h l u) ps f s =
      subst (λ t. Fits (last_index t index count ps) × NoWord (flat (last_index t index count ps))) (sym e) (past-fits (nat_eq index count) ps f s)

  -- what is behind the path is an index or one past
  path-fits : (to : CType) (full : List Part) (index count : ℕ) (path : List Part) (a b : PlaceType) → IsKnown p good a → place_at p.structures path a ≡ Some b → IsNamed to full index count b → (ps : Pieces) → Fits ps → IsSoft (flat ps) →
      Fits (path_text p.structures to index count (Some a) path ps) × NoWord (flat (path_text p.structures to index count (Some a) path ps))
  path-fits to full index count [] a b k h n ps f s =
      let same : b ≡ a = cc in
      end-fits to full index count a k (subst (IsNamed to full index count) same n) ps f s
  path-fits to full index count (part.Member i ∷ path) a b k h n ps f s =
      let c = first-step (step_into p.structures (part.Member i) a) (place_at p.structures path) b h in
      let step = member-step p.structures i a c.0 c.1 in
      let r = path-fits to full index count path c.0 b (member-known p good i a c.0 step) c.2 n ps f s in
      let x = step.member.0 in
      let is = names.members step.structure i step.found step.member step.there step.among in
      let text = path_text p.structures to index count (Some c.0) path ps in
      subst (λ o. Fits (step_text p.structures (Some a) (part.Member i) (path_text p.structures to index count o path ps)) × NoWord (flat (step_text p.structures (Some a) (part.Member i) (path_text p.structures to index count o path ps)))) (sym c.1)
      (subst (λ o. Fits (punct m.Dot ∷ named o text) × NoWord (flat (punct m.Dot ∷ named o text))) (sym step.named)
      ((refl, letter-first m.Dot dot-letter x (flat text) (name-parts x is).form, (is, word-free x (flat text) r.1, r.0)), refl))
  path-fits to full index count (part.Index i ∷ path) a b k h n ps f s =
      let c = first-step (step_into p.structures (part.Index i) a) (place_at p.structures path) b h in
      let step = index-step p.structures i a c.0 c.1 in
      let r = path-fits to full index count path c.0 b (index-known p good a c.0 k step.1) c.2 n ps f s in
      subst (λ o. Fits (step_text p.structures (Some a) (part.Index i) (path_text p.structures to index count o path ps)) × NoWord (flat (step_text p.structures (Some a) (part.Index i) (path_text p.structures to index count o path ps)))) (sym c.1)
      (index-fits i (path_text p.structures to index count (Some c.0) path ps) (below-few p good a i k step.0) r.0, refl)

  module _ (objects : list_all (is_object p) p.objects ≡ true) where
    static-fits : (to : CType) (i : ℕ) (path : List Part) (index count : ℕ) → Names p to i path index count → (ps : Pieces) → Fits ps → IsSoft (flat ps) → Fits (punct m.Amp ∷ object_path p to path index count (slice_get p.objects i) ps)
    static-fits to i path index count r ps f s =
        let o = r.owner in
        let is = names.objects i o r.there in
        let text = path_text p.structures to index count (Some (object_place o.ctype)) path ps in
        let known : IsKnown p good (object_place o.ctype) = (p.structures, some-kind _ (all-at (is_object p) p.objects i o objects r.there)) in
        let q = path-fits to path index count path (object_place o.ctype) r.target known r.leads r.is ps f s in
        subst (λ x. Fits (punct m.Amp ∷ object_path p to path index count x ps)) (sym r.there)
        (refl, letter-first m.Amp amp-letter o.name (flat text) (name-parts o.name is).form, (is, word-free o.name (flat text) q.1, q.0))

    root-fits : (to : CType) (object : Root) (path : List Part) (index count : ℕ) → is_address p (pointer_to to) (address.At object path index count) ≡ true → (ps : Pieces) → Fits ps → IsSoft (flat ps) → Fits (root_path p to path index count object ps)
    root-fits to (root.Auto activation f local) path index count h ps g s = absurd (true≢false (sym h))
    root-fits to (root.Static i) path index count h ps f s = static-fits to i path index count (names-of p to i path index count h) ps f s

    pub address-fits : (to : CType) (a : Address) → is_address p (pointer_to to) a ≡ true → (ps : Pieces) → Fits ps → IsSoft (flat ps) → Fits (address_text p to a ps)
    address-fits to address.Null h ps f s = number-fits 0 ps (lit≤ tt) s f
    address-fits to (address.Func i) h ps f s =
        let g = function-there (slice_get p.funcs i) (pointer_to to) h in
        subst (λ o. Fits (named (func_name o) ps)) (sym g.1) (names.funcs i g.0 g.1, name-apart g.0.name (flat ps) s, f)
    address-fits to (address.At object path index count) h ps f s = root-fits to object path index count h ps f s
