-- The names of types, and declarations.
use Rattle.std.proofs.Common.{◌≡◌, ◌<◌, ℕ, zero, suc, ◌||◌, ltb, Bool, true, false, List, [], ◌∷◌, length, Option, Some, None, refl, arith, slice_get}
use Rattle.std.proofs.lemmas.Bool.Decides.{nat_tests}
use Rattle.cc_program.specs.declared.types.CType.{CType}
use Rattle.cc_program.specs.declared.types.Structure.{Structure}
use Rattle.cc_tree.specs.Terms.{ATypeName, NoSpec}
use Rattle.cc_pieces.specs.Declarators.{Declarator, type_name_of}
use Rattle.cc_pieces.specs.declared.types.Inside.TheVariants.{Nothing, Name as Named}
use Rattle.cc_pieces.specs.Pieces.{Pieces}
use Rattle.cc_expression_trees.specs.Laid.{laid}
use Rattle.cc_typed.specs.CcSyntax.Types.{has_members}
use Rattle.cc_expression_trees.specs.Types.{Core, Plain, NamesType}
use Rattle.cc_expression_trees.specs.ReadTypes.{ReadsTypeName, ReadsDeclared}
use Rattle.cc_expression_trees.proofs.Insides.{Inner, ReadsInner, core-named}
use Rattle.cc_expression_trees.proofs.Parameters.{around, Reads, nothing-reads, specs-of}

-- ---- structures that types name

with-members : (o : Option Structure) → has_members o ≡ true → (s : Structure) × (o ≡ Some s)
with-members None h = absurd (cc)
with-members (Some s) h = (s, refl)

below : (structures : List Structure) (i : ℕ) → i < length structures → (s : Structure) × (slice_get structures i ≡ Some s)
below [] i h = absurd (omega (arith, h))
below (s ∷ ss) zero h = (s, refl)
below (s ∷ ss) (suc i) h = below ss i (omega (arith, h))

-- one with members, among those that are known, or one of all
pub there-by : (structures : List Structure) (i : ℕ) (o : Option Structure) → (has_members o ≡ true → (s : Structure) × (slice_get structures i ≡ Some s)) → (has_members o || ltb i (length structures)) ≡ true →
    (s : Structure) × (slice_get structures i ≡ Some s)
there-by structures i o k h = by (has_members o) refl where
  less : (n m : ℕ) → ltb n m ≡ true → n < m
  less n m h = grind (arith, nat_tests)

  other : (t u : Bool) → t ≡ false → (t || u) ≡ true → u ≡ true
  other true u e h = absurd (cc)
  other false u e h = h

  by : (t : Bool) → has_members o ≡ t → (s : Structure) × (slice_get structures i ≡ Some s)
  by true e = k e
  by false e = below structures i (less i (length structures) (other (has_members o) (ltb i (length structures)) e h))

pub there : (structures : List Structure) (i : ℕ) → (has_members (slice_get structures i) || ltb i (length structures)) ≡ true → (s : Structure) × (slice_get structures i ≡ Some s)
there structures i h = there-by structures i (slice_get structures i) (with-members (slice_get structures i)) h

-- ---- reading

pub type-name-of : (structures : List Structure) (d : Declarator) (t : CType) → Reads structures d t → (at : ℕ) (ps : Pieces) → ReadsTypeName structures t at (type_name_of d ps) ps
type-name-of structures d t r at ps =
    let q = r (Plain None) t Nothing (λ qs. qs) (nothing-reads structures t) [] (laid at (type_name_of d ps)) at ps (NoSpec [] _) in
    record {
      type = record { specs = q.specs; declr = q.declr };
      shows = NamesType q.base t q.specs q.declr q.shows_base q.shows;
      next = q.next;
      is = ATypeName [] q.specs q.declr _ q.rest _ (specs-of structures q) q.is (core-named structures q.shows);
    }

pub declared-of : (structures : List Structure) (d : Declarator) (t : CType) → Reads structures d t → (core : Core) (inner : Inner) → ReadsInner structures core t t Named inner → (at : ℕ) (ps : Pieces) → ReadsDeclared structures core t at (around d Named inner ps) ps
declared-of structures d t r core inner h at ps =
    let q = r core t Named inner h [] (laid at (around d Named inner ps)) at ps (NoSpec [] _) in
    record { base = q.base; specs = q.specs; declr = q.declr; shows_base = q.shows_base; shows = q.shows; rest = q.rest; next = q.next; is_specs = specs-of structures q; is_declr = q.is }
