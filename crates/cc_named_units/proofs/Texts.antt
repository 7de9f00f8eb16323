-- What the typed unit of a text has.
use Rattle.std.proofs.Common.{◌≡◌, ◌≤◌, ◌<◌, ◌^◌, ℕ, zero, suc, Bool, true, false, List, [], ◌∷◌, length, Option, Some, None, Ok, slice_get, refl, subst, arith}
use Rattle.cc_named_units.proofs.CountedStatements.{sentence_read}
use Rattle.cc_named_units.proofs.CountedTexts.{text_spelled}
use Rattle.std.specs.Prelude.{not, ◌||◌, is_some, nat_lt, slice_index_or, if◌then◌else◌}
use Rattle.std.specs.List.{All, list_all, list_any}
use Rattle.std.specs.Str.{bytes_eq}
use Rattle.std.proofs.lemmas.Slice.Eq.{bytes_eq-Decides}
use Rattle.cc_type.specs.CcLex.Tokens.{Tokens}
use Rattle.cc_type.specs.CcLex.declared.token.Token.{Token}
use Rattle.cc_named_units.specs.Named.{AreFewMembers, HasFewMembers, IsNamedState, IsNamedStructure, Limits, is_own}
use Rattle.cc_named_units.proofs.NamedStatements.{sentence_named}
use Rattle.cc_named_units.proofs.NamedTexts.{text_named}
use Rattle.cc_named_units.specs.Names.{unit_named}
use Rattle.cc_program.specs.CcNum.declared.target.Target.{Target}
use Rattle.cc_type.specs.CcNumbering.Units.{ids_of}
use Rattle.cc_program.specs.declared.expr.Intr.TheVariants as intr
use Rattle.cc_program.specs.declared.program.Roles.{Roles}
use Rattle.cc_program.proofs.Each.{Each}
use Rattle.cc_type.specs.CcScopes.State.{KnownStructure, Name, State, at_first}
use Rattle.cc_type.specs.CcScopes.Verdicts.{Checked, checked}
use Rattle.cc_relocated_units.specs.Units.{IsOfText, is_main_name}
use Rattle.cc_sound_terms.specs.Ordered.{HasMembers}
use Rattle.cc_type.proofs.CcSyntax.Prefixes.{both_true}
use Rattle.cc_type.specs.CcSyntax.Names.{intrinsic_names, local_names}
use Rattle.cc_type.specs.CcSyntax.Sound.{main_name}
use Rattle.cc_type.specs.CcSyntax.Types.{Named}
use Rattle.cc_tree.specs.Sentences.{IsSentence}
use Rattle.cc_tree.specs.declared.unit.Unit.{Unit as UnitTree}
use Rattle.cc_type.specs.Defined.{defined_names}
use Rattle.cc_type.specs.Typed.{IsTyped}
use Rattle.cc_type.specs.Units.{items_found}
use Rattle.cc_type.specs.CcUnit.declared.unit.TypedUnit.{TypedUnit}
use Rattle.cc_type.specs.CcUnit.declared.unit.UnitName.{UnitName}
use Rattle.cc_program.specs.CcWords.Names.{are_distinct}
use Rattle.cc_named_units.proofs.Units.{items_add, unit_adds, left_of_text, names_own, left_few}

named : (text : List ℕ) (ts : List Token) (u : UnitTree) → Tokens text ts → IsSentence ts u → unit_named u ≡ true
named text ts u d s = sentence_named ts u s (text_named text ts d s.inside)

pub of_text : (text : List ℕ) (ts : List Token) (u : UnitTree) (target : Target) (roles : Roles) (t : TypedUnit) → length text < 2 ^ 32 → Tokens text ts → IsSentence ts u → IsTyped u target roles t → IsOfText t
of_text text ts u target roles t small d s h =
    let a = unit_adds u target roles t (length ts) (named text ts u d s) (sentence_read ts u s) h in
    let l = text_spelled text ts d in
    let few : length ts < 2 ^ 32 = omega arith in
    subst IsOfText a.1 (left_of_text (record { few = length ts; roles = roles }) a.0 few (a.2.state (record { structures = tt; names = tt })))

pub few_there : (text : List ℕ) (ts : List Token) (u : UnitTree) (target : Target) (roles : Roles) (t : TypedUnit) → Tokens text ts → IsSentence ts u → IsTyped u target roles t → (length t.names ≤ length ts) × (length t.structures ≤ length ts)
few_there text ts u target roles t d s h =
    let c = sentence_read ts u s in
    let a = unit_adds u target roles t (length ts) (named text ts u d s) c h in
    let n = a.2.few_names in
    let m = a.2.few_structures in
    subst (λ (v : TypedUnit). (length v.names ≤ length ts) × (length v.structures ≤ length ts)) a.1 (left_few a.0 (length ts) (omega arith) (omega arith))

pub own_names : (text : List ℕ) (ts : List Token) (u : UnitTree) (target : Target) (roles : Roles) (t : TypedUnit) → Tokens text ts → IsSentence ts u → IsTyped u target roles t → list_all (λ (n : UnitName). is_own roles n.name) t.names ≡ true
own_names text ts u target roles t d s h =
    let a = unit_adds u target roles t (length ts) (named text ts u d s) (sentence_read ts u s) h in
    let state = a.2.state (record { structures = tt; names = tt }) in
    subst (λ (v : TypedUnit). list_all (λ (n : UnitName). is_own roles n.name) v.names ≡ true) a.1 (names_own (record { few = length ts; roles = roles }) (ids_of a.0) a.0.names state.names)

-- ---- members of structures

each_there : {A : Type 0} (Good : A → Type 0) (xs : List A) (i : ℕ) (x : A) → slice_get xs i ≡ Some x → Each Good xs → Good x
each_there Good [] i x e h = absurd (cc)
each_there Good (y ∷ xs) zero x e h = subst Good (let s : y ≡ x = cc e in s) h.0
each_there Good (y ∷ xs) (suc i) x e h = each_there Good xs i x e h.1

-- a complete structure behind the last item of a text has members, no two of one name
pub members_there : (text : List ℕ) (ts : List Token) (u : UnitTree) (target : Target) (roles : Roles) → Tokens text ts → IsSentence ts u → (r : Checked × State) → items_found target roles (defined_names u) u.items at_first ≡ Ok r →
    (i : ℕ) (ms : List Named) → HasMembers r.1.structures i ms → (nat_lt 0 (length ms) ≡ true) × (are_distinct (local_names ms) ≡ true)
members_there text ts u target roles d s r f i ms h =
    let adds = items_add target (defined_names u) most u.items (named text ts u d s) (sentence_read ts u s) checked at_first r f in
    let state = adds.state (record { structures = tt; names = tt }) in
    let k = each_there (IsNamedStructure most) r.1.structures i h.0 h.1 state.structures in
    let m : AreFewMembers (length ts) ms = subst (HasFewMembers (length ts)) h.2 k.members in
    (m.some, m.apart)
  where
    most : Limits
    most = record { few = length ts; roles = roles }

-- ---- `main`

by_four : (a b c d : Bool) → not (is_some (if a then Some intr.Off else (if b then Some intr.On else (if c then Some intr.Save else (if d then Some intr.Restore else None))))) ≡ true → (a || (b || (c || (d || false)))) ≡ false
by_four true b c d h = absurd (cc)
by_four false true c d h = absurd (cc)
by_four false false true d h = absurd (cc)
by_four false false false true h = absurd (cc)
by_four false false false false h = refl

no_intrinsic : (roles : Roles) (x : Name) → is_own roles (Some x) ≡ true → list_any (bytes_eq x) (intrinsic_names roles) ≡ false
no_intrinsic roles x h = by_four (bytes_eq x roles.off) (bytes_eq x roles.on) (bytes_eq x roles.save) (bytes_eq x roles.restore) h

main_own : (roles : Roles) (o : Option Name) → is_own roles o ≡ true → is_main_name o ≡ true → list_any (bytes_eq main_name) (intrinsic_names roles) ≡ false
main_own roles None h m = absurd (cc)
main_own roles (Some x) h m = subst (λ (y : Name). list_any (bytes_eq y) (intrinsic_names roles) ≡ false) ((bytes_eq-Decides x main_name).0 m) (no_intrinsic roles x h)

each_index : (roles : Roles) (xs : List UnitName) → list_all (λ (n : UnitName). is_own roles n.name) xs ≡ true → (k : ℕ) (d : UnitName) → k < length xs → is_own roles (slice_index_or xs k d).name ≡ true
each_index roles [] h k d l = absurd (omega arith)
each_index roles (x ∷ xs) h zero d l = (both_true (is_own roles x.name) (list_all (λ (n : UnitName). is_own roles n.name) xs) h).0
each_index roles (x ∷ xs) h (suc k) d l = each_index roles xs (both_true (is_own roles x.name) (list_all (λ (n : UnitName). is_own roles n.name) xs) h).1 k d (omega arith)

-- where a unit defines `main`, no intrinsic has that name
pub own_main : (text : List ℕ) (ts : List Token) (u : UnitTree) (target : Target) (roles : Roles) (t : TypedUnit) → Tokens text ts → IsSentence ts u → IsTyped u target roles t →
    All (λ (n : UnitName). is_main_name n.name ≡ true → nat_lt 0 n.count ≡ true → list_any (bytes_eq main_name) (intrinsic_names roles) ≡ false) t.names
own_main text ts u target roles t d s h = λ k e l m i. main_own roles (slice_index_or t.names k e).name (each_index roles t.names (own_names text ts u target roles t d s h) k e l) m
