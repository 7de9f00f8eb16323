-- Where functions get locals without names behind their own, the names of all others are apart as they were.
use Rattle.std.proofs.Common.{◌≡◌, ◌∙◌, ◌<◌, ◌≤◌, ◌+◌, ℕ, suc, Bool, true, List, [], ◌∷◌, ◌++◌, length, map, take, max, min, get_or, refl, ap, sym, subst, arith, length-append, if◌then◌else◌}
use Rattle.std.specs.Prelude.{◌||◌, not, nat_eq}
use Rattle.std.specs.List.{list_all, list_any}
use Rattle.std.proofs.lemmas.Bool.{true≢false, and_parts, and_from, or_from, not-true, not_from_false, ne_eqb, eqb-true}
use Rattle.std.proofs.lemmas.List.{take_at}
use Rattle.cc_program.specs.declared.func.Func.{Func}
use Rattle.cc_program.specs.declared.object.Object.{Object}
use Rattle.cc_program.specs.declared.program.Program.{Program}
use Rattle.cc_program.specs.declared.types.Sig.{out-Sig}
use Rattle.cc_syntax.specs.Names.{are_names, device_names, intrinsic_names, file_names, local_names}
use Rattle.cc_syntax.specs.Sound.{any_names, IsFuncBy, IsTypedProgram, AreNamesApart}
use Rattle.cc_syntax.specs.Types.{Named}
use Rattle.cc_program.specs.CcWords.Names.{is_name, are_distinct}
use Rattle.cc_lower_numbers.specs.Temporaries.{has_name, named_count, kept_count}
use Rattle.cc_lower_numbers_sound.specs.Names.{AreNamesApartButForTemporaries}
use Rattle.cc_lower_numbers_sound.proofs.Devices.{none_from}
use Rattle.cc_lower_numbers_sound.proofs.Locals.{params_few}
use Rattle.cc_lower_numbers_sound.proofs.NewNames.{tested_or}

-- ---- how many locals are kept

abbrev pub is_unnamed : Named → Bool
is_unnamed l = not (has_name l)

none_named : (ls : List Named) → list_all is_unnamed ls ≡ true → named_count ls ≡ 0
none_named [] h = refl
none_named (l ∷ ls) h =
    let p = and_parts (is_unnamed l) (list_all is_unnamed ls) h in
    ap (λ (b : Bool). if b then suc (named_count ls) else 0) (or_from (has_name l) (list_any has_name ls) (not-true (has_name l) p.0) (none_from has_name ls p.1))

named_front : (ls more : List Named) → list_all has_name ls ≡ true → list_all is_unnamed more ≡ true → named_count (ls ++ more) ≡ length ls
named_front [] more h k = none_named more k
named_front (l ∷ ls) more h k =
    let p = and_parts (has_name l) (list_all has_name ls) h in
    ap (λ (b : Bool). if b || list_any has_name (ls ++ more) then suc (named_count (ls ++ more)) else 0) p.0 ∙ ap suc (named_front ls more p.1 k)

least_of : (a b n m t r : ℕ) → a ≡ b → b ≤ m → n ≡ m → t ≡ m + r → min (max a n) t ≡ m
least_of a b n m t r h k l q = omega arith

kept_is : (f g : Func) (more : List Named) → g.params ≡ f.params → f.params ≤ length f.locals → list_all has_name f.locals ≡ true → list_all is_unnamed more ≡ true → g.locals ≡ f.locals ++ more → take (kept_count g) g.locals ≡ f.locals
kept_is f g more same within named unnamed e =
    let count : named_count g.locals ≡ length f.locals = ap named_count e ∙ named_front f.locals more named unnamed in
    let size : length g.locals ≡ length f.locals + length more = ap length e ∙ length-append f.locals more in
    let kept : kept_count g ≡ length f.locals = least_of g.params f.params (named_count g.locals) (length f.locals) (length g.locals) (length more) same within count size in
    ap (take (kept_count g)) e ∙ ap (λ (n : ℕ). take n (f.locals ++ more)) kept ∙ take_at f.locals more (length f.locals) refl

-- ---- names are not empty

some_name : (w : List ℕ) → is_name w ≡ true → not (nat_eq (length w) 0) ≡ true
unfolding is_name
some_name [] h = absurd (true≢false (sym h))
some_name (b ∷ bs) h = let n : suc (length bs) ≡ 0 → ⊥ = λ e. omega (arith, e) in not_from_false (nat_eq (suc (length bs)) 0) (ne_eqb (suc (length bs)) 0 n)

all_have : (ls : List Named) (rest : List (List ℕ)) → list_all is_name (local_names ls ++ rest) ≡ true → list_all has_name ls ≡ true
all_have [] rest h = refl
all_have (l ∷ ls) rest h =
    let p = and_parts (is_name l.0) (list_all is_name (local_names ls ++ rest)) h in and_from (has_name l) (list_all has_name ls) (some_name l.0 p.0) (all_have ls rest p.1)

-- ---- programs

-- the function with locals without names behind its own
pub record AddsUnnamed (f g : Func) : Type 0 where
  pub name : g.name ≡ f.name
  pub params : g.params ≡ f.params
  pub more : List Named
  pub unnamed : list_all is_unnamed more ≡ true
  pub locals : g.locals ≡ f.locals ++ more

abbrev pub with_funcs : Program → List Func → Program
with_funcs p funcs = record { target = p.target; roles = p.roles; structures = p.structures; devices = p.devices; objects = p.objects; funcs = funcs; main = p.main }

module _ (change : Func → Func) (adds : (f : Func) → AddsUnnamed f (change f)) (p : Program) (h : IsTypedProgram p) (n : AreNamesApart p) where
  abbrev q : Program
  q = with_funcs p (map change p.funcs)

  func_names : (fs : List Func) → map (λ (f : Func). f.name) (map change fs) ≡ map (λ (f : Func). f.name) fs
  func_names [] = refl
  func_names (f ∷ fs) = λ i. (adds f).name i ∷ func_names fs i

  file_same : file_names q ≡ file_names p
  file_same = ap (λ (l : List (List ℕ)). device_names p.devices ++ (map (λ (o : Object). o.name) p.objects ++ (l ++ intrinsic_names p.roles))) (func_names p.funcs)

  kept_apart : (f : Func) → IsFuncBy p any_names f → are_names (local_names f.locals ++ file_names p) ≡ true → are_names (local_names (take (kept_count (change f)) (change f).locals) ++ file_names q) ≡ true
  kept_apart f k names =
      let l = params_few (out-Sig f.sig).params f.locals k.first in
      let within : f.params ≤ length f.locals = subst (λ (m : ℕ). m ≤ length f.locals) (sym (eqb-true f.params (length (out-Sig f.sig).params) k.count)) l in
      let named = all_have f.locals (file_names p) (and_parts (list_all is_name (local_names f.locals ++ file_names p)) (are_distinct (local_names f.locals ++ file_names p)) names).0 in
      let a = adds f in
      (λ i. are_names (local_names (kept_is f (change f) a.more a.params within named a.unnamed a.locals i) ++ file_same i)) ∙ names

  each_kept : (fs : List Func) → ((i : ℕ) (d : Func) → i < length fs → are_names (local_names (take (kept_count (change (get_or fs i d))) (change (get_or fs i d)).locals) ++ file_names q) ≡ true) →
      list_all (λ (f : Func). are_names (local_names (take (kept_count f) f.locals) ++ file_names q)) (map change fs) ≡ true
  each_kept [] w = refl
  each_kept (f ∷ fs) w =
      and_from (are_names (local_names (take (kept_count (change f)) (change f).locals) ++ file_names q)) (list_all (λ (f : Func). are_names (local_names (take (kept_count f) f.locals) ++ file_names q)) (map change fs)) (w 0 f (omega arith))
      (each_kept fs (λ i d l. w (suc i) d (omega arith)))

  pub others_apart : AreNamesApartButForTemporaries q
  others_apart = record {
    tag_names = n.tag_names;
    names = ap are_names file_same ∙ n.names;
    members = n.members;
    locals = each_kept p.funcs (λ i d l. kept_apart (get_or p.funcs i d) (h.funcs i d l) (tested_or (λ (f : Func). are_names (local_names f.locals ++ file_names p)) p.funcs i d n.locals l));
  }
