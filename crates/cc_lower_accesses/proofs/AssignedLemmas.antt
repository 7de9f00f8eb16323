-- The list of registers that an expression assigns has those that its effects name.
use Rattle.std.proofs.Common.{◌≡◌, ◌<◌, ◌+◌, ◌++◌, ◌||◌, ◌==◌, ◌⊎◌, inl, inr, ℕ, Bool, true, false, List, [], ◌∷◌, map, length, take, get_or, Option, Some, None, refl, ap, sym, ◌∙◌, append_assoc}
use Rattle.std.proofs.lemmas.List.{append-nil, take_more, take_all}
use Rattle.std.proofs.Math.Path.{fun_ext}
use Rattle.std.specs.Prelude.{if◌then◌else◌}
use Rattle.std.specs.List.{flat_map}
use Rattle.cc_program.specs.CcNum.declared.int_type.IntType.{IntType}
use Rattle.cc_program.specs.CcNum.declared.op.BinOp.{BinOp}
use Rattle.cc_program.specs.declared.expr.Expr.{Expr, Bin, Move, Gap, Compare, Both, Either, Seq, Assign, Change, After, Call, roll-Expr, map-Expr, fold-roll-Expr}
use Rattle.cc_program.specs.declared.expr.Expr.TheOpen as one
use Rattle.cc_program.specs.declared.expr.Place.{Place, map-Place}
use Rattle.cc_program.specs.declared.func.Func.{Func}
use Rattle.cc_program.proofs.FoldFusion.{fused, place_fused}
use Rattle.cc_syntax.specs.Effects.{Registers, Effects, PlaceEffects, no_one, also, only, all_assigned, effect_step, place_effect_step, effects_of, place_effects_of}
use Rattle.cc_syntax.specs.Registers.{is_register}
use Rattle.cc_lower_accesses.specs.Assigned.{among, listed, PlaceRegisters, registers_step, place_registers_step, registers_in, place_registers_in}

-- ---- what both are: the registers alone
abbrev Inside : Type 0
Inside = Option ℕ × Registers

abbrev all_of : List Registers → Registers
all_of [] = no_one
all_of (a ∷ rest) = also a (all_of rest)

abbrev operand_of : Option Registers → Registers
operand_of None = no_one
operand_of (Some a) = a

abbrev assigned_step : one.Expr-F Registers Inside → Registers
assigned_step (one.Const n t) = no_one
assigned_step (one.Null t) = no_one
assigned_step (one.FuncAddr f) = no_one
assigned_step (one.Load a) = a.1
assigned_step (one.AddrOf a) = a.1
assigned_step (one.Un o t a) = a
assigned_step (one.Bin o t a b) = also a b
assigned_step (one.Conv t a) = a
assigned_step (one.Qualify t a) = a
assigned_step (one.Move a b back) = also a b
assigned_step (one.Gap a b) = also a b
assigned_step (one.Compare o a b) = also a b
assigned_step (one.Both a b) = also a b
assigned_step (one.Either a b) = also a b
assigned_step (one.Choose c a b) = also c (also a b)
assigned_step (one.Assign a e) = also (only a.0) (also a.1 e)
assigned_step (one.Change a o t e) = also (only a.0) (also a.1 e)
assigned_step (one.After a down) = also (only a.0) a.1
assigned_step (one.Call f args) = also f (all_of args)
assigned_step (one.Intr i a) = operand_of a
assigned_step (one.Seq a b) = also a b

flat-map : {A B : Type 0} (f : A → List B) (xs : List A) → flat_map (λ (a : List B). a) (map f xs) ≡ flat_map f xs
flat-map f [] = refl
flat-map {B = B} f (x ∷ xs) = ap (λ (l : List B). f x ++ l) (flat-map f xs)

module _ (f : Func) where
  abbrev place_assigned_step : one.Place-F Registers Inside → Inside
  place_assigned_step (one.Local r) = (if is_register f r then Some r else None, no_one)
  place_assigned_step (one.Static i) = (None, no_one)
  place_assigned_step (one.Device d) = (None, no_one)
  place_assigned_step (one.Element a i) = (None, also a.1 i)
  place_assigned_step (one.Member a m) = (None, a.1)
  place_assigned_step (one.Deref e) = (None, e)

  -- ---- the effects

  all-same : (es : List Effects) → all_assigned es ≡ all_of (map (λ (a : Effects). a.assigned) es)
  all-same [] = refl
  all-same (a ∷ es) = ap (also a.assigned) (all-same es)

  effects-same : (x : one.Expr-F Effects PlaceEffects) → (effect_step x).assigned ≡ assigned_step (map-Expr Effects PlaceEffects Registers Inside (λ a. a.assigned) (λ a. (a.register, a.assigned)) x)
  effects-same (one.Const n t) = refl
  effects-same (one.Null t) = refl
  effects-same (one.FuncAddr g) = refl
  effects-same (one.Load a) = refl
  effects-same (one.AddrOf a) = refl
  effects-same (one.Un o t a) = refl
  effects-same (one.Bin o t a b) = refl
  effects-same (one.Conv t a) = refl
  effects-same (one.Qualify t a) = refl
  effects-same (one.Move a b back) = refl
  effects-same (one.Gap a b) = refl
  effects-same (one.Compare o a b) = refl
  effects-same (one.Both a b) = refl
  effects-same (one.Either a b) = refl
  effects-same (one.Choose c a b) = refl
  effects-same (one.Assign a e) = refl
  effects-same (one.Change a o t e) = refl
  effects-same (one.After a down) = refl
  effects-same (one.Call g args) = ap (also g.assigned) (all-same args)
  effects-same (one.Intr i None) = refl
  effects-same (one.Intr i (Some a)) = refl
  effects-same (one.Seq a b) = refl

  place-effects-same : (x : one.Place-F Effects PlaceEffects) →
      ((place_effect_step f x).register, (place_effect_step f x).assigned) ≡ place_assigned_step (map-Place Effects PlaceEffects Registers Inside (λ a. a.assigned) (λ a. (a.register, a.assigned)) x)
  place-effects-same (one.Local r) = refl
  place-effects-same (one.Static i) = refl
  place-effects-same (one.Device d) = refl
  place-effects-same (one.Element a i) = refl
  place-effects-same (one.Member a m) = refl
  place-effects-same (one.Deref e) = refl

  -- ---- the lists

  or_assoc : (a b c : Bool) → (a || b || c) ≡ (a || (b || c))
  or_assoc true b c = refl
  or_assoc false b c = refl

  or_false : (a : Bool) → (a || false) ≡ a
  or_false true = refl
  or_false false = refl

  append-at : (xs ys : List ℕ) (r : ℕ) → among (xs ++ ys) r ≡ (among xs r || among ys r)
  append-at [] ys r = refl
  append-at (x ∷ xs) ys r = ap (λ (b : Bool). (x == r) || b) (append-at xs ys r) ∙ sym (or_assoc (x == r) (among xs r) (among ys r))

  among-append : (xs ys : List ℕ) → among (xs ++ ys) ≡ also (among xs) (among ys)
  among-append xs ys = fun_ext (append-at xs ys)

  among-listed : (r : Option ℕ) → among (listed r) ≡ only r
  among-listed None = refl
  among-listed (Some n) = fun_ext (λ r. or_false (n == r))

  among-inside : (a : Option ℕ) (xs ys : List ℕ) → among (listed a ++ (xs ++ ys)) ≡ also (only a) (also (among xs) (among ys))
  among-inside a xs ys =
      among-append (listed a) (xs ++ ys) ∙ ap (λ (w : Registers). also w (among (xs ++ ys))) (among-listed a) ∙ ap (also (only a)) (among-append xs ys)

  among-flat : (xs : List (List ℕ)) → among (flat_map (λ a. a) xs) ≡ all_of (map among xs)
  among-flat [] = refl
  among-flat (x ∷ xs) = among-append x (flat_map (λ a. a) xs) ∙ ap (also (among x)) (among-flat xs)

  lists-same : (x : one.Expr-F (List ℕ) PlaceRegisters) →
      among (registers_step x) ≡ assigned_step (map-Expr (List ℕ) PlaceRegisters Registers Inside among (λ a. (a.register, among a.inside)) x)
  lists-same (one.Const n t) = refl
  lists-same (one.Null t) = refl
  lists-same (one.FuncAddr g) = refl
  lists-same (one.Load a) = refl
  lists-same (one.AddrOf a) = refl
  lists-same (one.Un o t a) = refl
  lists-same (one.Bin o t a b) = among-append a b
  lists-same (one.Conv t a) = refl
  lists-same (one.Qualify t a) = refl
  lists-same (one.Move a b back) = among-append a b
  lists-same (one.Gap a b) = among-append a b
  lists-same (one.Compare o a b) = among-append a b
  lists-same (one.Both a b) = among-append a b
  lists-same (one.Either a b) = among-append a b
  lists-same (one.Choose c a b) = among-append c (a ++ b) ∙ ap (also (among c)) (among-append a b)
  lists-same (one.Assign a e) = among-inside a.register a.inside e
  lists-same (one.Change a o t e) = among-inside a.register a.inside e
  lists-same (one.After a down) = among-append (listed a.register) a.inside ∙ ap (λ (w : Registers). also w (among a.inside)) (among-listed a.register)
  lists-same (one.Call g args) = among-append g (flat_map (λ a. a) args) ∙ ap (also (among g)) (among-flat args)
  lists-same (one.Intr i None) = refl
  lists-same (one.Intr i (Some a)) = refl
  lists-same (one.Seq a b) = among-append a b

  place-lists-same : (x : one.Place-F (List ℕ) PlaceRegisters) →
      ((place_registers_step f x).register, among (place_registers_step f x).inside) ≡
      place_assigned_step (map-Place (List ℕ) PlaceRegisters Registers Inside among (λ a. (a.register, among a.inside)) x)
  place-lists-same (one.Local r) = refl
  place-lists-same (one.Static i) = refl
  place-lists-same (one.Device d) = refl
  place-lists-same (one.Element a i) = ap (λ (w : Registers). (None, w)) (among-append a.inside i)
  place-lists-same (one.Member a m) = refl
  place-lists-same (one.Deref e) = refl

  -- ---- both

  pub assigned-is : (e : Expr) → among (registers_in f e) ≡ (effects_of f e).assigned
  unfolding registers_in effects_of
  assigned-is e =
      fused registers_step (place_registers_step f) assigned_step place_assigned_step among (λ (a : PlaceRegisters). (a.register, among a.inside)) lists-same place-lists-same e ∙
      sym (fused effect_step (place_effect_step f) assigned_step place_assigned_step (λ (a : Effects). a.assigned) (λ (a : PlaceEffects). (a.register, a.assigned)) effects-same place-effects-same e)

  -- the register that a place is
  pub same-register : (a : Place) → (place_effects_of f a).register ≡ (place_registers_in f a).register
  unfolding place_registers_in place_effects_of
  same-register a =
      ap (λ (w : Inside). w.0) (place_fused effect_step (place_effect_step f) assigned_step place_assigned_step (λ (a : Effects). a.assigned) (λ (a : PlaceEffects). (a.register, a.assigned)) effects-same place-effects-same a) ∙
      sym (ap (λ (w : Inside). w.0) (place_fused registers_step (place_registers_step f) assigned_step place_assigned_step among (λ (a : PlaceRegisters). (a.register, among a.inside)) lists-same place-lists-same a))

  -- one level
  registers-at : (e : Expr) (x : one.Expr-F Expr Place) → e ≡ roll-Expr x →
      registers_in f e ≡ registers_step (map-Expr Expr Place (List ℕ) PlaceRegisters (registers_in f) (place_registers_in f) x)
  unfolding registers_in place_registers_in
  registers-at e x h =
      ap (registers_in f) h ∙ fold-roll-Expr (List ℕ) PlaceRegisters registers_step (place_registers_step f) x

  abbrev IsTwo : Expr → Expr → Expr → Type 0
  IsTwo e a b =
      ((o : BinOp) × (t : IntType) × e ≡ Bin o t a b) ⊎ (((back : Bool) × e ≡ Move a b back) ⊎ ((e ≡ Gap a b) ⊎ (((o : BinOp) × e ≡ Compare o a b) ⊎ ((e ≡ Both a b) ⊎ ((e ≡ Either a b) ⊎ (e ≡ Seq a b))))))

  pub two-is : (e a b : Expr) → IsTwo e a b → registers_in f e ≡ registers_in f a ++ registers_in f b
  unfolding roll-Expr denote.Hole.Carrier.roll
  two-is e a b (inl h) = registers-at e (one.Bin h.0 h.1 a b) h.2
  two-is e a b (inr (inl h)) = registers-at e (one.Move a b h.0) h.1
  two-is e a b (inr (inr (inl h))) = registers-at e (one.Gap a b) h
  two-is e a b (inr (inr (inr (inl h)))) = registers-at e (one.Compare h.0 a b) h.1
  two-is e a b (inr (inr (inr (inr (inl h))))) = registers-at e (one.Both a b) h
  two-is e a b (inr (inr (inr (inr (inr (inl h)))))) = registers-at e (one.Either a b) h
  two-is e a b (inr (inr (inr (inr (inr (inr h)))))) = registers-at e (one.Seq a b) h

  pub assign-is : (e : Expr) (a : Place) (v : Expr) → (e ≡ Assign a v) ⊎ ((o : BinOp) × (t : IntType) × e ≡ Change a o t v) →
      registers_in f e ≡ listed (place_effects_of f a).register ++ ((place_registers_in f a).inside ++ registers_in f v)
  unfolding roll-Expr denote.Hole.Carrier.roll
  assign-is e a v (inl h) =
      registers-at e (one.Assign a v) h ∙ ap (λ (r : Option ℕ). listed r ++ ((place_registers_in f a).inside ++ registers_in f v)) (sym (same-register a))
  assign-is e a v (inr h) =
      registers-at e (one.Change a h.0 h.1 v) h.2 ∙ ap (λ (r : Option ℕ). listed r ++ ((place_registers_in f a).inside ++ registers_in f v)) (sym (same-register a))

  pub after-is : (e : Expr) (a : Place) (down : Bool) → e ≡ After a down → registers_in f e ≡ listed (place_effects_of f a).register ++ (place_registers_in f a).inside
  unfolding roll-Expr denote.Hole.Carrier.roll
  after-is e a down h = registers-at e (one.After a down) h ∙ ap (λ (r : Option ℕ). listed r ++ (place_registers_in f a).inside) (sym (same-register a))

  pub call-is : (e g : Expr) (args : List Expr) → e ≡ Call g args → registers_in f e ≡ registers_in f g ++ flat_map (registers_in f) args
  unfolding roll-Expr denote.Hole.Carrier.roll
  call-is e g args h = registers-at e (one.Call g args) h ∙ ap (λ (l : List ℕ). registers_in f g ++ l) (flat-map (registers_in f) args)

  or_swap : (a b : Bool) → (a || b) ≡ (b || a)
  or_swap true true = refl
  or_swap true false = refl
  or_swap false true = refl
  or_swap false false = refl

  also-swap : (a b : Registers) → also a b ≡ also b a
  also-swap a b = fun_ext (λ r. or_swap (a r) (b r))

  -- behind those of later operands
  pub among-with : (xs : List ℕ) (e : Expr) → among (xs ++ registers_in f e) ≡ also (effects_of f e).assigned (among xs)
  among-with xs e = among-append xs (registers_in f e) ∙ ap (also (among xs)) (assigned-is e) ∙ also-swap (among xs) (effects_of f e).assigned

  all-assigned-is : (es : List Expr) → among (flat_map (registers_in f) es) ≡ all_assigned (map (effects_of f) es)
  all-assigned-is [] = refl
  all-assigned-is (e ∷ es) =
      among-append (registers_in f e) (flat_map (registers_in f) es) ∙ ap (λ (w : Registers). also w (among (flat_map (registers_in f) es))) (assigned-is e) ∙
      ap (also (effects_of f e).assigned) (all-assigned-is es)

  pub among-with-all : (xs : List ℕ) (es : List Expr) → among (xs ++ flat_map (registers_in f) es) ≡ also (all_assigned (map (effects_of f) es)) (among xs)
  among-with-all xs es =
      among-append xs (flat_map (registers_in f) es) ∙ ap (also (among xs)) (all-assigned-is es) ∙ also-swap (among xs) (all_assigned (map (effects_of f) es))

-- lists of lists, as far as a loop has come
flat-append : {A B : Type 0} (f : A → List B) (xs ys : List A) → flat_map f (xs ++ ys) ≡ flat_map f xs ++ flat_map f ys
flat-append f [] ys = refl
flat-append {B = B} f (x ∷ xs) ys = ap (λ (l : List B). f x ++ l) (flat-append f xs ys) ∙ sym (append_assoc (f x) (flat_map f xs) (flat_map f ys))

pub flat-more : (f : Func) (xs : List Expr) (i : ℕ) (d : Expr) → i < length xs → flat_map (registers_in f) (take (i + 1) xs) ≡ flat_map (registers_in f) (take i xs) ++ registers_in f (get_or xs i d)
flat-more f xs i d h =
    ap (flat_map (registers_in f)) (take_more xs i d h) ∙ flat-append (registers_in f) (take i xs) (get_or xs i d ∷ []) ∙
    ap (λ (l : List ℕ). flat_map (registers_in f) (take i xs) ++ l) (append-nil (registers_in f (get_or xs i d)))

pub ruleset flat_rules = (flat-more, take_all, append_assoc, append-nil)

pub ruleset assigned_rules = (among-with, among-with-all)
