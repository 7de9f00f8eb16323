-- The body of a function: its automatic objects, one line each, and its statements.
use Rattle.std.proofs.Common.{arith, ◌≡◌, inr, ℕ, zero, suc, ◌≤◌, ◌+◌, true, List, [], ◌∷◌, ◌++◌, map, length, take, drop, Some, None, Ok, refl, ap, sym, ◌∙◌, subst, slice_get, append-nil, length-append, add-one}
use Rattle.cc_unit_trees.specs.Units.{ShowsLocals, NoLocal, MoreLocals}
use Rattle.cc_type.specs.CcObjects.Linked.{with_automatic}
use Rattle.cc_type.specs.CcOperands.Qualified.{without_const}
use Rattle.cc_program.specs.declared.func.Func.{Func}
use Rattle.cc_program.specs.declared.program.Program.{Program}
use Rattle.cc_program.specs.declared.stmt.Stmt.{Stmt}
use Rattle.cc_program.specs.declared.types.CType.{CType}
use Rattle.cc_program.specs.declared.types.Sig.{out-Sig}
use Rattle.cc_type.specs.CcScopes.State.{State, Name, named_here}
use Rattle.cc_type.specs.CcScopes.Verdicts.{Found, and_then}
use Rattle.cc_unit_trees.specs.Lines.{ShowsStmts}
use Rattle.cc_type.specs.CcSyntax.Kinds.{is_object_type}
use Rattle.cc_type.specs.CcSyntax.Normal.{devices_in, is_normal_body, next_of}
use Rattle.cc_type.specs.CcSyntax.Programs.{kind_in}
use Rattle.cc_type.specs.CcSyntax.Sizes.{AreSized}
use Rattle.cc_type.specs.CcSyntax.Sound.{IsSound, IsFunc, devices_differ, is_local}
use Rattle.cc_type.specs.CcSyntax.Types.{Named}
use Rattle.cc_type.specs.CcTerms.InTurn.{in_turn}
use Rattle.cc_tree.specs.declared.at.At.{At}
use Rattle.cc_tree.specs.declared.unit.Line as line
use Rattle.cc_tree.specs.declared.unit.Line.{Line}
use Rattle.cc_type.specs.CcTypedBodies.Meanings.{line_found, lines_found}
use Rattle.cc_type.specs.CcTypedStatements.Jumps.{no_jumps}
use Rattle.cc_type.specs.CcTypedStatements.declared.jumps.Jumps.{Jumps}
use Rattle.cc_shown_expressions.proofs.Stand.{tested-at}
use Rattle.cc_shown_effects.specs.Numbers.{stmt_numbered}
use Rattle.cc_shown_expressions.specs.KnownNames.{KnowsNames, TypesStand}
use Rattle.cc_shown_expressions.specs.OperationNumbers.{Numbers}
use Rattle.cc_shown_names.specs.Devices.{DevicesFrom, KnowsDevices, with_devices}
use Rattle.cc_shown_names.proofs.Lines.{meant, lines-typed}
use Rattle.cc_shown_names.proofs.Order.{uses-known}
use Rattle.cc_shown_names.proofs.Statements.{stmts-typed}
use Rattle.cc_shown_names.proofs.Uses.{names-used}
use Rattle.cc_shown_expressions.specs.Numbers.{type_numbered}
use Rattle.cc_shown_names.specs.Bodies.{KnowsParameters, with_local_objects}
use Rattle.cc_shown_names.proofs.Known.{Knows, knows-more, knows-all, new-still}
use Rattle.cc_shown_names.proofs.Locals.{local-line}
use Rattle.cc_shown_names.proofs.Names.{IsOwnName, own-name}
use Rattle.cc_shown_names.proofs.LocalObjects.{outside-stays}

-- ---- lists

dropped-first : {A : Type 0} → (xs : List A) (k : ℕ) (x : A) (ys : List A) → drop k xs ≡ x ∷ ys → slice_get xs k ≡ Some x
dropped-first [] zero x ys h = absurd (cc)
dropped-first [] (suc k) x ys h = absurd (cc)
dropped-first (z ∷ xs) zero x ys h = let e : z ≡ x = cc in ap Some e
dropped-first (z ∷ xs) (suc k) x ys h = dropped-first xs k x ys h

dropped-rest : {A : Type 0} → (xs : List A) (k : ℕ) (x : A) (ys : List A) → drop k xs ≡ x ∷ ys → drop (suc k) xs ≡ ys
dropped-rest [] zero x ys h = absurd (cc)
dropped-rest [] (suc k) x ys h = absurd (cc)
dropped-rest (z ∷ []) zero x ys h = cc
dropped-rest (z ∷ y ∷ xs) zero x ys h = cc
dropped-rest (z ∷ xs) (suc k) x ys h = dropped-rest xs k x ys h

dropped-none : {A : Type 0} → (xs : List A) (k : ℕ) → drop k xs ≡ [] → take k xs ≡ xs
dropped-none [] zero h = refl
dropped-none [] (suc k) h = refl
dropped-none (z ∷ xs) zero h = absurd (cc)
dropped-none (z ∷ xs) (suc k) h = ap (λ ys. z ∷ ys) (dropped-none xs k h)

dropped-at : {A : Type 0} → (xs : List A) (k i : ℕ) (x : A) → slice_get (drop k xs) i ≡ Some x → slice_get xs (k + i) ≡ Some x
dropped-at [] zero i x h = absurd (cc)
dropped-at [] (suc k) i x h = absurd (cc)
dropped-at (z ∷ xs) zero i x h = let e : 0 + i ≡ i = omega arith in ap (slice_get (z ∷ xs)) e ∙ h
dropped-at (z ∷ xs) (suc k) i x h = let e : suc k + i ≡ suc (k + i) = omega arith in ap (slice_get (z ∷ xs)) e ∙ dropped-at xs k i x h

module _ (p : Program) (f : Func) (n : Numbers) (defined : List Name) (result : CType) (sized : AreSized p.structures p.target) (own : IsFunc p f) where
  abbrev New : List Named → State → Type 0
  New ls s = (i : ℕ) (l : Named) → slice_get ls i ≡ Some l → named_here l.0 s ≡ None

  abbrev declared_one : Named → State → State
  declared_one l s = with_automatic l.0 (type_numbered n.structure l.1) s

  abbrev turns : Jumps → List (At Line) → List Stmt → State → Found (List Stmt)
  turns j xs before s = in_turn (line_found j) (map (meant p n defined result) xs) before s

  new-behind : (k : ℕ) (l : Named) (ls : List Named) (s : State) → drop k f.locals ≡ l ∷ ls → New (l ∷ ls) s → New ls (declared_one l s)
  new-behind k l ls s left new i m h =
      let here = dropped-first f.locals k l ls left in
      let there = dropped-at f.locals (suc k) i m (ap (λ ls. slice_get ls i) (dropped-rest f.locals k l ls left) ∙ h) in
      new-still s l.0 m.0 (type_numbered n.structure l.1) ((own-name p f own.names k l here).locals (suc k + i) m there (inr (omega arith))) (new (suc i) m h)

  -- ---- the lines of locals

  one-found : (l : Named) (one : At Line) (xs : List (At Line)) (j : Jumps) (before : List Stmt) (s : State) → (meant p n defined result one).node.line j one.at s ≡ Ok ([], declared_one l s) → turns j (one ∷ xs) before s ≡ turns j xs before (declared_one l s)
  one-found l one xs j before s h =
      ap (λ (r : Found (List Stmt)). and_then (and_then r (λ ss s. Ok (before ++ ss, s))) (λ b s. turns j xs b s)) h ∙ ap (λ b. turns j xs b (declared_one l s)) (append-nil before)

  -- one local more is known
  record Known (l : Named) (ls : List Named) (k : ℕ) (s : State) : Type 0 where
    pub fits : is_object_type (kind_in p l.1) ≡ true
    pub name : IsOwnName p f k l.0
    pub left : drop (suc k) f.locals ≡ ls
    pub known : Knows p f n (suc k) (declared_one l s)
    pub count : length (declared_one l s).locals ≡ suc k
    pub new : New ls (declared_one l s)

  one-known : (l : Named) (ls : List Named) (k : ℕ) (s : State) → drop k f.locals ≡ l ∷ ls → Knows p f n k s → length s.locals ≡ k → New (l ∷ ls) s → Known l ls k s
  one-known l ls k s left known count new =
      let here = dropped-first f.locals k l ls left in
      let name = own-name p f own.names k l here in
      record {
        fits = tested-at (is_local p) f.locals k l own.locals here;
        name = name;
        left = dropped-rest f.locals k l ls left;
        known = knows-more p f n s k l here name count known;
        count = length-append s.locals ((l.0, without_const (type_numbered n.structure l.1)) ∷ []) ∙ ap (λ m. m + 1) count ∙ add-one k;
        new = new-behind k l ls s left new;
      }

  pub locals-known : (ls : List Named) (k : ℕ) (s : State) → drop k f.locals ≡ ls → Knows p f n k s → length s.locals ≡ k → New ls s → KnowsNames p f n (with_local_objects n ls s)
  locals-known [] k s left known count new = knows-all p f n s k (dropped-none f.locals k left) known
  locals-known (l ∷ ls) k s left known count new =
      let q = one-known l ls k s left known count new in
      locals-known ls (suc k) (declared_one l s) q.left q.known q.count q.new

  pub locals-found : (ls : List Named) (xs : List (At Line)) → ShowsLocals p.structures ls xs → (k : ℕ) (s : State) → drop k f.locals ≡ ls → Knows p f n k s → length s.locals ≡ k → New ls s → (j : Jumps) (ys : List (At Line)) (before : List Stmt) →
      turns j (xs ++ ys) before s ≡ turns j ys before (with_local_objects n ls s)
  locals-found _ _ NoLocal k s left known count new j ys before = refl
  locals-found _ _ (MoreLocals l ls d at xs h more) k s left known count new j ys before =
      let q = one-known l ls k s left known count new in
      one-found l (record { at = at; node = line.Decl d }) (xs ++ ys) j before s (local-line p n defined sized s known.structures l.0 l.1 q.fits q.name.intrinsic (new 0 l refl) result d h j at)
      ∙ locals-found ls xs more (suc k) (declared_one l s) q.left q.known q.count q.new j ys before

-- ---- the whole body

-- nothing of it has a place in memory of its own
names-stay : (n : Numbers) (ls : List Named) (s : State) → (with_local_objects n ls s).names ≡ s.names
names-stay n ls s = ap (λ (s : State). s.names) (outside-stays n ls s)

-- which devices are declared
pub devices-used : (p : Program) (f : Func) (n : Numbers) → devices_differ p.devices ≡ true → (ls : List Named) (first behind : ℕ) (s : State) → KnowsDevices p n first s.names → next_of first (devices_in f.body) ≡ Some behind → behind ≤ length p.devices →
    DevicesFrom p n (devices_in f.body) (with_local_objects n ls s) (with_devices p first behind (with_local_objects n ls s)) × KnowsDevices p n behind (with_devices p first behind (with_local_objects n ls s)).names
devices-used p f n differ ls first behind s k next few =
    uses-known p n differ (devices_in f.body) first behind (with_local_objects n ls s) (subst (λ names. KnowsDevices p n first names) (sym (names-stay n ls s)) k) next few

module _ (p : Program) (f : Func) (n : Numbers) (defined : List Name) (sound : IsSound p) (sized : AreSized p.structures p.target) (stand : TypesStand p f) (own : IsFunc p f) where
  abbrev result : CType
  result = type_numbered n.structure (out-Sig f.sig).result

  abbrev others : List Named
  others = drop f.params f.locals

  pub names-inside : (s : State) → KnowsParameters p f n s → KnowsNames p f n (with_local_objects n others s)
  names-inside s k = locals-known p f n defined result sized own others f.params s refl k.names k.count k.new

  pub names-behind : (first behind : ℕ) (s : State) → KnowsParameters p f n s → KnowsDevices p n first s.names → next_of first (devices_in f.body) ≡ Some behind → behind ≤ length p.devices →
      KnowsNames p f n (with_devices p first behind (with_local_objects n others s))
  names-behind first behind s known k next few = names-used p n f (devices_in f.body) (with_local_objects n others s) (with_devices p first behind (with_local_objects n others s)) (names-inside s known) (devices-used p f n sound.distinct_devices others first behind s k next few).0

  pub body-typed : (first behind : ℕ) (s : State) → is_normal_body p.target f ≡ true → KnowsParameters p f n s → KnowsDevices p n first s.names → next_of first (devices_in f.body) ≡ Some behind → behind ≤ length p.devices →
      (xs ys : List (At Line)) → ShowsLocals p.structures others xs → ShowsStmts p f f.body ys →
      lines_found no_jumps (map (meant p n defined result) (xs ++ ys)) s ≡ Ok (map (stmt_numbered n) f.body, with_devices p first behind (with_local_objects n others s))
  unfolding lines_found
  body-typed first behind s normal known k next few xs ys locals shown =
      let inner = with_local_objects n others s in
      let u = with_devices p first behind inner in
      locals-found p f n defined result sized own others xs locals f.params s refl known.names known.count known.new no_jumps ys []
      ∙ lines-typed p n defined result no_jumps f.body ys inner u (stmts-typed p f n defined sound sized stand own f.body ys shown no_jumps inner u (names-inside s known) normal own.body (devices-used p f n sound.distinct_devices others first behind s k next few).0)
