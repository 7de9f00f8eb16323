use Rattle.std.proofs.Common.{◌≡◌, ◌≤◌, ◌+◌, ◌∙◌, ℕ, List, [], ◌∷◌, ◌++◌, Some, IsTrue, length, map, sum, min, take, refl, sym, ap, subst, arith}
use Rattle.std.proofs.lemmas.List.{length_push, take_all}
use Rattle.std.proofs.lemmas.Result.{err_from_is_err_and}
use Rattle.std.specs.Prelude.{String, Vec, string_bytes}
use Rattle.std.specs.declared.alloc.Global.{Global}
use Rattle.cc_edge.specs.Faults.{Rose, raised}
use Rattle.cc_edge.proofs.Prefixes.{raised-none, raised-more}
use Rattle.cc_files.specs.Unread.{names_of, texts_of, AreWithin, IsUnread, IsOneOf}
use Rattle.cc_files.proofs.Within.{within-none, within-next, unread-at, unread-since, one-of, sum-behind, rose-earlier, grown-by}
use Rattle.cc_files.proofs.sources.read_within.Goals as goal

pub loop-name-init : goal.loop-name-init
loop-name-init g c =
    let none : sum (map length (texts_of c.new-texts.result.items)) ≡ 0 = ap (λ (ts : List (Vec ℕ Global)). sum (map length (texts_of ts))) c.new-texts.ensures.items in
    record {
      told = refl;
      later = omega arith;
      count = ap length c.new-texts.ensures.items;
      left = omega arith;
      stay = λ told name. refl;
      read = λ told. subst (λ (ts : List (Vec ℕ Global)). AreWithin (g.F.Store.files c.args.store.now) c.args.most c.args.total [] (texts_of ts)) (sym c.new-texts.ensures.items) (within-none (g.F.Store.files c.args.store.now) c.args.most c.args.total);
      taken = λ untold. subst (λ (n : ℕ). g.F.Store.taken c.args.store.now ≡ raised n (g.F.Store.taken c.args.store.now)) (sym none) (sym (raised-none (g.F.Store.taken c.args.store.now)));
    }

pub read_file-requires : goal.read_file-requires
read_file-requires g c = omega (arith, c.min.ensures, c.loop-name.invariant.left, c.requires.small)

pub overflow_sub-left : goal.overflow_sub-left
overflow_sub-left g c = omega (arith, c.in_ok-text.ensures.short, c.min.ensures, c.len.ensures)

pub loop-name-preserved : goal.loop-name-preserved
loop-name-preserved g c =
    let items : c.push.new.self.items ≡ c.loop-name.texts.items ++ c.in_ok-text.text ∷ [] = c.in_ok-push.ensures.items in
    let all : sum (map length (texts_of c.push.new.self.items)) ≡ sum (map length (texts_of c.loop-name.texts.items)) + length c.in_ok-text.text.items =
    ap (λ (ts : List (Vec ℕ Global)). sum (map length (texts_of ts))) items ∙ sum-behind c.loop-name.texts.items c.in_ok-text.text in
    let more = ap (length {A = Vec ℕ Global}) items ∙ length_push c.loop-name.texts.items c.in_ok-text.text in
    let short : length c.in_ok-text.text.items ≤ c.min.result = c.in_ok-text.ensures.short in
    let limit : c.min.result ≡ min c.args.most c.loop-name.left = c.min.ensures in
    let named : c.deref.result.now ≡ string_bytes c.name-item.result = c.deref.ensures in
    let left = c.loop-name.invariant.left in
    let count = c.loop-name.invariant.count in
    record {
      told = c.in_ok-text.ensures.told ∙ c.loop-name.invariant.told;
      later = omega (arith, c.in_ok-text.ensures.later, c.loop-name.invariant.later);
      count = omega arith;
      left = omega (arith, c.len.ensures);
      stay = λ told name. c.in_ok-text.ensures.stay (subst IsTrue (sym c.loop-name.invariant.told) told) name ∙ c.loop-name.invariant.stay told name;
      read = λ told.
          let there : g.F.Store.files c.args.store.now (string_bytes c.name-item.result) ≡ Some c.in_ok-text.text.items =
          sym (c.loop-name.invariant.stay told (string_bytes c.name-item.result)) ∙ (ap (g.F.Store.files c.loop-name.store) (sym named) ∙ c.in_ok-text.ensures.whole (subst IsTrue (sym c.loop-name.invariant.told) told)) in
          subst (λ (ts : List (Vec ℕ Global)). AreWithin (g.F.Store.files c.args.store.now) c.args.most c.args.total (names_of (take (c.loop-name.name-index + 1) c.args.names.now)) (texts_of ts)) (sym items)
          (within-next (g.F.Store.files c.args.store.now) c.args.most c.args.total c.args.names.now c.loop-name.name-index c.name-item.result c.loop-name.texts.items c.in_ok-text.text c.loop-name-test.true c.name-item.is
          (c.loop-name.invariant.read told) there (omega arith) (omega arith));
      taken = λ untold.
          c.in_ok-text.ensures.taken (c.loop-name.invariant.told ∙ untold)
          ∙ (ap (raised (length c.in_ok-text.text.items)) (c.loop-name.invariant.taken untold)
          ∙ (raised-more (length c.in_ok-text.text.items) (sum (map length (texts_of c.loop-name.texts.items))) (g.F.Store.taken c.args.store.now)
          ∙ ap (λ (n : ℕ). raised n (g.F.Store.taken c.args.store.now)) (sym all)));
    }

pub returns-in_err-text-clause-told : goal.returns-in_err-text-clause-told
returns-in_err-text-clause-told g c = c.in_err-text.ensures.told ∙ c.loop-name.invariant.told

pub returns-in_err-text-clause-later : goal.returns-in_err-text-clause-later
returns-in_err-text-clause-later g c = omega (arith, c.in_err-text.ensures.later, c.loop-name.invariant.later)

pub returns-in_err-text-clause-count : goal.returns-in_err-text-clause-count
returns-in_err-text-clause-count g c = let p = err_from_is_err_and c.from_residual.result c.from_residual.ensures.1 in rw p.1 tt

pub returns-in_err-text-clause-few : goal.returns-in_err-text-clause-few
returns-in_err-text-clause-few g c = let p = err_from_is_err_and c.from_residual.result c.from_residual.ensures.1 in rw p.1 tt

pub returns-in_err-text-clause-stay : goal.returns-in_err-text-clause-stay
returns-in_err-text-clause-stay g c = λ told name. c.in_err-text.ensures.stay (subst IsTrue (sym c.loop-name.invariant.told) told) name ∙ c.loop-name.invariant.stay told name

pub returns-in_err-text-clause-whole : goal.returns-in_err-text-clause-whole
returns-in_err-text-clause-whole g c = let p = err_from_is_err_and c.from_residual.result c.from_residual.ensures.1 in rw p.1 tt

pub returns-in_err-text-clause-unread : goal.returns-in_err-text-clause-unread
returns-in_err-text-clause-unread g c =
    let p = err_from_is_err_and c.from_residual.result c.from_residual.ensures.1 in
    rw (p.1, p.2) (λ n told.
    let named : c.deref.result.now ≡ string_bytes c.name-item.result = c.deref.ensures in
    let limit : c.min.result ≡ min c.args.most c.loop-name.left = c.min.ensures in
    let here = c.in_err-text.ensures.unread n (subst IsTrue (sym c.loop-name.invariant.told) told) in
    let by_name = subst (λ (x : List ℕ). IsUnread (g.F.Store.files c.loop-name.store) (Rose (g.F.Store.faults c.loop-name.store) (g.F.Store.faults c.read_file.new.store)) c.min.result x c.in_err-text.field-0.0) named here in
    let by_limit =
    subst (λ (m : ℕ). IsUnread (g.F.Store.files c.loop-name.store) (Rose (g.F.Store.faults c.loop-name.store) (g.F.Store.faults c.read_file.new.store)) m (string_bytes c.name-item.result) c.in_err-text.field-0.0) limit by_name in
    unread-at (g.F.Store.files c.args.store.now) c.args.most c.args.total (Rose (g.F.Store.faults c.args.store.now) (g.F.Store.faults c.read_file.new.store)) c.args.names.now c.loop-name.name-index c.name-item.result c.loop-name.texts.items
    c.loop-name.left c.in_err-text.field-0.0 c.loop-name-test.true c.name-item.is (c.loop-name.invariant.read told) c.loop-name.invariant.left
    (unread-since (g.F.Store.files c.args.store.now) (g.F.Store.files c.loop-name.store) (Rose (g.F.Store.faults c.loop-name.store) (g.F.Store.faults c.read_file.new.store))
    (Rose (g.F.Store.faults c.args.store.now) (g.F.Store.faults c.read_file.new.store)) (min c.args.most c.loop-name.left) (string_bytes c.name-item.result) c.in_err-text.field-0.0 (c.loop-name.invariant.stay told)
    (rose-earlier (g.F.Store.faults c.args.store.now) (g.F.Store.faults c.loop-name.store) (g.F.Store.faults c.read_file.new.store) c.loop-name.invariant.later) by_limit))

pub returns-in_err-text-clause-untold : goal.returns-in_err-text-clause-untold
returns-in_err-text-clause-untold g c =
    let p = err_from_is_err_and c.from_residual.result c.from_residual.ensures.1 in
    rw (p.1, p.2) (λ untold.
    let named : c.deref.result.now ≡ string_bytes c.name-item.result = c.deref.ensures in
    let here = c.in_err-text.ensures.untold (c.loop-name.invariant.told ∙ untold) in
    let by_name =
    subst (λ (x : List ℕ). IsOneOf (x ∷ []) (Rose (g.F.Store.faults c.loop-name.store) (g.F.Store.faults c.read_file.new.store)) (g.F.Store.taken c.read_file.new.store ≡ raised (c.min.result + 1) (g.F.Store.taken c.loop-name.store)) c.in_err-text.field-0.0) named here in
    one-of c.args.names.now c.loop-name.name-index c.name-item.result (Rose (g.F.Store.faults c.loop-name.store) (g.F.Store.faults c.read_file.new.store)) (Rose (g.F.Store.faults c.args.store.now) (g.F.Store.faults c.read_file.new.store))
    (g.F.Store.taken c.read_file.new.store ≡ raised (c.min.result + 1) (g.F.Store.taken c.loop-name.store)) (raised (c.args.most + 1) (g.F.Store.taken c.args.store.now) ≤ g.F.Store.taken c.read_file.new.store) c.in_err-text.field-0.0
    c.loop-name-test.true c.name-item.is (rose-earlier (g.F.Store.faults c.args.store.now) (g.F.Store.faults c.loop-name.store) (g.F.Store.faults c.read_file.new.store) c.loop-name.invariant.later)
    (grown-by c.args.most c.args.total c.loop-name.left (sum (map length (texts_of c.loop-name.texts.items))) c.min.result (g.F.Store.taken c.args.store.now) (g.F.Store.taken c.loop-name.store) (g.F.Store.taken c.read_file.new.store)
    c.requires.above c.loop-name.invariant.left c.min.ensures (c.loop-name.invariant.taken untold)) by_name)

pub returns-in_err-push-clause-told : goal.returns-in_err-push-clause-told
returns-in_err-push-clause-told g c = c.in_ok-text.ensures.told ∙ c.loop-name.invariant.told

pub returns-in_err-push-clause-later : goal.returns-in_err-push-clause-later
returns-in_err-push-clause-later g c = omega (arith, c.in_ok-text.ensures.later, c.loop-name.invariant.later)

pub returns-in_err-push-clause-count : goal.returns-in_err-push-clause-count
returns-in_err-push-clause-count g c = let p = err_from_is_err_and c.from_residual-in_err-push.result c.from_residual-in_err-push.ensures.1 in rw p.1 tt

pub returns-in_err-push-clause-few : goal.returns-in_err-push-clause-few
returns-in_err-push-clause-few g c = let p = err_from_is_err_and c.from_residual-in_err-push.result c.from_residual-in_err-push.ensures.1 in rw p.1 tt

pub returns-in_err-push-clause-stay : goal.returns-in_err-push-clause-stay
returns-in_err-push-clause-stay g c = λ told name. c.in_ok-text.ensures.stay (subst IsTrue (sym c.loop-name.invariant.told) told) name ∙ c.loop-name.invariant.stay told name

pub returns-in_err-push-clause-whole : goal.returns-in_err-push-clause-whole
returns-in_err-push-clause-whole g c = let p = err_from_is_err_and c.from_residual-in_err-push.result c.from_residual-in_err-push.ensures.1 in rw p.1 tt

pub returns-in_err-push-clause-unread : goal.returns-in_err-push-clause-unread
returns-in_err-push-clause-unread g c =
    let p = err_from_is_err_and c.from_residual-in_err-push.result c.from_residual-in_err-push.ensures.1 in
    rw p.1 (λ n told. absurd (n p.2))

pub returns-in_err-push-clause-untold : goal.returns-in_err-push-clause-untold
returns-in_err-push-clause-untold g c =
    let p = err_from_is_err_and c.from_residual-in_err-push.result c.from_residual-in_err-push.ensures.1 in
    rw (p.1, p.2) (λ untold. tt)

pub returns-clause-count : goal.returns-clause-count
returns-clause-count g c = omega (arith, c.loop-name.invariant.count)

pub returns-clause-few : goal.returns-clause-few
returns-clause-few g c = omega (arith, c.loop-name.invariant.left)

pub returns-clause-stay : goal.returns-clause-stay
returns-clause-stay g c = c.loop-name.invariant.stay

pub returns-clause-whole : goal.returns-clause-whole
returns-clause-whole g c = λ told.
    subst (λ (ns : List (String Global)). AreWithin (g.F.Store.files c.args.store.now) c.args.most c.args.total (names_of ns) (texts_of c.loop-name.texts.items)) (take_all c.loop-name.name-index c.args.names.now (omega arith)) (c.loop-name.invariant.read told)
