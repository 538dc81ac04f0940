use Rattle.std.proofs.Common.{◌≡◌, ℕ, List, [], ◌∷◌, ◌++◌, ◌≤◌, drop, get_or, length, sym, ap, ◌∙◌, subst, arith, length-append}
use Rattle.std.specs.Vec.Iter.{into_iter_items, into_iter_steps}
use Rattle.std.proofs.lemmas.List.{length-map}
use Rattle.logbook.specs.Pages.{Named}
use Rattle.op_model.specs.declared.operation.Operation.{Operation}
use Rattle.op_model.proofs.Elements.{drop_at}
use Rattle.snapshot_pub.specs.States.{ReaderState, ToldState}
use Rattle.queries.specs.Dealt.{AllAt, told_lists}
use Rattle.queries.specs.Final.{AreBounds, HasLooked, IsBound, bound_of, last_of}
use Rattle.queries.proofs.Remakes.{are_more, bound_more, bound_most, looked_more, pair_at, size_at, told_at}
use Rattle.queries.proofs.renewing.look_all.Goals as goal
use Rattle.queries.proofs.renewing.look_all.Goals.{in_default-via-in-Some+in_default, in_default-via-in_default}

pub look_last-requires-clause-pair : goal.look_last-requires-clause-pair
look_last-requires-clause-pair c =
    let was = c.loop-size.invariant in
    pair_at c.args.tolds.items c.loop-size.size-index c.in-Some-Some.told (into_iter_items c.next-in-loop-size.new.self) (sym was.tolds ∙ c.in-Some-Some.ensures'.items) c.args.readers.items c.in-Some-Some.reader (into_iter_items c.next.new.self)
    (sym was.readers ∙ c.in-Some-Some.ensures.items) c.requires.pairs

pub look_last-requires-clause-size : goal.look_last-requires-clause-size
look_last-requires-clause-size c =
    let was = c.loop-size.invariant in
    size_at c.args.tolds.items c.loop-size.size-index c.in-Some-Some.told (into_iter_items c.next-in-loop-size.new.self) (sym was.tolds ∙ c.in-Some-Some.ensures'.items) c.args.sizes.now c.requires.sizes

pub loop-size-preserved : goal.loop-size-preserved
loop-size-preserved c =
    let was = c.loop-size.invariant in
    let k = c.loop-size.size-index in
    let readers = c.args.readers.items in
    let tolds = c.args.tolds.items in
    let bounds = c.loop-size.bounds.items in
    let reader = c.in-Some-Some.reader in
    let told = c.in-Some-Some.told in
    let rs = into_iter_items c.next.new.self in
    let ts = into_iter_items c.next-in-loop-size.new.self in
    let bound : ℕ = c.in_ok-reader.bound in
    let new : ReaderState = c.in_ok-reader.reader in
    let published = told_lists tolds in
    let is_r : drop k readers ≡ reader ∷ rs = sym was.readers ∙ c.in-Some-Some.ensures.items in
    let is_t : drop k tolds ≡ told ∷ ts = sym was.tolds ∙ c.in-Some-Some.ensures'.items in
    let here : last_of published k ≡ told.list = told_at tolds k told ts is_t in
    let seen : c.push.new.self.items ≡ c.loop-size.looked.items ++ new ∷ [] = c.in_ok-push.ensures.items in
    let more : c.push-in-loop-size.new.self.items ≡ bounds ++ bound ∷ [] = c.in_ok-push-2.ensures.items in
    let most : bound ≤ length told.list = subst (λ (n : ℕ). n ≤ length told.list) (sym c.in_ok-reader.ensures.bound_is) (bound_most (length told.list) new) in record {
      many = omega (arith, was.many, ap (λ (l : List ℕ). length l) more, length-append bounds (bound ∷ []));
      seen = omega (arith, was.seen, ap (λ (l : List ReaderState). length l) seen, length-append c.loop-size.looked.items (new ∷ []));
      readers_left = omega (arith, was.readers_left, c.in-Some-Some.ensures.len);
      tolds_left = omega (arith, was.tolds_left, c.in-Some-Some.ensures'.len);
      readers = sym (drop_at readers k reader rs reader is_r).2;
      tolds = sym (drop_at tolds k told ts told is_t).2;
      looks = subst (AllAt (λ r x. (d : ReaderState) → HasLooked (last_of published r) (get_or readers r d) x)) (sym seen)
          (looked_more readers published c.loop-size.looked.items k reader new rs is_r was.seen (subst (λ (l : List Operation). HasLooked l reader new) (sym here) c.in_ok-reader.ensures.looked) was.looks);
      are = subst (λ (l : List ReaderState). AreBounds published l c.push-in-loop-size.new.self.items) (sym seen) (subst (AreBounds published (c.loop-size.looked.items ++ new ∷ [])) (sym more)
          (are_more published c.loop-size.looked.items bounds new bound (subst (λ (i : ℕ). bound ≡ bound_of (length (last_of published i)) new) (sym was.seen) (subst (λ (l : List Operation). bound ≡ bound_of (length l) new) (sym here) c.in_ok-reader.ensures.bound_is)) was.are));
      bounds = subst (AllAt (IsBound (told_lists tolds) readers)) (sym more)
          (bound_more readers tolds bounds k reader told rs ts bound is_r is_t was.many most c.in_ok-reader.ensures.bound was.bounds);
    }

pub unreachable-requires : goal.unreachable-requires
unreachable-requires c =
    let was = c.loop-size.invariant in
    let readers = c.args.readers.items in
    let tolds = c.args.tolds.items in
    let sizes : length c.args.sizes.now ≡ length tolds =
    ap (λ (l : List ℕ). length l) c.requires.sizes ∙ (length-map (told_lists tolds) (λ (h : List Operation). length h) ∙ length-map tolds (λ (t : ToldState). t.list)) in
    let pairs : length tolds ≡ length readers =
    sym (length-map tolds (λ (t : ToldState). t.pair)) ∙ (ap (λ (l : List Named). length l) c.requires.pairs ∙ length-map readers (λ (r : ReaderState). r.pair)) in
    elim c.in_default.branch [
      | in_default-via-in-Some+in_default w ↦
          let left = subst (λ r. into_iter_steps c.loop-size.tolds r c.next-in-loop-size.new.self) w.in_default.is-1 c.next-in-loop-size.ensures.cases in omega (arith, was.tolds_left, left.0, sizes, c.loop-size-test.true)
      | in_default-via-in_default w ↦
          let left = subst (λ r. into_iter_steps c.loop-size.readers r c.next.new.self) w.in_default.is-0 c.next.ensures.cases in omega (arith, was.readers_left, left.0, sizes, pairs, c.loop-size-test.true)
    ]

pub returns-clause-looked : goal.returns-clause-looked
returns-clause-looked c =
    let was = c.loop-size.invariant in
    let readers = c.args.readers.items in
    let tolds = c.args.tolds.items in
    let sizes : length c.args.sizes.now ≡ length tolds =
    ap (λ (l : List ℕ). length l) c.requires.sizes ∙ (length-map (told_lists tolds) (λ (h : List Operation). length h) ∙ length-map tolds (λ (t : ToldState). t.list)) in
    let pairs : length tolds ≡ length readers =
    sym (length-map tolds (λ (t : ToldState). t.pair)) ∙ (ap (λ (l : List Named). length l) c.requires.pairs ∙ length-map readers (λ (r : ReaderState). r.pair)) in record {
      many = omega (arith, was.seen, was.readers_left, sizes, pairs, c.loop-size-test.false);
      each = was.looks;
    }
