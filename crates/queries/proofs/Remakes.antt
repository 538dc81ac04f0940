-- An answer on more than was last published is made anew, and later answers stay on no fewer operations.
use Rattle.std.proofs.Common.{◌≡◌, ℕ, ◌<◌, ◌≤◌, ◌+◌, Bool, true, false, cond, nat_lt, List, [], ◌∷◌, ◌++◌, length, map, get_or, drop, length-append, sym, ap, ◌∙◌, subst, arith, ⊎_elim}
use Rattle.std.proofs.lemmas.Slice.Zip.{AllZip-long}
use Rattle.std.specs.List.{All, AllPairs, AllZip}
use Rattle.std.proofs.lemmas.Bool.{cases_lt}
use Rattle.std.proofs.lemmas.Bool.Decides.{nat_tests}
use Rattle.std.proofs.lemmas.List.Elements.{All-cons, All-head, All-nil, All-tail}
use Rattle.std.proofs.lemmas.List.Kept.{AllPairs-cons}
use Rattle.sum_tree.proofs.Keys.{AllPairs-cross, AllPairs-right}
use Rattle.op_model.specs.declared.operation.Operation.{Operation}
use Rattle.op_model.proofs.Elements.{drop_at}
use Rattle.text_buffer.specs.Document.{IsFront}
use Rattle.text_buffer.proofs.Fronts.{front_itself, front_length, front_trans, fronts_at}
use Rattle.std.proofs.lemmas.List.{get_or-append-add, get_or-map, get_or_append_left, length-map}
use Rattle.snapshot_pub.specs.States.{ReaderState, ToldState}
use Rattle.logbook.specs.Pages.{Named}
use Rattle.queries.specs.Queue.{pairs_of}
use Rattle.queries.specs.Asks.{Ask}
use Rattle.queries.specs.Answers.{HasAnswered, IsAnswerTo, IsKnown, NeverFewer, lists_of}
use Rattle.queries.specs.declared.query.Answer.{Answer}
use Rattle.queries.proofs.Answering.{all_there}
use Rattle.queries.proofs.Places.{all_at_more}
use Rattle.queries.specs.Dealt.{AllAt, told_lists, told_pairs}
use Rattle.queries.specs.Final.{AreBounds, AreFinal, ComesTo, HasLooked, IsBound, IsFinal, IsPast, bound_of, final_list, last_of}

pub list_stays : (bound : ℕ) (h last : List Operation) → length h ≤ bound → h ≡ final_list bound h last
list_stays bound h last few = let test : nat_lt bound (length h) ≡ false = grind (arith, nat_tests) in ap (λ (b : Bool). cond b last h) (sym test)

pub list_goes : (bound : ℕ) (h last : List Operation) → bound < length h → last ≡ final_list bound h last
list_goes bound h last many = let test : nat_lt bound (length h) ≡ true = grind (arith, nat_tests) in ap (λ (b : Bool). cond b last h) (sym test)

-- what comes of a list grows with it
final_grows : (bound : ℕ) (g h last : List Operation) → bound ≤ length last → length g ≤ length h → length (final_list bound g last) ≤ length (final_list bound h last)
final_grows bound g h last most le =
    ⊎_elim (λ (many : bound < length h).
    let two = ap (λ (l : List Operation). length l) (list_goes bound h last many) in
    ⊎_elim (λ (both : bound < length g). let one = ap (λ (l : List Operation). length l) (list_goes bound g last both) in omega (arith, one, two))
    (λ (few : length g ≤ bound). let one = ap (λ (l : List Operation). length l) (list_stays bound g last few) in omega (arith, one, two, few, most)) (cases_lt bound (length g)))
    (λ (few : length h ≤ bound).
    let one = ap (λ (l : List Operation). length l) (list_stays bound g last (omega arith)) in
    let two = ap (λ (l : List Operation). length l) (list_stays bound h last few) in omega (arith, one, two, le))
    (cases_lt bound (length h))

module _ {Q A : Type 0} (plain : Q → List Operation → A) (bounds : List ℕ) (lasts published : List (List Operation)) (readers : List ReaderState)
    (fronts : AllZip IsFront published lasts) (are_bounds : (r : ℕ) → r < length lasts → IsBound published readers r (get_or bounds r 0)) where
  final_front : (a b : Answer Q A) (r : ℕ) → a.index ≡ r → r < length lasts → ComesTo plain bounds lasts b a → IsKnown readers a → IsFront b.snapshot (last_of lasts r)
  final_front a b r at within c known =
      let is_bound : IsBound published readers a.index (get_or bounds a.index 0) = are_bounds a.index (omega (arith, at, within)) in
      subst (λ (k : ℕ). IsFront b.snapshot (last_of lasts k)) at (⊎_elim
      (λ (many : get_or bounds a.index 0 < length a.snapshot).
      let same : last_of lasts a.index ≡ b.snapshot = list_goes (get_or bounds a.index 0) a.snapshot (last_of lasts a.index) many ∙ sym c.snapshot in
      subst (λ (l : List Operation). IsFront l (last_of lasts a.index)) same (front_itself (last_of lasts a.index)))
      (λ (few : length a.snapshot ≤ get_or bounds a.index 0).
      let same : a.snapshot ≡ b.snapshot = list_stays (get_or bounds a.index 0) a.snapshot (last_of lasts a.index) few ∙ sym c.snapshot in
      subst (λ (l : List Operation). IsFront l (last_of lasts a.index)) same (front_trans a.snapshot (get_or published a.index []) (last_of lasts a.index) (is_bound.1 a.snapshot known few) (fronts_at published lasts a.index fronts)))
      (cases_lt (get_or bounds a.index 0) (length a.snapshot)))

  final_told : (a b : Answer Q A) (k : Ask Q) → IsAnswerTo plain a k → IsPast lasts k → ComesTo plain bounds lasts b a → IsFront k.history b.snapshot
  final_told a b k h past c = ⊎_elim
      (λ (many : get_or bounds a.index 0 < length a.snapshot).
      subst (IsFront k.history) (ap (last_of lasts) (sym h.index) ∙ (list_goes (get_or bounds a.index 0) a.snapshot (last_of lasts a.index) many ∙ sym c.snapshot)) past.1)
      (λ (few : length a.snapshot ≤ get_or bounds a.index 0).
      subst (IsFront k.history) (list_stays (get_or bounds a.index 0) a.snapshot (last_of lasts a.index) few ∙ sym c.snapshot) h.told)
      (cases_lt (get_or bounds a.index 0) (length a.snapshot))

  final_one : (a b : Answer Q A) (k : Ask Q) → IsAnswerTo plain a k → IsPast lasts k → IsKnown readers a → ComesTo plain bounds lasts b a → IsFinal plain lasts b k
  final_one a b k h past known c = record {
    answer = record {
      number = c.number ∙ h.number;
      index = c.index ∙ h.index;
      query = c.query ∙ h.query;
      told = final_told a b k h past c;
      answer = c.answer;
    };
    front = final_front a b k.index h.index past.0 c known;
  }

  pub all_final : (bs as_ : List (Answer Q A)) (ks : List (Ask Q)) → AllZip (ComesTo plain bounds lasts) bs as_ → AllZip (IsAnswerTo plain) as_ ks → All (IsKnown readers) as_ → All (IsPast lasts) ks
      → AllZip (IsFinal plain lasts) bs ks
  all_final [] [] [] c h known past = tt
  all_final [] [] (k ∷ ks) c h known past = absurd h
  all_final [] (a ∷ as_) ks c h known past = absurd c
  all_final (b ∷ bs) [] ks c h known past = absurd c
  all_final (b ∷ bs) (a ∷ as_) [] c h known past = absurd h
  all_final (b ∷ bs) (a ∷ as_) (k ∷ ks) c h known past = (
    final_one a b k h.0 (All-head (IsPast lasts) k ks past) (All-head (IsKnown readers) a as_ known) c.0,
    all_final bs as_ ks c.1 h.1 (All-tail (IsKnown readers) a as_ known) (All-tail (IsPast lasts) k ks past),
  )

  -- the replica of each answer is there
  pub all_within : (as_ : List (Answer Q A)) (ks : List (Ask Q)) → AllZip (IsAnswerTo plain) as_ ks → All (IsPast lasts) ks → All (λ (a : Answer Q A). a.index < length lasts) as_
  all_within [] ks h past = All-nil (λ (a : Answer Q A). a.index < length lasts)
  all_within (a ∷ as_) [] h past = absurd h
  all_within (a ∷ as_) (k ∷ ks) h past =
      All-cons (λ (x : Answer Q A). x.index < length lasts) a as_ (let at = h.0.index in let there = (All-head (IsPast lasts) k ks past).0 in omega (arith, at, there))
      (all_within as_ ks h.1 (All-tail (IsPast lasts) k ks past))

  bound_below : (r : ℕ) → r < length lasts → get_or bounds r 0 ≤ length (last_of lasts r)
  bound_below r within = let b = (are_bounds r within).0 in let f = front_length (get_or published r []) (last_of lasts r) (fronts_at published lasts r fronts) in omega (arith, b, f)

  one_grows : (a b c d : Answer Q A) → c.index < length lasts → ComesTo plain bounds lasts b a → ComesTo plain bounds lasts d c → NeverFewer a c → NeverFewer b d
  one_grows a b c d within e f h same =
      let at : a.index ≡ c.index = sym e.index ∙ (same ∙ f.index) in
      let one : b.snapshot ≡ final_list (get_or bounds c.index 0) a.snapshot (last_of lasts c.index) = e.snapshot ∙ ap (λ (r : ℕ). final_list (get_or bounds r 0) a.snapshot (last_of lasts r)) at in
      let le = final_grows (get_or bounds c.index 0) a.snapshot c.snapshot (last_of lasts c.index) (bound_below c.index within) (h at) in
      omega (arith, le, ap (λ (l : List Operation). length l) one, ap (λ (l : List Operation). length l) f.snapshot)

  first_grows : (a b : Answer Q A) (bs as_ : List (Answer Q A)) → ComesTo plain bounds lasts b a → AllZip (ComesTo plain bounds lasts) bs as_ → All (λ (x : Answer Q A). x.index < length lasts) as_ → All (NeverFewer a) as_ → All (NeverFewer b) bs
  first_grows a b [] as_ e c within h = All-nil (NeverFewer b)
  first_grows a b (d ∷ bs) [] e c within h = absurd c
  first_grows a b (d ∷ bs) (x ∷ as_) e c within h =
      All-cons (NeverFewer b) d bs (one_grows a b x d (All-head (λ (y : Answer Q A). y.index < length lasts) x as_ within) e c.0 (All-head (NeverFewer a) x as_ h))
      (first_grows a b bs as_ e c.1 (All-tail (λ (y : Answer Q A). y.index < length lasts) x as_ within) (All-tail (NeverFewer a) x as_ h))

  pub all_grow : (bs as_ : List (Answer Q A)) → AllZip (ComesTo plain bounds lasts) bs as_ → All (λ (x : Answer Q A). x.index < length lasts) as_ → AllPairs NeverFewer as_ → AllPairs NeverFewer bs
  all_grow [] as_ c within h = λ i j d lt below. absurd (omega arith)
  all_grow (b ∷ bs) [] c within h = absurd c
  all_grow (b ∷ bs) (a ∷ as_) c within h =
      AllPairs-cons NeverFewer b bs (first_grows a b bs as_ c.0 c.1 (All-tail (λ (y : Answer Q A). y.index < length lasts) a as_ within) (AllPairs-cross NeverFewer (a ∷ []) as_ 0 a h (omega arith)))
      (all_grow bs as_ c.1 (All-tail (λ (y : Answer Q A). y.index < length lasts) a as_ within) (AllPairs-right NeverFewer (a ∷ []) as_ h))

  -- the renewed answers of a worker are final
  pub worker_final : (bs as_ : List (Answer Q A)) (ks : List (Ask Q)) → AllZip (ComesTo plain bounds lasts) bs as_ → HasAnswered plain ks readers as_ → All (IsPast lasts) ks → AreFinal plain lasts ks bs
  worker_final bs as_ ks c h past = record {
    each = all_final bs as_ ks c h.each h.known past;
    never_fewer = all_grow bs as_ c (all_within as_ ks h.each past) h.never_fewer;
  }

-- there is a bound for each replica
pub each_bound : (bounds : List ℕ) (lasts published : List (List Operation)) (readers : List ReaderState) → AllZip IsFront published lasts → length bounds ≡ length published → AllAt (IsBound published readers) bounds
    → (r : ℕ) → r < length lasts → IsBound published readers r (get_or bounds r 0)
each_bound bounds lasts published readers fronts many h r within = h r 0 (omega (arith, within, many, AllZip-long IsFront published lasts fronts))

-- what renewing the answers of one worker needs, and what comes of it
pub renews : {Q A : Type 0} (plain : Q → List Operation → A) (bounds looked : List ℕ) (lasts published : List (List Operation)) (rs readers : List ReaderState) (as_ : List (Answer Q A)) (ks : List (Ask Q)) → AllZip IsFront published lasts → bounds ≡ looked → length looked ≡ length published
    → rs ≡ readers → AllAt (IsBound published rs) looked → HasAnswered plain ks readers as_ → All (IsPast lasts) ks
    → All (λ (a : Answer Q A). (a.index < length bounds) × (a.index < length lasts)) as_ × ((bs : List (Answer Q A)) → AllZip (ComesTo plain bounds lasts) bs as_ → AreFinal plain lasts ks bs)
renews plain bounds looked lasts published rs readers as_ ks fronts same many mine h answered past =
    let count : length bounds ≡ length published = ap (λ (l : List ℕ). length l) same ∙ many in
    let here : AllAt (IsBound published readers) bounds = subst (AllAt (IsBound published readers)) (sym same) (subst (λ (x : List ReaderState). AllAt (IsBound published x) looked) mine h) in
    let are_bounds = each_bound bounds lasts published readers fronts count here in (
      all_there bounds lasts published fronts count as_ (all_within plain bounds lasts published readers fronts are_bounds as_ ks answered.each past),
      λ bs c. worker_final plain bounds lasts published readers fronts are_bounds bs as_ ks c answered past,
    )

-- what stands at one place among readers and what they are told
module _ (tolds : List ToldState) (k : ℕ) (told : ToldState) (ts : List ToldState) (is_t : drop k tolds ≡ told ∷ ts) where
  pub pair_at : (readers : List ReaderState) (reader : ReaderState) (rs : List ReaderState) → drop k readers ≡ reader ∷ rs → told_pairs tolds ≡ pairs_of readers → told.pair ≡ reader.pair
  pair_at readers reader rs is_r same =
      let r = drop_at readers k reader rs reader is_r in
      let t = drop_at tolds k told ts told is_t in
      ap (λ (x : ToldState). x.pair) (sym t.1) ∙ (sym (get_or-map (λ (x : ToldState). x.pair) tolds k told told.pair t.0) ∙ (ap (λ (l : List Named). get_or l k told.pair) same
      ∙ (get_or-map (λ (x : ReaderState). x.pair) readers k reader told.pair r.0 ∙ ap (λ (x : ReaderState). x.pair) r.1)))

  pub size_at : (sizes : List ℕ) → sizes ≡ map (λ (h : List Operation). length h) (told_lists tolds) → get_or sizes k 0 ≡ length told.list
  size_at sizes same =
      let t = drop_at tolds k told ts told is_t in
      ap (λ (l : List ℕ). get_or l k 0) same ∙ (get_or-map (λ (h : List Operation). length h) (told_lists tolds) k told.list 0 (omega (arith, t.0, length-map tolds (λ (x : ToldState). x.list)))
      ∙ ap (λ (h : List Operation). length h) (get_or-map (λ (x : ToldState). x.list) tolds k told told.list t.0 ∙ ap (λ (x : ToldState). x.list) t.1))

pub bound_most : (size : ℕ) (r : ReaderState) → bound_of size r ≤ size
bound_most size r = by_test r.entered
  where
    by_test : (b : Bool) → cond b size 0 ≤ size
    by_test true = omega arith
    by_test false = omega arith

-- one reader more has looked once more
pub looked_more : (readers : List ReaderState) (published : List (List Operation)) (looked : List ReaderState) (k : ℕ) (reader new : ReaderState) (rs : List ReaderState) → drop k readers ≡ reader ∷ rs → length looked ≡ k
    → HasLooked (last_of published k) reader new → AllAt (λ r x. (d : ReaderState) → HasLooked (last_of published r) (get_or readers r d) x) looked → AllAt (λ r x. (d : ReaderState) → HasLooked (last_of published r) (get_or readers r d) x) (looked ++ new ∷ [])
looked_more readers published looked k reader new rs is_r many now was =
    all_at_more (λ r x. (d : ReaderState) → HasLooked (last_of published r) (get_or readers r d) x) looked new was
    (subst (λ (i : ℕ). (d : ReaderState) → HasLooked (last_of published i) (get_or readers i d) new) (sym many)
    (λ d. subst (λ (x : ReaderState). HasLooked (last_of published k) x new) (sym (drop_at readers k reader rs d is_r).1) now))

-- one reader more, and its bound
pub are_more : (published : List (List Operation)) (looked : List ReaderState) (bounds : List ℕ) (new : ReaderState) (n : ℕ) → n ≡ bound_of (length (last_of published (length looked))) new
    → AreBounds published looked bounds → AreBounds published (looked ++ new ∷ []) (bounds ++ n ∷ [])
are_more published looked bounds new n is was =
    let P : ℕ → ℕ → Type 0 = λ r m. (d : ReaderState) → m ≡ bound_of (length (last_of published r)) (get_or (looked ++ new ∷ []) r d) in
    let plus : length looked ≡ length looked + 0 = omega arith in
    let at : (d : ReaderState) → get_or (looked ++ new ∷ []) (length looked) d ≡ new = λ d. ap (λ (i : ℕ). get_or (looked ++ new ∷ []) i d) plus ∙ get_or-append-add looked (new ∷ []) 0 d in record {
      many = omega (arith, was.many, length-append bounds (n ∷ []), length-append looked (new ∷ []));
      each = all_at_more P bounds n
          (λ r m below d. was.each r m below d ∙ ap (λ (x : ReaderState). bound_of (length (last_of published r)) x) (sym (get_or_append_left looked (new ∷ []) d r (omega (arith, was.many, below)))))
          (subst (λ (i : ℕ). P i n) (sym was.many) (λ d. is ∙ ap (λ (x : ReaderState). bound_of (length (last_of published (length looked))) x) (sym (at d))));
    }

-- what was published to the pair at one place
pub told_at : (tolds : List ToldState) (k : ℕ) (told : ToldState) (ts : List ToldState) → drop k tolds ≡ told ∷ ts → last_of (told_lists tolds) k ≡ told.list
told_at tolds k told ts is_t =
    let t = drop_at tolds k told ts told is_t in
    get_or-map (λ (x : ToldState). x.list) tolds k told [] t.0 ∙ ap (λ (x : ToldState). x.list) t.1

-- what one reader was told and knows gives the bound at its place
pub bound_more : (readers : List ReaderState) (tolds : List ToldState) (bounds : List ℕ) (k : ℕ) (reader : ReaderState) (told : ToldState) (rs : List ReaderState) (ts : List ToldState) (n : ℕ) → drop k readers ≡ reader ∷ rs → drop k tolds ≡ told ∷ ts → length bounds ≡ k
    → n ≤ length told.list → ((h : List Operation) → IsFront h reader.longest → length h ≤ n → IsFront h told.list) → AllAt (IsBound (told_lists tolds) readers) bounds → AllAt (IsBound (told_lists tolds) readers) (bounds ++ n ∷ [])
bound_more readers tolds bounds k reader told rs ts n is_r is_t many most holds was =
    let r = drop_at readers k reader rs reader is_r in
    let t = drop_at tolds k told ts told is_t in
    let list : get_or (told_lists tolds) k [] ≡ told.list = get_or-map (λ (x : ToldState). x.list) tolds k told [] t.0 ∙ ap (λ (x : ToldState). x.list) t.1 in
    let longest : get_or (lists_of readers) k [] ≡ reader.longest = get_or-map (λ (x : ReaderState). x.longest) readers k reader [] r.0 ∙ ap (λ (x : ReaderState). x.longest) r.1 in
    all_at_more (IsBound (told_lists tolds) readers) bounds n was (subst (λ (i : ℕ). IsBound (told_lists tolds) readers i n) (sym many) (
      subst (λ (l : List Operation). n ≤ length l) (sym list) most,
      λ h known few. subst (IsFront h) (sym list) (holds h (subst (IsFront h) longest known) few),
    ))
