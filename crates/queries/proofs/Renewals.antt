-- What comes of the answers of each worker, one worker after another.
use Rattle.std.proofs.Common.{◌≡◌, ℕ, ◌<◌, ◌==◌, List, [], ◌∷◌, ◌++◌, length, map, get_or, drop, sym, ap, ◌∙◌, subst, arith}
use Rattle.std.specs.List.{filter}
use Rattle.std.proofs.lemmas.List.{drop-map, get_or-append-add, get_or_append_left, length-map, map-append}
use Rattle.op_model.specs.declared.operation.Operation.{Operation}
use Rattle.op_model.proofs.Elements.{drop_at}
use Rattle.snapshot_pub.specs.States.{ReaderState, ToldState}
use Rattle.queries.specs.Asks.{worker_of}
use Rattle.queries.specs.States.{DoneState}
use Rattle.queries.specs.declared.query.Answer.{Answer}
use Rattle.queries.specs.Dealt.{AllAt, told_lists}
use Rattle.queries.specs.Final.{AreRenewed, HasRenewed, HaveRenewed}
use Rattle.queries.proofs.Places.{all_at_more}

module _ {Q A : Type 0} (plain : Q → List Operation → A) (tolds : List (List ToldState)) (lasts : List (List Operation)) (dones : List (DoneState Q A)) where
  -- the workers so far
  abbrev pub AreRenewedSoFar : List (List ReaderState) → List (List (Answer Q A)) → Type 0
  AreRenewedSoFar looked lists = AllAt (λ w x. (t : List ToldState) (d : DoneState Q A) (l : List (Answer Q A))
      → HasRenewed plain (told_lists (get_or tolds w t)) lasts (get_or dones w d) x (get_or lists w l)) looked

  -- one worker more
  pub renewed_more : (looked : List (List ReaderState)) (lists : List (List (Answer Q A))) (x : List ReaderState) (l : List (Answer Q A)) (t : List ToldState) (d : DoneState Q A) (ts : List (List ToldState)) (ds : List (DoneState Q A)) → length lists ≡ length looked
      → drop (length looked) tolds ≡ t ∷ ts → drop (length looked) dones ≡ d ∷ ds → HasRenewed plain (told_lists t) lasts d x l → AreRenewedSoFar looked lists → AreRenewedSoFar (looked ++ x ∷ []) (lists ++ l ∷ [])
  renewed_more looked lists x l t d ts ds many is_t is_d now was =
      let P : ℕ → List ReaderState → Type 0 = λ w y. (s : List ToldState) (e : DoneState Q A) (m : List (Answer Q A)) → HasRenewed plain (told_lists (get_or tolds w s)) lasts (get_or dones w e) y (get_or (lists ++ l ∷ []) w m) in
      let last : (m : List (Answer Q A)) → get_or (lists ++ l ∷ []) (length looked) m ≡ l = λ m. ap (λ (i : ℕ). get_or (lists ++ l ∷ []) i m) (omega (arith, many)) ∙ get_or-append-add lists (l ∷ []) 0 m in
      all_at_more P looked x
      (λ w y below s e m. subst (HasRenewed plain (told_lists (get_or tolds w s)) lasts (get_or dones w e) (get_or looked w y)) (sym (get_or_append_left lists (l ∷ []) m w (omega (arith, many, below)))) (was w y below s e m))
      (λ s e m.
      subst (HasRenewed plain (told_lists (get_or tolds (length looked) s)) lasts (get_or dones (length looked) e) x) (sym (last m))
      (subst (λ (u : List ToldState). HasRenewed plain (told_lists u) lasts (get_or dones (length looked) e) x l) (sym (drop_at tolds (length looked) t ts s is_t).1)
      (subst (λ (u : DoneState Q A). HasRenewed plain (told_lists t) lasts u x l) (sym (drop_at dones (length looked) d ds e is_d).1) now)))

  -- of each worker, where all were told of the same lists and each one's answers stand among all answers
  pub all_renewed : (looked : List (List ReaderState)) (lists : List (List (Answer Q A))) (answers : List (Answer Q A)) (published : List (List Operation)) → HaveRenewed plain tolds lasts dones looked lists
      → ((w : ℕ) (t : List ToldState) → w < length dones → told_lists (get_or tolds w t) ≡ published)
      → ((w : ℕ) (l : List (Answer Q A)) → w < length dones → filter (λ (a : Answer Q A). worker_of (length dones) a.number == w) answers ≡ get_or lists w l)
      → AreRenewed plain published lasts dones looked answers
  all_renewed looked lists answers published h same stand = record {
    many = h.many;
    each = λ w y below d.
        let within : w < length dones = omega (arith, h.many, below) in
        subst (HasRenewed plain published lasts (get_or dones w d) (get_or looked w y)) (sym (stand w [] within))
        (subst (λ (p : List (List Operation)). HasRenewed plain p lasts (get_or dones w d) (get_or looked w y) (get_or lists w [])) (same w [] within) (h.each w y below [] d []));
  }

-- the same of what is kept in other lists
pub so_far : {Q A X Y Z : Type 0} (plain : Q → List Operation → A) (f : X → List ToldState) (g : Y → List ReaderState) (h : Z → List (Answer Q A)) (tolds : List X) (lasts : List (List Operation)) (dones : List (DoneState Q A)) (looked looked' : List Y) (lists lists' : List Z) (x : Y) (l : Z) (t : X) (d : DoneState Q A)
    (ts : List X) (ds : List (DoneState Q A)) → looked' ≡ looked ++ x ∷ [] → lists' ≡ lists ++ l ∷ [] → length lists ≡ length looked → drop (length looked) tolds ≡ t ∷ ts → drop (length looked) dones ≡ d ∷ ds → HasRenewed plain (told_lists (f t)) lasts d (g x) (h l)
    → AreRenewedSoFar plain (map f tolds) lasts dones (map g looked) (map h lists) → AreRenewedSoFar plain (map f tolds) lasts dones (map g looked') (map h lists')
so_far {Q} {A} plain f g h tolds lasts dones looked looked' lists lists' x l t d ts ds is_x is_l many is_t is_d now was =
    let k : length (map g looked) ≡ length looked = length-map looked g in
    let told : drop (length (map g looked)) (map f tolds) ≡ f t ∷ map f ts = ap (λ (i : ℕ). drop i (map f tolds)) k ∙ (drop-map f (length looked) tolds ∙ ap (map f) is_t) in
    let done : drop (length (map g looked)) dones ≡ d ∷ ds = ap (λ (i : ℕ). drop i dones) k ∙ is_d in
    let one = renewed_more plain (map f tolds) lasts dones (map g looked) (map h lists) (g x) (h l) (f t) d (map f ts) ds (length-map lists h ∙ (many ∙ sym k)) told done now was in
    subst (λ (us : List (List ReaderState)). AreRenewedSoFar plain (map f tolds) lasts dones us (map h lists')) (sym (ap (map g) is_x ∙ map-append g looked (x ∷ [])))
    (subst (λ (vs : List (List (Answer Q A))). AreRenewedSoFar plain (map f tolds) lasts dones (map g looked ++ g x ∷ []) vs) (sym (ap (map h) is_l ∙ map-append h lists (l ∷ []))) one)
