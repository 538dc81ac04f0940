-- Excerpts that are made, and excerpts of a history in a later one.
use Rattle.std.proofs.Common.{◌≡◌, inl, inr, ℕ, zero, suc, ◌≤◌, ◌&&◌, not, Bool, true, false, cond, eqb, ltb, List, [], ◌∷◌, ◌++◌, length, map, Option, Some, None, is_some, refl, sym, ap, ◌∙◌, subst, arith}
use Rattle.std.specs.Prelude.{slice_get}
use Rattle.std.specs.List.{AllByRecursion}
use Rattle.std.specs.declared.cmp.Ordering.TheVariants.{Less}
use Rattle.std.proofs.lemmas.Bool.{cases_Bool, le-ltb, ltb-false, eqb-true, eq-eqb}
use Rattle.std.proofs.lemmas.Option.{same_Some}
use Rattle.op_model.specs.Choice.{first_of, when}
use Rattle.op_model.specs.Histories.{History, SameSet, version}
use Rattle.op_model.specs.Lawful.{Lawful}
use Rattle.op_model.specs.Edits.{is_boundary}
use Rattle.op_model.specs.Shown.{text}
use Rattle.op_model.specs.Anchors.{left_anchor, right_anchor, place, is_known, compare_anchors, place_fault}
use Rattle.op_model.specs.declared.anchor.Anchor.{Anchor}
use Rattle.op_model.specs.declared.faults.PlaceFault.{PlaceFault}
use Rattle.op_model.specs.declared.faults.PlaceFault.TheVariants.{PastEnd as PastText, InsideChar as InsideOne}
use Rattle.op_model.proofs.MainLaws.{anchors_keep_their_order, anchors_resolve, anchors_stand_in_order, made_anchors_stand_in_order, parts_begin_histories, places_are_boundaries, same_sets_answer_alike, same_versions_same_sets}
use Rattle.text_buffer.specs.Document.{IsBufferHistory}
use Rattle.multi_buffer.specs.declared.excerpt.Excerpt.{Excerpt}
use Rattle.multi_buffer.specs.declared.source.Source.{Source}
use Rattle.multi_buffer.specs.declared.faults.PushFault.{PushFault}
use Rattle.multi_buffer.specs.declared.faults.PushFault.TheVariants.{Reversed, PastEnd, InsideChar}
use Rattle.multi_buffer.specs.State.{HasHistory, IsExcerpt, IsExcerptIn, IsMultiState, IsSynced, MultiState, history_in, history_of, is_of, put, source_of}
use Rattle.multi_buffer.specs.Calls.{IsWithin, after_push, after_sync, excerpt_of, followed, followed_in, made, push_fault}
use Rattle.multi_buffer.specs.Following.{AllMayFollow, IsMulti, MayFollow, MayFollowIn, state_of}
use Rattle.multi_buffer.specs.Found.{AreShort, IsShort}
use Rattle.multi_buffer.proofs.Boundaries.{boundary_within}
use Rattle.multi_buffer.proofs.Sourced.{AscendFrom-put, each-put, source-put, source-put_other}

-- ---- tests

two_none : (t u : Bool) (a b : PlaceFault) → t ≡ false → u ≡ true → first_of (when t a ∷ when (not u) b ∷ []) ≡ None
two_none t u a b e f = rw (e, f) refl

none_of_three : (t u v : Bool) (a b c : PushFault) → first_of (when t a ∷ when u b ∷ when v c ∷ []) ≡ None → (t ≡ false) × (u ≡ false) × (v ≡ false)
none_of_three true u v a b c e = cc
none_of_three false true v a b c e = cc
none_of_three false false true a b c e = cc
none_of_three false false false a b c e = (refl, refl, refl)

not_false : (b : Bool) → not b ≡ false → b ≡ true
not_false true e = refl
not_false false e = cc

both_true : (a b : Bool) → (a && b) ≡ true → (a ≡ true) × (b ≡ true)
both_true true b e = (refl, e)
both_true false b e = cc

known_from : (b : Bool) (p o : ℕ) → cond b (Some p) None ≡ Some o → b ≡ true
known_from true p o e = refl
known_from false p o e = cc

known_if : (b : Bool) (p : ℕ) → b ≡ true → cond b (Some p) None ≡ Some p
known_if b p e = rw e refl

made_is : (o : Option Anchor) → is_some o ≡ true → o ≡ Some (made o)
made_is None e = cc
made_is (Some a) e = refl

-- ---- excerpts of one history

-- where a character begins, anchors are made
pub place_faultless : (h : History) (o : ℕ) → is_boundary (text h) o ≡ true → place_fault h o ≡ None
place_faultless h o b = two_none (ltb (length (text h)) o) (is_boundary (text h) o) (PastText (length (text h))) InsideOne (le-ltb (length (text h)) o (boundary_within (text h) o b)) b

made_excerpt : (h : History) → IsBufferHistory h → (b s e : ℕ) → s ≤ e → is_boundary (text h) s ≡ true → is_boundary (text h) e ≡ true → IsExcerpt h (excerpt_of b h s e)
made_excerpt h i b s e o f g =
    let p = anchors_resolve h i.lawful i.proper s (place_faultless h s f) in
    let q = anchors_resolve h i.lawful i.proper e (place_faultless h e g) in
    let left = made_is (left_anchor h s) p.0 in
    let right = made_is (right_anchor h e) q.1 in
    record {
      left = left;
      right = right;
      left_place = p.2 (made (left_anchor h s)) left;
      right_place = q.3 (made (right_anchor h e)) right;
      order = o;
      start = f;
      end = g;
    }

short_excerpt : (h : History) → IsBufferHistory h → (b s e : ℕ) → s ≤ e → is_boundary (text h) e ≡ true → IsShort (excerpt_of b h s e)
short_excerpt h i b s e o g =
    let w = boundary_within (text h) e g in
    let t = i.text_bytes in
    let m = i.bytes in
    record { order = o; end = omega arith }

module _ (h : History) (i : IsBufferHistory h) (s e : ℕ) (f : push_fault (text h) s e ≡ None) where
  tests : (ltb e s ≡ false) × (ltb (length (text h)) e ≡ false) × (not (is_boundary (text h) s && is_boundary (text h) e) ≡ false)
  tests = none_of_three (ltb e s) (ltb (length (text h)) e) (not (is_boundary (text h) s && is_boundary (text h) e)) (Reversed 0) (PastEnd 0 (length (text h))) (InsideChar 0) f

  bounds : (is_boundary (text h) s ≡ true) × (is_boundary (text h) e ≡ true)
  bounds = both_true (is_boundary (text h) s) (is_boundary (text h) e) (not_false (is_boundary (text h) s && is_boundary (text h) e) tests.2)

  pub start_faultless : place_fault h s ≡ None
  start_faultless = place_faultless h s bounds.0

  pub end_faultless : place_fault h e ≡ None
  end_faultless = place_faultless h e bounds.1

  pub pushed_excerpt : (b : ℕ) → IsExcerpt h (excerpt_of b h s e)
  pushed_excerpt b = made_excerpt h i b s e (ltb-false e s tests.0) bounds.0 bounds.1

  pub pushed_short : (b : ℕ) → IsShort (excerpt_of b h s e)
  pushed_short b = short_excerpt h i b s e (ltb-false e s tests.0) bounds.1

-- ---- excerpts that follow

module _ (h : History) (i : IsBufferHistory h) (x : Excerpt) (m : MayFollow h x) where
  left_boundary : is_boundary (text h) (place h x.left) ≡ true
  left_boundary = places_are_boundaries h i.lawful i.proper x.left (place h x.left) (known_if (is_known h x.left) (place h x.left) m.left)

  right_boundary : is_boundary (text h) (place h x.right) ≡ true
  right_boundary = places_are_boundaries h i.lawful i.proper x.right (place h x.right) (known_if (is_known h x.right) (place h x.right) m.right)

  in_order : place h x.left ≤ place h x.right
  in_order = (anchors_stand_in_order h x.left x.right).0 m.order

  pub left_faultless : place_fault h (place h x.left) ≡ None
  left_faultless = place_faultless h (place h x.left) left_boundary

  pub right_faultless : place_fault h (place h x.right) ≡ None
  right_faultless = place_faultless h (place h x.right) right_boundary

  followed_excerpt : IsExcerpt h (followed h x)
  followed_excerpt = made_excerpt h i x.buffer (place h x.left) (place h x.right) in_order left_boundary right_boundary

  followed_short : IsShort (followed h x)
  followed_short = short_excerpt h i x.buffer (place h x.left) (place h x.right) in_order right_boundary

may_follow : (h g : History) → Lawful h → Lawful g → IsWithin h g → (x : Excerpt) → IsExcerpt h x → MayFollow g x
may_follow h g l k w x i =
    let m = parts_begin_histories h g l k w in
    let a = same_sets_answer_alike (h ++ m.0) g m.1 k m.2 in
    let kl : is_known h x.left ≡ true = known_from (is_known h x.left) (place h x.left) x.start i.left_place in
    let kr : is_known h x.right ≡ true = known_from (is_known h x.right) (place h x.right) x.end i.right_place in
    let less : compare_anchors h x.left x.right ≡ Less = (made_anchors_stand_in_order h l x.start x.end x.left x.right).1 i.order i.left i.right in
    let s = anchors_keep_their_order h m.0 l m.1 x.left x.right kl kr in
    let e = anchors_keep_their_order h m.0 l m.1 x.right x.right kr kr in
    record {
      left = sym (a.1 x.left).0 ∙ s.0;
      right = sym (a.1 x.right).0 ∙ e.0;
      order = sym (a.2 x.left x.right) ∙ s.1 ∙ less;
    }

-- ---- all excerpts

each_found : (P : Source → Type 0) (b : ℕ) (ss : List Source) (s : Source) → AllByRecursion P ss → source_of b ss ≡ Some s → P s
each_found P b [] s e f = cc
each_found P b (r ∷ ss) s e f = elim (cases_Bool (is_of b r)) [
  | inl t ↦ (let g : Some r ≡ Some s = rw t at f in let q : r ≡ s = cc in subst P q e.0)
  | inr t ↦ each_found P b ss s e.1 (rw t at f)
]

module _ (ss : List Source) (b : ℕ) (g : History) where
  follows : AllByRecursion HasHistory ss → Lawful g → (o : Option Source) → source_of b ss ≡ o → IsWithin (history_in o) g → (x : Excerpt) → IsExcerptIn o x → MayFollow g x
  follows a k None e w x i = absurd i
  follows a k (Some s) e w x i = let h = each_found HasHistory b ss s a e in may_follow s.snapshot g h.lawful k w x i

  pub all_may_follow : (xs : List Excerpt) → AllByRecursion HasHistory ss → AllByRecursion (IsSynced ss) xs → Lawful g → IsWithin (history_of b ss) g → AllMayFollow b g xs
  all_may_follow [] a i k w = tt
  all_may_follow (x ∷ xs) a i k w = (
    λ e. follows a k (source_of b ss) refl w x (subst (λ (n : ℕ). IsExcerptIn (source_of n ss) x) e i.0),
    all_may_follow xs a i.1 k w,
  )

  pub none_follow : (xs : List Excerpt) → source_of b ss ≡ None → AllByRecursion (IsSynced ss) xs → xs ≡ map (followed_in b g) xs
  none_follow [] e i = refl
  none_follow (x ∷ xs) e i = elim (cases_Bool (eqb x.buffer b)) [
    | inl t ↦ (let q : x.buffer ≡ b = eqb-true x.buffer b t in absurd (subst (λ (o : Option Source). IsExcerptIn o x) e (subst (λ (n : ℕ). IsExcerptIn (source_of n ss) x) q i.0)))
    | inr t ↦ ap (λ (ys : List Excerpt). x ∷ ys) (none_follow xs e i.1) ∙ ap (λ (y : Excerpt). y ∷ map (followed_in b g) xs) (sym (stays (eqb x.buffer b) t))
  ]
    where
      stays : (t : Bool) → t ≡ false → cond t (followed g x) x ≡ x
      stays t f = rw f refl

pub follow_short : (b : ℕ) (h : History) → IsBufferHistory h → (xs : List Excerpt) → AllMayFollow b h xs → AllByRecursion IsShort xs → AllByRecursion IsShort (map (followed_in b h) xs)
follow_short b h i [] m a = tt
follow_short b h i (x ∷ xs) m a = (
  elim (cases_Bool (eqb x.buffer b)) [
    | inl t ↦ rw t (followed_short h i x (m.0 (eqb-true x.buffer b t)))
    | inr t ↦ rw t a.0
  ],
  follow_short b h i xs m.1 a.1,
)

map_count : (b : ℕ) (h : History) (xs : List Excerpt) → length (map (followed_in b h) xs) ≡ length xs
map_count b h [] = refl
map_count b h (x ∷ xs) = ap suc (map_count b h xs)

pub AreShort-follow : (b : ℕ) (h : History) → IsBufferHistory h → (xs : List Excerpt) → AllMayFollow b h xs → AreShort xs → AreShort (map (followed_in b h) xs)
AreShort-follow b h i xs m a = record { few = let c = map_count b h xs in let f = a.few in omega arith; each = follow_short b h i xs m a.each }

-- ---- a buffer without further operations

place_is : (t : Bool) (p o : ℕ) → cond t (Some p) None ≡ Some o → p ≡ o
place_is true p o e = same_Some p o e
place_is false p o e = cc

made_there : (o : Option Anchor) (a : Anchor) → o ≡ Some a → made o ≡ a
made_there None a e = cc
made_there (Some b) a e = same_Some b a e

abbrev as_excerpt : ℕ → Anchor → Anchor → ℕ → ℕ → Excerpt
as_excerpt b l r s e = record { buffer = b; left = l; right = r; start = s; end = e }

same_excerpt : (b : ℕ) (l m r q : Anchor) (s t e f : ℕ) → l ≡ m → r ≡ q → s ≡ t → e ≡ f → as_excerpt b l r s e ≡ as_excerpt b m q t f
same_excerpt b l m r q s t e f i j k n = rw (i, j, k, n) refl

stays_as_is : (h g : History) → Lawful h → Lawful g → SameSet h g → (x : Excerpt) → IsExcerpt h x → x ≡ followed g x
stays_as_is h g l k s x i =
    let a = same_sets_answer_alike h g l k s in
    let p : place g x.left ≡ x.start = sym (a.1 x.left).1 ∙ place_is (is_known h x.left) (place h x.left) x.start i.left_place in
    let q : place g x.right ≡ x.end = sym (a.1 x.right).1 ∙ place_is (is_known h x.right) (place h x.right) x.end i.right_place in
    let m : made (left_anchor g (place g x.left)) ≡ x.left = made_there (left_anchor g (place g x.left)) x.left (ap (left_anchor g) p ∙ sym (a.0 x.start).0 ∙ i.left) in
    let n : made (right_anchor g (place g x.right)) ≡ x.right = made_there (right_anchor g (place g x.right)) x.right (ap (right_anchor g) q ∙ sym (a.0 x.end).1 ∙ i.right) in
    sym (same_excerpt x.buffer (made (left_anchor g (place g x.left))) x.left (made (right_anchor g (place g x.right))) x.right (place g x.left) x.start (place g x.right) x.end m n p q)

module _ (ss : List Source) (b : ℕ) (g : History) (a : AllByRecursion HasHistory ss) (k : Lawful g) (w : IsWithin (history_of b ss) g) (v : version (history_of b ss) ≡ version g) where
  same_here : (o : Option Source) → source_of b ss ≡ o → IsWithin (history_in o) g → version (history_in o) ≡ version g → (x : Excerpt) → IsExcerptIn o x → x ≡ followed g x
  same_here None e w v x i = absurd i
  same_here (Some s) e w v x i =
      let h = each_found HasHistory b ss s a e in
      stays_as_is s.snapshot g h.lawful k (same_versions_same_sets s.snapshot g h.lawful k w v) x i

  pub same_follow : (xs : List Excerpt) → AllByRecursion (IsSynced ss) xs → xs ≡ map (followed_in b g) xs
  same_follow [] i = refl
  same_follow (x ∷ xs) i =
      ap (λ (ys : List Excerpt). x ∷ ys) (same_follow xs i.1)
      ∙ ap (λ (y : Excerpt). y ∷ map (followed_in b g) xs) (elim (cases_Bool (eqb x.buffer b)) [
        | inl t ↦ rw t (same_here (source_of b ss) refl w v x (subst (λ (n : ℕ). IsExcerptIn (source_of n ss) x) (eqb-true x.buffer b t) i.0))
        | inr t ↦ rw t refl
      ])

-- ---- a buffer that is synced

abbrev pub source : ℕ → History → Source
source b h = record { buffer = b; snapshot = h }

module _ (ss : List Source) (b : ℕ) (h : History) (i : IsBufferHistory h) where
  followed_synced : (x : Excerpt) → MayFollowIn b h x → IsSynced ss x → IsSynced (put (source b h) ss) (followed_in b h x)
  followed_synced x m k = elim (cases_Bool (eqb x.buffer b)) [
    | inl t ↦ (
        let q : x.buffer ≡ b = eqb-true x.buffer b t in
        let e : source_of x.buffer (put (source b h) ss) ≡ Some (source b h) = ap (λ (n : ℕ). source_of n (put (source b h) ss)) q ∙ source-put (source b h) ss in
        rw t (subst (λ (o : Option Source). IsExcerptIn o (followed h x)) (sym e) (followed_excerpt h i x (m q))))
    | inr t ↦ (
        let n : x.buffer ≡ b → ⊥ = λ q. apart x.buffer q t in
        let e : source_of x.buffer (put (source b h) ss) ≡ source_of x.buffer ss = source-put_other x.buffer (source b h) ss n in
        rw t (subst (λ (o : Option Source). IsExcerptIn o x) (sym e) k))
  ]
    where
      apart : (n : ℕ) → n ≡ b → eqb n b ≡ false → ⊥
      apart n q t = let u : eqb n b ≡ true = eq-eqb n b q in let z : ⊥ = cc in z

  all_synced : (xs : List Excerpt) → AllMayFollow b h xs → AllByRecursion (IsSynced ss) xs → AllByRecursion (IsSynced (put (source b h) ss)) (map (followed_in b h) xs)
  all_synced [] m k = tt
  all_synced (x ∷ xs) m k = (followed_synced x m.0 k.0, all_synced xs m.1 k.1)

  pub multi_synced : (xs : List Excerpt) → IsMulti xs ss → AllMayFollow b h xs → IsMulti (map (followed_in b h) xs) (put (source b h) ss)
  multi_synced xs k m = record {
    ascending = AscendFrom-put 0 (source b h) ss (omega arith) k.ascending;
    histories = each-put HasHistory (source b h) ss i k.histories;
    excerpts = all_synced xs m k.excerpts;
  }

-- and an excerpt is put after the others
pub multi_pushed : (xs : List Excerpt) (ss : List Source) (b s e : ℕ) (h : History) → source_of b ss ≡ Some (source b h) → IsMulti xs ss → IsExcerpt h (excerpt_of b h s e) → IsMulti (xs ++ excerpt_of b h s e ∷ []) ss
multi_pushed xs ss b s e h f k i = record {
  ascending = k.ascending;
  histories = k.histories;
  excerpts = go xs k.excerpts;
}
  where
    one : IsSynced ss (excerpt_of b h s e)
    one = subst (λ (o : Option Source). IsExcerptIn o (excerpt_of b h s e)) (sym f) i

    go : (ys : List Excerpt) → AllByRecursion (IsSynced ss) ys → AllByRecursion (IsSynced ss) (ys ++ excerpt_of b h s e ∷ [])
    go [] a = (one, tt)
    go (y ∷ ys) a = (a.0, go ys a.1)

-- ---- one excerpt after another

pub follow_at : (b : ℕ) (h : History) (xs : List Excerpt) (i : ℕ) (x : Excerpt) → AllMayFollow b h xs → slice_get xs i ≡ Some x → MayFollowIn b h x
follow_at b h [] i x m e = cc
follow_at b h (y ∷ xs) zero x m e = let q : y ≡ x = cc in subst (MayFollowIn b h) q m.0
follow_at b h (y ∷ xs) (suc i) x m e = follow_at b h xs i x m.1 e

-- ---- what calls leave

module _ (xs : List Excerpt) (ss : List Source) (b : ℕ) (g : History) (k : IsMulti xs ss) (i : IsBufferHistory g) (w : IsWithin (history_of b ss) g) where
  pub may_all : AllMayFollow b g xs
  may_all = all_may_follow ss b g xs k.histories k.excerpts i.lawful w

  pub synced_multi : (ys : List Excerpt) (ts : List Source) → ys ≡ map (followed_in b g) xs → ts ≡ put (source b g) ss → IsMulti ys ts
  synced_multi ys ts e f = subst (λ (zs : List Excerpt). IsMulti zs ts) (sym e) (subst (λ (us : List Source). IsMulti (map (followed_in b g) xs) us) (sym f) (multi_synced ss b g i xs k may_all))

  pub pushed_multi : (s e : ℕ) → push_fault (text g) s e ≡ None → (ys zs : List Excerpt) (ts : List Source) → ys ≡ map (followed_in b g) xs → zs ≡ ys ++ excerpt_of b g s e ∷ [] → ts ≡ put (source b g) ss → IsMulti zs ts
  pushed_multi s e n ys zs ts p q r =
      subst (λ (us : List Excerpt). IsMulti us ts) (sym q)
      (multi_pushed ys ts b s e g (ap (source_of b) r ∙ source-put (source b g) ss) (synced_multi ys ts p r) (pushed_excerpt g i s e n b))

pub is_synced : (m : MultiState) (xs ys : List Excerpt) (ss ts : List Source) (b : ℕ) (g : History) → state_of xs ss ≡ m → ys ≡ map (followed_in b g) m.excerpts → ts ≡ put (source b g) ss → state_of ys ts ≡ after_sync b g m
is_synced m xs ys ss ts b g v e f =
    ap (λ (zs : List Excerpt). state_of zs ts) e ∙ ap (λ (us : List Source). state_of (map (followed_in b g) m.excerpts) us) (f ∙ ap (λ (n : MultiState). put (source b g) n.synced) v)

pub is_pushed : (m : MultiState) (xs ys zs : List Excerpt) (ss ts : List Source) (b s e : ℕ) (g : History) → state_of xs ss ≡ m → ys ≡ map (followed_in b g) m.excerpts → zs ≡ ys ++ excerpt_of b g s e ∷ [] → ts ≡ put (source b g) ss → state_of zs ts ≡ after_push b g s e m
is_pushed m xs ys zs ss ts b s e g v p q r =
    ap (λ (us : List Excerpt). state_of us ts) (q ∙ ap (λ (us : List Excerpt). us ++ excerpt_of b g s e ∷ []) p)
    ∙ ap (λ (us : List Source). state_of (map (followed_in b g) m.excerpts ++ excerpt_of b g s e ∷ []) us) (r ∙ ap (λ (n : MultiState). put (source b g) n.synced) v)

pub follow_count : (b : ℕ) (g : History) (xs ys : List Excerpt) → ys ≡ map (followed_in b g) xs → length ys ≡ length xs
follow_count b g xs ys e = ap length e ∙ map_count b g xs

pub new_multi : (xs : List Excerpt) (ss : List Source) → xs ≡ [] → ss ≡ [] → IsMulti xs ss
new_multi xs ss e f = subst (λ (ys : List Excerpt). IsMulti ys ss) (sym e) (subst (λ (ts : List Source). IsMulti [] ts) (sym f) (record { ascending = tt; histories = tt; excerpts = tt }))

pub new_is : (xs : List Excerpt) (ss : List Source) → xs ≡ [] → ss ≡ [] → state_of xs ss ≡ state_of [] []
new_is xs ss e f = ap (λ (ys : List Excerpt). state_of ys ss) e ∙ ap (λ (ts : List Source). state_of [] ts) f

-- what is true of every multibuffer
pub state_is : (m : MultiState) (xs : List Excerpt) (ss : List Source) → state_of xs ss ≡ m → AreShort xs → IsMulti xs ss → IsMultiState m
state_is m xs ss v a k = subst IsMultiState v (record { few = a.few; ascending = k.ascending; histories = k.histories; excerpts = k.excerpts })
