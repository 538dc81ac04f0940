-- The laws of reaches as sums, and of the filters of members.
use Rattle.std.specs.Prelude.{◌≡◌, ℕ, ◌&&◌, min, max, Bool, true, false, Option, Some, None, refl}
use Rattle.std.proofs.Common.{ap, sym, arith, leb}
use Rattle.std.proofs.lemmas.Bool.{le-leb, leb-true, lt-ltb, ltb-true}
use Rattle.std.proofs.lemmas.Option.{same_Some}
use Rattle.sum_tree.specs.Laws.{SummaryLaws}
use Rattle.tree_cursor.specs.Places.{DimensionLaws}
use Rattle.multi_buffer.specs.declared.parts.Part.{Part}
use Rattle.multi_buffer.specs.declared.reach.Bounds.{Bounds}
use Rattle.multi_buffer.specs.declared.reach.Reach.{Reach}
use Rattle.multi_buffer.specs.Members.{no_reach, join, join_bounds, add_reach, holds_buffer, holds_greater, holds_meeting, stay, AlwaysFits, AnyReach, StaysHere}

-- ---- sums

abbrev as_bounds : ℕ → ℕ → ℕ → ℕ → Bounds
as_bounds f l s e = record { first = f; last = l; start = s; end = e }

same_bounds : (f g l m s t e d : ℕ) → f ≡ g → l ≡ m → s ≡ t → e ≡ d → as_bounds f l s e ≡ as_bounds g m t d
same_bounds f g l m s t e d p q r o = rw (p, q, r, o) refl

join_bounds-assoc : (a b c : Bounds) → join_bounds (join_bounds a b) c ≡ join_bounds a (join_bounds b c)
join_bounds-assoc a b c = same_bounds (min (min a.first b.first) c.first) (min a.first (min b.first c.first)) (max (max a.last b.last) c.last) (max a.last (max b.last c.last))
    (min (min a.start b.start) c.start) (min a.start (min b.start c.start)) (max (max a.end b.end) c.end) (max a.end (max b.end c.end))
    (omega arith) (omega arith) (omega arith) (omega arith)

join-none : (a : Option Bounds) → join a None ≡ a
join-none None = refl
join-none (Some a) = refl

join-assoc : (a b c : Option Bounds) → join (join a b) c ≡ join a (join b c)
join-assoc None b c = refl
join-assoc (Some a) None c = refl
join-assoc (Some a) (Some b) None = refl
join-assoc (Some a) (Some b) (Some c) = ap (λ (x : Bounds). Some x) (join_bounds-assoc a b c)

abbrev as_reach : Option Bounds → Reach
as_reach o = record { bounds = o }

pub reach_laws : SummaryLaws no_reach add_reach AnyReach AnyReach
reach_laws = record {
  empty_admitted = tt;
  op_admitted = λ a b p q. tt;
  left_identity = λ a p. refl;
  right_identity = λ a p. ap as_reach (join-none a.bounds);
  assoc = λ a b c p q r. ap as_reach (join-assoc a.bounds b.bounds c.bounds);
  empty_fits = tt;
  fits_parts = λ a b c p q r f. tt;
}

-- ---- places

pub stay_laws : DimensionLaws {P = ℕ} {S = Reach} no_reach add_reach AnyReach AnyReach StaysHere stay AlwaysFits
stay_laws = record {
  nothing = λ p q e. sym (same_Some p q e);
  parts = λ p q a b f g e. (p, refl, e);
  one = λ p a f s r. (p, refl);
  forward = λ p q a f e. tt;
  fits_front = λ p a b f g h. tt;
  fits_back = λ p r a b f g h e. tt;
}

-- ---- filters

not_kept : (t u : Bool) → (t ≡ true → u ≡ true) → u ≡ false → t ≡ false
not_kept true u f e = let g = f refl in cc
not_kept false u f e = refl

pub and_true : (t u : Bool) → (t && u) ≡ true → (t ≡ true) × (u ≡ true)
and_true true u h = (refl, h)
and_true false u h = cc

pub both_true : (t u : Bool) → t ≡ true → u ≡ true → (t && u) ≡ true
both_true t u e f = rw (e, f) refl

-- numbers that lie within one of two ranges lie within that from the lesser start to the greater end
within_front : (f l g m x y : ℕ) → (leb f x && leb y l) ≡ true → (leb (min f g) x && leb y (max l m)) ≡ true
within_front f l g m x y h =
    let k = and_true (leb f x) (leb y l) h in
    let a = leb-true f x k.0 in
    let b = leb-true y l k.1 in
    both_true (leb (min f g) x) (leb y (max l m)) (le-leb (min f g) x (omega arith)) (le-leb y (max l m) (omega arith))

within_back : (f l g m x y : ℕ) → (leb g x && leb y m) ≡ true → (leb (min f g) x && leb y (max l m)) ≡ true
within_back f l g m x y h =
    let k = and_true (leb g x) (leb y m) h in
    let a = leb-true g x k.0 in
    let b = leb-true y m k.1 in
    both_true (leb (min f g) x) (leb y (max l m)) (le-leb (min f g) x (omega arith)) (le-leb y (max l m) (omega arith))

buffer_front : (b : ℕ) (p q : Option Bounds) → holds_buffer b p ≡ true → holds_buffer b (join p q) ≡ true
buffer_front b None q h = cc
buffer_front b (Some p) None h = h
buffer_front b (Some p) (Some q) h = within_front p.first p.last q.first q.last b b h

buffer_back : (b : ℕ) (p q : Option Bounds) → holds_buffer b q ≡ true → holds_buffer b (join p q) ≡ true
buffer_back b None q h = h
buffer_back b (Some p) None h = cc
buffer_back b (Some p) (Some q) h = within_back p.first p.last q.first q.last b b h

pub buffer_parts : (b : ℕ) (p q : Reach) → holds_buffer b (add_reach p q).bounds ≡ false → (holds_buffer b p.bounds ≡ false) × (holds_buffer b q.bounds ≡ false)
buffer_parts b p q e = (
  not_kept (holds_buffer b p.bounds) (holds_buffer b (join p.bounds q.bounds)) (buffer_front b p.bounds q.bounds) e,
  not_kept (holds_buffer b q.bounds) (holds_buffer b (join p.bounds q.bounds)) (buffer_back b p.bounds q.bounds) e,
)

greater_front : (b : ℕ) (p q : Option Bounds) → holds_greater b p ≡ true → holds_greater b (join p q) ≡ true
greater_front b None q h = cc
greater_front b (Some p) None h = h
greater_front b (Some p) (Some q) h = let a = ltb-true b p.last h in lt-ltb b (max p.last q.last) (omega arith)

greater_back : (b : ℕ) (p q : Option Bounds) → holds_greater b q ≡ true → holds_greater b (join p q) ≡ true
greater_back b None q h = h
greater_back b (Some p) None h = cc
greater_back b (Some p) (Some q) h = let a = ltb-true b q.last h in lt-ltb b (max p.last q.last) (omega arith)

pub greater_parts : (b : ℕ) (p q : Reach) → holds_greater b (add_reach p q).bounds ≡ false → (holds_greater b p.bounds ≡ false) × (holds_greater b q.bounds ≡ false)
greater_parts b p q e = (
  not_kept (holds_greater b p.bounds) (holds_greater b (join p.bounds q.bounds)) (greater_front b p.bounds q.bounds) e,
  not_kept (holds_greater b q.bounds) (holds_greater b (join p.bounds q.bounds)) (greater_back b p.bounds q.bounds) e,
)

meeting_front : (r : Part) (p q : Option Bounds) → holds_meeting r p ≡ true → holds_meeting r (join p q) ≡ true
meeting_front r None q h = cc
meeting_front r (Some p) None h = h
meeting_front r (Some p) (Some q) h =
    let k = and_true (leb p.first r.buffer && leb r.buffer p.last) (leb p.start r.end && leb r.start p.end) h in
    both_true (leb (min p.first q.first) r.buffer && leb r.buffer (max p.last q.last)) (leb (min p.start q.start) r.end && leb r.start (max p.end q.end))
    (within_front p.first p.last q.first q.last r.buffer r.buffer k.0) (within_front p.start p.end q.start q.end r.end r.start k.1)

meeting_back : (r : Part) (p q : Option Bounds) → holds_meeting r q ≡ true → holds_meeting r (join p q) ≡ true
meeting_back r None q h = h
meeting_back r (Some p) None h = cc
meeting_back r (Some p) (Some q) h =
    let k = and_true (leb q.first r.buffer && leb r.buffer q.last) (leb q.start r.end && leb r.start q.end) h in
    both_true (leb (min p.first q.first) r.buffer && leb r.buffer (max p.last q.last)) (leb (min p.start q.start) r.end && leb r.start (max p.end q.end))
    (within_back p.first p.last q.first q.last r.buffer r.buffer k.0) (within_back p.start p.end q.start q.end r.end r.start k.1)

pub meeting_parts : (r : Part) (p q : Reach) → holds_meeting r (add_reach p q).bounds ≡ false → (holds_meeting r p.bounds ≡ false) × (holds_meeting r q.bounds ≡ false)
meeting_parts r p q e = (
  not_kept (holds_meeting r p.bounds) (holds_meeting r (join p.bounds q.bounds)) (meeting_front r p.bounds q.bounds) e,
  not_kept (holds_meeting r q.bounds) (holds_meeting r (join p.bounds q.bounds)) (meeting_back r p.bounds q.bounds) e,
)
