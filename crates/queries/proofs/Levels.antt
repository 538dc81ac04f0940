-- Publishers that have the same list in every pair.
use Rattle.std.proofs.Common.{◌≡◌, ℕ, ◌+◌, ◌<◌, ◌≤◌, List, [], ◌∷◌, ◌++◌, length, map, set, get_or, take, replicate, refl, sym, ap, ◌∙◌, subst, arith}
use Rattle.std.specs.List.{All}
use Rattle.std.proofs.lemmas.List.{map-set, map-append, get_or-map, get_or_default, length-map, length-replicate, take_more}
use Rattle.std.proofs.lemmas.List.Elements.{All-replicate, All-set}
use Rattle.op_model.specs.declared.operation.Operation.{Operation}
use Rattle.op_model.proofs.Elements.{same_all}
use Rattle.logbook.specs.Pages.{Named}
use Rattle.snapshot_pub.specs.States.{PublisherState, ToldState}
use Rattle.queries.specs.States.{PublishersState}
use Rattle.queries.specs.Dealt.{told_lists, told_pairs}
use Rattle.queries.specs.Published.{AreLevel, PublishesToAll, column, no_pair, published_lists, published_of, rows_of}

-- every pair of a level publisher has what its first one has
pub level_publishes : (s : PublishersState) (r : ℕ) (p : PublisherState) → AreLevel s → r < length s.list → p ≡ get_or s.list r p
    → (length p.published ≡ s.workers) × All (λ x. x ≡ published_of p) p.published
level_publishes s r p a within at =
    let publishes : PublishesToAll s.workers p = subst (PublishesToAll s.workers) (sym at) (a.each r p within) in (
      ap (λ (l : List (List Operation)). length l) publishes.0 ∙ length-replicate s.workers (published_of p),
      subst (All (λ x. x ≡ published_of p)) (sym publishes.0) (All-replicate (λ x. x ≡ published_of p) s.workers (published_of p) refl),
    )

pub level_published : (s : PublishersState) (r : ℕ) (p : PublisherState) → r < length s.list → p ≡ get_or s.list r p → get_or (published_lists s) r [] ≡ published_of p
level_published s r p within at = get_or-map published_of s.list r p [] within ∙ ap published_of (sym at)

-- a publisher that has a new list in every pair
pub new_published : (p : PublisherState) (h : List Operation) (workers : ℕ) → 1 ≤ workers → length p.published ≡ workers → All (λ x. x ≡ h) p.published → published_of p ≡ h
new_published p h workers some count all = all 0 [] (omega (arith, some, count))

module _ (s : PublishersState) (r : ℕ) (old new : PublisherState) (h : List Operation) where
  abbrev pub published_next : PublishersState
  published_next = record { workers = s.workers; list = set s.list r new; sizes = set s.sizes r (length h) }

  module _ (a : AreLevel s) (within : r < length s.list) (at : old ≡ get_or s.list r old) (pairs : new.pairs ≡ old.pairs) (count : length new.published ≡ length old.published)
      (all : All (λ x. x ≡ h) new.published) where
    many : length new.published ≡ s.workers
    many = count ∙ (level_publishes s r old a within at).0

    published : published_of new ≡ h
    published = new_published new h s.workers a.some many all

    publishes : PublishesToAll s.workers new
    publishes = (
      same_all new.published h all ∙ (ap (λ n. replicate n h) many ∙ ap (λ (g : List Operation). replicate s.workers g) (sym published)),
      ap (λ l. length l) pairs ∙ ap (λ (p : PublisherState). length p.pairs) at ∙ (a.each r old within).1,
    )

    pub next_level : AreLevel published_next
    next_level = record {
      some = a.some;
      each = All-set (PublishesToAll s.workers) s.list r new publishes a.each;
      sizes = ap (λ (l : List ℕ). set l r (length h)) a.sizes ∙ (ap (λ (g : List Operation). set (map (λ (q : PublisherState). length (published_of q)) s.list) r (length g)) (sym published) ∙ sym (map-set (λ (q : PublisherState). length (published_of q)) s.list r new));
    }

    pub next_lists : published_lists published_next ≡ set (published_lists s) r h
    next_lists = map-set published_of s.list r new ∙ ap (λ (g : List Operation). set (map published_of s.list) r g) published

-- what was told of the first k publishers, of the pairs of worker w
pub record AreTold (s : PublishersState) (w k : ℕ) (ts : List ToldState) : Type 0 where
  pub pairs : told_pairs ts ≡ column w (take k (rows_of s))
  pub lists : told_lists ts ≡ take k (published_lists s)

pub told_more : (s : PublishersState) (w k : ℕ) (ts : List ToldState) (p : PublisherState) (t : ToldState) → AreLevel s → w < s.workers → k < length s.list → p ≡ get_or s.list k p
    → t.pair ≡ get_or p.pairs w t.pair → t.list ≡ get_or p.published w [] → AreTold s w k ts → AreTold s w (k + 1) (ts ++ t ∷ [])
told_more s w k ts p t a below within at pair list was =
    let publishes : PublishesToAll s.workers p = subst (PublishesToAll s.workers) (sym at) (a.each k p within) in
    let row : get_or (rows_of s) k p.pairs ≡ p.pairs = get_or-map (λ (q : PublisherState). q.pairs) s.list k p p.pairs within ∙ ap (λ (q : PublisherState). q.pairs) (sym at) in
    let pairs_more : column w (take (k + 1) (rows_of s)) ≡ column w (take k (rows_of s)) ++ t.pair ∷ [] =
    ap (column w) (take_more (rows_of s) k p.pairs (omega (arith, within, length-map s.list (λ (q : PublisherState). q.pairs)))) ∙ (map-append (λ (r : List Named). get_or r w no_pair) (take k (rows_of s)) (get_or (rows_of s) k p.pairs ∷ [])
    ∙ ap (λ (b : Named). column w (take k (rows_of s)) ++ b ∷ []) (ap (λ (r : List Named). get_or r w no_pair) row ∙ (get_or_default p.pairs w no_pair t.pair (omega (arith, below, publishes.1)) ∙ sym pair))) in
    let published : get_or p.published w [] ≡ published_of p = (level_publishes s k p a within at).1 w [] (omega (arith, below, (level_publishes s k p a within at).0)) in
    let lists_more : take (k + 1) (published_lists s) ≡ take k (published_lists s) ++ t.list ∷ [] =
    take_more (published_lists s) k [] (omega (arith, within, length-map s.list published_of)) ∙ ap (λ (h : List Operation). take k (published_lists s) ++ h ∷ []) (level_published s k p within at ∙ (sym published ∙ sym list)) in record {
      pairs = map-append (λ (x : ToldState). x.pair) ts (t ∷ []) ∙ (ap (λ (l : List Named). l ++ t.pair ∷ []) was.pairs ∙ sym pairs_more);
      lists = map-append (λ (x : ToldState). x.list) ts (t ∷ []) ∙ (ap (λ (l : List (List Operation)). l ++ t.list ∷ []) was.lists ∙ sym lists_more);
    }
