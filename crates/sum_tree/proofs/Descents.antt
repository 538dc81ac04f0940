-- The change of a range within one child as a change of its node.
use Rattle.std.proofs.Common.{refl, ◌≡◌, ℕ, ◌+◌, ◌^◌, ◌<◌, ◌≤◌, List, [], ◌∷◌, ◌++◌, length, get_or, set, take, drop, Vec, Global, Option, Some, sym, ap, subst, ◌∙◌, arith, length-append}
use Rattle.std.proofs.lemmas.List.{length-set}
use Rattle.std.proofs.lemmas.List.Elements.{All-set}
use Rattle.sum_tree.specs.Laws.{SummaryLaws, fold}
use Rattle.sum_tree.specs.Seen.{Seen}
use Rattle.sum_tree.specs.Shape.{join_items, node_view, IsChild, IsContent}
use Rattle.sum_tree.specs.Grown.{IsSplit, with_pair}
use Rattle.sum_tree.specs.Spliced.{splice_list, IsPiece, IsSpliced, IsWithin}
use Rattle.sum_tree.specs.Around.{outer_sums, path_sums, Fitting}
use Rattle.sum_tree.specs.Placed.{IsPlaced, inner_seen, AreChildren}
use Rattle.sum_tree.specs.declared.around.Around.{Around}
use Rattle.sum_tree.specs.declared.tree.Node.{Node}
use Rattle.sum_tree.specs.declared.tree.Content.TheVariants.{Inner}
use Rattle.sum_tree.proofs.Opened.{IsInner, opened}
use Rattle.sum_tree.proofs.Nodes.{inner_of}
use Rattle.sum_tree.proofs.Runs.{fits_middle}
use Rattle.sum_tree.proofs.Splices.{spliced_within, spliced_child, spliced_piece, spliced-joined}
use Rattle.sum_tree.proofs.Arounds.{outer_sums-snoc, Fitting-snoc}
use Rattle.sum_tree.proofs.Placeds.{around_sum, around_fits, placed_child, placed_node}
use Rattle.sum_tree.proofs.Heres.{set_same}
use Rattle.sum_tree.proofs.Pairs.{paired_all}

-- child k of a node seen as s, t, holds the n items from i on as its own from r on, and so they change together
pub record IsStep {T : Type 0} (s : Seen T) (ts : List (Seen T)) (k r n i : ℕ) (t : Seen T) (ys : List T) : Type 0 where
  pub inner : IsInner s ts
  pub lt : k < length ts
  pub read : t ≡ get_or ts k t
  pub within : r + n ≤ length t.items
  pub before : length (join_items (take k ts)) + r ≡ i
  pub child : IsChild s.height t
  pub whole : join_items (take k ts) ++ (splice_list r (r + n) ys t.items ++ join_items (drop (k + 1) ts)) ≡ splice_list i (i + n) ys s.items

-- a and b are to replace child k, which is as it was; the items are then these
pub record IsPairStep {T : Type 0} (h : ℕ) (ts : List (Seen T)) (k : ℕ) (u a b : Seen T) (xs : List T) : Type 0 where
  pub same : set ts k u ≡ ts
  pub front : IsChild h a
  pub back : IsChild h b
  pub items : join_items (with_pair (set ts k u) k a (Some b)) ≡ xs

module _ {T : Type 0} where
  -- a range that lies within a child is a step down to it
  pub step_of : {s : Seen T} {ts us : List (Seen T)} (k r n i : ℕ) {t : Seen T} (ys : List T) → IsInner s ts → us ≡ ts → IsWithin us i n k r → t ≡ get_or ts k t → IsStep s ts k r n i t ys
  step_of {s} {ts} {us} k r n i {t} ys inner same w read =
      let v : IsWithin ts i n k r = subst (λ (vs : List (Seen T)). IsWithin vs i n k r) same w in
      let within : r + n ≤ length t.items = subst (λ (u : Seen T). r + n ≤ length u.items) (sym read) (v.1 t) in
      record {
        inner = inner;
        lt = v.0;
        read = read;
        within = within;
        before = v.2;
        child = subst (λ (u : Seen T). IsChild s.height u) (sym read) (inner.children k t v.0);
        whole = spliced_within s ts k r n i t ys inner v.0 within v.2 read;
      }

  -- the same in the children of a node of height h
  pub step : (h k r n i : ℕ) {ts us : List (Seen T)} {t : Seen T} (ys : List T) → AreChildren h ts → us ≡ ts → IsWithin us i n k r → t ≡ get_or ts k t → IsStep (inner_seen h ts) ts k r n i t ys
  step h k r n i {ts} ys all same w read = step_of k r n i ys (inner_of h ts all) same w read

  -- what the child becomes replaces it
  pub step_items : {s : Seen T} {ts : List (Seen T)} {k r n i : ℕ} {t : Seen T} {ys : List T} (a : Seen T) (b : Option (Seen T)) → IsStep s ts k r n i t ys → IsSpliced t.height t.width (splice_list r (r + n) ys t.items) a b → join_items (with_pair ts k a b) ≡ splice_list i (i + n) ys s.items
  step_items {s} {ts} {k} {r} {n} {i} {t} {ys} a b st done =
      spliced_child s ts k r n i t ys a b st.inner st.lt st.within st.before st.read (spliced-joined t.height t.width (splice_list r (r + n) ys t.items) a b done)

  -- and is as high as it
  pub step_piece : {s : Seen T} {ts : List (Seen T)} {k r n i : ℕ} {t : Seen T} {ys : List T} (a : Seen T) (b : Option (Seen T)) → IsStep s ts k r n i t ys → IsSpliced t.height t.width (splice_list r (r + n) ys t.items) a b → IsPiece s.height a b
  step_piece {s} {ts} {k} {r} {n} {i} {t} {ys} a b st done =
      subst (λ (h : ℕ). IsPiece h a b) st.child.lower (spliced_piece t.height t.width (splice_list r (r + n) ys t.items) a b done (omega (arith, st.child.wide)))

  -- where all is short, so is what the child becomes
  pub step_short : {s : Seen T} {ts : List (Seen T)} {k r n i : ℕ} {t : Seen T} {ys : List T} → IsStep s ts k r n i t ys → length (splice_list i (i + n) ys s.items) ≤ 2 ^ 40 → length (splice_list r (r + n) ys t.items) ≤ 2 ^ 40
  step_short {s} {ts} {k} {r} {n} {i} {t} {ys} st short =
      let m = splice_list r (r + n) ys t.items in
      let z = join_items (drop (k + 1) ts) in
      omega (arith, ap length st.whole, length-append (join_items (take k ts)) (m ++ z), length-append m z, short)

  -- where the child is as it was, so are all
  pub step_same : {s : Seen T} {ts : List (Seen T)} {k r n i : ℕ} {t : Seen T} {ys : List T} {u : Seen T} → IsStep s ts k r n i t ys → u ≡ t → set ts k u ≡ ts
  step_same {s} {ts} {k} {r} {n} {i} {t} {ys} {u} st same = set_same ts k t u st.read same

  -- and are still the children of such a node
  pub step_children : {s : Seen T} {ts : List (Seen T)} {k r n i : ℕ} {t : Seen T} {ys : List T} {u : Seen T} → IsStep s ts k r n i t ys → u ≡ t → AreChildren s.height (set ts k u)
  step_children {s} {ts} st same = subst (λ (vs : List (Seen T)). AreChildren s.height vs) (sym (step_same st same)) (st.inner.children, st.inner.least, st.inner.most)

  -- the change of the child is that of its node
  pub step_placed : {h : ℕ} {ts : List (Seen T)} {k r n i : ℕ} {t : Seen T} {ys : List T} {u : Seen T} → IsStep (inner_seen h ts) ts k r n i t ys → IsPlaced 6 (splice_list r (r + n) ys t.items) t u → AreChildren h (set ts k u) × IsPlaced (length ts) (splice_list i (i + n) ys (join_items ts)) (inner_seen h ts) (inner_seen h (set ts k u))
  step_placed {h} {ts} {k} {r} {n} {i} {t} {ys} {u} st p =
      let m = splice_list r (r + n) ys t.items in
      let count : length (set ts k u) ≡ length ts = length-set ts k u in
      ((All-set (IsChild h) ts k u (placed_child h t u m st.child p) st.inner.children, omega (arith, count, st.inner.least), omega (arith, count, st.inner.most)), placed_node h (length ts) (inner_seen h ts) (inner_seen h (set ts k u)) ts k t u m (splice_list i (i + n) ys (join_items ts)) st.lt st.inner.children st.child st.inner.most (omega arith) p st.whole refl refl)

  -- what is to replace the child is among the new children
  pub step_pair : {s : Seen T} {ts : List (Seen T)} {k r n i : ℕ} {t : Seen T} {ys : List T} {u : Seen T} (a b : Seen T) → IsStep s ts k r n i t ys → u ≡ t → IsSplit t.height 0 (splice_list r (r + n) ys t.items) a (Some b) → IsPairStep s.height ts k u a b (splice_list i (i + n) ys s.items)
  step_pair {s} {ts} {k} {r} {n} {i} {t} {ys} {u} a b st same split =
      let kept : set ts k u ≡ ts = step_same st same in
      record {
        same = kept;
        front = subst (λ (h : ℕ). IsChild h a) st.child.lower split.1;
        back = subst (λ (h : ℕ). IsChild h b) st.child.lower split.2;
        items = ap (λ (vs : List (Seen T)). join_items (with_pair vs k a (Some b))) kept ∙ paired_all ts (with_pair ts k a (Some b)) k t.height 0 a b (splice_list r (r + n) ys t.items) (splice_list i (i + n) ys s.items) refl split st.whole;
      }

-- the same in a node that is opened
pub node_step : {S T : Type 0} {node m : Node T S} {s : Seen T} {v : Vec (Seen T) Global} {us : List (Seen T)} (k r n i : ℕ) {t : Seen T} (ys : List T) → node_view node ≡ s → m ≡ node → m.content ≡ Inner v → IsContent node.height node.content → us ≡ v.items → IsWithin us i n k r → t ≡ get_or v.items k t → IsStep s v.items k r n i t ys
node_step {S} {T} {node} {m} {s} {v} k r n i ys view lent is held same w read = step_of k r n i ys (opened s node m v view lent is held) same w read

module _ {S T : Type 0} {empty : S} {op : S → S → S} {admits fits : S → Type 0} (laws : SummaryLaws empty op admits fits) (sum_of : T → S) (admitted : (x : T) → admits (sum_of x)) where
  -- where all fits, so does what the child becomes
  pub step_fits : {s : Seen T} {ts : List (Seen T)} {k r n i : ℕ} {t : Seen T} {ys : List T} → IsStep s ts k r n i t ys → fits (fold empty op sum_of (splice_list i (i + n) ys s.items)) → fits (fold empty op sum_of (splice_list r (r + n) ys t.items))
  step_fits {s} {ts} {k} {r} {n} {i} {t} {ys} st ok =
      let m = splice_list r (r + n) ys t.items in
      let z = join_items (drop (k + 1) ts) in
      fits_middle laws sum_of admitted (join_items (take k ts)) (m ++ z) m z (splice_list i (i + n) ys s.items) st.whole refl ok

  step_wrap : {s : Seen T} {ts us : List (Seen T)} {k r n i : ℕ} {t : Seen T} {ys : List T} (a : Around S) → IsStep s ts k r n i t ys → us ≡ ts → a.before ≡ fold empty op sum_of (join_items (take k us)) → a.behind ≡ fold empty op sum_of (join_items (drop (k + 1) us)) → fold empty op sum_of (splice_list i (i + n) ys s.items) ≡ op (op a.before (fold empty op sum_of (splice_list r (r + n) ys t.items))) a.behind
  step_wrap {s} {ts} {us} {k} {r} {n} {i} {t} {ys} a st same before behind =
      around_sum laws sum_of admitted (join_items (take k ts)) (splice_list r (r + n) ys t.items) (join_items (drop (k + 1) ts)) (splice_list i (i + n) ys s.items) a (before ∙ ap (λ (vs : List (Seen T)). fold empty op sum_of (join_items (take k vs))) same) (behind ∙ ap (λ (vs : List (Seen T)). fold empty op sum_of (join_items (drop (k + 1) vs))) same) st.whole

  -- the sums of the path to the child are those of the path to the node, and the node's own
  pub step_sums : {s : Seen T} {ts us : List (Seen T)} {k r n i : ℕ} {t : Seen T} {ys : List T} (a : Around S) (around : List (Around S)) {more : List (Around S)} → IsStep s ts k r n i t ys → us ≡ ts → a.before ≡ fold empty op sum_of (join_items (take k us)) → a.behind ≡ fold empty op sum_of (join_items (drop (k + 1) us)) → more ≡ around ++ a ∷ [] → outer_sums op more (fold empty op sum_of (splice_list r (r + n) ys t.items)) ≡ path_sums op around (fold empty op sum_of (splice_list i (i + n) ys s.items))
  step_sums {s} {ts} {us} {k} {r} {n} {i} {t} {ys} a around st same before behind pushed =
      let x = fold empty op sum_of (splice_list r (r + n) ys t.items) in
      let y = fold empty op sum_of (splice_list i (i + n) ys s.items) in
      ap (λ (ls : List (Around S)). outer_sums op ls x) pushed ∙ outer_sums-snoc op around a x y (step_wrap a st same before behind)

  -- and where they fit, so do those of the path to the child
  pub step_fitting : {s : Seen T} {ts us : List (Seen T)} {k r n i : ℕ} {t : Seen T} {ys : List T} (a : Around S) (around : List (Around S)) {more : List (Around S)} → IsStep s ts k r n i t ys → us ≡ ts → a.before ≡ fold empty op sum_of (join_items (take k us)) → a.behind ≡ fold empty op sum_of (join_items (drop (k + 1) us)) → more ≡ around ++ a ∷ [] → Fitting fits op around (fold empty op sum_of (splice_list i (i + n) ys s.items)) → fits (fold empty op sum_of (splice_list i (i + n) ys s.items)) → Fitting fits op more (fold empty op sum_of (splice_list r (r + n) ys t.items))
  step_fitting {s} {ts} {us} {k} {r} {n} {i} {t} {ys} a around st same before behind pushed fitting ok =
      let x = fold empty op sum_of (splice_list r (r + n) ys t.items) in
      let y = fold empty op sum_of (splice_list i (i + n) ys s.items) in
      let here : a.before ≡ fold empty op sum_of (join_items (take k ts)) = before ∙ ap (λ (vs : List (Seen T)). fold empty op sum_of (join_items (take k vs))) same in
      let half = around_fits laws sum_of admitted (join_items (take k ts)) (splice_list r (r + n) ys t.items) (join_items (drop (k + 1) ts)) (splice_list i (i + n) ys s.items) a here st.whole ok in
      subst (λ (ls : List (Around S)). Fitting fits op ls x) (sym pushed) (Fitting-snoc op fits around a x y (step_wrap a st same before behind) fitting half ok)
