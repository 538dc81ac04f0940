-- Sums where a part of the items is replaced, and copies of nodes.
use Rattle.std.proofs.Common.{◌≡◌, ℕ, ◌+◌, ◌<◌, ◌^◌, ◌≤◌, List, [], ◌++◌, length, get_or, take, drop, Vec, Global, sym, ap, subst, ◌∙◌, append_assoc, take-append-drop, arith}
use Rattle.std.proofs.lemmas.List.{take-append-le, drop-append-le, length-drop, drop-drop}
use Rattle.std.proofs.Math.Seq.{drop-append-add}
use Rattle.std.specs.Prelude.{Result, Ok, Err, IfOk}
use Rattle.std.specs.List.{All}
use Rattle.sum_tree.specs.Laws.{SummaryLaws, fold}
use Rattle.sum_tree.specs.Seen.{Seen}
use Rattle.sum_tree.specs.Shape.{IsNode, IsChild, IsContent, join_items, content_items}
use Rattle.sum_tree.specs.Exchange.{AreSums, IsCopy, IsExchange, OnBack}
use Rattle.sum_tree.specs.Placed.{IsPlacingOr}
use Rattle.sum_tree.specs.Spliced.{splice_list}
use Rattle.sum_tree.specs.declared.exchange.Sums.{Sums}
use Rattle.sum_tree.specs.declared.here.Placing.{Placing}
use Rattle.sum_tree.specs.declared.here.Placing.TheVariants.{Done, Split, Back}
use Rattle.sum_tree.specs.declared.tree.Node.{Node}
use Rattle.sum_tree.specs.declared.tree.Content.{Content}
use Rattle.sum_tree.specs.declared.tree.Content.TheVariants.{Leaf, Inner}
use Rattle.sum_tree.proofs.Folds.{fold_admitted, fold-append}
use Rattle.sum_tree.proofs.Children.{joined-take_more, joined-split, child_filled}
use Rattle.sum_tree.proofs.Opened.{IsInner}
use Rattle.sum_tree.proofs.Descents.{IsStep}

module _ {T : Type 0} where
  part_within : (s : Seen T) (ts : List (Seen T)) (k r n i : ℕ) (t : Seen T) → IsInner s ts → k < length ts → r + n ≤ length t.items → length (join_items (take k ts)) + r ≡ i → t ≡ get_or ts k t → take n (drop i s.items) ≡ take n (drop r t.items)
  part_within s ts k r n i t o lt within before read =
      let f = join_items (take k ts) in
      let z = join_items (drop (k + 1) ts) in
      let whole : s.items ≡ f ++ (t.items ++ z) = o.items ∙ sym (joined-split ts (k + 1)) ∙ ap (λ (xs : List T). xs ++ z) (joined-take_more ts k t lt read) ∙ append_assoc f t.items z in
      let rest : drop i s.items ≡ drop r t.items ++ z = ap (drop i) whole ∙ ap (λ (m : ℕ). drop m (f ++ (t.items ++ z))) (sym before) ∙ drop-append-add f (t.items ++ z) r ∙ drop-append-le r t.items z (omega (arith, within)) in
      ap (take n) rest ∙ take-append-le n (drop r t.items) z (omega (arith, within, length-drop r t.items))

  -- the n items from i on are those from r on of the child that holds them
  pub step_part : {s : Seen T} {ts : List (Seen T)} {k r n i : ℕ} {t : Seen T} {ys : List T} → IsStep s ts k r n i t ys → take n (drop i s.items) ≡ take n (drop r t.items)
  step_part {s} {ts} {k} {r} {n} {i} {t} st = part_within s ts k r n i t st.inner st.lt st.within st.before st.read

  -- a pair that is put in place is not handed back
  pub pair_forth : {S E : Type 0} (ss : List S) (w : ℕ) (xs : List T) (old new : Seen T) (P : Type 0) (h : ℕ) (a : Seen T) (r : Result (Placing (Vec S Global) (Vec T Global) (Seen T)) E) → IsChild h a → ((ys : List T) → IsPlacingOr ss w xs ys old new r) → IfOk r (λ p. OnBack p P)
  pair_forth ss w xs old new P h a (Ok (Done none)) c f = tt
  pair_forth ss w xs old new P h a (Ok (Split b d none)) c f = tt
  pair_forth ss w xs old new P h a (Ok (Back es)) c f = absurd (omega (arith, ap length (sym (f []).1 ∙ (f a.items).1), child_filled h a c))
  pair_forth ss w xs old new P h a (Err e) c f = tt

module _ {S T : Type 0} where
  pub copied_items : (c d : Content T S) → IsCopy c d → content_items d ≡ content_items c
  copied_items (Leaf v) (Leaf w) is = is
  copied_items (Inner v) (Inner w) is = ap join_items is
  copied_items (Leaf v) (Inner w) is = absurd is
  copied_items (Inner v) (Leaf w) is = absurd is

  pub copied_content : (h : ℕ) (c d : Content T S) → IsCopy c d → IsContent h c → IsContent h d
  copied_content h (Leaf v) (Leaf w) is k = (k.0, subst (λ (xs : List T). length xs ≤ 12) (sym is) k.1)
  copied_content h (Inner v) (Inner w) is k = subst (λ (ts : List (Seen T)). All (IsChild h) ts × (2 ≤ length ts) × (length ts ≤ 12)) (sym is) k
  copied_content h (Leaf v) (Inner w) is k = absurd is
  copied_content h (Inner v) (Leaf w) is k = absurd is

module _ {S T : Type 0} (empty : S) (op : S → S → S) (fits : S → Type 0) (sum_of : T → S) where
  -- a node with copies of what another holds is like it
  pub copied_node : (n : Node T S) (d : Content T S) (s : S) → IsCopy n.content d → s ≡ n.sum → IsNode empty op fits sum_of n → IsNode empty op fits sum_of (record { height = n.height; len = n.len; sum = s; content = d })
  copied_node n d s is e h =
      let same : content_items n.content ≡ content_items d = sym (copied_items n.content d is) in
      (copied_content n.height n.content d is h.0, subst (λ (xs : List T). n.len ≡ length xs) same h.1, e ∙ subst (λ (xs : List T). n.sum ≡ fold empty op sum_of xs) same h.2, subst (λ (xs : List T). fits (fold empty op sum_of xs)) same h.3, subst (λ (xs : List T). length xs ≤ 2 ^ 40) same h.4)

module _ {S T : Type 0} {empty : S} {op : S → S → S} {sum_of : T → S} where
  -- the sums of a change of a child
  pub step_both : {s : Seen T} {ts : List (Seen T)} {k r n i : ℕ} {t : Seen T} {ys : List T} (e : Sums S) → IsStep s ts k r n i t ys → AreSums empty op sum_of i n ys s.items e → AreSums empty op sum_of r n ys t.items e
  step_both e st h = record { out = h.out ∙ ap (fold empty op sum_of) (step_part st); put = h.put }

module _ {S T : Type 0} {empty : S} {op : S → S → S} {admits fits : S → Type 0} (laws : SummaryLaws empty op admits fits) (sum_of : T → S) (admitted : (x : T) → admits (sum_of x)) where
  abbrev total : List T → S
  total = fold empty op sum_of

  -- the sum of three runs
  fold-three : (xs ys zs : List T) → fold empty op sum_of ((xs ++ ys) ++ zs) ≡ op (op (fold empty op sum_of xs) (fold empty op sum_of ys)) (fold empty op sum_of zs)
  fold-three xs ys zs = fold-append laws sum_of admitted (xs ++ ys) zs ∙ ap (λ (s : S). op s (total zs)) (fold-append laws sum_of admitted xs ys)

  -- a list as the items before i, the n items from there on, and the rest
  three_of : (i n : ℕ) (xs : List T) → xs ≡ (take i xs ++ take n (drop i xs)) ++ drop (i + n) xs
  three_of i n xs =
      let rest : take n (drop i xs) ++ drop (i + n) xs ≡ drop i xs = ap (λ (zs : List T). take n (drop i xs) ++ zs) (sym (drop-drop n i xs)) ∙ take-append-drop n (drop i xs) in
      sym (append_assoc (take i xs) (take n (drop i xs)) (drop (i + n) xs) ∙ ap (λ (zs : List T). take i xs ++ zs) rest ∙ take-append-drop i xs)

  -- the sum that an exchange gives is that of the items after the splice
  pub exchanged : (i n : ℕ) (ys xs : List T) (whole s : S) (e : Sums S) → whole ≡ fold empty op sum_of xs → AreSums empty op sum_of i n ys xs e → IsExchange op admits whole e.out e.put s → s ≡ fold empty op sum_of (splice_list i (i + n) ys xs)
  exchanged i n ys xs whole s e w h is =
      let a = total (take i xs) in
      let b = total (drop (i + n) xs) in
      let known = λ (zs : List T). fold_admitted laws sum_of admitted zs in
      let before : whole ≡ op (op a e.out) b = w ∙ ap total (three_of i n xs) ∙ fold-three (take i xs) (take n (drop i xs)) (drop (i + n) xs) ∙ ap (λ (z : S). op (op a z) b) (sym h.out) in
      let after : s ≡ op (op a e.put) b = is a b (known (take i xs)) (subst admits (sym h.out) (known (take n (drop i xs)))) (subst admits (sym h.put) (known ys)) (known (drop (i + n) xs)) before in
      after ∙ ap (λ (z : S). op (op a z) b) h.put ∙ sym (fold-three (take i xs) ys (drop (i + n) xs))
