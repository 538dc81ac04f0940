-- What a history comes to, cell by cell: that of a base, and after one operation more.
use Rattle.std.proofs.Common.{◌≡◌, ℕ, ◌+◌, ◌≤◌, ◌^◌, List, [], ◌∷◌, ◌++◌, length, map, refl, sym, ap, subst, ◌∙◌, arith}
use Rattle.std.specs.List.{AllByRecursion}
use Rattle.std.specs.Str.{IsUtf8}
use Rattle.std.proofs.lemmas.List.{nil_from_length}
use Rattle.lamport_clock.specs.declared.stamp.Lamport.{Lamport}
use Rattle.lamport_clock.specs.Versions.{Entries}
use Rattle.op_model.specs.declared.operation.Operation.{Operation}
use Rattle.op_model.specs.declared.operation.Operation.TheVariants.{Undo}
use Rattle.op_model.specs.declared.operation.UndoCount.{UndoCount}
use Rattle.op_model.specs.declared.operation.UndoOp.{UndoOp}
use Rattle.op_model.specs.declared.operation.Piece.{Piece}
use Rattle.op_model.specs.Sorted.{Member}
use Rattle.op_model.specs.Domains.{IsProper}
use Rattle.op_model.specs.Operations.{pieces_of, text_total}
use Rattle.op_model.specs.Histories.{History, base, bytes_held, clock, version}
use Rattle.op_model.specs.Made.{local_edit as made_at}
use Rattle.op_model.specs.Shown.{hidden_text, text, texts}
use Rattle.op_model.specs.Walked.{IsWhole}
use Rattle.op_model.specs.Answers.{answer}
use Rattle.op_model.proofs.histories.Proper.{edit_good}
use Rattle.op_model.proofs.order.CellsOnce.{member_map}
use Rattle.op_model.proofs.texts.Lengths.{both_bytes, full_bytes, text_base}
use Rattle.undo_map.specs.declared.entry.UndoEntry.{UndoEntry}
use Rattle.undo_map.specs.Undos.{undo_entries}
use Rattle.fragments.specs.declared.fragment.Fragment.{Fragment}
use Rattle.fragments.specs.Laws.{whole_base}
use Rattle.fragments.specs.Stand.{Stand, runs}
use Rattle.fragments.proofs.Bases.{stand_is}
use Rattle.remote_edit.specs.declared.placed.Placed.{Placed}
use Rattle.remote_edit.specs.Carried.{AreMovesOf}
use Rattle.remote_edit.specs.Fragments.{fragments_of}
use Rattle.remote_edit.specs.declared.moves.Move.{Move}
use Rattle.remote_edit.specs.Moves.{TakeTexts, Texts, after_moves}
use Rattle.remote_edit.specs.Placing.{MayMake, MayPlace}
use Rattle.remote_edit.specs.Undoing.{MayMark}
use Rattle.remote_edit.proofs.WholeFragments.{base_whole}
use Rattle.text_buffer.specs.declared.content.Content.{Content}
use Rattle.text_buffer.specs.declared.document.Document.TheInside.{Inside}
use Rattle.text_buffer.specs.DocumentInside.{IsDocumentInside}
use Rattle.text_buffer.specs.Document.{IsContent, IsBufferHistory, IsMoved, HasRoom, MayEdit, MayGrow}
use Rattle.text_buffer.proofs.Fit.{no_excess}
use Rattle.op_model.proofs.answers.Local.{made_edit_entries, made_edit_total}
use Rattle.op_model.proofs.histories.Growing.{room_in}

-- a content with the parts of another one is that of the same histories
pub content_shared : (c d : Content) (h : History) → d.fragments.items ≡ c.fragments.items → d.index ≡ c.index → d.undos ≡ c.undos → d.text ≡ c.text → d.hidden ≡ c.hidden → IsContent c h → IsContent d h
content_shared c d h a b u e f k = record {
  fragments = a ∙ k.fragments;
  stand = stand_is d.fragments.items c.fragments.items d.index c.index d.undos c.undos h a b u k.stand;
  whole = subst (λ (x : List Fragment). AllByRecursion (IsWhole h) (runs x)) (sym a) k.whole;
  shown = e ∙ k.shown;
  hidden = f ∙ k.hidden;
}

pub whole_one : (fs : List Fragment) (f : Fragment) (t : List ℕ) → IsUtf8 t → f ≡ whole_base f.id t → fs ≡ f ∷ [] → AllByRecursion (IsWhole (base t ∷ [])) (runs fs)
whole_one fs f t u e a = subst (λ (x : List Fragment). AllByRecursion (IsWhole (base t ∷ [])) (runs x)) (sym (a ∙ ap (λ (g : Fragment). g ∷ []) e)) (base_whole f.id t u)

pub base_content : (c : Content) (t : List ℕ) → c.fragments.items ≡ fragments_of (base t ∷ []) → Stand c.fragments.items c.index [] (base t ∷ []) → AllByRecursion (IsWhole (base t ∷ [])) (runs c.fragments.items) → c.undos ≡ [] → c.text ≡ t → c.hidden ≡ [] → IsContent c (base t ∷ [])
base_content c t fr s w u e f =
    let h : History = base t ∷ [] in
    let b = both_bytes h in
    let l = ap length (text_base t) in
    let held : bytes_held h ≡ length t = omega arith in
    record {
      fragments = fr;
      stand = subst (λ (x : List UndoEntry). Stand c.fragments.items c.index x h) (sym u) s;
      whole = w;
      shown = e ∙ sym (text_base t);
      hidden = f ∙ sym (nil_from_length (hidden_text h) (omega (arith, b, l, held)));
    }

-- ---- what an operation asks

pub may_place : (c : Content) (h : History) (op : Operation) → IsContent c h → IsBufferHistory h → MayGrow h op → MayPlace c.fragments.items c.index c.undos op
may_place c h op k s g = record {
  history = h;
  stands = k.stand;
  lawful = s.lawful;
  good = g.good;
  room = (let f = full_bytes h in let r = g.room.bytes in omega (arith, f, r));
}

pub edit_room : (h : History) (r : ℕ) (ps : List Piece) → MayEdit h r ps → bytes_held h + text_total ps ≤ 2 ^ 40
edit_room h r ps m =
    let n = (room_in m.limits h (text_total ps) (1 + length ps) (no_excess m.limits h ps m.faultless)).0 in
    let l = m.most_bytes in
    omega (arith, n, l)

-- the content of a document and what is true of its history, said of the history that contracts see
pub content_seen : (d : Inside) (h : History) → IsDocumentInside d → d.operations ≡ h → IsContent d.content h
content_seen d h t e = subst (IsContent d.content) e t.content

pub history_seen : (d : Inside) (h : History) → IsDocumentInside d → d.operations ≡ h → IsBufferHistory h
history_seen d h t e = subst IsBufferHistory e t.history

pub may_make : (c : Content) (h : History) (t : Lamport) (v : Entries) (ps : List Piece) → IsContent c h → IsBufferHistory h → MayEdit h t.replica ps → t.value ≡ clock h → v ≡ version h → MayMake c.fragments.items c.index c.undos t v ps
may_make c h t v ps k s m e f = record {
  history = h;
  stands = k.stand;
  lawful = s.lawful;
  proper = s.proper;
  replica = m.replica;
  value = e;
  sees = f;
  limits = m.limits;
  faultless = m.faultless;
  room = (let n = full_bytes h in let r = edit_room h t.replica ps m in omega (arith, n, r));
}

pub may_mark : (c : Content) (h : History) (u : UndoOp) (w : List UndoEntry) (ts : List Lamport) → IsContent c h → IsBufferHistory h → MayGrow h (Undo u) → w ≡ undo_entries (h ++ Undo u ∷ []) → ts ≡ map (λ (x : UndoCount). x.edit) u.counts
    → MayMark c.fragments.items c.index w u.stamp ts h u
may_mark c h u w ts k s g e f = record {
  stamp = refl;
  counts = λ x m. subst (λ (z : List Lamport). Member x.edit z) (sym f) (member_map (λ (c : UndoCount). c.edit) x u.counts m);
  lawful = s.lawful;
  good = g.good;
  entries = e;
  stands = subst (λ (x : List UndoEntry). Stand c.fragments.items c.index x h) k.stand.counts k.stand;
}

-- the bytes of both texts and the new ones
pub moves_room : (c : Content) (h : History) (n : ℕ) → IsContent c h → bytes_held h + n ≤ 2 ^ 40 → length c.text + length c.hidden + n ≤ 2 ^ 40
moves_room c h n k r = let a = ap length k.shown in let b = ap length k.hidden in let d = both_bytes h in omega (arith, a, b, d, r)

-- moves that take whole characters of texts and of a new one take those of equal ones
pub take_texts : (ms : List Move) (s t n a b e : List ℕ) → s ≡ a → t ≡ b → n ≡ e → TakeTexts ms a b e → TakeTexts ms s t n
take_texts ms s t n a b e x y z k = subst (λ (u : List ℕ). TakeTexts ms u t n) (sym x) (subst (λ (u : List ℕ). TakeTexts ms a u n) (sym y) (subst (TakeTexts ms a b) (sym z) k))

-- ---- after an operation

-- moves make the same of equal texts
pub moved_texts : (c : Content) (p : Placed) (u : List UndoEntry) (s t a b n : List ℕ) → s ≡ a → t ≡ b → IsMoved c p u s t n → IsMoved c p u a b n
moved_texts c p u s t a b n x y k = record {
  fragments = k.fragments;
  index = k.index;
  undos = k.undos;
  texts = k.texts ∙ ap (λ (z : List ℕ). after_moves p.moves z t n) x ∙ ap (λ (z : List ℕ). after_moves p.moves a z n) y;
}

pub content_after : (c : Content) (p : Placed) (h : History) (op : Operation) (u w : List UndoEntry) (n : List ℕ) → IsMoved c p w (text h) (hidden_text h) n → n ≡ texts (pieces_of op)
    → w ≡ u → p.fragments.items ≡ fragments_of (h ++ op ∷ []) → Stand p.fragments.items p.index u (h ++ op ∷ []) → AllByRecursion (IsWhole (h ++ op ∷ [])) (runs p.fragments.items) → AreMovesOf p.moves h op → IsContent c (h ++ op ∷ [])
content_after c p h op u w n k t e fr s d m =
    let f = k.texts ∙ ap (after_moves p.moves (text h) (hidden_text h)) t ∙ m in
    record {
      fragments = k.fragments ∙ fr;
      stand = stand_is c.fragments.items p.fragments.items c.index p.index c.undos u (h ++ op ∷ []) k.fragments k.index (k.undos ∙ e) s;
      whole = subst (λ (x : List Fragment). AllByRecursion (IsWhole (h ++ op ∷ [])) (runs x)) (sym k.fragments) d;
      shown = ap (λ (x : Texts). x.shown) f;
      hidden = ap (λ (x : Texts). x.hidden) f;
    }

-- there is room for it
pub made_room : (h : History) (r : ℕ) (ps : List Piece) → MayEdit h r ps → HasRoom h (made_at h r ps)
made_room h r ps m =
    let n = room_in m.limits h (text_total ps) (1 + length ps) (no_excess m.limits h ps m.faultless) in
    let b = made_edit_total h r ps in
    let e = made_edit_entries h r ps in
    let x = m.most_bytes in
    let y = m.most_entries in
    record { bytes = omega (arith, n.0, b, x); entries = omega (arith, n.1, e, y) }

-- the edit op that is made may grow the history
pub made_grows : (h : History) (r : ℕ) (ps : List Piece) (op : Operation) → IsBufferHistory h → MayEdit h r ps → op ≡ made_at h r ps → IsProper op → MayGrow h op
made_grows h r ps op s m e p = record {
  proper = p;
  good = ap (answer h []) e ∙ (edit_good m.limits h r ps s.lawful s.proper m.replica m.faultless).0;
  room = subst (HasRoom h) (sym e) (made_room h r ps m);
}
