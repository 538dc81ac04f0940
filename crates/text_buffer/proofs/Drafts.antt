-- Drafts of contents: what an operation makes, and the content once the change is made.
use Rattle.std.proofs.Common.{◌≡◌, ℕ, List, [], ◌∷◌, ◌++◌, sym, ap, subst, ◌∙◌}
use Rattle.std.specs.List.{AllByRecursion}
use Rattle.op_model.specs.declared.operation.Operation.{Operation}
use Rattle.op_model.specs.Operations.{pieces_of}
use Rattle.op_model.specs.Histories.{History}
use Rattle.op_model.specs.Shown.{hidden_text, text, texts}
use Rattle.op_model.specs.Walked.{IsWhole}
use Rattle.undo_map.specs.declared.entry.UndoEntry.{UndoEntry}
use Rattle.fragments.specs.declared.fragment.Fragment.{Fragment}
use Rattle.fragments.specs.Stand.{Stand, runs}
use Rattle.fragments.proofs.Bases.{stand_is}
use Rattle.remote_edit.specs.declared.plan.Placement.{Placement}
use Rattle.remote_edit.specs.declared.tree_change.TreeChange.{TreeChange}
use Rattle.remote_edit.specs.declared.tree_change.TreeChange.TheVariants.{Whole}
use Rattle.remote_edit.specs.Carried.{AreMovesOf}
use Rattle.remote_edit.specs.Changes.{after_change, MayChange}
use Rattle.remote_edit.specs.Fragments.{fragments_of}
use Rattle.remote_edit.specs.Moves.{Texts, after_moves}
use Rattle.text_buffer.specs.declared.content.Content.{Content}
use Rattle.text_buffer.specs.declared.draft.Draft.{Draft}
use Rattle.text_buffer.specs.Document.{IsContent}
use Rattle.text_buffer.specs.Drafts.{IsDraft, IsDrafted}

pub draft_after : (d : Draft) (p : Placement) (fs gs : List Fragment) (h : History) (op : Operation) (u w : List UndoEntry) (n : List ℕ) → IsDrafted d p w h n → n ≡ texts (pieces_of op) → w ≡ u → fs ≡ gs
    → MayChange p.change fs → after_change p.change fs ≡ fragments_of (h ++ op ∷ []) → Stand (after_change p.change fs) p.index u (h ++ op ∷ []) → AllByRecursion (IsWhole (h ++ op ∷ [])) (runs (after_change p.change fs)) → AreMovesOf p.moves h op
    → IsDraft d gs (h ++ op ∷ [])
draft_after d p fs gs h op u w n k t e q m fr s a mv =
    let f = k.texts ∙ ap (after_moves p.moves (text h) (hidden_text h)) t ∙ mv in
    let all : after_change d.change gs ≡ after_change p.change fs = ap (λ (x : TreeChange). after_change x gs) k.change ∙ ap (after_change p.change) (sym q) in
    record {
      may = subst (λ (x : TreeChange). MayChange x gs) (sym k.change) (subst (MayChange p.change) q m);
      fragments = all ∙ fr;
      stand = stand_is (after_change d.change gs) (after_change p.change fs) d.index p.index d.undos u (h ++ op ∷ []) all k.index (k.undos ∙ e) s;
      whole = subst (λ (x : List Fragment). AllByRecursion (IsWhole (h ++ op ∷ [])) (runs x)) (sym all) a;
      shown = ap (λ (x : Texts). x.shown) f;
      hidden = ap (λ (x : Texts). x.hidden) f;
    }

pub content_drafted : (c : Content) (d : Draft) (fs : List Fragment) (h : History) → IsDraft d fs h → c.fragments.items ≡ after_change d.change fs → c.index ≡ d.index → c.undos ≡ d.undos → c.text ≡ d.text → c.hidden ≡ d.hidden → IsContent c h
content_drafted c d fs h k a b u e f = record {
  fragments = a ∙ k.fragments;
  stand = stand_is c.fragments.items (after_change d.change fs) c.index d.index c.undos d.undos h a b u k.stand;
  whole = subst (λ (x : List Fragment). AllByRecursion (IsWhole h) (runs x)) (sym a) k.whole;
  shown = e ∙ k.shown;
  hidden = f ∙ k.hidden;
}

-- a content beside another one, as a draft of it
pub draft_whole : (c : Content) (fs : List Fragment) (h : History) → IsContent c h → IsDraft (record { change = Whole c.fragments; index = c.index; undos = c.undos; text = c.text; hidden = c.hidden }) fs h
draft_whole c fs h k = record { may = tt; fragments = k.fragments; stand = k.stand; whole = k.whole; shown = k.shown; hidden = k.hidden }
