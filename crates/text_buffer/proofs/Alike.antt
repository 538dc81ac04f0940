-- Snapshots of the same operations answer alike, anchors stay, and the edits since a version make the text.
use Rattle.std.proofs.Common.{refl, sym, subst}
use Rattle.std.specs.declared.cmp.Ordering.TheVariants.{Less}
use Rattle.op_model.specs.Histories.{History, SameSet}
use Rattle.op_model.specs.Lawful.{Lawful}
use Rattle.op_model.proofs.MainLaws.{same_sets_answer_alike, same_sets_refuse_alike, anchors_keep_their_order, edits_since_tell_the_change}
use Rattle.op_model.proofs.answers.Local.{is_closed}
use Rattle.anchors.proofs.Orders.{anchors_stay_in_order}
use Rattle.anchors.proofs.Made.{made_same}
use Rattle.edits_since.proofs.Apart.{since_apart}
use Rattle.text_buffer.specs.Document.{IsFront}
use Rattle.text_buffer.specs.SnapshotLaws.{AnswerAlike, AnchorsStay, EditsMakeTheText}

pub alike : (h g : History) → Lawful h → Lawful g → SameSet h g → AnswerAlike h g
alike h g l m s =
    let a = same_sets_answer_alike h g l m s in
    let r = same_sets_refuse_alike h g l m s in
    record {
      faults_of_places = r.2;
      anchors = made_same h g l m s;
      places = λ x. (r.3 x x).0;
      orders = λ x y. (r.3 x y).1;
      faults_of_versions = r.1;
      texts = λ v. (a.3 v).1;
      edits = λ v. (a.3 v).0;
    }

pub stay : (h g : History) → Lawful h → Lawful g → IsFront h g → AnchorsStay h g
stay h g l m f =
    let n = subst Lawful f.1 m in
    subst (AnchorsStay h) (sym f.1) (record {
      known = λ a i. (anchors_keep_their_order h f.0 l n a a i i).0;
      orders = λ a b o e. (anchors_stay_in_order h f.0 l n a b o e).0;
      places = λ a b e p q i j. (anchors_stay_in_order h f.0 l n a b Less e).1 refl p q i j;
    })

pub make_the_text : (h : History) → Lawful h → EditsMakeTheText h
make_the_text h l v e = (edits_since_tell_the_change h v l (is_closed h v e), since_apart h v)
