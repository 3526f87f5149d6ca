-- The replies over a store that holds the blocks of a sound DAG.
use Rattle.std.proofs.Common.{List, Option, Some, ap, false, inl, inr, refl, sym, ℕ, ◌∙◌, ◌≡◌}
use Rattle.tg_answering.specs.OwnReplies.{AsksForHeld, OwnAbsences, OwnAnswers, OwnRaws}
use Rattle.tg_cid.specs.Cid.{CidParts}
use Rattle.tg_http.specs.declared.request.RequestHead.{RequestHead}
use Rattle.tg_model.specs.Answer.{answer_at, node_text}
use Rattle.tg_model.specs.Dag.{Dag}
use Rattle.tg_model.specs.Ends.{EndsAlike}
use Rattle.tg_model.specs.Lookup.{LookupEnd, lookup_path}
use Rattle.tg_model.specs.Lookup as lookup
use Rattle.tg_model.specs.PathWalk.{PathEnd, not_reached, path_walk, terminal}
use Rattle.tg_model.specs.PathWalk as walk
use Rattle.tg_model.specs.Queries.{QueryParts}
use Rattle.tg_model.specs.Sound.{IsSound}
use Rattle.tg_model.specs.StoreView.{block_at, block_by}
use Rattle.tg_model.specs.Stores.{IsStore, Store, as_v1}
use Rattle.tg_model.specs.Traversal.{block_list}
use Rattle.tg_model.specs.declared.queries.Form.{Form}
use Rattle.tg_model.specs.declared.queries.Form.TheVariants as forms
use Rattle.tg_reply.specs.Replies.{Reply, car_reply, reply}
use Rattle.tg_heard.specs.Exchanges.{HeldHaveOneBlock, OwnReply, is_answer, own_reply}

-- ---- one block under a CID

-- a CID leads to what its CIDv1 form leads to
twin : (store : Store) → IsStore store → (cid : CidParts) → block_at store cid ≡ block_at store (as_v1 cid)
twin store s cid = ap (block_by cid.hash cid.digest) (s.twins cid)

-- what is found is one block
one_found : (found : Option (List ℕ)) (one other : List ℕ) → found ≡ Some one → found ≡ Some other → one ≡ other
one_found found one other e f = cc

-- so a store that holds a DAG leads to one block of it under a CID
pub held_have_one_block : HeldHaveOneBlock
held_have_one_block store d s holds one other among amid same =
    one_found (block_at store one.cid) one.block other.block (holds.blocks_are one among)
    (twin store s one.cid ∙ ap (block_at store) same ∙ sym (twin store s other.cid) ∙ holds.blocks_are other amid)

-- ---- the reply

-- the laws of replies over such a store, and of paths in a sound DAG
pub record HeldLaws : Type 0 where
  pub answers : OwnAnswers
  pub absences : OwnAbsences
  pub raws : OwnRaws
  pub alike : (d : Dag) (path : List (List ℕ)) → IsSound d → EndsAlike (path_walk path d).end (lookup_path path d)

module _ (laws : HeldLaws) (store : Store) (q : QueryParts) (d : Dag) (head : RequestHead) (asks : AsksForHeld store d q head) where
  -- the CAR of the DAG's sections, by whether there is an answer
  abbrev car : LookupEnd → Reply
  car end = car_reply head (is_answer (answer_at q end)) q (block_list q d) false

  -- the reply with a CAR, by the end of the path
  by_end : (end : PathEnd) (other : LookupEnd) → (path_walk q.path d).end ≡ end → lookup_path q.path d ≡ other → EndsAlike end other → q.form ≡ forms.Car
      → reply store head ≡ car other
  by_end (terminal t) (lookup.found u) e o alike f = laws.answers store d q head (node_text q.scope q.span u) asks f (ap (answer_at q) o)
  by_end (not_reached (walk.not_there i)) (lookup.not_there j) e o alike f =
      laws.absences store d q head (walk.not_there i) asks f e (inl (i, refl))
  by_end (not_reached (walk.not_folder i)) (lookup.not_folder j) e o alike f =
      laws.absences store d q head (walk.not_folder i) asks f e (inr (i, refl))
  by_end _ _ e o alike f = absurd alike

  -- the reply by the form
  by_form : (form : Form) → q.form ≡ form → reply store head ≡ own_reply head q d form
  by_form forms.Raw f = laws.raws store d q head asks f
  by_form forms.Car f = by_end (path_walk q.path d).end (lookup_path q.path d) refl refl (laws.alike d q.path asks.sound) f

-- it is the DAG's own
pub own_reply_is : HeldLaws → OwnReply
own_reply_is laws store q d head held shallow own =
    by_form laws store q d head (record { sound = held.sound; root = held.root; holds = held.holds; shallow = shallow; asked_is = own.asked_is }) q.form refl
