-- What two stores show of a DAG that both hold, and what they reply.
use Rattle.std.proofs.Common.{Bool, Contains, Err, List, None, Ok, Option, Result, Some, [], ap, arith, cond, false, refl, subst, suc, sym, true, zero, ℕ, ◌+◌, ◌∙◌, ◌∷◌, ◌≡◌, ◌≤◌}
use Rattle.std.proofs.lemmas.Bool.{le-ltb}
use Rattle.std.proofs.lemmas.List.Elements.{Contains-append_left, Contains-push}
use Rattle.tg_cid.specs.Cid.{CidParts}
use Rattle.tg_http.specs.declared.request.RequestHead.{RequestHead}
use Rattle.tg_model.specs.Computed.{read}
use Rattle.tg_model.specs.Dag.{Children, Dag, Section, bare, blocks_of_children, links_of, node, root_cid, unopened, with_child}
use Rattle.tg_model.specs.PathWalk.{PathEnd, Stop, bad_block, gone, not_folder, not_reached, not_there, path_walk, terminal}
use Rattle.tg_model.specs.Queries.{QueryParts}
use Rattle.tg_model.specs.Sound.{IsSound}
use Rattle.tg_model.specs.StoreView.{block_at, children_by, opened_to, read_as, store_view, with_block}
use Rattle.tg_model.specs.Stores.{Store}
use Rattle.tg_model.specs.Traversal.{block_list, traversal}
use Rattle.tg_model.specs.declared.fault.BlockFault.{BlockFault}
use Rattle.tg_model.specs.declared.kinds.Kind.{Kind}
use Rattle.tg_model.specs.declared.queries.Form.{Form}
use Rattle.tg_model.specs.declared.queries.Form.TheVariants as forms
use Rattle.tg_model_laws.specs.Depths.{ShowsDownTo, children_down_to, down_to}
use Rattle.tg_model_laws.specs.Stores.{Holds}
use Rattle.tg_mirror_laws.specs.SameReplies.{SameReplies, SameViews}
use Rattle.tg_reply.specs.Replies.{absence_reply, car_reply, found_reply, gone_refusal, is_cut, is_cut_on_path, missed_reply, refused_request, reply_at, reply_to, sent_dag}

-- ---- what is shown to a depth isn't deeper

module _ (most : ℕ) (opened : CidParts → Dag) where
  -- what is opened below is none deeper
  abbrev Within : ℕ → Type 0
  Within depth = (cid : CidParts) → down_to most depth (opened cid) ≡ opened cid

  children_within : (depth : ℕ) (cids : List CidParts) → Within depth → children_down_to most depth (children_by opened cids) ≡ children_by opened cids
  children_within depth [] inside = refl
  children_within depth (cid ∷ cids) inside =
      ap (λ (d : Dag). with_child d (children_down_to most depth (children_by opened cids))) (inside cid)
      ∙ ap (λ (children : Children). with_child (opened cid) children) (children_within depth cids inside)

  read_within : (depth : ℕ) (section : Section) (r : Result Kind BlockFault) → depth ≤ most → Within (depth + 1) → down_to most depth (read_as opened section r) ≡ read_as opened section r
  read_within depth section (Ok kind) h inside =
      ap (λ (b : Bool). cond b (unopened section.cid) (node section kind (children_down_to most (depth + 1) (children_by opened (links_of kind))))) (le-ltb most depth h)
      ∙ ap (node section kind) (children_within (depth + 1) (links_of kind) inside)
  read_within depth section (Err fault) h inside =
      ap (λ (b : Bool). cond b (unopened section.cid) (bare section (Some fault))) (le-ltb most depth h)

  block_within : (depth : ℕ) (cid : CidParts) (found : Option (List ℕ)) → depth ≤ most → Within (depth + 1) → down_to most depth (with_block opened cid found) ≡ with_block opened cid found
  block_within depth cid None h inside = refl
  block_within depth cid (Some block) h inside = read_within depth (record { cid = cid; block = block }) (read cid block) h inside

shown_within : (n most depth : ℕ) (store : Store) → n + depth ≡ most + 1 → (cid : CidParts) → down_to most depth (opened_to n store cid) ≡ opened_to n store cid
shown_within zero most depth store e cid = refl
shown_within (suc n) most depth store e cid =
    block_within most (opened_to n store) depth cid (block_at store cid) (omega (arith, e)) (shown_within n most (depth + 1) store (omega (arith, e)))

-- ---- two stores

views_at : (n : ℕ) (a b : Store) (d : Dag) → down_to n 1 (opened_to n a (root_cid d)) ≡ down_to n 1 d → down_to n 1 (opened_to n b (root_cid d)) ≡ down_to n 1 d
    → opened_to n a (root_cid d) ≡ opened_to n b (root_cid d)
views_at n a b d of_a of_b =
    sym (shown_within n n 1 a refl (root_cid d)) ∙ of_a ∙ sym of_b ∙ shown_within n n 1 b refl (root_cid d)

pub same_views : ShowsDownTo → SameViews
same_views shown a b d sound of_a of_b = views_at 1100 a b d (shown a d 1100 sound of_a (omega arith)) (shown b d 1100 sound of_b (omega arith))

-- the root's block
root_first : (section : Section) (sections : List Section) → Contains (section ∷ sections) section
root_first section sections = Contains-append_left (section ∷ []) sections section (Contains-push [] section)

same_roots : (a b : Store) (d : Dag) → IsSound d → Holds a d → Holds b d → block_at a (root_cid d) ≡ block_at b (root_cid d)
same_roots a b (unopened cid) sound of_a of_b = absurd sound.whole
same_roots a b (bare section fault) sound of_a of_b = absurd sound.whole
same_roots a b (node section kind children) sound of_a of_b =
    let first = root_first section (blocks_of_children children) in of_a.blocks_are section first ∙ sym (of_b.blocks_are section first)

module _ (a b : Store) (head : RequestHead) (q : QueryParts) (views : store_view a q.root ≡ store_view b q.root) (roots : block_at a q.root ≡ block_at b q.root) where
  sent_alike : sent_dag a q.root ≡ sent_dag b q.root
  sent_alike = ap (down_to 512 1) views

  found_alike : (d : Dag) (form : Form) → found_reply a head q d form ≡ found_reply b head q d form
  found_alike d forms.Raw = refl
  found_alike d forms.Car = ap (λ (s : Dag). car_reply head true q (block_list q s) (is_cut (traversal q s).end)) sent_alike

  absence_alike : absence_reply a head q ≡ absence_reply b head q
  absence_alike = ap (λ (s : Dag). car_reply head false q (block_list q s) (is_cut_on_path (traversal q s).end)) sent_alike

  missed_alike : (stop : Stop) → missed_reply a head q stop ≡ missed_reply b head q stop
  missed_alike (not_there i) = absence_alike
  missed_alike (not_folder i) = absence_alike
  missed_alike (gone spot) = ap (λ (found : Option (List ℕ)). refused_request head (gone_refusal found)) roots
  missed_alike (bad_block spot fault) = refl

  end_alike : (end : PathEnd) → reply_at a head q end ≡ reply_at b head q end
  end_alike (terminal d) = found_alike d q.form
  end_alike (not_reached stop) = missed_alike stop

  query_alike : reply_to a head (Ok q) ≡ reply_to b head (Ok q)
  query_alike =
      end_alike (path_walk q.path (store_view a q.root)).end ∙ ap (λ (s : Dag). reply_at b head q (path_walk q.path s).end) views

pub same_replies : SameViews → SameReplies
same_replies views a b d head q sound of_a of_b asks root =
    let seen : store_view a q.root ≡ store_view b q.root = subst (λ (cid : CidParts). store_view a cid ≡ store_view b cid) (sym root) (views a b d sound of_a of_b) in
    let roots : block_at a q.root ≡ block_at b q.root = subst (λ (cid : CidParts). block_at a cid ≡ block_at b cid) (sym root) (same_roots a b d sound of_a of_b) in
    ap (reply_to a head) asks ∙ query_alike a b head q seen roots ∙ sym (ap (reply_to b head) asks)
