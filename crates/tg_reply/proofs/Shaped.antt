-- What is sent over a store that tells its blocks has the shape of what is sent over one that tells nothing.
use Rattle.std.proofs.Common.{◌≡◌, ℕ, zero, suc, ◌≤◌, true, false, All, Contains, List, [], ◌∷◌, None, Ok, Err, Option, Result, Some, inl, inr, length, refl, sym, ap, subst, ◌∙◌, arith}
use Rattle.std.specs.Prelude.{take, ◌≢◌}
use Rattle.std.proofs.lemmas.List.{length-take-le}
use Rattle.std.proofs.lemmas.List.Elements.{All-contains, All-contains_itself, All-take, All-weaker}
use Rattle.tg_cid.specs.Cid.{CidParts}
use Rattle.tg_cid.specs.Names.{IsDigestOf}
use Rattle.tg_cid.specs.Spelling.{CidBytes, IsDigestSize}
use Rattle.tg_cid.specs.declared.cid.HashKind.{HashKind}
use Rattle.tg_cid.specs.declared.cid.HashKind.TheVariants.{Sha256, Identity}
use Rattle.tg_http.specs.declared.request.RequestHead.{RequestHead}
use Rattle.tg_model_laws.specs.SentSections.{sent_asked, sent_held}
use Rattle.tg_model.specs.Answer.{block_of}
use Rattle.tg_model.specs.Computed.{read}
use Rattle.tg_model.specs.Dag.{Dag, Section, links_of}
use Rattle.tg_model.specs.PathWalk.{PathEnd, bad_block, gone, not_folder, not_reached, not_there, path_walk, terminal, walk_from}
use Rattle.tg_model.specs.Queries.{QueryParts}
use Rattle.tg_model.specs.Sound.{top}
use Rattle.tg_model.specs.StoreView.{block_at, block_by, children_by, opened_to, read_as, store_view, with_block}
use Rattle.tg_model.specs.Stores.{IsNamedBlock, IsStore, Store}
use Rattle.tg_model.specs.Traversal.{block_list, is_asked, is_hashed, opened_list, traversal}
use Rattle.tg_model.specs.declared.fault.BlockFault.{BlockFault}
use Rattle.tg_model.specs.declared.kinds.Kind.{Kind}
use Rattle.tg_model.specs.declared.queries.Form.{Form}
use Rattle.tg_model.specs.declared.queries.Form.TheVariants as forms
use Rattle.tg_reply.specs.Asked.{asked}
use Rattle.tg_reply.specs.AskedReadings.{AskedRawHasNoPath, AskedSpells, TargetsAreBytes}
use Rattle.tg_reply.specs.Replies.{found_reply, gone_refusal, is_cut, is_cut_on_path, reply_at, reply_to, sent_dag}
use Rattle.tg_reply.specs.Streams.{BeginsRequest}
use Rattle.tg_reply.specs.declared.refusal.Refusal.{Refusal}
use Rattle.tg_reply.specs.declared.refusal.Refusal.TheVariants as refusals
use Rattle.tg_reply.specs.SentLaws.{SentIsShaped}
use Rattle.tg_reply.specs.Sent.{SendsSections, Sent, SentFor, bad_head, before_head, behind_sections, broken_behind, broken_reply, exact, is_found, last, limit, next, no_more, quiet}
use Rattle.tg_reply.specs.Shapes.{IsGood, IsOfPath, ShapedFor, broken_car, broken_path, car_of, raw_block, refused_ask, refused_path}
use Rattle.tg_reply.proofs.Joins.{false_true, true_false}
use Rattle.tg_model_laws.specs.OpenedSections.{Opened, OpenedChildren, cut_opened, traversal_opened}

-- ---- a walk along no path

-- it leads to the root's block, or stops as this isn't found; never is an entry missing, or a block unreadable
abbrev IsAtRoot : Option (List ℕ) → PathEnd → Type 0
IsAtRoot found (terminal d) = found ≡ Some (block_of d)
IsAtRoot found (not_reached (not_there i)) = ⊥
IsAtRoot found (not_reached (not_folder i)) = ⊥
IsAtRoot found (not_reached (gone spot)) = found ≡ None
IsAtRoot found (not_reached (bad_block spot fault)) = ⊥

module _ (store : Store) where
  -- from a block, whatever it is read as
  read_root : (opened : CidParts → Dag) (section : Section) (r : Result Kind BlockFault)
      → IsAtRoot (Some section.block) (walk_from 0 top 1 [] (read_as opened section r)).end
  read_root opened section (Ok kind) = refl
  read_root opened section (Err fault) = refl

  -- from a CID with the block that is found for it
  block_root : (opened : CidParts → Dag) (cid : CidParts) (found : Option (List ℕ)) → IsAtRoot found (walk_from 0 top 1 [] (with_block opened cid found)).end
  block_root opened cid None = refl
  block_root opened cid (Some block) = read_root opened (record { cid = cid; block = block }) (read cid block)

  -- where the path of a query is empty, the walk along it does
  at_root : (q : QueryParts) (end : PathEnd) → q.path ≡ [] → (path_walk q.path (store_view store q.root)).end ≡ end → IsAtRoot (block_at store q.root) end
  at_root q end e w =
      let walked : (path_walk [] (store_view store q.root)).end ≡ end =
      ap (λ (path : List (List ℕ)). (path_walk path (store_view store q.root)).end) (sym e) ∙ w in
      subst (IsAtRoot (block_at store q.root)) walked (block_root (opened_to 1099 store) q.root (block_at store q.root))

  -- so a path that leads to no terminal, where sections are sent all the same, isn't empty
  some_path : (q : QueryParts) (end : PathEnd) → (path_walk q.path (store_view store q.root)).end ≡ end → SendsSections end → is_found end ≡ false → q.path ≢ []
  some_path q (terminal d) w sends e = absurd (true_false e)
  some_path q (not_reached (not_there i)) w sends e = λ empty. at_root q (not_reached (not_there i)) empty w
  some_path q (not_reached (not_folder i)) w sends e = λ empty. at_root q (not_reached (not_folder i)) empty w
  some_path q (not_reached (gone spot)) w sends e = absurd sends
  some_path q (not_reached (bad_block spot fault)) w sends e = absurd sends

  -- ---- what a store shows

  -- the store leads from the section's CID to its block
  abbrev Leads : Section → Type 0
  Leads section = block_at store section.cid ≡ Some section.block

  -- so it does for children
  children_lead : (opened : CidParts → Dag) → ((cid : CidParts) → Opened Leads (opened cid)) → (cids : List CidParts) → OpenedChildren Leads (children_by opened cids)
  children_lead opened each [] = tt
  children_lead opened each (cid ∷ cids) = (each cid, children_lead opened each cids)

  -- for a CID with its block
  block_leads : (opened : CidParts → Dag) → ((cid : CidParts) → Opened Leads (opened cid)) → (cid : CidParts) (found : Option (List ℕ)) → block_at store cid ≡ found
      → Opened Leads (with_block opened cid found)
  block_leads opened each cid None e = tt
  block_leads opened each cid (Some block) e = by_kind (read cid block)
    where
      by_kind : (r : Result Kind BlockFault) → Opened Leads (read_as opened (record { cid = cid; block = block }) r)
      by_kind (Ok kind) = (e, children_lead opened each (links_of kind))
      by_kind (Err fault) = e

  -- for all that is shown of a CID
  opened_leads : (n : ℕ) (cid : CidParts) → Opened Leads (opened_to n store cid)
  opened_leads zero cid = tt
  opened_leads (suc n) cid = block_leads (opened_to n store) (opened_leads n) cid (block_at store cid) refl

  -- and so for each section that a query opens
  all_lead : (q : QueryParts) → All Leads (opened_list q (sent_dag store q.root))
  all_lead q = traversal_opened Leads q (sent_dag store q.root) (cut_opened Leads 512 1 (store_view store q.root) (opened_leads 1100 q.root))

  -- ---- the blocks are named by their CIDs

  module _ (s : IsStore store) where
    -- a stored block under a CID with sha2-256 is named by it
    hashed_named : (x : Section) → Leads x → is_hashed x.cid.hash ≡ true → IsNamedBlock x.cid (Some x.block)
    hashed_named x e hashed = by x.cid.hash e hashed
      where
        by : (hash : HashKind) → block_by hash x.cid.digest (store x.cid) ≡ Some x.block → is_hashed hash ≡ true → IsNamedBlock x.cid (Some x.block)
        by Sha256 found h = (s.named x.cid x.block found, s.small x.cid x.block found)
        by Identity found h = absurd (false_true h)

    -- the sections of a query for a CAR are asked for, and named by their CIDs
    sections_good : (q : QueryParts) → q.form ≡ forms.Car → All (IsGood q) (block_list q (sent_dag store q.root))
    sections_good q car =
        let d = sent_dag store q.root in
        All-weaker (Contains (block_list q d)) (IsGood q)
        (λ (x : Section) (h : Contains (block_list q d) x). let is_sent = sent_asked q (opened_list q d) x h in (
          is_sent,
          hashed_named x (All-contains Leads (opened_list q d) x (all_lead q) (sent_held q (opened_list q d) x h)) (is_asked_hashed q x.cid car is_sent),
        ))
        (block_list q d) (All-contains_itself (block_list q d))
      where
        is_asked_hashed : (q : QueryParts) (cid : CidParts) → q.form ≡ forms.Car → is_asked q cid ≡ true → is_hashed cid.hash ≡ true
        is_asked_hashed q cid car a = rw car at a

    -- the digest of an identity CID is short
    digest_short : (cid : CidParts) (name : List ℕ) → cid.hash ≡ Identity → CidBytes cid name → length cid.digest ≤ 128
    digest_short cid name e (inl v0) = absurd (cc (e, v0.hash))
    digest_short cid name e (inr v1) = subst (λ (k : HashKind). IsDigestSize k (length cid.digest)) e v1.size

    -- the block that a root leads to
    root_named : (cid : CidParts) (name block : List ℕ) → CidBytes cid name → block_at store cid ≡ Some block → IsNamedBlock cid (Some block)
    root_named cid name block spelled e = by cid.hash refl e
      where
        by : (hash : HashKind) → cid.hash ≡ hash → block_by hash cid.digest (store cid) ≡ Some block → IsNamedBlock cid (Some block)
        by Sha256 h found = (s.named cid block found, s.small cid block found)
        by Identity h found =
            let same : cid.digest ≡ block = cc in
            (subst (λ (k : HashKind). IsDigestOf k cid.digest block) (sym h) same, omega (arith, ap length same, digest_short cid name h spelled))

    -- ---- the reply to one head

    module _ (bare : AskedRawHasNoPath) (head : RequestHead) (spelled : (q : QueryParts) → asked head ≡ Ok q → (name : List ℕ) × CidBytes q.root name) where
      -- a CID that leads to no block has sha2-256
      unfound : (cid : CidParts) → block_at store cid ≡ None → cid.hash ≡ Sha256
      unfound cid e = by cid.hash e
        where
          by : (hash : HashKind) → block_by hash cid.digest (store cid) ≡ None → hash ≡ Sha256
          by Sha256 none = refl
          by Identity none = cc

      -- what isn't stored is a refusal of the root, or of a path that isn't empty
      of_path : (q : QueryParts) (found : Option (List ℕ)) → block_at store q.root ≡ found → (q.path ≡ [] → found ≡ None) → IsOfPath q (gone_refusal found)
      of_path q None e at = unfound q.root e
      of_path q (Some block) e at = λ empty. some_none block (at empty)
        where
          some_none : (block : List ℕ) → Some block ≡ None → ⊥
          some_none block e = cc

      -- a query whose path isn't empty is for a CAR
      car_only : (q : QueryParts) → asked head ≡ Ok q → q.path ≢ [] → q.form ≡ forms.Car
      car_only q a some = by q.form refl
        where
          by : (form : Form) → q.form ≡ form → q.form ≡ forms.Car
          by forms.Car e = e
          by forms.Raw e = absurd (some (bare head q a e))

      -- the reply to a query whose path leads to a terminal
      found_shaped : (before : ℕ) (q : QueryParts) (d : Dag) (form : Form) → asked head ≡ Ok q → q.form ≡ form
          → (path_walk q.path (store_view store q.root)).end ≡ terminal d → ShapedFor head (quiet (found_reply store head q d form) before)
      found_shaped before q d forms.Raw a e w =
          let name = spelled q a in
          raw_block q (block_of d) before a e (root_named q.root name.0 (block_of d) name.1 (at_root q (terminal d) (bare head q a e) w))
      found_shaped before q d forms.Car a e w =
          car_of q true (is_cut (traversal q (sent_dag store q.root)).end) (block_list q (sent_dag store q.root)) before a e (λ none. absurd (true_false none)) (sections_good q e)

      -- the reply to one whose path leads nowhere, and so isn't empty
      absence_shaped : (before : ℕ) (q : QueryParts) → asked head ≡ Ok q → q.path ≢ [] → ShapedFor head (quiet (reply_at store head q (not_reached (not_there 0))) before)
      absence_shaped before q a some =
          let car = car_only q a some in
          car_of q false (is_cut_on_path (traversal q (sent_dag store q.root)).end) (block_list q (sent_dag store q.root)) before a car (λ none. some) (sections_good q car)

      -- the reply by the end of the path
      end_shaped : (before : ℕ) (q : QueryParts) (end : PathEnd) → asked head ≡ Ok q → (path_walk q.path (store_view store q.root)).end ≡ end
          → ShapedFor head (quiet (reply_at store head q end) before)
      end_shaped before q (terminal d) a w = found_shaped before q d q.form a refl w
      end_shaped before q (not_reached (not_there i)) a w = absence_shaped before q a (some_path q (not_reached (not_there i)) w tt refl)
      end_shaped before q (not_reached (not_folder i)) a w = absence_shaped before q a (some_path q (not_reached (not_folder i)) w tt refl)
      end_shaped before q (not_reached (gone spot)) a w =
          let found = block_at store q.root in
          refused_path q (gone_refusal found) before a (of_path q found refl (λ empty. at_root q (not_reached (gone spot)) empty w))
      end_shaped before q (not_reached (bad_block spot fault)) a w =
          refused_path q refusals.BadBlock before a (λ empty. at_root q (not_reached (bad_block spot fault)) empty w)

      -- the reply by what is asked
      exact_shaped : (before : ℕ) (answer : Result QueryParts Refusal) → asked head ≡ answer → ShapedFor head (quiet (reply_to store head answer) before)
      exact_shaped before (Err refusal) a = refused_ask refusal before a
      exact_shaped before (Ok q) a = end_shaped before q (path_walk q.path (store_view store q.root)).end a refl

      -- what is sent, whole or broken off
      for_shaped : (sent : Sent) → SentFor store head sent → ShapedFor head sent
      for_shaped sent (exact before) = exact_shaped before (asked head) refl
      for_shaped sent (before_head q before now a r) = broken_path q before now a (inl r)
      for_shaped sent (behind_sections q count before now b r) =
          let sections = block_list q (sent_dag store q.root) in
          let end = (path_walk q.path (store_view store q.root)).end in
          subst (λ (n : ℕ). ShapedFor head (record { reply = broken_reply store head q count; course = broken_behind n; faults_before = before; faults_now = now }))
          (length-take-le count sections b.within)
          (broken_car q (is_found end) (take count sections) before now b.asked_is b.car b.by_get (some_path q end refl b.sends)
          (All-take (IsGood q) count sections (sections_good q b.car)) (inl r))

-- ---- one request after another

module _ (targets : TargetsAreBytes) (asks : AskedSpells) (bare : AskedRawHasNoPath) where
  -- the root of a query that a request asks is spelled
  root_spelled : (bytes rest : List ℕ) (head : RequestHead) → BeginsRequest bytes head rest → (q : QueryParts) → asked head ≡ Ok q → (name : List ℕ) × CidBytes q.root name
  root_spelled bytes rest head b q a = let spelled = asks head q (targets bytes rest head b) a in (spelled.name, spelled.root)

  -- so each reply that is sent has the shape
  pub shaped : SentIsShaped
  shaped store fed rest sent s (no_more b) = no_more b
  shaped store fed rest sent s (limit b before h) = limit b before h
  shaped store fed rest sent s (bad_head b before h) = bad_head b before h
  shaped store fed rest sent s (last b r head t begins f e) = last b r head t begins (for_shaped store s bare head (root_spelled b r head begins) t f) e
  shaped store fed rest sent s (next b r behind head t more begins f e all) =
      next b r behind head t more begins (for_shaped store s bare head (root_spelled b r head begins) t f) e (shaped store r behind more s all)
