-- The replies to GET for what is asked read back, over a store of bytes.
use Rattle.std.proofs.Common.{◌≡◌, ◌⊎◌, Bool, true, ℕ, zero, suc, ◌≤◌, false, List, inl, inr, length, refl, sym, ap, subst, ◌∙◌, arith}
use Rattle.tg_cid.specs.Limits.{max_block_len}
use Rattle.tg_http.specs.declared.framing.Framing.TheVariants.{Chunked, Length, UntilClose}
use Rattle.tg_http.specs.declared.request.RequestHead.{RequestHead}
use Rattle.tg_model.specs.Answer.{block_of}
use Rattle.tg_model.specs.Dag.{Dag, Section}
use Rattle.tg_model.specs.PathWalk.{PathEnd, bad_block, gone, not_folder, not_reached, not_there, path_walk, terminal}
use Rattle.tg_model.specs.Queries.{QueryParts}
use Rattle.tg_model.specs.StoreView.{block_at, store_view}
use Rattle.tg_model.specs.Stores.{Store}
use Rattle.tg_model.specs.Traversal.{block_list, traversal}
use Rattle.tg_model.specs.declared.queries.Form.{Form}
use Rattle.tg_model.specs.declared.queries.Form.TheVariants as forms
use Rattle.tg_query.specs.Accepts.{raw_type}
use Rattle.tg_reply.specs.Asked.{is_head}
use Rattle.tg_reply.specs.AskedReadings.{AskedRepliesRead, AskedSpells, CarIsRead, EndIsRead, FoundIsRead, IsAskedByGet, IsByteStore, IsSpelledQuery, SentSpelled, TargetsAreBytes, TextIsRead, car_framing}
use Rattle.tg_reply.specs.Readings.{CarReads, IsCarRead, IsGet, RawReads, Reads, RefusalsRead}
use Rattle.tg_reply.specs.declared.refusal.Refusal.{Refusal}
use Rattle.tg_reply.specs.declared.refusal.Refusal.TheVariants.{BadBlock}
use Rattle.tg_reply.specs.Replies.{Reply, car_reply, found_reply, gone_refusal, is_cut, is_cut_on_path, raw_reply, refused_request, reply, reply_at, reply_to, sent_dag}

-- of a store of bytes, each terminal has a block that isn't too long
abbrev pub SmallTerminals : Type 0
SmallTerminals = (store : Store) (q : QueryParts) (d : Dag) → IsByteStore store → IsSpelledQuery q → (path_walk q.path (store_view store q.root)).end ≡ terminal d
    → length (block_of d) ≤ max_block_len

module _ (refusals : RefusalsRead) (raw : RawReads) (cars : CarReads) (sent : SentSpelled) (small : SmallTerminals) (store : Store) (head : RequestHead) (q : QueryParts)
    (s : IsByteStore store) (a : IsAskedByGet store head q) (spelled : IsSpelledQuery q) where
  no_head : is_head head.method ≡ false
  no_head = ap is_head a.method

  by_get : IsGet head q
  by_get = record { method = no_head; name = spelled.name; root = spelled.root; names = spelled.names }

  fits_as : (r : Reply) → reply store head ≡ r → length r.head ≤ 16384
  fits_as r e = subst (λ (x : Reply). length x.head ≤ 16384) e a.fits

  text_read : (refusal : Refusal) → reply store head ≡ refused_request head refusal → TextIsRead (reply store head) refusal
  text_read refusal e = subst (λ (x : Reply). TextIsRead x refusal) (sym e) (refusals head refusal no_head)

  raw_read : (d : Dag) → length (block_of d) ≤ max_block_len → reply store head ≡ raw_reply head q (block_of d)
      → Reads (reply store head) raw_type (Length (length (block_of d))) (block_of d)
  raw_read d few e =
      subst (λ (x : Reply). Reads x raw_type (Length (length (block_of d))) (block_of d)) (sym e)
      (raw head q (block_of d) by_get (omega (arith, few)) (fits_as (raw_reply head q (block_of d)) e))

  abbrev sections : List Section
  sections = block_list q (sent_dag store q.root)

  -- the minor version is 0 or 1
  minor_is : (head.minor ≡ 1) ⊎ (head.minor ≡ 0)
  minor_is = by_number head.minor (subst (λ (n : ℕ). n ≤ 1) (sym a.begins.told.minor_is) a.begins.is_request.reads.0.minor)
    where
      by_number : (n : ℕ) → n ≤ 1 → (n ≡ 1) ⊎ (n ≡ 0)
      by_number zero h = inr refl
      by_number (suc n) h = inl (omega (arith, h))

  car_read : (found : Bool) → reply store head ≡ car_reply head found q sections false → CarIsRead (reply store head) q sections (car_framing head.minor)
  car_read found e = by_minor minor_is (cars head found q sections by_get (sent store q spelled.name s spelled.root) (fits_as (car_reply head found q sections false) e))
    where
      by_minor : (head.minor ≡ 1) ⊎ (head.minor ≡ 0) → (head.minor ≡ 1 → IsCarRead head found q sections Chunked) × (head.minor ≡ 0 → IsCarRead head found q sections UntilClose)
          → CarIsRead (reply store head) q sections (car_framing head.minor)
      by_minor (inl one) both =
          let c = both.0 one in
          subst (λ (n : ℕ). CarIsRead (reply store head) q sections (car_framing n)) (sym one)
          (subst (λ (x : Reply). CarIsRead x q sections Chunked) (sym e) (record { reads = c.reads; car = c.car }))
      by_minor (inr none) both =
          let c = both.1 none in
          subst (λ (n : ℕ). CarIsRead (reply store head) q sections (car_framing n)) (sym none)
          (subst (λ (x : Reply). CarIsRead x q sections UntilClose) (sym e) (record { reads = c.reads; car = c.car }))

  -- a CAR that isn't cut
  uncut_read : (found cut : Bool) → reply store head ≡ car_reply head found q sections cut → (reply store head).cut ≡ false → CarIsRead (reply store head) q sections (car_framing head.minor)
  uncut_read found cut e uncut =
      let same : cut ≡ (car_reply head found q sections cut).cut = rw no_head refl in
      let none : cut ≡ false = same ∙ ap (λ (x : Reply). x.cut) (sym e) ∙ uncut in
      car_read found (e ∙ ap (car_reply head found q sections) none)

  found_read : (d : Dag) (form : Form) → length (block_of d) ≤ max_block_len → reply store head ≡ found_reply store head q d form → FoundIsRead store head q d form
  found_read d forms.Raw few e = raw_read d few e
  found_read d forms.Car few e = uncut_read true (is_cut (traversal q (sent_dag store q.root)).end) e

  end_read : (end : PathEnd) → (path_walk q.path (store_view store q.root)).end ≡ end → reply store head ≡ reply_at store head q end → EndIsRead store head q end
  end_read (terminal d) w e = found_read d q.form (small store q d s spelled w) e
  end_read (not_reached (not_there i)) w e = uncut_read false (is_cut_on_path (traversal q (sent_dag store q.root)).end) e
  end_read (not_reached (not_folder i)) w e = uncut_read false (is_cut_on_path (traversal q (sent_dag store q.root)).end) e
  end_read (not_reached (gone spot)) w e = text_read (gone_refusal (block_at store q.root)) e
  end_read (not_reached (bad_block spot fault)) w e = text_read BadBlock e

  whole_read : EndIsRead store head q (path_walk q.path (store_view store q.root)).end
  whole_read = end_read (path_walk q.path (store_view store q.root)).end refl (ap (reply_to store head) a.asked_is)

pub asked_read : RefusalsRead → RawReads → CarReads → SentSpelled → SmallTerminals → AskedSpells → TargetsAreBytes → AskedRepliesRead
asked_read refusals raw cars sent small asks targets store head q s a =
    whole_read refusals raw cars sent small store head q s a (asks head q (targets a.bytes a.rest head a.begins) a.asked_is)
